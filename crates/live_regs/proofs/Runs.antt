-- The instructions of a block, one after another.
use Rattle.std.proofs.Common.{◌≡◌, ℕ, zero, suc, ◌+◌, ◌-◌, ◌<◌, ◌≤◌, ◌==◌, ◌%◌, ◌/◌, ◌&&◌, ◌||◌, ◌⊎◌, not, nat_lt, Bool, true, false, List, [], ◌∷◌, Option, Some, None, refl, sym, ap, ◌∙◌, ⊎_elim, arith}
use Rattle.std.specs.Prelude.{if◌then◌else◌}
use Rattle.std.specs.Option.{option_map_or}
use Rattle.std.proofs.lemmas.Bool.{cond_both, cond-true, cond-false, lt-ltb, le-ltb}
use Rattle.elf_image.specs.Architecture.{extensions_of}
use Rattle.elf_image.specs.Code.{half_at, word_at}
use Rattle.rv_decode.specs.declared.instructions.Insn.{Insn}
use Rattle.rv_flow.specs.declared.placed.Placed.{Placed}
use Rattle.rv_flow.specs.Placed.{placed_at, placed_by, whole, whole_insn, bad}
use Rattle.mask_flow.specs.Reaches.{has_bit}
use Rattle.live_regs.specs.declared.effects.Effects.{Effects}
use Rattle.live_regs.specs.Effects.{as_read, reads, writes}
use Rattle.live_regs.specs.Noted.{AreEffectsOf}
use Rattle.live_regs.specs.Run.{placed_from, reads_first, run_writes}
use Rattle.live_regs.proofs.Bits.{zero_bit}

module _ (bytes : List ℕ) where
  -- an instruction has some bytes
  whole_some : (insn : Option Insn) → 0 < (whole insn).length
  whole_some None = omega arith
  whole_some (Some insn) = omega arith

  by_half : (a : ℕ) (half : Option ℕ) → 0 < (option_map_or (placed_by (extensions_of bytes) bytes a) half bad).length
  by_half a None = omega arith
  by_half a (Some half) =
      cond_both (half % 4 == 3) _ _ (λ (p : Placed). 0 < p.length)
      (λ _. cond_both (half / 4 % 8 == 7) bad (whole (whole_insn (extensions_of bytes) (word_at bytes a))) (λ (p : Placed). 0 < p.length) (λ _. omega arith) (λ _. whole_some (whole_insn (extensions_of bytes) (word_at bytes a))))
      (λ _. omega arith)

  pub some_bytes : (a : ℕ) → 0 < (placed_at bytes a).length
  some_bytes a = by_half a (half_at bytes a)

  module _ (end : ℕ) where
    pub none_from : (most a : ℕ) → end ≤ a → placed_from bytes end most a ≡ []
    unfolding placed_from
    none_from zero a h = refl
    none_from (suc most) a h = cond-false (nat_lt a end) _ [] (le-ltb a end h)

    same_from : (n m a : ℕ) → end ≤ a + n → end ≤ a + m → placed_from bytes end n a ≡ placed_from bytes end m a
    unfolding placed_from
    same_from zero m a p q = sym (none_from m a (omega arith))
    same_from (suc n) zero a p q = none_from (suc n) a (omega arith)
    same_from (suc n) (suc m) a p q =
        let some : 0 < (placed_at bytes a).length = some_bytes a in
        ap (λ rest. if nat_lt a end then as_read (extensions_of bytes) (placed_at bytes a) ∷ rest else []) (same_from n m (a + (placed_at bytes a).length) (omega arith) (omega arith))

    first_from : (n a : ℕ) → a < end → placed_from bytes end (suc n) a ≡ as_read (extensions_of bytes) (placed_at bytes a) ∷ placed_from bytes end n (a + (placed_at bytes a).length)
    unfolding placed_from
    first_from n a h = cond-true (nat_lt a end) _ [] (lt-ltb a end h)

    -- the instructions from a on are the one at a, and those from the address behind it on
    pub more_from : (a b : ℕ) → a < end → (b ≡ a + (placed_at bytes a).length) ⊎ ((end ≤ b) × (end ≤ a + (placed_at bytes a).length))
        → placed_from bytes end (end - a) a ≡ as_read (extensions_of bytes) (placed_at bytes a) ∷ placed_from bytes end (end - b) b
    more_from a b h next =
        let some : 0 < (placed_at bytes a).length = some_bytes a in
        let count : end - a ≡ suc (end - a - 1) = omega arith in
        let rest : placed_from bytes end (end - a - 1) (a + (placed_at bytes a).length) ≡ placed_from bytes end (end - b) b =
        ⊎_elim
        (λ (e : b ≡ a + (placed_at bytes a).length). ap (placed_from bytes end (end - a - 1)) (sym e) ∙ same_from (end - a - 1) (end - b) b (omega arith) (omega arith))
        (λ past. none_from (end - a - 1) (a + (placed_at bytes a).length) past.1 ∙ sym (none_from (end - b) b past.0))
        next in
        ap (λ n. placed_from bytes end n a) count ∙ (first_from (end - a - 1) a h ∙ ap (λ r. as_read (extensions_of bytes) (placed_at bytes a) ∷ r) rest)

    -- what was found of the first instructions, and what is left, tell of all of them
    pub record IsToldTo (start a : ℕ) (effects : Effects) : Type 0 where
      pub reads : (r : ℕ) → r < 32 → reads_first (placed_from bytes end (end - start) start) r
          ≡ (has_bit effects.reads r || (not (has_bit effects.writes r) && reads_first (placed_from bytes end (end - a) a) r))
      pub writes : (r : ℕ) → r < 32 → run_writes (placed_from bytes end (end - start) start) r
          ≡ (has_bit effects.writes r || run_writes (placed_from bytes end (end - a) a) r)

    either_none : (x y a b : Bool) → a ≡ false → b ≡ false → x ≡ (a || (not b && x))
    either_none x y true b p q = cc
    either_none x y false true p q = cc
    either_none x y false false p q = refl

    or_none : (x a : Bool) → a ≡ false → x ≡ (a || x)
    or_none x true p = cc
    or_none x false p = refl

    pub told_none : (start : ℕ) (effects : Effects) → effects.reads ≡ 0 → effects.writes ≡ 0 → IsToldTo start start effects
    told_none start effects p q = record {
      reads = λ r low. either_none _ true (has_bit effects.reads r) (has_bit effects.writes r) (ap (λ m. has_bit m r) p ∙ zero_bit r) (ap (λ m. has_bit m r) q ∙ zero_bit r);
      writes = λ r low. or_none _ (has_bit effects.writes r) (ap (λ m. has_bit m r) q ∙ zero_bit r);
    }

    reads_on : (R W rd wr rest : Bool) → (R || (not W && (rd || (not wr && rest)))) ≡ ((R || (not W && rd)) || (not (W || wr) && rest))
    reads_on true W rd wr rest = refl
    reads_on false true rd wr rest = refl
    reads_on false false true wr rest = refl
    reads_on false false false true rest = refl
    reads_on false false false false rest = refl

    writes_on : (W wr rest : Bool) → (W || (wr || rest)) ≡ ((W || wr) || rest)
    writes_on true wr rest = refl
    writes_on false wr rest = refl

    pub told_more : (start a b : ℕ) (old next new : Effects) → a < end → (b ≡ a + (placed_at bytes a).length) ⊎ ((end ≤ b) × (end ≤ a + (placed_at bytes a).length))
        → IsToldTo start a old
        → ((r : ℕ) → r < 32 → has_bit next.reads r ≡ reads (as_read (extensions_of bytes) (placed_at bytes a)) r) → ((r : ℕ) → r < 32 → has_bit next.writes r ≡ writes (as_read (extensions_of bytes) (placed_at bytes a)) r)
        → ((r : ℕ) → r < 32 → has_bit new.reads r ≡ (has_bit old.reads r || (not (has_bit old.writes r) && has_bit next.reads r)))
        → ((r : ℕ) → r < 32 → has_bit new.writes r ≡ (has_bit old.writes r || has_bit next.writes r))
        → IsToldTo start b new
    told_more start a b old next new h step told p q pn qn =
        let run = placed_from bytes end (end - b) b in
        let insn = as_read (extensions_of bytes) (placed_at bytes a) in
        let split = more_from a b h step in
        record {
          reads = λ r low.
              told.reads r low
              ∙ (ap (λ run. has_bit old.reads r || (not (has_bit old.writes r) && reads_first run r)) split
              ∙ (reads_on (has_bit old.reads r) (has_bit old.writes r) (reads insn r) (writes insn r) (reads_first run r)
              ∙ (ap (λ x. (has_bit old.reads r || (not (has_bit old.writes r) && x)) || (not (has_bit old.writes r || writes insn r) && reads_first run r)) (sym (p r low))
              ∙ (ap (λ x. (has_bit old.reads r || (not (has_bit old.writes r) && has_bit next.reads r)) || (not (has_bit old.writes r || x) && reads_first run r)) (sym (q r low))
              ∙ (ap (λ x. x || (not (has_bit old.writes r || has_bit next.writes r) && reads_first run r)) (sym (pn r low))
              ∙ ap (λ x. has_bit new.reads r || (not x && reads_first run r)) (sym (qn r low)))))));
          writes = λ r low.
              told.writes r low
              ∙ (ap (λ run. has_bit old.writes r || run_writes run r) split
              ∙ (writes_on (has_bit old.writes r) (writes insn r) (run_writes run r)
              ∙ (ap (λ x. (has_bit old.writes r || x) || run_writes run r) (sym (q r low))
              ∙ ap (λ x. x || run_writes run r) (sym (qn r low)))));
        }

    ended_reads : (a b : Bool) → (a || (not b && false)) ≡ a
    ended_reads true b = refl
    ended_reads false true = refl
    ended_reads false false = refl

    ended_writes : (a : Bool) → (a || false) ≡ a
    ended_writes true = refl
    ended_writes false = refl

    pub told_all : (start a : ℕ) (effects : Effects) → end ≤ a → IsToldTo start a effects → AreEffectsOf (placed_from bytes end (end - start) start) effects
    told_all start a effects past told =
        let none = none_from (end - a) a past in
        record {
          reads = λ r low. sym (told.reads r low ∙ (ap (λ run. has_bit effects.reads r || (not (has_bit effects.writes r) && reads_first run r)) none ∙ ended_reads (has_bit effects.reads r) (has_bit effects.writes r)));
          writes = λ r low. sym (told.writes r low ∙ (ap (λ run. has_bit effects.writes r || run_writes run r) none ∙ ended_writes (has_bit effects.writes r)));
        }
