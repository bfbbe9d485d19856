-- A program given as lists is lawful where the tests of the lists say so.
use Rattle.std.proofs.Common.{◌≡◌, ℕ, zero, suc, ◌+◌, ◌<◌, ◌^◌, ◌⊎◌, Bool, true, false, ◌&&◌, ◌||◌, List, [], ◌∷◌, length, ◌==◌, nat_lt, Option, Some, None, get_or, add-one, ltb-true, eqb-true, refl, sym, subst, inl, inr, ⊎_elim, arith}
use Rattle.std.specs.List.Sorted.{IsStrictlyIncreasing}
use Rattle.std.specs.Option.{option_map, option_map_or, is_some}
use Rattle.std.proofs.lemmas.Bool.{false≢true}
use Rattle.std.proofs.lemmas.List.Sums.{AllPass-from_list_all}
use Rattle.cfg_model.specs.declared.flow.Flow.{Flow}
use Rattle.cfg_model.specs.declared.flow.Flow.TheVariants.{Straight, Branch, Jump, Call, IndirectCall, Table, Return, Unknown, Stop}
use Rattle.cfg_model.specs.Program.Successors.{Calls, MayLand}
use Rattle.cfg_model.specs.Program.Instructions.{Instruction, IsLawful, IsLawfulAt, FlowFits, named_by, targets_at}
use Rattle.cfg_model.specs.Program.Reach.{AreSeeds}
use Rattle.test_programs.specs.Listed.{Place, slot_at, kept_by, listed_at, are_known, flow_fits, slot_fits, slots_fit, are_lawful, rises_from, are_seeds}

option_map_some : {A B : Type 0} (f : A → B) (o : Option A) (y : B) → option_map f o ≡ Some y → (x : A) × (o ≡ Some x) × (f x ≡ y)
option_map_some f None y h = cc
option_map_some f (Some x) y h = (x, refl, cc)

and_true : (a b : Bool) → (a && b) ≡ true → (a ≡ true) × (b ≡ true)
and_true true b h = (refl, h)
and_true false b h = absurd (false≢true h)

or_true : (a b : Bool) → (a || b) ≡ true → (a ≡ true) ⊎ (b ≡ true)
or_true true b h = inl refl
or_true false b h = inr h

module _ (slots : List Place) (targets : List ℕ) where
  abbrev Fits : ℕ → Place → Type 0
  Fits a s = slot_fits slots targets a s ≡ true

  fits_at : (a : ℕ) (rest : List Place) (k : ℕ) (s : ℕ × Flow) → slots_fit slots targets a rest ≡ true → slot_at rest k ≡ Some s → Fits (a + k) (Some s)
  fits_at a [] k s h e = cc
  fits_at a (x ∷ rest) zero s h e =
      let here : a + 0 ≡ a = omega arith in
      subst (λ b. Fits b (Some s)) (sym here) (subst (Fits a) e (and_true (slot_fits slots targets a x) (slots_fit slots targets (suc a) rest) h).0)
  fits_at a (x ∷ rest) (suc k) s h e =
      let next : suc a + k ≡ a + suc k = omega arith in
      subst (λ b. Fits b (Some s)) next (fits_at (suc a) rest k s (and_true (slot_fits slots targets a x) (slots_fit slots targets (suc a) rest) h).1 e)

  abbrev made : ℕ × Flow → Instruction
  made s = record { bytes = s.0; flow = s.1; targets = kept_by targets s.1 }

  table_fits : (entries : ℕ) → ((entries == length targets) && nat_lt 0 entries) ≡ true → (entries ≡ length targets) × (0 < entries)
  table_fits entries h =
      let both = and_true (entries == length targets) (nat_lt 0 entries) h in
      (eqb-true entries (length targets) both.0, ltb-true 0 entries both.1)

  flow_from_fits : (a bytes : ℕ) (flow : Flow) → flow_fits targets (a + bytes) flow ≡ true → FlowFits a (made (bytes, flow)) flow
  flow_from_fits a bytes (Straight next) h = (eqb-true next (a + bytes) h, refl)
  flow_from_fits a bytes (Branch taken fall) h = refl
  flow_from_fits a bytes (Jump target) h = refl
  flow_from_fits a bytes (Call target fall) h = omega arith
  flow_from_fits a bytes (IndirectCall fall) h = omega arith
  flow_from_fits a bytes (Table entries full is_open) h = table_fits entries h
  flow_from_fits a bytes Return h = refl
  flow_from_fits a bytes Unknown h = refl
  flow_from_fits a bytes Stop h = refl

  slot_lawful : (a : ℕ) (s : ℕ × Flow) → Fits a (Some s) → IsLawfulAt (listed_at slots targets) a (made s)
  slot_lawful a s h =
      let kept = and_true _ (are_known slots targets (kept_by targets s.1)) h in
      let named = and_true _ (are_known slots targets (named_by s.1)) kept.0 in
      let middle = and_true _ (flow_fits targets (a + s.0) s.1) named.0 in
      let size = and_true _ _ middle.0 in
      record {
        size = ⊎_elim (λ two. inl (eqb-true s.0 2 two)) (λ four. inr (eqb-true s.0 4 four)) (or_true _ _ size.0);
        ends = ltb-true (a + s.0) (2 ^ 64) size.1;
        fits = flow_from_fits a s.0 s.1 middle.1;
        named = AllPass-from_list_all (λ b. is_some (listed_at slots targets b)) (named_by s.1) named.1;
        kept = AllPass-from_list_all (λ b. is_some (listed_at slots targets b)) (kept_by targets s.1) kept.1;
      }

  pub list_lawful : are_lawful slots targets ≡ true → IsLawful (listed_at slots targets)
  list_lawful h a i at =
      let s = option_map_some made (slot_at slots a) i at in
      let zero_a : 0 + a ≡ a = omega arith in
      subst (IsLawfulAt (listed_at slots targets) a) s.2
      (slot_lawful a s.0 (subst (λ b. Fits b (Some s.0)) zero_a (fits_at 0 slots a s.0 h s.1)))

  -- a call keeps nothing

  flow_lands : (flow : Flow) → Calls (Some flow) → kept_by targets flow ≡ []
  flow_lands (Straight next) calls = refl
  flow_lands (Branch taken fall) calls = refl
  flow_lands (Jump target) calls = refl
  flow_lands (Call target fall) calls = refl
  flow_lands (IndirectCall fall) calls = refl
  flow_lands (Table entries full is_open) calls = absurd calls
  flow_lands Return calls = refl
  flow_lands Unknown calls = refl
  flow_lands Stop calls = refl

  slot_lands : (slot : Place) → Calls (option_map (λ (x : Instruction). x.flow) (option_map made slot)) → option_map_or (λ (x : Instruction). x.targets) (option_map made slot) [] ≡ []
  slot_lands None calls = absurd calls
  slot_lands (Some s) calls = flow_lands s.1 calls

  pub lands_nowhere : (a : ℕ) → MayLand (listed_at slots targets) a → targets_at (listed_at slots targets) a ≡ []
  lands_nowhere a calls = slot_lands (slot_at slots a) calls

-- a list is one of seeds where the test says so

next_rises : (a : ℕ) (more : List ℕ) → rises_from a more ≡ true → (k : ℕ) → suc k < length (a ∷ more) → get_or (a ∷ more) k 0 < get_or (a ∷ more) (suc k) 0
next_rises a [] h k lt = absurd (omega arith)
next_rises a (b ∷ rest) h zero lt = ltb-true a b (and_true (nat_lt a b) (rises_from b rest) h).0
next_rises a (b ∷ rest) h (suc k) lt = next_rises b rest (and_true (nat_lt a b) (rises_from b rest) h).1 k (omega arith)

rises : (a : ℕ) (more : List ℕ) → rises_from a more ≡ true → IsStrictlyIncreasing (a ∷ more)
rises a more h = λ k lt. rw add-one (next_rises a more h k (omega arith))

pub list_seeds : (slots : List Place) (targets seeds : List ℕ) → are_seeds slots targets seeds ≡ true → AreSeeds (listed_at slots targets) seeds
list_seeds slots targets [] h = cc
list_seeds slots targets (a ∷ rest) h =
    let both = and_true (rises_from a rest) (are_known slots targets (a ∷ rest)) h in
    record {
      rising = rises a rest both.0;
      some = omega arith;
      known = AllPass-from_list_all (λ b. is_some (listed_at slots targets b)) (a ∷ rest) both.1;
    }
