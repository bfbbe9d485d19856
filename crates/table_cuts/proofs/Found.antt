-- The bases of the jumps seen so far.
use Rattle.std.proofs.Common.{◌≡◌, ℕ, ◌+◌, ◌<◌, List, [], ◌∷◌, ◌++◌, length, get_or, Some, sym, ap, ◌∙◌, subst, inl, inr, ⊎_elim, arith}
use Rattle.std.specs.Prelude.{Contains}
use Rattle.std.specs.List.Sorted.{IsPermutation}
use Rattle.std.proofs.lemmas.List.{get_or_default}
use Rattle.std.proofs.lemmas.List.Elements.{Contains-get_or, Contains-append_left, Contains-push, Contains-push_cases}
use Rattle.std.proofs.lemmas.List.Sorted.{Contains-permutation, IsPermutation-sym}
use Rattle.std.proofs.lemmas.Option.{same_Some}
use borrow.Author.Count.{below_more}
use Rattle.jump_table.specs.declared.table.Table.{Table}
use Rattle.jump_table.specs.Table.{table_at}
use Rattle.jump_table.proofs.Targets.{is_table}
use Rattle.code_view.specs.declared.table_jump.TableJump.{TableJump}
use Rattle.code_view.specs.Tables.{AreTablesOf, addresses_of}
use Rattle.code_view.proofs.Sought.{same_length, jump_is}
use Rattle.table_cuts.specs.Inner.{IsBaseOf, AreBases}

-- The base of the table of jump k is there.
abbrev pub HasBase : List ℕ → List ℕ → List ℕ → ℕ → Type 0
HasBase bytes jumps bases k = (d : ℕ) (table : Table) → table_at bytes (get_or jumps k d) ≡ Some table → Contains bases table.base

-- What the bases are once the first i jumps were seen.
pub record AreFound (bytes jumps bases : List ℕ) (i : ℕ) : Type 0 where
  pub sound : (b : ℕ) → Contains bases b → IsBaseOf bytes jumps b
  pub complete : (k : ℕ) → k < i → HasBase bytes jumps bases k

module _ (bytes jumps : List ℕ) where
  pub found-none : AreFound bytes jumps [] 0
  found-none = record {
    sound = λ b there. absurd (omega (arith, there.1));
    complete = λ k below d table at. absurd (omega arith);
  }

  module _ (bases : List ℕ) (i e : ℕ) (inside : i < length jumps) (before : AreFound bytes jumps bases i) where
    -- jump i, whichever number stands for what is past the end
    jump_at : (d : ℕ) → get_or jumps i d ≡ get_or jumps i e
    jump_at d = get_or_default jumps i d e inside

    pub found-one : (found : Table) → table_at bytes (get_or jumps i e) ≡ Some found → AreFound bytes jumps (bases ++ found.base ∷ []) (i + 1)
    found-one found is = record {
      sound = λ b there. elim (Contains-push_cases bases found.base b there) [
        | inl earlier ↦ before.sound b earlier
        | inr latest ↦ record { jump = get_or jumps i e; counts = Contains-get_or jumps i e inside; table = found; at_jump = is; base = latest }
      ];
      complete = below_more (HasBase bytes jumps (bases ++ found.base ∷ [])) i
          (λ k below d table at. Contains-append_left bases (found.base ∷ []) table.base (before.complete k below d table at))
          (λ d table at.
          let same : found ≡ table = same_Some found table (sym is ∙ ap (table_at bytes) (sym (jump_at d)) ∙ at) in
          subst (λ (t : Table). Contains (bases ++ found.base ∷ []) t.base) same (Contains-push bases found.base));
    }

-- All jumps seen, and the bases in another order.
pub found-all : (bytes jumps bases ordered : List ℕ) (i : ℕ) → i ≡ length jumps → IsPermutation bases ordered → AreFound bytes jumps bases i → AreBases bytes jumps ordered
found-all bytes jumps bases ordered i all permuted found = record {
  sound = λ b there. found.sound b (Contains-permutation ordered bases b (IsPermutation-sym bases ordered permuted) there);
  complete = λ b is.
      let k = is.counts.0 in
      let below : k < i = omega (arith, is.counts.1) in
      let there = found.complete k below is.jump is.table (ap (table_at bytes) is.counts.2 ∙ is.at_jump) in
      Contains-permutation bases ordered b permuted (subst (Contains bases) is.base there);
}

-- ---- with the tables that were found

module _ (jumps : List TableJump) where
  module _ (i e : ℕ) (d : TableJump) (inside : i < length jumps) where
    pub table_is : (bytes : List ℕ) → AreTablesOf bytes jumps → table_at bytes (get_or (addresses_of jumps) i e) ≡ Some (get_or jumps i d).table
    table_is bytes are = ap (table_at bytes) (jump_is jumps i e d inside) ∙ are i d inside

    -- Its entries have a width.
    pub some_width : (bytes : List ℕ) → AreTablesOf bytes jumps → 0 < (get_or jumps i d).table.width
    some_width bytes are =
        let table = is_table bytes (get_or jumps i d).jump (get_or jumps i d).table (are i d inside) in
        ⊎_elim (λ four. omega (arith, four)) (λ eight. omega (arith, eight)) table.width

  -- What the bases are once the first i jumps were seen.
  abbrev pub HaveBases : List ℕ → ℕ → Type 0
  HaveBases bases i = (bytes : List ℕ) → AreTablesOf bytes jumps → AreFound bytes (addresses_of jumps) bases i

  pub bases-none : HaveBases [] 0
  bases-none bytes are = found-none bytes (addresses_of jumps)

  pub bases-one : (bases : List ℕ) (i : ℕ) (d : TableJump) → i < length jumps → HaveBases bases i → HaveBases (bases ++ (get_or jumps i d).table.base ∷ []) (i + 1)
  bases-one bases i d inside before bytes are =
      found-one bytes (addresses_of jumps) bases i 0 (omega (arith, inside, same_length jumps)) (before bytes are) (get_or jumps i d).table (table_is i 0 d inside bytes are)

  pub bases-all : (bases ordered : List ℕ) (i : ℕ) → i ≡ length jumps → IsPermutation bases ordered → HaveBases bases i → (bytes : List ℕ) → AreTablesOf bytes jumps → AreBases bytes (addresses_of jumps) ordered
  bases-all bases ordered i all permuted found bytes are =
      found-all bytes (addresses_of jumps) bases ordered i (omega (arith, all, same_length jumps)) permuted (found bytes are)
