-- All jumps with a table, in order, and the one that is looked for among them.
use Rattle.std.proofs.Common.{◌≡◌, ℕ, ◌<◌, ◌≤◌, false, refl, List, length, get_or, Option, Some, None, Result, Ok, Err, sym, ap, ◌∙◌, inl, inr, arith}
use Rattle.std.specs.List.{Contains}
use Rattle.std.specs.List.Sorted.{IsPermutation, IsNonDecreasingBy, IsSearchInRange, IsBinarySearchResult}
use Rattle.std.specs.Ordering.{nat_cmp, ordering_index}
use Rattle.std.specs.Result.{MatchResult}
use Rattle.std.proofs.lemmas.Bool.{cases_lt}
use Rattle.std.proofs.lemmas.Bool.Decides.{nat_tests}
use Rattle.std.proofs.lemmas.Cmp.{ranked}
use Rattle.std.proofs.lemmas.List.{get_or-map}
use Rattle.std.proofs.lemmas.List.Sorted.{All-permutation, Contains-permutation, IsPermutation-map}
use Rattle.std.proofs.Math.ListN.{length-map}
use Rattle.jump_table.specs.declared.table.Table.{Table}
use Rattle.jump_table.specs.Table.{table_at}
use Rattle.code_view.specs.declared.table_jump.TableJump.{TableJump}
use Rattle.code_view.specs.Tables.{AreAllTables, addresses_of, HasTable}

-- Another order of all tables is all tables.
pub all-moved : (bytes : List ℕ) (jumps sorted : List TableJump) → IsPermutation jumps sorted → AreAllTables bytes jumps → AreAllTables bytes sorted
all-moved bytes jumps sorted moved all = record {
  tables = All-permutation (λ (f : TableJump). table_at bytes f.jump ≡ Some f.table) jumps sorted moved all.tables;
  all_jumps = λ j has.
      Contains-permutation (addresses_of jumps) (addresses_of sorted) j (IsPermutation-map (λ (f : TableJump). f.jump) jumps sorted moved) (all.all_jumps j has);
}

module _ (jumps : List TableJump) where
  pub same_length : length (addresses_of jumps) ≡ length jumps
  same_length = length-map jumps (λ (f : TableJump). f.jump)

  pub jump_is : (i e : ℕ) (d : TableJump) → i < length jumps → get_or (addresses_of jumps) i e ≡ (get_or jumps i d).jump
  jump_is i e d inside = get_or-map (λ (f : TableJump). f.jump) jumps i d e inside

module _ (jumps : List TableJump) (up : IsNonDecreasingBy (λ (f : TableJump). f.jump) jumps) where
  comparisons_rise : (x : ℕ) → IsNonDecreasingBy (λ (f : TableJump). ordering_index (nat_cmp f.jump x)) jumps
  comparisons_rise x = λ i j d le within.
      let less : (get_or jumps i d).jump ≤ (get_or jumps j d).jump = up i j d le within in
      grind (arith, nat_tests)

  -- A search by address ends at a jump with this address, or there is none.
  pub sought : (x : ℕ) (r : Result ℕ ℕ) → IsSearchInRange r (length jumps) → IsBinarySearchResult (λ (f : TableJump). nat_cmp f.jump x) jumps r
      → MatchResult r (λ i. (i < length jumps) × ((d : TableJump) → (get_or jumps i d).jump ≡ x)) (λ i. ¬ Contains (addresses_of jumps) x)
  sought x (Ok i) within equal = (within, λ d. ranked _ x _ (sym (equal d)))
  sought x (Err i) within parted = λ there.
      let k = there.0 in
      let inside : k < length jumps = omega (arith, there.1, same_length jumps) in
      let past : TableJump = record { jump = 0; table = record { base = 0; width = 0; count = 0; bound = 0; add = 0; is_open = false } } in
      let at : (get_or jumps k past).jump ≡ x = sym (jump_is jumps k x past inside) ∙ there.2 in
      elim (cases_lt k i) [
        | inl lt ↦ let less : (get_or jumps k past).jump < x = ranked _ x _ (sym ((parted (comparisons_rise x)).0 k past (omega arith) lt)) in omega arith
        | inr le ↦ let more : x < (get_or jumps k past).jump = ranked _ x _ (sym ((parted (comparisons_rise x)).1 k past le inside)) in omega arith
      ]

-- The jump that was found has its table,
pub table-found : (bytes : List ℕ) (jumps : List TableJump) → AreAllTables bytes jumps → (j i : ℕ) (found : TableJump) → i < length jumps → found ≡ get_or jumps i found
    → (get_or jumps i found).jump ≡ j → Some found.table ≡ table_at bytes j
table-found bytes jumps all j i found inside is at =
    ap (λ (f : TableJump). Some f.table) is ∙ (sym (all.tables i found inside) ∙ ap (table_at bytes) at)

-- and one that is not among them has none.
none_has : (bytes : List ℕ) (j : ℕ) (o : Option Table) → table_at bytes j ≡ o → (HasTable bytes j → ⊥) → None ≡ o
none_has bytes j None is none = cc
none_has bytes j (Some table) is none = absurd (none (record { table = table; at_jump = is }))

pub table-missing : (bytes : List ℕ) (jumps : List TableJump) → AreAllTables bytes jumps → (j : ℕ) → ¬ Contains (addresses_of jumps) j → None ≡ table_at bytes j
table-missing bytes jumps all j none =
    none_has bytes j (table_at bytes j) refl (λ has. none (all.all_jumps j has))
