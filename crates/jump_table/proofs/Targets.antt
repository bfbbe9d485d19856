-- What a jump table always has: at least one entry, at most as many as its bound, 2,048 at most if it
-- has a bound test, and a target in the code for each of them.
use Rattle.std.proofs.Common.{◌≡◌, ℕ, zero, suc, ◌+◌, ◌*◌, ◌-◌, ◌%◌, ◌<◌, ◌≤◌, ◌^◌, ◌⊎◌, ◌==◌, ◌&&◌, Bool, true, false, cond, List, [], ◌∷◌, length, Option, Some, None, is_some, refl, sym, ap, ◌∙◌, subst, inl, inr, arith}
use Rattle.std.specs.Prelude.{IfSome, All, nat_lt, nat_le, ℤ, pos, negsuc}
use Rattle.std.specs.Option.{option_map, option_and_then, option_or}
use Rattle.std.proofs.Math.Nat.{mul-suc}
use Rattle.std.proofs.lemmas.Bool.{cond_both}
use Rattle.std.proofs.lemmas.Bool.Decides.{nat_tests}
use Rattle.std.proofs.lemmas.List.Elements.{All-nil, All-cons}
use Rattle.elf_image.specs.Code.{section_start, is_code, half_at, word_at}
use Rattle.elf_image.specs.declared.declared.DeclaredTable.{DeclaredTable}
use Rattle.elf_image.specs.DeclaredTables.{declared_at}
use Rattle.rv_decode.specs.declared.instructions.Insn.{Insn}
use Rattle.rv_decode.specs.declared.instructions.Insn.TheVariants as insns
use Rattle.rv_decode.specs.declared.instructions.ImmKind.{ImmKind}
use Rattle.rv_decode.specs.declared.instructions.ImmKind.TheVariants as imms
use Rattle.rv_decode.specs.Table.{instruction}
use Rattle.rvc_expand.specs.Table.{expansion}
use Rattle.rv_flow.specs.Raw.{raw_flow_at}
use Rattle.jump_table.specs.declared.table.Table.{Table}
use Rattle.jump_table.specs.Inner.Operands.{IsImmediate, HasOperands}
use Rattle.jump_table.specs.Section.{is_in_section, whole_insn_at}
use Rattle.jump_table.specs.Bound as bound
use Rattle.jump_table.specs.declared.bound.Comparison.{Comparison}
use Rattle.jump_table.specs.declared.bound.BoundTest.{BoundTest}
use Rattle.jump_table.specs.declared.place.Place.{Place}
use Rattle.jump_table.specs.declared.width.Width.{Width}
use Rattle.jump_table.specs.declared.width.Width.TheVariants.{Word, Double}
use Rattle.jump_table.specs.declared.values.Form.TheVariants.{Bounded, Open, Hoisted}
use Rattle.jump_table.specs.declared.values.Value.{Value}
use Rattle.jump_table.specs.declared.values.Value.TheVariants.{Entry, EntryPlus}
use Rattle.jump_table.specs.Bound.{bound_test, run_behind}
use Rattle.jump_table.specs.Nearest.{evens, nearest}
use Rattle.jump_table.specs.Values.{bytes_of, at_test, forgotten, entered}
use Rattle.jump_table.specs.Table.{place_of, value_behind, place_by_test, bounded_place, width_of, place_by_record, declared_place, place_from, open_place, hoisted_place, table_from, hoisted_table, kept_target, target_by_entry, entry_at, entry_target, targets_from, count_of, table_of_count, table_at_place, jump_register, table_without_test, table_through, table_at, table_targets}
use Rattle.jump_table.proofs.Operands.{operands_fit_there}

-- ---- options

-- What holds of each value that a step gives holds of what the steps give.
pub after_step : {A B : Type 0} (f : A → Option B) (o : Option A) (P : B → Type 0) → ((x : A) → o ≡ Some x → IfSome (f x) P) → IfSome (option_and_then f o) P
after_step f None P h = tt
after_step f (Some x) P h = h x refl

-- A value that is there has what holds if there is one.
pub there : {A : Type 0} (o : Option A) (x : A) (P : A → Type 0) → o ≡ Some x → IfSome o P → P x
there o x P is h = let Q : Option _ → Type 0 = λ p. IfSome p P in subst Q is h

-- ---- entries

-- A target of a table: a code address, and even.
pub record IsTarget (bytes : List ℕ) (t : ℕ) : Type 0 where
  pub code : is_code bytes t ≡ true
  pub even : t % 2 ≡ 0

-- the list that begins with this target, where there is one
abbrev pub listed : Option ℕ → List ℕ → List ℕ
listed o rest = elim o [ None ↦ [] | Some t ↦ t ∷ rest ]

pub count-length : (ts : List ℕ) → count_of ts ≡ length ts
count-length [] = refl
count-length (t ∷ ts) = ap (λ n. suc n) (count-length ts)

module _ (bytes : List ℕ) (base width add : ℕ) where
  -- Entry i is at an address that does not wrap, and its target is one.
  abbrev IsEntry : ℕ → ℕ → Type 0
  IsEntry i t = (base + width * i < 2 ^ 64) × IsTarget bytes t

  even : (entry : ℕ) → target_by_entry add entry % 2 ≡ 0
  even entry = omega arith

  entry-good : (i : ℕ) → IfSome (entry_target bytes base width add i) (IsEntry i)
  entry-good i =
      cond_both (nat_lt (base + width * i) (2 ^ 64)) _ None (λ o. IfSome o (IsEntry i))
      (λ below. after_step (λ entry. kept_target bytes (target_by_entry add entry)) (entry_at bytes width (base + width * i)) (IsEntry i)
      (λ entry _. cond_both (is_code bytes (target_by_entry add entry)) (Some (target_by_entry add entry)) None (λ o. IfSome o (IsEntry i))
      (λ code. (grind (arith, nat_tests), record { code = code; even = even entry })) (λ _. tt)))
      (λ _. tt)

  -- As many targets as were found are found again.
  again : (i n : ℕ) → targets_from bytes base width add i (count_of (targets_from bytes base width add i n)) ≡ targets_from bytes base width add i n
  again i zero = refl
  again i (suc n) = go (again (i + 1) n) (entry_target bytes base width add i) refl
    where
      go : targets_from bytes base width add (i + 1) (count_of (targets_from bytes base width add (i + 1) n)) ≡ targets_from bytes base width add (i + 1) n
          → (o : Option ℕ) → entry_target bytes base width add i ≡ o
          → targets_from bytes base width add i (count_of (listed o (targets_from bytes base width add (i + 1) n))) ≡ listed o (targets_from bytes base width add (i + 1) n)
      go rest None e = refl
      go rest (Some t) e =
          ap (λ o. listed o (targets_from bytes base width add (i + 1) (count_of (targets_from bytes base width add (i + 1) n)))) e
          ∙ ap (λ ts. t ∷ ts) rest

  at_most : (i n : ℕ) → count_of (targets_from bytes base width add i n) ≤ n
  at_most i zero = omega arith
  at_most i (suc n) = go (at_most (i + 1) n) (entry_target bytes base width add i)
    where
      go : count_of (targets_from bytes base width add (i + 1) n) ≤ n → (o : Option ℕ) → count_of (listed o (targets_from bytes base width add (i + 1) n)) ≤ suc n
      go rest None = omega arith
      go rest (Some t) = omega arith

  targets-good : (i n : ℕ) → All (IsTarget bytes) (targets_from bytes base width add i n)
  targets-good i zero = All-nil (IsTarget bytes)
  targets-good i (suc n) = go (targets-good (i + 1) n) (entry_target bytes base width add i) (entry-good i)
    where
      go : All (IsTarget bytes) (targets_from bytes base width add (i + 1) n) → (o : Option ℕ) → IfSome o (IsEntry i) → All (IsTarget bytes) (listed o (targets_from bytes base width add (i + 1) n))
      go rest None h = All-nil (IsTarget bytes)
      go rest (Some t) h = All-cons (IsTarget bytes) t (targets_from bytes base width add (i + 1) n) h.1 rest

  -- The last entry that was found is at an address that does not wrap.
  abbrev IsWithin : ℕ → ℕ → Type 0
  IsWithin i count = (count ≡ 0) ⊎ (base + width * (i + count) < 2 ^ 64 + width)

  within : (i n : ℕ) → IsWithin i (count_of (targets_from bytes base width add i n))
  within i zero = inl refl
  within i (suc n) = go (within (i + 1) n) (entry_target bytes base width add i) (entry-good i)
    where
      place : (m : ℕ) → width * (i + suc m) ≡ width * (i + m) + width
      place m = let e : i + suc m ≡ suc (i + m) = omega arith in ap (λ k. width * k) e ∙ mul-suc width (i + m)

      more : (m : ℕ) → base + width * i < 2 ^ 64 → IsWithin (i + 1) m → IsWithin i (suc m)
      more m here (inl last) =
          let e : width * (i + m) ≡ width * i = ap (λ k. width * k) (omega arith) in
          inr (omega (arith, place m, e, here))
      more m here (inr rest) =
          let e : width * (i + 1 + m) ≡ width * (i + suc m) = ap (λ k. width * k) (omega arith) in
          inr (omega (arith, e, rest))

      go : IsWithin (i + 1) (count_of (targets_from bytes base width add (i + 1) n)) → (o : Option ℕ) → IfSome o (IsEntry i) → IsWithin i (count_of (listed o (targets_from bytes base width add (i + 1) n)))
      go rest None h = inl refl
      go rest (Some t) h = more (count_of (targets_from bytes base width add (i + 1) n)) h.0 rest

-- ---- the bound

-- What holds of each answer holds of the nearest one.
nearest-all : {A : Type 0} (at : ℕ → Option A) (P : A → Type 0) → ((a : ℕ) → IfSome (at a) P) → (start j : ℕ) (backs : List ℕ) → IfSome (nearest at start j backs) P
nearest-all at P each start j [] = tt
nearest-all at P each start j (back ∷ backs) =
    go (cond (nat_le (start + back) j) (at (j - back)) None) (nearest at start j backs)
    (cond_both (nat_le (start + back) j) (at (j - back)) None (λ o. IfSome o P) (λ _. each (j - back)) (λ _. tt))
    (nearest-all at P each start j backs)
  where
    go : (o further : Option _) → IfSome o P → IfSome further P → IfSome (elim o [ Some answer ↦ Some answer | None ↦ further ]) P
    go (Some answer) further h k = h
    go None further h k = k

addi-small : (r : ℕ) (kind : ImmKind) (rd rs1 : ℕ) (imm : ℤ) → IsImmediate imm → IfSome (bound.addi_constant r kind rd rs1 imm) IsImmediate
addi-small r imms.Addi rd rs1 imm h = cond_both ((rd == r) && (rs1 == 0)) (Some imm) None (λ o. IfSome o IsImmediate) (λ _. h) (λ _. tt)
addi-small r _ rd rs1 imm h = tt

constant-small : (r : ℕ) (insn : Insn) → HasOperands insn → IfSome (bound.constant_of r insn) IsImmediate
constant-small r (insns.Imm kind rd rs1 imm) h = addi-small r kind rd rs1 imm h.2
constant-small r _ h = tt

by-word : (r : ℕ) (word : Option ℕ) → IfSome (option_and_then (bound.constant_of r) (option_and_then instruction word)) IsImmediate
by-word r word =
    let o = option_and_then instruction word in
    after_step (bound.constant_of r) o IsImmediate (λ insn is. constant-small r insn (there o insn HasOperands is (operands_fit_there word)))

bound-small : (excludes : Bool) (limit : ℤ) → IsImmediate limit → IfSome (bound.bound_by excludes limit) (λ n. n ≤ 2048)
bound-small false (pos n) h = omega arith
bound-small true (pos zero) h = tt
bound-small true (pos (suc n)) h = omega arith
bound-small true (negsuc n) h = tt
bound-small false (negsuc n) h = tt

-- A test whose bound, where it has one, is at most 2,048.
abbrev IsBoundedTest : BoundTest → Type 0
IsBoundedTest test = IfSome test.bound (λ n. n ≤ 2048)

module _ (bytes : List ℕ) (start : ℕ) where
  abbrev AreImmediates : Option ℤ → Type 0
  AreImmediates o = IfSome o IsImmediate

  short-small : (a r : ℕ) → AreImmediates (bound.short_constant bytes start a r)
  short-small a r =
      cond_both (is_in_section bytes start a) _ None AreImmediates (λ _. by-word r (option_and_then expansion (half_at bytes a))) (λ _. tt)

  whole-small : (a r : ℕ) → AreImmediates (option_and_then (bound.constant_of r) (whole_insn_at bytes start a))
  whole-small a r =
      cond_both (is_in_section bytes start a) _ None (λ o. AreImmediates (option_and_then (bound.constant_of r) o)) (λ _. by-word r (word_at bytes a)) (λ _. tt)

  first-small : (o p : Option ℤ) → AreImmediates o → AreImmediates p → AreImmediates (bound.first_of_two o p)
  first-small None p h k = k
  first-small (Some n) p h k = h

  before-small : (b r : ℕ) → AreImmediates (bound.constant_before bytes start b r)
  before-small b r =
      first-small _ _
      (cond_both (nat_le (start + 2) b) (bound.short_constant bytes start (b - 2) r) None AreImmediates (λ _. short-small (b - 2) r) (λ _. tt))
      (cond_both (nat_le (start + 4) b) (option_and_then (bound.constant_of r) (whole_insn_at bytes start (b - 4))) None AreImmediates (λ _. whole-small (b - 4) r) (λ _. tt))

  abbrev AreBounded : Option BoundTest → Type 0
  AreBounded o = IfSome o IsBoundedTest

  test-small : (j b : ℕ) (c : Comparison) → AreBounded (bound.test_by bytes start j b c)
  test-small j b c =
      cond_both (is_some (run_behind bytes start j b)) _ None AreBounded
      (λ _. with_limit (bound.constant_before bytes start b c.limit) (before-small b c.limit))
      (λ _. tt)
    where
      with_limit : (o : Option ℤ) → AreImmediates o → AreBounded (option_map (λ limit. record { at = b; index = c.index; bound = bound.bound_by c.excludes_equal limit }) o)
      with_limit None h = tt
      with_limit (Some limit) h = bound-small c.excludes_equal limit h

  step-bounded : (j b : ℕ) → AreBounded (bound.test_at bytes start j b)
  step-bounded j b =
      after_step (bound.test_by bytes start j b) (option_and_then bound.comparison_of (whole_insn_at bytes start b)) IsBoundedTest
      (λ c _. test-small j b c)

  test-bounded : (j : ℕ) → AreBounded (bound_test bytes start j)
  unfolding bound_test
  test-bounded j = nearest-all (bound.test_at bytes start j) IsBoundedTest (step-bounded j) start j (evens 4 33)

-- ---- places

-- A place with a bound test has a bound of at most 2,048.
pub record IsBoundedPlace (place : Place) : Type 0 where
  pub tested : place.is_open ≡ false → place.bound ≤ 2048

place-bounded : (bound : ℕ) (value : Value) → bound ≤ 2048 → IfSome (place_of false bound value) IsBoundedPlace
place-bounded bound (Entry v w) small = record { tested = λ _. small }
place-bounded bound (EntryPlus v w k) small = record { tested = λ _. small }
place-bounded bound _ small = tt

place-open : (value : Value) → IfSome (place_of true 1024 value) IsBoundedPlace
place-open (Entry v w) = record { tested = λ is. absurd (cc) }
place-open (EntryPlus v w k) = record { tested = λ is. absurd (cc) }
place-open _ = tt

place-declared : (declared : DeclaredTable) (width : Option Width) → IfSome (option_map (place_by_record declared) width) IsBoundedPlace
place-declared declared None = tt
place-declared declared (Some width) = record { tested = λ is. absurd (cc) }

module _ (bytes : List ℕ) (start j r : ℕ) where
  tested-place : (test : BoundTest) → IsBoundedTest test → IfSome (place_by_test bytes start j r test) IsBoundedPlace
  tested-place test small =
      after_step (λ bound. option_and_then (place_of false bound) (value_behind (Bounded bound) bytes start j r (at_test test.index) (test.at + 4))) test.bound IsBoundedPlace
      (λ bound is. after_step (place_of false bound) (value_behind (Bounded bound) bytes start j r (at_test test.index) (test.at + 4)) IsBoundedPlace
      (λ value _. place-bounded bound value (there test.bound bound (λ n. n ≤ 2048) is small)))

  places-bounded : IfSome (bounded_place bytes start j r) IsBoundedPlace
  places-bounded =
      after_step (place_by_test bytes start j r) (bound_test bytes start j) IsBoundedPlace
      (λ test is. tested-place test (there (bound_test bytes start j) test IsBoundedTest is (test-bounded bytes start j)))

  places-declared : IfSome (declared_place bytes j) IsBoundedPlace
  places-declared =
      after_step (λ declared. option_map (place_by_record declared) (width_of declared.size)) (declared_at bytes j) IsBoundedPlace
      (λ declared _. place-declared declared (width_of declared.size))

  place-from : (a : ℕ) → IfSome (place_from bytes start j r a) IsBoundedPlace
  place-from a = after_step (place_of true 1024) (value_behind Open bytes start j r forgotten a) IsBoundedPlace (λ value _. place-open value)

  pub place-hoisted : (q : ℕ) → IfSome (hoisted_place bytes start j r q) IsBoundedPlace
  place-hoisted q = after_step (place_of true 1024) (value_behind (Hoisted start q) bytes start j r entered q) IsBoundedPlace (λ value _. place-open value)

  places-open : IfSome (open_place bytes start j r) IsBoundedPlace
  unfolding open_place
  places-open = nearest-all (place_from bytes start j r) IsBoundedPlace place-from start j (evens 4 31)

-- ---- tables

-- What is so of each table.
pub record IsTable (bytes : List ℕ) (table : Table) : Type 0 where
  pub width : (table.width ≡ 4) ⊎ (table.width ≡ 8)
  pub counted : length (table_targets bytes table) ≡ table.count
  pub some : 0 < table.count
  pub bounded : table.count ≤ table.bound
  pub tested : table.is_open ≡ false → table.bound ≤ 2048
  pub targets : All (IsTarget bytes) (table_targets bytes table)
  pub aligned : table.base % table.width ≡ 0
  pub in_memory : table.base + table.width * table.count ≤ 2 ^ 64

width-of : (w : Width) → (bytes_of w ≡ 4) ⊎ (bytes_of w ≡ 8)
width-of Word = inl refl
width-of Double = inr refl

-- A table at a multiple of an entry's size ends where addresses do, at the latest.
end-of : (w : Width) (base n : ℕ) → base % bytes_of w ≡ 0 → base + bytes_of w * n < 2 ^ 64 + bytes_of w → base + bytes_of w * n ≤ 2 ^ 64
end-of Word base n aligned below = omega arith
end-of Double base n aligned below = omega arith

module _ (bytes : List ℕ) where
  abbrev AreTables : Option Table → Type 0
  AreTables o = IfSome o (IsTable bytes)

  module _ (place : Place) (good : IsBoundedPlace place) (aligned : place.base % bytes_of place.width ≡ 0) where
    abbrev targets : ℕ → List ℕ
    targets n = targets_from bytes place.base (bytes_of place.width) place.add 0 n

    counted-table : (count : ℕ) → count_of (targets place.bound) ≡ count → AreTables (table_of_count place count)
    counted-table zero is = tt
    counted-table (suc n) is =
        let same : targets (suc n) ≡ targets place.bound =
        ap targets (sym is) ∙ again bytes place.base (bytes_of place.width) place.add 0 place.bound in
        record {
          width = width-of place.width;
          counted = ap length same ∙ sym (count-length (targets place.bound)) ∙ is;
          some = omega arith;
          bounded = omega (arith, at_most bytes place.base (bytes_of place.width) place.add 0 place.bound, is);
          tested = good.tested;
          targets = targets-good bytes place.base (bytes_of place.width) place.add 0 (suc n);
          aligned = aligned;
          in_memory = in_memory (count_of (targets place.bound)) is (within bytes place.base (bytes_of place.width) place.add 0 place.bound);
        }
      where
        in_memory : (count : ℕ) → count ≡ suc n → IsWithin bytes place.base (bytes_of place.width) place.add 0 count → place.base + bytes_of place.width * suc n ≤ 2 ^ 64
        in_memory count is (inl none) = absurd (omega arith)
        in_memory count is (inr below) =
            let e : 0 + count ≡ suc n = omega arith in
            let moved : place.base + bytes_of place.width * suc n < 2 ^ 64 + bytes_of place.width = subst (λ m. place.base + bytes_of place.width * m < 2 ^ 64 + bytes_of place.width) e below in
            end-of place.width place.base (suc n) aligned moved

  placed-table : (place : Place) → IsBoundedPlace place → AreTables (table_at_place bytes place)
  placed-table place good =
      cond_both (place.base % bytes_of place.width == 0) _ None AreTables
      (λ aligned. counted-table place good (grind (arith, nat_tests)) (count_of (targets_from bytes place.base (bytes_of place.width) place.add 0 place.bound)) refl)
      (λ _. tt)

  tables-at : (o : Option Place) → IfSome o IsBoundedPlace → AreTables (option_and_then (table_at_place bytes) o)
  tables-at None good = tt
  tables-at (Some place) good = placed-table place good

  either-table : (o p : Option Table) → AreTables o → AreTables p → AreTables (option_or o p)
  either-table None p h k = k
  either-table (Some table) p h k = h

  tables-hoisted : (start j r : ℕ) → AreTables (hoisted_table bytes start j r)
  unfolding hoisted_table
  tables-hoisted start j r =
      nearest-all (table_from bytes start j r) (IsTable bytes)
      (λ q. tables-at (hoisted_place bytes start j r q) (place-hoisted bytes start j r q)) start j (evens 4 31)

  all_tables : (j : ℕ) → AreTables (table_at bytes j)
  unfolding table_at
  all_tables j =
      after_step (λ start. option_and_then (table_through bytes start j) (jump_register (raw_flow_at bytes j))) (section_start bytes j) (IsTable bytes)
      (λ start _. after_step (table_through bytes start j) (jump_register (raw_flow_at bytes j)) (IsTable bytes)
      (λ r _. either-table (option_and_then (table_at_place bytes) (bounded_place bytes start j r)) (table_without_test bytes start j r)
      (tables-at (bounded_place bytes start j r) (places-bounded bytes start j r))
      (either-table (option_and_then (table_at_place bytes) (declared_place bytes j)) (option_or (option_and_then (table_at_place bytes) (open_place bytes start j r)) (hoisted_table bytes start j r))
      (tables-at (declared_place bytes j) (places-declared bytes start j r))
      (either-table (option_and_then (table_at_place bytes) (open_place bytes start j r)) (hoisted_table bytes start j r)
      (tables-at (open_place bytes start j r) (places-open bytes start j r))
      (tables-hoisted start j r)))))

pub is_table : (bytes : List ℕ) (j : ℕ) (table : Table) → table_at bytes j ≡ Some table → IsTable bytes table
is_table bytes j table is = there (table_at bytes j) table (IsTable bytes) is (all_tables bytes j)
