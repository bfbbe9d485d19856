-- A full table with a bound test: where it stands, and that it keeps an entry for each index below
-- the bound.
use Rattle.std.proofs.Common.{◌≡◌, ℕ, zero, suc, ◌+◌, ◌*◌, ◌%◌, ◌^◌, ◌<◌, ◌≤◌, Bool, true, false, cond, List, [], ◌∷◌, Option, Some, None, Contains, refl, sym, ap, ◌∙◌, subst, inl, inr, arith}
use Rattle.std.specs.Prelude.{pos, negsuc, nat_lt, ◌==◌}
use Rattle.std.specs.Option.{option_map, option_and_then, option_or}
use Rattle.std.proofs.lemmas.Bool.{cases_order, ltb-true, eqb-true}
use Rattle.std.proofs.lemmas.Option.{same_Some, none-some}
use Rattle.elf_image.specs.Code.{is_code, section_start}
use Rattle.elf_image.specs.DeclaredTables.{declared_at}
use Rattle.rv_flow.specs.declared.raw.RawFlow.{RawFlow}
use Rattle.rv_flow.specs.declared.raw.RawFlow.TheVariants as raw
use Rattle.rv_flow.specs.Raw.{raw_flow_at}
use Rattle.jump_table.specs.declared.table.Table.{Table}
use Rattle.jump_table.specs.declared.bound.BoundTest.{BoundTest}
use Rattle.jump_table.specs.declared.place.Place.{Place}
use Rattle.jump_table.specs.declared.values.Form.TheVariants.{Bounded, Open, Hoisted}
use Rattle.jump_table.specs.declared.values.Value.{Value}
use Rattle.jump_table.specs.declared.values.Value.TheVariants.{Entry, EntryPlus}
use Rattle.jump_table.specs.Bound.{bound_test}
use Rattle.jump_table.specs.Nearest.{evens}
use Rattle.jump_table.specs.Section.{straight_run}
use Rattle.jump_table.specs.Values.{bytes_of, at_test, after_run, forgotten, entered}
use Rattle.jump_table.specs.Table.{entry_at, target_by_entry, kept_target, entry_target, targets_from, place_of, value_behind, place_by_test, bounded_place, place_from, declared_place, place_by_record, width_of, table_without_test, open_place, hoisted_place, table_from, hoisted_table, table_of_count, count_of, table_at_place, jump_register, table_through, table_at}
use Rattle.cfg_model.proofs.Graphs.Lists.{Contains-here, Contains-later}
use Rattle.edge_cover.proofs.Pairs.{and_then_some, map_some}
use Rattle.edge_cover.proofs.Tested.{if_there, found_by}

-- ---- entries

module _ (bytes : List ℕ) (base width add : ℕ) where
  -- entry i is there, and leads to this target
  pub record IsEntryOf (i target : ℕ) : Type 0 where
    pub entry : ℕ
    pub inside : base + width * i < 2 ^ 64
    pub there : entry_at bytes width (base + width * i) ≡ Some entry
    pub target_is : target ≡ target_by_entry add entry

  entry_of : (i target : ℕ) → entry_target bytes base width add i ≡ Some target → IsEntryOf i target
  entry_of i target is =
      let inside = if_there (nat_lt (base + width * i) (2 ^ 64)) _ target is in
      let entry = and_then_some (λ entry. kept_target bytes (target_by_entry add entry)) (entry_at bytes width (base + width * i)) target inside.1 in
      let kept = if_there (is_code bytes (target_by_entry add entry.0)) (Some (target_by_entry add entry.0)) target entry.2 in
      record { entry = entry.0; inside = ltb-true (base + width * i) (2 ^ 64) inside.0; there = entry.1; target_is = sym (same_Some (target_by_entry add entry.0) target kept.1) }

  -- where so many targets were found as were looked for, each entry has one of them
  pub record HasTarget (i n k : ℕ) : Type 0 where
    pub target : ℕ
    pub is : IsEntryOf k target
    pub listed : Contains (targets_from bytes base width add i n) target

  abbrev listed_with : Option ℕ → List ℕ → List ℕ
  listed_with o rest = elim o [ None ↦ [] | Some target ↦ target ∷ rest ]

  pub each_has : (i n k : ℕ) → count_of (targets_from bytes base width add i n) ≡ n → i ≤ k → k < i + n → HasTarget i n k
  each_has i zero k full from below = absurd (omega arith)
  each_has i (suc n) k full from below = by (λ rest up down. each_has (i + 1) n k rest up down) (entry_target bytes base width add i) refl full
    where
      by : (count_of (targets_from bytes base width add (i + 1) n) ≡ n → i + 1 ≤ k → k < i + 1 + n → HasTarget (i + 1) n k)
          → (o : Option ℕ) → entry_target bytes base width add i ≡ o → count_of (listed_with o (targets_from bytes base width add (i + 1) n)) ≡ suc n → HasTarget i (suc n) k
      by rest None is count = absurd (omega arith)
      by rest (Some target) is count = elim (cases_order i k) [
        | inl here ↦ subst (HasTarget i (suc n)) here (record { target = target; is = entry_of i target is; listed = first })
        | inr other ↦ elim other [
          | inl before ↦ further (rest (let e : suc (count_of (targets_from bytes base width add (i + 1) n)) ≡ suc n = count in omega arith) (omega arith) (omega arith))
          | inr after ↦ absurd (omega arith)
        ]
      ]
        where
          first : Contains (targets_from bytes base width add i (suc n)) target
          first = subst (λ o. Contains (listed_with o (targets_from bytes base width add (i + 1) n)) target) (sym is) (Contains-here target (targets_from bytes base width add (i + 1) n))

          further : HasTarget (i + 1) n k → HasTarget i (suc n) k
          further has = record {
            target = has.target;
            is = has.is;
            listed = subst (λ o. Contains (listed_with o (targets_from bytes base width add (i + 1) n)) has.target) (sym is)
                (Contains-later target (targets_from bytes base width add (i + 1) n) has.target has.listed);
          }

-- ---- where the table stands

-- the place of a bounded table, and what the jump's register holds
pub record IsBoundedAt (bytes : List ℕ) (start j r : ℕ) (test : BoundTest) (place : Place) : Type 0 where
  pub run : List ℕ
  pub value : Value
  pub straight : straight_run bytes start j 16 (test.at + 4) ≡ Some run
  pub held : after_run (Bounded place.bound) bytes run (at_test test.index) r ≡ value
  pub bound : test.bound ≡ Some place.bound
  pub is : place_of false place.bound value ≡ Some place

place_bound : (is_open : Bool) (bound : ℕ) (value : Value) (place : Place) → place_of is_open bound value ≡ Some place → (place.bound ≡ bound) × (place.is_open ≡ is_open)
place_bound is_open bound (Entry v w) place is = (ap bound_of (sym is), ap open_of (sym is))
  where
    bound_of : Option Place → ℕ
    bound_of None = bound
    bound_of (Some p) = p.bound

    open_of : Option Place → Bool
    open_of None = is_open
    open_of (Some p) = p.is_open
place_bound is_open bound (EntryPlus v w k) place is = (ap bound_of (sym is), ap open_of (sym is))
  where
    bound_of : Option Place → ℕ
    bound_of None = bound
    bound_of (Some p) = p.bound

    open_of : Option Place → Bool
    open_of None = is_open
    open_of (Some p) = p.is_open
place_bound is_open bound value place is = absurd (none-some place is)

module _ (bytes : List ℕ) (start j r : ℕ) where
  bounded_at : (test : BoundTest) (place : Place) → bound_test bytes start j ≡ Some test → bounded_place bytes start j r ≡ Some place → IsBoundedAt bytes start j r test place
  bounded_at test place tested is =
      let by_test = and_then_some (place_by_test bytes start j r) (bound_test bytes start j) place is in
      let same : by_test.0 ≡ test = same_Some by_test.0 test (sym by_test.1 ∙ tested) in
      let placed : place_by_test bytes start j r test ≡ Some place = subst (λ (t : BoundTest). place_by_test bytes start j r t ≡ Some place) same by_test.2 in
      let bound = and_then_some (λ bound. option_and_then (place_of false bound) (value_behind (Bounded bound) bytes start j r (at_test test.index) (test.at + 4))) test.bound place placed in
      let value = and_then_some (place_of false bound.0) (value_behind (Bounded bound.0) bytes start j r (at_test test.index) (test.at + 4)) place bound.2 in
      let run = map_some (λ run. after_run (Bounded bound.0) bytes run (at_test test.index) r) (straight_run bytes start j 16 (test.at + 4)) value.0 value.1 in
      let at_bound = (place_bound false bound.0 value.0 place value.2).0 in
      record {
        run = run.0;
        value = value.0;
        straight = run.1;
        held = ap (λ n. after_run (Bounded n) bytes run.0 (at_test test.index) r) at_bound ∙ run.2;
        bound = bound.1 ∙ ap (λ n. Some n) (sym at_bound);
        is = ap (λ n. place_of false n value.0) at_bound ∙ value.2;
      }

  open_is : (place : Place) → open_place bytes start j r ≡ Some place → place.is_open ≡ true
  unfolding open_place
  open_is place is =
      let found = found_by (place_from bytes start j r) start j (evens 4 31) place is in
      let value = and_then_some (place_of true 1024) (value_behind Open bytes start j r forgotten found.0) place found.1 in
      (place_bound true 1024 value.0 place value.2).1

  hoisted_is : (q : ℕ) (place : Place) → hoisted_place bytes start j r q ≡ Some place → place.is_open ≡ true
  hoisted_is q place is =
      let value = and_then_some (place_of true 1024) (value_behind (Hoisted start q) bytes start j r entered q) place is in
      (place_bound true 1024 value.0 place value.2).1

  hoisted_from : (table : Table) → hoisted_table bytes start j r ≡ Some table → (place : Place) × (place.is_open ≡ true) × (table_at_place bytes place ≡ Some table)
  unfolding hoisted_table
  hoisted_from table is =
      let found = found_by (table_from bytes start j r) start j (evens 4 31) table is in
      let place = and_then_some (table_at_place bytes) (hoisted_place bytes start j r found.0) table found.1 in
      (place.0, hoisted_is found.0 place.0 place.1, place.2)

  declared_is : (place : Place) → declared_place bytes j ≡ Some place → place.is_open ≡ true
  declared_is place is =
      let record_is = and_then_some (λ declared. option_map (place_by_record declared) (width_of declared.size)) (declared_at bytes j) place is in
      let width = map_some (place_by_record record_is.0) (width_of record_is.0.size) place record_is.2 in
      ap (λ (p : Place). p.is_open) (sym width.2)

-- the table at a place
pub record IsTableAt (bytes : List ℕ) (place : Place) (table : Table) : Type 0 where
  pub aligned : place.base % bytes_of place.width ≡ 0
  pub count : count_of (targets_from bytes place.base (bytes_of place.width) place.add 0 place.bound) ≡ table.count
  pub base : table.base ≡ place.base
  pub width : table.width ≡ bytes_of place.width
  pub add : table.add ≡ place.add
  pub bound : table.bound ≡ place.bound
  pub same_open : table.is_open ≡ place.is_open

module _ (bytes : List ℕ) where
  table_of : (place : Place) (table : Table) → table_at_place bytes place ≡ Some table → IsTableAt bytes place table
  table_of place table is =
      let fits = if_there (place.base % bytes_of place.width == 0) _ table is in
      by (count_of (targets_from bytes place.base (bytes_of place.width) place.add 0 place.bound)) refl (eqb-true (place.base % bytes_of place.width) 0 fits.0) fits.1
    where
      by : (n : ℕ) → count_of (targets_from bytes place.base (bytes_of place.width) place.add 0 place.bound) ≡ n → place.base % bytes_of place.width ≡ 0
          → table_of_count place n ≡ Some table → IsTableAt bytes place table
      by zero count aligned e = absurd (none-some table e)
      by (suc n) count aligned e =
          let same = same_Some _ table e in
          record {
            aligned = aligned;
            count = count ∙ ap (λ (t : Table). t.count) same;
            base = ap (λ (t : Table). t.base) (sym same);
            width = ap (λ (t : Table). t.width) (sym same);
            add = ap (λ (t : Table). t.add) (sym same);
            bound = ap (λ (t : Table). t.bound) (sym same);
            same_open = ap (λ (t : Table). t.is_open) (sym same);
          }

-- a table with a bound test: the jump's register, and the place of the table
pub record HasPlace (bytes : List ℕ) (start j : ℕ) (test : BoundTest) (table : Table) : Type 0 where
  pub register : ℕ
  pub place : Place
  pub jumps : raw_flow_at bytes j ≡ raw.RegisterJump register (pos 0)
  pub stands : IsBoundedAt bytes start j register test place
  pub is : IsTableAt bytes place table

through : (flow : RawFlow) (r : ℕ) → jump_register flow ≡ Some r → flow ≡ raw.RegisterJump r (pos 0)
through (raw.RegisterJump register (pos zero)) r e = by (register == 0) e
  where
    by : (b : Bool) → cond b None (Some register) ≡ Some r → raw.RegisterJump register (pos 0) ≡ raw.RegisterJump r (pos 0)
    by true e = absurd (none-some r e)
    by false e = ap (λ x. raw.RegisterJump x (pos 0)) (same_Some register r e)
through (raw.RegisterJump register (pos (suc n))) r e = absurd (none-some r e)
through (raw.RegisterJump register (negsuc n)) r e = absurd (none-some r e)
through raw.Straight r e = absurd (none-some r e)
through (raw.Branch target) r e = absurd (none-some r e)
through (raw.Jump target) r e = absurd (none-some r e)
through (raw.Call target) r e = absurd (none-some r e)
through raw.IndirectCall r e = absurd (none-some r e)
through raw.Return r e = absurd (none-some r e)
through raw.Unknown r e = absurd (none-some r e)
through raw.Stop r e = absurd (none-some r e)

module _ (bytes : List ℕ) (start j : ℕ) (test : BoundTest) (table : Table) (tested : bound_test bytes start j ≡ Some test) (bounded : table.is_open ≡ false) where
  place_of_table : (r : ℕ) → raw_flow_at bytes j ≡ raw.RegisterJump r (pos 0) → table_through bytes start j r ≡ Some table → HasPlace bytes start j test table
  place_of_table r jumps is = by (option_and_then (table_at_place bytes) (bounded_place bytes start j r)) refl is
    where
      clash : true ≡ false → ⊥
      clash e = cc

      -- a table without a test is open
      not_open : (place : Place) → table_at_place bytes place ≡ Some table → place.is_open ≡ true → ⊥
      not_open place at is_open = clash (sym ((table_of bytes place table at).same_open ∙ is_open) ∙ bounded)

      far : (o : Option Table) → option_and_then (table_at_place bytes) (open_place bytes start j r) ≡ o → option_or o (hoisted_table bytes start j r) ≡ Some table → ⊥
      far (Some first) found e =
          let place = and_then_some (table_at_place bytes) (open_place bytes start j r) first found in
          not_open place.0 (place.2 ∙ e) (open_is bytes start j r place.0 place.1)
      far None found e = let place = hoisted_from bytes start j r table e in not_open place.0 place.2 place.1

      without : (o : Option Table) → option_and_then (table_at_place bytes) (declared_place bytes j) ≡ o → option_or o (option_or (option_and_then (table_at_place bytes) (open_place bytes start j r)) (hoisted_table bytes start j r)) ≡ Some table → ⊥
      without (Some first) found e =
          let place = and_then_some (table_at_place bytes) (declared_place bytes j) first found in
          not_open place.0 (place.2 ∙ e) (declared_is bytes start j r place.0 place.1)
      without None found e = far (option_and_then (table_at_place bytes) (open_place bytes start j r)) refl e

      by : (o : Option Table) → option_and_then (table_at_place bytes) (bounded_place bytes start j r) ≡ o
          → option_or o (table_without_test bytes start j r) ≡ Some table → HasPlace bytes start j test table
      by (Some first) found e =
          let place = and_then_some (table_at_place bytes) (bounded_place bytes start j r) first found in
          record {
            register = r;
            place = place.0;
            jumps = jumps;
            stands = bounded_at bytes start j r test place.0 tested place.1;
            is = table_of bytes place.0 table (place.2 ∙ e);
          }
      by None found e = absurd (without (option_and_then (table_at_place bytes) (declared_place bytes j)) refl e)

  pub has_place : section_start bytes j ≡ Some start → table_at bytes j ≡ Some table → HasPlace bytes start j test table
  unfolding table_at
  has_place section is =
      let at = and_then_some (λ start. option_and_then (table_through bytes start j) (jump_register (raw_flow_at bytes j))) (section_start bytes j) table is in
      let same : at.0 ≡ start = same_Some at.0 start (sym at.1 ∙ section) in
      let here = subst (λ s. option_and_then (table_through bytes s j) (jump_register (raw_flow_at bytes j)) ≡ Some table) same at.2 in
      let register = and_then_some (table_through bytes start j) (jump_register (raw_flow_at bytes j)) table here in
      place_of_table register.0 (through (raw_flow_at bytes j) register.0 register.1) register.2
