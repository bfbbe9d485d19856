-- The cuts of the jumps seen so far.
use Rattle.std.proofs.Common.{◌≡◌, ◌≢◌, ℕ, ◌+◌, ◌<◌, ◌≤◌, ◌⊎◌, List, length, get_or, Option, Some, None, refl, sym, ap, ◌∙◌, subst, inl, inr, arith}
use Rattle.std.specs.Prelude.{Contains}
use Rattle.std.specs.FinMap as map
use Rattle.std.specs.Option.{option_map}
use Rattle.std.specs.Ordering.{nat_cmp}
use Rattle.std.proofs.lemmas.List.{get_or_default}
use Rattle.std.proofs.lemmas.List.Elements.{Contains-get_or}
use Rattle.std.proofs.lemmas.Option.{same_Some, none-some}
use Rattle.std.proofs.Math.Nat.{le-max_left}
use borrow.Author.Count.{below_more}
use Rattle.jump_table.specs.declared.table.Table.{Table}
use Rattle.jump_table.specs.Table.{table_at}
use Rattle.cfg_model.specs.Program.Cuts.{Extent, IsBaseInside, IsCutTo, AreCuts, kept_before}
use Rattle.cfg_model.proofs.Program.MapFacts.{same_or_other, get_here, get_apart}
use Rattle.code_view.specs.Cuts.{Counts, cut_of, CutsFit}
use Rattle.table_cuts.specs.Extents.{extent_of, extent_at}
use Rattle.code_view.specs.declared.table_jump.TableJump.{TableJump}
use Rattle.code_view.specs.Tables.{HasTable, AreAllTables, AreTablesOf, addresses_of}
use Rattle.table_cuts.specs.Inner.{IsBaseOf, AreBases, IsInside, IsCutBy, CutBy}
use Rattle.code_view.proofs.Sought.{same_length, jump_is}
use Rattle.table_cuts.proofs.Found.{table_is}

-- A jump whose table is cut to this many entries.
pub record IsCutJump (bytes bases : List ℕ) (j kept : ℕ) : Type 0 where
  pub table : Table
  pub at_jump : table_at bytes j ≡ Some table
  pub cut : IsCutBy bases (extent_of table) kept

-- The table of jump k has the cut that the bases give it.
abbrev pub IsSettled : List ℕ → List ℕ → List ℕ → Counts → ℕ → Type 0
IsSettled bytes jumps bases cuts k = (d : ℕ) (table : Table) → table_at bytes (get_or jumps k d) ≡ Some table → CutBy bases (extent_of table) (cut_of cuts (get_or jumps k d))

-- What the cuts are once the first i jumps were seen.
pub record AreSettled (bytes jumps bases : List ℕ) (cuts : Counts) (i : ℕ) : Type 0 where
  pub sound : (j kept : ℕ) → cut_of cuts j ≡ Some kept → IsCutJump bytes bases j kept
  pub complete : (k : ℕ) → k < i → IsSettled bytes jumps bases cuts k

-- What a cut leaves is one entry at least.
pub some_kept : (bases : List ℕ) (table : Extent) (kept : ℕ) → IsCutBy bases table kept → 1 ≤ kept
some_kept bases table kept cut = subst (λ n. 1 ≤ n) (sym cut.entries) (le-max_left 1 _)

-- ---- one jump

module _ (bytes jumps bases : List ℕ) where
  pub settled-none : AreSettled bytes jumps bases map.empty 0
  settled-none = record {
    sound = λ j kept is. absurd (none-some kept (sym (map.get-empty nat_cmp j) ∙ is));
    complete = λ k below d table at. absurd (omega arith);
  }

  -- A table that the bases do not cut has no cut.
  uncut : (cuts : Counts) (j : ℕ) → ((kept : ℕ) → cut_of cuts j ≡ Some kept → IsCutJump bytes bases j kept) → (table : Table) → table_at bytes j ≡ Some table
      → ((kept : ℕ) → ¬ IsCutBy bases (extent_of table) kept) → (o : Option ℕ) → cut_of cuts j ≡ o → CutBy bases (extent_of table) o
  uncut cuts j sound table at none None is = none
  uncut cuts j sound table at none (Some kept) is =
      let cut = sound kept is in
      let same : cut.table ≡ table = same_Some cut.table table (sym cut.at_jump ∙ at) in
      absurd (none kept (subst (λ t. IsCutBy bases (extent_of t) kept) same cut.cut))

  module _ (cuts : Counts) (i e : ℕ) (inside : i < length jumps) (before : AreSettled bytes jumps bases cuts i) where
    jump_at : (d : ℕ) → get_or jumps i d ≡ get_or jumps i e
    jump_at d = get_or_default jumps i d e inside

    module _ (found : Table) (is : table_at bytes (get_or jumps i e) ≡ Some found) where
      same_table : (q : ℕ) (table : Table) → table_at bytes q ≡ Some table → q ≡ get_or jumps i e → found ≡ table
      same_table q table at same = same_Some found table (sym is ∙ ap (table_at bytes) (sym same) ∙ at)

      pub settled-uncut : CutBy bases (extent_of found) None → AreSettled bytes jumps bases cuts (i + 1)
      settled-uncut none = record {
        sound = before.sound;
        complete = below_more (IsSettled bytes jumps bases cuts) i before.complete (λ d table at.
            uncut cuts (get_or jumps i d) (before.sound (get_or jumps i d)) table at
            (subst (λ t. CutBy bases (extent_of t) None) (same_table (get_or jumps i d) table at (jump_at d)) none)
            (cut_of cuts (get_or jumps i d)) refl);
      }

      module _ (kept : ℕ) (cut : CutBy bases (extent_of found) (Some kept)) where
        abbrev after : Counts
        after = map.insert cuts (get_or jumps i e) kept

        sound-at : (q n : ℕ) → (q ≡ get_or jumps i e) ⊎ (q ≢ get_or jumps i e) → cut_of after q ≡ Some n → IsCutJump bytes bases q n
        sound-at q n (inl same) at =
            let value : kept ≡ n = same_Some kept n (sym (get_here cuts (get_or jumps i e) kept) ∙ ap (cut_of after) (sym same) ∙ at) in
            record {
              table = found;
              at_jump = ap (table_at bytes) same ∙ is;
              cut = subst (IsCutBy bases (extent_of found)) value cut;
            }
        sound-at q n (inr other) at = before.sound q n (sym (get_apart cuts (get_or jumps i e) kept q other) ∙ at)

        settled-at : (q : ℕ) (table : Table) → table_at bytes q ≡ Some table → (q ≡ get_or jumps i e) ⊎ ((q ≢ get_or jumps i e) × CutBy bases (extent_of table) (cut_of cuts q)) → CutBy bases (extent_of table) (cut_of after q)
        settled-at q table at (inl same) =
            subst (CutBy bases (extent_of table)) (sym (ap (cut_of after) same ∙ get_here cuts (get_or jumps i e) kept))
            (subst (λ t. CutBy bases (extent_of t) (Some kept)) (same_table q table at same) cut)
        settled-at q table at (inr other) = subst (CutBy bases (extent_of table)) (sym (get_apart cuts (get_or jumps i e) kept q other.0)) other.1

        by_case : (q : ℕ) (P : Type 0) → P → (q ≡ get_or jumps i e) ⊎ (q ≢ get_or jumps i e) → (q ≡ get_or jumps i e) ⊎ ((q ≢ get_or jumps i e) × P)
        by_case q P p (inl same) = inl same
        by_case q P p (inr other) = inr (other, p)

        pub settled-cut : AreSettled bytes jumps bases after (i + 1)
        settled-cut = record {
          sound = λ q n at. sound-at q n (same_or_other q (get_or jumps i e)) at;
          complete = below_more (IsSettled bytes jumps bases after) i
              (λ k below d table at. settled-at (get_or jumps k d) table at
              (by_case (get_or jumps k d) _ (before.complete k below d table at) (same_or_other (get_or jumps k d) (get_or jumps i e))))
              (λ d table at. settled-at (get_or jumps i d) table at (inl (jump_at d)));
        }

-- ---- all jumps

module _ (bytes jumps bases : List ℕ) (listed : (j : ℕ) → HasTable bytes j → Contains jumps j) (are : AreBases bytes jumps bases) where
  module _ (cuts : Counts) (i : ℕ) (all : i ≡ length jumps) (settled : AreSettled bytes jumps bases cuts i) where
    pub settled-fits : CutsFit bytes (cut_of cuts)
    settled-fits j kept is =
        let cut = settled.sound j kept is in
        record {
          table = cut.table;
          at_jump = cut.at_jump;
          some = some_kept bases (extent_of cut.table) kept cut.cut;
          within = omega (arith, cut.cut.fewer);
        }

    -- A base inside a table by the extents is one by the tables.
    base_by_extents : (jump b : ℕ) (o : Option Table) → table_at bytes jump ≡ o → (other : Extent) → option_map extent_of o ≡ Some other → other.base ≡ b → IsBaseOf bytes jumps b
    base_by_extents jump b None at other is base = absurd (none-some other is)
    base_by_extents jump b (Some table) at other is base = record {
      jump = jump;
      counts = listed jump (record { table = table; at_jump = at });
      table = table;
      at_jump = at;
      base = ap (λ (e : Extent). e.base) (same_Some (extent_of table) other is) ∙ base;
    }

    to-inside : (table : Table) (b : ℕ) → IsBaseInside (extent_at bytes) (extent_of table) b → Contains bases b × IsInside (extent_of table) b
    to-inside table b h =
        (are.complete b (base_by_extents h.jump b (table_at bytes h.jump) refl h.other h.at_jump h.base), record { above = h.above; below = h.below })

    from-inside : (table : Table) (b : ℕ) → Contains bases b → IsInside (extent_of table) b → IsBaseInside (extent_at bytes) (extent_of table) b
    from-inside table b there inside =
        let of = are.sound b there in
        record {
          jump = of.jump;
          other = extent_of of.table;
          at_jump = ap (option_map extent_of) of.at_jump;
          base = of.base;
          above = inside.above;
          below = inside.below;
        }

    forward : (j kept : ℕ) → cut_of cuts j ≡ Some kept → IsCutTo (extent_at bytes) j kept
    forward j kept is =
        let cut = settled.sound j kept is in
        record {
          table = extent_of cut.table;
          at_jump = ap (option_map extent_of) cut.at_jump;
          base = cut.cut.base;
          inside = from-inside cut.table cut.cut.base cut.cut.there cut.cut.inside;
          least = λ b h. let p = to-inside cut.table b h in cut.cut.least b p.0 p.1;
          entries = cut.cut.entries;
          fewer = cut.cut.fewer;
        }

    -- A cut by the extents is one by the tables.
    by-bases : (table : Table) (base kept : ℕ) → IsBaseInside (extent_at bytes) (extent_of table) base
        → ((b : ℕ) → IsBaseInside (extent_at bytes) (extent_of table) b → base ≤ b)
        → kept ≡ kept_before (extent_of table) base → kept < table.count → IsCutBy bases (extent_of table) kept
    by-bases table base kept inside least entries fewer =
        let p = to-inside table base inside in
        record {
          base = base;
          there = p.0;
          inside = p.1;
          least = λ b there in_table. least b (from-inside table b there in_table);
          entries = entries;
          fewer = fewer;
        }

    -- The bases cut a table in one way alone.
    same_cut : (table : Extent) (kept : ℕ) → IsCutBy bases table kept → (o : Option ℕ) → CutBy bases table o → o ≡ Some kept
    same_cut table kept by None none = absurd (none kept by)
    same_cut table kept by (Some n) cut =
        let below : cut.base ≤ by.base = cut.least by.base by.there by.inside in
        let above : by.base ≤ cut.base = by.least cut.base cut.there cut.inside in
        let same : cut.base ≡ by.base = omega arith in
        ap (λ m. Some m) (cut.entries ∙ ap (kept_before table) same ∙ sym by.entries)

    backward-at : (j kept : ℕ) → IsCutTo (extent_at bytes) j kept → (o : Option Table) → table_at bytes j ≡ o → cut_of cuts j ≡ Some kept
    backward-at j kept h None at = absurd (none-some h.table (ap (option_map extent_of) (sym at) ∙ h.at_jump))
    backward-at j kept h (Some table) at =
        let same : h.table ≡ extent_of table = same_Some h.table (extent_of table) (sym h.at_jump ∙ ap (option_map extent_of) at) in
        let there = listed j (record { table = table; at_jump = at }) in
        let k = there.0 in
        let below : k < i = omega (arith, there.1) in
        let by : CutBy bases (extent_of table) (cut_of cuts j) =
        subst (λ q. CutBy bases (extent_of table) (cut_of cuts q)) there.2 (settled.complete k below j table (ap (table_at bytes) there.2 ∙ at)) in
        same_cut (extent_of table) kept
        (by-bases table h.base kept
        (subst (λ e. IsBaseInside (extent_at bytes) e h.base) same h.inside)
        (subst (λ e. (b : ℕ) → IsBaseInside (extent_at bytes) e b → h.base ≤ b) same h.least)
        (h.entries ∙ ap (λ (e : Extent). kept_before e h.base) same)
        (subst (λ (e : Extent). kept < e.count) same h.fewer))
        (cut_of cuts j) by

    pub settled-cuts : AreCuts (extent_at bytes) (cut_of cuts)
    settled-cuts j kept = (forward j kept, λ h. backward-at j kept h (table_at bytes j) refl)

-- ---- with the tables that were found

module _ (jumps : List TableJump) (bases : List ℕ) where
  -- What the cuts are once the first i jumps were seen.
  abbrev pub HaveCuts : Counts → ℕ → Type 0
  HaveCuts cuts i = (bytes : List ℕ) → AreTablesOf bytes jumps → AreSettled bytes (addresses_of jumps) bases cuts i

  pub cuts-none : HaveCuts map.empty 0
  cuts-none bytes are = settled-none bytes (addresses_of jumps) bases

  module _ (cuts : Counts) (i : ℕ) (d : TableJump) (inside : i < length jumps) (before : HaveCuts cuts i) where
    within : i < length (addresses_of jumps)
    within = omega (arith, inside, same_length jumps)

    pub cuts-past : CutBy bases (extent_of (get_or jumps i d).table) None → HaveCuts cuts (i + 1)
    cuts-past none bytes are =
        settled-uncut bytes (addresses_of jumps) bases cuts i 0 within (before bytes are) (get_or jumps i d).table (table_is jumps i 0 d inside bytes are) none

    pub cuts-one : (kept : ℕ) → CutBy bases (extent_of (get_or jumps i d).table) (Some kept) → HaveCuts (map.insert cuts (get_or jumps i d).jump kept) (i + 1)
    cuts-one kept cut bytes are =
        subst (λ j. AreSettled bytes (addresses_of jumps) bases (map.insert cuts j kept) (i + 1)) (jump_is jumps i 0 d inside)
        (settled-cut bytes (addresses_of jumps) bases cuts i 0 within (before bytes are) (get_or jumps i d).table (table_is jumps i 0 d inside bytes are) kept cut)

  module _ (are : (bytes : List ℕ) → AreTablesOf bytes jumps → AreBases bytes (addresses_of jumps) bases) (cuts : Counts) (i : ℕ) (all : i ≡ length jumps) (have : HaveCuts cuts i) where
    every : i ≡ length (addresses_of jumps)
    every = omega (arith, all, same_length jumps)

    pub cuts-all : (bytes : List ℕ) → AreAllTables bytes jumps → AreCuts (extent_at bytes) (cut_of cuts)
    cuts-all bytes all_of =
        settled-cuts bytes (addresses_of jumps) bases all_of.all_jumps (are bytes all_of.tables) cuts i every (have bytes all_of.tables)

    pub cuts-fit : (bytes : List ℕ) → AreAllTables bytes jumps → CutsFit bytes (cut_of cuts)
    cuts-fit bytes all_of =
        settled-fits bytes (addresses_of jumps) bases all_of.all_jumps (are bytes all_of.tables) cuts i every (have bytes all_of.tables)
