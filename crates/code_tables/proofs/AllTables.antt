-- The jump tables of all code: how they are found.
use Rattle.std.proofs.Common.{◌≡◌, ℕ, ◌<◌, List, [], ◌∷◌, ◌++◌, length, get_or, Option, Some, None, is_some, IsSome, Ok, Err, refl, sym, ap, ◌∙◌, subst, ⊎_elim, arith}
use Rattle.std.specs.Prelude.{All, IfOk}
use Rattle.std.specs.List.{Contains, flat_map}
use Rattle.std.proofs.lemmas.List.{map-append}
use Rattle.std.proofs.lemmas.List.Elements.{All-push, Contains-append_left, Contains-push, Contains-push_cases}
use Rattle.std.proofs.lemmas.Option.{none-some}
use Rattle.jump_table.specs.declared.table.Table.{Table}
use Rattle.jump_table.specs.Table.{table_at}
use Rattle.code_view.specs.RegisterJump.{IsBetween}
use Rattle.parallel.specs.declared.ranges.AddressRange.{AddressRange}
use Rattle.parallel.specs.Ranges.{IsAbove, IsUpTo}
use Rattle.parallel.specs.Gaps.{gap}
use Rattle.parallel.proofs.Covered.{in_some_gap}
use Rattle.parallel.proofs.GapByGap.{item_of, from_part, all_joined}
use Rattle.code_view.specs.declared.table_jump.TableJump.{TableJump}
use Rattle.code_view.specs.Tables.{AreTablesOf, AreAllTables, addresses_of}
use Rattle.parallel.specs.Lists.{Answered, AreMade, made_in}
use Rattle.code_tables.specs.Parts.{AreTablesAmong, AreTablesIn, AreTablesByGap}

-- ---- finding them

module _ (bytes : List ℕ) where
  module _ (seen : List ℕ) (a : ℕ) (jumps : List TableJump) (before : AreTablesAmong bytes seen jumps) where
    pub among-past : table_at bytes a ≡ None → AreTablesAmong bytes (seen ++ a ∷ []) jumps
    among-past none = record {
      tables = before.tables;
      complete = λ j there has. ⊎_elim
          (λ earlier. before.complete j earlier has)
          (λ last. absurd (none-some has.table (sym none ∙ ap (table_at bytes) last ∙ has.at_jump)))
          (Contains-push_cases seen a j there);
    }

    pub among-takes : (table : Table) → table_at bytes a ≡ Some table → (new : List TableJump) → new ≡ jumps ++ record { jump = a; table = table } ∷ [] → AreTablesAmong bytes (seen ++ a ∷ []) new
    among-takes table is new pushed =
        let found : TableJump = record { jump = a; table = table } in
        let longer : addresses_of new ≡ addresses_of jumps ++ a ∷ [] = ap addresses_of pushed ∙ map-append (λ (f : TableJump). f.jump) jumps (found ∷ []) in
        record {
          tables = subst (AreTablesOf bytes) (sym pushed) (All-push (λ (f : TableJump). table_at bytes f.jump ≡ Some f.table) jumps found before.tables is);
          complete = λ j there has. subst (λ (xs : List ℕ). Contains xs j) (sym longer) (⊎_elim
              (λ earlier. Contains-append_left (addresses_of jumps) (a ∷ []) j (before.complete j earlier has))
              (λ last. subst (λ (x : ℕ). Contains (addresses_of jumps ++ a ∷ []) x) last (Contains-push (addresses_of jumps) a))
              (Contains-push_cases seen a j there));
        }

  pub among-all : (places : List ℕ) → ((a : ℕ) → IsSome (table_at bytes a) → Contains places a) → (jumps : List TableJump) → AreTablesAmong bytes places jumps → AreAllTables bytes jumps
  among-all places complete jumps among = record {
    tables = among.tables;
    all_jumps = λ j has. among.complete j (complete j (ap (λ o. is_some o) has.at_jump)) has;
  }

  -- an address in a range lies between its ends
  is_between : (after last : Option ℕ) (a : ℕ) → IsAbove after a → IsUpTo last a → IsBetween after last a
  is_between None None a above up_to = (above, up_to)
  is_between None (Some l) a above up_to = (above, up_to)
  is_between (Some f) None a above up_to = (above, up_to)
  is_between (Some f) (Some l) a above up_to = (above, up_to)

  pub among-in : (range : AddressRange) (places : List ℕ) → ((a : ℕ) → IsBetween range.after range.last a → IsSome (table_at bytes a) → Contains places a) → (jumps : List TableJump) → AreTablesAmong bytes places jumps → AreTablesIn bytes range jumps
  among-in range places complete jumps among = record {
    tables = among.tables;
    complete = λ j inside has. among.complete j (complete j (is_between range.after range.last j inside.0 inside.1) (ap (λ o. is_some o) has.at_jump)) has;
  }

-- ---- the addresses of all of them, gap by gap

abbrev addresses_in : Answered TableJump → List ℕ
addresses_in answer = addresses_of (made_in answer)

addresses_joined : (answers : List (Answered TableJump)) → addresses_of (flat_map made_in answers) ≡ flat_map addresses_in answers
addresses_joined [] = refl
addresses_joined (a ∷ answers) =
    map-append (λ (f : TableJump). f.jump) (made_in a) (flat_map made_in answers) ∙ ap (λ xs. addresses_in a ++ xs) (addresses_joined answers)

-- ---- gap by gap

found_made : (bytes : List ℕ) (range : AddressRange) (answer : Answered TableJump) → IfOk answer (λ jumps. AreTablesIn bytes range jumps.items) → AreMade answer → AreTablesIn bytes range (made_in answer)
found_made bytes range (Ok jumps) are made = are
found_made bytes range (Err e) are made = absurd (cc)

module _ (bytes bounds : List ℕ) (answers : List (Answered TableJump)) (gaps : AreTablesByGap bytes bounds answers) where
  module _ (made : All AreMade answers) where
    found_in : (i : ℕ) (d : Answered TableJump) → i < length answers → AreTablesIn bytes (gap bounds i) (made_in (get_or answers i d))
    found_in i d within = found_made bytes (gap bounds i) (get_or answers i d) (gaps.each i d (omega (arith, within, gaps.as_many))) (made i d within)

    gaps-joined : AreAllTables bytes (flat_map made_in answers)
    gaps-joined = record {
      tables = all_joined made_in (λ (f : TableJump). table_at bytes f.jump ≡ Some f.table) answers (λ i d within. (found_in i d within).tables);
      all_jumps = λ j has.
          let at = in_some_gap bounds j in
          let within : at.0 < length answers = omega (arith, at.1, gaps.as_many) in
          let d : Answered TableJump = item_of answers at.0 within in
          subst (λ (xs : List ℕ). Contains xs j) (sym (addresses_joined answers)) (from_part addresses_in answers at.0 d j within ((found_in at.0 d within).complete j at.2 has));
    }

  -- What was found in each gap is, put together, all that there is.
  pub gaps-all : (jumps : List TableJump) → All AreMade answers → jumps ≡ flat_map made_in answers → AreAllTables bytes jumps
  gaps-all jumps made is = subst (AreAllTables bytes) (sym is) (gaps-joined made)
