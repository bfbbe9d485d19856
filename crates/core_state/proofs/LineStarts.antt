-- The starts of a shard, by its lines.
use Rattle.std.proofs.Common.{◌≡◌, ◌≢◌, ℕ, ◌+◌, ◌*◌, ◌/◌, ◌%◌, ◌<◌, ◌≤◌, Bool, true, false, refl, subst, sym, ap, ◌∙◌, arith}
use Rattle.std.specs.Prelude.{Option, Some, None, IsTrue, IsSome, is_some, IfSome, IfNone, ◌⊎◌}
use Rattle.std.specs.Option.{option_and_then}
use Rattle.std.specs.Ordering.{nat_cmp}
use Rattle.std.specs.FinMap as maps
use mathlib.Core.Logic.{inl, inr}
use Rattle.builder_model.specs.declared.state.Mark.{Mark}
use Rattle.builder_model.specs.declared.state.Mark.TheVariants as marks
use Rattle.builder_model.specs.State.{StartMap, IsStart}
use Rattle.builder_model.specs.Left.{Work}
use Rattle.address_map.specs.Found.{IsFoundAmong}
use Rattle.address_map.specs.Keys.{with_new}
use Rattle.address_map.proofs.Leasts.{least_as}
use Rattle.address_map.proofs.EntriesLinked.{less_or_not}
use Rattle.address_map.proofs.OneEntry.{same_or_other, get_here, get_apart}
use Rattle.address_map.proofs.PairsKept.{added_new, added_known}
use Rattle.core_state.specs.Least.{IsLeast, IsAbove}
use Rattle.core_state.specs.Line.{IsNextInLine}
use Rattle.core_state.specs.Work.{work_of}
use Rattle.core_state.specs.declared.answer.Name.{Name}
use Rattle.core_state.specs.declared.answer.WorkKind.TheVariants as kinds
use Rattle.core_state.specs.declared.line.Line.{Line}
use Rattle.core_state.specs.inner.Lines.{first_of, mark_in, mark_at, starts_of, IsLine, AreLines, IsInLine, LeftInLine}
use Rattle.core_state.specs.inner.Remaining.{LeftAtStart}
use Rattle.core_state.proofs.Lines.{read, changed}

not_some : {X : Type 0} (o : Option X) → o ≡ None → IsSome o → ⊥
not_some None is has = cc has
not_some (Some x) is has = cc is

pub no_lines : (lines : maps.FinMap nat_cmp Line) → lines ≡ maps.empty → AreLines lines
no_lines lines empty first line has =
    absurd (not_some (maps.get lines first) (ap (λ m. maps.get m first) empty ∙ maps.get-empty nat_cmp first) (ap is_some has))

again : (s : ℕ) → first_of s ≡ first_of (first_of s)
again s = omega arith

-- a line that is put in its place
pub still_lines : (lines : maps.FinMap nat_cmp Line) → AreLines lines → (s first : ℕ) → first ≡ first_of s → (line : Line) (v : Mark) → mark_in line (s % 64) ≡ Some v → AreLines (maps.insert lines first line)
still_lines lines are s first at line v here q there has = by (same_or_other q first)
  where
    by : (q ≡ first) ⊎ (q ≢ first) → IsLine q there
    by (inl same) = record {
      at_first = same ∙ at ∙ again s ∙ ap first_of (sym (same ∙ at));
      start = s % 64;
      inside = omega arith;
      has =
          subst (λ (l : Line). IsSome (mark_in l (s % 64)))
          (some_is line there (sym (get_here lines first line) ∙ ap (maps.get (maps.insert lines first line)) (sym same) ∙ has))
          (ap is_some here);
    }
      where
        some_is : (x y : Line) → Some x ≡ Some y → x ≡ y
        some_is x y e = ap (λ (o : Option Line). or_this o) e
          where
            or_this : Option Line → Line
            or_this None = x
            or_this (Some l) = l
    by (inr apart) = are q there (sym (get_apart lines first line q apart) ∙ has)

module _ (lines : maps.FinMap nat_cmp Line) (starts : StartMap) (seen : starts_of lines ≡ starts) where
  says : (q : ℕ) → maps.get starts q ≡ mark_at lines q
  says q = ap (λ m. maps.get m q) (sym seen) ∙ read lines q

  -- an address by its line
  module _ (q first : ℕ) (at : first ≡ first_of q) where
    pub no_line : None ≡ maps.get lines first → maps.get starts q ≡ None
    no_line none = says q ∙ ap (option_and_then (λ l. mark_in l (q % 64))) (ap (maps.get lines) (sym at) ∙ sym none)

    pub of_line : (line : Line) → Some line ≡ maps.get lines first → maps.get starts q ≡ mark_in line (q % 64)
    of_line line is = says q ∙ ap (option_and_then (λ l. mark_in l (q % 64))) (ap (maps.get lines) (sym at) ∙ sym is)

    pub has_line : IsStart starts q → IsSome (maps.get lines first)
    has_line has = by (maps.get lines first) refl
      where
        by : (o : Option Line) → maps.get lines first ≡ o → IsSome (maps.get lines first)
        by None is = absurd (not_some (maps.get starts q) (no_line (sym is)) has)
        by (Some line) is = ap is_some is

  -- all addresses of a line
  module _ (a first : ℕ) (at : first ≡ first_of a) where
    first_is : (t : ℕ) → t / 64 ≡ a / 64 → first ≡ first_of t
    first_is t same = at ∙ ap (λ n. n * 64) (sym same)

    pub none_there : None ≡ maps.get lines first → (t : ℕ) → t / 64 ≡ a / 64 → ¬ IsStart starts t
    none_there none t same = not_some (maps.get starts t) (no_line t first (first_is t same) none)

    module _ (line : Line) (is : Some line ≡ maps.get lines first) where
      there : (t : ℕ) → t / 64 ≡ a / 64 → is_some (maps.get starts t) ≡ is_some (mark_in line (t % 64))
      there t same = ap is_some (of_line t first (first_is t same) line is)

      pub next_there : (o : Option ℕ) → IsLeast (λ t. IsSome (mark_in line (t % 64)) × (a < t) × (t / 64 ≡ a / 64)) o → IsNextInLine starts a o
      next_there o least = least_as _ _ o (λ t h. (there t h.2 ∙ h.0, h.1, h.2)) (λ t h. (sym (there t h.2) ∙ h.0, h.1, h.2)) least

      pub least_there : (o : Option ℕ) → IsLeast (λ t. IsSome (mark_in line (t % 64)) × (t / 64 ≡ a / 64)) o → IsLeast (λ t. IsStart starts t × (t / 64 ≡ a / 64)) o
      least_there o least = least_as _ _ o (λ t h. (there t h.1 ∙ h.0, h.1)) (λ t h. (sym (there t h.1) ∙ h.0, h.1)) least

  pub none_next : (a first : ℕ) → first ≡ first_of a → None ≡ maps.get lines first → (o : Option ℕ) → o ≡ None → IsNextInLine starts a o
  none_next a first at none o is = subst (IsNextInLine starts a) (sym is) (λ t h. none_there a first at none t h.2 h.0)

  pub none_least : (a first : ℕ) → first ≡ first_of a → None ≡ maps.get lines first → (o : Option ℕ) → o ≡ None → IsLeast (λ t. IsStart starts t × (t / 64 ≡ a / 64)) o
  none_least a first at none o is = subst (IsLeast (λ t. IsStart starts t × (t / 64 ≡ a / 64))) (sym is) (λ t h. none_there a first at none t h.1 h.0)

  -- a line says something new of one address
  pub put : (s first : ℕ) → first ≡ first_of s → (line : Line) (v : Mark) → mark_in line (s % 64) ≡ Some v → ((i : ℕ) → i < 64 → i ≢ s % 64 → mark_in line i ≡ option_and_then (λ old. mark_in old i) (maps.get lines first)) → starts_of (maps.insert lines first line) ≡ maps.insert starts s v
  put s first at line v here others =
      ap (λ f. starts_of (maps.insert lines f line)) at
      ∙ changed lines s line v here (λ i inside apart. others i inside apart ∙ ap (λ f. option_and_then (λ old. mark_in old i) (maps.get lines f)) at)
      ∙ ap (λ m. maps.insert m s v) seen

  -- one address of a line that is there
  pub rewrite : (s first : ℕ) → first ≡ first_of s → (old line : Line) → maps.get lines first ≡ Some old → (v : Mark) → mark_in line (s % 64) ≡ Some v → ((i : ℕ) → i < 64 → i ≢ s % 64 → mark_in line i ≡ mark_in old i) → starts_of (maps.insert lines first line) ≡ maps.insert starts s v
  rewrite s first at old line is v here others =
      put s first at line v here (λ i inside apart. others i inside apart ∙ ap (option_and_then (λ l. mark_in l i)) (sym is))

  pub new_start : (s : ℕ) → maps.get starts s ≡ None → maps.insert starts s marks.Wanted ≡ with_new starts s marks.Wanted
  new_start s none = added_new starts s marks.Wanted (ap is_some none)

  module _ (are : AreLines lines) where
    -- a line has a start
    pub line_starts : (first : ℕ) (line : Line) → maps.get lines first ≡ Some line → (t : ℕ) × ((t / 64 ≡ first / 64) × IsStart starts t)
    line_starts first line is =
        let it = are first line is in
        (first + it.start, (same first it.start it.at_first it.inside, ap is_some (of_line (first + it.start) first (own first it.start it.at_first it.inside) line (sym is)) ∙ subst (λ i. IsSome (mark_in line i)) (sym (place first it.start it.at_first it.inside)) it.has))
      where
        same : (f i : ℕ) → f ≡ f / 64 * 64 → i < 64 → (f + i) / 64 ≡ f / 64
        same f i at inside = omega arith

        own : (f i : ℕ) → f ≡ f / 64 * 64 → i < 64 → f ≡ (f + i) / 64 * 64
        own f i at inside = omega arith

        place : (f i : ℕ) → f ≡ f / 64 * 64 → i < 64 → (f + i) % 64 ≡ i
        place f i at inside = omega arith

    pub absent : (s first : ℕ) → first ≡ first_of s → ((t : ℕ) → t / 64 ≡ s / 64 → ¬ IsStart starts t) → maps.get lines first ≡ None
    absent s first at none = by (maps.get lines first) refl
      where
        line_is : (f s x : ℕ) → f ≡ s / 64 * 64 → x ≡ f / 64 → x ≡ s / 64
        line_is f s x at is = omega arith

        by : (o : Option Line) → maps.get lines first ≡ o → o ≡ None
        by None is = refl
        by (Some line) is = let it = line_starts first line is in absurd (none it.0 (line_is first s (it.0 / 64) at it.1.0) it.1.1)

-- a start is made a wanted one
none_by : {X : Type 0} (o : Option X) → is_some o ≡ false → o ≡ None
none_by None is = refl
none_by (Some x) is = cc is

module _ (starts : StartMap) (s : ℕ) where
  pub answer_new : maps.get starts s ≡ None → (IsTrue true → IsStart starts s → ⊥) × (¬ IsStart starts s → IsTrue true)
  answer_new none = (λ _ has. not_some (maps.get starts s) none has, λ _. refl)

  pub answer_old : IsStart starts s → (IsTrue false → IsStart starts s → ⊥) × (¬ IsStart starts s → IsTrue false)
  answer_old has = (λ never _. cc never, λ none. absurd (none has))

  pub known_start : IsStart starts s → starts ≡ with_new starts s marks.Wanted
  known_start has = added_known starts s marks.Wanted has

  module _ (v : Mark) where
    same_behind : (t : ℕ) → s < t → is_some (maps.get (maps.insert starts s v) t) ≡ is_some (maps.get starts t)
    same_behind t less = ap is_some (get_apart starts s v t (λ e. omega arith))

    pub next_put : (o : Option ℕ) → IsNextInLine starts s o → IsNextInLine (maps.insert starts s v) s o
    next_put o least = least_as _ _ o (λ t h. (same_behind t h.1 ∙ h.0, h.1, h.2)) (λ t h. (sym (same_behind t h.1) ∙ h.0, h.1, h.2)) least

module _ (lines : maps.FinMap nat_cmp Line) (starts : StartMap) (seen : starts_of lines ≡ starts) (s first : ℕ) (at : first ≡ first_of s) where
  pub unmarked : (line : Line) → Some line ≡ maps.get lines first → (has : Bool) → has ≡ is_some (mark_in line (s % 64)) → has ≡ false → maps.get starts s ≡ None
  unmarked line is has answer no_start = of_line lines starts seen s first at line is ∙ none_by (mark_in line (s % 64)) (sym answer ∙ no_start)

  pub marked : (line : Line) → Some line ≡ maps.get lines first → (has : Bool) → has ≡ is_some (mark_in line (s % 64)) → has ≡ true → IsStart starts s
  marked line is has answer a_start = ap is_some (of_line lines starts seen s first at line is) ∙ sym answer ∙ a_start

  pub none_behind : None ≡ maps.get lines first → (new : StartMap) → new ≡ maps.insert starts s marks.Wanted → IsNextInLine new s None
  none_behind none new is =
      subst (λ m. IsNextInLine m s None) (sym is) (next_put starts s marks.Wanted None (none_next lines starts seen s first at none None refl))

-- work that is left
module _ (lines : maps.FinMap nat_cmp Line) (starts : StartMap) (seen : starts_of lines ≡ starts) (are : AreLines lines) where
  pub some_left : (o : Option Name) → IfSome o (IsFoundAmong LeftInLine lines) → IfSome o (λ name. IsFoundAmong LeftAtStart starts (work_of name))
  some_left None found = tt
  some_left (Some name) found = record {
    key = found.there.start;
    entry = marks.Wanted;
    has =
        of_line lines starts seen found.there.start found.key ((are found.key found.entry found.has).at_first ∙ ap (λ n. n * 64) (sym found.there.lies)) found.entry (sym found.has)
        ∙ found.there.wanted;
    there = subst (LeftAtStart found.there.start marks.Wanted) (sym found.there.named) (LeftAtStart.unparsed refl);
  }

  left_there : (t : ℕ) → maps.get starts t ≡ Some marks.Wanted → ((name : Name) → ¬ IsFoundAmong LeftInLine lines name) → ⊥
  left_there t wanted none = by (maps.get lines (first_of t)) refl
    where
      lies : (t : ℕ) → t / 64 ≡ t / 64 * 64 / 64
      lies t = omega arith

      by : (o : Option Line) → maps.get lines (first_of t) ≡ o → ⊥
      by None is = not_some (maps.get starts t) (no_line lines starts seen t (first_of t) refl (sym is)) (ap is_some wanted)
      by (Some line) is =
          none (record { kind = kinds.Parse; key = t }) (record {
            key = first_of t;
            entry = line;
            has = is;
            there = record {
              start = t;
              wanted = sym (of_line lines starts seen t (first_of t) refl line (sym is)) ∙ wanted;
              lies = lies t;
              named = refl;
            };
          })

  pub none_left : (o : Option Name) → IfNone o ((name : Name) → ¬ IsFoundAmong LeftInLine lines name) → IfNone o ((work : Work) → ¬ IsFoundAmong LeftAtStart starts work)
  none_left (Some name) none = tt
  none_left None none = λ work found. by found.key found.entry work found.there found.has
    where
      by : (t : ℕ) (mark : Mark) (work : Work) → LeftAtStart t mark work → maps.get starts t ≡ Some mark → ⊥
      by t mark work (LeftAtStart.unparsed is) has = left_there t (has ∙ ap Some is) none

-- the next start above an address, if its line has none: the first one of the next line
module _ (starts : StartMap) (a : Option ℕ) (Within : ℕ → Type 0) where
  abbrev IsNext : ℕ → Type 0
  IsNext t = IsStart starts t × IsAbove a t × Within t

  module _ (lines : maps.FinMap nat_cmp Line) (seen : starts_of lines ≡ starts) (are : AreLines lines) (along : (t u : ℕ) → t / 64 ≡ u / 64 → Within t → Within u) (none : IsLeast (λ t. IsStart starts t × IsAbove a t × IsInLine a t) None) where
    abbrev IsNextLine : ℕ → Type 0
    IsNextLine f = IsSome (maps.get lines f) × IsAbove a f × Within f

    -- the line of a start above a
    its_line : (t : ℕ) → IsNext t → IsNextLine (first_of t)
    its_line t h = (
      has_line lines starts seen t (first_of t) refl h.0,
      above a t h.1 (λ here. none t (h.0, h.1, here)),
      along t (first_of t) (lies t) h.2,
    )
      where
        lies : (t : ℕ) → t / 64 ≡ t / 64 * 64 / 64
        lies t = omega arith

        above : (a : Option ℕ) (t : ℕ) → IsAbove a t → ¬ IsInLine a t → IsAbove a (first_of t)
        above None t less apart = tt
        above (Some x) t less apart = by x t less apart (less_or_not x (t / 64 * 64))
          where
            by : (x t : ℕ) → x < t → (t / 64 ≡ x / 64 → ⊥) → (x < t / 64 * 64) ⊎ (t / 64 * 64 ≤ x) → x < t / 64 * 64
            by x t less apart (inl under) = under
            by x t less apart (inr past) = absurd (apart (omega arith))

    pub no_next : (o : Option ℕ) → o ≡ None → IsLeast IsNextLine None → IsLeast IsNext o
    no_next o is least = subst (IsLeast IsNext) (sym is) (λ t h. least (first_of t) (its_line t h))

    pub next_in : (first : ℕ) → IsLeast IsNextLine (Some first) → (o : Option ℕ) → IsLeast (λ t. IsStart starts t × (t / 64 ≡ first / 64)) o → IsLeast IsNext o
    next_in first line None least =
        let it = there (maps.get lines first) refl line.0.0 in absurd (least it.0 (it.1.1, it.1.0))
      where
        there : (o : Option Line) → maps.get lines first ≡ o → IsSome o → (t : ℕ) × ((t / 64 ≡ first / 64) × IsStart starts t)
        there None is has = cc has
        there (Some l) is has = line_starts lines starts seen are first l is
    next_in first line (Some s) least = (
      (least.0.0, above a first s line.0.1 (from_first (maps.get lines first) refl line.0.0), along first s (sym least.0.1) line.0.2),
      λ t h. by t h (same_or_other (t / 64) (first / 64)),
    )
      where
        low : (f s : ℕ) → f ≡ f / 64 * 64 → s / 64 ≡ f / 64 → f ≤ s
        low f s at same = omega arith

        from_first : (o : Option Line) → maps.get lines first ≡ o → IsSome o → first ≤ s
        from_first None is has = cc has
        from_first (Some l) is has = low first s (are first l is).at_first least.0.1

        above : (a : Option ℕ) (f s : ℕ) → IsAbove a f → f ≤ s → IsAbove a s
        above None f s less le = tt
        above (Some x) f s less le = omega arith

        after : (f s t : ℕ) → s / 64 ≡ f / 64 → f ≤ t / 64 * 64 → t / 64 ≢ f / 64 → s ≤ t
        after f s t same le apart = omega arith

        by : (t : ℕ) → IsNext t → (t / 64 ≡ first / 64) ⊎ (t / 64 ≢ first / 64) → s ≤ t
        by t h (inl same) = least.1 t (h.0, same)
        by t h (inr apart) = after first s t least.0.1 (line.1 (first_of t) (its_line t h)) apart

-- above an address, if there is one
module _ (starts : StartMap) (a : Option ℕ) (lines : maps.FinMap nat_cmp Line) (seen : starts_of lines ≡ starts) (are : AreLines lines) (none : IsLeast (λ t. IsStart starts t × IsAbove a t × IsInLine a t) None) where
  lines_after : (o : Option ℕ) → IsLeast (λ f. IsSome (maps.get lines f) × IsAbove a f) o → IsLeast (λ f. IsSome (maps.get lines f) × IsAbove a f × Unit {0}) o
  lines_after o least = least_as _ _ o (λ f h. (h.0, h.1, tt)) (λ f h. (h.0, h.1)) least

  pub none_after : (o : Option ℕ) → o ≡ None → IsLeast (λ f. IsSome (maps.get lines f) × IsAbove a f) None → IsLeast (λ t. IsStart starts t × IsAbove a t) o
  none_after o is least =
      least_as _ _ o (λ t h. (h.0, h.1)) (λ t h. (h.0, h.1, tt)) (no_next starts a (λ _. Unit {0}) lines seen are (λ t u same within. tt) none o is (lines_after None least))

  pub next_after : (first : ℕ) → IsLeast (λ f. IsSome (maps.get lines f) × IsAbove a f) (Some first) → (o : Option ℕ) → IsLeast (λ t. IsStart starts t × (t / 64 ≡ first / 64)) o → IsLeast (λ t. IsStart starts t × IsAbove a t) o
  next_after first line o least =
      least_as _ _ o (λ t h. (h.0, h.1)) (λ t h. (h.0, h.1, tt)) (next_in starts a (λ _. Unit {0}) lines seen are (λ t u same within. tt) none first (lines_after (Some first) line) o least)

-- in its page
module _ (starts : StartMap) (a : ℕ) (lines : maps.FinMap nat_cmp Line) (seen : starts_of lines ≡ starts) (are : AreLines lines) (none : IsNextInLine starts a None) where
  along_page : (t u : ℕ) → t / 64 ≡ u / 64 → t / 4096 ≡ a / 4096 → u / 4096 ≡ a / 4096
  along_page t u same page = omega arith

  pub none_in_page : (o : Option ℕ) → o ≡ None → IsLeast (λ f. IsSome (maps.get lines f) × (a < f) × (f / 4096 ≡ a / 4096)) None → IsLeast (λ t. IsStart starts t × (a < t) × (t / 4096 ≡ a / 4096)) o
  none_in_page o is least = no_next starts (Some a) (λ t. t / 4096 ≡ a / 4096) lines seen are along_page none o is least

  pub next_in_page : (first : ℕ) → IsLeast (λ f. IsSome (maps.get lines f) × (a < f) × (f / 4096 ≡ a / 4096)) (Some first) → (o : Option ℕ) → IsLeast (λ t. IsStart starts t × (t / 64 ≡ first / 64)) o → IsLeast (λ t. IsStart starts t × (a < t) × (t / 4096 ≡ a / 4096)) o
  next_in_page first line o least = next_in starts (Some a) (λ t. t / 4096 ≡ a / 4096) lines seen are along_page none first line o least
