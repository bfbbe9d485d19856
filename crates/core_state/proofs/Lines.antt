-- The starts of lines: what the map that they mean has, and what a change of one line does to it.
use Rattle.std.proofs.Common.{◌≡◌, ◌≢◌, ℕ, zero, suc, ◌+◌, ◌*◌, ◌/◌, ◌%◌, ◌<◌, ◌≤◌, Bool, cond, true, false, refl, List, [], ◌∷◌, sym, ap, ◌∙◌, arith}
use Rattle.std.specs.Prelude.{Option, Some, None, ◌⊎◌, max}
use Rattle.std.specs.Option.{option_and_then}
use Rattle.std.specs.Ordering.{nat_cmp, eq_by_cmp}
use Rattle.std.specs.Cmp.{nat_cmp_total}
use Rattle.std.specs.FinMap as maps
use Rattle.std.specs.FinMap.{find}
use mathlib.Core.Logic.{inl, inr}
use Rattle.builder_model.specs.declared.state.Mark.{Mark}
use Rattle.builder_model.specs.State.{StartMap}
use Rattle.address_map.proofs.OneEntry.{same_or_other, get_here, get_apart, is_equal}
use Rattle.address_map.proofs.EntriesLinked.{less_or_not}
use Rattle.core_state.specs.declared.line.Line.{Line}
use Rattle.core_state.specs.inner.Lines.{first_of, mark_in, mark_at, with_mark, marks_below, end_of, starts_of}

-- the marks below a number
with_apart : (m : StartMap) (k : ℕ) (o : Option Mark) (q : ℕ) → q ≢ k → maps.get (with_mark m k o) q ≡ maps.get m q
with_apart m k None q apart = refl
with_apart m k (Some v) q apart = get_apart m k v q apart

with_here : (m : StartMap) (k : ℕ) (o : Option Mark) → maps.get m k ≡ None → maps.get (with_mark m k o) k ≡ o
with_here m k None none = none
with_here m k (Some v) none = get_here m k v

module _ (f : ℕ → Option Mark) where
  not_below : (n q : ℕ) → n ≤ q → maps.get (marks_below f n) q ≡ None
  not_below zero q past = maps.get-empty nat_cmp q
  not_below (suc n) q past = with_apart (marks_below f n) n (f n) q (λ same. beyond n q past same) ∙ not_below n q (omega arith)
    where
      beyond : (n q : ℕ) → suc n ≤ q → q ≡ n → ⊥
      beyond n q past same = omega arith

  below : (n q : ℕ) → q < n → maps.get (marks_below f n) q ≡ f q
  below zero q less = absurd (omega arith)
  below (suc n) q less = by (same_or_other q n) (below n q)
    where
      lesser : (q n : ℕ) → q < suc n → q ≢ n → (q < n) ⊎ (n ≤ q) → q < n
      lesser q n less apart (inl under) = under
      lesser q n less apart (inr past) = absurd (apart (omega arith))

      by : (q ≡ n) ⊎ (q ≢ n) → (q < n → maps.get (marks_below f n) q ≡ f q) → maps.get (marks_below f (suc n)) q ≡ f q
      by (inl same) rest = rw same (with_here (marks_below f n) n (f n) (not_below n n (omega arith)))
      by (inr apart) rest = with_apart (marks_below f n) n (f n) q apart ∙ rest (lesser q n less apart (less_or_not q n))

-- the lines end after each of them
within_end : (es : List (ℕ × Line)) (k : ℕ) (line : Line) → find nat_cmp k es ≡ Some line → k + 64 ≤ end_of es
within_end [] k line has = cc has
within_end (e ∷ es) k line has = by (eq_by_cmp nat_cmp k e.0) refl has (within_end es k line)
  where
    first : (k x y : ℕ) → k ≡ x → k + 64 ≤ max (x + 64) y
    first k x y same = omega arith

    later : (k x y : ℕ) → k + 64 ≤ y → k + 64 ≤ max (x + 64) y
    later k x y less = omega arith

    by : (b : Bool) → eq_by_cmp nat_cmp k e.0 ≡ b → cond b (Some e.1) (find nat_cmp k es) ≡ Some line → (find nat_cmp k es ≡ Some line → k + 64 ≤ end_of es) → k + 64 ≤ max (e.0 + 64) (end_of es)
    by true same has rest = first k e.0 (end_of es) (maps.nat_cmp-IsAntisymmetric k e.0 (is_equal (nat_cmp k e.0) same))
    by false other has rest = later k e.0 (end_of es) (rest has)

module _ (lines : maps.FinMap nat_cmp Line) where
  there_below : (q : ℕ) (line : Line) → maps.get lines (first_of q) ≡ Some line → q < end_of (maps.entries lines)
  there_below q line has =
      inside q (end_of (maps.entries lines)) (within_end (maps.entries lines) (first_of q) line (sym (maps.get-entries lines (first_of q)) ∙ has))
    where
      inside : (q n : ℕ) → q / 64 * 64 + 64 ≤ n → q < n
      inside q n within = omega arith

  nowhere : (q : ℕ) → end_of (maps.entries lines) ≤ q → mark_at lines q ≡ None
  nowhere q past = by (maps.get lines (first_of q)) refl
    where
      by : (o : Option Line) → maps.get lines (first_of q) ≡ o → option_and_then (λ line. mark_in line (q % 64)) o ≡ None
      by None is = refl
      by (Some line) is = let less = there_below q line is in absurd (omega arith)

  -- the starts are what the lines say
  pub read : (q : ℕ) → maps.get (starts_of lines) q ≡ mark_at lines q
  read q = by (less_or_not q (end_of (maps.entries lines)))
    where
      by : (q < end_of (maps.entries lines)) ⊎ (end_of (maps.entries lines) ≤ q) → maps.get (starts_of lines) q ≡ mark_at lines q
      by (inl less) = below (mark_at lines) (end_of (maps.entries lines)) q less
      by (inr past) = not_below (mark_at lines) (end_of (maps.entries lines)) q past ∙ sym (nowhere q past)

pub no_starts : starts_of maps.empty ≡ maps.empty
no_starts =
    maps.same_map nat_cmp_total maps.nat_cmp-IsAntisymmetric _ _
    (λ q. read maps.empty q ∙ ap (option_and_then (λ line. mark_in line (q % 64))) (maps.get-empty nat_cmp (first_of q)) ∙ sym (maps.get-empty nat_cmp q))

-- one line is put in its place, which says of one address something new
module _ (lines : maps.FinMap nat_cmp Line) (s : ℕ) (line : Line) (v : Mark) (here : mark_in line (s % 64) ≡ Some v) (others : (i : ℕ) → i < 64 → i ≢ s % 64 → mark_in line i ≡ option_and_then (λ old. mark_in old i) (maps.get lines (first_of s))) where
  at_here : mark_at (maps.insert lines (first_of s) line) s ≡ Some v
  at_here = ap (option_and_then (λ l. mark_in l (s % 64))) (get_here lines (first_of s) line) ∙ here

  at_other : (q : ℕ) → q ≢ s → (first_of q ≡ first_of s) ⊎ (first_of q ≢ first_of s) → mark_at (maps.insert lines (first_of s) line) q ≡ mark_at lines q
  at_other q apart (inl same) =
      ap (option_and_then (λ l. mark_in l (q % 64))) (ap (maps.get (maps.insert lines (first_of s) line)) same ∙ get_here lines (first_of s) line)
      ∙ others (q % 64) (omega arith) (λ e. apart (one q s same e))
      ∙ ap (λ first. option_and_then (λ l. mark_in l (q % 64)) (maps.get lines first)) (sym same)
    where
      one : (q s : ℕ) → q / 64 * 64 ≡ s / 64 * 64 → q % 64 ≡ s % 64 → q ≡ s
      one q s line place = omega arith
  at_other q apart (inr away) = ap (option_and_then (λ l. mark_in l (q % 64))) (get_apart lines (first_of s) line (first_of q) away)

  at_each : (q : ℕ) → (q ≡ s) ⊎ (q ≢ s) → maps.get (starts_of (maps.insert lines (first_of s) line)) q ≡ maps.get (maps.insert (starts_of lines) s v) q
  at_each q (inl same) = rw same (read (maps.insert lines (first_of s) line) s ∙ at_here ∙ sym (get_here (starts_of lines) s v))
  at_each q (inr apart) =
      read (maps.insert lines (first_of s) line) q ∙ at_other q apart (same_or_other (first_of q) (first_of s))
      ∙ sym (read lines q) ∙ sym (get_apart (starts_of lines) s v q apart)

  pub changed : starts_of (maps.insert lines (first_of s) line) ≡ maps.insert (starts_of lines) s v
  changed = maps.same_map nat_cmp_total maps.nat_cmp-IsAntisymmetric _ _ (λ q. at_each q (same_or_other q s))
