-- The closure, terminator by terminator.
use Rattle.std.proofs.Common.{◌≡◌, ℕ, ◌+◌, ◌<◌, ◌≤◌, List, length, take, get_or, IsSome, sym, ap, ◌∙◌, subst, arith, inl, inr}
use Rattle.std.specs.Prelude.{All, Contains}
use Rattle.std.proofs.lemmas.Bool.{cases_order}
use Rattle.std.proofs.lemmas.List.{get_or_default, take_more, take_all}
use Rattle.std.proofs.lemmas.List.Elements.{Contains-push_cases}
use Rattle.cfg_model.specs.Program.Instructions.{InstructionMap}
use Rattle.cfg_model.specs.Program.Chain.{IsTerminator}
use Rattle.cfg_model.specs.Program.Reach.{Reached}
use Rattle.reached_terms.specs.declared.marks.Marks.{Marks}
use Rattle.reached_terms.specs.Reached.{AreReachedTerms}
use Rattle.reached_terms.specs.Sent.{IsSent}
use Rattle.reached_terms.specs.Inner.Closing.{IsFrom, IsSeeded, IsClosing, IsClosure}
use Rattle.reached_terms.specs.Inner.Marks.{IsOn, AreKept, AreRight, AreTold, IsVisited, terms_of}
use Rattle.reached_terms.specs.Inner.Steps.{Grow, Step, IsArrived}
use Rattle.reached_terms.proofs.Complete.{ends_stand, exact, returns_exact, starts_hold, starts_lead}
use Rattle.reached_terms.proofs.Growth.{grow-on, visited-grow}
use Rattle.reached_terms.proofs.Sending.{reached_stands}

pub from-grow : (map : InstructionMap) (number : ℕ → ℕ) (old new : Marks) → Grow old new → (s : ℕ) → IsFrom map number old s → IsFrom map number new s
from-grow map number old new grow s from = record { end = from.end; ends = from.ends; reached = grow.reached (number from.end) from.reached; sent = grow.sent (number s) from.sent }

from-arrived : (map : InstructionMap) (number : ℕ → ℕ) (m : Marks) (s n : ℕ) → IsArrived map number m s n → IsOn m.sent.items (number s) → IsFrom map number m s
from-arrived map number m s n at sent = record { end = at.end; ends = at.ends; reached = subst (λ k. IsOn m.reached.items k) at.is at.reached; sent = sent }

module _ (map : InstructionMap) (number : ℕ → ℕ) (seeds : List ℕ) where
  pub seed-on : (i : ℕ) (old new : Marks) (n : ℕ) → i < length seeds → IsSeeded map number seeds (take i seeds) old → Step map number (λ all. IsSent map all (get_or seeds i 0)) old new → IsArrived map number new (get_or seeds i 0) n → IsOn new.sent.items (number (get_or seeds i 0))
      → new.untold ≡ old.untold → IsSeeded map number seeds (take (i + 1) seeds) new
  seed-on i old new n within so_far step at sent untold = record {
    kept = step.kept;
    right = step.right seeds so_far.right (IsSent.seed (i, within, get_or_default seeds i (get_or seeds i 0) 0 within));
    told = λ m. step.told m 0 (so_far.told m);
    none = ap (λ v. length v.items) untold ∙ so_far.none;
    from = λ s there. elim (Contains-push_cases (take i seeds) (get_or seeds i 0) s (subst (λ xs. Contains xs s) (take_more seeds i 0 within) there)) [
      | inl before ↦ from-grow map number old new step.grow s (so_far.from s before)
      | inr here ↦ subst (IsFrom map number new) here (from-arrived map number new (get_or seeds i 0) n at sent)
    ];
  }

  pub seeds-taken : (i : ℕ) (m : Marks) → length seeds ≤ i → IsSeeded map number seeds (take i seeds) m → IsSeeded map number seeds seeds m
  seeds-taken i m past so_far = subst (λ xs. IsSeeded map number seeds xs m) (take_all i seeds past) so_far

-- ---- one that is visited, and whom that concerns

module _ (map : InstructionMap) (number : ℕ → ℕ) (k : ℕ) (old mid new : Marks) (step : Step map number (λ all. Reached map all k) old mid)
    (kept : AreKept map number new) (grow : Grow mid new) (right : (all : List ℕ) → AreRight map number all mid → AreRight map number all new)
    (told : ((n : ℕ) → AreTold map number mid n 0) → (n : ℕ) → AreTold map number new n 0) (none : length new.untold.items ≡ 0) where
  pub settled-grow : Grow old new
  settled-grow = grow-on old mid new step.grow grow

  pub settled-seeded : (seeds seen : List ℕ) → Reached map seeds k → IsSeeded map number seeds seen old → IsSeeded map number seeds seen new
  settled-seeded seeds seen reached so_far = record {
    kept = kept;
    right = right seeds (step.right seeds so_far.right reached);
    told = told (λ n. step.told n 0 (so_far.told n));
    none = none;
    from = λ s there. from-grow map number old new settled-grow s (so_far.from s there);
  }

-- ---- all that were found

-- The listed terminators before i are visited.
pub record AreClosing (map : InstructionMap) (number : ℕ → ℕ) (start now : Marks) (i : ℕ) : Type 0 where
  pub kept : AreKept map number now
  pub within : i ≤ length now.order.items
  pub closing : (seeds : List ℕ) → IsSeeded map number seeds seeds start → IsClosing map number seeds now i

module _ (map : InstructionMap) (number : ℕ → ℕ) (start : Marks) where
  pub closing-starts : AreKept map number start → AreClosing map number start start 0
  closing-starts kept = record {
    kept = kept;
    within = omega arith;
    closing = λ seeds seeded. record { seeded = seeded; visited = λ j before inside. absurd (omega arith); within = omega arith };
  }

  module _ (i k : ℕ) (old new : Marks) (so_far : AreClosing map number start old i) (inside : i < length old.order.items) (is : k ≡ get_or old.order.items i 0)
      (kept : AreKept map number new) (grow : Grow old new) (visited : IsVisited map number new k)
      (seeded : (seeds seen : List ℕ) → Reached map seeds k → IsSeeded map number seeds seen old → IsSeeded map number seeds seen new) where
    pub ends_here : IsTerminator map k × IsOn old.reached.items (number k)
    ends_here = subst (λ a. IsTerminator map a × IsOn old.reached.items (number a)) (sym is) (so_far.kept.order i 0 inside)

    one_more : (seeds : List ℕ) → IsClosing map number seeds old i → IsClosing map number seeds new (i + 1)
    one_more seeds closing = record {
      seeded = seeded seeds seeds (closing.seeded.right.reached k (ends_stand (map k) ends_here.0) ends_here.1) closing.seeded;
      visited = λ j before there. elim (cases_order j i) [
        | inl same ↦
            let at : get_or new.order.items j 0 ≡ k = ap (λ p. get_or new.order.items p 0) same ∙ grow.same i 0 inside ∙ sym is in
            subst (IsVisited map number new) (sym at) visited
        | inr other ↦ elim other [
          | inl less ↦
              let earlier : j < length old.order.items = omega (arith, less, inside) in
              subst (IsVisited map number new) (sym (grow.same j 0 earlier)) (visited-grow map number old new grow (get_or old.order.items j 0) (closing.visited j less earlier))
          | inr more ↦ absurd (omega arith)
        ]
      ];
      within = omega (arith, inside, grow.more);
    }

    pub closing-on : AreClosing map number start new (i + 1)
    closing-on = record {
      kept = kept;
      within = omega (arith, inside, grow.more);
      closing = λ seeds seeded. one_more seeds (so_far.closing seeds seeded);
    }

  pub closing-ends : (i : ℕ) (now : Marks) → length now.order.items ≤ i → AreClosing map number start now i → (seeds : List ℕ) → IsSeeded map number seeds seeds start → IsClosure map number seeds now
  closing-ends i now past so_far seeds seeded =
      let all : i ≡ length now.order.items = omega (arith, past, so_far.within) in
      subst (IsClosing map number seeds now) all (so_far.closing seeds seeded)

-- ---- the whole closure

module _ (map : InstructionMap) (number : ℕ → ℕ) (seeds : List ℕ) (m : Marks) (closure : IsClosure map number seeds m) where
  all_visited : (k : ℕ) → Contains m.order.items k → IsVisited map number m k
  all_visited k there =
      let at = there.0 in
      let is : get_or m.order.items at 0 ≡ k = get_or_default m.order.items at 0 k there.1 ∙ there.2 in
      subst (IsVisited map number m) is (closure.visited at there.1 there.1)

  pub closed : All (λ s. IsSome (map s)) seeds → AreReachedTerms map number seeds (terms_of m)
  closed known =
      let so_far = closure.seeded in
      record {
        below = so_far.kept.numbering.below;
        sizes = so_far.kept.returns;
        starts_size = so_far.kept.sent;
        known = λ a reached. reached_stands so_far.kept.lawful known reached;
        reached = exact map number seeds known m so_far.kept so_far.right (so_far.told 0) so_far.none all_visited so_far.from;
        ends = λ a on. so_far.kept.ends a on.0 on.1;
        returns = returns_exact map number seeds known m so_far.kept so_far.right (so_far.told 0) so_far.none all_visited so_far.from;
        sent = starts_hold map number seeds known m so_far.kept so_far.right (so_far.told 0) so_far.none all_visited so_far.from;
        leads = starts_lead map number seeds known m so_far.kept so_far.right (so_far.told 0) so_far.none all_visited so_far.from;
      }
