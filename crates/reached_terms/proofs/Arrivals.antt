-- A terminator that is found.
use Rattle.std.proofs.Common.{◌≡◌, ℕ, ◌<◌, ◌⊎◌, Bool, true, false, List, [], ◌∷◌, ◌++◌, length, get_or, set, IsSome, refl, sym, ap, ◌∙◌, subst, arith, inl, inr}
use Rattle.std.specs.Prelude.{Contains}
use Rattle.std.proofs.lemmas.List.{get_or_append_left, length_push, length-set}
use Rattle.std.proofs.lemmas.List.Elements.{All-push, Contains-push}
use Rattle.cfg_model.specs.Program.Instructions.{InstructionMap}
use Rattle.cfg_model.specs.Program.Chain.{IsTerminator, IsTerminatorOf, OnChain}
use Rattle.cfg_model.specs.Program.Reach.{Reached}
use Rattle.cfg_model.proofs.Program.Along.{next_is_successor}
use Rattle.reached_terms.specs.declared.marks.Way.{Way}
use Rattle.reached_terms.specs.declared.marks.Marks.{Marks}
use Rattle.reached_terms.specs.Inner.Marks.{IsOn, AreKept, AreRight, AreTold, IsDone}
use Rattle.reached_terms.specs.Inner.Steps.{Grow, Step}
use Rattle.reached_terms.proofs.Bits.{on_set, on_kept, on_cases, one_less}
use Rattle.reached_terms.proofs.Growth.{done-grow, listed-grow}

-- what is reached along a chain
pub reached_on : {map : InstructionMap} {seeds : List ℕ} {a k : ℕ} → OnChain map a k → Reached map seeds a → Reached map seeds k
reached_on OnChain.here reached = reached
reached_on {map} (OnChain.on {a = a} {next = next} goes rest) reached = reached_on rest (Reached.onward reached (next_is_successor map a next goes))

module _ (map : InstructionMap) (number : ℕ → ℕ) (a k : ℕ) (old new : Marks) (kept : AreKept map number old) (ends : IsTerminatorOf map a k) (has : IsSome (map k)) (off : get_or old.reached.items (number k) true ≡ false)
    (reached : new.reached.items ≡ set old.reached.items (number k) true) (order : new.order.items ≡ old.order.items ++ k ∷ [])
    (returns : new.returns ≡ old.returns) (waiting : new.waiting ≡ old.waiting) (ways : new.ways ≡ old.ways) (untold : new.untold ≡ old.untold) (sent : new.sent ≡ old.sent) where
  within : number k < length old.reached.items
  within = kept.numbering.below k has

  size : length new.reached.items ≡ length old.reached.items
  size = ap (λ (xs : List Bool). length xs) reached ∙ length-set old.reached.items (number k) true

  same_returns : new.returns.items ≡ old.returns.items
  same_returns = ap (λ v. v.items) returns

  same_waiting : new.waiting.items ≡ old.waiting.items
  same_waiting = ap (λ v. v.items) waiting

  same_ways : new.ways.items ≡ old.ways.items
  same_ways = ap (λ v. v.items) ways

  same_untold : new.untold.items ≡ old.untold.items
  same_untold = ap (λ v. v.items) untold

  same_sent : new.sent.items ≡ old.sent.items
  same_sent = ap (λ v. v.items) sent

  stays : (n : ℕ) → IsOn old.reached.items n → IsOn new.reached.items n
  stays n on = rw reached (on_kept old.reached.items (number k) within n on)

  arrive_grow : Grow old new
  arrive_grow = record {
    size = size;
    reached = stays;
    returns = λ n on. rw same_returns on;
    ways = λ way there. rw same_ways there;
    more_ways = rw same_ways (omega arith);
    same_ways = λ i d inside. rw same_ways refl;
    more = rw order (omega (arith, length_push old.order.items k));
    same = λ i d inside. rw order (get_or_append_left old.order.items (k ∷ []) d i inside);
    sent = λ x there. rw same_sent there;
    counted = rw (order, reached) (omega (arith, one_less old.reached.items (number k) within off, length_push old.order.items k));
  }

  arrive_kept : AreKept map number new
  arrive_kept = record {
    lawful = kept.lawful;
    numbering = rw size kept.numbering;
    returns = rw (size, same_returns) kept.returns;
    waiting = rw (size, same_waiting) kept.waiting;
    order = rw order (All-push (λ b. IsTerminator map b × IsOn new.reached.items (number b)) old.order.items k
        (λ i d inside. let is = kept.order i d inside in (is.0, stays (number (get_or old.order.items i d)) is.1))
        (ends.ends, rw reached (on_set old.reached.items (number k) within)));
    ends = λ b b_has on. elim (on_cases old.reached.items (number k) within (number b) (rw reached at on)) [
      | inl same ↦ subst (IsTerminator map) (sym (kept.numbering.apart b k b_has has same)) ends.ends
      | inr before ↦ kept.ends b b_has before
    ];
    listed = λ b b_has on. elim (on_cases old.reached.items (number k) within (number b) (rw reached at on)) [
      | inl same ↦
          let is : b ≡ k = kept.numbering.apart b k b_has has same in
          inl (rw order (subst (Contains (old.order.items ++ k ∷ [])) (sym is) (Contains-push old.order.items k)))
      | inr before ↦ listed-grow map number old new arrive_grow b (kept.listed b b_has before)
    ];
    ways = rw same_ways kept.ways;
    untold = rw same_untold kept.untold;
    last = rw (size, same_ways, same_waiting) kept.last;
    before = rw same_ways kept.before;
    sent = rw (size, same_sent) kept.sent;
  }

  arrive_right : (seeds : List ℕ) → AreRight map number seeds old → Reached map seeds a → AreRight map number seeds new
  arrive_right seeds right given = record {
    reached = λ b b_has on. elim (on_cases old.reached.items (number k) within (number b) (rw reached at on)) [
      | inl same ↦
          let is : b ≡ k = kept.numbering.apart b k b_has has same in
          subst (Reached map seeds) (sym is) (reached_on ends.reaches given)
      | inr before ↦ right.reached b b_has before
    ];
    returns = rw same_returns right.returns;
    ways = rw same_ways right.ways;
    untold = rw same_untold right.untold;
    leads = rw same_sent right.leads;
  }

  arrive_told : (p at : ℕ) → AreTold map number old p at → AreTold map number new p at
  arrive_told p at told i d inside on =
      let is : get_or new.ways.items i d ≡ get_or old.ways.items i d = ap (λ xs. get_or xs i d) same_ways in
      let w = get_or old.ways.items i d in
      let before : i < length old.ways.items = rw same_ways at inside in
      let was : IsOn old.returns.items w.to = subst (λ (v : Way). IsOn old.returns.items v.to) is (rw same_returns at on) in
      subst (λ (v : Way). IsDone map number new v ⊎ (Contains new.untold.items v.to ⊎ ((v.to ≡ p) × (i < at)))) (sym is)
      (elim (told i d before was) [
        | inl done ↦ inl (done-grow map number old new arrive_grow w.from w.fall done)
        | inr rest ↦ elim rest [
          | inl there ↦ inr (inl (rw same_untold there))
          | inr behind ↦ inr (inr behind)
        ]
      ])

  pub arrive-step : Step map number (λ seeds. Reached map seeds a) old new
  arrive-step = record { kept = arrive_kept; grow = arrive_grow; right = arrive_right; told = arrive_told; left = rw (same_returns, same_untold) (omega arith) }

  pub arrive-on : IsOn new.reached.items (number k)
  arrive-on = rw reached (on_set old.reached.items (number k) within)
