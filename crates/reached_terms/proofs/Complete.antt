-- Where all that was found is visited and told, everything reached is marked.
use Rattle.std.proofs.Common.{◌≡◌, ℕ, ◌⊎◌, ◌↔◌, List, [], length, get_or, Option, Some, None, IsSome, refl, sym, ap, subst, arith, inl, inr}
use Rattle.std.specs.Prelude.{All, Contains}
use Rattle.std.specs.Option.{option_map}
use Rattle.cfg_model.specs.declared.flow.Flow.{Flow}
use Rattle.cfg_model.specs.declared.flow.Flow.TheVariants.{Straight, Branch, Jump, Call, IndirectCall, Table, Return, Unknown, Stop}
use Rattle.cfg_model.specs.Program.Instructions.{Instruction, InstructionMap, flow_at, targets_at}
use Rattle.cfg_model.specs.Program.Chain.{IsTerminator, IsTerminatorOf, OnChain, EndsChain}
use Rattle.cfg_model.specs.Program.Successors.{IsCall, LeavesFunction, successors_of_flow}
use Rattle.cfg_model.specs.Program.Reach.{Reached}
use Rattle.cfg_model.specs.Program.Status.{Returns}
use Rattle.cfg_model.specs.Graph.Leader.{IsLeader}
use Rattle.cfg_model.proofs.Program.ChainEnds.{end_from, one_end}
use Rattle.cfg_model.proofs.Program.ChainPlaces.{ends_at}
use Rattle.cfg_model.proofs.Program.Listed.{none_in, in_cases}
use Rattle.reached_terms.specs.declared.marks.Way.{Way}
use Rattle.reached_terms.specs.declared.marks.Marks.{Marks}
use Rattle.reached_terms.specs.Sent.{IsSent}
use Rattle.reached_terms.specs.Inner.Closing.{IsFrom}
use Rattle.reached_terms.proofs.Sending.{sends, falls, sent_reached, reached_stands}
use Rattle.reached_terms.specs.Inner.Marks.{IsOn, HasWay, AreKept, AreRight, AreTold, IsVisited, IsDoneBy, IsLed, IsCalled}

-- ---- terminators

-- what leaves the function ends its chain
leaves_ends : (o : Option Flow) → LeavesFunction o → EndsChain o
leaves_ends None leaves = leaves
leaves_ends (Some (Straight next)) leaves = leaves
leaves_ends (Some (Branch taken fall)) leaves = tt
leaves_ends (Some (Jump target)) leaves = tt
leaves_ends (Some (Call target fall)) leaves = tt
leaves_ends (Some (IndirectCall fall)) leaves = tt
leaves_ends (Some (Table entries full is_open)) leaves = tt
leaves_ends (Some Return) leaves = tt
leaves_ends (Some Unknown) leaves = tt
leaves_ends (Some Stop) leaves = tt

-- a terminator stands there
pub ends_stand : (o : Option Instruction) → EndsChain (option_map (λ i. i.flow) o) → IsSome o
ends_stand None ends = absurd ends
ends_stand (Some i) ends = refl

-- what has a successor goes straight on to it, or ends its chain
on_or_ends : (kept : List ℕ) (o : Option Flow) (b : ℕ) → Contains (successors_of_flow kept o) b → (o ≡ Some (Straight b)) ⊎ EndsChain o
on_or_ends kept None b there = absurd (none_in b there)
on_or_ends kept (Some (Straight next)) b there = elim (in_cases next [] b there) [
  | inl same ↦ inl (ap (λ n. Some (Straight n)) same)
  | inr none ↦ absurd (none_in b none)
]
on_or_ends kept (Some (Branch taken fall)) b there = inr tt
on_or_ends kept (Some (Jump target)) b there = inr tt
on_or_ends kept (Some (Call target fall)) b there = inr tt
on_or_ends kept (Some (IndirectCall fall)) b there = inr tt
on_or_ends kept (Some (Table entries full is_open)) b there = inr tt
on_or_ends kept (Some Return) b there = inr tt
on_or_ends kept (Some Unknown) b there = inr tt
on_or_ends kept (Some Stop) b there = inr tt

call_ends : (map : InstructionMap) (a target : ℕ) (fall : Option ℕ) → IsCall map a target fall → IsTerminator map a
call_ends map a target fall call = subst EndsChain (sym call) tt

-- ---- the closure

module _ (map : InstructionMap) (number : ℕ → ℕ) (seeds : List ℕ) (known : All (λ s. IsSome (map s)) seeds) (m : Marks)
    (kept : AreKept map number m) (right : AreRight map number seeds m) (told : AreTold map number m 0 0) (none : length m.untold.items ≡ 0)
    (visited : (k : ℕ) → Contains m.order.items k → IsVisited map number m k)
    (from_seeds : (s : ℕ) → Contains seeds s → IsFrom map number m s) where
  done_at : (from to : ℕ) (fall : Option ℕ) (has : HasWay m.ways.items from to fall) → IsOn m.returns.items to → IsDoneBy map number m has.way.from has.way.fall
  done_at from to fall has on =
      let i = has.there.0 in
      let is : get_or m.ways.items i has.way ≡ has.way = has.there.2 in
      let there : IsOn m.returns.items (get_or m.ways.items i has.way).to =
      subst (λ (w : Way). IsOn m.returns.items w.to) (sym is) (subst (λ n. IsOn m.returns.items n) (sym has.to_is) on) in
      elim (told i has.way has.there.1 there) [
        | inl done ↦ subst (λ (w : Way). IsDoneBy map number m w.from w.fall) is done
        | inr rest ↦ elim rest [
          | inl untold ↦ absurd (omega (arith, untold.1, none))
          | inr before ↦ absurd (omega (arith, before.1))
        ]
      ]

  -- what follows of each way is marked
  done : (from to : ℕ) (fall : Option ℕ) → HasWay m.ways.items from to fall → IsOn m.returns.items to → IsDoneBy map number m from fall
  done from to fall has on =
      subst (λ f. IsDoneBy map number m from f) has.fall_is
      (subst (λ n. IsDoneBy map number m n has.way.fall) has.from_is (done_at from to fall has on))

  visit_of : (k : ℕ) → IsTerminator map k → IsOn m.reached.items (number k) → IsVisited map number m k
  visit_of k ends on = elim (kept.listed k (ends_stand (map k) ends) on) [
    | inl there ↦ visited k there
    | inr before ↦ before
  ]

  returns_led : (a b : ℕ) → (led : IsLed map number m (number a) b) → IsOn m.returns.items (number led.end) → IsOn m.returns.items (number a)
  returns_led a b led on = elim led.way [
    | inl already ↦ already
    | inr way ↦ done (number a) (number led.end) None way on
  ]

  -- a call whose target returns goes on at its fall
  goes_on : (a target fall : ℕ) → (called : IsCalled map number m (number a) target (Some fall)) → IsOn m.returns.items (number called.end) → IsLed map number m (number a) fall
  goes_on a target fall called on = elim called.way [
    | inl led ↦ led
    | inr way ↦ done (number a) (number called.end) (Some fall) way on
  ]

  returns_marked : {a : ℕ} → Returns map a → (t : ℕ) → IsTerminatorOf map a t → IsOn m.reached.items (number t) → IsOn m.returns.items (number t)
  returns_marked (Returns.by_itself {a = a} leaves) t ends on =
      let here : a ≡ t = ends_at map a t (leaves_ends (flow_at map a) leaves) ends.reaches in
      subst (λ k. IsOn m.returns.items (number k)) here
      ((visit_of a (leaves_ends (flow_at map a) leaves) (subst (λ k. IsOn m.reached.items (number k)) (sym here) on)).itself leaves)
  returns_marked (Returns.onward {a = a} {b = b} next returns) t ends on = elim (on_or_ends (targets_at map a) (flow_at map a) b next) [
    | inl goes ↦ returns_marked returns t (end_from map a b t (OnChain.on goes OnChain.here) ends) on
    | inr stops ↦
        let here : a ≡ t = ends_at map a t stops ends.reaches in
        let led = (visit_of a stops (subst (λ k. IsOn m.reached.items (number k)) (sym here) on)).onward b next in
        subst (λ k. IsOn m.returns.items (number k)) here
        (returns_led a b led (returns_marked returns led.end led.ends led.reached))
  ]
  returns_marked (Returns.past_call {a = a} {target = target} {fall = fall} call first second) t ends on =
      let stops = call_ends map a target (Some fall) call in
      let here : a ≡ t = ends_at map a t stops ends.reaches in
      let called = (visit_of a stops (subst (λ k. IsOn m.reached.items (number k)) (sym here) on)).called target (Some fall) call in
      let led = goes_on a target fall called (returns_marked first called.end called.ends called.reached) in
      subst (λ k. IsOn m.returns.items (number k)) here
      (returns_led a fall led (returns_marked second led.end led.ends led.reached))

  same_end : (b e t : ℕ) → IsTerminatorOf map b e → IsTerminatorOf map b t → IsOn m.reached.items (number e) → IsOn m.reached.items (number t)
  same_end b e t one other on = subst (λ k. IsOn m.reached.items (number k)) (one_end map b e t one other) on

  reached_marked : {a : ℕ} → Reached map seeds a → (t : ℕ) → IsTerminatorOf map a t → IsOn m.reached.items (number t)
  reached_marked (Reached.seed {a = a} there) t ends = let at = from_seeds a there in same_end a at.end t at.ends ends at.reached
  reached_marked (Reached.onward {a = a} {b = b} reached next) t ends = elim (on_or_ends (targets_at map a) (flow_at map a) b next) [
    | inl goes ↦ reached_marked reached t (record { reaches = OnChain.on goes ends.reaches; ends = ends.ends })
    | inr stops ↦
        let led = (visit_of a stops (reached_marked reached a (record { reaches = OnChain.here; ends = stops }))).onward b next in
        same_end b led.end t led.ends ends led.reached
  ]
  reached_marked (Reached.called {a = a} {target = target} {fall = fall} reached call) t ends =
      let stops = call_ends map a target fall call in
      let called = (visit_of a stops (reached_marked reached a (record { reaches = OnChain.here; ends = stops }))).called target fall call in
      same_end target called.end t called.ends ends called.reached
  reached_marked (Reached.past_call {a = a} {target = target} {fall = fall} reached call returns) t ends =
      let stops = call_ends map a target (Some fall) call in
      let called = (visit_of a stops (reached_marked reached a (record { reaches = OnChain.here; ends = stops }))).called target (Some fall) call in
      let led = goes_on a target fall called (returns_marked returns called.end called.ends called.reached) in
      same_end fall led.end t led.ends ends led.reached

  -- where control is sent is marked
  sent_marked : (a : ℕ) → IsSent map seeds a → IsOn m.sent.items (number a)
  sent_marked a (IsSent.seed there) = (from_seeds a there).sent
  sent_marked a (IsSent.target {k = k} {flow = flow} reached at there) =
      let from = sends map k a flow at there in
      let visit = visit_of k from.0 (reached_marked reached k (record { reaches = OnChain.here; ends = from.0 })) in
      elim from.1 [
        | inl next ↦ (visit.onward a next).sent
        | inr call ↦ (visit.called a call.0 call.1).sent
      ]
  sent_marked a (IsSent.fall {k = k} {flow = flow} reached at is) =
      let from = falls map k a flow at is in
      ((visit_of k from.0 (reached_marked reached k (record { reaches = OnChain.here; ends = from.0 }))).onward a from.1).sent
  sent_marked a (IsSent.past_call {k = k} {target = target} reached call returns) =
      let stops = call_ends map k target (Some a) call in
      let called = (visit_of k stops (reached_marked reached k (record { reaches = OnChain.here; ends = stops }))).called target (Some a) call in
      (goes_on k target a called (returns_marked returns called.end called.ends called.reached)).sent

  pub exact : (k : ℕ) → IsTerminator map k → IsOn m.reached.items (number k) ↔ Reached map seeds k
  exact k ends = (
    λ on. right.reached k (ends_stand (map k) ends) on,
    λ reached. reached_marked reached k (record { reaches = OnChain.here; ends = ends }),
  )

  pub returns_exact : (k : ℕ) → IsTerminator map k → Reached map seeds k → IsOn m.returns.items (number k) ↔ Returns map k
  returns_exact k ends reached = (
    λ on. right.returns (number k) on k (ends_stand (map k) ends) refl,
    λ returns.
        let here : IsTerminatorOf map k k = record { reaches = OnChain.here; ends = ends } in
        returns_marked returns k here (reached_marked reached k here),
  )

  pub starts_hold : (a : ℕ) → IsSent map seeds a → IsSome (map a) × IsOn m.sent.items (number a)
  starts_hold a sent = (reached_stands kept.lawful known (sent_reached map seeds a sent), sent_marked a sent)

  pub starts_lead : (a : ℕ) → IsSome (map a) × IsOn m.sent.items (number a) → IsLeader map seeds a
  starts_lead a on = right.leads a on.0 on.1
