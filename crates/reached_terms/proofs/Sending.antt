-- Where control is sent: from which instructions, and that it is reached.
use Rattle.std.proofs.Common.{◌≡◌, ℕ, ◌<◌, ◌⊎◌, true, List, [], length, get_or, set, Option, Some, IsSome, refl, sym, ap, ◌∙◌, subst, arith, inl, inr}
use Rattle.std.specs.Prelude.{All, Contains, option_to_list}
use Rattle.std.proofs.lemmas.Option.{none-some}
use Rattle.std.proofs.lemmas.List.{length-set}
use Rattle.std.proofs.lemmas.List.Elements.{All-contains, Contains-append_left}
use Rattle.cfg_model.specs.declared.flow.Flow.{Flow}
use Rattle.cfg_model.specs.declared.flow.Flow.TheVariants.{Straight, Branch, Jump, Call, IndirectCall, Table, Return, Unknown, Stop}
use Rattle.cfg_model.specs.Program.Instructions.{InstructionMap, IsLawful, flow_at, targets_at}
use Rattle.cfg_model.specs.Program.Chain.{IsTerminator, EndsChain}
use Rattle.cfg_model.specs.Program.Successors.{IsSuccessor, IsCall}
use Rattle.cfg_model.specs.Program.Reach.{Reached}
use Rattle.cfg_model.specs.Graph.Leader.{IsLeader, StartsBlock, targets_by, fall_by}
use Rattle.cfg_model.proofs.Program.Known.{successor_from_flow, successor_known, target_known, fall_known}
use Rattle.cfg_model.proofs.Program.Landing.{landing_follows, may_land}
use Rattle.cfg_model.proofs.Program.Listed.{none_in, in_cases}
use Rattle.reached_terms.specs.declared.marks.Way.{Way}
use Rattle.reached_terms.specs.declared.marks.Marks.{Marks}
use Rattle.reached_terms.specs.Sent.{IsSent}
use Rattle.reached_terms.specs.Inner.Marks.{IsOn, AreKept, AreRight, AreTold, IsDone}
use Rattle.reached_terms.specs.Inner.Steps.{Grow, Step}
use Rattle.reached_terms.proofs.Growth.{done-grow, listed-grow, step-on}
use Rattle.reached_terms.proofs.Bits.{on_kept, on_cases}
use Rattle.reached_terms.proofs.Visits.{in_second, in_one}

-- an instruction that sends control on ends its chain, and goes on there or calls it
pub sends : (map : InstructionMap) (k a : ℕ) (flow : Flow) → flow_at map k ≡ Some flow → Contains (targets_by (targets_at map k) flow) a
    → IsTerminator map k × (IsSuccessor map k a ⊎ ((fall : Option ℕ) × IsCall map k a fall))
sends map k a (Straight next) at there = absurd (none_in a there)
sends map k a (Branch taken fall) at there = (
  subst EndsChain (sym at) tt,
  inl (successor_from_flow map k (Branch taken fall) at a (Contains-append_left (option_to_list taken) (option_to_list fall) a there)),
)
sends map k a (Jump target) at there = (subst EndsChain (sym at) tt, inl (successor_from_flow map k (Jump target) at a there))
sends map k a (Call target fall) at there = (
  subst EndsChain (sym at) tt,
  elim (in_cases target (targets_at map k) a there) [
    | inl same ↦ inr (fall, subst (λ t. flow_at map k ≡ Some (Call t fall)) same at)
    | inr lands ↦ inl (landing_follows map k a (may_land map k (Call target fall) at tt) lands)
  ],
)
sends map k a (IndirectCall fall) at there = (
  subst EndsChain (sym at) tt,
  inl (landing_follows map k a (may_land map k (IndirectCall fall) at tt) there),
)
sends map k a (Table entries full is_open) at there = (subst EndsChain (sym at) tt, inl (successor_from_flow map k (Table entries full is_open) at a there))
sends map k a Return at there = absurd (none_in a there)
sends map k a Unknown at there = absurd (none_in a there)
sends map k a Stop at there = absurd (none_in a there)

-- the same of one that falls on
pub falls : (map : InstructionMap) (k a : ℕ) (flow : Flow) → flow_at map k ≡ Some flow → fall_by flow ≡ Some a → IsTerminator map k × IsSuccessor map k a
falls map k a (Straight next) at is = absurd (none-some a is)
falls map k a (Branch taken fall) at is = (subst EndsChain (sym at) tt, successor_from_flow map k (Branch taken fall) at a (in_second taken fall a is))
falls map k a (Jump target) at is = absurd (none-some a is)
falls map k a (Call target fall) at is = absurd (none-some a is)
falls map k a (IndirectCall fall) at is = (subst EndsChain (sym at) tt, successor_from_flow map k (IndirectCall fall) at a (Contains-append_left (option_to_list fall) (targets_at map k) a (in_one fall a is)))
falls map k a (Table entries full is_open) at is = absurd (none-some a is)
falls map k a Return at is = absurd (none-some a is)
falls map k a Unknown at is = absurd (none-some a is)
falls map k a Stop at is = absurd (none-some a is)

pub sent_reached : (map : InstructionMap) (seeds : List ℕ) (a : ℕ) → IsSent map seeds a → Reached map seeds a
sent_reached map seeds a (IsSent.seed there) = Reached.seed there
sent_reached map seeds a (IsSent.target {k = k} {flow = flow} reached at there) = elim (sends map k a flow at there).1 [
  | inl next ↦ Reached.onward reached next
  | inr call ↦ Reached.called reached call.1
]
sent_reached map seeds a (IsSent.fall {k = k} {flow = flow} reached at is) = Reached.onward reached (falls map k a flow at is).1
sent_reached map seeds a (IsSent.past_call reached call returns) = Reached.past_call reached call returns

-- a block starts where control is sent
sent_starts : {map : InstructionMap} {seeds : List ℕ} {a : ℕ} → IsSent map seeds a → StartsBlock map seeds a
sent_starts (IsSent.seed there) = StartsBlock.seed there
sent_starts (IsSent.target reached at there) = StartsBlock.target reached at there
sent_starts (IsSent.fall reached at is) = StartsBlock.fall reached at is
sent_starts (IsSent.past_call reached call returns) = StartsBlock.past_call reached call returns

pub sent_leads : (map : InstructionMap) (seeds : List ℕ) (a : ℕ) → IsSent map seeds a → IsLeader map seeds a
sent_leads map seeds a sent = record { reached = sent_reached map seeds a sent; starts = sent_starts sent }

-- what is reached from seeds that stand there does too
pub reached_stands : {map : InstructionMap} {seeds : List ℕ} {a : ℕ} → IsLawful map → All (λ s. IsSome (map s)) seeds → Reached map seeds a → IsSome (map a)
reached_stands {map} {seeds} lawful known (Reached.seed {a = a} there) = All-contains (λ s. IsSome (map s)) seeds a known there
reached_stands {map} lawful known (Reached.onward {a = a} {b = b} from next) = successor_known map lawful a b next
reached_stands {map} lawful known (Reached.called {a = a} {target = target} from call) = target_known map lawful a target call
reached_stands {map} lawful known (Reached.past_call {a = a} {target = target} {fall = fall} from call returns) = fall_known map lawful a target fall call

-- ---- an address that is noted

module _ (map : InstructionMap) (number : ℕ → ℕ) (a : ℕ) (has : IsSome (map a)) (old new : Marks) (kept : AreKept map number old)
    (reached : new.reached ≡ old.reached) (returns : new.returns ≡ old.returns) (waiting : new.waiting ≡ old.waiting) (order : new.order ≡ old.order) (ways : new.ways ≡ old.ways) (untold : new.untold ≡ old.untold)
    (sent : new.sent.items ≡ set old.sent.items (number a) true) where
  within : number a < length old.sent.items
  within = omega (arith, kept.numbering.below a has, kept.sent)

  s_reached : new.reached.items ≡ old.reached.items
  s_reached = ap (λ v. v.items) reached

  s_returns : new.returns.items ≡ old.returns.items
  s_returns = ap (λ v. v.items) returns

  s_waiting : new.waiting.items ≡ old.waiting.items
  s_waiting = ap (λ v. v.items) waiting

  s_order : new.order.items ≡ old.order.items
  s_order = ap (λ v. v.items) order

  s_ways : new.ways.items ≡ old.ways.items
  s_ways = ap (λ v. v.items) ways

  s_untold : new.untold.items ≡ old.untold.items
  s_untold = ap (λ v. v.items) untold

  note_grow : Grow old new
  note_grow = record {
    size = rw s_reached refl;
    reached = λ m on. rw s_reached on;
    returns = λ m on. rw s_returns on;
    ways = λ way there. rw s_ways there;
    more_ways = rw s_ways (omega arith);
    same_ways = λ i d inside. rw s_ways refl;
    more = rw s_order (omega arith);
    same = λ i d inside. rw s_order refl;
    sent = λ n on. rw sent (on_kept old.sent.items (number a) within n on);
    counted = rw (s_reached, s_order) refl;
  }

  note_kept : AreKept map number new
  note_kept = record {
    lawful = kept.lawful;
    numbering = rw s_reached kept.numbering;
    returns = rw (s_reached, s_returns) kept.returns;
    waiting = rw (s_reached, s_waiting) kept.waiting;
    order = rw (s_reached, s_order) kept.order;
    ends = rw s_reached kept.ends;
    listed = λ k k_has on. listed-grow map number old new note_grow k (kept.listed k k_has (rw s_reached at on));
    ways = rw s_ways kept.ways;
    untold = rw s_untold kept.untold;
    last = rw (s_reached, s_ways, s_waiting) kept.last;
    before = rw s_ways kept.before;
    sent = rw (s_reached, sent) (length-set old.sent.items (number a) true ∙ kept.sent);
  }

  note_right : (seeds : List ℕ) → AreRight map number seeds old → IsSent map seeds a → AreRight map number seeds new
  note_right seeds right given = record {
    reached = rw s_reached right.reached;
    returns = rw s_returns right.returns;
    ways = rw s_ways right.ways;
    untold = rw s_untold right.untold;
    leads = λ b b_has on. elim (on_cases old.sent.items (number a) within (number b) (rw sent at on)) [
      | inl same ↦
          let is : b ≡ a = kept.numbering.apart b a b_has has same in
          subst (IsLeader map seeds) (sym is) (sent_leads map seeds a given)
      | inr before ↦ right.leads b b_has before
    ];
  }

  note_told : (p at : ℕ) → AreTold map number old p at → AreTold map number new p at
  note_told p at told i d inside on =
      let is : get_or new.ways.items i d ≡ get_or old.ways.items i d = ap (λ xs. get_or xs i d) s_ways in
      let w = get_or old.ways.items i d in
      let was : IsOn old.returns.items w.to = subst (λ (v : Way). IsOn old.returns.items v.to) is (rw s_returns at on) in
      subst (λ (v : Way). IsDone map number new v ⊎ (Contains new.untold.items v.to ⊎ ((v.to ≡ p) × (i < at)))) (sym is)
      (elim (told i d (rw s_ways at inside) was) [
        | inl done ↦ inl (done-grow map number old new note_grow w.from w.fall done)
        | inr rest ↦ elim rest [
          | inl there ↦ inr (inl (rw s_untold there))
          | inr behind ↦ inr (inr behind)
        ]
      ])

  pub note-step : Step map number (λ seeds. IsSent map seeds a) old new
  note-step = record { kept = note_kept; grow = note_grow; right = note_right; told = note_told; left = rw (s_returns, s_untold) (omega arith) }

-- and its terminator is marked
pub note-reach : (map : InstructionMap) (number : ℕ → ℕ) (a : ℕ) (old mid last : Marks) → Step map number (λ seeds. IsSent map seeds a) old mid → Step map number (λ seeds. Reached map seeds a) mid last
    → Step map number (λ seeds. IsSent map seeds a) old last
note-reach map number a old mid last noted step = step-on map number (λ seeds. IsSent map seeds a) (λ seeds. Reached map seeds a) (λ seeds. IsSent map seeds a) old mid last noted step
    (λ seeds right given. given) (λ seeds right given. sent_reached map seeds a given)
