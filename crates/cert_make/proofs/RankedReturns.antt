-- The terminators with ranks are those that return.
use Rattle.std.proofs.Common.{◌≡◌, ℕ, zero, suc, ◌+◌, ◌≤◌, Some, subst, arith, inl, inr}
use Rattle.cert_text.specs.declared.lines.ReturnWhy.{ReturnWhy}
use Rattle.cert_text.specs.declared.lines.ReturnWhy.TheVariants.{Itself, To, CallBoth}
use Rattle.cfg_model.specs.Program.Instructions.{InstructionMap, flow_at}
use Rattle.cfg_model.specs.Program.Chain.{OnChain, IsTerminator}
use Rattle.cfg_model.specs.Program.Status.{Returns}
use Rattle.cfg_model.proofs.Program.Along.{returns_along}
use Rattle.cfg_model.proofs.Program.ChainEnds.{one_end}
use Rattle.cert_make.specs.Reason.{EndCounts, ReturnsFor}
use Rattle.cert_make.specs.Rank.{ReturnsBelow}
use Rattle.cert_make.specs.Ranked.{ReturnsHaveRanks}
use Rattle.cert_make.proofs.Ranks.{returns_rise, below_up}
use Rattle.cert_make.proofs.Ends.{leaves_ends, call_ends, end_here, goes_on_or_ends}

by_reason : (map : InstructionMap) (Counts : ℕ → Type 0) → ((k : ℕ) → Counts k → Returns map k) → (k : ℕ) (why : ReturnWhy) → ReturnsFor map Counts k why → Returns map k
by_reason map Counts return k Itself reason = Returns.by_itself reason
by_reason map Counts return k (To target) reason =
    Returns.onward reason.0 (returns_along reason.1.1.reaches (return reason.1.0 reason.1.2))
by_reason map Counts return k CallBoth reason =
    Returns.past_call reason.2 (returns_along reason.3.1.reaches (return reason.3.0 reason.3.2)) (returns_along reason.4.1.reaches (return reason.4.0 reason.4.2))

pub ranked_returns : (map : InstructionMap) (rank k : ℕ) → ReturnsBelow map rank k → Returns map k
unfolding ReturnsBelow
ranked_returns map zero k below = absurd below
ranked_returns map (suc rank) k below = by_reason map (ReturnsBelow map rank) (ranked_returns map rank) k below.0 below.1

-- what a return gives: a rank of the terminator of its chain
abbrev HasRank : InstructionMap → ℕ → Type 0
HasRank map a = (rank : ℕ) × EndCounts map (ReturnsBelow map rank) a

ranked_by : (map : InstructionMap) (rank k : ℕ) (why : ReturnWhy) → IsTerminator map k → ReturnsFor map (ReturnsBelow map rank) k why → HasRank map k
unfolding ReturnsBelow
ranked_by map rank k why ends reason = (suc rank, (k, end_here map k ends, (why, reason)))

end_up : (map : InstructionMap) (rank more a : ℕ) → rank ≤ more → EndCounts map (ReturnsBelow map rank) a → EndCounts map (ReturnsBelow map more) a
end_up map rank more a le end = (end.0, end.1, below_up (ReturnsBelow map) (returns_rise map) rank more end.0 le end.2)

pub return_has_rank : {map : InstructionMap} {a : ℕ} → Returns map a → HasRank map a
return_has_rank {map} {a} (Returns.by_itself leaves) = ranked_by map 0 a Itself (leaves_ends (flow_at map a) leaves) leaves
return_has_rank {map} {a} (Returns.onward {b = b} way back) =
    let next = return_has_rank back in
    elim (goes_on_or_ends map a b way) [
      | inl goes ↦ (next.0, (next.1.0, record { reaches = OnChain.on goes next.1.1.reaches; ends = next.1.1.ends }, next.1.2))
      | inr ends ↦ ranked_by map next.0 a (To b) ends (way, next.1)
    ]
return_has_rank {map} {a} (Returns.past_call {target = target} {fall = fall} call one other) =
    let first = return_has_rank one in
    let second = return_has_rank other in
    let rank = first.0 + second.0 in
    ranked_by map rank a CallBoth (call_ends map a target (Some fall) call) (target, fall, call, end_up map first.0 rank target (omega arith) first.1, end_up map second.0 rank fall (omega arith) second.1)

pub returns_have_ranks : ReturnsHaveRanks
returns_have_ranks map k ends = (
  (λ back.
      let found = return_has_rank back in
      let same : found.1.0 ≡ k = one_end map k found.1.0 k found.1.1 (end_here map k ends) in
      (found.0, subst (λ (x : ℕ). ReturnsBelow map found.0 x) same found.1.2)),
  (λ ranked. ranked_returns map ranked.0 k ranked.1),
)
