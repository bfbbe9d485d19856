use Rattle.std.proofs.Common.{◌≡◌, ◌∙◌, ◌<◌, ℕ, List, arith, get_or, sym, subst, below_more}
use Rattle.std.specs.Prelude.{Contains}
use Rattle.std.proofs.lemmas.Option.{slice_get-get_or}
use Rattle.cfg_model.specs.Program.Instructions.{targets_at}
use Rattle.work_ops.proofs.GoingOn.{rests, goes_on}
use Rattle.work_ops.specs.Done.{IsFollowed}
use Rattle.work_ops.proofs.Reasons.{listed_at, at_number, same_number, followed_more}
use Rattle.work_ops.proofs.edges.follow_table.Goals as goal

pub loop-to-init : goal.loop-to-init
loop-to-init g c =
    (rests _ _ _ _ _ _ c.requires.kept, λ j below. absurd (omega arith))

pub returns-in_err-targets-clause-went : goal.returns-in_err-targets-clause-went
returns-in_err-targets-clause-went g c = rests _ _ _ _ _ _ c.requires.kept

pub follow-requires-clause-way : goal.follow-requires-clause-way
follow-requires-clause-way g c κs within =
    let targets : List ℕ = c.deref-to-items.result.now in
    let to : ℕ = get_or targets c.loop-to.to-index 0 in
    let same : targets ≡ targets_at g.J.Job.map c.args.k = c.deref-to-items.ensures.value ∙ c.in_ok-targets.ensures.targets in
    c.requires.ways to (subst (λ ts. Contains ts to) same (listed_at targets c.loop-to.to-index to (slice_get-get_or targets c.loop-to.to-index 0 c.loop-to-test.true)))

pub returns-in_err-follow-clause-went : goal.returns-in_err-follow-clause-went
returns-in_err-follow-clause-went g c =
    goes_on _ _ _ _ _ _ _ _
    c.loop-to.invariant.0
    c.follow.ensures.went

pub loop-to-preserved : goal.loop-to-preserved
loop-to-preserved g c =
    let targets : List ℕ = c.deref-to-items.result.now in (
      (goes_on _ _ _ _ _ _ _ _
          c.loop-to.invariant.0
          c.follow.ensures.went),
      below_more _ _
          (λ j below to is. followed_more _ _ _ c.follow.ensures.went.remembers c.args.k to (c.loop-to.invariant.1 j below to is))
          (λ to is. subst (λ z. IsFollowed g.J.Job.map (g.P.Place.knows c.follow.new.place) c.args.k z)
          (same_number targets c.loop-to.to-index _ _ (slice_get-get_or targets c.loop-to.to-index 0 c.loop-to-test.true) is) c.in_ok-follow.ensures.followed),
    )

pub returns-clause-followed : goal.returns-clause-followed
returns-clause-followed g c =
    λ to listed.
    let targets : List ℕ = c.deref-to-items.result.now in
    let same : targets ≡ targets_at g.J.Job.map c.args.k = c.deref-to-items.ensures.value ∙ c.in_ok-targets.ensures.targets in
    let found = at_number targets to (subst (λ ts. Contains ts to) (sym same) listed) in
    let below : found.0 < c.loop-to.to-index = omega arith in
    c.loop-to.invariant.1 found.0 below to found.2
