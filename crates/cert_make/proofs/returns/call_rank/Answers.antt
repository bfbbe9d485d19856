use Rattle.std.proofs.Common.{◌∙◌, ◌^◌, ◌-◌, ℕ, Option, Some, ap, arith, rules}
use Rattle.cfg_model.specs.declared.flow.Flow.TheVariants.{Call}
use Rattle.cert_make.proofs.Settling.{no_fall, no_return_after, no_target, rank_below, call_rank}
use Rattle.cert_make.proofs.returns.call_rank.Goals as goal

pub returns-in_err-fall-clause-exact : goal.returns-in_err-fall-clause-exact
returns-in_err-fall-clause-exact g c =
    rw c.from_residual.ensures (no_fall (g.C.Chains.map c.args.code.now) c.args.returns.now.lines.now c.args.k c.args.target
    (c.requires.call ∙ ap (λ (o : Option ℕ). Some (Call c.args.target o)) c.in_err-fall.was))

pub returns-in_err-one-clause-exact : goal.returns-in_err-one-clause-exact
returns-in_err-one-clause-exact g c =
    rw c.from_residual-in_err-one.ensures (no_target (g.C.Chains.map c.args.code.now) c.args.returns.now.lines.now c.args.k c.args.target c.in_ok-fall.fall (search rules) c.in_err-one.ensures)

pub returns-in_err-other-clause-exact : goal.returns-in_err-other-clause-exact
returns-in_err-other-clause-exact g c =
    rw c.from_residual-in_err-other.ensures (no_return_after (g.C.Chains.map c.args.code.now) c.args.returns.now.lines.now c.args.k c.args.target c.in_ok-fall.fall (search rules) c.in_err-other.ensures)

pub returns-clause-exact : goal.returns-clause-exact
returns-clause-exact g c =
    call_rank (g.C.Chains.map c.args.code.now) c.args.returns.now.lines.now c.args.k c.args.target c.in_ok-fall.fall (search rules) c.in_ok-one.one c.in_ok-other.other
    c.max.result c.in_ok-one.ensures c.in_ok-other.ensures (omega (arith, c.max.ensures)) (omega (arith, c.max.ensures)) (λ more one other. omega (arith, c.max.ensures, one, other))

pub returns-clause-low : goal.returns-clause-low
returns-clause-low g c =
    let one_low = rank_below (g.C.Chains.map c.args.code.now) c.args.returns.now.lines.now c.in_ok-one.one c.args.target (2 ^ 64 - 1) c.requires.ranks c.in_ok-one.ensures in
    let other_low = rank_below (g.C.Chains.map c.args.code.now) c.args.returns.now.lines.now c.in_ok-other.other c.in_ok-fall.fall (2 ^ 64 - 1) c.requires.ranks c.in_ok-other.ensures in
    omega (arith, c.max.ensures, one_low, other_low)
