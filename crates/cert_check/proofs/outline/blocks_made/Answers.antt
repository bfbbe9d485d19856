use Rattle.std.proofs.Common.{◌≡◌, length, refl, sym, subst, arith}
use Rattle.cert_check.specs.Inner.Outlined.{AreMade}
use Rattle.cert_check.proofs.Outlined.{more_made, none_made}
use Rattle.cert_check.proofs.outline.blocks_made.Goals as goal

pub loop-i-init : goal.loop-i-init
loop-i-init g c =
    let map = g.C.Chains.map c.args.code.now in
    subst (AreMade map c.args.leads.now c.args.runs.now 0) (sym c.in_ok-blocks.ensures.items) (none_made map c.args.leads.now c.args.runs.now)

pub loop-i-preserved : goal.loop-i-preserved
loop-i-preserved g c =
    more_made (g.C.Chains.map c.args.code.now) c.args.leads.now c.args.runs.now c.loop-i.i c.loop-i.blocks.items _ c.block_by.result _ _ (omega (arith, c.loop-i-test.true, c.requires.runs.as_many)) c.loop-i-test.true refl refl
    c.loop-i.invariant c.in_ok-push.ensures.items c.block_by.ensures.block

pub returns : goal.returns
returns g c =
    let last : c.loop-i.i ≡ length c.args.leads.now = omega (arith, c.requires.runs.as_many) in
    subst (λ n. AreMade (g.C.Chains.map c.args.code.now) c.args.leads.now c.args.runs.now n c.loop-i.blocks.items) last c.loop-i.invariant
