use Rattle.std.proofs.Common.{subst, arith}
use Rattle.std.proofs.lemmas.Bool.{eqb-true, eq-eqb}
use Rattle.cert_check.specs.Inner.Jumps.{LeadsAlong}
use Rattle.cert_check.proofs.Jumping.{along_on, along_up}
use Rattle.cert_check.proofs.jumps.leads_along.Goals as goal

pub loop-at-init : goal.loop-at-init
loop-at-init c = record { within = c.requires.from; along = LeadsAlong.here; onward = λ h. h }

pub loop-at-preserved : goal.loop-at-preserved
loop-at-preserved c = record {
  within = c.in-Some.ensures.1;
  along = along_on c.loop-at.invariant.along c.in-Some.ensures.2;
  onward = λ h. c.in-Some.ensures.3 (c.loop-at.invariant.onward h);
}

pub returns : goal.returns
returns c = (
  λ e. subst (LeadsAlong c.args.runs.now c.args.from) (eqb-true _ _ e) c.loop-at.invariant.along,
  λ h. eq-eqb _ _ (omega (arith, along_up c.requires.forest (c.loop-at.invariant.onward h), c.loop-at-test.false)),
)
