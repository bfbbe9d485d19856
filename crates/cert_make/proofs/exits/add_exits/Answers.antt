use Rattle.std.proofs.Common.{◌+◌, ◌∙◌, List, take, refl, sym, ap, subst}
use Rattle.std.specs.Prelude.{Contains}
use Rattle.cfg_model.specs.Graph.Listing.{Gains}
use Rattle.cert_make.specs.declared.exits.Exit.{Exit}
use Rattle.cert_make.specs.Inner.Ends.{IsExitOf}
use Rattle.cert_make.proofs.Exiting.{none_first, none_added, one_added, all_added}
use Rattle.cert_make.proofs.exits.add_exits.Goals as goal
use Rattle.cert_make.proofs.exits.add_exits.Goals.{in-Some+in_ok-push, in_default}

pub loop-a-init : goal.loop-a-init
loop-a-init g c = none_first c.args.places.now.addresses.now c.args.addresses.now c.args.end c.args.exits.now.items

pub loop-a-preserved : goal.loop-a-preserved
loop-a-preserved g c =
    let leaders = c.args.places.now.addresses.now in
    let targets = c.args.addresses.now in
    let i = c.loop-a.a-index in
    let old = c.args.exits.now.items in
    elim c.match-of.branch [
      | in-Some+in_ok-push w ↦
          one_added leaders targets c.args.end i c.loop-a-test.true old c.loop-a.exits.items c.loop-a.invariant c.requires.rise w.in-Some.to (record { end = c.args.end; to = w.in-Some.to }) _ w.in-Some.ensures refl refl
          (ap (λ v. v.items) w.exits-is ∙ w.in_ok-push.ensures.items)
      | in_default w ↦
          subst (λ (xs : List Exit). Gains old xs (IsExitOf leaders (Contains (take (i + 1) targets)) c.args.end)) (sym (ap (λ v. v.items) w.exits-is))
          (none_added leaders targets c.args.end i c.loop-a-test.true old c.loop-a.exits.items c.loop-a.invariant w.in_default.ensures)
    ]

pub returns : goal.returns
returns g c =
    all_added c.args.places.now.addresses.now c.args.addresses.now c.args.end c.loop-a.a-index c.args.exits.now.items c.loop-a.exits.items c.loop-a-test.false c.loop-a.invariant
