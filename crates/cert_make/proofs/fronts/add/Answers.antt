use Rattle.std.proofs.Common.{List, sym, subst}
use Rattle.std.specs.Prelude.{◌⊎◌, ◌≡◌, Contains}
use Rattle.cert_make.specs.declared.fronts.Source.{Source}
use Rattle.cert_make.specs.Inner.Fronts.{IsFrontOf}
use Rattle.cert_make.proofs.Sources.{front_skip, front_push}
use Rattle.cert_make.proofs.fronts.add.Goals as goal

pub returns-then-last_covers : goal.returns-then-last_covers
returns-then-last_covers c =
    let found = c.last_covers.ensures c.if-last_covers.true in
    front_skip c.args.front.now.items found.0 c.args.source (subst (λ (xs : List Source). Contains xs found.0) c.as_slice.ensures.value found.1) found.2

pub returns : goal.returns
returns c =
    subst (λ (xs : List Source). IsFrontOf (λ s. Contains c.args.front.now.items s ⊎ (s ≡ c.args.source)) xs) (sym c.in_ok-push.ensures.items) (front_push c.args.front.now.items c.args.source)
