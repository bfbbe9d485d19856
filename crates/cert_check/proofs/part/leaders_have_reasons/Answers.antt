use Rattle.std.proofs.Common.{ℕ, List, sym, subst}
use Rattle.std.specs.Prelude.{Contains}
use Rattle.cert_check.specs.Inner.Jumps.{IsForest}
use Rattle.cert_check.proofs.Along.{forest_of}
use Rattle.cert_check.proofs.Decided.{all_same_seeds}
use Rattle.cert_check.proofs.part.leaders_have_reasons.Goals as goal

pub jumps_of-requires-clause-forest : goal.jumps_of-requires-clause-forest
jumps_of-requires-clause-forest g c =
    subst IsForest (sym c.as_slice-runs.ensures.value)
    (forest_of (g.C.Chains.map c.args.code.now) c.args.part.now.leads c.know_laws.ensures c.requires.leads c.args.blocks.now.runs.items c.requires.blocks.runs)

pub returns : goal.returns
returns g c =
    let map = g.C.Chains.map c.args.code.now in
    let part = c.args.part.now in
    let seeds = c.args.seeds.now in
    let sorted = c.as_slice-seeds.result.now in
    let copied = c.in_ok-from_slice.ensures.items in (
      λ e. all_same_seeds map sorted seeds part
          (λ a h. subst (λ (xs : List ℕ). Contains xs a) copied ((c.rising-sorted.ensures.same a).0 (subst (λ (xs : List ℕ). Contains xs a) c.as_slice-seeds.ensures.value h)))
          (c.leads_have_reasons-right.ensures.0 e),
      λ all. c.leads_have_reasons-right.ensures.1
          (all_same_seeds map seeds sorted part
          (λ a h. subst (λ (xs : List ℕ). Contains xs a) (sym c.as_slice-seeds.ensures.value) ((c.rising-sorted.ensures.same a).1 (subst (λ (xs : List ℕ). Contains xs a) (sym copied) h)))
          all),
    )
