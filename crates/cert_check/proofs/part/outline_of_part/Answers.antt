use Rattle.std.proofs.Common.{refl, sym, ◌∙◌}
use Rattle.cert_check.proofs.Each.{false_true}
use Rattle.cert_check.proofs.Decided.{match_on, valid_by, valid_ends, valid_formed, valid_leaders}
use Rattle.cert_check.proofs.Outlined.{outlined}
use Rattle.cert_check.proofs.part.outline_of_part.Goals as goal

pub returns-then-not-is_formed : goal.returns-then-not-is_formed
returns-then-not-is_formed g c = λ valid. false_true (c.if-not-is_formed.ensures.exact.1 (valid_formed (g.C.Chains.map c.args.code.now) c.args.seeds.now c.args.part.now valid))

pub returns-then-not-branch : goal.returns-then-not-branch
returns-then-not-branch g c = λ valid. false_true (sym c.if-not-branch.true ∙ c.in_ok-ends_are_right.ensures.1 (valid_ends (g.C.Chains.map c.args.code.now) c.args.seeds.now c.args.part.now valid))

pub returns : goal.returns
returns g c =
    let map = g.C.Chains.map c.args.code.now in
    let seeds = c.args.seeds.now in
    let part = c.args.part.now in
    let formed = c.if-not-is_formed.ensures.exact.0 refl in
    let ends = c.in_ok-ends_are_right.ensures.0 c.if-not-branch.false in
    match_on c.in_ok-found.found c.in_ok-found.ensures (λ none valid. none (valid_leaders map seeds part valid))
    (λ outline right.
    let valid = valid_by map seeds part formed ends right.0 in
    (valid, outlined map seeds part outline c.know_laws.ensures valid right.1))
