use Rattle.std.proofs.Common.{◌≡◌, ◌↔◌, List, ℕ, Contains, IsTrue, rules, sym, ◌∙◌, subst}
use Rattle.cfg_model.specs.declared.graph.EdgeKind.TheVariants as kinds
use Rattle.cfg_model.specs.contracts.graph.EdgeKind.{the_type}
use Rattle.std.proofs.lemmas.Bool.{not-false}
use Rattle.outline_funcs.proofs.Marks.{tail_found, tail_missing}
use Rattle.outline_funcs.proofs.tails.is_tail.Goals as goal
use denote.Enum.Bare.{same_true}

pub returns-in-Some : goal.returns-in-Some
returns-in-Some c =
    let jump : c.args.edge.kind ≡ kinds.Jump = same_true the_type (search rules) _ _ (not-false _ (sym c.ne.ensures ∙ c.if-ne.false)) in
    let found = c.in-Some.ensures.some in
    let listed = subst (λ (l : List ℕ). IsTrue c.is_listed.result ↔ Contains l c.args.edge.from) c.as_slice.ensures c.is_listed.ensures in
    tail_found c.args.functions.now c.args.edge c.in-Some.function.now c.is_listed.result c.requires jump found.0 found.1 listed

pub returns-in-None : goal.returns-in-None
returns-in-None c = tail_missing c.args.functions.now c.args.edge c.in-None.ensures.none
