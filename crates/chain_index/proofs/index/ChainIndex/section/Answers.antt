use Rattle.std.proofs.Common.{◌≡◌, ◌-◌, ◌/◌, true, length, sym, ◌∙◌, subst, leb, ltb}
use Rattle.std.proofs.lemmas.Bool.{and_parts, leb-true, ltb-true}
use Rattle.elf_image.specs.Code.{is_code}
use Rattle.chain_index.specs.Found.{IsSectionReaches}
use Rattle.chain_index.specs.Inner.{AreRight, IsReachedAt}
use Rattle.chain_index.proofs.Looking.{reached}
use Rattle.chain_index.proofs.index.ChainIndex.section.Goals as goal

pub returns-in-Some : goal.returns-in-Some
returns-in-Some c =
    let file = c.self.inside.image.now in
    let kept = c.in-Some.s.now in
    let at = c.in-Some.ensures.lookup in
    let all : AreRight file c.deref.result.now = subst (AreRight file) (sym c.deref.ensures.value) c.self.invariant.0.right in
    let right : IsSectionReaches file kept = subst (IsSectionReaches file) (sym at.1) (all _ kept (ltb-true _ _ (sym at.0))) in
    let holds = and_parts (leb kept.address c.args.a) (ltb ((c.args.a - kept.address) / 2) (length kept.reaches.items)) (sym c.holds.ensures ∙ c.if-holds.true) in
    let code : is_code file c.args.a ≡ true = subst (λ bytes. is_code bytes c.args.a ≡ true) (sym c.self.view_is) c.requires in
    subst (λ bytes. IsReachedAt bytes c.args.a kept) c.self.view_is
    (reached file c.args.a kept code right (leb-true _ _ holds.0) (ltb-true _ _ holds.1))
