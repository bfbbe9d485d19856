use Rattle.std.proofs.Common.{◌≡◌, ◌+◌, ◌-◌, true, length, sym, ap, ◌∙◌, subst, leb, ltb}
use Rattle.std.proofs.lemmas.Bool.{and_parts, leb-true, ltb-true}
use Rattle.elf_image.specs.Code.{is_code}
use Rattle.chain_index.specs.Found.{IsSectionReaches}
use Rattle.chain_index.specs.Numbers.{codes_below}
use Rattle.chain_index.specs.Inner.{AreRight, IsNumberedIn}
use Rattle.chain_index.proofs.ByNumber.{numbered_there}
use Rattle.chain_index.proofs.index.ChainIndex.section_of.Goals as goal

pub returns-in-Some : goal.returns-in-Some
returns-in-Some c = λ a code is.
    let file = c.self.inside.image.now in
    let kept = c.in-Some.s.now in
    let numbers = c.self.inside.numbers in
    let n = c.args.n in
    let at = c.in-Some.ensures.lookup in
    let all : AreRight file c.deref.result.now = subst (AreRight file) (sym c.deref.ensures.value) c.self.invariant.0.right in
    let right : IsSectionReaches file kept = subst (IsSectionReaches file) (sym at.1) (all _ kept (ltb-true _ _ (sym at.0))) in
    let has = and_parts (leb numbers (n + kept.from)) (ltb (n + kept.from - numbers) (length kept.reaches.items)) (sym c.has_number.ensures ∙ c.if-has_number.true) in
    let code_here : is_code file a ≡ true = subst (λ bytes. is_code bytes a ≡ true) (sym c.self.view_is) code in
    subst (λ bytes. IsNumberedIn bytes a kept) c.self.view_is
    (numbered_there file kept numbers n a right c.self.invariant.1 code_here (is ∙ ap (λ bytes. codes_below bytes a) (sym c.self.view_is)) (leb-true _ _ has.0) (ltb-true _ _ has.1))
