use Rattle.std.proofs.Common.{◌≡◌, ℕ, ◌+◌, ◌*◌, ◌/◌, ◌++◌, List, [], ◌∷◌, refl, sym, ap, ◌∙◌, subst, arith}
use Rattle.std.specs.Prelude.{IfSome, IfNone}
use Rattle.chain_index.specs.declared.lookup.SectionReaches.{SectionReaches}
use Rattle.chain_index.specs.Found.{BeginsAt, IsCodeOf, last_count}
use Rattle.chain_index.specs.Inner.{AreRight, Reaches}
use Rattle.chain_index.proofs.Looking.{IsLeft, last_code, less_left, behind_reaches, none_left, index_of}
use Rattle.chain_index.proofs.over_sections.over_sections.Goals as goal
use Rattle.chain_index.proofs.over_sections.over_sections.Goals.{After-first_reach-behind}

-- the section that is taken is the last of those left
taken : (g : _) (c : After-first_reach-behind g) → IsLeft c.args.image.now (c.pop.new.self.items ++ c.in-Some.s ∷ []) c.loop-s.found.items
taken g c = subst (λ xs. IsLeft c.args.image.now xs c.loop-s.found.items) c.in-Some.ensures.items c.loop-s.invariant.left

code : (g : _) (c : After-first_reach-behind g) → IsCodeOf c.args.image.now c.in-Some.s
code g c = last_code c.args.image.now c.pop.new.self.items c.in-Some.s c.loop-s.found.items (taken g c)

behind : (g : _) (c : After-first_reach-behind g) → Reaches c.args.image.now (c.in-Some.s.address + 2 * (c.in-Some.s.size / 2)) c.first_reach-behind.result
behind g c =
    let bytes = c.args.image.now in
    let s = c.in-Some.s in
    let found : List SectionReaches = c.loop-s.found.items in
    let o = c.first_reach-behind.result in
    let e : ℕ = s.address + s.size / 2 * 2 in
    let at : e ≡ s.address + 2 * (s.size / 2) = omega arith in
    subst (λ a. Reaches bytes a o) at
    (behind_reaches bytes c.pop.new.self.items s found e o (taken g c) at
    (subst (λ xs. IfSome o (λ _. (file : List ℕ) → AreRight file xs → Reaches file e o)) c.deref.ensures.value c.first_reach-behind.ensures.some)
    (subst (λ xs. IfNone o ((file : List ℕ) → AreRight file xs → BeginsAt xs e → ⊥)) c.deref.ensures.value c.first_reach-behind.ensures.none))

pub pass-requires : goal.pass-requires
pass-requires g c =
    let at = (goal.at.pass-requires g c).After-first_reach-behind in
    c.requires.callable _ c.in-Some.s c.first_reach-behind.result c.loop-s.invariant.forms (code g at) (behind g at)

pub loop-s-preserved : goal.loop-s-preserved
loop-s-preserved g c =
    let bytes = c.args.image.now in
    let s = c.in-Some.s in
    let rest = c.pop.new.self.items in
    let found : List SectionReaches = c.loop-s.found.items in
    let kept : SectionReaches = record { address = s.address; offset = s.offset; from = c.in_ok-from.from; reaches = c.in_ok-reaches.reaches } in
    let at = (goal.at.loop-s-preserved g c).After-first_reach-behind in
    let made = c.requires.right _ s c.first_reach-behind.result _ _ c.loop-s.invariant.forms (code g at) (behind g at) c.in_ok-reaches.ensures in
    let from : c.in_ok-from.from ≡ last_count 0 found + s.size / 2 = c.in_ok-from.ensures ∙ ap (λ n. n + s.size / 2) (c.halfwords.ensures ∙ ap (last_count 0) c.deref-in-Some.ensures.value) in
    let more : IsLeft bytes rest (found ++ kept ∷ []) = less_left bytes rest s found kept (taken g at) refl refl made.0 from made.1 in
    let kept_forms = c.requires.keeps _ s c.first_reach-behind.result _ _ c.loop-s.invariant.forms c.in_ok-reaches.ensures in
    record {
      left = subst (IsLeft bytes rest) (sym c.in_ok-push.ensures.items) more;
      forms = kept_forms ∙ c.loop-s.invariant.forms;
    }

pub returns : goal.returns
returns g c = index_of c.args.image.now c.loop-s.left.items c.loop-s.found.items c.loop-s.invariant.left (omega (arith, none_left _ c.in_default.ensures.variant.1))
