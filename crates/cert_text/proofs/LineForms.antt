-- A line that is read is the line that was written, and what was written is read again.
use Rattle.std.proofs.Common.{◌≡◌, ℕ, List, ◌∷◌, ◌++◌, Option, Some, None, refl, sym, ap, subst, ◌∙◌, append_assoc, inl, inr}
use Rattle.std.specs.Prelude.{codes, decimal}
use Rattle.cert_text.specs.declared.lines.ReturnLine.{ReturnLine}
use Rattle.cert_text.specs.declared.lines.ReturnWhy.{ReturnWhy}
use Rattle.cert_text.specs.declared.lines.ReturnWhy.TheVariants.{Itself, To, CallBoth}
use Rattle.cert_text.specs.declared.lines.LeadLine.{LeadLine}
use Rattle.cert_text.specs.declared.lines.LeadWhy.{LeadWhy}
use Rattle.cert_text.specs.declared.lines.LeadWhy.TheVariants.{Seed, From, Join}
use Rattle.cert_text.specs.Line.{address_field, return_reason, return_line, lead_reason, lead_line}
use Rattle.cert_text.specs.Text.{IsWord, ReturnWhyFits, ReturnFits, LeadWhyFits, LeadFits}
use Rattle.cert_text.specs.Reading.{◌>>=◌, or_else, after, address_at, last_address_at, rank_at, to_at, return_reason_at, from_at, join_at, lead_reason_at, return_at, lead_at}
use Rattle.cert_text.proofs.Fields.{bind_some, or_else_some, some, some_is, after_takes, after_again, address_takes, address_again, last_takes, last_again}
use Rattle.cert_text.proofs.Ranks.{rank_at_takes, rank_at_again}

-- ---- why a terminator returns

abbrev IsReturnReason : List ℕ → ReturnWhy × List ℕ → Type 0
IsReturnReason bytes x = (bytes ≡ return_reason x.0 ++ x.1) × ReturnWhyFits x.0

to_takes : (bytes : List ℕ) (x : ReturnWhy × List ℕ) → to_at bytes ≡ Some x → IsReturnReason bytes x
unfolding to_at
to_takes bytes x e =
    let a = bind_some (after (codes " to") bytes) (λ rest. last_address_at rest >>= λ target. some (To target.0, target.1)) x e in
    let b = bind_some (last_address_at a.0) (λ target. some (To target.0, target.1)) x a.2 in
    let word : bytes ≡ codes " to" ++ a.0 = after_takes (codes " to") bytes a.0 a.1 in
    let field = last_takes a.0 b.0.0 b.0.1 b.1 in
    subst (IsReturnReason bytes) (some_is (To b.0.0, b.0.1) x b.2) (word ∙ ap (λ (y : List ℕ). codes " to" ++ y) field.0, field.1)

to_again : (target : ℕ) (rest : List ℕ) → IsWord target → to_at (return_reason (To target) ++ rest) ≡ Some (To target, rest)
unfolding to_at
to_again target rest small =
    ap (λ (r : Option (List ℕ)). r >>= λ rest. last_address_at rest >>= λ target. some (To target.0, target.1)) (after_again (codes " to") ((address_field target ++ codes "\n") ++ rest))
    ∙ ap (λ (r : Option (ℕ × List ℕ)). r >>= λ target. some (To target.0, target.1)) (last_again target rest small)

return_reason_takes : (bytes : List ℕ) (x : ReturnWhy × List ℕ) → return_reason_at bytes ≡ Some x → IsReturnReason bytes x
unfolding return_reason_at
return_reason_takes bytes x e =
    elim (or_else_some (after (codes " self\n") bytes >>= λ rest. some (Itself, rest)) (or_else (after (codes " call\n") bytes >>= λ rest. some (CallBoth, rest)) (to_at bytes)) x e) [
      | inl p ↦
          let a = bind_some (after (codes " self\n") bytes) (λ rest. some (Itself, rest)) x p in
          subst (IsReturnReason bytes) (some_is (Itself, a.0) x a.2) (after_takes (codes " self\n") bytes a.0 a.1, tt)
      | inr p ↦ elim (or_else_some (after (codes " call\n") bytes >>= λ rest. some (CallBoth, rest)) (to_at bytes) x p) [
        | inl q ↦
            let a = bind_some (after (codes " call\n") bytes) (λ rest. some (CallBoth, rest)) x q in
            subst (IsReturnReason bytes) (some_is (CallBoth, a.0) x a.2) (after_takes (codes " call\n") bytes a.0 a.1, tt)
        | inr q ↦ to_takes bytes x q
      ]
    ]

return_reason_again : (why : ReturnWhy) (rest : List ℕ) → ReturnWhyFits why → return_reason_at (return_reason why ++ rest) ≡ Some (why, rest)
unfolding return_reason_at after
return_reason_again Itself rest fits = refl
return_reason_again (To target) rest fits = to_again target rest fits
return_reason_again CallBoth rest fits = refl

-- ---- why an address is a leader

abbrev IsLeadReason : List ℕ → LeadWhy × List ℕ → Type 0
IsLeadReason bytes x = (bytes ≡ lead_reason x.0 ++ x.1) × LeadWhyFits x.0

from_takes : (bytes : List ℕ) (x : LeadWhy × List ℕ) → from_at bytes ≡ Some x → IsLeadReason bytes x
unfolding from_at
from_takes bytes x e =
    let a = bind_some (after (codes " from") bytes) (λ rest. last_address_at rest >>= λ lead. some (From lead.0, lead.1)) x e in
    let b = bind_some (last_address_at a.0) (λ lead. some (From lead.0, lead.1)) x a.2 in
    let word : bytes ≡ codes " from" ++ a.0 = after_takes (codes " from") bytes a.0 a.1 in
    let field = last_takes a.0 b.0.0 b.0.1 b.1 in
    subst (IsLeadReason bytes) (some_is (From b.0.0, b.0.1) x b.2) (word ∙ ap (λ (y : List ℕ). codes " from" ++ y) field.0, field.1)

from_again : (lead : ℕ) (rest : List ℕ) → IsWord lead → from_at (lead_reason (From lead) ++ rest) ≡ Some (From lead, rest)
unfolding from_at
from_again lead rest small =
    ap (λ (r : Option (List ℕ)). r >>= λ rest. last_address_at rest >>= λ lead. some (From lead.0, lead.1)) (after_again (codes " from") ((address_field lead ++ codes "\n") ++ rest))
    ∙ ap (λ (r : Option (ℕ × List ℕ)). r >>= λ lead. some (From lead.0, lead.1)) (last_again lead rest small)

-- what follows the word of a join
abbrev both_fields : ℕ → ℕ → List ℕ → List ℕ
both_fields first second rest = ((address_field first ++ address_field second) ++ codes "\n") ++ rest

both_regrouped : (first second : ℕ) (rest : List ℕ) → both_fields first second rest ≡ address_field first ++ ((address_field second ++ codes "\n") ++ rest)
both_regrouped first second rest =
    append_assoc (address_field first ++ address_field second) (codes "\n") rest
    ∙ append_assoc (address_field first) (address_field second) (codes "\n" ++ rest)
    ∙ ap (λ (x : List ℕ). address_field first ++ x) (sym (append_assoc (address_field second) (codes "\n") rest))

join_takes : (bytes : List ℕ) (x : LeadWhy × List ℕ) → join_at bytes ≡ Some x → IsLeadReason bytes x
unfolding join_at
join_takes bytes x e =
    let a = bind_some (after (codes " join") bytes) (λ rest. address_at rest >>= λ first. last_address_at first.1 >>= λ second. some (Join first.0 second.0, second.1)) x e in
    let b = bind_some (address_at a.0) (λ first. last_address_at first.1 >>= λ second. some (Join first.0 second.0, second.1)) x a.2 in
    let c = bind_some (last_address_at b.0.1) (λ second. some (Join b.0.0 second.0, second.1)) x b.2 in
    let word : bytes ≡ codes " join" ++ a.0 = after_takes (codes " join") bytes a.0 a.1 in
    let one = address_takes a.0 b.0.0 b.0.1 b.1 in
    let other = last_takes b.0.1 c.0.0 c.0.1 c.1 in
    let fields : a.0 ≡ both_fields b.0.0 c.0.0 c.0.1 = one.0 ∙ ap (λ (y : List ℕ). address_field b.0.0 ++ y) other.0 ∙ sym (both_regrouped b.0.0 c.0.0 c.0.1) in
    subst (IsLeadReason bytes) (some_is (Join b.0.0 c.0.0, c.0.1) x c.2) (word ∙ ap (λ (y : List ℕ). codes " join" ++ y) fields, (one.1, other.1))

join_again : (first second : ℕ) (rest : List ℕ) → IsWord first → IsWord second → join_at (lead_reason (Join first second) ++ rest) ≡ Some (Join first second, rest)
unfolding join_at
join_again first second rest small below =
    let one : address_at (both_fields first second rest) ≡ Some (first, (address_field second ++ codes "\n") ++ rest) = ap address_at (both_regrouped first second rest) ∙ address_again first ((address_field second ++ codes "\n") ++ rest) small in
    ap (λ (r : Option (List ℕ)). r >>= λ rest. address_at rest >>= λ first. last_address_at first.1 >>= λ second. some (Join first.0 second.0, second.1)) (after_again (codes " join") (both_fields first second rest))
    ∙ ap (λ (r : Option (ℕ × List ℕ)). r >>= λ first. last_address_at first.1 >>= λ second. some (Join first.0 second.0, second.1)) one
    ∙ ap (λ (r : Option (ℕ × List ℕ)). r >>= λ second. some (Join first second.0, second.1)) (last_again second rest below)

lead_reason_takes : (bytes : List ℕ) (x : LeadWhy × List ℕ) → lead_reason_at bytes ≡ Some x → IsLeadReason bytes x
unfolding lead_reason_at
lead_reason_takes bytes x e =
    elim (or_else_some (after (codes " seed\n") bytes >>= λ rest. some (Seed, rest)) (or_else (from_at bytes) (join_at bytes)) x e) [
      | inl p ↦
          let a = bind_some (after (codes " seed\n") bytes) (λ rest. some (Seed, rest)) x p in
          subst (IsLeadReason bytes) (some_is (Seed, a.0) x a.2) (after_takes (codes " seed\n") bytes a.0 a.1, tt)
      | inr p ↦ elim (or_else_some (from_at bytes) (join_at bytes) x p) [
        | inl q ↦ from_takes bytes x q
        | inr q ↦ join_takes bytes x q
      ]
    ]

join_is_no_from : (first second : ℕ) (rest : List ℕ) → from_at (lead_reason (Join first second) ++ rest) ≡ None
unfolding from_at after
join_is_no_from first second rest = refl

lead_reason_again : (why : LeadWhy) (rest : List ℕ) → LeadWhyFits why → lead_reason_at (lead_reason why ++ rest) ≡ Some (why, rest)
unfolding lead_reason_at after
lead_reason_again Seed rest fits = refl
lead_reason_again (From lead) rest fits =
    ap (λ (r : Option (LeadWhy × List ℕ)). or_else r (join_at (lead_reason (From lead) ++ rest))) (from_again lead rest fits)
lead_reason_again (Join first second) rest fits =
    ap (λ (r : Option (LeadWhy × List ℕ)). or_else r (join_at (lead_reason (Join first second) ++ rest))) (join_is_no_from first second rest)
    ∙ join_again first second rest fits.0 fits.1

-- ---- lines

regroup : (a b c d e : List ℕ) → (((a ++ b) ++ c) ++ d) ++ e ≡ a ++ (b ++ (c ++ (d ++ e)))
regroup a b c d e = simp append_assoc

-- what follows the word of a line
abbrev line_rest : ℕ → ℕ → List ℕ → List ℕ
line_rest at rank reason = ((address_field at ++ codes " ") ++ decimal rank) ++ reason

pub return_takes : (bytes : List ℕ) (l : ReturnLine) (rest : List ℕ) → return_at bytes ≡ Some (l, rest) → (codes "ret" ++ bytes ≡ return_line l ++ rest) × ReturnFits l
unfolding return_at
return_takes bytes l rest e =
    let made : ℕ → ℕ → ReturnWhy → ReturnLine = λ at rank why. record { at = at; rank = rank; why = why } in
    let a = bind_some (address_at bytes) (λ at. rank_at at.1 >>= λ rank. return_reason_at rank.1 >>= λ why. some (made at.0 rank.0 why.0, why.1)) (l, rest) e in
    let b = bind_some (rank_at a.0.1) (λ rank. return_reason_at rank.1 >>= λ why. some (made a.0.0 rank.0 why.0, why.1)) (l, rest) a.2 in
    let c = bind_some (return_reason_at b.0.1) (λ why. some (made a.0.0 b.0.0 why.0, why.1)) (l, rest) b.2 in
    let at = address_takes bytes a.0.0 a.0.1 a.1 in
    let rank = rank_at_takes a.0.1 b.0.0 b.0.1 b.1 in
    let why = return_reason_takes b.0.1 c.0 c.1 in
    let fields : bytes ≡ address_field a.0.0 ++ (codes " " ++ (decimal b.0.0 ++ (return_reason c.0.0 ++ c.0.1))) = at.0 ∙ ap (λ (y : List ℕ). address_field a.0.0 ++ y) (rank.0 ∙ ap (λ (y : List ℕ). codes " " ++ (decimal b.0.0 ++ y)) why.0) in
    let whole : bytes ≡ line_rest a.0.0 b.0.0 (return_reason c.0.0) ++ c.0.1 = fields ∙ sym (regroup (address_field a.0.0) (codes " ") (decimal b.0.0) (return_reason c.0.0) c.0.1) in
    subst (λ (p : ReturnLine × List ℕ). (codes "ret" ++ bytes ≡ return_line p.0 ++ p.1) × ReturnFits p.0) (some_is (made a.0.0 b.0.0 c.0.0, c.0.1) (l, rest) c.2) (ap (λ (y : List ℕ). codes "ret" ++ y) whole, record { at = at.1; rank = rank.1; why = why.1 })

-- a reason begins with a space
spaced_return : (why : ReturnWhy) (rest : List ℕ) → (more : List ℕ) × (return_reason why ++ rest ≡ 32 ∷ more)
spaced_return Itself rest = (_, refl)
spaced_return (To target) rest = (_, refl)
spaced_return CallBoth rest = (_, refl)

rank_before : (n : ℕ) (reason : List ℕ) → IsWord n → (more : List ℕ) × (reason ≡ 32 ∷ more) → rank_at (codes " " ++ (decimal n ++ reason)) ≡ Some (n, reason)
rank_before n reason small spaced =
    subst (λ (r : List ℕ). rank_at (codes " " ++ (decimal n ++ r)) ≡ Some (n, r)) (sym spaced.1) (rank_at_again n spaced.0 small)

pub return_again : (l : ReturnLine) (rest : List ℕ) → ReturnFits l → (after (codes "ret") (return_line l ++ rest) >>= return_at) ≡ Some (l, rest)
unfolding return_at
return_again l rest fits =
    let made : ℕ → ℕ → ReturnWhy → ReturnLine = λ at rank why. record { at = at; rank = rank; why = why } in
    let reason = return_reason l.why ++ rest in
    let regrouped = regroup (address_field l.at) (codes " ") (decimal l.rank) (return_reason l.why) rest in
    let at : address_at (line_rest l.at l.rank (return_reason l.why) ++ rest) ≡ Some (l.at, codes " " ++ (decimal l.rank ++ reason)) = ap address_at regrouped ∙ address_again l.at (codes " " ++ (decimal l.rank ++ reason)) fits.at in
    ap (λ (r : Option (List ℕ)). r >>= return_at) (after_again (codes "ret") (line_rest l.at l.rank (return_reason l.why) ++ rest))
    ∙ ap (λ (r : Option (ℕ × List ℕ)). r >>= λ at. rank_at at.1 >>= λ rank. return_reason_at rank.1 >>= λ why. some (made at.0 rank.0 why.0, why.1)) at
    ∙ ap (λ (r : Option (ℕ × List ℕ)). r >>= λ rank. return_reason_at rank.1 >>= λ why. some (made l.at rank.0 why.0, why.1)) (rank_before l.rank reason fits.rank (spaced_return l.why rest))
    ∙ ap (λ (r : Option (ReturnWhy × List ℕ)). r >>= λ why. some (made l.at l.rank why.0, why.1)) (return_reason_again l.why rest fits.why)

pub lead_takes : (bytes : List ℕ) (l : LeadLine) (rest : List ℕ) → lead_at bytes ≡ Some (l, rest) → (codes "lead" ++ bytes ≡ lead_line l ++ rest) × LeadFits l
unfolding lead_at
lead_takes bytes l rest e =
    let made : ℕ → ℕ → LeadWhy → LeadLine = λ at rank why. record { at = at; rank = rank; why = why } in
    let a = bind_some (address_at bytes) (λ at. rank_at at.1 >>= λ rank. lead_reason_at rank.1 >>= λ why. some (made at.0 rank.0 why.0, why.1)) (l, rest) e in
    let b = bind_some (rank_at a.0.1) (λ rank. lead_reason_at rank.1 >>= λ why. some (made a.0.0 rank.0 why.0, why.1)) (l, rest) a.2 in
    let c = bind_some (lead_reason_at b.0.1) (λ why. some (made a.0.0 b.0.0 why.0, why.1)) (l, rest) b.2 in
    let at = address_takes bytes a.0.0 a.0.1 a.1 in
    let rank = rank_at_takes a.0.1 b.0.0 b.0.1 b.1 in
    let why = lead_reason_takes b.0.1 c.0 c.1 in
    let fields : bytes ≡ address_field a.0.0 ++ (codes " " ++ (decimal b.0.0 ++ (lead_reason c.0.0 ++ c.0.1))) = at.0 ∙ ap (λ (y : List ℕ). address_field a.0.0 ++ y) (rank.0 ∙ ap (λ (y : List ℕ). codes " " ++ (decimal b.0.0 ++ y)) why.0) in
    let whole : bytes ≡ line_rest a.0.0 b.0.0 (lead_reason c.0.0) ++ c.0.1 = fields ∙ sym (regroup (address_field a.0.0) (codes " ") (decimal b.0.0) (lead_reason c.0.0) c.0.1) in
    subst (λ (p : LeadLine × List ℕ). (codes "lead" ++ bytes ≡ lead_line p.0 ++ p.1) × LeadFits p.0) (some_is (made a.0.0 b.0.0 c.0.0, c.0.1) (l, rest) c.2) (ap (λ (y : List ℕ). codes "lead" ++ y) whole, record { at = at.1; rank = rank.1; why = why.1 })

spaced_lead : (why : LeadWhy) (rest : List ℕ) → (more : List ℕ) × (lead_reason why ++ rest ≡ 32 ∷ more)
spaced_lead Seed rest = (_, refl)
spaced_lead (From lead) rest = (_, refl)
spaced_lead (Join first second) rest = (_, refl)

pub lead_again : (l : LeadLine) (rest : List ℕ) → LeadFits l → (after (codes "lead") (lead_line l ++ rest) >>= lead_at) ≡ Some (l, rest)
unfolding lead_at
lead_again l rest fits =
    let made : ℕ → ℕ → LeadWhy → LeadLine = λ at rank why. record { at = at; rank = rank; why = why } in
    let reason = lead_reason l.why ++ rest in
    let regrouped = regroup (address_field l.at) (codes " ") (decimal l.rank) (lead_reason l.why) rest in
    let at : address_at (line_rest l.at l.rank (lead_reason l.why) ++ rest) ≡ Some (l.at, codes " " ++ (decimal l.rank ++ reason)) = ap address_at regrouped ∙ address_again l.at (codes " " ++ (decimal l.rank ++ reason)) fits.at in
    ap (λ (r : Option (List ℕ)). r >>= lead_at) (after_again (codes "lead") (line_rest l.at l.rank (lead_reason l.why) ++ rest))
    ∙ ap (λ (r : Option (ℕ × List ℕ)). r >>= λ at. rank_at at.1 >>= λ rank. lead_reason_at rank.1 >>= λ why. some (made at.0 rank.0 why.0, why.1)) at
    ∙ ap (λ (r : Option (ℕ × List ℕ)). r >>= λ rank. lead_reason_at rank.1 >>= λ why. some (made l.at rank.0 why.0, why.1)) (rank_before l.rank reason fits.rank (spaced_lead l.why rest))
    ∙ ap (λ (r : Option (LeadWhy × List ℕ)). r >>= λ why. some (made l.at l.rank why.0, why.1)) (lead_reason_again l.why rest fits.why)
