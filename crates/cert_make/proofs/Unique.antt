-- A program has one canonical part.
use Rattle.std.proofs.Common.{◌≡◌, ℕ, ◌<◌, ◌⊎◌, List, map, length, refl, sym, ap, subst, ◌∙◌, arith, inl, inr, ⊎_elim}
use Rattle.std.specs.List.{AllPairs, Contains}
use Rattle.std.specs.List.Sorted.{IsStrictlyIncreasing}
use Rattle.std.proofs.lemmas.Bool.{cases_order}
use Rattle.std.proofs.Math.ListN.{get_or-map}
use Rattle.std.proofs.lemmas.List.{length-map}
use Rattle.std.proofs.lemmas.List.Kept.{AllPairs-from_increasing}
use Rattle.cert_text.specs.declared.lines.ReturnLine.{ReturnLine}
use Rattle.cert_text.specs.declared.lines.ReturnWhy.{ReturnWhy}
use Rattle.cert_text.specs.declared.lines.ReturnWhy.TheVariants.{Itself, To, CallBoth}
use Rattle.cert_text.specs.declared.lines.LeadLine.{LeadLine}
use Rattle.cert_text.specs.declared.lines.LeadWhy.{LeadWhy}
use Rattle.cert_text.specs.declared.lines.LeadWhy.TheVariants.{Seed, From, Join}
use Rattle.cert_text.specs.declared.certificate.Part.{Part}
use Rattle.cfg_model.specs.Program.Instructions.{InstructionMap}
use Rattle.cfg_model.proofs.Graphs.Lists.{same_lists}
use Rattle.cert_make.specs.Reason.{ReturnsFor, LeadsFor}
use Rattle.cert_make.specs.Rank.{ReturnsBelow, LeadsBelow, IsRank}
use Rattle.cert_make.specs.First.{ReturnWhyBefore, LeadWhyBefore, IsFirst}
use Rattle.cert_make.specs.Canonical.{IsReturnLine, IsLeadLine, ListsLines, CanonicalIsUnique}
use Rattle.cert_make.proofs.Ranks.{returns_rise, leads_rise, one_rank}

-- ---- one first reason

least_is_one : (a b : ℕ) → (a < b → ⊥) → (b < a → ⊥) → a ≡ b
least_is_one a b above below = ⊎_elim (λ same. same) (λ apart. absurd (⊎_elim above below apart)) (cases_order a b)

one_return_why : (Fits : ReturnWhy → Type 0) (x y : ReturnWhy) → IsFirst ReturnWhyBefore Fits x → IsFirst ReturnWhyBefore Fits y → x ≡ y
one_return_why Fits Itself Itself p q = refl
one_return_why Fits Itself (To other) p q = absurd (q.first Itself p.fits tt)
one_return_why Fits Itself CallBoth p q = absurd (q.first Itself p.fits tt)
one_return_why Fits (To target) Itself p q = absurd (p.first Itself q.fits tt)
one_return_why Fits (To target) (To other) p q = ap To (least_is_one target other (q.first (To target) p.fits) (p.first (To other) q.fits))
one_return_why Fits (To target) CallBoth p q = absurd (q.first (To target) p.fits tt)
one_return_why Fits CallBoth Itself p q = absurd (p.first Itself q.fits tt)
one_return_why Fits CallBoth (To other) p q = absurd (p.first (To other) q.fits tt)
one_return_why Fits CallBoth CallBoth p q = refl

one_join : (a b c d : ℕ) → ((a < c) ⊎ ((a ≡ c) × (b < d)) → ⊥) → ((c < a) ⊎ ((c ≡ a) × (d < b)) → ⊥) → Join a b ≡ Join c d
one_join a b c d above below =
    let first : a ≡ c = least_is_one a c (λ lt. above (inl lt)) (λ lt. below (inl lt)) in
    let second : b ≡ d = least_is_one b d (λ lt. above (inr (first, lt))) (λ lt. below (inr (sym first, lt))) in
    cc

one_lead_why : (Fits : LeadWhy → Type 0) (x y : LeadWhy) → IsFirst LeadWhyBefore Fits x → IsFirst LeadWhyBefore Fits y → x ≡ y
one_lead_why Fits Seed Seed p q = refl
one_lead_why Fits Seed (From other) p q = absurd (q.first Seed p.fits tt)
one_lead_why Fits Seed (Join c d) p q = absurd (q.first Seed p.fits tt)
one_lead_why Fits (From lead) Seed p q = absurd (p.first Seed q.fits tt)
one_lead_why Fits (From lead) (From other) p q = ap From (least_is_one lead other (q.first (From lead) p.fits) (p.first (From other) q.fits))
one_lead_why Fits (From lead) (Join c d) p q = absurd (q.first (From lead) p.fits tt)
one_lead_why Fits (Join a b) Seed p q = absurd (p.first Seed q.fits tt)
one_lead_why Fits (Join a b) (From other) p q = absurd (p.first (From other) q.fits tt)
one_lead_why Fits (Join a b) (Join c d) p q = one_join a b c d (q.first (Join a b) p.fits) (p.first (Join c d) q.fits)

-- ---- one line of an address

abbrev return_of : ℕ → ℕ → ReturnWhy → ReturnLine
return_of at rank why = record { at = at; rank = rank; why = why }

one_return_line : (code : InstructionMap) (l m : ReturnLine) → IsReturnLine code l → IsReturnLine code m → l.at ≡ m.at → l ≡ m
one_return_line code l m p q same =
    let Right : ℕ → ℕ → Type 0 = λ rank at. IsFirst ReturnWhyBefore (ReturnsFor code (ReturnsBelow code rank) at) l.why in
    let rank : l.rank ≡ m.rank = one_rank (ReturnsBelow code) (returns_rise code) m.at l.rank m.rank (subst (λ (at : ℕ). IsRank (ReturnsBelow code) at l.rank) same p.rank) q.rank in
    let moved : Right m.rank m.at = subst (λ (at : ℕ). Right m.rank at) same (subst (λ (r : ℕ). Right r l.at) rank p.why) in
    let why : l.why ≡ m.why = one_return_why (ReturnsFor code (ReturnsBelow code m.rank) m.at) l.why m.why moved q.why in
    ap (λ (at : ℕ). return_of at l.rank l.why) same ∙ ap (λ (r : ℕ). return_of m.at r l.why) rank ∙ ap (λ (w : ReturnWhy). return_of m.at m.rank w) why

abbrev lead_of : ℕ → ℕ → LeadWhy → LeadLine
lead_of at rank why = record { at = at; rank = rank; why = why }

one_lead_line : (code : InstructionMap) (seeds : List ℕ) (l m : LeadLine) → IsLeadLine code seeds l → IsLeadLine code seeds m → l.at ≡ m.at → l ≡ m
one_lead_line code seeds l m p q same =
    let Right : ℕ → ℕ → Type 0 = λ rank at. IsFirst LeadWhyBefore (LeadsFor code seeds (LeadsBelow code seeds rank) at) l.why in
    let rank : l.rank ≡ m.rank = one_rank (LeadsBelow code seeds) (leads_rise code seeds) m.at l.rank m.rank (subst (λ (at : ℕ). IsRank (LeadsBelow code seeds) at l.rank) same p.rank) q.rank in
    let moved : Right m.rank m.at = subst (λ (at : ℕ). Right m.rank at) same (subst (λ (r : ℕ). Right r l.at) rank p.why) in
    let why : l.why ≡ m.why = one_lead_why (LeadsFor code seeds (LeadsBelow code seeds m.rank) m.at) l.why m.why moved q.why in
    ap (λ (at : ℕ). lead_of at l.rank l.why) same ∙ ap (λ (r : ℕ). lead_of m.at r l.why) rank ∙ ap (λ (w : LeadWhy). lead_of m.at m.rank w) why

-- ---- one list

in_order : {X : Type 0} (at : X → ℕ) (xs : List X) → IsStrictlyIncreasing (map at xs) → AllPairs (λ x y. at x < at y) xs
in_order at xs rises i j d before inside =
    let long : length (map at xs) ≡ length xs = length-map xs at in
    let apart = AllPairs-from_increasing (map at xs) rises i j (at d) before (omega arith) in
    rw (← get_or-map at xs i d, ← get_or-map at xs j d) apart

within : {X : Type 0} (at : X → ℕ) (Among : ℕ → Type 0) (IsLine : X → Type 0) → ((x y : X) → IsLine x → IsLine y → at x ≡ at y → x ≡ y)
    → (xs ys : List X) → ListsLines at Among IsLine xs → ListsLines at Among IsLine ys → (z : X) → Contains xs z → Contains ys z
within {X} at Among IsLine one xs ys p q z found =
    let there = q.complete (at z) (p.among z found) in
    let same : there.0 ≡ z = one there.0 z (q.right there.0 there.1) (p.right z found) there.2 in
    subst (λ (y : X). Contains ys y) same there.1

one_list : {X : Type 0} (at : X → ℕ) (Among : ℕ → Type 0) (IsLine : X → Type 0) → ((x y : X) → IsLine x → IsLine y → at x ≡ at y → x ≡ y)
    → (xs ys : List X) → ListsLines at Among IsLine xs → ListsLines at Among IsLine ys → xs ≡ ys
one_list {X} at Among IsLine one xs ys p q =
    same_lists (λ (x : X) (y : X). at x < at y) (λ x y lt gt. omega arith) xs ys (in_order at xs p.rises) (in_order at ys q.rises)
    (within at Among IsLine one xs ys p q) (within at Among IsLine one ys xs q p)

abbrev part_of : List ReturnLine → List LeadLine → Part
part_of returns leads = record { returns = returns; leads = leads }

pub one_part : CanonicalIsUnique
one_part code seeds part other p q =
    let returns : part.returns ≡ other.returns = one_list _ _ (IsReturnLine code) (one_return_line code) part.returns other.returns p.returns q.returns in
    let leads : part.leads ≡ other.leads = one_list _ _ (IsLeadLine code seeds) (one_lead_line code seeds) part.leads other.leads p.leads q.leads in
    ap (λ (r : List ReturnLine). part_of r part.leads) returns ∙ ap (λ (l : List LeadLine). part_of other.returns l) leads
