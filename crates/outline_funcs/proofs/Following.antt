-- The work list of a body: its blocks before a place are followed.
use Rattle.std.proofs.Common.{◌≡◌, ◌↔◌, ℕ, Bool, true, false, ◌+◌, ◌<◌, ◌≤◌, List, [], ◌∷◌, length, get_or, IsTrue, below_more, sym, ◌∙◌, subst, inl, inr, ⊎_elim, arith}
use Rattle.std.specs.List.{Contains}
use Rattle.std.proofs.lemmas.Bool.{false≢true}
use Rattle.std.proofs.lemmas.List.{get_or_default}
use Rattle.std.proofs.lemmas.List.Elements.{Contains-get_or}
use Rattle.cfg_model.specs.declared.graph.Edge.{Edge}
use Rattle.cfg_model.specs.Graph.Function.{InBody}
use Rattle.cfg_model.specs.Graph.Listing.{Extends}
use Rattle.cfg_model.proofs.Graphs.Lists.{Contains-here, Contains-cons_cases, Contains-none}
use Rattle.outline_funcs.specs.declared.exits.Exits.{Exits}
use Rattle.outline_funcs.specs.Inner.Blocks.{IsNumber, HasBlockAt}
use Rattle.outline_funcs.specs.Inner.Exits.{AreExits, InBodyBy, IsEntered, JoinsBlocks, LeadsOn}
use Rattle.outline_funcs.proofs.Extending.{contains_onward, get_or_onward, length_onward}
use Rattle.outline_funcs.proofs.Numbers.{none, number_of_block, one_number, one_start}

pub record IsBodySoFar (exits : Exits) (entry : ℕ) (order : List ℕ) (i : ℕ) : Type 0 where
  pub first : (e : ℕ) → IsNumber exits.blocks.now e entry → Contains order e
  pub sound : (j a : ℕ) → Contains order j → IsNumber exits.blocks.now j a → InBodyBy exits entry a
  pub followed : (k : ℕ) → k < i → (b : ℕ) → LeadsOn exits entry (get_or order k 0) b → Contains order b
  pub within : i ≤ length order

-- each edge of the list joins two blocks
pub edge_joined : (exits : Exits) → AreExits exits → (edge : Edge) → Contains exits.edges.now edge → JoinsBlocks exits.blocks.now edge
edge_joined exits are edge h = subst (JoinsBlocks exits.blocks.now) h.2 (are.joined h.0 edge h.1)

-- a block starts at each address of a body
pub body_listed : {exits : Exits} {entry : ℕ} → AreExits exits → HasBlockAt exits.blocks.now entry → {a : ℕ} → InBodyBy exits entry a → HasBlockAt exits.blocks.now a
body_listed are there InBody.entry = there
body_listed {exits} are there (InBody.along {edge = edge} h listed stays) = (edge_joined exits are edge listed).enters

-- the mark of a block says whether a function starts there
module _ (exits : Exits) (are : AreExits exits) (number a : ℕ) (is : IsNumber exits.blocks.now number a) (d : Bool) where
  mark_at : get_or exits.entered.items number false ≡ get_or exits.entered.items number d
  mark_at =
      let all : length exits.entered.items ≡ length exits.blocks.now = are.marks in
      let within : number < length exits.blocks.now = is.within in
      get_or_default exits.entered.items number false d (omega arith)

  pub entered_there : get_or exits.entered.items number d ≡ true → IsEntered exits a
  entered_there on = record { number = number; numbered = is; marked = mark_at ∙ on }

  pub not_entered : get_or exits.entered.items number d ≡ false → ¬ IsEntered exits a
  not_entered off entered =
      let same : entered.number ≡ number = one_number exits.blocks.now none entered.number number a are.in_order entered.numbered is in
      false≢true (sym off ∙ (sym mark_at ∙ subst (λ n. IsTrue (get_or exits.entered.items n false)) same entered.marked))

module _ (exits : Exits) (entry : ℕ) (are : AreExits exits) where
  pub body_start : (e : ℕ) (order : List ℕ) → IsNumber exits.blocks.now e entry → order ≡ e ∷ [] → IsBodySoFar exits entry order 0
  body_start e order number one = record {
    first = λ n is. subst (Contains order) (one_number exits.blocks.now none e n entry are.in_order number is) (subst (λ v. Contains v e) (sym one) (Contains-here e []));
    sound = λ j a h is.
        let same : e ≡ j = ⊎_elim (λ here. here) (λ more. absurd (Contains-none j more)) (Contains-cons_cases e [] j (subst (λ v. Contains v j) one h)) in
        subst (InBodyBy exits entry) (one_start exits.blocks.now none j entry a (subst (λ n. IsNumber exits.blocks.now n entry) same number) is) InBody.entry;
    followed = λ k lt b h. absurd (omega arith);
    within = omega arith;
  }

  -- the blocks that the edges from one place lead to are added
  pub body_more : (order order' : List ℕ) (i a : ℕ) → i < length order → a ≡ get_or order i 0 → IsBodySoFar exits entry order i
      → Extends order order' (LeadsOn exits entry a) → IsBodySoFar exits entry order' (i + 1)
  body_more order order' i a lt is p f =
      let listed : Contains order a = subst (Contains order) (sym is) (Contains-get_or order i 0 lt) in
      let old_at : (k : ℕ) → k < length order → get_or order' k 0 ≡ get_or order k 0 =
      λ k below. get_or_onward order order' f.rest f.goes_on k 0 below in
      let kept : (b : ℕ) → Contains order b → Contains order' b = λ b h. contains_onward order order' f.rest f.goes_on b h in
      record {
        first = λ e number. kept e (p.first e number);
        sound = λ j b h number.
            elim (f.only j h) [
              | inl k ↦ p.sound j b k number
              | inr l ↦
                  subst (InBodyBy exits entry) (one_start exits.blocks.now none j l.edge.to b l.leads.target number)
                  (InBody.along (p.sound a l.edge.from listed l.leaves) l.listed l.leads.stays)
            ];
        followed = below_more (λ k. (b : ℕ) → LeadsOn exits entry (get_or order' k 0) b → Contains order' b) i
            (λ k below b l. kept b (p.followed k below b (subst (λ (x : ℕ). LeadsOn exits entry x b) (old_at k (omega (arith, p.within))) l)))
            (λ b l. f.has b (subst (λ (x : ℕ). LeadsOn exits entry x b) (old_at i lt ∙ sym is) l));
        within = let longer : length order ≤ length order' = length_onward order order' f.rest f.goes_on in omega arith;
      }

  closed_body : (order : List ℕ) (i : ℕ) → length order ≤ i → IsBodySoFar exits entry order i
      → (a b : ℕ) → Contains order a → LeadsOn exits entry a b → Contains order b
  closed_body order i past p a b h l =
      let at : get_or order h.0 0 ≡ a = get_or_default order h.0 0 a h.1 ∙ h.2 in
      let lt : h.0 < length order = h.1 in
      p.followed h.0 (omega arith) b (subst (λ (x : ℕ). LeadsOn exits entry x b) (sym at) l)

-- a list that has the entry and is closed has the whole body
body_in_closed : {exits : Exits} {entry : ℕ} (order : List ℕ) → AreExits exits → ((e : ℕ) → IsNumber exits.blocks.now e entry → Contains order e)
    → ((a b : ℕ) → Contains order a → LeadsOn exits entry a b → Contains order b)
    → {a : ℕ} → InBodyBy exits entry a → (j : ℕ) → IsNumber exits.blocks.now j a → Contains order j
body_in_closed order are first closed InBody.entry j number = first j number
body_in_closed {exits} order are first closed (InBody.along {edge = edge} h listed stays) j number =
    let from = number_of_block exits.blocks.now edge.from (edge_joined exits are edge listed).leaves in
    closed from.0 j (body_in_closed order are first closed h from.0 from.1)
    (record { edge = edge; listed = listed; leaves = from.1; leads = record { stays = stays; target = number } })

pub body_at_end : (exits : Exits) (entry : ℕ) → AreExits exits → (order : List ℕ) (i : ℕ) → length order ≤ i → IsBodySoFar exits entry order i
    → (j a : ℕ) → IsNumber exits.blocks.now j a → Contains order j ↔ InBodyBy exits entry a
body_at_end exits entry are order i past p j a number =
    ((λ h. p.sound j a h number), (λ h. body_in_closed order are p.first (closed_body exits entry are order i past p) h j number))
