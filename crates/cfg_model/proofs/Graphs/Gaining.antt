-- A list that grows, step by step.
use Rattle.std.proofs.Common.{◌≡◌, ℕ, ◌+◌, ◌<◌, ◌≤◌, ◌⊎◌, List, [], ◌∷◌, ◌++◌, length, take, get_or, Some, refl, ap, ◌∙◌, sym, subst, inl, inr, ⊎_elim}
use Rattle.std.specs.List.{Contains, slice_get}
use Rattle.std.proofs.lemmas.List.{take_more, take_all}
use Rattle.std.proofs.lemmas.Option.{slice_get_within, get_or_from_slice_get}
use Rattle.std.proofs.lemmas.List.Elements.{Contains-append_left, Contains-push_cases, Contains-push}
use Rattle.cfg_model.specs.Graph.Listing.{Gains}
use Rattle.cfg_model.proofs.Graphs.Lists.{Contains-none}

-- nothing is added where nothing holds
pub Gains-none : {X : Type 0} (xs : List X) (P : X → Type 0) → ((x : X) → P x → ⊥) → Gains xs xs P
Gains-none xs P none = record {
  kept = λ x h. h;
  added = λ x h. absurd (none x h);
  nothing_else = λ x h. inl h;
}

pub Gains-push : {X : Type 0} (xs : List X) (y : X) → Gains xs (xs ++ y ∷ []) (λ x. x ≡ y)
Gains-push xs y = record {
  kept = λ x h. Contains-append_left xs (y ∷ []) x h;
  added = λ x h. subst (Contains (xs ++ y ∷ [])) (sym h) (Contains-push xs y);
  nothing_else = λ x h. ⊎_elim (λ before. inl before) (λ is. inr (sym is)) (Contains-push_cases xs y x h);
}

-- one step after another
pub Gains-then : {X : Type 0} (xs ys zs : List X) (P Q : X → Type 0) → Gains xs ys P → Gains ys zs Q → Gains xs zs (λ x. P x ⊎ Q x)
Gains-then xs ys zs P Q first second = record {
  kept = λ x h. second.kept x (first.kept x h);
  added = λ x h. ⊎_elim (λ p. second.kept x (first.added x p)) (λ q. second.added x q) h;
  nothing_else = λ x h. ⊎_elim
      (λ before. ⊎_elim (λ old. inl old) (λ p. inr (inl p)) (first.nothing_else x before))
      (λ q. inr (inr q))
      (second.nothing_else x h);
}

-- what is added, said in other words
pub Gains-same : {X : Type 0} (xs ys : List X) (P Q : X → Type 0) → ((x : X) → P x → Q x) → ((x : X) → Q x → P x) → Gains xs ys P → Gains xs ys Q
Gains-same xs ys P Q there back adds = record {
  kept = adds.kept;
  added = λ x h. adds.added x (back x h);
  nothing_else = λ x h. ⊎_elim (λ old. inl old) (λ p. inr (there x p)) (adds.nothing_else x h);
}

-- a first step, after which nothing more holds
pub Gains-first : {X : Type 0} (xs ys : List X) (P Q : X → Type 0) → ((x : X) → Q x → ⊥) → Gains xs ys P → Gains xs ys (λ x. P x ⊎ Q x)
Gains-first xs ys P Q none adds = Gains-then xs ys ys P Q adds (Gains-none ys Q none)

-- a second step that is taken where G holds, and where it does not
pub Gains-where : {X : Type 0} (xs ys zs : List X) (P Q : X → Type 0) (G : Type 0) → G → Gains xs ys P → Gains ys zs Q → Gains xs zs (λ x. P x ⊎ (G × Q x))
Gains-where xs ys zs P Q G g first second = Gains-then xs ys zs P (λ x. G × Q x) first (Gains-same ys zs Q (λ x. G × Q x) (λ x q. (g, q)) (λ x q. q.1) second)

pub Gains-unless : {X : Type 0} (xs ys : List X) (P Q : X → Type 0) (G : Type 0) → (G → ⊥) → Gains xs ys P → Gains xs ys (λ x. P x ⊎ (G × Q x))
Gains-unless xs ys P Q G none adds = Gains-first xs ys P (λ x. G × Q x) (λ x q. none q.0) adds

-- what some item of a list tells of
abbrev pub Each : {X Y : Type 0} → List X → (X → Y → Type 0) → Y → Type 0
Each {X} ts Q y = (t : X) × Contains ts t × Q t y

pub Each-none : {X Y : Type 0} (Q : X → Y → Type 0) (y : Y) → Each [] Q y → ⊥
Each-none Q y h = Contains-none h.0 h.1

pub Gains-start : {X Y : Type 0} (Q : X → Y → Type 0) (ys : List Y) → Gains ys ys (Each [] Q)
Gains-start Q ys = Gains-none ys (Each [] Q) (Each-none Q)

-- one more item
pub Gains-push_each : {X Y : Type 0} (ts : List X) (t : X) (Q : X → Y → Type 0) (old new newer : List Y) → Gains old new (Each ts Q) → Gains new newer (Q t) → Gains old newer (Each (ts ++ t ∷ []) Q)
Gains-push_each ts t Q old new newer before now =
    Gains-same old newer (λ y. Each ts Q y ⊎ Q t y) (Each (ts ++ t ∷ []) Q)
    (λ y h. ⊎_elim
    (λ e. (e.0, Contains-append_left ts (t ∷ []) e.0 e.1, e.2))
    (λ q. (t, Contains-push ts t, q))
    h)
    (λ y e. ⊎_elim
    (λ earlier. inl (e.0, earlier, e.2))
    (λ is. inr (subst (λ x. Q x y) (sym is) e.2))
    (Contains-push_cases ts t e.0 e.1))
    (Gains-then old new newer (Each ts Q) (Q t) before now)

-- a step of a loop over a list
pub Gains-each : {X Y : Type 0} (ts : List X) (i : ℕ) (t : X) (Q : X → Y → Type 0) (old new newer : List Y) → slice_get ts i ≡ Some t → Gains old new (Each (take i ts) Q) → Gains new newer (Q t) → Gains old newer (Each (take (i + 1) ts) Q)
Gains-each ts i t Q old new newer at before now =
    let within : i < length ts = slice_get_within ts i t at in
    let front : take (i + 1) ts ≡ take i ts ++ get_or ts i t ∷ [] = take_more ts i t within in
    let is : get_or ts i t ≡ t = get_or_from_slice_get ts i t t at in
    let whole : take (i + 1) ts ≡ take i ts ++ t ∷ [] = front ∙ ap (λ x. take i ts ++ x ∷ []) is in
    subst (λ us. Gains old newer (Each us Q)) (sym whole) (Gains-push_each (take i ts) t Q old new newer before now)

-- the end of such a loop
pub Gains-all : {X Y : Type 0} (ts : List X) (n : ℕ) (Q : X → Y → Type 0) (old new : List Y) → length ts ≤ n → Gains old new (Each (take n ts) Q) → Gains old new (Each ts Q)
Gains-all ts n Q old new long adds = subst (λ us. Gains old new (Each us Q)) (take_all n ts long) adds

-- what a push adds
pub Gains-pushed : {X : Type 0} (xs ys : List X) (y : X) → ys ≡ xs ++ y ∷ [] → Gains xs ys (λ x. x ≡ y)
Gains-pushed xs ys y is = subst (λ l. Gains xs l (λ x. x ≡ y)) (sym is) (Gains-push xs y)

-- the items themselves
pub Gains-items : {X : Type 0} (ts old new : List X) → Gains old new (Each ts (λ t x. x ≡ t)) → Gains old new (Contains ts)
Gains-items ts old new adds =
    Gains-same old new (Each ts (λ t x. x ≡ t)) (Contains ts)
    (λ x e. subst (Contains ts) (sym e.2) e.1)
    (λ x h. (x, h, refl))
    adds
