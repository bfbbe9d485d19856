-- A list of numbers that goes on, step by step.
use Rattle.std.proofs.Common.{◌≡◌, ℕ, ◌+◌, ◌<◌, ◌≤◌, ◌⊎◌, List, [], ◌∷◌, ◌++◌, length, take, get_or, Contains, sym, ap, ◌∙◌, subst, inl, inr, append_assoc, length-append, arith}
use Rattle.std.proofs.Math.ListN.{get_or-append}
use Rattle.std.proofs.lemmas.List.{append-nil, take_more, take_all}
use Rattle.std.proofs.lemmas.List.Elements.{Contains-append_left, Contains-push_cases, Contains-push}
use Rattle.cfg_model.specs.Graph.Listing.{Extends}
use Rattle.cfg_model.proofs.Graphs.Gaining.{Each, Each-none}

-- a list that goes on where another ends

pub contains_onward : (xs ys rest : List ℕ) → ys ≡ xs ++ rest → (a : ℕ) → Contains xs a → Contains ys a
contains_onward xs ys rest e a h = rw e (Contains-append_left xs rest a h)

pub get_or_onward : (xs ys rest : List ℕ) → ys ≡ xs ++ rest → (k d : ℕ) → k < length xs → get_or ys k d ≡ get_or xs k d
get_or_onward xs ys rest e k d h = rw e (get_or-append xs rest d k h)

pub length_onward : (xs ys rest : List ℕ) → ys ≡ xs ++ rest → length xs ≤ length ys
length_onward xs ys rest e = rw e (omega (arith, length-append xs rest))

-- what makes it longer

pub extends_none : (xs : List ℕ) (P : ℕ → Type 0) → ((a : ℕ) → P a → ⊥) → Extends xs xs P
extends_none xs P none = record {
  rest = [];
  goes_on = sym (append-nil xs);
  has = λ a h. absurd (none a h);
  only = λ a h. inl h;
}

-- a number that is pushed, and one that is there
pub extends_pushed : (old new : List ℕ) (a : ℕ) → new ≡ old ++ a ∷ [] → Extends old new (λ b. b ≡ a)
extends_pushed old new a is = record {
  rest = a ∷ [];
  goes_on = is;
  has = λ b h. subst (Contains new) (sym h) (rw is (Contains-push old a));
  only = λ b h. elim (Contains-push_cases old a b (subst (λ l. Contains l b) is h)) [ inl k ↦ inl k | inr e ↦ inr (sym e) ];
}

pub extends_there : (old : List ℕ) (a : ℕ) → Contains old a → Extends old old (λ b. b ≡ a)
extends_there old a there = record {
  rest = [];
  goes_on = sym (append-nil old);
  has = λ b h. subst (Contains old) (sym h) there;
  only = λ b h. inl h;
}

-- what one more number makes, where it holds of that one alone
pub extends_one : (old new : List ℕ) (a : ℕ) (P : ℕ → Type 0) → P a → ((b : ℕ) → P b → b ≡ a) → Extends old new (λ b. b ≡ a) → Extends old new P
extends_one old new a P p one more = record {
  rest = more.rest;
  goes_on = more.goes_on;
  has = λ b h. more.has b (one b h);
  only = λ b h. elim (more.only b h) [ inl k ↦ inl k | inr k ↦ inr (subst P (sym k) p) ];
}

-- what it is made longer by, said in other words
pub extends_same : (old new : List ℕ) (P Q : ℕ → Type 0) → ((a : ℕ) → P a → Q a) → ((a : ℕ) → Q a → P a) → Extends old new P → Extends old new Q
extends_same old new P Q there back more = record {
  rest = more.rest;
  goes_on = more.goes_on;
  has = λ a h. more.has a (back a h);
  only = λ a h. elim (more.only a h) [ inl k ↦ inl k | inr p ↦ inr (there a p) ];
}

extends_then : (xs ys zs : List ℕ) (P Q R : ℕ → Type 0) → ((a : ℕ) → R a → P a ⊎ Q a) → ((a : ℕ) → P a → R a) → ((a : ℕ) → Q a → R a)
    → Extends xs ys P → Extends ys zs Q → Extends xs zs R
extends_then xs ys zs P Q R split left right first second = record {
  rest = first.rest ++ second.rest;
  goes_on = second.goes_on ∙ (ap (λ v. v ++ second.rest) first.goes_on ∙ append_assoc xs first.rest second.rest);
  has = λ a h. elim (split a h) [ inl p ↦ contains_onward ys zs second.rest second.goes_on a (first.has a p) | inr q ↦ second.has a q ];
  only = λ a h.
      elim (second.only a h) [
        | inl k ↦ elim (first.only a k) [ inl m ↦ inl m | inr p ↦ inr (left a p) ]
        | inr q ↦ inr (right a q)
      ];
}

-- loops over a list, each item of which tells of numbers

pub extends_start : {X : Type 0} (Q : X → ℕ → Type 0) (old : List ℕ) → Extends old old (Each [] Q)
extends_start Q old = extends_none old (Each [] Q) (λ a h. Each-none Q a h)

push_splits : {X : Type 0} (ts : List X) (t : X) (Q : X → ℕ → Type 0) (a : ℕ) → Each (ts ++ t ∷ []) Q a → Each ts Q a ⊎ Q t a
push_splits ts t Q a e =
    elim (Contains-push_cases ts t e.0 e.1) [ inl before ↦ inl (e.0, before, e.2) | inr is ↦ inr (subst (λ x. Q x a) (sym is) e.2) ]

pub extends_more : {X : Type 0} (ts : List X) (i : ℕ) (d : X) (Q : X → ℕ → Type 0) (old mid new : List ℕ) → i < length ts
    → Extends old mid (Each (take i ts) Q) → Extends mid new (Q (get_or ts i d)) → Extends old new (Each (take (i + 1) ts) Q)
extends_more ts i d Q old mid new lt before now =
    subst (λ us. Extends old new (Each us Q)) (sym (take_more ts i d lt))
    (extends_then old mid new (Each (take i ts) Q) (Q (get_or ts i d)) (Each (take i ts ++ get_or ts i d ∷ []) Q)
    (push_splits (take i ts) (get_or ts i d) Q)
    (λ a e. (e.0, Contains-append_left (take i ts) (get_or ts i d ∷ []) e.0 e.1, e.2))
    (λ a q. (get_or ts i d, Contains-push (take i ts) (get_or ts i d), q))
    before now)

pub extends_at_end : {X : Type 0} (ts : List X) (n : ℕ) (Q : X → ℕ → Type 0) (old new : List ℕ) → length ts ≤ n → Extends old new (Each (take n ts) Q) → Extends old new (Each ts Q)
extends_at_end ts n Q old new long h = subst (λ us. Extends old new (Each us Q)) (take_all n ts long) h
