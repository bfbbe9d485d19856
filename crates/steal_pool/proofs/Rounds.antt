-- One round of tries.
use Rattle.std.proofs.Common.{◌≡◌, ℕ, suc, ◌+◌, ◌-◌, ◌%◌, ◌<◌, ◌≤◌, ◌⊎◌, Bool, true, false, List, [], ◌∷◌, ◌++◌, MatchBool, refl, sym, ap, ◌∙◌, subst, inl, inr, ⊎_elim, arith}
use native.Mathlib.Decide.{ℕ_discrete, dec_le}
use Rattle.std.proofs.Math.Nat.{mod-lt, mod-eq_of_lt}
use Rattle.std.proofs.lemmas.Nat.{mod-mul-add}
use Rattle.core_state.specs.declared.answer.Name.{Name}
use Rattle.steal_pool.specs.declared.deques.Tried.{Tried}
use Rattle.steal_pool.specs.declared.deques.Tried.TheVariants as tried
use Rattle.steal_pool.specs.Rose.{Rose, greatest_count}
use Rattle.steal_pool.specs.Tries.{MatchTried, Misses, IsRound}

pub rose_later : (a b c : ℕ) → Rose a b → b ≤ c → Rose a c
rose_later a b c (inl up) le = inl (omega arith)
rose_later a b c (inr most) le = inr (omega arith)

pub rose_earlier : (a b c : ℕ) → a ≤ b → Rose b c → Rose a c
rose_earlier a b c le (inl up) = inl (omega arith)
rose_earlier a b c le (inr most) = inr most

below_or_at : (k n : ℕ) → k < n + 1 → (k < n) ⊎ (k ≡ n)
below_or_at k n h = by_cases (ℕ_discrete k n)
  where
    by_cases : Dec (k ≡ n) → (k < n) ⊎ (k ≡ n)
    by_cases (yes is) = inr is
    by_cases (no not) = inl (omega arith)

module _ {E : Type 0} (try_made : E → ℕ → Tried → E → Type 0) (size : E → ℕ) (empties beaten : E → ℕ → ℕ) (got : E → List Name) (own count : ℕ) (old : E) where
  -- what is known after some misses
  pub record SoFar (now : E) (step : ℕ) (lost : Bool) : Type 0 where
    pub misses : Misses try_made own count old step lost now
    pub sized : size now ≡ size old
    pub same : got now ≡ got old
    pub empties_last : (i : ℕ) → empties old i ≤ empties now i
    pub beaten_last : (i : ℕ) → beaten old i ≤ beaten now i
    pub cause : MatchBool lost ((i : ℕ) × (i < count) × Rose (beaten old i) (beaten now i)) ((k : ℕ) → k < step → Rose (empties old ((own + k) % count)) (empties now ((own + k) % count)))

  pub begins : SoFar old 0 false
  begins = record { misses = Misses.no_try; sized = refl; same = refl; empties_last = λ i. omega arith; beaten_last = λ i. omega arith; cause = λ k h. absurd (omega arith) }

  -- what one try brings
  pub record Brings (i : ℕ) (mid : E) (t : Tried) (now : E) : Type 0 where
    pub made : try_made mid i t now
    pub sized : size now ≡ size mid
    pub gets : MatchTried t (λ name. got now ≡ got mid ++ name ∷ []) (got now ≡ got mid) (got now ≡ got mid)
    pub cause : MatchTried t (λ _. Unit {0}) (Rose (beaten mid i) (beaten now i)) (Rose (empties mid i) (empties now i))
    pub empties_last : (j : ℕ) → empties mid j ≤ empties now j
    pub beaten_last : (j : ℕ) → beaten mid j ≤ beaten now j

  abbrev Risen : E → ℕ → Type 0
  Risen now k = Rose (empties old ((own + k) % count)) (empties now ((own + k) % count))

  abbrev Overtaken : E → Type 0
  Overtaken now = (i : ℕ) × (i < count) × Rose (beaten old i) (beaten now i)

  still_risen : (mid now : E) (step : ℕ) → ((j : ℕ) → empties mid j ≤ empties now j) → ((k : ℕ) → k < step → Risen mid k) → (k : ℕ) → k < step → Risen now k
  still_risen mid now step grows all k h = let i : ℕ = (own + k) % count in rose_later (empties old i) (empties mid i) (empties now i) (all k h) (grows i)

  still_overtaken : (mid now : E) → ((j : ℕ) → beaten mid j ≤ beaten now j) → Overtaken mid → Overtaken now
  still_overtaken mid now grows o = (o.0, o.1, rose_later (beaten old o.0) (beaten mid o.0) (beaten now o.0) o.2 (grows o.0))

  one_more : (F : ℕ → Type 0) (step : ℕ) → ((k : ℕ) → k < step → F k) → F step → (k : ℕ) → k < step + 1 → F k
  one_more F step all last k h = ⊎_elim (λ (lt : k < step). all k lt) (λ (is : k ≡ step). subst F (sym is) last) (below_or_at k step h)

  pub after_empty : (mid now : E) (step : ℕ) (lost : Bool) → SoFar mid step lost → Brings ((own + step) % count) mid tried.Empty now → SoFar now (step + 1) lost
  after_empty mid now step lost so b = record {
    misses = Misses.one_empty step lost mid now so.misses b.made;
    sized = b.sized ∙ so.sized;
    same = b.gets ∙ so.same;
    empties_last = λ i. omega (arith, so.empties_last i, b.empties_last i);
    beaten_last = λ i. omega (arith, so.beaten_last i, b.beaten_last i);
    cause = causes lost so.cause;
  }
    where
      i : ℕ
      i = (own + step) % count

      causes : (lost : Bool) → MatchBool lost (Overtaken mid) ((k : ℕ) → k < step → Risen mid k) → MatchBool lost (Overtaken now) ((k : ℕ) → k < step + 1 → Risen now k)
      causes true o = still_overtaken mid now b.beaten_last o
      causes false all = one_more (Risen now) step (still_risen mid now step b.empties_last all) (rose_earlier (empties old i) (empties mid i) (empties now i) (so.empties_last i) b.cause)

  pub after_beaten : 0 < count → (mid now : E) (step : ℕ) (lost : Bool) → SoFar mid step lost → Brings ((own + step) % count) mid tried.Beaten now → SoFar now (step + 1) true
  after_beaten some mid now step lost so b =
      let i : ℕ = (own + step) % count in record {
        misses = Misses.one_beaten step lost mid now so.misses b.made;
        sized = b.sized ∙ so.sized;
        same = b.gets ∙ so.same;
        empties_last = λ j. omega (arith, so.empties_last j, b.empties_last j);
        beaten_last = λ j. omega (arith, so.beaten_last j, b.beaten_last j);
        cause = (i, mod-lt (own + step) some, rose_earlier (beaten old i) (beaten mid i) (beaten now i) (so.beaten_last i) b.cause);
      }

  -- after a whole round each deque was tried
  pub each_risen : own < count → (now : E) → ((k : ℕ) → k < count → Risen now k) → (i : ℕ) → i < count → Rose (empties old i) (empties now i)
  each_risen fits now all i h = by_cases (dec_le own i)
    where
      tried_at : (k : ℕ) → k < count → (own + k) % count ≡ i → Rose (empties old i) (empties now i)
      tried_at k lt is = subst (λ (j : ℕ). Rose (empties old j) (empties now j)) is (all k lt)

      by_cases : Dec (own ≤ i) → Rose (empties old i) (empties now i)
      by_cases (yes le) = tried_at (i - own) (omega arith) (ap (λ (n : ℕ). n % count) (omega arith) ∙ mod-eq_of_lt h)
      by_cases (no gt) = tried_at (i + count - own) (omega arith) (ap (λ (n : ℕ). n % count) (omega arith) ∙ mod-mul-add 1 count i h)
