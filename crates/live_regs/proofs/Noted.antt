-- The effects of blocks, noted one after another, and found again by the number of the block.
use Rattle.std.proofs.Common.{◌≡◌, ◌∙◌, inl, inr, ℕ, ◌+◌, ◌*◌, ◌/◌, ◌%◌, ◌<◌, List, Vec, [], ◌∷◌, ◌++◌, length, get_or, refl, sym, ap, subst, arith}
use Rattle.std.proofs.lemmas.Bool.{cases_lt}
use Rattle.std.proofs.lemmas.List.{get_or_default, get_or_push, get_or_append_left, length_push}
use Rattle.std.specs.declared.alloc.Global.{Global}
use Rattle.cfg_model.specs.declared.graph.Block.{Block}
use Rattle.live_regs.specs.declared.effects.Effects.{Effects}
use Rattle.live_regs.specs.Noted.{AreEffectsFrom, AreEffectsOf, AreNotesOf}
use Rattle.live_regs.specs.Run.{instructions_of}

-- what holds of each item holds with one more
each_pushed : {X : Type 0} (P : ℕ → X → Type 0) (xs : List X) (count : ℕ) (x : X) → length xs ≡ count → ((k : ℕ) (d : X) → k < count → P k (get_or xs k d)) → P count x
    → (k : ℕ) (d : X) → k < count + 1 → P k (get_or (xs ++ x ∷ []) k d)
each_pushed P xs count x long all here k d lt =
    elim (cases_lt k count) [
      | inl less ↦ subst (P k) (sym (get_or_append_left xs (x ∷ []) d k (omega arith))) (all k d less)
      | inr le ↦
          let last : k ≡ count = omega arith in
          subst (P k) (sym (get_or_push xs x d k (long ∙ sym last))) (subst (λ n. P n x) (sym last) here)
    ]

module _ (bytes : List ℕ) (blocks : List Block) (first : ℕ) where
  -- the effects of the blocks before this number
  pub record AreEffectsTo (number : ℕ) (all : List Effects) : Type 0 where
    pub long : first + length all ≡ number
    pub each : AreEffectsFrom bytes blocks first all

  pub no_effects : (all : List Effects) → all ≡ [] → AreEffectsFrom bytes blocks first all
  no_effects all none = λ k b e lt. let long : length all ≡ 0 = ap length none in absurd (omega arith)

  pub effects_to_first : (all : List Effects) → all ≡ [] → AreEffectsTo first all
  effects_to_first all none = let long : length all ≡ 0 = ap length none in record { long = omega arith; each = no_effects all none }

  module _ (number : ℕ) (old : List Effects) (one : Effects) (d : Block) (within : number < length blocks) (h : AreEffectsTo number old)
      (is : AreEffectsOf (instructions_of bytes (get_or blocks number d)) one) where
    here : (b : Block) → AreEffectsOf (instructions_of bytes (get_or blocks (first + length old) b)) one
    here b = subst (λ n. AreEffectsOf (instructions_of bytes (get_or blocks n b)) one) (sym h.long)
        (subst (λ block. AreEffectsOf (instructions_of bytes block) one) (get_or_default blocks number d b within) is)

    longer : length (old ++ one ∷ []) ≡ length old + 1
    longer = length_push old one

    pushed : AreEffectsTo (number + 1) (old ++ one ∷ [])
    pushed = record {
      long = omega (arith, longer, h.long);
      each = λ k b e lt. each_pushed (λ j x. (c : Block) → AreEffectsOf (instructions_of bytes (get_or blocks (first + j) c)) x) old (length old) one refl
          (λ j x less c. h.each j c x less) here k e (omega (arith, longer, lt)) b;
    }

    pub effects_to_more : (new : List Effects) → new ≡ old ++ one ∷ [] → AreEffectsTo (number + 1) new
    effects_to_more new e = subst (AreEffectsTo (number + 1)) (sym e) pushed

-- the note of a block stands in its piece at its place there
pub noted_at : (bytes : List ℕ) (blocks : List Block) (notes : List (Vec Effects Global)) (number : ℕ) (piece : Vec Effects Global) (e : Effects) (b : Block)
    → AreNotesOf bytes blocks notes → number / 1024 < length notes → number % 1024 < length (get_or notes (number / 1024) piece).items
    → AreEffectsOf (instructions_of bytes (get_or blocks number b)) (get_or (get_or notes (number / 1024) piece).items (number % 1024) e)
noted_at bytes blocks notes number piece e b are some inside =
    let place : number / 1024 * 1024 + number % 1024 ≡ number = omega arith in
    subst (λ n. AreEffectsOf (instructions_of bytes (get_or blocks n b)) (get_or (get_or notes (number / 1024) piece).items (number % 1024) e)) place
    (are (number / 1024) piece some (number % 1024) b e inside)

-- the same, as it is read: the piece from among these, and the note from the piece
pub note_found : (bytes : List ℕ) (blocks : List Block) (notes among : List (Vec Effects Global)) (number : ℕ) (piece : Vec Effects Global) (within : List Effects) (e : Effects)
    → AreNotesOf bytes blocks notes → among ≡ notes → within ≡ piece.items → number / 1024 < length among → piece ≡ get_or among (number / 1024) piece
    → number % 1024 < length within → e ≡ get_or within (number % 1024) e → (b : Block) → AreEffectsOf (instructions_of bytes (get_or blocks number b)) e
note_found bytes blocks notes among number piece within e are all items some at inside is b =
    let read : within ≡ (get_or notes (number / 1024) piece).items = items ∙ ap (λ (p : Vec Effects Global). p.items) (at ∙ ap (λ ns. get_or ns (number / 1024) piece) all) in
    let note : e ≡ get_or (get_or notes (number / 1024) piece).items (number % 1024) e = is ∙ ap (λ xs. get_or xs (number % 1024) e) read in
    subst (AreEffectsOf (instructions_of bytes (get_or blocks number b))) (sym note)
    (noted_at bytes blocks notes number piece e b are (subst (λ ns. number / 1024 < length ns) all some) (subst (λ xs. number % 1024 < length xs) read inside))
