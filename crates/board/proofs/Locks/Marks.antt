-- Which slots a view holds, after a step.
use Rattle.std.proofs.Common.{◌≡◌, ◌≢◌, ℕ, zero, suc, ◌<◌, Bool, true, false, true≢false, List, [], ◌∷◌, length, get_or, set, replicate, Some, refl, sym, ◌∙◌, arith}
use Rattle.std.proofs.lemmas.List.{get_or-set_same, get_or-set_other}
use Rattle.board.specs.Locks.TurnView.{TurnView as View}

-- the mark of slot i
abbrev pub mark : View → ℕ → Bool
mark v i = get_or v.holds i false

pub mark_set : (v : View) (i : ℕ) (b : Bool) → i < length v.holds → get_or (set v.holds i b) i false ≡ b
mark_set v i b h = get_or-set_same v.holds i b false h

pub mark_else : (v : View) (i j : ℕ) (b : Bool) → j ≢ i → get_or (set v.holds i b) j false ≡ mark v j
mark_else v i j b n = get_or-set_other v.holds i j b false n

pub no_marks : (n i : ℕ) → get_or (replicate n false) i false ≡ true → ⊥
no_marks zero i e = true≢false (sym e)
no_marks (suc n) zero e = true≢false (sym e)
no_marks (suc n) (suc i) e = no_marks n i e

pub unmarked : (b : Bool) → (b ≡ true → ⊥) → b ≡ false
unmarked true h = absurd (h refl)
unmarked false h = refl

pub not_both : (b : Bool) → b ≡ true → b ≡ false → ⊥
not_both b e f = true≢false (sym e ∙ f)

pub same_slot : (i j : ℕ) → Some i ≡ Some j → j ≡ i
same_slot i j e = sym (search e)

-- a slot that is marked has a place in the list
pub marked_below : (bs : List Bool) (i : ℕ) → get_or bs i false ≡ true → i < length bs
marked_below [] i e = absurd (true≢false (sym e))
marked_below (b ∷ bs) zero e = omega arith
marked_below (b ∷ bs) (suc i) e = omega (arith, marked_below bs i e)
