-- Notes of pieces, made one after another.
use Rattle.std.proofs.Common.{◌≡◌, ℕ, ◌+◌, ◌*◌, ◌<◌, List, Vec, [], ◌∷◌, ◌++◌, length, get_or, sym, ap, subst, ◌∙◌, inl, inr, arith}
use Rattle.std.proofs.lemmas.Bool.{cases_lt}
use Rattle.std.proofs.lemmas.List.{get_or_push, get_or_append_left, length_push}
use Rattle.std.specs.declared.alloc.Global.{Global}
use Rattle.cfg_model.specs.declared.graph.Block.{Block}
use Rattle.live_regs.specs.declared.effects.Effects.{Effects}
use Rattle.live_regs.specs.Noted.{AreEffectsFrom, AreNotesOf}

module _ (bytes : List ℕ) (blocks : List Block) (old new : List (Vec Effects Global)) (count : ℕ) (made : Vec Effects Global)
    (long : length old ≡ count) (e : new ≡ old ++ made ∷ []) where
  pub one_longer : length new ≡ count + 1
  one_longer = ap length e ∙ (length_push old made ∙ ap (λ n. n + 1) long)

  before : (i : ℕ) (piece : Vec Effects Global) → i < count → get_or new i piece ≡ get_or old i piece
  before i piece less = ap (λ ns. get_or ns i piece) e ∙ get_or_append_left old (made ∷ []) piece i (omega arith)

  last_one : (i : ℕ) (piece : Vec Effects Global) → i ≡ count → get_or new i piece ≡ made
  last_one i piece last = ap (λ ns. get_or ns i piece) e ∙ get_or_push old made piece i (long ∙ sym last)

  pub notes_more : AreNotesOf bytes blocks old → AreEffectsFrom bytes blocks (count * 1024) made.items → AreNotesOf bytes blocks new
  notes_more are one = λ i piece lt.
      elim (cases_lt i count) [
        | inl less ↦ subst (λ (p : Vec Effects Global). AreEffectsFrom bytes blocks (i * 1024) p.items) (sym (before i piece less)) (are i piece (omega (arith, less, long)))
        | inr le ↦
            let last : i ≡ count = omega (arith, le, lt, one_longer) in
            subst (λ (p : Vec Effects Global). AreEffectsFrom bytes blocks (i * 1024) p.items) (sym (last_one i piece last))
            (subst (λ n. AreEffectsFrom bytes blocks (n * 1024) made.items) (sym last) one)
      ]
