use Rattle.std.proofs.Common.{⊎_elim, sym, ap, ◌∙◌, Some}
use mathlib.Core.Logic.{inl, inr}
use Rattle.crew.proofs.known.Known.note_some.Goals as goal

pub returns-in-Some : goal.returns-in-Some
returns-in-Some c b at = ⊎_elim inl (λ same. inr (c.in-Some.is ∙ ap Some (sym same))) (c.note.ensures b at)
