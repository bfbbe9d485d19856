-- The exits where memory ran out.
use Rattle.std.proofs.Common.{◌≡◌, ℕ, List, Result, Err, sym, subst, ◌∙◌}
use Rattle.cert_text.specs.declared.error.TextError.{TextError}
use Rattle.cert_text.specs.declared.error.TextError.TheVariants.{NoText, Memory}
use Rattle.cert_text.specs.Sections.{Gives, GivesBoth}

pub both_at_memory : {X Y : Type 0} (value : X → Y) (left : X → List ℕ) (r : Result X TextError) (x : Y) (rest : List ℕ) (y e : TextError) → r ≡ Err y → y ≡ e → e ≡ Memory → GivesBoth value left r x rest
both_at_memory {X} {Y} value left r x rest y e is same memory =
    subst (λ (s : Result X TextError). GivesBoth value left s x rest) (sym is) (same ∙ memory)

pub at_memory : {X : Type 0} (r : Result X TextError) (x : X) (y e : TextError) → r ≡ Err y → y ≡ e → e ≡ Memory → Gives r x
at_memory {X} r x y e is same memory = subst (λ (s : Result X TextError). Gives s x) (sym is) (same ∙ memory)

pub not_at_memory : {X : Type 0} (r : Result X TextError) (y e : TextError) → r ≡ Err y → y ≡ e → e ≡ Memory → r ≡ Err NoText → ⊥
not_at_memory {X} r y e is same memory other = cc
