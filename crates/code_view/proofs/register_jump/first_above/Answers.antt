use Rattle.std.proofs.Common.{◌+◌, ◌*◌, ◌<◌, ⊎_elim, arith}
use Rattle.std.proofs.lemmas.Bool.{cases_lt}
use Rattle.code_view.proofs.register_jump.first_above.Goals as goal

pub returns-in-Some : goal.returns-in-Some
returns-in-Some c =
    rw c.in-Some.is (λ place within.
    let told = c.places_up_to.ensures.exact place within in
    let here = c.args.start + 2 * place in (
      λ (above : c.in-Some.after < here). ⊎_elim (λ less. absurd (omega (arith, told.1 less, above))) (λ past. past) (cases_lt place c.places_up_to.result),
      λ past. ⊎_elim (λ above. above) (λ up_to. absurd (omega (arith, told.0 up_to, past))) (cases_lt c.in-Some.after here),
    ))
