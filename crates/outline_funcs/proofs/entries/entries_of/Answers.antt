use Rattle.std.proofs.Common.{⊎_elim}
use Rattle.outline_funcs.proofs.entries.entries_of.Goals as goal

pub returns : goal.returns
returns c = record {
  rising = c.rising.ensures.rising;
  exact = λ a.
      let same = c.rising.ensures.same a in
      let gains = c.in_ok-called.ensures in (
        (λ h. gains.nothing_else a (same.0 h)),
        (λ h. ⊎_elim (λ s. same.1 (gains.kept a s)) (λ e. same.1 (gains.added a e)) h),
      );
}
