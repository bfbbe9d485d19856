use Rattle.std.proofs.Common.{◌≡◌, ℕ, ◌+◌, ◌<◌, ◌≤◌, ◌^◌, ◌⊎◌, min, refl, ◌∙◌, inl, inr, arith}
use Rattle.std.proofs.lemmas.Bool.{cases_lt}
use Rattle.live_regs.proofs.Runs.{told_none, told_more, told_all}
use Rattle.live_regs.proofs.effects.effects_between.Goals as goal

saturated : (a n m end b : ℕ) → end < 2 ^ 64 → m ≡ n → b ≡ min (a + m) 18446744073709551615 → (b ≡ a + n) ⊎ ((end ≤ b) × (end ≤ a + n))
saturated a n m end b fits e is =
    elim (cases_lt (a + n) 18446744073709551615) [
      | inl lt ↦ inl (omega arith)
      | inr le ↦ inr (omega arith, omega arith)
    ]

pub loop-a-init : goal.loop-a-init
loop-a-init c = told_none _ _ _ _ refl refl

pub loop-a-preserved : goal.loop-a-preserved
loop-a-preserved c =
    let found = c.effects_at-placed.ensures in
    told_more _ _ _ _ _ _ c.effects_at-placed.result.effects _ c.loop-a-test.true
    (saturated _ _ _ _ _ (omega (arith, c.ranges.end.fits)) (c.from.ensures ∙ found.length) c.saturating_add-a.ensures)
    c.loop-a.invariant
    found.reads
    found.writes
    c.then-effects.ensures.reads c.then-effects.ensures.writes

pub returns : goal.returns
returns c = told_all _ _ _ _ _ c.loop-a-test.false c.loop-a.invariant
