use Rattle.std.proofs.Common.{◌≡◌, ◌+◌, ◌-◌, suc, false, is_some, not, ap, ap₂, ◌∙◌, arith}
use Rattle.jump_table.specs.Table.{entry_target}
use Rattle.jump_table.proofs.Listed.{count-on, count-off}
use Rattle.jump_table.proofs.entries.count_entries.Goals as goal
use Rattle.jump_table.proofs.entries.count_entries.Goals.{After-is_none}

-- what is asked of the words is the target of an entry of the table
told : (c : After-is_none) → c.target_in.result ≡ entry_target c.args.image.now c.args.base c.args.width c.args.add c.loop-i.i
told c =
    c.target_in.ensures
    ∙ ap₂ (λ bytes base. entry_target bytes base c.args.width c.args.add c.loop-i.i) c.new-words.ensures.image c.new-words.ensures.base

pub loop-i-preserved : goal.loop-i-preserved
loop-i-preserved c =
    let left : c.args.bound - c.loop-i.i ≡ suc (c.args.bound - (c.loop-i.i + 1)) = omega arith in
    let one = count-on c.args.image.now c.args.base c.args.width c.args.add c.loop-i.i (c.args.bound - c.loop-i.i) (c.args.bound - (c.loop-i.i + 1)) c.target_in.result left (told (goal.at.loop-i-preserved c).After-is_none) (c.if-is_none.ensures) in
    omega (arith, one, c.loop-i.invariant)

pub returns-then-is_none : goal.returns-then-is_none
returns-then-is_none c =
    let left : c.args.bound - c.loop-i.i ≡ suc (c.args.bound - (c.loop-i.i + 1)) = omega (arith, c.loop-i-test.true) in
    let none : is_some c.target_in.result ≡ false = c.is_none.ensures ∙ ap (λ b. not b) c.if-is_none.true in
    let last = count-off c.args.image.now c.args.base c.args.width c.args.add c.loop-i.i (c.args.bound - c.loop-i.i) (c.args.bound - (c.loop-i.i + 1)) c.target_in.result left (told (goal.at.returns-then-is_none c).After-is_none) none in
    omega (arith, last, c.loop-i.invariant)
