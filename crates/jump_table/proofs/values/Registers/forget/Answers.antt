use Rattle.std.proofs.Common.{◌≡◌, ◌+◌, ◌/◌, ◌%◌, ◌^◌, eq-eqb, refl, sym, subst, arith}
use Rattle.std.proofs.lemmas.Bool.{ne_eqb}
use Rattle.jump_table.specs.Inner.Held.{held_by}
use Rattle.jump_table.specs.Values.{Registers}
use Rattle.jump_table.specs.declared.values.Registers.{Registers as Listed}
use Rattle.jump_table.proofs.Writes.{AreOverwrittenBelow, overwritten-none, overwritten-set, overwritten-kept, overwritten-all}
use Rattle.jump_table.proofs.values.Registers.forget.Goals as goal
use Rattle.jump_table.proofs.values.Registers.forget.Goals.{then-mask-r-eq1, else-mask-r-eq1}

pub loop-r-init : goal.loop-r-init
loop-r-init c = overwritten-none (held_by c.args.self.now.values) c.args.mask

pub loop-r-preserved : goal.loop-r-preserved
loop-r-preserved c =
    let before : Registers = held_by c.args.self.now.values in
    let Below : Registers → Type 0 = AreOverwrittenBelow before c.args.mask (c.loop-r.r + 1) in
    let in_list : Listed → Type 0 = λ listed. Below (held_by listed.values) in
    elim c.if-mask-r-eq1.branch [
      | then-mask-r-eq1 w ↦
          subst in_list (sym w.self-is)
          (subst Below (sym w.set.ensures)
          (overwritten-set before c.args.mask c.loop-r.r (held_by c.loop-r.self.values) c.loop-r.invariant (eq-eqb (c.args.mask / 2 ^ c.loop-r.r % 2) 1 w.if-mask-r-eq1.true)))
      | else-mask-r-eq1 w ↦
          subst in_list (sym w.self-is)
          (overwritten-kept before c.args.mask c.loop-r.r (held_by c.loop-r.self.values) refl c.loop-r.invariant (ne_eqb (c.args.mask / 2 ^ c.loop-r.r % 2) 1 w.if-mask-r-eq1.false))
    ]

pub returns : goal.returns
returns c =
    overwritten-all (held_by c.args.self.now.values) c.args.mask c.loop-r.r (held_by c.loop-r.self.values) (omega arith) (omega arith) refl c.loop-r.invariant
