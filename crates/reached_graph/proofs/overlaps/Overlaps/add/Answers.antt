use Rattle.std.proofs.Common.{◌≡◌, ◌<◌, ◌⊎◌, refl, inl, inr, arith}
use Rattle.reached_graph.specs.Inner.Overlaps.{IsFound}
use Rattle.reached_graph.proofs.Overlapping.{more_overlap}
use Rattle.reached_graph.proofs.overlaps.Overlaps.add.Goals as goal
use Rattle.reached_graph.proofs.overlaps.Overlaps.add.Goals.{then-s-self+in_ok-add_starts, else-s-self}

pub returns-then-self-k : goal.returns-then-self-k
returns-then-self-k c = λ xs ks are.
    let mid = c.if-s-self.self in
    let known : IsFound c.args.s c.args.self.now mid ⊎ ((c.args.self.now.top < c.args.s) × (mid ≡ c.args.self.now)) = elim c.if-s-self.branch [
      | then-s-self+in_ok-add_starts w ↦ inl (rw w.self-is w.in_ok-add_starts.ensures)
      | else-s-self w ↦ inr (omega (arith, w.if-s-self.false), w.self-is)
    ] in
    more_overlap xs ks c.args.s c.args.k c.args.self.now mid _ known refl refl (omega (arith, c.if-self-k.true)) (omega arith) are

pub returns-else-self-k : goal.returns-else-self-k
returns-else-self-k c = λ xs ks are.
    let mid = c.if-s-self.self in
    let known : IsFound c.args.s c.args.self.now mid ⊎ ((c.args.self.now.top < c.args.s) × (mid ≡ c.args.self.now)) = elim c.if-s-self.branch [
      | then-s-self+in_ok-add_starts w ↦ inl (rw w.self-is w.in_ok-add_starts.ensures)
      | else-s-self w ↦ inr (omega (arith, w.if-s-self.false), w.self-is)
    ] in
    more_overlap xs ks c.args.s c.args.k c.args.self.now mid _ known refl refl (omega arith) (omega (arith, c.if-self-k.false)) are
