use Rattle.std.proofs.Common.{◌≡◌, List, sym, subst}
use Rattle.cfg_model.specs.declared.graph.Block.{Block}
use Rattle.cfg_model.specs.declared.graph.Edge.{Edge}
use Rattle.live_regs.specs.Noted.{AreInOrder}
use Rattle.live_regs.proofs.Edges.{rises_by_from}
use Rattle.live_regs.proofs.function.lives.Goals as goal

both : (P : List Block → List Edge → Type 0) (bs blocks : List Block) (es edges : List Edge) → bs ≡ blocks → es ≡ edges → P blocks edges → P bs es
both P bs blocks es edges p q h = subst (λ x. P x es) (sym p) (subst (P blocks) (sym q) h)

pub new-program-requires-clause-order : goal.new-program-requires-clause-order
new-program-requires-clause-order g c =
    both AreInOrder _ _ _ _ c.as_slice-blocks.ensures c.as_slice-edges.ensures
    (record { by_start = c.requires.1.all_blocks.in_order; by_from = rises_by_from _ c.requires.1.all_edges.in_order })
