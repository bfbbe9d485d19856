use Rattle.std.proofs.Common.{refl, sym, subst}
use Rattle.cfg_model.specs.Program.Chain.{OnChain}
use Rattle.board.specs.declared.piece.Piece.TheVariants.{Ends}
use Rattle.board.proofs.Due.{due_near, arrives_part}
use Rattle.board.proofs.change.ArriveChangeArrival.make.Goals as goal

pub arrive_along-requires-clause-near : goal.arrive_along-requires-clause-near
arrive_along-requires-clause-near g c p near =
    subst (λ map. OnChain map p c.args.self.now.k) (sym c.args.self.now.code)
    (due_near g.J.Job.map g.J.Job.seeds c.args.self.now.k c.args.self.now.s c.args.piece.now c.requires _ c.in-Ends.is p near)

pub returns-clause-step : goal.returns-clause-step
returns-clause-step g c =
    arrives_part g.J.Job.map (g.W.Walk.map c.args.self.now.walk.now) c.args.self.now.k c.args.self.now.s c.in-Ends.ends c.arrive_along.new.self c.args.piece.now (Ends c.arrive_along.new.self)
    c.arrive_along.result c.args.self.now.code c.in-Ends.is refl c.arrive_along.ensures.arrives
