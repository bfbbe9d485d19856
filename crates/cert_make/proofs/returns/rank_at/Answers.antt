use Rattle.cert_make.proofs.Settling.{end_rank, end_none}
use Rattle.cert_make.proofs.returns.rank_at.Goals as goal

pub returns-in-Some : goal.returns-in-Some
returns-in-Some g c = end_rank (g.C.Chains.map c.args.code.now) c.args.returns.now.lines.now c.args.a c.term.result c.in-Some.line c.term.ensures.term c.requires.numbered.rise c.in-Some.ensures.0 c.in-Some.ensures.1

pub returns-in-None : goal.returns-in-None
returns-in-None g c = end_none (g.C.Chains.map c.args.code.now) c.args.returns.now.lines.now c.args.a c.term.result c.term.ensures.term c.in-None.ensures
