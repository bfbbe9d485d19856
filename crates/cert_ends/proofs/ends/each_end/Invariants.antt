use Rattle.std.proofs.Common.{[], take}
use Rattle.cfg_model.specs.Graph.Listing.{Gains}
use Rattle.cfg_model.specs.Program.Chain.{IsTerminatorOf}
use Rattle.cfg_model.proofs.Graphs.Gaining.{Each}
use Rattle.cert_ends.proofs.ends.each_end.Given as goal

-- the ends of the leaders so far
abbrev pub invariant-loop-line : goal.invariant-loop-line
invariant-loop-line g l =
    Gains [] l.ends.items (Each (take l.line-index l.leads) (λ line. IsTerminatorOf (g.C.Chains.map l.code) line.at))
