-- What leaders are to each other, whatever their ranks.
use Rattle.std.specs.Prelude.{List, map}
use Rattle.cfg_model.specs.Program.Instructions.{InstructionMap}
use Rattle.cert_text.specs.declared.lines.LeadLine.{LeadLine}
use Rattle.cert_make.specs.declared.links.Links.{Links}
use Rattle.cert_make.specs.Inner.Ends.{AreEnds, AreExits}
use Rattle.cert_make.specs.Inner.Runs.{AreRuns}

-- These are the blocks of the leaders of these lines, the ends of their chains, and the ways from
-- the ends to the leaders.
pub record AreLinks (code : InstructionMap) (lines : List LeadLine) (links : Links) : Type 0 where
  pub runs : AreRuns code lines links.runs.items
  pub ends : AreEnds code (map (λ (l : LeadLine). l.at) lines) links.ends
  pub exits : AreExits code (map (λ (l : LeadLine). l.at) lines) links.ends.terms.items
      links.exits.items
