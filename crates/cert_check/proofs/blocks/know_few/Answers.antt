use Rattle.std.proofs.Common.{arith}
use Rattle.cert_text.specs.declared.lines.LeadLine.{LeadLine}
use Rattle.cert_ends.proofs.Few.{no_more}
use Rattle.cert_check.proofs.blocks.know_few.Goals as goal

pub returns : goal.returns
returns g c =
    let many = no_more (g.C.Chains.map c.args.code.now) (g.C.Numbered.number c.args.code.now) c.numbers.result (λ (l : LeadLine). l.at) c.numbers.ensures.numbers c.numbers.ensures.rise c.args._leads.now c.requires.rise c.requires.known in
    omega (arith, many)
