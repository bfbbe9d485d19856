use Rattle.std.proofs.Common.{ap, ◌∙◌}
use Rattle.chain_index.specs.Numbers.{code_count}
use Rattle.code_view.specs.Cuts.{cut_of}
use Rattle.numbered.proofs.CodeNumbers.{code-numbering, codes-rise}
use Rattle.numbered.proofs.file_code.CodeNumbered.numbers.Goals as goal

pub returns-clause-numbers : goal.returns-clause-numbers
returns-clause-numbers c =
    code-numbering c.args.self.now.bytes (cut_of c.args.self.now.cuts) _ c.index.ensures.accepted (c.numbers.ensures ∙ ap code_count c.index.ensures.index)

pub returns-clause-rise : goal.returns-clause-rise
returns-clause-rise c = codes-rise c.args.self.now.bytes (cut_of c.args.self.now.cuts)
