use Rattle.std.proofs.Common.{◌≡◌, ◌∙◌, ap, sym, Some, arith}
use Rattle.chain_index.specs.Chain.{next_of}
use Rattle.code_view.specs.Cuts.{cut_of}
use Rattle.code_view.specs.FileCode.{FileCode}
use Rattle.code_view.proofs.ChainEnds.{next-size, next-small}
use Rattle.code_view.proofs.code.Code.word_length.Goals as goal
use Rattle.code_view.proofs.code.Code.word_length.Goals.{In-Some}

-- control goes straight on in the file that is kept
goes_on : (c : In-Some) → next_of c.args.self.now.bytes c.args.a ≡ Some c.in-Some.next
goes_on c =
    let file = c.self.invariant.index ∙ ap (λ (f : FileCode). f.bytes) c.self.view_is in
    ap (λ bytes. next_of bytes c.args.a) (sym file) ∙ sym c.in-Some.ensures

pub overflow_sub-result : goal.overflow_sub-result
overflow_sub-result c =
    let code = c.args.self.now in
    omega (arith, (next-small code.bytes (cut_of code.cuts) c.args.a c.in-Some.next c.requires (goes_on c)).0)

pub overflow_cast-result : goal.overflow_cast-result
overflow_cast-result c =
    let code = c.args.self.now in
    omega (arith, (next-small code.bytes (cut_of code.cuts) c.args.a c.in-Some.next c.requires (goes_on c)).1)

pub returns-in-Some : goal.returns-in-Some
returns-in-Some c =
    let code = c.args.self.now in
    sym (next-size code.bytes (cut_of code.cuts) c.args.a c.in-Some.next c.requires (goes_on c))
