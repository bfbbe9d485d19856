use Rattle.std.proofs.Common.{◌≡◌, ◌<◌, true, eqb, sym, arith}
use Rattle.std.proofs.lemmas.Bool.Decides.{nat_tests}
use Rattle.elf_image.specs.Header as header
use Rattle.elf_image.specs.Header.{program_header_types}
use Rattle.elf_image.specs.Faults.{has_fault}
use Rattle.elf_image.specs.FaultTests.{has_interpreter}
use Rattle.elf_image.proofs.Ranges.{any-none, any-at}
use Rattle.elf_image.proofs.header.has_interpreter.Goals as goal

pub returns-then-u32_at-eq-PT_INTERP : goal.returns-then-u32_at-eq-PT_INTERP
unfolding has_fault has_interpreter program_header_types
returns-then-u32_at-eq-PT_INTERP c =
    let bytes = c.args.bytes.now in
    let here : eqb (header.program_header_type bytes c.loop-i.i) 3 ≡ true = grind (arith, nat_tests) in
    let within : c.loop-i.i < header.program_header_count bytes = omega arith in
    sym (any-at (λ kind. eqb kind 3) (header.program_header_type bytes) (header.program_header_count bytes) c.loop-i.i within here)

pub returns : goal.returns
unfolding has_fault has_interpreter program_header_types
returns c =
    let bytes = c.args.bytes.now in
    sym (any-none (λ kind. eqb kind 3) (header.program_header_type bytes) (header.program_header_count bytes)
    (λ k below. c.loop-i.invariant k (omega arith)))
