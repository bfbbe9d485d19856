use Rattle.std.proofs.Common.{sym, ap, ◌∙◌, ℕ, ℤ, rules}
use Rattle.std.specs.Int.{w64}
use Rattle.std.proofs.lemmas.Int.{to_z-of_z}
use Rattle.elf_image.specs.Architecture.{extensions_of}
use Rattle.rv_decode.specs.Fields.{rd, i_immediate}
use Rattle.rv_flow.specs.Inner.{long, register_flow}
use Rattle.rv_flow.proofs.EndsTold.{jalr_told}
use Rattle.rv_flow.proofs.insn_bytes.jalr_word_flow.Goals as goal

pub returns : goal.returns
returns c =
    let bytes = c.args.image.now in
    let a = c.args.a in
    let w = c.args.word in
    let told = jalr_told (extensions_of bytes) bytes a w c.requires (sym c.funct3.ensures ∙ c.if-funct3-ne0.false) in
    let imm = to_z-of_z w64 c.i_immediate.result (search rules) ∙ c.i_immediate.ensures in
    let flow = c.register_flow.ensures
    ∙ ap (λ (i : ℤ). register_flow bytes a c.rd.result c.rs1.result i) imm
    ∙ ap (λ (d : ℕ). register_flow bytes a d c.rs1.result (i_immediate w)) c.rd.ensures
    ∙ ap (λ (s : ℕ). register_flow bytes a (rd w) s (i_immediate w)) c.rs1.ensures in
    c.long.ensures ∙ ap long flow ∙ sym told
