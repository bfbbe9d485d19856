use Rattle.std.proofs.Common.{◌≡◌, ◌<◌, ◌^◌, ℕ, sym, ap, subst, ◌∙◌}
use Rattle.elf_image.specs.Architecture.{extensions_of}
use Rattle.rv_decode.specs.Fields.{sign_extended}
use Rattle.rvc_expand.specs.Bits.{field}
use Rattle.rvc_expand.specs.Halfword.{branch_offset}
use Rattle.rv_flow.specs.declared.raw.RawFlow.TheVariants as raw
use Rattle.rv_flow.specs.Raw.{address_plus}
use Rattle.rv_flow.proofs.EndsTold.{short_beqz, short_bnez}
use Rattle.rv_flow.proofs.insn_bytes.short_flow.Goals as goal

pub returns-in-1-eq6 : goal.returns-in-1-eq6
returns-in-1-eq6 c =
    let bits : c.from-bits.result ≡ c.args.half = c.from-bits.ensures in
    let q = ap (λ (h : ℕ). field h 1 0) (sym bits) ∙ sym c.field.ensures ∙ c.in-1-eq6.is-0 in
    let f = ap (λ (h : ℕ). field h 15 13) (sym bits) ∙ sym c.field-2.ensures ∙ c.in-1-eq6.is-1 in
    c.short_branch.ensures.flow
    ∙ ap (λ (h : ℕ). raw.Branch (address_plus c.args.a (sign_extended 13 (branch_offset h)))) bits
    ∙ sym (short_beqz (extensions_of c.args.image.now) c.args.image.now c.args.a c.args.half q f (subst (λ (h : ℕ). branch_offset h < 2 ^ 13) bits c.short_branch.ensures.fits))

pub returns-in-1-eq7 : goal.returns-in-1-eq7
returns-in-1-eq7 c =
    let bits : c.from-bits.result ≡ c.args.half = c.from-bits.ensures in
    let q = ap (λ (h : ℕ). field h 1 0) (sym bits) ∙ sym c.field.ensures ∙ c.in-1-eq7.is-0 in
    let f = ap (λ (h : ℕ). field h 15 13) (sym bits) ∙ sym c.field-2.ensures ∙ c.in-1-eq7.is-1 in
    c.short_branch-in-1-eq7.ensures.flow
    ∙ ap (λ (h : ℕ). raw.Branch (address_plus c.args.a (sign_extended 13 (branch_offset h)))) bits
    ∙ sym (short_bnez (extensions_of c.args.image.now) c.args.image.now c.args.a c.args.half q f (subst (λ (h : ℕ). branch_offset h < 2 ^ 13) bits c.short_branch-in-1-eq7.ensures.fits))
