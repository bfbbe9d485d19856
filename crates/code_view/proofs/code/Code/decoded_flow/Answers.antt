use Rattle.std.proofs.Common.{◌≡◌, ◌∙◌, ap, sym, refl, subst, arith, true, ◌+◌, ◌<◌, ◌^◌, Some}
use Rattle.elf_image.specs.Code.{is_code}
use Rattle.elf_image.specs.Faults.{IsImage}
use Rattle.jump_table.specs.Table.{table_at}
use Rattle.rv_flow.specs.declared.insn_bytes.PlacedFlow.{PlacedFlow}
use Rattle.rv_flow.specs.Placed.{placed_at}
use Rattle.rv_flow.specs.InsnBytes.{AreBytesAt, placed_flow_at}
use Rattle.code_view.specs.Cuts.{cut_of}
use Rattle.code_view.specs.Flow.{flow_by}
use Rattle.code_view.specs.FileCode.{FileCode}
use Rattle.code_view.proofs.Lawful.{flow-program, placed-end}
use Rattle.code_view.proofs.code.Code.decoded_flow.Goals as goal
use Rattle.code_view.proofs.code.Code.decoded_flow.Goals.{After-flow_of_bytes-placed}

pub bytes_at-requires : goal.bytes_at-requires
bytes_at-requires c =
    subst (λ bytes. is_code bytes c.args.a ≡ true) (sym (c.self.invariant.index ∙ ap (λ (f : FileCode). f.bytes) c.self.view_is)) c.requires

pub flow_of_bytes-placed-requires : goal.flow_of_bytes-placed-requires
flow_of_bytes-placed-requires c =
    subst (λ bytes. AreBytesAt bytes c.args.a c.bytes_at.result) c.self.invariant.index c.bytes_at.ensures

-- what is told is that of the file that is kept
told : (c : After-flow_of_bytes-placed) → c.flow_of_bytes-placed.result ≡ placed_flow_at c.args.self.now.bytes c.args.a
told c = c.flow_of_bytes-placed.ensures ∙ ap (λ (f : FileCode). placed_flow_at f.bytes c.args.a) c.self.view_is

pub overflow_add-behind : goal.overflow_add-behind
overflow_add-behind c =
    let code = c.args.self.now in
    let at = (goal.at.overflow_add-behind c).After-flow_of_bytes-placed in
    let accepted = subst IsImage (ap (λ (f : FileCode). f.bytes) c.self.view_is) c.self.invariant.accepted in
    let end : c.args.a + (placed_at code.bytes c.args.a).length < 2 ^ 64 = placed-end code.bytes accepted c.args.a c.requires in
    let length : c.from.result ≡ (placed_at code.bytes c.args.a).length = c.from.ensures ∙ ap (λ (p : PlacedFlow). p.length) (told at) in
    omega (arith, end, length)

pub returns : goal.returns
returns c =
    let code = c.args.self.now in
    let cuts = cut_of code.cuts in
    let a = c.args.a in
    let at = (goal.at.returns c).After-flow_of_bytes-placed in
    flow-program code.bytes cuts a c.requires (placed_at code.bytes a) refl
    ∙ ap (λ (p : PlacedFlow). Some (flow_by code.bytes (a + p.length) (cuts a) (table_at code.bytes a) p.flow)) (sym (told at))
    ∙ ap (λ n. Some (flow_by code.bytes (a + n) (cuts a) (table_at code.bytes a) c.flow_of_bytes-placed.result.flow)) (sym c.from.ensures)
    ∙ ap Some (sym c.flow_by.ensures)
