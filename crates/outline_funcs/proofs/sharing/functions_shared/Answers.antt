use Rattle.std.proofs.Common.{sym, ◌∙◌}
use Rattle.outline_funcs.specs.Inner.Bodies.{IsFunctionBy}
use Rattle.outline_funcs.proofs.Joining.{serves_part, made_of_parts}
use Rattle.outline_funcs.proofs.Parts.{entries_asked, told_functions}
use Rattle.outline_funcs.proofs.sharing.functions_shared.Goals as goal

pub made_by_part-requires-after_bounds : goal.made_by_part-requires-after_bounds
made_by_part-requires-after_bounds g c κs within =
    let plan = c.in_ok-entries.field-0 in
    rw c.deref-2.ensures.value
    (serves_part _ plan.exits plan.entries.items c.in_ok-parts.parts.items
    (c.in_ok-parts.ensures ∙ c.deref.ensures.value)
    (entries_asked (g.C.Chains.map c.args.code.now) c.args.seeds.now _ _ c.requires.returns plan.exits plan.entries.items c.in_ok-entries.ensures.serves))

pub returns : goal.returns
returns g c =
    let plan = c.in_ok-entries.field-0 in
    let parts = c.in_ok-parts.parts.items in
    let lists = c.in_ok-lists.lists in
    let functions = c.in_ok-functions.functions.items in
    let each = made_of_parts (IsFunctionBy (goal.F-post g c.args.returns.now) plan.exits) plan.entries.items parts lists.items functions (c.in_ok-parts.ensures ∙ c.deref.ensures.value)
    (sym lists.ok.0 ∙ (rw c.deref-2.ensures.value at c.in_ok-lists.ensures.as_many))
    (rw c.deref-2.ensures.value at c.in_ok-lists.ensures.each)
    c.in_ok-functions.ensures.made c.in_ok-functions.ensures.joined in
    c.in_ok-entries.ensures.makes functions
    (told_functions (g.C.Chains.map c.args.code.now) c.args.seeds.now _ _ c.requires.returns plan.exits plan.entries.items functions c.in_ok-entries.ensures.serves.holds each)
