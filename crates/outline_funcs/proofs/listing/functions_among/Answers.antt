use Rattle.outline_funcs.proofs.Parts.{entries_asked, told_functions}
use Rattle.outline_funcs.proofs.listing.functions_among.Goals as goal

pub functions_at-requires : goal.functions_at-requires
functions_at-requires g c =
    let plan = c.in_ok-plan.plan in
    rw c.deref.ensures.value (entries_asked (g.C.Chains.map c.args.code.now) c.args.seeds.now _ _ c.requires.returns plan.exits plan.entries.items c.in_ok-plan.ensures.serves)

pub returns-clause-exact : goal.returns-clause-exact
returns-clause-exact g c =
    let plan = c.in_ok-plan.plan in
    let functions = c.in_ok-functions.functions.items in
    let each = told_functions (g.C.Chains.map c.args.code.now) c.args.seeds.now _ _ c.requires.returns plan.exits plan.entries.items functions
    c.in_ok-plan.ensures.serves.holds (rw c.deref.ensures.value at c.in_ok-functions.ensures) in
    rw c.from_vec.ensures (c.in_ok-plan.ensures.makes functions each).exact

pub returns-clause-complete : goal.returns-clause-complete
returns-clause-complete g c =
    let plan = c.in_ok-plan.plan in
    let functions = c.in_ok-functions.functions.items in
    let each = told_functions (g.C.Chains.map c.args.code.now) c.args.seeds.now _ _ c.requires.returns plan.exits plan.entries.items functions
    c.in_ok-plan.ensures.serves.holds (rw c.deref.ensures.value at c.in_ok-functions.ensures) in
    rw c.from_vec.ensures (c.in_ok-plan.ensures.makes functions each).complete

pub returns-clause-ordered : goal.returns-clause-ordered
returns-clause-ordered g c =
    let plan = c.in_ok-plan.plan in
    let functions = c.in_ok-functions.functions.items in
    let each = told_functions (g.C.Chains.map c.args.code.now) c.args.seeds.now _ _ c.requires.returns plan.exits plan.entries.items functions
    c.in_ok-plan.ensures.serves.holds (rw c.deref.ensures.value at c.in_ok-functions.ensures) in
    rw c.from_vec.ensures (c.in_ok-plan.ensures.makes functions each).ordered
