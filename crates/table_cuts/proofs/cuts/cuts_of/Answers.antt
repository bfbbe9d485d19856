use Rattle.std.proofs.Common.{◌≡◌, ◌∙◌, sym, subst, arith, length, get_or, ◌+◌, false}
use Rattle.table_cuts.specs.Extents.{extent_of}
use Rattle.table_cuts.specs.Inner.{CutBy}
use Rattle.code_view.specs.Tables.{AreAllTables}
use Rattle.code_view.specs.declared.table_jump.TableJump.{TableJump}
use Rattle.table_cuts.proofs.Found.{some_width}
use Rattle.table_cuts.proofs.Kept.{HaveCuts, cuts-none, cuts-one, cuts-past, cuts-all, cuts-fit}
use Rattle.table_cuts.proofs.cuts.cuts_of.Goals as goal
use Rattle.table_cuts.proofs.cuts.cuts_of.Goals.{in-Some+in_ok-put, in_default}

-- what stands for a jump past the end
past : TableJump
past = record { jump = 0; table = record { base = 0; width = 0; count = 0; bound = 0; add = 0; is_open = false } }

pub loop-found-init : goal.loop-found-init
loop-found-init c = subst (λ cuts. HaveCuts c.jumps-jumps.result.now c.in_ok-bases.bases.items cuts 0) (sym c.none-cuts.ensures) (cuts-none c.jumps-jumps.result.now c.in_ok-bases.bases.items)

pub cut_by-requires-clause-width : goal.cut_by-requires-clause-width
unfolding past
cut_by-requires-clause-width c =
    let all_of : AreAllTables c.requires.0 c.jumps-jumps.result.now = subst (AreAllTables c.requires.0) (sym c.jumps-jumps.ensures) c.requires.1 in
    some_width c.jumps-jumps.result.now c.loop-found.found-index 0 past c.loop-found-test.true c.requires.0 all_of.tables

pub loop-found-preserved : goal.loop-found-preserved
unfolding past
loop-found-preserved c =
    let jumps = c.jumps-jumps.result.now in
    let bases = c.in_ok-bases.bases.items in
    let i = c.loop-found.found-index in
    let table = extent_of (get_or jumps i past).table in
    let by : CutBy bases table c.cut_by.result = subst (λ bs. CutBy bs table c.cut_by.result) c.deref.ensures.value c.cut_by.ensures in
    elim c.match-cut_by.branch [
      | in-Some+in_ok-put w ↦
          subst (λ cuts. HaveCuts jumps bases cuts (i + 1)) (sym (w.cuts-is ∙ w.in_ok-put.ensures.put))
          (cuts-one jumps bases c.loop-found.cuts i past c.loop-found-test.true c.loop-found.invariant w.in-Some.count (subst (CutBy bases table) w.in-Some.is by))
      | in_default w ↦
          subst (λ cuts. HaveCuts jumps bases cuts (i + 1)) (sym w.cuts-is)
          (cuts-past jumps bases c.loop-found.cuts i past c.loop-found-test.true c.loop-found.invariant (subst (CutBy bases table) w.in_default.is by))
    ]

pub returns-clause-cuts : goal.returns-clause-cuts
returns-clause-cuts c =
    let jumps = c.jumps-jumps.result.now in
    let all : c.loop-found.found-index ≡ length jumps = omega arith in
    λ bytes all_of. cuts-all jumps c.in_ok-bases.bases.items c.in_ok-bases.ensures.bases c.loop-found.cuts c.loop-found.found-index all c.loop-found.invariant
    bytes (subst (AreAllTables bytes) (sym c.jumps-jumps.ensures) all_of)

pub returns-clause-fits : goal.returns-clause-fits
returns-clause-fits c =
    let jumps = c.jumps-jumps.result.now in
    let all : c.loop-found.found-index ≡ length jumps = omega arith in
    λ bytes all_of. cuts-fit jumps c.in_ok-bases.bases.items c.in_ok-bases.ensures.bases c.loop-found.cuts c.loop-found.found-index all c.loop-found.invariant
    bytes (subst (AreAllTables bytes) (sym c.jumps-jumps.ensures) all_of)
