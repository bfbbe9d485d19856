use Rattle.std.proofs.Common.{◌≡◌, ◌+◌, ◌∷◌, [], ◌++◌, take, get_or, sym, ap, subst, List, ℕ}
use Rattle.std.proofs.lemmas.List.{take_more}
use Rattle.code_tables.specs.Parts.{AreTablesAmong}
use Rattle.code_tables.proofs.AllTables.{among-past, among-takes}
use Rattle.code_tables.proofs.everywhere.tables_among.Goals as goal
use Rattle.code_tables.proofs.everywhere.tables_among.Goals.{in-Some+in_ok-push, in_default}

pub loop-jump-preserved : goal.loop-jump-preserved
loop-jump-preserved c =
    let bytes = c.args.code.now.bytes in
    let places = c.args.places.now in
    let i = c.loop-jump.jump-index in
    let a : ℕ = get_or places i 0 in
    let more : take (i + 1) places ≡ take i places ++ a ∷ [] = take_more places i 0 c.loop-jump-test.true in
    elim c.match-table.branch [
      | in-Some+in_ok-push w ↦
          subst (AreTablesAmong bytes (take (i + 1) places)) (sym (ap (λ v. v.items) w.jumps-is))
          (subst (λ (seen : List ℕ). AreTablesAmong bytes seen w.push.new.self.items) (sym more)
          (among-takes bytes (take i places) a c.loop-jump.jumps.items c.loop-jump.invariant w.in-Some.table (sym w.in-Some.ensures) w.push.new.self.items w.in_ok-push.ensures.items))
      | in_default w ↦
          subst (AreTablesAmong bytes (take (i + 1) places)) (sym (ap (λ v. v.items) w.jumps-is))
          (subst (λ (seen : List ℕ). AreTablesAmong bytes seen c.loop-jump.jumps.items) (sym more)
          (among-past bytes (take i places) a c.loop-jump.jumps.items c.loop-jump.invariant (sym w.in_default.ensures)))
    ]
