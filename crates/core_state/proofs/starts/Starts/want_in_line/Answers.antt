use Rattle.std.proofs.Common.{sym, subst, ◌∙◌}
use Rattle.builder_model.specs.declared.state.Mark.TheVariants as marks
use Rattle.builder_model.specs.State.{StartMap}
use Rattle.core_state.specs.Line.{IsNextInLine}
use Rattle.core_state.proofs.LineStarts.{no_line, none_there, next_there, still_lines, rewrite, new_start, known_start}
use Rattle.core_state.proofs.LineStarts.{answer_new, answer_old, marked, unmarked, none_behind, next_put}
use Rattle.core_state.proofs.starts.Starts.want_in_line.Goals as goal

pub want_first-requires : goal.want_first-requires
want_first-requires c = none_there c.self.inside.lines c.args.self.now c.self.view_is c.args.s c.first_of-first.result c.first_of-first.ensures c.in-None.ensures

pub returns-then-has-clause-wanted : goal.returns-then-has-clause-wanted
returns-then-has-clause-wanted c =
    known_start c.args.self.now c.args.s
    (marked c.self.inside.lines c.args.self.now c.self.view_is c.args.s c.first_of-first.result c.first_of-first.ensures c.in-Some.line.now c.in-Some.ensures c.has.result c.has.ensures c.if-has.true)

pub returns-then-has-clause-answer : goal.returns-then-has-clause-answer
returns-then-has-clause-answer c =
    answer_old c.args.self.now c.args.s
    (marked c.self.inside.lines c.args.self.now c.self.view_is c.args.s c.first_of-first.result c.first_of-first.ensures c.in-Some.line.now c.in-Some.ensures c.has.result c.has.ensures c.if-has.true)

pub returns-then-has-clause-next : goal.returns-then-has-clause-next
returns-then-has-clause-next c =
    next_there c.self.inside.lines c.args.self.now c.self.view_is c.args.s c.first_of-first.result c.first_of-first.ensures c.in-Some.line.now c.in-Some.ensures c.after-next.result c.after-next.ensures

pub invariant_of-self : goal.invariant_of-self
invariant_of-self c = still_lines c.self.inside.lines c.self.invariant c.args.s c.first_of-first.result c.first_of-first.ensures c.want.new.self marks.Wanted c.want.ensures.here

pub returns-in_ok-want_first-in-None-clause-wanted : goal.returns-in_ok-want_first-in-None-clause-wanted
returns-in_ok-want_first-in-None-clause-wanted c =
    c.in_ok-want_first-in-None.ensures.wanted
    ∙ new_start c.self.inside.lines c.args.self.now c.self.view_is c.args.s (no_line c.self.inside.lines c.args.self.now c.self.view_is c.args.s c.first_of-first.result c.first_of-first.ensures c.in-None.ensures)

pub returns-in_ok-want_first-in-None-clause-answer : goal.returns-in_ok-want_first-in-None-clause-answer
returns-in_ok-want_first-in-None-clause-answer c =
    answer_new c.args.self.now c.args.s (no_line c.self.inside.lines c.args.self.now c.self.view_is c.args.s c.first_of-first.result c.first_of-first.ensures c.in-None.ensures)

pub returns-in_ok-want_first-in-None-clause-next : goal.returns-in_ok-want_first-in-None-clause-next
returns-in_ok-want_first-in-None-clause-next c =
    none_behind c.self.inside.lines c.args.self.now c.self.view_is c.args.s c.first_of-first.result c.first_of-first.ensures c.in-None.ensures c.want_first.new.self c.in_ok-want_first-in-None.ensures.wanted

pub returns-else-has-clause-wanted : goal.returns-else-has-clause-wanted
returns-else-has-clause-wanted c =
    rewrite c.self.inside.lines c.args.self.now c.self.view_is c.args.s c.first_of-first.result c.first_of-first.ensures c.value_mut.result.now c.want.new.self c.value_mut.ensures.value marks.Wanted c.want.ensures.here c.want.ensures.others
    ∙ new_start c.self.inside.lines c.args.self.now c.self.view_is c.args.s
    (unmarked c.self.inside.lines c.args.self.now c.self.view_is c.args.s c.first_of-first.result c.first_of-first.ensures c.in-Some.line.now c.in-Some.ensures c.has.result c.has.ensures c.if-has.false)

pub returns-else-has-clause-answer : goal.returns-else-has-clause-answer
returns-else-has-clause-answer c =
    answer_new c.args.self.now c.args.s
    (unmarked c.self.inside.lines c.args.self.now c.self.view_is c.args.s c.first_of-first.result c.first_of-first.ensures c.in-Some.line.now c.in-Some.ensures c.has.result c.has.ensures c.if-has.false)

pub returns-else-has-clause-next : goal.returns-else-has-clause-next
returns-else-has-clause-next c =
    subst (λ (starts : StartMap). IsNextInLine starts c.args.s c.after-next.result)
    (sym (rewrite c.self.inside.lines c.args.self.now c.self.view_is c.args.s c.first_of-first.result c.first_of-first.ensures c.value_mut.result.now c.want.new.self c.value_mut.ensures.value marks.Wanted c.want.ensures.here c.want.ensures.others))
    (next_put c.args.self.now c.args.s marks.Wanted c.after-next.result
    (next_there c.self.inside.lines c.args.self.now c.self.view_is c.args.s c.first_of-first.result c.first_of-first.ensures c.in-Some.line.now c.in-Some.ensures c.after-next.result c.after-next.ensures))
