use Rattle.std.proofs.Common.{◌≡◌, ◌+◌, ◌*◌, ◌<◌, ◌≤◌, length, arith, of_calls, rules}
use Rattle.std.proofs.lemmas.Grind.{div_ceil_times}
use Rattle.std.proofs.lemmas.Result.{IfOk-weaker}
use Rattle.numbered.specs.Numbering.{IsMarked}
use Rattle.reached_graph.specs.Inner.Parts.{AnswerCuts}
use Rattle.reached_graph.proofs.RangeParts.{cuts_made}
use Rattle.reached_graph.proofs.sharing.cut_by_range.Goals as goal

pub returns-clause-cut : goal.returns-clause-cut
returns-clause-cut g c =
    let map = g.C.Chains.map c.args.code.now in
    let number = g.C.Numbered.number c.args.code.now in
    let marks = c.args.marks.now in
    let bound : (length marks ≤ c.div_ceil.result * c.args.size) × (c.div_ceil.result * c.args.size < length marks + c.args.size) = rw c.div_ceil.ensures (div_ceil_times (length marks) c.args.size c.requires.some) in
    let count : length c.in_ok-answers.answers.items ≡ c.div_ceil.result = omega (arith, c.in_ok-answers.ensures.len) in
    let are : AnswerCuts map number (IsMarked map number marks) c.args.size (length marks) c.in_ok-answers.answers.items = record {
      all = rw count bound.0;
      each = λ n d within. search (of_calls, rules);
    } in
    IfOk-weaker c.all_made.result _ _ (λ v same. cuts_made map number (IsMarked map number marks) c.args.size (length marks) c.in_ok-answers.answers.items v.items same are) c.all_made.ensures
