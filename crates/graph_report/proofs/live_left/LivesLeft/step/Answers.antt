use Rattle.std.proofs.Common.{◌≡◌, ◌-◌, List, length, take, drop, sym, ◌∙◌, arith}
use Rattle.std.proofs.lemmas.Bool.{eqb-true}
use Rattle.std.proofs.lemmas.Grind.{common_steps}
use Rattle.cfg_model.specs.declared.graph.Function.{Function}
use Rattle.cfg_model.specs.declared.live.Live.{Live}
use Rattle.elf_image.specs.Seeds.{seed_name}
use Rattle.graph_report.proofs.Lefts.{lives_given}
use Rattle.graph_report.proofs.live_left.LivesLeft.step.Goals as goal

pub returns-clause-moves : goal.returns-clause-moves
returns-clause-moves c =
    let none : length c.args.self.now.body.now ≡ 0 = eqb-true _ _ (sym c.is_empty.ensures ∙ c.if-not-is_empty.false) in
    let all = c.args.self.now.functions.now in
    let all_lives = c.args.self.now.lives.now in
    let rest : List Function = take (length all - 1) (drop 1 all) in
    let others : List (List Live) = take (length all_lives - 1) (drop 1 all_lives) in
    let behind : rest ≡ drop 1 all = grind (arith, common_steps) in
    let lives_behind : others ≡ drop 1 all_lives = grind (arith, common_steps) in
    rw c.as_slice-self.ensures
    (lives_given (seed_name c.args.names.now) c.begin_function.new.page c.args.page.now c.args.self.now c.function-item.result c.first-item.result rest others c.begin_function.result.now
    c.in_default.is c.in_default-name.is (omega (arith, none)) c.in-len1-up.len_at_least c.in-len1-up-lives.len_at_least
    c.function-item.is behind c.first-item.is lives_behind (rw c.name_at-name.ensures at c.begin_function.ensures.text))
