use Rattle.std.proofs.Common.{◌≡◌, ◌∙◌, ap, ap₂, codes}
use Rattle.std.proofs.lemmas.Result.{IfOk-weaker}
use Rattle.clap.specs.Simple.{App, app_of, with_rule}
use Rattle.cfg_words.specs.Command.{bare_app, cfg_app, option_rule}
use Rattle.cfg_words.proofs.Taken.{help_off}
use Rattle.cfg_words.proofs.parse.command.Goals as goal

pub returns : goal.returns
unfolding cfg_app
returns c =
    let bare : app_of c.disable_help_flag-bare.result ≡ bare_app = help_off _ _ c.disable_help_flag-bare.ensures c.new.ensures.app in
    let workers : app_of c.in_ok-with_workers.with_workers ≡ with_rule bare_app (option_rule (codes "workers")) =
    c.in_ok-with_workers.ensures ∙ ap (λ (a : App). with_rule a (option_rule (codes "workers"))) bare in
    let report : app_of c.in_ok-with_report.with_report ≡ with_rule (with_rule bare_app (option_rule (codes "workers"))) (option_rule (codes "report")) =
    c.in_ok-with_report.ensures ∙ ap (λ (a : App). with_rule a (option_rule (codes "report"))) workers in
    let make : app_of c.in_ok-with_make.with_make ≡ with_rule (with_rule (with_rule bare_app (option_rule (codes "workers"))) (option_rule (codes "report"))) (option_rule (codes "make")) =
    c.in_ok-with_make.ensures ∙ ap (λ (a : App). with_rule a (option_rule (codes "make"))) report in
    IfOk-weaker c.arg.result _ _ (λ d h. h.shape c.new-2.ensures.optional.1 ∙ ap₂ with_rule make c.new-2.ensures.rule) c.arg.ensures
