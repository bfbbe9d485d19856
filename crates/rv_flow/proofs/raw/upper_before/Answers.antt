use Rattle.std.proofs.Common.{sym, ◌∙◌, arith}
use Rattle.rv_flow.proofs.Uppers.{no_upper_before}
use Rattle.rv_flow.proofs.raw.upper_before.Goals as goal

pub returns-then-not-is_upper : goal.returns-then-not-is_upper
returns-then-not-is_upper c =
    sym (no_upper_before c.args.image.now c.args.a c.args.register c.in_ok-start.start c.in_ok-word.word (sym c.in_ok-start.ensures.value)
    (omega arith) (sym c.in_ok-word.ensures.value) (sym c.is_upper.ensures ∙ c.if-not-is_upper.true))
