use Rattle.cert_text.proofs.Steps.{is_after}
use Rattle.cert_text.proofs.field.after.Goals as goal

pub returns : goal.returns
returns c = is_after c.args.word.now c.args.bytes.now c.strip_prefix.result c.strip_prefix.ensures.cases
