use Rattle.cfg_words.proofs.Taken.{not_taken, refused, taken, text_found}
use Rattle.cfg_words.proofs.parse.parsed.Goals as goal

pub returns-in_err-matches-clause-usage : goal.returns-in_err-matches-clause-usage
returns-in_err-matches-clause-usage c =
    refused c.from_residual-in_err-matches.result c.in_err-matches.field-0.0 _ c.from_residual-in_err-matches.ensures.1
    (not_taken _ _ c.in_err-matches.field-0.0 c.in_ok-command.ensures (c.in_err-matches.ensures {u = tt}).kinds)

pub returns-clause-taken : goal.returns-clause-taken
returns-clause-taken c = taken _ _ c.in_ok-command.ensures c.in_ok-matches.ensures.kinds

pub returns-clause-texts : goal.returns-clause-texts
returns-clause-texts c = text_found c.in_ok-matches.matches _ _ c.in_ok-command.ensures c.in_ok-matches.ensures.matches
