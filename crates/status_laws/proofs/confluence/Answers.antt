use Rattle.status_laws.proofs.ClosedLaws as closed
use Rattle.status_laws.proofs.confluence.Goals as goal

pub returns : goal.returns
returns c = record { each = closed.confluence; orders = closed.orders_agree }
