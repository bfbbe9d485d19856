use Rattle.std.proofs.Common.{◌≡◌, ◌↔◌, Contains, Some, subst}
use Rattle.core_state.specs.Reads.{returned_at}
use Rattle.core_state.proofs.ShardRead.{through, terms_read}
use Rattle.core_state.proofs.terms.Terms.all.Goals as goal

pub returns : goal.returns
returns c = λ k returned.
    subst (λ m. Contains c.in_ok-read_by.field-0.items (k, returned) ↔ (returned_at m k ≡ Some returned)) c.self.view_is
    (through (c.in_ok-read_by.ensures (k, returned)) (terms_read c.self.inside.terms k returned))
