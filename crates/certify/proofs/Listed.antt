-- What is listed of reached terminators, in the words that the maker of parts asks for.
use Rattle.std.proofs.Common.{ℕ, List}
use Rattle.std.specs.Prelude.{◌↔◌, Contains}
use Rattle.cfg_model.specs.Program.Instructions.{InstructionMap}
use Rattle.cfg_model.specs.Program.Chain.{IsTerminator}
use Rattle.cfg_model.specs.Program.Reach.{Reached}
use Rattle.cfg_model.specs.Program.Status.{Returns}
use Rattle.cert_make.specs.Canonical.{ReturnsReached}

pub reached_listed : (map : InstructionMap) (seeds xs : List ℕ) (k : ℕ) → Contains xs k ↔ (IsTerminator map k × Reached map seeds k × Returns map k) → Contains xs k ↔ ReturnsReached map seeds k
reached_listed map seeds xs k exact = (
  λ there. let all = exact.0 there in record { reached = all.1; ends = all.0; returns = all.2 },
  λ is. exact.1 (is.ends, is.reached, is.returns),
)
