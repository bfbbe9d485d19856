use Rattle.std.proofs.Common.{of_calls, rules}
use Rattle.std.specs.Prelude.{◌↔◌, IsSome, IsTrue}
use Rattle.cert_laws.specs.Lines.{IsReturn}
use Rattle.cert_laws.specs.Ways.{EndsIn}
use Rattle.cert_ends.specs.Places.{AreLeads, ReturnsRise}
use Rattle.cert_check.proofs.Outlined.{entry_reached, entry_stands, leads_of_valid, listed_returns, returns_listed, returns_of_valid, seeds_stand}
use Rattle.cert_check.proofs.graph.functions_of.Goals as goal

pub functions_among-requires-clause-outline : goal.functions_among-requires-clause-outline
functions_among-requires-clause-outline g c κs within = c.requires.outline

pub functions_among-requires-clause-seeds : goal.functions_among-requires-clause-seeds
functions_among-requires-clause-seeds g c κs within = seeds_stand (g.C.Chains.map c.args.code.now) c.args.seeds.now c.args.part.now c.know_laws.ensures c.requires.valid

pub functions_among-requires-clause-returns : goal.functions_among-requires-clause-returns
functions_among-requires-clause-returns g c κs within =
    let map = g.C.Chains.map c.args.code.now in
    let seeds = c.args.seeds.now in
    let part = c.args.part.now in
    let lawful = c.know_laws.ensures in
    let valid = c.requires.valid in
    let rise : AreLeads map part.leads = leads_of_valid map seeds part valid in
    let up : ReturnsRise part.returns = returns_of_valid map seeds part valid in
    record {
      asks = λ a entry. let stands : IsSome (map a) = entry_stands map seeds part lawful valid rise a entry in search (of_calls, rules);
      tells = λ a answer entry told.
          let exact : IsTrue answer ↔ EndsIn map (IsReturn part.returns) a = search (of_calls, rules) in (
            λ e. listed_returns map seeds part lawful valid rise a (exact.0 e),
            λ back. exact.1 (returns_listed map seeds part lawful valid rise a (entry_reached map seeds part lawful valid rise a entry) back),
          );
    }
