use Rattle.std.proofs.Common.{ℕ, List}
use Rattle.cfg_model.specs.Program.Instructions.{InstructionMap}
use Rattle.cfg_model.specs.Program.Reach.{Reached}
use Rattle.cfg_model.specs.Graph.Function.{IsEntry}
use Rattle.code_view.specs.FileCode.{program_of}
use Rattle.file_crew.proofs.sharing.graph_with.Goals as goal

entry_reached : (map : InstructionMap) (seeds : List ℕ) (a : ℕ) → IsEntry map seeds a → Reached map seeds a
entry_reached map seeds a (IsEntry.seed c) = Reached.seed c
entry_reached map seeds a (IsEntry.called r call) = Reached.called r call

pub functions_among_by-requires-clause-returns : goal.functions_among_by-requires-clause-returns
functions_among_by-requires-clause-returns g c κs within =
    let map = program_of c.args.code.now in
    let seeds = c.args.seeds.now in
    record {
      asks = λ a entry. (seeds, c.requires.reached, entry_reached map seeds a entry);
      tells = λ a answer entry told. told;
    }

pub returns : goal.returns
returns g c =
    c.in_ok-mark_tails_by.ensures.graph (program_of c.args.code.now) c.args.seeds.now c.args.entry c.in_ok-outline.outline.blocks
    (c.in_ok-outline.ensures c.args.seeds.now c.requires.reached) c.in_ok-functions.ensures.exact c.in_ok-functions.ensures.complete
