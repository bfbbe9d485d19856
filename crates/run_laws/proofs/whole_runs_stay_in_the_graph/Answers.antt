use Rattle.run_laws.proofs.Whole.{runs_stay, returns_are_said, no_return_is_not_taken, no_return_never_ends, returns_have_edges}
use Rattle.run_laws.proofs.whole_runs_stay_in_the_graph.Goals as goal

pub returns : goal.returns
returns c = record {
  stays = λ bytes cuts seeds graph drawn small. runs_stay bytes cuts seeds graph drawn small;
  returns = λ bytes cuts seeds graph drawn small. returns_are_said bytes cuts seeds graph drawn small;
  not_taken = λ bytes cuts seeds graph drawn small. no_return_is_not_taken bytes cuts seeds graph drawn small;
  never_ends = λ bytes cuts seeds graph drawn small. no_return_never_ends bytes cuts seeds graph drawn small;
  edges = λ bytes cuts seeds graph drawn small. returns_have_edges bytes cuts seeds graph drawn small;
}
