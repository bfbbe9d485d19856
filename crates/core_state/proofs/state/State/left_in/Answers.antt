use Rattle.std.proofs.Common.{ap}
use Rattle.std.proofs.lemmas.Option.{IfSome_then}
use Rattle.core_state.specs.Counted.{CountedState}
use Rattle.core_state.specs.Work.{work_of}
use Rattle.core_state.specs.inner.Remaining.{LeftAtStart, LeftAtEnd, LeftAtTerminator}
use Rattle.core_state.proofs.LeftPieces.{left_of_start, left_of_end, left_of_terminator}
use Rattle.core_state.proofs.PlacesLooked.{some_of_shard, none_of_shard, if_none}
use Rattle.core_state.proofs.state.State.left_in.Goals as goal

pub returns-in-Some-clause-some : goal.returns-in-Some-clause-some
returns-in-Some-clause-some c seeds =
    left_of_start seeds _ _
    (some_of_shard LeftAtStart _ c.self.invariant.0 _ (ap (λ (s : CountedState). s.maps.starts) c.self.view_is) c.args.number c.requires _ c.index.ensures _ c.in-Some.ensures.some)

pub returns-in-Some-left-clause-some : goal.returns-in-Some-left-clause-some
returns-in-Some-left-clause-some c seeds =
    left_of_end seeds _ _
    (some_of_shard (LeftAtEnd c.args.self.now.maps.starts) _ c.self.invariant.1 _ (ap (λ (s : CountedState). s.maps.ends) c.self.view_is) c.args.number c.requires _ c.index-2.ensures _ c.in-Some-left.ensures.some)

pub returns-clause-some : goal.returns-clause-some
returns-clause-some c =
    IfSome_then c.left-3.result c.left-3.ensures.some
    (λ name left seeds. left_of_terminator seeds _ (work_of name)
    (some_of_shard LeftAtTerminator _ c.self.invariant.2 _ (ap (λ (s : CountedState). s.maps.terminators) c.self.view_is) c.args.number c.requires _ c.index-3.ensures _ left))

pub returns-clause-none : goal.returns-clause-none
returns-clause-none c =
    if_none c.left-3.result
    (λ none. record {
      starts = none_of_shard LeftAtStart _ c.self.invariant.0 _ (ap (λ (s : CountedState). s.maps.starts) c.self.view_is) c.args.number c.requires _ c.index.ensures c.in_default.ensures.none;
      ends = none_of_shard (LeftAtEnd c.args.self.now.maps.starts) _ c.self.invariant.1 _ (ap (λ (s : CountedState). s.maps.ends) c.self.view_is) c.args.number c.requires _ c.index-2.ensures c.in_default-left.ensures.none;
      terminators = none_of_shard LeftAtTerminator _ c.self.invariant.2 _ (ap (λ (s : CountedState). s.maps.terminators) c.self.view_is) c.args.number c.requires _ c.index-3.ensures none;
    })
    c.left-3.ensures.none
