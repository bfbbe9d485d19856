use Rattle.std.proofs.Common.{◌<◌, length, sym, ◌∙◌, arith}
use Rattle.std.proofs.lemmas.Bool.{false≢true}
use Rattle.outline_funcs.proofs.TailPlaces.{tail_at, one_listed, none_more}
use Rattle.outline_funcs.proofs.tail_sharing.tails_in.Goals as goal
use Rattle.outline_funcs.proofs.tail_sharing.tails_in.Goals.{then-is_tail+in_ok-push, else-is_tail}

pub loop-i-preserved : goal.loop-i-preserved
loop-i-preserved c =
    let functions = c.args.functions.now in
    let edges = c.args.edges.now in
    let i = c.loop-i.i in
    let places = c.loop-i.places.items in
    let within : i < length edges =
    omega (arith, c.min.ensures, c.loop-i-test.true, c.requires.within) in
    elim c.if-is_tail.branch [
      | then-is_tail+in_ok-push w ↦
          rw w.places-is
          (one_listed functions edges c.args.start i places _ w.in_ok-push.ensures.items
          (tail_at functions edges i _ within (c.is_tail.ensures.0 w.if-is_tail.true))
          c.loop-i.invariant)
      | else-is_tail w ↦
          rw w.places-is
          (none_more functions edges c.args.start i _ places
          (λ t. false≢true (sym w.if-is_tail.false ∙ c.is_tail.ensures.1 t)) c.loop-i.invariant)
    ]
