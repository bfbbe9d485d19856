use Rattle.core_state.proofs.Alone.{meet_first, meet_second}
use Rattle.core_state.proofs.end.meeting.Goals.{else-stands-via-then-stands+else-stands-2, else-stands-via-else-stands}
use Rattle.core_state.proofs.end.meeting.Goals as goal

pub returns-else-stands : goal.returns-else-stands
returns-else-stands g c =
    elim c.else-stands.branch [
      | else-stands-via-then-stands+else-stands-2 w ↦
          meet_second _ c.args.p c.args.s c.args.k c.requires.first c.requires.second (λ known. cc (w.stands-then-stands.ensures.1 known, w.if-stands-2.false))
      | else-stands-via-else-stands w ↦
          meet_first _ c.args.p c.args.s c.args.k c.requires.first c.requires.second (λ known. cc (c.stands.ensures.1 known, w.if-stands.false))
    ]
