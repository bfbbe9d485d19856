use Rattle.crew.proofs.working.employ.Given as goal

-- the ids are of what the worker is given
abbrev pub ghosts-stay : goal.ghosts-stay
ghosts-stay g a = record { board = a.shared.now.board.now; share = a.seat.share; deques = a.hand.deques; number = a.hand.number }
