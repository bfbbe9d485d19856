use Rattle.crew.proofs.closed.work.Given as goal

-- the job is the program and its seeds
abbrev pub ghosts-work_for : goal.ghosts-work_for
ghosts-work_for g a = record { map = g.C.Chains.map a.code.now; seeds = a.seeds.now }
