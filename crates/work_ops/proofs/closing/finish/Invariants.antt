use Rattle.work_ops.proofs.closing.finish.Given as goal

-- the job is the program and its seeds
abbrev pub ghosts-work_off : goal.ghosts-work_off
ghosts-work_off g a = record { map = g.C.Chains.map a.code.now; seeds = a.seeds.now }
