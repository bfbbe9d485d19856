use Rattle.elf_symbols.proofs.MergeStep.{added-push, added-join}
use Rattle.elf_symbols.proofs.merge.add.Goals as goal
use Rattle.elf_symbols.proofs.merge.add.Goals.{in-Some, in_default}

pub returns : goal.returns
returns c xs m last =
    elim c.match-pop_at.branch [
      | in-Some w ↦
          added-join c.args.image.now xs c.args.seed last c.args.merged.now.items c.pop_at.new.seeds.items c.push.new.self.items w.in-Some.last m
          w.in-Some.ensures.taken w.in-Some.ensures.at w.lesser_name-name.result c.match-pop_at.name w.lesser_name-name.ensures.text w.lesser_name-name.ensures.lies w.name-is c.in_ok-push.ensures.items
      | in_default w ↦
          added-push c.args.image.now xs c.args.seed last c.args.merged.now.items c.pop_at.new.seeds.items c.push.new.self.items m c.requires.lies
          w.in_default.ensures.elsewhere w.in_default.ensures.kept c.match-pop_at.name w.name-is c.in_ok-push.ensures.items
    ]
