use Rattle.std.proofs.Common.{◌∙◌, sym, ap, is_some}
use Rattle.jump_table.proofs.Listed.{get-target, target-there}
use Rattle.jump_table.proofs.entries.entry_target.Goals as goal

pub unwrap-requires : goal.unwrap-requires
unwrap-requires c =
    ap (λ o. is_some o) c.target_at.ensures ∙ target-there c.args.image.now c.args.table.now c.requires.found c.args.i c.requires.inside

pub returns : goal.returns
returns c =
    get-target c.args.image.now c.args.table.now c.requires.found c.args.i c.requires.inside ∙ sym c.target_at.ensures ∙ c.unwrap.ensures
