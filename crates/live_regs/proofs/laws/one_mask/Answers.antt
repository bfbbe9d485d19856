use Rattle.live_regs.proofs.Masks.{mask_is_unique, lives_are_unique, all_lives_are_unique}
use Rattle.live_regs.proofs.laws.one_mask.Goals as goal

pub returns : goal.returns
returns c = record { mask = mask_is_unique; lives = lives_are_unique; all = all_lives_are_unique }
