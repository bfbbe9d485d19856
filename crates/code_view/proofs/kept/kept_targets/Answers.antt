use Rattle.std.proofs.Common.{◌≡◌, ◌∙◌, ◌+◌, ◌++◌, ◌∷◌, ℕ, [], List, Some, ap, sym, take}
use Rattle.std.specs.Prelude.{slice_get}
use Rattle.std.proofs.lemmas.List.{take_more}
use Rattle.std.proofs.lemmas.Option.{slice_get_within, get_or_from_slice_get}
use Rattle.jump_table.specs.Table.{table_targets}
use Rattle.code_view.proofs.kept.kept_targets.Goals as goal

one_more : (all : List ℕ) (i to : ℕ) (before after : List ℕ) → slice_get all i ≡ Some to → before ≡ take i all → after ≡ before ++ to ∷ [] → after ≡ take (i + 1) all
one_more all i to before after at first pushed =
    pushed
    ∙ ap (λ xs. xs ++ to ∷ []) first
    ∙ ap (λ x. take i all ++ x ∷ []) (sym (get_or_from_slice_get all i to to at))
    ∙ sym (take_more all i to (slice_get_within all i to at))

pub loop-i-preserved : goal.loop-i-preserved
loop-i-preserved c =
    one_more (table_targets c.args.image.now c.args.table) c.loop-i.i c.entry_target.result c.loop-i.targets.items c.push.new.self.items
    c.entry_target.ensures c.loop-i.invariant c.in_ok-push.ensures.items
