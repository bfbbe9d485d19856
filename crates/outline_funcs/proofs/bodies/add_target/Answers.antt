use Rattle.std.proofs.Common.{sym, inl, inr, ⊎_elim, ◌∙◌}
use Rattle.std.proofs.lemmas.Bool.{false≢true}
use Rattle.outline_funcs.specs.Inner.Exits.{LeadsWithin}
use Rattle.outline_funcs.proofs.Extending.{extends_one, extends_none}
use Rattle.outline_funcs.proofs.Following.{entered_there, not_entered}
use Rattle.outline_funcs.proofs.Numbers.{none, one_number}
use Rattle.outline_funcs.proofs.bodies.add_target.Goals as goal
use Rattle.outline_funcs.proofs.bodies.add_target.Goals.{then-edge-entry-via-then-edge-entry, then-edge-entry-via-else-edge-entry+then-not-index}

pub returns-in_ok-add-clause-adds : goal.returns-in_ok-add-clause-adds
returns-in_ok-add-clause-adds c =
    let exits = c.args.exits.now in
    let to = c.number_near-to.result in
    extends_one _ _ to (LeadsWithin exits c.args.entry c.args.edge)
    (record {
      stays = record {
        no_call = λ e. let is = rw e at c.eq.ensures in false≢true (sym c.if-eq.false ∙ is);
        inside = elim c.then-edge-entry.branch [
          | then-edge-entry-via-then-edge-entry w ↦ inl w.if-edge-entry.true
          | then-edge-entry-via-else-edge-entry+then-not-index w ↦
              inr (not_entered exits c.requires.exits to _ c.number_near-to.ensures _ (sym w.index.ensures ∙ w.if-not-index.true))
        ];
      };
      target = c.number_near-to.ensures;
    })
    (λ b h. one_number _ none b to _ c.requires.exits.in_order h.target c.number_near-to.ensures) c.in_ok-add.ensures.adds

pub returns-else-not-index-clause-adds : goal.returns-else-not-index-clause-adds
returns-else-not-index-clause-adds c =
    extends_none _ (LeadsWithin c.args.exits.now c.args.entry c.args.edge)
    (λ b h. ⊎_elim c.if-edge-entry.false
    (λ out. out (entered_there c.args.exits.now c.requires.exits c.number_near-to.result _ c.number_near-to.ensures _ (sym c.index.ensures ∙ c.if-not-index.false)))
    h.stays.inside)
