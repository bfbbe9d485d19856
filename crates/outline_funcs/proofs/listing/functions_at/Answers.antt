use Rattle.std.proofs.Common.{get_or, length, refl, ap, ◌∙◌}
use Rattle.std.proofs.lemmas.List.{length-replicate}
use Rattle.std.proofs.lemmas.Option.{slice_get-get_or}
use Rattle.cfg_model.proofs.Graphs.Lists.{zip_more}
use Rattle.outline_funcs.specs.Inner.Bodies.{IsFunctionBy}
use Rattle.outline_funcs.proofs.Stamps.{none_stamped}
use Rattle.outline_funcs.proofs.listing.functions_at.Goals as goal

pub loop-i-init : goal.loop-i-init
loop-i-init g c = record {
  as_many = ap length c.in_ok-found.ensures ∙ length-replicate (length c.args.exits.now.blocks.now) 0;
  most = none_stamped c.in_ok-found.found.stamps.items (length c.args.exits.now.blocks.now) c.in_ok-found.ensures;
  each = rw c.in_ok-functions.ensures.items tt;
}

pub loop-i-preserved : goal.loop-i-preserved
loop-i-preserved g c =
    let entries = c.args.entries.now in
    let i = c.loop-i.i in
    record {
      as_many = c.in_ok-body.ensures.as_many;
      most = c.in_ok-body.ensures.most;
      each =
          zip_more (IsFunctionBy (goal.F-post g c.args.returns.now) c.args.exits.now) entries i (get_or entries i 0) _ _ _
          (slice_get-get_or entries i 0 c.loop-i-test.true) c.loop-i.invariant.each c.in_ok-push.ensures.items
          (record {
            starts = refl;
            status = c.returns-may_return.ensures;
            body = rw c.from_vec.ensures c.in_ok-body.ensures.body;
          });
    }
