use Rattle.std.proofs.Common.{◌≡◌, length, subst, arith}
use Rattle.cert_check.specs.Inner.Blocks.{AreOwned, owner_by}
use Rattle.cert_check.proofs.blocks.blocks_of.Goals as goal

pub returns : goal.returns
returns g c =
    let map = g.C.Chains.map c.args.code.now in
    let leads = c.args.leads.now in
    let last : c.loop-i.i ≡ length leads = omega arith in
    record {
      few = c.know_few.ensures;
      numbering = c.loop-i.invariant.numbering;
      owned = subst (AreOwned map leads (owner_by (g.C.Numbered.number c.args.code.now) c.loop-i.owners.places.items)) last c.loop-i.invariant.owned;
      runs = record {
        as_many = omega (arith, c.loop-i.invariant.as_many, last);
        each = λ j d lt. c.loop-i.invariant.each j d (omega (arith, lt, last));
      };
    }
