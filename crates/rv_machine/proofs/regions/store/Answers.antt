use Rattle.std.proofs.Common.{sym, ap, ◌∙◌}
use Rattle.std.specs.Prelude.{is_some}
use Rattle.std.proofs.Math.Seq.{map-set_same}
use Rattle.rv_machine.specs.Inner.Extents.{extent_of}
use Rattle.rv_machine.proofs.FirstParts.{found-none, found-has, found-there, found-put, put-none, all_bytes}
use Rattle.rv_machine.proofs.regions.store.Goals as goal

pub store-requires : goal.store-requires
store-requires c = found-has c.args.a c.args.parts.now c.in-Some.i c.index-parts-i.result (sym c.first_with.ensures ∙ c.in-Some.is)

pub returns-in-None-clause-there : goal.returns-in-None-clause-there
returns-in-None-clause-there c = sym (ap is_some (found-none c.args.a c.args.parts.now (sym c.first_with.ensures ∙ c.in-None.is)))

pub returns-in-None-clause-bytes : goal.returns-in-None-clause-bytes
returns-in-None-clause-bytes c =
    sym (put-none (all_bytes c.args.parts.now) c.args.a c.args.b (found-none c.args.a c.args.parts.now (sym c.first_with.ensures ∙ c.in-None.is)))

pub returns-in-Some-clause-extents : goal.returns-in-Some-clause-extents
returns-in-Some-clause-extents c =
    map-set_same extent_of c.args.parts.now c.in-Some.i c.store.new.self c.index-parts-i.result c.store.ensures.extent

pub returns-in-Some-clause-there : goal.returns-in-Some-clause-there
returns-in-Some-clause-there c =
    sym (found-there c.args.a c.args.parts.now c.in-Some.i c.index-parts-i.result (sym c.first_with.ensures ∙ c.in-Some.is))

pub returns-in-Some-clause-bytes : goal.returns-in-Some-clause-bytes
returns-in-Some-clause-bytes c =
    found-put c.args.a c.args.parts.now c.in-Some.i c.index-parts-i.result (sym c.first_with.ensures ∙ c.in-Some.is) c.args.b c.store.new.self c.store.ensures.bytes
