use Rattle.std.proofs.Common.{sym, subst, ◌∙◌, ap}
use Rattle.std.specs.FinMap as maps
use Rattle.builder_model.specs.declared.state.Waiter.{Waiter}
use Rattle.builder_model.specs.Waiter.{waiter_cmp}
use Rattle.core_state.specs.inner.Pairs.{AreRising}
use Rattle.address_map.specs.Pairs.{over}
use Rattle.core_state.proofs.WaitersKept.{Row, put_over, put_kept}
use Rattle.core_state.proofs.several.Several.new.Goals as goal

pub invariant_of-result : goal.invariant_of-result
invariant_of-result c =
    let nobody = λ (w : Waiter). ap (λ m. maps.get m w) c.new.ensures ∙ maps.get-empty waiter_cmp w in
    put_kept c.put-2.new.row.items c.put-3.new.row.items c.args.first.0 c.args.first.1 c.in_ok-put-3.ensures c.new.result
    (put_kept c.put.new.row.items c.put-2.new.row.items c.args.second.0 c.args.second.1 c.in_ok-put-2.ensures c.new.result
    (put_kept c.in_ok-few.few.items c.put.new.row.items c.args.third.0 c.args.third.1 c.in_ok-put.ensures c.new.result
    (subst (λ (row : Row). AreRising waiter_cmp row) (sym c.in_ok-few.ensures.items) tt, λ w is. nobody w)
    (nobody c.args.third.0)) (nobody c.args.second.0)) (nobody c.args.first.0)

pub returns : goal.returns
returns c =
    put_over c.put-2.new.row.items c.put-3.new.row.items c.args.first.0 c.args.first.1 c.in_ok-put-3.ensures c.new.result _
    (put_over c.put.new.row.items c.put-2.new.row.items c.args.second.0 c.args.second.1 c.in_ok-put-2.ensures c.new.result _
    (put_over c.in_ok-few.few.items c.put.new.row.items c.args.third.0 c.args.third.1 c.in_ok-put.ensures c.new.result maps.empty
    (ap (λ row. over row c.new.result) c.in_ok-few.ensures.items ∙ c.new.ensures)))
