use Rattle.std.proofs.Common.{◌≡◌, ap, arith, ⊎_elim}
use Rattle.std.specs.Prelude.{vec_len}
use Rattle.work_ops.specs.declared.desk.Desk.{Desk}
use Rattle.work_ops.proofs.Addresses.{less_to_do, fewer_names}
use Rattle.work_ops.proofs.work.work_listed.Goals as goal

pub loop-name-smaller : goal.loop-name-smaller
loop-name-smaller g c =
    let names = c.do_listed.new.desk.names in
    let one = c.in-Some.ensures.len in
    ⊎_elim
    (λ less. less_to_do c.loop-name.desk.state.maps c.do_listed.new.desk.state.maps (vec_len c.loop-name.desk.names) (vec_len names) (omega (arith, names.ok.1, names.small)) less)
    (λ same. fewer_names c.loop-name.desk.state.maps c.do_listed.new.desk.state.maps (vec_len c.loop-name.desk.names) (vec_len names) (ap (λ (d : Desk). d.state.maps) same)
    (let less : vec_len names ≡ vec_len c.pop.new.self = ap (λ (d : Desk). vec_len d.names) same in omega (arith, less, one)))
    c.in_ok-do_listed.ensures.less
