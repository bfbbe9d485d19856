use Rattle.std.proofs.Common.{List, subst, sym, arith, rules}
use Rattle.std.proofs.lemmas.Result.{IfOk-at_ok}
use Rattle.steal_pool.specs.Pool.{HandValue}
use Rattle.crew.specs.inner.Team.{IsBack, AreBack}
use Rattle.crew.proofs.GivenBack.{seat_back, hands_back, stays_free, goes_free, low_of, high_of}
use Rattle.crew.proofs.team.+employ_all+fn-employ_all-join+arg2+fn-employ_all-join+arg3.Goals as goal

pub returns-clause-seat : goal.returns-clause-seat
returns-clause-seat g t c =
    let low = IfOk-at_ok (λ back. IsBack c.split-left.result.0 back.0 × AreBack c.split_off.new.self.items back.1.items) c.in_ok-left.was c.join-left.ensures.first in
    let high = IfOk-at_ok (λ back. IsBack c.split-left.result.1 back.0 × AreBack c.in_ok-high.high.items back.1.items) c.in_ok-right.was c.join-left.ensures.second in
    seat_back c.args.seat _ _ c.in_ok-left.left c.in_ok-right.right c.join.result c.split-left.ensures.stays c.split-left.ensures.goes low.0 high.0 c.join.ensures.both

pub returns-clause-hands : goal.returns-clause-hands
returns-clause-hands g t c =
    let low = IfOk-at_ok (λ back. IsBack c.split-left.result.0 back.0 × AreBack c.split_off.new.self.items back.1.items) c.in_ok-left.was c.join-left.ensures.first in
    let high = IfOk-at_ok (λ back. IsBack c.split-left.result.1 back.0 × AreBack c.in_ok-high.high.items back.1.items) c.in_ok-right.was c.join-left.ensures.second in
    subst (λ (xs : List HandValue). AreBack c.args.hands.items xs) (sym c.in_ok-append.ensures.items)
    (hands_back 1 c.args.hands.items c.split_off.new.self.items c.in_ok-high.high.items c.in_ok-left.low.items c.in_ok-right.high.items c.in_ok-high.ensures.items c.in_ok-high.ensures.tail low.1 high.1)

-- each half of the hands takes a call, and has its half of the seat
pub join-left-requires-after_bounds : goal.join-left-requires-after_bounds
join-left-requires-after_bounds g t c κs within =
    let cut = c.in_ok-high.ensures in
    let seats = c.split-left.ensures in (
      (
        omega (arith, cut.len),
        (
          (λ a h. h),
          (
            (λ a h. h),
            (
              (λ a h. h),
              (
                (λ a h. h),
                (
                  (
                    search rules,
                    search rules,
                    search rules,
                    search rules,
                    search rules,
                    c.requires.job,
                    stays_free _ _ _ c.requires.seat seats.stays,
                    low_of _ _ 1 _ _ c.requires.hands cut.items (omega (arith, cut.len)),
                  ),
                  search rules,
                ),
              ),
            ),
          ),
        ),
      ),
      (
        omega (arith, cut.tail_len),
        (
          (λ a h. h),
          (
            (λ a h. h),
            (
              (λ a h. h),
              (
                (λ a h. h),
                (
                  (
                    search rules,
                    search rules,
                    search rules,
                    search rules,
                    search rules,
                    c.requires.job,
                    goes_free _ _ _ c.requires.seat seats.goes,
                    high_of _ _ 1 _ _ c.requires.hands cut.tail (omega (arith, cut.len)),
                  ),
                  search rules,
                ),
              ),
            ),
          ),
        ),
      ),
    )
