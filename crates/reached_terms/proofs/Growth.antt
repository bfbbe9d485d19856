-- What holds of the marks stays as they grow.
use Rattle.std.proofs.Common.{ℕ, ◌⊎◌, List, Option, Some, None, refl, ◌∙◌, arith, inl, inr}
use Rattle.std.specs.Prelude.{IfSome, Contains}
use Rattle.cfg_model.specs.Program.Instructions.{InstructionMap}
use Rattle.reached_terms.specs.declared.marks.Marks.{Marks}
use Rattle.reached_terms.specs.Inner.Marks.{IsOn, HasWay, IsLed, IsCalled, IsVisited, IsDoneBy, AreKept, AreRight}
use Rattle.reached_terms.specs.Inner.Steps.{Grow, Step}

pub grow-none : (m : Marks) → Grow m m
grow-none m = record {
  size = refl;
  reached = λ n on. on;
  returns = λ n on. on;
  ways = λ way there. there;
  more_ways = omega arith;
  same_ways = λ i d within. refl;
  more = omega arith;
  same = λ i d within. refl;
  sent = λ a there. there;
  counted = refl;
}

pub grow-on : (a b c : Marks) → Grow a b → Grow b c → Grow a c
grow-on a b c first second = record {
  size = second.size ∙ first.size;
  reached = λ n on. second.reached n (first.reached n on);
  returns = λ n on. second.returns n (first.returns n on);
  ways = λ way there. second.ways way (first.ways way there);
  more_ways = omega (arith, first.more_ways, second.more_ways);
  same_ways = λ i d within. second.same_ways i d (omega (arith, within, first.more_ways)) ∙ first.same_ways i d within;
  more = omega (arith, first.more, second.more);
  same = λ i d within. second.same i d (omega (arith, within, first.more)) ∙ first.same i d within;
  sent = λ x there. second.sent x (first.sent x there);
  counted = second.counted ∙ first.counted;
}

module _ (map : InstructionMap) (number : ℕ → ℕ) (old new : Marks) (grow : Grow old new) where
  pub way-grow : (from to : ℕ) (fall : Option ℕ) → HasWay old.ways.items from to fall → HasWay new.ways.items from to fall
  way-grow from to fall has = record { way = has.way; there = grow.ways has.way has.there; from_is = has.from_is; to_is = has.to_is; fall_is = has.fall_is }

  pub following-grow : (n t : ℕ) → IsOn old.returns.items n ⊎ HasWay old.ways.items n t None → IsOn new.returns.items n ⊎ HasWay new.ways.items n t None
  following-grow n t (inl on) = inl (grow.returns n on)
  following-grow n t (inr way) = inr (way-grow n t None way)

  pub led-grow : (n b : ℕ) → IsLed map number old n b → IsLed map number new n b
  led-grow n b led = record { end = led.end; ends = led.ends; reached = grow.reached (number led.end) led.reached; way = following-grow n (number led.end) led.way; sent = grow.sent (number b) led.sent }

  fall-grow : (n t : ℕ) (fall : Option ℕ) → IfSome fall (λ f. IsLed map number old n f ⊎ HasWay old.ways.items n t (Some f)) → IfSome fall (λ f. IsLed map number new n f ⊎ HasWay new.ways.items n t (Some f))
  fall-grow n t None way = way
  fall-grow n t (Some f) (inl led) = inl (led-grow n f led)
  fall-grow n t (Some f) (inr way) = inr (way-grow n t (Some f) way)

  pub called-grow : (n target : ℕ) (fall : Option ℕ) → IsCalled map number old n target fall → IsCalled map number new n target fall
  called-grow n target fall called = record { end = called.end; ends = called.ends; reached = grow.reached (number called.end) called.reached; way = fall-grow n (number called.end) fall called.way; sent = grow.sent (number target) called.sent }

  pub led_any-grow : (n : ℕ) (b : Option ℕ) → IfSome b (IsLed map number old n) → IfSome b (IsLed map number new n)
  led_any-grow n None led = led
  led_any-grow n (Some b) led = led-grow n b led

  pub done-grow : (from : ℕ) (fall : Option ℕ) → IsDoneBy map number old from fall → IsDoneBy map number new from fall
  done-grow from None done = grow.returns from done
  done-grow from (Some f) done = led-grow from f done

  pub visited-grow : (k : ℕ) → IsVisited map number old k → IsVisited map number new k
  visited-grow k visited = record {
    onward = λ b next. led-grow (number k) b (visited.onward b next);
    itself = λ leaves. grow.returns (number k) (visited.itself leaves);
    called = λ target fall call. called-grow (number k) target fall (visited.called target fall call);
  }

  pub order-grow : (k : ℕ) → Contains old.order.items k → Contains new.order.items k
  order-grow k there = (there.0, omega (arith, there.1, grow.more), grow.same there.0 k there.1 ∙ there.2)

  pub listed-grow : (k : ℕ) → Contains old.order.items k ⊎ IsVisited map number old k → Contains new.order.items k ⊎ IsVisited map number new k
  listed-grow k (inl there) = inl (order-grow k there)
  listed-grow k (inr visited) = inr (visited-grow k visited)

-- ---- steps, one after another

module _ (map : InstructionMap) (number : ℕ → ℕ) where
  pub step-none : (Given : List ℕ → Type 0) (m : Marks) → AreKept map number m → Step map number Given m m
  step-none Given m kept = record {
    kept = kept;
    grow = grow-none m;
    right = λ seeds right given. right;
    told = λ n at told. told;
    left = omega arith;
  }

  pub step-on : (First Second Given : List ℕ → Type 0) (a b c : Marks) → Step map number First a b → Step map number Second b c
      → ((seeds : List ℕ) → AreRight map number seeds a → Given seeds → First seeds)
      → ((seeds : List ℕ) → AreRight map number seeds b → Given seeds → Second seeds)
      → Step map number Given a c
  step-on First Second Given a b c first second to_first to_second = record {
    kept = second.kept;
    grow = grow-on a b c first.grow second.grow;
    right = λ seeds right given.
        let half = first.right seeds right (to_first seeds right given) in
        second.right seeds half (to_second seeds half given);
    told = λ n at told. second.told n at (first.told n at told);
    left = omega (arith, first.left, second.left);
  }

  -- what is given may be more
  pub step-given : (First Given : List ℕ → Type 0) (a b : Marks) → Step map number First a b → ((seeds : List ℕ) → AreRight map number seeds a → Given seeds → First seeds) → Step map number Given a b
  step-given First Given a b first to_first = record {
    kept = first.kept;
    grow = first.grow;
    right = λ seeds right given. first.right seeds right (to_first seeds right given);
    told = first.told;
    left = first.left;
  }
