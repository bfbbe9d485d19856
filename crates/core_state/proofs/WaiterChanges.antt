-- The changes of a terminator's waiters, and of the untold ones beside them.
use Rattle.std.proofs.Common.{◌≡◌, Bool, cond, true, false, not, refl, List, length, ◌<◌, subst, sym, ap, ◌∙◌}
use Rattle.std.specs.Prelude.{Option, Some, None, IsSome, IsTrue, is_some, IfSome, Result, Ok, Err, OnOk, is_err, ◌||◌, ◌&&◌}
use Rattle.std.specs.Option.{option_copied}
use Rattle.std.specs.Borrow.{Bor}
use Rattle.std.specs.List.{list_any}
use Rattle.std.specs.declared.cmp.Ordering.{Ordering}
use Rattle.std.specs.Ordering.{eq_by_cmp, is_gt}
use Rattle.std.specs.FinMap as maps
use Rattle.std.specs.FinSet as sets
use Rattle.std.specs.BTreeMap.{is_at}
use Rattle.std.specs.Map.{lookup}
use Rattle.builder_model.specs.declared.state.Waiter.{Waiter}
use Rattle.builder_model.specs.Waiter.{waiter_cmp}
use Rattle.builder_model.specs.contracts.state.WaiterOrd.TheImpl as derived
use Rattle.builder_model.proofs.WaiterOrder.{waiter_cmp_total, exact_waiters}
use Rattle.core_state.specs.Least.{IsLeastBy}
use Rattle.core_state.specs.inner.Untold.{is_untold, AreUntold}
use Rattle.core_state.specs.inner.Waiting.{WaiterMap, AwaitsTelling, with_told}
use Rattle.core_state.proofs.DerivedOrder.{derived_order}
use Rattle.address_map.proofs.Seen.{found, put, PutsAt}
use Rattle.core_state.proofs.SeenMap.{take, take_new, TakesAt}
use Rattle.core_state.proofs.SeenSet.{HasAt, seen_insert, seen_remove}
use Rattle.core_state.proofs.LeastFirst.{least_of_first}

-- what std says by the order that is derived
abbrev order : Waiter → Waiter → Ordering
order = derived.cmp-value.it

pub waiter_there : (es : List (Waiter × Bool)) (m : maps.FinMap waiter_cmp Bool) → maps.from_entries es ≡ m → (w : Waiter) → lookup (is_at (order w)) es ≡ maps.get m w
waiter_there es m seen w = ap (λ R. lookup (is_at (R w)) es) derived_order ∙ found waiter_cmp_total exact_waiters es m seen w

pub waiter_put : (es fs : List (Waiter × Bool)) (w : Waiter) (told : Bool) → PutsAt order es fs w told → maps.from_entries {R = waiter_cmp} fs ≡ maps.insert (maps.from_entries es) w told
waiter_put es fs w told puts = put waiter_cmp_total exact_waiters es (maps.from_entries es) refl w told fs (subst (λ R. PutsAt R es fs w told) derived_order puts)

pub waiter_taken : (es fs : List (Waiter × Bool)) (w : Waiter) → TakesAt order es fs w → maps.from_entries {R = waiter_cmp} fs ≡ maps.remove (maps.from_entries es) w
waiter_taken es fs w takes = take waiter_cmp_total exact_waiters es fs w (subst (λ R. TakesAt R es fs w) derived_order takes)

-- a waiter that was put where there was none and taken out again
pub put_and_taken : (es fs gs : List (Waiter × Bool)) (w : Waiter) (told : Bool) → is_some (lookup (is_at (order w)) es) ≡ false → PutsAt order es fs w told → TakesAt order fs gs w
    → maps.from_entries {R = waiter_cmp} gs ≡ maps.from_entries es
put_and_taken es fs gs w told new puts takes =
    waiter_taken fs gs w takes ∙ ap (λ m. maps.remove m w) (waiter_put es fs w told puts)
    ∙ take_new waiter_cmp_total exact_waiters (maps.from_entries es) w told (no_value _ (ap is_some (sym (waiter_there es _ refl w)) ∙ new))
  where
    no_value : (o : Option Bool) → is_some o ≡ false → o ≡ None
    no_value None e = refl
    no_value (Some x) e = cc

pub untold_put : (ks ls : List Waiter) (w : Waiter) → HasAt order ks ls w true → sets.from_list {R = waiter_cmp} ls ≡ sets.insert (sets.from_list ks) w
untold_put ks ls w has = seen_insert waiter_cmp_total exact_waiters ks ls w (subst (λ R. HasAt R ks ls w true) derived_order has)

pub untold_taken : (ks ls : List Waiter) (w : Waiter) → HasAt order ks ls w false → sets.from_list {R = waiter_cmp} ls ≡ sets.remove (sets.from_list ks) w
untold_taken ks ls w has = seen_remove waiter_cmp_total exact_waiters ks ls w (subst (λ R. HasAt R ks ls w false) derived_order has)

pub untold_as : (u v : sets.FinSet waiter_cmp) (m n : maps.FinMap waiter_cmp Bool) → v ≡ u → n ≡ m → AreUntold u m → AreUntold v n
untold_as u v m n e f are w = ap (λ s. sets.contains s w) e ∙ are w ∙ ap (λ k. is_untold (maps.get k w)) (sym f)

by_new : (b c : Bool) (o : Option Bool) → c ≡ is_untold o → (b || c) ≡ is_untold (cond b (Some false) o)
by_new true c o e = refl
by_new false c o e = e

by_told : (b c : Bool) (o : Option Bool) → c ≡ is_untold o → (not b && c) ≡ is_untold (cond b (Some true) o)
by_told true c o e = refl
by_told false c o e = e

pub untold_with : (u : sets.FinSet waiter_cmp) (m : maps.FinMap waiter_cmp Bool) (w : Waiter) → AreUntold u m → AreUntold (sets.insert u w) (maps.insert m w false)
untold_with u m w are q =
    sets.contains-insert waiter_cmp_total u w q ∙ by_new (eq_by_cmp waiter_cmp q w) _ (maps.get m q) (are q)
    ∙ ap is_untold (sym (maps.get-insert waiter_cmp_total m w false q))

pub untold_without : (u : sets.FinSet waiter_cmp) (m : maps.FinMap waiter_cmp Bool) (w : Waiter) → AreUntold u m → AreUntold (sets.remove u w) (maps.insert m w true)
untold_without u m w are q =
    sets.contains-remove waiter_cmp_total u w q ∙ by_told (eq_by_cmp waiter_cmp q w) _ (maps.get m q) (are q)
    ∙ ap is_untold (sym (maps.get-insert waiter_cmp_total m w true q))

pub none_untold : AreUntold sets.empty maps.empty
none_untold w = sets.contains-empty waiter_cmp w ∙ ap is_untold (sym (maps.get-empty waiter_cmp w))

pub accepted : {T E P : Type 0} (r : Result T E) → is_err r ≡ false → OnOk r P → P
accepted (Ok x) e p = p
accepted (Err x) e p = cc

-- a waiter is told where it waits
pub told_now : (m : WaiterMap) (w : Waiter) → IsSome (maps.get m w) → maps.insert m w true ≡ with_told m w
told_now m w had = rw had

pub told_never : (m : WaiterMap) (w : Waiter) → maps.get m w ≡ None → m ≡ with_told m w
told_never m w none = rw none

-- the first untold waiter is the least one whose mark is false
is_false : (o : Option Bool) → is_untold o ≡ true → o ≡ Some false
is_false None e = cc
is_false (Some true) e = cc
is_false (Some false) e = refl

pub least_as : (P Q : Waiter → Type 0) (o : Option Waiter) → ((w : Waiter) → P w → Q w) → ((w : Waiter) → Q w → P w) → IsLeastBy waiter_cmp P o → IsLeastBy waiter_cmp Q o
least_as P Q None to fro least = λ w q. least w (fro w q)
least_as P Q (Some x) to fro least = (to x least.0, λ w q. least.1 w (fro w q))

pub next_of : (ks : List Waiter) (es : List (Waiter × Bool)) → AreUntold (sets.from_list ks) (maps.from_entries es) → (m : WaiterMap) → maps.from_entries es ≡ m
    → (r : Option (Bor Waiter)) (o : Option Waiter) → o ≡ option_copied r → (0 < length ks → IsSome r) → IfSome r (λ k. list_any (is_at (order k.now)) ks ≡ true)
    → IfSome r (λ k. (q : Waiter) → list_any (is_at (order q)) ks ≡ true → is_gt (order k.now q) ≡ false)
    → IsLeastBy waiter_cmp (AwaitsTelling m) o
next_of ks es are m seen r o copied some has least =
    least_as (λ w. IsTrue (sets.contains (sets.from_list ks) w)) (AwaitsTelling m) o
    (λ w is. sym (ap (λ n. maps.get n w) seen) ∙ is_false _ (sym (are w) ∙ is))
    (λ w is. are w ∙ ap is_untold (ap (λ n. maps.get n w) seen ∙ is))
    (least_of_first waiter_cmp_total exact_waiters ks r o copied some
    (subst (λ R. IfSome r (λ k. list_any (is_at (R k.now)) ks ≡ true)) derived_order has)
    (subst (λ R. IfSome r (λ k. (q : Waiter) → list_any (is_at (R q)) ks ≡ true → is_gt (R k.now q) ≡ false)) derived_order least))
