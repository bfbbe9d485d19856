-- Straight runs, step by step, and what registers hold behind them.
use Rattle.std.proofs.Common.{◌≡◌, ◌≢◌, ℕ, zero, suc, ◌+◌, ◌-◌, ◌*◌, ◌<◌, ◌≤◌, ◌⊎◌, ◌==◌, Bool, true, false, cond, List, [], ◌∷◌, Option, Some, None, is_some, refl, sym, ap, ◌∙◌, inl, inr, arith}
use Rattle.std.specs.Option.{option_map}
use Rattle.std.proofs.lemmas.Bool.Decides.{nat_tests}
use Rattle.std.proofs.lemmas.Bool.{cond-true, cond-false}
use Rattle.rv_decode.specs.declared.instructions.Insn.{Insn}
use Rattle.rv_flow.specs.Placed.{placed_at}
use Rattle.jump_table.specs.declared.step.Step.{Step}
use Rattle.jump_table.specs.declared.values.Form.{Form}
use Rattle.jump_table.specs.declared.values.Value.{Value}
use Rattle.jump_table.specs.Section.{goes_on, straight_run}
use Rattle.jump_table.specs.Inner.Straight.{IsLength}
use Rattle.jump_table.specs.Inner.Steps.{IsStep, LeadsNowhere}
use Rattle.jump_table.specs.Values.{Registers, after_placed, after_run}
use Rattle.jump_table.proofs.Placed.{placed-length}

-- A straight run leads from a to j in n instructions, if at all, and behind it register r holds this.
abbrev pub value_from : Form → List ℕ → ℕ → ℕ → ℕ → ℕ → Registers → ℕ → Option Value
value_from form bytes start j n a before r = option_map (λ run. after_run form bytes run before r) (straight_run bytes start j n a)

-- An address so many parcels before the jump is that of the jump where there are none.
pub at_jump : (j k : ℕ) → 2 * k ≤ j → (j - 2 * k == j) ≡ (k == 0)
at_jump j zero within = let e : (j - 0 == j) ≡ true = grind (arith, nat_tests) in e
at_jump j (suc k) within = let e : (j - 2 * suc k == j) ≡ false = grind (arith, nat_tests) in
    let f : (suc k == 0) ≡ false = grind (arith, nat_tests) in
    e ∙ sym f

module _ (bytes : List ℕ) (start j : ℕ) where
  abbrev run_from : ℕ → ℕ → Option (List ℕ)
  run_from n a = straight_run bytes start j n a

  abbrev behind : ℕ → ℕ
  behind a = a + (placed_at bytes a).length

  there_now : (n a : ℕ) → a ≡ j → run_from n a ≡ Some []
  unfolding straight_run
  there_now zero a is = let e : (a == j) ≡ true = grind (arith, nat_tests) in cond-true (a == j) _ _ e
  there_now (suc n) a is = let e : (a == j) ≡ true = grind (arith, nat_tests) in cond-true (a == j) _ _ e

  too_long : (a : ℕ) → a ≢ j → run_from 0 a ≡ None
  unfolding straight_run
  too_long a other = let e : (a == j) ≡ false = grind (arith, nat_tests) in cond-false (a == j) _ _ e

  one_more : (n a : ℕ) → a ≢ j → run_from (suc n) a ≡ cond (goes_on bytes start a) (option_map (λ run. a ∷ run) (run_from n (behind a))) None
  unfolding straight_run
  one_more n a other = let e : (a == j) ≡ false = grind (arith, nat_tests) in cond-false (a == j) _ _ e

  -- ---- where no run leads to the jump

  pub no_more : (a : ℕ) → a ≢ j → goes_on bytes start a ≡ false → (n : ℕ) → run_from n a ≡ None
  no_more a other stops zero = too_long a other
  no_more a other stops (suc n) = one_more n a other ∙ cond-false (goes_on bytes start a) _ _ stops

  none-on : (n a : ℕ) → a ≢ j → run_from n (behind a) ≡ None → run_from (suc n) a ≡ None
  none-on n a other none = one_more n a other ∙ ap (λ o. cond (goes_on bytes start a) (option_map (λ run. a ∷ run) o) None) none ∙ either (goes_on bytes start a)
    where
      either : (b : Bool) → cond b (option_map (λ run. a ∷ run) None) None ≡ None
      either true = refl
      either false = refl

  pub nowhere-on : (a : ℕ) → a ≢ j → ((n : ℕ) → run_from n (behind a) ≡ None) → (n : ℕ) → run_from n a ≡ None
  nowhere-on a other none zero = too_long a other
  nowhere-on a other none (suc n) = none-on n a other (none n)

  pub nowhere-past : (n a : ℕ) → j < a → run_from n a ≡ None
  nowhere-past zero a past = too_long a (λ is. omega arith)
  nowhere-past (suc n) a past = none-on n a (λ is. omega arith) (nowhere-past n (behind a) (omega arith))

  -- No run passes two parcels that lead nowhere and follow each other.
  module _ (k : ℕ) (some : 0 < k) (first : LeadsNowhere bytes start j k) (second : LeadsNowhere bytes start j (k + 1)) where
    by_length : (n l : ℕ) → ((m : ℕ) → k ≤ m → 2 * m ≤ j → run_from n (j - 2 * m) ≡ None) → 2 * l ≤ j → k + 2 ≤ l
        → IsLength (placed_at bytes (j - 2 * l)).length → run_from n (behind (j - 2 * l)) ≡ None
    by_length n l nearer within more (inl short) =
        let e : behind (j - 2 * l) ≡ j - 2 * (l - 1) = omega (arith, short) in ap (λ a. run_from n a) e ∙ nearer (l - 1) (omega arith) (omega arith)
    by_length n l nearer within more (inr long) =
        let e : behind (j - 2 * l) ≡ j - 2 * (l - 2) = omega (arith, long) in ap (λ a. run_from n a) e ∙ nearer (l - 2) (omega arith) (omega arith)

    split : (l : ℕ) → k ≤ l → (l ≡ k) ⊎ ((l ≡ k + 1) ⊎ (k + 2 ≤ l))
    split l from = grind arith

    by_place : (n l : ℕ) → ((m : ℕ) → k ≤ m → 2 * m ≤ j → run_from n (j - 2 * m) ≡ None) → 2 * l ≤ j
        → (l ≡ k) ⊎ ((l ≡ k + 1) ⊎ (k + 2 ≤ l)) → run_from (suc n) (j - 2 * l) ≡ None
    by_place n l nearer within (inl is) = ap (λ m. run_from (suc n) (j - 2 * m)) is ∙ first (suc n)
    by_place n l nearer within (inr (inl is)) = ap (λ m. run_from (suc n) (j - 2 * m)) is ∙ second (suc n)
    by_place n l nearer within (inr (inr more)) =
        none-on n (j - 2 * l) (λ is. omega arith) (by_length n l nearer within more (placed-length bytes (j - 2 * l)))

    further : (n l : ℕ) → k ≤ l → 2 * l ≤ j → run_from n (j - 2 * l) ≡ None
    further zero l from within = too_long (j - 2 * l) (λ is. omega arith)
    further (suc n) l from within = by_place n l (λ m. further n m) within (split l from)

    pub nowhere-further : (l : ℕ) → k ≤ l → 2 * l ≤ j → LeadsNowhere bytes start j l
    nowhere-further l from within n = further n l from within

  -- ---- that a run reaches the jump

  pub reaches-here : (n a : ℕ) → a ≡ j → is_some (run_from n a) ≡ true
  reaches-here n a is = ap (λ o. is_some o) (there_now n a is)

  end_test : (b : Bool) → is_some (cond {A = Option (List ℕ)} b (Some []) None) ≡ b
  end_test true = refl
  end_test false = refl

  pub reaches-end : (n a : ℕ) → n ≡ 0 → is_some (run_from n a) ≡ (a == j)
  unfolding straight_run
  reaches-end n a is = ap (λ k. is_some (run_from k a)) is ∙ end_test (a == j)

  pub reaches-nowhere : (n a : ℕ) → run_from n a ≡ None → is_some (run_from n a) ≡ false
  reaches-nowhere n a none = ap (λ o. is_some o) none

  some-map : {A B : Type 0} (f : A → B) (o : Option A) → is_some (option_map f o) ≡ is_some o
  some-map f None = refl
  some-map f (Some x) = refl

  -- ---- a step on

  module _ (k : ℕ) (step : Step) (some : 0 < k) (within : 2 * k ≤ j) (is : IsStep bytes start j k step) where
    goes_to : (m n : ℕ) → m ≡ suc n → run_from m (j - 2 * k) ≡ option_map (λ run. (j - 2 * k) ∷ run) (run_from n (j - 2 * step.next))
    goes_to m n e =
        ap (λ i. run_from i (j - 2 * k)) e ∙ one_more n (j - 2 * k) (λ same. omega arith) ∙ cond-true (goes_on bytes start (j - 2 * k)) _ _ is.straight
        ∙ ap (λ a. option_map (λ run. (j - 2 * k) ∷ run) (run_from n a)) is.next

    pub reaches-on : (m n : ℕ) → m ≡ suc n → is_some (run_from m (j - 2 * k)) ≡ is_some (run_from n (j - 2 * step.next))
    reaches-on m n e = ap (λ o. is_some o) (goes_to m n e) ∙ some-map (λ run. (j - 2 * k) ∷ run) (run_from n (j - 2 * step.next))

    map-map : (f : List ℕ → List ℕ) (g : List ℕ → Value) (o : Option (List ℕ)) → option_map g (option_map f o) ≡ option_map (λ x. g (f x)) o
    map-map f g None = refl
    map-map f g (Some x) = refl

    pub value-on : (form : Form) (m n : ℕ) (before : Registers) (r : ℕ) → m ≡ suc n
        → value_from form bytes start j m (j - 2 * k) before r
        ≡ value_from form bytes start j n (j - 2 * step.next) (after_placed form bytes (j - 2 * k) step.insn before) r
    value-on form m n before r e =
        ap (λ o. option_map (λ run. after_run form bytes run before r) o) (goes_to m n e)
        ∙ map-map (λ run. (j - 2 * k) ∷ run) (λ run. after_run form bytes run before r) (run_from n (j - 2 * step.next))
        ∙ ap (λ (insn : Option Insn). value_from form bytes start j n (j - 2 * step.next) (after_placed form bytes (j - 2 * k) insn before) r) (sym is.insn)

  -- ---- what a register holds at the jump

  module _ (form : Form) (n a : ℕ) (before : Registers) (r : ℕ) where
    pub value-here : a ≡ j → value_from form bytes start j n a before r ≡ Some (before r)
    value-here is = ap (λ o. option_map (λ run. after_run form bytes run before r) o) (there_now n a is)

    pub value-none : run_from n a ≡ None → value_from form bytes start j n a before r ≡ None
    value-none none = ap (λ o. option_map (λ run. after_run form bytes run before r) o) none

    pub value-end : n ≡ 0 → a ≢ j → value_from form bytes start j n a before r ≡ None
    value-end is other = value-none (ap (λ k. run_from k a) is ∙ too_long a other)
