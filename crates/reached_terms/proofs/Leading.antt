-- Why what is given to a change is so.
use Rattle.std.proofs.Common.{◌≡◌, ◌⊎◌, ℕ, List, [], ◌∷◌, ◌++◌, Option, Some, None, IsSome, refl, sym, ◌∙◌, subst, arith, ◌+◌, ◌<◌, ◌≤◌, length, take, get_or}
use Rattle.std.specs.Prelude.{OnOk, Result, Ok, Err, All, IfSome, option_to_list}
use Rattle.std.proofs.lemmas.List.{get_or_append_left, length_push, take_all, take_more}
use Rattle.std.proofs.lemmas.List.Elements.{All-nil, All-cons, All-push, Contains-push, Contains-get_or}
use Rattle.cfg_model.specs.Program.Instructions.{Instruction, InstructionMap, IsLawful, flow_at, targets_at}
use Rattle.cfg_model.specs.Program.Successors.{IsSuccessor, IsCall, ReturnsByItself, Calls}
use Rattle.cfg_model.specs.Program.Reach.{Reached}
use Rattle.cfg_model.specs.Program.Status.{Returns}
use Rattle.cfg_model.proofs.Program.Along.{returns_along}
use Rattle.cfg_model.proofs.Program.Landing.{landing_follows, may_land, pad_sent}
use Rattle.cfg_model.specs.declared.flow.Flow.{Flow}
use Rattle.reached_terms.specs.declared.marks.Marks.{Marks}
use Rattle.numbered.specs.Numbering.{IsNumbering}
use Rattle.reached_terms.specs.Sent.{IsSent}
use Rattle.reached_terms.specs.Inner.Marks.{IsOn, IsNumberOf, AreKept, GoesOn, CallsOn, EndsBy, LeadsBy, LeadsOn, ReturnsBy, IsLed, IsCalled, HasWay}
use Rattle.reached_terms.specs.Inner.Steps.{Grow, Step, IsArrived}
use Rattle.reached_terms.proofs.Complete.{ends_stand}
use Rattle.reached_terms.proofs.Growth.{led-grow, step-none, step-on}

-- two facts of a call that went well
pub on_both : {T E P Q R : Type 0} (r : Result T E) → (P → Q → R) → OnOk r P → OnOk r Q → OnOk r R
on_both (Ok x) f p q = f p q
on_both (Err e) f p q = tt

module _ (map : InstructionMap) (number : ℕ → ℕ) where
  -- the number of the terminator at which one arrived
  pub arrived_number : (m : Marks) (a n : ℕ) → IsArrived map number m a n → IsNumberOf map number n
  arrived_number m a n at = record { at = at.end; has = ends_stand (map at.end) at.ends.ends; is = at.is }

  -- the terminator at which one arrived
  end_by : (m : Marks) (b to : ℕ) → IsArrived map number m b to → EndsBy map number b to
  end_by m b to at = record { end = at.end; ends = at.ends; is = at.is }

  -- an address returns if the instruction with the number of its terminator does
  end_returns : (b to : ℕ) → EndsBy map number b to → ReturnsBy map number to → Returns map b
  end_returns b to by returns = returns_along by.ends.reaches (returns by.end (ends_stand (map by.end) by.ends.ends) by.is)

  -- what waits for the terminator at which one arrived
  pub leads_by : (seeds : List ℕ) (m : Marks) (from b to : ℕ) → IsArrived map number m b to → LeadsOn map number seeds from b → LeadsBy map number seeds from to None
  leads_by seeds m from b to at leads = (leads.from, b, leads.goes, end_by m b to at)

  pub leads_on : (seeds : List ℕ) (from to fall : ℕ) → ReturnsBy map number to → LeadsBy map number seeds from to (Some fall) → LeadsOn map number seeds from fall
  leads_on seeds from to fall returns (target, calls, by) =
      let back : Returns map target = end_returns target to by returns in
      record { from = calls.from; goes = GoesOn.past_call calls.call back; sent = IsSent.past_call calls.reached calls.call back }

  pub goes_returns : (k b : ℕ) → GoesOn map k b → Returns map b → Returns map k
  goes_returns k b (GoesOn.next next) returns = Returns.onward next returns
  goes_returns k b (GoesOn.past_call call back) returns = Returns.past_call call back returns

  pub returns_by : (count : ℕ) → IsNumbering map number count → (seeds : List ℕ) (from to : ℕ) → ReturnsBy map number to → LeadsBy map number seeds from to None → ReturnsBy map number from
  returns_by count numbering seeds from to returns (place, b, goes, by) a has is =
      let same : place.at ≡ a = numbering.apart place.at a place.has has (sym place.is ∙ is) in
      subst (Returns map) same (goes_returns place.at b goes (end_returns b to by returns))

  -- a call that waits for its target
  pub call_leads : (seeds : List ℕ) (m : Marks) (from target to fall : ℕ) → IsArrived map number m target to → CallsOn map number seeds from target fall → LeadsBy map number seeds from to (Some fall)
  call_leads seeds m from target to fall at calls = (target, calls, end_by m target to at)

  -- where one arrived and linked
  pub led : (old new : Marks) (n b to : ℕ) → IsArrived map number old b to → IsOn old.sent.items (number b) → Grow old new → IsOn new.returns.items n ⊎ HasWay new.ways.items n to None → IsLed map number new n b
  led old new n b to at sent grow way = record {
    end = at.end;
    ends = at.ends;
    reached = grow.reached (number at.end) (subst (λ k. IsOn old.reached.items k) at.is at.reached);
    way = subst (λ k. IsOn new.returns.items n ⊎ HasWay new.ways.items n k None) at.is way;
    sent = grow.sent (number b) sent;
  }

  -- the same of the target of a call that has a fall
  pub called : (old new : Marks) (n target to f : ℕ) → IsArrived map number old target to → IsOn old.sent.items (number target) → Grow old new → IsLed map number new n f ⊎ HasWay new.ways.items n to (Some f) → IsCalled map number new n target (Some f)
  called old new n target to f at sent grow way = record {
    end = at.end;
    ends = at.ends;
    reached = grow.reached (number at.end) (subst (λ k. IsOn old.reached.items k) at.is at.reached);
    way = subst (λ k. IsLed map number new n f ⊎ HasWay new.ways.items n k (Some f)) at.is way;
    sent = grow.sent (number target) sent;
  }

  -- an address at which one arrived, and one way more
  pub lead-step : (old mid new : Marks) (n b to : ℕ) → AreKept map number mid → Step map number (λ seeds. IsSent map seeds b) old mid → IsArrived map number mid b to
      → Step map number (λ seeds. LeadsBy map number seeds n to None) mid new → Step map number (λ seeds. LeadsOn map number seeds n b) old new
  lead-step old mid new n b to kept first at second =
      step-on map number (λ seeds. IsSent map seeds b) (λ seeds. LeadsBy map number seeds n to None) (λ seeds. LeadsOn map number seeds n b) old mid new first second
      (λ seeds right given. given.sent)
      (λ seeds right given. leads_by seeds mid n b to at given)

-- ---- by flow

module _ (map : InstructionMap) (number : ℕ → ℕ) (count : ℕ) (numbering : IsNumbering map number count) (n k : ℕ) (has : IsSome (map k)) (is : n ≡ number k) where
  same_place : (a : ℕ) → IsSome (map a) → n ≡ number a → k ≡ a
  same_place a a_has a_is = numbering.apart k a has a_has (sym is ∙ a_is)

  pub number_is : IsNumberOf map number n
  number_is = record { at = k; has = has; is = is }

  pub on_successor : (seeds : List ℕ) (b : ℕ) → IsSuccessor map k b → IsSent map seeds b → LeadsOn map number seeds n b
  unfolding number_is
  on_successor seeds b next sent = record { from = number_is; goes = GoesOn.next next; sent = sent }

  pub on_call : (seeds : List ℕ) (target fall : ℕ) → IsCall map k target (Some fall) → Reached map seeds k → CallsOn map number seeds n target fall
  unfolding number_is
  on_call seeds target fall call reached = record { from = number_is; call = call; reached = reached }

  -- a reached call leads to its landing pad
  pub on_landing : (seeds : List ℕ) (flow : Flow) → flow_at map k ≡ Some flow → Calls (Some flow) → Reached map seeds k → All (LeadsOn map number seeds n) (targets_at map k)
  on_landing seeds flow at calls reached i d below =
      let b = get_or (targets_at map k) i d in
      let there = Contains-get_or (targets_at map k) i d below in
      on_successor seeds b (landing_follows map k b (may_land map k flow at calls) there) (IsSent.target reached at (pad_sent (targets_at map k) flow b calls there))

  pub on_itself : ReturnsByItself map k → ReturnsBy map number n
  on_itself leaves a a_has a_is = subst (Returns map) (same_place a a_has a_is) (Returns.by_itself leaves)

-- the kept targets of an instruction are those of instructions
pub targets_known : (map : InstructionMap) → IsLawful map → (k : ℕ) → IsSome (map k) → All (λ b. IsSome (map b)) (targets_at map k)
targets_known map lawful k has = at (map k) refl has
  where
    at : (o : Option Instruction) → map k ≡ o → IsSome o → All (λ b. IsSome (map b)) (targets_at map k)
    at None is there = absurd (cc)
    at (Some i) is there = rw is (lawful k i is).kept

-- the landing pad of a call is all that it keeps
pub pad_of : (P : ℕ → Type 0) (o : Option ℕ) (kept : List ℕ) → kept ≡ option_to_list o → All P kept → IfSome o P
pad_of P None kept is all = tt
pad_of P (Some pad) kept is all = (subst (λ xs. All P xs) is all) 0 pad (omega arith)

pub of_pad : (P : ℕ → Type 0) (o : Option ℕ) (kept : List ℕ) → kept ≡ option_to_list o → IfSome o P → All P kept
of_pad P None kept is some = subst (λ xs. All P xs) (sym is) (λ k d below. absurd (omega (arith, below)))
of_pad P (Some pad) kept is some = subst (λ xs. All P xs) (sym is) (All-cons P pad [] some (All-nil P))

-- all of a list, and one more
pub all_split : (P : ℕ → Type 0) (xs : List ℕ) (x : ℕ) → All P (xs ++ x ∷ []) → All P xs × P x
all_split P xs x all =
    let last = Contains-push xs x in (
      λ k d below. subst P (get_or_append_left xs (x ∷ []) d k below) (all k d (omega (arith, below, length_push xs x))),
      subst P last.2 (all last.0 x last.1),
    )

-- a whole list was gone through
pub all_taken : (xs : List ℕ) (i : ℕ) (ys : List ℕ) → length xs ≤ i → xs ≡ ys → take i xs ≡ ys
all_taken xs i ys past same = take_all i xs past ∙ same

-- Some of the targets of a table are followed.
pub record AreFollowed (map : InstructionMap) (number : ℕ → ℕ) (n : ℕ) (start now : Marks) (bs : List ℕ) : Type 0 where
  pub step : Step map number (λ seeds. All (LeadsOn map number seeds n) bs) start now
  pub led : All (IsLed map number now n) bs

module _ (map : InstructionMap) (number : ℕ → ℕ) (n : ℕ) where
  pub followed-none : (start : Marks) (bs : List ℕ) → AreKept map number start → length bs ≡ 0 → AreFollowed map number n start start bs
  followed-none start bs kept none = record { step = step-none map number _ start kept; led = λ k d below. absurd (omega (arith, below, none)) }

  pub followed-more : (bs : List ℕ) (i : ℕ) (start now new : Marks) → i < length bs → AreFollowed map number n start now (take i bs) → Step map number (λ seeds. LeadsOn map number seeds n (get_or bs i 0)) now new → IsLed map number new n (get_or bs i 0)
      → AreFollowed map number n start new (take (i + 1) bs)
  followed-more bs i start now new within so_far step here =
      let b : ℕ = get_or bs i 0 in
      let more : take (i + 1) bs ≡ take i bs ++ b ∷ [] = take_more bs i 0 within in
      let parts = λ (seeds : List ℕ) (given : All (LeadsOn map number seeds n) (take (i + 1) bs)). all_split (LeadsOn map number seeds n) (take i bs) b (subst (λ xs. All (LeadsOn map number seeds n) xs) more given) in
      record {
        step = step-on map number (λ seeds. All (LeadsOn map number seeds n) (take i bs)) (λ seeds. LeadsOn map number seeds n b) (λ seeds. All (LeadsOn map number seeds n) (take (i + 1) bs)) start now new
            so_far.step step (λ seeds right given. (parts seeds given).0) (λ seeds right given. (parts seeds given).1);
        led = subst (λ xs. All (IsLed map number new n) xs) (sym more)
            (All-push (IsLed map number new n) (take i bs) b (λ k d below. led-grow map number now new step.grow n _ (so_far.led k d below)) here);
      }

  pub followed-all : (bs ts : List ℕ) (i : ℕ) (start now : Marks) → length bs ≤ i → bs ≡ ts → AreFollowed map number n start now (take i bs) → AreFollowed map number n start now ts
  followed-all bs ts i start now past same so_far = subst (AreFollowed map number n start now) (all_taken bs i ts past same) so_far
