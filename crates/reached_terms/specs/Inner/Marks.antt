-- What is known of the terminators of a program, by number.
use Rattle.std.specs.Prelude.{◌≡◌, ℕ, suc, ◌<◌, ◌≤◌, ◌⊎◌, Bool, true, false, if◌then◌else◌}
use Rattle.std.specs.Prelude.{List, length, get_or, All, Contains, Option, Some, None, IfSome, IsSome}
use Rattle.std.specs.List.{sum_by}
use Rattle.cfg_model.specs.Program.Instructions.{InstructionMap, IsLawful}
use Rattle.cfg_model.specs.Program.Chain.{IsTerminator, IsTerminatorOf}
use Rattle.cfg_model.specs.Program.Successors.{IsSuccessor, IsCall, ReturnsByItself}
use Rattle.cfg_model.specs.Program.Reach.{Reached}
use Rattle.cfg_model.specs.Program.Status.{Returns}
use Rattle.cfg_model.specs.Graph.Leader.{IsLeader}
use Rattle.reached_terms.specs.declared.marks.Way.{Way}
use Rattle.reached_terms.specs.declared.marks.Marks.{Marks}
use Rattle.numbered.specs.Numbering.{IsNumbering}
use Rattle.reached_terms.specs.Reached.{Reach}
use Rattle.reached_terms.specs.Sent.{IsSent}

-- What is marked: what is reached, what returns, and where blocks start.
abbrev pub terms_of : Marks → Reach
terms_of m = record {
  reached = m.reached.items;
  returns = m.returns.items;
  starts = m.sent.items;
}

-- The mark number n is set.
abbrev pub IsOn : List Bool → ℕ → Type 0
IsOn marks n = get_or marks n false ≡ true

-- How many marks are not set.
abbrev pub count_off : List Bool → ℕ
count_off marks = sum_by (λ on. if on then 0 else 1) marks

-- It is the number of an instruction.
pub record IsNumberOf (map : InstructionMap) (number : ℕ → ℕ) (n : ℕ) : Type 0 where
  pub at : ℕ
  pub has : IsSome (map at)
  pub is : n ≡ number at

-- There is such a way among them.
pub record HasWay (ways : List Way) (from to : ℕ) (fall : Option ℕ) : Type 0 where
  pub way : Way
  pub there : Contains ways way
  pub from_is : way.from ≡ from
  pub to_is : way.to ≡ to
  pub fall_is : way.fall ≡ fall

-- Both ends of a way are numbers of instructions, and one stands where it falls to.
pub record IsWay (map : InstructionMap) (number : ℕ → ℕ) (way : Way) : Type 0 where
  pub from : IsNumberOf map number way.from
  pub to : IsNumberOf map number way.to
  pub fall : IfSome way.fall (λ f. IsSome (map f))

-- The place before end, from 1 on, of the last of these ways that leads to n; 0 if there is none.
pub record IsLast (ways : List Way) (n end at : ℕ) : Type 0 where
  pub within : at ≤ end
  pub none : (j : ℕ) (d : Way) → at ≤ j → j < end → (get_or ways j d).to ≡ n → ⊥
  pub hit : (p : ℕ) (d : Way) → at ≡ suc p → (get_or ways p d).to ≡ n

-- Control goes from the instruction at k to b in its function: to a successor, or past a call whose
-- target returns.
pub data GoesOn (map : InstructionMap) (k : ℕ) : ℕ → Type 0 where
  next : {b : ℕ} → IsSuccessor map k b → GoesOn map k b
  past_call : {target b : ℕ} → IsCall map k target (Some b) → Returns map target → GoesOn map k b

-- Control is sent to b, and goes there from the instruction with the number n.
pub record LeadsOn (map : InstructionMap) (number : ℕ → ℕ) (seeds : List ℕ) (n b : ℕ)
    : Type 0 where
  pub from : IsNumberOf map number n
  pub goes : GoesOn map from.at b
  pub sent : IsSent map seeds b

-- A reached call of the target, with this fall, has the number n.
pub record CallsOn (map : InstructionMap) (number : ℕ → ℕ) (seeds : List ℕ) (n target fall : ℕ)
    : Type 0 where
  pub from : IsNumberOf map number n
  pub call : IsCall map from.at target (Some fall)
  pub reached : Reached map seeds from.at

-- The terminator of b has the number n.
pub record EndsBy (map : InstructionMap) (number : ℕ → ℕ) (b n : ℕ) : Type 0 where
  pub end : ℕ
  pub ends : IsTerminatorOf map b end
  pub is : n ≡ number end

-- Why n waits for m. Control goes from n to where m is the terminator. Or n is a call with this fall,
-- and m is the terminator of its target.
abbrev pub LeadsBy : InstructionMap → (ℕ → ℕ) → List ℕ → ℕ → ℕ → Option ℕ → Type 0
LeadsBy map number seeds n m None =
    (from : IsNumberOf map number n) × (b : ℕ) × GoesOn map from.at b × EndsBy map number b m
LeadsBy map number seeds n m (Some fall) =
    (target : ℕ) × CallsOn map number seeds n target fall × EndsBy map number target m

-- One of the ways of a branch leads out of the code.
abbrev pub IsCutOff : Option ℕ → Option ℕ → Type 0
IsCutOff (Some taken) (Some fall) = ⊥
IsCutOff _ _ = Unit {0}

-- The instruction with the number n returns.
abbrev pub ReturnsBy : InstructionMap → (ℕ → ℕ) → ℕ → Type 0
ReturnsBy map number n = (a : ℕ) → IsSome (map a) → n ≡ number a → Returns map a

-- What is marked is so, and each way has its reason.
pub record AreRight (map : InstructionMap) (number : ℕ → ℕ) (seeds : List ℕ) (m : Marks)
    : Type 0 where
  pub reached : (a : ℕ) → IsSome (map a) → IsOn m.reached.items (number a) → Reached map seeds a
  pub returns : (n : ℕ) → IsOn m.returns.items n → ReturnsBy map number n
  pub ways : All (λ w. LeadsBy map number seeds w.from w.to w.fall) m.ways.items
  pub untold : All (ReturnsBy map number) m.untold.items
  pub leads : (a : ℕ) → IsSome (map a) → IsOn m.sent.items (number a) → IsLeader map seeds a

-- Control is sent to b, and the terminator of b is reached. It is known that n returns, or n is
-- linked to that terminator.
pub record IsLed (map : InstructionMap) (number : ℕ → ℕ) (m : Marks) (n b : ℕ) : Type 0 where
  pub end : ℕ
  pub ends : IsTerminatorOf map b end
  pub reached : IsOn m.reached.items (number end)
  pub way : IsOn m.returns.items n ⊎ HasWay m.ways.items n (number end) None
  pub sent : IsOn m.sent.items (number b)

-- Control is sent to the target of a call, and its terminator is reached. If the call has a fall, it
-- went on there already, or is linked to that terminator.
pub record IsCalled (map : InstructionMap) (number : ℕ → ℕ) (m : Marks) (n target : ℕ)
    (fall : Option ℕ) : Type 0 where
  pub end : ℕ
  pub ends : IsTerminatorOf map target end
  pub reached : IsOn m.reached.items (number end)
  pub way : IfSome fall (λ f. IsLed map number m n f
      ⊎ HasWay m.ways.items n (number end) (Some f))
  pub sent : IsOn m.sent.items (number target)

-- Whatever the terminator at k leads to is marked, and linked if more may follow of it.
pub record IsVisited (map : InstructionMap) (number : ℕ → ℕ) (m : Marks) (k : ℕ) : Type 0 where
  pub onward : (b : ℕ) → IsSuccessor map k b → IsLed map number m (number k) b
  pub itself : ReturnsByItself map k → IsOn m.returns.items (number k)
  pub called : (target : ℕ) (fall : Option ℕ) → IsCall map k target fall
      → IsCalled map number m (number k) target fall

-- What holds of the marks at every moment, whatever the seeds. A reached terminator is listed, so that
-- it is visited, or was visited before.
pub record AreKept (map : InstructionMap) (number : ℕ → ℕ) (m : Marks) : Type 0 where
  pub lawful : IsLawful map
  pub numbering : IsNumbering map number (length m.reached.items)
  pub returns : length m.returns.items ≡ length m.reached.items
  pub waiting : length m.waiting.items ≡ length m.reached.items
  pub order : All (λ k. IsTerminator map k × IsOn m.reached.items (number k)) m.order.items
  pub ends : (k : ℕ) → IsSome (map k) → IsOn m.reached.items (number k) → IsTerminator map k
  pub listed : (k : ℕ) → IsSome (map k) → IsOn m.reached.items (number k)
      → Contains m.order.items k ⊎ IsVisited map number m k
  pub ways : All (IsWay map number) m.ways.items
  pub untold : All (IsNumberOf map number) m.untold.items
  pub last : (n d : ℕ) → n < length m.reached.items
      → IsLast m.ways.items n (length m.ways.items) (get_or m.waiting.items n d)
  pub before : (i : ℕ) (d : Way) → i < length m.ways.items
      → IsLast m.ways.items (get_or m.ways.items i d).to i (get_or m.ways.items i d).before
  pub sent : length m.sent.items ≡ length m.reached.items

-- What follows of a way where its end returns is marked: its start returns, or the call goes on.
abbrev pub IsDoneBy : InstructionMap → (ℕ → ℕ) → Marks → ℕ → Option ℕ → Type 0
IsDoneBy map number m from None = IsOn m.returns.items from
IsDoneBy map number m from (Some fall) = IsLed map number m from fall

abbrev pub IsDone : InstructionMap → (ℕ → ℕ) → Marks → Way → Type 0
IsDone map number m way = IsDoneBy map number m way.from way.fall

-- Of each way whose end returns what follows is marked, but for those whose ends are still untold,
-- and those before the place at that lead to n.
abbrev pub AreTold : InstructionMap → (ℕ → ℕ) → Marks → ℕ → ℕ → Type 0
AreTold map number m n at =
    (i : ℕ) (d : Way) → i < length m.ways.items
    → IsOn m.returns.items (get_or m.ways.items i d).to
    → IsDone map number m (get_or m.ways.items i d)
    ⊎ (Contains m.untold.items (get_or m.ways.items i d).to
    ⊎ (((get_or m.ways.items i d).to ≡ n) × (i < at)))
