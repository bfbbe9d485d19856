-- Two states that agree in what an instruction reads make the same step of the open machine, and what it neither reads nor writes is kept.
use Rattle.std.proofs.Common.{◌≡◌, ℕ, ◌%◌, ◌^◌, ◌<◌, ◌&&◌, ◌==◌, not, Bool, true, false, cond, List, Option, Some, None, refl, sym, ap, ◌∙◌, subst, inl, inr}
use Rattle.std.specs.Prelude.{IsTrue, nat_lt}
use Rattle.std.proofs.Math.Path.{fun_ext}
use Rattle.std.proofs.lemmas.Bool.{cases_Bool, and_parts, and_from, or_cases, or_parts, or_left, or_right, ltb-true, both_ways, false_from_ne_true}
use Rattle.rv_decode.specs.declared.instructions.Insn.{Insn}
use Rattle.rv_decode.specs.declared.instructions.Insn.TheVariants as insns
use Rattle.rv_flow.specs.declared.placed.Placed.{Placed}
use Rattle.rv_flow.specs.Placed.{placed_at}
use Rattle.rv_machine.specs.declared.cpu.Reserved.{Reserved}
use Rattle.rv_machine.specs.declared.trap.Trap.{Trap}
use Rattle.rv_machine.specs.Registers.{RegisterFile, held}
use Rattle.rv_machine.specs.State.{State}
use Rattle.rv_machine.specs.Memory.{Bytes}
use Rattle.rv_machine.specs.Step.{step_of}
use Rattle.rv_machine.specs.Step as machine
use Rattle.open_machine.specs.World.{World}
use Rattle.open_machine.specs.Asked.{Asked, Reply, Stops, Answers, Surroundings, seen_by, may_change}
use Rattle.open_machine.specs.Step.{Ends, is_asked, question, with_answered, after_reply, asked_step, step_beyond, step_from, open_step}
use Rattle.open_machine.proofs.Open.{open_step_is}
use Rattle.edge_cover.specs.Runs.{StepsTo}
use Rattle.live_regs.specs.Effects.{has_source, reads, writes}
use Rattle.free_laws.specs.Agree.{Agree, EndAlike, OpenEndAlike}
use Rattle.free_laws.specs.Steps.{insn_of, reads_or_writes, OpenStepsReadWhatIsSaid, OpenStepsWriteWhatIsSaid}
use Rattle.free_laws.proofs.Reading.{held_alike}
use Rattle.free_laws.proofs.OneStep.{steps_read_what_is_said, steps_write_what_is_said}

-- ---- what an instruction may change

-- what it may change it is said to read or to write
change_is_said : (insn : Insn) (r : ℕ) → may_change insn r ≡ true → reads_or_writes (Some insn) r ≡ true
change_is_said insns.Ecall r e = or_left (not (r == 0) && true) (not (r == 0) && false) (and_from (not (r == 0)) true e refl)
change_is_said (insns.Vendor kind shift rd rs1 rs2) r e =
    or_left (reads (Some (insns.Vendor kind shift rd rs1 rs2)) r) (writes (Some (insns.Vendor kind shift rd rs1 rs2)) r) e
change_is_said insn r e = or_right (reads (Some insn) r) (writes (Some insn) r) e

-- what it is said to write it may change
write_changes : (insn : Insn) (r : ℕ) → writes (Some insn) r ≡ true → may_change insn r ≡ true
write_changes insns.Ecall r e = (and_parts (not (r == 0)) false e).0
write_changes (insns.Vendor kind shift rd rs1 rs2) r e = let none : false ≡ true = (and_parts (not (r == 0)) false e).1 in absurd cc
write_changes insn r e = e

-- what it keeps of what it is said to read or to write it reads
kept_is_read : (insn : Insn) (r : ℕ) → may_change insn r ≡ false → reads_or_writes (Some insn) r ≡ true → reads (Some insn) r ≡ true
kept_is_read insn r kept said = elim (or_cases (reads (Some insn) r) (writes (Some insn) r) said) [
  | inl read ↦ read
  | inr written ↦ absurd (both_ways (may_change insn r) kept (write_changes insn r written))
]

-- ---- a step of the surroundings

module _ (bytes : List ℕ) (surroundings : Surroundings) (one : State) (two : RegisterFile) (world : World) where
  twin : State
  twin = record one { registers = two }

  abbrev AgreeIn : Option Insn → Type 0
  AgreeIn insn = (r : ℕ) → r < 32 → IsTrue (reads insn r) → held one.registers r ≡ held two r

  -- they see the same registers
  seen_alike : (insn : Insn) → AgreeIn (Some insn) → seen_by insn one.registers ≡ seen_by insn two
  seen_alike insn agree = fun_ext (λ r. by r (nat_lt r 32) refl (has_source insn r) refl)
    where
      by : (r : ℕ) (low : Bool) → nat_lt r 32 ≡ low → (source : Bool) → has_source insn r ≡ source → cond (low && source) (held one.registers r) 0 ≡ cond (low && source) (held two r) 0
      by r true low true is = held_alike one.registers two r (λ some. agree r (ltb-true r 32 low) (and_from (not (r == 0)) (has_source insn r) (ap not some) is))
      by r true low false is = refl
      by r false low source is = refl

  -- so they are asked the same
  abbrev asking : Insn → RegisterFile → Asked
  asking insn values = record {
    address = one.pc;
    insn = insn;
    values = values;
    reservation = one.reservation;
    memory = world.memory;
  }

  asked_alike : (insn : Insn) → AgreeIn (Some insn) → question insn one world ≡ question insn twin world
  unfolding twin
  asked_alike insn agree = ap (asking insn) (seen_alike insn agree)

  -- and reply the same
  replied_alike : (insn : Insn) (values : RegisterFile) → AgreeIn (Some insn) → (r : ℕ) → r < 32 → IsTrue (reads_or_writes (Some insn) r)
      → held (with_answered insn one.registers values) r ≡ held (with_answered insn two values) r
  replied_alike insn values agree r low said = by (may_change insn r) refl
    where
      by : (changed : Bool) → may_change insn r ≡ changed → cond (r == 0) 0 (cond changed (values r % 2 ^ 64) (one.registers r)) ≡ cond (r == 0) 0 (cond changed (values r % 2 ^ 64) (two r))
      by true is = refl
      by false is = agree r low (kept_is_read insn r is said)

  reply_alike : (length : ℕ) (insn : Insn) (trap : Trap) (reply : Reply) → AgreeIn (Some insn)
      → OpenEndAlike (λ r. IsTrue (reads_or_writes (Some insn) r)) (after_reply length insn trap one reply) (after_reply length insn trap twin reply)
  unfolding twin
  reply_alike length insn trap Stops agree = OpenEndAlike.ended
  reply_alike length insn trap (Answers left values reservation) agree =
      OpenEndAlike.gone (record { pc = refl; reservation = refl; registers = replied_alike insn values agree })

  asked_step_alike : (length : ℕ) (insn : Insn) (trap : Trap) → AgreeIn (Some insn)
      → OpenEndAlike (λ r. IsTrue (reads_or_writes (Some insn) r)) (asked_step bytes surroundings length insn trap one world) (asked_step bytes surroundings length insn trap twin world)
  unfolding twin
  asked_step_alike length insn trap agree = either (is_asked bytes one.pc insn trap)
    where
      either : (b : Bool) → OpenEndAlike (λ r. IsTrue (reads_or_writes (Some insn) r))
          (cond b (after_reply length insn trap one (surroundings world.hidden (question insn one world))) (Ends trap))
          (cond b (after_reply length insn trap twin (surroundings world.hidden (question insn twin world))) (Ends trap))
      either true =
          subst (λ q. OpenEndAlike (λ r. IsTrue (reads_or_writes (Some insn) r)) (after_reply length insn trap one (surroundings world.hidden (question insn one world))) (after_reply length insn trap twin (surroundings world.hidden q)))
          (asked_alike insn agree) (reply_alike length insn trap (surroundings world.hidden (question insn one world)) agree)
      either false = OpenEndAlike.ended

  beyond_alike : (placed : Placed) (o : Option Insn) (trap : Trap) → AgreeIn o
      → OpenEndAlike (λ r. IsTrue (reads_or_writes o r)) (step_beyond bytes surroundings (record placed { insn = o }) trap one world) (step_beyond bytes surroundings (record placed { insn = o }) trap twin world)
  beyond_alike placed None trap agree = OpenEndAlike.ended
  beyond_alike placed (Some insn) trap agree = asked_step_alike placed.length insn trap agree

  -- ---- a step of either kind

  gone_alike : (a b : State) (left : Bytes) → AgreeIn (insn_of bytes one) → StepsTo bytes one world.memory a left → StepsTo bytes twin world.memory b left → Agree (λ r. IsTrue (writes (insn_of bytes one) r)) a b
      → Agree (λ r. IsTrue (reads_or_writes (insn_of bytes one) r)) a b
  unfolding twin
  gone_alike a b left agree goes too agreed = record {
    pc = agreed.pc;
    reservation = agreed.reservation;
    registers = λ r low said. elim (cases_Bool (writes (insn_of bytes one) r)) [
      | inl written ↦ agreed.registers r low written
      | inr kept ↦
          steps_write_what_is_said bytes one a world.memory left goes r low kept
          ∙ agree r low (is_read r said kept)
          ∙ sym (steps_write_what_is_said bytes twin b world.memory left too r low kept)
    ];
  }
    where
      is_read : (r : ℕ) → reads_or_writes (insn_of bytes one) r ≡ true → writes (insn_of bytes one) r ≡ false → reads (insn_of bytes one) r ≡ true
      is_read r said kept = elim (or_cases (reads (insn_of bytes one) r) (writes (insn_of bytes one) r) said) [
        | inl read ↦ read
        | inr written ↦ absurd (both_ways (writes (insn_of bytes one) r) kept written)
      ]

  from_alike : (o p : machine.Outcome) → step_of bytes one world.memory ≡ o → step_of bytes twin world.memory ≡ p → AgreeIn (insn_of bytes one) → EndAlike (λ r. IsTrue (writes (insn_of bytes one) r)) o p
      → OpenEndAlike (λ r. IsTrue (reads_or_writes (insn_of bytes one) r)) (step_from bytes surroundings o one world) (step_from bytes surroundings p twin world)
  unfolding twin
  from_alike o p is too agree (EndAlike.trapped {trap = trap}) = beyond_alike (placed_at bytes one.pc) (placed_at bytes one.pc).insn trap agree
  from_alike o p is too agree (EndAlike.gone {one = a} {other = b} {memory = left} agreed) = OpenEndAlike.gone (gone_alike a b left agree is too agreed)

  pub step_alike : AgreeIn (insn_of bytes one) → OpenEndAlike (λ r. IsTrue (reads_or_writes (insn_of bytes one) r)) (open_step bytes surroundings one world) (open_step bytes surroundings (record one { registers = two }) world)
  unfolding twin
  step_alike agree =
      from_alike (step_of bytes one world.memory) (step_of bytes twin world.memory) refl refl agree
      (steps_read_what_is_said bytes one twin world.memory (record { pc = refl; reservation = refl; registers = agree }))

pub open_steps_read_what_is_said : OpenStepsReadWhatIsSaid
open_steps_read_what_is_said bytes surroundings one other world agree =
    subst (λ (q : Option Reserved). OpenEndAlike (λ r. IsTrue (reads_or_writes (insn_of bytes one) r)) (open_step bytes surroundings one world) (open_step bytes surroundings (record { pc = other.pc; registers = other.registers; reservation = q }) world)) agree.reservation
    (subst (λ (p : ℕ). OpenEndAlike (λ r. IsTrue (reads_or_writes (insn_of bytes one) r)) (open_step bytes surroundings one world) (open_step bytes surroundings (record { pc = p; registers = other.registers; reservation = one.reservation }) world)) agree.pc
    (step_alike bytes surroundings one other.registers world agree.registers))

-- ---- what is kept

pub open_steps_write_what_is_said : OpenStepsWriteWhatIsSaid
open_steps_write_what_is_said bytes surroundings state after world left steps r low none = elim (open_step_is bytes surroundings state world after left steps) [
  | inl written ↦ steps_write_what_is_said bytes state after world.memory left.memory written.steps r low (or_parts (reads (insn_of bytes state) r) (writes (insn_of bytes state) r) none).1
  | inr answered ↦
      ap (λ (s : State). held s.registers r) answered.after_is
      ∙ ap (λ changed. cond (r == 0) 0 (cond changed (answered.values r % 2 ^ 64) (state.registers r)))
      (unchanged answered.insn (ap (λ o. reads_or_writes o r) (sym answered.stands) ∙ none))
]
  where
    unchanged : (insn : Insn) → reads_or_writes (Some insn) r ≡ false → may_change insn r ≡ false
    unchanged insn none = false_from_ne_true (may_change insn r) (λ changed. both_ways (reads_or_writes (Some insn) r) none (change_is_said insn r changed))
