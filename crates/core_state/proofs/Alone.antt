-- The chain of an address without an instruction is that address alone.
use Rattle.std.proofs.Common.{◌≡◌, ℕ, refl, arith}
use Rattle.std.specs.Prelude.{Option, Some, None, IsSome}
use Rattle.std.specs.Option.{option_map}
use Rattle.cfg_model.specs.declared.flow.Flow.{Flow}
use Rattle.cfg_model.specs.declared.flow.Flow.TheVariants.{Straight}
use Rattle.cfg_model.specs.Program.Instructions.{InstructionMap, Instruction}
use Rattle.cfg_model.specs.Program.Chain.{OnChain}
use Rattle.cfg_model.specs.Program.Meeting.{IsMeeting}

has_one : (o : Option Instruction) (flow : Flow) → option_map (λ i. i.flow) o ≡ Some flow → IsSome o
has_one None flow e = cc
has_one (Some i) flow e = refl

alone : {map : InstructionMap} {p k : ℕ} → OnChain map p k → ¬ IsSome (map p) → k ≡ p
alone OnChain.here none = refl
alone {map} (OnChain.on {a = a} {next = next} goes rest) none = absurd (none (has_one (map a) (Straight next) goes))

pub meet_first : (map : InstructionMap) (p q k : ℕ) → OnChain map p k → OnChain map q k → ¬ IsSome (map p) → IsMeeting map p q k
meet_first map p q k first second none = record {
  on_first = first;
  on_second = second;
  least = λ x there _. let e = alone there none in let f = alone first none in omega (arith, e, f);
}

pub meet_second : (map : InstructionMap) (p q k : ℕ) → OnChain map p k → OnChain map q k → ¬ IsSome (map q) → IsMeeting map p q k
meet_second map p q k first second none = record {
  on_first = first;
  on_second = second;
  least = λ x _ there. let e = alone there none in let f = alone second none in omega (arith, e, f);
}
