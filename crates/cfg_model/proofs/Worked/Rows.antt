-- The code of some worked examples, as maps from addresses to instructions. Only instructions that are
-- reached stand in them.
use Rattle.std.proofs.Common.{◌≡◌, ℕ, ◌+◌, ◌<◌, ◌^◌, Bool, true, false, List, [], ◌∷◌, refl, sym, subst₂, arith}
use Rattle.std.proofs.lemmas.Bool.{eqb-true}
use Rattle.std.specs.List.{AllByRecursion}
use Rattle.std.proofs.lemmas.List.Elements.{All-from_recursion}
use mathlib.Core.Logic.{inl, inr}
use Rattle.std.specs.Prelude.{◌⊎◌, Some, None, IsSome, ◌==◌, if◌then◌else◌}
use Rattle.cfg_model.specs.declared.flow.Flow.{Flow}
use Rattle.cfg_model.specs.declared.flow.Flow.TheVariants.{Straight, Branch, Call, Return}
use Rattle.cfg_model.specs.Program.Instructions.{InstructionMap, Instruction, FlowFits, named_by, IsLawful, IsLawfulAt}

-- the instruction at an address of a list
abbrev pub placed : List (ℕ × Instruction) → InstructionMap
placed [] a = None
placed (e ∷ es) a = if a == e.0 then Some e.1 else placed es a

abbrev pub plain : ℕ → Flow → Instruction
plain bytes flow = record { bytes = bytes; flow = flow; targets = [] }

-- Row 8: the branch at 10004 goes to 10002, in the middle of the instruction at 10000.
abbrev pub row_8_code : List (ℕ × Instruction)
row_8_code =
    (0x10000, plain 4 (Straight 0x10004)) ∷ (0x10002, plain 2 (Straight 0x10004))
    ∷ (0x10004, plain 4 (Branch (Some 0x10002) (Some 0x10008))) ∷ (0x10008, plain 4 Return) ∷ []

abbrev pub row_8 : InstructionMap
row_8 = placed row_8_code

-- Row 9: a function that calls itself, and would return after that.
abbrev pub row_9_code : List (ℕ × Instruction)
row_9_code = (0x10000, plain 4 (Call 0x10000 (Some 0x10004))) ∷ (0x10004, plain 4 Return) ∷ []

abbrev pub row_9 : InstructionMap
row_9 = placed row_9_code

-- Row 10: two functions that call each other, of which the first may return at once.
abbrev pub row_10_code : List (ℕ × Instruction)
row_10_code =
    (0x10000, plain 4 (Branch (Some 0x10008) (Some 0x10004))) ∷ (0x10004, plain 4 (Call 0x1000c (Some 0x10008)))
    ∷ (0x10008, plain 4 Return) ∷ (0x1000c, plain 4 (Call 0x10000 (Some 0x10010))) ∷ (0x10010, plain 4 Return) ∷ []

abbrev pub row_10 : InstructionMap
row_10 = placed row_10_code

placed_cases : (e : ℕ × Instruction) (es : List (ℕ × Instruction)) (a : ℕ) (i : Instruction) (b : Bool) → (a == e.0) ≡ b → (if b then Some e.1 else placed es a) ≡ Some i → ((e.0 ≡ a) × (e.1 ≡ i)) ⊎ (placed es a ≡ Some i)
placed_cases e es a i true t h = inl (sym (eqb-true a e.0 t), cc)
placed_cases e es a i false t h = inr h

-- what holds of each instruction of a list holds of each of the map
pub each_placed : (P : ℕ → Instruction → Type 0) (es : List (ℕ × Instruction)) → AllByRecursion (λ e. P e.0 e.1) es → (a : ℕ) (i : Instruction) → placed es a ≡ Some i → P a i
each_placed P [] all a i h = cc
each_placed P (e ∷ es) all a i h =
    elim (placed_cases e es a i (a == e.0) refl h) [
      | inl same ↦ subst₂ P same.0 same.1 all.0
      | inr later ↦ each_placed P es all.1 a i later
    ]

-- an instruction that keeps no table targets is lawful if its fields are
lawful : (map : InstructionMap) (a bytes : ℕ) (flow : Flow) → (bytes ≡ 2) ⊎ (bytes ≡ 4) → a + bytes < 2 ^ 64 → FlowFits a (plain bytes flow) flow → AllByRecursion (λ b. IsSome (map b)) (named_by flow) → IsLawfulAt map a (plain bytes flow)
lawful map a bytes flow size ends fits named = record { size = size; ends = ends; fits = fits; named = All-from_recursion _ _ named; kept = All-from_recursion _ [] tt }

-- the maps of the examples are lawful
pub row_8_lawful : IsLawful row_8
row_8_lawful =
    each_placed (λ a i. IsLawfulAt row_8 a i) row_8_code (
      lawful row_8 _ _ _ (inr refl) (omega arith) (refl, refl) (refl, tt),
      (
        lawful row_8 _ _ _ (inl refl) (omega arith) (refl, refl) (refl, tt),
        (
          lawful row_8 _ _ _ (inr refl) (omega arith) refl (refl, (refl, tt)),
          (lawful row_8 _ _ _ (inr refl) (omega arith) refl tt, tt),
        ),
      ),
    )

pub row_9_lawful : IsLawful row_9
row_9_lawful =
    each_placed (λ a i. IsLawfulAt row_9 a i) row_9_code (
      lawful row_9 _ _ _ (inr refl) (omega arith) (omega arith) (refl, (refl, tt)),
      (lawful row_9 _ _ _ (inr refl) (omega arith) refl tt, tt),
    )

pub row_10_lawful : IsLawful row_10
row_10_lawful =
    each_placed (λ a i. IsLawfulAt row_10 a i) row_10_code (
      lawful row_10 _ _ _ (inr refl) (omega arith) refl (refl, (refl, tt)),
      (
        lawful row_10 _ _ _ (inr refl) (omega arith) (omega arith) (refl, (refl, tt)),
        (
          lawful row_10 _ _ _ (inr refl) (omega arith) refl tt,
          (
            lawful row_10 _ _ _ (inr refl) (omega arith) (omega arith) (refl, (refl, tt)),
            (lawful row_10 _ _ _ (inr refl) (omega arith) refl tt, tt),
          ),
        ),
      ),
    )
