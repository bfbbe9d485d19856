-- A program given as lists, and tests of the lists that say that it is a lawful one with these
-- seeds.
use Rattle.std.specs.Prelude.{ℕ, ◌+◌, ◌^◌, ◌==◌, nat_lt, suc, Bool, true, false, ◌&&◌, ◌||◌}
use Rattle.std.specs.Prelude.{List, [], ◌∷◌, length, Option, Some, None, is_some, slice_index_or}
use Rattle.std.specs.List.{list_all}
use Rattle.std.specs.Option.{option_map}
use Rattle.cfg_model.specs.declared.flow.Flow.{Flow}
use Rattle.cfg_model.specs.declared.flow.Flow.TheVariants.{Straight, Table}
use Rattle.cfg_model.specs.Program.Instructions.{InstructionMap, named_by}

-- What stands at an address: the length and the flow of an instruction, or nothing.
abbrev pub Place : Type 0
Place = Option (ℕ × Flow)

-- What stands at address a: item a of the list, if it is that long.
abbrev pub slot_at : List Place → ℕ → Place
slot_at slots a = slice_index_or slots a None

-- The kept targets of a flow, if every table jump keeps these, and no call has a landing pad.
abbrev pub kept_by : List ℕ → Flow → List ℕ
kept_by targets (Table entries full is_open) = targets
kept_by targets _ = []

-- The program whose instruction at address a is item a of the list.
abbrev pub listed_at : List Place → List ℕ → InstructionMap
listed_at slots targets a =
    option_map (λ s. record { bytes = s.0; flow = s.1; targets = kept_by targets s.1 })
    (slot_at slots a)

-- Test that instructions stand at all these addresses.
abbrev pub are_known : List Place → List ℕ → List ℕ → Bool
are_known slots targets named = list_all (λ b. is_some (listed_at slots targets b)) named

-- Test that the flow of an instruction that ends at this address fits it: a straight one goes on
-- there, and a table jump keeps the number of targets that it says, at least one.
abbrev pub flow_fits : List ℕ → ℕ → Flow → Bool
flow_fits targets end (Straight next) = next == end
flow_fits targets end (Table entries full is_open) = (entries == length targets) && nat_lt 0 entries
flow_fits targets end _ = true

-- Test of one address: an instruction there has 2 or 4 bytes and ends below 2^64, its flow fits it,
-- and it leads to instructions alone.
abbrev pub slot_fits : List Place → List ℕ → ℕ → Place → Bool
slot_fits slots targets a None = true
slot_fits slots targets a (Some s) =
    ((s.0 == 2) || (s.0 == 4)) && nat_lt (a + s.0) (2 ^ 64) && flow_fits targets (a + s.0) s.1
    && are_known slots targets (named_by s.1) && are_known slots targets (kept_by targets s.1)

-- The same of each address from a on.
abbrev pub slots_fit : List Place → List ℕ → ℕ → List Place → Bool
slots_fit slots targets a [] = true
slots_fit slots targets a (s ∷ rest) =
    slot_fits slots targets a s && slots_fit slots targets (suc a) rest

-- Test that the program is lawful.
abbrev pub are_lawful : List Place → List ℕ → Bool
are_lawful slots targets = slots_fit slots targets 0 slots

-- Test that the addresses rise, from above a.
abbrev pub rises_from : ℕ → List ℕ → Bool
rises_from a [] = true
rises_from a (b ∷ rest) = nat_lt a b && rises_from b rest

-- Test that these are seeds of the program: they rise, there is one, and instructions stand there.
abbrev pub are_seeds : List Place → List ℕ → List ℕ → Bool
are_seeds slots targets [] = false
are_seeds slots targets (a ∷ rest) =
    rises_from a rest && are_known slots targets (a ∷ rest)
