-- Lines by their places in lists that rise.
use Rattle.std.specs.Prelude.{◌≡◌, ℕ, ◌+◌, ◌<◌, List, length, slice_index_or, All, AllPairs, IsSome}
use Rattle.cert_text.specs.declared.lines.ReturnLine.{ReturnLine}
use Rattle.cert_text.specs.declared.lines.LeadLine.{LeadLine}
use Rattle.cfg_model.specs.Program.Instructions.{InstructionMap}
use Rattle.numbered.specs.Numbering.{IsNumbering}
use Rattle.cert_laws.specs.Lines.{IsReturn}
use Rattle.cert_ends.specs.declared.numbered_returns.NumberedReturns.{NumberedReturns}

-- The lines rise by their addresses.
abbrev pub LeadsRise : List LeadLine → Type 0
LeadsRise leads = AllPairs (λ one other. one.at < other.at) leads

abbrev pub ReturnsRise : List ReturnLine → Type 0
ReturnsRise returns = AllPairs (λ one other. one.at < other.at) returns

-- Line number i is that of the leader a.
pub record IsPlace (leads : List LeadLine) (i a : ℕ) : Type 0 where
  pub within : i < length leads
  pub address : (d : LeadLine) → (slice_index_or leads i d).at ≡ a

-- The leaders rise, and an instruction stands at each.
pub record AreLeads (map : InstructionMap) (leads : List LeadLine) : Type 0 where
  pub rise : LeadsRise leads
  pub known : All (λ line. IsSome (map line.at)) leads

-- The place of the line with an address, as it is kept by the numbers of the addresses: from 1 on, or
-- 0 if there is none.
abbrev pub place_by : (ℕ → ℕ) → List ℕ → ℕ → ℕ
place_by number places a = slice_index_or places (number a) 0

-- The returns rise, and the line of each address of an instruction is found by the number of that.
pub record AreNumbered (map : InstructionMap) (number : ℕ → ℕ)
    (returns : NumberedReturns) : Type 0 where
  pub rise : ReturnsRise returns.lines.now
  pub numbering : IsNumbering map number (length returns.places.items)
  pub none : (a : ℕ) → IsSome (map a) → place_by number returns.places.items a ≡ 0
      → ¬ IsReturn returns.lines.now a
  pub some : (a i : ℕ) → IsSome (map a) → place_by number returns.places.items a ≡ i + 1
      → (i < length returns.lines.now)
      × ((d : ReturnLine) → (slice_index_or returns.lines.now i d).at ≡ a)
