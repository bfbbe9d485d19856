-- How tables of eight-byte entries are cut, and how a block ends that goes through an open table.
use Rattle.std.proofs.Common.{◌≡◌, ℕ, ◌-◌, ◌/◌, true, false, refl, arith}
use Rattle.std.proofs.Math.Nat.{le-max_left}
use Rattle.cfg_model.specs.declared.flow.Flow.TheVariants.{Table}
use Rattle.cfg_model.specs.declared.graph.EndKind.TheVariants as ends
use Rattle.cfg_model.specs.Program.Cuts.{Extent, Tables, IsCutTo, kept_before}
use Rattle.cfg_model.specs.Graph.Block.{end_kind}

-- What lies in front of another base counts in whole entries, and the first always.

abbrev addresses : Extent
addresses = record { base = 0x20000; width = 8; count = 3 }

pub half_an_entry : kept_before addresses 0x20004 ≡ 1
half_an_entry = refl

pub two_and_a_half : kept_before addresses 0x20014 ≡ 2
two_and_a_half = refl

-- So a table of one entry is not cut, wherever another begins in it.
pub one_entry_not_cut : (tables : Tables) (j kept : ℕ) (cut : IsCutTo tables j kept) → cut.table.count ≡ 1 → ⊥
one_entry_not_cut tables j kept cut one =
    omega (arith, one, cut.fewer, cut.entries, le-max_left 1 ((cut.base - cut.table.base) / cut.table.width))

-- A jump through an open table ends its block in one way, whether the table was cut or not.
pub open_whole : end_kind (Table 2 true true) ≡ ends.TableOpen
open_whole = refl

pub open_cut : end_kind (Table 1 false true) ≡ ends.TableOpen
open_cut = refl

pub bounded_cut : end_kind (Table 1 false false) ≡ ends.TableCut
bounded_cut = refl
