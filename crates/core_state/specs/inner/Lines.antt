-- The starts of a shard in lines of 64 bytes, each with a bit for each of its addresses.
use Rattle.std.specs.Prelude.{◌≡◌, ◌==◌, ◌+◌, ◌*◌, ◌/◌, ◌%◌, ◌<◌, ℕ, zero, suc, List, [], ◌∷◌, max}
use Rattle.std.specs.Prelude.{Option, Some, None, IsSome, if◌then◌else◌}
use Rattle.std.specs.Int.{bit_at}
use Rattle.std.specs.Option.{option_and_then}
use Rattle.std.specs.Ordering.{nat_cmp}
use Rattle.std.specs.FinMap as maps
use Rattle.builder_model.specs.declared.state.Mark.{Mark}
use Rattle.builder_model.specs.declared.state.Mark.TheVariants as marks
use Rattle.builder_model.specs.State.{StartMap}
use Rattle.builder_model.specs.Left.{Work}
use Rattle.core_state.specs.declared.answer.Name.{Name}
use Rattle.core_state.specs.declared.line.Line.{Line}
use Rattle.core_state.specs.Work.{work_of}

-- The first address of the line that a lies in.
abbrev pub first_of : ℕ → ℕ
first_of a = a / 64 * 64

-- The mark of the address i bytes after the first one of a line; none if it is no start.
abbrev pub mark_in : Line → ℕ → Option Mark
mark_in line i =
    if bit_at line.starts i == 1 then Some (if bit_at line.parsed i == 1 then marks.Parsed else marks.Wanted)
    else None

-- The mark of an address by the lines, each of which stands at its first address.
abbrev pub mark_at : maps.FinMap nat_cmp Line → ℕ → Option Mark
mark_at lines a = option_and_then (λ line. mark_in line (a % 64)) (maps.get lines (first_of a))

-- The marks of the addresses below n, by what tells the mark of each.
abbrev pub with_mark : StartMap → ℕ → Option Mark → StartMap
with_mark starts a None = starts
with_mark starts a (Some mark) = maps.insert starts a mark

abbrev pub marks_below : (ℕ → Option Mark) → ℕ → StartMap
marks_below mark zero = maps.empty
marks_below mark (suc n) = with_mark (marks_below mark n) n (mark n)

-- The first address after all of these lines.
abbrev pub end_of : List (ℕ × Line) → ℕ
end_of [] = 0
end_of (e ∷ es) = max (e.0 + 64) (end_of es)

-- The starts of these lines.
abbrev pub starts_of : maps.FinMap nat_cmp Line → StartMap
starts_of lines = marks_below (mark_at lines) (end_of (maps.entries lines))

-- Each line stands at its first address, and has a start.
pub record IsLine (first : ℕ) (line : Line) : Type 0 where
  pub at_first : first ≡ first_of first
  pub start : ℕ
  pub inside : start < 64
  pub has : IsSome (mark_in line start)

abbrev pub AreLines : maps.FinMap nat_cmp Line → Type 0
AreLines lines = (first : ℕ) (line : Line) → maps.get lines first ≡ Some line → IsLine first line

-- t lies in the line of a; it does not if there is no a.
abbrev pub IsInLine : Option ℕ → ℕ → Type 0
IsInLine None t = ⊥
IsInLine (Some a) t = t / 64 ≡ a / 64

-- A start of the line at this address is wanted, and the name is that of its work.
pub record LeftInLine (first : ℕ) (line : Line) (name : Name) : Type 0 where
  pub start : ℕ
  pub wanted : mark_in line (start % 64) ≡ Some marks.Wanted
  pub lies : start / 64 ≡ first / 64
  pub named : work_of name ≡ Work.Parse start
