-- How the table of a board lies.
use Rattle.std.specs.Prelude.{◌≡◌}
use Rattle.board.specs.Slots.{BoardId}

abbrev pub IsLaid : BoardId → Type 0
IsLaid id = (id.slots ≡ 192) × (id.words ≡ 1544)
