-- A board for where none is.
use Rattle.std.specs.Prelude.{[]}
use Rattle.board.specs.Slots.{BoardId}

-- No board has this table.
abbrev pub no_board : BoardId
no_board = record {
  words = 0;
  slots = 0;
  views_name = 0;
  atom = 0;
  block = 0;
  offset = 0;
  slot_names = [];
}
