-- The line that reports why a run failed.
use Rattle.std.specs.Prelude.{ℕ, List, ◌++◌, codes}

-- The program's name, what happened, and the detail of it, such as a fault's name.
abbrev pub failure_line : List ℕ → List ℕ → List ℕ → List ℕ
failure_line program text detail = (program ++ codes ": ") ++ (text ++ detail) ++ codes "\n"
