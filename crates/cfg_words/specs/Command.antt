-- The words of the command line as one simple command of clap, by clap's own definitions.
use Rattle.std.specs.Prelude.{Bool, true, List, Option, Some, codes}
use Rattle.clap.specs.Walk.{Rule, Text, first_of, is_empty}
use Rattle.clap.specs.Simple.{App, new_app, new_rule, with_rule, on_top, matches_of}
use Rattle.clap.specs.Faults.{fault_of}

-- An option that takes a text: `--name TEXT` or `--name=TEXT`.
abbrev pub option_rule : Text → Rule
option_rule name = record (new_rule name) { long = Some name }

-- A command without arguments, which knows neither `--help` nor `--version`.
abbrev pub bare_app : App
bare_app = on_top (λ s. record s { disable_help_flag = true }) (new_app (codes "cfg"))

-- The command: three options that take a text, and FILE. Nothing is required, has a default or may
-- be repeated.
unfoldable pub cfg_app : App
cfg_app = with_rule (with_rule
    (with_rule (with_rule bare_app (option_rule (codes "workers"))) (option_rule (codes "report")))
    (option_rule (codes "make"))) (new_rule (codes "file"))

-- Clap finds no fault in the words.
unfoldable pub is_taken : List Text → Bool
is_taken words = is_empty (fault_of cfg_app words)

-- The text that clap finds for an argument; none if the words do not give it.
unfoldable pub text_of : List Text → Text → Option Text
text_of words name = first_of name (matches_of cfg_app words)
