-- The lines of a certificate's text, one definition a form (this project's profile).
use Rattle.std.specs.Prelude.{ℕ, List, ◌++◌, codes, decimal}
use Rattle.graph_report.specs.Number.{address_digits}
use Rattle.cert_text.specs.declared.lines.ReturnLine.{ReturnLine}
use Rattle.cert_text.specs.declared.lines.ReturnWhy.{ReturnWhy}
use Rattle.cert_text.specs.declared.lines.ReturnWhy.TheVariants.{Itself, To, CallBoth}
use Rattle.cert_text.specs.declared.lines.LeadLine.{LeadLine}
use Rattle.cert_text.specs.declared.lines.LeadWhy.{LeadWhy}
use Rattle.cert_text.specs.declared.lines.LeadWhy.TheVariants.{Seed, From, Join}

-- An address, with a space in front of its sixteen digits.
abbrev pub address_field : ℕ → List ℕ
address_field a = codes " " ++ address_digits a

-- What a line begins with: its word, its address and its rank.
abbrev pub line_front : List ℕ → ℕ → ℕ → List ℕ
line_front word at rank = word ++ address_field at ++ codes " " ++ decimal rank

-- Why a terminator returns, to the end of its line.
abbrev pub return_reason : ReturnWhy → List ℕ
return_reason Itself = codes " self\n"
return_reason (To target) = codes " to" ++ address_field target ++ codes "\n"
return_reason CallBoth = codes " call\n"

-- The line of a terminator that returns.
abbrev pub return_line : ReturnLine → List ℕ
return_line l = line_front (codes "ret") l.at l.rank ++ return_reason l.why

-- Why an address is a leader, to the end of its line.
abbrev pub lead_reason : LeadWhy → List ℕ
lead_reason Seed = codes " seed\n"
lead_reason (From lead) = codes " from" ++ address_field lead ++ codes "\n"
lead_reason (Join first second) =
    codes " join" ++ address_field first ++ address_field second ++ codes "\n"

-- The line of a leader.
abbrev pub lead_line : LeadLine → List ℕ
lead_line l = line_front (codes "lead") l.at l.rank ++ lead_reason l.why
