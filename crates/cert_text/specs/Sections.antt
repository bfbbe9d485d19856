-- What is read from the front of the bytes, line after line. These are words of private functions;
-- of public contracts only one clause of `parse` cites one of them, `Gives`.
use Rattle.std.specs.Prelude.{◌≡◌, ℕ, ◌-◌, ◌<◌, List, ◌++◌, length, map, slice_index, Option, None}
use Rattle.std.specs.Prelude.{Result, IfSome, MatchResult, codes}
use Rattle.std.specs.List.{flat_map, AllByRecursion}
use Rattle.std.specs.List.Sorted.{IsStrictlyIncreasing}
use Rattle.cert_text.specs.declared.lines.ReturnLine.{ReturnLine}
use Rattle.cert_text.specs.declared.lines.LeadLine.{LeadLine}
use Rattle.cert_text.specs.declared.certificate.Part.{Part}
use Rattle.cert_text.specs.declared.error.TextError.{TextError}
use Rattle.cert_text.specs.declared.error.TextError.TheVariants.{Memory}
use Rattle.cert_text.specs.Line.{return_line, lead_line}
use Rattle.cert_text.specs.Text.{ReturnFits, LeadFits, part_text, cut_text, PartRises, PartFits}
use Rattle.cert_text.specs.Reading.{after}

-- The bytes are these lines and the rest; the lines rise by their addresses.
pub record IsSection {X : Type 0} (text_of : X → List ℕ) (at : X → ℕ) (FitsLine : X → Type 0)
    (bytes : List ℕ) (lines : List X) (rest : List ℕ) : Type 0 where
  pub text : bytes ≡ flat_map text_of lines ++ rest
  pub rises : IsStrictlyIncreasing (map at lines)
  pub fits : AllByRecursion FitsLine lines

abbrev pub IsReturns : List ℕ → List ReturnLine → List ℕ → Type 0
IsReturns = IsSection return_line (λ l. l.at) ReturnFits

abbrev pub IsLeads : List ℕ → List LeadLine → List ℕ → Type 0
IsLeads = IsSection lead_line (λ l. l.at) LeadFits

-- The last number is below this one.
abbrev pub EndsBelow : List ℕ → ℕ → Type 0
EndsBelow xs a = 0 < length xs → slice_index xs (length xs - 1) < a

-- The bytes are the lines of this part and the rest.
pub record IsPart (bytes : List ℕ) (part : Part) (rest : List ℕ) : Type 0 where
  pub text : bytes ≡ part_text part ++ rest
  pub rises : PartRises part
  pub fits : PartFits part

-- No line stands here.
pub record StopsLines (rest : List ℕ) : Type 0 where
  pub no_return : after (codes "ret") rest ≡ None
  pub no_lead : after (codes "lead") rest ≡ None

-- The bytes are this second part, if it is one, and the rest.
pub record IsCut (bytes : List ℕ) (cut : Option Part) (rest : List ℕ) : Type 0 where
  pub text : bytes ≡ cut_text cut ++ rest
  pub rises : IfSome cut PartRises
  pub fits : IfSome cut PartFits

-- A call gives this value, or want of memory.
abbrev pub Gives : {X : Type 0} → Result X TextError → X → Type 0
Gives result value = MatchResult result (λ x. x ≡ value) (λ e. e ≡ Memory)

-- A call gives this value and leaves these bytes, or want of memory.
abbrev pub GivesBoth : {X Y : Type 0} → (X → Y) → (X → List ℕ) → Result X TextError → Y → List ℕ → Type 0
GivesBoth value left result x rest =
    MatchResult result (λ r. (value r ≡ x) × (left r ≡ rest)) (λ e. e ≡ Memory)
