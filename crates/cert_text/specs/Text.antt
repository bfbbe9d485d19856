-- The text of a certificate, and which certificates have one.
use Rattle.std.specs.Prelude.{◌≡◌, ℕ, ◌<◌, ◌^◌, List, [], ◌++◌, map, Option, Some, None, IfSome, codes}
use Rattle.std.specs.List.{flat_map, AllByRecursion}
use Rattle.std.specs.List.Sorted.{IsStrictlyIncreasing}
use Rattle.cert_text.specs.declared.lines.ReturnLine.{ReturnLine}
use Rattle.cert_text.specs.declared.lines.ReturnWhy.{ReturnWhy}
use Rattle.cert_text.specs.declared.lines.ReturnWhy.TheVariants.{Itself, To, CallBoth}
use Rattle.cert_text.specs.declared.lines.LeadLine.{LeadLine}
use Rattle.cert_text.specs.declared.lines.LeadWhy.{LeadWhy}
use Rattle.cert_text.specs.declared.lines.LeadWhy.TheVariants.{Seed, From, Join}
use Rattle.cert_text.specs.declared.certificate.Part.{Part}
use Rattle.cert_text.specs.declared.certificate.Certificate.{Certificate}
use Rattle.cert_text.specs.Line.{return_line, lead_line}

-- The lines of a part: its returns, then its leaders.
abbrev pub part_text : Part → List ℕ
part_text part = flat_map return_line part.returns ++ flat_map lead_line part.leads

-- The second part with its heading, if there is one.
abbrev pub cut_text : Option Part → List ℕ
cut_text None = []
cut_text (Some part) = codes "part cuts\n" ++ part_text part

-- The whole text.
abbrev pub certificate_text : Certificate → List ℕ
certificate_text c =
    codes "cfg-cert 1\n"
    ++ codes "part none\n" ++ part_text c.part
    ++ cut_text c.second
    ++ codes "end\n"

-- A number of 64 bits.
abbrev pub IsWord : ℕ → Type 0
IsWord n = n < 2 ^ 64

-- The numbers of a line are 64-bit numbers.
abbrev pub ReturnWhyFits : ReturnWhy → Type 0
ReturnWhyFits Itself = Unit {0}
ReturnWhyFits (To target) = IsWord target
ReturnWhyFits CallBoth = Unit {0}

pub record ReturnFits (l : ReturnLine) : Type 0 where
  pub at : IsWord l.at
  pub rank : IsWord l.rank
  pub why : ReturnWhyFits l.why

abbrev pub LeadWhyFits : LeadWhy → Type 0
LeadWhyFits Seed = Unit {0}
LeadWhyFits (From lead) = IsWord lead
LeadWhyFits (Join first second) = IsWord first × IsWord second

pub record LeadFits (l : LeadLine) : Type 0 where
  pub at : IsWord l.at
  pub rank : IsWord l.rank
  pub why : LeadWhyFits l.why

-- Each list of a part rises by its addresses, without repeats.
pub record PartRises (part : Part) : Type 0 where
  pub returns : IsStrictlyIncreasing (map (λ l. l.at) part.returns)
  pub leads : IsStrictlyIncreasing (map (λ l. l.at) part.leads)

pub record Rises (c : Certificate) : Type 0 where
  pub part : PartRises c.part
  pub second : IfSome c.second PartRises

-- The numbers of a part are 64-bit numbers.
pub record PartFits (part : Part) : Type 0 where
  pub returns : AllByRecursion ReturnFits part.returns
  pub leads : AllByRecursion LeadFits part.leads

pub record Fits (c : Certificate) : Type 0 where
  pub part : PartFits c.part
  pub second : IfSome c.second PartFits

-- These bytes are the text of this certificate, a text in which the lists rise and the numbers have
-- 64 bits.
pub record IsTextOf (bytes : List ℕ) (c : Certificate) : Type 0 where
  pub text : bytes ≡ certificate_text c
  pub rises : Rises c
  pub fits : Fits c
