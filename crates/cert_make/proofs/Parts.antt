-- The canonical part, from its two lists.
use Rattle.std.proofs.Common.{◌≡◌, ℕ, ◌↔◌, List, get_or, sym, subst}
use Rattle.std.specs.Prelude.{All, Contains, IsSome}
use Rattle.std.proofs.lemmas.List.Elements.{Contains-get_or}
use Rattle.cert_text.specs.declared.lines.ReturnLine.{ReturnLine}
use Rattle.cert_text.specs.declared.lines.LeadLine.{LeadLine}
use Rattle.cfg_model.specs.Program.Instructions.{InstructionMap, IsLawful}
use Rattle.cfg_model.specs.Program.Chain.{IsTerminator}
use Rattle.cfg_model.specs.Program.Reach.{AreSeeds}
use Rattle.cfg_model.specs.Graph.Leader.{IsLeader}
use Rattle.cfg_model.proofs.Graphs.Places.{reached_known}
use Rattle.cert_laws.specs.Lines.{IsReturn}
use Rattle.cert_ends.specs.Places.{ReturnsRise}
use Rattle.cert_ends.proofs.Adjacent.{rise_on}
use Rattle.cert_ends.proofs.Placed.{no_return}
use Rattle.cert_make.specs.Canonical.{IsReturnLine, IsLeadLine, ListsLines, ReturnsReached, IsCanonical}
use Rattle.cert_make.proofs.Rows.{at_of}
use Rattle.cert_make.proofs.ExactLeads.{lead_at_of}

module _ (code : InstructionMap) (seeds : List ℕ) where
  pub all_end : (returns : List ℕ) → ((k : ℕ) → Contains returns k ↔ ReturnsReached code seeds k) → All (IsTerminator code) returns
  all_end returns exact i d lt = ((exact (get_or returns i d)).0 (Contains-get_or returns i d lt)).ends

  pub all_known : (leaders : List ℕ) → IsLawful code → AreSeeds code seeds → ((a : ℕ) → Contains leaders a ↔ IsLeader code seeds a) → All (λ a. IsSome (code a)) leaders
  all_known leaders lawful are exact i d lt = reached_known lawful are ((exact (get_or leaders i d)).0 (Contains-get_or leaders i d lt)).reached

  abbrev pub Returns : List ReturnLine → Type 0
  Returns lines = ListsLines at_of (ReturnsReached code seeds) (IsReturnLine code) lines

  abbrev pub Leads : List LeadLine → Type 0
  Leads lines = ListsLines lead_at_of (IsLeader code seeds) (IsLeadLine code seeds) lines

  pub listed_rise : (lines slice : List ReturnLine) → Returns lines → slice ≡ lines → ReturnsRise slice
  listed_rise lines slice are is = subst ReturnsRise (sym is) (rise_on at_of lines no_return are.rises)

  pub listed_returns : (lines slice : List ReturnLine) → Returns lines → slice ≡ lines → (k : ℕ) → IsReturn slice k ↔ ReturnsReached code seeds k
  listed_returns lines slice are is k = (
    λ back. subst (ReturnsReached code seeds) back.address (are.among back.line (subst (λ (ls : List ReturnLine). Contains ls back.line) is back.listed)),
    λ here.
        let found = are.complete k here in
        record { line = found.0; listed = subst (λ (ls : List ReturnLine). Contains ls found.0) (sym is) found.1; address = found.2 },
  )

  pub part_is : (returns more : List ReturnLine) (leads others : List LeadLine) → Returns returns → Leads leads → more ≡ returns → others ≡ leads → IsCanonical code seeds (record { returns = more; leads = others })
  part_is returns more leads others are also is same = record { returns = subst Returns (sym is) are; leads = subst Leads (sym same) also }
