-- A settled table of all leaders has their ranks and reasons.
use Rattle.std.proofs.Common.{◌≡◌, ℕ, zero, suc, ◌<◌, ◌≤◌, List, refl, sym, subst, ap, arith, ⊎_elim}
use Rattle.std.specs.Prelude.{All, Contains}
use Rattle.std.proofs.lemmas.Bool.{cases_lt}
use Rattle.std.proofs.lemmas.List.Elements.{All-contains}
use Rattle.cert_text.specs.declared.lines.LeadLine.{LeadLine}
use Rattle.cfg_model.specs.Program.Instructions.{InstructionMap}
use Rattle.cfg_model.specs.Graph.Leader.{IsLeader}
use Rattle.outline_funcs.proofs.Search.{one_by_key}
use Rattle.cert_laws.specs.Lines.{IsLead, IsLeadBelow}
use Rattle.cert_ends.specs.Places.{LeadsRise}
use Rattle.cert_make.specs.Reason.{LeadsFor}
use Rattle.cert_make.specs.Rank.{LeadsBelow}
use Rattle.cert_make.specs.Canonical.{IsLeadLine}
use Rattle.cert_make.specs.Inner.Settled.{IsSettledLead}
use Rattle.cert_make.proofs.Ranks.{leads_weaker}
use Rattle.cert_make.proofs.RankedLeads.{ranked_leads}

abbrev pub lead_at_of : LeadLine → ℕ
lead_at_of l = l.at

module _ (code : InstructionMap) (seeds : List ℕ) (lines : List LeadLine)
    (settled : All (IsSettledLead code seeds lines) lines)
    (among : (a : ℕ) → IsLeader code seeds a → IsLead lines a) where
  settled_line : (line : LeadLine) → Contains lines line → IsSettledLead code seeds lines line
  settled_line line listed = All-contains (IsSettledLead code seeds lines) lines line settled listed

  lower : (rank more a : ℕ) → rank ≤ more → IsLeadBelow lines rank a → IsLeadBelow lines more a
  lower rank more a le below = record { line = below.line; listed = below.listed; address = below.address; lower = let lt : below.line.rank < rank = below.lower in omega arith }

  -- a lower line has a lower rank
  up : (rank a : ℕ) → IsLeadBelow lines rank a → LeadsBelow code seeds rank a
  unfolding LeadsBelow
  up zero a below = let lt : below.line.rank < 0 = below.lower in absurd (omega arith)
  up (suc rank) a below =
      let line = below.line in
      let lt : line.rank < suc rank = below.lower in
      let fits : LeadsFor code seeds (IsLeadBelow lines line.rank) line.at line.why = (settled_line line below.listed).why.fits in
      let here : LeadsFor code seeds (IsLeadBelow lines line.rank) a line.why = subst (λ (x : ℕ). LeadsFor code seeds (IsLeadBelow lines line.rank) x line.why) below.address fits in
      (line.why, leads_weaker code seeds (IsLeadBelow lines line.rank) (LeadsBelow code seeds rank) (λ p h. up rank p (lower line.rank rank p (omega arith) h)) a line.why here)

  -- a leader with a rank is listed with it
  down : (rank a : ℕ) → LeadsBelow code seeds rank a → IsLeadBelow lines rank a
  unfolding LeadsBelow
  down zero a below = absurd below
  down (suc rank) a below =
      let found = among a (ranked_leads code seeds (suc rank) a below) in
      let line = found.line in
      let why : LeadsFor code seeds (IsLeadBelow lines rank) a below.0 = leads_weaker code seeds (LeadsBelow code seeds rank) (IsLeadBelow lines rank) (down rank) a below.0 below.1 in
      let there : LeadsFor code seeds (IsLeadBelow lines rank) line.at below.0 = subst (λ (x : ℕ). LeadsFor code seeds (IsLeadBelow lines rank) x below.0) (sym found.address) why in
      ⊎_elim
      (λ lt. absurd ((settled_line line found.listed).least rank below.0 lt there))
      (λ le. record { line = line; listed = found.listed; address = found.address; lower = omega arith })
      (cases_lt rank line.rank)

  pub right_leads : LeadsRise lines → (line : LeadLine) → Contains lines line → IsLeadLine code seeds line
  right_leads rising line listed = record {
    rank = record {
      has = up (suc line.rank) line.at (record { line = line; listed = listed; address = refl; lower = omega arith });
      least = λ below.
          let h = down line.rank line.at below in
          let same : h.line ≡ line = one_by_key lead_at_of lines rising h.line line h.listed listed h.address in
          let lt : h.line.rank < line.rank = h.lower in
          let e : h.line.rank ≡ line.rank = ap (λ (l : LeadLine). l.rank) same in
          absurd (omega arith);
    };
    why = record {
      fits = leads_weaker code seeds (IsLeadBelow lines line.rank) (LeadsBelow code seeds line.rank) (up line.rank) line.at line.why (settled_line line listed).why.fits;
      first = λ why fits. (settled_line line listed).why.first why (leads_weaker code seeds (LeadsBelow code seeds line.rank) (IsLeadBelow lines line.rank) (down line.rank) line.at why fits);
    };
  }
