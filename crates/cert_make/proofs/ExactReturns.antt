-- A settled table of all terminators that return has their ranks and reasons.
use Rattle.std.proofs.Common.{◌≡◌, ℕ, zero, suc, ◌<◌, ◌≤◌, List, refl, sym, subst, ap, arith, ⊎_elim}
use Rattle.std.specs.Prelude.{All, Contains}
use Rattle.std.proofs.lemmas.Bool.{cases_lt}
use Rattle.std.proofs.lemmas.List.Elements.{All-contains}
use Rattle.cert_text.specs.declared.lines.ReturnLine.{ReturnLine}
use Rattle.cert_text.specs.declared.lines.ReturnWhy.{ReturnWhy}
use Rattle.cert_text.specs.declared.lines.ReturnWhy.TheVariants.{Itself, To, CallBoth}
use Rattle.cfg_model.specs.Program.Instructions.{InstructionMap}
use Rattle.cfg_model.specs.Program.Reach.{Reached}
use Rattle.cfg_model.specs.Program.Status.{Returns}
use Rattle.cfg_model.proofs.Program.Along.{returns_along}
use Rattle.cfg_model.proofs.Graphs.LeaderFacts.{reached_along}
use Rattle.outline_funcs.proofs.Search.{one_by_key}
use Rattle.cert_laws.specs.Lines.{IsReturn, IsReturnBelow}
use Rattle.cert_ends.specs.Places.{ReturnsRise}
use Rattle.cert_make.specs.Reason.{EndCounts, ReturnsFor}
use Rattle.cert_make.specs.Rank.{ReturnsBelow}
use Rattle.cert_make.specs.Canonical.{IsReturnLine, ReturnsReached}
use Rattle.cert_make.specs.Inner.Returns.{IsSettledReturn}
use Rattle.cert_make.proofs.Ranks.{returns_weaker}
use Rattle.cert_make.proofs.RankedReturns.{ranked_returns}
use Rattle.cert_make.proofs.Rows.{at_of}

module _ (code : InstructionMap) (seeds : List ℕ) (lines : List ReturnLine)
    (settled : All (IsSettledReturn code lines) lines)
    (sound : (line : ReturnLine) → Contains lines line → ReturnsReached code seeds line.at)
    (among : (k : ℕ) → ReturnsReached code seeds k → IsReturn lines k) where
  settled_line : (line : ReturnLine) → Contains lines line → IsSettledReturn code lines line
  settled_line line listed = All-contains (IsSettledReturn code lines) lines line settled listed

  lower : (rank more k : ℕ) → rank ≤ more → IsReturnBelow lines rank k → IsReturnBelow lines more k
  lower rank more k le below = record { line = below.line; listed = below.listed; address = below.address; lower = let lt : below.line.rank < rank = below.lower in omega arith }

  -- a lower line has a lower rank
  up : (rank k : ℕ) → IsReturnBelow lines rank k → ReturnsBelow code rank k
  unfolding ReturnsBelow
  up zero k below = let lt : below.line.rank < 0 = below.lower in absurd (omega arith)
  up (suc rank) k below =
      let line = below.line in
      let lt : line.rank < suc rank = below.lower in
      let fits : ReturnsFor code (IsReturnBelow lines line.rank) line.at line.why = (settled_line line below.listed).why.fits in
      let here : ReturnsFor code (IsReturnBelow lines line.rank) k line.why = subst (λ (a : ℕ). ReturnsFor code (IsReturnBelow lines line.rank) a line.why) below.address fits in
      (line.why, returns_weaker code (IsReturnBelow lines line.rank) (ReturnsBelow code rank) (λ j h. up rank j (lower line.rank rank j (omega arith) h)) k line.why here)

  -- the end of a reached chain that has a rank is listed with that rank
  abbrev Down : ℕ → Type 0
  Down rank = (k : ℕ) → ReturnsReached code seeds k → ReturnsBelow code rank k → IsReturnBelow lines rank k

  reached_end : (rank a : ℕ) → Reached code seeds a → (end : EndCounts code (ReturnsBelow code rank) a) → ReturnsReached code seeds end.0
  reached_end rank a reached end = record { reached = reached_along reached end.1.reaches; ends = end.1.ends; returns = ranked_returns code rank end.0 end.2 }

  down_end : (rank a : ℕ) → Down rank → Reached code seeds a → EndCounts code (ReturnsBelow code rank) a → EndCounts code (IsReturnBelow lines rank) a
  down_end rank a down reached end = (end.0, end.1, down end.0 (reached_end rank a reached end) end.2)

  down_reason : (rank k : ℕ) (why : ReturnWhy) → Down rank → ReturnsReached code seeds k → ReturnsFor code (ReturnsBelow code rank) k why → ReturnsFor code (IsReturnBelow lines rank) k why
  down_reason rank k Itself down here reason = reason
  down_reason rank k (To target) down here reason = (reason.0, down_end rank target down (Reached.onward here.reached reason.0) reason.1)
  down_reason rank k CallBoth down here reason =
      let back : Returns code reason.0 = returns_along reason.3.1.reaches (ranked_returns code rank reason.3.0 reason.3.2) in (
        reason.0,
        reason.1,
        reason.2,
        down_end rank reason.0 down (Reached.called here.reached reason.2) reason.3,
        down_end rank reason.1 down (Reached.past_call here.reached reason.2 back) reason.4,
      )

  down : (rank : ℕ) → Down rank
  unfolding ReturnsBelow
  down zero k here below = absurd below
  down (suc rank) k here below =
      let found = among k here in
      let line = found.line in
      let why : ReturnsFor code (IsReturnBelow lines rank) k below.0 = down_reason rank k below.0 (down rank) here below.1 in
      let there : ReturnsFor code (IsReturnBelow lines rank) line.at below.0 = subst (λ (a : ℕ). ReturnsFor code (IsReturnBelow lines rank) a below.0) (sym found.address) why in
      ⊎_elim
      (λ lt. absurd ((settled_line line found.listed).least rank below.0 lt there))
      (λ le. record { line = line; listed = found.listed; address = found.address; lower = omega arith })
      (cases_lt rank line.rank)

  pub right : ReturnsRise lines → (line : ReturnLine) → Contains lines line → IsReturnLine code line
  right rising line listed = record {
    rank = record {
      has = up (suc line.rank) line.at (record { line = line; listed = listed; address = refl; lower = omega arith });
      least = λ below.
          let h = down line.rank line.at (sound line listed) below in
          let same : h.line ≡ line = one_by_key at_of lines rising h.line line h.listed listed h.address in
          let lt : h.line.rank < line.rank = h.lower in
          let e : h.line.rank ≡ line.rank = ap (λ (l : ReturnLine). l.rank) same in
          absurd (omega arith);
    };
    why = record {
      fits = returns_weaker code (IsReturnBelow lines line.rank) (ReturnsBelow code line.rank) (up line.rank) line.at line.why (settled_line line listed).why.fits;
      first = λ why fits. (settled_line line listed).why.first why (down_reason line.rank line.at why (down line.rank) (sound line listed) fits);
    };
  }
