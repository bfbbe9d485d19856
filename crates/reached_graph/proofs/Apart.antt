-- Blocks that are cut where control is sent: two streams join only where two of them overlap.
use Rattle.std.proofs.Common.{◌≡◌, ◌≢◌, ℕ, ◌+◌, ◌<◌, ◌≤◌, ◌⊎◌, List, length, get_or, Option, Some, None, refl, sym, ap, ◌∙◌, subst, inl, inr, arith}
use Rattle.std.specs.Prelude.{◌↔◌, Contains}
use Rattle.std.specs.List.Sorted.{IsStrictlyIncreasing}
use Rattle.std.proofs.lemmas.Bool.{cases_lt}
use Rattle.std.proofs.lemmas.List.{get_or_default}
use Rattle.std.proofs.lemmas.List.Kept.{AllPairs-from_increasing}
use Rattle.cfg_model.specs.Program.Instructions.{InstructionMap, IsLawful}
use Rattle.cfg_model.specs.Program.Chain.{GoesOnTo, IsTerminator, IsTerminatorOf, OnChain}
use Rattle.cfg_model.specs.Graph.Block.{IsLastOf, RunsTo}
use Rattle.cfg_model.proofs.Program.ChainFacts.{chain_up, goes_up, one_next}
use Rattle.cfg_model.proofs.Program.ChainPlaces.{way_on}
use Rattle.cfg_model.proofs.Program.ChainEnds.{goes_not_ends}
use Rattle.cfg_model.proofs.Graphs.LeaderFacts.{chain_linear}
use Rattle.cfg_model.proofs.Graphs.Runs.{run_step}
use Rattle.reached_graph.specs.Inner.Blocks.{AreCutAt, IsMixed, StopsAt}
use Rattle.reached_graph.specs.Inner.Cuts.{IsNext}

pub chain_of : {map : InstructionMap} {IsCut : ℕ → Type 0} {s k : ℕ} → RunsTo map IsCut s k → OnChain map s k
chain_of RunsTo.here = OnChain.here
chain_of (RunsTo.on goes none rest) = OnChain.on goes (chain_of rest)

-- a run stays where it is, or goes on
run_cases : {map : InstructionMap} {IsCut : ℕ → Type 0} {s k : ℕ} → RunsTo map IsCut s k → (s ≡ k) ⊎ ((next : ℕ) × GoesOnTo map s next × RunsTo map IsCut next k)
run_cases RunsTo.here = inl refl
run_cases (RunsTo.on {next = next} goes none rest) = inr (next, goes, rest)

module _ (map : InstructionMap) (lawful : IsLawful map) (IsCut : ℕ → Type 0) where
  -- a chain along which no block starts
  runs_along : {s k : ℕ} → OnChain map s k → ((x : ℕ) → s < x → x ≤ k → ¬ IsCut x) → RunsTo map IsCut s k
  runs_along OnChain.here none = RunsTo.here
  runs_along (OnChain.on {a = s} {next = next} {k = k} goes rest) none =
      let up : s + 2 ≤ next = goes_up lawful s next goes in
      RunsTo.on goes (none next (omega arith) (chain_up lawful rest)) (runs_along rest (λ x above low. none x (omega (arith, up, above)) low))

  module _ (s k t : ℕ) (stops : StopsAt map s (Some t) k) (cut : IsCut t) where
    last_some : ((x : ℕ) → s < x → x < t → ¬ IsCut x) → IsLastOf map IsCut s k
    last_some none = elim stops [
      | inl ends ↦ record { runs = runs_along ends.0.reaches (λ x above low. none x above (omega (arith, low, ends.1))); stops = inl ends.0.ends }
      | inr on ↦ record { runs = runs_along on.0 (λ x above low. none x above (omega (arith, low, goes_up lawful k t on.1))); stops = inr (t, on.1, cut) }
    ]

  last_none : (s k : ℕ) → IsTerminatorOf map s k → ((x : ℕ) → s < x → ¬ IsCut x) → IsLastOf map IsCut s k
  last_none s k ends none = record { runs = runs_along ends.reaches (λ x above low. none x above); stops = inl ends.ends }

  -- a run does not go on past the last address of its block
  run_below : {s a : ℕ} → RunsTo map IsCut s a → (k : ℕ) → IsLastOf map IsCut s k → a ≤ k
  run_below (RunsTo.here {s = s}) k last = chain_up lawful (chain_of last.runs)
  run_below (RunsTo.on {s = s} {next = next} goes none rest) k last = elim (run_cases last.runs) [
    | inl same ↦ elim last.stops [
      | inl ends ↦ absurd (goes_not_ends map s next goes (subst (IsTerminator map) (sym same) ends))
      | inr into ↦ absurd (none (subst IsCut (one_next map s into.0 next (subst (λ z. GoesOnTo map z into.0) (sym same) into.1) goes) into.2))
    ]
    | inr more ↦ run_below rest k (record { runs = subst (λ z. RunsTo map IsCut z k) (one_next map s more.0 next more.1 goes) more.2; stops = last.stops })
  ]

  -- where the chain of s stops its block ends, if blocks are cut next at that address
  pub last_at : (s k : ℕ) (next : Option ℕ) → IsNext IsCut s next → StopsAt map s next k → IsLastOf map IsCut s k
  last_at s k None none stops = last_none s k stops none
  last_at s k (Some t) is stops = last_some s k t stops is.0 (λ x above below cut. absurd (omega (arith, below, is.1 x above cut)))

  -- a block that is cut at fewer addresses stays as it is if the next cut lies after it
  pub stays_at : (Before : ℕ → Type 0) → ((a : ℕ) → Before a → IsCut a) → (s k : ℕ) (next : Option ℕ) → IsNext IsCut s next → IsLastOf map Before s k → ((t : ℕ) → next ≡ Some t → k < t) → IsLastOf map IsCut s k
  stays_at Before there s k next is last after = record {
    runs = runs_along (chain_of last.runs) (none_in next is after);
    stops = elim last.stops [
      | inl ends ↦ inl ends
      | inr into ↦ inr (into.0, into.1, there into.0 into.2)
    ];
  }
    where
      none_in : (next : Option ℕ) → IsNext IsCut s next → ((t : ℕ) → next ≡ Some t → k < t) → (x : ℕ) → s < x → x ≤ k → ¬ IsCut x
      none_in None is after x above low cut = is x above cut
      none_in (Some t) is after x above low cut = omega (arith, low, is.1 x above cut, after t refl)

  -- where blocks are cut exactly at these starts
  module _ (starts : List ℕ) (rise : IsStrictlyIncreasing starts) (exact : (a : ℕ) → Contains starts a ↔ IsCut a) where
    rises : (i j d : ℕ) → i < j → j < length starts → get_or starts i d < get_or starts j d
    rises i j d less within = AllPairs-from_increasing starts rise i j d less within

    -- b lies on the block of one of them
    pub record LiesOn (b : ℕ) : Type 0 where
      pub place : ℕ
      pub within : place < length starts
      pub runs : RunsTo map IsCut (get_or starts place 0) b

    pub lies_at : (a : ℕ) → IsCut a → LiesOn a
    lies_at a cut =
        let at = (exact a).1 cut in
        record { place = at.0; within = at.1; runs = subst (RunsTo map IsCut (get_or starts at.0 0)) (get_or_default starts at.0 0 a at.1 ∙ at.2) RunsTo.here }

    pub lies_on : (a next : ℕ) → IsCut next ⊎ ¬ IsCut next → LiesOn a → GoesOnTo map a next → LiesOn next
    lies_on a next known lies goes = elim known [
      | inl cut ↦ lies_at next cut
      | inr none ↦ record { place = lies.place; within = lies.within; runs = run_step map IsCut (get_or starts lies.place 0) a next lies.runs goes none }
    ]

    -- two instructions of one block do not go on to the same address
    pub apart_on : (s a b next : ℕ) → OnChain map s a → OnChain map s b → a ≢ b → GoesOnTo map a next → GoesOnTo map b next → ⊥
    apart_on s a b next first second apart goes goes_too = elim (chain_linear map first second) [
      | inl ahead ↦ omega (arith, chain_up lawful (way_on map a b next ahead apart goes), goes_up lawful b next goes_too)
      | inr back ↦ omega (arith, chain_up lawful (way_on map b a next back (λ e. apart (sym e)) goes_too), goes_up lawful a next goes)
    ]

    module _ (lasts : List ℕ) (cut : AreCutAt map IsCut starts lasts) (a b next : ℕ) (goes : GoesOnTo map a next) (goes_too : GoesOnTo map b next) (none : ¬ IsCut next) where
      -- on the blocks of different starts, those do only if the blocks overlap
      pub mixed_blocks : (lies : LiesOn a) (other : LiesOn b) → lies.place < other.place → IsMixed starts lasts lies.place × IsMixed starts lasts other.place
      mixed_blocks lies other less =
          let i : ℕ = lies.place in
          let j : ℕ = other.place in
          let more : i + 1 < length starts = omega (arith, less, other.within) in
          let clear : next ≤ get_or lasts i 0 = run_below (run_step map IsCut (get_or starts i 0) a next lies.runs goes none) (get_or lasts i 0) (cut.each i 0 lies.within) in
          let above : get_or starts j 0 ≤ b = chain_up lawful (chain_of other.runs) in
          let up : b + 2 ≤ next = goes_up lawful b next goes_too in
          let first : get_or starts (i + 1) 0 ≤ get_or starts j 0 = elim (cases_lt (i + 1) j) [
            | inl further ↦ omega (arith, rises (i + 1) j 0 further other.within)
            | inr low ↦ let same : i + 1 ≡ j = omega (arith, less, low) in omega (arith, ap (λ n. get_or starts n 0) same)
          ] in
          (inl (more, omega (arith, first, clear, above, up)), inr (i, less, omega (arith, clear, above, up)))
