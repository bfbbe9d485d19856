-- Steps over the lines of all terminators that return: whatever ranks they begin with, as many steps
-- as there are lines settle all.
use Rattle.std.proofs.Common.{◌≡◌, ℕ, suc, ◌+◌, ◌<◌, ◌≤◌, ◌^◌, ◌-◌, List, [], ◌∷◌, ◌++◌, length, get_or, map, take, refl, sym, subst, ap, ◌∙◌, arith, inl, inr}
use Rattle.std.specs.Prelude.{◌↔◌, All, Contains, MatchOption, Option, Some, None, unwrap_or}
use Rattle.std.specs.List.{AllZip}
use Rattle.std.proofs.lemmas.Bool.{cases_lt}
use Rattle.std.proofs.lemmas.List.{get_or_default, take_all}
use Rattle.std.proofs.lemmas.List.Elements.{All-contains, All-weaker, AllZip-get_or, Contains-get_or, all_zip_more, length_all_zip}
use Rattle.cert_text.specs.declared.lines.ReturnLine.{ReturnLine}
use Rattle.cert_text.specs.declared.lines.ReturnWhy.{ReturnWhy}
use Rattle.cert_text.specs.declared.lines.ReturnWhy.TheVariants.{Itself, To, CallBoth}
use Rattle.cfg_model.specs.Program.Instructions.{InstructionMap}
use Rattle.cfg_model.specs.Program.Reach.{Reached}
use Rattle.cfg_model.specs.Program.Status.{Returns}
use Rattle.cfg_model.proofs.Program.Along.{returns_along}
use Rattle.cfg_model.proofs.Graphs.LeaderFacts.{reached_along}
use Rattle.outline_funcs.proofs.Search.{one_by_key}
use Rattle.cert_laws.specs.Lines.{IsReturnBelow}
use Rattle.cert_ends.specs.Places.{ReturnsRise}
use Rattle.cert_ends.proofs.Placed.{no_return}
use Rattle.cert_make.specs.Reason.{EndCounts, ReturnsFor}
use Rattle.cert_make.specs.Rank.{ReturnsBelow}
use Rattle.cert_make.specs.Canonical.{ReturnsReached}
use Rattle.cert_make.specs.Inner.Returns.{AreSettledBy, HasNoReason, HaveSameRanks, IsNextReturn, IsSettledFor, IsSettledReturn, ListAllReturns}
use Rattle.cert_make.proofs.Ranks.{returns_weaker}
use Rattle.cert_make.proofs.RankedReturns.{ranked_returns, returns_have_ranks}
use Rattle.cert_make.proofs.CanonicalReturns.{listed_at, return_in}
use Rattle.cert_make.proofs.Rows.{AreAt, at_index, at_of, at_rest, next_at, same_length, same_rise}
use Rattle.cert_make.proofs.Steps.{AreRanks, HasLeast, IsTable, ListsBelow, SettledTo, has_reason, none_settled, ranks_stay, step_settles}

abbrev pub rank_of : ReturnLine → ℕ
rank_of l = l.rank

-- There is a reason by terminators that count.
abbrev HasReason : InstructionMap → (ℕ → Type 0) → ℕ → Type 0
HasReason code Counts k = (why : ReturnWhy) × ReturnsFor code Counts k why

says : (lines : List ReturnLine) (r k : ℕ) → IsReturnBelow lines r k ↔ ListsBelow at_of rank_of lines r k
says lines r k = (
  λ b. (b.line, b.listed, b.address, b.lower),
  λ l. record { line = l.0; listed = l.1; address = l.2; lower = l.3 },
)

module _ (code : InstructionMap) (seeds : List ℕ) where
  weaker : (A B : ℕ → Type 0) → ((j : ℕ) → A j → Returns code j) → ((j : ℕ) → ReturnsReached code seeds j → A j → B j) → (k : ℕ) (why : ReturnWhy) → ReturnsReached code seeds k → ReturnsFor code A k why → ReturnsFor code B k why
  weaker A B good more k why here reason = weaker_by why reason
    where
      weaker_end : (a : ℕ) → Reached code seeds a → EndCounts code A a → EndCounts code B a
      weaker_end a reached end = (end.0, end.1, more end.0 (record { reached = reached_along reached end.1.reaches; ends = end.1.ends; returns = good end.0 end.2 }) end.2)

      weaker_by : (why : ReturnWhy) → ReturnsFor code A k why → ReturnsFor code B k why
      weaker_by Itself reason = reason
      weaker_by (To target) reason = (reason.0, weaker_end target (Reached.onward here.reached reason.0) reason.1)
      weaker_by CallBoth reason =
          let back : Returns code reason.0 = returns_along reason.3.1.reaches (good reason.3.0 reason.3.2) in (
            reason.0,
            reason.1,
            reason.2,
            weaker_end reason.0 (Reached.called here.reached reason.2) reason.3,
            weaker_end reason.1 (Reached.past_call here.reached reason.2 back) reason.4,
          )

  none_below : (k : ℕ) → ReturnsBelow code 0 k → ⊥
  unfolding ReturnsBelow
  none_below k below = below

  next_below : (r k : ℕ) → ReturnsBelow code (suc r) k ↔ HasReason code (ReturnsBelow code r) k
  unfolding ReturnsBelow
  next_below r k = (λ below. below, λ reason. reason)

  ranks : AreRanks (ReturnsReached code seeds) (Returns code) (HasReason code) (ReturnsBelow code)
  ranks = record {
    weaker = λ A B good more k here reason. (reason.0, weaker A B good more k reason.0 here reason.1);
    none = none_below;
    next = next_below;
    good = ranked_returns code;
    ranked = λ k here. (returns_have_ranks code k here.ends).0 here.returns;
  }

  -- The ranks below this one are the right ones.
  abbrev pub AreReturnsTo : ℕ → List ReturnLine → Type 0
  AreReturnsTo i lines = SettledTo (ReturnsReached code seeds) (ReturnsBelow code) (IsReturnBelow lines) i

  table : (lines : List ReturnLine) → ReturnsRise lines → ListAllReturns code seeds lines → IsTable at_of (ReturnsReached code seeds) lines
  table lines rising all = record {
    among = λ l listed. (all l.at).0 (record { line = l; listed = listed; address = refl });
    complete = λ k here. let found = (all k).1 here in (found.line, found.listed, found.address);
    one_line = one_by_key at_of lines rising;
  }

  least : (lines : List ReturnLine) (l : ReturnLine) → IsSettledReturn code lines l → HasLeast at_of rank_of (HasReason code) (IsReturnBelow lines) l
  least lines l settled = record { has = (l.why, settled.why.fits); least = λ r lt reason. settled.least r reason.0 lt reason.1 }

  pub none_returns : (lines : List ReturnLine) → AreReturnsTo 0 lines
  none_returns lines = none_settled at_of rank_of (ReturnsReached code seeds) (Returns code) (HasReason code) (ReturnsBelow code) IsReturnBelow ranks says lines

  module _ (lines next : List ReturnLine) (rising : ReturnsRise lines) (all : ListAllReturns code seeds lines) (most : ℕ) (low : All (λ (l : ReturnLine). l.rank < most) lines) where
    -- each of them has a reason by the others
    has_one : (k : ℕ) → ReturnsReached code seeds k → HasNoReason code lines k → ⊥
    has_one k here none =
        let reason : HasReason code (IsReturnBelow lines most) k =
        has_reason at_of rank_of (ReturnsReached code seeds) (Returns code) (HasReason code) (ReturnsBelow code) IsReturnBelow ranks says lines (table lines rising all) most low k here in
        none most reason.0 reason.1

    settled_line : (old new : ReturnLine) → Contains lines old → IsNextReturn code lines old new → IsSettledReturn code lines new
    settled_line old new listed (inl settled) = settled.1
    settled_line old new listed (inr none) = absurd (has_one old.at ((table lines rising all).among old listed) none.0)

    pub all_settled : AllZip (IsNextReturn code lines) lines next → All (IsSettledReturn code lines) next
    all_settled step i d within =
        let long : length lines ≡ length next = length_all_zip (IsNextReturn code lines) lines next step in
        let lt : i < length lines = omega (arith, within, long) in
        settled_line (get_or lines i d) (get_or next i d) (Contains-get_or lines i d lt) (AllZip-get_or (IsNextReturn code lines) lines next i d d step lt)

  module _ (lines next : List ReturnLine) (rising : ReturnsRise lines) (next_rising : ReturnsRise next) (all : ListAllReturns code seeds lines) (all_next : ListAllReturns code seeds next) where
    all_least : (most : ℕ) → All (λ (l : ReturnLine). l.rank < most) lines → AllZip (IsNextReturn code lines) lines next → All (HasLeast at_of rank_of (HasReason code) (IsReturnBelow lines)) next
    all_least most low step = All-weaker (IsSettledReturn code lines) (HasLeast at_of rank_of (HasReason code) (IsReturnBelow lines)) (least lines) next (all_settled lines next rising all most low step)

    pub settled_to_next : (most : ℕ) → All (λ (l : ReturnLine). l.rank < most) lines → (i : ℕ) → AreReturnsTo i lines → AllZip (IsNextReturn code lines) lines next → AreReturnsTo (suc i) next
    settled_to_next most low i settled step =
        step_settles at_of rank_of (ReturnsReached code seeds) (Returns code) (HasReason code) (ReturnsBelow code) IsReturnBelow ranks says lines (table lines rising all) i settled next (table next next_rising all_next) (all_least most low step)

    pub same_ranks : map at_of next ≡ map at_of lines → (most : ℕ) → All (λ (l : ReturnLine). l.rank < most) lines → AreReturnsTo (length lines) lines → AllZip (IsNextReturn code lines) lines next → HaveSameRanks next lines
    same_ranks same most low settled step i d within =
        ranks_stay at_of rank_of (ReturnsReached code seeds) (Returns code) (HasReason code) (ReturnsBelow code) IsReturnBelow ranks says lines (table lines rising all) settled next (table next next_rising all_next) (all_least most low step)
        (same_length lines next same) (λ n e lt. sym (at_index lines next same n e lt)) i d within

-- ---- one step, whatever the terminators are

module _ (code : InstructionMap) (lines : List ReturnLine) where
  next_at_of : (xs ys : List ReturnLine) → AllZip (IsNextReturn code lines) xs ys → map at_of ys ≡ map at_of xs
  next_at_of [] [] step = refl
  next_at_of [] (y ∷ ys) step = absurd step
  next_at_of (x ∷ xs) [] step = absurd step
  next_at_of (x ∷ xs) (y ∷ ys) step =
      let here : y.at ≡ x.at = elim step.0 [ inl settled ↦ settled.0 | inr none ↦ ap at_of none.1 ] in
      ap (λ (a : ℕ). a ∷ map at_of ys) here ∙ ap (λ (rest : List ℕ). x.at ∷ rest) (next_at_of xs ys step.1)

  next_of : (old : ReturnLine) (o : Option ReturnLine) → MatchOption o (HasNoReason code lines old.at) (IsSettledFor code lines old.at) → IsNextReturn code lines old (unwrap_or o old)
  next_of old None none = inr (none, refl)
  next_of old (Some new) settled = inl settled

  pub one_next : (next more : List ReturnLine) (i : ℕ) (o : Option ReturnLine) → i < length lines → AllZip (IsNextReturn code lines) (take i lines) next
      → MatchOption o (HasNoReason code lines (get_or lines i no_return).at) (IsSettledFor code lines (get_or lines i no_return).at) → more ≡ next ++ unwrap_or o (get_or lines i no_return) ∷ [] → AllZip (IsNextReturn code lines) (take (i + 1) lines) more
  one_next next more i o lt before is added =
      let old = get_or lines i no_return in
      subst (AllZip (IsNextReturn code lines) (take (i + 1) lines)) (sym added)
      (all_zip_more (IsNextReturn code lines) lines next i old (unwrap_or o old) lt (get_or_default lines i no_return old lt) before (next_of old o is))

  pub all_next_of : (next : List ReturnLine) (i : ℕ) → length lines ≤ i → AllZip (IsNextReturn code lines) (take i lines) next → AllZip (IsNextReturn code lines) lines next
  all_next_of next i long step = subst (λ (ls : List ReturnLine). AllZip (IsNextReturn code lines) ls next) (take_all i lines long) step

  module _ (next : List ReturnLine) (most : ℕ) (low : All (λ (l : ReturnLine). l.rank < most) lines) where
    all_lower : (rank k : ℕ) → IsReturnBelow lines rank k → IsReturnBelow lines most k
    all_lower rank k below = record { line = below.line; listed = below.listed; address = below.address; lower = All-contains (λ (l : ReturnLine). l.rank < most) lines below.line low below.listed }

    next_rank : (old new : ReturnLine) → Contains lines old → IsNextReturn code lines old new → new.rank < most + 1
    next_rank old new listed (inl settled) = elim (cases_lt most new.rank) [
      | inl lt ↦ absurd (settled.1.least most new.why lt (returns_weaker code (IsReturnBelow lines new.rank) (IsReturnBelow lines most) (all_lower new.rank) new.at new.why settled.1.why.fits))
      | inr le ↦ omega (arith, le)
    ]
    next_rank old new listed (inr none) =
        let lt : old.rank < most = All-contains (λ (l : ReturnLine). l.rank < most) lines old low listed in
        let same : new.rank ≡ old.rank = ap rank_of none.1 in
        omega (arith, lt, same)

    next_low : AllZip (IsNextReturn code lines) lines next → All (λ (l : ReturnLine). l.rank < most + 1) next
    next_low step i d within =
        let long : length lines ≡ length next = length_all_zip (IsNextReturn code lines) lines next step in
        let lt : i < length lines = omega (arith, within, long) in
        next_rank (get_or lines i d) (get_or next i d) (Contains-get_or lines i d lt) (AllZip-get_or (IsNextReturn code lines) lines next i d d step lt)

-- ---- the loop over the steps

all_at : (code : InstructionMap) (seeds : List ℕ) (start lines : List ReturnLine) → map at_of lines ≡ map at_of start → ListAllReturns code seeds start → ListAllReturns code seeds lines
all_at code seeds start lines same all k = (
  λ return. (all k).0 (listed_at start k (subst (λ (ks : List ℕ). Contains ks k) same (return_in lines k return))),
  λ here. listed_at lines k (subst (λ (ks : List ℕ). Contains ks k) (sym same) (return_in start k ((all k).1 here))),
)

-- The lines after so many steps from these.
pub record AreStepped (code : InstructionMap) (start lines : List ReturnLine) (i : ℕ) : Type 0 where
  pub at : AreAt code start lines
  pub low : All (λ (l : ReturnLine). l.rank < 2 ^ 32 + i) lines
  pub settled : (seeds : List ℕ) → ListAllReturns code seeds start → AreReturnsTo code seeds i lines

pub first_stepped : (code : InstructionMap) (start : List ReturnLine) → AreAt code start start → All (λ (l : ReturnLine). l.rank < 2 ^ 32) start → AreStepped code start start 0
first_stepped code start at low = record {
  at = at;
  low = All-weaker (λ (l : ReturnLine). l.rank < 2 ^ 32) (λ (l : ReturnLine). l.rank < 2 ^ 32 + 0) (λ l lt. omega (arith, lt)) start low;
  settled = λ seeds all. none_returns code seeds start;
}

pub low_enough : (lines : List ReturnLine) (i : ℕ) → i < 2 ^ 63 → All (λ (l : ReturnLine). l.rank < 2 ^ 32 + i) lines → All (λ (l : ReturnLine). l.rank < 2 ^ 64 - 1) lines
low_enough lines i few low = All-weaker (λ (l : ReturnLine). l.rank < 2 ^ 32 + i) (λ (l : ReturnLine). l.rank < 2 ^ 64 - 1) (λ l lt. omega (arith, lt, few)) lines low

module _ (code : InstructionMap) (start lines next : List ReturnLine) (i : ℕ) (stepped : AreStepped code start lines i) (step : AllZip (IsNextReturn code lines) lines next) where
  same : map at_of next ≡ map at_of lines
  same = next_at_of code lines lines next step

  pub next_stepped : AreStepped code start next (i + 1)
  next_stepped = record {
    at = next_at code start lines next stepped.at same;
    low = All-weaker (λ (l : ReturnLine). l.rank < 2 ^ 32 + i + 1) (λ (l : ReturnLine). l.rank < 2 ^ 32 + (i + 1)) (λ l lt. omega (arith, lt)) next (next_low code lines next (2 ^ 32 + i) stepped.low step);
    settled = λ seeds all r k le.
        let all_lines = all_at code seeds start lines stepped.at.same all in
        let all_next = all_at code seeds start next (same ∙ stepped.at.same) all in
        settled_to_next code seeds lines next stepped.at.rising (same_rise lines next same stepped.at.rising) all_lines all_next (2 ^ 32 + i) stepped.low i (stepped.settled seeds all) step r k (omega (arith, le));
  }

  settled_lines : (seeds : List ℕ) → ListAllReturns code seeds start → All (IsSettledReturn code lines) next
  settled_lines seeds all = all_settled code seeds lines next stepped.at.rising (all_at code seeds start lines stepped.at.same all) (2 ^ 32 + i) stepped.low step

  pub rested : HaveSameRanks next lines → (seeds : List ℕ) → ListAllReturns code seeds start → AreSettledBy code next start next
  rested ranks seeds all = at_rest code start lines next stepped.at same (settled_lines seeds all) ranks

  -- after as many steps as there are lines
  pub ended : length lines ≤ i → (seeds : List ℕ) → ListAllReturns code seeds start → AreSettledBy code next start next
  ended many seeds all =
      let all_lines = all_at code seeds start lines stepped.at.same all in
      let all_next = all_at code seeds start next (same ∙ stepped.at.same) all in
      rested (same_ranks code seeds lines next stepped.at.rising (same_rise lines next same stepped.at.rising) all_lines all_next same (2 ^ 32 + i) stepped.low (λ r k le. stepped.settled seeds all r k (omega (arith, le, many))) step) seeds all
