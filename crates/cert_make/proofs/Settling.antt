-- The line that a step finds for a terminator.
use Rattle.std.proofs.Common.{◌≡◌, ℕ, ◌+◌, ◌<◌, ◌≤◌, List, [], ◌∷◌, ◌++◌, Option, Some, None, refl, sym, subst, ◌∙◌, arith, inl, inr}
use Rattle.std.specs.Prelude.{All, Contains}
use Rattle.std.proofs.lemmas.List.Elements.{All-contains, All-push, Contains-append_left, Contains-push}
use Rattle.cert_text.specs.declared.lines.ReturnLine.{ReturnLine}
use Rattle.cert_text.specs.declared.lines.ReturnWhy.{ReturnWhy}
use Rattle.cert_text.specs.declared.lines.ReturnWhy.TheVariants.{Itself, To, CallBoth}
use Rattle.cfg_model.specs.declared.flow.Flow.{Flow}
use Rattle.cfg_model.specs.declared.flow.Flow.TheVariants.{Call}
use Rattle.cfg_model.specs.Program.Instructions.{InstructionMap, flow_at}
use Rattle.cfg_model.specs.Program.Chain.{IsTerminatorOf}
use Rattle.cfg_model.specs.Program.Successors.{successors_of, IsCall, ReturnsByItself}
use Rattle.cfg_model.proofs.Program.ChainEnds.{one_end}
use Rattle.outline_funcs.proofs.Search.{one_by_key}
use Rattle.cert_laws.specs.Lines.{IsReturn, IsReturnBelow}
use Rattle.cert_ends.specs.Places.{ReturnsRise}
use Rattle.cert_make.specs.Reason.{ReturnsFor}
use Rattle.cert_make.specs.First.{ReturnWhyBefore}
use Rattle.cert_make.specs.Inner.Returns.{CallHasNone, CallHasRank, EndIsBelow, EndHasRank, EndHasNone, ComesAfter, HasNoReason, IsNotAfter, IsNearest, IsSettledReturn}

-- ---- the rank at the end of a chain

pub end_rank : (map : InstructionMap) (lines : List ReturnLine) (a k : ℕ) (line : ReturnLine) → IsTerminatorOf map a k → ReturnsRise lines → Contains lines line → line.at ≡ k → EndHasRank map lines line.rank a
end_rank map lines a k line ends up listed at other = (
  λ h.
      let here : h.0 ≡ k = one_end map a h.0 k h.1 ends in
      let same : h.2.line ≡ line = one_by_key (λ (l : ReturnLine). l.at) lines up h.2.line line h.2.listed listed (h.2.address ∙ here ∙ sym at) in
      subst (λ (l : ReturnLine). l.rank < other) same h.2.lower,
  λ lt. (k, ends, record { line = line; listed = listed; address = at; lower = lt }),
)

pub end_none : (map : InstructionMap) (lines : List ReturnLine) (a k : ℕ) → IsTerminatorOf map a k → (IsReturn lines k → ⊥) → EndHasNone map lines a
end_none map lines a k ends none other h =
    let here : h.0 ≡ k = one_end map a h.0 k h.1 ends in
    none (record { line = h.2.line; listed = h.2.listed; address = h.2.address ∙ here })

-- the rank at the end of a chain is one of the table
pub rank_below : (map : InstructionMap) (lines : List ReturnLine) (rank a most : ℕ) → All (λ (l : ReturnLine). l.rank < most) lines → EndHasRank map lines rank a → rank < most
rank_below map lines rank a most low has =
    let below : EndIsBelow map lines (rank + 1) a = (has (rank + 1)).1 (omega arith) in
    let line = below.2.line in
    let least : rank < line.rank + 1 = (has (line.rank + 1)).0 (below.0, below.1, record { line = line; listed = below.2.listed; address = below.2.address; lower = omega arith }) in
    let lt : line.rank < most = All-contains (λ (l : ReturnLine). l.rank < most) lines line low below.2.listed in
    omega (arith, least, lt)

-- ---- one that returns by itself

none_before_itself : (why : ReturnWhy) → ReturnWhyBefore why Itself → ⊥
none_before_itself Itself before = before
none_before_itself (To target) before = before
none_before_itself CallBoth before = before

abbrev line_of : ℕ → ℕ → ReturnWhy → ReturnLine
line_of at rank why = record { at = at; rank = rank; why = why }

pub settled_by_itself : (map : InstructionMap) (lines : List ReturnLine) (k : ℕ) → ReturnsByItself map k → IsSettledReturn map lines (line_of k 0 Itself)
settled_by_itself map lines k leaves = record {
  why = record { fits = leaves; first = λ why fits. none_before_itself why };
  least = λ rank why lt. absurd (omega arith);
}

-- ---- a call

same_target : (map : InstructionMap) (k target other : ℕ) (fall more : Option ℕ) → IsCall map k target fall → IsCall map k other more → other ≡ target
same_target map k target other fall more one two = let e : Some (Call other more) ≡ Some (Call target fall) = sym two ∙ one in cc

same_fall : (map : InstructionMap) (k target other fall more : ℕ) → IsCall map k target (Some fall) → IsCall map k other (Some more) → more ≡ fall
same_fall map k target other fall more one two = let e : Some (Call other (Some more)) ≡ Some (Call target (Some fall)) = sym two ∙ one in cc

-- what is no call, and a call that does not come back
pub no_call : (map : InstructionMap) (lines : List ReturnLine) (k : ℕ) (flow : Flow) → flow_at map k ≡ Some flow → ((target : ℕ) (fall : Option ℕ) → flow ≡ Call target fall → ⊥) → CallHasNone map lines k
no_call map lines k flow at none other reason = none reason.0 (Some reason.1) (same flow (Call reason.0 (Some reason.1)) (sym at ∙ reason.2))
  where
    same : (f g : Flow) → Some f ≡ Some g → f ≡ g
    same f g e = cc

pub no_fall : (map : InstructionMap) (lines : List ReturnLine) (k target : ℕ) → IsCall map k target None → CallHasNone map lines k
no_fall map lines k target call other reason = let e : Some (Call reason.0 (Some reason.1)) ≡ Some (Call target None) = sym reason.2 ∙ call in cc

module _ (map : InstructionMap) (lines : List ReturnLine) (k target fall : ℕ) (call : IsCall map k target (Some fall)) where
  ways_below : (rank : ℕ) → ReturnsFor map (IsReturnBelow lines rank) k CallBoth → EndIsBelow map lines rank target × EndIsBelow map lines rank fall
  ways_below rank reason =
      let to : reason.0 ≡ target = same_target map k target reason.0 (Some fall) (Some reason.1) call reason.2 in
      let back : reason.1 ≡ fall = same_fall map k target reason.0 fall reason.1 call reason.2 in
      (subst (EndIsBelow map lines rank) to reason.3, subst (EndIsBelow map lines rank) back reason.4)

  pub no_target : EndHasNone map lines target → CallHasNone map lines k
  no_target none other reason = none other (ways_below other reason).0

  pub no_return_after : EndHasNone map lines fall → CallHasNone map lines k
  no_return_after none other reason = none other (ways_below other reason).1

  pub call_rank : (one other most : ℕ) → EndHasRank map lines one target → EndHasRank map lines other fall → one ≤ most → other ≤ most
      → ((more : ℕ) → one < more → other < more → most < more) → CallHasRank map lines most k
  call_rank one other most first second over also least more = (
    λ reason. let ways = ways_below more reason in least more ((first more).0 ways.0) ((second more).0 ways.1),
    λ lt. (target, fall, call, (first more).1 (omega arith), (second more).1 (omega arith)),
  )

-- ---- one that does not return by itself

module _ (map : InstructionMap) (lines : List ReturnLine) (k rank : ℕ) (stays : ReturnsByItself map k → ⊥) (both : CallHasRank map lines rank k)
    (later : (more to : ℕ) → ReturnsFor map (IsReturnBelow lines more) k (To to) → rank + 1 < more) where
  both_above : (more : ℕ) (why : ReturnWhy) → ReturnsFor map (IsReturnBelow lines more) k why → rank < more
  both_above more Itself reason = absurd (stays reason)
  both_above more (To to) reason = let after : rank + 1 < more = later more to reason in omega arith
  both_above more CallBoth reason = (both more).0 reason

  none_before_both : (why : ReturnWhy) → ReturnsFor map (IsReturnBelow lines (rank + 1)) k why → ReturnWhyBefore why CallBoth → ⊥
  none_before_both Itself reason before = stays reason
  none_before_both (To to) reason before = let after : rank + 1 < rank + 1 = later (rank + 1) to reason in omega arith
  none_before_both CallBoth reason before = before

  settled_by_both : IsSettledReturn map lines (line_of k (rank + 1) CallBoth)
  settled_by_both = record {
    why = record { fits = (both (rank + 1)).1 (omega arith); first = none_before_both };
    least = λ more why lt reason. let above : rank < more = both_above more why reason in omega arith;
  }

module _ (map : InstructionMap) (lines : List ReturnLine) (k rank to : ℕ)
    (stays : ReturnsByItself map k → ⊥) (later : (more : ℕ) → ReturnsFor map (IsReturnBelow lines more) k CallBoth → rank < more)
    (near : IsNearest map lines (successors_of map k) rank to) where
  to_above : (more : ℕ) (why : ReturnWhy) → ReturnsFor map (IsReturnBelow lines more) k why → rank < more
  to_above more Itself reason = absurd (stays reason)
  to_above more (To other) reason = (All-contains (ComesAfter map lines rank to) (successors_of map k) other near.first reason.0 more reason.1).0
  to_above more CallBoth reason = later more reason

  none_before_to : (why : ReturnWhy) → ReturnsFor map (IsReturnBelow lines (rank + 1)) k why → ReturnWhyBefore why (To to) → ⊥
  none_before_to Itself reason before = absurd (stays reason)
  none_before_to (To other) reason before =
      let le : to ≤ other = (All-contains (ComesAfter map lines rank to) (successors_of map k) other near.first reason.0 (rank + 1) reason.1).1 refl in
      omega arith
  none_before_to CallBoth reason before = before

  settled_by_way : IsSettledReturn map lines (line_of k (rank + 1) (To to))
  settled_by_way = record {
    why = record { fits = (near.listed, (near.has (rank + 1)).1 (omega arith)); first = none_before_to };
    least = λ more why lt reason. let above : rank < more = to_above more why reason in omega arith;
  }

-- one that returns neither by a successor nor as a call has no reason
pub no_successor : (map : InstructionMap) (lines : List ReturnLine) (k : ℕ) (xs : List ℕ) → xs ≡ successors_of map k → (ReturnsByItself map k → ⊥) → CallHasNone map lines k → All (EndHasNone map lines) xs → HasNoReason map lines k
no_successor map lines k xs are stays none_both none rank Itself reason = stays reason
no_successor map lines k xs are stays none_both none rank (To to) reason =
    All-contains (EndHasNone map lines) xs to none (subst (λ (ys : List ℕ). Contains ys to) (sym are) reason.0) rank reason.1
no_successor map lines k xs are stays none_both none rank CallBoth reason = none_both rank reason

-- a call of which no successor returns, or none with a lower rank
pub both_alone : (map : InstructionMap) (lines : List ReturnLine) (k rank : ℕ) (xs : List ℕ) → xs ≡ successors_of map k → (ReturnsByItself map k → ⊥) → CallHasRank map lines rank k → All (EndHasNone map lines) xs
    → IsSettledReturn map lines (line_of k (rank + 1) CallBoth)
both_alone map lines k rank xs are stays both none =
    settled_by_both map lines k rank stays both
    (λ more to reason. absurd (All-contains (EndHasNone map lines) xs to none (subst (λ (ys : List ℕ). Contains ys to) (sym are) reason.0) more reason.1))

pub both_nearer : (map : InstructionMap) (lines : List ReturnLine) (k rank more to : ℕ) (xs : List ℕ) → xs ≡ successors_of map k → (ReturnsByItself map k → ⊥) → CallHasRank map lines rank k → IsNearest map lines xs more to → rank < more
    → IsSettledReturn map lines (line_of k (rank + 1) CallBoth)
both_nearer map lines k rank more to xs are stays both near lower =
    settled_by_both map lines k rank stays both
    (λ other way reason.
    let after : more < other = (All-contains (ComesAfter map lines more to) xs way near.first (subst (λ (ys : List ℕ). Contains ys way) (sym are) reason.0) other reason.1).0 in
    omega arith)

-- ---- the nearest of some addresses

after_none : (map : InstructionMap) (lines : List ReturnLine) (rank to x : ℕ) → EndHasNone map lines x → ComesAfter map lines rank to x
after_none map lines rank to x none other below = absurd (none other below)

after_nearer : (map : InstructionMap) (lines : List ReturnLine) (rank to more far x : ℕ) → IsNotAfter rank to more far → ComesAfter map lines more far x → ComesAfter map lines rank to x
after_nearer map lines rank to more far x (inl lt) after other below =
    let h = after other below in
    let above : more < other = h.0 in
    (omega arith, λ e. absurd (omega arith))
after_nearer map lines rank to more far x (inr (same, le)) after other below =
    let h = after other below in
    let above : more < other = h.0 in
    (omega arith, λ e. let le_far : far ≤ x = h.1 (omega arith) in omega arith)

after_itself : (map : InstructionMap) (lines : List ReturnLine) (rank to : ℕ) → EndHasRank map lines rank to → ComesAfter map lines rank to to
after_itself map lines rank to has other below = ((has other).0 below, λ e. omega arith)

pub all_after : (map : InstructionMap) (lines : List ReturnLine) (rank to : ℕ) (xs : List ℕ) → All (EndHasNone map lines) xs → All (ComesAfter map lines rank to) xs
all_after map lines rank to xs all = λ i d lt. after_none map lines rank to _ (all i d lt)

-- one more address that is not listed
pub nearest_still : (map : InstructionMap) (lines : List ReturnLine) (xs : List ℕ) (x rank to : ℕ) → IsNearest map lines xs rank to → EndHasNone map lines x → IsNearest map lines (xs ++ x ∷ []) rank to
nearest_still map lines xs x rank to near none = record {
  listed = Contains-append_left xs (x ∷ []) to near.listed;
  has = near.has;
  first = All-push (ComesAfter map lines rank to) xs x near.first (after_none map lines rank to x none);
}

-- the first that is
pub nearest_first : (map : InstructionMap) (lines : List ReturnLine) (xs : List ℕ) (x rank : ℕ) → All (EndHasNone map lines) xs → EndHasRank map lines rank x → IsNearest map lines (xs ++ x ∷ []) rank x
nearest_first map lines xs x rank none has = record {
  listed = Contains-push xs x;
  has = has;
  first = All-push (ComesAfter map lines rank x) xs x (all_after map lines rank x xs none) (after_itself map lines rank x has);
}

-- the new one is nearer, or the old one
pub nearest_new : (map : InstructionMap) (lines : List ReturnLine) (xs : List ℕ) (x rank old to : ℕ) → IsNearest map lines xs old to → EndHasRank map lines rank x → IsNotAfter rank x old to → IsNearest map lines (xs ++ x ∷ []) rank x
nearest_new map lines xs x rank old to near has nearer = record {
  listed = Contains-push xs x;
  has = has;
  first = All-push (ComesAfter map lines rank x) xs x (λ i d lt. after_nearer map lines rank x old to _ nearer (near.first i d lt)) (after_itself map lines rank x has);
}

pub nearest_old : (map : InstructionMap) (lines : List ReturnLine) (xs : List ℕ) (x rank old to : ℕ) → IsNearest map lines xs old to → EndHasRank map lines rank x → IsNotAfter old to rank x → IsNearest map lines (xs ++ x ∷ []) old to
nearest_old map lines xs x rank old to near has nearer = record {
  listed = Contains-append_left xs (x ∷ []) to near.listed;
  has = near.has;
  first = All-push (ComesAfter map lines old to) xs x near.first (after_nearer map lines old to rank x x nearer (after_itself map lines rank x has));
}

settled_by_nearest : (map : InstructionMap) (lines : List ReturnLine) (k rank to : ℕ) (xs : List ℕ) → xs ≡ successors_of map k → (ReturnsByItself map k → ⊥)
    → ((more : ℕ) → ReturnsFor map (IsReturnBelow lines more) k CallBoth → rank < more) → IsNearest map lines xs rank to → IsSettledReturn map lines (line_of k (rank + 1) (To to))
settled_by_nearest map lines k rank to xs are stays later near =
    settled_by_way map lines k rank to stays later (subst (λ (ys : List ℕ). IsNearest map lines ys rank to) are near)

-- one that is no call, or does not return as one
pub way_alone : (map : InstructionMap) (lines : List ReturnLine) (k rank to : ℕ) (xs : List ℕ) → xs ≡ successors_of map k → (ReturnsByItself map k → ⊥) → CallHasNone map lines k → IsNearest map lines xs rank to
    → IsSettledReturn map lines (line_of k (rank + 1) (To to))
way_alone map lines k rank to xs are stays none near = settled_by_nearest map lines k rank to xs are stays (λ more reason. absurd (none more reason)) near

-- a call that returns by a successor of no greater rank
pub way_first : (map : InstructionMap) (lines : List ReturnLine) (k rank to most : ℕ) (xs : List ℕ) → xs ≡ successors_of map k → (ReturnsByItself map k → ⊥) → CallHasRank map lines most k → IsNearest map lines xs rank to → rank ≤ most
    → IsSettledReturn map lines (line_of k (rank + 1) (To to))
way_first map lines k rank to most xs are stays both near low =
    settled_by_nearest map lines k rank to xs are stays (λ more reason. let above : most < more = (both more).0 reason in omega arith) near
