-- Tables of lines at the same addresses.
use Rattle.std.proofs.Common.{◌≡◌, ℕ, ◌<◌, List, map, length, get_or, refl, sym, subst, ap, ◌∙◌, arith}
use Rattle.std.specs.Prelude.{All, IsSome}
use Rattle.std.proofs.lemmas.List.{length-map, get_or_default}
use Rattle.std.proofs.Math.ListN.{get_or-map}
use Rattle.cert_text.specs.declared.lines.ReturnLine.{ReturnLine}
use Rattle.cfg_model.specs.Program.Instructions.{InstructionMap}
use Rattle.cert_ends.specs.Places.{ReturnsRise}
use Rattle.cert_ends.proofs.Adjacent.{rise_on, rise_next}
use Rattle.cert_ends.proofs.Placed.{no_return}
use Rattle.cert_make.specs.Inner.Returns.{IsSettledReturn, AreSettledBy, HaveSameRanks}
use Rattle.cert_make.proofs.Ranks.{returns_weaker}
use Rattle.cert_laws.specs.Lines.{IsReturnBelow}

abbrev pub at_of : ReturnLine → ℕ
at_of l = l.at

pub record AreAt (code : InstructionMap) (start lines : List ReturnLine) : Type 0 where
  pub same : map at_of lines ≡ map at_of start
  pub rising : ReturnsRise lines
  pub stand : All (λ (l : ReturnLine). IsSome (code l.at)) lines

pub same_rise : (xs ys : List ReturnLine) → map at_of ys ≡ map at_of xs → ReturnsRise xs → ReturnsRise ys
same_rise xs ys same up = rise_on at_of ys no_return (rw same (rise_next at_of xs no_return up))

pub at_index : (xs ys : List ReturnLine) → map at_of ys ≡ map at_of xs → (i : ℕ) (d : ReturnLine) → i < length ys → (get_or xs i d).at ≡ (get_or ys i d).at
at_index xs ys same i d lt =
    sym (get_or-map at_of xs i d) ∙ ap (λ (ns : List ℕ). get_or ns i (at_of d)) (sym same) ∙ get_or-map at_of ys i d

pub same_length : (xs ys : List ReturnLine) → map at_of ys ≡ map at_of xs → length ys ≡ length xs
same_length xs ys same = sym (length-map ys at_of) ∙ ap length same ∙ length-map xs at_of

pub same_stand : (code : InstructionMap) (xs ys : List ReturnLine) → map at_of ys ≡ map at_of xs → All (λ (l : ReturnLine). IsSome (code l.at)) xs → All (λ (l : ReturnLine). IsSome (code l.at)) ys
same_stand code xs ys same all i d lt =
    let long : length ys ≡ length xs = same_length xs ys same in
    subst (λ (a : ℕ). IsSome (code a)) (at_index xs ys same i d lt) (all i d (omega arith))

pub first_at : (code : InstructionMap) (start : List ReturnLine) → ReturnsRise start → All (λ (l : ReturnLine). IsSome (code l.at)) start → AreAt code start start
first_at code start up stand = record { same = refl; rising = up; stand = stand }

pub next_at : (code : InstructionMap) (start lines next : List ReturnLine) → AreAt code start lines → map at_of next ≡ map at_of lines → AreAt code start next
next_at code start lines next are same = record {
  same = same ∙ are.same;
  rising = same_rise lines next same are.rising;
  stand = same_stand code lines next same are.stand;
}

-- where two tables have the same addresses and ranks, a line is settled by both or by none

moved : (xs ys : List ReturnLine) → map at_of xs ≡ map at_of ys → HaveSameRanks xs ys → (rank k : ℕ) → IsReturnBelow xs rank k → IsReturnBelow ys rank k
moved xs ys same alike rank k below =
    let i = below.listed.0 in
    let d = below.line in
    let lt : i < length xs = below.listed.1 in
    let is : get_or xs i d ≡ below.line = below.listed.2 in
    let long : length xs ≡ length ys = same_length ys xs same in
    let address : (get_or ys i d).at ≡ (get_or xs i d).at = at_index ys xs same i d lt in
    let low : (get_or xs i d).rank < rank = subst (λ (l : ReturnLine). l.rank < rank) (sym is) below.lower in
    let equal : (get_or xs i d).rank ≡ (get_or ys i d).rank = alike i d lt in
    record {
      line = get_or ys i d;
      listed = (i, omega arith, get_or_default ys i (get_or ys i d) d (omega arith));
      address = address ∙ ap at_of is ∙ below.address;
      lower = omega arith;
    }

moved_back : (xs ys : List ReturnLine) → map at_of xs ≡ map at_of ys → HaveSameRanks xs ys → (rank k : ℕ) → IsReturnBelow ys rank k → IsReturnBelow xs rank k
moved_back xs ys same alike =
    let long : length xs ≡ length ys = same_length ys xs same in
    moved ys xs (sym same) (λ i d lt. sym (alike i d (omega arith)))

settled_by_same : (code : InstructionMap) (xs ys : List ReturnLine) → map at_of xs ≡ map at_of ys → HaveSameRanks xs ys → (l : ReturnLine) → IsSettledReturn code ys l → IsSettledReturn code xs l
settled_by_same code xs ys same alike l settled = record {
  why = record {
    fits = returns_weaker code (IsReturnBelow ys l.rank) (IsReturnBelow xs l.rank) (moved_back xs ys same alike l.rank) l.at l.why settled.why.fits;
    first = λ why fits. settled.why.first why (returns_weaker code (IsReturnBelow xs l.rank) (IsReturnBelow ys l.rank) (moved xs ys same alike l.rank) l.at why fits);
  };
  least = λ rank why lt fits. settled.least rank why lt (returns_weaker code (IsReturnBelow xs rank) (IsReturnBelow ys rank) (moved xs ys same alike rank) l.at why fits);
}

pub at_rest : (code : InstructionMap) (start lines next : List ReturnLine) → AreAt code start lines → map at_of next ≡ map at_of lines → All (IsSettledReturn code lines) next → HaveSameRanks next lines → AreSettledBy code next start next
at_rest code start lines next are same settled ranks = record {
  same = same ∙ are.same;
  settled = λ i d lt. settled_by_same code next lines same ranks (get_or next i d) (settled i d lt);
}
