-- The lines of the terminators that return, in their list.
use Rattle.std.proofs.Common.{◌≡◌, ℕ, ◌<◌, ◌↔◌, List, map, length, get_or, sym, subst, ap, ◌∙◌, arith}
use Rattle.std.specs.Prelude.{All, Contains, IsSome}
use Rattle.std.specs.List.Sorted.{IsStrictlyIncreasing}
use Rattle.std.proofs.lemmas.List.{length-map, get_or_default}
use Rattle.std.proofs.Math.ListN.{get_or-map}
use Rattle.cert_text.specs.declared.lines.ReturnLine.{ReturnLine}
use Rattle.cfg_model.specs.Program.Instructions.{InstructionMap}
use Rattle.cfg_model.specs.Program.Chain.{IsTerminator}
use Rattle.cert_ends.proofs.ListedEnds.{terminator_stands}
use Rattle.cert_laws.specs.Lines.{IsReturn}
use Rattle.cert_ends.specs.Places.{ReturnsRise}
use Rattle.cert_ends.proofs.Adjacent.{rise_on}
use Rattle.cert_ends.proofs.Placed.{no_return}
use Rattle.cert_make.specs.Canonical.{IsReturnLine, ListsLines, ReturnsReached}
use Rattle.cert_make.specs.Inner.Returns.{AreSettledBy, ListAllReturns}
use Rattle.cert_make.proofs.Rows.{at_of}
use Rattle.cert_make.proofs.ExactReturns.{right}

pub start_rises : (returns : List ℕ) (start : List ReturnLine) → map at_of start ≡ returns → IsStrictlyIncreasing returns → ReturnsRise start
start_rises returns start same up = rise_on at_of start no_return (rw same up)

pub start_stands : (code : InstructionMap) (returns : List ℕ) (start : List ReturnLine) → map at_of start ≡ returns → All (IsTerminator code) returns → All (λ (l : ReturnLine). IsSome (code l.at)) start
start_stands code returns start same ends i d lt =
    let long : length (map at_of start) ≡ length start = length-map start at_of in
    let other : length (map at_of start) ≡ length returns = ap length same in
    let is : get_or returns i (at_of d) ≡ (get_or start i d).at = ap (λ (ns : List ℕ). get_or ns i (at_of d)) (sym same) ∙ get_or-map at_of start i d in
    terminator_stands code (get_or start i d).at (subst (IsTerminator code) is (ends i (at_of d) (omega arith)))

-- an address of a line, and back
at_listed : (lines : List ReturnLine) (l : ReturnLine) → Contains lines l → Contains (map at_of lines) l.at
at_listed lines l listed =
    let long : length (map at_of lines) ≡ length lines = length-map lines at_of in
    (listed.0, let lt = listed.1 in omega arith, get_or_default (map at_of lines) listed.0 l.at l.at (let lt = listed.1 in omega arith) ∙ get_or-map at_of lines listed.0 l ∙ ap at_of listed.2)

pub listed_at : (lines : List ReturnLine) (k : ℕ) → Contains (map at_of lines) k → IsReturn lines k
listed_at lines k listed =
    let long : length (map at_of lines) ≡ length lines = length-map lines at_of in
    let lt = listed.1 in
    let inside : listed.0 < length lines = omega arith in
    record {
      line = get_or lines listed.0 no_return;
      listed = (listed.0, inside, get_or_default lines listed.0 (get_or lines listed.0 no_return) no_return inside);
      address = sym (get_or-map at_of lines listed.0 no_return) ∙ get_or_default (map at_of lines) listed.0 no_return.at k lt ∙ listed.2;
    }

pub return_in : (lines : List ReturnLine) (k : ℕ) → IsReturn lines k → Contains (map at_of lines) k
return_in lines k return = subst (λ (a : ℕ). Contains (map at_of lines) a) return.address (at_listed lines return.line return.listed)

-- the lines of all that return
pub all_listed : (code : InstructionMap) (seeds returns : List ℕ) (lines : List ReturnLine) → map at_of lines ≡ returns → ((k : ℕ) → Contains returns k ↔ ReturnsReached code seeds k) → ListAllReturns code seeds lines
all_listed code seeds returns lines at exact k = (
  λ return. (exact k).0 (subst (λ (ks : List ℕ). Contains ks k) at (return_in lines k return)),
  λ here. listed_at lines k (subst (λ (ks : List ℕ). Contains ks k) (sym at) ((exact k).1 here)),
)

pub canonical_returns : (code : InstructionMap) (returns : List ℕ) (start lines : List ReturnLine) → map at_of start ≡ returns → IsStrictlyIncreasing returns → AreSettledBy code lines start lines → (seeds : List ℕ) → ((k : ℕ) → Contains returns k ↔ ReturnsReached code seeds k)
    → ListsLines at_of (ReturnsReached code seeds) (IsReturnLine code) lines
canonical_returns code returns start lines at up settled seeds exact =
    let same : map at_of lines ≡ returns = settled.same ∙ at in
    let sound : (l : ReturnLine) → Contains lines l → ReturnsReached code seeds l.at = λ l listed. (exact l.at).0 (subst (λ (ks : List ℕ). Contains ks l.at) same (at_listed lines l listed)) in
    let among : (k : ℕ) → ReturnsReached code seeds k → IsReturn lines k = λ k here. listed_at lines k (subst (λ (ks : List ℕ). Contains ks k) (sym same) ((exact k).1 here)) in
    record {
      rises = rw same up;
      among = sound;
      right = right code seeds lines settled.settled sound among (start_rises returns lines same up);
      complete = λ k here. let found = among k here in (found.line, found.listed, found.address);
    }
