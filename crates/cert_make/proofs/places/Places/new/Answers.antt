use Rattle.std.proofs.Common.{ℕ, ◌+◌, ◌≤◌, List, length, set, sym, subst, refl, arith}
use Rattle.std.specs.Prelude.{All, IsSome}
use Rattle.std.specs.List.Sorted.{IsStrictlyIncreasing}
use Rattle.std.proofs.lemmas.List.Kept.{AllPairs-from_increasing}
use Rattle.cfg_model.specs.Program.Instructions.{InstructionMap}
use Rattle.numbered.specs.Numbering.{IsNumbering, NumbersRise}
use Rattle.cert_ends.proofs.Few.{no_more}
use Rattle.cert_make.proofs.Placed.{AreKept, more_kept, placed}
use Rattle.cert_make.proofs.places.Places.new.Goals as goal

few : (map : InstructionMap) (number : ℕ → ℕ) (count : ℕ) (addresses : List ℕ) → IsNumbering map number count → NumbersRise map number → IsStrictlyIncreasing addresses → All (λ a. IsSome (map a)) addresses → length addresses ≤ count
few map number count addresses numbering up rise stand =
    no_more map number count (λ a. a) numbering up addresses (AllPairs-from_increasing addresses rise) stand

pub overflow_cast-i : goal.overflow_cast-i
overflow_cast-i g c =
    omega (arith, c.loop-i-test.true, few (g.C.Chains.map c.args.code.now) (g.C.Numbered.number c.args.code.now) c.numbers.result c.args.addresses.now c.numbers.ensures.numbers c.numbers.ensures.rise c.requires.rise c.requires.stand)

pub overflow_add-i : goal.overflow_add-i
overflow_add-i g c =
    omega (arith, c.loop-i-test.true, few (g.C.Chains.map c.args.code.now) (g.C.Numbered.number c.args.code.now) c.numbers.result c.args.addresses.now c.numbers.ensures.numbers c.numbers.ensures.rise c.requires.rise c.requires.stand)

pub loop-i-preserved : goal.loop-i-preserved
loop-i-preserved g c =
    let map = g.C.Chains.map c.args.code.now in
    let number = g.C.Numbered.number c.args.code.now in
    let addresses = c.args.addresses.now in
    subst (λ n. AreKept map number addresses (c.loop-i.i + 1) (set c.loop-i.places.items n (c.loop-i.i + 1))) (sym c.number.ensures)
    (more_kept map number addresses c.requires.rise c.requires.stand c.loop-i.i c.loop-i.places.items _ c.loop-i-test.true refl c.loop-i.invariant)

pub returns-clause-placed : goal.returns-clause-placed
returns-clause-placed g c =
    placed (g.C.Chains.map c.args.code.now) (g.C.Numbered.number c.args.code.now) _ c.loop-i.i c.requires.rise c.requires.stand
    (omega (arith, c.loop-i-test.false, c.loop-i.auto.i-end)) c.loop-i.invariant
