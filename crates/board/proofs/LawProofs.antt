-- Proofs of the laws of a board.
use Rattle.std.proofs.Common.{◌≡◌, ◌≢◌, ⊎_elim, ℕ, zero, suc, List, [], ◌∷◌, map, get_or, Bool, true, false, eqb, Option, Some, None, refl, sym, ap, ◌∙◌, subst}
use Rattle.std.proofs.lemmas.Bool.{cases_eq}
use mathlib.Core.Option.{some, some-injective, some-ne-none}
use lib.ListN.{get_elem?}
use Rattle.atomic_table.specs.Table.{Me, State}
use Rattle.board.specs.Locks.Share.{Share, AddUpToOne}
use Rattle.board.specs.Locks.TurnView.{TurnView}
use Rattle.board.proofs.Locks.Touches.{sound_of, alone}
use Rattle.cfg_model.specs.Program.Instructions.{InstructionMap}
use Rattle.board.specs.declared.view.View.{View}
use Rattle.board.specs.declared.piece.Piece.{Piece}
use Rattle.std.specs.Prelude.{IsSome, MatchBool}
use Rattle.board.specs.Slots.{slot_of}
use Rattle.board.specs.Seat.{Notes, SeatState, Values, HoldsNothing, HoldsShard, with_shard, without_shard}
use Rattle.board.specs.Calls.{HeldShard}
use Rattle.board.specs.Rule.{IsKept, turn_of, turns_of}
use Rattle.board.specs.Plays.{values_at, giving}
use Rattle.board.specs.BoardLaws.{TakenIsHeldByOne, HeldOnce, IsTogether, AllTogetherAreKept, KnownHolds, SharesAddUp, FirstKnowsNothing, LettingGoUndoesHolding, TriesAreCounted, OtherStepsMoveNoCount}
use Rattle.board.proofs.Keeping.{fits, turn_read, turn_at}
use Rattle.board.proofs.Steps.{marked}
use Rattle.board.proofs.Ends.{nothing_held}
use Rattle.board.proofs.Rounds.{set_twice, set_none, no_value}

-- what follows from either case of a test
in_each_case : {A B C D : Type 0} → (A → C) → (B → D) → (b : Bool) → MatchBool b A B → MatchBool b C D
in_each_case f g true x = f x
in_each_case f g false x = g x

-- a seat as the laws of turns see it is one of the board
seat_of : (views : List View) (id : ℕ) (u : TurnView) → get_elem? (map turn_of views) id ≡ some u → (v : View) × (get_elem? views id ≡ some v) × (turn_of v ≡ u)
seat_of [] id u e = absurd (some-ne-none u (sym e))
seat_of (v ∷ vs) zero u e = (v, refl, some-injective (turn_of v) u e)
seat_of (v ∷ vs) (suc id) u e = seat_of vs id u e

same_shares : (views : List View) → map (λ (u : TurnView). u.share) (map turn_of views) ≡ map (λ (v : View). v.notes.share) views
same_shares [] = refl
same_shares (v ∷ vs) = ap (λ (l : List Share). v.notes.share ∷ l) (same_shares vs)

module _ (code : InstructionMap) (seeds : List ℕ) where
  pub taken_is_held : TakenIsHeldByOne code seeds
  taken_is_held s kept slot below set_now =
      let one = kept.turns.taken slot below (λ e. set_now (sym (turn_read s slot below) ∙ e)) in
      let x = seat_of s.views one.id one.view one.there in record {
        id = one.id;
        view = x.0;
        there = x.1;
        holds = sym (marked x.0.notes slot) ∙ (ap (λ (u : TurnView). get_or u.holds slot false) x.2 ∙ one.holds);
        alone = λ other v at apart has. one.alone other (turn_of v) (turn_at s other v at) apart (marked v.notes slot ∙ has);
      }

  pub held_once : HeldOnce code seeds
  held_once s kept slot below id other v w at there mine theirs =
      ⊎_elim
      (λ e. e)
      (λ (n : other ≢ id). absurd (alone (fits kept.whole) 192 (turns_of s) (sound_of (fits kept.whole) 192 (turns_of s) kept.turns) id (turn_of v) (turn_at s id v at) slot below (marked v.notes slot ∙ mine) other (turn_of w) (turn_at s other w there) n (marked w.notes slot ∙ theirs)))
      (cases_eq other id)

  together : (s : State (Option Piece) View) (kept : IsKept code seeds s) → IsTogether code seeds s kept.whole
  together s kept = record {
    home = λ slot below zero_now. let x = kept.turns.value slot below (turn_read s slot below ∙ zero_now) in x.1 ∙ ap (λ (p : Piece). some (some (Some p))) x.2;
    held = kept.held;
  }

  pub all_are_kept : AllTogetherAreKept code seeds
  all_are_kept s kept = (kept.whole, together s kept, kept.kept)

  pub known_holds : KnownHolds code seeds
  known_holds s kept = (kept.whole, together s kept, kept.known)

  pub shares_add_up : SharesAddUp code seeds
  shares_add_up s kept = subst AddUpToOne (same_shares s.views) kept.turns.shares

pub first_knows_nothing : (code : InstructionMap) → FirstKnowsNothing code
first_knows_nothing code board = record { nothing = nothing_held; none = λ fact h. h }

pub letting_go_undoes : LettingGoUndoesHolding
letting_go_undoes seat shard value free =
    set_twice seat.notes.holds (slot_of shard) (Some record { first = value; second = value }) None
    ∙ set_none seat.notes.holds (slot_of shard) (no_value (values_at seat.notes (slot_of shard)) free)

-- For those who hold nothing: a seat whose shards stay holds nothing, and so does one that let its shard go.
pub still_nothing : (old new : SeatState) → new.holds ≡ old.holds → HoldsNothing old → HoldsNothing new
still_nothing old new same nothing slot has = nothing slot (subst (λ (l : List (Option Values)). IsSome (get_or l slot None)) same has)

pub let_go_holds : (old held after : SeatState) (shard : HeldShard) → held ≡ with_shard old shard.shard shard.value → after ≡ without_shard held shard.shard shard.value → ¬ HoldsShard old shard.shard → after.holds ≡ old.holds
let_go_holds old held after shard won given free =
    ap (λ (s : SeatState). s.notes.holds) given
    ∙ (ap (λ (s : SeatState). (without_shard s shard.shard shard.value).notes.holds) won ∙ letting_go_undoes old shard.shard shard.value free)

-- what a seat notes
abbrev notes_of : Me (Option Piece) View → Notes
notes_of x = x.0.notes

pub tries_are_counted : (code : InstructionMap) (seeds : List ℕ) → TriesAreCounted code seeds
tries_are_counted code seeds st m found n slot word tries =
    in_each_case
    (λ took. record { won = ap (λ x. (notes_of x).won) took.is; lost = ap (λ x. (notes_of x).lost) took.is; last = ap (λ x. (notes_of x).last) took.is; seen = ap (λ x. (notes_of x).seen) took.is })
    (λ lost. ap notes_of lost.1) (eqb found 0) (tries slot word)

pub others_move_no_count : OtherStepsMoveNoCount
others_move_no_count st m found n = record {
  makes = λ slot piece word out made. let is = made slot piece word out in
      (record { won = ap (λ x. (notes_of x).won) is; lost = ap (λ x. (notes_of x).lost) is }, ap (λ x. (notes_of x).last) is);
  learns = λ is. (record { won = ap (λ x. (notes_of x).won) is; lost = ap (λ x. (notes_of x).lost) is }, ap (λ x. (notes_of x).last) is);
  leaves = λ is. ap notes_of is;
  reaches = λ slot word reached. ap notes_of (reached slot word);
  returns = λ slot values word at returned.
      let is = ap notes_of (returned slot word) ∙ ap (giving m.0.notes slot) at in
      record {
        counts = record { won = ap (λ (x : Notes). x.won) is; lost = ap (λ (x : Notes). x.lost) is };
        last = ap (λ (x : Notes). x.last) is;
        seen = ap (λ (x : Notes). x.seen) is;
      };
}
