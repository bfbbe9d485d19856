-- How a run ends: what each refusal leaves, by its kind.
use Rattle.std.proofs.Common.{◌≡◌, ℕ, List, Option, Some, None, refl, sym, subst}
use Rattle.std.specs.Prelude.{IfSome}
use Rattle.std.proofs.lemmas.Option.{IfSome_then}
use Rattle.cfg_io.specs.Told.{TakesCount}
use Rattle.run_ends.specs.declared.reading.Unread.{Unread}
use Rattle.run_ends.specs.declared.reading.Unread.TheVariants as unread
use Rattle.run_ends.specs.Told.{Grows}
use Rattle.run_ends.specs.Inputs.{OverInput}
use Rattle.run_ends.proofs.Inputs.{taken-too-large}
use Rattle.run_ends.proofs.Pieces.{appends-nothing}
use Rattle.walk_run.specs.declared.refusal.Refusal.{Refusal}
use Rattle.walk_run.specs.declared.refusal.Refusal.TheVariants as refusals
use Rattle.walk_run.specs.Words.{Asked, of_walk, path_of, AsksWalk}
use Rattle.walk_run.specs.Answer.{IsAnswer, refused_with}
use Rattle.walk_run.specs.Refusal.{status_of, refusal_of_unread}
use Rattle.walk_run.specs.Lines.{refusal_line}
use Rattle.walk_run.specs.Inner.{IsRefusalOf, IsTrueOf}
use Rattle.walk_run.specs.Run.{IsDecided, Gives, IsLineOf}

-- ---- reading

-- What reading refuses is true of the file that is asked for.
module _ (asked : Asked) where
  pub unread-true : (told new : Option (List ℕ)) (rose : Type 0) (e : Unread) → (e ≡ unread.ReadFault → rose)
      → (e ≡ unread.TooLarge → TakesCount told 67108865 new) → IsTrueOf (Some asked) told rose (refusal_of_unread e)
  unread-true told new rose unread.ReadFault failed takes = (tt, failed refl)
  unread-true told new rose unread.TooLarge failed takes = (tt, IfSome_then told (taken-too-large told new (takes refl)) (λ bytes is. IsAnswer.malformed is))
  unread-true told new rose unread.Memory failed takes = tt

  -- So is what the bytes that were read refuse.
  fault-of : (bytes : List ℕ) (rose : Type 0) (r : Refusal) → IsRefusalOf bytes r → IsTrueOf (Some asked) (Some bytes) rose r
  fault-of bytes rose refusals.Usage is = absurd is
  fault-of bytes rose (refusals.Malformed fault) is = (tt, IsAnswer.malformed is)
  fault-of bytes rose refusals.ReadFault is = absurd is
  fault-of bytes rose refusals.WriteFault is = absurd is
  fault-of bytes rose refusals.Memory is = tt
  fault-of bytes rose refusals.TooMuch is = (tt, IsAnswer.too_much is)

  untold : (rose : Type 0) (bytes : List ℕ) (r : Refusal) → IsRefusalOf bytes r → IsTrueOf (Some asked) None rose r
  untold rose bytes refusals.Usage is = absurd is
  untold rose bytes (refusals.Malformed fault) is = (tt, tt)
  untold rose bytes refusals.ReadFault is = absurd is
  untold rose bytes refusals.WriteFault is = absurd is
  untold rose bytes refusals.Memory is = tt
  untold rose bytes refusals.TooMuch is = (tt, tt)

  pub fault-true : (told : Option (List ℕ)) (bytes : List ℕ) (rose : Type 0) (r : Refusal) → IfSome told (λ b. b ≡ bytes) → IsRefusalOf bytes r
      → IsTrueOf (Some asked) told rose r
  fault-true None bytes rose r same is = untold rose bytes r is
  fault-true (Some b) bytes rose r same is = subst (λ (x : List ℕ). IsTrueOf (Some asked) (Some x) rose r) (sym same) (fault-of bytes rose r is)

-- ---- refusing

-- What holds of the bytes that the input tells holds over the bytes that count for a walk.
pub over-told : (asked : Option Asked) (told : Option (List ℕ)) (P : List ℕ → Type 0) → AsksWalk asked → IfSome told P → OverInput (path_of asked) told P
over-told None told P asks holds = absurd asks
over-told (Some (of_walk steps path)) told P asks holds = λ bytes are. subst (λ (t : Option (List ℕ)). IfSome t P) are holds

pub decided-true : (asked : Option Asked) (told : Option (List ℕ)) (rose : Type 0) (r : Refusal) (old : Option (List ℕ)) (Error : List ℕ → Type 0)
    → IsTrueOf asked told rose r → Error (refusal_line r) → OverInput (path_of asked) told (λ bytes. IsDecided (status_of r) → Gives bytes asked (status_of r) (Grows old old) Error)
decided-true asked told rose refusals.Usage old Error is line = λ bytes are _. record {
  answer = refused_with refusals.Usage;
  is_answer = subst (λ (a : Option Asked). IsAnswer bytes a (refused_with refusals.Usage)) (sym is) IsAnswer.usage;
  status = refl;
  output = appends-nothing old;
  error = line;
}
decided-true asked told rose (refusals.Malformed fault) old Error is line = λ bytes are _. record {
  answer = refused_with (refusals.Malformed fault);
  is_answer = over-told asked told (λ b. IsAnswer b asked (refused_with (refusals.Malformed fault))) is.0 is.1 bytes are;
  status = refl;
  output = appends-nothing old;
  error = line;
}
decided-true asked told rose refusals.TooMuch old Error is line = λ bytes are _. record {
  answer = refused_with refusals.TooMuch;
  is_answer = over-told asked told (λ b. IsAnswer b asked (refused_with refusals.TooMuch)) is.0 is.1 bytes are;
  status = refl;
  output = appends-nothing old;
  error = line;
}
decided-true asked told rose refusals.ReadFault old Error is line = λ bytes are no. absurd no
decided-true asked told rose refusals.WriteFault old Error is line = λ bytes are no. absurd no
decided-true asked told rose refusals.Memory old Error is line = λ bytes are no. absurd no

-- The line of a refusal is that of its status.
pub line-of : (r : Refusal) → IsLineOf (status_of r) (refusal_line r)
line-of refusals.Usage = refl
line-of (refusals.Malformed fault) = (fault, refl)
line-of refusals.ReadFault = refl
line-of refusals.WriteFault = refl
line-of refusals.Memory = refl
line-of refusals.TooMuch = refl
