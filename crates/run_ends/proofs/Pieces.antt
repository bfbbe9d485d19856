-- One piece written after another.
use Rattle.std.proofs.Common.{◌≡◌, ℕ, [], append-nil, suc, ◌+◌, ◌<◌, List, ◌∷◌, ◌++◌, length, take, drop, drop-cons, get_or, Option, Some, None, refl, sym, ap, subst, ◌∙◌, arith, length-append, append_assoc}
use Rattle.std.specs.Prelude.{Result, Ok, Err, OnErr, OnOk, Vec}
use Rattle.std.specs.List.{flat_map}
use Rattle.std.specs.declared.alloc.Global.{Global}
use Rattle.std.specs.Option.{option_map}
use Rattle.std.proofs.lemmas.List.{take-append-le}
use Rattle.std.proofs.Math.Seq.{take-append-add}
use Rattle.cfg_io.specs.Told.{Appends, AppendsPrefix}
use Rattle.run_ends.specs.Told.{Moves}

-- Nothing was appended.
pub appends-nothing : (old : Option (List ℕ)) → Appends old [] old
appends-nothing None = refl
appends-nothing (Some had) = ap (λ xs. Some xs) (sym (append-nil had))

pub on_err : {A B : Type 0} {P : Type 0} (r : Result A B) → P → OnErr r P
on_err (Ok x) p = tt
on_err (Err e) p = p

-- both pieces were appended
pub both_appended : (old mid new : Option (List ℕ)) (a b : List ℕ) → Appends old a mid → Appends mid b new → Appends old (a ++ b) new
both_appended None mid new a b first second = second ∙ ap (λ o. option_map (λ had. had ++ b) o) first
both_appended (Some had) mid new a b first second =
    second ∙ ap (λ o. option_map (λ have. have ++ b) o) first ∙ ap (λ xs. Some xs) (append_assoc had a b)

-- a part of a is a part of a ++ b
pub prefix_more : (old new : Option (List ℕ)) (a b : List ℕ) → AppendsPrefix old a new → AppendsPrefix old (a ++ b) new
prefix_more old new a b (n, below, is) =
    (n, omega (arith, length-append a b), is ∙ ap (λ part. option_map (λ had. had ++ part) old) (sym (take-append-le n a b (omega arith))))

-- all of a and a part of b
pub prefix_behind : (old mid new : Option (List ℕ)) (a b : List ℕ) → Appends old a mid → AppendsPrefix mid b new → AppendsPrefix old (a ++ b) new
prefix_behind old mid new a b first (n, below, is) = (
  length a + n,
  omega (arith, length-append a b),
  both_appended old mid new a (take n b) first is ∙ ap (λ part. option_map (λ had. had ++ part) old) (sym (take-append-add a b n)),
)

pub on_err_map : {A B : Type 0} {P Q : Type 0} (r : Result A B) → (P → Q) → OnErr r P → OnErr r Q
on_err_map (Ok x) f p = tt
on_err_map (Err e) f p = f p

-- the bytes of a text, and those of the texts behind it
pub text_and_rest : (texts : List (Vec ℕ Global)) (i : ℕ) (text : Vec ℕ Global) (bytes : List ℕ) → text ≡ get_or texts i text → i < length texts → bytes ≡ text.items
    → bytes ++ flat_map (λ t. t.items) (drop (i + 1) texts) ≡ flat_map (λ t. t.items) (drop i texts)
text_and_rest texts i text bytes is within same =
    let next : i + 1 ≡ suc i = omega arith in
    rw (same, next)
    (sym (ap (λ (ts : List (Vec ℕ Global)). flat_map (λ t. t.items) ts)
    (drop-cons texts i text within ∙ ap (λ (t : Vec ℕ Global). t ∷ drop (suc i) texts) (sym is))))

-- nothing moved
pub moves_nothing : (old : Option (List ℕ)) (text : List ℕ) → Moves old old text text
moves_nothing old text = ([], appends-nothing old, refl)

-- what was left moved on
pub moves_on : (old mid new : Option (List ℕ)) (text left rest : List ℕ) → Moves old mid text left → Moves mid new left rest → Moves old new text rest
moves_on old mid new text left rest (done, appended, all) (more, further, is) =
    (done ++ more, both_appended old mid new done more appended further, append_assoc done more rest ∙ ap (λ xs. done ++ xs) is ∙ all)

-- behind the text there was more
pub moves_before : (old new : Option (List ℕ)) (text left more : List ℕ) → Moves old new text left → Moves old new (text ++ more) (left ++ more)
moves_before old new text left more (done, appended, all) = (done, appended, sym (append_assoc done left more) ∙ ap (λ xs. xs ++ more) all)

-- what was left was written
pub moves_whole : (old mid new : Option (List ℕ)) (text left : List ℕ) → Moves old mid text left → Appends mid left new → Appends old text new
moves_whole old mid new text left (done, appended, all) wrote = subst (λ (xs : List ℕ). Appends old xs new) all (both_appended old mid new done left appended wrote)

-- a part of what was left was written
pub moves_part : (old mid new : Option (List ℕ)) (text left : List ℕ) → Moves old mid text left → AppendsPrefix mid left new → AppendsPrefix old text new
moves_part old mid new text left (done, appended, all) part = subst (λ (xs : List ℕ). AppendsPrefix old xs new) all (prefix_behind old mid new done left appended part)

-- what was written before the pieces, the piece and what is left
pub piece_moves : (old mid new : Option (List ℕ)) (text before pieces piece left now : List ℕ) → Moves old mid text (before ++ pieces) → Moves mid new (before ++ piece) now
    → piece ++ left ≡ pieces → Moves old new text (now ++ left)
piece_moves old mid new text before pieces piece left now moved next all =
    let further : Moves mid new ((before ++ piece) ++ left) (now ++ left) = moves_before mid new (before ++ piece) now left next in
    let same : (before ++ piece) ++ left ≡ before ++ pieces = append_assoc before piece left ∙ ap (λ xs. before ++ xs) all in
    moves_on old mid new text (before ++ pieces) (now ++ left) moved (subst (λ (xs : List ℕ). Moves mid new xs (now ++ left)) same further)

-- the part of a piece that was written is a part of what there was
pub piece_part : (old mid new : Option (List ℕ)) (text before pieces piece left : List ℕ) → Moves old mid text (before ++ pieces) → AppendsPrefix mid (before ++ piece) new
    → piece ++ left ≡ pieces → AppendsPrefix old text new
piece_part old mid new text before pieces piece left moved part all =
    let same : (before ++ piece) ++ left ≡ before ++ pieces = append_assoc before piece left ∙ ap (λ xs. before ++ xs) all in
    moves_part old mid new text (before ++ pieces) moved
    (subst (λ (xs : List ℕ). AppendsPrefix mid xs new) same (prefix_more mid new (before ++ piece) left part))

pub on_ok_map : {A B : Type 0} {P Q : Type 0} (r : Result A B) → (P → Q) → OnOk r P → OnOk r Q
on_ok_map (Ok x) f p = f p
on_ok_map (Err e) f p = p
