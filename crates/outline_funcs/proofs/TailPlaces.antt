-- The places of the tail calls among edges, and the list in which the kinds at these are set.
use Rattle.std.proofs.Common.{◌≡◌, ℕ, suc, ◌+◌, ◌*◌, ◌<◌, ◌≤◌, List, [], ◌∷◌, ◌++◌, length, take, get_or, set, Ok, Err, IfSome, slice_get, refl, sym, ap, ◌∙◌, subst, inl, inr, ⊎_elim, arith, length-set, get_or-set_same, get_or-set_other, zero-mul, suc-mul}
use Rattle.std.specs.Prelude.{IfOk}
use Rattle.std.specs.List.{All, Contains, flat_map}
use Rattle.std.proofs.lemmas.Bool.{cases_eq, cases_lt}
use Rattle.std.proofs.lemmas.List.{get_or_default, take_more}
use Rattle.std.proofs.lemmas.List.Elements.{All-nil, All-push, All-append, All-contains, Contains-push, Contains-push_cases, Contains-append_left, Contains-append_right}
use Rattle.std.proofs.lemmas.Option.{slice_get-get_or}
use Rattle.cfg_model.specs.declared.graph.Edge.{Edge}
use Rattle.cfg_model.specs.declared.graph.EdgeKind.TheVariants as kinds
use Rattle.cfg_model.specs.declared.graph.Function.{Function}
use Rattle.cfg_model.proofs.Graphs.Lists.{Contains-none}
use Rattle.outline_funcs.specs.Tails.{IsTailAmong, IsMarkOf, AreMarksOf}
use Rattle.outline_funcs.specs.Inner.Marking.{IsTailAt, ListsTails, AnswerTails, IsTailWhere, AreTailsAt}
use Rattle.parallel.specs.Lists.{Answered, AreMade, made_in}

-- tail calls that are listed

module _ (functions : List Function) (edges : List Edge) where
  pub tail_at : (i : ℕ) (d : Edge) → i < length edges → IsTailAmong functions (get_or edges i d)
      → IsTailAt functions edges i
  tail_at i d lt tail = record {
    within = lt;
    tail = λ e. subst (IsTailAmong functions) (get_or_default edges i d e lt) tail;
  }

  none_listed : (start : ℕ) → ListsTails functions edges start start []
  none_listed start = record {
    sound = All-nil (IsTailAt functions edges);
    complete = λ k le lt. absurd (omega arith);
  }

  -- a place with a tail call

  pushed : (start i : ℕ) (places : List ℕ) → IsTailAt functions edges i
      → ListsTails functions edges start i places
      → ListsTails functions edges start (i + 1) (places ++ i ∷ [])
  pushed start i places here before = record {
    sound = All-push (IsTailAt functions edges) places i before.sound here;
    complete = λ k le lt at.
        elim (cases_eq k i) [
          | inl e ↦ subst (Contains (places ++ i ∷ [])) (sym e) (Contains-push places i)
          | inr ne ↦ Contains-append_left places (i ∷ []) k (before.complete k le (omega arith) at)
        ];
  }

  pub one_listed : (start i : ℕ) (places new : List ℕ) → new ≡ places ++ i ∷ []
      → IsTailAt functions edges i → ListsTails functions edges start i places
      → ListsTails functions edges start (i + 1) new
  one_listed start i places new is here before =
      subst (ListsTails functions edges start (i + 1)) (sym is) (pushed start i places here before)

  -- places without a tail call

  more_listed : (start i until : ℕ) (places : List ℕ)
      → ((k : ℕ) → i ≤ k → k < until → ¬ IsTailAt functions edges k)
      → ListsTails functions edges start i places → ListsTails functions edges start until places
  more_listed start i until places none before = record {
    sound = before.sound;
    complete = λ k le lt at.
        elim (cases_lt k i) [
          | inl below ↦ before.complete k le below at
          | inr past ↦ absurd (none k past lt at)
        ];
  }

  pub none_more : (start i : ℕ) (d : Edge) (places : List ℕ)
      → ¬ IsTailAmong functions (get_or edges i d) → ListsTails functions edges start i places
      → ListsTails functions edges start (i + 1) places
  none_more start i d places none before =
      more_listed start i (i + 1) places
      (λ k past lt at.
      let same : k ≡ i = omega arith in
      none (subst (λ n. IsTailAmong functions (get_or edges n d)) same (at.tail d)))
      before

  -- one part after another

  both_listed : (start mid until : ℕ) (xs ys : List ℕ) → ListsTails functions edges start mid xs
      → ListsTails functions edges mid until ys → ListsTails functions edges start until (xs ++ ys)
  both_listed start mid until xs ys one other = record {
    sound = All-append (IsTailAt functions edges) xs ys one.sound other.sound;
    complete = λ k le lt at.
        elim (cases_lt k mid) [
          | inl below ↦ Contains-append_left xs ys k (one.complete k le below at)
          | inr past ↦ Contains-append_right xs ys k (other.complete k past lt at)
        ];
  }

  module _ (size : ℕ) where
    -- the part that begins at this place has an answer, which lists the tail calls in it
    abbrev AnswersFrom : ℕ → Answered ℕ → Type 0
    AnswersFrom start answer =
        IfOk answer (λ v. ListsTails functions edges start (start + size) v.items)

    made_listed : (start : ℕ) (answer : Answered ℕ) → AnswersFrom start answer → AreMade answer
        → ListsTails functions edges start (start + size) (made_in answer)
    made_listed start (Ok places) is made = is
    made_listed start (Err e) is made = absurd (cc)

    parts_listed : (start : ℕ) (answers : List (Answered ℕ))
        → ((n : ℕ) (d : Answered ℕ) → n < length answers
        → AnswersFrom (start + n * size) (get_or answers n d))
        → All AreMade answers
        → ListsTails functions edges start (start + length answers * size)
        (flat_map made_in answers)
    parts_listed start [] each made =
        let end : start ≡ start + 0 * size = omega (arith, zero-mul size) in
        subst (λ until. ListsTails functions edges start until []) end (none_listed start)
    parts_listed start (answer ∷ answers) each made =
        let rest : List ℕ = flat_map made_in answers in
        let next : ℕ = start + size in
        let first : AnswersFrom start answer =
        subst (λ at. AnswersFrom at answer) (omega (arith, zero-mul size))
        (each 0 answer (omega arith)) in
        let one = made_listed start answer first (made 0 answer (omega arith)) in
        let later : ListsTails functions edges next (next + length answers * size) rest =
        parts_listed next answers
        (λ n d lt.
        subst (λ at. AnswersFrom at (get_or answers n d)) (omega (arith, suc-mul n size))
        (each (suc n) d (omega (arith, lt))))
        (λ k d lt. made (suc k) d (omega (arith, lt))) in
        let end : next + length answers * size ≡ start + suc (length answers) * size =
        omega (arith, suc-mul (length answers) size) in
        subst (λ until. ListsTails functions edges start until (made_in answer ++ rest)) end
        (both_listed start next (next + length answers * size) (made_in answer) rest one later)

    pub all_listed : (answers : List (Answered ℕ)) (first : List ℕ) (answer : Answered ℕ)
        → first ≡ [] → AnswerTails functions edges size answers
        → IfOk answer (λ v. All AreMade answers)
        → IfOk answer (λ v. v.items ≡ first ++ flat_map made_in answers)
        → IfOk answer (λ v. ListsTails functions edges 0 (length edges) v.items)
    all_listed answers first (Ok places) none parts made is =
        let all : List ℕ = flat_map made_in answers in
        let whole : places.items ≡ all = is ∙ ap (λ (xs : List ℕ). xs ++ all) none in
        let enough : length edges ≤ length answers * size = parts.all in
        let listed : ListsTails functions edges 0 (0 + length answers * size) all =
        parts_listed 0 answers
        (λ n d lt.
        subst (λ at. AnswersFrom at (get_or answers n d)) (omega arith) (parts.each n d lt))
        made in
        subst (ListsTails functions edges 0 (length edges)) (sym whole)
        (more_listed 0 _ (length edges) all (λ k past lt. absurd (omega arith)) listed)
    all_listed answers first (Err e) none parts made is = tt

-- edges whose kinds are set

set_again : {P Q : Type 0} {edge : Edge} {x : Edge} → Q → IsTailWhere P edge x
    → IsTailWhere Q edge (record x { kind = kinds.Tail })
set_again q (IsTailWhere.tail p) = IsTailWhere.tail q
set_again q (IsTailWhere.same none) = IsTailWhere.tail q

same_where : {P Q : Type 0} {edge : Edge} {x : Edge} → (P → Q) → (Q → P) → IsTailWhere P edge x
    → IsTailWhere Q edge x
same_where there back (IsTailWhere.tail p) = IsTailWhere.tail (there p)
same_where there back (IsTailWhere.same none) = IsTailWhere.same (λ q. none (back q))

pub none_set : (edges : List Edge) → AreTailsAt [] edges edges
none_set edges = record {
  same_length = refl;
  each = λ k d lt. IsTailWhere.same (Contains-none k);
}

-- one more place, which may be among the earlier ones
one_set : (places : List ℕ) (place : ℕ) (d : Edge) (old mid : List Edge) → place < length mid
    → AreTailsAt places old mid
    → AreTailsAt (places ++ place ∷ []) old
    (set mid place (record (get_or mid place d) { kind = kinds.Tail }))
one_set places place d old mid within before =
    let more : List ℕ = places ++ place ∷ [] in
    let tail : Edge = record (get_or mid place d) { kind = kinds.Tail } in
    record {
      same_length = length-set mid place tail ∙ before.same_length;
      each = λ k e lt.
          elim (cases_eq k place) [
            | inl same ↦
                let there : get_or mid place d ≡ get_or mid k e =
                get_or_default mid place d e within ∙ ap (λ n. get_or mid n e) (sym same) in
                let is : get_or (set mid place tail) k e
                ≡ record (get_or mid k e) { kind = kinds.Tail } =
                ap (λ n. get_or (set mid place tail) n e) same
                ∙ get_or-set_same mid place tail e within
                ∙ ap (λ (x : Edge). record x { kind = kinds.Tail }) there in
                let listed : Contains more k =
                subst (Contains more) (sym same) (Contains-push places place) in
                subst (IsTailWhere (Contains more k) (get_or old k e)) (sym is)
                (set_again listed (before.each k e lt))
            | inr ne ↦
                subst (IsTailWhere (Contains more k) (get_or old k e))
                (sym (get_or-set_other mid place k tail e ne))
                (same_where (Contains-append_left places (place ∷ []) k)
                (λ h.
                ⊎_elim (λ there. there) (λ same. absurd (ne (sym same)))
                (Contains-push_cases places place k h))
                (before.each k e lt))
          ];
    }

pub next_set : (places : List ℕ) (i : ℕ) (old mid new : List Edge) → i < length places
    → get_or places i 0 < length mid → AreTailsAt (take i places) old mid
    → IfSome (slice_get mid (get_or places i 0))
    (λ (edge : Edge). new ≡ set mid (get_or places i 0) (record edge { kind = kinds.Tail }))
    → AreTailsAt (take (i + 1) places) old new
next_set places i old mid new lt within before sets =
    let place : ℕ = get_or places i 0 in
    let none : Edge = record { from = 0; to = 0; kind = kinds.Fall } in
    let marked : List Edge = set mid place (record (get_or mid place none) { kind = kinds.Tail }) in
    let is : new ≡ marked =
    subst
    (λ o. IfSome o (λ (edge : Edge). new ≡ set mid place (record edge { kind = kinds.Tail })))
    (slice_get-get_or mid place none within) sets in
    subst (AreTailsAt (take (i + 1) places) old) (sym is)
    (subst (λ l. AreTailsAt l old marked) (sym (take_more places i 0 lt))
    (one_set (take i places) place none old mid within before))

-- tail calls that are listed, and whose kinds are set, are marked

mark_where : {P : Type 0} (functions : List Function) (edge : Edge) {x : Edge}
    → (P → IsTailAmong functions edge) → (IsTailAmong functions edge → P) → IsTailWhere P edge x
    → IsMarkOf functions edge x
mark_where functions edge there back (IsTailWhere.tail p) = IsMarkOf.tail (there p)
mark_where functions edge there back (IsTailWhere.same none) = IsMarkOf.same (λ t. none (back t))

pub marks_listed : (functions : List Function) (places : List ℕ) (old new : List Edge)
    → ListsTails functions old 0 (length old) places → AreTailsAt places old new
    → AreMarksOf functions old new
marks_listed functions places old new listed sets = record {
  same_length = sets.same_length;
  marked = λ k d lt.
      mark_where functions (get_or old k d)
      (λ h. (All-contains (IsTailAt functions old) places k listed.sound h).tail d)
      (λ t. listed.complete k (omega arith) lt (tail_at functions old k d lt t))
      (sets.each k d lt);
}
