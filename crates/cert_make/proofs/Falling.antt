-- The fronts that come to the leaders, as one block after another hands its own on.
use Rattle.std.proofs.Common.{◌≡◌, ℕ, ◌+◌, ◌<◌, ◌≤◌, ◌≢◌, ◌⊎◌, List, Option, Some, None, Vec, Global, [], length, get_or, set, refl, sym, subst, ap, ◌∙◌, inl, inr, arith}
use Rattle.std.specs.Prelude.{All, Contains, IsSome}
use Rattle.std.proofs.lemmas.Bool.{cases_eq}
use Rattle.std.proofs.lemmas.List.{get_or_default, get_or-set_same, get_or-set_other}
use Rattle.cfg_model.specs.Program.Instructions.{InstructionMap, IsLawful, length_at}
use Rattle.cfg_model.specs.declared.flow.Flow.TheVariants.{Straight}
use Rattle.cfg_model.proofs.Program.Code.{flow_stands}
use Rattle.cfg_model.proofs.Graphs.LeaderFacts.{has_length}
use Rattle.cert_text.specs.declared.lines.LeadLine.{LeadLine}
use Rattle.cert_laws.specs.Lines.{IsLead}
use Rattle.cert_ends.specs.Places.{AreLeads, IsPlace}
use Rattle.cert_ends.proofs.Placed.{place_at, place_of_line, one_place}
use Rattle.cert_make.specs.Reason.{MeetsBy}
use Rattle.cert_make.specs.declared.fronts.Source.{Source}
use Rattle.cert_make.specs.declared.runs.Run.{Run}
use Rattle.cert_make.specs.Inner.Runs.{AreRuns, IsUpstream, run_at}
use Rattle.cert_make.specs.Inner.Fronts.{IsFrontOf, IsSource, Falls, AreFallen, AreOpen}
use Rattle.cert_make.proofs.Along.{falls_before, falls_meet, later, meet_falls, onward, upstream_made, upstream_parts}
use Rattle.cert_make.proofs.Sources.{front_same, front_both, front_through, front_empty}

abbrev Front : Type 0
Front = Vec Source Global

abbrev source_by : ℕ → ℕ → Source
source_by rank lead = record { rank = rank; lead = lead }

-- a source of a leader is one for all that is the same of leaders
source_same : (lines : List LeadLine) (A B : ℕ → Type 0) → ((p : ℕ) → IsLead lines p → A p → B p) → (s : Source) → IsSource lines A s → IsSource lines B s
source_same lines A B more s is = record {
  line = is.line;
  listed = is.listed;
  rank = is.rank;
  lead = is.lead;
  among = more is.line.at (record { line = is.line; listed = is.listed; address = refl }) is.among;
}

same_front : (lines : List LeadLine) (A B : ℕ → Type 0) (front : List Source) → ((p : ℕ) → IsLead lines p → A p → B p) → ((p : ℕ) → IsLead lines p → B p → A p) → IsFrontOf (IsSource lines A) front → IsFrontOf (IsSource lines B) front
same_front lines A B front there back is = front_same (IsSource lines A) (IsSource lines B) front (source_same lines A B there) (source_same lines B A back) is

-- sources of either kind
either : (lines : List LeadLine) (A B : ℕ → Type 0) (front : List Source) → IsFrontOf (λ s. IsSource lines A s ⊎ IsSource lines B s) front → IsFrontOf (IsSource lines (λ p. A p ⊎ B p)) front
either lines A B front is = front_same (λ s. IsSource lines A s ⊎ IsSource lines B s) (IsSource lines (λ p. A p ⊎ B p)) front
    (λ s h. elim h [
      | inl one ↦ source_same lines A (λ p. A p ⊎ B p) (λ p lead x. inl x) s one
      | inr two ↦ source_same lines B (λ p. A p ⊎ B p) (λ p lead x. inr x) s two
    ])
    (λ s is. elim is.among [
      | inl one ↦ inl (record { line = is.line; listed = is.listed; rank = is.rank; lead = is.lead; among = one })
      | inr two ↦ inr (record { line = is.line; listed = is.listed; rank = is.rank; lead = is.lead; among = two })
    ])
    is

-- of a slice of the same sources
pub front_read : (Among : Source → Type 0) (front slice : List Source) → slice ≡ front → IsFrontOf Among front → IsFrontOf Among slice
front_read Among front slice is front_is = subst (IsFrontOf Among) (sym is) front_is

-- no block is done
pub none_fallen : (map : InstructionMap) (lines : List LeadLine) (runs : List Run) (bytes : ℕ) (fronts : List Front) → length fronts ≡ length lines → All (λ (f : Front). f.items ≡ []) fronts → AreFallen map lines runs bytes 0 fronts
none_fallen map lines runs bytes fronts many empty = record {
  as_many = many;
  each = λ j d le lt.
      subst (IsFrontOf (IsSource lines (Falls map lines runs 0 bytes j))) (sym (empty j d (omega arith)))
      (front_empty (IsSource lines (Falls map lines runs 0 bytes j)) (λ s is. let early : is.among.block < 0 = is.among.early in omega arith));
}

-- a front that is put in
pub put_merged : (old mid : List Front) (i : ℕ) (there both : Front) (front : List Source) → i < length old → length mid ≡ length old → there ≡ get_or old i there → IsFrontOf (λ s. Contains there.items s ⊎ Contains front s) both.items
    → (d e : Front) → IsFrontOf (λ s. Contains (get_or old i d).items s ⊎ Contains front s) (get_or (set mid i both) i e).items
put_merged old mid i there both front lt many taken is d e =
    let read : there ≡ get_or old i d = taken ∙ get_or_default old i there d lt in
    let new : get_or (set mid i both) i e ≡ both = get_or-set_same mid i both e (omega arith) in
    subst (λ (f : Front). IsFrontOf (λ s. Contains (get_or old i d).items s ⊎ Contains front s) f.items) (sym new)
    (subst (λ (f : Front). IsFrontOf (λ s. Contains f.items s ⊎ Contains front s) both.items) read is)

pub put_others : (old mid : List Front) (i : ℕ) (both : Front) → ((j : ℕ) (d : Front) → j ≢ i → get_or mid j d ≡ get_or old j d) → (j : ℕ) (d : Front) → j ≢ i → get_or (set mid i both) j d ≡ get_or old j d
put_others old mid i both others j d ne = get_or-set_other mid i j both d ne ∙ others j d ne

some_same : (m n : ℕ) → Some m ≡ Some n → m ≡ n
some_same m n e = cc

pub not_both : (o : Option ℕ) → o ≡ Some 2 → o ≡ Some 4 → ⊥
not_both o two four = let e : Some 2 ≡ Some 4 = sym two ∙ four in absurd (omega (arith, some_same 2 4 e))

pub goes_nowhere : (o : Option ℕ) (j : ℕ) → o ≡ None → o ≡ Some j → ⊥
goes_nowhere o j none some = let e : None ≡ Some j = sym none ∙ some in cc

module _ (map : InstructionMap) (lines : List LeadLine) (lawful : IsLawful map) (are : AreLeads map lines) (runs : List Run) (blocks : AreRuns map lines runs) where
  -- the front that was taken out, and the others
  pub front_at : (bytes i : ℕ) (fronts : List Front) (front : Front) → i < length lines → AreFallen map lines runs bytes i fronts → front ≡ get_or fronts i front → IsFrontOf (IsSource lines (Falls map lines runs i bytes i)) front.items
  front_at bytes i fronts front lt fallen is =
      subst (λ (f : Front). IsFrontOf (IsSource lines (Falls map lines runs i bytes i)) f.items) (sym is) (fallen.each i front (omega arith) lt)

  pub opened : (bytes i : ℕ) (old new : List Front) → AreFallen map lines runs bytes i old → length new ≡ length old → ((j : ℕ) (d : Front) → j ≢ i → get_or new j d ≡ get_or old j d) → AreOpen map lines runs bytes i new
  opened bytes i old new fallen many others = record {
    as_many = many ∙ fallen.as_many;
    each = λ j d le lt.
        subst (λ (f : Front). IsFrontOf (IsSource lines (Falls map lines runs i bytes j)) f.items) (sym (others j d (omega arith))) (fallen.each j d (omega arith) lt);
  }

  -- what it tells of joins
  pub front_meets : (bytes i a : ℕ) (front : List Source) → IsPlace lines i a → IsFrontOf (IsSource lines (Falls map lines runs i bytes i)) front → IsFrontOf (IsSource lines (λ p. MeetsBy map bytes p a)) front
  front_meets bytes i a front place is =
      same_front lines (Falls map lines runs i bytes i) (λ p. MeetsBy map bytes p a) front
      (λ p lead falls. falls_meet map lines lawful are runs blocks i a place bytes i p falls)
      (λ p lead meets. meet_falls map lines lawful are runs blocks i a place bytes p lead meets)
      is

  -- the front of the block
  module _ (i : ℕ) (e : LeadLine) (lt : i < length lines) where
    abbrev Two : ℕ → Type 0
    Two = Falls map lines runs i 2 i

    abbrev Four : ℕ → Type 0
    Four = Falls map lines runs i 4 i

    abbrev Own : ℕ → Type 0
    Own = IsPlace lines i

    abbrev own_line : LeadLine
    own_line = get_or lines i e

    abbrev own : Source
    own = source_by own_line.rank own_line.at

    own_source : (s : Source) → s ≡ own → IsSource lines Own s
    own_source s same = record {
      line = own_line;
      listed = (i, lt, get_or_default lines i own_line e lt);
      rank = ap (λ (x : Source). x.rank) same;
      lead = ap (λ (x : Source). x.lead) same;
      among = place_at lines i e lt;
    }

    source_is : (s : Source) (rank lead : ℕ) → s.rank ≡ rank → s.lead ≡ lead → s ≡ source_by rank lead
    source_is s rank lead one other = ap (λ (r : ℕ). source_by r s.lead) one ∙ ap (λ (l : ℕ). source_by rank l) other

    source_own : (s : Source) → IsSource lines Own s → s ≡ own
    source_own s is =
        let listed : IsPlace lines is.listed.0 is.line.at = place_of_line lines is.line is.line.at is.listed refl in
        let at : is.listed.0 ≡ i = one_place lines are.rise is.listed.0 i is.line.at listed is.among in
        let same : is.line ≡ own_line = sym is.listed.2 ∙ get_or_default lines is.listed.0 is.line e is.listed.1 ∙ ap (λ (n : ℕ). get_or lines n e) at in
        source_is s own_line.rank own_line.at (is.rank ∙ ap (λ (l : LeadLine). l.rank) same) (is.lead ∙ ap (λ (l : LeadLine). l.at) same)

    pub front_made : (short long both new : List Source) → IsFrontOf (IsSource lines Two) short → IsFrontOf (IsSource lines Four) long
        → IsFrontOf (λ s. Contains short s ⊎ Contains long s) both → IsFrontOf (λ s. Contains both s ⊎ (s ≡ own)) new
        → IsFrontOf (IsSource lines (IsUpstream lines runs i)) new
    front_made short long both new one other merged added =
        let fallen : IsFrontOf (IsSource lines (λ p. Two p ⊎ Four p)) both = either lines Two Four both (front_both (IsSource lines Two) (IsSource lines Four) short long both one other merged) in
        let with_own : IsFrontOf (λ s. IsSource lines (λ p. Two p ⊎ Four p) s ⊎ (s ≡ own)) new = front_through (IsSource lines (λ p. Two p ⊎ Four p)) (λ s. s ≡ own) both new fallen added in
        let sources : IsFrontOf (λ s. IsSource lines (λ p. Two p ⊎ Four p) s ⊎ IsSource lines Own s) new =
        front_same (λ s. IsSource lines (λ p. Two p ⊎ Four p) s ⊎ (s ≡ own)) (λ s. IsSource lines (λ p. Two p ⊎ Four p) s ⊎ IsSource lines Own s) new
        (λ s h. elim h [ inl up ↦ inl up | inr same ↦ inr (own_source s same) ])
        (λ s h. elim h [ inl up ↦ inl up | inr is ↦ inr (source_own s is) ])
        with_own in
        same_front lines (λ p. (Two p ⊎ Four p) ⊎ Own p) (IsUpstream lines runs i) new
        (λ p lead h. upstream_made map lines lawful are runs blocks i p h)
        (λ p lead h. upstream_parts map lines lawful are runs blocks i p h)
        (either lines (λ p. Two p ⊎ Four p) Own new sources)

  -- ---- the block is done

  -- where it goes on into no block at this place by an instruction of so many bytes, nothing falls there
  stays : (bytes i j p : ℕ) → (((run_at runs i).into ≡ Some j) → length_at map (run_at runs i).last ≡ Some bytes → ⊥) → Falls map lines runs (i + 1) bytes j p → Falls map lines runs i bytes j p
  stays bytes i j p apart falls =
      elim (cases_eq falls.block i) [
        | inl e ↦ absurd (apart (subst (λ b. (run_at runs b).into ≡ Some j) e falls.into) (subst (λ b. length_at map (run_at runs b).last ≡ Some bytes) e falls.size))
        | inr ne ↦ record {
          block = falls.block;
          early = (let lt : falls.block < i + 1 = falls.early in omega arith);
          into = falls.into;
          size = falls.size;
          upstream = falls.upstream;
        }
      ]

  kept_front : (bytes i j : ℕ) (front : List Source) → (((run_at runs i).into ≡ Some j) → length_at map (run_at runs i).last ≡ Some bytes → ⊥) → IsFrontOf (IsSource lines (Falls map lines runs i bytes j)) front → IsFrontOf (IsSource lines (Falls map lines runs (i + 1) bytes j)) front
  kept_front bytes i j front apart is =
      same_front lines (Falls map lines runs i bytes j) (Falls map lines runs (i + 1) bytes j) front
      (λ p lead falls. falls_before map lines lawful are runs blocks i bytes j p falls)
      (λ p lead falls. stays bytes i j p apart falls)
      is

  -- what its last instruction is
  pub into_known : (i k : ℕ) → (run_at runs i).into ≡ Some k → IsSome (map (run_at runs i).last)
  into_known i k into = let on = onward map lines lawful are runs blocks i k into in flow_stands map (run_at runs i).last (Straight on.to) on.goes

  pub into_within : (i k : ℕ) → (run_at runs i).into ≡ Some k → k < length lines
  into_within i k into = (later map lines lawful are runs blocks i k into).1

  pub long_after : (i k : ℕ) → (run_at runs i).into ≡ Some k → (length_at map (run_at runs i).last ≡ Some 2 → ⊥) → length_at map (run_at runs i).last ≡ Some 4
  long_after i k into other =
      let on = onward map lines lawful are runs blocks i k into in
      let has = has_length map lawful (run_at runs i).last on.to on.goes in
      elim has.size [
        | inl two ↦ absurd (other (has.is ∙ ap Some two))
        | inr four ↦ has.is ∙ ap Some four
      ]

  -- it goes on nowhere by such an instruction
  pub closed : (bytes i : ℕ) (fronts : List Front) → ((j : ℕ) → (run_at runs i).into ≡ Some j → length_at map (run_at runs i).last ≡ Some bytes → ⊥) → AreOpen map lines runs bytes i fronts → AreFallen map lines runs bytes (i + 1) fronts
  closed bytes i fronts apart is_open = record {
    as_many = is_open.as_many;
    each = λ j d le lt. kept_front bytes i j (get_or fronts j d).items (apart j) (is_open.each j d le lt);
  }

  -- it goes on into the block at place k
  pub handed : (bytes i k : ℕ) (front : List Source) (old new : List Front) → (run_at runs i).into ≡ Some k → length_at map (run_at runs i).last ≡ Some bytes
      → IsFrontOf (IsSource lines (IsUpstream lines runs i)) front → AreOpen map lines runs bytes i old → length new ≡ length old
      → ((j : ℕ) (d : Front) → j ≢ k → get_or new j d ≡ get_or old j d)
      → ((d e : Front) → IsFrontOf (λ s. Contains (get_or old k d).items s ⊎ Contains front s) (get_or new k e).items)
      → AreFallen map lines runs bytes (i + 1) new
  handed bytes i k front old new into size up is_open many others merged = record {
    as_many = many ∙ is_open.as_many;
    each = λ j d le lt. elim (cases_eq j k) [
      | inl e ↦ subst (λ n. IsFrontOf (IsSource lines (Falls map lines runs (i + 1) bytes n)) (get_or new n d).items) (sym e) (here d)
      | inr ne ↦
          subst (λ (f : Front). IsFrontOf (IsSource lines (Falls map lines runs (i + 1) bytes j)) f.items) (sym (others j d ne))
          (kept_front bytes i j (get_or old j d).items (λ on long. ne (some_one j k (sym on ∙ into))) (is_open.each j d le lt))
    ];
  }
    where
      some_one : (m n : ℕ) → Some m ≡ Some n → m ≡ n
      some_one m n e = cc

      target : (i < k) × (k < length lines)
      target = later map lines lawful are runs blocks i k into

      now : (p : ℕ) → IsUpstream lines runs i p → Falls map lines runs (i + 1) bytes k p
      now p is = record { block = i; early = omega arith; into = into; size = size; upstream = is }

      split : (p : ℕ) → Falls map lines runs (i + 1) bytes k p → Falls map lines runs i bytes k p ⊎ IsUpstream lines runs i p
      split p falls = elim (cases_eq falls.block i) [
        | inl e ↦ inr (subst (λ b. IsUpstream lines runs b p) e falls.upstream)
        | inr ne ↦ inl (record {
          block = falls.block;
          early = (let lt : falls.block < i + 1 = falls.early in omega arith);
          into = falls.into;
          size = falls.size;
          upstream = falls.upstream;
        })
      ]

      here : (d : Front) → IsFrontOf (IsSource lines (Falls map lines runs (i + 1) bytes k)) (get_or new k d).items
      here d =
          let up_to : i + 1 ≤ k = (let lt = target.0 in omega arith) in
          let before = is_open.each k d up_to target.1 in
          same_front lines (λ p. Falls map lines runs i bytes k p ⊎ IsUpstream lines runs i p) (Falls map lines runs (i + 1) bytes k) (get_or new k d).items
          (λ p lead h. elim h [
            | inl falls ↦ falls_before map lines lawful are runs blocks i bytes k p falls
            | inr is ↦ now p is
          ])
          (λ p lead falls. split p falls)
          (either lines (Falls map lines runs i bytes k) (IsUpstream lines runs i) (get_or new k d).items
          (front_both (IsSource lines (Falls map lines runs i bytes k)) (IsSource lines (IsUpstream lines runs i)) (get_or old k d).items front (get_or new k d).items before up (merged d d)))
