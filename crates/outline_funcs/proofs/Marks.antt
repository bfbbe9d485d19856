-- Which edges are tail calls, and the list of edges in which they are marked.
use Rattle.std.proofs.Common.{◌≡◌, ◌≢◌, ◌↔◌, ℕ, ◌+◌, ◌<◌, ◌≤◌, List, length, get_or, set, not, Bool, true, false, IsTrue, IfSome, slice_get, refl, sym, ◌∙◌, subst, inl, inr, arith, length-set, get_or-set_same, get_or-set_other}
use Rattle.std.specs.List.{Contains}
use Rattle.std.proofs.lemmas.Bool.{cases_eq}
use Rattle.std.proofs.lemmas.List.{get_or_default}
use Rattle.std.proofs.lemmas.Option.{slice_get-get_or}
use Rattle.cfg_model.specs.declared.graph.Edge.{Edge}
use Rattle.cfg_model.specs.declared.graph.EdgeKind.TheVariants as kinds
use Rattle.cfg_model.specs.declared.graph.Function.{Function}
use Rattle.outline_funcs.specs.Listed.{AreOrdered}
use Rattle.outline_funcs.specs.Tails.{IsTailAmong, IsMarkOf, AreMarksOf}
use Rattle.outline_funcs.specs.Inner.Marking.{MarksAt}
use Rattle.outline_funcs.proofs.Search.{one_by_key}

-- a jump to the entry of a function is a tail call where the body does not have its block
pub tail_found : (functions : List Function) (edge : Edge) (f : Function) (listed : Bool) → AreOrdered functions
    → edge.kind ≡ kinds.Jump → Contains functions f → f.entry ≡ edge.to → (IsTrue listed ↔ Contains f.body edge.from)
    → IsTrue (not listed) ↔ IsTailAmong functions edge
tail_found functions edge f true search jump found entered is = (
  (λ t. cc),
  (λ t. absurd (t.outside (subst (λ (g : Function). Contains g.body edge.from)
      (one_by_key (λ (g : Function). g.entry) functions search.entries f t.function found t.listed (entered ∙ sym t.entered)) (is.0 refl)))),
)
tail_found functions edge f false search jump found entered is = (
  (λ t. record { jump = jump; function = f; listed = found; entered = entered; outside = λ h. let bad = is.1 h in cc }),
  (λ t. refl),
)

pub tail_missing : (functions : List Function) (edge : Edge) → ((f : Function) → Contains functions f → f.entry ≢ edge.to) → IsTrue false ↔ IsTailAmong functions edge
tail_missing functions edge none = ((λ t. cc), (λ t. absurd (none t.function t.listed t.entered)))

-- one edge is marked

pub marks_tail : (functions : List Function) (i : ℕ) (old new xs : List Edge) (d : Edge) → i < length old → xs ≡ old
    → IsTailAmong functions (get_or xs i d) → IfSome (slice_get old i) (λ (edge : Edge). new ≡ set old i (record edge { kind = kinds.Tail })) → MarksAt functions i old new
marks_tail functions i old new xs d lt same tail sets =
    let edge : Edge = get_or old i d in
    let marked : Edge = record edge { kind = kinds.Tail } in
    let is_tail : IsTailAmong functions edge = subst (λ (l : List Edge). IsTailAmong functions (get_or l i d)) same tail in
    let is : new ≡ set old i marked =
    subst (λ o. IfSome o (λ (e : Edge). new ≡ set old i (record e { kind = kinds.Tail }))) (slice_get-get_or old i d lt) sets in
    subst (MarksAt functions i old) (sym is) (record {
      same_length = length-set old i marked;
      marked = λ e.
          subst (IsMarkOf functions (get_or old i e)) (sym (get_or-set_same old i marked e lt))
          (subst (λ (x : Edge). IsMarkOf functions x marked) (get_or_default old i d e lt) (IsMarkOf.tail is_tail));
      others = λ k e ne. get_or-set_other old i k marked e ne;
    })

pub marks_none : (functions : List Function) (i : ℕ) (old xs : List Edge) (d : Edge) → i < length old → xs ≡ old
    → ¬ IsTailAmong functions (get_or xs i d) → MarksAt functions i old old
marks_none functions i old xs d lt same none = record {
  same_length = refl;
  marked = λ e.
      subst (λ (x : Edge). IsMarkOf functions x x) (get_or_default old i d e lt)
      (IsMarkOf.same (subst (λ (l : List Edge). ¬ IsTailAmong functions (get_or l i d)) same none));
  others = λ k e ne. refl;
}

-- the edges before place i are marked, and the others are left
pub record AreMarkedBefore (functions : List Function) (i : ℕ) (old new : List Edge) : Type 0 where
  pub same_length : length new ≡ length old
  pub marked : (k : ℕ) (d : Edge) → k < i → k < length old → IsMarkOf functions (get_or old k d) (get_or new k d)
  pub rest : (k : ℕ) (d : Edge) → i ≤ k → get_or new k d ≡ get_or old k d

pub marked_start : (functions : List Function) (old : List Edge) → AreMarkedBefore functions 0 old old
marked_start functions old = record { same_length = refl; marked = λ k d lt. absurd (omega arith); rest = λ k d le. refl }

pub marked_more : (functions : List Function) (i : ℕ) (old mid new : List Edge) → i < length old → AreMarkedBefore functions i old mid → MarksAt functions i mid new
    → AreMarkedBefore functions (i + 1) old new
marked_more functions i old mid new within p m = record {
  same_length = m.same_length ∙ p.same_length;
  marked = λ k d lt long.
      elim (cases_eq k i) [
        | inl e ↦ rw e (subst (λ (x : Edge). IsMarkOf functions x (get_or new i d)) (p.rest i d (omega arith)) (m.marked d))
        | inr ne ↦ rw (m.others k d ne) (p.marked k d (omega arith) long)
      ];
  rest = λ k d le. let ne : k ≢ i = omega arith in m.others k d ne ∙ p.rest k d (omega arith);
}

pub marked_at_end : (functions : List Function) (i : ℕ) (old new : List Edge) → length old ≤ i → AreMarkedBefore functions i old new → AreMarksOf functions old new
marked_at_end functions i old new past p = record { same_length = p.same_length; marked = λ k d lt. p.marked k d (omega arith) lt }
