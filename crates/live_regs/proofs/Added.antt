-- Ways along edges, added one after another.
use Rattle.std.proofs.Common.{◌≡◌, ◌≢◌, ℕ, ◌+◌, ◌<◌, ◌≤◌, List, [], ◌∷◌, ◌++◌, length, get_or, take, Bool, true, false, refl, sym, ap, subst, ◌∙◌, inl, inr, ⊎_elim}
use Rattle.std.specs.List.{Contains}
use Rattle.std.proofs.lemmas.List.{take_more, take_all, get_or_default}
use Rattle.std.proofs.lemmas.List.Elements.{Contains-push, Contains-push_cases, Contains-append_left}
use Rattle.cfg_model.specs.declared.graph.Edge.{Edge}
use Rattle.cfg_model.specs.declared.graph.EdgeKind.TheVariants as kinds
use Rattle.cfg_model.proofs.Graphs.Lists.{Contains-none}
use Rattle.mask_flow.specs.declared.ways.Way.{Way}
use Rattle.live_regs.specs.Inner.{AddsWays, IsWayOf, IsPlace}

pub place_listed : (body : List ℕ) (a place : ℕ) → IsPlace body a place → Contains body a
place_listed body a place h = (place, h.within, get_or_default body place a 0 h.within ∙ h.at)

module _ (body : List ℕ) (place : ℕ) where
  pub adds_none : (ways : List Way) → AddsWays [] body place ways ways false
  adds_none ways = record {
    kept = λ way h. h;
    only = λ way h. inl h;
    added = λ edge h kind within. absurd (Contains-none edge h);
    leaves = λ yes. cc;
    stays = λ edge no h kind. absurd (Contains-none edge h);
  }

  module _ (edges : List Edge) (last : Edge) (old new : List Way) (left : Bool) (h : AddsWays edges body place old new left) where
    -- an edge that is a call
    pub adds_call : last.kind ≡ kinds.Call → AddsWays (edges ++ last ∷ []) body place old new left
    adds_call call = record {
      kept = h.kept;
      only = λ way c. ⊎_elim inl (λ a. inr (a.0, Contains-append_left edges (last ∷ []) a.0 a.1, a.2)) (h.only way c);
      added = λ edge c kind within. ⊎_elim (λ before. h.added edge before kind within) (λ same. absurd (kind (sym (ap (λ (e : Edge). e.kind) same) ∙ call))) (Contains-push_cases edges last edge c);
      leaves = λ yes. let a = h.leaves yes in (a.0, Contains-append_left edges (last ∷ []) a.0 a.1, a.2, a.3);
      stays = λ edge no c kind. ⊎_elim (λ before. h.stays edge no before kind) (λ same. absurd (kind (sym (ap (λ (e : Edge). e.kind) same) ∙ call))) (Contains-push_cases edges last edge c);
    }

    -- an edge that leaves the body
    pub adds_left : last.kind ≢ kinds.Call → (Contains body last.to → ⊥) → AddsWays (edges ++ last ∷ []) body place old new true
    adds_left kind out = record {
      kept = h.kept;
      only = λ way c. ⊎_elim inl (λ a. inr (a.0, Contains-append_left edges (last ∷ []) a.0 a.1, a.2)) (h.only way c);
      added = λ edge c k within. ⊎_elim (λ before. h.added edge before k within) (λ same. absurd (out (subst (λ (e : Edge). Contains body e.to) (sym same) within))) (Contains-push_cases edges last edge c);
      leaves = λ yes. (last, Contains-push edges last, kind, out);
      stays = λ edge no c k. absurd (no refl);
    }

    -- an edge within the body
    pub adds_way : (way : Way) → IsWayOf body place last way → AddsWays (edges ++ last ∷ []) body place old (new ++ way ∷ []) left
    adds_way way is = record {
      kept = λ w c. Contains-append_left new (way ∷ []) w (h.kept w c);
      only = λ w c. ⊎_elim
          (λ before. ⊎_elim inl (λ a. inr (a.0, Contains-append_left edges (last ∷ []) a.0 a.1, a.2)) (h.only w before))
          (λ same. inr (last, Contains-push edges last, subst (IsWayOf body place last) same is))
          (Contains-push_cases new way w c);
      added = λ edge c k within. ⊎_elim
          (λ before. let a = h.added edge before k within in (a.0, Contains-append_left new (way ∷ []) a.0 a.1, a.2))
          (λ same. (way, Contains-push new way, subst (λ e. IsWayOf body place e way) same is))
          (Contains-push_cases edges last edge c);
      leaves = λ yes. let a = h.leaves yes in (a.0, Contains-append_left edges (last ∷ []) a.0 a.1, a.2, a.3);
      stays = λ edge no c k. ⊎_elim (λ before. h.stays edge no before k) (λ same. subst (λ (e : Edge). Contains body e.to) same (place_listed body last.to way.to is.target)) (Contains-push_cases edges last edge c);
    }

  -- the same of the first edges of a list
  module _ (edges : List Edge) (count : ℕ) (old new : List Way) (left : Bool) (d : Edge) (within : count < length edges) (h : AddsWays (take count edges) body place old new left) where
    step : (ways : List Way) (b : Bool) → AddsWays (take count edges ++ get_or edges count d ∷ []) body place old ways b → AddsWays (take (count + 1) edges) body place old ways b
    step ways b k = subst (λ es. AddsWays es body place old ways b) (sym (take_more edges count d within)) k

    pub more_call : (get_or edges count d).kind ≡ kinds.Call → AddsWays (take (count + 1) edges) body place old new left
    more_call call = step new left (adds_call (take count edges) (get_or edges count d) old new left h call)

    pub more_left : (get_or edges count d).kind ≢ kinds.Call → (Contains body (get_or edges count d).to → ⊥) → AddsWays (take (count + 1) edges) body place old new true
    more_left kind out = step new true (adds_left (take count edges) (get_or edges count d) old new left h kind out)

    pub more_way : (way : Way) (ways : List Way) → ways ≡ new ++ way ∷ [] → IsWayOf body place (get_or edges count d) way → AddsWays (take (count + 1) edges) body place old ways left
    more_way way ways e is = step ways left (subst (λ ws. AddsWays (take count edges ++ get_or edges count d ∷ []) body place old ws left) (sym e) (adds_way (take count edges) (get_or edges count d) old new left h way is))

  pub all_added : (edges : List Edge) (count : ℕ) (old new : List Way) (left : Bool) → length edges ≤ count → AddsWays (take count edges) body place old new left → AddsWays edges body place old new left
  all_added edges count old new left past h = subst (λ es. AddsWays es body place old new left) (take_all count edges past) h
