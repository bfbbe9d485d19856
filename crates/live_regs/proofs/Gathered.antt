-- The places of a body, added one after another.
use Rattle.std.proofs.Common.{◌≡◌, ℕ, ◌+◌, ◌-◌, ◌<◌, ◌≤◌, ◌⊎◌, ◌==◌, ◌&&◌, ◌||◌, not, List, [], ◌∷◌, ◌++◌, length, get_or, take, drop, Bool, true, false, IsTrue, IsFalse, refl, sym, ap, subst, ◌∙◌, inl, inr, ⊎_elim, arith}
use Rattle.std.specs.List.{AllPairs, Contains}
use Rattle.std.proofs.lemmas.Bool.Decides.{nat_tests}
use Rattle.std.proofs.lemmas.Bool.{cases_lt}
use Rattle.std.proofs.lemmas.List.{get_or_append_left, get_or_push, length_push}
use Rattle.cfg_model.proofs.Graphs.Lists.{Contains-none}
use Rattle.std.proofs.lemmas.List.Elements.{Contains-get_or}
use Rattle.cfg_model.specs.declared.graph.Block.{Block}
use Rattle.cfg_model.specs.declared.graph.Edge.{Edge}
use Rattle.cfg_model.specs.Graph.Graph.{BlockBefore}
use Rattle.mask_flow.specs.declared.ways.Way.{Way}
use Rattle.mask_flow.specs.Reaches.{has_bit}
use Rattle.live_regs.specs.declared.effects.Effects.{Effects}
use Rattle.live_regs.specs.declared.gather.Nodes.{Nodes}
use Rattle.live_regs.specs.Leaves.{LeadsOn, Leaves, ends_outside}
use Rattle.live_regs.specs.Noted.{AreBetween, AreEffectsOf}
use Rattle.live_regs.specs.Run.{instructions_of}
use Rattle.live_regs.specs.Inner.{AddsNode, AddsWays, HasBlockAt, HaveNodes, IsNodeOf, IsNumber}
use Rattle.live_regs.proofs.Edges.{slice_has}
use Rattle.live_regs.proofs.Keyed.{one_by_key}

-- the bit of a block's own mask
bit_by_reads : (m a b c d : Bool) → m ≡ (a || (b && c && d)) → IsTrue a → IsTrue m
bit_by_reads m true b c d e h = e
bit_by_reads m false b c d e h = cc

not_zero : (r : ℕ) → 1 ≤ r → not (r == 0) ≡ true
not_zero r h = grind (arith, nat_tests)

some_number : (r : ℕ) → IsTrue (not (r == 0)) → 1 ≤ r
some_number r h = grind (arith, nat_tests)

bit_by_leaving : (m a b c d : Bool) → m ≡ (a || (b && c && not d)) → IsTrue b → IsTrue c → IsFalse d → IsTrue m
bit_by_leaving m true b c d e p q s = e
bit_by_leaving m false true true false e p q s = e
bit_by_leaving m false true true true e p q s = cc
bit_by_leaving m false true false d e p q s = cc
bit_by_leaving m false false c d e p q s = cc

bit_tells : (m a b c d : Bool) → m ≡ (a || (b && c && not d)) → IsTrue m → IsTrue a ⊎ (IsTrue b × IsTrue c × IsFalse d)
bit_tells m true b c d e h = inl refl
bit_tells m false true true false e h = inr (refl, refl, refl)
bit_tells m false true true true e h = cc
bit_tells m false true false d e h = cc
bit_tells m false false c d e h = cc

or_tells : (a b : Bool) → IsTrue (a || b) → IsTrue a ⊎ IsTrue b
or_tells true b h = inl refl
or_tells false b h = inr h

or_left : (a b : Bool) → IsTrue a → IsTrue (a || b)
or_left true b h = refl
or_left false b h = cc

or_right : (a b : Bool) → IsTrue b → IsTrue (a || b)
or_right true b h = refl
or_right false b h = h

is_true_or : (a : Bool) → IsTrue a ⊎ (IsTrue a → ⊥)
is_true_or true = inl refl
is_true_or false = inr (λ h. cc)

module _ (bytes : List ℕ) (blocks : List Block) (edges : List Edge) (body : List ℕ) (place : ℕ) where
  module _ (order : AllPairs BlockBefore blocks) (number : ℕ) (d : Block) (at : IsNumber blocks (get_or body place 0) number) (effects : Effects) (is : AreEffectsOf (instructions_of bytes (get_or blocks number d)) effects)
      (first end : ℕ) (span : AreBetween edges (get_or blocks number d).start first end) where
    here : (get_or blocks number d).start ≡ get_or body place 0
    here = at.starts d

    listed : Contains blocks (get_or blocks number d)
    listed = Contains-get_or blocks number d at.within

    pub has_block : HasBlockAt blocks (get_or body place 0)
    has_block = (get_or blocks number d, listed, here)

    module _ (old new : List Way) (by_edge : Bool) (ways : AddsWays (take (end - first) (drop first edges)) body place old new by_edge) (mask : ℕ)
        (bits : (r : ℕ) → r < 32 → has_bit mask r ≡ (has_bit effects.reads r || ((by_edge || ends_outside (get_or blocks number d).kind) && not (r == 0) && not (has_bit effects.writes r)))) where
      in_slice : (edge : Edge) (t : ℕ) → Contains edges edge → edge.from ≡ (get_or blocks number d).start → Contains (take (end - first) (drop first edges)) edge
      in_slice edge t c e = (slice_has edges (get_or blocks number d).start first end span edge).1 (c, e)

      leaving : Leaves edges body (get_or blocks number d) → IsTrue (by_edge || ends_outside (get_or blocks number d).kind)
      leaving (Leaves.by_end h) = or_right by_edge _ h
      leaving (Leaves.by_edge {t = t} leads out) =
          or_left by_edge _ (⊎_elim (λ yes. yes)
          (λ no. absurd (out (subst (Contains body) leads.to (ways.stays leads.edge no (in_slice leads.edge t leads.listed leads.from) leads.no_call))))
          (is_true_or by_edge))

      left : IsTrue (by_edge || ends_outside (get_or blocks number d).kind) → Leaves edges body (get_or blocks number d)
      left h = ⊎_elim
          (λ yes.
          let a = ways.leaves yes in
          let in_edges = (slice_has edges (get_or blocks number d).start first end span a.0).0 a.1 in
          Leaves.by_edge {t = a.0.to} (record { edge = a.0; listed = in_edges.0; from = in_edges.1; to = refl; no_call = a.2 }) a.3)
          (λ ends. Leaves.by_end ends)
          (or_tells by_edge (ends_outside (get_or blocks number d).kind) h)

      own : IsNodeOf bytes edges body (get_or blocks number d) effects.writes mask
      own = record {
        stops = is.writes;
        reads = λ r low h. bit_by_reads _ _ (by_edge || ends_outside (get_or blocks number d).kind) (not (r == 0)) (not (has_bit effects.writes r)) (bits r low) (is.reads r low ∙ h);
        leaves = λ r some low leaves none. bit_by_leaving _ _ _ _ _ (bits r low) (leaving leaves) (not_zero r some) (is.writes r low ∙ none);
        only = λ r low h. ⊎_elim (λ a. inl (sym (is.reads r low) ∙ a)) (λ b. inr (some_number r b.1, left b.0, sym (is.writes r low) ∙ b.2)) (bit_tells _ _ _ _ _ (bits r low) h);
      }

      node : (block : Block) → Contains blocks block → block.start ≡ get_or body place 0 → IsNodeOf bytes edges body block effects.writes mask
      node block c e =
          let same : get_or blocks number d ≡ block = one_by_key (λ (b : Block). b.start) blocks order (get_or blocks number d) block listed c (here ∙ sym e) in
          subst (λ b. IsNodeOf bytes edges body b effects.writes mask) same own

      pub block_added : (before after : Nodes) → before.ways.items ≡ old → after.ways.items ≡ new
          → after.stops.items ≡ before.stops.items ++ effects.writes ∷ [] → after.masks.items ≡ before.masks.items ++ mask ∷ []
          → AddsNode bytes blocks edges body place before after
      block_added before after olds news stops masks = record {
        stop = effects.writes;
        mask = mask;
        stops = stops;
        masks = masks;
        node = node;
        some = λ r low h. has_block;
        kept = λ way c. subst (λ ws. Contains ws way) (sym news) (ways.kept way (subst (λ ws. Contains ws way) olds c));
        only = λ way c. ⊎_elim
            (λ before. inl (subst (λ ws. Contains ws way) (sym olds) before))
            (λ a.
            let in_edges = (slice_has edges (get_or blocks number d).start first end span a.0).0 a.1 in
            inr (a.2.from, has_block, a.2.target.within, record { edge = a.0; listed = in_edges.0; from = in_edges.1 ∙ here; to = sym a.2.target.at; no_call = a.2.no_call }))
            (ways.only way (subst (λ ws. Contains ws way) news c));
        all = λ t block leads inside.
            let a = ways.added leads.edge (in_slice leads.edge t leads.listed (leads.from ∙ sym here)) leads.no_call (subst (Contains body) (sym leads.to) inside) in
            (a.0, subst (λ ws. Contains ws a.0) (sym news) a.1, a.2.from, a.2.target.at ∙ leads.to);
      }

  -- no block starts there
  pub nothing_added : (HasBlockAt blocks (get_or body place 0) → ⊥) → ((r : ℕ) → has_bit 0 r ≡ false) → (before after : Nodes) → after.ways.items ≡ before.ways.items
      → after.stops.items ≡ before.stops.items ++ 0 ∷ [] → after.masks.items ≡ before.masks.items ++ 0 ∷ [] → AddsNode bytes blocks edges body place before after
  nothing_added none zero_bits before after same stops masks = record {
    stop = 0;
    mask = 0;
    stops = stops;
    masks = masks;
    node = λ block c e. absurd (none (block, c, e));
    some = λ r low h. let z = zero_bits r in cc;
    kept = λ way c. subst (λ ws. Contains ws way) (sym same) c;
    only = λ way c. inl (subst (λ ws. Contains ws way) same c);
    all = λ t has leads inside. absurd (none has);
  }

-- none is added yet
pub none_gathered : (bytes : List ℕ) (blocks : List Block) (edges : List Edge) (body : List ℕ) (nodes : Nodes) → nodes.stops.items ≡ [] → nodes.masks.items ≡ [] → nodes.ways.items ≡ [] → HaveNodes bytes blocks edges body 0 nodes
none_gathered bytes blocks edges body nodes stops masks ways = record {
  stops = ap length stops;
  masks = ap length masks;
  node = λ i block lt. absurd (omega arith);
  some = λ i r lt. absurd (omega arith);
  only = λ way c. absurd (Contains-none way (subst (λ ws. Contains ws way) ways c));
  all = λ i t lt. absurd (omega arith);
}

-- one more
pub more_gathered : (bytes : List ℕ) (blocks : List Block) (edges : List Edge) (body : List ℕ) (count : ℕ) (old new : Nodes) → HaveNodes bytes blocks edges body count old → AddsNode bytes blocks edges body count old new → HaveNodes bytes blocks edges body (count + 1) new
more_gathered bytes blocks edges body count old new h a =
    record {
      stops = ap length a.stops ∙ (length_push old.stops.items a.stop ∙ ap (λ n. n + 1) h.stops);
      masks = ap length a.masks ∙ (length_push old.masks.items a.mask ∙ ap (λ n. n + 1) h.masks);
      node = λ i block lt c e.
          ⊎_elim
          (λ less.
          let stop : get_or new.stops.items i 0 ≡ get_or old.stops.items i 0 = before old.stops.items new.stops.items a.stop count i a.stops h.stops less in
          let mask : get_or new.masks.items i 0 ≡ get_or old.masks.items i 0 = before old.masks.items new.masks.items a.mask count i a.masks h.masks less in
          both bytes edges body block _ _ _ _ stop mask (h.node i block less c e))
          (λ last.
          let stop : get_or new.stops.items i 0 ≡ a.stop = at old.stops.items new.stops.items a.stop count i a.stops h.stops last in
          let mask : get_or new.masks.items i 0 ≡ a.mask = at old.masks.items new.masks.items a.mask count i a.masks h.masks last in
          both bytes edges body block _ _ _ _ stop mask (a.node block c (e ∙ ap (λ k. get_or body k 0) last)))
          (last_or i lt);
      some = λ i r lt low bit.
          ⊎_elim
          (λ less.
          let mask : get_or new.masks.items i 0 ≡ get_or old.masks.items i 0 = before old.masks.items new.masks.items a.mask count i a.masks h.masks less in
          h.some i r less low (subst (λ m. IsTrue (has_bit m r)) mask bit))
          (λ last.
          let mask : get_or new.masks.items i 0 ≡ a.mask = at old.masks.items new.masks.items a.mask count i a.masks h.masks last in
          subst (λ k. HasBlockAt blocks (get_or body k 0)) (sym last) (a.some r low (subst (λ m. IsTrue (has_bit m r)) mask bit)))
          (last_or i lt);
      only = λ way c. ⊎_elim
          (λ earlier. let o = h.only way earlier in (omega (arith, o.0), o.1, o.2, o.3))
          (λ now.
          let from : way.from ≡ count = now.0 in (
            omega arith,
            subst (λ k. HasBlockAt blocks (get_or body k 0)) (sym from) now.1,
            now.2,
            subst (λ k. LeadsOn edges (get_or body k 0) (get_or body way.to 0)) (sym from) now.3,
          ))
          (a.only way c);
      all = λ i t lt has leads inside.
          ⊎_elim
          (λ less. let o = h.all i t less has leads inside in (o.0, a.kept o.0 o.1, o.2, o.3))
          (λ last.
          let o = a.all t (subst (λ k. HasBlockAt blocks (get_or body k 0)) last has) (subst (λ k. LeadsOn edges (get_or body k 0) t) last leads) inside in
          (o.0, o.1, o.2 ∙ sym last, o.3))
          (last_or i lt);
    }
  where
    last_or : (i : ℕ) → i < count + 1 → (i < count) ⊎ (i ≡ count)
    last_or i lt = elim (cases_lt i count) [ inl less ↦ inl less | inr le ↦ inr (omega arith) ]

    before : (xs ys : List ℕ) (x n i : ℕ) → ys ≡ xs ++ x ∷ [] → length xs ≡ n → i < n → get_or ys i 0 ≡ get_or xs i 0
    before xs ys x n i e long less = ap (λ zs. get_or zs i 0) e ∙ get_or_append_left xs (x ∷ []) 0 i (omega arith)

    at : (xs ys : List ℕ) (x n i : ℕ) → ys ≡ xs ++ x ∷ [] → length xs ≡ n → i ≡ n → get_or ys i 0 ≡ x
    at xs ys x n i e long last = ap (λ zs. get_or zs i 0) e ∙ get_or_push xs x 0 i (long ∙ sym last)

    both : (bytes : List ℕ) (edges : List Edge) (body : List ℕ) (block : Block) (s m t n : ℕ) → s ≡ t → m ≡ n → IsNodeOf bytes edges body block t n → IsNodeOf bytes edges body block s m
    both bytes edges body block s m t n p q h = subst (λ x. IsNodeOf bytes edges body block x m) (sym p) (subst (IsNodeOf bytes edges body block t) (sym q) h)
