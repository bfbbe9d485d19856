-- What comes to a node is live at its block, and back.
use Rattle.std.proofs.Common.{◌≡◌, ℕ, zero, suc, ◌<◌, ◌≤◌, ◌^◌, ◌&&◌, ◌||◌, not, List, [], ◌∷◌, length, get_or, All, Option, Some, None, Bool, true, false, IsTrue, IsFalse, refl, sym, ap, subst, ◌∙◌, ⊎_elim, arith}
use Rattle.std.specs.List.{AllZip, Contains}
use Rattle.std.proofs.lemmas.List.{get_or_default}
use Rattle.std.proofs.lemmas.List.Elements.{Contains-get_or}
use Rattle.cfg_model.specs.declared.graph.Block.{Block}
use Rattle.cfg_model.specs.declared.graph.Edge.{Edge}
use Rattle.cfg_model.specs.declared.live.Live.{Live}
use Rattle.mask_flow.specs.Reaches.{has_bit, Reaches, HaveAll, IsWithin}
use Rattle.live_regs.specs.declared.gather.Nodes.{Nodes}
use Rattle.rv_decode.specs.declared.instructions.Insn.{Insn}
use Rattle.live_regs.specs.Effects.{reads, writes}
use Rattle.live_regs.specs.Leaves.{LeadsOn}
use Rattle.live_regs.specs.Live.{IsBlockIn, IsLive}
use Rattle.live_regs.specs.Masks.{IsMaskOf, IsLiveAt, AreLivesOf}
use Rattle.live_regs.specs.Inner.{AreItemsOf, HasBlockAt, HaveNodes, IsNodeOf}
use Rattle.live_regs.specs.Run.{instructions_of, reads_first}

-- x0 is never read
unread : (insn : Option Insn) → reads insn 0 ≡ false
unread None = refl
unread (Some insn) = refl

none_first : (a b c : Bool) → a ≡ false → c ≡ false → (a || (not b && c)) ≡ false
none_first true b c p q = cc
none_first false true c p q = refl
none_first false false c p q = q

run_unread : (run : List (Option Insn)) → reads_first run 0 ≡ false
run_unread [] = refl
run_unread (insn ∷ run) = none_first (reads insn 0) (writes insn 0) (reads_first run 0) (unread insn) (run_unread run)

zero_unread : (run : List (Option Insn)) (r : ℕ) → IsTrue (reads_first run r) → 1 ≤ r
zero_unread run zero h = let none : reads_first run 0 ≡ false = run_unread run in cc
zero_unread run (suc r) h = omega arith

-- two lists item by item
zipped : {X Y : Type 0} (R : X → Y → Type 0) (xs : List X) (ys : List Y) → length xs ≡ length ys → ((i : ℕ) (d : X) (e : Y) → i < length xs → R (get_or xs i d) (get_or ys i e)) → AllZip R xs ys
zipped R [] [] long each = tt
zipped R [] (y ∷ ys) long each = absurd (omega arith)
zipped R (x ∷ xs) [] long each = absurd (omega arith)
zipped R (x ∷ xs) (y ∷ ys) long each = (each 0 x y (omega arith), zipped R xs ys (omega arith) (λ i d e inside. each (suc i) d e (omega arith)))

module _ (bytes : List ℕ) (blocks : List Block) (edges : List Edge) (body : List ℕ) (nodes : Nodes) (have : HaveNodes bytes blocks edges body (length body) nodes) where
  abbrev LiveAt : ℕ → ℕ → Type 0
  LiveAt r i = IsLive bytes blocks edges body r (get_or body i 0)

  in_body : (i : ℕ) → i < length body → Contains body (get_or body i 0)
  in_body i inside = Contains-get_or body i 0 inside

  block_in : (i : ℕ) → i < length body → (has : HasBlockAt blocks (get_or body i 0)) → IsBlockIn blocks body (get_or body i 0) has.0
  block_in i inside has = record { listed = has.1; starts = has.2; within = in_body i inside }

  -- what a node has by itself is live there
  own_live : (r i : ℕ) → i < length body → r < 32 → IsTrue (has_bit (get_or nodes.masks.items i 0) r) → (1 ≤ r) × LiveAt r i
  own_live r i inside low bit =
      let has = have.some i r inside low bit in
      let node = have.node i has.0 inside has.1 has.2 in
      ⊎_elim
      (λ reads. (zero_unread (instructions_of bytes has.0) r reads, IsLive.reads (block_in i inside has) reads))
      (λ leaves. (leaves.0, IsLive.leaves (block_in i inside has) leaves.1 leaves.2))
      (node.only r low bit)

  live_by : (r : ℕ) → r < 32 → {i : ℕ} → Reaches nodes.masks.items nodes.stops.items nodes.ways.items r i → i < length body → (1 ≤ r) × LiveAt r i
  live_by r low {i} (Reaches.here bit) inside = own_live r i inside low bit
  live_by r low (Reaches.along {way = way} listed free more) inside =
      let o = have.only way listed in
      let later = live_by r low more o.2 in
      let node = have.node way.from o.1.0 o.0 o.1.1 o.1.2 in
      (later.0, IsLive.onward (block_in way.from inside o.1) (sym (node.stops r low) ∙ free) o.3 later.1)

  live_within : {r s : ℕ} → IsLive bytes blocks edges body r s → Contains body s
  live_within (IsLive.reads h k) = h.within
  live_within (IsLive.leaves h k f) = h.within
  live_within (IsLive.onward h f k more) = h.within

  node_of : (i s : ℕ) (block : Block) → i < length body → get_or body i 0 ≡ s → IsBlockIn blocks body s block → IsNodeOf bytes edges body block (get_or nodes.stops.items i 0) (get_or nodes.masks.items i 0)
  node_of i s block inside e h = have.node i block inside h.listed (h.starts ∙ sym e)

  has_of : (i s : ℕ) (block : Block) → get_or body i 0 ≡ s → IsBlockIn blocks body s block → HasBlockAt blocks (get_or body i 0)
  has_of i s block e h = (block, h.listed, h.starts ∙ sym e)

  by_live : (r : ℕ) → 1 ≤ r → r < 32 → {s : ℕ} → IsLive bytes blocks edges body r s → (i : ℕ) → i < length body → get_or body i 0 ≡ s → Reaches nodes.masks.items nodes.stops.items nodes.ways.items r i
  by_live r some low {s} (IsLive.reads {block = block} h k) i inside e = Reaches.here ((node_of i s block inside e h).reads r low k)
  by_live r some low {s} (IsLive.leaves {block = block} h k f) i inside e = Reaches.here ((node_of i s block inside e h).leaves r some low k f)
  by_live r some low {s} (IsLive.onward {t = t} {block = block} h f leads more) i inside e =
      let o = have.all i t inside (has_of i s block e h) (subst (λ a. LeadsOn edges a t) (sym e) leads) (live_within more) in
      let to = (have.only o.0 o.1).2 in
      let from : o.0.from ≡ i = o.2 in
      let free : IsFalse (has_bit (get_or nodes.stops.items o.0.from 0) r) = ap (λ k. has_bit (get_or nodes.stops.items k 0) r) from ∙ ((node_of i s block inside e h).stops r low ∙ f) in
      subst (Reaches nodes.masks.items nodes.stops.items nodes.ways.items r) from
      (Reaches.along o.1 free (by_live r some low more o.0.to to o.3))

  -- the masks at the fixed point are those of the live registers
  module _ (masks : List ℕ) (all : HaveAll nodes.masks.items nodes.stops.items nodes.ways.items masks) where
    pub mask_of_live : (i : ℕ) → i < length body → get_or masks i 0 < 2 ^ 32 → IsMaskOf (λ r. IsLive bytes blocks edges body r (get_or body i 0)) (get_or masks i 0)
    mask_of_live i inside fits =
        let long : length nodes.masks.items ≡ length body = have.masks in
        record {
          size = fits;
          bits = λ r low. (
            λ bit. live_by r low ((all.exact i r (omega arith) low).0 bit) inside,
            λ live. (all.exact i r (omega arith) low).1 (by_live r live.0 low live.1 i inside refl),
          );
        }

    pub lives_made : (lives : List Live) → ((i : ℕ) → get_or masks i 0 < 2 ^ 32) → AreItemsOf body masks lives → AreLivesOf bytes blocks edges body lives
    lives_made lives fits items =
        zipped (IsLiveAt bytes blocks edges body) body lives (sym items.as_many)
        (λ i d e inside.
        let is : get_or lives i e ≡ record { block = get_or body i 0; mask = get_or masks i 0 } = items.each i e inside in
        let at : get_or body i 0 ≡ get_or body i d = get_or_default body i 0 d inside in
        subst (IsLiveAt bytes blocks edges body (get_or body i d)) (sym is)
        (subst (λ s. IsLiveAt bytes blocks edges body s (record { block = get_or body i 0; mask = get_or masks i 0 })) at
        (record { block = refl; mask = mask_of_live i inside (fits i) })))

  pub ways_within : All (IsWithin (length nodes.masks.items)) nodes.ways.items
  ways_within = λ k d inside.
      let long : length nodes.masks.items ≡ length body = have.masks in
      let o = have.only (get_or nodes.ways.items k d) (Contains-get_or nodes.ways.items k d inside) in
      record { leaves = omega (arith, o.0); enters = omega (arith, o.2) }
