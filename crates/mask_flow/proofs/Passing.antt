-- Masks between where they start and their fixed point.
use Rattle.std.proofs.Common.{◌≡◌, ℕ, ◌+◌, ◌<◌, ◌≤◌, ◌^◌, ◌&&◌, ◌||◌, ◌⊎◌, not, Bool, true, false, IsTrue, IsFalse, List, length, get_or, set, take, sum, All, Contains, refl, sym, ap, subst, ◌∙◌, inl, inr, ⊎_elim, bit_and, arith}
use Rattle.std.specs.Int.{w32, bit_not}
use Rattle.std.proofs.lemmas.Bool.{cases_eq}
use Rattle.std.proofs.lemmas.List.{length-set, get_or-set_same, get_or-set_other, take_all}
use Rattle.std.proofs.lemmas.List.Elements.{All-contains, All-more, All-same}
use Rattle.mask_flow.specs.declared.ways.Way.{Way}
use Rattle.mask_flow.specs.Reaches.{has_bit, IsWithin, Reaches, HaveAll}
use Rattle.mask_flow.specs.Inner.{passed, IsSpread, KeepsSpread, IsSettled}
use Rattle.mask_flow.proofs.Bits.{or_bit, and_not_bit}

-- every mask is one of 32 bits
abbrev pub Fit : List ℕ → Type 0
Fit masks = (i : ℕ) → get_or masks i 0 < 2 ^ 32

pub passed_bit : (stops masks : List ℕ) (way : Way) (r : ℕ) → Fit stops → r < 32
    → has_bit (passed stops masks way) r ≡ (has_bit (get_or masks way.from 0) r || (has_bit (get_or masks way.to 0) r && not (has_bit (get_or stops way.from 0) r)))
unfolding passed
passed_bit stops masks way r fit low =
    or_bit (get_or masks way.from 0) (bit_and (get_or masks way.to 0) (bit_not w32 (get_or stops way.from 0))) r
    ∙ ap (λ b. has_bit (get_or masks way.from 0) r || b) (and_not_bit (get_or masks way.to 0) (get_or stops way.from 0) r (fit way.from) low)

either : (a b c : Bool) → IsTrue (a || (b && not c)) → IsTrue a ⊎ (IsTrue b × IsFalse c)
either true b c h = inl refl
either false true false h = inr (refl, refl)
either false true true h = cc
either false false c h = cc

first_of : (a b : Bool) → IsTrue a → IsTrue (a || b)
first_of true b h = refl
first_of false b h = cc

second_of : (a b c : Bool) → IsTrue b → IsFalse c → IsTrue (a || (b && not c))
second_of true b c h k = refl
second_of false true false h k = refl
second_of false true true h k = cc
second_of false false c h k = cc

-- nothing was done yet
pub spread_none : (starts stops : List ℕ) (ways : List Way) → IsSpread starts stops ways starts
spread_none starts stops ways = record {
  as_many = refl;
  kept = λ node r within low h. h;
  sound = λ node r within low h. Reaches.here h;
}

pub keeps_none : (stops : List ℕ) (ways : List Way) (masks : List ℕ) → KeepsSpread stops ways masks masks
keeps_none stops ways masks = λ starts h. h

-- one way was tried
module _ (stops : List ℕ) (ways : List Way) (masks : List ℕ) (way : Way) (fit : Fit stops) (within : IsWithin (length masks) way) (listed : Contains ways way) where
  -- the mask of a node has its bits still, and others come along the way
  step_kept : (node r : ℕ) → r < 32 → IsTrue (has_bit (get_or masks node 0) r) → IsTrue (has_bit (get_or (set masks way.from (passed stops masks way)) node 0) r)
  step_kept node r low h =
      elim (cases_eq node way.from) [
        | inl same ↦
            let at : get_or (set masks way.from (passed stops masks way)) node 0 ≡ passed stops masks way = ap (λ k. get_or (set masks way.from (passed stops masks way)) k 0) same ∙ get_or-set_same masks way.from (passed stops masks way) 0 within.leaves in
            let old : IsTrue (has_bit (get_or masks way.from 0) r) = subst (λ k. IsTrue (has_bit (get_or masks k 0) r)) same h in
            ap (λ m. has_bit m r) at ∙ passed_bit stops masks way r fit low ∙ first_of _ _ old
        | inr other ↦ ap (λ m. has_bit m r) (get_or-set_other masks way.from node (passed stops masks way) 0 other) ∙ h
      ]

  step_sound : (P : ℕ → ℕ → Type 0) → ((node r : ℕ) → node < length masks → r < 32 → IsTrue (has_bit (get_or masks node 0) r) → P node r)
      → ((r : ℕ) → IsFalse (has_bit (get_or stops way.from 0) r) → P way.to r → P way.from r)
      → (node r : ℕ) → node < length masks → r < 32 → IsTrue (has_bit (get_or (set masks way.from (passed stops masks way)) node 0) r) → P node r
  step_sound P old along node r inside low h =
      elim (cases_eq node way.from) [
        | inl same ↦
            let at : get_or (set masks way.from (passed stops masks way)) node 0 ≡ passed stops masks way = ap (λ k. get_or (set masks way.from (passed stops masks way)) k 0) same ∙ get_or-set_same masks way.from (passed stops masks way) 0 within.leaves in
            let bit : IsTrue (has_bit (get_or masks way.from 0) r || (has_bit (get_or masks way.to 0) r && not (has_bit (get_or stops way.from 0) r))) = sym (passed_bit stops masks way r fit low) ∙ (sym (ap (λ m. has_bit m r) at) ∙ h) in
            let here : P way.from r = ⊎_elim (λ first. old way.from r within.leaves low first) (λ second. along r second.1 (old way.to r within.enters low second.0)) (either _ _ _ bit) in
            subst (λ k. P k r) (sym same) here
        | inr other ↦ old node r inside low (sym (ap (λ m. has_bit m r) (get_or-set_other masks way.from node (passed stops masks way) 0 other)) ∙ h)
      ]

  pub keeps_step : KeepsSpread stops ways masks (set masks way.from (passed stops masks way))
  keeps_step = λ starts h.
      let same : length masks ≡ length starts = h.as_many in
      record {
        as_many = length-set masks way.from (passed stops masks way) ∙ h.as_many;
        kept = λ node r inside low bit. step_kept node r low (h.kept node r inside low bit);
        sound = λ node r inside low bit. step_sound (λ n b. Reaches starts stops ways b n) (λ n b i l at. h.sound n b (omega arith) l at) (λ b free more. Reaches.along listed free more) node r (omega arith) low bit;
      }

-- no way changes anything any more
module _ (starts stops : List ℕ) (ways : List Way) (masks : List ℕ) (fit : Fit stops) (spread : IsSpread starts stops ways masks) (within : All (IsWithin (length starts)) ways) (settled : All (IsSettled stops masks) ways) where
  complete : (r : ℕ) → r < 32 → {node : ℕ} → Reaches starts stops ways r node → node < length starts → IsTrue (has_bit (get_or masks node 0) r)
  complete r low {node} (Reaches.here h) inside = spread.kept node r inside low h
  complete r low (Reaches.along {way = way} listed free more) inside =
      let both : IsWithin (length starts) way = All-contains (IsWithin (length starts)) ways way within listed in
      let later : IsTrue (has_bit (get_or masks way.to 0) r) = complete r low more both.enters in
      let still : passed stops masks way ≡ get_or masks way.from 0 = All-contains (IsSettled stops masks) ways way settled listed in
      sym (ap (λ m. has_bit m r) still) ∙ passed_bit stops masks way r fit low ∙ second_of _ _ _ later free

  pub have_all : HaveAll starts stops ways masks
  have_all = record {
    as_many = spread.as_many;
    exact = λ node r inside low. (spread.sound node r inside low, λ h. complete r low h inside);
  }

-- so many of the ways were tried, and this says whether a mask has more bits now
pub record IsLookedAt (stops : List ℕ) (ways : List Way) (tried : ℕ) (old new : List ℕ) (more : Bool) : Type 0 where
  pub keeps : KeepsSpread stops ways old new
  pub grows : sum old ≤ sum new
  pub rises : IsTrue more → sum old < sum new
  pub same : ¬ IsTrue more → new ≡ old
  pub settled : ¬ IsTrue more → All (IsSettled stops old) (take tried ways)

-- ways into a node were tried: the nodes that are added to those to be looked at have more bits
pub record IsVisited (stops : List ℕ) (ways : List Way) (old new : List ℕ) (before after : ℕ) : Type 0 where
  pub keeps : KeepsSpread stops ways old new
  pub ends : after + sum old ≤ before + sum new

-- one more way was tried, and the mask of the node that it leaves has more bits now
pub looked_changed : (stops : List ℕ) (ways : List Way) (tried : ℕ) (old mid new : List ℕ) (more : Bool) → IsLookedAt stops ways tried old mid more
    → KeepsSpread stops ways mid new → sum mid < sum new → IsLookedAt stops ways (tried + 1) old new true
looked_changed stops ways tried old mid new more h keeps rises = record {
  keeps = λ starts s. keeps starts (h.keeps starts s);
  grows = omega (arith, h.grows);
  rises = λ _. omega (arith, h.grows);
  same = λ no. absurd (no refl);
  settled = λ no. absurd (no refl);
}

-- the same where it changed nothing
pub looked_same : (stops : List ℕ) (ways : List Way) (tried : ℕ) (old mid new : List ℕ) (more : Bool) (d : Way) → tried < length ways → IsLookedAt stops ways tried old mid more
    → new ≡ mid → IsSettled stops mid (get_or ways tried d) → IsLookedAt stops ways (tried + 1) old new more
looked_same stops ways tried old mid new more d within h e settled = record {
  keeps = λ starts s. subst (IsSpread starts stops ways) (sym e) (h.keeps starts s);
  grows = let same : sum new ≡ sum mid = ap sum e in omega (arith, h.grows);
  rises = λ yes. let same : sum new ≡ sum mid = ap sum e in omega (arith, h.rises yes);
  same = λ no. e ∙ h.same no;
  settled = λ no. All-more (IsSettled stops old) ways tried d within (h.settled no) (subst (λ m. IsSettled stops m (get_or ways tried d)) (h.same no) settled);
}

pub looked_all : (stops : List ℕ) (ways : List Way) (tried : ℕ) (old : List ℕ) → length ways ≤ tried → All (IsSettled stops old) (take tried ways) → All (IsSettled stops old) ways
looked_all stops ways tried old all h = All-same (IsSettled stops old) ways (take tried ways) (sym (take_all tried ways all)) h

-- one more way into the node was tried
pub visited_more : (stops : List ℕ) (ways : List Way) (old mid new : List ℕ) (before between after : ℕ) → IsVisited stops ways old mid before between
    → KeepsSpread stops ways mid new → after + sum mid ≤ between + sum new → IsVisited stops ways old new before after
visited_more stops ways old mid new before between after h keeps ends = record {
  keeps = λ starts s. keeps starts (h.keeps starts s);
  ends = omega (arith, h.ends);
}
