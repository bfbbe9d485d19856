-- The least base above the start of a table, among bases in order.
use Rattle.std.proofs.Common.{◌≡◌, ℕ, ◌+◌, ◌-◌, ◌*◌, ◌/◌, ◌<◌, ◌≤◌, true, false, leb, List, length, get_or, refl, ◌∙◌, inl, inr, arith}
use Rattle.std.specs.Prelude.{Contains}
use Rattle.std.specs.List.Sorted.{IsPartitionPoint, IsNonDecreasing}
use Rattle.std.proofs.lemmas.Bool.{leb-true, leb-false, cases_order}
use Rattle.std.proofs.lemmas.List.{get_or_default}
use Rattle.std.proofs.lemmas.Nat.{le-div}
use Rattle.std.proofs.Math.Nat.{div-mul-le_self, le-max_left, le-max_right, max-le, mul_comm}
use Rattle.std.proofs.lemmas.List.Elements.{Contains-get_or}
use Rattle.cfg_model.specs.Program.Cuts.{Extent, kept_before}
use Rattle.table_cuts.specs.Inner.{IsCutBy}

-- The bases up to place i are those not above the start.
pub record IsSplit (bases : List ℕ) (start i : ℕ) : Type 0 where
  pub in_order : IsNonDecreasing bases
  pub before : (k d : ℕ) → k < i → get_or bases k d ≤ start
  pub after : (k d : ℕ) → i ≤ k → k < length bases → start < get_or bases k d

pub split : (bases : List ℕ) (start i : ℕ) → IsNonDecreasing bases → IsPartitionPoint (λ b. leb b start ≡ true) (λ b. leb b start ≡ false) bases i → IsSplit bases start i
split bases start i in_order point = record {
  in_order = in_order;
  before = λ k d below. leb-true (get_or bases k d) start (point.0 k d (omega arith) below);
  after = λ k d from below. leb-false (get_or bases k d) start (point.1 k d from below);
}

-- What divides to less than a number lies below as many times the divisor.
below-mul : (x w n : ℕ) → 0 < w → x / w < n → x < w * n
below-mul x w n wide less = elim (cases_order x (w * n)) [
  | inl same ↦ absurd (omega (arith, less, le-div n x w wide (omega (arith, same, mul_comm n w))))
  | inr other ↦ elim other [
    | inl before ↦ before
    | inr after ↦ absurd (omega (arith, less, le-div n x w wide (omega (arith, after, mul_comm n w))))
  ]
]

-- The farther a base lies in a table, the more entries lie before it.
before-up : (table : Extent) (low high : ℕ) → 0 < table.width → low ≤ high → kept_before table low ≤ kept_before table high
before-up table low high wide up =
    let whole = div-mul-le_self (low - table.base) table.width in
    let more = le-div ((low - table.base) / table.width) (high - table.base) table.width wide (omega (arith, whole, up)) in
    max-le (le-max_left 1 ((high - table.base) / table.width))
    (omega (arith, more, le-max_right 1 ((high - table.base) / table.width)))

module _ (bases : List ℕ) (table : Extent) (i : ℕ) (s : IsSplit bases table.base i) where
  -- A base inside the table stands at place i or behind it.
  from_place : (b : ℕ) (there : Contains bases b) → table.base < b → i ≤ there.0
  from_place b there above = elim (cases_order i there.0) [
    | inl same ↦ omega arith
    | inr other ↦ elim other [
      | inl before ↦ omega arith
      | inr after ↦ absurd (omega (arith, s.before there.0 b after, there.2))
    ]
  ]

  pub none_above : i ≡ length bases → (kept : ℕ) → ¬ IsCutBy bases table kept
  none_above all kept cut = omega (arith, from_place cut.base cut.there cut.inside.above, cut.there.1)

  module _ (d : ℕ) (within : i < length bases) where
    least : (b : ℕ) → Contains bases b → table.base < b → get_or bases i d ≤ b
    least b there above =
        let in_order = s.in_order i there.0 d (from_place b there above) there.1 in
        let same : get_or bases there.0 d ≡ b = get_or_default bases there.0 d b there.1 ∙ there.2 in
        omega (arith, in_order, same)

    pub above_start : table.base < get_or bases i d
    above_start = s.after i d (omega arith) within

    -- Fewer entries than there are lie before it alone where it lies inside.
    lies_below : 0 < table.width → kept_before table (get_or bases i d) < table.count → get_or bases i d < table.base + table.width * table.count
    lies_below wide fewer =
        let some = le-max_right 1 ((get_or bases i d - table.base) / table.width) in
        let below = below-mul (get_or bases i d - table.base) table.width table.count wide (omega (arith, some, fewer)) in
        omega (arith, below, above_start)

    pub cut_at : 0 < table.width → kept_before table (get_or bases i d) < table.count → IsCutBy bases table (kept_before table (get_or bases i d))
    cut_at wide fewer = record {
      base = get_or bases i d;
      there = Contains-get_or bases i d within;
      inside = record { above = above_start; below = lies_below wide fewer };
      least = λ b there inside. least b there inside.above;
      entries = refl;
      fewer = fewer;
    }

    pub none_cut : 0 < table.width → table.count ≤ kept_before table (get_or bases i d) → (kept : ℕ) → ¬ IsCutBy bases table kept
    none_cut wide all kept cut =
        let up = before-up table (get_or bases i d) cut.base wide (least cut.base cut.there cut.inside.above) in
        omega (arith, up, all, cut.entries, cut.fewer)
