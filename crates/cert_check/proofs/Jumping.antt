-- Blocks that come after one another, and jumps among them.
use Rattle.std.proofs.Common.{◌≡◌, ℕ, ◌+◌, ◌<◌, ◌≤◌, ◌⊎◌, List, length, get_or, set, refl, sym, ap, ◌∙◌, subst, inl, inr, arith}
use Rattle.std.specs.Prelude.{Some, None}
use Rattle.std.proofs.lemmas.Bool.{cases_eq}
use Rattle.std.proofs.lemmas.List.{get_or-set_same, get_or-set_other, length-set}
use Rattle.cert_check.specs.declared.blocks.Run.{Run}
use Rattle.cert_check.specs.declared.jumps.Jump.{Jump}
use Rattle.cert_check.specs.Inner.Jumps.{AreJumps, IsForest, LeadsAlong, into_of}

-- any jump, for reads of a list
abbrev pub no_jump : Jump
no_jump = record { to = 0; after = 0 }

pub same_some : (i j : ℕ) → Some i ≡ Some j → i ≡ j
same_some i j e = cc

pub none_some : (i : ℕ) → None ≡ Some i → ⊥
none_some i e = cc

pub along_cases : {runs : List Run} {i j : ℕ} → LeadsAlong runs i j → (i ≡ j) ⊎ ((next : ℕ) × (into_of runs i ≡ Some next) × LeadsAlong runs next j)
along_cases LeadsAlong.here = inl refl
along_cases (LeadsAlong.on {next = next} e rest) = inr (next, e, rest)

pub along_on : {runs : List Run} {i j k : ℕ} → LeadsAlong runs i j → LeadsAlong runs j k → LeadsAlong runs i k
along_on LeadsAlong.here rest = rest
along_on (LeadsAlong.on e more) rest = LeadsAlong.on e (along_on more rest)

pub along_up : {runs : List Run} → IsForest runs → {i j : ℕ} → LeadsAlong runs i j → i ≤ j
along_up forest LeadsAlong.here = omega arith
along_up forest (LeadsAlong.on {i = i} {next = next} e rest) = omega (arith, (forest.onward i next e).0, along_up forest rest)

pub along_within : {runs : List Run} → IsForest runs → {i j : ℕ} → i < length runs → LeadsAlong runs i j → j < length runs
along_within forest within LeadsAlong.here = within
along_within forest within (LeadsAlong.on {i = i} {next = next} e rest) = along_within forest (forest.onward i next e).1 rest

-- of two blocks that come after one, the later comes after the earlier
pub along_order : {runs : List Run} → IsForest runs → {i m k : ℕ} → LeadsAlong runs i m → LeadsAlong runs i k → m ≤ k → LeadsAlong runs m k
along_order forest LeadsAlong.here second le = second
along_order {runs} forest {m = m} {k = k} (LeadsAlong.on {i = i} {next = next} e rest) second le =
    elim (along_cases second) [
      | inl same ↦ absurd (omega (arith, same, le, (forest.onward i next e).0, along_up forest rest))
      | inr more ↦ along_order forest rest (subst (λ x. LeadsAlong runs x k) (same_some more.0 next (sym more.1 ∙ e)) more.2) le
    ]

-- what goes on into no block leads to itself alone
pub nowhere : {runs : List Run} {i j : ℕ} → into_of runs i ≡ None → LeadsAlong runs i j → i ≡ j
nowhere none along = elim (along_cases along) [
  | inl same ↦ same
  | inr more ↦ absurd (none_some more.0 (sym none ∙ more.1))
]

module _ (runs : List Run) (jumps : List Jump) where
  -- the jump of a block
  pub record IsJump (i : ℕ) (jump : Jump) : Type 0 where
    pub along : LeadsAlong runs i jump.to
    pub within : jump.to < length runs
    pub up : i ≤ jump.to

  pub jump_at : IsForest runs → (first i : ℕ) (d : Jump) → AreJumps runs jumps first → first ≤ i → i < length runs → IsJump i (get_or jumps i d)
  jump_at forest first i d are above within =
      let along = are.along i d above within in
      record { along = along; within = along_within forest within along; up = along_up forest along }

  -- the jump of the block that block i goes on into, and the jump from there
  pub near_jump : IsForest runs → (i next : ℕ) (d : Jump) → AreJumps runs jumps (i + 1) → into_of runs i ≡ Some next → IsJump next (get_or jumps next d)
  near_jump forest i next d are e =
      let on = forest.onward i next e in
      jump_at forest (i + 1) next d are (omega (arith, on.0)) on.1

  pub far_jump : IsForest runs → (i next : ℕ) (d e : Jump) → AreJumps runs jumps (i + 1) → into_of runs i ≡ Some next → IsJump (get_or jumps next d).to (get_or jumps (get_or jumps next d).to e)
  far_jump forest i next d e are on =
      let near = near_jump forest i next d are on in
      let up : i < next = (forest.onward i next on).0 in
      jump_at forest (i + 1) (get_or jumps next d).to e are (omega (arith, near.up, up)) near.within

  pub jumps_step : (k : ℕ) (jump : Jump) → k < length runs → AreJumps runs jumps (k + 1) → LeadsAlong runs k jump.to → AreJumps runs (set jumps k jump) k
  jumps_step k jump within are leads = record {
    as_many = length-set jumps k jump ∙ are.as_many;
    along = λ i d above below. elim (cases_eq i k) [
      | inl e ↦
          let at : k < length jumps = omega (arith, are.as_many) in
          let is : get_or (set jumps k jump) i d ≡ jump = ap (λ n. get_or (set jumps k jump) n d) e ∙ get_or-set_same jumps k jump d at in
          subst (λ n. LeadsAlong runs n (get_or (set jumps k jump) i d).to) (sym e) (subst (λ (j : Jump). LeadsAlong runs k j.to) (sym is) leads)
      | inr ne ↦
          let is : get_or (set jumps k jump) i d ≡ get_or jumps i d = get_or-set_other jumps k i jump d ne in
          subst (λ (j : Jump). LeadsAlong runs i j.to) (sym is) (are.along i d (omega arith) below)
    ];
  }

  pub no_jumps : length jumps ≡ length runs → AreJumps runs jumps (length runs)
  no_jumps many = record { as_many = many; along = λ i d above within. absurd (omega arith) }
