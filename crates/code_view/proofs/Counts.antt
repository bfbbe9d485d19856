-- The map of the cuts, and the entries that stand for it.
use Rattle.std.proofs.Common.{◌≡◌, ℕ, true, cond, List, [], ◌∷◌, Some, None, refl, sym, ap, ◌∙◌}
use Rattle.std.specs.Map.{lookup}
use Rattle.std.specs.Ordering.{nat_cmp, eq_by_cmp}
use Rattle.std.specs.Cmp.{nat_cmp_total, eq_by_cmp_equiv}
use Rattle.std.specs.BTreeMap.{is_at}
use Rattle.std.specs.FinMap as map

abbrev pub Entries : Type 0
Entries = List (ℕ × ℕ)

find-lookup : (q : ℕ) (es : Entries) → map.find nat_cmp q es ≡ lookup (is_at (nat_cmp q)) es
find-lookup q [] = refl
find-lookup q (e ∷ es) = ap (cond (eq_by_cmp nat_cmp q e.0) (Some e.1)) (find-lookup q es)

pub get-lookup : (q : ℕ) (es : Entries) → map.get (map.from_entries {R = nat_cmp} es) q ≡ lookup (is_at (nat_cmp q)) es
get-lookup q es = map.get-from_entries nat_cmp_total es q ∙ find-lookup q es

-- Entries that have v at k, and else what others have, stand for their map with v at k.
pub put-lookup : (es fs : Entries) (k v : ℕ) → ((q : ℕ) → lookup (is_at (nat_cmp q)) fs ≡ cond (is_at (nat_cmp k) q) (Some v) (lookup (is_at (nat_cmp q)) es))
    → map.from_entries {R = nat_cmp} fs ≡ map.insert (map.from_entries es) k v
put-lookup es fs k v at =
    map.same_map nat_cmp_total map.nat_cmp-IsAntisymmetric _ _ (λ q.
    get-lookup q fs ∙ at q
    ∙ ap (λ b. cond b (Some v) (lookup (is_at (nat_cmp q)) es)) ((eq_by_cmp_equiv nat_cmp_total).symm k q)
    ∙ ap (cond (eq_by_cmp nat_cmp q k) (Some v)) (sym (get-lookup q es))
    ∙ sym (map.get-insert nat_cmp_total (map.from_entries es) k v q))

-- Entries stand for the empty map where there are none, and nowhere else.
pub none-empty : (es : Entries) → es ≡ [] → map.from_entries {R = nat_cmp} es ≡ map.empty
none-empty es is = ap (λ xs. map.from_entries {R = nat_cmp} xs) is

pub empty-none : (es : Entries) → map.from_entries {R = nat_cmp} es ≡ map.empty → es ≡ []
empty-none [] is = refl
empty-none (e ∷ es) is =
    let here : Some e.1 ≡ None = sym (ap (λ b. cond b (Some e.1) (map.find nat_cmp e.0 es)) (tied_same e.0)) ∙ sym (map.get-from_entries nat_cmp_total (e ∷ es) e.0)
    ∙ ap (λ m. map.get m e.0) is ∙ map.get-empty nat_cmp e.0 in
    absurd (cc)
  where
    tied_same : (k : ℕ) → eq_by_cmp nat_cmp k k ≡ true
    tied_same k = (eq_by_cmp_equiv nat_cmp_total).refl k
