-- The nearest of some addresses, one more at a time.
use Rattle.std.proofs.Common.{◌≡◌, ℕ, ◌+◌, ◌<◌, ◌≤◌, ◌⊎◌, List, ◌∷◌, [], ◌++◌, Option, Some, None, length, take, get_or, sym, subst, inl, inr}
use Rattle.std.specs.Prelude.{All, MatchOption, IfSome}
use Rattle.std.proofs.lemmas.List.{take_more, take_all}
use Rattle.std.proofs.lemmas.List.Elements.{All-push}
use Rattle.cert_text.specs.declared.lines.ReturnLine.{ReturnLine}
use Rattle.cfg_model.specs.Program.Instructions.{InstructionMap}
use Rattle.cert_make.specs.declared.returns.Way.{Way}
use Rattle.cert_make.specs.Inner.Returns.{EndHasRank, EndHasNone, IsNotAfter, IsNearest}
use Rattle.cert_make.proofs.Settling.{nearest_still, nearest_first, nearest_new, nearest_old}

-- the nearest so far
abbrev pub Nearest : InstructionMap → List ReturnLine → List ℕ → Option Way → Type 0
Nearest map lines xs o = MatchOption o (All (EndHasNone map lines) xs) (λ w. IsNearest map lines xs w.rank w.to)

one_more_at : (map : InstructionMap) (lines : List ReturnLine) (xs : List ℕ) (i : ℕ) (o : Option Way) → i < length xs → Nearest map lines (take i xs ++ get_or xs i 0 ∷ []) o → Nearest map lines (take (i + 1) xs) o
one_more_at map lines xs i o lt near = subst (λ (ys : List ℕ). Nearest map lines ys o) (sym (take_more xs i 0 lt)) near

pub near_at_end : (map : InstructionMap) (lines : List ReturnLine) (xs : List ℕ) (i : ℕ) (o : Option Way) → length xs ≤ i → Nearest map lines (take i xs) o → Nearest map lines xs o
near_at_end map lines xs i o long near = subst (λ (ys : List ℕ). Nearest map lines ys o) (take_all i xs long) near

still : (map : InstructionMap) (lines : List ReturnLine) (xs : List ℕ) (x : ℕ) (o : Option Way) → Nearest map lines xs o → EndHasNone map lines x → Nearest map lines (xs ++ x ∷ []) o
still map lines xs x None near none = All-push (EndHasNone map lines) xs x near none
still map lines xs x (Some w) near none = nearest_still map lines xs x w.rank w.to near none

pub near_still : (map : InstructionMap) (lines : List ReturnLine) (xs : List ℕ) (i : ℕ) (o : Option Way) → i < length xs → Nearest map lines (take i xs) o → EndHasNone map lines (get_or xs i 0) → Nearest map lines (take (i + 1) xs) o
near_still map lines xs i o lt near none = one_more_at map lines xs i o lt (still map lines (take i xs) (get_or xs i 0) o near none)

abbrev way_of : ℕ → ℕ → Way
way_of rank to = record { rank = rank; to = to }

nearer : (map : InstructionMap) (lines : List ReturnLine) (xs : List ℕ) (x rank : ℕ) (o : Option Way) (w : Way) → Nearest map lines xs o → EndHasRank map lines rank x
    → (w ≡ way_of rank x) ⊎ (o ≡ Some w) → IsNotAfter w.rank w.to rank x → IfSome o (λ v. IsNotAfter w.rank w.to v.rank v.to) → IsNearest map lines (xs ++ x ∷ []) w.rank w.to
nearer map lines xs x rank None w near has (inl same) new old =
    subst (λ (v : Way). IsNearest map lines (xs ++ x ∷ []) v.rank v.to) (sym same) (nearest_first map lines xs x rank near has)
nearer map lines xs x rank (Some v) w near has (inl same) new old =
    let before : IsNotAfter rank x v.rank v.to = subst (λ (u : Way). IsNotAfter u.rank u.to v.rank v.to) same old in
    subst (λ (u : Way). IsNearest map lines (xs ++ x ∷ []) u.rank u.to) (sym same) (nearest_new map lines xs x rank v.rank v.to near has before)
nearer map lines xs x rank None w near has (inr same) new old = absurd cc
nearer map lines xs x rank (Some v) w near has (inr same) new old =
    let is : v ≡ w = cc in
    let known : IsNearest map lines xs w.rank w.to = subst (λ (u : Way). IsNearest map lines xs u.rank u.to) is near in
    nearest_old map lines xs x rank w.rank w.to known has new

pub near_new : (map : InstructionMap) (lines : List ReturnLine) (xs : List ℕ) (i rank : ℕ) (o : Option Way) (w : Way) → i < length xs → Nearest map lines (take i xs) o → EndHasRank map lines rank (get_or xs i 0)
    → (w ≡ way_of rank (get_or xs i 0)) ⊎ (o ≡ Some w) → IsNotAfter w.rank w.to rank (get_or xs i 0) → IfSome o (λ v. IsNotAfter w.rank w.to v.rank v.to) → Nearest map lines (take (i + 1) xs) (Some w)
near_new map lines xs i rank o w lt near has which new old =
    one_more_at map lines xs i (Some w) lt (nearer map lines (take i xs) (get_or xs i 0) rank o w near has which new old)
