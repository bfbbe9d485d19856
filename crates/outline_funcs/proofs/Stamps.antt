-- A block is found, and gets its stamp.
use Rattle.std.proofs.Common.{◌≡◌, ◌≢◌, ℕ, ◌<◌, ◌≤◌, List, [], ◌∷◌, ◌++◌, length, get_or, set, replicate, ap, sym, ◌∙◌, subst, inl, inr, ⊎_elim, arith, length-set, get_or-set_same, get_or-set_other}
use Rattle.std.specs.List.{Contains}
use Rattle.std.specs.List.{All}
use Rattle.std.proofs.lemmas.Bool.{cases_eq}
use Rattle.std.proofs.lemmas.List.{length-replicate, get_or-replicate}
use Rattle.std.proofs.lemmas.List.Elements.{Contains-append_left, Contains-get_or, Contains-push, Contains-push_cases}
use Rattle.std.proofs.lemmas.List.Quantifiers.{all_pairs_push}
use Rattle.outline_funcs.specs.Inner.Found.{AreStamped}

-- nothing is found yet
pub none_stamped : (stamps : List ℕ) (n : ℕ) → stamps ≡ replicate n 0 → All (λ s. s ≤ 0) stamps
none_stamped stamps n is = λ k d lt.
    let long : length stamps ≡ n = ap length is ∙ length-replicate n 0 in
    let zero : get_or stamps k d ≡ 0 = ap (λ l. get_or l k d) is ∙ get_or-replicate n k 0 d (omega arith) in
    omega arith

module _ (stamp block : ℕ) (order stamps : List ℕ) (within : block < length stamps) (p : AreStamped stamp order stamps) where
  abbrev after : List ℕ
  after = set stamps block stamp

  pub stamped_more : get_or stamps block 0 ≢ stamp → AreStamped stamp (order ++ block ∷ []) after
  stamped_more new = record {
    apart = all_pairs_push ◌≢◌ order block p.apart (λ k d lt same. new ((p.exact block within).1 (subst (Contains order) same (Contains-get_or order k d lt))));
    known = λ j h.
        let long : length after ≡ length stamps = length-set stamps block stamp in
        elim (Contains-push_cases order block j h) [
          | inl before ↦ let lt : j < length stamps = p.known j before in omega arith
          | inr is ↦ let e : block ≡ j = is in omega arith
        ];
    exact = λ j lt.
        let long : length after ≡ length stamps = length-set stamps block stamp in
        elim (cases_eq j block) [
          | inl e ↦ (
            (λ h. subst (Contains (order ++ block ∷ [])) (sym e) (Contains-push order block)),
            (λ h. subst (λ n. get_or after n 0 ≡ stamp) (sym e) (get_or-set_same stamps block stamp 0 within)),
          )
          | inr ne ↦ (
            (λ h. Contains-append_left order (block ∷ []) j ((p.exact j (omega arith)).0 (sym (get_or-set_other stamps block j stamp 0 ne) ∙ h))),
            (λ h. get_or-set_other stamps block j stamp 0 ne ∙ (p.exact j (omega arith)).1 (⊎_elim (λ before. before) (λ is. absurd (ne (sym is))) (Contains-push_cases order block j h))),
          )
        ];
    most = λ k d lt.
        let long : length after ≡ length stamps = length-set stamps block stamp in
        elim (cases_eq k block) [
          | inl e ↦ rw e (let is : get_or after block d ≡ stamp = get_or-set_same stamps block stamp d within in omega arith)
          | inr ne ↦ let is : get_or after k d ≡ get_or stamps k d = get_or-set_other stamps block k stamp d ne in
              let low : get_or stamps k d ≤ stamp = p.most k d (omega arith) in
              omega arith
        ];
  }
