-- The extensions that several names are of.
use Rattle.std.proofs.Common.{◌≡◌, Bool, true, false, ◌||◌, ℕ, List, [], ◌∷◌, ◌++◌, append-nil, map, eqb, codes, refl, sym, ap, ap₂, ◌∙◌}
use Rattle.std.specs.Borrow.{Bor}
use Rattle.std.specs.Prelude.{bytes_eq}
use Rattle.std.specs.List.{list_any, flat_map, slice_split}
use Rattle.std.proofs.Math.Bool.{or-false}
use Rattle.std.proofs.lemmas.List.Concat.{flat_map-append, flat_map-cons}
use Rattle.std.proofs.lemmas.List.Folds.{list_any-append, flat_map-map}
use Rattle.elf_image.specs.declared.extensions.Extensions.{Extensions}
use Rattle.elf_image.specs.Architecture.{begins, is_named, is_vector, all_named, names_of_part}
use Rattle.elf_image.specs.Inner.Architecture.{lower, join}
use Rattle.elf_image.proofs.Lower.{split-lower}

module _ (ms ns : List (List ℕ)) where
  -- some words among both
  among : (words : List (List ℕ)) → is_named words (ms ++ ns) ≡ (is_named words ms || is_named words ns)
  among words = list_any-append (λ n. list_any (λ word. bytes_eq word n) words) ms ns

  -- the extensions of both
  pub extensions-append : all_named (ms ++ ns) ≡ join (all_named ms) (all_named ns)
  extensions-append = λ i. record {
    zba = among (codes "zba" ∷ codes "b" ∷ []) i;
    zbb = among (codes "zbb" ∷ codes "b" ∷ []) i;
    zbs = among (codes "zbs" ∷ codes "b" ∷ []) i;
    zbc = among (codes "zbc" ∷ []) i;
    zbkb = among (codes "zbkb" ∷ codes "zkn" ∷ codes "zk" ∷ codes "zks" ∷ []) i;
    zbkc = among (codes "zbkc" ∷ codes "zkn" ∷ codes "zk" ∷ codes "zks" ∷ []) i;
    zbkx = among (codes "zbkx" ∷ codes "zkn" ∷ codes "zk" ∷ codes "zks" ∷ []) i;
    zknd = among (codes "zknd" ∷ codes "zkn" ∷ codes "zk" ∷ []) i;
    zkne = among (codes "zkne" ∷ codes "zkn" ∷ codes "zk" ∷ []) i;
    zknh = among (codes "zknh" ∷ codes "zkn" ∷ codes "zk" ∷ []) i;
    zksed = among (codes "zksed" ∷ codes "zks" ∷ []) i;
    zksh = among (codes "zksh" ∷ codes "zks" ∷ []) i;
    zicond = among (codes "zicond" ∷ []) i;
    zcb = among (codes "zcb" ∷ codes "zce" ∷ []) i;
    zcmp = among (codes "zcmp" ∷ codes "zce" ∷ []) i;
    zcmt = among (codes "zcmt" ∷ codes "zce" ∷ []) i;
    zimop = among (codes "zimop" ∷ []) i;
    zcmop = among (codes "zcmop" ∷ []) i;
    zacas = among (codes "zacas" ∷ []) i;
    zabha = among (codes "zabha" ∷ []) i;
    zawrs = among (codes "zawrs" ∷ []) i;
    zicbom = among (codes "zicbom" ∷ []) i;
    zicboz = among (codes "zicboz" ∷ []) i;
    zicfiss = among (codes "zicfiss" ∷ []) i;
    zicfilp = among (codes "zicfilp" ∷ []) i;
    zfinx = among (codes "zfinx" ∷ codes "zdinx" ∷ codes "zhinx" ∷ codes "zhinxmin" ∷ []) i;
    zhinx = among (codes "zhinx" ∷ []) i;
    zhinxmin = among (codes "zhinxmin" ∷ []) i;
    zfh = among (codes "zfh" ∷ []) i;
    zfhmin = among (codes "zfhmin" ∷ []) i;
    zfa = among (codes "zfa" ∷ []) i;
    zfbfmin = among (codes "zfbfmin" ∷ []) i;
    zvfh = among (codes "zvfh" ∷ []) i;
    vector = list_any-append is_vector ms ns i;
    xthead = list_any-append (begins (codes "xthead")) ms ns i;
  }

-- one more part of a text
pub later-more : (yielded : List (Bor (List ℕ))) (part : Bor (List ℕ)) (found one both : Extensions) → found ≡ all_named (flat_map (λ (p : Bor (List ℕ)). names_of_part (lower p.now)) yielded) → one ≡ all_named (names_of_part (lower part.now)) → both ≡ join found one → both ≡ all_named (flat_map (λ (p : Bor (List ℕ)). names_of_part (lower p.now)) (yielded ++ part ∷ []))
later-more yielded part found one both before named joined =
    let names = λ (p : Bor (List ℕ)). names_of_part (lower p.now) in
    joined ∙ ap₂ join before named ∙ sym (extensions-append (flat_map names yielded) (names part))
    ∙ sym (ap all_named (flat_map-append names yielded (part ∷ []) ∙ ap (λ (more : List (List ℕ)). flat_map names yielded ++ more) (flat_map-cons names part [] ∙ append-nil (names part))))

-- all parts
pub later-all : (yielded : List (Bor (List ℕ))) (text : List ℕ) → map (λ (p : Bor (List ℕ)). p.now) yielded ≡ slice_split (λ c. eqb c 0x5F) text → flat_map (λ (p : Bor (List ℕ)). names_of_part (lower p.now)) yielded ≡ flat_map names_of_part (slice_split (λ c. eqb c 0x5F) (lower text))
later-all yielded text all =
    sym (flat_map-map (λ (part : List ℕ). names_of_part (lower part)) (λ (p : Bor (List ℕ)). p.now) yielded)
    ∙ ap (flat_map (λ (part : List ℕ). names_of_part (lower part))) all
    ∙ sym (flat_map-map names_of_part lower (slice_split (λ c. eqb c 0x5F) text))
    ∙ ap (flat_map names_of_part) (sym (split-lower text))

-- the same extensions, one by one
pub same_extensions : (a b : Extensions) → a.zba ≡ b.zba → a.zbb ≡ b.zbb → a.zbs ≡ b.zbs → a.zbc ≡ b.zbc → a.zbkb ≡ b.zbkb → a.zbkc ≡ b.zbkc → a.zbkx ≡ b.zbkx → a.zknd ≡ b.zknd → a.zkne ≡ b.zkne → a.zknh ≡ b.zknh → a.zksed ≡ b.zksed → a.zksh ≡ b.zksh → a.zicond ≡ b.zicond → a.zcb ≡ b.zcb → a.zcmp ≡ b.zcmp → a.zcmt ≡ b.zcmt → a.zimop ≡ b.zimop → a.zcmop ≡ b.zcmop → a.zacas ≡ b.zacas → a.zabha ≡ b.zabha → a.zawrs ≡ b.zawrs → a.zicbom ≡ b.zicbom → a.zicboz ≡ b.zicboz → a.zicfiss ≡ b.zicfiss → a.zicfilp ≡ b.zicfilp → a.zfinx ≡ b.zfinx → a.zhinx ≡ b.zhinx → a.zhinxmin ≡ b.zhinxmin → a.zfh ≡ b.zfh → a.zfhmin ≡ b.zfhmin → a.zfa ≡ b.zfa → a.zfbfmin ≡ b.zfbfmin → a.zvfh ≡ b.zvfh → a.vector ≡ b.vector → a.xthead ≡ b.xthead → a ≡ b
same_extensions a b zba zbb zbs zbc zbkb zbkc zbkx zknd zkne zknh zksed zksh zicond zcb zcmp zcmt zimop zcmop zacas zabha zawrs zicbom zicboz zicfiss zicfilp zfinx zhinx zhinxmin zfh zfhmin zfa zfbfmin zvfh vector xthead = λ i. record {
  zba = zba i;
  zbb = zbb i;
  zbs = zbs i;
  zbc = zbc i;
  zbkb = zbkb i;
  zbkc = zbkc i;
  zbkx = zbkx i;
  zknd = zknd i;
  zkne = zkne i;
  zknh = zknh i;
  zksed = zksed i;
  zksh = zksh i;
  zicond = zicond i;
  zcb = zcb i;
  zcmp = zcmp i;
  zcmt = zcmt i;
  zimop = zimop i;
  zcmop = zcmop i;
  zacas = zacas i;
  zabha = zabha i;
  zawrs = zawrs i;
  zicbom = zicbom i;
  zicboz = zicboz i;
  zicfiss = zicfiss i;
  zicfilp = zicfilp i;
  zfinx = zfinx i;
  zhinx = zhinx i;
  zhinxmin = zhinxmin i;
  zfh = zfh i;
  zfhmin = zfhmin i;
  zfa = zfa i;
  zfbfmin = zfbfmin i;
  zvfh = zvfh i;
  vector = vector i;
  xthead = xthead i;
}

-- a name alone, and one of several
pub one_name : (r : Bool) (name n : List ℕ) → r ≡ bytes_eq name n → r ≡ is_named (name ∷ []) (n ∷ [])
one_name r name n is = is ∙ sym (or-false (bytes_eq name n)) ∙ sym (or-false (bytes_eq name n || false))

pub one_more : (r s : Bool) (name n : List ℕ) (others : List (List ℕ)) → r ≡ bytes_eq name n → s ≡ is_named others (n ∷ []) → (r || s) ≡ is_named (name ∷ others) (n ∷ [])
one_more r s name n others is more = ap₂ (λ a b. a || b) is (more ∙ or-false (list_any (λ word. bytes_eq word n) others)) ∙ sym (or-false (bytes_eq name n || list_any (λ word. bytes_eq word n) others))

pub alone_passes : (p : List ℕ → Bool) (r : Bool) (n : List ℕ) → r ≡ p n → r ≡ list_any p (n ∷ [])
alone_passes p r n is = is ∙ sym (or-false (p n))
