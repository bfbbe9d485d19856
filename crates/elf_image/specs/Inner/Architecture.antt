-- Texts that are read as they would be in lower case, and what they name. No public clause names what stands here.
use Rattle.std.specs.Prelude.{ℕ, ◌||◌, List, map, reverse}
use Rattle.std.specs.Borrow.{Bor}
use Rattle.std.specs.Char.{to_ascii_lowercase}
use Rattle.std.specs.Option.{option_map}
use Rattle.std.specs.declared.option.Option.{Option}
use Rattle.elf_image.specs.declared.extensions.Extensions.{Extensions}

abbrev pub lower : List ℕ → List ℕ
lower text = map to_ascii_lowercase text

-- the text that a search leaves, forwards and backwards
abbrev pub left : Option (Bor (List ℕ)) → Option (List ℕ)
left = option_map (λ t. lower t.now)

abbrev pub left_reversed : Option (Bor (List ℕ)) → Option (List ℕ)
left_reversed = option_map (λ t. reverse (lower t.now))

-- the extensions of both
abbrev pub join : Extensions → Extensions → Extensions
join a b = record {
  zba = a.zba || b.zba;
  zbb = a.zbb || b.zbb;
  zbs = a.zbs || b.zbs;
  zbc = a.zbc || b.zbc;
  zbkb = a.zbkb || b.zbkb;
  zbkc = a.zbkc || b.zbkc;
  zbkx = a.zbkx || b.zbkx;
  zknd = a.zknd || b.zknd;
  zkne = a.zkne || b.zkne;
  zknh = a.zknh || b.zknh;
  zksed = a.zksed || b.zksed;
  zksh = a.zksh || b.zksh;
  zicond = a.zicond || b.zicond;
  zcb = a.zcb || b.zcb;
  zcmp = a.zcmp || b.zcmp;
  zcmt = a.zcmt || b.zcmt;
  zimop = a.zimop || b.zimop;
  zcmop = a.zcmop || b.zcmop;
  zacas = a.zacas || b.zacas;
  zabha = a.zabha || b.zabha;
  zawrs = a.zawrs || b.zawrs;
  zicbom = a.zicbom || b.zicbom;
  zicboz = a.zicboz || b.zicboz;
  zicfiss = a.zicfiss || b.zicfiss;
  zicfilp = a.zicfilp || b.zicfilp;
  zfinx = a.zfinx || b.zfinx;
  zhinx = a.zhinx || b.zhinx;
  zhinxmin = a.zhinxmin || b.zhinxmin;
  zfh = a.zfh || b.zfh;
  zfhmin = a.zfhmin || b.zfhmin;
  zfa = a.zfa || b.zfa;
  zfbfmin = a.zfbfmin || b.zfbfmin;
  zvfh = a.zvfh || b.zvfh;
  vector = a.vector || b.vector;
  xthead = a.xthead || b.xthead;
}
