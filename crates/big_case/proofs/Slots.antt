-- A slot's bytes, and how many bytes the code has.
use Rattle.std.proofs.Common.{◌≡◌, ℕ, zero, suc, ◌+◌, ◌-◌, ◌*◌, ◌%◌, ◌≤◌, List, [], ◌∷◌, ◌++◌, length, map, drop, replicate, refl, ap, ◌∙◌, arith, inl, inr, eqb}
use Rattle.std.specs.List.{flat_map, range_with_len}
use Rattle.std.proofs.lemmas.Bool.{cases_Bool}
use Rattle.std.proofs.lemmas.List.{append-nil, append_assoc, length-append, length-replicate, drop-replicate}
use Rattle.std.proofs.lemmas.List.Concat.{flat_map-append}
use Rattle.std.proofs.lemmas.List.FromFn.{map-range_with_len_more}
use Rattle.elf_maker.specs.Fields.{words}
use Rattle.big_case.specs.Slots.{function, slots, slot_bytes, code_bytes}

-- a word has four bytes
pub length-words : (ws : List ℕ) → length (words ws) ≡ 4 * length ws
unfolding words
length-words [] = refl
length-words (w ∷ ws) = omega (arith, length-words ws)

-- zero bytes whose first are the words of a slot are the bytes of the slot
pub slot_filled : (ws front zeros : List ℕ) → front ≡ words ws → zeros ≡ replicate 128 0 → front ++ drop (4 * length ws) zeros ≡ slot_bytes ws
unfolding slot_bytes
slot_filled ws front zeros is none =
    rw (is, none, drop-replicate {X = ℕ} (4 * length ws) 128 0, length-words ws) refl

-- a slot has 128 bytes
pub length-slot_bytes : (ws : List ℕ) → length ws ≤ 32 → length (slot_bytes ws) ≡ 128
unfolding slot_bytes
length-slot_bytes ws few =
    length-append (words ws) (replicate (128 - length (words ws)) 0)
    ∙ omega (arith, length-replicate {A = ℕ} (128 - length (words ws)) 0, length-words ws)

-- a function's words fit into its slot
pub few_words : (n i : ℕ) → length (function n i) ≤ 32
unfolding function
few_words n i = elim (cases_Bool (eqb (i % 4) 0)) [
  | inl is ↦ rw is (omega arith)
  | inr other ↦ rw other (elim (cases_Bool (eqb (i % 4) 1)) [
    | inl is ↦ rw is (omega arith)
    | inr other ↦ rw other (elim (cases_Bool (eqb (i % 4) 2)) [
      | inl is ↦ rw is (omega arith)
      | inr other ↦ rw other (omega arith)
    ])
  ])
]

-- the functions from a on have 128 bytes each
length-functions : (n a count : ℕ) → length (flat_map slot_bytes (map (function n) (range_with_len a count))) ≡ 128 * count
length-functions n a zero = refl
length-functions n a (suc count) =
    length-append (slot_bytes (function n a)) (flat_map slot_bytes (map (function n) (range_with_len (a + 1) count)))
    ∙ omega (arith, length-slot_bytes (function n a) (few_words n a), length-functions n (a + 1) count)

-- the code has 128 bytes for each slot
pub length-code_bytes : (n : ℕ) → length (code_bytes n) ≡ 128 * (n + 2)
unfolding code_bytes slots
length-code_bytes n =
    ap length (flat_map-append slot_bytes (map (function n) (range_with_len 0 n)) ((0x00008067 ∷ []) ∷ (0x0000006F ∷ []) ∷ []))
    ∙ length-append (flat_map slot_bytes (map (function n) (range_with_len 0 n))) _
    ∙ omega (
      arith,
      length-functions n 0 n,
      length-append (slot_bytes (0x00008067 ∷ [])) (slot_bytes (0x0000006F ∷ []) ++ []),
      length-append (slot_bytes (0x0000006F ∷ [])) [],
      length-slot_bytes (0x00008067 ∷ []) (omega arith),
      length-slot_bytes (0x0000006F ∷ []) (omega arith),
    )

-- one function more
pub function_more : (n i : ℕ) → flat_map slot_bytes (map (function n) (range_with_len 0 (i + 1))) ≡ flat_map slot_bytes (map (function n) (range_with_len 0 i)) ++ slot_bytes (function n i)
function_more n i =
    ap (flat_map slot_bytes) (map-range_with_len_more (function n) 0 i i (omega arith))
    ∙ flat_map-append slot_bytes (map (function n) (range_with_len 0 i)) (function n i ∷ [])
    ∙ rw append-nil refl

-- all functions, the slot that returns and the slot that loops
pub code_all : (n : ℕ) → code_bytes n ≡ flat_map slot_bytes (map (function n) (range_with_len 0 n)) ++ slot_bytes (0x00008067 ∷ []) ++ slot_bytes (0x0000006F ∷ [])
unfolding code_bytes slots
code_all n =
    flat_map-append slot_bytes (map (function n) (range_with_len 0 n)) ((0x00008067 ∷ []) ∷ (0x0000006F ∷ []) ∷ [])
    ∙ rw (append_assoc, append-nil) refl
