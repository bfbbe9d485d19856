-- What is made range by range, put together, is made of all.
use Rattle.std.proofs.Common.{◌≡◌, ℕ, suc, ◌+◌, ◌*◌, ◌<◌, ◌≤◌, Bool, List, [], ◌∷◌, ◌++◌, length, get_or, IsSome, Ok, Err, map, refl, ap, ◌∙◌, subst, arith}
use Rattle.std.specs.Prelude.{◌↔◌, IfOk}
use Rattle.std.specs.List.{All, flat_map}
use Rattle.std.proofs.lemmas.Result.{IfOk-weaker}
use Rattle.std.proofs.lemmas.List.{get_or-map, length-map}
use Rattle.std.proofs.lemmas.List.Elements.{Contains-get_or}
use native.Mathlib.Nat.{suc-mul, zero-mul}
use Rattle.cfg_model.specs.declared.graph.Block.{Block}
use Rattle.cfg_model.specs.declared.graph.Edge.{Edge}
use Rattle.cfg_model.specs.Program.Instructions.{InstructionMap}
use Rattle.cfg_model.specs.Graph.Graph.{IsOutline}
use Rattle.cfg_model.specs.Graph.Leader.{IsLeader}
use Rattle.cfg_model.specs.Program.Reach.{Reached}
use Rattle.cfg_model.proofs.Program.Known.{reached_along}
use Rattle.numbered.specs.Numbering.{IsMarked, NumbersRise}
use Rattle.reached_graph.specs.declared.leaders.Leaders.{Leaders}
use Rattle.reached_graph.specs.Inner.Cuts.{AreCutIn}
use Rattle.reached_graph.specs.Inner.Leaders.{AreLeaderMarks}
use Rattle.reached_graph.specs.Inner.Parts.{Answered, AnsweredCuts, AnswerCuts, AnswerParts, AreCutByRange, IsMade, IsMadeIn, blocks_in, edges_in}
use Rattle.reached_graph.proofs.Leading.{leaders_are}
use Rattle.reached_graph.proofs.Making.{outline_made}
use Rattle.reached_graph.proofs.Ranges.{cut_all, cut_both, cut_none, cut_same, ranges_below}
use Rattle.reached_graph.proofs.Together.{both_part, none_part}

module _ (map : InstructionMap) (number : ℕ → ℕ) (IsCut : ℕ → Type 0) where
  -- the same cuts in other words
  made_same : (Other : ℕ → Type 0) → ((a : ℕ) → IsCut a ↔ Other a) → (from until : ℕ) (blocks : List Block) (edges : List Edge) → IsMadeIn map number IsCut from until blocks edges → IsMadeIn map number Other from until blocks edges
  made_same Other same from until blocks edges made = record {
    starts = made.starts;
    lasts = made.lasts;
    cut = cut_same map number IsCut Other same from until made.starts made.lasts made.cut;
    part = made.part;
  }

  none_made : (from : ℕ) → IsMadeIn map number IsCut from from [] []
  none_made from = record { starts = []; lasts = []; cut = cut_none map number IsCut from; part = none_part map [] [] refl }

  answer_made : (from until : ℕ) (answer : Answered) → IfOk answer (λ part. IsMadeIn map number IsCut from until part.blocks.items part.edges.items) → IsMade answer → IsMadeIn map number IsCut from until (blocks_in answer) (edges_in answer)
  answer_made from until (Ok part) is made = is
  answer_made from until (Err e) is made = absurd (cc)

  module _ (rises : NumbersRise map number) (stands : (a : ℕ) → IsCut a → IsSome (map a)) where
    both_made : (from mid until : ℕ) → from ≤ mid → mid ≤ until → (blocks more : List Block) (edges ways : List Edge) → IsMadeIn map number IsCut from mid blocks edges → IsMadeIn map number IsCut mid until more ways
        → IsMadeIn map number IsCut from until (blocks ++ more) (edges ++ ways)
    both_made from mid until first second blocks more edges ways one other = record {
      starts = one.starts ++ other.starts;
      lasts = one.lasts ++ other.lasts;
      cut = cut_both map number rises IsCut stands from mid until first second one.starts one.lasts other.starts other.lasts one.cut other.cut;
      part = both_part map one.starts other.starts one.lasts other.lasts blocks more edges ways one.cut.cut.as_many
          (λ i j left right.
          ranges_below map number rises IsCut stands from mid until first second one.starts one.lasts other.starts other.lasts one.cut other.cut (get_or one.starts i 0) (get_or other.starts j 0) (Contains-get_or one.starts i 0 left)
          (Contains-get_or other.starts j 0 right))
          one.part other.part;
    }

    parts_from : (size : ℕ) (answers : List Answered) (from : ℕ)
        → ((n : ℕ) (d : Answered) → n < length answers → IfOk (get_or answers n d) (λ part. IsMadeIn map number IsCut (from + n * size) (from + n * size + size) part.blocks.items part.edges.items)) → All IsMade answers
        → IsMadeIn map number IsCut from (from + length answers * size) (flat_map blocks_in answers) (flat_map edges_in answers)
    parts_from size [] from each made = subst (λ n. IsMadeIn map number IsCut from n [] []) (omega (arith, zero-mul size)) (none_made from)
    parts_from size (answer ∷ answers) from each made =
        let first : IfOk answer (λ part. IsMadeIn map number IsCut from (from + size) part.blocks.items part.edges.items) =
        subst (λ n. IfOk answer (λ part. IsMadeIn map number IsCut n (n + size) part.blocks.items part.edges.items)) (omega (arith, zero-mul size)) (each 0 answer (omega arith)) in
        let rest : IsMadeIn map number IsCut (from + size) (from + size + length answers * size) (flat_map blocks_in answers) (flat_map edges_in answers) =
        parts_from size answers (from + size)
        (λ n d within.
        subst (λ m. IfOk (get_or answers n d) (λ part. IsMadeIn map number IsCut m (m + size) part.blocks.items part.edges.items)) (omega (arith, suc-mul n size)) (each (suc n) d (omega (arith, within))))
        (λ k d within. made (suc k) d (omega (arith, within))) in
        subst (λ n. IsMadeIn map number IsCut from n (flat_map blocks_in (answer ∷ answers)) (flat_map edges_in (answer ∷ answers))) (omega (arith, suc-mul (length answers) size))
        (both_made from (from + size) (from + size + length answers * size) (omega arith) (omega arith) (blocks_in answer) (flat_map blocks_in answers) (edges_in answer) (flat_map edges_in answers)
        (answer_made from (from + size) answer first (made 0 answer (omega arith))) rest)

    parts_made : (size numbers : ℕ) (answers : List Answered) → AnswerParts map number IsCut size numbers answers → All IsMade answers → IsMadeIn map number IsCut 0 (0 + length answers * size) (flat_map blocks_in answers) (flat_map edges_in answers)
    parts_made size numbers answers parts made =
        parts_from size answers 0 (λ n d within. subst (λ m. IfOk (get_or answers n d) (λ part. IsMadeIn map number IsCut m (m + size) part.blocks.items part.edges.items)) (omega arith) (parts.each n d within)) made

  -- the answers in other words, of fewer numbers
  pub answers_same : (Other : ℕ → Type 0) → ((a : ℕ) → IsCut a ↔ Other a) → (size numbers fewer : ℕ) (answers : List Answered) → fewer ≤ numbers → AnswerParts map number IsCut size numbers answers → AnswerParts map number Other size fewer answers
  answers_same Other same size numbers fewer answers few parts = record {
    all = omega (arith, few, parts.all);
    each = λ n d within. IfOk-weaker (get_or answers n d) _ _ (λ part made. made_same Other same (n * size) (n * size + size) part.blocks.items part.edges.items made) (parts.each n d within);
  }

-- the last addresses of the blocks of leaders are reached
pub lasts_known : (map : InstructionMap) (number : ℕ → ℕ) (marks : List Bool) (seeds : List ℕ) → AreLeaderMarks map number seeds marks → (from until : ℕ) (starts lasts : List ℕ) → AreCutIn map number (IsMarked map number marks) from until starts lasts → All (Reached map seeds) lasts
lasts_known map number marks seeds leaders from until starts lasts are i d within =
    let inside : i < length starts = omega (arith, within, are.cut.as_many) in
    let start = (are.exact (get_or starts i d)).0 (Contains-get_or starts i d inside) in
    reached_along ((leaders.lead (get_or starts i d)).0 start.0).reached (are.cut.each i d inside).runs

-- all parts are those of the program
pub outline_in : (map : InstructionMap) (number : ℕ → ℕ) (rises : NumbersRise map number) (seeds : List ℕ) → ((a : ℕ) → Reached map seeds a → IsSome (map a)) → (size numbers : ℕ) → ((a : ℕ) → IsSome (map a) → number a < numbers)
    → (answers : List Answered) → AnswerParts map number (IsLeader map seeds) size numbers answers → All IsMade answers → IsOutline map seeds (flat_map blocks_in answers) (flat_map edges_in answers)
outline_in map number rises seeds known size numbers below answers parts made =
    let stands : (a : ℕ) → IsLeader map seeds a → IsSome (map a) = λ a is. known a is.reached in
    let all = parts_made map number (IsLeader map seeds) rises stands size numbers answers parts made in
    let are =
    cut_all map number (IsLeader map seeds) (0 + length answers * size) all.starts all.lasts (λ a is. omega (arith, below a (stands a is), parts.all)) all.cut in
    outline_made map seeds all.starts all.lasts (leaders_are map seeds known (IsLeader map seeds) (λ a. (λ is. is, λ is. is)) all.starts all.lasts are) (flat_map blocks_in answers) (flat_map edges_in answers) all.part

-- the cuts of all ranges, if all were made
abbrev ok_all : List Leaders → List AnsweredCuts
ok_all made = map Ok made

pub cuts_made : (map : InstructionMap) (number : ℕ → ℕ) (IsCut : ℕ → Type 0) (size numbers : ℕ) (answers : List AnsweredCuts) (made : List Leaders) → answers ≡ ok_all made → AnswerCuts map number IsCut size numbers answers → AreCutByRange map number IsCut size numbers made
cuts_made map number IsCut size numbers answers made same are =
    let sizes : length answers ≡ length made = ap length same ∙ length-map made Ok in
    record {
      all = omega (arith, are.all, ap (λ n. n * size) sizes);
      each = λ n d within.
          subst (λ (answer : AnsweredCuts). IfOk answer (λ blocks. AreCutIn map number IsCut (n * size) (n * size + size) blocks.starts.items blocks.lasts.items)) (ap (λ (xs : List AnsweredCuts). get_or xs n (Ok d)) same ∙ get_or-map Ok made n d (Ok d) within)
          (are.each n (Ok d) (omega (arith, within, sizes)));
    }
