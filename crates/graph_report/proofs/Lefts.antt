-- Text that moves from the front of what is left to the end of a page.
use Rattle.std.proofs.Common.{◌≡◌, ℕ, ◌<◌, ◌≤◌, zero, suc, List, [], ◌∷◌, ◌++◌, length, take, drop, get_or, Some, None, refl, sym, ap, ◌∙◌, append_assoc, drop-cons, arith}
use Rattle.std.proofs.lemmas.Grind.{flat_map-append}
use Rattle.std.proofs.lemmas.List.{nil_from_length, take-append-drop}
use Rattle.std.specs.Prelude.{if◌then◌else◌, zip}
use Rattle.std.specs.List.{flat_map}
use Rattle.cfg_model.specs.declared.graph.Function.{Function}
use Rattle.cfg_model.specs.declared.graph.Graph.{Graph}
use Rattle.cfg_model.specs.declared.live.Live.{Live}
use Rattle.graph_report.specs.declared.kind.ReportKind.{ReportKind}
use Rattle.graph_report.specs.declared.kind.ReportKind.TheVariants as reports
use Rattle.graph_report.specs.declared.left.FunctionsLeft.{FunctionsLeft}
use Rattle.graph_report.specs.declared.live_left.LivesLeft.{LivesLeft}
use Rattle.graph_report.specs.Name.{Names}
use Rattle.graph_report.specs.Line.{functions_line, function_line, in_line, lives_line, live_line, end_line}
use Rattle.graph_report.specs.Live.{function_live_lines}
use Rattle.graph_report.specs.Report.{function_lines, functions_section, blocks_section, edges_section, sections}
use Rattle.graph_report.specs.Inner.{has_functions, has_blocks, has_edges, name_left, count_left, functions_left, lives_left}

-- what moves at the front moves in front of all that follows
pub moved_front : (new page a b rest : List ℕ) → new ++ a ≡ page ++ b → new ++ (a ++ rest) ≡ page ++ (b ++ rest)
moved_front new page a b rest h =
    sym (append_assoc new a rest) ∙ ap (λ (xs : List ℕ). xs ++ rest) h ∙ append_assoc page b rest

-- and behind what is empty, which stays so
pub moved_behind : {L : Type 0} (text : L → List ℕ) (old new : L) (before page after a b : List ℕ)
    → (page ≡ before) × (new ≡ old) → text old ≡ [] → after ++ a ≡ page ++ b → after ++ (text new ++ a) ≡ before ++ (text old ++ b)
moved_behind text old new before page after a b (same, stays) none h =
    rw stays (rw none (h ∙ ap (λ (xs : List ℕ). xs ++ b) same))

-- a field of a line in front of others, with the newline behind them
field_behind : (b rest all nl : List ℕ) → rest ++ nl ≡ all → (32 ∷ (b ++ rest)) ++ nl ≡ (32 ∷ b) ++ all
field_behind b rest all nl h = ap (λ (xs : List ℕ). 32 ∷ xs) (append_assoc b rest nl ∙ ap (λ (xs : List ℕ). b ++ xs) h)

one_by_one : (page a b c d e rest : List ℕ) → (((((page ++ a) ++ b) ++ c) ++ d) ++ e) ++ rest ≡ page ++ (a ++ (b ++ (c ++ (d ++ (e ++ rest)))))
one_by_one page a b c d e rest = simp append_assoc refl

-- five fields of a line, put on a page one after another, and the last with the newline behind it
pub five_fields : (page one two three four five a b c d e nl : List ℕ)
    → one ≡ page ++ a → two ≡ one ++ (32 ∷ b) → three ≡ two ++ (32 ∷ c) → four ≡ three ++ (32 ∷ d) → five ≡ four ++ (32 ∷ [])
    → five ++ (e ++ nl) ≡ page ++ ((a ++ 32 ∷ (b ++ 32 ∷ (c ++ 32 ∷ (d ++ 32 ∷ e)))) ++ nl)
five_fields page one two three four five a b c d e nl h1 h2 h3 h4 h5 =
    let behind_d = field_behind d (32 ∷ e) (32 ∷ (e ++ nl)) nl refl in
    let behind_c = field_behind c (32 ∷ (d ++ 32 ∷ e)) ((32 ∷ d) ++ (32 ∷ (e ++ nl))) nl behind_d in
    let behind_b = field_behind b (32 ∷ (c ++ 32 ∷ (d ++ 32 ∷ e))) ((32 ∷ c) ++ ((32 ∷ d) ++ (32 ∷ (e ++ nl)))) nl behind_c in
    rw (h5, h4, h3, h2, h1)
    (one_by_one page a (32 ∷ b) (32 ∷ c) (32 ∷ d) (32 ∷ []) (e ++ nl)
    ∙ ap (λ (xs : List ℕ). page ++ xs) (sym (append_assoc a _ nl ∙ ap (λ (xs : List ℕ). a ++ xs) behind_b)))

-- a function's line is begun, and its body and the functions behind it are still to come
function_begun : (new page name line body behind : List ℕ) → new ++ name ≡ page ++ line
    → new ++ (name ++ (body ++ behind)) ≡ page ++ ((line ++ body) ++ behind)
function_begun new page name line body behind h =
    moved_front new page name line (body ++ behind) h ∙ ap (λ (xs : List ℕ). page ++ xs) (sym (append_assoc line body behind))

-- the same, of what is left of the section where nothing stands in front of its functions
pub function_given : (names : Names) (new page : List ℕ) (left : FunctionsLeft) (f : Function) (rest : List Function) (name body : List ℕ)
    → left.count ≡ None → left.name ≡ None → length left.body.now < 1 → 1 ≤ length left.functions.now
    → f ≡ get_or left.functions.now 0 f → rest ≡ drop 1 left.functions.now → body ≡ f.body
    → new ++ name_left (Some name) ≡ page ++ function_line names f
    → new ++ (count_left left.count functions_line
    ++ (name_left (Some name) ++ (flat_map in_line body ++ flat_map (function_lines names) rest))) ≡ page ++ functions_left names left
function_given names new page left f rest name body begun none empty some first behind same h =
    let all = left.functions.now in
    let none_in : left.body.now ≡ [] = nil_from_length left.body.now (omega arith) in
    let is : all ≡ f ∷ drop 1 all = drop-cons all 0 f (omega arith) ∙ ap (λ (g : Function). g ∷ drop 1 all) (sym first) in
    let after = flat_map (function_lines names) (drop 1 all) in
    rw (begun, none, none_in, same, behind)
    (function_begun new page (name_left (Some name)) (function_line names f) (flat_map in_line f.body) after h
    ∙ ap (λ (fs : List Function). page ++ flat_map (function_lines names) fs) (sym is))

-- the same of the section of the live registers
pub lives_given : (names : Names) (new page : List ℕ) (left : LivesLeft) (f : Function) (lives : List Live)
    (functions : List Function) (others : List (List Live)) (name : List ℕ)
    → left.count ≡ None → left.name ≡ None → length left.body.now < 1 → 1 ≤ length left.functions.now → 1 ≤ length left.lives.now
    → f ≡ get_or left.functions.now 0 f → functions ≡ drop 1 left.functions.now
    → lives ≡ get_or left.lives.now 0 lives → others ≡ drop 1 left.lives.now
    → new ++ name_left (Some name) ≡ page ++ function_line names f
    → new ++ (count_left left.count lives_line
    ++ (name_left (Some name) ++ (flat_map live_line lives ++ flat_map (function_live_lines names) (zip functions others)))) ≡ page ++ lives_left names left
lives_given names new page left f lives functions others name begun none empty some some_lives first behind first_lives lives_behind h =
    let none_in : left.body.now ≡ [] = nil_from_length left.body.now (omega arith) in
    let is : left.functions.now ≡ f ∷ functions = drop-cons left.functions.now 0 f (omega arith) ∙ rw (← first, behind) refl in
    let are : left.lives.now ≡ lives ∷ others = drop-cons left.lives.now 0 lives (omega arith) ∙ rw (← first_lives, lives_behind) refl in
    rw (begun, none, none_in, is, are)
    (function_begun new page (name_left (Some name)) (function_line names f) (flat_map live_line lives) (flat_map (function_live_lines names) (zip functions others)) h)

-- the sections that a kind of report has, one after another
pub all_left : (kind : ReportKind) (names : Names) (graph : Graph)
    → (if has_functions kind then functions_section names graph.functions else [])
    ++ ((if has_blocks kind then blocks_section graph.blocks else [])
    ++ ((if has_edges kind then edges_section graph.edges else []) ++ end_line)) ≡ sections kind names graph ++ end_line
all_left reports.Graph names graph =
    sym (append_assoc (functions_section names graph.functions ++ blocks_section graph.blocks) (edges_section graph.edges) end_line
    ∙ append_assoc (functions_section names graph.functions) (blocks_section graph.blocks) (edges_section graph.edges ++ end_line))
all_left reports.Functions names graph = refl
all_left reports.Blocks names graph = refl
all_left reports.Edges names graph = refl
all_left reports.Live names graph = refl

-- text that is cut behind some of the items that come last

cut_behind : {X : Type 0} (text : X → List ℕ) (a b c : List ℕ) (all front rest : List X) → front ++ rest ≡ all
    → (a ++ (b ++ (c ++ flat_map text front))) ++ flat_map text rest ≡ a ++ (b ++ (c ++ flat_map text all))
cut_behind text a b c all front rest whole =
    append_assoc a _ (flat_map text rest)
    ∙ ap (λ (xs : List ℕ). a ++ xs) (append_assoc b _ (flat_map text rest)
    ∙ ap (λ (xs : List ℕ). b ++ xs) (append_assoc c (flat_map text front) (flat_map text rest)
    ∙ ap (λ (xs : List ℕ). c ++ xs) (sym (flat_map-append text front rest) ∙ ap (λ xs. flat_map text xs) whole)))

pub functions_cut : (names : Names) (a b c : List ℕ) (all front rest : List Function) (n : ℕ) → front ≡ take n all → rest ≡ drop n all
    → (a ++ (b ++ (c ++ flat_map (function_lines names) front))) ++ flat_map (function_lines names) rest ≡ a ++ (b ++ (c ++ flat_map (function_lines names) all))
functions_cut names a b c all front rest n is behind =
    cut_behind (function_lines names) a b c all front rest (rw (is, behind) (take-append-drop n all))

zip_none : (functions : List Function) → zip {X = List Live} functions [] ≡ []
zip_none [] = refl
zip_none (f ∷ functions) = refl

zip_cut : (n : ℕ) (functions : List Function) (lives : List (List Live)) → zip (take n functions) (take n lives) ++ zip (drop n functions) (drop n lives) ≡ zip functions lives
zip_cut zero functions lives = refl
zip_cut (suc n) [] lives = refl
zip_cut (suc n) (f ∷ functions) [] = zip_none (drop n functions)
zip_cut (suc n) (f ∷ functions) (one ∷ lives) = ap (λ (xs : List (Function × List Live)). (f, one) ∷ xs) (zip_cut n functions lives)

pub lives_cut : (names : Names) (a b c : List ℕ) (functions front rest : List Function) (lives first others : List (List Live)) (n : ℕ)
    → front ≡ take n functions → rest ≡ drop n functions → first ≡ take n lives → others ≡ drop n lives
    → (a ++ (b ++ (c ++ flat_map (function_live_lines names) (zip front first)))) ++ flat_map (function_live_lines names) (zip rest others)
    ≡ a ++ (b ++ (c ++ flat_map (function_live_lines names) (zip functions lives)))
lives_cut names a b c functions front rest lives first others n is behind are after =
    cut_behind (function_live_lines names) a b c (zip functions lives) (zip front first) (zip rest others) (rw (is, behind, are, after) (zip_cut n functions lives))
