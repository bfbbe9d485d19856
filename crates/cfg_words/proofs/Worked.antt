-- What some command lines ask for, by computation.
use Rattle.std.specs.Prelude.{◌≡◌, ℕ, List, [], ◌∷◌, Option, Some, None, codes, refl}
use Rattle.clap.proofs.OnLiterals.{clap_on_literals}
use Rattle.graph_report.specs.declared.kind.ReportKind.TheVariants as reports
use Rattle.cfg_words.specs.Command.{cfg_app, is_taken, text_of}
use Rattle.cfg_words.specs.Request.{Asked, of_file, of_made, request_of}

-- the request of the words behind the program's name
abbrev request_behind : List (List ℕ) → Option Asked
request_behind words = request_of (codes "cfg" ∷ words)

-- ---- taken

only_a_file : request_behind (codes "F" ∷ []) ≡ Some (of_file (codes "F") 1 reports.Graph)
unfolding clap_on_literals cfg_app is_taken text_of
only_a_file = refl

leading_zero : request_behind (codes "--workers" ∷ codes "064" ∷ codes "F" ∷ []) ≡ Some (of_file (codes "F") 64 reports.Graph)
unfolding clap_on_literals cfg_app is_taken text_of
leading_zero = refl

attached : request_behind (codes "F" ∷ codes "--report=edges" ∷ []) ≡ Some (of_file (codes "F") 1 reports.Edges)
unfolding clap_on_literals cfg_app is_taken text_of
attached = refl

live : request_behind (codes "--report" ∷ codes "live" ∷ codes "F" ∷ []) ≡ Some (of_file (codes "F") 1 reports.Live)
unfolding clap_on_literals cfg_app is_taken text_of
live = refl

dashes : request_behind (codes "--" ∷ codes "--x" ∷ []) ≡ Some (of_file (codes "--x") 1 reports.Graph)
unfolding clap_on_literals cfg_app is_taken text_of
dashes = refl

largest : request_behind (codes "--make" ∷ codes "100000" ∷ codes "--workers=2" ∷ []) ≡ Some (of_made 100000 2)
unfolding clap_on_literals cfg_app is_taken text_of
largest = refl

-- ---- refused

not_even_a_name : request_of [] ≡ None
unfolding clap_on_literals cfg_app is_taken text_of
not_even_a_name = refl

nothing : request_behind [] ≡ None
unfolding clap_on_literals cfg_app is_taken text_of
nothing = refl

no_worker : request_behind (codes "--workers" ∷ codes "0" ∷ codes "F" ∷ []) ≡ None
unfolding clap_on_literals cfg_app is_taken text_of
no_worker = refl

plus : request_behind (codes "--workers" ∷ codes "+4" ∷ codes "F" ∷ []) ≡ None
unfolding clap_on_literals cfg_app is_taken text_of
plus = refl

twice : request_behind (codes "--workers" ∷ codes "4" ∷ codes "--workers" ∷ codes "4" ∷ codes "F" ∷ []) ≡ None
unfolding clap_on_literals cfg_app is_taken text_of
twice = refl

no_such_kind : request_behind (codes "--report" ∷ codes "all" ∷ codes "F" ∷ []) ≡ None
unfolding clap_on_literals cfg_app is_taken text_of
no_such_kind = refl

too_small : request_behind (codes "--make" ∷ codes "3" ∷ []) ≡ None
unfolding clap_on_literals cfg_app is_taken text_of
too_small = refl

file_and_make : request_behind (codes "F" ∷ codes "--make" ∷ codes "4" ∷ []) ≡ None
unfolding clap_on_literals cfg_app is_taken text_of
file_and_make = refl

make_and_report : request_behind (codes "--make" ∷ codes "4" ∷ codes "--report" ∷ codes "graph" ∷ []) ≡ None
unfolding clap_on_literals cfg_app is_taken text_of
make_and_report = refl

no_such_option : request_behind (codes "--colour" ∷ codes "F" ∷ []) ≡ None
unfolding clap_on_literals cfg_app is_taken text_of
no_such_option = refl

no_help : request_behind (codes "--help" ∷ []) ≡ None
unfolding clap_on_literals cfg_app is_taken text_of
no_help = refl
