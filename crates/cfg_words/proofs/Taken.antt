-- What clap's contracts say of the one command that is used here.
use Rattle.std.proofs.Common.{◌≡◌, ◌≢◌, ◌∙◌, ap, subst, refl, inl, inr, true, false, List, [], ◌∷◌, length, codes, Result, Ok, Err, IfErr, arith}
use Rattle.std.proofs.lemmas.Bool.{ne_eqb}
use Rattle.clap.specs.Walk.{Text, first_of, is_empty}
use Rattle.clap.specs.Simple.{App, HasMatchesOf, app_of, app_of_fields, is_simple, new_app, on_top}
use Rattle.clap.specs.Faults.{fault_of, is_simple_and_free}
use Rattle.clap.specs.Kinds.{HasKind, IsAmong, Kinds}
use Rattle.clap.specs.Values.{kind_of}
use Rattle.clap.specs.Matches.{found_of, first_value}
use Rattle.clap.specs.declared.builder.command.Command.{Command}
use Rattle.clap.specs.declared.builder.command.Command.TheViews.{out-Command}
use Rattle.clap.specs.declared.error.Error.{Error}
use Rattle.clap.specs.declared.error.kind.ErrorKind.{ErrorKind}
use Rattle.clap.specs.declared.error.kind.ErrorKind.TheVariants.{OutOfMemory}
use Rattle.clap.specs.declared.parser.matches.ArgMatches.{ArgMatches}
use Rattle.clap.proofs.OnLiterals.{clap_on_literals}
use Rattle.clap.proofs.WalkLemmas.{first_value-rows}
use Rattle.std.specs.Result.{IsErrAnd}
use Rattle.cfg_words.specs.declared.error.WordsError.{WordsError}
use Rattle.cfg_words.specs.declared.error.WordsError.TheVariants.{Usage}
use Rattle.cfg_words.specs.Command.{bare_app, cfg_app, is_taken, text_of}

-- the command is one of those whose parses clap's contracts say exactly
pub cfg_is_simple : is_simple cfg_app ≡ true
unfolding cfg_app clap_on_literals
cfg_is_simple = refl

pub cfg_is_free : is_simple_and_free cfg_app ≡ true
unfolding cfg_app clap_on_literals
cfg_is_free = refl

some_kind : (kinds : Kinds) (k : ErrorKind) → IsAmong k kinds → is_empty kinds ≡ false
some_kind [] k h = absurd h
some_kind (x ∷ xs) k h = ne_eqb (length (x ∷ xs)) 0 (λ e. omega arith)

-- a parse that succeeds takes the words
pub taken : (a : App) (words : List Text) → a ≡ cfg_app → (is_simple_and_free a ≡ true → fault_of a words ≡ []) → is_taken words ≡ true
unfolding is_taken
taken a words same h = ap is_empty (subst (λ (b : App). is_simple_and_free b ≡ true → fault_of b words ≡ []) same h cfg_is_free)

-- a parse that fails for another cause than memory does not
pub not_taken : (a : App) (words : List Text) (e : Error) → a ≡ cfg_app → (is_simple_and_free a ≡ true → HasKind (fault_of a words) e)
    → kind_of e ≢ OutOfMemory → is_taken words ≡ false
unfolding is_taken
not_taken a words e same h other =
    elim (subst (λ (b : App). is_simple_and_free b ≡ true → HasKind (fault_of b words) e) same h cfg_is_free) [
      | inl memory ↦ absurd (other memory)
      | inr k ↦ some_kind (fault_of cfg_app words) (kind_of e) k
    ]

-- so `Usage` is answered only where clap finds a fault
pub refused : {T : Type 0} (r : Result T WordsError) (e : Error) (P : Type 0) → IsErrAnd r (λ w. w ≡ Usage → kind_of e ≢ OutOfMemory)
    → (kind_of e ≢ OutOfMemory → P) → IfErr r (λ w. w ≡ Usage → P)
refused (Ok x) e P gives fault = tt
refused (Err w) e P gives fault = λ usage. fault (gives usage)

-- the texts of the matches are those of the definition
pub text_found : (m : ArgMatches) (a : App) (words : List Text) → a ≡ cfg_app → HasMatchesOf a words m
    → (name : Text) → first_value (found_of m) name ≡ text_of words name
unfolding text_of
text_found m a words same h name =
    first_value-rows (found_of m) name ∙ ap (first_of name) (subst (λ (b : App). HasMatchesOf b words m) same h cfg_is_simple).0

-- a new command that no longer knows `--help`
pub help_off : (c d : Command) → out-Command d ≡ record (out-Command c) { disable_help_flag = true } → app_of c ≡ new_app (codes "cfg")
    → app_of d ≡ bare_app
help_off c d off new = ap app_of_fields off ∙ ap (on_top (λ s. record s { disable_help_flag = true })) new
