-- What is known before any walk.
use Rattle.std.proofs.Common.{◌≡◌, ℕ, Bool, false, List, length, replicate, sym, subst, inr}
use Rattle.std.proofs.lemmas.List.{length-replicate}
use Rattle.cfg_model.specs.Program.Instructions.{InstructionMap, IsLawful}
use Rattle.cfg_model.specs.Program.Reach.{Reached}
use Rattle.cfg_model.specs.Graph.Function.{IsEntry}
use Rattle.numbered.specs.Numbering.{IsMarked, IsNumbering}
use Rattle.reached_graph.specs.declared.walks.Walks.{Walks}
use Rattle.reached_graph.specs.Inner.Leaders.{AreStarts}
use Rattle.reached_graph.specs.Inner.Walks.{AreFit, AreWalked, HaveWalked, Nowhere}
use Rattle.reached_graph.proofs.Marking.{none_marked}

-- before any walk
pub none_walked : (map : InstructionMap) (seeds : List ℕ) (IsGiven IsWalked : ℕ → Type 0) → AreStarts map seeds IsGiven → ((a : ℕ) → ¬ IsWalked a) → AreWalked map seeds IsGiven IsWalked IsGiven Nowhere
none_walked map seeds IsGiven IsWalked are none = record {
  reached = λ a walked. absurd (none a walked);
  leads = are.leads;
  given = λ a is. is;
  begun = λ a st. inr st;
  came = λ a walked. absurd (none a walked);
  onward = λ a next walked goes. absurd (none a walked);
  joined = λ a b next walked too apart goes goes_too. absurd (none a walked);
}

-- entries are reached
pub entry_reached : (map : InstructionMap) (seeds : List ℕ) (a : ℕ) → IsEntry map seeds a → Reached map seeds a
entry_reached map seeds a (IsEntry.seed c) = Reached.seed c
entry_reached map seeds a (IsEntry.called r call) = Reached.called r call

-- as they begin
pub walks_new : (map : InstructionMap) (number : ℕ → ℕ) (marks : List Bool) (w : Walks) → IsLawful map → IsNumbering map number (length marks)
    → w.walked.items ≡ replicate (length marks) false → w.starts.items ≡ marks → AreFit map number w × ((seeds : List ℕ) → AreStarts map seeds (IsMarked map number marks) → HaveWalked map number seeds marks w Nowhere)
walks_new map number marks w lawful numbering walked starts = (
  record {
    lawful = lawful;
    numbering = rw walked (subst (IsNumbering map number) (sym (length-replicate (length marks) false)) numbering);
    starts = rw (walked, starts) (sym (length-replicate (length marks) false));
  },
  λ seeds are. rw (walked, starts) (none_walked map seeds (IsMarked map number marks) (IsMarked map number (replicate (length marks) false)) are (none_marked map number (length marks))),
)
