-- The answer to a run: what its words, and the bytes of the file that they name, alone decide.
use Rattle.std.specs.Prelude.{◌≡◌, ℕ, List, [], Option, Some, None, IsTrue, false}
use Rattle.elf_image.specs.declared.fault.Fault.{Fault}
use Rattle.elf_image.specs.Faults.{first_fault}
use Rattle.cfg_model.specs.declared.graph.Graph.{Graph}
use Rattle.file_program.specs.FileGraph.{IsGraphOf}
use Rattle.rv_machine.specs.FileMemory.{is_too_much}
use Rattle.walk_trace.specs.Trace.{trace_text}
use Rattle.run_ends.specs.Answer.{Answer}
use Rattle.walk_run.specs.declared.refusal.Refusal.{Refusal}
use Rattle.walk_run.specs.declared.refusal.Refusal.TheVariants as refusals
use Rattle.walk_run.specs.declared.status.WalkStatus.{WalkStatus}
use Rattle.walk_run.specs.declared.status.WalkStatus.TheVariants as statuses
use Rattle.walk_run.specs.Refusal.{status_of}
use Rattle.walk_run.specs.Lines.{refusal_line}
use Rattle.walk_run.specs.Words.{Asked, of_walk}

-- Nothing is written but the line that says why.
abbrev pub refused_with : Refusal → Answer WalkStatus
refused_with refusal =
    record { status = status_of refusal; output = []; error = refusal_line refusal }

-- This is the trace.
abbrev pub trace_answer : List ℕ → Answer WalkStatus
trace_answer text = record { status = statuses.Done; output = text; error = [] }

-- The file has no fault, and its sections ask for more memory than a walk takes.
abbrev pub AsksTooMuch : List ℕ → Type 0
AsksTooMuch bytes = (first_fault bytes ≡ None) × IsTrue (is_too_much bytes)

-- The answer to what is asked for, over a file of these bytes. Words that ask for nothing are
-- refused. Of a file with a fault, the first one is named. A file that asks for too much memory is
-- refused. Any other is walked, in its graph.
pub data IsAnswer (bytes : List ℕ) : Option Asked → Answer WalkStatus → Type 0 where
  usage : IsAnswer bytes None (refused_with refusals.Usage)
  malformed : {asked : Asked} {fault : Fault} → first_fault bytes ≡ Some fault
      → IsAnswer bytes (Some asked) (refused_with (refusals.Malformed fault))
  too_much : {asked : Asked} → AsksTooMuch bytes
      → IsAnswer bytes (Some asked) (refused_with refusals.TooMuch)
  done : {steps : ℕ} {path : List ℕ} {graph : Graph}
      → first_fault bytes ≡ None → is_too_much bytes ≡ false → IsGraphOf bytes graph
      → IsAnswer bytes (Some (of_walk steps path)) (trace_answer (trace_text bytes graph steps))
