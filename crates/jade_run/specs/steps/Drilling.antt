-- What serves the contracts of the drill's own functions.
use Rattle.std.specs.Prelude.{◌≡◌, ℕ, List, [], Option}
use Rattle.jade_base.specs.declared.place.Pos.{Pos}
use Rattle.jade_syntax.specs.Abstract.{AbstractProgram}
use Rattle.jade_syntax.specs.declared.tree.Program.{Program}
use Rattle.jade_syntax.specs.Image.{program}
use Rattle.jade_meaning.specs.Answer.{Answer, Faulted, Cells, answer}
use Rattle.jade_run.specs.declared.status.Status.{Status}
use Rattle.jade_run.specs.declared.status.Status.TheVariants.{Good}
use Rattle.jade_gen.specs.Drill.{drill_text}
use Rattle.jade_run.specs.Answered.{IsDrilled, Shows, TurnLists}
use Rattle.jade_meaning.specs.Moved.{moved_answer}
use Rattle.jade_run.specs.Sums.{sum_of_cells}
use Rattle.jade_run.specs.Texts.{drilled_text}
use Rattle.jade_run.specs.Witnessed.{SawRun, SeenRun}
use Rattle.jade_run.specs.steps.Ending.{ShownRun}

-- a text and a status tell a fault as a run tells it, and the objects by the sum of all cells
abbrev pub ShowsSum : AbstractProgram → (tasks : ℕ) → Answer → List ℕ → Status → Type 0
ShowsSum p tasks (Faulted path blame) text status = Shows p (Faulted path blame) text status
ShowsSum p tasks (Cells store) text status = (text ≡ drilled_text tasks (sum_of_cells store)) × (status ≡ Good)

-- a text and a status tell the answer of a drill's program by these turns, with which a run of it was shown
pub record IsDrillOf (tree : Program) (home : Pos → Pos) (tasks : ℕ) (turns : TurnLists) (text : List ℕ) (status : Status) (before after : Option (List SeenRun)) : Type 0 where
  pub shows : ShowsSum (program tree) tasks (moved_answer home (answer (program tree) [] 4294967295 turns)) text status
  pub shown : ShownRun tree [] 4294967295 turns before after

-- what a drill comes to, and what is shown of the run of its program, whose tasks took these turns
pub record IsRunDrill (tasks : ℕ) (turns : TurnLists) (text : List ℕ) (status : Status) (before after : Option (List SeenRun)) : Type 0 where
  pub is : IsDrilled tasks text status
  pub saw : SawRun (drill_text tasks) [] 4294967295 turns status before after
