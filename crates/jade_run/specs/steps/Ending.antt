-- How a run of a program by workers ends.
use Rattle.std.specs.Prelude.{◌≡◌, ℕ, ℤ, List, Option}
use Rattle.jade_base.specs.declared.place.Pos.{Pos}
use Rattle.jade_syntax.specs.declared.tree.Program.{Program}
use Rattle.jade_syntax.specs.Image.{program}
use Rattle.jade_meaning.specs.Answer.{answer}
use Rattle.jade_meaning.specs.Turns.{Full, turns_in}
use Rattle.jade_run.specs.declared.status.Status.{Status}
use Rattle.jade_run.specs.Answered.{IsAnswered, Shows, TurnLists}
use Rattle.jade_meaning.specs.Moved.{moved_answer}
use Rattle.jade_run.specs.Witnessed.{SawRun, SeenRun, seen_with}

-- a run of a program was shown, whose tasks took these turns, and no others wait
pub record ShownRun (tree : Program) (numbers : List ℤ) (limit : ℕ) (turns : TurnLists) (before after : Option (List SeenRun)) : Type 0 where
  pub run : SeenRun
  pub saw : after ≡ seen_with before run
  pub plan : run.plan ≡ record { program = tree; numbers = numbers; limit = limit }
  pub taken : turns ≡ turns_in run.turns
  pub full : Full (program tree) numbers limit turns

-- a text and a status tell the answer of a program by these turns, with which a run of it was shown
pub record IsRunOf (tree : Program) (home : Pos → Pos) (numbers : List ℤ) (limit : ℕ) (turns : TurnLists) (text : List ℕ) (status : Status) (before after : Option (List SeenRun)) : Type 0 where
  pub shows : Shows (program tree) (moved_answer home (answer (program tree) numbers limit turns)) text status
  pub shown : ShownRun tree numbers limit turns before after

-- what a text comes to by these turns where workers run its program, and what is shown of it
pub record IsRunText (bytes : List ℕ) (numbers : List ℤ) (limit : ℕ) (turns : TurnLists) (text : List ℕ) (status : Status) (before after : Option (List SeenRun)) : Type 0 where
  pub is : IsAnswered bytes numbers limit turns text status
  pub saw : SawRun bytes numbers limit turns status before after
