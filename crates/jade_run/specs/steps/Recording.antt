-- A run that is recorded, and a recording that is compared with its run.
use Rattle.std.specs.Prelude.{◌≡◌, ℕ, ℤ, ◌<◌, ◌≤◌, List, length, Option}
use Rattle.jade_base.specs.declared.place.Pos.{Pos}
use Rattle.jade_syntax.specs.declared.tree.Program.{Program}
use Rattle.jade_syntax.specs.Image.{program}
use Rattle.jade_meaning.specs.Turns.{turns_in}
use Rattle.run_record.specs.Recording.{Recorded, recording}
use Rattle.jade_run.specs.declared.status.Status.{Status}
use Rattle.jade_run.specs.declared.status.Status.TheVariants.{Good, Replay}
use Rattle.jade_run.specs.Answered.{TurnLists}
use Rattle.jade_run.specs.Recordings.{AreAnswer, IsKept, IsRecordingOf, ListsByObject}
use Rattle.jade_run.specs.Texts.{differs_text, long_text, same_text}
use Rattle.jade_run.specs.Witnessed.{SawKept, SeenRun}
use Rattle.jade_run.specs.steps.Ending.{ShownRun}

-- a text and a status are those of a recording that is written: the recording, or that it is too long
pub data IsWrittenAs (r : Recorded) (text : List ℕ) (status : Status) : Type 0 where
  whole : length (recording r) ≤ 1048576 → text ≡ recording r → status ≡ Good → IsWrittenAs r text status
  too_long : 1048576 < length (recording r) → text ≡ long_text → status ≡ Replay → IsWrittenAs r text status

-- a text and a status are those of the recording of a run by these turns, with which a run of the program was shown
pub record IsKeptRun (bytes : List ℕ) (tree : Program) (home : Pos → Pos) (numbers : List ℤ) (limit : ℕ) (turns : TurnLists) (text : List ℕ) (status : Status)
    (before after : Option (List SeenRun)) : Type 0 where
  pub run : Recorded
  pub of_run : IsRecordingOf bytes tree home numbers limit turns run
  pub written : IsWrittenAs run text status
  pub shown : ShownRun tree numbers limit turns before after

-- what a text comes to by these turns whose run is recorded, and what is shown of it
pub record IsKeptText (bytes : List ℕ) (numbers : List ℤ) (limit : ℕ) (turns : TurnLists) (text : List ℕ) (status : Status) (before after : Option (List SeenRun)) :
    Type 0 where
  pub is : IsKept bytes numbers limit turns text status
  pub saw : SawKept bytes numbers limit turns status before after

-- what a recording is answered with whose turns are those of the run by these lists
pub data IsCompared (r : Recorded) (tree : Program) (home : Pos → Pos) (lists : ListsByObject) (text : List ℕ) (status : Status) : Type 0 where
  alike : AreAnswer r.answer (program tree) home r.numbers r.limit (turns_in lists) → text ≡ same_text → status ≡ Good → IsCompared r tree home lists text status
  unlike : (AreAnswer r.answer (program tree) home r.numbers r.limit (turns_in lists) → ⊥) → text ≡ differs_text → status ≡ Replay → IsCompared r tree home lists text status
