-- What a run comes to that is recorded, and what a recording comes to that is replayed.
use Rattle.std.specs.Prelude.{◌≡◌, ℕ, ◌<◌, ◌≤◌, List, length, ℤ}
use Rattle.jade_base.specs.declared.place.Pos.{Pos}
use Rattle.jade_syntax.specs.declared.tree.Program.{Program}
use Rattle.jade_syntax.specs.Abstract.{AbstractProgram}
use Rattle.jade_syntax.specs.Image.{program}
use Rattle.jade_syntax.specs.Objects.{sizes}
use Rattle.jade_meaning.specs.Answer.{answer}
use Rattle.jade_meaning.specs.Serial.{Path}
use Rattle.jade_meaning.specs.Turns.{Full, turns_in}
use Rattle.record_parts.specs.Labels.{labelled_turns}
use Rattle.record_parts.specs.Lines.{AreLines}
use Rattle.run_record.specs.Form.{at_head, BreaksAt}
use Rattle.run_record.specs.Recording.{Recorded, IsRecorded, recording}
use Rattle.jade_run.specs.declared.status.Status.{Status}
use Rattle.jade_run.specs.declared.status.Status.TheVariants.{Good, Fault, Refused, Numbers, Replay}
use Rattle.jade_run.specs.Answered.{IsAnswered, IsGood, RefusedFor, TurnLists, answer_text, input_count}
use Rattle.jade_meaning.specs.Moved.{moved_answer}
use Rattle.jade_run.specs.Texts.{differs_text, form_text, long_text, no_turns_text, numbers_text, refused_text, same_text}

-- the turns that tasks took on each object, one list for each
abbrev pub ListsByObject : Type 0
ListsByObject = List (List Path)

-- lines are those that are written of the answer of a program, whose places come from these, run with these numbers, a limit and turn lists
abbrev pub AreAnswer : (lines : List (List ℕ)) → AbstractProgram → (home : Pos → Pos) → (numbers : List ℤ) → (limit : ℕ) → TurnLists → Type 0
AreAnswer lines p home numbers limit turns = AreLines lines (answer_text p (moved_answer home (answer p numbers limit turns)))

-- a recording is that of a run of a text's program by its turns, which are full
pub record IsRecordingOf (bytes : List ℕ) (tree : Program) (home : Pos → Pos) (numbers : List ℤ) (limit : ℕ) (turns : TurnLists) (r : Recorded) : Type 0 where
  pub fit : IsRecorded r
  pub limited : r.limit ≡ limit
  pub given : r.numbers ≡ numbers
  pub taken : r.turns ≡ labelled_turns (program tree).items turns
  pub full : Full (program tree) numbers limit turns
  pub told : AreAnswer r.answer (program tree) home numbers limit turns
  pub of_text : r.text ≡ bytes

-- what a text of at most 1,048,576 bytes comes to whose run by these turns is recorded: where the run comes to an answer, the recording, unless it would be
-- longer than a text may be; and else what the run comes to
pub data IsKept (bytes : List ℕ) (numbers : List ℤ) (limit : ℕ) (turns : TurnLists) (text : List ℕ) (status : Status) : Type 0 where
  kept : (tree : Program) → (home : Pos → Pos) → IsGood bytes tree home → length numbers ≡ input_count tree → (r : Recorded) → IsRecordingOf bytes tree home numbers limit turns r →
      length (recording r) ≤ 1048576 → text ≡ recording r → status ≡ Good → IsKept bytes numbers limit turns text status
  long : (tree : Program) → (home : Pos → Pos) → IsGood bytes tree home → length numbers ≡ input_count tree → (r : Recorded) → IsRecordingOf bytes tree home numbers limit turns r →
      1048576 < length (recording r) → text ≡ long_text → status ≡ Replay → IsKept bytes numbers limit turns text status
  not_run : IsAnswered bytes numbers limit turns text status → (status ≡ Good → ⊥) → (status ≡ Fault → ⊥) → IsKept bytes numbers limit turns text status

-- bytes are this recording
pub record IsRecording (bytes : List ℕ) (r : Recorded) : Type 0 where
  pub whole : recording r ≡ bytes
  pub fit : IsRecorded r

-- bytes are this recording, and its text reads as a program without static fault, for which it has the right count of numbers
pub record Plays (bytes : List ℕ) (r : Recorded) (tree : Program) (home : Pos → Pos) : Type 0 where
  pub recorded : IsRecording bytes r
  pub good : IsGood r.text tree home
  pub counted : length r.numbers ≡ input_count tree

-- the turns of a recording are those on a program's objects by these lists, one for each object, which name exactly the turns of the run by them
pub record HasTurns (r : Recorded) (p : AbstractProgram) (lists : ListsByObject) : Type 0 where
  pub counted : length lists ≡ length (sizes p.items)
  pub named : r.turns ≡ labelled_turns p.items (turns_in lists)
  pub full : Full p r.numbers r.limit (turns_in lists)

-- bytes are a recording that is right: its turns are those of a run of its program, and its lines are the answer of that run
pub record IsRight (bytes : List ℕ) (r : Recorded) (tree : Program) (home : Pos → Pos) (lists : ListsByObject) : Type 0 where
  pub plays : Plays bytes r tree home
  pub turned : HasTurns r (program tree) lists
  pub told : AreAnswer r.answer (program tree) home r.numbers r.limit (turns_in lists)

-- bytes are some recording that is right
pub record IsRightRecording (bytes : List ℕ) : Type 0 where
  pub recorded : Recorded
  pub tree : Program
  pub home : Pos → Pos
  pub lists : ListsByObject
  pub right : IsRight bytes recorded tree home lists

-- what a recording of at most 1,048,576 bytes comes to that is replayed: its form is tested first, then the program's text and the count of numbers, then the
-- turns, then the answer
pub data IsReplayed (bytes : List ℕ) (text : List ℕ) (status : Status) : Type 0 where
  formless : (line : ℕ) → BreaksAt line at_head 1 bytes → text ≡ form_text line → status ≡ Replay → IsReplayed bytes text status
  unfit : (r : Recorded) → IsRecording bytes r → (place : Pos) (why : List ℕ) → RefusedFor r.text place why → text ≡ refused_text place why → status ≡ Refused →
      IsReplayed bytes text status
  uncounted : (r : Recorded) → IsRecording bytes r → (tree : Program) → (home : Pos → Pos) → IsGood r.text tree home → (length r.numbers ≡ input_count tree → ⊥) →
      text ≡ numbers_text (input_count tree) (length r.numbers) → status ≡ Numbers → IsReplayed bytes text status
  turnless : (r : Recorded) (tree : Program) (home : Pos → Pos) → Plays bytes r tree home → ((lists : ListsByObject) → HasTurns r (program tree) lists → ⊥) → text ≡ no_turns_text →
      status ≡ Replay → IsReplayed bytes text status
  differs : (r : Recorded) (tree : Program) (home : Pos → Pos) → Plays bytes r tree home → (lists : ListsByObject) → HasTurns r (program tree) lists →
      (AreAnswer r.answer (program tree) home r.numbers r.limit (turns_in lists) → ⊥) → text ≡ differs_text → status ≡ Replay → IsReplayed bytes text status
  same : (r : Recorded) (tree : Program) (home : Pos → Pos) (lists : ListsByObject) → IsRight bytes r tree home lists → text ≡ same_text → status ≡ Good → IsReplayed bytes text status
