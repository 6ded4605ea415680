-- What a witness is shown of the runs of a call.
use Rattle.std.specs.Prelude.{◌≡◌, ℕ, ℤ, List, [], ◌∷◌, ◌++◌, Option, Some, None}
use Rattle.jade_base.specs.declared.place.Pos.{Pos}
use Rattle.jade_gen.specs.Drill.{drill_text}
use Rattle.jade_meaning.specs.Plan.{RunPlan}
use Rattle.jade_meaning.specs.Serial.{Path}
use Rattle.jade_meaning.specs.Turns.{Full, turns_in}
use Rattle.jade_syntax.specs.Image.{program}
use Rattle.jade_run.specs.declared.status.Status.{Status}
use Rattle.jade_run.specs.declared.status.Status.TheVariants.{Good, Fault, Refused, Words, Numbers, Reading, Writing, Memory, Replay}
use Rattle.jade_run.specs.declared.words.Command.{Command}
use Rattle.jade_run.specs.declared.words.Command.TheVariants.{Run, Serial, Check, Show, Drill, Record, Replay as ToReplay, Expand}
use Rattle.jade_run.specs.Answered.{IsGood, TurnLists}
use Rattle.jade_run.specs.Outcome.{IsCommanded}
use Rattle.jade_run.specs.Words.{RunWords, SerialWords, CheckWords, ShowWords, DrillWords, RecordWords, ReplayWords, ExpandWords, RefusesWords}

-- what a witness is told of a run: what was run, and the turns that its tasks took on each object
pub record SeenRun : Type 0 where
  pub plan : RunPlan
  pub turns : List (List Path)

-- one run more, where the runs are told
abbrev pub seen_with : Option (List SeenRun) → SeenRun → Option (List SeenRun)
seen_with None run = None
seen_with (Some runs) run = Some (runs ++ run ∷ [])

-- one run was shown: of the program of a text, with these numbers and this limit, whose tasks took these turns, and no others wait
pub record SawOne (bytes : List ℕ) (numbers : List ℤ) (limit : ℕ) (turns : TurnLists) (before after : Option (List SeenRun)) : Type 0 where
  pub run : SeenRun
  pub saw : after ≡ seen_with before run
  pub home : Pos → Pos
  pub good : IsGood bytes run.plan.program home
  pub given : run.plan.numbers ≡ numbers
  pub limited : run.plan.limit ≡ limit
  pub taken : turns ≡ turns_in run.turns
  pub full : Full (program run.plan.program) numbers limit turns

-- what is shown of a text that comes to this status: one run where it comes to an answer, and else none
abbrev pub SawRun : (bytes : List ℕ) (numbers : List ℤ) (limit : ℕ) (turns : TurnLists) → Status → (before after : Option (List SeenRun)) → Type 0
SawRun bytes numbers limit turns Good before after = SawOne bytes numbers limit turns before after
SawRun bytes numbers limit turns Fault before after = SawOne bytes numbers limit turns before after
SawRun bytes numbers limit turns Refused before after = after ≡ before
SawRun bytes numbers limit turns Words before after = after ≡ before
SawRun bytes numbers limit turns Numbers before after = after ≡ before
SawRun bytes numbers limit turns Reading before after = after ≡ before
SawRun bytes numbers limit turns Writing before after = after ≡ before
SawRun bytes numbers limit turns Memory before after = after ≡ before
SawRun bytes numbers limit turns Replay before after = after ≡ before

-- what is shown of a text whose run is recorded, and that comes to this status: one run where it comes to a recording, or to one that is too long, and else none
abbrev pub SawKept : (bytes : List ℕ) (numbers : List ℤ) (limit : ℕ) (turns : TurnLists) → Status → (before after : Option (List SeenRun)) → Type 0
SawKept bytes numbers limit turns Good before after = SawOne bytes numbers limit turns before after
SawKept bytes numbers limit turns Fault before after = after ≡ before
SawKept bytes numbers limit turns Refused before after = after ≡ before
SawKept bytes numbers limit turns Words before after = after ≡ before
SawKept bytes numbers limit turns Numbers before after = after ≡ before
SawKept bytes numbers limit turns Reading before after = after ≡ before
SawKept bytes numbers limit turns Writing before after = after ≡ before
SawKept bytes numbers limit turns Memory before after = after ≡ before
SawKept bytes numbers limit turns Replay before after = SawOne bytes numbers limit turns before after

-- what is shown of a command on a text; a drill has its own text, no numbers and the greatest limit
abbrev pub SawCommand : Command → (bytes : List ℕ) (turns : TurnLists) → Status → (before after : Option (List SeenRun)) → Type 0
SawCommand (Run workers e) bytes turns status before after = SawRun bytes e.numbers e.limit turns status before after
SawCommand (Serial e) bytes turns status before after = after ≡ before
SawCommand Check bytes turns status before after = after ≡ before
SawCommand Show bytes turns status before after = after ≡ before
SawCommand (Drill tasks workers) bytes turns status before after = SawRun (drill_text tasks) [] 4294967295 turns status before after
SawCommand (Record workers e) bytes turns status before after = SawKept bytes e.numbers e.limit turns status before after
SawCommand ToReplay bytes turns status before after = after ≡ before
SawCommand Expand bytes turns status before after = after ≡ before

-- what a command comes to on a text by turn lists, and what is shown of it
pub record Carried (c : Command) (bytes : List ℕ) (turns : TurnLists) (text : List ℕ) (status : Status) (before after : Option (List SeenRun)) : Type 0 where
  pub is : IsCommanded c bytes turns text status
  pub saw : SawCommand c bytes turns status before after

-- the words are those of a command that no workers carry out, or of none
pub data NeedsNoWorkers (words : List (List ℕ)) : Type 0 where
  serially : (limit : ℕ) (numbers : List ℤ) → SerialWords words limit numbers → NeedsNoWorkers words
  checks : CheckWords words → NeedsNoWorkers words
  shows : ShowWords words → NeedsNoWorkers words
  replays : ReplayWords words → NeedsNoWorkers words
  expands : ExpandWords words → NeedsNoWorkers words
  refuses : RefusesWords words → NeedsNoWorkers words

-- what is shown of words and a text that come to this status by these turn lists: a run by workers with its turns, which are those lists
pub data SawWords (words : List (List ℕ)) (bytes : List ℕ) (turns : TurnLists) (status : Status) (before after : Option (List SeenRun)) : Type 0 where
  of_run : (workers limit : ℕ) (numbers : List ℤ) → RunWords words workers limit numbers → SawRun bytes numbers limit turns status before after →
      SawWords words bytes turns status before after
  of_drill : (tasks workers : ℕ) → DrillWords words tasks workers → SawRun (drill_text tasks) [] 4294967295 turns status before after →
      SawWords words bytes turns status before after
  of_record : (workers limit : ℕ) (numbers : List ℤ) → RecordWords words workers limit numbers → SawKept bytes numbers limit turns status before after →
      SawWords words bytes turns status before after
  of_none : NeedsNoWorkers words → after ≡ before → SawWords words bytes turns status before after
