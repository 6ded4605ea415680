-- What a list of words and a text come to: a text to write, and a status.
use Rattle.std.specs.Prelude.{◌≡◌, ℕ, ◌<◌, ◌≤◌, List, length, codes, ℤ}
use Rattle.jade_meaning.specs.Turns.{in_order}
use Rattle.jade_run.specs.declared.status.Status.{Status}
use Rattle.jade_run.specs.declared.status.Status.TheVariants.{Refused, Words}
use Rattle.jade_run.specs.declared.words.Command.{Command}
use Rattle.jade_run.specs.declared.words.Execution.{Execution}
use Rattle.jade_run.specs.declared.words.Command.TheVariants.{Run, Serial, Check, Show, Drill, Record, Replay, Expand}
use Rattle.jade_run.specs.Answered.{IsAnswered, IsDrilled, IsExpanded, IsShown, IsTested, TurnLists}
use Rattle.jade_run.specs.Recordings.{IsKept, IsReplayed}
use Rattle.jade_run.specs.Standing.{first_place}
use Rattle.jade_run.specs.Texts.{usage_text, refused_text}
use Rattle.jade_run.specs.Words.{NeedsText, RefusesWords, RunWords, SerialWords, CheckWords, ShowWords, DrillWords, RecordWords, ReplayWords, ExpandWords}

-- an execution has a limit of one step or more, and at most 64 numbers
abbrev pub IsLimited : Execution → Type 0
IsLimited e = (1 ≤ e.limit) × (length e.numbers ≤ 64)

-- 1 to 64 workers
abbrev pub IsCrew : ℕ → Type 0
IsCrew workers = (1 ≤ workers) × (workers ≤ 64)

-- what is asked of a command: the bounds of its numbers, where it executes or drills
abbrev pub IsAllowed : Command → Type 0
IsAllowed (Run workers e) = IsCrew workers × IsLimited e
IsAllowed (Serial e) = IsLimited e
IsAllowed Check = Unit {0}
IsAllowed Show = Unit {0}
IsAllowed (Drill tasks workers) = IsCrew workers × ((1 ≤ tasks) × (tasks ≤ 10000))
IsAllowed (Record workers e) = IsCrew workers × IsLimited e
IsAllowed Replay = Unit {0}
IsAllowed Expand = Unit {0}

-- what a command comes to on a text of at most 1,048,576 bytes by turn lists; a drill has its own text, a serial run the order of creation, and a replay the turns
-- of the recording
abbrev pub IsCommanded : Command → (bytes : List ℕ) → (turns : TurnLists) → (text : List ℕ) → Status → Type 0
IsCommanded (Run workers e) bytes turns text status = IsAnswered bytes e.numbers e.limit turns text status
IsCommanded (Serial e) bytes turns text status = IsAnswered bytes e.numbers e.limit in_order text status
IsCommanded Check bytes turns text status = IsTested bytes text status
IsCommanded Show bytes turns text status = IsShown bytes text status
IsCommanded (Drill tasks workers) bytes turns text status = IsDrilled tasks text status
IsCommanded (Record workers e) bytes turns text status = IsKept bytes e.numbers e.limit turns text status
IsCommanded Replay bytes turns text status = IsReplayed bytes text status
IsCommanded Expand bytes turns text status = IsExpanded bytes text status

-- what words and a text come to by turn lists, which neither a serial run nor a replay looks at; the words are tested first, then, where they need a text, its
-- length, then the text. A drill comes to the same whatever the text is
pub data IsOutcome (words : List (List ℕ)) (bytes : List ℕ) (turns : TurnLists) (text : List ℕ) (status : Status) : Type 0 where
  usage : RefusesWords words → text ≡ usage_text → status ≡ Words → IsOutcome words bytes turns text status
  too_long : NeedsText words → 1048576 < length bytes → text ≡ refused_text first_place (codes "text") → status ≡ Refused → IsOutcome words bytes turns text status
  run : (workers limit : ℕ) (numbers : List ℤ) → RunWords words workers limit numbers → length bytes ≤ 1048576 → IsAnswered bytes numbers limit turns text status →
      IsOutcome words bytes turns text status
  serial : (limit : ℕ) (numbers : List ℤ) → SerialWords words limit numbers → length bytes ≤ 1048576 → IsAnswered bytes numbers limit in_order text status →
      IsOutcome words bytes turns text status
  check : CheckWords words → length bytes ≤ 1048576 → IsTested bytes text status → IsOutcome words bytes turns text status
  show : ShowWords words → length bytes ≤ 1048576 → IsShown bytes text status → IsOutcome words bytes turns text status
  drill : (tasks workers : ℕ) → DrillWords words tasks workers → IsDrilled tasks text status → IsOutcome words bytes turns text status
  keep : (workers limit : ℕ) (numbers : List ℤ) → RecordWords words workers limit numbers → length bytes ≤ 1048576 →
      IsKept bytes numbers limit turns text status → IsOutcome words bytes turns text status
  replay : ReplayWords words → length bytes ≤ 1048576 → IsReplayed bytes text status → IsOutcome words bytes turns text status
  expand : ExpandWords words → length bytes ≤ 1048576 → IsExpanded bytes text status → IsOutcome words bytes turns text status

-- two outcomes are the same
pub record SameOutcome (one : List ℕ) (first : Status) (other : List ℕ) (second : Status) : Type 0 where
  pub text : one ≡ other
  pub status : first ≡ second
