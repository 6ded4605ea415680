-- What a text comes to where it is run, checked, shown or made for a drill: a text to write, and a status.
use Rattle.std.specs.Prelude.{◌≡◌, ℕ, List, [], length, codes, Some, ℤ, false}
use Rattle.jade_base.specs.Places.{key}
use Rattle.jade_base.specs.declared.place.Pos.{Pos}
use Rattle.jade_base.specs.declared.report.FaultNote.{FaultNote}
use Rattle.jade_gen.specs.Drill.{drill_text}
use Rattle.jade_lexer.specs.Lexemes.{TokenList}
use Rattle.jade_lexer.specs.Reading.{reading, Whole}
use Rattle.jade_layout.specs.Spelling.{spelling}
use Rattle.jade_layout.specs.Layout.{layout}
use Rattle.jade_parser.specs.Grammar.{IsRefusedAt, IsTooLongAt}
use Rattle.jade_reading.specs.Reading.{ReadsAs}
use Rattle.jade_syntax.specs.declared.tree.Program.{Program}
use Rattle.jade_syntax.specs.Abstract.{AbstractProgram}
use Rattle.jade_syntax.specs.Image.{program}
use Rattle.jade_syntax.specs.Objects.{input_names, labels}
use Rattle.jade_syntax.specs.PlacedImage.{placed_program}
use Rattle.jade_syntax.specs.StaticFaults.{static_faults, first_fault}
use Rattle.jade_syntax.specs.declared.static_fault.StaticKind.{StaticKind}
use Rattle.jade_meaning.specs.Answer.{Answer, Faulted, Cells, answer}
use Rattle.jade_meaning.specs.Serial.{Store, Path}
use Rattle.jade_meaning.specs.Turns.{in_order}
use Rattle.jade_meaning.specs.Uncommuting.{uses_cm}
use Rattle.jade_run.specs.declared.status.Status.{Status}
use Rattle.jade_run.specs.declared.status.Status.TheVariants.{Good, Fault, Refused, Numbers}
use Rattle.jade_run.specs.declared.answer.ReadError.{ReadError}
use Rattle.jade_run.specs.declared.answer.ReadError.TheVariants.{Refused as RefusedAt, Memory}
use Rattle.jade_meaning.specs.Moved.{moved_answer}
use Rattle.jade_run.specs.Standing.{NotExpanded, NotLexed, StandsFor}
use Rattle.jade_run.specs.Sums.{sum_of_cells}
use Rattle.jade_run.specs.Texts.{refused_text, fault_text, objects_text, numbers_text, ok_text, static_word, drilled_text}

-- the key of a fault note
abbrev pub fault_key : FaultNote → List ℕ
fault_key f = key f.path f.children

-- what is written of an answer: the fault with its task, or the objects
abbrev pub answer_text : AbstractProgram → Answer → List ℕ
answer_text p (Faulted path blame) = fault_text path blame
answer_text p (Cells store) = objects_text (labels p.items) store

-- the status of an answer
abbrev pub answer_status : Answer → Status
answer_status (Faulted path blame) = Fault
answer_status (Cells store) = Good

-- a text and a status tell the answer of a program
pub record Shows (p : AbstractProgram) (a : Answer) (text : List ℕ) (status : Status) : Type 0 where
  pub shown : text ≡ answer_text p a
  pub ended : status ≡ answer_status a

-- the place at which a text that is read is refused, and why: it is not cut into tokens there, or no program goes on so
pub data RefusedAs (bytes : List ℕ) (place : Pos) (why : List ℕ) : Type 0 where
  unlexed : NotLexed bytes place why → RefusedAs bytes place why
  token : (tokens : TokenList) → reading bytes ≡ Whole tokens → IsRefusedAt tokens place → why ≡ codes "token" → RefusedAs bytes place why
  long : (tokens : TokenList) → reading bytes ≡ Whole tokens → IsTooLongAt tokens place → why ≡ codes "long" → RefusedAs bytes place why

-- why a text was not read, unless memory was wanting
abbrev pub OnRefused : ReadError → (Pos → List ℕ → Type 0) → Type 0
OnRefused (RefusedAt place why) P = P place why.now
OnRefused Memory P = Unit {0}

-- what is written of a text that is no good program
abbrev pub IsNotRead : ReadError → List ℕ → Status → Type 0
IsNotRead (RefusedAt place why) text status = (text ≡ refused_text place why.now) × (status ≡ Refused)
IsNotRead Memory text status = ⊥

-- what is read in place of the bytes is read as a program, whose places come from these
pub record IsRead (bytes : List ℕ) (tree : Program) (home : Pos → Pos) : Type 0 where
  pub text : List ℕ
  pub stands : StandsFor bytes text home
  pub reads : ReadsAs text tree

-- it is read as a program with which nothing is wrong before it runs
pub record IsGood (bytes : List ℕ) (tree : Program) (home : Pos → Pos) : Type 0 where
  pub read : IsRead bytes tree home
  pub faultless : static_faults (placed_program tree) ≡ []

-- it is read as a program, of whose static faults this is the first
pub record IsWrong (bytes : List ℕ) (place : Pos) (why : List ℕ) : Type 0 where
  pub tree : Program
  pub home : Pos → Pos
  pub read : IsRead bytes tree home
  pub at : Pos
  pub kind : StaticKind
  pub first : first_fault (static_faults (placed_program tree)) ≡ Some (record { pos = at; kind = kind })
  pub comes : place ≡ home at
  pub named : why ≡ static_word kind

-- the place at which a text is no program, and why: its procedures can't be expanded, or what is read in place of it can't be read
pub data NotRead (bytes : List ℕ) (place : Pos) (why : List ℕ) : Type 0 where
  unexpanded : NotExpanded bytes place why → NotRead bytes place why
  unread : (text : List ℕ) → (home : Pos → Pos) → StandsFor bytes text home → (at : Pos) → RefusedAs text at why → place ≡ home at → NotRead bytes place why

-- the place at which a text is no good program, and why: it is none, or something is wrong with it
pub data RefusedFor (bytes : List ℕ) (place : Pos) (why : List ℕ) : Type 0 where
  no_program : NotRead bytes place why → RefusedFor bytes place why
  wrong : IsWrong bytes place why → RefusedFor bytes place why

-- the number of a program's inputs
abbrev pub input_count : Program → ℕ
input_count tree = length (input_names tree.items)

-- the order in which the tasks that commute on each object take their turns
abbrev pub TurnLists : Type 0
TurnLists = ℕ → List Path

-- so it is for some turn lists
abbrev pub BySomeTurns : (TurnLists → Type 0) → Type 0
BySomeTurns P = (turns : TurnLists) × P turns

-- what a text of at most 1,048,576 bytes comes to, run with these numbers, a limit and turn lists: the answer of its program, a word on the count of numbers,
-- or a refusal
pub data IsAnswered (bytes : List ℕ) (numbers : List ℤ) (limit : ℕ) (turns : TurnLists) (text : List ℕ) (status : Status) : Type 0 where
  answered : (tree : Program) → (home : Pos → Pos) → IsGood bytes tree home → length numbers ≡ input_count tree →
      Shows (program tree) (moved_answer home (answer (program tree) numbers limit turns)) text status → IsAnswered bytes numbers limit turns text status
  miscounted : (tree : Program) → (home : Pos → Pos) → IsGood bytes tree home → (length numbers ≡ input_count tree → ⊥) → text ≡ numbers_text (input_count tree) (length numbers) →
      status ≡ Numbers → IsAnswered bytes numbers limit turns text status
  refused : (place : Pos) (why : List ℕ) → RefusedFor bytes place why → text ≡ refused_text place why → status ≡ Refused →
      IsAnswered bytes numbers limit turns text status

-- in the program of a text the word `cm` does not stand
abbrev pub IsPlain : (bytes : List ℕ) → Type 0
IsPlain bytes = (tree : Program) → (home : Pos → Pos) → IsGood bytes tree home → uses_cm (program tree) ≡ false

-- what a text of at most 1,048,576 bytes comes to where it is checked: `ok`, or a refusal
pub data IsTested (bytes : List ℕ) (text : List ℕ) (status : Status) : Type 0 where
  good : (tree : Program) → (home : Pos → Pos) → IsGood bytes tree home → text ≡ ok_text → status ≡ Good → IsTested bytes text status
  not_good : (place : Pos) (why : List ℕ) → RefusedFor bytes place why → text ≡ refused_text place why → status ≡ Refused → IsTested bytes text status

-- what a text of at most 1,048,576 bytes comes to where it is shown: the layout of its program, or it is refused
pub data IsShown (bytes : List ℕ) (text : List ℕ) (status : Status) : Type 0 where
  shown : (tree : Program) → (home : Pos → Pos) → IsRead bytes tree home → text ≡ layout (spelling tree) → status ≡ Good → IsShown bytes text status
  not_shown : (place : Pos) (why : List ℕ) → NotRead bytes place why → text ≡ refused_text place why → status ≡ Refused → IsShown bytes text status

-- what a text of at most 1,048,576 bytes comes to where its procedures are expanded: what is read in place of it, or it is refused
pub data IsExpanded (bytes : List ℕ) (text : List ℕ) (status : Status) : Type 0 where
  expanded : (home : Pos → Pos) → StandsFor bytes text home → status ≡ Good → IsExpanded bytes text status
  not_expanded : (place : Pos) (why : List ℕ) → NotExpanded bytes place why → text ≡ refused_text place why → status ≡ Refused → IsExpanded bytes text status

-- what a drill of so many tasks comes to: its text, run with no numbers and the greatest limit, told by the sum of all cells; where that run does not come to
-- cells, what it comes to itself
pub data IsDrilled (tasks : ℕ) (text : List ℕ) (status : Status) : Type 0 where
  summed : (tree : Program) → (home : Pos → Pos) → IsGood (drill_text tasks) tree home → input_count tree ≡ 0 → (store : Store) → answer (program tree) [] 4294967295 in_order ≡ Cells store →
      text ≡ drilled_text tasks (sum_of_cells store) → status ≡ Good → IsDrilled tasks text status
  not_summed : IsAnswered (drill_text tasks) [] 4294967295 in_order text status → (status ≡ Good → ⊥) → IsDrilled tasks text status
