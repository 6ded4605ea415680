-- A run by its levels: the tasks that wait for their children, and the one that runs.
use Rattle.std.specs.Prelude.{◌≡◌, ℕ, ◌+◌, ◌≤◌, List, [], ◌∷◌, ◌++◌, map, length, Option, Some, None, ℤ}
use Rattle.jade_base.specs.declared.report.Blame.{Blame}
use Rattle.jade_meaning.specs.Specification.{Specification}
use Rattle.jade_meaning.specs.Spread.{spread}
use Rattle.jade_meaning.specs.Course.{Course, NoDraft}
use Rattle.jade_meaning.specs.Laws.{Every}
use Rattle.code_meaning.specs.declared.code.Instruction.{Instruction}
use Rattle.code_meaning.specs.Meaning.{Slots, passed}
use Rattle.task_code.specs.Rules.{TaskCode}
use Rattle.task_machine.specs.Playing.{Contents}
use Rattle.task_machine.specs.Stages.{slots_of}
use Rattle.task_machine.specs.Executions.{body_at}
use Rattle.task_machine.specs.steps.Owning.{rights_of}
use Rattle.task_machine.specs.steps.Running.{going_from}
use Rattle.task_machine.specs.steps.Executing.{IsReady}
use Rattle.serial_machine.specs.declared.level.Level.{Level}
use Rattle.serial_machine.specs.declared.stack.Stack.{Stack}
use Rattle.serial_machine.specs.declared.stack.Progress.{Progress}
use Rattle.serial_machine.specs.declared.stack.Progress.TheVariants as progress
use Rattle.serial_machine.specs.steps.Settles.{Ending, Fault, Whole}
use Rattle.code_meaning.specs.Children.{children_of}
use Rattle.serial_machine.specs.steps.Stack.{Counted, once_more, Waiting, following, at_end, comes_to}
use Rattle.serial_machine.specs.steps.Pausing.{Owns, AllHeld}

-- the instructions of a task
abbrev pub code_in : TaskCode → Level → List Instruction
code_in c v = (body_at c v.body).code

-- what a task goes on to do, with so many steps left
abbrev pub course_with : TaskCode → List ℤ → (limit : ℕ) → Level → (left : ℕ) → Course
course_with c zs limit v left = going_from (children_of zs limit c.bodies v.body) (code_in c v) v.own left v.frame.place v.frame.slots.items

-- a task that waits for a child
abbrev pub waits : TaskCode → List ℤ → (limit : ℕ) → Level → Waiting
waits c zs limit v = record { course = course_with c zs limit v; children = v.children }

-- what a run comes to
abbrev pub total : TaskCode → List ℤ → (limit : ℕ) → Stack → Contents → Counted
total c zs limit s k =
    comes_to (course_with c zs limit s.level s.level.frame.left) s.level.children s.level.frame.left k
    (following (map (waits c zs limit) s.waiting.items) at_end)

abbrev pub Ready : TaskCode → List ℤ → Level → Type 0
Ready c zs v = IsReady c zs v.body v.own v.frame

-- each task is ready to run, and all objects are held for writing
pub record Fits (c : TaskCode) (zs : List ℤ) (s : Stack) (k : Contents) : Type 0 where
  pub runs : Ready c zs s.level
  pub wait : Every (Ready c zs) s.waiting.items
  pub held : AllHeld (length c.sizes) k

-- a task that begins: a body with these slots and rights, and so many steps left
pub record Begins (c : TaskCode) (zs : List ℤ) (v : Level) (body left : ℕ) (ss : Slots) (spec : Specification) : Type 0 where
  pub body_is : v.body ≡ body
  pub ready : Ready c zs v
  pub slots_are : slots_of v.frame.slots.items ≡ ss
  pub place_is : v.frame.place ≡ 0
  pub left_is : v.frame.left ≡ left
  pub owns : Owns v.own (length c.sizes) spec NoDraft
  pub children_are : v.children ≡ 0

-- a child that begins with what the section of its creator has made
abbrev pub BeginsChild : TaskCode → List ℤ → (parent : Level) → (number : ℕ) → (child : Level) → Type 0
BeginsChild c zs parent number child =
    Begins c zs child number parent.frame.left (passed zs (body_at c number).call (slots_of parent.frame.slots.items))
    (spread parent.own.objects parent.own.child.entries)

-- a task that goes on after its section, with these rights
pub record Passes (old new : Level) (spec : Specification) : Type 0 where
  pub body_is : new.body ≡ old.body
  pub frame_is : new.frame ≡ record old.frame { place = old.frame.place + 1 }
  pub owns : Owns new.own old.own.objects spec NoDraft
  pub children_are : new.children ≡ old.children

-- a task whose child has ended, and the steps that are left then
abbrev pub resumed : Level → (left : ℕ) → Level
resumed v left = record v { frame = record v.frame { left = left }; children = v.children + 1 }

-- a task that has ended; there is one that waited for it, or none
abbrev pub Pops : (more : Progress) → (old new : Stack) → Type 0
Pops progress.On old new =
    (v : Level) × (old.waiting.items ≡ new.waiting.items ++ v ∷ []) × (new.level ≡ resumed v old.level.frame.left)
Pops progress.Whole old new = old.waiting.items ≡ []
Pops (progress.Fault b) old new = ⊥

-- a child begins, and its creator waits
pub record Pushes (c : TaskCode) (zs : List ℤ) (old : Stack) (number : ℕ) (new : Stack) : Type 0 where
  pub parent : Level
  pub waiting : new.waiting.items ≡ old.waiting.items ++ parent ∷ []
  pub passes : Passes old.level parent (rights_of old.level.own)
  pub child : BeginsChild c zs old.level number new.level

-- one stop further: the run comes to the same, with one pause less
pub record Proceeds (c : TaskCode) (zs : List ℤ) (old : Stack) (k : Contents) (new : Stack) (l : Contents) : Type 0 where
  pub same : (limit : ℕ) → old.level.frame.left ≤ limit → total c zs limit old k ≡ once_more (total c zs limit new l)
  pub fewer : new.level.frame.left ≤ old.level.frame.left
  pub fits : Fits c zs new l

-- where a run comes to, by what it shows
abbrev pub ComesTo : Progress → TaskCode → List ℤ → (old : Stack) → Contents → (new : Stack) → Contents → Type 0
ComesTo progress.On c zs old k new l = Proceeds c zs old k new l
ComesTo progress.Whole c zs old k new l =
    (limit : ℕ) → old.level.frame.left ≤ limit → (total c zs limit old k).comes ≡ Whole l
ComesTo (progress.Fault b) c zs old k new l =
    (limit : ℕ) → old.level.frame.left ≤ limit → (total c zs limit old k).comes ≡ Fault (0 ∷ map (λ v. v.children) new.waiting.items) b

-- the end of a run
abbrev pub ended : Option Blame → Stack → Contents → Ending
ended None s k = Whole k
ended (Some b) s k = Fault (0 ∷ map (λ v. v.children) s.waiting.items) b
