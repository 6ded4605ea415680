-- What follows the tasks that wait for their children.
use Rattle.std.specs.Prelude.{◌≡◌, ℕ, suc, List, [], ◌∷◌, ◌++◌, map}
use Rattle.jade_base.specs.declared.report.Blame.{Blame}
use Rattle.jade_meaning.specs.Course.{Course}
use Rattle.jade_meaning.specs.Serial.{Path}
use Rattle.task_machine.specs.Playing.{Contents}
use Rattle.serial_machine.specs.steps.Settles.{Ending, Fault, Whole, settles}

-- what a serial run comes to, and the pauses on the way
pub record Counted : Type 0 where
  pub comes : Ending
  pub pauses : ℕ

-- one pause more
abbrev pub once_more : Counted → Counted
once_more r = record { comes = r.comes; pauses = suc r.pauses }

-- what follows a task: after a fault, and after its end
pub record Next : Type 0 where
  pub bad : Path → Blame → Counted
  pub ok : ℕ → Contents → Counted

-- after the root
abbrev pub at_end : Next
at_end = record { bad = λ p b. record { comes = Fault (0 ∷ p) b; pauses = 0 }; ok = λ left s. record { comes = Whole s; pauses = 0 } }

-- what a task comes to after k children, with so many steps left, and what follows it
abbrev pub comes_to : Course → (k left : ℕ) → Contents → Next → Counted
comes_to c k left s x = settles once_more c k left s x.bad x.ok

-- a task that waits for a child: what it goes on to do then, with the steps that are left, and its children before that one
pub record Waiting : Type 0 where
  pub course : ℕ → Course
  pub children : ℕ

-- what follows the child of a task that waits
abbrev pub after_child : Waiting → Next → Next
after_child v x = record {
  bad = λ p b. x.bad (v.children ∷ p) b;
  ok = λ less t. comes_to (v.course less) (suc v.children) less t x;
}

-- what follows the newest of tasks that wait, the oldest first
abbrev pub following : List Waiting → Next → Next
following [] x = x
following (v ∷ vs) x = following vs (after_child v x)

-- the newest waits for its child
abbrev pub NewestWaits : List Waiting → Waiting → Next → Type 0
NewestWaits vs v x = following (vs ++ v ∷ []) x ≡ after_child v (following vs x)

-- a fault is that of the task on this way from the root
abbrev pub FaultIs : List Waiting → Next → Type 0
FaultIs vs x = (p : Path) (b : Blame) → (following vs x).bad p b ≡ x.bad (map (λ v. v.children) vs ++ p) b
