-- Where the reads of an object stand among the works on it.
use Rattle.std.specs.Prelude.{◌≡◌, ℕ, false, List, ◌∷◌, ◌++◌, ℤ}
use Rattle.jade_base.specs.Places.{is_before, key}
use Rattle.jade_syntax.specs.Abstract.{AbstractProgram}
use Rattle.jade_meaning.specs.Laws.{Every}
use Rattle.jade_meaning.specs.Serial.{Path, Mark, DidRead}
use Rattle.jade_meaning.specs.Turns.{marks_by}
use Rattle.schedule_core.specs.Works.{works_on}
use Rattle.core_laws.specs.KeyOrder.{key_of_work, TakesTurn}

-- the task at a path takes no turn in a run, on any object
abbrev pub TakesNone : Path → List Mark → Type 0
TakesNone q run = (o : ℕ) → TakesTurn q (works_on o run) → ⊥

-- A read of a task that does not commute stands behind the works on its object of parts before its own, and before those of parts behind it.
pub record ReadsStandByKey (p : AbstractProgram) (ns : List ℤ) (limit : ℕ) (turns : ℕ → List Path) : Type 0 where
  pub earlier : (front back : List Mark) (m : Mark) (o c : ℕ) (v : ℤ) → marks_by p ns limit turns ≡ front ++ (m ∷ back) → m.deed ≡ DidRead o c v
      → TakesNone m.path (marks_by p ns limit turns) → Every (λ w. is_before (key m.path m.children) (key_of_work w) ≡ false) (works_on o front)
  pub later : (front back : List Mark) (m : Mark) (o c : ℕ) (v : ℤ) → marks_by p ns limit turns ≡ front ++ (m ∷ back) → m.deed ≡ DidRead o c v
      → TakesNone m.path (marks_by p ns limit turns) → Every (λ w. is_before (key_of_work w) (key m.path m.children) ≡ false) (works_on o back)
