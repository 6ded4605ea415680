-- A serial run as what each task comes to, with what follows it.
use Rattle.std.specs.Prelude.{◌≡◌, ℕ, zero, suc, ◌+◌, ◌-◌, ◌<◌, ◌≤◌, List, [], ◌∷◌, Option, Some, None, ℤ, pos}
use Rattle.jade_base.specs.declared.report.Blame.{Blame}
use Rattle.jade_base.specs.Held.{Held}
use Rattle.jade_syntax.specs.Abstract.{AbstractProgram}
use Rattle.jade_syntax.specs.Objects.{sizes}
use Rattle.jade_meaning.specs.Course.{Course, Reads, Writes, Steps, Creates, Changes, Ends, root_course, limit_blame}
use Rattle.jade_meaning.specs.Serial.{Path, Store, after, zeros}
use Rattle.jade_meaning.specs.Answer.{Run, Stopped, Through, stopping, stopping_run}
use Rattle.task_machine.specs.Playing.{Contents, with_cell, cell_of, played}
use Rattle.task_machine.specs.Whole.{all_held}

-- the number in a cell of an object that is held
abbrev pub number_in : Option Held → ℕ → ℤ
number_in None c = pos 0
number_in (Some h) c = cell_of h c

-- What a task comes to that stops at a fault, or at the first step beyond the limit, after k children and with so many steps left:
-- a fault of it or of a child, or what follows with the steps that are left. Where it creates a child, changes its rights, or ends,
-- there is a pause.
module _ {A : Type 0} (pause : A → A) where
  abbrev pub settles : Course → (k left : ℕ) → Contents → (Path → Blame → A) → (ℕ → Contents → A) → A
  settles (Reads o c on) k left s bad ok = settles (on (number_in (s o) c)) k left s bad ok
  settles (Writes o c v on) k left s bad ok = settles on k left (with_cell o c v s) bad ok
  settles (Steps on) k zero s bad ok = bad [] limit_blame
  settles (Steps on) k (suc left) s bad ok = settles on k left s bad ok
  settles (Creates child body on) k left s bad ok =
      pause (settles body 0 left s (λ p b. bad (k ∷ p) b) (λ less t. settles on (suc k) less t bad ok))
  settles (Changes new on) k left s bad ok = pause (settles on k left s bad ok)
  settles (Ends None) k left s bad ok = pause (ok left s)
  settles (Ends (Some b)) k left s bad ok = bad [] b

  -- where the task was played on, with no more steps than there are left, what is left of it comes to the same
  abbrev pub PlaysOn : Course → Contents → Type 0
  PlaysOn c s =
      (k n e d left : ℕ) (bad : Path → Blame → A) (ok : ℕ → Contents → A) → (played c s n e).steps ≡ n + d → d ≤ left
      → settles c k left s bad ok ≡ settles (played c s n e).course k (left - d) (played c s n e).contents bad ok

  -- where the task begins more steps on the way than there are left, it has ended with the fault `limit`
  abbrev pub RunsOut : Course → Contents → Type 0
  RunsOut c s =
      (k n e d left : ℕ) (bad : Path → Blame → A) (ok : ℕ → Contents → A) → (played c s n e).steps ≡ n + d → left < d
      → settles c k left s bad ok ≡ bad [] limit_blame

  -- with no more steps left than so many, two courses come to the same
  pub record Alike (most : ℕ) (c d : Course) : Type 0 where
    pub same : (k left : ℕ) (s : Contents) (bad : Path → Blame → A) (ok : ℕ → Contents → A) → left ≤ most
        → settles c k left s bad ok ≡ settles d k left s bad ok

-- what a serial run comes to
pub data Ending : Type 0 where
  Fault : Path → Blame → Ending
  Whole : Contents → Ending

-- what a run that stops comes to, with what follows it
abbrev pub resolved : {A : Type 0} → Run → Store → (Path → Blame → A) → (ℕ → Contents → A) → A
resolved (Stopped p b ms) store bad ok = bad p b
resolved (Through left ms) store bad ok = ok left (all_held (after ms store))

-- what a run that stops comes to
abbrev pub ending : Run → Store → Ending
ending r store = resolved r store Fault (λ left s. Whole s)

-- no pause is counted
abbrev pub at_once : Ending → Ending
at_once e = e

abbrev pub SettlesAs : Course → (k left : ℕ) → Store → Type 0
SettlesAs c k left store =
    (bad : Path → Blame → Ending) (ok : ℕ → Contents → Ending)
    → settles at_once c k left (all_held store) bad ok ≡ resolved (stopping c k left store) store bad ok

abbrev pub AnswersAs : AbstractProgram → List ℤ → ℕ → Type 0
AnswersAs p ns limit =
    let store = zeros (sizes p.items) in
    settles at_once (root_course p ns limit) 0 limit (all_held store) (λ q b. Fault (0 ∷ q) b) (λ left s. Whole s)
    ≡ ending (stopping_run p ns limit) store
