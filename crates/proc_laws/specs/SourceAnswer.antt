-- What a program with procedures answers by turn lists: what one without them answers that has its course.
use Rattle.std.specs.Prelude.{ℕ, List, [], ◌∷◌, ℤ, replicate, length}
use Rattle.jade_base.specs.Rights.{both_rights}
use Rattle.jade_syntax.specs.Objects.{sizes}
use Rattle.jade_meaning.specs.Specification.{Specification, objects}
use Rattle.jade_meaning.specs.Course.{Course}
use Rattle.jade_meaning.specs.Serial.{Path, Mark, after, zeros}
use Rattle.jade_meaning.specs.Turns.{Ran, first, run, settle_all}
use Rattle.jade_meaning.specs.Answer.{Answer, parts_by_key, first_fault, limit_place, decided}
use Rattle.proc_laws.specs.Source.{SourceProgram}
use Rattle.proc_laws.specs.SourceMeaning.{source_course}

-- what a task of `main` with this specification and course, and its descendants, do by turn lists, where objects of these sizes hold zeros: at the end each
-- group is settled
abbrev pub course_run : (turns : ℕ → List Path) → Specification → Course → (object_sizes : List ℕ) → Ran
course_run turns spec course ns =
    let r = run turns (0 ∷ []) spec course 0 0 (record { store = zeros ns; waiting = [] }) in
    first r.marks (settle_all turns (objects spec) r.world)

-- the task of `main` has all rights
abbrev pub source_spec : SourceProgram → Specification
source_spec p = replicate (length (sizes p.items)) both_rights

-- what the tasks of a program do, in serial order, by turn lists
abbrev pub source_marks : SourceProgram → (numbers : List ℤ) → (limit : ℕ) → (turns : ℕ → List Path) → List Mark
source_marks p ns limit turns = (course_run turns (source_spec p) (source_course p ns limit) (sizes p.items)).marks

-- the answer of a program whose tasks and whole serial run by turn lists may begin so many steps: the first fault or the place of the limit, whichever
-- stands first, or else the cells
abbrev pub source_answer : SourceProgram → (numbers : List ℤ) → (limit : ℕ) → (turns : ℕ → List Path) → Answer
source_answer p ns limit turns =
    let ms = source_marks p ns limit turns in
    decided (first_fault (parts_by_key ms)) (limit_place limit (parts_by_key ms)) (after ms (zeros (sizes p.items)))
