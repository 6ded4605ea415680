-- The answer of a program, as its report tells it.
use Rattle.std.specs.Prelude.{◌≡◌, ℕ, ◌-◌, List, [], ◌∷◌, Option, Some, None, ℤ, nat_lt, if◌then◌else◌}
use Rattle.jade_base.specs.Places.{is_before, key}
use Rattle.jade_base.specs.declared.report.FaultNote.{FaultNote}
use Rattle.jade_base.specs.declared.report.PartStep.{PartStep}
use Rattle.jade_base.specs.declared.report.Report.{Report}
use Rattle.jade_syntax.specs.Abstract.{AbstractProgram}
use Rattle.jade_meaning.specs.Answer.{Answer, Faulted, Cells, answer}
use Rattle.jade_meaning.specs.Course.{limit_blame}
use Rattle.jade_meaning.specs.Report.{report}
use Rattle.jade_meaning.specs.Serial.{Path, Store}

-- the first of the notes, which stand by ascending key
abbrev pub first_note : List FaultNote → Option FaultNote
first_note [] = None
first_note (f ∷ fs) = Some f

-- the first of the parts with which the sum of the steps exceeds what is left
abbrev pub step_over : ℕ → List PartStep → Option PartStep
step_over left [] = None
step_over left (s ∷ ss) = if nat_lt left s.steps then Some s else step_over (left - s.steps) ss

-- of the first fault and the place of the limit the one with the lesser key, and the limit where they are the same
abbrev pub answer_by : Option FaultNote → Option PartStep → Store → Answer
answer_by None None store = Cells store
answer_by (Some f) None store = Faulted f.path f.blame
answer_by None (Some s) store = Faulted s.path limit_blame
answer_by (Some f) (Some s) store =
    if is_before (key f.path f.children) (key s.path s.children) then Faulted f.path f.blame else Faulted s.path limit_blame

-- the answer that a report tells, where so many steps are allowed in all
abbrev pub report_answer : (limit : ℕ) → Report → Answer
report_answer limit r = answer_by (first_note r.faults) (step_over limit r.steps) r.objects

-- the report of the serial run tells the answer
pub record ReportTells (p : AbstractProgram) (ns : List ℤ) (limit : ℕ) (turns : ℕ → List Path) : Type 0 where
  pub same : report_answer limit (report p ns limit turns) ≡ answer p ns limit turns
