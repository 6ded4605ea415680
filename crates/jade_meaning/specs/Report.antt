-- What a run did, as the run time tells it of itself at the end.
use Rattle.std.specs.Prelude.{◌≡◌, true, ◌∷◌, ℕ, List, map, Option, Some, None, ℤ, length, []}
use Rattle.std.specs.List.{filter_map}
use Rattle.jade_base.specs.Places.{is_before, key}
use Rattle.jade_base.specs.declared.report.Blame.{Blame}
use Rattle.jade_base.specs.declared.report.FaultNote.{FaultNote}
use Rattle.jade_base.specs.declared.report.PartStep.{PartStep}
use Rattle.jade_base.specs.declared.report.Report.{Report}
use Rattle.jade_syntax.specs.Abstract.{AbstractProgram}
use Rattle.jade_syntax.specs.Objects.{sizes}
use Rattle.jade_meaning.specs.Laws.{Every}
use Rattle.jade_meaning.specs.Answer.{parts_by_key}
use Rattle.jade_meaning.specs.Serial.{Path, Mark, Part, after, zeros}
use Rattle.jade_meaning.specs.Specification.{numbers}
use Rattle.jade_meaning.specs.Turns.{turns_on, marks_by, turns_in}

-- the note of a part that ended with a fault
abbrev pub fault_of : Option Blame → Part → Option FaultNote
fault_of None p = None
fault_of (Some b) p = Some (record { path = p.path; children = p.children; blame = b })

-- the notes of the parts that ended with a fault
abbrev pub fault_notes : List Part → List FaultNote
fault_notes ps = filter_map (λ p. fault_of p.blame p) ps

-- the faults of marks by ascending key
abbrev pub faults : List Mark → List FaultNote
faults ms = fault_notes (parts_by_key ms)

-- the note of a part's steps
abbrev pub step_of : Part → PartStep
step_of p = record { path = p.path; children = p.children; steps = p.steps }

-- the steps of the parts of marks by ascending key
abbrev pub steps_of : List Mark → List PartStep
steps_of ms = map step_of (parts_by_key ms)

-- the turns on each of n objects
abbrev pub turn_lists : (n : ℕ) → List Mark → List (List Path)
turn_lists n ms = map (λ o. turns_on o ms) (numbers 0 n)

-- the report of these marks on objects of these sizes
abbrev pub reported : (object_sizes : List ℕ) → List Mark → Report
reported ns ms = record { objects = after ms (zeros ns); faults = faults ms; turns = turn_lists (length ns) ms; steps = steps_of ms }

-- the report of the serial run of a program by turn lists
abbrev pub report : AbstractProgram → (numbers : List ℤ) → (limit : ℕ) → (turns : ℕ → List Path) → Report
report p ns limit turns = reported (sizes p.items) (marks_by p ns limit turns)

-- a report is that of the run by its own turn lists
pub record ByItsTurns (p : AbstractProgram) (ns : List ℤ) (limit : ℕ) (turns : ℕ → List Path) : Type 0 where
  pub same : report p ns limit (turns_in (report p ns limit turns).turns) ≡ report p ns limit turns

-- keys that ascend strictly
abbrev pub Ascends : List Path → Type 0
Ascends [] = Unit {0}
Ascends (p ∷ ps) = Every (λ q. is_before p q ≡ true) ps × Ascends ps

-- a report has its parts and its faults by ascending key
pub record ReportAscends (p : AbstractProgram) (ns : List ℤ) (limit : ℕ) (turns : ℕ → List Path) : Type 0 where
  pub steps : Ascends (map (λ s. key s.path s.children) (report p ns limit turns).steps)
  pub faults : Ascends (map (λ f. key f.path f.children) (report p ns limit turns).faults)
