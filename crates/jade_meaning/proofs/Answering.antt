-- The report of the serial run tells the answer.
use Rattle.std.proofs.Common.{◌≡◌, ℕ, ◌-◌, Bool, true, false, List, [], ◌∷◌, map, Option, Some, None, ℤ, refl}
use Rattle.std.specs.Prelude.{nat_lt, if◌then◌else◌}
use Rattle.std.specs.List.{filter_map}
use Rattle.std.specs.Option.{option_map}
use Rattle.jade_base.specs.declared.report.Blame.{Blame}
use Rattle.jade_base.specs.declared.report.FaultNote.{FaultNote}
use Rattle.jade_base.specs.declared.report.PartStep.{PartStep}
use Rattle.jade_syntax.specs.Abstract.{AbstractProgram}
use Rattle.jade_syntax.specs.Objects.{sizes}
use Rattle.jade_meaning.specs.Answer.{decided, first_fault, limit_place, blame_of, parts_by_key}
use Rattle.jade_meaning.specs.Report.{fault_of, step_of, reported}
use Rattle.jade_meaning.specs.Serial.{Path, Mark, Part, Store, after, zeros}
use Rattle.jade_meaning.specs.Turns.{marks_by}
use Rattle.jade_meaning.specs.ReportAnswer.{first_note, step_over, answer_by, report_answer, ReportTells}

-- a part with a fault as a note
abbrev as_note : Part → FaultNote
as_note p = record { path = p.path; children = p.children; blame = blame_of p.blame }

note_first : (path : Path) (children steps : ℕ) (b : Option Blame) (ps : List Part) → first_note (filter_map (λ p. fault_of p.blame p) ps) ≡ option_map as_note
    (first_fault ps) → first_note (filter_map (λ p. fault_of p.blame p) (record { path = path; children = children; steps = steps; blame = b } ∷ ps))
    ≡ option_map as_note (first_fault (record { path = path; children = children; steps = steps; blame = b } ∷ ps))
note_first path children steps None ps h = h
note_first path children steps (Some b) ps h = refl

-- the first note is that of the first part with a fault
notes_first : (ps : List Part) → first_note (filter_map (λ p. fault_of p.blame p) ps) ≡ option_map as_note (first_fault ps)
notes_first [] = refl
notes_first (p ∷ ps) = note_first p.path p.children p.steps p.blame ps (notes_first ps)

over_here : (over : Bool) (p : Part) (here : Option PartStep) (there : Option Part) → here ≡ option_map step_of there
    → (if over then Some (step_of p) else here) ≡ option_map step_of (if over then Some p else there)
over_here true p here there h = refl
over_here false p here there h = h

-- the place of the limit among the steps is that among the parts
steps_over : (left : ℕ) (ps : List Part) → step_over left (map step_of ps) ≡ option_map step_of (limit_place left ps)
steps_over left [] = refl
steps_over left (p ∷ ps) = over_here (nat_lt left p.steps) p _ _ (steps_over (left - p.steps) ps)

answer_by_is : (f l : Option Part) (store : Store) → answer_by (option_map as_note f) (option_map step_of l) store ≡ decided f l store
answer_by_is None None store = refl
answer_by_is None (Some l) store = refl
answer_by_is (Some f) None store = refl
answer_by_is (Some f) (Some l) store = refl

pub reported_tells : (ns : List ℕ) (ms : List Mark) (limit : ℕ) → report_answer limit (reported ns ms) ≡ decided (first_fault (parts_by_key ms))
    (limit_place limit (parts_by_key ms)) (after ms (zeros ns))
reported_tells ns ms limit =
    let ps = parts_by_key ms in
    rw (notes_first ps, steps_over limit ps) (answer_by_is (first_fault ps) (limit_place limit ps) (after ms (zeros ns)))

pub report_tells : (p : AbstractProgram) (ns : List ℤ) (limit : ℕ) (turns : ℕ → List Path) → ReportTells p ns limit turns
report_tells p ns limit turns =
    record { same = reported_tells (sizes p.items) (marks_by p ns limit turns) limit }
