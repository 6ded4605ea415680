-- A report has its parts and its faults by ascending key.
use Rattle.std.proofs.Common.{◌≡◌, ℕ, true, List, [], ◌∷◌, map, Option, Some, None}
use Rattle.std.specs.Prelude.{ℤ}
use Rattle.std.specs.List.{filter_map, cons_option}
use Rattle.jade_base.specs.Places.{is_before}
use Rattle.jade_base.specs.declared.report.Blame.{Blame}
use Rattle.jade_base.specs.declared.report.FaultNote.{FaultNote}
use Rattle.jade_base.specs.declared.report.PartStep.{PartStep}
use Rattle.jade_syntax.specs.Abstract.{AbstractProgram}
use Rattle.jade_meaning.specs.Serial.{Path, Part}
use Rattle.jade_meaning.specs.Turns.{marks_by}
use Rattle.jade_meaning.specs.Answer.{key, parts_by_key}
use Rattle.jade_meaning.specs.Laws.{Every, child_path}
use Rattle.jade_meaning.specs.Report.{fault_of, step_of, Ascends, ReportAscends}
use Rattle.jade_meaning.proofs.Stops.{KeysAscend, every_map}
use Rattle.jade_meaning.proofs.Sorting.{sorted_ascend}

abbrev step_key : PartStep → Path
step_key s = child_path s.path s.children

abbrev fault_key : FaultNote → Path
fault_key f = child_path f.path f.children

steps_ascend : (ps : List Part) → KeysAscend ps → Ascends (map step_key (map step_of ps))
steps_ascend [] h = tt
steps_ascend (p ∷ ps) h = (every_map _ step_key (map step_of ps) (every_map _ step_of ps h.0), steps_ascend ps h.1)

abbrev noted : List Part → List FaultNote
noted ps = filter_map (λ p. fault_of p.blame p) ps

every_note : (P : Path → Type 0) (b : Option Blame) (p : Part) (fs : List FaultNote) → P (key p) → Every P (map fault_key fs)
    → Every P (map fault_key (cons_option (fault_of b p) fs))
every_note P None p fs h g = g
every_note P (Some b) p fs h g = (h, g)

every_noted : (P : Path → Type 0) (ps : List Part) → Every (λ q. P (key q)) ps → Every P (map fault_key (noted ps))
every_noted P [] h = tt
every_noted P (p ∷ ps) h = every_note P p.blame p (noted ps) h.0 (every_noted P ps h.1)

one_ascends : (b : Option Blame) (p : Part) (fs : List FaultNote) → Every (λ q. is_before (key p) q ≡ true) (map fault_key fs) → Ascends (map fault_key fs)
    → Ascends (map fault_key (cons_option (fault_of b p) fs))
one_ascends None p fs h g = g
one_ascends (Some b) p fs h g = (h, g)

faults_ascend : (ps : List Part) → KeysAscend ps → Ascends (map fault_key (noted ps))
faults_ascend [] h = tt
faults_ascend (p ∷ ps) h = one_ascends p.blame p (noted ps) (every_noted (λ q. is_before (key p) q ≡ true) ps h.0) (faults_ascend ps h.1)

pub report_ascends : (p : AbstractProgram) (ns : List ℤ) (limit : ℕ) (turns : ℕ → List Path) → ReportAscends p ns limit turns
report_ascends p ns limit turns =
    let ms = marks_by p ns limit turns in
    let h : KeysAscend (parts_by_key ms) = sorted_ascend p ns limit turns in
    record { steps = steps_ascend (parts_by_key ms) h; faults = faults_ascend (parts_by_key ms) h }
