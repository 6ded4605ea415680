-- A course whose faults stand at other positions answers by turn lists what it answered, its fault at that position.
use Rattle.std.proofs.Common.{◌≡◌, ℕ, ◌-◌, List, [], ◌∷◌, map, refl, sym, ap, ◌∙◌, Option, Some, None}
use Rattle.std.specs.Prelude.{ℤ, nat_lt, replicate, length}
use Rattle.std.specs.List.{cons_option}
use Rattle.jade_base.specs.Places.{is_before}
use Rattle.jade_base.specs.Rights.{both_rights}
use Rattle.jade_base.specs.declared.place.Pos.{Pos}
use Rattle.jade_base.specs.declared.report.Blame.{Blame}
use Rattle.jade_syntax.specs.Abstract.{AbstractProgram}
use Rattle.jade_syntax.specs.Objects.{sizes}
use Rattle.jade_meaning.specs.Specification.{Specification}
use Rattle.jade_meaning.specs.Course.{Course, root_course, root_spec, limit_blame}
use Rattle.jade_meaning.specs.Serial.{Path, Store, Deed, DidTurn, DidRead, DidWrite, DidCreate, DidEnd, Mark, after, zeros, Part, part_of_deed, parts}
use Rattle.jade_meaning.specs.Turns.{Ran, marks_by}
use Rattle.jade_meaning.specs.Answer.{Answer, Faulted, key, filed, by_key, parts_by_key, first_fault, limit_place, blame_of, decided, answer}
use Rattle.jade_meaning.specs.Moved.{moved_answer}
use Rattle.proc_laws.specs.Moved.{moved_ending, moved_course}
use Rattle.proc_laws.specs.Source.{SourceProgram}
use Rattle.proc_laws.specs.SourceMeaning.{source_course}
use Rattle.proc_laws.specs.SourceAnswer.{course_run, source_answer}
use Rattle.proc_laws.proofs.MovedRuns.{chosen_under, moved_deed, moved_mark, after_moved, course_run_moved}

-- what marks answer
abbrev answer_of : (limit : ℕ) → (object_sizes : List ℕ) → List Mark → Answer
answer_of limit ns ms = decided (first_fault (parts_by_key ms)) (limit_place limit (parts_by_key ms)) (after ms (zeros ns))

-- what a program's tasks do is the run of its own course
at_the_root : (p : AbstractProgram) (numbers : List ℤ) (limit : ℕ) (turns : ℕ → List Path)
    → marks_by p numbers limit turns ≡ (course_run turns (root_spec p) (root_course p numbers limit) (sizes p.items)).marks
at_the_root p numbers limit turns = refl

module _ (f : Pos → Pos) where
  abbrev moved_part : Part → Part
  moved_part p = record { path = p.path; children = p.children; steps = p.steps; blame = moved_ending f p.blame }

  abbrev moved_place : Option Part → Option Part
  moved_place None = None
  moved_place (Some p) = Some (moved_part p)

  part_moved : (d : Deed) (m : Mark) (ps : List Part)
      → cons_option (part_of_deed (moved_deed f d) (moved_mark f m)) (map moved_part ps) ≡ map moved_part (cons_option (part_of_deed d m) ps)
  part_moved (DidTurn o) m ps = refl
  part_moved (DidRead o c v) m ps = refl
  part_moved (DidWrite o c v) m ps = refl
  part_moved (DidCreate t n) m ps = refl
  part_moved (DidEnd b n) m ps = refl

  parts_moved : (ms : List Mark) → parts (map (moved_mark f) ms) ≡ map moved_part (parts ms)
  parts_moved [] = refl
  parts_moved (m ∷ ms) = ap (cons_option (part_of_deed (moved_deed f m.deed) (moved_mark f m))) (parts_moved ms) ∙ part_moved m.deed m (parts ms)

  filed_moved : (p : Part) (ps : List Part) → filed (moved_part p) (map moved_part ps) ≡ map moved_part (filed p ps)
  filed_moved p [] = refl
  filed_moved p (q ∷ qs) =
      chosen_under (map moved_part) (is_before (key q) (key p)) (q ∷ filed p qs) (p ∷ (q ∷ qs)) _ _ (ap (λ l. moved_part q ∷ l) (filed_moved p qs)) refl

  by_key_moved : (ps : List Part) → by_key (map moved_part ps) ≡ map moved_part (by_key ps)
  by_key_moved [] = refl
  by_key_moved (p ∷ ps) = ap (filed (moved_part p)) (by_key_moved ps) ∙ filed_moved p (by_key ps)

  blamed_moved : (b : Option Blame) (p r q : Option Part) → q ≡ moved_place r
      → (elim (moved_ending f b) [ None ↦ q | Some x ↦ moved_place p ]) ≡ moved_place (elim b [ None ↦ r | Some x ↦ p ])
  blamed_moved None p r q h = h
  blamed_moved (Some b) p r q h = refl

  first_fault_moved : (ps : List Part) → first_fault (map moved_part ps) ≡ moved_place (first_fault ps)
  first_fault_moved [] = refl
  first_fault_moved (p ∷ ps) = blamed_moved p.blame (Some p) (first_fault ps) (first_fault (map moved_part ps)) (first_fault_moved ps)

  limit_place_moved : (left : ℕ) (ps : List Part) → limit_place left (map moved_part ps) ≡ moved_place (limit_place left ps)
  limit_place_moved left [] = refl
  limit_place_moved left (p ∷ ps) =
      chosen_under moved_place (nat_lt left p.steps) (Some p) (limit_place (left - p.steps) ps) _ _ refl (limit_place_moved (left - p.steps) ps)

  fault_moved : (path : Path) (b : Option Blame) → Faulted path (blame_of (moved_ending f b)) ≡ moved_answer f (Faulted path (blame_of b))
  fault_moved path None = refl
  fault_moved path (Some b) = refl

  decided_moved : (a b : Option Part) (store : Store) → decided (moved_place a) (moved_place b) store ≡ moved_answer f (decided a b store)
  decided_moved None None store = refl
  decided_moved (Some p) None store = fault_moved p.path p.blame
  decided_moved None (Some l) store = refl
  decided_moved (Some p) (Some l) store =
      chosen_under (moved_answer f) (is_before (key p) (key l)) (Faulted p.path (blame_of p.blame)) (Faulted l.path limit_blame) _ _
      (fault_moved p.path p.blame) refl

  marks_moved : (limit : ℕ) (ns : List ℕ) (ms : List Mark) → answer_of limit ns (map (moved_mark f) ms) ≡ moved_answer f (answer_of limit ns ms)
  marks_moved limit ns ms =
      let ps = parts_by_key ms in
      ap (λ l. decided (first_fault (by_key l)) (limit_place limit (by_key l)) (after (map (moved_mark f) ms) (zeros ns))) (parts_moved ms)
      ∙ ap (λ l. decided (first_fault l) (limit_place limit l) (after (map (moved_mark f) ms) (zeros ns))) (by_key_moved (parts ms))
      ∙ ap (λ x. decided x (limit_place limit (map moved_part ps)) (after (map (moved_mark f) ms) (zeros ns))) (first_fault_moved ps)
      ∙ ap (λ x. decided (moved_place (first_fault ps)) x (after (map (moved_mark f) ms) (zeros ns))) (limit_place_moved limit ps)
      ∙ ap (decided (moved_place (first_fault ps)) (moved_place (limit_place limit ps))) (after_moved f ms (zeros ns))
      ∙ decided_moved (first_fault ps) (limit_place limit ps) (after ms (zeros ns))

  -- what the moved course answers
  course_answer_moved : (turns : ℕ → List Path) (spec : Specification) (c : Course) (ns : List ℕ) (limit : ℕ)
      → answer_of limit ns (course_run turns spec (moved_course f c) ns).marks ≡ moved_answer f (answer_of limit ns (course_run turns spec c ns).marks)
  course_answer_moved turns spec c ns limit =
      ap (λ (r : Ran). answer_of limit ns r.marks) (course_run_moved f turns spec c ns) ∙ marks_moved limit ns (course_run turns spec c ns).marks

  -- where a program's course, moved, is that of a source with as many cells, so is its answer
  pub answers_follow : (p : AbstractProgram) (q : SourceProgram) → sizes p.items ≡ sizes q.items → (numbers : List ℤ) (limit : ℕ)
      → moved_course f (root_course p numbers limit) ≡ source_course q numbers limit → (turns : ℕ → List Path)
      → moved_answer f (answer p numbers limit turns) ≡ source_answer q numbers limit turns
  answers_follow p q s numbers limit h turns =
      let by : List ℕ → Course → Answer = λ ns c. answer_of limit ns (course_run turns (replicate (length ns) both_rights) c ns).marks in
      sym (course_answer_moved turns (replicate (length (sizes p.items)) both_rights) (root_course p numbers limit) (sizes p.items) limit)
      ∙ ap (by (sizes p.items)) h ∙ ap (λ ns. by ns (source_course q numbers limit)) s
