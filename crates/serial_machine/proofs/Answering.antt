-- What a run comes to is the answer of its program.
use Rattle.std.proofs.Common.{◌≡◌, ℕ, List, [], map, length, Some, sym, ap, ◌∙◌, subst}
use Rattle.std.specs.Prelude.{ℤ, pos, slice_get, replicate}
use Rattle.std.proofs.lemmas.Option.{slice_get-get_or}
use Rattle.jade_base.specs.declared.report.Blame.{Blame}
use Rattle.jade_base.specs.Rights.{both_rights}
use Rattle.jade_syntax.specs.Abstract.{AbstractProgram}
use Rattle.jade_syntax.specs.Objects.{sizes}
use Rattle.jade_meaning.specs.Course.{NoDraft, root_spec, root_course}
use Rattle.jade_meaning.specs.Serial.{Path, Store, after, zeros}
use Rattle.jade_meaning.specs.Answer.{Faulted, Cells, Run, Stopped, Through, run_answer, stopping_run, answer, StopsInOrder}
use Rattle.jade_meaning.specs.Turns.{in_order}
use Rattle.code_meaning.specs.Meaning.{Body, given_slots, passed, from_place}
use Rattle.task_code.specs.Rules.{TaskCode, Valid}
use Rattle.task_translation.specs.Compile.{inputs_in}
use Rattle.task_translation.specs.Correct.{Follows}
use Rattle.code_keeps.specs.Keeps.{whole_code}
use Rattle.task_machine.specs.Playing.{Contents}
use Rattle.task_machine.specs.Whole.{all_held}
use Rattle.task_machine.specs.Executions.{body_at}
use Rattle.task_machine.specs.Stages.{slots_of}
use Rattle.task_machine.specs.steps.Owning.{rights_of, draft_of}
use Rattle.task_machine.proofs.Executing.{first_there, no_call}
use Rattle.serial_machine.specs.declared.level.Level.{Level}
use Rattle.serial_machine.specs.declared.stack.Stack.{Stack}
use Rattle.serial_machine.specs.steps.Settles.{Ending, Fault, Whole, ending}
use Rattle.code_meaning.specs.Children.{children_of}
use Rattle.serial_machine.specs.steps.Stack.{following, at_end, comes_to}
use Rattle.serial_machine.specs.steps.Levels.{course_with, waits, total, Begins, Fits, Ready}
use Rattle.jade_meaning.specs.Laws.{Every}
use Rattle.serial_machine.specs.steps.Cells.{cells_held}
use Rattle.serial_machine.proofs.Settling.{answers_as}
use Rattle.serial_machine.proofs.Stacking.{comes_alone}
use Rattle.code_meaning.proofs.Numbered.{root_is}
use Rattle.serial_machine.proofs.Cells.{all_cells, store_held, long_after, long_zeros}
use Rattle.serial_machine.specs.steps.Pausing.{AllHeld}

abbrev is_fault : Ending → Type 0
is_fault (Fault p b) = Unit {0}
is_fault (Whole k) = ⊥

abbrev path_in : Ending → Path
path_in (Fault p b) = p
path_in (Whole k) = []

abbrev blame_in : Blame → Ending → Blame
blame_in d (Fault p b) = b
blame_in d (Whole k) = d

abbrev contents_in : Contents → Ending → Contents
contents_in d (Fault p b) = d
contents_in d (Whole k) = k

-- a fault is the answer
fault_tells : (r : Run) (store : Store) (q : Path) (b : Blame) → ending r store ≡ Fault q b → run_answer r store ≡ Faulted q b
fault_tells (Stopped p a ms) store q b e = ap (λ x. Faulted x a) (ap path_in e) ∙ ap (λ x. Faulted q x) (ap (blame_in b) e)
fault_tells (Through left ms) store q b e = absurd (subst is_fault (sym e) tt)

-- the cells of the objects are the answer
whole_tells : (r : Run) (store : Store) (k : Contents) (n : ℕ) → length store ≡ n → ending r store ≡ Whole k
    → AllHeld n k × (run_answer r store ≡ Cells (cells_held n k))
whole_tells (Stopped p a ms) store k n long e = absurd (subst is_fault e tt)
whole_tells (Through left ms) store k n long e =
    let is : k ≡ all_held (after ms store) = sym (ap (contents_in k) e) in
    let same = long_after ms store ∙ long in
    (store_held n (after ms store) k same is, ap Cells (sym (all_cells n k (after ms store) is same)))

module _ (p : AbstractProgram) (c : TaskCode) (zs : List ℤ) (limit : ℕ) (code_is : c ≡ whole_code p) (valid : Valid c)
    (follows : Follows c.bodies p limit) (many : length zs ≡ inputs_in p.items) (s : Stack) (none : s.waiting.items ≡ [])
    (begins : Begins c zs s.level 0 limit (given_slots zs) (replicate (length c.sizes) both_rights)) (k : Contents)
    (zero_held : k ≡ all_held (zeros (sizes p.items)))
  where
    abbrev v : Level
    v = s.level

    abbrev body : Body
    body = body_at c 0

    here : slice_get c.bodies 0 ≡ Some body
    here = slice_get-get_or c.bodies 0 (record { call = []; slots = 0; code = [] }) (first_there c valid)

    rights_is : replicate (length c.sizes) both_rights ≡ root_spec p
    rights_is = ap (λ (x : TaskCode). replicate (length x.sizes) both_rights) code_is

    -- it may run
    pub fits : Fits c zs s k
    fits = record {
      runs = begins.ready;
      wait = subst (Every (Ready c zs)) (sym none) tt;
      held = store_held (length c.sizes) (zeros (sizes p.items)) k (long_zeros (sizes p.items) ∙ ap (λ (x : TaskCode). length x.sizes) (sym code_is)) zero_held;
    }

    root : course_with c zs limit v v.frame.left ≡ root_course p zs limit
    root =
        let child = children_of zs limit c.bodies in
        ap (λ b. from_place (child b) (body_at c b).code v.frame.left v.frame.place (slots_of v.frame.slots.items) (rights_of v.own) (draft_of v.own))
        begins.body_is
        ∙ ap (λ n. from_place (child 0) body.code n v.frame.place (slots_of v.frame.slots.items) (rights_of v.own) (draft_of v.own)) begins.left_is
        ∙ ap (λ n. from_place (child 0) body.code limit n (slots_of v.frame.slots.items) (rights_of v.own) (draft_of v.own)) begins.place_is
        ∙ ap (λ ss. from_place (child 0) body.code limit 0 ss (rights_of v.own) (draft_of v.own)) begins.slots_are
        ∙ ap (λ sp. from_place (child 0) body.code limit 0 (given_slots zs) sp (draft_of v.own)) (begins.owns.rights_are ∙ rights_is)
        ∙ ap (λ d. from_place (child 0) body.code limit 0 (given_slots zs) (root_spec p) d) begins.owns.draft_is
        ∙ ap (λ os. from_place (child 0) body.code limit 0 (passed zs os (λ k. pos 0)) (root_spec p) NoDraft) (sym (no_call c valid))
        ∙ sym (root_is zs limit c.bodies body (root_spec p) here)
        ∙ follows zs many

    comes : (total c zs limit s k).comes ≡ ending (stopping_run p zs limit) (zeros (sizes p.items))
    comes =
        ap (λ vs. (comes_to (course_with c zs limit v v.frame.left) v.children v.frame.left k (following (map (waits c zs limit) vs) at_end)).comes) none
        ∙ ap (λ d. (comes_to d v.children v.frame.left k at_end).comes) root
        ∙ ap (λ n. (comes_to (root_course p zs limit) n v.frame.left k at_end).comes) begins.children_are
        ∙ ap (λ n. (comes_to (root_course p zs limit) 0 n k at_end).comes) begins.left_is
        ∙ ap (λ j. (comes_to (root_course p zs limit) 0 limit j at_end).comes) zero_held
        ∙ comes_alone (root_course p zs limit) 0 limit (all_held (zeros (sizes p.items))) at_end.bad at_end.ok
        ∙ answers_as p zs limit

    whole_is : (l : Contents) (n : ℕ) → n ≡ length (sizes p.items) → (total c zs limit s k).comes ≡ Whole l
        → AllHeld n l × (run_answer (stopping_run p zs limit) (zeros (sizes p.items)) ≡ Cells (cells_held n l))
    whole_is l n en e = whole_tells (stopping_run p zs limit) (zeros (sizes p.items)) l n (long_zeros (sizes p.items) ∙ sym en) (sym comes ∙ e)

    -- at the end all objects are held
    pub whole_holds : (l : Contents) (n : ℕ) → n ≡ length (sizes p.items) → (total c zs limit s k).comes ≡ Whole l → AllHeld n l
    whole_holds l n en e = (whole_is l n en e).0

    module _ (agrees : StopsInOrder p zs limit) where
      pub fault_answered : (q : Path) (b : Blame) → (total c zs limit s k).comes ≡ Fault q b → Faulted q b ≡ answer p zs limit in_order
      fault_answered q b e = sym (fault_tells (stopping_run p zs limit) (zeros (sizes p.items)) q b (sym comes ∙ e)) ∙ agrees.same

      pub whole_answered : (l : Contents) (n : ℕ) → n ≡ length (sizes p.items) → (total c zs limit s k).comes ≡ Whole l
          → Cells (cells_held n l) ≡ answer p zs limit in_order
      whole_answered l n en e = sym (whole_is l n en e).1 ∙ agrees.same
