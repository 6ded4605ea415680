-- With no live task the report is the meaning's by the turn lists in the objects; and no core is stuck.
use Rattle.std.proofs.Common.{◌≡◌, ℕ, zero, suc, List, [], ◌∷◌, length, map, refl, sym, ap, ◌∙◌, subst, arith, ◌+◌}
use Rattle.std.specs.Prelude.{ℤ}
use Rattle.std.specs.List.{filter_map}
use Rattle.std.proofs.Math.Path.{fun_ext}
use Rattle.jade_base.specs.declared.report.FaultNote.{FaultNote}
use Rattle.jade_base.specs.declared.report.PartStep.{PartStep}
use Rattle.jade_base.specs.declared.report.Report.{Report}
use Rattle.jade_syntax.specs.declared.tree.Program.{Program}
use Rattle.jade_syntax.specs.Abstract.{AbstractProgram}
use Rattle.jade_syntax.specs.Image.{program}
use Rattle.jade_syntax.specs.Objects.{sizes}
use Rattle.jade_meaning.specs.Specification.{numbers}
use Rattle.jade_meaning.specs.Course.{root_spec, root_course}
use Rattle.jade_meaning.specs.Serial.{Path, Store, Mark, after, zeros, at_object, marks_at}
use Rattle.jade_meaning.specs.Answer.{parts_by_key}
use Rattle.jade_meaning.specs.Turns.{turns_on, marks_by, Full}
use Rattle.jade_meaning.specs.Report.{report, fault_notes, turn_lists}
use Rattle.jade_meaning.specs.Proper.{Proper}
use Rattle.object_shelf.specs.Views.{ObjectView}
use Rattle.schedule_core.specs.Going.{SoundSo}
use Rattle.schedule_core.specs.Unplaced.{State}
use Rattle.schedule_core.specs.Shown.{shelf_at}
use Rattle.schedule_core.specs.Notes.{note_of, step_note, fault_note, told}
use Rattle.schedule_core.specs.Soundness.{turns_of, ReportsAreSerial}
use Rattle.task_roll.specs.declared.note.PartNote.{PartNote}
use Rattle.schedule_core.proofs.Whole.{end_deeds, end_full, end_after}
use Rattle.schedule_core.proofs.Keyed.{same_parts, notes_by_key}
use Rattle.schedule_core.proofs.Mirrors.{Kept, kept, sound_of, seated_nil, contents_are, length_after, length_zeros, steps_told, faults_told}

pub turns_at : (ss : List ObjectView) (o : ℕ) → turns_of ss o ≡ (shelf_at ss o).turns
turns_at [] o = refl
turns_at (s ∷ ss) zero = refl
turns_at (s ∷ ss) (suc o) = turns_at ss o

-- lists one by one
lists_are : (ss : List ObjectView) (f : ℕ → List Path) (a : ℕ) → ((i : ℕ) → (shelf_at ss i).turns ≡ f (a + i)) → map (λ s. s.turns) ss ≡ map f (numbers a (length ss))
lists_are [] f a h = refl
lists_are (s ∷ ss) f a h =
    let z : a + 0 ≡ a = omega arith in
    ap (λ x. x ∷ map (λ s. s.turns) ss) (h 0 ∙ ap f z)
    ∙ ap (λ xs. f a ∷ xs) (lists_are ss f (suc a) (λ i. let e : a + suc i ≡ suc a + i = omega arith in h (suc i) ∙ ap f e))

module _ (proper : (p : AbstractProgram) (ns : List ℤ) (limit : ℕ) → Proper (root_spec p) (root_course p ns limit)) (p : Program) (ns : List ℤ) (limit : ℕ) where
  module _ (k : ℕ) (ss : List ObjectView) (notes : List PartNote) (x : Kept p ns limit k [] ss notes) where
    abbrev st : State
    st = x.state

    over : st.roll ≡ []
    over = seated_nil st.roll x.shown.seated

    sound : SoundSo (program p) ns limit st
    sound = sound_of proper p ns limit st x.reached

    abbrev T : ℕ → List Path
    T = turns_of ss

    abbrev L : ℕ → List Path
    L o = turns_on o st.log

    same_at : (o : ℕ) → L o ≡ T o
    same_at o = sym (ap (λ s. s.turns) (x.shown.shelves o)) ∙ sym (turns_at ss o)

    lists : L ≡ T
    lists = fun_ext same_at

    full_so : Full (program p) ns limit T
    full_so = subst (λ z. Full (program p) ns limit z) lists (end_full (program p) ns limit st over sound)

    abbrev run : List Mark
    run = marks_by (program p) ns limit T

    abbrev zero_store : Store
    zero_store = zeros (sizes p.items)

    deeds : (q : Path) → marks_at q run ≡ marks_at q st.log
    deeds q = subst (λ z. marks_at q (marks_by (program p) ns limit z) ≡ marks_at q st.log) lists (end_deeds (program p) ns limit st over sound q)

    objects : map (λ s. s.content) ss ≡ after run zero_store
    objects =
        contents_are ss (after run zero_store) (x.shelves ∙ sym (length_after run zero_store ∙ length_zeros (sizes p.items)))
        (λ o. ap (λ s. s.content) (x.shown.shelves o)
        ∙ subst (λ z. st.contents o ≡ at_object (after (marks_by (program p) ns limit z) zero_store) o) lists (end_after (program p) ns limit st over sound o))

    noted : notes ≡ map note_of (parts_by_key run)
    noted = x.filed_so ∙ notes_by_key st.log ∙ ap (map note_of) (sym (same_parts run st.log deeds))

    turns : map (λ s. s.turns) ss ≡ turn_lists (length (sizes p.items)) run
    turns =
        lists_are ss (λ o. turns_on o run) 0 (λ i. let z : 0 + i ≡ i = omega arith in sym (turns_at ss i) ∙ sym (full_so.same i) ∙ ap (λ j. turns_on j run) (sym z))
        ∙ ap (λ n. map (λ o. turns_on o run) (numbers 0 n)) x.shelves

    reports_so : told ss notes ≡ report (program p) ns limit T
    reports_so =
        let made : Store → List FaultNote → List (List Path) → List PartStep → Report = λ a f t s. record { objects = a; faults = f; turns = t; steps = s } in
        ap (λ z. made z (filter_map fault_note notes) (map (λ s. s.turns) ss) (map step_note notes)) objects
        ∙ ap (λ z. made (after run zero_store) (filter_map fault_note z) (map (λ s. s.turns) ss) (map step_note z)) noted
        ∙ ap (λ z. made (after run zero_store) z (map (λ s. s.turns) ss) (map step_note (map note_of (parts_by_key run)))) (faults_told (parts_by_key run))
        ∙ ap (λ z. made (after run zero_store) (fault_notes (parts_by_key run)) z (map step_note (map note_of (parts_by_key run)))) turns
        ∙ ap (λ z. made (after run zero_store) (fault_notes (parts_by_key run)) (turn_lists (length (sizes p.items)) run) z) (steps_told (parts_by_key run))

  pub reports_are_serial : ReportsAreSerial p ns limit
  reports_are_serial = record { full = λ k ss notes r. full_so k ss notes (kept proper p ns limit k [] ss notes r); reports = λ k ss notes r. reports_so k ss notes (kept proper p ns limit k [] ss notes r) }
