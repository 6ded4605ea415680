use Rattle.std.proofs.Common.{arith, ◌≡◌, ◌+◌, ◌-◌, [], ◌∷◌, length, None, sym, ◌∙◌, append-nil}
use Rattle.std.proofs.lemmas.Grind.{common_steps}
use Rattle.task_roll.specs.declared.note.PartNote.{PartNote}
use Rattle.part_notes.specs.Notes.{in_chunk}
use Rattle.part_notes.proofs.Packing.{set_last}
use Rattle.part_notes.proofs.notes.put_last.Goals as goal

pub returns-in-Some-clause-put : goal.returns-in-Some-clause-put
returns-in-Some-clause-put c = λ done. sym (append-nil _) ∙ set_last (λ v. in_chunk v) c.args.chunks.now (length c.args.chunks.now - 1)
    c.in-Some.last.now c.put.new.chunk [] (note ∷ []) there c.in-Some.ensures.value (append-nil _ ∙ c.put.ensures.put done)
  where
    note : PartNote
    note = record { path = c.args.path.now; children = c.args.children; steps = c.args.steps; blame = None }

    there : length c.args.chunks.now - 1 + 1 ≡ length c.args.chunks.now
    there = grind (arith, common_steps, c.back_mut.ensures.variant)

pub returns-in-Some-clause-unchanged : goal.returns-in-Some-clause-unchanged
returns-in-Some-clause-unchanged c = λ none. sym (append-nil _) ∙ set_last (λ v. in_chunk v) c.args.chunks.now (length c.args.chunks.now - 1)
    c.in-Some.last.now c.put.new.chunk [] [] there c.in-Some.ensures.value (append-nil _ ∙ c.put.ensures.unchanged none ∙ sym (append-nil _)) ∙ append-nil _
  where
    there : length c.args.chunks.now - 1 + 1 ≡ length c.args.chunks.now
    there = grind (arith, common_steps, c.back_mut.ensures.variant)
