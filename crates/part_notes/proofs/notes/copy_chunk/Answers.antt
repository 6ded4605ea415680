use Rattle.std.proofs.Common.{arith, ◌≡◌, ◌+◌, ◌-◌, [], length, sym, ◌∙◌, append-nil}
use Rattle.std.proofs.lemmas.Grind.{common_steps}
use Rattle.part_notes.specs.Notes.{in_chunk}
use Rattle.part_notes.proofs.Packing.{set_last}
use Rattle.part_notes.proofs.notes.copy_chunk.Goals as goal

pub returns-in-Some-clause-copied : goal.returns-in-Some-clause-copied
returns-in-Some-clause-copied c = λ done. sym (append-nil _) ∙ set_last (λ v. in_chunk v) c.args.chunks.now (length c.args.chunks.now - 1)
    c.in-Some.last.now c.put_all.new.chunk [] (in_chunk c.args.chunk.now) there c.in-Some.ensures.value (append-nil _ ∙ c.put_all.ensures.put done)
  where
    there : length c.args.chunks.now - 1 + 1 ≡ length c.args.chunks.now
    there = grind (arith, common_steps, c.back_mut.ensures.variant)

pub returns-in-Some-clause-unchanged : goal.returns-in-Some-clause-unchanged
returns-in-Some-clause-unchanged c = λ none. sym (append-nil _) ∙ set_last (λ v. in_chunk v) c.args.chunks.now (length c.args.chunks.now - 1)
    c.in-Some.last.now c.put_all.new.chunk [] [] there c.in-Some.ensures.value (append-nil _ ∙ c.put_all.ensures.unchanged none ∙ sym (append-nil _)) ∙ append-nil _
  where
    there : length c.args.chunks.now - 1 + 1 ≡ length c.args.chunks.now
    there = grind (arith, common_steps, c.back_mut.ensures.variant)
