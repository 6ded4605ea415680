use Rattle.std.proofs.Common.{ap, ◌∙◌, ◌++◌, ◌∷◌, []}
use Rattle.object_table.specs.Tallies.{opened}
use Rattle.object_table.specs.declared.slot.Slot.TheVariants as slot
use Rattle.object_table.proofs.table.first_slots.Goals as goal

pub returns : goal.returns
returns c = record {
  is = c.in_ok-push.ensures.items ∙ ap (λ r. c.in_ok-slots.slots.items ++ slot.Roll r ∷ []) c.start-tally.ensures
      ∙ ap (λ xs. xs ++ slot.Roll opened ∷ []) c.in_ok-slots.ensures;
}
