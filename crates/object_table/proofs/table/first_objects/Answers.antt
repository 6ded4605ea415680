use Rattle.std.proofs.Common.{◌≡◌, suc, ◌+◌, ◌∙◌, ap, sym, take, ◌++◌, ◌∷◌, [], arith}
use Rattle.jade_base.specs.Rights.{both_rights}
use Rattle.jade_syntax.specs.Objects.{sizes}
use Rattle.object_shelf.specs.Homes.{started}
use Rattle.object_table.specs.declared.slot.Slot.TheVariants as slot
use Rattle.object_table.specs.steps.Kept.{start_slots}
use Rattle.object_table.proofs.Starts.{slots_more}
use Rattle.object_table.proofs.table.first_objects.Goals as goal

pub loop-object-preserved : goal.loop-object-preserved
loop-object-preserved c =
    let ns = sizes c.args.plan.now.program.items in
    let o = c.loop-object.object in
    let n = c.size-size.result in
    let one : suc o ≡ o + 1 = omega arith in
    c.in_ok-push.ensures.items ∙ ap (λ s. c.loop-object.slots.items ++ slot.Object s ∷ []) (c.in_ok-shelf.ensures
    ∙ ap (λ p. started p both_rights n) c.requires)
    ∙ ap (λ xs. xs ++ slot.Object (started (0 ∷ []) both_rights n) ∷ []) c.loop-object.invariant ∙ sym (slots_more ns o n c.size-size.ensures)
    ∙ ap (λ k. start_slots (take k ns)) one
