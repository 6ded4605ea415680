use Rattle.std.proofs.Common.{sym, ap, ◌∙◌, ◌++◌, [], ◌∷◌, arith}
use Rattle.task_machine.specs.steps.Holding.{contents_of}
use Rattle.serial_machine.proofs.Cells.{cells_pushed, one_taken}
use Rattle.serial_machine.proofs.answer.cells_of.Goals as goal

pub objects-preserved : goal.objects-preserved
objects-preserved c =
    let k = contents_of c.args.all in
    let i = c.objects.object in
    let here = sym (c.objects.invariant.rest i (omega arith)) ∙ sym c.take.ensures.taken ∙ c.in-Some.is in
    record {
      taken = cells_pushed i k c.objects.lists.items c.push.new.self.items c.in-Some.content c.objects.invariant.taken here
          (c.in_ok-push-in-Some.ensures.items ∙ ap (λ x. c.objects.lists.items ++ x ∷ []) c.into_cells.ensures);
      rest = one_taken i k (contents_of c.objects.held) (contents_of c.take.new.self) c.take.ensures.left c.objects.invariant.rest;
      within = omega (arith, c.objects-test.true);
    }
