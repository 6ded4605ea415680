use Rattle.std.proofs.Common.{◌<◌, ap, ◌∙◌, length, arith}
use Rattle.task_translation.specs.Room.{calls_of, with_slots}
use Rattle.task_codegen.proofs.Sizing.{one_sized}
use Rattle.task_codegen.proofs.slots.size.Goals as goal

pub bodies-preserved : goal.bodies-preserved
bodies-preserved c =
    let before = c.args.bodies.now.items in
    let b = c.index.result.now in
    let lt : c.bodies.at < length before = omega (arith, c.bodies-test.true, c.len-at-end.ensures, c.args.bodies.now.ok.0) in
    let slots = c.in_ok-slots.ensures ∙ ap (λ l. (with_slots c.args.inputs (calls_of l) b).slots) c.as_slice.ensures.value in
    one_sized c.args.inputs before c.bodies.bodies.items _ c.bodies.at c.in_ok-slots.slots b lt c.bodies.invariant c.index.ensures slots c.set_slots.ensures
