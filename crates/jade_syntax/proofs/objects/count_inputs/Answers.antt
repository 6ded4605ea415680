use Rattle.std.proofs.Common.{length, arith}
use Rattle.jade_syntax.specs.Objects.{input_names}
use Rattle.jade_syntax.proofs.Limits.{inputs_step, limits}
use Rattle.jade_syntax.proofs.objects.count_inputs.Goals as goal

pub overflow_add-count : goal.overflow_add-count
overflow_add-count c =
    let e = inputs_step c.args.items.now c.loop-i.i c.loop-i.count (length (input_names c.args.items.now)) _ c.at.ensures c.loop-i.invariant in
    omega (arith, e, (limits c.args.items.now c.requires).inputs, c.inputs_of-count.ensures)

pub loop-i-preserved : goal.loop-i-preserved
loop-i-preserved c = rw c.inputs_of-count.ensures
    (inputs_step c.args.items.now c.loop-i.i c.loop-i.count (length (input_names c.args.items.now)) _ c.at.ensures c.loop-i.invariant)
