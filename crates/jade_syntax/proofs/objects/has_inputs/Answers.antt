use Rattle.std.proofs.Common.{◌+◌, ◌<◌, drop, length, arith}
use Rattle.std.proofs.lemmas.Bool.Decides.{nat_tests}
use Rattle.jade_syntax.specs.Objects.{input_names}
use Rattle.jade_syntax.proofs.Counting.{one_less, too_many, inputs_counted}
use Rattle.jade_syntax.proofs.objects.has_inputs.Goals as goal

pub returns-then-inputs-left : goal.returns-then-inputs-left
returns-then-inputs-left c =
    let items = c.args.items.now in
    let less : c.args.count < length (input_names items) =
    too_many (λ xs. length (input_names xs)) items c.args.count c.loop-i.left c.loop-i.i c.inputs_of-inputs.result c.at.result.now c.at.ensures
    (inputs_counted c.at.result.now c.inputs_of-inputs.result c.inputs_of-inputs.ensures (drop (c.loop-i.i + 1) items)) c.loop-i.invariant
    c.if-inputs-left.true in
    grind (arith, nat_tests, less)

pub loop-i-preserved : goal.loop-i-preserved
loop-i-preserved c =
    let items = c.args.items.now in
    one_less (λ xs. length (input_names xs)) items c.args.count c.loop-i.left c.loop-i.i c.inputs_of-inputs.result c.at.result.now c.at.ensures
    (inputs_counted c.at.result.now c.inputs_of-inputs.result c.inputs_of-inputs.ensures (drop (c.loop-i.i + 1) items)) c.loop-i.invariant
    c.if-inputs-left.false
