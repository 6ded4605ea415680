use Rattle.jade_meaning.proofs.Inputting.{Made}
use Rattle.jade_meaning.proofs.serial.inputs.Given as goal

abbrev pub invariant-loop-left : goal.invariant-loop-left
invariant-loop-left l = Made l.items l.numbers l.left l.number l.scope

abbrev pub decreases-loop-left : goal.decreases-loop-left
decreases-loop-left l = l.left
