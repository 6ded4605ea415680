use Rattle.task_codegen.proofs.Sizing.{Sizing}
use Rattle.task_codegen.proofs.slots.size.Given as goal

abbrev pub invariant-bodies : goal.invariant-bodies
invariant-bodies l = Sizing l.inputs l.initial.bodies.items l.bodies.items l.at
