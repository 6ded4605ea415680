use Rattle.std.proofs.Common.{take}
use Rattle.std.specs.List.{flat_map}
use Rattle.jade_types.specs.steps.Bodies.{Puts, names_in}
use Rattle.jade_types.proofs.Putting.{mentioned}
use Rattle.jade_types.proofs.numbers.statements.number_names.Given as goal

abbrev pub invariant-loop-i : goal.invariant-loop-i
invariant-loop-i l = Puts l.initial.stands l.stands (flat_map (mentioned (names_in l.body)) (take l.i l.names))
