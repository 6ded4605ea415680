use Rattle.std.proofs.Common.{take}
use Rattle.jade_syntax.specs.Shapes.{nothing, name_extent}
use Rattle.jade_syntax.specs.declared.tree.Named.{Named}
use Rattle.jade_syntax.proofs.Measuring.{Chained}
use Rattle.jade_syntax.proofs.shapes.measure.names_extent.Given as goal

abbrev pub invariant-loop-i : goal.invariant-loop-i
invariant-loop-i l = Chained (λ (n : Named). name_extent n.name) nothing (take l.i l.names) l.total
