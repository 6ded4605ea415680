use Rattle.std.proofs.Common.{take}
use Rattle.std.specs.List.{flat_map}
use Rattle.jade_layout.specs.Printed.{Adds}
use Rattle.jade_layout.specs.Spelling.{item_tokens}
use Rattle.jade_layout.proofs.statements.put_program.Given as goal

abbrev pub invariant-loop-i : goal.invariant-loop-i
invariant-loop-i l = Adds l.initial.printer l.printer (flat_map item_tokens (take l.i l.program.items))
