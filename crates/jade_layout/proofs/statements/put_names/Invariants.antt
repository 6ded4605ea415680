use Rattle.std.proofs.Common.{take}
use Rattle.jade_layout.specs.Printed.{Adds}
use Rattle.jade_layout.specs.Spelling.{name_tokens}
use Rattle.jade_layout.proofs.statements.put_names.Given as goal

abbrev pub invariant-loop-i : goal.invariant-loop-i
invariant-loop-i l = Adds l.fn.printer l.printer (name_tokens (take l.i l.names))
