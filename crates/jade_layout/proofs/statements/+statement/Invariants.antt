use Rattle.std.proofs.Common.{take}
use Rattle.std.specs.List.{flat_map}
use Rattle.jade_layout.specs.Printed.{Adds}
use Rattle.jade_layout.specs.Spelling.{statement_tokens}
use Rattle.jade_layout.proofs.statements.+statement.Given as goal

abbrev pub invariant-put_block-loop-i : goal.invariant-put_block-loop-i
invariant-put_block-loop-i l = Adds l.initial.printer l.printer (flat_map statement_tokens (take l.i l.block))
