use Rattle.std.proofs.Common.{take}
use Rattle.jade_parser.specs.steps.Reads.{IsSeen}
use Rattle.jade_parser.proofs.kinds.classified.Given as goal

abbrev pub invariant-loop-place : goal.invariant-loop-place
invariant-loop-place l = IsSeen (take l.place l.tokens.lexemes) l.all.items
