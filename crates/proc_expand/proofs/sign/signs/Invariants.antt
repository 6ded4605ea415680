use Rattle.std.proofs.Common.{◌≡◌, take}
use Rattle.proc_expand.specs.Words.{signs}
use Rattle.proc_expand.proofs.sign.signs.Given as goal

abbrev pub invariant-loop-place : goal.invariant-loop-place
invariant-loop-place l = l.found.items ≡ signs (take l.place l.tokens.lexemes)
