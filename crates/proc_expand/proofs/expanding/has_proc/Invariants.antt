use Rattle.std.proofs.Common.{◌≡◌, false, take}
use Rattle.proc_expand.specs.Words.{has_proc}
use Rattle.proc_expand.proofs.expanding.has_proc.Given as goal

abbrev pub invariant-loop-place : goal.invariant-loop-place
invariant-loop-place l = has_proc (take l.place l.tokens.lexemes) ≡ false
