use Rattle.std.proofs.Common.{◌≡◌, None}
use Rattle.proc_expand.specs.Words.{first}
use Rattle.proc_expand.specs.Refusals.{is_unknown}
use Rattle.proc_expand.proofs.called.first_unknown.Given as goal

abbrev pub invariant-loop-place : goal.invariant-loop-place
invariant-loop-place l = first l.place (is_unknown l.tokens.lexemes) ≡ None
