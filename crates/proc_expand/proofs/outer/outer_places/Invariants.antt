use Rattle.std.proofs.Common.{◌≡◌, not}
use Rattle.proc_expand.specs.Words.{those}
use Rattle.proc_expand.specs.Written.{in_procedure}
use Rattle.proc_expand.specs.steps.Outside.{Reaches}
use Rattle.proc_expand.proofs.outer.outer_places.Given as goal

abbrev pub invariant-loop-place : goal.invariant-loop-place
invariant-loop-place l = record {
  found : l.found.items ≡ those l.place (λ k. not (in_procedure l.tokens.lexemes l.tokens.end k));
  reach : Reaches l.tokens.lexemes l.place l.reach;
}
