use Rattle.std.proofs.Common.{◌≡◌, drop}
use Rattle.jade_syntax.specs.Image.{block}
use Rattle.jade_meaning.specs.Uncommuting.{any_cm}
use Rattle.jade_meaning.proofs.commuting.+cm.Given as goal

abbrev pub invariant-any_cm-loop-i : goal.invariant-any_cm-loop-i
invariant-any_cm-loop-i l = any_cm (block l.statements) ≡ any_cm (block (drop l.i l.statements))
