use Rattle.jade_syntax.proofs.Limits.{Left}
use Rattle.jade_syntax.proofs.objects.place_of.Given as goal

abbrev pub invariant-loop-i : goal.invariant-loop-i
invariant-loop-i l = Left l.items l.object l.i l.left
