use Rattle.std.proofs.Common.{◌≡◌, take}
use Rattle.jade_syntax.specs.Objects.{labels}
use Rattle.jade_run.specs.Texts.{objects_text}
use Rattle.jade_run.proofs.texts.objects.Given as goal

abbrev pub invariant-loop-i : goal.invariant-loop-i
invariant-loop-i l = l.text.items ≡ objects_text (take l.i (labels l.checked.program.items)) (take l.i l.cells)
