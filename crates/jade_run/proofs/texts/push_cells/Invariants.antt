use Rattle.std.proofs.Common.{◌≡◌, ◌++◌, take}
use Rattle.jade_run.specs.Texts.{cells_text}
use Rattle.jade_run.proofs.texts.push_cells.Given as goal

abbrev pub invariant-loop-i : goal.invariant-loop-i
invariant-loop-i l = l.text.items ≡ l.fn.text.items ++ cells_text (take l.i l.cells)
