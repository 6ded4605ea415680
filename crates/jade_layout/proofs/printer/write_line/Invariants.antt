use Rattle.std.proofs.Common.{◌≡◌, ◌∷◌, ◌++◌}
use Rattle.jade_layout.specs.Layout.{indent}
use Rattle.jade_layout.proofs.printer.write_line.Given as goal

abbrev pub invariant-loop-i : goal.invariant-loop-i
invariant-loop-i l = l.text.items ≡ l.fn.text.items ++ 10 ∷ indent l.i
