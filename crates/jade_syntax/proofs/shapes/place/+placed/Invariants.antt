use Rattle.std.proofs.Common.{◌≡◌, drop}
use Rattle.std.specs.List.{list_all}
use Rattle.jade_syntax.specs.Shapes.{is_placed}
use Rattle.jade_syntax.proofs.shapes.place.+placed.Given as goal

abbrev pub invariant-are_placed-loop-i : goal.invariant-are_placed-loop-i
invariant-are_placed-loop-i l = list_all (is_placed l.place) (drop l.i l.block) ≡ list_all (is_placed l.place) l.block
