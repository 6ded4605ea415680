use Rattle.std.proofs.Common.{◌-◌, length, [], ◌∷◌}
use Rattle.std.specs.List.{flat_map}
use Rattle.jade_parser.specs.Spelled.{sign_part}
use Rattle.jade_parser.specs.steps.Machine.{Need}
use Rattle.jade_parser.specs.steps.Reads.{Whole}
use Rattle.jade_parser.proofs.expressions.signs.Given as goal

abbrev pub invariant-loop-op : goal.invariant-loop-op
invariant-loop-op l = Whole l.tokens l.fn.start (Need ∷ []) l.at (Need ∷ []) (flat_map sign_part l.all)

abbrev pub decreases-loop-op : goal.decreases-loop-op
decreases-loop-op l = length l.tokens - l.at
