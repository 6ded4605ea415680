use Rattle.std.proofs.Common.{◌-◌, length, [], ◌∷◌}
use Rattle.std.specs.List.{flat_map}
use Rattle.jade_parser.specs.Programs.{item_parts}
use Rattle.jade_parser.specs.steps.Machine.{Items}
use Rattle.jade_parser.specs.steps.Reads.{Whole}
use Rattle.jade_parser.proofs.items.parse_items.Given as goal

abbrev pub invariant-items : goal.invariant-items
invariant-items l = Whole l.tokens 0 (Items ∷ []) l.at (Items ∷ []) (flat_map item_parts l.all)

abbrev pub decreases-items : goal.decreases-items
decreases-items l = length l.tokens - l.at
