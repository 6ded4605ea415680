use Rattle.std.proofs.Common.{◌-◌, ◌<◌, [], ◌∷◌, length}
use Rattle.jade_parser.specs.Statements.{name_parts}
use Rattle.jade_parser.specs.steps.Machine.{Names, MoreNames}
use Rattle.jade_parser.specs.steps.Forms.{Came}
use Rattle.jade_parser.proofs.pieces.parse_names.Given as goal

abbrev pub invariant-names : goal.invariant-names
invariant-names l = Came l.tokens l.fn.start (Names ∷ []) l.at (MoreNames ∷ []) (name_parts l.all) × (0 < length l.all)

abbrev pub decreases-names : goal.decreases-names
decreases-names l = length l.tokens - l.at
