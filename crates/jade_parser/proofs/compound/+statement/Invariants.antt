use Rattle.std.proofs.Common.{◌-◌, ◌+◌, ◌*◌, ◌++◌, [], ◌∷◌, length}
use Rattle.std.specs.List.{flat_map}
use Rattle.jade_parser.specs.Spelled.{fixed}
use Rattle.jade_parser.specs.Statements.{statement_parts}
use Rattle.jade_parser.specs.steps.Machine.{Body}
use Rattle.jade_parser.specs.declared.Sign.TheVariants.{LeftBrace}
use Rattle.jade_parser.specs.Programs.{FitsAll}
use Rattle.jade_parser.specs.steps.Compound.{block_in}
use Rattle.jade_parser.specs.steps.Forms.{Came}
use Rattle.jade_parser.proofs.compound.+statement.Given as goal

abbrev pub decreases-parse_block : goal.decreases-parse_block
decreases-parse_block l = 10 * (length l.tokens.now - l.start) + 3

abbrev pub decreases-parse_statement : goal.decreases-parse_statement
decreases-parse_statement l = 10 * (length l.tokens.now - l.start) + 2

abbrev pub decreases-parse_if : goal.decreases-parse_if
decreases-parse_if l = 10 * (length l.tokens.now - l.start) + 1

abbrev pub decreases-parse_for : goal.decreases-parse_for
decreases-parse_for l = 10 * (length l.tokens.now - l.start) + 1

abbrev pub decreases-parse_withonly : goal.decreases-parse_withonly
decreases-parse_withonly l = 10 * (length l.tokens.now - l.start) + 1

abbrev pub decreases-parse_with : goal.decreases-parse_with
decreases-parse_with l = 10 * (length l.tokens.now - l.start) + 1

abbrev pub invariant-parse_block-statements : goal.invariant-parse_block-statements
invariant-parse_block-statements l =
    Came l.tokens l.fn.start (block_in l.place) l.at (Body l.place ∷ []) (fixed LeftBrace ∷ [] ++ flat_map statement_parts l.all) × FitsAll l.place l.all

abbrev pub decreases-parse_block-statements : goal.decreases-parse_block-statements
decreases-parse_block-statements l = length l.tokens - l.at
