use Rattle.std.proofs.Common.{◌-◌, ◌+◌, ◌*◌, ◌++◌, [], ◌∷◌, length}
use Rattle.std.specs.List.{flat_map}
use Rattle.jade_parser.specs.Spelled.{and_parts, compare_parts, product_parts, unary_parts, or_part, and_part, sum_part, product_part}
use Rattle.jade_parser.specs.steps.Machine.{Rest, expr_in, and_in, sum_in, product_in}
use Rattle.jade_parser.specs.steps.Reads.{Whole}
use Rattle.jade_parser.proofs.expressions.+expr.Given as goal

abbrev pub decreases-parse_expr : goal.decreases-parse_expr
decreases-parse_expr l = 20 * (length l.tokens.now - l.start) + 9

abbrev pub decreases-parse_and : goal.decreases-parse_and
decreases-parse_and l = 20 * (length l.tokens.now - l.start) + 8

abbrev pub decreases-parse_compare : goal.decreases-parse_compare
decreases-parse_compare l = 20 * (length l.tokens.now - l.start) + 7

abbrev pub decreases-parse_sum : goal.decreases-parse_sum
decreases-parse_sum l = 20 * (length l.tokens.now - l.start) + 6

abbrev pub decreases-parse_product : goal.decreases-parse_product
decreases-parse_product l = 20 * (length l.tokens.now - l.start) + 5

abbrev pub decreases-parse_unary : goal.decreases-parse_unary
decreases-parse_unary l = 20 * (length l.tokens.now - l.start) + 4

abbrev pub decreases-parse_atom : goal.decreases-parse_atom
decreases-parse_atom l = 20 * (length l.tokens.now - l.start) + 3

abbrev pub decreases-parse_named : goal.decreases-parse_named
decreases-parse_named l = 20 * (length l.tokens.now - l.start) + 2

abbrev pub decreases-parse_cell : goal.decreases-parse_cell
decreases-parse_cell l = 20 * (length l.tokens.now - l.start) + 1

abbrev pub decreases-parse_fixed : goal.decreases-parse_fixed
decreases-parse_fixed l = 20 * (length l.tokens.now - l.start) + 1

abbrev pub decreases-parse_closed : goal.decreases-parse_closed
decreases-parse_closed l = 20 * (length l.tokens.now - l.start) + 15

abbrev pub invariant-parse_expr-chain : goal.invariant-parse_expr-chain
invariant-parse_expr-chain l = Whole l.tokens l.fn.start expr_in l.at (Rest 5 ∷ []) (and_parts l.first ++ flat_map or_part l.rest)

abbrev pub decreases-parse_expr-chain : goal.decreases-parse_expr-chain
decreases-parse_expr-chain l = length l.tokens - l.at

abbrev pub invariant-parse_and-chain : goal.invariant-parse_and-chain
invariant-parse_and-chain l = Whole l.tokens l.fn.start and_in l.at (Rest 4 ∷ []) (compare_parts l.first ++ flat_map and_part l.rest)

abbrev pub decreases-parse_and-chain : goal.decreases-parse_and-chain
decreases-parse_and-chain l = length l.tokens - l.at

abbrev pub invariant-parse_sum-chain : goal.invariant-parse_sum-chain
invariant-parse_sum-chain l = Whole l.tokens l.fn.start sum_in l.at (Rest 2 ∷ []) (product_parts l.first ++ flat_map sum_part l.rest)

abbrev pub decreases-parse_sum-chain : goal.decreases-parse_sum-chain
decreases-parse_sum-chain l = length l.tokens - l.at

abbrev pub invariant-parse_product-chain : goal.invariant-parse_product-chain
invariant-parse_product-chain l = Whole l.tokens l.fn.start product_in l.at (Rest 1 ∷ []) (unary_parts l.first ++ flat_map product_part l.rest)

abbrev pub decreases-parse_product-chain : goal.decreases-parse_product-chain
decreases-parse_product-chain l = length l.tokens - l.at
