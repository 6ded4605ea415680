use Rattle.std.proofs.Common.{refl, ◌∷◌, [], rules}
use Rattle.jade_syntax.specs.declared.tree.AndExpr.{roll-AndExpr}
use Rattle.jade_syntax.specs.declared.tree.Expr.{roll-Expr}
use Rattle.jade_syntax.specs.declared.tree.Product.{roll-Product}
use Rattle.jade_syntax.specs.declared.tree.Sum.{roll-Sum}
use Rattle.jade_parser.specs.Spelled.{expr_parts, and_parts, compare_parts, sum_parts, product_parts}
use Rattle.jade_parser.specs.Spelled.{unary_parts, or_part, and_part, sum_part, product_part}
use Rattle.jade_parser.specs.steps.Machine.{Must, unary_in, product_in, compare_in, and_in}
use Rattle.jade_parser.proofs.Spelling.{unary_opens, expr_made, and_made, sum_made, product_made}
use Rattle.jade_parser.proofs.Reading.{whole_on, whole_under}
use mir.Val.{SFits}
use mir.Syntax.{w64}
use Rattle.std.proofs.lemmas.Int.{to_z-of_z}
use Rattle.jade_parser.proofs.Standing.{called_here, called_known, never_shape, counted_here, head_fixed}
use Rattle.jade_parser.proofs.Standing.{nothing_here, odd_here, no_sign_here, within_here}
use Rattle.jade_parser.proofs.Chains.{chain_first, chain_more, chain_kept, chain_done}
use Rattle.jade_parser.proofs.Steps.{residual, compare_first, compare_second, compare_both, unary_refused}
use Rattle.jade_parser.proofs.Steps.{closed_first, closed_second, atom_refused, whole_made, cell_first}
use Rattle.jade_parser.proofs.Steps.{cell_second, cell_both, cell_alone, truth_here, group_refused}
use Rattle.jade_parser.proofs.Steps.{group_read, named_refused}
use Rattle.jade_parser.proofs.expressions.+expr.Goals as goal

pub parse_and-returns-in_err-first : goal.parse_and-returns-in_err-first
parse_and-returns-in_err-first t c =
    residual _ _ _ _ c.from_residual.ensures.1
    (chain_first and_parts compare_parts compare_in 4 and_part (λ y ps. roll-AndExpr (record { first = y; rest = ps })) and_made _ _ _ c.requires.within
    c.in_err-first.ensures)

pub parse_and-returns-in_err-next : goal.parse_and-returns-in_err-next
parse_and-returns-in_err-next t c = residual _ _ _ _ c.from_residual-in_err-next.ensures.1 (chain_more and_parts compare_parts compare_in 4 and_part (λ y ps. roll-AndExpr (record { first = y; rest = ps })) and_made _
    _ _
    _ _ _ _ (λ y. (c.pos_at-pos.result, y)) _ (λ y. rw c.pos_at-pos.ensures refl) c.chain.invariant (c.and_op.ensures.yes c.chain-test.true)
    c.in_err-next.ensures)

pub parse_and-chain-preserved : goal.parse_and-chain-preserved
parse_and-chain-preserved t c =
    chain_kept and_parts compare_parts compare_in 4 and_part (λ y ps. roll-AndExpr (record { first = y; rest = ps })) and_made _ _ _ _ _ _ _ _ _ _ _
    (rw c.pos_at-pos.ensures refl) c.in_ok-put.ensures c.chain.invariant (c.and_op.ensures.yes c.chain-test.true) c.in_ok-next.ensures

pub parse_and-returns : goal.parse_and-returns
parse_and-returns t c = chain_done and_parts compare_parts compare_in 4 and_part (λ y ps. roll-AndExpr (record { first = y; rest = ps })) and_made _ _ _ _
    _
    c.chain.invariant (c.and_op.ensures.no c.chain-test.false)

pub parse_atom-parse_named-requires : goal.parse_atom-parse_named-requires
parse_atom-parse_named-requires t c = (search rules, (called_here _ _ _ _ c.if-start-tokens.true c.in-Called.is, c.requires.known))

pub parse_atom-parse_fixed-requires : goal.parse_atom-parse_fixed-requires
parse_atom-parse_fixed-requires t c = (search rules, (head_fixed _ _ _ _ c.if-start-tokens.true c.in-Fixed.is, (c.requires.no_sign, c.requires.known)))

pub parse_atom-returns-in-Counted : goal.parse_atom-returns-in-Counted
parse_atom-returns-in-Counted t c =
    let f : SFits w64 c.in-Counted.value = search rules in
    rw (whole_made, to_z-of_z) (counted_here _ _ _ _ c.if-start-tokens.true c.in-Counted.is)

pub parse_atom-returns-else-start-tokens : goal.parse_atom-returns-else-start-tokens
parse_atom-returns-else-start-tokens t c = atom_refused _ _ c.requires.within (nothing_here _ _ c.if-start-tokens.false)

pub parse_cell-returns-in_err-first : goal.parse_cell-returns-in_err-first
parse_cell-returns-in_err-first t c = residual _ _ _ _ c.from_residual.ensures.1 (cell_first _ _ _ _ c.args.pos _ c.requires.read c.in_err-first.ensures)

pub parse_cell-returns-in_err-cell : goal.parse_cell-returns-in_err-cell
parse_cell-returns-in_err-cell t c =
    residual _ _ _ _ c.from_residual-in_err-cell.ensures.1
    (cell_second _ _ _ _ _ _ c.args.pos _ _ c.requires.read c.in_ok-first.ensures (c.bracket.ensures.second c.if-bracket.true) c.in_err-cell.ensures)

pub parse_cell-returns-in_ok-cell : goal.parse_cell-returns-in_ok-cell
parse_cell-returns-in_ok-cell t c =
    cell_both _ _ _ _ _ _ _ _ _ _ c.requires.read c.in_ok-first.ensures (c.bracket.ensures.second c.if-bracket.true) c.in_ok-cell.ensures

pub parse_closed-returns-in_err-inner : goal.parse_closed-returns-in_err-inner
parse_closed-returns-in_err-inner t c = residual _ _ _ _ c.from_residual.ensures.1 (closed_first _ _ _ _ c.requires.within c.in_err-inner.ensures)

pub parse_closed-returns-in_err-at : goal.parse_closed-returns-in_err-at
parse_closed-returns-in_err-at t c =
    residual _ _ _ _ c.from_residual-in_err-at.ensures.1 (closed_second _ _ _ _ _ _ c.in_ok-inner.ensures c.in_err-at.ensures)

pub parse_compare-returns-in_err-left : goal.parse_compare-returns-in_err-left
parse_compare-returns-in_err-left t c = residual _ _ _ _ c.from_residual.ensures.1 (compare_first _ _ _ c.requires.within c.in_err-left.ensures)

pub parse_compare-returns-in_err-right-in-Some : goal.parse_compare-returns-in_err-right-in-Some
parse_compare-returns-in_err-right-in-Some t c =
    residual _ _ _ _ c.from_residual-in_err-right-in-Some.ensures.1
    (compare_second _ _ _ _ _ _ _ _ c.in_ok-left.ensures c.in-Some.ensures c.in_err-right-in-Some.ensures)

pub parse_compare-returns-in_ok-right-in-Some : goal.parse_compare-returns-in_ok-right-in-Some
parse_compare-returns-in_ok-right-in-Some t c =
    rw c.pos_at-pos.ensures (compare_both _ _ _ _ _ _ _ _ _ c.in_ok-left.ensures c.in-Some.ensures c.in_ok-right-in-Some.ensures)

pub parse_expr-returns-in_err-first : goal.parse_expr-returns-in_err-first
parse_expr-returns-in_err-first t c =
    residual _ _ _ _ c.from_residual.ensures.1
    (chain_first expr_parts and_parts and_in 5 or_part (λ y ps. roll-Expr (record { first = y; rest = ps })) expr_made _ _ _ c.requires.within
    c.in_err-first.ensures)

pub parse_expr-returns-in_err-next : goal.parse_expr-returns-in_err-next
parse_expr-returns-in_err-next t c = residual _ _ _ _ c.from_residual-in_err-next.ensures.1 (chain_more expr_parts and_parts and_in 5 or_part (λ y ps. roll-Expr (record { first = y; rest = ps })) expr_made _ _ _ _ _ _ _
    (λ y. (c.pos_at-pos.result, y)) _ (λ y. rw c.pos_at-pos.ensures refl) c.chain.invariant (c.or_op.ensures.yes c.chain-test.true) c.in_err-next.ensures)

pub parse_expr-chain-preserved : goal.parse_expr-chain-preserved
parse_expr-chain-preserved t c =
    chain_kept expr_parts and_parts and_in 5 or_part (λ y ps. roll-Expr (record { first = y; rest = ps })) expr_made _ _ _ _ _ _ _ _ _ _ _
    (rw c.pos_at-pos.ensures refl) c.in_ok-put.ensures c.chain.invariant (c.or_op.ensures.yes c.chain-test.true) c.in_ok-next.ensures

pub parse_expr-returns : goal.parse_expr-returns
parse_expr-returns t c = chain_done expr_parts and_parts and_in 5 or_part (λ y ps. roll-Expr (record { first = y; rest = ps })) expr_made _ _ _ _ _
    c.chain.invariant (c.or_op.ensures.no c.chain-test.false)

pub parse_fixed-returns-in-TrueWord : goal.parse_fixed-returns-in-TrueWord
parse_fixed-returns-in-TrueWord t c = truth_here _ _ _ _ _ c.pos_at.ensures c.in-TrueWord.is c.requires.here

pub parse_fixed-returns-in-FalseWord : goal.parse_fixed-returns-in-FalseWord
parse_fixed-returns-in-FalseWord t c = truth_here _ _ _ _ _ c.pos_at-in-FalseWord.ensures c.in-FalseWord.is c.requires.here

pub parse_fixed-returns-in_err-inner-in-LeftParen : goal.parse_fixed-returns-in_err-inner-in-LeftParen
parse_fixed-returns-in_err-inner-in-LeftParen t c =
    residual _ _ _ _ c.from_residual.ensures.1 (group_refused _ _ _ c.args.alloc _ c.in-LeftParen.is c.requires.here c.in_err-inner-in-LeftParen.ensures)

pub parse_fixed-returns-in-Ok : goal.parse_fixed-returns-in-Ok
parse_fixed-returns-in-Ok t c =
    group_read _ _ _ _ _ _ _ c.pos_at-pos.ensures c.in-LeftParen.is c.requires.here c.in-Ok.ensures.ok c.in_ok-inner-in-LeftParen.ensures

pub parse_fixed-returns : goal.parse_fixed-returns
parse_fixed-returns t c = atom_refused _ _ (within_here _ _ _ c.requires.here)
    (no_sign_here _ _ _ c.requires.here c.requires.no_sign c.in_default.not-TrueWord c.in_default.not-FalseWord c.in_default.not-LeftParen)

pub parse_named-returns-in_err-cell : goal.parse_named-returns-in_err-cell
parse_named-returns-in_err-cell t c = residual _ _ _ _ c.from_residual.ensures.1 (named_refused _ _ c.args.alloc _ c.in_err-cell.ensures)

pub parse_product-returns-in_err-first : goal.parse_product-returns-in_err-first
parse_product-returns-in_err-first t c =
    residual _ _ _ _ c.from_residual.ensures.1
    (chain_first product_parts unary_parts unary_in 1 product_part (λ y ps. roll-Product (record { first = y; rest = ps })) product_made _ _ _
    c.requires.within
    c.in_err-first.ensures)

pub parse_product-returns-in_err-next : goal.parse_product-returns-in_err-next
parse_product-returns-in_err-next t c = residual _ _ _ _ c.from_residual-in_err-next.ensures.1 (chain_more product_parts unary_parts unary_in 1 product_part (λ y ps. roll-Product (record { first = y; rest = ps })) product_made _ _ _ _ _ _ _
    (λ y. (c.in-Some.op, c.pos_at-pos.result, y)) _ (λ y. rw c.pos_at-pos.ensures refl) c.chain.invariant c.in-Some.ensures c.in_err-next.ensures)

pub parse_product-chain-preserved : goal.parse_product-chain-preserved
parse_product-chain-preserved t c =
    chain_kept product_parts unary_parts unary_in 1 product_part (λ y ps. roll-Product (record { first = y; rest = ps })) product_made _ _ _ _ _ _ _ _ _ _
    _
    (rw c.pos_at-pos.ensures refl) c.in_ok-put.ensures c.chain.invariant c.in-Some.ensures c.in_ok-next.ensures

pub parse_product-returns : goal.parse_product-returns
parse_product-returns t c = chain_done product_parts unary_parts unary_in 1 product_part (λ y ps. roll-Product (record { first = y; rest = ps }))
    product_made _
    _ _ _ _ c.chain.invariant c.in_default.ensures

pub parse_sum-returns-in_err-first : goal.parse_sum-returns-in_err-first
parse_sum-returns-in_err-first t c =
    residual _ _ _ _ c.from_residual.ensures.1
    (chain_first sum_parts product_parts product_in 2 sum_part (λ y ps. roll-Sum (record { first = y; rest = ps })) sum_made _ _ _ c.requires.within
    c.in_err-first.ensures)

pub parse_sum-returns-in_err-next : goal.parse_sum-returns-in_err-next
parse_sum-returns-in_err-next t c = residual _ _ _ _ c.from_residual-in_err-next.ensures.1 (chain_more sum_parts product_parts product_in 2 sum_part (λ y ps. roll-Sum (record { first = y; rest = ps })) sum_made _ _ _
    _ _
    _ _ (λ y. (c.in-Some.op, c.pos_at-pos.result, y)) _ (λ y. rw c.pos_at-pos.ensures refl) c.chain.invariant c.in-Some.ensures c.in_err-next.ensures)

pub parse_sum-chain-preserved : goal.parse_sum-chain-preserved
parse_sum-chain-preserved t c =
    chain_kept sum_parts product_parts product_in 2 sum_part (λ y ps. roll-Sum (record { first = y; rest = ps })) sum_made _ _ _ _ _ _ _ _ _ _ _
    (rw c.pos_at-pos.ensures refl) c.in_ok-put.ensures c.chain.invariant c.in-Some.ensures c.in_ok-next.ensures

pub parse_sum-returns : goal.parse_sum-returns
parse_sum-returns t c = chain_done sum_parts product_parts product_in 2 sum_part (λ y ps. roll-Sum (record { first = y; rest = ps })) sum_made _ _ _ _ _
    c.chain.invariant c.in_default.ensures

pub parse_unary-returns-in_err-atom : goal.parse_unary-returns-in_err-atom
parse_unary-returns-in_err-atom t c =
    residual _ _ _ _ c.from_residual-in_err-atom.ensures.1 (unary_refused _ _ _ _ _ c.in_ok-signs.ensures.0 c.in_err-atom.ensures)

pub parse_unary-returns : goal.parse_unary-returns
parse_unary-returns t c = rw unary_opens (whole_on c.in_ok-signs.ensures.0 c.in_ok-atom.ensures)

pub parse_atom-returns-in-Unknown : goal.parse_atom-returns-in-Unknown
parse_atom-returns-in-Unknown t c = atom_refused _ _ c.requires.within (odd_here _ _ _ c.if-start-tokens.true c.in-Unknown.is)

pub parse_closed-returns : goal.parse_closed-returns
parse_closed-returns t c = whole_on (whole_under (Must c.args.closer ∷ []) c.in_ok-inner.ensures) c.in_ok-at.ensures

pub parse_named-unreachable-requires : goal.parse_named-unreachable-requires
parse_named-unreachable-requires t c =
    never_shape c.args.text.now _ (called_known c.requires.read c.requires.known) c.in-Err-Shape.ensures.refused c.in-Err-Shape.field-0-is

pub parse_cell-returns-else-bracket : goal.parse_cell-returns-else-bracket
parse_cell-returns-else-bracket t c = cell_alone _ _ _ _ _ _ _ c.requires.read c.in_ok-first.ensures (c.bracket.ensures.no_second c.if-bracket.false)
