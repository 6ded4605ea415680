use Rattle.std.proofs.Common.{◌∙◌, ◌-◌, drop, arith, refl, ap}
use Rattle.jade_syntax.specs.declared.tree.Expr.{out-Expr}
use Rattle.jade_syntax.specs.declared.tree.AndExpr.{out-AndExpr}
use Rattle.jade_syntax.specs.declared.tree.CellRef.{out-CellRef}
use Rattle.jade_syntax.specs.declared.tree.Compare.{out-Compare}
use Rattle.jade_syntax.specs.declared.tree.Sum.{out-Sum}
use Rattle.jade_syntax.specs.declared.tree.Product.{out-Product}
use Rattle.jade_syntax.specs.declared.tree.ValueKind.TheVariants.{Int, Bool}
use Rattle.jade_syntax.specs.Placed.{Cell}
use Rattle.jade_syntax.specs.PlacedImage.{Reference, member, term, and_term, compare_term, sum_term, product_term, unary_term, atom_term, signed}
use Rattle.jade_types.specs.steps.Scoped.{in_scope}
use Rattle.jade_types.proofs.Chains.{link_more, links_done, sign_more, opened_as, object_begins}
use Rattle.jade_types.proofs.Noting.{after}
use Rattle.jade_syntax.specs.Forms.{or_link, and_link, sum_link, product_link, compared, compared_with}
use Rattle.jade_syntax.specs.PlacedImage.{forms}
use Rattle.jade_syntax.proofs.Opened.{expr_opens, and_opens, sum_opens, product_opens, compare_opens, cell_opens}
use Rattle.jade_types.proofs.faults.expressions.+expr.Goals as goal

pub visit_expr-loop-i-preserved : goal.visit_expr-loop-i-preserved
visit_expr-loop-i-preserved t c =
    link_more (or_link forms) Bool Bool (λ x. refl) (λ x. refl) (out-Expr c.args.e.now).rest c.loop-i.i c.at.result.now c.at.ensures c.loop-i.invariant
    c.visit_and-seen.ensures
    (c.needs-in-loop-i.ensures (in_scope c.args.scope.now) (and_term c.at.result.now.1) c.visit_and-seen.ensures.sees)

pub visit_expr-returns : goal.visit_expr-returns
visit_expr-returns t c =
    opened_as _ _ (expr_opens forms c.args.e.now)
    (links_done (or_link forms) Bool Bool (λ x. refl) (λ x. refl) (and_term (out-Expr c.args.e.now).first) (out-Expr c.args.e.now).rest c.loop-i.i
    (omega arith) (omega arith) c.visit_and-first.ensures
    (c.needs.ensures (in_scope c.args.scope.now) (and_term (out-Expr c.args.e.now).first) c.visit_and-first.ensures.sees) c.loop-i.invariant)

pub visit_and-loop-i-preserved : goal.visit_and-loop-i-preserved
visit_and-loop-i-preserved t c =
    link_more (and_link forms) Bool Bool (λ x. refl) (λ x. refl) (out-AndExpr c.args.e.now).rest c.loop-i.i c.at.result.now c.at.ensures c.loop-i.invariant
    c.visit_compare-seen.ensures
    (c.needs-in-loop-i.ensures (in_scope c.args.scope.now) (compare_term c.at.result.now.1) c.visit_compare-seen.ensures.sees)

pub visit_and-returns : goal.visit_and-returns
visit_and-returns t c =
    opened_as _ _ (and_opens forms c.args.e.now)
    (links_done (and_link forms) Bool Bool (λ x. refl) (λ x. refl) (compare_term (out-AndExpr c.args.e.now).first) (out-AndExpr c.args.e.now).rest
    c.loop-i.i (omega arith) (omega arith) c.visit_compare-first.ensures
    (c.needs.ensures (in_scope c.args.scope.now) (compare_term (out-AndExpr c.args.e.now).first) c.visit_compare-first.ensures.sees) c.loop-i.invariant)

pub visit_sum-loop-i-preserved : goal.visit_sum-loop-i-preserved
visit_sum-loop-i-preserved t c =
    link_more (sum_link forms) Int Int (λ x. refl) (λ x. refl) (out-Sum c.args.e.now).rest c.loop-i.i c.at.result.now c.at.ensures c.loop-i.invariant
    c.visit_product-seen.ensures
    (c.needs-in-loop-i.ensures (in_scope c.args.scope.now) (product_term c.at.result.now.2) c.visit_product-seen.ensures.sees)

pub visit_sum-returns : goal.visit_sum-returns
visit_sum-returns t c =
    opened_as _ _ (sum_opens forms c.args.e.now)
    (links_done (sum_link forms) Int Int (λ x. refl) (λ x. refl) (product_term (out-Sum c.args.e.now).first) (out-Sum c.args.e.now).rest c.loop-i.i
    (omega arith) (omega arith) c.visit_product-first.ensures
    (c.needs.ensures (in_scope c.args.scope.now) (product_term (out-Sum c.args.e.now).first) c.visit_product-first.ensures.sees) c.loop-i.invariant)

pub visit_product-loop-i-preserved : goal.visit_product-loop-i-preserved
visit_product-loop-i-preserved t c =
    link_more (product_link forms) Int Int (λ x. refl) (λ x. refl) (out-Product c.args.e.now).rest c.loop-i.i c.at.result.now c.at.ensures
    c.loop-i.invariant c.visit_unary-seen.ensures
    (c.needs-in-loop-i.ensures (in_scope c.args.scope.now) (unary_term c.at.result.now.2) c.visit_unary-seen.ensures.sees)

pub visit_product-returns : goal.visit_product-returns
visit_product-returns t c =
    opened_as _ _ (product_opens forms c.args.e.now)
    (links_done (product_link forms) Int Int (λ x. refl) (λ x. refl) (unary_term (out-Product c.args.e.now).first) (out-Product c.args.e.now).rest
    c.loop-i.i (omega arith) (omega arith) c.visit_unary-first.ensures
    (c.needs.ensures (in_scope c.args.scope.now) (unary_term (out-Product c.args.e.now).first) c.visit_unary-first.ensures.sees) c.loop-i.invariant)

pub visit_cell-returns : goal.visit_cell-returns
visit_cell-returns t c =
    let names = in_scope c.args.scope.now in
    let cell = out-CellRef c.args.e.now in
    opened_as _ _ (ap (λ (r : Reference). Cell r.place r.cell) (cell_opens forms c.args.e.now)) (record {
      noted = after (after c.visit_object.ensures c.visit_expr-index.ensures.noted)
          (c.needs.ensures names (term cell.cell) c.visit_expr-index.ensures.sees);
      sees = record { kind = refl; pos = object_begins cell.name cell.pos (member cell.family) };
    })

pub visit_compare-returns-in-Some : goal.visit_compare-returns-in-Some
visit_compare-returns-in-Some t c =
    let names = in_scope c.args.scope.now in
    let left = sum_term (out-Compare c.args.e.now).left in
    opened_as _ _ (compare_opens forms c.args.e.now ∙ ap (λ r. compared forms left (compared_with forms r)) c.in-Some.is) (record {
      noted = after (after c.visit_sum-left.ensures.noted (c.needs.ensures names left c.visit_sum-left.ensures.sees))
          (after c.visit_sum-right.ensures.noted (c.needs-in-Some.ensures names (sum_term c.in-Some.right) c.visit_sum-right.ensures.sees));
      sees = record { kind = refl; pos = c.visit_sum-left.ensures.sees.pos };
    })

pub visit_object-returns-in-Some : goal.visit_object-returns-in-Some
visit_object-returns-in-Some t c =
    let names = in_scope c.args.scope.now in
    rw c.in-Some.is (after c.visit_use-in-Some.ensures
    (after c.visit_expr-seen.ensures.noted (c.needs.ensures names (term c.in-Some.index) c.visit_expr-seen.ensures.sees)))

pub visit_unary-loop-left-preserved : goal.visit_unary-loop-left-preserved
visit_unary-loop-left-preserved t c =
    let e = atom_term c.args.e.now.atom in
    record {
      within = omega arith;
      visited = sign_more e c.args.e.now.signs (c.loop-left.left - 1) c.loop-left.left c.at.result.now c.sign_kind-kind.result (omega arith) c.at.ensures
          c.sign_kind-kind.ensures c.loop-left.invariant.visited
          (c.needs.ensures (in_scope c.args.scope.now) (signed (drop c.loop-left.left c.args.e.now.signs) e) c.loop-left.invariant.visited.sees);
    }
