-- What is kept of a node that is made, whatever is kept of each form.
use Rattle.std.proofs.Common.{◌≡◌, List, Option, ap, ◌∙◌, map}
use Rattle.jade_base.specs.declared.place.Pos.{Pos}
use Rattle.jade_syntax.specs.declared.tree.Relation.{Relation}
use Rattle.jade_syntax.specs.declared.tree.SumOp.{SumOp}
use Rattle.jade_syntax.specs.declared.tree.ProductOp.{ProductOp}
use Rattle.jade_syntax.specs.declared.tree.Atom.{Atom}
use Rattle.jade_syntax.specs.declared.tree.Atom.TheOpen.{Compare-F, AndExpr-F, Expr-F, Sum-F, Product-F}
use Rattle.jade_syntax.specs.declared.tree.AndExpr.{AndExpr, roll-AndExpr, out-roll-AndExpr}
use Rattle.jade_syntax.specs.declared.tree.CellRef.{CellRef}
use Rattle.jade_syntax.specs.declared.tree.Compare.{Compare, roll-Compare, out-roll-Compare}
use Rattle.jade_syntax.specs.declared.tree.Expr.{Expr, roll-Expr, out-roll-Expr}
use Rattle.jade_syntax.specs.declared.tree.Product.{Product, roll-Product, out-roll-Product}
use Rattle.jade_syntax.specs.declared.tree.Sum.{Sum, roll-Sum, out-roll-Sum}
use Rattle.jade_syntax.specs.declared.tree.Unary.{Unary}
use Rattle.jade_syntax.specs.Forms as general
use Rattle.jade_syntax.specs.Forms.{Forms, chained, compared, of_expr, of_and, of_compare, of_sum, of_product, of_unary}
use Rattle.jade_syntax.proofs.Opened as opened

module _ {E L O : Type 0} (forms : Forms E L O) where
  pub and_made : (f : Compare) (r : List (Pos × Compare))
      → of_and forms (roll-AndExpr (record { first = f; rest = r })) ≡ chained forms (of_compare forms f) (map (general.and_link forms) r)
  and_made f r = opened.and_opens forms (roll-AndExpr (record { first = f; rest = r }))
      ∙ ap (λ (x : AndExpr-F Atom AndExpr CellRef Compare Expr Product Sum Unary).
      chained forms (of_compare forms x.first) (map (general.and_link forms) x.rest))
      (out-roll-AndExpr (record { first = f; rest = r }))

  pub expr_made : (f : AndExpr) (r : List (Pos × AndExpr))
      → of_expr forms (roll-Expr (record { first = f; rest = r })) ≡ chained forms (of_and forms f) (map (general.or_link forms) r)
  expr_made f r = opened.expr_opens forms (roll-Expr (record { first = f; rest = r }))
      ∙ ap (λ (x : Expr-F Atom AndExpr CellRef Compare Expr Product Sum Unary). chained forms (of_and forms x.first) (map (general.or_link forms) x.rest))
      (out-roll-Expr (record { first = f; rest = r }))

  pub sum_made : (f : Product) (r : List (SumOp × Pos × Product))
      → of_sum forms (roll-Sum (record { first = f; rest = r })) ≡ chained forms (of_product forms f) (map (general.sum_link forms) r)
  sum_made f r = opened.sum_opens forms (roll-Sum (record { first = f; rest = r }))
      ∙ ap (λ (x : Sum-F Atom AndExpr CellRef Compare Expr Product Sum Unary). chained forms (of_product forms x.first) (map (general.sum_link forms) x.rest))
      (out-roll-Sum (record { first = f; rest = r }))

  pub product_made : (f : Unary) (r : List (ProductOp × Pos × Unary))
      → of_product forms (roll-Product (record { first = f; rest = r })) ≡ chained forms (of_unary forms f) (map (general.product_link forms) r)
  product_made f r = opened.product_opens forms (roll-Product (record { first = f; rest = r }))
      ∙ ap (λ (x : Product-F Atom AndExpr CellRef Compare Expr Product Sum Unary).
      chained forms (of_unary forms x.first) (map (general.product_link forms) x.rest))
      (out-roll-Product (record { first = f; rest = r }))

  pub compare_made : (l : Sum) (o : Option (Relation × Pos × Sum))
      → of_compare forms (roll-Compare (record { left = l; right = o })) ≡ compared forms (of_sum forms l) (general.compared_with forms o)
  compare_made l o = opened.compare_opens forms (roll-Compare (record { left = l; right = o }))
      ∙ ap (λ (x : Compare-F Atom AndExpr CellRef Compare Expr Product Sum Unary). compared forms (of_sum forms x.left) (general.compared_with forms x.right))
      (out-roll-Compare (record { left = l; right = o }))
