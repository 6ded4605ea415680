-- A node that is made is replaced as its parts are: what `fold` gives of each kind of node.
use Rattle.std.proofs.Common.{◌≡◌}
use Rattle.jade_base.specs.declared.place.Pos.{Pos}
use Rattle.jade_syntax.specs.declared.tree.Atom.{Atom, roll-Atom, fold-roll-Atom, map-Atom}
use Rattle.jade_syntax.specs.declared.tree.Atom.TheOpen.{Atom-F, AndExpr-F, CellRef-F, Compare-F, Expr-F, Product-F, Sum-F}
use Rattle.jade_syntax.specs.declared.tree.AndExpr.{AndExpr, roll-AndExpr, fold-roll-AndExpr, map-AndExpr}
use Rattle.jade_syntax.specs.declared.tree.CellRef.{CellRef, roll-CellRef, fold-roll-CellRef, map-CellRef}
use Rattle.jade_syntax.specs.declared.tree.Compare.{Compare, roll-Compare, fold-roll-Compare, map-Compare}
use Rattle.jade_syntax.specs.declared.tree.Expr.{Expr, roll-Expr, fold-roll-Expr, map-Expr}
use Rattle.jade_syntax.specs.declared.tree.Product.{Product, roll-Product, fold-roll-Product, map-Product}
use Rattle.jade_syntax.specs.declared.tree.Sum.{Sum, roll-Sum, fold-roll-Sum, map-Sum}
use Rattle.jade_syntax.specs.declared.tree.Unary.{Unary}
use Rattle.jade_syntax.specs.Abstract.{Name}
use Rattle.replaced_trees.specs.Replaced.{at_atom, at_and, at_cell, at_compare, at_expr, at_product, at_sum, at_unary}
use Rattle.replaced_trees.specs.Replaced.{expr_replaced, and_replaced, cell_replaced, compare_replaced, sum_replaced, product_replaced}
use Rattle.replaced_trees.specs.Replaced.{unary_replaced, atom_replaced}

module _ (to : Name → Name) (home : Pos → Pos) where
  pub and_tree : (y : AndExpr-F Atom AndExpr CellRef Compare Expr Product Sum Unary) → and_replaced to home (roll-AndExpr y)
      ≡ at_and to home (map-AndExpr Atom AndExpr CellRef Compare Expr Product Sum Unary Atom AndExpr CellRef Compare Expr Product Sum Unary
      (atom_replaced to home) (and_replaced to home) (cell_replaced to home) (compare_replaced to home) (expr_replaced to home)
      (product_replaced to home) (sum_replaced to home) (unary_replaced to home) y)
  and_tree y = fold-roll-AndExpr Atom AndExpr CellRef Compare Expr Product Sum Unary (at_atom to home) (at_and to home) (at_cell to home)
      (at_compare to home) (at_expr to home) (at_product to home) (at_sum to home) (at_unary to home) y

  pub expr_tree : (y : Expr-F Atom AndExpr CellRef Compare Expr Product Sum Unary) → expr_replaced to home (roll-Expr y)
      ≡ at_expr to home (map-Expr Atom AndExpr CellRef Compare Expr Product Sum Unary Atom AndExpr CellRef Compare Expr Product Sum Unary
      (atom_replaced to home) (and_replaced to home) (cell_replaced to home) (compare_replaced to home) (expr_replaced to home)
      (product_replaced to home) (sum_replaced to home) (unary_replaced to home) y)
  expr_tree y = fold-roll-Expr Atom AndExpr CellRef Compare Expr Product Sum Unary (at_atom to home) (at_and to home) (at_cell to home)
      (at_compare to home) (at_expr to home) (at_product to home) (at_sum to home) (at_unary to home) y

  pub sum_tree : (y : Sum-F Atom AndExpr CellRef Compare Expr Product Sum Unary) → sum_replaced to home (roll-Sum y)
      ≡ at_sum to home (map-Sum Atom AndExpr CellRef Compare Expr Product Sum Unary Atom AndExpr CellRef Compare Expr Product Sum Unary
      (atom_replaced to home) (and_replaced to home) (cell_replaced to home) (compare_replaced to home) (expr_replaced to home)
      (product_replaced to home) (sum_replaced to home) (unary_replaced to home) y)
  sum_tree y = fold-roll-Sum Atom AndExpr CellRef Compare Expr Product Sum Unary (at_atom to home) (at_and to home) (at_cell to home)
      (at_compare to home) (at_expr to home) (at_product to home) (at_sum to home) (at_unary to home) y

  pub product_tree : (y : Product-F Atom AndExpr CellRef Compare Expr Product Sum Unary) → product_replaced to home (roll-Product y)
      ≡ at_product to home (map-Product Atom AndExpr CellRef Compare Expr Product Sum Unary Atom AndExpr CellRef Compare Expr Product Sum Unary
      (atom_replaced to home) (and_replaced to home) (cell_replaced to home) (compare_replaced to home) (expr_replaced to home)
      (product_replaced to home) (sum_replaced to home) (unary_replaced to home) y)
  product_tree y = fold-roll-Product Atom AndExpr CellRef Compare Expr Product Sum Unary (at_atom to home) (at_and to home) (at_cell to home)
      (at_compare to home) (at_expr to home) (at_product to home) (at_sum to home) (at_unary to home) y

  pub atom_tree : (y : Atom-F Atom AndExpr CellRef Compare Expr Product Sum Unary) → atom_replaced to home (roll-Atom y)
      ≡ at_atom to home (map-Atom Atom AndExpr CellRef Compare Expr Product Sum Unary Atom AndExpr CellRef Compare Expr Product Sum Unary
      (atom_replaced to home) (and_replaced to home) (cell_replaced to home) (compare_replaced to home) (expr_replaced to home)
      (product_replaced to home) (sum_replaced to home) (unary_replaced to home) y)
  atom_tree y = fold-roll-Atom Atom AndExpr CellRef Compare Expr Product Sum Unary (at_atom to home) (at_and to home) (at_cell to home)
      (at_compare to home) (at_expr to home) (at_product to home) (at_sum to home) (at_unary to home) y

  pub cell_tree : (y : CellRef-F Atom AndExpr CellRef Compare Expr Product Sum Unary) → cell_replaced to home (roll-CellRef y)
      ≡ at_cell to home (map-CellRef Atom AndExpr CellRef Compare Expr Product Sum Unary Atom AndExpr CellRef Compare Expr Product Sum Unary
      (atom_replaced to home) (and_replaced to home) (cell_replaced to home) (compare_replaced to home) (expr_replaced to home)
      (product_replaced to home) (sum_replaced to home) (unary_replaced to home) y)
  cell_tree y = fold-roll-CellRef Atom AndExpr CellRef Compare Expr Product Sum Unary (at_atom to home) (at_and to home) (at_cell to home)
      (at_compare to home) (at_expr to home) (at_product to home) (at_sum to home) (at_unary to home) y

  pub compare_tree : (y : Compare-F Atom AndExpr CellRef Compare Expr Product Sum Unary) → compare_replaced to home (roll-Compare y)
      ≡ at_compare to home (map-Compare Atom AndExpr CellRef Compare Expr Product Sum Unary Atom AndExpr CellRef Compare Expr Product Sum Unary
      (atom_replaced to home) (and_replaced to home) (cell_replaced to home) (compare_replaced to home) (expr_replaced to home)
      (product_replaced to home) (sum_replaced to home) (unary_replaced to home) y)
  compare_tree y = fold-roll-Compare Atom AndExpr CellRef Compare Expr Product Sum Unary (at_atom to home) (at_and to home) (at_cell to home)
      (at_compare to home) (at_expr to home) (at_product to home) (at_sum to home) (at_unary to home) y
