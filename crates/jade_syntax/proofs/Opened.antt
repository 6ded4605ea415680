-- The abstract syntax of a tree, opened one level, whatever is kept of each form.
use Rattle.std.proofs.Common.{◌≡◌, List, map, Option, Some, None, refl, ap, ◌∙◌}
use Rattle.std.proofs.lemmas.Simd.{map-map}
use Rattle.jade_base.specs.declared.place.Pos.{Pos}
use Rattle.jade_syntax.specs.declared.tree.Atom.TheOpen.{Atom-F, CellRef-F, Compare-F}
use Rattle.jade_syntax.specs.declared.tree.Relation.{Relation}
use Rattle.jade_syntax.specs.declared.tree.Atom.{Atom, out-Atom, fold_out-Atom, map-Atom}
use Rattle.jade_syntax.specs.declared.tree.AndExpr.{AndExpr, out-AndExpr, fold_out-AndExpr}
use Rattle.jade_syntax.specs.declared.tree.CellRef.{CellRef, out-CellRef, fold_out-CellRef, map-CellRef}
use Rattle.jade_syntax.specs.declared.tree.Compare.{Compare, out-Compare, fold_out-Compare, map-Compare}
use Rattle.jade_syntax.specs.declared.tree.Expr.{Expr, out-Expr, fold_out-Expr}
use Rattle.jade_syntax.specs.declared.tree.Product.{Product, out-Product, fold_out-Product}
use Rattle.jade_syntax.specs.declared.tree.Named.{Named}
use Rattle.jade_syntax.specs.declared.tree.Statement.{Statement, out-Statement, fold_out-Statement, map-Statement}
use Rattle.jade_syntax.specs.declared.tree.Statement.TheOpen.{Statement-F}
use Rattle.jade_syntax.specs.declared.tree.Statement.TheVariants.{If, For, Withonly, outs-If, outs-For, outs-Withonly}
use Rattle.jade_syntax.specs.declared.tree.Sum.{Sum, out-Sum, fold_out-Sum}
use Rattle.jade_syntax.specs.declared.tree.Unary.{Unary, fold_out-Unary}
use Rattle.jade_syntax.specs.Abstract.{Name}
use Rattle.jade_syntax.specs.Forms as general
use Rattle.jade_syntax.specs.Forms.{
  Forms,
  StatementForms,
  Reference,
  of_expr,
  of_cell,
  of_and,
  of_compare,
  of_sum,
  of_product,
  of_unary,
  of_atom,
  of_index,
  of_object,
  of_statement,
  of_block,
}

module _ {E L O : Type 0} (forms : Forms E L O) where
  abbrev R : Type 0
  R = Reference E O

  pub expr_opens : (e : Expr) → of_expr forms e ≡ general.chained forms (of_and forms (out-Expr e).first) (map (general.or_link forms) (out-Expr e).rest)
  expr_opens e = fold_out-Expr E E R E E E E E (general.at_atom forms) (general.at_and forms) (general.at_cell forms) (general.at_compare forms)
      (general.at_expr forms) (general.at_product forms) (general.at_sum forms) (general.at_unary forms) e ∙ simp map-map

  pub and_opens : (e : AndExpr) → of_and forms e
      ≡ general.chained forms (of_compare forms (out-AndExpr e).first) (map (general.and_link forms) (out-AndExpr e).rest)
  and_opens e = fold_out-AndExpr E E R E E E E E (general.at_atom forms) (general.at_and forms) (general.at_cell forms) (general.at_compare forms)
      (general.at_expr forms) (general.at_product forms) (general.at_sum forms) (general.at_unary forms) e ∙ simp map-map

  pub sum_opens : (e : Sum) → of_sum forms e ≡ general.chained forms (of_product forms (out-Sum e).first) (map (general.sum_link forms) (out-Sum e).rest)
  sum_opens e = fold_out-Sum E E R E E E E E (general.at_atom forms) (general.at_and forms) (general.at_cell forms) (general.at_compare forms)
      (general.at_expr forms) (general.at_product forms) (general.at_sum forms) (general.at_unary forms) e ∙ simp map-map

  pub product_opens : (e : Product) → of_product forms e
      ≡ general.chained forms (of_unary forms (out-Product e).first) (map (general.product_link forms) (out-Product e).rest)
  product_opens e = fold_out-Product E E R E E E E E (general.at_atom forms) (general.at_and forms) (general.at_cell forms) (general.at_compare forms)
      (general.at_expr forms) (general.at_product forms) (general.at_sum forms) (general.at_unary forms) e ∙ simp map-map

  pub unary_opens : (e : Unary) → of_unary forms e ≡ general.signed forms e.signs (of_atom forms e.atom)
  unary_opens e = fold_out-Unary E E R E E E E E (general.at_atom forms) (general.at_and forms) (general.at_cell forms) (general.at_compare forms)
      (general.at_expr forms) (general.at_product forms) (general.at_sum forms) (general.at_unary forms) e

  abbrev compare_layer : Compare-F Atom AndExpr CellRef Compare Expr Product Sum Unary → E
  compare_layer f = general.at_compare forms (map-Compare Atom AndExpr CellRef Compare Expr Product Sum Unary E E R E E E E E
      (of_atom forms) (of_and forms) (of_cell forms) (of_compare forms) (of_expr forms) (of_product forms) (of_sum forms) (of_unary forms) f)

  compare_layer_is : (l : Sum) (r : Option (Relation × Pos × Sum)) → compare_layer (record { left = l; right = r })
      ≡ general.compared forms (of_sum forms l) (general.compared_with forms r)
  compare_layer_is l None = refl
  compare_layer_is l (Some r) = refl

  pub compare_opens : (e : Compare) → of_compare forms e
      ≡ general.compared forms (of_sum forms (out-Compare e).left) (general.compared_with forms (out-Compare e).right)
  compare_opens e = fold_out-Compare E E R E E E E E (general.at_atom forms) (general.at_and forms) (general.at_cell forms) (general.at_compare forms)
      (general.at_expr forms) (general.at_product forms) (general.at_sum forms) (general.at_unary forms) e ∙ compare_layer_is _ _

  abbrev pub atom_layer : Atom-F Atom AndExpr CellRef Compare Expr Product Sum Unary → E
  atom_layer f = general.at_atom forms (map-Atom Atom AndExpr CellRef Compare Expr Product Sum Unary E E R E E E E E
      (of_atom forms) (of_and forms) (of_cell forms) (of_compare forms) (of_expr forms) (of_product forms) (of_sum forms) (of_unary forms) f)

  pub atom_opens : (a : Atom) → of_atom forms a ≡ atom_layer (out-Atom a)
  atom_opens a = fold_out-Atom E E R E E E E E (general.at_atom forms) (general.at_and forms) (general.at_cell forms) (general.at_compare forms)
      (general.at_expr forms) (general.at_product forms) (general.at_sum forms) (general.at_unary forms) a

  abbrev cell_layer : CellRef-F Atom AndExpr CellRef Compare Expr Product Sum Unary → R
  cell_layer f = general.at_cell forms (map-CellRef Atom AndExpr CellRef Compare Expr Product Sum Unary E E R E E E E E
      (of_atom forms) (of_and forms) (of_cell forms) (of_compare forms) (of_expr forms) (of_product forms) (of_sum forms) (of_unary forms) f)

  -- a cell of the tree, opened
  abbrev pub opened_cell : CellRef → R
  opened_cell e = record {
    place = general.object_of forms (out-CellRef e).name (out-CellRef e).pos (of_index forms (out-CellRef e).family);
    cell =
        of_expr forms (out-CellRef e).cell;
  }

  cell_layer_is : (n : Name) (p : Pos) (o : Option Expr) (c : Expr) → cell_layer (record { name = n; pos = p; family = o; cell = c })
      ≡ record { place = general.object_of forms n p (of_index forms o); cell = of_expr forms c }
  cell_layer_is n p None c = refl
  cell_layer_is n p (Some e) c = refl

  pub cell_opens : (e : CellRef) → of_cell forms e ≡ opened_cell e
  cell_opens e = fold_out-CellRef E E R E E E E E (general.at_atom forms) (general.at_and forms) (general.at_cell forms) (general.at_compare forms)
      (general.at_expr forms) (general.at_product forms) (general.at_sum forms) (general.at_unary forms) e
      ∙ cell_layer_is (out-CellRef e).name (out-CellRef e).pos (out-CellRef e).family (out-CellRef e).cell

module _ {E L O S B : Type 0} (forms : Forms E L O) (statements : StatementForms E O S B) where
  -- a statement whose parts are trees
  abbrev pub opened : Statement-F Statement → S
  opened (Statement-F.Local kind name at value) = statements.local kind name at (of_expr forms value)
  opened (Statement-F.Assign name at value) = statements.assign name at (of_expr forms value)
  opened (Statement-F.Store target value) = statements.store (of_cell forms target).place (of_cell forms target).cell (of_expr forms value)
  opened (Statement-F.If test then None) = statements.if_alone (of_expr forms test) (of_block forms statements then)
  opened (Statement-F.If test then (Some other)) = statements.if_else (of_expr forms test) (of_block forms statements then) (of_block forms statements other)
  opened (Statement-F.For name at low high body) = statements.for name at (of_expr forms low) (of_expr forms high) (of_block forms statements body)
  opened (Statement-F.Withonly at section names body) = statements.withonly at (of_block forms statements section) names (of_block forms statements body)
  opened (Statement-F.With at section) = statements.with at (of_block forms statements section)
  opened (Statement-F.Declare how at o) = statements.declare how at (of_object forms o)

  pub statement_opens : (s : Statement) → of_statement forms statements s ≡ opened (out-Statement s)
  statement_opens s = fold_out-Statement S (general.at_statement forms statements) s ∙ layer_opens (out-Statement s)
    where
      layer_opens : (f : Statement-F Statement) → general.at_statement forms statements (map-Statement Statement S (of_statement forms statements) f) ≡ opened f
      layer_opens (Statement-F.Local kind name at value) = refl
      layer_opens (Statement-F.Assign name at value) = refl
      layer_opens (Statement-F.Store target value) = refl
      layer_opens (Statement-F.If test then None) = refl
      layer_opens (Statement-F.If test then (Some b)) = refl
      layer_opens (Statement-F.For name at low high body) = refl
      layer_opens (Statement-F.Withonly at section names body) = refl
      layer_opens (Statement-F.With at section) = refl
      layer_opens (Statement-F.Declare how at o) = refl

  pub if_none : (test : Expr) (then : List Statement) (o : Option (List Statement)) → o ≡ None → of_statement forms statements (If test then o)
      ≡ statements.if_alone (of_expr forms test) (of_block forms statements then)
  if_none test then o e = statement_opens (If test then o) ∙ ap opened (outs-If test then o) ∙ ap (λ p. opened (Statement-F.If test then p)) e

  pub if_some : (test : Expr) (then other : List Statement) (o : Option (List Statement)) → o ≡ Some other → of_statement forms statements (If test then o)
      ≡ statements.if_else (of_expr forms test) (of_block forms statements then) (of_block forms statements other)
  if_some test then other o e = statement_opens (If test then o) ∙ ap opened (outs-If test then o) ∙ ap (λ p. opened (Statement-F.If test then p)) e

  pub for_is : (x : Name) (at : Pos) (low high : Expr) (body : List Statement) → of_statement forms statements (For x at low high body)
      ≡ statements.for x at (of_expr forms low) (of_expr forms high) (of_block forms statements body)
  for_is x at low high body = statement_opens (For x at low high body) ∙ ap opened (outs-For x at low high body)

  pub withonly_is : (at : Pos) (section : List Statement) (names : List Named) (body : List Statement)
      → of_statement forms statements (Withonly at section names body)
      ≡ statements.withonly at (of_block forms statements section) names (of_block forms statements body)
  withonly_is at section names body = statement_opens (Withonly at section names body) ∙ ap opened (outs-Withonly at section names body)
