-- The extent of a tree, one level opened.
use Rattle.std.proofs.Common.{◌≡◌, ℕ, List, map, length, Option, Some, None, refl, ap, sym, ◌∙◌}
use Rattle.std.proofs.lemmas.Simd.{map-map}
use Rattle.jade_base.specs.declared.place.Pos.{Pos}
use Rattle.jade_syntax.specs.declared.shapes.extent.Extent.{Extent}
use Rattle.jade_syntax.specs.declared.tree.Atom.TheOpen.{Atom-F, CellRef-F, Compare-F}
use Rattle.jade_syntax.specs.declared.tree.Relation.{Relation}
use Rattle.jade_syntax.specs.declared.tree.Atom.{Atom, out-Atom, fold_out-Atom, map-Atom}
use Rattle.jade_syntax.specs.declared.tree.AndExpr.{AndExpr, out-AndExpr, fold_out-AndExpr}
use Rattle.jade_syntax.specs.declared.tree.CellRef.{CellRef, out-CellRef, fold_out-CellRef, map-CellRef}
use Rattle.jade_syntax.specs.declared.tree.Compare.{Compare, out-Compare, fold_out-Compare, map-Compare}
use Rattle.jade_syntax.specs.declared.tree.Expr.{Expr, out-Expr, fold_out-Expr}
use Rattle.jade_syntax.specs.declared.tree.Product.{Product, out-Product, fold_out-Product}
use Rattle.jade_syntax.specs.declared.tree.ProductOp.{ProductOp}
use Rattle.jade_syntax.specs.declared.tree.Statement.{Statement, out-Statement, fold_out-Statement, map-Statement}
use Rattle.jade_syntax.specs.declared.tree.Statement.TheOpen.{Statement-F}
use Rattle.jade_syntax.specs.declared.tree.Sum.{Sum, out-Sum, fold_out-Sum}
use Rattle.jade_syntax.specs.declared.tree.SumOp.{SumOp}
use Rattle.jade_syntax.specs.declared.tree.Unary.{Unary, fold_out-Unary}
use Rattle.jade_syntax.specs.Measured.{capped, Measures}
use Rattle.jade_syntax.specs.Shapes.{nothing, signs, name_extent, ◌⊕◌, all_of, in_brackets, at_atom, at_and, at_cell, at_compare, at_expr, at_product, at_sum}
use Rattle.jade_syntax.specs.Shapes.{at_unary, expr_extent, and_extent, compare_extent, sum_extent, product_extent, unary_extent, atom_extent, cell_extent}
use Rattle.jade_syntax.specs.Shapes.{inner_index, statement_extent, at_statement}

abbrev pub or_link : Pos × AndExpr → Extent
or_link p = signs 1 ⊕ and_extent p.1

abbrev pub and_link : Pos × Compare → Extent
and_link p = signs 1 ⊕ compare_extent p.1

abbrev pub sum_link : SumOp × Pos × Product → Extent
sum_link p = signs 1 ⊕ product_extent p.2

abbrev pub product_link : ProductOp × Pos × Unary → Extent
product_link p = signs 1 ⊕ unary_extent p.2

pub expr_opens : (e : Expr) → expr_extent e ≡ and_extent (out-Expr e).first ⊕ all_of (map or_link (out-Expr e).rest)
expr_opens e = fold_out-Expr Extent Extent Extent Extent Extent Extent Extent Extent at_atom at_and at_cell at_compare at_expr at_product at_sum at_unary e
    ∙ simp map-map

pub and_opens : (e : AndExpr) → and_extent e ≡ compare_extent (out-AndExpr e).first ⊕ all_of (map and_link (out-AndExpr e).rest)
and_opens e = fold_out-AndExpr Extent Extent Extent Extent Extent Extent Extent Extent at_atom at_and at_cell at_compare at_expr at_product at_sum at_unary e
    ∙ simp map-map

pub sum_opens : (e : Sum) → sum_extent e ≡ product_extent (out-Sum e).first ⊕ all_of (map sum_link (out-Sum e).rest)
sum_opens e = fold_out-Sum Extent Extent Extent Extent Extent Extent Extent Extent at_atom at_and at_cell at_compare at_expr at_product at_sum at_unary e
    ∙ simp map-map

pub product_opens : (e : Product) → product_extent e ≡ unary_extent (out-Product e).first ⊕ all_of (map product_link (out-Product e).rest)
product_opens e = fold_out-Product Extent Extent Extent Extent Extent Extent Extent Extent at_atom at_and at_cell at_compare at_expr at_product at_sum at_unary
    e ∙ simp map-map

pub unary_opens : (e : Unary) → unary_extent e ≡ signs (length e.signs) ⊕ atom_extent e.atom
unary_opens e = fold_out-Unary Extent Extent Extent Extent Extent Extent Extent Extent at_atom at_and at_cell at_compare at_expr at_product at_sum at_unary e

-- the second operand of a comparison
abbrev pub second : Option (Relation × Pos × Sum) → Extent
second None = nothing
second (Some r) = signs 1 ⊕ sum_extent r.2

abbrev compare_layer : Compare-F Atom AndExpr CellRef Compare Expr Product Sum Unary → Extent
compare_layer f = at_compare (map-Compare Atom AndExpr CellRef Compare Expr Product Sum Unary Extent Extent Extent Extent Extent Extent Extent Extent
    atom_extent and_extent cell_extent compare_extent expr_extent product_extent sum_extent unary_extent f)

compare_layer_is : (l : Sum) (r : Option (Relation × Pos × Sum)) → compare_layer (record { left = l; right = r }) ≡ sum_extent l ⊕ second r
compare_layer_is l None = refl
compare_layer_is l (Some r) = refl

pub compare_opens : (e : Compare) → compare_extent e ≡ sum_extent (out-Compare e).left ⊕ second (out-Compare e).right
compare_opens e = fold_out-Compare Extent Extent Extent Extent Extent Extent Extent Extent at_atom at_and at_cell at_compare at_expr at_product at_sum at_unary
    e ∙ compare_layer_is _ _

abbrev pub atom_layer : Atom-F Atom AndExpr CellRef Compare Expr Product Sum Unary → Extent
atom_layer f = at_atom (map-Atom Atom AndExpr CellRef Compare Expr Product Sum Unary Extent Extent Extent Extent Extent Extent Extent Extent
    atom_extent and_extent cell_extent compare_extent expr_extent product_extent sum_extent unary_extent f)

pub atom_opens : (a : Atom) → atom_extent a ≡ atom_layer (out-Atom a)
atom_opens a = fold_out-Atom Extent Extent Extent Extent Extent Extent Extent Extent at_atom at_and at_cell at_compare at_expr at_product at_sum at_unary a

abbrev Layer : Type 0
Layer = CellRef-F Atom AndExpr CellRef Compare Expr Product Sum Unary

abbrev cell_layer : Layer → Extent
cell_layer f = at_cell (map-CellRef Atom AndExpr CellRef Compare Expr Product Sum Unary Extent Extent Extent Extent Extent Extent Extent Extent
    atom_extent and_extent cell_extent compare_extent expr_extent product_extent sum_extent unary_extent f)

cell_layer_is : (n : List ℕ) (p : Pos) (o : Option Expr) (c : Expr) → cell_layer (record { name = n; pos = p; family = o; cell = c }) ≡ name_extent n
    ⊕ inner_index o ⊕ in_brackets (expr_extent c)
cell_layer_is n p None c = refl
cell_layer_is n p (Some e) c = refl

pub cell_opens : (e : CellRef) → cell_extent e ≡ name_extent (out-CellRef e).name ⊕ inner_index (out-CellRef e).family
    ⊕ in_brackets (expr_extent (out-CellRef e).cell)
cell_opens e = fold_out-CellRef Extent Extent Extent Extent Extent Extent Extent Extent at_atom at_and at_cell at_compare at_expr at_product at_sum at_unary e
    ∙ cell_layer_is (out-CellRef e).name (out-CellRef e).pos (out-CellRef e).family (out-CellRef e).cell

-- a statement whose parts are trees
abbrev pub opened : Statement-F Statement → Extent
opened f = at_statement (map-Statement Statement Extent statement_extent f)

pub statement_opens : (s : Statement) → statement_extent s ≡ opened (out-Statement s)
statement_opens s = fold_out-Statement Extent at_statement s

-- the arm of one kind of statement
pub extent_arm : (s t : Statement) (f : Statement-F Statement) (m : Extent) → s ≡ t → out-Statement t ≡ f → Measures m (opened f)
    → Measures m (statement_extent s)
extent_arm s t f m e o h = record { by = h.by ∙ ap capped (ap opened (sym o) ∙ sym (statement_opens t) ∙ ap statement_extent (sym e)) }

-- the measure of a tree is that of its parts
pub as_opened : (m e parts : Extent) → e ≡ parts → Measures m parts → Measures m e
as_opened m e parts is h = record { by = h.by ∙ ap capped (sym is) }
