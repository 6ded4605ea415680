-- The tokens of a tree, opened and made.
use Rattle.std.proofs.Common.{◌≡◌, ℕ, List, [], ◌∷◌, ◌++◌, refl, ap, ◌∙◌, Option, Some, None}
use Rattle.jade_syntax.specs.declared.tree.Atom.TheOpen.{CellRef-F}
use Rattle.jade_base.specs.declared.place.Pos.{Pos}
use Rattle.jade_syntax.specs.declared.tree.Compare.{Compare}
use Rattle.std.specs.List.{flat_map}
use Rattle.std.proofs.lemmas.List.Folds.{flat_map-map}
use Rattle.jade_syntax.specs.declared.tree.Atom.{Atom}
use Rattle.jade_syntax.specs.declared.tree.AndExpr.{AndExpr, out-AndExpr, fold_out-AndExpr}
use Rattle.jade_syntax.specs.declared.tree.CellRef.{CellRef, out-CellRef, fold_out-CellRef, map-CellRef}
use Rattle.jade_syntax.specs.declared.tree.Expr.{Expr, out-Expr, fold_out-Expr}
use Rattle.jade_syntax.specs.declared.tree.Product.{Product, out-Product, fold_out-Product}
use Rattle.jade_syntax.specs.declared.tree.Sum.{Sum, out-Sum, fold_out-Sum}
use Rattle.jade_syntax.specs.declared.tree.Unary.{Unary, fold_out-Unary}
use Rattle.jade_parser.specs.Spelled.{Parts, Called, Fixed, marked, fixed, expr_parts, and_parts, cell_parts}
use Rattle.jade_parser.specs.Spelled.{sum_parts, product_parts, unary_parts, atom_parts, compare_parts}
use Rattle.jade_parser.specs.Spelled.{or_part, and_part, sum_part, product_part, sign_part, at_atom, at_and}
use Rattle.jade_parser.specs.Spelled.{at_cell, at_compare, at_expr, at_product, at_sum, at_unary, bracketed}
use Rattle.jade_syntax.specs.declared.tree.Atom.{fold_out-Atom}
use Rattle.jade_syntax.specs.declared.tree.Atom.TheOpen.{Expr-F, AndExpr-F, Sum-F, Product-F}
use Rattle.jade_syntax.specs.declared.tree.Atom.TheVariants.{Group, outs-Group}
use Rattle.jade_syntax.specs.declared.tree.SumOp.{SumOp}
use Rattle.jade_syntax.specs.declared.tree.ProductOp.{ProductOp}
use Rattle.std.specs.declared.boxed.Box.{Box}
use Rattle.std.proofs.Common.{Global}
use Rattle.jade_syntax.specs.declared.tree.AndExpr.{roll-AndExpr, out-roll-AndExpr}
use Rattle.jade_syntax.specs.declared.tree.Expr.{roll-Expr, out-roll-Expr}
use Rattle.jade_syntax.specs.declared.tree.Product.{roll-Product, out-roll-Product}
use Rattle.jade_syntax.specs.declared.tree.Sum.{roll-Sum, out-roll-Sum}
use Rattle.jade_parser.specs.declared.Sign.TheVariants.{LeftParen, RightParen}

pub expr_opens : (e : Expr) → expr_parts e ≡ and_parts (out-Expr e).first ++ flat_map or_part (out-Expr e).rest
expr_opens e = fold_out-Expr Parts Parts Parts Parts Parts Parts Parts Parts at_atom at_and at_cell at_compare at_expr at_product at_sum at_unary e
    ∙ simp flat_map-map

pub and_opens : (e : AndExpr) → and_parts e ≡ compare_parts (out-AndExpr e).first ++ flat_map and_part (out-AndExpr e).rest
and_opens e = fold_out-AndExpr Parts Parts Parts Parts Parts Parts Parts Parts at_atom at_and at_cell at_compare at_expr at_product at_sum at_unary e
    ∙ simp flat_map-map

pub sum_opens : (e : Sum) → sum_parts e ≡ product_parts (out-Sum e).first ++ flat_map sum_part (out-Sum e).rest
sum_opens e = fold_out-Sum Parts Parts Parts Parts Parts Parts Parts Parts at_atom at_and at_cell at_compare at_expr at_product at_sum at_unary e
    ∙ simp flat_map-map

pub product_opens : (e : Product) → product_parts e ≡ unary_parts (out-Product e).first ++ flat_map product_part (out-Product e).rest
product_opens e = fold_out-Product Parts Parts Parts Parts Parts Parts Parts Parts at_atom at_and at_cell at_compare at_expr at_product at_sum at_unary e
    ∙ simp flat_map-map

pub unary_opens : (e : Unary) → unary_parts e ≡ flat_map sign_part e.signs ++ atom_parts e.atom
unary_opens e = fold_out-Unary Parts Parts Parts Parts Parts Parts Parts Parts at_atom at_and at_cell at_compare at_expr at_product at_sum at_unary e

abbrev pub index_of : Option Expr → Parts
index_of None = []
index_of (Some e) = bracketed (expr_parts e)

abbrev Layer : Type 0
Layer = CellRef-F Atom AndExpr CellRef Compare Expr Product Sum Unary

abbrev layer_parts : Layer → Parts
layer_parts f = at_cell (map-CellRef Atom AndExpr CellRef Compare Expr Product Sum Unary Parts Parts Parts Parts Parts Parts Parts Parts
    atom_parts and_parts cell_parts compare_parts expr_parts product_parts sum_parts unary_parts f)

layer_is : (n : List ℕ) (p : Pos) (o : Option Expr) (c : Expr) → layer_parts (record { name = n; pos = p; family = o; cell = c }) ≡ marked (Called n) p
    ∷ (index_of o ++ bracketed (expr_parts c))
layer_is n p None c = refl
layer_is n p (Some e) c = refl

pub cell_opens : (e : CellRef) → cell_parts e ≡ marked (Called (out-CellRef e).name) (out-CellRef e).pos
    ∷ (index_of (out-CellRef e).family ++ bracketed (expr_parts (out-CellRef e).cell))
cell_opens e = fold_out-CellRef Parts Parts Parts Parts Parts Parts Parts Parts at_atom at_and at_cell at_compare at_expr at_product at_sum at_unary e
    ∙ layer_is _ (out-CellRef e).pos _ _

pub expr_made : (f : AndExpr) (r : List (Pos × AndExpr)) → expr_parts (roll-Expr (record { first = f; rest = r })) ≡ and_parts f ++ flat_map or_part r
expr_made f r = expr_opens (roll-Expr (record { first = f; rest = r }))
    ∙ ap (λ (x : Expr-F Atom AndExpr CellRef Compare Expr Product Sum Unary). and_parts x.first ++ flat_map or_part x.rest)
    (out-roll-Expr (record { first = f; rest = r }))

pub and_made : (f : Compare) (r : List (Pos × Compare)) → and_parts (roll-AndExpr (record { first = f; rest = r })) ≡ compare_parts f
    ++ flat_map and_part r
and_made f r = and_opens (roll-AndExpr (record { first = f; rest = r }))
    ∙ ap (λ (x : AndExpr-F Atom AndExpr CellRef Compare Expr Product Sum Unary). compare_parts x.first ++ flat_map and_part x.rest)
    (out-roll-AndExpr (record { first = f; rest = r }))

pub sum_made : (f : Product) (r : List (SumOp × Pos × Product)) → sum_parts (roll-Sum (record { first = f; rest = r })) ≡ product_parts f
    ++ flat_map sum_part r
sum_made f r = sum_opens (roll-Sum (record { first = f; rest = r }))
    ∙ ap (λ (x : Sum-F Atom AndExpr CellRef Compare Expr Product Sum Unary). product_parts x.first ++ flat_map sum_part x.rest)
    (out-roll-Sum (record { first = f; rest = r }))

pub product_made : (f : Unary) (r : List (ProductOp × Pos × Unary)) → product_parts (roll-Product (record { first = f; rest = r })) ≡ unary_parts f
    ++ flat_map product_part r
product_made f r = product_opens (roll-Product (record { first = f; rest = r }))
    ∙ ap (λ (x : Product-F Atom AndExpr CellRef Compare Expr Product Sum Unary). unary_parts x.first ++ flat_map product_part x.rest)
    (out-roll-Product (record { first = f; rest = r }))

pub group_made : (p : Pos) (b : Box Expr Global) → atom_parts (Group p b) ≡ marked (Fixed LeftParen) p ∷ (expr_parts b.value ++ fixed RightParen ∷ [])
group_made p b =
    fold_out-Atom Parts Parts Parts Parts Parts Parts Parts Parts at_atom at_and at_cell at_compare at_expr at_product at_sum at_unary (Group p b)
    ∙ rw (outs-Group p b) refl
