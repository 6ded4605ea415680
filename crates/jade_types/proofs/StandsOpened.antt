-- The stands of an expression's names, one level opened.
use Rattle.std.proofs.Common.{◌≡◌, List, [], ◌∷◌, ◌++◌, map, refl, ap, sym, ◌∙◌, Option, Some, None, append-nil}
use Rattle.std.specs.List.{flat_map}
use Rattle.std.proofs.lemmas.List.Folds.{flat_map-map}
use Rattle.jade_base.specs.declared.place.Pos.{Pos}
use Rattle.jade_syntax.specs.declared.stands.Stand.{Stand}
use Rattle.jade_syntax.specs.declared.tree.AndExpr.{AndExpr, out-AndExpr}
use Rattle.jade_syntax.specs.declared.tree.Compare.{Compare}
use Rattle.jade_syntax.specs.declared.tree.Expr.{Expr, out-Expr}
use Rattle.jade_syntax.specs.declared.tree.Product.{Product, out-Product}
use Rattle.jade_syntax.specs.declared.tree.ProductOp.{ProductOp}
use Rattle.jade_syntax.specs.declared.tree.Sum.{Sum, out-Sum}
use Rattle.jade_syntax.specs.declared.tree.SumOp.{SumOp}
use Rattle.jade_syntax.specs.declared.tree.Unary.{Unary}
use Rattle.jade_syntax.specs.declared.tree.UnaryOp.{UnaryOp}
use Rattle.jade_syntax.specs.Abstract.{Name, Expression}
use Rattle.jade_syntax.specs.Forms.{or_link, and_link, sum_link, product_link}
use Rattle.jade_syntax.specs.Image.{forms, Linked, chained, links, signed, placed, expression, and_expression}
use Rattle.jade_syntax.specs.Image.{compare_expression, sum_expression, product_expression, unary_expression}
use Rattle.jade_syntax.specs.Image.{atom_expression}
use Rattle.jade_syntax.specs.Numbering.{Scope, stand_of, expression_stands, link_stands, place_stands}
use Rattle.jade_syntax.proofs.Opened as opened
use Rattle.jade_types.specs.steps.Bodies.{member_stands}

abbrev linked : Scope → Linked → List Stand
linked scope l = expression_stands scope l.operand

links_stands : (scope : Scope) (ls : List Linked) → link_stands scope (links ls) ≡ flat_map (linked scope) ls
links_stands scope [] = refl
links_stands scope (l ∷ ls) = ap (λ s. linked scope l ++ s) (links_stands scope ls)

chain_stands : (scope : Scope) (first : Expression) (ls : List Linked) → expression_stands scope (chained first ls) ≡ expression_stands scope first
    ++ flat_map (linked scope) ls
chain_stands scope first [] = sym (append-nil (expression_stands scope first))
chain_stands scope first (l ∷ ls) = ap (λ s. expression_stands scope first ++ s) (links_stands scope (l ∷ ls))

abbrev pub or_part : Scope → Pos × AndExpr → List Stand
or_part scope p = expression_stands scope (and_expression p.1)

abbrev pub and_part : Scope → Pos × Compare → List Stand
and_part scope p = expression_stands scope (compare_expression p.1)

abbrev pub sum_part : Scope → SumOp × Pos × Product → List Stand
sum_part scope p = expression_stands scope (product_expression p.2)

abbrev pub product_part : Scope → ProductOp × Pos × Unary → List Stand
product_part scope p = expression_stands scope (unary_expression p.2)

-- a chain whose links are those of a tree
chain_of : {A : Type 0} (scope : Scope) (first whole : Expression) (link : A → Linked) (xs : List A) → whole ≡ chained first (map link xs)
    → expression_stands scope whole ≡ expression_stands scope first ++ flat_map (λ x. linked scope (link x)) xs
chain_of scope first whole link xs e =
    ap (expression_stands scope) e ∙ chain_stands scope first (map link xs)
    ∙ ap (λ s. expression_stands scope first ++ s) (flat_map-map (linked scope) link xs)

pub expr_opens : (scope : Scope) (e : Expr) → expression_stands scope (expression e) ≡ expression_stands scope (and_expression (out-Expr e).first)
    ++ flat_map (or_part scope) (out-Expr e).rest
expr_opens scope e = chain_of scope (and_expression (out-Expr e).first) (expression e) (or_link forms) (out-Expr e).rest (opened.expr_opens forms e)

pub and_opens : (scope : Scope) (e : AndExpr) → expression_stands scope (and_expression e)
    ≡ expression_stands scope (compare_expression (out-AndExpr e).first) ++ flat_map (and_part scope) (out-AndExpr e).rest
and_opens scope e = chain_of scope (compare_expression (out-AndExpr e).first) (and_expression e) (and_link forms) (out-AndExpr e).rest
    (opened.and_opens forms e)

pub sum_opens : (scope : Scope) (e : Sum) → expression_stands scope (sum_expression e) ≡ expression_stands scope (product_expression (out-Sum e).first)
    ++ flat_map (sum_part scope) (out-Sum e).rest
sum_opens scope e = chain_of scope (product_expression (out-Sum e).first) (sum_expression e) (sum_link forms) (out-Sum e).rest (opened.sum_opens forms e)

pub product_opens : (scope : Scope) (e : Product) → expression_stands scope (product_expression e)
    ≡ expression_stands scope (unary_expression (out-Product e).first) ++ flat_map (product_part scope) (out-Product e).rest
product_opens scope e = chain_of scope (unary_expression (out-Product e).first) (product_expression e) (product_link forms) (out-Product e).rest
    (opened.product_opens forms e)

signs_stands : (scope : Scope) (ss : List (UnaryOp × Pos)) (e : Expression) → expression_stands scope (signed ss e) ≡ expression_stands scope e
signs_stands scope [] e = refl
signs_stands scope (s ∷ ss) e = signs_stands scope ss e

pub unary_opens : (scope : Scope) (e : Unary) → expression_stands scope (unary_expression e) ≡ expression_stands scope (atom_expression e.atom)
unary_opens scope e =
    ap (expression_stands scope) (opened.unary_opens forms e)
    ∙ signs_stands scope e.signs (atom_expression e.atom)

-- an object's names: its own, and those of its index
pub place_opens : (scope : Scope) (x : Name) (at : Pos) (m : Option Expression) → place_stands scope (placed x at m) ≡ stand_of x scope
    ∷ member_stands scope m
place_opens scope x at None = refl
place_opens scope x at (Some e) = refl
