-- An expression with all places, less some of them, is its abstract syntax.
use Rattle.std.proofs.Common.{◌≡◌, ℕ, List, [], ◌∷◌, Option, Some, None, refl, ap, sym, ◌∙◌, map}
use Rattle.std.proofs.lemmas.Simd.{map-map}
use Rattle.jade_base.specs.declared.place.Pos.{Pos}
use Rattle.jade_syntax.specs.declared.tree.Relation.{Relation}
use Rattle.jade_syntax.specs.declared.tree.SumOp.{SumOp}
use Rattle.jade_syntax.specs.declared.tree.ProductOp.{ProductOp}
use Rattle.jade_syntax.specs.declared.tree.UnaryOp.{UnaryOp}
use Rattle.jade_syntax.specs.declared.tree.Atom.{Atom, fold-roll-Atom, map-Atom}
use Rattle.jade_syntax.specs.declared.tree.Atom.TheOpen.{Atom-F, CellRef-F, Compare-F}
use Rattle.jade_syntax.specs.declared.tree.AndExpr.{AndExpr, fold-roll-AndExpr}
use Rattle.jade_syntax.specs.declared.tree.CellRef.{CellRef, fold-roll-CellRef, out-CellRef, fold_out-CellRef, map-CellRef}
use Rattle.jade_syntax.specs.declared.tree.Compare.{Compare, fold-roll-Compare, map-Compare}
use Rattle.jade_syntax.specs.declared.tree.Expr.{Expr, fold-roll-Expr, ind-Expr}
use Rattle.jade_syntax.specs.declared.tree.Product.{Product, fold-roll-Product}
use Rattle.jade_syntax.specs.declared.tree.Sum.{Sum, fold-roll-Sum}
use Rattle.jade_syntax.specs.declared.tree.Unary.{Unary}
use Rattle.jade_syntax.specs.Abstract as abstract
use Rattle.jade_syntax.specs.Abstract.{Expression, Or, And, Relates, Adds, Multiplies}
use Rattle.jade_syntax.specs.Placed.{Term}
use Rattle.jade_syntax.specs.Forms as general
use Rattle.jade_syntax.specs.PlacedImage as placed
use Rattle.jade_syntax.specs.PlacedImage.{Reference, Linked, term, and_term, reference, compare_term, product_term, sum_term, unary_term, atom_term}
use Rattle.jade_syntax.specs.Image as image
use Rattle.jade_syntax.specs.Image.{Reference as Plain, Linked as PlainLink, expression, and_expression}
use Rattle.jade_syntax.specs.Image.{compare_expression, product_expression, sum_expression, unary_expression}
use Rattle.jade_syntax.specs.Image.{atom_expression}
use Rattle.jade_syntax.proofs.Opened as opened
use Rattle.jade_syntax.specs.Erased.{erased, erased_links, erased_object}

abbrev erased_link : Linked → PlainLink
erased_link l = record { operator = l.operator; at = l.at; operand = erased l.operand }

abbrev pub erased_reference : Reference → Plain
erased_reference r = record { place = erased_object r.place; cell = erased r.cell }

links_erased : (ls : List Linked) → erased_links (placed.links ls) ≡ image.links (map erased_link ls)
links_erased [] = refl
links_erased (l ∷ ls) = ap (λ k. abstract.Link l.operator l.at (erased l.operand) k) (links_erased ls)

chain_erased : (e : Term) (ls : List Linked) → erased (placed.chained e ls) ≡ image.chained (erased e) (map erased_link ls)
chain_erased e [] = refl
chain_erased e (l ∷ ls) = ap (λ k. abstract.Chain (erased e) k) (links_erased (l ∷ ls))

pub map_same : {A B : Type 0} (f g : A → B) → ((x : A) → f x ≡ g x) → (xs : List A) → map f xs ≡ map g xs
map_same f g h [] = refl
map_same f g h (x ∷ xs) = ap (λ y. y ∷ map f xs) (h x) ∙ ap (λ ys. g x ∷ ys) (map_same f g h xs)

-- a chain whose parts are the same without places
chain_layer : {A : Type 0} (one : A → Linked) (two : A → PlainLink) → ((x : A) → erased_link (one x) ≡ two x) → (e : Term) (f : Expression) → erased e ≡ f
    → (xs : List A) → erased (placed.chained e (map one xs)) ≡ image.chained f (map two xs)
chain_layer one two same e f h xs =
    chain_erased e (map one xs) ∙ ap (λ ls. image.chained (erased e) ls) (map-map erased_link one xs ∙ map_same (λ x. erased_link (one x)) two same xs)
    ∙ ap (λ k. image.chained k (map two xs)) h

signs_layer : (xs : List (UnaryOp × Pos)) (e : Term) (f : Expression) → erased e ≡ f → erased (placed.signed xs e) ≡ image.signed xs f
signs_layer [] e f h = h
signs_layer (x ∷ xs) e f h = ap (λ k. abstract.Signed x.0 x.1 k) (signs_layer xs e f h)

and_layer : {D : Type 0} (d : D → Compare) → ((x : D) → erased (compare_term (d x)) ≡ compare_expression (d x)) → (x : D) (xs : List (Pos × D))
    → erased (placed.chained (compare_term (d x)) (map (λ (p : Pos × D). record { operator = And; at = p.0; operand = compare_term (d p.1) }) xs))
    ≡ image.chained (compare_expression (d x)) (map (λ (p : Pos × D). record { operator = And; at = p.0; operand = compare_expression (d p.1) }) xs)
and_layer {D} d same x xs = chain_layer (λ (p : Pos × D). record { operator = And; at = p.0; operand = compare_term (d p.1) })
    (λ (p : Pos × D). record { operator = And; at = p.0; operand = compare_expression (d p.1) })
    (λ p. ap (λ k. record { operator = And; at = p.0; operand = k }) (same p.1)) (compare_term (d x)) (compare_expression (d x)) (same x) xs

expr_layer : {B : Type 0} (b : B → AndExpr) → ((x : B) → erased (and_term (b x)) ≡ and_expression (b x)) → (x : B) (xs : List (Pos × B))
    → erased (placed.chained (and_term (b x)) (map (λ (p : Pos × B). record { operator = Or; at = p.0; operand = and_term (b p.1) }) xs))
    ≡ image.chained (and_expression (b x)) (map (λ (p : Pos × B). record { operator = Or; at = p.0; operand = and_expression (b p.1) }) xs)
expr_layer {B} b same x xs = chain_layer (λ (p : Pos × B). record { operator = Or; at = p.0; operand = and_term (b p.1) })
    (λ (p : Pos × B). record { operator = Or; at = p.0; operand = and_expression (b p.1) })
    (λ p. ap (λ k. record { operator = Or; at = p.0; operand = k }) (same p.1)) (and_term (b x)) (and_expression (b x)) (same x) xs

product_layer : {H : Type 0} (h : H → Unary) → ((x : H) → erased (unary_term (h x)) ≡ unary_expression (h x)) → (x : H) (xs : List (ProductOp × Pos × H))
    → erased (placed.chained (unary_term (h x))
    (map (λ (p : ProductOp × Pos × H). record { operator = Multiplies p.0; at = p.1; operand = unary_term (h p.2) }) xs))
    ≡ image.chained (unary_expression (h x))
    (map (λ (p : ProductOp × Pos × H). record { operator = Multiplies p.0; at = p.1; operand = unary_expression (h p.2) }) xs)
product_layer {H} h same x xs =
    chain_layer (λ (p : ProductOp × Pos × H). record { operator = Multiplies p.0; at = p.1; operand = unary_term (h p.2) })
    (λ (p : ProductOp × Pos × H). record { operator = Multiplies p.0; at = p.1; operand = unary_expression (h p.2) })
    (λ p. ap (λ k. record { operator = Multiplies p.0; at = p.1; operand = k }) (same p.2)) (unary_term (h x)) (unary_expression (h x)) (same x) xs

sum_layer : {F : Type 0} (f : F → Product) → ((x : F) → erased (product_term (f x)) ≡ product_expression (f x)) → (x : F) (xs : List (SumOp × Pos × F))
    → erased (placed.chained (product_term (f x))
    (map (λ (p : SumOp × Pos × F). record { operator = Adds p.0; at = p.1; operand = product_term (f p.2) }) xs))
    ≡ image.chained (product_expression (f x))
    (map (λ (p : SumOp × Pos × F). record { operator = Adds p.0; at = p.1; operand = product_expression (f p.2) }) xs)
sum_layer {F} f same x xs = chain_layer (λ (p : SumOp × Pos × F). record { operator = Adds p.0; at = p.1; operand = product_term (f p.2) })
    (λ (p : SumOp × Pos × F). record { operator = Adds p.0; at = p.1; operand = product_expression (f p.2) })
    (λ p. ap (λ k. record { operator = Adds p.0; at = p.1; operand = k }) (same p.2)) (product_term (f x)) (product_expression (f x)) (same x) xs

module _ {A B C D E F G H : Type 0} (a : A → Atom) (b : B → AndExpr) (c : C → CellRef) (d : D → Compare) (e : E → Expr) (f : F → Product) (g : G → Sum)
    (h : H → Unary)
    (cells : (x : C) → erased_reference (reference (c x)) ≡ image.reference (c x)) (exprs : (x : E) → erased (term (e x)) ≡ expression (e x))
    (sums : (x : G) → erased (sum_term (g x)) ≡ sum_expression (g x)) where
  atom_layer : (y : Atom-F A B C D E F G H)
      → erased ((general.at_atom placed.forms)
      (map-Atom Atom AndExpr CellRef Compare Expr Product Sum Unary Term Term Reference Term Term Term Term Term atom_term and_term reference compare_term
      term product_term sum_term unary_term (map-Atom A B C D E F G H Atom AndExpr CellRef Compare Expr Product Sum Unary a b c d e f g h y)))
      ≡ ((general.at_atom image.forms)
      (map-Atom Atom AndExpr CellRef Compare Expr Product Sum Unary Expression Expression Plain Expression Expression Expression Expression Expression
      atom_expression and_expression image.reference compare_expression expression product_expression sum_expression unary_expression
      (map-Atom A B C D E F G H Atom AndExpr CellRef Compare Expr Product Sum Unary a b c d e f g h y)))
  atom_layer (Atom-F.Whole n) = refl
  atom_layer (Atom-F.Truth t p) = refl
  atom_layer (Atom-F.Group p x) = ap abstract.Group (exprs x.value)
  atom_layer (Atom-F.Named n p) = refl
  atom_layer (Atom-F.Cell x) = ap (λ (k : Plain). abstract.Cell k.place k.cell) (cells x.value)

  cell_at : (n : List ℕ) (p : Pos) (o : Option E) (x : E)
      → erased_reference ((general.at_cell placed.forms)
      (map-CellRef Atom AndExpr CellRef Compare Expr Product Sum Unary Term Term Reference Term Term Term Term Term atom_term and_term reference
      compare_term term product_term sum_term unary_term
      (map-CellRef A B C D E F G H Atom AndExpr CellRef Compare Expr Product Sum Unary a b c d e f g h
      (record { name = n; pos = p; family = o; cell = x }))))
      ≡ ((general.at_cell image.forms)
      (map-CellRef Atom AndExpr CellRef Compare Expr Product Sum Unary Expression Expression Plain Expression Expression Expression Expression Expression
      atom_expression and_expression image.reference compare_expression expression product_expression sum_expression unary_expression
      (map-CellRef A B C D E F G H Atom AndExpr CellRef Compare Expr Product Sum Unary a b c d e f g h
      (record { name = n; pos = p; family = o; cell = x }))))
  cell_at n p None x = ap (λ k. record { place = abstract.Alone n p; cell = k }) (exprs x)
  cell_at n p (Some o) x = ap (λ k. record { place = abstract.Member n p k; cell = erased (term (e x)) }) (exprs o)
      ∙ ap (λ k. record { place = abstract.Member n p (expression (e o)); cell = k }) (exprs x)

  compare_at : (x : G) (o : Option (Relation × Pos × G))
      → erased ((general.at_compare placed.forms)
      (map-Compare Atom AndExpr CellRef Compare Expr Product Sum Unary Term Term Reference Term Term Term Term Term atom_term and_term reference
      compare_term term product_term sum_term unary_term
      (map-Compare A B C D E F G H Atom AndExpr CellRef Compare Expr Product Sum Unary a b c d e f g h (record { left = x; right = o }))))
      ≡ ((general.at_compare image.forms)
      (map-Compare Atom AndExpr CellRef Compare Expr Product Sum Unary Expression Expression Plain Expression Expression Expression Expression Expression
      atom_expression and_expression image.reference compare_expression expression product_expression sum_expression unary_expression
      (map-Compare A B C D E F G H Atom AndExpr CellRef Compare Expr Product Sum Unary a b c d e f g h (record { left = x; right = o }))))
  compare_at x None = sums x
  compare_at x (Some o) = ap (λ k. abstract.Chain k (abstract.Link (Relates o.0) o.1 (erased (sum_term (g o.2))) abstract.Last)) (sums x)
      ∙ ap (λ k. abstract.Chain (sum_expression (g x)) (abstract.Link (Relates o.0) o.1 k abstract.Last)) (sums o.2)

  cell_layer : (y : CellRef-F A B C D E F G H)
      → erased_reference ((general.at_cell placed.forms)
      (map-CellRef Atom AndExpr CellRef Compare Expr Product Sum Unary Term Term Reference Term Term Term Term Term atom_term and_term reference
      compare_term term product_term sum_term unary_term
      (map-CellRef A B C D E F G H Atom AndExpr CellRef Compare Expr Product Sum Unary a b c d e f g h y)))
      ≡ ((general.at_cell image.forms)
      (map-CellRef Atom AndExpr CellRef Compare Expr Product Sum Unary Expression Expression Plain Expression Expression Expression Expression Expression
      atom_expression and_expression image.reference compare_expression expression product_expression sum_expression unary_expression
      (map-CellRef A B C D E F G H Atom AndExpr CellRef Compare Expr Product Sum Unary a b c d e f g h y)))
  cell_layer y = cell_at y.name y.pos y.family y.cell

  compare_layer : (y : Compare-F A B C D E F G H)
      → erased ((general.at_compare placed.forms)
      (map-Compare Atom AndExpr CellRef Compare Expr Product Sum Unary Term Term Reference Term Term Term Term Term atom_term and_term reference
      compare_term term product_term sum_term unary_term
      (map-Compare A B C D E F G H Atom AndExpr CellRef Compare Expr Product Sum Unary a b c d e f g h y)))
      ≡ ((general.at_compare image.forms)
      (map-Compare Atom AndExpr CellRef Compare Expr Product Sum Unary Expression Expression Plain Expression Expression Expression Expression Expression
      atom_expression and_expression image.reference compare_expression expression product_expression sum_expression unary_expression
      (map-Compare A B C D E F G H Atom AndExpr CellRef Compare Expr Product Sum Unary a b c d e f g h y)))
  compare_layer y = compare_at y.left y.right

pub expr_erased : (e : Expr) → erased (term e) ≡ expression e
expr_erased e = ind-Expr (λ x. erased (atom_term x) ≡ atom_expression x) (λ x. erased (and_term x) ≡ and_expression x)
    (λ x. erased_reference (reference x) ≡ image.reference x) (λ x. erased (compare_term x) ≡ compare_expression x)
    (λ x. erased (term x) ≡ expression x) (λ x. erased (product_term x) ≡ product_expression x) (λ x. erased (sum_term x) ≡ sum_expression x)
    (λ x. erased (unary_term x) ≡ unary_expression x)
    (λ x y k. rw (← k) (rw (
      fold-roll-Atom Term Term Reference Term Term Term Term Term (general.at_atom placed.forms) (general.at_and placed.forms)
          (general.at_cell placed.forms) (general.at_compare placed.forms) (general.at_expr placed.forms) (general.at_product placed.forms)
          (general.at_sum placed.forms) (general.at_unary placed.forms),
      fold-roll-Atom Expression Expression Plain Expression Expression Expression
          Expression Expression (general.at_atom image.forms) (general.at_and image.forms) (general.at_cell image.forms) (general.at_compare image.forms)
          (general.at_expr image.forms) (general.at_product image.forms) (general.at_sum image.forms) (general.at_unary image.forms),
    )
    (atom_layer (λ z. z.0) (λ z. z.0) (λ z. z.0) (λ z. z.0) (λ z. z.0) (λ z. z.0) (λ z. z.0) (λ z. z.0) (λ z. z.1) (λ z. z.1) (λ z. z.1) y)))
    (λ x y k. rw (← k) (rw (
      fold-roll-AndExpr Term Term Reference Term Term Term Term Term (general.at_atom placed.forms) (general.at_and placed.forms)
          (general.at_cell placed.forms) (general.at_compare placed.forms) (general.at_expr placed.forms) (general.at_product placed.forms)
          (general.at_sum placed.forms) (general.at_unary placed.forms),
      fold-roll-AndExpr Expression Expression Plain Expression Expression Expression
          Expression Expression (general.at_atom image.forms) (general.at_and image.forms) (general.at_cell image.forms) (general.at_compare image.forms)
          (general.at_expr image.forms) (general.at_product image.forms) (general.at_sum image.forms) (general.at_unary image.forms),
    )
    (simp map-map (and_layer (λ z. z.0) (λ z. z.1) y.first y.rest))))
    (λ x y k. rw (← k) (rw (
      fold-roll-CellRef Term Term Reference Term Term Term Term Term (general.at_atom placed.forms) (general.at_and placed.forms)
          (general.at_cell placed.forms) (general.at_compare placed.forms) (general.at_expr placed.forms) (general.at_product placed.forms)
          (general.at_sum placed.forms) (general.at_unary placed.forms),
      fold-roll-CellRef Expression Expression Plain Expression Expression Expression
          Expression Expression (general.at_atom image.forms) (general.at_and image.forms) (general.at_cell image.forms) (general.at_compare image.forms)
          (general.at_expr image.forms) (general.at_product image.forms) (general.at_sum image.forms) (general.at_unary image.forms),
    )
    (cell_layer (λ z. z.0) (λ z. z.0) (λ z. z.0) (λ z. z.0) (λ z. z.0) (λ z. z.0) (λ z. z.0) (λ z. z.0) (λ z. z.1) (λ z. z.1) (λ z. z.1) y)))
    (λ x y k. rw (← k) (rw (
      fold-roll-Compare Term Term Reference Term Term Term Term Term (general.at_atom placed.forms) (general.at_and placed.forms)
          (general.at_cell placed.forms) (general.at_compare placed.forms) (general.at_expr placed.forms) (general.at_product placed.forms)
          (general.at_sum placed.forms) (general.at_unary placed.forms),
      fold-roll-Compare Expression Expression Plain Expression Expression Expression
          Expression Expression (general.at_atom image.forms) (general.at_and image.forms) (general.at_cell image.forms) (general.at_compare image.forms)
          (general.at_expr image.forms) (general.at_product image.forms) (general.at_sum image.forms) (general.at_unary image.forms),
    )
    (compare_layer (λ z. z.0) (λ z. z.0) (λ z. z.0) (λ z. z.0) (λ z. z.0) (λ z. z.0) (λ z. z.0) (λ z. z.0) (λ z. z.1) (λ z. z.1) (λ z. z.1) y)))
    (λ x y k. rw (← k) (rw (
      fold-roll-Expr Term Term Reference Term Term Term Term Term (general.at_atom placed.forms) (general.at_and placed.forms)
          (general.at_cell placed.forms) (general.at_compare placed.forms) (general.at_expr placed.forms) (general.at_product placed.forms)
          (general.at_sum placed.forms) (general.at_unary placed.forms),
      fold-roll-Expr Expression Expression Plain Expression Expression Expression
          Expression Expression (general.at_atom image.forms) (general.at_and image.forms) (general.at_cell image.forms) (general.at_compare image.forms)
          (general.at_expr image.forms) (general.at_product image.forms) (general.at_sum image.forms) (general.at_unary image.forms),
    )
    (simp map-map (expr_layer (λ z. z.0) (λ z. z.1) y.first y.rest))))
    (λ x y k. rw (← k) (rw (
      fold-roll-Product Term Term Reference Term Term Term Term Term (general.at_atom placed.forms) (general.at_and placed.forms)
          (general.at_cell placed.forms) (general.at_compare placed.forms) (general.at_expr placed.forms) (general.at_product placed.forms)
          (general.at_sum placed.forms) (general.at_unary placed.forms),
      fold-roll-Product Expression Expression Plain Expression Expression Expression
          Expression Expression (general.at_atom image.forms) (general.at_and image.forms) (general.at_cell image.forms) (general.at_compare image.forms)
          (general.at_expr image.forms) (general.at_product image.forms) (general.at_sum image.forms) (general.at_unary image.forms),
    )
    (simp map-map (product_layer (λ z. z.0) (λ z. z.1) y.first y.rest))))
    (λ x y k. rw (← k) (rw (
      fold-roll-Sum Term Term Reference Term Term Term Term Term (general.at_atom placed.forms) (general.at_and placed.forms)
          (general.at_cell placed.forms) (general.at_compare placed.forms) (general.at_expr placed.forms) (general.at_product placed.forms)
          (general.at_sum placed.forms) (general.at_unary placed.forms),
      fold-roll-Sum Expression Expression Plain Expression Expression Expression
          Expression Expression (general.at_atom image.forms) (general.at_and image.forms) (general.at_cell image.forms) (general.at_compare image.forms)
          (general.at_expr image.forms) (general.at_product image.forms) (general.at_sum image.forms) (general.at_unary image.forms),
    )
    (simp map-map (sum_layer (λ z. z.0) (λ z. z.1) y.first y.rest))))
    (λ x y k. rw (← k) (rw (opened.unary_opens placed.forms, opened.unary_opens image.forms)
    (signs_layer y.signs (atom_term y.atom.0) (atom_expression y.atom.0) y.atom.1))) e

-- a cell, its node opened
pub cell_erased : (c : CellRef) → erased_reference (reference c) ≡ image.reference c
cell_erased c =
    ap erased_reference (fold_out-CellRef Term Term Reference Term Term Term Term Term (general.at_atom placed.forms) (general.at_and placed.forms)
    (general.at_cell placed.forms) (general.at_compare placed.forms) (general.at_expr placed.forms) (general.at_product placed.forms)
    (general.at_sum placed.forms) (general.at_unary placed.forms) c)
    ∙ of_node (out-CellRef c).name (out-CellRef c).pos (out-CellRef c).family (out-CellRef c).cell
    ∙ sym (fold_out-CellRef Expression Expression Plain Expression Expression Expression Expression Expression (general.at_atom image.forms)
    (general.at_and image.forms) (general.at_cell image.forms) (general.at_compare image.forms) (general.at_expr image.forms)
    (general.at_product image.forms) (general.at_sum image.forms) (general.at_unary image.forms) c)
  where
    of_node : (n : List ℕ) (p : Pos) (o : Option Expr) (x : Expr)
        → erased_reference ((general.at_cell placed.forms)
        (map-CellRef Atom AndExpr CellRef Compare Expr Product Sum Unary Term Term Reference Term Term Term Term Term atom_term and_term reference
        compare_term term product_term sum_term unary_term (record { name = n; pos = p; family = o; cell = x })))
        ≡ (general.at_cell image.forms)
        (map-CellRef Atom AndExpr CellRef Compare Expr Product Sum Unary Expression Expression Plain Expression Expression Expression Expression Expression
        atom_expression and_expression image.reference compare_expression expression product_expression sum_expression unary_expression
        (record { name = n; pos = p; family = o; cell = x }))
    of_node n p None x = ap (λ k. record { place = abstract.Alone n p; cell = k }) (expr_erased x)
    of_node n p (Some o) x = ap (λ k. record { place = abstract.Member n p k; cell = erased (term x) }) (expr_erased o)
        ∙ ap (λ k. record { place = abstract.Member n p (expression o); cell = k }) (expr_erased x)
