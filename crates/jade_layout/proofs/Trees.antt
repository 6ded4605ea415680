-- What holds of each part of an expression by its extent and its tokens holds of the whole.
use Rattle.std.proofs.Common.{◌≡◌, ℕ, List, ◌∷◌, ◌++◌, map, length, Option, Some, None, codes, [], Bool}
use Rattle.std.specs.List.{flat_map}
use Rattle.std.proofs.lemmas.List.Folds.{flat_map-map}
use Rattle.std.proofs.lemmas.Simd.{map-map}
use Rattle.jade_base.specs.declared.place.Pos.{Pos}
use Rattle.jade_syntax.specs.declared.shapes.extent.Extent.{Extent}
use Rattle.jade_syntax.specs.declared.tree.Relation.{Relation}
use Rattle.jade_syntax.specs.declared.tree.SumOp.{SumOp}
use Rattle.jade_syntax.specs.declared.tree.ProductOp.{ProductOp}
use Rattle.jade_syntax.specs.declared.tree.Atom.{Atom, fold-roll-Atom, map-Atom}
use Rattle.jade_syntax.specs.declared.tree.Atom.TheOpen.{Atom-F, CellRef-F, Compare-F}
use Rattle.jade_syntax.specs.declared.tree.AndExpr.{AndExpr, fold-roll-AndExpr}
use Rattle.jade_syntax.specs.declared.tree.CellRef.{CellRef, fold-roll-CellRef, map-CellRef}
use Rattle.jade_syntax.specs.declared.tree.Compare.{Compare, fold-roll-Compare, map-Compare}
use Rattle.jade_syntax.specs.declared.tree.Expr.{Expr, fold-roll-Expr, ind-Expr}
use Rattle.jade_syntax.specs.declared.tree.Product.{Product, fold-roll-Product}
use Rattle.jade_syntax.specs.declared.tree.Sum.{Sum, fold-roll-Sum}
use Rattle.jade_syntax.specs.declared.tree.Number.{Number}
use Rattle.jade_syntax.specs.declared.tree.UnaryOp.{UnaryOp}
use Rattle.jade_syntax.specs.declared.tree.Unary.{Unary, fold_out-Unary}
use Rattle.jade_syntax.specs.Shapes.{◌⊕◌, nothing, signs, all_of, in_brackets, name_extent, number_extent}
use Rattle.jade_syntax.specs.Shapes.{atom_extent, and_extent, cell_extent, compare_extent, expr_extent}
use Rattle.jade_syntax.specs.Shapes.{product_extent, sum_extent, unary_extent, at_atom as e_atom}
use Rattle.jade_syntax.specs.Shapes.{at_and as e_and, at_cell as e_cell, at_compare as e_compare}
use Rattle.jade_syntax.specs.Shapes.{at_expr as e_expr, at_product as e_product, at_sum as e_sum}
use Rattle.jade_syntax.specs.Shapes.{at_unary as e_unary}
use Rattle.jade_layout.specs.Spelling.{Token, Tokens, relation_sign, unary_sign, number_token, truth_word}
use Rattle.jade_layout.specs.Spelling.{bracketed, atom_tokens, and_tokens, cell_tokens, compare_tokens}
use Rattle.jade_layout.specs.Spelling.{expr_tokens, product_tokens, sum_tokens, unary_tokens, at_atom, at_and}
use Rattle.jade_layout.specs.Spelling.{at_cell, at_compare, at_expr, at_product, at_sum, at_unary, sum_sign}
use Rattle.jade_layout.specs.Spelling.{product_sign}
use Rattle.jade_layout.proofs.Opened.{unary_opens}

unary_measured : (e : Unary) → unary_extent e ≡ signs (length e.signs) ⊕ atom_extent e.atom
unary_measured e = fold_out-Unary Extent Extent Extent Extent Extent Extent Extent Extent e_atom e_and e_cell e_compare e_expr e_product e_sum e_unary e

module _ (Holds : Extent → Tokens → Type 0) (Mark : Token → Type 0)
    (or_mark : Mark (codes "||")) (and_mark : Mark (codes "&&")) (sum_mark : (o : SumOp) → Mark (sum_sign o))
    (product_mark : (o : ProductOp) → Mark (product_sign o))
    (chain : (P : Type 0) (x : Extent) (first : Tokens) (g : P → Extent) (f : P → Tokens) (op : P → Token) → ((p : P) → Mark (op p))
    → ((p : P) → Holds (g p) (f p)) → Holds x first →
    (ps : List P) → Holds (x ⊕ all_of (map (λ p. signs 1 ⊕ g p) ps)) (first ++ flat_map (λ p. op p ∷ f p) ps))
    (signed : (x : Extent) (ts : Tokens) (ss : List (UnaryOp × Pos)) → Holds x ts
    → Holds (signs (length ss) ⊕ x) (flat_map (λ (p : UnaryOp × Pos). unary_sign p.0 ∷ []) ss ++ ts))
    (number : (n : Number) → Holds (number_extent n) (number_token n ∷ [])) (name : (n : Token) → Holds (name_extent n) (n ∷ []))
    (truth : (b : Bool) → Holds (signs 1) (truth_word b ∷ []))
    (group : (x : Extent) (ts : Tokens) → Holds x ts → Holds (in_brackets x) (codes "(" ∷ (ts ++ codes ")" ∷ [])))
    (single : (x : Extent) (ts : Tokens) (n : Token) → Holds x ts → Holds (name_extent n ⊕ nothing ⊕ in_brackets x) (n ∷ ([] ++ bracketed ts)))
    (member : (x y : Extent) (a b : Tokens) (n : Token) → Holds x a → Holds y b
    → Holds (name_extent n ⊕ in_brackets x ⊕ in_brackets y) (n ∷ (bracketed a ++ bracketed b)))
    (alone : (x : Extent) (ts : Tokens) → Holds x ts → Holds (x ⊕ nothing) (ts ++ []))
    (pair : (x y : Extent) (a b : Tokens) (o : Relation) → Holds x a → Holds y b → Holds (x ⊕ (signs 1 ⊕ y)) (a ++ relation_sign o ∷ b)) where
  and_layer : {D : Type 0} (d : D → Compare) → ((x : D) → Holds (compare_extent (d x)) (compare_tokens (d x))) → (x : D) (xs : List (Pos × D))
      → Holds (compare_extent (d x) ⊕ all_of (map (λ (p : Pos × D). signs 1 ⊕ compare_extent (d p.1)) xs))
      (compare_tokens (d x) ++ flat_map (λ (p : Pos × D). codes "&&" ∷ compare_tokens (d p.1)) xs)
  and_layer {D = D} d each x xs =
      chain _ _ _ (λ (p : Pos × D). compare_extent (d p.1)) (λ (p : Pos × D). compare_tokens (d p.1)) (λ p. codes "&&") (λ p. and_mark) (λ p. each p.1) (each x)
      xs

  expr_layer : {B : Type 0} (b : B → AndExpr) → ((x : B) → Holds (and_extent (b x)) (and_tokens (b x))) → (x : B) (xs : List (Pos × B))
      → Holds (and_extent (b x) ⊕ all_of (map (λ (p : Pos × B). signs 1 ⊕ and_extent (b p.1)) xs))
      (and_tokens (b x) ++ flat_map (λ (p : Pos × B). codes "||" ∷ and_tokens (b p.1)) xs)
  expr_layer {B = B} b each x xs =
      chain _ _ _ (λ (p : Pos × B). and_extent (b p.1)) (λ (p : Pos × B). and_tokens (b p.1)) (λ p. codes "||") (λ p. or_mark) (λ p. each p.1) (each x) xs

  product_layer : {H : Type 0} (h : H → Unary) → ((x : H) → Holds (unary_extent (h x)) (unary_tokens (h x))) → (x : H) (xs : List (ProductOp × Pos × H))
      → Holds (unary_extent (h x) ⊕ all_of (map (λ (p : ProductOp × Pos × H). signs 1 ⊕ unary_extent (h p.2)) xs))
      (unary_tokens (h x) ++ flat_map (λ (p : ProductOp × Pos × H). product_sign p.0 ∷ unary_tokens (h p.2)) xs)
  product_layer {H = H} h each x xs =
      chain _ _ _ (λ (p : ProductOp × Pos × H). unary_extent (h p.2)) (λ (p : ProductOp × Pos × H). unary_tokens (h p.2)) (λ p. product_sign p.0)
      (λ p. product_mark p.0) (λ p. each p.2) (each x) xs

  sum_layer : {F : Type 0} (f : F → Product) → ((x : F) → Holds (product_extent (f x)) (product_tokens (f x))) → (x : F) (xs : List (SumOp × Pos × F))
      → Holds (product_extent (f x) ⊕ all_of (map (λ (p : SumOp × Pos × F). signs 1 ⊕ product_extent (f p.2)) xs))
      (product_tokens (f x) ++ flat_map (λ (p : SumOp × Pos × F). sum_sign p.0 ∷ product_tokens (f p.2)) xs)
  sum_layer {F = F} f each x xs =
      chain _ _ _ (λ (p : SumOp × Pos × F). product_extent (f p.2)) (λ (p : SumOp × Pos × F). product_tokens (f p.2)) (λ p. sum_sign p.0) (λ p. sum_mark p.0)
      (λ p. each p.2) (each x) xs

  module _ {A B C D E F G H : Type 0} (a : A → Atom) (b : B → AndExpr) (c : C → CellRef) (d : D → Compare) (e : E → Expr) (f : F → Product) (g : G → Sum)
      (h : H → Unary)
      (cells : (x : C) → Holds (cell_extent (c x)) (cell_tokens (c x))) (exprs : (x : E) → Holds (expr_extent (e x)) (expr_tokens (e x)))
      (sums : (x : G) → Holds (sum_extent (g x)) (sum_tokens (g x))) where
    atom_layer : (y : Atom-F A B C D E F G H)
        → Holds (e_atom (map-Atom Atom AndExpr CellRef Compare Expr Product Sum Unary Extent Extent Extent Extent Extent Extent Extent Extent atom_extent
        and_extent cell_extent compare_extent expr_extent product_extent sum_extent unary_extent
        (map-Atom A B C D E F G H Atom AndExpr CellRef Compare Expr Product Sum Unary a b c d e f g h y)))
        (at_atom (map-Atom Atom AndExpr CellRef Compare Expr Product Sum Unary Tokens Tokens Tokens Tokens Tokens Tokens Tokens Tokens atom_tokens and_tokens
        cell_tokens compare_tokens expr_tokens product_tokens sum_tokens unary_tokens
        (map-Atom A B C D E F G H Atom AndExpr CellRef Compare Expr Product Sum Unary a b c d e f g h y)))
    atom_layer (Atom-F.Whole n) = number n
    atom_layer (Atom-F.Truth t p) = truth t
    atom_layer (Atom-F.Group p x) = group _ _ (exprs x.value)
    atom_layer (Atom-F.Named n p) = name n
    atom_layer (Atom-F.Cell x) = cells x.value

    cell_at : (n : List ℕ) (p : Pos) (o : Option E) (x : E)
        → Holds (e_cell (map-CellRef Atom AndExpr CellRef Compare Expr Product Sum Unary Extent Extent Extent Extent Extent Extent Extent Extent atom_extent
        and_extent cell_extent compare_extent expr_extent product_extent sum_extent unary_extent
        (map-CellRef A B C D E F G H Atom AndExpr CellRef Compare Expr Product Sum Unary a b c d e f g h (record { name = n; pos = p; family = o; cell = x }))))
        (at_cell (map-CellRef Atom AndExpr CellRef Compare Expr Product Sum Unary Tokens Tokens Tokens Tokens Tokens Tokens Tokens Tokens atom_tokens and_tokens
        cell_tokens compare_tokens expr_tokens product_tokens sum_tokens unary_tokens
        (map-CellRef A B C D E F G H Atom AndExpr CellRef Compare Expr Product Sum Unary a b c d e f g h (record { name = n; pos = p; family = o; cell = x }))))
    cell_at n p None x = single _ _ n (exprs x)
    cell_at n p (Some o) x = member _ _ _ _ n (exprs o) (exprs x)

    compare_at : (x : G) (o : Option (Relation × Pos × G))
        → Holds (e_compare (map-Compare Atom AndExpr CellRef Compare Expr Product Sum Unary Extent Extent Extent Extent Extent Extent Extent Extent atom_extent
        and_extent cell_extent compare_extent expr_extent product_extent sum_extent unary_extent
        (map-Compare A B C D E F G H Atom AndExpr CellRef Compare Expr Product Sum Unary a b c d e f g h (record { left = x; right = o }))))
        (at_compare (map-Compare Atom AndExpr CellRef Compare Expr Product Sum Unary Tokens Tokens Tokens Tokens Tokens Tokens Tokens Tokens atom_tokens
        and_tokens cell_tokens compare_tokens expr_tokens product_tokens sum_tokens unary_tokens
        (map-Compare A B C D E F G H Atom AndExpr CellRef Compare Expr Product Sum Unary a b c d e f g h (record { left = x; right = o }))))
    compare_at x None = alone _ _ (sums x)
    compare_at x (Some r) = pair _ _ _ _ r.0 (sums x) (sums r.2)

    cell_layer : (y : CellRef-F A B C D E F G H)
        → Holds (e_cell (map-CellRef Atom AndExpr CellRef Compare Expr Product Sum Unary Extent Extent Extent Extent Extent Extent Extent Extent atom_extent
        and_extent cell_extent compare_extent expr_extent product_extent sum_extent unary_extent
        (map-CellRef A B C D E F G H Atom AndExpr CellRef Compare Expr Product Sum Unary a b c d e f g h y)))
        (at_cell (map-CellRef Atom AndExpr CellRef Compare Expr Product Sum Unary Tokens Tokens Tokens Tokens Tokens Tokens Tokens Tokens atom_tokens and_tokens
        cell_tokens compare_tokens expr_tokens product_tokens sum_tokens unary_tokens
        (map-CellRef A B C D E F G H Atom AndExpr CellRef Compare Expr Product Sum Unary a b c d e f g h y)))
    cell_layer y = cell_at y.name y.pos y.family y.cell

    compare_layer : (y : Compare-F A B C D E F G H)
        → Holds (e_compare (map-Compare Atom AndExpr CellRef Compare Expr Product Sum Unary Extent Extent Extent Extent Extent Extent Extent Extent atom_extent
        and_extent cell_extent compare_extent expr_extent product_extent sum_extent unary_extent
        (map-Compare A B C D E F G H Atom AndExpr CellRef Compare Expr Product Sum Unary a b c d e f g h y)))
        (at_compare (map-Compare Atom AndExpr CellRef Compare Expr Product Sum Unary Tokens Tokens Tokens Tokens Tokens Tokens Tokens Tokens atom_tokens
        and_tokens cell_tokens compare_tokens expr_tokens product_tokens sum_tokens unary_tokens
        (map-Compare A B C D E F G H Atom AndExpr CellRef Compare Expr Product Sum Unary a b c d e f g h y)))
    compare_layer y = compare_at y.left y.right

  pub expr_holds : (e : Expr) → Holds (expr_extent e) (expr_tokens e)
  expr_holds e = ind-Expr (λ a. Holds (atom_extent a) (atom_tokens a)) (λ a. Holds (and_extent a) (and_tokens a)) (λ c. Holds (cell_extent c) (cell_tokens c))
      (λ c. Holds (compare_extent c) (compare_tokens c)) (λ e. Holds (expr_extent e) (expr_tokens e)) (λ p. Holds (product_extent p) (product_tokens p))
      (λ s. Holds (sum_extent s) (sum_tokens s)) (λ u. Holds (unary_extent u) (unary_tokens u))
      (λ x y k. rw (← k) (rw (
        fold-roll-Atom Extent Extent Extent Extent Extent Extent Extent Extent e_atom e_and e_cell e_compare e_expr e_product e_sum
            e_unary,
        fold-roll-Atom Tokens Tokens Tokens Tokens Tokens Tokens Tokens Tokens at_atom at_and at_cell at_compare at_expr at_product at_sum at_unary,
      )
      (atom_layer (λ z. z.0) (λ z. z.0) (λ z. z.0) (λ z. z.0) (λ z. z.0) (λ z. z.0) (λ z. z.0) (λ z. z.0) (λ z. z.1) (λ z. z.1) (λ z. z.1) y)))
      (λ x y k. rw (← k) (rw (
        fold-roll-AndExpr Extent Extent Extent Extent Extent Extent Extent Extent e_atom e_and e_cell e_compare e_expr e_product e_sum
            e_unary,
        fold-roll-AndExpr Tokens Tokens Tokens Tokens Tokens Tokens Tokens Tokens at_atom at_and at_cell at_compare at_expr at_product at_sum
            at_unary,
      ) (simp (flat_map-map, map-map) (and_layer (λ z. z.0) (λ z. z.1) y.first y.rest))))
      (λ x y k. rw (← k) (rw (
        fold-roll-CellRef Extent Extent Extent Extent Extent Extent Extent Extent e_atom e_and e_cell e_compare e_expr e_product e_sum
            e_unary,
        fold-roll-CellRef Tokens Tokens Tokens Tokens Tokens Tokens Tokens Tokens at_atom at_and at_cell at_compare at_expr at_product at_sum
            at_unary,
      ) (cell_layer (λ z. z.0) (λ z. z.0) (λ z. z.0) (λ z. z.0) (λ z. z.0) (λ z. z.0) (λ z. z.0) (λ z. z.0) (λ z. z.1) (λ z. z.1) (λ z. z.1) y)))
      (λ x y k. rw (← k) (rw (
        fold-roll-Compare Extent Extent Extent Extent Extent Extent Extent Extent e_atom e_and e_cell e_compare e_expr e_product e_sum
            e_unary,
        fold-roll-Compare Tokens Tokens Tokens Tokens Tokens Tokens Tokens Tokens at_atom at_and at_cell at_compare at_expr at_product at_sum
            at_unary,
      ) (compare_layer (λ z. z.0) (λ z. z.0) (λ z. z.0) (λ z. z.0) (λ z. z.0) (λ z. z.0) (λ z. z.0) (λ z. z.0) (λ z. z.1) (λ z. z.1) (λ z. z.1) y)))
      (λ x y k. rw (← k) (rw (
        fold-roll-Expr Extent Extent Extent Extent Extent Extent Extent Extent e_atom e_and e_cell e_compare e_expr e_product e_sum
            e_unary,
        fold-roll-Expr Tokens Tokens Tokens Tokens Tokens Tokens Tokens Tokens at_atom at_and at_cell at_compare at_expr at_product at_sum at_unary,
      )
      (simp (flat_map-map, map-map) (expr_layer (λ z. z.0) (λ z. z.1) y.first y.rest))))
      (λ x y k. rw (← k) (rw (
        fold-roll-Product Extent Extent Extent Extent Extent Extent Extent Extent e_atom e_and e_cell e_compare e_expr e_product e_sum
            e_unary,
        fold-roll-Product Tokens Tokens Tokens Tokens Tokens Tokens Tokens Tokens at_atom at_and at_cell at_compare at_expr at_product at_sum
            at_unary,
      ) (simp (flat_map-map, map-map) (product_layer (λ z. z.0) (λ z. z.1) y.first y.rest))))
      (λ x y k. rw (← k) (rw (
        fold-roll-Sum Extent Extent Extent Extent Extent Extent Extent Extent e_atom e_and e_cell e_compare e_expr e_product e_sum
            e_unary,
        fold-roll-Sum Tokens Tokens Tokens Tokens Tokens Tokens Tokens Tokens at_atom at_and at_cell at_compare at_expr at_product at_sum at_unary,
      )
      (simp (flat_map-map, map-map) (sum_layer (λ z. z.0) (λ z. z.1) y.first y.rest))))
      (λ x y k. rw (← k) (rw (unary_measured, unary_opens) (signed _ _ y.signs y.atom.1))) e
