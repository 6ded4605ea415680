-- The bytes of a program's parts are the tokens of its printed layout.
use Rattle.std.proofs.Common.{◌≡◌, ℕ, List, [], ◌∷◌, ◌++◌, Option, Some, None, refl, map, codes, true, false}
use Rattle.std.specs.List.{flat_map}
use Rattle.std.proofs.lemmas.List.{map-append}
use Rattle.std.proofs.lemmas.List.Folds.{flat_map-map}
use Rattle.jade_base.specs.declared.place.Pos.{Pos}
use Rattle.jade_syntax.specs.declared.tree.Relation.{Relation}
use Rattle.jade_syntax.specs.declared.tree.Relation.TheVariants.{Equal, Unequal, Less, LessEqual, Greater, GreaterEqual}
use Rattle.jade_syntax.specs.declared.tree.SumOp.{SumOp}
use Rattle.jade_syntax.specs.declared.tree.SumOp.TheVariants.{Plus, Minus}
use Rattle.jade_syntax.specs.declared.tree.ProductOp.{ProductOp}
use Rattle.jade_syntax.specs.declared.tree.ProductOp.TheVariants.{Times, Over, Remainder}
use Rattle.jade_syntax.specs.declared.tree.UnaryOp.{UnaryOp}
use Rattle.jade_syntax.specs.declared.tree.UnaryOp.TheVariants.{Negative, Not}
use Rattle.jade_syntax.specs.declared.tree.Atom.{Atom, fold-roll-Atom, map-Atom}
use Rattle.jade_syntax.specs.declared.tree.Atom.TheOpen.{Atom-F, CellRef-F, Compare-F}
use Rattle.jade_syntax.specs.declared.tree.AndExpr.{AndExpr, fold-roll-AndExpr}
use Rattle.jade_syntax.specs.declared.tree.CellRef.{CellRef, fold-roll-CellRef, map-CellRef}
use Rattle.jade_syntax.specs.declared.tree.Compare.{Compare, fold-roll-Compare, map-Compare}
use Rattle.jade_syntax.specs.declared.tree.Expr.{Expr, fold-roll-Expr, ind-Expr}
use Rattle.jade_syntax.specs.declared.tree.Product.{Product, fold-roll-Product}
use Rattle.jade_syntax.specs.declared.tree.Sum.{Sum, fold-roll-Sum}
use Rattle.jade_syntax.specs.declared.tree.Unary.{Unary, fold_out-Unary}
use Rattle.jade_parser.specs.Spelled.{Part, Parts, marked, fixed, Fixed, Called, bracketed, expr_parts}
use Rattle.jade_parser.specs.Spelled.{and_parts, compare_parts, sum_parts, product_parts, unary_parts}
use Rattle.jade_parser.specs.Spelled.{atom_parts, cell_parts, sum_sign, product_sign, unary_sign}
use Rattle.jade_parser.specs.Spelled.{relation_sign, at_atom, at_and, at_cell, at_compare, at_expr}
use Rattle.jade_parser.specs.Spelled.{at_product, at_sum, at_unary}
use Rattle.jade_parser.specs.declared.Sign.TheVariants.{OrSign, AndSign, LeftBracket, RightBracket, LeftParen, RightParen}
use Rattle.jade_parser.specs.Kinds.{token_bytes}
use Rattle.jade_parser.specs.Grammar.{bytes_of}
use Rattle.jade_parser.proofs.Spelling.{unary_opens as unary_parts_open}
use Rattle.jade_layout.specs.Spelling as layout

abbrev Texts : Type 0
Texts = List (List ℕ)

-- the parts have these bytes
pub record Alike (ps : Parts) (ts : Texts) : Type 0 where
  pub is : bytes_of ps ≡ ts

pub none : Alike [] []
none = record { is = refl }

pub one : {ps : Parts} {ts : Texts} (p : Part) (t : List ℕ) → token_bytes p.token ≡ t → Alike ps ts → Alike (p ∷ ps) (t ∷ ts)
one p t e a = record { is = rw (e, a.is) refl }

pub joined : {a b : Parts} {u v : Texts} → Alike a u → Alike b v → Alike (a ++ b) (u ++ v)
joined {a} {b} {u} {v} p q = record {
  is =
      rw (map-append (λ (x : Part). x.token) a b, map-append token_bytes (map (λ (x : Part). x.token) a) (map (λ (x : Part). x.token) b), p.is, q.is) refl;
}

pub flat : {A : Type 0} (f : A → Parts) (g : A → Texts) (xs : List A) → ((x : A) → Alike (f x) (g x)) → Alike (flat_map f xs) (flat_map g xs)
flat f g [] h = none
flat f g (x ∷ xs) h = joined (h x) (flat f g xs h)

sum_is : (o : SumOp) → token_bytes (sum_sign o) ≡ layout.sum_sign o
sum_is Plus = refl
sum_is Minus = refl

product_is : (o : ProductOp) → token_bytes (product_sign o) ≡ layout.product_sign o
product_is Times = refl
product_is Over = refl
product_is Remainder = refl

relation_is : (o : Relation) → token_bytes (relation_sign o) ≡ layout.relation_sign o
relation_is Equal = refl
relation_is Unequal = refl
relation_is Less = refl
relation_is LessEqual = refl
relation_is Greater = refl
relation_is GreaterEqual = refl

unary_is : (o : UnaryOp) → token_bytes (unary_sign o) ≡ layout.unary_sign o
unary_is Negative = refl
unary_is Not = refl

pub index_alike : {ps : Parts} {ts : Texts} → Alike ps ts → Alike (bracketed ps) (layout.bracketed ts)
index_alike a = one (fixed LeftBracket) (codes "[") refl (joined a (one (fixed RightBracket) (codes "]") refl none))

and_layer : {D : Type 0} (d : D → Compare) (same : (x : D) → Alike (compare_parts (d x)) (layout.compare_tokens (d x))) (x : D) (xs : List (Pos × D))
    → Alike (compare_parts (d x) ++ flat_map (λ (p : Pos × D). marked (Fixed AndSign) p.0 ∷ compare_parts (d p.1)) xs)
    (layout.compare_tokens (d x) ++ flat_map (λ (p : Pos × D). codes "&&" ∷ layout.compare_tokens (d p.1)) xs)
and_layer {D} d same x xs = joined (same x)
    (flat (λ (p : Pos × D). marked (Fixed AndSign) p.0 ∷ compare_parts (d p.1)) (λ (p : Pos × D). codes "&&" ∷ layout.compare_tokens (d p.1)) xs
    (λ p. one (marked (Fixed AndSign) p.0) (codes "&&") refl (same p.1)))

expr_layer : {B : Type 0} (b : B → AndExpr) (same : (x : B) → Alike (and_parts (b x)) (layout.and_tokens (b x))) (x : B) (xs : List (Pos × B))
    → Alike (and_parts (b x) ++ flat_map (λ (p : Pos × B). marked (Fixed OrSign) p.0 ∷ and_parts (b p.1)) xs)
    (layout.and_tokens (b x) ++ flat_map (λ (p : Pos × B). codes "||" ∷ layout.and_tokens (b p.1)) xs)
expr_layer {B} b same x xs = joined (same x)
    (flat (λ (p : Pos × B). marked (Fixed OrSign) p.0 ∷ and_parts (b p.1)) (λ (p : Pos × B). codes "||" ∷ layout.and_tokens (b p.1)) xs
    (λ p. one (marked (Fixed OrSign) p.0) (codes "||") refl (same p.1)))

product_layer : {H : Type 0} (h : H → Unary) (same : (x : H) → Alike (unary_parts (h x)) (layout.unary_tokens (h x))) (x : H)
    (xs : List (ProductOp × Pos × H))
    → Alike (unary_parts (h x) ++ flat_map (λ (p : ProductOp × Pos × H). marked (product_sign p.0) p.1 ∷ unary_parts (h p.2)) xs)
    (layout.unary_tokens (h x) ++ flat_map (λ (p : ProductOp × Pos × H). layout.product_sign p.0 ∷ layout.unary_tokens (h p.2)) xs)
product_layer {H} h same x xs =
    joined (same x) (flat (λ (p : ProductOp × Pos × H). marked (product_sign p.0) p.1 ∷ unary_parts (h p.2))
    (λ (p : ProductOp × Pos × H). layout.product_sign p.0 ∷ layout.unary_tokens (h p.2)) xs
    (λ p. one (marked (product_sign p.0) p.1) (layout.product_sign p.0) (product_is p.0) (same p.2)))

sum_layer : {F : Type 0} (f : F → Product) (same : (x : F) → Alike (product_parts (f x)) (layout.product_tokens (f x))) (x : F)
    (xs : List (SumOp × Pos × F))
    → Alike (product_parts (f x) ++ flat_map (λ (p : SumOp × Pos × F). marked (sum_sign p.0) p.1 ∷ product_parts (f p.2)) xs)
    (layout.product_tokens (f x) ++ flat_map (λ (p : SumOp × Pos × F). layout.sum_sign p.0 ∷ layout.product_tokens (f p.2)) xs)
sum_layer {F} f same x xs = joined (same x)
    (flat (λ (p : SumOp × Pos × F). marked (sum_sign p.0) p.1 ∷ product_parts (f p.2))
    (λ (p : SumOp × Pos × F). layout.sum_sign p.0 ∷ layout.product_tokens (f p.2)) xs
    (λ p. one (marked (sum_sign p.0) p.1) (layout.sum_sign p.0) (sum_is p.0) (same p.2)))

unary_opens : (u : Unary) → layout.unary_tokens u ≡ flat_map (λ (p : UnaryOp × Pos). layout.unary_sign p.0 ∷ []) u.signs ++ layout.atom_tokens u.atom
unary_opens u = fold_out-Unary Texts Texts Texts Texts Texts Texts Texts Texts layout.at_atom layout.at_and layout.at_cell layout.at_compare layout.at_expr
    layout.at_product layout.at_sum layout.at_unary u

unary_layer : {A : Type 0} (a : A → Atom) (same : (x : A) → Alike (atom_parts (a x)) (layout.atom_tokens (a x))) (xs : List (UnaryOp × Pos)) (x : A)
    → Alike (flat_map (λ (p : UnaryOp × Pos). marked (unary_sign p.0) p.1 ∷ []) xs ++ atom_parts (a x))
    (flat_map (λ (p : UnaryOp × Pos). layout.unary_sign p.0 ∷ []) xs ++ layout.atom_tokens (a x))
unary_layer a same xs x = joined
    (flat (λ (p : UnaryOp × Pos). marked (unary_sign p.0) p.1 ∷ []) (λ (p : UnaryOp × Pos). layout.unary_sign p.0 ∷ []) xs
    (λ p. one (marked (unary_sign p.0) p.1) (layout.unary_sign p.0) (unary_is p.0) none)) (same x)

module _ {A B C D E F G H : Type 0} (a : A → Atom) (b : B → AndExpr) (c : C → CellRef) (d : D → Compare) (e : E → Expr) (f : F → Product) (g : G → Sum)
    (h : H → Unary)
    (cells : (x : C) → Alike (cell_parts (c x)) (layout.cell_tokens (c x))) (exprs : (x : E) → Alike (expr_parts (e x)) (layout.expr_tokens (e x)))
    (sums : (x : G) → Alike (sum_parts (g x)) (layout.sum_tokens (g x))) where
  atom_layer : (y : Atom-F A B C D E F G H) → Alike
      (at_atom (map-Atom Atom AndExpr CellRef Compare Expr Product Sum Unary Parts Parts Parts Parts Parts Parts Parts Parts atom_parts and_parts
      cell_parts compare_parts expr_parts product_parts sum_parts unary_parts
      (map-Atom A B C D E F G H Atom AndExpr CellRef Compare Expr Product Sum Unary a b c d e f g h y)))
      (layout.at_atom (map-Atom Atom AndExpr CellRef Compare Expr Product Sum Unary Texts Texts Texts Texts Texts Texts Texts Texts layout.atom_tokens
      layout.and_tokens layout.cell_tokens layout.compare_tokens layout.expr_tokens layout.product_tokens layout.sum_tokens layout.unary_tokens
      (map-Atom A B C D E F G H Atom AndExpr CellRef Compare Expr Product Sum Unary a b c d e f g h y)))
  atom_layer (Atom-F.Whole n) = record { is = refl }
  atom_layer (Atom-F.Truth true p) = record { is = refl }
  atom_layer (Atom-F.Truth false p) = record { is = refl }
  atom_layer (Atom-F.Group p x) = one (marked (Fixed LeftParen) p) (codes "(") refl (joined (exprs x.value) (one (fixed RightParen) (codes ")") refl none))
  atom_layer (Atom-F.Named n p) = record { is = refl }
  atom_layer (Atom-F.Cell x) = cells x.value

  cell_at : (n : List ℕ) (p : Pos) (o : Option E) (x : E) → Alike
      (at_cell (map-CellRef Atom AndExpr CellRef Compare Expr Product Sum Unary Parts Parts Parts Parts Parts Parts Parts Parts atom_parts and_parts
      cell_parts compare_parts expr_parts product_parts sum_parts unary_parts
      (map-CellRef A B C D E F G H Atom AndExpr CellRef Compare Expr Product Sum Unary a b c d e f g h
      (record { name = n; pos = p; family = o; cell = x }))))
      (layout.at_cell (map-CellRef Atom AndExpr CellRef Compare Expr Product Sum Unary Texts Texts Texts Texts Texts Texts Texts Texts layout.atom_tokens
      layout.and_tokens layout.cell_tokens layout.compare_tokens layout.expr_tokens layout.product_tokens layout.sum_tokens layout.unary_tokens
      (map-CellRef A B C D E F G H Atom AndExpr CellRef Compare Expr Product Sum Unary a b c d e f g h
      (record { name = n; pos = p; family = o; cell = x }))))
  cell_at n p None x = one (marked (Called n) p) n refl (joined none (index_alike (exprs x)))
  cell_at n p (Some o) x = one (marked (Called n) p) n refl (joined (index_alike (exprs o)) (index_alike (exprs x)))

  compare_at : (x : G) (o : Option (Relation × Pos × G)) → Alike
      (at_compare (map-Compare Atom AndExpr CellRef Compare Expr Product Sum Unary Parts Parts Parts Parts Parts Parts Parts Parts atom_parts and_parts
      cell_parts compare_parts expr_parts product_parts sum_parts unary_parts
      (map-Compare A B C D E F G H Atom AndExpr CellRef Compare Expr Product Sum Unary a b c d e f g h (record { left = x; right = o }))))
      (layout.at_compare (map-Compare Atom AndExpr CellRef Compare Expr Product Sum Unary Texts Texts Texts Texts Texts Texts Texts Texts
      layout.atom_tokens layout.and_tokens layout.cell_tokens layout.compare_tokens layout.expr_tokens layout.product_tokens layout.sum_tokens
      layout.unary_tokens (map-Compare A B C D E F G H Atom AndExpr CellRef Compare Expr Product Sum Unary a b c d e f g h
      (record { left = x; right = o }))))
  compare_at x None = joined (sums x) none
  compare_at x (Some r) = joined (sums x) (one (marked (relation_sign r.0) r.1) (layout.relation_sign r.0) (relation_is r.0) (sums r.2))

  cell_layer : (y : CellRef-F A B C D E F G H) → Alike
      (at_cell (map-CellRef Atom AndExpr CellRef Compare Expr Product Sum Unary Parts Parts Parts Parts Parts Parts Parts Parts atom_parts and_parts
      cell_parts compare_parts expr_parts product_parts sum_parts unary_parts
      (map-CellRef A B C D E F G H Atom AndExpr CellRef Compare Expr Product Sum Unary a b c d e f g h y)))
      (layout.at_cell (map-CellRef Atom AndExpr CellRef Compare Expr Product Sum Unary Texts Texts Texts Texts Texts Texts Texts Texts layout.atom_tokens
      layout.and_tokens layout.cell_tokens layout.compare_tokens layout.expr_tokens layout.product_tokens layout.sum_tokens layout.unary_tokens
      (map-CellRef A B C D E F G H Atom AndExpr CellRef Compare Expr Product Sum Unary a b c d e f g h y)))
  cell_layer y = cell_at y.name y.pos y.family y.cell

  compare_layer : (y : Compare-F A B C D E F G H) → Alike
      (at_compare (map-Compare Atom AndExpr CellRef Compare Expr Product Sum Unary Parts Parts Parts Parts Parts Parts Parts Parts atom_parts and_parts
      cell_parts compare_parts expr_parts product_parts sum_parts unary_parts
      (map-Compare A B C D E F G H Atom AndExpr CellRef Compare Expr Product Sum Unary a b c d e f g h y)))
      (layout.at_compare (map-Compare Atom AndExpr CellRef Compare Expr Product Sum Unary Texts Texts Texts Texts Texts Texts Texts Texts
      layout.atom_tokens layout.and_tokens layout.cell_tokens layout.compare_tokens layout.expr_tokens layout.product_tokens layout.sum_tokens
      layout.unary_tokens (map-Compare A B C D E F G H Atom AndExpr CellRef Compare Expr Product Sum Unary a b c d e f g h y)))
  compare_layer y = compare_at y.left y.right

pub expr_alike : (e : Expr) → Alike (expr_parts e) (layout.expr_tokens e)
expr_alike e = ind-Expr (λ a. Alike (atom_parts a) (layout.atom_tokens a)) (λ a. Alike (and_parts a) (layout.and_tokens a))
    (λ c. Alike (cell_parts c) (layout.cell_tokens c)) (λ c. Alike (compare_parts c) (layout.compare_tokens c))
    (λ e. Alike (expr_parts e) (layout.expr_tokens e))
    (λ p. Alike (product_parts p) (layout.product_tokens p)) (λ s. Alike (sum_parts s) (layout.sum_tokens s))
    (λ u. Alike (unary_parts u) (layout.unary_tokens u))
    (λ x y k. rw (← k) (rw (
      fold-roll-Atom Parts Parts Parts Parts Parts Parts Parts Parts at_atom at_and at_cell at_compare at_expr at_product at_sum
          at_unary,
      fold-roll-Atom Texts Texts Texts Texts Texts Texts Texts Texts layout.at_atom layout.at_and layout.at_cell layout.at_compare
          layout.at_expr layout.at_product layout.at_sum layout.at_unary,
    )
    (atom_layer (λ z. z.0) (λ z. z.0) (λ z. z.0) (λ z. z.0) (λ z. z.0) (λ z. z.0) (λ z. z.0) (λ z. z.0) (λ z. z.1) (λ z. z.1) (λ z. z.1) y)))
    (λ x y k. rw (← k) (rw (
      fold-roll-AndExpr Parts Parts Parts Parts Parts Parts Parts Parts at_atom at_and at_cell at_compare at_expr at_product at_sum
          at_unary,
      fold-roll-AndExpr Texts Texts Texts Texts Texts Texts Texts Texts layout.at_atom layout.at_and layout.at_cell layout.at_compare
          layout.at_expr layout.at_product layout.at_sum layout.at_unary,
    ) (simp flat_map-map (and_layer (λ z. z.0) (λ z. z.1) y.first y.rest))))
    (λ x y k. rw (← k) (rw (
      fold-roll-CellRef Parts Parts Parts Parts Parts Parts Parts Parts at_atom at_and at_cell at_compare at_expr at_product at_sum
          at_unary,
      fold-roll-CellRef Texts Texts Texts Texts Texts Texts Texts Texts layout.at_atom layout.at_and layout.at_cell layout.at_compare
          layout.at_expr layout.at_product layout.at_sum layout.at_unary,
    )
    (cell_layer (λ z. z.0) (λ z. z.0) (λ z. z.0) (λ z. z.0) (λ z. z.0) (λ z. z.0) (λ z. z.0) (λ z. z.0) (λ z. z.1) (λ z. z.1) (λ z. z.1) y)))
    (λ x y k. rw (← k) (rw (
      fold-roll-Compare Parts Parts Parts Parts Parts Parts Parts Parts at_atom at_and at_cell at_compare at_expr at_product at_sum
          at_unary,
      fold-roll-Compare Texts Texts Texts Texts Texts Texts Texts Texts layout.at_atom layout.at_and layout.at_cell layout.at_compare
          layout.at_expr layout.at_product layout.at_sum layout.at_unary,
    )
    (compare_layer (λ z. z.0) (λ z. z.0) (λ z. z.0) (λ z. z.0) (λ z. z.0) (λ z. z.0) (λ z. z.0) (λ z. z.0) (λ z. z.1) (λ z. z.1) (λ z. z.1) y)))
    (λ x y k. rw (← k) (rw (
      fold-roll-Expr Parts Parts Parts Parts Parts Parts Parts Parts at_atom at_and at_cell at_compare at_expr at_product at_sum
          at_unary,
      fold-roll-Expr Texts Texts Texts Texts Texts Texts Texts Texts layout.at_atom layout.at_and layout.at_cell layout.at_compare
          layout.at_expr layout.at_product layout.at_sum layout.at_unary,
    ) (simp flat_map-map (expr_layer (λ z. z.0) (λ z. z.1) y.first y.rest))))
    (λ x y k. rw (← k) (rw (
      fold-roll-Product Parts Parts Parts Parts Parts Parts Parts Parts at_atom at_and at_cell at_compare at_expr at_product at_sum
          at_unary,
      fold-roll-Product Texts Texts Texts Texts Texts Texts Texts Texts layout.at_atom layout.at_and layout.at_cell layout.at_compare
          layout.at_expr layout.at_product layout.at_sum layout.at_unary,
    ) (simp flat_map-map (product_layer (λ z. z.0) (λ z. z.1) y.first y.rest))))
    (λ x y k. rw (← k) (rw (
      fold-roll-Sum Parts Parts Parts Parts Parts Parts Parts Parts at_atom at_and at_cell at_compare at_expr at_product at_sum
          at_unary,
      fold-roll-Sum Texts Texts Texts Texts Texts Texts Texts Texts layout.at_atom layout.at_and layout.at_cell layout.at_compare
          layout.at_expr layout.at_product layout.at_sum layout.at_unary,
    ) (simp flat_map-map (sum_layer (λ z. z.0) (λ z. z.1) y.first y.rest))))
    (λ x y k. rw (← k) (rw (unary_parts_open, unary_opens) (unary_layer (λ z. z.0) (λ z. z.1) y.signs y.atom))) e
