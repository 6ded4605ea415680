-- The extent of an expression counts its parts, and is sound where each of them may stand in a program.
use Rattle.std.proofs.Common.{◌≡◌, ℕ, Bool, true, false, nat_le, List, [], ◌∷◌, ◌++◌, Option, Some, None, refl, ap, sym, ◌∙◌, map, length, arith}
use Rattle.std.specs.List.{flat_map, list_all}
use Rattle.std.proofs.lemmas.Simd.{map-map}
use Rattle.std.proofs.lemmas.List.Folds.{flat_map-map}
use Rattle.jade_base.specs.declared.place.Pos.{Pos}
use Rattle.jade_syntax.specs.declared.shapes.extent.Extent.{Extent}
use Rattle.jade_syntax.specs.declared.tree.Relation.{Relation}
use Rattle.jade_syntax.specs.declared.tree.Relation.TheVariants.{Equal, Unequal, Less, LessEqual, Greater, GreaterEqual}
use Rattle.jade_syntax.specs.declared.tree.SumOp.{SumOp}
use Rattle.jade_syntax.specs.declared.tree.SumOp.TheVariants.{Plus, Minus}
use Rattle.jade_syntax.specs.declared.tree.ProductOp.{ProductOp}
use Rattle.jade_syntax.specs.declared.tree.ProductOp.TheVariants.{Times, Over, Remainder}
use Rattle.jade_syntax.specs.declared.tree.UnaryOp.{UnaryOp}
use Rattle.jade_syntax.specs.declared.tree.UnaryOp.TheVariants.{Negative, Not}
use Rattle.jade_syntax.specs.declared.tree.Atom.{Atom, fold-roll-Atom, map-Atom}
use Rattle.jade_syntax.specs.declared.tree.Atom.TheOpen.{Atom-F, CellRef-F, Compare-F}
use Rattle.jade_syntax.specs.declared.tree.AndExpr.{AndExpr, fold-roll-AndExpr}
use Rattle.jade_syntax.specs.declared.tree.CellRef.{CellRef, fold-roll-CellRef, map-CellRef}
use Rattle.jade_syntax.specs.declared.tree.Compare.{Compare, fold-roll-Compare, map-Compare}
use Rattle.jade_syntax.specs.declared.tree.Expr.{Expr, fold-roll-Expr, ind-Expr}
use Rattle.jade_syntax.specs.declared.tree.Product.{Product, fold-roll-Product}
use Rattle.jade_syntax.specs.declared.tree.Sum.{Sum, fold-roll-Sum}
use Rattle.jade_syntax.specs.declared.tree.Unary.{Unary}
use Rattle.jade_syntax.specs.Shapes as shapes
use Rattle.jade_syntax.specs.Shapes.{signs, ◌⊕◌, all_of, expr_extent, and_extent, compare_extent, sum_extent}
use Rattle.jade_syntax.specs.Shapes.{product_extent, unary_extent, atom_extent, cell_extent, outermost}
use Rattle.jade_syntax.proofs.Extents as extents
use Rattle.jade_parser.specs.declared.Sign.TheVariants.{OrSign, AndSign, LeftParen, RightParen, LeftBracket, RightBracket}
use Rattle.jade_parser.specs.Spelled.{Part, Parts, Fixed, marked, fixed, bracketed, relation_sign, sum_sign}
use Rattle.jade_parser.specs.Spelled.{product_sign, unary_sign, truth_word, is_valid, outer, expr_parts}
use Rattle.jade_parser.specs.Spelled.{and_parts, compare_parts, sum_parts, product_parts, unary_parts}
use Rattle.jade_parser.specs.Spelled.{atom_parts, cell_parts, at_atom, at_and, at_cell, at_compare, at_expr}
use Rattle.jade_parser.specs.Spelled.{at_product, at_sum, at_unary}
use Rattle.jade_parser.proofs.Spelling.{unary_opens}
use Rattle.jade_reading.proofs.ShapeOfParts.{valid, good, Tells, both_same, tells_none, tells_sign, tells_on}
use Rattle.jade_reading.proofs.ShapeOfParts.{tells_first, tells_brackets, tells_all, valid_name, valid_number}
use Rattle.jade_reading.proofs.ShapeOfParts.{length_numbered, good_outer}

relation_valid : (o : Relation) → is_valid (relation_sign o) ≡ true
relation_valid Equal = refl
relation_valid Unequal = refl
relation_valid Less = refl
relation_valid LessEqual = refl
relation_valid Greater = refl
relation_valid GreaterEqual = refl

sum_valid : (o : SumOp) → is_valid (sum_sign o) ≡ true
sum_valid Plus = refl
sum_valid Minus = refl

product_valid : (o : ProductOp) → is_valid (product_sign o) ≡ true
product_valid Times = refl
product_valid Over = refl
product_valid Remainder = refl

unary_valid : (o : UnaryOp) → is_valid (unary_sign o) ≡ true
unary_valid Negative = refl
unary_valid Not = refl

truth_valid : (b : Bool) → is_valid (truth_word b) ≡ true
truth_valid true = refl
truth_valid false = refl

index_tells : {e : Extent} {ps : Parts} → Tells valid e ps → Tells valid (shapes.in_brackets e) (bracketed ps)
index_tells t = tells_brackets (fixed LeftBracket) (fixed RightBracket) refl refl t

-- a chain of one level
chain_tells : {A : Type 0} (op : A → Part) (ext : A → Extent) (body : A → Parts) → ((x : A) → valid (op x) ≡ true)
    → ((x : A) → Tells valid (ext x) (body x)) → {e : Extent} {ps : Parts} → Tells valid e ps → (xs : List A)
    → Tells valid (e ⊕ all_of (map (λ x. signs 1 ⊕ ext x) xs)) (ps ++ flat_map (λ x. op x ∷ body x) xs)
chain_tells op ext body ok each first xs =
    tells_on first (tells_all (λ x. signs 1 ⊕ ext x) (λ x. op x ∷ body x) (λ x. tells_first (op x) (ok x) (each x)) xs)

-- the signs before an atom
signs_tell : (xs : List (UnaryOp × Pos)) → Tells valid (signs (length xs)) (flat_map (λ (p : UnaryOp × Pos). marked (unary_sign p.0) p.1 ∷ []) xs)
signs_tell [] = tells_none
signs_tell (x ∷ xs) = let t = tells_first (marked (unary_sign x.0) x.1) (unary_valid x.0) (signs_tell xs) in
    record { sound = t.sound; tokens = omega (arith, t.tokens) }

module _ {A B C D E F G H : Type 0} (a : A → Atom) (b : B → AndExpr) (c : C → CellRef) (d : D → Compare) (e : E → Expr) (f : F → Product) (g : G → Sum)
    (h : H → Unary)
    (cells : (x : C) → Tells valid (cell_extent (c x)) (cell_parts (c x))) (exprs : (x : E) → Tells valid (expr_extent (e x)) (expr_parts (e x)))
    (sums : (x : G) → Tells valid (sum_extent (g x)) (sum_parts (g x))) where
  atom_layer : (y : Atom-F A B C D E F G H)
      → Tells valid (shapes.at_atom (map-Atom Atom AndExpr CellRef Compare Expr Product Sum Unary Extent Extent Extent Extent Extent Extent Extent Extent
      atom_extent and_extent cell_extent compare_extent expr_extent product_extent sum_extent unary_extent
      (map-Atom A B C D E F G H Atom AndExpr CellRef Compare Expr Product Sum Unary a b c d e f g h y)))
      (at_atom (map-Atom Atom AndExpr CellRef Compare Expr Product Sum Unary Parts Parts Parts Parts Parts Parts Parts Parts atom_parts and_parts
      cell_parts compare_parts expr_parts product_parts sum_parts unary_parts
      (map-Atom A B C D E F G H Atom AndExpr CellRef Compare Expr Product Sum Unary a b c d e f g h y)))
  atom_layer (Atom-F.Whole n) = valid_number n
  atom_layer (Atom-F.Truth t p) = tells_sign (marked (truth_word t) p) (truth_valid t)
  atom_layer (Atom-F.Group p x) = tells_brackets (marked (Fixed LeftParen) p) (fixed RightParen) refl refl (exprs x.value)
  atom_layer (Atom-F.Named n p) = valid_name n p
  atom_layer (Atom-F.Cell x) = cells x.value

  cell_at : (n : List ℕ) (p : Pos) (o : Option E) (x : E)
      → Tells valid (shapes.at_cell (map-CellRef Atom AndExpr CellRef Compare Expr Product Sum Unary Extent Extent Extent Extent Extent Extent Extent
      Extent atom_extent and_extent cell_extent compare_extent expr_extent product_extent sum_extent unary_extent
      (map-CellRef A B C D E F G H Atom AndExpr CellRef Compare Expr Product Sum Unary a b c d e f g h
      (record { name = n; pos = p; family = o; cell = x }))))
      (at_cell (map-CellRef Atom AndExpr CellRef Compare Expr Product Sum Unary Parts Parts Parts Parts Parts Parts Parts Parts atom_parts and_parts
      cell_parts compare_parts expr_parts product_parts sum_parts unary_parts
      (map-CellRef A B C D E F G H Atom AndExpr CellRef Compare Expr Product Sum Unary a b c d e f g h
      (record { name = n; pos = p; family = o; cell = x }))))
  cell_at n p None x = tells_on (tells_on (valid_name n p) tells_none) (index_tells (exprs x))
  cell_at n p (Some o) x = tells_on (tells_on (valid_name n p) (index_tells (exprs o))) (index_tells (exprs x))

  compare_at : (x : G) (o : Option (Relation × Pos × G))
      → Tells valid (shapes.at_compare
      (map-Compare Atom AndExpr CellRef Compare Expr Product Sum Unary Extent Extent Extent Extent Extent Extent Extent Extent atom_extent and_extent
      cell_extent compare_extent expr_extent product_extent sum_extent unary_extent
      (map-Compare A B C D E F G H Atom AndExpr CellRef Compare Expr Product Sum Unary a b c d e f g h (record { left = x; right = o }))))
      (at_compare (map-Compare Atom AndExpr CellRef Compare Expr Product Sum Unary Parts Parts Parts Parts Parts Parts Parts Parts atom_parts and_parts
      cell_parts compare_parts expr_parts product_parts sum_parts unary_parts
      (map-Compare A B C D E F G H Atom AndExpr CellRef Compare Expr Product Sum Unary a b c d e f g h (record { left = x; right = o }))))
  compare_at x None = tells_on (sums x) tells_none
  compare_at x (Some o) = tells_on (sums x) (tells_first (marked (relation_sign o.0) o.1) (relation_valid o.0) (sums o.2))

  cell_layer : (y : CellRef-F A B C D E F G H)
      → Tells valid (shapes.at_cell (map-CellRef Atom AndExpr CellRef Compare Expr Product Sum Unary Extent Extent Extent Extent Extent Extent Extent
      Extent atom_extent and_extent cell_extent compare_extent expr_extent product_extent sum_extent unary_extent
      (map-CellRef A B C D E F G H Atom AndExpr CellRef Compare Expr Product Sum Unary a b c d e f g h y)))
      (at_cell (map-CellRef Atom AndExpr CellRef Compare Expr Product Sum Unary Parts Parts Parts Parts Parts Parts Parts Parts atom_parts and_parts
      cell_parts compare_parts expr_parts product_parts sum_parts unary_parts
      (map-CellRef A B C D E F G H Atom AndExpr CellRef Compare Expr Product Sum Unary a b c d e f g h y)))
  cell_layer y = cell_at y.name y.pos y.family y.cell

  compare_layer : (y : Compare-F A B C D E F G H)
      → Tells valid (shapes.at_compare
      (map-Compare Atom AndExpr CellRef Compare Expr Product Sum Unary Extent Extent Extent Extent Extent Extent Extent Extent atom_extent and_extent
      cell_extent compare_extent expr_extent product_extent sum_extent unary_extent
      (map-Compare A B C D E F G H Atom AndExpr CellRef Compare Expr Product Sum Unary a b c d e f g h y)))
      (at_compare (map-Compare Atom AndExpr CellRef Compare Expr Product Sum Unary Parts Parts Parts Parts Parts Parts Parts Parts atom_parts and_parts
      cell_parts compare_parts expr_parts product_parts sum_parts unary_parts
      (map-Compare A B C D E F G H Atom AndExpr CellRef Compare Expr Product Sum Unary a b c d e f g h y)))
  compare_layer y = compare_at y.left y.right

and_layer : {D : Type 0} (d : D → Compare) (each : (x : D) → Tells valid (compare_extent (d x)) (compare_parts (d x))) → (x : D) (xs : List (Pos × D))
    → Tells valid (compare_extent (d x) ⊕ all_of (map (λ (p : Pos × D). signs 1 ⊕ compare_extent (d p.1)) xs))
    (compare_parts (d x) ++ flat_map (λ (p : Pos × D). marked (Fixed AndSign) p.0 ∷ compare_parts (d p.1)) xs)
and_layer {D = D} d each x xs =
    chain_tells (λ (p : Pos × D). marked (Fixed AndSign) p.0) (λ (p : Pos × D). compare_extent (d p.1)) (λ (p : Pos × D). compare_parts (d p.1))
    (λ p. refl) (λ p. each p.1) (each x) xs

expr_layer : {B : Type 0} (b : B → AndExpr) (each : (x : B) → Tells valid (and_extent (b x)) (and_parts (b x))) → (x : B) (xs : List (Pos × B))
    → Tells valid (and_extent (b x) ⊕ all_of (map (λ (p : Pos × B). signs 1 ⊕ and_extent (b p.1)) xs))
    (and_parts (b x) ++ flat_map (λ (p : Pos × B). marked (Fixed OrSign) p.0 ∷ and_parts (b p.1)) xs)
expr_layer {B = B} b each x xs =
    chain_tells (λ (p : Pos × B). marked (Fixed OrSign) p.0) (λ (p : Pos × B). and_extent (b p.1)) (λ (p : Pos × B). and_parts (b p.1)) (λ p. refl)
    (λ p. each p.1) (each x) xs

product_layer : {H : Type 0} (h : H → Unary) (each : (x : H) → Tells valid (unary_extent (h x)) (unary_parts (h x)))
    → (x : H) (xs : List (ProductOp × Pos × H))
    → Tells valid (unary_extent (h x) ⊕ all_of (map (λ (p : ProductOp × Pos × H). signs 1 ⊕ unary_extent (h p.2)) xs))
    (unary_parts (h x) ++ flat_map (λ (p : ProductOp × Pos × H). marked (product_sign p.0) p.1 ∷ unary_parts (h p.2)) xs)
product_layer {H = H} h each x xs =
    chain_tells (λ (p : ProductOp × Pos × H). marked (product_sign p.0) p.1) (λ (p : ProductOp × Pos × H). unary_extent (h p.2))
    (λ (p : ProductOp × Pos × H). unary_parts (h p.2)) (λ p. product_valid p.0) (λ p. each p.2) (each x) xs

sum_layer : {F : Type 0} (f : F → Product) (each : (x : F) → Tells valid (product_extent (f x)) (product_parts (f x)))
    → (x : F) (xs : List (SumOp × Pos × F))
    → Tells valid (product_extent (f x) ⊕ all_of (map (λ (p : SumOp × Pos × F). signs 1 ⊕ product_extent (f p.2)) xs))
    (product_parts (f x) ++ flat_map (λ (p : SumOp × Pos × F). marked (sum_sign p.0) p.1 ∷ product_parts (f p.2)) xs)
sum_layer {F = F} f each x xs =
    chain_tells (λ (p : SumOp × Pos × F). marked (sum_sign p.0) p.1) (λ (p : SumOp × Pos × F). product_extent (f p.2))
    (λ (p : SumOp × Pos × F). product_parts (f p.2)) (λ p. sum_valid p.0) (λ p. each p.2) (each x) xs

unary_layer : {A : Type 0} (a : A → Atom) (each : (x : A) → Tells valid (atom_extent (a x)) (atom_parts (a x))) → (xs : List (UnaryOp × Pos)) (x : A)
    → Tells valid (signs (length xs) ⊕ atom_extent (a x)) (flat_map (λ (p : UnaryOp × Pos). marked (unary_sign p.0) p.1 ∷ []) xs ++ atom_parts (a x))
unary_layer {A = A} a each xs x = tells_on (signs_tell xs) (each x)

pub expr_tells : (e : Expr) → Tells valid (expr_extent e) (expr_parts e)
expr_tells e = ind-Expr (λ x. Tells valid (atom_extent x) (atom_parts x)) (λ x. Tells valid (and_extent x) (and_parts x))
    (λ x. Tells valid (cell_extent x) (cell_parts x)) (λ x. Tells valid (compare_extent x) (compare_parts x))
    (λ x. Tells valid (expr_extent x) (expr_parts x)) (λ x. Tells valid (product_extent x) (product_parts x))
    (λ x. Tells valid (sum_extent x) (sum_parts x)) (λ x. Tells valid (unary_extent x) (unary_parts x))
    (λ x y k. rw (← k) (rw (
      fold-roll-Atom Extent Extent Extent Extent Extent Extent Extent Extent shapes.at_atom shapes.at_and shapes.at_cell
          shapes.at_compare shapes.at_expr shapes.at_product shapes.at_sum shapes.at_unary,
      fold-roll-Atom Parts Parts Parts Parts Parts Parts Parts Parts
          at_atom at_and at_cell at_compare at_expr at_product at_sum at_unary,
    )
    (atom_layer (λ z. z.0) (λ z. z.0) (λ z. z.0) (λ z. z.0) (λ z. z.0) (λ z. z.0) (λ z. z.0) (λ z. z.0) (λ z. z.1) (λ z. z.1) (λ z. z.1) y)))
    (λ x y k. rw (← k) (rw (
      fold-roll-AndExpr Extent Extent Extent Extent Extent Extent Extent Extent shapes.at_atom shapes.at_and shapes.at_cell
          shapes.at_compare shapes.at_expr shapes.at_product shapes.at_sum shapes.at_unary,
      fold-roll-AndExpr Parts Parts Parts Parts Parts Parts Parts Parts
          at_atom at_and at_cell at_compare at_expr at_product at_sum at_unary,
    )
    (simp (map-map, flat_map-map) (and_layer (λ z. z.0) (λ z. z.1) y.first y.rest))))
    (λ x y k. rw (← k) (rw (
      fold-roll-CellRef Extent Extent Extent Extent Extent Extent Extent Extent shapes.at_atom shapes.at_and shapes.at_cell
          shapes.at_compare shapes.at_expr shapes.at_product shapes.at_sum shapes.at_unary,
      fold-roll-CellRef Parts Parts Parts Parts Parts Parts Parts Parts
          at_atom at_and at_cell at_compare at_expr at_product at_sum at_unary,
    )
    (cell_layer (λ z. z.0) (λ z. z.0) (λ z. z.0) (λ z. z.0) (λ z. z.0) (λ z. z.0) (λ z. z.0) (λ z. z.0) (λ z. z.1) (λ z. z.1) (λ z. z.1) y)))
    (λ x y k. rw (← k) (rw (
      fold-roll-Compare Extent Extent Extent Extent Extent Extent Extent Extent shapes.at_atom shapes.at_and shapes.at_cell
          shapes.at_compare shapes.at_expr shapes.at_product shapes.at_sum shapes.at_unary,
      fold-roll-Compare Parts Parts Parts Parts Parts Parts Parts Parts
          at_atom at_and at_cell at_compare at_expr at_product at_sum at_unary,
    )
    (compare_layer (λ z. z.0) (λ z. z.0) (λ z. z.0) (λ z. z.0) (λ z. z.0) (λ z. z.0) (λ z. z.0) (λ z. z.0) (λ z. z.1) (λ z. z.1) (λ z. z.1) y)))
    (λ x y k. rw (← k) (rw (
      fold-roll-Expr Extent Extent Extent Extent Extent Extent Extent Extent shapes.at_atom shapes.at_and shapes.at_cell
          shapes.at_compare shapes.at_expr shapes.at_product shapes.at_sum shapes.at_unary,
      fold-roll-Expr Parts Parts Parts Parts Parts Parts Parts Parts
          at_atom at_and at_cell at_compare at_expr at_product at_sum at_unary,
    )
    (simp (map-map, flat_map-map) (expr_layer (λ z. z.0) (λ z. z.1) y.first y.rest))))
    (λ x y k. rw (← k) (rw (
      fold-roll-Product Extent Extent Extent Extent Extent Extent Extent Extent shapes.at_atom shapes.at_and shapes.at_cell
          shapes.at_compare shapes.at_expr shapes.at_product shapes.at_sum shapes.at_unary,
      fold-roll-Product Parts Parts Parts Parts Parts Parts Parts Parts
          at_atom at_and at_cell at_compare at_expr at_product at_sum at_unary,
    )
    (simp (map-map, flat_map-map) (product_layer (λ z. z.0) (λ z. z.1) y.first y.rest))))
    (λ x y k. rw (← k) (rw (
      fold-roll-Sum Extent Extent Extent Extent Extent Extent Extent Extent shapes.at_atom shapes.at_and shapes.at_cell
          shapes.at_compare shapes.at_expr shapes.at_product shapes.at_sum shapes.at_unary,
      fold-roll-Sum Parts Parts Parts Parts Parts Parts Parts Parts
          at_atom at_and at_cell at_compare at_expr at_product at_sum at_unary,
    )
    (simp (map-map, flat_map-map) (sum_layer (λ z. z.0) (λ z. z.1) y.first y.rest))))
    (λ x y k. rw (← k) (rw (extents.unary_opens, unary_opens) (unary_layer (λ z. z.0) (λ z. z.1) y.signs y.atom))) e

-- an expression that lies in no other
pub outer_tells : (e : Expr) → Tells good (outermost e) (outer e)
outer_tells e =
    let t = expr_tells e in record {
      sound = both_same (expr_extent e).sound (list_all valid (expr_parts e)) (nat_le (expr_extent e).tokens 256) (nat_le (length (expr_parts e)) 256)
          t.sound (ap (λ n. nat_le n 256) t.tokens) ∙ sym (good_outer (expr_parts e));
      tokens = t.tokens ∙ sym (length_numbered 0 (expr_parts e));
    }
