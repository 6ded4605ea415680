-- What holds of the parts of each tree, where each level hands it on to the next.
use Rattle.std.proofs.Common.{ℕ, Bool, List, [], ◌∷◌, ◌++◌, Option, Some, None}
use Rattle.std.specs.List.{flat_map}
use Rattle.std.proofs.lemmas.List.Folds.{flat_map-map}
use Rattle.jade_base.specs.declared.place.Pos.{Pos}
use Rattle.jade_syntax.specs.declared.tree.Number.{Number}
use Rattle.jade_syntax.specs.declared.tree.Relation.{Relation}
use Rattle.jade_syntax.specs.declared.tree.SumOp.{SumOp}
use Rattle.jade_syntax.specs.declared.tree.ProductOp.{ProductOp}
use Rattle.jade_syntax.specs.declared.tree.UnaryOp.{UnaryOp}
use Rattle.jade_syntax.specs.declared.tree.Atom.{Atom, fold-roll-Atom, map-Atom}
use Rattle.jade_syntax.specs.declared.tree.Atom.TheOpen.{Atom-F}
use Rattle.jade_syntax.specs.declared.tree.AndExpr.{AndExpr, fold-roll-AndExpr}
use Rattle.jade_syntax.specs.declared.tree.CellRef.{CellRef, fold-roll-CellRef, map-CellRef}
use Rattle.jade_syntax.specs.declared.tree.Compare.{Compare, fold-roll-Compare, map-Compare}
use Rattle.jade_syntax.specs.declared.tree.Expr.{Expr, fold-roll-Expr, ind-Expr}
use Rattle.jade_syntax.specs.declared.tree.Product.{Product, fold-roll-Product}
use Rattle.jade_syntax.specs.declared.tree.Sum.{Sum, fold-roll-Sum}
use Rattle.jade_syntax.specs.declared.tree.Unary.{Unary}
use Rattle.jade_parser.specs.declared.Sign.TheVariants.{LeftParen, RightParen}
use Rattle.jade_parser.specs.Spelled.{Parts, Fixed, Called, marked, fixed, number_part, truth_word, relation_sign, bracketed}
use Rattle.jade_parser.specs.Spelled.{expr_parts, and_parts, compare_parts, sum_parts, product_parts, unary_parts, atom_parts, cell_parts}
use Rattle.jade_parser.specs.Spelled.{or_part, and_part, sum_part, product_part, sign_part}
use Rattle.jade_parser.specs.Spelled.{at_atom, at_and, at_cell, at_compare, at_expr, at_product, at_sum, at_unary}
use Rattle.jade_parser.proofs.Spelling.{unary_opens}

-- a tree of whose parts this holds
abbrev pub Known : {T : Type 0} → (T → Parts) → (Parts → Type 0) → Type 0
Known {T} parts P = (x : T) × P (parts x)

-- Each level hands on what holds of the parts below it: of atoms, chains of `&&`, cells, comparisons, expressions, products, sums and
-- operands with signs.
pub record HandsOn (A B C D E F G H : Parts → Type 0) : Type 0 where
  pub number : (n : Number) → A (number_part n ∷ [])
  pub truth : (b : Bool) (p : Pos) → A (marked (truth_word b) p ∷ [])
  pub group : (p : Pos) (e : Parts) → E e → A (marked (Fixed LeftParen) p ∷ (e ++ fixed RightParen ∷ []))
  pub named : (n : List ℕ) (p : Pos) → A (marked (Called n) p ∷ [])
  pub cell : (c : Parts) → C c → A c
  pub single : (n : List ℕ) (p : Pos) (e : Parts) → E e → C (marked (Called n) p ∷ bracketed e)
  pub member : (n : List ℕ) (p : Pos) (i e : Parts) → E i → E e → C (marked (Called n) p ∷ (bracketed i ++ bracketed e))
  pub alone : (s : Parts) → G s → D (s ++ [])
  pub pair : (o : Relation) (p : Pos) (s t : Parts) → G s → G t → D (s ++ marked (relation_sign o) p ∷ t)
  pub ands : (x : Known compare_parts D) (xs : List (Pos × Known compare_parts D)) → B (compare_parts x.0 ++ flat_map (λ p. and_part (p.0, p.1.0)) xs)
  pub ors : (x : Known and_parts B) (xs : List (Pos × Known and_parts B)) → E (and_parts x.0 ++ flat_map (λ p. or_part (p.0, p.1.0)) xs)
  pub products : (x : Known unary_parts H) (xs : List (ProductOp × Pos × Known unary_parts H))
      → F (unary_parts x.0 ++ flat_map (λ p. product_part (p.0, p.1, p.2.0)) xs)
  pub sums : (x : Known product_parts F) (xs : List (SumOp × Pos × Known product_parts F))
      → G (product_parts x.0 ++ flat_map (λ p. sum_part (p.0, p.1, p.2.0)) xs)
  pub signed : (xs : List (UnaryOp × Pos)) (a : Parts) → A a → H (flat_map sign_part xs ++ a)

module _ (A B C D E F G H : Parts → Type 0) (on : HandsOn A B C D E F G H) where
  abbrev KA : Type 0
  KA = Known atom_parts A

  abbrev KB : Type 0
  KB = Known and_parts B

  abbrev KC : Type 0
  KC = Known cell_parts C

  abbrev KD : Type 0
  KD = Known compare_parts D

  abbrev KE : Type 0
  KE = Known expr_parts E

  abbrev KF : Type 0
  KF = Known product_parts F

  abbrev KG : Type 0
  KG = Known sum_parts G

  abbrev KH : Type 0
  KH = Known unary_parts H

  atom_on : (y : Atom-F KA KB KC KD KE KF KG KH)
      → A (at_atom (map-Atom Atom AndExpr CellRef Compare Expr Product Sum Unary Parts Parts Parts Parts Parts Parts Parts Parts atom_parts and_parts
      cell_parts compare_parts expr_parts product_parts sum_parts unary_parts
      (map-Atom KA KB KC KD KE KF KG KH Atom AndExpr CellRef Compare Expr Product Sum Unary (λ z. z.0) (λ z. z.0) (λ z. z.0) (λ z. z.0) (λ z. z.0)
      (λ z. z.0) (λ z. z.0) (λ z. z.0) y)))
  atom_on (Atom-F.Whole n) = on.number n
  atom_on (Atom-F.Truth b p) = on.truth b p
  atom_on (Atom-F.Group p x) = on.group p _ x.value.1
  atom_on (Atom-F.Named n p) = on.named n p
  atom_on (Atom-F.Cell x) = on.cell _ x.value.1

  cell_on : (n : List ℕ) (p : Pos) (i : Option KE) (x : KE)
      → C (at_cell (map-CellRef Atom AndExpr CellRef Compare Expr Product Sum Unary Parts Parts Parts Parts Parts Parts Parts Parts atom_parts and_parts
      cell_parts compare_parts expr_parts product_parts sum_parts unary_parts
      (map-CellRef KA KB KC KD KE KF KG KH Atom AndExpr CellRef Compare Expr Product Sum Unary (λ z. z.0) (λ z. z.0) (λ z. z.0) (λ z. z.0) (λ z. z.0)
      (λ z. z.0) (λ z. z.0) (λ z. z.0) (record { name = n; pos = p; family = i; cell = x }))))
  cell_on n p None x = on.single n p _ x.1
  cell_on n p (Some i) x = on.member n p _ _ i.1 x.1

  compare_on : (x : KG) (o : Option (Relation × Pos × KG))
      → D (at_compare (map-Compare Atom AndExpr CellRef Compare Expr Product Sum Unary Parts Parts Parts Parts Parts Parts Parts Parts atom_parts and_parts
      cell_parts compare_parts expr_parts product_parts sum_parts unary_parts
      (map-Compare KA KB KC KD KE KF KG KH Atom AndExpr CellRef Compare Expr Product Sum Unary (λ z. z.0) (λ z. z.0) (λ z. z.0) (λ z. z.0) (λ z. z.0)
      (λ z. z.0) (λ z. z.0) (λ z. z.0) (record { left = x; right = o }))))
  compare_on x None = on.alone _ x.1
  compare_on x (Some r) = on.pair r.0 r.1 _ _ x.1 r.2.1

  pub of_expr : (e : Expr) → E (expr_parts e)
  of_expr e = ind-Expr (λ a. A (atom_parts a)) (λ a. B (and_parts a)) (λ c. C (cell_parts c)) (λ c. D (compare_parts c)) (λ e. E (expr_parts e))
      (λ p. F (product_parts p)) (λ s. G (sum_parts s)) (λ u. H (unary_parts u))
      (λ x y k. rw (← k) (rw (fold-roll-Atom Parts Parts Parts Parts Parts Parts Parts Parts at_atom at_and at_cell at_compare at_expr at_product at_sum
      at_unary) (atom_on y)))
      (λ x y k. rw (← k) (rw (fold-roll-AndExpr Parts Parts Parts Parts Parts Parts Parts Parts at_atom at_and at_cell at_compare at_expr at_product
      at_sum at_unary) (simp flat_map-map (on.ands y.first y.rest))))
      (λ x y k. rw (← k) (rw (fold-roll-CellRef Parts Parts Parts Parts Parts Parts Parts Parts at_atom at_and at_cell at_compare at_expr at_product
      at_sum at_unary) (cell_on y.name y.pos y.family y.cell)))
      (λ x y k. rw (← k) (rw (fold-roll-Compare Parts Parts Parts Parts Parts Parts Parts Parts at_atom at_and at_cell at_compare at_expr at_product
      at_sum at_unary) (compare_on y.left y.right)))
      (λ x y k. rw (← k) (rw (fold-roll-Expr Parts Parts Parts Parts Parts Parts Parts Parts at_atom at_and at_cell at_compare at_expr at_product at_sum
      at_unary) (simp flat_map-map (on.ors y.first y.rest))))
      (λ x y k. rw (← k) (rw (fold-roll-Product Parts Parts Parts Parts Parts Parts Parts Parts at_atom at_and at_cell at_compare at_expr at_product
      at_sum at_unary) (simp flat_map-map (on.products y.first y.rest))))
      (λ x y k. rw (← k) (rw (fold-roll-Sum Parts Parts Parts Parts Parts Parts Parts Parts at_atom at_and at_cell at_compare at_expr at_product at_sum
      at_unary) (simp flat_map-map (on.sums y.first y.rest))))
      (λ x y k. rw (← k) (rw unary_opens (on.signed y.signs _ y.atom.1))) e
