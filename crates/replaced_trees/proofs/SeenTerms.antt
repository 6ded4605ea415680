-- An expression whose names and places are replaced is seen as what it was seen as, with these replaced.
use Rattle.std.proofs.Common.{◌≡◌, ℕ, List, [], ◌∷◌, Option, Some, None, refl, ap, sym, ◌∙◌, map}
use Rattle.jade_base.specs.declared.place.Pos.{Pos}
use Rattle.jade_syntax.specs.declared.tree.Relation.{Relation}
use Rattle.jade_syntax.specs.declared.tree.SumOp.{SumOp}
use Rattle.jade_syntax.specs.declared.tree.ProductOp.{ProductOp}
use Rattle.jade_syntax.specs.declared.tree.UnaryOp.{UnaryOp}
use Rattle.jade_syntax.specs.declared.tree.Atom.{Atom, roll-Atom, fold-roll-Atom, map-Atom}
use Rattle.jade_syntax.specs.declared.tree.Atom.TheOpen.{Atom-F, CellRef-F, Compare-F}
use Rattle.jade_syntax.specs.declared.tree.AndExpr.{AndExpr, roll-AndExpr}
use Rattle.jade_syntax.specs.declared.tree.CellRef.{CellRef, roll-CellRef, fold-roll-CellRef, map-CellRef, out-CellRef, fold_out-CellRef}
use Rattle.jade_syntax.specs.declared.tree.Compare.{Compare, roll-Compare, map-Compare}
use Rattle.jade_syntax.specs.declared.tree.Expr.{Expr, roll-Expr, ind-Expr}
use Rattle.jade_syntax.specs.declared.tree.Product.{Product, roll-Product}
use Rattle.jade_syntax.specs.declared.tree.Sum.{Sum, roll-Sum}
use Rattle.jade_syntax.specs.declared.tree.Unary.{Unary, fold_out-Unary}
use Rattle.jade_syntax.specs.Abstract.{Name, Or, And, Relates, Adds, Multiplies}
use Rattle.jade_syntax.specs.Placed as syntax
use Rattle.jade_syntax.specs.Placed.{Term}
use Rattle.jade_syntax.specs.Forms as general
use Rattle.jade_syntax.specs.PlacedImage as placed
use Rattle.jade_syntax.specs.PlacedImage.{Reference, Linked, forms, chained, compared}
use Rattle.jade_syntax.specs.PlacedImage.{term, and_term, reference, compare_term, product_term, sum_term, unary_term, atom_term}
use Rattle.jade_syntax.proofs.Opened as opened
use Rattle.replaced_trees.proofs.Made.{and_made, expr_made, sum_made, product_made, compare_made}
use Rattle.replaced_trees.proofs.Nodes.{and_tree, expr_tree, sum_tree, product_tree, atom_tree, cell_tree, compare_tree}
use Rattle.replaced_trees.specs.Replaced.{at_atom, at_and, at_cell, at_compare, at_expr, at_product, at_sum, at_unary}
use Rattle.replaced_trees.specs.Replaced.{expr_replaced, and_replaced, cell_replaced, compare_replaced, sum_replaced, product_replaced}
use Rattle.replaced_trees.specs.Replaced.{unary_replaced, atom_replaced, term_replaced, links_replaced, reference_replaced}

-- ---- what an atom and a cell that are made are seen as

atom_made : (f : Atom-F Atom AndExpr CellRef Compare Expr Product Sum Unary) → atom_term (roll-Atom f)
    ≡ general.at_atom forms (map-Atom Atom AndExpr CellRef Compare Expr Product Sum Unary Term Term Reference Term Term Term Term Term atom_term and_term
    reference compare_term term product_term sum_term unary_term f)
atom_made f = fold-roll-Atom Term Term Reference Term Term Term Term Term (general.at_atom forms) (general.at_and forms) (general.at_cell forms)
    (general.at_compare forms) (general.at_expr forms) (general.at_product forms) (general.at_sum forms) (general.at_unary forms) f

cell_made : (f : CellRef-F Atom AndExpr CellRef Compare Expr Product Sum Unary) → reference (roll-CellRef f)
    ≡ general.at_cell forms (map-CellRef Atom AndExpr CellRef Compare Expr Product Sum Unary Term Term Reference Term Term Term Term Term atom_term and_term
    reference compare_term term product_term sum_term unary_term f)
cell_made f = fold-roll-CellRef Term Term Reference Term Term Term Term Term (general.at_atom forms) (general.at_and forms) (general.at_cell forms)
    (general.at_compare forms) (general.at_expr forms) (general.at_product forms) (general.at_sum forms) (general.at_unary forms) f

module _ (to : Name → Name) (home : Pos → Pos) where
  abbrev link_replaced : Linked → Linked
  link_replaced l = record { operator = l.operator; at = home l.at; operand = term_replaced to home l.operand }

  links_seen : (ls : List Linked) → links_replaced to home (placed.links ls) ≡ placed.links (map link_replaced ls)
  links_seen [] = refl
  links_seen (l ∷ ls) = ap (syntax.Link l.operator (home l.at) (term_replaced to home l.operand)) (links_seen ls)

  chain_seen : (e : Term) (ls : List Linked) → term_replaced to home (chained e ls) ≡ chained (term_replaced to home e) (map link_replaced ls)
  chain_seen e [] = refl
  chain_seen e (l ∷ ls) = ap (syntax.Chain (term_replaced to home e)) (links_seen (l ∷ ls))

  -- ---- chains

  module _ {D : Type 0} (d : D → Compare) (same : (x : D) → compare_term (compare_replaced to home (d x)) ≡ term_replaced to home (compare_term (d x))) where
    abbrev and_rest : List (Pos × D) → List (Pos × Compare)
    and_rest xs = map (λ (p : Pos × D). (p.0, d p.1)) xs

    abbrev and_rest_made : List (Pos × D) → List (Pos × Compare)
    and_rest_made xs =
        map (λ (l : Pos × Compare). (home l.0, l.1)) (map (λ (p : Pos × Compare). (p.0, compare_replaced to home p.1)) (and_rest xs))

    and_links : (xs : List (Pos × D)) → map (general.and_link forms) (and_rest_made xs) ≡ map link_replaced (map (general.and_link forms) (and_rest xs))
    and_links [] = refl
    and_links (x ∷ xs) = λ i. record { operator = And; at = home x.0; operand = same x.1 i } ∷ and_links xs i

    and_seen : (x : D) (xs : List (Pos × D)) → and_term (and_replaced to home (roll-AndExpr (record { first = d x; rest = and_rest xs })))
        ≡ term_replaced to home (and_term (roll-AndExpr (record { first = d x; rest = and_rest xs })))
    and_seen x xs =
        ap and_term (and_tree to home (record { first = d x; rest = and_rest xs }))
        ∙ and_made forms (compare_replaced to home (d x)) (and_rest_made xs) ∙ (λ i. chained (same x i) (and_links xs i))
        ∙ sym (chain_seen (compare_term (d x)) (map (general.and_link forms) (and_rest xs)))
        ∙ sym (ap (term_replaced to home) (and_made forms (d x) (and_rest xs)))

  module _ {B : Type 0} (b : B → AndExpr) (same : (x : B) → and_term (and_replaced to home (b x)) ≡ term_replaced to home (and_term (b x))) where
    abbrev or_rest : List (Pos × B) → List (Pos × AndExpr)
    or_rest xs = map (λ (p : Pos × B). (p.0, b p.1)) xs

    abbrev or_rest_made : List (Pos × B) → List (Pos × AndExpr)
    or_rest_made xs = map (λ (l : Pos × AndExpr). (home l.0, l.1)) (map (λ (p : Pos × AndExpr). (p.0, and_replaced to home p.1)) (or_rest xs))

    or_links : (xs : List (Pos × B)) → map (general.or_link forms) (or_rest_made xs) ≡ map link_replaced (map (general.or_link forms) (or_rest xs))
    or_links [] = refl
    or_links (x ∷ xs) = λ i. record { operator = Or; at = home x.0; operand = same x.1 i } ∷ or_links xs i

    or_seen : (x : B) (xs : List (Pos × B)) → term (expr_replaced to home (roll-Expr (record { first = b x; rest = or_rest xs })))
        ≡ term_replaced to home (term (roll-Expr (record { first = b x; rest = or_rest xs })))
    or_seen x xs =
        ap term (expr_tree to home (record { first = b x; rest = or_rest xs }))
        ∙ expr_made forms (and_replaced to home (b x)) (or_rest_made xs) ∙ (λ i. chained (same x i) (or_links xs i))
        ∙ sym (chain_seen (and_term (b x)) (map (general.or_link forms) (or_rest xs)))
        ∙ sym (ap (term_replaced to home) (expr_made forms (b x) (or_rest xs)))

  module _ {H : Type 0} (h : H → Unary) (same : (x : H) → unary_term (unary_replaced to home (h x)) ≡ term_replaced to home (unary_term (h x))) where
    abbrev product_rest : List (ProductOp × Pos × H) → List (ProductOp × Pos × Unary)
    product_rest xs = map (λ (p : ProductOp × Pos × H). (p.0, p.1, h p.2)) xs

    abbrev product_rest_made : List (ProductOp × Pos × H) → List (ProductOp × Pos × Unary)
    product_rest_made xs =
        map (λ (l : ProductOp × Pos × Unary). (l.0, home l.1, l.2))
        (map (λ (p : ProductOp × Pos × Unary). (p.0, p.1, unary_replaced to home p.2)) (product_rest xs))

    product_links : (xs : List (ProductOp × Pos × H))
        → map (general.product_link forms) (product_rest_made xs) ≡ map link_replaced (map (general.product_link forms) (product_rest xs))
    product_links [] = refl
    product_links (x ∷ xs) = λ i. record { operator = Multiplies x.0; at = home x.1; operand = same x.2 i } ∷ product_links xs i

    product_seen : (x : H) (xs : List (ProductOp × Pos × H))
        → product_term (product_replaced to home (roll-Product (record { first = h x; rest = product_rest xs })))
        ≡ term_replaced to home (product_term (roll-Product (record { first = h x; rest = product_rest xs })))
    product_seen x xs =
        ap product_term (product_tree to home (record { first = h x; rest = product_rest xs }))
        ∙ product_made forms (unary_replaced to home (h x)) (product_rest_made xs) ∙ (λ i. chained (same x i) (product_links xs i))
        ∙ sym (chain_seen (unary_term (h x)) (map (general.product_link forms) (product_rest xs)))
        ∙ sym (ap (term_replaced to home) (product_made forms (h x) (product_rest xs)))

  module _ {F : Type 0} (f : F → Product) (same : (x : F) → product_term (product_replaced to home (f x)) ≡ term_replaced to home (product_term (f x))) where
    abbrev sum_rest : List (SumOp × Pos × F) → List (SumOp × Pos × Product)
    sum_rest xs = map (λ (p : SumOp × Pos × F). (p.0, p.1, f p.2)) xs

    abbrev sum_rest_made : List (SumOp × Pos × F) → List (SumOp × Pos × Product)
    sum_rest_made xs =
        map (λ (l : SumOp × Pos × Product). (l.0, home l.1, l.2))
        (map (λ (p : SumOp × Pos × Product). (p.0, p.1, product_replaced to home p.2)) (sum_rest xs))

    sum_links : (xs : List (SumOp × Pos × F))
        → map (general.sum_link forms) (sum_rest_made xs) ≡ map link_replaced (map (general.sum_link forms) (sum_rest xs))
    sum_links [] = refl
    sum_links (x ∷ xs) = λ i. record { operator = Adds x.0; at = home x.1; operand = same x.2 i } ∷ sum_links xs i

    sum_seen : (x : F) (xs : List (SumOp × Pos × F))
        → sum_term (sum_replaced to home (roll-Sum (record { first = f x; rest = sum_rest xs })))
        ≡ term_replaced to home (sum_term (roll-Sum (record { first = f x; rest = sum_rest xs })))
    sum_seen x xs =
        ap sum_term (sum_tree to home (record { first = f x; rest = sum_rest xs }))
        ∙ sum_made forms (product_replaced to home (f x)) (sum_rest_made xs) ∙ (λ i. chained (same x i) (sum_links xs i))
        ∙ sym (chain_seen (product_term (f x)) (map (general.sum_link forms) (sum_rest xs)))
        ∙ sym (ap (term_replaced to home) (sum_made forms (f x) (sum_rest xs)))

  -- ---- signs

  abbrev signs_made : List (UnaryOp × Pos) → List (UnaryOp × Pos)
  signs_made xs = map (λ (s : UnaryOp × Pos). (s.0, home s.1)) xs

  signs_seen : (xs : List (UnaryOp × Pos)) (a : Atom) → atom_term (atom_replaced to home a) ≡ term_replaced to home (atom_term a)
      → placed.signed (signs_made xs) (atom_term (atom_replaced to home a)) ≡ term_replaced to home (placed.signed xs (atom_term a))
  signs_seen [] a h = h
  signs_seen (x ∷ xs) a h = ap (syntax.Signed x.0 (home x.1)) (signs_seen xs a h)

  unary_seen : (xs : List (UnaryOp × Pos)) (a : Atom) → atom_term (atom_replaced to home a) ≡ term_replaced to home (atom_term a)
      → unary_term (unary_replaced to home (record { signs = xs; atom = a })) ≡ term_replaced to home (unary_term (record { signs = xs; atom = a }))
  unary_seen xs a h =
      ap unary_term (fold_out-Unary Atom AndExpr CellRef Compare Expr Product Sum Unary (at_atom to home) (at_and to home) (at_cell to home)
      (at_compare to home) (at_expr to home) (at_product to home) (at_sum to home) (at_unary to home) (record { signs = xs; atom = a }))
      ∙ opened.unary_opens forms (record { signs = signs_made xs; atom = atom_replaced to home a }) ∙ signs_seen xs a h
      ∙ sym (ap (term_replaced to home) (opened.unary_opens forms (record { signs = xs; atom = a })))

  -- ---- atoms, cells and comparisons

  module _ {A B C D E F G H : Type 0} (a : A → Atom) (b : B → AndExpr) (c : C → CellRef) (d : D → Compare) (e : E → Expr) (f : F → Product) (g : G → Sum)
      (h : H → Unary)
      (cells : (x : C) → reference (cell_replaced to home (c x)) ≡ reference_replaced to home (reference (c x)))
      (exprs : (x : E) → term (expr_replaced to home (e x)) ≡ term_replaced to home (term (e x)))
      (sums : (x : G) → sum_term (sum_replaced to home (g x)) ≡ term_replaced to home (sum_term (g x))) where
    abbrev atom_of : Atom-F A B C D E F G H → Atom-F Atom AndExpr CellRef Compare Expr Product Sum Unary
    atom_of y = map-Atom A B C D E F G H Atom AndExpr CellRef Compare Expr Product Sum Unary a b c d e f g h y

    atom_seen : (y : Atom-F A B C D E F G H) → atom_term (atom_replaced to home (roll-Atom (atom_of y)))
        ≡ term_replaced to home (atom_term (roll-Atom (atom_of y)))
    atom_seen (Atom-F.Whole n) =
        ap atom_term (atom_tree to home (atom_of (Atom-F.Whole n))) ∙ atom_made (Atom-F.Whole (record { value = n.value; pos = home n.pos }))
        ∙ sym (ap (term_replaced to home) (atom_made (atom_of (Atom-F.Whole n))))
    atom_seen (Atom-F.Truth t p) =
        ap atom_term (atom_tree to home (atom_of (Atom-F.Truth t p))) ∙ atom_made (Atom-F.Truth t (home p))
        ∙ sym (ap (term_replaced to home) (atom_made (atom_of (Atom-F.Truth t p))))
    atom_seen (Atom-F.Group p x) =
        ap atom_term (atom_tree to home (atom_of (Atom-F.Group p x))) ∙ atom_made _ ∙ ap (syntax.Group (home p)) (exprs x.value)
        ∙ sym (ap (term_replaced to home) (atom_made (atom_of (Atom-F.Group p x))))
    atom_seen (Atom-F.Named n p) =
        ap atom_term (atom_tree to home (atom_of (Atom-F.Named n p))) ∙ atom_made (Atom-F.Named (to n) (home p))
        ∙ sym (ap (term_replaced to home) (atom_made (atom_of (Atom-F.Named n p))))
    atom_seen (Atom-F.Cell x) =
        ap atom_term (atom_tree to home (atom_of (Atom-F.Cell x))) ∙ atom_made _ ∙ ap (λ (k : Reference). syntax.Cell k.place k.cell) (cells x.value)
        ∙ sym (ap (term_replaced to home) (atom_made (atom_of (Atom-F.Cell x))))

    abbrev cell_of : CellRef-F A B C D E F G H → CellRef-F Atom AndExpr CellRef Compare Expr Product Sum Unary
    cell_of y = map-CellRef A B C D E F G H Atom AndExpr CellRef Compare Expr Product Sum Unary a b c d e f g h y

    cell_at : (n : List ℕ) (p : Pos) (o : Option E) (x : E)
        → reference (cell_replaced to home (roll-CellRef (cell_of (record { name = n; pos = p; family = o; cell = x }))))
        ≡ reference_replaced to home (reference (roll-CellRef (cell_of (record { name = n; pos = p; family = o; cell = x }))))
    cell_at n p None x =
        ap reference (cell_tree to home (cell_of (record { name = n; pos = p; family = None; cell = x })))
        ∙ cell_made (record { name = to n; pos = home p; family = None; cell = expr_replaced to home (e x) })
        ∙ (λ i. record { place = syntax.Alone (to n) (home p); cell = exprs x i })
        ∙ sym (ap (reference_replaced to home) (cell_made (cell_of (record { name = n; pos = p; family = None; cell = x }))))
    cell_at n p (Some o) x =
        ap reference (cell_tree to home (cell_of (record { name = n; pos = p; family = Some o; cell = x })))
        ∙ cell_made (record { name = to n; pos = home p; family = Some (expr_replaced to home (e o)); cell = expr_replaced to home (e x) })
        ∙ (λ i. record { place = syntax.Member (to n) (home p) (exprs o i); cell = exprs x i })
        ∙ sym (ap (reference_replaced to home) (cell_made (cell_of (record { name = n; pos = p; family = Some o; cell = x }))))

    cell_seen_at : (y : CellRef-F A B C D E F G H) → reference (cell_replaced to home (roll-CellRef (cell_of y)))
        ≡ reference_replaced to home (reference (roll-CellRef (cell_of y)))
    cell_seen_at y = cell_at y.name y.pos y.family y.cell

    abbrev compare_of : Compare-F A B C D E F G H → Compare-F Atom AndExpr CellRef Compare Expr Product Sum Unary
    compare_of y = map-Compare A B C D E F G H Atom AndExpr CellRef Compare Expr Product Sum Unary a b c d e f g h y

    compare_at : (x : G) (o : Option (Relation × Pos × G))
        → compare_term (compare_replaced to home (roll-Compare (compare_of (record { left = x; right = o }))))
        ≡ term_replaced to home (compare_term (roll-Compare (compare_of (record { left = x; right = o }))))
    compare_at x None =
        ap compare_term (compare_tree to home (compare_of (record { left = x; right = None }))) ∙ compare_made forms (sum_replaced to home (g x)) None ∙ sums x
        ∙ sym (ap (term_replaced to home) (compare_made forms (g x) None))
    compare_at x (Some o) =
        ap compare_term (compare_tree to home (compare_of (record { left = x; right = Some o })))
        ∙ compare_made forms (sum_replaced to home (g x)) (Some (o.0, home o.1, sum_replaced to home (g o.2)))
        ∙ (λ i. syntax.Chain (sums x i) (syntax.Link (Relates o.0) (home o.1) (sums o.2 i) syntax.Last))
        ∙ sym (ap (term_replaced to home) (compare_made forms (g x) (Some (o.0, o.1, g o.2))))

    compare_seen_at : (y : Compare-F A B C D E F G H) → compare_term (compare_replaced to home (roll-Compare (compare_of y)))
        ≡ term_replaced to home (compare_term (roll-Compare (compare_of y)))
    compare_seen_at y = compare_at y.left y.right

  pub expr_seen : (e : Expr) → term (expr_replaced to home e) ≡ term_replaced to home (term e)
  expr_seen e = ind-Expr (λ x. atom_term (atom_replaced to home x) ≡ term_replaced to home (atom_term x))
      (λ x. and_term (and_replaced to home x) ≡ term_replaced to home (and_term x))
      (λ x. reference (cell_replaced to home x) ≡ reference_replaced to home (reference x))
      (λ x. compare_term (compare_replaced to home x) ≡ term_replaced to home (compare_term x))
      (λ x. term (expr_replaced to home x) ≡ term_replaced to home (term x))
      (λ x. product_term (product_replaced to home x) ≡ term_replaced to home (product_term x))
      (λ x. sum_term (sum_replaced to home x) ≡ term_replaced to home (sum_term x))
      (λ x. unary_term (unary_replaced to home x) ≡ term_replaced to home (unary_term x))
      (λ x y k. rw (← k) (atom_seen (λ z. z.0) (λ z. z.0) (λ z. z.0) (λ z. z.0) (λ z. z.0) (λ z. z.0) (λ z. z.0) (λ z. z.0)
      (λ z. z.1) (λ z. z.1) (λ z. z.1) y))
      (λ x y k. rw (← k) (and_seen (λ z. z.0) (λ z. z.1) y.first y.rest))
      (λ x y k. rw (← k) (cell_seen_at (λ z. z.0) (λ z. z.0) (λ z. z.0) (λ z. z.0) (λ z. z.0) (λ z. z.0) (λ z. z.0) (λ z. z.0)
      (λ z. z.1) (λ z. z.1) (λ z. z.1) y))
      (λ x y k. rw (← k) (compare_seen_at (λ z. z.0) (λ z. z.0) (λ z. z.0) (λ z. z.0) (λ z. z.0) (λ z. z.0) (λ z. z.0) (λ z. z.0)
      (λ z. z.1) (λ z. z.1) (λ z. z.1) y))
      (λ x y k. rw (← k) (or_seen (λ z. z.0) (λ z. z.1) y.first y.rest))
      (λ x y k. rw (← k) (product_seen (λ z. z.0) (λ z. z.1) y.first y.rest))
      (λ x y k. rw (← k) (sum_seen (λ z. z.0) (λ z. z.1) y.first y.rest))
      (λ x y k. rw (← k) (unary_seen y.signs y.atom.0 y.atom.1)) e

  -- a cell, its node opened
  node_seen : (n : List ℕ) (p : Pos) (o : Option Expr) (x : Expr)
      → reference (at_cell to home (map-CellRef Atom AndExpr CellRef Compare Expr Product Sum Unary Atom AndExpr CellRef Compare Expr Product Sum Unary
      (atom_replaced to home) (and_replaced to home) (cell_replaced to home) (compare_replaced to home) (expr_replaced to home)
      (product_replaced to home) (sum_replaced to home) (unary_replaced to home) (record { name = n; pos = p; family = o; cell = x })))
      ≡ reference_replaced to home (general.at_cell forms (map-CellRef Atom AndExpr CellRef Compare Expr Product Sum Unary
      Term Term Reference Term Term Term Term
      Term atom_term and_term reference compare_term term product_term sum_term unary_term (record { name = n; pos = p; family = o; cell = x })))
  node_seen n p None x =
      cell_made (record { name = to n; pos = home p; family = None; cell = expr_replaced to home x })
      ∙ (λ i. record { place = syntax.Alone (to n) (home p); cell = expr_seen x i })
  node_seen n p (Some o) x =
      cell_made (record { name = to n; pos = home p; family = Some (expr_replaced to home o); cell = expr_replaced to home x })
      ∙ (λ i. record { place = syntax.Member (to n) (home p) (expr_seen o i); cell = expr_seen x i })

  pub cell_seen : (c : CellRef) → reference (cell_replaced to home c) ≡ reference_replaced to home (reference c)
  cell_seen c =
      ap reference (fold_out-CellRef Atom AndExpr CellRef Compare Expr Product Sum Unary (at_atom to home) (at_and to home) (at_cell to home)
      (at_compare to home) (at_expr to home) (at_product to home) (at_sum to home) (at_unary to home) c)
      ∙ node_seen (out-CellRef c).name (out-CellRef c).pos (out-CellRef c).family (out-CellRef c).cell
      ∙ sym (ap (reference_replaced to home) (fold_out-CellRef Term Term Reference Term Term Term Term Term (general.at_atom forms) (general.at_and forms)
      (general.at_cell forms) (general.at_compare forms) (general.at_expr forms) (general.at_product forms) (general.at_sum forms)
      (general.at_unary forms) c))
