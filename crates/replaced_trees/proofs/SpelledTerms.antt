-- The tokens of an expression whose names and places are replaced are its tokens with these replaced.
use Rattle.std.proofs.Common.{◌≡◌, ℕ, ◌+◌, List, [], ◌∷◌, ◌++◌, Option, Some, None, refl, ap, sym, ◌∙◌, map, true, false}
use Rattle.std.specs.List.{flat_map}
use Rattle.std.proofs.lemmas.List.{map-append}
use Rattle.jade_base.specs.declared.place.Pos.{Pos}
use Rattle.jade_syntax.specs.declared.tree.Relation.{Relation}
use Rattle.jade_syntax.specs.declared.tree.Relation.TheVariants.{Equal, Unequal, Less, LessEqual, Greater, GreaterEqual}
use Rattle.jade_syntax.specs.declared.tree.SumOp.{SumOp}
use Rattle.jade_syntax.specs.declared.tree.SumOp.TheVariants.{Plus, Minus}
use Rattle.jade_syntax.specs.declared.tree.ProductOp.{ProductOp}
use Rattle.jade_syntax.specs.declared.tree.ProductOp.TheVariants.{Times, Over, Remainder}
use Rattle.jade_syntax.specs.declared.tree.UnaryOp.{UnaryOp}
use Rattle.jade_syntax.specs.declared.tree.UnaryOp.TheVariants.{Negative, Not}
use Rattle.jade_syntax.specs.declared.tree.Atom.{Atom, roll-Atom, fold-roll-Atom, map-Atom}
use Rattle.jade_syntax.specs.declared.tree.Atom.TheOpen.{Atom-F, CellRef-F, Compare-F}
use Rattle.jade_syntax.specs.declared.tree.AndExpr.{AndExpr, roll-AndExpr}
use Rattle.jade_syntax.specs.declared.tree.CellRef.{CellRef, roll-CellRef, map-CellRef}
use Rattle.jade_syntax.specs.declared.tree.Compare.{Compare, roll-Compare, map-Compare}
use Rattle.jade_syntax.specs.declared.tree.Expr.{Expr, roll-Expr, ind-Expr}
use Rattle.jade_syntax.specs.declared.tree.Product.{Product, roll-Product}
use Rattle.jade_syntax.specs.declared.tree.Sum.{Sum, roll-Sum}
use Rattle.jade_syntax.specs.declared.tree.Unary.{Unary, fold_out-Unary}
use Rattle.jade_syntax.specs.Abstract.{Name}
use Rattle.jade_parser.specs.declared.Sign.TheVariants.{LeftParen, RightParen, LeftBracket, RightBracket, OrSign, AndSign}
use Rattle.jade_parser.specs.Spelled as spelled
use Rattle.jade_parser.specs.Spelled.{Fixed, Called, Parts, marked, fixed, bracketed, numbered, outer}
use Rattle.jade_parser.specs.Spelled.{truth_word, relation_sign, sum_sign, product_sign, unary_sign}
use Rattle.jade_parser.specs.Spelled.{expr_parts, and_parts, cell_parts, compare_parts, sum_parts, product_parts, unary_parts, atom_parts}
use Rattle.jade_parser.specs.Spelled.{or_part, and_part, sum_part, product_part, sign_part}
use Rattle.jade_parser.proofs.Spelling as spelling
use Rattle.jade_parser.proofs.Spelling.{expr_made, and_made, sum_made, product_made}
use Rattle.jade_parser.proofs.Steps.{alone_made, pair_made, single_made, member_made}
use Rattle.replaced_trees.proofs.Nodes.{and_tree, expr_tree, sum_tree, product_tree, atom_tree, cell_tree, compare_tree}
use Rattle.replaced_trees.specs.Replaced.{at_atom, at_and, at_cell, at_compare, at_expr, at_product, at_sum, at_unary}
use Rattle.replaced_trees.specs.Replaced.{expr_replaced, and_replaced, cell_replaced, compare_replaced, sum_replaced, product_replaced}
use Rattle.replaced_trees.specs.Replaced.{unary_replaced, atom_replaced}
use Rattle.replaced_trees.specs.Parts.{token_replaced, part_replaced, parts_replaced}

-- the parts of an atom that is made
atom_made : (f : Atom-F Atom AndExpr CellRef Compare Expr Product Sum Unary) → atom_parts (roll-Atom f)
    ≡ spelled.at_atom (map-Atom Atom AndExpr CellRef Compare Expr Product Sum Unary Parts Parts Parts Parts Parts Parts Parts Parts atom_parts and_parts
    cell_parts compare_parts expr_parts product_parts sum_parts unary_parts f)
atom_made f = fold-roll-Atom Parts Parts Parts Parts Parts Parts Parts Parts spelled.at_atom spelled.at_and spelled.at_cell spelled.at_compare
    spelled.at_expr spelled.at_product spelled.at_sum spelled.at_unary f

module _ (to : Name → Name) (home : Pos → Pos) where
  -- ---- signs stay

  pub sum_stays : (o : SumOp) → token_replaced to home (sum_sign o) ≡ sum_sign o
  sum_stays Plus = refl
  sum_stays Minus = refl

  pub product_stays : (o : ProductOp) → token_replaced to home (product_sign o) ≡ product_sign o
  product_stays Times = refl
  product_stays Over = refl
  product_stays Remainder = refl

  pub relation_stays : (o : Relation) → token_replaced to home (relation_sign o) ≡ relation_sign o
  relation_stays Equal = refl
  relation_stays Unequal = refl
  relation_stays Less = refl
  relation_stays LessEqual = refl
  relation_stays Greater = refl
  relation_stays GreaterEqual = refl

  pub unary_stays : (o : UnaryOp) → token_replaced to home (unary_sign o) ≡ unary_sign o
  unary_stays Negative = refl
  unary_stays Not = refl

  -- parts after parts
  pub joined : (a b c d : Parts) → a ≡ parts_replaced to home b → c ≡ parts_replaced to home d → a ++ c ≡ parts_replaced to home (b ++ d)
  joined a b c d h k = (λ i. h i ++ k i) ∙ sym (map-append (part_replaced to home) b d)

  -- a part after which others come
  pub before : (p : _) (a b : Parts) → a ≡ parts_replaced to home b → part_replaced to home p ∷ a ≡ parts_replaced to home (p ∷ b)
  before p a b h = ap (λ (l : Parts). part_replaced to home p ∷ l) h

  bracketed_spelled : (a b : Parts) → a ≡ parts_replaced to home b → bracketed a ≡ parts_replaced to home (bracketed b)
  bracketed_spelled a b h =
      before (fixed LeftBracket) (a ++ fixed RightBracket ∷ []) (b ++ fixed RightBracket ∷ [])
      (joined a b (fixed RightBracket ∷ []) (fixed RightBracket ∷ []) h refl)

  -- ---- chains

  module _ {D : Type 0} (d : D → Compare) (same : (x : D) → compare_parts (compare_replaced to home (d x)) ≡ parts_replaced to home (compare_parts (d x))) where
    abbrev and_rest : List (Pos × D) → List (Pos × Compare)
    and_rest xs = map (λ (p : Pos × D). (p.0, d p.1)) xs

    abbrev and_rest_made : List (Pos × D) → List (Pos × Compare)
    and_rest_made xs =
        map (λ (l : Pos × Compare). (home l.0, l.1)) (map (λ (p : Pos × Compare). (p.0, compare_replaced to home p.1)) (and_rest xs))

    and_links : (xs : List (Pos × D)) → flat_map and_part (and_rest_made xs) ≡ parts_replaced to home (flat_map and_part (and_rest xs))
    and_links [] = refl
    and_links (x ∷ xs) =
        joined (marked (Fixed AndSign) (home x.0) ∷ compare_parts (compare_replaced to home (d x.1))) (marked (Fixed AndSign) x.0 ∷ compare_parts (d x.1))
        (flat_map and_part (and_rest_made xs)) (flat_map and_part (and_rest xs))
        (ap (λ (l : Parts). marked (Fixed AndSign) (home x.0) ∷ l) (same x.1)) (and_links xs)

    and_spelled : (x : D) (xs : List (Pos × D)) → and_parts (and_replaced to home (roll-AndExpr (record { first = d x; rest = and_rest xs })))
        ≡ parts_replaced to home (and_parts (roll-AndExpr (record { first = d x; rest = and_rest xs })))
    and_spelled x xs =
        ap and_parts (and_tree to home (record { first = d x; rest = and_rest xs }))
        ∙ and_made (compare_replaced to home (d x)) (and_rest_made xs)
        ∙ joined (compare_parts (compare_replaced to home (d x))) (compare_parts (d x)) (flat_map and_part (and_rest_made xs))
        (flat_map and_part (and_rest xs)) (same x) (and_links xs)
        ∙ sym (ap (parts_replaced to home) (and_made (d x) (and_rest xs)))

  module _ {B : Type 0} (b : B → AndExpr) (same : (x : B) → and_parts (and_replaced to home (b x)) ≡ parts_replaced to home (and_parts (b x))) where
    abbrev or_rest : List (Pos × B) → List (Pos × AndExpr)
    or_rest xs = map (λ (p : Pos × B). (p.0, b p.1)) xs

    abbrev or_rest_made : List (Pos × B) → List (Pos × AndExpr)
    or_rest_made xs = map (λ (l : Pos × AndExpr). (home l.0, l.1)) (map (λ (p : Pos × AndExpr). (p.0, and_replaced to home p.1)) (or_rest xs))

    or_links : (xs : List (Pos × B)) → flat_map or_part (or_rest_made xs) ≡ parts_replaced to home (flat_map or_part (or_rest xs))
    or_links [] = refl
    or_links (x ∷ xs) =
        joined (marked (Fixed OrSign) (home x.0) ∷ and_parts (and_replaced to home (b x.1))) (marked (Fixed OrSign) x.0 ∷ and_parts (b x.1))
        (flat_map or_part (or_rest_made xs)) (flat_map or_part (or_rest xs))
        (ap (λ (l : Parts). marked (Fixed OrSign) (home x.0) ∷ l) (same x.1)) (or_links xs)

    or_spelled : (x : B) (xs : List (Pos × B)) → expr_parts (expr_replaced to home (roll-Expr (record { first = b x; rest = or_rest xs })))
        ≡ parts_replaced to home (expr_parts (roll-Expr (record { first = b x; rest = or_rest xs })))
    or_spelled x xs =
        ap expr_parts (expr_tree to home (record { first = b x; rest = or_rest xs }))
        ∙ expr_made (and_replaced to home (b x)) (or_rest_made xs)
        ∙ joined (and_parts (and_replaced to home (b x))) (and_parts (b x)) (flat_map or_part (or_rest_made xs))
        (flat_map or_part (or_rest xs)) (same x) (or_links xs)
        ∙ sym (ap (parts_replaced to home) (expr_made (b x) (or_rest xs)))

  module _ {H : Type 0} (h : H → Unary) (same : (x : H) → unary_parts (unary_replaced to home (h x)) ≡ parts_replaced to home (unary_parts (h x))) where
    abbrev product_rest : List (ProductOp × Pos × H) → List (ProductOp × Pos × Unary)
    product_rest xs = map (λ (p : ProductOp × Pos × H). (p.0, p.1, h p.2)) xs

    abbrev product_rest_made : List (ProductOp × Pos × H) → List (ProductOp × Pos × Unary)
    product_rest_made xs =
        map (λ (l : ProductOp × Pos × Unary). (l.0, home l.1, l.2))
        (map (λ (p : ProductOp × Pos × Unary). (p.0, p.1, unary_replaced to home p.2)) (product_rest xs))

    product_links : (xs : List (ProductOp × Pos × H))
        → flat_map product_part (product_rest_made xs) ≡ parts_replaced to home (flat_map product_part (product_rest xs))
    product_links [] = refl
    product_links (x ∷ xs) =
        joined (marked (product_sign x.0) (home x.1) ∷ unary_parts (unary_replaced to home (h x.2))) (marked (product_sign x.0) x.1 ∷ unary_parts (h x.2))
        (flat_map product_part (product_rest_made xs)) (flat_map product_part (product_rest xs))
        (λ i. marked (sym (product_stays x.0) i) (home x.1) ∷ same x.2 i) (product_links xs)

    product_spelled : (x : H) (xs : List (ProductOp × Pos × H))
        → product_parts (product_replaced to home (roll-Product (record { first = h x; rest = product_rest xs })))
        ≡ parts_replaced to home (product_parts (roll-Product (record { first = h x; rest = product_rest xs })))
    product_spelled x xs =
        ap product_parts (product_tree to home (record { first = h x; rest = product_rest xs }))
        ∙ product_made (unary_replaced to home (h x)) (product_rest_made xs)
        ∙ joined (unary_parts (unary_replaced to home (h x))) (unary_parts (h x)) (flat_map product_part (product_rest_made xs))
        (flat_map product_part (product_rest xs)) (same x) (product_links xs)
        ∙ sym (ap (parts_replaced to home) (product_made (h x) (product_rest xs)))

  module _ {F : Type 0} (f : F → Product) (same : (x : F) → product_parts (product_replaced to home (f x)) ≡ parts_replaced to home (product_parts (f x))) where
    abbrev sum_rest : List (SumOp × Pos × F) → List (SumOp × Pos × Product)
    sum_rest xs = map (λ (p : SumOp × Pos × F). (p.0, p.1, f p.2)) xs

    abbrev sum_rest_made : List (SumOp × Pos × F) → List (SumOp × Pos × Product)
    sum_rest_made xs =
        map (λ (l : SumOp × Pos × Product). (l.0, home l.1, l.2))
        (map (λ (p : SumOp × Pos × Product). (p.0, p.1, product_replaced to home p.2)) (sum_rest xs))

    sum_links : (xs : List (SumOp × Pos × F)) → flat_map sum_part (sum_rest_made xs) ≡ parts_replaced to home (flat_map sum_part (sum_rest xs))
    sum_links [] = refl
    sum_links (x ∷ xs) =
        joined (marked (sum_sign x.0) (home x.1) ∷ product_parts (product_replaced to home (f x.2))) (marked (sum_sign x.0) x.1 ∷ product_parts (f x.2))
        (flat_map sum_part (sum_rest_made xs)) (flat_map sum_part (sum_rest xs))
        (λ i. marked (sym (sum_stays x.0) i) (home x.1) ∷ same x.2 i) (sum_links xs)

    sum_spelled : (x : F) (xs : List (SumOp × Pos × F))
        → sum_parts (sum_replaced to home (roll-Sum (record { first = f x; rest = sum_rest xs })))
        ≡ parts_replaced to home (sum_parts (roll-Sum (record { first = f x; rest = sum_rest xs })))
    sum_spelled x xs =
        ap sum_parts (sum_tree to home (record { first = f x; rest = sum_rest xs }))
        ∙ sum_made (product_replaced to home (f x)) (sum_rest_made xs)
        ∙ joined (product_parts (product_replaced to home (f x))) (product_parts (f x)) (flat_map sum_part (sum_rest_made xs))
        (flat_map sum_part (sum_rest xs)) (same x) (sum_links xs)
        ∙ sym (ap (parts_replaced to home) (sum_made (f x) (sum_rest xs)))

  -- ---- signs before an operand

  abbrev signs_made : List (UnaryOp × Pos) → List (UnaryOp × Pos)
  signs_made xs = map (λ (s : UnaryOp × Pos). (s.0, home s.1)) xs

  signs_spelled : (xs : List (UnaryOp × Pos)) → flat_map sign_part (signs_made xs) ≡ parts_replaced to home (flat_map sign_part xs)
  signs_spelled [] = refl
  signs_spelled (x ∷ xs) =
      joined (marked (unary_sign x.0) (home x.1) ∷ []) (marked (unary_sign x.0) x.1 ∷ []) (flat_map sign_part (signs_made xs)) (flat_map sign_part xs)
      (λ i. marked (sym (unary_stays x.0) i) (home x.1) ∷ []) (signs_spelled xs)

  unary_spelled : (xs : List (UnaryOp × Pos)) (a : Atom) → atom_parts (atom_replaced to home a) ≡ parts_replaced to home (atom_parts a)
      → unary_parts (unary_replaced to home (record { signs = xs; atom = a })) ≡ parts_replaced to home (unary_parts (record { signs = xs; atom = a }))
  unary_spelled xs a h =
      ap unary_parts (fold_out-Unary Atom AndExpr CellRef Compare Expr Product Sum Unary (at_atom to home) (at_and to home) (at_cell to home)
      (at_compare to home) (at_expr to home) (at_product to home) (at_sum to home) (at_unary to home) (record { signs = xs; atom = a }))
      ∙ spelling.unary_opens (record { signs = signs_made xs; atom = atom_replaced to home a })
      ∙ joined (flat_map sign_part (signs_made xs)) (flat_map sign_part xs) (atom_parts (atom_replaced to home a)) (atom_parts a) (signs_spelled xs) h
      ∙ sym (ap (parts_replaced to home) (spelling.unary_opens (record { signs = xs; atom = a })))

  -- ---- atoms, cells and comparisons

  module _ {A B C D E F G H : Type 0} (a : A → Atom) (b : B → AndExpr) (c : C → CellRef) (d : D → Compare) (e : E → Expr) (f : F → Product) (g : G → Sum)
      (h : H → Unary)
      (cells : (x : C) → cell_parts (cell_replaced to home (c x)) ≡ parts_replaced to home (cell_parts (c x)))
      (exprs : (x : E) → expr_parts (expr_replaced to home (e x)) ≡ parts_replaced to home (expr_parts (e x)))
      (sums : (x : G) → sum_parts (sum_replaced to home (g x)) ≡ parts_replaced to home (sum_parts (g x))) where
    abbrev atom_of : Atom-F A B C D E F G H → Atom-F Atom AndExpr CellRef Compare Expr Product Sum Unary
    atom_of y = map-Atom A B C D E F G H Atom AndExpr CellRef Compare Expr Product Sum Unary a b c d e f g h y

    atom_spelled : (y : Atom-F A B C D E F G H) → atom_parts (atom_replaced to home (roll-Atom (atom_of y)))
        ≡ parts_replaced to home (atom_parts (roll-Atom (atom_of y)))
    atom_spelled (Atom-F.Whole n) =
        ap atom_parts (atom_tree to home (atom_of (Atom-F.Whole n))) ∙ atom_made (Atom-F.Whole (record { value = n.value; pos = home n.pos }))
        ∙ sym (ap (parts_replaced to home) (atom_made (atom_of (Atom-F.Whole n))))
    atom_spelled (Atom-F.Truth true p) =
        ap atom_parts (atom_tree to home (atom_of (Atom-F.Truth true p))) ∙ atom_made (Atom-F.Truth true (home p))
        ∙ sym (ap (parts_replaced to home) (atom_made (atom_of (Atom-F.Truth true p))))
    atom_spelled (Atom-F.Truth false p) =
        ap atom_parts (atom_tree to home (atom_of (Atom-F.Truth false p))) ∙ atom_made (Atom-F.Truth false (home p))
        ∙ sym (ap (parts_replaced to home) (atom_made (atom_of (Atom-F.Truth false p))))
    atom_spelled (Atom-F.Group p x) =
        ap atom_parts (atom_tree to home (atom_of (Atom-F.Group p x))) ∙ atom_made _
        ∙ ap (λ (l : Parts). marked (Fixed LeftParen) (home p) ∷ l)
        (joined (expr_parts (expr_replaced to home (e x.value))) (expr_parts (e x.value)) (fixed RightParen ∷ []) (fixed RightParen ∷ [])
        (exprs x.value) refl)
        ∙ sym (ap (parts_replaced to home) (atom_made (atom_of (Atom-F.Group p x))))
    atom_spelled (Atom-F.Named n p) =
        ap atom_parts (atom_tree to home (atom_of (Atom-F.Named n p))) ∙ atom_made (Atom-F.Named (to n) (home p))
        ∙ sym (ap (parts_replaced to home) (atom_made (atom_of (Atom-F.Named n p))))
    atom_spelled (Atom-F.Cell x) =
        ap atom_parts (atom_tree to home (atom_of (Atom-F.Cell x))) ∙ atom_made _ ∙ cells x.value
        ∙ sym (ap (parts_replaced to home) (atom_made (atom_of (Atom-F.Cell x))))

    abbrev cell_of : CellRef-F A B C D E F G H → CellRef-F Atom AndExpr CellRef Compare Expr Product Sum Unary
    cell_of y = map-CellRef A B C D E F G H Atom AndExpr CellRef Compare Expr Product Sum Unary a b c d e f g h y

    cell_at : (n : List ℕ) (p : Pos) (o : Option E) (x : E)
        → cell_parts (cell_replaced to home (roll-CellRef (cell_of (record { name = n; pos = p; family = o; cell = x }))))
        ≡ parts_replaced to home (cell_parts (roll-CellRef (cell_of (record { name = n; pos = p; family = o; cell = x }))))
    cell_at n p None x =
        ap cell_parts (cell_tree to home (cell_of (record { name = n; pos = p; family = None; cell = x })))
        ∙ single_made (to n) (home p) (expr_replaced to home (e x))
        ∙ ap (λ (l : Parts). marked (Called (to n)) (home p) ∷ l)
        (bracketed_spelled (expr_parts (expr_replaced to home (e x))) (expr_parts (e x)) (exprs x))
        ∙ sym (ap (parts_replaced to home) (single_made n p (e x)))
    cell_at n p (Some o) x =
        ap cell_parts (cell_tree to home (cell_of (record { name = n; pos = p; family = Some o; cell = x })))
        ∙ member_made (to n) (home p) (expr_replaced to home (e o)) (expr_replaced to home (e x))
        ∙ ap (λ (l : Parts). marked (Called (to n)) (home p) ∷ l)
        (joined (bracketed (expr_parts (expr_replaced to home (e o)))) (bracketed (expr_parts (e o)))
        (bracketed (expr_parts (expr_replaced to home (e x)))) (bracketed (expr_parts (e x)))
        (bracketed_spelled (expr_parts (expr_replaced to home (e o))) (expr_parts (e o)) (exprs o))
        (bracketed_spelled (expr_parts (expr_replaced to home (e x))) (expr_parts (e x)) (exprs x)))
        ∙ sym (ap (parts_replaced to home) (member_made n p (e o) (e x)))

    cell_spelled_at : (y : CellRef-F A B C D E F G H) → cell_parts (cell_replaced to home (roll-CellRef (cell_of y)))
        ≡ parts_replaced to home (cell_parts (roll-CellRef (cell_of y)))
    cell_spelled_at y = cell_at y.name y.pos y.family y.cell

    abbrev compare_of : Compare-F A B C D E F G H → Compare-F Atom AndExpr CellRef Compare Expr Product Sum Unary
    compare_of y = map-Compare A B C D E F G H Atom AndExpr CellRef Compare Expr Product Sum Unary a b c d e f g h y

    compare_at : (x : G) (o : Option (Relation × Pos × G))
        → compare_parts (compare_replaced to home (roll-Compare (compare_of (record { left = x; right = o }))))
        ≡ parts_replaced to home (compare_parts (roll-Compare (compare_of (record { left = x; right = o }))))
    compare_at x None =
        ap compare_parts (compare_tree to home (compare_of (record { left = x; right = None }))) ∙ alone_made (sum_replaced to home (g x))
        ∙ joined (sum_parts (sum_replaced to home (g x))) (sum_parts (g x)) [] [] (sums x) refl
        ∙ sym (ap (parts_replaced to home) (alone_made (g x)))
    compare_at x (Some o) =
        ap compare_parts (compare_tree to home (compare_of (record { left = x; right = Some o })))
        ∙ pair_made (sum_replaced to home (g x)) (sum_replaced to home (g o.2)) o.0 (home o.1)
        ∙ joined (sum_parts (sum_replaced to home (g x))) (sum_parts (g x))
        (marked (relation_sign o.0) (home o.1) ∷ sum_parts (sum_replaced to home (g o.2))) (marked (relation_sign o.0) o.1 ∷ sum_parts (g o.2))
        (sums x) (λ i. marked (sym (relation_stays o.0) i) (home o.1) ∷ sums o.2 i)
        ∙ sym (ap (parts_replaced to home) (pair_made (g x) (g o.2) o.0 o.1))

    compare_spelled_at : (y : Compare-F A B C D E F G H) → compare_parts (compare_replaced to home (roll-Compare (compare_of y)))
        ≡ parts_replaced to home (compare_parts (roll-Compare (compare_of y)))
    compare_spelled_at y = compare_at y.left y.right

  pub expr_spelled : (e : Expr) → expr_parts (expr_replaced to home e) ≡ parts_replaced to home (expr_parts e)
  expr_spelled e = ind-Expr (λ x. atom_parts (atom_replaced to home x) ≡ parts_replaced to home (atom_parts x))
      (λ x. and_parts (and_replaced to home x) ≡ parts_replaced to home (and_parts x))
      (λ x. cell_parts (cell_replaced to home x) ≡ parts_replaced to home (cell_parts x))
      (λ x. compare_parts (compare_replaced to home x) ≡ parts_replaced to home (compare_parts x))
      (λ x. expr_parts (expr_replaced to home x) ≡ parts_replaced to home (expr_parts x))
      (λ x. product_parts (product_replaced to home x) ≡ parts_replaced to home (product_parts x))
      (λ x. sum_parts (sum_replaced to home x) ≡ parts_replaced to home (sum_parts x))
      (λ x. unary_parts (unary_replaced to home x) ≡ parts_replaced to home (unary_parts x))
      (λ x y k. rw (← k) (atom_spelled (λ z. z.0) (λ z. z.0) (λ z. z.0) (λ z. z.0) (λ z. z.0) (λ z. z.0) (λ z. z.0) (λ z. z.0)
      (λ z. z.1) (λ z. z.1) (λ z. z.1) y))
      (λ x y k. rw (← k) (and_spelled (λ z. z.0) (λ z. z.1) y.first y.rest))
      (λ x y k. rw (← k) (cell_spelled_at (λ z. z.0) (λ z. z.0) (λ z. z.0) (λ z. z.0) (λ z. z.0) (λ z. z.0) (λ z. z.0) (λ z. z.0)
      (λ z. z.1) (λ z. z.1) (λ z. z.1) y))
      (λ x y k. rw (← k) (compare_spelled_at (λ z. z.0) (λ z. z.0) (λ z. z.0) (λ z. z.0) (λ z. z.0) (λ z. z.0) (λ z. z.0) (λ z. z.0)
      (λ z. z.1) (λ z. z.1) (λ z. z.1) y))
      (λ x y k. rw (← k) (or_spelled (λ z. z.0) (λ z. z.1) y.first y.rest))
      (λ x y k. rw (← k) (product_spelled (λ z. z.0) (λ z. z.1) y.first y.rest))
      (λ x y k. rw (← k) (sum_spelled (λ z. z.0) (λ z. z.1) y.first y.rest))
      (λ x y k. rw (← k) (unary_spelled y.signs y.atom.0 y.atom.1)) e

  -- an expression that lies in no other
  numbers_spelled : (n : ℕ) (ps : Parts) → numbered n (parts_replaced to home ps) ≡ parts_replaced to home (numbered n ps)
  numbers_spelled n [] = refl
  numbers_spelled n (p ∷ ps) =
      ap (λ (l : Parts). record { token = token_replaced to home p.token; at = (part_replaced to home p).at; nth = n + 1 } ∷ l) (numbers_spelled (n + 1) ps)

  pub outer_spelled : (e : Expr) → outer (expr_replaced to home e) ≡ parts_replaced to home (outer e)
  outer_spelled e = ap (numbered 0) (expr_spelled e) ∙ numbers_spelled 0 (expr_parts e)
