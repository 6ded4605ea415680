-- The tokens of an expression: names, numbers and operators, in brackets that are closed, and its names in text order.
use Rattle.std.proofs.Common.{◌≡◌, ℕ, suc, true, false, ◌+◌, ◌<◌, List, [], ◌∷◌, ◌++◌, Option, Some, None, length, map, refl, sym, ap, ◌∙◌, subst, arith}
use Rattle.std.specs.Prelude.{ℤ}
use Rattle.std.specs.List.{flat_map}
use Rattle.std.proofs.lemmas.List.{map-append, append-nil, length-append}
use Rattle.jade_base.specs.declared.place.Pos.{Pos}
use Rattle.jade_syntax.specs.declared.tree.Relation.{Relation}
use Rattle.jade_syntax.specs.declared.tree.Relation.TheVariants.{Equal, Unequal, Less, LessEqual, Greater, GreaterEqual}
use Rattle.jade_syntax.specs.declared.tree.SumOp.{SumOp}
use Rattle.jade_syntax.specs.declared.tree.SumOp.TheVariants.{Plus, Minus}
use Rattle.jade_syntax.specs.declared.tree.ProductOp.{ProductOp}
use Rattle.jade_syntax.specs.declared.tree.ProductOp.TheVariants.{Times, Over, Remainder}
use Rattle.jade_syntax.specs.declared.tree.UnaryOp.{UnaryOp}
use Rattle.jade_syntax.specs.declared.tree.UnaryOp.TheVariants.{Negative, Not}
use Rattle.jade_syntax.specs.declared.tree.Atom.{Atom, roll-Atom, fold-roll-Atom, map-Atom}
use Rattle.jade_syntax.specs.declared.tree.Atom.TheOpen.{Atom-F, CellRef-F, Compare-F}
use Rattle.jade_syntax.specs.declared.tree.AndExpr.{AndExpr, roll-AndExpr}
use Rattle.jade_syntax.specs.declared.tree.CellRef.{CellRef, roll-CellRef, fold-roll-CellRef, map-CellRef}
use Rattle.jade_syntax.specs.declared.tree.Compare.{Compare, roll-Compare, map-Compare}
use Rattle.jade_syntax.specs.declared.tree.Expr.{Expr, roll-Expr, ind-Expr}
use Rattle.jade_syntax.specs.declared.tree.Product.{Product, roll-Product}
use Rattle.jade_syntax.specs.declared.tree.Sum.{Sum, roll-Sum}
use Rattle.jade_syntax.specs.declared.tree.Unary.{Unary}
use Rattle.jade_syntax.specs.Abstract.{Name, Expression}
use Rattle.jade_syntax.specs.Forms as general
use Rattle.jade_syntax.specs.Image as image
use Rattle.jade_syntax.specs.Image.{forms, Linked, Reference, expression, and_expression, reference, compare_expression, product_expression}
use Rattle.jade_syntax.specs.Image.{sum_expression, unary_expression, atom_expression}
use Rattle.jade_syntax.proofs.Opened as opened
use Rattle.jade_parser.specs.declared.Sign.{Sign}
use Rattle.jade_parser.specs.declared.Sign.TheVariants.{LeftParen, RightParen, LeftBracket, RightBracket, OrSign, AndSign}
use Rattle.jade_parser.specs.Spelled as spelled
use Rattle.jade_parser.specs.Spelled.{Token, Tokens, Fixed, Called, Counted, Part, Parts, tokens_of, marked, fixed, bracketed, numbered, outer}
use Rattle.jade_parser.specs.Spelled.{truth_word, relation_sign, sum_sign, product_sign, unary_sign}
use Rattle.jade_parser.specs.Spelled.{expr_parts, and_parts, cell_parts, compare_parts, sum_parts, product_parts, unary_parts, atom_parts}
use Rattle.jade_parser.specs.Spelled.{or_part, and_part, sum_part, product_part, sign_part}
use Rattle.jade_parser.proofs.Spelling as spelling
use Rattle.jade_parser.proofs.Steps.{alone_made, pair_made, single_made, member_made}
use Rattle.replaced_trees.proofs.Made as made
use Rattle.proc_expand.specs.declared.sign.Sign.TheVariants as mark
use Rattle.proc_laws.specs.Expansion.{names_in, link_names, place_names}
use Rattle.proc_laws.proofs.SignsOfTokens.{token_sign}

-- such tokens, and their names
pub data Inner : Tokens → List Name → Type 0 where
  nothing : Inner [] []
  joined : (a b : Tokens) (x y : List Name) → Inner a x → Inner b y → Inner (a ++ b) (x ++ y)
  name : (x : Name) → Inner (Called x ∷ []) (x ∷ [])
  number : (v : ℤ) → Inner (Counted v ∷ []) []
  sign : (s : Sign) → token_sign (Fixed s) ≡ mark.Other → Inner (Fixed s ∷ []) []
  round : (a : Tokens) (x : List Name) → Inner a x → Inner (Fixed LeftParen ∷ (a ++ Fixed RightParen ∷ [])) x
  square : (a : Tokens) (x : List Name) → Inner a x → Inner (Fixed LeftBracket ∷ (a ++ Fixed RightBracket ∷ [])) x

-- parts with such tokens
pub record Within (ps : Parts) (xs : List Name) : Type 0 where
  pub inner : Inner (tokens_of ps) xs

-- and there is such a token
pub record Full (ps : Parts) (xs : List Name) : Type 0 where
  pub within : Within ps xs
  pub some : 0 < length ps

by : (ps qs : Parts) (xs ys : List Name) → ps ≡ qs → xs ≡ ys → Full qs ys → Full ps xs
by ps qs xs ys e f w = subst (λ (x : List Name). Full ps x) (sym f) (subst (λ (t : Parts). Full t ys) (sym e) w)

pub within_none : Within [] []
within_none = record { inner = nothing }

pub within_both : (a b : Parts) (x y : List Name) → Within a x → Within b y → Within (a ++ b) (x ++ y)
within_both a b x y f g = record {
  inner = subst (λ (t : Tokens). Inner t (x ++ y)) (sym (map-append (λ (p : Part). p.token) a b)) (joined (tokens_of a) (tokens_of b) x y f.inner g.inner);
}

full_both : (a b : Parts) (x y : List Name) → Full a x → Within b y → Full (a ++ b) (x ++ y)
full_both a b x y f g =
    let l = length-append a b in let s = f.some in
    record { within = within_both a b x y f.within g; some = omega (arith, l, s) }

before_full : (a b : Parts) (x y : List Name) → Within a x → Full b y → Full (a ++ b) (x ++ y)
before_full a b x y f g =
    let l = length-append a b in let s = g.some in
    record { within = within_both a b x y f g.within; some = omega (arith, l, s) }

full_one : (p : Part) (ps : Parts) (xs : List Name) → Within (p ∷ ps) xs → Full (p ∷ ps) xs
full_one p ps xs w = record { within = w; some = omega arith }

-- an operator before some parts
within_after : (t : Token) (at : Pos) (ps : Parts) (xs : List Name) → Inner (t ∷ []) [] → Within ps xs → Within (marked t at ∷ ps) xs
within_after t at ps xs h w = record { inner = joined (t ∷ []) (tokens_of ps) [] xs h w.inner }

within_name : (x : Name) (at : Pos) (ps : Parts) (xs : List Name) → Within ps xs → Within (marked (Called x) at ∷ ps) (x ∷ xs)
within_name x at ps xs w = record { inner = joined (Called x ∷ []) (tokens_of ps) (x ∷ []) xs (name x) w.inner }

pub within_square : (ps : Parts) (xs : List Name) → Within ps xs → Within (bracketed ps) xs
within_square ps xs w = record {
  inner = subst (λ (t : Tokens). Inner t xs) (ap (λ (t : Tokens). Fixed LeftBracket ∷ t) (sym (map-append (λ (p : Part). p.token) ps (fixed RightBracket ∷ []))))
      (square (tokens_of ps) xs w.inner);
}

within_round : (at : Pos) (ps : Parts) (xs : List Name) → Within ps xs → Within (marked (Fixed LeftParen) at ∷ (ps ++ fixed RightParen ∷ [])) xs
within_round at ps xs w = record {
  inner = subst (λ (t : Tokens). Inner t xs) (ap (λ (t : Tokens). Fixed LeftParen ∷ t) (sym (map-append (λ (p : Part). p.token) ps (fixed RightParen ∷ []))))
      (round (tokens_of ps) xs w.inner);
}

sum_inner : (o : SumOp) → Inner (sum_sign o ∷ []) []
sum_inner Plus = sign _ refl
sum_inner Minus = sign _ refl

product_inner : (o : ProductOp) → Inner (product_sign o ∷ []) []
product_inner Times = sign _ refl
product_inner Over = sign _ refl
product_inner Remainder = sign _ refl

relation_inner : (o : Relation) → Inner (relation_sign o ∷ []) []
relation_inner Equal = sign _ refl
relation_inner Unequal = sign _ refl
relation_inner Less = sign _ refl
relation_inner LessEqual = sign _ refl
relation_inner Greater = sign _ refl
relation_inner GreaterEqual = sign _ refl

unary_inner : (o : UnaryOp) → Inner (unary_sign o ∷ []) []
unary_inner Negative = sign _ refl
unary_inner Not = sign _ refl

-- ---- names of chains

abbrev pub operand_names : List Linked → List Name
operand_names [] = []
operand_names (l ∷ ls) = names_in l.operand ++ operand_names ls

links_names : (ls : List Linked) → link_names (image.links ls) ≡ operand_names ls
links_names [] = refl
links_names (l ∷ ls) = ap (λ (x : List Name). names_in l.operand ++ x) (links_names ls)

chain_names : (e : Expression) (ls : List Linked) → names_in (image.chained e ls) ≡ names_in e ++ operand_names ls
chain_names e [] = sym (append-nil (names_in e))
chain_names e (l ∷ ls) = ap (λ (x : List Name). names_in e ++ x) (links_names (l ∷ ls))

-- ---- chains

module _ {D : Type 0} (d : D → Compare) (each : (x : D) → Full (compare_parts (d x)) (names_in (compare_expression (d x)))) where
  abbrev and_rest : List (Pos × D) → List (Pos × Compare)
  and_rest xs = map (λ (p : Pos × D). (p.0, d p.1)) xs

  and_links : (xs : List (Pos × D)) → Within (flat_map and_part (and_rest xs)) (operand_names (map (general.and_link forms) (and_rest xs)))
  and_links [] = within_none
  and_links (x ∷ xs) =
      within_both (and_part (x.0, d x.1)) (flat_map and_part (and_rest xs)) (names_in (compare_expression (d x.1))) _
      (within_after (Fixed AndSign) x.0 _ _ (sign AndSign refl) (each x.1).within) (and_links xs)

  and_within : (x : D) (xs : List (Pos × D)) → Full (and_parts (roll-AndExpr (record { first = d x; rest = and_rest xs })))
      (names_in (and_expression (roll-AndExpr (record { first = d x; rest = and_rest xs }))))
  and_within x xs =
      by _ _ _ _ (spelling.and_made (d x) (and_rest xs))
      (ap names_in (made.and_made forms (d x) (and_rest xs)) ∙ chain_names (compare_expression (d x)) (map (general.and_link forms) (and_rest xs)))
      (full_both (compare_parts (d x)) (flat_map and_part (and_rest xs)) (names_in (compare_expression (d x))) _ (each x) (and_links xs))

module _ {B : Type 0} (b : B → AndExpr) (each : (x : B) → Full (and_parts (b x)) (names_in (and_expression (b x)))) where
  abbrev or_rest : List (Pos × B) → List (Pos × AndExpr)
  or_rest xs = map (λ (p : Pos × B). (p.0, b p.1)) xs

  or_links : (xs : List (Pos × B)) → Within (flat_map or_part (or_rest xs)) (operand_names (map (general.or_link forms) (or_rest xs)))
  or_links [] = within_none
  or_links (x ∷ xs) =
      within_both (or_part (x.0, b x.1)) (flat_map or_part (or_rest xs)) (names_in (and_expression (b x.1))) _
      (within_after (Fixed OrSign) x.0 _ _ (sign OrSign refl) (each x.1).within) (or_links xs)

  or_within : (x : B) (xs : List (Pos × B)) → Full (expr_parts (roll-Expr (record { first = b x; rest = or_rest xs })))
      (names_in (expression (roll-Expr (record { first = b x; rest = or_rest xs }))))
  or_within x xs =
      by _ _ _ _ (spelling.expr_made (b x) (or_rest xs))
      (ap names_in (made.expr_made forms (b x) (or_rest xs)) ∙ chain_names (and_expression (b x)) (map (general.or_link forms) (or_rest xs)))
      (full_both (and_parts (b x)) (flat_map or_part (or_rest xs)) (names_in (and_expression (b x))) _ (each x) (or_links xs))

module _ {H : Type 0} (h : H → Unary) (each : (x : H) → Full (unary_parts (h x)) (names_in (unary_expression (h x)))) where
  abbrev product_rest : List (ProductOp × Pos × H) → List (ProductOp × Pos × Unary)
  product_rest xs = map (λ (p : ProductOp × Pos × H). (p.0, p.1, h p.2)) xs

  product_links : (xs : List (ProductOp × Pos × H))
      → Within (flat_map product_part (product_rest xs)) (operand_names (map (general.product_link forms) (product_rest xs)))
  product_links [] = within_none
  product_links (x ∷ xs) =
      within_both (product_part (x.0, x.1, h x.2)) (flat_map product_part (product_rest xs)) (names_in (unary_expression (h x.2))) _
      (within_after (product_sign x.0) x.1 _ _ (product_inner x.0) (each x.2).within) (product_links xs)

  product_within : (x : H) (xs : List (ProductOp × Pos × H))
      → Full (product_parts (roll-Product (record { first = h x; rest = product_rest xs })))
      (names_in (product_expression (roll-Product (record { first = h x; rest = product_rest xs }))))
  product_within x xs =
      by _ _ _ _ (spelling.product_made (h x) (product_rest xs))
      (ap names_in (made.product_made forms (h x) (product_rest xs)) ∙ chain_names (unary_expression (h x)) (map (general.product_link forms) (product_rest xs)))
      (full_both (unary_parts (h x)) (flat_map product_part (product_rest xs)) (names_in (unary_expression (h x))) _ (each x) (product_links xs))

module _ {F : Type 0} (f : F → Product) (each : (x : F) → Full (product_parts (f x)) (names_in (product_expression (f x)))) where
  abbrev sum_rest : List (SumOp × Pos × F) → List (SumOp × Pos × Product)
  sum_rest xs = map (λ (p : SumOp × Pos × F). (p.0, p.1, f p.2)) xs

  sum_links : (xs : List (SumOp × Pos × F)) → Within (flat_map sum_part (sum_rest xs)) (operand_names (map (general.sum_link forms) (sum_rest xs)))
  sum_links [] = within_none
  sum_links (x ∷ xs) =
      within_both (sum_part (x.0, x.1, f x.2)) (flat_map sum_part (sum_rest xs)) (names_in (product_expression (f x.2))) _
      (within_after (sum_sign x.0) x.1 _ _ (sum_inner x.0) (each x.2).within) (sum_links xs)

  sum_within : (x : F) (xs : List (SumOp × Pos × F)) → Full (sum_parts (roll-Sum (record { first = f x; rest = sum_rest xs })))
      (names_in (sum_expression (roll-Sum (record { first = f x; rest = sum_rest xs }))))
  sum_within x xs =
      by _ _ _ _ (spelling.sum_made (f x) (sum_rest xs))
      (ap names_in (made.sum_made forms (f x) (sum_rest xs)) ∙ chain_names (product_expression (f x)) (map (general.sum_link forms) (sum_rest xs)))
      (full_both (product_parts (f x)) (flat_map sum_part (sum_rest xs)) (names_in (product_expression (f x))) _ (each x) (sum_links xs))

-- ---- signs before an operand

signed_names : (xs : List (UnaryOp × Pos)) (e : Expression) → names_in (image.signed xs e) ≡ names_in e
signed_names [] e = refl
signed_names (x ∷ xs) e = signed_names xs e

signs_within : (xs : List (UnaryOp × Pos)) → Within (flat_map sign_part xs) []
signs_within [] = within_none
signs_within (x ∷ xs) = within_both (sign_part x) (flat_map sign_part xs) [] [] (record { inner = unary_inner x.0 }) (signs_within xs)

unary_within : (xs : List (UnaryOp × Pos)) (a : Atom) → Full (atom_parts a) (names_in (atom_expression a))
    → Full (unary_parts (record { signs = xs; atom = a })) (names_in (unary_expression (record { signs = xs; atom = a })))
unary_within xs a w =
    by _ _ _ _ (spelling.unary_opens (record { signs = xs; atom = a }))
    (ap names_in (opened.unary_opens forms (record { signs = xs; atom = a })) ∙ signed_names xs (atom_expression a))
    (before_full (flat_map sign_part xs) (atom_parts a) [] (names_in (atom_expression a)) (signs_within xs) w)

-- ---- atoms, cells and comparisons

atom_spelled : (f : Atom-F Atom AndExpr CellRef Compare Expr Product Sum Unary) → atom_parts (roll-Atom f)
    ≡ spelled.at_atom (map-Atom Atom AndExpr CellRef Compare Expr Product Sum Unary Parts Parts Parts Parts Parts Parts Parts Parts atom_parts and_parts
    cell_parts compare_parts expr_parts product_parts sum_parts unary_parts f)
atom_spelled f = fold-roll-Atom Parts Parts Parts Parts Parts Parts Parts Parts spelled.at_atom spelled.at_and spelled.at_cell spelled.at_compare
    spelled.at_expr spelled.at_product spelled.at_sum spelled.at_unary f

atom_seen : (f : Atom-F Atom AndExpr CellRef Compare Expr Product Sum Unary) → atom_expression (roll-Atom f)
    ≡ general.at_atom forms (map-Atom Atom AndExpr CellRef Compare Expr Product Sum Unary Expression Expression Reference Expression Expression Expression
    Expression Expression atom_expression and_expression reference compare_expression expression product_expression sum_expression unary_expression f)
atom_seen f = fold-roll-Atom Expression Expression Reference Expression Expression Expression Expression Expression (general.at_atom forms)
    (general.at_and forms) (general.at_cell forms) (general.at_compare forms) (general.at_expr forms) (general.at_product forms) (general.at_sum forms)
    (general.at_unary forms) f

cell_seen : (f : CellRef-F Atom AndExpr CellRef Compare Expr Product Sum Unary) → reference (roll-CellRef f)
    ≡ general.at_cell forms (map-CellRef Atom AndExpr CellRef Compare Expr Product Sum Unary Expression Expression Reference Expression Expression Expression
    Expression Expression atom_expression and_expression reference compare_expression expression product_expression sum_expression unary_expression f)
cell_seen f = fold-roll-CellRef Expression Expression Reference Expression Expression Expression Expression Expression (general.at_atom forms)
    (general.at_and forms) (general.at_cell forms) (general.at_compare forms) (general.at_expr forms) (general.at_product forms) (general.at_sum forms)
    (general.at_unary forms) f

-- the names of a cell
abbrev pub cell_names : Reference → List Name
cell_names r = place_names r.place ++ names_in r.cell

module _ {A B C D E F G H : Type 0} (a : A → Atom) (b : B → AndExpr) (c : C → CellRef) (d : D → Compare) (e : E → Expr) (f : F → Product) (g : G → Sum)
    (h : H → Unary)
    (cells : (x : C) → Full (cell_parts (c x)) (cell_names (reference (c x))))
    (exprs : (x : E) → Full (expr_parts (e x)) (names_in (expression (e x))))
    (sums : (x : G) → Full (sum_parts (g x)) (names_in (sum_expression (g x)))) where
  abbrev atom_of : Atom-F A B C D E F G H → Atom-F Atom AndExpr CellRef Compare Expr Product Sum Unary
  atom_of y = map-Atom A B C D E F G H Atom AndExpr CellRef Compare Expr Product Sum Unary a b c d e f g h y

  atom_within : (y : Atom-F A B C D E F G H) → Full (atom_parts (roll-Atom (atom_of y))) (names_in (atom_expression (roll-Atom (atom_of y))))
  atom_within (Atom-F.Whole n) =
      by _ _ _ _ (atom_spelled (atom_of (Atom-F.Whole n))) (ap names_in (atom_seen (atom_of (Atom-F.Whole n)))) (full_one _ [] _ (record { inner = number n.value }))
  atom_within (Atom-F.Truth true p) =
      by _ _ _ _ (atom_spelled (atom_of (Atom-F.Truth true p))) (ap names_in (atom_seen (atom_of (Atom-F.Truth true p)))) (full_one _ [] _ (record { inner = sign _ refl }))
  atom_within (Atom-F.Truth false p) =
      by _ _ _ _ (atom_spelled (atom_of (Atom-F.Truth false p))) (ap names_in (atom_seen (atom_of (Atom-F.Truth false p)))) (full_one _ [] _ (record { inner = sign _ refl }))
  atom_within (Atom-F.Group p x) =
      by _ _ _ _ (atom_spelled (atom_of (Atom-F.Group p x))) (ap names_in (atom_seen (atom_of (Atom-F.Group p x))))
      (full_one _ _ _ (within_round p (expr_parts (e x.value)) (names_in (expression (e x.value))) (exprs x.value).within))
  atom_within (Atom-F.Named n p) =
      by _ _ _ _ (atom_spelled (atom_of (Atom-F.Named n p))) (ap names_in (atom_seen (atom_of (Atom-F.Named n p)))) (full_one _ [] _ (record { inner = name n }))
  atom_within (Atom-F.Cell x) =
      by _ _ _ _ (atom_spelled (atom_of (Atom-F.Cell x))) (ap names_in (atom_seen (atom_of (Atom-F.Cell x)))) (cells x.value)

  abbrev cell_of : CellRef-F A B C D E F G H → CellRef-F Atom AndExpr CellRef Compare Expr Product Sum Unary
  cell_of y = map-CellRef A B C D E F G H Atom AndExpr CellRef Compare Expr Product Sum Unary a b c d e f g h y

  cell_at : (n : List ℕ) (p : Pos) (o : Option E) (x : E)
      → Full (cell_parts (roll-CellRef (cell_of (record { name = n; pos = p; family = o; cell = x }))))
      (cell_names (reference (roll-CellRef (cell_of (record { name = n; pos = p; family = o; cell = x })))))
  cell_at n p None x =
      by _ _ _ _ (single_made n p (e x)) (ap cell_names (cell_seen (cell_of (record { name = n; pos = p; family = None; cell = x }))))
      (full_one _ _ _ (within_name n p (bracketed (expr_parts (e x))) (names_in (expression (e x)))
      (within_square (expr_parts (e x)) (names_in (expression (e x))) (exprs x).within)))
  cell_at n p (Some o) x =
      by _ _ _ _ (member_made n p (e o) (e x)) (ap cell_names (cell_seen (cell_of (record { name = n; pos = p; family = Some o; cell = x }))))
      (full_one _ _ _ (within_name n p (bracketed (expr_parts (e o)) ++ bracketed (expr_parts (e x))) (names_in (expression (e o)) ++ names_in (expression (e x)))
      (within_both (bracketed (expr_parts (e o))) (bracketed (expr_parts (e x))) (names_in (expression (e o))) (names_in (expression (e x)))
      (within_square (expr_parts (e o)) (names_in (expression (e o))) (exprs o).within)
      (within_square (expr_parts (e x)) (names_in (expression (e x))) (exprs x).within))))

  cell_within : (y : CellRef-F A B C D E F G H) → Full (cell_parts (roll-CellRef (cell_of y))) (cell_names (reference (roll-CellRef (cell_of y))))
  cell_within y = cell_at y.name y.pos y.family y.cell

  abbrev compare_of : Compare-F A B C D E F G H → Compare-F Atom AndExpr CellRef Compare Expr Product Sum Unary
  compare_of y = map-Compare A B C D E F G H Atom AndExpr CellRef Compare Expr Product Sum Unary a b c d e f g h y

  compare_at : (x : G) (o : Option (Relation × Pos × G))
      → Full (compare_parts (roll-Compare (compare_of (record { left = x; right = o }))))
      (names_in (compare_expression (roll-Compare (compare_of (record { left = x; right = o })))))
  compare_at x None =
      by _ _ _ _ (alone_made (g x)) (ap names_in (made.compare_made forms (g x) None) ∙ sym (append-nil (names_in (sum_expression (g x)))))
      (full_both (sum_parts (g x)) [] (names_in (sum_expression (g x))) [] (sums x) within_none)
  compare_at x (Some o) =
      by _ _ _ _ (pair_made (g x) (g o.2) o.0 o.1)
      (ap names_in (made.compare_made forms (g x) (Some (o.0, o.1, g o.2)))
      ∙ ap (λ (l : List Name). names_in (sum_expression (g x)) ++ l) (append-nil (names_in (sum_expression (g o.2)))))
      (full_both (sum_parts (g x)) (marked (relation_sign o.0) o.1 ∷ sum_parts (g o.2)) (names_in (sum_expression (g x))) (names_in (sum_expression (g o.2)))
      (sums x) (within_after (relation_sign o.0) o.1 _ _ (relation_inner o.0) (sums o.2).within))

  compare_within : (y : Compare-F A B C D E F G H)
      → Full (compare_parts (roll-Compare (compare_of y))) (names_in (compare_expression (roll-Compare (compare_of y))))
  compare_within y = compare_at y.left y.right

pub expr_full : (e : Expr) → Full (expr_parts e) (names_in (expression e))
expr_full e = ind-Expr (λ x. Full (atom_parts x) (names_in (atom_expression x)))
    (λ x. Full (and_parts x) (names_in (and_expression x)))
    (λ x. Full (cell_parts x) (cell_names (reference x)))
    (λ x. Full (compare_parts x) (names_in (compare_expression x)))
    (λ x. Full (expr_parts x) (names_in (expression x)))
    (λ x. Full (product_parts x) (names_in (product_expression x)))
    (λ x. Full (sum_parts x) (names_in (sum_expression x)))
    (λ x. Full (unary_parts x) (names_in (unary_expression x)))
    (λ x y k. rw (← k) (atom_within (λ z. z.0) (λ z. z.0) (λ z. z.0) (λ z. z.0) (λ z. z.0) (λ z. z.0) (λ z. z.0) (λ z. z.0)
    (λ z. z.1) (λ z. z.1) (λ z. z.1) y))
    (λ x y k. rw (← k) (and_within (λ z. z.0) (λ z. z.1) y.first y.rest))
    (λ x y k. rw (← k) (cell_within (λ z. z.0) (λ z. z.0) (λ z. z.0) (λ z. z.0) (λ z. z.0) (λ z. z.0) (λ z. z.0) (λ z. z.0)
    (λ z. z.1) (λ z. z.1) (λ z. z.1) y))
    (λ x y k. rw (← k) (compare_within (λ z. z.0) (λ z. z.0) (λ z. z.0) (λ z. z.0) (λ z. z.0) (λ z. z.0) (λ z. z.0) (λ z. z.0)
    (λ z. z.1) (λ z. z.1) (λ z. z.1) y))
    (λ x y k. rw (← k) (or_within (λ z. z.0) (λ z. z.1) y.first y.rest))
    (λ x y k. rw (← k) (product_within (λ z. z.0) (λ z. z.1) y.first y.rest))
    (λ x y k. rw (← k) (sum_within (λ z. z.0) (λ z. z.1) y.first y.rest))
    (λ x y k. rw (← k) (unary_within y.signs y.atom.0 y.atom.1)) e

-- an expression that lies in no other
numbered_tokens : (n : ℕ) (ps : Parts) → tokens_of (numbered n ps) ≡ tokens_of ps
numbered_tokens n [] = refl
numbered_tokens n (p ∷ ps) = ap (λ (t : Tokens). p.token ∷ t) (numbered_tokens (n + 1) ps)

pub outer_within : (e : Expr) → Within (outer e) (names_in (expression e))
outer_within e = record {
  inner = subst (λ (t : Tokens). Inner t (names_in (expression e))) (sym (numbered_tokens 0 (expr_parts e))) (expr_full e).within.inner;
}

numbered_many : (n : ℕ) (ps : Parts) → length (numbered n ps) ≡ length ps
numbered_many n [] = refl
numbered_many n (p ∷ ps) = ap suc (numbered_many (n + 1) ps)

pub outer_some : (e : Expr) → 0 < length (outer e)
outer_some e = let l = numbered_many 0 (expr_parts e) in let s = (expr_full e).some in omega (arith, l, s)
