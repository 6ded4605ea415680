-- The parts of a tree: its tokens in order, each with the place that the tree keeps of it.
use Rattle.std.specs.Prelude.{◌≡◌, ℕ, zero, suc, ◌+◌, Bool, true, false, List, [], ◌∷◌, ◌++◌, map, Option, Some, None, ℤ, nat_le}
use Rattle.std.specs.List.{flat_map, list_all}
use Rattle.jade_parser.specs.declared.Sign.{Sign}
use Rattle.jade_parser.specs.declared.Sign.TheVariants.{EqualSign, UnequalSign, LessSign, LessEqualSign}
use Rattle.jade_parser.specs.declared.Sign.TheVariants.{GreaterSign, GreaterEqualSign, PlusSign, MinusSign}
use Rattle.jade_parser.specs.declared.Sign.TheVariants.{TimesSign, OverSign, PercentSign, NotSign, TrueWord}
use Rattle.jade_parser.specs.declared.Sign.TheVariants.{FalseWord, LeftBracket, RightBracket, LeftParen}
use Rattle.jade_parser.specs.declared.Sign.TheVariants.{RightParen, AndSign, OrSign}
use Rattle.jade_base.specs.declared.place.Pos.{Pos}
use Rattle.jade_alphabet.specs.declared.TheConstants.{EXPRESSION_LIMIT}
use Rattle.jade_syntax.specs.Names.{is_name}
use Rattle.jade_syntax.specs.Shapes.{is_natural}
use Rattle.jade_syntax.specs.declared.tree.Number.{Number}
use Rattle.jade_syntax.specs.declared.tree.Relation.{Relation}
use Rattle.jade_syntax.specs.declared.tree.Relation.TheVariants.{Equal, Unequal, Less, LessEqual, Greater, GreaterEqual}
use Rattle.jade_syntax.specs.declared.tree.SumOp.{SumOp}
use Rattle.jade_syntax.specs.declared.tree.SumOp.TheVariants.{Plus, Minus}
use Rattle.jade_syntax.specs.declared.tree.ProductOp.{ProductOp}
use Rattle.jade_syntax.specs.declared.tree.ProductOp.TheVariants.{Times, Over, Remainder}
use Rattle.jade_syntax.specs.declared.tree.UnaryOp.{UnaryOp}
use Rattle.jade_syntax.specs.declared.tree.UnaryOp.TheVariants.{Negative, Not}
use Rattle.jade_syntax.specs.declared.tree.Atom.{Atom, fold-Atom}
use Rattle.jade_syntax.specs.declared.tree.Atom.TheOpen.{Atom-F, AndExpr-F, CellRef-F, Compare-F, Expr-F, Product-F, Sum-F, Unary-F}
use Rattle.jade_syntax.specs.declared.tree.AndExpr.{AndExpr, fold-AndExpr}
use Rattle.jade_syntax.specs.declared.tree.CellRef.{CellRef, fold-CellRef}
use Rattle.jade_syntax.specs.declared.tree.Compare.{Compare, fold-Compare}
use Rattle.jade_syntax.specs.declared.tree.Expr.{Expr, fold-Expr}
use Rattle.jade_syntax.specs.declared.tree.Product.{Product, fold-Product}
use Rattle.jade_syntax.specs.declared.tree.Sum.{Sum, fold-Sum}
use Rattle.jade_syntax.specs.declared.tree.Unary.{Unary, fold-Unary}

-- a word or symbol of the language, a name, a number, or what stands in no program
pub data Token : Type 0 where
  Fixed : Sign → Token
  Called : List ℕ → Token
  Counted : ℤ → Token
  Unknown : Token

-- tokens in text order
abbrev pub Tokens : Type 0
Tokens = List Token

-- a token of a tree, the place that the tree keeps of it, and which token of its outermost expression it is, counted from 1 (0 where it lies in none)
pub record Part : Type 0 where
  pub token : Token
  pub at : Option Pos
  pub nth : ℕ

-- the parts of a tree in text order
abbrev pub Parts : Type 0
Parts = List Part

-- their tokens
abbrev pub tokens_of : Parts → Tokens
tokens_of ps = map (λ p. p.token) ps

-- a token whose place the tree does not keep
abbrev pub plain : Token → Part
plain t = record { token = t; at = None; nth = 0 }

-- a sign whose place the tree does not keep
abbrev pub fixed : Sign → Part
fixed s = plain (Fixed s)

-- a token whose place the tree keeps
abbrev pub marked : Token → Pos → Part
marked t p = record { token = t; at = Some p; nth = 0 }

-- the parts of an outermost expression, of which so many were counted
abbrev pub numbered : ℕ → Parts → Parts
numbered n [] = []
numbered n (p ∷ ps) = record { token = p.token; at = p.at; nth = n + 1 } ∷ numbered (n + 1) ps

-- ---- what a token of a program may be

-- a token that may stand in a program
abbrev pub is_valid : Token → Bool
is_valid (Fixed s) = true
is_valid (Called n) = is_name n
is_valid (Counted v) = is_natural v
is_valid Unknown = false

-- each name is a name, and each number is one that may be written
pub record AllValid (ps : Parts) : Type 0 where
  pub is : list_all (λ (p : Part). is_valid p.token) ps ≡ true

-- no outermost expression has more than 256 tokens
pub record AllShort (ps : Parts) : Type 0 where
  pub is : list_all (λ (p : Part). nat_le p.nth EXPRESSION_LIMIT) ps ≡ true

-- ---- words and symbols

-- the symbol of a relation
abbrev pub relation_sign : Relation → Token
relation_sign Equal = Fixed EqualSign
relation_sign Unequal = Fixed UnequalSign
relation_sign Less = Fixed LessSign
relation_sign LessEqual = Fixed LessEqualSign
relation_sign Greater = Fixed GreaterSign
relation_sign GreaterEqual = Fixed GreaterEqualSign

-- the symbol of an operator of a sum
abbrev pub sum_sign : SumOp → Token
sum_sign Plus = Fixed PlusSign
sum_sign Minus = Fixed MinusSign

-- the symbol of an operator of a product
abbrev pub product_sign : ProductOp → Token
product_sign Times = Fixed TimesSign
product_sign Over = Fixed OverSign
product_sign Remainder = Fixed PercentSign

-- the symbol of a unary operator
abbrev pub unary_sign : UnaryOp → Token
unary_sign Negative = Fixed MinusSign
unary_sign Not = Fixed NotSign

-- the word of a truth value
abbrev pub truth_word : Bool → Token
truth_word true = Fixed TrueWord
truth_word false = Fixed FalseWord

-- a number
abbrev pub number_part : Number → Part
number_part n = marked (Counted n.value) n.pos

-- ---- expressions, a level at a time: where its parts are already spelled

-- an index in its brackets
abbrev pub bracketed : Parts → Parts
bracketed inner = fixed LeftBracket ∷ (inner ++ fixed RightBracket ∷ [])

-- the index of the member, where a cell has one
abbrev pub index_before : Option Parts → Parts
index_before None = []
index_before (Some e) = bracketed e

-- the relation and the second operand, where a comparison has them
abbrev pub compared : Option (Relation × Pos × Parts) → Parts
compared None = []
compared (Some r) = marked (relation_sign r.0) r.1 ∷ r.2

-- an atom
abbrev pub at_atom : Atom-F Parts Parts Parts Parts Parts Parts Parts Parts → Parts
at_atom (Atom-F.Whole n) = number_part n ∷ []
at_atom (Atom-F.Truth b p) = marked (truth_word b) p ∷ []
at_atom (Atom-F.Group p e) = marked (Fixed LeftParen) p ∷ (e.value ++ fixed RightParen ∷ [])
at_atom (Atom-F.Named n p) = marked (Called n) p ∷ []
at_atom (Atom-F.Cell c) = c.value

-- operands with `&&` between them
abbrev pub at_and : AndExpr-F Parts Parts Parts Parts Parts Parts Parts Parts → Parts
at_and f = f.first ++ flat_map (λ p. marked (Fixed AndSign) p.0 ∷ p.1) f.rest

-- a name with one index or two
abbrev pub at_cell : CellRef-F Parts Parts Parts Parts Parts Parts Parts Parts → Parts
at_cell f = marked (Called f.name) f.pos ∷ (index_before f.family ++ bracketed f.cell)

-- one operand, or two with a relation between them
abbrev pub at_compare : Compare-F Parts Parts Parts Parts Parts Parts Parts Parts → Parts
at_compare f = f.left ++ compared f.right

-- operands with `||` between them
abbrev pub at_expr : Expr-F Parts Parts Parts Parts Parts Parts Parts Parts → Parts
at_expr f = f.first ++ flat_map (λ p. marked (Fixed OrSign) p.0 ∷ p.1) f.rest

-- operands with the symbols of products between them
abbrev pub at_product : Product-F Parts Parts Parts Parts Parts Parts Parts Parts → Parts
at_product f = f.first ++ flat_map (λ p. marked (product_sign p.0) p.1 ∷ p.2) f.rest

-- operands with the symbols of sums between them
abbrev pub at_sum : Sum-F Parts Parts Parts Parts Parts Parts Parts Parts → Parts
at_sum f = f.first ++ flat_map (λ p. marked (sum_sign p.0) p.1 ∷ p.2) f.rest

-- signs before an atom
abbrev pub at_unary : Unary-F Parts Parts Parts Parts Parts Parts Parts Parts → Parts
at_unary f = flat_map (λ p. marked (unary_sign p.0) p.1 ∷ []) f.signs ++ f.atom

-- the parts of an expression
abbrev pub expr_parts : Expr → Parts
expr_parts = fold-Expr Parts Parts Parts Parts Parts Parts Parts Parts at_atom at_and at_cell at_compare at_expr at_product at_sum at_unary

-- the parts of a cell within an expression
abbrev pub cell_parts : CellRef → Parts
cell_parts = fold-CellRef Parts Parts Parts Parts Parts Parts Parts Parts at_atom at_and at_cell at_compare at_expr at_product at_sum at_unary

-- the parts of a chain of `&&`
abbrev pub and_parts : AndExpr → Parts
and_parts = fold-AndExpr Parts Parts Parts Parts Parts Parts Parts Parts at_atom at_and at_cell at_compare at_expr at_product at_sum at_unary

-- the parts of a comparison
abbrev pub compare_parts : Compare → Parts
compare_parts = fold-Compare Parts Parts Parts Parts Parts Parts Parts Parts at_atom at_and at_cell at_compare at_expr at_product at_sum at_unary

-- the parts of a sum
abbrev pub sum_parts : Sum → Parts
sum_parts = fold-Sum Parts Parts Parts Parts Parts Parts Parts Parts at_atom at_and at_cell at_compare at_expr at_product at_sum at_unary

-- the parts of a product
abbrev pub product_parts : Product → Parts
product_parts = fold-Product Parts Parts Parts Parts Parts Parts Parts Parts at_atom at_and at_cell at_compare at_expr at_product at_sum at_unary

-- the parts of an operand with its signs
abbrev pub unary_parts : Unary → Parts
unary_parts = fold-Unary Parts Parts Parts Parts Parts Parts Parts Parts at_atom at_and at_cell at_compare at_expr at_product at_sum at_unary

-- the parts of an atom
abbrev pub atom_parts : Atom → Parts
atom_parts = fold-Atom Parts Parts Parts Parts Parts Parts Parts Parts at_atom at_and at_cell at_compare at_expr at_product at_sum at_unary

-- ---- the parts of a chain

-- a link of a chain of `||`
abbrev pub or_part : Pos × AndExpr → Parts
or_part p = marked (Fixed OrSign) p.0 ∷ and_parts p.1

-- a link of a chain of `&&`
abbrev pub and_part : Pos × Compare → Parts
and_part p = marked (Fixed AndSign) p.0 ∷ compare_parts p.1

-- a link of a sum
abbrev pub sum_part : SumOp × Pos × Product → Parts
sum_part p = marked (sum_sign p.0) p.1 ∷ product_parts p.2

-- a link of a product
abbrev pub product_part : ProductOp × Pos × Unary → Parts
product_part p = marked (product_sign p.0) p.1 ∷ unary_parts p.2

-- a sign before an operand
abbrev pub sign_part : UnaryOp × Pos → Parts
sign_part p = marked (unary_sign p.0) p.1 ∷ []

-- an expression that lies in no other
abbrev pub outer : Expr → Parts
outer e = numbered 0 (expr_parts e)

-- the place of a token by its number
abbrev pub pos_in : List Pos → ℕ → Pos
pos_in [] at = record { line = 0; column = 0 }
pos_in (p ∷ ps) zero = p
pos_in (p ∷ ps) (suc at) = pos_in ps at

-- the place that is kept, if one is
abbrev pub KeptAt : Option Pos → Pos → Type 0
KeptAt None q = Unit {0}
KeptAt (Some p) q = p ≡ q

-- the places that are kept of these parts are those of the tokens from this one on
abbrev pub Agrees : List Pos → ℕ → Parts → Type 0
Agrees qs at [] = Unit {0}
Agrees qs at (p ∷ ps) = KeptAt p.at (pos_in qs at) × Agrees qs (at + 1) ps
