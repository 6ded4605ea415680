-- The tokens of a tree, each as its bytes.
use Rattle.std.specs.Prelude.{ℕ, Bool, true, false, List, [], ◌∷◌, ◌++◌, Option, Some, None, codes}
use Rattle.std.specs.List.{flat_map}
use Rattle.std.specs.Fmt.{signed_decimal}
use Rattle.jade_base.specs.declared.place.Pos.{Pos}
use Rattle.jade_syntax.specs.declared.tree.Number.{Number}
use Rattle.jade_syntax.specs.declared.tree.ValueKind.{ValueKind}
use Rattle.jade_syntax.specs.declared.tree.ValueKind.TheVariants.{Int, Bool as BoolWord}
use Rattle.jade_syntax.specs.declared.tree.DeclareWord.{DeclareWord}
use Rattle.jade_syntax.specs.declared.tree.DeclareWord.TheVariants.{Rd, Wr, RdWr, DfRd, DfWr, DfRdWr, Cm, NoRd, NoWr, NoRdWr}
use Rattle.jade_syntax.specs.declared.tree.Relation.{Relation}
use Rattle.jade_syntax.specs.declared.tree.Relation.TheVariants.{Equal, Unequal, Less, LessEqual, Greater, GreaterEqual}
use Rattle.jade_syntax.specs.declared.tree.SumOp.{SumOp}
use Rattle.jade_syntax.specs.declared.tree.SumOp.TheVariants.{Plus, Minus}
use Rattle.jade_syntax.specs.declared.tree.ProductOp.{ProductOp}
use Rattle.jade_syntax.specs.declared.tree.ProductOp.TheVariants.{Times, Over, Remainder}
use Rattle.jade_syntax.specs.declared.tree.UnaryOp.{UnaryOp}
use Rattle.jade_syntax.specs.declared.tree.UnaryOp.TheVariants.{Negative, Not}
use Rattle.jade_syntax.specs.declared.tree.Atom.{Atom, fold-Atom}
use Rattle.jade_syntax.specs.declared.tree.Atom.TheOpen.{Atom-F, AndExpr-F, CellRef-F, Compare-F, Expr-F, Product-F, Sum-F, Unary-F}
use Rattle.jade_syntax.specs.declared.tree.AndExpr.{AndExpr, fold-AndExpr}
use Rattle.jade_syntax.specs.declared.tree.CellRef.{CellRef, fold-CellRef}
use Rattle.jade_syntax.specs.declared.tree.Compare.{Compare, fold-Compare}
use Rattle.jade_syntax.specs.declared.tree.Expr.{Expr, fold-Expr}
use Rattle.jade_syntax.specs.declared.tree.Product.{Product, fold-Product}
use Rattle.jade_syntax.specs.declared.tree.Sum.{Sum, fold-Sum}
use Rattle.jade_syntax.specs.declared.tree.Unary.{Unary, fold-Unary}
use Rattle.jade_syntax.specs.declared.tree.ObjectRef.{ObjectRef}
use Rattle.jade_syntax.specs.declared.tree.Statement.{Statement, fold-Statement}
use Rattle.jade_syntax.specs.declared.tree.Statement.TheOpen.{Statement-F}
use Rattle.jade_syntax.specs.declared.tree.Named.{Named}
use Rattle.jade_syntax.specs.declared.tree.Item.{Item}
use Rattle.jade_syntax.specs.declared.tree.Item.TheVariants.{Input, Single, Family}
use Rattle.jade_syntax.specs.declared.tree.Program.{Program}

-- a token as its bytes
abbrev pub Token : Type 0
Token = List ℕ

-- tokens in text order
abbrev pub Tokens : Type 0
Tokens = List Token

-- the word of a kind
abbrev pub kind_word : ValueKind → Token
kind_word Int = codes "int"
kind_word BoolWord = codes "bool"

-- the symbol of a relation
abbrev pub relation_sign : Relation → Token
relation_sign Equal = codes "=="
relation_sign Unequal = codes "!="
relation_sign Less = codes "<"
relation_sign LessEqual = codes "<="
relation_sign Greater = codes ">"
relation_sign GreaterEqual = codes ">="

-- the symbol of an operator of a sum
abbrev pub sum_sign : SumOp → Token
sum_sign Plus = codes "+"
sum_sign Minus = codes "-"

-- the symbol of an operator of a product
abbrev pub product_sign : ProductOp → Token
product_sign Times = codes "*"
product_sign Over = codes "/"
product_sign Remainder = codes "%"

-- the symbol of a unary operator
abbrev pub unary_sign : UnaryOp → Token
unary_sign Negative = codes "-"
unary_sign Not = codes "!"

-- the word of a declaration
abbrev pub declare_word : DeclareWord → Token
declare_word Rd = codes "rd"
declare_word Wr = codes "wr"
declare_word RdWr = codes "rd_wr"
declare_word DfRd = codes "df_rd"
declare_word DfWr = codes "df_wr"
declare_word DfRdWr = codes "df_rd_wr"
declare_word Cm = codes "cm"
declare_word NoRd = codes "no_rd"
declare_word NoWr = codes "no_wr"
declare_word NoRdWr = codes "no_rd_wr"

-- the word of a truth value
abbrev pub truth_word : Bool → Token
truth_word true = codes "true"
truth_word false = codes "false"

-- a number in decimal
abbrev pub number_token : Number → Token
number_token n = signed_decimal n.value

-- an index: its tokens in brackets
abbrev pub bracketed : Tokens → Tokens
bracketed inner = codes "[" ∷ (inner ++ codes "]" ∷ [])

-- the index of the member, where a cell has one
abbrev pub index_before : Option Tokens → Tokens
index_before None = []
index_before (Some e) = bracketed e

-- the relation and the second operand, where a comparison has them
abbrev pub compared : Option (Relation × Pos × Tokens) → Tokens
compared None = []
compared (Some r) = relation_sign r.0 ∷ r.2

-- An expression is spelled a level at a time: the parts of a node are spelled already. An atom.
abbrev pub at_atom : Atom-F Tokens Tokens Tokens Tokens Tokens Tokens Tokens Tokens → Tokens
at_atom (Atom-F.Whole n) = number_token n ∷ []
at_atom (Atom-F.Truth b p) = truth_word b ∷ []
at_atom (Atom-F.Group p e) = codes "(" ∷ (e.value ++ codes ")" ∷ [])
at_atom (Atom-F.Named n p) = n ∷ []
at_atom (Atom-F.Cell c) = c.value

-- operands with `&&` between them
abbrev pub at_and : AndExpr-F Tokens Tokens Tokens Tokens Tokens Tokens Tokens Tokens → Tokens
at_and f = f.first ++ flat_map (λ p. codes "&&" ∷ p.1) f.rest

-- a name with one index or two
abbrev pub at_cell : CellRef-F Tokens Tokens Tokens Tokens Tokens Tokens Tokens Tokens → Tokens
at_cell f = f.name ∷ (index_before f.family ++ bracketed f.cell)

-- one operand, or two with a relation between them
abbrev pub at_compare : Compare-F Tokens Tokens Tokens Tokens Tokens Tokens Tokens Tokens → Tokens
at_compare f = f.left ++ compared f.right

-- operands with `||` between them
abbrev pub at_expr : Expr-F Tokens Tokens Tokens Tokens Tokens Tokens Tokens Tokens → Tokens
at_expr f = f.first ++ flat_map (λ p. codes "||" ∷ p.1) f.rest

-- operands with the symbols of products between them
abbrev pub at_product : Product-F Tokens Tokens Tokens Tokens Tokens Tokens Tokens Tokens → Tokens
at_product f = f.first ++ flat_map (λ p. product_sign p.0 ∷ p.2) f.rest

-- operands with the symbols of sums between them
abbrev pub at_sum : Sum-F Tokens Tokens Tokens Tokens Tokens Tokens Tokens Tokens → Tokens
at_sum f = f.first ++ flat_map (λ p. sum_sign p.0 ∷ p.2) f.rest

-- signs before an atom
abbrev pub at_unary : Unary-F Tokens Tokens Tokens Tokens Tokens Tokens Tokens Tokens → Tokens
at_unary f = flat_map (λ p. unary_sign p.0 ∷ []) f.signs ++ f.atom

-- the tokens of an expression
abbrev pub expr_tokens : Expr → Tokens
expr_tokens = fold-Expr Tokens Tokens Tokens Tokens Tokens Tokens Tokens Tokens at_atom at_and at_cell at_compare at_expr at_product at_sum at_unary

-- the tokens of a cell
abbrev pub cell_tokens : CellRef → Tokens
cell_tokens = fold-CellRef Tokens Tokens Tokens Tokens Tokens Tokens Tokens Tokens at_atom at_and at_cell at_compare at_expr at_product at_sum at_unary

-- the tokens of a chain of `&&`
abbrev pub and_tokens : AndExpr → Tokens
and_tokens = fold-AndExpr Tokens Tokens Tokens Tokens Tokens Tokens Tokens Tokens at_atom at_and at_cell at_compare at_expr at_product at_sum at_unary

-- the tokens of a comparison
abbrev pub compare_tokens : Compare → Tokens
compare_tokens = fold-Compare Tokens Tokens Tokens Tokens Tokens Tokens Tokens Tokens at_atom at_and at_cell at_compare at_expr at_product at_sum at_unary

-- the tokens of a sum
abbrev pub sum_tokens : Sum → Tokens
sum_tokens = fold-Sum Tokens Tokens Tokens Tokens Tokens Tokens Tokens Tokens at_atom at_and at_cell at_compare at_expr at_product at_sum at_unary

-- the tokens of a product
abbrev pub product_tokens : Product → Tokens
product_tokens = fold-Product Tokens Tokens Tokens Tokens Tokens Tokens Tokens Tokens at_atom at_and at_cell at_compare at_expr at_product at_sum at_unary

-- the tokens of an operand with its signs
abbrev pub unary_tokens : Unary → Tokens
unary_tokens = fold-Unary Tokens Tokens Tokens Tokens Tokens Tokens Tokens Tokens at_atom at_and at_cell at_compare at_expr at_product at_sum at_unary

-- the tokens of an atom
abbrev pub atom_tokens : Atom → Tokens
atom_tokens = fold-Atom Tokens Tokens Tokens Tokens Tokens Tokens Tokens Tokens at_atom at_and at_cell at_compare at_expr at_product at_sum at_unary

-- the index of an object, where it is a member
abbrev pub object_index : Option Expr → Tokens
object_index None = []
object_index (Some e) = bracketed (expr_tokens e)

-- the tokens of an object
abbrev pub object_tokens : ObjectRef → Tokens
object_tokens o = o.name ∷ object_index o.member

-- statements that are spelled already, as a block
abbrev pub braced : List Tokens → Tokens
braced parts = codes "{" ∷ [] ++ flat_map (λ t. t) parts ++ codes "}" ∷ []

-- names with a comma before each
abbrev pub more_names : List Named → Tokens
more_names ns = flat_map (λ n. codes "," ∷ n.name ∷ []) ns

-- names with commas between them
abbrev pub name_tokens : List Named → Tokens
name_tokens [] = []
name_tokens (n ∷ ns) = n.name ∷ more_names ns

-- the other branch, where there is one
abbrev pub else_tokens : Option (List Tokens) → Tokens
else_tokens None = []
else_tokens (Some b) = codes "else" ∷ braced b

-- a statement whose blocks are spelled already
abbrev pub at_statement : Statement-F Tokens → Tokens
at_statement (Statement-F.Local kind name pos value) = kind_word kind ∷ name ∷ codes "=" ∷ [] ++ expr_tokens value ++ codes ";" ∷ []
at_statement (Statement-F.Assign name pos value) = name ∷ codes "=" ∷ [] ++ expr_tokens value ++ codes ";" ∷ []
at_statement (Statement-F.Store target value) = cell_tokens target ++ codes "=" ∷ [] ++ expr_tokens value ++ codes ";" ∷ []
at_statement (Statement-F.If test then otherwise) = codes "if" ∷ [] ++ expr_tokens test ++ braced then ++ else_tokens otherwise
at_statement (Statement-F.For name pos low high body) =
    codes "for" ∷ name ∷ codes "in" ∷ [] ++ expr_tokens low ++ codes ".." ∷ [] ++ expr_tokens high ++ braced body
at_statement (Statement-F.Withonly pos section names body) =
    codes "withonly" ∷ [] ++ braced section ++ codes "do" ∷ [] ++ codes "(" ∷ [] ++ name_tokens names ++ codes ")" ∷ [] ++ braced body
at_statement (Statement-F.With pos section) = codes "with" ∷ [] ++ braced section ++ codes "cont" ∷ [] ++ codes ";" ∷ []
at_statement (Statement-F.Declare word pos object) = declare_word word ∷ codes "(" ∷ [] ++ object_tokens object ++ codes ")" ∷ [] ++ codes ";" ∷ []

-- the tokens of a statement
abbrev pub statement_tokens : Statement → Tokens
statement_tokens = fold-Statement Tokens at_statement

-- the tokens of a block
abbrev pub block_tokens : List Statement → Tokens
block_tokens b = codes "{" ∷ [] ++ flat_map statement_tokens b ++ codes "}" ∷ []

-- the tokens of an item
abbrev pub item_tokens : Item → Tokens
item_tokens (Input name pos) = codes "input" ∷ name ∷ codes ";" ∷ []
item_tokens (Single name pos size) = codes "object" ∷ name ∷ codes ":" ∷ number_token size ∷ codes ";" ∷ []
item_tokens (Family name pos count size) =
    codes "objects" ∷ name ∷ codes "[" ∷ number_token count ∷ codes "]" ∷ codes ":" ∷ number_token size ∷ codes ";" ∷ []

-- the tokens of a program
abbrev pub spelling : Program → Tokens
spelling p = flat_map item_tokens p.items ++ codes "main" ∷ [] ++ block_tokens p.main
