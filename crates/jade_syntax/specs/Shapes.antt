-- Which trees are the trees of programs: each statement stands where the grammar has it, each name is a name, no number is negative or past 64 bits,
-- and no limit is passed.
use Rattle.std.specs.Prelude.{ℕ, ◌+◌, ◌-◌, Bool, true, false, ◌&&◌, max, nat_le, List, [], ◌∷◌, map, length, Option, Some, None, ℤ, pos, negsuc}
use Rattle.std.specs.List.{list_all}
use Rattle.jade_base.specs.declared.place.Pos.{Pos}
use Rattle.jade_syntax.specs.declared.shapes.place.BlockKind.{BlockKind}
use Rattle.jade_syntax.specs.declared.shapes.place.BlockKind.TheVariants.{Main, Section, Amends}
use Rattle.jade_syntax.specs.declared.shapes.extent.Extent.{Extent}
use Rattle.jade_syntax.specs.declared.tree.Number.{Number}
use Rattle.jade_syntax.specs.declared.tree.DeclareWord.{DeclareWord}
use Rattle.jade_syntax.specs.declared.tree.DeclareWord.TheVariants.{Rd, Wr, RdWr, DfRd, DfWr, DfRdWr, Cm, NoRd, NoWr, NoRdWr}
use Rattle.jade_syntax.specs.declared.tree.Relation.{Relation}
use Rattle.jade_syntax.specs.declared.tree.Atom.{Atom, fold-Atom}
use Rattle.jade_syntax.specs.declared.tree.Atom.TheOpen.{Atom-F, AndExpr-F, CellRef-F, Compare-F, Expr-F, Product-F, Sum-F, Unary-F}
use Rattle.jade_syntax.specs.declared.tree.AndExpr.{AndExpr, fold-AndExpr}
use Rattle.jade_syntax.specs.declared.tree.CellRef.{CellRef, out-CellRef, fold-CellRef}
use Rattle.jade_syntax.specs.declared.tree.Compare.{Compare, fold-Compare}
use Rattle.jade_syntax.specs.declared.tree.Expr.{Expr, fold-Expr}
use Rattle.jade_syntax.specs.declared.tree.Product.{Product, fold-Product}
use Rattle.jade_syntax.specs.declared.tree.Sum.{Sum, fold-Sum}
use Rattle.jade_syntax.specs.declared.tree.Unary.{Unary, fold-Unary}
use Rattle.jade_syntax.specs.declared.tree.Named.{Named}
use Rattle.jade_syntax.specs.declared.tree.ObjectRef.{ObjectRef}
use Rattle.jade_syntax.specs.declared.tree.Statement.{Statement, fold-Statement}
use Rattle.jade_syntax.specs.declared.tree.Statement.TheOpen.{Statement-F}
use Rattle.jade_syntax.specs.declared.tree.Item.{Item}
use Rattle.jade_syntax.specs.declared.tree.Item.TheVariants.{Input, Single, Family}
use Rattle.jade_syntax.specs.declared.tree.Program.{Program}
use Rattle.jade_syntax.specs.Abstract.{Name}
use Rattle.jade_alphabet.specs.declared.TheConstants.{GREATEST_NUMBER, EXPRESSION_LIMIT, DEPTH_LIMIT}
use Rattle.jade_syntax.specs.Names.{is_name}

infixl 60 ◌⊕◌
-- the words that a child's section declares with
abbrev pub declares_child : DeclareWord → Bool
declares_child Rd = true
declares_child Wr = true
declares_child RdWr = true
declares_child DfRd = true
declares_child DfWr = true
declares_child DfRdWr = true
declares_child Cm = true
declares_child NoRd = false
declares_child NoWr = false
declares_child NoRdWr = false

-- the words that a task amends its own specification with
abbrev pub declares_change : DeclareWord → Bool
declares_change Rd = true
declares_change Wr = true
declares_change RdWr = true
declares_change DfRd = false
declares_change DfWr = false
declares_change DfRdWr = false
declares_change Cm = false
declares_change NoRd = true
declares_change NoWr = true
declares_change NoRdWr = true

-- a declaration with this word stands here; none stands in a body
abbrev pub declares : BlockKind → DeclareWord → Bool
declares Main how = false
declares Section how = declares_child how
declares Amends how = declares_change how

-- a body of a task
abbrev pub is_main : BlockKind → Bool
is_main Main = true
is_main Section = false
is_main Amends = false

-- all of a block stand here
abbrev pub all_placed : BlockKind → List (BlockKind → Bool) → Bool
all_placed place block = list_all (λ s. s place) block

-- all of the other branch stand here, where there is one
abbrev pub other_placed : BlockKind → Option (List (BlockKind → Bool)) → Bool
other_placed place None = true
other_placed place (Some block) = all_placed place block

-- where a statement stands, by where those within it do
abbrev pub at_place : Statement-F (BlockKind → Bool) → BlockKind → Bool
at_place (Statement-F.Local kind name at value) place = true
at_place (Statement-F.Assign name at value) place = true
at_place (Statement-F.Store target value) place = is_main place
at_place (Statement-F.If test then otherwise) place = all_placed place then && other_placed place otherwise
at_place (Statement-F.For name at low high body) place = all_placed place body
at_place (Statement-F.Withonly at section names body) place = is_main place && (all_placed Section section && all_placed Main body)
at_place (Statement-F.With at section) place = is_main place && all_placed Amends section
at_place (Statement-F.Declare how at object) place = declares place how

-- a statement and all within it stand where the grammar has them
abbrev pub is_placed : BlockKind → Statement → Bool
is_placed place s = fold-Statement (BlockKind → Bool) at_place s place

-- no tokens
abbrev pub nothing : Extent
nothing = record { sound = true; tokens = 0; depth = 0 }

-- so many tokens, with no bracket, name or number among them
abbrev pub signs : ℕ → Extent
signs n = record { sound = true; tokens = n; depth = 0 }

-- a name
abbrev pub name_extent : Name → Extent
name_extent x = record { sound = is_name x; tokens = 1; depth = 0 }

-- not negative, and at most 2 ^ 63 - 1
abbrev pub is_natural : ℤ → Bool
is_natural (pos n) = nat_le n GREATEST_NUMBER
is_natural (negsuc n) = false

-- a number
abbrev pub number_extent : Number → Extent
number_extent n = record { sound = is_natural n.value; tokens = 1; depth = 0 }

-- one part and then another
abbrev pub ◌⊕◌ : Extent → Extent → Extent
a ⊕ b = record { sound = a.sound && b.sound; tokens = a.tokens + b.tokens; depth = max a.depth b.depth }

-- parts one after another
abbrev pub all_of : List Extent → Extent
all_of [] = nothing
all_of (e ∷ es) = e ⊕ all_of es

-- something in brackets
abbrev pub in_brackets : Extent → Extent
in_brackets e = record { sound = e.sound; tokens = e.tokens + 2; depth = e.depth + 1 }

-- an index, where there is one
abbrev pub index_extent : Option Extent → Extent
index_extent None = nothing
index_extent (Some e) = in_brackets e

-- a relation and the second operand, where a comparison has them
abbrev pub compared : Option (Relation × Pos × Extent) → Extent
compared None = nothing
compared (Some r) = signs 1 ⊕ r.2

-- An expression is measured a level at a time: the parts of a node are measured already. An atom.
abbrev pub at_atom : Atom-F Extent Extent Extent Extent Extent Extent Extent Extent → Extent
at_atom (Atom-F.Whole n) = number_extent n
at_atom (Atom-F.Truth b at) = signs 1
at_atom (Atom-F.Group at e) = in_brackets e.value
at_atom (Atom-F.Named n at) = name_extent n
at_atom (Atom-F.Cell c) = c.value

-- operands with `&&` between them
abbrev pub at_and : AndExpr-F Extent Extent Extent Extent Extent Extent Extent Extent → Extent
at_and f = f.first ⊕ all_of (map (λ p. signs 1 ⊕ p.1) f.rest)

-- a name with one index or two
abbrev pub at_cell : CellRef-F Extent Extent Extent Extent Extent Extent Extent Extent → Extent
at_cell f = name_extent f.name ⊕ index_extent f.family ⊕ in_brackets f.cell

-- one operand, or two with a relation between them
abbrev pub at_compare : Compare-F Extent Extent Extent Extent Extent Extent Extent Extent → Extent
at_compare f = f.left ⊕ compared f.right

-- operands with `||` between them
abbrev pub at_expr : Expr-F Extent Extent Extent Extent Extent Extent Extent Extent → Extent
at_expr f = f.first ⊕ all_of (map (λ p. signs 1 ⊕ p.1) f.rest)

-- operands with the symbols of products between them
abbrev pub at_product : Product-F Extent Extent Extent Extent Extent Extent Extent Extent → Extent
at_product f = f.first ⊕ all_of (map (λ p. signs 1 ⊕ p.2) f.rest)

-- operands with the symbols of sums between them
abbrev pub at_sum : Sum-F Extent Extent Extent Extent Extent Extent Extent Extent → Extent
at_sum f = f.first ⊕ all_of (map (λ p. signs 1 ⊕ p.2) f.rest)

-- signs before an atom
abbrev pub at_unary : Unary-F Extent Extent Extent Extent Extent Extent Extent Extent → Extent
at_unary f = signs (length f.signs) ⊕ f.atom

-- the extent of an expression
abbrev pub expr_extent : Expr → Extent
expr_extent = fold-Expr Extent Extent Extent Extent Extent Extent Extent Extent at_atom at_and at_cell at_compare at_expr at_product at_sum at_unary

-- the extent of a cell within an expression
abbrev pub cell_extent : CellRef → Extent
cell_extent = fold-CellRef Extent Extent Extent Extent Extent Extent Extent Extent at_atom at_and at_cell at_compare at_expr at_product at_sum at_unary

-- the extent of a chain of `&&`
abbrev pub and_extent : AndExpr → Extent
and_extent = fold-AndExpr Extent Extent Extent Extent Extent Extent Extent Extent at_atom at_and at_cell at_compare at_expr at_product at_sum at_unary

-- the extent of a comparison
abbrev pub compare_extent : Compare → Extent
compare_extent = fold-Compare Extent Extent Extent Extent Extent Extent Extent Extent at_atom at_and at_cell at_compare at_expr at_product at_sum at_unary

-- the extent of a sum
abbrev pub sum_extent : Sum → Extent
sum_extent = fold-Sum Extent Extent Extent Extent Extent Extent Extent Extent at_atom at_and at_cell at_compare at_expr at_product at_sum at_unary

-- the extent of a product
abbrev pub product_extent : Product → Extent
product_extent = fold-Product Extent Extent Extent Extent Extent Extent Extent Extent at_atom at_and at_cell at_compare at_expr at_product at_sum at_unary

-- the extent of an operand with its signs
abbrev pub unary_extent : Unary → Extent
unary_extent = fold-Unary Extent Extent Extent Extent Extent Extent Extent Extent at_atom at_and at_cell at_compare at_expr at_product at_sum at_unary

-- the extent of an atom
abbrev pub atom_extent : Atom → Extent
atom_extent = fold-Atom Extent Extent Extent Extent Extent Extent Extent Extent at_atom at_and at_cell at_compare at_expr at_product at_sum at_unary

-- the index of an inner cell, where there is one
abbrev pub inner_index : Option Expr → Extent
inner_index None = nothing
inner_index (Some e) = in_brackets (expr_extent e)

-- the names and numbers of an expression are as they must be
abbrev pub is_proper_expr : Expr → Bool
is_proper_expr e = (expr_extent e).sound

-- how many tokens an expression has
abbrev pub expr_length : Expr → ℕ
expr_length e = (expr_extent e).tokens

-- how deep brackets nest in an expression
abbrev pub expr_depth : Expr → ℕ
expr_depth e = (expr_extent e).depth

-- an expression that lies in no other has at most 256 tokens
abbrev pub limited : Extent → Extent
limited e = record { sound = e.sound && nat_le e.tokens EXPRESSION_LIMIT; tokens = e.tokens; depth = e.depth }

-- an expression that lies in no other
abbrev pub outermost : Expr → Extent
outermost e = limited (expr_extent e)

-- the index of a target or of a declaration, where there is one
abbrev pub outer_index : Option Expr → Extent
outer_index None = nothing
outer_index (Some e) = in_brackets (outermost e)

-- the cell that a statement stores to: no other expression has its indexes in it
abbrev pub target_extent : CellRef → Extent
target_extent c = name_extent (out-CellRef c).name ⊕ outer_index (out-CellRef c).family ⊕ in_brackets (outermost (out-CellRef c).cell)

-- the object that is declared
abbrev pub object_extent : ObjectRef → Extent
object_extent o = name_extent o.name ⊕ outer_index o.member

-- names, and commas between them
abbrev pub names_extent : List Named → Extent
names_extent ns = all_of (map (λ n. name_extent n.name) ns) ⊕ signs (length ns - 1)

-- a block, by its statements
abbrev pub braced : List Extent → Extent
braced block = in_brackets (all_of block)

-- the other branch, where there is one
abbrev pub other_extent : Option (List Extent) → Extent
other_extent None = nothing
other_extent (Some block) = signs 1 ⊕ braced block

-- a statement, by those within it
abbrev pub at_statement : Statement-F Extent → Extent
at_statement (Statement-F.Local kind name at value) = signs 3 ⊕ name_extent name ⊕ outermost value
at_statement (Statement-F.Assign name at value) = signs 2 ⊕ name_extent name ⊕ outermost value
at_statement (Statement-F.Store target value) = signs 2 ⊕ target_extent target ⊕ outermost value
at_statement (Statement-F.If test then otherwise) = signs 1 ⊕ outermost test ⊕ braced then ⊕ other_extent otherwise
at_statement (Statement-F.For name at low high body) = signs 3 ⊕ name_extent name ⊕ outermost low ⊕ outermost high ⊕ braced body
at_statement (Statement-F.Withonly at section names body) = signs 2 ⊕ braced section ⊕ in_brackets (names_extent names) ⊕ braced body
at_statement (Statement-F.With at section) = signs 3 ⊕ braced section
at_statement (Statement-F.Declare how at object) = signs 2 ⊕ in_brackets (object_extent object)

-- the extent of a statement
abbrev pub statement_extent : Statement → Extent
statement_extent = fold-Statement Extent at_statement

-- the extent of a block
abbrev pub block_extent : List Statement → Extent
block_extent block = braced (map statement_extent block)

-- the extent of an item
abbrev pub item_extent : Item → Extent
item_extent (Input name at) = signs 2 ⊕ name_extent name
item_extent (Single name at size) = signs 3 ⊕ name_extent name ⊕ number_extent size
item_extent (Family name at count size) = signs 3 ⊕ name_extent name ⊕ in_brackets (number_extent count) ⊕ number_extent size

-- the extent of a program: its items, `main` and a block
abbrev pub program_extent : List Item → List Statement → Extent
program_extent items main = all_of (map item_extent items) ⊕ signs 1 ⊕ block_extent main

-- names, numbers and outermost expressions are as they must be, there are at most 1,048,576 tokens, and brackets nest at most 64 deep
abbrev pub is_within : Extent → Bool
is_within e = e.sound && nat_le e.tokens 1048576 && nat_le e.depth DEPTH_LIMIT

-- the tree of a program
abbrev pub is_shaped : Program → Bool
is_shaped p = list_all (is_placed Main) p.main && is_within (program_extent p.items p.main)
