-- The abstract syntax of a tree, with places only where a fault needs one.
use Rattle.std.specs.Prelude.{List, map, Option}
use Rattle.jade_base.specs.declared.place.Pos.{Pos}
use Rattle.jade_syntax.specs.declared.tree.Relation.{Relation}
use Rattle.jade_syntax.specs.declared.tree.UnaryOp.{UnaryOp}
use Rattle.jade_syntax.specs.declared.tree.Atom.{Atom}
use Rattle.jade_syntax.specs.declared.tree.AndExpr.{AndExpr}
use Rattle.jade_syntax.specs.declared.tree.CellRef.{CellRef}
use Rattle.jade_syntax.specs.declared.tree.Compare.{Compare}
use Rattle.jade_syntax.specs.declared.tree.Expr.{Expr}
use Rattle.jade_syntax.specs.declared.tree.Product.{Product}
use Rattle.jade_syntax.specs.declared.tree.Sum.{Sum}
use Rattle.jade_syntax.specs.declared.tree.Unary.{Unary}
use Rattle.jade_syntax.specs.declared.tree.ObjectRef.{ObjectRef}
use Rattle.jade_syntax.specs.declared.tree.Statement.{Statement}
use Rattle.jade_syntax.specs.declared.tree.Program.{Program}
use Rattle.jade_syntax.specs.Abstract as abstract
use Rattle.jade_syntax.specs.Abstract.{Name, Expression, Links, Place, Action, Actions, AbstractProgram}
use Rattle.jade_syntax.specs.Forms as general
use Rattle.jade_syntax.specs.Forms.{Forms, StatementForms}

-- of each form of an expression all is kept but the places of numbers, truth values, variables and groups
abbrev pub forms : Forms Expression Links Place
forms =
    record {
      whole = λ z at. abstract.Whole z;
      truth = λ b at. abstract.Truth b;
      variable = λ x at. abstract.Variable x;
      group = λ at e. abstract.Group e;
      sign = abstract.Signed;
      chain = abstract.Chain;
      cell = abstract.Cell;
      last = abstract.Last;
      link = abstract.Link;
      alone = abstract.Alone;
      member = abstract.Member;
    }

-- of each form of a statement all is kept but the places of names
abbrev pub statement_forms : StatementForms Expression Place Action Actions
statement_forms =
    record {
      local = λ kind x at e. abstract.Local kind x e;
      assign = λ x at e. abstract.Assign x e;
      store = abstract.Store;
      if_alone = abstract.If;
      if_else = abstract.IfElse;
      for = λ x at low high body. abstract.For x low high body;
      withonly = λ at section names body. abstract.Withonly at section (map (λ n. n.name) names) body;
      with = abstract.With;
      declare = abstract.Declare;
      done = abstract.Done;
      next = abstract.Then;
    }

-- an operator, its place, and the operand after it
abbrev pub Linked : Type 0
Linked = general.Linked Expression

-- a cell: its object and its index
abbrev pub Reference : Type 0
Reference = general.Reference Expression Place

-- links one after another
abbrev pub links : List Linked → Links
links = general.links forms

-- a chain; without links it is its first operand
abbrev pub chained : Expression → List Linked → Expression
chained = general.chained forms

-- an object: alone, or a member
abbrev pub placed : Name → Pos → Option Expression → Place
placed = general.object_of forms

-- signs before an operand, the outermost first
abbrev pub signed : List (UnaryOp × Pos) → Expression → Expression
signed = general.signed forms

-- one operand, or a relation between two
abbrev pub compared : Expression → Option (Relation × Pos × Expression) → Expression
compared = general.compared forms

-- an expression
abbrev pub expression : Expr → Expression
expression = general.of_expr forms

-- a cell within an expression
abbrev pub reference : CellRef → Reference
reference = general.of_cell forms

-- a chain of `&&`
abbrev pub and_expression : AndExpr → Expression
and_expression = general.of_and forms

-- a comparison
abbrev pub compare_expression : Compare → Expression
compare_expression = general.of_compare forms

-- a sum
abbrev pub sum_expression : Sum → Expression
sum_expression = general.of_sum forms

-- a product
abbrev pub product_expression : Product → Expression
product_expression = general.of_product forms

-- an operand with its signs
abbrev pub unary_expression : Unary → Expression
unary_expression = general.of_unary forms

-- an atom
abbrev pub atom_expression : Atom → Expression
atom_expression = general.of_atom forms

-- the index of an object, where it is a member
abbrev pub member : Option Expr → Option Expression
member = general.of_index forms

-- an object that is declared
abbrev pub object : ObjectRef → Place
object = general.of_object forms

-- statements one after another
abbrev pub actions : List Action → Actions
actions = general.in_order statement_forms

-- an `if`, with another branch or without
abbrev pub branched : Expression → List Action → Option (List Action) → Action
branched = general.branched statement_forms

-- a statement
abbrev pub action : Statement → Action
action = general.of_statement forms statement_forms

-- the statements of a block
abbrev pub block : List Statement → Actions
block = general.of_block forms statement_forms

-- the abstract syntax of a whole program
abbrev pub program : Program → AbstractProgram
program p = record { items = p.items; main = block p.main }
