-- The abstract syntax of a tree, with all places.
use Rattle.std.specs.Prelude.{List, map, Option}
use Rattle.jade_base.specs.declared.place.Pos.{Pos}
use Rattle.jade_syntax.specs.declared.tree.Relation.{Relation}
use Rattle.jade_syntax.specs.declared.tree.UnaryOp.{UnaryOp}
use Rattle.jade_syntax.specs.declared.tree.Atom.{Atom}
use Rattle.jade_syntax.specs.declared.tree.AndExpr.{AndExpr}
use Rattle.jade_syntax.specs.declared.tree.CellRef.{CellRef}
use Rattle.jade_syntax.specs.declared.tree.Compare.{Compare}
use Rattle.jade_syntax.specs.declared.tree.Expr.{Expr}
use Rattle.jade_syntax.specs.declared.tree.Product.{Product}
use Rattle.jade_syntax.specs.declared.tree.Sum.{Sum}
use Rattle.jade_syntax.specs.declared.tree.Unary.{Unary}
use Rattle.jade_syntax.specs.declared.tree.Named.{Named}
use Rattle.jade_syntax.specs.declared.tree.ObjectRef.{ObjectRef}
use Rattle.jade_syntax.specs.declared.tree.Statement.{Statement}
use Rattle.jade_syntax.specs.declared.tree.Program.{Program}
use Rattle.jade_syntax.specs.Abstract.{Name}
use Rattle.jade_syntax.specs.Placed as tree
use Rattle.jade_syntax.specs.Placed.{Term, Links, Object, Mention, Phrase, Phrases, PlacedProgram}
use Rattle.jade_syntax.specs.Forms as general
use Rattle.jade_syntax.specs.Forms.{Forms, StatementForms}

-- of each form of an expression all is kept
abbrev pub forms : Forms Term Links Object
forms =
    record {
      whole = tree.Whole;
      truth = tree.Truth;
      variable = tree.Variable;
      group = tree.Group;
      sign = tree.Signed;
      chain = tree.Chain;
      cell = tree.Cell;
      last = tree.Last;
      link = tree.Link;
      alone = tree.Alone;
      member = tree.Member;
    }

-- a name of a `do` list
abbrev pub mentioned : Named → Mention
mentioned n = record { name = n.name; at = n.pos }

-- of each form of a statement all is kept
abbrev pub statement_forms : StatementForms Term Object Phrase Phrases
statement_forms =
    record {
      local = tree.Local;
      assign = tree.Assign;
      store = tree.Store;
      if_alone = tree.If;
      if_else = tree.IfElse;
      for = tree.For;
      withonly = λ at section names body. tree.Withonly at section (map mentioned names) body;
      with = tree.With;
      declare = tree.Declare;
      done = tree.Done;
      next = tree.Then;
    }

-- an operator, its place, and the operand after it
abbrev pub Linked : Type 0
Linked = general.Linked Term

-- a cell: its object and its index
abbrev pub Reference : Type 0
Reference = general.Reference Term Object

-- links one after another
abbrev pub links : List Linked → Links
links = general.links forms

-- a chain; without links it is its first operand
abbrev pub chained : Term → List Linked → Term
chained = general.chained forms

-- an object: alone, or a member
abbrev pub named_object : Name → Pos → Option Term → Object
named_object = general.object_of forms

-- signs before an operand, the outermost first
abbrev pub signed : List (UnaryOp × Pos) → Term → Term
signed = general.signed forms

-- one operand, or a relation between two
abbrev pub compared : Term → Option (Relation × Pos × Term) → Term
compared = general.compared forms

-- an expression
abbrev pub term : Expr → Term
term = general.of_expr forms

-- a cell within an expression
abbrev pub reference : CellRef → Reference
reference = general.of_cell forms

-- a chain of `&&`
abbrev pub and_term : AndExpr → Term
and_term = general.of_and forms

-- a comparison
abbrev pub compare_term : Compare → Term
compare_term = general.of_compare forms

-- a sum
abbrev pub sum_term : Sum → Term
sum_term = general.of_sum forms

-- a product
abbrev pub product_term : Product → Term
product_term = general.of_product forms

-- an operand with its signs
abbrev pub unary_term : Unary → Term
unary_term = general.of_unary forms

-- an atom
abbrev pub atom_term : Atom → Term
atom_term = general.of_atom forms

-- the index of an object, where it is a member
abbrev pub member : Option Expr → Option Term
member = general.of_index forms

-- an object that is declared
abbrev pub object : ObjectRef → Object
object = general.of_object forms

-- statements one after another
abbrev pub phrases : List Phrase → Phrases
phrases = general.in_order statement_forms

-- an `if`, with another branch or without
abbrev pub branched : Term → List Phrase → Option (List Phrase) → Phrase
branched = general.branched statement_forms

-- a statement
abbrev pub phrase : Statement → Phrase
phrase = general.of_statement forms statement_forms

-- the statements of a block
abbrev pub block : List Statement → Phrases
block = general.of_block forms statement_forms

-- the abstract syntax of a whole program, with all places
abbrev pub placed_program : Program → PlacedProgram
placed_program p = record { items = p.items; main = block p.main }
