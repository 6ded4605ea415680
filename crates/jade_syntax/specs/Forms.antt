-- The abstract syntax of a tree, whatever is kept of each form: a chain without links is its first operand.
use Rattle.std.specs.Prelude.{ℕ, List, [], ◌∷◌, map, Option, Some, None, Bool, ℤ}
use Rattle.jade_base.specs.declared.place.Pos.{Pos}
use Rattle.jade_syntax.specs.declared.tree.Relation.{Relation}
use Rattle.jade_syntax.specs.declared.tree.SumOp.{SumOp}
use Rattle.jade_syntax.specs.declared.tree.ProductOp.{ProductOp}
use Rattle.jade_syntax.specs.declared.tree.UnaryOp.{UnaryOp}
use Rattle.jade_syntax.specs.declared.tree.ValueKind.{ValueKind}
use Rattle.jade_syntax.specs.declared.tree.DeclareWord.{DeclareWord}
use Rattle.jade_syntax.specs.declared.tree.Named.{Named}
use Rattle.jade_syntax.specs.declared.tree.Atom.{Atom, fold-Atom}
use Rattle.jade_syntax.specs.declared.tree.Atom.TheOpen.{Atom-F, AndExpr-F, CellRef-F, Compare-F, Expr-F, Product-F, Sum-F, Unary-F}
use Rattle.jade_syntax.specs.declared.tree.AndExpr.{AndExpr, fold-AndExpr}
use Rattle.jade_syntax.specs.declared.tree.CellRef.{CellRef, fold-CellRef}
use Rattle.jade_syntax.specs.declared.tree.Compare.{Compare, fold-Compare}
use Rattle.jade_syntax.specs.declared.tree.Expr.{Expr, fold-Expr}
use Rattle.jade_syntax.specs.declared.tree.Product.{Product, fold-Product}
use Rattle.jade_syntax.specs.declared.tree.Sum.{Sum, fold-Sum}
use Rattle.jade_syntax.specs.declared.tree.Unary.{Unary, fold-Unary}
use Rattle.jade_syntax.specs.declared.tree.ObjectRef.{ObjectRef}
use Rattle.jade_syntax.specs.declared.tree.Statement.{Statement, fold-Statement}
use Rattle.jade_syntax.specs.declared.tree.Statement.TheOpen.{Statement-F}
use Rattle.jade_syntax.specs.Abstract.{Operator, Or, And, Relates, Adds, Multiplies}

-- what is kept of each form of an expression, by what is kept of its parts: expressions E, the links L of a chain, and objects O
pub record Forms (E L O : Type 0) : Type 0 where
  pub whole : ℤ → Pos → E
  pub truth : Bool → Pos → E
  pub variable : List ℕ → Pos → E
  pub group : Pos → E → E
  pub sign : UnaryOp → Pos → E → E
  pub chain : E → L → E
  pub cell : O → E → E
  pub last : L
  pub link : Operator → Pos → E → L → L
  pub alone : List ℕ → Pos → O
  pub member : List ℕ → Pos → E → O

-- an operator, its place, and the operand after it
pub record Linked (E : Type 0) : Type 0 where
  pub operator : Operator
  pub at : Pos
  pub operand : E

-- a cell: its object and its index
pub record Reference (E O : Type 0) : Type 0 where
  pub place : O
  pub cell : E

module _ {E L O : Type 0} (forms : Forms E L O) where
  -- links one after another
  abbrev pub links : List (Linked E) → L
  links [] = forms.last
  links (l ∷ ls) = forms.link l.operator l.at l.operand (links ls)

  -- a chain; without links it is its first operand
  abbrev pub chained : E → List (Linked E) → E
  chained first [] = first
  chained first (l ∷ ls) = forms.chain first (links (l ∷ ls))

  -- an object: alone, or a member
  abbrev pub object_of : List ℕ → Pos → Option E → O
  object_of x at None = forms.alone x at
  object_of x at (Some e) = forms.member x at e

  -- signs before an operand, the outermost first
  abbrev pub signed : List (UnaryOp × Pos) → E → E
  signed [] e = e
  signed (s ∷ ss) e = forms.sign s.0 s.1 (signed ss e)

  -- one operand, or a relation between two
  abbrev pub compared : E → Option (Relation × Pos × E) → E
  compared left None = left
  compared left (Some r) = forms.chain left (forms.link (Relates r.0) r.1 r.2 forms.last)

  -- A level at a time: the parts of a node are images already.
  abbrev pub at_atom : Atom-F E E (Reference E O) E E E E E → E
  at_atom (Atom-F.Whole n) = forms.whole n.value n.pos
  at_atom (Atom-F.Truth b at) = forms.truth b at
  at_atom (Atom-F.Group at e) = forms.group at e.value
  at_atom (Atom-F.Named x at) = forms.variable x at
  at_atom (Atom-F.Cell c) = forms.cell c.value.place c.value.cell

  -- operands with `&&` between them
  abbrev pub at_and : AndExpr-F E E (Reference E O) E E E E E → E
  at_and f = chained f.first (map (λ l. record { operator = And; at = l.0; operand = l.1 }) f.rest)

  -- a name with one index or two
  abbrev pub at_cell : CellRef-F E E (Reference E O) E E E E E → Reference E O
  at_cell f = record { place = object_of f.name f.pos f.family; cell = f.cell }

  -- one operand, or two with a relation between them
  abbrev pub at_compare : Compare-F E E (Reference E O) E E E E E → E
  at_compare f = compared f.left f.right

  -- operands with `||` between them
  abbrev pub at_expr : Expr-F E E (Reference E O) E E E E E → E
  at_expr f = chained f.first (map (λ l. record { operator = Or; at = l.0; operand = l.1 }) f.rest)

  -- operands with the symbols of products between them
  abbrev pub at_product : Product-F E E (Reference E O) E E E E E → E
  at_product f = chained f.first (map (λ l. record { operator = Multiplies l.0; at = l.1; operand = l.2 }) f.rest)

  -- operands with the symbols of sums between them
  abbrev pub at_sum : Sum-F E E (Reference E O) E E E E E → E
  at_sum f = chained f.first (map (λ l. record { operator = Adds l.0; at = l.1; operand = l.2 }) f.rest)

  -- signs before an atom
  abbrev pub at_unary : Unary-F E E (Reference E O) E E E E E → E
  at_unary f = signed f.signs f.atom

  -- what is kept of an expression
  abbrev pub of_expr : Expr → E
  of_expr = fold-Expr E E (Reference E O) E E E E E at_atom at_and at_cell at_compare at_expr at_product at_sum at_unary

  -- of a cell
  abbrev pub of_cell : CellRef → Reference E O
  of_cell = fold-CellRef E E (Reference E O) E E E E E at_atom at_and at_cell at_compare at_expr at_product at_sum at_unary

  -- of a chain of `&&`
  abbrev pub of_and : AndExpr → E
  of_and = fold-AndExpr E E (Reference E O) E E E E E at_atom at_and at_cell at_compare at_expr at_product at_sum at_unary

  -- of a comparison
  abbrev pub of_compare : Compare → E
  of_compare = fold-Compare E E (Reference E O) E E E E E at_atom at_and at_cell at_compare at_expr at_product at_sum at_unary

  -- of a sum
  abbrev pub of_sum : Sum → E
  of_sum = fold-Sum E E (Reference E O) E E E E E at_atom at_and at_cell at_compare at_expr at_product at_sum at_unary

  -- of a product
  abbrev pub of_product : Product → E
  of_product = fold-Product E E (Reference E O) E E E E E at_atom at_and at_cell at_compare at_expr at_product at_sum at_unary

  -- of an operand with its signs
  abbrev pub of_unary : Unary → E
  of_unary = fold-Unary E E (Reference E O) E E E E E at_atom at_and at_cell at_compare at_expr at_product at_sum at_unary

  -- of an atom
  abbrev pub of_atom : Atom → E
  of_atom = fold-Atom E E (Reference E O) E E E E E at_atom at_and at_cell at_compare at_expr at_product at_sum at_unary

  -- of the index of an object, where it is a member
  abbrev pub of_index : Option Expr → Option E
  of_index None = None
  of_index (Some e) = Some (of_expr e)

  -- of an object that is declared
  abbrev pub of_object : ObjectRef → O
  of_object o = object_of o.name o.pos (of_index o.member)

  -- a link of a chain of `||` in a tree
  abbrev pub or_link : Pos × AndExpr → Linked E
  or_link l = record { operator = Or; at = l.0; operand = of_and l.1 }

  -- a link of a chain of `&&` in a tree
  abbrev pub and_link : Pos × Compare → Linked E
  and_link l = record { operator = And; at = l.0; operand = of_compare l.1 }

  -- a link of a sum in a tree
  abbrev pub sum_link : SumOp × Pos × Product → Linked E
  sum_link l = record { operator = Adds l.0; at = l.1; operand = of_product l.2 }

  -- a link of a product in a tree
  abbrev pub product_link : ProductOp × Pos × Unary → Linked E
  product_link l = record { operator = Multiplies l.0; at = l.1; operand = of_unary l.2 }

  -- the right side of a comparison, if there is one
  abbrev pub compared_with : Option (Relation × Pos × Sum) → Option (Relation × Pos × E)
  compared_with None = None
  compared_with (Some r) = Some (r.0, r.1, of_sum r.2)

-- what is kept of each form of a statement, by what is kept of its parts: expressions E, objects O, statements S and blocks B
pub record StatementForms (E O S B : Type 0) : Type 0 where
  pub local : ValueKind → List ℕ → Pos → E → S
  pub assign : List ℕ → Pos → E → S
  pub store : O → (cell value : E) → S
  pub if_alone : E → B → S
  pub if_else : E → B → B → S
  pub for : List ℕ → Pos → (low high : E) → B → S
  pub withonly : Pos → (section : B) → List Named → (body : B) → S
  pub with : Pos → (section : B) → S
  pub declare : DeclareWord → Pos → O → S
  pub done : B
  pub next : S → B → B

module _ {E O S B : Type 0} (statements : StatementForms E O S B) where
  -- statements one after another
  abbrev pub in_order : List S → B
  in_order [] = statements.done
  in_order (a ∷ more) = statements.next a (in_order more)

  -- an `if`, with another branch or without
  abbrev pub branched : E → List S → Option (List S) → S
  branched test first None = statements.if_alone test (in_order first)
  branched test first (Some other) = statements.if_else test (in_order first) (in_order other)

module _ {E L O S B : Type 0} (forms : Forms E L O) (statements : StatementForms E O S B) where
  -- a statement, by those within it
  abbrev pub at_statement : Statement-F S → S
  at_statement (Statement-F.Local kind name at value) = statements.local kind name at (of_expr forms value)
  at_statement (Statement-F.Assign name at value) = statements.assign name at (of_expr forms value)
  at_statement (Statement-F.Store target value) = statements.store (of_cell forms target).place (of_cell forms target).cell (of_expr forms value)
  at_statement (Statement-F.If test then otherwise) = branched statements (of_expr forms test) then otherwise
  at_statement (Statement-F.For name at low high body) = statements.for name at (of_expr forms low) (of_expr forms high) (in_order statements body)
  at_statement (Statement-F.Withonly at section names body) = statements.withonly at (in_order statements section) names (in_order statements body)
  at_statement (Statement-F.With at section) = statements.with at (in_order statements section)
  at_statement (Statement-F.Declare how at o) = statements.declare how at (of_object forms o)

  -- what is kept of a statement
  abbrev pub of_statement : Statement → S
  of_statement = fold-Statement S at_statement

  -- of the statements of a block
  abbrev pub of_block : List Statement → B
  of_block ss = in_order statements (map of_statement ss)
