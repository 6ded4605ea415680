-- The abstract syntax of a program with every place that its tree keeps.
use Rattle.std.specs.Prelude.{List, Bool, ℤ}
use Rattle.jade_base.specs.declared.place.Pos.{Pos}
use Rattle.jade_syntax.specs.declared.tree.Item.{Item}
use Rattle.jade_syntax.specs.declared.tree.ValueKind.{ValueKind}
use Rattle.jade_syntax.specs.declared.tree.DeclareWord.{DeclareWord}
use Rattle.jade_syntax.specs.declared.tree.UnaryOp.{UnaryOp}
use Rattle.jade_syntax.specs.Abstract.{Name, Operator}

-- A chain of one level is its first operand and its links, each with the operator and the operator's place.
mutual
  -- a number, a truth value, a variable, a group, a sign before an operand, a chain, or a cell of an object
  pub data Term : Type 0 where
    Whole : ℤ → Pos → Term
    Truth : Bool → Pos → Term
    Variable : Name → Pos → Term
    Group : Pos → Term → Term
    Signed : UnaryOp → Pos → Term → Term
    Chain : Term → Links → Term
    Cell : Object → Term → Term

  -- what a chain goes on with
  pub data Links : Type 0 where
    Last : Links
    Link : Operator → Pos → Term → Links → Links

  -- an object: alone, or a member of a family
  pub data Object : Type 0 where
    Alone : Name → Pos → Object
    Member : Name → Pos → Term → Object

-- a name of a `do` list
pub record Mention : Type 0 where
  pub name : Name
  pub at : Pos

mutual
  -- a statement; an `if` is told with its other branch or without
  pub data Phrase : Type 0 where
    Local : ValueKind → Name → Pos → Term → Phrase
    Assign : Name → Pos → Term → Phrase
    Store : Object → (cell value : Term) → Phrase
    If : Term → Phrases → Phrase
    IfElse : Term → Phrases → Phrases → Phrase
    For : Name → Pos → (low high : Term) → Phrases → Phrase
    Withonly : Pos → (section : Phrases) → List Mention → (body : Phrases) → Phrase
    With : Pos → (section : Phrases) → Phrase
    Declare : DeclareWord → Pos → Object → Phrase

  -- statements in order
  pub data Phrases : Type 0 where
    Done : Phrases
    Then : Phrase → Phrases → Phrases

-- a whole program: what it declares, and what `main` does
pub record PlacedProgram : Type 0 where
  pub items : List Item
  pub main : Phrases

-- the place of the first token
abbrev mutual
  -- of an expression
  pub start : Term → Pos
  start (Whole z at) = at
  start (Truth b at) = at
  start (Variable x at) = at
  start (Group at e) = at
  start (Signed sign at e) = at
  start (Chain e links) = start e
  start (Cell o e) = object_start o

  -- of an object
  pub object_start : Object → Pos
  object_start (Alone x at) = at
  object_start (Member x at e) = at
