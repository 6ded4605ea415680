-- The abstract syntax of a program: the tree as plain data, with places only where a fault needs one.
use Rattle.std.specs.Prelude.{ℕ, List, Bool, ℤ}
use Rattle.jade_base.specs.declared.place.Pos.{Pos}
use Rattle.jade_syntax.specs.declared.tree.Item.{Item}
use Rattle.jade_syntax.specs.declared.tree.ValueKind.{ValueKind}
use Rattle.jade_syntax.specs.declared.tree.DeclareWord.{DeclareWord}
use Rattle.jade_syntax.specs.declared.tree.Relation.{Relation}
use Rattle.jade_syntax.specs.declared.tree.SumOp.{SumOp}
use Rattle.jade_syntax.specs.declared.tree.ProductOp.{ProductOp}
use Rattle.jade_syntax.specs.declared.tree.UnaryOp.{UnaryOp}

-- a name, as its bytes
abbrev pub Name : Type 0
Name = List ℕ

-- an operator between two operands
pub data Operator : Type 0 where
  Or And : Operator
  Relates : Relation → Operator
  Adds : SumOp → Operator
  Multiplies : ProductOp → Operator

-- A chain of one level is its first operand and its links, each with the operator and the operator's place.
mutual
  -- a number, a truth value, a variable, a group, a sign before an operand, a chain, or a cell of an object
  pub data Expression : Type 0 where
    Whole : ℤ → Expression
    Truth : Bool → Expression
    Variable : Name → Expression
    Group : Expression → Expression
    Signed : UnaryOp → Pos → Expression → Expression
    Chain : Expression → Links → Expression
    Cell : Place → Expression → Expression

  -- what a chain goes on with
  pub data Links : Type 0 where
    Last : Links
    Link : Operator → Pos → Expression → Links → Links

  -- an object: alone, or a member of a family
  pub data Place : Type 0 where
    Alone : Name → Pos → Place
    Member : Name → Pos → Expression → Place

mutual
  -- a statement; an `if` is told with its other branch or without
  pub data Action : Type 0 where
    Local : ValueKind → Name → Expression → Action
    Assign : Name → Expression → Action
    Store : Place → (cell value : Expression) → Action
    If : Expression → Actions → Action
    IfElse : Expression → Actions → Actions → Action
    For : Name → (low high : Expression) → Actions → Action
    Withonly : Pos → (section : Actions) → List Name → (body : Actions) → Action
    With : Pos → (section : Actions) → Action
    Declare : DeclareWord → Pos → Place → Action

  -- statements in order
  pub data Actions : Type 0 where
    Done : Actions
    Then : Action → Actions → Actions

-- a whole program: what it declares, and what `main` does
pub record AbstractProgram : Type 0 where
  pub items : List Item
  pub main : Actions
