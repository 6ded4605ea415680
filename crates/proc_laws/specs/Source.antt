-- The abstract syntax of a program with procedures.
use Rattle.std.specs.Prelude.{List}
use Rattle.jade_base.specs.declared.place.Pos.{Pos}
use Rattle.jade_syntax.specs.declared.tree.Item.{Item}
use Rattle.jade_syntax.specs.declared.tree.ValueKind.{ValueKind}
use Rattle.jade_syntax.specs.declared.tree.DeclareWord.{DeclareWord}
use Rattle.jade_syntax.specs.Abstract.{Name, Expression, Place}

mutual
  -- a statement of a source: a call, or as in a program without procedures
  pub data SourceAction : Type 0 where
    Local : ValueKind → Name → Expression → SourceAction
    Assign : Name → Expression → SourceAction
    Store : Place → (cell value : Expression) → SourceAction
    If : Expression → SourceActions → SourceAction
    IfElse : Expression → SourceActions → SourceActions → SourceAction
    For : Name → (low high : Expression) → SourceActions → SourceAction
    Withonly : Pos → (section : SourceActions) → List Name → (body : SourceActions) → SourceAction
    With : Pos → (section : SourceActions) → SourceAction
    Declare : DeclareWord → Pos → Place → SourceAction
    Call : Name → List Expression → SourceAction

  -- statements in order
  pub data SourceActions : Type 0 where
    Done : SourceActions
    Then : SourceAction → SourceActions → SourceActions

-- a parameter of a procedure
pub record Param : Type 0 where
  pub kind : ValueKind
  pub name : Name

-- a procedure
pub record Procedure : Type 0 where
  pub name : Name
  pub params : List Param
  pub body : SourceActions

-- a whole program: its items, its procedures in text order, and what `main` does
pub record SourceProgram : Type 0 where
  pub items : List Item
  pub procedures : List Procedure
  pub main : SourceActions
