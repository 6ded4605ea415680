-- The tree of a program with procedures: that of a program, with one more statement, the call, and one more item, the procedure.
-- Of a procedure that is never called the body is kept as its tokens alone.
use Rattle.std.specs.Prelude.{ℕ, List, [], ◌∷◌, map}
use Rattle.jade_base.specs.declared.place.Pos.{Pos}
use Rattle.jade_syntax.specs.declared.tree.Item.{Item}
use Rattle.jade_syntax.specs.declared.tree.ValueKind.{ValueKind}
use Rattle.jade_syntax.specs.declared.tree.DeclareWord.{DeclareWord}
use Rattle.jade_syntax.specs.declared.tree.Named.{Named}
use Rattle.jade_syntax.specs.declared.tree.Expr.{Expr}
use Rattle.jade_syntax.specs.declared.tree.CellRef.{CellRef}
use Rattle.jade_syntax.specs.declared.tree.ObjectRef.{ObjectRef}
use Rattle.jade_syntax.specs.Abstract.{Name}
use Rattle.jade_syntax.specs.Image.{expression, reference, object}
use Rattle.proc_laws.specs.Source as source
use Rattle.proc_laws.specs.Source.{SourceAction, SourceActions, Param, Procedure, SourceProgram}

-- a parameter of a head
pub record HeadParam : Type 0 where
  pub kind : ValueKind
  pub name : Name
  pub at : Pos

mutual
  -- a statement of a source, with the trees of its expressions
  pub data Spoken : Type 0 where
    Local : ValueKind → Name → Pos → Expr → Spoken
    Assign : Name → Pos → Expr → Spoken
    Store : CellRef → Expr → Spoken
    If : Expr → Spokens → Spoken
    IfElse : Expr → Spokens → Spokens → Spoken
    For : Name → Pos → (low high : Expr) → Spokens → Spoken
    Withonly : Pos → (section : Spokens) → List Named → (body : Spokens) → Spoken
    With : Pos → (section : Spokens) → Spoken
    Declare : DeclareWord → Pos → ObjectRef → Spoken
    Call : Name → Pos → List Expr → Spoken

  -- statements in order
  pub data Spokens : Type 0 where
    Done : Spokens
    Then : Spoken → Spokens → Spokens

-- a procedure
pub record SpokenProcedure : Type 0 where
  pub name : Name
  pub at : Pos
  pub params : List HeadParam
  pub body : Spokens

-- what stands before `main`: an item, a procedure, or one that is never called, whose body is not read
pub data Piece : Type 0 where
  AnItem : Item → Piece
  AProcedure : SpokenProcedure → Piece
  Unread : Name → Pos → List HeadParam → (body : List (List ℕ)) → Piece

-- a whole source
pub record SourceText : Type 0 where
  pub pieces : List Piece
  pub main : Spokens

-- ---- its abstract syntax

abbrev mutual
  pub spoken_action : Spoken → SourceAction
  spoken_action (Local kind x at e) = source.Local kind x (expression e)
  spoken_action (Assign x at e) = source.Assign x (expression e)
  spoken_action (Store target e) = source.Store (reference target).place (reference target).cell (expression e)
  spoken_action (If e first) = source.If (expression e) (spoken_actions first)
  spoken_action (IfElse e first other) = source.IfElse (expression e) (spoken_actions first) (spoken_actions other)
  spoken_action (For x at low high body) = source.For x (expression low) (expression high) (spoken_actions body)
  spoken_action (Withonly at section names body) =
      source.Withonly at (spoken_actions section) (map (λ (n : Named). n.name) names) (spoken_actions body)
  spoken_action (With at section) = source.With at (spoken_actions section)
  spoken_action (Declare how at o) = source.Declare how at (object o)
  spoken_action (Call x at args) = source.Call x (map expression args)

  pub spoken_actions : Spokens → SourceActions
  spoken_actions Done = source.Done
  spoken_actions (Then a more) = source.Then (spoken_action a) (spoken_actions more)

abbrev pub items_of : List Piece → List Item
items_of [] = []
items_of (AnItem i ∷ ps) = i ∷ items_of ps
items_of (AProcedure p ∷ ps) = items_of ps
items_of (Unread x at params body ∷ ps) = items_of ps

abbrev pub spoken_procedures : List Piece → List SpokenProcedure
spoken_procedures [] = []
spoken_procedures (AnItem i ∷ ps) = spoken_procedures ps
spoken_procedures (AProcedure p ∷ ps) = p ∷ spoken_procedures ps
spoken_procedures (Unread x at params body ∷ ps) = spoken_procedures ps

abbrev pub param : HeadParam → Param
param p = record { kind = p.kind; name = p.name }

abbrev pub procedure : SpokenProcedure → Procedure
procedure p = record { name = p.name; params = map param p.params; body = spoken_actions p.body }

abbrev pub source_of : SourceText → SourceProgram
source_of q = record { items = items_of q.pieces; procedures = map procedure (spoken_procedures q.pieces); main = spoken_actions q.main }
