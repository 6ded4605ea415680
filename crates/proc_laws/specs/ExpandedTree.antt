-- The tree of the program without procedures that stands for one with them. Each token of it keeps the place that it comes from: a token that
-- is made for a call that of the call's name.
use Rattle.std.specs.Prelude.{ℕ, ◌+◌, true, List, [], ◌∷◌, map, length, Some, None, if◌then◌else◌}
use Rattle.jade_base.specs.declared.place.Pos.{Pos}
use Rattle.jade_syntax.specs.declared.tree.Atom.{roll-Atom}
use Rattle.jade_syntax.specs.declared.tree.Atom.TheOpen.{Atom-F}
use Rattle.jade_syntax.specs.declared.tree.AndExpr.{roll-AndExpr}
use Rattle.jade_syntax.specs.declared.tree.CellRef.{CellRef}
use Rattle.jade_syntax.specs.declared.tree.Compare.{roll-Compare}
use Rattle.jade_syntax.specs.declared.tree.Expr.{Expr, roll-Expr}
use Rattle.jade_syntax.specs.declared.tree.Named.{Named}
use Rattle.jade_syntax.specs.declared.tree.ObjectRef.{ObjectRef}
use Rattle.jade_syntax.specs.declared.tree.Product.{roll-Product}
use Rattle.jade_syntax.specs.declared.tree.Program.{Program}
use Rattle.jade_syntax.specs.declared.tree.Statement.{Statement}
use Rattle.jade_syntax.specs.declared.tree.Statement.TheVariants as statement
use Rattle.jade_syntax.specs.declared.tree.Sum.{roll-Sum}
use Rattle.jade_syntax.specs.Abstract.{Name}
use Rattle.jade_syntax.specs.Numbering.{same_name}
use Rattle.replaced_trees.specs.Replaced.{expr_replaced, cell_replaced, object_replaced}
use Rattle.proc_laws.specs.Expansion.{Made, item_name, replaced, replacement}
use Rattle.proc_laws.specs.SourceTree.{
  HeadParam,
  Spoken,
  Local,
  Assign,
  Store,
  If,
  IfElse,
  For,
  Withonly,
  With,
  Declare,
  Call,
  Spokens,
  Done,
  Then,
  SpokenProcedure,
  SourceText,
  procedure,
  spoken_procedures,
  items_of,
}

-- ---- with names replaced, each where it stands

abbrev pub expr_renamed : (Name → Name) → Expr → Expr
expr_renamed to e = expr_replaced to (λ at. at) e

abbrev pub cell_renamed : (Name → Name) → CellRef → CellRef
cell_renamed to c = cell_replaced to (λ at. at) c

abbrev pub object_renamed : (Name → Name) → ObjectRef → ObjectRef
object_renamed to o = object_replaced to (λ at. at) o

abbrev pub named_renamed : (Name → Name) → Named → Named
named_renamed to n = record { name = to n.name; pos = n.pos }

-- `true` at a place
abbrev pub truth_at : Pos → Expr
truth_at at = roll-Expr (record {
  first = roll-AndExpr (record {
    first = roll-Compare (record {
      left = roll-Sum (record {
        first = roll-Product (record { first = record { signs = []; atom = roll-Atom (Atom-F.Truth true at) }; rest = [] });
        rest = [];
      });
      right = None;
    });
    rest = [];
  });
  rest = [];
})

-- what is written for a call of each procedure at a place with these arguments, from a number on
abbrev pub CallTrees : Type 0
CallTrees = Name → Pos → List Expr → ℕ → Made Statement

module _ (calls : CallTrees) (to : Name → Name) where
  abbrev mutual
    -- what is written for a statement whose names are replaced so, from a number on
    pub tree : Spoken → ℕ → Made Statement
    tree (Local kind x at e) n = record { made = statement.Local kind (to x) at (expr_renamed to e); next = n }
    tree (Assign x at e) n = record { made = statement.Assign (to x) at (expr_renamed to e); next = n }
    tree (Store c e) n = record { made = statement.Store (cell_renamed to c) (expr_renamed to e); next = n }
    tree (If e first) n = let b = trees first n in record { made = statement.If (expr_renamed to e) b.made None; next = b.next }
    tree (IfElse e first other) n =
        let b = trees first n in let d = trees other b.next in
        record { made = statement.If (expr_renamed to e) b.made (Some d.made); next = d.next }
    tree (For x at low high body) n =
        let b = trees body n in record { made = statement.For (to x) at (expr_renamed to low) (expr_renamed to high) b.made; next = b.next }
    tree (Withonly at section names body) n =
        let d = trees section n in let b = trees body d.next in
        record { made = statement.Withonly at d.made (map (named_renamed to) names) b.made; next = b.next }
    tree (With at section) n = let d = trees section n in record { made = statement.With at d.made; next = d.next }
    tree (Declare how at o) n = record { made = statement.Declare how at (object_renamed to o); next = n }
    tree (Call f at args) n = calls f at (map (expr_renamed to) args) n

    -- for statements in order
    pub trees : Spokens → ℕ → Made (List Statement)
    trees Done n = record { made = []; next = n }
    trees (Then a more) n =
        let b = tree a n in let d = trees more b.next in
        record { made = b.made ∷ d.made; next = d.next }

-- the parameters of a call at a place get the values of its arguments, and then comes the body
abbrev pub declared_at : Pos → (Name → Name) → List HeadParam → List Expr → List Statement → List Statement
declared_at at to [] args body = body
declared_at at to (p ∷ params) [] body = body
declared_at at to (p ∷ params) (e ∷ args) body = statement.Local p.kind (to p.name) at e ∷ declared_at at to params args body

module _ (items : List Name) (fresh : ℕ → Name) where
  -- for a call of a procedure
  abbrev pub call_tree : CallTrees → SpokenProcedure → Pos → List Expr → ℕ → Made Statement
  call_tree calls p at args n =
      let names = replaced items fresh (procedure p) in
      let to = replacement items fresh names n in
      let b = trees calls to p.body (n + length names) in
      record { made = statement.If (truth_at at) (declared_at at to p.params args b.made) None; next = b.next }

  -- one procedure more, which may call those before it
  abbrev pub and_tree : CallTrees → SpokenProcedure → CallTrees
  and_tree calls p f at args n = if same_name f p.name then call_tree calls p at args n else calls f at args n

  -- all procedures, in text order
  abbrev pub all_trees : CallTrees → List SpokenProcedure → CallTrees
  all_trees calls [] = calls
  all_trees calls (p ∷ ps) = all_trees (and_tree calls p) ps

-- where there is no procedure
abbrev pub no_trees : CallTrees
no_trees f at args n = record { made = statement.If (truth_at at) [] None; next = n }

abbrev pub expanded_tree : (ℕ → Name) → SourceText → Program
expanded_tree fresh q =
    let calls = all_trees (map item_name (items_of q.pieces)) fresh no_trees (spoken_procedures q.pieces) in
    record { items = items_of q.pieces; main = (trees calls (λ x. x) q.main 0).made }
