-- A whole tree with each place replaced by another, and tokens at other places.
use Rattle.std.specs.Prelude.{map}
use Rattle.jade_base.specs.declared.place.Pos.{Pos}
use Rattle.jade_lexer.specs.Lexemes.{TokenAt, TokenList}
use Rattle.jade_syntax.specs.declared.tree.CellRef.{CellRef}
use Rattle.jade_syntax.specs.declared.tree.Expr.{Expr}
use Rattle.jade_syntax.specs.declared.tree.Named.{Named}
use Rattle.jade_syntax.specs.declared.tree.ObjectRef.{ObjectRef}
use Rattle.jade_syntax.specs.declared.tree.Program.{Program}
use Rattle.jade_syntax.specs.declared.tree.Statement.{Statement, roll-Statement, fold-Statement}
use Rattle.jade_syntax.specs.declared.tree.Statement.TheOpen.{Statement-F}
use Rattle.jade_reading.specs.Unplaced.{moved_item}
use Rattle.replaced_trees.specs.Replaced.{expr_replaced, cell_replaced, object_replaced}

-- `home` gives another place for each
module _ (home : Pos → Pos) where
  -- an expression
  abbrev pub expr_moved : Expr → Expr
  expr_moved e = expr_replaced (λ x. x) home e

  -- a cell
  abbrev pub cell_moved : CellRef → CellRef
  cell_moved c = cell_replaced (λ x. x) home c

  -- an object that is declared
  abbrev pub object_moved : ObjectRef → ObjectRef
  object_moved o = object_replaced (λ x. x) home o

  -- a name of a `do` list
  abbrev pub named_moved : Named → Named
  named_moved n = record { name = n.name; pos = home n.pos }

  -- a statement, where those within it are moved already
  abbrev pub layer_moved : Statement-F Statement → Statement-F Statement
  layer_moved (Statement-F.Local kind x at e) = Statement-F.Local kind x (home at) (expr_moved e)
  layer_moved (Statement-F.Assign x at e) = Statement-F.Assign x (home at) (expr_moved e)
  layer_moved (Statement-F.Store c e) = Statement-F.Store (cell_moved c) (expr_moved e)
  layer_moved (Statement-F.If test first other) = Statement-F.If (expr_moved test) first other
  layer_moved (Statement-F.For x at low high body) = Statement-F.For x (home at) (expr_moved low) (expr_moved high) body
  layer_moved (Statement-F.Withonly at section names body) = Statement-F.Withonly (home at) section (map named_moved names) body
  layer_moved (Statement-F.With at section) = Statement-F.With (home at) section
  layer_moved (Statement-F.Declare how at o) = Statement-F.Declare how (home at) (object_moved o)

  -- a statement
  abbrev pub statement_moved : Statement → Statement
  statement_moved = fold-Statement Statement (λ f. roll-Statement (layer_moved f))

  -- a whole program
  abbrev pub tree_moved : Program → Program
  tree_moved p = record { items = map (moved_item home) p.items; main = map statement_moved p.main }

  -- a token at another place
  abbrev pub token_moved : TokenAt → TokenAt
  token_moved t = record { bytes = t.bytes; start = t.start; pos = home t.pos }

  -- tokens at other places
  abbrev pub tokens_moved : TokenList → TokenList
  tokens_moved l = record { lexemes = map token_moved l.lexemes; end = home l.end }
