-- Trees of expressions with each name replaced by another, and each place too.
use Rattle.std.specs.Prelude.{map, Option, Some, None}
use Rattle.jade_base.specs.declared.place.Pos.{Pos}
use Rattle.jade_syntax.specs.Abstract.{Name}
use Rattle.jade_syntax.specs.Placed.{Term, Whole, Truth, Variable, Group, Signed, Chain, Cell, Links, Last, Link, Object, Alone, Member}
use Rattle.jade_syntax.specs.PlacedImage.{Reference}
use Rattle.jade_syntax.specs.declared.tree.Relation.{Relation}
use Rattle.jade_syntax.specs.declared.tree.ObjectRef.{ObjectRef}
use Rattle.jade_syntax.specs.declared.tree.Atom.{Atom, roll-Atom, fold-Atom}
use Rattle.jade_syntax.specs.declared.tree.Atom.TheOpen.{Atom-F, AndExpr-F, CellRef-F, Compare-F, Expr-F, Product-F, Sum-F, Unary-F}
use Rattle.jade_syntax.specs.declared.tree.AndExpr.{AndExpr, roll-AndExpr, fold-AndExpr}
use Rattle.jade_syntax.specs.declared.tree.CellRef.{CellRef, roll-CellRef, fold-CellRef}
use Rattle.jade_syntax.specs.declared.tree.Compare.{Compare, roll-Compare, fold-Compare}
use Rattle.jade_syntax.specs.declared.tree.Expr.{Expr, roll-Expr, fold-Expr}
use Rattle.jade_syntax.specs.declared.tree.Product.{Product, roll-Product, fold-Product}
use Rattle.jade_syntax.specs.declared.tree.Sum.{Sum, roll-Sum, fold-Sum}
use Rattle.jade_syntax.specs.declared.tree.Unary.{Unary, fold-Unary}

-- `to` gives another name for each, `home` another place
module _ (to : Name → Name) (home : Pos → Pos) where
  -- ---- of a tree, a level at a time: where its parts are replaced already

  abbrev pub at_atom : Atom-F Atom AndExpr CellRef Compare Expr Product Sum Unary → Atom
  at_atom (Atom-F.Whole n) = roll-Atom (Atom-F.Whole (record { value = n.value; pos = home n.pos }))
  at_atom (Atom-F.Truth b p) = roll-Atom (Atom-F.Truth b (home p))
  at_atom (Atom-F.Group p e) = roll-Atom (Atom-F.Group (home p) e)
  at_atom (Atom-F.Named x p) = roll-Atom (Atom-F.Named (to x) (home p))
  at_atom (Atom-F.Cell c) = roll-Atom (Atom-F.Cell c)

  abbrev pub at_and : AndExpr-F Atom AndExpr CellRef Compare Expr Product Sum Unary → AndExpr
  at_and f = roll-AndExpr (record { first = f.first; rest = map (λ l. (home l.0, l.1)) f.rest })

  abbrev pub at_cell : CellRef-F Atom AndExpr CellRef Compare Expr Product Sum Unary → CellRef
  at_cell f = roll-CellRef (record { name = to f.name; pos = home f.pos; family = f.family; cell = f.cell })

  abbrev pub right_side : Option (Relation × Pos × Sum) → Option (Relation × Pos × Sum)
  right_side None = None
  right_side (Some r) = Some (r.0, home r.1, r.2)

  abbrev pub at_compare : Compare-F Atom AndExpr CellRef Compare Expr Product Sum Unary → Compare
  at_compare f = roll-Compare (record { left = f.left; right = right_side f.right })

  abbrev pub at_expr : Expr-F Atom AndExpr CellRef Compare Expr Product Sum Unary → Expr
  at_expr f = roll-Expr (record { first = f.first; rest = map (λ l. (home l.0, l.1)) f.rest })

  abbrev pub at_product : Product-F Atom AndExpr CellRef Compare Expr Product Sum Unary → Product
  at_product f = roll-Product (record { first = f.first; rest = map (λ l. (l.0, home l.1, l.2)) f.rest })

  abbrev pub at_sum : Sum-F Atom AndExpr CellRef Compare Expr Product Sum Unary → Sum
  at_sum f = roll-Sum (record { first = f.first; rest = map (λ l. (l.0, home l.1, l.2)) f.rest })

  abbrev pub at_unary : Unary-F Atom AndExpr CellRef Compare Expr Product Sum Unary → Unary
  at_unary f = record { signs = map (λ s. (s.0, home s.1)) f.signs; atom = f.atom }

  -- an expression
  abbrev pub expr_replaced : Expr → Expr
  expr_replaced = fold-Expr Atom AndExpr CellRef Compare Expr Product Sum Unary at_atom at_and at_cell at_compare at_expr at_product at_sum at_unary

  -- a cell within an expression
  abbrev pub cell_replaced : CellRef → CellRef
  cell_replaced = fold-CellRef Atom AndExpr CellRef Compare Expr Product Sum Unary at_atom at_and at_cell at_compare at_expr at_product at_sum at_unary

  -- a chain of `&&`
  abbrev pub and_replaced : AndExpr → AndExpr
  and_replaced = fold-AndExpr Atom AndExpr CellRef Compare Expr Product Sum Unary at_atom at_and at_cell at_compare at_expr at_product at_sum at_unary

  -- a comparison
  abbrev pub compare_replaced : Compare → Compare
  compare_replaced = fold-Compare Atom AndExpr CellRef Compare Expr Product Sum Unary at_atom at_and at_cell at_compare at_expr at_product at_sum at_unary

  -- a sum
  abbrev pub sum_replaced : Sum → Sum
  sum_replaced = fold-Sum Atom AndExpr CellRef Compare Expr Product Sum Unary at_atom at_and at_cell at_compare at_expr at_product at_sum at_unary

  -- a product
  abbrev pub product_replaced : Product → Product
  product_replaced = fold-Product Atom AndExpr CellRef Compare Expr Product Sum Unary at_atom at_and at_cell at_compare at_expr at_product at_sum at_unary

  -- an operand with its signs
  abbrev pub unary_replaced : Unary → Unary
  unary_replaced = fold-Unary Atom AndExpr CellRef Compare Expr Product Sum Unary at_atom at_and at_cell at_compare at_expr at_product at_sum at_unary

  -- an atom
  abbrev pub atom_replaced : Atom → Atom
  atom_replaced = fold-Atom Atom AndExpr CellRef Compare Expr Product Sum Unary at_atom at_and at_cell at_compare at_expr at_product at_sum at_unary

  -- the index of an object, where it is a member
  abbrev pub index_replaced : Option Expr → Option Expr
  index_replaced None = None
  index_replaced (Some e) = Some (expr_replaced e)

  -- an object that is declared
  abbrev pub object_replaced : ObjectRef → ObjectRef
  object_replaced o = record { name = to o.name; pos = home o.pos; member = index_replaced o.member }

  -- ---- of its abstract syntax with all places

  abbrev mutual
    pub term_replaced : Term → Term
    term_replaced (Whole z at) = Whole z (home at)
    term_replaced (Truth b at) = Truth b (home at)
    term_replaced (Variable x at) = Variable (to x) (home at)
    term_replaced (Group at e) = Group (home at) (term_replaced e)
    term_replaced (Signed u at e) = Signed u (home at) (term_replaced e)
    term_replaced (Chain e more) = Chain (term_replaced e) (links_replaced more)
    term_replaced (Cell o e) = Cell (place_replaced o) (term_replaced e)

    pub links_replaced : Links → Links
    links_replaced Last = Last
    links_replaced (Link op at e more) = Link op (home at) (term_replaced e) (links_replaced more)

    pub place_replaced : Object → Object
    place_replaced (Alone x at) = Alone (to x) (home at)
    place_replaced (Member x at e) = Member (to x) (home at) (term_replaced e)

  -- a cell: its object and its index
  abbrev pub reference_replaced : Reference → Reference
  reference_replaced r = record { place = place_replaced r.place; cell = term_replaced r.cell }
