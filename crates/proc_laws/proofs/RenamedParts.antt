-- The parts of a statement whose names are replaced, each where it stands, and the names of its parts.
use Rattle.std.proofs.Common.{◌≡◌, List, [], ◌∷◌, ◌++◌, Option, Some, None, map, refl, sym, ap, ◌∙◌}
use Rattle.std.proofs.lemmas.List.{map-append, append-nil}
use Rattle.jade_base.specs.declared.place.Pos.{Pos}
use Rattle.jade_syntax.specs.declared.tree.Atom.{Atom}
use Rattle.jade_syntax.specs.declared.tree.Atom.TheOpen.{CellRef-F}
use Rattle.jade_syntax.specs.declared.tree.AndExpr.{AndExpr}
use Rattle.jade_syntax.specs.declared.tree.CellRef.{CellRef, out-CellRef, out-roll-CellRef, fold_out-CellRef, map-CellRef}
use Rattle.jade_syntax.specs.declared.tree.Compare.{Compare}
use Rattle.jade_syntax.specs.declared.tree.Expr.{Expr}
use Rattle.jade_syntax.specs.declared.tree.Named.{Named}
use Rattle.jade_syntax.specs.declared.tree.ObjectRef.{ObjectRef}
use Rattle.jade_syntax.specs.declared.tree.Product.{Product}
use Rattle.jade_syntax.specs.declared.tree.Statement.{Statement, out-Statement, fold_out-Statement, map-Statement}
use Rattle.jade_syntax.specs.declared.tree.Statement.TheOpen.{Statement-F}
use Rattle.jade_syntax.specs.declared.tree.Sum.{Sum}
use Rattle.jade_syntax.specs.declared.tree.Unary.{Unary}
use Rattle.jade_syntax.specs.Abstract.{Name, Expression}
use Rattle.jade_syntax.specs.Forms as general
use Rattle.jade_syntax.specs.Image as image
use Rattle.jade_syntax.specs.Image.{forms, expression, reference, object, member, Reference}
use Rattle.jade_syntax.specs.Image.{and_expression, compare_expression, product_expression, sum_expression, unary_expression, atom_expression}
use Rattle.jade_parser.specs.declared.Sign.TheVariants.{LeftBracket, RightBracket, Comma}
use Rattle.jade_parser.specs.Spelled.{Called, Part, Parts, tokens_of, fixed, marked, bracketed, outer}
use Rattle.jade_parser.specs.Statements.{outer_index, object_parts, target_parts, more_names, name_parts, at_statement, statement_parts}
use Rattle.replaced_trees.specs.Replaced.{at_atom, at_and, at_cell, at_compare, at_expr, at_product, at_sum, at_unary, expr_replaced, and_replaced}
use Rattle.replaced_trees.specs.Replaced.{cell_replaced, compare_replaced, sum_replaced, product_replaced, unary_replaced, atom_replaced, index_replaced}
use Rattle.replaced_trees.proofs.SpelledTerms.{outer_spelled}
use Rattle.proc_laws.specs.Expansion.{names_in, place_names}
use Rattle.proc_laws.specs.ExpandedTree.{expr_renamed, cell_renamed, object_renamed, named_renamed}
use Rattle.proc_laws.proofs.InnerTokens.{cell_names}
use Rattle.proc_laws.proofs.WrittenParts.{renamed_part, renamed_parts, called_names, called_parts, outer_names}

-- the parts of a statement by its form
pub made_is : (s : Statement) (f : Statement-F Statement) → out-Statement s ≡ f
    → statement_parts s ≡ at_statement (map-Statement Statement Parts statement_parts f)
made_is s f e =
    fold_out-Statement Parts at_statement s ∙ ap (λ (g : Statement-F Statement). at_statement (map-Statement Statement Parts statement_parts g)) e

abbrev Layer : Type 0
Layer = CellRef-F Atom AndExpr CellRef Compare Expr Product Sum Unary

abbrev layer_target : Layer → Parts
layer_target f = marked (Called f.name) f.pos ∷ (outer_index f.family ++ bracketed (outer f.cell))

module _ (to : Name → Name) where
  -- parts whose names are replaced
  record Renamed (a b : Parts) : Type 0 where
    is : a ≡ renamed_parts to b

  none : Renamed [] []
  none = record { is = refl }

  one : {a b : Parts} (p q : Part) → p ≡ renamed_part to q → Renamed a b → Renamed (p ∷ a) (q ∷ b)
  one p q e h = record { is = λ i. e i ∷ h.is i }

  joined : {a b c d : Parts} → Renamed a c → Renamed b d → Renamed (a ++ b) (c ++ d)
  joined {a} {b} {c} {d} h k = record { is = (λ i. h.is i ++ k.is i) ∙ sym (map-append (renamed_part to) c d) }

  outer_renamed : (e : Expr) → Renamed (outer (expr_renamed to e)) (outer e)
  outer_renamed e = record { is = outer_spelled to (λ at. at) e }

  bracketed_renamed : {a b : Parts} → Renamed a b → Renamed (bracketed a) (bracketed b)
  bracketed_renamed h = one (fixed LeftBracket) (fixed LeftBracket) refl (joined h (one (fixed RightBracket) (fixed RightBracket) refl none))

  index_renamed : (o : Option Expr) → Renamed (outer_index (index_replaced to (λ at. at) o)) (outer_index o)
  index_renamed None = none
  index_renamed (Some e) = bracketed_renamed (outer_renamed e)

  pub object_is : (o : ObjectRef) → renamed_parts to (object_parts o) ≡ object_parts (object_renamed to o)
  object_is o = sym (one (marked (Called (to o.name)) o.pos) (marked (Called o.name) o.pos) refl (index_renamed o.member)).is

  abbrev cell_layer : Layer → CellRef
  cell_layer f =
      at_cell to (λ at. at) (map-CellRef Atom AndExpr CellRef Compare Expr Product Sum Unary Atom AndExpr CellRef Compare Expr Product Sum Unary
      (atom_replaced to (λ at. at)) (and_replaced to (λ at. at)) (cell_replaced to (λ at. at)) (compare_replaced to (λ at. at))
      (expr_replaced to (λ at. at)) (product_replaced to (λ at. at)) (sum_replaced to (λ at. at)) (unary_replaced to (λ at. at)) f)

  node_target : (n : Name) (p : Pos) (o : Option Expr) (x : Expr)
      → target_parts (cell_layer (record { name = n; pos = p; family = o; cell = x }))
      ≡ renamed_parts to (layer_target (record { name = n; pos = p; family = o; cell = x }))
  node_target n p None x =
      ap layer_target (out-roll-CellRef (record { name = to n; pos = p; family = None; cell = expr_renamed to x }))
      ∙ (one (marked (Called (to n)) p) (marked (Called n) p) refl (joined none (bracketed_renamed (outer_renamed x)))).is
  node_target n p (Some o) x =
      ap layer_target (out-roll-CellRef (record { name = to n; pos = p; family = Some (expr_renamed to o); cell = expr_renamed to x }))
      ∙ (one (marked (Called (to n)) p) (marked (Called n) p) refl
      (joined (bracketed_renamed (outer_renamed o)) (bracketed_renamed (outer_renamed x)))).is

  pub target_is : (c : CellRef) → renamed_parts to (target_parts c) ≡ target_parts (cell_renamed to c)
  target_is c =
      sym (ap target_parts (fold_out-CellRef Atom AndExpr CellRef Compare Expr Product Sum Unary (at_atom to (λ at. at)) (at_and to (λ at. at))
      (at_cell to (λ at. at)) (at_compare to (λ at. at)) (at_expr to (λ at. at)) (at_product to (λ at. at)) (at_sum to (λ at. at))
      (at_unary to (λ at. at)) c)
      ∙ node_target (out-CellRef c).name (out-CellRef c).pos (out-CellRef c).family (out-CellRef c).cell)

  more_is : (ns : List Named) → renamed_parts to (more_names ns) ≡ more_names (map (named_renamed to) ns)
  more_is [] = refl
  more_is (n ∷ ns) = ap (λ (l : Parts). fixed Comma ∷ marked (Called (to n.name)) n.pos ∷ l) (more_is ns)

  pub names_are : (ns : List Named) → renamed_parts to (name_parts ns) ≡ name_parts (map (named_renamed to) ns)
  names_are [] = refl
  names_are (n ∷ ns) = ap (λ (l : Parts). marked (Called (to n.name)) n.pos ∷ l) (more_is ns)

-- ---- names

square_names : (e : Expr) → called_names (tokens_of (bracketed (outer e))) ≡ names_in (expression e)
square_names e = called_parts (outer e) (fixed RightBracket ∷ []) ∙ append-nil (called_names (tokens_of (outer e))) ∙ outer_names e

index_names : (o : Option Expr) (x : Name) (p : Pos) → x ∷ called_names (tokens_of (outer_index o)) ≡ place_names (image.placed x p (member o))
index_names None x p = refl
index_names (Some e) x p = ap (λ (l : List Name). x ∷ l) (square_names e)

pub object_names : (o : ObjectRef) → called_names (tokens_of (object_parts o)) ≡ place_names (object o)
object_names o = index_names o.member o.name o.pos

node_names : (n : Name) (p : Pos) (o : Option Expr) (x : Expr)
    → called_names (tokens_of (layer_target (record { name = n; pos = p; family = o; cell = x })))
    ≡ cell_names (general.at_cell forms (map-CellRef Atom AndExpr CellRef Compare Expr Product Sum Unary Expression Expression Reference Expression Expression
    Expression Expression Expression atom_expression and_expression reference compare_expression expression product_expression sum_expression unary_expression
    (record { name = n; pos = p; family = o; cell = x })))
node_names n p None x = ap (λ (l : List Name). n ∷ l) (square_names x)
node_names n p (Some o) x =
    ap (λ (l : List Name). n ∷ l) (called_parts (bracketed (outer o)) (bracketed (outer x)) ∙ (λ i. square_names o i ++ square_names x i))

pub target_names : (c : CellRef) → called_names (tokens_of (target_parts c)) ≡ cell_names (reference c)
target_names c =
    node_names (out-CellRef c).name (out-CellRef c).pos (out-CellRef c).family (out-CellRef c).cell
    ∙ sym (ap cell_names (fold_out-CellRef Expression Expression Reference Expression Expression Expression Expression Expression (general.at_atom forms)
    (general.at_and forms) (general.at_cell forms) (general.at_compare forms) (general.at_expr forms) (general.at_product forms) (general.at_sum forms)
    (general.at_unary forms) c))

more_called : (ns : List Named) → called_names (tokens_of (more_names ns)) ≡ map (λ (n : Named). n.name) ns
more_called [] = refl
more_called (n ∷ ns) = ap (λ (l : List Name). n.name ∷ l) (more_called ns)

pub list_names : (ns : List Named) → called_names (tokens_of (name_parts ns)) ≡ map (λ (n : Named). n.name) ns
list_names [] = refl
list_names (n ∷ ns) = ap (λ (l : List Name). n.name ∷ l) (more_called ns)
