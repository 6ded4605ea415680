-- The tokens of a tree, opened one level.
use Rattle.std.proofs.Common.{◌≡◌, ℕ, List, [], ◌∷◌, ◌++◌, refl, ap, ◌∙◌, Option, Some, None, codes, append-nil}
use Rattle.std.specs.Prelude.{Box}
use Rattle.std.specs.declared.alloc.Global.{Global}
use Rattle.std.specs.List.{flat_map}
use Rattle.std.proofs.lemmas.List.Folds.{flat_map-map}
use Rattle.jade_base.specs.declared.place.Pos.{Pos}
use Rattle.jade_syntax.specs.declared.tree.Atom.TheOpen.{Atom-F, CellRef-F, Compare-F}
use Rattle.jade_syntax.specs.declared.tree.Relation.{Relation}
use Rattle.jade_syntax.specs.declared.tree.Atom.{Atom, fold_out-Atom, map-Atom}
use Rattle.jade_syntax.specs.declared.tree.Atom.TheVariants.{Group, outs-Group}
use Rattle.jade_syntax.specs.declared.tree.AndExpr.{AndExpr, out-AndExpr, fold_out-AndExpr}
use Rattle.jade_syntax.specs.declared.tree.CellRef.{CellRef, out-CellRef, fold_out-CellRef, map-CellRef}
use Rattle.jade_syntax.specs.declared.tree.Compare.{Compare, out-Compare, fold_out-Compare, map-Compare}
use Rattle.jade_syntax.specs.declared.tree.DeclareWord.{DeclareWord}
use Rattle.jade_syntax.specs.declared.tree.Expr.{Expr, out-Expr, fold_out-Expr}
use Rattle.jade_syntax.specs.declared.tree.Named.{Named}
use Rattle.jade_syntax.specs.declared.tree.ObjectRef.{ObjectRef}
use Rattle.jade_syntax.specs.declared.tree.Product.{Product, out-Product, fold_out-Product}
use Rattle.jade_syntax.specs.declared.tree.ProductOp.{ProductOp}
use Rattle.jade_syntax.specs.declared.tree.Statement.{Statement, out-Statement, fold_out-Statement, map-Statement}
use Rattle.jade_syntax.specs.declared.tree.Statement.TheOpen.{Statement-F}
use Rattle.jade_syntax.specs.declared.tree.Statement.TheVariants.{Local, Assign, Store, Declare, outs-Local}
use Rattle.jade_syntax.specs.declared.tree.Statement.TheVariants.{outs-Assign, outs-Store, outs-Declare, If}
use Rattle.jade_syntax.specs.declared.tree.Statement.TheVariants.{For, Withonly, With, outs-If, outs-For}
use Rattle.jade_syntax.specs.declared.tree.Statement.TheVariants.{outs-Withonly, outs-With}
use Rattle.jade_syntax.specs.declared.tree.Sum.{Sum, out-Sum, fold_out-Sum}
use Rattle.jade_syntax.specs.declared.tree.SumOp.{SumOp}
use Rattle.jade_syntax.specs.declared.tree.Unary.{Unary, fold_out-Unary}
use Rattle.jade_syntax.specs.declared.tree.UnaryOp.{UnaryOp}
use Rattle.jade_syntax.specs.declared.tree.ValueKind.{ValueKind}
use Rattle.jade_layout.specs.Spelling.{Tokens, expr_tokens, and_tokens, cell_tokens, sum_tokens}
use Rattle.jade_layout.specs.Spelling.{product_tokens, unary_tokens, atom_tokens, compare_tokens, at_atom}
use Rattle.jade_layout.specs.Spelling.{at_and, at_cell, at_compare, at_expr, at_product, at_sum, at_unary}
use Rattle.jade_layout.specs.Spelling.{bracketed, object_index as index_of, statement_tokens, block_tokens}
use Rattle.jade_layout.specs.Spelling.{at_statement, kind_word, declare_word, name_tokens, object_tokens}
use Rattle.jade_layout.specs.Spelling.{sum_sign, product_sign, unary_sign, relation_sign}

abbrev pub or_part : Pos × AndExpr → Tokens
or_part p = codes "||" ∷ and_tokens p.1

abbrev pub and_part : Pos × Compare → Tokens
and_part p = codes "&&" ∷ compare_tokens p.1

abbrev pub sum_part : SumOp × Pos × Product → Tokens
sum_part p = sum_sign p.0 ∷ product_tokens p.2

abbrev pub product_part : ProductOp × Pos × Unary → Tokens
product_part p = product_sign p.0 ∷ unary_tokens p.2

abbrev pub sign_part : UnaryOp × Pos → Tokens
sign_part p = unary_sign p.0 ∷ []

pub expr_opens : (e : Expr) → expr_tokens e ≡ and_tokens (out-Expr e).first ++ flat_map or_part (out-Expr e).rest
expr_opens e = fold_out-Expr Tokens Tokens Tokens Tokens Tokens Tokens Tokens Tokens at_atom at_and at_cell at_compare at_expr at_product at_sum at_unary e
    ∙ simp flat_map-map

pub and_opens : (e : AndExpr) → and_tokens e ≡ compare_tokens (out-AndExpr e).first ++ flat_map and_part (out-AndExpr e).rest
and_opens e = fold_out-AndExpr Tokens Tokens Tokens Tokens Tokens Tokens Tokens Tokens at_atom at_and at_cell at_compare at_expr at_product at_sum at_unary e
    ∙ simp flat_map-map

pub sum_opens : (e : Sum) → sum_tokens e ≡ product_tokens (out-Sum e).first ++ flat_map sum_part (out-Sum e).rest
sum_opens e = fold_out-Sum Tokens Tokens Tokens Tokens Tokens Tokens Tokens Tokens at_atom at_and at_cell at_compare at_expr at_product at_sum at_unary e
    ∙ simp flat_map-map

pub product_opens : (e : Product) → product_tokens e ≡ unary_tokens (out-Product e).first ++ flat_map product_part (out-Product e).rest
product_opens e = fold_out-Product Tokens Tokens Tokens Tokens Tokens Tokens Tokens Tokens at_atom at_and at_cell at_compare at_expr at_product at_sum at_unary
    e ∙ simp flat_map-map

pub unary_opens : (e : Unary) → unary_tokens e ≡ flat_map sign_part e.signs ++ atom_tokens e.atom
unary_opens e = fold_out-Unary Tokens Tokens Tokens Tokens Tokens Tokens Tokens Tokens at_atom at_and at_cell at_compare at_expr at_product at_sum at_unary e

-- the second operand of a comparison
abbrev pub second_part : Option (Relation × Pos × Sum) → Tokens
second_part None = []
second_part (Some r) = relation_sign r.0 ∷ sum_tokens r.2

abbrev compare_layer : Compare-F Atom AndExpr CellRef Compare Expr Product Sum Unary → Tokens
compare_layer f = at_compare (map-Compare Atom AndExpr CellRef Compare Expr Product Sum Unary Tokens Tokens Tokens Tokens Tokens Tokens Tokens Tokens
    atom_tokens and_tokens cell_tokens compare_tokens expr_tokens product_tokens sum_tokens unary_tokens f)

compare_layer_is : (l : Sum) (r : Option (Relation × Pos × Sum)) → compare_layer (record { left = l; right = r }) ≡ sum_tokens l ++ second_part r
compare_layer_is l None = refl
compare_layer_is l (Some r) = refl

pub compare_opens : (e : Compare) → compare_tokens e ≡ sum_tokens (out-Compare e).left ++ second_part (out-Compare e).right
compare_opens e = fold_out-Compare Tokens Tokens Tokens Tokens Tokens Tokens Tokens Tokens at_atom at_and at_cell at_compare at_expr at_product at_sum at_unary
    e ∙ compare_layer_is _ _

abbrev atom_layer : Atom-F Atom AndExpr CellRef Compare Expr Product Sum Unary → Tokens
atom_layer f = at_atom (map-Atom Atom AndExpr CellRef Compare Expr Product Sum Unary Tokens Tokens Tokens Tokens Tokens Tokens Tokens Tokens
    atom_tokens and_tokens cell_tokens compare_tokens expr_tokens product_tokens sum_tokens unary_tokens f)

pub group_opens : (p : Pos) (b : Box Expr Global) → atom_tokens (Group p b) ≡ codes "(" ∷ (expr_tokens b.value ++ codes ")" ∷ [])
group_opens p b = fold_out-Atom Tokens Tokens Tokens Tokens Tokens Tokens Tokens Tokens at_atom at_and at_cell at_compare at_expr at_product at_sum at_unary
    (Group p b) ∙ ap atom_layer (outs-Group p b)

abbrev Layer : Type 0
Layer = CellRef-F Atom AndExpr CellRef Compare Expr Product Sum Unary

abbrev layer_tokens : Layer → Tokens
layer_tokens f = at_cell (map-CellRef Atom AndExpr CellRef Compare Expr Product Sum Unary Tokens Tokens Tokens Tokens Tokens Tokens Tokens Tokens
    atom_tokens and_tokens cell_tokens compare_tokens expr_tokens product_tokens sum_tokens unary_tokens f)

layer_is : (n : List ℕ) (p : Pos) (o : Option Expr) (c : Expr) → layer_tokens (record { name = n; pos = p; family = o; cell = c }) ≡ n
    ∷ (index_of o ++ bracketed (expr_tokens c))
layer_is n p None c = refl
layer_is n p (Some e) c = refl

pub cell_opens : (e : CellRef) → cell_tokens e ≡ (out-CellRef e).name ∷ (index_of (out-CellRef e).family ++ bracketed (expr_tokens (out-CellRef e).cell))
cell_opens e = fold_out-CellRef Tokens Tokens Tokens Tokens Tokens Tokens Tokens Tokens at_atom at_and at_cell at_compare at_expr at_product at_sum at_unary e
    ∙ layer_is _ (out-CellRef e).pos _ _

abbrev pub else_block : Option (List Statement) → Tokens
else_block None = []
else_block (Some b) = codes "else" ∷ [] ++ block_tokens b

-- a statement whose parts are trees
abbrev pub opened : Statement-F Statement → Tokens
opened (Statement-F.Local kind name pos value) = kind_word kind ∷ name ∷ codes "=" ∷ [] ++ expr_tokens value ++ codes ";" ∷ []
opened (Statement-F.Assign name pos value) = name ∷ codes "=" ∷ [] ++ expr_tokens value ++ codes ";" ∷ []
opened (Statement-F.Store target value) = cell_tokens target ++ codes "=" ∷ [] ++ expr_tokens value ++ codes ";" ∷ []
opened (Statement-F.If test then otherwise) = codes "if" ∷ [] ++ expr_tokens test ++ block_tokens then ++ else_block otherwise
opened (Statement-F.For name pos low high body) =
    codes "for" ∷ name ∷ codes "in" ∷ [] ++ expr_tokens low ++ codes ".." ∷ [] ++ expr_tokens high ++ block_tokens body
opened (Statement-F.Withonly pos section names body) =
    codes "withonly" ∷ [] ++ block_tokens section ++ codes "do" ∷ [] ++ codes "(" ∷ [] ++ name_tokens names ++ codes ")" ∷ [] ++ block_tokens body
opened (Statement-F.With pos section) = codes "with" ∷ [] ++ block_tokens section ++ codes "cont" ∷ [] ++ codes ";" ∷ []
opened (Statement-F.Declare word pos object) = declare_word word ∷ codes "(" ∷ [] ++ object_tokens object ++ codes ")" ∷ [] ++ codes ";" ∷ []

pub statement_opens : (s : Statement) → statement_tokens s ≡ opened (out-Statement s)
statement_opens s = fold_out-Statement Tokens at_statement s ∙ layer_opens (out-Statement s)
  where
    layer_opens : (f : Statement-F Statement) → at_statement (map-Statement Statement Tokens statement_tokens f) ≡ opened f
    layer_opens (Statement-F.Local kind name pos value) = refl
    layer_opens (Statement-F.Assign name pos value) = refl
    layer_opens (Statement-F.Store target value) = refl
    layer_opens (Statement-F.If test then None) = simp flat_map-map
    layer_opens (Statement-F.If test then (Some b)) = simp flat_map-map
    layer_opens (Statement-F.For name pos low high body) = simp flat_map-map
    layer_opens (Statement-F.Withonly pos section names body) = simp flat_map-map
    layer_opens (Statement-F.With pos section) = simp flat_map-map
    layer_opens (Statement-F.Declare w pos object) = refl

pub local_is : (k : ValueKind) (n : List ℕ) (p : Pos) (v : Expr) → statement_tokens (Local k n p v) ≡ opened (Statement-F.Local k n p v)
local_is k n p v = statement_opens (Local k n p v) ∙ ap opened (outs-Local k n p v)

pub assign_is : (n : List ℕ) (p : Pos) (v : Expr) → statement_tokens (Assign n p v) ≡ opened (Statement-F.Assign n p v)
assign_is n p v = statement_opens (Assign n p v) ∙ ap opened (outs-Assign n p v)

pub store_is : (t : CellRef) (v : Expr) → statement_tokens (Store t v) ≡ opened (Statement-F.Store t v)
store_is t v = statement_opens (Store t v) ∙ ap opened (outs-Store t v)

pub declare_is : (w : DeclareWord) (p : Pos) (o : ObjectRef) → statement_tokens (Declare w p o) ≡ opened (Statement-F.Declare w p o)
declare_is w p o = statement_opens (Declare w p o) ∙ ap opened (outs-Declare w p o)

pub if_is : (t : Expr) (b : List Statement) (o : Option (List Statement)) → statement_tokens (If t b o) ≡ opened (Statement-F.If t b o)
if_is t b o = statement_opens (If t b o) ∙ ap opened (outs-If t b o)

pub for_is : (n : List ℕ) (p : Pos) (l h : Expr) (b : List Statement) → statement_tokens (For n p l h b) ≡ opened (Statement-F.For n p l h b)
for_is n p l h b = statement_opens (For n p l h b) ∙ ap opened (outs-For n p l h b)

pub withonly_is : (p : Pos) (s : List Statement) (ns : List Named) (b : List Statement) → statement_tokens (Withonly p s ns b)
    ≡ opened (Statement-F.Withonly p s ns b)
withonly_is p s ns b = statement_opens (Withonly p s ns b) ∙ ap opened (outs-Withonly p s ns b)

pub with_is : (p : Pos) (s : List Statement) → statement_tokens (With p s) ≡ opened (Statement-F.With p s)
with_is p s = statement_opens (With p s) ∙ ap opened (outs-With p s)

pub if_none : (t : Expr) (b : List Statement) (o : Option (List Statement)) → o ≡ None → statement_tokens (If t b o) ≡ codes "if" ∷ [] ++ expr_tokens t
    ++ block_tokens b
if_none t b o e = if_is t b o ∙ rw e (append-nil _)

pub if_some : (t : Expr) (b e : List Statement) (o : Option (List Statement)) → o ≡ Some e → statement_tokens (If t b o) ≡ codes "if" ∷ [] ++ expr_tokens t
    ++ block_tokens b ++ (codes "else" ∷ [] ++ block_tokens e)
if_some t b e o h = if_is t b o ∙ rw h refl
