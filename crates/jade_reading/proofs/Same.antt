-- The bytes of statements and of programs.
use Rattle.std.proofs.Common.{◌≡◌, ℕ, List, [], ◌∷◌, ◌++◌, Option, Some, None, refl, ap, ◌∙◌, map, codes}
use Rattle.std.specs.List.{flat_map}
use Rattle.jade_base.specs.declared.place.Pos.{Pos}
use Rattle.jade_syntax.specs.declared.tree.Atom.{Atom}
use Rattle.jade_syntax.specs.declared.tree.AndExpr.{AndExpr}
use Rattle.jade_syntax.specs.declared.tree.CellRef.{CellRef, out-CellRef, fold_out-CellRef, map-CellRef}
use Rattle.jade_syntax.specs.declared.tree.Compare.{Compare}
use Rattle.jade_syntax.specs.declared.tree.Expr.{Expr}
use Rattle.jade_syntax.specs.declared.tree.Product.{Product}
use Rattle.jade_syntax.specs.declared.tree.Sum.{Sum}
use Rattle.jade_syntax.specs.declared.tree.Unary.{Unary}
use Rattle.jade_syntax.specs.declared.tree.Named.{Named}
use Rattle.jade_syntax.specs.declared.tree.ObjectRef.{ObjectRef}
use Rattle.jade_syntax.specs.declared.tree.ValueKind.{ValueKind}
use Rattle.jade_syntax.specs.declared.tree.ValueKind.TheVariants.{Int, Bool as BoolKind}
use Rattle.jade_syntax.specs.declared.tree.DeclareWord.{DeclareWord}
use Rattle.jade_syntax.specs.declared.tree.DeclareWord.TheVariants.{Rd, Wr, RdWr, DfRd, DfWr, DfRdWr, Cm, NoRd, NoWr, NoRdWr}
use Rattle.jade_syntax.specs.declared.tree.Statement.{Statement, map-Statement, fold-roll-Statement, ind-Statement}
use Rattle.jade_syntax.specs.declared.tree.Statement.TheOpen.{Statement-F}
use Rattle.jade_syntax.specs.declared.tree.Item.{Item}
use Rattle.jade_syntax.specs.declared.tree.Item.TheVariants.{Input, Single, Family}
use Rattle.jade_syntax.specs.declared.tree.Program.{Program}
use Rattle.jade_parser.specs.Spelled.{Parts, outer, plain, fixed, marked, Fixed, Called, expr_parts}
use Rattle.jade_parser.specs.declared.Sign.{Sign}
use Rattle.jade_parser.specs.declared.Sign.TheVariants.{LeftBrace, RightBrace, LeftParen, RightParen}
use Rattle.jade_parser.specs.declared.Sign.TheVariants.{Semicolon, Becomes, Comma, DotDot, IfWord, ElseWord}
use Rattle.jade_parser.specs.declared.Sign.TheVariants.{ForWord, InWord, WithonlyWord, DoWord, WithWord}
use Rattle.jade_parser.specs.declared.Sign.TheVariants.{ContWord, MainWord}
use Rattle.jade_parser.specs.Kinds.{token_bytes, sign_bytes}
use Rattle.jade_parser.specs.Grammar.{bytes_of}
use Rattle.jade_parser.specs.Statements.{kind_word, declare_word, outer_index, object_parts, target_parts}
use Rattle.jade_parser.specs.Statements.{braced, more_names, name_parts, else_parts, at_statement}
use Rattle.jade_parser.specs.Statements.{statement_parts, block_parts}
use Rattle.jade_parser.specs.Programs.{item_parts, program_parts}
use Rattle.jade_parser.proofs.Cutting.{numbered_tokens}
use Rattle.jade_reading.proofs.Alike.{Alike, none, one, joined, flat, index_alike, expr_alike}
use Rattle.jade_layout.specs.Spelling as layout

abbrev Texts : Type 0
Texts = List (List ℕ)

-- a sign alone
sign : (s : Sign) → Alike (fixed s ∷ []) (sign_bytes s ∷ [])
sign s = record { is = refl }

outer_alike : (e : Expr) → Alike (outer e) (layout.expr_tokens e)
outer_alike e = record { is = ap (map token_bytes) (numbered_tokens 0 (expr_parts e)) ∙ (expr_alike e).is }

kind_is : (k : ValueKind) → token_bytes (kind_word k) ≡ layout.kind_word k
kind_is Int = refl
kind_is BoolKind = refl

declare_is : (w : DeclareWord) → token_bytes (declare_word w) ≡ layout.declare_word w
declare_is Rd = refl
declare_is Wr = refl
declare_is RdWr = refl
declare_is DfRd = refl
declare_is DfWr = refl
declare_is DfRdWr = refl
declare_is Cm = refl
declare_is NoRd = refl
declare_is NoWr = refl
declare_is NoRdWr = refl

outer_index_alike : (o : Option Expr) → Alike (outer_index o) (layout.object_index o)
outer_index_alike None = none
outer_index_alike (Some e) = index_alike (outer_alike e)

object_alike : (o : ObjectRef) → Alike (object_parts o) (layout.object_tokens o)
object_alike o = one (marked (Called o.name) o.pos) o.name refl (outer_index_alike o.member)

-- the tokens of a cell, its node opened
cell_opens : (c : CellRef) → layout.cell_tokens c ≡ (out-CellRef c).name
    ∷ (layout.object_index (out-CellRef c).family ++ layout.bracketed (layout.expr_tokens (out-CellRef c).cell))
cell_opens c = fold_out-CellRef Texts Texts Texts Texts Texts Texts Texts Texts layout.at_atom layout.at_and layout.at_cell layout.at_compare
    layout.at_expr layout.at_product layout.at_sum layout.at_unary c
    ∙ opened (out-CellRef c).name (out-CellRef c).pos (out-CellRef c).family (out-CellRef c).cell
  where
    opened : (n : List ℕ) (p : Pos) (o : Option Expr) (x : Expr)
        → layout.at_cell (map-CellRef Atom AndExpr CellRef Compare Expr Product Sum Unary Texts Texts Texts Texts Texts Texts Texts Texts
        layout.atom_tokens layout.and_tokens layout.cell_tokens layout.compare_tokens layout.expr_tokens layout.product_tokens layout.sum_tokens
        layout.unary_tokens (record { name = n; pos = p; family = o; cell = x })) ≡ n ∷ (layout.object_index o ++ layout.bracketed (layout.expr_tokens x))
    opened n p None x = refl
    opened n p (Some o) x = refl

target_alike : (c : CellRef) → Alike (target_parts c) (layout.cell_tokens c)
target_alike c = rw (cell_opens c)
    (one (marked (Called (out-CellRef c).name) (out-CellRef c).pos) (out-CellRef c).name refl
    (joined (outer_index_alike (out-CellRef c).family) (index_alike (outer_alike (out-CellRef c).cell))))

more_alike : (ns : List Named) → Alike (more_names ns) (layout.more_names ns)
more_alike ns = flat (λ (n : Named). fixed Comma ∷ marked (Called n.name) n.pos ∷ []) (λ (n : Named). codes "," ∷ n.name ∷ []) ns
    (λ n. record { is = refl })

names_alike : (ns : List Named) → Alike (name_parts ns) (layout.name_tokens ns)
names_alike [] = none
names_alike (n ∷ ns) = one (marked (Called n.name) n.pos) n.name refl (more_alike ns)

value_alike : (x : Expr) → Alike (outer x ++ fixed Semicolon ∷ []) (layout.expr_tokens x ++ codes ";" ∷ [])
value_alike x = joined (outer_alike x) (sign Semicolon)

given_alike : (x : Expr) → Alike (fixed Becomes ∷ (outer x ++ fixed Semicolon ∷ [])) (codes "=" ∷ (layout.expr_tokens x ++ codes ";" ∷ []))
given_alike x = one (fixed Becomes) (codes "=") refl (value_alike x)

abbrev omap : {A B : Type 0} → (A → B) → Option (List A) → Option (List B)
omap f None = None
omap f (Some xs) = Some (map f xs)

map-map : {A B C : Type 0} (g : B → C) (f : A → B) (l : List A) → map g (map f l) ≡ map (λ x. g (f x)) l
map-map g f [] = refl
map-map g f (x ∷ xs) = ap (λ k. g (f x) ∷ k) (map-map g f xs)

module _ {S : Type 0} (tok : S → Parts) (text : S → Texts) (same : (s : S) → Alike (tok s) (text s)) where
  all_alike : (xs : List S) → Alike (flat_map (λ t. t) (map tok xs)) (flat_map (λ t. t) (map text xs))
  all_alike [] = none
  all_alike (x ∷ xs) = joined (same x) (all_alike xs)

  block_alike : (xs : List S) → Alike (braced (map tok xs)) (layout.braced (map text xs))
  block_alike xs = one (fixed LeftBrace) (codes "{") refl (joined (all_alike xs) (sign RightBrace))

  else_alike : (o : Option (List S)) → Alike (else_parts (omap tok o)) (layout.else_tokens (omap text o))
  else_alike None = none
  else_alike (Some xs) = one (fixed ElseWord) (codes "else") refl (block_alike xs)

  if_alike : (x : Expr) (xs : List S) (o : Option (List S))
      → Alike (at_statement (Statement-F.If x (map tok xs) (omap tok o))) (layout.at_statement (Statement-F.If x (map text xs) (omap text o)))
  if_alike x xs o = one (fixed IfWord) (codes "if") refl (joined (joined (outer_alike x) (block_alike xs)) (else_alike o))

  for_alike : (n : List ℕ) (p : Pos) (l h : Expr) (xs : List S)
      → Alike (at_statement (Statement-F.For n p l h (map tok xs))) (layout.at_statement (Statement-F.For n p l h (map text xs)))
  for_alike n p l h xs = one (fixed ForWord) (codes "for") refl
      (one (marked (Called n) p) n refl
      (one (fixed InWord) (codes "in") refl (joined (joined (joined (outer_alike l) (sign DotDot)) (outer_alike h)) (block_alike xs))))

  withonly_alike : (p : Pos) (ss : List S) (ns : List Named) (xs : List S)
      → Alike (at_statement (Statement-F.Withonly p (map tok ss) ns (map tok xs)))
      (layout.at_statement (Statement-F.Withonly p (map text ss) ns (map text xs)))
  withonly_alike p ss ns xs = one (marked (Fixed WithonlyWord) p) (codes "withonly") refl
      (joined (joined (joined (joined (joined (block_alike ss) (sign DoWord)) (sign LeftParen)) (names_alike ns)) (sign RightParen)) (block_alike xs))

  with_alike : (p : Pos) (ss : List S) → Alike (at_statement (Statement-F.With p (map tok ss))) (layout.at_statement (Statement-F.With p (map text ss)))
  with_alike p ss = one (marked (Fixed WithWord) p) (codes "with") refl (joined (joined (block_alike ss) (sign ContWord)) (sign Semicolon))

module _ {S : Type 0} (val : S → Statement) (same : (s : S) → Alike (statement_parts (val s)) (layout.statement_tokens (val s))) where
  layer : (y : Statement-F S) → Alike (at_statement (map-Statement Statement Parts statement_parts (map-Statement S Statement val y)))
      (layout.at_statement (map-Statement Statement Texts layout.statement_tokens (map-Statement S Statement val y)))
  layer (Statement-F.Local k n p x) = one (plain (kind_word k)) (layout.kind_word k) (kind_is k) (one (marked (Called n) p) n refl (given_alike x))
  layer (Statement-F.Assign n p x) = one (marked (Called n) p) n refl (given_alike x)
  layer (Statement-F.Store t x) = joined (joined (joined (target_alike t) (sign Becomes)) (outer_alike x)) (sign Semicolon)
  layer (Statement-F.If x then None) =
      simp map-map (if_alike (λ (z : S). statement_parts (val z)) (λ (z : S). layout.statement_tokens (val z)) same x then None)
  layer (Statement-F.If x then (Some o)) =
      simp map-map (if_alike (λ (z : S). statement_parts (val z)) (λ (z : S). layout.statement_tokens (val z)) same x then (Some o))
  layer (Statement-F.For n p l h b) =
      simp map-map (for_alike (λ (z : S). statement_parts (val z)) (λ (z : S). layout.statement_tokens (val z)) same n p l h b)
  layer (Statement-F.Withonly p ss ns b) =
      simp map-map (withonly_alike (λ (z : S). statement_parts (val z)) (λ (z : S). layout.statement_tokens (val z)) same p ss ns b)
  layer (Statement-F.With p ss) = simp map-map (with_alike (λ (z : S). statement_parts (val z)) (λ (z : S). layout.statement_tokens (val z)) same p ss)
  layer (Statement-F.Declare w p o) =
      one (marked (declare_word w) p) (layout.declare_word w) (declare_is w)
      (one (fixed LeftParen) (codes "(") refl (joined (joined (object_alike o) (sign RightParen)) (sign Semicolon)))

pub statement_alike : (s : Statement) → Alike (statement_parts s) (layout.statement_tokens s)
statement_alike s = ind-Statement (λ s. Alike (statement_parts s) (layout.statement_tokens s))
    (λ x y k. rw (← k) (rw (fold-roll-Statement Parts at_statement, fold-roll-Statement Texts layout.at_statement) (layer (λ z. z.0) (λ z. z.1) y))) s

whole_block_alike : (b : List Statement) → Alike (block_parts b) (layout.block_tokens b)
whole_block_alike b = one (fixed LeftBrace) (codes "{") refl (joined (flat statement_parts layout.statement_tokens b statement_alike) (sign RightBrace))

item_alike : (i : Item) → Alike (item_parts i) (layout.item_tokens i)
item_alike (Input n p) = record { is = refl }
item_alike (Single n p s) = record { is = refl }
item_alike (Family n p c s) = record { is = refl }

pub program_alike : (p : Program) → bytes_of (program_parts p) ≡ layout.spelling p
program_alike p = (joined (joined (flat item_parts layout.item_tokens p.items item_alike) (sign MainWord)) (whole_block_alike p.main)).is
