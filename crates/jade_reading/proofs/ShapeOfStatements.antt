-- The extent of a statement counts its parts, and is sound where each is valid and none is past the 256th of its outermost expression.
use Rattle.std.proofs.Common.{ℕ, suc, ◌-◌, List, [], ◌∷◌, ◌++◌, Option, Some, None, refl, map, length, arith}
use Rattle.std.specs.List.{flat_map}
use Rattle.std.proofs.lemmas.Simd.{map-map}
use Rattle.jade_base.specs.declared.place.Pos.{Pos}
use Rattle.jade_syntax.specs.declared.shapes.extent.Extent.{Extent}
use Rattle.jade_syntax.specs.declared.tree.Expr.{Expr}
use Rattle.jade_syntax.specs.declared.tree.CellRef.{CellRef, out-CellRef}
use Rattle.jade_syntax.specs.declared.tree.ObjectRef.{ObjectRef}
use Rattle.jade_syntax.specs.declared.tree.Named.{Named}
use Rattle.jade_syntax.specs.declared.tree.ValueKind.{ValueKind}
use Rattle.jade_syntax.specs.declared.tree.ValueKind.TheVariants.{Int, Bool as BoolKind}
use Rattle.jade_syntax.specs.declared.tree.DeclareWord.{DeclareWord}
use Rattle.jade_syntax.specs.declared.tree.DeclareWord.TheVariants.{Rd, Wr, RdWr, DfRd, DfWr, DfRdWr, Cm, NoRd, NoWr, NoRdWr}
use Rattle.jade_syntax.specs.declared.tree.Statement.{Statement, map-Statement, fold-roll-Statement, ind-Statement}
use Rattle.jade_syntax.specs.declared.tree.Statement.TheOpen.{Statement-F}
use Rattle.jade_syntax.specs.Shapes as shapes
use Rattle.jade_syntax.specs.Shapes.{
  signs,
  name_extent,
  ◌⊕◌,
  all_of,
  in_brackets,
  outermost,
  target_extent,
  object_extent,
  names_extent,
  statement_extent,
  block_extent,
}
use Rattle.jade_parser.specs.declared.Sign.{Sign}
use Rattle.jade_parser.specs.declared.Sign.TheVariants.{LeftBracket, RightBracket, LeftParen, RightParen}
use Rattle.jade_parser.specs.declared.Sign.TheVariants.{LeftBrace, RightBrace, Becomes, Semicolon, Comma}
use Rattle.jade_parser.specs.declared.Sign.TheVariants.{DotDot, IfWord, ElseWord, ForWord, InWord}
use Rattle.jade_parser.specs.declared.Sign.TheVariants.{WithonlyWord, WithWord, DoWord, ContWord}
use Rattle.jade_parser.specs.Spelled.{Parts, Fixed, plain, fixed, marked, bracketed, outer}
use Rattle.jade_parser.specs.Statements.{kind_word, declare_word, outer_index, object_parts, target_parts}
use Rattle.jade_parser.specs.Statements.{braced, more_names, name_parts, else_parts, at_statement}
use Rattle.jade_parser.specs.Statements.{statement_parts, block_parts}
use Rattle.jade_reading.proofs.ShapeOfParts.{good, Tells, tells_none, tells_sign, tells_on, tells_brackets, tells_all, tells_same, good_name}
use Rattle.jade_reading.proofs.ShapeOfTerms.{outer_tells}

-- a sign
sign_tells : (s : Sign) → Tells good (signs 1) (fixed s ∷ [])
sign_tells s = tells_sign (fixed s) refl

-- a sign whose place the tree keeps
mark_tells : (s : Sign) (p : Pos) → Tells good (signs 1) (marked (Fixed s) p ∷ [])
mark_tells s p = tells_sign (marked (Fixed s) p) refl

kind_tells : (k : ValueKind) → Tells good (signs 1) (plain (kind_word k) ∷ [])
kind_tells Int = tells_sign (plain (kind_word Int)) refl
kind_tells BoolKind = tells_sign (plain (kind_word BoolKind)) refl

word_tells : (w : DeclareWord) (p : Pos) → Tells good (signs 1) (marked (declare_word w) p ∷ [])
word_tells Rd p = tells_sign (marked (declare_word Rd) p) refl
word_tells Wr p = tells_sign (marked (declare_word Wr) p) refl
word_tells RdWr p = tells_sign (marked (declare_word RdWr) p) refl
word_tells DfRd p = tells_sign (marked (declare_word DfRd) p) refl
word_tells DfWr p = tells_sign (marked (declare_word DfWr) p) refl
word_tells DfRdWr p = tells_sign (marked (declare_word DfRdWr) p) refl
word_tells Cm p = tells_sign (marked (declare_word Cm) p) refl
word_tells NoRd p = tells_sign (marked (declare_word NoRd) p) refl
word_tells NoWr p = tells_sign (marked (declare_word NoWr) p) refl
word_tells NoRdWr p = tells_sign (marked (declare_word NoRdWr) p) refl

index_tells : (e : Expr) → Tells good (in_brackets (outermost e)) (bracketed (outer e))
index_tells e = tells_brackets (fixed LeftBracket) (fixed RightBracket) refl refl (outer_tells e)

outer_index_tells : (o : Option Expr) → Tells good (shapes.outer_index o) (outer_index o)
outer_index_tells None = tells_none
outer_index_tells (Some e) = index_tells e

object_tells : (o : ObjectRef) → Tells good (object_extent o) (object_parts o)
object_tells o = tells_on (good_name o.name o.pos) (outer_index_tells o.member)

target_tells : (c : CellRef) → Tells good (target_extent c) (target_parts c)
target_tells c = tells_on (tells_on (good_name (out-CellRef c).name (out-CellRef c).pos) (outer_index_tells (out-CellRef c).family))
    (index_tells (out-CellRef c).cell)

-- a name, then the others
next_name : {a : Extent} {ps qs : Parts} (r : Extent) (n : ℕ) → Tells good a ps → Tells good (r ⊕ signs n) qs
    → Tells good (a ⊕ r ⊕ signs (suc n)) ((fixed Comma ∷ ps) ++ qs)
next_name {a} r n s t = tells_same (a ⊕ r ⊕ signs (suc n)) (grind arith) (omega arith) (tells_on (tells_on (sign_tells Comma) s) t)

first_name : {a : Extent} {ps qs : Parts} (r : Extent) (n : ℕ) → Tells good a ps → Tells good (r ⊕ signs n) qs
    → Tells good (a ⊕ r ⊕ signs (suc n - 1)) (ps ++ qs)
first_name {a} r n s t = tells_same (a ⊕ r ⊕ signs (suc n - 1)) (grind arith) (omega arith) (tells_on s t)

-- names, with a comma before each
more_names_tell : (ns : List Named) → Tells good (all_of (map (λ n. name_extent n.name) ns) ⊕ signs (length ns)) (more_names ns)
more_names_tell [] = tells_none
more_names_tell (n ∷ ns) = next_name (all_of (map (λ (n : Named). name_extent n.name) ns)) (length ns) (good_name n.name n.pos) (more_names_tell ns)

-- names, and commas between them
names_tell : (ns : List Named) → Tells good (names_extent ns) (name_parts ns)
names_tell [] = tells_none
names_tell (n ∷ ns) = first_name (all_of (map (λ (n : Named). name_extent n.name) ns)) (length ns) (good_name n.name n.pos) (more_names_tell ns)

-- what stands in braces
tells_braced : {e : Extent} {ps : Parts} → Tells good e ps → Tells good (in_brackets e) (fixed LeftBrace ∷ [] ++ ps ++ fixed RightBrace ∷ [])
tells_braced t = tells_brackets (fixed LeftBrace) (fixed RightBrace) refl refl t

-- each form of statement, by what it is made of: its signs are counted together
local_form : {a b : Extent} {ks ps qs : Parts} → Tells good (signs 1) ks → Tells good a ps → Tells good b qs
    → Tells good (signs 3 ⊕ a ⊕ b) (ks ++ ps ++ fixed Becomes ∷ [] ++ qs ++ fixed Semicolon ∷ [])
local_form {a} {b} k s t = tells_same (signs 3 ⊕ a ⊕ b) (grind arith) (omega arith)
    (tells_on (tells_on (tells_on (tells_on k s) (sign_tells Becomes)) t) (sign_tells Semicolon))

assign_form : {a b : Extent} {ps qs : Parts} → Tells good a ps → Tells good b qs
    → Tells good (signs 2 ⊕ a ⊕ b) (ps ++ fixed Becomes ∷ [] ++ qs ++ fixed Semicolon ∷ [])
assign_form {a} {b} s t = tells_same (signs 2 ⊕ a ⊕ b) (grind arith) (omega arith)
    (tells_on (tells_on (tells_on s (sign_tells Becomes)) t) (sign_tells Semicolon))

for_form : {a b c d : Extent} {ps qs rs ts : Parts} → Tells good a ps → Tells good b qs → Tells good c rs → Tells good d ts
    → Tells good (signs 3 ⊕ a ⊕ b ⊕ c ⊕ d) (fixed ForWord ∷ [] ++ ps ++ fixed InWord ∷ [] ++ qs ++ fixed DotDot ∷ [] ++ rs ++ ts)
for_form {a} {b} {c} {d} s t u v =
    let head = tells_on (tells_on (sign_tells ForWord) s) (sign_tells InWord) in
    tells_same (signs 3 ⊕ a ⊕ b ⊕ c ⊕ d) (grind arith) (omega arith) (tells_on (tells_on (tells_on (tells_on head t) (sign_tells DotDot)) u) v)

withonly_form : {a b c : Extent} {ps qs rs : Parts} (p : Pos) → Tells good a ps → Tells good b qs → Tells good c rs
    → Tells good (signs 2 ⊕ a ⊕ in_brackets b ⊕ c)
    (marked (Fixed WithonlyWord) p ∷ [] ++ ps ++ fixed DoWord ∷ [] ++ fixed LeftParen ∷ [] ++ qs ++ fixed RightParen ∷ [] ++ rs)
withonly_form {a} {b} {c} p s t u =
    let head = tells_on (tells_on (tells_on (mark_tells WithonlyWord p) s) (sign_tells DoWord)) (sign_tells LeftParen) in
    tells_same (signs 2 ⊕ a ⊕ in_brackets b ⊕ c) (grind arith) (omega arith) (tells_on (tells_on (tells_on head t) (sign_tells RightParen)) u)

with_form : {a : Extent} {ps : Parts} (p : Pos) → Tells good a ps
    → Tells good (signs 3 ⊕ a) (marked (Fixed WithWord) p ∷ [] ++ ps ++ fixed ContWord ∷ [] ++ fixed Semicolon ∷ [])
with_form {a} p s = tells_same (signs 3 ⊕ a) (grind arith) (omega arith)
    (tells_on (tells_on (tells_on (mark_tells WithWord p) s) (sign_tells ContWord)) (sign_tells Semicolon))

declare_form : {a : Extent} {ks ps : Parts} → Tells good (signs 1) ks → Tells good a ps
    → Tells good (signs 2 ⊕ in_brackets a) (ks ++ fixed LeftParen ∷ [] ++ ps ++ fixed RightParen ∷ [] ++ fixed Semicolon ∷ [])
declare_form {a} k s = tells_same (signs 2 ⊕ in_brackets a) (grind arith) (omega arith)
    (tells_on (tells_on (tells_on (tells_on k (sign_tells LeftParen)) s) (sign_tells RightParen)) (sign_tells Semicolon))

module _ {S : Type 0} (ext : S → Extent) (tok : S → Parts) (each : (s : S) → Tells good (ext s) (tok s)) where
  statements_tell : (xs : List S) → Tells good (all_of (map ext xs)) (flat_map (λ t. t) (map tok xs))
  statements_tell [] = tells_none
  statements_tell (x ∷ xs) = tells_on (each x) (statements_tell xs)

  braced_tells : (xs : List S) → Tells good (shapes.braced (map ext xs)) (braced (map tok xs))
  braced_tells xs = tells_braced (statements_tell xs)

  local_tells : (k : ValueKind) (n : List ℕ) (p : Pos) (e : Expr)
      → Tells good (shapes.at_statement (Statement-F.Local k n p e)) (at_statement (Statement-F.Local k n p e))
  local_tells k n p e = local_form (kind_tells k) (good_name n p) (outer_tells e)

  assign_tells : (n : List ℕ) (p : Pos) (e : Expr) → Tells good (shapes.at_statement (Statement-F.Assign n p e)) (at_statement (Statement-F.Assign n p e))
  assign_tells n p e = assign_form (good_name n p) (outer_tells e)

  store_tells : (t : CellRef) (e : Expr) → Tells good (shapes.at_statement (Statement-F.Store t e)) (at_statement (Statement-F.Store t e))
  store_tells t e = assign_form (target_tells t) (outer_tells e)

  else_tells : (xs : List S) → Tells good (shapes.other_extent (Some (map ext xs))) (else_parts (Some (map tok xs)))
  else_tells xs = tells_on (sign_tells ElseWord) (braced_tells xs)

  if_tells : (e : Expr) (xs : List S) (o : Option (List Extent)) (u : Option (List Parts)) → Tells good (shapes.other_extent o) (else_parts u)
      → Tells good (shapes.at_statement (Statement-F.If e (map ext xs) o)) (at_statement (Statement-F.If e (map tok xs) u))
  if_tells e xs o u h = tells_on (tells_on (tells_on (sign_tells IfWord) (outer_tells e)) (braced_tells xs)) h

  for_tells : (n : List ℕ) (p : Pos) (l h : Expr) (xs : List S)
      → Tells good (shapes.at_statement (Statement-F.For n p l h (map ext xs))) (at_statement (Statement-F.For n p l h (map tok xs)))
  for_tells n p l h xs = for_form (good_name n p) (outer_tells l) (outer_tells h) (braced_tells xs)

  withonly_tells : (p : Pos) (ss : List S) (ns : List Named) (xs : List S)
      → Tells good (shapes.at_statement (Statement-F.Withonly p (map ext ss) ns (map ext xs)))
      (at_statement (Statement-F.Withonly p (map tok ss) ns (map tok xs)))
  withonly_tells p ss ns xs = withonly_form p (braced_tells ss) (names_tell ns) (braced_tells xs)

  with_tells : (p : Pos) (ss : List S)
      → Tells good (shapes.at_statement (Statement-F.With p (map ext ss))) (at_statement (Statement-F.With p (map tok ss)))
  with_tells p ss = with_form p (braced_tells ss)

  declare_tells : (w : DeclareWord) (p : Pos) (o : ObjectRef)
      → Tells good (shapes.at_statement (Statement-F.Declare w p o)) (at_statement (Statement-F.Declare w p o))
  declare_tells w p o = declare_form (word_tells w p) (object_tells o)

module _ {S : Type 0} (val : S → Statement) (ok : (s : S) → Tells good (statement_extent (val s)) (statement_parts (val s))) where
  abbrev ext : S → Extent
  ext s = statement_extent (val s)

  abbrev tok : S → Parts
  tok s = statement_parts (val s)

  layer : (y : Statement-F S) → Tells good (shapes.at_statement (map-Statement Statement Extent statement_extent (map-Statement S Statement val y)))
      (at_statement (map-Statement Statement Parts statement_parts (map-Statement S Statement val y)))
  layer (Statement-F.Local k n p x) = local_tells ext tok ok k n p x
  layer (Statement-F.Assign n p x) = assign_tells ext tok ok n p x
  layer (Statement-F.Store t x) = store_tells ext tok ok t x
  layer (Statement-F.If x then None) = simp map-map (if_tells ext tok ok x then None None tells_none)
  layer (Statement-F.If x then (Some o)) = simp map-map (if_tells ext tok ok x then (Some (map ext o)) (Some (map tok o)) (else_tells ext tok ok o))
  layer (Statement-F.For n p l h b) = simp map-map (for_tells ext tok ok n p l h b)
  layer (Statement-F.Withonly p ss ns b) = simp map-map (withonly_tells ext tok ok p ss ns b)
  layer (Statement-F.With p ss) = simp map-map (with_tells ext tok ok p ss)
  layer (Statement-F.Declare w p o) = declare_tells ext tok ok w p o

pub statement_tells : (s : Statement) → Tells good (statement_extent s) (statement_parts s)
statement_tells s = ind-Statement (λ s. Tells good (statement_extent s) (statement_parts s))
    (λ x y k. rw (← k) (rw (fold-roll-Statement Extent shapes.at_statement, fold-roll-Statement Parts at_statement) (layer (λ z. z.0) (λ z. z.1) y))) s

pub block_tells : (b : List Statement) → Tells good (block_extent b) (block_parts b)
block_tells b = tells_braced (tells_all statement_extent statement_parts statement_tells b)
