-- The tokens of statements tell their numbers within their outermost expressions.
use Rattle.std.proofs.Common.{◌≡◌, ℕ, List, [], ◌∷◌, ◌++◌, Option, Some, None, refl, ap, map}
use Rattle.std.specs.List.{flat_map}
use Rattle.jade_base.specs.declared.place.Pos.{Pos}
use Rattle.jade_syntax.specs.declared.tree.Expr.{Expr}
use Rattle.jade_syntax.specs.declared.tree.CellRef.{CellRef, out-CellRef}
use Rattle.jade_syntax.specs.declared.tree.ObjectRef.{ObjectRef}
use Rattle.jade_syntax.specs.declared.tree.Named.{Named}
use Rattle.jade_syntax.specs.declared.tree.ValueKind.{ValueKind}
use Rattle.jade_syntax.specs.declared.tree.ValueKind.TheVariants.{Int, Bool as BoolKind}
use Rattle.jade_syntax.specs.declared.tree.DeclareWord.{DeclareWord}
use Rattle.jade_syntax.specs.declared.tree.DeclareWord.TheVariants.{Rd, Wr, RdWr, DfRd, DfWr, DfRdWr, Cm, NoRd, NoWr, NoRdWr}
use Rattle.jade_syntax.specs.declared.tree.Statement.{Statement, map-Statement, fold-roll-Statement, ind-Statement}
use Rattle.jade_syntax.specs.declared.tree.Statement.TheOpen.{Statement-F}
use Rattle.jade_parser.specs.declared.Sign.TheVariants.{LeftBracket, RightBracket, LeftParen, RightParen}
use Rattle.jade_parser.specs.declared.Sign.TheVariants.{LeftBrace, RightBrace, Becomes, Semicolon, Comma}
use Rattle.jade_parser.specs.declared.Sign.TheVariants.{DotDot, IfWord, ElseWord, ForWord, InWord}
use Rattle.jade_parser.specs.declared.Sign.TheVariants.{WithonlyWord, WithWord, DoWord, ContWord, MainWord}
use Rattle.jade_parser.specs.Spelled.{Parts, Fixed, Called, plain, fixed, marked, bracketed, outer, expr_parts}
use Rattle.jade_parser.specs.Statements.{kind_word, declare_word, outer_index, object_parts, target_parts}
use Rattle.jade_parser.specs.Statements.{braced, name_parts, else_parts, at_statement, statement_parts}
use Rattle.jade_parser.specs.Statements.{block_parts}
use Rattle.jade_syntax.specs.declared.tree.Item.{Item}
use Rattle.jade_syntax.specs.declared.tree.Item.TheVariants.{Input, Single, Family}
use Rattle.jade_syntax.specs.declared.tree.Program.{Program}
use Rattle.jade_parser.specs.Programs.{item_parts, program_parts}
use Rattle.jade_parser.proofs.Marking.{Standing, Before, Outside, Inside, Goes, goes_none, goes_on, goes_all, goes_outer, count_after}
use Rattle.jade_parser.proofs.Marked.{inner_expr}

expression_goes : (e : Expr) → Goes (Inside 0 0) (outer e) (Inside 0 (count_after 0 (expr_parts e)))
expression_goes e = goes_outer (inner_expr e)

-- one token, in whose place no expression goes on
ends_goes : (n : ℕ) → Goes (Inside 0 n) (fixed Semicolon ∷ []) Outside
ends_goes n = record { by = λ rest. refl }

opens_goes : (n : ℕ) → Goes (Inside 0 n) (fixed LeftBrace ∷ []) Outside
opens_goes n = record { by = λ rest. refl }

value_goes : (e : Expr) → Goes (Inside 0 0) (outer e ++ fixed Semicolon ∷ []) Outside
value_goes e = goes_on (expression_goes e) (ends_goes _)

index_goes : (e : Expr) → Goes Outside (bracketed (outer e)) Outside
index_goes e =
    let a : Goes Outside (fixed LeftBracket ∷ []) (Inside 0 0) = record { by = λ rest. refl } in
    let z : Goes (Inside 0 (count_after 0 (expr_parts e))) (fixed RightBracket ∷ []) Outside = record { by = λ rest. refl } in
    goes_on a (goes_on (expression_goes e) z)

outer_index_goes : (o : Option Expr) → Goes Outside (outer_index o) Outside
outer_index_goes None = goes_none Outside
outer_index_goes (Some e) = index_goes e

name_goes : (n : List ℕ) (p : Pos) → Goes Outside (marked (Called n) p ∷ []) Outside
name_goes n p = record { by = λ rest. refl }

names_goes : (ns : List Named) → Goes Outside (name_parts ns) Outside
names_goes [] = goes_none Outside
names_goes (n ∷ ns) = goes_on (name_goes n.name n.pos)
    (goes_all Outside (λ (n : Named). fixed Comma ∷ marked (Called n.name) n.pos ∷ []) (λ n. record { by = λ rest. refl }) ns)

target_goes : (c : CellRef) → Goes Outside (target_parts c) Outside
target_goes c = goes_on (name_goes (out-CellRef c).name (out-CellRef c).pos)
    (goes_on (outer_index_goes (out-CellRef c).family) (index_goes (out-CellRef c).cell))

object_goes : (o : ObjectRef) → Goes Outside (object_parts o) Outside
object_goes o = goes_on (name_goes o.name o.pos) (outer_index_goes o.member)

kind_goes : (k : ValueKind) (n : List ℕ) (p : Pos) → Goes Outside (plain (kind_word k) ∷ marked (Called n) p ∷ fixed Becomes ∷ []) (Inside 0 0)
kind_goes Int n p = record { by = λ rest. refl }
kind_goes BoolKind n p = record { by = λ rest. refl }

word_goes : (w : DeclareWord) (p : Pos) → Goes Outside (marked (declare_word w) p ∷ fixed LeftParen ∷ []) Outside
word_goes Rd p = record { by = λ rest. refl }
word_goes Wr p = record { by = λ rest. refl }
word_goes RdWr p = record { by = λ rest. refl }
word_goes DfRd p = record { by = λ rest. refl }
word_goes DfWr p = record { by = λ rest. refl }
word_goes DfRdWr p = record { by = λ rest. refl }
word_goes Cm p = record { by = λ rest. refl }
word_goes NoRd p = record { by = λ rest. refl }
word_goes NoWr p = record { by = λ rest. refl }
word_goes NoRdWr p = record { by = λ rest. refl }

module _ {S : Type 0} (tok : S → Parts) (each : (s : S) → Goes Outside (tok s) Outside) where
  statements_go : (xs : List S) → Goes Outside (flat_map (λ t. t) (map tok xs)) Outside
  statements_go [] = goes_none Outside
  statements_go (x ∷ xs) = goes_on (each x) (statements_go xs)

  braced_goes : (s : Standing) → Goes s (fixed LeftBrace ∷ []) Outside → (xs : List S) → Goes s (braced (map tok xs)) Outside
  braced_goes s o xs = goes_on (goes_on o (statements_go xs)) (record { by = λ rest. refl })

  block_goes : (xs : List S) → Goes Outside (braced (map tok xs)) Outside
  block_goes xs = braced_goes Outside (record { by = λ rest. refl }) xs

  headed_goes : (e : Expr) (xs : List S) → Goes (Inside 0 0) (outer e ++ braced (map tok xs)) Outside
  headed_goes e xs = goes_on (expression_goes e) (braced_goes (Inside 0 (count_after 0 (expr_parts e))) (opens_goes _) xs)

  local_goes : (k : ValueKind) (n : List ℕ) (p : Pos) (e : Expr) → Goes Outside (at_statement (Statement-F.Local k n p e)) Outside
  local_goes k n p e = goes_on (goes_on (kind_goes k n p) (expression_goes e)) (ends_goes _)

  assign_goes : (n : List ℕ) (p : Pos) (e : Expr) → Goes Outside (at_statement (Statement-F.Assign n p e)) Outside
  assign_goes n p e =
      let a : Goes Outside (marked (Called n) p ∷ fixed Becomes ∷ []) (Inside 0 0) = record { by = λ rest. refl } in
      goes_on (goes_on a (expression_goes e)) (ends_goes _)

  store_goes : (t : CellRef) (e : Expr) → Goes Outside (at_statement (Statement-F.Store t e)) Outside
  store_goes t e =
      let a : Goes Outside (fixed Becomes ∷ []) (Inside 0 0) = record { by = λ rest. refl } in
      goes_on (goes_on (goes_on (target_goes t) a) (expression_goes e)) (ends_goes _)

  if_goes : (e : Expr) (xs : List S) (o : Option (List Parts)) → Goes Outside (else_parts o) Outside
      → Goes Outside (at_statement (Statement-F.If e (map tok xs) o)) Outside
  if_goes e xs o h =
      let a : Goes Outside (fixed IfWord ∷ []) (Inside 0 0) = record { by = λ rest. refl } in
      goes_on (goes_on (goes_on a (expression_goes e)) (braced_goes (Inside 0 (count_after 0 (expr_parts e))) (opens_goes _) xs)) h

  else_goes : (xs : List S) → Goes Outside (else_parts (Some (map tok xs))) Outside
  else_goes xs =
      let a : Goes Outside (fixed ElseWord ∷ []) Outside = record { by = λ rest. refl } in
      goes_on a (block_goes xs)

  for_goes : (n : List ℕ) (p : Pos) (l h : Expr) (xs : List S) → Goes Outside (at_statement (Statement-F.For n p l h (map tok xs))) Outside
  for_goes n p l h xs =
      let a : Goes Outside (fixed ForWord ∷ marked (Called n) p ∷ fixed InWord ∷ []) (Inside 0 0) = record { by = λ rest. refl } in
      let d : Goes (Inside 0 (count_after 0 (expr_parts l))) (fixed DotDot ∷ []) (Inside 0 0) = record { by = λ rest. refl } in
      goes_on (goes_on (goes_on (goes_on a (expression_goes l)) d) (expression_goes h))
      (braced_goes (Inside 0 (count_after 0 (expr_parts h))) (opens_goes _) xs)

  withonly_goes : (p : Pos) (ss : List S) (ns : List Named) (xs : List S)
      → Goes Outside (at_statement (Statement-F.Withonly p (map tok ss) ns (map tok xs))) Outside
  withonly_goes p ss ns xs =
      let a : Goes Outside (marked (Fixed WithonlyWord) p ∷ []) Outside = record { by = λ rest. refl } in
      let b : Goes Outside (fixed DoWord ∷ []) Outside = record { by = λ rest. refl } in
      let c : Goes Outside (fixed LeftParen ∷ []) Outside = record { by = λ rest. refl } in
      let d : Goes Outside (fixed RightParen ∷ []) Outside = record { by = λ rest. refl } in
      goes_on (goes_on (goes_on (goes_on (goes_on (goes_on a (block_goes ss)) b) c) (names_goes ns)) d) (block_goes xs)

  with_goes : (p : Pos) (ss : List S) → Goes Outside (at_statement (Statement-F.With p (map tok ss))) Outside
  with_goes p ss =
      let a : Goes Outside (marked (Fixed WithWord) p ∷ []) Outside = record { by = λ rest. refl } in
      let b : Goes Outside (fixed ContWord ∷ []) Outside = record { by = λ rest. refl } in
      let c : Goes Outside (fixed Semicolon ∷ []) Outside = record { by = λ rest. refl } in
      goes_on (goes_on (goes_on a (block_goes ss)) b) c

  declare_goes : (w : DeclareWord) (p : Pos) (o : ObjectRef) → Goes Outside (at_statement (Statement-F.Declare w p o)) Outside
  declare_goes w p o =
      let b : Goes Outside (fixed RightParen ∷ []) Outside = record { by = λ rest. refl } in
      let c : Goes Outside (fixed Semicolon ∷ []) Outside = record { by = λ rest. refl } in
      goes_on (goes_on (goes_on (word_goes w p) (object_goes o)) b) c

map_map : {A B C : Type 0} (g : B → C) (f : A → B) (l : List A) → map g (map f l) ≡ map (λ x. g (f x)) l
map_map g f [] = refl
map_map g f (x ∷ xs) = ap (λ k. g (f x) ∷ k) (map_map g f xs)

module _ {S : Type 0} (val : S → Statement) (ok : (s : S) → Goes Outside (statement_parts (val s)) Outside) where
  abbrev tok : S → Parts
  tok s = statement_parts (val s)

  layer : (y : Statement-F S) → Goes Outside (at_statement (map-Statement Statement Parts statement_parts (map-Statement S Statement val y))) Outside
  layer (Statement-F.Local k n p x) = local_goes tok ok k n p x
  layer (Statement-F.Assign n p x) = assign_goes tok ok n p x
  layer (Statement-F.Store t x) = store_goes tok ok t x
  layer (Statement-F.If x then None) = simp map_map (if_goes tok ok x then None (goes_none Outside))
  layer (Statement-F.If x then (Some o)) = simp map_map (if_goes tok ok x then (Some (map tok o)) (else_goes tok ok o))
  layer (Statement-F.For n p l h b) = simp map_map (for_goes tok ok n p l h b)
  layer (Statement-F.Withonly p ss ns b) = simp map_map (withonly_goes tok ok p ss ns b)
  layer (Statement-F.With p ss) = simp map_map (with_goes tok ok p ss)
  layer (Statement-F.Declare w p o) = declare_goes tok ok w p o

pub statement_goes : (s : Statement) → Goes Outside (statement_parts s) Outside
statement_goes s = ind-Statement (λ s. Goes Outside (statement_parts s) Outside)
    (λ x y k. rw (← k) (rw (fold-roll-Statement Parts at_statement) (layer (λ z. z.0) (λ z. z.1) y))) s

pub block_marked : (ss : List Statement) → Goes Outside (block_parts ss) Outside
block_marked ss =
    let a : Goes Outside (fixed LeftBrace ∷ []) Outside = record { by = λ rest. refl } in
    let z : Goes Outside (fixed RightBrace ∷ []) Outside = record { by = λ rest. refl } in
    goes_on (goes_on a (goes_all Outside statement_parts statement_goes ss)) z

item_goes : (i : Item) → Goes Before (item_parts i) Before
item_goes (Input name pos) = record { by = λ rest. refl }
item_goes (Single name pos size) = record { by = λ rest. refl }
item_goes (Family name pos count size) = record { by = λ rest. refl }

-- the tokens of a program tell their numbers
pub program_goes : (p : Program) → Goes Before (program_parts p) Outside
program_goes p =
    let a : Goes Before (fixed MainWord ∷ []) Outside = record { by = λ rest. refl } in
    goes_on (goes_on (goes_all Before item_parts item_goes p.items) a) (block_marked p.main)
