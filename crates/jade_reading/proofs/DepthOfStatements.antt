-- The brackets of a program nest among its tokens as deep as its extent says.
use Rattle.std.proofs.Common.{List, [], ◌∷◌, ◌++◌, map, length, ◌-◌, Option, Some, None, codes, refl, sym, ap, subst, ◌∙◌, ◌≡◌, append_assoc}
use Rattle.std.proofs.Math.Dec.{leb}
use Rattle.std.specs.List.{flat_map}
use Rattle.std.proofs.lemmas.Bool.{and_parts}
use Rattle.jade_syntax.specs.declared.shapes.extent.Extent.{Extent}
use Rattle.jade_syntax.specs.declared.tree.ValueKind.{ValueKind}
use Rattle.jade_syntax.specs.declared.tree.ValueKind.TheVariants.{Int, Bool as BoolWord}
use Rattle.jade_syntax.specs.declared.tree.DeclareWord.{DeclareWord}
use Rattle.jade_syntax.specs.declared.tree.DeclareWord.TheVariants.{Rd, Wr, RdWr, DfRd, DfWr, DfRdWr, Cm, NoRd, NoWr, NoRdWr}
use Rattle.jade_syntax.specs.declared.tree.Expr.{Expr}
use Rattle.jade_syntax.specs.declared.tree.CellRef.{CellRef, out-CellRef}
use Rattle.jade_syntax.specs.declared.tree.ObjectRef.{ObjectRef}
use Rattle.jade_syntax.specs.declared.tree.Named.{Named}
use Rattle.jade_syntax.specs.declared.tree.Item.{Item}
use Rattle.jade_syntax.specs.declared.tree.Item.TheVariants.{Input, Single, Family}
use Rattle.jade_syntax.specs.declared.tree.Statement.{Statement, map-Statement, fold-roll-Statement, ind-Statement}
use Rattle.jade_syntax.specs.declared.tree.Statement.TheOpen.{Statement-F}
use Rattle.jade_syntax.specs.declared.tree.Program.{Program}
use Rattle.jade_syntax.specs.Shapes.{expr_extent, ◌⊕◌, all_of, in_brackets, name_extent, limited, outermost}
use Rattle.jade_syntax.specs.Shapes.{outer_index, target_extent, object_extent, names_extent}
use Rattle.jade_syntax.specs.Shapes.{braced as braced_extent, at_statement as e_statement, statement_extent}
use Rattle.jade_syntax.specs.Shapes.{item_extent, program_extent}
use Rattle.jade_layout.specs.Spelling.{Tokens, kind_word, declare_word, expr_tokens, cell_tokens}
use Rattle.jade_layout.specs.Spelling.{object_index, object_tokens, braced, name_tokens, at_statement}
use Rattle.jade_layout.specs.Spelling.{statement_tokens, item_tokens, spelling}
use Rattle.jade_layout.proofs.Opened.{cell_opens}
use Rattle.jade_reading.proofs.DepthOfTokens.{join, sign, curly}
use Rattle.jade_reading.proofs.DepthOfParts.{Nested, nested_join, nested_nothing, nested_regroup, nested_all}
use Rattle.jade_reading.proofs.DepthOfParts.{IsSign, nested_sign, nested_mark, nested_lead, nested_trail}
use Rattle.jade_reading.proofs.DepthOfParts.{nested_number, nested_name, nested_group, nested_bracketed}
use Rattle.jade_reading.proofs.DepthOfParts.{nested_chain, nested_signs, nested_truth, nested_single}
use Rattle.jade_reading.proofs.DepthOfParts.{nested_member, nested_alone, nested_pair, sum_is_sign}
use Rattle.jade_reading.proofs.DepthOfParts.{product_is_sign}
use Rattle.jade_layout.proofs.Trees.{expr_holds}

nested_limited : {x : Extent} {ts : Tokens} → Nested x ts → Nested (limited x) ts
nested_limited {x} f = record { by = λ h. f.by (and_parts x.sound (leb x.tokens 256) h).0 }

-- the brackets of an expression nest as deep as its extent says
expr_nested : (e : Expr) → Nested (expr_extent e) (expr_tokens e)
expr_nested =
    expr_holds Nested IsSign (λ depth. refl) (λ depth. refl) sum_is_sign product_is_sign (λ P x first. nested_chain) (λ x ts. nested_signs) nested_number
    nested_name nested_truth (λ x ts. nested_group)
    (λ x ts. nested_single) (λ x y a b. nested_member) (λ x ts. nested_alone) (λ x y a b. nested_pair)

outer_nested : (e : Expr) → Nested (outermost e) (expr_tokens e)
outer_nested e = nested_limited (expr_nested e)

index_nested : (o : Option Expr) → Nested (outer_index o) (object_index o)
index_nested None = nested_nothing
index_nested (Some e) = nested_bracketed (outer_nested e)

target_nested : (c : CellRef) → Nested (target_extent c) (cell_tokens c)
target_nested c =
    subst (λ ts. Nested (target_extent c) ts) (sym (cell_opens c))
    (nested_regroup (name_extent (out-CellRef c).name) (outer_index (out-CellRef c).family) (in_brackets (outermost (out-CellRef c).cell)) _
    (nested_join (nested_name (out-CellRef c).name)
    (nested_join (index_nested (out-CellRef c).family) (nested_bracketed (outer_nested (out-CellRef c).cell)))))

object_nested : (o : ObjectRef) → Nested (object_extent o) (object_tokens o)
object_nested o = nested_join (nested_name o.name) (index_nested o.member)

-- names with commas between them
names_nested : (ns : List Named) → Nested (names_extent ns) (name_tokens ns)
names_nested [] = nested_trail 0 nested_nothing
names_nested (n ∷ ns) = nested_trail (length (n ∷ ns) - 1)
    (nested_join (nested_name n.name) (nested_all (λ m. name_extent m.name) (λ m. codes "," ∷ m.name ∷ []) ns named))
  where
    named : (m : Named) → Nested (name_extent m.name) (codes "," ∷ m.name ∷ [])
    named m = record { by = λ h. join (sign (codes ",") (λ depth. refl)) ((nested_name m.name).by h) }

-- something in parentheses after a part
nested_round : {x y : Extent} {a b : Tokens} → Nested x a → Nested y b → Nested (x ⊕ in_brackets y) (a ++ codes "(" ∷ [] ++ b ++ codes ")" ∷ [])
nested_round {x} {y} {a} {b} f g =
    let same : a ++ (codes "(" ∷ (b ++ codes ")" ∷ [])) ≡ a ++ codes "(" ∷ [] ++ b ++ codes ")" ∷ [] =
    sym (ap (λ ts. ts ++ codes ")" ∷ []) (append_assoc a (codes "(" ∷ []) b) ∙ append_assoc a (codes "(" ∷ b) (codes ")" ∷ [])) in
    subst (λ ts. Nested (x ⊕ in_brackets y) ts) same (nested_join f (nested_group g))

-- statements in braces
nested_curly : {y : Extent} {b : Tokens} → Nested y b → Nested (in_brackets y) (codes "{" ∷ (b ++ codes "}" ∷ []))
nested_curly g = record { by = λ h. curly (g.by h) }

kind_is_sign : (k : ValueKind) → IsSign (kind_word k)
kind_is_sign Int = λ depth. refl
kind_is_sign BoolWord = λ depth. refl

word_is_sign : (w : DeclareWord) → IsSign (declare_word w)
word_is_sign Rd = λ depth. refl
word_is_sign Wr = λ depth. refl
word_is_sign RdWr = λ depth. refl
word_is_sign DfRd = λ depth. refl
word_is_sign DfWr = λ depth. refl
word_is_sign DfRdWr = λ depth. refl
word_is_sign Cm = λ depth. refl
word_is_sign NoRd = λ depth. refl
word_is_sign NoWr = λ depth. refl
word_is_sign NoRdWr = λ depth. refl

module _ {S : Type 0} (s : S → Statement) (each : (x : S) → Nested (statement_extent (s x)) (statement_tokens (s x))) where
  block_at : (xs : List S) → Nested (all_of (map statement_extent (map s xs))) (flat_map (λ t. t) (map statement_tokens (map s xs)))
  block_at [] = nested_nothing
  block_at (x ∷ xs) = nested_join (each x) (block_at xs)

  braced_at : (xs : List S) → Nested (braced_extent (map statement_extent (map s xs))) (braced (map statement_tokens (map s xs)))
  braced_at xs = nested_curly (block_at xs)

  layer : (y : Statement-F S) → Nested (e_statement (map-Statement Statement Extent statement_extent (map-Statement S Statement s y)))
      (at_statement (map-Statement Statement Tokens statement_tokens (map-Statement S Statement s y)))
  layer (Statement-F.Local kind n p value) =
      nested_mark (codes ";") (λ depth. refl)
      (nested_join (nested_mark (codes "=") (λ depth. refl) (nested_join (nested_sign 3 (kind_word kind) (kind_is_sign kind)) (nested_name n)))
      (outer_nested value))
  layer (Statement-F.Assign n p value) =
      nested_mark (codes ";") (λ depth. refl) (nested_join (nested_mark (codes "=") (λ depth. refl) (nested_lead 2 (nested_name n))) (outer_nested value))
  layer (Statement-F.Store target value) =
      nested_mark (codes ";") (λ depth. refl)
      (nested_join (nested_mark (codes "=") (λ depth. refl) (nested_lead 2 (target_nested target))) (outer_nested value))
  layer (Statement-F.If test first None) =
      nested_join (nested_join (nested_join (nested_sign 1 (codes "if") (λ depth. refl)) (outer_nested test)) (braced_at first)) nested_nothing
  layer (Statement-F.If test first (Some other)) =
      nested_join (nested_join (nested_join (nested_sign 1 (codes "if") (λ depth. refl)) (outer_nested test)) (braced_at first))
      (nested_join (nested_sign 1 (codes "else") (λ depth. refl)) (braced_at other))
  layer (Statement-F.For n p low high body) =
      nested_join (nested_join (nested_mark (codes "..") (λ depth. refl)
      (nested_join (nested_mark (codes "in") (λ depth. refl) (nested_join (nested_sign 3 (codes "for") (λ depth. refl)) (nested_name n)))
      (outer_nested low))) (outer_nested high)) (braced_at body)
  layer (Statement-F.Withonly p section names body) =
      nested_join (nested_round (nested_mark (codes "do") (λ depth. refl)
      (nested_join (nested_sign 2 (codes "withonly") (λ depth. refl)) (braced_at section))) (names_nested names)) (braced_at body)
  layer (Statement-F.With p section) =
      nested_mark (codes ";") (λ depth. refl)
      (nested_mark (codes "cont") (λ depth. refl) (nested_join (nested_sign 3 (codes "with") (λ depth. refl)) (braced_at section)))
  layer (Statement-F.Declare w p object) =
      nested_mark (codes ";") (λ depth. refl) (nested_round (nested_sign 2 (declare_word w) (word_is_sign w)) (object_nested object))

statement_nested : (s : Statement) → Nested (statement_extent s) (statement_tokens s)
statement_nested s = ind-Statement (λ s. Nested (statement_extent s) (statement_tokens s))
    (λ x y k. rw (← k) (rw (fold-roll-Statement Extent e_statement, fold-roll-Statement Tokens at_statement) (layer (λ z. z.0) (λ z. z.1) y))) s

item_nested : (i : Item) → Nested (item_extent i) (item_tokens i)
item_nested (Input n p) = nested_mark (codes ";") (λ depth. refl) (nested_join (nested_sign 2 (codes "input") (λ depth. refl)) (nested_name n))
item_nested (Single n p size) =
    nested_mark (codes ";") (λ depth. refl)
    (nested_join (nested_mark (codes ":") (λ depth. refl) (nested_join (nested_sign 3 (codes "object") (λ depth. refl)) (nested_name n)))
    (nested_number size))
item_nested (Family n p count size) =
    nested_mark (codes ";") (λ depth. refl)
    (nested_join (nested_mark (codes ":") (λ depth. refl)
    (nested_join (nested_join (nested_sign 3 (codes "objects") (λ depth. refl)) (nested_name n)) (nested_bracketed (nested_number count))))
    (nested_number size))

pub program_nested : (p : Program) → Nested (program_extent p.items p.main) (spelling p)
program_nested p =
    nested_join (nested_join (nested_all item_extent item_tokens p.items item_nested) (nested_sign 1 (codes "main") (λ depth. refl)))
    (nested_curly (nested_all statement_extent statement_tokens p.main statement_nested))
