-- The tokens of a shaped program are readable.
use Rattle.std.proofs.Common.{◌≡◌, ℕ, max, true, false, ◌&&◌, List, [], ◌∷◌, ◌++◌, map, Option, Some, None}
use Rattle.std.proofs.Common.{codes, refl, sym, ap, subst, ◌∙◌, arith, append_assoc, append-nil}
use Rattle.std.proofs.Math.Dec.{leb}
use Rattle.std.specs.List.{flat_map, list_all}
use Rattle.std.proofs.lemmas.Bool.{and_parts, leb-true}
use Rattle.jade_syntax.specs.declared.shapes.extent.Extent.{Extent}
use Rattle.jade_syntax.specs.declared.shapes.place.BlockKind.TheVariants.{Main}
use Rattle.jade_syntax.specs.declared.tree.ValueKind.{ValueKind}
use Rattle.jade_syntax.specs.declared.tree.ValueKind.TheVariants.{Int, Bool as BoolWord}
use Rattle.jade_syntax.specs.declared.tree.DeclareWord.{DeclareWord}
use Rattle.jade_syntax.specs.declared.tree.DeclareWord.TheVariants.{Rd, Wr, RdWr, DfRd, DfWr, DfRdWr, Cm, NoRd, NoWr, NoRdWr}
use Rattle.jade_syntax.specs.declared.tree.Expr.{Expr}
use Rattle.jade_syntax.specs.declared.tree.CellRef.{CellRef, out-CellRef}
use Rattle.jade_syntax.specs.declared.tree.ObjectRef.{ObjectRef}
use Rattle.jade_syntax.specs.declared.tree.Named.{Named}
use Rattle.jade_syntax.specs.declared.tree.Item.{Item}
use Rattle.jade_syntax.specs.declared.tree.Item.TheVariants.{Input, Single, Family}
use Rattle.jade_syntax.specs.declared.tree.Statement.{Statement, map-Statement, fold-roll-Statement, ind-Statement}
use Rattle.jade_syntax.specs.declared.tree.Statement.TheOpen.{Statement-F}
use Rattle.jade_syntax.specs.declared.tree.Program.{Program}
use Rattle.jade_syntax.specs.Names.{is_name}
use Rattle.jade_syntax.specs.Shapes.{expr_extent, ◌⊕◌, signs, all_of, in_brackets, name_extent, limited}
use Rattle.jade_syntax.specs.Shapes.{outermost, outer_index, target_extent, object_extent, names_extent}
use Rattle.jade_syntax.specs.Shapes.{braced as braced_extent, at_statement as e_statement, statement_extent}
use Rattle.jade_syntax.specs.Shapes.{item_extent, program_extent, is_placed, is_within, is_shaped}
use Rattle.jade_layout.specs.Spelling.{Token, Tokens, kind_word, declare_word, expr_tokens, cell_tokens}
use Rattle.jade_layout.specs.Spelling.{object_index, object_tokens, braced, more_names, name_tokens}
use Rattle.jade_layout.specs.Spelling.{at_statement, statement_tokens, item_tokens, spelling}
use Rattle.jade_layout.specs.Readable.{is_readable}
use Rattle.jade_layout.proofs.Opened.{cell_opens}
use Rattle.jade_layout.proofs.Goes.{GoesOn, on, wider, nothing, join, join_on, plain, is_plain, mark, round, curly, name_plain}
use Rattle.jade_layout.proofs.Fine.{Fine, FineOn, fine_on, fine_join, fine_join_on, fine_nothing}
use Rattle.jade_layout.proofs.Fine.{fine_regroup, fine_all, IsMark, fine_number, fine_name, fine_bracketed}
use Rattle.jade_layout.proofs.Fine.{fine_chain, fine_signs, fine_truth, fine_group, fine_single, fine_member}
use Rattle.jade_layout.proofs.Fine.{fine_alone, fine_pair, sum_mark, product_mark}
use Rattle.jade_layout.proofs.Trees.{expr_holds}

-- a word, before so many signs that are counted with it
fine_words : (k : ℕ) (t : Token) → is_plain t ≡ true → Fine (signs k) (t ∷ [])
fine_words k t is = record { by = λ h. plain 0 t is }

-- a sign after a part
fine_mark : {x : Extent} {ts : Tokens} (t : Token) → IsMark t → Fine x ts → Fine x (ts ++ t ∷ [])
fine_mark {x} t is f = record { by = λ h. join (f.by h) (mark x.depth t is) }

-- signs that are counted first
fine_lead : {x : Extent} {ts : Tokens} (k : ℕ) → Fine x ts → Fine (signs k ⊕ x) ts
fine_lead {x} k f = record { by = λ h. wider (max 0 x.depth) (omega arith) (f.by h) }

fine_limited : {x : Extent} {ts : Tokens} → Fine x ts → Fine (limited x) ts
fine_limited {x} f = record { by = λ h. f.by (and_parts x.sound (leb x.tokens 256) h).0 }

-- the tokens of an expression go on being readable
expr_fine : (e : Expr) → Fine (expr_extent e) (expr_tokens e)
expr_fine =
    expr_holds Fine IsMark (λ depth rest. refl) (λ depth rest. refl) sum_mark product_mark (λ P x first. fine_chain) (λ x ts. fine_signs) fine_number fine_name
    fine_truth (λ x ts. fine_group)
    (λ x ts. fine_single) (λ x y a b. fine_member) (λ x ts. fine_alone) (λ x y a b. fine_pair)

outer_fine : (e : Expr) → Fine (outermost e) (expr_tokens e)
outer_fine e = fine_limited (expr_fine e)

index_fine : (o : Option Expr) → FineOn (outer_index o) (object_index o)
index_fine None = fine_nothing
index_fine (Some e) = fine_on (fine_bracketed (outer_fine e))

target_fine : (c : CellRef) → Fine (target_extent c) (cell_tokens c)
target_fine c =
    subst (λ ts. Fine (target_extent c) ts) (sym (cell_opens c))
    (fine_regroup (name_extent (out-CellRef c).name) (outer_index (out-CellRef c).family) (in_brackets (outermost (out-CellRef c).cell)) _
    (fine_join (fine_name (out-CellRef c).name)
    (fine_join_on (index_fine (out-CellRef c).family) (fine_on (fine_bracketed (outer_fine (out-CellRef c).cell))))))

object_fine : (o : ObjectRef) → Fine (object_extent o) (object_tokens o)
object_fine o = fine_join (fine_name o.name) (index_fine o.member)

comma : IsMark (codes ",")
comma = λ depth rest. refl

-- names with commas between them
more_go : (room : ℕ) (ns : List Named) → (all_of (map (λ n. name_extent n.name) ns)).sound ≡ true → GoesOn room (more_names ns)
more_go room [] h = nothing room
more_go room (n ∷ ns) h =
    let p = and_parts (is_name n.name) (all_of (map (λ m. name_extent m.name) ns)).sound h in
    join_on (join_on (mark room (codes ",") comma) (on (plain room n.name (name_plain n.name p.0)))) (more_go room ns p.1)

names_go : (room : ℕ) (ns : List Named) → (all_of (map (λ n. name_extent n.name) ns)).sound ≡ true → GoesOn room (name_tokens ns)
names_go room [] h = nothing room
names_go room (n ∷ ns) h =
    let p = and_parts (is_name n.name) (all_of (map (λ m. name_extent m.name) ns)).sound h in
    join_on (on (plain room n.name (name_plain n.name p.0))) (more_go room ns p.1)

names_fine : (ns : List Named) → FineOn (names_extent ns) (name_tokens ns)
names_fine ns = record { by = λ h. names_go (names_extent ns).depth ns (and_parts (all_of (map (λ n. name_extent n.name) ns)).sound true h).0 }

-- something in parentheses after a part
fine_round : {x y : Extent} {a b : Tokens} → Fine x a → FineOn y b → Fine (x ⊕ in_brackets y) (a ++ codes "(" ∷ [] ++ b ++ codes ")" ∷ [])
fine_round {x} {y} {a} {b} f g =
    let inner : Fine (in_brackets y) (codes "(" ∷ (b ++ codes ")" ∷ [])) = record { by = λ h. round y.depth b (g.by h) } in
    let same : a ++ (codes "(" ∷ (b ++ codes ")" ∷ [])) ≡ a ++ codes "(" ∷ [] ++ b ++ codes ")" ∷ [] =
    sym (ap (λ ts. ts ++ codes ")" ∷ []) (append_assoc a (codes "(" ∷ []) b) ∙ append_assoc a (codes "(" ∷ b) (codes ")" ∷ [])) in
    subst (λ ts. Fine (x ⊕ in_brackets y) ts) same (fine_join f (fine_on inner))

-- statements in braces
fine_curly : {y : Extent} {b : Tokens} → FineOn y b → Fine (in_brackets y) (codes "{" ∷ (b ++ codes "}" ∷ []))
fine_curly {y} {b} g = record { by = λ h. curly y.depth b (g.by h) }

kind_plain : (k : ValueKind) → is_plain (kind_word k) ≡ true
kind_plain Int = refl
kind_plain BoolWord = refl

word_plain : (w : DeclareWord) → is_plain (declare_word w) ≡ true
word_plain Rd = refl
word_plain Wr = refl
word_plain RdWr = refl
word_plain DfRd = refl
word_plain DfWr = refl
word_plain DfRdWr = refl
word_plain Cm = refl
word_plain NoRd = refl
word_plain NoWr = refl
word_plain NoRdWr = refl

module _ {S : Type 0} (s : S → Statement) (each : (x : S) → Fine (statement_extent (s x)) (statement_tokens (s x))) where
  block_at : (xs : List S) → FineOn (all_of (map statement_extent (map s xs))) (flat_map (λ t. t) (map statement_tokens (map s xs)))
  block_at [] = fine_nothing
  block_at (x ∷ xs) = fine_join_on (fine_on (each x)) (block_at xs)

  braced_at : (xs : List S) → FineOn (braced_extent (map statement_extent (map s xs))) (braced (map statement_tokens (map s xs)))
  braced_at xs = fine_on (fine_curly (block_at xs))

  layer : (y : Statement-F S) → Fine (e_statement (map-Statement Statement Extent statement_extent (map-Statement S Statement s y)))
      (at_statement (map-Statement Statement Tokens statement_tokens (map-Statement S Statement s y)))
  layer (Statement-F.Local kind n p value) =
      fine_mark (codes ";") (λ depth rest. refl)
      (fine_join (fine_mark (codes "=") (λ depth rest. refl) (fine_join (fine_words 3 (kind_word kind) (kind_plain kind)) (fine_on (fine_name n))))
      (fine_on (outer_fine value)))
  layer (Statement-F.Assign n p value) =
      fine_mark (codes ";") (λ depth rest. refl)
      (fine_join (fine_mark (codes "=") (λ depth rest. refl) (fine_lead 2 (fine_name n))) (fine_on (outer_fine value)))
  layer (Statement-F.Store target value) =
      fine_mark (codes ";") (λ depth rest. refl)
      (fine_join (fine_mark (codes "=") (λ depth rest. refl) (fine_lead 2 (target_fine target))) (fine_on (outer_fine value)))
  layer (Statement-F.If test first None) =
      fine_join (fine_join (fine_join (fine_words 1 (codes "if") refl) (fine_on (outer_fine test))) (braced_at first)) fine_nothing
  layer (Statement-F.If test first (Some other)) =
      fine_join (fine_join (fine_join (fine_words 1 (codes "if") refl) (fine_on (outer_fine test))) (braced_at first))
      (fine_join_on (fine_on (fine_words 1 (codes "else") refl)) (braced_at other))
  layer (Statement-F.For n p low high body) =
      fine_join (fine_join (fine_mark (codes "..") (λ depth rest. refl)
      (fine_join (fine_mark (codes "in") (λ depth rest. refl) (fine_join (fine_words 3 (codes "for") refl) (fine_on (fine_name n))))
      (fine_on (outer_fine low)))) (fine_on (outer_fine high))) (braced_at body)
  layer (Statement-F.Withonly p section names body) =
      fine_join (fine_round (fine_mark (codes "do") (λ depth rest. refl) (fine_join (fine_words 2 (codes "withonly") refl) (braced_at section)))
      (names_fine names)) (braced_at body)
  layer (Statement-F.With p section) =
      fine_mark (codes ";") (λ depth rest. refl)
      (fine_mark (codes "cont") (λ depth rest. refl) (fine_join (fine_words 3 (codes "with") refl) (braced_at section)))
  layer (Statement-F.Declare w p object) =
      fine_mark (codes ";") (λ depth rest. refl) (fine_round (fine_words 2 (declare_word w) (word_plain w)) (fine_on (object_fine object)))

pub statement_fine : (s : Statement) → Fine (statement_extent s) (statement_tokens s)
statement_fine s = ind-Statement (λ s. Fine (statement_extent s) (statement_tokens s))
    (λ x y k. rw (← k) (rw (fold-roll-Statement Extent e_statement, fold-roll-Statement Tokens at_statement) (layer (λ z. z.0) (λ z. z.1) y))) s

item_fine : (i : Item) → Fine (item_extent i) (item_tokens i)
item_fine (Input n p) = fine_mark (codes ";") (λ depth rest. refl) (fine_join (fine_words 2 (codes "input") refl) (fine_on (fine_name n)))
item_fine (Single n p size) = fine_mark (codes ";") (λ depth rest. refl)
    (fine_join (fine_mark (codes ":") (λ depth rest. refl) (fine_join (fine_words 3 (codes "object") refl) (fine_on (fine_name n))))
    (fine_on (fine_number size)))
item_fine (Family n p count size) =
    fine_mark (codes ";") (λ depth rest. refl)
    (fine_join (fine_mark (codes ":") (λ depth rest. refl)
    (fine_join (fine_join (fine_words 3 (codes "objects") refl) (fine_on (fine_name n))) (fine_on (fine_bracketed (fine_number count)))))
    (fine_on (fine_number size)))

program_fine : (p : Program) → FineOn (program_extent p.items p.main) (spelling p)
program_fine p =
    fine_join_on (fine_join_on (fine_all item_extent item_tokens p.items (λ i. fine_on (item_fine i))) (fine_on (fine_words 1 (codes "main") refl)))
    (fine_on (fine_curly (fine_all statement_extent statement_tokens p.main (λ s. fine_on (statement_fine s)))))

-- a shaped program's tokens are readable
pub spelling_readable : (p : Program) → is_shaped p ≡ true → is_readable 0 false (spelling p) ≡ true
spelling_readable p h =
    let e : Extent = program_extent p.items p.main in
    let a = and_parts (list_all (is_placed Main) p.main) (is_within e) h in
    let b = and_parts (e.sound && leb e.tokens 1048576) (leb e.depth 64) a.1 in
    let c = and_parts e.sound (leb e.tokens 1048576) b.0 in
    let fit = leb-true e.depth 64 b.1 in
    ap (is_readable 0 false) (sym (append-nil (spelling p))) ∙ ((program_fine p).by c.0).from 0 [] (omega arith)
