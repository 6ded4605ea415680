-- A program whose places are replaced: its tokens, what it is seen as, and where its statements stand.
use Rattle.std.proofs.Common.{◌≡◌, ℕ, true, ◌&&◌, List, [], ◌∷◌, ◌++◌, Option, Some, None, refl, ap, sym, ◌∙◌, map}
use Rattle.std.specs.List.{flat_map, list_all}
use Rattle.std.proofs.lemmas.List.{map-append}
use Rattle.jade_base.specs.declared.place.Pos.{Pos}
use Rattle.jade_syntax.specs.declared.shapes.place.BlockKind.{BlockKind}
use Rattle.jade_syntax.specs.declared.shapes.place.BlockKind.TheVariants.{Main, Section, Amends}
use Rattle.jade_syntax.specs.declared.tree.Atom.{Atom}
use Rattle.jade_syntax.specs.declared.tree.Atom.TheOpen.{CellRef-F}
use Rattle.jade_syntax.specs.declared.tree.AndExpr.{AndExpr}
use Rattle.jade_syntax.specs.declared.tree.CellRef.{CellRef, out-CellRef, out-roll-CellRef, fold_out-CellRef, map-CellRef}
use Rattle.jade_syntax.specs.declared.tree.Compare.{Compare}
use Rattle.jade_syntax.specs.declared.tree.DeclareWord.{DeclareWord}
use Rattle.jade_syntax.specs.declared.tree.DeclareWord.TheVariants.{Rd, Wr, RdWr, DfRd, DfWr, DfRdWr, Cm, NoRd, NoWr, NoRdWr}
use Rattle.jade_syntax.specs.declared.tree.Expr.{Expr}
use Rattle.jade_syntax.specs.declared.tree.Item.{Item}
use Rattle.jade_syntax.specs.declared.tree.Item.TheVariants as item
use Rattle.jade_syntax.specs.declared.tree.Named.{Named}
use Rattle.jade_syntax.specs.declared.tree.ObjectRef.{ObjectRef}
use Rattle.jade_syntax.specs.declared.tree.Product.{Product}
use Rattle.jade_syntax.specs.declared.tree.Program.{Program}
use Rattle.jade_syntax.specs.declared.tree.Statement.{Statement, roll-Statement, out-roll-Statement, fold-roll-Statement, map-Statement, ind-Statement}
use Rattle.jade_syntax.specs.declared.tree.Statement.TheOpen.{Statement-F}
use Rattle.jade_syntax.specs.declared.tree.Sum.{Sum}
use Rattle.jade_syntax.specs.declared.tree.Unary.{Unary}
use Rattle.jade_syntax.specs.declared.tree.ValueKind.{ValueKind}
use Rattle.jade_syntax.specs.declared.tree.ValueKind.TheVariants.{Int, Bool as BoolKind}
use Rattle.jade_syntax.specs.Placed as syntax
use Rattle.jade_syntax.specs.Placed.{Term, Links, Object, Mention, Phrase, Phrases}
use Rattle.jade_syntax.specs.PlacedImage as placed
use Rattle.jade_syntax.specs.PlacedImage.{forms, statement_forms, term, member, mentioned, phrase, phrases, reference, placed_program, Reference}
use Rattle.jade_syntax.specs.Shapes.{is_placed, is_main}
use Rattle.jade_syntax.proofs.Opened as opened
use Rattle.jade_syntax.proofs.Placing as placing
use Rattle.jade_parser.specs.declared.Sign.{Sign}
use Rattle.jade_parser.specs.declared.Sign.TheVariants.{LeftBracket, RightBracket, LeftParen, RightParen, LeftBrace, RightBrace, Becomes, Semicolon}
use Rattle.jade_parser.specs.declared.Sign.TheVariants.{Comma, DotDot, IfWord, ElseWord, ForWord, InWord, WithonlyWord, WithWord, DoWord, ContWord}
use Rattle.jade_parser.specs.declared.Sign.TheVariants.{MainWord}
use Rattle.jade_parser.specs.Spelled.{Fixed, Called, Part, Parts, fixed, marked, plain, bracketed, outer}
use Rattle.jade_parser.specs.Statements.{kind_word, declare_word, outer_index, object_parts, target_parts}
use Rattle.jade_parser.specs.Statements.{braced, more_names, name_parts, at_statement, statement_parts, block_parts}
use Rattle.jade_parser.specs.Programs.{item_parts, program_parts}
use Rattle.jade_reading.specs.Unplaced.{moved, moved_links, moved_object, moved_mention, moved_phrase, moved_phrases, moved_item, moved_program}
use Rattle.replaced_trees.specs.Replaced.{at_atom, at_and, at_cell, at_compare, at_expr, at_product, at_sum, at_unary, expr_replaced, and_replaced}
use Rattle.replaced_trees.specs.Replaced.{cell_replaced, compare_replaced, sum_replaced, product_replaced, unary_replaced, atom_replaced}
use Rattle.replaced_trees.specs.Replaced.{index_replaced, term_replaced, links_replaced, place_replaced}
use Rattle.replaced_trees.specs.Parts.{part_replaced, parts_replaced}
use Rattle.replaced_trees.specs.MovedTree.{expr_moved, cell_moved, object_moved, named_moved, layer_moved, statement_moved, tree_moved}
use Rattle.replaced_trees.proofs.SeenTerms.{expr_seen, cell_seen}
use Rattle.replaced_trees.proofs.SpelledTerms.{outer_spelled}

module _ (home : Pos → Pos) where
  -- ---- tokens

  -- parts of a tree that is moved, and those of the tree
  pub record Spelt (a b : Parts) : Type 0 where
    pub is : a ≡ parts_replaced (λ x. x) home b

  none : Spelt [] []
  none = record { is = refl }

  one : {a b : Parts} (p q : Part) → p ≡ part_replaced (λ x. x) home q → Spelt a b → Spelt (p ∷ a) (q ∷ b)
  one p q e h = record { is = λ i. e i ∷ h.is i }

  joined : {a b c d : Parts} → Spelt a c → Spelt b d → Spelt (a ++ b) (c ++ d)
  joined {a} {b} {c} {d} h k = record { is = (λ i. h.is i ++ k.is i) ∙ sym (map-append (part_replaced (λ x. x) home) c d) }

  sign : (s : Sign) → Spelt (fixed s ∷ []) (fixed s ∷ [])
  sign s = record { is = refl }

  outer_spelt : (e : Expr) → Spelt (outer (expr_moved home e)) (outer e)
  outer_spelt e = record { is = outer_spelled (λ x. x) home e }

  bracketed_spelt : {a b : Parts} → Spelt a b → Spelt (bracketed a) (bracketed b)
  bracketed_spelt h = one (fixed LeftBracket) (fixed LeftBracket) refl (joined h (sign RightBracket))

  index_spelt : (o : Option Expr) → Spelt (outer_index (index_replaced (λ x. x) home o)) (outer_index o)
  index_spelt None = none
  index_spelt (Some e) = bracketed_spelt (outer_spelt e)

  object_spelt : (o : ObjectRef) → Spelt (object_parts (object_moved home o)) (object_parts o)
  object_spelt o = one (marked (Called o.name) (home o.pos)) (marked (Called o.name) o.pos) refl (index_spelt o.member)

  abbrev Layer : Type 0
  Layer = CellRef-F Atom AndExpr CellRef Compare Expr Product Sum Unary

  abbrev layer_target : Layer → Parts
  layer_target f = marked (Called f.name) f.pos ∷ (outer_index f.family ++ bracketed (outer f.cell))

  abbrev cell_layer : Layer → CellRef
  cell_layer f =
      at_cell (λ x. x) home (map-CellRef Atom AndExpr CellRef Compare Expr Product Sum Unary Atom AndExpr CellRef Compare Expr Product Sum Unary
      (atom_replaced (λ x. x) home) (and_replaced (λ x. x) home) (cell_replaced (λ x. x) home) (compare_replaced (λ x. x) home)
      (expr_replaced (λ x. x) home) (product_replaced (λ x. x) home) (sum_replaced (λ x. x) home) (unary_replaced (λ x. x) home) f)

  node_target : (n : List ℕ) (p : Pos) (o : Option Expr) (x : Expr)
      → target_parts (cell_layer (record { name = n; pos = p; family = o; cell = x }))
      ≡ parts_replaced (λ x. x) home (layer_target (record { name = n; pos = p; family = o; cell = x }))
  node_target n p None x =
      ap layer_target (out-roll-CellRef (record { name = n; pos = home p; family = None; cell = expr_moved home x }))
      ∙ (one (marked (Called n) (home p)) (marked (Called n) p) refl (joined none (bracketed_spelt (outer_spelt x)))).is
  node_target n p (Some o) x =
      ap layer_target (out-roll-CellRef (record { name = n; pos = home p; family = Some (expr_moved home o); cell = expr_moved home x }))
      ∙ (one (marked (Called n) (home p)) (marked (Called n) p) refl
      (joined (bracketed_spelt (outer_spelt o)) (bracketed_spelt (outer_spelt x)))).is

  target_spelt : (c : CellRef) → Spelt (target_parts (cell_moved home c)) (target_parts c)
  target_spelt c = record {
    is = ap target_parts (fold_out-CellRef Atom AndExpr CellRef Compare Expr Product Sum Unary (at_atom (λ x. x) home) (at_and (λ x. x) home)
        (at_cell (λ x. x) home) (at_compare (λ x. x) home) (at_expr (λ x. x) home) (at_product (λ x. x) home) (at_sum (λ x. x) home)
        (at_unary (λ x. x) home) c)
        ∙ node_target (out-CellRef c).name (out-CellRef c).pos (out-CellRef c).family (out-CellRef c).cell;
  }

  more_spelt : (ns : List Named) → Spelt (more_names (map (named_moved home) ns)) (more_names ns)
  more_spelt [] = none
  more_spelt (n ∷ ns) =
      one (fixed Comma) (fixed Comma) refl (one (marked (Called n.name) (home n.pos)) (marked (Called n.name) n.pos) refl (more_spelt ns))

  names_spelt : (ns : List Named) → Spelt (name_parts (map (named_moved home) ns)) (name_parts ns)
  names_spelt [] = none
  names_spelt (n ∷ ns) = one (marked (Called n.name) (home n.pos)) (marked (Called n.name) n.pos) refl (more_spelt ns)

  kind_stays : (k : ValueKind) → plain (kind_word k) ≡ part_replaced (λ x. x) home (plain (kind_word k))
  kind_stays Int = refl
  kind_stays BoolKind = refl

  word_stays : (w : DeclareWord) (p : Pos) → marked (declare_word w) (home p) ≡ part_replaced (λ x. x) home (marked (declare_word w) p)
  word_stays Rd p = refl
  word_stays Wr p = refl
  word_stays RdWr p = refl
  word_stays DfRd p = refl
  word_stays DfWr p = refl
  word_stays DfRdWr p = refl
  word_stays Cm p = refl
  word_stays NoRd p = refl
  word_stays NoWr p = refl
  word_stays NoRdWr p = refl

  value_spelt : (x : Expr) → Spelt (outer (expr_moved home x) ++ fixed Semicolon ∷ []) (outer x ++ fixed Semicolon ∷ [])
  value_spelt x = joined (outer_spelt x) (sign Semicolon)

  given_spelt : (x : Expr) → Spelt (fixed Becomes ∷ (outer (expr_moved home x) ++ fixed Semicolon ∷ [])) (fixed Becomes ∷ (outer x ++ fixed Semicolon ∷ []))
  given_spelt x = one (fixed Becomes) (fixed Becomes) refl (value_spelt x)

  -- ---- terms

  mutual
    unnamed : (t : Term) → term_replaced (λ x. x) home t ≡ moved home t
    unnamed (syntax.Whole z at) = refl
    unnamed (syntax.Truth b at) = refl
    unnamed (syntax.Variable x at) = refl
    unnamed (syntax.Group at e) = ap (syntax.Group (home at)) (unnamed e)
    unnamed (syntax.Signed u at e) = ap (syntax.Signed u (home at)) (unnamed e)
    unnamed (syntax.Chain e more) = λ i. syntax.Chain (unnamed e i) (unnamed_links more i)
    unnamed (syntax.Cell o e) = λ i. syntax.Cell (unnamed_object o i) (unnamed e i)

    unnamed_links : (l : Links) → links_replaced (λ x. x) home l ≡ moved_links home l
    unnamed_links syntax.Last = refl
    unnamed_links (syntax.Link op at e more) = λ i. syntax.Link op (home at) (unnamed e i) (unnamed_links more i)

    unnamed_object : (o : Object) → place_replaced (λ x. x) home o ≡ moved_object home o
    unnamed_object (syntax.Alone x at) = refl
    unnamed_object (syntax.Member x at e) = ap (syntax.Member x (home at)) (unnamed e)

  term_moved : (e : Expr) → term (expr_moved home e) ≡ moved home (term e)
  term_moved e = expr_seen (λ x. x) home e ∙ unnamed (term e)

  abbrev moved_reference : Reference → Reference
  moved_reference r = record { place = moved_object home r.place; cell = moved home r.cell }

  reference_moved : (c : CellRef) → reference (cell_moved home c) ≡ moved_reference (reference c)
  reference_moved c =
      cell_seen (λ x. x) home c ∙ (λ i. record { place = unnamed_object (reference c).place i; cell = unnamed (reference c).cell i })

  object_seen : (n : List ℕ) (p : Pos) (m : Option Expr)
      → placed.named_object n (home p) (member (index_replaced (λ x. x) home m)) ≡ moved_object home (placed.named_object n p (member m))
  object_seen n p None = refl
  object_seen n p (Some e) = ap (syntax.Member n (home p)) (term_moved e)

  mentions_seen : (ns : List Named) → map mentioned (map (named_moved home) ns) ≡ map (moved_mention home) (map mentioned ns)
  mentions_seen [] = refl
  mentions_seen (n ∷ ns) = ap (λ (l : List Mention). record { name = n.name; at = home n.pos } ∷ l) (mentions_seen ns)

  -- ---- statements

  abbrev step : Statement-F Statement → Statement
  step f = roll-Statement (layer_moved home f)

  -- a statement that is moved: its tokens, what it is seen as, and where it stands
  pub record Moves (s : Statement) : Type 0 where
    pub spelt : Spelt (statement_parts (statement_moved home s)) (statement_parts s)
    pub image : phrase (statement_moved home s) ≡ moved_phrase home (phrase s)
    pub stands : (c : BlockKind) → is_placed c (statement_moved home s) ≡ is_placed c s

  module _ {S : Type 0} (val : S → Statement) (ok : (x : S) → Moves (val x)) where
    abbrev before : Statement-F S → Statement-F Statement
    before y = map-Statement S Statement val y

    abbrev after : Statement-F S → Statement-F Statement
    after y = layer_moved home (map-Statement Statement Statement (statement_moved home) (before y))

    abbrev these : List S → List Statement
    these xs = map val xs

    abbrev those : List S → List Statement
    those xs = map (statement_moved home) (map val xs)

    all_spelt : (xs : List S) → Spelt (flat_map (λ t. t) (map statement_parts (those xs))) (flat_map (λ t. t) (map statement_parts (these xs)))
    all_spelt [] = none
    all_spelt (x ∷ xs) = joined (ok x).spelt (all_spelt xs)

    block_spelt : (xs : List S) → Spelt (braced (map statement_parts (those xs))) (braced (map statement_parts (these xs)))
    block_spelt xs = one (fixed LeftBrace) (fixed LeftBrace) refl (joined (all_spelt xs) (sign RightBrace))

    all_seen : (xs : List S) → phrases (map phrase (those xs)) ≡ moved_phrases home (phrases (map phrase (these xs)))
    all_seen [] = refl
    all_seen (x ∷ xs) = λ i. syntax.Then ((ok x).image i) (all_seen xs i)

    all_stand : (c : BlockKind) (xs : List S) → placing.are_placed c (those xs) ≡ placing.are_placed c (these xs)
    all_stand c [] = refl
    all_stand c (x ∷ xs) = λ i. (ok x).stands c i && all_stand c xs i

    spelt_layer : (y : Statement-F S) → Spelt (at_statement (map-Statement Statement Parts statement_parts (after y)))
        (at_statement (map-Statement Statement Parts statement_parts (before y)))
    spelt_layer (Statement-F.Local k n p x) =
        one (plain (kind_word k)) (plain (kind_word k)) (kind_stays k) (one (marked (Called n) (home p)) (marked (Called n) p) refl (given_spelt x))
    spelt_layer (Statement-F.Assign n p x) = one (marked (Called n) (home p)) (marked (Called n) p) refl (given_spelt x)
    spelt_layer (Statement-F.Store t x) = joined (joined (joined (target_spelt t) (sign Becomes)) (outer_spelt x)) (sign Semicolon)
    spelt_layer (Statement-F.If x xs None) =
        one (fixed IfWord) (fixed IfWord) refl (joined (joined (outer_spelt x) (block_spelt xs)) none)
    spelt_layer (Statement-F.If x xs (Some ys)) =
        one (fixed IfWord) (fixed IfWord) refl
        (joined (joined (outer_spelt x) (block_spelt xs)) (one (fixed ElseWord) (fixed ElseWord) refl (block_spelt ys)))
    spelt_layer (Statement-F.For n p l h xs) =
        one (fixed ForWord) (fixed ForWord) refl (one (marked (Called n) (home p)) (marked (Called n) p) refl
        (one (fixed InWord) (fixed InWord) refl (joined (joined (joined (outer_spelt l) (sign DotDot)) (outer_spelt h)) (block_spelt xs))))
    spelt_layer (Statement-F.Withonly p ss ns xs) =
        one (marked (Fixed WithonlyWord) (home p)) (marked (Fixed WithonlyWord) p) refl
        (joined (joined (joined (joined (joined (block_spelt ss) (sign DoWord)) (sign LeftParen)) (names_spelt ns)) (sign RightParen)) (block_spelt xs))
    spelt_layer (Statement-F.With p ss) =
        one (marked (Fixed WithWord) (home p)) (marked (Fixed WithWord) p) refl (joined (joined (block_spelt ss) (sign ContWord)) (sign Semicolon))
    spelt_layer (Statement-F.Declare w p o) =
        one (marked (declare_word w) (home p)) (marked (declare_word w) p) (word_stays w p)
        (one (fixed LeftParen) (fixed LeftParen) refl (joined (joined (object_spelt o) (sign RightParen)) (sign Semicolon)))

    seen_layer : (y : Statement-F S) → opened.opened forms statement_forms (after y) ≡ moved_phrase home (opened.opened forms statement_forms (before y))
    seen_layer (Statement-F.Local k n p x) = ap (syntax.Local k n (home p)) (term_moved x)
    seen_layer (Statement-F.Assign n p x) = ap (syntax.Assign n (home p)) (term_moved x)
    seen_layer (Statement-F.Store t x) = λ i. syntax.Store (reference_moved t i).place (reference_moved t i).cell (term_moved x i)
    seen_layer (Statement-F.If x xs None) = λ i. syntax.If (term_moved x i) (all_seen xs i)
    seen_layer (Statement-F.If x xs (Some ys)) = λ i. syntax.IfElse (term_moved x i) (all_seen xs i) (all_seen ys i)
    seen_layer (Statement-F.For n p l h xs) = λ i. syntax.For n (home p) (term_moved l i) (term_moved h i) (all_seen xs i)
    seen_layer (Statement-F.Withonly p ss ns xs) = λ i. syntax.Withonly (home p) (all_seen ss i) (mentions_seen ns i) (all_seen xs i)
    seen_layer (Statement-F.With p ss) = ap (syntax.With (home p)) (all_seen ss)
    seen_layer (Statement-F.Declare w p o) = ap (syntax.Declare w (home p)) (object_seen o.name o.pos o.member)

    stands_layer : (c : BlockKind) (y : Statement-F S) → placing.placed c (after y) ≡ placing.placed c (before y)
    stands_layer c (Statement-F.Local k n p x) = refl
    stands_layer c (Statement-F.Assign n p x) = refl
    stands_layer c (Statement-F.Store t x) = refl
    stands_layer c (Statement-F.If x xs None) = ap (λ b. b && true) (all_stand c xs)
    stands_layer c (Statement-F.If x xs (Some ys)) = λ i. all_stand c xs i && all_stand c ys i
    stands_layer c (Statement-F.For n p l h xs) = all_stand c xs
    stands_layer c (Statement-F.Withonly p ss ns xs) = λ i. is_main c && (all_stand Section ss i && all_stand Main xs i)
    stands_layer c (Statement-F.With p ss) = ap (λ b. is_main c && b) (all_stand Amends ss)
    stands_layer c (Statement-F.Declare w p o) = refl

    unrolled : (y : Statement-F S) → statement_moved home (roll-Statement (before y)) ≡ roll-Statement (after y)
    unrolled y = fold-roll-Statement Statement step (before y)

    seen_rolled : (f : Statement-F Statement) → phrase (roll-Statement f) ≡ opened.opened forms statement_forms f
    seen_rolled f =
        opened.statement_opens forms statement_forms (roll-Statement f) ∙ ap (opened.opened forms statement_forms) (out-roll-Statement f)

    stands_rolled : (c : BlockKind) (f : Statement-F Statement) → is_placed c (roll-Statement f) ≡ placing.placed c f
    stands_rolled c f = placing.placed_opens c (roll-Statement f) ∙ ap (placing.placed c) (out-roll-Statement f)

    layer : (y : Statement-F S) → Moves (roll-Statement (before y))
    layer y = record {
      spelt = record {
        is = ap statement_parts (unrolled y) ∙ fold-roll-Statement Parts at_statement (after y) ∙ (spelt_layer y).is
            ∙ sym (ap (parts_replaced (λ x. x) home) (fold-roll-Statement Parts at_statement (before y)));
      };
      image = ap phrase (unrolled y) ∙ seen_rolled (after y) ∙ seen_layer y ∙ sym (ap (moved_phrase home) (seen_rolled (before y)));
      stands = λ c. ap (is_placed c) (unrolled y) ∙ stands_rolled c (after y) ∙ stands_layer c y ∙ sym (stands_rolled c (before y));
    }

  statement_moves : (s : Statement) → Moves s
  statement_moves s = ind-Statement Moves (λ x y k. rw (← k) (layer (λ z. z.0) (λ z. z.1) y)) s

  -- ---- whole programs

  item_spelt : (x : Item) → Spelt (item_parts (moved_item home x)) (item_parts x)
  item_spelt (item.Input n p) = record { is = refl }
  item_spelt (item.Single n p s) = record { is = refl }
  item_spelt (item.Family n p c s) = record { is = refl }

  items_spelt : (xs : List Item) → Spelt (flat_map item_parts (map (moved_item home) xs)) (flat_map item_parts xs)
  items_spelt [] = none
  items_spelt (x ∷ xs) = joined (item_spelt x) (items_spelt xs)

  body_spelt : (xs : List Statement) → Spelt (flat_map statement_parts (map (statement_moved home) xs)) (flat_map statement_parts xs)
  body_spelt [] = none
  body_spelt (x ∷ xs) = joined (statement_moves x).spelt (body_spelt xs)

  main_spelt : (xs : List Statement) → Spelt (block_parts (map (statement_moved home) xs)) (block_parts xs)
  main_spelt xs = one (fixed LeftBrace) (fixed LeftBrace) refl (joined (body_spelt xs) (sign RightBrace))

  pub program_spelt : (p : Program) → program_parts (tree_moved home p) ≡ parts_replaced (λ x. x) home (program_parts p)
  program_spelt p = (joined (joined (items_spelt p.items) (sign MainWord)) (main_spelt p.main)).is

  body_seen : (xs : List Statement) → placed.block (map (statement_moved home) xs) ≡ moved_phrases home (placed.block xs)
  body_seen [] = refl
  body_seen (x ∷ xs) = λ i. syntax.Then ((statement_moves x).image i) (body_seen xs i)

  pub program_seen : (p : Program) → placed_program (tree_moved home p) ≡ moved_program home (placed_program p)
  program_seen p = λ i. record { items = map (moved_item home) p.items; main = body_seen p.main i }

  pub body_stands : (c : BlockKind) (xs : List Statement) → list_all (is_placed c) (map (statement_moved home) xs) ≡ list_all (is_placed c) xs
  body_stands c [] = refl
  body_stands c (x ∷ xs) = λ i. (statement_moves x).stands c i && body_stands c xs i
