-- Where tokens, each at its origin, are those of the tree of an expanded program, what they read as does what the source does.
use Rattle.std.proofs.Common.{◌≡◌, ℕ, true, List, [], ◌∷◌, map, refl, sym, ap, ◌∙◌}
use Rattle.std.specs.Prelude.{ℤ}
use Rattle.jade_base.specs.declared.place.Pos.{Pos}
use Rattle.jade_lexer.specs.Lexemes.{TokenList}
use Rattle.jade_syntax.specs.declared.tree.Item.{Item}
use Rattle.jade_syntax.specs.declared.tree.Item.TheVariants as item
use Rattle.jade_syntax.specs.declared.tree.Program.{Program}
use Rattle.jade_syntax.specs.Abstract as plain
use Rattle.jade_syntax.specs.Abstract.{Name, Expression, AbstractProgram}
use Rattle.jade_syntax.specs.Erased.{erased, erased_links, erased_object, erased_mention, erased_phrase, erased_phrases, erased_program}
use Rattle.jade_syntax.specs.Image.{program}
use Rattle.jade_syntax.specs.Objects.{sizes}
use Rattle.jade_syntax.specs.Placed.{Term, Whole, Truth, Variable, Group, Signed, Chain, Cell, Links, Last, Link, Object, Alone, Member, Mention}
use Rattle.jade_syntax.specs.Placed.{Phrase, Local, Assign, Store, If, IfElse, For, Withonly, With, Declare, Phrases, Done, Then, PlacedProgram}
use Rattle.jade_syntax.specs.PlacedImage.{placed_program}
use Rattle.jade_syntax.specs.StaticFaults.{static_faults}
use Rattle.jade_parser.specs.Grammar.{IsReading}
use Rattle.jade_reading.specs.Unplaced as placed
use Rattle.jade_meaning.specs.Course.{root_course}
use Rattle.proc_expand.specs.Names.{is_among}
use Rattle.proc_expand.specs.Written.{fresh_name}
use Rattle.replaced_trees.specs.MovedTree.{tree_moved, tokens_moved}
use Rattle.replaced_trees.proofs.MovedStatements.{program_seen}
use Rattle.replaced_trees.proofs.MovedReading.{reading_moves}
use Rattle.proc_laws.specs.Expansion.{item_name, block_names, expanded_program}
use Rattle.proc_laws.specs.ExpandedTree.{expanded_tree}
use Rattle.proc_laws.specs.Moved.{moved_course, moved_expression, moved_links, moved_place, moved_action, moved_actions, moved_item, moved_program}
use Rattle.proc_laws.specs.SourceMeaning.{source_course}
use Rattle.proc_laws.specs.SourceTree.{SourceText, source_of}
use Rattle.proc_laws.proofs.Accepted.{accepted_same}
use Rattle.proc_laws.proofs.Moving.{sizes_moved}
use Rattle.proc_laws.proofs.TreeImages.{expanded_seen}

-- ---- places are replaced with all of them there, or with those that a meaning needs

module _ (f : Pos → Pos) where
  mutual
    term_moves : (t : Term) → erased (placed.moved f t) ≡ moved_expression f (erased t)
    term_moves (Whole z at) = refl
    term_moves (Truth b at) = refl
    term_moves (Variable x at) = refl
    term_moves (Group at e) = ap plain.Group (term_moves e)
    term_moves (Signed u at e) = ap (plain.Signed u (f at)) (term_moves e)
    term_moves (Chain e more) = λ i. plain.Chain (term_moves e i) (links_move more i)
    term_moves (Cell o e) = λ i. plain.Cell (object_moves o i) (term_moves e i)

    links_move : (l : Links) → erased_links (placed.moved_links f l) ≡ moved_links f (erased_links l)
    links_move Last = refl
    links_move (Link op at e more) = λ i. plain.Link op (f at) (term_moves e i) (links_move more i)

    object_moves : (o : Object) → erased_object (placed.moved_object f o) ≡ moved_place f (erased_object o)
    object_moves (Alone x at) = refl
    object_moves (Member x at e) = ap (plain.Member x (f at)) (term_moves e)

  mentions_move : (ms : List Mention) → map erased_mention (map (placed.moved_mention f) ms) ≡ map erased_mention ms
  mentions_move [] = refl
  mentions_move (m ∷ ms) = ap (λ (l : List Name). m.name ∷ l) (mentions_move ms)

  mutual
    phrase_moves : (a : Phrase) → erased_phrase (placed.moved_phrase f a) ≡ moved_action f (erased_phrase a)
    phrase_moves (Local kind x at e) = ap (plain.Local kind x) (term_moves e)
    phrase_moves (Assign x at e) = ap (plain.Assign x) (term_moves e)
    phrase_moves (Store o e v) = λ i. plain.Store (object_moves o i) (term_moves e i) (term_moves v i)
    phrase_moves (If e first) = λ i. plain.If (term_moves e i) (phrases_move first i)
    phrase_moves (IfElse e first other) = λ i. plain.IfElse (term_moves e i) (phrases_move first i) (phrases_move other i)
    phrase_moves (For x at low high body) = λ i. plain.For x (term_moves low i) (term_moves high i) (phrases_move body i)
    phrase_moves (Withonly at section names body) =
        λ i. plain.Withonly (f at) (phrases_move section i) (mentions_move names i) (phrases_move body i)
    phrase_moves (With at section) = ap (plain.With (f at)) (phrases_move section)
    phrase_moves (Declare how at o) = ap (plain.Declare how (f at)) (object_moves o)

    phrases_move : (a : Phrases) → erased_phrases (placed.moved_phrases f a) ≡ moved_actions f (erased_phrases a)
    phrases_move Done = refl
    phrases_move (Then a more) = λ i. plain.Then (phrase_moves a i) (phrases_move more i)

  item_moves : (x : Item) → placed.moved_item f x ≡ moved_item f x
  item_moves (item.Input x at) = refl
  item_moves (item.Single x at size) = refl
  item_moves (item.Family x at count size) = refl

  items_move : (xs : List Item) → map (placed.moved_item f) xs ≡ map (moved_item f) xs
  items_move [] = refl
  items_move (x ∷ xs) = λ i. item_moves x i ∷ items_move xs i

  program_moves : (p : PlacedProgram) → erased_program (placed.moved_program f p) ≡ moved_program f (erased_program p)
  program_moves p = λ i. record { items = items_move p.items i; main = phrases_move p.main i }

-- ---- one tree, and so one meaning

module _ (whole : (p : Program) → erased_program (placed_program p) ≡ program p)
    (one : (tokens : TokenList) (p q : Program) → IsReading tokens p → IsReading tokens q → placed_program p ≡ placed_program q) where
  tree_same : (origin : Pos → Pos) (fresh : ℕ → Name) (q : SourceText) (after : TokenList)
      → IsReading (tokens_moved origin after) (expanded_tree fresh q) → (p : Program) → IsReading after p
      → moved_program origin (erased_program (placed_program p)) ≡ expanded_program fresh (source_of q)
  tree_same origin fresh q after made p read =
      sym (program_moves origin (placed_program p)) ∙ ap erased_program (sym (program_seen origin p))
      ∙ ap erased_program (one (tokens_moved origin after) (tree_moved origin p) (expanded_tree fresh q) (reading_moves origin after p read) made)
      ∙ whole (expanded_tree fresh q) ∙ expanded_seen whole fresh q

  -- its objects are those of the source
  pub sizes_same : (origin : Pos → Pos) (fresh : ℕ → Name) (q : SourceText) (after : TokenList)
      → IsReading (tokens_moved origin after) (expanded_tree fresh q) → (p : Program) → IsReading after p
      → sizes (program p).items ≡ sizes (source_of q).items
  sizes_same origin fresh q after made p read =
      sym (sizes_moved origin p.items) ∙ ap (λ (r : AbstractProgram). sizes r.items) (tree_same origin fresh q after made p read)

  pub tokens_do : (origin : Pos → Pos) (names : List Name) (q : SourceText)
      → ((x : Name) → is_among (map item_name (source_of q).items) x ≡ true → is_among names x ≡ true)
      → ((x : Name) → is_among (block_names (source_of q).main) x ≡ true → is_among names x ≡ true)
      → (after : TokenList) → IsReading (tokens_moved origin after) (expanded_tree (fresh_name names) q)
      → (p : Program) → IsReading after p → static_faults (placed_program p) ≡ [] → (ns : List ℤ) (limit : ℕ)
      → moved_course origin (root_course (program p) ns limit) ≡ source_course (source_of q) ns limit
  tokens_do origin names q g h after made p read none ns limit =
      ap (λ (r : AbstractProgram). moved_course origin (root_course r ns limit)) (sym (whole p))
      ∙ accepted_same origin names (source_of q) g h (placed_program p) none (tree_same origin (fresh_name names) q after made p read) ns limit
