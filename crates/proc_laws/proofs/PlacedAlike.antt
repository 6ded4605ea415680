-- Programs of the same tokens have their statements where the grammar has them, or none has.
use Rattle.std.proofs.Common.{◌≡◌, Bool, true, false, ◌&&◌, List, [], ◌∷◌, ◌++◌, Option, Some, None, map, refl, sym, ap, ◌∙◌}
use Rattle.std.specs.List.{flat_map, list_all}
use Rattle.jade_base.specs.declared.place.Pos.{Pos}
use Rattle.jade_syntax.specs.declared.shapes.place.BlockKind.{BlockKind}
use Rattle.jade_syntax.specs.declared.shapes.place.BlockKind.TheVariants.{Main, Section, Amends}
use Rattle.jade_syntax.specs.declared.tree.Item.{Item}
use Rattle.jade_syntax.specs.declared.tree.Item.TheVariants.{Input, Single, Family}
use Rattle.jade_syntax.specs.declared.tree.Program.{Program}
use Rattle.jade_syntax.specs.declared.tree.Statement.{Statement, roll-Statement, out-roll-Statement, fold-roll-Statement, map-Statement, ind-Statement}
use Rattle.jade_syntax.specs.declared.tree.Statement.TheOpen.{Statement-F}
use Rattle.jade_syntax.specs.Forms as general
use Rattle.jade_syntax.specs.Placed.{Phrase, Local, Assign, Store, If, IfElse, For, Withonly, With, Declare, Phrases, Done, Then}
use Rattle.jade_syntax.specs.PlacedImage.{phrase, phrases, block, forms, statement_forms}
use Rattle.jade_syntax.specs.Shapes.{is_placed, is_main, declares}
use Rattle.jade_syntax.proofs.Placing as placing
use Rattle.jade_parser.specs.declared.Sign.TheVariants.{MainWord, InputWord, ObjectWord, ObjectsWord}
use Rattle.jade_parser.specs.Spelled.{Fixed, Parts, tokens_of, fixed}
use Rattle.jade_parser.specs.Statements.{block_parts}
use Rattle.jade_parser.specs.Programs.{item_parts, program_parts}
use Rattle.jade_reading.specs.Unplaced.{moved_phrase, moved_phrases, first_place}
use Rattle.jade_reading.proofs.Likeness.{SamePlace, Like, regroup, regroup_left, regroup_right}
use Rattle.jade_reading.proofs.OneStatement.{whole_block_same}

-- ---- where a statement stands is seen in its image

abbrev mutual
  phrase_placed : Phrase → BlockKind → Bool
  phrase_placed (Local kind x at e) c = true
  phrase_placed (Assign x at e) c = true
  phrase_placed (Store o e v) c = is_main c
  phrase_placed (If e first) c = phrases_placed first c
  phrase_placed (IfElse e first other) c = phrases_placed first c && phrases_placed other c
  phrase_placed (For x at low high body) c = phrases_placed body c
  phrase_placed (Withonly at section names body) c = is_main c && (phrases_placed section Section && phrases_placed body Main)
  phrase_placed (With at section) c = is_main c && phrases_placed section Amends
  phrase_placed (Declare how at o) c = declares c how

  phrases_placed : Phrases → BlockKind → Bool
  phrases_placed Done c = true
  phrases_placed (Then a more) c = phrase_placed a c && phrases_placed more c

-- wherever its tokens stand
module _ (to : Pos → Pos) where
  mutual
    phrase_stays : (a : Phrase) (c : BlockKind) → phrase_placed (moved_phrase to a) c ≡ phrase_placed a c
    phrase_stays (Local kind x at e) c = refl
    phrase_stays (Assign x at e) c = refl
    phrase_stays (Store o e v) c = refl
    phrase_stays (If e first) c = phrases_stay first c
    phrase_stays (IfElse e first other) c = λ i. phrases_stay first c i && phrases_stay other c i
    phrase_stays (For x at low high body) c = phrases_stay body c
    phrase_stays (Withonly at section names body) c = λ i. is_main c && (phrases_stay section Section i && phrases_stay body Main i)
    phrase_stays (With at section) c = λ i. is_main c && phrases_stay section Amends i
    phrase_stays (Declare how at o) c = refl

    phrases_stay : (a : Phrases) (c : BlockKind) → phrases_placed (moved_phrases to a) c ≡ phrases_placed a c
    phrases_stay Done c = refl
    phrases_stay (Then a more) c = λ i. phrase_stays a c i && phrases_stay more c i

record Seen (s : Statement) : Type 0 where
  is : (c : BlockKind) → is_placed c s ≡ phrase_placed (phrase s) c

and_last : (a : Bool) → (a && true) ≡ a
and_last true = refl
and_last false = refl

module _ {S : Type 0} (val : S → Statement) (ok : (y : S) → Seen (val y)) where
  all_seen : (ys : List S) (c : BlockKind) → list_all (is_placed c) (map val ys) ≡ phrases_placed (phrases (map phrase (map val ys))) c
  all_seen [] c = refl
  all_seen (y ∷ ys) c = λ i. (ok y).is c i && all_seen ys c i

  layer : (y : Statement-F S) (c : BlockKind) → placing.placed c (map-Statement S Statement val y)
      ≡ phrase_placed (general.at_statement forms statement_forms (map-Statement Statement Phrase phrase (map-Statement S Statement val y))) c
  layer (Statement-F.Local kind x at e) c = refl
  layer (Statement-F.Assign x at e) c = refl
  layer (Statement-F.Store target e) c = refl
  layer (Statement-F.If e ys None) c = and_last (list_all (is_placed c) (map val ys)) ∙ all_seen ys c
  layer (Statement-F.If e ys (Some zs)) c = λ i. all_seen ys c i && all_seen zs c i
  layer (Statement-F.For x at l h ys) c = all_seen ys c
  layer (Statement-F.Withonly at ys ns zs) c = λ i. is_main c && (all_seen ys Section i && all_seen zs Main i)
  layer (Statement-F.With at ys) c = λ i. is_main c && all_seen ys Amends i
  layer (Statement-F.Declare w at o) c = refl

  rolled : (y : Statement-F S) → Seen (roll-Statement (map-Statement S Statement val y))
  rolled y = record {
    is = λ c.
        placing.placed_opens c (roll-Statement (map-Statement S Statement val y))
        ∙ ap (placing.placed c) (out-roll-Statement (map-Statement S Statement val y)) ∙ layer y c
        ∙ ap (λ (a : Phrase). phrase_placed a c) (sym (fold-roll-Statement Phrase (general.at_statement forms statement_forms) (map-Statement S Statement val y)));
  }

seen : (s : Statement) → Seen s
seen s = ind-Statement Seen (λ x y k. rw (← k) (rolled (λ z. z.0) (λ z. z.1) y)) s

block_seen : (b : List Statement) (c : BlockKind) → list_all (is_placed c) b ≡ phrases_placed (block b) c
block_seen [] c = refl
block_seen (s ∷ b) c = λ i. (seen s).is c i && block_seen b c i

-- ---- programs of the same tokens

one_place : (a b : Option Pos) → SamePlace first_place a b
one_place None b = tt
one_place (Some p) None = tt
one_place (Some p) (Some q) = refl

alike : (ps qs : Parts) → tokens_of ps ≡ tokens_of qs → Like first_place (ps ++ []) (qs ++ [])
alike [] [] e = tt
alike [] (q ∷ qs) e = absurd (cc)
alike (p ∷ ps) [] e = absurd (cc)
alike (p ∷ ps) (q ∷ qs) e = let a : p.token ≡ q.token = cc in let b : tokens_of ps ≡ tokens_of qs = cc in (a, one_place p.at q.at, alike ps qs b)

item_rest : (x y : Item) (r s : Parts) → Like first_place (item_parts x ++ r) (item_parts y ++ s) → Like first_place r s
item_rest (Input n p) (Input m q) r s h = h.2.2.2
item_rest (Input n p) (Single m q b) r s h = let e : Fixed InputWord ≡ Fixed ObjectWord = h.0 in absurd (cc)
item_rest (Input n p) (Family m q d b) r s h = let e : Fixed InputWord ≡ Fixed ObjectsWord = h.0 in absurd (cc)
item_rest (Single n p a) (Input m q) r s h = let e : Fixed ObjectWord ≡ Fixed InputWord = h.0 in absurd (cc)
item_rest (Single n p a) (Single m q b) r s h = h.2.2.2.2.2
item_rest (Single n p a) (Family m q d b) r s h = let e : Fixed ObjectWord ≡ Fixed ObjectsWord = h.0 in absurd (cc)
item_rest (Family n p c a) (Input m q) r s h = let e : Fixed ObjectsWord ≡ Fixed InputWord = h.0 in absurd (cc)
item_rest (Family n p c a) (Single m q b) r s h = let e : Fixed ObjectsWord ≡ Fixed ObjectWord = h.0 in absurd (cc)
item_rest (Family n p c a) (Family m q d b) r s h = h.2.2.2.2.2.2.2.2

main_no_item : (y : Item) (r s : Parts) → Like first_place (fixed MainWord ∷ r) (item_parts y ++ s) → ⊥
main_no_item (Input m q) r s h = let e : Fixed MainWord ≡ Fixed InputWord = h.0 in absurd (cc)
main_no_item (Single m q b) r s h = let e : Fixed MainWord ≡ Fixed ObjectWord = h.0 in absurd (cc)
main_no_item (Family m q d b) r s h = let e : Fixed MainWord ≡ Fixed ObjectsWord = h.0 in absurd (cc)

item_no_main : (x : Item) (r s : Parts) → Like first_place (item_parts x ++ r) (fixed MainWord ∷ s) → ⊥
item_no_main (Input n p) r s h = let e : Fixed InputWord ≡ Fixed MainWord = h.0 in absurd (cc)
item_no_main (Single n p a) r s h = let e : Fixed ObjectWord ≡ Fixed MainWord = h.0 in absurd (cc)
item_no_main (Family n p c a) r s h = let e : Fixed ObjectsWord ≡ Fixed MainWord = h.0 in absurd (cc)

abbrev all_items : List Item → Parts
all_items xs = flat_map item_parts xs

items_rest : (xs ys : List Item) (r s : Parts) → Like first_place (all_items xs ++ (fixed MainWord ∷ r)) (all_items ys ++ (fixed MainWord ∷ s))
    → Like first_place r s
items_rest [] [] r s h = h.2
items_rest [] (y ∷ ys) r s h =
    absurd (main_no_item y r (all_items ys ++ (fixed MainWord ∷ s))
    (regroup_right first_place (fixed MainWord ∷ r) (item_parts y) (all_items ys) (fixed MainWord ∷ s) h))
items_rest (x ∷ xs) [] r s h =
    absurd (item_no_main x (all_items xs ++ (fixed MainWord ∷ r)) s
    (regroup_left first_place (item_parts x) (all_items xs) (fixed MainWord ∷ r) (fixed MainWord ∷ s) h))
items_rest (x ∷ xs) (y ∷ ys) r s h =
    items_rest xs ys r s (item_rest x y (all_items xs ++ (fixed MainWord ∷ r)) (all_items ys ++ (fixed MainWord ∷ s))
    (regroup first_place (item_parts x) (all_items xs) (fixed MainWord ∷ r) (item_parts y) (all_items ys) (fixed MainWord ∷ s) h))

-- statements of the same tokens stand where the grammar has them, or none do
pub placed_alike : (p q : Program) → tokens_of (program_parts p) ≡ tokens_of (program_parts q) → (c : BlockKind)
    → list_all (is_placed c) p.main ≡ list_all (is_placed c) q.main
placed_alike p q h c =
    let a = regroup first_place (all_items p.items ++ fixed MainWord ∷ []) (block_parts p.main) [] (all_items q.items ++ fixed MainWord ∷ []) (block_parts q.main) []
    (alike (program_parts p) (program_parts q) h) in
    let b = regroup first_place (all_items p.items) (fixed MainWord ∷ []) (block_parts p.main ++ []) (all_items q.items) (fixed MainWord ∷ [])
    (block_parts q.main ++ []) a in
    let r = whole_block_same first_place p.main q.main [] [] (items_rest p.items q.items (block_parts p.main ++ []) (block_parts q.main ++ []) b) in
    block_seen p.main c ∙ sym (phrases_stay first_place (block p.main) c) ∙ ap (λ (a : Phrases). phrases_placed a c) r.image
    ∙ phrases_stay first_place (block q.main) c ∙ sym (block_seen q.main c)
