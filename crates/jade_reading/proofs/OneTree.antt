-- Tokens have one tree: whatever programs they are read as, their placed images are the same, and programs of the same tokens are the same but for places.
use Rattle.std.proofs.Common.{◌≡◌, ℕ, ◌+◌, true, List, [], ◌∷◌, ◌++◌, Option, Some, None, refl, ap, sym, ◌∙◌, map}
use Rattle.std.specs.List.{flat_map, list_all}
use Rattle.jade_base.specs.declared.place.Pos.{Pos}
use Rattle.jade_lexer.specs.Lexemes.{TokenList}
use Rattle.jade_syntax.specs.declared.tree.Number.{Number}
use Rattle.jade_syntax.specs.declared.tree.Item.{Item}
use Rattle.jade_syntax.specs.declared.tree.Item.TheVariants.{Input, Single, Family}
use Rattle.jade_syntax.specs.declared.tree.Program.{Program}
use Rattle.jade_syntax.specs.PlacedImage.{placed_program}
use Rattle.jade_parser.specs.declared.Sign.TheVariants.{InputWord, ObjectWord, ObjectsWord, MainWord}
use Rattle.jade_parser.specs.Spelled.{Fixed, Counted, Part, Parts, tokens_of, fixed, is_valid}
use Rattle.jade_parser.specs.Kinds.{token_bytes, token_of_bytes}
use Rattle.jade_parser.specs.Spelled.{KeptAt, Agrees, pos_in}
use Rattle.jade_parser.specs.Statements.{block_parts}
use Rattle.jade_parser.specs.Programs.{item_parts, program_parts}
use Rattle.jade_parser.specs.Grammar.{bytes_of, positions, IsProgram, IsReading}
use Rattle.jade_parser.proofs.Known.{back, both_true}
use Rattle.jade_reading.specs.Unplaced.{moved_number, moved_item, moved_program, first_place, unplaced}
use Rattle.jade_reading.proofs.Likeness.{SamePlace, Like, Same, regroup, regroup_left, regroup_right, like_sym}
use Rattle.jade_reading.proofs.OneTerm.{called_is, counted_is}
use Rattle.jade_reading.proofs.OneStatement.{whole_block_same}
use Rattle.jade_reading.proofs.Unmoved.{program_unmoved}

-- ---- items

-- `to` gives another place for each
module _ (to : Pos → Pos) where
  number_is : (a b : Number) → Counted a.value ≡ Counted b.value → to a.pos ≡ to b.pos → moved_number to a ≡ moved_number to b
  number_is a b e f = λ i. record { value = counted_is a.value b.value e i; pos = f i }

  item_same : (x y : Item) (r s : Parts) → Like to (item_parts x ++ r) (item_parts y ++ s) → Same to (moved_item to) x y r s
  item_same (Input n p) (Input m q) r s h = record { image = λ i. Input (called_is n m h.2.0 i) (h.2.1 i); rest = h.2.2.2 }
  item_same (Input n p) (Single m q b) r s h = let e : Fixed InputWord ≡ Fixed ObjectWord = h.0 in absurd (cc)
  item_same (Input n p) (Family m q d b) r s h = let e : Fixed InputWord ≡ Fixed ObjectsWord = h.0 in absurd (cc)
  item_same (Single n p a) (Input m q) r s h = let e : Fixed ObjectWord ≡ Fixed InputWord = h.0 in absurd (cc)
  item_same (Single n p a) (Single m q b) r s h =
      record { image = λ i. Single (called_is n m h.2.0 i) (h.2.1 i) (number_is a b h.2.2.2.0 h.2.2.2.1 i); rest = h.2.2.2.2.2 }
  item_same (Single n p a) (Family m q d b) r s h = let e : Fixed ObjectWord ≡ Fixed ObjectsWord = h.0 in absurd (cc)
  item_same (Family n p c a) (Input m q) r s h = let e : Fixed ObjectsWord ≡ Fixed InputWord = h.0 in absurd (cc)
  item_same (Family n p c a) (Single m q b) r s h = let e : Fixed ObjectsWord ≡ Fixed ObjectWord = h.0 in absurd (cc)
  item_same (Family n p c a) (Family m q d b) r s h =
      let k = h.2.2.2 in let l = k.2.2.2 in
      record { image = λ i. Family (called_is n m h.2.0 i) (h.2.1 i) (number_is c d k.0 k.1 i) (number_is a b l.0 l.1 i); rest = l.2.2 }

  -- an item does not begin with `main`
  not_main : (x : Item) (r s : Parts) → Like to (fixed MainWord ∷ r) (item_parts x ++ s) → ⊥
  not_main (Input n p) r s h = let e : Fixed MainWord ≡ Fixed InputWord = h.0 in absurd (cc)
  not_main (Single n p a) r s h = let e : Fixed MainWord ≡ Fixed ObjectWord = h.0 in absurd (cc)
  not_main (Family n p c a) r s h = let e : Fixed MainWord ≡ Fixed ObjectsWord = h.0 in absurd (cc)

  abbrev all_items : List Item → Parts
  all_items xs = flat_map item_parts xs

  items_same : (xs ys : List Item) (r s : Parts) → Like to (all_items xs ++ (fixed MainWord ∷ r)) (all_items ys ++ (fixed MainWord ∷ s))
      → Same to (map (moved_item to)) xs ys r s
  items_same [] [] r s h = record { image = refl; rest = h.2 }
  items_same [] (y ∷ ys) r s h = absurd
      (not_main y r (all_items ys ++ (fixed MainWord ∷ s)) (regroup_right to (fixed MainWord ∷ r) (item_parts y) (all_items ys) (fixed MainWord ∷ s) h))
  items_same (x ∷ xs) [] r s h =
      absurd (not_main x s (all_items xs ++ (fixed MainWord ∷ r))
      (like_sym to (item_parts x ++ (all_items xs ++ (fixed MainWord ∷ r))) (fixed MainWord ∷ s)
      (regroup_left to (item_parts x) (all_items xs) (fixed MainWord ∷ r) (fixed MainWord ∷ s) h)))
  items_same (x ∷ xs) (y ∷ ys) r s h =
      let k = item_same x y (all_items xs ++ (fixed MainWord ∷ r)) (all_items ys ++ (fixed MainWord ∷ s))
      (regroup to (item_parts x) (all_items xs) (fixed MainWord ∷ r) (item_parts y) (all_items ys) (fixed MainWord ∷ s) h) in
      let w = items_same xs ys r s k.rest in
      record { image = λ i. k.image i ∷ w.image i; rest = w.rest }

  program_same : (p q : Program) → Like to (program_parts p ++ []) (program_parts q ++ []) → moved_program to (placed_program p)
      ≡ moved_program to (placed_program q)
  program_same p q h =
      let a = regroup to (all_items p.items ++ fixed MainWord ∷ []) (block_parts p.main) [] (all_items q.items ++ fixed MainWord ∷ []) (block_parts q.main)
      [] h in
      let b = regroup to (all_items p.items) (fixed MainWord ∷ []) (block_parts p.main ++ []) (all_items q.items) (fixed MainWord ∷ [])
      (block_parts q.main ++ []) a in
      let items = items_same p.items q.items (block_parts p.main ++ []) (block_parts q.main ++ []) b in
      let main = whole_block_same to p.main q.main [] [] items.rest in
      λ i. record { items = items.image i; main = main.image i }

-- ---- two readings of the same tokens

kept_same : (a b : Option Pos) (p : Pos) → KeptAt a p → KeptAt b p → SamePlace (λ at. at) a b
kept_same None b p h k = tt
kept_same (Some q) None p h k = tt
kept_same (Some q) (Some r) p h k = h ∙ sym k

agreed : (at : List Pos) (n : ℕ) (ps qs : Parts) → tokens_of ps ≡ tokens_of qs → Agrees at n ps → Agrees at n qs → Like (λ at. at) (ps ++ []) (qs ++ [])
agreed at n [] [] e h k = tt
agreed at n [] (q ∷ qs) e h k = absurd (cc)
agreed at n (p ∷ ps) [] e h k = absurd (cc)
agreed at n (p ∷ ps) (q ∷ qs) e h k =
    let a : p.token ≡ q.token = cc in let b : tokens_of ps ≡ tokens_of qs = cc in
    (a, kept_same p.at q.at (pos_in at n) h.0 k.0, agreed at (n + 1) ps qs b h.1 k.1)

tokens_back : (ps : Parts) → list_all (λ (q : Part). is_valid q.token) ps ≡ true → tokens_of ps ≡ map token_of_bytes (bytes_of ps)
tokens_back [] e = refl
tokens_back (p ∷ ps) e =
    let b = both_true (is_valid p.token) (list_all (λ (q : Part). is_valid q.token) ps) e in
    ap (λ t. t ∷ tokens_of ps) (sym (back p.token b.0)) ∙ ap (λ ts. token_of_bytes (token_bytes p.token) ∷ ts) (tokens_back ps b.1)

tokens_same : (p q : Program) → IsProgram p → IsProgram q → bytes_of (program_parts p) ≡ bytes_of (program_parts q) → tokens_of (program_parts p)
    ≡ tokens_of (program_parts q)
tokens_same p q h k e = tokens_back (program_parts p) h.valid.is ∙ ap (map token_of_bytes) e ∙ sym (tokens_back (program_parts q) k.valid.is)

pub readings_same : (tokens : TokenList) (p q : Program) → IsReading tokens p → IsReading tokens q → placed_program p ≡ placed_program q
readings_same tokens p q h k =
    let e = tokens_same p q h.sound k.sound (h.spelled ∙ sym k.spelled) in
    sym (program_unmoved (placed_program p))
    ∙ program_same (λ at. at) p q (agreed (positions tokens) 0 (program_parts p) (program_parts q) e h.placed k.placed)
    ∙ program_unmoved (placed_program q)

-- ---- two programs of the same tokens

any_same : (a b : Option Pos) → SamePlace first_place a b
any_same None b = tt
any_same (Some p) None = tt
any_same (Some p) (Some q) = refl

alike : (ps qs : Parts) → tokens_of ps ≡ tokens_of qs → Like first_place (ps ++ []) (qs ++ [])
alike [] [] e = tt
alike [] (q ∷ qs) e = absurd (cc)
alike (p ∷ ps) [] e = absurd (cc)
alike (p ∷ ps) (q ∷ qs) e = let a : p.token ≡ q.token = cc in let b : tokens_of ps ≡ tokens_of qs = cc in (a, any_same p.at q.at, alike ps qs b)

pub spelled_same : (p q : Program) → IsProgram p → IsProgram q → bytes_of (program_parts p) ≡ bytes_of (program_parts q) → unplaced (placed_program p)
    ≡ unplaced (placed_program q)
spelled_same p q h k e = program_same first_place p q (alike (program_parts p) (program_parts q) (tokens_same p q h k e))
