-- A program each of whose places is replaced by itself is the program.
use Rattle.std.proofs.Common.{◌≡◌, List, [], ◌∷◌, refl, map}
use Rattle.jade_syntax.specs.declared.tree.Item.{Item}
use Rattle.jade_syntax.specs.declared.tree.Item.TheVariants.{Input, Single, Family}
use Rattle.jade_syntax.specs.Placed.{Term, Whole, Truth, Variable, Group, Signed, Chain, Cell, Links, Last}
use Rattle.jade_syntax.specs.Placed.{Link, Object, Alone, Member, Mention, Phrase, Local, Assign, Store, If}
use Rattle.jade_syntax.specs.Placed.{IfElse, For, Withonly, With, Declare, Phrases, Done, Then, PlacedProgram}
use Rattle.jade_reading.specs.Unplaced.{moved, moved_links, moved_object, moved_mention, moved_phrase, moved_phrases, moved_item, moved_program}

mutual
  term_unmoved : (e : Term) → moved (λ at. at) e ≡ e
  term_unmoved (Whole z at) = refl
  term_unmoved (Truth b at) = refl
  term_unmoved (Variable x at) = refl
  term_unmoved (Group at e) = λ i. Group at (term_unmoved e i)
  term_unmoved (Signed sign at e) = λ i. Signed sign at (term_unmoved e i)
  term_unmoved (Chain e links) = λ i. Chain (term_unmoved e i) (links_unmoved links i)
  term_unmoved (Cell o e) = λ i. Cell (object_unmoved o i) (term_unmoved e i)

  links_unmoved : (l : Links) → moved_links (λ at. at) l ≡ l
  links_unmoved Last = refl
  links_unmoved (Link op at e links) = λ i. Link op at (term_unmoved e i) (links_unmoved links i)

  object_unmoved : (o : Object) → moved_object (λ at. at) o ≡ o
  object_unmoved (Alone x at) = refl
  object_unmoved (Member x at e) = λ i. Member x at (term_unmoved e i)

mentions_unmoved : (ms : List Mention) → map (moved_mention (λ at. at)) ms ≡ ms
mentions_unmoved [] = refl
mentions_unmoved (m ∷ ms) = λ i. m ∷ mentions_unmoved ms i

mutual
  phrase_unmoved : (p : Phrase) → moved_phrase (λ at. at) p ≡ p
  phrase_unmoved (Local kind x at e) = λ i. Local kind x at (term_unmoved e i)
  phrase_unmoved (Assign x at e) = λ i. Assign x at (term_unmoved e i)
  phrase_unmoved (Store o e v) = λ i. Store (object_unmoved o i) (term_unmoved e i) (term_unmoved v i)
  phrase_unmoved (If e first) = λ i. If (term_unmoved e i) (phrases_unmoved first i)
  phrase_unmoved (IfElse e first other) = λ i. IfElse (term_unmoved e i) (phrases_unmoved first i) (phrases_unmoved other i)
  phrase_unmoved (For x at low high body) = λ i. For x at (term_unmoved low i) (term_unmoved high i) (phrases_unmoved body i)
  phrase_unmoved (Withonly at section names body) = λ i. Withonly at (phrases_unmoved section i) (mentions_unmoved names i) (phrases_unmoved body i)
  phrase_unmoved (With at section) = λ i. With at (phrases_unmoved section i)
  phrase_unmoved (Declare how at o) = λ i. Declare how at (object_unmoved o i)

  phrases_unmoved : (ps : Phrases) → moved_phrases (λ at. at) ps ≡ ps
  phrases_unmoved Done = refl
  phrases_unmoved (Then p more) = λ i. Then (phrase_unmoved p i) (phrases_unmoved more i)

item_unmoved : (x : Item) → moved_item (λ at. at) x ≡ x
item_unmoved (Input name at) = refl
item_unmoved (Single name at size) = refl
item_unmoved (Family name at count size) = refl

items_unmoved : (xs : List Item) → map (moved_item (λ at. at)) xs ≡ xs
items_unmoved [] = refl
items_unmoved (x ∷ xs) = λ i. item_unmoved x i ∷ items_unmoved xs i

pub program_unmoved : (p : PlacedProgram) → moved_program (λ at. at) p ≡ p
program_unmoved p = λ i. record { items = items_unmoved p.items i; main = phrases_unmoved p.main i }
