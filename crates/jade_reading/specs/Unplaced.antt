-- A program with each place replaced by another, and what is left of a program where no place is told.
use Rattle.std.specs.Prelude.{map}
use Rattle.jade_base.specs.declared.place.Pos.{Pos}
use Rattle.jade_syntax.specs.declared.tree.Number.{Number}
use Rattle.jade_syntax.specs.declared.tree.Item.{Item}
use Rattle.jade_syntax.specs.declared.tree.Item.TheVariants.{Input, Single, Family}
use Rattle.jade_syntax.specs.Placed.{Term, Whole, Truth, Variable, Group, Signed, Chain, Cell, Links, Last}
use Rattle.jade_syntax.specs.Placed.{Link, Object, Alone, Member, Mention, Phrase, Local, Assign, Store, If}
use Rattle.jade_syntax.specs.Placed.{IfElse, For, Withonly, With, Declare, Phrases, Done, Then, PlacedProgram}

-- each place is replaced by what `to` gives for it
abbrev mutual
  -- an expression
  pub moved : (Pos → Pos) → Term → Term
  moved to (Whole z at) = Whole z (to at)
  moved to (Truth b at) = Truth b (to at)
  moved to (Variable x at) = Variable x (to at)
  moved to (Group at e) = Group (to at) (moved to e)
  moved to (Signed sign at e) = Signed sign (to at) (moved to e)
  moved to (Chain e links) = Chain (moved to e) (moved_links to links)
  moved to (Cell o e) = Cell (moved_object to o) (moved to e)

  -- the links of a chain
  pub moved_links : (Pos → Pos) → Links → Links
  moved_links to Last = Last
  moved_links to (Link op at e links) = Link op (to at) (moved to e) (moved_links to links)

  -- an object
  pub moved_object : (Pos → Pos) → Object → Object
  moved_object to (Alone x at) = Alone x (to at)
  moved_object to (Member x at e) = Member x (to at) (moved to e)

-- a name of a `do` list
abbrev pub moved_mention : (Pos → Pos) → Mention → Mention
moved_mention to m = record { name = m.name; at = to m.at }

abbrev mutual
  -- a statement
  pub moved_phrase : (Pos → Pos) → Phrase → Phrase
  moved_phrase to (Local kind x at e) = Local kind x (to at) (moved to e)
  moved_phrase to (Assign x at e) = Assign x (to at) (moved to e)
  moved_phrase to (Store o e v) = Store (moved_object to o) (moved to e) (moved to v)
  moved_phrase to (If e first) = If (moved to e) (moved_phrases to first)
  moved_phrase to (IfElse e first other) = IfElse (moved to e) (moved_phrases to first) (moved_phrases to other)
  moved_phrase to (For x at low high body) = For x (to at) (moved to low) (moved to high) (moved_phrases to body)
  moved_phrase to (Withonly at section names body) = Withonly (to at) (moved_phrases to section) (map (moved_mention to) names) (moved_phrases to body)
  moved_phrase to (With at section) = With (to at) (moved_phrases to section)
  moved_phrase to (Declare how at o) = Declare how (to at) (moved_object to o)

  -- statements
  pub moved_phrases : (Pos → Pos) → Phrases → Phrases
  moved_phrases to Done = Done
  moved_phrases to (Then p more) = Then (moved_phrase to p) (moved_phrases to more)

-- a number of an item
abbrev pub moved_number : (Pos → Pos) → Number → Number
moved_number to n = record { value = n.value; pos = to n.pos }

-- an item
abbrev pub moved_item : (Pos → Pos) → Item → Item
moved_item to (Input name at) = Input name (to at)
moved_item to (Single name at size) = Single name (to at) (moved_number to size)
moved_item to (Family name at count size) = Family name (to at) (moved_number to count) (moved_number to size)

-- a whole program
abbrev pub moved_program : (Pos → Pos) → PlacedProgram → PlacedProgram
moved_program to p = record { items = map (moved_item to) p.items; main = moved_phrases to p.main }

-- the first place of a text, for every place
abbrev pub first_place : Pos → Pos
first_place at = record { line = 1; column = 1 }

-- the program where every place is one and the same, so that none is told
abbrev pub unplaced : PlacedProgram → PlacedProgram
unplaced = moved_program first_place
