-- What is left of a program without the places that its meaning does not need.
use Rattle.std.specs.Prelude.{map}
use Rattle.jade_syntax.specs.Abstract as abstract
use Rattle.jade_syntax.specs.Abstract.{Name, Expression, Links as AbstractLinks, Place, Action, Actions, AbstractProgram}
use Rattle.jade_syntax.specs.Placed.{
  Term,
  Whole,
  Truth,
  Variable,
  Group,
  Signed,
  Chain,
  Cell,
  Links,
  Last,
  Link,
  Object,
  Alone,
  Member,
  Mention,
  Phrase,
  Local,
  Assign,
  Store,
  If,
  IfElse,
  For,
  Withonly,
  With,
  Declare,
  Phrases,
  Done,
  Then,
  PlacedProgram,
}

abbrev mutual
  -- an expression
  pub erased : Term → Expression
  erased (Whole z at) = abstract.Whole z
  erased (Truth b at) = abstract.Truth b
  erased (Variable x at) = abstract.Variable x
  erased (Group at e) = abstract.Group (erased e)
  erased (Signed sign at e) = abstract.Signed sign at (erased e)
  erased (Chain e links) = abstract.Chain (erased e) (erased_links links)
  erased (Cell o e) = abstract.Cell (erased_object o) (erased e)

  -- the links of a chain
  pub erased_links : Links → AbstractLinks
  erased_links Last = abstract.Last
  erased_links (Link op at e links) = abstract.Link op at (erased e) (erased_links links)

  pub erased_object : Object → Place
  erased_object (Alone x at) = abstract.Alone x at
  erased_object (Member x at e) = abstract.Member x at (erased e)

-- a name of a `do` list
abbrev pub erased_mention : Mention → Name
erased_mention m = m.name

abbrev mutual
  -- a statement
  pub erased_phrase : Phrase → Action
  erased_phrase (Local kind x at e) = abstract.Local kind x (erased e)
  erased_phrase (Assign x at e) = abstract.Assign x (erased e)
  erased_phrase (Store o e v) = abstract.Store (erased_object o) (erased e) (erased v)
  erased_phrase (If e first) = abstract.If (erased e) (erased_phrases first)
  erased_phrase (IfElse e first other) = abstract.IfElse (erased e) (erased_phrases first) (erased_phrases other)
  erased_phrase (For x at low high body) = abstract.For x (erased low) (erased high) (erased_phrases body)
  erased_phrase (Withonly at section names body) = abstract.Withonly at (erased_phrases section) (map erased_mention names) (erased_phrases body)
  erased_phrase (With at section) = abstract.With at (erased_phrases section)
  erased_phrase (Declare how at o) = abstract.Declare how at (erased_object o)

  -- statements
  pub erased_phrases : Phrases → Actions
  erased_phrases Done = abstract.Done
  erased_phrases (Then p more) = abstract.Then (erased_phrase p) (erased_phrases more)

-- a whole program
abbrev pub erased_program : PlacedProgram → AbstractProgram
erased_program p = record { items = p.items; main = erased_phrases p.main }
