-- What going through a part of a body adds to it.
use Rattle.std.specs.Prelude.{◌≡◌, ℕ, ◌+◌, List, [], ◌++◌, length, map, Option, Some, None}
use Rattle.jade_syntax.specs.declared.stands.Stand.{Stand}
use Rattle.jade_syntax.specs.declared.stands.Stand.TheVariants.{Slot}
use Rattle.jade_syntax.specs.Abstract.{Name, Expression, Action, Actions, Local, Assign, Store, If, IfElse, For, Withonly, With, Declare}
use Rattle.jade_syntax.specs.Image.{Reference}
use Rattle.jade_syntax.specs.Numbering.{Scope, Numbered, slotted, parameters, numbered, numbered_all, expression_stands, place_stands}

-- the items by name as names in scope
abbrev pub as_scope : List (Name × Stand) → Scope
as_scope items = map (λ i. record { name = i.0; stand = i.1 }) items

-- variables by name with their slots as names in scope
abbrev pub in_slots : List (Name × ℕ) → Scope
in_slots variables = map (λ v. record { name = v.0; stand = Slot v.1 }) variables

-- a body: its variables in scope, the newest first, the items, and the number of slots taken
pub record InBody : Type 0 where
  pub variables : Scope
  pub items : Scope
  pub slots : ℕ

-- all names in scope: a variable hides an item of its name
abbrev pub names_in : InBody → Scope
names_in b = b.variables ++ b.items

-- a variable more, which has the next slot, where it takes so many
abbrev pub with_variable : Name → ℕ → InBody → InBody
with_variable x n b = record { variables = slotted x b.slots b.variables; items = b.items; slots = b.slots + n }

-- the body of a task that is created in a body
abbrev pub created_in : InBody → List Name → InBody
created_in b names = record { variables = parameters 0 names []; items = b.items; slots = length names }

-- the stands of a cell's names, and of the index of a family's member
abbrev pub cell_stands : Scope → Reference → List Stand
cell_stands scope r = place_stands scope r.place ++ expression_stands scope r.cell

-- what the names in the index of an object stand for, where it is a member
abbrev pub member_stands : Scope → Option Expression → List Stand
member_stands scope None = []
member_stands scope (Some e) = expression_stands scope e

-- these stands were put last
pub record Puts (before after added : List Stand) : Type 0 where
  pub by : after ≡ before ++ added

-- the variables in scope after a statement
abbrev pub variables_after : InBody → Action → Scope
variables_after b (Local kind x e) = slotted x b.slots b.variables
variables_after b (Assign x e) = b.variables
variables_after b (Store o e v) = b.variables
variables_after b (If e first) = b.variables
variables_after b (IfElse e first other) = b.variables
variables_after b (For x low high body) = b.variables
variables_after b (Withonly at section names body) = b.variables
variables_after b (With at section) = b.variables
variables_after b (Declare how at o) = b.variables

-- what is numbered in a body
abbrev pub numbered_in : InBody → Action → Numbered
numbered_in b a = numbered b.items (names_in b) b.slots a

-- what statements add in a body
abbrev pub all_in : InBody → Actions → Numbered
all_in b actions = numbered_all b.items (names_in b) b.slots actions

-- a statement was gone through: its stands were put last, its variable is in scope, and its slots are taken
pub record Goes (old new : InBody) (before after : List Stand) (a : Action) : Type 0 where
  pub stands : Puts before after (numbered_in old a).stands
  pub body : new ≡ record { variables = variables_after old a; items = old.items; slots = (numbered_in old a).slots }

-- a block was gone through, whose variables have ended
pub record GoesAll (old new : InBody) (before after : List Stand) (actions : Actions) : Type 0 where
  pub stands : Puts before after (all_in old actions).stands
  pub body : new ≡ record { variables = old.variables; items = old.items; slots = (all_in old actions).slots }

-- the body of a loop was gone through, in which its variable was in scope
pub record GoesRound (old new : InBody) (before after : List Stand) (x : Name) (turns : Actions) : Type 0 where
  pub stands : Puts before after (all_in (with_variable x 2 old) turns).stands
  pub body : new ≡ record { variables = old.variables; items = old.items; slots = (all_in (with_variable x 2 old) turns).slots }
