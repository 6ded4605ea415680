-- What each name of a program stands for, in text order, declarations included.
use Rattle.std.specs.Prelude.{ℕ, suc, ◌+◌, List, [], ◌∷◌, ◌++◌, length, nat_eq, Bool, true, false, ◌&&◌, if◌then◌else◌}
use Rattle.jade_syntax.specs.declared.tree.Item.{Item}
use Rattle.jade_syntax.specs.declared.tree.Item.TheVariants as item
use Rattle.jade_syntax.specs.declared.stands.Stand.{Stand}
use Rattle.jade_syntax.specs.declared.stands.Stand.TheVariants.{Input, Slot, Single, Family}
use Rattle.jade_syntax.specs.Abstract.{
  Name,
  Expression,
  Whole,
  Truth,
  Variable,
  Group,
  Signed,
  Chain,
  Cell,
  Links,
  Last,
  Link,
  Place,
  Alone,
  Member,
  Action,
  Local,
  Assign,
  Store,
  If,
  IfElse,
  For,
  Withonly,
  With,
  Declare,
  Actions,
  Done,
  Then,
  AbstractProgram,
}
use Rattle.jade_syntax.specs.Objects.{amount}

-- two names have the same bytes
abbrev pub same_name : Name → Name → Bool
same_name [] [] = true
same_name [] (y ∷ ys) = false
same_name (x ∷ xs) [] = false
same_name (x ∷ xs) (y ∷ ys) = nat_eq x y && same_name xs ys

-- the names in scope, the newest first, each with what it stands for
pub record Meant : Type 0 where
  pub name : Name
  pub stand : Stand

-- the names in scope, the newest first
abbrev pub Scope : Type 0
Scope = List Meant

-- what a name stands for: the newest of that name counts
abbrev pub stand_of : Name → Scope → Stand
stand_of x [] = Slot 0
stand_of x (m ∷ scope) = if same_name x m.name then m.stand else stand_of x scope

-- the items, the number of inputs and objects before them being i and o
abbrev pub items_from : (i o : ℕ) → List Item → List Meant
items_from i o [] = []
items_from i o (item.Input x at ∷ items) = record { name = x; stand = Input i } ∷ items_from (suc i) o items
items_from i o (item.Single x at size ∷ items) = record { name = x; stand = Single (record { 0 = o }) } ∷ items_from i (suc o) items
items_from i o (item.Family x at count size ∷ items) =
    record { name = x; stand = Family (record { 0 = o }) (amount count.value) } ∷ items_from i (o + amount count.value) items

-- each item's name and what it stands for, in declared order
abbrev pub declared : List Item → List Meant
declared items = items_from 0 0 items

abbrev mutual
  -- what the names of an expression stand for, in text order
  pub expression_stands : Scope → Expression → List Stand
  expression_stands scope (Whole z) = []
  expression_stands scope (Truth b) = []
  expression_stands scope (Variable x) = stand_of x scope ∷ []
  expression_stands scope (Group e) = expression_stands scope e
  expression_stands scope (Signed sign at e) = expression_stands scope e
  expression_stands scope (Chain e links) = expression_stands scope e ++ link_stands scope links
  expression_stands scope (Cell o e) = place_stands scope o ++ expression_stands scope e

  -- the same of the links of a chain
  pub link_stands : Scope → Links → List Stand
  link_stands scope Last = []
  link_stands scope (Link op at e links) = expression_stands scope e ++ link_stands scope links

  pub place_stands : Scope → Place → List Stand
  place_stands scope (Alone x at) = stand_of x scope ∷ []
  place_stands scope (Member x at e) = stand_of x scope ∷ expression_stands scope e

-- what a part of a body adds: the stands of its names, the names in scope after it, and the number of slots taken
pub record Numbered : Type 0 where
  pub stands : List Stand
  pub scope : Scope
  pub slots : ℕ

-- a variable takes the next slot
abbrev pub slotted : Name → ℕ → Scope → Scope
slotted x n scope = record { name = x; stand = Slot n } ∷ scope

-- the names of a `do` list, as the variables of the body
abbrev pub parameters : ℕ → List Name → Scope → Scope
parameters n [] scope = scope
parameters n (x ∷ xs) scope = parameters (suc n) xs (slotted x n scope)

-- what the names of a `do` list stand for, where the task is created
abbrev pub name_stands : Scope → List Name → List Stand
name_stands scope [] = []
name_stands scope (x ∷ xs) = stand_of x scope ∷ name_stands scope xs

-- Within a block a local takes the next slot and is in scope from its end on; a loop takes two slots, its
-- variable's and its bound's; the names of a block end with it; a created body begins anew.
module _ (items : Scope) where
  abbrev mutual
    -- what a statement adds
    pub numbered : Scope → ℕ → Action → Numbered
    numbered scope n (Local kind x e) =
        record { stands = Slot n ∷ expression_stands scope e; scope = slotted x n scope; slots = suc n }
    numbered scope n (Assign x e) =
        record { stands = stand_of x scope ∷ expression_stands scope e; scope = scope; slots = n }
    numbered scope n (Store o e v) =
        record { stands = place_stands scope o ++ expression_stands scope e ++ expression_stands scope v; scope = scope; slots = n }
    numbered scope n (If e first) =
        let b = numbered_all scope n first in
        record { stands = expression_stands scope e ++ b.stands; scope = scope; slots = b.slots }
    numbered scope n (IfElse e first other) =
        let b = numbered_all scope n first in let d = numbered_all scope b.slots other in
        record { stands = expression_stands scope e ++ b.stands ++ d.stands; scope = scope; slots = d.slots }
    numbered scope n (For x low high body) =
        let b = numbered_all (slotted x n scope) (n + 2) body in
        record { stands = Slot n ∷ (expression_stands scope low ++ expression_stands scope high ++ b.stands); scope = scope; slots = b.slots }
    numbered scope n (Withonly at section names body) =
        let s = numbered_all scope n section in let b = numbered_all (parameters 0 names items) (length names) body in
        record { stands = s.stands ++ name_stands scope names ++ b.stands; scope = scope; slots = s.slots }
    numbered scope n (With at section) =
        let s = numbered_all scope n section in record { stands = s.stands; scope = scope; slots = s.slots }
    numbered scope n (Declare how at o) = record { stands = place_stands scope o; scope = scope; slots = n }

    -- what statements add, one after another
    pub numbered_all : Scope → ℕ → Actions → Numbered
    numbered_all scope n Done = record { stands = []; scope = scope; slots = n }
    numbered_all scope n (Then a more) =
        let b = numbered scope n a in let d = numbered_all b.scope b.slots more in
        record { stands = b.stands ++ d.stands; scope = d.scope; slots = d.slots }

-- what some names stand for, without the names
abbrev pub stands_alone : List Meant → List Stand
stands_alone [] = []
stands_alone (m ∷ ms) = m.stand ∷ stands_alone ms

-- what the names of a whole program stand for
abbrev pub numbering : AbstractProgram → List Stand
numbering p =
    let names = declared p.items in stands_alone names ++ (numbered_all names names 0 p.main).stands
