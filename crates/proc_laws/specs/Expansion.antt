-- The program without procedures that stands for one with them.
use Rattle.std.specs.Prelude.{◌≡◌, ℕ, ◌+◌, Bool, true, false, IsTrue, List, [], ◌∷◌, ◌++◌, map, length, if◌then◌else◌}
use Rattle.jade_syntax.specs.declared.tree.Item.{Item}
use Rattle.jade_syntax.specs.declared.tree.Item.TheVariants.{Input, Single, Family}
use Rattle.jade_syntax.specs.Abstract as plain
use Rattle.jade_syntax.specs.Abstract.{Name, Expression, Whole, Truth, Variable, Group, Signed, Chain, Cell, Links, Last, Link, Place, Alone, Member}
use Rattle.jade_syntax.specs.Abstract.{Action, Actions, AbstractProgram}
use Rattle.jade_syntax.specs.Numbering.{same_name}
use Rattle.proc_expand.specs.Names.{is_among, first_places, place_among}
use Rattle.proc_laws.specs.Source.{
  SourceAction,
  Local,
  Assign,
  Store,
  If,
  IfElse,
  For,
  Withonly,
  With,
  Declare,
  Call,
  SourceActions,
  Done,
  Then,
  Param,
  Procedure,
  SourceProgram,
}

-- an item's name
abbrev pub item_name : Item → Name
item_name (Input x at) = x
item_name (Single x at size) = x
item_name (Family x at count size) = x

-- ---- the names of a source, in text order, without those of procedures

abbrev mutual
  pub names_in : Expression → List Name
  names_in (Whole z) = []
  names_in (Truth b) = []
  names_in (Variable x) = x ∷ []
  names_in (Group e) = names_in e
  names_in (Signed sign at e) = names_in e
  names_in (Chain e links) = names_in e ++ link_names links
  names_in (Cell o e) = place_names o ++ names_in e

  pub link_names : Links → List Name
  link_names Last = []
  link_names (Link op at e links) = names_in e ++ link_names links

  pub place_names : Place → List Name
  place_names (Alone x at) = x ∷ []
  place_names (Member x at e) = x ∷ names_in e

-- those of arguments
abbrev pub argument_names : List Expression → List Name
argument_names [] = []
argument_names (e ∷ es) = names_in e ++ argument_names es

abbrev mutual
  -- those of a statement
  pub action_names : SourceAction → List Name
  action_names (Local kind x e) = x ∷ names_in e
  action_names (Assign x e) = x ∷ names_in e
  action_names (Store o e v) = place_names o ++ (names_in e ++ names_in v)
  action_names (If e first) = names_in e ++ block_names first
  action_names (IfElse e first other) = names_in e ++ (block_names first ++ block_names other)
  action_names (For x low high body) = x ∷ (names_in low ++ (names_in high ++ block_names body))
  action_names (Withonly at section names body) = block_names section ++ (names ++ block_names body)
  action_names (With at section) = block_names section
  action_names (Declare how at o) = place_names o
  action_names (Call f args) = argument_names args

  -- those of a block
  pub block_names : SourceActions → List Name
  block_names Done = []
  block_names (Then a more) = action_names a ++ block_names more

-- ---- renaming

module _ (to : Name → Name) where
  abbrev mutual
    pub renamed : Expression → Expression
    renamed (Whole z) = Whole z
    renamed (Truth b) = Truth b
    renamed (Variable x) = Variable (to x)
    renamed (Group e) = Group (renamed e)
    renamed (Signed sign at e) = Signed sign at (renamed e)
    renamed (Chain e links) = Chain (renamed e) (renamed_links links)
    renamed (Cell o e) = Cell (renamed_place o) (renamed e)

    pub renamed_links : Links → Links
    renamed_links Last = Last
    renamed_links (Link op at e links) = Link op at (renamed e) (renamed_links links)

    pub renamed_place : Place → Place
    renamed_place (Alone x at) = Alone (to x) at
    renamed_place (Member x at e) = Member (to x) at (renamed e)

-- ---- expansion

-- what is made, and the number that comes next
pub record Made (A : Type 0) : Type 0 where
  pub made : A
  pub next : ℕ

-- what stands for a call of each procedure with these arguments, from a number on
abbrev pub Expansions : Type 0
Expansions = Name → List Expression → ℕ → Made Action

module _ (calls : Expansions) (to : Name → Name) where
  abbrev mutual
    -- what stands for a statement whose names are replaced so, from a number on
    pub expanded : SourceAction → ℕ → Made Action
    expanded (Local kind x e) n = record { made = plain.Local kind (to x) (renamed to e); next = n }
    expanded (Assign x e) n = record { made = plain.Assign (to x) (renamed to e); next = n }
    expanded (Store o e v) n = record { made = plain.Store (renamed_place to o) (renamed to e) (renamed to v); next = n }
    expanded (If e first) n =
        let b = expanded_all first n in record { made = plain.If (renamed to e) b.made; next = b.next }
    expanded (IfElse e first other) n =
        let b = expanded_all first n in let d = expanded_all other b.next in
        record { made = plain.IfElse (renamed to e) b.made d.made; next = d.next }
    expanded (For x low high body) n =
        let b = expanded_all body n in record { made = plain.For (to x) (renamed to low) (renamed to high) b.made; next = b.next }
    expanded (Withonly at section names body) n =
        let d = expanded_all section n in let b = expanded_all body d.next in
        record { made = plain.Withonly at d.made (map to names) b.made; next = b.next }
    expanded (With at section) n = let d = expanded_all section n in record { made = plain.With at d.made; next = d.next }
    expanded (Declare how at o) n = record { made = plain.Declare how at (renamed_place to o); next = n }
    expanded (Call f args) n = calls f (map (renamed to) args) n

    -- what stands for statements in order
    pub expanded_all : SourceActions → ℕ → Made Actions
    expanded_all Done n = record { made = plain.Done; next = n }
    expanded_all (Then a more) n =
        let b = expanded a n in let d = expanded_all more b.next in
        record { made = plain.Then b.made d.made; next = d.next }

-- the parameters of a call get the values of its arguments, and then comes the body
abbrev pub declares : (Name → Name) → List Param → List Expression → Actions → Actions
declares to [] args body = body
declares to (p ∷ params) [] body = body
declares to (p ∷ params) (e ∷ args) body = plain.Then (plain.Local p.kind (to p.name) e) (declares to params args body)

module _ (items : List Name) (fresh : ℕ → Name) where
  -- the names of a procedure that are replaced: its parameters', then those of its body
  abbrev pub replaced : Procedure → List Name
  replaced p = first_places items [] (map (λ (a : Param). a.name) p.params ++ block_names p.body)

  -- with what a call that is reached at number n replaces a name
  abbrev pub replacement : List Name → ℕ → Name → Name
  replacement names n x = if is_among items x then x else fresh (n + place_among names x)

  -- what stands for a call of a procedure
  abbrev pub call_made : Expansions → Procedure → List Expression → ℕ → Made Action
  call_made calls p args n =
      let to = replacement (replaced p) n in
      let b = expanded_all calls to p.body (n + length (replaced p)) in
      record { made = plain.If (Truth true) (declares to p.params args b.made); next = b.next }

  -- one procedure more, which may call those before it
  abbrev pub and_call : Expansions → Procedure → Expansions
  and_call calls p f args n = if same_name f p.name then call_made calls p args n else calls f args n

  -- all procedures, in text order
  abbrev pub all_expansions : Expansions → List Procedure → Expansions
  all_expansions calls [] = calls
  all_expansions calls (p ∷ ps) = all_expansions (and_call calls p) ps

-- where there is no procedure
abbrev pub no_expansions : Expansions
no_expansions f args n = record { made = plain.If (Truth true) plain.Done; next = n }

abbrev pub expanded_program : (ℕ → Name) → SourceProgram → AbstractProgram
expanded_program fresh p =
    record { items = p.items; main = (expanded_all (all_expansions (map item_name p.items) fresh no_expansions p.procedures) (λ x. x) p.main 0).made }

-- ---- the names that a program declares, hands to a task or assigns

abbrev mutual
  pub sets : Action → List Name
  sets (plain.Local kind x e) = x ∷ []
  sets (plain.Assign x e) = x ∷ []
  sets (plain.Store o e v) = []
  sets (plain.If e first) = sets_all first
  sets (plain.IfElse e first other) = sets_all first ++ sets_all other
  sets (plain.For x low high body) = x ∷ sets_all body
  sets (plain.Withonly at section names body) = sets_all section ++ (names ++ sets_all body)
  sets (plain.With at section) = sets_all section
  sets (plain.Declare how at o) = []

  pub sets_all : Actions → List Name
  sets_all plain.Done = []
  sets_all (plain.Then a more) = sets a ++ sets_all more

-- each of some names has a property
abbrev pub Each : (Name → Bool) → List Name → Type 0
Each is [] = Unit {0}
Each is (x ∷ xs) = IsTrue (is x) × Each is xs

-- names that stand for no item and in no statement of `main`, each another
pub record AreFresh (fresh : ℕ → Name) (p : SourceProgram) : Type 0 where
  pub one_each : (i j : ℕ) → same_name (fresh i) (fresh j) ≡ true → i ≡ j
  pub no_item : (i : ℕ) → is_among (map item_name p.items) (fresh i) ≡ false
  pub not_in_main : (i : ℕ) → is_among (block_names p.main) (fresh i) ≡ false
