-- What is wrong with a program before it runs. A program has places at which a name is used or declared, a value
-- is needed, or an amount stands; for each kind of place a rule says whether it is faulty; and the static faults
-- of the program are those of all its places.
use Rattle.std.specs.Prelude.{ℕ, Bool, true, false, not, ◌&&◌, List, [], ◌∷◌, ◌++◌, map, Option, Some, None, if◌then◌else◌}
use Rattle.std.specs.Ordering.{nat_cmp, ordering_then, is_lt}
use Rattle.std.specs.List.{filter, filter_map}
use Rattle.jade_base.specs.declared.place.Pos.{Pos}
use Rattle.jade_syntax.specs.declared.tree.Number.{Number}
use Rattle.jade_syntax.specs.declared.tree.Item.{Item}
use Rattle.jade_syntax.specs.declared.tree.Item.TheVariants as item
use Rattle.jade_syntax.specs.declared.tree.ValueKind.{ValueKind}
use Rattle.jade_syntax.specs.declared.tree.ValueKind.TheVariants as value
use Rattle.jade_syntax.specs.declared.tree.UnaryOp.{UnaryOp}
use Rattle.jade_syntax.specs.declared.tree.UnaryOp.TheVariants.{Negative, Not}
use Rattle.jade_syntax.specs.declared.static_fault.StaticKind.{StaticKind}
use Rattle.jade_syntax.specs.declared.static_fault.StaticKind.TheVariants as fault
use Rattle.jade_syntax.specs.declared.static_fault.StaticFault.{StaticFault}
use Rattle.jade_syntax.specs.Abstract.{Name, Operator, Or, And, Relates, Adds, Multiplies}
use Rattle.jade_syntax.specs.Limits.{is_amount, is_within, few_inputs, few_cells}
use Rattle.jade_syntax.specs.Numbering.{same_name}
use Rattle.jade_syntax.specs.declared.objects.TheConstants.{OBJECT_LIMIT, SIZE_LIMIT}
use Rattle.jade_syntax.specs.Placed.{
  Term,
  Whole,
  Truth,
  Variable,
  Group,
  Signed,
  Chain,
  Cell,
  Links,
  Last,
  Link,
  Object,
  Alone,
  Member,
  Mention,
  Phrase,
  Local,
  Assign,
  Store,
  If,
  IfElse,
  For,
  Withonly,
  With,
  Declare,
  Phrases,
  Done,
  Then,
  PlacedProgram,
  start,
}

-- what a name stands for: an input, a variable of a kind (none where it was given a name that is itself refused),
-- the variable of a loop, a single object, or a family
pub data Meaning : Type 0 where
  Input : Meaning
  Holds : Option ValueKind → Meaning
  Turns : Meaning
  Single : Meaning
  Family : Meaning

-- the names in scope, each with what it stands for
pub record Known : Type 0 where
  pub name : Name
  pub meaning : Meaning

-- the names in scope, the newest first
abbrev pub Names : Type 0
Names = List Known

-- a name with what it stands for
abbrev pub known : Name → Meaning → Known
known x m = record { name = x; meaning = m }

-- what a name stands for: the first of that name counts
abbrev pub found : Name → Names → Option Meaning
found x [] = None
found x (k ∷ names) = if same_name x k.name then Some k.meaning else found x names

-- ---- the kinds of values

-- two kinds are one
abbrev pub same_kind : ValueKind → ValueKind → Bool
same_kind value.Int value.Int = true
same_kind value.Int value.Bool = false
same_kind value.Bool value.Int = false
same_kind value.Bool value.Bool = true

-- what the operands of an operator must be, and what it gives
abbrev pub operand_kind : Operator → ValueKind
operand_kind Or = value.Bool
operand_kind And = value.Bool
operand_kind (Relates r) = value.Int
operand_kind (Adds op) = value.Int
operand_kind (Multiplies op) = value.Int

-- the kind of what an operator gives
abbrev pub result_kind : Operator → ValueKind
result_kind Or = value.Bool
result_kind And = value.Bool
result_kind (Relates r) = value.Bool
result_kind (Adds op) = value.Int
result_kind (Multiplies op) = value.Int

-- what a sign needs, which is what it gives
abbrev pub sign_kind : UnaryOp → ValueKind
sign_kind Negative = value.Int
sign_kind Not = value.Bool

-- the kind of what a name stands for; a name that is no variable and no input has none, and counts as what is needed
abbrev pub kind_of_name : Option Meaning → Option ValueKind
kind_of_name None = None
kind_of_name (Some Input) = Some value.Int
kind_of_name (Some (Holds k)) = k
kind_of_name (Some Turns) = Some value.Int
kind_of_name (Some Single) = None
kind_of_name (Some Family) = None

-- an operator gives its own kind whatever its operands are
abbrev pub chain_kind : Option ValueKind → Links → Option ValueKind
chain_kind first Last = first
chain_kind first (Link op at e links) = Some (result_kind op)

-- the kind of a value; a cell is an int whatever its name is
abbrev pub kind_of : Names → Term → Option ValueKind
kind_of names (Whole z at) = Some value.Int
kind_of names (Truth b at) = Some value.Bool
kind_of names (Variable x at) = kind_of_name (found x names)
kind_of names (Group at e) = kind_of names e
kind_of names (Signed sign at e) = Some (sign_kind sign)
kind_of names (Chain e links) = chain_kind (kind_of names e) links
kind_of names (Cell o e) = Some value.Int

-- ---- the places of a program

-- what a name is used as: a value, the target of an assignment, a name of a `do` list, a single object, or a family
pub data Use : Type 0 where
  AsValue : Use
  AsTarget : Use
  Handed : Use
  AsSingle : Use
  AsFamily : Use

-- a name used, and one declared, with the names in scope there; a value that must be of a kind; an amount with its limit; an item after others
pub data Site : Type 0 where
  Uses : Use → Name → Pos → Names → Site
  Declares : Name → Pos → Names → Site
  Needs : ValueKind → Term → Names → Site
  Amounts : ℕ → Number → Site
  Counts : List Item → Item → Site

-- the places within an expression
abbrev mutual
  -- those of an expression, with the names in scope there
  pub term_sites : Names → Term → List Site
  term_sites names (Whole z at) = []
  term_sites names (Truth b at) = []
  term_sites names (Variable x at) = Uses AsValue x at names ∷ []
  term_sites names (Group at e) = term_sites names e
  term_sites names (Signed sign at e) = term_sites names e ++ Needs (sign_kind sign) e names ∷ []
  term_sites names (Chain e links) = term_sites names e ++ first_need names e links ++ link_sites names links
  term_sites names (Cell o e) = object_sites names o ++ term_sites names e ++ Needs value.Int e names ∷ []

  -- the first operand of a chain is needed as its first operator says
  pub first_need : Names → Term → Links → List Site
  first_need names e Last = []
  first_need names e (Link op at f links) = Needs (operand_kind op) e names ∷ []

  pub link_sites : Names → Links → List Site
  link_sites names Last = []
  link_sites names (Link op at e links) = term_sites names e ++ Needs (operand_kind op) e names ∷ link_sites names links

  pub object_sites : Names → Object → List Site
  object_sites names (Alone x at) = Uses AsSingle x at names ∷ []
  object_sites names (Member x at e) = Uses AsFamily x at names ∷ (term_sites names e ++ Needs value.Int e names ∷ [])

-- an expression whose value must be of a kind
abbrev pub needed : ValueKind → Names → Term → List Site
needed k names e = term_sites names e ++ Needs k e names ∷ []

-- a value given to a variable has the variable's kind
abbrev pub given : Option ValueKind → Names → Term → List Site
given None names e = term_sites names e
given (Some k) names e = needed k names e

-- a name of a `do` list as a variable of the body, which keeps its kind
abbrev pub parameter : Names → Mention → Known
parameter names m = known m.name (Holds (kind_of_name (found m.name names)))

-- the names of a `do` list, of which some were named before
abbrev pub mention_sites : Names → (before : Names) → List Mention → List Site
mention_sites names before [] = []
mention_sites names before (m ∷ ms) =
    Uses Handed m.name m.at names ∷ Declares m.name m.at before ∷ mention_sites names (parameter names m ∷ before) ms

-- the variables that the names of a `do` list are in the body
abbrev pub parameters : Names → (before : Names) → List Mention → Names
parameters names before [] = before
parameters names before (m ∷ ms) = parameters names (parameter names m ∷ before) ms

-- the names in scope after a statement: a local is in scope from the end of its statement to the end of its block
abbrev pub names_after : Names → Phrase → Names
names_after names (Local kind x at e) = known x (Holds (Some kind)) ∷ names
names_after names (Assign x at e) = names
names_after names (Store o e v) = names
names_after names (If e first) = names
names_after names (IfElse e first other) = names
names_after names (For x at low high body) = names
names_after names (Withonly at section params body) = names
names_after names (With at section) = names
names_after names (Declare how at o) = names

-- the places of statements; in the body of a task only the items and the names of its `do` list are in scope
module _ (items : Names) where
  abbrev mutual
    -- those of a statement
    pub sites : Names → Phrase → List Site
    sites names (Local kind x at e) = Declares x at names ∷ needed kind names e
    sites names (Assign x at e) = Uses AsTarget x at names ∷ given (kind_of_name (found x names)) names e
    sites names (Store o e v) = object_sites names o ++ needed value.Int names e ++ needed value.Int names v
    sites names (If e first) = needed value.Bool names e ++ block_sites names first
    sites names (IfElse e first other) = needed value.Bool names e ++ block_sites names first ++ block_sites names other
    sites names (For x at low high body) =
        Declares x at names ∷ (needed value.Int names low ++ needed value.Int names high ++ block_sites (known x Turns ∷ names) body)
    sites names (Withonly at section params body) =
        block_sites names section ++ mention_sites names [] params ++ block_sites (parameters names [] params ++ items) body
    sites names (With at section) = block_sites names section
    sites names (Declare how at o) = object_sites names o

    -- those of statements, each with the names in scope after those before it
    pub block_sites : Names → Phrases → List Site
    block_sites names Done = []
    block_sites names (Then p more) = sites names p ++ block_sites (names_after names p) more

-- an item's name and what it stands for
abbrev pub item_known : Item → Known
item_known (item.Input x at) = known x Input
item_known (item.Single x at size) = known x Single
item_known (item.Family x at count size) = known x Family

-- the place of the name of an item
abbrev pub item_place : Item → Pos
item_place (item.Input x at) = at
item_place (item.Single x at size) = at
item_place (item.Family x at count size) = at

-- the names of items, in declared order
abbrev pub item_names : List Item → Names
item_names items = map item_known items

-- the amounts of an item, each with its limit
abbrev pub amount_sites : Item → List Site
amount_sites (item.Input x at) = []
amount_sites (item.Single x at size) = Amounts SIZE_LIMIT size ∷ []
amount_sites (item.Family x at count size) = Amounts OBJECT_LIMIT count ∷ Amounts SIZE_LIMIT size ∷ []

-- the places of items, of which some were declared before
abbrev pub item_sites : (before : List Item) → List Item → List Site
item_sites before [] = []
item_sites before (i ∷ items) =
    Declares (item_known i).name (item_place i) (item_names before) ∷ Counts before i
    ∷ (amount_sites i ++ item_sites (before ++ i ∷ []) items)

-- all places of a program
abbrev pub program_sites : PlacedProgram → List Site
program_sites p = item_sites [] p.items ++ block_sites (item_names p.items) (item_names p.items) p.main

-- ---- the rules

-- what is wrong with the use of a name that stands for something
abbrev pub misuse : Use → Meaning → Option StaticKind
misuse AsValue Input = None
misuse AsValue (Holds k) = None
misuse AsValue Turns = None
misuse AsValue Single = Some fault.Kind
misuse AsValue Family = Some fault.Kind
misuse AsTarget Input = Some fault.Assign
misuse AsTarget (Holds k) = None
misuse AsTarget Turns = Some fault.Assign
misuse AsTarget Single = Some fault.Kind
misuse AsTarget Family = Some fault.Kind
misuse Handed Input = Some fault.Kind
misuse Handed (Holds k) = None
misuse Handed Turns = None
misuse Handed Single = Some fault.Kind
misuse Handed Family = Some fault.Kind
misuse AsSingle Input = Some fault.Kind
misuse AsSingle (Holds k) = Some fault.Kind
misuse AsSingle Turns = Some fault.Kind
misuse AsSingle Single = None
misuse AsSingle Family = Some fault.Kind
misuse AsFamily Input = Some fault.Kind
misuse AsFamily (Holds k) = Some fault.Kind
misuse AsFamily Turns = Some fault.Kind
misuse AsFamily Single = Some fault.Kind
misuse AsFamily Family = None

-- a name that is not in scope is unknown, whatever it is used as
abbrev pub wrong_use : Use → Option Meaning → Option StaticKind
wrong_use how None = Some fault.Name
wrong_use how (Some m) = misuse how m

-- the name is in scope
abbrev pub is_known : Option Meaning → Bool
is_known None = false
is_known (Some m) = true

-- a value of no kind of its own counts as what is needed
abbrev pub suits : ValueKind → Option ValueKind → Bool
suits k None = true
suits k (Some j) = same_kind k j

-- the items whose own numbers are within their limits: only these count in the totals
abbrev pub counted : List Item → List Item
counted items = filter is_within items

-- the totals in which an item counts are kept
abbrev pub keeps_totals : Item → List Item → Bool
keeps_totals (item.Input x at) items = few_inputs items
keeps_totals (item.Single x at size) items = few_cells items
keeps_totals (item.Family x at count size) items = few_cells items

-- an item exceeds a total where, with those before it, it comes to more than is allowed
abbrev pub exceeds : (before : List Item) → Item → Bool
exceeds before i = is_within i && not (keeps_totals i (counted (before ++ i ∷ [])))

-- a kind of fault, where the test says so
abbrev pub when : Bool → StaticKind → Option StaticKind
when true k = Some k
when false k = None

-- the rule for each kind of place
abbrev pub fault_kind : Site → Option StaticKind
fault_kind (Uses how x at names) = wrong_use how (found x names)
fault_kind (Declares x at names) = when (is_known (found x names)) fault.Twice
fault_kind (Needs k e names) = when (not (suits k (kind_of names e))) fault.Kind
fault_kind (Amounts most n) = when (not (is_amount most n.value)) fault.Size
fault_kind (Counts before i) = when (exceeds before i) fault.Size

-- where a place of a program stands in its text
abbrev pub site_place : Site → Pos
site_place (Uses how x at names) = at
site_place (Declares x at names) = at
site_place (Needs k e names) = start e
site_place (Amounts most n) = n.pos
site_place (Counts before i) = item_place i

-- a fault of a kind at a place, where there is one
abbrev pub faulty : Pos → Option StaticKind → Option StaticFault
faulty at None = None
faulty at (Some k) = Some (record { pos = at; kind = k })

-- the fault of a place, if it has one
abbrev pub fault_at : Site → Option StaticFault
fault_at s = faulty (site_place s) (fault_kind s)

-- the faults of some places, in their order
abbrev pub faults_of : List Site → List StaticFault
faults_of places = filter_map fault_at places

-- all static faults of a program
abbrev pub static_faults : PlacedProgram → List StaticFault
static_faults p = faults_of (program_sites p)

-- ---- the first of them

-- the order of kinds at one place
abbrev pub rank : StaticKind → ℕ
rank fault.Name = 0
rank fault.Twice = 1
rank fault.Kind = 2
rank fault.Assign = 3
rank fault.Size = 4

-- by line, then by column, then by kind
abbrev pub is_earlier : StaticFault → StaticFault → Bool
is_earlier f g =
    is_lt (ordering_then (nat_cmp f.pos.line g.pos.line) (ordering_then (nat_cmp f.pos.column g.pos.column) (nat_cmp (rank f.kind) (rank g.kind))))

-- the earlier of a fault that was kept, if any, and another
abbrev pub keep : Option StaticFault → StaticFault → StaticFault
keep None g = g
keep (Some f) g = if is_earlier g f then g else f

-- what is kept where faults are gone through, always the earlier of two
abbrev pub kept : Option StaticFault → List StaticFault → Option StaticFault
kept f [] = f
kept f (g ∷ gs) = kept (Some (keep f g)) gs

-- the earliest of some faults
abbrev pub first_fault : List StaticFault → Option StaticFault
first_fault faults = kept None faults
