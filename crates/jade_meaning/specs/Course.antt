-- What a task goes on to do, as a tree: each read has a branch for each value that may be read.
use Rattle.std.specs.Prelude.{ℕ, zero, suc, ◌+◌, ◌-◌, Bool, true, false, List, [], ◌∷◌, ◌++◌, length, drop, Option, Some, None, ℤ, pos, ◌+ℤ◌, nat_lt}
use Rattle.std.specs.Prelude.{slice_set, replicate, if◌then◌else◌}
use Rattle.jade_base.specs.declared.place.Pos.{Pos}
use Rattle.jade_base.specs.declared.report.FaultKind.{FaultKind}
use Rattle.jade_base.specs.declared.report.FaultKind.TheVariants.{Index, Object, Right as RightFault, Cover, Change, Limit, Commute}
use Rattle.jade_base.specs.declared.report.Blame.{Blame}
use Rattle.jade_base.specs.declared.rights.Rights.{Rights}
use Rattle.jade_base.specs.Rights.{no_rights, both_rights, may_read, may_write, join}
use Rattle.jade_syntax.specs.declared.tree.Item.{Item}
use Rattle.jade_syntax.specs.declared.tree.Item.TheVariants.{Input, Single, Family}
use Rattle.jade_syntax.specs.declared.tree.DeclareWord.{DeclareWord}
use Rattle.jade_syntax.specs.Abstract.{Name, Expression, Whole, Truth, Variable, Group, Signed, Chain, Cell, Links, Last, Link, Place, Alone, Member}
use Rattle.jade_syntax.specs.Abstract.{Action, Local, Assign, Store, If, IfElse, For, Withonly, With, Declare, Actions, Done, Then, AbstractProgram}
use Rattle.jade_syntax.specs.Numbering.{same_name}
use Rattle.jade_syntax.specs.Objects.{amount, sizes}
use Rattle.jade_meaning.specs.declared.values.Value.{Value}
use Rattle.jade_meaning.specs.declared.values.Value.TheVariants.{IntOf, BoolOf}
use Rattle.jade_meaning.specs.declared.resolve.Range.{Range}
use Rattle.jade_meaning.specs.declared.resolve.ResolvedObject.{ResolvedObject}
use Rattle.jade_meaning.specs.Values.{Given, Gives, Fails, operated, decides, signed, whole, holds, is_index, magnitude, turn_count}
use Rattle.jade_meaning.specs.Specification.{Specification, rights_on, covers, fitted, is_commuting, may_commute}
use Rattle.jade_meaning.specs.Changes.{declared, amended}

-- what a task goes on to do
pub data Course : Type 0 where
  Reads : (object cell : ℕ) → (ℤ → Course) → Course
  Writes : (object cell : ℕ) → ℤ → Course → Course
  -- a step begun
  Steps : Course → Course
  -- a child's specification, what the child does, and what the task then does
  Creates : Specification → Course → Course → Course
  -- at `cont`, the specification from here on
  Changes : Specification → Course → Course
  Ends : Option Blame → Course

-- a variable and its value
pub record Binding : Type 0 where
  pub name : Name
  pub value : Value

-- the variables in scope, the newest first
abbrev pub Environment : Type 0
Environment = List Binding

-- the newest value of a name
abbrev pub value_of : Name → Environment → Value
value_of x [] = IntOf (pos 0)
value_of x (b ∷ env) = if same_name x b.name then b.value else value_of x env

-- the newest variable of a name with another value
abbrev pub assigned : Name → Value → Environment → Environment
assigned x v [] = []
assigned x v (b ∷ env) = if same_name x b.name then record b { value = v } ∷ env else b ∷ assigned x v env

-- the objects of a name, where o objects are declared before these items
abbrev pub range_from : ℕ → Name → List Item → Range
range_from o x [] = record { first = o; count = 0; size = 0 }
range_from o x (Input y at ∷ items) = range_from o x items
range_from o x (Single y at size ∷ items) =
    if same_name x y then record { first = o; count = 1; size = amount size.value } else range_from (suc o) x items
range_from o x (Family y at count size ∷ items) =
    if same_name x y then record { first = o; count = amount count.value; size = amount size.value }
    else range_from (o + amount count.value) x items

-- the inputs as variables with these values
abbrev pub inputs : List Item → List ℤ → Environment
inputs (Input y at ∷ items) (n ∷ ns) = record { name = y; value = IntOf n } ∷ inputs items ns
inputs (Input y at ∷ items) [] = inputs items []
inputs (Single y at size ∷ items) ns = inputs items ns
inputs (Family y at count size ∷ items) ns = inputs items ns
inputs [] ns = []

-- the specification that the section of a `withonly` or a `with` has made so far
pub data Draft : Type 0 where
  NoDraft : Draft
  Building : Specification → Draft
  Amending : Specification → Draft

-- the child's specification at the end of a section
abbrev pub drafted : Draft → Specification
drafted NoDraft = []
drafted (Building spec) = spec
drafted (Amending spec) = spec

-- what a task has of its own; `taken` counts the steps that it has begun
pub record Mine : Type 0 where
  pub env : Environment
  pub spec : Specification
  pub draft : Draft
  pub taken : ℕ

-- what every task of a run has: the items, the inputs, and the steps that one task may begin
pub record Setting : Type 0 where
  pub items : List Item
  pub given : Environment
  pub limit : ℕ

-- what is done from what a task has
abbrev pub On : Type 0
On = Mine → Course

-- the task ends with a fault at a place
abbrev pub fault : FaultKind → Pos → On
fault kind at m = Ends (Some (record { kind = kind; pos = Some at }))

-- the task ends
abbrev pub finish : On
finish m = Ends None

-- one of two
abbrev pub choose : Bool → On → On → On
choose true first other m = first m
choose false first other m = other m

-- why a task with too many steps ends
abbrev pub limit_blame : Blame
limit_blame = record { kind = Limit; pos = None }

-- a step is counted, or the task ends with the fault `limit`
abbrev pub step : ℕ → On → On
step limit on m =
    choose (nat_lt m.taken limit) (λ n. Steps (on (record n { taken = suc n.taken }))) (λ n. Ends (Some limit_blame)) m

-- what an operator gives, or the fault at the operator's place
abbrev pub given : Given → Pos → Mine → (Value → Course) → Course
given (Gives v) at m on = on v
given (Fails kind) at m on = fault kind at m

-- the place of an object's name in the text
abbrev pub place_of : Place → Pos
place_of (Alone x at) = at
place_of (Member x at e) = at

-- a member of a family, or the fault `object`
abbrev pub member : Range → ℤ → Pos → Mine → (ResolvedObject → Course) → Course
member r i at m on =
    choose (is_index i r.count) (λ n. on (record { number = r.first + magnitude i; size = r.size })) (fault Object at) m

-- a cell of an object, or the fault `index`
abbrev pub reach : ResolvedObject → ℤ → Pos → Mine → (ℕ → Course) → Course
reach o i at m on = choose (is_index i o.size) (λ n. on (magnitude i)) (fault Index at) m

-- a cell is read, or the fault `right`
abbrev pub read_cell : (o c : ℕ) → Pos → Mine → (Value → Course) → Course
read_cell o c at m on =
    choose (may_read (rights_on m.spec o)) (λ n. Reads o c (λ z. on (IntOf z))) (fault RightFault at) m

-- a cell is written, or the fault `right`
abbrev pub write_cell : (o c : ℕ) → ℤ → Pos → On → On
write_cell o c z at on m =
    choose (may_write (rights_on m.spec o)) (λ n. Writes o c z (on n)) (fault RightFault at) m

-- a new variable
abbrev pub bind : Name → Value → Mine → Mine
bind x v m = record m { env = record { name = x; value = v } ∷ m.env }

-- without the variables that came since
abbrev pub leave : Mine → Mine → Mine
leave before m = record m { env = drop (length m.env - length before.env) m.env }

-- a block's variables end with it
abbrev pub scoped : (On → On) → On → On
scoped body on m = body (λ n. on (leave m n)) m

-- the turns of a loop that are left: n, from the value i of its variable on, which ends with its turn
abbrev pub turns : ℕ → (n : ℕ) → (i : ℤ) → Name → (On → On) → On → On
turns limit zero i x body on m = on m
turns limit (suc n) i x body on m =
    step limit (λ a. scoped (λ k b. body k (bind x (IntOf i) b)) (turns limit n (i +ℤ pos 1) x body on) a) m

-- the changed rights on an object, or the fault `change`
abbrev pub amend : Option Rights → Specification → ℕ → Pos → On → On
amend None spec o at on m = fault Change at m
amend (Some a) spec o at on m = on (record m { draft = Amending (slice_set spec o a) })

-- a word of a section on an object
abbrev pub declare : Draft → DeclareWord → ℕ → Pos → On → On
declare NoDraft how o at on m = on m
declare (Building spec) how o at on m =
    on (record m { draft = Building (slice_set spec o (join (rights_on spec o) (declared how))) })
declare (Amending spec) how o at on m = amend (amended how (rights_on spec o)) spec o at on m

-- the variables of a `do` list with their values at the creation
abbrev pub copied : List Name → Environment → Environment
copied [] env = []
copied (x ∷ xs) env = record { name = x; value = value_of x env } ∷ copied xs env

-- what a child has at its start
abbrev pub child_start : Environment → Specification → Mine
child_start env spec = record { env = env; spec = spec; draft = NoDraft; taken = 0 }

-- a child is made with a specification, or the fault `cover`
abbrev pub create_covered : Setting → Pos → List Name → Specification → On → On → On
create_covered s at names child body on m =
    choose (covers m.spec child) (λ n. Creates child (body (child_start (copied names n.env ++ s.given) child)) (on (record n { draft = NoDraft })))
    (fault Cover at) m

-- the end of the section of a `withonly`: the child is made, or the fault `commute` or `cover`
abbrev pub create : Setting → Pos → List Name → On → On → On
create s at names body on m =
    let child = fitted m.spec (drafted m.draft) in
    choose (may_commute child) (create_covered s at names child body on) (fault Commute at) m

-- a section begins with this draft, or in a task that commutes the fault `commute`
abbrev pub section_begins : Pos → Draft → On → On
section_begins at draft on m = choose (is_commuting m.spec) (fault Commute at) (λ n. on (record n { draft = draft })) m

-- the task's own specification as the section of a `with` leaves it
abbrev pub working : Draft → Specification → Specification
working (Amending spec) before = spec
working NoDraft before = before
working (Building spec) before = before

-- the end of the section of a `with`
abbrev pub change : On → On
change on m =
    let new = fitted m.spec (working m.draft m.spec) in
    Changes new (on (record m { spec = new; draft = NoDraft }))

-- no rights on any object
abbrev pub none_of : List Item → Specification
none_of items = replicate (length (sizes items)) no_rights

module _ (s : Setting) where
  abbrev mutual
    -- an expression is evaluated, and what follows is given its value
    pub eval : Expression → Mine → (Value → Course) → Course
    eval (Whole z) m on = on (IntOf z)
    eval (Truth b) m on = on (BoolOf b)
    eval (Variable x) m on = on (value_of x m.env)
    eval (Group e) m on = eval e m on
    eval (Signed sign at e) m on = eval e m (λ v. given (signed sign v) at m on)
    eval (Chain e links) m on = eval e m (λ v. eval_links links v m on)
    eval (Cell o e) m on =
        find o m (λ f. eval e m (λ i. reach f (whole i) (place_of o) m (λ c. read_cell f.number c (place_of o) m on)))

    -- the rest of a chain, after the value of what stands before it
    pub eval_links : Links → Value → Mine → (Value → Course) → Course
    eval_links Last v m on = on v
    eval_links (Link op at e links) v m on =
        choose (decides op v) (λ n. on v) (λ n. eval e n (λ w. given (operated op v w) at n (λ u. eval_links links u n on))) m

    -- the object that is meant, and what follows is given it
    pub find : Place → Mine → (ResolvedObject → Course) → Course
    find (Alone x at) m on = let r = range_from 0 x s.items in on (record { number = r.first; size = r.size })
    find (Member x at e) m on = eval e m (λ i. member (range_from 0 x s.items) (whole i) at m on)

  abbrev mutual
    -- a statement, and then what follows
    pub run : Action → On → On
    run (Local kind x e) on m = eval e m (λ v. on (bind x v m))
    run (Assign x e) on m = eval e m (λ v. on (record m { env = assigned x v m.env }))
    run (Store o e v) on m =
        find o m (λ f. eval e m (λ i. reach f (whole i) (place_of o) m (λ c. eval v m (λ z. write_cell f.number c (whole z) (place_of o) on m))))
    run (If e first) on m = eval e m (λ v. choose (holds v) (scoped (run_all first) on) on m)
    run (IfElse e first other) on m =
        eval e m (λ v. choose (holds v) (scoped (run_all first) on) (scoped (run_all other) on) m)
    run (For x low high body) on m =
        eval low m (λ l. eval high m (λ h. turns s.limit (turn_count (whole l) (whole h)) (whole l) x (run_all body) on m))
    run (Withonly at section names body) on m =
        section_begins at (Building (none_of s.items)) (scoped (run_all section) (create s at names (run_all body finish) on)) m
    run (With at section) on m = section_begins at (Amending m.spec) (scoped (run_all section) (change on)) m
    run (Declare how at o) on m = find o m (λ f. declare m.draft how f.number at on m)

    -- statements in order, each a step, and then what follows
    pub run_all : Actions → On → On
    run_all Done on m = on m
    run_all (Then a b) on m = step s.limit (run a (run_all b on)) m

-- the whole task of `main` has all rights
abbrev pub root_spec : AbstractProgram → Specification
root_spec p = replicate (length (sizes p.items)) both_rights

-- what `main` does
abbrev pub root_course : AbstractProgram → (numbers : List ℤ) → (limit : ℕ) → Course
root_course p ns limit =
    let given = inputs p.items ns in
    run_all (record { items = p.items; given = given; limit = limit }) p.main finish (child_start given (root_spec p))
