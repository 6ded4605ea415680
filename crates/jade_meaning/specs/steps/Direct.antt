-- What a task does from a store on, said at once and not as a course: the value of an expression, and where a
-- statement leaves the task and its run.
use Rattle.std.specs.Prelude.{ℕ, ◌+◌, List, Option, Some, None, Result, Ok, Err, ℤ, slice_set, if◌then◌else◌}
use Rattle.jade_base.specs.declared.place.Pos.{Pos}
use Rattle.jade_base.specs.declared.report.FaultKind.{FaultKind}
use Rattle.jade_base.specs.declared.report.FaultKind.TheVariants.{Index, Object, Right as RightFault, Change}
use Rattle.jade_base.specs.declared.report.Blame.{Blame}
use Rattle.jade_base.specs.declared.rights.Rights.{Rights}
use Rattle.jade_base.specs.Rights.{may_read, join}
use Rattle.jade_syntax.specs.declared.tree.Item.{Item}
use Rattle.jade_syntax.specs.declared.tree.DeclareWord.{DeclareWord}
use Rattle.jade_syntax.specs.Abstract.{Expression, Whole, Truth, Variable, Group, Signed, Chain, Cell, Links, Last, Link, Place, Alone, Member}
use Rattle.jade_meaning.specs.declared.values.Value.{Value}
use Rattle.jade_meaning.specs.declared.values.Value.TheVariants.{IntOf, BoolOf}
use Rattle.jade_meaning.specs.declared.resolve.Range.{Range}
use Rattle.jade_meaning.specs.declared.resolve.ResolvedObject.{ResolvedObject}
use Rattle.jade_meaning.specs.Values.{Given, Gives, Fails, operated, decides, signed, whole, index_in}
use Rattle.jade_meaning.specs.Specification.{Specification, rights_on}
use Rattle.jade_meaning.specs.Course.{Environment, Draft, NoDraft, Building, Amending, value_of, range_from, place_of}
use Rattle.jade_meaning.specs.Changes.{declared, amended}
use Rattle.jade_meaning.specs.Serial.{Store, cell}

-- a value or a fault, as what an operator gives
abbrev pub as_given : Result Value FaultKind → Given
as_given (Ok v) = Gives v
as_given (Err kind) = Fails kind

-- a fault at a place
abbrev pub blame_at : FaultKind → Pos → Blame
blame_at kind at = record { kind = kind; pos = Some at }

infixl 10 ◌>>=◌
-- what follows is given what is there, and a fault stays
abbrev pub ◌>>=◌ : {A B : Type 0} → Result A Blame → (A → Result B Blame) → Result B Blame
Ok x >>= f = f x
Err b >>= f = Err b

-- what an operator gives, or its fault at a place
abbrev pub blamed : Given → Pos → Result Value Blame
blamed (Gives v) at = Ok v
blamed (Fails kind) at = Err (blame_at kind at)

-- an index that is there, or a fault
abbrev pub indexed : Option ℕ → FaultKind → Pos → Result ℕ Blame
indexed (Some i) kind at = Ok i
indexed None kind at = Err (blame_at kind at)

-- a member of a family, or the fault `object`
abbrev pub member_of : Range → ℤ → Pos → Result ResolvedObject Blame
member_of r z at = indexed (index_in z r.count) Object at >>= λ i. Ok (record { number = r.first + i; size = r.size })

-- what a cell holds, or the fault `right`
abbrev pub read_of : Specification → Store → (o c : ℕ) → Pos → Result Value Blame
read_of spec store o c at =
    if may_read (rights_on spec o) then Ok (IntOf (cell store o c)) else Err (blame_at RightFault at)

-- the objects that a name stands for, where it stands alone
abbrev pub first_of : Range → ResolvedObject
first_of r = record { number = r.first; size = r.size }

-- the draft after an amendment, if there is one, or the fault `change`
abbrev pub amended_with : Option Rights → Specification → (o : ℕ) → Pos → Result Draft Blame
amended_with None spec o at = Err (blame_at Change at)
amended_with (Some a) spec o at = Ok (Amending (slice_set spec o a))

-- the draft after a word of a section on an object, or the fault `change`
abbrev pub drafted_with : Draft → DeclareWord → (o : ℕ) → Pos → Result Draft Blame
drafted_with NoDraft how o at = Ok NoDraft
drafted_with (Building spec) how o at = Ok (Building (slice_set spec o (join (rights_on spec o) (declared how))))
drafted_with (Amending spec) how o at = amended_with (amended how (rights_on spec o)) spec o at

module _ (items : List Item) (env : Environment) (spec : Specification) (store : Store) where
  abbrev mutual
    -- the value of an expression
    pub worth : Expression → Result Value Blame
    worth (Whole z) = Ok (IntOf z)
    worth (Truth b) = Ok (BoolOf b)
    worth (Variable x) = Ok (value_of x env)
    worth (Group e) = worth e
    worth (Signed sign at e) = worth e >>= λ v. blamed (signed sign v) at
    worth (Chain e links) = worth e >>= λ v. linked links v
    worth (Cell o e) =
        located o >>= λ f. worth e >>= λ i. indexed (index_in (whole i) f.size) Index (place_of o) >>= λ c. read_of spec store f.number c (place_of o)

    -- the value of a chain, after that of what stands before its links
    pub linked : Links → Value → Result Value Blame
    linked Last v = Ok v
    linked (Link op at e links) v =
        if decides op v then Ok v else (worth e >>= λ w. blamed (operated op v w) at >>= λ u. linked links u)

    -- the object that is meant
    pub located : Place → Result ResolvedObject Blame
    located (Alone x at) = Ok (first_of (range_from 0 x items))
    located (Member x at e) = worth e >>= λ i. member_of (range_from 0 x items) (whole i) at
