-- What an expression comes to where its reads are answered by what cells hold, or by a list of answers.
use Rattle.std.specs.Prelude.{ℕ, suc, List, Option, Some, None, Result, Ok, Err, ℤ, slice_get, if◌then◌else◌}
use Rattle.jade_base.specs.declared.place.Pos.{Pos}
use Rattle.jade_base.specs.declared.report.FaultKind.TheVariants.{Index, Right as RightFault}
use Rattle.jade_base.specs.declared.report.Blame.{Blame}
use Rattle.jade_base.specs.Rights.{may_read}
use Rattle.jade_syntax.specs.declared.tree.Item.{Item}
use Rattle.jade_syntax.specs.Abstract.{Expression, Whole, Truth, Variable, Group, Signed, Chain, Cell, Links, Last, Link, Place, Alone, Member}
use Rattle.jade_meaning.specs.declared.source.Cells.{Cells}
use Rattle.jade_meaning.specs.declared.source.Cells.TheVariants.{Stored as StoredIn, Answered as AnsweredBy}
use Rattle.jade_meaning.specs.declared.source.Pause.{Pause}
use Rattle.jade_meaning.specs.declared.source.Pause.TheVariants.{Fault, Awaits as AwaitsOf}
use Rattle.jade_meaning.specs.declared.values.Value.{Value}
use Rattle.jade_meaning.specs.declared.values.Value.TheVariants.{IntOf, BoolOf}
use Rattle.jade_meaning.specs.declared.resolve.ResolvedObject.{ResolvedObject}
use Rattle.jade_meaning.specs.Values.{operated, decides, signed, whole, index_in}
use Rattle.jade_meaning.specs.Specification.{Specification, rights_on}
use Rattle.jade_meaning.specs.Course.{Environment, value_of, range_from, place_of}
use Rattle.jade_meaning.specs.Serial.{Store, cell}
use Rattle.jade_meaning.specs.steps.Direct.{blame_at, blamed, indexed, member_of, first_of}

-- a value, with the number of answers that are used by then; a read that has no answer; or a fault
pub data Evaluation (A : Type 0) : Type 0 where
  Got : A → (used : ℕ) → Evaluation A
  Awaits : (object cell : ℕ) → Evaluation A
  Faults : Blame → Evaluation A

-- where the reads of an expression find what cells hold
pub data Source : Type 0 where
  Stored : Store → Source
  Answers : List ℤ → Source

-- the cells of code
abbrev pub source : Cells → Source
source (StoredIn s) = Stored s.now
source (AnsweredBy vs) = Answers vs.now

-- why there is no value
abbrev pub stopped : {A : Type 0} → Pause → Evaluation A
stopped (Fault b) = Faults b
stopped (AwaitsOf o c) = Awaits o c

-- an answer of code, where so many answers are used by then
abbrev pub evaluated : {A : Type 0} → Result A Pause → (used : ℕ) → Evaluation A
evaluated (Ok x) n = Got x n
evaluated (Err p) n = stopped p

-- a value that is there, or a fault
abbrev pub kept : {A : Type 0} → Result A Blame → (used : ℕ) → Evaluation A
kept (Ok x) n = Got x n
kept (Err b) n = Faults b

infixl 10 ◌>>>◌
-- what follows is given what is there
abbrev pub ◌>>>◌ : {A B : Type 0} → Evaluation A → (A → ℕ → Evaluation B) → Evaluation B
Got x n >>> f = f x n
Awaits o c >>> f = Awaits o c
Faults b >>> f = Faults b

-- the answer to a read, if it is there
abbrev pub answered : Option ℤ → (object cell used : ℕ) → Evaluation ℤ
answered (Some v) o c n = Got v (suc n)
answered None o c n = Awaits o c

-- what a read gives
abbrev pub next_of : Source → (object cell used : ℕ) → Evaluation ℤ
next_of (Stored s) o c n = Got (cell s o c) n
next_of (Answers vs) o c n = answered (slice_get vs n) o c n

-- what a cell holds, or the fault `right`
abbrev pub evaluate_read : Specification → Source → (o c : ℕ) → Pos → (used : ℕ) → Evaluation Value
evaluate_read spec src o c at n =
    if may_read (rights_on spec o) then (next_of src o c n >>> λ z k. Got (IntOf z) k) else Faults (blame_at RightFault at)

module _ (items : List Item) (env : Environment) (spec : Specification) (src : Source) where
  abbrev mutual
    -- the value of an expression, where so many answers are used
    pub evaluate : Expression → ℕ → Evaluation Value
    evaluate (Whole z) n = Got (IntOf z) n
    evaluate (Truth b) n = Got (BoolOf b) n
    evaluate (Variable x) n = Got (value_of x env) n
    evaluate (Group e) n = evaluate e n
    evaluate (Signed sign at e) n = evaluate e n >>> λ v k. kept (blamed (signed sign v) at) k
    evaluate (Chain e links) n = evaluate e n >>> λ v k. evaluate_links links v k
    evaluate (Cell o e) n =
        evaluate_object o n >>> λ f k. evaluate e k >>> λ i j. kept (indexed (index_in (whole i) f.size) Index (place_of o)) j
        >>> λ c h. evaluate_read spec src f.number c (place_of o) h

    -- the value of a chain, after that of what stands before its links
    pub evaluate_links : Links → Value → ℕ → Evaluation Value
    evaluate_links Last v n = Got v n
    evaluate_links (Link op at e links) v n =
        if decides op v then Got v n else (evaluate e n >>> λ w k. kept (blamed (operated op v w) at) k >>> λ u j. evaluate_links links u j)

    -- the object that is meant
    pub evaluate_object : Place → ℕ → Evaluation ResolvedObject
    evaluate_object (Alone x at) n = Got (first_of (range_from 0 x items)) n
    evaluate_object (Member x at e) n = evaluate e n >>> λ i k. kept (member_of (range_from 0 x items) (whole i) at) k
