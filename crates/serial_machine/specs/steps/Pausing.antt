-- A task that goes on to the next stop.
use Rattle.std.specs.Prelude.{◌≡◌, ℕ, ◌+◌, ◌<◌, ◌≤◌, List, length, Option, Some, None, slice_get}
use Rattle.jade_base.specs.declared.place.Pos.{Pos}
use Rattle.jade_base.specs.declared.rights.Mode.{Mode}
use Rattle.jade_base.specs.declared.rights.Mode.TheVariants.{Writing}
use Rattle.jade_base.specs.Held.{Held}
use Rattle.jade_meaning.specs.Specification.{Specification}
use Rattle.jade_meaning.specs.Spread.{spread}
use Rattle.jade_meaning.specs.Course.{Creates, Changes, Ends, Draft, NoDraft}
use Rattle.code_meaning.specs.declared.code.Instruction.{Instruction}
use Rattle.code_meaning.specs.declared.code.Instruction.TheVariants as i
use Rattle.code_meaning.specs.Meaning.{Children, from_place}
use Rattle.task_machine.specs.declared.frame.Frame.{Frame}
use Rattle.task_machine.specs.declared.section.Own.{Own}
use Rattle.task_machine.specs.Playing.{Contents}
use Rattle.task_machine.specs.Stages.{slots_of, copy_spread}
use Rattle.task_machine.specs.steps.Owning.{rights_of, draft_of}
use Rattle.task_machine.specs.steps.Running.{going}
use Rattle.serial_machine.specs.declared.going.Stop.{Stop}
use Rattle.serial_machine.specs.declared.going.Stop.TheVariants as stop
use Rattle.serial_machine.specs.steps.Stack.{Next, comes_to}

-- so many objects, these rights on them, and what a section has made
pub record Owns (u : Own) (objects : ℕ) (spec : Specification) (d : Draft) : Type 0 where
  pub objects_are : u.objects ≡ objects
  pub rights_are : rights_of u ≡ spec
  pub draft_is : draft_of u ≡ d

-- the mode in which an object is held
abbrev pub mode_in : Option Held → Option Mode
mode_in None = None
mode_in (Some h) = Some h.mode

-- each of so many objects is held for writing
pub record AllHeld (n : ℕ) (k : Contents) : Type 0 where
  pub held : (o : ℕ) → o < n → mode_in (k o) ≡ Some Writing

-- what comes next, by a stop
abbrev pub StopTells : Stop → Children → List Instruction → Own → Frame → Type 0
StopTells stop.End child code u g = going child code u g ≡ Ends None
StopTells (stop.Fault b) child code u g = going child code u g ≡ Ends (Some b)
StopTells (stop.Create number) child code u g =
    let made = spread u.objects u.child.entries in
    ((at : Pos) × (slice_get code g.place ≡ Some (i.Create number at)))
    × (going child code u g
    ≡ Creates made (child number (slots_of g.slots.items) made)
    (from_place child code g.left (g.place + 1) (slots_of g.slots.items) (rights_of u) NoDraft))
StopTells stop.Change child code u g =
    let new = copy_spread u.objects u.spec in
    (g.place < length code)
    × (going child code u g ≡ Changes new (from_place child code g.left (g.place + 1) (slots_of g.slots.items) new NoDraft))

-- a task has gone on so far: it comes to the same, whatever follows it
pub record GoesOn (code : List Instruction) (w : Own) (f : Frame) (k : Contents) (u : Own) (g : Frame) (l : Contents) : Type 0 where
  pub same : (child : Children) (count : ℕ) (x : Next)
      → comes_to (going child code w f) count f.left k x ≡ comes_to (going child code u g) count g.left l x
  pub fewer : g.left ≤ f.left
  pub slots : length g.slots.items ≡ length f.slots.items
  pub objects : u.objects ≡ w.objects
  pub modes : (o : ℕ) → mode_in (l o) ≡ mode_in (k o)

-- a task has gone on to a stop
pub record Stops (code : List Instruction) (w : Own) (f : Frame) (k : Contents) (p : Stop) (u : Own) (g : Frame) (l : Contents) : Type 0 where
  pub on : GoesOn code w f k u g l
  pub tells : (child : Children) → StopTells p child code u g

-- a task is at a stop where it stands, and goes on to do the same
pub record Outside (code : List Instruction) (w : Own) (f : Frame) (p : Stop) (u : Own) : Type 0 where
  pub same : (child : Children) → going child code w f ≡ going child code u f
  pub objects : u.objects ≡ w.objects
  pub tells : (child : Children) → StopTells p child code u f
