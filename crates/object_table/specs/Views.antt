-- What a pass shows of its task, and what the slots show of the objects and of the roll.
use Rattle.std.specs.Prelude.{ℕ, ◌+◌, ◌*◌, Bool, true, false, List, [], ◌∷◌, ◌++◌, length, Option, Some, None, ℤ, if◌then◌else◌, nat_eq}
use Rattle.jade_base.specs.Held.{Held}
use Rattle.jade_syntax.specs.Objects.{sizes}
use Rattle.object_shelf.specs.Views.{ObjectView, ShelfView}
use Rattle.object_shelf.specs.Whole.{is_out}
use Rattle.schedule_core.specs.declared.steps.Seat.{Seat}
use Rattle.task_roll.specs.declared.note.PartNote.{PartNote}
use Rattle.task_roll.specs.Rolls.{by_key}
use Rattle.schedule_core.specs.ByNumber.{shelf_at}
use Rattle.jade_meaning.specs.Plan.{RunPlan}
use Rattle.object_table.specs.Tallies.{TallyView}
use Rattle.object_table.specs.declared.slot.Slot.{Slot}
use Rattle.object_table.specs.declared.slot.Slot.TheVariants as slot

-- how many objects a plan's program declares
abbrev pub count_of : RunPlan → ℕ
count_of k = length (sizes k.program.items)

-- the number of the word of a place: words lie so far apart that no two share a pair of cache lines, and the table's first is that of no place
abbrev pub word_of : ℕ → ℕ
word_of o = o * 16 + 16

-- what a pass shows: the plan; whether its task is live; the seat of the child that it enrolled last, while that has no pass; its task's seat,
-- with its path, the values read and the events done; by object the contents held; whether it knows that nothing may still come, by what it, or a
-- pass taken into it, handed in; its tickets, and the notes that it has in hand; whether it has a turn; how often it tried; and of the last try the
-- object, the word read and what the slot showed
pub record View : Type 0 where
  pub key : RunPlan
  pub live : Bool
  pub unborn : Option Seat
  pub seat : Seat
  pub held : List (Option Held)
  pub over : Bool
  pub tickets : ℕ
  pub notes : List PartNote
  pub turn : Bool
  pub tries : ℕ
  pub place : ℕ
  pub word : ℕ
  pub note : Slot

-- the content, while no task has it out
abbrev pub home_if : Bool → List ℤ → Option (List ℤ)
home_if true xs = None
home_if false xs = Some xs

-- an object, without the content that a task has out
abbrev pub shelf_of : ObjectView → ShelfView
shelf_of x = record { queue = x.queue; home = home_if (is_out x.queue) x.content; turns = x.turns }

-- the notes of the core, by key, that notes in any order are
abbrev pub core_notes : List PartNote → List PartNote
core_notes ns = by_key ns

-- what a pass has of what may still come
abbrev pub worth : View → ℕ
worth v = v.tickets + length v.notes

abbrev pub worths : List View → ℕ
worths [] = 0
worths (v ∷ vs) = worth v + worths vs

-- the notes that passes have in hand
abbrev pub in_hand : List View → List PartNote
in_hand [] = []
in_hand (v ∷ vs) = v.notes ++ in_hand vs

-- all notes: those that were handed in, and those in hand
abbrev pub gathered : TallyView → List View → List PartNote
gathered r vs = r.notes ++ in_hand vs

-- what the slot of a number shows: that of an object the object, and the last one the roll's
abbrev pub part_of : (count number : ℕ) → TallyView → List ObjectView → Slot
part_of n o r ss = if nat_eq o n then slot.Roll r else slot.Object (shelf_of (shelf_at ss o))
