-- What a pass is between two calls, and what the calls answer.
use Rattle.std.specs.Prelude.{◌≡◌, ◌+◌, ◌<◌, ◌≤◌, ◌⊎◌, ℕ, suc, true, false, ◌||◌, List, [], ◌∷◌, ◌++◌, length, slice_get, Option, Some, None, Result, Ok, Err}
use Rattle.atomic_table.specs.Seated.{TableId}
use Rattle.jade_base.specs.Held.{Held}
use Rattle.jade_base.specs.declared.failure.Memory.{Memory}
use Rattle.jade_base.specs.declared.report.Blame.{Blame}
use Rattle.jade_base.specs.declared.report.Report.{Report}
use Rattle.jade_base.specs.declared.rights.Mode.{Mode}
use Rattle.jade_syntax.specs.Objects.{sizes}
use Rattle.jade_meaning.specs.Answer.{Answer, Faulted}
use Rattle.jade_meaning.specs.Serial.{Path}
use Rattle.jade_meaning.specs.Talk.{Task, Event, Enroll, Take, Resign}
use Rattle.jade_meaning.specs.Walk.{upcoming, First}
use Rattle.object_shelf.specs.declared.queue.Entry.{Entry}
use Rattle.object_shelf.specs.Views.{ShelfView}
use Rattle.object_shelf.specs.Shelves.{keeper_in}
use Rattle.object_shelf.specs.Homes.{hand_in}
use Rattle.schedule_core.specs.declared.steps.Seat.{Seat}
use Rattle.schedule_core.specs.Plain.{seat_after, Born}
use Rattle.jade_meaning.specs.Plan.{RunPlan}
use Rattle.object_table.specs.Tallies.{TallyView, stock, received, is_settled}
use Rattle.object_table.specs.Views.{View, worth}
use Rattle.object_table.specs.Touches.{put_held, all_touches}
use Rattle.object_table.specs.Plays.{joined, note_after, Seen, OneEvent, OwnEvent}
use Rattle.object_table.specs.declared.slot.Slot.TheVariants as slot
use Rattle.object_table.specs.declared.answers.Taken.{Taken}
use Rattle.object_table.specs.declared.answers.Taken.TheVariants as taken
use Rattle.object_table.specs.declared.answers.Tried.{Tried}
use Rattle.object_table.specs.declared.answers.Tried.TheVariants as tried

-- which table it is, which all its passes have too, and the plan that it is of
pub record Desk : Type 0 where
  pub mark : TableId
  pub plan : RunPlan

-- the pass of a task: the mark of its table, and what it shows
pub record Pass : Type 0 where
  pub mark : TableId
  pub shows : View

-- an answer that is a fault of a task
abbrev pub IsFault : Answer → Type 0
IsFault a = (p : Path) × (b : Blame) × (a ≡ Faulted p b)

-- what a run did, to its end, and the plan that it is of
pub record RanView : Type 0 where
  pub report : Report
  pub plan : RunPlan

-- an event is the next one of a live pass, whose children all have passes
pub record Next (e : Event) (v : View) : Type 0 where
  pub live : v.live ≡ true
  pub born : v.unborn ≡ None
  pub first : First (upcoming v.seat.walker) (λ x. x ≡ e)

-- as before, but for the tries and what the last of them found
pub record AsBefore (v w : View) : Type 0 where
  pub same : w ≡ record v { tries = w.tries; place = w.place; word = w.word; note = w.note }

-- one try more, which read 0 at this object, whose slot showed this
abbrev pub saw : ℕ → ShelfView → View → View
saw o x v = record v { tries = suc v.tries; place = o; word = 0; note = slot.Object x }

-- one try more, which read 1 at this place
abbrev pub found_busy : ℕ → View → View
found_busy o v = record v { tries = suc v.tries; place = o; word = 1 }

-- a Take: no entry keeps the task from it, the content is the one that the object hands out, with as many cells as the program says, and it
-- is held from then on; it is one event of a core
pub record Took (o : ℕ) (m : Mode) (c : Held) (v w : View) : Type 0 where
  pub object : ShelfView
  pub free : keeper_in v.seat.path m object.queue ≡ None
  pub content : hand_in v.seat.path m object ≡ Some c.cells
  pub mode : c.mode ≡ m
  pub sized : slice_get (sizes v.key.program.items) o ≡ Some (length c.cells)
  pub event : OneEvent (Take o m) o object v
  pub after : w ≡ record (saw o object v) { seat = seat_after None v.seat; held = put_held o (Some c) v.held }

-- the entry of this path keeps the task from a Take, as it was read in this turn; it is one that a core shows in which the task lives
pub record KeptBy (q : List ℕ) (o : ℕ) (m : Mode) (v w : View) : Type 0 where
  pub object : ShelfView
  pub seen : Seen o object v
  pub entry : Entry
  pub keeps : keeper_in v.seat.path m object.queue ≡ Some entry
  pub path : q ≡ entry.path
  pub after : w ≡ saw o object v

-- this try read that the word is taken
pub record IsBusy (n : ℕ) (o : ℕ) (v w : View) : Type 0 where
  pub word : n ≡ 1
  pub after : w ≡ found_busy o v

-- what a try to take an object answers
abbrev pub TakenAs : ℕ → Mode → View → Result Taken Memory → View → Type 0
TakenAs o m v (Ok (taken.Got c)) w = Took o m c v w
TakenAs o m v (Ok (taken.NotYet q)) w = KeptBy q o m v w
TakenAs o m v (Ok (taken.Busy n)) w = IsBusy n o v w
TakenAs o m v (Err e) w = AsBefore v w

-- the pass's next event on an object, which is one of a core and changes what the task holds to this
pub record Did (o : ℕ) (held : List (Option Held)) (v w : View) : Type 0 where
  pub object : ShelfView
  pub event : First (upcoming v.seat.walker) (λ e. OneEvent e o object v)
  pub after : w ≡ record (saw o object v) { seat = seat_after None v.seat; held = held }

-- what a try at such an event answers
abbrev pub TriedAs : ℕ → View → Tried → View → Type 0
TriedAs o v tried.Done w = Did o v.held v w
TriedAs o v (tried.Busy n) w = IsBusy n o v w

-- one try more, which read 0 at the roll's place, where the slot showed this
abbrev pub saw_roll : ℕ → TallyView → View → View
saw_roll o r v = record v { tries = suc v.tries; place = o; word = 0; note = slot.Roll r }

-- a creation, with so many steps in the part that ends, of which there is a note: it is one event of a core, which leaves the child's seat and the
-- task's own; the child has no pass yet
pub record Bore (steps : ℕ) (v w : View) : Type 0 where
  pub kid : Seat
  pub born : Born v.seat kid w.seat
  pub task : Task
  pub event : OwnEvent (Enroll task steps) v (kid ∷ (w.seat ∷ []))
  pub after : w ≡ record v {
    seat = w.seat;
    unborn = Some kid;
    notes = v.notes ++ note_after v steps None ∷ [];
    tickets = w.tickets;
    tries = w.tries;
    place = w.place;
    word = w.word;
    note = w.note;
  }

-- an end, with so many steps in the last part and this fault, if one, of which there is a note: it is one event of a core, which leaves no seat of
-- the task; it is live no longer
pub record Ended (b : Option Blame) (steps : ℕ) (v w : View) : Type 0 where
  pub event : OwnEvent (Resign b steps) v []
  pub spent : v.tickets ≡ suc w.tickets
  pub after : w ≡ record v {
    live = false;
    seat = seat_after None v.seat;
    notes = v.notes ++ note_after v steps b ∷ [];
    tickets = w.tickets;
  }

-- the task has ended, as of `Ended`, and its pass was taken into another, which showed k before and shows j now
pub record Retired (b : Option Blame) (steps : ℕ) (v k j : View) : Type 0 where
  pub last : View
  pub ended : Ended b steps v last
  pub after : j ≡ joined k last

-- all that the pass had was handed in: the roll's slot showed this, and the pass knows whether anything may still come
pub record HandedIn (o : ℕ) (v w : View) : Type 0 where
  pub roll : TallyView
  pub counts : worth v ≤ roll.due
  pub after : w ≡ record (saw_roll o roll v) { tickets = 0; notes = []; over = v.over || is_settled (received (worth v) v.notes roll) }

-- a pass got tickets
pub record Restocked (o : ℕ) (v w : View) : Type 0 where
  pub roll : TallyView
  pub after : w ≡ record (saw_roll o roll v) { tickets = v.tickets + stock }

-- a ticket is spent, and no try made
pub record SpentOne (v w : View) : Type 0 where
  pub tickets : v.tickets ≡ suc w.tickets
  pub tries : w ≡ record w { tries = v.tries; place = v.place; word = v.word; note = v.note }

-- a ticket is spent: of those that the pass had, where these are more than two, or else of those that it got first
pub record Spent (o : ℕ) (v w : View) : Type 0 where
  pub stocked : View
  pub got : ((2 < v.tickets) × (stocked ≡ v)) ⊎ ((v.tickets ≤ 2) × Restocked o v stocked)
  pub one : SpentOne stocked w

-- what a try at a creation answers
abbrev pub EnrolledAs : ℕ → (steps : ℕ) → View → Tried → View → Type 0
EnrolledAs o steps v tried.Done w = Bore steps v w × Spent o v w
EnrolledAs o steps v (tried.Busy n) w = (v.tickets ≤ 2) × IsBusy n o v w

-- what a try to get tickets answers
abbrev pub RestockedAs : ℕ → View → Tried → View → Type 0
RestockedAs o v tried.Done w = Restocked o v w
RestockedAs o v (tried.Busy n) w = IsBusy n o v w

-- a pass has nothing to hand in
abbrev pub Empty : View → Type 0
Empty v = worth v ≡ 0

-- what a try to hand in answers: where there is nothing to hand in, none was made
abbrev pub HandedInAs : ℕ → View → Tried → View → Type 0
HandedInAs o v tried.Done w = (Empty v × (w ≡ v)) ⊎ HandedIn o v w
HandedInAs o v (tried.Busy n) w = IsBusy n o v w

-- a pass whose task has ended
pub record IsGone (v : View) : Type 0 where
  pub live : v.live ≡ false
  pub born : v.unborn ≡ None

-- the next k events are touches, after which so many events are done
pub record Comes (k events : ℕ) (v : View) : Type 0 where
  pub count : events ≡ v.seat.walker.done + k
  pub touches : all_touches k v ≡ true
