-- What a live task finds where it does its next event, as the functions that do it need it.
use Rattle.std.specs.Prelude.{◌≡◌, true, List, [], ◌∷◌, ◌++◌, None}
use Rattle.jade_meaning.specs.Talk.{Event, Enter, Enroll, Take, TouchRead, TouchWrite, Wants, Give, Leave, Shift, Resign}
use Rattle.jade_meaning.specs.Walk.{upcoming, First}
use Rattle.object_shelf.specs.Views.{ObjectView}
use Rattle.object_shelf.specs.Shelves.{keeper_in}
use Rattle.object_shelf.specs.Order.{fits}
use Rattle.object_shelf.specs.Takes.{MayTake}
use Rattle.object_shelf.specs.Whole.{is_out}
use Rattle.schedule_core.specs.declared.steps.Seat.{Seat}
use Rattle.schedule_core.specs.ByNumber.{shelf_at}

-- a take that no entry keeps it from finds what it is to be handed, a write the content out, and an enter the place of the child's entry
abbrev pub Finds : Event → Seat → List ObjectView → Type 0
Finds (Take o m) s ss = keeper_in s.path m (shelf_at ss o).queue ≡ None → MayTake m s.path (shelf_at ss o).queue
Finds (TouchWrite o c v) s ss = is_out (shelf_at ss o).queue ≡ true
Finds (Enter o a) s ss = fits s.path (s.path ++ s.children ∷ []) (shelf_at ss o).queue ≡ true
Finds (Enroll t n) s ss = Unit {0}
Finds (TouchRead o c v) s ss = Unit {0}
Finds (Wants o c) s ss = Unit {0}
Finds (Give o) s ss = Unit {0}
Finds (Leave o) s ss = Unit {0}
Finds (Shift o a) s ss = Unit {0}
Finds (Resign b n) s ss = Unit {0}

-- the same of the event that is next
abbrev pub FindsNext : Seat → List ObjectView → Type 0
FindsNext s ss = (e : Event) → First (upcoming s.walker) (λ x. x ≡ e) → Finds e s ss
