-- Touches: a task reads and writes what it holds, which no slot shows.
use Rattle.std.specs.Prelude.{ℕ, zero, suc, Bool, true, false, ◌&&◌, List, [], ◌∷◌, Option, Some, None, ℤ}
use Rattle.jade_base.specs.Held.{Held}
use Rattle.jade_meaning.specs.Talk.{Event, Enter, Enroll, Take, TouchRead, TouchWrite, Wants, Give, Leave, Shift, Resign}
use Rattle.jade_meaning.specs.Walk.{upcoming}
use Rattle.object_shelf.specs.Shelves.{value_in}
use Rattle.object_shelf.specs.Whole.{with_cell}
use Rattle.schedule_core.specs.Plain.{seat_after}
use Rattle.object_table.specs.Views.{View}

-- the content held of an object, by its number
abbrev pub held_at : ℕ → List (Option Held) → Option Held
held_at o [] = None
held_at zero (x ∷ xs) = x
held_at (suc o) (x ∷ xs) = held_at o xs

-- the same once this is held of an object
abbrev pub put_held : ℕ → Option Held → List (Option Held) → List (Option Held)
put_held zero h [] = h ∷ []
put_held zero h (x ∷ xs) = h ∷ xs
put_held (suc o) h [] = None ∷ put_held o h []
put_held (suc o) h (x ∷ xs) = x ∷ put_held o h xs

abbrev pub cells_of : Option Held → List ℤ
cells_of None = []
cells_of (Some h) = h.cells

-- the next event is a read or a write
abbrev pub is_touch : Event → Bool
is_touch (Wants o c) = true
is_touch (TouchWrite o c v) = true
is_touch (TouchRead o c v) = false
is_touch (Enter o a) = false
is_touch (Enroll t n) = false
is_touch (Take o m) = false
is_touch (Give o) = false
is_touch (Leave o) = false
is_touch (Shift o a) = false
is_touch (Resign b n) = false

abbrev pub touches_first : List Event → Bool
touches_first [] = false
touches_first (e ∷ es) = is_touch e

abbrev pub touch_next : View → Bool
touch_next v = touches_first (upcoming v.seat.walker)

-- a read is answered by what is held, and a write changes it
abbrev pub touched_by : Event → View → View
touched_by (Wants o c) v = record v { seat = seat_after (Some (value_in (cells_of (held_at o v.held)) c)) v.seat }
touched_by (TouchWrite o c x) v = record v { seat = seat_after None v.seat; held = put_held o (with_cell c x (held_at o v.held)) v.held }
touched_by (TouchRead o c x) v = v
touched_by (Enter o a) v = v
touched_by (Enroll t n) v = v
touched_by (Take o m) v = v
touched_by (Give o) v = v
touched_by (Leave o) v = v
touched_by (Shift o a) v = v
touched_by (Resign b n) v = v

abbrev pub touched_first : List Event → View → View
touched_first [] v = v
touched_first (e ∷ es) v = touched_by e v

-- one touch further
abbrev pub touched : View → View
touched v = touched_first (upcoming v.seat.walker) v

-- so many touches further
abbrev pub passed : ℕ → View → View
passed zero v = v
passed (suc k) v = touched (passed k v)

-- so many touches come next
abbrev pub all_touches : ℕ → View → Bool
all_touches zero v = true
all_touches (suc k) v = all_touches k v && touch_next (passed k v)
