-- Encodings of what a pass shows.
use Rattle.std.specs.Prelude.{ℕ, Bool, List, Option, ℤ, refl}
use Rattle.std.specs.Coded.{Coded, code_by, coded×, coded_list, coded_option, coded_bool, coded_ℕ, coded_ℤ}
use Rattle.jade_base.specs.Held.{Held}
use Rattle.jade_base.specs.contracts.content.Content as content
use Rattle.jade_base.specs.declared.report.Report.{Report}
use Rattle.jade_base.specs.contracts.report.Report as report
use Rattle.task_roll.specs.declared.note.PartNote.{PartNote}
use Rattle.task_roll.specs.contracts.note.PartNote as note
use Rattle.jade_syntax.specs.declared.tree.Program.{Program}
use Rattle.jade_syntax.specs.contracts.tree.Program as tree
use Rattle.jade_meaning.specs.Walks.{Walk}
use Rattle.jade_meaning.specs.Encodings.{coded_walk}
use Rattle.schedule_core.specs.declared.steps.Seat.{Seat}
use Rattle.jade_meaning.specs.Plan.{RunPlan}
use Rattle.object_table.specs.Views.{View}
use Rattle.object_table.specs.Calls.{Pass, Desk, RanView}
use Rattle.atomic_table.specs.Seated.{TableId, table_id_coded}
use Rattle.object_table.specs.declared.slot.Slot.{Slot}
use Rattle.object_table.specs.contracts.slot.Slot as slot

-- of a plan
abbrev pub coded_plan : Coded RunPlan
coded_plan =
    code_by (Program × (List ℤ × ℕ)) (coded× tree.the_row.coded (coded× (coded_list coded_ℤ) coded_ℕ))
    (λ k. (k.program, (k.numbers, k.limit))) (λ p. record { program = p.0; numbers = p.1.0; limit = p.1.1 }) (λ _. refl)

-- of a seat
abbrev pub coded_seat : Coded Seat
coded_seat =
    code_by (List ℕ × (Walk × ℕ)) (coded× (coded_list coded_ℕ) (coded× coded_walk coded_ℕ))
    (λ s. (s.path, (s.walker, s.children))) (λ p. record { path = p.0; walker = p.1.0; children = p.1.1 }) (λ _. refl)

-- of the contents held
abbrev pub coded_holds : Coded (List (Option Held))
coded_holds = coded_list (coded_option content.the_row.coded)

-- what a pass has of what may still come
abbrev Hand : Type 0
Hand = Bool × (ℕ × List PartNote)

abbrev coded_hand : Coded Hand
coded_hand = coded× coded_bool (coded× coded_ℕ (coded_list note.the_row.coded))

-- a task's side of what a pass shows
abbrev Side : Type 0
Side = RunPlan × (Bool × (Option Seat × (Seat × (List (Option Held) × Hand))))

abbrev coded_side : Coded Side
coded_side = coded× coded_plan (coded× coded_bool (coded× (coded_option coded_seat) (coded× coded_seat (coded× coded_holds coded_hand))))

-- and the table's
abbrev Tries : Type 0
Tries = Bool × (ℕ × (ℕ × (ℕ × Slot)))

abbrev coded_tries : Coded Tries
coded_tries = coded× coded_bool (coded× coded_ℕ (coded× coded_ℕ (coded× coded_ℕ slot.the_row.coded)))

abbrev view_of : Side × Tries → View
view_of p = record {
  key = p.0.0;
  live = p.0.1.0;
  unborn = p.0.1.1.0;
  seat = p.0.1.1.1.0;
  held = p.0.1.1.1.1.0;
  over = p.0.1.1.1.1.1.0;
  tickets = p.0.1.1.1.1.1.1.0;
  notes = p.0.1.1.1.1.1.1.1;
  turn = p.1.0;
  tries = p.1.1.0;
  place = p.1.1.1.0;
  word = p.1.1.1.1.0;
  note = p.1.1.1.1.1;
}

-- of what a pass shows
abbrev pub coded_view : Coded View
coded_view =
    code_by (Side × Tries) (coded× coded_side coded_tries)
    (λ v. ((v.key, (v.live, (v.unborn, (v.seat, (v.held, (v.over, (v.tickets, v.notes))))))), (v.turn, (v.tries, (v.place, (v.word, v.note)))))) view_of (λ _. refl)

-- of a pass, and of a table
abbrev pub coded_pass : Coded Pass
coded_pass = code_by (TableId × View) (coded× table_id_coded coded_view) (λ p. (p.mark, p.shows)) (λ q. record { mark = q.0; shows = q.1 }) (λ _. refl)

abbrev pub coded_desk : Coded Desk
coded_desk = code_by (TableId × RunPlan) (coded× table_id_coded coded_plan) (λ d. (d.mark, d.plan)) (λ q. record { mark = q.0; plan = q.1 }) (λ _. refl)

-- of what a run did
abbrev pub coded_ran : Coded RanView
coded_ran =
    code_by (Report × RunPlan) (coded× report.the_row.coded coded_plan) (λ r. (r.report, r.plan)) (λ p. record { report = p.0; plan = p.1 }) (λ _. refl)
