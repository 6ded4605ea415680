-- What a pass shows once its task has ended, where it is taken into another at once.
use Rattle.std.proofs.Common.{◌≡◌, ℕ, List, ◌<◌, ◌+◌, ◌-◌, ◌%◌, ◌^◌, [], ◌∷◌, ◌++◌, length, refl, ap, ◌∙◌, arith, Option}
use mathlib.Core.Option.{none}
use Rattle.atomic_table.specs.Table.{step}
use Rattle.atomic_table.specs.declared.shared.Seat.{Seat}
use Rattle.jade_base.specs.declared.report.Blame.{Blame}
use Rattle.jade_meaning.specs.Plan.{RunPlan}
use Rattle.jade_meaning.specs.Talk.{Resign}
use Rattle.task_roll.specs.declared.note.PartNote.{PartNote}
use Rattle.object_table.specs.Views.{View}
use Rattle.object_table.specs.Plays.{did_resign}
use Rattle.object_table.specs.Calls.{Next, Ended, IsGone}
use Rattle.object_table.specs.steps.Kept.{Rests, Laws, shown}
use Rattle.object_table.specs.declared.task.Task.{Task}
use Rattle.object_table.specs.declared.slot.Slot.{Slot}
use Rattle.object_table.proofs.RollCalls.{has_ticket, resigned_is, resigned_rests, resigned_shown}

-- one note more
pub one_more : (ns : List PartNote) (n : PartNote) → length (ns ++ n ∷ []) ≡ length ns + 1
one_more [] n = omega arith
one_more (m ∷ ns) n = let l = one_more ns n in omega (arith, l)

-- a task that has ended, before its token is taken into another
module _ (u : Task) (q : Rests u) (key : RunPlan) (laws : Laws key) (slots : ℕ) (blame : Option Blame) (steps : ℕ) (next : Next (Resign blame steps) (shown u))
    (x : ℕ) (seat : Seat Slot View) (did : did_resign (step slots 0 0 0 none) u.seat.me x seat.me) where
  abbrev pub last : Task
  last = record u {
    seat = seat;
    tickets = u.tickets - 1;
    notes = u.notes ++ record { path = u.path; children = u.children; steps = steps; blame = blame } ∷ [];
    events = (u.events + 1) % 2 ^ 64;
    touched = 0;
  }

  pub last_rests : Rests last
  last_rests =
      let some = has_ticket u q key laws slots blame steps next in
      resigned_rests u q key laws slots blame steps next last (resigned_is u q key laws slots blame steps next x seat.me did).0 (refl, refl) refl refl refl
      (omega (arith, some)) refl

  pub last_ended : Ended blame steps (shown u) (shown last)
  last_ended =
      let e = resigned_is u q key laws slots blame steps next x seat.me did in
      resigned_shown u q key laws slots blame steps next last e.0 (refl, refl) e.2

  pub last_gone : IsGone (shown last)
  last_gone = record { live = ap (λ (z : View). z.live) last_ended.after; born = ap (λ (z : View). z.unborn) last_ended.after ∙ next.born }
