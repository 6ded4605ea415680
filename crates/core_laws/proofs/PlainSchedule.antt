-- Where no task commutes the first live task waits for no holder for commuting, and the events are those of the plain serial run.
use Rattle.std.proofs.Common.{◌≡◌, ◌≤◌, ℕ, ◌+◌, true, List, [], ◌∷◌, length, Some, refl, subst}
use Rattle.std.specs.Prelude.{ℤ, slice_get}
use Rattle.jade_base.specs.declared.rights.Mode.TheVariants.{Commuting}
use Rattle.jade_syntax.specs.declared.tree.Program.{Program}
use Rattle.jade_syntax.specs.Image.{program}
use Rattle.jade_meaning.specs.Laws.{RunsPlainly, root_task}
use Rattle.jade_meaning.specs.Serial.{Path, Mark, reads_at}
use Rattle.jade_meaning.specs.Talk.{Take, talk}
use Rattle.jade_meaning.specs.Walk.{upcoming, First}
use Rattle.object_shelf.specs.Views.{ObjectView}
use Rattle.schedule_core.specs.declared.steps.Seat.{Seat}
use Rattle.schedule_core.specs.Counts.{events_of_all, Bounded}
use Rattle.schedule_core.specs.Mirror.{GoesOn, itself, holder}
use Rattle.schedule_core.specs.Plain.{Reached, free_in}
use Rattle.schedule_core.specs.Soundness.{and_then, NeverStuck}
use Rattle.task_roll.specs.declared.note.PartNote.{PartNote}
use Rattle.core_laws.specs.PlainSchedule.{PlainSchedule}

-- who waits for no holder may go on itself
by_itself : (roll : List Seat) (ss : List ObjectView) (s : Seat) → ((o : ℕ) → First (upcoming s.walker) (λ x. x ≡ Take o Commuting) → ⊥) → GoesOn roll ss s
    → First (upcoming s.walker) (λ e. free_in e s.path ss ≡ true)
by_itself roll ss s none (itself h) = h
by_itself roll ss s none (holder o i u e next keeper path hold live free) = absurd (none o next)

pub plain_schedule : (p : Program) (ns : List ℤ) (limit : ℕ) → ((turns : ℕ → List Path) → RunsPlainly (program p) ns limit turns) → NeverStuck p ns limit
    → Bounded p ns limit
    → ((k : ℕ) (roll : List Seat) (ss : List ObjectView) (notes : List PartNote) → Reached p ns limit k roll ss notes → (i : ℕ) (s : Seat)
    → slice_get roll i ≡ Some s → (o : ℕ) → First (upcoming s.walker) (λ x. x ≡ Take o Commuting) → ⊥)
    → PlainSchedule p ns limit
plain_schedule p ns limit plain stuck bound none = record {
  goes_on = λ k s seats ss notes r. by_itself (s ∷ seats) ss s (none k (s ∷ seats) ss notes r 0 s refl) (stuck.goes_on k s seats ss notes r);
  bounded = λ k roll ss notes r.
      subst (λ (run : List Mark). k ≤ length (talk (root_task (program p) ns limit) (reads_at (0 ∷ []) run)) + events_of_all run run)
      (plain (and_then ss (λ o. []))).marks (bound.bounded k roll ss notes r (λ o. []));
}
