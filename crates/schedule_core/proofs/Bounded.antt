-- No core has done more events than the meaning has, by any turn lists that go on from those in the objects.
use Rattle.std.proofs.Common.{◌≡◌, ◌≤◌, ◌+◌, ℕ, List, [], ◌∷◌, ◌++◌, length, ap, ◌∙◌, Some, arith, length-append}
use Rattle.std.specs.Prelude.{ℤ, slice_get}
use Rattle.jade_syntax.specs.declared.tree.Program.{Program}
use Rattle.jade_syntax.specs.Abstract.{AbstractProgram}
use Rattle.jade_syntax.specs.Image.{program}
use Rattle.jade_syntax.specs.Objects.{sizes}
use Rattle.jade_meaning.specs.Course.{root_spec, root_course}
use Rattle.jade_meaning.specs.Talk.{talk}
use Rattle.jade_meaning.specs.Serial.{Path, Mark, deeds_at, reads_at}
use Rattle.jade_meaning.specs.Turns.{marks_by}
use Rattle.jade_meaning.specs.Laws.{root_task}
use Rattle.jade_meaning.specs.Proper.{Proper}
use Rattle.object_shelf.specs.Views.{ObjectView}
use Rattle.schedule_core.specs.declared.steps.Seat.{Seat}
use Rattle.task_roll.specs.declared.note.PartNote.{PartNote}
use Rattle.schedule_core.specs.Going.{to_come}
use Rattle.schedule_core.specs.Serially.{events_done}
use Rattle.schedule_core.specs.Soundness.{and_then}
use Rattle.schedule_core.specs.Counts.{events_of_all, total, Bounded}
use Rattle.schedule_core.proofs.Mirrors.{Kept, kept}
use Rattle.schedule_core.proofs.Follows.{deeds_both}
use Rattle.schedule_core.proofs.Following.{going_by, same_deeds, events_of, events_are, follow}
use Rattle.schedule_core.proofs.Counting.{events_at, all_events, all_done, made_both, same_made, done_less}

module _ (proper : (p : AbstractProgram) (ns : List ℤ) (limit : ℕ) → Proper (root_spec p) (root_course p ns limit)) (p : Program) (ns : List ℤ) (limit : ℕ) where
  module _ (k : ℕ) (seats : List Seat) (ss : List ObjectView) (notes : List PartNote) (x : Kept p ns limit k seats ss notes) (rest : ℕ → List Path) where
    abbrev run : List Mark
    run = marks_by (program p) ns limit (and_then ss rest)

    abbrev log : List Mark
    log = x.state.log

    abbrev later : List Mark
    later = to_come rest (length (sizes p.items)) x.state

    abbrev root_many : ℕ
    root_many = length (talk (root_task (program p) ns limit) (reads_at (0 ∷ []) run))

    deeds_are : (q : Path) → deeds_at q run ≡ deeds_at q log ++ deeds_at q later
    deeds_are q = same_deeds q run (log ++ later) ((going_by proper p ns limit k seats ss notes x rest).deeds q) ∙ deeds_both q log later

    counted_so : k + all_events run seats ≡ all_done seats + (root_many + events_of_all run log)
    counted_so = x.counted run (λ q. (deeds_at q later, deeds_are q))

    one : (i : ℕ) (s : Seat) → slice_get seats i ≡ Some s → s.walker.done ≤ events_at run s
    one i s at =
        let b = events_of proper p ns limit k seats ss notes x rest i s at in
        let f = follow proper p ns limit k seats ss notes x rest i s at in
        let a : events_at run s ≡ length (events_done s.walker ++ b.rest) = ap length b.is in
        let c = length-append (events_done s.walker) b.rest in
        let d : length (events_done s.walker) ≡ length f.done = ap length (events_are proper p ns limit k seats ss notes x rest i s at) in
        let e = f.many in
        omega arith

    made : events_of_all run run ≡ events_of_all run log + events_of_all run later
    made = same_made run run (log ++ later) (going_by proper p ns limit k seats ss notes x rest).deeds ∙ made_both run log later

    bounded_so : k ≤ total (program p) ns limit (and_then ss rest)
    bounded_so = let a = counted_so in let b = done_less run seats one in let c = made in omega arith

  pub bounded : Bounded p ns limit
  bounded = record { bounded = λ k roll ss notes r rest. bounded_so k roll ss notes (kept proper p ns limit k roll ss notes r) rest }
