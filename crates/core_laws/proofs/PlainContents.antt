-- Where no task commutes what is left, the contents and the reads are those of the plain serial run, and nobody has a turn.
use Rattle.std.proofs.Common.{◌≡◌, ℕ, List, [], ◌∷◌, ◌++◌, sym, ap, ◌∙◌, subst}
use Rattle.std.specs.Prelude.{ℤ}
use Rattle.jade_syntax.specs.declared.tree.Program.{Program}
use Rattle.jade_syntax.specs.Image.{program}
use Rattle.jade_syntax.specs.Abstract.{AbstractProgram}
use Rattle.jade_meaning.specs.Course.{root_spec, root_course}
use Rattle.jade_meaning.specs.Laws.{NoneCommutes, RunsPlainly, child_path}
use Rattle.jade_meaning.specs.Proper.{Proper}
use Rattle.jade_meaning.specs.Serial.{Path, Mark, reads_at}
use Rattle.jade_meaning.specs.Turns.{marks_by}
use Rattle.schedule_core.specs.EntryRights.{EntriesHaveRights}
use Rattle.schedule_core.specs.Serially.{Begins, ReadsAreSerial, TasksAreSerial}
use Rattle.core_laws.proofs.Uncommuting.{entry_plain}
use Rattle.object_shelf.specs.Shelves.{content_for}
use Rattle.schedule_core.specs.ByNumber.{shelf_at}
use Rattle.schedule_core.specs.Plain.{Reached, value_at}
use Rattle.schedule_core.specs.Remains.{turns_among}
use Rattle.schedule_core.specs.declared.steps.Seat.{Seat}
use Rattle.schedule_core.specs.Works.{Work, Wrote, Turned, works_on}
use Rattle.object_shelf.specs.Views.{ObjectView}
use Rattle.task_roll.specs.declared.note.PartNote.{PartNote}
use Rattle.schedule_core.proofs.Located.{turns_are}
use Rattle.schedule_core.proofs.Reporting.{turns_at}
use Rattle.schedule_core.specs.Soundness.{and_then, turns_of}
use Rattle.core_laws.specs.ByPlace.{content_before, content_at, ContentsByPlace}
use Rattle.core_laws.specs.PlainContents.{PlainContents}
use Rattle.core_laws.specs.WhatIsLeft.{WhatIsLeft, SomeIsLeft}

-- a run in which nobody has a turn leaves no object a turn
none_turned : (turns : List Path) (a b : List Work) → turns_among (a ++ b) ≡ [] → turns_among a ≡ turns → turns ≡ []
none_turned turns [] b h e = sym e
none_turned turns (Wrote q k c v ∷ a) b h e = none_turned turns a b h e
none_turned turns (Turned q ∷ a) b h e = absurd (cc)

module _ (keeps : (p : AbstractProgram) (ns : List ℤ) (limit : ℕ) → Proper (root_spec p) (root_course p ns limit)) (p : Program) (ns : List ℤ)
    (limit : ℕ) (plain : (turns : ℕ → List Path) → RunsPlainly (program p) ns limit turns) where
  no_turns : (k : ℕ) (roll : List Seat) (ss : List ObjectView) (notes : List PartNote) → SomeIsLeft p ns limit → Reached p ns limit k roll ss notes
      → (o : ℕ) → (shelf_at ss o).turns ≡ []
  no_turns k roll ss notes l r o =
      let w = l.what k roll ss notes r (λ o. []) in
      let lists = and_then ss (λ o. []) in
      let run = marks_by (program p) ns limit lists in
      let none : turns_among (w.gone o ++ works_on o w.left) ≡ [] = ap turns_among (sym (w.first o)) ∙ sym (turns_are o run) ∙ (plain lists).none o in
      sym (turns_at ss o) ∙ none_turned (turns_of ss o) (w.gone o) (works_on o w.left) none (w.turns o)

  pub plain_contents : SomeIsLeft p ns limit → ContentsByPlace p ns limit → EntriesHaveRights p ns limit → TasksAreSerial p ns limit → ReadsAreSerial p ns limit
      → ((turns : ℕ → List Path) → NoneCommutes (program p) ns limit turns) → PlainContents p ns limit
  plain_contents l c rights tasks reads none = record {
    left = λ k roll ss notes r.
        subst (λ (run : List Mark). WhatIsLeft p run roll ss) (plain (and_then ss (λ o. []))).marks (l.what k roll ss notes r (λ o. []));
    turns = λ k roll ss notes r. no_turns k roll ss notes l r;
    alone = λ k roll ss notes r i s live. entry_plain keeps p ns limit tasks none k roll ss notes r i s live rights;
    has = λ k roll ss notes r i s live o e there some has.
        subst (λ (run : List Mark). content_for s.path (shelf_at ss o) ≡ content_at p s o run) (plain (and_then ss (λ o. []))).marks
        (c.has k roll ss notes r (λ o. []) i s live o e there some (entry_plain keeps p ns limit tasks none k roll ss notes r i s live rights o e there) has);
    child = λ k roll ss notes r i s live o e there xs v.
        subst (λ (run : List Mark). xs ≡ content_before p (child_path s.path s.children) 0 0 o run) (plain (and_then ss (λ o. []))).marks
        (c.child k roll ss notes r (λ o. []) i s live o e there xs v);
    read = λ k roll ss notes r i s live o c next.
        subst (λ (run : List Mark). Begins (reads_at s.path run) (s.walker.answers ++ value_at o c s.path ss ∷ [])) (plain (and_then ss (λ o. []))).marks
        (reads.read k roll ss notes r (λ o. []) i s live o c next);
  }
