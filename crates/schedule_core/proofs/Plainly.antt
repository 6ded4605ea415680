-- Where no task commutes the clauses are those of the plain serial run.
use Rattle.std.proofs.Common.{ℕ, List, [], map, ap, ◌∙◌, subst}
use Rattle.std.specs.Prelude.{ℤ}
use Rattle.jade_syntax.specs.declared.tree.Program.{Program}
use Rattle.jade_syntax.specs.Image.{program}
use Rattle.jade_syntax.specs.Objects.{sizes}
use Rattle.jade_meaning.specs.Talk.{talk}
use Rattle.jade_meaning.specs.Serial.{Mark, reads_at}
use Rattle.jade_meaning.specs.Laws.{root_task}
use Rattle.jade_meaning.specs.Report.{reported}
use Rattle.jade_meaning.specs.Answer.{parts_by_key}
use Rattle.jade_meaning.specs.Walk.{task_of}
use Rattle.schedule_core.specs.Notes.{note_of}
use Rattle.schedule_core.specs.Serially.{IsTask, Begins, events_done}
use Rattle.schedule_core.specs.Remains.{Woven}
use Rattle.schedule_core.specs.Soundness.{and_then, turns_of}
use Rattle.schedule_core.specs.CoreIsSound.{CoreIsSound}
use Rattle.schedule_core.specs.Plainly.{RunsSerially, PlainCore}

pub plain_core : (p : Program) (ns : List ℤ) (limit : ℕ) → CoreIsSound p ns limit → RunsSerially (program p) ns limit → PlainCore p ns limit
plain_core p ns limit c plain = record {
  task = λ k roll ss notes r i s e. subst (λ (ms : List Mark). IsTask ms (root_task (program p) ns limit) s.path (task_of s.walker)) (plain (and_then ss (λ o. []))) (c.tasks.task k roll ss notes r (λ o. []) i s e);
  answers = λ k roll ss notes r i s e. subst (λ (ms : List Mark). Begins (reads_at s.path ms) s.walker.answers) (plain (and_then ss (λ o. []))) (c.tasks.answers k roll ss notes r (λ o. []) i s e);
  events = λ k roll ss notes r i s e. subst (λ (ms : List Mark). Begins (talk (task_of s.walker) (reads_at s.path ms)) (events_done s.walker)) (plain (and_then ss (λ o. []))) (c.tasks.events k roll ss notes r (λ o. []) i s e);
  noted = λ k roll ss notes r. let n = c.notes.noted k roll ss notes r (λ o. []) in
      record { unended = n.unended; each = n.each; woven = subst (λ (ms : List Mark). Woven notes n.unended (map note_of (parts_by_key ms))) (plain (and_then ss (λ o. []))) n.woven };
  reports = λ k ss notes r. c.reports.reports k ss notes r ∙ ap (reported (sizes p.items)) (plain (turns_of ss));
}
