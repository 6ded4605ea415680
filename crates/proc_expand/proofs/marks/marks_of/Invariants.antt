use Rattle.proc_expand.specs.steps.Marks.{AreMarks}
use Rattle.proc_expand.proofs.marks.marks_of.Given as goal

abbrev pub invariant-loop-place : goal.invariant-loop-place
invariant-loop-place l = AreMarks l.tokens.lexemes l.tokens.end l.place l.marks.numbers.items l.marks.counts.items
