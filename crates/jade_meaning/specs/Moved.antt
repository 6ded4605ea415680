-- An answer that tells other positions.
use Rattle.std.specs.Prelude.{Option, Some, None}
use Rattle.jade_base.specs.declared.place.Pos.{Pos}
use Rattle.jade_base.specs.declared.report.Blame.{Blame}
use Rattle.jade_meaning.specs.Answer.{Answer, Faulted, Cells}

module _ (f : Pos → Pos) where
  abbrev pub moved_pos : Option Pos → Option Pos
  moved_pos None = None
  moved_pos (Some p) = Some (f p)

  -- the same blame, at another position
  abbrev pub moved_blame : Blame → Blame
  moved_blame b = record { kind = b.kind; pos = moved_pos b.pos }

  -- the same answer, its fault at another position
  abbrev pub moved_answer : Answer → Answer
  moved_answer (Faulted path b) = Faulted path (moved_blame b)
  moved_answer (Cells store) = Cells store
