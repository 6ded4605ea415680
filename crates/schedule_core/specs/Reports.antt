-- What there is to report, of contents, turns and notes.
use Rattle.std.specs.Prelude.{ℕ, List, ℤ, map}
use Rattle.std.specs.List.{filter_map}
use Rattle.jade_base.specs.declared.report.Report.{Report}
use Rattle.task_roll.specs.declared.note.PartNote.{PartNote}
use Rattle.schedule_core.specs.Notes.{step_note, fault_note}

-- the report of these contents, turns and notes
abbrev pub told_of : List (List ℤ) → List (List (List ℕ)) → List PartNote → Report
told_of contents turns ns = record {
  objects = contents;
  faults = filter_map fault_note ns;
  turns = turns;
  steps = map step_note ns;
}
