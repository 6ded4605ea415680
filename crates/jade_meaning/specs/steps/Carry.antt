-- What a run has noted, as it grows while a task goes through its course.
use Rattle.std.specs.Prelude.{ℕ, ℤ, suc, List, [], ◌∷◌, ◌++◌, length, replicate, slice_set, slice_index_or, Option, Some, None}
use Rattle.jade_base.specs.declared.report.Blame.{Blame}
use Rattle.jade_base.specs.declared.report.FaultNote.{FaultNote}
use Rattle.jade_base.specs.declared.report.Report.{Report}
use Rattle.jade_meaning.specs.declared.run_state.RunState.{RunState}
use Rattle.jade_meaning.specs.Course.{Course, Reads, Writes, Steps, Creates, Changes, Ends}
use Rattle.jade_meaning.specs.Serial.{Path, cell, with_cell, zeros}
use Rattle.jade_meaning.specs.Specification.{commuting_on}

-- the note of a fault, where there is one
abbrev pub note_of_fault : Option Blame → Path → (children : ℕ) → List FaultNote
note_of_fault None p k = []
note_of_fault (Some b) p k = record { path = p; children = k; blame = b } ∷ []

-- with the note of a part that has ended
abbrev pub noted : Path → (children steps : ℕ) → Option Blame → RunState → RunState
noted p k n b l =
    record l { faults = l.faults ++ note_of_fault b p k; steps = l.steps ++ record { path = p; children = k; steps = n } ∷ [] }

-- lists of turns with one turn more on an object
abbrev pub turn_added : ℕ → Path → List (List Path) → List (List Path)
turn_added o p lists = slice_set lists o (slice_index_or lists o [] ++ p ∷ [])

-- with the turn of a task, if it commutes
abbrev pub turn_noted : Option ℕ → Path → RunState → RunState
turn_noted None p l = l
turn_noted (Some o) p l = record l { turns = turn_added o p l.turns }

-- with another number in a cell
abbrev pub put : (o c : ℕ) → ℤ → RunState → RunState
put o c v l = record l { objects = with_cell l.objects o c v }

-- what is noted once the task at a path and its children have gone through a course, where the task has made k children and begun n steps since
abbrev pub carried : Path → Course → (k n : ℕ) → RunState → RunState
carried p (Reads o c on) k n l = carried p (on (cell l.objects o c)) k n l
carried p (Writes o c v on) k n l = carried p on k n (put o c v l)
carried p (Steps on) k n l = carried p on k (suc n) l
carried p (Creates child body on) k n l =
    let q = p ++ k ∷ [] in carried p on (suc k) 0 (carried q body 0 0 (turn_noted (commuting_on child) q (noted p k n None l)))
carried p (Changes new on) k n l = carried p on k n l
carried p (Ends b) k n l = noted p k n b l

-- the report of a run
abbrev pub report_of : RunState → Report
report_of l = record { objects = l.objects; faults = l.faults; turns = l.turns; steps = l.steps }

-- a run before its first step, on objects of these sizes
abbrev pub nothing_yet : (object_sizes : List ℕ) → RunState
nothing_yet ns = record { objects = zeros ns; faults = []; turns = replicate (length ns) []; steps = [] }
