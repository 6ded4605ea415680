-- The serial run in the order of creation, as it is told at once: each task that commutes has its turn where it is created.
use Rattle.std.specs.Prelude.{◌≡◌, ℕ, suc, List, [], ◌∷◌, ◌++◌, Option, Some, None, ℤ}
use Rattle.jade_syntax.specs.Abstract.{AbstractProgram}
use Rattle.jade_syntax.specs.Objects.{sizes}
use Rattle.jade_meaning.specs.Specification.{commuting_on}
use Rattle.jade_meaning.specs.Course.{Course, Reads, Writes, Steps, Creates, Changes, Ends, root_course}
use Rattle.jade_meaning.specs.Serial.{Path, Store, Mark, DidTurn, DidRead, DidWrite, DidCreate, DidEnd, cell, with_cell, after, zeros}
use Rattle.jade_meaning.specs.Turns.{at_path, in_order}
use Rattle.jade_meaning.specs.Report.{reported, report}

-- the turn of a created task, if it commutes
abbrev pub turn_first : Option ℕ → Path → List Mark
turn_first None q = []
turn_first (Some o) q = at_path q 0 (DidTurn o) ∷ []

-- what the task at a path and its descendants do, each commuting task at once, where it has made k children and begun n steps since
abbrev pub at_once : Path → Course → (k n : ℕ) → Store → List Mark
at_once p (Reads o c on) k n store = at_path p k (DidRead o c (cell store o c)) ∷ at_once p (on (cell store o c)) k n store
at_once p (Writes o c v on) k n store = at_path p k (DidWrite o c v) ∷ at_once p on k n (with_cell store o c v)
at_once p (Steps on) k n store = at_once p on k (suc n) store
at_once p (Creates child body on) k n store =
    let q = p ++ k ∷ [] in
    let inner = turn_first (commuting_on child) q ++ at_once q body 0 0 store in
    at_path p k (DidCreate (record { spec = child; course = body }) n) ∷ (inner ++ at_once p on (suc k) 0 (after inner store))
at_once p (Changes new on) k n store = at_once p on k n store
at_once p (Ends blame) k n store = at_path p k (DidEnd blame n) ∷ []

-- what a program's tasks do, each commuting task at once
abbrev pub run_at_once : AbstractProgram → (numbers : List ℤ) → (limit : ℕ) → List Mark
run_at_once p ns limit = at_once (0 ∷ []) (root_course p ns limit) 0 0 (zeros (sizes p.items))

-- the report of the run in the order of creation is that of the run at once
pub record ReportsAtOnce (p : AbstractProgram) (ns : List ℤ) (limit : ℕ) : Type 0 where
  pub same : report p ns limit in_order ≡ reported (sizes p.items) (run_at_once p ns limit)
