-- The answer of a program, and a run that stops where the answer is known.
use Rattle.std.specs.Prelude.{◌≡◌, ℕ, zero, suc, ◌-◌, List, [], ◌∷◌, ◌++◌, map, Option, Some, None, ℤ, nat_lt, if◌then◌else◌}
use Rattle.std.specs.List.{filter_map}
use Rattle.jade_base.specs.Places.{is_before, key as key_at}
use Rattle.jade_base.specs.declared.report.Blame.{Blame}
use Rattle.jade_syntax.specs.Abstract.{AbstractProgram}
use Rattle.jade_syntax.specs.Objects.{sizes}
use Rattle.jade_meaning.specs.Course.{Course, Reads, Writes, Steps, Creates, Changes, Ends, root_course, limit_blame}
use Rattle.jade_meaning.specs.Serial.{Path, Store, Mark, Deed, DidTurn, DidRead, DidWrite, DidCreate, DidEnd, own, under, after, cell, with_cell, zeros, Part, parts}
use Rattle.jade_meaning.specs.Serial.{serial_run}
use Rattle.jade_meaning.specs.Turns.{marks_by, in_order}

-- what a program answers: the task that faults first and why, or the cells of its objects
pub data Answer : Type 0 where
  Faulted : Path → Blame → Answer
  Cells : Store → Answer

-- a part's key: the path, and the number of children created before it
abbrev pub key : Part → Path
key p = key_at p.path p.children

-- a part among others that stand by ascending key
abbrev pub filed : Part → List Part → List Part
filed p [] = p ∷ []
filed p (q ∷ qs) = if is_before (key q) (key p) then q ∷ filed p qs else p ∷ (q ∷ qs)

-- parts by ascending key, in whatever order they are noted
abbrev pub by_key : List Part → List Part
by_key [] = []
by_key (p ∷ ps) = filed p (by_key ps)

-- the parts of marks by ascending key
abbrev pub parts_by_key : List Mark → List Part
parts_by_key ms = by_key (parts ms)

-- the first part with a fault
abbrev pub first_fault : List Part → Option Part
first_fault [] = None
first_fault (p ∷ ps) = elim p.blame [ None ↦ first_fault ps | Some b ↦ Some p ]

-- the first part with which the sum of the steps exceeds the limit
abbrev pub limit_place : ℕ → List Part → Option Part
limit_place left [] = None
limit_place left (p ∷ ps) = if nat_lt left p.steps then Some p else limit_place (left - p.steps) ps

-- why a part ended, where it ended with a fault
abbrev pub blame_of : Option Blame → Blame
blame_of (Some b) = b
blame_of None = limit_blame

-- of the first fault and the place of the limit the one with the lesser key, and the limit where they are the same
abbrev pub decided : Option Part → Option Part → Store → Answer
decided None None store = Cells store
decided (Some f) None store = Faulted f.path (blame_of f.blame)
decided None (Some l) store = Faulted l.path limit_blame
decided (Some f) (Some l) store = if is_before (key f) (key l) then Faulted f.path (blame_of f.blame) else Faulted l.path limit_blame

-- the answer of a program whose tasks and whose whole serial run by turn lists may begin so many steps
abbrev pub answer : AbstractProgram → (numbers : List ℤ) → (limit : ℕ) → (turns : ℕ → List Path) → Answer
answer p ns limit turns =
    let ms = marks_by p ns limit turns in
    decided (first_fault (parts_by_key ms)) (limit_place limit (parts_by_key ms)) (after ms (zeros (sizes p.items)))

-- a run that stops at the first fault, or at the first step beyond the limit; what it did until then
pub data Run : Type 0 where
  Stopped : Path → Blame → List Mark → Run
  Through : (left : ℕ) → List Mark → Run

-- a mark before what a run did
abbrev pub noted : Mark → Run → Run
noted m (Stopped p b ms) = Stopped p b (m ∷ ms)
noted m (Through left ms) = Through left (m ∷ ms)

-- marks before what a run did
abbrev pub noted_all : List Mark → Run → Run
noted_all ms (Stopped p b ns) = Stopped p b (ms ++ ns)
noted_all ms (Through left ns) = Through left (ms ++ ns)

-- after a child's run
abbrev pub then_on : ℕ → Run → (ℕ → List Mark → Run) → Run
then_on k (Stopped p b ms) on = Stopped (k ∷ p) b (map (under k) ms)
then_on k (Through left ms) on = noted_all (map (under k) ms) (on left ms)

-- what a task does that stops there, after k children and with so many steps left
abbrev pub stopping : Course → (k left : ℕ) → Store → Run
stopping (Reads o c on) k left store =
    noted (own k (DidRead o c (cell store o c))) (stopping (on (cell store o c)) k left store)
stopping (Writes o c v on) k left store = noted (own k (DidWrite o c v)) (stopping on k left (with_cell store o c v))
stopping (Steps on) k zero store = Stopped [] limit_blame []
stopping (Steps on) k (suc left) store = stopping on k left store
stopping (Creates child body on) k left store =
    then_on k (stopping body 0 left store) (λ less ms. stopping on (suc k) less (after ms store))
stopping (Changes new on) k left store = stopping on k left store
stopping (Ends None) k left store = Through left []
stopping (Ends (Some b)) k left store = Stopped [] b []

-- the answer of a run that stops
abbrev pub run_answer : Run → Store → Answer
run_answer (Stopped p b ms) store = Faulted p b
run_answer (Through left ms) store = Cells (after ms store)

-- what a run that stops did
abbrev pub run_marks : Run → List Mark
run_marks (Stopped p b ms) = ms
run_marks (Through left ms) = ms

-- a mark whose deed is a read or a write
abbrev pub access_deed : Deed → Mark → Option Mark
access_deed (DidTurn o) m = None
access_deed (DidRead o c v) m = Some m
access_deed (DidWrite o c v) m = Some m
access_deed (DidCreate t n) m = None
access_deed (DidEnd b n) m = None

-- the reads and writes
abbrev pub accesses : List Mark → List Mark
accesses ms = filter_map (λ m. access_deed m.deed m) ms

-- the run of a whole program that stops
abbrev pub stopping_run : AbstractProgram → List ℤ → ℕ → Run
stopping_run p ns limit =
    let store = zeros (sizes p.items) in then_on 0 (stopping (root_course p ns limit) 0 limit store) (λ left ms. Through left [])

-- the parts of a serial run in which no task commutes stand by ascending key already
pub record PartsStandByKey (p : AbstractProgram) (ns : List ℤ) (limit : ℕ) : Type 0 where
  pub same : parts_by_key (serial_run p ns limit) ≡ parts (serial_run p ns limit)

-- the run that stops has the answer, and what it does is what the serial run by turn lists does first
pub record StoppingAgrees (p : AbstractProgram) (ns : List ℤ) (limit : ℕ) (turns : ℕ → List Path) : Type 0 where
  pub same : run_answer (stopping_run p ns limit) (zeros (sizes p.items)) ≡ answer p ns limit turns
  pub first : (rest : List Mark) × (accesses (marks_by p ns limit turns) ≡ run_marks (stopping_run p ns limit) ++ rest)

-- the run that stops, each commuting task at once, has the answer of the serial run in the order of creation
pub record StopsInOrder (p : AbstractProgram) (ns : List ℤ) (limit : ℕ) : Type 0 where
  pub same : run_answer (stopping_run p ns limit) (zeros (sizes p.items)) ≡ answer p ns limit in_order
