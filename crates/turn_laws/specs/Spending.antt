-- The serial meaning by turn lists that are used up: each settling takes the next entries of its object's list.
use Rattle.std.specs.Prelude.{◌≡◌, ℕ, suc, Bool, true, false, ◌&&◌, ◌||◌, List, [], ◌∷◌, ◌++◌, length, take, drop, Option, Some, None, ℤ, nat_eq, if◌then◌else◌}
use Rattle.jade_syntax.specs.Abstract.{AbstractProgram}
use Rattle.jade_syntax.specs.Objects.{sizes}
use Rattle.jade_meaning.specs.Specification.{Specification, rights_on, objects, commuting_on}
use Rattle.jade_meaning.specs.Course.{Course, Reads, Writes, Steps, Creates, Changes, Ends, root_spec, root_course}
use Rattle.jade_meaning.specs.Serial.{Path, Mark, DidRead, DidWrite, DidCreate, DidEnd, cell, with_cell, same_path, zeros}
use Rattle.jade_meaning.specs.Turns.{Member, World, Ran, at_path, group, unnamed, bared, joined, settle, settled, first, touched_at_once, made_touchable, turns_on, whole_run}

-- what is left of the turn list of each object
abbrev pub Lists : Type 0
Lists = ℕ → List Path

-- a run, and what it leaves of the turn lists
pub record Spent : Type 0 where
  pub ran : Ran
  pub left : Lists

-- a path names one of these members
abbrev pub is_named : Path → List Member → Bool
is_named p [] = false
is_named p (m ∷ ms) = same_path m.path p || is_named p ms

-- paths are an arrangement of a group: each names a member, and each member is named once
abbrev pub arranges : List Path → List Member → Bool
arranges [] [] = true
arranges [] (m ∷ g) = false
arranges (p ∷ ps) g = is_named p g && arranges ps (unnamed p g)

-- what is left of the lists once the first n entries of the one of an object are taken
abbrev pub taken_from : ℕ → (n : ℕ) → Lists → Lists
taken_from o n left x = if nat_eq x o then drop n (left x) else left x

-- the group of an object is settled by the next entries of its list, as many as it has members, where they are an arrangement of it
abbrev pub spend : ℕ → World → Lists → Option Spent
spend o w left =
    let g = group o w.waiting in
    let now = take (length g) (left o) in
    let ran : Ran = record { marks = settle (λ x. now) o w; world = settled (λ x. now) o w } in
    if arranges now g then Some (record { ran = ran; left = taken_from o (length g) left }) else None

-- marks before a run, if there is one
abbrev pub preceded : List Mark → Option Spent → Option Spent
preceded ms None = None
preceded ms (Some r) = Some (record { ran = first ms r.ran; left = r.left })

-- a run, and then another in the world and by the lists that it leaves, if there are both
abbrev pub and_then : Option Spent → (World → Lists → Option Spent) → Option Spent
and_then None next = None
and_then (Some r) next = preceded r.ran.marks (next r.ran.world r.left)

-- the groups of objects are settled one after another
abbrev pub spend_all : List ℕ → World → Lists → Option Spent
spend_all [] w left = Some (record { ran = record { marks = []; world = w }; left = left })
spend_all (o ∷ os) w left = and_then (spend o w left) (spend_all os)

-- a created task: one that commutes waits, another is run
abbrev pub begun : Option ℕ → Path → Specification → Course → (World → Lists → Option Spent) → World → Lists → Option Spent
begun None p child body on w left = on w left
begun (Some o) p child body on w left =
    Some (record { ran = record { marks = []; world = joined p o (rights_on child) (bared body 0) w }; left = left })

-- what the task at a path, which does not commute, and its descendants do from a specification on, k children made and n steps begun since: there is
-- such a run where each settling finds its arrangement
abbrev pub run_spending : Path → Specification → Course → (k n : ℕ) → World → Lists → Option Spent
run_spending p spec (Reads o c on) k n w left =
    and_then (spend o w left)
    (λ x l. preceded (at_path p k (DidRead o c (cell x.store o c)) ∷ []) (run_spending p spec (on (cell x.store o c)) k n x l))
run_spending p spec (Writes o c v on) k n w left =
    and_then (spend o w left)
    (λ x l. preceded (at_path p k (DidWrite o c v) ∷ []) (run_spending p spec on k n (record x { store = with_cell x.store o c v }) l))
run_spending p spec (Steps on) k n w left = run_spending p spec on k (suc n) w left
run_spending p spec (Creates child body on) k n w left =
    let q = p ++ k ∷ [] in
    preceded (at_path p k (DidCreate (record { spec = child; course = body }) n) ∷ [])
    (and_then (spend_all (touched_at_once child) w left)
    (λ x l. and_then (begun (commuting_on child) q child body (λ y m. run_spending q child body 0 0 y m) x l) (λ y m. run_spending p spec on (suc k) 0 y m)))
run_spending p spec (Changes new on) k n w left =
    and_then (spend_all (made_touchable spec new) w left) (λ x l. run_spending p new on k n x l)
run_spending p spec (Ends blame) k n w left =
    Some (record { ran = record { marks = at_path p k (DidEnd blame n) ∷ []; world = w }; left = left })

-- the run of a program: at the end each group is settled
abbrev pub whole_run_spending : AbstractProgram → (numbers : List ℤ) → (limit : ℕ) → (turns : Lists) → Option Spent
whole_run_spending p ns limit turns =
    and_then (run_spending (0 ∷ []) (root_spec p) (root_course p ns limit) 0 0 (record { store = zeros (sizes p.items); waiting = [] }) turns)
    (spend_all (objects (root_spec p)))

-- there is such a run, and it leaves nothing of any list
abbrev pub LeavesNothing : Option Spent → Type 0
LeavesNothing None = ⊥
LeavesNothing (Some r) = (o : ℕ) → r.left o ≡ []

-- turn lists by which each settling finds its arrangement, and that are used up in the end
pub record UsedUp (p : AbstractProgram) (ns : List ℤ) (limit : ℕ) (turns : Lists) : Type 0 where
  pub all : LeavesNothing (whole_run_spending p ns limit turns)

-- where each settling finds its arrangement, the run is that in which the turn lists are priorities, and each list is the turns taken and what is left
pub record SpendsAsItRuns (p : AbstractProgram) (ns : List ℤ) (limit : ℕ) (turns : Lists) (r : Spent) : Type 0 where
  pub ran : r.ran ≡ whole_run turns p ns limit
  pub lists : (o : ℕ) → turns o ≡ turns_on o r.ran.marks ++ r.left o
