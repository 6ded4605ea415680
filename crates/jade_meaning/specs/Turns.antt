-- The serial meaning with turn lists: commuting tasks wait in groups, and each group is run in the order in which the lists name its members.
use Rattle.std.specs.Prelude.{◌≡◌, ℕ, suc, Bool, ◌||◌, List, [], ◌∷◌, ◌++◌, map, Option, Some, None, ℤ, slice_index_or, slice_set, nat_eq, if◌then◌else◌}
use Rattle.std.specs.List.{filter_map}
use Rattle.jade_base.specs.declared.rights.Rights.{Rights}
use Rattle.jade_base.specs.Rights.{is_immediate}
use Rattle.jade_syntax.specs.Abstract.{AbstractProgram}
use Rattle.jade_syntax.specs.Objects.{sizes}
use Rattle.jade_meaning.specs.Specification.{Specification, rights_on, objects, commuting_on}
use Rattle.jade_meaning.specs.Course.{Course, Reads, Writes, Steps, Creates, Changes, Ends, root_spec, root_course}
use Rattle.jade_meaning.specs.Talk.{made_immediate}
use Rattle.jade_meaning.specs.Serial.{Path, Store, Deed, DidTurn, DidRead, DidWrite, DidCreate, DidEnd, Mark, at_object, cell, with_cell, after, serial, same_path, zeros}

-- a commuting task that waits for its turn: what it does then, with the steps that it begins before its first deed, and the contents that its
-- reads of other objects see
pub record Member : Type 0 where
  pub path : Path
  pub object : ℕ
  pub course : Course
  pub steps : ℕ
  pub kept : Store

-- the contents, and the commuting tasks that wait, in the order of their creation
pub record World : Type 0 where
  pub store : Store
  pub waiting : List Member

-- marks, and the world after them
pub record Ran : Type 0 where
  pub marks : List Mark
  pub world : World

-- a mark of a task below the one at a path
abbrev pub below : Path → Mark → Mark
below p m = record m { path = p ++ m.path }

-- a deed of the task at a path, which has created k children
abbrev pub at_path : Path → (k : ℕ) → Deed → Mark
at_path p k d = record { path = p; children = k; deed = d }

-- a member waits for this object
abbrev pub is_of : ℕ → Member → Bool
is_of o m = nat_eq m.object o

-- the group of an object: who waits for it
abbrev pub group : ℕ → List Member → List Member
group o [] = []
group o (m ∷ ms) = if is_of o m then m ∷ group o ms else group o ms

-- who waits for another object
abbrev pub others : ℕ → List Member → List Member
others o [] = []
others o (m ∷ ms) = if is_of o m then others o ms else m ∷ others o ms

-- the member at a path, if there is one
abbrev pub named : Path → List Member → List Member
named p [] = []
named p (m ∷ ms) = if same_path m.path p then m ∷ [] else named p ms

-- the members without the one at a path
abbrev pub unnamed : Path → List Member → List Member
unnamed p [] = []
unnamed p (m ∷ ms) = if same_path m.path p then ms else m ∷ unnamed p ms

-- members in the order in which paths name them, and then those that are not named, in the order of their creation
abbrev pub arranged : List Path → List Member → List Member
arranged ts [] = []
arranged [] (m ∷ ms) = m ∷ ms
arranged (t ∷ ts) (m ∷ ms) = named t (m ∷ ms) ++ arranged ts (unnamed t (m ∷ ms))

-- what a member sees: its own object as it is now, the others as they were kept
abbrev pub seen_by : Member → Store → Store
seen_by m store = slice_set m.kept m.object (at_object store m.object)

-- a member's turn: its body settles no group, so this is a plain serial run
abbrev pub turn : Member → Store → List Mark
turn m store = at_path m.path 0 (DidTurn m.object) ∷ map (below m.path) (serial m.course 0 m.steps (seen_by m store))

-- the turns of members one after another
abbrev pub turns_taken : List Member → Store → List Mark
turns_taken [] store = []
turns_taken (m ∷ ms) store = let ds = turn m store in ds ++ turns_taken ms (after ds store)

-- a course from its first deed or change on, with the steps begun by then
pub record Bared : Type 0 where
  pub course : Course
  pub steps : ℕ

-- a course without its first steps, n of which were begun before
abbrev pub bared : Course → (n : ℕ) → Bared
bared (Steps on) n = bared on (suc n)
bared (Reads o c on) n = record { course = Reads o c on; steps = n }
bared (Writes o c v on) n = record { course = Writes o c v on; steps = n }
bared (Creates child body on) n = record { course = Creates child body on; steps = n }
bared (Changes new on) n = record { course = Changes new on; steps = n }
bared (Ends blame) n = record { course = Ends blame; steps = n }

-- the contents that are kept for a commuting task: of each object, from number o on, that it reads
abbrev pub kept_from : (o : ℕ) → (ℕ → Rights) → Store → Store
kept_from o rights [] = []
kept_from o rights (xs ∷ store) = (if is_immediate (rights o).reads then xs else []) ∷ kept_from (suc o) rights store

-- a commuting task joins those that wait for its object
abbrev pub joined : Path → ℕ → (ℕ → Rights) → Bared → World → World
joined p o rights b w =
    record w { waiting = w.waiting ++ record { path = p; object = o; course = b.course; steps = b.steps; kept = kept_from 0 rights w.store } ∷ [] }

-- the numbers for which a test holds
abbrev pub chosen : (ℕ → Bool) → List ℕ → List ℕ
chosen p [] = []
chosen p (o ∷ os) = if p o then o ∷ chosen p os else chosen p os

-- the objects that a task may read or write from its beginning on
abbrev pub touched_at_once : Specification → List ℕ
touched_at_once spec = chosen (λ o. is_immediate (rights_on spec o).reads || is_immediate (rights_on spec o).writes) (objects spec)

-- the objects that a change lets a task read or write
abbrev pub made_touchable : Specification → Specification → List ℕ
made_touchable old new = chosen (λ o. made_immediate (rights_on old o) (rights_on new o)) (objects new)

-- marks before a run
abbrev pub first : List Mark → Ran → Ran
first ms r = record { marks = ms ++ r.marks; world = r.world }

-- a created task: one that commutes waits, another is run
abbrev pub entered : Option ℕ → Path → Specification → Course → (World → Ran) → World → Ran
entered None p child body on w = on w
entered (Some o) p child body on w = record { marks = []; world = joined p o (rights_on child) (bared body 0) w }

module _ (turns : ℕ → List Path) where
  -- the group of an object is settled: its members take their turns
  abbrev pub settle : ℕ → World → List Mark
  settle o w = turns_taken (arranged (turns o) (group o w.waiting)) w.store

  -- the world after that
  abbrev pub settled : ℕ → World → World
  settled o w = record { store = after (settle o w) w.store; waiting = others o w.waiting }

  -- the groups of objects are settled one after another
  abbrev pub settle_all : List ℕ → World → Ran
  settle_all [] w = record { marks = []; world = w }
  settle_all (o ∷ os) w = first (settle o w) (settle_all os (settled o w))

  -- what the task at a path, which does not commute, and its descendants do from a specification on, k children made and n steps begun since
  abbrev pub run : Path → Specification → Course → (k n : ℕ) → World → Ran
  run p spec (Reads o c on) k n w =
      let x = settled o w in
      first (settle o w ++ at_path p k (DidRead o c (cell x.store o c)) ∷ []) (run p spec (on (cell x.store o c)) k n x)
  run p spec (Writes o c v on) k n w =
      let x = settled o w in
      first (settle o w ++ at_path p k (DidWrite o c v) ∷ []) (run p spec on k n (record x { store = with_cell x.store o c v }))
  run p spec (Steps on) k n w = run p spec on k (suc n) w
  run p spec (Creates child body on) k n w =
      let s = settle_all (touched_at_once child) w in
      let inner = entered (commuting_on child) (p ++ k ∷ []) child body (λ x. run (p ++ k ∷ []) child body 0 0 x) s.world in
      first (at_path p k (DidCreate (record { spec = child; course = body }) n) ∷ (s.marks ++ inner.marks)) (run p spec on (suc k) 0 inner.world)
  run p spec (Changes new on) k n w =
      let s = settle_all (made_touchable spec new) w in
      first s.marks (run p new on k n s.world)
  run p spec (Ends blame) k n w = record { marks = at_path p k (DidEnd blame n) ∷ []; world = w }

  -- the run of a program: at the end each group is settled
  abbrev pub whole_run : AbstractProgram → (numbers : List ℤ) → (limit : ℕ) → Ran
  whole_run p ns limit =
      let r = run (0 ∷ []) (root_spec p) (root_course p ns limit) 0 0 (record { store = zeros (sizes p.items); waiting = [] }) in
      first r.marks (settle_all (objects (root_spec p)) r.world)

-- the task whose turn on an object a deed is
abbrev pub turn_of : ℕ → Deed → Path → Option Path
turn_of o (DidTurn x) p = if nat_eq x o then Some p else None
turn_of o (DidRead x c v) p = None
turn_of o (DidWrite x c v) p = None
turn_of o (DidCreate t n) p = None
turn_of o (DidEnd b n) p = None

-- the turns on an object that marks tell of
abbrev pub turns_on : ℕ → List Mark → List Path
turns_on o ms = filter_map (λ m. turn_of o m.deed m.path) ms

-- what the tasks of a program do, in serial order, by turn lists
abbrev pub marks_by : AbstractProgram → (numbers : List ℤ) → (limit : ℕ) → (turns : ℕ → List Path) → List Mark
marks_by p ns limit turns = (whole_run turns p ns limit).marks

-- the contents after that
abbrev pub store_by : AbstractProgram → (numbers : List ℤ) → (limit : ℕ) → (turns : ℕ → List Path) → Store
store_by p ns limit turns = (whole_run turns p ns limit).world.store

-- turn lists that name exactly the turns, as the run by them takes them
pub record Full (p : AbstractProgram) (ns : List ℤ) (limit : ℕ) (turns : ℕ → List Path) : Type 0 where
  pub same : (o : ℕ) → turns_on o (marks_by p ns limit turns) ≡ turns o

-- turn lists that may be short, filled: the turns that they do not name follow in the order of creation
abbrev pub fill : AbstractProgram → (numbers : List ℤ) → (limit : ℕ) → (turns : ℕ → List Path) → ℕ → List Path
fill p ns limit turns o = turns_on o (marks_by p ns limit turns)

-- no turn list names a task: the order of creation
abbrev pub in_order : ℕ → List Path
in_order o = []

-- turn lists one for each object, by the object's number
abbrev pub turns_in : List (List Path) → ℕ → List Path
turns_in lists o = slice_index_or lists o []
