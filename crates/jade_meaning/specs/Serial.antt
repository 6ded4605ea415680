-- The serial run of a task in which no child commutes: one map from objects to lists of cells, and each child run whole where it is created.
use Rattle.std.specs.Prelude.{ℕ, suc, List, [], ◌∷◌, ◌++◌, map, Option, Some, None, ℤ, pos, slice_index_or, slice_set, replicate, if◌then◌else◌}
use Rattle.std.specs.List.{filter_map}
use Rattle.jade_base.specs.declared.report.Blame.{Blame}
pub use Rattle.jade_base.specs.Places.{same_path}
use Rattle.jade_syntax.specs.Abstract.{AbstractProgram}
use Rattle.jade_syntax.specs.Objects.{sizes}
use Rattle.jade_meaning.specs.Course.{Course, Reads, Writes, Steps, Creates, Changes, Ends, root_course}
use Rattle.jade_meaning.specs.Talk.{Task}

-- the name of a task: the numbers on the way from the root, which is 0
abbrev pub Path : Type 0
Path = List ℕ

-- the cells of each object
abbrev pub Store : Type 0
Store = List (List ℤ)

-- what a task does that others may see: its turn, where it commutes on an object, reads, writes, children with the steps of the part, and its end
pub data Deed : Type 0 where
  DidTurn : (object : ℕ) → Deed
  DidRead : (object cell : ℕ) → ℤ → Deed
  DidWrite : (object cell : ℕ) → ℤ → Deed
  DidCreate : Task → (steps : ℕ) → Deed
  DidEnd : Option Blame → (steps : ℕ) → Deed

-- a deed of the task at a path, which had created so many children by then
pub record Mark : Type 0 where
  pub path : Path
  pub children : ℕ
  pub deed : Deed

-- the cells of an object
abbrev pub at_object : Store → ℕ → List ℤ
at_object store o = slice_index_or store o []

-- what a cell holds
abbrev pub cell : Store → ℕ → ℕ → ℤ
cell store o c = slice_index_or (at_object store o) c (pos 0)

-- the store with another number in a cell
abbrev pub with_cell : Store → ℕ → ℕ → ℤ → Store
with_cell store o c v = slice_set store o (slice_set (at_object store o) c v)

-- the store after one deed
abbrev pub done_to : Deed → Store → Store
done_to (DidWrite o c v) store = with_cell store o c v
done_to _ store = store

-- the store after these marks
abbrev pub after : List Mark → Store → Store
after [] store = store
after (m ∷ ms) store = after ms (done_to m.deed store)

-- a mark of the task itself
abbrev pub own : ℕ → Deed → Mark
own children deed = record { path = []; children = children; deed = deed }

-- a mark of the child of this number
abbrev pub under : ℕ → Mark → Mark
under k m = record m { path = k ∷ m.path }

-- what a task and its descendants do, in serial order, where the task has made k children and begun n steps since
abbrev pub serial : Course → (k n : ℕ) → Store → List Mark
serial (Reads o c on) k n store =
    own k (DidRead o c (cell store o c)) ∷ serial (on (cell store o c)) k n store
serial (Writes o c v on) k n store = own k (DidWrite o c v) ∷ serial on k n (with_cell store o c v)
serial (Steps on) k n store = serial on k (suc n) store
serial (Creates child body on) k n store =
    let inner = serial body 0 0 store in
    own k (DidCreate (record { spec = child; course = body }) n) ∷ (map (under k) inner ++ serial on (suc k) 0 (after inner store))
serial (Changes new on) k n store = serial on k n store
serial (Ends blame) k n store = own k (DidEnd blame n) ∷ []

-- the store in which every cell is zero
abbrev pub zeros : List ℕ → Store
zeros [] = []
zeros (n ∷ ns) = replicate n (pos 0) ∷ zeros ns

-- the serial run of a program of which no task commutes
abbrev pub serial_run : AbstractProgram → List ℤ → ℕ → List Mark
serial_run p ns limit = map (under 0) (serial (root_course p ns limit) 0 0 (zeros (sizes p.items)))

-- the store after that run
abbrev pub final : AbstractProgram → List ℤ → ℕ → Store
final p ns limit = after (serial_run p ns limit) (zeros (sizes p.items))

-- a part of a task: from its creation of so many children to the next or to its end, with the steps begun and the fault that ended it
pub record Part : Type 0 where
  pub path : Path
  pub children : ℕ
  pub steps : ℕ
  pub blame : Option Blame

-- the part that a deed ends
abbrev pub part_of_deed : Deed → Mark → Option Part
part_of_deed (DidCreate t n) m = Some (record { path = m.path; children = m.children; steps = n; blame = None })
part_of_deed (DidEnd b n) m = Some (record { path = m.path; children = m.children; steps = n; blame = b })
part_of_deed (DidTurn o) m = None
part_of_deed (DidRead o c v) m = None
part_of_deed (DidWrite o c v) m = None

-- the parts in the order of the marks
abbrev pub parts : List Mark → List Part
parts ms = filter_map (λ m. part_of_deed m.deed m) ms

-- the deeds of the task at a path
abbrev pub deeds_at : Path → List Mark → List Deed
deeds_at p ms = filter_map (λ m. if same_path m.path p then Some m.deed else None) ms

-- the marks of the task at a path
abbrev pub marks_at : Path → List Mark → List Mark
marks_at p ms = filter_map (λ m. if same_path m.path p then Some m else None) ms

-- the value that a deed reads
abbrev pub read_of : Deed → Option ℤ
read_of (DidRead o c v) = Some v
read_of _ = None

-- the values that the task at a path reads
abbrev pub reads_at : Path → List Mark → List ℤ
reads_at p ms = filter_map read_of (deeds_at p ms)
