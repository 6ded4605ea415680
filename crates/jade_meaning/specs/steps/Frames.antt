-- What is left of a task, as a stack of frames, and what it does next.
use Rattle.std.specs.Prelude.{◌≡◌, ℕ, ◌-◌, List, [], ◌∷◌, map, length, drop, Option, Some, None, ℤ, if◌then◌else◌}
use Rattle.jade_base.specs.declared.place.Pos.{Pos}
use Rattle.jade_base.specs.declared.report.FaultKind.TheVariants.{Index, Right as RightFault}
use Rattle.jade_base.specs.Rights.{may_write}
use Rattle.jade_syntax.specs.declared.tree.Item.{Item}
use Rattle.jade_syntax.specs.declared.tree.Statement.{Statement}
use Rattle.jade_syntax.specs.Abstract.{Expression, Place, Action, If, IfElse}
use Rattle.jade_syntax.specs.Image.{action, block}
use Rattle.jade_meaning.specs.declared.frames.Frame.{Frame}
use Rattle.jade_meaning.specs.declared.frames.Frame.TheVariants.{Rest, Doing, Leaving, Turning, Creating, Changing}
use Rattle.jade_meaning.specs.declared.frames.Newborn.{Newborn}
use Rattle.jade_meaning.specs.declared.frames.Transition.{Transition}
use Rattle.jade_meaning.specs.declared.frames.Transition.TheVariants.{Silent, Stepped, Asked, Wrote, Created, Changed, Ended}
use Rattle.jade_meaning.specs.declared.frames.Running.{Running}
use Rattle.jade_meaning.specs.declared.source.Pause.{Pause}
use Rattle.jade_meaning.specs.declared.source.Pause.TheVariants.{Fault, Awaits as AwaitsOf}
use Rattle.jade_meaning.specs.Values.{whole, turn_count, index_in}
use Rattle.jade_meaning.specs.Specification.{Specification, rights_on}
use Rattle.jade_meaning.specs.Course.{Course, Reads, Writes, Steps, Creates, Changes, Ends, Environment, Setting, On, finish, turns, create, change}
use Rattle.jade_meaning.specs.Course.{child_start, run, run_all, place_of}
use Rattle.jade_meaning.specs.steps.Perform.{mine_of}
use Rattle.jade_meaning.specs.steps.Direct.{blame_at, indexed}
use Rattle.jade_meaning.specs.steps.Evaluation.{Evaluation, Got, Awaits, Faults, Source, kept, ◌>>>◌, evaluate, evaluate_object}

-- a course whose next reads are answered already, so that no event tells of them
abbrev pub fed : List ℤ → Course → Course
fed [] c = c
fed (v ∷ vs) (Reads o c on) = fed vs (on v)
fed (v ∷ vs) (Writes o c z on) = Writes o c z (fed (v ∷ vs) on)
fed (v ∷ vs) (Steps on) = Steps (fed (v ∷ vs) on)
fed (v ∷ vs) (Creates child body on) = Creates child body (fed (v ∷ vs) on)
fed (v ∷ vs) (Changes new on) = Changes new (fed (v ∷ vs) on)
fed (v ∷ vs) (Ends b) = Ends b

-- a course goes on as this says of it: with a value, with a fault, or with a read that has no answer
abbrev pub Tells : {A : Type 0} → List ℤ → Evaluation A → (A → Course) → Course → Type 0
Tells vs (Got x n) on c = c ≡ fed (drop n vs) (on x)
Tells vs (Awaits o a) on c = c ≡ Reads o a (λ v. fed (v ∷ []) c)
Tells vs (Faults b) on c = c ≡ Ends (Some b)

-- the number that goes to a cell, or the fault `right`
abbrev pub evaluate_write : Specification → (o c : ℕ) → ℤ → Pos → (used : ℕ) → Evaluation (ℕ × ℕ × ℤ)
evaluate_write spec o c z at n =
    if may_write (rights_on spec o) then Got (o, c, z) n else Faults (blame_at RightFault at)

module _ (items : List Item) (env : Environment) (spec : Specification) (src : Source) where
  -- the cell of a store, and the number that goes there
  abbrev pub evaluate_store : Place → (cell value : Expression) → ℕ → Evaluation (ℕ × ℕ × ℤ)
  evaluate_store o e v n =
      evaluate_object items env spec src o n >>> λ f k. evaluate items env spec src e k >>> λ i j. kept (indexed (index_in (whole i) f.size) Index (place_of o))
      j >>> λ c h. evaluate items env spec src v h >>> λ z g. evaluate_write spec f.number c (whole z) (place_of o) g

  -- the bounds of a loop
  abbrev pub evaluate_bounds : (low high : Expression) → ℕ → Evaluation (ℤ × ℤ)
  evaluate_bounds low high n =
      evaluate items env spec src low n >>> λ a k. evaluate items env spec src high k >>> λ b j. Got (whole a, whole b) j

-- a frame, and then what follows
abbrev pub frame_on : Setting → Frame → On → On
frame_on s (Rest b i) on = run_all s (block (drop i b.now)) on
frame_on s (Doing a) on = run s (action a.now) on
frame_on s (Leaving k) on = λ n. on (record n { env = drop (length n.env - k) n.env })
frame_on s (Turning x body r) on = turns s.limit (turn_count r.0 r.1) r.0 x.now (run_all s (block body.now)) on
frame_on s (Creating at names body) on = create s at (map (λ n. n.name) names.now) (run_all s (block body.now) finish) on
frame_on s Changing on = change on

-- frames on what follows them; the last one comes first
abbrev pub frames_from : Setting → List Frame → On → On
frames_from s [] on = on
frames_from s (f ∷ fs) on = frames_from s fs (frame_on s f on)

-- frames to a task's end
abbrev pub frames_on : Setting → List Frame → On
frames_on s fs = frames_from s fs finish

-- what a task goes on to do from here, where it was given these answers
abbrev pub begun_with : List ℤ → On → Running → Course
begun_with vs on r = fed (drop r.used vs) (on (mine_of r.task))

-- the course of a task, from what it has left to do
abbrev pub course_of : Setting → List ℤ → Running → Course
course_of s vs r = begun_with vs (frames_on s r.frames.items) r

-- what a child does
abbrev pub born_course : Setting → Newborn → Course
born_course s n = run_all s (block n.body.now) finish (child_start n.scope n.spec)

-- a transition, and then what follows
abbrev pub transition_on : Setting → Transition → Course → Course
transition_on s Silent c = c
transition_on s Stepped c = Steps c
transition_on s (Asked o a) c = Reads o a (λ v. fed (v ∷ []) c)
transition_on s (Wrote w) c = Writes w.0 w.1 w.2 c
transition_on s (Created n) c = Creates n.spec (born_course s n) c
transition_on s (Changed new) c = Changes new c
transition_on s (Ended b) c = Ends b

-- a transition is what a course begins with
abbrev pub GoesOn : Setting → List ℤ → Transition → Course → Running → Type 0
GoesOn s vs transition c r = c ≡ transition_on s transition (course_of s vs r)

-- a frame above the others is done by a transition
abbrev pub DoesNext : Setting → List ℤ → Transition → Frame → (before after : Running) → Type 0
DoesNext s vs transition f r q = GoesOn s vs transition (begun_with vs (frame_on s f (frames_on s r.frames.items)) r) q

-- what a task goes on to do from a statement on
abbrev pub from_action : Setting → List ℤ → Action → Running → Course
from_action s vs a r = begun_with vs (run s a (frames_on s r.frames.items)) r

-- a statement is done by a transition; where an answer is wanting nothing has changed
abbrev pub Did : Setting → List ℤ → Transition → Action → (before after : Running) → Type 0
Did s vs (Asked o c) a r q =
    (from_action s vs a r ≡ Reads o c (λ v. fed (v ∷ []) (from_action s vs a r))) × (q ≡ r)
Did s vs Silent a r q = GoesOn s vs Silent (from_action s vs a r) q
Did s vs Stepped a r q = GoesOn s vs Stepped (from_action s vs a r) q
Did s vs (Wrote w) a r q = GoesOn s vs (Wrote w) (from_action s vs a r) q
Did s vs (Created n) a r q = GoesOn s vs (Created n) (from_action s vs a r) q
Did s vs (Changed old) a r q = GoesOn s vs (Changed old) (from_action s vs a r) q
Did s vs (Ended b) a r q = GoesOn s vs (Ended b) (from_action s vs a r) q

-- what a pause lets a task do
abbrev pub paused_as : Pause → Transition
paused_as (Fault b) = Ended (Some b)
paused_as (AwaitsOf o c) = Asked o c

-- a test with one block or two
abbrev pub chosen : Expression → List Statement → Option (List Statement) → Action
chosen test first None = If test (block first)
chosen test first (Some other) = IfElse test (block first) (block other)

-- the frames of a block that begins now
abbrev pub opened_with : Running → List Statement → Setting → On → On
opened_with r body s on = run_all s (block body) (λ n. on (record n { env = drop (length n.env - length r.task.scope) n.env }))

-- a task at the beginning of a block: the frames above the others are the block and the end of its variables
abbrev pub Enters : Running → List Statement → Running → Type 0
Enters r body q =
    ((s : Setting) → frames_on s q.frames.items ≡ opened_with r body s (frames_on s r.frames.items)) × (q.task ≡ r.task) × (q.used ≡ r.used)
