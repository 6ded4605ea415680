-- Where a statement leaves a task and what its run has noted, said at once and not as a course.
use Rattle.std.specs.Prelude.{◌≡◌, ℕ, zero, suc, ◌-◌, List, [], ◌∷◌, ◌++◌, length, drop, Some, None, Result, Ok, Err, ℤ, pos, ◌+ℤ◌, nat_lt, if◌then◌else◌}
use Rattle.jade_base.specs.declared.place.Pos.{Pos}
use Rattle.jade_base.specs.declared.report.FaultKind.TheVariants.{Index, Right as RightFault, Cover, Commute}
use Rattle.jade_base.specs.declared.report.Blame.{Blame}
use Rattle.jade_base.specs.Rights.{may_write}
use Rattle.jade_syntax.specs.declared.tree.DeclareWord.{DeclareWord}
use Rattle.jade_syntax.specs.Abstract.{Name, Expression, Place, Action, Local, Assign, Store, If, IfElse, For, Withonly, With, Declare, Actions}
use Rattle.jade_syntax.specs.Abstract.{Done as NoMore, Then}
use Rattle.jade_meaning.specs.declared.run_state.RunState.{RunState}
use Rattle.jade_meaning.specs.declared.setting.Setting.{Setting as SettingOf}
use Rattle.jade_meaning.specs.declared.setting.Task.{Task}
use Rattle.jade_meaning.specs.declared.stop.Stop.{Stop}
use Rattle.jade_meaning.specs.declared.stop.Stop.TheVariants.{Fault, Memory}
use Rattle.jade_meaning.specs.declared.values.Value.{Value}
use Rattle.jade_meaning.specs.declared.values.Value.TheVariants.{IntOf}
use Rattle.jade_meaning.specs.declared.resolve.ResolvedObject.{ResolvedObject}
use Rattle.jade_meaning.specs.Values.{whole, holds, turn_count, index_in}
use Rattle.jade_meaning.specs.Specification.{Specification, rights_on, covers, fitted, commuting_on, is_commuting, may_commute}
use Rattle.jade_meaning.specs.Course.{Environment, Setting, Mine, NoDraft, Building, Amending, assigned, copied, drafted, working, limit_blame, none_of}
use Rattle.jade_meaning.specs.Course.{place_of}
use Rattle.jade_meaning.specs.Serial.{Path}
use Rattle.jade_meaning.specs.steps.Carry.{noted, put, turn_noted}
use Rattle.jade_meaning.specs.steps.Direct.{worth, located, blame_at, indexed, drafted_with}
use Rattle.jade_meaning.specs.steps.Tallied.{stepped, parted}

-- what every task of a run has, as the meaning has it
abbrev pub shown : SettingOf → Setting
shown s = record { items = s.items; given = s.given; limit = s.limit }

-- what a task has of its own, as the meaning has it
abbrev pub mine_of : Task → Mine
mine_of t = record { env = t.scope; spec = t.spec; draft = t.draft; taken = t.tally.taken }

-- where a task comes: it goes on, or it ends with a fault
pub data Outcome : Type 0 where
  Goes : Task → RunState → Outcome
  Stops : Blame → Task → RunState → Outcome

-- what follows, unless there is a fault
abbrev pub then_on : Outcome → (Task → RunState → Outcome) → Outcome
then_on (Goes t l) f = f t l
then_on (Stops b t l) f = Stops b t l

-- what follows is given what is there; a fault ends the task
abbrev pub valued : {A : Type 0} → Result A Blame → Task → RunState → (A → Outcome) → Outcome
valued (Ok x) t l f = f x
valued (Err b) t l f = Stops b t l

-- one more variable
abbrev pub with_variable : Name → Value → Task → Task
with_variable x v t = record t { scope = record { name = x; value = v } ∷ t.scope }

-- a step is counted, or the task ends with the fault `limit`
abbrev pub begun : ℕ → Task → RunState → Outcome
begun limit t l = if nat_lt t.tally.taken limit then Goes (record t { tally = stepped t.tally }) l else Stops limit_blame t l

-- without the variables that came since
abbrev pub left_as : Task → Task → Task
left_as before t = record t { scope = drop (length t.scope - length before.scope) t.scope }

-- a block's variables end with it
abbrev pub within : Task → Outcome → Outcome
within before (Goes t l) = Goes (left_as before t) l
within before (Stops b t l) = Stops b t l

-- a cell is written, or the fault `right`
abbrev pub written : (o c : ℕ) → ℤ → Pos → Task → RunState → Outcome
written o c z at t l =
    if may_write (rights_on t.spec o) then Goes t (put o c z l) else Stops (blame_at RightFault at) t l

-- one turn of a loop
abbrev pub turned_once : ℕ → ℤ → Name → (Task → RunState → Outcome) → Task → RunState → Outcome
turned_once limit i x body t l = then_on (begun limit t l) (λ u m. within u (body (with_variable x (IntOf i) u) m))

-- the turns of a loop that are left: n, from the value i of its variable on
abbrev pub turned : ℕ → (n : ℕ) → (i : ℤ) → Name → (Task → RunState → Outcome) → Task → RunState → Outcome
turned limit zero i x body t l = Goes t l
turned limit (suc n) i x body t l = then_on (turned_once limit i x body t l) (turned limit n (i +ℤ pos 1) x body)

-- what is noted once a task has ended
abbrev pub ended : Path → Outcome → RunState
ended p (Goes t l) = noted p t.tally.children t.tally.part None l
ended p (Stops b t l) = noted p t.tally.children t.tally.part (Some b) l

-- a child at its start
abbrev pub child_task : Environment → Specification → Task
child_task env spec = record { scope = env; spec = spec; draft = NoDraft; tally = record { taken = 0; part = 0; children = 0 } }

-- the path of the next child
abbrev pub next_path : Path → Task → Path
next_path p t = p ++ t.tally.children ∷ []

-- where a section would begin, a task that commutes has the fault `commute`
abbrev pub unless_commuting : Pos → Task → RunState → Outcome → Outcome
unless_commuting at t l o = if is_commuting t.spec then Stops (blame_at Commute at) t l else o

-- a child is made and run, or the fault `cover`
abbrev pub created_covered : Setting → Path → Pos → List Name → (Path → Task → RunState → Outcome) → Task → RunState → Outcome
created_covered s p at names body t l =
    let child = fitted t.spec (drafted t.draft) in
    let first = turn_noted (commuting_on child) (next_path p t) (noted p t.tally.children t.tally.part None l) in
    if covers t.spec child
    then Goes (record t { draft = NoDraft; tally = parted t.tally })
    (ended (next_path p t) (body (next_path p t) (child_task (copied names t.scope ++ s.given) child) first))
    else Stops (blame_at Cover at) (record t { draft = NoDraft }) l

-- a child is made and run, or the fault `commute` or `cover`
abbrev pub created : Setting → Path → Pos → List Name → (Path → Task → RunState → Outcome) → Task → RunState → Outcome
created s p at names body t l =
    if may_commute (fitted t.spec (drafted t.draft)) then created_covered s p at names body t l
    else Stops (blame_at Commute at) (record t { draft = NoDraft }) l

-- the end of the section of a `with`
abbrev pub changed : Task → Task
changed t = record t { spec = fitted t.spec (working t.draft t.spec); draft = NoDraft }

module _ (s : Setting) where
  -- the value of an expression, and the object that is meant, where a task stands
  abbrev pub value_at : Expression → Task → RunState → Result Value Blame
  value_at e t l = worth s.items t.scope t.spec l.objects e

  -- the object that is meant, where a task stands
  abbrev pub object_at : Place → Task → RunState → Result ResolvedObject Blame
  object_at o t l = located s.items t.scope t.spec l.objects o

  -- a local
  abbrev pub localized : Name → Expression → Task → RunState → Outcome
  localized x e t l = valued (value_at e t l) t l (λ v. Goes (with_variable x v t) l)

  -- an assignment
  abbrev pub reassigned : Name → Expression → Task → RunState → Outcome
  reassigned x e t l = valued (value_at e t l) t l (λ v. Goes (record t { scope = assigned x v t.scope }) l)

  -- the cell of a store is known: its value, and the write
  abbrev pub stored_in : ResolvedObject → (c : ℕ) → Pos → Expression → Task → RunState → Outcome
  stored_in f c at v t l = valued (value_at v t l) t l (λ z. written f.number c (whole z) at t l)

  -- a store
  abbrev pub stored : Place → (cell value : Expression) → Task → RunState → Outcome
  stored o e v t l =
      valued (object_at o t l) t l (λ f. valued (value_at e t l) t l (λ i. valued (indexed (index_in (whole i) f.size) Index (place_of o)) t l
      (λ c. stored_in f c (place_of o) v t l)))

  -- a word of a section
  abbrev pub declared_on : DeclareWord → Pos → Place → Task → RunState → Outcome
  declared_on how at o t l =
      valued (object_at o t l) t l (λ f. valued (drafted_with t.draft how f.number at) t l (λ d. Goes (record t { draft = d }) l))

  abbrev mutual
    -- a statement of the task at a path
    pub perform : Path → Action → Task → RunState → Outcome
    perform p (Local kind x e) t l = localized x e t l
    perform p (Assign x e) t l = reassigned x e t l
    perform p (Store o e v) t l = stored o e v t l
    perform p (If e first) t l =
        valued (value_at e t l) t l (λ v. if holds v then within t (perform_all p first t l) else Goes t l)
    perform p (IfElse e first other) t l =
        valued (value_at e t l) t l (λ v. if holds v then within t (perform_all p first t l) else within t (perform_all p other t l))
    perform p (For x low high body) t l =
        valued (value_at low t l) t l (λ a. valued (value_at high t l) t l (λ b. turned s.limit (turn_count (whole a) (whole b)) (whole a) x
        (perform_all p body) t l))
    perform p (Withonly at section names body) t l =
        let u = record t { draft = Building (none_of s.items) } in
        unless_commuting at t l (then_on (within u (perform_all p section u l)) (created s p at names (λ q. perform_all q body)))
    perform p (With at section) t l =
        let u = record t { draft = Amending t.spec } in
        unless_commuting at t l (then_on (within u (perform_all p section u l)) (λ w m. Goes (changed w) m))
    perform p (Declare how at o) t l = declared_on how at o t l

    -- statements in order, each a step
    pub perform_all : Path → Actions → Task → RunState → Outcome
    perform_all p NoMore t l = Goes t l
    perform_all p (Then a b) t l = then_on (then_on (begun s.limit t l) (perform p a)) (perform_all p b)

-- an answer in code tells this outcome, unless there was no memory
abbrev pub Follows : Result (Unit {0}) Stop → Outcome → Task → RunState → Type 0
Follows (Ok u) o t l = o ≡ Goes t l
Follows (Err (Fault b)) o t l = o ≡ Stops b t l
Follows (Err Memory) o t l = Unit {0}
