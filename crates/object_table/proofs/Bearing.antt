-- Where a creation is next, there is a walk of the child: what a section creates is what its statements make of the task.
use Rattle.std.proofs.Common.{◌≡◌, ℕ, zero, suc, Bool, true, false, List, [], ◌∷◌, ◌++◌, map, drop, refl, ap, subst, Option, Some, None}
use Rattle.std.specs.Prelude.{ℤ, pos, ◌+ℤ◌, nat_lt, is_none, if◌then◌else◌}
use Rattle.std.specs.List.{flat_map}
use Rattle.jade_base.specs.declared.place.Pos.{Pos}
use Rattle.jade_base.specs.declared.report.Blame.{Blame}
use Rattle.jade_base.specs.declared.rights.Rights.{Rights}
use Rattle.jade_base.specs.declared.rights.Mode.{Mode}
use Rattle.jade_base.specs.Rights.{may_read, may_write, has_rights, same_rights, mode_of}
use Rattle.jade_syntax.specs.declared.tree.DeclareWord.{DeclareWord}
use Rattle.jade_syntax.specs.declared.tree.Statement.{Statement, map-Statement, fold-roll-Statement, ind-Statement}
use Rattle.jade_syntax.specs.declared.tree.Statement.TheOpen.{Statement-F}
use Rattle.jade_syntax.specs.Abstract.{Name, Expression, Whole, Truth, Variable, Group, Signed, Chain, Cell, Links, Last, Link, Place, Alone, Member}
use Rattle.jade_syntax.specs.Abstract.{Action, Local, Assign, Store, If, IfElse, For, Withonly, With, Declare, Actions, Done, Then}
use Rattle.jade_syntax.specs.Forms as general
use Rattle.jade_syntax.specs.Image as image
use Rattle.jade_syntax.specs.Image.{action, actions, block}
use Rattle.jade_meaning.specs.declared.values.Value.{Value}
use Rattle.jade_meaning.specs.declared.values.Value.TheVariants.{IntOf}
use Rattle.jade_meaning.specs.declared.resolve.Range.{Range}
use Rattle.jade_meaning.specs.declared.resolve.ResolvedObject.{ResolvedObject}
use Rattle.jade_meaning.specs.Values.{Given, Gives, Fails, operated, decides, signed, whole, holds, is_index, magnitude, turn_count}
use Rattle.jade_meaning.specs.Specification.{Specification, rights_on, objects, covers, fitted, commuting_on, is_commuting, may_commute}
use Rattle.jade_meaning.specs.Changes.{amended}
use Rattle.jade_meaning.specs.Laws.{Every}
use Rattle.jade_meaning.specs.Course.{section_begins, Course, Reads, Writes, Steps, Creates, Changes, Ends, Environment, Setting, Mine, On, Draft, NoDraft, Building, Amending}
use Rattle.jade_meaning.specs.Course.{drafted, finish, choose, step, given, place_of, member, reach, read_cell, write_cell, bind, leave, scoped, turns, amend}
use Rattle.jade_meaning.specs.Course.{
  declare,
  copied,
  create,
  working,
  change,
  child_start,
  eval,
  eval_links,
  find,
  run,
  run_all,
  range_from,
  assigned,
  none_of,
}
use Rattle.jade_meaning.specs.Talk.{Task, Event, Enter, Enroll, Take, TouchRead, TouchWrite, Wants, Give, Leave, Shift, Resign, Holds, held, when, take_in}
use Rattle.jade_meaning.specs.Talk.{own_last, first_take, touched, start_holds, start_takes, creation_gives, enters, kept, change_gives, shift, shifts, taken_anew}
use Rattle.jade_meaning.specs.Talk.{change_takes, changed, end_gives, end_leaves, events}
use Rattle.jade_meaning.specs.Walks.{Walk, setting_of}
use Rattle.jade_meaning.specs.Walk.{task_of, upcoming, First, IsChildOf, begun_as}
use Rattle.schedule_core.proofs.Lines.{every_append}

-- a task that is that of a walk
record HasWalk (s : Setting) (t : Task) : Type 0 where
  env : Environment
  spec : Specification
  body : List Statement
  is : task_of (begun_as s.items s.given s.limit env spec body) ≡ t

-- and so is each task that a course creates
abbrev Walked : Setting → Course → Type 0
Walked s (Reads o c on) = (v : ℤ) → Walked s (on v)
Walked s (Writes o c v on) = Walked s on
Walked s (Steps on) = Walked s on
Walked s (Creates child body on) = HasWalk s (record { spec = child; course = body }) × Walked s on
Walked s (Changes new on) = Walked s on
Walked s (Ends b) = Unit {0}

record Fine (s : Setting) (c : Course) : Type 0 where
  is : Walked s c

-- what a section creates has statements of a tree
abbrev mutual
  Imaged : Action → Type 0
  Imaged (Local kind x e) = Unit {0}
  Imaged (Assign x e) = Unit {0}
  Imaged (Store o e v) = Unit {0}
  Imaged (If e first) = AllImaged first
  Imaged (IfElse e first other) = AllImaged first × AllImaged other
  Imaged (For x low high body) = AllImaged body
  Imaged (Withonly at section names body) = AllImaged section × ((b : List Statement) × (block b ≡ body))
  Imaged (With at section) = AllImaged section
  Imaged (Declare how at o) = Unit {0}

  AllImaged : Actions → Type 0
  AllImaged Done = Unit {0}
  AllImaged (Then a b) = Imaged a × AllImaged b

module _ {S : Type 0} (val : S → Statement) (good : (s : S) → Imaged (action (val s))) where
  block_imaged : (xs : List S) → AllImaged (actions (map action (map val xs)))
  block_imaged [] = tt
  block_imaged (x ∷ xs) = (good x, block_imaged xs)

  layer : (y : Statement-F S) → Imaged
      ((general.at_statement image.forms image.statement_forms) (map-Statement Statement Action action (map-Statement S Statement val y)))
  layer (Statement-F.Local k n p x) = tt
  layer (Statement-F.Assign n p x) = tt
  layer (Statement-F.Store t x) = tt
  layer (Statement-F.If x first None) = block_imaged first
  layer (Statement-F.If x first (Some other)) = (block_imaged first, block_imaged other)
  layer (Statement-F.For n p l h b) = block_imaged b
  layer (Statement-F.Withonly p section names b) = (block_imaged section, (map val b, refl))
  layer (Statement-F.With p section) = block_imaged section
  layer (Statement-F.Declare w p o) = tt

statement_imaged : (s : Statement) → Imaged (action s)
statement_imaged s =
    ind-Statement (λ s. Imaged (action s))
    (λ x y k. rw (← k) (rw (fold-roll-Statement Action (general.at_statement image.forms image.statement_forms)) (layer (λ z. z.0) (λ z. z.1) y))) s

all_imaged : (b : List Statement) → AllImaged (block b)
all_imaged [] = tt
all_imaged (s ∷ b) = (statement_imaged s, all_imaged b)

module _ (s : Setting) where
  -- what goes on so from every state
  abbrev Good : On → Type 0
  Good on = (n : Mine) → Fine s (on n)

  done : (blame : Option Blame) → Fine s (Ends blame)
  done blame = record { is = tt }

  choose_good : (b : Bool) (f g : On) (m : Mine) → Fine s (f m) → Fine s (g m) → Fine s (choose b f g m)
  choose_good true f g m h k = h
  choose_good false f g m h k = k

  given_good : (v : Given) (at : Pos) (m : Mine) (on : Value → Course) → ((w : Value) → Fine s (on w)) → Fine s (given v at m on)
  given_good (Gives v) at m on h = h v
  given_good (Fails kind) at m on h = done _

  step_good : (limit : ℕ) (on : On) → Good on → Good (step limit on)
  step_good limit on h m = choose_good (nat_lt m.taken limit) _ _ m (record { is = (h (record m { taken = suc m.taken })).is }) (done _)

  scoped_good : (body : On → On) → ((on : On) → Good on → Good (body on)) → (on : On) → Good on → Good (scoped body on)
  scoped_good body b on h m = b (λ n. on (leave m n)) (λ n. h (leave m n)) m

  turns_good : (limit n : ℕ) (i : ℤ) (x : Name) (body : On → On) → ((on : On) → Good on → Good (body on)) → (on : On) → Good on
      → Good (turns limit n i x body on)
  turns_good limit zero i x body b on h m = h m
  turns_good limit (suc n) i x body b on h m =
      let turn : On → On = λ k a. body k (bind x (IntOf i) a) in
      step_good limit (λ a. scoped turn (turns limit n (i +ℤ pos 1) x body on) a)
      (λ a. scoped_good turn (λ k g c. b k g (bind x (IntOf i) c)) (turns limit n (i +ℤ pos 1) x body on) (turns_good limit n (i +ℤ pos 1) x body b on h) a) m

  read_good : (o c : ℕ) (at : Pos) (m : Mine) (on : Value → Course) → ((v : Value) → Fine s (on v)) → Fine s (read_cell o c at m on)
  read_good o c at m on h = choose_good (may_read (rights_on m.spec o)) _ _ m (record { is = λ z. (h (IntOf z)).is }) (done _)

  write_good : (o c : ℕ) (z : ℤ) (at : Pos) (on : On) (m : Mine) → Fine s (on m) → Fine s (write_cell o c z at on m)
  write_good o c z at on m h = choose_good (may_write (rights_on m.spec o)) _ _ m (record { is = h.is }) (done _)

  reach_good : (f : ResolvedObject) (i : ℤ) (at : Pos) (m : Mine) (on : ℕ → Course) → ((c : ℕ) → Fine s (on c)) → Fine s (reach f i at m on)
  reach_good f i at m on h = choose_good (is_index i f.size) _ _ m (h (magnitude i)) (done _)

  member_good : (p : Range) (i : ℤ) (at : Pos) (m : Mine) (on : ResolvedObject → Course) → ((f : ResolvedObject) → Fine s (on f))
      → Fine s (member p i at m on)
  member_good p i at m on h = choose_good (is_index i p.count) _ _ m (h _) (done _)

  amend_good : (r : Option Rights) (spec : Specification) (o : ℕ) (at : Pos) (on : On) (m : Mine) → Good on → Fine s (amend r spec o at on m)
  amend_good None spec o at on m g = done _
  amend_good (Some b) spec o at on m g = g _

  declare_good : (d : Draft) (how : DeclareWord) (o : ℕ) (at : Pos) (on : On) (m : Mine) → Good on → Fine s (declare d how o at on m)
  declare_good NoDraft how o at on m g = g m
  declare_good (Building spec) how o at on m g = g _
  declare_good (Amending spec) how o at on m g = amend_good (amended how (rights_on spec o)) spec o at on m g

  create_good : (at : Pos) (names : List Name) (body : Actions) (b : List Statement) (on : On) → block b ≡ body → Good on
      → Good (create s at names (run_all s body finish) on)
  create_good at names body b on is h m =
      let child = fitted m.spec (drafted m.draft) in
      let walk : HasWalk s (record { spec = child; course = run_all s body finish (child_start (copied names m.env ++ s.given) child) }) = record {
        env = copied names m.env ++ s.given;
        spec = child;
        body = b;
        is = ap (λ (a : Actions). record { spec = child; course = run_all s a finish (child_start (copied names m.env ++ s.given) child) }) is;
      } in
      choose_good (may_commute child) _ _ m (choose_good (covers m.spec child) _ _ m (record { is = (walk, (h (record m { draft = NoDraft })).is) }) (done _)) (done _)

  section_good : (at : Pos) (draft : Draft) (on : On) → Good on → Good (section_begins at draft on)
  section_good at draft on h m = choose_good (is_commuting m.spec) _ _ m (done _) (h (record m { draft = draft }))

  change_good : (on : On) → Good on → Good (change on)
  change_good on h m = record { is = (h (record m { spec = fitted m.spec (working m.draft m.spec); draft = NoDraft })).is }

  mutual
    eval_good : (e : Expression) (m : Mine) (on : Value → Course) → ((v : Value) → Fine s (on v)) → Fine s (eval s e m on)
    eval_good (Whole z) m on h = h _
    eval_good (Truth b) m on h = h _
    eval_good (Variable x) m on h = h _
    eval_good (Group e) m on h = eval_good e m on h
    eval_good (Signed sign at e) m on h = eval_good e m _ (λ v. given_good (signed sign v) at m on h)
    eval_good (Chain e links) m on h = eval_good e m _ (λ v. links_good links v m on h)
    eval_good (Cell o e) m on h =
        find_good o m _ (λ f. eval_good e m _ (λ i. reach_good f (whole i) (place_of o) m _ (λ c. read_good f.number c (place_of o) m on h)))

    links_good : (l : Links) (v : Value) (m : Mine) (on : Value → Course) → ((v : Value) → Fine s (on v)) → Fine s (eval_links s l v m on)
    links_good Last v m on h = h v
    links_good (Link op at e links) v m on h =
        choose_good (decides op v) _ _ m (h v) (eval_good e m _ (λ w. given_good (operated op v w) at m _ (λ u. links_good links u m on h)))

    find_good : (o : Place) (m : Mine) (on : ResolvedObject → Course) → ((f : ResolvedObject) → Fine s (on f)) → Fine s (find s o m on)
    find_good (Alone x at) m on h = h _
    find_good (Member x at e) m on h = eval_good e m _ (λ i. member_good (range_from 0 x s.items) (whole i) at m on h)

  mutual
    run_good : (st : Action) → Imaged st → (on : On) → Good on → Good (run s st on)
    run_good (Local kind x e) g on h m = eval_good e m _ (λ v. h (bind x v m))
    run_good (Assign x e) g on h m = eval_good e m _ (λ v. h (record m { env = assigned x v m.env }))
    run_good (Store o e v) g on h m =
        find_good o m _
        (λ f. eval_good e m _ (λ i. reach_good f (whole i) (place_of o) m _
        (λ c. eval_good v m _ (λ z. write_good f.number c (whole z) (place_of o) on m (h m)))))
    run_good (If e b) g on h m = eval_good e m _ (λ v. choose_good (holds v) _ _ m (scoped_good (run_all s b) (all_good b g) on h m) (h m))
    run_good (IfElse e b c) g on h m =
        eval_good e m _
        (λ v. choose_good (holds v) _ _ m (scoped_good (run_all s b) (all_good b g.0) on h m) (scoped_good (run_all s c) (all_good c g.1) on h m))
    run_good (For x low high body) g on h m =
        eval_good low m _ (λ l. eval_good high m _ (λ k. turns_good s.limit (turn_count (whole l) (whole k)) (whole l) x (run_all s body)
        (all_good body g) on h m))
    run_good (Withonly at section names body) g on h m =
        section_good at (Building (none_of s.items)) (scoped (run_all s section) (create s at names (run_all s body finish) on))
        (scoped_good (run_all s section) (all_good section g.0) (create s at names (run_all s body finish) on)
        (create_good at names body g.1.0 on g.1.1 h)) m
    run_good (With at section) g on h m =
        section_good at (Amending m.spec) (scoped (run_all s section) (change on))
        (scoped_good (run_all s section) (all_good section g) (change on) (change_good on h)) m
    run_good (Declare how at o) g on h m = find_good o m _ (λ f. declare_good m.draft how f.number at on m h)

    all_good : (b : Actions) → AllImaged b → (on : On) → Good on → Good (run_all s b on)
    all_good Done g on h m = h m
    all_good (Then st b) g on h m = step_good s.limit (run s st (run_all s b on)) (run_good st g.0 (run_all s b on) (all_good b g.1 on h)) m

  -- the task of an event
  abbrev Bred : Event → Type 0
  Bred (Enroll t n) = HasWalk s t
  Bred (Enter o a) = Unit {0}
  Bred (Take o m) = Unit {0}
  Bred (TouchRead o c v) = Unit {0}
  Bred (TouchWrite o c v) = Unit {0}
  Bred (Wants o c) = Unit {0}
  Bred (Give o) = Unit {0}
  Bred (Leave o) = Unit {0}
  Bred (Shift o a) = Unit {0}
  Bred (Resign b n) = Unit {0}

  each : (f : ℕ → List Event) → ((o : ℕ) → Every Bred (f o)) → (os : List ℕ) → Every Bred (flat_map f os)
  each f q [] = tt
  each f q (o ∷ os) = every_append Bred (f o) (flat_map f os) (q o) (each f q os)

  one : (b : Bool) (e : Event) → Bred e → Every Bred (when b e)
  one true e q = (q, tt)
  one false e q = tt

  takes : (m : Option Mode) (o : ℕ) → Every Bred (take_in m o)
  takes None o = tt
  takes (Some m) o = (tt, tt)

  either_of : (b : Bool) (es fs : List Event) → Every Bred es → Every Bred fs → Every Bred (if b then es else fs)
  either_of true es fs p q = p
  either_of false es fs p q = q

  first : (spec : Specification) (h : Holds) (o : ℕ) → Every Bred (first_take spec h o)
  first spec h o = either_of (is_none (held h o)) _ _ (takes (mode_of (rights_on spec o)) o) tt

  starts : (spec : Specification) → Every Bred (start_takes spec)
  starts spec = each _ (λ o. takes (mode_of (rights_on spec o)) o) (own_last (commuting_on spec) (objects spec))

  creation : (child : Specification) (h : Holds) → Every Bred (creation_gives child h ++ enters child)
  creation child h =
      every_append Bred (creation_gives child h) (enters child) (each _ (λ o. one _ (Give o) tt) (objects child))
      (each _ (λ o. one _ (Enter o (rights_on child o)) tt) (objects child))

  shifted : (old new : Rights) (o : ℕ) → Every Bred (shift old new o)
  shifted old new o = either_of (same_rights old new) _ _ tt (either_of (has_rights new) _ _ (tt, tt) (tt, tt))

  changing : (old new : Specification) (h : Holds) → Every Bred (change_gives new h ++ shifts old new ++ change_takes old new h)
  changing old new h =
      every_append Bred (change_gives new h ++ shifts old new) (change_takes old new h) (every_append Bred (change_gives new h) (shifts old new)
      (each _ (λ o. one _ (Give o) tt) (objects new)) (each _ (λ o. shifted (rights_on old o) (rights_on new o) o) (objects new)))
      (each _ (λ o. either_of (taken_anew old new h o) _ _ (takes (mode_of (rights_on new o)) o) tt) (objects new))

  ending : (spec : Specification) (h : Holds) → Every Bred (end_gives spec h ++ end_leaves spec)
  ending spec h =
      every_append Bred (end_gives spec h) (end_leaves spec) (each _ (λ o. one _ (Give o) tt) (objects spec))
      (each _ (λ o. one _ (Leave o) tt) (objects spec))

  tells : (c : Course) (spec : Specification) (h : Holds) (n : ℕ) (vs : List ℤ) → Walked s c → Every Bred (events c spec h n vs)
  tells (Reads o c on) spec h n [] w = every_append Bred (first_take spec h o) (Wants o c ∷ []) (first spec h o) (tt, tt)
  tells (Reads o c on) spec h n (v ∷ vs) w =
      every_append Bred (first_take spec h o) (TouchRead o c v ∷ events (on v) spec (touched spec h o) n vs) (first spec h o)
      (tt, tells (on v) spec (touched spec h o) n vs (w v))
  tells (Writes o c v on) spec h n vs w =
      every_append Bred (first_take spec h o) (TouchWrite o c v ∷ events on spec (touched spec h o) n vs) (first spec h o)
      (tt, tells on spec (touched spec h o) n vs w)
  tells (Steps on) spec h n vs w = tells on spec h (suc n) vs w
  tells (Creates child body on) spec h n vs w =
      every_append Bred (creation_gives child h ++ enters child) (Enroll (record { spec = child; course = body }) n ∷ events on spec (kept child h) 0 vs)
      (creation child h) (w.0, tells on spec (kept child h) 0 vs w.1)
  tells (Changes new on) spec h n vs w =
      every_append Bred (change_gives new h ++ shifts spec new ++ change_takes spec new h) (events on new (changed spec new h) n vs)
      (changing spec new h) (tells on new (changed spec new h) n vs w)
  tells (Ends b) spec h n vs w = every_append Bred (end_gives spec h ++ end_leaves spec) (Resign b n ∷ []) (ending spec h) (tt, tt)

  dropped : (k : ℕ) (es : List Event) → Every Bred es → Every Bred (drop k es)
  dropped zero es h = h
  dropped (suc k) [] h = tt
  dropped (suc k) (e ∷ es) h = dropped k es h.1

  bred : (es : List Event) (t : Task) (n : ℕ) → Every Bred es → First es (λ e. e ≡ Enroll t n) → HasWalk s t
  bred [] t n h f = absurd f
  bred (e ∷ es) t n h f = subst Bred f h.0

-- the child of a creation that is next
pub child_walk : (w : Walk) (t : Task) (n : ℕ) → First (upcoming w) (λ e. e ≡ Enroll t n) → (child : Walk) × IsChildOf w t child
child_walk w t n next =
    let s = setting_of w in
    let all = every_append (Bred s) (start_takes w.spec) _ (starts s w.spec) (tells s (task_of w).course w.spec (start_holds w.spec) 0 w.answers
    (all_good s (block w.body) (all_imaged w.body) finish (λ m. done s None) (child_start w.env w.spec)).is) in
    let h : HasWalk s t = bred s (upcoming w) t n (dropped s w.done _ all) next in
    (begun_as w.items w.given w.limit h.env h.spec h.body, record { task = h.is; items = refl; given = refl; limit = refl; answers = refl; done = refl })
