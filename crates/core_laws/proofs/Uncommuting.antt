-- Where no task that commutes is created, no entry has a right to commute, and no object is taken for commuting.
use Rattle.std.proofs.Common.{◌≡◌, ◌≢◌, ℕ, zero, suc, Bool, true, false, List, [], ◌∷◌, ◌++◌, take, drop, replicate, length, Option, Some, None, refl, sym, ap, ◌∙◌, subst}
use Rattle.std.specs.Prelude.{ℤ, nat_eq, slice_get, if◌then◌else◌}
use Rattle.std.specs.List.{flat_map}
use Rattle.jade_base.specs.declared.rights.Rights.{Rights}
use Rattle.jade_base.specs.declared.rights.Mode.TheVariants.{Reading, Writing, Commuting}
use Rattle.jade_base.specs.declared.rights.Right.{Right}
use Rattle.jade_base.specs.declared.rights.Right.TheVariants.{Absent, Deferred, Immediate}
use Rattle.jade_base.specs.Rights.{both_rights, is_there, is_immediate, has_rights, same_rights, mode_of, no_rights}
use Rattle.jade_syntax.specs.declared.tree.Program.{Program}
use Rattle.jade_syntax.specs.Abstract.{AbstractProgram}
use Rattle.jade_syntax.specs.Image.{program}
use Rattle.jade_syntax.specs.Objects.{sizes}
use Rattle.jade_meaning.specs.Course.{Course, root_spec, root_course}
use Rattle.jade_meaning.specs.Laws.{Every, CreatesPlain, NoneCommutes, root_task}
use Rattle.jade_meaning.specs.Proper.{NoMore, Proper, proper_read, proper_write, proper_step, proper_create, proper_change, proper_end}
use Rattle.jade_meaning.specs.Serial.{Path, Mark}
use Rattle.jade_meaning.specs.Specification.{Specification, rights_on, objects, commuting_on}
use Rattle.jade_meaning.specs.Talk.{Task, Event, Enter, Enroll, Take, TouchRead, TouchWrite, Wants, Give, Leave, Shift, Resign, Holds, talk, events}
use Rattle.jade_meaning.specs.Talk.{when, take_in, first_take, start_holds, start_takes, own_last, creation_gives, enters, kept, change_gives, shift, shifts, change_takes, changed, end_gives, end_leaves, touched}
use Rattle.jade_meaning.specs.Turns.{marks_by}
use Rattle.jade_meaning.specs.Walk.{upcoming, First, task_of}
use Rattle.jade_meaning.proofs.Groups.{every_append, every_back}
use Rattle.jade_meaning.proofs.Uncommuted.{none_commutes}
use Rattle.object_shelf.specs.declared.queue.Entry.{Entry}
use Rattle.object_shelf.specs.Shelves.{find}
use Rattle.object_shelf.specs.Views.{ObjectView}
use Rattle.task_roll.specs.declared.note.PartNote.{PartNote}
use Rattle.schedule_core.specs.declared.steps.Seat.{Seat}
use Rattle.schedule_core.specs.ByNumber.{shelf_at}
use Rattle.schedule_core.specs.EntryRights.{rights_after, rights_now, if_some, rights_of, EntriesHaveRights}
use Rattle.schedule_core.specs.Plain.{Reached, begins, goes_on, Does}
use Rattle.schedule_core.specs.Serially.{IsTask, is_root, is_created, events_done, TasksAreSerial}
use Rattle.schedule_core.specs.Soundness.{and_then}
use Rattle.core_laws.proofs.Counting.{in_front, every_at, every_take, every_drop}

-- no right to commute
abbrev Plain : Specification → Type 0
Plain spec = (o : ℕ) → is_there (rights_on spec o).commutes ≡ false

-- in a task of which this is known, no take is for commuting and a change gives no right to commute; a created task keeps to its specification
abbrev Fine : Type 0 → Event → Type 0
Fine N (Shift o a) = N → is_there a.commutes ≡ false
Fine N (Enroll t n) = Proper t.spec t.course
Fine N (Enter o a) = Unit {0}
Fine N (Take o m) = N → m ≢ Commuting
Fine N (TouchRead o c v) = Unit {0}
Fine N (TouchWrite o c v) = Unit {0}
Fine N (Wants o c) = Unit {0}
Fine N (Give o) = Unit {0}
Fine N (Leave o) = Unit {0}
Fine N (Resign b n) = Unit {0}

module _ (N : Type 0) where
  all_fine : (f : ℕ → List Event) (os : List ℕ) → ((o : ℕ) → Every (Fine N) (f o)) → Every (Fine N) (flat_map f os)
  all_fine f [] h = tt
  all_fine f (o ∷ os) h = every_append (Fine N) (f o) (flat_map f os) (h o) (all_fine f os h)

  when_fine : (b : Bool) (e : Event) → Fine N e → Every (Fine N) (when b e)
  when_fine true e h = (h, tt)
  when_fine false e h = tt

  take_fine : (a : Rights) (o : ℕ) → (N → is_there a.commutes ≡ false) → Every (Fine N) (take_in (mode_of a) o)
  take_fine a o h = go a.commutes h (is_immediate a.writes) (is_immediate a.reads)
    where
      go : (x : Right) → (N → is_there x ≡ false) → (y z : Bool)
          → Every (Fine N) (take_in (if is_immediate x then Some Commuting else (if y then Some Writing else (if z then Some Reading else None))) o)
      go Immediate h y z = (λ n. absurd (let e : true ≡ false = h n in cc), tt)
      go Deferred h true z = (λ n e. absurd (cc), tt)
      go Deferred h false true = (λ n e. absurd (cc), tt)
      go Deferred h false false = tt
      go Absent h true z = (λ n e. absurd (cc), tt)
      go Absent h false true = (λ n e. absurd (cc), tt)
      go Absent h false false = tt

  if_fine : (b : Bool) (es fs : List Event) → Every (Fine N) es → Every (Fine N) fs → Every (Fine N) (if b then es else fs)
  if_fine true es fs h g = h
  if_fine false es fs h g = g

  first_fine : (spec : Specification) → (N → Plain spec) → (h : Holds) (o : ℕ) → Every (Fine N) (first_take spec h o)
  first_fine spec n h o = if_fine _ (take_in (mode_of (rights_on spec o)) o) [] (take_fine (rights_on spec o) o (λ x. n x o)) tt

  shift_fine : (old new : Rights) (o : ℕ) → (N → is_there new.commutes ≡ false) → Every (Fine N) (shift old new o)
  shift_fine old new o h =
      if_fine (same_rights old new) [] (if has_rights new then Shift o new ∷ [] else Leave o ∷ []) tt
      (if_fine (has_rights new) (Shift o new ∷ []) (Leave o ∷ []) (h, tt) (tt, tt))

  -- no right to commute comes by a change
  still_plain : (new old : Specification) → NoMore new old → (N → Plain old) → N → Plain new
  still_plain new old m h n o = go (is_there (rights_on new o).commutes) refl
    where
      go : (b : Bool) → is_there (rights_on new o).commutes ≡ b → b ≡ false
      go false e = refl
      go true e = sym (m.commutes o e) ∙ h n o

  course_fine : {spec : Specification} {c : Course} → Proper spec c → (N → Plain spec) → (h : Holds) (k : ℕ) (vs : List ℤ) → Every (Fine N) (events c spec h k vs)
  course_fine {spec} (proper_read {o = o} {c = c} {on = on} i f) n h k [] = every_append (Fine N) (first_take spec h o) (Wants o c ∷ []) (first_fine spec n h o) (tt, tt)
  course_fine {spec} (proper_read {o = o} {c = c} {on = on} i f) n h k (v ∷ vs) =
      every_append (Fine N) (first_take spec h o) (TouchRead o c v ∷ events (on v) spec (touched spec h o) k vs) (first_fine spec n h o)
      (tt, course_fine (f v) n (touched spec h o) k vs)
  course_fine {spec} (proper_write {o = o} {c = c} {v = v} {on = on} i f) n h k vs =
      every_append (Fine N) (first_take spec h o) (TouchWrite o c v ∷ events on spec (touched spec h o) k vs) (first_fine spec n h o)
      (tt, course_fine f n (touched spec h o) k vs)
  course_fine {spec} (proper_step {on = on} f) n h k vs = course_fine f n h (suc k) vs
  course_fine {spec} (proper_create {child = child} {body = body} {on = on} none may cov size b f) n h k vs =
      every_append (Fine N) (creation_gives child h ++ enters child) (Enroll (record { spec = child; course = body }) k ∷ events on spec (kept child h) 0 vs)
      (every_append (Fine N) (creation_gives child h) (enters child) (all_fine _ (objects child) (λ o. when_fine _ (Give o) tt))
      (all_fine _ (objects child) (λ o. when_fine _ (Enter o (rights_on child o)) tt))) (b, course_fine f n (kept child h) 0 vs)
  course_fine {spec} (proper_change {new = new} {on = on} none m f) n h k vs =
      every_append (Fine N) (change_gives new h ++ shifts spec new ++ change_takes spec new h) (events on new (changed spec new h) k vs)
      (every_append (Fine N) (change_gives new h ++ shifts spec new) (change_takes spec new h)
      (every_append (Fine N) (change_gives new h) (shifts spec new) (all_fine _ (objects new) (λ o. when_fine _ (Give o) tt))
      (all_fine _ (objects new) (λ o. shift_fine (rights_on spec o) (rights_on new o) o (λ x. still_plain new spec m n x o))))
      (all_fine _ (objects new) (λ o. if_fine _ (take_in (mode_of (rights_on new o)) o) []
      (take_fine (rights_on new o) o (λ x. still_plain new spec m n x o)) tt)))
      (course_fine f (still_plain new spec m n) (changed spec new h) k vs)
  course_fine {spec} (proper_end {b = b}) n h k vs =
      every_append (Fine N) (end_gives spec h ++ end_leaves spec) (Resign b k ∷ [])
      (every_append (Fine N) (end_gives spec h) (end_leaves spec) (all_fine _ (objects spec) (λ o. when_fine _ (Give o) tt))
      (all_fine _ (objects spec) (λ o. when_fine _ (Leave o) tt))) (tt, tt)

talk_fine : (t : Task) → Proper t.spec t.course → (vs : List ℤ) → Every (Fine (Plain t.spec)) (talk t vs)
talk_fine t f vs =
    every_append (Fine (Plain t.spec)) (start_takes t.spec) (events t.course t.spec (start_holds t.spec) 0 vs)
    (all_fine (Plain t.spec) (λ o. take_in (mode_of (rights_on t.spec o)) o) (own_last (commuting_on t.spec) (objects t.spec))
    (λ o. take_fine (Plain t.spec) (rights_on t.spec o) o (λ n. n o))) (course_fine (Plain t.spec) f (λ n. n) (start_holds t.spec) 0 vs)

-- each live task keeps to its specification
abbrev Keeps : Seat → Type 0
Keeps s = Proper (task_of s.walker).spec (task_of s.walker).course

keeps_on : (e : Event) (s : Seat) (ss : List ObjectView) (new : List Seat) (after : List ObjectView) → First (upcoming s.walker) (λ x. x ≡ e)
    → Does e s ss new after → Keeps s → Every Keeps new
keeps_on (Take o m) s ss new after h d c = subst (Every Keeps) (sym d.1) (c, tt)
keeps_on (Give o) s ss new after h d c = subst (Every Keeps) (sym d.0) (c, tt)
keeps_on (Enter o a) s ss new after h d c = subst (Every Keeps) (sym d.0) (c, tt)
keeps_on (Shift o a) s ss new after h d c = subst (Every Keeps) (sym d.0) (c, tt)
keeps_on (Leave o) s ss new after h d c = subst (Every Keeps) (sym d.0) (c, tt)
keeps_on (TouchWrite o k v) s ss new after h d c = subst (Every Keeps) (sym d.0) (c, tt)
keeps_on (TouchRead o k v) s ss new after h d c = absurd d
keeps_on (Resign b n) s ss new after h d c = subst (Every Keeps) (sym d.0) tt
keeps_on (Wants o k) s ss new after h d c = subst (Every Keeps) (sym d.0) (c, tt)
keeps_on (Enroll t n) s ss new after h d c =
    let born : Proper t.spec t.course =
    in_front (Fine (Plain (task_of s.walker).spec)) s.walker.done (talk (task_of s.walker) s.walker.answers) (Enroll t n) (talk_fine (task_of s.walker) c s.walker.answers) h in
    subst (Every Keeps) (sym d.2) (subst (λ (u : Task). Proper u.spec u.course) (sym d.1.task) born, (c, tt))

all_keep : (keeps : (p : AbstractProgram) (ns : List ℤ) (limit : ℕ) → Proper (root_spec p) (root_course p ns limit)) (p : Program) (ns : List ℤ) (limit k : ℕ)
    (roll : List Seat) (ss : List ObjectView) (notes : List PartNote) → Reached p ns limit k roll ss notes → Every Keeps roll
all_keep keeps p ns limit k roll ss notes begins = (keeps (program p) ns limit, tt)
all_keep keeps p ns limit _ _ _ _ (goes_on {k = k} {roll = roll} {roll' = roll'} {ss = ss} {ss' = ss'} {notes = notes} {notes' = notes'} r place step) =
    let h = all_keep keeps p ns limit k roll ss notes r in
    let t = step.step in
    let new = keeps_on t.event t.seat ss t.new ss' t.next t.does (every_at Keeps roll place t.seat t.here h) in
    subst (Every Keeps) (sym t.roll)
    (every_append Keeps (take place roll) (t.new ++ drop (suc place) roll) (every_take Keeps place roll h)
    (every_append Keeps t.new (drop (suc place) roll) new (every_drop Keeps (suc place) roll h)))

-- in a run that creates no task that commutes no task has a right to commute at its beginning
both_plain : (n : ℕ) → Plain (replicate n both_rights)
both_plain zero o = refl
both_plain (suc n) zero = refl
both_plain (suc n) (suc o) = both_plain n o

task_plain : (run : List Mark) (root : Task) (q : Path) (t : Task) → IsTask run root q t → Every (λ (m : Mark). CreatesPlain m.deed) run → Plain root.spec → Plain t.spec
task_plain run root _ _ is_root h plain = plain
task_plain run root q t (is_created parent k steps front back e is) h plain =
    none_commutes t.spec (every_back (λ (m : Mark). CreatesPlain m.deed) front _ (subst (Every (λ (m : Mark). CreatesPlain m.deed)) is h)).0

-- and later, by its events
after_plain : (N : Type 0) → N → (o : ℕ) (es : List Event) (a : Rights) → Every (Fine N) es → is_there a.commutes ≡ false
    → is_there (rights_after o es a).commutes ≡ false
after_plain N n o [] a h e = e
after_plain N n o (Shift q b ∷ es) a h e = after_plain N n o es (if nat_eq o q then b else a) h.1 (go (nat_eq o q))
  where
    go : (x : Bool) → is_there (if x then b else a).commutes ≡ false
    go true = h.0 n
    go false = e
after_plain N n o (Leave q ∷ es) a h e = after_plain N n o es (if nat_eq o q then no_rights else a) h.1 (go (nat_eq o q))
  where
    go : (x : Bool) → is_there (if x then no_rights else a).commutes ≡ false
    go true = refl
    go false = e
after_plain N n o (Enter q b ∷ es) a h e = after_plain N n o es a h.1 e
after_plain N n o (Enroll t k ∷ es) a h e = after_plain N n o es a h.1 e
after_plain N n o (Take q m ∷ es) a h e = after_plain N n o es a h.1 e
after_plain N n o (TouchRead q c v ∷ es) a h e = after_plain N n o es a h.1 e
after_plain N n o (TouchWrite q c v ∷ es) a h e = after_plain N n o es a h.1 e
after_plain N n o (Wants q c ∷ es) a h e = after_plain N n o es a h.1 e
after_plain N n o (Give q ∷ es) a h e = after_plain N n o es a h.1 e
after_plain N n o (Resign b k ∷ es) a h e = after_plain N n o es a h.1 e

first_events : (P : Event → Type 0) (n : ℕ) (es : List Event) → Every P es → Every P (take n es)
first_events P zero es h = tt
first_events P (suc n) [] h = tt
first_events P (suc n) (x ∷ es) h = (h.0, first_events P n es h.1)

entry_is : (e : Entry) (a : Rights) → ◌≡◌ {A = Option Rights} (Some e.rights) (if_some a) → e.rights ≡ a
entry_is e a q = go (has_rights a) q
  where
    go : (b : Bool) → ◌≡◌ {A = Option Rights} (Some e.rights) (if b then Some a else None) → e.rights ≡ a
    go true q = cc
    go false q = absurd (cc)

-- what is known of each live task of such a program: that it has no right to commute at its beginning, and so of each of its events
record PlainTask (s : Seat) : Type 0 where
  plain : Plain (task_of s.walker).spec
  events : Every (Fine (Plain (task_of s.walker).spec)) (talk (task_of s.walker) s.walker.answers)

module _ (keeps : (p : AbstractProgram) (ns : List ℤ) (limit : ℕ) → Proper (root_spec p) (root_course p ns limit)) (p : Program) (ns : List ℤ) (limit : ℕ)
    (tasks : TasksAreSerial p ns limit) (none : (turns : ℕ → List Path) → NoneCommutes (program p) ns limit turns) where
  module _ (k : ℕ) (roll : List Seat) (ss : List ObjectView) (notes : List PartNote) (r : Reached p ns limit k roll ss notes) (i : ℕ) (s : Seat)
      (live : slice_get roll i ≡ Some s) where
    plain_task : PlainTask s
    plain_task =
        let t = task_of s.walker in
        let lists = and_then ss (λ o. []) in
        record {
          plain = task_plain (marks_by (program p) ns limit lists) (root_task (program p) ns limit) s.path t (tasks.task k roll ss notes r (λ o. []) i s live)
              (none lists).each (both_plain (length (sizes p.items)));
          events = talk_fine t (every_at Keeps roll i s live (all_keep keeps p ns limit k roll ss notes r)) s.walker.answers;
        }

    pub entry_plain : EntriesHaveRights p ns limit → (o : ℕ) (e : Entry) → find s.path (shelf_at ss o).queue ≡ Some e → is_there e.rights.commutes ≡ false
    entry_plain rights o e there =
        let t = task_of s.walker in
        let known = plain_task in
        let fine = first_events (Fine (Plain t.spec)) s.walker.done (talk t s.walker.answers) known.events in
        let now = after_plain (Plain t.spec) known.plain o (events_done s.walker) (rights_on t.spec o) fine (known.plain o) in
        let is = entry_is e (rights_now s o) (ap rights_of (sym there) ∙ rights.own k roll ss notes r i s live o) in
        ap (λ (a : Rights). is_there a.commutes) is ∙ now

    -- and it takes no object for commuting
    pub takes_plainly : (o : ℕ) → First (upcoming s.walker) (λ x. x ≡ Take o Commuting) → ⊥
    takes_plainly o next =
        let t = task_of s.walker in
        let known = plain_task in
        in_front (Fine (Plain t.spec)) s.walker.done (talk t s.walker.answers) (Take o Commuting) known.events next known.plain refl
