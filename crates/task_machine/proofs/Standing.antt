-- A machine between its calls, and what each call makes of it.
use Rattle.std.proofs.Common.{◌≡◌, ℕ, zero, suc, ◌+◌, ◌-◌, ◌<◌, ◌≤◌, ◌⊎◌, inl, inr, ⊎_elim, ◌%◌, ◌^◌, List, [], ◌∷◌, length, Bool, true, false}
use Rattle.std.proofs.Common.{Option, Some, None, refl, sym, ap, ap₂, ◌∙◌, subst, arith}
use Rattle.std.specs.Prelude.{ℤ, Result, Ok, Err, OnErr, is_some, nat_eq, replicate, slice_get, if◌then◌else◌}
use Rattle.std.proofs.Math.Path.{fun_ext}
use Rattle.std.proofs.lemmas.Bool.{true≢false}
use Rattle.jade_base.specs.declared.failure.Memory.{Memory}
use Rattle.jade_base.specs.declared.place.ObjectId.{ObjectId}
use Rattle.jade_base.specs.declared.place.Pos.{Pos}
use Rattle.code_meaning.specs.declared.code.Instruction.{Instruction}
use Rattle.code_meaning.specs.declared.code.Instruction.TheVariants as i
use Rattle.jade_base.specs.declared.rights.Rights.{Rights}
use Rattle.jade_base.specs.declared.rights.Mode.{Mode}
use Rattle.jade_base.specs.Rights.{mode_of, no_rights}
use Rattle.jade_base.specs.Specification.{rights_in}
use Rattle.jade_base.specs.Held.{Held}
use Rattle.jade_meaning.specs.Specification.{rights_on, commuting_on}
use Rattle.jade_meaning.specs.Course.{Course, Reads, Writes, Steps, Creates, Changes, Ends, NoDraft}
use Rattle.jade_meaning.specs.Talk.{events}
use Rattle.task_code.specs.Rules.{TaskCode}
use Rattle.task_machine.specs.declared.holdings.Row.{Row}
use Rattle.task_machine.specs.declared.frame.Pause.{Pause}
use Rattle.task_machine.specs.declared.frame.Pause.TheVariants as pause
use Rattle.task_machine.specs.declared.next.Phase.{Phase}
use Rattle.task_machine.specs.declared.next.Phase.TheVariants as phase
use Rattle.task_machine.specs.declared.machine.Ask.{Ask}
use Rattle.task_machine.specs.declared.machine.Ask.TheVariants as ask
use Rattle.task_machine.specs.Playing.{Contents, Played, played, touches}
use Rattle.task_machine.specs.Stages.{id, rights_at, Wants, Tells, beyond}
use Rattle.task_machine.specs.Executions.{Execution, Advanced, created_by, has_row, held_by, objects_in}
use Rattle.task_machine.specs.Left.{Touches, IsLeast, IsNone, has_mode, is_own, others, to_take, left_to_change, no_due}
use Rattle.task_machine.specs.Machines.{Machine, IsOrdered, NoDue, IsNext, course_at, child_of, due_at, due_in, holds_at, amended_at, left_in}
use Rattle.task_machine.specs.Machines.{is_event, is_to_move, rest_of, TakeIsNext}
use Rattle.task_machine.specs.Asks.{PlaysTo, GoesTo, plays}
use Rattle.task_machine.specs.steps.Standing.{OwnIsDue, OwnIsNotDue, has_entry, HasRows, Knows, Asked, machine, asking, IsKept, TakenAs, RunsOn, marks_in, phase_of}
use Rattle.task_machine.proofs.Tables.{table_at, table_past}
use Rattle.task_machine.proofs.Left.{changes_first}
use Rattle.task_machine.proofs.Telling.{tells_as_played}
use Rattle.task_machine.proofs.Asking.{spec_long, due_has_row, start_other, start_own, starts_done, take_due, take_wanted, takes_done, told, agreed, goes_on, order_there, none_there, same_play}
use Rattle.task_machine.proofs.Asking.{stuck, rests}

-- ---- rows

either : (b : Bool) (x y : Bool) → x ≡ y → (if b then y else x) ≡ y
either true x y h = refl
either false x y h = h

no_entry : (es : List (ObjectId × Rights)) (o : ℕ) → has_entry o es ≡ false → rights_in es (id o) ≡ no_rights
no_entry [] o h = refl
no_entry (x ∷ es) o h = at (λ q. no_entry es o q) (nat_eq x.0.0 o) h
  where
    at : (has_entry o es ≡ false → rights_in es (id o) ≡ no_rights) → (b : Bool) → (if b then true else has_entry o es) ≡ false
        → (if b then x.1 else rights_in es (id o)) ≡ no_rights
    at more true h = absurd (true≢false h)
    at more false h = more h

no_mode : (a : Rights) → a ≡ no_rights → is_some (mode_of a) ≡ true → ⊥
no_mode a e h = true≢false (sym h ∙ ap (λ r. is_some (mode_of r)) e)

-- an object with a mode has a row
pub mode_has_row : (e : Execution) (o : ℕ) → HasRows e.stage.spec.entries e.rows → o < e.stage.objects
    → is_some (mode_of (rights_on (rights_at e.stage) o)) ≡ true → has_row o e.rows ≡ true
mode_has_row e o rows lt h = at (has_entry o e.stage.spec.entries) refl
  where
    at : (b : Bool) → has_entry o e.stage.spec.entries ≡ b → has_row o e.rows ≡ true
    at true q = rows.row o q
    at false q =
        let z : 0 + o ≡ o = omega arith in
        let here : rights_on (rights_at e.stage) o ≡ rights_in e.stage.spec.entries (id o) =
        table_at (λ i. rights_in e.stage.spec.entries (id i)) 0 e.stage.objects o no_rights lt ∙ ap (λ i. rights_in e.stage.spec.entries (id i)) z in
        absurd (no_mode (rights_on (rights_at e.stage) o) (here ∙ no_entry e.stage.spec.entries o q) h)

no_objects : (x : ObjectId) (xs : List ObjectId) → [] ≡ x ∷ xs → ⊥
no_objects x xs e = let l : 0 ≡ suc (length xs) = ap length e in omega (arith, l)

abbrev head_of : ObjectId → List ObjectId → ObjectId
head_of d [] = d
head_of d (x ∷ xs) = x

abbrev tail_of : List ObjectId → List ObjectId
tail_of [] = []
tail_of (x ∷ xs) = xs

pub row_of_same : (rs qs : List Row) (o : ℕ) → objects_in qs ≡ objects_in rs → has_row o qs ≡ has_row o rs
row_of_same [] [] o e = refl
row_of_same [] (q ∷ qs) o e = absurd (no_objects q.object (objects_in qs) (sym e))
row_of_same (r ∷ rs) [] o e = absurd (no_objects r.object (objects_in rs) e)
row_of_same (r ∷ rs) (q ∷ qs) o e =
    ap₂ (λ (x : ObjectId) t. if nat_eq x.0 o then true else t) (ap (head_of r.object) e) (row_of_same rs qs o (ap tail_of e))

-- ---- a task about something else

pub in_phase : (e : Execution) (ds : List Bool) (p q : Phase) (part : ℕ) → IsOrdered (machine e ds p part) → IsOrdered (machine e ds q part)
in_phase e ds p q part g = record { long = g.long; agrees = g.agrees; free = g.free; steps = g.steps }

-- ---- takes

-- what is due is asked for
pub due_asked : (e : Execution) (ds : List Bool) (o : ObjectId) (k : Ask) → IsNext phase.Taking (machine e ds phase.Taking 0) o.0 → TakenAs k o e
    → (part : ℕ) → IsOrdered (machine e ds phase.Taking part) → Asked k phase.Taking (machine e ds phase.Taking part)
due_asked e ds o (ask.Take x mode) least t part good =
    let m = machine e ds phase.Taking part in
    let next : IsNext phase.Taking m x.0 = subst (λ (y : ObjectId). IsNext phase.Taking m y.0) (sym t.0) least in
    record {
      there = due_has_row m good x.0 next.here;
      within = next.within;
      mode_is = t.1;
      next =
          take_due m good x.0 mode (subst (λ k. IsLeast (to_take (due_at m) (rights_at e.stage)) k x.0) (sym (spec_long m good)) next) t.1;
    }
due_asked e ds o (ask.GiveBack x) least t part good = absurd t
due_asked e ds o ask.Create least t part good = absurd t
due_asked e ds o ask.Change least t part good = absurd t
due_asked e ds o ask.End least t part good = absurd t
due_asked e ds o (ask.Fault b) least t part good = absurd t

-- what is due at the begin is asked for
asked_at_start : (e : Execution) (ds : List Bool) (o : ObjectId) (k : Ask) (part : ℕ) → TakenAs k o e → o.0 < e.stage.objects
    → to_take (due_in e.rows ds) (rights_at e.stage) o.0 ≡ true → IsOrdered (machine e ds phase.Starting part)
    → ((mode : Mode) → mode_of (rights_on (rights_at e.stage) o.0) ≡ Some mode → TakeIsNext o.0 mode phase.Starting (machine e ds phase.Starting part))
    → Asked k phase.Starting (machine e ds phase.Starting part)
asked_at_start e ds o (ask.Take x mode) part t lt due good next =
    let m = machine e ds phase.Starting part in
    let same : x ≡ o = t.0 in
    record {
      there = due_has_row m good x.0 (ap (λ (y : ObjectId). to_take (due_in e.rows ds) (rights_at e.stage) y.0) same ∙ due);
      within = subst (λ (y : ObjectId). y.0 < e.stage.objects) (sym same) lt;
      mode_is = t.1;
      next = subst (λ (y : ObjectId). TakeIsNext y.0 mode phase.Starting m) (sym same)
          (next mode (ap (λ (y : ObjectId). mode_of (rights_on (rights_at e.stage) y.0)) (sym same) ∙ t.1));
    }
asked_at_start e ds o (ask.GiveBack x) part t lt due good next = absurd t
asked_at_start e ds o ask.Create part t lt due good next = absurd t
asked_at_start e ds o ask.Change part t lt due good next = absurd t
asked_at_start e ds o ask.End part t lt due good next = absurd t
asked_at_start e ds o (ask.Fault b) part t lt due good next = absurd t

less_taken : (b d m : Bool) → (if (if b then false else d) then m else false) ≡ true → (if d then m else false) ≡ true
less_taken true d m h = absurd (true≢false (sym h))
less_taken false d m h = h

pub other_asked : (e : Execution) (ds : List Bool) (o : ObjectId) (k : Ask) → IsNext phase.Starting (machine e ds phase.Starting 0) o.0 → TakenAs k o e
    → (part : ℕ) → IsOrdered (machine e ds phase.Starting part) → Asked k phase.Starting (machine e ds phase.Starting part)
other_asked e ds o k least t part good =
    let m = machine e ds phase.Starting part in
    asked_at_start e ds o k part t least.within (less_taken (is_own (commuting_on (rights_at e.stage)) o.0) _ _ least.here) good
    (λ mode is. start_other m good o.0 mode
    (subst (λ k. IsLeast (to_take (others (commuting_on (rights_at e.stage)) (due_at m)) (rights_at e.stage)) k o.0) (sym (spec_long m good)) least) is)

pub own_asked : (e : Execution) (ds : List Bool) (o : ObjectId) (k : Ask) → IsNone (is_to_move phase.Starting e ds) e.stage.objects → OwnIsDue e ds o.0
    → TakenAs k o e → (part : ℕ) → IsOrdered (machine e ds phase.Starting part) → Asked k phase.Starting (machine e ds phase.Starting part)
own_asked e ds o k none due t part good =
    let m = machine e ds phase.Starting part in
    asked_at_start e ds o k part t due.within (ap (λ d. if d then has_mode (rights_at e.stage) o.0 else false) due.due ∙ due.mode) good
    (λ mode is. start_own m good o.0 mode
    (subst (IsNone (to_take (others (commuting_on (rights_at e.stage)) (due_at m)) (rights_at e.stage))) (sym (spec_long m good)) none) due.own due.due
    (subst (λ k. o.0 < k) (sym (spec_long m good)) due.within) is)

-- where neither another object is left to take nor the own one, nothing is
pub none_to_start : (e : Execution) (ds : List Bool) → IsNone (is_to_move phase.Starting e ds) e.stage.objects → OwnIsNotDue e ds
    → (o : ℕ) → to_take (due_in e.rows ds) (rights_at e.stage) o ≡ false
none_to_start e ds none free o = at (commuting_on (rights_at e.stage)) refl
  where
    T : ℕ → Bool
    T o = to_take (due_in e.rows ds) (rights_at e.stage) o

    no_takes : (d : Bool) (a : Rights) → a ≡ no_rights → (if d then is_some (mode_of a) else false) ≡ false
    no_takes true a h = ap (λ r. is_some (mode_of r)) h
    no_takes false a h = refl

    far : (e.stage.objects ≤ o) → T o ≡ false
    far le = no_takes (due_in e.rows ds o) (rights_on (rights_at e.stage) o)
        (table_past (λ i. rights_in e.stage.spec.entries (id i)) 0 e.stage.objects o no_rights (omega (arith, le)))

    cases_lt : (i k : ℕ) → (i < k) ⊎ (k ≤ i)
    cases_lt i zero = inr (omega arith)
    cases_lt zero (suc k) = inl (omega arith)
    cases_lt (suc i) (suc k) = ⊎_elim (λ lt. inl (omega (arith, lt))) (λ le. inr (omega (arith, le))) (cases_lt i k)

    below : (x : Option ℕ) → commuting_on (rights_at e.stage) ≡ x → is_own x o ≡ false → T o ≡ false
    below x is q = ⊎_elim
        (λ lt. sym (ap (λ b. if (if b then false else due_in e.rows ds o) then has_mode (rights_at e.stage) o else false) (ap (λ y. is_own y o) is ∙ q))
        ∙ none o lt) far (cases_lt o e.stage.objects)

    at : (x : Option ℕ) → commuting_on (rights_at e.stage) ≡ x → T o ≡ false
    at None is = below None is refl
    at (Some p) is = two (nat_eq p o) refl
      where
        two : (b : Bool) → nat_eq p o ≡ b → T o ≡ false
        two true q = let same : p ≡ o = grind (arith, q) in subst (λ j. T j ≡ false) same (free p is)
        two false q = below (Some p) is q

wanted_touches : (o : ℕ) (c : Course) (k : Contents) → Wants o c k → Touches o c
wanted_touches o (Reads p c on) k h = h.0
wanted_touches o (Writes p c v on) k h = h.0
wanted_touches o (Steps on) k h = absurd h
wanted_touches o (Creates s b on) k h = absurd h
wanted_touches o (Changes s on) k h = absurd h
wanted_touches o (Ends b) k h = absurd h

-- an object that is wanted is asked for
pub want_asked : (e : Execution) (ds : List Bool) (o : ObjectId) (k : Ask) → Tells (pause.Take o.0) (child_of e) e.stage (held_by e) → TakenAs k o e
    → (part : ℕ) → IsOrdered (machine e ds phase.Going part) → NoDue (machine e ds phase.Going part) → HasRows e.stage.spec.entries e.rows
    → Asked k phase.Going (machine e ds phase.Going part)
want_asked e ds o (ask.Take x mode) tells t part good none rows =
    let m = machine e ds phase.Going part in
    let w : Tells (pause.Take x.0) (child_of e) e.stage (held_by e) =
    subst (λ (y : ObjectId). Tells (pause.Take y.0) (child_of e) e.stage (held_by e)) (sym t.0) tells in
    let row : has_row x.0 e.rows ≡ true = mode_has_row e x.0 rows w.0 w.2 in
    let free : (h : Option Held) → held_by e x.0 ≡ h → h ≡ None =
    λ h is. unheld e ds part x.0 h is good w.3 in
    record {
      there = row;
      within = w.0;
      mode_is = t.1;
      next =
          take_wanted m good x.0 mode none row w.0 (wanted_touches x.0 (course_at e) (held_by e) w.1) (free (held_by e x.0) refl) t.1;
    }
  where
    unheld : (e : Execution) (ds : List Bool) (part o : ℕ) (h : Option Held) → held_by e o ≡ h → IsOrdered (machine e ds phase.Going part)
        → ((x : Held) → held_by e o ≡ Some x → mode_of (rights_on (rights_at e.stage) o) ≡ Some x.mode → ⊥) → h ≡ None
    unheld e ds part o None is good not = refl
    unheld e ds part o (Some x) is good not = absurd (not x is (good.agrees o x is))
want_asked e ds o (ask.GiveBack x) tells t part good none rows = absurd t
want_asked e ds o ask.Create tells t part good none rows = absurd t
want_asked e ds o ask.Change tells t part good none rows = absurd t
want_asked e ds o ask.End tells t part good none rows = absurd t
want_asked e ds o (ask.Fault b) tells t part good none rows = absurd t

-- ---- the code is run on

pub marks_clear : (rs : List Row) (ds : List Bool) (o : ℕ) → due_in rs (replicate (length ds) false) o ≡ false
marks_clear [] ds o = refl
marks_clear (r ∷ rs) [] o = refl
marks_clear (r ∷ rs) (d ∷ ds) o = either (nat_eq r.object.0 o) (due_in rs (replicate (length ds) false) o) false (marks_clear rs ds o)

pub clear_long : (ds : List Bool) → length (replicate (length ds) false) ≡ length ds
clear_long [] = refl
clear_long (d ∷ ds) = ap suc (clear_long ds)

module _ (e : Execution) (ds : List Bool) (part : ℕ) where
  pub settled_due : (p : Phase) → Knows p (machine e ds p part) → RunsOn p e ds → NoDue (machine e (marks_in p ds) phase.Going part)
  settled_due phase.Starting k r = λ o. marks_clear e.rows ds o
  settled_due phase.Taking k r = λ o. marks_clear e.rows ds o
  settled_due phase.Going k r = k
  settled_due (phase.Creating number) k r = absurd r
  settled_due phase.Changing k r = absurd r
  settled_due (phase.Ending b) k r = absurd r

  pub settled_order : (p : Phase) → IsOrdered (machine e ds p part) → RunsOn p e ds → IsOrdered (machine e (marks_in p ds) phase.Going part)
  settled_order phase.Starting g r = record {
    long = clear_long ds ∙ g.long;
    agrees = g.agrees;
    free = λ o d. absurd (true≢false (sym d ∙ marks_clear e.rows ds o));
    steps = g.steps;
  }
  settled_order phase.Taking g r = record {
    long = clear_long ds ∙ g.long;
    agrees = g.agrees;
    free = λ o d. absurd (true≢false (sym d ∙ marks_clear e.rows ds o));
    steps = g.steps;
  }
  settled_order phase.Going g r = g
  settled_order (phase.Creating number) g r = absurd r
  settled_order phase.Changing g r = absurd r
  settled_order (phase.Ending b) g r = absurd r

  -- the course is told from here
  pub settled_left : (p : Phase) → IsOrdered (machine e ds p part) → Knows p (machine e ds p part) → RunsOn p e ds
      → (vs : List ℤ) → left_in p (machine e ds p part) vs ≡ events (course_at e) (rights_at e.stage) (holds_at e) (part - e.stage.left) vs
  settled_left phase.Starting g k r vs = starts_done (machine e ds phase.Starting part) g r vs
  settled_left phase.Taking g k r vs =
      let m = machine e ds phase.Taking part in
      takes_done m g (subst (IsNone (to_take (due_at m) (rights_at e.stage))) (sym (spec_long m g)) r) vs
  settled_left phase.Going g k r vs = told (machine e ds phase.Going part) g k (course_at e) vs
  settled_left (phase.Creating number) g k r vs = absurd r
  settled_left phase.Changing g k r vs = absurd r
  settled_left (phase.Ending b) g k r vs = absurd r

abbrev is_end : Pause → Bool
is_end pause.End = true
is_end x = false

created_here : (code : List Instruction) (place number : ℕ) (at : Pos) → slice_get code place ≡ Some (i.Create number at)
    → created_by (slice_get code place) ≡ Some number
created_here code place number at h = ap created_by h

-- what is known at a pause
pub knows_at : (q : Pause) (f : Execution) (ds : List Bool) (part : ℕ) → is_event q ≡ true → NoDue (machine f ds phase.Going part)
    → Tells q (child_of f) f.stage (held_by f) → ((q ≡ pause.End → ⊥) → f.stage.place < length f.stage.code)
    → Knows (phase_of q) (machine f ds (phase_of q) part)
knows_at pause.End f ds part t none tells there = (none, tells)
knows_at (pause.Fault b) f ds part t none tells there = (none, tells)
knows_at (pause.Take o) f ds part t none tells there = none
knows_at (pause.Declare o r) f ds part t none tells there = none
knows_at (pause.Create number) f ds part t none tells there = (none, tells.2, created_here f.stage.code f.stage.place number tells.0.0 tells.0.1)
knows_at pause.Change f ds part t none tells there = there (λ h. true≢false (sym (ap is_end h)))
knows_at pause.Other f ds part t none tells there = none

-- what is left at a pause
pub left_at_pause : (q : Pause) (f : Execution) (ds : List Bool) (part : ℕ) → IsOrdered (machine f ds phase.Going part)
    → NoDue (machine f ds phase.Going part) → Tells q (child_of f) f.stage (held_by f) → (vs : List ℤ)
    → left_in (phase_of q) (machine f ds (phase_of q) part) vs ≡ left_in phase.Going (machine f ds phase.Going part) vs
left_at_pause pause.End f ds part g none tells vs = refl
left_at_pause (pause.Fault b) f ds part g none tells vs = refl
left_at_pause (pause.Take o) f ds part g none tells vs = refl
left_at_pause (pause.Declare o r) f ds part g none tells vs = refl
left_at_pause (pause.Create number) f ds part g none tells vs = refl
left_at_pause pause.Change f ds part g none tells vs =
    let m = machine f ds phase.Going part in
    let on = beyond (child_of f) f.stage (amended_at f) NoDraft in
    let n = part - f.stage.left in
    let nothing : due_at m ≡ no_due = fun_ext none in
    ap (λ d. left_to_change d (amended_at f) on (rights_at f.stage) (holds_at f) n vs) nothing
    ∙ sym (changes_first (amended_at f) on (rights_at f.stage) (holds_at f) n vs)
    ∙ ap (λ c. events c (rights_at f.stage) (holds_at f) n vs) (sym tells.1)
    ∙ sym (told m g none (course_at f) vs)
left_at_pause pause.Other f ds part g none tells vs = refl

-- so many touches are told by the events, which are counted modulo 2^64
pub touched_by : (before after count : ℕ) → before < 2 ^ 64 → after < 2 ^ 64 → count < 2 ^ 64 → after % 2 ^ 64 ≡ (before + count) % 2 ^ 64
    → (after + (2 ^ 64 - before)) % 2 ^ 64 ≡ count
touched_by before after count lt lt' few h = omega arith

-- a task that has run its code on to an event
module _ (e f : Execution) (ds : List Bool) (p : Phase) (part : ℕ) (q : Pause) (x : Advanced e q f) (event : is_event q ≡ true)
    (good : IsOrdered (machine e ds p part)) (knows : Knows p (machine e ds p part)) (runs : RunsOn p e ds) where
  abbrev m0 : Machine
  m0 = machine e (marks_in p ds) phase.Going part

  abbrev m1 : Machine
  m1 = machine f (marks_in p ds) (phase_of q) part

  none0 : NoDue m0
  none0 = settled_due e ds part p knows runs

  good0 : IsOrdered m0
  good0 = settled_order e ds part p good runs

  real : q ≡ pause.Other → ⊥
  real h = true≢false (sym event ∙ ap is_event h)

  pub none1 : NoDue m1
  none1 o = none_there m0 good0 none0 q f x o

  pub good1 : IsOrdered m1
  good1 = in_phase f (marks_in p ds) phase.Going (phase_of q) part (order_there m0 good0 none0 q f x)

  pub rows1 : HasRows e.stage.spec.entries e.rows → HasRows f.stage.spec.entries f.rows
  rows1 rows = record {
    row = λ o h. row_of_same e.rows f.rows o x.rows ∙ rows.row o (sym (ap (has_entry o) x.task.rights) ∙ h);
  }

  pub knows1 : Knows (phase_of q) m1
  knows1 = knows_at q f (marks_in p ds) part event (λ o. none_there m0 good0 none0 q f x o) (x.tells (child_of f)) x.there

  same : played (course_at e) (held_by e) (part - e.stage.left) e.events
      ≡ record { course = course_at f; contents = held_by f; steps = part - f.stage.left; events = f.events }
  same = same_play m0 good0 none0 q f x ∙ stuck m0 good0 none0 q f x q event real (x.tells (child_of f)) (part - f.stage.left) f.events

  pub plays_to : (k k' : Option Ask) (n n' c c' t t' : ℕ) → e.events < 2 ^ 64 → f.events < 2 ^ 64
      → length (touches (course_at e) (held_by e)) < 2 ^ 64 → t' ≡ (f.events + (2 ^ 64 - e.events)) % 2 ^ 64
      → PlaysTo (asking e ds p part k n c t) (asking f (marks_in p ds) (phase_of q) part k' n' c' t')
  plays_to k k' n n' c c' t t' lt lt' low is =
      let course = course_at e in
      let on = goes_on m0 good0 none0 q f x real in
      let tells = tells_as_played course (held_by e) (rights_at e.stage) (holds_at e) (part - e.stage.left) e.events (agreed m0 good0) in
      record {
        course = course;
        spec = rights_at e.stage;
        holds = holds_at e;
        steps = part - e.stage.left;
        events = e.events;
        agrees = agreed m0 good0;
        tells = settled_left e ds part p good knows runs;
        tells_on = λ vs.
            left_at_pause q f (marks_in p ds) part (order_there m0 good0 none0 q f x) (none_there m0 good0 none0 q f x) (x.tells (child_of f)) vs
            ∙ sym (on.left event vs) ∙ sym (on.rest vs);
        held = λ o. sym (ap (λ (r : Played). r.contents o) same);
        touched = is ∙ touched_by e.events f.events (length (touches course (held_by e))) lt lt' low
            (ap (λ (r : Played). r.events % 2 ^ 64) (sym same) ∙ tells.counts);
      }

  went_here : (k : Option Ask) (a : Ask) (n n' c t t' : ℕ) → IsKept (asking e ds p part k n c t) → Asked a (phase_of q) m1
      → IsKept (asking f (marks_in p ds) (phase_of q) part (Some a) n' c t')
  went_here k a n n' c t t' kept asked = record {
    order = good1;
    rows = rows1 kept.rows;
    objects = x.task.objects ∙ kept.objects ∙ ap (λ (g : TaskCode). length g.sizes) (sym x.task.program);
    small = subst (λ (j : ℕ). j < 2 ^ 32) (sym x.task.objects) kept.small;
    knows = knows1;
    asked = asked;
  }

  pub went_kept : (k : Option Ask) (a : Ask) (n n' c t t' : ℕ) → IsKept (asking e ds p part k n c t) → Asked a (phase_of q) m1
      → (marks : List Bool) (about : Phase) → marks ≡ marks_in p ds → about ≡ phase_of q → IsKept (asking f marks about part (Some a) n' c t')
  went_kept k a n n' c t t' kept asked marks about same there =
      subst (λ (h : Phase). IsKept (asking f marks h part (Some a) n' c t')) (sym there)
      (subst (λ (hs : List Bool). IsKept (asking f hs (phase_of q) part (Some a) n' c t')) (sym same) (went_here k a n n' c t t' kept asked))

  pub goes_to : (k k' : Option Ask) (n n' c c' t t' : ℕ) → e.events < 2 ^ 64 → f.events < 2 ^ 64
      → length (touches (course_at e) (held_by e)) < 2 ^ 64 → t' ≡ (f.events + (2 ^ 64 - e.events)) % 2 ^ 64
      → (marks : List Bool) (about : Phase) → marks ≡ marks_in p ds → about ≡ phase_of q
      → GoesTo (asking e ds p part k n c t) (asking f marks about part k' n' c' t')
  goes_to k k' n n' c c' t t' lt lt' low is marks about same there =
      subst (λ (h : Phase). GoesTo (asking e ds p part k n c t) (asking f marks h part k' n' c' t')) (sym there)
      (subst (λ (hs : List Bool). GoesTo (asking e ds p part k n c t) (asking f hs (phase_of q) part k' n' c' t')) (sym same)
      (record {
        way = plays (plays_to k k' n n' c c' t t' lt lt' low is);
        objects = x.task.objects;
        few = omega (arith, is);
      }))

-- a task that could not go on all the way
module _ (e f : Execution) (ds : List Bool) (p : Phase) (part : ℕ) (q : Pause) (x : Advanced e q f) (k : Option Ask) (n c t : ℕ)
    (kept : IsKept (asking e ds p part k n c t)) (runs : RunsOn p e ds) where
  abbrev begins : Machine
  begins = machine e (marks_in p ds) phase.Going part

  good : IsOrdered begins
  good = settled_order e ds part p kept.order runs

  none : NoDue begins
  none = settled_due e ds part p kept.knows runs

  pub stops_kept : (n' c' t' : ℕ) → IsKept (asking f (marks_in p ds) phase.Going part None n' c' t')
  stops_kept n' c' t' = record {
    order = order_there begins good none q f x;
    rows = record { row = λ o h. row_of_same e.rows f.rows o x.rows ∙ kept.rows.row o (sym (ap (has_entry o) x.task.rights) ∙ h) };
    objects = x.task.objects ∙ kept.objects ∙ ap (λ (g : TaskCode). length g.sizes) (sym x.task.program);
    small = subst (λ (j : ℕ). j < 2 ^ 32) (sym x.task.objects) kept.small;
    knows = λ o. none_there begins good none q f x o;
    asked = cc;
  }

  pub stops_rest : (vs : List ℤ) → rest_of (machine f (marks_in p ds) phase.Going part) vs ≡ rest_of (machine e ds p part) vs
  stops_rest vs = sym (rests begins good none q f x vs)

pub on_err : {A : Type 0} (r : Result A Memory) (P : Type 0) → P → OnErr r P
on_err (Ok a) P h = cc
on_err (Err e) P h = h
