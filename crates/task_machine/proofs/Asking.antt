-- What a task takes, gives up and plays is what its talk has next.
use Rattle.std.proofs.Common.{◌≡◌, ℕ, zero, suc, ◌+◌, ◌-◌, ◌<◌, ◌≤◌, ◌⊎◌, inl, inr, List, [], ◌∷◌, ◌++◌, length, Bool, true, false, Option, Some, None}
use Rattle.std.proofs.Common.{refl, sym, ap, ap₂, ◌∙◌, subst, arith, ⊎_elim}
use Rattle.std.specs.Prelude.{ℤ, ◌&&◌, is_some, slice_set, nat_eq, if◌then◌else◌}
use Rattle.std.proofs.lemmas.Bool.{true≢false}
use Rattle.std.proofs.lemmas.Option.{none-some}
use Rattle.jade_base.specs.declared.report.Blame.{Blame}
use Rattle.jade_base.specs.declared.place.ObjectId.{ObjectId}
use Rattle.jade_base.specs.declared.rights.Rights.{Rights}
use Rattle.jade_base.specs.declared.rights.Mode.{Mode}
use Rattle.jade_base.specs.Rights.{mode_of, no_rights}
use Rattle.jade_base.specs.Specification.{rights_in}
use Rattle.access_spec.specs.Copies.{copied}
use Rattle.jade_base.specs.Held.{Held}
use Rattle.jade_meaning.specs.Specification.{Specification, rights_on, yields, commuting_on}
use Rattle.jade_meaning.specs.Course.{Course, Reads, Writes, Steps, Creates, Changes, Ends, NoDraft}
use Rattle.jade_meaning.specs.Talk.{Take, Give, held, given_back, events}
use Rattle.code_meaning.specs.Children.{children_of}
use Rattle.jade_meaning.specs.Spread.{spread}
use Rattle.task_machine.specs.declared.next.Phase.{Phase}
use Rattle.task_machine.specs.declared.next.Phase.TheVariants as phase
use Rattle.task_machine.specs.Playing.{contents_of, where_held, cell_of, counted, with_cell, played, Played, answers, touches}
use Rattle.task_machine.specs.Stages.{id, rights_at, ahead, beyond, slots_of, Wants, Tells}
use Rattle.task_machine.specs.Executions.{Execution, held_by, with_content, has_row, objects_in, Advanced}
use Rattle.task_machine.specs.declared.holdings.Row.{Row}
use Rattle.task_machine.specs.declared.frame.Pause.{Pause}
use Rattle.task_machine.specs.declared.frame.Pause.TheVariants as pause
use Rattle.task_machine.specs.Telling.{mode_held, Agrees}
use Rattle.task_machine.specs.Left.{Due, left_to_start, left_to_tell, left_to_change, is_own, others, IsLeast, IsNone, to_take, Touches, for_child, is_held}
use Rattle.task_machine.specs.Machines.{Machine, due_in, due_at, holds_of, holds_at, child_of, course_at, made_at, amended_at, steps_at, left_in}
use Rattle.task_machine.specs.Machines.{supplied, TakeIsNext, GiveIsNext, CreationIsNext, ChangeIsNext, EndIsNext, PlaysOn}
use Rattle.task_machine.specs.Machines.{NoDue, IsOrdered, rest_of, is_event, at_pause, GoesOn}
use Rattle.task_machine.proofs.Tables.{table_long, table_past, table_same}
use Rattle.task_machine.proofs.Marks.{holds_set, due_but, due_also, due_kept, no_content, no_mark, hold_at, hold_past, holds_long}
use Rattle.task_machine.proofs.Left.{starts_least, starts_own, starts_on}
use Rattle.task_machine.proofs.Left.{takes_least, tells_on, takes_touched, gives_for_child, enters_now, gives_for_change, shifts_now, gives_at_end, resigns}
use Rattle.task_machine.proofs.Telling.{tells_as_played, modes_kept}

-- the same objects have the same marks
abbrev first_or : ObjectId → List ObjectId → ObjectId
first_or d [] = d
first_or d (x ∷ xs) = x

abbrev rest_in : List ObjectId → List ObjectId
rest_in [] = []
rest_in (x ∷ xs) = xs

no_objects : (x : ObjectId) (xs : List ObjectId) → [] ≡ x ∷ xs → ⊥
no_objects x xs e = let l : 0 ≡ suc (length xs) = ap length e in omega (arith, l)

due_of_same : (rs qs : List Row) (ds : List Bool) (j : ℕ) → objects_in qs ≡ objects_in rs → due_in qs ds j ≡ due_in rs ds j
due_of_same [] [] ds j e = refl
due_of_same [] (q ∷ qs) ds j e = absurd (no_objects q.object (objects_in qs) (sym e))
due_of_same (r ∷ rs) [] ds j e = absurd (no_objects r.object (objects_in rs) e)
due_of_same (r ∷ rs) (q ∷ qs) [] j e = refl
due_of_same (r ∷ rs) (q ∷ qs) (d ∷ ds) j e =
    ap₂ (λ (x : ObjectId) t. if nat_eq x.0 j then d else t) (ap (first_or r.object) e) (due_of_same rs qs ds j (ap rest_in e))

long_of_same : (rs qs : List Row) → objects_in qs ≡ objects_in rs → length qs ≡ length rs
long_of_same [] [] e = refl
long_of_same [] (q ∷ qs) e = absurd (no_objects q.object (objects_in qs) (sym e))
long_of_same (r ∷ rs) [] e = absurd (no_objects r.object (objects_in rs) e)
long_of_same (r ∷ rs) (q ∷ qs) e = ap suc (long_of_same rs qs (ap rest_in e))

module _ (m : Machine) (good : IsOrdered m) where
  abbrev pub e : Execution
  e = m.execution

  abbrev pub n : ℕ
  n = e.stage.objects

  abbrev pub spec : Specification
  spec = rights_at e.stage

  pub spec_long : length spec ≡ n
  spec_long = table_long (λ o. rights_in e.stage.spec.entries (id o)) 0 n

  pub made_long : length (made_at e) ≡ n
  made_long = table_long (λ o. rights_in e.stage.child.entries (id o)) 0 n

  pub new_long : length (amended_at e) ≡ n
  new_long = table_long (λ o. copied e.stage.spec (id o)) 0 n

  pub full : length (holds_at e) ≡ length spec
  full = holds_long n (held_by e) ∙ sym spec_long

  pub lt_or_le : (i k : ℕ) → (i < k) ⊎ (k ≤ i)
  lt_or_le i zero = inr (omega arith)
  lt_or_le zero (suc k) = inl (omega arith)
  lt_or_le (suc i) (suc k) = ⊎_elim (λ lt. inl (omega (arith, lt))) (λ le. inr (omega (arith, le))) (lt_or_le i k)

  -- what is due has no hold
  pub no_hold : (o : ℕ) → due_at m o ≡ true → held (holds_at e) o ≡ None
  no_hold o d = ⊎_elim (λ lt. hold_at n (held_by e) o lt ∙ ap mode_held (good.free o d)) (λ le. hold_past n (held_by e) o le) (lt_or_le o n)

  pub untaken : NoDue m → IsNone (to_take (due_at m) spec) (length spec)
  untaken none j lt = ap (λ b. if b then is_some (mode_of (rights_on spec j)) else false) (none j)

  -- where nothing is due, the course is told
  pub told : NoDue m → (c : Course) (vs : List ℤ) → left_to_tell (due_at m) c spec (holds_at e) (steps_at m) vs ≡ events c spec (holds_at e) (steps_at m) vs
  told none c vs = tells_on (due_at m) spec c (holds_at e) (steps_at m) full (untaken none) no_hold vs

  -- what is held has a row
  pub has_its_row : (o : ℕ) → is_some (held_by e o) ≡ true → has_row o e.rows ≡ true
  has_its_row o h = at (has_row o e.rows) refl
    where
      at : (b : Bool) → has_row o e.rows ≡ b → b ≡ true
      at true q = refl
      at false q = absurd (true≢false (sym h ∙ ap is_some (no_content e.rows o q)))

  pub held_inside : (o : ℕ) → is_some (held (holds_at e) o) ≡ true → is_some (held_by e o) ≡ true
  held_inside o h = ⊎_elim (λ lt. mode_there (held_by e o) (sym (ap is_some (hold_at n (held_by e) o lt)) ∙ h))
      (λ le. absurd (true≢false (sym h ∙ ap is_some (hold_past n (held_by e) o le)))) (lt_or_le o n)
    where
      mode_there : (x : Option Held) → is_some (mode_held x) ≡ true → is_some x ≡ true
      mode_there None q = q
      mode_there (Some x) q = refl

  -- ---- takes

  -- where nothing is left to take, the course is told
  pub takes_done : IsNone (to_take (due_at m) spec) (length spec) → (vs : List ℤ)
      → left_to_tell (due_at m) (course_at e) spec (holds_at e) (steps_at m) vs ≡ events (course_at e) spec (holds_at e) (steps_at m) vs
  takes_done none vs = tells_on (due_at m) spec (course_at e) (holds_at e) (steps_at m) full none no_hold vs

  set_holds : (o : ℕ) (mode : Mode) (x : Held) → has_row o e.rows ≡ true → x.mode ≡ mode
      → slice_set (holds_at e) o (Some mode) ≡ holds_at (supplied o x m).execution
  set_holds o mode x row same = ap (λ y. slice_set (holds_at e) o (Some y)) (sym same) ∙ sym (holds_set e.rows o row (Some x) n)

  pub due_has_row : (o : ℕ) → to_take (due_at m) spec o ≡ true → has_row o e.rows ≡ true
  due_has_row o h = at (has_row o e.rows) refl
    where
      at : (b : Bool) → has_row o e.rows ≡ b → b ≡ true
      at true q = refl
      at false q = absurd (true≢false (sym h ∙ ap (λ d. if d then is_some (mode_of (rights_on spec o)) else false) (no_mark e.rows m.due o q)))

  pub take_due : (o : ℕ) (mode : Mode) → IsLeast (to_take (due_at m) spec) (length spec) o → mode_of (rights_on spec o) ≡ Some mode
      → TakeIsNext o mode phase.Taking m
  take_due o mode least is x same vs =
      let row = due_has_row o least.here in
      takes_least (due_at m) spec (course_at e) (holds_at e) (steps_at m) o mode full least is vs
      ∙ ap₂ (λ due h. Take o mode ∷ left_to_tell due (course_at e) spec h (steps_at m) vs) (sym (due_but e.rows o row (Some x) m.due good.long))
      (set_holds o mode x row same)

  -- where the task begins, an object on which it does not commute is taken, then that on which it does, and then the course is told
  pub start_other : (o : ℕ) (mode : Mode) → IsLeast (to_take (others (commuting_on spec) (due_at m)) spec) (length spec) o
      → mode_of (rights_on spec o) ≡ Some mode → TakeIsNext o mode phase.Starting m
  start_other o mode least is x same vs =
      let row = due_has_row o (less (is_own (commuting_on spec) o) (due_at m o) _ least.here) in
      starts_least (due_at m) spec (course_at e) (holds_at e) (steps_at m) o mode full least is vs
      ∙ ap₂ (λ due h. Take o mode ∷ left_to_start due (course_at e) spec h (steps_at m) vs) (sym (due_but e.rows o row (Some x) m.due good.long))
      (set_holds o mode x row same)
    where
      less : (b d m : Bool) → (if (if b then false else d) then m else false) ≡ true → (if d then m else false) ≡ true
      less true d m h = absurd (true≢false (sym h))
      less false d m h = h

  pub start_own : (o : ℕ) (mode : Mode) → IsNone (to_take (others (commuting_on spec) (due_at m)) spec) (length spec) → commuting_on spec ≡ Some o
      → due_at m o ≡ true → o < length spec → mode_of (rights_on spec o) ≡ Some mode → TakeIsNext o mode phase.Starting m
  start_own o mode none own due lt is x same vs =
      let row = due_has_row o (ap₂ (λ d y. if d then is_some y else false) due is) in
      starts_own (due_at m) spec (course_at e) (holds_at e) (steps_at m) o mode full none own due lt is vs
      ∙ ap₂ (λ due h. Take o mode ∷ left_to_start due (course_at e) spec h (steps_at m) vs) (sym (due_but e.rows o row (Some x) m.due good.long))
      (set_holds o mode x row same)

  pub starts_done : ((o : ℕ) → to_take (due_at m) spec o ≡ false) → (vs : List ℤ)
      → left_to_start (due_at m) (course_at e) spec (holds_at e) (steps_at m) vs ≡ events (course_at e) spec (holds_at e) (steps_at m) vs
  starts_done none vs = starts_on (due_at m) spec (course_at e) (holds_at e) (steps_at m) full none no_hold vs

  pub take_wanted : (o : ℕ) (mode : Mode) → NoDue m → has_row o e.rows ≡ true → o < n → Touches o (course_at e) → held_by e o ≡ None
      → mode_of (rights_on spec o) ≡ Some mode → TakeIsNext o mode phase.Going m
  take_wanted o mode none row lt touches free is x same vs =
      told none (course_at e) vs
      ∙ takes_touched (course_at e) spec (holds_at e) (steps_at m) o mode touches (subst (λ k. o < k) (sym (holds_long n (held_by e))) lt)
      (hold_at n (held_by e) o lt ∙ ap mode_held free) is vs
      ∙ ap (λ h. Take o mode ∷ events (course_at e) spec h (steps_at m) vs) (set_holds o mode x row same)
      ∙ ap (λ es. Take o mode ∷ es) (sym (tells_on (due_at (supplied o x m)) spec (course_at e) (holds_at (supplied o x m).execution) (steps_at m)
      (holds_long n (held_by (supplied o x m).execution) ∙ sym spec_long)
      (λ j lt. ap (λ b. if b then is_some (mode_of (rights_on spec j)) else false) (still j))
      (λ j d. absurd (true≢false (sym d ∙ still j))) vs))
    where
      still : (j : ℕ) → due_at (supplied o x m) j ≡ false
      still j = ap (λ (f : Due). f j) (due_but e.rows o row (Some x) m.due good.long) ∙ both (nat_eq j o)
        where
          both : (b : Bool) → (if b then false else due_at m j) ≡ false
          both true = refl
          both false = none j

  -- ---- gives

  given_up : (o : ℕ) → is_some (held (holds_at e) o) ≡ true → slice_set (holds_at e) o None ≡ holds_of n (contents_of (with_content o None e.rows))
  given_up o h = sym (holds_set e.rows o (has_its_row o (held_inside o h)) None n)

  pub yields_held : (x : Option Mode) (a : Rights) → yields x a ≡ true → is_some x ≡ true
  yields_held None a h = h
  yields_held (Some y) a h = refl

  pub first_of : (a b : Bool) → (a && b) ≡ true → a ≡ true
  first_of true b h = refl
  first_of false b h = h

  -- where nothing is due, nothing is after a give
  told_after : NoDue m → (o : ℕ) (c : Course) (vs : List ℤ) → is_some (held (holds_at e) o) ≡ true
      → left_to_tell (due_in (with_content o None e.rows) m.due) c spec (holds_of n (contents_of (with_content o None e.rows))) (steps_at m) vs
      ≡ events c spec (holds_of n (contents_of (with_content o None e.rows))) (steps_at m) vs
  told_after none o c vs h =
      let k = contents_of (with_content o None e.rows) in
      let still : (j : ℕ) → due_in (with_content o None e.rows) m.due j ≡ false = λ j. ap (λ (f : Due). f j) (due_kept e.rows o None m.due) ∙ none j in
      tells_on (due_in (with_content o None e.rows) m.due) spec c (holds_of n k) (steps_at m) (holds_long n k ∙ sym spec_long)
      (λ j lt. ap (λ b. if b then is_some (mode_of (rights_on spec j)) else false) (still j)) (λ j d. absurd (true≢false (sym d ∙ still j))) vs

  -- the courses that have gives before them
  give_first : (p : Phase) → NoDue m → (o : ℕ) → is_some (held (holds_at e) o) ≡ true
      → ((vs : List ℤ) → events (course_at e) spec (holds_at e) (steps_at m) vs ≡
      Give o ∷ events (course_at e) spec (slice_set (holds_at e) o None) (steps_at m) vs)
      → (vs : List ℤ) → left_to_tell (due_at m) (course_at e) spec (holds_at e) (steps_at m) vs
      ≡ Give o ∷ left_to_tell (due_in (with_content o None e.rows) m.due) (course_at e) spec (holds_of n (contents_of (with_content o None e.rows)))
      (steps_at m) vs
  give_first p none o h gives vs =
      told none (course_at e) vs ∙ gives vs ∙ ap (λ g. Give o ∷ events (course_at e) spec g (steps_at m) vs) (given_up o h)
      ∙ ap (λ es. Give o ∷ es) (sym (told_after none o (course_at e) vs h))

  abbrev Created : ℕ → Type 0
  Created number = course_at e ≡ Creates (made_at e) (child_of e number (slots_of e.stage.slots) (made_at e)) (beyond (child_of e) e.stage spec NoDraft)

  pub give_for_child : (number o : ℕ) → NoDue m → Created number → IsLeast (for_child (made_at e) (holds_at e)) (length (made_at e)) o
      → GiveIsNext o (phase.Creating number) m
  give_for_child number o none is least =
      give_first (phase.Creating number) none o (yields_held (held (holds_at e) o) (rights_on (made_at e) o) least.here)
      (λ vs. ap (λ c. events c spec (holds_at e) (steps_at m) vs) is
      ∙ gives_for_child (made_at e) (child_of e number (slots_of e.stage.slots) (made_at e)) (beyond (child_of e) e.stage spec NoDraft) spec (holds_at e)
      (steps_at m) o least vs
      ∙ ap (λ c. Give o ∷ events c spec (slice_set (holds_at e) o None) (steps_at m) vs) (sym is))

  pub creation_next : (number : ℕ) → NoDue m → Created number → IsNone (for_child (made_at e) (holds_at e)) (length (made_at e)) → CreationIsNext number m
  creation_next number none is free vs =
      told none (course_at e) vs ∙ ap (λ c. events c spec (holds_at e) (steps_at m) vs) is
      ∙ enters_now (made_at e) (child_of e number (slots_of e.stage.slots) (made_at e)) (beyond (child_of e) e.stage spec NoDraft) spec (holds_at e)
      (steps_at m) (made_long ∙ sym (holds_long n (held_by e))) free vs

  pub give_at_end : (b : Option Blame) (o : ℕ) → NoDue m → course_at e ≡ Ends b → IsLeast (is_held (holds_at e)) (length spec) o
      → GiveIsNext o (phase.Ending b) m
  give_at_end b o none is least =
      give_first (phase.Ending b) none o least.here
      (λ vs. ap (λ c. events c spec (holds_at e) (steps_at m) vs) is ∙ gives_at_end b spec (holds_at e) (steps_at m) o least vs
      ∙ ap (λ c. Give o ∷ events c spec (slice_set (holds_at e) o None) (steps_at m) vs) (sym is))

  pub end_next : (b : Option Blame) → NoDue m → course_at e ≡ Ends b → IsNone (is_held (holds_at e)) (length spec) → EndIsNext b m
  end_next b none is free vs =
      told none (course_at e) vs ∙ ap (λ c. events c spec (holds_at e) (steps_at m) vs) is ∙ resigns b spec (holds_at e) (steps_at m) free vs

  pub give_for_change : (o : ℕ) → IsLeast (given_back (amended_at e) (holds_at e)) (length (amended_at e)) o → GiveIsNext o phase.Changing m
  give_for_change o least vs =
      let h = first_of (is_some (held (holds_at e) o)) _ least.here in
      let row = has_its_row o (held_inside o h) in
      let on = beyond (child_of e) e.stage (amended_at e) NoDraft in
      gives_for_change (due_at m) (amended_at e) on spec (holds_at e) (steps_at m) o least vs
      ∙ ap₂ (λ due g. Give o ∷ left_to_change due (amended_at e) on spec g (steps_at m) vs) (sym (due_also e.rows o row None m.due good.long)) (given_up o h)

  pub change_next : IsNone (given_back (amended_at e) (holds_at e)) (length (amended_at e)) → ChangeIsNext m
  change_next free vs =
      shifts_now (due_at m) (amended_at e) (beyond (child_of e) e.stage (amended_at e) NoDraft) spec (holds_at e) (steps_at m) free vs

  -- ---- what is played

  pub agreed : Agrees spec (holds_at e) (held_by e)
  agreed = record {
    holds = λ o x h. ⊎_elim (λ lt. hold_at n (held_by e) o lt ∙ ap mode_held h)
        (λ le. absurd (none-some x.mode (sym (ap mode_of (past o le)) ∙ good.agrees o x h))) (lt_or_le o n);
    rights = good.agrees;
  }
    where
      past : (o : ℕ) → n ≤ o → rights_on spec o ≡ no_rights
      past o le = table_past (λ o. rights_in e.stage.spec.entries (id o)) 0 n o no_rights le

  pub plays_on : NoDue m → PlaysOn m
  plays_on none vs =
      told none (course_at e) (answers (course_at e) (held_by e) ++ vs)
      ∙ (tells_as_played (course_at e) (held_by e) spec (holds_at e) (steps_at m) e.events agreed).tells vs

  -- ---- going on

  module _ (none : NoDue m) (p : Pause) (f : Execution) (a : Advanced e p f) where
    abbrev pub there : Machine
    there = at_pause m f

    same_children : child_of f ≡ child_of e
    same_children =
        ap₂ (λ zs l. children_of zs l f.program.bodies f.body) a.task.numbers a.task.limit
        ∙ ap₂ (λ c b. children_of e.numbers e.limit c.bodies b) a.task.program a.task.body

    pub same_rights : rights_at f.stage ≡ spec
    same_rights = ap₂ spread a.task.objects a.task.rights

    pub same_steps : steps_at m + (e.stage.left - f.stage.left) ≡ steps_at there
    same_steps = let le = a.fewer in let room = good.steps in omega (arith, le, room)

    pub same_play : played (course_at e) (held_by e) (steps_at m) e.events ≡ played (course_at f) (held_by f) (steps_at there) f.events
    same_play =
        a.plays (child_of e) (steps_at m)
        ∙ ap₂ (λ c n. played (ahead c f.stage) (held_by f) n f.events) (sym same_children) same_steps

    same_modes : (o : ℕ) → mode_held (held_by f o) ≡ mode_held (held_by e o)
    same_modes o =
        sym (modes_kept (course_at f) (held_by f) (steps_at there) f.events o)
        ∙ ap (λ (q : Played). mode_held (q.contents o)) (sym same_play)
        ∙ modes_kept (course_at e) (held_by e) (steps_at m) e.events o

    pub same_holds : holds_at f ≡ holds_at e
    same_holds =
        ap (λ k. holds_of k (held_by f)) a.task.objects
        ∙ table_same (λ o. mode_held (held_by f o)) (λ o. mode_held (held_by e o)) 0 n (λ j le lt. same_modes j)

    pub rests : (vs : List ℤ) → rest_of m vs ≡ rest_of there vs
    rests vs =
        ap (λ (q : Played). events q.course spec (holds_at e) q.steps vs) same_play
        ∙ ap₂ (λ s h. events (played (course_at f) (held_by f) (steps_at there) f.events).course s h
        (played (course_at f) (held_by f) (steps_at there) f.events).steps vs) (sym same_rights) (sym same_holds)

    pub none_there : NoDue there
    none_there o = due_of_same e.rows f.rows m.due o a.rows ∙ none o

    held_before : (o : ℕ) (x : Held) (w : Option Held) → held_by e o ≡ w → mode_held w ≡ Some x.mode → mode_of (rights_on spec o) ≡ Some x.mode
    held_before o x None q h = absurd (none-some x.mode h)
    held_before o x (Some y) q h = good.agrees o y q ∙ h

    pub order_there : IsOrdered there
    order_there = record {
      long = good.long ∙ sym (long_of_same e.rows f.rows a.rows);
      agrees = λ o x h. ap (λ s. mode_of (rights_on s o)) same_rights
          ∙ held_before o x (held_by e o) refl (sym (same_modes o) ∙ ap mode_held h);
      free = λ o d. absurd (true≢false (sym d ∙ none_there o));
      steps = let le = a.fewer in let room = good.steps in omega (arith, le, room);
    }

    -- a course that can't go on
    abbrev pub Stuck : Course → Type 0
    Stuck c = (k : ℕ) (ev : ℕ) → played c (held_by f) k ev ≡ record { course = c; contents = held_by f; steps = k; events = ev }

    wanted_stuck : (o : ℕ) (c : Course) → Wants o c (held_by f) → Stuck c
    wanted_stuck o (Reads q c on) h k ev = ap (λ w. where_held w (λ x. played (on (cell_of x c)) (held_by f) k (counted ev))
        (record { course = Reads q c on; contents = held_by f; steps = k; events = ev })) h.1
    wanted_stuck o (Writes q c v on) h k ev = ap (λ w. where_held w (λ x. played on (with_cell q c v (held_by f)) k (counted ev))
        (record { course = Writes q c v on; contents = held_by f; steps = k; events = ev })) h.1
    wanted_stuck o (Steps on) h k ev = absurd h
    wanted_stuck o (Creates s b on) h k ev = absurd h
    wanted_stuck o (Changes s on) h k ev = absurd h
    wanted_stuck o (Ends b) h k ev = absurd h

    pub stuck : (q : Pause) → is_event q ≡ true → (q ≡ pause.Other → ⊥) → Tells q (child_of f) f.stage (held_by f) → Stuck (course_at f)
    stuck pause.End t r h = subst Stuck (sym h) (λ k ev. refl)
    stuck (pause.Fault b) t r h = subst Stuck (sym h) (λ k ev. refl)
    stuck (pause.Take o) t r h = wanted_stuck o (course_at f) h.1
    stuck (pause.Declare o x) t r h = absurd (true≢false (sym t))
    stuck (pause.Create number) t r h = subst Stuck (sym h.2) (λ k ev. refl)
    stuck pause.Change t r h = subst Stuck (sym h.1) (λ k ev. refl)
    stuck pause.Other t r h = absurd (r refl)

    full_there : length (holds_at f) ≡ length (rights_at f.stage)
    full_there = holds_long f.stage.objects (held_by f) ∙ sym (table_long (λ o. rights_in f.stage.spec.entries (id o)) 0 f.stage.objects)

    left_there : (p ≡ pause.Other → ⊥) → is_event p ≡ true → (vs : List ℤ) → rest_of there vs ≡ left_in phase.Going there vs
    left_there real t vs =
        let still = stuck p t real (a.tells (child_of f)) (steps_at there) f.events in
        ap (λ (q : Played). events q.course (rights_at f.stage) (holds_at f) q.steps vs) still
        ∙ sym (tells_on (due_at there) (rights_at f.stage) (course_at f) (holds_at f) (steps_at there) full_there
        (λ j lt. ap (λ b. if b then is_some (mode_of (rights_on (rights_at f.stage) j)) else false) (none_there j))
        (λ j d. absurd (true≢false (sym d ∙ none_there j))) vs)

    pub goes_on : (p ≡ pause.Other → ⊥) → GoesOn m p f
    goes_on real = record { rest = rests; left = left_there real }
