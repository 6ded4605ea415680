-- What is left of a task's talk while it takes what is due, and gives up what it has to.
use Rattle.std.proofs.Common.{◌≡◌, ℕ, zero, suc, ◌+◌, ◌<◌, ◌≤◌, ◌⊎◌, inl, inr, List, [], ◌∷◌, ◌++◌, map, length, Bool, true, false, Option, Some, None}
use Rattle.std.proofs.Common.{refl, sym, ap, ap₂, ◌∙◌, subst, arith, get_or-set_same, get_or-set_other, set-set}
use Rattle.std.specs.Prelude.{ℤ, not, ◌&&◌, ◌||◌, is_some, is_none, nat_eq, slice_set, if◌then◌else◌}
use Rattle.std.specs.List.{flat_map}
use Rattle.std.proofs.lemmas.List.{append_assoc}
use Rattle.std.proofs.lemmas.Bool.{cases_eq, eq-eqb, ne_eqb, true≢false}
use Rattle.jade_base.specs.declared.report.Blame.{Blame}
use Rattle.jade_base.specs.declared.rights.Mode.{Mode}
use Rattle.jade_base.specs.Rights.{mode_of}
use Rattle.jade_meaning.specs.Specification.{Specification, rights_on, numbers, objects, yields, same_hold, commuting_on}
use Rattle.jade_meaning.specs.Course.{Course, Reads, Writes, Steps, Creates, Changes, Ends}
use Rattle.jade_meaning.specs.Talk.{
  Task,
  Event,
  Enroll,
  Take,
  TouchRead,
  TouchWrite,
  Wants,
  Give,
  Resign,
  Holds,
  held,
  take_in,
  enters,
  shifts,
  end_leaves,
  given_back,
  made_immediate,
  taken_anew,
}
use Rattle.jade_meaning.specs.Talk.{when, first_take, touched, kept, change_gives, events, without, own_last}
use Rattle.task_machine.specs.Left.{Due, takes, planned, left_to_tell, due_anew, no_due, but, and_also, no_holds, IsFull, BeginsDue}
use Rattle.task_machine.specs.Left.{takes_first, is_own, others, to_take, StartsLeast, StartsOwn, StartsOn}
use Rattle.task_machine.specs.Left.{IsLeast, IsNone, TakesLeast, TellsOn, TakesTouched, for_child, GivesForChild, Enters, ChangesFirst}
use Rattle.task_machine.specs.Left.{GivesForChange, Shifts, is_held, GivesAtEnd, Resigns}

-- ---- lists over the numbers from one on

pub same_from : (f g : ℕ → List Event) (i n : ℕ) → ((j : ℕ) → i ≤ j → j < i + n → f j ≡ g j) → flat_map f (numbers i n) ≡ flat_map g (numbers i n)
same_from f g i zero h = refl
same_from f g i (suc n) h =
    ap₂ (λ a b. a ++ b) (h i (omega arith) (omega arith)) (same_from f g (suc i) n (λ j le lt. h j (omega (arith, le)) (omega (arith, lt))))

none_from : (f : ℕ → List Event) (i n : ℕ) → ((j : ℕ) → i ≤ j → j < i + n → f j ≡ []) → flat_map f (numbers i n) ≡ []
none_from f i zero h = refl
none_from f i (suc n) h =
    ap₂ (λ a b. a ++ b) (h i (omega arith) (omega arith)) (none_from f (suc i) n (λ j le lt. h j (omega (arith, le)) (omega (arith, lt))))

least_from : (f g : ℕ → List Event) (i n o : ℕ) (x : Event) → i ≤ o → o < i + n → ((j : ℕ) → i ≤ j → j < o → f j ≡ []) → f o ≡ x ∷ [] → g o ≡ []
    → ((j : ℕ) → (j ≡ o → ⊥) → g j ≡ f j) → flat_map f (numbers i n) ≡ x ∷ flat_map g (numbers i n)
least_from f g i zero o x le lt before here after other = absurd (omega (arith, le, lt))
least_from f g i (suc n) o x le lt before here after other =
    go (λ far. least_from f g (suc i) n o x (omega (arith, far)) (omega (arith, lt)) (λ j le lt. before j (omega (arith, le)) lt) here after other)
    (cases_eq i o)
  where
    go : (i < o → flat_map f (numbers (suc i) n) ≡ x ∷ flat_map g (numbers (suc i) n)) → (i ≡ o) ⊎ (i ≡ o → ⊥)
        → f i ++ flat_map f (numbers (suc i) n) ≡ x ∷ (g i ++ flat_map g (numbers (suc i) n))
    go more (inl e) =
        ap₂ (λ a b. a ++ b) (ap f e ∙ here) (same_from f g (suc i) n (λ j far lt. sym (other j (λ q. omega (arith, q, e, far)))))
        ∙ ap (λ a. x ∷ (a ++ flat_map g (numbers (suc i) n))) (sym (ap g e ∙ after))
    go more (inr ne) =
        let far : i < o = omega (arith, le, ne) in
        ap₂ (λ a b. a ++ b) (before i (omega arith) far) (more far)
        ∙ ap (λ a. x ∷ (a ++ flat_map g (numbers (suc i) n))) (sym (other i ne ∙ before i (omega arith) far))

-- below a number, counted from 0
pub below : (j n : ℕ) → j < 0 + n → j < n
below j n lt = omega (arith, lt)

pub holds_from : (f g : ℕ → Option Mode) (i n : ℕ) → ((j : ℕ) → i ≤ j → j < i + n → f j ≡ g j) → map f (numbers i n) ≡ map g (numbers i n)
holds_from f g i zero h = refl
holds_from f g i (suc n) h =
    ap₂ (λ a b. a ∷ b) (h i (omega arith) (omega arith)) (holds_from f g (suc i) n (λ j le lt. h j (omega (arith, le)) (omega (arith, lt))))

next_from : (f : ℕ → Option Mode) (i n : ℕ) → map f (numbers (suc i) n) ≡ map (λ j. f (suc j)) (numbers i n)
next_from f i zero = refl
next_from f i (suc n) = ap (λ l. f (suc i) ∷ l) (next_from f (suc i) n)

-- the holds one after another
all_holds : (h : Holds) → map (λ o. held h o) (numbers 0 (length h)) ≡ h
all_holds [] = refl
all_holds (x ∷ h) = ap (λ l. x ∷ l) (next_from (λ o. held (x ∷ h) o) 0 (length h) ∙ all_holds h)

all_modes : (spec : Specification) → map (λ o. mode_of (rights_on spec o)) (numbers 0 (length spec)) ≡ map mode_of spec
all_modes [] = refl
all_modes (a ∷ spec) = ap (λ l. mode_of a ∷ l) (next_from (λ o. mode_of (rights_on (a ∷ spec) o)) 0 (length spec) ∙ all_modes spec)

none_held : (h : Holds) (o : ℕ) → held (slice_set h o None) o ≡ None
none_held [] o = refl
none_held (x ∷ h) zero = refl
none_held (x ∷ h) (suc o) = none_held h o

no_held : (spec : Specification) (o : ℕ) → held (no_holds spec) o ≡ None
no_held [] o = refl
no_held (a ∷ spec) zero = refl
no_held (a ∷ spec) (suc o) = no_held spec o

here_but : (o : ℕ) (due : Due) → but o due o ≡ false
here_but o due = ap (λ b. if b then false else due o) (eq-eqb o o refl)

other_but : (o : ℕ) (due : Due) (j : ℕ) → (j ≡ o → ⊥) → but o due j ≡ due j
other_but o due j ne = ap (λ b. if b then false else due j) (ne_eqb j o ne)

here_also : (o : ℕ) (due : Due) → and_also o due o ≡ true
here_also o due = ap (λ b. if b then true else due o) (eq-eqb o o refl)

other_also : (o : ℕ) (due : Due) (j : ℕ) → (j ≡ o → ⊥) → and_also o due j ≡ due j
other_also o due j ne = ap (λ b. if b then true else due j) (ne_eqb j o ne)

-- ---- a task that begins

nothing_either : (d : Bool) (es : List Event) → es ≡ [] → (if d then es else []) ≡ []
nothing_either true es h = h
nothing_either false es h = refl

none_either : (d : Bool) (m : Option Mode) → m ≡ None → (if d then m else None) ≡ None
none_either true m h = h
none_either false m h = refl

taken_by : (d : Bool) (m : Option Mode) (o : ℕ) → (is_some m ≡ true → d ≡ true) → take_in m o ≡ (if d then take_in m o else [])
taken_by d None o h = sym (nothing_either d (take_in None o) refl)
taken_by d (Some m) o h = ap (λ b. if b then Take o m ∷ [] else []) (sym (h refl))

mode_due : (d : Bool) (m : Option Mode) → (is_some m ≡ true → d ≡ true) → (if d then m else None) ≡ m
mode_due d None h = none_either d None refl
mode_due d (Some m) h = ap (λ b. if b then Some m else None) (h refl)

-- what is done for each object of a list
same_each : (f g : ℕ → List Event) (os : List ℕ) → ((j : ℕ) → f j ≡ g j) → flat_map f os ≡ flat_map g os
same_each f g [] h = refl
same_each f g (o ∷ os) h = ap₂ (λ a b. a ++ b) (h o) (same_each f g os h)

pub begins_due : (due : Due) (t : Task) → BeginsDue due t
begins_due due t all vs =
    ap₂ (λ es h. es ++ events t.course t.spec h 0 vs)
    (same_each (λ o. take_in (mode_of (rights_on t.spec o)) o) (λ o. if due o then take_in (mode_of (rights_on t.spec o)) o else [])
    (own_last (commuting_on t.spec) (objects t.spec)) (λ j. taken_by (due j) (mode_of (rights_on t.spec j)) j (all j)))
    (sym (holds_from (λ o. if due o then mode_of (rights_on t.spec o) else held (no_holds t.spec) o) (λ o. mode_of (rights_on t.spec o)) 0
    (length t.spec) (λ j le lt. ap (λ m. if due j then mode_of (rights_on t.spec j) else m) (no_held t.spec j)
    ∙ mode_due (due j) (mode_of (rights_on t.spec j)) (all j))
    ∙ all_modes t.spec))

-- ---- takes

module _ (due : Due) (spec : Specification) where
  nothing_taken : (d : Bool) (m : Option Mode) (j : ℕ) → (if d then is_some m else false) ≡ false → (if d then take_in m j else []) ≡ []
  nothing_taken false m j h = refl
  nothing_taken true None j h = refl
  nothing_taken true (Some m) j h = absurd (true≢false h)

  is_due : (d : Bool) (m : Option Mode) → (if d then is_some m else false) ≡ true → d ≡ true
  is_due true m h = refl
  is_due false m h = h

  -- the least is taken first
  pub head_least : (o : ℕ) (m : Mode) → IsLeast (to_take due spec) (length spec) o → mode_of (rights_on spec o) ≡ Some m
      → takes due spec ≡ Take o m ∷ takes (but o due) spec
  head_least o m least mode =
      let d = is_due (due o) (mode_of (rights_on spec o)) least.here in
      let f : ℕ → List Event = λ j. if due j then take_in (mode_of (rights_on spec j)) j else [] in
      let g : ℕ → List Event = λ j. if but o due j then take_in (mode_of (rights_on spec j)) j else [] in
      let here : f o ≡ Take o m ∷ [] = ap₂ (λ b x. if b then take_in x o else []) d mode in
      let after : g o ≡ [] = ap (λ b. if b then take_in (mode_of (rights_on spec o)) o else []) (here_but o due) in
      least_from f g 0 (length spec) o (Take o m) (omega arith) (omega (arith, least.within))
      (λ j le lt. nothing_taken (due j) (mode_of (rights_on spec j)) j (least.before j lt)) here after
      (λ j ne. ap (λ b. if b then take_in (mode_of (rights_on spec j)) j else []) (other_but o due j ne))

  -- none is taken
  pub head_none : IsNone (to_take due spec) (length spec) → takes due spec ≡ []
  head_none none =
      none_from (λ o. if due o then take_in (mode_of (rights_on spec o)) o else []) 0 (length spec)
      (λ j le lt. nothing_taken (due j) (mode_of (rights_on spec j)) j (none j (below j (length spec) lt)))

  -- the holds that are planned, once one of these objects is taken
  pub planned_same : (h : Holds) (o : ℕ) (m : Mode) → IsFull spec h → o < length spec → due o ≡ true → mode_of (rights_on spec o) ≡ Some m
      → planned due spec h ≡ planned (but o due) spec (slice_set h o (Some m))
  planned_same h o m full lt d mode =
      let room : o < length h = subst (λ k. o < k) (sym full) lt in
      holds_from _ _ 0 (length spec) (λ j le lt. planned_at m h j (cases_eq j o) d mode room)
    where
      planned_at : (m : Mode) (h : Holds) (j : ℕ) → (j ≡ o) ⊎ (j ≡ o → ⊥) → due o ≡ true → mode_of (rights_on spec o) ≡ Some m → o < length h
          → (if due j then mode_of (rights_on spec j) else held h j) ≡ (if but o due j then mode_of (rights_on spec j) else held (slice_set h o (Some m)) j)
      planned_at m h j (inl e) d mode room =
          subst (λ i. (if due i then mode_of (rights_on spec i) else held h i) ≡
          (if but o due i then mode_of (rights_on spec i) else held (slice_set h o (Some m)) i))
          (sym e)
          (ap (λ b. if b then mode_of (rights_on spec o) else held h o) d ∙ mode ∙ sym (get_or-set_same h o (Some m) None room)
          ∙ ap (λ b. if b then mode_of (rights_on spec o) else held (slice_set h o (Some m)) o) (sym (here_but o due)))
      planned_at m h j (inr ne) d mode room =
          ap₂ (λ b x. if b then mode_of (rights_on spec j) else x) (sym (other_but o due j ne)) (sym (get_or-set_other h o j (Some m) None ne))

  pub takes_least : (c : Course) (h : Holds) (n o : ℕ) (m : Mode) → TakesLeast due c spec h n o m
  takes_least c h n o m full least mode vs =
      ap₂ (λ es k. es ++ events c spec k n vs) (head_least o m least mode)
      (planned_same h o m full least.within (is_due (due o) (mode_of (rights_on spec o)) least.here) mode)

  nothing_planned : (d : Bool) (m x : Option Mode) → (if d then is_some m else false) ≡ false → (d ≡ true → x ≡ None) → (if d then m else x) ≡ x
  nothing_planned false m x h free = refl
  nothing_planned true None x h free = sym (free refl)
  nothing_planned true (Some m) x h free = absurd (true≢false h)

  -- where none is taken, nothing is planned but what is held
  pub planned_none : (h : Holds) → IsFull spec h → IsNone (to_take due spec) (length spec) → ((o : ℕ) → due o ≡ true → held h o ≡ None)
      → planned due spec h ≡ h
  planned_none h full none free =
      holds_from (λ o. if due o then mode_of (rights_on spec o) else held h o) (λ o. held h o) 0 (length spec)
      (λ j le lt. nothing_planned (due j) (mode_of (rights_on spec j)) (held h j) (none j (below j (length spec) lt)) (free j))
      ∙ ap (λ k. map (λ o. held h o) (numbers 0 k)) (sym full) ∙ all_holds h

  pub tells_on : (c : Course) (h : Holds) (n : ℕ) → TellsOn due c spec h n
  tells_on c h n full none free vs = ap₂ (λ es k. es ++ events c spec k n vs) (head_none none) (planned_none h full none free)

-- ---- the begin, where the object on which the task commutes is taken last

-- what is done for that object
abbrev own_part : Option ℕ → (ℕ → List Event) → List Event
own_part None f = []
own_part (Some o) f = f o

joined_lists : (f : ℕ → List Event) (xs ys : List ℕ) → flat_map f (xs ++ ys) ≡ flat_map f xs ++ flat_map f ys
joined_lists f [] ys = refl
joined_lists f (x ∷ xs) ys = ap (λ l. f x ++ l) (joined_lists f xs ys) ∙ sym (append_assoc (f x) (flat_map f xs) (flat_map f ys))

without_one : (o : ℕ) (f : ℕ → List Event) (os : List ℕ) → flat_map f (without o os) ≡ flat_map (λ j. if nat_eq o j then [] else f j) os
without_one o f [] = refl
without_one o f (x ∷ xs) = at (nat_eq o x) (without_one o f xs)
  where
    at : (b : Bool) → flat_map f (without o xs) ≡ flat_map (λ j. if nat_eq o j then [] else f j) xs
        → flat_map f (if b then without o xs else x ∷ without o xs) ≡ (if b then [] else f x) ++ flat_map (λ j. if nat_eq o j then [] else f j) xs
    at true h = h
    at false h = ap (λ l. f x ++ l) h

nothing_after : (es : List Event) → es ≡ es ++ []
nothing_after [] = refl
nothing_after (e ∷ es) = ap (λ l. e ∷ l) (nothing_after es)

two_parts : (x : Option ℕ) (f : ℕ → List Event) (os : List ℕ) → flat_map f (own_last x os)
    ≡ flat_map (λ j. if is_own x j then [] else f j) os ++ own_part x f
two_parts None f os = nothing_after (flat_map f os)
two_parts (Some o) f os =
    joined_lists f (without o os) (o ∷ []) ∙ ap₂ (λ a b. a ++ b) (without_one o f os) (sym (nothing_after (f o)))

module _ (due : Due) (spec : Specification) where
  abbrev own : Option ℕ
  own = commuting_on spec

  abbrev taken_of : Due → ℕ → List Event
  taken_of d j = if d j then take_in (mode_of (rights_on spec j)) j else []

  -- what is taken of the others, and then the own object
  halves : (d : Due) → takes_first d spec ≡ takes (others own d) spec ++ own_part own (taken_of d)
  halves d =
      two_parts own (taken_of d) (objects spec)
      ∙ ap (λ l. l ++ own_part own (taken_of d)) (same_each _ _ (objects spec) (λ j. apart (is_own own j) (d j) (take_in (mode_of (rights_on spec j)) j)))
    where
      apart : (b d : Bool) (es : List Event) → (if b then [] else (if d then es else [])) ≡ (if (if b then false else d) then es else [])
      apart true d es = refl
      apart false d es = refl

  swapped : (o : ℕ) (j : ℕ) → but o (others own due) j ≡ others own (but o due) j
  swapped o j = at (nat_eq j o) (is_own own j)
    where
      at : (b c : Bool) → (if b then false else (if c then false else due j)) ≡ (if c then false else (if b then false else due j))
      at true true = refl
      at true false = refl
      at false c = refl

  takes_alike : (d d' : Due) → ((j : ℕ) → d j ≡ d' j) → takes d spec ≡ takes d' spec
  takes_alike d d' h = same_each _ _ (objects spec) (λ j. ap (λ b. if b then take_in (mode_of (rights_on spec j)) j else []) (h j))

  not_own : (b d m : Bool) → (if (if b then false else d) then m else false) ≡ true → (b ≡ false) × (d ≡ true)
  not_own true d m h = absurd (true≢false (sym h))
  not_own false true m h = (refl, refl)
  not_own false false m h = absurd (true≢false (sym h))

  -- the own part stays, where another object is taken
  part_stays : (x : Option ℕ) (o : ℕ) → is_own x o ≡ false → own_part x (taken_of due) ≡ own_part x (taken_of (but o due))
  part_stays None o h = refl
  part_stays (Some p) o h =
      ap (λ b. if b then take_in (mode_of (rights_on spec p)) p else []) (sym (other_but o due p (λ q. true≢false (sym (eq-eqb p o q) ∙ h))))

  pub starts_least : (c : Course) (h : Holds) (n o : ℕ) (m : Mode) → StartsLeast due c spec h n o m
  starts_least c h n o m full least mode vs =
      let d = not_own (is_own own o) (due o) _ least.here in
      ap₂ (λ es k. es ++ events c spec k n vs)
      (halves due
      ∙ ap₂ (λ a b. a ++ b) (head_least (others own due) spec o m least mode) (part_stays own o d.0)
      ∙ ap (λ l. Take o m ∷ (l ++ own_part own (taken_of (but o due)))) (takes_alike _ _ (swapped o))
      ∙ ap (λ l. Take o m ∷ l) (sym (halves (but o due))))
      (planned_same due spec h o m full least.within d.1 mode)

  pub starts_own : (c : Course) (h : Holds) (n o : ℕ) (m : Mode) → StartsOwn due c spec h n o m
  starts_own c h n o m full none is d lt mode vs =
      let here : own_part own (taken_of due) ≡ Take o m ∷ [] = ap (λ x. own_part x (taken_of due)) is ∙ ap₂ (λ b x. if b then take_in x o else []) d mode in
      let after : own_part own (taken_of (but o due)) ≡ [] =
      ap (λ x. own_part x (taken_of (but o due))) is ∙ ap (λ b. if b then take_in (mode_of (rights_on spec o)) o else []) (here_but o due) in
      let still : IsNone (to_take (others own (but o due)) spec) (length spec) =
      λ j lt. less (is_own own j) (nat_eq j o) (due j) _ (none j lt) in
      ap₂ (λ es k. es ++ events c spec k n vs)
      (halves due ∙ ap₂ (λ a b. a ++ b) (head_none (others own due) spec none) here
      ∙ ap (λ l. Take o m ∷ l) (sym (halves (but o due) ∙ ap₂ (λ a b. a ++ b) (head_none (others own (but o due)) spec still) after)))
      (planned_same due spec h o m full lt d mode)
    where
      less : (b c d m : Bool) → (if (if b then false else d) then m else false) ≡ false → (if (if b then false else (if c then false else d)) then m else false) ≡ false
      less true c d m h = refl
      less false true d m h = refl
      less false false d m h = h

  pub starts_on : (c : Course) (h : Holds) (n : ℕ) → StartsOn due c spec h n
  starts_on c h n full none free vs =
      ap₂ (λ es k. es ++ events c spec k n vs)
      (halves due ∙ ap₂ (λ a b. a ++ b) (head_none (others own due) spec (λ j lt. less (is_own own j) (due j) _ (none j))) (nothing own))
      (planned_none due spec h full (λ j lt. none j) free)
    where
      less : (b d m : Bool) → (if d then m else false) ≡ false → (if (if b then false else d) then m else false) ≡ false
      less true d m h = refl
      less false d m h = h

      nothing : (x : Option ℕ) → own_part x (taken_of due) ≡ []
      nothing None = refl
      nothing (Some o) = nothing_taken due spec (due o) (mode_of (rights_on spec o)) o (none o)

module _ (spec : Specification) (h : Holds) (n o : ℕ) (m : Mode) (room : o < length h) (free : held h o ≡ None) (mode : mode_of (rights_on spec o) ≡ Some m)
  where
    abbrev taken : Holds
    taken = slice_set h o (Some m)

    takes_it : first_take spec h o ≡ Take o m ∷ []
    takes_it = ap₂ (λ x y. if is_none x then take_in y o else []) free mode

    takes_no_more : first_take spec taken o ≡ []
    takes_no_more = ap (λ x. if is_none x then take_in (mode_of (rights_on spec o)) o else []) (get_or-set_same h o (Some m) None room)

    same_touched : touched spec h o ≡ touched spec taken o
    same_touched = sym (set-set h o (Some m) (mode_of (rights_on spec o)))

    at_read : (c : ℕ) (on : ℤ → Course) (vs : List ℤ) → events (Reads o c on) spec h n vs ≡ Take o m ∷ events (Reads o c on) spec taken n vs
    at_read c on [] = ap (λ es. es ++ Wants o c ∷ []) takes_it ∙ ap (λ es. Take o m ∷ (es ++ Wants o c ∷ [])) (sym takes_no_more)
    at_read c on (v ∷ vs) =
        ap₂ (λ es g. es ++ TouchRead o c v ∷ events (on v) spec g n vs) takes_it same_touched
        ∙ ap (λ es. Take o m ∷ (es ++ TouchRead o c v ∷ events (on v) spec (touched spec taken o) n vs)) (sym takes_no_more)

    at_write : (c : ℕ) (v : ℤ) (on : Course) (vs : List ℤ) → events (Writes o c v on) spec h n vs ≡ Take o m ∷ events (Writes o c v on) spec taken n vs
    at_write c v on vs =
        ap₂ (λ es g. es ++ TouchWrite o c v ∷ events on spec g n vs) takes_it same_touched
        ∙ ap (λ es. Take o m ∷ (es ++ TouchWrite o c v ∷ events on spec (touched spec taken o) n vs)) (sym takes_no_more)

pub takes_touched : (c : Course) (spec : Specification) (h : Holds) (n o : ℕ) (m : Mode) → TakesTouched c spec h n o m
takes_touched (Reads p c on) spec h n o m e room free mode vs =
    subst (λ q. events (Reads q c on) spec h n vs ≡ Take o m ∷ events (Reads q c on) spec (slice_set h o (Some m)) n vs) e
    (at_read spec h n o m room free mode c on vs)
takes_touched (Writes p c v on) spec h n o m e room free mode vs =
    subst (λ q. events (Writes q c v on) spec h n vs ≡ Take o m ∷ events (Writes q c v on) spec (slice_set h o (Some m)) n vs) e
    (at_write spec h n o m room free mode c v on vs)
takes_touched (Steps on) spec h n o m e room free mode vs = absurd e
takes_touched (Creates made body on) spec h n o m e room free mode vs = absurd e
takes_touched (Changes new on) spec h n o m e room free mode vs = absurd e
takes_touched (Ends b) spec h n o m e room free mode vs = absurd e

-- ---- gives

module _ (h : Holds) (o : ℕ) where
  abbrev given : Holds
  given = slice_set h o None

  held_else : (j : ℕ) → (j ≡ o → ⊥) → held given j ≡ held h j
  held_else j ne = get_or-set_other h o j None None ne

  -- the least of what is given up, where the test is one of the hold
  gives_least : (test : Option Mode → ℕ → Bool) (n : ℕ) → ((j : ℕ) → test None j ≡ false) → IsLeast (λ j. test (held h j) j) n o
      → flat_map (λ j. when (test (held h j) j) (Give j)) (numbers 0 n) ≡ Give o ∷ flat_map (λ j. when (test (held given j) j) (Give j)) (numbers 0 n)
  gives_least test n none least =
      least_from (λ j. when (test (held h j) j) (Give j)) (λ j. when (test (held given j) j) (Give j)) 0 n o (Give o) (omega arith)
      (omega (arith, least.within))
      (λ j le lt. ap (λ b. when b (Give j)) (least.before j lt)) (ap (λ b. when b (Give o)) least.here)
      (ap (λ x. when (test x o) (Give o)) (none_held h o) ∙ ap (λ b. when b (Give o)) (none o))
      (λ j ne. ap (λ x. when (test x j) (Give j)) (held_else j ne))

gives_none : (test : ℕ → Bool) (n : ℕ) → IsNone test n → flat_map (λ j. when (test j) (Give j)) (numbers 0 n) ≡ []
gives_none test n none = none_from (λ j. when (test j) (Give j)) 0 n (λ j le lt. ap (λ b. when b (Give j)) (none j (below j n lt)))

pub gives_for_child : (made : Specification) (body on : Course) (spec : Specification) (h : Holds) (n o : ℕ) → GivesForChild made body on spec h n o
gives_for_child made body on spec h n o least vs =
    ap₂ (λ es k. es ++ enters made ++ Enroll (record { spec = made; course = body }) n ∷ events on spec k 0 vs)
    (gives_least h o (λ x j. yields x (rights_on made j)) (length made) (λ j. refl) least)
    (holds_from _ _ 0 (length made) (λ j le lt. at j (cases_eq j o)))
  where
    at : (j : ℕ) → (j ≡ o) ⊎ (j ≡ o → ⊥) → (if yields (held h j) (rights_on made j) then None else held h j)
        ≡ (if yields (held (slice_set h o None) j) (rights_on made j) then None else held (slice_set h o None) j)
    at j (inl e) =
        subst (λ i. (if yields (held h i) (rights_on made i) then None else held h i)
        ≡ (if yields (held (slice_set h o None) i) (rights_on made i) then None else held (slice_set h o None) i)) (sym e)
        (ap (λ b. if b then None else held h o) least.here ∙ ap (λ x. if yields x (rights_on made o) then None else x) (sym (none_held h o)))
    at j (inr ne) = ap (λ x. if yields x (rights_on made j) then None else x) (sym (held_else h o j ne))

pub enters_now : (made : Specification) (body on : Course) (spec : Specification) (h : Holds) (n : ℕ) → Enters made body on spec h n
enters_now made body on spec h n long none vs =
    let same : kept made h ≡ h =
    holds_from (λ o. if yields (held h o) (rights_on made o) then None else held h o) (λ o. held h o) 0 (length made)
    (λ j le lt. ap (λ b. if b then None else held h j) (none j (below j (length made) lt)))
    ∙ ap (λ k. map (λ o. held h o) (numbers 0 k)) long ∙ all_holds h in
    ap₂ (λ es k. es ++ enters made ++ Enroll (record { spec = made; course = body }) n ∷ events on spec k 0 vs)
    (gives_none (for_child made h) (length made) none) same

pub changes_first : (new : Specification) (on : Course) (old : Specification) (h : Holds) (n : ℕ) → ChangesFirst new on old h n
changes_first new on old h n vs =
    append_assoc (change_gives new h ++ shifts old new) (takes (due_anew no_due old new h) new) (events on new (planned (due_anew no_due old new h) new h) n vs)

either_true : (a b : Bool) → b ≡ true → (a || b) ≡ true
either_true true b h = refl
either_true false b h = h

first_true : (a b : Bool) → a ≡ true → (a || b) ≡ true
first_true true b h = refl
first_true false b h = absurd (true≢false (sym h))

pub gives_for_change : (due : Due) (new : Specification) (on : Course) (old : Specification) (h : Holds) (n o : ℕ) → GivesForChange due new on old h n o
gives_for_change due new on old h n o least vs =
    ap₂ (λ es rest. es ++ shifts old new ++ rest)
    (gives_least h o (λ x j. is_some x && not (same_hold x (mode_of (rights_on new j)))) (length new) (λ j. refl) least)
    (ap₂ (λ es k. es ++ events on new k n vs)
    (same_from _ _ 0 (length new) (λ j le lt. ap (λ b. if b then take_in (mode_of (rights_on new j)) j else []) (anew j (cases_eq j o))))
    (holds_from _ _ 0 (length new) (λ j le lt. hold j (cases_eq j o))))
  where
    was : due_anew due old new h o ≡ true
    was = either_true (due o) (taken_anew old new h o) (first_true (given_back new h o) _ least.here)

    is : due_anew (and_also o due) old new (slice_set h o None) o ≡ true
    is = first_true (and_also o due o) (taken_anew old new (slice_set h o None) o) (here_also o due)

    apart : (j : ℕ) → (j ≡ o → ⊥) → due_anew due old new h j ≡ due_anew (and_also o due) old new (slice_set h o None) j
    apart j ne = ap₂
        (λ b x. b || ((is_some x && not (same_hold x (mode_of (rights_on new j)))) || (is_none x && made_immediate (rights_on old j) (rights_on new j))))
        (sym (other_also o due j ne)) (sym (held_else h o j ne))

    anew : (j : ℕ) → (j ≡ o) ⊎ (j ≡ o → ⊥) → due_anew due old new h j ≡ due_anew (and_also o due) old new (slice_set h o None) j
    anew j (inl e) = subst (λ i. due_anew due old new h i ≡ due_anew (and_also o due) old new (slice_set h o None) i) (sym e) (was ∙ sym is)
    anew j (inr ne) = apart j ne

    hold : (j : ℕ) → (j ≡ o) ⊎ (j ≡ o → ⊥) → (if due_anew due old new h j then mode_of (rights_on new j) else held h j)
        ≡ (if due_anew (and_also o due) old new (slice_set h o None) j then mode_of (rights_on new j) else held (slice_set h o None) j)
    hold j (inl e) =
        subst (λ i. (if due_anew due old new h i then mode_of (rights_on new i) else held h i)
        ≡ (if due_anew (and_also o due) old new (slice_set h o None) i then mode_of (rights_on new i) else held (slice_set h o None) i)) (sym e)
        (ap (λ b. if b then mode_of (rights_on new o) else held h o) was ∙ ap (λ b. if b then mode_of (rights_on new o) else held (slice_set h o None) o)
        (sym is))
    hold j (inr ne) = ap₂ (λ b x. if b then mode_of (rights_on new j) else x) (apart j ne) (sym (held_else h o j ne))

pub shifts_now : (due : Due) (new : Specification) (on : Course) (old : Specification) (h : Holds) (n : ℕ) → Shifts due new on old h n
shifts_now due new on old h n none vs =
    ap (λ es. es ++ shifts old new ++ left_to_tell (due_anew due old new h) on new h n vs) (gives_none (given_back new h) (length new) none)

pub gives_at_end : (b : Option Blame) (spec : Specification) (h : Holds) (n o : ℕ) → GivesAtEnd b spec h n o
gives_at_end b spec h n o least vs =
    ap (λ es. es ++ end_leaves spec ++ Resign b n ∷ []) (gives_least h o (λ x j. is_some x) (length spec) (λ j. refl) least)

pub resigns : (b : Option Blame) (spec : Specification) (h : Holds) (n : ℕ) → Resigns b spec h n
resigns b spec h n none vs = ap (λ es. es ++ end_leaves spec ++ Resign b n ∷ []) (gives_none (is_held h) (length spec) none)
