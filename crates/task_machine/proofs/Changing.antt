-- The rights of a task change.
use Rattle.std.proofs.Common.{◌≡◌, ℕ, zero, suc, ◌+◌, ◌-◌, ◌<◌, ◌⊎◌, inl, inr, List, [], ◌∷◌, ◌++◌, length, map, Bool, true, false}
use Rattle.std.proofs.Common.{Option, Some, None, refl, sym, ap, ap₂, ◌∙◌, subst, arith, ⊎_elim}
use Rattle.std.specs.Prelude.{ℤ, ◌||◌, ◌&&◌, not, is_some, is_none, nat_eq, slice_get, slice_set, slice_index_or, if◌then◌else◌}
use Rattle.std.proofs.lemmas.Bool.{cases_eq, eq-eqb, ne_eqb, true≢false}
use Rattle.std.proofs.lemmas.Option.{none-some, same_Some}
use Rattle.jade_base.specs.declared.place.ObjectId.{ObjectId}
use Rattle.jade_base.specs.declared.rights.Mode.{Mode}
use Rattle.jade_base.specs.declared.rights.Mode.TheVariants.{Reading, Writing, Commuting}
use Rattle.jade_base.specs.declared.rights.Rights.{Rights}
use Rattle.jade_base.specs.Rights.{mode_of, no_rights, has_rights}
use Rattle.jade_base.specs.Specification.{kept, settled}
use Rattle.jade_base.specs.Held.{Held}
use Rattle.access_spec.specs.Copies.{copied, copied_in}
use Rattle.jade_meaning.specs.Specification.{Specification, rights_on, same_hold}
use Rattle.jade_meaning.specs.Course.{NoDraft}
use Rattle.jade_meaning.specs.Talk.{Take, held, take_in, given_back, taken_anew, events}
use Rattle.task_machine.specs.declared.holdings.Row.{Row}
use Rattle.task_machine.specs.declared.section.Section.TheVariants as section
use Rattle.task_machine.specs.declared.next.Phase.{Phase}
use Rattle.task_machine.specs.declared.next.Phase.TheVariants as phase
use Rattle.task_machine.specs.Stages.{id, rights_at, beyond}
use Rattle.task_machine.specs.Executions.{Execution, has_row, held_by, moved_on, objects_in}
use Rattle.task_machine.specs.Left.{Due, due_anew, has_mode, to_take, IsNone, left_to_tell}
use Rattle.task_machine.specs.Machines.{Machine, IsOrdered, NoneIsNext, amended_at, child_of, due_at, due_in, holds_at, is_to_move, left, left_in}
use Rattle.task_machine.specs.Asks.{changed, shifts_from}
use Rattle.task_machine.specs.steps.Holding.{RowsAbove, RowsAscend}
use Rattle.task_machine.specs.declared.machine.Ask.{Ask}
use Rattle.task_machine.specs.declared.machine.Ask.TheVariants as ask
use Rattle.task_machine.specs.steps.Standing.{has_entry, HasRows, IsKept, asking, machine, is_due_anew, marks_anew}
use Rattle.task_machine.proofs.Tables.{table_at}
use Rattle.task_machine.proofs.Left.{same_from, holds_from}
use Rattle.task_machine.proofs.Marks.{hold_past}
use Rattle.task_machine.proofs.Asking.{new_long, change_next, no_hold, agreed, lt_or_le}
use Rattle.task_machine.proofs.Standing.{in_phase}
use Rattle.task_machine.proofs.Answering.{all_shift, asked_is}

-- ---- marks

chosen : (b x y : Bool) → b ≡ true → (if b then x else y) ≡ x
chosen true x y h = refl
chosen false x y h = absurd (true≢false (sym h))

marks_of : (f : ℕ → Bool) (rs : List Row) (o : ℕ) → due_in rs (map (λ r. f r.object.0) rs) o ≡ (if has_row o rs then f o else false)
marks_of f [] o = refl
marks_of f (r ∷ rs) o = go (marks_of f rs o) (cases_eq r.object.0 o)
  where
    go : due_in rs (map (λ r. f r.object.0) rs) o ≡ (if has_row o rs then f o else false) → (r.object.0 ≡ o) ⊎ (r.object.0 ≡ o → ⊥)
        → (if nat_eq r.object.0 o then f r.object.0 else due_in rs (map (λ r. f r.object.0) rs) o)
        ≡ (if (if nat_eq r.object.0 o then true else has_row o rs) then f o else false)
    go more (inl q) = rw (eq-eqb r.object.0 o q) (ap f q)
    go more (inr ne) = rw (ne_eqb r.object.0 o ne) more

marks_long : (f : ℕ → Bool) (rs : List Row) → length (map (λ r. f r.object.0) rs) ≡ length rs
marks_long f [] = refl
marks_long f (r ∷ rs) = ap suc (marks_long f rs)

no_copy : (es : List (ObjectId × Rights)) (ds : List Rights) (o : ℕ) → has_entry o es ≡ false → copied_in es ds (id o) ≡ no_rights
no_copy [] ds o h = refl
no_copy (x ∷ es) [] o h = refl
no_copy (x ∷ es) (d ∷ ds) o h = at (λ q. no_copy es ds o q) (nat_eq x.0.0 o) h
  where
    at : (has_entry o es ≡ false → copied_in es ds (id o) ≡ no_rights) → (b : Bool) → (if b then true else has_entry o es) ≡ false
        → (if b then d else copied_in es ds (id o)) ≡ no_rights
    at more true h = absurd (true≢false h)
    at more false h = more h

pub kept_rows : (es : List (ObjectId × Rights)) (ds : List Rights) (o : ℕ) → has_entry o (kept es ds) ≡ true → has_entry o es ≡ true
kept_rows [] ds o h = h
kept_rows (x ∷ es) [] o h = absurd (true≢false (sym h))
kept_rows (x ∷ es) (d ∷ ds) o h = at (λ q. kept_rows es ds o q) (has_rights d) (nat_eq x.0.0 o) refl h
  where
    at : (has_entry o (kept es ds) ≡ true → has_entry o es ≡ true) → (r b : Bool) → nat_eq x.0.0 o ≡ b
        → has_entry o (if r then (x.0, d) ∷ kept es ds else kept es ds) ≡ true → (if b then true else has_entry o es) ≡ true
    at more r true q h = refl
    at more true false q h = more (sym (ap (λ b. if b then true else has_entry o (kept es ds)) q) ∙ h)
    at more false false q h = more h

-- ---- what is taken and held is the same

none_in : (g : Bool) (j : ℕ) → (if g then take_in None j else []) ≡ []
none_in true j = refl
none_in false j = refl

one_take : (g d : Bool) (m : Option Mode) (j : ℕ) → (is_some m ≡ true → d ≡ g) → (if g then take_in m j else []) ≡ (if d then take_in m j else [])
one_take g d None j h = none_in g j ∙ sym (none_in d j)
one_take g d (Some x) j h = ap (λ b. if b then Take j x ∷ [] else []) (sym (h refl))

none_held : (g : Bool) (x : Option Mode) → (g ≡ true → x ≡ None) → (if g then None else x) ≡ x
none_held true x h = sym (h refl)
none_held false x h = refl

one_plan : (g d : Bool) (m x : Option Mode) → (is_some m ≡ true → d ≡ g) → (is_some m ≡ false → d ≡ false) → (g ≡ true → x ≡ None)
    → (if g then m else x) ≡ (if d then m else x)
one_plan g d None x h h' free = none_held g x free ∙ ap (λ b. if b then None else x) (sym (h' refl))
one_plan g d (Some y) x h h' free = ap (λ b. if b then Some y else x) (sym (h refl))

either_of : (a b : Bool) → (a || b) ≡ true → (a ≡ true) ⊎ (b ≡ true)
either_of true b h = inl refl
either_of false b h = inr h

first_is : (a b : Bool) → (a && b) ≡ true → a ≡ true
first_is true b h = refl
first_is false b h = h

is_nothing : (x : Option Mode) → is_none x ≡ true → x ≡ None
is_nothing None h = refl
is_nothing (Some y) h = absurd (true≢false (sym h))

same_mode : (a : Mode) (m : Option Mode) → not (same_hold (Some a) m) ≡ false → m ≡ Some a
same_mode Reading (Some Reading) h = refl
same_mode Writing (Some Writing) h = refl
same_mode Commuting (Some Commuting) h = refl
same_mode Reading None h = absurd (true≢false h)
same_mode Writing None h = absurd (true≢false h)
same_mode Commuting None h = absurd (true≢false h)
same_mode Reading (Some Writing) h = absurd (true≢false h)
same_mode Reading (Some Commuting) h = absurd (true≢false h)
same_mode Writing (Some Reading) h = absurd (true≢false h)
same_mode Writing (Some Commuting) h = absurd (true≢false h)
same_mode Commuting (Some Reading) h = absurd (true≢false h)
same_mode Commuting (Some Writing) h = absurd (true≢false h)

masked : (g : Bool) → (if g then true else false) ≡ g
masked true = refl
masked false = refl

masked_none : (g : Bool) → (if g then false else false) ≡ false
masked_none true = refl
masked_none false = refl

within_mask : (r g m : Bool) → (if r then (if g then m else false) else false) ≡ true → g ≡ true
within_mask true true m h = refl
within_mask true false m h = h
within_mask false g m h = absurd (true≢false (sym h))

module _ (e : Execution) (ds : List Bool) (part : ℕ) (good : IsOrdered (machine e ds phase.Changing part)) (rows : HasRows e.stage.spec.entries e.rows)
    (none : IsNone (given_back (amended_at e) (holds_at e)) e.stage.objects) where
  abbrev m : Machine
  m = machine e ds phase.Changing part

  abbrev new : Specification
  new = amended_at e

  abbrev after : Execution
  after = (changed m).execution

  -- what is due after the change, as the talk has it, and as the marks have it
  abbrev g : Due
  g = due_anew (due_at m) (rights_at e.stage) new (holds_at e)

  abbrev d : Due
  d = due_at (changed m)

  amended_row : (o : ℕ) → o < e.stage.objects → has_mode new o ≡ true → has_row o e.rows ≡ true
  amended_row o lt h = at (has_entry o e.stage.spec.entries) refl
    where
      at : (b : Bool) → has_entry o e.stage.spec.entries ≡ b → has_row o e.rows ≡ true
      at true q = rows.row o q
      at false q =
          let z : 0 + o ≡ o = omega arith in
          let here : rights_on new o ≡ copied e.stage.spec (id o) =
          table_at (λ i. copied e.stage.spec (id i)) 0 e.stage.objects o no_rights lt ∙ ap (λ i. copied e.stage.spec (id i)) z in
          absurd (true≢false (sym h ∙ ap (λ r. is_some (mode_of r)) (here ∙ no_copy e.stage.spec.entries e.stage.spec.draft o q)))

  free : (o : ℕ) → o < e.stage.objects → g o ≡ true → held (holds_at e) o ≡ None
  free o lt h = ⊎_elim (λ q. no_hold m good o q) (λ q. ⊎_elim (λ r. absurd (true≢false (sym r ∙ none o lt)))
      (λ r. is_nothing (held (holds_at e) o) (first_is (is_none (held (holds_at e) o)) _ r))
      (either_of (given_back new (holds_at e) o) _ q)) (either_of (due_at m o) (taken_anew (rights_at e.stage) new (holds_at e) o) h)

  marked : (o : ℕ) → d o ≡ (if has_row o e.rows then to_take g new o else false)
  marked o = marks_of (λ j. to_take g new j) e.rows o

  marked_some : (o : ℕ) → o < e.stage.objects → has_mode new o ≡ true → d o ≡ g o
  marked_some o lt h =
      marked o ∙ chosen (has_row o e.rows) (to_take g new o) false (amended_row o lt h) ∙ ap (λ b. if g o then b else false) h ∙ masked (g o)

  marked_none : (o : ℕ) → has_mode new o ≡ false → d o ≡ false
  marked_none o h =
      marked o ∙ ap (λ b. if has_row o e.rows then (if g o then b else false) else false) h
      ∙ ap (λ b. if has_row o e.rows then b else false) (masked_none (g o)) ∙ masked_none (has_row o e.rows)

  inside : (j : ℕ) → j < 0 + length new → j < e.stage.objects
  inside j lt = let long = new_long m good in omega (arith, lt, long)

  pub left_after : rights_at after.stage ≡ new → (vs : List ℤ)
      → left_to_tell g (beyond (child_of e) e.stage new NoDraft) new (holds_at e) (part - e.stage.left) vs ≡ left (changed m) vs
  left_after same vs =
      ap₂ (λ es h. es ++ events (beyond (child_of e) e.stage new NoDraft) new h (part - e.stage.left) vs)
      (same_from (λ o. if g o then take_in (mode_of (rights_on new o)) o else []) (λ o. if d o then take_in (mode_of (rights_on new o)) o else []) 0
      (length new) (λ j le lt. one_take (g j) (d j) (mode_of (rights_on new j)) j (marked_some j (inside j lt))))
      (holds_from (λ o. if g o then mode_of (rights_on new o) else held (holds_at e) o)
      (λ o. if d o then mode_of (rights_on new o) else held (holds_at e) o) 0 (length new)
      (λ j le lt. one_plan (g j) (d j) (mode_of (rights_on new j)) (held (holds_at e) j) (marked_some j (inside j lt)) (marked_none j)
      (free j (inside j lt))))
      ∙ ap (λ s. left_to_tell d (beyond (child_of e) e.stage s NoDraft) s (holds_at e) (part - e.stage.left) vs) (sym same)

  pub change_left : rights_at after.stage ≡ new → (vs : List ℤ)
      → left_in phase.Changing m vs ≡ shifts_from 0 (rights_at e.stage) new ++ left (changed m) vs
  change_left same vs =
      change_next m good (subst (IsNone (given_back new (holds_at e))) (sym (new_long m good)) none) vs
      ∙ ap₂ (λ es fs. es ++ fs) (all_shift e ds part (rights_at e.stage) new) (left_after same vs)

  held_inside : (o : ℕ) (x : Held) → held_by e o ≡ Some x → o < e.stage.objects
  held_inside o x h = ⊎_elim (λ lt. lt) (λ le. absurd (none-some x.mode (sym (hold_past e.stage.objects (held_by e) o le)
      ∙ (agreed m good).holds o x h))) (lt_or_le m good o e.stage.objects)

  pub changed_order : rights_at after.stage ≡ new → IsOrdered (changed m)
  changed_order same = record {
    long = marks_long (λ j. to_take g new j) e.rows;
    agrees = λ o x h.
        let lt = held_inside o x h in
        let holds : held (holds_at e) o ≡ Some x.mode = (agreed m good).holds o x h in
        let kept : not (same_hold (Some x.mode) (mode_of (rights_on new o))) ≡ false =
        sym (ap (λ y. is_some y && not (same_hold y (mode_of (rights_on new o)))) holds) ∙ none o lt in
        ap (λ s. mode_of (rights_on s o)) same ∙ same_mode x.mode (mode_of (rights_on new o)) kept;
    free = λ o h. at o (held_by e o) refl h;
    steps = good.steps;
  }
    where
      at : (o : ℕ) (x : Option Held) → held_by e o ≡ x → d o ≡ true → x ≡ None
      at o None q h = refl
      at o (Some x) q h =
          let lt = held_inside o x q in
          let is : g o ≡ true = within_mask (has_row o e.rows) (g o) (has_mode new o) (sym (marked o) ∙ h) in
          absurd (none-some x.mode (sym (free o lt is) ∙ (agreed m good).holds o x q))

pub change_stands : (e : Execution) (ds : List Bool) (part : ℕ) (p : Phase) → IsOrdered (machine e ds p part) → HasRows e.stage.spec.entries e.rows
    → p ≡ phase.Changing → NoneIsNext p (machine e ds p part) → rights_at (changed (machine e ds p part)).execution.stage ≡ amended_at e → (vs : List ℤ)
    → left_in p (machine e ds p part) vs ≡ shifts_from 0 (rights_at e.stage) (amended_at e) ++ left (changed (machine e ds p part)) vs
change_stands e ds part phase.Starting good rows is none same vs = cc
change_stands e ds part phase.Taking good rows is none same vs = cc
change_stands e ds part phase.Going good rows is none same vs = cc
change_stands e ds part (phase.Creating number) good rows is none same vs = cc
change_stands e ds part (phase.Ending b) good rows is none same vs = cc
change_stands e ds part phase.Changing good rows is none same vs = change_left e ds part good rows none same vs

-- ---- the marks are rewritten in place

pub anew_step : (e : Execution) (n : ℕ) (rs : List Row) (ds : List Bool) (o : ObjectId) (b : Bool) → slice_get (objects_in rs) n ≡ Some o
    → length ds ≡ length rs
    → slice_set (marks_anew e n rs ds) n (is_due_anew e (slice_index_or (marks_anew e n rs ds) n b) o.0) ≡ marks_anew e (suc n) rs ds
anew_step e n [] ds o b h long = absurd (none-some o h)
anew_step e zero (r ∷ rs) [] o b h long = absurd (omega (arith, long))
anew_step e (suc n) (r ∷ rs) [] o b h long = absurd (omega (arith, long))
anew_step e zero (r ∷ rs) (d ∷ ds) o b h long = ap (λ (x : ObjectId). is_due_anew e d x.0 ∷ ds) (sym (same_Some r.object o h))
anew_step e (suc n) (r ∷ rs) (d ∷ ds) o b h long = ap (λ l. is_due_anew e d r.object.0 ∷ l) (anew_step e n rs ds o b h (omega (arith, long)))

above_row : (n : ℕ) (rs : List Row) (j : ℕ) → RowsAbove n rs → has_row j rs ≡ true → n < j
above_row n [] j a h = absurd (true≢false (sym h))
above_row n (r ∷ rs) j a h = go (λ q. above_row n rs j a.1 q) (cases_eq r.object.0 j)
  where
    go : (has_row j rs ≡ true → n < j) → (r.object.0 ≡ j) ⊎ (r.object.0 ≡ j → ⊥) → n < j
    go more (inl q) = let lt = a.0 in omega (arith, lt, q)
    go more (inr ne) = more (sym (ap (λ b. if b then true else has_row j rs) (ne_eqb r.object.0 j ne)) ∙ h)

pub marks_are : (e : Execution) (f : Due) (rs : List Row) (ds : List Bool) → RowsAscend rs → length ds ≡ length rs
    → ((j : ℕ) → has_row j rs ≡ true → f j ≡ due_in rs ds j) → marks_anew e (length rs) rs ds ≡ map (λ r. is_due_anew e (f r.object.0) r.object.0) rs
marks_are e f [] [] a long h = refl
marks_are e f [] (d ∷ ds) a long h = absurd (omega (arith, long))
marks_are e f (r ∷ rs) [] a long h = absurd (omega (arith, long))
marks_are e f (r ∷ rs) (d ∷ ds) a long h =
    let here : f r.object.0 ≡ d =
    h r.object.0 (ap (λ b. if b then true else has_row r.object.0 rs) (eq-eqb r.object.0 r.object.0 refl))
    ∙ ap (λ b. if b then d else due_in rs ds r.object.0) (eq-eqb r.object.0 r.object.0 refl) in
    ap₂ (λ b l. is_due_anew e b r.object.0 ∷ l) (sym here)
    (marks_are e f rs ds a.1 (omega (arith, long)) (λ j q.
    let lt = above_row r.object.0 rs j a.0 q in
    let ne : nat_eq r.object.0 j ≡ false = ne_eqb r.object.0 j (λ x. omega (arith, x, lt)) in
    h j (ap (λ b. if b then true else has_row j rs) ne ∙ q) ∙ ap (λ b. if b then d else due_in rs ds j) ne))

pub change_kept : (e : Execution) (ds : List Bool) (p : Phase) (part : ℕ) (k : Option Ask) (n c t : ℕ) (f : Execution) (es : List Bool)
    → IsKept (asking e ds p part k n c t) → k ≡ Some ask.Change → es ≡ map (λ r. is_due_anew e (due_in e.rows ds r.object.0) r.object.0) e.rows
    → f ≡ record e { stage = moved_on section.Absent (settled (kept e.stage.spec.entries e.stage.spec.draft)) e.stage.child e.stage }
    → rights_at f.stage ≡ amended_at e → IsKept (asking f es phase.Taking part None n c t)
change_kept e ds p part k n c t f es is_kept is marks moved rights =
    let a = asked_is (asking e ds p part k n c t) ask.Change is_kept is in
    let good : IsOrdered (machine e ds phase.Changing part) = in_phase e ds p phase.Changing part is_kept.order in
    let none : IsNone (given_back (amended_at e) (holds_at e)) e.stage.objects =
    subst (λ q. IsNone (is_to_move q e ds) e.stage.objects) a.0 a.1 in
    let after : Execution = (changed (machine e ds phase.Changing part)).execution in
    let same : rights_at after.stage ≡ amended_at e = sym (ap (λ (y : Execution). rights_at y.stage) moved) ∙ rights in
    subst (λ y. IsKept (asking y es phase.Taking part None n c t)) (sym moved)
    (subst (λ ms. IsKept (asking after ms phase.Taking part None n c t)) (sym marks) (record {
      order = changed_order e ds part good is_kept.rows none same;
      rows = record { row = λ o h. is_kept.rows.row o (kept_rows e.stage.spec.entries e.stage.spec.draft o h) };
      objects = is_kept.objects;
      small = is_kept.small;
      knows = tt;
      asked = tt;
    }))
