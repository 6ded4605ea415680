-- What an answer to an ask makes of a machine, and what an ask says.
use Rattle.std.proofs.Common.{◌≡◌, ℕ, zero, suc, ◌+◌, ◌-◌, ◌≤◌, ◌⊎◌, inl, inr, List, [], ◌∷◌, ◌++◌, length, map, Bool, true, false}
use Rattle.std.proofs.Common.{Option, Some, None, refl, sym, ap, ap₂, ◌∙◌, subst, arith}
use Rattle.std.specs.Prelude.{ℤ, is_some, nat_eq, replicate, slice_set, if◌then◌else◌}
use Rattle.std.proofs.lemmas.Bool.{cases_eq, eq-eqb, ne_eqb, true≢false}
use Rattle.std.proofs.lemmas.Option.{none-some, same_Some}
use Rattle.jade_base.specs.declared.place.ObjectId.{ObjectId}
use Rattle.jade_base.specs.declared.report.Blame.{Blame}
use Rattle.jade_base.specs.declared.rights.Rights.{Rights}
use Rattle.std.specs.List.{flat_map}
use Rattle.jade_base.specs.Rights.{mode_of, has_rights}
use Rattle.jade_base.specs.Specification.{kept, settled}
use Rattle.jade_base.specs.Held.{Held}
use Rattle.jade_meaning.specs.Specification.{Specification, numbers, rights_on}
use Rattle.jade_meaning.specs.Talk.{Task, talk, Enter, Enroll, Leave, Resign, held, when, shift}
use Rattle.jade_meaning.specs.Talk.{given_back, enters, shifts, end_leaves, events}
use Rattle.task_machine.specs.declared.holdings.Row.{Row}
use Rattle.task_machine.specs.declared.section.Section.TheVariants as section
use Rattle.task_machine.specs.declared.next.Phase.{Phase}
use Rattle.task_machine.specs.declared.next.Phase.TheVariants as phase
use Rattle.task_machine.specs.declared.machine.Ask.{Ask}
use Rattle.task_machine.specs.declared.machine.Ask.TheVariants as ask
use Rattle.task_machine.specs.Playing.{contents_of}
use Rattle.task_machine.specs.Stages.{rights_at}
use Rattle.task_machine.specs.Executions.{Execution, has_row, held_by, moved_on, with_content, without_content}
use Rattle.task_machine.specs.Left.{Due, IsLeast, IsNone, for_child, is_held}
use Rattle.task_machine.specs.Machines.{Machine, IsOrdered, NoDue, IsNext, NoneIsNext, GiveIsNext, all_due, amended_at, child_task, course_at}
use Rattle.task_machine.specs.Machines.{due_at, due_in, holds_at, left, left_in, made_at, marks_after, supplied, surrendered, with_mark}
use Rattle.task_machine.specs.Machines.{begun}
use Rattle.task_machine.specs.Asks.{Asking, BeginsAs, Stands, changed, created, enters_from, leaves_from, shifts_from, number_of}
use Rattle.task_machine.specs.steps.Standing.{has_entry, HasRows, Knows, Asked, AskedIf, machine, asking, gives_up, IsFresh, IsKept}
use Rattle.task_machine.specs.steps.Holding.{row_from}
use Rattle.task_machine.specs.steps.Surrendering.{IsSurrendered}
use Rattle.task_machine.proofs.Marks.{objects_same, content_is, mark_long, rows_still_long, due_but, due_also, due_same}
use Rattle.task_machine.proofs.Asking.{spec_long, made_long, new_long, give_for_child, creation_next, give_for_change, give_at_end, end_next}
use Rattle.task_machine.proofs.Asking.{held_inside, has_its_row, first_of, yields_held, told}

none_of : (b : Bool) → (b ≡ true → ⊥) → b ≡ false
none_of true h = absurd (h refl)
none_of false h = refl

-- ---- a task that begins

entry_row : (es : List (ObjectId × Rights)) (o : ℕ) → has_row o (map without_content es) ≡ has_entry o es
entry_row [] o = refl
entry_row (x ∷ es) o = ap (λ b. if nat_eq x.0.0 o then true else b) (entry_row es o)

either_none : (b : Bool) (x : Option Held) → x ≡ None → (if b then None else x) ≡ None
either_none true x h = refl
either_none false x h = h

pub nothing_held : (es : List (ObjectId × Rights)) (o : ℕ) → contents_of (map without_content es) o ≡ None
nothing_held [] o = refl
nothing_held (x ∷ es) o = either_none (nat_eq x.0.0 o) (contents_of (map without_content es) o) (nothing_held es o)

all_long : (rs : List Row) → length (all_due rs) ≡ length rs
all_long [] = refl
all_long (r ∷ rs) = ap suc (all_long rs)

pub all_marked : (rs : List Row) → replicate (length rs) true ≡ all_due rs
all_marked [] = refl
all_marked (r ∷ rs) = ap (λ ds. true ∷ ds) (all_marked rs)

pub rows_long : (es : List (ObjectId × Rights)) → length (map without_content es) ≡ length es
rows_long [] = refl
rows_long (x ∷ es) = ap suc (rows_long es)

pub fresh_kept : (e : Execution) (ds : List Bool) (part : ℕ) → IsFresh e → ds ≡ all_due e.rows → part ≡ e.stage.left
    → IsKept (asking e ds phase.Starting part None 0 0 0)
fresh_kept e ds part f is whole =
    let nothing : (o : ℕ) → held_by e o ≡ None = λ o. ap (λ rs. contents_of rs o) f.rows ∙ nothing_held e.stage.spec.entries o in
    record {
      order = record {
        long = ap length is ∙ all_long e.rows;
        agrees = λ o x h. absurd (none-some x (sym (nothing o) ∙ h));
        free = λ o d. nothing o;
        steps = omega (arith, whole);
      };
      rows = record { row = λ o h. ap (has_row o) f.rows ∙ entry_row e.stage.spec.entries o ∙ h };
      objects = f.objects;
      small = f.small;
      knows = tt;
      asked = tt;
    }

-- ---- a content is supplied or surrendered

module _ (e : Execution) (ds : List Bool) (part o : ℕ) (there : has_row o e.rows ≡ true) where
  pub held_with : (h : Option Held) (j : ℕ) → contents_of (with_content o h e.rows) j ≡ (if nat_eq j o then h else held_by e j)
  held_with h j = content_is o h e.rows j there

  rows_with : (h : Option Held) → HasRows e.stage.spec.entries e.rows → HasRows e.stage.spec.entries (with_content o h e.rows)
  rows_with h rows = record { row = λ j q. objects_same o h e.rows j ∙ rows.row j q }

  abbrev given : Held → Machine → Machine
  given x m = supplied o x m

  no_more : (b d : Bool) → (if b then false else d) ≡ true → (b ≡ false) × (d ≡ true)
  no_more true d h = absurd (true≢false (sym h))
  no_more false d h = (refl, h)

  pub order_supplied : (p : Phase) (x : Held) → IsOrdered (machine e ds p part) → mode_of (rights_on (rights_at e.stage) o) ≡ Some x.mode
      → IsOrdered (supplied o x (machine e ds p part))
  order_supplied p x g mode = record {
    long = mark_long o false e.rows ds ∙ g.long ∙ sym (rows_still_long o (Some x) e.rows);
    agrees = λ j y h. agree j y (cases_eq j o) h;
    free = λ j d. free j (no_more (nat_eq j o) (due_in e.rows ds j) (sym (ap (λ (f : Due). f j) (due_but e.rows o there (Some x) ds g.long)) ∙ d));
    steps = g.steps;
  }
    where
      agree : (j : ℕ) (y : Held) → (j ≡ o) ⊎ (j ≡ o → ⊥) → contents_of (with_content o (Some x) e.rows) j ≡ Some y
          → mode_of (rights_on (rights_at e.stage) j) ≡ Some y.mode
      agree j y (inl q) h =
          let same : x ≡ y = same_Some x y (sym (ap (λ b. if b then Some x else held_by e j) (eq-eqb j o q)) ∙ sym (held_with (Some x) j) ∙ h) in
          ap (λ i. mode_of (rights_on (rights_at e.stage) i)) q ∙ mode ∙ ap (λ (z : Held). Some z.mode) same
      agree j y (inr n) h = g.agrees j y (sym (ap (λ b. if b then Some x else held_by e j) (ne_eqb j o n)) ∙ sym (held_with (Some x) j) ∙ h)

      free : (j : ℕ) → (nat_eq j o ≡ false) × (due_in e.rows ds j ≡ true) → contents_of (with_content o (Some x) e.rows) j ≡ None
      free j q = held_with (Some x) j ∙ ap (λ b. if b then Some x else held_by e j) q.0 ∙ g.free j q.1

  still_none : (x : Held) (p : Phase) → IsOrdered (machine e ds p part) → NoDue (machine e ds p part) → NoDue (supplied o x (machine e ds p part))
  still_none x p g none j = ap (λ (f : Due). f j) (due_but e.rows o there (Some x) ds g.long) ∙ both (nat_eq j o)
    where
      both : (b : Bool) → (if b then false else due_in e.rows ds j) ≡ false
      both true = refl
      both false = none j

  pub knows_supplied : (p : Phase) (x : Held) → IsOrdered (machine e ds p part) → Knows p (machine e ds p part) → Knows p (supplied o x (machine e ds p part))
  knows_supplied phase.Starting x g k = tt
  knows_supplied phase.Taking x g k = tt
  knows_supplied phase.Going x g k = still_none x phase.Going g k
  knows_supplied (phase.Creating number) x g k = (still_none x (phase.Creating number) g k.0, k.1, k.2)
  knows_supplied phase.Changing x g k = k
  knows_supplied (phase.Ending b) x g k = (still_none x (phase.Ending b) g k.0, k.1)

  less_held : (p : Phase) → IsOrdered (machine e ds p part) → (j : ℕ) (y : Held) → contents_of (with_content o None e.rows) j ≡ Some y
      → mode_of (rights_on (rights_at e.stage) j) ≡ Some y.mode
  less_held p g j y h = at (nat_eq j o) (sym (held_with None j) ∙ h)
    where
      at : (b : Bool) → (if b then None else held_by e j) ≡ Some y → mode_of (rights_on (rights_at e.stage) j) ≡ Some y.mode
      at true q = absurd (none-some y q)
      at false q = g.agrees j y q

  none_after : (j : ℕ) → (nat_eq j o ≡ true) ⊎ (held_by e j ≡ None) → contents_of (with_content o None e.rows) j ≡ None
  none_after j (inl q) = held_with None j ∙ ap (λ b. if b then None else held_by e j) q
  none_after j (inr q) = held_with None j ∙ both (nat_eq j o) (held_by e j) q
    where
      both : (b : Bool) (h : Option Held) → h ≡ None → (if b then None else h) ≡ None
      both true h q = refl
      both false h q = q

  same_marks : (p : Phase) → marks_after p o e.rows ds ≡ ds → IsOrdered (machine e ds p part) → IsOrdered (surrendered o (machine e ds p part))
  same_marks p is g = record {
    long = ap length is ∙ g.long ∙ sym (rows_still_long o None e.rows);
    agrees = less_held p g;
    free = λ j d. none_after j (inr (g.free j (sym (ap (λ xs. due_in (with_content o None e.rows) xs j) is ∙ due_same o None e.rows ds j) ∙ d)));
    steps = g.steps;
  }

  pub order_surrendered : (p : Phase) → IsOrdered (machine e ds p part) → IsOrdered (surrendered o (machine e ds p part))
  order_surrendered phase.Starting g = same_marks phase.Starting refl g
  order_surrendered phase.Taking g = same_marks phase.Taking refl g
  order_surrendered phase.Going g = same_marks phase.Going refl g
  order_surrendered (phase.Creating number) g = same_marks (phase.Creating number) refl g
  order_surrendered (phase.Ending b) g = same_marks (phase.Ending b) refl g
  order_surrendered phase.Changing g = record {
    long = mark_long o true e.rows ds ∙ g.long ∙ sym (rows_still_long o None e.rows);
    agrees = less_held phase.Changing g;
    free = λ j d. none_after j (either j (nat_eq j o) refl (sym (ap (λ (f : Due). f j) (due_also e.rows o there None ds g.long)) ∙ d));
    steps = g.steps;
  }
    where
      either : (j : ℕ) (b : Bool) → nat_eq j o ≡ b → (if nat_eq j o then true else due_in e.rows ds j) ≡ true → (nat_eq j o ≡ true) ⊎ (held_by e j ≡ None)
      either j true q h = inl q
      either j false q h = inr (g.free j (sym (ap (λ b. if b then true else due_in e.rows ds j) q) ∙ h))

  pub knows_surrendered : (p : Phase) → Knows p (machine e ds p part) → Knows p (surrendered o (machine e ds p part))
  knows_surrendered phase.Starting k = tt
  knows_surrendered phase.Taking k = tt
  knows_surrendered phase.Going k = λ j. due_same o None e.rows ds j ∙ k j
  knows_surrendered (phase.Creating number) k = (λ j. due_same o None e.rows ds j ∙ k.0 j, k.1, k.2)
  knows_surrendered phase.Changing k = k
  knows_surrendered (phase.Ending b) k = (λ j. due_same o None e.rows ds j ∙ k.0 j, k.1)

  pub rows_supplied : (h : Option Held) → HasRows e.stage.spec.entries e.rows → HasRows e.stage.spec.entries (with_content o h e.rows)
  rows_supplied h rows = rows_with h rows

-- ---- what an ask says

held_there : (h : Option Held) → is_some h ≡ true → (x : Held) × (h ≡ Some x)
held_there None q = absurd (true≢false (sym q))
held_there (Some x) q = (x, refl)

module _ (e : Execution) (ds : List Bool) (part : ℕ) where
  -- what is given up is held, and is given up next
  pub give_stands : (p : Phase) (o : ℕ) → IsOrdered (machine e ds p part) → Knows p (machine e ds p part) → gives_up p ≡ true
      → IsNext p (machine e ds p part) o → (is_some (held_by e o) ≡ true) × GiveIsNext o p (machine e ds p part)
  give_stands phase.Starting o g k t next = absurd (true≢false (sym t))
  give_stands phase.Taking o g k t next = absurd (true≢false (sym t))
  give_stands phase.Going o g k t next = absurd (true≢false (sym t))
  give_stands (phase.Creating number) o g k t next =
      let m = machine e ds (phase.Creating number) part in (
        held_inside m g o (yields_held m g (held (holds_at e) o) (rights_on (made_at e) o) next.here),
        give_for_child m g number o k.0 k.1 (subst (λ n. IsLeast (for_child (made_at e) (holds_at e)) n o) (sym (made_long m g)) next),
      )
  give_stands phase.Changing o g k t next =
      let m = machine e ds phase.Changing part in (
        held_inside m g o (first_of m g (is_some (held (holds_at e) o)) _ next.here),
        give_for_change m g o (subst (λ n. IsLeast (given_back (amended_at e) (holds_at e)) n o) (sym (new_long m g)) next),
      )
  give_stands (phase.Ending b) o g k t next =
      let m = machine e ds (phase.Ending b) part in (
        held_inside m g o next.here,
        give_at_end m g b o k.0 k.1 (subst (λ n. IsLeast (is_held (holds_at e)) n o) (sym (spec_long m g)) next),
      )

  pub all_enter : (made : Specification) → enters made ≡ enters_from 0 made
  all_enter made =
      let z : length made ≡ length made - 0 = omega arith in
      ap (λ n. flat_map (λ o. when (has_rights (rights_on made o)) (Enter o (rights_on made o))) (numbers 0 n)) z

  pub all_leave : (spec : Specification) → end_leaves spec ≡ leaves_from 0 spec
  all_leave spec =
      let z : length spec ≡ length spec - 0 = omega arith in
      ap (λ n. flat_map (λ o. when (has_rights (rights_on spec o)) (Leave o)) (numbers 0 n)) z

  pub all_shift : (old new : Specification) → shifts old new ≡ shifts_from 0 old new
  all_shift old new =
      let z : length new ≡ length new - 0 = omega arith in
      ap (λ n. flat_map (λ o. shift (rights_on old o) (rights_on new o) o) (numbers 0 n)) z

  -- the creator after the creation
  pub created_order : (number : ℕ) → IsOrdered (machine e ds (phase.Creating number) part) → IsOrdered (created (machine e ds (phase.Creating number) part))
  created_order number g = record { long = g.long; agrees = g.agrees; free = g.free; steps = omega arith }

  pub create_stands : (p : Phase) → IsOrdered (machine e ds p part) → Knows p (machine e ds p part) → p ≡ phase.Creating (number_of p)
      → NoneIsNext p (machine e ds p part) → (vs : List ℤ) → left_in p (machine e ds p part) vs
      ≡ enters_from 0 (made_at e) ++ Enroll (child_task (number_of p) e) (part - e.stage.left) ∷ left (created (machine e ds p part)) vs
  create_stands phase.Starting g k is none vs = cc
  create_stands phase.Taking g k is none vs = cc
  create_stands phase.Going g k is none vs = cc
  create_stands phase.Changing g k is none vs = cc
  create_stands (phase.Ending b) g k is none vs = cc
  create_stands (phase.Creating number) g k is none vs =
      let m = machine e ds (phase.Creating number) part in
      let n = created m in
      let zero_steps : 0 ≡ e.stage.left - e.stage.left = omega arith in
      creation_next m g number k.0 k.1 (subst (IsNone (for_child (made_at e) (holds_at e))) (sym (made_long m g)) none) vs
      ∙ ap₂ (λ es t. es ++ Enroll (child_task number e) (part - e.stage.left) ∷ events (course_at n.execution) (rights_at e.stage) (holds_at e) t vs)
      (all_enter (made_at e)) zero_steps
      ∙ ap (λ es. enters_from 0 (made_at e) ++ Enroll (child_task number e) (part - e.stage.left) ∷ es)
      (sym (told n (created_order number g) k.0 (course_at n.execution) vs))

  pub end_stands : (p : Phase) (b : Option Blame) → IsOrdered (machine e ds p part) → Knows p (machine e ds p part) → p ≡ phase.Ending b
      → NoneIsNext p (machine e ds p part) → (vs : List ℤ) → left_in p (machine e ds p part) vs
      ≡ leaves_from 0 (rights_at e.stage) ++ Resign b (part - e.stage.left) ∷ []
  end_stands phase.Starting b g k is none vs = cc
  end_stands phase.Taking b g k is none vs = cc
  end_stands phase.Going b g k is none vs = cc
  end_stands phase.Changing b g k is none vs = cc
  end_stands (phase.Creating number) b g k is none vs = cc
  end_stands (phase.Ending d) b g k is none vs =
      let m = machine e ds (phase.Ending d) part in
      let same : d ≡ b = cc in
      end_next m g d k.0 k.1 (subst (IsNone (is_held (holds_at e))) (sym (spec_long m g)) none) vs
      ∙ ap₂ (λ es x. es ++ Resign x (part - e.stage.left) ∷ []) (all_leave (rights_at e.stage)) same

-- ---- another mark

row_past : (o n : ℕ) (rs : List Row) (p : ℕ) → row_from o n rs ≡ Some p → n ≤ p
row_past o n [] p h = absurd (none-some p h)
row_past o n (r ∷ rs) p h = go (λ q. row_past o (suc n) rs p q) (cases_eq r.object.0 o)
  where
    go : (row_from o (suc n) rs ≡ Some p → suc n ≤ p) → (r.object.0 ≡ o) ⊎ (r.object.0 ≡ o → ⊥) → n ≤ p
    go more (inl e) =
        let same : n ≡ p = same_Some n p (sym (ap (λ b. if b then Some n else row_from o (suc n) rs) (eq-eqb r.object.0 o e)) ∙ h) in
        omega (arith, same)
    go more (inr ne) =
        let le = more (sym (ap (λ b. if b then Some n else row_from o (suc n) rs) (ne_eqb r.object.0 o ne)) ∙ h) in omega (arith, le)

pub mark_none : (o : ℕ) (b : Bool) (n : ℕ) (rs : List Row) (ds : List Bool) → row_from o n rs ≡ None → with_mark o b rs ds ≡ ds
mark_none o b n [] ds h = refl
mark_none o b n (r ∷ rs) [] h = refl
mark_none o b n (r ∷ rs) (d ∷ ds) h = go (λ q. mark_none o b (suc n) rs ds q) (cases_eq r.object.0 o)
  where
    go : (row_from o (suc n) rs ≡ None → with_mark o b rs ds ≡ ds) → (r.object.0 ≡ o) ⊎ (r.object.0 ≡ o → ⊥)
        → (if nat_eq r.object.0 o then b ∷ ds else d ∷ with_mark o b rs ds) ≡ d ∷ ds
    go more (inl e) = absurd (none-some n (sym h ∙ ap (λ b. if b then Some n else row_from o (suc n) rs) (eq-eqb r.object.0 o e)))
    go more (inr ne) =
        ap (λ t. if t then b ∷ ds else d ∷ with_mark o b rs ds) (ne_eqb r.object.0 o ne)
        ∙ ap (λ l. d ∷ l) (more (sym (ap (λ b. if b then Some n else row_from o (suc n) rs) (ne_eqb r.object.0 o ne)) ∙ h))

pub mark_some : (o : ℕ) (b : Bool) (n : ℕ) (rs : List Row) (ds : List Bool) (p k : ℕ) → row_from o n rs ≡ Some p → p ≡ n + k
    → with_mark o b rs ds ≡ slice_set ds k b
mark_some o b n [] ds p k h at = absurd (none-some p h)
mark_some o b n (r ∷ rs) [] p k h at = refl
mark_some o b n (r ∷ rs) (d ∷ ds) p k h at = go k at (λ j q q'. mark_some o b (suc n) rs ds p j q q') (cases_eq r.object.0 o)
  where
    go : (k : ℕ) → p ≡ n + k → ((j : ℕ) → row_from o (suc n) rs ≡ Some p → p ≡ suc n + j → with_mark o b rs ds ≡ slice_set ds j b)
        → (r.object.0 ≡ o) ⊎ (r.object.0 ≡ o → ⊥) → (if nat_eq r.object.0 o then b ∷ ds else d ∷ with_mark o b rs ds) ≡ slice_set (d ∷ ds) k b
    go zero at more (inl e) = ap (λ t. if t then b ∷ ds else d ∷ with_mark o b rs ds) (eq-eqb r.object.0 o e)
    go (suc k) at more (inl e) =
        let same : n ≡ p = same_Some n p (sym (ap (λ b. if b then Some n else row_from o (suc n) rs) (eq-eqb r.object.0 o e)) ∙ h) in
        absurd (omega (arith, same, at))
    go zero at more (inr ne) =
        let le = row_past o (suc n) rs p (sym (ap (λ b. if b then Some n else row_from o (suc n) rs) (ne_eqb r.object.0 o ne)) ∙ h) in
        absurd (omega (arith, le, at))
    go (suc k) at more (inr ne) =
        ap (λ t. if t then b ∷ ds else d ∷ with_mark o b rs ds) (ne_eqb r.object.0 o ne)
        ∙ ap (λ l. d ∷ l) (more k (sym (ap (λ b. if b then Some n else row_from o (suc n) rs) (ne_eqb r.object.0 o ne)) ∙ h) (omega (arith, at)))

pub set_short : (ds : List Bool) (k : ℕ) (b : Bool) → length ds ≤ k → slice_set ds k b ≡ ds
set_short [] k b le = refl
set_short (d ∷ ds) zero b le = absurd (omega (arith, le))
set_short (d ∷ ds) (suc k) b le = ap (λ l. d ∷ l) (set_short ds k b (omega (arith, le)))

-- ---- the calls

-- the ask says which content is supplied
pub asked_is : (a : Asking) (k : Ask) → IsKept a → a.ask ≡ Some k → Asked k a.at.phase a.at
asked_is a k kept is = subst (λ x. AskedIf x a.at.phase a.at) is kept.asked

pub supply_kept : (e : Execution) (ds : List Bool) (p : Phase) (part : ℕ) (k : Option Ask) (n c t : ℕ) (o : ObjectId) (x : Held)
    (f : Execution) (es : List Bool) → IsKept (asking e ds p part k n c t) → k ≡ Some (ask.Take o x.mode) → es ≡ with_mark o.0 false e.rows ds
    → f ≡ record e { rows = with_content o.0 (Some x) e.rows } → IsKept (asking f es p part None n c t)
supply_kept e ds p part k n c t o x f es kept is marks rows =
    let a = asked_is (asking e ds p part k n c t) (ask.Take o x.mode) kept is in
    subst (λ y. IsKept (asking y es p part None n c t)) (sym rows)
    (subst (λ ms. IsKept (asking (record e { rows = with_content o.0 (Some x) e.rows }) ms p part None n c t)) (sym marks) (record {
      order = order_supplied e ds part o.0 a.there p x kept.order a.mode_is;
      rows = rows_supplied e ds part o.0 a.there (Some x) kept.rows;
      objects = kept.objects;
      small = kept.small;
      knows = knows_supplied e ds part o.0 a.there p x kept.order kept.knows;
      asked = tt;
    }))

pub supply_held : (e : Execution) (ds : List Bool) (p : Phase) (part : ℕ) (k : Option Ask) (n c t : ℕ) (o : ObjectId) (x : Held)
    → IsKept (asking e ds p part k n c t) → k ≡ Some (ask.Take o x.mode)
    → (j : ℕ) → contents_of (with_content o.0 (Some x) e.rows) j ≡ (if nat_eq j o.0 then Some x else held_by e j)
supply_held e ds p part k n c t o x kept is j =
    held_with e ds part o.0 (asked_is (asking e ds p part k n c t) (ask.Take o x.mode) kept is).there (Some x) j

module _ (e : Execution) (ds : List Bool) (p : Phase) (part : ℕ) (k : Option Ask) (n c t : ℕ) (o : ObjectId) (kept : IsKept (asking e ds p part k n c t))
    (is : k ≡ Some (ask.GiveBack o)) where
  abbrev why : (gives_up p ≡ true) × IsNext p (machine e ds p part) o.0
  why = asked_is (asking e ds p part k n c t) (ask.GiveBack o) kept is

  pub give_held : is_some (held_by e o.0) ≡ true
  give_held = (give_stands e ds part p o.0 kept.order kept.knows why.0 why.1).0

  pub give_row : has_row o.0 e.rows ≡ true
  give_row = has_its_row (machine e ds p part) kept.order o.0 give_held

  pub surrender_kept : (f : Execution) (es : List Bool) → es ≡ marks_after p o.0 e.rows ds → f ≡ record e { rows = with_content o.0 None e.rows }
      → IsKept (asking f es p part None n c t)
  surrender_kept f es marks rows =
      subst (λ y. IsKept (asking y es p part None n c t)) (sym rows)
      (subst (λ ms. IsKept (asking (record e { rows = with_content o.0 None e.rows }) ms p part None n c t)) (sym marks) (record {
        order = order_surrendered e ds part o.0 give_row p kept.order;
        rows = rows_supplied e ds part o.0 give_row None kept.rows;
        objects = kept.objects;
        small = kept.small;
        knows = knows_surrendered e ds part o.0 give_row p kept.knows;
        asked = tt;
      }))

  pub surrender_held : (j : ℕ) → contents_of (with_content o.0 None e.rows) j ≡ (if nat_eq j o.0 then None else held_by e j)
  surrender_held j = held_with e ds part o.0 give_row None j

-- a content that was surrendered comes back
content_back : (o : ℕ) (x : Held) (rs : List Row) → contents_of rs o ≡ Some x → with_content o (Some x) (with_content o None rs) ≡ rs
content_back o x [] h = refl
content_back o x (r ∷ rs) h = go (λ q. content_back o x rs q) (cases_eq r.object.0 o)
  where
    go : (contents_of rs o ≡ Some x → with_content o (Some x) (with_content o None rs) ≡ rs) → (r.object.0 ≡ o) ⊎ (r.object.0 ≡ o → ⊥)
        → with_content o (Some x) (if nat_eq r.object.0 o then record r { content = None } ∷ rs else r ∷ with_content o None rs) ≡ r ∷ rs
    go more (inl q) =
        ap (λ b. with_content o (Some x) (if b then record r { content = None } ∷ rs else r ∷ with_content o None rs)) (eq-eqb r.object.0 o q)
        ∙ ap (λ b. if b then record r { content = Some x } ∷ rs else record r { content = None } ∷ with_content o (Some x) rs) (eq-eqb r.object.0 o q)
        ∙ ap (λ c. record r { content = c } ∷ rs) (sym (sym (ap (λ b. if b then r.content else contents_of rs o) (eq-eqb r.object.0 o q)) ∙ h))
    go more (inr ne) =
        ap (λ b. with_content o (Some x) (if b then record r { content = None } ∷ rs else r ∷ with_content o None rs)) (ne_eqb r.object.0 o ne)
        ∙ ap (λ b. if b then record r { content = Some x } ∷ with_content o None rs else r ∷ with_content o (Some x) (with_content o None rs))
        (ne_eqb r.object.0 o ne)
        ∙ ap (λ l. r ∷ l) (more (sym (ap (λ b. if b then r.content else contents_of rs o) (ne_eqb r.object.0 o ne)) ∙ h))

mark_rows : (o : ℕ) (b : Bool) (h : Option Held) (rs : List Row) (ds : List Bool) → with_mark o b (with_content o h rs) ds ≡ with_mark o b rs ds
mark_rows o b h [] ds = refl
mark_rows o b h (r ∷ rs) [] = at (nat_eq r.object.0 o)
  where
    at : (t : Bool) → with_mark o b (if t then record r { content = h } ∷ rs else r ∷ with_content o h rs) [] ≡ []
    at true = refl
    at false = refl
mark_rows o b h (r ∷ rs) (d ∷ ds) = go (mark_rows o b h rs ds) (cases_eq r.object.0 o)
  where
    go : with_mark o b (with_content o h rs) ds ≡ with_mark o b rs ds → (r.object.0 ≡ o) ⊎ (r.object.0 ≡ o → ⊥)
        → with_mark o b (if nat_eq r.object.0 o then record r { content = h } ∷ rs else r ∷ with_content o h rs) (d ∷ ds)
        ≡ (if nat_eq r.object.0 o then b ∷ ds else d ∷ with_mark o b rs ds)
    go more (inl q) = rw (eq-eqb r.object.0 o q) (rw (eq-eqb r.object.0 o q) refl)
    go more (inr ne) = rw (ne_eqb r.object.0 o ne) (rw (ne_eqb r.object.0 o ne) (ap (λ l. d ∷ l) more))

pub mark_back : (o : ℕ) (rs : List Row) (ds : List Bool) → due_in rs ds o ≡ false → with_mark o false rs ds ≡ ds
mark_back o [] ds h = refl
mark_back o (r ∷ rs) [] h = refl
mark_back o (r ∷ rs) (d ∷ ds) h = at (λ q. mark_back o rs ds q) (nat_eq r.object.0 o) h
  where
    at : (due_in rs ds o ≡ false → with_mark o false rs ds ≡ ds) → (t : Bool) → (if t then d else due_in rs ds o) ≡ false
        → (if t then false ∷ ds else d ∷ with_mark o false rs ds) ≡ d ∷ ds
    at more true h = ap (λ x. x ∷ ds) (sym h)
    at more false h = ap (λ l. d ∷ l) (more h)

mark_over : (o : ℕ) (rs : List Row) (ds : List Bool) → with_mark o false rs (with_mark o true rs ds) ≡ with_mark o false rs ds
mark_over o [] ds = refl
mark_over o (r ∷ rs) [] = refl
mark_over o (r ∷ rs) (d ∷ ds) = at (nat_eq r.object.0 o) refl (mark_over o rs ds)
  where
    at : (t : Bool) → nat_eq r.object.0 o ≡ t → with_mark o false rs (with_mark o true rs ds) ≡ with_mark o false rs ds
        → with_mark o false (r ∷ rs) (if t then true ∷ ds else d ∷ with_mark o true rs ds) ≡ (if t then false ∷ ds else d ∷ with_mark o false rs ds)
    at true q more = ap (λ b. if b then false ∷ ds else true ∷ with_mark o false rs ds) q
    at false q more =
        ap (λ b. if b then false ∷ with_mark o true rs ds else d ∷ with_mark o false rs (with_mark o true rs ds)) q ∙ ap (λ l. d ∷ l) more

marks_back : (p : Phase) (o : ℕ) (rs : List Row) (ds : List Bool) → due_in rs ds o ≡ false → with_mark o false rs (marks_after p o rs ds) ≡ ds
marks_back phase.Starting o rs ds h = mark_back o rs ds h
marks_back phase.Taking o rs ds h = mark_back o rs ds h
marks_back phase.Going o rs ds h = mark_back o rs ds h
marks_back (phase.Creating number) o rs ds h = mark_back o rs ds h
marks_back phase.Changing o rs ds h = mark_over o rs ds ∙ mark_back o rs ds h
marks_back (phase.Ending b) o rs ds h = mark_back o rs ds h

module _ (o : ObjectId) (x : Held) (before : Asking) where
  abbrev IsBack : Asking → Type 0
  IsBack a =
      (f : Execution) (es : List Bool) → es ≡ with_mark o.0 false a.at.execution.rows a.at.due
      → f ≡ record a.at.execution { rows = with_content o.0 (Some x) a.at.execution.rows }
      → asking f es a.at.phase a.at.part (Some (ask.GiveBack o)) a.asks a.children a.touched ≡ before

  not_due : IsKept before → held_by before.at.execution o.0 ≡ Some x → due_at before.at o.0 ≡ false
  not_due kept h = none_of (due_at before.at o.0) (λ d. none-some x (sym (kept.order.free o.0 d) ∙ h))

  pub restored : (after : Asking) → IsSurrendered o x before after → IsBack after
  restored after s = subst IsBack (sym s.after_it) (λ f es marks rows.
      let e = before.at.execution in
      let back : f ≡ e = rows ∙ ap (λ rs. record e { rows = rs }) (content_back o.0 x e.rows s.held) in
      let due : es ≡ before.at.due =
      marks ∙ mark_rows o.0 false None e.rows (marks_after before.at.phase o.0 e.rows before.at.due)
      ∙ marks_back before.at.phase o.0 e.rows before.at.due (not_due s.is_kept s.held) in
      ap₂ (λ y ms. asking y ms before.at.phase before.at.part (Some (ask.GiveBack o)) before.asks before.children before.touched) back due
      ∙ ap (λ k. asking e before.at.due before.at.phase before.at.part k before.asks before.children before.touched) (sym s.asked))

creating_due : (p : Phase) (e : Execution) (ds : List Bool) (part : ℕ) → p ≡ phase.Creating (number_of p) → Knows p (machine e ds p part)
    → NoDue (machine e ds phase.Going e.stage.left)
creating_due phase.Starting e ds part is k o = cc
creating_due phase.Taking e ds part is k o = cc
creating_due phase.Going e ds part is k o = cc
creating_due phase.Changing e ds part is k o = cc
creating_due (phase.Ending b) e ds part is k o = cc
creating_due (phase.Creating number) e ds part is k o = k.0 o

pub create_kept : (e : Execution) (ds : List Bool) (p : Phase) (part : ℕ) (k : Option Ask) (n c t c' part' : ℕ) (f : Execution)
    → IsKept (asking e ds p part k n c t) → k ≡ Some ask.Create → f ≡ record e { stage = moved_on section.Absent e.stage.spec (settled []) e.stage }
    → part' ≡ f.stage.left → IsKept (asking f ds phase.Going part' None n c' t)
create_kept e ds p part k n c t c' part' f kept is moved steps =
    let a = asked_is (asking e ds p part k n c t) ask.Create kept is in
    let g = kept.order in
    let next : Execution = record e { stage = moved_on section.Absent e.stage.spec (settled []) e.stage } in
    let steps' : part' ≡ e.stage.left = steps ∙ ap (λ (y : Execution). y.stage.left) moved in
    subst (λ y. IsKept (asking y ds phase.Going part' None n c' t)) (sym moved)
    (subst (λ l. IsKept (asking next ds phase.Going l None n c' t)) (sym steps') (record {
      order = record { long = g.long; agrees = g.agrees; free = g.free; steps = omega arith };
      rows = kept.rows;
      objects = kept.objects;
      small = kept.small;
      knows = creating_due p e ds part a.0 kept.knows;
      asked = tt;
    }))

-- what an ask says
pub stands_now : (a : Asking) (k : Ask) → IsKept a → a.ask ≡ Some k
    → ((p : Phase) → p ≡ phase.Changing → NoneIsNext p a.at → IsOrdered (record a.at { phase = p }) → (vs : List ℤ)
    → left_in p (record a.at { phase = p }) vs
    ≡ shifts_from 0 (rights_at a.at.execution.stage) (amended_at a.at.execution) ++ left (changed (record a.at { phase = p })) vs) → Stands k a
stands_now a (ask.Take o mode) kept is change =
    let w = asked_is a (ask.Take o mode) kept is in (w.within, λ x same vs. w.next x same vs)
stands_now a (ask.GiveBack o) kept is change =
    let e = a.at.execution in
    let w = asked_is a (ask.GiveBack o) kept is in
    let s = give_stands e a.at.due a.at.part a.at.phase o.0 kept.order kept.knows w.0 w.1 in (w.1.within, held_there (held_by e o.0) s.0, s.1)
stands_now a ask.Create kept is change =
    let w = asked_is a ask.Create kept is in create_stands a.at.execution a.at.due a.at.part a.at.phase kept.order kept.knows w.0 w.1
stands_now a ask.Change kept is change = let w = asked_is a ask.Change kept is in change a.at.phase w.0 w.1 kept.order
stands_now a ask.End kept is change =
    let w = asked_is a ask.End kept is in end_stands a.at.execution a.at.due a.at.part a.at.phase None kept.order kept.knows w.0 w.1
stands_now a (ask.Fault b) kept is change =
    let w = asked_is a (ask.Fault b) kept is in end_stands a.at.execution a.at.due a.at.part a.at.phase (Some b) kept.order kept.knows w.0 w.1

pub begins_as : (e : Execution) (t : Task) (a : Asking) → a ≡ record { at = begun e; ask = None; asks = 0; children = 0; touched = 0 }
    → ((vs : List ℤ) → left_in phase.Starting (begun e) vs ≡ talk t vs) → ((o : ℕ) → held_by e o ≡ None) → BeginsAs t a
begins_as e t a is tells none = subst (BeginsAs t) (sym is) (record { talk = tells; holds = none; ask = refl; asks = refl; children = refl })
