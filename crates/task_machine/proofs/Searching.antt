-- The first of ascending objects for which a test holds is the least of all.
use Rattle.std.proofs.Common.{◌≡◌, ℕ, zero, suc, ◌+◌, ◌-◌, ◌<◌, ◌≤◌, ◌⊎◌, inl, inr, List, [], ◌∷◌, map, length, Bool, true, false, Option, Some, None}
use Rattle.std.proofs.Common.{refl, sym, ap, ◌∙◌, subst, arith}
use Rattle.std.specs.Prelude.{slice_get, slice_index_or, nat_eq, is_some, not, ◌&&◌, if◌then◌else◌}
use Rattle.std.proofs.lemmas.Bool.{cases_eq, eq-eqb, ne_eqb, true≢false}
use Rattle.std.proofs.lemmas.Option.{none-some, same_Some}
use Rattle.jade_base.specs.declared.place.ObjectId.{ObjectId}
use Rattle.jade_base.specs.declared.rights.Rights.{Rights}
use Rattle.jade_base.specs.declared.rights.Mode.{Mode}
use Rattle.jade_base.specs.declared.rights.Mode.TheVariants.{Reading, Writing, Commuting}
use Rattle.jade_base.specs.Rights.{no_rights, mode_of, gives_way}
use Rattle.jade_base.specs.Specification.{AllAbove, IsAscending, rights_in}
use Rattle.jade_meaning.specs.Specification.{rights_on, yields, commuting_on}
use Rattle.jade_meaning.specs.Talk.{held}
use Rattle.task_machine.specs.declared.holdings.Row.{Row}
use Rattle.task_machine.specs.declared.next.Phase.{Phase}
use Rattle.task_machine.specs.declared.next.Phase.TheVariants as phase
use Rattle.task_machine.specs.Stages.{id, rights_at}
use Rattle.task_machine.specs.Executions.{Execution, held_by, has_row, objects_in}
use Rattle.task_machine.specs.Telling.{mode_held}
use Rattle.task_machine.specs.Left.{IsLeast, IsNone, is_own}
use Rattle.task_machine.specs.Machines.{due_in, holds_at, made_at, candidates, is_to_move}
use Rattle.task_machine.specs.steps.Holding.{RowsAbove, RowsAscend, row_from}
use Rattle.task_machine.specs.steps.Searching.{ObjectsAbove, ObjectsAscend, has_object, Tested}
use Rattle.task_machine.proofs.Tables.{table_past, table_at}
use Rattle.task_machine.proofs.Marks.{no_content, no_mark, hold_at, hold_past}

module _ (test : ℕ → Bool) where
  above_fails : (n : ℕ) (xs : List ObjectId) (j : ℕ) → ObjectsAbove n xs → j < suc n → has_object j xs ≡ false
  above_fails n [] j a le = refl
  above_fails n (x ∷ xs) j a le = rw (ne_eqb x.0 j (λ q. let far = a.0 in omega (arith, far, le, q))) (above_fails n xs j a.1 le)

  shifted : (x : ObjectId) (xs : List ObjectId) (p : ℕ) → Tested test (x ∷ xs) (suc p) → Tested test xs p
  shifted x xs p t i y lt h = t (suc i) y (omega (arith, lt)) h

  -- below the object that is found, the test fails for those that are among them
  below_fails : (xs : List ObjectId) (p : ℕ) (o : ObjectId) → ObjectsAscend xs → slice_get xs p ≡ Some o → Tested test xs p → (j : ℕ) → j < o.0
      → has_object j xs ≡ true → test j ≡ false
  below_fails [] p o a h t j lt there = absurd (true≢false (sym there))
  below_fails (x ∷ xs) zero o a h t j lt there =
      let e = ap (λ (y : ObjectId). y.0) (same_Some x o h) in
      absurd (true≢false (sym there ∙ above_fails_here x xs j a.0 (omega (arith, lt, e))))
    where
      above_fails_here : (x : ObjectId) (xs : List ObjectId) (j : ℕ) → ObjectsAbove x.0 xs → j < x.0 → (if nat_eq x.0 j then true else has_object j xs) ≡ false
      above_fails_here x xs j b lt = rw (ne_eqb x.0 j (λ q. omega (arith, lt, q))) (above_fails x.0 xs j b (omega (arith, lt)))
  below_fails (x ∷ xs) (suc p) o a h t j lt there = go (λ q. below_fails xs p o a.1 h (shifted x xs p t) j lt q) (cases_eq x.0 j)
    where
      go : (has_object j xs ≡ true → test j ≡ false) → (x.0 ≡ j) ⊎ (x.0 ≡ j → ⊥) → test j ≡ false
      go more (inl e) = subst (λ k. test k ≡ false) e (t 0 x (omega arith) refl)
      go more (inr ne) = let there' : has_object j xs ≡ true = rw (ne_eqb x.0 j ne) at there in more there'

  either_way : (j : ℕ) (xs : List ObjectId) → (test j ≡ true → has_object j xs ≡ true) → (has_object j xs ≡ true → test j ≡ false) → test j ≡ false
  either_way j xs among fails = at (test j) refl
    where
      at : (b : Bool) → test j ≡ b → test j ≡ false
      at true e = fails (among e)
      at false e = e

  pub first_is_least : (xs : List ObjectId) (n p : ℕ) (o : ObjectId) → ObjectsAscend xs → ((j : ℕ) → test j ≡ true → has_object j xs ≡ true)
      → ((j : ℕ) → test j ≡ true → j < n) → slice_get xs p ≡ Some o → Tested test xs p → test o.0 ≡ true → IsLeast test n o.0
  first_is_least xs n p o a among within h t here = record {
    within = within o.0 here;
    here = here;
    before = λ j lt. either_way j xs (among j) (below_fails xs p o a h t j lt);
  }

  all_fail : (xs : List ObjectId) (p : ℕ) → length xs ≤ p → Tested test xs p → (j : ℕ) → has_object j xs ≡ true → test j ≡ false
  all_fail [] p le t j there = absurd (true≢false (sym there))
  all_fail (x ∷ xs) zero le t j there = absurd (omega (arith, le))
  all_fail (x ∷ xs) (suc p) le t j there = go (λ q. all_fail xs p (omega (arith, le)) (shifted x xs p t) j q) (cases_eq x.0 j)
    where
      go : (has_object j xs ≡ true → test j ≡ false) → (x.0 ≡ j) ⊎ (x.0 ≡ j → ⊥) → test j ≡ false
      go more (inl e) = subst (λ k. test k ≡ false) e (t 0 x (omega arith) refl)
      go more (inr ne) = let there' : has_object j xs ≡ true = rw (ne_eqb x.0 j ne) at there in more there'

  pub none_is_left : (xs : List ObjectId) (n p : ℕ) → ((j : ℕ) → test j ≡ true → has_object j xs ≡ true) → length xs ≤ p → Tested test xs p → IsNone test n
  none_is_left xs n p among le t j lt = either_way j xs (among j) (all_fail xs p le t j)

  pub tested_more : (xs : List ObjectId) (p : ℕ) (x : ObjectId) → slice_get xs p ≡ Some x → test x.0 ≡ false → Tested test xs p → Tested test xs (p + 1)
  tested_more xs p x h f t i y lt g = go (cases_eq i p)
    where
      go : (i ≡ p) ⊎ (i ≡ p → ⊥) → test y.0 ≡ false
      go (inl e) = subst (λ z. test z.0 ≡ false) (same_Some x y (sym h ∙ ap (slice_get xs) (sym e) ∙ g)) f
      go (inr ne) = t i y (omega (arith, lt, ne)) g

-- ---- the candidates

rows_above : (n : ℕ) (rs : List Row) → RowsAbove n rs → ObjectsAbove n (objects_in rs)
rows_above n [] a = tt
rows_above n (r ∷ rs) a = (a.0, rows_above n rs a.1)

pub rows_ascend : (rs : List Row) → RowsAscend rs → ObjectsAscend (objects_in rs)
rows_ascend [] a = tt
rows_ascend (r ∷ rs) a = (rows_above r.object.0 rs a.0, rows_ascend rs a.1)

pub rows_count : (rs : List Row) → length rs ≡ length (objects_in rs)
rows_count [] = refl
rows_count (r ∷ rs) = ap suc (rows_count rs)

entries_above : (n : ℕ) (es : List (ObjectId × Rights)) → AllAbove n es → ObjectsAbove n (map (λ x. x.0) es)
entries_above n [] a = tt
entries_above n (x ∷ es) a = (a.0, entries_above n es a.1)

pub entries_ascend : (es : List (ObjectId × Rights)) → IsAscending es → ObjectsAscend (map (λ x. x.0) es)
entries_ascend [] a = tt
entries_ascend (x ∷ es) a = (entries_above x.0.0 es a.1, entries_ascend es a.2)

row_among : (rs : List Row) (o : ℕ) → has_row o rs ≡ has_object o (objects_in rs)
row_among [] o = refl
row_among (r ∷ rs) o = ap (λ b. if nat_eq r.object.0 o then true else b) (row_among rs o)

-- an object without an entry has no rights
pub no_entry : (es : List (ObjectId × Rights)) (o : ℕ) → has_object o (map (λ x. x.0) es) ≡ false → rights_in es (id o) ≡ no_rights
no_entry [] o h = refl
no_entry (x ∷ es) o h = go (λ q. no_entry es o q) (cases_eq x.0.0 o)
  where
    go : (has_object o (map (λ x. x.0) es) ≡ false → rights_in es (id o) ≡ no_rights) → (x.0.0 ≡ o) ⊎ (x.0.0 ≡ o → ⊥)
        → (if nat_eq x.0.0 o then x.1 else rights_in es (id o)) ≡ no_rights
    go more (inl e) = let h' : true ≡ false = rw (eq-eqb x.0.0 o e) at h in absurd (true≢false h')
    go more (inr ne) = let h' : has_object o (map (λ x. x.0) es) ≡ false = rw (ne_eqb x.0.0 o ne) at h in rw (ne_eqb x.0.0 o ne) (more h')

pub by_contra : (b : Bool) → (b ≡ false → ⊥) → b ≡ true
by_contra true h = refl
by_contra false h = absurd (h refl)

no_way : (m : Mode) → gives_way m no_rights ≡ false
no_way Reading = refl
no_way Writing = refl
no_way Commuting = refl

yields_none : (x : Option Mode) → yields x no_rights ≡ false
yields_none None = refl
yields_none (Some m) = no_way m

yields_held : (x : Option Mode) (a : Rights) → yields x a ≡ true → is_some x ≡ true
yields_held None a h = h
yields_held (Some y) a h = refl

first_of : (a b : Bool) → (a && b) ≡ true → a ≡ true
first_of true b h = refl
first_of false b h = h

lt_or_le : (i k : ℕ) → (i < k) ⊎ (k < suc i)
lt_or_le i zero = inr (omega arith)
lt_or_le zero (suc k) = inl (omega arith)
lt_or_le (suc i) (suc k) = next (lt_or_le i k)
  where
    next : (i < k) ⊎ (k < suc i) → (suc i < suc k) ⊎ (suc k < suc (suc i))
    next (inl lt) = inl (omega (arith, lt))
    next (inr le) = inr (omega (arith, le))

module _ (e : Execution) where
  abbrev n : ℕ
  n = e.stage.objects

  held_within : (o : ℕ) → is_some (held (holds_at e) o) ≡ true → o < n
  held_within o h = at (lt_or_le o n)
    where
      at : (o < n) ⊎ (n < suc o) → o < n
      at (inl lt) = lt
      at (inr le) = absurd (true≢false (sym h ∙ ap is_some (hold_past n (held_by e) o (omega (arith, le)))))

  held_among : (o : ℕ) → is_some (held (holds_at e) o) ≡ true → has_object o (objects_in e.rows) ≡ true
  held_among o h =
      by_contra (has_object o (objects_in e.rows)) (λ q. true≢false (sym h ∙ ap is_some (hold_at n (held_by e) o (held_within o h)
      ∙ ap mode_held (no_content e.rows o (row_among e.rows o ∙ q)))))

  mode_within : (o : ℕ) → is_some (mode_of (rights_on (rights_at e.stage) o)) ≡ true → o < n
  mode_within o h = at (lt_or_le o n)
    where
      at : (o < n) ⊎ (n < suc o) → o < n
      at (inl lt) = lt
      at (inr le) = absurd (true≢false (sym h ∙ ap (λ a. is_some (mode_of a))
          (table_past (λ i. rights_in e.stage.spec.entries (id i)) 0 n o no_rights (omega (arith, le)))))

  taken_mode : (d m : Bool) → (if d then m else false) ≡ true → m ≡ true
  taken_mode true m h = h
  taken_mode false m h = absurd (true≢false (sym h))

  taken_due : (d m : Bool) → (if d then m else false) ≡ true → d ≡ true
  taken_due true m h = refl
  taken_due false m h = h

  less_taken : (b d m : Bool) → (if (if b then false else d) then m else false) ≡ true → (if d then m else false) ≡ true
  less_taken true d m h = absurd (true≢false (sym h))
  less_taken false d m h = h

  made_entry : (o : ℕ) → has_object o (map (λ x. x.0) e.stage.child.entries) ≡ false → rights_on (made_at e) o ≡ no_rights
  made_entry o q = at (lt_or_le o n)
    where
      at : (o < n) ⊎ (n < suc o) → rights_on (made_at e) o ≡ no_rights
      at (inl lt) =
          let z : 0 + o ≡ o = omega arith in
          table_at (λ i. rights_in e.stage.child.entries (id i)) 0 n o no_rights lt ∙ ap (λ i. rights_in e.stage.child.entries (id i)) z
          ∙ no_entry e.stage.child.entries o q
      at (inr le) = table_past (λ i. rights_in e.stage.child.entries (id i)) 0 n o no_rights (omega (arith, le))

  -- what is to be taken or given up is among the candidates
  pub is_candidate : (p : Phase) (ds : List Bool) (o : ℕ) → is_to_move p e ds o ≡ true → has_object o (candidates p e) ≡ true
  is_candidate phase.Starting ds o h =
      by_contra (has_object o (objects_in e.rows)) (λ q. true≢false (sym (taken_due (due_in e.rows ds o) _ (less_taken (is_own (commuting_on (rights_at e.stage)) o) _ _ h))
      ∙ no_mark e.rows ds o (row_among e.rows o ∙ q)))
  is_candidate phase.Taking ds o h =
      by_contra (has_object o (objects_in e.rows)) (λ q. true≢false (sym (taken_due (due_in e.rows ds o) _ h) ∙ no_mark e.rows ds o (row_among e.rows o ∙ q)))
  is_candidate phase.Going ds o h = absurd (true≢false (sym h))
  is_candidate (phase.Creating number) ds o h =
      by_contra (has_object o (map (λ x. x.0) e.stage.child.entries)) (λ q. true≢false (sym h ∙ ap (yields (held (holds_at e) o)) (made_entry o q)
      ∙ yields_none (held (holds_at e) o)))
  is_candidate phase.Changing ds o h = held_among o (first_of (is_some (held (holds_at e) o)) _ h)
  is_candidate (phase.Ending b) ds o h = held_among o h

  pub is_object : (p : Phase) (ds : List Bool) (o : ℕ) → is_to_move p e ds o ≡ true → o < n
  is_object phase.Starting ds o h =
      mode_within o (taken_mode (due_in e.rows ds o) _ (less_taken (is_own (commuting_on (rights_at e.stage)) o) _ _ h))
  is_object phase.Taking ds o h = mode_within o (taken_mode (due_in e.rows ds o) _ h)
  is_object phase.Going ds o h = absurd (true≢false (sym h))
  is_object (phase.Creating number) ds o h = held_within o (yields_held (held (holds_at e) o) (rights_on (made_at e) o) h)
  is_object phase.Changing ds o h = held_within o (first_of (is_some (held (holds_at e) o)) _ h)
  is_object (phase.Ending b) ds o h = held_within o h

-- ---- marks by row

-- the mark of a row, and the marks after it
pub mark_row : (o k : ℕ) (rs : List Row) (ds : List Bool) (p : ℕ) → row_from o k rs ≡ Some p → (k ≤ p) × (due_in rs ds o ≡ slice_index_or ds (p - k) false)
mark_row o k [] ds p h = absurd (none-some p h)
mark_row o k (r ∷ rs) [] p h = go (cases_eq r.object.0 o) (λ g. mark_row o (suc k) rs [] p g)
  where
    go : (r.object.0 ≡ o) ⊎ (r.object.0 ≡ o → ⊥) → (row_from o (suc k) rs ≡ Some p → (suc k ≤ p) × (due_in rs [] o ≡ slice_index_or [] (p - suc k) false))
        → (k ≤ p) × (false ≡ slice_index_or [] (p - k) false)
    go (inl e) more =
        let h' : Some k ≡ Some p = rw (eq-eqb r.object.0 o e) at h in
        let s = same_Some k p h' in (omega (arith, s), refl)
    go (inr ne) more =
        let h' : row_from o (suc k) rs ≡ Some p = rw (ne_eqb r.object.0 o ne) at h in
        let m = more h' in let le = m.0 in (omega (arith, le), refl)
mark_row o k (r ∷ rs) (d ∷ ds) p h = go (cases_eq r.object.0 o) (λ g. mark_row o (suc k) rs ds p g)
  where
    go : (r.object.0 ≡ o) ⊎ (r.object.0 ≡ o → ⊥) → (row_from o (suc k) rs ≡ Some p → (suc k ≤ p) × (due_in rs ds o ≡ slice_index_or ds (p - suc k) false))
        → (k ≤ p) × ((if nat_eq r.object.0 o then d else due_in rs ds o) ≡ slice_index_or (d ∷ ds) (p - k) false)
    go (inl e) more =
        let h' : Some k ≡ Some p = rw (eq-eqb r.object.0 o e) at h in
        let s = same_Some k p h' in
        let z : 0 ≡ p - k = omega (arith, s) in
        (omega (arith, s), rw (eq-eqb r.object.0 o e) (ap (λ j. slice_index_or (d ∷ ds) j false) z))
    go (inr ne) more =
        let h' : row_from o (suc k) rs ≡ Some p = rw (ne_eqb r.object.0 o ne) at h in
        let m = more h' in
        let le = m.0 in
        let z : suc (p - suc k) ≡ p - k = omega (arith, le) in
        (omega (arith, le), rw (ne_eqb r.object.0 o ne) (m.1 ∙ ap (λ j. slice_index_or (d ∷ ds) j false) z))

pub mark_at : (o : ℕ) (rs : List Row) (ds : List Bool) (p : ℕ) → row_from o 0 rs ≡ Some p → due_in rs ds o ≡ slice_index_or ds p false
mark_at o rs ds p h =
    let m = mark_row o 0 rs ds p h in
    let z : p - 0 ≡ p = omega arith in m.1 ∙ ap (λ j. slice_index_or ds j false) z

-- the object at a place among those of rows is above what all of them are above
above_placed : (n : ℕ) (rs : List Row) (p : ℕ) (o : ObjectId) → RowsAbove n rs → slice_get (objects_in rs) p ≡ Some o → n < o.0
above_placed n [] p o a h = absurd (none-some o h)
above_placed n (r ∷ rs) zero o a h = subst (λ (x : ObjectId). n < x.0) (same_Some r.object o h) a.0
above_placed n (r ∷ rs) (suc p) o a h = above_placed n rs p o a.1 h

placed_from : (n : ℕ) (rs : List Row) (p : ℕ) (o : ObjectId) → RowsAscend rs → slice_get (objects_in rs) p ≡ Some o → row_from o.0 n rs ≡ Some (n + p)
placed_from n [] p o a h = absurd (none-some o h)
placed_from n (r ∷ rs) zero o a h =
    let e = ap (λ (x : ObjectId). x.0) (same_Some r.object o h) in
    let z : n ≡ n + 0 = omega arith in
    rw (eq-eqb r.object.0 o.0 e) (ap Some z)
placed_from n (r ∷ rs) (suc p) o a h =
    let far = above_placed r.object.0 rs p o a.0 h in
    let z : suc n + p ≡ n + suc p = omega arith in
    rw (ne_eqb r.object.0 o.0 (λ q. omega (arith, far, q))) (placed_from (suc n) rs p o a.1 h ∙ ap Some z)

-- the row at an object's place is its first
pub row_placed : (rs : List Row) (p : ℕ) (o : ObjectId) → RowsAscend rs → slice_get (objects_in rs) p ≡ Some o → row_from o.0 0 rs ≡ Some p
row_placed rs p o a h = let z : 0 + p ≡ p = omega arith in placed_from 0 rs p o a h ∙ ap Some z

-- its mark is the one at the place
pub mark_placed : (rs : List Row) (ds : List Bool) (p : ℕ) (o : ObjectId) → RowsAscend rs → slice_get (objects_in rs) p ≡ Some o
    → due_in rs ds o.0 ≡ slice_index_or ds p false
mark_placed rs ds p o a h = mark_at o.0 rs ds p (row_placed rs p o a h)

-- what is not due is not taken, nor is it where a task begins
pub not_taken : (own d m : Bool) → d ≡ false → false ≡ (if (if own then false else d) then m else false)
not_taken true d m e = refl
not_taken false d m e = sym (ap (λ b. if b then m else false) e)

-- what is due and has a mode is taken where a task begins, unless it is the own one
pub taken_unless : (own d m : Bool) → d ≡ true → m ≡ true → not own ≡ (if (if own then false else d) then m else false)
taken_unless true d m e h = refl
taken_unless false d m e h = sym (ap (λ b. if b then m else false) e ∙ h)

no_row : (o k : ℕ) (rs : List Row) → row_from o k rs ≡ None → has_row o rs ≡ false
no_row o k [] h = refl
no_row o k (r ∷ rs) h = go (cases_eq r.object.0 o) (λ g. no_row o (suc k) rs g)
  where
    go : (r.object.0 ≡ o) ⊎ (r.object.0 ≡ o → ⊥) → (row_from o (suc k) rs ≡ None → has_row o rs ≡ false)
        → (if nat_eq r.object.0 o then true else has_row o rs) ≡ false
    go (inl e) more = let h' : Some k ≡ None = rw (eq-eqb r.object.0 o e) at h in absurd (none-some k (sym h'))
    go (inr ne) more = let h' : row_from o (suc k) rs ≡ None = rw (ne_eqb r.object.0 o ne) at h in rw (ne_eqb r.object.0 o ne) (more h')

pub mark_missing : (o : ℕ) (rs : List Row) (ds : List Bool) → row_from o 0 rs ≡ None → due_in rs ds o ≡ false
mark_missing o rs ds h = no_mark rs ds o (no_row o 0 rs h)
