-- Rows of what is held.
use Rattle.std.proofs.Common.{◌≡◌, ℕ, zero, suc, ◌+◌, ◌<◌, ◌≤◌, ◌⊎◌, inl, inr, List, [], ◌∷◌, ◌++◌, take, drop, length, Bool, false, eqb, cond, Option, Some}
use Rattle.std.proofs.Common.{None, refl, sym, ap, ◌∙◌, subst, arith}
use Rattle.std.specs.Prelude.{ℤ, slice_get, slice_index_or, slice_set}
use Rattle.std.proofs.lemmas.Bool.{cases_eq, eq-eqb, ne_eqb}
use Rattle.std.proofs.lemmas.Option.{none-some, same_Some}
use Rattle.std.proofs.Math.Path.{fun_ext}
use Rattle.std.proofs.lemmas.List.{take_all}
use Rattle.jade_meaning.specs.Serial.{zeros}
use Rattle.task_machine.specs.Whole.{all_held, without}
use Rattle.jade_base.specs.Held.{Held}
use Rattle.task_machine.specs.declared.holdings.Row.{Row}
use Rattle.task_machine.specs.Playing.{Contents, writable, put_in}
use Rattle.std.proofs.Common.{map}
use Rattle.jade_base.specs.declared.place.ObjectId.{ObjectId}
use Rattle.jade_base.specs.declared.rights.Rights.{Rights}
use Rattle.jade_base.specs.Specification.{AllAbove, IsAscending}
use Rattle.task_machine.specs.Executions.{objects_in, with_content, without_content}
use Rattle.task_machine.specs.steps.Holding.{RowsAbove, RowsAscend, contents_of, row_from, written, Written, written_in, whole_row}
use Rattle.task_machine.specs.steps.Holding.{whole_from}

above_at : (n : ℕ) (rs : List Row) (k : ℕ) (d : Row) → RowsAbove n rs → k < length rs → n < (slice_index_or rs k d).object.0
above_at n [] k d h lt = absurd (omega (arith, lt))
above_at n (r ∷ rs) zero d h lt = h.0
above_at n (r ∷ rs) (suc k) d h lt = above_at n rs k d h.1 (omega (arith, lt))

-- the row at this place is the object's, and the first
pub row_here : (o n : ℕ) (rs : List Row) (k : ℕ) (d : Row) → RowsAscend rs → k < length rs → (slice_index_or rs k d).object.0 ≡ o → row_from o n rs
    ≡ Some (n + k)
row_here o n [] k d h lt e = absurd (omega (arith, lt))
row_here o n (r ∷ rs) zero d h lt e = rw (eq-eqb r.object.0 o e) (let z : n ≡ n + 0 = omega arith in ap Some z)
row_here o n (r ∷ rs) (suc k) d h lt e =
    let far = above_at r.object.0 rs k d h.0 (omega (arith, lt)) in
    let z : suc n + k ≡ n + suc k = omega arith in
    rw (ne_eqb r.object.0 o (λ q. omega (arith, far, e, q))) (row_here o (suc n) rs k d h.1 (omega (arith, lt)) e ∙ ap Some z)

-- the rows from a place on begin with the one there
row_there : (o n : ℕ) (rs : List Row) (k : ℕ) (d : Row) → k < length rs
    → row_from o n (drop k rs) ≡ cond (eqb (slice_index_or rs k d).object.0 o) (Some n) (row_from o (suc n) (drop (suc k) rs))
row_there o n [] k d lt = absurd (omega (arith, lt))
row_there o n (r ∷ rs) zero d lt = refl
row_there o n (r ∷ rs) (suc k) d lt = row_there o n rs k d (omega (arith, lt))

-- the row at this place is the object's: it is the first from there on
pub row_at : (o n : ℕ) (rs : List Row) (k : ℕ) (d : Row) → k < length rs → (slice_index_or rs k d).object.0 ≡ o → row_from o n (drop k rs) ≡ Some n
row_at o n rs k d lt e = row_there o n rs k d lt ∙ ap (λ b. cond b (Some n) (row_from o (suc n) (drop (suc k) rs))) (eq-eqb _ o e)

-- the row at this place is another's: the object's stands behind it
pub row_behind : (o n : ℕ) (rs : List Row) (k : ℕ) (d : Row) → k < length rs → ((slice_index_or rs k d).object.0 ≡ o → ⊥)
    → row_from o n (drop k rs) ≡ row_from o (suc n) (drop (suc k) rs)
row_behind o n rs k d lt ne = row_there o n rs k d lt ∙ ap (λ b. cond b (Some n) (row_from o (suc n) (drop (suc k) rs))) (ne_eqb _ o ne)

-- the row of an object
pub record IsRow (rs : List Row) (o j : ℕ) : Type 0 where
  pub within : j < length rs
  pub object : (d : Row) → (slice_index_or rs j d).object.0 ≡ o
  pub content : (d : Row) → contents_of rs o ≡ (slice_index_or rs j d).content
  pub set : (x : Row) → x.object.0 ≡ o → (p : ℕ) → contents_of (slice_set rs j x) p ≡ cond (eqb p o) x.content (contents_of rs p)
  pub filled : (d : Row) (h : Option Held) → slice_set rs j (record { object = (slice_index_or rs j d).object; content = h }) ≡ with_content o h rs

first_row : (r : Row) (rs : List Row) (o : ℕ) → r.object.0 ≡ o → IsRow (r ∷ rs) o 0
first_row r rs o e = record {
  within = omega arith;
  object = λ d. e;
  content = λ d. rw (eq-eqb r.object.0 o e);
  set = λ x q p. each x q p (cases_eq p o);
  filled = λ d h. ap (λ b. cond b (record { object = r.object; content = h } ∷ rs) (r ∷ with_content o h rs)) (sym (eq-eqb r.object.0 o e));
}
  where
    each : (x : Row) → x.object.0 ≡ o → (p : ℕ) → (p ≡ o) ⊎ (p ≡ o → ⊥) → cond (eqb x.object.0 p) x.content (contents_of rs p)
        ≡ cond (eqb p o) x.content (cond (eqb r.object.0 p) r.content (contents_of rs p))
    each x q p (inl s) = rw (eq-eqb x.object.0 p (q ∙ sym s), eq-eqb p o s) refl
    each x q p (inr s) = rw (ne_eqb x.object.0 p (λ t. s (sym t ∙ q)), ne_eqb p o s, ne_eqb r.object.0 p (λ t. s (sym t ∙ e))) refl

later_row : (r : Row) (rs : List Row) (o j : ℕ) → (r.object.0 ≡ o → ⊥) → IsRow rs o j → IsRow (r ∷ rs) o (suc j)
later_row r rs o j ne h = record {
  within = let w = h.within in omega (arith, w);
  object = h.object;
  content = λ d. rw (ne_eqb r.object.0 o ne) (h.content d);
  set = λ x q p. each x q p (cases_eq r.object.0 p);
  filled = λ d g.
      ap (λ l. r ∷ l) (h.filled d g)
      ∙ ap (λ b. cond b (record { object = r.object; content = g } ∷ rs) (r ∷ with_content o g rs)) (sym (ne_eqb r.object.0 o ne));
}
  where
    each : (x : Row) → x.object.0 ≡ o → (p : ℕ) → (r.object.0 ≡ p) ⊎ (r.object.0 ≡ p → ⊥) → cond (eqb r.object.0 p) r.content (contents_of (slice_set rs j x) p)
        ≡ cond (eqb p o) x.content (cond (eqb r.object.0 p) r.content (contents_of rs p))
    each x q p (inl s) = rw (eq-eqb r.object.0 p s, ne_eqb p o (λ t. ne (s ∙ t))) refl
    each x q p (inr s) = rw (ne_eqb r.object.0 p s) (h.set x q p)

pub record Found (rs : List Row) (o n k : ℕ) : Type 0 where
  pub place : ℕ
  pub is : k ≡ n + place
  pub row : IsRow rs o place

found_from : (o n : ℕ) (rs : List Row) (k : ℕ) → row_from o n rs ≡ Some k → Found rs o n k
found_from o n [] k h = absurd (none-some k h)
found_from o n (r ∷ rs) k h = go (λ g. found_from o (suc n) rs k g) (cases_eq r.object.0 o)
  where
    go : (row_from o (suc n) rs ≡ Some k → Found rs o (suc n) k) → (r.object.0 ≡ o) ⊎ (r.object.0 ≡ o → ⊥) → Found (r ∷ rs) o n k
    go more (inl e) =
        let h' : Some n ≡ Some k = rw (eq-eqb r.object.0 o e) at h in
        let s = same_Some n k h' in
        record { place = 0; is = omega (arith, s); row = first_row r rs o e }
    go more (inr ne) =
        let h' : row_from o (suc n) rs ≡ Some k = rw (ne_eqb r.object.0 o ne) at h in
        let f = more h' in
        let s = f.is in
        record { place = suc f.place; is = omega (arith, s); row = later_row r rs o f.place ne f.row }

pub row_found : (o : ℕ) (rs : List Row) (k : ℕ) → Some k ≡ row_from o 0 rs → IsRow rs o k
row_found o rs k h =
    let f = found_from o 0 rs k (sym h) in
    let s = f.is in
    let e : f.place ≡ k = omega (arith, s) in
    subst (IsRow rs o) e f.row

missing_from : (o n : ℕ) (rs : List Row) → row_from o n rs ≡ None → contents_of rs o ≡ None
missing_from o n [] h = refl
missing_from o n (r ∷ rs) h = go (λ g. missing_from o (suc n) rs g) (cases_eq r.object.0 o)
  where
    go : (row_from o (suc n) rs ≡ None → contents_of rs o ≡ None) → (r.object.0 ≡ o) ⊎ (r.object.0 ≡ o → ⊥) → contents_of (r ∷ rs) o ≡ None
    go more (inl e) =
        let h' : Some n ≡ None = rw (eq-eqb r.object.0 o e) at h in
        absurd (none-some n (sym h'))
    go more (inr ne) =
        let h' : row_from o (suc n) rs ≡ None = rw (ne_eqb r.object.0 o ne) at h in
        rw (ne_eqb r.object.0 o ne) (more h')

pub row_missing : (o : ℕ) (rs : List Row) → None ≡ row_from o 0 rs → contents_of rs o ≡ None
row_missing o rs h = missing_from o 0 rs (sym h)

above_set : (n : ℕ) (rs : List Row) (k : ℕ) (x : Row) → RowsAbove n rs → n < x.object.0 → RowsAbove n (slice_set rs k x)
above_set n [] k x h lt = tt
above_set n (r ∷ rs) zero x h lt = (lt, h.1)
above_set n (r ∷ rs) (suc k) x h lt = (h.0, above_set n rs k x h.1 lt)

-- a row of the same object in the place of another
pub ascend_set : (rs : List Row) (k : ℕ) (x d : Row) → k < length rs → RowsAscend rs → x.object.0 ≡ (slice_index_or rs k d).object.0
    → RowsAscend (slice_set rs k x)
ascend_set [] k x d lt h e = tt
ascend_set (r ∷ rs) zero x d lt h e = (subst (λ n. RowsAbove n rs) (sym e) h.0, h.1)
ascend_set (r ∷ rs) (suc k) x d lt h e =
    let far = above_at r.object.0 rs k d h.0 (omega (arith, lt)) in
    (above_set r.object.0 rs k x h.0 (omega (arith, far, e)), ascend_set rs k x d (omega (arith, lt)) h.1 e)

-- the objects stay the same where a row of the same object is put in the place of another
pub objects_set : (rs : List Row) (k : ℕ) (x d : Row) → k < length rs → x.object ≡ (slice_index_or rs k d).object
    → objects_in (slice_set rs k x) ≡ objects_in rs
objects_set [] k x d lt e = refl
objects_set (r ∷ rs) zero x d lt e = ap (λ o. o ∷ objects_in rs) e
objects_set (r ∷ rs) (suc k) x d lt e = ap (λ l. r.object ∷ l) (objects_set rs k x d (omega (arith, lt)) e)

-- a content that is written where it stands
pub written_row : (w : Option Held) (k l : Contents) (o c : ℕ) (v : ℤ) (r : Bool) (new : Option Held) → ((p : ℕ) → l p ≡ cond (eqb p o) new (k p))
    → written_in w (k o) c v r new → written w k o c v r l
written_row None k l o c v r new same h = (h.0, fun_ext (λ p. same p ∙ each p (cases_eq p o)))
  where
    each : (p : ℕ) → (p ≡ o) ⊎ (p ≡ o → ⊥) → cond (eqb p o) new (k p) ≡ k p
    each p (inl e) = rw (eq-eqb p o e) (h.1 ∙ ap k (sym e))
    each p (inr ne) = rw (ne_eqb p o ne) refl
written_row (Some held) k l o c v r new same h = (h.0, fun_ext (λ p. same p ∙ each p (cases_eq p o)))
  where
    each : (p : ℕ) → (p ≡ o) ⊎ (p ≡ o → ⊥) → cond (eqb p o) new (k p) ≡ cond (eqb p o) (put_in c v (k p)) (k p)
    each p (inl e) = rw (eq-eqb p o e) (h.1 ∙ ap (λ q. put_in c v (k q)) (sym e))
    each p (inr ne) = rw (ne_eqb p o ne) refl

pub unwritten : (k : Contents) (o c : ℕ) (v : ℤ) → k o ≡ None → Written k o c v false k
unwritten k o c v e = subst (λ w. written (writable w) k o c v false k) (sym e) (refl, refl)

missing_content : (o n : ℕ) (h : Option Held) (rs : List Row) → row_from o n rs ≡ None → rs ≡ with_content o h rs
missing_content o n h [] e = refl
missing_content o n h (r ∷ rs) e = go (λ g. missing_content o (suc n) h rs g) (cases_eq r.object.0 o)
  where
    go : (row_from o (suc n) rs ≡ None → rs ≡ with_content o h rs) → (r.object.0 ≡ o) ⊎ (r.object.0 ≡ o → ⊥) → r ∷ rs ≡ with_content o h (r ∷ rs)
    go more (inl q) =
        let e' : Some n ≡ None = rw (eq-eqb r.object.0 o q) at e in
        absurd (none-some n (sym e'))
    go more (inr ne) =
        let e' : row_from o (suc n) rs ≡ None = rw (ne_eqb r.object.0 o ne) at e in
        ap (λ l. r ∷ l) (more e') ∙ ap (λ b. cond b (record { object = r.object; content = h } ∷ rs) (r ∷ with_content o h rs)) (sym (ne_eqb r.object.0 o ne))

pub missing_same : (o : ℕ) (h : Option Held) (rs : List Row) → None ≡ row_from o 0 rs → rs ≡ with_content o h rs
missing_same o h rs e = missing_content o 0 h rs (sym e)

-- rows without contents, one for each object of a specification
rows_above : (n : ℕ) (es : List (ObjectId × Rights)) → AllAbove n es → RowsAbove n (map without_content es)
rows_above n [] h = tt
rows_above n (e ∷ es) h = (h.0, rows_above n es h.1)

pub rows_ascend : (es : List (ObjectId × Rights)) → IsAscending es → RowsAscend (map without_content es)
rows_ascend [] h = tt
rows_ascend (e ∷ es) h = (rows_above e.0.0 es h.1, rows_ascend es h.2)

rows_next : (es : List (ObjectId × Rights)) (i : ℕ) (x : ObjectId × Rights) → slice_get es i ≡ Some x → map without_content (take (suc i) es)
    ≡ map without_content (take i es) ++ without_content x ∷ []
rows_next [] i x h = absurd (none-some x h)
rows_next (y ∷ es) zero x h = ap (λ z. without_content z ∷ []) (same_Some y x h)
rows_next (y ∷ es) (suc i) x h = ap (λ l. without_content y ∷ l) (rows_next es i x h)

pub rows_more : (es : List (ObjectId × Rights)) (i : ℕ) (x : ObjectId × Rights) → slice_get es i ≡ Some x
    → map without_content (take i es) ++ without_content x ∷ [] ≡ map without_content (take (i + 1) es)
rows_more es i x h = let z : suc i ≡ i + 1 = omega arith in sym (rows_next es i x h) ∙ ap (λ n. map without_content (take n es)) z

pub rows_whole : (es : List (ObjectId × Rights)) (i : ℕ) (rs : List Row) → length es ≤ i → IsAscending es → rs ≡ map without_content (take i es) → RowsAscend rs
rows_whole es i rs le h e = subst RowsAscend (sym (e ∙ ap (map without_content) (take_all i es le))) (rows_ascend es h)

-- ---- all objects of a program

row_next : (n : ℕ) (sizes : List ℕ) (i s : ℕ) → slice_get sizes i ≡ Some s → whole_from n (take (suc i) sizes)
    ≡ whole_from n (take i sizes) ++ whole_row (n + i) s ∷ []
row_next n [] i s h = absurd (none-some s h)
row_next n (x ∷ sizes) zero s h =
    let z : n ≡ n + 0 = omega arith in
    ap (λ y. whole_row n y ∷ []) (same_Some x s h) ∙ ap (λ m. whole_row m s ∷ []) z
row_next n (x ∷ sizes) (suc i) s h =
    let z : suc n + i ≡ n + suc i = omega arith in
    ap (λ l. whole_row n x ∷ l) (row_next (suc n) sizes i s h ∙ ap (λ m. whole_from (suc n) (take i sizes) ++ whole_row m s ∷ []) z)

-- one object more
pub whole_next : (rs : List Row) (sizes : List ℕ) (i s : ℕ) → slice_get sizes i ≡ Some s → rs ≡ whole_from 0 (take i sizes)
    → rs ++ whole_row i s ∷ [] ≡ whole_from 0 (take (i + 1) sizes)
whole_next rs sizes i s h e =
    let z : 0 + i ≡ i = omega arith in
    let y : suc i ≡ i + 1 = omega arith in
    ap (λ l. l ++ whole_row i s ∷ []) e ∙ ap (λ m. whole_from 0 (take i sizes) ++ whole_row m s ∷ []) (sym z) ∙ sym (row_next 0 sizes i s h)
    ∙ ap (λ j. whole_from 0 (take j sizes)) y

pub whole_all : (rs : List Row) (sizes : List ℕ) (i : ℕ) → length sizes ≤ i → rs ≡ whole_from 0 (take i sizes) → rs ≡ whole_from 0 sizes
whole_all rs sizes i le e = e ∙ ap (whole_from 0) (take_all i sizes le)

whole_above : (m n : ℕ) (sizes : List ℕ) → m < n → RowsAbove m (whole_from n sizes)
whole_above m n [] lt = tt
whole_above m n (s ∷ sizes) lt = (lt, whole_above m (suc n) sizes (omega (arith, lt)))

pub whole_ascend : (n : ℕ) (sizes : List ℕ) → RowsAscend (whole_from n sizes)
whole_ascend n [] = tt
whole_ascend n (s ∷ sizes) = (whole_above n (suc n) sizes (omega arith), whole_ascend (suc n) sizes)

whole_at : (n : ℕ) (sizes : List ℕ) (k : ℕ) → contents_of (whole_from n sizes) (n + k) ≡ all_held (zeros sizes) k
whole_at n [] k = refl
whole_at n (s ∷ sizes) zero = let z : n ≡ n + 0 = omega arith in rw (eq-eqb n (n + 0) z) refl
whole_at n (s ∷ sizes) (suc k) =
    let z : n + suc k ≡ suc n + k = omega arith in
    rw (ne_eqb n (n + suc k) (λ q. omega (arith, q))) (ap (contents_of (whole_from (suc n) sizes)) z ∙ whole_at (suc n) sizes k)

pub whole_held : (rs : List Row) (sizes : List ℕ) → rs ≡ whole_from 0 sizes → contents_of rs ≡ all_held (zeros sizes)
whole_held rs sizes e = ap contents_of e ∙ fun_ext (λ k. let z : k ≡ 0 + k = omega arith in ap (contents_of (whole_from 0 sizes)) z ∙ whole_at 0 sizes k)

-- a content that is taken out
pub taken_row : (k l : Contents) (o : ℕ) → ((p : ℕ) → l p ≡ cond (eqb p o) None (k p)) → l ≡ without o k
taken_row k l o h = fun_ext h

pub none_taken : (k : Contents) (o : ℕ) → k o ≡ None → k ≡ without o k
none_taken k o e = fun_ext (λ p. each p (cases_eq p o))
  where
    each : (p : ℕ) → (p ≡ o) ⊎ (p ≡ o → ⊥) → k p ≡ cond (eqb p o) None (k p)
    each p (inl q) = rw (eq-eqb p o q) (ap k q ∙ e)
    each p (inr ne) = rw (ne_eqb p o ne) refl
