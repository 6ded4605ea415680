-- The object on which a task commutes, and what such a task may have, found among the entries of its specification.
use Rattle.std.proofs.Common.{◌≡◌, ℕ, zero, suc, ◌+◌, ◌<◌, ◌≤◌, ◌⊎◌, inl, inr, List, [], ◌∷◌, map, length, Bool, true, false, Option, Some, None}
use Rattle.std.proofs.Common.{refl, sym, ap, ◌∙◌, subst, arith, ⊎_elim}
use Rattle.std.specs.Prelude.{◌&&◌, not, nat_eq, slice_get, if◌then◌else◌}
use Rattle.std.proofs.lemmas.Bool.{cases_eq, ne_eqb, true≢false}
use Rattle.std.proofs.lemmas.Option.{none-some, same_Some}
use Rattle.jade_base.specs.declared.place.ObjectId.{ObjectId}
use Rattle.jade_base.specs.declared.rights.Rights.{Rights}
use Rattle.jade_base.specs.Rights.{no_rights, is_there}
use Rattle.jade_base.specs.Specification.{IsAscending, NoneCommutes as NoneCommutesIn, rights_in}
use Rattle.jade_meaning.specs.Specification.{Specification, rights_on, numbers, commuting_among, commuting_on, all_fit, allows_commuting, may_commute}
use Rattle.jade_meaning.specs.Specification.{fits_commuting}
use Rattle.jade_meaning.specs.Spread.{spread}
use Rattle.task_machine.specs.Stages.{id}
use Rattle.task_machine.specs.Left.{is_own}
use Rattle.task_machine.specs.steps.Searching.{ObjectsAscend, has_object}
use Rattle.task_machine.specs.steps.Commuting.{objects_of, commutes_at, misfits_at, NoneCommutes, NoneMisfits}
use Rattle.task_machine.proofs.Tables.{table_at, table_past, table_long}
use Rattle.task_machine.proofs.Searching.{first_is_least, none_is_left, no_entry, by_contra}
use Rattle.task_machine.proofs.Sparse.{rights_here}

-- ---- over the numbers from one on

commuting_first : (spec : Specification) (i n o : ℕ) → i ≤ o → o < i + n → is_there (rights_on spec o).commutes ≡ true
    → ((j : ℕ) → i ≤ j → j < o → is_there (rights_on spec j).commutes ≡ false) → commuting_among spec (numbers i n) ≡ Some o
commuting_first spec i zero o le lt here before = absurd (omega (arith, le, lt))
commuting_first spec i (suc n) o le lt here before =
    go (λ far. commuting_first spec (suc i) n o (omega (arith, far)) (omega (arith, lt)) here (λ j le lt. before j (omega (arith, le)) lt)) (cases_eq i o)
  where
    go : (i < o → commuting_among spec (numbers (suc i) n) ≡ Some o) → (i ≡ o) ⊎ (i ≡ o → ⊥)
        → (if is_there (rights_on spec i).commutes then Some i else commuting_among spec (numbers (suc i) n)) ≡ Some o
    go more (inl e) =
        ap (λ b. if b then Some i else commuting_among spec (numbers (suc i) n)) (ap (λ k. is_there (rights_on spec k).commutes) e ∙ here)
        ∙ ap (λ k. Some k) e
    go more (inr ne) =
        let far : i < o = omega (arith, le, ne) in
        ap (λ b. if b then Some i else commuting_among spec (numbers (suc i) n)) (before i (omega arith) far) ∙ more far

commuting_none : (spec : Specification) (i n : ℕ) → ((j : ℕ) → i ≤ j → j < i + n → is_there (rights_on spec j).commutes ≡ false)
    → commuting_among spec (numbers i n) ≡ None
commuting_none spec i zero h = refl
commuting_none spec i (suc n) h =
    ap (λ b. if b then Some i else commuting_among spec (numbers (suc i) n)) (h i (omega arith) (omega arith))
    ∙ commuting_none spec (suc i) n (λ j le lt. h j (omega (arith, le)) (omega (arith, lt)))

-- the object that is found commutes
pub own_commutes : (s : Specification) (i k o : ℕ) → commuting_among s (numbers i k) ≡ Some o → is_there (rights_on s o).commutes ≡ true
own_commutes s i zero o h = absurd (none-some o h)
own_commutes s i (suc k) o h = at (is_there (rights_on s i).commutes) refl h (λ q. own_commutes s (suc i) k o q)
  where
    at : (b : Bool) → is_there (rights_on s i).commutes ≡ b → (if b then Some i else commuting_among s (numbers (suc i) k)) ≡ Some o
        → (commuting_among s (numbers (suc i) k) ≡ Some o → is_there (rights_on s o).commutes ≡ true) → is_there (rights_on s o).commutes ≡ true
    at true e h more = subst (λ j. is_there (rights_on s j).commutes ≡ true) (same_Some i o h) e
    at false e h more = more h

not_false : (b : Bool) → not b ≡ false → b ≡ true
not_false true h = refl
not_false false h = absurd (true≢false h)

not_true : (b : Bool) → not b ≡ true → b ≡ false
not_true true h = absurd (true≢false (sym h))
not_true false h = refl

all_true : (own : ℕ) (spec : Specification) (i n : ℕ) → ((j : ℕ) → i ≤ j → j < i + n → fits_commuting own j (rights_on spec j) ≡ true)
    → all_fit own spec (numbers i n) ≡ true
all_true own spec i zero h = refl
all_true own spec i (suc n) h =
    ap (λ b. b && all_fit own spec (numbers (suc i) n)) (h i (omega arith) (omega arith))
    ∙ all_true own spec (suc i) n (λ j le lt. h j (omega (arith, le)) (omega (arith, lt)))

all_false : (own : ℕ) (spec : Specification) (i n o : ℕ) → i ≤ o → o < i + n → fits_commuting own o (rights_on spec o) ≡ false
    → all_fit own spec (numbers i n) ≡ false
all_false own spec i zero o le lt h = absurd (omega (arith, le, lt))
all_false own spec i (suc n) o le lt h =
    go (fits_commuting own i (rights_on spec i)) refl (cases_eq i o)
    (λ far. all_false own spec (suc i) n o (omega (arith, far)) (omega (arith, lt)) h)
  where
    go : (b : Bool) → fits_commuting own i (rights_on spec i) ≡ b → (i ≡ o) ⊎ (i ≡ o → ⊥) → (i < o → all_fit own spec (numbers (suc i) n) ≡ false)
        → (b && all_fit own spec (numbers (suc i) n)) ≡ false
    go true e (inl q) more = absurd (true≢false (sym e ∙ ap (λ k. fits_commuting own k (rights_on spec k)) q ∙ h))
    go true e (inr ne) more = let far : i < o = omega (arith, le, ne) in more far
    go false e q more = refl

-- ---- among entries

lt_or_le : (i k : ℕ) → (i < k) ⊎ (k ≤ i)
lt_or_le i zero = inr (omega arith)
lt_or_le zero (suc k) = inl (omega arith)
lt_or_le (suc i) (suc k) = ⊎_elim (λ lt. inl (omega (arith, lt))) (λ le. inr (omega (arith, le))) (lt_or_le i k)

module _ (n : ℕ) (es : List (ObjectId × Rights)) where
  abbrev spec : Specification
  spec = spread n es

  long : length spec ≡ n
  long = table_long (λ o. rights_in es (id o)) 0 n

  past : (o : ℕ) → n ≤ o → rights_on spec o ≡ no_rights
  past o le = table_past (λ i. rights_in es (id i)) 0 n o no_rights le

  unlisted : (o : ℕ) → has_object o (objects_of es) ≡ false → rights_on spec o ≡ no_rights
  unlisted o h =
      let z : 0 + o ≡ o = omega arith in
      ⊎_elim (λ lt. table_at (λ i. rights_in es (id i)) 0 n o no_rights lt ∙ ap (λ i. rights_in es (id i)) z ∙ no_entry es o h) (past o) (lt_or_le o n)

  within : (o : ℕ) → commutes_at n es o ≡ true → o < n
  within o h = ⊎_elim (λ lt. lt) (λ le. absurd (true≢false (sym h ∙ ap (λ a. is_there a.commutes) (past o le)))) (lt_or_le o n)

  among : (o : ℕ) → commutes_at n es o ≡ true → has_object o (objects_of es) ≡ true
  among o h = by_contra (has_object o (objects_of es)) (λ q. true≢false (sym h ∙ ap (λ a. is_there a.commutes) (unlisted o q)))

  pub commuting_found : (p : ℕ) (o : ObjectId) → ObjectsAscend (objects_of es) → NoneCommutes n es p → slice_get (objects_of es) p ≡ Some o
      → commutes_at n es o.0 ≡ true → commuting_on spec ≡ Some o.0
  commuting_found p o up t at here =
      let least = first_is_least (commutes_at n es) (objects_of es) n p o up among within at t here in
      ap (λ k. commuting_among spec (numbers 0 k)) long
      ∙ commuting_first spec 0 n o.0 (omega arith) (omega (arith, least.within)) here (λ j le lt. least.before j lt)

  pub commuting_within : (o : ObjectId) → commutes_at n es o.0 ≡ true → o.0 < n
  commuting_within o h = within o.0 h

  pub commuting_missing : (p : ℕ) → length (objects_of es) ≤ p → NoneCommutes n es p → commuting_on spec ≡ None
  commuting_missing p le t =
      let none = none_is_left (commutes_at n es) (objects_of es) n p among le t in
      ap (λ k. commuting_among spec (numbers 0 k)) long ∙ commuting_none spec 0 n (λ j le lt. none j (omega (arith, lt)))

  module _ (own : ℕ) (is : commuting_on spec ≡ Some own) where
    -- the object itself is listed, and no rights fit on every other
    listed : (o : ℕ) → misfits_at own n es o ≡ true → has_object o (objects_of es) ≡ true
    listed o h = by_contra (has_object o (objects_of es)) (λ q. go (cases_eq own o) q)
      where
        go : (own ≡ o) ⊎ (own ≡ o → ⊥) → has_object o (objects_of es) ≡ false → ⊥
        go (inl e) q = true≢false (sym own_listed ∙ ap (λ k. has_object k (objects_of es)) e ∙ q)
          where
            own_listed : has_object own (objects_of es) ≡ true
            own_listed = among own (own_commutes spec 0 (length spec) own is)
        go (inr ne) q = true≢false (sym h ∙ ap (λ a. not (fits_commuting own o a)) (unlisted o q)
            ∙ ap (λ b. not (if b then false else true)) (ne_eqb own o ne))

    pub fits_all : (p : ℕ) → length (objects_of es) ≤ p → NoneMisfits own n es p → may_commute spec ≡ true
    fits_all p le t =
        let none = none_is_left (misfits_at own n es) (objects_of es) n p listed le t in
        ap (λ x. allows_commuting x spec) is ∙ ap (λ k. all_fit own spec (numbers 0 k)) long
        ∙ all_true own spec 0 n (λ j le lt. not_false _ (none j (omega (arith, lt))))

    pub fits_not : (o : ObjectId) → o.0 < n → misfits_at own n es o.0 ≡ true → may_commute spec ≡ false
    fits_not o lt h =
        ap (λ x. allows_commuting x spec) is ∙ ap (λ k. all_fit own spec (numbers 0 k)) long
        ∙ all_false own spec 0 n o.0 (omega arith) (omega (arith, lt)) (not_true _ h)

    -- an object with a right that does not fit is one of those that there are, but for the own one
    pub misfit_within : (o : ObjectId) → misfits_at own n es o.0 ≡ true → o.0 < n
    misfit_within o h = ⊎_elim (λ lt. lt) (λ le. go (cases_eq own o.0) le) (lt_or_le o.0 n)
      where
        own_within : own < n
        own_within = within own (own_commutes spec 0 (length spec) own is)

        go : (own ≡ o.0) ⊎ (own ≡ o.0 → ⊥) → n ≤ o.0 → o.0 < n
        go (inl e) le = subst (λ k. k < n) e own_within
        go (inr ne) le = absurd (true≢false (sym h ∙ ap (λ a. not (fits_commuting own o.0 a)) (past o.0 le)
            ∙ ap (λ b. not (if b then false else true)) (ne_eqb own o.0 ne)))

pub fits_already : (n : ℕ) (es : List (ObjectId × Rights)) → commuting_on (spread n es) ≡ None → may_commute (spread n es) ≡ true
fits_already n es is = ap (λ x. allows_commuting x (spread n es)) is

-- ---- an entry

pub listed_get : (es : List (ObjectId × Rights)) (p : ℕ) (x : ObjectId × Rights) → slice_get es p ≡ Some x → slice_get (objects_of es) p ≡ Some x.0
listed_get [] p x h = absurd (none-some x h)
listed_get (e ∷ es) zero x h = ap (λ y. Some y.0) (same_Some e x h)
listed_get (e ∷ es) (suc p) x h = listed_get es p x h

pub rights_got : (n : ℕ) (es : List (ObjectId × Rights)) (p : ℕ) (x : ObjectId × Rights) → IsAscending es → slice_get es p ≡ Some x → x.0.0 < n
    → x.1 ≡ rights_on (spread n es) x.0.0
rights_got n es p x up at lt =
    let z : 0 + x.0.0 ≡ x.0.0 = omega arith in
    rights_here es p x x.0 up at refl ∙ sym (table_at (λ i. rights_in es (id i)) 0 n x.0.0 no_rights lt ∙ ap (λ i. rights_in es (id i)) z)

pub rights_past : (n : ℕ) (es : List (ObjectId × Rights)) (o : ℕ) → n ≤ o → no_rights ≡ rights_on (spread n es) o
rights_past n es o le = sym (table_past (λ i. rights_in es (id i)) 0 n o no_rights le)

pub objects_long : (es : List (ObjectId × Rights)) → length (objects_of es) ≡ length es
objects_long [] = refl
objects_long (e ∷ es) = ap suc (objects_long es)

-- an object without a commuting right is not the own one
pub other_than_own : (spec : Specification) (o : ℕ) → is_there (rights_on spec o).commutes ≡ false → is_own (commuting_on spec) o ≡ false
other_than_own spec o h = at (commuting_on spec) refl
  where
    at : (x : Option ℕ) → commuting_on spec ≡ x → is_own x o ≡ false
    at None is = refl
    at (Some p) is = ne_eqb p o (λ q. true≢false (sym (own_commutes spec 0 (length spec) p is) ∙ ap (λ k. is_there (rights_on spec k).commutes) q ∙ h))

-- where no entry has a right to commute, none is found
plain_in : (es : List (ObjectId × Rights)) (o : ObjectId) → NoneCommutesIn (map (λ e. e.1) es) → is_there (rights_in es o).commutes ≡ false
plain_in [] o h = refl
plain_in (e ∷ es) o h = go (nat_eq e.0.0 o.0) (plain_in es o h.1)
  where
    go : (b : Bool) → is_there (rights_in es o).commutes ≡ false → is_there (if b then e.1 else rights_in es o).commutes ≡ false
    go true q = h.0
    go false q = q

pub plain_none : (n : ℕ) (es : List (ObjectId × Rights)) → NoneCommutesIn (map (λ e. e.1) es) → commuting_on (spread n es) ≡ None
plain_none n es h =
    ap (λ k. commuting_among (spread n es) (numbers 0 k)) (table_long (λ o. rights_in es (id o)) 0 n)
    ∙ commuting_none (spread n es) 0 n (λ j le lt. let z : 0 + j ≡ j = omega arith in
    ap (λ a. is_there a.commutes) (table_at (λ i. rights_in es (id i)) 0 n j no_rights (omega (arith, lt)) ∙ ap (λ i. rights_in es (id i)) z)
    ∙ plain_in es (id j) h)
