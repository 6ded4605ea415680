-- Where an object stands among the entries of a specification, and what becomes of them when rights are declared.
use Rattle.std.proofs.Common.{◌≡◌, ◌≢◌, ℕ, zero, suc, ◌+◌, ◌<◌, ◌≤◌, true, false, cond, ◌||◌, eqb, ltb, List, [], ◌∷◌, ◌++◌, length, get_or, set, take, drop}
use Rattle.std.proofs.Common.{map, Option, Some, None, Result, Ok, Err, MatchOption, MatchResult, refl, sym, ap, subst, ◌∙◌, arith}
use Rattle.std.specs.Result.{result_ok}
use Rattle.std.specs.List.{All, insert, position_from}
use Rattle.std.specs.List.Sorted.{IsPartitionPoint, IsPartitionedBy}
use Rattle.std.proofs.lemmas.Bool.{ltb-true, ltb-false, le-ltb, lt-ltb, eq-eqb, ne_eqb, eqb-true, eqb-false}
use Rattle.std.proofs.lemmas.List.{drop-map, get_or_default, map-append, map-set, take-append-drop, take-map}
use Rattle.std.proofs.lemmas.List.Elements.{All-append}
use Rattle.jade_base.specs.declared.place.ObjectId.{ObjectId}
use Rattle.jade_base.specs.declared.rights.Right.{Right}
use Rattle.jade_base.specs.declared.rights.Right.TheVariants.{Absent, Deferred, Immediate}
use Rattle.jade_base.specs.declared.rights.Rights.{Rights}
use Rattle.jade_base.specs.declared.spec.Entry.{Entry}
use Rattle.jade_base.specs.Rights.{no_rights, has_rights, is_there, join, joined}
use Rattle.jade_base.specs.Specification.{AllAbove, IsAscending, IsAbsent, IsAt, IsMissing, IsSettled, IsThere, is_of, joined_in, place_in, rights_in}
use Rattle.jade_base.specs.Specification.{shown, shown_all, with_first}

AllAbove-weaker : (m n : ℕ) (es : List (ObjectId × Rights)) → m < n → AllAbove n es → AllAbove m es
AllAbove-weaker m n [] h a = tt
AllAbove-weaker m n (e ∷ es) h a = (omega (arith, a.0), AllAbove-weaker m n es h a.1)

above-at : (n : ℕ) (xs : List Entry) (k : ℕ) (d : Entry) → AllAbove n (shown_all xs) → k < length xs → n < (get_or xs k d).object.0
above-at n [] k d a h = absurd (omega arith)
above-at n (e ∷ es) zero d a h = a.0
above-at n (e ∷ es) (suc k) d a h = above-at n es k d a.1 (omega arith)

-- entries with lesser numbers stand before the others
pub parted : (xs : List Entry) (o : ObjectId) → IsAscending (shown_all xs) → IsPartitionedBy (λ e. ltb e.object.0 o.0) xs
parted [] o up i j d le within below = absurd (omega arith)
parted (e ∷ es) o up zero zero d le within below = below
parted (e ∷ es) o up zero (suc j) d le within below =
    lt-ltb e.object.0 o.0 (omega (arith, above-at e.object.0 es j d up.1 (omega arith), ltb-true (get_or es j d).object.0 o.0 below))
parted (e ∷ es) o up (suc i) zero d le within below = absurd (omega arith)
parted (e ∷ es) o up (suc i) (suc j) d le within below = parted es o up.2 i j d (omega arith) (omega arith) below

-- a search by halves ends at the place where the object has its entry or would have it
pub place_in-found : (xs : List Entry) (o : ObjectId) (i : ℕ) → i ≤ length xs
    → IsPartitionPoint (λ e. ltb e.object.0 o.0 ≡ true) (λ e. ltb e.object.0 o.0 ≡ false) xs i → i ≡ place_in xs o
place_in-found [] o i h p = omega arith
place_in-found (e ∷ es) o zero h p = rw (p.1 0 e (omega arith) (omega arith)) refl
place_in-found (e ∷ es) o (suc i) h p =
    let later : IsPartitionPoint (λ e. ltb e.object.0 o.0 ≡ true) (λ e. ltb e.object.0 o.0 ≡ false) es i =
    (λ k d a b. p.0 (suc k) d (omega arith) (omega arith), λ k d a b. p.1 (suc k) d (omega arith) (omega arith)) in
    rw (p.0 0 e (omega arith) (omega arith)) (ap suc (place_in-found es o i (omega arith) later))

-- the entry at such a place is the object's, or the object has none
pub is-there : (xs : List Entry) (o : ObjectId) (place : ℕ) (e : Entry) → place ≡ place_in xs o → place < length xs → (get_or xs place e).object.0 ≡ o.0
    → IsThere xs o place
is-there xs o place e found within same = (found, within, λ d. ap (λ t. t.object.0) (get_or_default xs place d e within) ∙ same)

pub is-absent : (xs : List Entry) (o : ObjectId) (place : ℕ) (e : Entry) → place ≡ place_in xs o → place ≤ length xs
    → (place < length xs → (get_or xs place e).object.0 ≢ o.0) → IsAbsent xs o place
is-absent xs o place e found bound other =
    (found, bound, λ d within same. other within (ap (λ t. t.object.0) (get_or_default xs place e d within) ∙ same))

-- the object that has an entry is found there, counted from a number on
position-there : (xs : List Entry) (o : ObjectId) (n : ℕ) (d : Entry) → place_in xs o < length xs → (get_or xs (place_in xs o) d).object.0 ≡ o.0
    → position_from (is_of o) n (shown_all xs) ≡ Some (n + place_in xs o)
position-there [] o n d h same = absurd (omega arith)
position-there (e ∷ es) o n d h same =
    elim (ltb e.object.0 o.0) as (λ b. ltb e.object.0 o.0 ≡ b → cond b (suc (place_in es o)) 0 < length (e ∷ es)
    → (get_or (e ∷ es) (cond b (suc (place_in es o)) 0) d).object.0 ≡ o.0
    → position_from (is_of o) n (shown_all (e ∷ es)) ≡ Some (n + cond b (suc (place_in es o)) 0)) [
      | true ↦ λ below k q.
          rw (ne_eqb e.object.0 o.0 (λ w. omega (arith, ltb-true e.object.0 o.0 below))) (position-there es o (n + 1) d (omega arith) q
          ∙ ap Some (omega arith))
      | false ↦ λ below k q. rw (eq-eqb e.object.0 o.0 q) (ap Some (omega arith))
    ] refl h same

position-above : (es : List (ObjectId × Rights)) (o : ObjectId) (n : ℕ) → AllAbove o.0 es → position_from (is_of o) n es ≡ None
position-above [] o n a = refl
position-above (e ∷ es) o n a = rw (ne_eqb e.0.0 o.0 (λ w. omega (arith, a.0))) (position-above es o (n + 1) a.1)

-- an object that has no entry is not found
position-absent : (xs : List Entry) (o : ObjectId) (n : ℕ) → IsAscending (shown_all xs)
    → ((d : Entry) → place_in xs o < length xs → (get_or xs (place_in xs o) d).object.0 ≢ o.0) → position_from (is_of o) n (shown_all xs) ≡ None
position-absent [] o n up h = refl
position-absent (e ∷ es) o n up h =
    elim (ltb e.object.0 o.0) as (λ b. ltb e.object.0 o.0 ≡ b → ((d : Entry) → cond b (suc (place_in es o)) 0 < length (e ∷ es)
    → (get_or (e ∷ es) (cond b (suc (place_in es o)) 0) d).object.0 ≢ o.0) → position_from (is_of o) n (shown_all (e ∷ es)) ≡ None) [
      | true ↦ λ below k.
          rw (ne_eqb e.object.0 o.0 (λ w. omega (arith, ltb-true e.object.0 o.0 below))) (position-absent es o (n + 1) up.2 (λ d q. k d (omega arith)))
      | false ↦ λ below k.
          let other = k e (omega arith) in
          let above : o.0 < e.object.0 = omega (arith, ltb-false e.object.0 o.0 below, other) in
          rw (ne_eqb e.object.0 o.0 other) (position-above (shown_all es) o (n + 1) (AllAbove-weaker o.0 e.object.0 (shown_all es) above up.1))
    ] refl h

-- what a search tells of the place of an object
pub position-of_there : (xs : List Entry) (o : ObjectId) (place : ℕ) → IsThere xs o place → position_from (is_of o) 0 (shown_all xs) ≡ Some place
position-of_there [] o place h = absurd (omega (arith, h.1))
position-of_there (e ∷ es) o place h =
    let xs = e ∷ es in
    let same = subst (λ p. (get_or xs p e).object.0 ≡ o.0) h.0 (h.2 e) in
    position-there xs o 0 e (subst (λ p. p < length xs) h.0 h.1) same ∙ ap Some (omega (arith, h.0))

pub position-of_absent : (xs : List Entry) (o : ObjectId) (place : ℕ) → IsAscending (shown_all xs) → IsAbsent xs o place
    → position_from (is_of o) 0 (shown_all xs) ≡ None
position-of_absent xs o place up h =
    position-absent xs o 0 up (λ d k. subst (λ p. p < length xs → (get_or xs p d).object.0 ≢ o.0) h.0 (h.2 d) k)

-- the object's entry stands where those with lesser numbers end
place_in-at : (xs : List Entry) (o : ObjectId) (k : ℕ) (d : Entry) → IsAscending (shown_all xs) → k < length xs → (get_or xs k d).object.0 ≡ o.0
    → k ≡ place_in xs o
place_in-at [] o k d up h same = absurd (omega (arith, h))
place_in-at (e ∷ es) o zero d up h same = rw (le-ltb e.object.0 o.0 (omega (arith, same))) refl
place_in-at (e ∷ es) o (suc k) d up h same =
    let above = above-at e.object.0 es k d up.1 (omega (arith, h)) in
    rw (lt-ltb e.object.0 o.0 (omega (arith, above, same))) (ap suc (place_in-at es o k d up.2 (omega (arith, h)) same))

pub there_from : (xs : List Entry) (o : ObjectId) (place : ℕ) → IsAscending (shown_all xs) → IsAt xs o place → IsThere xs o place
there_from [] o place up h = absurd (omega (arith, h.0))
there_from (e ∷ es) o place up h = (place_in-at (e ∷ es) o place e up h.0 (h.1 e), h.0, h.1)

-- the answer of a search, as the first entry that is the object's
pub found_at : (xs : List Entry) (o : ObjectId) (r : Option ℕ) → IsAscending (shown_all xs) → MatchOption r (IsMissing xs o) (IsAt xs o)
    → r ≡ position_from (is_of o) 0 (shown_all xs)
found_at xs o (Some place) up h = sym (position-of_there xs o place (there_from xs o place up h))
found_at xs o None up h = sym h

-- the answer of a search by halves, without the place where the object would be
pub found_by_halves : (xs : List Entry) (o : ObjectId) (r : Result ℕ ℕ) → IsAscending (shown_all xs) → MatchResult r (IsThere xs o) (IsAbsent xs o)
    → MatchOption (result_ok r) (IsMissing xs o) (IsAt xs o)
found_by_halves xs o (Ok place) up h = (h.1, h.2)
found_by_halves xs o (Err place) up h = position-of_absent xs o place up h

-- a search through one run of entries, and through the one after it
missing_from : (xs : List Entry) (o : ObjectId) (n : ℕ) → All (λ e. e.object.0 ≢ o.0) xs → position_from (is_of o) n (shown_all xs) ≡ None
missing_from [] o n h = refl
missing_from (e ∷ es) o n h =
    rw (ne_eqb e.object.0 o.0 (h 0 e (omega arith))) (missing_from es o (n + 1) (λ k d lt. h (suc k) d (omega (arith, lt))))

pub missing_in_runs : (xs ys : List Entry) (o : ObjectId) → All (λ e. e.object.0 ≢ o.0) xs → All (λ e. e.object.0 ≢ o.0) ys → IsMissing (xs ++ ys) o
missing_in_runs xs ys o h g = missing_from (xs ++ ys) o 0 (All-append (λ e. e.object.0 ≢ o.0) xs ys h g)

-- what it tells of the rights
rights-at : (xs : List Entry) (o : ObjectId) (d : Entry) → IsAscending (shown_all xs) → place_in xs o < length xs
    → (get_or xs (place_in xs o) d).object.0 ≡ o.0 → rights_in (shown_all xs) o ≡ (get_or xs (place_in xs o) d).rights
rights-at [] o d up h same = absurd (omega arith)
rights-at (e ∷ es) o d up h same =
    elim (ltb e.object.0 o.0) as (λ b. ltb e.object.0 o.0 ≡ b → cond b (suc (place_in es o)) 0 < length (e ∷ es)
    → (get_or (e ∷ es) (cond b (suc (place_in es o)) 0) d).object.0 ≡ o.0
    → rights_in (shown_all (e ∷ es)) o ≡ (get_or (e ∷ es) (cond b (suc (place_in es o)) 0) d).rights) [
      | true ↦ λ below k q. rw (ne_eqb e.object.0 o.0 (λ w. omega (arith, ltb-true e.object.0 o.0 below))) (rights-at es o d up.2 (omega arith) q)
      | false ↦ λ below k q. rw (eq-eqb e.object.0 o.0 q) refl
    ] refl h same

pub rights-of_there : (xs : List Entry) (o : ObjectId) (place : ℕ) (x : Entry) → IsAscending (shown_all xs) → IsThere xs o place → x ≡ get_or xs place x
    → x.rights ≡ rights_in (shown_all xs) o
rights-of_there xs o place x up h q =
    let same = subst (λ p. (get_or xs p x).object.0 ≡ o.0) h.0 (h.2 x) in
    let there = rights-at xs o x up (subst (λ p. p < length xs) h.0 h.1) same in
    ap (λ e. e.rights) q ∙ (ap (λ p. (get_or xs p x).rights) h.0 ∙ sym there)

pub rights-without : (es : List (ObjectId × Rights)) (o : ObjectId) (n : ℕ) → position_from (is_of o) n es ≡ None → rights_in es o ≡ no_rights
rights-without [] o n h = refl
rights-without (e ∷ es) o n h =
    elim (eqb e.0.0 o.0) as (λ b. cond b (Some n) (position_from (is_of o) (n + 1) es) ≡ None → cond b e.1 (rights_in es o) ≡ no_rights) [
      | true ↦ λ q. absurd (cc)
      | false ↦ λ q. rights-without es o (n + 1) q
    ] h

-- rights on an object that is there are joined at its place
pub joined-there : (xs : List Entry) (o : ObjectId) (r : Rights) (x : Entry) → place_in xs o < length xs → x ≡ get_or xs (place_in xs o) x → x.object.0 ≡ o.0
    → shown_all (set xs (place_in xs o) (record x { rights = join x.rights r })) ≡ joined_in (shown_all xs) o r
joined-there [] o r x h q same = absurd (omega arith)
joined-there (e ∷ es) o r x h q same =
    elim (ltb e.object.0 o.0) as (λ b. cond b (suc (place_in es o)) 0 < length (e ∷ es) → x ≡ get_or (e ∷ es) (cond b (suc (place_in es o)) 0) x
    → shown_all (set (e ∷ es) (cond b (suc (place_in es o)) 0) (record x { rights = join x.rights r })) ≡ cond b (shown e ∷ joined_in (shown_all es) o r)
    (cond (eqb e.object.0 o.0) ((e.object, join e.rights r) ∷ shown_all es) (with_first o r (shown_all (e ∷ es))))) [
      | true ↦ λ k p. ap (λ t. shown e ∷ t) (joined-there es o r x (omega arith) p same)
      | false ↦ λ k p.
          let here : e.object.0 ≡ o.0 = ap (λ t. t.object.0) (sym p) ∙ same in
          rw (eq-eqb e.object.0 o.0 here) (ap (λ t. (t.object, join t.rights r) ∷ shown_all es) p)
    ] h q

-- rights on an object that is not there come at its place
pub joined-absent : (xs : List Entry) (o : ObjectId) (r : Rights) → ((d : Entry) → place_in xs o < length xs → (get_or xs (place_in xs o) d).object.0 ≢ o.0)
    → joined_in (shown_all xs) o r ≡ shown_all (take (place_in xs o) xs) ++ with_first o r (shown_all (drop (place_in xs o) xs))
joined-absent [] o r h = refl
joined-absent (e ∷ es) o r h =
    elim (ltb e.object.0 o.0) as (λ b. ((d : Entry) → cond b (suc (place_in es o)) 0 < length (e ∷ es)
    → (get_or (e ∷ es) (cond b (suc (place_in es o)) 0) d).object.0 ≢ o.0) → cond b (shown e ∷ joined_in (shown_all es) o r)
    (cond (eqb e.object.0 o.0) ((e.object, join e.rights r) ∷ shown_all es) (with_first o r (shown_all (e ∷ es)))) ≡ shown_all
    (take (cond b (suc (place_in es o)) 0) (e ∷ es)) ++ with_first o r (shown_all (drop (cond b (suc (place_in es o)) 0) (e ∷ es)))) [
      | true ↦ λ k. ap (λ t. shown e ∷ t) (joined-absent es o r (λ d q. k d (omega arith)))
      | false ↦ λ k. rw (ne_eqb e.object.0 o.0 (k e (omega arith)))
    ] h

pub joined-new : (xs : List Entry) (o : ObjectId) (r : Rights) (place : ℕ) (y : Entry) → IsAbsent xs o place → has_rights r ≡ true → y.object ≡ o → y.rights ≡ r
    → shown_all (insert xs place y) ≡ joined_in (shown_all xs) o r
joined-new xs o r place y h some e f =
    let absent = λ (d : Entry) (k : place_in xs o < length xs). subst (λ p. p < length xs → (get_or xs p d).object.0 ≢ o.0) h.0 (h.2 d) k in
    subst (λ p. shown_all (insert xs p y) ≡ joined_in (shown_all xs) o r) (sym h.0)
    (map-append shown (take (place_in xs o) xs) (y ∷ drop (place_in xs o) xs) ∙ sym (rw (joined-absent xs o r absent, some, e, f)))

pub joined-none : (xs : List Entry) (o : ObjectId) (r : Rights) (place : ℕ) → IsAbsent xs o place → has_rights r ≡ false
    → joined_in (shown_all xs) o r ≡ shown_all xs
joined-none xs o r place h none =
    let absent = λ (d : Entry) (k : place_in xs o < length xs). subst (λ p. p < length xs → (get_or xs p d).object.0 ≢ o.0) h.0 (h.2 d) k in
    rw (joined-absent xs o r absent, none)
    (sym (map-append shown (take (place_in xs o) xs) (drop (place_in xs o) xs)) ∙ ap shown_all (take-append-drop (place_in xs o) xs))

AllAbove-with_first : (n : ℕ) (o : ObjectId) (r : Rights) (es : List (ObjectId × Rights)) → n < o.0 → AllAbove n es → AllAbove n (with_first o r es)
AllAbove-with_first n o r es h a = elim (has_rights r) as (λ b. AllAbove n (cond b ((o, r) ∷ es) es)) [ true ↦ (h, a) | false ↦ a ]

AllAbove-joined_in : (n : ℕ) (es : List (ObjectId × Rights)) (o : ObjectId) (r : Rights) → n < o.0 → AllAbove n es → AllAbove n (joined_in es o r)
AllAbove-joined_in n [] o r h a = AllAbove-with_first n o r [] h tt
AllAbove-joined_in n (e ∷ es) o r h a =
    elim (ltb e.0.0 o.0) as (λ b. AllAbove n (cond b (e ∷ joined_in es o r) (cond (eqb e.0.0 o.0) ((e.0, join e.1 r) ∷ es) (with_first o r (e ∷ es))))) [
      | true ↦ (a.0, AllAbove-joined_in n es o r h a.1)
      | false ↦ elim (eqb e.0.0 o.0) as (λ b. AllAbove n (cond b ((e.0, join e.1 r) ∷ es) (with_first o r (e ∷ es)))) [
        | true ↦ a
        | false ↦ AllAbove-with_first n o r (e ∷ es) h a
      ]
    ]

is_there-joined : (a b : Right) → is_there (joined a b) ≡ (is_there a || is_there b)
is_there-joined Absent b = refl
is_there-joined Deferred Absent = refl
is_there-joined Deferred Deferred = refl
is_there-joined Deferred Immediate = refl
is_there-joined Immediate b = refl

-- joining takes no right away
has_rights-join : (a b : Rights) → has_rights a ≡ true → has_rights (join a b) ≡ true
has_rights-join a b h = rw (is_there-joined a.reads b.reads, is_there-joined a.writes b.writes, is_there-joined a.commutes b.commutes) (grind arith)

IsAscending-with_first : (o : ObjectId) (r : Rights) (es : List (ObjectId × Rights)) → AllAbove o.0 es → IsAscending es → IsAscending (with_first o r es)
IsAscending-with_first o r es a h =
    elim (has_rights r) as (λ b. has_rights r ≡ b → IsAscending (cond b ((o, r) ∷ es) es)) [ true ↦ λ e. (e, a, h) | false ↦ λ e. h ] refl

-- a declaration keeps the entries in order
pub IsAscending-joined_in : (es : List (ObjectId × Rights)) (o : ObjectId) (r : Rights) → IsAscending es → IsAscending (joined_in es o r)
IsAscending-joined_in [] o r h = IsAscending-with_first o r [] tt tt
IsAscending-joined_in (e ∷ es) o r h =
    elim (ltb e.0.0 o.0) as (λ b. ltb e.0.0 o.0 ≡ b
    → IsAscending (cond b (e ∷ joined_in es o r) (cond (eqb e.0.0 o.0) ((e.0, join e.1 r) ∷ es) (with_first o r (e ∷ es))))) [
      | true ↦ λ below. (h.0, AllAbove-joined_in e.0.0 es o r (ltb-true e.0.0 o.0 below) h.1, IsAscending-joined_in es o r h.2)
      | false ↦ λ below. elim (eqb e.0.0 o.0) as (λ b. eqb e.0.0 o.0 ≡ b → IsAscending (cond b ((e.0, join e.1 r) ∷ es) (with_first o r (e ∷ es)))) [
        | true ↦ λ same. (has_rights-join e.1 r h.0, h.1, h.2)
        | false ↦ λ same.
            let above : o.0 < e.0.0 = omega (arith, ltb-false e.0.0 o.0 below, eqb-false e.0.0 o.0 same) in
            IsAscending-with_first o r (e ∷ es) (above, AllAbove-weaker o.0 e.0.0 es above h.1) h
      ] refl
    ] refl

rights_in-above : (es : List (ObjectId × Rights)) (o : ObjectId) → AllAbove o.0 es → rights_in es o ≡ no_rights
rights_in-above [] o a = refl
rights_in-above (e ∷ es) o a = rw (ne_eqb e.0.0 o.0 (λ q. omega (arith, a.0))) (rights_in-above es o a.1)

none_there : (a b c : Right) → ((is_there a || is_there b) || is_there c) ≡ false → record { reads = a; writes = b; commutes = c } ≡ no_rights
none_there Absent Absent Absent h = refl
none_there Absent Absent Deferred h = absurd (cc)
none_there Absent Absent Immediate h = absurd (cc)
none_there Absent Deferred c h = absurd (cc)
none_there Absent Immediate c h = absurd (cc)
none_there Deferred b c h = absurd (cc)
none_there Immediate b c h = absurd (cc)

-- rights of which none is there are no rights
is_no_rights : (r : Rights) → has_rights r ≡ false → r ≡ no_rights
is_no_rights r h = none_there r.reads r.writes r.commutes h

with_first-here : (o : ObjectId) (r : Rights) (es : List (ObjectId × Rights)) → AllAbove o.0 es → rights_in (with_first o r es) o ≡ r
with_first-here o r es a =
    elim (has_rights r) as (λ b. has_rights r ≡ b → rights_in (cond b ((o, r) ∷ es) es) o ≡ r) [
      | true ↦ λ p. rw (eq-eqb o.0 o.0 refl)
      | false ↦ λ p. rights_in-above es o a ∙ sym (is_no_rights r p)
    ] refl

with_first-elsewhere : (o : ObjectId) (r : Rights) (es : List (ObjectId × Rights)) (q : ObjectId) → q.0 ≢ o.0 → rights_in (with_first o r es) q ≡ rights_in es q
with_first-elsewhere o r es q h =
    elim (has_rights r) as (λ b. rights_in (cond b ((o, r) ∷ es) es) q ≡ rights_in es q) [ true ↦ rw (ne_eqb o.0 q.0 (λ e. h (sym e))) | false ↦ refl ]

-- what a declaration leaves on its object
pub rights_in-here : (es : List (ObjectId × Rights)) (o : ObjectId) (r : Rights) → IsAscending es → rights_in (joined_in es o r) o ≡ join (rights_in es o) r
rights_in-here [] o r h = with_first-here o r [] tt
rights_in-here (e ∷ es) o r h =
    elim (ltb e.0.0 o.0) as (λ b. ltb e.0.0 o.0 ≡ b
    → rights_in (cond b (e ∷ joined_in es o r) (cond (eqb e.0.0 o.0) ((e.0, join e.1 r) ∷ es) (with_first o r (e ∷ es)))) o ≡ join (rights_in (e ∷ es) o) r) [
      | true ↦ λ below. rw (ne_eqb e.0.0 o.0 (λ same. omega (arith, ltb-true e.0.0 o.0 below))) (rights_in-here es o r h.2)
      | false ↦ λ below. elim (eqb e.0.0 o.0) as (λ b. eqb e.0.0 o.0 ≡ b → rights_in (cond b ((e.0, join e.1 r) ∷ es) (with_first o r (e ∷ es))) o ≡ join
          (rights_in (e ∷ es) o) r) [
            | true ↦ λ same. rw same
            | false ↦ λ same.
                let above : o.0 < e.0.0 = omega (arith, ltb-false e.0.0 o.0 below, eqb-false e.0.0 o.0 same) in
                let all : AllAbove o.0 (e ∷ es) = (above, AllAbove-weaker o.0 e.0.0 es above h.1) in
                with_first-here o r (e ∷ es) all ∙ ap (λ t. join t r) (sym (rights_in-above (e ∷ es) o all))
          ] refl
    ] refl

-- what a declaration leaves on another object
pub rights_in-elsewhere : (es : List (ObjectId × Rights)) (o : ObjectId) (r : Rights) (q : ObjectId) → q.0 ≢ o.0
    → rights_in (joined_in es o r) q ≡ rights_in es q
rights_in-elsewhere [] o r q h = with_first-elsewhere o r [] q h
rights_in-elsewhere (e ∷ es) o r q h =
    elim (ltb e.0.0 o.0) as (λ b. rights_in (cond b (e ∷ joined_in es o r) (cond (eqb e.0.0 o.0) ((e.0, join e.1 r) ∷ es) (with_first o r (e ∷ es)))) q
    ≡ rights_in (e ∷ es) q) [
      | true ↦ ap (λ t. cond (eqb e.0.0 q.0) e.1 t) (rights_in-elsewhere es o r q h)
      | false ↦ elim (eqb e.0.0 o.0) as (λ b. eqb e.0.0 o.0 ≡ b → rights_in (cond b ((e.0, join e.1 r) ∷ es) (with_first o r (e ∷ es))) q ≡ rights_in
          (e ∷ es) q) [
            | true ↦ λ same. rw (ne_eqb e.0.0 q.0 (λ w. h (sym w ∙ eqb-true e.0.0 o.0 same)))
            | false ↦ λ same. with_first-elsewhere o r (e ∷ es) q h
          ] refl
    ]

-- the same at a place that is known to be the object's, where an entry of these rights takes the place of that which was there
pub joined-at : (xs : List Entry) (o : ObjectId) (r : Rights) (place : ℕ) (x y : Entry) → IsThere xs o place → x ≡ get_or xs place x → y.object.0 ≡ o.0
    → y.rights ≡ join x.rights r → shown_all (set xs place y) ≡ joined_in (shown_all xs) o r
joined-at xs o r place x y h q here rights =
    let named : ℕ → ObjectId = λ n. record { 0 = n } in
    let same : x.object.0 ≡ o.0 = ap (λ t. t.object.0) q ∙ h.2 x in
    let old = subst (λ p. shown_all (set xs p (record x { rights = join x.rights r })) ≡ joined_in (shown_all xs) o r) (sym h.0)
    (joined-there xs o r x (subst (λ p. p < length xs) h.0 h.1) (subst (λ p. x ≡ get_or xs p x) h.0 q) same) in
    let alike : shown y ≡ (x.object, join x.rights r) = rw (rights, ap named (here ∙ sym same)) refl in
    map-set shown xs place y ∙ (ap (λ t. set (shown_all xs) place t) alike
    ∙ (sym (map-set shown xs place (record x { rights = join x.rights r })) ∙ old))

-- drafts that are the rights stay so where an entry of this kind takes a place, or comes in at one
pub settled-set : (xs : List Entry) (place : ℕ) (y : Entry) → y.draft ≡ y.rights → IsSettled xs → IsSettled (set xs place y)
settled-set xs place y q h =
    map-set (λ e. e.draft) xs place y ∙ (rw (h, q) refl ∙ sym (map-set (λ e. e.rights) xs place y))

map-insert : (f : Entry → Rights) (xs : List Entry) (place : ℕ) (y : Entry)
    → map f (insert xs place y) ≡ take place (map f xs) ++ f y ∷ drop place (map f xs)
map-insert f xs place y = map-append f (take place xs) (y ∷ drop place xs) ∙ rw (take-map f place xs, drop-map f place xs) refl

pub settled-insert : (xs : List Entry) (place : ℕ) (y : Entry) → y.draft ≡ y.rights → IsSettled xs → IsSettled (insert xs place y)
settled-insert xs place y q h =
    map-insert (λ e. e.draft) xs place y ∙ (rw (h, q) refl ∙ sym (map-insert (λ e. e.rights) xs place y))
