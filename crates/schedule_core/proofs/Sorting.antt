-- A stable sort by key gives the notes by ascending key.
use Rattle.std.proofs.Common.{◌≡◌, ℕ, zero, suc, ◌<◌, ◌≤◌, Bool, true, false, cond, List, [], ◌∷◌, ◌++◌, length, filter, get_or, refl, sym, ap, ◌∙◌}
use Rattle.std.proofs.Common.{suc-le-suc, zero-le}
use Rattle.std.specs.Prelude.{not, ◌&&◌, if◌then◌else◌}
use Rattle.std.specs.Cmp.{IsStrictWeakOrder}
use Rattle.std.specs.List.Sorted.{ties, IsSortedBy, IsStableBy}
use Rattle.std.proofs.lemmas.Bool.{true≢false, cond-true, cond-false, and_parts, not-true}
use Rattle.std.proofs.lemmas.List.Sorted.{sorted_far}
use Rattle.task_roll.specs.declared.note.PartNote.{PartNote}
use Rattle.task_roll.specs.Rolls.{note_key, filed, filed_into, by_key}
use Rattle.schedule_core.specs.steps.Ascending.{stands_before, NoneBefore, Ascend}
use Rattle.schedule_core.proofs.Ascending.{asym, through, ascend_filed, by_key_ascends}

abbrev key_ties : PartNote → PartNote → Bool
key_ties = ties stands_before

one_way : (n m : PartNote) → stands_before n m ≡ true → stands_before m n ≡ false
one_way n m e = asym (note_key n) (note_key m) e

chain : (n m o : PartNote) → stands_before n m ≡ false → stands_before m o ≡ false → stands_before n o ≡ false
chain n m o e f = go (stands_before n o) refl
  where
    go : (b : Bool) → stands_before n o ≡ b → b ≡ false
    go false g = refl
    go true g = sym (through (note_key n) (note_key o) (note_key m) g f) ∙ e

pub by_key_orders : IsStrictWeakOrder stands_before
by_key_orders = record { one_way = one_way; chain = chain }

ties_self : (n : PartNote) → key_ties n n ≡ true
ties_self n = go (stands_before n n) refl
  where
    go : (b : Bool) → stands_before n n ≡ b → (not b && not b) ≡ true
    go false e = refl
    go true e = absurd (true≢false (sym e ∙ one_way n n e))

neither_ties : (n m : PartNote) → stands_before n m ≡ false → stands_before m n ≡ false → key_ties n m ≡ true
neither_ties n m e f = ap (λ b. not b && not (stands_before m n)) e ∙ ap (λ b. not false && not b) f

before_no_tie : (n m : PartNote) → stands_before n m ≡ true → key_ties n m ≡ false
before_no_tie n m e = ap (λ b. not b && not (stands_before m n)) e

-- what ties with a note stands before all that the note stands before
tie_before : (x n m : PartNote) → key_ties x n ≡ true → stands_before n m ≡ true → stands_before x m ≡ true
tie_before x n m e f = go (stands_before x m) refl
  where
    go : (b : Bool) → stands_before x m ≡ b → b ≡ true
    go true g = refl
    go false g = sym (chain n x m (not-true _ (and_parts (not (stands_before x n)) (not (stands_before n x)) e).1) g) ∙ f

-- a note stands before each of these
abbrev BeforeAll : PartNote → List PartNote → Type 0
BeforeAll n [] = Unit {0}
BeforeAll n (m ∷ ms) = (stands_before n m ≡ true) × BeforeAll n ms

before_all : (x n m : PartNote) (ms : List PartNote) → key_ties x n ≡ true → stands_before n m ≡ true → NoneBefore m ms → BeforeAll x ms
before_all x n m [] e f h = tt
before_all x n m (o ∷ ms) e f h = (
  tie_before x n o e (through (note_key n) (note_key m) (note_key o) f h.0),
  before_all x n m ms e f h.1,
)

none_tie : (x : PartNote) (ms : List PartNote) → BeforeAll x ms → filter (key_ties x) ms ≡ []
none_tie x [] h = refl
none_tie x (m ∷ ms) h = cond-false _ _ _ (before_no_tie x m h.0) ∙ none_tie x ms h.1

append_nil : (ms : List PartNote) → ms ++ [] ≡ ms
append_nil [] = refl
append_nil (m ∷ ms) = ap (λ xs. m ∷ xs) (append_nil ms)

append_more : (n : PartNote) (ms ns : List PartNote) (p : PartNote → Bool) → (ms ++ filter p (n ∷ [])) ++ filter p ns ≡ ms ++ filter p (n ∷ ns)
append_more n [] ns p = go (p n)
  where
    go : (b : Bool) → cond b (n ∷ []) [] ++ filter p ns ≡ cond b (n ∷ filter p ns) (filter p ns)
    go true = refl
    go false = refl
append_more n (m ∷ ms) ns p = ap (λ xs. m ∷ xs) (append_more n ms ns p)

-- a filed note comes after those that tie with it
filter_filed : (x n : PartNote) (ms : List PartNote) → Ascend ms
    → filter (key_ties x) (filed n ms) ≡ filter (key_ties x) ms ++ filter (key_ties x) (n ∷ [])
filter_filed x n [] h = refl
filter_filed x n (m ∷ ms) h = go (stands_before n m) refl (filter_filed x n ms h.1)
  where
    rest : List PartNote
    rest = filter (key_ties x) (m ∷ ms)

    first : (b : Bool) → key_ties x n ≡ b → stands_before n m ≡ true → cond b (n ∷ rest) rest ≡ rest ++ cond b (n ∷ []) []
    first false e f = sym (append_nil rest)
    first true e f =
        let none : rest ≡ [] = none_tie x (m ∷ ms) (tie_before x n m e f, before_all x n m ms e f h.0) in
        ap (λ xs. n ∷ xs) none ∙ ap (λ xs. xs ++ n ∷ []) (sym none)

    later : (b : Bool) → filter (key_ties x) (filed n ms) ≡ filter (key_ties x) ms ++ filter (key_ties x) (n ∷ [])
        → cond b (m ∷ filter (key_ties x) (filed n ms)) (filter (key_ties x) (filed n ms))
        ≡ cond b (m ∷ filter (key_ties x) ms) (filter (key_ties x) ms) ++ filter (key_ties x) (n ∷ [])
    later true e = ap (λ xs. m ∷ xs) e
    later false e = e

    go : (b : Bool) → stands_before n m ≡ b → filter (key_ties x) (filed n ms) ≡ filter (key_ties x) ms ++ filter (key_ties x) (n ∷ [])
        → filter (key_ties x) (if b then n ∷ (m ∷ ms) else m ∷ filed n ms) ≡ rest ++ filter (key_ties x) (n ∷ [])
    go true e f = first (key_ties x n) refl e
    go false e f = later (key_ties x m) f

filter_filed_into : (x : PartNote) (ns ms : List PartNote) → Ascend ms
    → filter (key_ties x) (filed_into ns ms) ≡ filter (key_ties x) ms ++ filter (key_ties x) ns
filter_filed_into x [] ms h = sym (append_nil (filter (key_ties x) ms))
filter_filed_into x (n ∷ ns) ms h =
    filter_filed_into x ns (filed n ms) (ascend_filed n ms h)
    ∙ ap (λ xs. xs ++ filter (key_ties x) ns) (filter_filed x n ms h)
    ∙ append_more n (filter (key_ties x) ms) ns (key_ties x)

-- what two equal lists share
abbrev is_empty : List PartNote → Bool
is_empty [] = true
is_empty (x ∷ xs) = false

abbrev first_or : PartNote → List PartNote → PartNote
first_or d [] = d
first_or d (x ∷ xs) = x

abbrev rest_of : List PartNote → List PartNote
rest_of [] = []
rest_of (x ∷ xs) = xs

kept_first : (n : PartNote) (ns : List PartNote) (p : PartNote → Bool) → p n ≡ true → filter p (n ∷ ns) ≡ n ∷ filter p ns
kept_first n ns p e = cond-true _ _ _ e

-- of two lists that tie alike, none begins with a note that stands before the other's
no_other : (n m : PartNote) (ns ms : List PartNote) → NoneBefore m ms → filter (key_ties n) (n ∷ ns) ≡ filter (key_ties n) (m ∷ ms)
    → stands_before n m ≡ true → ⊥
no_other n m ns ms h same e =
    let none : filter (key_ties n) (m ∷ ms) ≡ [] = none_tie n (m ∷ ms) (e, before_all n n m ms (ties_self n) e h) in
    true≢false (sym (ap is_empty (sym (kept_first n ns (key_ties n) (ties_self n)) ∙ same ∙ none)))

-- lists by ascending key in which the notes of each key stand alike are the same
alike : (ns ms : List PartNote) → Ascend ns → Ascend ms → ((x : PartNote) → filter (key_ties x) ns ≡ filter (key_ties x) ms) → ns ≡ ms
alike [] [] h g same = refl
alike [] (m ∷ ms) h g same =
    absurd (true≢false (ap is_empty (same m ∙ kept_first m ms (key_ties m) (ties_self m))))
alike (n ∷ ns) [] h g same =
    absurd (true≢false (sym (ap is_empty (sym (kept_first n ns (key_ties n) (ties_self n)) ∙ same n))))
alike (n ∷ ns) (m ∷ ms) h g same = go (stands_before n m) refl (stands_before m n) refl (alike ns ms h.1 g.1)
  where
    left : (x : PartNote) (b : Bool) → cond b (n ∷ filter (key_ties x) ns) (filter (key_ties x) ns)
        ≡ cond b (n ∷ filter (key_ties x) ms) (filter (key_ties x) ms) → filter (key_ties x) ns ≡ filter (key_ties x) ms
    left x true e = ap rest_of e
    left x false e = e

    go : (a : Bool) → stands_before n m ≡ a → (b : Bool) → stands_before m n ≡ b
        → (((x : PartNote) → filter (key_ties x) ns ≡ filter (key_ties x) ms) → ns ≡ ms) → ◌≡◌ {A = List PartNote} (n ∷ ns) (m ∷ ms)
    go true e b f others = absurd (no_other n m ns ms g.0 (same n) e)
    go false e true f others = absurd (no_other m n ms ns h.0 (sym (same m)) f)
    go false e false f others =
        let first : n ≡ m = ap (first_or n) (sym (kept_first n ns (key_ties n) (ties_self n)) ∙ same n
        ∙ kept_first m ms (key_ties n) (neither_ties n m e f)) in
        let later = others (λ x. left x (key_ties x n) (same x ∙ ap (λ y. filter (key_ties x) (y ∷ ms)) (sym first))) in
        ap (λ y. y ∷ ns) first ∙ ap (λ xs. m ∷ xs) later

none_before : (n : PartNote) (ns : List PartNote) → ((j : ℕ) → j < length ns → stands_before (get_or ns j n) n ≡ false) → NoneBefore n ns
none_before n [] h = tt
none_before n (m ∷ ns) h = (h zero (suc-le-suc zero-le), none_before n ns (λ j lt. h (suc j) (suc-le-suc lt)))

ascends : (ns : List PartNote) → ((i j : ℕ) (d : PartNote) → i ≤ j → j < length ns → stands_before (get_or ns j d) (get_or ns i d) ≡ false) → Ascend ns
ascends [] h = tt
ascends (n ∷ ns) h = (
  none_before n ns (λ j lt. h zero (suc j) n zero-le (suc-le-suc lt)),
  ascends ns (λ i j d le lt. h (suc i) (suc j) d (suc-le-suc le) (suc-le-suc lt)),
)

pub sorted_is : (ns ms : List PartNote) → IsSortedBy stands_before ms → IsStableBy stands_before ns ms → ms ≡ by_key ns
sorted_is ns ms sorted stable =
    alike ms (by_key ns) (ascends ms (sorted_far stands_before by_key_orders ms sorted)) (by_key_ascends ns)
    (λ x. stable x ∙ sym (filter_filed_into x ns [] tt))
