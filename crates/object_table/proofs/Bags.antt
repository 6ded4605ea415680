-- Notes in any order: where no key comes twice, they are filed by key the same.
use Rattle.std.proofs.Common.{◌≡◌, ◌⊎◌, inl, inr, ℕ, suc, ◌+◌, ◌<◌, ◌≤◌, Bool, true, false, ◌&&◌, List, [], ◌∷◌, ◌++◌, refl, sym, ap, ◌∙◌, subst, arith, append_assoc, append-nil}
use Rattle.std.proofs.Common.{eq-eqb}
use Rattle.std.specs.Prelude.{if◌then◌else◌}
use Rattle.std.specs.declared.cmp.Ordering.{Ordering}
use Rattle.std.specs.declared.cmp.Ordering.TheVariants.{Less, Equal}
use Rattle.std.specs.Ordering.{nat_cmp, ordering_then, is_lt}
use Rattle.std.proofs.lemmas.Bool.{true≢false, cases_order}
use Rattle.std.proofs.lemmas.Bool.Decides.{nat_tests}
use Rattle.jade_base.specs.Places.{is_before, path_order, same_path}
use Rattle.task_roll.specs.declared.note.PartNote.{PartNote}
use Rattle.task_roll.specs.Rolls.{note_key, filed, filed_into, by_key}
use Rattle.task_roll.proofs.InOrder.{same-refl}
use Rattle.schedule_core.proofs.Ascending.{asym, through}
use Rattle.object_table.specs.Bags.{count_key, Few, Mixed, same, swap, chain}

-- of two keys that are not the same one stands before the other
less_cmp : (x y : ℕ) → x < y → nat_cmp x y ≡ Less
less_cmp x y lt = grind (arith, nat_tests)

equal_cmp : (x : ℕ) → nat_cmp x x ≡ Equal
equal_cmp x = grind (arith, nat_tests)

pub apart_keys : (p q : List ℕ) → same_path p q ≡ false → (is_before p q ≡ true) ⊎ (is_before q p ≡ true)
apart_keys [] [] e = absurd (true≢false e)
apart_keys [] (j ∷ q) e = inl refl
apart_keys (i ∷ p) [] e = inr refl
apart_keys (i ∷ p) (j ∷ q) e = go (cases_order i j) (apart_keys p q)
  where
    lt : (x y : ℕ) (o : Ordering) → x < y → is_lt (ordering_then (nat_cmp x y) o) ≡ true
    lt x y o l = ap (λ z. is_lt (ordering_then z o)) (less_cmp x y l)

    go : (i ≡ j) ⊎ ((i < j) ⊎ (j < i)) → (same_path p q ≡ false → (is_before p q ≡ true) ⊎ (is_before q p ≡ true))
        → (is_before (i ∷ p) (j ∷ q) ≡ true) ⊎ (is_before (j ∷ q) (i ∷ p) ≡ true)
    go (inr (inl l)) f = inl (lt i j (path_order p q) l)
    go (inr (inr l)) f = inr (lt j i (path_order q p) l)
    go (inl s) f = late (f (sym (ap (λ b. b && same_path p q) (eq-eqb i j s)) ∙ e))
      where
        late : (is_before p q ≡ true) ⊎ (is_before q p ≡ true) → (is_before (i ∷ p) (j ∷ q) ≡ true) ⊎ (is_before (j ∷ q) (i ∷ p) ≡ true)
        late (inl h) = inl (ap (λ z. is_lt (ordering_then (nat_cmp i z) (path_order p q))) (sym s)
            ∙ ap (λ z. is_lt (ordering_then z (path_order p q))) (equal_cmp i) ∙ h)
        late (inr h) = inr (ap (λ z. is_lt (ordering_then (nat_cmp z i) (path_order q p))) (sym s)
            ∙ ap (λ z. is_lt (ordering_then z (path_order q p))) (equal_cmp i) ∙ h)

-- two notes of different keys may be filed in either order
abbrev Apart : PartNote → PartNote → Type 0
Apart a b = same_path (note_key a) (note_key b) ≡ false

before_first : (a b : PartNote) (l : List PartNote) → is_before (note_key a) (note_key b) ≡ true → filed a (filed b l) ≡ filed b (filed a l)
before_first a b [] e =
    ap (λ t. if t then a ∷ (b ∷ []) else b ∷ (a ∷ [])) e
    ∙ sym (ap (λ t. if t then b ∷ (a ∷ []) else a ∷ (b ∷ [])) (asym (note_key a) (note_key b) e))
before_first a b (m ∷ ms) e = go (is_before (note_key b) (note_key m)) refl (is_before (note_key a) (note_key m)) refl (before_first a b ms e)
  where
    ka : List ℕ
    ka = note_key a

    kb : List ℕ
    kb = note_key b

    km : List ℕ
    km = note_key m

    go : (s : Bool) → is_before kb km ≡ s → (t : Bool) → is_before ka km ≡ t → filed a (filed b ms) ≡ filed b (filed a ms)
        → filed a (if s then b ∷ (m ∷ ms) else m ∷ filed b ms) ≡ filed b (if t then a ∷ (m ∷ ms) else m ∷ filed a ms)
    go true f true g h =
        ap (λ t. if t then a ∷ (b ∷ (m ∷ ms)) else b ∷ filed a (m ∷ ms)) e
        ∙ sym (ap (λ t. if t then b ∷ (a ∷ (m ∷ ms)) else a ∷ filed b (m ∷ ms)) (asym ka kb e) ∙ ap (λ t. a ∷ (if t then b ∷ (m ∷ ms) else m ∷ filed b ms)) f)
    go true f false g h = absurd (true≢false (sym (through ka kb km e (asym kb km f)) ∙ g))
    go false f true g h =
        ap (λ t. if t then a ∷ (m ∷ filed b ms) else m ∷ filed a (filed b ms)) g
        ∙ sym (ap (λ t. if t then b ∷ (a ∷ (m ∷ ms)) else a ∷ filed b (m ∷ ms)) (asym ka kb e) ∙ ap (λ t. a ∷ (if t then b ∷ (m ∷ ms) else m ∷ filed b ms)) f)
    go false f false g h =
        ap (λ t. if t then a ∷ (m ∷ filed b ms) else m ∷ filed a (filed b ms)) g
        ∙ ap (λ z. m ∷ z) h
        ∙ sym (ap (λ t. if t then b ∷ (m ∷ filed a ms) else m ∷ filed b (filed a ms)) f)

pub filed_either : (a b : PartNote) (l : List PartNote) → same_path (note_key a) (note_key b) ≡ false → filed a (filed b l) ≡ filed b (filed a l)
filed_either a b l e = go (apart_keys (note_key a) (note_key b) e)
  where
    go : (is_before (note_key a) (note_key b) ≡ true) ⊎ (is_before (note_key b) (note_key a) ≡ true) → filed a (filed b l) ≡ filed b (filed a l)
    go (inl h) = before_first a b l h
    go (inr h) = sym (before_first b a l h)

-- a note whose key a block has not may be filed before it or after it
none_here : (k : List ℕ) (m : PartNote) (ms : List PartNote) → count_key k (m ∷ ms) ≡ 0 → (same_path k (note_key m) ≡ false) × (count_key k ms ≡ 0)
none_here k m ms e = go (same_path k (note_key m)) refl e
  where
    go : (b : Bool) → same_path k (note_key m) ≡ b → (if b then suc (count_key k ms) else count_key k ms) ≡ 0
        → (same_path k (note_key m) ≡ false) × (count_key k ms ≡ 0)
    go true f h = absurd (omega arith)
    go false f h = (f, h)

filed_past : (n : PartNote) (q l : List PartNote) → count_key (note_key n) q ≡ 0 → filed_into q (filed n l) ≡ filed n (filed_into q l)
filed_past n [] l e = refl
filed_past n (m ∷ q) l e =
    let parts = none_here (note_key n) m q e in
    ap (filed_into q) (sym (filed_either n m l parts.0)) ∙ filed_past n q (filed m l) parts.1

-- how many notes of a key two lists have together
pub count_both : (k : List ℕ) (a b : List PartNote) → count_key k (a ++ b) ≡ count_key k a + count_key k b
count_both k [] b = omega arith
count_both k (n ∷ a) b = go (same_path k (note_key n)) (count_both k a b)
  where
    go : (t : Bool) → count_key k (a ++ b) ≡ count_key k a + count_key k b
        → (if t then suc (count_key k (a ++ b)) else count_key k (a ++ b)) ≡ (if t then suc (count_key k a) else count_key k a) + count_key k b
    go true h = omega arith
    go false h = h

-- the first note has its own key
count_own : (n : PartNote) (ns : List PartNote) → count_key (note_key n) (n ∷ ns) ≡ suc (count_key (note_key n) ns)
count_own n ns = ap (λ b. if b then suc (count_key (note_key n) ns) else count_key (note_key n) ns) (same-refl (note_key n))

count_less : (k : List ℕ) (n : PartNote) (ns : List PartNote) → count_key k ns ≤ count_key k (n ∷ ns)
count_less k n ns = go (same_path k (note_key n))
  where
    go : (b : Bool) → count_key k ns ≤ (if b then suc (count_key k ns) else count_key k ns)
    go true = omega arith
    go false = omega arith

-- two blocks that share no key may be filed in either order
blocks : (x q l : List PartNote) → ((k : List ℕ) → count_key k x + count_key k q ≤ 1) → filed_into q (filed_into x l) ≡ filed_into x (filed_into q l)
blocks [] q l h = refl
blocks (n ∷ x) q l h =
    blocks x q (filed n l) (λ k. let a = count_less k n x in let b = h k in omega arith)
    ∙ ap (filed_into x) (filed_past n q l (let a = count_own n x in let b = h (note_key n) in omega arith))

into_both : (a b l : List PartNote) → filed_into (a ++ b) l ≡ filed_into b (filed_into a l)
into_both [] b l = refl
into_both (n ∷ a) b l = into_both a b (filed n l)

into_four : (p x q r l : List PartNote) → filed_into (p ++ (x ++ (q ++ r))) l ≡ filed_into r (filed_into q (filed_into x (filed_into p l)))
into_four p x q r l =
    into_both p (x ++ (q ++ r)) l ∙ into_both x (q ++ r) (filed_into p l) ∙ into_both q r (filed_into x (filed_into p l))

count_four : (k : List ℕ) (p x q r : List PartNote)
    → count_key k (p ++ (x ++ (q ++ r))) ≡ count_key k p + (count_key k x + (count_key k q + count_key k r))
count_four k p x q r =
    let a = count_both k p (x ++ (q ++ r)) in let b = count_both k x (q ++ r) in let c = count_both k q r in omega arith

-- filed notes are those that were there, and the one
pub count_filed : (k : List ℕ) (n : PartNote) (ms : List PartNote) → count_key k (filed n ms) ≡ count_key k (n ∷ ms)
count_filed k n [] = refl
count_filed k n (m ∷ ms) = go (is_before (note_key n) (note_key m)) (count_filed k n ms)
  where
    turned : (s t : Bool) (c d : ℕ) → c ≡ (if s then suc d else d) → (if t then suc c else c) ≡ (if s then suc (if t then suc d else d) else (if t then suc d else d))
    turned true true c d e = ap suc e
    turned true false c d e = e
    turned false true c d e = ap suc e
    turned false false c d e = e

    go : (b : Bool) → count_key k (filed n ms) ≡ count_key k (n ∷ ms) → count_key k (if b then n ∷ (m ∷ ms) else m ∷ filed n ms) ≡ count_key k (n ∷ (m ∷ ms))
    go true e = refl
    go false e = turned (same_path k (note_key n)) (same_path k (note_key m)) (count_key k (filed n ms)) (count_key k ms) e

count_into : (k : List ℕ) (ns ms : List PartNote) → count_key k (filed_into ns ms) ≡ count_key k (ns ++ ms)
count_into k [] ms = refl
count_into k (n ∷ ns) ms =
    let a = count_into k ns (filed n ms) in
    let b = count_both k ns (filed n ms) in
    let c = count_both k (n ∷ ns) ms in
    let d = count_filed k n ms in
    let f = count_both k (n ∷ []) ms in
    let g = count_both k (n ∷ []) ns in
    omega arith

pub count_by_key : (k : List ℕ) (ns : List PartNote) → count_key k (by_key ns) ≡ count_key k ns
count_by_key k ns = count_into k ns [] ∙ ap (count_key k) (append-nil ns)

-- in another order there are as many notes of each key
pub mixed_count : (k : List ℕ) {xs ys : List PartNote} → Mixed xs ys → count_key k xs ≡ count_key k ys
mixed_count k (same xs) = refl
mixed_count k (swap p x q r) = let a = count_four k p x q r in let b = count_four k p q x r in omega arith
mixed_count k (chain a b) = mixed_count k a ∙ mixed_count k b

pub mixed_few : {xs ys : List PartNote} → Mixed xs ys → Few xs → Few ys
mixed_few m few = record { each = λ k. subst (λ n. n ≤ 1) (mixed_count k m) (few.each k) }

-- where no key comes twice, notes in another order are filed the same
pub mixed_same : {xs ys : List PartNote} → Mixed xs ys → Few xs → by_key xs ≡ by_key ys
mixed_same (same xs) few = refl
mixed_same (swap p x q r) few =
    into_four p x q r []
    ∙ ap (filed_into r) (blocks x q (filed_into p []) (λ k. let a = count_four k p x q r in let b = few.each k in omega arith))
    ∙ sym (into_four p q x r [])
mixed_same (chain a b) few = mixed_same a few ∙ mixed_same b (mixed_few a few)

-- notes in another order behind others, and one list behind the other
pub mixed_is : {xs ys : List PartNote} → xs ≡ ys → Mixed xs ys
mixed_is {xs} {ys} e = subst (Mixed xs) e (same xs)

pub mixed_as : {xs ys xs' ys' : List PartNote} → xs' ≡ xs → Mixed xs ys → ys ≡ ys' → Mixed xs' ys'
mixed_as e m f = chain (mixed_is e) (chain m (mixed_is f))

pub mixed_front : (a : List PartNote) {xs ys : List PartNote} → Mixed xs ys → Mixed (a ++ xs) (a ++ ys)
mixed_front a (same xs) = same (a ++ xs)
mixed_front a (swap p x q r) =
    mixed_as (sym (append_assoc a p (x ++ (q ++ r)))) (swap (a ++ p) x q r) (append_assoc a p (q ++ (x ++ r)))
mixed_front a (chain m n) = chain (mixed_front a m) (mixed_front a n)

pub mixed_two : (a b : List PartNote) → Mixed (a ++ b) (b ++ a)
mixed_two a b = mixed_as (ap (λ z. a ++ z) (sym (append-nil b))) (swap [] a b []) (ap (λ z. b ++ z) (append-nil a))
