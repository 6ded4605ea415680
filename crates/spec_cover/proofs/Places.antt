-- Entries from a place on.
use Rattle.std.proofs.Common.{◌≡◌, ℕ, zero, suc, ◌+◌, ◌<◌, ◌≤◌, List, [], ◌∷◌, length, drop, refl, ◌∙◌, sym, ap, subst, arith}
use Rattle.std.specs.Prelude.{slice_get, Option, Some, None, MatchOption}
use Rattle.std.proofs.lemmas.Bool.{eq-eqb, ne_eqb}
use Rattle.std.proofs.lemmas.Option.{none-some, same_Some}
use Rattle.std.proofs.lemmas.List.{drop_all}
use Rattle.jade_base.specs.declared.place.ObjectId.{ObjectId}
use Rattle.jade_base.specs.declared.rights.Rights.{Rights}
use Rattle.jade_base.specs.Rights.{no_rights}
use Rattle.jade_base.specs.Specification.{AllAbove, IsAscending, rights_in}
use Rattle.spec_cover.specs.Cover.{IsEnoughFrom}

-- what is left from a place on begins with the item there
pub drop-slice_get : {X : Type 0} (xs : List X) (i : ℕ) (x : X) → slice_get xs i ≡ Some x → drop i xs ≡ x ∷ drop (i + 1) xs
drop-slice_get [] i x h = absurd (cc)
drop-slice_get (y ∷ xs) zero x h = grind arith
drop-slice_get (y ∷ xs) (suc i) x h = grind (arith, drop-slice_get xs i x h)

pub IsAscending-drop : (i : ℕ) (es : List (ObjectId × Rights)) → IsAscending es → IsAscending (drop i es)
IsAscending-drop zero es h = h
IsAscending-drop (suc i) [] h = tt
IsAscending-drop (suc i) (e ∷ es) h = IsAscending-drop i es h.2

pub rights-above : (es : List (ObjectId × Rights)) (o : ObjectId) (n : ℕ) → o.0 ≤ n → AllAbove n es → rights_in es o ≡ no_rights
rights-above [] o n h a = refl
rights-above (e ∷ es) o n h a = rw (ne_eqb e.0.0 o.0 (λ q. omega (arith, a.0))) (rights-above es o n h a.1)

-- an entry of a lower number may be passed
pub enough-next : (ps : List (ObjectId × Rights)) (place n : ℕ) (e : ObjectId × Rights) → slice_get ps place ≡ Some e → e.0.0 < n → IsEnoughFrom ps place n
    → IsEnoughFrom ps (place + 1) n
enough-next ps place n e h below enough = λ o above.
    let split = enough o above in
    let next = rw (drop-slice_get ps place e h, ne_eqb e.0.0 o.0 (λ q. omega arith)) at split in
    next

above-get : (n : ℕ) (ps : List (ObjectId × Rights)) (k : ℕ) (e : ObjectId × Rights) → AllAbove n ps → slice_get ps k ≡ Some e → n < e.0.0
above-get n [] k e a h = absurd (none-some e h)
above-get n (x ∷ ps) zero e a h = subst (λ y. n < y.0.0) (same_Some x e h) a.0
above-get n (x ∷ ps) (suc k) e a h = above-get n ps k e a.1 h

-- all entries up to one of a lower number may be passed
enough-beyond : (ps : List (ObjectId × Rights)) (place n : ℕ) (e : ObjectId × Rights) → IsAscending ps → slice_get ps place ≡ Some e → e.0.0 < n
    → IsEnoughFrom ps (suc place) n
enough-beyond [] place n e asc h below o above = absurd (none-some e h)
enough-beyond (x ∷ ps) zero n e asc h below o above =
    let same = ap (λ y. y.0.0) (same_Some x e h) in
    rw (ne_eqb x.0.0 o.0 (λ q. omega (arith, same, below, above, q))) refl
enough-beyond (x ∷ ps) (suc place) n e asc h below o above =
    let far = above-get x.0.0 ps place e asc.1 h in
    rw (ne_eqb x.0.0 o.0 (λ q. omega (arith, far, below, above, q))) (enough-beyond ps place n e asc.2 h below o above)

pub enough-past : (ps : List (ObjectId × Rights)) (place n : ℕ) (e : ObjectId × Rights) → IsAscending ps → slice_get ps place ≡ Some e → e.0.0 < n
    → IsEnoughFrom ps (place + 1) n
enough-past ps place n e asc h below =
    let z : suc place ≡ place + 1 = omega arith in
    subst (λ k. IsEnoughFrom ps k n) z (enough-beyond ps place n e asc h below)

-- the entry at the place is the object's
pub granted-here : (ps : List (ObjectId × Rights)) (place : ℕ) (o : ObjectId) (e : ObjectId × Rights) → slice_get ps place ≡ Some e → e.0.0 ≡ o.0
    → IsEnoughFrom ps place o.0 → e.1 ≡ rights_in ps o
granted-here ps place o e h same enough =
    let split = enough o (omega arith) in
    rw (drop-slice_get ps place e h, eq-eqb e.0.0 o.0 same) at split

-- the entry at the place is of a higher number
pub granted-none : (ps : List (ObjectId × Rights)) (place : ℕ) (o : ObjectId) (e : ObjectId × Rights) → IsAscending ps → slice_get ps place ≡ Some e
    → o.0 < e.0.0 → IsEnoughFrom ps place o.0 → no_rights ≡ rights_in ps o
granted-none ps place o e asc h above enough =
    let split = enough o (omega arith) in
    let later = rw (drop-slice_get ps place e h, ne_eqb e.0.0 o.0 (λ q. omega arith)) at split in
    let rest = rw (drop-slice_get ps place e h) at (IsAscending-drop place ps asc) in
    sym (rights-above (drop (place + 1) ps) o e.0.0 (omega arith) rest.1) ∙ later

-- no entry is left
pub granted-end : (ps : List (ObjectId × Rights)) (place : ℕ) (o : ObjectId) → length ps ≤ place → IsEnoughFrom ps place o.0 → no_rights ≡ rights_in ps o
granted-end ps place o h enough =
    let split = enough o (omega arith) in
    rw (drop_all place ps h) at split

pub enough-end : (ps : List (ObjectId × Rights)) (place other n : ℕ) → length ps ≤ place → length ps ≤ other → IsEnoughFrom ps place n → IsEnoughFrom ps other n
enough-end ps place other n h k enough = λ o above. rw (drop_all other ps k) (rw (drop_all place ps h) at (enough o above))

pub MatchOption-weaker : {X : Type 0} {P P' : Type 0} {Q Q' : X → Type 0} (o : Option X) → MatchOption o P Q → (P → P') → ((x : X) → Q x → Q' x)
    → MatchOption o P' Q'
MatchOption-weaker None h f g = f h
MatchOption-weaker (Some x) h f g = g x h
