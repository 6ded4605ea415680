-- Signs at places, and the first place with a property.
use Rattle.std.proofs.Common.{◌≡◌, ℕ, zero, suc, ◌+◌, ◌<◌, ◌≤◌, ◌≢◌, Bool, true, false, ◌&&◌, ◌||◌, List, [], ◌∷◌, ◌++◌, length, get_or, take, drop, Option, Some, None, nat_eq, nat_lt}
use Rattle.std.proofs.Common.{refl, sym, ap, ◌∙◌, arith}
use Rattle.std.specs.Prelude.{slice_index_or, slice_get, if◌then◌else◌}
use Rattle.std.proofs.Math.Seq.{drop-cons}
use Rattle.std.proofs.lemmas.List.{drop-drop, take_more, map-append}
use Rattle.std.proofs.lemmas.Option.{slice_get_within, get_or_from_slice_get}
use Rattle.std.proofs.lemmas.Bool.{eqb-true, eq-eqb, ltb-true, lt-ltb}
use Rattle.jade_lexer.specs.Lexemes.{TokenAt}
use Rattle.proc_expand.specs.declared.sign.Sign.{Sign}
use Rattle.proc_expand.specs.declared.sign.Sign.TheVariants.{Other}
use Rattle.proc_expand.specs.Words.{signs, sign_of, at, some, first, or_here}
use Rattle.proc_expand.specs.steps.Looking.{earliest}

-- within a list what stands for no element does not matter
pub index_any : {A : Type 0} (xs : List A) (k : ℕ) (d e : A) → k < length xs → slice_index_or xs k d ≡ slice_index_or xs k e
index_any [] k d e h = absurd (omega (arith, h))
index_any (x ∷ xs) zero d e h = refl
index_any (x ∷ xs) (suc k) d e h = index_any xs k d e (omega (arith, h))

pub plus_one : (k : ℕ) → k + 1 ≡ suc k
plus_one k = omega arith

pub drop_at : (ss : List Sign) (k : ℕ) → k < length ss → drop k ss ≡ at ss k ∷ drop (k + 1) ss
drop_at ss k h = drop-cons ss k Other h ∙ ap (λ i. at ss k ∷ drop i ss) (sym (plus_one k))

-- what follows the first of the signs from a place on
pub drop_tail : (ss us : List Sign) (u : Sign) (k : ℕ) → u ∷ us ≡ drop k ss → us ≡ drop (k + 1) ss
drop_tail ss us u k h = ap (drop 1) h ∙ drop-drop 1 k ss

pub by_case : {A : Type 0} (b : Bool) → (b ≡ true → A) → (b ≡ false → A) → A
by_case true f g = f refl
by_case false f g = g refl

pub eq_true : (a b : ℕ) → nat_eq a b ≡ true → a ≡ b
eq_true a b h = eqb-true a b h

pub eq_false : (a b : ℕ) → nat_eq a b ≡ false → a ≢ b
eq_false a b h e = absurd (let g = eq-eqb a b e in cc)

pub eq_same : (a : ℕ) → nat_eq a a ≡ true
eq_same a = eq-eqb a a refl

pub eq_not : (a b : ℕ) → a ≢ b → nat_eq a b ≡ false
eq_not a b h = by_case (nat_eq a b) (λ e. absurd (h (eq_true a b e))) (λ e. e)

pub lt_true : (a b : ℕ) → nat_lt a b ≡ true → a < b
lt_true a b h = ltb-true a b h

pub lt_is : (a b : ℕ) → a < b → nat_lt a b ≡ true
lt_is a b h = lt-ltb a b h

pub lt_false : (a b : ℕ) → nat_lt a b ≡ false → b ≤ a
lt_false a b h = let f : (a < b) → ⊥ = λ l. absurd (let g = lt_is a b l in cc) in omega (arith, f)

pub lt_not : (a b : ℕ) → b ≤ a → nat_lt a b ≡ false
lt_not a b h = by_case (nat_lt a b) (λ e. absurd (let l = lt_true a b e in omega (arith, l, h))) (λ e. e)

-- ---- the first place with a property

or_same : (a b : Option ℕ) (x y : Bool) (k : ℕ) → a ≡ b → x ≡ y → or_here a x k ≡ or_here b y k
or_same a b x y k e f = ap (λ t. or_here t x k) e ∙ ap (λ t. or_here b t k) f

pub first_same : (n : ℕ) (p q : ℕ → Bool) → ((k : ℕ) → k < n → p k ≡ q k) → first n p ≡ first n q
first_same zero p q h = refl
first_same (suc n) p q h = or_same (first n p) (first n q) (p n) (q n) n (first_same n p q (λ k l. h k (omega (arith, l)))) (h n (omega arith))

pub first_none : (n : ℕ) (p : ℕ → Bool) → ((k : ℕ) → k < n → p k ≡ false) → first n p ≡ None
first_none zero p h = refl
first_none (suc n) p h = or_same (first n p) None (p n) false n (first_none n p (λ k l. h k (omega (arith, l)))) (h n (omega arith))

here : (a : Option ℕ) (x : Bool) (k : ℕ) → a ≡ None → x ≡ true → or_here a x k ≡ Some k
here a x k e f = or_same a None x true k e f

kept : (a : Option ℕ) (x : Bool) (j k : ℕ) → a ≡ Some j → or_here a x k ≡ Some j
kept a x j k e = ap (λ t. or_here t x k) e

-- the first place with it, among more places
pub first_at : (n m : ℕ) (p : ℕ → Bool) → first n p ≡ None → p n ≡ true → n < m → first m p ≡ Some n
first_at n zero p e h l = absurd (omega (arith, l))
first_at n (suc m) p e h l = by_case (nat_eq n m) (λ s. let is : n ≡ m = eq_true n m s in
    here (first m p) (p m) m (ap (λ i. first i p) (sym is) ∙ e) (ap p (sym is) ∙ h) ∙ ap Some (sym is))
    (λ o. kept (first m p) (p m) n m (first_at n m p e h (let d = eq_false n m o in omega (arith, l, d))))

-- one place more
pub first_more : (n : ℕ) (p : ℕ → Bool) → first n p ≡ None → p n ≡ false → first (n + 1) p ≡ None
first_more n p e h = ap (λ i. first i p) (plus_one n) ∙ or_same (first n p) None (p n) false n e h

-- a place alone has it
pub first_only : (j n : ℕ) (p : ℕ → Bool) → ((k : ℕ) → p k ≡ true → k ≡ j) → p j ≡ true → j < n → first n p ≡ Some j
first_only j n p o h l =
    first_at j n p (first_none j p (λ k below. by_case (p k) (λ e. absurd (let s = o k e in omega (arith, s, below))) (λ e. e))) h l

-- it is before the places' end
pub first_below : (n : ℕ) (p : ℕ → Bool) (j : ℕ) → first n p ≡ Some j → j < n
first_below zero p j e = absurd (cc)
first_below (suc n) p j e = by (first n p) (p n) refl e (first_below n p j)
  where
    by : (a : Option ℕ) (x : Bool) → first n p ≡ a → or_here a x n ≡ Some j → (first n p ≡ Some j → j < n) → j < suc n
    by (Some i) x f g go = let s = go (f ∙ g) in omega (arith, s)
    by None true f g go = let s : n ≡ j = cc in omega (arith, s)
    by None false f g go = absurd (cc)

-- the first with one of two properties
join : (n : ℕ) (a b : Option ℕ) (x y : Bool) → ((j : ℕ) → a ≡ Some j → j < n) → ((j : ℕ) → b ≡ Some j → j < n)
    → or_here (earliest a b) (x || y) n ≡ earliest (or_here a x n) (or_here b y n)
join n (Some i) (Some j) x y f g = refl
join n (Some i) None x true f g = ap Some (let l = f i refl in choose (nat_lt n i) (lt_not n i (omega (arith, l))))
  where
    choose : (t : Bool) → t ≡ false → i ≡ (if t then n else i)
    choose true e = absurd (cc)
    choose false e = refl
join n (Some i) None x false f g = refl
join n None (Some j) true y f g = ap Some (let l = g j refl in choose (nat_lt j n) (lt_is j n l))
  where
    choose : (t : Bool) → t ≡ true → j ≡ (if t then j else n)
    choose true e = refl
    choose false e = absurd (cc)
join n None (Some j) false y f g = refl
join n None None true true f g = ap Some (either (nat_lt n n))
  where
    either : (t : Bool) → n ≡ (if t then n else n)
    either true = refl
    either false = refl
join n None None true false f g = refl
join n None None false true f g = refl
join n None None false false f g = refl

pub first_either : (n : ℕ) (p q : ℕ → Bool) → first n (λ k. p k || q k) ≡ earliest (first n p) (first n q)
first_either zero p q = refl
first_either (suc n) p q =
    ap (λ t. or_here t (p n || q n) n) (first_either n p q)
    ∙ join n (first n p) (first n q) (p n) (q n) (first_below n p) (first_below n q)

pub earliest_none : (a : Option ℕ) → earliest a None ≡ a
earliest_none None = refl
earliest_none (Some j) = refl

pub both_left : (a b : Bool) → (a && b) ≡ true → a ≡ true
both_left true b h = refl
both_left false b h = absurd (cc)

pub both_right : (a b : Bool) → (a && b) ≡ true → b ≡ true
both_right true b h = h
both_right false b h = absurd (cc)

pub both_true : (a b : Bool) → a ≡ true → b ≡ true → (a && b) ≡ true
both_true a b e f = ap (λ t. t && b) e ∙ f

pub first_place : (j n : ℕ) → j < n → first n (λ k. nat_eq j k) ≡ Some j
first_place j n l = first_only j n (λ k. nat_eq j k) (λ k e. sym (eq_true j k e)) (eq_same j) l

-- one place, if it has a property
pub first_one : (j n : ℕ) (q : ℕ → Bool) → (q j ≡ true → j < n) → first n (λ k. nat_eq j k && q k) ≡ (if q j then Some j else None)
first_one j n q l = by_case (q j) yes_here not_here
  where
    yes_here : q j ≡ true → first n (λ k. nat_eq j k && q k) ≡ (if q j then Some j else None)
    yes_here h =
        first_only j n (λ k. nat_eq j k && q k) (λ k e. sym (eq_true j k (both_left (nat_eq j k) (q k) e))) (both_true (nat_eq j j) (q j) (eq_same j) h) (l h)
        ∙ ap (λ t. if t then Some j else None) (sym h)

    not_here : q j ≡ false → first n (λ k. nat_eq j k && q k) ≡ (if q j then Some j else None)
    not_here h =
        first_none n (λ k. nat_eq j k && q k) (λ k below. by_case (nat_eq j k)
        (λ e. ap (λ t. t && q k) e ∙ ap q (sym (eq_true j k e)) ∙ h) (λ e. ap (λ t. t && q k) e))
        ∙ ap (λ t. if t then Some j else None) (sym h)

pub one_at : (i j n : ℕ) (q : ℕ → Bool) (b : Bool) → i ≡ j → (q j ≡ true → j < n) → q j ≡ b
    → (if b then Some j else None) ≡ first n (λ k. nat_eq i k && q k)
one_at i j n q b e l h =
    ap (λ t. if t then Some j else None) (sym h) ∙ sym (first_one j n q l) ∙ ap (λ u. first n (λ k. nat_eq u k && q k)) (sym e)

-- none among all places
pub first_done : (k n : ℕ) (p : ℕ → Bool) → k ≡ n → first k p ≡ None → p n ≡ false → None ≡ first (suc n) p
first_done k n p e f h = sym (ap (λ i. first i p) (sym (plus_one n)) ∙ first_more n p (ap (λ i. first i p) (sym e) ∙ f) h)

-- with one more of what a property speaks of
pub first_some : (n c : ℕ) (p : ℕ → ℕ → Bool)
    → first n (λ k. some (c + 1) (λ i. p i k)) ≡ earliest (first n (λ k. some c (λ i. p i k))) (first n (λ k. p c k))
first_some n c p =
    ap (λ i. first n (λ k. some i (λ i. p i k))) (plus_one c) ∙ first_either n (λ k. some c (λ i. p i k)) (λ k. p c k)

pub earliest_assoc : (a b c : Option ℕ) → earliest (earliest a b) c ≡ earliest a (earliest b c)
earliest_assoc None b c = refl
earliest_assoc (Some i) None c = refl
earliest_assoc (Some i) (Some j) None = refl
earliest_assoc (Some i) (Some j) (Some k) = ap Some (three (nat_lt j i) (nat_lt k j) refl refl)
  where
    three : (a b : Bool) → nat_lt j i ≡ a → nat_lt k j ≡ b → (if nat_lt k (if a then j else i) then k else (if a then j else i))
        ≡ (if nat_lt (if b then k else j) i then (if b then k else j) else i)
    three true true e f =
        let g = lt_true j i e in let h = lt_true k j f in
        ap (λ t. if t then k else j) f ∙ sym (ap (λ t. if t then k else i) (lt_is k i (omega (arith, g, h))))
    three true false e f = ap (λ t. if t then k else j) f ∙ sym (ap (λ t. if t then j else i) e)
    three false true e f = refl
    three false false e f =
        let g = lt_false j i e in let h = lt_false k j f in
        ap (λ t. if t then k else i) (lt_not k i (omega (arith, g, h))) ∙ sym (ap (λ t. if t then j else i) e)

-- ---- the signs of tokens

pub signs_more : (ts : List TokenAt) (k : ℕ) (t : TokenAt) → slice_get ts k ≡ Some t → signs (take (k + 1) ts) ≡ signs (take k ts) ++ sign_of t.bytes ∷ []
signs_more ts k t h =
    ap signs (take_more ts k t (slice_get_within ts k t h)) ∙ map-append (λ (u : TokenAt). sign_of u.bytes) (take k ts) (get_or ts k t ∷ [])
    ∙ ap (λ (u : TokenAt). signs (take k ts) ++ sign_of u.bytes ∷ []) (get_or_from_slice_get ts k t t h)
