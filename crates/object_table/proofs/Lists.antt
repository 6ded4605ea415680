-- Lists of owners, of seats, of words and of contents held.
use Rattle.std.proofs.Common.{◌≡◌, ◌≢◌, ◌⊎◌, inl, inr, ℕ, zero, suc, ◌<◌, true, false, ◌&&◌}
use Rattle.std.proofs.Common.{List, [], ◌∷◌, ◌++◌, get_or, set, map, length, take, drop, refl, sym, ap, ◌∙◌, subst, arith}
use Rattle.std.proofs.Common.{eq-eqb, ne_eqb, Option, Some}
use Rattle.std.specs.Prelude.{nat_eq, slice_get, if◌then◌else◌}
use Rattle.std.proofs.lemmas.Bool.Decides.{eqb_tells}
use mathlib.Core.Logic.{dite}
use mathlib.Core.Option.{some, some-injective}
use native.Mathlib.Decide.{ℕ_discrete}
use lib.ListN.{get_elem?}
use Rattle.atomic_table.proofs.Lists.{set_here, set_else}
use Rattle.jade_base.specs.Held.{Held}
use Rattle.jade_meaning.specs.Laws.{Every}
use Rattle.object_shelf.specs.Shelves.{same_path}
use Rattle.object_shelf.specs.Views.{ObjectView}
use Rattle.schedule_core.specs.declared.steps.Seat.{Seat}
use Rattle.schedule_core.specs.ByNumber.{shelf_at}
use Rattle.schedule_core.specs.Plain.{on_shelf}
use Rattle.object_table.specs.Views.{View}
use Rattle.object_table.specs.Touches.{held_at, put_held}
use Rattle.object_table.specs.Rule.{pass_of, kid_of, Absent, Spot, Owned, by_pass, by_maker}

-- paths
pub same_is : (p q : List ℕ) → same_path p q ≡ true → p ≡ q
same_is [] [] e = refl
same_is [] (j ∷ q) e = absurd (cc)
same_is (i ∷ p) [] e = absurd (cc)
same_is (i ∷ p) (j ∷ q) e = go (same_is p q) (eqb_tells i j)
  where
    go : (same_path p q ≡ true → p ≡ q) → ((nat_eq i j ≡ true) × (i ≡ j)) ⊎ ((nat_eq i j ≡ false) × (i ≢ j)) → i ∷ p ≡ j ∷ q
    go more (inl x) = ap (λ k. k ∷ p) x.1 ∙ ap (λ r. j ∷ r) (more (sym (ap (λ b. b && same_path p q) x.0) ∙ e))
    go more (inr x) = absurd (let r : false ≡ true = sym (ap (λ b. b && same_path p q) x.0) ∙ e in cc)

pub path_same : (p : List ℕ) → same_path p p ≡ true
path_same [] = refl
path_same (i ∷ p) = ap (λ b. b && same_path p p) (eq-eqb i i refl) ∙ path_same p

pub not_kid : (p : List ℕ) (k : ℕ) → same_path p (p ++ k ∷ []) ≡ false
not_kid [] k = refl
not_kid (i ∷ p) k = ap (λ b. b && same_path p (p ++ k ∷ [])) (eq-eqb i i refl) ∙ not_kid p k

-- words
pub word_else : (l : List ℕ) (o p x : ℕ) → p ≢ o → get_or (set l o x) p 0 ≡ get_or l p 0
word_else [] o p x ne = refl
word_else (y ∷ l) zero zero x ne = absurd (ne refl)
word_else (y ∷ l) zero (suc p) x ne = refl
word_else (y ∷ l) (suc o) zero x ne = refl
word_else (y ∷ l) (suc o) (suc p) x ne = word_else l o p x (λ e. ne (ap suc e))

pub at_word : (l : List ℕ) (o : ℕ) → o < length l → get_elem? l o ≡ some (get_or l o 0)
at_word [] o lt = absurd (omega arith)
at_word (x ∷ l) zero lt = refl
at_word (x ∷ l) (suc o) lt = at_word l o (omega arith)

-- a function with another value at one place
abbrev pub put : (ℕ → ℕ) → ℕ → ℕ → ℕ → ℕ
put f o x q = if nat_eq q o then x else f q

pub put_same : (f : ℕ → ℕ) (o x : ℕ) → put f o x o ≡ x
put_same f o x = ap (λ b. if b then x else f o) (eq-eqb o o refl)

pub put_other : (f : ℕ → ℕ) (o x q : ℕ) → q ≢ o → put f o x q ≡ f q
put_other f o x q ne = ap (λ b. if b then x else f q) (ne_eqb q o ne)

-- seats by owner
abbrev pub put_seat : (ℕ → Seat) → ℕ → Seat → ℕ → Seat
put_seat f x s y = if nat_eq y x then s else f y

pub seat_here : (f : ℕ → Seat) (x : ℕ) (s : Seat) → put_seat f x s x ≡ s
seat_here f x s = ap (λ b. if b then s else f x) (eq-eqb x x refl)

pub seat_else : (f : ℕ → Seat) (x : ℕ) (s : Seat) (y : ℕ) → y ≢ x → put_seat f x s y ≡ f y
seat_else f x s y ne = ap (λ b. if b then s else f y) (ne_eqb y x ne)

pub map_absent : (f : ℕ → Seat) (x : ℕ) (s : Seat) (ys : List ℕ) → Absent x ys → map (put_seat f x s) ys ≡ map f ys
map_absent f x s [] a = refl
map_absent f x s (y ∷ ys) a = ap (λ z. z ∷ map (put_seat f x s) ys) (seat_else f x s y a.0) ∙ ap (λ zs. f y ∷ zs) (map_absent f x s ys a.1)

pub roll_split : (f : ℕ → Seat) (x : ℕ) (front back : List ℕ) → map f (front ++ (x ∷ back)) ≡ map f front ++ (f x ∷ map f back)
roll_split f x [] back = refl
roll_split f x (y ∷ front) back = ap (λ ts. f y ∷ ts) (roll_split f x front back)

-- the roll in which the owner's seat is another
pub roll_put : (f : ℕ → Seat) (x : ℕ) (s : Seat) (owners : List ℕ) (spot : Spot owners x) → map (put_seat f x s) owners
    ≡ map f spot.front ++ (s ∷ map f spot.back)
roll_put f x s owners spot =
    ap (map (put_seat f x s)) spot.is
    ∙ roll_split (put_seat f x s) x spot.front spot.back
    ∙ ap (λ a. a ++ (put_seat f x s x ∷ map (put_seat f x s) spot.back)) (map_absent f x s spot.front spot.before)
    ∙ ap (λ a. map f spot.front ++ (a ∷ map (put_seat f x s) spot.back)) (seat_here f x s)
    ∙ ap (λ a. map f spot.front ++ (s ∷ a)) (map_absent f x s spot.back spot.after)

-- where an owner stands
pub get_owner : (f : ℕ → Seat) (front : List ℕ) (x : ℕ) (back : List ℕ) → slice_get (map f (front ++ (x ∷ back))) (length front) ≡ Some (f x)
get_owner f [] x back = refl
get_owner f (y ∷ front) x back = get_owner f front x back

get_number : (front : List ℕ) (x : ℕ) (back : List ℕ) → slice_get (front ++ (x ∷ back)) (length front) ≡ Some x
get_number [] x back = refl
get_number (y ∷ front) x back = get_number front x back

some_number : (x y : ℕ) → ◌≡◌ {A = Option ℕ} (Some x) (Some y) → x ≡ y
some_number x y e = cc

pub apart_owners : (owners : List ℕ) (x y : ℕ) (a : Spot owners x) (b : Spot owners y) → x ≢ y → length a.front ≢ length b.front
apart_owners owners x y a b ne e =
    let ga : slice_get owners (length a.front) ≡ Some x = ap (λ l. slice_get l (length a.front)) a.is ∙ get_number a.front x a.back in
    let gb : slice_get owners (length b.front) ≡ Some y = ap (λ l. slice_get l (length b.front)) b.is ∙ get_number b.front y b.back in
    ne (some_number x y (sym ga ∙ ap (slice_get owners) e ∙ gb))

-- places of a roll
pub place_get : (f : List Seat) (s : Seat) (b : List Seat) → slice_get (f ++ (s ∷ b)) (length f) ≡ Some s
place_get [] s b = refl
place_get (x ∷ f) s b = place_get f s b

pub place_take : (f : List Seat) (s : Seat) (b : List Seat) → take (length f) (f ++ (s ∷ b)) ≡ f
place_take [] s b = refl
place_take (x ∷ f) s b = ap (λ ys. x ∷ ys) (place_take f s b)

pub place_drop : (f : List Seat) (s : Seat) (b : List Seat) → drop (suc (length f)) (f ++ (s ∷ b)) ≡ b
place_drop [] s b = refl
place_drop (x ∷ f) s b = place_drop f s b

-- objects
abbrev pub empty : ObjectView
empty = record { queue = []; content = []; turns = [] }

-- the object itself once it has changed; past the last one nothing changes
pub shelf_on_or : (P : ObjectView → Type 0) (o : ℕ) (g : ObjectView → ObjectView) (ss : List ObjectView) → P (g (shelf_at ss o)) → P (shelf_at ss o)
    → P (shelf_at (on_shelf o g ss) o)
shelf_on_or P o g [] a b = b
shelf_on_or P zero g (s ∷ ss) a b = a
shelf_on_or P (suc o) g (s ∷ ss) a b = shelf_on_or P o g ss a b

pub shelf_within : (o : ℕ) (g : ObjectView → ObjectView) (ss : List ObjectView) → o < length ss → shelf_at (on_shelf o g ss) o ≡ g (shelf_at ss o)
shelf_within o g [] lt = absurd (omega (arith, lt))
shelf_within zero g (s ∷ ss) lt = refl
shelf_within (suc o) g (s ∷ ss) lt = shelf_within o g ss (omega (arith, lt))

pub shelf_on : (o : ℕ) (g : ObjectView → ObjectView) (ss : List ObjectView) → g empty ≡ empty → shelf_at (on_shelf o g ss) o ≡ g (shelf_at ss o)
shelf_on o g [] e = sym e
shelf_on zero g (s ∷ ss) e = refl
shelf_on (suc o) g (s ∷ ss) e = shelf_on o g ss e

pub shelf_else : (o q : ℕ) (g : ObjectView → ObjectView) (ss : List ObjectView) → q ≢ o → shelf_at (on_shelf o g ss) q ≡ shelf_at ss q
shelf_else o q g [] ne = refl
shelf_else zero zero g (s ∷ ss) ne = absurd (ne refl)
shelf_else zero (suc q) g (s ∷ ss) ne = refl
shelf_else (suc o) zero g (s ∷ ss) ne = refl
shelf_else (suc o) (suc q) g (s ∷ ss) ne = shelf_else o q g ss (λ e. ne (ap suc e))

-- contents held
pub held_here : (o : ℕ) (h : Option Held) (hs : List (Option Held)) → held_at o (put_held o h hs) ≡ h
held_here zero h [] = refl
held_here zero h (x ∷ xs) = refl
held_here (suc o) h [] = held_here o h []
held_here (suc o) h (x ∷ xs) = held_here o h xs

pub held_else : (o q : ℕ) (h : Option Held) (hs : List (Option Held)) → q ≢ o → held_at q (put_held o h hs) ≡ held_at q hs
held_else zero zero h hs ne = absurd (ne refl)
held_else zero (suc q) h [] ne = refl
held_else zero (suc q) h (x ∷ xs) ne = refl
held_else (suc o) zero h [] ne = refl
held_else (suc o) zero h (x ∷ xs) ne = refl
held_else (suc o) (suc q) h [] ne = held_else o q h [] (λ e. ne (ap suc e))
held_else (suc o) (suc q) h (x ∷ xs) ne = held_else o q h xs (λ e. ne (ap suc e))

-- views
pub at_inside : (l : List View) (i : ℕ) (v : View) → get_elem? l i ≡ some v → i < length l
at_inside [] i v e = absurd (cc)
at_inside (x ∷ l) zero v e = omega arith
at_inside (x ∷ l) (suc i) v e = let r = at_inside l i v e in omega arith

-- the same view at the same place
pub same_view : (views : List View) (id j : ℕ) (v z : View) → get_elem? views id ≡ some v → get_elem? views j ≡ some z → j ≡ id → v ≡ z
same_view views id j v z at e same = some-injective v z (sym at ∙ subst (λ i. get_elem? views i ≡ some z) same e)

-- a pass's new view keeps what is its own on the roll
pub owned_set : (views : List View) (id x : ℕ) (v w : View) → get_elem? views id ≡ some v → w.live ≡ v.live → w.unborn ≡ v.unborn → Owned views x
    → Owned (set views id w) x
owned_set views id x v w at l u (by_pass j z e live is) = dite (ℕ_discrete j id)
    (λ same. by_pass id w (set_here views id w (at_inside views id v at)) (l ∙ ap (λ (k : View). k.live) (same_view views id j v z at e same) ∙ live) (is
    ∙ ap pass_of same))
    (λ other. by_pass j z (set_else views id j w other ∙ e) live is)
owned_set views id x v w at l u (by_maker j z kid e unborn is) = dite (ℕ_discrete j id)
    (λ same. by_maker id w kid (set_here views id w (at_inside views id v at)) (u ∙ ap (λ (k : View). k.unborn) (same_view views id j v z at e same)
    ∙ unborn) (is ∙ ap kid_of same))
    (λ other. by_maker j z kid (set_else views id j w other ∙ e) unborn is)

-- every
pub every_with : {A : Type 0} (P Q : A → Type 0) → ((x : A) → P x → Q x) → (xs : List A) → Every P xs → Every Q xs
every_with P Q f [] h = tt
every_with P Q f (x ∷ xs) h = (f x h.0, every_with P Q f xs h.1)
