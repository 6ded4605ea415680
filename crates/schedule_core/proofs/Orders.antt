-- Marks that are the same for each path are the same in the order of keys.
use Rattle.std.proofs.Common.{◌≡◌, ◌≢◌, ℕ, ◌≤◌, ◌<◌, Bool, true, false, List, [], ◌∷◌, ◌++◌, refl, sym, ap, ◌∙◌, subst, Some, None, arith, ◌⊎◌, inl, inr}
use Rattle.std.specs.Prelude.{nat_eq, nat_lt, if◌then◌else◌}
use Rattle.std.specs.List.{cons_option}
use Rattle.std.proofs.lemmas.List.Elements.{filter_map-append}
use Rattle.std.proofs.lemmas.Bool.Decides.{eqb_tells}
use Rattle.std.proofs.lemmas.Bool.{ltb-true, ltb-false, eq-eqb, ne_eqb}
use Rattle.jade_meaning.specs.Serial.{Path, Mark, same_path, marks_at}
use Rattle.jade_meaning.specs.Laws.{Every}
use Rattle.schedule_core.specs.Sorted.{key_le, key, insert, in_order}
use Rattle.jade_meaning.proofs.Filling.{same_self, same_path_is}
use Rattle.schedule_core.proofs.Taken.{no_deeds}

lt_is : (i j : ℕ) → i < j → nat_lt i j ≡ true
lt_is i j lt = go (nat_lt i j) refl
  where
    go : (b : Bool) → nat_lt i j ≡ b → b ≡ true
    go true e = refl
    go false e = absurd (let k : j ≤ i = ltb-false i j e in omega arith)

total : (p q : Path) → key_le p q ≡ false → key_le q p ≡ true
total [] q h = absurd (cc)
total (i ∷ p) [] h = refl
total (i ∷ p) (j ∷ q) h = go (λ k. total p q k) (eqb_tells i j) h
  where
    go : (key_le p q ≡ false → key_le q p ≡ true) → ((nat_eq i j ≡ true) × (i ≡ j)) ⊎ ((nat_eq i j ≡ false) × (i ≢ j)) → (if nat_eq i j then key_le p q else nat_lt i j) ≡ false → (if nat_eq j i then key_le q p else nat_lt j i) ≡ true
    go rec (inl e) h =
        ap (λ b. if b then key_le q p else nat_lt j i) (eq-eqb j i (sym e.1)) ∙ rec (sym (ap (λ b. if b then key_le p q else nat_lt i j) e.0) ∙ h)
    go rec (inr e) h =
        let k : nat_lt i j ≡ false = sym (ap (λ b. if b then key_le p q else nat_lt i j) e.0) ∙ h in
        let n : i ≢ j = e.1 in
        let le : j ≤ i = ltb-false i j k in
        ap (λ b. if b then key_le q p else nat_lt j i) (ne_eqb j i (λ z. n (sym z))) ∙ lt_is j i (omega arith)

both_ways : (p q : Path) → key_le p q ≡ true → key_le q p ≡ true → p ≡ q
both_ways [] [] h g = refl
both_ways [] (j ∷ q) h g = absurd (cc)
both_ways (i ∷ p) [] h g = absurd (cc)
both_ways (i ∷ p) (j ∷ q) h g = go (λ k l. both_ways p q k l) (eqb_tells i j) h g
  where
    go : (key_le p q ≡ true → key_le q p ≡ true → p ≡ q) → ((nat_eq i j ≡ true) × (i ≡ j)) ⊎ ((nat_eq i j ≡ false) × (i ≢ j)) → (if nat_eq i j then key_le p q else nat_lt i j) ≡ true → (if nat_eq j i then key_le q p else nat_lt j i) ≡ true → i ∷ p ≡ j ∷ q
    go rec (inl e) h g =
        ap (λ z. z ∷ p) e.1 ∙ ap (λ z. j ∷ z) (rec (sym (ap (λ b. if b then key_le p q else nat_lt i j) e.0) ∙ h) (sym (ap (λ b. if b then key_le q p else nat_lt j i) (eq-eqb j i (sym e.1))) ∙ g))
    go rec (inr e) h g =
        let a : i < j = ltb-true i j (sym (ap (λ b. if b then key_le p q else nat_lt i j) e.0) ∙ h) in
        let b : j < i = ltb-true j i (sym (ap (λ b. if b then key_le q p else nat_lt j i) (ne_eqb j i (λ z. e.1 (sym z)))) ∙ g) in
        absurd (omega arith)

onward : (p q r : Path) → key_le p q ≡ true → key_le q r ≡ true → key_le p r ≡ true
onward [] q r h g = refl
onward (i ∷ p) [] r h g = absurd (cc)
onward (i ∷ p) (j ∷ q) [] h g = absurd (cc)
onward (i ∷ p) (j ∷ q) (k ∷ r) h g = go (λ x y. onward p q r x y) (eqb_tells i j) (eqb_tells j k) h g
  where
    go : (key_le p q ≡ true → key_le q r ≡ true → key_le p r ≡ true) → ((nat_eq i j ≡ true) × (i ≡ j)) ⊎ ((nat_eq i j ≡ false) × (i ≢ j)) → ((nat_eq j k ≡ true) × (j ≡ k)) ⊎ ((nat_eq j k ≡ false) × (j ≢ k)) → (if nat_eq i j then key_le p q else nat_lt i j) ≡ true → (if nat_eq j k then key_le q r else nat_lt j k) ≡ true → (if nat_eq i k then key_le p r else nat_lt i k) ≡ true
    go rec (inl a) (inl b) h g =
        ap (λ z. if z then key_le p r else nat_lt i k) (eq-eqb i k (a.1 ∙ b.1)) ∙ rec (sym (ap (λ z. if z then key_le p q else nat_lt i j) a.0) ∙ h) (sym (ap (λ z. if z then key_le q r else nat_lt j k) b.0) ∙ g)
    go rec (inl a) (inr b) h g =
        let n : j ≢ k = b.1 in
        let e : i ≡ j = a.1 in
        let lt : j < k = ltb-true j k (sym (ap (λ z. if z then key_le q r else nat_lt j k) b.0) ∙ g) in
        ap (λ z. if z then key_le p r else nat_lt i k) (ne_eqb i k (λ z. n (sym e ∙ z))) ∙ lt_is i k (omega arith)
    go rec (inr a) (inl b) h g =
        let n : i ≢ j = a.1 in
        let e : j ≡ k = b.1 in
        let lt : i < j = ltb-true i j (sym (ap (λ z. if z then key_le p q else nat_lt i j) a.0) ∙ h) in
        ap (λ z. if z then key_le p r else nat_lt i k) (ne_eqb i k (λ z. n (z ∙ sym e))) ∙ lt_is i k (omega arith)
    go rec (inr a) (inr b) h g =
        let x : i < j = ltb-true i j (sym (ap (λ z. if z then key_le p q else nat_lt i j) a.0) ∙ h) in
        let y : j < k = ltb-true j k (sym (ap (λ z. if z then key_le q r else nat_lt j k) b.0) ∙ g) in
        ap (λ z. if z then key_le p r else nat_lt i k) (ne_eqb i k (λ z. absurd (let w : i ≡ k = z in omega arith))) ∙ lt_is i k (omega arith)

-- two of different keys go in, in either order
commute : (x y : Mark) → (key x ≡ key y → ⊥) → (s : List Mark) → insert x (insert y s) ≡ insert y (insert x s)
commute x y ne [] = two (key_le (key x) (key y)) refl (key_le (key y) (key x)) refl
  where
    two : (a : Bool) → key_le (key x) (key y) ≡ a → (b : Bool) → key_le (key y) (key x) ≡ b → (if a then x ∷ (y ∷ []) else y ∷ (x ∷ [])) ≡ (if b then y ∷ (x ∷ []) else x ∷ (y ∷ []))
    two true e true f = absurd (ne (both_ways (key x) (key y) e f))
    two true e false f = refl
    two false e true f = refl
    two false e false f = absurd (let z : false ≡ true = sym f ∙ total (key x) (key y) e in cc)
commute x y ne (z ∷ s) = go (key_le (key x) (key z)) refl (key_le (key y) (key z)) refl (commute x y ne s)
  where
    xy : Bool
    xy = key_le (key x) (key y)

    yx : Bool
    yx = key_le (key y) (key x)

    xz : Bool
    xz = key_le (key x) (key z)

    yz : Bool
    yz = key_le (key y) (key z)

    in_x : List Mark → List Mark
    in_x l = insert x l

    both : (a : Bool) → xy ≡ a → (b : Bool) → yx ≡ b → (if a then x ∷ (y ∷ (z ∷ s)) else y ∷ (x ∷ (z ∷ s))) ≡ (if b then y ∷ (x ∷ (z ∷ s)) else x ∷ (y ∷ (z ∷ s)))
    both true e true f = absurd (ne (both_ways (key x) (key y) e f))
    both true e false f = refl
    both false e true f = refl
    both false e false f = absurd (let k : false ≡ true = sym f ∙ total (key x) (key y) e in cc)

    go : (a : Bool) → xz ≡ a → (b : Bool) → yz ≡ b → insert x (insert y s) ≡ insert y (insert x s) → insert x (if yz then y ∷ (z ∷ s) else z ∷ insert y s) ≡ insert y (if xz then x ∷ (z ∷ s) else z ∷ insert x s)
    go true e true f k =
        ap (λ c. insert x (if c then y ∷ (z ∷ s) else z ∷ insert y s)) f ∙ ap (λ c. if xy then x ∷ (y ∷ (z ∷ s)) else y ∷ (if c then x ∷ (z ∷ s) else z ∷ insert x s)) e ∙ both xy refl yx refl ∙ sym (ap (λ c. insert y (if c then x ∷ (z ∷ s) else z ∷ insert x s)) e ∙ ap (λ c. if yx then y ∷ (x ∷ (z ∷ s)) else x ∷ (if c then y ∷ (z ∷ s) else z ∷ insert y s)) f)
    go true e false f k =
        let n : yx ≡ false = not_so yx refl e f in
        ap (λ c. insert x (if c then y ∷ (z ∷ s) else z ∷ insert y s)) f ∙ ap (λ c. if c then x ∷ (z ∷ insert y s) else z ∷ insert x (insert y s)) e ∙ sym (ap (λ c. insert y (if c then x ∷ (z ∷ s) else z ∷ insert x s)) e ∙ ap (λ c. if c then y ∷ (x ∷ (z ∷ s)) else x ∷ (if yz then y ∷ (z ∷ s) else z ∷ insert y s)) n ∙ ap (λ c. x ∷ (if c then y ∷ (z ∷ s) else z ∷ insert y s)) f)
      where
        not_so : (c : Bool) → yx ≡ c → xz ≡ true → yz ≡ false → c ≡ false
        not_so false i e f = refl
        not_so true i e f = absurd (let w : false ≡ true = sym f ∙ onward (key y) (key x) (key z) i e in cc)
    go false e true f k =
        let n : xy ≡ false = not_so xy refl f e in
        ap (λ c. insert x (if c then y ∷ (z ∷ s) else z ∷ insert y s)) f ∙ ap (λ c. if c then x ∷ (y ∷ (z ∷ s)) else y ∷ (if xz then x ∷ (z ∷ s) else z ∷ insert x s)) n ∙ ap (λ c. y ∷ (if c then x ∷ (z ∷ s) else z ∷ insert x s)) e ∙ sym (ap (λ c. insert y (if c then x ∷ (z ∷ s) else z ∷ insert x s)) e ∙ ap (λ c. if c then y ∷ (z ∷ insert x s) else z ∷ insert y (insert x s)) f)
      where
        not_so : (c : Bool) → xy ≡ c → yz ≡ true → xz ≡ false → c ≡ false
        not_so false i e f = refl
        not_so true i e f = absurd (let w : false ≡ true = sym f ∙ onward (key x) (key y) (key z) i e in cc)
    go false e false f k =
        ap (λ c. insert x (if c then y ∷ (z ∷ s) else z ∷ insert y s)) f ∙ ap (λ c. if c then x ∷ (z ∷ insert y s) else z ∷ insert x (insert y s)) e ∙ ap (λ l. z ∷ l) k ∙ sym (ap (λ c. insert y (if c then x ∷ (z ∷ s) else z ∷ insert x s)) e ∙ ap (λ c. if c then y ∷ (z ∷ insert x s) else z ∷ insert y (insert x s)) f)

-- equal keys are of one path
pub init_same : (p q : Path) (i j : ℕ) → p ++ i ∷ [] ≡ q ++ j ∷ [] → p ≡ q
init_same [] [] i j e = refl
init_same [] (y ∷ []) i j e = absurd (cc)
init_same [] (y ∷ (z ∷ q)) i j e = absurd (cc)
init_same (x ∷ []) [] i j e = absurd (cc)
init_same (x ∷ (z ∷ p)) [] i j e = absurd (cc)
init_same (x ∷ p) (y ∷ q) i j e =
    let a : x ≡ y = cc in let r : p ++ i ∷ [] ≡ q ++ j ∷ [] = cc in ap (λ z. z ∷ p) a ∙ ap (λ z. y ∷ z) (init_same p q i j r)

other_key : (x m : Mark) → same_path m.path x.path ≡ false → key x ≡ key m → ⊥
other_key x m h e =
    let i : x.path ≡ m.path = init_same x.path m.path x.children m.children e in
    let z : false ≡ true = sym h ∙ subst (λ q. same_path m.path q ≡ true) (sym i) (same_self m.path) in
    absurd (cc)

-- one goes first past those of other paths
to_front : (x : Mark) (front back : List Mark) → Every (λ m. same_path m.path x.path ≡ false) front → in_order (front ++ (x ∷ back)) ≡ insert x (in_order (front ++ back))
to_front x [] back h = refl
to_front x (m ∷ front) back h =
    ap (insert m) (to_front x front back h.1) ∙ sym (commute x m (other_key x m h.0) (in_order (front ++ back)))

data Split (q : Path) (x : Mark) (r ys : List Mark) : Type 0 where
  split : (front back : List Mark) → ys ≡ front ++ (x ∷ back) → Every (λ m. same_path m.path q ≡ false) front → marks_at q back ≡ r → Split q x r ys

find : (q : Path) (x : Mark) (r ys : List Mark) → marks_at q ys ≡ x ∷ r → Split q x r ys
find q x r [] h = absurd (cc)
find q x r (y ∷ ys) h = go (same_path y.path q) refl h (λ e. find q x r ys e)
  where
    go : (b : Bool) → same_path y.path q ≡ b → cons_option (if b then Some y else None) (marks_at q ys) ≡ x ∷ r → (marks_at q ys ≡ x ∷ r → Split q x r ys) → Split q x r (y ∷ ys)
    go true e k f =
        let a : y ≡ x = cc in let b : marks_at q ys ≡ r = cc in split [] ys (ap (λ z. z ∷ ys) a) tt b
    go false e k f = more (f k)
      where
        more : Split q x r ys → Split q x r (y ∷ ys)
        more (split front back i h g) = split (y ∷ front) back (ap (λ z. y ∷ z) i) (e, h) g

pub same_order : (xs ys : List Mark) → ((q : Path) → marks_at q xs ≡ marks_at q ys) → in_order xs ≡ in_order ys
same_order [] [] h = refl
same_order [] (y ∷ ys) h =
    absurd (let e : marks_at y.path (y ∷ ys) ≡ y ∷ marks_at y.path ys = ap (λ b. cons_option (if b then Some y else None) (marks_at y.path ys)) (same_self y.path) in let z : [] ≡ y ∷ marks_at y.path ys = h y.path ∙ e in cc)
same_order (x ∷ xs) ys h = go (find x.path x (marks_at x.path xs) ys (sym (h x.path) ∙ here)) (λ zs g. same_order xs zs g)
  where
    here : marks_at x.path (x ∷ xs) ≡ x ∷ marks_at x.path xs
    here = ap (λ b. cons_option (if b then Some x else None) (marks_at x.path xs)) (same_self x.path)

    go : Split x.path x (marks_at x.path xs) ys → ((zs : List Mark) → ((q : Path) → marks_at q xs ≡ marks_at q zs) → in_order xs ≡ in_order zs) → insert x (in_order xs) ≡ in_order ys
    go (split front back i f g) k =
        ap (insert x) (k (front ++ back) (λ q. each q (same_path x.path q) refl)) ∙ sym (ap in_order i ∙ to_front x front back f)
      where
        both : (q : Path) (a b : List Mark) → marks_at q (a ++ b) ≡ marks_at q a ++ marks_at q b
        both q a b = filter_map-append _ a b

        each : (q : Path) (b : Bool) → same_path x.path q ≡ b → marks_at q xs ≡ marks_at q (front ++ back)
        each q true e =
            let p : x.path ≡ q = same_path_is x.path q e in
            subst (λ z. marks_at z xs ≡ marks_at z (front ++ back)) p (sym (both x.path front back ∙ ap (λ z. z ++ marks_at x.path back) (no_deeds x.path front f) ∙ g))
        each q false e =
            let one : (l : List Mark) → marks_at q (x ∷ l) ≡ marks_at q l = λ l. ap (λ b. cons_option (if b then Some x else None) (marks_at q l)) e in
            sym (one xs) ∙ h q ∙ ap (marks_at q) i ∙ both q front (x ∷ back) ∙ ap (λ z. marks_at q front ++ z) (one back) ∙ sym (both q front back)
