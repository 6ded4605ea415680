-- With what a call replaces names: each by another, and none by a name of before.
use Rattle.std.proofs.Common.{◌≡◌, ℕ, ◌+◌, Bool, true, false, List, [], ◌∷◌, length, refl, sym, ap, ◌∙◌, arith}
use Rattle.std.specs.Prelude.{◌||◌, if◌then◌else◌}
use Rattle.jade_syntax.specs.Abstract.{Name}
use Rattle.jade_syntax.specs.Numbering.{same_name}
use Rattle.proc_laws.specs.Expansion.{replacement}
use Rattle.proc_expand.specs.Names.{is_among, place_among, first_places}
use Rattle.proc_laws.proofs.Basics.{by_case, no_both, same_either, same_self, same_from, not_same, place_below, place_one}
use Rattle.proc_laws.proofs.Evaluations.{Renames}

-- an item, or a name that is replaced
abbrev pub known_of : (items names : List Name) → Name → Bool
known_of items names x = is_among items x || is_among names x

pub or_left : (a b : Bool) → a ≡ true → (a || b) ≡ true
or_left true b h = refl
or_left false b h = absurd (cc)

pub or_right : (a b : Bool) → b ≡ true → (a || b) ≡ true
or_right true b h = refl
or_right false b h = h

pub or_second : (a b : Bool) → a ≡ false → (a || b) ≡ true → b ≡ true
or_second true b h k = absurd (cc)
or_second false b h k = k

-- the names of a list are items, or at a first place of it, or seen before
pub first_known : (items seen xs : List Name) (x : Name) → is_among xs x ≡ true
    → (is_among items x ≡ false) → (is_among seen x ≡ false) → is_among (first_places items seen xs) x ≡ true
first_known items seen [] x h i k = absurd (cc)
first_known items seen (y ∷ ys) x h i k =
    by (λ d. first_known items seen ys x d i k) (λ t d. first_known items (y ∷ seen) ys x d i (ap (λ u. if u then true else is_among seen x) t ∙ k))
    (same_name x y) (is_among items y) (is_among seen y) refl refl refl h
  where
    by : (is_among ys x ≡ true → is_among (first_places items seen ys) x ≡ true)
        → (same_name x y ≡ false → is_among ys x ≡ true → is_among (first_places items (y ∷ seen) ys) x ≡ true)
        → (s a b : Bool) → same_name x y ≡ s → is_among items y ≡ a → is_among seen y ≡ b → (if s then true else is_among ys x) ≡ true
        → is_among (if a then first_places items seen ys else (if b then first_places items seen ys else y ∷ first_places items (y ∷ seen) ys)) x ≡ true
    by f g true true b p q r h = no_both (is_among items x) (ap (is_among items) (same_from x y p) ∙ q) i
    by f g true false true p q r h = no_both (is_among seen x) (ap (is_among seen) (same_from x y p) ∙ r) k
    by f g true false false p q r h = ap (λ u. if u then true else is_among (first_places items (y ∷ seen) ys) x) p
    by f g false true b p q r h = f h
    by f g false false true p q r h = f h
    by f g false false false p q r h = ap (λ u. if u then true else is_among (first_places items (y ∷ seen) ys) x) p ∙ g p h

-- all names of a list are known
pub each_known : (items xs : List Name) (x : Name) → is_among xs x ≡ true → known_of items (first_places items [] xs) x ≡ true
each_known items xs x h = by_case (is_among items x) (λ i. or_left (is_among items x) (is_among (first_places items [] xs) x) i)
    (λ i. or_right (is_among items x) (is_among (first_places items [] xs) x) (first_known items [] xs x h i refl))

module _ (items : List Name) (fresh : ℕ → Name) (one_each : (i j : ℕ) → same_name (fresh i) (fresh j) ≡ true → i ≡ j)
    (no_item : (i : ℕ) → is_among items (fresh i) ≡ false) (names : List Name) (n : ℕ) where
  to : Name → Name
  to = replacement items fresh names n

  pub of_item : (x : Name) → is_among items x ≡ true → replacement items fresh names n x ≡ x
  of_item x h = ap (λ t. if t then x else fresh (n + place_among names x)) h

  pub of_other : (x : Name) → is_among items x ≡ false → replacement items fresh names n x ≡ fresh (n + place_among names x)
  of_other x h = ap (λ t. if t then x else fresh (n + place_among names x)) h

  apart_item : (x : Name) → is_among items x ≡ true → (i : ℕ) → same_name (fresh i) x ≡ false
  apart_item x h i = not_same (fresh i) x (λ e. no_both (is_among items (fresh i)) (ap (is_among items) e ∙ h) (no_item i))

  one_fresh : (i j : ℕ) → fresh i ≡ fresh j → i ≡ j
  one_fresh i j e = one_each i j (ap (same_name (fresh i)) (sym e) ∙ same_self (fresh i))

  back : (x y : Name) → known_of items names x ≡ true → known_of items names y ≡ true
      → replacement items fresh names n x ≡ replacement items fresh names n y → x ≡ y
  back x y h k e = by_case (is_among items x)
      (λ a. by_case (is_among items y) (λ b. sym (of_item x a) ∙ e ∙ of_item y b)
      (λ b. no_both (is_among items x) a (ap (is_among items) (sym (of_item x a) ∙ e ∙ of_other y b) ∙ no_item (n + place_among names y))))
      (λ a. by_case (is_among items y)
      (λ b. no_both (is_among items y) b (ap (is_among items) (sym (of_item y b) ∙ sym e ∙ of_other x a) ∙ no_item (n + place_among names x)))
      (λ b.
      let d : n + place_among names x ≡ n + place_among names y =
      one_fresh (n + place_among names x) (n + place_among names y) (sym (of_other x a) ∙ e ∙ of_other y b) in
      place_one names x y (or_second (is_among items x) (is_among names x) a h) (omega (arith, d))))

  pub renames : Renames items fresh (known_of items names) (replacement items fresh names n) (n + length names)
  renames = record {
    keeps = λ x y h k. same_either (same_name (replacement items fresh names n x) (replacement items fresh names n y)) (same_name x y)
        (λ e. ap (same_name x) (sym (back x y h k (same_from (replacement items fresh names n x) (replacement items fresh names n y) e))) ∙ same_self x)
        (λ e. ap (λ z. same_name (replacement items fresh names n x) (replacement items fresh names n z)) (sym (same_from x y e))
        ∙ same_self (replacement items fresh names n x));
    item_known = λ x h. or_left (is_among items x) (is_among names x) h;
    item = of_item;
    other = λ x h k. ap (is_among items) (of_other x k) ∙ no_item (n + place_among names x);
    old = λ x h i le. by_case (is_among items x) (λ a. ap (same_name (fresh i)) (of_item x a) ∙ apart_item x a i)
        (λ a. ap (same_name (fresh i)) (of_other x a)
        ∙ not_same (fresh i) (fresh (n + place_among names x)) (λ e.
        let d = one_fresh i (n + place_among names x) e in
        let b = place_below names x (or_second (is_among items x) (is_among names x) a h) in
        absurd (omega (arith, d, b, le))));
  }
