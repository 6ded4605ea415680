-- An object keeps its content in one place.
use Rattle.std.proofs.Common.{◌≡◌, ℕ, suc, Bool, true, false, ◌&&◌, ◌||◌, List, [], ◌∷◌, length, refl, sym, ap, ◌∙◌, subst, Option, Some, None, is_some, arith}
use Rattle.std.specs.Prelude.{ℤ, if◌then◌else◌}
use Rattle.jade_base.specs.declared.rights.Rights.{Rights}
use Rattle.jade_base.specs.declared.rights.Mode.{Mode}
use Rattle.jade_base.specs.declared.rights.Mode.TheVariants.{Reading, Writing, Commuting}
use Rattle.jade_base.specs.Held.{Held}
use Rattle.object_shelf.specs.declared.queue.Entry.{Entry}
use Rattle.object_shelf.specs.Shelves.{same_path, find, at, without, takes_out, entered_in, newborn, held_with, held_for, or_fresh, version_or}
use Rattle.object_shelf.specs.Order.{stands_before, fits, fitted_in}
use Rattle.object_shelf.specs.Homes.{hand_of, kept_of, or_home}
use Rattle.object_shelf.specs.Whole.{content_of, is_out, was_kept, in_hand, in_hand_as}
use Rattle.object_shelf.proofs.Order.{same-refl, before-other}

or-left : (a b : Bool) → a ≡ true → a || b ≡ true
or-left true b h = refl
or-left false b h = absurd (cc)

or-right : (a b : Bool) → b ≡ true → a || b ≡ true
or-right true b h = refl
or-right false b h = h

-- a change of holds that puts nothing out
pub at-out : (p : List ℕ) (f : Entry → Entry) → ((e : Entry) → takes_out (f e).hold ≡ true → takes_out e.hold ≡ true) → (es : List Entry) →
    is_out (at p f es) ≡ true → is_out es ≡ true
at-out p f k [] h = h
at-out p f k (x ∷ es) h = go (same_path p x.path) (at-out p f k es) h
  where
    first : (a b c : Bool) → (a ≡ true → b ≡ true) → a || c ≡ true → b || c ≡ true
    first true b c f h = or-left b c (f refl)
    first false b c f h = or-right b c h

    rest : (a b c : Bool) → (b ≡ true → c ≡ true) → a || b ≡ true → a || c ≡ true
    rest true b c f h = refl
    rest false b c f h = f h

    go : (b : Bool) → (is_out (at p f es) ≡ true → is_out es ≡ true) → is_out (if b then f x ∷ es else x ∷ at p f es) ≡ true →
        takes_out x.hold || is_out es ≡ true
    go true g h = first (takes_out (f x).hold) (takes_out x.hold) (is_out es) (k x) h
    go false g h = rest (takes_out x.hold) (is_out (at p f es)) (is_out es) g h

pub without-out : (p : List ℕ) (es : List Entry) → is_out (without p es) ≡ true → is_out es ≡ true
without-out p [] h = h
without-out p (x ∷ es) h = go (same_path p x.path) (without-out p es) h
  where
    rest : (a b c : Bool) → (b ≡ true → c ≡ true) → a || b ≡ true → a || c ≡ true
    rest true b c f h = refl
    rest false b c f h = f h

    go : (b : Bool) → (is_out (without p es) ≡ true → is_out es ≡ true) → is_out (if b then es else x ∷ without p es) ≡ true →
        takes_out x.hold || is_out es ≡ true
    go true g h = or-right (takes_out x.hold) (is_out es) h
    go false g h = rest (takes_out x.hold) (is_out (without p es)) (is_out es) g h

-- a new entry holds nothing
pub entered-out : (p c : List ℕ) (a : Rights) (es : List Entry) → is_out (entered_in p c a es) ≡ is_out es
entered-out p c a [] = refl
entered-out p c a (x ∷ es) =
    elim (same_path p x.path) as (λ b. is_out (if b then newborn c a x ∷ (x ∷ es) else x ∷ entered_in p c a es) ≡ takes_out x.hold || is_out es) [
      | true ↦ refl
      | false ↦ ap (λ b. takes_out x.hold || b) (entered-out p c a es)
    ]

-- one entry more
pub entered-length : (p c : List ℕ) (a : Rights) (es : List Entry) → fits p c es ≡ true → length (entered_in p c a es) ≡ suc (length es)
entered-length p c a [] h = absurd (cc)
entered-length p c a (x ∷ es) h = go (same_path p x.path) (entered-length p c a es) h
  where
    right : (a b : Bool) → a && b ≡ true → b ≡ true
    right true b h = h
    right false b h = absurd (cc)

    go : (b : Bool) → (fits p c es ≡ true → length (entered_in p c a es) ≡ suc (length es)) →
        (if b then stands_before c x.path else (stands_before x.path c && fits p c es)) ≡ true →
        length (if b then newborn c a x ∷ (x ∷ es) else x ∷ entered_in p c a es) ≡ suc (suc (length es))
    go true f h = refl
    go false f h = ap suc (f (right (stands_before x.path c) (fits p c es) h))

pub same-length : (p c : List ℕ) (a : Rights) (es : List Entry) → length (fitted_in p c a es) ≡ length es → fitted_in p c a es ≡ es
same-length p c a es h = go (fits p c es) refl h
  where
    go : (b : Bool) → fits p c es ≡ b → length (if b then entered_in p c a es else es) ≡ length es → (if b then entered_in p c a es else es) ≡ es
    go true w h = absurd (let l = entered-length p c a es w in omega arith)
    go false w h = refl

-- what was entered and left is as it was
pub entered-left : (p c : List ℕ) (a : Rights) (es : List Entry) → fits p c es ≡ true → without c (entered_in p c a es) ≡ es
entered-left p c a [] h = refl
entered-left p c a (x ∷ es) h = go (same_path p x.path) (entered-left p c a es) h
  where
    left : (a b : Bool) → a && b ≡ true → a ≡ true
    left true b h = refl
    left false b h = absurd (cc)

    right : (a b : Bool) → a && b ≡ true → b ≡ true
    right true b h = h
    right false b h = absurd (cc)

    go : (b : Bool) → (fits p c es ≡ true → without c (entered_in p c a es) ≡ es) →
        (if b then stands_before c x.path else (stands_before x.path c && fits p c es)) ≡ true →
        without c (if b then newborn c a x ∷ (x ∷ es) else x ∷ entered_in p c a es) ≡ x ∷ es
    go true f h = subst (λ b. (if b then x ∷ es else newborn c a x ∷ without c (x ∷ es)) ≡ x ∷ es) (sym (same-refl c)) refl
    go false f h =
        subst (λ b. (if b then entered_in p c a es else x ∷ without c (entered_in p c a es)) ≡ x ∷ es)
        (sym (before-other x.path c (left (stands_before x.path c) (fits p c es) h)))
        (ap (λ ys. x ∷ ys) (f (right (stands_before x.path c) (fits p c es) h)))

-- two changes that agree on the path's entry
pub at-found : (p : List ℕ) (f g : Entry → Entry) (es : List Entry) → ((e : Entry) → find p es ≡ Some e → f e ≡ g e) → at p f es ≡ at p g es
at-found p f g [] k = refl
at-found p f g (x ∷ es) k = go (same_path p x.path) (at-found p f g es) k
  where
    go : (b : Bool) → (((e : Entry) → find p es ≡ Some e → f e ≡ g e) → at p f es ≡ at p g es) →
        ((e : Entry) → (if b then Some x else find p es) ≡ Some e → f e ≡ g e) →
        (if b then f x ∷ es else x ∷ at p f es) ≡ (if b then g x ∷ es else x ∷ at p g es)
    go true i k = ap (λ y. y ∷ es) (k x refl)
    go false i k = ap (λ ys. x ∷ ys) (i k)

read-version : (v h : Option (List ℤ)) (c : Option Held) (xs : List ℤ) → or_home v h ≡ Some xs → or_fresh (or_home v h) v ≡ Some (version_or v (content_of h c))
read-version None None c xs q = absurd (cc)
read-version None (Some ys) c xs q = refl
read-version (Some zs) h c xs q = refl

pub taken-queue : (p : List ℕ) (m : Mode) (es : List Entry) (h : Option (List ℤ)) (c : Option Held) (xs : List ℤ) → hand_of m (find p es) h ≡ Some xs →
    at p (held_with m (kept_of m (hand_of m (find p es) h))) es ≡ at p (held_for m (content_of h c)) es
taken-queue p Writing es h c xs q = at-found p _ _ es (λ e k. refl)
taken-queue p Commuting es h c xs q = at-found p _ _ es (λ e k. refl)
taken-queue p Reading es h c xs q = at-found p _ _ es (λ e k. own e k)
  where
    own : (e : Entry) → find p es ≡ Some e → held_with Reading (hand_of Reading (find p es) h) e ≡ held_for Reading (content_of h c) e
    own e k =
        let r : hand_of Reading (find p es) h ≡ or_home e.version h = ap (λ o. hand_of Reading o h) k in
        ap (λ v. record e { hold = Some Reading; version = v }) (ap (λ o. or_fresh o e.version) r ∙ read-version e.version h c xs (sym r ∙ q))

out-there : (p : List ℕ) (f : Entry → Entry) (es : List Entry) (e : Entry) → find p es ≡ Some e → ((x : Entry) → takes_out (f x).hold ≡ true) →
    is_out (at p f es) ≡ true
out-there p f [] e k t = absurd (cc)
out-there p f (x ∷ es) e k t = go (same_path p x.path) (λ k. out-there p f es e k t) k
  where
    go : (b : Bool) → (find p es ≡ Some e → is_out (at p f es) ≡ true) → (if b then Some x else find p es) ≡ Some e →
        is_out (if b then f x ∷ es else x ∷ at p f es) ≡ true
    go true i k = or-left (takes_out (f x).hold) (is_out es) (t x)
    go false i k = or-right (takes_out x.hold) (is_out (at p f es)) (i k)

out-same : (p : List ℕ) (f : Entry → Entry) (es : List Entry) → ((e : Entry) → find p es ≡ Some e → takes_out (f e).hold ≡ takes_out e.hold) →
    is_out (at p f es) ≡ is_out es
out-same p f [] k = refl
out-same p f (x ∷ es) k = go (same_path p x.path) (out-same p f es) k
  where
    go : (b : Bool) → (((e : Entry) → find p es ≡ Some e → takes_out (f e).hold ≡ takes_out e.hold) → is_out (at p f es) ≡ is_out es) →
        ((e : Entry) → (if b then Some x else find p es) ≡ Some e → takes_out (f e).hold ≡ takes_out e.hold) →
        is_out (if b then f x ∷ es else x ∷ at p f es) ≡ takes_out x.hold || is_out es
    go true i k = ap (λ b. b || is_out es) (k x refl)
    go false i k = ap (λ b. takes_out x.hold || b) (i k)

pub taken-out : (p : List ℕ) (m : Mode) (es : List Entry) (h : Option (List ℤ)) (c : Option Held) (d : Held) (v : Option (List ℤ)) →
    hand_of m (find p es) h ≡ Some d.cells → d.mode ≡ m → was_kept v (find p es) → is_some c ≡ is_out es →
    is_some (in_hand d c) ≡ is_out (at p (held_with m (kept_of m (hand_of m (find p es) h))) es)
taken-out p m es h c d v q w k o = ap (λ n. is_some (in_hand_as n d c)) w ∙ go m (find p es) refl q k
  where
    f : Mode → Entry → Entry
    f m = held_with m (kept_of m (hand_of m (find p es) h))

    go : (m : Mode) (r : Option Entry) → find p es ≡ r → hand_of m r h ≡ Some d.cells → was_kept v r → is_some (in_hand_as m d c) ≡ is_out (at p (f m) es)
    go m None k q w = absurd w
    go Writing (Some e) k q w = sym (out-there p (f Writing) es e k (λ x. refl))
    go Commuting (Some e) k q w = sym (out-there p (f Commuting) es e k (λ x. refl))
    go Reading (Some e) k q w = o ∙ sym (out-same p (f Reading) es (λ x j. sym (ap (λ (y : Option Mode). takes_out y) (hold x (sym j ∙ k)))))
      where
        hold : (x : Entry) → Some x ≡ Some e → x.hold ≡ None
        hold x j = let i : x ≡ e = cc in ap (λ (y : Entry). y.hold) i ∙ w.0

pub fitted-same : (p c : List ℕ) (a : Rights) (es : List Entry) → is_out (fitted_in p c a es) ≡ is_out es
fitted-same p c a es =
    elim (fits p c es) as (λ b. is_out (if b then entered_in p c a es else es) ≡ is_out es) [
      | true ↦ entered-out p c a es
      | false ↦ refl
    ]
