-- What becomes of a queue by a path is what becomes of it by the path's place.
use Rattle.std.proofs.Common.{◌≡◌, ℕ, zero, suc, ◌<◌, ◌≤◌, Bool, true, false, ◌&&◌, List, [], ◌∷◌, length, refl, ap, ◌∙◌, subst, arith}
use Rattle.std.specs.Prelude.{Some, None, slice_get, slice_set, slice_index_or, nat_eq, if◌then◌else◌}
use Rattle.std.proofs.lemmas.Bool.Decides.{nat_tests}
use Rattle.jade_base.specs.declared.rights.Mode.{Mode}
use Rattle.jade_base.specs.Places.{same_path}
use Rattle.task_roll.specs.Order as order
use Rattle.object_shelf.specs.declared.queue.Entry.{Entry}
use Rattle.object_shelf.specs.Shelves.{conflicts, place_in, find, at, blocker_in, keeper_in, or_else, out_for}
use Rattle.object_shelf.specs.Order.{paths, is_ordered}
use Rattle.object_shelf.specs.Places.{at_nth, blocker_before, keeper_before}

-- the path's entry
pub place-find : (p : List ℕ) (es : List Entry) → find p es ≡ slice_get es (place_in p es)
place-find p [] = refl
place-find p (e ∷ es) =
    elim (same_path p e.path) as (λ b. (if b then Some e else find p es) ≡ slice_get (e ∷ es) (if b then 0 else suc (place_in p es))) [
      | true ↦ refl
      | false ↦ place-find p es
    ]

-- a change of it
pub place-at : (p : List ℕ) (f : Entry → Entry) (es : List Entry) → at p f es ≡ at_nth (place_in p es) f es
place-at p f [] = refl
place-at p f (e ∷ es) =
    elim (same_path p e.path) as (λ b. (if b then f e ∷ es else e ∷ at p f es) ≡ at_nth (if b then 0 else suc (place_in p es)) f (e ∷ es)) [
      | true ↦ refl
      | false ↦ ap (λ ys. e ∷ ys) (place-at p f es)
    ]

flip-one : (i j : ℕ) (a b : Bool) → a ≡ b → nat_eq i j && a ≡ nat_eq j i && b
flip-one i j true true e = grind (arith, nat_tests)
flip-one i j false false e = grind (arith, nat_tests)
flip-one i j true false e = absurd (cc)
flip-one i j false true e = absurd (cc)

flip : (p q : List ℕ) → same_path p q ≡ same_path q p
flip [] [] = refl
flip [] (j ∷ q) = refl
flip (i ∷ p) [] = refl
flip (i ∷ p) (j ∷ q) = flip-one i j (same_path p q) (same_path q p) (flip p q)

-- the first entry before it that conflicts
place-blocker : (p : List ℕ) (m : Mode) (es : List Entry) → blocker_in p m es ≡ blocker_before (place_in p es) m es
place-blocker p m [] = refl
place-blocker p m (e ∷ es) =
    subst (λ b. (if b then None else (if conflicts m e then Some e else blocker_in p m es)) ≡ blocker_before (place_in p (e ∷ es)) m (e ∷ es)) (flip p e.path)
    (go (same_path p e.path) (place-blocker p m es))
  where
    go : (b : Bool) → blocker_in p m es ≡ blocker_before (place_in p es) m es →
        (if b then None else (if conflicts m e then Some e else blocker_in p m es)) ≡ blocker_before (if b then 0 else suc (place_in p es)) m (e ∷ es)
    go true next = refl
    go false next = ap (λ r. if conflicts m e then Some e else r) next

-- the entry that keeps the path's task from a hold
pub place-keeper : (p : List ℕ) (m : Mode) (es : List Entry) → keeper_in p m es ≡ keeper_before (place_in p es) m es
place-keeper p m es = ap (λ r. or_else r (out_for m es)) (place-blocker p m es)

-- a change by its place
pub nth-set : (n : ℕ) (f : Entry → Entry) (es : List Entry) (e y : Entry) → n < length es → e ≡ slice_index_or es n e → y ≡ f e →
    slice_set es n y ≡ at_nth n f es
nth-set n f [] e y lt q w = absurd (omega arith)
nth-set zero f (x ∷ es) e y lt q w = ap (λ z. z ∷ es) (w ∙ ap f q)
nth-set (suc n) f (x ∷ es) e y lt q w = ap (λ ys. x ∷ ys) (nth-set n f es e y (omega arith) q w)

pub nth-past : (n : ℕ) (f : Entry → Entry) (es : List Entry) → length es ≤ n → es ≡ at_nth n f es
nth-past n f [] le = refl
nth-past zero f (x ∷ es) le = absurd (omega arith)
nth-past (suc n) f (x ∷ es) le = ap (λ ys. x ∷ ys) (nth-past n f es (omega arith))

-- paths stay
nth-paths : (n : ℕ) (f : Entry → Entry) (es : List Entry) → ((e : Entry) → (f e).path ≡ e.path) → paths (at_nth n f es) ≡ paths es
nth-paths n f [] h = refl
nth-paths zero f (x ∷ es) h = ap (λ q. q ∷ paths es) (h x)
nth-paths (suc n) f (x ∷ es) h = ap (λ qs. x.path ∷ qs) (nth-paths n f es h)

pub nth-ordered : (n : ℕ) (f : Entry → Entry) (es : List Entry) → ((e : Entry) → (f e).path ≡ e.path) → is_ordered (at_nth n f es) ≡ is_ordered es
nth-ordered n f es h = ap order.is_ordered (nth-paths n f es h)
