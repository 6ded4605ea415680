-- What becomes of the order of a queue as its entries change.
use Rattle.std.proofs.Common.{◌≡◌, ℕ, suc, ◌<◌, ◌≤◌, Bool, true, false, ◌||◌, Some, List, [], ◌∷◌, length, refl, sym, ap, ◌∙◌, subst, arith}
use Rattle.std.specs.Prelude.{if◌then◌else◌}
use Rattle.jade_base.specs.declared.rights.Rights.{Rights}
use Rattle.jade_base.specs.Places.{same_path}
use Rattle.task_roll.specs.Order as order
use Rattle.task_roll.proofs.InOrder as in_order
use Rattle.object_shelf.specs.declared.queue.Entry.{Entry}
use Rattle.object_shelf.specs.Shelves.{place_in, find, at, without, entered_in, newborn}
use Rattle.object_shelf.specs.Order.{paths, is_ordered, fits, fitted_in}
pub use Rattle.task_roll.proofs.InOrder.{same-is, same-refl, before-other}

-- a path has the same place among entries and among their tasks
pub place-paths : (p : List ℕ) (es : List Entry) → order.place_among p (paths es) ≡ place_in p es
place-paths p [] = refl
place-paths p (e ∷ es) = ap (λ n. if same_path p e.path then 0 else suc n) (place-paths p es)

pub length-paths : (es : List Entry) → length (paths es) ≡ length es
length-paths [] = refl
length-paths (e ∷ es) = ap suc (length-paths es)

-- entries change but for their paths
at-paths : (p : List ℕ) (f : Entry → Entry) (es : List Entry) → ((e : Entry) → (f e).path ≡ e.path) → paths (at p f es) ≡ paths es
at-paths p f [] h = refl
at-paths p f (e ∷ es) h =
    elim (same_path p e.path) as (λ b. paths (if b then f e ∷ es else e ∷ at p f es) ≡ paths (e ∷ es)) [
      | true ↦ ap (λ q. q ∷ paths es) (h e)
      | false ↦ ap (λ qs. e.path ∷ qs) (at-paths p f es h)
    ]

pub at-ordered : (p : List ℕ) (f : Entry → Entry) (es : List Entry) → ((e : Entry) → (f e).path ≡ e.path) → is_ordered (at p f es) ≡ is_ordered es
at-ordered p f es h = ap order.is_ordered (at-paths p f es h)

-- one goes
without-paths : (p : List ℕ) (es : List Entry) → paths (without p es) ≡ order.without p (paths es)
without-paths p [] = refl
without-paths p (e ∷ es) =
    elim (same_path p e.path) as (λ b. paths (if b then es else e ∷ without p es) ≡ (if b then paths es else e.path ∷ order.without p (paths es))) [
      | true ↦ refl
      | false ↦ ap (λ qs. e.path ∷ qs) (without-paths p es)
    ]

pub without-ordered : (p : List ℕ) (es : List Entry) → is_ordered es ≡ true → is_ordered (without p es) ≡ true
without-ordered p es h = ap order.is_ordered (without-paths p es) ∙ in_order.without-ordered p (paths es) h

-- a child's is put before its parent's that fits there
entered-paths : (p c : List ℕ) (a : Rights) (es : List Entry) → paths (entered_in p c a es) ≡ order.entered p c (paths es)
entered-paths p c a [] = refl
entered-paths p c a (e ∷ es) =
    elim (same_path p e.path) as (λ b. paths (if b then newborn c a e ∷ (e ∷ es) else e ∷ entered_in p c a es) ≡
    (if b then c ∷ (e.path ∷ paths es) else e.path ∷ order.entered p c (paths es))) [
      | true ↦ refl
      | false ↦ ap (λ qs. e.path ∷ qs) (entered-paths p c a es)
    ]

pub entered-ordered : (p c : List ℕ) (a : Rights) (es : List Entry) → is_ordered es ≡ true → fits p c es ≡ true → is_ordered (entered_in p c a es) ≡ true
entered-ordered p c a es h g = ap order.is_ordered (entered-paths p c a es) ∙ in_order.entered-ordered p c (paths es) h g

-- where it is put before its parent's and the order is kept, it fits
among-paths : (p : List ℕ) (es : List Entry) (e : Entry) → find p es ≡ Some e → order.is_among p (paths es) ≡ true
among-paths p [] e h = absurd (cc)
among-paths p (x ∷ es) e h = go (same_path p x.path) h (λ k. among-paths p es e k)
  where
    go : (b : Bool) → (if b then Some x else find p es) ≡ Some e → (find p es ≡ Some e → order.is_among p (paths es) ≡ true)
        → b || order.is_among p (paths es) ≡ true
    go true h f = refl
    go false h f = f h

pub entered-fits : (p c : List ℕ) (a : Rights) (es : List Entry) (e : Entry) → find p es ≡ Some e → is_ordered (entered_in p c a es) ≡ true →
    fits p c es ≡ true
entered-fits p c a es e h o =
    in_order.ordered-fits p c (paths es) (among-paths p es e h) (ap order.is_ordered (sym (entered-paths p c a es)) ∙ o)

-- where it fits is told by two entries
pub fits-there : (p c : List ℕ) (es : List Entry) → is_ordered es ≡ true → place_in p es < length es →
    order.fits_at (place_in p es) c (paths es) ≡ fits p c es
fits-there p c es h lt =
    let q = place-paths p es in
    let l = length-paths es in
    ap (λ n. order.fits_at n c (paths es)) (sym q) ∙ in_order.fits-there p c (paths es) h (omega (arith, q, l))

-- a path without an entry fits nowhere
pub fits-past : (p c : List ℕ) (es : List Entry) → length es ≤ place_in p es → fits p c es ≡ false
fits-past p c es le =
    let q = place-paths p es in
    let l = length-paths es in
    in_order.fits-past p c (paths es) (omega (arith, q, l))

-- the entry put where it fits
pub fitted-in : (p c : List ℕ) (a : Rights) (es : List Entry) → fits p c es ≡ true → fitted_in p c a es ≡ entered_in p c a es
fitted-in p c a es h = subst (λ b. (if b then entered_in p c a es else es) ≡ entered_in p c a es) (sym h) refl

pub fitted-out : (p c : List ℕ) (a : Rights) (es : List Entry) → fits p c es ≡ false → es ≡ fitted_in p c a es
fitted-out p c a es h = subst (λ b. es ≡ (if b then entered_in p c a es else es)) (sym h) refl
