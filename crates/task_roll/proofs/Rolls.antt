-- What becomes of a roll, by places.
use Rattle.std.proofs.Common.{◌≡◌, ℕ, suc, ◌<◌, ◌≤◌, Bool, true, false, ◌||◌, List, [], ◌∷◌, ◌++◌, length, map, refl, sym, ap, ◌∙◌, subst, arith}
use Rattle.std.specs.Prelude.{Option, None, slice_index_or, if◌then◌else◌}
use Rattle.std.specs.List.{insert, remove}
use Rattle.jade_base.specs.Places.{same_path}
use Rattle.task_roll.specs.declared.note.PartNote.{PartNote}
use Rattle.jade_base.specs.declared.report.Blame.{Blame}
use Rattle.task_roll.specs.Order.{place_among, entered, without, is_among, fits}
use Rattle.task_roll.specs.Rolls.{on_roll, noting, enrolled, resigned, filed, filed_into, by_key}
use Rattle.task_roll.proofs.InOrder.{same-is}

pub among-place : (p : List ℕ) (es : List (List ℕ)) → place_among p es < length es → is_among p es ≡ true
among-place p [] lt = absurd (omega arith)
among-place p (e ∷ es) lt = go (among-place p es) (same_path p e) lt
  where
    go : (place_among p es < length es → is_among p es ≡ true) → (b : Bool) → (if b then 0 else suc (place_among p es)) < suc (length es) →
        b || is_among p es ≡ true
    go f true lt = refl
    go f false lt = f (omega arith)

pub not-among-place : (p : List ℕ) (es : List (List ℕ)) → length es ≤ place_among p es → is_among p es ≡ false
not-among-place p [] le = refl
not-among-place p (e ∷ es) le = go (not-among-place p es) (same_path p e) le
  where
    go : (length es ≤ place_among p es → is_among p es ≡ false) → (b : Bool) → suc (length es) ≤ (if b then 0 else suc (place_among p es)) →
        b || is_among p es ≡ false
    go f true le = absurd (omega arith)
    go f false le = f (omega arith)

pub without-remove : (p : List ℕ) (es : List (List ℕ)) → place_among p es < length es → remove es (place_among p es) ≡ without p es
without-remove p [] lt = absurd (omega arith)
without-remove p (e ∷ es) lt = go (without-remove p es) (same_path p e) lt
  where
    go : (place_among p es < length es → remove es (place_among p es) ≡ without p es) → (b : Bool) →
        (if b then 0 else suc (place_among p es)) < suc (length es) →
        remove (e ∷ es) (if b then 0 else suc (place_among p es)) ≡ (if b then es else e ∷ without p es)
    go f true lt = refl
    go f false lt = ap (λ ys. e ∷ ys) (f (omega arith))

pub entered-insert : (p c : List ℕ) (es : List (List ℕ)) → place_among p es < length es → insert es (place_among p es) c ≡ entered p c es
entered-insert p c [] lt = absurd (omega arith)
entered-insert p c (e ∷ es) lt = go (entered-insert p c es) (same_path p e) lt
  where
    go : (place_among p es < length es → insert es (place_among p es) c ≡ entered p c es) → (b : Bool) →
        (if b then 0 else suc (place_among p es)) < suc (length es) →
        insert (e ∷ es) (if b then 0 else suc (place_among p es)) c ≡ (if b then c ∷ (e ∷ es) else e ∷ entered p c es)
    go f true lt = refl
    go f false lt = ap (λ ys. e ∷ ys) (f (omega arith))

-- the path at its own place
pub at-place : (p x : List ℕ) (es : List (List ℕ)) → place_among p es < length es → x ≡ slice_index_or es (place_among p es) x → x ≡ p
at-place p x [] lt q = absurd (omega arith)
at-place p x (e ∷ es) lt q = go (at-place p x es) (same_path p e) refl lt q
  where
    go : (place_among p es < length es → x ≡ slice_index_or es (place_among p es) x → x ≡ p) → (b : Bool) → same_path p e ≡ b →
        (if b then 0 else suc (place_among p es)) < suc (length es) → x ≡ slice_index_or (e ∷ es) (if b then 0 else suc (place_among p es)) x → x ≡ p
    go f true w lt q = q ∙ sym (same-is p e w)
    go f false w lt q = f (omega arith) q

-- the last of some notes is filed among the others
pub filed-last : (n : PartNote) (ns ms : List PartNote) → filed_into (ns ++ n ∷ []) ms ≡ filed n (filed_into ns ms)
filed-last n [] ms = refl
filed-last n (m ∷ ns) ms = filed-last n ns (filed m ms)

pub by_key-last : (n : PartNote) (ns : List PartNote) → by_key (ns ++ n ∷ []) ≡ filed n (by_key ns)
by_key-last n ns = filed-last n ns []

-- a list of paths stands in order by its own paths
pub own : (ps : List (List ℕ)) → map (λ p. p) ps ≡ ps
own [] = refl
own (p ∷ ps) = ap (λ qs. p ∷ qs) (own ps)

-- a roll at a place that a child does not fit, and at one that it does
pub not-enrolled : (p : List ℕ) (n k : ℕ) (ps : List (List ℕ)) (ns : List PartNote) → fits p (p ++ n ∷ []) ps ≡ false →
    on_roll ps ns ≡ enrolled p n k (on_roll ps ns)
not-enrolled p n k ps ns h =
    subst (λ b. on_roll ps ns ≡ (if b then
    on_roll (entered p (p ++ n ∷ []) ps) (noting (record { path = p; children = n; steps = k; blame = None }) ns)
    else on_roll ps ns)) (sym h) refl

pub is-enrolled : (p : List ℕ) (n k : ℕ) (ps : List (List ℕ)) (ns : List PartNote) → fits p (p ++ n ∷ []) ps ≡ true →
    on_roll (entered p (p ++ n ∷ []) ps) (noting (record { path = p; children = n; steps = k; blame = None }) ns) ≡ enrolled p n k (on_roll ps ns)
is-enrolled p n k ps ns h =
    subst (λ b. on_roll (entered p (p ++ n ∷ []) ps) (noting (record { path = p; children = n; steps = k; blame = None }) ns) ≡ (if b then
    on_roll (entered p (p ++ n ∷ []) ps) (noting (record { path = p; children = n; steps = k; blame = None }) ns)
    else on_roll ps ns)) (sym h) refl

pub not-resigned : (p : List ℕ) (n k : ℕ) (b : Option Blame) (ps : List (List ℕ)) (ns : List PartNote) → is_among p ps ≡ false →
    on_roll ps ns ≡ resigned p n b k (on_roll ps ns)
not-resigned p n k b ps ns h =
    subst (λ x. on_roll ps ns ≡ (if x then
    on_roll (without p ps) (noting (record { path = p; children = n; steps = k; blame = b }) ns)
    else on_roll ps ns)) (sym h) refl

pub is-resigned : (p : List ℕ) (n k : ℕ) (b : Option Blame) (ps : List (List ℕ)) (ns : List PartNote) → is_among p ps ≡ true →
    on_roll (without p ps) (noting (record { path = p; children = n; steps = k; blame = b }) ns) ≡ resigned p n b k (on_roll ps ns)
is-resigned p n k b ps ns h =
    subst (λ x. on_roll (without p ps) (noting (record { path = p; children = n; steps = k; blame = b }) ns) ≡ (if x then
    on_roll (without p ps) (noting (record { path = p; children = n; steps = k; blame = b }) ns)
    else on_roll ps ns)) (sym h) refl
