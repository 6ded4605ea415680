-- How far a queue is clear, as it changes.
use Rattle.std.proofs.Common.{◌≡◌, ℕ, zero, suc, ◌+◌, ◌-◌, ◌<◌, ◌≤◌, Bool, true, false, ◌&&◌, ◌||◌, List, [], ◌∷◌, length, refl, sym, ap, ◌∙◌, subst, arith}
use Rattle.std.specs.Prelude.{Option, Some, None, is_none, slice_get, slice_set, slice_index_or, if◌then◌else◌}
use Rattle.std.specs.List.{insert, remove}
use Rattle.jade_base.specs.declared.rights.Mode.{Mode}
use Rattle.jade_base.specs.declared.rights.Mode.TheVariants.{Reading, Writing, Commuting}
use Rattle.jade_base.specs.Rights.{is_there}
use Rattle.object_shelf.specs.declared.queue.Entry.{Entry}
use Rattle.object_shelf.specs.Shelves.{changes, conflicts, takes_out}
use Rattle.object_shelf.specs.Places.{blocker_before}
use Rattle.object_shelf.specs.Clear.{clear_for, out_many}
use Rattle.object_shelf.specs.Whole.{is_out}

pub clear-within : (m : Mode) (es : List Entry) → clear_for m es ≤ length es
clear-within m [] = omega arith
clear-within m (e ∷ es) = let r = clear-within m es in go (conflicts m e) r
  where
    go : (b : Bool) → clear_for m es ≤ length es → (if b then 0 else suc (clear_for m es)) ≤ suc (length es)
    go true r = omega arith
    go false r = omega arith

-- an entry that conflicts, where all before it are clear
pub clear-stops : (m : Mode) (es : List Entry) (n : ℕ) (e : Entry) → n ≤ clear_for m es → n < length es → e ≡ slice_index_or es n e → conflicts m e ≡ true →
    n ≡ clear_for m es
clear-stops m [] n e le lt q h = absurd (omega arith)
clear-stops m (x ∷ es) zero e le lt q h =
    subst (λ b. 0 ≡ (if b then 0 else suc (clear_for m es))) (sym (ap (λ z. conflicts m z) (sym q) ∙ h)) refl
clear-stops m (x ∷ es) (suc n) e le lt q h = go (clear-stops m es n e) (conflicts m x) le
  where
    go : (n ≤ clear_for m es → n < length es → e ≡ slice_index_or es n e → conflicts m e ≡ true → n ≡ clear_for m es) → (b : Bool)
        → suc n ≤ (if b then 0 else suc (clear_for m es)) → suc n ≡ (if b then 0 else suc (clear_for m es))
    go f true le = absurd (omega arith)
    go f false le = ap suc (f (omega arith) (omega arith) q h)

-- one that does not
pub clear-goes : (m : Mode) (es : List Entry) (n : ℕ) (e : Entry) → n ≤ clear_for m es → n < length es → e ≡ slice_index_or es n e → conflicts m e ≡ false →
    n + 1 ≤ clear_for m es
clear-goes m [] n e le lt q h = absurd (omega arith)
clear-goes m (x ∷ es) zero e le lt q h =
    subst (λ b. 1 ≤ (if b then 0 else suc (clear_for m es))) (sym (ap (λ z. conflicts m z) (sym q) ∙ h)) (omega arith)
clear-goes m (x ∷ es) (suc n) e le lt q h = go (clear-goes m es n e) (conflicts m x) le
  where
    go : (n ≤ clear_for m es → n < length es → e ≡ slice_index_or es n e → conflicts m e ≡ false → n + 1 ≤ clear_for m es) → (b : Bool)
        → suc n ≤ (if b then 0 else suc (clear_for m es)) → suc n + 1 ≤ (if b then 0 else suc (clear_for m es))
    go f true le = absurd (omega arith)
    go f false le = let r = f (omega arith) (omega arith) q h in omega (arith, r)

-- where the first in the way stands before a place, it keeps the task there from the object, and otherwise none does
pub blocker-clear : (n : ℕ) (m : Mode) (es : List Entry) → clear_for m es < n → blocker_before n m es ≡ slice_get es (clear_for m es)
blocker-clear n m [] lt = refl
blocker-clear zero m (e ∷ es) lt = absurd (omega arith)
blocker-clear (suc n) m (e ∷ es) lt = go (conflicts m e) (blocker-clear n m es) lt
  where
    go : (c : Bool) → (clear_for m es < n → blocker_before n m es ≡ slice_get es (clear_for m es)) → (if c then 0 else suc (clear_for m es)) < suc n →
        (if c then Some e else blocker_before n m es) ≡ slice_get (e ∷ es) (if c then 0 else suc (clear_for m es))
    go true f lt = refl
    go false f lt = f (omega arith)

pub blocker-none : (n : ℕ) (m : Mode) (es : List Entry) → n ≤ clear_for m es → blocker_before n m es ≡ None
blocker-none n m [] le = refl
blocker-none zero m (e ∷ es) le = refl
blocker-none (suc n) m (e ∷ es) le = go (conflicts m e) (blocker-none n m es) le
  where
    go : (c : Bool) → (n ≤ clear_for m es → blocker_before n m es ≡ None) → suc n ≤ (if c then 0 else suc (clear_for m es)) →
        (if c then Some e else blocker_before n m es) ≡ None
    go true f le = absurd (omega arith)
    go false f le = f (omega arith)

-- an entry has been put at a place
pub entered-far : (m : Mode) (es : List Entry) (n : ℕ) (e : Entry) → clear_for m es < n → n ≤ length es → clear_for m es ≡ clear_for m (insert es n e)
entered-far m es zero e lt le = absurd (omega arith)
entered-far m [] (suc n) e lt le = absurd (omega arith)
entered-far m (x ∷ es) (suc n) e lt le = go (entered-far m es n e) (conflicts m x) lt
  where
    go : (clear_for m es < n → n ≤ length es → clear_for m es ≡ clear_for m (insert es n e)) → (b : Bool) → (if b then 0 else suc (clear_for m es)) < suc n →
        (if b then 0 else suc (clear_for m es)) ≡ (if b then 0 else suc (clear_for m (insert es n e)))
    go f true lt = refl
    go f false lt = ap suc (f (omega arith) (omega arith))

pub entered-near : (m : Mode) (es : List Entry) (n : ℕ) (e : Entry) → n ≤ clear_for m es → n ≤ length es → n ≤ clear_for m (insert es n e)
entered-near m es zero e le ln = omega arith
entered-near m [] (suc n) e le ln = absurd (omega arith)
entered-near m (x ∷ es) (suc n) e le ln = go (entered-near m es n e) (conflicts m x) le
  where
    go : (n ≤ clear_for m es → n ≤ length es → n ≤ clear_for m (insert es n e)) → (b : Bool) → suc n ≤ (if b then 0 else suc (clear_for m es))
        → suc n ≤ (if b then 0 else suc (clear_for m (insert es n e)))
    go f true le = absurd (omega arith)
    go f false le = let r = f (omega arith) (omega arith) in omega (arith, r)

pub entered-clear : (m : Mode) (es : List Entry) (n : ℕ) (e : Entry) → n ≤ clear_for m es → n ≤ length es → conflicts m e ≡ false →
    clear_for m (insert es n e) ≡ suc (clear_for m es)
entered-clear m es zero e le ln h = subst (λ b. (if b then 0 else suc (clear_for m es)) ≡ suc (clear_for m es)) (sym h) refl
entered-clear m [] (suc n) e le ln h = absurd (omega arith)
entered-clear m (x ∷ es) (suc n) e le ln h = go (entered-clear m es n e) (conflicts m x) le
  where
    go : (n ≤ clear_for m es → n ≤ length es → conflicts m e ≡ false → clear_for m (insert es n e) ≡ suc (clear_for m es)) → (b : Bool)
        → suc n ≤ (if b then 0 else suc (clear_for m es)) →
        (if b then 0 else suc (clear_for m (insert es n e))) ≡ suc (if b then 0 else suc (clear_for m es))
    go f true le = absurd (omega arith)
    go f false le = ap suc (f (omega arith) (omega arith) h)

pub inserted-at : (es : List Entry) (n : ℕ) (e x : Entry) → n ≤ length es → x ≡ slice_index_or (insert es n e) n x → x ≡ e
inserted-at es zero e x le q = q
inserted-at [] (suc n) e x le q = absurd (omega arith)
inserted-at (y ∷ es) (suc n) e x le q = inserted-at es n e x (omega arith) q

-- the entry at a place has changed
pub changed-far : (m : Mode) (es : List Entry) (n : ℕ) (e : Entry) → clear_for m es < n → clear_for m es ≡ clear_for m (slice_set es n e)
changed-far m es zero e lt = absurd (omega arith)
changed-far m [] (suc n) e lt = refl
changed-far m (x ∷ es) (suc n) e lt = go (changed-far m es n e) (conflicts m x) lt
  where
    go : (clear_for m es < n → clear_for m es ≡ clear_for m (slice_set es n e)) → (b : Bool) → (if b then 0 else suc (clear_for m es)) < suc n →
        (if b then 0 else suc (clear_for m es)) ≡ (if b then 0 else suc (clear_for m (slice_set es n e)))
    go f true lt = refl
    go f false lt = ap suc (f (omega arith))

pub changed-near : (m : Mode) (es : List Entry) (n : ℕ) (e : Entry) → n ≤ clear_for m es → n ≤ clear_for m (slice_set es n e)
changed-near m es zero e le = omega arith
changed-near m [] (suc n) e le = absurd (omega arith)
changed-near m (x ∷ es) (suc n) e le = go (changed-near m es n e) (conflicts m x) le
  where
    go : (n ≤ clear_for m es → n ≤ clear_for m (slice_set es n e)) → (b : Bool) → suc n ≤ (if b then 0 else suc (clear_for m es))
        → suc n ≤ (if b then 0 else suc (clear_for m (slice_set es n e)))
    go f true le = absurd (omega arith)
    go f false le = let r = f (omega arith) in omega (arith, r)

pub set-at : (es : List Entry) (n : ℕ) (e x : Entry) → n < length (slice_set es n e) → x ≡ slice_index_or (slice_set es n e) n x → x ≡ e
set-at [] n e x lt q = absurd (omega arith)
set-at (y ∷ es) zero e x lt q = q
set-at (y ∷ es) (suc n) e x lt q = set-at es n e x (omega arith) q

pub changed-clear : (m : Mode) (es : List Entry) (n : ℕ) (e : Entry) → n < clear_for m es → conflicts m e ≡ false →
    clear_for m es ≡ clear_for m (slice_set es n e)
changed-clear m [] n e lt h = absurd (omega arith)
changed-clear m (x ∷ es) zero e lt h = go (conflicts m x) lt
  where
    go : (b : Bool) → 0 < (if b then 0 else suc (clear_for m es)) → (if b then 0 else suc (clear_for m es))
        ≡ (if conflicts m e then 0 else suc (clear_for m es))
    go true lt = absurd (omega arith)
    go false lt = subst (λ b. suc (clear_for m es) ≡ (if b then 0 else suc (clear_for m es))) (sym h) refl
changed-clear m (x ∷ es) (suc n) e lt h = go (changed-clear m es n e) (conflicts m x) lt
  where
    go : (n < clear_for m es → conflicts m e ≡ false → clear_for m es ≡ clear_for m (slice_set es n e)) → (b : Bool)
        → suc n < (if b then 0 else suc (clear_for m es)) →
        (if b then 0 else suc (clear_for m es)) ≡ (if b then 0 else suc (clear_for m (slice_set es n e)))
    go f true lt = absurd (omega arith)
    go f false lt = ap suc (f (omega arith) h)

-- it has changed, and keeps the same ones from a hold
pub alike : (m : Mode) (e f : Entry) → f.rights ≡ e.rights → is_none f.version ≡ is_none e.version → conflicts m f ≡ conflicts m e
alike Reading e f r v = ap changes r
alike Writing e f r v =
    ap (λ a. changes a || (is_there a.reads && is_none f.version)) r ∙ ap (λ b. changes e.rights || (is_there e.rights.reads && b)) v
alike Commuting e f r v =
    ap (λ a. (is_there a.reads || is_there a.writes) && (changes a || is_none f.version)) r ∙ ap
    (λ b. (is_there e.rights.reads || is_there e.rights.writes) && (changes e.rights || b)) v

pub turned-clear : (m : Mode) (es : List Entry) (n : ℕ) (e f : Entry) → slice_get es n ≡ Some e → conflicts m f ≡ conflicts m e →
    clear_for m es ≡ clear_for m (slice_set es n f)
turned-clear m [] n e f g h = refl
turned-clear m (x ∷ es) zero e f g h = ap (λ b. if b then 0 else suc (clear_for m es)) (ap (conflicts m) (same x e g) ∙ sym h)
  where
    same : (x e : Entry) → ◌≡◌ {A = Option Entry} (Some x) (Some e) → x ≡ e
    same x e g = cc
turned-clear m (x ∷ es) (suc n) e f g h = ap (λ k. if conflicts m x then 0 else suc k) (turned-clear m es n e f g h)

-- the entry at a place has gone
pub left-far : (m : Mode) (es : List Entry) (n : ℕ) → clear_for m es < n → clear_for m es ≡ clear_for m (remove es n)
left-far m es zero lt = absurd (omega arith)
left-far m [] (suc n) lt = refl
left-far m (x ∷ es) (suc n) lt = go (left-far m es n) (conflicts m x) lt
  where
    go : (clear_for m es < n → clear_for m es ≡ clear_for m (remove es n)) → (b : Bool) → (if b then 0 else suc (clear_for m es)) < suc n →
        (if b then 0 else suc (clear_for m es)) ≡ (if b then 0 else suc (clear_for m (remove es n)))
    go f true lt = refl
    go f false lt = ap suc (f (omega arith))

pub left-near : (m : Mode) (es : List Entry) (n : ℕ) → n ≤ clear_for m es → n ≤ clear_for m (remove es n)
left-near m es zero le = omega arith
left-near m [] (suc n) le = absurd (omega arith)
left-near m (x ∷ es) (suc n) le = go (left-near m es n) (conflicts m x) le
  where
    go : (n ≤ clear_for m es → n ≤ clear_for m (remove es n)) → (b : Bool) → suc n ≤ (if b then 0 else suc (clear_for m es))
        → suc n ≤ (if b then 0 else suc (clear_for m (remove es n)))
    go f true le = absurd (omega arith)
    go f false le = let r = f (omega arith) in omega (arith, r)

pub left-clear : (m : Mode) (es : List Entry) (n : ℕ) → n < clear_for m es → clear_for m es ≡ suc (clear_for m (remove es n))
left-clear m [] n lt = absurd (omega arith)
left-clear m (x ∷ es) zero lt = go (conflicts m x) lt
  where
    go : (b : Bool) → 0 < (if b then 0 else suc (clear_for m es)) → (if b then 0 else suc (clear_for m es)) ≡ suc (clear_for m es)
    go true lt = absurd (omega arith)
    go false lt = refl
left-clear m (x ∷ es) (suc n) lt = go (left-clear m es n) (conflicts m x) lt
  where
    go : (n < clear_for m es → clear_for m es ≡ suc (clear_for m (remove es n))) → (b : Bool) → suc n < (if b then 0 else suc (clear_for m es)) →
        (if b then 0 else suc (clear_for m es)) ≡ suc (if b then 0 else suc (clear_for m (remove es n)))
    go f true lt = absurd (omega arith)
    go f false lt = ap suc (f (omega arith))

-- how many have the content out
pub out-within : (es : List Entry) → out_many es ≤ length es
out-within [] = omega arith
out-within (e ∷ es) = let r = out-within es in go (takes_out e.hold) r
  where
    go : (b : Bool) → out_many es ≤ length es → (if b then suc (out_many es) else out_many es) ≤ suc (length es)
    go true r = omega arith
    go false r = omega arith

pub out-some : (es : List Entry) (n : ℕ) (e : Entry) → slice_get es n ≡ Some e → takes_out e.hold ≡ true → 0 < out_many es
out-some [] n e g h = absurd (cc)
out-some (x ∷ es) zero e g h =
    subst (λ b. 0 < (if b then suc (out_many es) else out_many es)) (sym (ap (λ z. takes_out z.hold) (same x e g) ∙ h)) (omega arith)
  where
    same : (x e : Entry) → ◌≡◌ {A = Option Entry} (Some x) (Some e) → x ≡ e
    same x e g = cc
out-some (x ∷ es) (suc n) e g h = let r = out-some es n e g h in go (takes_out x.hold) r
  where
    go : (b : Bool) → 0 < out_many es → 0 < (if b then suc (out_many es) else out_many es)
    go true r = omega arith
    go false r = r

pub out-fewer : (es : List Entry) (n : ℕ) (e : Entry) → slice_get es n ≡ Some e → takes_out e.hold ≡ false → out_many es < length es
out-fewer [] n e g h = absurd (cc)
out-fewer (x ∷ es) zero e g h =
    let r = out-within es in
    subst (λ b. (if b then suc (out_many es) else out_many es) < suc (length es)) (sym (ap (λ z. takes_out z.hold) (same x e g) ∙ h)) (omega (arith, r))
  where
    same : (x e : Entry) → ◌≡◌ {A = Option Entry} (Some x) (Some e) → x ≡ e
    same x e g = cc
out-fewer (x ∷ es) (suc n) e g h = let r = out-fewer es n e g h in go (takes_out x.hold) r
  where
    go : (b : Bool) → out_many es < length es → (if b then suc (out_many es) else out_many es) < suc (length es)
    go true r = omega arith
    go false r = omega arith

-- as a number
abbrev pub one-if : Bool → ℕ
one-if true = 1
one-if false = 0

out-head : (b : Bool) (n : ℕ) → (if b then suc n else n) ≡ one-if b + n
out-head true n = omega arith
out-head false n = omega arith

pub out-entered : (es : List Entry) (n : ℕ) (e : Entry) → n ≤ length es → takes_out e.hold ≡ false → out_many (insert es n e) ≡ out_many es
out-entered es zero e le h = subst (λ b. (if b then suc (out_many es) else out_many es) ≡ out_many es) (sym h) refl
out-entered [] (suc n) e le h = absurd (omega arith)
out-entered (x ∷ es) (suc n) e le h = ap (λ k. if takes_out x.hold then suc k else k) (out-entered es n e (omega arith) h)

pub out-set : (es : List Entry) (n : ℕ) (e f : Entry) → slice_get es n ≡ Some e →
    one-if (takes_out e.hold) + out_many (slice_set es n f) ≡ one-if (takes_out f.hold) + out_many es
out-set [] n e f g = absurd (cc)
out-set (x ∷ es) zero e f g =
    subst (λ (z : Entry). one-if (takes_out z.hold) + out_many (f ∷ es) ≡ one-if (takes_out f.hold) + out_many (x ∷ es)) (same x e g)
    (swap (takes_out x.hold) (takes_out f.hold) (out_many es))
  where
    same : (x e : Entry) → ◌≡◌ {A = Option Entry} (Some x) (Some e) → x ≡ e
    same x e g = cc

    swap : (a b : Bool) (n : ℕ) → one-if a + (if b then suc n else n) ≡ one-if b + (if a then suc n else n)
    swap true true n = refl
    swap true false n = omega arith
    swap false true n = omega arith
    swap false false n = refl
out-set (x ∷ es) (suc n) e f g = more (takes_out x.hold) (one-if (takes_out e.hold)) (one-if (takes_out f.hold)) (out_many (slice_set es n f)) (out_many es)
    (out-set es n e f g)
  where
    more : (b : Bool) (i j a c : ℕ) → i + a ≡ j + c → i + (if b then suc a else a) ≡ j + (if b then suc c else c)
    more true i j a c h = omega (arith, h)
    more false i j a c h = h

pub out-left : (es : List Entry) (n : ℕ) (e : Entry) → slice_get es n ≡ Some e → one-if (takes_out e.hold) + out_many (remove es n) ≡ out_many es
out-left [] n e g = absurd (cc)
out-left (x ∷ es) zero e g =
    subst (λ (z : Entry). one-if (takes_out z.hold) + out_many es ≡ out_many (x ∷ es)) (same x e g) (sym (out-head (takes_out x.hold) (out_many es)))
  where
    same : (x e : Entry) → ◌≡◌ {A = Option Entry} (Some x) (Some e) → x ≡ e
    same x e g = cc
out-left (x ∷ es) (suc n) e g = more (takes_out x.hold) (one-if (takes_out e.hold)) (out_many (remove es n)) (out_many es) (out-left es n e g)
  where
    more : (b : Bool) (i a c : ℕ) → i + a ≡ c → i + (if b then suc a else a) ≡ (if b then suc c else c)
    more true i a c h = omega (arith, h)
    more false i a c h = h

-- some have it out, or none
pub out-any : (es : List Entry) → is_out es ≡ true → 0 < out_many es
out-any [] h = absurd (cc)
out-any (e ∷ es) h = go (takes_out e.hold) (out-any es) h
  where
    go : (b : Bool) → (is_out es ≡ true → 0 < out_many es) → b || is_out es ≡ true → 0 < (if b then suc (out_many es) else out_many es)
    go true f h = omega arith
    go false f h = f h

pub out-none : (es : List Entry) → is_out es ≡ false → out_many es ≡ 0
out-none [] h = refl
out-none (e ∷ es) h = go (takes_out e.hold) (out-none es) h
  where
    go : (b : Bool) → (is_out es ≡ false → out_many es ≡ 0) → b || is_out es ≡ false → (if b then suc (out_many es) else out_many es) ≡ 0
    go true f h = absurd (cc)
    go false f h = f h

-- the number once the entry at a place has changed, and once it has gone
pub out-changed : (es : List Entry) (n : ℕ) (e f : Entry) (was now : Bool) (o r : ℕ) → slice_get es n ≡ Some e → takes_out e.hold ≡ was →
    takes_out f.hold ≡ now → o ≡ out_many es → (now ≡ was → r ≡ o) → (now ≡ true → was ≡ false → r ≡ o + 1) → (now ≡ false → was ≡ true → r + 1 ≡ o) →
    r ≡ out_many (slice_set es n f)
out-changed es n e f was now o r g w v q same more fewer =
    go was now (ap (λ b. one-if b + out_many (slice_set es n f)) (sym w) ∙ out-set es n e f g ∙ ap (λ b. one-if b + out_many es) v) same more fewer
  where
    go : (was now : Bool) → one-if was + out_many (slice_set es n f) ≡ one-if now + out_many es → (now ≡ was → r ≡ o) →
        (now ≡ true → was ≡ false → r ≡ o + 1) → (now ≡ false → was ≡ true → r + 1 ≡ o) → r ≡ out_many (slice_set es n f)
    go true true h a b c = let x = a refl in omega (arith, h, x, q)
    go true false h a b c = let x = c refl refl in omega (arith, h, x, q)
    go false true h a b c = let x = b refl refl in omega (arith, h, x, q)
    go false false h a b c = let x = a refl in omega (arith, h, x, q)

pub out-gone : (es : List Entry) (n : ℕ) (e : Entry) → slice_get es n ≡ Some e → takes_out e.hold ≡ true → out_many es - 1 ≡ out_many (remove es n)
out-gone es n e g h =
    let r : one-if true + out_many (remove es n) ≡ out_many es = ap (λ b. one-if b + out_many (remove es n)) (sym h) ∙ out-left es n e g in
    omega (arith, r)

pub out-kept : (es : List Entry) (n : ℕ) (e : Entry) → slice_get es n ≡ Some e → takes_out e.hold ≡ false → out_many es ≡ out_many (remove es n)
out-kept es n e g h =
    let r : one-if false + out_many (remove es n) ≡ out_many es = ap (λ b. one-if b + out_many (remove es n)) (sym h) ∙ out-left es n e g in
    omega (arith, r)

pub within-get : (es : List Entry) (n : ℕ) (e : Entry) → slice_get es n ≡ Some e → n < length es
within-get [] n e g = absurd (cc)
within-get (x ∷ es) zero e g = omega arith
within-get (x ∷ es) (suc n) e g = let r = within-get es n e g in omega (arith, r)
