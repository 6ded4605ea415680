-- Entries of a queue, by their paths.
use Rattle.std.proofs.Common.{◌≡◌, ℕ, Bool, true, false, ◌||◌, List, [], ◌∷◌, refl, sym, ap, ◌∙◌, Option, Some}
use Rattle.std.specs.Prelude.{if◌then◌else◌}
use Rattle.jade_base.specs.declared.rights.Rights.{Rights}
use Rattle.object_shelf.specs.declared.queue.Entry.{Entry}
use Rattle.object_shelf.specs.Shelves.{same_path, find, takes_out, at, without, newborn, entered_in}
use Rattle.object_shelf.specs.Whole.{is_out}
use Rattle.object_table.specs.Rule.{hold_of}
use Rattle.object_table.proofs.Lists.{same_is}

pub some_entry : (d e : Entry) → ◌≡◌ {A = Option Entry} (Some d) (Some e) → d ≡ e
some_entry d e q = cc

or_true : (b : Bool) → b || true ≡ true
or_true true = refl
or_true false = refl

-- an entry that has the content out
pub found_out : (p : List ℕ) (e : Entry) (es : List Entry) → find p es ≡ Some e → takes_out e.hold ≡ true → is_out es ≡ true
found_out p e [] h t = absurd (cc)
found_out p e (d ∷ es) h t = go (λ k. found_out p e es k t) (same_path p d.path) refl
  where
    go : (find p es ≡ Some e → is_out es ≡ true) → (b : Bool) → same_path p d.path ≡ b → is_out (d ∷ es) ≡ true
    go more true q = let same : d ≡ e = some_entry d e (sym (ap (λ b. if b then Some d else find p es) q) ∙ h) in
        ap (λ b. b || is_out es) (ap (λ (x : Entry). takes_out x.hold) same ∙ t)
    go more false q = ap (λ b. takes_out d.hold || b) (more (sym (ap (λ b. if b then Some d else find p es) q) ∙ h)) ∙ or_true (takes_out d.hold)

-- the path's own entry once it is changed
pub find_at : (p : List ℕ) (g : Entry → Entry) (e : Entry) (es : List Entry) → (g e).path ≡ e.path → find p es ≡ Some e → find p (at p g es) ≡ Some (g e)
find_at p g e [] k h = absurd (cc)
find_at p g e (d ∷ es) k h = go (find_at p g e es k) (same_path p d.path) refl
  where
    go : (find p es ≡ Some e → find p (at p g es) ≡ Some (g e)) → (b : Bool) → same_path p d.path ≡ b → find p (at p g (d ∷ es)) ≡ Some (g e)
    go more true q =
        let same : d ≡ e = some_entry d e (sym (ap (λ b. if b then Some d else find p es) q) ∙ h) in
        let still : same_path p (g d).path ≡ true = ap (λ (x : Entry). same_path p (g x).path) same
        ∙ ap (same_path p) (k ∙ ap (λ (x : Entry). x.path) (sym same)) ∙ q in
        ap (λ b. find p (if b then g d ∷ es else d ∷ at p g es)) q ∙ ap (λ b. if b then Some (g d) else find p es) still ∙ ap (λ (x : Entry). Some (g x)) same
    go more false q = ap (λ b. find p (if b then g d ∷ es else d ∷ at p g es)) q ∙ ap (λ b. if b then Some d else find p (at p g es)) q
        ∙ more (sym (ap (λ b. if b then Some d else find p es) q) ∙ h)

-- and the others' entries
pub find_other : (p q : List ℕ) (g : Entry → Entry) (es : List Entry) → ((d : Entry) → (g d).path ≡ d.path) → same_path q p ≡ false → find q (at p g es)
    ≡ find q es
find_other p q g [] k far = refl
find_other p q g (d ∷ es) k far = go (find_other p q g es k far) (same_path p d.path) refl
  where
    go : find q (at p g es) ≡ find q es → (b : Bool) → same_path p d.path ≡ b → find q (at p g (d ∷ es)) ≡ find q (d ∷ es)
    go more true r =
        let off : same_path q d.path ≡ false = ap (same_path q) (sym (same_is p d.path r)) ∙ far in
        ap (λ b. find q (if b then g d ∷ es else d ∷ at p g es)) r ∙ ap (λ b. if b then Some (g d) else find q es) (ap (same_path q) (k d) ∙ off)
        ∙ sym (ap (λ b. if b then Some d else find q es) off)
    go more false r = ap (λ b. find q (if b then g d ∷ es else d ∷ at p g es)) r ∙ ap (λ x. if same_path q d.path then Some d else x) more

-- two changes that make the same of the path's entry
pub at_same : (p : List ℕ) (g k : Entry → Entry) (e : Entry) (es : List Entry) → find p es ≡ Some e → g e ≡ k e → at p g es ≡ at p k es
at_same p g k e [] h s = refl
at_same p g k e (d ∷ es) h s = go (λ f. at_same p g k e es f s) (same_path p d.path) refl
  where
    go : (find p es ≡ Some e → at p g es ≡ at p k es) → (b : Bool) → same_path p d.path ≡ b → at p g (d ∷ es) ≡ at p k (d ∷ es)
    go more true q =
        let same : d ≡ e = some_entry d e (sym (ap (λ b. if b then Some d else find p es) q) ∙ h) in
        let is : g d ≡ k d = ap g same ∙ s ∙ ap k (sym same) in
        ap (λ b. if b then g d ∷ es else d ∷ at p g es) q ∙ ap (λ x. x ∷ es) is ∙ sym (ap (λ b. if b then k d ∷ es else d ∷ at p k es) q)
    go more false q = ap (λ b. if b then g d ∷ es else d ∷ at p g es) q ∙ ap (λ x. d ∷ x) (more (sym (ap (λ b. if b then Some d else find p es) q) ∙ h))
        ∙ sym (ap (λ b. if b then k d ∷ es else d ∷ at p k es) q)

-- a change that leaves whether the path's entry has the content out
pub out_at : (p : List ℕ) (g : Entry → Entry) (es : List Entry) → ((e : Entry) → find p es ≡ Some e → takes_out (g e).hold ≡ takes_out e.hold)
    → is_out (at p g es) ≡ is_out es
out_at p g [] k = refl
out_at p g (d ∷ es) k = go (out_at p g es) (same_path p d.path) refl
  where
    go : (((e : Entry) → find p es ≡ Some e → takes_out (g e).hold ≡ takes_out e.hold) → is_out (at p g es) ≡ is_out es) → (b : Bool) → same_path p d.path ≡ b
        → is_out (at p g (d ∷ es)) ≡ is_out (d ∷ es)
    go more true q = ap (λ b. is_out (if b then g d ∷ es else d ∷ at p g es)) q ∙ ap (λ b. b || is_out es) (k d (ap (λ b. if b then Some d else find p es) q))
    go more false q = ap (λ b. is_out (if b then g d ∷ es else d ∷ at p g es)) q
        ∙ ap (λ b. takes_out d.hold || b) (more (λ e f. k e (ap (λ b. if b then Some d else find p es) q ∙ f)))

-- an entry without a hold goes
pub out_without : (p : List ℕ) (es : List Entry) → takes_out (hold_of (find p es)) ≡ false → is_out (without p es) ≡ is_out es
out_without p [] k = refl
out_without p (d ∷ es) k = go (out_without p es) (same_path p d.path) refl
  where
    go : (takes_out (hold_of (find p es)) ≡ false → is_out (without p es) ≡ is_out es) → (b : Bool) → same_path p d.path ≡ b → is_out (without p (d ∷ es))
        ≡ is_out (d ∷ es)
    go more true q = ap (λ b. is_out (if b then es else d ∷ without p es)) q
        ∙ sym (ap (λ b. b || is_out es) (sym (ap (λ b. takes_out (hold_of (if b then Some d else find p es))) q) ∙ k))
    go more false q = ap (λ b. is_out (if b then es else d ∷ without p es)) q
        ∙ ap (λ b. takes_out d.hold || b) (more (sym (ap (λ b. takes_out (hold_of (if b then Some d else find p es))) q) ∙ k))

pub find_without : (p q : List ℕ) (es : List Entry) → same_path q p ≡ false → find q (without p es) ≡ find q es
find_without p q [] far = refl
find_without p q (d ∷ es) far = go (find_without p q es far) (same_path p d.path) refl
  where
    go : find q (without p es) ≡ find q es → (b : Bool) → same_path p d.path ≡ b → find q (without p (d ∷ es)) ≡ find q (d ∷ es)
    go more true r =
        let off : same_path q d.path ≡ false = ap (same_path q) (sym (same_is p d.path r)) ∙ far in
        ap (λ b. find q (if b then es else d ∷ without p es)) r ∙ sym (ap (λ b. if b then Some d else find q es) off)
    go more false r = ap (λ b. find q (if b then es else d ∷ without p es)) r ∙ ap (λ x. if same_path q d.path then Some d else x) more

-- a child's entry
pub out_entered : (p c : List ℕ) (a : Rights) (es : List Entry) → is_out (entered_in p c a es) ≡ is_out es
out_entered p c a [] = refl
out_entered p c a (d ∷ es) = go (out_entered p c a es) (same_path p d.path) refl
  where
    go : is_out (entered_in p c a es) ≡ is_out es → (b : Bool) → same_path p d.path ≡ b → is_out (entered_in p c a (d ∷ es)) ≡ is_out (d ∷ es)
    go more true q = ap (λ b. is_out (if b then newborn c a d ∷ (d ∷ es) else d ∷ entered_in p c a es)) q
    go more false q = ap (λ b. is_out (if b then newborn c a d ∷ (d ∷ es) else d ∷ entered_in p c a es)) q ∙ ap (λ b. takes_out d.hold || b) more

pub find_entered : (p c q : List ℕ) (a : Rights) (es : List Entry) → same_path q c ≡ false → find q (entered_in p c a es) ≡ find q es
find_entered p c q a [] far = refl
find_entered p c q a (d ∷ es) far = go (find_entered p c q a es far) (same_path p d.path) refl
  where
    go : find q (entered_in p c a es) ≡ find q es → (b : Bool) → same_path p d.path ≡ b → find q (entered_in p c a (d ∷ es)) ≡ find q (d ∷ es)
    go more true r = ap (λ b. find q (if b then newborn c a d ∷ (d ∷ es) else d ∷ entered_in p c a es)) r
        ∙ ap (λ b. if b then Some (newborn c a d) else find q (d ∷ es)) far
    go more false r = ap (λ b. find q (if b then newborn c a d ∷ (d ∷ es) else d ∷ entered_in p c a es)) r
        ∙ ap (λ x. if same_path q d.path then Some d else x) more
