-- Groups with one member more, and members whose turns are their own alone; what holds of every group and turn is jade_meaning's.
use Rattle.std.proofs.Common.{◌≡◌, ◌≢◌, ℕ, Bool, true, false, List, [], ◌∷◌, ◌++◌, sym, ap, ◌∙◌, refl}
use Rattle.std.specs.Prelude.{ℤ, if◌then◌else◌, slice_set}
use Rattle.std.proofs.lemmas.Bool.{ne_eqb, eq-eqb}
use Rattle.jade_meaning.specs.Serial.{Mark, Path, Store, after, same_path}
use Rattle.jade_meaning.specs.Turns.{Member, is_of, group, others, turn, turns_taken}
use Rattle.jade_meaning.specs.Laws.{Every}
use Rattle.jade_meaning.proofs.Filling.{every_with}
use Rattle.jade_meaning.proofs.Soles as soles
pub use Rattle.jade_meaning.proofs.Groups.{every_append, every_front, every_back, Strange, every_arranged, every_group, every_others, group_of, group_both, arranged_skip, arranged_ahead}
pub use Rattle.jade_meaning.proofs.Soles.{Spares, Leaves, after_set, after_at, after_both}

pub others_both : (o : ℕ) (a b : List Member) → others o (a ++ b) ≡ others o a ++ others o b
others_both o [] b = refl
others_both o (m ∷ a) b = go (is_of o m) (others_both o a b)
  where
    go : (x : Bool) → others o (a ++ b) ≡ others o a ++ others o b → (if x then others o (a ++ b) else m ∷ others o (a ++ b)) ≡ (if x then others o a else m ∷ others o a) ++ others o b
    go true r = r
    go false r = ap (λ ms. m ∷ ms) r

pub group_with : (o : ℕ) (a b : List Member) (m : Member) → m.object ≡ o → group o (a ++ (m ∷ b)) ≡ group o a ++ (m ∷ group o b)
group_with o a b m e =
    group_both o a (m ∷ b) ∙ ap (λ x. group o a ++ (if x then m ∷ group o b else group o b)) (eq-eqb m.object o e)

pub group_without : (o : ℕ) (a b : List Member) (m : Member) → m.object ≢ o → group o (a ++ (m ∷ b)) ≡ group o (a ++ b)
group_without o a b m e =
    group_both o a (m ∷ b) ∙ ap (λ x. group o a ++ (if x then m ∷ group o b else group o b)) (ne_eqb m.object o e) ∙ sym (group_both o a b)

pub others_with : (o : ℕ) (a b : List Member) (m : Member) → m.object ≡ o → others o (a ++ (m ∷ b)) ≡ others o (a ++ b)
others_with o a b m e =
    others_both o a (m ∷ b) ∙ ap (λ x. others o a ++ (if x then others o b else m ∷ others o b)) (eq-eqb m.object o e) ∙ sym (others_both o a b)

pub others_without : (o : ℕ) (a b : List Member) (m : Member) → m.object ≢ o → others o (a ++ (m ∷ b)) ≡ others o a ++ (m ∷ others o b)
others_without o a b m e =
    others_both o a (m ∷ b) ∙ ap (λ x. others o a ++ (if x then others o b else m ∷ others o b)) (ne_eqb m.object o e)

-- a member's turn works on its own object alone, and all of it is its own
abbrev pub Sole : Member → Type 0
Sole q = ((s : Store) (o : ℕ) → q.object ≢ o → Leaves o (turn q s)) × ((s : Store) → Every (λ k. k.path ≡ q.path) (turn q s))

-- marks of others
abbrev pub Aside : Path → List Mark → Type 0
Aside p ms = Every (λ k. same_path k.path p ≡ false) ms

abbrev pub Elsewhere : ℕ → Member → Type 0
Elsewhere o q = (q.object ≢ o) × Sole q

-- without what is its own alone
less : (o : ℕ) (qs : List Member) → Every (Elsewhere o) qs → Every (soles.Elsewhere o) qs
less o qs h = every_with (Elsewhere o) (soles.Elsewhere o) (λ q e. (e.0, e.1.0)) qs h

pub taken_same : (o : ℕ) (ys : List ℤ) (qs : List Member) (s : Store) → Every (Elsewhere o) qs → turns_taken qs (slice_set s o ys) ≡ turns_taken qs s
taken_same o ys qs s h = soles.taken_same o ys qs s (less o qs h)

pub taken_leaves : (o : ℕ) (qs : List Member) (s : Store) → Every (Elsewhere o) qs → Leaves o (turns_taken qs s)
taken_leaves o qs s h = soles.taken_leaves o qs s (less o qs h)

pub taken_aside : (p : Path) (qs : List Member) (s : Store) → Every Sole qs → Every (Strange p) qs → Aside p (turns_taken qs s)
taken_aside p [] s h g = tt
taken_aside p (q ∷ qs) s h g =
    every_append (λ (k : Mark). same_path k.path p ≡ false) (turn q s) (turns_taken qs (after (turn q s) s)) (go (turn q s) (h.0.1 s)) (taken_aside p qs (after (turn q s) s) h.1 g.1)
  where
    go : (ms : List Mark) → Every (λ k. k.path ≡ q.path) ms → Aside p ms
    go [] h = tt
    go (k ∷ ms) h = (ap (λ x. same_path x p) h.0 ∙ g.0, go ms h.1)
