-- What is told of the last turn.
use Rattle.std.proofs.Common.{◌≡◌, ℕ, List, [], ◌∷◌, ◌++◌, Option, Some, None, MatchOption, ℤ, refl, subst, ap, sym, ◌∙◌}
use Rattle.jade_base.specs.declared.rights.Mode.{Mode}
use Rattle.jade_base.specs.declared.rights.Mode.TheVariants.{Reading, Writing, Commuting}
use Rattle.object_shelf.specs.declared.queue.Entry.{Entry}
use Rattle.object_shelf.specs.Views.{ShelfView}
use Rattle.object_shelf.specs.Shelves.{turned, unturned, without_last}

pub last-gone : (ts : List (List ℕ)) (p : List ℕ) → without_last (ts ++ p ∷ []) ≡ ts
last-gone [] p = refl
last-gone (t ∷ []) p = refl
last-gone (t ∷ (u ∷ us)) p = ap (λ x. t ∷ x) (last-gone (u ∷ us) p)

pub turned-back : (p : List ℕ) (m : Mode) (ts : List (List ℕ)) → unturned m (turned p m ts) ≡ ts
turned-back p Reading ts = refl
turned-back p Writing ts = refl
turned-back p Commuting ts = last-gone ts p

-- what a pop leaves
pub popped : (r : Option (List ℕ)) (m : Mode) (ts us : List (List ℕ)) → m ≡ Commuting →
    MatchOption r ((ts ≡ []) × (us ≡ [])) (λ x. ts ≡ us ++ x ∷ []) → us ≡ unturned m ts
popped None m ts us e g = g.1 ∙ sym (ap (unturned Commuting) g.0) ∙ sym (ap (λ n. unturned n ts) e)
popped (Some x) m ts us e g = sym (last-gone us x) ∙ sym (ap (unturned Commuting) g) ∙ sym (ap (λ n. unturned n ts) e)

-- a turn that is undone
pub undone : (p : List ℕ) (m : Mode) (ts us vs : List (List ℕ)) → us ≡ turned p m ts → vs ≡ unturned m us → vs ≡ ts
undone p m ts us vs e f = f ∙ ap (unturned m) e ∙ turned-back p m ts

-- a shelf by its parts
pub same-shelf : (a b : ShelfView) → a.queue ≡ b.queue → a.home ≡ b.home → a.turns ≡ b.turns → a ≡ b
same-shelf a b e f g =
    ap (λ (q : List Entry). record { queue = q; home = a.home; turns = a.turns }) e
    ∙ ap (λ (h : Option (List ℤ)). record { queue = b.queue; home = h; turns = a.turns }) f
    ∙ ap (λ (ts : List (List ℕ)). record { queue = b.queue; home = b.home; turns = ts }) g

-- what is told where there is nothing
pub of-none : {A : Type 0} (r : Option A) (P : Type 0) (Q : A → Type 0) → r ≡ None → MatchOption r P Q → P
of-none r P Q e m = subst (λ x. MatchOption x P Q) e m

-- what is told where there is something
pub of-some : {A : Type 0} (r : Option A) (P : Type 0) (Q : A → Type 0) (x : A) → r ≡ Some x → MatchOption r P Q → Q x
of-some r P Q x e m = subst (λ y. MatchOption y P Q) e m
