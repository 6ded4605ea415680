-- What is handed out by a place is what is handed out by its path.
use Rattle.std.proofs.Common.{◌≡◌, ℕ, List, Option, Some, None, ℤ, ap, sym, ◌∙◌}
use Rattle.std.specs.Prelude.{slice_get}
use Rattle.jade_base.specs.declared.rights.Mode.{Mode}
use Rattle.object_shelf.specs.declared.queue.Entry.{Entry}
use Rattle.object_shelf.specs.Views.{ShelfView}
use Rattle.object_shelf.specs.Shelves.{place_in, held_with, turned}
use Rattle.object_shelf.specs.Places.{at_nth}
use Rattle.object_shelf.specs.Homes.{hand_of, hand_in, handed, kept_of, home_after}
use Rattle.object_shelf.proofs.Places.{place-find, place-at}
use Rattle.object_shelf.proofs.Turns.{same-shelf}

-- what the path's task is handed
hand-place : (p : List ℕ) (m : Mode) (n : ℕ) (s : ShelfView) → n ≡ place_in p s.queue → hand_in p m s ≡ hand_of m (slice_get s.queue n) s.home
hand-place p m n s q =
    ap (λ (e : Option Entry). hand_of m e s.home) (place-find p s.queue ∙ ap (λ k. slice_get s.queue k) (sym q))

-- nothing
pub none-handed : (p : List ℕ) (m : Mode) (n : ℕ) (s t : ShelfView) → n ≡ place_in p s.queue → hand_of m (slice_get s.queue n) s.home ≡ None →
    t.queue ≡ s.queue → t.home ≡ s.home → t.turns ≡ s.turns → (hand_in p m s ≡ None) × (t ≡ s)
none-handed p m n s t q h e f g = (hand-place p m n s q ∙ h, same-shelf t s e f g)

-- the content
pub one-handed : (p : List ℕ) (m : Mode) (n : ℕ) (s t : ShelfView) (xs : List ℤ) → n ≡ place_in p s.queue → hand_of m (slice_get s.queue n) s.home ≡ Some xs →
    t.queue ≡ at_nth n (held_with m (kept_of m (hand_of m (slice_get s.queue n) s.home))) s.queue → t.home ≡ home_after m s.home →
    t.turns ≡ turned p m s.turns → (hand_in p m s ≡ Some xs) × (t ≡ handed p m s)
one-handed p m n s t xs q h e f g =
    let own = hand-place p m n s q in (
      own ∙ h,
      same-shelf t (handed p m s)
          (e ∙ ap (λ (x : Option (List ℤ)). at_nth n (held_with m (kept_of m x)) s.queue) (sym own) ∙ ap
          (λ k. at_nth k (held_with m (kept_of m (hand_in p m s))) s.queue) q ∙ sym (place-at p (held_with m (kept_of m (hand_in p m s))) s.queue)) f g,
    )
