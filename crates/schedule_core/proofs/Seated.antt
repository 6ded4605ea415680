-- Live tasks in the serial order, and their places.
use Rattle.std.proofs.Common.{◌≡◌, ℕ, suc, ◌<◌, Bool, true, false, ◌&&◌, List, [], ◌∷◌, map, refl, ap, Some, arith}
use Rattle.std.specs.Prelude.{slice_get, if◌then◌else◌}
use Rattle.jade_base.specs.Places.{same_path}
use Rattle.task_roll.specs.Order.{stands_before, before_all, place_among}
use Rattle.schedule_core.specs.declared.steps.Seat.{Seat}
use Rattle.schedule_core.specs.Plain.{place_at, is_in_order}

-- a path has the same place among live tasks and among their paths
pub place-seats : (p : List ℕ) (roll : List Seat) → place_among p (map (λ s. s.path) roll) ≡ place_at p roll
place-seats p [] = refl
place-seats p (s ∷ roll) = ap (λ n. if same_path p s.path then 0 else suc n) (place-seats p roll)

and_both : (a b : Bool) → a ≡ true → b ≡ true → a && b ≡ true
and_both true b h g = g
and_both false b h g = absurd (cc)

before_each : (p : List ℕ) (roll : List Seat) → ((j : ℕ) (t : Seat) → slice_get roll j ≡ Some t → stands_before p t.path ≡ true)
    → before_all p (map (λ s. s.path) roll) ≡ true
before_each p [] f = refl
before_each p (s ∷ roll) f =
    and_both (stands_before p s.path) (before_all p (map (λ x. x.path) roll)) (f 0 s refl) (before_each p roll (λ j t e. f (suc j) t e))

-- where each stands before all that come later they stand in order
pub in_order_by : (roll : List Seat) → ((i j : ℕ) (s t : Seat) → slice_get roll i ≡ Some s → slice_get roll j ≡ Some t → i < j
    → stands_before s.path t.path ≡ true) → is_in_order roll ≡ true
in_order_by [] f = refl
in_order_by (s ∷ roll) f =
    and_both (before_all s.path (map (λ x. x.path) roll)) (is_in_order roll)
    (before_each s.path roll (λ j t e. f 0 (suc j) s t refl e (omega arith)))
    (in_order_by roll (λ i j x y a b lt. f (suc i) (suc j) x y a b (omega arith)))
