-- Lists from a place on.
use Rattle.std.proofs.Common.{◌≡◌, ℕ, zero, suc, ◌+◌, List, [], ◌∷◌, drop, arith, Option, None, MatchOption}
use Rattle.std.specs.Prelude.{slice_get, Some}

-- what is left from a place on begins with the item there
pub drop-slice_get : {X : Type 0} (xs : List X) (i : ℕ) (x : X) → slice_get xs i ≡ Some x → drop i xs ≡ x ∷ drop (i + 1) xs
drop-slice_get [] i x h = absurd (cc)
drop-slice_get (y ∷ xs) zero x h = grind arith
drop-slice_get (y ∷ xs) (suc i) x h = grind (arith, drop-slice_get xs i x h)

pub MatchOption-weaker : {X : Type 0} {P P' : Type 0} {Q Q' : X → Type 0} (o : Option X) → MatchOption o P Q → (P → P') → ((x : X) → Q x → Q' x)
    → MatchOption o P' Q'
MatchOption-weaker None h f g = f h
MatchOption-weaker (Some x) h f g = g x h
