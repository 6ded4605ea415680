-- Options that are no Some.
use Rattle.std.proofs.Common.{◌≡◌, ℕ, Bool, true, false, ◌==◌, List, [], ◌∷◌, length, Option, Some, None, MatchOption, Result, Ok, Err, MatchResult, OnOk, refl, ap, arith}
use Rattle.std.specs.Result.{is_err}

pub none_of : {A : Type 0} (r : Option A) (P : Type 0) (Q : A → Type 0) → ((x : A) → r ≡ Some x → ⊥) → MatchOption r P Q → P
none_of None P Q h m = m
none_of (Some x) P Q h m = absurd (h x refl)

-- what has no bytes is empty, and what is not, has some
pub empty_is : (xs : List ℕ) (b : Bool) → b ≡ (length xs == 0) → b ≡ true → xs ≡ []
empty_is [] b e t = refl
empty_is (x ∷ xs) b e t = absurd (grind arith)

pub some_is : (xs : List ℕ) (b : Bool) → b ≡ (length xs == 0) → b ≡ false → xs ≡ [] → ⊥
some_is xs b e f h = let l : length xs ≡ 0 = ap length h in grind arith

-- what is told of a result that is no error
pub was_ok : {A B : Type 0} (r : Result A B) (P : Type 0) → false ≡ is_err r → OnOk r P → P
was_ok (Ok x) P e m = m
was_ok (Err x) P e m = absurd (cc)

-- what holds where a result is no error
pub went_well : {A B : Type 0} (r : Result A B) (P : Type 0) (Q : B → Type 0) → false ≡ is_err r → MatchResult r (λ _. P) Q → P
went_well (Ok x) P Q e m = m
went_well (Err x) P Q e m = absurd (cc)
