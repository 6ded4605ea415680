-- What the children of each body do.
use Rattle.std.specs.Prelude.{◌≡◌, ℕ, zero, suc, ◌+◌, ◌<◌, List, [], ◌∷◌, Some, ℤ, pos, slice_get}
use Rattle.code_meaning.specs.Meaning.{Children, Body, body_going, by_number, bodies_from, code_course}
use Rattle.jade_meaning.specs.Specification.{Specification}

-- the children of a body, by their numbers, where the first of these bodies has the number base
abbrev pub children_from : List ℤ → (limit base : ℕ) → List Body → ℕ → Children
children_from zs limit base [] n = by_number (base + 1) []
children_from zs limit base (x ∷ bodies) zero = by_number (base + 1) (bodies_from zs limit (base + 1) bodies)
children_from zs limit base (x ∷ bodies) (suc n) = children_from zs limit (base + 1) bodies n

-- the children of a body of a whole code
abbrev pub children_of : List ℤ → (limit : ℕ) → List Body → ℕ → Children
children_of zs limit bodies n = children_from zs limit 0 bodies n

-- a body creates a later one
abbrev pub ChildrenAre : List ℤ → (limit : ℕ) → List Body → Type 0
ChildrenAre zs limit bodies =
    (b n : ℕ) (body : Body) → b < n → slice_get bodies n ≡ Some body → children_of zs limit bodies b n ≡
    body_going (children_of zs limit bodies n) zs limit body

-- the whole code is its first body
abbrev pub RootIs : List ℤ → (limit : ℕ) → List Body → Type 0
RootIs zs limit bodies =
    (body : Body) (spec : Specification) → slice_get bodies 0 ≡ Some body → code_course bodies zs limit spec ≡
    body_going (children_of zs limit bodies 0) zs limit body (λ k. pos 0) spec
