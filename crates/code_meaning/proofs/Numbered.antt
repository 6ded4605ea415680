-- Bodies by their numbers.
use Rattle.std.proofs.Common.{◌≡◌, ℕ, zero, suc, ◌+◌, ◌-◌, ◌<◌, List, [], ◌∷◌, length, Some, None, ap, ◌∙◌, arith}
use Rattle.std.specs.Prelude.{ℤ, pos, slice_get, slice_index_or}
use Rattle.std.proofs.lemmas.Option.{none-some, same_Some, slice_get_within}
use Rattle.jade_meaning.specs.Course.{Course, Ends}
use Rattle.jade_meaning.specs.Specification.{Specification}
use Rattle.code_meaning.specs.Meaning.{Slots, Body, body_going, by_number, bodies_from}
use Rattle.code_meaning.specs.Children.{children_from, children_of, ChildrenAre, RootIs}

abbrev Does : Type 0
Does = Slots → Specification → Course

abbrev nothing : Does
nothing ss spec = Ends None

body_at : (zs : List ℤ) (limit base : ℕ) (bodies : List Body) (n : ℕ) (body : Body) → slice_get bodies n ≡ Some body →
    slice_index_or (bodies_from zs limit base bodies) n nothing ≡ body_going (children_from zs limit base bodies n) zs limit body
body_at zs limit base [] n body h = absurd (none-some body h)
body_at zs limit base (x ∷ bodies) zero body h = ap (body_going (by_number (base + 1) (bodies_from zs limit (base + 1) bodies)) zs limit) (same_Some x body h)
body_at zs limit base (x ∷ bodies) (suc n) body h = body_at zs limit (base + 1) bodies n body h

child_at : (zs : List ℤ) (limit base : ℕ) (bodies : List Body) (b n : ℕ) → b < n → b < length bodies → children_from zs limit base bodies b (base + n) ≡
    slice_index_or (bodies_from zs limit base bodies) n nothing
child_at zs limit base [] b n lt within = absurd (omega (arith, within))
child_at zs limit base (x ∷ bodies) b zero lt within = absurd (omega (arith, lt))
child_at zs limit base (x ∷ bodies) zero (suc n) lt within =
    let e : base + suc n - (base + 1) ≡ n = omega arith in
    ap (λ i. slice_index_or (bodies_from zs limit (base + 1) bodies) i nothing) e
child_at zs limit base (x ∷ bodies) (suc b) (suc n) lt within =
    let e : base + suc n ≡ base + 1 + n = omega arith in
    ap (children_from zs limit (base + 1) bodies b) e ∙ child_at zs limit (base + 1) bodies b n (omega (arith, lt)) (omega (arith, within))

pub children_are : (zs : List ℤ) (limit : ℕ) (bodies : List Body) → ChildrenAre zs limit bodies
children_are zs limit bodies b n body lt h =
    let e : n ≡ 0 + n = omega arith in
    let there = slice_get_within bodies n body h in
    ap (children_of zs limit bodies b) e ∙ child_at zs limit 0 bodies b n lt (omega (arith, lt, there)) ∙ body_at zs limit 0 bodies n body h

pub root_is : (zs : List ℤ) (limit : ℕ) (bodies : List Body) → RootIs zs limit bodies
root_is zs limit bodies body spec h =
    let e : 0 - 0 ≡ 0 = omega arith in
    ap (λ i. slice_index_or (bodies_from zs limit 0 bodies) i nothing (λ k. pos 0) spec) e ∙ ap (λ f. f (λ k. pos 0) spec) (body_at zs limit 0 bodies 0 body h)
