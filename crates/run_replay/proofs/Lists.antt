-- Turn lists and the functions from numbers of objects that they are.
use Rattle.std.proofs.Common.{◌≡◌, ℕ, zero, suc, ◌+◌, ◌<◌, ◌≤◌, List, [], ◌∷◌, ◌++◌, length, map, refl, sym, ap, ◌∙◌, subst, arith, length-append}
use Rattle.std.proofs.lemmas.List.{append-nil}
use Rattle.std.proofs.Math.Path.{fun_ext}
use Rattle.jade_meaning.specs.Serial.{Path}
use Rattle.jade_meaning.specs.Specification.{numbers}
use Rattle.jade_meaning.specs.Turns.{turns_in}
use Rattle.schedule_core.specs.Serially.{Begins}

-- lists one by one
lists_are : (xs : List (List Path)) (f : ℕ → List Path) (a : ℕ) → ((i : ℕ) → f (a + i) ≡ turns_in xs i) → map f (numbers a (length xs)) ≡ xs
lists_are [] f a h = refl
lists_are (x ∷ xs) f a h =
    let z : a + 0 ≡ a = omega arith in
    ap (λ y. y ∷ map f (numbers (suc a) (length xs))) (sym (ap f z) ∙ h 0)
    ∙ ap (λ ys. x ∷ ys) (lists_are xs f (suc a) (λ i. let e : suc a + i ≡ a + suc i = omega arith in ap f e ∙ h (suc i)))

pub lists_again : (xs : List (List Path)) (f : ℕ → List Path) → ((i : ℕ) → f i ≡ turns_in xs i) → map f (numbers 0 (length xs)) ≡ xs
lists_again xs f h = lists_are xs f 0 (λ i. let e : 0 + i ≡ i = omega arith in ap f e ∙ h i)

-- past the last one there is nothing
pub past_lists : (xs : List (List Path)) (o : ℕ) → length xs ≤ o → turns_in xs o ≡ []
past_lists [] o le = refl
past_lists (x ∷ xs) zero le = absurd (omega arith)
past_lists (x ∷ xs) (suc o) le = past_lists xs o (omega arith)

none_left : (xs : List Path) → length xs ≡ 0 → xs ≡ []
none_left [] e = refl
none_left (x ∷ xs) e = absurd (omega arith)

-- a list that begins with one as long as it is that one
pub whole_list : (whole start : List Path) → Begins whole start → length start ≡ length whole → start ≡ whole
whole_list whole start b e =
    let n = length-append start b.rest in
    let m : length whole ≡ length (start ++ b.rest) = ap length b.is in
    let k : b.rest ≡ [] = none_left b.rest (omega arith) in
    sym (b.is ∙ ap (λ r. start ++ r) k ∙ append-nil start)
