-- One path: by the order of paths, and number by number.
use Rattle.std.proofs.Common.{◌≡◌, ℕ, ◌&&◌, List, [], ◌∷◌, refl, ap, ◌∙◌, arith}
use Rattle.std.specs.Prelude.{nat_eq}
use Rattle.std.specs.declared.cmp.Ordering.{Ordering}
use Rattle.std.specs.Ordering.{nat_cmp, ordering_then, is_eq}
use Rattle.std.proofs.lemmas.Bool.Decides.{nat_tests}
use Rattle.jade_base.specs.Places.{path_order, same_path}

head : (x y : ℕ) (o : Ordering) → is_eq (ordering_then (nat_cmp x y) o) ≡ nat_eq x y && is_eq o
head x y o = grind (arith, nat_tests)

pub is_eq-path_order : (p q : List ℕ) → is_eq (path_order p q) ≡ same_path p q
is_eq-path_order [] [] = refl
is_eq-path_order [] (j ∷ q) = refl
is_eq-path_order (i ∷ p) [] = refl
is_eq-path_order (i ∷ p) (j ∷ q) = head i j (path_order p q) ∙ ap (λ b. nat_eq i j && b) (is_eq-path_order p q)
