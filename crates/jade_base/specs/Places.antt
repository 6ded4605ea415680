-- Paths of tasks and keys of parts as lists of numbers, and their order.
use Rattle.std.specs.Prelude.{ℕ, Bool, true, false, ◌&&◌, List, [], ◌∷◌, ◌++◌, nat_eq}
use Rattle.std.specs.declared.cmp.Ordering.{Ordering}
use Rattle.std.specs.declared.cmp.Ordering.TheVariants.{Less, Equal, Greater}
use Rattle.std.specs.Ordering.{nat_cmp, ordering_then, is_lt}

-- the first difference decides, and a list stands before what goes on from it
abbrev pub path_order : List ℕ → List ℕ → Ordering
path_order [] [] = Equal
path_order [] (y ∷ ys) = Less
path_order (x ∷ xs) [] = Greater
path_order (x ∷ xs) (y ∷ ys) = ordering_then (nat_cmp x y) (path_order xs ys)

-- two paths name one task
abbrev pub same_path : List ℕ → List ℕ → Bool
same_path [] [] = true
same_path (i ∷ p) (j ∷ q) = nat_eq i j && same_path p q
same_path [] (j ∷ q) = false
same_path (i ∷ p) [] = false

-- the first list stands strictly before the second
abbrev pub is_before : List ℕ → List ℕ → Bool
is_before p q = is_lt (path_order p q)

-- the key of what the task at a path does once it has created so many children
abbrev pub key : List ℕ → ℕ → List ℕ
key path children = path ++ children ∷ []
