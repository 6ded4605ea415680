-- A path is spelled with a dot between its numbers.
use Rattle.std.proofs.Common.{◌≡◌, ℕ, List, [], ◌∷◌, ◌++◌, map, refl, ap}
use Rattle.std.specs.List.{join_with_byte}
use Rattle.std.specs.Fmt.{decimal}
use Rattle.run_record.specs.Laws.{IsDotted}
use Rattle.run_record.specs.Pieces.{each_after}
use Rattle.run_record.proofs.Spellings.{no_more}

-- a byte between each two pieces is one before each but the first
joined : (c : ℕ) (x : List ℕ) (xs : List (List ℕ)) → x ++ each_after c xs ≡ join_with_byte c (x ∷ xs)
joined c x [] = no_more x
joined c x (y ∷ ys) = ap (λ l. x ++ (c ∷ l)) (joined c y ys)

pub is_dotted : (path : List ℕ) → IsDotted path
is_dotted [] = record { dotted = refl }
is_dotted (k ∷ more) = record { dotted = joined 46 (decimal k) (map decimal more) }
