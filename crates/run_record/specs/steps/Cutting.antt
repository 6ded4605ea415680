-- Bytes cut at a byte.
use Rattle.std.specs.Prelude.{◌≡◌, ℕ, ◌<◌, ◌≤◌, List, [], ◌∷◌, ◌++◌}
use Rattle.std.specs.Fmt.{decimal}
use Rattle.run_record.specs.Pieces.{Lacks}

-- bytes are empty, or begin with a byte
abbrev pub BeginsOrEnds : ℕ → List ℕ → Type 0
BeginsOrEnds c [] = Unit {0}
BeginsOrEnds c (b ∷ bytes) = b ≡ c

-- bytes are cut before the first such byte
pub record IsCut (c : ℕ) (bytes front after : List ℕ) : Type 0 where
  pub whole : bytes ≡ front ++ after
  pub lacks : Lacks c front
  pub next : BeginsOrEnds c after

-- bytes begin with a byte, a piece without it, and then the rest
pub record IsPiece (c : ℕ) (bytes piece after : List ℕ) : Type 0 where
  pub whole : bytes ≡ c ∷ (piece ++ after)
  pub lacks : Lacks c piece
  pub next : BeginsOrEnds c after

-- bytes are an index in brackets
abbrev pub IsIndex : List ℕ → Type 0
IsIndex bytes = (index : ℕ) × (index < 4294967296) × (bytes ≡ 91 ∷ (decimal index ++ 93 ∷ []))

-- a word spells a number between two bounds
pub record SpellsWithin (word : List ℕ) (least most n : ℕ) : Type 0 where
  pub spelled : word ≡ decimal n
  pub some : least ≤ n
  pub within : n ≤ most
