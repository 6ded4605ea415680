-- Texts made of pieces with a byte before each, and how numbers and paths are spelled.
use Rattle.std.specs.Prelude.{◌≡◌, ◌≢◌, ℕ, ◌<◌, true, List, [], ◌∷◌, ◌++◌, map, All}
use Rattle.std.specs.Fmt.{decimal}
use Rattle.jade_alphabet.specs.Letters.{is_word}

-- a byte does not stand in a text
abbrev pub Lacks : ℕ → List ℕ → Type 0
Lacks c text = All (λ b. b ≢ c) text

-- pieces one after another, with a byte before each
abbrev pub each_after : ℕ → List (List ℕ) → List ℕ
each_after c [] = []
each_after c (piece ∷ pieces) = c ∷ (piece ++ each_after c pieces)

-- a task's path with dots, as 0.1.2
abbrev pub path_text : List ℕ → List ℕ
path_text [] = []
path_text (k ∷ more) = decimal k ++ each_after 46 (map decimal more)

-- a path of the root or of one of its descendants: 0, and then numbers below 4,294,967,296
pub record IsPath (path : List ℕ) : Type 0 where
  pub more : List ℕ
  pub root : path ≡ 0 ∷ more
  pub fit : All (λ k. k < 4294967296) more

-- what an object may be called: a word, or for a family's member a word and its index in brackets
pub data IsLabel (label : List ℕ) : Type 0 where
  single : is_word label ≡ true → IsLabel label
  member : (name : List ℕ) (index : ℕ) → is_word name ≡ true → index < 4294967296 → label ≡ name ++ 91 ∷ (decimal index ++ 93 ∷ []) → IsLabel label
