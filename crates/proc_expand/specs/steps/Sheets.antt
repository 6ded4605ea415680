-- Text that is written token by token, with a space after each.
use Rattle.std.specs.Prelude.{◌≡◌, ℕ, ◌+◌, ◌-◌, ◌≤◌, List, [], ◌∷◌, ◌++◌, map, take, drop, length}
use Rattle.proc_expand.specs.declared.sheet.Piece.{Piece}
use Rattle.proc_expand.specs.declared.sheet.Sheet.{Sheet}
use Rattle.proc_expand.specs.Written.{MadeToken}

-- a space after each token
abbrev pub spaced_out : List MadeToken → List ℕ
spaced_out [] = []
spaced_out (t ∷ ts) = t.bytes ++ 32 ∷ spaced_out ts

-- a token that is written in a text
abbrev pub piece_token : List ℕ → Piece → MadeToken
piece_token text p = record { bytes = take (p.stop - p.start) (drop p.start text); origin = p.origin }

abbrev pub tokens_of : Sheet → List MadeToken
tokens_of s = map (piece_token s.text.items) s.pieces.items

-- pieces follow one another, each a byte after the one before, from a place to another
pub record Begins (n : ℕ) (p : Piece) : Type 0 where
  pub at : p.start ≡ n
  pub up : n ≤ p.stop

abbrev pub AreLaid : ℕ → List Piece → ℕ → Type 0
AreLaid n [] m = n ≡ m
AreLaid n (p ∷ ps) m = Begins n p × AreLaid (p.stop + 1) ps m

pub record IsSheet (s : Sheet) : Type 0 where
  pub laid : AreLaid 0 s.pieces.items (length s.text.items)
  pub text : s.text.items ≡ spaced_out (map (piece_token s.text.items) s.pieces.items)
  pub few : length s.text.items ≤ 1048576
