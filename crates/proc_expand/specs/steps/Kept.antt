-- How an expanded text is kept: its bytes, and where each token stands in them.
use Rattle.std.specs.Prelude.{◌≡◌, ℕ, ◌+◌, ◌<◌, nat_eq, List, [], ◌∷◌, ◌++◌, map, length, slice_index_or, if◌then◌else◌}
use Rattle.jade_base.specs.declared.place.Pos.{Pos}
use Rattle.proc_expand.specs.declared.sheet.Piece.{Piece}
use Rattle.proc_expand.specs.Written.{MadeToken, spaced}
use Rattle.proc_expand.specs.steps.Sheets.{AreLaid, piece_token}

abbrev pub tokens_in : List ℕ → List Piece → List MadeToken
tokens_in text ps = map (piece_token text) ps

-- where the pieces of a text end
abbrev pub laid_to : List ℕ → List Piece → ℕ
laid_to text [] = 0
laid_to text (p ∷ ps) = length text

-- each piece begins after those before it
pub record Ascend (ps : List Piece) : Type 0 where
  pub up : (i j : ℕ) (d : Piece) → i < j → j < length ps → (slice_index_or ps i d).start < (slice_index_or ps j d).start

-- pieces follow one another, a space after each and a line feed after the last
pub record IsExpanded (text : List ℕ) (ps : List Piece) : Type 0 where
  pub laid : AreLaid 0 ps (laid_to text ps)
  pub bytes : text ≡ spaced (tokens_in text ps) ++ 10 ∷ []

-- the origin of the piece that begins in a column, counted from 1
abbrev pub origin_among : Pos → (column : ℕ) → List Piece → Pos
origin_among end column [] = end
origin_among end column (p ∷ ps) = if nat_eq (p.start + 1) column then p.origin else origin_among end column ps
