-- The bytes that come in and go out: what one read and one write do to what a source has left and to what a sink took.
use Rattle.std.specs.Prelude.{◌≡◌, ℕ, ◌-◌, ◌<◌, ◌≤◌, ◌⊎◌, ◌↔◌, List, [], ◌++◌, length, take, drop, Option, Some, None}

-- a count of faults rose: it is greater at the end, or it stood at the last value of a u64 at the start
abbrev pub Rose : ℕ → ℕ → Type 0
Rose old new = (old < new) ⊎ (old ≡ 18446744073709551615)

-- the bytes left, where they are told, without their first n
abbrev pub left_after : ℕ → Option (List ℕ) → Option (List ℕ)
left_after n None = None
left_after n (Some left) = Some (drop n left)

-- the bytes taken, where they are told, and then a piece
abbrev pub taken_with : Option (List ℕ) → List ℕ → Option (List ℕ)
taken_with None piece = None
taken_with (Some taken) piece = Some (taken ++ piece)

-- the room, where it is told, less n
abbrev pub room_after : Option ℕ → ℕ → Option ℕ
room_after None n = None
room_after (Some room) n = Some (room - n)

-- of the bytes left the first n stand at the head of the buffer, and n is 0 exactly where none was left
pub record Gives (left buffer : List ℕ) (n : ℕ) : Type 0 where
  pub within : n ≤ length left
  pub given : take n buffer ≡ take n left
  pub at_end : (n ≡ 0) ↔ (left ≡ [])

-- the text is all that was left, where that is told, and no byte is left
pub record WholeText (before after : Option (List ℕ)) (text : List ℕ) : Type 0 where
  pub within : length text ≤ 1048576
  pub whole : (left : List ℕ) → before ≡ Some left → text ≡ left
  pub none_left : (left : List ℕ) → before ≡ Some left → after ≡ Some []

-- a text of more than the most bytes was begun, and one byte more than the most was taken out of it
pub record CutText (before after : Option (List ℕ)) : Type 0 where
  pub too_long : (left : List ℕ) → before ≡ Some left → 1048577 ≤ length left
  pub cut : after ≡ left_after 1048577 before

-- the first n of the bytes left stand at the head of the buffer, and are no longer left
pub record Filled (before after : Option (List ℕ)) (n : ℕ) (buffer : List ℕ) : Type 0 where
  pub within : n ≤ length buffer
  pub drops : after ≡ left_after n before
  pub known : (left : List ℕ) → before ≡ Some left → n ≤ length left
  pub reads : (left : List ℕ) → before ≡ Some left → take n buffer ≡ take n left
