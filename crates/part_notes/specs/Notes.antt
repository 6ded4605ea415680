-- Notes in chunks, one chunk behind another, and the note that is in a list of its own until it is left.
use Rattle.std.specs.Prelude.{◌≡◌, ℕ, List, [], ◌∷◌, flat_map}
use Rattle.task_roll.specs.declared.note.PartNote.{PartNote}
use Rattle.part_notes.specs.declared.chunk.Chunk.{Chunk}
use Rattle.part_notes.specs.declared.chunk.Chunk.TheVariants as chunk

-- the notes of a chunk: one, or those of a family
abbrev pub in_chunk : Chunk → List PartNote
in_chunk (chunk.One n) = n ∷ []
in_chunk (chunk.Many f) = f

-- the notes of all chunks, in their order
abbrev pub flat : List Chunk → List PartNote
flat cs = flat_map (λ c. in_chunk c) cs

-- the path of the first note
abbrev pub first_path : List PartNote → List ℕ
first_path [] = []
first_path (note ∷ notes) = note.path

-- a chunk of one note
abbrev pub IsOne : Chunk → Type 0
IsOne (chunk.One n) = Unit {0}
IsOne (chunk.Many f) = ⊥

-- one chunk of one note
abbrev pub IsSingle : List Chunk → Type 0
IsSingle [] = ⊥
IsSingle (c ∷ []) = IsOne c
IsSingle (c ∷ d ∷ cs) = ⊥
