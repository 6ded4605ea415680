-- Why a part of a line is not read: nothing of its kind is spelled so.
use Rattle.std.specs.Prelude.{◌≡◌, ◌≢◌, ℕ, List, [], map, ℤ, All}
use Rattle.run_record.specs.declared.paths.Unfit.{Unfit}
use Rattle.run_record.specs.declared.paths.Unfit.TheVariants.{Form, Memory}
use Rattle.run_record.specs.declared.turns.LabelledTurn.{LabelledTurn}
use Rattle.run_record.specs.Pieces.{IsPath, each_after, path_text}
use Rattle.run_record.specs.Form.{IsNumbersLine, IsTurnsLine}

-- no path is spelled so
abbrev pub NoPath : List ℕ → Unfit → Type 0
NoPath word Form = (path : List ℕ) → IsPath path → word ≡ path_text path → ⊥
NoPath word Memory = Unit {0}

-- no paths, one or more, are spelled so
abbrev pub NoPaths : List ℕ → Unfit → Type 0
NoPaths text Form = (paths : List (List ℕ)) → paths ≢ [] → All IsPath paths → text ≡ each_after 32 (map path_text paths) → ⊥
NoPaths text Memory = Unit {0}

-- no numbers, at most 64, are spelled so
abbrev pub NoNumbers : List ℕ → Unfit → Type 0
NoNumbers line Form = (numbers : List ℤ) → IsNumbersLine line numbers → ⊥
NoNumbers line Memory = Unit {0}

-- no turns are spelled so
abbrev pub NoTurns : List ℕ → Unfit → Type 0
NoTurns line Form = (turn : LabelledTurn) → IsTurnsLine line turn → ⊥
NoTurns line Memory = Unit {0}
