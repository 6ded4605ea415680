-- Notes in any order.
use Rattle.std.specs.Prelude.{ℕ, suc, ◌≤◌, List, [], ◌∷◌, ◌++◌, if◌then◌else◌}
use Rattle.jade_base.specs.Places.{same_path}
use Rattle.task_roll.specs.declared.note.PartNote.{PartNote}
use Rattle.task_roll.specs.Rolls.{note_key}

-- how many notes have this key
abbrev pub count_key : List ℕ → List PartNote → ℕ
count_key k [] = 0
count_key k (n ∷ ns) = if same_path k (note_key n) then suc (count_key k ns) else count_key k ns

-- no key comes twice
pub record Few (ns : List PartNote) : Type 0 where
  pub each : (k : List ℕ) → count_key k ns ≤ 1

-- the same notes in another order: blocks change places
pub data Mixed : List PartNote → List PartNote → Type 0 where
  same : (xs : List PartNote) → Mixed xs xs
  swap : (p x q r : List PartNote) → Mixed (p ++ (x ++ (q ++ r))) (p ++ (q ++ (x ++ r)))
  chain : {xs ys zs : List PartNote} → Mixed xs ys → Mixed ys zs → Mixed xs zs
