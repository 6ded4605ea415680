-- The variables in scope with their slots, as the code of a program has them.
use Rattle.std.specs.Prelude.{ℕ, List, map}
use Rattle.jade_syntax.specs.Abstract.{Name}
use Rattle.task_translation.specs.Keys as keys
use Rattle.task_codegen.specs.declared.keys.Key.{Key, Leaf, Both'}
use Rattle.task_codegen.specs.declared.keys.Kept.{Kept}
use Rattle.task_translation.specs.Compile.{Scope, Entry, entry}

-- a variable by its name's bytes
abbrev pub entry_of : Name × ℕ → Entry
entry_of v = entry v.0 v.1

-- the variables in scope
abbrev pub in_scope : List (Name × ℕ) → Scope
in_scope vs = map entry_of vs

-- a key, as the code of a program has it
abbrev pub key_shown : Key → keys.Key
key_shown (Leaf o) = keys.Leaf o
key_shown (Both' o first p second q) = keys.Both o (key_shown p) (key_shown q)

abbrev pub kept_shown : Kept → keys.Kept
kept_shown k = record { key = key_shown k.key; slot = k.slot }

-- the values that are kept
abbrev pub kept_here : List Kept → List keys.Kept
kept_here ks = map kept_shown ks
