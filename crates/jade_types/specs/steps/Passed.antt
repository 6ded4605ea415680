-- Statements that are gone through.
use Rattle.std.specs.Prelude.{◌≡◌, ◌∷◌, Some}
use Rattle.jade_syntax.specs.Placed.{Phrase, Phrases, Local, Assign, Store, If, IfElse, For, Withonly, With, Declare}
use Rattle.jade_syntax.specs.StaticFaults.{Holds, known, sites, block_sites}
use Rattle.jade_types.specs.declared.faults.notes.Notes.{Notes}
use Rattle.jade_types.specs.steps.Noted.{Noted}
use Rattle.jade_types.specs.steps.Scoped.{Scoped, in_scope}

-- the names in scope after a statement: a local is one more
abbrev pub scope_after : Scoped → Phrase → Scoped
scope_after s (Local kind x at e) = record { locals = known x (Holds (Some kind)) ∷ s.locals; items = s.items }
scope_after s (Assign x at e) = s
scope_after s (Store o e v) = s
scope_after s (If e first) = s
scope_after s (IfElse e first other) = s
scope_after s (For x at low high body) = s
scope_after s (Withonly at section params body) = s
scope_after s (With at section) = s
scope_after s (Declare how at o) = s

-- a statement was gone through
pub record Passed (before after : Notes) (s t : Scoped) (p : Phrase) : Type 0 where
  pub noted : Noted before after (sites s.items (in_scope s) p)
  pub scope : t ≡ scope_after s p

-- a block was gone through, and its locals have ended
pub record PassedBlock (before after : Notes) (s t : Scoped) (ps : Phrases) : Type 0 where
  pub noted : Noted before after (block_sites s.items (in_scope s) ps)
  pub scope : t ≡ s
