-- The three ways in which a text can fail to be read, each as a word that clauses use.
use Rattle.std.specs.Prelude.{Result, Ok, Err}
use Rattle.jade_base.specs.declared.text.TextError.{TextError}
use Rattle.jade_base.specs.declared.text.TextError.TheVariants.{Failed, TooLong, Memory}

-- P, if the source failed
abbrev pub OnFailed : {T : Type 0} → Result T TextError → Type 0 → Type 0
OnFailed (Err Failed) P = P
OnFailed (Err TooLong) P = Unit {0}
OnFailed (Err Memory) P = Unit {0}
OnFailed (Ok text) P = Unit {0}

-- P, if the text was too long
abbrev pub OnTooLong : {T : Type 0} → Result T TextError → Type 0 → Type 0
OnTooLong (Err TooLong) P = P
OnTooLong (Err Failed) P = Unit {0}
OnTooLong (Err Memory) P = Unit {0}
OnTooLong (Ok text) P = Unit {0}

-- P, if memory was wanting
abbrev pub OnMemory : {T : Type 0} → Result T TextError → Type 0 → Type 0
OnMemory (Err Memory) P = P
OnMemory (Err Failed) P = Unit {0}
OnMemory (Err TooLong) P = Unit {0}
OnMemory (Ok text) P = Unit {0}
