-- Worked rows of procedures and calls.
use Rattle.std.specs.Prelude.{◌≡◌, ℕ, List, codes, Option, Some, None, refl}
use Rattle.jade_lexer.specs.Lexemes.{TokenList}
use Rattle.jade_lexer.specs.Reading.{reading, Reading, Whole, Refused}
use Rattle.proc_expand.specs.declared.refusal.Reason.{Reason}
use Rattle.proc_expand.specs.declared.refusal.Reason.TheVariants.{Shape, Unknown, Count, Twice}
use Rattle.proc_expand.specs.declared.refusal.Refusal.{Refusal}
use Rattle.proc_expand.specs.Refusals.{refusal}
use Rattle.proc_expand.specs.Written.{expanded_text, pos_at}

data Outcome : Type 0 where
  Refuses : Reason → ℕ → ℕ → Outcome
  Writes : List ℕ → Outcome
  NoTokens : Outcome

abbrev outcome_of : TokenList → Option Refusal → Outcome
outcome_of l None = Writes (expanded_text l)
outcome_of l (Some r) = let p = pos_at l.lexemes l.end l.lexemes r.place in Refuses r.why p.line p.column

abbrev read : Reading → Outcome
read (Refused e) = NoTokens
read (Whole l) = outcome_of l (refusal l.lexemes)

abbrev outcome : List ℕ → Outcome
outcome text = read (reading text)

row0 : outcome (codes "object s : 2; proc f(int a) { s[0] = 5; s[1] = a; } main { f(s[0]); }") ≡ Writes (codes "object s : 2 ; main { if true { int v0 = s [ 0 ] ; s [ 0 ] = 5 ; s [ 1 ] = v0 ; } }\n")
row0 = refl

row1 : outcome (codes "proc f() { f(); } main { }") ≡ Refuses Unknown 1 12
row1 = refl

row2 : outcome (codes "proc f(int a, int a) { } main { }") ≡ Refuses Twice 1 19
row2 = refl

row3 : outcome (codes "proc f() { } proc f() { } main { }") ≡ Refuses Twice 1 19
row3 = refl

row4 : outcome (codes "proc f(int a) { } main { f(); }") ≡ Refuses Count 1 26
row4 = refl

row5 : outcome (codes "proc f(int a) { } main { f(1, ); }") ≡ Refuses Count 1 26
row5 = refl

row6 : outcome (codes "proc f(int a, int b) { } main { f(1, ); }") ≡ Refuses Shape 1 38
row6 = refl

row7 : outcome (codes "proc f() { } main { f() }") ≡ Refuses Shape 1 25
row7 = refl

row8 : outcome (codes "proc f() { } main { f(); else { } }") ≡ Refuses Shape 1 26
row8 = refl

row9 : outcome (codes "proc f(int a) { } main { int x = f(1); }") ≡ Refuses Shape 1 34
row9 = refl

row10 : outcome (codes "proc f(int a) { } main { f(1;); }") ≡ Refuses Shape 1 29
row10 = refl

row11 : outcome (codes "proc f(int a) { ) } main { }") ≡ Refuses Shape 1 17
row11 = refl

row12 : outcome (codes "proc f() { ") ≡ Refuses Shape 1 12
row12 = refl

row13 : outcome (codes "proc f main { }") ≡ Refuses Shape 1 8
row13 = refl

row14 : outcome (codes "proc f(int a) { f = a; } main { }") ≡ Writes (codes "main { }\n")
row14 = refl

row15 : outcome (codes "proc g() { } proc f(int g) { g(); int x = g; } main { f(7); }") ≡ Writes (codes "main { if true { int v0 = 7 ; if true { } int v1 = v0 ; } }\n")
row15 = refl

row17 : outcome (codes "main { proc f(1); }") ≡ Writes (codes "main { proc f ( 1 ) ; }\n")
row17 = refl

row18 : outcome (codes "proc f() { main } proc g() { } main { g(); }") ≡ Writes (codes "main { if true { } }\n")
row18 = refl

row19 : outcome (codes "proc f() { } main { } proc g() { }") ≡ Writes (codes "main { } proc g ( ) { }\n")
row19 = refl

row20 : outcome (codes "input n; proc f(int n) { } main { f(1); }") ≡ Writes (codes "input n ; main { if true { int n = 1 ; } }\n")
row20 = refl

row21 : outcome (codes "object o : 1; proc f(int i) { withonly { rd_wr(o); } do (i, i) { o[0] = i; } } main { f(4); }") ≡ Writes (codes "object o : 1 ; main { if true { int v0 = 4 ; withonly { rd_wr ( o ) ; } do ( v0 , v0 ) { o [ 0 ] = v0 ; } } }\n")
row21 = refl

row22 : outcome (codes "proc g(int a) { } proc f(int v0) { g(v0); } main { f(1); g(2); }") ≡ Writes (codes "main { if true { int v1 = 1 ; if true { int v2 = v1 ; } } if true { int v3 = 2 ; } }\n")
row22 = refl
