-- What is left, in the words of one definition and of the other.
use Rattle.std.proofs.Common.{◌≡◌, ℕ, List, [], ◌∷◌, ◌++◌, sym, ◌∙◌, append-nil}
use Rattle.std.specs.Prelude.{ℤ}
use Rattle.jade_syntax.specs.declared.tree.Program.{Program}
use Rattle.jade_syntax.specs.Image.{program}
use Rattle.jade_meaning.specs.Serial.{Path}
use Rattle.jade_meaning.specs.Turns.{marks_by}
use Rattle.schedule_core.specs.Soundness.{and_then}
use Rattle.jade_meaning.specs.Laws.{Every}
use Rattle.object_shelf.specs.Views.{ObjectView}
use Rattle.schedule_core.specs.declared.steps.Seat.{Seat}
use Rattle.schedule_core.specs.Sound.{Within, From}
use Rattle.schedule_core.specs.Remains.{IsLeft, Remains, WritesGoFirst}
use Rattle.core_laws.specs.WhatIsLeft.{IsAhead, itself, unborn, IsYetToDo, WhatIsLeft, SomeIsLeft}

pub ahead_of : (s : Seat) (p : Path) → Within s.path s.children p → IsAhead s p
ahead_of s p w = go w.rest w.is w.from
  where
    go : (r : Path) → p ≡ s.path ++ r → From s.children r → IsAhead s p
    go [] e f = itself (e ∙ append-nil s.path)
    go (j ∷ r) e f = unborn j r f e

within_of : (s : Seat) (p : Path) → IsAhead s p → Within s.path s.children p
within_of s p (itself e) = record { rest = []; is = e ∙ sym (append-nil s.path); from = tt }
within_of s p (unborn j r f e) = record { rest = j ∷ r; is = e; from = f }

pub every_by : {A : Type 0} (P Q : A → Type 0) → ((x : A) → P x → Q x) → (xs : List A) → Every P xs → Every Q xs
every_by P Q f [] h = tt
every_by P Q f (x ∷ xs) h = (f x h.0, every_by P Q f xs h.1)

abbrev pub what_is_left : (p : Program) (ns : List ℤ) (limit : ℕ) (roll : List Seat) (ss : List ObjectView) (rest : ℕ → List Path)
    → Remains p ns limit roll ss rest → WhatIsLeft p (marks_by (program p) ns limit (and_then ss rest)) roll ss
what_is_left p ns limit roll ss rest r = record {
  left = r.left;
  each = every_by (IsLeft roll) (IsYetToDo roll) (λ m w. record { place = w.place; seat = w.seat; live = w.live; ahead = ahead_of w.seat m.path w.within }) r.left r.each;
  own = r.own;
  gone = r.gone;
  first = r.first;
  content = r.content;
  turns = r.turns;
}

pub remains : (p : Program) (ns : List ℤ) (limit : ℕ) (roll : List Seat) (ss : List ObjectView) (rest : ℕ → List Path)
    → WhatIsLeft p (marks_by (program p) ns limit (and_then ss rest)) roll ss → Remains p ns limit roll ss rest
remains p ns limit roll ss rest r = record {
  left = r.left;
  each = every_by (IsYetToDo roll) (IsLeft roll) (λ m w. record { place = w.place; seat = w.seat; live = w.live; within = within_of w.seat m.path w.ahead }) r.left r.each;
  own = r.own;
  gone = r.gone;
  first = r.first;
  content = r.content;
  turns = r.turns;
}

pub some_is_left : (p : Program) (ns : List ℤ) (limit : ℕ) → WritesGoFirst p ns limit → SomeIsLeft p ns limit
some_is_left p ns limit c = record { what = λ k roll ss notes r rest. what_is_left p ns limit roll ss rest (c.remains k roll ss notes r rest) }
