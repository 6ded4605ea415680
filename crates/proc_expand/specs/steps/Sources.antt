-- What is known while the tokens of an expanded text are written.
use Rattle.std.specs.Prelude.{◌≡◌, ℕ, ◌+◌, ◌-◌, ◌*◌, ◌<◌, ◌≤◌, true, not, List, [], ◌∷◌, ◌++◌, map, drop, length, codes, Option, Some, None}
use Rattle.std.specs.Prelude.{reverse}
use Rattle.std.specs.List.{All}
use Rattle.jade_base.specs.declared.place.Pos.{Pos}
use Rattle.jade_lexer.specs.Lexemes.{TokenAt}
use Rattle.proc_expand.specs.declared.sign.Bracket.TheVariants.{Round}
use Rattle.proc_expand.specs.declared.sign.Sign.{Sign}
use Rattle.proc_expand.specs.declared.sign.End.TheVariants.{Closed}
use Rattle.proc_expand.specs.declared.frame.Call.{Call}
use Rattle.proc_expand.specs.declared.frame.Frame.{Frame}
use Rattle.proc_expand.specs.declared.pen.Pen.{Pen}
use Rattle.proc_expand.specs.declared.source.Source.{Source}
use Rattle.proc_expand.specs.Words.{signs, bytes_at, those, closing_from}
use Rattle.proc_expand.specs.Refusals.{begins, head, body_end, procedure, param_place, commas_from, refusal}
use Rattle.proc_expand.specs.steps.Looking.{IsScan, Knows}
use Rattle.proc_expand.specs.Written.{MadeToken, text_names, in_procedure, closed_at, replaced_at, replaced_by, from, spans, token_at, given_at, made_at, param_places, arguments}
use Rattle.proc_expand.specs.steps.Replaced.{IsTaken}
use Rattle.proc_expand.specs.steps.Marks.{IsMarked}
use Rattle.proc_expand.specs.steps.Frames.{names_in, places_left, left}
use Rattle.proc_expand.specs.steps.Sheets.{spaced_out}
use Rattle.proc_expand.specs.steps.Pens.{written, IsPen}

-- the text is looked at, is not refused, and its names are numbered
pub record IsSource (ts : List TokenAt) (end : Pos) (s : Source) : Type 0 where
  pub accepted : refusal ts ≡ None
  pub few : length ts ≤ 1048576
  pub scan : IsScan ts s.scan
  pub known : Knows ts (length ts) s.known
  pub taken : IsTaken (text_names ts end) s.taken
  pub outer : s.outer.items ≡ those (length ts) (λ k. not (in_procedure ts end k))
  pub marks : IsMarked ts end s.marks

-- a call whose procedure is written
pub record IsOpen (ts : List TokenAt) (end : Pos) (c : Call) : Type 0 where
  pub within : c.procedure < length ts
  pub begun : begins (signs ts) c.procedure ≡ true
  pub few : c.base + length (replaced_at ts end (procedure (signs ts) c.procedure)) ≤ 1099511627776

-- a place of its body
pub record IsInside (ts : List TokenAt) (end : Pos) (c : Call) (k : ℕ) : Type 0 where
  pub opened : IsOpen ts end c
  pub start : (head (signs ts) c.procedure).stop < k
  pub stop : k < closed_at ts end (body_end (signs ts) c.procedure)

-- a place of the text or of an open body
pub record StandsIn (ts : List TokenAt) (end : Pos) (call : Option Call) (k : ℕ) : Type 0 where
  pub within : k < length ts
  pub inside : (c : Call) → call ≡ Some c → IsInside ts end c k

-- places from one to before another
pub record StandIn (ts : List TokenAt) (end : Pos) (call : Option Call) (start stop : ℕ) : Type 0 where
  pub each : (k : ℕ) → start ≤ k → k < stop → StandsIn ts end call k

-- ---- arguments

-- the commas from a place on that stand directly in the brackets around it
abbrev pub commas_after : List Sign → ℕ → List ℕ
commas_after ss k = commas_from [] k (drop k ss)

-- within round brackets that are closed at a place
pub record InBrackets (ss : List Sign) (start close : ℕ) : Type 0 where
  pub closed : closing_from (Round ∷ []) start (drop start ss) ≡ Closed close

-- an argument ends at the first of these commas, or else where the brackets are closed
pub record EndsArgument (ss : List Sign) (start close stop : ℕ) : Type 0 where
  pub down : start ≤ stop
  pub up : stop ≤ close
  pub last : commas_after ss start ≡ [] → stop ≡ close
  pub comma : (c : ℕ) (cs : List ℕ) → commas_after ss start ≡ c ∷ cs → stop ≡ c
  pub next : (c : ℕ) (cs : List ℕ) → commas_after ss start ≡ c ∷ cs → commas_after ss (stop + 1) ≡ cs
  pub on : (c : ℕ) (cs : List ℕ) → commas_after ss start ≡ c ∷ cs → InBrackets ss (stop + 1) close

-- the new name of a parameter
abbrev pub param_token : (ts : List TokenAt) (end : Pos) → Call → (i : ℕ) → MadeToken
param_token ts end c i =
    made_at ts end c.place
    (replaced_by ts end (replaced_at ts end (procedure (signs ts) c.procedure)) c.base (bytes_at ts (param_place c.procedure i)))

-- what one parameter gets
abbrev pub given_one : (ts : List TokenAt) (end : Pos) → Option Call → Call → (i start stop : ℕ) → List MadeToken
given_one ts end around c i start stop =
    made_at ts end c.place (bytes_at ts (param_place c.procedure i - 1)) ∷ param_token ts end c i ∷ made_at ts end c.place (codes "=")
    ∷ (map (token_at ts end (names_in ts end around)) (from ts end start (stop - start)) ++ made_at ts end c.place (codes ";") ∷ [])

-- what the parameters from one on get, where the next argument begins at a place
abbrev pub given_from : (ts : List TokenAt) (end : Pos) → Option Call → Call → (params i start close : ℕ) → List MadeToken
given_from ts end around c params i start close =
    given_at ts end c.place (replaced_by ts end (replaced_at ts end (procedure (signs ts) c.procedure)) c.base)
    (map (param_place c.procedure) (from ts end i (params - i)))
    (map (λ ps. map (token_at ts end (names_in ts end around)) ps) (spans ts end start (commas_after (signs ts) start) close))

-- what all parameters get
abbrev pub given_all : (ts : List TokenAt) (end : Pos) → Option Call → Call → List MadeToken
given_all ts end around c =
    given_at ts end c.place (replaced_by ts end (replaced_at ts end (procedure (signs ts) c.procedure)) c.base)
    (param_places ts end (procedure (signs ts) c.procedure))
    (map (λ ps. map (token_at ts end (names_in ts end around)) ps) (arguments ts end c.place))

-- how a call begins
abbrev pub start_tokens : (ts : List TokenAt) (end : Pos) → (k : ℕ) → List MadeToken
start_tokens ts end k = made_at ts end k (codes "if") ∷ made_at ts end k (codes "true") ∷ made_at ts end k (codes "{") ∷ []

-- ---- open bodies

-- what is left of an open body
pub record IsBody (ts : List TokenAt) (end : Pos) (c : Call) (next stop : ℕ) : Type 0 where
  pub opened : IsOpen ts end c
  pub start : (head (signs ts) c.procedure).stop < next
  pub stops : stop ≡ closed_at ts end (body_end (signs ts) c.procedure)

pub record IsFrame (ts : List TokenAt) (end : Pos) (outer : List ℕ) (f : Frame) : Type 0 where
  pub outside : f.call ≡ None → f.stop ≡ length outer
  pub inside : (c : Call) → f.call ≡ Some c → IsBody ts end c f.next f.stop

-- the place that comes next of it
pub record IsNext (ts : List TokenAt) (end : Pos) (outer : List ℕ) (f : Frame) (k : ℕ) : Type 0 where
  pub stands : StandsIn ts end f.call k
  pub next : places_left ts end outer f.call f.next f.stop ≡ k ∷ places_left ts end outer f.call (f.next + 1) f.stop
  pub here : (c : Call) → f.call ≡ Some c → k ≡ f.next

-- a text is written so far, with bodies open, the innermost last
pub record IsWriting (ts : List TokenAt) (end : Pos) (outer : List ℕ) (p : Pen) (fs : List Frame) (n : ℕ) : Type 0 where
  pub pen : IsPen (text_names ts end) p
  pub frames : All (IsFrame ts end outer) fs
  pub few : n ≤ length (written p) * 1048576

-- all that a text is to be, written or left
abbrev pub whole : (ts : List TokenAt) (end : Pos) → List ℕ → Pen → List Frame → ℕ → List MadeToken
whole ts end outer p fs n = written p ++ left ts end outer (reverse fs) n

-- how much may come
abbrev pub room : Pen → List Frame → ℕ
room p fs = 2 * (1048576 - length p.sheet.text.items) + length fs

-- some of it is written, and the rest is left
pub record GoesOn (ts : List TokenAt) (end : Pos) (outer : List ℕ) (p : Pen) (fs : List Frame) (n : ℕ) (q : Pen) (gs : List Frame) (m : ℕ) : Type 0 where
  pub writing : IsWriting ts end outer q gs m
  pub same : whole ts end outer q gs m ≡ whole ts end outer p fs n
  pub less : room q gs < room p fs

-- the whole would be too long
pub record IsWholeTooLong (ts : List TokenAt) (end : Pos) (outer : List ℕ) (p : Pen) (fs : List Frame) (n : ℕ) : Type 0 where
  pub long : 1048576 < length (spaced_out (whole ts end outer p fs n))

-- tokens of a body are written in a row; what was and what is left of it, whatever else is open
pub record RunsOn (ts : List TokenAt) (end : Pos) (outer : List ℕ) (p : Pen) (f : Frame) (q : Pen) (g : Frame) : Type 0 where
  pub pen : IsPen (text_names ts end) q
  pub frame : IsFrame ts end outer g
  pub same : (fs : List Frame) (n : ℕ) → written q ++ left ts end outer (g ∷ fs) n ≡ written p ++ left ts end outer (f ∷ fs) n
  pub longer : length p.sheet.text.items ≤ length q.sheet.text.items
  pub more : length (written p) ≤ length (written q)
