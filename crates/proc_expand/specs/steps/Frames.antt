-- What is yet to be written of a text while calls are open: each open body, the innermost first, has some places left.
use Rattle.std.specs.Prelude.{ℕ, zero, suc, ◌+◌, ◌-◌, ◌&&◌, List, [], ◌∷◌, ◌++◌, map, drop, length, codes, Option, Some, None, if◌then◌else◌}
use Rattle.jade_base.specs.declared.place.Pos.{Pos}
use Rattle.jade_lexer.specs.Lexemes.{TokenAt}
use Rattle.jade_syntax.specs.Abstract.{Name}
use Rattle.jade_syntax.specs.Numbering.{same_name}
use Rattle.proc_expand.specs.declared.frame.Call.{Call}
use Rattle.proc_expand.specs.declared.frame.Frame.{Frame}
use Rattle.proc_expand.specs.Words.{signs, bytes_at, those}
use Rattle.proc_expand.specs.Refusals.{begins, procedure}
use Rattle.proc_expand.specs.Written.{MadeToken, CallWriter, all_writers, no_writer, write_places, replaced_at, replaced_by, from, made_at, given_at, param_places, token_at, arguments}

module _ (ts : List TokenAt) (end : Pos) where
  -- the last procedure of a name that begins before a place
  abbrev pub newest_named : (n : ℕ) → Name → Option ℕ
  newest_named zero x = None
  newest_named (suc k) x = if begins (signs ts) k && same_name x (bytes_at ts (k + 1)) then Some k else newest_named k x

  -- what the procedures that begin before a place write for calls of them
  abbrev pub writer_before : ℕ → CallWriter ts end
  writer_before n = all_writers ts end (no_writer ts end) (map (procedure (signs ts)) (those n (begins (signs ts))))

  -- what the names of an open body are replaced by
  abbrev pub names_in : Option Call → Name → Name
  names_in None = λ x. x
  names_in (Some c) = replaced_by ts end (replaced_at ts end (procedure (signs ts) c.procedure)) c.base

  -- what writes the calls of an open body
  abbrev pub writer_in : Option Call → CallWriter ts end
  writer_in None = writer_before (length ts)
  writer_in (Some c) = writer_before c.procedure

  -- the places that are left, of those outside of procedures or of a body
  abbrev pub places_left : List ℕ → Option Call → (next stop : ℕ) → List ℕ
  places_left outer None next stop = drop next outer
  places_left outer (Some c) next stop = from ts end next (stop - next)

  -- what ends an open body
  abbrev pub end_of : Option Call → List MadeToken
  end_of None = []
  end_of (Some c) = made_at ts end c.place (codes "}") ∷ []

  -- what open bodies have yet to write, from a number on
  abbrev pub left : List ℕ → List Frame → ℕ → List MadeToken
  left outer [] n = []
  left outer (f ∷ fs) n =
      let w = write_places ts end (writer_in f.call) (names_in f.call) 0 (places_left outer f.call f.next f.stop) n in
      w.tokens ++ (end_of f.call ++ left outer fs w.next)

  -- what is written for a call before the body of its procedure
  abbrev pub call_start : Option Call → (d k n : ℕ) → List MadeToken
  call_start c d k n =
      let p = procedure (signs ts) d in
      made_at ts end k (codes "if") ∷ made_at ts end k (codes "true") ∷ made_at ts end k (codes "{")
      ∷ given_at ts end k (replaced_by ts end (replaced_at ts end p) n) (param_places ts end p)
      (map (λ ps. map (token_at ts end (names_in c)) ps) (arguments ts end k))
