-- The tokens of the expanded text, each with its origin, and the text itself.
use Rattle.std.specs.Prelude.{ℕ, zero, suc, ◌+◌, ◌-◌, Bool, true, false, not, ◌&&◌, nat_eq, nat_le, List, [], ◌∷◌, ◌++◌, map, length, codes}
use Rattle.std.specs.Prelude.{if◌then◌else◌}
use Rattle.std.specs.List.{list_any, filter}
use Rattle.std.specs.Fmt.{digits_onto}
use Rattle.jade_base.specs.declared.place.Pos.{Pos}
use Rattle.jade_lexer.specs.Lexemes.{TokenAt, TokenList}
use Rattle.jade_syntax.specs.Abstract.{Name}
use Rattle.jade_syntax.specs.Numbering.{same_name}
use Rattle.proc_expand.specs.declared.sign.End.{End}
use Rattle.proc_expand.specs.declared.procedures.Procedure.{Procedure}
use Rattle.proc_expand.specs.Words.{signs, is_called, is_item_word, at, bytes_at, those, end_place}
use Rattle.proc_expand.specs.Names.{is_among, first_places, place_among}
use Rattle.proc_expand.specs.Refusals.{begins, procedure, param_place, is_call, call_end, commas, count}

-- a token of the expanded text
pub record MadeToken : Type 0 where
  pub bytes : List ℕ
  pub origin : Pos

-- tokens, and the number that comes next
pub record Written : Type 0 where
  pub tokens : List MadeToken
  pub next : ℕ

-- ---- fresh names: `v0`, `v1` .. without those that the text has

-- the digits of a number, however large
abbrev pub numeral : ℕ → List ℕ
numeral n = digits_onto (suc n) 10 false n []

abbrev pub numbered_name : ℕ → Name
numbered_name n = 118 ∷ numeral n

-- the first number from n on whose name is not among these, tried so often
abbrev pub next_free : (tries : ℕ) → List Name → ℕ → ℕ
next_free zero names n = n
next_free (suc tries) names n = if is_among names (numbered_name n) then next_free tries names (suc n) else n

abbrev pub free_number : List Name → ℕ → ℕ
free_number names zero = next_free (length names) names 0
free_number names (suc i) = next_free (length names) names (suc (free_number names i))

abbrev pub fresh_name : List Name → ℕ → Name
fresh_name names i = numbered_name (free_number names i)

-- ---- the parts of a source

module _ (ts : List TokenAt) (end : Pos) where
  -- the place of a token in the text, or that of its end
  abbrev pub pos_at : List TokenAt → ℕ → Pos
  pos_at [] k = end
  pos_at (t ∷ us) zero = t.pos
  pos_at (t ∷ us) (suc k) = pos_at us k

  -- where a bracket ends
  abbrev pub closed_at : End → ℕ
  closed_at e = end_place (length ts) e

  -- the procedures of the text, in order
  abbrev pub procedures : List Procedure
  procedures = map (procedure (signs ts)) (those (length ts) (begins (signs ts)))

  -- a place lies in a procedure
  abbrev pub in_procedure : ℕ → Bool
  in_procedure k = list_any (λ (p : Procedure). nat_le p.place k && nat_le k (closed_at p.end)) procedures

  -- the names of the text
  abbrev pub text_names : List Name
  text_names = map (bytes_at ts) (those (length ts) (λ k. is_called (at (signs ts) k)))

  -- `input`, `object` or `objects` stands at a place outside of procedures, and a name directly after it
  abbrev pub before_item : ℕ → Bool
  before_item k = is_item_word (at (signs ts) k) && is_called (at (signs ts) (suc k)) && not (in_procedure k)

  -- the names of items
  abbrev pub items : List Name
  items = map (λ k. bytes_at ts (suc k)) (those (length ts) before_item)

  -- the numbers from k on, n of them
  abbrev pub from : (k n : ℕ) → List ℕ
  from k zero = []
  from k (suc n) = k ∷ from (suc k) n

  -- the places of the body of a procedure
  abbrev pub body_places : Procedure → List ℕ
  body_places p = from (suc p.head.stop) (closed_at p.end - suc p.head.stop)

  -- a name that is no call's
  abbrev pub is_variable : ℕ → Bool
  is_variable k = is_called (at (signs ts) k) && not (is_call (signs ts) k)

  -- the names at some places, without those of calls
  abbrev pub names_at : List ℕ → List Name
  names_at ks = map (bytes_at ts) (filter is_variable ks)

  -- the places of the names of a procedure's parameters
  abbrev pub param_places : Procedure → List ℕ
  param_places p = map (param_place p.place) (from 0 p.head.params)

  -- the names that a call of a procedure replaces, the parameters' first
  abbrev pub replaced_at : Procedure → List Name
  replaced_at p = first_places items [] (map (bytes_at ts) (param_places p) ++ names_at (body_places p))

  -- with what they are replaced from number n on
  abbrev pub replaced_by : List Name → ℕ → Name → Name
  replaced_by names n x = if is_among items x then x else fresh_name text_names (n + place_among names x)

  -- the token at a place, its name replaced unless it is a call's
  abbrev pub token_at : (Name → Name) → ℕ → MadeToken
  token_at to k = record { bytes = if is_variable k then to (bytes_at ts k) else bytes_at ts k; origin = pos_at ts k }

  -- the arguments of a call, as their places: what stands between its brackets and commas
  abbrev pub spans : (first : ℕ) → List ℕ → (last : ℕ) → List (List ℕ)
  spans first [] last = from first (last - first) ∷ []
  spans first (c ∷ cs) last = from first (c - first) ∷ spans (suc c) cs last

  abbrev pub arguments : ℕ → List (List ℕ)
  arguments k =
      if nat_eq (count (signs ts) k) 0 then [] else spans (k + 2) (commas (signs ts) k) (closed_at (call_end (signs ts) k))

  -- ---- writing

  -- a token that is made for a call at a place
  abbrev pub made_at : ℕ → List ℕ → MadeToken
  made_at k bytes = record { bytes = bytes; origin = pos_at ts k }

  -- the parameters, whose names stand at these places, get the arguments' values
  abbrev pub given_at : ℕ → (Name → Name) → List ℕ → List (List MadeToken) → List MadeToken
  given_at k to [] args = []
  given_at k to (j ∷ params) [] = []
  given_at k to (j ∷ params) (a ∷ args) =
      made_at k (bytes_at ts (j - 1)) ∷ made_at k (to (bytes_at ts j)) ∷ made_at k (codes "=")
      ∷ (a ++ made_at k (codes ";") ∷ given_at k to params args)

  -- what is written for a call at a place with these arguments, from a number on
  abbrev pub CallWriter : Type 0
  CallWriter = (k : ℕ) → List (List MadeToken) → ℕ → Written

  -- the token at a place, or what is written for the call there, and what comes after that
  abbrev pub write_one : Bool → CallWriter → (Name → Name) → ℕ → ℕ → (ℕ → Written) → (ℕ → Written) → Written
  write_one true calls to k n after rest =
      let w = calls k (map (λ ps. map (token_at to) ps) (arguments k)) n in
      let a = after w.next in record { tokens = w.tokens ++ a.tokens; next = a.next }
  write_one false calls to k n after rest = let a = rest n in record { tokens = token_at to k ∷ a.tokens; next = a.next }

  -- some places in order; a call's places are written as a whole where it begins, and are passed
  abbrev pub write_places : CallWriter → (Name → Name) → (passed : ℕ) → List ℕ → ℕ → Written
  write_places calls to passed [] n = record { tokens = []; next = n }
  write_places calls to (suc passed) (k ∷ ks) n = write_places calls to passed ks n
  write_places calls to zero (k ∷ ks) n =
      write_one (is_call (signs ts) k) calls to k n (λ m. write_places calls to (suc (closed_at (call_end (signs ts) k) - k)) ks m)
      (write_places calls to zero ks)

  -- a call of a procedure
  abbrev pub write_call : CallWriter → Procedure → CallWriter
  write_call calls p k args n =
      let names = replaced_at p in
      let to = replaced_by names n in
      let b = write_places calls to 0 (body_places p) (n + length names) in
      record {
        tokens = made_at k (codes "if") ∷ made_at k (codes "true") ∷ made_at k (codes "{")
            ∷ (given_at k to (param_places p) args ++ b.tokens ++ made_at k (codes "}") ∷ []);
        next = b.next;
      }

  -- one procedure more, for calls of its name
  abbrev pub and_writer : CallWriter → Procedure → CallWriter
  and_writer calls p k args n =
      if same_name (bytes_at ts k) (bytes_at ts (p.place + 1)) then write_call calls p k args n else calls k args n

  -- all procedures, each of which may call those before it
  abbrev pub all_writers : CallWriter → List Procedure → CallWriter
  all_writers calls [] = calls
  all_writers calls (p ∷ ps) = all_writers (and_writer calls p) ps

  abbrev pub no_writer : CallWriter
  no_writer k args n = record { tokens = []; next = n }

  -- the tokens of the expanded text
  abbrev pub expansion : List MadeToken
  expansion = (write_places (all_writers no_writer procedures) (λ x. x) 0 (those (length ts) (λ k. not (in_procedure k))) 0).tokens

-- one space between tokens
abbrev pub spaced : List MadeToken → List ℕ
spaced [] = []
spaced (t ∷ []) = t.bytes
spaced (t ∷ u ∷ us) = t.bytes ++ 32 ∷ spaced (u ∷ us)

-- the expanded text: its tokens, and a line feed
abbrev pub expanded_text : TokenList → List ℕ
expanded_text l = spaced (expansion l.lexemes l.end) ++ 10 ∷ []
