-- Where the procedures and calls of a text are refused. Each reason is told at each place by itself; the first place with a reason is answered.
use Rattle.std.specs.Prelude.{ℕ, zero, suc, ◌+◌, ◌*◌, Bool, true, false, not, ◌&&◌, ◌||◌, nat_eq, nat_lt, List, [], ◌∷◌, drop, length}
use Rattle.std.specs.Prelude.{Option, Some, None, if◌then◌else◌}
use Rattle.std.specs.List.{list_any}
use Rattle.jade_lexer.specs.Lexemes.{TokenAt}
use Rattle.jade_syntax.specs.Abstract.{Name}
use Rattle.jade_syntax.specs.Numbering.{same_name}
use Rattle.proc_expand.specs.declared.sign.Bracket.{Bracket}
use Rattle.proc_expand.specs.declared.sign.Bracket.TheVariants.{Round, Curly}
use Rattle.proc_expand.specs.declared.sign.Sign.{Sign}
use Rattle.proc_expand.specs.declared.sign.Sign.TheVariants.{Kind, Called, Opens, Closes, Comma}
use Rattle.proc_expand.specs.declared.sign.End.{End}
use Rattle.proc_expand.specs.declared.sign.End.TheVariants.{Never}
use Rattle.proc_expand.specs.declared.procedures.Head.{Head}
use Rattle.proc_expand.specs.declared.procedures.Procedure.{Procedure}
use Rattle.proc_expand.specs.declared.refusal.Reason.{Reason}
use Rattle.proc_expand.specs.declared.refusal.Reason.TheVariants.{Shape, Unknown, Count, Twice}
use Rattle.proc_expand.specs.declared.refusal.Refusal.{Refusal}
use Rattle.proc_expand.specs.Words.{signs, is_proc, is_main, is_else, is_semicolon, is_comma, is_called, opens_round, ends_statement, ends_item}
use Rattle.proc_expand.specs.Words.{same_bracket, at, before, bytes_at, some, first, open_before, closing}
use Rattle.proc_expand.specs.Words.{is_closed, is_after, closes_before, fails_at, end_place}

-- ---- procedures

-- a `main` outside of brackets
abbrev pub is_outer_main : List Sign → ℕ → Bool
is_outer_main ss k = is_main (at ss k) && nat_eq (open_before ss k) 0

-- a `proc` begins a procedure: in no bracket, after no `main` outside of brackets, at the text's first place or directly after a `;` or a `}`
abbrev pub begins : List Sign → ℕ → Bool
begins ss k =
    nat_eq (open_before ss k) 0 && not (some k (is_outer_main ss)) && (is_proc (at ss k) && (nat_eq k 0 || ends_item (before ss k)))

-- so many parameters more in front
abbrev pub with_params : ℕ → Head → Head
with_params n h = record { params = n + h.params; fits = h.fits; stop = h.stop }

-- the head stops to fit at a place
abbrev pub misfit : ℕ → Head
misfit k = record { params = 0; fits = false; stop = k }

-- after the `)`
abbrev pub after_params : ℕ → List Sign → Head
after_params k (Opens Curly ∷ ss) = record { params = 0; fits = true; stop = k }
after_params k _ = misfit k

-- from a parameter on: its kind, its name, and a `,` or a `)`
abbrev pub params_from : ℕ → List Sign → Head
params_from k (Kind ∷ Called ∷ Comma ∷ ss) = with_params 1 (params_from (k + 3) ss)
params_from k (Kind ∷ Called ∷ Closes Round ∷ ss) = with_params 1 (after_params (k + 3) ss)
params_from k (Kind ∷ Called ∷ ss) = with_params 1 (misfit (k + 2))
params_from k (Kind ∷ ss) = misfit (k + 1)
params_from k _ = misfit k

-- after the `(`
abbrev pub params_of : ℕ → List Sign → Head
params_of k (Closes Round ∷ ss) = after_params (k + 1) ss
params_of k ss = params_from k ss

-- after the `proc`
abbrev pub head_from : ℕ → List Sign → Head
head_from k (Called ∷ Opens Round ∷ ss) = params_of (k + 2) ss
head_from k (Called ∷ ss) = misfit (k + 1)
head_from k _ = misfit k

-- the head of the procedure that begins at a place: how many parameters of it fit, whether all of it fits, and the place of its `{`, or of the
-- first token that does not fit
abbrev pub head : List Sign → ℕ → Head
head ss p = head_from (p + 1) (drop (p + 1) ss)

-- where the name of a parameter stands, which its kind stands before
abbrev pub param_place : (p i : ℕ) → ℕ
param_place p i = p + 4 + 3 * i

-- where the body of a procedure ends; never, if its head does not fit
abbrev pub body_end : List Sign → ℕ → End
body_end ss p = if (head ss p).fits then closing ss (head ss p).stop else Never

-- the procedure that begins at a place
abbrev pub procedure : List Sign → ℕ → Procedure
procedure ss p = record { place = p; head = head ss p; end = body_end ss p }

-- ---- calls

-- a name directly before a `(` and not directly after a `proc`
abbrev pub is_call : List Sign → ℕ → Bool
is_call ss k = is_called (at ss k) && opens_round (at ss (k + 1)) && not (is_proc (before ss k))

-- where the `(` of a call is closed
abbrev pub call_end : List Sign → ℕ → End
call_end ss c = closing ss (c + 1)

-- the places of the commas directly within brackets, where these are open within them, up to where they are closed, well or not, or the text ends
abbrev pub commas_from : List Bracket → ℕ → List Sign → List ℕ
commas_from opened k [] = []
commas_from opened k (Opens b ∷ ss) = commas_from (b ∷ opened) (k + 1) ss
commas_from [] k (Closes b ∷ ss) = []
commas_from (a ∷ opened) k (Closes b ∷ ss) = if same_bracket a b then commas_from opened (k + 1) ss else []
commas_from [] k (Comma ∷ ss) = k ∷ commas_from [] (k + 1) ss
commas_from opened k (s ∷ ss) = commas_from opened (k + 1) ss

-- those between the arguments of the call at c
abbrev pub commas : List Sign → (c : ℕ) → List ℕ
commas ss c = commas_from [] (c + 2) (drop (c + 2) ss)

-- how many arguments a call has whose brackets are closed
abbrev pub count : List Sign → ℕ → ℕ
count ss c = if is_after 0 (call_end ss c) (c + 2) then 0 else suc (length (commas ss c))

-- ---- the places of `Shape`

-- a token of the head of the procedure at p, or the end, that does not fit; a closing bracket in its body that is of the wrong kind, or the end
-- where the body is not closed
abbrev pub proc_fails : List Sign → (p k : ℕ) → Bool
proc_fails ss p k = if (head ss p).fits then fails_at (length ss) (body_end ss p) k else nat_eq (head ss p).stop k

-- the name of a call that does not follow `;`, `{` or `}`
abbrev pub misplaced : List Sign → ℕ → Bool
misplaced ss k = is_call ss k && not (ends_statement (before ss k))

-- a `;` within the brackets of a call before it, up to where these are closed or go wrong
abbrev pub within : List Sign → ℕ → Bool
within ss k = is_semicolon (at ss k) && some k (λ c. is_call ss c && nat_lt k (end_place (length ss) (call_end ss c)))

-- a comma of the call at c that ends an empty argument
abbrev pub ends_empty : List Sign → (c k : ℕ) → Bool
ends_empty ss c k = list_any (nat_eq k) (commas ss c) && (nat_eq k (c + 2) || is_comma (before ss k))

-- where a call ends so: its `)`, if that ends an empty argument; the place after that, where no `;` is; the place after the `;`, where an `else`
-- is; where its brackets go wrong
abbrev pub ending_fails : List Sign → End → ℕ → Bool
ending_fails ss e k =
    (is_after 0 e k && is_comma (before ss k))
    || ((is_after 1 e k && not (is_semicolon (at ss k)))
    || ((is_after 2 e k && (is_semicolon (before ss k) && is_else (at ss k))) || fails_at (length ss) e k))

abbrev pub call_fails : List Sign → (c k : ℕ) → Bool
call_fails ss c k = ends_empty ss c k || ending_fails ss (call_end ss c) k

abbrev pub is_shape : List Sign → ℕ → Bool
is_shape ss k =
    some (length ss) (λ p. begins ss p && proc_fails ss p k)
    || (misplaced ss k || (within ss k || some (length ss) (λ c. is_call ss c && call_fails ss c k)))

-- ---- the other reasons

-- the procedure at p has this name
abbrev pub is_named : List TokenAt → Name → ℕ → Bool
is_named ts x p = begins (signs ts) p && is_called (at (signs ts) (p + 1)) && same_name x (bytes_at ts (p + 1))

-- a procedure that may be there, if its body is closed before a place
abbrev pub if_before : List Sign → ℕ → Option ℕ → Option ℕ
if_before ss k None = None
if_before ss k (Some p) = if closes_before (body_end ss p) k then Some p else None

-- the procedure that a call means: the first of its name, if its body is closed before the call
abbrev pub meant : List TokenAt → ℕ → Option ℕ
meant ts k = if_before (signs ts) k (first (length ts) (is_named ts (bytes_at ts k)))

-- no place is there
abbrev pub is_none : Option ℕ → Bool
is_none None = true
is_none (Some p) = false

-- a called name that means no procedure before
abbrev pub is_unknown : List TokenAt → ℕ → Bool
is_unknown ts k = is_call (signs ts) k && is_none (meant ts k)

-- the procedure that is meant, if there is one, has another number of parameters than the call has arguments
abbrev pub counts_other : List Sign → ℕ → Option ℕ → Bool
counts_other ss k None = false
counts_other ss k (Some p) = not (nat_eq (count ss k) (head ss p).params)

-- a call whose brackets are closed, with another number of arguments than of parameters
abbrev pub is_count : List TokenAt → ℕ → Bool
is_count ts k = is_call (signs ts) k && is_closed (call_end (signs ts) k) && counts_other (signs ts) k (meant ts k)

-- one of the first n parameters of the procedure at p stands at this place, and has the name of one before it
abbrev pub repeats_param : List TokenAt → (p n k : ℕ) → Bool
repeats_param ts p n k =
    some n (λ i. nat_eq (param_place p i) k && some i (λ j. same_name (bytes_at ts k) (bytes_at ts (param_place p j))))

-- the name of the procedure at p stands at this place, and is that of one before it
abbrev pub repeats_name : List TokenAt → (p k : ℕ) → Bool
repeats_name ts p k = nat_eq (p + 1) k && is_called (at (signs ts) k) && some p (is_named ts (bytes_at ts k))

abbrev pub is_twice : List TokenAt → ℕ → Bool
is_twice ts k =
    some (length ts) (λ p. begins (signs ts) p && (repeats_name ts p k || repeats_param ts p (head (signs ts) p).params k))

-- ---- the refusal

-- the reason at a place
abbrev pub reason : List TokenAt → ℕ → Option Reason
reason ts k =
    if is_shape (signs ts) k then Some Shape else (if is_unknown ts k then Some Unknown else (if is_count ts k then Some Count
    else (if is_twice ts k then Some Twice else None)))

-- the refusal that was found, or else one at this place if it has a reason
abbrev pub or_reason : Option Refusal → Option Reason → ℕ → Option Refusal
or_reason (Some r) why k = Some r
or_reason None (Some why) k = Some (record { why = why; place = k })
or_reason None None k = None

-- the first place before n with a reason
abbrev pub first_reason : (n : ℕ) → (ℕ → Option Reason) → Option Refusal
first_reason zero why = None
first_reason (suc k) why = or_reason (first_reason k why) (why k) k

-- the refusal of a text, if there is one
abbrev pub refusal : List TokenAt → Option Refusal
refusal ts = first_reason (suc (length ts)) (reason ts)
