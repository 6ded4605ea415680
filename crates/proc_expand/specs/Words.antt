-- What the tokens of a text are to procedures and calls, and where they stand. A place is the number of a token, counted from 0; the
-- place of the end is the number of tokens.
use Rattle.std.specs.Prelude.{ℕ, zero, suc, ◌+◌, ◌-◌, Bool, true, false, ◌||◌, nat_eq, nat_lt, List, [], ◌∷◌, ◌++◌, map, drop, codes}
use Rattle.std.specs.Prelude.{Option, Some, None, slice_index_or, if◌then◌else◌}
use Rattle.std.specs.List.{list_any}
use Rattle.jade_lexer.specs.Lexemes.{TokenAt}
use Rattle.jade_syntax.specs.Names.{is_name}
use Rattle.jade_syntax.specs.Numbering.{same_name}
use Rattle.proc_expand.specs.declared.sign.Bracket.{Bracket}
use Rattle.proc_expand.specs.declared.sign.Bracket.TheVariants.{Round, Square, Curly}
use Rattle.proc_expand.specs.declared.sign.Sign.{Sign}
use Rattle.proc_expand.specs.declared.sign.Sign.TheVariants.{
  Proc,
  Main,
  Else,
  Kind,
  ItemWord,
  Called,
  Opens,
  Closes,
  Semicolon,
  Comma,
  Other,
}
use Rattle.proc_expand.specs.declared.sign.End.{End}
use Rattle.proc_expand.specs.declared.sign.End.TheVariants.{Closed, Wrong, Never}

-- ---- signs

-- what some bytes are that are no bracket, `;` or `,`
abbrev pub word_of : List ℕ → Sign
word_of bytes =
    if same_name bytes (codes "proc") then Proc
    else (if same_name bytes (codes "main") then Main
    else (if same_name bytes (codes "else") then Else
    else (if same_name bytes (codes "int") || same_name bytes (codes "bool") then Kind
    else (if same_name bytes (codes "input") || same_name bytes (codes "object") || same_name bytes (codes "objects") then ItemWord
    else (if is_name bytes then Called else Other)))))

-- what some bytes are
abbrev pub sign_of : List ℕ → Sign
sign_of bytes =
    if same_name bytes (codes ";") then Semicolon
    else (if same_name bytes (codes ",") then Comma
    else (if same_name bytes (codes "(") then Opens Round
    else (if same_name bytes (codes ")") then Closes Round
    else (if same_name bytes (codes "[") then Opens Square
    else (if same_name bytes (codes "]") then Closes Square
    else (if same_name bytes (codes "{") then Opens Curly
    else (if same_name bytes (codes "}") then Closes Curly
    else word_of bytes)))))))

-- what the tokens of a text are
abbrev pub signs : List TokenAt → List Sign
signs ts = map (λ (t : TokenAt). sign_of t.bytes) ts

-- a text has a token `proc`
abbrev pub has_proc : List TokenAt → Bool
has_proc ts = list_any (λ (t : TokenAt). same_name t.bytes (codes "proc")) ts

abbrev pub is_proc : Sign → Bool
is_proc Proc = true
is_proc _ = false

abbrev pub is_main : Sign → Bool
is_main Main = true
is_main _ = false

abbrev pub is_else : Sign → Bool
is_else Else = true
is_else _ = false

abbrev pub is_kind : Sign → Bool
is_kind Kind = true
is_kind _ = false

abbrev pub is_item_word : Sign → Bool
is_item_word ItemWord = true
is_item_word _ = false

abbrev pub is_semicolon : Sign → Bool
is_semicolon Semicolon = true
is_semicolon _ = false

abbrev pub is_comma : Sign → Bool
is_comma Comma = true
is_comma _ = false

abbrev pub is_called : Sign → Bool
is_called Called = true
is_called _ = false

abbrev pub opens_round : Sign → Bool
opens_round (Opens Round) = true
opens_round _ = false

abbrev pub closes_round : Sign → Bool
closes_round (Closes Round) = true
closes_round _ = false

abbrev pub opens_curly : Sign → Bool
opens_curly (Opens Curly) = true
opens_curly _ = false

-- a statement may stand after it
abbrev pub ends_statement : Sign → Bool
ends_statement Semicolon = true
ends_statement (Opens Curly) = true
ends_statement (Closes Curly) = true
ends_statement _ = false

-- an item may stand after it
abbrev pub ends_item : Sign → Bool
ends_item Semicolon = true
ends_item (Closes Curly) = true
ends_item _ = false

abbrev pub same_bracket : Bracket → Bracket → Bool
same_bracket Round Round = true
same_bracket Square Square = true
same_bracket Curly Curly = true
same_bracket _ _ = false

-- the sign at a place; past the end it is `Other`
abbrev pub at : List Sign → ℕ → Sign
at ss k = slice_index_or ss k Other

-- the sign directly before a place; before the first it is `Other`
abbrev pub before : List Sign → ℕ → Sign
before ss zero = Other
before ss (suc k) = at ss k

-- the bytes of the token at a place; past the end there are none
abbrev pub bytes_at : List TokenAt → ℕ → List ℕ
bytes_at [] k = []
bytes_at (t ∷ ts) zero = t.bytes
bytes_at (t ∷ ts) (suc k) = bytes_at ts k

-- ---- places

-- this place alone if so, else no place
abbrev pub one_if : Bool → ℕ → List ℕ
one_if true k = k ∷ []
one_if false k = []

-- the places before n with some property
abbrev pub those : (n : ℕ) → (ℕ → Bool) → List ℕ
those zero is = []
those (suc k) is = those k is ++ one_if (is k) k

-- some place before n has it
abbrev pub some : (n : ℕ) → (ℕ → Bool) → Bool
some zero is = false
some (suc k) is = some k is || is k

-- the place that was found, or else this one if it has the property
abbrev pub or_here : Option ℕ → Bool → ℕ → Option ℕ
or_here (Some j) here k = Some j
or_here None true k = Some k
or_here None false k = None

-- the first of the places before n with some property
abbrev pub first : (n : ℕ) → (ℕ → Bool) → Option ℕ
first zero is = None
first (suc k) is = or_here (first k is) (is k) k

-- ---- brackets

-- how many are open after a sign: a closing one lowers it, and at 0 changes nothing
abbrev pub open_after : Sign → ℕ → ℕ
open_after (Opens b) d = suc d
open_after (Closes b) d = d - 1
open_after _ d = d

-- how many brackets are open before a place
abbrev pub open_before : List Sign → ℕ → ℕ
open_before ss zero = 0
open_before ss (suc k) = open_after (at ss k) (open_before ss k)

-- what a closing bracket at a place comes to, where these are open, the newest first: it goes wrong if none is open or the newest is of another
-- kind; it closes the only one that is open; and if more are open, these are closed, or go wrong, further on
abbrev pub closed_by : Bracket → ℕ → List Bracket → (List Bracket → End) → End
closed_by b k [] go = Wrong k
closed_by b k (a ∷ []) go = if same_bracket a b then Closed k else Wrong k
closed_by b k (a ∷ c ∷ opened) go = if same_bracket a b then go (c ∷ opened) else Wrong k

-- where all of these open brackets, the newest first, are closed, each by its own kind, in the signs from a place on; if none is open, where the
-- next that opens is closed. Or the first place at which a closing bracket is not of the kind of what it would close, or closes nothing; never, if
-- the text ends before
abbrev pub closing_from : List Bracket → ℕ → List Sign → End
closing_from opened k [] = Never
closing_from opened k (Opens b ∷ ss) = closing_from (b ∷ opened) (k + 1) ss
closing_from opened k (Closes b ∷ ss) = closed_by b k opened (λ more. closing_from more (k + 1) ss)
closing_from opened k (s ∷ ss) = closing_from opened (k + 1) ss

-- where the bracket that opens at a place is closed
abbrev pub closing : List Sign → ℕ → End
closing ss k = closing_from [] k (drop k ss)

-- it is closed by its own kind
abbrev pub is_closed : End → Bool
is_closed (Closed j) = true
is_closed (Wrong j) = false
is_closed Never = false

-- this is the place so far after where it is closed
abbrev pub is_after : ℕ → End → ℕ → Bool
is_after n (Closed j) k = nat_eq (j + n) k
is_after n (Wrong j) k = false
is_after n Never k = false

-- it is closed before this place
abbrev pub closes_before : End → ℕ → Bool
closes_before (Closed j) k = nat_lt j k
closes_before (Wrong j) k = false
closes_before Never k = false

-- its brackets go wrong at this place; the end is n
abbrev pub fails_at : ℕ → End → ℕ → Bool
fails_at n (Closed j) k = false
fails_at n (Wrong j) k = nat_eq j k
fails_at n Never k = nat_eq n k

-- where it ends, well or not; the end of the text is n
abbrev pub end_place : ℕ → End → ℕ
end_place n (Closed j) = j
end_place n (Wrong j) = j
end_place n Never = n
