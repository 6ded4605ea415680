-- What a printer has written so far.
use Rattle.std.specs.Prelude.{◌≡◌, ℕ, Bool, false, List, [], ◌∷◌, ◌++◌}
use Rattle.jade_layout.specs.Spelling.{Token, Tokens}
use Rattle.jade_layout.specs.Layout.{gap, indent, is_sign, depth_after}
use Rattle.jade_layout.specs.declared.printer.Gap.{Gap}
use Rattle.jade_layout.specs.declared.printer.Gap.TheVariants.{Nothing, Space, Line}

-- the bytes of a gap
abbrev pub gap_bytes : Gap → List ℕ
gap_bytes Nothing = []
gap_bytes Space = 32 ∷ []
gap_bytes (Line depth) = 10 ∷ indent depth

-- the text, its last token, whether that is a unary operator, and how many blocks are open
pub record Printed : Type 0 where
  pub text : List ℕ
  pub last : Token
  pub sign : Bool
  pub depth : ℕ

-- nothing is written
abbrev pub blank : Printed
blank = record { text = []; last = []; sign = false; depth = 0 }

-- one more token
abbrev pub with_token : Printed → Token → Printed
with_token p t = record { text = p.text ++ gap p.last p.sign p.depth t ++ t; last = t; sign = is_sign p.last t; depth = depth_after p.depth t }

-- more tokens, one after another
abbrev pub with_tokens : Printed → Tokens → Printed
with_tokens p [] = p
with_tokens p (t ∷ ts) = with_tokens (with_token p t) ts

-- these tokens were laid out after what stood there
pub record Adds (before after : Printed) (ts : Tokens) : Type 0 where
  pub by : after ≡ with_tokens before ts
