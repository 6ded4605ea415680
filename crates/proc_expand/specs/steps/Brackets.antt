-- Where brackets are closed, as code finds it.
use Rattle.std.specs.Prelude.{◌≡◌, ℕ, ◌+◌, ◌<◌, ◌≤◌, Bool, true, false, List, length, Option, Some, None, slice_index_or}
use Rattle.proc_expand.specs.declared.sign.Sign.{Sign}
use Rattle.proc_expand.specs.declared.sign.Sign.TheVariants.{Opens, Closes}
use Rattle.proc_expand.specs.declared.sign.End.{End}
use Rattle.proc_expand.specs.declared.sign.End.TheVariants.{Closed, Wrong, Never}
use Rattle.proc_expand.specs.Words.{at, closing}

-- it opens brackets
abbrev pub opens : Sign → Bool
opens (Opens b) = true
opens _ = false

-- the place after the brackets that are closed so
abbrev pub after_end : End → Option ℕ
after_end (Closed j) = Some (j + 1)
after_end (Wrong j) = None
after_end Never = None

-- the place after a sign, or after the brackets that it opens, if these are closed; there is none after a closing bracket
abbrev pub after_sign : Sign → ℕ → End → Option ℕ
after_sign (Opens b) k e = after_end e
after_sign (Closes b) k e = None
after_sign _ k e = Some (k + 1)

abbrev pub next_place : List Sign → ℕ → Option ℕ
next_place ss k = after_sign (at ss k) k (closing ss k)

-- what is known of the brackets that open at a place or after it: where each is closed
pub record AreEndsFrom (ss : List Sign) (es : List End) (n : ℕ) : Type 0 where
  pub as_many : length es ≡ length ss
  pub closed : (k : ℕ) → n ≤ k → k < length ss → opens (at ss k) ≡ true → slice_index_or es k Never ≡ closing ss k

-- such an end lies within a text of n signs
pub record EndsWithin (n : ℕ) (e : End) : Type 0 where
  pub closed : (j : ℕ) → e ≡ Closed j → j < n
  pub wrong : (j : ℕ) → e ≡ Wrong j → j < n
