-- Heads of procedures, sign by sign.
use Rattle.std.proofs.Common.{◌≡◌, ℕ, zero, suc, ◌+◌, ◌<◌, ◌≤◌, Bool, true, false, ◌&&◌, List, [], ◌∷◌, ◌++◌, length, drop, refl, sym, ap, ◌∙◌, arith}
use Rattle.std.specs.Prelude.{slice_index_or, slice_get, Some, None, not, nat_eq, if◌then◌else◌}
use Rattle.std.proofs.lemmas.List.{length-append}
use Rattle.std.proofs.Math.Seq.{get_or-append_seam}
use Rattle.std.proofs.Math.ListN.{get_or-append}
use Rattle.jade_lexer.specs.Lexemes.{TokenAt}
use Rattle.proc_expand.specs.declared.sign.Bracket.TheVariants.{Round, Square, Curly}
use Rattle.proc_expand.specs.declared.sign.Sign.{Sign}
use Rattle.proc_expand.specs.declared.sign.Sign.TheVariants.{Proc, Main, Else, Kind, ItemWord, Called, Opens, Closes, Semicolon, Comma, Other}
use Rattle.proc_expand.specs.declared.sign.End.{End}
use Rattle.proc_expand.specs.declared.sign.End.TheVariants.{Closed, Wrong, Never}
use Rattle.proc_expand.specs.declared.procedures.Head.{Head}
use Rattle.proc_expand.specs.Words.{at, bytes_at, is_kind, is_called, is_comma, opens_round, opens_curly, closing, fails_at, first}
use Rattle.proc_expand.specs.steps.Brackets.{AreEndsFrom, EndsWithin}
use Rattle.proc_expand.specs.steps.Looking.{tests}
use Rattle.proc_expand.specs.Refusals.{head, with_params, after_params, params_from, body_end, proc_fails}
use Rattle.proc_expand.proofs.First.{drop_at, by_case, index_any, first_none, first_place, eq_true, eq_false}
use Rattle.proc_expand.proofs.Nested.{closed_in, wrong_in, known_end}

-- past the end there is no sign
pub past_end : (ss : List Sign) (k : ℕ) → length ss ≤ k → at ss k ≡ Other
past_end [] k h = refl
past_end (s ∷ ss) zero h = absurd (omega (arith, h))
past_end (s ∷ ss) (suc k) h = past_end ss k (omega (arith, h))

-- a sign that is known lies within
pub lies_within : (ss : List Sign) (k : ℕ) (is : Sign → Bool) → is Other ≡ false → is (at ss k) ≡ true → k < length ss
lies_within ss k is o h = by (λ p. absurd (let e = ap is (past_end ss k p) in cc))
  where
    by : ((length ss ≤ k) → ⊥) → k < length ss
    by f = omega (arith, f)

pub bytes_got : (ts : List TokenAt) (k : ℕ) (t : TokenAt) → slice_get ts k ≡ Some t → t.bytes ≡ bytes_at ts k
bytes_got [] k t h = absurd (cc)
bytes_got (u ∷ ts) zero t h = let e : u ≡ t = cc in ap (λ (v : TokenAt). v.bytes) (sym e)
bytes_got (u ∷ ts) (suc k) t h = bytes_got ts k t h

pub no_bytes : (ts : List TokenAt) (k : ℕ) → length ts ≤ k → [] ≡ bytes_at ts k
no_bytes [] k h = refl
no_bytes (u ∷ ts) zero h = absurd (omega (arith, h))
no_bytes (u ∷ ts) (suc k) h = no_bytes ts k (omega (arith, h))

-- ---- signs by their tests

pub kind_is : (s : Sign) → is_kind s ≡ true → s ≡ Kind
kind_is Proc h = absurd (cc)
kind_is Main h = absurd (cc)
kind_is Else h = absurd (cc)
kind_is Kind h = refl
kind_is ItemWord h = absurd (cc)
kind_is Called h = absurd (cc)
kind_is (Opens Round) h = absurd (cc)
kind_is (Opens Square) h = absurd (cc)
kind_is (Opens Curly) h = absurd (cc)
kind_is (Closes Round) h = absurd (cc)
kind_is (Closes Square) h = absurd (cc)
kind_is (Closes Curly) h = absurd (cc)
kind_is Semicolon h = absurd (cc)
kind_is Comma h = absurd (cc)
kind_is Other h = absurd (cc)

pub called_is : (s : Sign) → is_called s ≡ true → s ≡ Called
called_is Proc h = absurd (cc)
called_is Main h = absurd (cc)
called_is Else h = absurd (cc)
called_is Kind h = absurd (cc)
called_is ItemWord h = absurd (cc)
called_is Called h = refl
called_is (Opens Round) h = absurd (cc)
called_is (Opens Square) h = absurd (cc)
called_is (Opens Curly) h = absurd (cc)
called_is (Closes Round) h = absurd (cc)
called_is (Closes Square) h = absurd (cc)
called_is (Closes Curly) h = absurd (cc)
called_is Semicolon h = absurd (cc)
called_is Comma h = absurd (cc)
called_is Other h = absurd (cc)

pub comma_is : (s : Sign) → is_comma s ≡ true → s ≡ Comma
comma_is Proc h = absurd (cc)
comma_is Main h = absurd (cc)
comma_is Else h = absurd (cc)
comma_is Kind h = absurd (cc)
comma_is ItemWord h = absurd (cc)
comma_is Called h = absurd (cc)
comma_is (Opens Round) h = absurd (cc)
comma_is (Opens Square) h = absurd (cc)
comma_is (Opens Curly) h = absurd (cc)
comma_is (Closes Round) h = absurd (cc)
comma_is (Closes Square) h = absurd (cc)
comma_is (Closes Curly) h = absurd (cc)
comma_is Semicolon h = absurd (cc)
comma_is Comma h = refl
comma_is Other h = absurd (cc)

pub opens_is : (s : Sign) → opens_round s ≡ true → s ≡ Opens Round
opens_is Proc h = absurd (cc)
opens_is Main h = absurd (cc)
opens_is Else h = absurd (cc)
opens_is Kind h = absurd (cc)
opens_is ItemWord h = absurd (cc)
opens_is Called h = absurd (cc)
opens_is (Opens Round) h = refl
opens_is (Opens Square) h = absurd (cc)
opens_is (Opens Curly) h = absurd (cc)
opens_is (Closes Round) h = absurd (cc)
opens_is (Closes Square) h = absurd (cc)
opens_is (Closes Curly) h = absurd (cc)
opens_is Semicolon h = absurd (cc)
opens_is Comma h = absurd (cc)
opens_is Other h = absurd (cc)

-- what the signs from a place on begin with
pub first_of : (ss : List Sign) (k : ℕ) → slice_index_or (drop k ss) 0 Other ≡ at ss k
first_of [] zero = refl
first_of [] (suc k) = refl
first_of (s ∷ ss) zero = refl
first_of (s ∷ ss) (suc k) = first_of ss k

pub starts : (ss : List Sign) (k : ℕ) (s : Sign) (is : Sign → Bool) → ((u : Sign) → is u ≡ true → u ≡ s) → is Other ≡ false → is (at ss k) ≡ true
    → drop k ss ≡ s ∷ drop (k + 1) ss
starts ss k s is one o h = drop_at ss k (lies_within ss k is o h) ∙ ap (λ u. u ∷ drop (k + 1) ss) (one (at ss k) h)

-- ---- heads

abbrev pub made : ℕ → Bool → ℕ → Head
made n f k = record { params = n; fits = f; stop = k }

none_more : (n : ℕ) → n ≡ n + 0
none_more n = omega arith

one_more : (n : ℕ) → n + 1 ≡ n + (1 + 0)
one_more n = omega arith

twice_more : (n : ℕ) (h : Head) → with_params (n + 1) h ≡ with_params n (with_params 1 h)
twice_more n h = let e : n + 1 + h.params ≡ n + (1 + h.params) = omega arith in ap (λ i. made i h.fits h.stop) e

pub ended : (n k : ℕ) (us : List Sign) → with_params (n + 1) (after_params (k + 3) us) ≡ with_params n (params_from k (Kind ∷ Called ∷ Closes Round ∷ us))
ended n k us = twice_more n (after_params (k + 3) us)

pub listed : (n k : ℕ) (us : List Sign) → with_params (n + 1) (params_from (k + 3) us) ≡ with_params n (params_from k (Kind ∷ Called ∷ Comma ∷ us))
listed n k us = twice_more n (params_from (k + 3) us)

-- ---- at places

module _ (ss : List Sign) (k : ℕ) where
  next : (k : ℕ) → k + 1 + 1 ≡ k + 2
  next k = omega arith

  next_two : (k : ℕ) → k + 2 + 1 ≡ k + 3
  next_two k = omega arith

  pub at_kind : is_kind (at ss k) ≡ true → drop k ss ≡ Kind ∷ drop (k + 1) ss
  at_kind h = starts ss k Kind is_kind kind_is refl h

  pub at_called : is_called (at ss (k + 1)) ≡ true → drop (k + 1) ss ≡ Called ∷ drop (k + 2) ss
  at_called h = starts ss (k + 1) Called is_called called_is refl h ∙ ap (λ i. Called ∷ drop i ss) (next k)

  pub at_comma : is_comma (at ss (k + 2)) ≡ true → drop (k + 2) ss ≡ Comma ∷ drop (k + 3) ss
  at_comma h = starts ss (k + 2) Comma is_comma comma_is refl h ∙ ap (λ i. Comma ∷ drop i ss) (next_two k)

  two : is_kind (at ss k) ≡ true → is_called (at ss (k + 1)) ≡ true → drop k ss ≡ Kind ∷ Called ∷ drop (k + 2) ss
  two g h = at_kind g ∙ ap (λ us. Kind ∷ us) (at_called h)

  pub place_listed : (n : ℕ) → is_kind (at ss k) ≡ true → is_called (at ss (k + 1)) ≡ true → is_comma (at ss (k + 2)) ≡ true
      → with_params (n + 1) (params_from (k + 3) (drop (k + 3) ss)) ≡ with_params n (params_from k (drop k ss))
  place_listed n f g h =
      listed n k (drop (k + 3) ss) ∙ ap (λ us. with_params n (params_from k us)) (sym (two f g ∙ ap (λ us. Kind ∷ Called ∷ us) (at_comma h)))

-- ---- the `{` of a head

pub curly_is : (s : Sign) → opens_curly s ≡ true → s ≡ Opens Curly
curly_is (Opens Curly) h = refl
curly_is Proc h = absurd (cc)
curly_is Main h = absurd (cc)
curly_is Else h = absurd (cc)
curly_is Kind h = absurd (cc)
curly_is ItemWord h = absurd (cc)
curly_is Called h = absurd (cc)
curly_is (Opens Round) h = absurd (cc)
curly_is (Opens Square) h = absurd (cc)
curly_is (Closes b) h = absurd (cc)
curly_is Semicolon h = absurd (cc)
curly_is Comma h = absurd (cc)
curly_is Other h = absurd (cc)

module _ (ss : List Sign) (es : List End) (k : ℕ) (known : AreEndsFrom ss es 0) (o : opens_curly (at ss k) ≡ true) where
  pub curly_within : k < length ss
  curly_within = lies_within ss k opens_curly refl o

  pub known_curly : slice_index_or es k (Closed 0) ≡ closing ss k
  known_curly =
      known_end ss es 0 k Curly known (omega arith) curly_within (index_any ss k Proc Other curly_within ∙ curly_is (at ss k) o)

  pub curly_ends : EndsWithin (length ss) (slice_index_or es k (Closed 0))
  curly_ends = record {
    closed = λ j f. (closed_in ss k j curly_within (sym known_curly ∙ f)).1;
    wrong = λ j f. wrong_in ss k j curly_within (sym known_curly ∙ f);
  }

-- ---- where procedures fail

pub not_so : (b : Bool) → not b ≡ true → b ≡ false
not_so true h = absurd (cc)
not_so false h = refl

pub so_then : (b : Bool) → not b ≡ false → b ≡ true
so_then true h = refl
so_then false h = absurd (cc)

pub fails_closed : (n j : ℕ) → None ≡ first (suc n) (fails_at n (Closed j))
fails_closed n j = sym (first_none (suc n) (fails_at n (Closed j)) (λ k l. refl))

pub fails_wrong : (n j : ℕ) → j < n → Some j ≡ first (suc n) (fails_at n (Wrong j))
fails_wrong n j l = sym (first_place j (suc n) (omega (arith, l)))

pub fails_never : (n : ℕ) → Some n ≡ first (suc n) (fails_at n Never)
fails_never n = sym (first_place n (suc n) (omega arith))

module _ (ss : List Sign) (p : ℕ) where
  abbrev pub failing : Bool → ℕ → Bool
  failing b k = b && proc_fails ss p k

  pub begins_none : (b : Bool) → b ≡ false → None ≡ first (suc (length ss)) (failing b)
  begins_none b h = sym (ap (λ t. first (suc (length ss)) (failing t)) h ∙ first_none (suc (length ss)) (failing false) (λ k l. refl))

  pub head_stops : (b : Bool) → b ≡ true → (h : Head) → h ≡ head ss p → h.fits ≡ false → h.stop ≤ length ss → Some h.stop ≡ first (suc (length ss)) (failing b)
  head_stops b t h is f l =
      sym (first_place h.stop (suc (length ss)) (omega (arith, l)))
      ∙ ap (λ (u : Bool). first (suc (length ss)) (λ k. if u then fails_at (length ss) (body_end ss p) k else nat_eq h.stop k)) (sym f)
      ∙ ap (λ (u : Head). first (suc (length ss)) (λ k. if u.fits then fails_at (length ss) (body_end ss p) k else nat_eq u.stop k)) is
      ∙ ap (λ u. first (suc (length ss)) (failing u)) (sym t)

  pub body_fails : (b : Bool) → b ≡ true → (h : Head) → h ≡ head ss p → h.fits ≡ true → (e : End) → e ≡ closing ss h.stop
      → first (suc (length ss)) (fails_at (length ss) e) ≡ first (suc (length ss)) (failing b)
  body_fails b t h is f e end =
      ap (λ u. first (suc (length ss)) (fails_at (length ss) u)) end
      ∙ ap (λ (u : Bool). first (suc (length ss)) (λ k. if u then fails_at (length ss) (if u then closing ss h.stop else Never) k else nat_eq h.stop k)) (sym f)
      ∙ ap (λ (u : Head). first (suc (length ss)) (λ k. if u.fits then fails_at (length ss) (if u.fits then closing ss u.stop else Never) k else nat_eq u.stop k)) is
      ∙ ap (λ u. first (suc (length ss)) (failing u)) (sym t)

-- a test by its place
pub length_tests : (n : ℕ) (is : ℕ → Bool) → length (tests n is) ≡ n
length_tests zero is = refl
length_tests (suc n) is = let a = length-append (tests n is) (is n ∷ []) in let l = length_tests n is in omega (arith, a, l)

pub test_at : (n k : ℕ) (is : ℕ → Bool) (d : Bool) → k < n → slice_index_or (tests n is) k d ≡ is k
test_at zero k is d l = absurd (omega (arith, l))
test_at (suc n) k is d l =
    by_case (nat_eq k n)
    (λ e. let here : k ≡ length (tests n is) = (let g = eq_true k n e in let m = length_tests n is in omega (arith, g, m)) in
    ap (λ i. slice_index_or (tests n is ++ is n ∷ []) i d) here ∙ get_or-append_seam (tests n is) (is n) [] d ∙ ap is (sym (eq_true k n e)))
    (λ e. let g = eq_false k n e in let m = length_tests n is in let less : k < n = omega (arith, l, g) in
    get_or-append (tests n is) (is n ∷ []) d k (omega (arith, less, m)) ∙ test_at n k is d less)
