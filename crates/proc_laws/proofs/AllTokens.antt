-- What is written for the tokens of a text is tokens.
use Rattle.std.proofs.Common.{◌≡◌, ℕ, zero, suc, ◌+◌, ◌*◌, ◌-◌, ◌<◌, ◌≤◌, Bool, true, false, ◌&&◌, List, [], ◌∷◌, ◌++◌, length, map, drop, codes, refl, ◌∙◌, arith}
use Rattle.std.specs.Prelude.{nat_eq, not, if◌then◌else◌}
use Rattle.std.specs.List.{list_all}
use Rattle.std.proofs.lemmas.Bool.{and_parts}
use Rattle.std.proofs.lemmas.List.{length-map, length-drop}
use Rattle.std.proofs.lemmas.List.Folds.{list_all-append}
use Rattle.jade_base.specs.declared.place.Pos.{Pos}
use Rattle.jade_lexer.specs.Alphabet.{is_token}
use Rattle.jade_lexer.specs.Cut.{Cut, nothing, blank, token}
use Rattle.jade_lexer.specs.Lexemes.{TokenAt}
use Rattle.jade_syntax.specs.Abstract.{Name}
use Rattle.jade_syntax.specs.Numbering.{same_name}
use Rattle.proc_expand.specs.declared.sign.Bracket.{Bracket}
use Rattle.proc_expand.specs.declared.sign.Bracket.TheVariants.{Round}
use Rattle.proc_expand.specs.declared.sign.Sign.{Sign}
use Rattle.proc_expand.specs.declared.sign.Sign.TheVariants.{Kind, Called, Opens, Closes, Comma}
use Rattle.proc_expand.specs.declared.sign.End.{End}
use Rattle.proc_expand.specs.declared.sign.End.TheVariants.{Closed, Wrong, Never}
use Rattle.proc_expand.specs.Words.{sign_of, signs, bytes_at, same_bracket, one_if, those, closed_by, closing_from, closing, end_place}
use Rattle.proc_expand.specs.Names.{is_among, place_among}
use Rattle.proc_expand.specs.Refusals.{begins, after_params, params_from, params_of, head_from, head, body_end, param_place, procedure, is_call, call_end, commas_from, commas, count}
use Rattle.proc_expand.specs.Written.{
  MadeToken,
  Written,
  CallWriter,
  fresh_name,
  text_names,
  items,
  replaced_at,
  replaced_by,
  is_variable,
  token_at,
  made_at,
  given_at,
  from,
  body_places,
  param_places,
  in_procedure,
  spans,
  arguments,
  write_one,
  write_places,
  write_call,
  and_writer,
  all_writers,
  no_writer,
  procedures,
  expansion,
}
use Rattle.proc_laws.proofs.FreshNames.{fresh_is_word}
use Rattle.proc_laws.proofs.ProgramTokens.{word_token}

-- ---- places before n

abbrev Below : ℕ → List ℕ → Type 0
Below n [] = Unit {0}
Below n (k ∷ ks) = (k < n) × Below n ks

abbrev AllBelow : ℕ → List (List ℕ) → Type 0
AllBelow n [] = Unit {0}
AllBelow n (ks ∷ more) = Below n ks × AllBelow n more

below_both : (n : ℕ) (xs ys : List ℕ) → Below n xs → Below n ys → Below n (xs ++ ys)
below_both n [] ys h g = g
below_both n (x ∷ xs) ys h g = (h.0, below_both n xs ys h.1 g)

those_below : (n k : ℕ) (is : ℕ → Bool) → k ≤ n → Below n (those k is)
those_below n zero is h = tt
those_below n (suc k) is h = below_both n (those k is) (one_if (is k) k) (those_below n k is (omega (arith, h))) (one (is k))
  where
    one : (b : Bool) → Below n (one_if b k)
    one true = (omega (arith, h), tt)
    one false = tt

-- ---- where brackets end

module _ (n : ℕ) where
  closed_up : (b : Bracket) (k : ℕ) (opened : List Bracket) (go : List Bracket → End) → k < n → ((more : List Bracket) → end_place n (go more) ≤ n)
      → end_place n (closed_by b k opened go) ≤ n
  closed_up b k [] go h g = omega (arith, h)
  closed_up b k (a ∷ []) go h g = by (same_bracket a b)
    where
      by : (t : Bool) → end_place n (if t then Closed k else Wrong k) ≤ n
      by true = omega (arith, h)
      by false = omega (arith, h)
  closed_up b k (a ∷ c ∷ opened) go h g = by (same_bracket a b)
    where
      by : (t : Bool) → end_place n (if t then go (c ∷ opened) else Wrong k) ≤ n
      by true = g (c ∷ opened)
      by false = omega (arith, h)

  end_up : (opened : List Bracket) (k : ℕ) (ss : List Sign) → (0 < length ss → k + length ss ≤ n) → end_place n (closing_from opened k ss) ≤ n
  end_up opened k [] h = omega arith
  end_up opened k (Opens b ∷ ss) h = let l = h (omega arith) in end_up (b ∷ opened) (k + 1) ss (λ g. omega (arith, l))
  end_up opened k (Closes b ∷ ss) h =
      let l = h (omega arith) in
      closed_up b k opened (λ more. closing_from more (k + 1) ss) (omega (arith, l)) (λ more. end_up more (k + 1) ss (λ g. omega (arith, l)))
  end_up opened k (s ∷ ss) h = let l = h (omega arith) in end_up opened (k + 1) ss (λ g. omega (arith, l))

  commas_below : (opened : List Bracket) (k : ℕ) (ss : List Sign) → (0 < length ss → k + length ss ≤ n) → Below n (commas_from opened k ss)
  commas_below opened k [] h = tt
  commas_below opened k (Opens b ∷ ss) h = let l = h (omega arith) in commas_below (b ∷ opened) (k + 1) ss (λ g. omega (arith, l))
  commas_below [] k (Closes b ∷ ss) h = tt
  commas_below (a ∷ opened) k (Closes b ∷ ss) h =
      let l = h (omega arith) in by (same_bracket a b) (commas_below opened (k + 1) ss (λ g. omega (arith, l)))
    where
      by : (t : Bool) → Below n (commas_from opened (k + 1) ss) → Below n (if t then commas_from opened (k + 1) ss else [])
      by true go = go
      by false go = tt
  commas_below [] k (Comma ∷ ss) h = let l = h (omega arith) in (omega (arith, l), commas_below [] (k + 1) ss (λ g. omega (arith, l)))
  commas_below [] k (s ∷ ss) h = let l = h (omega arith) in commas_below [] (k + 1) ss (λ g. omega (arith, l))
  commas_below (a ∷ opened) k (s ∷ ss) h = let l = h (omega arith) in commas_below (a ∷ opened) (k + 1) ss (λ g. omega (arith, l))

-- ---- parameters

none_after : (k : ℕ) (ss : List Sign) → (after_params k ss).params ≡ 0
none_after k (Opens b ∷ ss) = curly b
  where
    curly : (b : Bracket) → (after_params k (Opens b ∷ ss)).params ≡ 0
    curly Round = refl
    curly b = refl
none_after k ss = refl

params_few : (k : ℕ) (ss : List Sign) → 3 * (params_from k ss).params ≤ length ss + 1
params_few k (Kind ∷ Called ∷ Comma ∷ ss) = let l = params_few (k + 3) ss in omega (arith, l)
params_few k (Kind ∷ Called ∷ Closes Round ∷ ss) = let l = none_after (k + 3) ss in omega (arith, l)
params_few k (Kind ∷ Called ∷ ss) = omega arith
params_few k (Kind ∷ ss) = omega arith
params_few k ss = omega arith

few_of : (k : ℕ) (ss : List Sign) → 3 * (params_of k ss).params ≤ length ss + 1
few_of k (Closes Round ∷ ss) = let l = none_after (k + 1) ss in omega (arith, l)
few_of k ss = params_few k ss

head_few : (k : ℕ) (ss : List Sign) → 0 < (head_from k ss).params → 3 * (head_from k ss).params + 1 ≤ length ss
head_few k (Called ∷ Opens Round ∷ ss) h = let l = few_of (k + 2) ss in omega (arith, l)
head_few k (Called ∷ ss) h = absurd (omega (arith, h))
head_few k ss h = absurd (omega (arith, h))

param_within : (ss : List Sign) (p j : ℕ) → j < (head ss p).params → param_place p j < length ss
param_within ss p j h =
    let l = head_few (p + 1) (drop (p + 1) ss) (omega (arith, h)) in let d = length-drop (p + 1) ss in omega (arith, l, d, h)

-- ---- tokens

abbrev ok : List MadeToken → Bool
ok us = list_all (λ (t : MadeToken). is_token t.bytes) us

ok_both : (us vs : List MadeToken) → ok us ≡ true → ok vs ≡ true → ok (us ++ vs) ≡ true
ok_both us vs h g = list_all-append (λ (t : MadeToken). is_token t.bytes) us vs ∙ (λ i. h i && g i)

record Good (to : Name → Name) : Type 0 where
  word : (x : Name) → is_token x ≡ true → is_token (to x) ≡ true

token_there : (ts : List TokenAt) → list_all (λ (t : TokenAt). is_token t.bytes) ts ≡ true → (k : ℕ) → k < length ts → is_token (bytes_at ts k) ≡ true
token_there [] h k l = absurd (omega (arith, l))
token_there (t ∷ ts) h zero l = (and_parts (is_token t.bytes) (list_all (λ (t : TokenAt). is_token t.bytes) ts) h).0
token_there (t ∷ ts) h (suc k) l =
    token_there ts (and_parts (is_token t.bytes) (list_all (λ (t : TokenAt). is_token t.bytes) ts) h).1 k (omega (arith, l))

module _ (ts : List TokenAt) (end : Pos) where
  as_many : length (signs ts) ≡ length ts
  as_many = length-map ts (λ (t : TokenAt). sign_of t.bytes)

  from_below : (n k m : ℕ) → (0 < m → k + m ≤ n) → Below n (from ts end k m)
  from_below n k zero h = tt
  from_below n k (suc m) h = let l = h (omega arith) in (omega (arith, l), from_below n (suc k) m (λ g. omega (arith, l)))

  spans_below : (n first : ℕ) (cs : List ℕ) (last : ℕ) → Below n cs → last ≤ n → AllBelow n (spans ts end first cs last)
  spans_below n first [] last h l = (from_below n first (last - first) (λ g. omega (arith, g, l)), tt)
  spans_below n first (c ∷ cs) last h l =
      let u = h.0 in (from_below n first (c - first) (λ g. omega (arith, g, u)), spans_below n (suc c) cs last h.1 l)

  closing_up : (k : ℕ) → end_place (length ts) (closing (signs ts) k) ≤ length ts
  closing_up k = let d = length-drop k (signs ts) in let m = as_many in end_up (length ts) [] k (drop k (signs ts)) (λ g. omega (arith, d, m, g))

  body_up : (p : ℕ) → end_place (length ts) (body_end (signs ts) p) ≤ length ts
  body_up p = by (head (signs ts) p).fits
    where
      by : (b : Bool) → end_place (length ts) (if b then closing (signs ts) (head (signs ts) p).stop else Never) ≤ length ts
      by true = closing_up (head (signs ts) p).stop
      by false = omega arith

  arguments_below : (k : ℕ) → AllBelow (length ts) (arguments ts end k)
  arguments_below k = by (nat_eq (count (signs ts) k) 0)
    where
      listed : Below (length ts) (commas (signs ts) k)
      listed =
          let d = length-drop (k + 2) (signs ts) in let m = as_many in
          commas_below (length ts) [] (k + 2) (drop (k + 2) (signs ts)) (λ g. omega (arith, d, m, g))

      by : (b : Bool) → AllBelow (length ts) (if b then [] else spans ts end (k + 2) (commas (signs ts) k) (end_place (length ts) (call_end (signs ts) k)))
      by true = tt
      by false = spans_below (length ts) (k + 2) (commas (signs ts) k) (end_place (length ts) (call_end (signs ts) k)) listed (closing_up (k + 1))

  params_below : (p : ℕ) → Below (length ts) (param_places ts end (procedure (signs ts) p))
  params_below p = go 0 (head (signs ts) p).params (λ j h. omega (arith, h))
    where
      within : (j : ℕ) → j < (head (signs ts) p).params → param_place p j < length ts
      within j h = let l = param_within (signs ts) p j h in let m = as_many in omega (arith, l, m)

      go : (i m : ℕ) → ((j : ℕ) → j < i + m → j < (head (signs ts) p).params) → Below (length ts) (map (param_place p) (from ts end i m))
      go i zero h = tt
      go i (suc m) h = (within i (h i (omega arith)), go (suc i) m (λ j l. h j (omega (arith, l))))

  body_below : (p : ℕ) → Below (length ts) (body_places ts end (procedure (signs ts) p))
  body_below p =
      let u = body_up p in
      from_below (length ts) (suc (head (signs ts) p).stop) (end_place (length ts) (body_end (signs ts) p) - suc (head (signs ts) p).stop) (λ g. omega (arith, g, u))

  module _ (all : list_all (λ (t : TokenAt). is_token t.bytes) ts ≡ true) where
    there : (k : ℕ) → k < length ts → is_token (bytes_at ts k) ≡ true
    there k l = token_there ts all k l

    one_ok : (to : Name → Name) → Good to → (k : ℕ) → k < length ts → is_token (token_at ts end to k).bytes ≡ true
    one_ok to good k l = by (is_variable ts end k)
      where
        by : (b : Bool) → is_token (if b then to (bytes_at ts k) else bytes_at ts k) ≡ true
        by true = good.word (bytes_at ts k) (there k l)
        by false = there k l

    places_ok : (to : Name → Name) → Good to → (ks : List ℕ) → Below (length ts) ks → ok (map (token_at ts end to) ks) ≡ true
    places_ok to good [] h = refl
    places_ok to good (k ∷ ks) h = λ i. one_ok to good k h.0 i && places_ok to good ks h.1 i

    arguments_ok : (to : Name → Name) → Good to → (kss : List (List ℕ)) → AllBelow (length ts) kss
        → list_all ok (map (λ ks. map (token_at ts end to) ks) kss) ≡ true
    arguments_ok to good [] h = refl
    arguments_ok to good (ks ∷ kss) h = λ i. places_ok to good ks h.0 i && arguments_ok to good kss h.1 i

    given_ok : (to : Name → Name) → Good to → (k : ℕ) (params : List ℕ) (args : List (List MadeToken)) → Below (length ts) params → list_all ok args ≡ true
        → ok (given_at ts end k to params args) ≡ true
    given_ok to good k [] args h g = refl
    given_ok to good k (j ∷ params) [] h g = refl
    given_ok to good k (j ∷ params) (a ∷ args) h g =
        let l = h.0 in
        let p = and_parts (ok a) (list_all ok args) g in
        let more = ok_both a (made_at ts end k (codes ";") ∷ given_at ts end k to params args) p.0 (given_ok to good k params args h.1 p.1) in
        λ i. there (j - 1) (omega (arith, l)) i && (good.word (bytes_at ts j) (there j l) i && more i)

    -- what writes calls writes tokens
    record Calls (calls : CallWriter ts end) : Type 0 where
      write : (k : ℕ) (args : List (List MadeToken)) (n : ℕ) → list_all ok args ≡ true → ok (calls k args n).tokens ≡ true

    module _ (calls : CallWriter ts end) (good_calls : Calls calls) where
      written_ok : (to : Name → Name) → Good to → (b : Bool) (k n : ℕ) (after rest : ℕ → Written) → k < length ts
          → ((m : ℕ) → ok (after m).tokens ≡ true) → ((m : ℕ) → ok (rest m).tokens ≡ true) → ok (write_one ts end b calls to k n after rest).tokens ≡ true
      written_ok to good true k n after rest l f g =
          let args = map (λ ks. map (token_at ts end to) ks) (arguments ts end k) in
          ok_both (calls k args n).tokens (after (calls k args n).next).tokens
          (good_calls.write k args n (arguments_ok to good (arguments ts end k) (arguments_below k))) (f (calls k args n).next)
      written_ok to good false k n after rest l f g = λ i. one_ok to good k l i && g n i

      all_ok : (to : Name → Name) → Good to → (passed : ℕ) (ks : List ℕ) (n : ℕ) → Below (length ts) ks
          → ok (write_places ts end calls to passed ks n).tokens ≡ true
      all_ok to good passed [] n h = refl
      all_ok to good (suc passed) (k ∷ ks) n h = all_ok to good passed ks n h.1
      all_ok to good zero (k ∷ ks) n h =
          written_ok to good (is_call (signs ts) k) k n
          (λ m. write_places ts end calls to (suc (end_place (length ts) (call_end (signs ts) k) - k)) ks m) (write_places ts end calls to zero ks) h.0
          (λ m. all_ok to good (suc (end_place (length ts) (call_end (signs ts) k) - k)) ks m h.1) (λ m. all_ok to good zero ks m h.1)

      good_replaced : (names : List Name) (n : ℕ) → Good (replaced_by ts end names n)
      good_replaced names n = record { word = λ x h. by x h (is_among (items ts end) x) }
        where
          by : (x : Name) → is_token x ≡ true → (b : Bool) → is_token (if b then x else fresh_name (text_names ts end) (n + place_among names x)) ≡ true
          by x h true = h
          by x h false =
              word_token (fresh_name (text_names ts end) (n + place_among names x)) (fresh_is_word (text_names ts end) (n + place_among names x))

      -- a procedure more
      call_ok : (p k : ℕ) (args : List (List MadeToken)) (n : ℕ) → list_all ok args ≡ true
          → ok (write_call ts end calls (procedure (signs ts) p) k args n).tokens ≡ true
      call_ok p k args n h =
          let names = replaced_at ts end (procedure (signs ts) p) in
          let to = replaced_by ts end names n in
          let b = write_places ts end calls to 0 (body_places ts end (procedure (signs ts) p)) (n + length names) in
          let given = given_at ts end k to (param_places ts end (procedure (signs ts) p)) args in
          ok_both (given ++ b.tokens) (made_at ts end k (codes "}") ∷ [])
          (ok_both given b.tokens (given_ok to (good_replaced names n) k (param_places ts end (procedure (signs ts) p)) args (params_below p) h)
          (all_ok to (good_replaced names n) 0 (body_places ts end (procedure (signs ts) p)) (n + length names) (body_below p))) refl

      and_good : (p : ℕ) → Calls (and_writer ts end calls (procedure (signs ts) p))
      and_good p = record { write = λ k args n h. by k args n h (same_name (bytes_at ts k) (bytes_at ts (p + 1))) }
        where
          by : (k : ℕ) (args : List (List MadeToken)) (n : ℕ) → list_all ok args ≡ true → (b : Bool)
              → ok (if b then write_call ts end calls (procedure (signs ts) p) k args n else calls k args n).tokens ≡ true
          by k args n h true = call_ok p k args n h
          by k args n h false = good_calls.write k args n h

    writers_good : (calls : CallWriter ts end) → Calls calls → (ps : List ℕ) → Calls (all_writers ts end calls (map (procedure (signs ts)) ps))
    writers_good calls good [] = good
    writers_good calls good (p ∷ ps) = writers_good (and_writer ts end calls (procedure (signs ts) p)) (and_good calls good p) ps

    pub expansion_ok : list_all (λ (t : MadeToken). is_token t.bytes) (expansion ts end) ≡ true
    expansion_ok =
        all_ok (all_writers ts end (no_writer ts end) (procedures ts end))
        (writers_good (no_writer ts end) (record { write = λ k args n h. refl }) (those (length ts) (begins (signs ts))))
        (λ x. x) (record { word = λ x h. h }) 0 (those (length ts) (λ k. not (in_procedure ts end k))) 0
        (those_below (length ts) (length ts) (λ k. not (in_procedure ts end k)) (omega arith))

-- ---- the tokens of a text

pub cut_ok : (end : Pos) (spot : _) (bytes : List ℕ) (ts : List TokenAt) → Cut end spot bytes ts → list_all (λ (t : TokenAt). is_token t.bytes) ts ≡ true
cut_ok end spot [] [] (nothing is) = refl
cut_ok end spot bytes ts (blank front after is is_blank rest) = cut_ok end _ after ts rest
cut_ok end spot bytes (t ∷ ts) (token after is start pos first sound rest) = λ i. first.a_token i && cut_ok end _ after ts rest i
