-- Procedures stand apart: where a bracket is open nothing begins, and a head has no `proc` but its own.
use Rattle.std.proofs.Common.{◌≡◌, ℕ, zero, suc, ◌+◌, ◌<◌, ◌≤◌, Bool, true, false, List, [], ◌∷◌, ◌++◌, length, drop, refl, sym, ap, ◌∙◌, subst, arith}
use Rattle.std.specs.Prelude.{slice_index_or, nat_eq, if◌then◌else◌}
use Rattle.proc_expand.specs.declared.sign.Bracket.{Bracket}
use Rattle.proc_expand.specs.declared.sign.Bracket.TheVariants.{Round, Square, Curly}
use Rattle.proc_expand.specs.declared.sign.Sign.{Sign}
use Rattle.proc_expand.specs.declared.sign.Sign.TheVariants.{Proc, Main, Else, Kind, ItemWord, Called, Opens, Closes, Semicolon, Comma, Other}
use Rattle.proc_expand.specs.declared.sign.End.TheVariants.{Closed, Wrong}
use Rattle.proc_expand.specs.Words.{at, is_proc, same_bracket, open_after, open_before, closing, closing_from, closed_by}
use Rattle.proc_expand.specs.Refusals.{params_from, after_params, params_of, head_from}
use Rattle.proc_expand.proofs.First.{plus_one, drop_at, by_case, eq_true, eq_false, drop_tail}
use Rattle.proc_expand.proofs.Heads.{first_of}
use Rattle.proc_expand.proofs.Nested.{closed_within, closing_opens}

at_first : (ss us : List Sign) (s : Sign) (k : ℕ) → s ∷ us ≡ drop k ss → at ss k ≡ s
at_first ss us s k h = sym (first_of ss k) ∙ sym (ap (λ u. slice_index_or u 0 Other) h)

depth_next : (ss us : List Sign) (s : Sign) (k : ℕ) → s ∷ us ≡ drop k ss → open_before ss (k + 1) ≡ open_after s (open_before ss k)
depth_next ss us s k h = ap (open_before ss) (plus_one k) ∙ ap (λ t. open_after t (open_before ss k)) (at_first ss us s k h)

-- at each place up to where a bracket is closed some brackets are open
module _ (ss : List Sign) (j e : ℕ) (R : Type 0)
    (found : (a : Bracket) (st : List Bracket) → length (a ∷ st) ≤ open_before ss e → closing_from (a ∷ st) e (drop e ss) ≡ Closed j → R) where
  or_on : (us : List Sign) (a : Bracket) (st : List Bracket) (k : ℕ) → us ≡ drop k ss → length (a ∷ st) ≤ open_before ss k
      → closing_from (a ∷ st) k us ≡ Closed j → k ≤ e → (k + 1 ≤ e → R) → R
  or_on us a st k h d c l next =
      by_case (nat_eq k e)
      (λ t. let s = eq_true k e t in
      found a st (subst (λ i. length (a ∷ st) ≤ open_before ss i) s d)
      (subst (λ i. closing_from (a ∷ st) i (drop i ss) ≡ Closed j) s (ap (closing_from (a ∷ st) k) (sym h) ∙ c)))
      (λ t. next (let f = eq_false k e t in omega (arith, l, f)))

  closes : (us : List Sign) (b a : Bracket) (st : List Bracket) (k : ℕ) → closed_by b k (a ∷ st) (λ more. closing_from more (k + 1) us) ≡ Closed j
      → k + 1 ≤ e → e ≤ j → ((c : Bracket) (more : List Bracket) → st ≡ c ∷ more → closing_from (c ∷ more) (k + 1) us ≡ Closed j → R) → R
  closes us b a [] k c l m next = by (same_bracket a b) c
    where
      by : (t : Bool) → (if t then Closed k else Wrong k) ≡ Closed j → R
      by true h = absurd (let s : k ≡ j = cc in omega (arith, s, l, m))
      by false h = absurd (cc)
  closes us b a (d ∷ st) k c l m next = by (same_bracket a b) c
    where
      by : (t : Bool) → (if t then closing_from (d ∷ st) (k + 1) us else Wrong k) ≡ Closed j → R
      by true h = next d st refl h
      by false h = absurd (cc)

  pub reach_at : (us : List Sign) (a : Bracket) (st : List Bracket) (k : ℕ) → us ≡ drop k ss → length (a ∷ st) ≤ open_before ss k
      → closing_from (a ∷ st) k us ≡ Closed j → k ≤ e → e ≤ j → R
  reach_at [] a st k h d c l m = absurd (cc)
  reach_at (Opens b ∷ us) a st k h d c l m =
      or_on (Opens b ∷ us) a st k h d c l (λ g. reach_at us b (a ∷ st) (k + 1) (drop_tail ss us (Opens b) k h)
      (let n = depth_next ss us (Opens b) k h in omega (arith, n, d)) c g m)
  reach_at (Closes b ∷ us) a st k h d c l m =
      or_on (Closes b ∷ us) a st k h d c l (λ g. closes us b a st k c g m (λ i more s t. reach_at us i more (k + 1) (drop_tail ss us (Closes b) k h)
      (let n = depth_next ss us (Closes b) k h in let q = ap length s in omega (arith, n, d, q)) t g m))
  reach_at (Proc ∷ us) a st k h d c l m =
      or_on (Proc ∷ us) a st k h d c l (λ g. reach_at us a st (k + 1) (drop_tail ss us Proc k h)
      (let n = depth_next ss us Proc k h in omega (arith, n, d)) c g m)
  reach_at (Main ∷ us) a st k h d c l m =
      or_on (Main ∷ us) a st k h d c l (λ g. reach_at us a st (k + 1) (drop_tail ss us Main k h)
      (let n = depth_next ss us Main k h in omega (arith, n, d)) c g m)
  reach_at (Else ∷ us) a st k h d c l m =
      or_on (Else ∷ us) a st k h d c l (λ g. reach_at us a st (k + 1) (drop_tail ss us Else k h)
      (let n = depth_next ss us Else k h in omega (arith, n, d)) c g m)
  reach_at (Kind ∷ us) a st k h d c l m =
      or_on (Kind ∷ us) a st k h d c l (λ g. reach_at us a st (k + 1) (drop_tail ss us Kind k h)
      (let n = depth_next ss us Kind k h in omega (arith, n, d)) c g m)
  reach_at (ItemWord ∷ us) a st k h d c l m =
      or_on (ItemWord ∷ us) a st k h d c l (λ g. reach_at us a st (k + 1) (drop_tail ss us ItemWord k h)
      (let n = depth_next ss us ItemWord k h in omega (arith, n, d)) c g m)
  reach_at (Called ∷ us) a st k h d c l m =
      or_on (Called ∷ us) a st k h d c l (λ g. reach_at us a st (k + 1) (drop_tail ss us Called k h)
      (let n = depth_next ss us Called k h in omega (arith, n, d)) c g m)
  reach_at (Semicolon ∷ us) a st k h d c l m =
      or_on (Semicolon ∷ us) a st k h d c l (λ g. reach_at us a st (k + 1) (drop_tail ss us Semicolon k h)
      (let n = depth_next ss us Semicolon k h in omega (arith, n, d)) c g m)
  reach_at (Comma ∷ us) a st k h d c l m =
      or_on (Comma ∷ us) a st k h d c l (λ g. reach_at us a st (k + 1) (drop_tail ss us Comma k h)
      (let n = depth_next ss us Comma k h in omega (arith, n, d)) c g m)
  reach_at (Other ∷ us) a st k h d c l m =
      or_on (Other ∷ us) a st k h d c l (λ g. reach_at us a st (k + 1) (drop_tail ss us Other k h)
      (let n = depth_next ss us Other k h in omega (arith, n, d)) c g m)

-- within brackets something is open
pub within_brackets : (ss : List Sign) (o j e : ℕ) (b : Bracket) → o < length ss → at ss o ≡ Opens b → closing ss o ≡ Closed j → o < e → e ≤ j
    → 0 < open_before ss e
within_brackets ss o j e b l h c g m =
    reach_at ss j e (0 < open_before ss e) (λ a st d k. omega (arith, d)) (drop (o + 1) ss) b [] (o + 1) refl
    (let n = ap (open_before ss) (plus_one o) ∙ ap (λ t. open_after t (open_before ss o)) h in omega (arith, n))
    (sym (closing_opens ss o b l h) ∙ c) (omega (arith, g)) m

-- what opens within others is closed before them
sooner_closes : (us : List Sign) (b a d : Bracket) (st more : List Bracket) (k j c : ℕ)
    → ((i : Bracket) (inside : List Bracket) → closing_from (i ∷ inside) (k + 1) us ≡ Closed j → closing_from (i ∷ (inside ++ d ∷ more)) (k + 1) us ≡ Closed c → j < c)
    → closed_by b k (a ∷ st) (λ u. closing_from u (k + 1) us) ≡ Closed j → closed_by b k (a ∷ (st ++ d ∷ more)) (λ u. closing_from u (k + 1) us) ≡ Closed c → j < c
sooner_closes us b a d [] more k j c go f g = by (same_bracket a b) f g
  where
    by : (t : Bool) → (if t then Closed k else Wrong k) ≡ Closed j → (if t then closing_from (d ∷ more) (k + 1) us else Wrong k) ≡ Closed c → j < c
    by true h i = let s : k ≡ j = cc in let w = closed_within us (d ∷ more) (k + 1) c i in omega (arith, s, w.0)
    by false h i = absurd (cc)
sooner_closes us b a d (q ∷ st) more k j c go f g = by (same_bracket a b) f g
  where
    by : (t : Bool) → (if t then closing_from (q ∷ st) (k + 1) us else Wrong k) ≡ Closed j
        → (if t then closing_from (q ∷ (st ++ d ∷ more)) (k + 1) us else Wrong k) ≡ Closed c → j < c
    by true h i = go q st h i
    by false h i = absurd (cc)

sooner : (us : List Sign) (a d : Bracket) (st more : List Bracket) (k j c : ℕ) → closing_from (a ∷ st) k us ≡ Closed j
    → closing_from (a ∷ (st ++ d ∷ more)) k us ≡ Closed c → j < c
sooner [] a d st more k j c f g = absurd (cc)
sooner (Opens b ∷ us) a d st more k j c f g = sooner us b d (a ∷ st) more (k + 1) j c f g
sooner (Closes b ∷ us) a d st more k j c f g = sooner_closes us b a d st more k j c (λ i inside. sooner us i d inside more (k + 1) j c) f g
sooner (Proc ∷ us) a d st more k j c f g = sooner us a d st more (k + 1) j c f g
sooner (Main ∷ us) a d st more k j c f g = sooner us a d st more (k + 1) j c f g
sooner (Else ∷ us) a d st more k j c f g = sooner us a d st more (k + 1) j c f g
sooner (Kind ∷ us) a d st more k j c f g = sooner us a d st more (k + 1) j c f g
sooner (ItemWord ∷ us) a d st more k j c f g = sooner us a d st more (k + 1) j c f g
sooner (Called ∷ us) a d st more k j c f g = sooner us a d st more (k + 1) j c f g
sooner (Semicolon ∷ us) a d st more k j c f g = sooner us a d st more (k + 1) j c f g
sooner (Comma ∷ us) a d st more k j c f g = sooner us a d st more (k + 1) j c f g
sooner (Other ∷ us) a d st more k j c f g = sooner us a d st more (k + 1) j c f g

pub closed_inside : (ss : List Sign) (o i j c : ℕ) (a b : Bracket) → o < length ss → at ss o ≡ Opens b → closing ss o ≡ Closed c
    → i < length ss → at ss i ≡ Opens a → closing ss i ≡ Closed j → o < i → i ≤ c → j < c
closed_inside ss o i j c a b l h e m g f n w =
    reach_at ss c i (j < c)
    (λ d st q k. sooner (drop (i + 1) ss) a d [] st (i + 1) j c (sym (closing_opens ss i a m g) ∙ f) (sym (opened d st) ∙ k))
    (drop (o + 1) ss) b [] (o + 1) refl
    (let n = ap (open_before ss) (plus_one o) ∙ ap (λ t. open_after t (open_before ss o)) h in omega (arith, n))
    (sym (closing_opens ss o b l h) ∙ e) (omega (arith, n)) w
  where
    opened : (d : Bracket) (st : List Bracket) → closing_from (d ∷ st) i (drop i ss) ≡ closing_from (a ∷ d ∷ st) (i + 1) (drop (i + 1) ss)
    opened d st = ap (closing_from (d ∷ st) i) (drop_at ss i m) ∙ ap (λ s. closing_from (d ∷ st) i (s ∷ drop (i + 1) ss)) g

-- ---- heads

abbrev pub nth : List Sign → ℕ → Sign
nth us i = slice_index_or us i Other

after_ok : (us : List Sign) (k i : ℕ) → (after_params k us).fits ≡ true → k + i < (after_params k us).stop → is_proc (nth us i) ≡ false
after_ok [] k i f l = absurd (cc)
after_ok (Opens Curly ∷ us) k i f l = absurd (omega (arith, l))
after_ok (Opens Round ∷ us) k i f l = absurd (cc)
after_ok (Opens Square ∷ us) k i f l = absurd (cc)
after_ok (Proc ∷ us) k i f l = absurd (cc)
after_ok (Main ∷ us) k i f l = absurd (cc)
after_ok (Else ∷ us) k i f l = absurd (cc)
after_ok (Kind ∷ us) k i f l = absurd (cc)
after_ok (ItemWord ∷ us) k i f l = absurd (cc)
after_ok (Called ∷ us) k i f l = absurd (cc)
after_ok (Closes b ∷ us) k i f l = absurd (cc)
after_ok (Semicolon ∷ us) k i f l = absurd (cc)
after_ok (Comma ∷ us) k i f l = absurd (cc)
after_ok (Other ∷ us) k i f l = absurd (cc)

params_ok : (us : List Sign) (k i : ℕ) → (params_from k us).fits ≡ true → k + i < (params_from k us).stop → is_proc (nth us i) ≡ false
params_ok [] k i f l = absurd (cc)
params_ok (Kind ∷ []) k i f l = absurd (cc)
params_ok (Kind ∷ Called ∷ []) k i f l = absurd (cc)
params_ok (Kind ∷ Called ∷ Comma ∷ us) k zero f l = refl
params_ok (Kind ∷ Called ∷ Comma ∷ us) k (suc zero) f l = refl
params_ok (Kind ∷ Called ∷ Comma ∷ us) k (suc (suc zero)) f l = refl
params_ok (Kind ∷ Called ∷ Comma ∷ us) k (suc (suc (suc i))) f l = params_ok us (k + 3) i f (omega (arith, l))
params_ok (Kind ∷ Called ∷ Closes Round ∷ us) k zero f l = refl
params_ok (Kind ∷ Called ∷ Closes Round ∷ us) k (suc zero) f l = refl
params_ok (Kind ∷ Called ∷ Closes Round ∷ us) k (suc (suc zero)) f l = refl
params_ok (Kind ∷ Called ∷ Closes Round ∷ us) k (suc (suc (suc i))) f l = after_ok us (k + 3) i f (omega (arith, l))
params_ok (Kind ∷ Called ∷ Closes Square ∷ us) k i f l = absurd (cc)
params_ok (Kind ∷ Called ∷ Closes Curly ∷ us) k i f l = absurd (cc)
params_ok (Kind ∷ Called ∷ Proc ∷ us) k i f l = absurd (cc)
params_ok (Kind ∷ Called ∷ Main ∷ us) k i f l = absurd (cc)
params_ok (Kind ∷ Called ∷ Else ∷ us) k i f l = absurd (cc)
params_ok (Kind ∷ Called ∷ Kind ∷ us) k i f l = absurd (cc)
params_ok (Kind ∷ Called ∷ ItemWord ∷ us) k i f l = absurd (cc)
params_ok (Kind ∷ Called ∷ Called ∷ us) k i f l = absurd (cc)
params_ok (Kind ∷ Called ∷ Opens b ∷ us) k i f l = absurd (cc)
params_ok (Kind ∷ Called ∷ Semicolon ∷ us) k i f l = absurd (cc)
params_ok (Kind ∷ Called ∷ Other ∷ us) k i f l = absurd (cc)
params_ok (Kind ∷ Proc ∷ us) k i f l = absurd (cc)
params_ok (Kind ∷ Main ∷ us) k i f l = absurd (cc)
params_ok (Kind ∷ Else ∷ us) k i f l = absurd (cc)
params_ok (Kind ∷ Kind ∷ us) k i f l = absurd (cc)
params_ok (Kind ∷ ItemWord ∷ us) k i f l = absurd (cc)
params_ok (Kind ∷ Opens b ∷ us) k i f l = absurd (cc)
params_ok (Kind ∷ Closes b ∷ us) k i f l = absurd (cc)
params_ok (Kind ∷ Semicolon ∷ us) k i f l = absurd (cc)
params_ok (Kind ∷ Comma ∷ us) k i f l = absurd (cc)
params_ok (Kind ∷ Other ∷ us) k i f l = absurd (cc)
params_ok (Proc ∷ us) k i f l = absurd (cc)
params_ok (Main ∷ us) k i f l = absurd (cc)
params_ok (Else ∷ us) k i f l = absurd (cc)
params_ok (ItemWord ∷ us) k i f l = absurd (cc)
params_ok (Called ∷ us) k i f l = absurd (cc)
params_ok (Opens b ∷ us) k i f l = absurd (cc)
params_ok (Closes b ∷ us) k i f l = absurd (cc)
params_ok (Semicolon ∷ us) k i f l = absurd (cc)
params_ok (Comma ∷ us) k i f l = absurd (cc)
params_ok (Other ∷ us) k i f l = absurd (cc)

inside_ok : (us : List Sign) (k i : ℕ) → (params_of k us).fits ≡ true → k + i < (params_of k us).stop → is_proc (nth us i) ≡ false
inside_ok [] k i f l = absurd (cc)
inside_ok (Closes Round ∷ us) k zero f l = refl
inside_ok (Closes Round ∷ us) k (suc i) f l = after_ok us (k + 1) i f (omega (arith, l))
inside_ok (Closes Square ∷ us) k i f l = absurd (cc)
inside_ok (Closes Curly ∷ us) k i f l = absurd (cc)
inside_ok (Kind ∷ us) k i f l = params_ok (Kind ∷ us) k i f l
inside_ok (Proc ∷ us) k i f l = absurd (cc)
inside_ok (Main ∷ us) k i f l = absurd (cc)
inside_ok (Else ∷ us) k i f l = absurd (cc)
inside_ok (ItemWord ∷ us) k i f l = absurd (cc)
inside_ok (Called ∷ us) k i f l = absurd (cc)
inside_ok (Opens b ∷ us) k i f l = absurd (cc)
inside_ok (Semicolon ∷ us) k i f l = absurd (cc)
inside_ok (Comma ∷ us) k i f l = absurd (cc)
inside_ok (Other ∷ us) k i f l = absurd (cc)

pub head_ok : (us : List Sign) (k i : ℕ) → (head_from k us).fits ≡ true → k + i < (head_from k us).stop → is_proc (nth us i) ≡ false
head_ok [] k i f l = absurd (cc)
head_ok (Called ∷ []) k i f l = absurd (cc)
head_ok (Called ∷ Opens Round ∷ us) k zero f l = refl
head_ok (Called ∷ Opens Round ∷ us) k (suc zero) f l = refl
head_ok (Called ∷ Opens Round ∷ us) k (suc (suc i)) f l = inside_ok us (k + 2) i f (omega (arith, l))
head_ok (Called ∷ Opens Square ∷ us) k i f l = absurd (cc)
head_ok (Called ∷ Opens Curly ∷ us) k i f l = absurd (cc)
head_ok (Called ∷ Proc ∷ us) k i f l = absurd (cc)
head_ok (Called ∷ Main ∷ us) k i f l = absurd (cc)
head_ok (Called ∷ Else ∷ us) k i f l = absurd (cc)
head_ok (Called ∷ Kind ∷ us) k i f l = absurd (cc)
head_ok (Called ∷ ItemWord ∷ us) k i f l = absurd (cc)
head_ok (Called ∷ Called ∷ us) k i f l = absurd (cc)
head_ok (Called ∷ Closes b ∷ us) k i f l = absurd (cc)
head_ok (Called ∷ Semicolon ∷ us) k i f l = absurd (cc)
head_ok (Called ∷ Comma ∷ us) k i f l = absurd (cc)
head_ok (Called ∷ Other ∷ us) k i f l = absurd (cc)
head_ok (Proc ∷ us) k i f l = absurd (cc)
head_ok (Main ∷ us) k i f l = absurd (cc)
head_ok (Else ∷ us) k i f l = absurd (cc)
head_ok (Kind ∷ us) k i f l = absurd (cc)
head_ok (ItemWord ∷ us) k i f l = absurd (cc)
head_ok (Opens b ∷ us) k i f l = absurd (cc)
head_ok (Closes b ∷ us) k i f l = absurd (cc)
head_ok (Semicolon ∷ us) k i f l = absurd (cc)
head_ok (Comma ∷ us) k i f l = absurd (cc)
head_ok (Other ∷ us) k i f l = absurd (cc)
