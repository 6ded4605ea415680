-- Heads of procedures as a whole: where they stop, and what stands there.
use Rattle.std.proofs.Common.{◌≡◌, ℕ, zero, suc, ◌+◌, ◌-◌, ◌*◌, ◌<◌, ◌≤◌, Bool, true, false, List, [], ◌∷◌, length, drop, refl, sym, ap, ◌∙◌, arith}
use Rattle.std.specs.Prelude.{slice_index_or}
use Rattle.std.proofs.lemmas.List.{length-drop, drop-drop}
use Rattle.proc_expand.specs.declared.sign.Bracket.TheVariants.{Round, Square, Curly}
use Rattle.proc_expand.specs.declared.sign.Sign.{Sign}
use Rattle.proc_expand.specs.declared.sign.Sign.TheVariants.{Proc, Main, Else, Kind, ItemWord, Called, Opens, Closes, Semicolon, Comma, Other}
use Rattle.proc_expand.specs.Words.{at, is_called, opens_curly}
use Rattle.proc_expand.specs.Refusals.{head, params_from, after_params, params_of, head_from}
use Rattle.proc_expand.proofs.Heads.{first_of}
use Rattle.proc_expand.proofs.Depths.{nth}

-- so many parameters, and a stop, of the signs from a place on
pub record IsHead (us : List Sign) (k n : ℕ) (fits : Bool) (stop : ℕ) : Type 0 where
  pub from_here : k ≤ stop
  pub up : stop ≤ k + length us
  pub long : k + 3 * n ≤ stop + 1
  pub opens : (i : ℕ) → fits ≡ true → stop ≡ k + i → opens_curly (nth us i) ≡ true

no_head : (us : List Sign) (k stop : ℕ) → k ≤ stop → stop ≤ k + length us → IsHead us k 0 false stop
no_head us k stop l m = record { from_here = l; up = m; long = omega (arith, l); opens = λ i f e. absurd (cc) }

one_head : (us : List Sign) (k stop : ℕ) → k + 2 ≤ stop → stop ≤ k + length us → IsHead us k (1 + 0) false stop
one_head us k stop l m = record { from_here = omega (arith, l); up = m; long = omega (arith, l); opens = λ i f e. absurd (cc) }

one_on : (s : Sign) (us : List Sign) (k n : ℕ) (fits : Bool) (stop : ℕ) → IsHead us (k + 1) n fits stop → IsHead (s ∷ us) k n fits stop
one_on s us k n fits stop h = record {
  from_here = let a = h.from_here in omega (arith, a);
  up = let a = h.up in omega (arith, a);
  long = let a = h.long in omega (arith, a);
  opens = λ i f e. further i f e;
}
  where
    further : (i : ℕ) → fits ≡ true → stop ≡ k + i → opens_curly (nth (s ∷ us) i) ≡ true
    further zero f e = absurd (let a = h.from_here in omega (arith, a, e))
    further (suc i) f e = h.opens i f (omega (arith, e))

three_on : (s t u : Sign) (us : List Sign) (k n : ℕ) (fits : Bool) (stop : ℕ) → IsHead us (k + 3) n fits stop
    → IsHead (s ∷ t ∷ u ∷ us) k (1 + n) fits stop
three_on s t u us k n fits stop h = record {
  from_here = let a = h.from_here in omega (arith, a);
  up = let a = h.up in omega (arith, a);
  long = let a = h.long in omega (arith, a);
  opens = λ i f e. further i f e;
}
  where
    further : (i : ℕ) → fits ≡ true → stop ≡ k + i → opens_curly (nth (s ∷ t ∷ u ∷ us) i) ≡ true
    further zero f e = absurd (let a = h.from_here in omega (arith, a, e))
    further (suc zero) f e = absurd (let a = h.from_here in omega (arith, a, e))
    further (suc (suc zero)) f e = absurd (let a = h.from_here in omega (arith, a, e))
    further (suc (suc (suc i))) f e = h.opens i f (omega (arith, e))

after_is : (us : List Sign) (k : ℕ) → IsHead us k (after_params k us).params (after_params k us).fits (after_params k us).stop
after_is [] k = no_head [] k k (omega arith) (omega arith)
after_is (Opens Curly ∷ us) k = record { from_here = omega arith; up = omega arith; long = omega arith; opens = λ i f e. here i e }
  where
    here : (i : ℕ) → k ≡ k + i → opens_curly (nth (Opens Curly ∷ us) i) ≡ true
    here zero e = refl
    here (suc i) e = absurd (omega (arith, e))
after_is (Opens Round ∷ us) k = no_head (Opens Round ∷ us) k k (omega arith) (omega arith)
after_is (Opens Square ∷ us) k = no_head (Opens Square ∷ us) k k (omega arith) (omega arith)
after_is (Proc ∷ us) k = no_head (Proc ∷ us) k k (omega arith) (omega arith)
after_is (Main ∷ us) k = no_head (Main ∷ us) k k (omega arith) (omega arith)
after_is (Else ∷ us) k = no_head (Else ∷ us) k k (omega arith) (omega arith)
after_is (Kind ∷ us) k = no_head (Kind ∷ us) k k (omega arith) (omega arith)
after_is (ItemWord ∷ us) k = no_head (ItemWord ∷ us) k k (omega arith) (omega arith)
after_is (Called ∷ us) k = no_head (Called ∷ us) k k (omega arith) (omega arith)
after_is (Closes b ∷ us) k = no_head (Closes b ∷ us) k k (omega arith) (omega arith)
after_is (Semicolon ∷ us) k = no_head (Semicolon ∷ us) k k (omega arith) (omega arith)
after_is (Comma ∷ us) k = no_head (Comma ∷ us) k k (omega arith) (omega arith)
after_is (Other ∷ us) k = no_head (Other ∷ us) k k (omega arith) (omega arith)

params_is : (us : List Sign) (k : ℕ) → IsHead us k (params_from k us).params (params_from k us).fits (params_from k us).stop
params_is [] k = no_head [] k k (omega arith) (omega arith)
params_is (Kind ∷ []) k = no_head (Kind ∷ []) k (k + 1) (omega arith) (omega arith)
params_is (Kind ∷ Called ∷ []) k = one_head (Kind ∷ Called ∷ []) k (k + 2) (omega arith) (omega arith)
params_is (Kind ∷ Called ∷ Comma ∷ us) k =
    three_on Kind Called Comma us k (params_from (k + 3) us).params (params_from (k + 3) us).fits (params_from (k + 3) us).stop (params_is us (k + 3))
params_is (Kind ∷ Called ∷ Closes Round ∷ us) k =
    three_on Kind Called (Closes Round) us k (after_params (k + 3) us).params (after_params (k + 3) us).fits (after_params (k + 3) us).stop (after_is us (k + 3))
params_is (Kind ∷ Called ∷ Closes Square ∷ us) k = one_head (Kind ∷ Called ∷ Closes Square ∷ us) k (k + 2) (omega arith) (omega arith)
params_is (Kind ∷ Called ∷ Closes Curly ∷ us) k = one_head (Kind ∷ Called ∷ Closes Curly ∷ us) k (k + 2) (omega arith) (omega arith)
params_is (Kind ∷ Called ∷ Proc ∷ us) k = one_head (Kind ∷ Called ∷ Proc ∷ us) k (k + 2) (omega arith) (omega arith)
params_is (Kind ∷ Called ∷ Main ∷ us) k = one_head (Kind ∷ Called ∷ Main ∷ us) k (k + 2) (omega arith) (omega arith)
params_is (Kind ∷ Called ∷ Else ∷ us) k = one_head (Kind ∷ Called ∷ Else ∷ us) k (k + 2) (omega arith) (omega arith)
params_is (Kind ∷ Called ∷ Kind ∷ us) k = one_head (Kind ∷ Called ∷ Kind ∷ us) k (k + 2) (omega arith) (omega arith)
params_is (Kind ∷ Called ∷ ItemWord ∷ us) k = one_head (Kind ∷ Called ∷ ItemWord ∷ us) k (k + 2) (omega arith) (omega arith)
params_is (Kind ∷ Called ∷ Called ∷ us) k = one_head (Kind ∷ Called ∷ Called ∷ us) k (k + 2) (omega arith) (omega arith)
params_is (Kind ∷ Called ∷ Opens b ∷ us) k = one_head (Kind ∷ Called ∷ Opens b ∷ us) k (k + 2) (omega arith) (omega arith)
params_is (Kind ∷ Called ∷ Semicolon ∷ us) k = one_head (Kind ∷ Called ∷ Semicolon ∷ us) k (k + 2) (omega arith) (omega arith)
params_is (Kind ∷ Called ∷ Other ∷ us) k = one_head (Kind ∷ Called ∷ Other ∷ us) k (k + 2) (omega arith) (omega arith)
params_is (Kind ∷ Proc ∷ us) k = no_head (Kind ∷ Proc ∷ us) k (k + 1) (omega arith) (omega arith)
params_is (Kind ∷ Main ∷ us) k = no_head (Kind ∷ Main ∷ us) k (k + 1) (omega arith) (omega arith)
params_is (Kind ∷ Else ∷ us) k = no_head (Kind ∷ Else ∷ us) k (k + 1) (omega arith) (omega arith)
params_is (Kind ∷ Kind ∷ us) k = no_head (Kind ∷ Kind ∷ us) k (k + 1) (omega arith) (omega arith)
params_is (Kind ∷ ItemWord ∷ us) k = no_head (Kind ∷ ItemWord ∷ us) k (k + 1) (omega arith) (omega arith)
params_is (Kind ∷ Opens b ∷ us) k = no_head (Kind ∷ Opens b ∷ us) k (k + 1) (omega arith) (omega arith)
params_is (Kind ∷ Closes b ∷ us) k = no_head (Kind ∷ Closes b ∷ us) k (k + 1) (omega arith) (omega arith)
params_is (Kind ∷ Semicolon ∷ us) k = no_head (Kind ∷ Semicolon ∷ us) k (k + 1) (omega arith) (omega arith)
params_is (Kind ∷ Comma ∷ us) k = no_head (Kind ∷ Comma ∷ us) k (k + 1) (omega arith) (omega arith)
params_is (Kind ∷ Other ∷ us) k = no_head (Kind ∷ Other ∷ us) k (k + 1) (omega arith) (omega arith)
params_is (Proc ∷ us) k = no_head (Proc ∷ us) k k (omega arith) (omega arith)
params_is (Main ∷ us) k = no_head (Main ∷ us) k k (omega arith) (omega arith)
params_is (Else ∷ us) k = no_head (Else ∷ us) k k (omega arith) (omega arith)
params_is (ItemWord ∷ us) k = no_head (ItemWord ∷ us) k k (omega arith) (omega arith)
params_is (Called ∷ us) k = no_head (Called ∷ us) k k (omega arith) (omega arith)
params_is (Opens b ∷ us) k = no_head (Opens b ∷ us) k k (omega arith) (omega arith)
params_is (Closes b ∷ us) k = no_head (Closes b ∷ us) k k (omega arith) (omega arith)
params_is (Semicolon ∷ us) k = no_head (Semicolon ∷ us) k k (omega arith) (omega arith)
params_is (Comma ∷ us) k = no_head (Comma ∷ us) k k (omega arith) (omega arith)
params_is (Other ∷ us) k = no_head (Other ∷ us) k k (omega arith) (omega arith)

inside_is : (us : List Sign) (k : ℕ) → IsHead us k (params_of k us).params (params_of k us).fits (params_of k us).stop
inside_is [] k = params_is [] k
inside_is (Closes Round ∷ us) k =
    one_on (Closes Round) us k (after_params (k + 1) us).params (after_params (k + 1) us).fits (after_params (k + 1) us).stop (after_is us (k + 1))
inside_is (Closes Square ∷ us) k = params_is (Closes Square ∷ us) k
inside_is (Closes Curly ∷ us) k = params_is (Closes Curly ∷ us) k
inside_is (Proc ∷ us) k = params_is (Proc ∷ us) k
inside_is (Main ∷ us) k = params_is (Main ∷ us) k
inside_is (Else ∷ us) k = params_is (Else ∷ us) k
inside_is (Kind ∷ us) k = params_is (Kind ∷ us) k
inside_is (ItemWord ∷ us) k = params_is (ItemWord ∷ us) k
inside_is (Called ∷ us) k = params_is (Called ∷ us) k
inside_is (Opens b ∷ us) k = params_is (Opens b ∷ us) k
inside_is (Semicolon ∷ us) k = params_is (Semicolon ∷ us) k
inside_is (Comma ∷ us) k = params_is (Comma ∷ us) k
inside_is (Other ∷ us) k = params_is (Other ∷ us) k

-- after the `proc`: a name, and as many signs as its parameters take
pub record IsWhole (us : List Sign) (k n : ℕ) (fits : Bool) (stop : ℕ) : Type 0 where
  pub up : stop ≤ k + length us
  pub long : k + 3 * n ≤ stop
  pub named : fits ≡ true → is_called (nth us 0) ≡ true
  pub opens : (i : ℕ) → fits ≡ true → stop ≡ k + i → opens_curly (nth us i) ≡ true

not_whole : (us : List Sign) (k stop : ℕ) → k ≤ stop → stop ≤ k + length us → IsWhole us k 0 false stop
not_whole us k stop l m = record { up = m; long = omega (arith, l); named = λ f. absurd (cc); opens = λ i f e. absurd (cc) }

two_on : (s : Sign) (us : List Sign) (k n : ℕ) (fits : Bool) (stop : ℕ) → IsHead us (k + 2) n fits stop → IsWhole (Called ∷ s ∷ us) k n fits stop
two_on s us k n fits stop h = record {
  up = let a = h.up in omega (arith, a);
  long = let a = h.long in omega (arith, a);
  named = λ f. refl;
  opens = λ i f e. further i f e;
}
  where
    further : (i : ℕ) → fits ≡ true → stop ≡ k + i → opens_curly (nth (Called ∷ s ∷ us) i) ≡ true
    further zero f e = absurd (let a = h.from_here in omega (arith, a, e))
    further (suc zero) f e = absurd (let a = h.from_here in omega (arith, a, e))
    further (suc (suc i)) f e = h.opens i f (omega (arith, e))

whole_is : (us : List Sign) (k : ℕ) → IsWhole us k (head_from k us).params (head_from k us).fits (head_from k us).stop
whole_is [] k = not_whole [] k k (omega arith) (omega arith)
whole_is (Called ∷ []) k = not_whole (Called ∷ []) k (k + 1) (omega arith) (omega arith)
whole_is (Called ∷ Opens Round ∷ us) k =
    two_on (Opens Round) us k (params_of (k + 2) us).params (params_of (k + 2) us).fits (params_of (k + 2) us).stop (inside_is us (k + 2))
whole_is (Called ∷ Opens Square ∷ us) k = not_whole (Called ∷ Opens Square ∷ us) k (k + 1) (omega arith) (omega arith)
whole_is (Called ∷ Opens Curly ∷ us) k = not_whole (Called ∷ Opens Curly ∷ us) k (k + 1) (omega arith) (omega arith)
whole_is (Called ∷ Proc ∷ us) k = not_whole (Called ∷ Proc ∷ us) k (k + 1) (omega arith) (omega arith)
whole_is (Called ∷ Main ∷ us) k = not_whole (Called ∷ Main ∷ us) k (k + 1) (omega arith) (omega arith)
whole_is (Called ∷ Else ∷ us) k = not_whole (Called ∷ Else ∷ us) k (k + 1) (omega arith) (omega arith)
whole_is (Called ∷ Kind ∷ us) k = not_whole (Called ∷ Kind ∷ us) k (k + 1) (omega arith) (omega arith)
whole_is (Called ∷ ItemWord ∷ us) k = not_whole (Called ∷ ItemWord ∷ us) k (k + 1) (omega arith) (omega arith)
whole_is (Called ∷ Called ∷ us) k = not_whole (Called ∷ Called ∷ us) k (k + 1) (omega arith) (omega arith)
whole_is (Called ∷ Closes b ∷ us) k = not_whole (Called ∷ Closes b ∷ us) k (k + 1) (omega arith) (omega arith)
whole_is (Called ∷ Semicolon ∷ us) k = not_whole (Called ∷ Semicolon ∷ us) k (k + 1) (omega arith) (omega arith)
whole_is (Called ∷ Comma ∷ us) k = not_whole (Called ∷ Comma ∷ us) k (k + 1) (omega arith) (omega arith)
whole_is (Called ∷ Other ∷ us) k = not_whole (Called ∷ Other ∷ us) k (k + 1) (omega arith) (omega arith)
whole_is (Proc ∷ us) k = not_whole (Proc ∷ us) k k (omega arith) (omega arith)
whole_is (Main ∷ us) k = not_whole (Main ∷ us) k k (omega arith) (omega arith)
whole_is (Else ∷ us) k = not_whole (Else ∷ us) k k (omega arith) (omega arith)
whole_is (Kind ∷ us) k = not_whole (Kind ∷ us) k k (omega arith) (omega arith)
whole_is (ItemWord ∷ us) k = not_whole (ItemWord ∷ us) k k (omega arith) (omega arith)
whole_is (Opens b ∷ us) k = not_whole (Opens b ∷ us) k k (omega arith) (omega arith)
whole_is (Closes b ∷ us) k = not_whole (Closes b ∷ us) k k (omega arith) (omega arith)
whole_is (Semicolon ∷ us) k = not_whole (Semicolon ∷ us) k k (omega arith) (omega arith)
whole_is (Comma ∷ us) k = not_whole (Comma ∷ us) k k (omega arith) (omega arith)
whole_is (Other ∷ us) k = not_whole (Other ∷ us) k k (omega arith) (omega arith)

pub nth_drop : (ss : List Sign) (k i : ℕ) → nth (drop k ss) i ≡ at ss (k + i)
nth_drop ss k i = sym (first_of (drop k ss) i) ∙ ap (λ u. slice_index_or u 0 Other) (drop-drop i k ss) ∙ first_of ss (k + i)

module _ (ss : List Sign) (p : ℕ) (l : p < length ss) where
  whole : IsWhole (drop (p + 1) ss) (p + 1) (head ss p).params (head ss p).fits (head ss p).stop
  whole = whole_is (drop (p + 1) ss) (p + 1)

  pub head_up : (head ss p).stop ≤ length ss
  head_up = let a = whole.up in let d = length-drop (p + 1) ss in omega (arith, a, d, l)

  pub head_long : p + 1 + 3 * (head ss p).params ≤ (head ss p).stop
  head_long = let a = whole.long in omega (arith, a)

  pub head_named : (head ss p).fits ≡ true → is_called (at ss (p + 1)) ≡ true
  head_named f = ap is_called (sym (first_of ss (p + 1))) ∙ whole.named f

  pub head_opens : (head ss p).fits ≡ true → opens_curly (at ss (head ss p).stop) ≡ true
  head_opens f =
      let a = whole.long in let e : (head ss p).stop ≡ p + 1 + ((head ss p).stop - (p + 1)) = omega (arith, a) in
      ap (λ i. opens_curly (at ss i)) e ∙ ap opens_curly (sym (nth_drop ss (p + 1) ((head ss p).stop - (p + 1))))
      ∙ whole.opens ((head ss p).stop - (p + 1)) f e
