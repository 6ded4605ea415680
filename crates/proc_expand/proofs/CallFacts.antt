-- Calls: where they stand, and the commas between their arguments.
use Rattle.std.proofs.Common.{◌≡◌, ℕ, suc, ◌+◌, ◌<◌, ◌≤◌, Bool, true, false, not, ◌&&◌, ◌||◌, List, [], ◌∷◌, length, drop, Option, Some, None, nat_eq, nat_lt, refl, sym, ap, ◌∙◌, arith}
use Rattle.std.specs.Prelude.{slice_index_or, if◌then◌else◌}
use Rattle.std.specs.List.{list_any}
use Rattle.std.proofs.lemmas.List.{drop_all}
use Rattle.proc_expand.specs.declared.sign.Bracket.{Bracket}
use Rattle.proc_expand.specs.declared.sign.Bracket.TheVariants.{Round}
use Rattle.proc_expand.specs.declared.sign.Sign.{Sign}
use Rattle.proc_expand.specs.declared.sign.Sign.TheVariants.{Proc, Main, Else, Kind, ItemWord, Called, Opens, Closes, Semicolon, Comma, Other}
use Rattle.proc_expand.specs.declared.sign.End.{End}
use Rattle.proc_expand.specs.declared.sign.End.TheVariants.{Closed, Wrong, Never}
use Rattle.proc_expand.specs.Words.{at, before, opens_round, is_called, is_proc, is_comma, is_semicolon, is_else, same_bracket, closing, closing_from, closed_by}
use Rattle.proc_expand.specs.steps.Brackets.{next_place, after_sign, after_end}
use Rattle.proc_expand.specs.Words.{first, some, end_place}
use Rattle.proc_expand.specs.steps.Brackets.{AreEndsFrom, EndsWithin}
use Rattle.proc_expand.specs.steps.Looking.{earliest}
use Rattle.proc_expand.specs.Refusals.{is_call, call_end, commas_from, within, ends_empty, ending_fails, call_fails}
use Rattle.proc_expand.proofs.First.{index_any, plus_one, drop_at, drop_tail, by_case, eq_true, eq_same, eq_not, eq_false, lt_true, lt_is, lt_false, both_left, both_right}
use Rattle.proc_expand.proofs.First.{first_same, first_either, one_at, first_one, first_place, first_none, earliest_none, earliest_assoc}
use Rattle.proc_expand.proofs.Nested.{closing_opens, closed_in, wrong_in, known_end}
use Rattle.proc_expand.proofs.Heads.{past_end, lies_within, opens_is}

pub call_within : (ss : List Sign) (k : ℕ) → is_call ss k ≡ true → k + 1 < length ss
call_within ss k h =
    lies_within ss (k + 1) opens_round refl
    (both_right (is_called (at ss k)) (opens_round (at ss (k + 1))) (both_left (is_called (at ss k) && opens_round (at ss (k + 1))) (not (is_proc (before ss k))) h))

pub call_opens : (ss : List Sign) (k : ℕ) → is_call ss k ≡ true → at ss (k + 1) ≡ Opens Round
call_opens ss k h =
    opens_is (at ss (k + 1))
    (both_right (is_called (at ss k)) (opens_round (at ss (k + 1))) (both_left (is_called (at ss k) && opens_round (at ss (k + 1))) (not (is_proc (before ss k))) h))

pub no_call : (ss : List Sign) (k : ℕ) → length ss ≤ k → is_call ss k ≡ false
no_call ss k h = ap (λ s. is_called s && opens_round (at ss (k + 1)) && not (is_proc (before ss k))) (past_end ss k h)

pub known_call : (ss : List Sign) (es : List End) (k : ℕ) → AreEndsFrom ss es 0 → is_call ss k ≡ true → slice_index_or es (k + 1) (Closed 0) ≡ call_end ss k
known_call ss es k h c =
    known_end ss es 0 (k + 1) Round h (omega arith) (call_within ss k c) (index_any ss (k + 1) Proc Other (call_within ss k c) ∙ call_opens ss k c)

pub ends_within : (ss : List Sign) (k : ℕ) (e : End) → e ≡ call_end ss k → is_call ss k ≡ true → EndsWithin (length ss) e
ends_within ss k e is c = record {
  closed = λ j f. (closed_in ss (k + 1) j (call_within ss k c) (sym is ∙ f)).1;
  wrong = λ j f. wrong_in ss (k + 1) j (call_within ss k c) (sym is ∙ f);
}

-- ---- commas

abbrev pub after_commas : List Sign → End → List ℕ
after_commas ss (Closed j) = commas_from [] (j + 1) (drop (j + 1) ss)
after_commas ss (Wrong j) = []
after_commas ss Never = []

close_commas : (ss us : List Sign) (a d : Bracket) (st : List Bracket) (k : ℕ) → us ≡ drop (k + 1) ss
    → ((c : Bracket) (more : List Bracket) → commas_from (c ∷ more) (k + 1) us ≡ after_commas ss (closing_from (c ∷ more) (k + 1) us))
    → (if same_bracket a d then commas_from st (k + 1) us else []) ≡ after_commas ss (closed_by d k (a ∷ st) (λ more. closing_from more (k + 1) us))
close_commas ss us a d [] k e go = by (same_bracket a d)
  where
    by : (t : Bool) → (if t then commas_from [] (k + 1) us else []) ≡ after_commas ss (if t then Closed k else Wrong k)
    by true = ap (commas_from [] (k + 1)) e
    by false = refl
close_commas ss us a d (c ∷ st) k e go = by (same_bracket a d)
  where
    by : (t : Bool) → (if t then commas_from (c ∷ st) (k + 1) us else []) ≡ after_commas ss (if t then closing_from (c ∷ st) (k + 1) us else Wrong k)
    by true = go c st
    by false = refl

pub inner_commas : (ss us : List Sign) (k : ℕ) (a : Bracket) (st : List Bracket) → us ≡ drop k ss
    → commas_from (a ∷ st) k us ≡ after_commas ss (closing_from (a ∷ st) k us)
inner_commas ss [] k a st e = refl
inner_commas ss (Opens c ∷ us) k a st e = inner_commas ss us (k + 1) c (a ∷ st) (drop_tail ss us (Opens c) k e)
inner_commas ss (Closes d ∷ us) k a st e =
    close_commas ss us a d st k (drop_tail ss us (Closes d) k e) (λ c more. inner_commas ss us (k + 1) c more (drop_tail ss us (Closes d) k e))
inner_commas ss (Proc ∷ us) k a st e = inner_commas ss us (k + 1) a st (drop_tail ss us Proc k e)
inner_commas ss (Main ∷ us) k a st e = inner_commas ss us (k + 1) a st (drop_tail ss us Main k e)
inner_commas ss (Else ∷ us) k a st e = inner_commas ss us (k + 1) a st (drop_tail ss us Else k e)
inner_commas ss (Kind ∷ us) k a st e = inner_commas ss us (k + 1) a st (drop_tail ss us Kind k e)
inner_commas ss (ItemWord ∷ us) k a st e = inner_commas ss us (k + 1) a st (drop_tail ss us ItemWord k e)
inner_commas ss (Called ∷ us) k a st e = inner_commas ss us (k + 1) a st (drop_tail ss us Called k e)
inner_commas ss (Semicolon ∷ us) k a st e = inner_commas ss us (k + 1) a st (drop_tail ss us Semicolon k e)
inner_commas ss (Comma ∷ us) k a st e = inner_commas ss us (k + 1) a st (drop_tail ss us Comma k e)
inner_commas ss (Other ∷ us) k a st e = inner_commas ss us (k + 1) a st (drop_tail ss us Other k e)

-- those from a place on, directly within the brackets around it
abbrev pub rest : List Sign → ℕ → List ℕ
rest ss k = commas_from [] k (drop k ss)

move : (ss : List Sign) (k next : ℕ) → Some (k + 1) ≡ Some next → commas_from [] (k + 1) (drop (k + 1) ss) ≡ rest ss next
move ss k next h = let is : k + 1 ≡ next = cc in ap (rest ss) is

stepped : (ss : List Sign) (k next : ℕ) (s : Sign) → k < length ss → at ss k ≡ s → after_sign s k (closing ss k) ≡ Some next
    → commas_from [] k (s ∷ drop (k + 1) ss) ≡ (if is_comma s then k ∷ rest ss next else rest ss next)
stepped ss k next (Opens c) l e h = inner_commas ss (drop (k + 1) ss) (k + 1) c [] refl ∙ by (closing ss k) (closing_opens ss k c l e) h
  where
    by : (f : End) → f ≡ closing_from (c ∷ []) (k + 1) (drop (k + 1) ss) → after_end f ≡ Some next
        → after_commas ss (closing_from (c ∷ []) (k + 1) (drop (k + 1) ss)) ≡ rest ss next
    by (Closed j) f g = ap (after_commas ss) (sym f) ∙ (let is : j + 1 ≡ next = cc in ap (rest ss) is)
    by (Wrong j) f g = absurd (cc)
    by Never f g = absurd (cc)
stepped ss k next (Closes d) l e h = absurd (cc)
stepped ss k next Proc l e h = move ss k next h
stepped ss k next Main l e h = move ss k next h
stepped ss k next Else l e h = move ss k next h
stepped ss k next Kind l e h = move ss k next h
stepped ss k next ItemWord l e h = move ss k next h
stepped ss k next Called l e h = move ss k next h
stepped ss k next Semicolon l e h = move ss k next h
stepped ss k next Comma l e h = ap (λ u. k ∷ u) (move ss k next h)
stepped ss k next Other l e h = move ss k next h

pub rest_next : (ss : List Sign) (k next : ℕ) → k < length ss → next_place ss k ≡ Some next
    → rest ss k ≡ (if is_comma (at ss k) then k ∷ rest ss next else rest ss next)
rest_next ss k next l h = ap (commas_from [] k) (drop_at ss k l) ∙ stepped ss k next (at ss k) l refl h

stopped : (ss : List Sign) (k : ℕ) (s : Sign) → k < length ss → at ss k ≡ s → after_sign s k (closing ss k) ≡ None
    → (commas_from [] k (s ∷ drop (k + 1) ss) ≡ []) × (is_comma s ≡ false)
stopped ss k (Opens c) l e h = (inner_commas ss (drop (k + 1) ss) (k + 1) c [] refl ∙ by (closing ss k) (closing_opens ss k c l e) h, refl)
  where
    by : (f : End) → f ≡ closing_from (c ∷ []) (k + 1) (drop (k + 1) ss) → after_end f ≡ None
        → after_commas ss (closing_from (c ∷ []) (k + 1) (drop (k + 1) ss)) ≡ []
    by (Closed j) f g = absurd (cc)
    by (Wrong j) f g = ap (after_commas ss) (sym f)
    by Never f g = ap (after_commas ss) (sym f)
stopped ss k (Closes d) l e h = (refl, refl)
stopped ss k Proc l e h = absurd (cc)
stopped ss k Main l e h = absurd (cc)
stopped ss k Else l e h = absurd (cc)
stopped ss k Kind l e h = absurd (cc)
stopped ss k ItemWord l e h = absurd (cc)
stopped ss k Called l e h = absurd (cc)
stopped ss k Semicolon l e h = absurd (cc)
stopped ss k Comma l e h = absurd (cc)
stopped ss k Other l e h = absurd (cc)

pub rest_stops : (ss : List Sign) (k : ℕ) → k < length ss → next_place ss k ≡ None → (rest ss k ≡ []) × (is_comma (at ss k) ≡ false)
rest_stops ss k l h = let s = stopped ss k (at ss k) l refl h in (ap (commas_from [] k) (drop_at ss k l) ∙ s.0, s.1)

pub rest_ended : (ss : List Sign) (k : ℕ) → length ss ≤ k → rest ss k ≡ []
rest_ended ss k h = ap (commas_from [] k) (drop_all k ss h)

-- ---- the commas that end empty arguments

module _ (ss : List Sign) (c : ℕ) where
  abbrev pub after_none : ℕ → Bool
  after_none k = nat_eq k (c + 2) || is_comma (before ss k)

  abbrev pub empties : List ℕ → Option ℕ
  empties ks = first (suc (length ss)) (λ k. list_any (nat_eq k) ks && after_none k)

  pub no_empties : empties [] ≡ None
  no_empties = first_none (suc (length ss)) (λ k. list_any (nat_eq k) [] && after_none k) (λ k l. refl)

  turned : (j k : ℕ) → nat_eq k j ≡ nat_eq j k
  turned j k = by_case (nat_eq j k) (λ e. ap (λ i. nat_eq k i) (eq_true j k e) ∙ eq_same k ∙ sym e)
      (λ e. eq_not k j (λ f. absurd (eq_false j k e (sym f))) ∙ sym e)

  shared : (a b q : Bool) → ((a || b) && q) ≡ ((a && q) || (b && q))
  shared true b true = refl
  shared true true false = refl
  shared true false false = refl
  shared false b q = refl

  pub more_empties : (j : ℕ) (ks : List ℕ) → j < length ss → empties (j ∷ ks) ≡ earliest (if after_none j then Some j else None) (empties ks)
  more_empties j ks l =
      let m = suc (length ss) in
      first_same m (λ k. list_any (nat_eq k) (j ∷ ks) && after_none k) (λ k. (nat_eq j k && after_none k) || (list_any (nat_eq k) ks && after_none k))
      (λ k below. ap (λ t. (t || list_any (nat_eq k) ks) && after_none k) (turned j k) ∙ shared (nat_eq j k) (list_any (nat_eq k) ks) (after_none k))
      ∙ first_either m (λ k. nat_eq j k && after_none k) (λ k. list_any (nat_eq k) ks && after_none k)
      ∙ ap (λ t. earliest t (empties ks)) (first_one j m after_none (λ e. omega (arith, l)))

  -- what is found so far with a sign, and what is left
  pub step_empties : (found now : Option ℕ) (j : ℕ) (ks : List ℕ) (is : Bool) → j < length ss
      → now ≡ (if is && after_none j then earliest found (Some j) else found)
      → earliest now (empties ks) ≡ earliest found (empties (if is then j ∷ ks else ks))
  step_empties found now j ks false l e = ap (λ t. earliest t (empties ks)) e
  step_empties found now j ks true l e =
      ap (λ t. earliest t (empties ks)) e ∙ by (after_none j) ∙ ap (earliest found) (sym (more_empties j ks l))
    where
      by : (t : Bool) → earliest (if t then earliest found (Some j) else found) (empties ks) ≡ earliest found (earliest (if t then Some j else None) (empties ks))
      by true = earliest_assoc found (Some j) (empties ks)
      by false = refl

  pub step_count : (found now : ℕ) (j : ℕ) (ks : List ℕ) (is : Bool) → now ≡ (if is then found + 1 else found)
      → now + length ks ≡ found + length (if is then j ∷ ks else ks)
  step_count found now j ks true e = omega (arith, e)
  step_count found now j ks false e = omega (arith, e)

-- ---- where calls end

pub misfollows : (ss : List Sign) (last : ℕ) (semi is_other : Bool) → last < length ss → is_semicolon (at ss (last + 1)) ≡ semi
    → is_else (at ss (last + 2)) ≡ is_other → (if semi then (if is_other then Some (last + 2) else None) else Some (last + 1))
    ≡ earliest (first (suc (length ss)) (λ k. nat_eq (last + 1) k && not (is_semicolon (at ss k))))
    (first (suc (length ss)) (λ k. nat_eq (last + 2) k && (is_semicolon (before ss k) && is_else (at ss k))))
misfollows ss last semi is_other l g h =
    by semi is_other
    ∙ ap (λ t. earliest t (if semi && is_other then Some (last + 2) else None))
    (one_at (last + 1) (last + 1) (suc (length ss)) (λ k. not (is_semicolon (at ss k))) (not semi) refl (λ e. omega (arith, l)) (ap not g))
    ∙ ap (earliest (first (suc (length ss)) (λ k. nat_eq (last + 1) k && not (is_semicolon (at ss k)))))
    (one_at (last + 2) (last + 2) (suc (length ss)) (λ k. is_semicolon (before ss k) && is_else (at ss k)) (semi && is_other) refl
    (λ e. let w = lies_within ss (last + 2) is_else refl (both_right (is_semicolon (before ss (last + 2))) (is_else (at ss (last + 2))) e) in omega (arith, w))
    (ap (λ t. is_semicolon (before ss t) && is_else (at ss (last + 2))) two ∙ ap (λ t. t && is_else (at ss (last + 2))) g ∙ ap (λ t. semi && t) h))
  where
    two : last + 2 ≡ suc (last + 1)
    two = omega arith

    by : (a b : Bool) → (if a then (if b then Some (last + 2) else None) else Some (last + 1))
        ≡ earliest (if not a then Some (last + 1) else None) (if a && b then Some (last + 2) else None)
    by true true = refl
    by true false = refl
    by false b = refl

pub closed_failure : (ss : List Sign) (last : ℕ)
    → earliest (first (suc (length ss)) (λ k. nat_eq (last + 0) k && is_comma (before ss k)))
    (earliest (first (suc (length ss)) (λ k. nat_eq (last + 1) k && not (is_semicolon (at ss k))))
    (first (suc (length ss)) (λ k. nat_eq (last + 2) k && (is_semicolon (before ss k) && is_else (at ss k)))))
    ≡ first (suc (length ss)) (ending_fails ss (Closed last))
closed_failure ss last =
    let m = suc (length ss) in
    let a : ℕ → Bool = λ k. nat_eq (last + 0) k && is_comma (before ss k) in
    let b : ℕ → Bool = λ k. nat_eq (last + 1) k && not (is_semicolon (at ss k)) in
    let d : ℕ → Bool = λ k. nat_eq (last + 2) k && (is_semicolon (before ss k) && is_else (at ss k)) in
    let none : ℕ → Bool = λ k. false in
    ap (λ t. earliest (first m a) (earliest (first m b) t)) (sym (earliest_none (first m d)) ∙ ap (earliest (first m d)) (sym (first_none m none (λ k l. refl)))
    ∙ sym (first_either m d none))
    ∙ ap (earliest (first m a)) (sym (first_either m b (λ k. d k || none k))) ∙ sym (first_either m a (λ k. b k || (d k || none k)))

pub wrong_failure : (ss : List Sign) (j : ℕ) → j < length ss → Some j ≡ first (suc (length ss)) (ending_fails ss (Wrong j))
wrong_failure ss j l = sym (first_place j (suc (length ss)) (omega (arith, l)))

pub never_failure : (ss : List Sign) → Some (length ss) ≡ first (suc (length ss)) (ending_fails ss Never)
never_failure ss = sym (first_place (length ss) (suc (length ss)) (omega arith))

pub call_failure : (ss : List Sign) (c : ℕ) → is_call ss c ≡ true
    → earliest (first (suc (length ss)) (ends_empty ss c)) (first (suc (length ss)) (ending_fails ss (call_end ss c)))
    ≡ first (suc (length ss)) (λ k. is_call ss c && call_fails ss c k)
call_failure ss c h =
    sym (first_either (suc (length ss)) (ends_empty ss c) (ending_fails ss (call_end ss c)))
    ∙ ap (λ b. first (suc (length ss)) (λ k. b && call_fails ss c k)) (sym h)

pub no_failure : (ss : List Sign) (c : ℕ) → is_call ss c ≡ false → None ≡ first (suc (length ss)) (λ k. is_call ss c && call_fails ss c k)
no_failure ss c h =
    sym (ap (λ b. first (suc (length ss)) (λ k. b && call_fails ss c k)) h ∙ first_none (suc (length ss)) (λ k. false && call_fails ss c k) (λ k l. refl))

-- ---- how far the brackets of calls reach

beyond : (j r e : ℕ) → (nat_lt j r || nat_lt j e) ≡ nat_lt j (if nat_lt r e then e else r)
beyond j r e = by (nat_lt r e) refl
  where
    either : (a b : Bool) → (a ≡ true → b ≡ true) → (a || b) ≡ b
    either true b f = sym (f refl)
    either false b f = refl

    other : (a b : Bool) → (b ≡ true → a ≡ true) → (a || b) ≡ a
    other true b f = refl
    other false true f = sym (f refl)
    other false false f = refl

    by : (t : Bool) → nat_lt r e ≡ t → (nat_lt j r || nat_lt j e) ≡ nat_lt j (if t then e else r)
    by true h = let l = lt_true r e h in
        either (nat_lt j r) (nat_lt j e) (λ g. let k = lt_true j r g in lt_is j e (omega (arith, k, l)))
    by false h = let l = lt_false r e h in
        other (nat_lt j r) (nat_lt j e) (λ g. let k = lt_true j e g in lt_is j r (omega (arith, k, l)))

pub reach_more : (ss : List Sign) (k r now : ℕ) (j : ℕ)
    → some k (λ c. is_call ss c && nat_lt j (end_place (length ss) (call_end ss c))) ≡ nat_lt j r
    → now ≡ (if is_call ss k then (if nat_lt r (end_place (length ss) (call_end ss k)) then end_place (length ss) (call_end ss k) else r) else r)
    → some (k + 1) (λ c. is_call ss c && nat_lt j (end_place (length ss) (call_end ss c))) ≡ nat_lt j now
reach_more ss k r now j h is =
    ap (λ i. some i (λ c. is_call ss c && nat_lt j (end_place (length ss) (call_end ss c)))) (plus_one k)
    ∙ ap (λ t. t || (is_call ss k && nat_lt j (end_place (length ss) (call_end ss k)))) h
    ∙ by (is_call ss k) (end_place (length ss) (call_end ss k)) ∙ ap (nat_lt j) (sym is)
  where
    or_none : (a : Bool) → (a || false) ≡ a
    or_none true = refl
    or_none false = refl

    by : (t : Bool) (e : ℕ) → (nat_lt j r || (t && nat_lt j e)) ≡ nat_lt j (if t then (if nat_lt r e then e else r) else r)
    by true e = beyond j r e
    by false e = or_none (nat_lt j r)

pub is_within : (ss : List Sign) (k r : ℕ) (b : Bool) → some k (λ c. is_call ss c && nat_lt k (end_place (length ss) (call_end ss c))) ≡ nat_lt k r
    → b ≡ (is_semicolon (at ss k) && nat_lt k r) → within ss k ≡ b
is_within ss k r b h is = ap (λ t. is_semicolon (at ss k) && t) h ∙ sym is

pub at_most : (a b : ℕ) (t : Bool) → a ≡ (if t then b + 1 else b) → a ≤ b + 1
at_most a b true e = omega (arith, e)
at_most a b false e = omega (arith, e)
