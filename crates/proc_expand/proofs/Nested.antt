-- Brackets inside others: what is open around them waits until they are closed.
use Rattle.std.proofs.Common.{◌≡◌, ℕ, suc, ◌+◌, ◌<◌, ◌≤◌, Bool, true, false, List, [], ◌∷◌, ◌++◌, length, drop, refl, sym, ap, ◌∙◌, arith}
use Rattle.std.specs.Prelude.{Some, None, slice_index_or, if◌then◌else◌}
use Rattle.std.proofs.lemmas.List.{length-drop}
use Rattle.proc_expand.specs.declared.sign.Bracket.{Bracket}
use Rattle.proc_expand.specs.declared.sign.Sign.{Sign}
use Rattle.proc_expand.specs.declared.sign.Sign.TheVariants.{Proc, Main, Else, Kind, ItemWord, Called, Opens, Closes, Semicolon, Comma, Other}
use Rattle.proc_expand.specs.declared.sign.End.{End}
use Rattle.proc_expand.specs.declared.sign.End.TheVariants.{Closed, Wrong, Never}
use Rattle.proc_expand.specs.Words.{at, same_bracket, closing, closing_from, closed_by}
use Rattle.proc_expand.specs.steps.Brackets.{opens, next_place, after_sign, after_end, AreEndsFrom}
use Rattle.proc_expand.proofs.First.{index_any, drop_at, drop_tail}

-- what is found of an open bracket once those inside it are closed
abbrev pub resumed : List Sign → Bracket → End → End
resumed ss b (Closed j) = closing_from (b ∷ []) (j + 1) (drop (j + 1) ss)
resumed ss b (Wrong j) = Wrong j
resumed ss b Never = Never

close_inner : (ss us : List Sign) (a b d : Bracket) (st : List Bracket) (k : ℕ) → us ≡ drop (k + 1) ss
    → ((c : Bracket) (more : List Bracket) → closing_from (c ∷ (more ++ b ∷ [])) (k + 1) us ≡ resumed ss b (closing_from (c ∷ more) (k + 1) us))
    → closed_by d k (a ∷ (st ++ b ∷ [])) (λ more. closing_from more (k + 1) us)
    ≡ resumed ss b (closed_by d k (a ∷ st) (λ more. closing_from more (k + 1) us))
close_inner ss us a b d [] k e go = by (same_bracket a d)
  where
    by : (t : Bool) → (if t then closing_from (b ∷ []) (k + 1) us else Wrong k) ≡ resumed ss b (if t then Closed k else Wrong k)
    by true = ap (closing_from (b ∷ []) (k + 1)) e
    by false = refl
close_inner ss us a b d (c ∷ st) k e go = by (same_bracket a d)
  where
    by : (t : Bool) → (if t then closing_from (c ∷ (st ++ b ∷ [])) (k + 1) us else Wrong k)
        ≡ resumed ss b (if t then closing_from (c ∷ st) (k + 1) us else Wrong k)
    by true = go c st
    by false = refl

pub inner : (ss us : List Sign) (k : ℕ) (a b : Bracket) (st : List Bracket) → us ≡ drop k ss
    → closing_from (a ∷ (st ++ b ∷ [])) k us ≡ resumed ss b (closing_from (a ∷ st) k us)
inner ss [] k a b st e = refl
inner ss (Opens c ∷ us) k a b st e = inner ss us (k + 1) c b (a ∷ st) (drop_tail ss us (Opens c) k e)
inner ss (Closes d ∷ us) k a b st e =
    close_inner ss us a b d st k (drop_tail ss us (Closes d) k e) (λ c more. inner ss us (k + 1) c b more (drop_tail ss us (Closes d) k e))
inner ss (Proc ∷ us) k a b st e = inner ss us (k + 1) a b st (drop_tail ss us Proc k e)
inner ss (Main ∷ us) k a b st e = inner ss us (k + 1) a b st (drop_tail ss us Main k e)
inner ss (Else ∷ us) k a b st e = inner ss us (k + 1) a b st (drop_tail ss us Else k e)
inner ss (Kind ∷ us) k a b st e = inner ss us (k + 1) a b st (drop_tail ss us Kind k e)
inner ss (ItemWord ∷ us) k a b st e = inner ss us (k + 1) a b st (drop_tail ss us ItemWord k e)
inner ss (Called ∷ us) k a b st e = inner ss us (k + 1) a b st (drop_tail ss us Called k e)
inner ss (Semicolon ∷ us) k a b st e = inner ss us (k + 1) a b st (drop_tail ss us Semicolon k e)
inner ss (Comma ∷ us) k a b st e = inner ss us (k + 1) a b st (drop_tail ss us Comma k e)
inner ss (Other ∷ us) k a b st e = inner ss us (k + 1) a b st (drop_tail ss us Other k e)

-- brackets are closed within the signs
close_within : (us : List Sign) (d : Bracket) (st : List Bracket) (k j : ℕ)
    → ((more : List Bracket) → closing_from more (k + 1) us ≡ Closed j → (k + 1 ≤ j) × (j < k + 1 + length us))
    → closed_by d k st (λ more. closing_from more (k + 1) us) ≡ Closed j → (k ≤ j) × (j < k + suc (length us))
close_within us d [] k j go e = absurd (cc)
close_within us d (a ∷ []) k j go e = by (same_bracket a d) e
  where
    by : (t : Bool) → (if t then Closed k else Wrong k) ≡ Closed j → (k ≤ j) × (j < k + suc (length us))
    by true h = let s : k ≡ j = cc in (omega (arith, s), omega (arith, s))
    by false h = absurd (cc)
close_within us d (a ∷ c ∷ st) k j go e = by (same_bracket a d) e
  where
    by : (t : Bool) → (if t then closing_from (c ∷ st) (k + 1) us else Wrong k) ≡ Closed j → (k ≤ j) × (j < k + suc (length us))
    by true h = let s = go (c ∷ st) h in (omega (arith, s.0), omega (arith, s.1))
    by false h = absurd (cc)

wider : (k j n : ℕ) → (k + 1 ≤ j) × (j < k + 1 + n) → (k ≤ j) × (j < k + suc n)
wider k j n h = (omega (arith, h.0), omega (arith, h.1))

pub closed_within : (us : List Sign) (st : List Bracket) (k j : ℕ) → closing_from st k us ≡ Closed j → (k ≤ j) × (j < k + length us)
closed_within [] st k j e = absurd (cc)
closed_within (Opens c ∷ us) st k j e = wider k j (length us) (closed_within us (c ∷ st) (k + 1) j e)
closed_within (Closes d ∷ us) st k j e = close_within us d st k j (λ more h. closed_within us more (k + 1) j h) e
closed_within (Proc ∷ us) st k j e = wider k j (length us) (closed_within us st (k + 1) j e)
closed_within (Main ∷ us) st k j e = wider k j (length us) (closed_within us st (k + 1) j e)
closed_within (Else ∷ us) st k j e = wider k j (length us) (closed_within us st (k + 1) j e)
closed_within (Kind ∷ us) st k j e = wider k j (length us) (closed_within us st (k + 1) j e)
closed_within (ItemWord ∷ us) st k j e = wider k j (length us) (closed_within us st (k + 1) j e)
closed_within (Called ∷ us) st k j e = wider k j (length us) (closed_within us st (k + 1) j e)
closed_within (Semicolon ∷ us) st k j e = wider k j (length us) (closed_within us st (k + 1) j e)
closed_within (Comma ∷ us) st k j e = wider k j (length us) (closed_within us st (k + 1) j e)
closed_within (Other ∷ us) st k j e = wider k j (length us) (closed_within us st (k + 1) j e)

-- brackets go wrong within the signs
wrong_step : (us : List Sign) (d : Bracket) (st : List Bracket) (k j : ℕ)
    → ((more : List Bracket) → closing_from more (k + 1) us ≡ Wrong j → (k + 1 ≤ j) × (j < k + 1 + length us))
    → closed_by d k st (λ more. closing_from more (k + 1) us) ≡ Wrong j → (k ≤ j) × (j < k + suc (length us))
wrong_step us d [] k j go e = let s : k ≡ j = cc in (omega (arith, s), omega (arith, s))
wrong_step us d (a ∷ []) k j go e = by (same_bracket a d) e
  where
    by : (t : Bool) → (if t then Closed k else Wrong k) ≡ Wrong j → (k ≤ j) × (j < k + suc (length us))
    by true h = absurd (cc)
    by false h = let s : k ≡ j = cc in (omega (arith, s), omega (arith, s))
wrong_step us d (a ∷ c ∷ st) k j go e = by (same_bracket a d) e
  where
    by : (t : Bool) → (if t then closing_from (c ∷ st) (k + 1) us else Wrong k) ≡ Wrong j → (k ≤ j) × (j < k + suc (length us))
    by true h = let s = go (c ∷ st) h in (omega (arith, s.0), omega (arith, s.1))
    by false h = let s : k ≡ j = cc in (omega (arith, s), omega (arith, s))

pub wrong_within : (us : List Sign) (st : List Bracket) (k j : ℕ) → closing_from st k us ≡ Wrong j → (k ≤ j) × (j < k + length us)
wrong_within [] st k j e = absurd (cc)
wrong_within (Opens c ∷ us) st k j e = wider k j (length us) (wrong_within us (c ∷ st) (k + 1) j e)
wrong_within (Closes d ∷ us) st k j e = wrong_step us d st k j (λ more h. wrong_within us more (k + 1) j h) e
wrong_within (Proc ∷ us) st k j e = wider k j (length us) (wrong_within us st (k + 1) j e)
wrong_within (Main ∷ us) st k j e = wider k j (length us) (wrong_within us st (k + 1) j e)
wrong_within (Else ∷ us) st k j e = wider k j (length us) (wrong_within us st (k + 1) j e)
wrong_within (Kind ∷ us) st k j e = wider k j (length us) (wrong_within us st (k + 1) j e)
wrong_within (ItemWord ∷ us) st k j e = wider k j (length us) (wrong_within us st (k + 1) j e)
wrong_within (Called ∷ us) st k j e = wider k j (length us) (wrong_within us st (k + 1) j e)
wrong_within (Semicolon ∷ us) st k j e = wider k j (length us) (wrong_within us st (k + 1) j e)
wrong_within (Comma ∷ us) st k j e = wider k j (length us) (wrong_within us st (k + 1) j e)
wrong_within (Other ∷ us) st k j e = wider k j (length us) (wrong_within us st (k + 1) j e)

-- what an opening bracket finds
pub closing_opens : (ss : List Sign) (k : ℕ) (b : Bracket) → k < length ss → at ss k ≡ Opens b
    → closing ss k ≡ closing_from (b ∷ []) (k + 1) (drop (k + 1) ss)
closing_opens ss k b l e = ap (closing_from [] k) (drop_at ss k l) ∙ ap (λ s. closing_from [] k (s ∷ drop (k + 1) ss)) e

pub closed_in : (ss : List Sign) (k j : ℕ) → k < length ss → closing ss k ≡ Closed j → (k ≤ j) × (j < length ss)
closed_in ss k j l e =
    let s = closed_within (drop k ss) [] k j e in let d = length-drop k ss in (omega (arith, s.0), omega (arith, s.1, d, l))

pub wrong_in : (ss : List Sign) (k j : ℕ) → k < length ss → closing ss k ≡ Wrong j → j < length ss
wrong_in ss k j l e = let s = wrong_within (drop k ss) [] k j e in let d = length-drop k ss in omega (arith, s.1, d, l)

-- inside a bracket a step to the next place changes nothing of where it is closed
stepped : (ss : List Sign) (k next : ℕ) (b : Bracket) (s : Sign) → k < length ss → at ss k ≡ s → after_sign s k (closing ss k) ≡ Some next
    → closing_from (b ∷ []) next (drop next ss) ≡ closing_from (b ∷ []) k (s ∷ drop (k + 1) ss)
stepped ss k next b (Opens c) l e h = by (closing ss k) (closing_opens ss k c l e) h ∙ sym (inner ss (drop (k + 1) ss) (k + 1) c b [] refl)
  where
    by : (f : End) → f ≡ closing_from (c ∷ []) (k + 1) (drop (k + 1) ss) → after_end f ≡ Some next
        → closing_from (b ∷ []) next (drop next ss) ≡ resumed ss b (closing_from (c ∷ []) (k + 1) (drop (k + 1) ss))
    by (Closed j) f g = let is : j + 1 ≡ next = cc in ap (λ i. closing_from (b ∷ []) i (drop i ss)) (sym is) ∙ ap (resumed ss b) f
    by (Wrong j) f g = absurd (cc)
    by Never f g = absurd (cc)
stepped ss k next b (Closes d) l e h = absurd (cc)
stepped ss k next b Proc l e h = let is : k + 1 ≡ next = cc in ap (λ i. closing_from (b ∷ []) i (drop i ss)) (sym is)
stepped ss k next b Main l e h = let is : k + 1 ≡ next = cc in ap (λ i. closing_from (b ∷ []) i (drop i ss)) (sym is)
stepped ss k next b Else l e h = let is : k + 1 ≡ next = cc in ap (λ i. closing_from (b ∷ []) i (drop i ss)) (sym is)
stepped ss k next b Kind l e h = let is : k + 1 ≡ next = cc in ap (λ i. closing_from (b ∷ []) i (drop i ss)) (sym is)
stepped ss k next b ItemWord l e h = let is : k + 1 ≡ next = cc in ap (λ i. closing_from (b ∷ []) i (drop i ss)) (sym is)
stepped ss k next b Called l e h = let is : k + 1 ≡ next = cc in ap (λ i. closing_from (b ∷ []) i (drop i ss)) (sym is)
stepped ss k next b Semicolon l e h = let is : k + 1 ≡ next = cc in ap (λ i. closing_from (b ∷ []) i (drop i ss)) (sym is)
stepped ss k next b Comma l e h = let is : k + 1 ≡ next = cc in ap (λ i. closing_from (b ∷ []) i (drop i ss)) (sym is)
stepped ss k next b Other l e h = let is : k + 1 ≡ next = cc in ap (λ i. closing_from (b ∷ []) i (drop i ss)) (sym is)

pub step_inside : (ss : List Sign) (k next : ℕ) (b : Bracket) → k < length ss → next_place ss k ≡ Some next
    → closing_from (b ∷ []) next (drop next ss) ≡ closing_from (b ∷ []) k (drop k ss)
step_inside ss k next b l h = stepped ss k next b (at ss k) l refl h ∙ ap (closing_from (b ∷ []) k) (sym (drop_at ss k l))

-- the next place lies further on
later : (s : Sign) (k n next : ℕ) (e : End) → k < n → ((j : ℕ) → e ≡ Closed j → (k ≤ j) × (j < n)) → after_sign s k e ≡ Some next
    → (k < next) × (next ≤ n)
later (Opens c) k n next (Closed j) l f h = let is : j + 1 ≡ next = cc in let s = f j refl in (omega (arith, is, s.0), omega (arith, is, s.1))
later (Opens c) k n next (Wrong j) l f h = absurd (cc)
later (Opens c) k n next Never l f h = absurd (cc)
later (Closes d) k n next e l f h = absurd (cc)
later Proc k n next e l f h = let is : k + 1 ≡ next = cc in (omega (arith, is), omega (arith, is, l))
later Main k n next e l f h = let is : k + 1 ≡ next = cc in (omega (arith, is), omega (arith, is, l))
later Else k n next e l f h = let is : k + 1 ≡ next = cc in (omega (arith, is), omega (arith, is, l))
later Kind k n next e l f h = let is : k + 1 ≡ next = cc in (omega (arith, is), omega (arith, is, l))
later ItemWord k n next e l f h = let is : k + 1 ≡ next = cc in (omega (arith, is), omega (arith, is, l))
later Called k n next e l f h = let is : k + 1 ≡ next = cc in (omega (arith, is), omega (arith, is, l))
later Semicolon k n next e l f h = let is : k + 1 ≡ next = cc in (omega (arith, is), omega (arith, is, l))
later Comma k n next e l f h = let is : k + 1 ≡ next = cc in (omega (arith, is), omega (arith, is, l))
later Other k n next e l f h = let is : k + 1 ≡ next = cc in (omega (arith, is), omega (arith, is, l))

pub next_later : (ss : List Sign) (k next : ℕ) → k < length ss → next_place ss k ≡ Some next → (k < next) × (next ≤ length ss)
next_later ss k next l h = later (at ss k) k (length ss) next (closing ss k) l (λ j e. closed_in ss k j l e) h

pub opens_here : (ss : List Sign) (k : ℕ) (b c : Bracket) → k < length ss → at ss k ≡ Opens c → next_place ss k ≡ None
    → closing ss k ≡ closing_from (b ∷ []) k (drop k ss)
opens_here ss k b c l e h =
    by (closing ss k) (closing_opens ss k c l e) (ap (λ s. after_sign s k (closing ss k)) (sym e) ∙ h)
    ∙ sym (inner ss (drop (k + 1) ss) (k + 1) c b [] refl) ∙ ap (λ s. closing_from (b ∷ []) k (s ∷ drop (k + 1) ss)) (sym e)
    ∙ ap (closing_from (b ∷ []) k) (sym (drop_at ss k l))
  where
    by : (f : End) → f ≡ closing_from (c ∷ []) (k + 1) (drop (k + 1) ss) → after_end f ≡ None
        → f ≡ resumed ss b (closing_from (c ∷ []) (k + 1) (drop (k + 1) ss))
    by (Closed j) f g = absurd (cc)
    by (Wrong j) f g = ap (resumed ss b) f
    by Never f g = ap (resumed ss b) f

-- ---- what is known of ends

pub at_index : (ss : List Sign) (k : ℕ) (s : Sign) → k < length ss → slice_index_or ss k Proc ≡ s → at ss k ≡ s
at_index ss k s l e = index_any ss k Other Proc l ∙ e

pub known_end : (ss : List Sign) (es : List End) (n k : ℕ) (b : Bracket) → AreEndsFrom ss es n → n ≤ k → k < length ss
    → slice_index_or ss k Proc ≡ Opens b → slice_index_or es k (Closed 0) ≡ closing ss k
known_end ss es n k b h a l e =
    index_any es k (Closed 0) Never (let m = h.as_many in omega (arith, l, m)) ∙ h.closed k a l (ap opens (at_index ss k (Opens b) l e))
