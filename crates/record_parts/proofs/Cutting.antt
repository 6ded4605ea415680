-- A text has one list of lines.
use Rattle.std.proofs.Common.{◌≡◌, ℕ, zero, suc, ◌+◌, List, [], ◌∷◌, ◌++◌, take, drop, Some, refl, ap, sym, ◌∙◌, subst, append_assoc, append-nil, All}
use Rattle.std.specs.List.{slice_get}
use Rattle.std.proofs.lemmas.List.{take_more, append_cancel_left}
use Rattle.std.proofs.lemmas.List.Elements.{All-head, All-tail, All-nil, All-cons, All-append}
use Rattle.std.proofs.lemmas.Option.{slice_get_within, get_or_from_slice_get}
use Rattle.jade_syntax.proofs.Limits.{drop_item}
use Rattle.run_record.specs.Form.{FirstLine}
use Rattle.run_record.specs.Pieces.{Lacks}
use Rattle.run_record.specs.Recording.{ended}
use Rattle.run_record.proofs.Cuts.{front_same, back_same}
use Rattle.run_record.proofs.Passing.{ended-append}
use Rattle.record_parts.specs.Lines.{AreLines}

pub take_one : {A : Type 0} (xs : List A) (i : ℕ) (x : A) → slice_get xs i ≡ Some x → take (i + 1) xs ≡ take i xs ++ x ∷ []
take_one xs i x h = let lt = slice_get_within xs i x h in rw (take_more xs i x lt, get_or_from_slice_get xs i x x h) refl

tails : {a b : ℕ} {xs ys : List ℕ} → a ∷ xs ≡ b ∷ ys → xs ≡ ys
tails e = cc

not_begun : (d rest : List ℕ) → d ++ 10 ∷ rest ≡ [] → ⊥
not_begun [] rest e = absurd (cc)
not_begun (a ∷ d) rest e = absurd (cc)

-- where no line is left of what is left of a text, nothing is
pub nothing_left : (done lines : List (List ℕ)) (left : List ℕ) → All (Lacks 10) done → All (Lacks 10) lines → ended lines ≡ ended done ++ left →
    ((line after : List ℕ) → FirstLine left line after → ⊥) → left ≡ []
nothing_left [] [] left hd hl e none = sym e
nothing_left [] (x ∷ xs) left hd hl e none = absurd (none x (ended xs) (record { whole = sym e; one = All-head (Lacks 10) x xs hl }))
nothing_left (d ∷ ds) [] left hd hl e none =
    absurd (not_begun d (ended ds ++ left) (sym (append_assoc d (10 ∷ ended ds) left) ∙ sym e))
nothing_left (d ∷ ds) (x ∷ xs) left hd hl e none =
    let w : x ++ 10 ∷ ended xs ≡ d ++ 10 ∷ (ended ds ++ left) = e ∙ append_assoc d (10 ∷ ended ds) left in
    let b = back_same 10 x d (10 ∷ ended xs) (10 ∷ (ended ds ++ left)) (All-head (Lacks 10) x xs hl) (All-head (Lacks 10) d ds hd) refl refl w in
    nothing_left ds xs left (All-tail (Lacks 10) d ds hd) (All-tail (Lacks 10) x xs hl) (tails b) none

-- a text has one list of lines
pub ended_once : (a b : List (List ℕ)) → All (Lacks 10) a → All (Lacks 10) b → ended a ≡ ended b → a ≡ b
ended_once [] [] ha hb e = refl
ended_once [] (x ∷ xs) ha hb e = absurd (not_begun x (ended xs) (sym e))
ended_once (x ∷ xs) [] ha hb e = absurd (not_begun x (ended xs) e)
ended_once (x ∷ xs) (y ∷ ys) ha hb e =
    let hx = All-head (Lacks 10) x xs ha in
    let hy = All-head (Lacks 10) y ys hb in
    let f = front_same 10 x y (10 ∷ ended xs) (10 ∷ ended ys) hx hy refl refl e in
    let b = back_same 10 x y (10 ∷ ended xs) (10 ∷ ended ys) hx hy refl refl e in
    ap (λ l. l ∷ xs) f ∙ ap (λ l. y ∷ l) (ended_once xs ys (All-tail (Lacks 10) x xs ha) (All-tail (Lacks 10) y ys hb) (tails b))

pub lines_once : (a b : List (List ℕ)) (text : List ℕ) → AreLines a text → AreLines b text → a ≡ b
lines_once a b text ha hb = ended_once a b ha.one_each hb.one_each (ha.whole ∙ sym hb.whole)

-- one line more of a text
pub one_more : (text : List ℕ) (done : List (List ℕ)) (line left after : List ℕ) → text ≡ ended done ++ left → left ≡ line ++ 10 ∷ after → text ≡ ended (done ++ line ∷ []) ++ after
one_more text done line left after e l =
    let whole : ended (done ++ line ∷ []) ≡ ended done ++ (line ++ 10 ∷ []) = ended-append done (line ∷ []) in
    e ∙ ap (λ x. ended done ++ x) l ∙ rw whole (simp append_assoc)

take_drop : (xs : List (List ℕ)) (k : ℕ) → take k xs ++ drop k xs ≡ xs
take_drop [] zero = refl
take_drop [] (suc k) = refl
take_drop (x ∷ xs) zero = refl
take_drop (x ∷ xs) (suc k) = ap (λ l. x ∷ l) (take_drop xs k)

-- what is left where lines are those of a text
pub left_is : (text : List ℕ) (lines : List (List ℕ)) (i : ℕ) (left : List ℕ) → ended lines ≡ text → text ≡ ended (take i lines) ++ left → left ≡ ended (drop i lines)
left_is text lines i left e w =
    let split : ended (take i lines) ++ ended (drop i lines) ≡ ended lines = sym (ended-append (take i lines) (drop i lines)) ∙ ap ended (take_drop lines i) in
    sym (append_cancel_left (ended (take i lines)) (ended (drop i lines)) left (split ∙ e ∙ w))

pub lines_step : (text : List ℕ) (lines : List (List ℕ)) (i : ℕ) (line left after : List ℕ) → slice_get lines i ≡ Some line → text ≡ ended (take i lines) ++ left →
    left ≡ line ++ 10 ∷ after → text ≡ ended (take (i + 1) lines) ++ after
lines_step text lines i line left after s w l = one_more text (take i lines) line left after w l ∙ ap (λ ls. ended ls ++ after) (sym (take_one lines i line s))

-- where the next line does not come, the lines are not those of the text
pub not_lines : (text : List ℕ) (lines : List (List ℕ)) (i : ℕ) (line left : List ℕ) → slice_get lines i ≡ Some line → text ≡ ended (take i lines) ++ left →
    ((rest : List ℕ) → left ≡ line ++ 10 ∷ rest → ⊥) → AreLines lines text → ⊥
not_lines text lines i line left s w none a =
    none (ended (drop (i + 1) lines)) (left_is text lines i left a.whole w ∙ ap ended (drop_item lines i line s))

pub after_none : (bytes line left : List ℕ) → bytes ≡ line ++ left → ((rest : List ℕ) → left ≡ 10 ∷ rest → ⊥) → (rest : List ℕ) → bytes ≡ line ++ 10 ∷ rest → ⊥
after_none bytes line left e none rest w = none rest (append_cancel_left line left (10 ∷ rest) (sym e ∙ w))

-- a text of which some lines were cut
abbrev Cut : (text : List ℕ) (done : List (List ℕ)) (left : List ℕ) → Type 0
Cut text done left = (text ≡ ended done ++ left) × All (Lacks 10) done

pub lines_begun : (text : List ℕ) (done : List (List ℕ)) → done ≡ [] → (text ≡ ended done ++ text) × All (Lacks 10) done
lines_begun text done e = let F : List (List ℕ) → Type 0 = λ d. Cut text d text in subst F (sym e) (refl, All-nil (Lacks 10))

pub lines_go_on : (text : List ℕ) (done : List (List ℕ)) (cut left after line : List ℕ) (new : List (List ℕ)) → (text ≡ ended done ++ left) × All (Lacks 10) done →
    FirstLine left cut after → line ≡ cut → new ≡ done ++ line ∷ [] → (text ≡ ended new ++ after) × All (Lacks 10) new
lines_go_on text done cut left after line new h f l e =
    let F : List (List ℕ) → Type 0 = λ d. Cut text d after in
    let whole = one_more text done cut left after h.0 f.whole in
    let all = All-append (Lacks 10) done (cut ∷ []) h.1 (All-cons (Lacks 10) cut [] f.one (All-nil (Lacks 10))) in
    subst F (sym (e ∙ ap (λ x. done ++ x ∷ []) l)) (whole, all)

pub lines_end : (text : List ℕ) (done : List (List ℕ)) (left : List ℕ) → (text ≡ ended done ++ left) × All (Lacks 10) done → (lines : List (List ℕ)) → AreLines lines text →
    ((line after : List ℕ) → FirstLine left line after → ⊥) → AreLines done text
lines_end text done left h lines a none =
    let nothing = nothing_left done lines left h.1 a.one_each (a.whole ∙ h.0) none in
    record { whole = sym (h.0 ∙ ap (λ x. ended done ++ x) nothing ∙ append-nil (ended done)); one_each = h.1 }
