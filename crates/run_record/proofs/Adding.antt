-- Texts to which pieces and lines are added.
use Rattle.std.proofs.Common.{◌≡◌, ℕ, ◌+◌, List, [], ◌∷◌, ◌++◌, length, take, map, codes, Some, refl, ap, ◌∙◌, append_assoc}
use Rattle.std.specs.List.{slice_get}
use Rattle.std.specs.Fmt.{decimal}
use Rattle.std.proofs.lemmas.List.{take_more, map-append}
use Rattle.std.proofs.lemmas.Option.{slice_get_within, get_or_from_slice_get}
use Rattle.run_record.specs.Pieces.{each_after}
use Rattle.run_record.specs.Recording.{Recorded, head_line, numbers_line, turns_line, answer_line, text_line, ended, recording}
use Rattle.run_record.proofs.Spellings.{each_after-last}
use Rattle.run_record.proofs.Passing.{ended-append}

take_one : {A : Type 0} (xs : List A) (i : ℕ) (x : A) → slice_get xs i ≡ Some x → take (i + 1) xs ≡ take i xs ++ x ∷ []
take_one xs i x h = let lt = slice_get_within xs i x h in rw (take_more xs i x lt, get_or_from_slice_get xs i x x h) refl

-- one piece more, after its byte
pub piece_more : {A : Type 0} (c : ℕ) (f : A → List ℕ) (xs : List A) (i : ℕ) (x : A) (t0 t1 t2 t3 : List ℕ) → slice_get xs i ≡ Some x →
    t1 ≡ t0 ++ each_after c (map f (take i xs)) → t2 ≡ t1 ++ c ∷ [] → t3 ≡ t2 ++ f x → t3 ≡ t0 ++ each_after c (map f (take (i + 1) xs))
piece_more c f xs i x t0 t1 t2 t3 h e1 e2 e3 =
    let whole : each_after c (map f (take (i + 1) xs)) ≡ each_after c (map f (take i xs)) ++ c ∷ f x =
    ap (λ ys. each_after c (map f ys)) (take_one xs i x h) ∙ each_after-last c f (take i xs) x in
    rw (e3, e2, e1, whole) (simp append_assoc)

-- one line more
pub line_more : {A : Type 0} (f : A → List ℕ) (xs : List A) (i : ℕ) (x : A) (t0 t1 t2 : List ℕ) → slice_get xs i ≡ Some x → t1 ≡ t0 ++ ended (map f (take i xs)) →
    t2 ≡ t1 ++ (f x ++ 10 ∷ []) → t2 ≡ t0 ++ ended (map f (take (i + 1) xs))
line_more f xs i x t0 t1 t2 h e1 e2 =
    let whole : ended (map f (take (i + 1) xs)) ≡ ended (map f (take i xs)) ++ (f x ++ 10 ∷ []) =
    ap (λ ys. ended (map f ys)) (take_one xs i x h) ∙ ap ended (map-append f (take i xs) (x ∷ [])) ∙ ended-append (map f (take i xs)) (f x ∷ []) in
    rw (e2, e1, whole) (append_assoc t0 (ended (map f (take i xs))) (f x ++ 10 ∷ []))

pub plain_line_more : (xs : List (List ℕ)) (i : ℕ) (x : List ℕ) (t0 t1 t2 t3 : List ℕ) → slice_get xs i ≡ Some x → t1 ≡ t0 ++ ended (take i xs) → t2 ≡ t1 ++ x → t3 ≡ t2 ++ 10 ∷ [] →
    t3 ≡ t0 ++ ended (take (i + 1) xs)
plain_line_more xs i x t0 t1 t2 t3 h e1 e2 e3 =
    let whole : ended (take (i + 1) xs) ≡ ended (take i xs) ++ (x ++ 10 ∷ []) = ap ended (take_one xs i x h) ∙ ended-append (take i xs) (x ∷ []) in
    rw (e3, e2, e1, whole) (simp append_assoc)

rows : (h l n ts a all t0 t1 t2 t3 t4 t5 text x : List ℕ) → all ≡ ts ++ a → t0 ≡ h → t1 ≡ t0 ++ (l ++ 10 ∷ []) → t2 ≡ t1 ++ (n ++ 10 ∷ []) → t3 ≡ t2 ++ ts → t4 ≡ t3 ++ a → t5 ≡ t4 ++ text →
    text ≡ x → t5 ≡ (h ++ (l ++ 10 ∷ (n ++ 10 ∷ all))) ++ x
rows h l n ts a all t0 t1 t2 t3 t4 t5 text x e e0 e1 e2 e3 e4 e5 ex = rw (e5, e4, e3, e2, e1, e0, e, ex) (simp append_assoc)

-- the parts of a recording in a row
pub parts_whole : (r : Recorded) (t0 t1 t2 t3 t4 t5 text : List ℕ) → t0 ≡ head_line ++ 10 ∷ [] → t1 ≡ t0 ++ (codes "limit " ++ decimal r.limit ++ 10 ∷ []) →
    t2 ≡ t1 ++ (numbers_line r.numbers ++ 10 ∷ []) → t3 ≡ t2 ++ ended (map turns_line r.turns) →
    t4 ≡ t3 ++ (answer_line (length r.answer) ++ 10 ∷ (ended r.answer ++ (text_line ++ 10 ∷ []))) → t5 ≡ t4 ++ text → text ≡ r.text → t5 ≡ recording r
parts_whole r t0 t1 t2 t3 t4 t5 text e0 e1 e2 e3 e4 e5 e =
    let ts : List (List ℕ) = map turns_line r.turns in
    let a : List ℕ = answer_line (length r.answer) in
    let end : ended (r.answer ++ text_line ∷ []) ≡ ended r.answer ++ (text_line ++ 10 ∷ []) = ended-append r.answer (text_line ∷ []) in
    let turns_end : ended (ts ++ a ∷ (r.answer ++ text_line ∷ [])) ≡ ended ts ++ (a ++ 10 ∷ (ended r.answer ++ (text_line ++ 10 ∷ []))) =
    ended-append ts (a ∷ (r.answer ++ text_line ∷ [])) ∙ ap (λ l. ended ts ++ (a ++ 10 ∷ l)) end in
    rows (head_line ++ 10 ∷ []) (codes "limit " ++ decimal r.limit) (numbers_line r.numbers) (ended ts) (a ++ 10 ∷ (ended r.answer ++ (text_line ++ 10 ∷ [])))
    (ended (ts ++ a ∷ (r.answer ++ text_line ∷ []))) t0 t1 t2 t3 t4 t5 text r.text turns_end e0 e1 e2 e3 e4 e5 e
