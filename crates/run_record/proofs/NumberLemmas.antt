-- The line of the numbers.
use Rattle.std.proofs.Common.{◌≡◌, ℕ, ◌<◌, ◌≤◌, true, List, [], ◌∷◌, ◌++◌, length, map, codes, ℤ, ap, sym, ◌∙◌, subst, arith, length-append}
use Rattle.std.specs.Fmt.{signed_decimal}
use Rattle.std.proofs.lemmas.List.{append_cancel_left}
use Rattle.number_words.specs.Numbers.{is_number}
use Rattle.run_record.specs.Pieces.{each_after}
use Rattle.run_record.specs.Form.{IsNumbersLine}
use Rattle.run_record.specs.steps.Cutting.{IsPiece}
use Rattle.run_record.proofs.Bytes.{tested, testing}
use Rattle.run_record.proofs.PathLemmas.{IsNumber, numbers}
use Rattle.run_record.proofs.Spellings.{Read, nothing_read, read_more, next_is, none_left, no_more}

pub numbers_begun : (text : List ℕ) (ns : List ℤ) → ns ≡ [] → Read 32 signed_decimal IsNumber text ns text × (length ns ≤ 64)
numbers_begun text ns e =
    let F : List ℤ → Type 0 = λ x. Read 32 signed_decimal IsNumber text x text × (length x ≤ 64) in
    subst F (sym e) (nothing_read 32 signed_decimal IsNumber text, omega arith)

pub numbers_go_on : (text : List ℕ) (done : List ℤ) (left piece after : List ℕ) (z : ℤ) (new : List ℤ) → Read 32 signed_decimal IsNumber text done left → length done < 64 →
    IsPiece 32 left piece after → piece ≡ signed_decimal z → is_number z ≡ true → new ≡ done ++ z ∷ [] → Read 32 signed_decimal IsNumber text new after × (length new ≤ 64)
numbers_go_on text done left piece after z new r few p s fit is =
    let F : List ℤ → Type 0 = λ x. Read 32 signed_decimal IsNumber text x after × (length x ≤ 64) in
    subst F (sym is) (read_more 32 signed_decimal IsNumber text done left piece after z r p s fit, omega (arith, length-append done (z ∷ [])))

pub numbers_end : (line text : List ℕ) (done : List ℤ) (left : List ℕ) → line ≡ codes "numbers" ++ text → Read 32 signed_decimal IsNumber text done left → length done ≤ 64 → left ≡ [] →
    IsNumbersLine line done
numbers_end line text done left w r few l =
    let t : text ≡ each_after 32 (map signed_decimal done) = r.whole ∙ ap (λ x. each_after 32 (map signed_decimal done) ++ x) l ∙ no_more (each_after 32 (map signed_decimal done)) in
    record { fit = testing is_number done r.good; few = few; spelled = w ∙ ap (λ x. codes "numbers" ++ x) t }

pub no_head : (line : List ℕ) (ns : List ℤ) → ((rest : List ℕ) → line ≡ codes "numbers" ++ rest → ⊥) → IsNumbersLine line ns → ⊥
no_head line ns none h = none (each_after 32 (map signed_decimal ns)) h.spelled

after_head : (line text : List ℕ) (ns : List ℤ) → line ≡ codes "numbers" ++ text → IsNumbersLine line ns → text ≡ each_after 32 (map signed_decimal ns)
after_head line text ns w h = append_cancel_left (codes "numbers") text (each_after 32 (map signed_decimal ns)) (sym w ∙ h.spelled)

pub no_number : (line text : List ℕ) (done : List ℤ) (left piece after : List ℕ) (ns : List ℤ) → line ≡ codes "numbers" ++ text → Read 32 signed_decimal IsNumber text done left →
    IsPiece 32 left piece after → ((z : ℤ) → is_number z ≡ true → piece ≡ signed_decimal z → ⊥) → IsNumbersLine line ns → ⊥
no_number line text done left piece after ns w r p none h =
    let n = next_is 32 signed_decimal IsNumber numbers text ns done left piece after r p (tested is_number ns h.fit) (after_head line text ns w h) in
    none n.item n.good n.piece_is

pub too_many : (line text : List ℕ) (done : List ℤ) (left piece after : List ℕ) (ns : List ℤ) → line ≡ codes "numbers" ++ text → Read 32 signed_decimal IsNumber text done left →
    IsPiece 32 left piece after → 64 ≤ length done → IsNumbersLine line ns → ⊥
too_many line text done left piece after ns w r p many h =
    let n = next_is 32 signed_decimal IsNumber numbers text ns done left piece after r p (tested is_number ns h.fit) (after_head line text ns w h) in
    let l : length ns ≡ length (done ++ n.item ∷ n.more) = ap length n.all_is in
    let few = h.few in
    omega (arith, l, length-append done (n.item ∷ n.more), few)

pub no_numbers_left : (line text : List ℕ) (done : List ℤ) (left : List ℕ) (ns : List ℤ) → line ≡ codes "numbers" ++ text → Read 32 signed_decimal IsNumber text done left →
    ((after : List ℕ) → left ≡ 32 ∷ after → ⊥) → (left ≡ [] → ⊥) → IsNumbersLine line ns → ⊥
no_numbers_left line text done left ns w r none some h =
    let n = none_left 32 signed_decimal IsNumber numbers text ns done left r none (tested is_number ns h.fit) (after_head line text ns w h) in
    some n.left_is
