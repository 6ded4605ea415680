-- Names that a new one is to be none of, as far as they are known.
use Rattle.std.proofs.Common.{◌≡◌, ℕ, zero, suc, ◌+◌, Bool, true, false, ◌&&◌, ◌||◌, List, [], ◌∷◌, ◌++◌, length, Option, Some, None, refl, sym, ap, ◌∙◌, arith}
use Rattle.std.specs.Prelude.{map, if◌then◌else◌}
use Rattle.std.proofs.lemmas.List.{length-append, map-append, append-nil}
use Rattle.jade_syntax.specs.Abstract.{Name}
use Rattle.jade_syntax.specs.Numbering.{same_name}
use Rattle.proc_expand.specs.declared.taken.Taken.{Taken}
use Rattle.proc_expand.specs.Names.{is_among}
use Rattle.proc_expand.specs.Written.{numeral, numbered_name, next_free, free_number}
use Rattle.proc_expand.specs.steps.Replaced.{names_of, begins_numbered, unknown_names, taken_names, IsTaken}
use Rattle.proc_expand.specs.steps.Pens.{name_by}
use Rattle.jade_lexer.specs.Lexemes.{TokenAt}
use Rattle.proc_expand.specs.declared.sign.Sign.{Sign}
use Rattle.proc_expand.specs.Words.{at, bytes_at, is_called, those, one_if}
use Rattle.proc_expand.proofs.First.{plus_one, eq_not, eq_false}
use Rattle.proc_expand.proofs.NameLists.{among_more, names_count}

unknown_count : (n : ℕ) → length (unknown_names n) ≡ n
unknown_count zero = refl
unknown_count (suc n) = ap suc (unknown_count n)

pub taken_count : (t : Taken) → length (taken_names t) ≡ length t.names + t.others
taken_count t =
    let a = length-append (names_of t.names) (unknown_names t.others) in let b = names_count t.names in let c = unknown_count t.others in omega (arith, a, b, c)

-- a name that is not empty is none of the unknown ones
none_unknown : (n b : ℕ) (x : Name) → is_among (unknown_names n) (b ∷ x) ≡ false
none_unknown zero b x = refl
none_unknown (suc n) b x = none_unknown n b x

among_known : (xs : List Name) (n b : ℕ) (x : Name) → is_among (xs ++ unknown_names n) (b ∷ x) ≡ is_among xs (b ∷ x)
among_known [] n b x = none_unknown n b x
among_known (y ∷ xs) n b x = ap (λ t. if same_name (b ∷ x) y then true else t) (among_known xs n b x)

pub known_among : (t : Taken) (n : ℕ) → is_among (taken_names t) (numbered_name n) ≡ is_among (names_of t.names) (numbered_name n)
known_among t n = numbered (names_of t.names) t.others n
  where
    numbered : (xs : List Name) (k n : ℕ) → is_among (xs ++ unknown_names k) (numbered_name n) ≡ is_among xs (numbered_name n)
    numbered xs k n = among_known xs k 118 (numeral n)

-- ---- one name more

other_differs : (x : Name) (n : ℕ) → begins_numbered x ≡ false → same_name (numbered_name n) x ≡ false
other_differs [] n h = refl
other_differs (b ∷ x) n h = ap (λ t. t && same_name (numeral n) x) (eq_not 118 b (λ e. eq_false b 118 h (sym e)))

pub other_more : (names : List Name) (x : Name) (t u : Taken) → IsTaken names t → begins_numbered x ≡ false → u.names ≡ t.names → u.others ≡ suc t.others
    → IsTaken (names ++ x ∷ []) u
other_more names x t u h g e f = record {
  many = let a = taken_count u in let b = taken_count t in let c = h.many in let d = length-append names (x ∷ []) in let i = ap length e in omega (arith, a, b, c, d, i, f);
  tells = λ n. known_among u n ∙ ap (λ v. is_among (names_of v) (numbered_name n)) e ∙ sym (known_among t n) ∙ h.tells n
      ∙ sym (or_false (is_among names (numbered_name n))) ∙ ap (λ b. is_among names (numbered_name n) || b) (sym (other_differs x n g)) ∙ sym (among_more names x (numbered_name n));
}
  where
    or_false : (a : Bool) → (a || false) ≡ a
    or_false true = refl
    or_false false = refl

pub known_more : (names : List Name) (x : Name) (k : ℕ) (t u : Taken) → IsTaken names t → u.names ≡ (x, k) ∷ t.names → u.others ≡ t.others
    → IsTaken (names ++ x ∷ []) u
known_more names x k t u h e f = record {
  many = let a = taken_count u in let b = taken_count t in let c = h.many in let d = length-append names (x ∷ []) in let i = ap length e in omega (arith, a, b, c, d, i, f);
  tells = λ n. known_among u n ∙ ap (λ v. is_among (names_of v) (numbered_name n)) e ∙ among_more (names_of t.names) x (numbered_name n)
      ∙ ap (λ b. b || same_name (numbered_name n) x) (sym (known_among t n) ∙ h.tells n) ∙ sym (among_more names x (numbered_name n));
}

pub none_taken : (t : Taken) → t.names ≡ [] → t.others ≡ 0 → IsTaken [] t
none_taken t e f = record {
  many = let a = taken_count t in let i = ap length e in omega (arith, a, i, f);
  tells = λ n. known_among t n ∙ ap (λ v. is_among (names_of v) (numbered_name n)) e;
}

-- ---- the same numbered names give the same free numbers

module _ (xs ys : List Name) (many : length xs ≡ length ys) (tells : (n : ℕ) → is_among xs (numbered_name n) ≡ is_among ys (numbered_name n)) where
  same_next : (tries n : ℕ) → next_free tries xs n ≡ next_free tries ys n
  same_next zero n = refl
  same_next (suc tries) n =
      ap (λ t. if t then next_free tries xs (suc n) else n) (tells n) ∙ ap (λ m. if is_among ys (numbered_name n) then m else n) (same_next tries (suc n))

  pub same_free : (i : ℕ) → free_number xs i ≡ free_number ys i
  same_free zero = ap (λ k. next_free k xs 0) many ∙ same_next (length ys) 0
  same_free (suc i) =
      ap (λ k. next_free k xs (suc (free_number xs i))) many ∙ same_next (length ys) (suc (free_number xs i))
      ∙ ap (λ m. next_free (length ys) ys (suc m)) (same_free i)

  pub same_by : (number : Option ℕ) (x : Name) → name_by xs number x ≡ name_by ys number x
  same_by None x = refl
  same_by (Some n) x = ap numbered_name (same_free n)

-- ---- the names of a text up to a place

those_next : (n m : ℕ) (is : ℕ → Bool) → m ≡ suc n → those m is ≡ those n is ++ one_if (is n) n
those_next n m is h = ap (λ i. those i is) h

pub not_here : (ts : List TokenAt) (ss : List Sign) (k : ℕ) → is_called (at ss k) ≡ false
    → map (bytes_at ts) (those k (λ i. is_called (at ss i))) ≡ map (bytes_at ts) (those (k + 1) (λ i. is_called (at ss i)))
not_here ts ss k h =
    ap (map (bytes_at ts)) (sym (those_next k (k + 1) (λ i. is_called (at ss i)) (plus_one k)
    ∙ ap (λ b. those k (λ i. is_called (at ss i)) ++ one_if b k) h ∙ append-nil (those k (λ i. is_called (at ss i)))))

pub also_here : (ts : List TokenAt) (ss : List Sign) (k : ℕ) → is_called (at ss k) ≡ true
    → map (bytes_at ts) (those k (λ i. is_called (at ss i))) ++ bytes_at ts k ∷ [] ≡ map (bytes_at ts) (those (k + 1) (λ i. is_called (at ss i)))
also_here ts ss k h =
    sym (ap (map (bytes_at ts)) (those_next k (k + 1) (λ i. is_called (at ss i)) (plus_one k)
    ∙ ap (λ b. those k (λ i. is_called (at ss i)) ++ one_if b k) h) ∙ map-append (bytes_at ts) (those k (λ i. is_called (at ss i))) (k ∷ []))
