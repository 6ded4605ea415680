-- The loops that look for a broken rule.
use Rattle.std.proofs.Common.{◌≡◌, ℕ, suc, ◌+◌, ◌-◌, ◌<◌, ◌≤◌, ◌⊎◌, inl, inr, List, Bool, true, false, ◌&&◌, ◌||◌, Some, refl, sym}
use Rattle.std.proofs.Common.{ap, ◌∙◌, length, arith}
use Rattle.std.specs.Prelude.{slice_get, nat_lt}
use Rattle.std.proofs.lemmas.Bool.{cases_eq, cases_lt, lt-ltb}
use Rattle.std.proofs.lemmas.Option.{slice_get-get_or, slice_get_past}
use Rattle.code_meaning.specs.declared.code.Instruction.{Instruction}
use Rattle.code_meaning.specs.declared.code.Instruction.TheVariants as instr
use Rattle.code_meaning.specs.Meaning.{Body}
use Rattle.task_code.specs.Rules.{TaskCode, is_size, have_size, keeps, keeps_if, begins, fine_in, fine, Valid, BadAt}
use Rattle.task_code.specs.Checking.{FirstIs, NoneBroken}

-- an object of the family has the size
pub size_more : (sizes : List ℕ) (first count i size : ℕ) → i < count → is_size size (slice_get sizes (first + i)) ≡ true
    → have_size sizes (first + i) (count - i) size ≡ have_size sizes (first + (i + 1)) (count - (i + 1)) size
size_more sizes first count i size lt h =
    let e : count - i ≡ suc (count - (i + 1)) = omega (arith, lt) in
    let n : suc (first + i) ≡ first + (i + 1) = omega arith in
    ap (λ k. have_size sizes (first + i) k size) e
    ∙ ap (λ b. b && have_size sizes (suc (first + i)) (count - (i + 1)) size) h
    ∙ ap (λ k. have_size sizes k (count - (i + 1)) size) n

-- it has not
pub size_not : (sizes : List ℕ) (first count i size : ℕ) → i < count → is_size size (slice_get sizes (first + i)) ≡ false
    → have_size sizes (first + i) (count - i) size ≡ false
size_not sizes first count i size lt h =
    let e : count - i ≡ suc (count - (i + 1)) = omega (arith, lt) in
    ap (λ k. have_size sizes (first + i) k size) e ∙ ap (λ b. b && have_size sizes (suc (first + i)) (count - (i + 1)) size) h

pub size_all : (sizes : List ℕ) (first count i size : ℕ) → count ≤ i → have_size sizes (first + i) (count - i) size ≡ true
size_all sizes first count i size le = let e : count - i ≡ 0 = omega (arith, le) in ap (λ k. have_size sizes (first + i) k size) e

or_true : (a : Bool) → (a || true) ≡ true
or_true true = refl
or_true false = refl

-- where a body begins well, its places are judged by their instructions
pub fine_begun : (r : TaskCode) (own : ℕ) (b : Body) (p : ℕ) → begins r own b ≡ true → fine_in r own (Some b) p ≡ keeps_if r own b p (slice_get b.code p)
fine_begun r own b p h =
    ap (λ t. (nat_lt 0 p || t) && keeps_if r own b p (slice_get b.code p)) h ∙ ap (λ t. t && keeps_if r own b p (slice_get b.code p)) (or_true (nat_lt 0 p))

not_equal : (p n : ℕ) → p < n + 1 → (p ≡ n → ⊥) → p < n
not_equal p n le ne = by_case (cases_lt p n)
  where
    by_case : (p < n) ⊎ (n ≤ p) → p < n
    by_case (inl lt) = lt
    by_case (inr ge) = absurd (ne (omega (arith, le, ge)))

-- no rule is broken before a place
pub record NoneBefore (r : TaskCode) (own : ℕ) (b : Body) (place : ℕ) : Type 0 where
  pub begun : begins r own b ≡ true
  pub earlier : (p : ℕ) → p < place → fine_in r own (Some b) p ≡ true

-- what is judged of an instruction at a place
abbrev pub Judged : TaskCode → (own : ℕ) → Body → (place : ℕ) → Bool → Type 0
Judged r own b place k = (x : Instruction) → slice_get b.code place ≡ Some x → k ≡ keeps r own b place x

judged : (r : TaskCode) (own : ℕ) (b : Body) (place : ℕ) (k : Bool) → place < length b.code → begins r own b ≡ true → Judged r own b place k
    → fine_in r own (Some b) place ≡ k
judged r own b place k lt h j =
    let at = slice_get-get_or b.code place instr.Step lt in
    fine_begun r own b place h ∙ ap (keeps_if r own b place) at ∙ sym (j _ at)

pub none_before : (r : TaskCode) (own : ℕ) (b : Body) → begins r own b ≡ true → NoneBefore r own b 0
none_before r own b h = record { begun = h; earlier = λ p lt. absurd (omega (arith, lt)) }

pub one_kept : (r : TaskCode) (own : ℕ) (b : Body) (place : ℕ) (k : Bool) → place < length b.code → NoneBefore r own b place → Judged r own b place k → k ≡ true
    → NoneBefore r own b (place + 1)
one_kept r own b place k lt h j e = record { begun = h.begun; earlier = λ p le. by_case p le (cases_eq p place) }
  where
    by_case : (p : ℕ) → p < place + 1 → (p ≡ place) ⊎ (p ≡ place → ⊥) → fine_in r own (Some b) p ≡ true
    by_case p le (inl same) = ap (fine_in r own (Some b)) same ∙ judged r own b place k lt h.begun j ∙ e
    by_case p le (inr ne) = h.earlier p (not_equal p place le ne)

pub one_broken : (r : TaskCode) (own : ℕ) (b : Body) (place : ℕ) (k : Bool) → place < length b.code → NoneBefore r own b place → Judged r own b place k → k
    ≡ false → FirstIs r own b place
one_broken r own b place k lt h j e = record { broken = judged r own b place k lt h.begun j ∙ e; earlier = h.earlier; near = omega (arith, lt) }

pub not_begun : (r : TaskCode) (own : ℕ) (b : Body) → begins r own b ≡ false → FirstIs r own b 0
not_begun r own b h = record {
  broken = ap (λ t. t && keeps_if r own b 0 (slice_get b.code 0)) h;
  earlier = λ p lt. absurd (omega (arith, lt));
  near = omega arith;
}

pub all_kept : (r : TaskCode) (own : ℕ) (b : Body) (place : ℕ) → length b.code ≤ place → NoneBefore r own b place → NoneBroken r own b
all_kept r own b place le h = record { fine_at = λ p. by_case p (cases_lt p place) }
  where
    by_case : (p : ℕ) → (p < place) ⊎ (place ≤ p) → fine_in r own (Some b) p ≡ true
    by_case p (inl lt) = h.earlier p lt
    by_case p (inr ge) = fine_begun r own b p h.begun ∙ ap (keeps_if r own b p) (slice_get_past b.code p (omega (arith, le, ge)))

-- ---- bodies

-- no rule is broken in the bodies before one
pub record NoneIn (r : TaskCode) (own : ℕ) : Type 0 where
  pub earlier : (b p : ℕ) → b < own → fine r b p ≡ true

pub none_in : (r : TaskCode) → NoneIn r 0
none_in r = record { earlier = λ b p lt. absurd (omega (arith, lt)) }

pub body_kept : (r : TaskCode) (own : ℕ) (b : Body) → slice_get r.bodies own ≡ Some b → NoneIn r own → NoneBroken r own b → NoneIn r (own + 1)
body_kept r own b at h k = record { earlier = λ c p le. by_case c p le (cases_eq c own) }
  where
    by_case : (c p : ℕ) → c < own + 1 → (c ≡ own) ⊎ (c ≡ own → ⊥) → fine r c p ≡ true
    by_case c p le (inl same) = ap (λ n. fine r n p) same ∙ ap (λ x. fine_in r own x p) at ∙ k.fine_at p
    by_case c p le (inr ne) = h.earlier c p (not_equal c own le ne)

pub body_broken : (r : TaskCode) (own place : ℕ) (b : Body) → slice_get r.bodies own ≡ Some b → NoneIn r own → FirstIs r own b place → BadAt r own place
body_broken r own place b at h f = record {
  broken = ap (λ x. fine_in r own x place) at ∙ f.broken;
  earlier_places = λ p lt. ap (λ x. fine_in r own x p) at ∙ f.earlier p lt;
  earlier_bodies = h.earlier;
}

pub no_bodies : (r : TaskCode) → length r.bodies ≡ 0 → BadAt r 0 0
no_bodies r e = record {
  broken = ap (λ x. fine_in r 0 x 0) (slice_get_past r.bodies 0 (omega (arith, e)));
  earlier_places = λ p lt. absurd (omega (arith, lt));
  earlier_bodies = λ b p lt. absurd (omega (arith, lt));
}

pub all_bodies : (r : TaskCode) (own : ℕ) → 1 ≤ length r.bodies → length r.bodies ≤ own → NoneIn r own → Valid r
all_bodies r own some le h = record { fine_at = λ b p. by_case b p (cases_lt b own) }
  where
    by_case : (b p : ℕ) → (b < own) ⊎ (own ≤ b) → fine r b p ≡ true
    by_case b p (inl lt) = h.earlier b p lt
    by_case b p (inr ge) =
        ap (λ x. fine_in r b x p) (slice_get_past r.bodies b (omega (arith, le, ge))) ∙ ap (λ t. t || nat_lt 0 p) (lt-ltb 0 b (omega (arith, some, le, ge)))
