-- A specification by its objects and the same by object number have the same rights, and cover the same.
use Rattle.std.proofs.Common.{◌≡◌, ℕ, zero, suc, ◌+◌, ◌<◌, Bool, true, false, ◌&&◌, List, map, length, refl, sym, ap, subst, ◌∙◌, arith}
use Rattle.jade_base.specs.declared.place.ObjectId.{ObjectId}
use Rattle.jade_base.specs.declared.rights.Rights.{Rights}
use Rattle.jade_base.specs.Rights.{covered}
use Rattle.jade_base.specs.Specification.{rights_in}
use Rattle.jade_meaning.specs.Specification.{Specification, rights_on, numbers, all_covered}
use Rattle.jade_meaning.specs.Spread.{spread, SpreadAgrees}

on_number : (f : ℕ → Rights) (i n k : ℕ) → k < n → rights_on (map f (numbers i n)) k ≡ f (i + k)
on_number f i zero k h = absurd (omega (arith, h))
on_number f i (suc n) zero h = let e : i ≡ i + 0 = omega arith in ap f e
on_number f i (suc n) (suc k) h = let e : suc i + k ≡ i + suc k = omega arith in on_number f (suc i) n k (omega (arith, h)) ∙ ap f e

as_many : (f : ℕ → Rights) (i n : ℕ) → length (map f (numbers i n)) ≡ n
as_many f i zero = refl
as_many f i (suc n) = ap suc (as_many f (suc i) n)

both : (a b : Bool) → (a && b) ≡ true → (a ≡ true) × (b ≡ true)
both true b h = (refl, h)
both false b h = absurd (cc)

together : (a b : Bool) → a ≡ true → b ≡ true → (a && b) ≡ true
together true b h g = g
together false b h g = absurd (cc)

abbrev CoveredOn : Specification → Specification → ℕ → Type 0
CoveredOn p c o = covered (rights_on p o) (rights_on c o) ≡ true

each_of : (p c : Specification) (i n k : ℕ) → all_covered p c (numbers i n) ≡ true → k < n → CoveredOn p c (i + k)
each_of p c i zero k h lt = absurd (omega (arith, lt))
each_of p c i (suc n) zero h lt =
    let e : i ≡ i + 0 = omega arith in
    subst (CoveredOn p c) e (both (covered (rights_on p i) (rights_on c i)) (all_covered p c (numbers (suc i) n)) h).0
each_of p c i (suc n) (suc k) h lt =
    let e : suc i + k ≡ i + suc k = omega arith in
    subst (CoveredOn p c) e
    (each_of p c (suc i) n k (both (covered (rights_on p i) (rights_on c i)) (all_covered p c (numbers (suc i) n)) h).1 (omega (arith, lt)))

all_of : (p c : Specification) (i n : ℕ) → ((k : ℕ) → k < n → CoveredOn p c (i + k)) → all_covered p c (numbers i n) ≡ true
all_of p c i zero h = refl
all_of p c i (suc n) h =
    let e : i + 0 ≡ i = omega arith in
    together (covered (rights_on p i) (rights_on c i)) (all_covered p c (numbers (suc i) n)) (subst (CoveredOn p c) e (h 0 (omega arith)))
    (all_of p c (suc i) n (λ k lt. let s : i + suc k ≡ suc i + k = omega arith in subst (CoveredOn p c) s (h (suc k) (omega (arith, lt)))))

module _ (n : ℕ) (parent child : List (ObjectId × Rights)) where
  same_in : (es : List (ObjectId × Rights)) (o : ℕ) → o < n → rights_on (spread n es) o ≡ rights_in es (record { 0 = o })
  same_in es o lt =
      let e : 0 + o ≡ o = omega arith in
      on_number (λ i. rights_in es (record { 0 = i })) 0 n o lt ∙ ap (λ i. rights_in es (record { 0 = i })) e

  counted : numbers 0 (length (spread n child)) ≡ numbers 0 n
  counted = ap (numbers 0) (as_many (λ o. rights_in child (record { 0 = o })) 0 n)

  rewritten : (o : ℕ) → o < n → covered (rights_on (spread n parent) o) (rights_on (spread n child) o)
      ≡ covered (rights_in parent (record { 0 = o })) (rights_in child (record { 0 = o }))
  rewritten o lt =
      ap (λ a. covered a (rights_on (spread n child) o)) (same_in parent o lt)
      ∙ ap (covered (rights_in parent (record { 0 = o }))) (same_in child o lt)

  pub spread_agrees : SpreadAgrees n parent child
  spread_agrees = record {
    same = same_in parent;
    if_covers = λ h o lt.
        let all : all_covered (spread n parent) (spread n child) (numbers 0 n) ≡ true =
        ap (all_covered (spread n parent) (spread n child)) (sym counted) ∙ h in
        let e : 0 + o ≡ o = omega arith in
        sym (rewritten o lt) ∙ subst (CoveredOn (spread n parent) (spread n child)) e (each_of (spread n parent) (spread n child) 0 n o all lt);
    if_covered = λ h.
        ap (all_covered (spread n parent) (spread n child)) counted
        ∙ all_of (spread n parent) (spread n child) 0 n (λ k lt.
        let e : k ≡ 0 + k = omega arith in subst (CoveredOn (spread n parent) (spread n child)) e (rewritten k lt ∙ h k lt));
  }
