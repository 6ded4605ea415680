-- Rights to commute: what a specification without one has, and what a change leaves of them.
use Rattle.std.proofs.Common.{◌≡◌, ℕ, zero, suc, ◌+◌, ◌<◌, add-zero, Bool, true, false, List, [], ◌∷◌, refl, sym, ap, ◌∙◌, subst, Option, Some, None, arith, length}
use Rattle.std.specs.Prelude.{is_some, nat_lt, if◌then◌else◌}
use Rattle.std.proofs.lemmas.List.{get_or_past}
use Rattle.std.proofs.lemmas.Bool.{ltb-true, ltb-false}
use Rattle.jade_base.specs.declared.rights.Rights.{Rights}
use Rattle.jade_base.specs.Rights.{no_rights, is_there}
use Rattle.jade_meaning.specs.Specification.{Specification, rights_on, numbers, commuting_among, commuting_on, is_commuting}

pub less_false : (a b : Bool) → (a ≡ true → b ≡ true) → b ≡ false → a ≡ false
less_false true b f e = absurd (let t : b ≡ true = f refl in cc)
less_false false b f e = refl

no_commutes_from : (spec : Specification) (n a i : ℕ) → commuting_among spec (numbers a n) ≡ None → i < n → is_there (rights_on spec (a + i)).commutes ≡ false
no_commutes_from spec zero a i h lt = absurd (omega arith)
no_commutes_from spec (suc n) a i h lt = go (is_there (rights_on spec a).commutes) refl h i lt (λ j k l. no_commutes_from spec n (suc a) j k l)
  where
    go : (b : Bool) → is_there (rights_on spec a).commutes ≡ b → (if b then Some a else commuting_among spec (numbers (suc a) n)) ≡ None → (i : ℕ) → i < suc n → ((j : ℕ) → commuting_among spec (numbers (suc a) n) ≡ None → j < n → is_there (rights_on spec (suc a + j)).commutes ≡ false) → is_there (rights_on spec (a + i)).commutes ≡ false
    go true e h i lt k = absurd (cc)
    go false e h zero lt k = subst (λ z. is_there (rights_on spec z).commutes ≡ false) (sym (add-zero a)) e
    go false e h (suc i) lt k =
        let z : suc a + i ≡ a + suc i = omega arith in
        subst (λ z. is_there (rights_on spec z).commutes ≡ false) z (k i h (omega arith))

-- where none is found there is none
pub none_commutes : (spec : Specification) → commuting_on spec ≡ None → (o : ℕ) → is_there (rights_on spec o).commutes ≡ false
none_commutes spec h o = go (nat_lt o (length spec)) refl
  where
    go : (b : Bool) → nat_lt o (length spec) ≡ b → is_there (rights_on spec o).commutes ≡ false
    go true e =
        let z : 0 + o ≡ o = omega arith in
        subst (λ i. is_there (rights_on spec i).commutes ≡ false) z (no_commutes_from spec (length spec) 0 o h (ltb-true o (length spec) e))
    go false e = ap (λ (a : Rights). is_there a.commutes) (get_or_past spec o no_rights (ltb-false o (length spec) e))

-- where there is none, none is found
pub none_from : (spec : Specification) (os : List ℕ) → ((o : ℕ) → is_there (rights_on spec o).commutes ≡ false) → commuting_among spec os ≡ None
none_from spec [] h = refl
none_from spec (o ∷ os) h = ap (λ b. if b then Some o else commuting_among spec os) (h o) ∙ none_from spec os h

pub not_commuting : (spec : Specification) → is_commuting spec ≡ false → commuting_on spec ≡ None
not_commuting spec e = go (commuting_on spec) e
  where
    go : (x : Option ℕ) → is_some x ≡ false → x ≡ None
    go None e = refl
    go (Some y) e = absurd (cc)
