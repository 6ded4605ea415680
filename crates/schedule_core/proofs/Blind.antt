-- What a body does depends on what it may read alone.
use Rattle.std.proofs.Common.{◌≡◌, ◌≢◌, ℕ, zero, suc, ◌≤◌, ◌+◌, add-zero, Bool, true, false, [], ◌∷◌, length, refl, sym, ap, ◌∙◌, subst, Some, None, arith, ◌⊎◌, inl, inr, get_or-set_same, get_or-set_other}
use Rattle.std.specs.Prelude.{ℤ, pos, nat_eq, nat_lt, if◌then◌else◌, slice_set, slice_index_or}
use Rattle.std.proofs.lemmas.List.{set_past, get_or_past}
use Rattle.std.proofs.lemmas.Bool.Decides.{eqb_tells}
use Rattle.std.proofs.lemmas.Bool.{ltb-true, ltb-false}
use Rattle.jade_base.specs.declared.rights.Rights.{Rights}
use Rattle.jade_meaning.specs.Specification.{Specification, rights_on, commuting_on}
use Rattle.jade_base.specs.Rights.{is_immediate}
use Rattle.jade_meaning.specs.Course.{Course}
use Rattle.jade_base.specs.Rights.{may_read}
use Rattle.jade_meaning.specs.Serial.{Store, DidRead, DidWrite, cell, with_cell, serial, own}
use Rattle.jade_meaning.specs.Serial.{at_object}
use Rattle.jade_meaning.specs.Turns.{kept_from}
use Rattle.schedule_core.specs.Core.{Live, Bare}
use Rattle.jade_meaning.specs.Proper.{Proper, proper_read, proper_write, proper_step, proper_create, proper_change, proper_end}
use Rattle.schedule_core.specs.Onwards.{sees}

pub at_write : (s : Store) (o c : ℕ) (v : ℤ) → at_object (with_cell s o c v) o ≡ slice_set (at_object s o) c v
at_write s o c v = in_range (nat_lt o (length s)) refl
  where
    in_range : (b : Bool) → nat_lt o (length s) ≡ b → at_object (with_cell s o c v) o ≡ slice_set (at_object s o) c v
    in_range true e = get_or-set_same s o _ [] (ltb-true o (length s) e)
    in_range false e =
        let past : length s ≤ o = ltb-false o (length s) e in
        let none : at_object s o ≡ [] = get_or_past s o [] past in
        let same : with_cell s o c v ≡ s = set_past s o _ past in
        ap (λ s. at_object s o) same ∙ none ∙ sym (ap (λ xs. slice_set xs c v) none)

pub write_other : (s : Store) (o x c : ℕ) (v : ℤ) → x ≢ o → at_object (with_cell s x c v) o ≡ at_object s o
write_other s o x c v ne = get_or-set_other s x o _ [] (λ i. ne (sym i))

-- the same in what this specification may read
pub record Alike (spec : Specification) (s1 s2 : Store) : Type 0 where
  pub at : (x : ℕ) → may_read (rights_on spec x) ≡ true → at_object s1 x ≡ at_object s2 x

pub alike_write : (spec : Specification) (s1 s2 : Store) (o c : ℕ) (v : ℤ) → Alike spec s1 s2 → Alike spec (with_cell s1 o c v) (with_cell s2 o c v)
alike_write spec s1 s2 o c v h = record { at = λ x r. go x r (eqb_tells x o) }
  where
    go : (x : ℕ) → may_read (rights_on spec x) ≡ true → ((nat_eq x o ≡ true) × (x ≡ o)) ⊎ ((nat_eq x o ≡ false) × (x ≢ o)) → at_object (with_cell s1 o c v) x ≡ at_object (with_cell s2 o c v) x
    go x r (inl e) =
        subst (λ z. at_object (with_cell s1 o c v) z ≡ at_object (with_cell s2 o c v) z) (sym e.1) (at_write s1 o c v ∙ ap (λ xs. slice_set xs c v) (h.at o (subst (λ z. may_read (rights_on spec z) ≡ true) e.1 r)) ∙ sym (at_write s2 o c v))
    go x r (inr e) =
        let ne : o ≢ x = λ i. e.1 (sym i) in
        write_other s1 x o c v ne ∙ h.at x r ∙ sym (write_other s2 x o c v ne)

pub serial_blind : {spec : Specification} {c : Course} → Proper spec c → (y : ℕ) → commuting_on spec ≡ Some y → (k n : ℕ) (s1 s2 : Store) → Alike spec s1 s2 → serial c k n s1 ≡ serial c k n s2
serial_blind {spec} (proper_read {o = o} {c = c} {on = on} i f) y e k n s1 s2 h =
    let same : cell s1 o c ≡ cell s2 o c = ap (λ xs. slice_index_or xs c (pos 0)) (h.at o i) in
    ap (λ v. own k (DidRead o c v) ∷ serial (on v) k n s1) same ∙ ap (λ ms. own k (DidRead o c (cell s2 o c)) ∷ ms) (serial_blind (f (cell s2 o c)) y e k n s1 s2 h)
serial_blind {spec} (proper_write {o = o} {c = c} {v = v} i q) y e k n s1 s2 h =
    ap (λ ms. own k (DidWrite o c v) ∷ ms) (serial_blind q y e k n (with_cell s1 o c v) (with_cell s2 o c v) (alike_write spec s1 s2 o c v h))
serial_blind (proper_step q) y e k n s1 s2 h = serial_blind q y e k (suc n) s1 s2 h
serial_blind (proper_create none a b d f g) y e k n s1 s2 h = absurd (let z : Some y ≡ None = sym e ∙ none in cc)
serial_blind (proper_change none a b) y e k n s1 s2 h = absurd (let z : Some y ≡ None = sym e ∙ none in cc)
serial_blind proper_end y e k n s1 s2 h = refl

pub length_sees : (u : Live Bare) (i : ℕ) (s : Store) → length (sees u i s) ≡ length s
length_sees u i [] = refl
length_sees u i (x ∷ s) = ap suc (length_sees u (suc i) s)

pub length_kept : (r : ℕ → Rights) (i : ℕ) (s : Store) → length (kept_from i r s) ≡ length s
length_kept r i [] = refl
length_kept r i (x ∷ s) = ap suc (length_kept r (suc i) s)

pub kept_at : (r : ℕ → Rights) (b : ℕ) (s : Store) (i : ℕ) → is_immediate (r (b + i)).reads ≡ true → at_object (kept_from b r s) i ≡ at_object s i
kept_at r b [] i e = refl
kept_at r b (x ∷ s) zero e =
    ap (λ c. if c then x else []) (subst (λ z. is_immediate (r z).reads ≡ true) (add-zero b) e)
kept_at r b (x ∷ s) (suc i) e =
    let z : b + suc i ≡ suc b + i = omega arith in
    kept_at r (suc b) s i (subst (λ k. is_immediate (r k).reads ≡ true) z e)

-- a content that is set, or none where there is none
pub set_at : (s w : Store) (o : ℕ) → length s ≡ length w → at_object (slice_set s o (at_object w o)) o ≡ at_object w o
set_at s w o h = in_range (nat_lt o (length s)) refl
  where
    in_range : (b : Bool) → nat_lt o (length s) ≡ b → at_object (slice_set s o (at_object w o)) o ≡ at_object w o
    in_range true e = get_or-set_same s o _ [] (ltb-true o (length s) e)
    in_range false e =
        let past : length s ≤ o = ltb-false o (length s) e in
        let past_too : length w ≤ o = subst (λ n. n ≤ o) h past in
        ap (λ z. at_object z o) (set_past s o _ past) ∙ get_or_past s o [] past ∙ sym (get_or_past w o [] past_too)
