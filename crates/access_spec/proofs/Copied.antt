-- The rights in a working copy, by the place of their object.
use Rattle.std.proofs.Common.{◌≡◌, ℕ, suc, ◌+◌, ◌<◌, true, false, cond, eqb, List, [], ◌∷◌, length, get_or, set, Some, None, MatchOption, refl, sym, ap}
use Rattle.std.proofs.Common.{subst, ◌∙◌, arith}
use Rattle.std.proofs.lemmas.Option.{MatchOption-at_some, MatchOption-at_none, get_or_from_slice_get}
use Rattle.std.specs.Prelude.{slice_get}
use Rattle.std.specs.List.{position_from}
use Rattle.jade_base.specs.declared.place.ObjectId.{ObjectId}
use Rattle.jade_base.specs.declared.rights.Rights.{Rights}
use Rattle.jade_base.specs.Rights.{no_rights}
use Rattle.jade_base.specs.Specification.{Specification, is_of}
use Rattle.access_spec.proofs.Places.{MatchOption-weaker}
use Rattle.access_spec.specs.Copies.{copied, copied_in, rewritten, with_copied}

-- the object has no entry, so the copy has no rights on it, and none can be written
pub record IsMissing (es : List (ObjectId × Rights)) (ds : List Rights) (o : ObjectId) : Type 0 where
  pub read : copied_in es ds o ≡ no_rights
  pub write : (r : Rights) → rewritten es ds o r ≡ ds

-- the copy's rights on the object are at this place
pub record IsPlaced (es : List (ObjectId × Rights)) (ds : List Rights) (o : ObjectId) (place : ℕ) : Type 0 where
  pub within : place < length es
  pub read : copied_in es ds o ≡ get_or ds place no_rights
  pub write : (r : Rights) → rewritten es ds o r ≡ set ds place r

IsPlaced-later : (e : ObjectId × Rights) (es : List (ObjectId × Rights)) (d : Rights) (ds : List Rights) (o : ObjectId) (place : ℕ) → eqb e.0.0 o.0 ≡ false
    → IsPlaced es ds o place → IsPlaced (e ∷ es) (d ∷ ds) o (suc place)
IsPlaced-later e es d ds o place q h = record {
  within = let k = h.within in omega arith;
  read = rw q h.read;
  write = λ r. rw q (ap (λ t. d ∷ t) (h.write r));
}

IsMissing-later : (e : ObjectId × Rights) (es : List (ObjectId × Rights)) (d : Rights) (ds : List Rights) (o : ObjectId) → eqb e.0.0 o.0 ≡ false
    → IsMissing es ds o → IsMissing (e ∷ es) (d ∷ ds) o
IsMissing-later e es d ds o q h = record { read = rw q h.read; write = λ r. rw q (ap (λ t. d ∷ t) (h.write r)) }

-- a search for the entry of an object, from a number on
found-from : (es : List (ObjectId × Rights)) (ds : List Rights) (o : ObjectId) (n : ℕ) → length ds ≡ length es → MatchOption (position_from (is_of o) n es)
    (IsMissing es ds o) (λ k. (j : ℕ) × (k ≡ n + j) × IsPlaced es ds o j)
found-from [] ds o n h = record { read = refl; write = λ r. refl }
found-from (e ∷ es) [] o n h = absurd (omega arith)
found-from (e ∷ es) (d ∷ ds) o n h =
    elim (eqb e.0.0 o.0) as (λ b. eqb e.0.0 o.0 ≡ b → MatchOption (cond b (Some n) (position_from (is_of o) (n + 1) es)) (IsMissing (e ∷ es) (d ∷ ds) o)
    (λ k. (j : ℕ) × (k ≡ n + j) × IsPlaced (e ∷ es) (d ∷ ds) o j)) [
      | true ↦ λ q. (0, omega arith, record { within = omega arith; read = rw q; write = λ r. rw q })
      | false ↦ λ q.
          MatchOption-weaker (position_from (is_of o) (n + 1) es) (found-from es ds o (n + 1) (omega arith)) (IsMissing-later e es d ds o q)
          (λ k p. (suc p.0, omega (arith, p.1), IsPlaced-later e es d ds o p.0 q p.2))
    ] refl

pub placed : (s : Specification) (o : ObjectId) (k : ℕ) → length s.draft ≡ length s.entries → Some k ≡ position_from (is_of o) 0 s.entries
    → IsPlaced s.entries s.draft o k
placed s o k h q =
    let p = MatchOption-at_some (IsMissing s.entries s.draft o) (λ k. (j : ℕ) × (k ≡ 0 + j) × IsPlaced s.entries s.draft o j) k (sym q)
    (found-from s.entries s.draft o 0 h) in
    let e : p.0 ≡ k = omega (arith, p.1) in
    subst (λ j. IsPlaced s.entries s.draft o j) e p.2

pub missing : (s : Specification) (o : ObjectId) → length s.draft ≡ length s.entries → None ≡ position_from (is_of o) 0 s.entries
    → IsMissing s.entries s.draft o
missing s o h q =
    MatchOption-at_none (IsMissing s.entries s.draft o) (λ k. (j : ℕ) × (k ≡ 0 + j) × IsPlaced s.entries s.draft o j) (sym q)
    (found-from s.entries s.draft o 0 h)

-- the rights that stand at the place are those of the copy
pub copied-at : (s : Specification) (o : ObjectId) (k : ℕ) (r : Rights) → length s.draft ≡ length s.entries → Some k ≡ position_from (is_of o) 0 s.entries
    → slice_get s.draft k ≡ Some r → copied s o ≡ r
copied-at s o k r h q g = (placed s o k h q).read ∙ get_or_from_slice_get s.draft k r no_rights g

-- a write at the place is a write for the object
pub with_copied-at : (s : Specification) (o : ObjectId) (k : ℕ) (r : Rights) → length s.draft ≡ length s.entries → Some k ≡ position_from (is_of o) 0 s.entries
    → record s { draft = set s.draft k r } ≡ with_copied s o r
with_copied-at s o k r h q = ap (λ ds. record s { draft = ds }) (sym ((placed s o k h q).write r))

-- nothing is written for an object with no entry
pub with_copied-missing : (s : Specification) (o : ObjectId) (r : Rights) → length s.draft ≡ length s.entries → None ≡ position_from (is_of o) 0 s.entries
    → s ≡ with_copied s o r
with_copied-missing s o r h q = ap (λ ds. record s { draft = ds }) (sym ((missing s o h q).write r))
