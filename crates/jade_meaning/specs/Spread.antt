-- A specification kept by its objects, and the same by object number: the rules of rights see no difference.
use Rattle.std.specs.Prelude.{◌≡◌, ℕ, ◌<◌, true, List, map}
use Rattle.jade_base.specs.declared.place.ObjectId.{ObjectId}
use Rattle.jade_base.specs.declared.rights.Rights.{Rights}
use Rattle.jade_base.specs.Rights.{covered}
use Rattle.jade_base.specs.Specification.{rights_in}
use Rattle.jade_meaning.specs.Specification.{Specification, rights_on, numbers, covers}

-- the rights on each of the first n objects
abbrev pub spread : ℕ → List (ObjectId × Rights) → Specification
spread n es = map (λ o. rights_in es (record { 0 = o })) (numbers 0 n)

-- both tell the same rights, and cover the same
pub record SpreadAgrees (n : ℕ) (parent child : List (ObjectId × Rights)) : Type 0 where
  pub same : (o : ℕ) → o < n → rights_on (spread n parent) o ≡ rights_in parent (record { 0 = o })
  pub if_covers : covers (spread n parent) (spread n child) ≡ true
      → (o : ℕ) → o < n → covered (rights_in parent (record { 0 = o })) (rights_in child (record { 0 = o })) ≡ true
  pub if_covered : ((o : ℕ) → o < n → covered (rights_in parent (record { 0 = o })) (rights_in child (record { 0 = o })) ≡ true)
      → covers (spread n parent) (spread n child) ≡ true
