-- A commuting body works on its own object alone, and all of its marks are its own.
use Rattle.std.proofs.Common.{◌≡◌, ◌≢◌, ℕ, suc, true, List, map, sym, ap, ◌∙◌, subst, Some, None, append-nil, refl}
use Rattle.jade_meaning.specs.Specification.{Specification, rights_on, commuting_on, allows_commuting}
use Rattle.jade_meaning.specs.Course.{Course}
use Rattle.jade_base.specs.Rights.{may_write}
use Rattle.jade_meaning.specs.Serial.{Path, Store, serial, with_cell}
use Rattle.jade_meaning.specs.Turns.{Member, below}
use Rattle.jade_meaning.specs.Proper.{Proper, proper_read, proper_write, proper_step, proper_create, proper_change, proper_end}
use Rattle.jade_meaning.specs.Laws.{Every}
use Rattle.schedule_core.proofs.Groups.{Leaves, Sole}
use Rattle.schedule_core.proofs.Ahead.{Clean}
pub use Rattle.jade_meaning.proofs.Soles.{fit_at, own_write, cells_after, after_only, bared_proper}

-- the marks of a body that makes no task
pub flat_leaves : {spec : Specification} {c : Course} → Proper spec c → (o : ℕ) → commuting_on spec ≡ Some o → ((x : ℕ) → may_write (rights_on spec x) ≡ true → x ≡ o) → (p : Path) (k n : ℕ) (s : Store) → ((x : ℕ) → o ≢ x → Leaves x (map (below p) (serial c k n s))) × Every (λ m. m.path ≡ p) (map (below p) (serial c k n s))
flat_leaves (proper_read i f) o e w p k n s =
    let r = flat_leaves (f _) o e w p k n s in (λ x ne. (tt, r.0 x ne), (append-nil p, r.1))
flat_leaves (proper_write {o = y} {c = c} {v = v} i q) o e w p k n s =
    let r = flat_leaves q o e w p k n (with_cell s y c v) in
    (λ x ne. (λ j. ne (sym (w y i) ∙ j), r.0 x ne), (append-nil p, r.1))
flat_leaves (proper_step q) o e w p k n s = flat_leaves q o e w p k (suc n) s
flat_leaves (proper_create none a b d f g) o e w p k n s = absurd (let z : Some o ≡ None = sym e ∙ none in cc)
flat_leaves (proper_change none a b) o e w p k n s = absurd (let z : Some o ≡ None = sym e ∙ none in cc)
flat_leaves proper_end o e w p k n s = (λ x ne. (tt, tt), (append-nil p, tt))

-- a member whose body keeps to its specification
pub proper_sole : {spec : Specification} (q : Member) → Proper spec q.course → commuting_on spec ≡ Some q.object → allows_commuting (Some q.object) spec ≡ true → Sole q
proper_sole {spec} q p e fit =
    (λ s x ne. ((λ j. ne j), (flat_leaves p q.object e (own_write q.object spec fit) q.path 0 q.steps _).0 x ne), λ s. (refl, (flat_leaves p q.object e (own_write q.object spec fit) q.path 0 q.steps _).1))

-- a course that keeps to its specification has bodies that do
pub proper_clean : {spec : Specification} {c : Course} → Proper spec c → Clean c
proper_clean (proper_read i f) = λ v. proper_clean (f v)
proper_clean (proper_write i q) = proper_clean q
proper_clean (proper_step q) = proper_clean q
proper_clean (proper_create {child = child} {body = body} none fit cov size b q) =
    (λ x e p kept. proper_sole _ (bared_proper b 0) e (subst (λ z. allows_commuting z child ≡ true) e fit), proper_clean b, proper_clean q)
proper_clean (proper_change none m q) = proper_clean q
proper_clean proper_end = tt
