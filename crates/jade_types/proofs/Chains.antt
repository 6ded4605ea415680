-- Chains and signs that are gone through, one operand after another.
use Rattle.std.proofs.Common.{◌≡◌, ℕ, ◌+◌, ◌≤◌, List, [], ◌∷◌, map, drop, length, Option, Some, None, refl, ap, sym, ◌∙◌, subst, arith}
use Rattle.std.specs.List.{slice_get}
use Rattle.std.proofs.lemmas.List.{drop_all}
use Rattle.jade_base.specs.declared.place.Pos.{Pos}
use Rattle.jade_syntax.specs.declared.tree.ValueKind.{ValueKind}
use Rattle.jade_syntax.specs.declared.tree.UnaryOp.{UnaryOp}
use Rattle.jade_syntax.specs.Abstract.{Name}
use Rattle.jade_syntax.specs.Placed.{Term, object_start}
use Rattle.jade_syntax.specs.PlacedImage.{Linked, links, chained, named_object, signed}
use Rattle.jade_syntax.specs.StaticFaults.{Site, Needs, Names, operand_kind, result_kind, sign_kind, link_sites}
use Rattle.jade_syntax.proofs.Limits.{drop_item}
use Rattle.jade_types.specs.declared.faults.notes.Notes.{Notes}
use Rattle.jade_types.specs.declared.faults.notes.Seen.{Seen}
use Rattle.jade_types.specs.steps.Noted.{Noted, Visited}
use Rattle.jade_types.proofs.Noting.{Left, goes_on, ends, after}

-- the places of the links of a chain
abbrev pub linked_sites : {A : Type 0} → (A → Linked) → Names → List A → List Site
linked_sites link names xs = link_sites names (links (map link xs))

module _ {A : Type 0} (link : A → Linked) (needs gives : ValueKind) (needed : (x : A) → operand_kind (link x).operator ≡ needs)
    (given : (x : A) → result_kind (link x).operator ≡ gives) where
  -- one link more
  pub link_more : {n0 n1 n2 n3 : Notes} {all : List Site} {seen : Seen} {names : Names} (xs : List A) (i : ℕ) (x : A) → slice_get xs i ≡ Some x →
      Left n0 n1 all (linked_sites link names (drop i xs)) → Visited n1 n2 seen names (link x).operand
      → Noted n2 n3 (Needs needs (link x).operand names ∷ []) →
      Left n0 n3 all (linked_sites link names (drop (i + 1) xs))
  link_more {n0} {n1} {n2} {n3} {all} {seen} {names} xs i x at left visited need =
      let P : List A → Type 0 = λ ys. Left n0 n1 all (linked_sites link names ys) in
      let Q : ValueKind → Type 0 = λ k. Noted n2 n3 (Needs k (link x).operand names ∷ []) in
      goes_on {a = Needs (operand_kind (link x).operator) (link x).operand names ∷ []} (goes_on (subst P (drop_item xs i x at) left) visited.noted)
      (subst Q (sym (needed x)) need)

  -- all links of a chain
  pub links_done : {n0 n1 n2 n3 : Notes} {seen : Seen} {names : Names} (first : Term) (xs : List A) (n : ℕ) → 1 ≤ length xs → length xs ≤ n →
      Visited n0 n1 seen names first → Noted n1 n2 (Needs needs first names ∷ [])
      → Left n2 n3 (linked_sites link names xs) (linked_sites link names (drop n xs)) →
      Visited n0 n3 (record { kind = Some gives; pos = seen.pos }) names (chained first (map link xs))
  links_done first [] n some le visited need left = absurd (omega arith)
  links_done {n0} {n1} {n2} {n3} {seen} {names} first (x ∷ xs) n some le visited need left =
      let P : List A → Type 0 = λ ys. Left n2 n3 (linked_sites link names (x ∷ xs)) (linked_sites link names ys) in
      let Q : ValueKind → Type 0 = λ k. Noted n1 n2 (Needs k first names ∷ []) in
      record {
        noted = after (after visited.noted (subst Q (sym (needed x)) need)) (ends (subst P (drop_all n (x ∷ xs) le) left));
        sees = record { kind = ap Some (sym (given x)); pos = visited.sees.pos };
      }

  -- a chain of no links
  pub no_links : {n0 n1 : Notes} {seen : Seen} {names : Names} (first : Term) (xs : List A) → length xs ≡ 0 → Visited n0 n1 seen names first
      → Visited n0 n1 seen names (chained first (map link xs))
  no_links first [] none visited = visited
  no_links first (x ∷ xs) none visited = absurd (omega arith)

-- one sign more, from the innermost outwards
pub sign_more : {n0 n1 n2 : Notes} {seen : Seen} {names : Names} (e : Term) (signs : List (UnaryOp × Pos)) (i j : ℕ) (s : UnaryOp × Pos) (k : ValueKind)
    → i + 1 ≡ j → slice_get signs i ≡ Some s → k ≡ sign_kind s.0 →
    Visited n0 n1 seen names (signed (drop j signs) e) → Noted n1 n2 (Needs k (signed (drop j signs) e) names ∷ []) →
    Visited n0 n2 (record { kind = Some k; pos = s.1 }) names (signed (drop i signs) e)
sign_more {n0} {n1} {n2} {seen} {names} e signs i j s k h at is visited need =
    let P : List (UnaryOp × Pos) → Type 0 = λ ss. Visited n0 n2 (record { kind = Some k; pos = s.1 }) names (signed ss e) in
    let Q : ValueKind → Type 0 = λ l. Noted n1 n2 (Needs l (signed (drop j signs) e) names ∷ []) in
    let outer : Visited n0 n2 (record { kind = Some k; pos = s.1 }) names (signed (s ∷ drop j signs) e) =
    record { noted = after visited.noted (subst Q is need); sees = record { kind = ap Some is; pos = refl } } in
    subst P (sym (drop_item signs i s at ∙ ap (λ m. s ∷ drop m signs) h)) outer

-- what was gone through is the tree that it is opened to
pub opened_as : {n0 n1 : Notes} {seen : Seen} {names : Names} (e parts : Term) → e ≡ parts → Visited n0 n1 seen names parts → Visited n0 n1 seen names e
opened_as {n0} {n1} {seen} {names} e parts is visited = let P : Term → Type 0 = λ t. Visited n0 n1 seen names t in subst P (sym is) visited

-- an object begins with its name
pub object_begins : (x : Name) (at : Pos) (index : Option Term) → at ≡ object_start (named_object x at index)
object_begins x at None = refl
object_begins x at (Some e) = refl
