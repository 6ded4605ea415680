-- The code of the expressions of a program without static faults: the objects that it names are there.
use Rattle.std.proofs.Common.{◌≡◌, ℕ, ◌+◌, List, [], ◌∷◌, ◌++◌, Option, Some, None, refl}
use Rattle.jade_syntax.specs.declared.tree.Item.{Item}
use Rattle.std.specs.Prelude.{Bool}
use Rattle.std.proofs.lemmas.Option.{none-some}
use Rattle.jade_syntax.specs.Abstract as abs
use Rattle.jade_syntax.specs.Abstract.{Or, And, Relates, Adds, Multiplies, Expression}
use Rattle.code_meaning.specs.declared.code.BinaryOp.{BinaryOp}
use Rattle.code_meaning.specs.declared.code.BinaryOp.TheVariants as op
use Rattle.jade_syntax.specs.Objects.{sizes}
use Rattle.jade_syntax.specs.Placed.{Term, Whole, Truth, Variable, Group, Signed, Chain, Cell, Links, Last, Link, Object, Alone, Member}
use Rattle.jade_syntax.specs.Erased.{erased, erased_links, erased_object}
use Rattle.jade_syntax.specs.StaticFaults.{Names, term_sites, link_sites, object_sites, first_need}
use Rattle.code_meaning.specs.declared.code.Logic.TheVariants as logic
use Rattle.code_meaning.specs.declared.code.Operand.{Operand}
use Rattle.code_meaning.specs.declared.code.Instruction.{Instruction}
use Rattle.code_meaning.specs.declared.code.Instruction.TheVariants as i
use Rattle.task_translation.specs.Keys.{Key, Kept, pick, joined}
use Rattle.task_translation.proofs.Keeping.{picked}
use Rattle.task_translation.specs.Compile.{key_of, key_of_links, index_of, index_at, index_operand, keeping, only}
use Rattle.task_translation.specs.Compile.{Scope, brought, operand_of, unless, range_of, member_reached, code_of, code_of_links, code_at}
use Rattle.task_translation.specs.Compile.{code_of_place, store_code}
use Rattle.code_keeps.proofs.Declared.{Knows}
use Rattle.code_keeps.proofs.Faultless.{Faultless, split, rest, single, family}
use Rattle.code_keeps.proofs.Fits.{AllFit, none_fit, before_fit, both_fit, one_fits, brought_fits, unless_fits, read_fits, reached_fits}

first_key : (o : BinaryOp) (a b : Option Key) (p : Key) → joined o a b ≡ Some p → (q : Key) × (a ≡ Some q)
first_key o None b p h = absurd (none-some p h)
first_key o (Some q) b p h = (q, refl)

second_key : (o : BinaryOp) (a b : Option Key) (p : Key) → joined o a b ≡ Some p → (q : Key) × (b ≡ Some q)
second_key o None b p h = absurd (none-some p h)
second_key o (Some q) None p h = absurd (none-some p h)
second_key o (Some q) (Some r) p h = (r, refl)

-- a chain with a key begins with one
links_key : (l : abs.Links) (scope : Scope) (k : Option Key) (p : Key) → key_of_links scope k l ≡ Some p → (q : Key) × (k ≡ Some q)
links_key abs.Last scope k p h = (p, h)
links_key (abs.Link Or at e links) scope k p h = absurd (none-some p h)
links_key (abs.Link And at e links) scope k p h = absurd (none-some p h)
links_key (abs.Link (Relates r) at e links) scope k p h = absurd (none-some p h)
links_key (abs.Link (Adds r) at e links) scope k p h =
    let q = links_key links scope (joined (op.Adds r) k (key_of scope e)) p h in first_key (op.Adds r) k (key_of scope e) q.0 q.1
links_key (abs.Link (Multiplies r) at e links) scope k p h =
    let q = links_key links scope (joined (op.Multiplies r) k (key_of scope e)) p h in first_key (op.Multiplies r) k (key_of scope e) q.0 q.1

module _ (items : List Item) (lo hi : ℕ) (names : Names) (k : Knows items names) where
  abbrev AllIn : List Instruction → Type 0
  AllIn code = AllFit (sizes items) lo hi code

  -- an operator on the value of a chain so far and another
  operate_fits : (x : Instruction) (code more : List Instruction) (o : Option Operand) → AllIn code → AllIn (x ∷ []) → AllIn more
      → AllIn (unless o code ++ x ∷ more)
  operate_fits x code more o f g h = both_fit (unless o code) (x ∷ more) (unless_fits o code f) (both_fit (x ∷ []) more g h)

  mutual
    pub term_fits : (e : Term) → Faultless (term_sites names e) → (ks : List Kept) (scope : Scope) (t : ℕ) → AllIn (code_of items ks scope t (erased e))
    term_fits (Whole z at) f ks scope t = one_fits _ refl tt
    term_fits (Truth b at) f ks scope t = one_fits _ refl tt
    term_fits (Variable x at) f ks scope t = one_fits _ refl tt
    term_fits (Group at e) f ks scope t = term_fits e f ks scope t
    term_fits (Signed sign at e) f ks scope t =
        let g = split (term_sites names e) _ f in
        both_fit (unless (operand_of scope (erased e)) _) _ (unless_fits (operand_of scope (erased e)) _ (term_fits e g.0 ks scope t)) (one_fits _ refl tt)
    term_fits (Chain e links) f ks scope t =
        let g = split (term_sites names e ++ first_need names e links) (link_sites names links) f in
        let h = split (term_sites names e) (first_need names e links) g.0 in
        both_fit (unless (operand_of scope (erased e)) _) _ (unless_fits (operand_of scope (erased e)) _ (term_fits e h.0 ks scope t))
        (links_fit links g.1 ks scope t (operand_of scope (erased e)))
    term_fits (Cell (Alone x at) e) f ks scope t =
        let s = single items names x at _ k f in
        let g = split (term_sites names e) _ (rest _ _ f) in
        both_fit (unless (operand_of scope (erased e)) _) _ (unless_fits (operand_of scope (erased e)) _ (term_fits e g.0 ks scope t)) (one_fits _ s.single tt)
    term_fits (Cell (Member x at j) e) f ks scope t =
        let s = family items names x at _ k f in
        let g = split (object_sites names (Member x at j) ++ term_sites names e) _ f in
        let h = split (object_sites names (Member x at j)) (term_sites names e) g.0 in
        let q = split (term_sites names j) _ (rest _ _ h.0) in
        both_fit (unless (index_of ks scope (erased j)) _) _ (unless_fits (index_of ks scope (erased j)) _ (term_fits j q.0 ks scope t))
        (read_fits (range_of items x) t _ (operand_of scope (erased e)) _ at s (term_fits e h.1 ks scope (t + 1)))

    links_fit : (l : Links) → Faultless (link_sites names l) → (ks : List Kept) (scope : Scope) (t : ℕ) (o : Option Operand)
        → AllIn (code_of_links items ks scope t o (erased_links l))
    links_fit Last f ks scope t o = brought_fits t o
    links_fit (Link Or at e links) f ks scope t o =
        let g = split (term_sites names e) _ f in
        both_fit (brought t o) _ (brought_fits t o)
        (before_fit (i.Decide logic.Or t _) _ (record { objects = refl; creates = tt })
        (both_fit (code_of items ks scope t (erased e)) _ (term_fits e g.0 ks scope t) (links_fit links (rest _ _ g.1) ks scope t None)))
    links_fit (Link And at e links) f ks scope t o =
        let g = split (term_sites names e) _ f in
        both_fit (brought t o) _ (brought_fits t o)
        (before_fit (i.Decide logic.And t _) _ (record { objects = refl; creates = tt })
        (both_fit (code_of items ks scope t (erased e)) _ (term_fits e g.0 ks scope t) (links_fit links (rest _ _ g.1) ks scope t None)))
    links_fit (Link (Relates r) at e links) f ks scope t o =
        let g = split (term_sites names e) _ f in
        operate_fits _ _ _ (operand_of scope (erased e)) (term_fits e g.0 ks scope (t + 1)) (one_fits _ refl tt) (links_fit links (rest _ _ g.1) ks scope t None)
    links_fit (Link (Adds r) at e links) f ks scope t o =
        let g = split (term_sites names e) _ f in
        operate_fits _ _ _ (operand_of scope (erased e)) (term_fits e g.0 ks scope (t + 1)) (one_fits _ refl tt) (links_fit links (rest _ _ g.1) ks scope t None)
    links_fit (Link (Multiplies r) at e links) f ks scope t o =
        let g = split (term_sites names e) _ f in
        operate_fits _ _ _ (operand_of scope (erased e)) (term_fits e g.0 ks scope (t + 1)) (one_fits _ refl tt) (links_fit links (rest _ _ g.1) ks scope t None)

  pub at_fits : (e : Term) → Faultless (term_sites names e) → (ks : List Kept) (scope : Scope) (t : ℕ) → AllIn (code_at items ks scope t (erased e))
  at_fits e f ks scope t = unless_fits (operand_of scope (erased e)) _ (term_fits e f ks scope t)

  index_fits : (e : Term) → Faultless (term_sites names e) → (ks : List Kept) (scope : Scope) (t : ℕ) → AllIn (index_at items ks scope t (erased e))
  index_fits e f ks scope t = unless_fits (index_of ks scope (erased e)) _ (term_fits e f ks scope t)

  pub place_fits : (o : Object) → Faultless (object_sites names o) → (ks : List Kept) (scope : Scope) (t : ℕ) → AllIn (code_of_place items ks scope t (erased_object o))
  place_fits (Alone x at) f ks scope t = none_fit
  place_fits (Member x at e) f ks scope t =
      let s = family items names x at _ k f in
      let g = split (term_sites names e) _ (rest _ _ f) in
      both_fit (code_at items ks scope t (erased e)) _ (at_fits e g.0 ks scope t) (one_fits _ s.family tt)

  pub store_fits : (o : Object) (e v : Term) → Faultless (object_sites names o) → Faultless (term_sites names e) → Faultless (term_sites names v)
      → (ks : List Kept) (scope : Scope) (n : ℕ) → AllIn (store_code items ks scope n (erased_object o) (erased e) (erased v))
  store_fits (Alone x at) e v f g h ks scope n =
      let s = single items names x at _ k f in
      both_fit (code_at items ks scope n (erased e)) _ (at_fits e g ks scope n)
      (before_fit (i.Within (range_of items x).size _ at) _ (record { objects = s.size; creates = tt })
      (both_fit (code_at items ks scope (n + 1) (erased v)) _ (at_fits v h ks scope (n + 1)) (one_fits _ s.first tt)))
  store_fits (Member x at j) e v f g h ks scope n =
      let s = family items names x at _ k f in
      let q = split (term_sites names j) _ (rest _ _ f) in
      both_fit (index_at items ks scope n (erased j)) _ (index_fits j q.0 ks scope n)
      (both_fit (member_reached (range_of items x) n (index_operand items ks scope n (erased j)) (operand_of scope (erased e))
      (code_of items ks scope (n + 1) (erased e)) at) _
      (reached_fits (range_of items x) n _ (operand_of scope (erased e)) _ at s (term_fits e g ks scope (n + 1)))
      (both_fit (code_at items ks scope (n + 2) (erased v)) _ (at_fits v h ks scope (n + 2)) (one_fits _ refl tt)))

  mutual
    -- an expression with a key names no object
    keyed_fits : (e : Expression) (ks : List Kept) (scope : Scope) (p : Key) → key_of scope e ≡ Some p → (t : ℕ) → AllIn (code_of items ks scope t e)
    keyed_fits (abs.Whole z) ks scope p h t = one_fits _ refl tt
    keyed_fits (abs.Truth b) ks scope p h t = one_fits _ refl tt
    keyed_fits (abs.Variable x) ks scope p h t = one_fits _ refl tt
    keyed_fits (abs.Group e) ks scope p h t = keyed_fits e ks scope p h t
    keyed_fits (abs.Signed sign at e) ks scope p h t = absurd (none-some p h)
    keyed_fits (abs.Chain e links) ks scope p h t =
        let q = links_key links scope (key_of scope e) p h in
        both_fit (unless (operand_of scope e) _) _ (unless_fits (operand_of scope e) _ (keyed_fits e ks scope q.0 q.1 t))
        (keyed_links_fit links ks scope (key_of scope e) p h t (operand_of scope e))
    keyed_fits (abs.Cell o e) ks scope p h t = absurd (none-some p h)

    keyed_links_fit : (l : abs.Links) (ks : List Kept) (scope : Scope) (k : Option Key) (p : Key) → key_of_links scope k l ≡ Some p → (t : ℕ)
        (o : Option Operand) → AllIn (code_of_links items ks scope t o l)
    keyed_links_fit abs.Last ks scope k p h t o = brought_fits t o
    keyed_links_fit (abs.Link Or at e links) ks scope k p h t o = absurd (none-some p h)
    keyed_links_fit (abs.Link And at e links) ks scope k p h t o = absurd (none-some p h)
    keyed_links_fit (abs.Link (Relates r) at e links) ks scope k p h t o = absurd (none-some p h)
    keyed_links_fit (abs.Link (Adds r) at e links) ks scope k p h t o =
        let q = links_key links scope (joined (op.Adds r) k (key_of scope e)) p h in
        let j = second_key (op.Adds r) k (key_of scope e) q.0 q.1 in
        operate_fits _ _ _ (operand_of scope e) (keyed_fits e ks scope j.0 j.1 (t + 1)) (one_fits _ refl tt)
        (keyed_links_fit links ks scope (joined (op.Adds r) k (key_of scope e)) p h t None)
    keyed_links_fit (abs.Link (Multiplies r) at e links) ks scope k p h t o =
        let q = links_key links scope (joined (op.Multiplies r) k (key_of scope e)) p h in
        let j = second_key (op.Multiplies r) k (key_of scope e) q.0 q.1 in
        operate_fits _ _ _ (operand_of scope e) (keyed_fits e ks scope j.0 j.1 (t + 1)) (one_fits _ refl tt)
        (keyed_links_fit links ks scope (joined (op.Multiplies r) k (key_of scope e)) p h t None)

  only_fits : (e : Expression) (ok : ℕ → Bool) (ks : List Kept) (scope : Scope) (t : ℕ) → AllIn (only (pick ok (key_of scope e)) (code_of items ks scope t e))
  only_fits e ok ks scope t = by_case (pick ok (key_of scope e)) (λ p h. keyed_fits e ks scope p (picked ok (key_of scope e) p h).0 t)
    where
      by_case : (o : Option Key) → ((p : Key) → o ≡ Some p → AllIn (code_of items ks scope t e)) → AllIn (only o (code_of items ks scope t e))
      by_case None f = none_fit
      by_case (Some p) f = f p refl

  pub keeping_fits : (es : List Expression) (ok : ℕ → Bool) (ks : List Kept) (scope : Scope) (t : ℕ) → AllIn (keeping items ks ok scope t es)
  keeping_fits [] ok ks scope t = none_fit
  keeping_fits (e ∷ es) ok ks scope t = both_fit (only (pick ok (key_of scope e)) _) _ (only_fits e ok ks scope t) (keeping_fits es ok ks scope (t + 1))
