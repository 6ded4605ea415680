-- Words of a section of the task itself, and of one of a child.
use Rattle.std.proofs.Common.{◌≡◌, ℕ, ◌+◌, ◌<◌, ◌≤◌, ◌⊎◌, inl, inr, List, [], ◌∷◌, Bool, true, false, eqb, cond, Option, Some, None}
use Rattle.std.proofs.Common.{refl, sym, ap, ◌∙◌, subst, arith}
use Rattle.std.specs.Prelude.{IsSomeAnd}
use Rattle.std.proofs.lemmas.Bool.{cases_eq, cases_lt, le-leb, lt-leb, eq-eqb, ne_eqb, true≢false}
use Rattle.std.proofs.Math.Dec.{leb}
use Rattle.std.proofs.lemmas.Option.{none-some, same_Some}
use Rattle.jade_base.specs.declared.place.ObjectId.{ObjectId}
use Rattle.jade_base.specs.declared.rights.Rights.{Rights}
use Rattle.jade_base.specs.Rights.{no_rights}
use Rattle.jade_base.specs.Specification.{rights_in, Specification as Sparse}
use Rattle.access_spec.specs.declared.change.Change.{Change}
use Rattle.access_spec.specs.declared.change.Change.TheVariants as change
use Rattle.access_spec.specs.Amended.{amended as amended_by}
use Rattle.access_spec.specs.Copies.{copied, copied_in, with_copied, rewritten}
use Rattle.spec_cover.specs.Cover.{IsCovered, IsCoveredBelow, covered_on}
use Rattle.jade_syntax.specs.declared.tree.DeclareWord.{DeclareWord}
use Rattle.jade_meaning.specs.Changes.{change_of, amended, after_change}
use Rattle.jade_meaning.specs.Specification.{rights_on, covers}
use Rattle.jade_meaning.specs.Spread.{spread, SpreadAgrees}
use Rattle.jade_meaning.specs.Course.{Building, Amending}
use Rattle.task_machine.specs.declared.section.Own.{Own}
use Rattle.task_machine.specs.declared.section.Section.TheVariants as section
use Rattle.task_machine.specs.declared.section.Said.TheVariants as word
use Rattle.task_machine.specs.steps.Owning.{id, copy_spread, draft_of, drafted_as}
use Rattle.task_machine.specs.steps.Acting.{said, amended_to, SaidBy}
use Rattle.task_machine.proofs.Sparse.{tab_at, tab_past, tab_long, tab_set, set_past}

-- a change of no rights leaves none
none_stays : (ch : Change) (r : Rights) → amended_by ch no_rights ≡ Some r → r ≡ no_rights
none_stays change.Reads r h = absurd (none-some r h)
none_stays change.Writes r h = absurd (none-some r h)
none_stays change.Both r h = absurd (none-some r h)
none_stays change.NoReads r h = sym (same_Some no_rights r h)
none_stays change.NoWrites r h = sym (same_Some no_rights r h)
none_stays change.Neither r h = sym (same_Some no_rights r h)

copied_new : (es : List (ObjectId × Rights)) (ds : List Rights) (o : ObjectId) (r : Rights) → (copied_in es ds o ≡ no_rights → r ≡ no_rights)
    → copied_in es (rewritten es ds o r) o ≡ r
copied_new [] ds o r h = sym (h refl)
copied_new (e ∷ es) [] o r h = sym (h refl)
copied_new (e ∷ es) (d ∷ ds) o r h = go (copied_new es ds o r) (cases_eq e.0.0 o.0)
  where
    go : ((copied_in es ds o ≡ no_rights → r ≡ no_rights) → copied_in es (rewritten es ds o r) o ≡ r) → (e.0.0 ≡ o.0) ⊎ (e.0.0 ≡ o.0 → ⊥)
        → copied_in (e ∷ es) (rewritten (e ∷ es) (d ∷ ds) o r) o ≡ r
    go more (inl q) = rw (eq-eqb e.0.0 o.0 q, eq-eqb e.0.0 o.0 q) refl
    go more (inr ne) =
        let h' : copied_in es ds o ≡ no_rights → r ≡ no_rights = λ z. h (rw (ne_eqb e.0.0 o.0 ne) z) in
        rw (ne_eqb e.0.0 o.0 ne, ne_eqb e.0.0 o.0 ne) (more h')

copied_other : (es : List (ObjectId × Rights)) (ds : List Rights) (o k : ObjectId) (r : Rights) → (k.0 ≡ o.0 → ⊥) → copied_in es (rewritten es ds o r) k
    ≡ copied_in es ds k
copied_other [] ds o k r far = refl
copied_other (e ∷ es) [] o k r far = refl
copied_other (e ∷ es) (d ∷ ds) o k r far = go (copied_other es ds o k r far) (cases_eq e.0.0 o.0)
  where
    go : copied_in es (rewritten es ds o r) k ≡ copied_in es ds k → (e.0.0 ≡ o.0) ⊎ (e.0.0 ≡ o.0 → ⊥) → copied_in (e ∷ es) (rewritten (e ∷ es) (d ∷ ds) o r) k
        ≡ copied_in (e ∷ es) (d ∷ ds) k
    go more (inl q) =
        let ne : e.0.0 ≡ k.0 → ⊥ = λ z. far (sym z ∙ q) in
        subst (λ b. copied_in (e ∷ es) (cond b (r ∷ ds) (d ∷ rewritten es ds o r)) k ≡ copied_in (e ∷ es) (d ∷ ds) k) (sym (eq-eqb e.0.0 o.0 q))
        (ap (λ b. cond b r (copied_in es ds k)) (ne_eqb e.0.0 k.0 ne) ∙ sym (ap (λ b. cond b d (copied_in es ds k)) (ne_eqb e.0.0 k.0 ne)))
    go more (inr ne) =
        subst (λ b. copied_in (e ∷ es) (cond b (r ∷ ds) (d ∷ rewritten es ds o r)) k ≡ copied_in (e ∷ es) (d ∷ ds) k) (sym (ne_eqb e.0.0 o.0 ne))
        (ap (cond (eqb e.0.0 k.0) d) more)

module _ (w : Own) (how : DeclareWord) (ch : Change) (o : ℕ) (kind : w.section ≡ section.Amending) (asks : change_of how ≡ Some ch) where
  -- what the word comes to in a section of the task itself
  said_is : (a : Rights) → rights_on (copy_spread w.objects w.spec) o ≡ a → said (draft_of w) how o
      ≡ amended_to (copy_spread w.objects w.spec) o (amended_by ch a)
  said_is a e =
      ap (λ k. said (drafted_as k w.objects w.child w.spec) how o) kind
      ∙ ap (λ r. amended_to (copy_spread w.objects w.spec) o (amended how r)) e
      ∙ ap (λ x. amended_to (copy_spread w.objects w.spec) o (after_change x a)) asks

  within_is : o < w.objects → rights_on (copy_spread w.objects w.spec) o ≡ copied w.spec (id o)
  within_is lt = let z : 0 + o ≡ o = omega arith in tab_at (λ i. copied w.spec (id i)) 0 w.objects o lt ∙ ap (λ i. copied w.spec (id i)) z

  pub changed : (s : Sparse) → o < w.objects → (x : Option Rights) → amended_by ch (copied w.spec (id o)) ≡ x
      → IsSomeAnd x (λ r. s ≡ with_copied w.spec (id o) r) → SaidBy word.Done w how o (record w { spec = s })
  changed s lt None e h = absurd h
  changed s lt (Some r) e h =
      let z : 0 + o ≡ o = omega arith in
      let here : copied s (id (0 + o)) ≡ r =
      ap (λ i. copied s (id i)) z ∙ ap (λ t. copied t (id o)) h
      ∙ copied_new w.spec.entries w.spec.draft (id o) r (λ q. none_stays ch r (ap (amended_by ch) (sym q) ∙ e)) in
      let there : (k : ℕ) → (k ≡ 0 + o → ⊥) → copied w.spec (id k) ≡ copied s (id k) =
      λ k ne. sym (ap (λ t. copied t (id k)) h ∙ copied_other w.spec.entries w.spec.draft (id o) (id k) r (λ q. ne (q ∙ sym z))) in
      let all = tab_set (λ i. copied w.spec (id i)) (λ i. copied s (id i)) 0 w.objects o r here there in (
        record { objects = refl; rights = ap (λ t. t.entries) h },
        said_is (copied w.spec (id o)) (within_is lt) ∙ ap (amended_to (copy_spread w.objects w.spec) o) e ∙ ap (λ l. Some (Amending l)) all
            ∙ ap (λ k. Some (drafted_as k w.objects w.child s)) (sym kind),
      )

  pub refused : (s : Sparse) → o < w.objects → amended_by ch (copied w.spec (id o)) ≡ None → s ≡ w.spec → SaidBy word.Refused w how o (record w { spec = s })
  refused s lt e h =
      (said_is (copied w.spec (id o)) (within_is lt) ∙ ap (amended_to (copy_spread w.objects w.spec) o) e, ap (λ t. record w { spec = t }) h)

  past_is : w.objects ≤ o → rights_on (copy_spread w.objects w.spec) o ≡ no_rights
  past_is le = tab_past (λ i. copied w.spec (id i)) 0 w.objects o le

  pub changed_past : w.objects ≤ o → (r : Rights) → amended_by ch no_rights ≡ Some r → SaidBy word.Done w how o w
  changed_past le r e =
      let long = tab_long (λ i. copied w.spec (id i)) 0 w.objects in (
        record { objects = refl; rights = refl },
        said_is no_rights (past_is le) ∙ ap (amended_to (copy_spread w.objects w.spec) o) e
            ∙ ap (λ l. Some (Amending l)) (set_past (copy_spread w.objects w.spec) o r (omega (arith, long, le)))
            ∙ ap (λ k. Some (drafted_as k w.objects w.child w.spec)) (sym kind),
      )

  pub refused_past : w.objects ≤ o → amended_by ch no_rights ≡ None → SaidBy word.Refused w how o w
  refused_past le e = (said_is no_rights (past_is le) ∙ ap (amended_to (copy_spread w.objects w.spec) o) e, refl)

-- a word on an object that is not there, in a section of a child
pub said_past : (w : Own) (how : DeclareWord) (o : ℕ) → w.section ≡ section.Building → w.objects ≤ o → SaidBy word.Done w how o w
said_past w how o kind le =
    let spec = spread w.objects w.child.entries in
    let long = tab_long (λ i. rights_in w.child.entries (id i)) 0 w.objects in (
      record { objects = refl; rights = refl },
      ap (λ k. said (drafted_as k w.objects w.child w.spec) how o) kind
          ∙ ap (λ l. Some (Building l)) (set_past spec o _ (omega (arith, long, le)))
          ∙ ap (λ k. Some (drafted_as k w.objects w.child w.spec)) (sym kind),
    )

not_true : (b : Bool) → (b ≡ true → ⊥) → b ≡ false
not_true true h = absurd (h refl)
not_true false h = refl

module _ (n : ℕ) (parent child : Sparse) (agree : SpreadAgrees n parent.entries child.entries) where
  pub covers_all : IsCovered parent child → covers (spread n parent.entries) (spread n child.entries) ≡ true
  covers_all h = agree.if_covered (λ o lt. h (id o))

  pub covers_past : (at : ℕ) → n ≤ at → IsCoveredBelow parent child at → covers (spread n parent.entries) (spread n child.entries) ≡ true
  covers_past at le h = agree.if_covered (λ o lt. (h (id o) (omega (arith, lt, le))))

  pub covers_not : (o : ℕ) → o < n → covered_on parent child (id o) ≡ false → covers (spread n parent.entries) (spread n child.entries) ≡ false
  covers_not o lt e = not_true (covers (spread n parent.entries) (spread n child.entries)) (λ h. true≢false (sym (agree.if_covers h o lt) ∙ e))

  pub covers_some : (at : ObjectId) → covered_on parent child at ≡ false → IsCoveredBelow parent child at.0 → leb n at.0
      ≡ covers (spread n parent.entries) (spread n child.entries)
  covers_some at e h = go (cases_lt at.0 n)
    where
      go : (at.0 < n) ⊎ (n ≤ at.0) → leb n at.0 ≡ covers (spread n parent.entries) (spread n child.entries)
      go (inl lt) = lt-leb n at.0 lt ∙ sym (covers_not at.0 lt e)
      go (inr le) = le-leb n at.0 le ∙ sym (covers_past at.0 le h)
