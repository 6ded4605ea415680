-- The code of the statements of a program without static faults, and the bodies that they create.
use Rattle.std.proofs.Common.{◌≡◌, ℕ, zero, suc, ◌+◌, ◌≤◌, List, [], ◌∷◌, ◌++◌, length, map, Option, Some, None, refl, subst, arith}
use Rattle.std.specs.Prelude.{slice_get}
use Rattle.std.proofs.lemmas.Bool.{eq-eqb}
use Rattle.std.proofs.lemmas.Option.{none-some, same_Some}
use Rattle.jade_syntax.specs.declared.tree.Item.{Item}
use Rattle.jade_syntax.specs.declared.tree.ValueKind.{ValueKind}
use Rattle.jade_syntax.specs.declared.tree.ValueKind.TheVariants as value
use Rattle.jade_syntax.specs.Abstract.{Name, Expression}
use Rattle.jade_syntax.specs.Objects.{sizes}
use Rattle.jade_syntax.specs.Placed.{Term, Object, Alone, Member, Phrase, Local, Assign, Store, If, IfElse, For, Withonly, With, Declare, Phrases, Done, Then}
use Rattle.jade_syntax.specs.Erased.{erased, erased_object, erased_mention, erased_phrase, erased_phrases}
use Rattle.jade_syntax.specs.StaticFaults.{Names, known, Holds, Turns, kind_of_name, found, Needs, needed, given, term_sites, object_sites, names_after}
use Rattle.jade_syntax.specs.StaticFaults.{parameters as handed, mention_sites, sites, block_sites}
use Rattle.code_meaning.specs.declared.code.Operand.{Operand}
use Rattle.code_meaning.specs.declared.code.Instruction.{Instruction}
use Rattle.code_meaning.specs.declared.code.Instruction.TheVariants as i
use Rattle.code_meaning.specs.Meaning.{Body}
use Rattle.task_translation.specs.Keys.{Kept}
use Rattle.task_translation.specs.Compile.{candidates, inside, is_steady, kept_from, looping, loop_code}
use Rattle.task_translation.specs.Compile.{Scope, entry, slot_of, code_of, code_at, code_of_place, call_of, inputs_in, parameters, scope_after, next_after}
use Rattle.task_translation.specs.Compile.{bodies_in, bodies_in_all, code_for, code_for_all, body_for, bodies_for, bodies_for_all}
use Rattle.task_translation.proofs.Statements.{bodies_many, bodies_many_all}
use Rattle.code_keeps.proofs.Declared.{Knows, knows_more}
use Rattle.code_keeps.proofs.Faultless.{Faultless, split, rest, single, knows_parameters}
use Rattle.code_keeps.proofs.Fits.{AllFit, none_fit, before_fit, both_fit, one_fits, stored_fits}
use Rattle.code_keeps.proofs.FitTerms.{term_fits, at_fits, place_fits, store_fits, keeping_fits}

-- a value that must be of a kind
needed_is : (k : ValueKind) (names : Names) (e : Term) → Faultless (needed k names e) → Faultless (term_sites names e)
needed_is k names e f = (split (term_sites names e) (Needs k e names ∷ []) f).0

given_is : (k : Option ValueKind) (names : Names) (e : Term) → Faultless (given k names e) → Faultless (term_sites names e)
given_is None names e f = f
given_is (Some k) names e f = needed_is k names e f

-- of bodies with the numbers from base on, each creates later ones below hi
pub record BodiesFit (sizes : List ℕ) (base hi : ℕ) (bodies : List Body) : Type 0 where
  pub each : (k : ℕ) (b : Body) → slice_get bodies k ≡ Some b → AllFit sizes (base + k + 1) hi b.code

module _ {sizes : List ℕ} {hi : ℕ} where
  no_bodies : {base : ℕ} → BodiesFit sizes base hi []
  no_bodies = record { each = λ k b h. absurd (none-some b h) }

  pub first_fits : (base : ℕ) (b : Body) (bodies : List Body) → AllFit sizes (base + 1) hi b.code → BodiesFit sizes (base + 1) hi bodies
      → BodiesFit sizes base hi (b ∷ bodies)
  first_fits base b bodies f g = record { each = by_case }
    where
      by_case : (k : ℕ) (c : Body) → slice_get (b ∷ bodies) k ≡ Some c → AllFit sizes (base + k + 1) hi c.code
      by_case zero c h =
          let e : base + 1 ≡ base + 0 + 1 = omega arith in
          subst (λ n. AllFit sizes n hi c.code) e (subst (λ (d : Body). AllFit sizes (base + 1) hi d.code) (same_Some b c h) f)
      by_case (suc k) c h =
          let e : base + 1 + k + 1 ≡ base + suc k + 1 = omega arith in subst (λ n. AllFit sizes n hi c.code) e (g.each k c h)

  both_bodies : (base count : ℕ) (a b : List Body) → length a ≡ count → BodiesFit sizes base hi a → BodiesFit sizes (base + count) hi b
      → BodiesFit sizes base hi (a ++ b)
  both_bodies base count [] b e f g = let same : base + count ≡ base = omega (arith, e) in subst (λ n. BodiesFit sizes n hi b) same g
  both_bodies base count (x ∷ a) b e f g =
      let first : AllFit sizes (base + 1) hi x.code = let same : base + 0 + 1 ≡ base + 1 = omega arith in
      subst (λ n. AllFit sizes n hi x.code) same (f.each 0 x refl) in
      let later : BodiesFit sizes (base + 1) hi a = record {
        each = λ k c h. let same : base + suc k + 1 ≡ base + 1 + k + 1 = omega arith in subst (λ n. AllFit sizes n hi c.code) same (f.each (suc k) c h);
      } in
      let same : base + count ≡ base + 1 + length a = omega (arith, e) in
      first_fits base x (a ++ b) first (both_bodies (base + 1) (length a) a b refl later (subst (λ n. BodiesFit sizes n hi b) same g))

-- the names known after a statement
knows_after : (items : List Item) (p : Phrase) (names : Names) → Knows items names → Knows items (names_after names p)
knows_after items (Local kind x at e) names k = knows_more items x (Holds (Some kind)) names (λ o. o) k
knows_after items (Assign x at e) names k = k
knows_after items (Store o e v) names k = k
knows_after items (If e one) names k = k
knows_after items (IfElse e one other) names k = k
knows_after items (For x at low high body) names k = k
knows_after items (Withonly at section params body) names k = k
knows_after items (With at section) names k = k
knows_after items (Declare how at o) names k = k

-- a loop
loop_fits : {sizes : List ℕ} {lo hi : ℕ} (n : ℕ) (body : List Instruction) → AllFit sizes lo hi body → AllFit sizes lo hi (loop_code n body)
loop_fits n body f = before_fit _ _ (record { objects = refl; creates = tt }) (both_fit body _ f (one_fits _ refl tt))

looping_fits : {sizes : List ℕ} {lo hi : ℕ} (n : ℕ) (es : List Expression) (plain keep fast : List Instruction) → AllFit sizes lo hi plain
    → AllFit sizes lo hi keep → AllFit sizes lo hi fast → AllFit sizes lo hi (looping n es plain keep fast)
looping_fits n [] plain keep fast f g h = loop_fits n plain f
looping_fits n (e ∷ es) plain keep fast f g h =
    let first = plain ++ keep in
    let led = i.Jump (length first + 2) ∷ first in
    before_fit _ _ (record { objects = refl; creates = tt })
    (before_fit _ _ (record { objects = refl; creates = tt })
    (both_fit (loop_code n led) (loop_code n fast)
    (loop_fits n led (before_fit _ first (record { objects = refl; creates = tt }) (both_fit plain keep f g))) (loop_fits n fast h)))

-- the names of the items, known within every task
module _ (items : List Item) (base : Names) (all : Knows items base) where
  mutual
    phrase_fits : (p : Phrase) (lo hi : ℕ) (names : Names) → Knows items names → Faultless (sites base names p) → (ks : List Kept) (scope : Scope) (n b : ℕ) → lo ≤ b
        → b + bodies_in (erased_phrase p) ≤ hi → AllFit (sizes items) lo hi (code_for items ks scope n b (erased_phrase p))
    phrase_fits (Local kind x at e) lo hi names k f ks scope n b low high = term_fits items lo hi names k e (needed_is kind names e (rest _ _ f)) ks scope n
    phrase_fits (Assign x at e) lo hi names k f ks scope n b low high =
        both_fit (code_of items ks scope n (erased e)) _
        (term_fits items lo hi names k e (given_is (kind_of_name (found x names)) names e (rest _ _ f)) ks scope n) (stored_fits (slot_of x scope) n)
    phrase_fits (Store o e v) lo hi names k f ks scope n b low high =
        let g = split (object_sites names o ++ needed value.Int names e) (needed value.Int names v) f in
        let h = split (object_sites names o) (needed value.Int names e) g.0 in
        store_fits items lo hi names k o e v h.0 (needed_is value.Int names e h.1) (needed_is value.Int names v g.1) ks scope n
    phrase_fits (If e one) lo hi names k f ks scope n b low high =
        let g = split (needed value.Bool names e) _ f in
        both_fit (code_at items ks scope n (erased e)) _ (at_fits items lo hi names k e (needed_is value.Bool names e g.0) ks scope n)
        (before_fit _ _ (record { objects = refl; creates = tt }) (phrases_fit one lo hi names k g.1 ks scope n b low high))
    phrase_fits (IfElse e one other) lo hi names k f ks scope n b low high =
        let g = split (needed value.Bool names e ++ block_sites base names one) (block_sites base names other) f in
        let h = split (needed value.Bool names e) (block_sites base names one) g.0 in
        both_fit (code_at items ks scope n (erased e)) _ (at_fits items lo hi names k e (needed_is value.Bool names e h.0) ks scope n)
        (before_fit _ _ (record { objects = refl; creates = tt })
        (both_fit (code_for_all items ks scope n b (erased_phrases one)) _ (phrases_fit one lo hi names k h.1 ks scope n b low (omega (arith, high)))
        (before_fit _ _ (record { objects = refl; creates = tt })
        (phrases_fit other lo hi names k g.1 ks scope n (b + bodies_in_all (erased_phrases one)) (omega (arith, low)) (omega (arith, high))))))
    phrase_fits (For x at low_bound high_bound body) lo hi names k f ks scope n b low high =
        let g = split (needed value.Int names low_bound ++ needed value.Int names high_bound) (block_sites base (known x Turns ∷ names) body) (rest _ _ f) in
        let h = split (needed value.Int names low_bound) (needed value.Int names high_bound) g.0 in
        both_fit (code_of items ks scope n (erased low_bound)) _ (term_fits items lo hi names k low_bound (needed_is value.Int names low_bound h.0) ks scope n)
        (both_fit (code_of items ks scope (n + 1) (erased high_bound)) _
        (term_fits items lo hi names k high_bound (needed_is value.Int names high_bound h.1) ks scope (n + 1))
        (looping_fits n (candidates (entry x (n + 2) ∷ scope) n (erased_phrases body)) _ _ _
        (phrases_fit body lo hi (known x Turns ∷ names) (knows_more items x Turns names (λ o. o) k) g.1 ks (entry x (n + 2) ∷ scope)
        (inside (entry x (n + 2) ∷ scope) n (erased_phrases body)) b low high)
        (keeping_fits items lo hi names k (candidates (entry x (n + 2) ∷ scope) n (erased_phrases body)) (is_steady (entry x (n + 2) ∷ scope) n (erased_phrases body)) ks
        (entry x (n + 2) ∷ scope) (n + 3))
        (phrases_fit body lo hi (known x Turns ∷ names) (knows_more items x Turns names (λ o. o) k) g.1
        (kept_from (is_steady (entry x (n + 2) ∷ scope) n (erased_phrases body)) (entry x (n + 2) ∷ scope) (n + 3) (candidates (entry x (n + 2) ∷ scope) n (erased_phrases body))) (entry x (n + 2) ∷ scope) (inside (entry x (n + 2) ∷ scope) n (erased_phrases body)) b low high)))
    phrase_fits (Withonly at section params body) lo hi names k f ks scope n b low high =
        let inner = handed names [] params ++ base in
        let g = split (block_sites base names section ++ mention_sites names [] params) (block_sites base inner body) f in
        let h = split (block_sites base names section) (mention_sites names [] params) g.0 in
        let next = b + 1 + bodies_in_all (erased_phrases body) in
        before_fit _ _ (record { objects = eq-eqb (length (sizes items)) (length (sizes items)) refl; creates = tt })
        (both_fit (code_for_all items ks scope n next (erased_phrases section)) _
        (phrases_fit section lo hi names k h.0 ks scope n next (omega (arith, low)) (omega (arith, high)))
        (one_fits _ refl (low, omega (arith, high))))
    phrase_fits (With at section) lo hi names k f ks scope n b low high =
        before_fit _ _ (record { objects = refl; creates = tt })
        (both_fit (code_for_all items ks scope n b (erased_phrases section)) _ (phrases_fit section lo hi names k f ks scope n b low high) (one_fits _ refl tt))
    phrase_fits (Declare how at o) lo hi names k f ks scope n b low high = declare_fits o f
      where
        declare_fits : (o : Object) → Faultless (object_sites names o)
            → AllFit (sizes items) lo hi (code_for items ks scope n b (erased_phrase (Declare how at o)))
        declare_fits (Alone x p) f = one_fits _ (single items names x p _ k f).first tt
        declare_fits (Member x p e) f =
            both_fit (code_of_place items ks scope n (erased_object (Member x p e))) _ (place_fits items lo hi names k (Member x p e) f ks scope n)
            (one_fits _ refl tt)

    pub phrases_fit : (ps : Phrases) (lo hi : ℕ) (names : Names) → Knows items names → Faultless (block_sites base names ps) → (ks : List Kept) (scope : Scope) (n b : ℕ)
        → lo ≤ b → b + bodies_in_all (erased_phrases ps) ≤ hi → AllFit (sizes items) lo hi (code_for_all items ks scope n b (erased_phrases ps))
    phrases_fit Done lo hi names k f ks scope n b low high = none_fit
    phrases_fit (Then p more) lo hi names k f ks scope n b low high =
        let g = split (sites base names p) _ f in
        before_fit i.Step _ (record { objects = refl; creates = tt })
        (both_fit (code_for items ks scope n b (erased_phrase p)) _ (phrase_fits p lo hi names k g.0 ks scope n b low (omega (arith, high)))
        (phrases_fit more lo hi (names_after names p) (knows_after items p names k) g.1 ks (scope_after scope n (erased_phrase p))
        (next_after n (erased_phrase p)) (b + bodies_in (erased_phrase p)) (omega (arith, low)) (omega (arith, high))))

  -- a body with this number
  pub body_fits : (call : List Operand) (xs : List Name) (b hi : ℕ) (ps : Phrases) (names : Names) → Knows items names → Faultless (block_sites base names ps)
      → b + 1 + bodies_in_all (erased_phrases ps) ≤ hi → AllFit (sizes items) (b + 1) hi (body_for items call xs (b + 1) (erased_phrases ps)).code
  body_fits call xs b hi ps names k f high =
      both_fit (code_for_all items [] (parameters items xs) (inputs_in items + length xs) (b + 1) (erased_phrases ps)) _
      (phrases_fit ps (b + 1) hi names k f [] (parameters items xs) (inputs_in items + length xs) (b + 1) (omega arith) high) (one_fits _ refl tt)

  mutual
    phrase_bodies : (p : Phrase) (hi : ℕ) (names : Names) → Knows items names → Faultless (sites base names p) → (scope : Scope) (n b : ℕ)
        → b + bodies_in (erased_phrase p) ≤ hi → BodiesFit (sizes items) b hi (bodies_for items scope n b (erased_phrase p))
    phrase_bodies (Local kind x at e) hi names k f scope n b high = no_bodies
    phrase_bodies (Assign x at e) hi names k f scope n b high = no_bodies
    phrase_bodies (Store o e v) hi names k f scope n b high = no_bodies
    phrase_bodies (If e one) hi names k f scope n b high = phrases_bodies one hi names k (split (needed value.Bool names e) _ f).1 scope n b high
    phrase_bodies (IfElse e one other) hi names k f scope n b high =
        let g = split (needed value.Bool names e ++ block_sites base names one) (block_sites base names other) f in
        let h = split (needed value.Bool names e) (block_sites base names one) g.0 in
        both_bodies b (bodies_in_all (erased_phrases one)) (bodies_for_all items scope n b (erased_phrases one)) _
        (bodies_many_all items (erased_phrases one) scope n b) (phrases_bodies one hi names k h.1 scope n b (omega (arith, high)))
        (phrases_bodies other hi names k g.1 scope n (b + bodies_in_all (erased_phrases one)) (omega (arith, high)))
    phrase_bodies (For x at low_bound high_bound body) hi names k f scope n b high =
        let g = split (needed value.Int names low_bound ++ needed value.Int names high_bound) (block_sites base (known x Turns ∷ names) body) (rest _ _ f) in
        let h = split (needed value.Int names low_bound) (needed value.Int names high_bound) g.0 in
        phrases_bodies body hi (known x Turns ∷ names) (knows_more items x Turns names (λ o. o) k) g.1 (entry x (n + 2) ∷ scope) (inside (entry x (n + 2) ∷ scope) n (erased_phrases body)) b high
    phrase_bodies (Withonly at section params body) hi names k f scope n b high =
        let xs = map erased_mention params in
        let inner = handed names [] params ++ base in
        let g = split (block_sites base names section ++ mention_sites names [] params) (block_sites base inner body) f in
        let h = split (block_sites base names section) (mention_sites names [] params) g.0 in
        let more = knows_parameters items base names [] params all in
        first_fits b (body_for items (call_of scope xs) xs (b + 1) (erased_phrases body)) _
        (body_fits (call_of scope xs) xs b hi body inner more g.1 (omega (arith, high)))
        (both_bodies (b + 1) (bodies_in_all (erased_phrases body))
        (bodies_for_all items (parameters items xs) (inputs_in items + length xs) (b + 1) (erased_phrases body)) _
        (bodies_many_all items (erased_phrases body) (parameters items xs) (inputs_in items + length xs) (b + 1))
        (phrases_bodies body hi inner more g.1 (parameters items xs) (inputs_in items + length xs) (b + 1) (omega (arith, high)))
        (phrases_bodies section hi names k h.0 scope n (b + 1 + bodies_in_all (erased_phrases body)) (omega (arith, high))))
    phrase_bodies (With at section) hi names k f scope n b high = phrases_bodies section hi names k f scope n b high
    phrase_bodies (Declare how at o) hi names k f scope n b high = no_bodies

    pub phrases_bodies : (ps : Phrases) (hi : ℕ) (names : Names) → Knows items names → Faultless (block_sites base names ps) → (scope : Scope) (n b : ℕ)
        → b + bodies_in_all (erased_phrases ps) ≤ hi → BodiesFit (sizes items) b hi (bodies_for_all items scope n b (erased_phrases ps))
    phrases_bodies Done hi names k f scope n b high = no_bodies
    phrases_bodies (Then p more) hi names k f scope n b high =
        let g = split (sites base names p) _ f in
        both_bodies b (bodies_in (erased_phrase p)) (bodies_for items scope n b (erased_phrase p)) _ (bodies_many items (erased_phrase p) scope n b)
        (phrase_bodies p hi names k g.0 scope n b (omega (arith, high)))
        (phrases_bodies more hi (names_after names p) (knows_after items p names k) g.1 (scope_after scope n (erased_phrase p)) (next_after n (erased_phrase p))
        (b + bodies_in (erased_phrase p)) (omega (arith, high)))
