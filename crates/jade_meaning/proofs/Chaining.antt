-- Chains and signs, gone through by steps.
use Rattle.std.proofs.Common.{◌≡◌, ℕ, zero, suc, ◌+◌, ◌≤◌, true, false, List, [], ◌∷◌, map, length, refl, ap, sym, ◌∙◌, drop, Some, Err, arith}
use Rattle.std.specs.Prelude.{slice_get, if◌then◌else◌}
use Rattle.std.proofs.lemmas.List.{drop_all}
use Rattle.jade_base.specs.declared.place.Pos.{Pos}
use Rattle.jade_base.specs.declared.report.Blame.{Blame}
use Rattle.jade_syntax.specs.declared.tree.Item.{Item}
use Rattle.jade_syntax.specs.declared.tree.UnaryOp.{UnaryOp}
use Rattle.jade_syntax.specs.declared.tree.SumOp.{SumOp}
use Rattle.jade_syntax.specs.declared.tree.ProductOp.{ProductOp}
use Rattle.jade_meaning.specs.declared.source.Pause.{Pause}
use Rattle.jade_meaning.specs.declared.source.Pause.TheVariants.{Fault, Awaits as AwaitsOf}
use Rattle.jade_syntax.specs.Abstract.{Or, And, Adds, Multiplies, Expression, Link}
use Rattle.jade_syntax.specs.Image.{Linked, links, chained, signed}
use Rattle.jade_meaning.specs.declared.values.Value.{Value}
use Rattle.jade_meaning.specs.Values.{Gives, operated, decides}
use Rattle.jade_meaning.specs.Values as values
use Rattle.jade_meaning.specs.Specification.{Specification}
use Rattle.jade_meaning.specs.Course.{Environment}
use Rattle.jade_meaning.specs.steps.Direct.{blamed}
use Rattle.jade_meaning.specs.steps.Evaluation.{Evaluation, Got, Awaits, Faults, Source, stopped, kept, ◌>>>◌, evaluate, evaluate_links}
use Rattle.jade_syntax.proofs.Limits.{drop_item}

-- the chain comes to what its links from i on make of this value, where so many answers are used
pub record Going (items : List Item) (env : Environment) (spec : Specification) (src : Source) (e : Expression) (n : ℕ) (A : Type 0) (f : A → Linked)
    (xs : List A) (i : ℕ) (v : Value) (k : ℕ) : Type 0 where
  pub same : evaluate items env spec src e n ≡ evaluate_links items env spec src (links (map f (drop i xs))) v k

bind_got : (r : Evaluation Value) → r ≡ (r >>> λ v k. Got v k)
bind_got (Got v n) = refl
bind_got (Awaits o c) = refl
bind_got (Faults b) = refl

-- what stops before another thing stops that too
pub stops : {A B : Type 0} (p : Pause) (f : A → ℕ → Evaluation B) → (stopped {A = A} p >>> f) ≡ stopped {A = B} p
stops (Fault b) f = refl
stops (AwaitsOf o c) f = refl

module _ (items : List Item) (env : Environment) (spec : Specification) (src : Source) where
  -- what follows an operator, and what follows an operand
  abbrev after_operator : {A : Type 0} (f : A → Linked) (xs : List A) (i : ℕ) → Value → ℕ → Evaluation Value
  after_operator f xs i u j = evaluate_links items env spec src (links (map f (drop (i + 1) xs))) u j

  abbrev after_operand : {A : Type 0} (f : A → Linked) (xs : List A) (i : ℕ) (v : Value) (x : A) → Value → ℕ → Evaluation Value
  after_operand f xs i v x w j = kept (blamed (operated (f x).operator v w) (f x).at) j >>> after_operator f xs i

  chain_is : (e : Expression) (ls : List Linked) (n : ℕ) → evaluate items env spec src (chained e ls) n ≡ (evaluate items env spec src e n
      >>> λ v k. evaluate_links items env spec src (links ls) v k)
  chain_is e [] n = bind_got (evaluate items env spec src e n)
  chain_is e (l ∷ ls) n = refl

  -- its first operand stops
  pub begins_not : {A : Type 0} (f : A → Linked) (xs : List A) (e first : Expression) (n : ℕ) (p : Pause) → e ≡ chained first (map f xs)
      → stopped p ≡ evaluate items env spec src first n → stopped p ≡ evaluate items env spec src e n
  begins_not f xs e first n p h k =
      let on : Value → ℕ → Evaluation Value = λ v j. evaluate_links items env spec src (links (map f xs)) v j in
      sym (ap (λ x. evaluate items env spec src x n) h ∙ chain_is first (map f xs) n ∙ ap (λ r. r >>> on) (sym k) ∙ stops p on)

module _ {items : List Item} {env : Environment} {spec : Specification} {src : Source} {n : ℕ} where
  -- a chain begins
  pub begins : {A : Type 0} {f : A → Linked} {xs : List A} (e first : Expression) (v : Value) (k : ℕ) → e ≡ chained first (map f xs)
      → Got v k ≡ evaluate items env spec src first n → Going items env spec src e n A f xs 0 v k
  begins {f = f} {xs = xs} e first v k h g = record {
    same = ap (λ x. evaluate items env spec src x n) h ∙ chain_is items env spec src first (map f xs) n
        ∙ ap (λ r. r >>> λ v k. evaluate_links items env spec src (links (map f xs)) v k) (sym g);
  }

  module _ {e : Expression} {A : Type 0} {f : A → Linked} {xs : List A} {i : ℕ} {v : Value} {k : ℕ} where
    next_link : (x : A) → slice_get xs i ≡ Some x → Going items env spec src e n A f xs i v k → evaluate items env spec src e n ≡ evaluate_links items env spec
        src (Link (f x).operator (f x).at (f x).operand (links (map f (drop (i + 1) xs)))) v k
    next_link x h g = g.same ∙ ap (λ ys. evaluate_links items env spec src (links (map f ys)) v k) (drop_item xs i x h)

    -- the value decides the chain
    pub decided : (x : A) → slice_get xs i ≡ Some x → decides (f x).operator v ≡ true → Going items env spec src e n A f xs i v k
        → Got v k ≡ evaluate items env spec src e n
    decided x h d g =
        sym (next_link x h g ∙ ap (λ b. if b then Got v k else (evaluate items env spec src (f x).operand k >>> after_operand items env spec src f xs i v x)) d)

    goes : (x : A) → slice_get xs i ≡ Some x → decides (f x).operator v ≡ false → Going items env spec src e n A f xs i v k
        → evaluate items env spec src e n ≡ (evaluate items env spec src (f x).operand k >>> after_operand items env spec src f xs i v x)
    goes x h d g =
        next_link x h g ∙ ap (λ b. if b then Got v k else (evaluate items env spec src (f x).operand k >>> after_operand items env spec src f xs i v x)) d

    -- one link more
    pub more : (x : A) (w u : Value) (j : ℕ) → slice_get xs i ≡ Some x → decides (f x).operator v ≡ false → Got w j ≡ evaluate items env spec src
        (f x).operand k → Gives u ≡ operated (f x).operator v w → Going items env spec src e n A f xs i v k → Going items env spec src e n A f xs (i + 1) u j
    more x w u j h d q o g = record {
      same = goes x h d g
          ∙ ap (λ r. r >>> after_operand items env spec src f xs i v x) (sym q)
          ∙ ap (λ y. kept (blamed y (f x).at) j >>> after_operator items env spec src f xs i) (sym o);
    }

    -- an operand stops
    pub more_not : (x : A) (p : Pause) → slice_get xs i ≡ Some x → decides (f x).operator v ≡ false → stopped p ≡ evaluate items env spec src (f x).operand k
        → Going items env spec src e n A f xs i v k → stopped p ≡ evaluate items env spec src e n
    more_not x p h d q g = sym (goes x h d g ∙ ap (λ r. r >>> after_operand items env spec src f xs i v x) (sym q)
        ∙ stops p (after_operand items env spec src f xs i v x))

    -- an operator faults
    pub more_fails : (x : A) (w : Value) (b : Blame) (j : ℕ) → slice_get xs i ≡ Some x → decides (f x).operator v ≡ false
        → Got w j ≡ evaluate items env spec src (f x).operand k → Err b ≡ blamed (operated (f x).operator v w) (f x).at
        → Going items env spec src e n A f xs i v k → Faults b ≡ evaluate items env spec src e n
    more_fails x w b j h d q o g =
        sym (goes x h d g
        ∙ ap (λ r. r >>> after_operand items env spec src f xs i v x) (sym q)
        ∙ ap (λ r. kept r j >>> after_operator items env spec src f xs i) (sym o))

    -- no link is left
    pub ends : length xs ≤ i → Going items env spec src e n A f xs i v k → Got v k ≡ evaluate items env spec src e n
    ends le g = sym (g.same ∙ ap (λ ys. evaluate_links items env spec src (links (map f ys)) v k) (drop_all i xs le))

-- the signs from i on give this value
pub record Signing (items : List Item) (env : Environment) (spec : Specification) (src : Source) (e : Expression) (n : ℕ) (ss : List (UnaryOp × Pos)) (i : ℕ)
    (v : Value) (k : ℕ) : Type 0 where
  pub same : Got v k ≡ evaluate items env spec src (signed (drop i ss) e) n

module _ (items : List Item) (env : Environment) (spec : Specification) (src : Source) (e : Expression) (n : ℕ) where
  -- what stops below a sign stops the whole
  outward : (d : ℕ) (ys : List (UnaryOp × Pos)) (p : Pause) → stopped p ≡ evaluate items env spec src (signed (drop d ys) e) n
      → stopped p ≡ evaluate items env spec src (signed ys e) n
  outward zero ys p h = h
  outward (suc d) [] p h = h
  outward (suc d) (s ∷ ys) p h =
      let on : Value → ℕ → Evaluation Value = λ v k. kept (blamed (values.signed s.0 v) s.1) k in
      sym (stops p on) ∙ ap (λ r. r >>> on) (outward d ys p h)

  pub sign_not : (ss : List (UnaryOp × Pos)) (p : Pause) → stopped p ≡ evaluate items env spec src e n → stopped p ≡ evaluate items env spec src (signed ss e) n
  sign_not ss p h = outward (length ss) ss p (h ∙ ap (λ ys. evaluate items env spec src (signed ys e) n) (sym (drop_all (length ss) ss (omega arith))))

module _ {items : List Item} {env : Environment} {spec : Specification} {src : Source} {e : Expression} {n : ℕ} {ss : List (UnaryOp × Pos)} where
  pub sign_begins : (v : Value) (k : ℕ) → Got v k ≡ evaluate items env spec src e n → Signing items env spec src e n ss (length ss) v k
  sign_begins v k h = record { same = h ∙ ap (λ ys. evaluate items env spec src (signed ys e) n) (sym (drop_all (length ss) ss (omega arith))) }

  pub sign_more : {j : ℕ} {v : Value} {k : ℕ} (i : ℕ) (s : UnaryOp × Pos) (u : Value) → i + 1 ≡ j → slice_get ss i ≡ Some s → Gives u ≡ values.signed s.0 v
      → Signing items env spec src e n ss j v k → Signing items env spec src e n ss i u k
  sign_more {v = v} {k = k} i s u m h q g = record {
    same = ap (λ y. kept (blamed y s.1) k) q ∙ ap (λ r. r >>> λ v k. kept (blamed (values.signed s.0 v) s.1) k)
        (g.same ∙ ap (λ t. evaluate items env spec src (signed (drop t ss) e) n) (sym m)) ∙ ap (λ ys. evaluate items env spec src (signed ys e) n)
        (sym (drop_item ss i s h));
  }

  pub sign_fails : {j : ℕ} {v : Value} {k : ℕ} (i : ℕ) (s : UnaryOp × Pos) (b : Blame) → i + 1 ≡ j → slice_get ss i ≡ Some s
      → Err b ≡ blamed (values.signed s.0 v) s.1 → Signing items env spec src e n ss j v k → Faults b ≡ evaluate items env spec src (signed ss e) n
  sign_fails {v = v} {k = k} i s b m h q g =
      outward items env spec src e n i ss (Fault b) (ap (λ r. kept r k) q ∙ ap (λ r. r >>> λ v k. kept (blamed (values.signed s.0 v) s.1) k)
      (g.same ∙ ap (λ t. evaluate items env spec src (signed (drop t ss) e) n) (sym m)) ∙ ap (λ ys. evaluate items env spec src (signed ys e) n)
      (sym (drop_item ss i s h)))

pub adds_on : (s : SumOp) (v : Value) → decides (Adds s) v ≡ false
adds_on s v = refl

pub multiplies_on : (o : ProductOp) (v : Value) → decides (Multiplies o) v ≡ false
multiplies_on o v = refl

pub or_gives : (v w : Value) → Gives w ≡ operated Or v w
or_gives v w = refl

pub and_gives : (v w : Value) → Gives w ≡ operated And v w
and_gives v w = refl
