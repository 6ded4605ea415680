-- What is written in several steps.
use Rattle.std.proofs.Common.{◌≡◌, ◌+◌, ◌<◌, ◌≤◌, List, [], ◌∷◌, ◌++◌, length, refl, sym, ap, ◌∙◌, subst, arith}
use Rattle.std.specs.Prelude.{Result, Ok, Err, OnOk}
use Rattle.std.specs.Result.{IsErrAnd}
use Rattle.std.proofs.lemmas.List.{append_assoc, append-nil, length-append}
use Rattle.jade_syntax.specs.Abstract.{Name}
use Rattle.proc_expand.specs.declared.pen.Pen.{Pen}
use Rattle.proc_expand.specs.declared.sheet.Stop.{Stop}
use Rattle.proc_expand.specs.declared.sheet.Stop.TheVariants.{Grown}
use Rattle.proc_expand.specs.Written.{MadeToken}
use Rattle.proc_expand.specs.steps.Sheets.{spaced_out}
use Rattle.proc_expand.specs.steps.Pens.{written, IsPen, Wrote, IsTooLong}

-- ---- how long texts are

pub spaced_both : (us vs : List MadeToken) → spaced_out (us ++ vs) ≡ spaced_out us ++ spaced_out vs
spaced_both [] vs = refl
spaced_both (u ∷ us) vs =
    ap (λ x. u.bytes ++ 32 ∷ x) (spaced_both us vs) ∙ sym (append_assoc u.bytes (32 ∷ spaced_out us) (spaced_out vs))

pub long_both : (us vs : List MadeToken) → length (spaced_out (us ++ vs)) ≡ length (spaced_out us) + length (spaced_out vs)
long_both us vs = ap length (spaced_both us vs) ∙ length-append (spaced_out us) (spaced_out vs)

-- each token is a byte at least
pub as_long_as : (us : List MadeToken) → length us ≤ length (spaced_out us)
as_long_as [] = omega arith
as_long_as (u ∷ us) = let h = as_long_as us in let l = length-append u.bytes (32 ∷ spaced_out us) in omega (arith, h, l)

module _ (names : List Name) where
  pub wrote_none : (p : Pen) → IsPen names p → Wrote names [] p p
  wrote_none p h = record { pen = h; tokens = sym (append-nil (written p)) }

  pub wrote_more : (us vs : List MadeToken) (p q r : Pen) → Wrote names us p q → Wrote names vs q r → Wrote names (us ++ vs) p r
  wrote_more us vs p q r h g = record {
    pen = g.pen;
    tokens = g.tokens ∙ ap (λ x. x ++ vs) h.tokens ∙ append_assoc (written p) us vs;
  }

  -- too long after some tokens
  pub long_after : (us vs : List MadeToken) (p q : Pen) → Wrote names us p q → IsTooLong q vs → IsTooLong p (us ++ vs)
  long_after us vs p q h g = record {
    long = subst (λ x. 1048576 < length (spaced_out x)) (ap (λ x. x ++ vs) h.tokens ∙ append_assoc (written p) us vs) g.long;
  }

  pub same_wrote : (us vs : List MadeToken) (p q : Pen) → us ≡ vs → Wrote names us p q → Wrote names vs p q
  same_wrote us vs p q e h = subst (λ x. Wrote names x p q) e h

-- too long before more
pub long_before : (us vs : List MadeToken) (p : Pen) → IsTooLong p us → IsTooLong p (us ++ vs)
long_before us vs p h = record {
  long = let a = h.long in let e = ap (λ x. length (spaced_out x)) (append_assoc (written p) us vs) in let l = long_both (written p ++ us) vs in omega (arith, a, e, l);
}

-- ---- how much is written

pub text_long : (names : List Name) (p : Pen) → IsPen names p → length p.sheet.text.items ≡ length (spaced_out (written p))
text_long names p h = let s = h.sheet in ap length s.text

pub few_written : (names : List Name) (p : Pen) → IsPen names p → length (written p) ≤ 1048576
few_written names p h =
    let t = text_long names p h in let l = as_long_as (written p) in let s = h.sheet in let f = s.few in omega (arith, t, l, f)

pub grows : (names : List Name) (us : List MadeToken) (p q : Pen) → IsPen names p → Wrote names us p q
    → length p.sheet.text.items + length us ≤ length q.sheet.text.items
grows names us p q h g =
    let a = text_long names p h in let b = text_long names q g.pen in let e = ap (λ x. length (spaced_out x)) g.tokens in
    let l = long_both (written p) us in let m = as_long_as us in omega (arith, a, b, e, l, m)

pub count_grows : (names : List Name) (us : List MadeToken) (p q : Pen) → Wrote names us p q → length (written q) ≡ length (written p) + length us
count_grows names us p q g = ap length g.tokens ∙ length-append (written p) us

-- ---- some are written of all, and the rest is left

pub record IsLeft (names : List Name) (old now : Pen) (all rest : List MadeToken) : Type 0 where
  pub pen : IsPen names now
  pub same : written now ++ rest ≡ written old ++ all

module _ (names : List Name) (old now : Pen) (all : List MadeToken) where
  pub left_start : (rest : List MadeToken) → rest ≡ all → IsPen names old → IsLeft names old old all rest
  left_start rest e h = record { pen = h; same = ap (λ x. written old ++ x) e }

  pub left_step : (next : Pen) (rest us more : List MadeToken) → rest ≡ us ++ more → IsLeft names old now all rest → Wrote names us now next
      → IsLeft names old next all more
  left_step next rest us more e h w = record {
    pen = w.pen;
    same = ap (λ x. x ++ more) w.tokens ∙ append_assoc (written now) us more ∙ ap (λ x. written now ++ x) (sym e) ∙ h.same;
  }

  pub left_done : (rest : List MadeToken) → rest ≡ [] → IsLeft names old now all rest → Wrote names all old now
  left_done rest e h = record { pen = h.pen; tokens = sym (append-nil (written now)) ∙ ap (λ x. written now ++ x) (sym e) ∙ h.same }

  pub left_long : (rest us more : List MadeToken) → rest ≡ us ++ more → IsLeft names old now all rest → IsTooLong now us → IsTooLong old all
  left_long rest us more e h g = record {
    long = let b = long_before us more now g in
        subst (λ x. 1048576 < length (spaced_out x)) (ap (λ x. written now ++ x) (sym e) ∙ h.same) b.long;
  }

-- ---- what follows where a call has a value

pub on_both : {T E P Q R : Type 0} → (r : Result T E) → OnOk r P → OnOk r Q → (P → Q → R) → OnOk r R
on_both (Ok v) a b f = f a b
on_both (Err e) a b f = a

-- an error is passed on
pub passed_on : {T U : Type 0} → (r : Result T Stop) (q : Result U Stop) (e : Stop) → IsErrAnd r (λ y. y ≡ e) → q ≡ Err e → r ≡ Err Grown → q ≡ Err Grown
passed_on (Ok x) q e h w g = elim h [ ]
passed_on (Err y) q e h w g = let z : q ≡ Err Grown = cc in z
