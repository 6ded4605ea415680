-- What the first fault and the place of the limit are, in lists that stand by ascending key.
use Rattle.std.proofs.Common.{
  ◌≡◌,
  ℕ,
  zero,
  suc,
  ◌+◌,
  ◌-◌,
  ◌<◌,
  ◌≤◌,
  true,
  false,
  List,
  [],
  ◌∷◌,
  map,
  take,
  get_or,
  Option,
  Some,
  None,
  IfSome,
  refl,
  ap,
  sym,
  ◌∙◌,
  arith,
  subst,
}
use denote.Bor.{Bor}
use Rattle.std.specs.Prelude.{IfNone, if◌then◌else◌}
use Rattle.std.specs.List.{slice_get}
use Rattle.std.specs.Option.{option_copied}
use Rattle.std.proofs.lemmas.Bool.{lt-ltb, le-ltb}
use Rattle.std.proofs.lemmas.List.Sums.{sum_by-cons}
use Rattle.std.proofs.lemmas.Option.{get_or_from_slice_get}
use Rattle.jade_base.specs.Places.{is_before}
use Rattle.jade_base.specs.declared.report.FaultNote.{FaultNote}
use Rattle.jade_base.specs.declared.report.PartStep.{PartStep}
use Rattle.fault_order.specs.Order.{IsFirstNote, PassesLimit, steps_in, comes_before}
use Rattle.jade_meaning.specs.Laws.{Every}
use Rattle.jade_meaning.specs.Report.{Ascends}
use Rattle.jade_meaning.specs.ReportAnswer.{first_note, step_over}
use Rattle.jade_run.specs.Answered.{fault_key}

every_at : (P : List ℕ → Type 0) (fs : List FaultNote) (k : ℕ) (x : FaultNote) → Every P (map fault_key fs) → slice_get fs k ≡ Some x → P (fault_key x)
every_at P [] k x h e = absurd (cc)
every_at P (f ∷ fs) zero x h e = let same : f ≡ x = cc in subst (λ z. P (fault_key z)) same h.0
every_at P (f ∷ fs) (suc k) x h e = every_at P fs k x h.1 e

-- the note with the least key is the first one
first_some : (notes : List FaultNote) (note : FaultNote) → IsFirstNote notes note → Ascends (map fault_key notes) → Some note ≡ first_note notes
first_some [] note (place, at, best) h = absurd (cc)
first_some (f ∷ fs) note (zero, at, best) h = sym at
first_some (f ∷ fs) note (suc k, at, best) h =
    let later : is_before (fault_key f) (fault_key note) ≡ true = every_at (λ q. is_before (fault_key f) q ≡ true) fs k note h.0 at in
    let there : get_or fs k note ≡ note = get_or_from_slice_get fs k note note at in
    let no_better : comes_before f (get_or fs k note) ≡ false = best.1 0 note (omega arith) in
    let beaten : comes_before f note ≡ false = subst (λ z. comes_before f z ≡ false) there no_better in
    absurd (cc)

pub first_is : (notes : List FaultNote) (r : Option (Bor FaultNote)) → IfSome r (λ n. IsFirstNote notes n.now) → IfNone r (notes ≡ []) →
    Ascends (map fault_key notes) → option_copied r ≡ first_note notes
first_is notes None some none h = sym (ap first_note none)
first_is notes (Some n) some none h = first_some notes n.now some h

over_more : (s : PartStep) (ss : List PartStep) (limit : ℕ) → s.steps ≤ limit → step_over limit (s ∷ ss) ≡ step_over (limit - s.steps) ss
over_more s ss limit h = ap (λ b. if b then Some s else step_over (limit - s.steps) ss) (le-ltb limit s.steps h)

passed : (ss : List PartStep) (limit : ℕ) (part : PartStep) → (place : ℕ) → slice_get ss place ≡ Some part → steps_in (take place ss) ≤ limit →
    limit < steps_in (take place ss) + part.steps → Some part ≡ step_over limit ss
passed [] limit part place at below over = absurd (cc)
passed (s ∷ ss) limit part zero at below over =
    let same : s ≡ part = cc in
    let more : limit < s.steps = subst (λ z. limit < z.steps) (sym same) (omega arith) in
    ap (λ z. Some z) (sym same) ∙ sym (ap (λ b. if b then Some s else step_over (limit - s.steps) ss) (lt-ltb limit s.steps more))
passed (s ∷ ss) limit part (suc k) at below over =
    let first = sum_by-cons (λ (z : PartStep). z.steps) s (take k ss) in
    passed ss (limit - s.steps) part k at (omega arith) (omega arith) ∙ sym (over_more s ss limit (omega arith))

kept : (ss : List PartStep) (limit : ℕ) → steps_in ss ≤ limit → None ≡ step_over limit ss
kept [] limit h = refl
kept (s ∷ ss) limit h =
    let first = sum_by-cons (λ (z : PartStep). z.steps) s ss in
    kept ss (limit - s.steps) (omega arith) ∙ sym (over_more s ss limit (omega arith))

pub limit_is : (ss : List PartStep) (limit : ℕ) (r : Option (Bor PartStep)) → IfSome r (λ p. PassesLimit ss limit p.now) → IfNone r (steps_in ss ≤ limit) →
    option_copied r ≡ step_over limit ss
limit_is ss limit None some none = kept ss limit none
limit_is ss limit (Some p) some none = passed ss limit p.now some.0 some.1 some.2 some.3
