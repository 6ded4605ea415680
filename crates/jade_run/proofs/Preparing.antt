-- What a text is answered with where it can't be run.
use Rattle.std.proofs.Common.{◌≡◌, ℕ, inl, inr, List, length, sym, ap, ◌∙◌}
use Rattle.std.specs.Prelude.{ℤ}
use Rattle.jade_base.specs.declared.place.Pos.{Pos}
use Rattle.jade_syntax.specs.declared.tree.Program.{Program}
use Rattle.jade_run.specs.declared.answer.ReadError.{ReadError}
use Rattle.jade_run.specs.declared.answer.ReadError.TheVariants.{Refused as RefusedAt, Memory as Unread}
use Rattle.jade_run.specs.declared.status.Status.{Status}
use Rattle.jade_run.specs.declared.status.Status.TheVariants.{Numbers}
use Rattle.jade_run.specs.Answered.{IsGood, IsNotRead, OnRefused, RefusedFor}
use Rattle.jade_run.specs.Answered.{refused, miscounted, input_count}
use Rattle.jade_run.specs.Texts.{numbers_text}
use Rattle.jade_run.specs.steps.Preparing.{IsSettled}

pub refused_settled : (bytes : List ℕ) (numbers : List ℤ) (e : ReadError) (text : List ℕ) (status : Status) → IsNotRead e text status →
    OnRefused e (RefusedFor bytes) → IsSettled bytes numbers text status
refused_settled bytes numbers (RefusedAt place why) text status n h =
    record { answered = λ limit turns. refused place why.now h n.0 n.1; unrun = inl n.1 }
refused_settled bytes numbers Unread text status n h = absurd n

pub miscounted_settled : (bytes : List ℕ) (numbers : List ℤ) (wanted got : ℕ) (tree : Program) (home : Pos → Pos) (text : List ℕ) (status : Status) →
    text ≡ numbers_text wanted got → status ≡ Numbers → IsGood bytes tree home → wanted ≡ input_count tree → got ≡ length numbers → (got ≡ wanted → ⊥) →
    IsSettled bytes numbers text status
miscounted_settled bytes numbers wanted got tree home text status t s g w n differ = record {
  answered = λ limit turns. miscounted tree home g (λ e. differ (n ∙ e ∙ sym w)) (t ∙ ap (λ k. numbers_text k got) w ∙ ap (numbers_text (input_count tree)) n) s;
  unrun = inr s;
}
