-- A text without the word `cm` comes to the same by all turn lists.
use Rattle.std.proofs.Common.{◌≡◌, ℕ, false, List, sym, ap, ◌∙◌, subst}
use Rattle.std.specs.Prelude.{ℤ}
use Rattle.jade_syntax.specs.Abstract.{AbstractProgram}
use Rattle.jade_syntax.specs.Image.{program}
use Rattle.jade_syntax.specs.Objects.{sizes}
use Rattle.jade_meaning.specs.Answer.{Answer, answer, decided, first_fault, limit_place, parts_by_key}
use Rattle.jade_meaning.specs.Laws.{NoneCommutes, RunsPlainly}
use Rattle.jade_meaning.specs.Serial.{Mark, after, zeros}
use Rattle.jade_meaning.specs.Uncommuting.{uses_cm}
use Rattle.jade_run.specs.declared.status.Status.{Status}
use Rattle.jade_run.specs.Answered.{IsAnswered, IsPlain, Shows, TurnLists, answered, miscounted, refused}
use Rattle.jade_meaning.specs.Moved.{moved_answer}

-- a program without the word has one answer
pub one_answer : ((p : AbstractProgram) (ns : List ℤ) (limit : ℕ) (turns : TurnLists) → uses_cm p ≡ false → NoneCommutes p ns limit turns)
    → ((p : AbstractProgram) (ns : List ℤ) (limit : ℕ) (turns : TurnLists) → NoneCommutes p ns limit turns → RunsPlainly p ns limit turns)
    → (p : AbstractProgram) (ns : List ℤ) (limit : ℕ) (turns others : TurnLists) → uses_cm p ≡ false → answer p ns limit turns ≡ answer p ns limit others
one_answer without plainly p ns limit turns others h =
    let told = λ (ms : List Mark). decided (first_fault (parts_by_key ms)) (limit_place limit (parts_by_key ms)) (after ms (zeros (sizes p.items))) in
    ap told ((plainly p ns limit turns (without p ns limit turns h)).marks ∙ sym (plainly p ns limit others (without p ns limit others h)).marks)

pub same_by_all : ((p : AbstractProgram) (ns : List ℤ) (limit : ℕ) (turns : TurnLists) → uses_cm p ≡ false → NoneCommutes p ns limit turns)
    → ((p : AbstractProgram) (ns : List ℤ) (limit : ℕ) (turns : TurnLists) → NoneCommutes p ns limit turns → RunsPlainly p ns limit turns)
    → (bytes : List ℕ) (numbers : List ℤ) (limit : ℕ) (turns others : TurnLists) (text : List ℕ) (status : Status) → IsPlain bytes
    → IsAnswered bytes numbers limit turns text status → IsAnswered bytes numbers limit others text status
same_by_all without plainly bytes ns limit turns others text status plain (answered tree home g n a) =
    let P : Answer → Type 0 = λ x. Shows (program tree) (moved_answer home x) text status in
    answered tree home g n (subst P (one_answer without plainly (program tree) ns limit turns others (plain tree home g)) a)
same_by_all without plainly bytes ns limit turns others text status plain (miscounted tree home g n t s) = miscounted tree home g n t s
same_by_all without plainly bytes ns limit turns others text status plain (refused place why for t s) = refused place why for t s
