-- Tasks that wait, and bodies by their numbers.
use Rattle.std.proofs.Common.{◌≡◌, ℕ, zero, suc, List, [], ◌∷◌, Some, None, refl, ◌∙◌}
use Rattle.jade_base.specs.declared.report.Blame.{Blame}
use Rattle.jade_meaning.specs.Course.{Course, Reads, Writes, Steps, Creates, Changes, Ends}
use Rattle.jade_meaning.specs.Serial.{Path}
use Rattle.task_machine.specs.Playing.{Contents, with_cell}
use Rattle.serial_machine.specs.steps.Settles.{settles, at_once, number_in}
use Rattle.serial_machine.specs.steps.Stack.{Counted, once_more, Next, Waiting, after_child, NewestWaits, FaultIs}
use Rattle.serial_machine.proofs.Budgets.{ok_alike}

pub newest_waits : (vs : List Waiting) (v : Waiting) (x : Next) → NewestWaits vs v x
newest_waits [] v x = refl
newest_waits (w ∷ vs) v x = newest_waits vs v (after_child w x)

pub fault_is : (vs : List Waiting) (x : Next) → FaultIs vs x
fault_is [] x p b = refl
fault_is (v ∷ vs) x p b = fault_is vs (after_child v x) p b

-- what it comes to does not depend on the count of the pauses
pub comes_alone : (c : Course) (k left : ℕ) (s : Contents) (bad : Path → Blame → Counted) (ok : ℕ → Contents → Counted)
    → (settles once_more c k left s bad ok).comes ≡ settles at_once c k left s (λ p b. (bad p b).comes) (λ less t. (ok less t).comes)
comes_alone (Reads o c on) k left s bad ok = comes_alone (on (number_in (s o) c)) k left s bad ok
comes_alone (Writes o c v on) k left s bad ok = comes_alone on k left (with_cell o c v s) bad ok
comes_alone (Steps on) k zero s bad ok = refl
comes_alone (Steps on) k (suc left) s bad ok = comes_alone on k left s bad ok
comes_alone (Creates child body on) k left s bad ok =
    comes_alone body 0 left s (λ p b. bad (k ∷ p) b) (λ less t. settles once_more on (suc k) less t bad ok)
    ∙ ok_alike at_once body 0 left s (λ p b. (bad (k ∷ p) b).comes) (λ less t. (settles once_more on (suc k) less t bad ok).comes)
    (λ less t. settles at_once on (suc k) less t (λ p b. (bad p b).comes) (λ less t. (ok less t).comes))
    (λ less t le. comes_alone on (suc k) less t bad ok)
comes_alone (Changes new on) k left s bad ok = comes_alone on k left s bad ok
comes_alone (Ends None) k left s bad ok = refl
comes_alone (Ends (Some b)) k left s bad ok = refl
