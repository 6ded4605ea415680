-- What a run tells of the answer.
use Rattle.jade_meaning.specs.Answer.{Answer, Faulted, Cells}
use Rattle.serial_machine.specs.declared.answer.RunAnswer.{RunAnswer}
use Rattle.serial_machine.specs.declared.answer.RunAnswer.TheVariants as run

-- the task that faults first and why, or the cells of the objects
abbrev pub told : RunAnswer → Answer
told (run.Fault path blame) = Faulted path blame
told (run.Objects cells) = Cells cells
