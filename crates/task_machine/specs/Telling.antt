-- What a task tells while it plays its course with what it holds.
use Rattle.std.specs.Prelude.{◌≡◌, ℕ, ◌+◌, ◌^◌, ◌%◌, List, ◌++◌, Option, Some, None, ℤ, length}
use Rattle.jade_base.specs.declared.rights.Mode.{Mode}
use Rattle.jade_base.specs.Rights.{mode_of}
use Rattle.jade_base.specs.Held.{Held}
use Rattle.jade_meaning.specs.Specification.{Specification, rights_on}
use Rattle.jade_meaning.specs.Course.{Course}
use Rattle.jade_meaning.specs.Talk.{Holds, held, events}
use Rattle.task_machine.specs.Playing.{Contents, played, answers, touches}

-- the mode in which a content is held, if it is
abbrev pub mode_held : Option Held → Option Mode
mode_held None = None
mode_held (Some x) = Some x.mode

-- each content that is there is held in this mode, as the talk has it, and this is the mode of the rights on the object
pub record Agrees (spec : Specification) (h : Holds) (k : Contents) : Type 0 where
  pub holds : (o : ℕ) (x : Held) → k o ≡ Some x → held h o ≡ Some x.mode
  pub rights : (o : ℕ) (x : Held) → k o ≡ Some x → mode_of (rights_on spec o) ≡ Some x.mode

-- what a task tells of a course, where its reads are answered by what it holds, is the cells that it touches on the way, and
-- then what it tells of the course from where it comes to; the touches are counted; what is held stays held in its mode, and
-- nothing else comes to be held
pub record TellsAsPlayed (c : Course) (spec : Specification) (h : Holds) (k : Contents) (n e : ℕ) : Type 0 where
  pub tells : (vs : List ℤ) → events c spec h n (answers c k ++ vs) ≡ touches c k ++ events (played c k n e).course spec h (played c k n e).steps vs
  pub counts : (played c k n e).events % 2 ^ 64 ≡ (e + length (touches c k)) % 2 ^ 64
  pub modes : (o : ℕ) → mode_held ((played c k n e).contents o) ≡ mode_held (k o)
  pub agrees : Agrees spec h (played c k n e).contents
