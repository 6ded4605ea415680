-- What is known of a task that is walked.
use Rattle.std.specs.Prelude.{◌≡◌, ℕ, true, List, ◌++◌, drop, ℤ}
use Rattle.jade_syntax.specs.declared.tree.Statement.{Statement}
use Rattle.jade_meaning.specs.declared.configuration.Configuration.{Configuration}
use Rattle.jade_meaning.specs.Specification.{Specification}
use Rattle.jade_meaning.specs.Course.{Environment, Setting}
use Rattle.jade_meaning.specs.Talk.{talk}
use Rattle.jade_meaning.specs.steps.Configuration.{ahead, ready, task_from}

-- with whatever further answers, its events from the next one on are what is pending and what follows it, and there is a next one
pub record AgreesWithTalk (s : Setting) (env : Environment) (spec : Specification) (body : List Statement) (answers : List ℤ) (done told : ℕ)
    (t : Configuration) : Type 0 where
  pub known : (vs : List ℤ) → drop done (talk (task_from s env spec body) (answers ++ vs)) ≡ ahead s answers t told vs
  pub ready : ready (drop told t.pending.items) t.stage ≡ true
