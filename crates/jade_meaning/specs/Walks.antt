-- What a task that is walked is seen as.
use Rattle.std.specs.Prelude.{ℕ, List, ℤ}
use Rattle.jade_syntax.specs.declared.tree.Item.{Item}
use Rattle.jade_syntax.specs.declared.tree.Statement.{Statement}
use Rattle.jade_meaning.specs.Specification.{Specification}
use Rattle.jade_meaning.specs.Course.{Environment, Setting}

-- what a task begins with: its variables, its specification and its statements
pub record Start : Type 0 where
  pub env : Environment
  pub spec : Specification
  pub body : List Statement

-- what every task of the run has, what the task began with, the answers that it was given, and how many of its events are done
pub record Walk : Type 0 where
  pub items : List Item
  pub given : Environment
  pub limit : ℕ
  pub env : Environment
  pub spec : Specification
  pub body : List Statement
  pub answers : List ℤ
  pub done : ℕ

-- what every task of the run has
abbrev pub setting_of : Walk → Setting
setting_of w = record { items = w.items; given = w.given; limit = w.limit }

-- what the task began with
abbrev pub start_of : Walk → Start
start_of w = record { env = w.env; spec = w.spec; body = w.body }
