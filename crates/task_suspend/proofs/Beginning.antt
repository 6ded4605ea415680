-- The root's pass and machine at the begin of a run.
use Rattle.std.proofs.Common.{◌≡◌, ℕ, List, length, sym, ap, ◌∙◌}
use Rattle.std.specs.Prelude.{ℤ, replicate}
use Rattle.atomic_table.specs.Seated.{TableId}
use Rattle.jade_base.specs.Rights.{both_rights}
use Rattle.jade_syntax.specs.declared.tree.Program.{Program}
use Rattle.jade_syntax.specs.Image.{program as abstracted}
use Rattle.jade_meaning.specs.Specification.{Specification}
use Rattle.jade_meaning.specs.Course.{Course, root_spec, root_course}
use Rattle.jade_meaning.specs.Plan.{RunPlan}
use Rattle.jade_meaning.specs.Talk.{Task, talk}
use Rattle.jade_meaning.specs.Walk.{root_walk}
use Rattle.code_meaning.specs.Meaning.{code_course}
use Rattle.task_code.specs.Rules.{TaskCode}
use Rattle.task_translation.specs.Compile.{inputs_in}
use Rattle.task_translation.specs.Correct.{Follows}
use Rattle.code_keeps.specs.Keeps.{whole_code}
use Rattle.object_table.specs.Views.{View, count_of}
use Rattle.object_table.specs.Touches.{held_at}
use Rattle.object_table.specs.Rule.{first_view}
use Rattle.object_table.specs.Calls.{Pass}
use Rattle.task_machine.specs.Asks.{Asking, BeginsAs, left_from}
use Rattle.task_suspend.specs.Ties.{Tied, to_go}

-- what whole code does, as a task
abbrev code_task : TaskCode → List ℤ → (limit : ℕ) → Task
code_task c zs limit =
    record { spec = replicate (length c.sizes) both_rights; course = code_course c.bodies zs limit (replicate (length c.sizes) both_rights) }

module _ (prog : Program) (c : TaskCode) (zs : List ℤ) (limit : ℕ) (code : c ≡ whole_code (abstracted prog))
    (follows : Follows c.bodies (abstracted prog) limit) (many : length zs ≡ inputs_in prog.items)
  where
    root_does : code_task c zs limit ≡ record { spec = root_spec (abstracted prog); course = root_course (abstracted prog) zs limit }
    root_does =
        ap (λ (r : Specification). record { spec = r; course = code_course c.bodies zs limit r })
        (ap (λ (x : TaskCode). replicate (length x.sizes) both_rights) code)
        ∙ ap (λ (k : Course). record { spec = root_spec (abstracted prog); course = k }) (follows zs many)

    pub rooted : (mark : TableId) (plan : RunPlan) (p : Pass) (a : Asking) → p.mark ≡ mark → p.shows ≡ first_view plan
        → plan ≡ record { program = prog; numbers = zs; limit = limit } → BeginsAs (code_task c zs limit) a
        → a.at.execution.stage.objects ≡ length c.sizes → Tied mark plan p a 0 0
    rooted mark plan p a same is planned begins objects = record {
      table = same;
      run = ap (λ (v : View). v.key) is;
      objects = objects ∙ ap (λ (x : TaskCode). length x.sizes) code ∙ ap count_of (sym planned);
      live = ap (λ (v : View). v.live) is;
      born = ap (λ (v : View). v.unborn) is;
      left = λ vs. ap (λ (v : View). to_go v.seat.walker vs) is ∙ ap (λ (k : RunPlan). to_go (root_walk k.program k.numbers k.limit) vs) planned
          ∙ ap (λ x. talk x vs) (sym root_does) ∙ sym (begins.talk vs) ∙ ap (λ z. left_from 0 z a.at vs) (sym begins.ask);
      held = λ o. ap (λ (v : View). held_at o v.held) is ∙ sym (begins.holds o);
      done = ap (λ (v : View). v.seat.walker.done) is;
    }
