-- The parts of the code of a checked program, put together.
use Rattle.std.proofs.Common.{◌≡◌, ℕ, List, length, ap, sym, ◌∙◌, subst}
use Rattle.jade_syntax.specs.declared.tree.Program.{Program}
use Rattle.jade_syntax.specs.Image.{program}
use Rattle.jade_syntax.specs.Objects.{input_names, sizes}
use Rattle.code_meaning.specs.Meaning.{Body}
use Rattle.task_translation.specs.Compile.{compiled, inputs_in}
use Rattle.task_code.specs.Rules.{Valid}
use Rattle.code_keeps.specs.Keeps.{whole_code, KeepsRules}
use Rattle.code_keeps.proofs.Inputs.{inputs_many}

module _ (p q : Program) (bodies : List Body) (inputs : ℕ) (cells : List ℕ) (same : q ≡ p) (b : bodies ≡ compiled (program q))
    (i : inputs ≡ length (input_names p.items)) (s : cells ≡ sizes q.items) where
  pub put_together : record { bodies = bodies; inputs = inputs; sizes = cells } ≡ whole_code (program p)
  put_together =
      ap (λ l. record { bodies = l; inputs = inputs; sizes = cells }) (b ∙ ap (λ (t : Program). compiled (program t)) same)
      ∙ ap (λ n. record { bodies = compiled (program p); inputs = n; sizes = cells }) (i ∙ inputs_many p.items)
      ∙ ap (λ l. record { bodies = compiled (program p); inputs = inputs_in p.items; sizes = l }) (s ∙ ap (λ (t : Program). sizes t.items) same)

  pub rules_kept : KeepsRules (program p) → Valid (record { bodies = bodies; inputs = inputs; sizes = cells })
  rules_kept k = subst Valid (sym put_together) k
