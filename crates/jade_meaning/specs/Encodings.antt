-- Encodings of what a task that is walked is seen as: each record's from those of its parts.
use Rattle.std.specs.Prelude.{ℕ, List, ℤ, refl}
use Rattle.std.specs.Coded.{Coded, code_by, coded×, coded_list, coded_ℕ, coded_ℤ}
use Rattle.jade_base.specs.contracts.rights.Rights as rights
use Rattle.jade_syntax.specs.declared.tree.Item.{Item}
use Rattle.jade_syntax.specs.declared.tree.Statement.{Statement}
use Rattle.jade_syntax.specs.contracts.tree.Item as item
use Rattle.jade_syntax.specs.contracts.tree.Statement as statement
use Rattle.jade_meaning.specs.declared.values.Value.{Value}
use Rattle.jade_meaning.specs.contracts.values.Value as value
use Rattle.jade_meaning.specs.Specification.{Specification}
use Rattle.jade_meaning.specs.Course.{Binding, Environment, Setting}
use Rattle.jade_meaning.specs.Walks.{Start, Walk, setting_of, start_of}

-- of a variable and its value
abbrev pub coded_binding : Coded Binding
coded_binding =
    code_by (List ℕ × Value) (coded× (coded_list coded_ℕ) value.the_row.coded)
    (λ b. (b.name, b.value)) (λ p. record { name = p.0; value = p.1 }) (λ _. refl)

-- of variables
abbrev pub coded_environment : Coded Environment
coded_environment = coded_list coded_binding

-- of a specification
abbrev pub coded_specification : Coded Specification
coded_specification = coded_list rights.the_row.coded

-- of what every task of a run has
abbrev pub coded_setting : Coded Setting
coded_setting =
    code_by (List Item × (Environment × ℕ)) (coded× (coded_list item.the_row.coded) (coded× coded_environment coded_ℕ))
    (λ s. (s.items, (s.given, s.limit))) (λ p. record { items = p.0; given = p.1.0; limit = p.1.1 }) (λ _. refl)

-- of what a task begins with
abbrev pub coded_start : Coded Start
coded_start =
    code_by (Environment × (Specification × List Statement))
    (coded× coded_environment (coded× coded_specification (coded_list statement.the_row.coded)))
    (λ t. (t.env, (t.spec, t.body))) (λ p. record { env = p.0; spec = p.1.0; body = p.1.1 }) (λ _. refl)

-- a walk of its parts: the setting, the start, the answers and the events done
abbrev walk_of : Setting × (Start × (List ℤ × ℕ)) → Walk
walk_of p =
    record { items = p.0.items; given = p.0.given; limit = p.0.limit; env = p.1.0.env; spec = p.1.0.spec; body = p.1.0.body; answers = p.1.1.0; done = p.1.1.1 }

-- of a task that is walked
abbrev pub coded_walk : Coded Walk
coded_walk =
    code_by (Setting × (Start × (List ℤ × ℕ))) (coded× coded_setting (coded× coded_start (coded× (coded_list coded_ℤ) coded_ℕ)))
    (λ w. (setting_of w, (start_of w, (w.answers, w.done)))) walk_of (λ _. refl)
