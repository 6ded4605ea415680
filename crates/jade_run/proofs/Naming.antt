-- The first words of the commands, and words that are no command's.
use Rattle.std.proofs.Common.{◌≡◌, ℕ, ◌+◌, ◌<◌, List, [], ◌∷◌, get_or, refl, ap, sym, ◌∙◌, subst, arith}
use Rattle.std.specs.Prelude.{codes, ℤ}
use Rattle.jade_run.specs.Words.{SpellsExecution, SpellsRun, AcceptsWords, NeedsText, DrillWords, SpellsDrill}
use Rattle.jade_run.specs.Words.{to_run, to_serial, to_check, to_show, to_record, to_replay, to_expand, on_text, to_drill, IsUsage, NoExecution, NoRun, NoDrill}
use Rattle.jade_run.specs.declared.words.WordsError.{WordsError}
use Rattle.jade_run.specs.declared.words.WordsError.TheVariants.{Usage, Memory}

pub firsts : {A : Type 0} (x y : A) (xs ys : List A) → x ∷ xs ≡ y ∷ ys → x ≡ y
firsts x y xs ys e = cc

pub rests : {A : Type 0} (x y : A) (xs ys : List A) → x ∷ xs ≡ y ∷ ys → xs ≡ ys
rests x y xs ys e = cc

-- words with two first words
pub two_names : (words more other : List (List ℕ)) (x y : List ℕ) → (x ≡ y → ⊥) → words ≡ x ∷ more → words ≡ y ∷ other → ⊥
two_names words more other x y differ e f = differ (firsts x y more other (sym e ∙ f))

pub run_serial : codes "run" ≡ codes "serial" → ⊥
run_serial e = absurd (cc)

pub run_check : codes "run" ≡ codes "check" → ⊥
run_check e = absurd (cc)

pub run_show : codes "run" ≡ codes "show" → ⊥
run_show e = absurd (cc)

pub serial_check : codes "serial" ≡ codes "check" → ⊥
serial_check e = absurd (cc)

pub serial_show : codes "serial" ≡ codes "show" → ⊥
serial_show e = absurd (cc)

pub check_show : codes "check" ≡ codes "show" → ⊥
check_show e = absurd (cc)

pub drill_run : codes "drill" ≡ codes "run" → ⊥
drill_run e = absurd (cc)

pub drill_serial : codes "drill" ≡ codes "serial" → ⊥
drill_serial e = absurd (cc)

-- a number is not its successor
next : (m n : ℕ) → m ≡ n + 1 → m ≡ n → ⊥
next m n e f = absurd (omega arith)

pub drill_check : codes "drill" ≡ codes "check" → ⊥
drill_check e = next 100 99 refl (firsts 100 99 (codes "rill") (codes "heck") e)

pub drill_show : codes "drill" ≡ codes "show" → ⊥
drill_show e = absurd (cc)

-- texts whose third bytes differ
other_third : (x y : List ℕ) (a b : ℕ) → get_or x 2 0 ≡ a → get_or y 2 0 ≡ b → a < b → x ≡ y → ⊥
other_third x y a b f g lt e = let same = ap (λ l. get_or l 2 0) e in absurd (omega (arith, f, g, same, lt))

pub record_run : codes "record" ≡ codes "run" → ⊥
record_run e = other_third (codes "record") (codes "run") 99 110 refl refl (omega arith) e

pub record_serial : codes "record" ≡ codes "serial" → ⊥
record_serial e = other_third (codes "record") (codes "serial") 99 114 refl refl (omega arith) e

pub record_check : codes "record" ≡ codes "check" → ⊥
record_check e = other_third (codes "record") (codes "check") 99 101 refl refl (omega arith) e

pub record_show : codes "record" ≡ codes "show" → ⊥
record_show e = other_third (codes "record") (codes "show") 99 111 refl refl (omega arith) e

pub record_drill : codes "record" ≡ codes "drill" → ⊥
record_drill e = other_third (codes "record") (codes "drill") 99 105 refl refl (omega arith) e

pub replay_run : codes "replay" ≡ codes "run" → ⊥
replay_run e = other_third (codes "run") (codes "replay") 110 112 refl refl (omega arith) (sym e)

pub replay_serial : codes "replay" ≡ codes "serial" → ⊥
replay_serial e = other_third (codes "replay") (codes "serial") 112 114 refl refl (omega arith) e

pub replay_check : codes "replay" ≡ codes "check" → ⊥
replay_check e = other_third (codes "check") (codes "replay") 101 112 refl refl (omega arith) (sym e)

pub replay_show : codes "replay" ≡ codes "show" → ⊥
replay_show e = other_third (codes "show") (codes "replay") 111 112 refl refl (omega arith) (sym e)

pub replay_drill : codes "replay" ≡ codes "drill" → ⊥
replay_drill e = other_third (codes "drill") (codes "replay") 105 112 refl refl (omega arith) (sym e)

pub replay_record : codes "replay" ≡ codes "record" → ⊥
replay_record e = other_third (codes "record") (codes "replay") 99 112 refl refl (omega arith) (sym e)

pub expand_run : codes "expand" ≡ codes "run" → ⊥
expand_run e = other_third (codes "run") (codes "expand") 110 112 refl refl (omega arith) (sym e)

pub expand_serial : codes "expand" ≡ codes "serial" → ⊥
expand_serial e = other_third (codes "expand") (codes "serial") 112 114 refl refl (omega arith) e

pub expand_check : codes "expand" ≡ codes "check" → ⊥
expand_check e = other_third (codes "check") (codes "expand") 101 112 refl refl (omega arith) (sym e)

pub expand_show : codes "expand" ≡ codes "show" → ⊥
expand_show e = other_third (codes "show") (codes "expand") 111 112 refl refl (omega arith) (sym e)

pub expand_drill : codes "expand" ≡ codes "drill" → ⊥
expand_drill e = other_third (codes "drill") (codes "expand") 105 112 refl refl (omega arith) (sym e)

pub expand_record : codes "expand" ≡ codes "record" → ⊥
expand_record e = other_third (codes "record") (codes "expand") 99 112 refl refl (omega arith) (sym e)

-- these two have one third byte, and other first ones
pub expand_replay : codes "expand" ≡ codes "replay" → ⊥
expand_replay e = let same = ap (λ l. get_or l 0 0) e in absurd (omega (arith, same))

-- a drill needs no text
pub drill_only : (words : List (List ℕ)) (tasks workers : ℕ) → DrillWords words tasks workers → NeedsText words → ⊥
drill_only words n v d (to_run w l ns h) = two_names words d.more h.more _ _ drill_run d.two h.two
drill_only words n v d (to_serial l ns h) = two_names words d.more h.more _ _ drill_serial d.two h.two
drill_only words n v d (to_check h) = two_names words d.more [] _ _ drill_check d.two h.spelled
drill_only words n v d (to_show h) = two_names words d.more [] _ _ drill_show d.two h.spelled
drill_only words n v d (to_record w l ns h) = two_names words h.more d.more _ _ record_drill h.two d.two
drill_only words n v d (to_replay h) = two_names words [] d.more _ _ replay_drill h.spelled d.two
drill_only words n v d (to_expand h) = two_names words [] d.more _ _ expand_drill h.spelled d.two

pub swapped : {A : Type 0} {x y : A} → (x ≡ y → ⊥) → y ≡ x → ⊥
swapped f e = f (sym e)

pub no_run : (words : List (List ℕ)) (first : List ℕ) (more : List (List ℕ)) (e : WordsError) → words ≡ first ∷ more → NoExecution more e → NoRun words e
no_run words first more Usage two never = λ w l ns r.
    let P : List (List ℕ) → Type 0 = λ ws. SpellsExecution ws l ns in
    never l ns (subst P (rests _ _ _ _ (sym r.two ∙ two)) r.execution)
no_run words first more Memory two never = tt

no_run_named : (name : List ℕ) (rest : List (List ℕ)) → name ≡ codes "run" → ((w l : ℕ) (ns : List ℤ) → SpellsRun rest w l ns → ⊥) →
    AcceptsWords (name ∷ rest) → ⊥
no_run_named name rest is never (on_text (to_run w l ns h)) =
    let P : List (List ℕ) → Type 0 = λ ws. SpellsRun ws w l ns in never w l ns (subst P (sym (rests _ _ _ _ h.two)) h.run)
no_run_named name rest is never (on_text (to_serial l ns h)) = run_serial (sym is ∙ firsts _ _ _ _ h.two)
no_run_named name rest is never (on_text (to_check h)) = run_check (sym is ∙ firsts _ _ _ _ h.spelled)
no_run_named name rest is never (on_text (to_show h)) = run_show (sym is ∙ firsts _ _ _ _ h.spelled)
no_run_named name rest is never (on_text (to_record w l ns h)) = record_run (sym (firsts _ _ _ _ h.two) ∙ is)
no_run_named name rest is never (on_text (to_replay h)) = replay_run (sym (firsts _ _ _ _ h.spelled) ∙ is)
no_run_named name rest is never (on_text (to_expand h)) = expand_run (sym (firsts _ _ _ _ h.spelled) ∙ is)
no_run_named name rest is never (to_drill n v h) = drill_run (sym (firsts _ _ _ _ h.two) ∙ is)

pub not_run : (name : List ℕ) (rest : List (List ℕ)) (e : WordsError) → name ≡ codes "run" → NoRun rest e → IsUsage (name ∷ rest) e
not_run name rest Usage is never = no_run_named name rest is never
not_run name rest Memory is never = tt

no_record_named : (name : List ℕ) (rest : List (List ℕ)) → name ≡ codes "record" → ((w l : ℕ) (ns : List ℤ) → SpellsRun rest w l ns → ⊥) →
    AcceptsWords (name ∷ rest) → ⊥
no_record_named name rest is never (on_text (to_run w l ns h)) = record_run (sym is ∙ firsts _ _ _ _ h.two)
no_record_named name rest is never (on_text (to_serial l ns h)) = record_serial (sym is ∙ firsts _ _ _ _ h.two)
no_record_named name rest is never (on_text (to_check h)) = record_check (sym is ∙ firsts _ _ _ _ h.spelled)
no_record_named name rest is never (on_text (to_show h)) = record_show (sym is ∙ firsts _ _ _ _ h.spelled)
no_record_named name rest is never (on_text (to_record w l ns h)) =
    let P : List (List ℕ) → Type 0 = λ ws. SpellsRun ws w l ns in never w l ns (subst P (sym (rests _ _ _ _ h.two)) h.run)
no_record_named name rest is never (on_text (to_replay h)) = replay_record (sym (firsts _ _ _ _ h.spelled) ∙ is)
no_record_named name rest is never (on_text (to_expand h)) = expand_record (sym (firsts _ _ _ _ h.spelled) ∙ is)
no_record_named name rest is never (to_drill n v h) = record_drill (sym is ∙ firsts _ _ _ _ h.two)

pub not_record : (name : List ℕ) (rest : List (List ℕ)) (e : WordsError) → name ≡ codes "record" → NoRun rest e → IsUsage (name ∷ rest) e
not_record name rest Usage is never = no_record_named name rest is never
not_record name rest Memory is never = tt

no_serial_named : (name : List ℕ) (rest : List (List ℕ)) → name ≡ codes "serial" → ((l : ℕ) (ns : List ℤ) → SpellsExecution rest l ns → ⊥) →
    AcceptsWords (name ∷ rest) → ⊥
no_serial_named name rest is never (on_text (to_run w l ns h)) = run_serial (sym (firsts _ _ _ _ h.two) ∙ is)
no_serial_named name rest is never (on_text (to_serial l ns h)) =
    let P : List (List ℕ) → Type 0 = λ ws. SpellsExecution ws l ns in never l ns (subst P (sym (rests _ _ _ _ h.two)) h.execution)
no_serial_named name rest is never (on_text (to_check h)) = serial_check (sym is ∙ firsts _ _ _ _ h.spelled)
no_serial_named name rest is never (on_text (to_show h)) = serial_show (sym is ∙ firsts _ _ _ _ h.spelled)
no_serial_named name rest is never (on_text (to_record w l ns h)) = record_serial (sym (firsts _ _ _ _ h.two) ∙ is)
no_serial_named name rest is never (on_text (to_replay h)) = replay_serial (sym (firsts _ _ _ _ h.spelled) ∙ is)
no_serial_named name rest is never (on_text (to_expand h)) = expand_serial (sym (firsts _ _ _ _ h.spelled) ∙ is)
no_serial_named name rest is never (to_drill n v h) = drill_serial (sym (firsts _ _ _ _ h.two) ∙ is)

pub not_serial : (name : List ℕ) (rest : List (List ℕ)) (e : WordsError) → name ≡ codes "serial" → NoExecution rest e → IsUsage (name ∷ rest) e
not_serial name rest Usage is never = no_serial_named name rest is never
not_serial name rest Memory is never = tt

pub not_drill : (name : List ℕ) (rest : List (List ℕ)) → name ≡ codes "drill" → NoDrill rest → AcceptsWords (name ∷ rest) → ⊥
not_drill name rest is never (on_text (to_run w l ns h)) = drill_run (sym is ∙ firsts _ _ _ _ h.two)
not_drill name rest is never (on_text (to_serial l ns h)) = drill_serial (sym is ∙ firsts _ _ _ _ h.two)
not_drill name rest is never (on_text (to_check h)) = drill_check (sym is ∙ firsts _ _ _ _ h.spelled)
not_drill name rest is never (on_text (to_show h)) = drill_show (sym is ∙ firsts _ _ _ _ h.spelled)
not_drill name rest is never (on_text (to_record w l ns h)) = record_drill (sym (firsts _ _ _ _ h.two) ∙ is)
not_drill name rest is never (on_text (to_replay h)) = replay_drill (sym (firsts _ _ _ _ h.spelled) ∙ is)
not_drill name rest is never (on_text (to_expand h)) = expand_drill (sym (firsts _ _ _ _ h.spelled) ∙ is)
not_drill name rest is never (to_drill n v h) =
    let P : List (List ℕ) → Type 0 = λ ws. SpellsDrill ws n v in never n v (subst P (sym (rests _ _ _ _ h.two)) h.drill)
