-- Code that performs statements, against where they leave a task.
use Rattle.std.proofs.Common.{◌≡◌, ℕ, zero, suc, ◌+◌, ◌≤◌, List, ◌∷◌, ◌++◌, map, length, refl, ap, sym, ◌∙◌, subst, drop, Some, Result, Err, arith}
use Rattle.std.specs.Prelude.{ℤ, pos, negsuc, ◌+ℤ◌, ◌-ℤ◌, ◌<ℤ◌, ◌≤ℤ◌, slice_get}
use Rattle.std.proofs.lemmas.List.{drop_all}
use Rattle.std.proofs.lemmas.Int.{ints}
use Rattle.jade_syntax.specs.declared.tree.Statement.{Statement}
use Rattle.jade_syntax.specs.declared.tree.Named.{Named}
use Rattle.jade_syntax.specs.Abstract.{Name}
use Rattle.jade_syntax.specs.Image.{action, block}
use Rattle.jade_meaning.specs.declared.run_state.RunState.{RunState}
use Rattle.jade_meaning.specs.declared.setting.Task.{Task}
use Rattle.jade_meaning.specs.declared.stop.Stop.{Stop}
use Rattle.jade_meaning.specs.declared.stop.Stop.TheVariants.{Fault, Memory}
use Rattle.jade_meaning.specs.Values.{magnitude, turn_count}
use Rattle.jade_meaning.specs.Course.{Setting, Environment, copied, value_of}
use Rattle.jade_meaning.specs.Serial.{Path}
use Rattle.jade_meaning.specs.steps.Perform.{Outcome, Goes, then_on, begun, within, turned, turned_once, perform, perform_all, Follows}
use Rattle.jade_syntax.proofs.Limits.{drop_item}

-- an answer that is another's
pub follows_as : (r : Result (Unit {0}) Stop) (o q : Outcome) (t : Task) (l : RunState) → q ≡ o → Follows r o t l → Follows r q t l
follows_as r o q t l e h = subst (λ x. Follows r x t l) (sym e) h

-- an end is the end of what follows too
pub stops_on : (stop : Stop) (o q : Outcome) (f : Task → RunState → Outcome) (t : Task) (l : RunState) → q ≡ then_on o f → Follows (Err stop) o t l
    → Follows (Err stop) q t l
stops_on (Fault b) o q f t l e h = e ∙ ap (λ x. then_on x f) h
stops_on Memory o q f t l e h = tt

-- an end inside of a block
pub stops_within : (stop : Stop) (o q : Outcome) (before t : Task) (l : RunState) → q ≡ within before o → Follows (Err stop) o t l → Follows (Err stop) q t l
stops_within (Fault b) o q before t l e h = e ∙ ap (within before) h
stops_within Memory o q before t l e h = tt

-- the statements from i on are left
pub record Comes (s : Setting) (p : Path) (ss : List Statement) (t0 : Task) (l0 : RunState) (i : ℕ) (t : Task) (l : RunState) : Type 0 where
  pub same : perform_all s p (block ss) t0 l0 ≡ perform_all s p (block (drop i ss)) t l

module _ {s : Setting} {p : Path} {ss : List Statement} {t0 : Task} {l0 : RunState} {i : ℕ} {t : Task} {l : RunState} where
  comes_to : (x : Statement) → slice_get ss i ≡ Some x → Comes s p ss t0 l0 i t l → perform_all s p (block ss) t0 l0 ≡ then_on
      (then_on (begun s.limit t l) (perform s p (action x))) (perform_all s p (block (drop (i + 1) ss)))
  comes_to x h c = c.same ∙ ap (λ a. perform_all s p (block a) t l) (drop_item ss i x h)

  pub comes_more : (x : Statement) (w : Task) (k : RunState) → slice_get ss i ≡ Some x → then_on (begun s.limit t l) (perform s p (action x)) ≡ Goes w k
      → Comes s p ss t0 l0 i t l → Comes s p ss t0 l0 (i + 1) w k
  comes_more x w k h d c = record {
    same = comes_to x h c ∙ ap (λ o. then_on o (perform_all s p (block (drop (i + 1) ss)))) d;
  }

  pub comes_fails : (x : Statement) (stop : Stop) (w : Task) (k : RunState) → slice_get ss i ≡ Some x
      → Follows (Err stop) (then_on (begun s.limit t l) (perform s p (action x))) w k → Comes s p ss t0 l0 i t l
      → Follows (Err stop) (perform_all s p (block ss) t0 l0) w k
  comes_fails x stop w k h d c = stops_on stop (then_on (begun s.limit t l) (perform s p (action x))) (perform_all s p (block ss) t0 l0)
      (perform_all s p (block (drop (i + 1) ss))) w k (comes_to x h c) d

  pub comes_all : length ss ≤ i → Comes s p ss t0 l0 i t l → perform_all s p (block ss) t0 l0 ≡ Goes t l
  comes_all le c = c.same ∙ ap (λ a. perform_all s p (block a) t l) (drop_all i ss le)

-- one turn less is left
positive : (z : ℤ) → pos 0 <ℤ z → magnitude z ≡ suc (magnitude (z -ℤ pos 1))
positive (pos zero) h = absurd (omega (arith, ints))
positive (pos (suc n)) h = let e : pos (suc n) -ℤ pos 1 ≡ pos n = omega (arith, ints) in ap (λ z. suc (magnitude z)) (sym e)
positive (negsuc n) h = absurd (omega (arith, ints))

pub turn_less : (i high : ℤ) → i <ℤ high → turn_count i high ≡ suc (turn_count (i +ℤ pos 1) high)
turn_less i high h =
    let lt : pos 0 <ℤ (high -ℤ i) = omega (arith, ints) in
    let e : (high -ℤ i) -ℤ pos 1 ≡ high -ℤ (i +ℤ pos 1) = omega (arith, ints) in
    positive (high -ℤ i) lt ∙ ap (λ z. suc (magnitude z)) e

none_left : (z : ℤ) → z ≤ℤ pos 0 → magnitude z ≡ 0
none_left (pos zero) h = refl
none_left (pos (suc n)) h = absurd (omega (arith, ints))
none_left (negsuc n) h = refl

pub no_turn : (i high : ℤ) → high ≤ℤ i → turn_count i high ≡ 0
no_turn i high le = let none : (high -ℤ i) ≤ℤ pos 0 = omega (arith, ints) in none_left (high -ℤ i) none

-- the turns from the value i on are left
pub record Turning (limit : ℕ) (high : ℤ) (x : Name) (f : Task → RunState → Outcome) (low : ℤ) (t0 : Task) (l0 : RunState) (i : ℤ) (t : Task)
    (l : RunState) : Type 0 where
  pub same : turned limit (turn_count low high) low x f t0 l0 ≡ turned limit (turn_count i high) i x f t l

module _ {limit : ℕ} {high : ℤ} {x : Name} {f : Task → RunState → Outcome} {low : ℤ} {t0 : Task} {l0 : RunState} {i : ℤ} {t : Task} {l : RunState} where
  turning : i <ℤ high → Turning limit high x f low t0 l0 i t l → turned limit (turn_count low high) low x f t0 l0 ≡ then_on (turned_once limit i x f t l)
      (turned limit (turn_count (i +ℤ pos 1) high) (i +ℤ pos 1) x f)
  turning lt h = h.same ∙ ap (λ n. turned limit n i x f t l) (turn_less i high lt)

  pub turns_more : (u : Task) (m : RunState) (j : ℤ) → i <ℤ high → j ≡ i +ℤ pos 1 → turned_once limit i x f t l ≡ Goes u m
      → Turning limit high x f low t0 l0 i t l → Turning limit high x f low t0 l0 j u m
  turns_more u m j lt e d h = record {
    same = turning lt h ∙ ap (λ o. then_on o (turned limit (turn_count (i +ℤ pos 1) high) (i +ℤ pos 1) x f)) d
        ∙ ap (λ z. turned limit (turn_count z high) z x f u m) (sym e);
  }

  pub turns_stop : (stop : Stop) (u : Task) (m : RunState) → i <ℤ high → Follows (Err stop) (turned_once limit i x f t l) u m
      → Turning limit high x f low t0 l0 i t l → Follows (Err stop) (turned limit (turn_count low high) low x f t0 l0) u m
  turns_stop stop u m lt d h = stops_on stop (turned_once limit i x f t l) (turned limit (turn_count low high) low x f t0 l0)
      (turned limit (turn_count (i +ℤ pos 1) high) (i +ℤ pos 1) x f) u m (turning lt h) d

  pub turns_all : high ≤ℤ i → Turning limit high x f low t0 l0 i t l → turned limit (turn_count low high) low x f t0 l0 ≡ Goes t l
  turns_all le h =
      let none : (high -ℤ i) ≤ℤ pos 0 = omega (arith, ints) in
      h.same ∙ ap (λ n. turned limit n i x f t l) (none_left (high -ℤ i) none)

-- the names of a `do` list from a place on are copied
pub copied_more : (names : List Named) (i j : ℕ) (n : Named) (env given scope new : Environment) → i + 1 ≡ j → slice_get names i ≡ Some n
    → new ≡ record { name = n.name; value = value_of n.name env } ∷ scope → scope ≡ copied (map (λ n. n.name) (drop j names)) env ++ given
    → new ≡ copied (map (λ n. n.name) (drop i names)) env ++ given
copied_more names i j n env given scope new e h f g =
    f
    ∙ ap (λ s. record { name = n.name; value = value_of n.name env } ∷ s) (g ∙ ap (λ k. copied (map (λ n. n.name) (drop k names)) env ++ given) (sym e))
    ∙ ap (λ ns. copied (map (λ n. n.name) ns) env ++ given) (sym (drop_item names i n h))
