-- A run that stops, in which each commuting task runs where it is created, has the answer of the run in the order of creation.
use Rattle.std.proofs.Common.{◌≡◌, ℕ, List, [], ◌∷◌, map, ℤ, refl, sym, ap, ◌∙◌}
use Rattle.jade_syntax.specs.Abstract.{AbstractProgram}
use Rattle.jade_syntax.specs.Objects.{sizes}
use Rattle.jade_meaning.specs.Course.{root_course}
use Rattle.jade_meaning.specs.Serial.{Mark, Store, serial, serial_run, under, after, done_to, parts, Part, zeros}
use Rattle.jade_meaning.specs.Turns.{in_order}
use Rattle.jade_meaning.specs.Answer.{first_fault, limit_place, decided, by_key, StopsInOrder}
use Rattle.jade_meaning.specs.AtOnce.{run_at_once}
use Rattle.jade_meaning.specs.ReportAnswer.{report_answer}
use Rattle.jade_meaning.proofs.Answering.{reported_tells, report_tells}
use Rattle.jade_meaning.proofs.Carrying.{once_parts}
use Rattle.jade_meaning.proofs.Immediate.{reports_at_once}
use Rattle.jade_meaning.proofs.Stops.{stops_plainly}

after_under : (k : ℕ) (ms : List Mark) (store : Store) → after (map (under k) ms) store ≡ after ms store
after_under k [] store = refl
after_under k (m ∷ ms) store = after_under k ms (done_to m.deed store)

pub stops_in_order : (p : AbstractProgram) (ns : List ℤ) (limit : ℕ) → StopsInOrder p ns limit
stops_in_order p ns limit =
    let store = zeros (sizes p.items) in
    let c = root_course p ns limit in
    let h = once_parts (0 ∷ []) c 0 0 store in
    let same_parts : parts (run_at_once p ns limit) ≡ parts (serial_run p ns limit) = h.0 in
    let same_store : after (run_at_once p ns limit) store ≡ after (serial_run p ns limit) store = h.1 store ∙ sym (after_under 0 (serial c 0 0 store) store) in
    let told = λ (ps : List Part) (s : Store). decided (first_fault (by_key ps)) (limit_place limit (by_key ps)) s in
    record {
      same = stops_plainly p ns limit
          ∙ ap (λ ps. told ps (after (serial_run p ns limit) store)) (sym same_parts)
          ∙ ap (told (parts (run_at_once p ns limit))) (sym same_store)
          ∙ sym (reported_tells (sizes p.items) (run_at_once p ns limit) limit)
          ∙ sym (ap (report_answer limit) (reports_at_once p ns limit).same)
          ∙ (report_tells p ns limit in_order).same;
    }
