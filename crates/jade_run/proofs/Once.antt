-- Words and a text come to one text and one status.
use Rattle.std.proofs.Common.{◌≡◌, ℕ, ◌<◌, ◌≤◌, inl, inr, true, List, [], ◌∷◌, length, Some, refl, ap, sym, ◌∙◌, subst, arith}
use Rattle.std.specs.Prelude.{codes, ℤ, map}
use Rattle.std.specs.List.{list_all}
use Rattle.std.specs.Fmt.{signed_decimal}
use Rattle.std.proofs.lemmas.Fmt.{decimal_injective, signed_decimal_injective}
use Rattle.jade_run.specs.declared.status.Status.{Status}
use Rattle.jade_run.specs.declared.status.Status.TheVariants.{Good, Fault, Refused, Words, Numbers, Reading, Writing, Memory, Replay}
use Rattle.jade_run.specs.Complete.{Completes, EndsBy}
use Rattle.jade_run.specs.Headline.{Headline, Moment, WroteAll, WrotePart}
use Rattle.jade_meaning.specs.Turns.{in_order}
use Rattle.jade_run.specs.Answered.{TurnLists, IsAnswered, IsExpanded, IsShown, IsTested, IsDrilled}
use Rattle.jade_run.specs.Standing.{first_place}
use Rattle.jade_run.specs.Outcome.{IsOutcome, SameOutcome, usage, too_long, run, serial, check, show, drill, keep, replay, expand}
use Rattle.jade_run.specs.Texts.{refused_text, usage_text}
use Rattle.jade_run.proofs.Naming.{firsts, rests, two_names, run_serial, run_check, run_show, serial_check, serial_show, check_show, swapped, drill_only}
use Rattle.jade_run.proofs.Naming.{record_run, record_serial, record_check, record_show, replay_run, replay_serial, replay_check, replay_show, replay_record}
use Rattle.jade_run.proofs.Naming.{expand_run, expand_serial, expand_check, expand_show, expand_record, expand_replay}
use Rattle.jade_run.proofs.Alike.{Parses, same_answers, same_tested, same_shown, same_expanded, same_drilled}
use Rattle.jade_run.proofs.Retold.{same_kept, same_replayed}
use Rattle.jade_run.specs.Recordings.{IsKept, IsReplayed}
use Rattle.number_words.specs.Numbers.{is_number}
use Rattle.number_words.proofs.Signed.{small}
use Rattle.jade_run.proofs.Signed.{and_first, and_second}
use Rattle.jade_run.specs.Words.{SpellsExecution, SpellsRun, RunWords, SerialWords, CheckWords, ShowWords, DrillWords, RecordWords, ReplayWords, ExpandWords, NeedsText, RefusesWords, to_run, to_serial, to_check, to_show, to_record, to_replay, to_expand, on_text, to_drill}

-- ---- words ask for one thing

numbers_are : (xs ys : List ℤ) → list_all is_number xs ≡ true → list_all is_number ys ≡ true → map signed_decimal xs ≡ map signed_decimal ys → xs ≡ ys
numbers_are [] [] f g e = refl
numbers_are [] (y ∷ ys) f g e = absurd (cc)
numbers_are (x ∷ xs) [] f g e = absurd (cc)
numbers_are (x ∷ xs) (y ∷ ys) f g e =
    let first = signed_decimal_injective x y (small x (and_first _ _ f)) (small y (and_first _ _ g)) (firsts _ _ _ _ e) in
    let rest = numbers_are xs ys (and_second _ _ f) (and_second _ _ g) (rests _ _ _ _ e) in
    ap (λ z. z ∷ xs) first ∙ ap (λ zs. y ∷ zs) rest

-- what words ask for: that a text be executed by workers or serially, with a limit and numbers, checked, shown, executed and recorded, replayed, or expanded
data Order : Type 0 where
  Executes : ℕ → List ℤ → Order
  Follows : ℕ → List ℤ → Order
  Tests : Order
  Displays : Order
  Keeps : ℕ → List ℤ → Order
  Replays : Order
  Expands : Order

one_execution : (How : ℕ → List ℤ → Order) (words : List (List ℕ)) (l m : ℕ) (xs ys : List ℤ) → SpellsExecution words l xs → SpellsExecution words m ys → How l xs ≡ How m ys
one_execution How words l m xs ys h k =
    let two : h.first ∷ h.more ≡ k.first ∷ k.more = sym h.two ∙ k.two in
    let limit : l ≡ m = decimal_injective l m (omega (arith, h.steps.within)) (omega (arith, k.steps.within))
    (sym h.steps.spelled ∙ firsts _ _ _ _ two ∙ k.steps.spelled) in
    let numbers : xs ≡ ys = numbers_are xs ys h.given.fit k.given.fit (sym h.given.spelled ∙ rests _ _ _ _ two ∙ k.given.spelled) in
    ap (λ n. How n xs) limit ∙ ap (How m) numbers

data Ordered (words : List (List ℕ)) (o : Order) : Type 0 where
  runs : (workers limit : ℕ) (numbers : List ℤ) → RunWords words workers limit numbers → o ≡ Executes limit numbers → Ordered words o
  serials : (limit : ℕ) (numbers : List ℤ) → SerialWords words limit numbers → o ≡ Follows limit numbers → Ordered words o
  checks : CheckWords words → o ≡ Tests → Ordered words o
  shows : ShowWords words → o ≡ Displays → Ordered words o
  records : (workers limit : ℕ) (numbers : List ℤ) → RecordWords words workers limit numbers → o ≡ Keeps limit numbers → Ordered words o
  replays : ReplayWords words → o ≡ Replays → Ordered words o
  expands : ExpandWords words → o ≡ Expands → Ordered words o

one_run : (How : ℕ → List ℤ → Order) (words : List (List ℕ)) (w l v m : ℕ) (xs ys : List ℤ) → SpellsRun words w l xs → SpellsRun words v m ys → How l xs ≡ How m ys
one_run How words w l v m xs ys h k =
    let two : h.first ∷ h.more ≡ k.first ∷ k.more = sym h.two ∙ k.two in
    let P : List (List ℕ) → Type 0 = λ ws. SpellsExecution ws l xs in
    one_execution How k.more l m xs ys (subst P (rests _ _ _ _ two) h.execution) k.execution

one_order : (words : List (List ℕ)) (a b : Order) → Ordered words a → Ordered words b → a ≡ b
one_order words a b (runs w l xs h d) (runs v m ys k e) =
    let P : List (List ℕ) → Type 0 = λ ws. SpellsRun ws w l xs in
    d ∙ one_run Executes k.more w l v m xs ys (subst P (rests _ _ _ _ (sym h.two ∙ k.two)) h.run) k.run ∙ sym e
one_order words a b (serials l xs h d) (serials m ys k e) =
    let P : List (List ℕ) → Type 0 = λ ws. SpellsExecution ws l xs in
    d ∙ one_execution Follows k.more l m xs ys (subst P (rests _ _ _ _ (sym h.two ∙ k.two)) h.execution) k.execution ∙ sym e
one_order words a b (checks h d) (checks k e) = d ∙ sym e
one_order words a b (shows h d) (shows k e) = d ∙ sym e
one_order words a b (runs w l xs h d) (serials m ys k e) = absurd (two_names words h.more k.more _ _ run_serial h.two k.two)
one_order words a b (runs w l xs h d) (checks k e) = absurd (two_names words h.more [] _ _ run_check h.two k.spelled)
one_order words a b (runs w l xs h d) (shows k e) = absurd (two_names words h.more [] _ _ run_show h.two k.spelled)
one_order words a b (serials l xs h d) (runs v m ys k e) = absurd (two_names words h.more k.more _ _ (swapped run_serial) h.two k.two)
one_order words a b (serials l xs h d) (checks k e) = absurd (two_names words h.more [] _ _ serial_check h.two k.spelled)
one_order words a b (serials l xs h d) (shows k e) = absurd (two_names words h.more [] _ _ serial_show h.two k.spelled)
one_order words a b (checks h d) (runs v m ys k e) = absurd (two_names words [] k.more _ _ (swapped run_check) h.spelled k.two)
one_order words a b (checks h d) (serials m ys k e) = absurd (two_names words [] k.more _ _ (swapped serial_check) h.spelled k.two)
one_order words a b (checks h d) (shows k e) = absurd (two_names words [] [] _ _ check_show h.spelled k.spelled)
one_order words a b (shows h d) (runs v m ys k e) = absurd (two_names words [] k.more _ _ (swapped run_show) h.spelled k.two)
one_order words a b (shows h d) (serials m ys k e) = absurd (two_names words [] k.more _ _ (swapped serial_show) h.spelled k.two)
one_order words a b (shows h d) (checks k e) = absurd (two_names words [] [] _ _ (swapped check_show) h.spelled k.spelled)
one_order words a b (records w l xs h d) (records v m ys k e) =
    let P : List (List ℕ) → Type 0 = λ ws. SpellsRun ws w l xs in
    d ∙ one_run Keeps k.more w l v m xs ys (subst P (rests _ _ _ _ (sym h.two ∙ k.two)) h.run) k.run ∙ sym e
one_order words a b (replays h d) (replays k e) = d ∙ sym e
one_order words a b (records w l xs h d) (runs v m ys k e) = absurd (two_names words h.more k.more _ _ record_run h.two k.two)
one_order words a b (runs w l xs h d) (records v m ys k e) = absurd (two_names words h.more k.more _ _ (swapped record_run) h.two k.two)
one_order words a b (records w l xs h d) (serials m ys k e) = absurd (two_names words h.more k.more _ _ record_serial h.two k.two)
one_order words a b (serials l xs h d) (records v m ys k e) = absurd (two_names words h.more k.more _ _ (swapped record_serial) h.two k.two)
one_order words a b (records w l xs h d) (checks k e) = absurd (two_names words h.more [] _ _ record_check h.two k.spelled)
one_order words a b (checks h d) (records v m ys k e) = absurd (two_names words [] k.more _ _ (swapped record_check) h.spelled k.two)
one_order words a b (records w l xs h d) (shows k e) = absurd (two_names words h.more [] _ _ record_show h.two k.spelled)
one_order words a b (shows h d) (records v m ys k e) = absurd (two_names words [] k.more _ _ (swapped record_show) h.spelled k.two)
one_order words a b (records w l xs h d) (replays k e) = absurd (two_names words h.more [] _ _ (swapped replay_record) h.two k.spelled)
one_order words a b (replays h d) (runs v m ys k e) = absurd (two_names words [] k.more _ _ replay_run h.spelled k.two)
one_order words a b (runs w l xs h d) (replays k e) = absurd (two_names words h.more [] _ _ (swapped replay_run) h.two k.spelled)
one_order words a b (replays h d) (serials m ys k e) = absurd (two_names words [] k.more _ _ replay_serial h.spelled k.two)
one_order words a b (serials l xs h d) (replays k e) = absurd (two_names words h.more [] _ _ (swapped replay_serial) h.two k.spelled)
one_order words a b (replays h d) (checks k e) = absurd (two_names words [] [] _ _ replay_check h.spelled k.spelled)
one_order words a b (checks h d) (replays k e) = absurd (two_names words [] [] _ _ (swapped replay_check) h.spelled k.spelled)
one_order words a b (replays h d) (shows k e) = absurd (two_names words [] [] _ _ replay_show h.spelled k.spelled)
one_order words a b (shows h d) (replays k e) = absurd (two_names words [] [] _ _ (swapped replay_show) h.spelled k.spelled)
one_order words a b (replays h d) (records v m ys k e) = absurd (two_names words [] k.more _ _ replay_record h.spelled k.two)
one_order words a b (expands h d) (expands k e) = d ∙ sym e
one_order words a b (expands h d) (runs v m ys k e) = absurd (two_names words [] k.more _ _ expand_run h.spelled k.two)
one_order words a b (runs w l xs h d) (expands k e) = absurd (two_names words h.more [] _ _ (swapped expand_run) h.two k.spelled)
one_order words a b (expands h d) (serials m ys k e) = absurd (two_names words [] k.more _ _ expand_serial h.spelled k.two)
one_order words a b (serials l xs h d) (expands k e) = absurd (two_names words h.more [] _ _ (swapped expand_serial) h.two k.spelled)
one_order words a b (expands h d) (checks k e) = absurd (two_names words [] [] _ _ expand_check h.spelled k.spelled)
one_order words a b (checks h d) (expands k e) = absurd (two_names words [] [] _ _ (swapped expand_check) h.spelled k.spelled)
one_order words a b (expands h d) (shows k e) = absurd (two_names words [] [] _ _ expand_show h.spelled k.spelled)
one_order words a b (shows h d) (expands k e) = absurd (two_names words [] [] _ _ (swapped expand_show) h.spelled k.spelled)
one_order words a b (expands h d) (records v m ys k e) = absurd (two_names words [] k.more _ _ expand_record h.spelled k.two)
one_order words a b (records w l xs h d) (expands k e) = absurd (two_names words h.more [] _ _ (swapped expand_record) h.two k.spelled)
one_order words a b (expands h d) (replays k e) = absurd (two_names words [] [] _ _ expand_replay h.spelled k.spelled)
one_order words a b (replays h d) (expands k e) = absurd (two_names words [] [] _ _ (swapped expand_replay) h.spelled k.spelled)

needs : (words : List (List ℕ)) (o : Order) → Ordered words o → NeedsText words
needs words o (runs w l xs h d) = to_run w l xs h
needs words o (serials l xs h d) = to_serial l xs h
needs words o (checks h d) = to_check h
needs words o (shows h d) = to_show h
needs words o (records w l xs h d) = to_record w l xs h
needs words o (replays h d) = to_replay h
needs words o (expands h d) = to_expand h

-- words are the drill of one number of tasks
one_drill : (words : List (List ℕ)) (n m v w : ℕ) → DrillWords words n v → DrillWords words m w → n ≡ m
one_drill words n m v w h k =
    let two : h.more ≡ k.more = rests _ _ _ _ (sym h.two ∙ k.two) in
    let three : h.drill.first ∷ h.drill.second ∷ [] ≡ k.drill.first ∷ k.drill.second ∷ [] = sym h.drill.two ∙ two ∙ k.drill.two in
    decimal_injective n m (omega (arith, h.drill.amount.within)) (omega (arith, k.drill.amount.within))
    (sym h.drill.amount.spelled ∙ firsts _ _ _ _ three ∙ k.drill.amount.spelled)

-- ---- the outcome

-- what an order comes to on a text
abbrev Fulfils : Order → (bytes : List ℕ) (turns : TurnLists) (text : List ℕ) → Status → Type 0
Fulfils (Executes limit numbers) bytes turns text status = IsAnswered bytes numbers limit turns text status
Fulfils (Follows limit numbers) bytes turns text status = IsAnswered bytes numbers limit in_order text status
Fulfils Tests bytes turns text status = IsTested bytes text status
Fulfils Displays bytes turns text status = IsShown bytes text status
Fulfils (Keeps limit numbers) bytes turns text status = IsKept bytes numbers limit turns text status
Fulfils Replays bytes turns text status = IsReplayed bytes text status
Fulfils Expands bytes turns text status = IsExpanded bytes text status

-- an outcome: refused words, a text that is too long, an order that was carried out, or a drill
data Found (words : List (List ℕ)) (bytes : List ℕ) (turns : TurnLists) (text : List ℕ) (status : Status) : Type 0 where
  unknown : RefusesWords words → text ≡ usage_text → status ≡ Words → Found words bytes turns text status
  cut : NeedsText words → 1048576 < length bytes → text ≡ refused_text first_place (codes "text") → status ≡ Refused → Found words bytes turns text status
  done : (o : Order) → Ordered words o → length bytes ≤ 1048576 → Fulfils o bytes turns text status → Found words bytes turns text status
  drilled : (tasks workers : ℕ) → DrillWords words tasks workers → IsDrilled tasks text status → Found words bytes turns text status

found : (words : List (List ℕ)) (bytes : List ℕ) (turns : TurnLists) (text : List ℕ) (status : Status) → IsOutcome words bytes turns text status → Found words bytes turns text status
found words bytes turns text status (usage never a b) = unknown never a b
found words bytes turns text status (too_long named more a b) = cut named more a b
found words bytes turns text status (run w l xs named within h) = done (Executes l xs) (runs w l xs named refl) within h
found words bytes turns text status (serial l xs named within h) = done (Follows l xs) (serials l xs named refl) within h
found words bytes turns text status (check named within h) = done Tests (checks named refl) within h
found words bytes turns text status (show named within h) = done Displays (shows named refl) within h
found words bytes turns text status (drill n w named h) = drilled n w named h
found words bytes turns text status (keep w l xs named within h) = done (Keeps l xs) (records w l xs named refl) within h
found words bytes turns text status (replay named within h) = done Replays (replays named refl) within h
found words bytes turns text status (expand named within h) = done Expands (expands named refl) within h

same_fulfilled : Parses → (o : Order) (bytes : List ℕ) (turns : TurnLists) (t u : List ℕ) (s r : Status) → length bytes ≤ 1048576 → Fulfils o bytes turns t s → Fulfils o bytes turns u r → SameOutcome t s u r
same_fulfilled law (Executes limit numbers) bytes turns t u s r within h k = same_answers law bytes numbers limit turns t u s r h k
same_fulfilled law (Follows limit numbers) bytes turns t u s r within h k = same_answers law bytes numbers limit in_order t u s r h k
same_fulfilled law Tests bytes turns t u s r within h k = same_tested law bytes t u s r h k
same_fulfilled law Displays bytes turns t u s r within h k = same_shown law bytes t u s r h k
same_fulfilled law (Keeps limit numbers) bytes turns t u s r within h k = same_kept law bytes numbers limit turns t u s r h k
same_fulfilled law Replays bytes turns t u s r within h k = same_replayed law bytes t u s r within h k
same_fulfilled law Expands bytes turns t u s r within h k = same_expanded law bytes t u s r h k

same_found : Parses → (words : List (List ℕ)) (bytes : List ℕ) (turns : TurnLists) (t u : List ℕ) (s r : Status) → Found words bytes turns t s → Found words bytes turns u r → SameOutcome t s u r
same_found law words bytes turns t u s r (unknown never a b) (unknown never' c d) = record { text = a ∙ sym c; status = b ∙ sym d }
same_found law words bytes turns t u s r (unknown never a b) (cut named more c d) = absurd (never (on_text named))
same_found law words bytes turns t u s r (unknown never a b) (done o h within k) = absurd (never (on_text (needs words o h)))
same_found law words bytes turns t u s r (cut named more a b) (unknown never c d) = absurd (never (on_text named))
same_found law words bytes turns t u s r (cut named more a b) (cut named' more' c d) = record { text = a ∙ sym c; status = b ∙ sym d }
same_found law words bytes turns t u s r (cut named more a b) (done o h within k) = absurd (omega arith)
same_found law words bytes turns t u s r (done o h within k) (unknown never c d) = absurd (never (on_text (needs words o h)))
same_found law words bytes turns t u s r (done o h within k) (cut named more c d) = absurd (omega arith)
same_found law words bytes turns t u s r (done o h within k) (done o' h' within' k') =
    let P : Order → Type 0 = λ x. Fulfils x bytes turns t s in
    same_fulfilled law o' bytes turns t u s r within (subst P (one_order words o o' h h') k) k'
same_found law words bytes turns t u s r (unknown never a b) (drilled n w h k) = absurd (never (to_drill n w h))
same_found law words bytes turns t u s r (cut named more a b) (drilled n w h k) = absurd (drill_only words n w h named)
same_found law words bytes turns t u s r (done o h within k) (drilled n w h' k') = absurd (drill_only words n w h' (needs words o h))
same_found law words bytes turns t u s r (drilled n w h k) (unknown never a b) = absurd (never (to_drill n w h))
same_found law words bytes turns t u s r (drilled n w h k) (cut named more a b) = absurd (drill_only words n w h named)
same_found law words bytes turns t u s r (drilled n w h k) (done o h' within k') = absurd (drill_only words n w h (needs words o h'))
same_found law words bytes turns t u s r (drilled n w h k) (drilled m v h' k') =
    let P : ℕ → Type 0 = λ z. IsDrilled z t s in same_drilled law m t u s r (subst P (one_drill words n m w v h h') k) k'

pub same_outcomes : Parses → (words : List (List ℕ)) (bytes : List ℕ) (turns : TurnLists) (t u : List ℕ) (s r : Status) → IsOutcome words bytes turns t s → IsOutcome words bytes turns u r →
    SameOutcome t s u r
same_outcomes law words bytes turns t u s r h k = same_found law words bytes turns t u s r (found words bytes turns t s h) (found words bytes turns u r k)

-- a call that ended with an outcome, over a source that told its bytes
wrote_all : (words : List (List ℕ)) (bytes : List ℕ) (room : ℕ) (status : Status) (before after : Moment) → before.left ≡ Some bytes →
    WroteAll words status before after → EndsBy words bytes room status
wrote_all words bytes room status before after told h = record {
  turns = h.answers.comes.turns;
  text = h.text;
  wanted = status;
  outcome = subst (λ b. IsOutcome words b h.answers.comes.turns h.text status) (h.answers.comes.told bytes told) h.answers.comes.outcome;
  ends = λ fits. refl;
}

-- a call whose sink failed: the room was too small
wrote_part : (words : List (List ℕ)) (bytes : List ℕ) (room : ℕ) (status : Status) (before after : Moment) → before.left ≡ Some bytes →
    before.room ≡ Some room → WrotePart words before after → EndsBy words bytes room status
wrote_part words bytes room status before after told roomy h = record {
  turns = h.comes.turns;
  text = h.text;
  wanted = h.status;
  outcome = subst (λ b. IsOutcome words b h.comes.turns h.text h.status) (h.comes.told bytes told) h.comes.outcome;
  ends = λ fits. absurd (let short = h.short room roomy in omega (arith, short, fits));
}

pub completes : (words : List (List ℕ)) (bytes : List ℕ) (room : ℕ) (status : Status) (before after : Moment) → before.left ≡ Some bytes →
    before.room ≡ Some room → before.source_faults ≡ 0 → after.source_faults ≡ 0 → Headline words status before after →
    Completes words bytes room status
completes words bytes room Good before after told roomy f g h =
    record { reads = λ e. cc; ends = inl (wrote_all words bytes room Good before after told h) }
completes words bytes room Fault before after told roomy f g h =
    record { reads = λ e. cc; ends = inl (wrote_all words bytes room Fault before after told h) }
completes words bytes room Refused before after told roomy f g h =
    record { reads = λ e. cc; ends = inl (wrote_all words bytes room Refused before after told h) }
completes words bytes room Words before after told roomy f g h =
    record { reads = λ e. cc; ends = inl (wrote_all words bytes room Words before after told h) }
completes words bytes room Numbers before after told roomy f g h =
    record { reads = λ e. cc; ends = inl (wrote_all words bytes room Numbers before after told h) }
completes words bytes room Replay before after told roomy f g h =
    record { reads = λ e. cc; ends = inl (wrote_all words bytes room Replay before after told h) }
completes words bytes room Memory before after told roomy f g h = record { reads = λ e. cc; ends = inr refl }
completes words bytes room Writing before after told roomy f g h =
    record { reads = λ e. cc; ends = inl (wrote_part words bytes room Writing before after told roomy h) }
completes words bytes room Reading before after told roomy f g h =
    absurd (elim h.rose [ inl p ↦ omega arith | inr q ↦ omega arith ])
