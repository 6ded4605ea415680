-- What the parts of a call come to, each in one step.
use Rattle.std.proofs.Common.{◌≡◌, ℕ, zero, suc, ◌<◌, ◌≤◌, true, false, List, [], ◌∷◌, length, Option, Some, None, refl, ap, sym, ◌∙◌, subst, arith}
use Rattle.std.specs.Prelude.{codes, ℤ}
use Rattle.std.proofs.lemmas.List.{drop_all}
use Rattle.jade_base.specs.Bytes.{WholeText, CutText, left_after, taken_with}
use Rattle.jade_run.specs.declared.status.Status.{Status}
use Rattle.jade_run.specs.declared.status.Status.TheVariants.{Good, Fault, Refused, Words, Numbers, Reading, Writing, Memory, Replay}
use Rattle.jade_run.specs.Headline.{Answers, Headline, Moment, Stops}
use Rattle.jade_run.specs.declared.words.Command.{Command}
use Rattle.jade_run.specs.declared.words.Command.TheVariants.{Run, Serial, Check, Show, Drill, Record, Replay as ToReplay, Expand}
use Rattle.jade_run.specs.declared.words.Execution.{Execution}
use Rattle.jade_run.specs.declared.words.WordsError.{WordsError}
use Rattle.jade_run.specs.declared.words.WordsError.TheVariants.{Usage}
use Rattle.std.specs.Prelude.{Result, Ok, Err, IfOk, IfErr, MatchResult}
use Rattle.jade_base.specs.declared.place.Pos.{Pos}
use Rattle.jade_base.specs.declared.failure.Memory.{Memory as NoMemory}
use Rattle.jade_syntax.specs.declared.tree.Program.{Program}
use denote.Bor.{Bor}
use Rattle.jade_run.specs.declared.answer.Answer.{Answer as AnswerOf}
use Rattle.jade_run.specs.declared.answer.ReadError.{ReadError}
use Rattle.jade_run.specs.declared.answer.ReadError.TheVariants.{Refused as RefusedAt, Memory as Unread}
use Rattle.jade_meaning.specs.Turns.{in_order}
use Rattle.jade_run.specs.Answered.{TurnLists, BySomeTurns, IsAnswered, IsExpanded, IsGood, Shows, IsShown, IsTested, IsDrilled, IsNotRead, NotRead, OnRefused, RefusedFor, refused, answered, miscounted, good, not_good, shown, not_shown, expanded, not_expanded, summed, not_summed, no_program, answer_status, input_count}
use Rattle.jade_run.specs.Outcome.{IsOutcome, IsCommanded, IsAllowed, IsLimited, usage, too_long, run, serial, check, show, drill, keep, replay, expand}
use Rattle.jade_run.specs.Recordings.{
  IsKept,
  IsReplayed,
  kept,
  long as overlong,
  not_run,
  formless,
  unfit,
  uncounted,
  turnless,
  differs,
  same,
}
use Rattle.jade_meaning.specs.Moved.{moved_answer}
use Rattle.jade_run.specs.Standing.{NotExpanded, first_place}
use Rattle.jade_run.specs.Texts.{usage_text, refused_text, ok_text}
use Rattle.jade_run.specs.Words.{SpellsExecution, NeedsText, RefusesWords, Asks, IsUsage, to_run, to_serial, to_check, to_show, to_record, to_replay, to_expand, on_text}
use Rattle.jade_run.specs.Words.{works_on_text}
use Rattle.jade_run.specs.Witnessed.{Carried, SeenRun, SawWords, of_none, of_drill, refuses}
use Rattle.jade_run.proofs.Naming.{drill_only}
use Rattle.jade_run.proofs.Witnessing.{command_words, refused_words}
use Rattle.jade_meaning.specs.Answer.{Answer, Faulted, Cells, answer}
use Rattle.jade_syntax.specs.Image.{program}

-- the bytes that are told, or none
pub bytes_of : Option (List ℕ) → List ℕ
bytes_of None = []
bytes_of (Some b) = b

pub told_bytes : (left : Option (List ℕ)) (b : List ℕ) → left ≡ Some b → bytes_of left ≡ b
unfolding bytes_of
told_bytes left b e = ap bytes_of e

pub usage_answers : (words : List (List ℕ)) (left : Option (List ℕ)) (text : List ℕ) (status : Status) (seen : Option (List SeenRun)) →
    RefusesWords words → text ≡ usage_text → status ≡ Words → Answers words left left text status seen seen
usage_answers words left text status seen never t s = record {
  comes = record {
    bytes = bytes_of left;
    told = told_bytes left;
    turns = in_order;
    outcome = usage never t s;
    saw = of_none (refuses never) refl;
  };
  read = λ needed b e. absurd (never (on_text needed));
  unread = λ h. refl;
}

-- there is a list as long as is wanted
long : (n : ℕ) → (xs : List ℕ) × (n ≤ length xs)
long zero = ([], omega arith)
long (suc n) = let more = long n in (0 ∷ more.0, omega (arith, more.1))

-- bytes that are told, or enough of others
pub record Many (left : Option (List ℕ)) : Type 0 where
  pub bytes : List ℕ
  pub told : (b : List ℕ) → left ≡ Some b → bytes ≡ b
  pub more : 1048576 < length bytes

many : (left : Option (List ℕ)) → ((b : List ℕ) → left ≡ Some b → 1048577 ≤ length b) → Many left
many None h = let some = long 1048577 in record { bytes = some.0; told = λ b e. absurd (cc); more = omega (arith, some.1) }
many (Some b) h = record { bytes = b; told = λ x e. cc; more = omega (arith, h b refl) }

pub too_long_answers : (words : List (List ℕ)) (before after : Option (List ℕ)) (text : List ℕ) (status : Status) (seen : Option (List SeenRun)) →
    NeedsText words → CutText before after → text ≡ refused_text first_place (codes "text") → status ≡ Refused →
    Answers words before after text status seen seen
too_long_answers words before after text status seen named cut t s =
    let m = many before cut.too_long in
    record {
      comes = record {
        bytes = m.bytes;
        told = m.told;
        turns = in_order;
        outcome = too_long named m.more t s;
        saw = subst (λ x. SawWords words m.bytes in_order x seen seen) (sym s) (refused_words words m.bytes in_order seen named);
      };
      read = λ needed b e. cut.cut ∙ ap (left_after 1048577) e;
      unread = λ h. absurd (h named);
    }

pub asks_text : (words : List (List ℕ)) (c : Command) → Asks words c → works_on_text c ≡ true → NeedsText words
asks_text words (Run w e) h on = to_run w e.limit e.numbers h
asks_text words (Serial e) h on = to_serial e.limit e.numbers h
asks_text words Check h on = to_check h
asks_text words Show h on = to_show h
asks_text words (Drill n w) h on = absurd (cc)
asks_text words (Record w e) h on = to_record w e.limit e.numbers h
asks_text words ToReplay h on = to_replay h
asks_text words Expand h on = to_expand h

executed : (words : List (List ℕ)) (e : Execution) → SpellsExecution words e.limit e.numbers → IsLimited e
executed words e h = (h.steps.some, h.given.few)

pub asks_allowed : (words : List (List ℕ)) (c : Command) → Asks words c → IsAllowed c
asks_allowed words (Run w e) h = ((h.run.crew.some, h.run.crew.within), executed h.run.more e h.run.execution)
asks_allowed words (Serial e) h = executed h.more e h.execution
asks_allowed words Check h = tt
asks_allowed words Show h = tt
asks_allowed words (Drill n w) h = ((h.drill.crew.some, h.drill.crew.within), (h.drill.amount.some, h.drill.amount.within))
asks_allowed words (Record w e) h = ((h.run.crew.some, h.run.crew.within), executed h.run.more e h.run.execution)
asks_allowed words ToReplay h = tt
asks_allowed words Expand h = tt

commanded : (words : List (List ℕ)) (c : Command) (bytes : List ℕ) (turns : TurnLists) (text : List ℕ) (status : Status) → Asks words c
    → length bytes ≤ 1048576 → IsCommanded c bytes turns text status → IsOutcome words bytes turns text status
commanded words (Run w e) bytes turns text status asked within h = run w e.limit e.numbers asked within h
commanded words (Serial e) bytes turns text status asked within h = serial e.limit e.numbers asked within h
commanded words Check bytes turns text status asked within h = check asked within h
commanded words Show bytes turns text status asked within h = show asked within h
commanded words (Drill n w) bytes turns text status asked within h = drill n w asked h
commanded words (Record w e) bytes turns text status asked within h = keep w e.limit e.numbers asked within h
commanded words ToReplay bytes turns text status asked within h = replay asked within h
commanded words Expand bytes turns text status asked within h = expand asked within h

pub command_answers : (words : List (List ℕ)) (before after : Option (List ℕ)) (c : Command) (bytes read text : List ℕ) (status : Status)
    (old new : Option (List SeenRun)) → Asks words c → works_on_text c ≡ true → WholeText before after bytes → read ≡ bytes →
    BySomeTurns (λ turns. Carried c read turns text status old new) → Answers words before after text status old new
command_answers words before after c bytes read text status old new asked on whole all h =
    let carried : Carried c bytes h.0 text status old new =
    (let P : List ℕ → Type 0 = λ z. Carried c z h.0 text status old new in subst P all h.1) in
    record {
      comes = record {
        bytes = bytes;
        told = whole.whole;
        turns = h.0;
        outcome = commanded words c bytes h.0 text status asked whole.within carried.is;
        saw = command_words words c bytes h.0 status old new asked carried.saw;
      };
      read = λ needed b e.
          let same : bytes ≡ b = whole.whole b e in
          let within : length b ≤ 1048577 = subst (λ z. length z ≤ 1048577) same (omega (arith, whole.within)) in
          whole.none_left b e ∙ ap (λ z. Some z) (sym (drop_all 1048577 b within));
      unread = λ never. absurd (never (asks_text words c asked on));
    }

drilled_answers : (words : List (List ℕ)) (left : Option (List ℕ)) (c : Command) (text : List ℕ) (status : Status) (old new : Option (List SeenRun)) →
    Asks words c → works_on_text c ≡ false → BySomeTurns (λ turns. Carried c [] turns text status old new) → Answers words left left text status old new
drilled_answers words left (Run w e) text status old new asked off h = absurd (cc)
drilled_answers words left (Serial e) text status old new asked off h = absurd (cc)
drilled_answers words left Check text status old new asked off h = absurd (cc)
drilled_answers words left Show text status old new asked off h = absurd (cc)
drilled_answers words left (Record w e) text status old new asked off h = absurd (cc)
drilled_answers words left ToReplay text status old new asked off h = absurd (cc)
drilled_answers words left Expand text status old new asked off h = absurd (cc)
drilled_answers words left (Drill n w) text status old new asked off h = record {
  comes = record {
    bytes = bytes_of left;
    told = told_bytes left;
    turns = h.0;
    outcome = drill n w asked h.1.is;
    saw = of_drill n w asked h.1.saw;
  };
  read = λ needed b e. absurd (drill_only words n w asked needed);
  unread = λ never. refl;
}

-- what a command comes to that works on no text, and what stops the call where there is no memory
pub textless : (words : List (List ℕ)) (left : Option (List ℕ)) (before after : ℕ) (c : Command) (r : Result AnswerOf Status)
    (old new : Option (List SeenRun)) → Asks words c → works_on_text c ≡ false →
    IfOk r (λ a. BySomeTurns (λ turns. Carried c [] turns a.text.items a.status old new)) → IfErr r (λ s. s ≡ Memory) →
    MatchResult r (λ a. Answers words left left a.text.items a.status old new) (λ s. Stops s before after)
textless words left before after c (Ok a) old new asked off h m = drilled_answers words left c a.text.items a.status old new asked off h
textless words left before after c (Err s) old new asked off h m = subst (λ z. Stops z before after) (sym m) tt

-- the statuses with which an outcome is written
unfoldable pub Written : Status → Type 0
Written Good = Unit {0}
Written Fault = Unit {0}
Written Refused = Unit {0}
Written Words = Unit {0}
Written Numbers = Unit {0}
Written Reading = ⊥
Written Writing = ⊥
Written Memory = ⊥
Written Replay = Unit {0}

answer_written : (a : Answer) → Written (answer_status a)
unfolding Written
answer_written (Faulted p b) = tt
answer_written (Cells store) = tt

answered_written : (bytes : List ℕ) (numbers : List ℤ) (limit : ℕ) (turns : TurnLists) (text : List ℕ) (status : Status)
    → IsAnswered bytes numbers limit turns text status → Written status
unfolding Written
answered_written bytes numbers limit turns text status (answered tree home is_good n shows) = subst Written (sym shows.ended) (answer_written _)
answered_written bytes numbers limit turns text status (miscounted tree home is_good n t s) = subst Written (sym s) tt
answered_written bytes numbers limit turns text status (refused place why for t s) = subst Written (sym s) tt

tested_written : (bytes text : List ℕ) (status : Status) → IsTested bytes text status → Written status
unfolding Written
tested_written bytes text status (good tree home is_good t s) = subst Written (sym s) tt
tested_written bytes text status (not_good place why for t s) = subst Written (sym s) tt

shown_written : (bytes text : List ℕ) (status : Status) → IsShown bytes text status → Written status
unfolding Written
shown_written bytes text status (shown tree home reads t s) = subst Written (sym s) tt
shown_written bytes text status (not_shown place why as_one t s) = subst Written (sym s) tt

drilled_written : (tasks : ℕ) (text : List ℕ) (status : Status) → IsDrilled tasks text status → Written status
unfolding Written
drilled_written tasks text status (summed tree home g n store e t s) = subst Written (sym s) tt
drilled_written tasks text status (not_summed h bad) = answered_written _ _ _ _ _ _ h

kept_written : (bytes : List ℕ) (numbers : List ℤ) (limit : ℕ) (turns : TurnLists) (text : List ℕ) (status : Status)
    → IsKept bytes numbers limit turns text status → Written status
unfolding Written
kept_written bytes numbers limit turns text status (kept tree home g n r h within t s) = subst Written (sym s) tt
kept_written bytes numbers limit turns text status (overlong tree home g n r h over t s) = subst Written (sym s) tt
kept_written bytes numbers limit turns text status (not_run h x y) = answered_written _ _ _ _ _ _ h

replayed_written : (bytes text : List ℕ) (status : Status) → IsReplayed bytes text status → Written status
unfolding Written
replayed_written bytes text status (formless line b t s) = subst Written (sym s) tt
replayed_written bytes text status (unfit r h place why for t s) = subst Written (sym s) tt
replayed_written bytes text status (uncounted r h tree home g n t s) = subst Written (sym s) tt
replayed_written bytes text status (turnless r tree home p none t s) = subst Written (sym s) tt
replayed_written bytes text status (differs r tree home p lists h not_told t s) = subst Written (sym s) tt
replayed_written bytes text status (same r tree home lists h t s) = subst Written (sym s) tt

expanded_written : (bytes text : List ℕ) (status : Status) → IsExpanded bytes text status → Written status
unfolding Written
expanded_written bytes text status (expanded home h s) = subst Written (sym s) tt
expanded_written bytes text status (not_expanded place why h t s) = subst Written (sym s) tt

pub outcome_written : (words : List (List ℕ)) (bytes : List ℕ) (turns : TurnLists) (text : List ℕ) (status : Status) → IsOutcome words bytes turns text status → Written status
unfolding Written
outcome_written words bytes turns text status (usage never t s) = subst Written (sym s) tt
outcome_written words bytes turns text status (too_long named more t s) = subst Written (sym s) tt
outcome_written words bytes turns text status (run w l ns named within h) = answered_written _ _ _ _ _ _ h
outcome_written words bytes turns text status (serial l ns named within h) = answered_written _ _ _ _ _ _ h
outcome_written words bytes turns text status (check named within h) = tested_written _ _ _ h
outcome_written words bytes turns text status (show named within h) = shown_written _ _ _ h
outcome_written words bytes turns text status (drill n w named h) = drilled_written _ _ _ h
outcome_written words bytes turns text status (keep w l ns named within h) = kept_written _ _ _ _ _ _ h
outcome_written words bytes turns text status (replay named within h) = replayed_written _ _ _ h
outcome_written words bytes turns text status (expand named within h) = expanded_written _ _ _ h

written_headline : (words : List (List ℕ)) (status : Status) (before after : Moment) (text : List ℕ) → Written status →
    Answers words before.left after.left text status before.seen after.seen → after.taken ≡ taken_with before.taken text → Headline words status before after
unfolding Written
written_headline words Good before after text h a w = record { text = text; answers = a; written = w }
written_headline words Fault before after text h a w = record { text = text; answers = a; written = w }
written_headline words Refused before after text h a w = record { text = text; answers = a; written = w }
written_headline words Words before after text h a w = record { text = text; answers = a; written = w }
written_headline words Numbers before after text h a w = record { text = text; answers = a; written = w }
written_headline words Reading before after text h a w = absurd h
written_headline words Writing before after text h a w = absurd h
written_headline words Memory before after text h a w = absurd h
written_headline words Replay before after text h a w = record { text = text; answers = a; written = w }

-- an outcome that was written whole
pub wrote_headline : (words : List (List ℕ)) (status : Status) (before after : Moment) (text : List ℕ) →
    Answers words before.left after.left text status before.seen after.seen → after.taken ≡ taken_with before.taken text → Headline words status before after
wrote_headline words status before after text a w =
    written_headline words status before after text (outcome_written _ _ _ _ _ a.comes.outcome) a w

-- a call that was stopped before there was an outcome
pub stopped_headline : (words : List (List ℕ)) (status : Status) (before after : Moment) → after.taken ≡ before.taken →
    Stops status before.source_faults after.source_faults → (status ≡ Reading → after.seen ≡ before.seen) → Headline words status before after
stopped_headline words Good before after w s e = absurd s
stopped_headline words Fault before after w s e = absurd s
stopped_headline words Refused before after w s e = absurd s
stopped_headline words Words before after w s e = absurd s
stopped_headline words Numbers before after w s e = absurd s
stopped_headline words Reading before after w s e = record { rose = s; written = w; unseen = e refl }
stopped_headline words Writing before after w s e = absurd s
stopped_headline words Memory before after w s e = w
stopped_headline words Replay before after w s e = absurd s

no_reading : (status : Status) → Written status → status ≡ Reading → ⊥
unfolding Written
no_reading status w e = subst Written e w

-- an answer never says that the source failed
pub not_reading : (words : List (List ℕ)) (before after : Option (List ℕ)) (text : List ℕ) (status : Status) (old new : Option (List SeenRun)) →
    Answers words before after text status old new → status ≡ Reading → ⊥
not_reading words before after text status old new a e = no_reading status (outcome_written _ _ _ _ _ a.comes.outcome) e

-- what a text that was not read comes to
pub refused_shown : (bytes : List ℕ) (e : ReadError) (r : Result AnswerOf NoMemory) → IfOk r (λ a. IsNotRead e a.text.items a.status) →
    OnRefused e (NotRead bytes) → IfOk r (λ a. IsShown bytes a.text.items a.status)
refused_shown bytes (RefusedAt place why) (Ok a) n h = not_shown place why.now h n.0 n.1
refused_shown bytes Unread (Ok a) n h = absurd n
refused_shown bytes e (Err m) n h = tt

pub refused_tested : (bytes : List ℕ) (e : ReadError) (r : Result AnswerOf NoMemory) → IfOk r (λ a. IsNotRead e a.text.items a.status) →
    OnRefused e (RefusedFor bytes) → IfOk r (λ a. IsTested bytes a.text.items a.status)
refused_tested bytes (RefusedAt place why) (Ok a) n h = not_good place why.now h n.0 n.1
refused_tested bytes Unread (Ok a) n h = absurd n
refused_tested bytes e (Err m) n h = tt

pub unread_for : (bytes : List ℕ) (e : ReadError) → OnRefused e (NotRead bytes) → OnRefused e (RefusedFor bytes)
unread_for bytes (RefusedAt place why) h = no_program h
unread_for bytes Unread h = tt

pub refused_expanded : (bytes : List ℕ) (e : ReadError) (r : Result AnswerOf NoMemory) → IfOk r (λ a. IsNotRead e a.text.items a.status) →
    OnRefused e (NotExpanded bytes) → IfOk r (λ a. IsExpanded bytes a.text.items a.status)
refused_expanded bytes (RefusedAt place why) (Ok a) n h = not_expanded place why.now h n.0 n.1
refused_expanded bytes Unread (Ok a) n h = absurd n
refused_expanded bytes e (Err m) n h = tt

pub good_tested : (bytes : List ℕ) (tree : Program) (home : Pos → Pos) (text : List ℕ) → IsGood bytes tree home → text ≡ ok_text → IsTested bytes text Good
good_tested bytes tree home text g t = good tree home g t refl

pub answered_in : (bytes : List ℕ) (numbers : List ℤ) (limit : ℕ) (turns : TurnLists) (tree : Program) (home : Pos → Pos)
    (r : Result AnswerOf NoMemory) → IsGood bytes tree home →
    length numbers ≡ input_count tree → IfOk r (λ a. Shows (program tree) (moved_answer home (answer (program tree) numbers limit turns)) a.text.items a.status) →
    IfOk r (λ a. IsAnswered bytes numbers limit turns a.text.items a.status)
answered_in bytes numbers limit turns tree home (Ok a) g n h = answered tree home g n h
answered_in bytes numbers limit turns tree home (Err m) g n h = tt

-- what words are answered with that are no command's, and what stops the call where there is no memory
pub no_command : (words : List (List ℕ)) (left : Option (List ℕ)) (before after : ℕ) (e : WordsError) (r : Result AnswerOf Status)
    (seen : Option (List SeenRun)) → IsUsage words e → IfOk r (λ a. (e ≡ Usage) × (a.text.items ≡ usage_text) × (a.status ≡ Words)) →
    IfErr r (λ s. s ≡ Memory) → MatchResult r (λ a. Answers words left left a.text.items a.status seen seen) (λ s. Stops s before after)
no_command words left before after e (Ok a) seen h k m = usage_answers words left a.text.items a.status seen (subst (IsUsage words) k.0 h) k.1 k.2
no_command words left before after e (Err s) seen h k m = subst (λ z. Stops z before after) (sym m) tt

-- the answer of a refusal
pub not_read_is : (place : Pos) (why : Bor (List ℕ)) (r : Result AnswerOf NoMemory) → IfOk r (λ a. a.text.items ≡ refused_text place why.now) →
    IfOk r (λ a. a.status ≡ Refused) → IfOk r (λ a. IsNotRead (RefusedAt place why) a.text.items a.status)
not_read_is place why (Ok a) t s = (t, s)
not_read_is place why (Err m) t s = tt
