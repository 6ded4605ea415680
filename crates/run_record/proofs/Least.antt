-- The lines before the first that breaks the form begin a recording.
use Rattle.std.proofs.Common.{◌≡◌, ◌≢◌, ℕ, zero, suc, ◌+◌, ◌<◌, ◌≤◌, List, [], ◌∷◌, ◌++◌, length, take, map, ℤ, refl, ap, sym, ◌∙◌, subst, arith, append_assoc, All, inl, inr}
use Rattle.std.proofs.lemmas.List.Elements.{All-nil, All-cons}
use Rattle.run_record.specs.declared.turns.LabelledTurn.{LabelledTurn}
use Rattle.run_record.specs.Pieces.{Lacks}
use Rattle.run_record.specs.Recording.{Recorded, IsRecorded, IsTurn, head_line, limit_line, numbers_line, turns_line, answer_line, text_line, lines, ended}
use Rattle.run_record.specs.Form.{Stage, at_head, at_limit, at_numbers, at_turns, at_answer, at_text, Takes, BreaksAt, here, later}
use Rattle.run_record.specs.Laws.{BeginsSome, IsLeast}
use Rattle.run_record.proofs.PathLemmas.{IsNumber}
use Rattle.run_record.proofs.Same.{Runs, breaks_after, head_lacks, text_lacks, limit_lacks, numbers_lack, count_lacks}

-- lines that go from a stage to the text
record Way (s : Stage) : Type 0 where
  first : List ℕ
  more : List (List ℕ)
  runs : Runs s (first ∷ more)

answer_way : (k : ℕ) → Way (at_answer k)
answer_way zero = record { first = text_line; more = []; runs = (at_text, (refl, refl), text_lacks, refl) }
answer_way (suc k) = let w = answer_way k in record { first = []; more = w.first ∷ w.more; runs = (at_answer k, refl, All-nil (λ b. b ≢ 10), w.runs) }

turns_way : Way at_turns
turns_way =
    let w = answer_way 0 in
    record {
      first = answer_line 0;
      more = w.first ∷ w.more;
      runs = (at_answer 0, inr (0, record { few = omega arith; spelled = refl }, refl), count_lacks 0 (omega arith), w.runs);
    }

numbers_way : Way at_numbers
numbers_way =
    let w = turns_way in
    record {
      first = numbers_line [];
      more = w.first ∷ w.more;
      runs = (at_turns, (([], record { fit = refl; few = omega arith; spelled = refl }), refl), numbers_lack [] (All-nil IsNumber), w.runs);
    }

limit_way : Way at_limit
limit_way =
    let w = numbers_way in
    record {
      first = limit_line 1;
      more = w.first ∷ w.more;
      runs = (at_numbers, ((1, record { some = omega arith; within = omega arith; spelled = refl }), refl), limit_lacks 1 (omega arith), w.runs);
    }

head_way : Way at_head
head_way = let w = limit_way in record { first = head_line; more = w.first ∷ w.more; runs = (at_limit, (refl, refl), head_lacks 0, w.runs) }

way : (s : Stage) → s ≢ at_text → Way s
way at_head o = head_way
way at_limit o = limit_way
way at_numbers o = numbers_way
way at_turns o = turns_way
way (at_answer k) o = answer_way k
way at_text o = absurd (o refl)

-- lines that go on to the text, of which the first m begin bytes, and there are more
record Along (s : Stage) (bytes : List ℕ) (m : ℕ) : Type 0 where
  all : List (List ℕ)
  runs : Runs s all
  after : List ℕ
  begins : bytes ≡ ended (take m all) ++ after
  more : m < length all

along : (n : ℕ) (s : Stage) (number : ℕ) (bytes : List ℕ) (m : ℕ) → n ≡ number + m → BreaksAt n s number bytes → Along s bytes m
along n s number bytes zero e (here i o none) =
    let w = way s o in record { all = w.first ∷ w.more; runs = w.runs; after = bytes; begins = refl; more = omega arith }
along n s number bytes (suc m) e (here i o none) = absurd (omega arith)
along n s number bytes zero e (later line after next f t b) = let le = breaks_after n next (suc number) after b in absurd (omega arith)
along n s number bytes (suc m) e (later line after next f t b) =
    let a = along n next (suc number) after m (omega arith) b in
    let lt = a.more in
    record {
      all = line ∷ a.all;
      runs = (next, t, f.one, a.runs);
      after = a.after;
      begins = f.whole ∙ ap (λ l. line ++ 10 ∷ l) a.begins ∙ sym (append_assoc line (10 ∷ ended (take m a.all)) a.after);
      more = omega (arith, lt);
    }

tails : {a b : List ℕ} {xs ys : List (List ℕ)} → a ∷ xs ≡ b ∷ ys → xs ≡ ys
tails e = cc

none_after : (xs : List (List ℕ)) → Runs at_text xs → xs ≡ []
none_after [] r = refl
none_after (x ∷ xs) r = absurd r.1

-- lines of an answer, and the last before the text
record AnswerOf (k : ℕ) (xs : List (List ℕ)) : Type 0 where
  answer : List (List ℕ)
  counted : length answer ≡ k
  lacks : All (Lacks 10) answer
  whole : xs ≡ answer ++ text_line ∷ []

answer_of : (k : ℕ) (xs : List (List ℕ)) → Runs (at_answer k) xs → AnswerOf k xs
answer_of k [] r = absurd (cc)
answer_of zero (x ∷ xs) r =
    let F : Stage → Type 0 = λ t. Runs t xs in
    let none : xs ≡ [] = none_after xs (subst F r.1.1 r.3) in
    record { answer = []; counted = refl; lacks = All-nil (Lacks 10); whole = ap (λ l. l ∷ xs) r.1.0 ∙ ap (λ l. text_line ∷ l) none }
answer_of (suc k) (x ∷ xs) r =
    let F : Stage → Type 0 = λ t. Runs t xs in
    let a = answer_of k xs (subst F r.1 r.3) in
    record { answer = x ∷ a.answer; counted = ap suc a.counted; lacks = All-cons (Lacks 10) x a.answer r.2 a.lacks; whole = ap (λ l. x ∷ l) a.whole }

-- lines of turns, and those of an answer
record TurnsOf (xs : List (List ℕ)) : Type 0 where
  turns : List LabelledTurn
  answer : List (List ℕ)
  fit : All IsTurn turns
  few : length answer ≤ 4096
  lacks : All (Lacks 10) answer
  whole : xs ≡ map turns_line turns ++ answer_line (length answer) ∷ (answer ++ text_line ∷ [])

one_turn : (x : List ℕ) (xs : List (List ℕ)) (next : Stage) → (Runs at_turns xs → TurnsOf xs) → Takes at_turns x next → Runs next xs → TurnsOf (x ∷ xs)
one_turn x xs next go (inl t) r =
    let F : Stage → Type 0 = λ s. Runs s xs in
    let o = go (subst F t.1 r) in
    let turn = t.0.0 in
    record {
      turns = turn ∷ o.turns;
      answer = o.answer;
      fit = All-cons IsTurn turn o.turns t.0.1.fit o.fit;
      few = o.few;
      lacks = o.lacks;
      whole = ap (λ l. l ∷ xs) t.0.1.spelled ∙ ap (λ l. turns_line turn ∷ l) o.whole;
    }
one_turn x xs next go (inr c) r =
    let F : Stage → Type 0 = λ s. Runs s xs in
    let a = answer_of c.0 xs (subst F c.2 r) in
    let few = c.1.few in
    let counted = a.counted in
    record {
      turns = [];
      answer = a.answer;
      fit = All-nil IsTurn;
      few = omega (arith, few, counted);
      lacks = a.lacks;
      whole = ap (λ l. l ∷ xs) (c.1.spelled ∙ ap answer_line (sym a.counted)) ∙ ap (λ l. answer_line (length a.answer) ∷ l) a.whole;
    }

turns_of : (xs : List (List ℕ)) → Runs at_turns xs → TurnsOf xs
turns_of [] r = absurd (cc)
turns_of (x ∷ xs) r = one_turn x xs r.0 (λ q. turns_of xs q) r.1 r.3

-- lines that go from the first on are a recording's
record LinesOf (xs : List (List ℕ)) : Type 0 where
  whose : Recorded
  fit : IsRecorded whose
  whole : lines whose ≡ xs

numbers_of : (limit : ℕ) (x0 x1 : List ℕ) (xs : List (List ℕ)) → x0 ≡ head_line → 1 ≤ limit → limit ≤ 4294967295 → x1 ≡ limit_line limit → Runs at_numbers xs → LinesOf (x0 ∷ x1 ∷ xs)
numbers_of limit x0 x1 [] e0 some within e1 r = absurd (cc)
numbers_of limit x0 x1 (x ∷ xs) e0 some within e1 r =
    let F : Stage → Type 0 = λ s. Runs s xs in
    let o = turns_of xs (subst F r.1.1 r.3) in
    let ns : List ℤ = r.1.0.0 in
    let given = r.1.0.1 in
    let w : Recorded = record { limit = limit; numbers = ns; turns = o.turns; answer = o.answer; text = [] } in
    let firsts : x0 ∷ x1 ∷ x ∷ xs ≡ head_line ∷ limit_line limit ∷ numbers_line ns ∷ xs =
    ap (λ l. l ∷ x1 ∷ x ∷ xs) e0 ∙ ap (λ l. head_line ∷ l ∷ x ∷ xs) e1 ∙ ap (λ l. head_line ∷ limit_line limit ∷ l ∷ xs) given.spelled in
    record {
      whose = w;
      fit =
          record {
            some_steps = some;
            steps_within = within;
            numbers_fit = given.fit;
            few_numbers = given.few;
            turns_fit = o.fit;
            few_lines = o.few;
            one_line_each = o.lacks;
          };
      whole = sym (firsts ∙ ap (λ l. head_line ∷ limit_line limit ∷ numbers_line ns ∷ l) o.whole);
    }

limit_of : (x0 : List ℕ) (xs : List (List ℕ)) → x0 ≡ head_line → Runs at_limit xs → LinesOf (x0 ∷ xs)
limit_of x0 [] e r = absurd (cc)
limit_of x0 (x ∷ xs) e r =
    let F : Stage → Type 0 = λ s. Runs s xs in
    let l = r.1.0.1 in
    numbers_of r.1.0.0 x0 x xs e l.some l.within l.spelled (subst F r.1.1 r.3)

lines_of : (xs : List (List ℕ)) → Runs at_head xs → LinesOf xs
lines_of [] r = absurd (cc)
lines_of (x ∷ xs) r = let F : Stage → Type 0 = λ s. Runs s xs in limit_of x xs r.1.0 (subst F r.1.1 r.3)

begins_some : (bytes : List ℕ) (n before : ℕ) → n ≡ suc before → BreaksAt n at_head 1 bytes → BeginsSome bytes n
begins_some bytes n before e b =
    let a = along n at_head 1 bytes before (omega arith) b in
    let l = lines_of a.all a.runs in
    let F : List (List ℕ) → Type 0 = λ xs. before < length xs in
    record {
      record_of = l.whose;
      fit = l.fit;
      before = before;
      counted = e;
      more = subst F (sym l.whole) a.more;
      after = a.after;
      begins = a.begins ∙ ap (λ xs. ended (take before xs) ++ a.after) (sym l.whole);
    }

-- no line of number 0 breaks the form
from_one : (n : ℕ) (bytes : List ℕ) → BreaksAt n at_head 1 bytes → (before : ℕ) × (n ≡ suc before)
from_one zero bytes b = let le = breaks_after 0 at_head 1 bytes b in absurd (omega arith)
from_one (suc n) bytes b = (n, refl)

pub is_least : (bytes : List ℕ) (n : ℕ) → IsLeast bytes n
is_least bytes n = record { some = λ b. let f = from_one n bytes b in begins_some bytes n f.0 f.1 b }
