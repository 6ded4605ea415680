use Rattle.std.proofs.Common.{◌≡◌, ◌+◌, ◌++◌, List, ℕ, take, drop, length, sym, ap, ◌∙◌, subst, arith}
use Rattle.std.specs.Prelude.{Option, None, slice_index_or}
use Rattle.std.proofs.lemmas.List.{append-nil, drop_all, take_all}
use Rattle.proc_expand.specs.declared.procedures.Procedure.{Procedure}
use Rattle.proc_expand.specs.Words.{signs}
use Rattle.proc_expand.specs.Refusals.{procedure}
use Rattle.proc_expand.specs.Written.{replaced_at}
use Rattle.proc_expand.specs.steps.Marks.{AreMarked, AreMarks}
use Rattle.proc_expand.proofs.Marking.{marks_pass, marks_more}
use Rattle.proc_expand.proofs.marks.number_if.Goals as goal

pub returns-then-not-begins_at : goal.returns-then-not-begins_at
returns-then-not-begins_at c =
    let ts = c.args.tokens.now.lexemes in let end = c.args.tokens.now.end in
    let P : List ℕ → Type 0 = λ counts. AreMarks ts end (c.args.place + 1) c.args.marks.now.numbers.items counts in
    subst P (sym c.in_ok-push.ensures.items)
    (marks_pass ts end c.args.place 0 c.args.marks.now.numbers.items c.args.marks.now.counts.items c.requires.marks
    (sym c.begins_at.ensures ∙ c.if-not-begins_at.true))

whole_taken : (xs ys : List (Option ℕ)) (n : ℕ) → length xs ≡ length ys → n ≡ length ys → xs ≡ take n (xs ++ drop (length xs) ys)
whole_taken xs ys n h e =
    sym (ap (λ u. take n (xs ++ u)) (drop_all (length xs) ys (omega (arith, h))) ∙ ap (take n) (append-nil xs) ∙ take_all n xs (omega (arith, h, e)))

pub returns : goal.returns
returns c =
    let ts = c.args.tokens.now.lexemes in let end = c.args.tokens.now.end in
    let later = c.number_names.new.numbers in
    let q = ap (λ (q : Procedure). q.place) c.procedure_at-procedure.ensures in
    let P : List ℕ → Type 0 = λ counts. AreMarks ts end (c.args.place + 1) later counts in
    let long = c.number_names.ensures.as_many ∙ ap length c.deref_mut.ensures.value in let o = c.args.marks.now.numbers.ok.0 in
    subst (λ (u : List (Option ℕ)). AreMarks ts end (c.args.place + 1) u c.push-2.new.self.items)
    (whole_taken later c.args.marks.now.numbers.items c.args.marks.now.numbers.len long (omega (arith, o)))
    (subst P (sym c.in_ok-push-2.ensures.items)
    (marks_more ts end c.args.place c.in_ok-count.count c.args.marks.now.numbers.items c.args.marks.now.counts.items c.requires.marks
    c.requires.accepted c.requires.within (sym c.begins_at.ensures ∙ c.if-not-begins_at.false) later
    (subst (λ i. AreMarked ts end i later) q c.in_ok-count.ensures.marked) (λ k l. c.in_ok-count.ensures.before k (omega (arith, q, l)) ∙ ap (λ (u : List (Option ℕ)). slice_index_or u k None) c.deref_mut.ensures.value)
    (c.number_names.ensures.as_many ∙ ap length c.deref_mut.ensures.value) (c.in_ok-count.ensures.count ∙ ap (λ i. length (replaced_at ts end (procedure (signs ts) i))) q)))
