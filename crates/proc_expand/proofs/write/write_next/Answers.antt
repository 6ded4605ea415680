use Rattle.std.proofs.Common.{◌≡◌, ℕ, ◌+◌, false, List, [], ◌∷◌, ◌++◌, refl, sym, ap, ◌∙◌, arith}
use Rattle.std.specs.Prelude.{reverse}
use Rattle.std.proofs.lemmas.List.{append-nil}
use Rattle.jade_base.specs.declared.place.Pos.{Pos}
use Rattle.jade_lexer.specs.Lexemes.{TokenAt}
use Rattle.proc_expand.specs.declared.frame.Frame.{Frame}
use Rattle.proc_expand.specs.declared.pen.Pen.{Pen}
use Rattle.proc_expand.specs.declared.source.Source.{Source}
use Rattle.proc_expand.specs.Words.{signs}
use Rattle.proc_expand.specs.Refusals.{is_call}
use Rattle.proc_expand.specs.Written.{text_names, token_at}
use Rattle.proc_expand.specs.steps.Frames.{names_in, end_of, left}
use Rattle.proc_expand.specs.steps.Pens.{Wrote}
use Rattle.proc_expand.specs.steps.Sources.{IsSource, IsNext, IsWriting, GoesOn}
use Rattle.proc_expand.proofs.PenFacts.{count_grows, passed_on}
use Rattle.proc_expand.proofs.Writing.{done, one_token, goes_on, whole_long, frame_on, one_frame, no_frame, last_frame, reverse_more, runs_on, run_too_long, all_but_last}
use Rattle.proc_expand.proofs.write.write_next.Goals as goal

pub end_body-requires : goal.end_body-requires
end_body-requires c =
    c.requires.writing.pen

pub returns-in_err-end_body-clause-grown : goal.returns-in_err-end_body-clause-grown
returns-in_err-end_body-clause-grown c =
    let ts = c.args.tokens.now.lexemes in let end = c.args.tokens.now.end in let s = c.args.source.now in let is = c.requires.source in
    let p = c.args.pen.now in let fs = c.args.frames.now.items in let f = c.args.frame in let n = c.args.given in let w = c.requires.writing in
    let i = last_frame ts end s is fs f w.frames in
    let l = c.if-frame.true in
    λ x. whole_long ts end s is p fs f (end_of ts end f.call) (left ts end s.outer.items (reverse fs) n) n (done ts end s is f fs n i (omega (arith, l)))
    (c.end_body.ensures.grown (passed_on _ _ _ c.from_residual.ensures.1 c.in_err-end_body.was x))

pub returns-then-frame-clause-goes : goal.returns-then-frame-clause-goes
returns-then-frame-clause-goes c =
    let ts = c.args.tokens.now.lexemes in let end = c.args.tokens.now.end in let s = c.args.source.now in let is = c.requires.source in
    let p = c.args.pen.now in let fs = c.args.frames.now.items in let f = c.args.frame in let n = c.args.given in let w = c.requires.writing in
    let i = last_frame ts end s is fs f w.frames in
    let l = c.if-frame.true in let a = w.few in
    let g = count_grows (text_names ts end) (end_of ts end f.call) p c.end_body.new.pen c.in_ok-end_body.ensures.wrote in
    goes_on ts end s is p c.end_body.new.pen fs fs f [] (end_of ts end f.call) n n w c.in_ok-end_body.ensures.wrote
    (done ts end s is f fs n i (omega (arith, l))) (sym (append-nil fs)) (no_frame ts end s is) (omega (arith, a, g)) (omega arith)

pub place_in-place-requires-clause-frame : goal.place_in-place-requires-clause-frame
place_in-place-requires-clause-frame c =
    last_frame c.args.tokens.now.lexemes c.args.tokens.now.end c.args.source.now c.requires.source c.args.frames.now.items c.args.frame c.requires.writing.frames

pub put_token-requires-clause-pen : goal.put_token-requires-clause-pen
put_token-requires-clause-pen c =
    c.requires.writing.pen

pub put_token-requires-clause-stands : goal.put_token-requires-clause-stands
put_token-requires-clause-stands c =
    c.place_in-place.ensures.stands

pub returns-in_err-put_token-clause-grown : goal.returns-in_err-put_token-clause-grown
returns-in_err-put_token-clause-grown c =
    let ts = c.args.tokens.now.lexemes in let end = c.args.tokens.now.end in let s = c.args.source.now in let is = c.requires.source in
    let p = c.args.pen.now in let fs = c.args.frames.now.items in let f = c.args.frame in let n = c.args.given in let w = c.requires.writing in
    let i = last_frame ts end s is fs f w.frames in
    let k = c.place_in-place.result in
    let t : is_call (signs ts) k ≡ false = ap (λ u. is_call u k) (sym (c.deref.ensures.value ∙ is.scan.read)) ∙ sym c.is_call.ensures ∙ c.if-is_call.false in
    let g : Frame = record { next = f.next + 1; stop = f.stop; call = f.call } in
    λ x. whole_long ts end s is p fs f (token_at ts end (names_in ts end f.call) k ∷ []) (left ts end s.outer.items (g ∷ reverse fs) n) n
    (one_token ts end s is f g (reverse fs) k n c.place_in-place.ensures t refl refl refl)
    (c.put_token.ensures.grown (passed_on _ _ _ c.from_residual-in_err-put_token.ensures.1 c.in_err-put_token.was x))

pub put_run-requires-clause-pen : goal.put_run-requires-clause-pen
put_run-requires-clause-pen c = let w = c.in_ok-put_token.ensures.wrote in w.pen

pub put_run-requires-clause-frame : goal.put_run-requires-clause-frame
put_run-requires-clause-frame c =
    let ts = c.args.tokens.now.lexemes in let end = c.args.tokens.now.end in let s = c.args.source.now in let is = c.requires.source in
    let f = c.args.frame in
    frame_on ts end s is f (record { next = f.next + 1; stop = f.stop; call = f.call }) (last_frame ts end s is c.args.frames.now.items f c.requires.writing.frames)
    refl refl (omega arith)

-- after the first token
first_of : (ts : List TokenAt) (end : Pos) (s : Source) (is : IsSource ts end s) (p q : Pen) (fs : List Frame) (f : Frame) (k n : ℕ)
    → IsWriting ts end s.outer.items p (fs ++ f ∷ []) n → IsNext ts end s.outer.items f k → is_call (signs ts) k ≡ false
    → Wrote (text_names ts end) (token_at ts end (names_in ts end f.call) k ∷ []) p q
    → GoesOn ts end s.outer.items p (fs ++ f ∷ []) n q (fs ++ (record { next = f.next + 1; stop = f.stop; call = f.call }) ∷ []) n
first_of ts end s is p q fs f k n w h t o =
    let g : Frame = record { next = f.next + 1; stop = f.stop; call = f.call } in
    let i = last_frame ts end s is fs f w.frames in let a = w.few in
    let z = count_grows (text_names ts end) (token_at ts end (names_in ts end f.call) k ∷ []) p q o in
    goes_on ts end s is p q fs (fs ++ g ∷ []) f (g ∷ []) (token_at ts end (names_in ts end f.call) k ∷ []) n n w o
    (one_token ts end s is f g (reverse fs) k n h t refl refl refl
    ∙ ap (λ r. (token_at ts end (names_in ts end f.call) k ∷ []) ++ left ts end s.outer.items r n) (sym (reverse_more fs g)))
    refl (one_frame ts end s is g (frame_on ts end s is f g i refl refl (omega arith))) (omega (arith, a, z)) (omega arith)

pub returns-in_err-put_run-clause-grown : goal.returns-in_err-put_run-clause-grown
returns-in_err-put_run-clause-grown c =
    let ts = c.args.tokens.now.lexemes in let end = c.args.tokens.now.end in let s = c.args.source.now in let is = c.requires.source in
    let p = c.args.pen.now in let fs = c.args.frames.now.items in let f = c.args.frame in let n = c.args.given in let w = c.requires.writing in
    let k = c.place_in-place.result in
    let t : is_call (signs ts) k ≡ false = ap (λ u. is_call u k) (sym (c.deref.ensures.value ∙ is.scan.read)) ∙ sym c.is_call.ensures ∙ c.if-is_call.false in
    let g : Frame = record { next = f.next + 1; stop = f.stop; call = f.call } in
    λ x. run_too_long ts end s is p c.put_token.new.pen (fs ++ f ∷ []) fs g n n
    (first_of ts end s is p c.put_token.new.pen fs f k n w c.place_in-place.ensures t c.in_ok-put_token.ensures.wrote)
    (c.put_run.ensures.grown (passed_on _ _ _ c.from_residual-in_err-put_run.ensures.1 c.in_err-put_run.was x) fs n)

pub returns-clause-goes : goal.returns-clause-goes
returns-clause-goes c =
    let ts = c.args.tokens.now.lexemes in let end = c.args.tokens.now.end in let s = c.args.source.now in let is = c.requires.source in
    let p = c.args.pen.now in let fs = c.args.frames.now.items in let f = c.args.frame in let n = c.args.given in let w = c.requires.writing in
    let k = c.place_in-place.result in
    let t : is_call (signs ts) k ≡ false = ap (λ u. is_call u k) (sym (c.deref.ensures.value ∙ is.scan.read)) ∙ sym c.is_call.ensures ∙ c.if-is_call.false in
    let g : Frame = record { next = f.next + 1; stop = f.stop; call = f.call } in
    runs_on ts end s is p c.put_token.new.pen c.put_run.new.pen (fs ++ f ∷ []) fs c.push.new.self.items g c.in_ok-put_run.field-0 n n
    (first_of ts end s is p c.put_token.new.pen fs f k n w c.place_in-place.ensures t c.in_ok-put_token.ensures.wrote)
    c.in_ok-put_run.ensures.runs c.in_ok-push.ensures.items (all_but_last ts end s is fs f w.frames)
