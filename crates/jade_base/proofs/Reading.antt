-- A buffer that was filled up to a place, and one more read.
use Rattle.std.specs.Prelude.{◌≡◌, ℕ, ◌+◌, ◌≤◌, List, [], ◌++◌, length, take, drop, Option, Some, None}
use Rattle.std.proofs.Common.{refl, ap, sym, ◌∙◌, arith, length-drop, length-take, length-append}
use Rattle.std.proofs.Math.Seq.{take-add}
use Rattle.std.proofs.lemmas.List.{drop-drop, take_all, drop_all, take_at, drop_at, take-append-le, length-take-le, take-take}
use Rattle.jade_base.specs.Bytes.{left_after, Gives, Filled, WholeText}

pub left_after-zero : (o : Option (List ℕ)) → left_after 0 o ≡ o
left_after-zero None = refl
left_after-zero (Some b) = refl

pub left_after-add : (o : Option (List ℕ)) (n m : ℕ) → left_after m (left_after n o) ≡ left_after (n + m) o
left_after-add None n m = refl
left_after-add (Some b) n m = ap Some (drop-drop m n b)

pub left_after-told : (o : Option (List ℕ)) (b : List ℕ) (n : ℕ) → o ≡ Some b → left_after n o ≡ Some (drop n b)
left_after-told o b n e = ap (left_after n) e

-- the head of a list in which the part from n on was written anew
pub take-rewritten : (n m : ℕ) (xs ys zs : List ℕ) → n ≤ length xs → m ≤ length ys → take (n + m) (take n xs ++ (ys ++ zs)) ≡ take n xs ++ take m ys
take-rewritten n m xs ys zs h l =
    let t : take n (take n xs ++ (ys ++ zs)) ≡ take n xs = take_at (take n xs) (ys ++ zs) n (length-take-le n xs h) in
    let d : drop n (take n xs ++ (ys ++ zs)) ≡ ys ++ zs = drop_at (take n xs) (ys ++ zs) n (length-take-le n xs h) in
    take-add n m (take n xs ++ (ys ++ zs))
    ∙ ap (λ (k : List ℕ). k ++ take m (drop n (take n xs ++ (ys ++ zs)))) t
    ∙ ap (λ (k : List ℕ). take n xs ++ take m k) d
    ∙ ap (λ (k : List ℕ). take n xs ++ k) (take-append-le m ys zs l)

-- what one read gave, of what was left after the earlier ones
pub Filled-more : {before after : Option (List ℕ)} {n : ℕ} {buffer : List ℕ}
    (ys zs : List ℕ) (after' : Option (List ℕ)) (m : ℕ) →
    Filled before after n buffer →
    m ≤ length ys →
    ((b : List ℕ) → after ≡ Some b → Gives b ys m) →
    after' ≡ left_after m after →
    Filled before after' (n + m) (take n buffer ++ (ys ++ zs))
Filled-more {before} {after} {n} {buffer} ys zs after' m w h gives e = record {
  within = omega (arith, w.within, h, length-append (take n buffer) (ys ++ zs), length-append ys zs, length-take-le n buffer w.within);
  drops = e ∙ ap (left_after m) w.drops ∙ left_after-add before n m;
  known = λ b t.
      let g = gives (drop n b) (w.drops ∙ left_after-told before b n t) in
      omega (arith, w.known b t, g.within, length-drop n b);
  reads = λ b t.
      let g = gives (drop n b) (w.drops ∙ left_after-told before b n t) in
      take-rewritten n m buffer ys zs w.within h
      ∙ ap (λ (k : List ℕ). k ++ take m ys) (w.reads b t)
      ∙ ap (λ (k : List ℕ). take n b ++ k) g.given
      ∙ sym (take-add n m b);
}

-- the end: nothing more was left
pub length-left : {before after : Option (List ℕ)} {n : ℕ} {buffer : List ℕ} (ys : List ℕ) (m : ℕ) →
    Filled before after n buffer → ((b : List ℕ) → after ≡ Some b → Gives b ys m) → m ≡ 0 →
    (b : List ℕ) → before ≡ Some b → n ≡ length b
length-left {before} {after} {n} ys m w gives z b t =
    let e : drop n b ≡ [] = (gives (drop n b) (w.drops ∙ left_after-told before b n t)).at_end.0 z in
    omega (arith, w.known b t, length-drop n b, ap length e)

pub WholeText-filled : {before after : Option (List ℕ)} {n : ℕ} {buffer : List ℕ} (text : List ℕ) →
    Filled before after n buffer → n ≤ 1048576 →
    ((b : List ℕ) → before ≡ Some b → n ≡ length b) →
    text ≡ take n buffer →
    WholeText before after text
WholeText-filled {before} {after} {n} {buffer} text w short ends e = record {
  within = omega (arith, ap length e, length-take n buffer, short);
  whole = λ b t. let l : length b ≤ n = omega (arith, ends b t) in e ∙ w.reads b t ∙ take_all n b l;
  none_left = λ b t.
      let l : length b ≤ n = omega (arith, ends b t) in
      w.drops ∙ left_after-told before b n t ∙ ap Some (drop_all n b l);
}

-- the head of a buffer, seen after the buffer was handed back
pub take-handed_back : (n size : ℕ) (ys zs : List ℕ) → n ≤ length ys → n ≤ size → take n (take size (ys ++ zs)) ≡ take n ys
take-handed_back n size ys zs h l = take-take n size (ys ++ zs) l ∙ take-append-le n ys zs h
