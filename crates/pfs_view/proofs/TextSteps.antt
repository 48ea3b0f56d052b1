-- Texts of lines written out, one by one.
use Rattle.std.proofs.Common.{◌≡◌, refl, ℕ, zero, suc, ◌+◌, ◌-◌, ◌<◌, ◌≤◌, true, false, List, [], ◌∷◌, ◌++◌, Bor, length, get_or, take, drop, sym, ◌∙◌, ap, append_assoc, add-one, Option, Some, None, arith}
use Rattle.std.specs.List.{flat_map}
use Rattle.std.proofs.lemmas.Grind.{flat_map-append}
use Rattle.std.proofs.lemmas.List.{append-nil, drop_all, drop_at, drop_more, length-drop, map-append, take_all, take_at}
use Rattle.std.proofs.lemmas.List.Concat.{flat_map-cons}
use Rattle.pfs_script.specs.declared.blocks.BlockLine.{BlockLine}
use Rattle.pfs_script.specs.declared.blocks.BlockLine.TheVariants as said
use Rattle.pfs_script.specs.Marks.{Repeated, copies, is_done, repeats_of, written_from}
use Rattle.pfs_view.specs.AskedTexts.{AddedTexts, IsRepeated, IsWritten, bytes_of, text_on}
use Rattle.pfs_view.specs.declared.texts.Repeat.{Repeat}

-- an element stands before those behind it
pub parted : {A : Type 0} (xs : List A) (i : ℕ) (x : A) → i < length xs → x ≡ get_or xs i x → drop i xs ≡ x ∷ drop (i + 1) xs
parted {A} xs i x within is = drop_more xs i x within ∙ ap (λ (y : A). y ∷ drop (i + 1) xs) (sym is)

-- as many as there are from a place on are all of them
to_the_end : {A : Type 0} (xs : List A) (i : ℕ) → take (length xs - i) (drop i xs) ≡ drop i xs
to_the_end xs i = take_all (length xs - i) (drop i xs) (omega (arith, length-drop i xs))

copies_behind : {A : Type 0} (n : ℕ) (items : List A) → copies n items ++ items ≡ items ++ copies n items
unfolding copies
copies_behind zero items = sym (append-nil items)
copies_behind {A} (suc n) items = append_assoc items (copies n items) items ∙ ap (λ (z : List A). items ++ z) (copies_behind n items)

copies_more : {A : Type 0} (front : List A) (n : ℕ) (items : List A) → (front ++ copies n items) ++ items ≡ front ++ copies (n + 1) items
unfolding copies
copies_more {A} front n items =
    let next : items ++ copies n items ≡ copies (n + 1) items = rw add-one refl in
    append_assoc front (copies n items) items ∙ ap (λ (z : List A). front ++ z) (copies_behind n items ∙ next)

pub copies_none : {A : Type 0} (front : List A) (items : List A) → front ≡ front ++ copies 0 items
unfolding copies
copies_none front items = sym (append-nil front)

copies_empty : {A : Type 0} (n : ℕ) → copies {Item = A} n [] ≡ []
unfolding copies
copies_empty zero = refl
copies_empty {A} (suc n) = copies_empty {A = A} n

-- nothing stands from the place on
pub copies_past : {A : Type 0} (texts : List A) (start n : ℕ) → length texts ≤ start → texts ≡ take start texts ++ copies n (drop start texts)
copies_past {A} texts start n h = sym (rw (take_all start texts h, drop_all start texts h, copies_empty {A = A} n) (append-nil texts))

-- the texts from a place on once more
pub round_more : {A : Type 0} (old all texts more again : List A) (start n : ℕ) → texts ≡ take start old ++ copies n (drop start old) → more ≡ texts ++ again → again ≡ take (length all - start) (drop start all) → all ≡ old → more ≡ take start old ++ copies (n + 1) (drop start old)
round_more {A} old all texts more again start n before m a s =
    m
    ∙ ap (λ (z : List A). z ++ again) before
    ∙ ap (λ (z : List A). (take start old ++ copies n (drop start old)) ++ z) (a ∙ ap (λ (z : List A). take (length z - start) (drop start z)) s ∙ to_the_end old start)
    ∙ copies_more (take start old) n (drop start old)

pub rounds_over : {A : Type 0} (old texts : List A) (start n times : ℕ) → texts ≡ take start old ++ copies n (drop start old) → n ≡ times → texts ≡ take start old ++ copies times (drop start old)
rounds_over {A} old texts start n times before same = before ∙ ap (λ (z : ℕ). take start old ++ copies z (drop start old)) same

bytes-copies : (n : ℕ) (own : List (Bor (List ℕ))) → bytes_of (copies n own) ≡ copies n (bytes_of own)
unfolding copies
bytes-copies zero own = refl
bytes-copies (suc n) own = map-append (λ (text : Bor (List ℕ)). text.now) own (copies n own) ∙ ap (λ (z : List (List ℕ)). bytes_of own ++ z) (bytes-copies n own)

texts-copies : (n : ℕ) (body : List BlockLine) → flat_map text_on (copies n body) ≡ copies n (flat_map text_on body)
unfolding copies
texts-copies zero body = refl
texts-copies (suc n) body = flat_map-append text_on body (copies n body) ∙ ap (λ (z : List (List ℕ)). flat_map text_on body ++ z) (texts-copies n body)

written_outside : (line : BlockLine) (rest : List BlockLine) → repeats_of line ≡ None → written_from None (line ∷ rest) ≡ line ∷ written_from None rest
unfolding written_from
written_outside (said.Repeat times) rest h = absurd (cc)
written_outside _ rest h = refl

written_at_repeat : (line : BlockLine) (times : ℕ) (rest : List BlockLine) → repeats_of line ≡ Some times → written_from None (line ∷ rest) ≡ written_from (Some (record { times = times; body = [] })) rest
unfolding written_from
written_at_repeat (said.Repeat own) times rest h = let same : own ≡ times = cc in rw same refl
written_at_repeat _ times rest h = absurd (cc)

written_inside : (loop : Repeated) (line : BlockLine) (rest : List BlockLine) → is_done line ≡ false → written_from (Some loop) (line ∷ rest) ≡ written_from (Some (record { times = loop.times; body = loop.body ++ line ∷ [] })) rest
unfolding written_from
written_inside loop said.Done rest h = absurd (cc)
written_inside loop _ rest h = refl

written_at_done : (loop : Repeated) (line : BlockLine) (rest : List BlockLine) → is_done line ≡ true → written_from (Some loop) (line ∷ rest) ≡ copies loop.times loop.body ++ written_from None rest
unfolding written_from
written_at_done loop said.Done rest h = refl
written_at_done loop _ rest h = absurd (cc)

pub begun : (whole : List (List ℕ)) (texts : List (Bor (List ℕ))) (line : BlockLine) (rest : List BlockLine) (times start : ℕ) → repeats_of line ≡ Some times → start ≡ length texts → IsWritten whole None texts (line ∷ rest) → IsRepeated whole (record { times = times; start = start }) texts rest
begun whole texts line rest times start h s w = record {
  front = texts;
  own = [];
  body = [];
  begins = sym s;
  texts_are = sym (append-nil texts);
  own_is = refl;
  ahead = sym (ap (λ (z : List BlockLine). bytes_of texts ++ flat_map text_on z) (written_at_repeat line times rest h)) ∙ w;
}

-- the texts of a line and of those behind it
texts_first : (line : BlockLine) (rest : List BlockLine) → flat_map text_on (line ∷ rest) ≡ text_on line ++ flat_map text_on rest
texts_first line rest = flat_map-cons text_on line rest

bytes_more : (old new : List (Bor (List ℕ))) (line : BlockLine) → AddedTexts line old new → bytes_of new ≡ bytes_of old ++ text_on line
bytes_more old new line more = ap bytes_of more.texts_are ∙ (map-append (λ (text : Bor (List ℕ)). text.now) old more.added ∙ ap (λ (z : List (List ℕ)). bytes_of old ++ z) more.added_is)

pub put_outside : (whole : List (List ℕ)) (old new : List (Bor (List ℕ))) (line : BlockLine) (rest : List BlockLine) → repeats_of line ≡ None → AddedTexts line old new → IsWritten whole None old (line ∷ rest) → IsWritten whole None new rest
put_outside whole old new line rest h more w =
    let behind = flat_map text_on (written_from None rest) in
    ap (λ (z : List (List ℕ)). z ++ behind) (bytes_more old new line more)
    ∙ (append_assoc (bytes_of old) (text_on line) behind
    ∙ (ap (λ (z : List (List ℕ)). bytes_of old ++ z) (sym (ap (flat_map text_on) (written_outside line rest h) ∙ texts_first line (written_from None rest)))
    ∙ w))

pub put_inside : (whole : List (List ℕ)) (repeat : Repeat) (old new : List (Bor (List ℕ))) (line : BlockLine) (rest : List BlockLine) → is_done line ≡ false → AddedTexts line old new → IsRepeated whole repeat old (line ∷ rest) → IsRepeated whole repeat new rest
put_inside whole repeat old new line rest h more w = record {
  front = w.front;
  own = w.own ++ more.added;
  body = w.body ++ line ∷ [];
  begins = w.begins;
  texts_are = more.texts_are ∙ (ap (λ (z : List (Bor (List ℕ))). z ++ more.added) w.texts_are ∙ append_assoc w.front w.own more.added);
  own_is = map-append (λ (text : Bor (List ℕ)). text.now) w.own more.added
      ∙ (ap (λ (z : List (List ℕ)). z ++ bytes_of more.added) w.own_is
      ∙ (ap (λ (z : List (List ℕ)). flat_map text_on w.body ++ z) (more.added_is ∙ sym (texts_first line [] ∙ append-nil (text_on line)))
      ∙ sym (flat_map-append text_on w.body (line ∷ []))));
  ahead = sym (ap (λ (z : List BlockLine). bytes_of w.front ++ flat_map text_on z) (written_inside (record { times = repeat.times; body = w.body }) line rest h))
      ∙ w.ahead;
}

pub ended : (whole : List (List ℕ)) (repeat : Repeat) (texts : List (Bor (List ℕ))) (line : BlockLine) (rest : List BlockLine) → is_done line ≡ true → IsRepeated whole repeat texts (line ∷ rest) → IsWritten whole None (take repeat.start texts ++ copies repeat.times (drop repeat.start texts)) rest
ended whole repeat texts line rest h w =
    let more = flat_map text_on (written_from None rest) in
    let all = copies repeat.times (bytes_of w.own) in
    let first : take repeat.start texts ≡ w.front = ap (take repeat.start) w.texts_are ∙ take_at w.front w.own repeat.start w.begins in
    let last : drop repeat.start texts ≡ w.own = ap (drop repeat.start) w.texts_are ∙ drop_at w.front w.own repeat.start w.begins in
    let here : bytes_of (take repeat.start texts ++ copies repeat.times (drop repeat.start texts)) ≡ bytes_of w.front ++ all =
    ap (λ (z : List (Bor (List ℕ))). bytes_of (z ++ copies repeat.times (drop repeat.start texts))) first
    ∙ (ap (λ (z : List (Bor (List ℕ))). bytes_of (w.front ++ copies repeat.times z)) last
    ∙ (map-append (λ (text : Bor (List ℕ)). text.now) w.front (copies repeat.times w.own)
    ∙ ap (λ (z : List (List ℕ)). bytes_of w.front ++ z) (bytes-copies repeat.times w.own))) in
    let made : flat_map text_on (written_from (Some (record { times = repeat.times; body = w.body })) (line ∷ rest)) ≡ all ++ more =
    ap (flat_map text_on) (written_at_done (record { times = repeat.times; body = w.body }) line rest h)
    ∙ (flat_map-append text_on (copies repeat.times w.body) (written_from None rest)
    ∙ ap (λ (z : List (List ℕ)). z ++ more) (texts-copies repeat.times w.body ∙ ap (copies repeat.times) (sym w.own_is))) in
    ap (λ (z : List (List ℕ)). z ++ more) here
    ∙ (append_assoc (bytes_of w.front) all more
    ∙ (ap (λ (z : List (List ℕ)). bytes_of w.front ++ z) (sym made)
    ∙ w.ahead))

-- behind all lines nothing is left
pub all_written : (whole : List (List ℕ)) (repeat : Option Repeat) (texts : List (Bor (List ℕ))) → IsWritten whole repeat texts [] → bytes_of texts ≡ whole
unfolding written_from
all_written whole None texts w = sym (append-nil (bytes_of texts)) ∙ w
all_written whole (Some repeat) texts w =
    ap bytes_of w.texts_are ∙ (map-append (λ (text : Bor (List ℕ)). text.now) w.front w.own ∙ (ap (λ (z : List (List ℕ)). bytes_of w.front ++ z) w.own_is ∙ w.ahead))
