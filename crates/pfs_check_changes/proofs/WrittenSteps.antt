-- Administration lines written out, one by one.
use Rattle.std.proofs.Common.{◌≡◌, refl, ℕ, zero, suc, ◌+◌, ◌-◌, ◌≤◌, true, false, List, [], ◌∷◌, ◌++◌, map, length, take, drop, sym, ◌∙◌, ap, append_assoc, add-one, Option, Some, None}
use Rattle.std.proofs.lemmas.List.{append-nil, drop_all, drop_at, map-append, take_all, take_at}
use Rattle.std.specs.List.{flat_map}
use Rattle.pfs_admin.specs.declared.changes.Change.{Change}
use Rattle.pfs_script.specs.declared.blocks.BlockLine.{BlockLine}
use Rattle.pfs_script.specs.declared.blocks.BlockLine.TheVariants as said
use Rattle.pfs_script.specs.Marks.{Repeated, copies, is_done, repeats_of, written_from}
use Rattle.pfs_runs.specs.ScriptLines.{changes_on}
use Rattle.pfs_check_changes.specs.declared.repeats.Repeat.{Repeat}
use Rattle.pfs_check_changes.specs.WrittenActions.{IsRepeated, IsWritten}
use Rattle.pfs_check_lines.proofs.ListPlaces.{to_the_end}

pub flat_join : {A B : Type 0} (f : A → List B) (xs ys : List A) → flat_map f (xs ++ ys) ≡ flat_map f xs ++ flat_map f ys
flat_join f [] ys = refl
flat_join f (x ∷ xs) ys = ap (λ z. f x ++ z) (flat_join f xs ys) ∙ sym (append_assoc (f x) (flat_map f xs) (flat_map f ys))

copies_behind : {A : Type 0} (n : ℕ) (items : List A) → copies n items ++ items ≡ items ++ copies n items
unfolding copies
copies_behind zero items = sym (append-nil items)
copies_behind (suc n) items = append_assoc items (copies n items) items ∙ ap (λ z. items ++ z) (copies_behind n items)

copies_more : {A : Type 0} (front : List A) (n : ℕ) (items : List A) → (front ++ copies n items) ++ items ≡ front ++ copies (n + 1) items
unfolding copies
copies_more front n items =
    let next : items ++ copies n items ≡ copies (n + 1) items = rw add-one refl in
    append_assoc front (copies n items) items ∙ ap (λ z. front ++ z) (copies_behind n items ∙ next)

pub copies_none : {A : Type 0} (front items : List A) → front ≡ front ++ copies 0 items
unfolding copies
copies_none front items = sym (append-nil front)

copies_empty : {A : Type 0} (n : ℕ) → copies {Item = A} n [] ≡ []
unfolding copies
copies_empty zero = refl
copies_empty (suc n) = copies_empty n

-- nothing stands from the place on
pub copies_past : {A : Type 0} (lines : List A) (start n : ℕ) → length lines ≤ start → lines ≡ take start lines ++ copies n (drop start lines)
copies_past lines start n h = sym (rw (take_all start lines h, drop_all start lines h, copies_empty n) (append-nil lines))

-- the lines from a place on once more
pub round_more : {A : Type 0} (old all lines more again : List A) (start n : ℕ) → lines ≡ take start old ++ copies n (drop start old) → more ≡ lines ++ again → again ≡ take (length all - start) (drop start all) → all ≡ old → more ≡ take start old ++ copies (n + 1) (drop start old)
round_more old all lines more again start n before m a s =
    m
    ∙ ap (λ z. z ++ again) before
    ∙ ap (λ z. (take start old ++ copies n (drop start old)) ++ z) (a ∙ ap (λ z. take (length z - start) (drop start z)) s ∙ to_the_end old start)
    ∙ copies_more (take start old) n (drop start old)

pub rounds_over : {A : Type 0} (old lines : List A) (start n times : ℕ) → lines ≡ take start old ++ copies n (drop start old) → n ≡ times → lines ≡ take start old ++ copies times (drop start old)
rounds_over old lines start n times before same = before ∙ ap (λ z. take start old ++ copies z (drop start old)) same

map_copies : {A B : Type 0} (f : A → B) (n : ℕ) (items : List A) → map f (copies n items) ≡ copies n (map f items)
unfolding copies
map_copies f zero items = refl
map_copies f (suc n) items = map-append f items (copies n items) ∙ ap (λ z. map f items ++ z) (map_copies f n items)

map_take : {A B : Type 0} (f : A → B) (n : ℕ) (items : List A) → map f (take n items) ≡ take n (map f items)
map_take f zero items = refl
map_take f (suc n) [] = refl
map_take f (suc n) (x ∷ xs) = ap (λ z. f x ∷ z) (map_take f n xs)

map_drop : {A B : Type 0} (f : A → B) (n : ℕ) (items : List A) → map f (drop n items) ≡ drop n (map f items)
map_drop f zero items = refl
map_drop f (suc n) [] = refl
map_drop f (suc n) (x ∷ xs) = map_drop f n xs

flat_copies : (n : ℕ) (body : List BlockLine) → flat_map changes_on (copies n body) ≡ copies n (flat_map changes_on body)
unfolding copies
flat_copies zero body = refl
flat_copies (suc n) body = flat_join changes_on body (copies n body) ∙ ap (λ z. flat_map changes_on body ++ z) (flat_copies n body)

-- what stands for others, from a place on so many times
pub mapped_again : {A B : Type 0} (f : A → B) (old new : List A) (start times : ℕ) → new ≡ take start old ++ copies times (drop start old)
    → map f new ≡ take start (map f old) ++ copies times (drop start (map f old))
mapped_again f old new start times e =
    ap (map f) e
    ∙ map-append f (take start old) (copies times (drop start old))
    ∙ ap (λ z. z ++ map f (copies times (drop start old))) (map_take f start old)
    ∙ ap (λ z. take start (map f old) ++ z) (map_copies f times (drop start old) ∙ ap (copies times) (map_drop f start old))

written_outside : (line : BlockLine) (rest : List BlockLine) → repeats_of line ≡ None → written_from None (line ∷ rest) ≡ line ∷ written_from None rest
unfolding written_from
written_outside (said.Repeat times) rest h = absurd (cc)
written_outside _ rest h = refl

written_at_repeat : (line : BlockLine) (times : ℕ) (rest : List BlockLine) → repeats_of line ≡ Some times → written_from None (line ∷ rest) ≡ written_from (Some (record { times = times; body = [] })) rest
unfolding written_from
written_at_repeat (said.Repeat own) times rest h = let same : own ≡ times = cc in rw same refl
written_at_repeat _ times rest h = absurd (cc)

written_inside : (loop : Repeated) (line : BlockLine) (rest : List BlockLine) → is_done line ≡ false → written_from (Some loop) (line ∷ rest) ≡ written_from (Some (record { times = loop.times; body = loop.body ++ line ∷ [] })) rest
unfolding written_from
written_inside loop said.Done rest h = absurd (cc)
written_inside loop _ rest h = refl

written_at_done : (loop : Repeated) (line : BlockLine) (rest : List BlockLine) → is_done line ≡ true → written_from (Some loop) (line ∷ rest) ≡ copies loop.times loop.body ++ written_from None rest
unfolding written_from
written_at_done loop said.Done rest h = refl
written_at_done loop _ rest h = absurd (cc)

pub begun : (whole made : List Change) (line : BlockLine) (rest : List BlockLine) (times start : ℕ) → repeats_of line ≡ Some times → start ≡ length made → IsWritten whole None made (line ∷ rest) → IsRepeated whole (record { times = times; start = start }) made rest
begun whole made line rest times start h s w = record {
  front = made;
  body = [];
  begins = sym s;
  made_are = sym (append-nil made);
  ahead = sym (ap (λ z. made ++ flat_map changes_on z) (written_at_repeat line times rest h)) ∙ w;
}

pub put_outside : (whole made : List Change) (line : BlockLine) (rest : List BlockLine) → repeats_of line ≡ None → IsWritten whole None made (line ∷ rest) → IsWritten whole None (made ++ changes_on line) rest
put_outside whole made line rest h w =
    append_assoc made (changes_on line) (flat_map changes_on (written_from None rest))
    ∙ sym (ap (λ z. made ++ flat_map changes_on z) (written_outside line rest h)) ∙ w

pub put_inside : (whole : List Change) (repeat : Repeat) (made : List Change) (line : BlockLine) (rest : List BlockLine) → is_done line ≡ false → IsRepeated whole repeat made (line ∷ rest) → IsRepeated whole repeat (made ++ changes_on line) rest
put_inside whole repeat made line rest h w = record {
  front = w.front;
  body = w.body ++ line ∷ [];
  begins = w.begins;
  made_are = ap (λ z. z ++ changes_on line) w.made_are
      ∙ append_assoc w.front (flat_map changes_on w.body) (changes_on line)
      ∙ ap (λ z. w.front ++ z) (ap (λ z. flat_map changes_on w.body ++ z) (sym (append-nil (changes_on line))) ∙ sym (flat_join changes_on w.body (line ∷ [])));
  ahead = sym (ap (λ z. w.front ++ flat_map changes_on z) (written_inside (record { times = repeat.times; body = w.body }) line rest h))
      ∙ w.ahead;
}

pub ended : (whole : List Change) (repeat : Repeat) (made : List Change) (line : BlockLine) (rest : List BlockLine) → is_done line ≡ true → IsRepeated whole repeat made (line ∷ rest) → IsWritten whole None (take repeat.start made ++ copies repeat.times (drop repeat.start made)) rest
ended whole repeat made line rest h w =
    let own = flat_map changes_on w.body in
    let more = flat_map changes_on (written_from None rest) in
    let first : take repeat.start made ≡ w.front = ap (take repeat.start) w.made_are ∙ take_at w.front own repeat.start w.begins in
    let last : drop repeat.start made ≡ own = ap (drop repeat.start) w.made_are ∙ drop_at w.front own repeat.start w.begins in
    let all : flat_map changes_on (written_from (Some (record { times = repeat.times; body = w.body })) (line ∷ rest)) ≡ copies repeat.times own ++ more =
    ap (flat_map changes_on) (written_at_done (record { times = repeat.times; body = w.body }) line rest h)
    ∙ flat_join changes_on (copies repeat.times w.body) (written_from None rest)
    ∙ ap (λ z. z ++ more) (flat_copies repeat.times w.body) in
    ap (λ z. (z ++ copies repeat.times (drop repeat.start made)) ++ more) first
    ∙ ap (λ z. (w.front ++ copies repeat.times z) ++ more) last
    ∙ append_assoc w.front (copies repeat.times own) more
    ∙ ap (λ z. w.front ++ z) (sym all)
    ∙ w.ahead

-- behind all lines nothing is left
pub all_written : (whole : List Change) (repeat : Option Repeat) (made : List Change) → IsWritten whole repeat made [] → made ≡ whole
unfolding written_from
all_written whole None made w = sym (append-nil made) ∙ w
all_written whole (Some repeat) made w = w.made_are ∙ w.ahead
