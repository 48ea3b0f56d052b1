-- Lines written out, one by one.
use Rattle.std.proofs.Common.{◌≡◌, refl, ℕ, zero, suc, ◌+◌, ◌-◌, ◌≤◌, true, false, List, [], ◌∷◌, ◌++◌, map, length, take, drop, sym, ◌∙◌, ap, append_assoc, add-one, Option, Some, None}
use Rattle.std.proofs.lemmas.List.{append-nil, drop_all, drop_at, map-append, take_all, take_at}
use Rattle.pfs_model.specs.declared.lines.Line.{Line}
use Rattle.pfs_script.specs.declared.blocks.BlockLine.{BlockLine}
use Rattle.pfs_script.specs.declared.blocks.BlockLine.TheVariants as said
use Rattle.pfs_script.specs.Marks.{Repeated, copies, is_done, repeats_of, written_from}
use Rattle.pfs_runs.specs.ScriptLines.{line_in}
use Rattle.pfs_check_lines.specs.declared.repeats.Repeat.{Repeat}
use Rattle.pfs_check_lines.specs.WrittenLines.{IsRepeated, IsWritten}
use Rattle.pfs_check_lines.proofs.ListPlaces.{to_the_end}

copies_behind : (n : ℕ) (items : List Line) → copies n items ++ items ≡ items ++ copies n items
unfolding copies
copies_behind zero items = sym (append-nil items)
copies_behind (suc n) items = append_assoc items (copies n items) items ∙ ap (λ z. items ++ z) (copies_behind n items)

copies_more : (front : List Line) (n : ℕ) (items : List Line) → (front ++ copies n items) ++ items ≡ front ++ copies (n + 1) items
unfolding copies
copies_more front n items =
    let next : items ++ copies n items ≡ copies (n + 1) items = rw add-one refl in
    append_assoc front (copies n items) items ∙ ap (λ z. front ++ z) (copies_behind n items ∙ next)

pub copies_none : (front : List Line) (items : List Line) → front ≡ front ++ copies 0 items
unfolding copies
copies_none front items = sym (append-nil front)

copies_empty : (n : ℕ) → copies {Item = Line} n [] ≡ []
unfolding copies
copies_empty zero = refl
copies_empty (suc n) = copies_empty n

-- nothing stands from the place on
pub copies_past : (lines : List Line) (start n : ℕ) → length lines ≤ start → lines ≡ take start lines ++ copies n (drop start lines)
copies_past lines start n h = sym (rw (take_all start lines h, drop_all start lines h, copies_empty n) (append-nil lines))

-- the lines from a place on once more
pub round_more : (old all lines more again : List Line) (start n : ℕ) → lines ≡ take start old ++ copies n (drop start old) → more ≡ lines ++ again → again ≡ take (length all - start) (drop start all) → all ≡ old → more ≡ take start old ++ copies (n + 1) (drop start old)
round_more old all lines more again start n before m a s =
    m
    ∙ ap (λ z. z ++ again) before
    ∙ ap (λ z. (take start old ++ copies n (drop start old)) ++ z) (a ∙ ap (λ z. take (length z - start) (drop start z)) s ∙ to_the_end old start)
    ∙ copies_more (take start old) n (drop start old)

pub rounds_over : (old lines : List Line) (start n times : ℕ) → lines ≡ take start old ++ copies n (drop start old) → n ≡ times → lines ≡ take start old ++ copies times (drop start old)
rounds_over old lines start n times before same = before ∙ ap (λ z. take start old ++ copies z (drop start old)) same

map-copies : (n : ℕ) (body : List BlockLine) → map line_in (copies n body) ≡ copies n (map line_in body)
unfolding copies
map-copies zero body = refl
map-copies (suc n) body = map-append line_in body (copies n body) ∙ ap (λ z. map line_in body ++ z) (map-copies n body)

written_outside : (line : BlockLine) (rest : List BlockLine) → repeats_of line ≡ None → written_from None (line ∷ rest) ≡ line ∷ written_from None rest
unfolding written_from
written_outside (said.Repeat times) rest h = absurd (cc)
written_outside _ rest h = refl

written_at_repeat : (line : BlockLine) (times : ℕ) (rest : List BlockLine) → repeats_of line ≡ Some times → written_from None (line ∷ rest) ≡ written_from (Some (record { times = times; body = [] })) rest
unfolding written_from
written_at_repeat (said.Repeat own) times rest h = let same : own ≡ times = cc in rw same refl
written_at_repeat _ times rest h = absurd (cc)

written_inside : (loop : Repeated) (line : BlockLine) (rest : List BlockLine) → is_done line ≡ false → written_from (Some loop) (line ∷ rest) ≡ written_from (Some (record { times = loop.times; body = loop.body ++ line ∷ [] })) rest
unfolding written_from
written_inside loop said.Done rest h = absurd (cc)
written_inside loop _ rest h = refl

written_at_done : (loop : Repeated) (line : BlockLine) (rest : List BlockLine) → is_done line ≡ true → written_from (Some loop) (line ∷ rest) ≡ copies loop.times loop.body ++ written_from None rest
unfolding written_from
written_at_done loop said.Done rest h = refl
written_at_done loop _ rest h = absurd (cc)

pub begun : (whole lines : List Line) (line : BlockLine) (rest : List BlockLine) (times start : ℕ) → repeats_of line ≡ Some times → start ≡ length lines → IsWritten whole None lines (line ∷ rest) → IsRepeated whole (record { times = times; start = start }) lines rest
begun whole lines line rest times start h s w = record {
  front = lines;
  body = [];
  begins = sym s;
  lines_are = sym (append-nil lines);
  ahead = sym (ap (λ z. lines ++ map line_in z) (written_at_repeat line times rest h)) ∙ w;
}

pub put_outside : (whole lines : List Line) (line : BlockLine) (rest : List BlockLine) → repeats_of line ≡ None → IsWritten whole None lines (line ∷ rest) → IsWritten whole None (lines ++ line_in line ∷ []) rest
put_outside whole lines line rest h w =
    append_assoc lines (line_in line ∷ []) (map line_in (written_from None rest))
    ∙ sym (ap (λ z. lines ++ map line_in z) (written_outside line rest h)) ∙ w

pub put_inside : (whole : List Line) (repeat : Repeat) (lines : List Line) (line : BlockLine) (rest : List BlockLine) → is_done line ≡ false → IsRepeated whole repeat lines (line ∷ rest) → IsRepeated whole repeat (lines ++ line_in line ∷ []) rest
put_inside whole repeat lines line rest h w = record {
  front = w.front;
  body = w.body ++ line ∷ [];
  begins = w.begins;
  lines_are = ap (λ z. z ++ line_in line ∷ []) w.lines_are
      ∙ append_assoc w.front (map line_in w.body) (line_in line ∷ [])
      ∙ ap (λ z. w.front ++ z) (sym (map-append line_in w.body (line ∷ [])));
  ahead = sym (ap (λ z. w.front ++ map line_in z) (written_inside (record { times = repeat.times; body = w.body }) line rest h))
      ∙ w.ahead;
}

pub ended : (whole : List Line) (repeat : Repeat) (lines : List Line) (line : BlockLine) (rest : List BlockLine) → is_done line ≡ true → IsRepeated whole repeat lines (line ∷ rest) → IsWritten whole None (take repeat.start lines ++ copies repeat.times (drop repeat.start lines)) rest
ended whole repeat lines line rest h w =
    let own = map line_in w.body in
    let more = map line_in (written_from None rest) in
    let first : take repeat.start lines ≡ w.front = ap (take repeat.start) w.lines_are ∙ take_at w.front own repeat.start w.begins in
    let last : drop repeat.start lines ≡ own = ap (drop repeat.start) w.lines_are ∙ drop_at w.front own repeat.start w.begins in
    let made : map line_in (written_from (Some (record { times = repeat.times; body = w.body })) (line ∷ rest)) ≡ copies repeat.times own ++ more =
    ap (map line_in) (written_at_done (record { times = repeat.times; body = w.body }) line rest h)
    ∙ map-append line_in (copies repeat.times w.body) (written_from None rest)
    ∙ ap (λ z. z ++ more) (map-copies repeat.times w.body) in
    ap (λ z. (z ++ copies repeat.times (drop repeat.start lines)) ++ more) first
    ∙ ap (λ z. (w.front ++ copies repeat.times z) ++ more) last
    ∙ append_assoc w.front (copies repeat.times own) more
    ∙ ap (λ z. w.front ++ z) (sym made)
    ∙ w.ahead

-- behind all lines nothing is left
pub all_written : (whole : List Line) (repeat : Option Repeat) (lines : List Line) → IsWritten whole repeat lines [] → lines ≡ whole
unfolding written_from
all_written whole None lines w = sym (append-nil lines) ∙ w
all_written whole (Some repeat) lines w = w.lines_are ∙ w.ahead
