-- Lines followed one after another, and repeats written out.
use Rattle.std.proofs.Common.{◌≡◌, refl, ℕ, zero, suc, ◌+◌, ◌-◌, ◌%◌, ◌^◌, ◌<◌, ◌≤◌, true, false, List, [], ◌∷◌, ◌++◌, length, get_or, take, drop, sym, ◌∙◌, ap, subst, append_assoc, add-one, arith, Some, None}
use Rattle.std.specs.List.{sum_by}
use Rattle.std.proofs.Math.Nat.{mod-add-mod}
use Rattle.std.proofs.lemmas.List.{append-nil, drop_all, drop_more, length-drop, take_all, take_more}
use Rattle.std.proofs.lemmas.List.Sums.{sum_by-append}
use Rattle.pfs_script.specs.Events.{time_of}
use Rattle.pfs_script.specs.Marks.{Repeated, copies, is_done, repeats_of, written_from}
use Rattle.pfs_script.specs.declared.blocks.BlockLine.{BlockLine}
use Rattle.pfs_script.specs.declared.blocks.BlockLine.TheVariants as said
use Rattle.pfs_check_facts.specs.declared.blocks.Repeat.{Repeat}
use Rattle.pfs_check_facts.specs.declared.moments.Course.{Course}
use Rattle.pfs_check_facts.specs.FollowedLines.{IsUpTo, repeated_to}
use Rattle.pfs_check_facts.specs.Moments.{IsCourseOf, moment_with, moments_from, turn_on}

-- one line more
moments_then : (clock : ℕ) (lines : List BlockLine) (line : BlockLine)
    → moments_from clock (lines ++ line ∷ []) ≡ moments_from clock lines ++ moment_with ((clock + sum_by time_of lines) % 2 ^ 64) line (turn_on line)
moments_then clock [] line =
    append-nil (moment_with (clock % 2 ^ 64) line (turn_on line)) ∙ ap (λ n. moment_with (n % 2 ^ 64) line (turn_on line)) (omega arith)
moments_then clock (one ∷ lines) line =
    let first = moment_with (clock % 2 ^ 64) one (turn_on one) in
    let sums : sum_by time_of (one ∷ lines) ≡ 0 + time_of one + sum_by time_of lines = sum_by-append time_of (one ∷ []) lines in
    ap (λ z. first ++ z) (moments_then (clock + time_of one) lines line)
    ∙ ap (λ n. first ++ (moments_from (clock + time_of one) lines ++ moment_with (n % 2 ^ 64) line (turn_on line))) (omega (arith, sums))
    ∙ sym (append_assoc first (moments_from (clock + time_of one) lines) (moment_with ((clock + sum_by time_of (one ∷ lines)) % 2 ^ 64) line (turn_on line)))

pub followed : (lines : List BlockLine) (line : BlockLine) (old new : Course) → IsCourseOf lines old
    → new.moments.items ≡ old.moments.items ++ moment_with old.clock line (turn_on line) → new.clock ≡ (old.clock + time_of line) % 2 ^ 64
    → IsCourseOf (lines ++ line ∷ []) new
followed lines line old new are moments clock = record {
  clock = clock ∙ ap (λ n. (n + time_of line) % 2 ^ 64) are.clock ∙ mod-add-mod (sum_by time_of lines) (2 ^ 64) (time_of line)
      ∙ ap (λ n. n % 2 ^ 64) (sym more);
  moments = moments ∙ ap (λ z. z ++ moment_with old.clock line (turn_on line)) are.moments
      ∙ ap (λ n. moments_from 0 lines ++ moment_with n line (turn_on line)) (are.clock ∙ ap (λ n. n % 2 ^ 64) (omega arith))
      ∙ sym (moments_then 0 lines line);
} where
  more : sum_by time_of (lines ++ line ∷ []) ≡ sum_by time_of lines + time_of line
  more = sum_by-append time_of lines (line ∷ []) ∙ ap (λ n. sum_by time_of lines + n) (omega arith)

-- these lines, one more of them
pub all_more : (lines all : List BlockLine) (place : ℕ) (line : BlockLine) (course : Course) → place < length all → line ≡ get_or all place line
    → IsCourseOf ((lines ++ take place all) ++ line ∷ []) course → IsCourseOf (lines ++ take (place + 1) all) course
all_more lines all place line course within is are = subst (λ z. IsCourseOf z course)
    (append_assoc lines (take place all) (line ∷ []) ∙ ap (λ (z : BlockLine). lines ++ (take place all ++ z ∷ [])) is
    ∙ ap (λ z. lines ++ z) (sym (take_more all place line within))) are

pub all_over : (lines all : List BlockLine) (place : ℕ) (course : Course) → length all ≤ place → IsCourseOf (lines ++ take place all) course → IsCourseOf (lines ++ all) course
all_over lines all place course past are = subst (λ z. IsCourseOf (lines ++ z) course) (take_all place all past) are

pub none_yet : (lines : List BlockLine) (course : Course) → IsCourseOf lines course → IsCourseOf (lines ++ []) course
none_yet lines course are = subst (λ z. IsCourseOf z course) (sym (append-nil lines)) are

-- the same lines once more
copies_behind : (n : ℕ) (body : List BlockLine) → copies n body ++ body ≡ body ++ copies n body
unfolding copies
copies_behind zero body = sym (append-nil body)
copies_behind (suc n) body = append_assoc body (copies n body) body ∙ ap (λ z. body ++ z) (copies_behind n body)

copies_more : (n : ℕ) (body : List BlockLine) → copies n body ++ body ≡ copies (n + 1) body
unfolding copies
copies_more n body = let next : body ++ copies n body ≡ copies (n + 1) body = rw add-one refl in copies_behind n body ∙ next

pub no_round : (lines body : List BlockLine) (course : Course) → IsCourseOf lines course → IsCourseOf (lines ++ copies 0 body) course
unfolding copies
no_round lines body course are = none_yet lines course are

pub round_more : (lines body : List BlockLine) (n : ℕ) (course : Course) → IsCourseOf ((lines ++ copies n body) ++ body) course → IsCourseOf (lines ++ copies (n + 1) body) course
round_more lines body n course are = subst (λ z. IsCourseOf z course) (append_assoc lines (copies n body) body ∙ ap (λ z. lines ++ z) (copies_more n body)) are

no_lines : (lines : List BlockLine) → length lines ≡ 0 → lines ≡ []
no_lines [] e = refl
no_lines (line ∷ lines) e = absurd (omega (arith, e))

copies_empty : (n : ℕ) → copies {Item = BlockLine} n [] ≡ []
unfolding copies
copies_empty zero = refl
copies_empty (suc n) = copies_empty n

pub empty_rounds : (lines body : List BlockLine) (n : ℕ) (course : Course) → length body ≡ 0 → IsCourseOf lines course → IsCourseOf (lines ++ copies n body) course
empty_rounds lines body n course e are =
    subst (λ z. IsCourseOf (lines ++ z) course) (sym (ap (copies n) (no_lines body e) ∙ copies_empty n)) (none_yet lines course are)

-- one line of a block
written_outside : (line : BlockLine) (rest : List BlockLine) → repeats_of line ≡ None → written_from None (line ∷ rest) ≡ line ∷ written_from None rest
unfolding written_from
written_outside (said.Repeat times) rest h = absurd (cc)
written_outside _ rest h = refl

written_at_repeat : (line : BlockLine) (times : ℕ) (rest : List BlockLine) → repeats_of line ≡ Some times → written_from None (line ∷ rest) ≡ written_from (Some (record { times = times; body = [] })) rest
unfolding written_from
written_at_repeat (said.Repeat own) times rest h = let same : own ≡ times = cc in rw same refl
written_at_repeat _ times rest h = absurd (cc)

written_inside : (loop : Repeated) (line : BlockLine) (rest : List BlockLine) → is_done line ≡ false → written_from (Some loop) (line ∷ rest) ≡ written_from (Some (record { times = loop.times; body = loop.body ++ line ∷ [] })) rest
unfolding written_from
written_inside loop said.Done rest h = absurd (cc)
written_inside loop _ rest h = refl

written_at_done : (loop : Repeated) (line : BlockLine) (rest : List BlockLine) → is_done line ≡ true → written_from (Some loop) (line ∷ rest) ≡ copies loop.times loop.body ++ written_from None rest
unfolding written_from
written_at_done loop said.Done rest h = refl
written_at_done loop _ rest h = absurd (cc)

parted : (all : List BlockLine) (place : ℕ) (line : BlockLine) → place < length all → line ≡ get_or all place line → drop place all ≡ line ∷ drop (place + 1) all
parted all place line within is = drop_more all place line within ∙ ap (λ (z : BlockLine). z ∷ drop (place + 1) all) (sym is)

body_at : (all : List BlockLine) (start place : ℕ) (line : BlockLine) → start ≤ place → place < length all → line ≡ get_or all place line
    → take (place + 1 - start) (drop start all) ≡ take (place - start) (drop start all) ++ line ∷ []
body_at all start place line low within is =
    ap (λ n. take n (drop start all)) (omega (arith, low))
    ∙ take_more (drop start all) (place - start) line (omega (arith, low, within, length-drop start all))
    ∙ ap (λ (z : BlockLine). take (place - start) (drop start all) ++ z ∷ []) (there all start place line low ∙ sym is) where
      there : (xs : List BlockLine) (s p : ℕ) (d : BlockLine) → s ≤ p → get_or (drop s xs) (p - s) d ≡ get_or xs p d
      there xs zero p d l = ap (λ n. get_or xs n d) (omega arith)
      there [] (suc s) p d l = refl
      there (x ∷ xs) (suc s) zero d l = absurd (omega (arith, l))
      there (x ∷ xs) (suc s) (suc p) d l = ap (λ n. get_or (drop s xs) n d) (omega arith) ∙ there xs s p d (omega (arith, l))

pub begin : (all lines : List BlockLine) (course : Course) → IsCourseOf lines course → IsUpTo all (lines ++ written_from None all) course 0 None
begin all lines course are = record { done = lines; are = are; begun = tt; ahead = refl }

pub next_outside : (all whole : List BlockLine) (old new : Course) (place : ℕ) (line : BlockLine) → IsUpTo all whole old place None → place < length all
    → line ≡ get_or all place line → repeats_of line ≡ None → ((lines : List BlockLine) → IsCourseOf lines old → IsCourseOf (lines ++ line ∷ []) new)
    → IsUpTo all whole new (place + 1) None
next_outside all whole old new place line up within is none follow = record {
  done = up.done ++ line ∷ [];
  are = follow up.done up.are;
  begun = tt;
  ahead = append_assoc up.done (line ∷ []) (written_from None (drop (place + 1) all))
      ∙ ap (λ z. up.done ++ z) (sym (ap (written_from None) (parted all place line within is) ∙ written_outside line (drop (place + 1) all) none))
      ∙ up.ahead;
}

pub next_begun : (all whole : List BlockLine) (course : Course) (place : ℕ) (line : BlockLine) (times start : ℕ) → IsUpTo all whole course place None → place < length all
    → line ≡ get_or all place line → repeats_of line ≡ Some times → start ≡ place + 1
    → IsUpTo all whole course (place + 1) (Some (record { times = times; start = start }))
next_begun all whole course place line times start up within is some s = record {
  done = up.done;
  are = up.are;
  begun = omega (arith, s);
  ahead = ap (λ z. up.done ++ written_from (Some (record { times = times; body = z })) (drop (place + 1) all)) (nothing (place + 1 - start) (drop start all) (omega (arith, s)))
      ∙ ap (λ z. up.done ++ z) (sym (ap (written_from None) (parted all place line within is) ∙ written_at_repeat line times (drop (place + 1) all) some))
      ∙ up.ahead;
} where
  nothing : (n : ℕ) (xs : List BlockLine) → n ≡ 0 → take n xs ≡ []
  nothing zero xs e = refl
  nothing (suc n) xs e = absurd (omega (arith, e))

pub next_inside : (all whole : List BlockLine) (course : Course) (place : ℕ) (line : BlockLine) (repeat : Repeat) → IsUpTo all whole course place (Some repeat) → place < length all
    → line ≡ get_or all place line → is_done line ≡ false → IsUpTo all whole course (place + 1) (Some repeat)
next_inside all whole course place line repeat up within is done = record {
  done = up.done;
  are = up.are;
  begun = omega (arith, up.begun);
  ahead = ap (λ z. up.done ++ written_from (Some (record { times = repeat.times; body = z })) (drop (place + 1) all)) (body_at all repeat.start place line up.begun within is)
      ∙ ap (λ z. up.done ++ z) (sym (ap (written_from (repeated_to all place (Some repeat))) (parted all place line within is)
      ∙ written_inside (record { times = repeat.times; body = take (place - repeat.start) (drop repeat.start all) }) line (drop (place + 1) all) done))
      ∙ up.ahead;
}

pub next_done : (all whole : List BlockLine) (old new : Course) (place : ℕ) (line : BlockLine) (repeat : Repeat) → IsUpTo all whole old place (Some repeat) → place < length all
    → line ≡ get_or all place line → is_done line ≡ true
    → ((lines : List BlockLine) → IsCourseOf lines old → IsCourseOf (lines ++ copies repeat.times (take (place - repeat.start) (drop repeat.start all))) new)
    → IsUpTo all whole new (place + 1) None
next_done all whole old new place line repeat up within is done follow = record {
  done = up.done ++ copies repeat.times body;
  are = follow up.done up.are;
  begun = tt;
  ahead = append_assoc up.done (copies repeat.times body) (written_from None (drop (place + 1) all))
      ∙ ap (λ z. up.done ++ z) (sym (ap (written_from (repeated_to all place (Some repeat))) (parted all place line within is)
      ∙ written_at_done (record { times = repeat.times; body = body }) line (drop (place + 1) all) done))
      ∙ up.ahead;
} where
  body : List BlockLine
  body = take (place - repeat.start) (drop repeat.start all)

-- behind the last line
pub rest_none : (all whole : List BlockLine) (course : Course) (place : ℕ) → IsUpTo all whole course place None → length all ≤ place → IsCourseOf whole course
unfolding written_from
rest_none all whole course place up past =
    subst (λ z. IsCourseOf z course) (sym (append-nil up.done) ∙ sym (ap (λ z. up.done ++ written_from None z) (drop_all place all past)) ∙ up.ahead) up.are

pub rest_some : (all whole : List BlockLine) (old new : Course) (place : ℕ) (repeat : Repeat) → IsUpTo all whole old place (Some repeat) → place ≡ length all
    → ((lines : List BlockLine) → IsCourseOf lines old → IsCourseOf (lines ++ drop repeat.start all) new) → IsCourseOf whole new
unfolding written_from
rest_some all whole old new place repeat up past follow =
    subst (λ z. IsCourseOf z new) (ap (λ z. up.done ++ z) (sym (take_all (place - repeat.start) (drop repeat.start all) (omega (arith, length-drop repeat.start all, past))))
    ∙ sym (ap (λ z. up.done ++ written_from (repeated_to all place (Some repeat)) z) (drop_all place all (omega (arith, past)))) ∙ up.ahead) (follow up.done up.are)
