-- The lines of a block with their repeats: what stands before a repeat's end, and behind it.
use Rattle.std.proofs.Common.{ℕ, zero, suc, ◌≡◌, ◌<◌, ◌≤◌, ◌+◌, ◌-◌, ◌*◌, Bool, true, false, List, [], ◌∷◌, ◌++◌, length, take, drop, Some, None, refl, ap, sym, ◌∙◌, subst, append_assoc, cond, nat_lt, arith}
use Rattle.std.specs.List.{position, position_or_len}
use Rattle.std.proofs.lemmas.Bool.Decides.{nat_tests}
use Rattle.std.proofs.lemmas.Grind.{common_steps}
use Rattle.std.proofs.lemmas.List.{append-nil, length-append, drop_all}
use Rattle.pfs_event.specs.declared.kind.EventKind.{EventKind}
use Rattle.pfs_script.specs.declared.blocks.BlockLine.{BlockLine}
use Rattle.pfs_script.specs.declared.blocks.BlockLine.TheVariants as said
use Rattle.pfs_script.specs.Brackets.{kinds_behind}
use Rattle.pfs_script.specs.Marks.{Repeated, mark_of, is_done, repeats_of, copies, written_from, written_out}
use Rattle.pfs_play.specs.Errands.{CanPlay, MayPlay, actions_of, actions_on, cost_on, cost_of, errand_on, kinds_after}
use Rattle.pfs_play.specs.Repeats.{AllMayPlay, repeated}

abbrev pub place : List BlockLine → ℕ
place lines = position_or_len is_done lines

some_of : (passes : Bool) (n end : ℕ) → cond passes (Some n) None ≡ Some end → (passes ≡ true) × (end ≡ n)
some_of true n end is = (refl, cc)
some_of false n end is = absurd (cc)

none_of : (passes : Bool) (n : ℕ) → cond passes (Some n) None ≡ None → passes ≡ false
none_of true n is = absurd (cc)
none_of false n is = refl

pub found : (lines : List BlockLine) (end : ℕ) → position is_done lines ≡ Some end → (place lines < length lines) × (end ≡ place lines)
found lines end is =
    let both = some_of (nat_lt (place lines) (length lines)) (place lines) end is in
    (grind (arith, nat_tests, both.0), both.1)

pub not_found : (lines : List BlockLine) → position is_done lines ≡ None → length lines ≤ place lines
not_found lines is = let passes = none_of (nat_lt (place lines) (length lines)) (place lines) is in grind (arith, nat_tests, passes)

place_inside : (line : BlockLine) (rest : List BlockLine) → is_done line ≡ false → place (line ∷ rest) ≡ 1 + place rest
place_inside said.Done rest is = absurd (cc)
place_inside (said.Wait class) rest is = refl
place_inside (said.TableWait class table) rest is = refl
place_inside (said.Statement class digest) rest is = refl
place_inside (said.Transaction access) rest is = refl
place_inside (said.Stage class) rest is = refl
place_inside said.StageEnd rest is = refl
place_inside (said.Spend time) rest is = refl
place_inside (said.Sql text) rest is = refl
place_inside said.Quit rest is = refl
place_inside said.End rest is = refl
place_inside (said.EndStatement numbers) rest is = refl
place_inside (said.Repeat times) rest is = refl

ends : (line : BlockLine) → is_done line ≡ true → line ≡ said.Done
ends said.Done is = refl
ends (said.Wait class) is = absurd (cc)
ends (said.TableWait class table) is = absurd (cc)
ends (said.Statement class digest) is = absurd (cc)
ends (said.Transaction access) is = absurd (cc)
ends (said.Stage class) is = absurd (cc)
ends said.StageEnd is = absurd (cc)
ends (said.Spend time) is = absurd (cc)
ends (said.Sql text) is = absurd (cc)
ends said.Quit is = absurd (cc)
ends said.End is = absurd (cc)
ends (said.EndStatement numbers) is = absurd (cc)
ends (said.Repeat times) is = absurd (cc)

written_end : (loop : Repeated) (rest : List BlockLine) → written_from (Some loop) (said.Done ∷ rest) ≡ copies loop.times loop.body ++ written_from None rest
unfolding written_from
written_end loop rest = refl

written_inside : (loop : Repeated) (line : BlockLine) (rest : List BlockLine) → is_done line ≡ false → written_from (Some loop) (line ∷ rest) ≡ written_from (Some (record { times = loop.times; body = loop.body ++ line ∷ [] })) rest
unfolding written_from
written_inside loop said.Done rest is = absurd (cc)
written_inside loop (said.Wait class) rest is = refl
written_inside loop (said.TableWait class table) rest is = refl
written_inside loop (said.Statement class digest) rest is = refl
written_inside loop (said.Transaction access) rest is = refl
written_inside loop (said.Stage class) rest is = refl
written_inside loop said.StageEnd rest is = refl
written_inside loop (said.Spend time) rest is = refl
written_inside loop (said.Sql text) rest is = refl
written_inside loop said.Quit rest is = refl
written_inside loop said.End rest is = refl
written_inside loop (said.EndStatement numbers) rest is = refl
written_inside loop (said.Repeat times) rest is = refl

may_end : (classes depth : ℕ) (kinds start : List EventKind) (rest : List BlockLine) → AllMayPlay classes depth kinds (Some start) (said.Done ∷ rest) → (kinds ≡ start) × AllMayPlay classes depth kinds None rest
unfolding AllMayPlay
may_end classes depth kinds start rest may = may

may_inside : (classes depth : ℕ) (kinds start : List EventKind) (line : BlockLine) (rest : List BlockLine) → is_done line ≡ false → AllMayPlay classes depth kinds (Some start) (line ∷ rest) → MayPlay classes depth kinds line × AllMayPlay classes depth (kinds_behind (mark_of line) kinds) (Some start) rest
unfolding AllMayPlay
may_inside classes depth kinds start said.Done rest is may = absurd (cc)
may_inside classes depth kinds start (said.Wait class) rest is may = may
may_inside classes depth kinds start (said.TableWait class table) rest is may = may
may_inside classes depth kinds start (said.Statement class digest) rest is may = may
may_inside classes depth kinds start (said.Transaction access) rest is may = may
may_inside classes depth kinds start (said.Stage class) rest is may = may
may_inside classes depth kinds start said.StageEnd rest is may = may
may_inside classes depth kinds start (said.Spend time) rest is may = may
may_inside classes depth kinds start (said.Sql text) rest is may = may
may_inside classes depth kinds start said.Quit rest is may = may
may_inside classes depth kinds start said.End rest is may = may
may_inside classes depth kinds start (said.EndStatement numbers) rest is may = may
may_inside classes depth kinds start (said.Repeat times) rest is may = may

-- outside of a repeat
pub written_plain : (line : BlockLine) (rest : List BlockLine) → repeats_of line ≡ None → written_out (line ∷ rest) ≡ line ∷ written_out rest
unfolding written_from
written_plain (said.Repeat n) rest is = absurd (cc)
written_plain (said.Wait class) rest is = refl
written_plain (said.TableWait class table) rest is = refl
written_plain (said.Statement class digest) rest is = refl
written_plain (said.Transaction access) rest is = refl
written_plain (said.Stage class) rest is = refl
written_plain said.StageEnd rest is = refl
written_plain (said.Spend time) rest is = refl
written_plain (said.Sql text) rest is = refl
written_plain said.Quit rest is = refl
written_plain said.End rest is = refl
written_plain (said.EndStatement numbers) rest is = refl
written_plain said.Done rest is = refl

pub may_plain : (classes depth : ℕ) (kinds : List EventKind) (line : BlockLine) (rest : List BlockLine) → repeats_of line ≡ None → AllMayPlay classes depth kinds None (line ∷ rest) → MayPlay classes depth kinds line × AllMayPlay classes depth (kinds_behind (mark_of line) kinds) None rest
unfolding AllMayPlay
may_plain classes depth kinds (said.Repeat n) rest is may = absurd (cc)
may_plain classes depth kinds (said.Wait class) rest is may = may
may_plain classes depth kinds (said.TableWait class table) rest is may = may
may_plain classes depth kinds (said.Statement class digest) rest is may = may
may_plain classes depth kinds (said.Transaction access) rest is may = may
may_plain classes depth kinds (said.Stage class) rest is may = may
may_plain classes depth kinds said.StageEnd rest is may = may
may_plain classes depth kinds (said.Spend time) rest is may = may
may_plain classes depth kinds (said.Sql text) rest is may = may
may_plain classes depth kinds said.Quit rest is may = may
may_plain classes depth kinds said.End rest is may = may
may_plain classes depth kinds (said.EndStatement numbers) rest is may = may
may_plain classes depth kinds said.Done rest is may = may

-- a repeat begins
pub begins : (line : BlockLine) (times : ℕ) → repeats_of line ≡ Some times → line ≡ said.Repeat times
begins (said.Repeat n) times is = cc
begins (said.Wait class) times is = absurd (cc)
begins (said.TableWait class table) times is = absurd (cc)
begins (said.Statement class digest) times is = absurd (cc)
begins (said.Transaction access) times is = absurd (cc)
begins (said.Stage class) times is = absurd (cc)
begins said.StageEnd times is = absurd (cc)
begins (said.Spend time) times is = absurd (cc)
begins (said.Sql text) times is = absurd (cc)
begins said.Quit times is = absurd (cc)
begins said.End times is = absurd (cc)
begins (said.EndStatement numbers) times is = absurd (cc)
begins said.Done times is = absurd (cc)

pub written_begin : (times : ℕ) (rest : List BlockLine) → written_out (said.Repeat times ∷ rest) ≡ repeated times rest
unfolding written_from
written_begin times rest = refl

pub may_begin : (classes depth : ℕ) (kinds : List EventKind) (times : ℕ) (rest : List BlockLine) → AllMayPlay classes depth kinds None (said.Repeat times ∷ rest) → AllMayPlay classes depth kinds (Some kinds) rest
unfolding AllMayPlay
may_begin classes depth kinds times rest may = may

pub written_none : written_out [] ≡ []
unfolding written_from
written_none = refl

left_over : (loop : Repeated) → written_from (Some loop) [] ≡ loop.body
unfolding written_from
left_over loop = refl

-- what a repeat comes to: its lines so many times, and then the lines behind its end
written_by : (times : ℕ) (body : List BlockLine) (line : BlockLine) (rest : List BlockLine) (done : Bool) → is_done line ≡ done → ((b : List BlockLine) → place rest < length rest → written_from (Some (record { times = times; body = b })) rest ≡ copies times (b ++ take (place rest) rest) ++ written_out (drop (place rest + 1) rest)) → place (line ∷ rest) < length (line ∷ rest) → written_from (Some (record { times = times; body = body })) (line ∷ rest) ≡ copies times (body ++ take (place (line ∷ rest)) (line ∷ rest)) ++ written_out (drop (place (line ∷ rest) + 1) (line ∷ rest))
written_by times body line rest true is ih less =
    subst (λ (l : BlockLine). written_from (Some (record { times = times; body = body })) (l ∷ rest) ≡ copies times (body ++ take (place (l ∷ rest)) (l ∷ rest)) ++ written_out (drop (place (l ∷ rest) + 1) (l ∷ rest))) (sym (ends line is))
    (written_end (record { times = times; body = body }) rest ∙ ap (λ (b : List BlockLine). copies times b ++ written_out rest) (sym (append-nil body)))
written_by times body line rest false is ih less =
    let one_more : 1 + place rest ≡ suc (place rest) = omega arith in
    let at : place (line ∷ rest) ≡ suc (place rest) = place_inside line rest is ∙ one_more in
    let inner : place rest < length rest = omega (arith, at, less) in
    let one : place rest + 1 ≡ suc (place rest) = omega arith in
    let two : suc (place rest) + 1 ≡ suc (place rest + 1) = omega arith in
    subst (λ n. written_from (Some (record { times = times; body = body })) (line ∷ rest) ≡ copies times (body ++ take n (line ∷ rest)) ++ written_out (drop (n + 1) (line ∷ rest))) (sym at)
    (written_inside (record { times = times; body = body }) line rest is
    ∙ (ih (body ++ line ∷ []) inner
    ∙ (ap (λ (b : List BlockLine). copies times b ++ written_out (drop (place rest + 1) rest)) (append_assoc body (line ∷ []) (take (place rest) rest))
    ∙ sym (ap (λ n. copies times (body ++ line ∷ take (place rest) rest) ++ written_out (drop n (line ∷ rest))) two))))

written_done : (times : ℕ) (lines : List BlockLine) (body : List BlockLine) → place lines < length lines → written_from (Some (record { times = times; body = body })) lines ≡ copies times (body ++ take (place lines) lines) ++ written_out (drop (place lines + 1) lines)
written_done times [] body less = absurd (omega (arith, less))
written_done times (line ∷ rest) body less = written_by times body line rest (is_done line) refl (written_done times rest) less

pub written_round : (times : ℕ) (lines : List BlockLine) → place lines < length lines → repeated times lines ≡ copies times (take (place lines) lines) ++ written_out (drop (place lines + 1) lines)
written_round times lines less = written_done times lines [] less

-- a repeat that isn't done
open_by : (times : ℕ) (body : List BlockLine) (line : BlockLine) (rest : List BlockLine) (done : Bool) → is_done line ≡ done → ((b : List BlockLine) → length rest ≤ place rest → written_from (Some (record { times = times; body = b })) rest ≡ b ++ rest) → length (line ∷ rest) ≤ place (line ∷ rest) → written_from (Some (record { times = times; body = body })) (line ∷ rest) ≡ body ++ line ∷ rest
open_by times body line rest true is ih most =
    let at : place (line ∷ rest) ≡ 0 = ap (λ (l : BlockLine). place (l ∷ rest)) (ends line is) in
    absurd (omega (arith, at, most))
open_by times body line rest false is ih most =
    let one_more : 1 + place rest ≡ suc (place rest) = omega arith in
    let at : place (line ∷ rest) ≡ suc (place rest) = place_inside line rest is ∙ one_more in
    let inner : length rest ≤ place rest = omega (arith, at, most) in
    written_inside (record { times = times; body = body }) line rest is ∙ (ih (body ++ line ∷ []) inner ∙ append_assoc body (line ∷ []) rest)

open_all : (times : ℕ) (lines : List BlockLine) (body : List BlockLine) → length lines ≤ place lines → written_from (Some (record { times = times; body = body })) lines ≡ body ++ lines
open_all times [] body most = left_over (record { times = times; body = body }) ∙ sym (append-nil body)
open_all times (line ∷ rest) body most = open_by times body line rest (is_done line) refl (open_all times rest) most

pub written_open : (times : ℕ) (lines : List BlockLine) → length lines ≤ place lines → repeated times lines ≡ lines
written_open times lines most = open_all times lines [] most

-- the lines of a repeat may be played, and end where it began
pub record IsRound (classes depth : ℕ) (kinds start : List EventKind) (lines : List BlockLine) : Type 0 where
  pub can : CanPlay classes depth kinds (take (place lines) lines)
  pub back : kinds_after kinds (take (place lines) lines) ≡ start
  pub others : AllMayPlay classes depth start None (drop (place lines + 1) lines)

round_by : (classes depth : ℕ) (kinds start : List EventKind) (line : BlockLine) (rest : List BlockLine) (done : Bool) → is_done line ≡ done → ((k : List EventKind) → place rest < length rest → AllMayPlay classes depth k (Some start) rest → IsRound classes depth k start rest) → place (line ∷ rest) < length (line ∷ rest) → AllMayPlay classes depth kinds (Some start) (line ∷ rest) → IsRound classes depth kinds start (line ∷ rest)
round_by classes depth kinds start line rest true is ih less may =
    let may_done : AllMayPlay classes depth kinds (Some start) (said.Done ∷ rest) = subst (λ (l : BlockLine). AllMayPlay classes depth kinds (Some start) (l ∷ rest)) (ends line is) may in
    let both = may_end classes depth kinds start rest may_done in
    subst (λ (l : BlockLine). IsRound classes depth kinds start (l ∷ rest)) (sym (ends line is))
    (record { can = tt; back = both.0; others = subst (λ (k : List EventKind). AllMayPlay classes depth k None rest) both.0 both.1 })
round_by classes depth kinds start line rest false is ih less may =
    let one_more : 1 + place rest ≡ suc (place rest) = omega arith in
    let at : place (line ∷ rest) ≡ suc (place rest) = place_inside line rest is ∙ one_more in
    let inner : place rest < length rest = omega (arith, at, less) in
    let two : suc (place rest) + 1 ≡ suc (place rest + 1) = omega arith in
    let both = may_inside classes depth kinds start line rest is may in
    let more : IsRound classes depth (kinds_behind (mark_of line) kinds) start rest = ih (kinds_behind (mark_of line) kinds) inner both.1 in
    record {
      can = subst (λ n. CanPlay classes depth kinds (take n (line ∷ rest))) (sym at) (both.0, more.can);
      back = subst (λ n. kinds_after kinds (take n (line ∷ rest)) ≡ start) (sym at) more.back;
      others = subst (λ n. AllMayPlay classes depth start None (drop (n + 1) (line ∷ rest))) (sym at) (subst (λ n. AllMayPlay classes depth start None (drop n (line ∷ rest))) (sym two) more.others);
    }

pub is_round : (classes depth : ℕ) (start : List EventKind) (lines : List BlockLine) (kinds : List EventKind) → place lines < length lines → AllMayPlay classes depth kinds (Some start) lines → IsRound classes depth kinds start lines
is_round classes depth start [] kinds less may = absurd (omega (arith, less))
is_round classes depth start (line ∷ rest) kinds less may = round_by classes depth kinds start line rest (is_done line) refl (λ k. is_round classes depth start rest k) less may

can_by : (classes depth : ℕ) (kinds start : List EventKind) (line : BlockLine) (rest : List BlockLine) (done : Bool) → is_done line ≡ done → ((k : List EventKind) → length rest ≤ place rest → AllMayPlay classes depth k (Some start) rest → CanPlay classes depth k rest) → length (line ∷ rest) ≤ place (line ∷ rest) → AllMayPlay classes depth kinds (Some start) (line ∷ rest) → CanPlay classes depth kinds (line ∷ rest)
can_by classes depth kinds start line rest true is ih most may =
    let at : place (line ∷ rest) ≡ 0 = ap (λ (l : BlockLine). place (l ∷ rest)) (ends line is) in
    absurd (omega (arith, at, most))
can_by classes depth kinds start line rest false is ih most may =
    let one_more : 1 + place rest ≡ suc (place rest) = omega arith in
    let at : place (line ∷ rest) ≡ suc (place rest) = place_inside line rest is ∙ one_more in
    let inner : length rest ≤ place rest = omega (arith, at, most) in
    let both = may_inside classes depth kinds start line rest is may in
    (both.0, ih (kinds_behind (mark_of line) kinds) inner both.1)

pub can_open : (classes depth : ℕ) (start : List EventKind) (lines : List BlockLine) (kinds : List EventKind) → length lines ≤ place lines → AllMayPlay classes depth kinds (Some start) lines → CanPlay classes depth kinds lines
can_open classes depth start [] kinds most may = tt
can_open classes depth start (line ∷ rest) kinds most may = can_by classes depth kinds start line rest (is_done line) refl (λ k. can_open classes depth start rest k) most may

-- how many lines and actions, what they cost, and the kinds behind them
pub actions_then : (xs ys : List BlockLine) → actions_on (xs ++ ys) ≡ actions_on xs + actions_on ys
actions_then [] ys = omega arith
actions_then (x ∷ xs) ys = ap (λ n. actions_of (errand_on x) + n) (actions_then xs ys) ∙ omega arith

pub cost_then : (xs ys : List BlockLine) → cost_on (xs ++ ys) ≡ cost_on xs + cost_on ys
cost_then [] ys = omega arith
cost_then (x ∷ xs) ys = ap (λ n. cost_of (errand_on x) + n) (cost_then xs ys) ∙ omega arith

pub kinds_then : (kinds : List EventKind) (xs ys : List BlockLine) → kinds_after kinds (xs ++ ys) ≡ kinds_after (kinds_after kinds xs) ys
kinds_then kinds [] ys = refl
kinds_then kinds (x ∷ xs) ys = kinds_then (kinds_behind (mark_of x) kinds) xs ys

length_by : (times : ℕ) (lines : List BlockLine) → length (copies times lines) ≡ times * length lines
unfolding copies
length_by zero lines = omega arith
length_by (suc times) lines = length-append lines (copies times lines) ∙ (ap (λ n. length lines + n) (length_by times lines) ∙ omega arith)

pub length_copies : (times : ℕ) (lines : List BlockLine) → length (copies times lines) ≡ times * length lines
length_copies = length_by

pub cost_copies : (times : ℕ) (lines : List BlockLine) → cost_on (copies times lines) ≡ times * cost_on lines
unfolding copies
cost_copies zero lines = omega arith
cost_copies (suc times) lines = cost_then lines (copies times lines) ∙ (ap (λ n. cost_on lines + n) (cost_copies times lines) ∙ omega arith)

pub actions_copies : (times : ℕ) (lines : List BlockLine) → actions_on (copies times lines) ≡ times * actions_on lines
unfolding copies
actions_copies zero lines = omega arith
actions_copies (suc times) lines = actions_then lines (copies times lines) ∙ (ap (λ n. actions_on lines + n) (actions_copies times lines) ∙ omega arith)

pub kinds_copies : (kinds : List EventKind) (times : ℕ) (lines : List BlockLine) → kinds_after kinds lines ≡ kinds → kinds_after kinds (copies times lines) ≡ kinds
unfolding copies
kinds_copies kinds zero lines back = refl
kinds_copies kinds (suc times) lines back = kinds_then kinds lines (copies times lines) ∙ (ap (λ (k : List EventKind). kinds_after k (copies times lines)) back ∙ kinds_copies kinds times lines back)

-- all that a repeat with an end at this place tells
pub record Rounds (classes depth : ℕ) (kinds : List EventKind) (times end : ℕ) (lines : List BlockLine) : Type 0 where
  pub count : end + 1 ≤ length lines
  pub can : CanPlay classes depth kinds (take end lines)
  pub back : kinds_after kinds (take end lines) ≡ kinds
  pub others : AllMayPlay classes depth kinds None (drop (end + 1) lines)
  pub written : repeated times lines ≡ copies times (take end lines) ++ written_out (drop (end + 1) lines)
  pub kinds_behind_it : kinds_after kinds (repeated times lines) ≡ kinds_after kinds (written_out (drop (end + 1) lines))

pub rounds_at : (classes depth : ℕ) (kinds : List EventKind) (times end : ℕ) (lines : List BlockLine) → position is_done lines ≡ Some end → AllMayPlay classes depth kinds (Some kinds) lines → Rounds classes depth kinds times end lines
rounds_at classes depth kinds times end lines is may =
    let at = found lines end is in
    let body : List BlockLine = take (place lines) lines in
    let others : List BlockLine = written_out (drop (place lines + 1) lines) in
    let round : IsRound classes depth kinds kinds lines = is_round classes depth kinds lines kinds at.0 may in
    let written : repeated times lines ≡ copies times body ++ others = written_round times lines at.0 in
    subst (λ n. Rounds classes depth kinds times n lines) (sym at.1)
    (record {
      count = omega (arith, at.0);
      can = round.can;
      back = round.back;
      others = round.others;
      written = written;
      kinds_behind_it = ap (kinds_after kinds) written ∙ (kinds_then kinds (copies times body) others ∙ ap (λ (k : List EventKind). kinds_after k others) (kinds_copies kinds times body round.back));
    })

-- behind all lines there is nothing
pub nothing_behind : (lines : List BlockLine) → written_out (drop (length lines) lines) ≡ []
nothing_behind lines = ap written_out (drop_all (length lines) lines (omega arith)) ∙ written_none

may_none : (classes depth : ℕ) (kinds : List EventKind) → AllMayPlay classes depth kinds None []
unfolding AllMayPlay
may_none classes depth kinds = tt

pub may_behind : (classes depth : ℕ) (kinds : List EventKind) (lines : List BlockLine) → AllMayPlay classes depth kinds None (drop (length lines) lines)
may_behind classes depth kinds lines = subst (λ (l : List BlockLine). AllMayPlay classes depth kinds None l) (sym (drop_all (length lines) lines (omega arith))) (may_none classes depth kinds)

behind_one : (n : ℕ) (line : BlockLine) (rest : List BlockLine) → drop (1 + n) (line ∷ rest) ≡ drop n rest
behind_one n line rest = let e : 1 + n ≡ suc n = omega arith in ap (λ m. drop m (line ∷ rest)) e

-- all that a repeat at the front tells
pub record Begun (classes depth : ℕ) (kinds : List EventKind) (times : ℕ) (lines rest : List BlockLine) : Type 0 where
  pub may : AllMayPlay classes depth kinds (Some kinds) rest
  pub written : written_out lines ≡ repeated times rest
  pub behind : (n : ℕ) → drop (1 + n) lines ≡ drop n rest
  pub count : (n : ℕ) → n ≤ length rest → 1 + n ≤ length lines

pub begun : (classes depth : ℕ) (kinds : List EventKind) (times : ℕ) (lines : List BlockLine) (line : BlockLine) (rest : List BlockLine) → lines ≡ line ∷ rest → repeats_of line ≡ Some times → AllMayPlay classes depth kinds None lines → Begun classes depth kinds times lines rest
begun classes depth kinds times lines line rest are is may =
    let e : lines ≡ said.Repeat times ∷ rest = are ∙ ap (λ (l : BlockLine). l ∷ rest) (begins line times is) in
    let longer : length lines ≡ length rest + 1 = ap length e ∙ omega arith in
    record {
      may = may_begin classes depth kinds times rest (subst (λ (l : List BlockLine). AllMayPlay classes depth kinds None l) e may);
      written = ap written_out e ∙ written_begin times rest;
      behind = λ n. ap (λ (l : List BlockLine). drop (1 + n) l) e ∙ behind_one n (said.Repeat times) rest;
      count = λ n most. omega (arith, longer, most);
    }

-- all that another line at the front tells
pub record Played (classes depth : ℕ) (kinds : List EventKind) (lines rest : List BlockLine) : Type 0 where
  pub can : CanPlay classes depth kinds (take 1 lines)
  pub others : AllMayPlay classes depth (kinds_after kinds (take 1 lines)) None (drop 1 lines)
  pub written : written_out lines ≡ take 1 lines ++ written_out (drop 1 lines)
  pub count : 1 ≤ length lines

pub played : (classes depth : ℕ) (kinds : List EventKind) (lines : List BlockLine) (line : BlockLine) (rest : List BlockLine) → lines ≡ line ∷ rest → repeats_of line ≡ None → AllMayPlay classes depth kinds None lines → Played classes depth kinds lines rest
played classes depth kinds lines line rest are is may =
    let both = may_plain classes depth kinds line rest is (subst (λ (l : List BlockLine). AllMayPlay classes depth kinds None l) are may) in
    let written : written_out (line ∷ rest) ≡ line ∷ written_out rest = written_plain line rest is in
    subst (λ (l : List BlockLine). Played classes depth kinds l rest) (sym are)
    (record {
      can = (both.0, tt);
      others = both.1;
      written = written;
      count = omega arith;
    })

-- from a place on
pub to_the_end : (at : ℕ) (lines : List BlockLine) → take (length lines - at) (drop at lines) ≡ drop at lines
to_the_end at lines = grind (arith, common_steps)

pub drop_both : (at n : ℕ) (lines : List BlockLine) → drop n (drop at lines) ≡ drop (at + n) lines
drop_both at n lines = grind (arith, common_steps)

pub at_the_end : (at : ℕ) (lines : List BlockLine) → length lines ≤ at → written_out (drop at lines) ≡ []
at_the_end at lines most = ap written_out (drop_all at lines most) ∙ written_none
