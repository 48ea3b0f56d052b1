-- Conservation.
use Rattle.std.proofs.Common.{◌≡◌, ℕ, zero, suc, ◌+◌, ◌*◌, ◌%◌, ◌^◌, ◌<◌, ◌≤◌, ◌==◌, ◌&&◌, Bool, true, false, cond, List, [], ◌∷◌, ◌++◌, length, Option, Some, None, count_by, filter, fold, refl, sym, ap, ◌∙◌, subst, arith}
use Rattle.std.specs.Prelude.{nat_le, nat_lt}
use Rattle.std.proofs.lemmas.Bool.{and_parts, le-leb}
use Rattle.pfs_lemmas.proofs.Options.{some_same}
use Rattle.pfs_conservation.specs.RowChains.{Change, Added, Taken, Given, Sums, with_event, content, found_by, Below}
use Rattle.pfs_conservation.specs.Removals.{counts_event, removal, first_from, Ascends}
use Rattle.pfs_conservation.specs.Journeys.{first_from_one, leaves_after, Journey, left, came_from, came}
use Rattle.pfs_conservation.specs.RowMoves.{Move, goes_to, touches, moved, AreMoved}
use Rattle.pfs_conservation.specs.Ways.{Step, before_by, leave_by, Leads}
use Rattle.pfs_conservation.specs.Conservation.{first_moving, counts_after, AtMost, Follows, Nested, NestedFrom, last_of, last_moving, waits, Shows, Journals, IsEvent, AreKept, IsSummary, counts_in, IsConserved, IsShownOrTaken, IsDiscarded, takes_of}
use Rattle.pfs_conservation.specs.ConservedSums.{stats, Conserved, Discarded}
use Rattle.pfs_stat.specs.declared.Stat.{Stat}
use Rattle.pfs_stat.specs.declared.Measure.{Measure}
use Rattle.pfs_stat.specs.Stat.{Fits, zero_of, stat_of, MergeIsMonoid}
use Rattle.pfs_conservation.proofs.MergeTotals.{Merges, times, total, settled_total, total_none, total_counted, before_settled, bit_yes, bit_no}
use Rattle.pfs_conservation.proofs.EventSums.{token, content_natural, natural}
use Rattle.pfs_conservation.proofs.ChainEvents.{stays, leaves, count_cons}
use Rattle.pfs_conservation.proofs.Walks.{Leaves, FoundSome, leaves_none, leaves_at, leaves_at_most, leaves_step, stands}
use Rattle.pfs_conservation.proofs.RowSums.{sum_of, shown_sum, together, rows_total, same_in}
use Rattle.pfs_conservation.proofs.DiscardTakes.{from_takes, removal_takes, leaves_once}
use Rattle.pfs_conservation.proofs.ChainOrder.{follows_ascends, follows_below}
use Rattle.pfs_conservation.proofs.Journeys.{journey, home_leaves, way_leaves}

-- how many events a row counts
pub record Sized {A : Type 0} (s : Sums A) (size : A → ℕ) : Type 0 where
  pub nothing : size s.nothing ≡ 0
  pub merge : (a b : A) → size (s.merge a b) ≡ (size a + size b) % 2 ^ 64
  pub event : (e : ℕ) → size (s.of_event e) ≡ 1

module _ {A : Type 0} (s : Sums A) (size : A → ℕ) (z : Sized s size) where
  times_size : (n e : ℕ) → n ≤ 1 → size (times s n (s.of_event e)) ≡ n
  times_size zero e h = z.nothing
  times_size (suc zero) e h = z.merge (s.of_event e) s.nothing ∙ omega (arith, z.event e, z.nothing)
  times_size (suc (suc n)) e h = absurd (omega arith)

  -- few events, each at most once: their total counts how many they are
  pub total_size : (w : ℕ → ℕ) (es : List ℕ) → length es < 2 ^ 64 → ((e : ℕ) → 1 ≤ count_by (λ y. e == y) es → w e ≤ 1) → (size (total s w es) ≡ sum_of w es) × (sum_of w es ≤ length es)
  total_size w [] few most = (z.nothing, omega arith)
  total_size w (e ∷ es) few most =
      let rest : (size (total s w es) ≡ sum_of w es) × (sum_of w es ≤ length es) = total_size w es (omega arith) (λ x some. most x (omega (arith, count_cons (λ y. x == y) e es))) in
      let one : w e ≤ 1 = most e (omega (arith, count_cons (λ y. e == y) e es, bit_yes (e == e) (self e))) in
      (z.merge (times s (w e) (s.of_event e)) (total s w es) ∙ small (size (times s (w e) (s.of_event e))) (size (total s w es)) (w e) (sum_of w es) (times_size (w e) e one) rest.0 (omega (arith, rest.1)), omega (arith, rest.1))
    where
      self : (a : ℕ) → (a == a) ≡ true
      self a = grind arith

      small : (a b c d : ℕ) → a ≡ c → b ≡ d → c + d < 2 ^ 64 → (a + b) % 2 ^ 64 ≡ c + d
      small a b c d p q l = omega (arith, p, q)

sum_has : (w : ℕ → ℕ) (e : ℕ) (es : List ℕ) → 1 ≤ count_by (λ y. e == y) es → w e ≤ sum_of w es
sum_has w e [] h = absurd (omega arith)
sum_has w e (x ∷ es) h = at (e == x) refl (sum_has w e es)
  where
    same : (a b : ℕ) → (a == b) ≡ true → a ≡ b
    same a b h = grind (arith, h)

    at : (b : Bool) → (e == x) ≡ b → (1 ≤ count_by (λ y. e == y) es → w e ≤ sum_of w es) → w e ≤ w x + sum_of w es
    at true q ih = omega (arith, ap w (same e x q))
    at false q ih = let rest : w e ≤ sum_of w es = ih (omega (arith, count_cons (λ y. e == y) x es, bit_no (e == x) q)) in omega arith

-- the first action from a number on, by the moves
from_moved : (n : ℕ) (cs : List Change) → first_from n (moved cs) ≡ first_from n cs
from_moved n [] = refl
from_moved n (Added es ∷ cs) = from_moved n cs
from_moved n (Taken k ∷ cs) = ap (λ x. cond (nat_le n k) (Some k) x) (from_moved n cs)
from_moved n (Given k row ∷ cs) = from_moved n cs

from_touches : (kept : ℕ → ℕ → Bool) (n row : ℕ) (ms : List Move) → first_from n (touches kept row ms) ≡ first_moving n row ms
from_touches kept n row [] = refl
from_touches kept n row (m ∷ ms) = at (m.from == row) (goes_to row m.to && kept m.action m.from) (from_touches kept n row ms)
  where
    at : (b c : Bool) → first_from n (touches kept row ms) ≡ first_moving n row ms
        → first_from n (cond {A = List Change} b (Taken m.action ∷ []) (cond c (Given m.action m.from ∷ []) []) ++ touches kept row ms) ≡ cond (b && nat_le n m.action) (Some m.action) (first_moving n row ms)
    at true c ih = ap (λ x. cond (nat_le n m.action) (Some m.action) x) ih
    at false true ih = ih
    at false false ih = ih

pub moving_from : (kept : ℕ → ℕ → Bool) (chains : ℕ → List Change) (moves : List Move) → AreMoved chains kept moves → (n row : ℕ) → first_from n (chains row) ≡ first_moving n row moves
moving_from kept chains moves are n row = sym (from_moved n (chains row)) ∙ (ap (first_from n) (are.is row) ∙ from_touches kept n row moves)

-- a later start finds the same action, if that isn't before it
pub moving_least : (n row : ℕ) (ms : List Move) (m : ℕ) → first_moving n row ms ≡ Some m → n ≤ m
moving_least n row [] m h = absurd (cc)
moving_least n row (move ∷ ms) m h = at ((move.from == row) && nat_le n move.action) refl (moving_least n row ms m)
  where
    le : (a b : ℕ) → nat_le a b ≡ true → a ≤ b
    le a b q = grind (arith, q)

    at : (b : Bool) → ((move.from == row) && nat_le n move.action) ≡ b → (first_moving n row ms ≡ Some m → n ≤ m) → n ≤ m
    at true q ih = omega (arith, le n move.action (and_parts (move.from == row) (nat_le n move.action) q).1, some_same move.action m (sym (ap (λ (b : Bool). cond b (Some move.action) (first_moving n row ms)) q) ∙ h))
    at false q ih = ih (sym (ap (λ (b : Bool). cond b (Some move.action) (first_moving n row ms)) q) ∙ h)

low_le : (n k a : ℕ) → n ≤ k → nat_le n a ≡ false → nat_le k a ≡ false
low_le n k a l q = grind (arith, q)

moving_none : (n k row : ℕ) (ms : List Move) → n ≤ k → first_moving n row ms ≡ None → first_moving k row ms ≡ None
moving_none n k row [] l h = refl
moving_none n k row (move ∷ ms) l h = at (move.from == row) (nat_le n move.action) refl refl (moving_none n k row ms l)
  where
    at : (b c : Bool) → (move.from == row) ≡ b → nat_le n move.action ≡ c → (first_moving n row ms ≡ None → first_moving k row ms ≡ None)
        → cond ((move.from == row) && nat_le k move.action) (Some move.action) (first_moving k row ms) ≡ None
    at false c q r ih = rw q (ih (rw q at h))
    at true true q r ih = absurd (let bad : Some move.action ≡ None = rw (q, r) at h in cc)
    at true false q r ih = rw (q, low_le n k move.action l r) (ih (rw (q, r) at h))

moving_more : (n k row : ℕ) (ms : List Move) (t : ℕ) → n ≤ k → k ≤ t → first_moving n row ms ≡ Some t → first_moving k row ms ≡ Some t
moving_more n k row [] t l g h = h
moving_more n k row (move ∷ ms) t l g h = at (move.from == row) (nat_le n move.action) refl refl (moving_more n k row ms t l g)
  where
    at : (b c : Bool) → (move.from == row) ≡ b → nat_le n move.action ≡ c → (first_moving n row ms ≡ Some t → first_moving k row ms ≡ Some t)
        → cond ((move.from == row) && nat_le k move.action) (Some move.action) (first_moving k row ms) ≡ Some t
    at false c q r ih = rw q (ih (rw q at h))
    at true true q r ih =
        let here : Some move.action ≡ Some t = rw (q, r) at h in
        rw (q, le-leb k move.action (omega (arith, some_same move.action t here))) here
    at true false q r ih = rw (q, low_le n k move.action l r) (ih (rw (q, r) at h))

module _ (kept : ℕ → ℕ → Bool) (chains : ℕ → List Change) (moves : List Move) (are : AreMoved chains kept moves) (event home : ℕ) (steps : List Step) (leads : Leads home steps) where
  leave : ℕ → Option ℕ
  leave = leave_by chains event home steps

  next_leave : (from row : ℕ) → before_by steps row ≡ Some from → (row == home) ≡ false → leave row ≡ first_from_one (leave from) (chains row)
  unfolding leave
  next_leave from row come away = way_leaves chains event home steps leads row away ∙ ap (λ b. leaves_after b leave (chains row)) come

  -- an event that stays at home is at no other row of its path
  waits_path : (from : ℕ) (rows : List ℕ) → Follows (before_by steps) home from rows → leave from ≡ None → leave (last_of from rows) ≡ None
  waits_path from [] f h = h
  waits_path from (row ∷ rows) f h = waits_path row rows f.2 (next_leave from row f.0 f.1 ∙ ap (λ t. first_from_one t (chains row)) h)

  -- an event leaves each row of its path at the first action from its removal on that moves the row
  pub moved_next : (least from row : ℕ) (t : Option ℕ) → first_moving least from moves ≡ t → ((action : ℕ) → first_moving least row moves ≡ Some action → AtMost t action) → first_from_one t (chains row) ≡ first_moving least row moves
  moved_next least from row t q nested = at t (first_moving least row moves) q refl nested
    where
      at : (t u : Option ℕ) → first_moving least from moves ≡ t → first_moving least row moves ≡ u → ((action : ℕ) → first_moving least row moves ≡ Some action → AtMost t action) → first_from_one t (chains row) ≡ first_moving least row moves
      at None None q r n = sym r
      at None (Some u) q r n = absurd (n u r)
      at (Some m) None q r n = moving_from kept chains moves are m row ∙ (moving_none least m row moves (moving_least least from moves m q) r ∙ sym r)
      at (Some m) (Some u) q r n = moving_from kept chains moves are m row ∙ (moving_more least m row moves u (moving_least least from moves m q) (n u r) r ∙ sym r)

  moved_path : (least from : ℕ) (rows : List ℕ) → Follows (before_by steps) home from rows → Nested moves least from rows → leave from ≡ first_moving least from moves → leave (last_of from rows) ≡ first_moving least (last_of from rows) moves
  moved_path least from [] f n h = h
  moved_path least from (row ∷ rows) f n h =
      moved_path least row rows f.2 n.1 (next_leave from row f.0 f.1 ∙ (ap (λ t. first_from_one t (chains row)) h ∙ moved_next least from row (first_moving least from moves) refl n.0))

  last_leave : (least : ℕ) (rows : List ℕ) → Follows (before_by steps) home home rows → NestedFrom moves least rows → removal event (chains home) ≡ Some least → leave (last_of home rows) ≡ last_moving least rows moves
  unfolding leave
  last_leave least [] f n h = home_leaves chains event home steps leads ∙ h
  last_leave least (row ∷ rows) f n h =
      moved_path least row rows f.2 n (next_leave home row f.0 f.1 ∙ (ap (λ t. first_from_one t (chains row)) (home_leaves chains event home steps leads ∙ h) ∙ moving_from kept chains moves are least row))

  stays_waits : (t : Option ℕ) → stays t ≡ cond (waits t) 1 0
  stays_waits None = refl
  stays_waits (Some n) = refl

  -- an event stands on its path exactly where it counts
  pub path_counts : (covers path : List ℕ) → Follows (before_by steps) home home path
      → ((least : ℕ) → removal event (chains home) ≡ Some least → NestedFrom moves least path)
      → ((least : ℕ) → removal event (chains home) ≡ Some least → counts_after (Some least) covers ≡ waits (last_moving least path moves))
      → stays (leave_by chains event home steps (last_of home path)) ≡ cond (counts_after (removal event (chains home)) covers) 1 0
  unfolding leave
  path_counts covers path f nested covered = at (removal event (chains home)) refl
    where
      at : (t : Option ℕ) → removal event (chains home) ≡ t → stays (leave_by chains event home steps (last_of home path)) ≡ cond (counts_after (removal event (chains home)) covers) 1 0
      at None q = rw q (ap stays (waits_path home path f (home_leaves chains event home steps leads ∙ q)))
      at (Some n) q = rw q (ap stays (last_leave n path f (nested n q) q) ∙ (stays_waits (last_moving n path moves) ∙ ap (λ (b : Bool). cond {A = ℕ} b 1 0) (sym (covered n q))))

sum_alike : (f g : ℕ → ℕ) (rows : List ℕ) → ((row : ℕ) → f row ≡ g row) → sum_of f rows ≡ sum_of g rows
sum_alike f g [] h = refl
sum_alike f g (row ∷ rows) h = omega (arith, h row, sum_alike f g rows h)

left_bit : (t : Option ℕ) → left t ≤ 1
left_bit None = omega arith
left_bit (Some n) = omega arith

came_bit : (home : ℕ) (before leave : ℕ → Option ℕ) (row : ℕ) → came home before leave row ≤ 1
came_bit home before leave row = at (row == home) (before row)
  where
    at : (b : Bool) (o : Option ℕ) → cond b 1 (came_from o leave) ≤ 1
    at true o = omega arith
    at false None = omega arith
    at false (Some from) = left_bit (leave from)

waiting : (t : Option ℕ) (n : ℕ) → 1 ≤ n * stays t → (1 ≤ n) × (t ≡ None)
waiting None n h = (omega arith, refl)
waiting (Some k) n h = absurd (omega arith)

both_bits : (leads counts : Bool) (n : ℕ) → (leads ≡ true → n ≡ cond counts 1 0) → cond leads n 0 ≡ cond (leads && counts) 1 0
both_bits true counts n h = h refl
both_bits false counts n h = refl

sum_zero : (ts : List ℕ) → sum_of (λ t. leaves t None) ts ≡ 0
sum_zero [] = refl
sum_zero (t ∷ ts) = omega (arith, sum_zero ts)

filter_all : (es : List ℕ) → filter (λ e. true) es ≡ es
filter_all [] = refl
filter_all (e ∷ es) = ap (λ xs. e ∷ xs) (filter_all es)

module _ {A : Type 0} (s : Sums A) (m : Merges s) (size : A → ℕ) (z : Sized s size) (j : Journals A) (k : AreKept s size j) where
  kept : ℕ → ℕ → Bool
  kept action row = nat_lt 0 (size (j.found action row))

  is_some : ℕ → ℕ → Type 0
  is_some action row = nat_lt 0 (size (j.found action row)) ≡ true

  rises : (row : ℕ) → Below j.level (j.level row) (j.chains row)
  rises row = follows_below j.level (λ action r. nat_lt 0 (size (j.found action r))) row j.moves (j.chains row) k.order (k.moved.is row)

  ascends : (row : ℕ) → Ascends 0 (j.chains row)
  ascends row = follows_ascends j.level (λ action r. nat_lt 0 (size (j.found action r))) row j.moves (j.chains row) k.order (k.moved.is row)

  trip : (e : ℕ) → IsEvent j e → Journey j.chains j.level (λ action row. nat_lt 0 (size (j.found action row)) ≡ true) e (j.home e) (before_by (j.steps e)) (leave_by j.chains e (j.home e) (j.steps e))
  trip e is = journey j.chains (λ action r. nat_lt 0 (size (j.found action r))) j.level j.moves k.moved k.order e (j.home e) (j.steps e) (k.placed e is)

  -- all events at once: what each take found of each
  AllLeave : ℕ → Type 0
  AllLeave depth = (e : ℕ) → (is : IsEvent j e) → Leaves e j.chains j.level rises ascends (λ action row. nat_lt 0 (size (j.found action row)) ≡ true) (j.home e) (before_by (j.steps e)) (leave_by j.chains e (j.home e) (j.steps e)) (trip e is) depth

  all_some : (depth : ℕ) → AllLeave depth → (e : ℕ) → (is : IsEvent j e) → FoundSome e j.chains j.level rises ascends (λ action row. nat_lt 0 (size (j.found action row)) ≡ true) (j.home e) (before_by (j.steps e)) (leave_by j.chains e (j.home e) (j.steps e)) (trip e is) depth
  unfolding AllLeave
  all_some depth all e is action row low one =
      let w : ℕ → ℕ = λ x. found_by (token x) j.chains depth action row in
      let most : (x : ℕ) → IsEvent j x → found_by (token x) j.chains depth action row ≤ 1 =
      λ x isx. leaves_at_most x j.chains j.level rises ascends (λ a r. nat_lt 0 (size (j.found a r)) ≡ true) (j.home x) (before_by (j.steps x)) (leave_by j.chains x (j.home x) (j.steps x)) (trip x isx) depth (all x isx) action row low in
      let t : j.found action row ≡ total s w j.events = natural s m j.events j.chains j.level rises k.once j.found k.finds depth action row low in
      let sized : (size (total s w j.events) ≡ sum_of w j.events) × (sum_of w j.events ≤ length j.events) = total_size s size z w j.events k.few most in
      positive (size (j.found action row)) (omega (arith, ap size t, sized.0, sum_has w e j.events is))
    where
      positive : (n : ℕ) → 1 ≤ n → nat_lt 0 n ≡ true
      positive n h = grind (arith, h)

  all_leave : (depth : ℕ) → AllLeave depth
  unfolding AllLeave
  all_leave zero e is = leaves_none e j.chains j.level rises ascends (λ action row. nat_lt 0 (size (j.found action row)) ≡ true) (j.home e) (before_by (j.steps e)) (leave_by j.chains e (j.home e) (j.steps e)) (trip e is)
  all_leave (suc depth) e is = leaves_step e j.chains j.level rises ascends (λ action row. nat_lt 0 (size (j.found action row)) ≡ true) (j.home e) (before_by (j.steps e)) (leave_by j.chains e (j.home e) (j.steps e)) (trip e is) depth (all_some depth (all_leave depth) e is) (all_leave depth e is)

  -- what the rows of a summary show of one event
  shown_standing : (shown covers path : List ℕ) (leads : Bool) (e : ℕ) → IsEvent j e → Shows j.chains j.moves e (j.home e) (j.steps e) shown covers path leads
      → sum_of (λ row. content (token e) (found_by (token e) j.chains j.height) (j.chains row)) shown ≡ cond leads (stays (leave_by j.chains e (j.home e) (j.steps e) (last_of (j.home e) path))) 0
  unfolding AllLeave
  shown_standing shown covers path leads e is shows =
      sum_alike (λ row. content (token e) (found_by (token e) j.chains j.height) (j.chains row)) (λ row. came (j.home e) (before_by (j.steps e)) (leave_by j.chains e (j.home e) (j.steps e)) row * stays (leave_by j.chains e (j.home e) (j.steps e) row)) shown
      (λ row. stands e j.chains j.level rises ascends (λ a r. nat_lt 0 (size (j.found a r)) ≡ true) (j.home e) (before_by (j.steps e)) (leave_by j.chains e (j.home e) (j.steps e)) (trip e is) j.height row (k.flat row) (all_some j.height (all_leave j.height) e is) (all_leave j.height e is))
      ∙ shown_sum j.chains j.level (λ a r. nat_lt 0 (size (j.found a r)) ≡ true) e (j.home e) (before_by (j.steps e)) (leave_by j.chains e (j.home e) (j.steps e)) (trip e is) shown path leads shows.follows
      (λ row some. once_shown row (waiting (leave_by j.chains e (j.home e) (j.steps e) row) (came (j.home e) (before_by (j.steps e)) (leave_by j.chains e (j.home e) (j.steps e)) row) some))
    where
      once_shown : (row : ℕ) → (1 ≤ came (j.home e) (before_by (j.steps e)) (leave_by j.chains e (j.home e) (j.steps e)) row) × (leave_by j.chains e (j.home e) (j.steps e) row ≡ None)
          → count_by (λ r. r == row) shown ≡ cond leads (count_by (λ r. r == row) (j.home e ∷ path)) 0
      once_shown row p = shows.once row (omega (arith, p.0, came_bit (j.home e) (before_by (j.steps e)) (leave_by j.chains e (j.home e) (j.steps e)) row)) p.1

  -- conservation
  pub conserved : (shown covers : List ℕ) (path : ℕ → List ℕ) (leads : ℕ → Bool) → IsSummary j shown covers path leads → IsConserved s j shown covers leads
  conserved shown covers path leads summary = together s m j.events j.chains j.level rises k.once j.found k.finds j.height k.flat shown (counts_in j covers leads) each
    where
      each : (e : ℕ) → IsEvent j e → sum_of (λ row. content (token e) (found_by (token e) j.chains j.height) (j.chains row)) shown ≡ cond (leads e && counts_after (removal e (j.chains (j.home e))) covers) 1 0
      each e is =
          shown_standing shown covers (path e) (leads e) e is (summary.shows e is)
          ∙ both_bits (leads e) (counts_after (removal e (j.chains (j.home e))) covers) (stays (leave_by j.chains e (j.home e) (j.steps e) (last_of (j.home e) (path e))))
          (λ lead. path_counts (λ action r. nat_lt 0 (size (j.found action r))) j.chains j.moves k.moved e (j.home e) (j.steps e) (k.placed e is).leads covers (path e) (summary.shows e is).follows (summary.shows e is).nested ((summary.shows e is).covered lead))

  -- an event that leaves a row is found by one of its takes
  leaves_taken : (e : ℕ) → (is : IsEvent j e) → (row t : ℕ) → leave_by j.chains e (j.home e) (j.steps e) row ≡ Some t → 1 ≤ count_by (λ c. c == t) (takes_of (j.chains row))
  leaves_taken e is row t h = at (row == j.home e) refl
    where
      same : (a b : ℕ) → (a == b) ≡ true → a ≡ b
      same a b q = grind (arith, q)

      old : ℕ → Option ℕ
      old = leave_by j.chains e (j.home e) (j.steps e)

      clash : {X : Type 0} (n : ℕ) → ◌≡◌ {A = Option ℕ} None (Some n) → X
      clash n q = absurd (cc)

      came_by : (b : Option ℕ) → leaves_after b (leave_by j.chains e (j.home e) (j.steps e)) (j.chains row) ≡ Some t → 1 ≤ count_by (λ c. c == t) (takes_of (j.chains row))
      came_by None q = clash t q
      came_by (Some from) q = first (leave_by j.chains e (j.home e) (j.steps e) from) q
        where
          first : (o : Option ℕ) → first_from_one o (j.chains row) ≡ Some t → 1 ≤ count_by (λ c. c == t) (takes_of (j.chains row))
          first None r = clash t r
          first (Some n) r = from_takes n t (j.chains row) r

      at : (b : Bool) → (row == j.home e) ≡ b → 1 ≤ count_by (λ c. c == t) (takes_of (j.chains row))
      at true q = subst (λ r. 1 ≤ count_by (λ c. c == t) (takes_of (j.chains r))) (sym (same row (j.home e) q))
          (removal_takes (counts_event e) t (j.chains (j.home e)) (sym (home_leaves j.chains e (j.home e) (j.steps e) (k.placed e is).leads) ∙ (ap (leave_by j.chains e (j.home e) (j.steps e)) (sym (same row (j.home e) q)) ∙ h)))
      at false q = came_by (before_by (j.steps e) row) (sym (way_leaves j.chains e (j.home e) (j.steps e) (k.placed e is).leads row q) ∙ h)

  -- the events that lead to a summary are shown or were found by one take of the row that their ways end in, where the
  -- ways of others never come there
  pub shown_or_taken : (shown covers : List ℕ) (path : ℕ → List ℕ) (leads : ℕ → Bool) (global : ℕ) → IsSummary j shown covers path leads
      → ((e : ℕ) → IsEvent j e → leads e ≡ true → last_of (j.home e) (path e) ≡ global)
      → ((e : ℕ) → IsEvent j e → leads e ≡ false → leave_by j.chains e (j.home e) (j.steps e) global ≡ None)
      → IsShownOrTaken s j shown global leads
  unfolding AllLeave
  shown_or_taken shown covers path leads global summary ends away =
      ap (λ x. fold (λ sum t. s.merge sum (j.found t global)) (fold (λ sum row. s.merge sum (content s j.found (j.chains row))) x shown) (takes_of (j.chains global))) (sym (total_none s m j.events))
      ∙ (ap (λ x. fold (λ sum t. s.merge sum (j.found t global)) x (takes_of (j.chains global)))
      (rows_total s m j.events (λ row. content s j.found (j.chains row)) (λ e row. content (token e) (found_by (token e) j.chains j.height) (j.chains row)) shown (λ e. 0) (λ row. content_natural s m j.events j.chains j.level rises k.once j.found k.finds j.height row (k.flat row)))
      ∙ (rows_total s m j.events (λ t. j.found t global) (λ e t. found_by (token e) j.chains (suc j.height) t global) (takes_of (j.chains global)) (λ e. 0 + shown_of e)
      (λ t. natural s m j.events j.chains j.level rises k.once j.found k.finds (suc j.height) t global (omega (arith, k.flat global)))
      ∙ (same_in s m (λ e. (0 + shown_of e) + found_of e) (λ e. cond (leads e) 1 0) j.events (λ e is. omega (arith, each e is))
      ∙ sym (total_counted s m leads j.events s.nothing (record { same = m.nothing_twice })
      ∙ before_settled s m (total s (λ e. cond (leads e) 1 0) j.events) (settled_total s m (λ e. cond (leads e) 1 0) j.events)))))
    where
      shown_of : ℕ → ℕ
      shown_of e = sum_of (λ row. content (token e) (found_by (token e) j.chains j.height) (j.chains row)) shown

      found_of : ℕ → ℕ
      found_of e = sum_of (λ t. found_by (token e) j.chains (suc j.height) t global) (takes_of (j.chains global))

      each : (e : ℕ) → IsEvent j e → shown_of e + found_of e ≡ cond (leads e) 1 0
      each e is = at (leads e) refl
        where
          found_is : found_of e ≡ sum_of (λ t. leaves t (leave_by j.chains e (j.home e) (j.steps e) global)) (takes_of (j.chains global))
          found_is = sum_alike (λ t. found_by (token e) j.chains (suc j.height) t global) (λ t. leaves t (leave_by j.chains e (j.home e) (j.steps e) global)) (takes_of (j.chains global)) (λ t. leaves_at e j.chains j.level rises ascends (λ action row. nat_lt 0 (size (j.found action row)) ≡ true) (j.home e) (before_by (j.steps e)) (leave_by j.chains e (j.home e) (j.steps e)) (trip e is) (suc j.height) (all_leave (suc j.height) e is) t global (omega (arith, k.flat global)))

          shown_is : shown_of e ≡ cond (leads e) (stays (leave_by j.chains e (j.home e) (j.steps e) (last_of (j.home e) (path e)))) 0
          shown_is = shown_standing shown covers (path e) (leads e) e is (summary.shows e is)

          at : (b : Bool) → leads e ≡ b → shown_of e + found_of e ≡ cond (leads e) 1 0
          at true q =
              let here : shown_of e ≡ stays (leave_by j.chains e (j.home e) (j.steps e) global) =
              shown_is ∙ (ap (λ (b : Bool). cond b (stays (leave_by j.chains e (j.home e) (j.steps e) (last_of (j.home e) (path e)))) 0) q ∙ ap (λ r. stays (leave_by j.chains e (j.home e) (j.steps e) r)) (ends e is q)) in
              omega (arith, here, found_is, bit_yes (leads e) q, leaves_once (j.chains global) (leave_by j.chains e (j.home e) (j.steps e) global) (ascends global) (λ t h. leaves_taken e is global t h))
          at false q =
              let here : shown_of e ≡ 0 = shown_is ∙ ap (λ (b : Bool). cond b (stays (leave_by j.chains e (j.home e) (j.steps e) (last_of (j.home e) (path e)))) 0) q in
              let none : sum_of (λ t. leaves t (leave_by j.chains e (j.home e) (j.steps e) global)) (takes_of (j.chains global)) ≡ 0 =
              ap (λ (o : Option ℕ). sum_of (λ t. leaves t o) (takes_of (j.chains global))) (away e is q) ∙ sum_zero (takes_of (j.chains global)) in
              omega (arith, here, found_is, none, bit_no (leads e) q)

  -- every event is shown by the global row or was found by one take of its cell
  pub discarded : (shown covers : List ℕ) (path : ℕ → List ℕ) (global : ℕ) → IsSummary j shown covers path (λ e. true) → ((e : ℕ) → IsEvent j e → last_of (j.home e) (path e) ≡ global) → IsDiscarded s j shown global
  discarded shown covers path global summary ends =
      shown_or_taken shown covers path (λ e. true) global summary (λ e is q. ends e is) (λ e is q. absurd (differ q)) ∙ ap (λ es. fold (with_event s) s.nothing es) (filter_all j.events)
    where
      differ : true ≡ false → ⊥
      differ q = cc

zero_fits : Fits zero_of
zero_fits = record { count = omega arith; sum = omega arith; min = omega arith; max = omega arith; lock = omega arith; errors = omega arith; warnings = omega arith; affected = omega arith; sent = omega arith; examined = omega arith }

module _ (m : MergeIsMonoid) (measures : ℕ → Measure) (fits : (event : ℕ) → Fits (stat_of (measures event))) where
  pub merges : Merges (stats measures)
  merges = record {
    nothing_twice = m.unit zero_of zero_fits;
    event = λ e. m.commutes (stat_of (measures e)) zero_of ∙ m.unit (stat_of (measures e)) (fits e);
    commutes = m.commutes;
    associates = m.associates;
  }

  pub sized : Sized (stats measures) (λ (stat : Stat). stat.count)
  sized = record { nothing = refl; merge = λ a b. refl; event = λ e. refl }

pub conserved_stats : MergeIsMonoid → Conserved
conserved_stats m measures fits journals kept shown covers path leads summary =
    conserved (stats measures) (merges m measures fits) (λ stat. stat.count) (sized m measures fits) journals kept shown covers path leads summary

pub discarded_stats : MergeIsMonoid → Discarded
discarded_stats m measures fits journals kept shown covers path global summary ends =
    discarded (stats measures) (merges m measures fits) (λ stat. stat.count) (sized m measures fits) journals kept shown covers path global summary ends
