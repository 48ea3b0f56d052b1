-- What each kind of call adds to what a seat of the board has kept.
use Rattle.std.proofs.Common.{⊎_elim, inl, inr, ℕ, ◌⊎◌, ◌≡◌, ◌≢◌, ◌+◌, ◌*◌, ◌/◌, ◌%◌, ◌<◌, ◌≤◌, Bool, true, false, length, List, [], ◌∷◌, Some, None, IsSome, refl, ap, sym, ◌∙◌, subst, arith}
use Rattle.pfs_board.specs.declared.view.Change.{Change}
use Rattle.pfs_board.specs.declared.view.Entered.{Entered}
use Rattle.pfs_board.specs.declared.view.Finished.{Finished}
use Rattle.pfs_board.specs.declared.view.Sight.{Sight}
use Rattle.pfs_board.specs.declared.view.Stage.{Stage}
use Rattle.pfs_board.specs.declared.view.Stage.TheVariants.{Idle, Reading, Holding}
use Rattle.pfs_board.specs.declared.view.View.{View}
use Rattle.pfs_board.specs.Knowledge.{corner, turned, is_holding, weighed, sighted, sight_of, read_of, change_of, ended_with, freed_at, no_label, published_at, took, stake, version_held}
use Rattle.pfs_levels.specs.Calls.{Call, Adds, Frees, Leaves, Puts, Rings, Takes, Start, action_in, after_in, label_in, hand_in}
use Rattle.pfs_levels.specs.RowWords.{merged}
use Rattle.pfs_levels.specs.CallOrder.{top_in}
use Rattle.pfs_levels.specs.declared.answers.Added.TheVariants.{Counted}
use Rattle.pfs_levels.specs.declared.answers.RingPut.TheVariants.{Done}
use Rattle.pfs_stat.specs.declared.Stat.{Stat}
use Rattle.pfs_board_store.specs.ActorCalls.{OnBoard, in_hand, labels_in}
use Rattle.pfs_board_store.specs.Ties.{AreAnothers, IsTied, IsSighted, IsFinished, AreShown, WasOlder, last_found}
use Rattle.pfs_board_store.proofs.KeptCalls.{all_within, one_more, shown_more}
use Rattle.pfs_board_store.proofs.ViewCorners.{reach, here_if, away_if}

pub no_true : (b : Bool) → b ≡ false → b ≡ true → ⊥
no_true true e f = cc
no_true false e f = cc

pub tied_as : (start : Start) (more : List Call) (made made' : List Change) → made' ≡ made → IsTied start more made → IsTied start more made'
tied_as start more made made' e t = subst (IsTied start more) (sym e) t

pub shown_as : (start : Start) (more : List Call) (reads reads' : List Finished) (sights sights' : List Sight) (entered entered' : List Entered) → reads' ≡ reads → sights' ≡ sights → entered' ≡ entered → AreShown start reads sights entered more → AreShown start reads' sights' entered' more
shown_as start more reads reads' sights sights' entered entered' a b c s = rw (a, b, c) s

-- a sight and a read as they come into the lists
pub sighted_now : (start : Start) (calls : List Call) (v : View) (row first second : ℕ) → OnBoard start calls v → IsSighted start row first second (action_in calls) (after_in calls) (sight_of v row first second)
sighted_now start calls v row first second r = record { by_is = r.number_is; base_is = r.base_is; row_is = refl; first_is = refl; second_is = refl; action_is = r.action; after_is = r.after }

pub finished_now : (start : Start) (calls : List Call) (v : View) (row version : ℕ) (content : List ℕ) → OnBoard start calls v → IsFinished start row version (action_in calls) (after_in calls) (read_of v row version content)
finished_now start calls v row version content r = record { by_is = r.number_is; base_is = r.base_is; row_is = refl; version_is = refl; action_is = r.action; after_is = r.after }

pub sight_more : (start : Start) (calls : List Call) (v : View) (x : Sight) → OnBoard start calls v → AreShown start v.reads (x ∷ v.sights) v.entered calls
sight_more start calls v x r = shown_more start v.reads v.reads v.sights (x ∷ v.sights) v.entered v.entered (all_within v.reads) (one_more x v.sights) (all_within v.entered) calls r.shown

pub read_more : (start : Start) (calls : List Call) (v : View) (x : Finished) → OnBoard start calls v → AreShown start (x ∷ v.reads) v.sights v.entered calls
read_more start calls v x r = shown_more start v.reads (x ∷ v.reads) v.sights v.sights v.entered v.entered (one_more x v.reads) (all_within v.sights) (all_within v.entered) calls r.shown

-- a row was looked at, and nothing was changed or taken
pub glanced : (start : Start) (calls more : List Call) (v w : View) (row n : ℕ) (reads : List Finished) (sights : List Sight) → row < length v.rows
    → w ≡ record (turned v row (sighted Idle n)) { looks = w.looks; reads = reads; sights = sights } → in_hand (corner v row).stage ≡ None → stake w ≡ stake v → OnBoard start calls v
    → IsTied start more v.made → AreShown start reads sights v.entered more → ((r : ℕ) → last_found more r ≡ last_found calls r) → ((r : ℕ) → hand_in more r ≡ hand_in calls r)
    → ((r : ℕ) → r ≢ row → top_in more r ≡ top_in calls r) → top_in more row ≤ n / 4 → action_in more ≡ action_in calls → after_in more ≡ after_in calls → label_in more ≡ label_in calls → labels_in more ≡ labels_in calls
    → OnBoard start more w
glanced start calls more v w row n reads sights low is away stk r tied shown founds hands tops top act aft lab labs =
    reach start calls more v w row (sighted Idle n) low (ap (λ (z : View). z.rows) is) (ap (λ (z : View). z.number) is) (ap (λ (z : View). z.base) is) stk r
    (tied_as start more v.made w.made (ap (λ (z : View). z.made) is) tied)
    (shown_as start more reads w.reads sights w.sights v.entered w.entered (ap (λ (z : View). z.reads) is) (ap (λ (z : View). z.sights) is) (ap (λ (z : View). z.entered) is) shown)
    (λ h. absurd (no_true false refl h)) (λ q n. founds q) (λ some. sym away ∙ r.hand row some ∙ sym (hands row)) (λ q n. hands q) tops top
    (ap (λ (z : View). z.action) is ∙ r.action ∙ sym act) (ap (λ (z : View). z.after) is ∙ r.after ∙ sym aft) (ap (λ (z : View). z.label) is ∙ r.label ∙ sym lab) (λ h. ap (λ (z : View). z.labels) is ∙ r.labels (omega (arith, h, act)) ∙ sym labs)

-- a row came into the hand
pub taken : (start : Start) (calls : List Call) (v w : View) (row word looks : ℕ) (found : List ℕ) → 0 < row → row < length v.rows → w ≡ record (took v row word found) { looks = looks } → (corner v row).seen ≤ word / 4 → stake w ≡ stake v
    → in_hand (corner v row).stage ≡ None → OnBoard start calls v → OnBoard start (Takes row (word / 4) found ∷ calls) w
taken start calls v w row word looks found some low is a stk away r = let k : ℕ = word / 4 in let more : List Call = Takes row k found ∷ calls in
    reach start calls more v w row (sighted (Holding k found []) (4 * k + 1)) low (ap (λ (z : View). z.rows) is) (ap (λ (z : View). z.number) is) (ap (λ (z : View). z.base) is) stk r
    (tied_as start more v.made w.made (ap (λ (z : View). z.made) is) (some, sym (r.hand row some) ∙ away, r.tied))
    (shown_as start more v.reads w.reads v.sights w.sights v.entered w.entered (ap (λ (z : View). z.reads) is) (ap (λ (z : View). z.sights) is) (ap (λ (z : View). z.entered) is) (tt, r.shown))
    (λ h. sym (here_if row found (last_found calls row))) (λ q n. away_if row q found (last_found calls q) n)
    (λ z. sym (here_if row (Some k) (hand_in calls row))) (λ q n. away_if row q (Some k) (hand_in calls q) n) (λ q n. away_if row q k (top_in calls q) n)
    (omega (arith, here_if row k (top_in calls row))) (ap (λ (z : View). z.action) is ∙ r.action) (ap (λ (z : View). z.after) is ∙ r.after) (ap (λ (z : View). z.label) is ∙ r.label) (λ h. ap (λ (z : View). z.labels) is ∙ r.labels h)

-- what a take found was published with an amount merged into it, as one call
pub add_done : (start : Start) (calls : List Call) (v w : View) (row version k at : ℕ) (amount : Stat) (found taken_at put : List ℕ) → 0 < row → row < length v.rows → w ≡ published_at (weighed v) row k found put → version ≡ k + 1
    → put ≡ merged found amount → stake w ≡ stake v → OnBoard start (Takes row at taken_at ∷ calls) v → OnBoard start (Adds row amount (Counted row version) ∷ calls) w
add_done start calls v w row version k at amount found taken_at put some low is next sum stk r = let more : List Call = Adds row amount (Counted row version) ∷ calls in
    reach start (Takes row at taken_at ∷ calls) more v w row (sighted Idle (4 * (k + 1) + 2)) low (ap (λ (z : View). z.rows) is) (ap (λ (z : View). z.number) is) (ap (λ (z : View). z.base) is) stk r
    (tied_as start more (change_of v row (k + 1) true no_label found put ∷ v.made) w.made (ap (λ (z : View). z.made) is)
    (some, record { by_is = r.number_is; base_is = r.base_is; action_is = r.action; after_is = r.after; row_is = refl; version_is = sym next; puts_is = refl }, sum, r.tied.2))
    (shown_as start more v.reads w.reads v.sights w.sights v.entered w.entered (ap (λ (z : View). z.reads) is) (ap (λ (z : View). z.sights) is) (ap (λ (z : View). z.entered) is) (tt, r.shown.1))
    (λ h. absurd (no_true false refl h)) (λ q n. sym (away_if row q taken_at (last_found calls q) n)) (λ z. sym r.tied.1) (λ q n. sym (away_if row q (Some at) (hand_in calls q) n))
    (λ q n. away_if row q version (top_in calls q) n ∙ sym (away_if row q at (top_in calls q) n))
    (omega (arith, here_if row version (top_in calls row), next)) (ap (λ (z : View). z.action) is ∙ r.action) (ap (λ (z : View). z.after) is ∙ r.after) (ap (λ (z : View). z.label) is ∙ r.label) (λ h. ap (λ (z : View). z.labels) is ∙ r.labels h)

-- so was an event, written over it
pub ring_done : (start : Start) (calls : List Call) (v w : View) (row version k at : ℕ) (content found taken_at : List ℕ) → 0 < row → row < length v.rows → w ≡ published_at (weighed v) row k found content → version ≡ k + 1
    → (10242 ≤ row → (n : ℕ) × (version ≡ n + 1) × WasOlder start v.reads v.sights row n content (action_in calls) (after_in calls)) → stake w ≡ stake v → OnBoard start (Takes row at taken_at ∷ calls) v → OnBoard start (Rings row content (Done version) ∷ calls) w
ring_done start calls v w row version k at content found taken_at some low is next older stk r = let more : List Call = Rings row content (Done version) ∷ calls in
    reach start (Takes row at taken_at ∷ calls) more v w row (sighted Idle (4 * (k + 1) + 2)) low (ap (λ (z : View). z.rows) is) (ap (λ (z : View). z.number) is) (ap (λ (z : View). z.base) is) stk r
    (tied_as start more (change_of v row (k + 1) true no_label found content ∷ v.made) w.made (ap (λ (z : View). z.made) is)
    (some, record { by_is = r.number_is; base_is = r.base_is; action_is = r.action; after_is = r.after; row_is = refl; version_is = sym next; puts_is = refl }, refl, r.tied.2))
    (shown_as start more v.reads w.reads v.sights w.sights v.entered w.entered (ap (λ (z : View). z.reads) is) (ap (λ (z : View). z.sights) is) (ap (λ (z : View). z.entered) is) (older, r.shown.1))
    (λ h. absurd (no_true false refl h)) (λ q n. sym (away_if row q taken_at (last_found calls q) n)) (λ z. sym r.tied.1) (λ q n. sym (away_if row q (Some at) (hand_in calls q) n))
    (λ q n. away_if row q version (top_in calls q) n ∙ sym (away_if row q at (top_in calls q) n))
    (omega (arith, here_if row version (top_in calls row), next)) (ap (λ (z : View). z.action) is ∙ r.action) (ap (λ (z : View). z.after) is ∙ r.after) (ap (λ (z : View). z.label) is ∙ r.label) (λ h. ap (λ (z : View). z.labels) is ∙ r.labels h)

pub some_is : (a b : ℕ) → Some a ≡ Some b → a ≡ b
some_is a b e = cc

-- the version at which a row in hand was taken
pub held_at : (s : Stage) → IsSome (in_hand s) → in_hand s ≡ Some (version_held s)
held_at Idle h = absurd (no_true false refl h)
held_at (Reading k xs) h = absurd (no_true false refl h)
held_at (Holding k found put) h = refl

-- a content was put into a row in hand
pub put_done : (start : Start) (calls : List Call) (v w : View) (row version k : ℕ) (content found : List ℕ) → 0 < row → row < length v.rows → w ≡ published_at (weighed v) row k found content → version ≡ k + 1 → found ≡ last_found calls row → hand_in calls row ≡ Some k
    → stake w ≡ stake v → OnBoard start calls v → OnBoard start (Puts row content version ∷ calls) w
put_done start calls v w row version k content found some low is next last hand stk r = let more : List Call = Puts row content version ∷ calls in
    reach start calls more v w row (sighted Idle (4 * (k + 1) + 2)) low (ap (λ (z : View). z.rows) is) (ap (λ (z : View). z.number) is) (ap (λ (z : View). z.base) is) stk r
    (tied_as start more (change_of v row (k + 1) true no_label found content ∷ v.made) w.made (ap (λ (z : View). z.made) is)
    (some, record { by_is = r.number_is; base_is = r.base_is; action_is = r.action; after_is = r.after; row_is = refl; version_is = sym next; puts_is = refl }, (refl, last), (k, hand, next), r.tied))
    (shown_as start more v.reads w.reads v.sights w.sights v.entered w.entered (ap (λ (z : View). z.reads) is) (ap (λ (z : View). z.sights) is) (ap (λ (z : View). z.entered) is) (tt, r.shown))
    (λ h. absurd (no_true false refl h)) (λ q n. refl) (λ z. sym (here_if row None (hand_in calls row))) (λ q n. away_if row q None (hand_in calls q) n) (λ q n. away_if row q version (top_in calls q) n)
    (omega (arith, here_if row version (top_in calls row), next)) (ap (λ (z : View). z.action) is ∙ r.action) (ap (λ (z : View). z.after) is ∙ r.after) (ap (λ (z : View). z.label) is ∙ r.label) (λ h. ap (λ (z : View). z.labels) is ∙ r.labels h)

-- it was released as free
pub free_done : (start : Start) (calls : List Call) (v w : View) (row k : ℕ) (found : List ℕ) → 0 < row → row < length v.rows → w ≡ freed_at (weighed v) row k found → found ≡ last_found calls row → hand_in calls row ≡ Some k → stake w ≡ stake v → OnBoard start calls v
    → OnBoard start (Frees row k ∷ calls) w
free_done start calls v w row k found some low is last hand stk r = let more : List Call = Frees row k ∷ calls in
    reach start calls more v w row (sighted Idle (4 * k)) low (ap (λ (z : View). z.rows) is) (ap (λ (z : View). z.number) is) (ap (λ (z : View). z.base) is) stk r
    (tied_as start more (change_of v row k false no_label found found ∷ v.made) w.made (ap (λ (z : View). z.made) is)
    (some, record { by_is = r.number_is; base_is = r.base_is; action_is = r.action; after_is = r.after; row_is = refl; version_is = refl; puts_is = refl }, last, hand, r.tied))
    (shown_as start more v.reads w.reads v.sights w.sights v.entered w.entered (ap (λ (z : View). z.reads) is) (ap (λ (z : View). z.sights) is) (ap (λ (z : View). z.entered) is) (tt, r.shown))
    (λ h. absurd (no_true false refl h)) (λ q n. refl) (λ z. sym (here_if row None (hand_in calls row))) (λ q n. away_if row q None (hand_in calls q) n) (λ q n. away_if row q k (top_in calls q) n)
    (omega (arith, here_if row k (top_in calls row))) (ap (λ (z : View). z.action) is ∙ r.action) (ap (λ (z : View). z.after) is ∙ r.after) (ap (λ (z : View). z.label) is ∙ r.label) (λ h. ap (λ (z : View). z.labels) is ∙ r.labels h)

-- an action ended
pub left_done : (start : Start) (calls : List Call) (v w : View) (found : List ℕ) → 0 < length v.rows → 0 < v.action → w ≡ ended_with (weighed v) found → stake w ≡ stake v → OnBoard start calls v → OnBoard start (Leaves ∷ calls) w
left_done start calls v w found low acting is stk r = let more : List Call = Leaves ∷ calls in
    reach start calls more v w 0 (sighted Idle (4 * v.action + 2)) low (ap (λ (z : View). z.rows) is) (ap (λ (z : View). z.number) is) (ap (λ (z : View). z.base) is) stk r
    (tied_as start more (change_of v 0 v.action true v.label found found ∷ v.made) w.made (ap (λ (z : View). z.made) is)
    (omega (arith, acting, r.action), record { by_is = r.number_is; base_is = r.base_is; action_is = r.action; after_is = r.after; row_is = refl; version_is = r.action; puts_is = refl }, r.label, r.tied))
    (shown_as start more v.reads w.reads v.sights w.sights v.entered w.entered (ap (λ (z : View). z.reads) is) (ap (λ (z : View). z.sights) is) (ap (λ (z : View). z.entered) is) (tt, r.shown))
    (λ h. absurd (no_true false refl h)) (λ q n. refl) (λ z. absurd (omega (arith, z))) (λ q n. away_if 0 q None (hand_in calls q) n) (λ q n. away_if 0 q (action_in calls) (top_in calls q) n)
    (omega (arith, r.action)) (ap (λ (z : View). z.action) is) (ap (λ (z : View). z.after) is ∙ r.action) (ap (λ (z : View). z.label) is) (λ h. absurd (omega (arith, h)))

-- of a row in hand
pub held_is : (s : Stage) → IsSome (in_hand s) → is_holding s ≡ true
held_is Idle h = absurd (no_true false refl h)
held_is (Reading k xs) h = absurd (no_true false refl h)
held_is (Holding k found put) h = refl

-- a call that names no row of the board
pub apart : (start : Start) (calls : List Call) (v : View) (call : Call) → OnBoard start calls v → IsTied start (call ∷ calls) v.made → AreShown start v.reads v.sights v.entered (call ∷ calls)
    → ((row : ℕ) → last_found (call ∷ calls) row ≡ last_found calls row) → ((row : ℕ) → hand_in (call ∷ calls) row ≡ hand_in calls row) → ((row : ℕ) → top_in (call ∷ calls) row ≡ top_in calls row)
    → action_in (call ∷ calls) ≡ action_in calls → after_in (call ∷ calls) ≡ after_in calls → label_in (call ∷ calls) ≡ label_in calls → labels_in (call ∷ calls) ≡ labels_in calls → OnBoard start (call ∷ calls) v
apart start calls v call r tied shown founds hands tops act aft lab labs = record {
  number_is = r.number_is;
  base_is = r.base_is;
  stake_is = r.stake_is;
  tied = tied;
  shown = shown;
  taken = λ row some h. r.taken row some h ∙ sym (founds row);
  hand = λ row some. r.hand row some ∙ sym (hands row);
  action = r.action ∙ sym act;
  after = r.after ∙ sym aft;
  label = r.label ∙ sym lab;
  labels = λ h. r.labels (omega (arith, h, act)) ∙ sym labs;
  seen = λ row. omega (arith, r.seen row, tops row);
}

-- the two words that a busy read shows
pub another_seen : (first second : ℕ) → ((first % 4 ≡ 1) × (second ≡ first)) ⊎ ((first % 4 ≡ 2) × (second ≢ first)) → first / 4 ≤ second / 4 → second % 4 < 3 → AreAnothers first second
another_seen first second d up low = (
  ⊎_elim (λ x. inl x) (λ (x : (first % 4 ≡ 2) × (second ≢ first)). inr ((λ z. omega (arith, z, x.0)), x.1)) d,
  ⊎_elim (λ (x : (first % 4 ≡ 1) × (second ≡ first)). omega (arith, x.0)) (λ (x : (first % 4 ≡ 2) × (second ≢ first)). omega (arith, x.0)) d,
  low,
  up,
  λ z. ⊎_elim (λ (x : (first % 4 ≡ 1) × (second ≡ first)). absurd (omega (arith, x.0, z))) (λ (x : (first % 4 ≡ 2) × (second ≢ first)). absurd (omega (arith, x.0, z))) d,
)
