-- Why a call was held back, busy or late: others published, and nobody twice.
use Rattle.std.proofs.Common.{ℕ, ◌≡◌, ◌+◌, ◌*◌, ◌/◌, ◌<◌, ◌≤◌, ◌==◌, Bool, true, false, not, ◌&&◌, List, [], ◌∷◌, ◌++◌, slice_index, inl, inr, refl, ◌∙◌, subst, arith}
use Rattle.std.specs.Prelude.{nat_lt, nat_le}
use Rattle.pfs_rows.specs.declared.table.Seen.TheVariants.{Whole, Free}
use Rattle.pfs_rows.specs.declared.table.Seen.TheVariants as sees
use Rattle.pfs_levels.specs.declared.answers.Added.TheVariants.{Counted, Held}
use Rattle.pfs_levels.specs.declared.answers.RingPut.TheVariants.{Done, Busy, Late}
use Rattle.pfs_levels.specs.Calls.{Call, Adds, Rings, Reads, Loads, Draws, Takes, Puts, Frees, Sets, Enters, Leaves, Meets, after_in}
use Rattle.pfs_levels.specs.JointCalls.{total, one_if, count, changes_of, frees_at, all_calls}
use Rattle.pfs_levels.specs.CallOrder.{Mark, AllCalls, marks_of, all_marks, marked, is_past, above, is_between, published, released, top_in, IsCaused}
use Rattle.pfs_levels.specs.CallOrder.{IsOthers as IsAnothers}
use Rattle.pfs_law_joint.specs.Phases.{IsShared, HaveEnded, AreWhole, Moment, own_of, phase_of, others_of, WereDone}
use Rattle.pfs_law_joint.specs.Causes.{IsOthers, OthersLaw, WasOthers, WasLate, WasFree, HasCause, CausesLaw}
use Rattle.pfs_law_joint.proofs.VersionChains.{mark_chain, there, not_there}
use Rattle.pfs_law_joint.proofs.MarkSums.{marks_apart}
use Rattle.pfs_law_joint.proofs.CallPlaces.{Facts, facts}
use Rattle.pfs_law_joint.proofs.HadVersions.{changes_are, frees_it, four, rows_are}
use Rattle.pfs_law_joint.proofs.Floors.{began_is, row_above}

-- nothing between is nothing at a version between
step : (b p : Bool) (v low high k : ℕ) → low < k → k ≤ high → one_if ((b && p) && (v == k)) ≤ one_if (((b && p) && nat_lt low v) && nat_le v high)
step false p v low high k up down = omega arith
step true false v low high k up down = omega arith
step true true v low high k up down = grind (arith, up, down)

none_at : (own : List Mark) (row low high k : ℕ) → low < k → k ≤ high → total (λ p. one_if (is_between row low high p)) own ≡ 0 → published own row k ≡ 0
unfolding total
none_at [] row low high k up down none = refl
none_at (x ∷ xs) row low high k up down none =
    let s = step (x.row == row) x.puts x.version low high k up down in
    let r = none_at xs row low high k up down (omega (arith, none)) in
    omega (arith, s, r, none)

module _ (flags : List ℕ) (before : List (List Call)) (m : Moment) (done : ℕ) (s : IsShared flags before (phase_of m)) (e : HaveEnded before) (whole : AllCalls AreWhole (phase_of m)) (were : WereDone before m.earlier done) where
  -- what the phases before didn't publish, nor the actor itself, another actor of the phase did
  by_others : (row k : ℕ) → 0 < row → count (changes_of (all_calls before)) row < k → published (marks_of (own_of m)) row k ≡ 0 → 0 < published s.marks row k → 0 < published (all_marks (others_of m)) row k
  by_others row k up high own some =
      let test : Mark → ℕ = λ p. one_if ((p.row == row) && p.puts && (p.version == k)) in
      let began = began_is flags before m done s e whole were row up in
      let old : published e.marks row k ≡ 0 = mark_chain e.marks row k e.chain ∙ not_there k (marked e.marks row) (omega (arith, high, began)) in
      omega (arith, own, some, old, e.once test, s.order.once test, marks_apart test m.front (own_of m) m.behind before)

  released_all : (row k : ℕ) → 0 < released s.marks row k → 0 < released (all_marks (phase_of m ++ before)) row k
  released_all row k some = omega (arith, some, s.order.once (λ p. one_if ((p.row == row) && not p.puts && (p.version == k))))

  others_were : (row v : ℕ) → 0 < row → count (changes_of (all_calls before)) row ≤ v → IsAnothers s.marks (marks_of (own_of m)) row v → IsOthers before m row v
  others_were row v up low (inl theirs) = inl (by_others row (v + 1) up (omega (arith, low)) theirs.0 theirs.1)
  others_were row v up low (inr freed) = inr (released_all row v freed)

pub others : OthersLaw
others = λ flags before m row version s e whole. others_were flags before m 0 s e whole (inl (omega arith)) row version

module _ (theirs : OthersLaw) (flags : List ℕ) (before : List (List Call)) (m : Moment) (done : ℕ) (s : IsShared flags before (phase_of m)) (e : HaveEnded before) (whole : AllCalls AreWhole (phase_of m)) (were : WereDone before m.earlier done) where
  held : (row first second : ℕ) → 0 < row → IsCaused s.marks (marks_of (own_of m)) row first second (after_in m.earlier)
      → (top_in m.earlier row ≤ first / 4) × (first / 4 ≤ second / 4) → count (changes_of (all_calls before)) row ≤ first / 4 → WasOthers before m done row first second
  held row first second up c rise began = record {
    states = c.states;
    order = c.order;
    had = omega (arith, c.known, rows_are flags before m s row up);
    began = began;
    own = rise.0;
    given = row_above flags before m done s e whole were row (first / 4) up began c.floor;
    between = λ v low high. by_others flags before m done s e whole were row v up (omega (arith, low, began)) (none_at (marks_of (own_of m)) row (first / 4) (second / 4) v low high c.between)
        (omega (arith, mark_chain s.marks row v s.order.chain ∙ there v (marked s.marks row) (omega (arith, low)) (omega (arith, high, c.known))));
    first_dirty = λ dirty. theirs flags before m row (first / 4) s e whole up began (c.first_dirty dirty);
    second_dirty = λ dirty. theirs flags before m row (second / 4) s e whole up (omega (arith, began, rise.1)) (c.second_dirty dirty);
    second_free = λ free. released_all flags before m done s e whole were row (second / 4) (c.second_free free);
  }

  late : (row ticket version : ℕ) → 0 < row → (slice_index (s.content row version) 15 ≡ ticket + 1) × (version ≤ count s.log row) → top_in m.earlier row ≤ version
      → count (changes_of (all_calls before)) row ≤ version → above s.marks row version (after_in m.earlier) ≡ 0 → WasLate s.content before m done row ticket version
  late row ticket version up agrees rise began floor = record {
    had = omega (arith, agrees.1, changes_are flags before m s row);
    holds = agrees.0;
    began = began;
    own = rise;
    given = row_above flags before m done s e whole were row version up began floor;
  }

  vacant : (row w : ℕ) → ((k : ℕ) × ((w ≡ 4 * k) × (0 < frees_at s.log row k))) → top_in m.earlier row ≤ w / 4 → count (changes_of (all_calls before)) row ≤ w / 4
      → above s.marks row (w / 4) (after_in m.earlier) ≡ 0 → WasFree before m done row w
  vacant row w agrees rise began floor =
      let v : ℕ = agrees.0 in
      let q : w / 4 ≡ v = four w v agrees.1.0 in
      record {
        version = v;
        word_is = agrees.1.0;
        stood = omega (arith, agrees.1.1, s.joint.once (λ x. one_if (frees_it row v x)));
        began = omega (arith, began, q);
        own = omega (arith, rise, q);
        given = λ up. subst (λ z. above (all_marks (phase_of m ++ before)) row z done ≡ 0) q (row_above flags before m done s e whole were row (w / 4) up began floor);
      }

  has_cause : (call : Call) → Facts flags before m s call → HasCause s.content before m done call
  has_cause (Adds at amount (Held r v w)) f = λ up. held r v w up f.caused f.rising f.since
  has_cause (Adds at amount (Counted r v)) f = tt
  has_cause (Rings at content (Busy v w)) f = λ up. held at v w up f.caused f.rising f.since
  has_cause (Rings at content (Late t v)) f = λ up. late at t v up f.agrees f.rising f.since f.floored
  has_cause (Rings at content (Done v)) f = tt
  has_cause (Reads at (sees.Busy v w)) f = λ up. held at v w up f.caused f.rising f.since
  has_cause (Reads at (Free w)) f = vacant at w f.agrees f.rising f.since f.floored
  has_cause (Reads at (Whole v found)) f = tt
  has_cause (Loads at v found) f = tt
  has_cause (Draws kind ticket) f = tt
  has_cause (Meets versions) f = tt
  has_cause (Takes at v found) f = tt
  has_cause (Puts at content v) f = tt
  has_cause (Frees at v) f = tt
  has_cause (Sets at to v) f = tt
  has_cause (Enters label labels) f = tt
  has_cause Leaves f = tt

pub causes : OthersLaw → CausesLaw
causes theirs = λ flags before m done s e whole were. has_cause theirs flags before m done s e whole were m.call (facts flags before m s)
