-- Each call is above, or not below, what its actor knew: floors of all that ended actions gave, in this phase or before.
use Rattle.std.proofs.Common.{ℕ, ◌≡◌, ◌+◌, ◌/◌, ◌<◌, ◌≤◌, ◌==◌, Bool, true, false, not, ◌&&◌, List, [], ◌∷◌, ◌++◌, slice_index, inl, inr, refl, ap, sym, ◌∙◌, subst, arith, eqb-true, eq-eqb, le-leb}
use Rattle.std.specs.Prelude.{nat_lt, nat_le, ◌⊎◌}
use Rattle.std.proofs.lemmas.Bool.{cases_lt, and_from, ltb-true, leb-true}
use Rattle.pfs_lemmas.proofs.Bools.{and_first, and_second}
use Rattle.pfs_rows.specs.declared.table.Seen.TheVariants.{Whole, Free}
use Rattle.pfs_rows.specs.declared.table.Seen.TheVariants as sees
use Rattle.pfs_levels.specs.declared.answers.Added.TheVariants.{Counted, Held}
use Rattle.pfs_levels.specs.declared.answers.RingPut.TheVariants.{Done, Busy, Late}
use Rattle.pfs_levels.specs.Calls.{Call, Adds, Rings, Reads, Loads, Draws, Takes, Puts, Frees, Sets, Enters, Leaves, Meets, after_in}
use Rattle.pfs_levels.specs.JointCalls.{total, one_if, count, changes_of, sets_of, word_version, frees_at, all_calls}
use Rattle.pfs_levels.specs.CallOrder.{Mark, AreMarked, AllCalls, all_marks, all_word_marks, marked, is_past, above, reaching, freed, released, top_in, top_word}
use Rattle.pfs_law_joint.specs.Versions.{at_mark}
use Rattle.pfs_law_joint.specs.Phases.{IsShared, HaveEnded, AreWhole, AreLater, Moment, phase_of, WereDone}
use Rattle.pfs_law_joint.specs.Floors.{IsAbove, IsNotBelow, IsLoadedAbove, Keeps, FloorsLaw}
use Rattle.pfs_law_joint.proofs.Sums.{total_low, so_low}
use Rattle.pfs_law_joint.proofs.NeverFalling.{more, here}
use Rattle.pfs_law_joint.proofs.MarkSums.{marks_then, word_marks_then, all_row_sums, marked_is, words_marked_is, off_zero}
use Rattle.pfs_law_joint.proofs.CallPlaces.{Facts, facts}
use Rattle.pfs_law_joint.proofs.LaterActions.{later}
use Rattle.pfs_law_joint.proofs.HadVersions.{frees_it}

abbrev from : ℕ → ℕ → Mark → Bool
from row version p = (p.row == row) && nat_le version p.version

-- no mark of a row is above the row's last version
none_from : (log : List Mark) (row version : ℕ) → AreMarked log → marked log row < version → total (λ p. one_if (from row version p)) log ≡ 0
unfolding total
none_from [] row version m high = refl
none_from (x ∷ xs) row version m high = at (none_from xs row version m.1 (omega (arith, high, more x xs row))) (from row version x) refl where
  never : from row version x ≡ true → ⊥
  never is =
      let r : x.row ≡ row = eqb-true x.row row (and_first (x.row == row) (nat_le version x.version) is) in
      let low : version ≤ x.version = leb-true version x.version (and_second (x.row == row) (nat_le version x.version) is) in
      let most : x.version ≤ marked (x ∷ xs) row = subst (λ z. x.version ≤ marked (x ∷ xs) z) r (omega (arith, m.0 ∙ sym (here x xs))) in
      omega (arith, low, most, high)

  at : total (λ p. one_if (from row version p)) xs ≡ 0 → (b : Bool) → from row version x ≡ b → one_if b + total (λ p. one_if (from row version p)) xs ≡ 0
  at rest true is = absurd (never is)
  at rest false is = omega (arith, rest)

past_row : (row after : ℕ) (p : Mark) → is_past row after p ≡ true → (p.row == row) ≡ true
past_row row after p is = and_first (p.row == row) (nat_lt 0 p.action) (and_first ((p.row == row) && nat_lt 0 p.action) (nat_le p.action after) is)

-- an action up to a number is one up to a greater
past_more : (row few many : ℕ) (p : Mark) → few ≤ many → is_past row few p ≡ true → is_past row many p ≡ true
past_more row few many p low is =
    let acted = and_first ((p.row == row) && nat_lt 0 p.action) (nat_le p.action few) is in
    let few_is = leb-true p.action few (and_second ((p.row == row) && nat_lt 0 p.action) (nat_le p.action few) is) in
    and_from ((p.row == row) && nat_lt 0 p.action) (nat_le p.action many) acted (le-leb p.action many (omega (arith, few_is, low)))

above_test : (row few many k v : ℕ) (p : Mark) → few ≤ many → v ≤ k → (is_past row few p && nat_lt k p.version) ≡ true → (is_past row many p && nat_le v p.version) ≡ true
above_test row few many k v p low up is =
    let k_is = ltb-true k p.version (and_second (is_past row few p) (nat_lt k p.version) is) in
    and_from (is_past row many p) (nat_le v p.version) (past_more row few many p low (and_first (is_past row few p) (nat_lt k p.version) is)) (le-leb v p.version (omega (arith, k_is, up)))

above_more : (row few many k : ℕ) (p : Mark) → few ≤ many → (is_past row few p && nat_lt k p.version) ≡ true → (is_past row many p && nat_lt k p.version) ≡ true
above_more row few many k p low is =
    and_from (is_past row many p) (nat_lt k p.version) (past_more row few many p low (and_first (is_past row few p) (nat_lt k p.version) is)) (and_second (is_past row few p) (nat_lt k p.version) is)

reach_more : (row few many k v : ℕ) (p : Mark) → few ≤ many → v ≤ k → (is_past row few p && nat_le k p.version) ≡ true → (is_past row many p && nat_le v p.version) ≡ true
reach_more row few many k v p low up is =
    let k_is = leb-true k p.version (and_second (is_past row few p) (nat_le k p.version) is) in
    and_from (is_past row many p) (nat_le v p.version) (past_more row few many p low (and_first (is_past row few p) (nat_le k p.version) is)) (le-leb v p.version (omega (arith, k_is, up)))

above_from : (row after k : ℕ) (p : Mark) → (is_past row after p && nat_lt k p.version) ≡ true → from row (k + 1) p ≡ true
above_from row after k p is =
    let k_is = ltb-true k p.version (and_second (is_past row after p) (nat_lt k p.version) is) in
    and_from (p.row == row) (nat_le (k + 1) p.version) (past_row row after p (and_first (is_past row after p) (nat_lt k p.version) is)) (le-leb (k + 1) p.version (omega (arith, k_is)))

reach_from : (row after k : ℕ) (p : Mark) → (is_past row after p && nat_le k p.version) ≡ true → from row k p ≡ true
reach_from row after k p is =
    and_from (p.row == row) (nat_le k p.version) (past_row row after p (and_first (is_past row after p) (nat_le k p.version) is)) (and_second (is_past row after p) (nat_le k p.version) is)

freed_more : (row few many k : ℕ) (p : Mark) → few ≤ many → (is_past row few p && not p.puts && nat_le k p.version) ≡ true → (is_past row many p && not p.puts && nat_le k p.version) ≡ true
freed_more row few many k p low is =
    let both = and_first (is_past row few p && not p.puts) (nat_le k p.version) is in
    and_from (is_past row many p && not p.puts) (nat_le k p.version)
    (and_from (is_past row many p) (not p.puts) (past_more row few many p low (and_first (is_past row few p) (not p.puts) both)) (and_second (is_past row few p) (not p.puts) both))
    (and_second (is_past row few p && not p.puts) (nat_le k p.version) is)

freed_reach : (row after k : ℕ) (p : Mark) → (is_past row after p && not p.puts && nat_le k p.version) ≡ true → (is_past row after p && nat_le k p.version) ≡ true
freed_reach row after k p is =
    and_from (is_past row after p) (nat_le k p.version) (and_first (is_past row after p) (not p.puts) (and_first (is_past row after p && not p.puts) (nat_le k p.version) is))
    (and_second (is_past row after p && not p.puts) (nat_le k p.version) is)

freed_is : (row after k : ℕ) (p : Mark) → (is_past row after p && not p.puts && nat_le k p.version) ≡ true → (((p.row == row) && not p.puts && (p.version == k)) ≡ true) ⊎ (from row (k + 1) p ≡ true)
freed_is row after k p is =
    let both = and_first (is_past row after p && not p.puts) (nat_le k p.version) is in
    let r = past_row row after p (and_first (is_past row after p) (not p.puts) both) in
    let low : k ≤ p.version = leb-true k p.version (and_second (is_past row after p && not p.puts) (nat_le k p.version) is) in
    elim (cases_lt k p.version) [
      | inl high ↦ inr (and_from (p.row == row) (nat_le (k + 1) p.version) r (le-leb (k + 1) p.version (omega (arith, high))))
      | inr most ↦ inl (and_from ((p.row == row) && not p.puts) (p.version == k) (and_from (p.row == row) (not p.puts) r (and_second (is_past row after p) (not p.puts) both)) (eq-eqb p.version k (omega (arith, low, most))))
    ]

one_of_two : (a b c : Bool) → (a ≡ true → (b ≡ true) ⊎ (c ≡ true)) → one_if a ≤ one_if b + one_if c
one_of_two false b c so = omega arith
one_of_two true b c so = elim (so refl) [
  | inl e ↦ omega (arith, ap one_if e)
  | inr e ↦ omega (arith, ap one_if e)
]

total_two : (h f g : Mark → ℕ) → ((p : Mark) → h p ≤ f p + g p) → (log : List Mark) → total h log ≤ total f log + total g log
unfolding total
total_two h f g low [] = omega arith
total_two h f g low (x ∷ xs) = omega (arith, low x, total_two h f g low xs)

-- the marks of all actors: those of the phase, whose actions come later, and those of the phases before
pub record Sums (all now base log past : List Mark) : Type 0 where
  pub parts : (h : Mark → ℕ) → total h all ≡ total h now + total h base
  pub logged : (h : Mark → ℕ) → total h all ≡ total h log
  pub ended : (h : Mark → ℕ) → total h base ≡ total h past
  pub chain : AreMarked past

module _ (all now base log ended : List Mark) (x : Sums all now base log ended) (row k after n done : ℕ) (none : reaching now row 0 n ≡ 0) (were : (done ≤ after) ⊎ (done ≤ n)) where
  pub above_given : marked ended row ≤ k → above log row k after ≡ 0 → above all row k done ≡ 0
  above_given low floor = at were where
    test : ℕ → Mark → ℕ
    test many p = one_if (is_past row many p && nat_lt k p.version)

    at : (done ≤ after) ⊎ (done ≤ n) → above all row k done ≡ 0
    at (inl few) =
        let a = total_low (test done) (test after) (λ p. so_low (is_past row done p && nat_lt k p.version) (is_past row after p && nat_lt k p.version) (above_more row done after k p few)) all in
        omega (arith, a, floor, x.logged (test after))
    at (inr few) =
        let a = total_low (test done) (λ p. one_if (is_past row n p && nat_le 0 p.version)) (λ p. so_low (is_past row done p && nat_lt k p.version) (is_past row n p && nat_le 0 p.version) (above_test row done n k 0 p few (omega arith))) now in
        let b = total_low (test done) (λ p. one_if (from row (k + 1) p)) (λ p. so_low (is_past row done p && nat_lt k p.version) (from row (k + 1) p) (above_from row done k p)) ended in
        omega (arith, a, b, none, x.parts (test done), x.ended (test done), none_from ended row (k + 1) x.chain (omega (arith, low)))

  pub reaching_given : marked ended row < k → reaching log row k after ≡ 0 → reaching all row k done ≡ 0
  reaching_given low floor = at were where
    test : ℕ → Mark → ℕ
    test many p = one_if (is_past row many p && nat_le k p.version)

    at : (done ≤ after) ⊎ (done ≤ n) → reaching all row k done ≡ 0
    at (inl few) =
        let a = total_low (test done) (test after) (λ p. so_low (is_past row done p && nat_le k p.version) (is_past row after p && nat_le k p.version) (reach_more row done after k k p few (omega arith))) all in
        omega (arith, a, floor, x.logged (test after))
    at (inr few) =
        let a = total_low (test done) (λ p. one_if (is_past row n p && nat_le 0 p.version)) (λ p. so_low (is_past row done p && nat_le k p.version) (is_past row n p && nat_le 0 p.version) (reach_more row done n k 0 p few (omega arith))) now in
        let b = total_low (test done) (λ p. one_if (from row k p)) (λ p. so_low (is_past row done p && nat_le k p.version) (from row k p) (reach_from row done k p)) ended in
        omega (arith, a, b, none, x.parts (test done), x.ended (test done), none_from ended row k x.chain low)

  pub freed_given : marked ended row ≤ k → (marked ended row ≡ k → released ended row k ≡ 0) → freed log row k after ≡ 0 → freed all row k done ≡ 0
  freed_given low stood floor = at were where
    test : ℕ → Mark → ℕ
    test many p = one_if (is_past row many p && not p.puts && nat_le k p.version)

    old : total (test done) ended ≡ 0
    old =
        let a = total_two (test done) (λ p. one_if ((p.row == row) && not p.puts && (p.version == k))) (λ p. one_if (from row (k + 1) p))
        (λ p. one_of_two (is_past row done p && not p.puts && nat_le k p.version) ((p.row == row) && not p.puts && (p.version == k)) (from row (k + 1) p) (freed_is row done k p)) ended in
        let b = total_low (test done) (λ p. one_if (from row k p)) (λ p. so_low (is_past row done p && not p.puts && nat_le k p.version) (from row k p) (λ is. reach_from row done k p (freed_reach row done k p is))) ended in
        let c = none_from ended row (k + 1) x.chain (omega (arith, low)) in
        elim (cases_lt (marked ended row) k) [
          | inl less ↦ omega (arith, b, none_from ended row k x.chain less)
          | inr most ↦ omega (arith, a, c, stood (omega (arith, low, most)))
        ]

    at : (done ≤ after) ⊎ (done ≤ n) → freed all row k done ≡ 0
    at (inl few) =
        let a = total_low (test done) (test after) (λ p. so_low (is_past row done p && not p.puts && nat_le k p.version) (is_past row after p && not p.puts && nat_le k p.version) (freed_more row done after k p few)) all in
        omega (arith, a, floor, x.logged (test after))
    at (inr few) =
        let a = total_low (test done) (λ p. one_if (is_past row n p && nat_le 0 p.version)) (λ p. so_low (is_past row done p && not p.puts && nat_le k p.version) (is_past row n p && nat_le 0 p.version)
        (λ is. reach_more row done n k 0 p few (omega arith) (freed_reach row done k p is))) now in
        omega (arith, a, none, x.parts (test done), x.ended (test done), old)

-- of a call
module _ (flags : List ℕ) (before : List (List Call)) (m : Moment) (done : ℕ) (s : IsShared flags before (phase_of m)) (e : HaveEnded before) (whole : AllCalls AreWhole (phase_of m)) (were : WereDone before m.earlier done) where
  abbrev n : ℕ
  n = marked (all_marks before) 0

  after_all : AreLater before (phase_of m)
  after_all = later flags before (phase_of m) s e whole

  rows : Sums (all_marks (phase_of m ++ before)) (all_marks (phase_of m)) (all_marks before) s.marks e.marks
  rows = record { parts = λ h. marks_then h (phase_of m) before; logged = s.order.once; ended = e.once; chain = e.chain }

  words : Sums (all_word_marks (phase_of m ++ before)) (all_word_marks (phase_of m)) (all_word_marks before) s.words e.words
  words = record { parts = λ h. word_marks_then h (phase_of m) before; logged = s.order.words_once; ended = e.words_once; chain = e.word_chain }

  pub began_is : (row : ℕ) → 0 < row → marked e.marks row ≡ count (changes_of (all_calls before)) row
  began_is row up = marked_is e.marks before row up e.once

  words_began : (word : ℕ) → marked e.words word ≡ word_version (sets_of (all_calls before)) word
  words_began word = words_marked_is e.words before word e.words_once

  pub row_above : (row k : ℕ) → 0 < row → count (changes_of (all_calls before)) row ≤ k → above s.marks row k (after_in m.earlier) ≡ 0 → above (all_marks (phase_of m ++ before)) row k done ≡ 0
  row_above row k up low floor =
      above_given (all_marks (phase_of m ++ before)) (all_marks (phase_of m)) (all_marks before) s.marks e.marks rows row k (after_in m.earlier) n done (after_all.rows row) were (omega (arith, low, began_is row up)) floor

  row_reaching : (row k : ℕ) → 0 < row → count (changes_of (all_calls before)) row < k → reaching s.marks row k (after_in m.earlier) ≡ 0 → reaching (all_marks (phase_of m ++ before)) row k done ≡ 0
  row_reaching row k up low floor =
      reaching_given (all_marks (phase_of m ++ before)) (all_marks (phase_of m)) (all_marks before) s.marks e.marks rows row k (after_in m.earlier) n done (after_all.rows row) were (omega (arith, low, began_is row up)) floor

  -- what was released at the phase's beginning stands free there
  released_free : (row k : ℕ) → 0 < row → released e.marks row k ≤ frees_at (changes_of (all_calls before)) row k
  released_free row k up =
      let test : Mark → ℕ = λ p. one_if (frees_it row k (at_mark p)) in
      let a = all_row_sums (λ x. one_if (frees_it row k x)) (λ x zero. ap (λ b. one_if (b && not x.puts && (x.version == k))) (off_zero row up x zero)) before in
      omega (arith, a, e.once test)

  none_released : (row k : ℕ) → 0 < row → (0 < frees_at (changes_of (all_calls before)) row k → k ≡ count (changes_of (all_calls before)) row → ⊥) → marked e.marks row ≡ k → released e.marks row k ≡ 0
  none_released row k up stood last = elim (cases_lt 0 (frees_at (changes_of (all_calls before)) row k)) [
    | inl some ↦ absurd (stood some (sym last ∙ began_is row up))
    | inr none ↦ omega (arith, none, released_free row k up)
  ]

  row_freed : (row k : ℕ) → 0 < row → count (changes_of (all_calls before)) row ≤ k → (0 < frees_at (changes_of (all_calls before)) row k → k ≡ count (changes_of (all_calls before)) row → ⊥)
      → freed s.marks row k (after_in m.earlier) ≡ 0 → freed (all_marks (phase_of m ++ before)) row k done ≡ 0
  row_freed row k up low stood floor =
      freed_given (all_marks (phase_of m ++ before)) (all_marks (phase_of m)) (all_marks before) s.marks e.marks rows row k (after_in m.earlier) n done (after_all.rows row) were (omega (arith, low, began_is row up)) (none_released row k up stood) floor

  word_above : (word k : ℕ) → word_version (sets_of (all_calls before)) word ≤ k → above s.words word k (after_in m.earlier) ≡ 0 → above (all_word_marks (phase_of m ++ before)) word k done ≡ 0
  word_above word k low floor =
      above_given (all_word_marks (phase_of m ++ before)) (all_word_marks (phase_of m)) (all_word_marks before) s.words e.words words word k (after_in m.earlier) n done (after_all.words word) were (omega (arith, low, words_began word)) floor

  word_reaching : (word k : ℕ) → word_version (sets_of (all_calls before)) word < k → reaching s.words word k (after_in m.earlier) ≡ 0 → reaching (all_word_marks (phase_of m ++ before)) word k done ≡ 0
  word_reaching word k low floor =
      reaching_given (all_word_marks (phase_of m ++ before)) (all_word_marks (phase_of m)) (all_word_marks before) s.words e.words words word k (after_in m.earlier) n done (after_all.words word) were (omega (arith, low, words_began word)) floor

  changed : (row k : ℕ) → count (changes_of (all_calls before)) row < k → top_in m.earlier row < k → reaching s.marks row k (after_in m.earlier) ≡ 0 → 0 < row → IsAbove before m done row k
  changed row k began own floor up = record { began = began; own = own; given = row_reaching row k up began floor }

  not_below : (row k : ℕ) → count (changes_of (all_calls before)) row ≤ k → top_in m.earlier row ≤ k → above s.marks row k (after_in m.earlier) ≡ 0 → 0 < row → IsNotBelow before m done row k
  not_below row k began own floor up = record { began = began; own = own; given = row_above row k up began floor }

  loaded : (word k : ℕ) → word_version (sets_of (all_calls before)) word ≤ k → top_word m.earlier word ≤ k → above s.words word k (after_in m.earlier) ≡ 0 → IsLoadedAbove before m done word k
  loaded word k began own floor = record { began = began; own = own; given = word_above word k began floor }

  keeps : (call : Call) → Facts flags before m s call → Keeps before m done call
  keeps (Adds at amount (Counted r v)) f = changed r v f.since f.rising f.floored
  keeps (Adds at amount (Held r v w)) f = tt
  keeps (Rings at content (Done v)) f = changed at v f.since f.rising f.floored
  keeps (Rings at content (Busy v w)) f = tt
  keeps (Rings at content (Late t v)) f = tt
  keeps (Reads at (Whole v found)) f = λ up. (
    not_below at v f.since.0 f.rising f.floored.0 up,
    record { released = row_freed at v up f.since.0 f.since.1 f.floored.1; stood = f.since.1 },
  )
  keeps (Reads at (Free w)) f = record { began = f.since; own = f.rising; given = λ up. row_above at (w / 4) up f.since f.floored }
  keeps (Reads at (sees.Busy v w)) f = tt
  keeps (Loads at v found) f = loaded at v f.since f.rising f.floored
  keeps (Draws kind ticket) f = tt
  keeps (Meets versions) f = λ word low. loaded word (slice_index versions word) (f.since word low) (f.rising word low) (f.floored word low)
  keeps (Takes at v found) f = not_below at v f.since f.rising f.floored
  keeps (Puts at content v) f = changed at v f.since f.rising f.floored
  keeps (Frees at v) f = not_below at v f.since f.rising f.floored
  keeps (Sets at to v) f = record { began = f.since; own = f.rising; given = word_reaching at v f.since f.floored }
  keeps (Enters label labels) f = tt
  keeps Leaves f = tt

pub floors_kept : FloorsLaw
floors_kept = λ flags before m done s e whole were. keeps flags before m done s e whole were m.call (facts flags before m s)
