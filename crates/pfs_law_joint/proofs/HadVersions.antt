-- Each version that a call names is one that its row, or word, had by the phase's end.
use Rattle.std.proofs.Common.{ℕ, ◌≡◌, ◌+◌, ◌*◌, ◌/◌, ◌<◌, ◌≤◌, ◌==◌, Bool, true, false, not, ◌&&◌, List, [], ◌∷◌, ◌++◌, map, inl, inr, refl, ap, sym, ◌∙◌, arith, eqb-true, eq-eqb}
use Rattle.std.specs.Prelude.{◌⊎◌, if◌then◌else◌}
use Rattle.std.proofs.lemmas.Bool.{cases_lt, and_from, false≢true}
use Rattle.pfs_lemmas.proofs.Bools.{and_first, and_second, counted_once_more}
use Rattle.pfs_rows.specs.declared.table.Seen.TheVariants.{Whole, Free}
use Rattle.pfs_rows.specs.declared.table.Seen.TheVariants as sees
use Rattle.pfs_levels.specs.declared.answers.Added.TheVariants.{Counted, Held}
use Rattle.pfs_levels.specs.declared.answers.RingPut.TheVariants.{Done, Busy, Late}
use Rattle.pfs_levels.specs.Calls.{Call, Adds, Rings, Reads, Loads, Draws, Takes, Puts, Frees, Sets, Enters, Leaves, Meets}
use Rattle.pfs_levels.specs.JointCalls.{total, one_if, At, at_put, at_free, IsCounted, count, changes_of, Setting, sets_of, word_version, opens_free, frees_at, all_calls}
use Rattle.pfs_levels.specs.CallOrder.{marked}
use Rattle.pfs_law_joint.specs.Versions.{makes, at_set}
use Rattle.pfs_law_joint.specs.Phases.{IsShared, Moment, phase_of, Names, NamesWord, HadLaw, WordHadLaw}
use Rattle.pfs_law_joint.proofs.Sums.{total_map}
use Rattle.pfs_law_joint.proofs.VersionChains.{had, puts_to, log_count, sets_counted, sets_count}
use Rattle.pfs_law_joint.proofs.MarkSums.{marked_is, count_is}
use Rattle.pfs_law_joint.proofs.CallPlaces.{Facts, facts}

abbrev pub frees_it : ℕ → ℕ → At → Bool
frees_it row k x = (x.row == row) && not x.puts && (x.version == k)

more_count : (x : At) (xs : List At) (row : ℕ) → count xs row ≤ count (x ∷ xs) row
unfolding count
more_count x xs row = counted_once_more (x.row == row) x.puts (count xs row)

freed_version : (x : At) (xs : List At) (row k : ℕ) → x.version ≡ (if x.puts then count xs x.row + 1 else count xs x.row) → frees_it row k x ≡ true → k ≡ count xs row
freed_version x xs row k e is =
    let both : ((x.row == row) && not x.puts) ≡ true = and_first ((x.row == row) && not x.puts) (x.version == k) is in
    let here : x.row ≡ row = eqb-true x.row row (and_first (x.row == row) (not x.puts) both) in
    let at : x.version ≡ k = eqb-true x.version k (and_second ((x.row == row) && not x.puts) (x.version == k) is) in
    sym at ∙ (released x.puts (and_second (x.row == row) (not x.puts) both) e ∙ ap (count xs) here) where
      released : (b : Bool) → not b ≡ true → x.version ≡ (if b then count xs x.row + 1 else count xs x.row) → x.version ≡ count xs x.row
      released true q e = absurd (false≢true q)
      released false q e = e

pub released_had : (log : List At) (row k : ℕ) → IsCounted log → 0 < total (λ x. one_if (frees_it row k x)) log → k ≤ count log row
unfolding total
released_had [] row k c some = absurd (omega (arith, some))
released_had (x ∷ xs) row k c some = at (λ more. released_had xs row k c.1 more) (frees_it row k x) refl some where
  at : (0 < total (λ x. one_if (frees_it row k x)) xs → k ≤ count xs row) → (b : Bool) → frees_it row k x ≡ b → 0 < one_if b + total (λ x. one_if (frees_it row k x)) xs → k ≤ count (x ∷ xs) row
  at behind true is some = omega (arith, freed_version x xs row k c.0 is, more_count x xs row)
  at behind false is some = omega (arith, behind (omega (arith, some)), more_count x xs row)

opening : (row k : ℕ) → 0 < one_if ((k == 0) && opens_free row) → k ≡ 0
opening row k some = at (k == 0) refl some where
  at : (b : Bool) → (k == 0) ≡ b → 0 < one_if (b && opens_free row) → k ≡ 0
  at true e some = eqb-true k 0 e
  at false e some = absurd (omega (arith, some))

pub free_had : (log : List At) (row k : ℕ) → IsCounted log → 0 < frees_at log row k → k ≤ count log row
free_had log row k c some = elim (cases_lt 0 (total (λ x. one_if (frees_it row k x)) log)) [
  | inl released ↦ released_had log row k c released
  | inr none ↦ (let e : k ≡ 0 = opening row k (omega (arith, some, none)) in omega (arith, e))
]

put_made : (at row v k : ℕ) → at ≡ row → v ≡ k → 0 < total (λ x. one_if (makes row k x)) (at_put at v ∷ [])
unfolding total
put_made at row v k e f = let q : ((at == row) && (v == k)) ≡ true = and_from (at == row) (v == k) (eq-eqb at row e) (eq-eqb v k f) in omega (arith, ap one_if q)

free_made : (at row v k : ℕ) → at ≡ row → v ≡ k → 0 < total (λ x. one_if (frees_it row k x)) (at_free at v ∷ [])
unfolding total
free_made at row v k e f =
    let q : (((at == row) && true) && (v == k)) ≡ true = and_from ((at == row) && true) (v == k) (and_from (at == row) true (eq-eqb at row e) refl) (eq-eqb v k f) in
    omega (arith, ap one_if q)

two_had : (first second k n : ℕ) → first / 4 ≤ second / 4 → second / 4 ≤ n → (first / 4 ≡ k) ⊎ (second / 4 ≡ k) → k ≤ n
two_had first second k n up low (inl e) = omega (arith, up, low, e)
two_had first second k n up low (inr e) = omega (arith, low, e)

pub four : (w k : ℕ) → w ≡ 4 * k → w / 4 ≡ k
four w k e = omega (arith, e)

module _ (flags : List ℕ) (before : List (List Call)) (m : Moment) (s : IsShared flags before (phase_of m)) where
  pub rows_are : (row : ℕ) → 0 < row → marked s.marks row ≡ count (changes_of (all_calls (phase_of m ++ before))) row
  rows_are row up = marked_is s.marks (phase_of m ++ before) row up s.order.once

  pub changes_are : (row : ℕ) → count (changes_of (all_calls (phase_of m ++ before))) row ≡ count s.log row
  changes_are row = count_is s.log (changes_of (all_calls (phase_of m ++ before))) row s.joint.once

  put_had : (at row v k : ℕ) → at ≡ row → v ≡ k → ((h : At → ℕ) → total h (at_put at v ∷ []) ≤ total h s.log) → k ≤ count s.log row
  put_had at row v k e f weigh = had s.log row k s.joint.chain (omega (arith, put_made at row v k e f, weigh (λ x. one_if (makes row k x))))

  held_had : (at row first second k : ℕ) → 0 < row → at ≡ row → first / 4 ≤ second / 4 → second / 4 ≤ marked s.marks at → (first / 4 ≡ k) ⊎ (second / 4 ≡ k) → k ≤ count s.log row
  held_had at row first second k up e rise known names =
      let n : marked s.marks at ≡ count s.log row = ap (marked s.marks) e ∙ (rows_are row up ∙ changes_are row) in
      two_had first second k (count s.log row) rise (omega (arith, known, n)) names

  seen_had : (at row v k : ℕ) → at ≡ row → v ≡ k → v ≤ count s.log at → k ≤ count s.log row
  seen_had at row v k e f low = omega (arith, low, f, ap (count s.log) e)

  by_call : (call : Call) (row k : ℕ) → Facts flags before m s call → 0 < row → Names call row k → k ≤ count s.log row
  by_call (Adds at amount (Counted r v)) row k f up names = put_had r row v k names.0 names.1 f.changes
  by_call (Adds at amount (Held r first second)) row k f up names = held_had r row first second k up names.0 f.rising.1 f.caused.known names.1
  by_call (Rings at content (Done v)) row k f up names = put_had at row v k names.0 names.1 f.changes
  by_call (Rings at content (Busy first second)) row k f up names = held_had at row first second k up names.0 f.rising.1 f.caused.known names.1
  by_call (Rings at content (Late ticket v)) row k f up names = seen_had at row v k names.0 names.1 f.agrees.1
  by_call (Reads at (Whole v found)) row k f up names = seen_had at row v k names.0 names.1 f.agrees.1
  by_call (Reads at (Free w)) row k f up names =
      let v : ℕ = f.agrees.0 in
      let e : w / 4 ≡ v = four w v f.agrees.1.0 in
      seen_had at row v k names.0 (sym e ∙ names.1) (free_had s.log at v s.joint.chain f.agrees.1.1)
  by_call (Reads at (sees.Busy first second)) row k f up names = held_had at row first second k up names.0 f.rising.1 f.caused.known names.1
  by_call (Loads at v flags) row k f up names = absurd names
  by_call (Draws kind ticket) row k f up names = absurd names
  by_call (Meets versions) row k f up names = absurd names
  by_call (Takes at v found) row k f up names = seen_had at row v k names.0 names.1 f.agrees.1
  by_call (Puts at content v) row k f up names = put_had at row v k names.0 names.1 f.changes
  by_call (Frees at v) row k f up names =
      released_had s.log row k s.joint.chain (omega (arith, free_made at row v k names.0 names.1, f.changes (λ x. one_if (frees_it row k x))))
  by_call (Sets at to v) row k f up names = absurd names
  by_call (Enters label labels) row k f up names = absurd names
  by_call Leaves row k f up names = absurd names

  -- of words
  words_are : (word : ℕ) → word_version (sets_of (all_calls (phase_of m ++ before))) word ≡ word_version s.sets word
  words_are word =
      let all = sets_of (all_calls (phase_of m ++ before)) in
      let by : (sets : List Setting) → total (λ x. puts_to word (at_set x)) sets ≡ word_version sets word =
      λ sets. sym (total_map at_set (puts_to word) sets) ∙ (log_count (map at_set sets) word ∙ sets_count sets word) in
      sym (by all) ∙ (s.joint.sets_once (λ x. puts_to word (at_set x)) ∙ by s.sets)

  set_had : (at word v flags k : ℕ) → at ≡ word → v ≡ k → ((h : Setting → ℕ) → total h (record { word = at; version = v; flags = flags } ∷ []) ≤ total h s.sets) → k ≤ word_version s.sets word
  set_had at word v flags k e f weigh =
      let one = put_made at word v k e f in
      let a = total_map at_set (λ x. one_if (makes word k x)) (record { word = at; version = v; flags = flags } ∷ []) in
      let b = total_map at_set (λ x. one_if (makes word k x)) s.sets in
      let low = had (map at_set s.sets) word k (sets_counted s.sets s.joint.words) (omega (arith, one, a, b, weigh (λ x. one_if (makes word k (at_set x))))) in
      omega (arith, low, sets_count s.sets word)

  by_word : (call : Call) (word k : ℕ) → Facts flags before m s call → word < 160 → NamesWord call word k → k ≤ word_version s.sets word
  by_word (Loads at v found) word k f up names = omega (arith, f.agrees.1, names.1, ap (word_version s.sets) names.0)
  by_word (Sets at to v) word k f up names = set_had at word v to k names.0 names.1 f.sets
  by_word (Meets versions) word k f up names = omega (arith, f.agrees word up, names)
  by_word (Adds at amount answer) word k f up names = absurd names
  by_word (Rings at content answer) word k f up names = absurd names
  by_word (Reads at seen) word k f up names = absurd names
  by_word (Draws kind ticket) word k f up names = absurd names
  by_word (Takes at v found) word k f up names = absurd names
  by_word (Puts at content v) word k f up names = absurd names
  by_word (Frees at v) word k f up names = absurd names
  by_word (Enters label labels) word k f up names = absurd names
  by_word Leaves word k f up names = absurd names

pub rows_had : HadLaw
rows_had = λ flags before m row k s up names.
    omega (arith, by_call flags before m s m.call row k (facts flags before m s) up names, changes_are flags before m s row)

pub words_had : WordHadLaw
words_had = λ flags before m word k s up names.
    omega (arith, by_word flags before m s m.call word k (facts flags before m s) up names, words_are flags before m s word)
