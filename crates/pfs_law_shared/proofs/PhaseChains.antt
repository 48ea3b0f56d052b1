-- At each phase's end what is printed of rows and of words are chains.
use Rattle.std.proofs.Common.{ℕ, ◌≡◌, ◌+◌, ◌==◌, Bool, true, false, cond, ◌&&◌, List, [], ◌∷◌, ◌++◌, map, refl, ap, sym, ◌∙◌, arith}
use Rattle.std.specs.Prelude.{nat_lt, nat_le}
use Rattle.pfs_lemmas.proofs.Bools.{and_false}
use Rattle.pfs_event.specs.declared.entry.Entry.{Entry}
use Rattle.pfs_event.specs.declared.entry.Entry.TheVariants as says
use Rattle.pfs_levels.specs.JointCalls.{total, one_if, At, IsCounted, count, changes_of, sets_of}
use Rattle.pfs_model.specs.Actions.{settings_of, setting_at}
use Rattle.pfs_model.specs.Actions.{Setting as PrintedSetting}
use Rattle.pfs_model.specs.Chains.{IsChained, times, is_of, is_that, row_change, word_change, release_of, each_of}
use Rattle.pfs_model.specs.EntryPlaces.{Placed, up_to_phase}
use Rattle.pfs_model.specs.declared.changes.Change.{Change}
use Rattle.pfs_law_session.specs.Stints.{AreStints}
use Rattle.pfs_law_plain.specs.RunRules.{entries_of}
use Rattle.pfs_law_plain.specs.SessionNotes.{ToldLaw}
use Rattle.pfs_law_plain.specs.Spells.{Spell, stints_of}
use Rattle.pfs_law_plain.specs.Weights.{put_at, free_at, setting_of, AreWeighed, WeighedLaw}
use Rattle.pfs_law_joint.specs.Phases.{IsShared}
use Rattle.pfs_law_joint.specs.Versions.{makes, at_set, ChainLaw, SetsLaw}
use Rattle.pfs_law_joint.specs.Versions.{IsChained as IsChain}
use Rattle.pfs_law_joint.proofs.Sums.{total_then, total_map}
use Rattle.pfs_law_joint.proofs.VersionChains.{puts_to, log_count}
use Rattle.pfs_law_shared.specs.Shares.{actors_of, spells_at, spells_before, AreShared}
use Rattle.pfs_law_shared.specs.Journals.{HaveChains}
use Rattle.pfs_law_shared.proofs.PhaseWeights.{calls_up_to, weighed_up_to}
use Rattle.pfs_law_shared.proofs.ActorSums.{changes_add, sets_add, phase_sum}

-- printed changes of rows, as those of the store
abbrev told_changes : List Change → List Change → List At
told_changes rows frees = map put_at rows ++ map free_at frees

pub put_times : (rows : List Change) (change : Change) → total (λ x. one_if (makes change.row change.version x)) (map put_at rows) ≡ times (is_that change) rows
unfolding total
put_times [] change = refl
put_times (c ∷ cs) change = ap (λ n. one_if (is_that change c) + n) (put_times cs change)

free_none : (frees : List Change) (row version : ℕ) → total (λ x. one_if (makes row version x)) (map free_at frees) ≡ 0
unfolding total
free_none [] row version = refl
free_none (c ∷ cs) row version = omega (arith, ap one_if (and_false (c.row == row)), free_none cs row version)

pub put_any : (rows : List Change) (row : ℕ) → total (puts_to row) (map put_at rows) ≡ times (is_of row) rows
unfolding total
put_any [] row = refl
put_any (c ∷ cs) row = ap (λ n. puts_to row (put_at c) + n) (put_any cs row) ∙ at (c.row == row) (times (is_of row) cs) where
  at : (b : Bool) (n : ℕ) → one_if (b && true) + n ≡ cond b 1 0 + n
  at true n = refl
  at false n = refl

free_never : (frees : List Change) (row : ℕ) → total (puts_to row) (map free_at frees) ≡ 0
unfolding total
free_never [] row = refl
free_never (c ∷ cs) row = omega (arith, ap one_if (and_false (c.row == row)), free_never cs row)

told_count : (rows frees : List Change) (row : ℕ) → count (told_changes rows frees) row ≡ times (is_of row) rows
told_count rows frees row =
    let a = total_then (puts_to row) (map put_at rows) (map free_at frees) in
    sym (log_count (told_changes rows frees) row) ∙ omega (arith, a, put_any rows row, free_never frees row)

rows_chained : ChainLaw → (rows frees : List Change) (log : List At) → IsCounted log
    → ((h : At → ℕ) → total (λ c. h (put_at c)) rows + total (λ c. h (free_at c)) frees ≡ total h log) → IsChained rows
rows_chained law rows frees log counted same = λ change.
    (let some : List At = told_changes rows frees in
    let weighs : (h : At → ℕ) → total h some ≡ total h log =
    λ h. omega (arith, total_then h (map put_at rows) (map free_at frees), total_map put_at h rows, total_map free_at h frees, same h) in
    let k : IsChain change.row log some = law change.row log some counted (λ h off. weighs h) in
    let test : At → ℕ = λ x. one_if (makes change.row change.version x) in
    let here : times (is_that change) rows ≡ total test some =
    omega (arith, total_then test (map put_at rows) (map free_at frees), put_times rows change, free_none frees change.row change.version) in
    here ∙ (k.once change.version ∙ ap (λ n. one_if (nat_lt 0 change.version && nat_le change.version n)) (told_count rows frees change.row)))

-- printed sets of words
pub times_then : (test : Change → Bool) (xs ys : List Change) → times test (xs ++ ys) ≡ times test xs + times test ys
times_then test [] ys = omega arith
times_then test (x ∷ xs) ys = omega (arith, times_then test xs ys)

entry_sets : (change : Change) (action : ℕ) (e : Entry) → total (λ s. one_if (makes change.row change.version (at_set (setting_of s)))) (setting_at action e) ≡ times (is_that change) (word_change e)
unfolding total
entry_sets change action (says.Set word version flags) = refl
entry_sets change action _ = refl

set_times : (change : Change) (ps : List Placed) → total (λ s. one_if (makes change.row change.version (at_set (setting_of s)))) (settings_of ps) ≡ times (is_that change) (each_of word_change ps)
unfolding total
set_times change [] = refl
set_times change (p ∷ ps) =
    let a = total_then (λ s. one_if (makes change.row change.version (at_set (setting_of s)))) (setting_at p.context.action p.entry) (settings_of ps) in
    let b = times_then (is_that change) (word_change p.entry) (each_of word_change ps) in
    omega (arith, a, b, entry_sets change p.context.action p.entry, set_times change ps)

entry_any : (word action : ℕ) (e : Entry) → total (λ s. puts_to word (at_set (setting_of s))) (setting_at action e) ≡ times (is_of word) (word_change e)
unfolding total
entry_any word action (says.Set at version flags) = one (at == word) where
  one : (b : Bool) → one_if (b && true) + 0 ≡ cond b 1 0 + 0
  one true = refl
  one false = refl
entry_any word action _ = refl

set_any : (word : ℕ) (ps : List Placed) → total (λ s. puts_to word (at_set (setting_of s))) (settings_of ps) ≡ times (is_of word) (each_of word_change ps)
unfolding total
set_any word [] = refl
set_any word (p ∷ ps) =
    let a = total_then (λ s. puts_to word (at_set (setting_of s))) (setting_at p.context.action p.entry) (settings_of ps) in
    let b = times_then (is_of word) (word_change p.entry) (each_of word_change ps) in
    omega (arith, a, b, entry_any word p.context.action p.entry, set_any word ps)

abbrev told_sets : List Placed → List At
told_sets ps = map (λ s. at_set (setting_of s)) (settings_of ps)

words_chained : ChainLaw → (ps : List Placed) (log : List At) → IsCounted log
    → ((h : At → ℕ) → total (λ s. h (at_set (setting_of s))) (settings_of ps) ≡ total h log) → IsChained (each_of word_change ps)
words_chained law ps log counted same = λ change.
    (let some : List At = told_sets ps in
    let to : PrintedSetting → At = λ s. at_set (setting_of s) in
    let weighs : (h : At → ℕ) → total h some ≡ total h log = λ h. total_map to h (settings_of ps) ∙ same h in
    let k : IsChain change.row log some = law change.row log some counted (λ h off. weighs h) in
    let here = sym (set_times change ps) ∙ sym (total_map to (λ x. one_if (makes change.row change.version x)) (settings_of ps)) in
    let n : count some change.row ≡ times (is_of change.row) (each_of word_change ps) =
    sym (log_count some change.row) ∙ (total_map to (puts_to change.row) (settings_of ps) ∙ set_any change.row ps) in
    here ∙ (k.once change.version ∙ ap (λ z. one_if (nat_lt 0 change.version && nat_le change.version z)) n))

pub chains_kept : ChainLaw → SetsLaw → ToldLaw → WeighedLaw → (flags : List ℕ) (stack : ℕ) (depths : ℕ → ℕ) (spells : List Spell)
    → AreStints stack depths (stints_of spells) → AreShared flags spells → HaveChains spells
chains_kept law counts told weighed flags stack depths spells are shared = record { rows = rows; words = words } where
  printed : (phase : ℕ) → AreWeighed (up_to_phase phase (entries_of spells)) (calls_up_to phase spells)
  printed phase = weighed_up_to told weighed phase stack depths spells are

  rows : (phase : ℕ) → IsChained (each_of row_change (up_to_phase phase (entries_of spells)))
  rows phase =
      let s : IsShared flags (actors_of (spells_before phase spells)) (actors_of (spells_at phase spells)) = shared phase in
      let ps : List Placed = up_to_phase phase (entries_of spells) in
      let w : AreWeighed ps (calls_up_to phase spells) = printed phase in
      rows_chained law (each_of row_change ps) (each_of release_of ps) s.log s.joint.chain
      (λ h. w.rows h ∙ (sym (phase_sum (λ calls. total h (changes_of calls)) (changes_add h) phase spells) ∙ s.joint.once h))

  words : (phase : ℕ) → IsChained (each_of word_change (up_to_phase phase (entries_of spells)))
  words phase =
      let s : IsShared flags (actors_of (spells_before phase spells)) (actors_of (spells_at phase spells)) = shared phase in
      let ps : List Placed = up_to_phase phase (entries_of spells) in
      let w : AreWeighed ps (calls_up_to phase spells) = printed phase in
      words_chained law ps (map at_set s.sets) (counts s.sets s.joint.words)
      (λ h. w.sets (λ z. h (at_set z)) ∙ (sym (phase_sum (λ calls. total (λ z. h (at_set z)) (sets_of calls)) (sets_add (λ z. h (at_set z))) phase spells)
      ∙ (s.joint.sets_once (λ z. h (at_set z)) ∙ sym (total_map at_set h s.sets))))
