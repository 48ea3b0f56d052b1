-- What is printed up to a phase, or before it, counted: as many changes, releases and sets as its actors made.
use Rattle.std.proofs.Common.{ℕ, zero, suc, ◌≡◌, ◌+◌, ◌<◌, ◌==◌, Bool, true, false, not, cond, ◌&&◌, List, [], ◌∷◌, ◌++◌, map, inl, inr, refl, ap, sym, ◌∙◌, subst, arith}
use Rattle.std.specs.Prelude.{◌⊎◌, nat_lt, nat_le, ◌||◌}
use Rattle.std.proofs.lemmas.Bool.{cases_lt, eqb-true, false≢true}
use Rattle.std.proofs.lemmas.Bool.Decides.{nat_tests}
use Rattle.pfs_lemmas.proofs.Bools.{and_first, and_second}
use Rattle.pfs_event.specs.declared.entry.Entry.{Entry}
use Rattle.pfs_event.specs.declared.entry.Entry.TheVariants as says
use Rattle.pfs_levels.specs.Calls.{Call}
use Rattle.pfs_levels.specs.JointCalls.{total, one_if, At, Setting, changes_of, count, sets_of, word_version, frees_at, all_calls}
use Rattle.pfs_levels.specs.JointCalls.{opens_free as opens_free_there}
use Rattle.pfs_levels.specs.CallOrder.{all_marks, released}
use Rattle.pfs_model.specs.Actions.{IsAmong, settings_of, setting_at}
use Rattle.pfs_model.specs.Chains.{times, change_at, row_change, word_change, release_of, each_of, is_of, is_that, opens_free, is_free_after}
use Rattle.pfs_model.specs.EntryPlaces.{Placed, before_phase, up_to_phase}
use Rattle.pfs_model.specs.declared.changes.Change.{Change}
use Rattle.pfs_law_session.specs.Stints.{AreStints}
use Rattle.pfs_law_plain.specs.RunRules.{entries_of}
use Rattle.pfs_law_plain.specs.SessionNotes.{ToldLaw}
use Rattle.pfs_law_plain.specs.Spells.{Spell, stints_of}
use Rattle.pfs_law_plain.specs.Weights.{put_at, free_at, setting_of, AreWeighed, WeighedLaw}
use Rattle.pfs_law_joint.specs.Versions.{at_set}
use Rattle.pfs_law_joint.proofs.MarkSums.{all_row_sums, off_zero}
use Rattle.pfs_law_joint.proofs.Sums.{total_then, total_map}
use Rattle.pfs_law_joint.proofs.VersionChains.{puts_to, log_count, sets_count}
use Rattle.pfs_law_shared.specs.Shares.{actors_of, spells_at, spells_before}
use Rattle.pfs_law_shared.proofs.ActorSums.{IsAdditive, changes_add, sets_add, phase_sum}
use Rattle.pfs_law_shared.proofs.PhaseChains.{times_then}
use Rattle.pfs_law_shared.proofs.PhaseWalks.{over, over_then}
use Rattle.pfs_law_shared.proofs.PhaseWeights.{calls_up_to, weighed_up_to}
use Rattle.pfs_law_shared.proofs.RisingNumbers.{over_next, before_zero}

-- a release of the row at the version
abbrev frees_it : ℕ → ℕ → At → Bool
frees_it row k x = (x.row == row) && not x.puts && (x.version == k)

-- entries print what calls changed
pub record ArePrinted (ps : List Placed) (calls : List Call) : Type 0 where
  pub rows : (h : At → ℕ) → total (λ c. h (put_at c)) (each_of row_change ps) + total (λ c. h (free_at c)) (each_of release_of ps) ≡ total h (changes_of calls)
  pub sets : (h : Setting → ℕ) → total (λ s. h (setting_of s)) (settings_of ps) ≡ total h (sets_of calls)

-- sums over all actors
module _ (weigh : List Call → ℕ) (adds : IsAdditive weigh) where
  pub all_over : (actors : List (List Call)) → weigh (all_calls actors) ≡ over weigh actors
  unfolding all_calls
  all_over [] = adds.none
  all_over (calls ∷ actors) = omega (arith, adds.both calls (all_calls actors), all_over actors)

  before_sum : (phase : ℕ) (spells : List Spell) → weigh (all_calls (actors_of (spells_before (suc phase) spells))) ≡ weigh (all_calls (actors_of (spells_at phase spells) ++ actors_of (spells_before phase spells)))
  before_sum phase spells =
      let now : List (List Call) = actors_of (spells_at phase spells) in
      let before : List (List Call) = actors_of (spells_before phase spells) in
      omega (arith, all_over (actors_of (spells_before (suc phase) spells)), all_over (now ++ before), over_next weigh phase spells, over_then weigh now before)

-- entries before the next phase are those up to this one
next_phase : (p phase : ℕ) → nat_lt p (suc phase) ≡ nat_le p phase
next_phase p phase = grind arith

before_next : (phase : ℕ) (ps : List Placed) → before_phase (suc phase) ps ≡ up_to_phase phase ps
before_next phase [] = refl
before_next phase (p ∷ ps) = ap (λ b. cond b (p ∷ []) [] ++ before_phase (suc phase) ps) (next_phase p.phase phase) ∙ ap (λ z. cond (nat_le p.phase phase) (p ∷ []) [] ++ z) (before_next phase ps)

none_earlier : (p : ℕ) → nat_lt p 0 ≡ false
none_earlier p = grind arith

before_first : (ps : List Placed) → before_phase 0 ps ≡ []
before_first [] = refl
before_first (p ∷ ps) = ap (λ b. cond b (p ∷ []) [] ++ before_phase 0 ps) (none_earlier p.phase) ∙ before_first ps

module _ (told : ToldLaw) (weighed : WeighedLaw) (stack : ℕ) (depths : ℕ → ℕ) (spells : List Spell) (are : AreStints stack depths (stints_of spells)) where
  pub printed_up_to : (phase : ℕ) → ArePrinted (up_to_phase phase (entries_of spells)) (all_calls (actors_of (spells_at phase spells) ++ actors_of (spells_before phase spells)))
  printed_up_to phase =
      let w : AreWeighed (up_to_phase phase (entries_of spells)) (calls_up_to phase spells) = weighed_up_to told weighed phase stack depths spells are in
      record {
        rows = λ h. w.rows h ∙ sym (phase_sum (λ calls. total h (changes_of calls)) (changes_add h) phase spells);
        sets = λ h. w.sets h ∙ sym (phase_sum (λ calls. total h (sets_of calls)) (sets_add h) phase spells);
      }

  pub printed_before : (phase : ℕ) → ArePrinted (before_phase phase (entries_of spells)) (all_calls (actors_of (spells_before phase spells)))
  unfolding total changes_of sets_of all_calls
  printed_before zero =
      subst (λ z. ArePrinted z (all_calls (actors_of (spells_before 0 spells)))) (sym (before_first (entries_of spells)))
      (subst (λ z. ArePrinted [] (all_calls (actors_of z))) (sym (before_zero spells)) (record { rows = λ h. refl; sets = λ h. refl }))
  printed_before (suc phase) =
      let w = printed_up_to phase in
      subst (λ z. ArePrinted z (all_calls (actors_of (spells_before (suc phase) spells)))) (sym (before_next phase (entries_of spells)))
      (record {
        rows = λ h. w.rows h ∙ sym (before_sum (λ calls. total h (changes_of calls)) (changes_add h) phase spells);
        sets = λ h. w.sets h ∙ sym (before_sum (λ calls. total h (sets_of calls)) (sets_add h) phase spells);
      })

-- by rows
puts_count : (cs : List Change) (row : ℕ) → total (λ c. puts_to row (put_at c)) cs ≡ times (is_of row) cs
unfolding total
puts_count [] row = refl
puts_count (c ∷ cs) row = omega (arith, puts_count cs row, one (c.row == row)) where
  one : (b : Bool) → one_if (b && true) ≡ cond {A = ℕ} b 1 0
  one true = refl
  one false = refl

frees_count : (cs : List Change) (row : ℕ) → total (λ c. puts_to row (free_at c)) cs ≡ 0
unfolding total
frees_count [] row = refl
frees_count (c ∷ cs) row = omega (arith, frees_count cs row, one (c.row == row)) where
  one : (b : Bool) → one_if (b && false) ≡ 0
  one true = refl
  one false = refl

pub rows_counted : (ps : List Placed) (calls : List Call) → ArePrinted ps calls → (row : ℕ) → times (is_of row) (each_of row_change ps) ≡ count (changes_of calls) row
rows_counted ps calls w row =
    omega (arith, w.rows (puts_to row), puts_count (each_of row_change ps) row, frees_count (each_of release_of ps) row, log_count (changes_of calls) row)

puts_free : (cs : List Change) (row k : ℕ) → total (λ c. one_if (frees_it row k (put_at c))) cs ≡ 0
unfolding total
puts_free [] row k = refl
puts_free (c ∷ cs) row k = omega (arith, puts_free cs row k, one (c.row == row) (c.version == k)) where
  one : (b d : Bool) → one_if (b && false && d) ≡ 0
  one true d = refl
  one false d = refl

frees_free : (cs : List Change) (row k : ℕ) → total (λ c. one_if (frees_it row k (free_at c))) cs ≡ times (is_that (change_at row k)) cs
unfolding total
frees_free [] row k = refl
frees_free (c ∷ cs) row k = omega (arith, frees_free cs row k, one (c.row == row) (c.version == k)) where
  one : (b d : Bool) → one_if (b && true && d) ≡ cond {A = ℕ} (b && d) 1 0
  one true true = refl
  one true false = refl
  one false d = refl

pub frees_counted : (ps : List Placed) (calls : List Call) → ArePrinted ps calls → (row k : ℕ) → times (is_that (change_at row k)) (each_of release_of ps) ≡ total (λ x. one_if (frees_it row k x)) (changes_of calls)
frees_counted ps calls w row k = omega (arith, w.rows (λ x. one_if (frees_it row k x)), puts_free (each_of row_change ps) row k, frees_free (each_of release_of ps) row k)

-- by words
entry_words : (word action : ℕ) (e : Entry) → total (λ s. puts_to word (at_set (setting_of s))) (setting_at action e) ≡ times (is_of word) (word_change e)
unfolding total
entry_words word action (says.Set at version flags) = one (at == word) where
  one : (b : Bool) → one_if (b && true) + 0 ≡ cond b 1 0 + 0
  one true = refl
  one false = refl
entry_words word action _ = refl

settings_words : (word : ℕ) (ps : List Placed) → total (λ s. puts_to word (at_set (setting_of s))) (settings_of ps) ≡ times (is_of word) (each_of word_change ps)
unfolding total
settings_words word [] = refl
settings_words word (p ∷ ps) =
    let a = total_then (λ s. puts_to word (at_set (setting_of s))) (setting_at p.context.action p.entry) (settings_of ps) in
    let b = times_then (is_of word) (word_change p.entry) (each_of word_change ps) in
    omega (arith, a, b, entry_words word p.context.action p.entry, settings_words word ps)

pub words_counted : (ps : List Placed) (calls : List Call) → ArePrinted ps calls → (word : ℕ) → times (is_of word) (each_of word_change ps) ≡ word_version (sets_of calls) word
words_counted ps calls w word =
    let sets = sets_of calls in
    sym (settings_words word ps) ∙ (w.sets (λ s. puts_to word (at_set s)) ∙ (sym (total_map at_set (puts_to word) sets) ∙ (log_count (map at_set sets) word ∙ sets_count sets word)))

-- a row that stands free
opens_alike : (row : ℕ) → 0 < row → opens_free row ≡ opens_free_there row
opens_alike row up = grind (arith, nat_tests)

or_opens : (n : ℕ) (b : Bool) → (nat_lt 0 n || b) ≡ nat_lt 0 (n + one_if b)
or_opens n true = grind (arith, nat_tests)
or_opens n false = grind (arith, nat_tests)

pub free_is : (ps : List Placed) (calls : List Call) → ArePrinted ps calls → (row : ℕ) → 0 < row → is_free_after ps row ≡ nat_lt 0 (frees_at (changes_of calls) row (count (changes_of calls) row))
free_is ps calls w row up =
    ap (λ z. nat_lt 0 (times (is_that (change_at row z)) (each_of release_of ps)) || ((z == 0) && opens_free row)) (rows_counted ps calls w row)
    ∙ (ap (λ z. nat_lt 0 z || ((n == 0) && opens_free row)) (frees_counted ps calls w row n)
    ∙ (ap (λ b. nat_lt 0 (total (λ x. one_if (frees_it row n x)) (changes_of calls)) || ((n == 0) && b)) (opens_alike row up)
    ∙ or_opens (total (λ x. one_if (frees_it row n x)) (changes_of calls)) ((n == 0) && opens_free_there row)))
  where
    n : ℕ
    n = count (changes_of calls) row

pub stands_free : (ps : List Placed) (calls : List Call) → ArePrinted ps calls → (row : ℕ) → 0 < row → is_free_after ps row ≡ true → 0 < frees_at (changes_of calls) row (count (changes_of calls) row)
stands_free ps calls w row up is = some (nat_lt 0 (frees_at (changes_of calls) row n)) refl (sym (free_is ps calls w row up) ∙ is) where
  n : ℕ
  n = count (changes_of calls) row

  some : (b : Bool) → nat_lt 0 (frees_at (changes_of calls) row n) ≡ b → b ≡ true → 0 < frees_at (changes_of calls) row n
  some true e q = positive (frees_at (changes_of calls) row n) e where
    positive : (m : ℕ) → nat_lt 0 m ≡ true → 0 < m
    positive m e = grind arith
  some false e q = absurd (false≢true q)

-- one that is counted is among them
that_is : (x c : Change) → is_that c x ≡ true → x ≡ c
that_is x c e =
    let row : x.row ≡ c.row = eqb-true x.row c.row (and_first (x.row == c.row) (x.version == c.version) e) in
    let version : x.version ≡ c.version = eqb-true x.version c.version (and_second (x.row == c.row) (x.version == c.version) e) in
    λ i. record { row = row i; version = version i }

pub times_among : (c : Change) (cs : List Change) → 0 < times (is_that c) cs → IsAmong c cs
times_among c [] some = absurd (omega (arith, some))
times_among c (x ∷ xs) some = at (is_that c x) refl some (λ more. times_among c xs more) where
  at : (b : Bool) → is_that c x ≡ b → 0 < cond b 1 0 + times (is_that c) xs → (0 < times (is_that c) xs → IsAmong c xs) → (x ≡ c) ⊎ IsAmong c xs
  at true e some go = inl (that_is x c e)
  at false e some go = inr (go (omega (arith, some)))

-- a release by an actor is printed
pub release_printed : (ps : List Placed) (actors : List (List Call)) → ArePrinted ps (all_calls actors) → (row k : ℕ) → 0 < row → 0 < released (all_marks actors) row k → IsAmong (change_at row k) (each_of release_of ps)
release_printed ps actors w row k up some =
    let a = all_row_sums (λ x. one_if (frees_it row k x)) (λ x zero. ap (λ b. one_if (b && not x.puts && (x.version == k))) (off_zero row up x zero)) actors in
    times_among (change_at row k) (each_of release_of ps) (omega (arith, some, a, frees_counted ps (all_calls actors) w row k))

-- a row that was found free opened so, or its release is printed
pub free_printed : (ps : List Placed) (calls : List Call) → ArePrinted ps calls → (row k : ℕ) → 0 < row → 0 < frees_at (changes_of calls) row k → ((opens_free row ≡ true) × (k ≡ 0)) ⊎ IsAmong (change_at row k) (each_of release_of ps)
free_printed ps calls w row k up some = elim (cases_lt 0 (total (λ x. one_if (frees_it row k x)) (changes_of calls))) [
  | inl more ↦ inr (times_among (change_at row k) (each_of release_of ps) (omega (arith, more, frees_counted ps calls w row k)))
  | inr none ↦ inl (opened ((k == 0) && opens_free_there row) refl (omega (arith, some, none)))
] where
  opened : (b : Bool) → ((k == 0) && opens_free_there row) ≡ b → 0 < one_if ((k == 0) && opens_free_there row) → (opens_free row ≡ true) × (k ≡ 0)
  opened true e some = (opens_alike row up ∙ and_second (k == 0) (opens_free_there row) e, eqb-true k 0 (and_first (k == 0) (opens_free_there row) e))
  opened false e some = absurd (omega (arith, some, ap one_if e))
