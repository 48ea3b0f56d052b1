-- The flags that are collected are those of a run.
use Rattle.std.proofs.Common.{◌≡◌, refl, ℕ, ◌==◌, Bool, true, false, ◌&&◌, List, [], ◌∷◌, ◌++◌, sym, ◌∙◌, ap, subst, Option, Some, None}
use Rattle.std.specs.Prelude.{cond, slice_index_or}
use Rattle.std.specs.BTreeMap.{get}
use Rattle.pfs_event.specs.declared.entry.Entry.{Entry}
use Rattle.pfs_event.specs.declared.entry.Entry.TheVariants as says
use Rattle.pfs_model.specs.Actions.{Setting, setting_at, settings_of}
use Rattle.pfs_model.specs.EntryPlaces.{Placed}
use Rattle.pfs_model.specs.SetupFlags.{flags_at}
use Rattle.pfs_check_faults.specs.ReportCases.{Case, Findings, entries_of, flags_in, terms_in}
use Rattle.pfs_check_visits.specs.Visits.{AreVisited}
use Rattle.pfs_check_visits.specs.declared.visited.Visited.{Visited}
use Rattle.pfs_check_visits.proofs.EntryCounts.{all_known}
use Rattle.pfs_check_walk.specs.Walks.{onto}
use Rattle.pfs_check_verdicts.specs.declared.flags.PrintedFlags.{PrintedFlags}
use Rattle.pfs_check_verdicts.specs.PrintedSets.{AreFlagsSoFar, AreSetsOf, GivesFlags, first_set, flags_or, or_first, set_to, word_at, word_cmp}

-- one entry more in front of others
set_more : (opening : ℕ → ℕ) (action : ℕ) (entry : Entry) (others : List Setting) (word version : ℕ)
    → flags_or (set_to (word_at word version) entry) (flags_at opening others word version)
    ≡ flags_at opening (setting_at action entry ++ others) word version
set_more opening action (says.Set one at flags) others word version = on ((one == word) && (at == version)) where
  on : (b : Bool) → flags_or (cond b (Some flags) None) (flags_at opening others word version) ≡ cond b flags (flags_at opening others word version)
  on true = refl
  on false = refl
set_more opening action _ others word version = refl

behind_first : (first : Option ℕ) (own : Option ℕ) (opening last : ℕ) → flags_or own opening ≡ last → flags_or (or_first first own) opening ≡ flags_or first last
behind_first None own opening last e = e
behind_first (Some flags) own opening last e = refl

-- the entries behind those, and all
flags_onto : (opening : ℕ → ℕ) (word version : ℕ) (earlier places : List Placed)
    → flags_or (first_set (word_at word version) (onto earlier places)) (opening word)
    ≡ flags_or (first_set (word_at word version) earlier) (flags_at opening (settings_of places) word version)
flags_onto opening word version earlier [] = refl
flags_onto opening word version earlier (p ∷ ps) =
    flags_onto opening word version (p ∷ earlier) ps
    ∙ behind_first (first_set (word_at word version) earlier) (set_to (word_at word version) p.entry)
    (flags_at opening (settings_of ps) word version) (flags_at opening (setting_at p.context.action p.entry ++ settings_of ps) word version)
    (set_more opening p.context.action p.entry (settings_of ps) word version)

pub gives_all : (opening : ℕ → ℕ) (all : List Placed) (kept : PrintedFlags) → ((word : ℕ) → opening word ≡ slice_index_or kept.opening.items word 0)
    → AreSetsOf (onto [] all) kept.sets → GivesFlags (flags_at opening (settings_of all)) kept
gives_all opening all kept same sets word version =
    sym (flags_onto opening word version [] all)
    ∙ ap (λ z. flags_or z (opening word)) (sym (sets (word_at word version)))
    ∙ ap (flags_or (get word_cmp kept.sets (word_at word version))) (same word)

-- the walk over a report
pub flags_collected : (case : Case) (found : Findings) (all : List Placed) (kept : PrintedFlags) (visited : Visited) → entries_of found ≡ all
    → AreVisited (λ earlier place. Unit {0}) [] all (λ earlier. AreFlagsSoFar case.setting earlier kept) (Unit {0}) visited
    → GivesFlags (flags_in case found) kept
flags_collected case found all kept visited same v =
    let known : AreFlagsSoFar case.setting (onto [] (entries_of found)) kept =
    subst (λ z. AreFlagsSoFar case.setting (onto [] z) kept) (sym same)
    (all_known all (λ earlier. AreFlagsSoFar case.setting earlier kept) (Unit {0}) visited v) in
    gives_all (terms_in case found).opening (entries_of found) kept (λ word. ap (λ z. slice_index_or z word 0) (sym known.opening_is)) known.sets_are
