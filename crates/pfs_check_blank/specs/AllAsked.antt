-- All that an action may be asked for, as entries.
use Rattle.std.specs.Prelude.{ℕ, ◌≡◌, Bool, true, List, [], ◌∷◌, ◌++◌, map, Some, slice_get}
use Rattle.std.specs.List.{flat_map}
use Rattle.pfs_event.specs.declared.entry.Entry.{Entry}
use Rattle.pfs_event.specs.Logs.{Journal}
use Rattle.pfs_levels.specs.declared.answers.Word.{Word}
use Rattle.pfs_model.specs.ActionAsks.{Did, asked_of, did, moved_by, signed_by}
use Rattle.pfs_model.specs.Chains.{Each}
use Rattle.pfs_levels.specs.Flushes.{Ascends}
use Rattle.pfs_admin.specs.FoldLaws.{row_of}
use Rattle.pfs_admin.specs.Works.{Releases, Sign, Tags, Work, Worked, flagging_entries}
use Rattle.pfs_law_session.specs.Demands.{asked_by}
use Rattle.pfs_check_blank.specs.BlankStores.{AreCalls}

-- whatever was taken had counted something
abbrev pub every : ℕ → Bool
every row = true

-- an entry that tells of one deed, so no other entry stands among those of an action
abbrev pub TellsOne : Entry → Type 0
TellsOne entry = (one : Did) × (did entry ≡ one ∷ [])

-- These entries are all that a work may ask for of one who knows the words so: the changes of rows, each take with all
-- its gives, and behind them the sets, each at its word's next version.
pub record AreAsked (work : Work) (words : List Word) (entries : List Entry) : Type 0 where
  pub changes : List Entry
  pub entries_are : entries ≡ changes ++ flagging_entries words work.flags
  pub tell : Each TellsOne changes
  pub changes_are : flat_map did changes ≡ moved_by every (asked_by work).moves ++ signed_by (asked_by work).signs

-- a journal got them, behind these others
pub record IsAsked (work : Work) (words : List Word) (head : List Entry) (old new : Journal) : Type 0 where
  pub asked : List Entry
  pub grown : new.entries ≡ old.entries ++ (head ++ asked)
  pub are : AreAsked work words asked

abbrev pub AsksLaw : Type 0
AsksLaw = (work : Work) (words : List Word) (head : List Entry) (old new : Journal) (was now : List (List ℕ))
    → Worked work words head old new (λ start calls. AreCalls was calls) (λ start calls. AreCalls now calls)
    → IsAsked work words head old new

-- so they say that all was done that an action of this work does where each take finds something
abbrev pub WholeLaw : Type 0
WholeLaw = (work : Work) (words : List Word) (entries : List Entry) → AreAsked work words entries
    → flat_map did entries ≡ asked_of every (asked_by work)

-- the contents have what each of these signs writes
abbrev pub HaveWords : List (List ℕ) → List Sign → Type 0
HaveWords contents [] = Unit {0}
HaveWords contents (Releases row ∷ signs) = HaveWords contents signs
HaveWords contents (Tags row words ∷ signs) = (slice_get contents row ≡ Some words) × HaveWords contents signs

-- where the rows of signs ascend, so that none comes twice, the contents have what each of them writes
abbrev pub AreWritten : List Sign → List (List ℕ) → Type 0
AreWritten signs contents = (low limit : ℕ) → Ascends low limit (map row_of signs) → HaveWords contents signs

abbrev pub WordsLaw : Type 0
WordsLaw = (work : Work) (words : List Word) (head : List Entry) (old new : Journal) (was now : List (List ℕ))
    → Worked work words head old new (λ start calls. AreCalls was calls) (λ start calls. AreCalls now calls)
    → AreWritten work.signs now
