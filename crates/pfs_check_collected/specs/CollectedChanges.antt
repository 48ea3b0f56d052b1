-- All changes of entries, as they are collected.
use Rattle.std.specs.Prelude.{ℕ, ◌≡◌, Bool, true, false, List, [], ◌∷◌, ◌++◌, Option, Some, None}
use Rattle.std.specs.BTreeMap.{BTreeMap, get}
use Rattle.std.specs.Ordering.{nat_cmp}
use Rattle.pfs_model.specs.declared.changes.Change.{Change}
use Rattle.pfs_model.specs.Chains.{Each}
use Rattle.pfs_model.specs.Contents.{Given}
use Rattle.pfs_model.specs.Contexts.{Context, fresh}
use Rattle.pfs_model.specs.EntryPlaces.{Placed}
use Rattle.pfs_runs.specs.Rules.{given_by}
use Rattle.pfs_runs.specs.Runs.{all_blocks}
use Rattle.pfs_law_contexts.specs.TakenSources.{IsTakenLast, taken_in}
use Rattle.pfs_law_contexts.specs.ToldContexts.{IsToldOf, left_in}
use Rattle.pfs_check_amounts.specs.EventTerms.{GivesEvents}
use Rattle.pfs_check_contents.specs.declared.changes.RowChange.{RowChange}
use Rattle.pfs_check_contents.specs.HeldEvents.{AreHeld, waiting_in}
use Rattle.pfs_check_contents.specs.PlacedChanges.{AreMadeOf}
use Rattle.pfs_check_faults.specs.ReportCases.{Case, Findings, terms_in}
use Rattle.pfs_check_made.specs.MadeChanges.{IsKnownIn}
use Rattle.pfs_check_made.specs.TagWords.{GivesTags}
use Rattle.pfs_check_notes.specs.SessionNotes.{AreNotesOf}
use Rattle.pfs_check_notes.specs.declared.notes.SessionNotes.{SessionNotes}
use Rattle.pfs_check_collected.specs.declared.collected.Collected.{Collected}
use Rattle.pfs_check_collected.specs.declared.collecting.Collecting.{Collecting}

-- what the contents of a report go by
abbrev pub given_in : Case → Findings → Given
given_in case found = given_by (terms_in case found) (all_blocks found.blocks)

-- what each entry makes can be known
abbrev pub AllKnown : Given → List Placed → Type 0
AllKnown given all = Each (λ place. IsKnownIn given place place.entry) all

-- all changes of the entries, or not all can be known
abbrev pub AreChangesTold : Given → List Placed → List RowChange → Bool → Type 0
AreChangesTold given all changes true = AreMadeOf given all changes
AreChangesTold given all changes false = AllKnown given all → ⊥

abbrev pub AreCollected : Given → List Placed → Collected → Type 0
AreCollected given all collected = AreChangesTold given all collected.changes.items collected.is_known

-- a session without notes has done nothing
pub record IsIdle (left : Context) (taken : Option Change) : Type 0 where
  pub left_is : left ≡ fresh
  pub taken_is : taken ≡ None

abbrev pub AreNotesFor : Context → Option Change → Option SessionNotes → Type 0
AreNotesFor left taken None = IsIdle left taken
AreNotesFor left taken (Some notes) = AreNotesOf left taken notes

abbrev pub AllNoted : List Placed → BTreeMap ℕ SessionNotes → Type 0
AllNoted earlier notes = (session : ℕ)
    → AreNotesFor (left_in earlier session) (taken_in earlier session) (get nat_cmp notes session)

-- what is known of an entry by those before it
pub record IsFramed (earlier : List Placed) (place : Placed) : Type 0 where
  pub told : IsToldOf earlier place
  pub source : IsTakenLast earlier place
  pub waiting : place.context.waiting ≡ waiting_in earlier place.session

abbrev pub AreFramed : List Placed → Type 0
AreFramed [] = Unit {0}
AreFramed (place ∷ earlier) = IsFramed earlier place × AreFramed earlier

-- entries that stand with the last first, in their order
abbrev pub in_order : List Placed → List Placed
in_order [] = []
in_order (place ∷ earlier) = in_order earlier ++ place ∷ []

pub record IsGathered (given : Given) (earlier : List Placed) (collecting : Collecting) : Type 0 where
  pub notes : AllNoted earlier collecting.notes
  pub held : AreHeld given earlier collecting.held
  pub collected : AreCollected given (in_order earlier) collecting.collected

-- what is known behind some entries, where their contexts are as those of blocks
pub record Knows (given : Given) (earlier : List Placed) (collecting : Collecting) : Type 0 where
  pub events : GivesEvents given collecting.terms
  pub tags : GivesTags given collecting.tags
  pub gathered : AreFramed earlier → IsGathered given earlier collecting
