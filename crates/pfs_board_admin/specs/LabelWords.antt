-- What an actor's calls say of the switch words, where a board keeps a desk: inside an action they go from the words of
-- the labels that it found to those of these labels and its own.
use Rattle.std.specs.Prelude.{ℕ, ◌≡◌, ◌+◌, ◌==◌, ◌<◌, true, if◌then◌else◌, List, [], ◌∷◌, ◌++◌, Some, slice_index}
use Rattle.pfs_admin.specs.declared.changes.Change.{Change}
use Rattle.pfs_admin.specs.Fold.{state_of}
use Rattle.pfs_board.specs.declared.view.Label.{Label}
use Rattle.pfs_classes.specs.declared.setting.Setting.{Setting}
use Rattle.pfs_levels.specs.Calls.{Call, Adds, Rings, Reads, Loads, Draws, Takes, Puts, Frees, Sets, Enters, Leaves, Meets, action_in, after_in, label_in, known_version}
use Rattle.pfs_levels.specs.declared.answers.Word.{Word}
use Rattle.pfs_board_store.specs.ActorCalls.{labels_in}
use Rattle.pfs_board_store.specs.RootLaws.{has_met}

-- the version of each word behind the actions of these labels
abbrev pub version_after : Setting → (Label → Change) → List Label → ℕ → ℕ
version_after setting change labels at = known_version (Some (state_of setting change labels).words) at

-- how often the actor has set the word since it began its newest action
abbrev pub sets_since : List Call → ℕ → ℕ
sets_since [] at = 0
sets_since (Enters label labels ∷ calls) at = 0
sets_since (Sets word flags version ∷ calls) at =
    if word == at then sets_since calls at + 1 else sets_since calls at
sets_since (Adds row amount answer ∷ calls) at = sets_since calls at
sets_since (Rings row content answer ∷ calls) at = sets_since calls at
sets_since (Reads row seen ∷ calls) at = sets_since calls at
sets_since (Loads word version flags ∷ calls) at = sets_since calls at
sets_since (Draws kind ticket ∷ calls) at = sets_since calls at
sets_since (Meets versions ∷ calls) at = sets_since calls at
sets_since (Takes row version found ∷ calls) at = sets_since calls at
sets_since (Puts row content version ∷ calls) at = sets_since calls at
sets_since (Frees row version ∷ calls) at = sets_since calls at
sets_since (Leaves ∷ calls) at = sets_since calls at

-- by the versions that labels give, those of the actor's newest action so far
abbrev pub present : (List Label → ℕ → ℕ) → List Call → ℕ → ℕ
present versions calls at = versions (labels_in calls) at + sets_since calls at

-- No action is begun inside one. Inside one a meet shows the present versions, and a set makes the next; as it ends
-- these are the versions behind its own label. A meet outside is that of one who has ended no action. A load or a set
-- has a meet of its actor's newest action behind it
abbrev pub KeepsWords : (List Label → ℕ → ℕ) → List Call → Call → Type 0
KeepsWords versions calls (Loads at version flags) = (at < 160) × (has_met calls ≡ true)
KeepsWords versions calls (Sets at flags version) = (at < 160) × (has_met calls ≡ true)
    × (version ≡ present versions calls at + 1)
KeepsWords versions calls (Meets seen) =
    (0 < action_in calls → (at : ℕ) → at < 160 → slice_index seen at ≡ present versions calls at)
    × (action_in calls ≡ 0 → after_in calls ≡ 0)
KeepsWords versions calls (Enters label labels) = action_in calls ≡ 0
KeepsWords versions calls Leaves =
    (at : ℕ) → at < 160 → present versions calls at ≡ versions (labels_in calls ++ label_in calls ∷ []) at
KeepsWords versions calls (Adds row amount answer) = Unit {0}
KeepsWords versions calls (Rings row content answer) = Unit {0}
KeepsWords versions calls (Reads row seen) = Unit {0}
KeepsWords versions calls (Draws kind ticket) = Unit {0}
KeepsWords versions calls (Takes row version found) = Unit {0}
KeepsWords versions calls (Puts row content version) = Unit {0}
KeepsWords versions calls (Frees row version) = Unit {0}

abbrev pub AllKeepWords : (List Label → ℕ → ℕ) → List Call → Type 0
AllKeepWords versions [] = Unit {0}
AllKeepWords versions (call ∷ calls) = KeepsWords versions calls call × AllKeepWords versions calls

-- the words as someone knows them are at the present versions
abbrev pub AreAsKnown : (List Label → ℕ → ℕ) → List Call → List Word → Type 0
AreAsKnown versions calls words = (at : ℕ) → at < 160 → present versions calls at ≡ known_version (Some words) at
