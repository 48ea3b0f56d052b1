-- What was lost, counted phase by phase.
use Rattle.std.specs.Prelude.{ℕ, ◌≡◌, Bool, true, false, List, slice_index_or}
use Rattle.pfs_event.specs.declared.entry.Entry.{Entry}
use Rattle.pfs_event.specs.declared.entry.Entry.TheVariants as says
use Rattle.pfs_model.specs.Chains.{times}
use Rattle.pfs_model.specs.EntryPlaces.{Placed, in_phase}
use Rattle.pfs_runs.specs.PhaseFinals.{is_digest_lost, is_lost_locker, is_lost_nested}
use Rattle.pfs_check_finals.specs.declared.losing.Losses.{Losses}

-- an entry starts an event that was lost for too many were open
abbrev pub loses_statement : Entry → Bool
loses_statement (says.Start event verdict consumers thread class table) = is_lost_nested verdict
loses_statement _ = false

abbrev pub loses_wait : Entry → Bool
loses_wait (says.Start event verdict consumers thread class table) = is_lost_locker verdict
loses_wait _ = false

-- an entry begins an action
abbrev pub acts : Entry → Bool
acts (says.Act action) = true
acts (says.Connect action thread account user host) = true
acts _ = false

-- so many actions began by these entries, and so much was lost
pub record AreLosses (losses : Losses) (places : List Placed) : Type 0 where
  pub actions : losses.actions ≡ times (λ (place : Placed). acts place.entry) places
  pub digests : losses.digests ≡ times is_digest_lost places
  pub statements : losses.statements ≡ times (λ (place : Placed). loses_statement place.entry) places
  pub waits : losses.waits ≡ times (λ (place : Placed). loses_wait place.entry) places

abbrev pub no_losses : Losses
no_losses = record { actions = 0; digests = 0; statements = 0; waits = 0 }

-- of each phase, by its number, what was lost by those of these entries that stand in it
abbrev pub AreCounted : List Losses → List Placed → Type 0
AreCounted phases places =
    (phase : ℕ) → AreLosses (slice_index_or phases phase no_losses) (in_phase phase places)
