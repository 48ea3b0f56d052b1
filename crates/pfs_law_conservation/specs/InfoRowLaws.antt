-- What info rows show under a phase's end of a run is who is connected where behind the actions up to there.
use Rattle.std.specs.Prelude.{ℕ, ◌≡◌, ◌+◌, ◌*◌, ◌<◌, ◌≤◌, Bool, true, false, List, length, take, drop, Option, Some, None, is_none}
use Rattle.pfs_admin.specs.declared.changes.Change.{Change}
use Rattle.pfs_admin.specs.declared.changes.Change.TheVariants as changes
use Rattle.pfs_board.specs.declared.view.Label.{Label}
use Rattle.pfs_admin.specs.Truncations.{action_of}
use Rattle.pfs_containers.specs.Administration.{Containers, advanced}
use Rattle.pfs_containers.specs.Connections.{in_use}
use Rattle.pfs_model.specs.Chains.{Each, action_change, each_of, is_free_after}
use Rattle.pfs_rows.specs.declared.table.Seen.{Seen}
use Rattle.pfs_rows.specs.declared.table.Seen.TheVariants.{Whole, Free}
use Rattle.pfs_runs.specs.PhaseFinals.{containers_behind, row_version, shown_row}
use Rattle.pfs_law_conservation.specs.Premises.{AreKept}
use Rattle.pfs_law_conservation.specs.RunTerms.{Run, entries_to}
use Rattle.pfs_rows.specs.declared.truncations.Truncation.{Truncation}
use Rattle.pfs_rows.specs.declared.truncations.Truncation.TheVariants.{Accounts, Users, Hosts}
use Rattle.pfs_law_conservation.specs.InfoRowWords.{thread_said, account_said, user_said, host_said}

-- who is connected where behind the actions up to a phase's end
abbrev pub containers_to : Run → ℕ → Containers
containers_to run phase = containers_behind run.setting run.change run.labels (entries_to run phase)

-- a row that says this at a version; one that says nothing is FREE
abbrev pub seen_as : ℕ → Option (List ℕ) → Seen
seen_as version None = Free (4 * version)
seen_as version (Some words) = Whole version words

-- Under the phase's end the row is FREE just where it is to say nothing; and it shows, at its last version, what it is
-- to say.
pub record IsTold (run : Run) (phase row : ℕ) (said : Option (List ℕ)) : Type 0 where
  pub free : is_free_after (entries_to run phase) row ≡ is_none said
  pub shown : shown_row run.content (entries_to run phase) row ≡ seen_as (row_version (entries_to run phase) row) said

-- of each thread, account, user and host
pub record AreTold (run : Run) (phase : ℕ) : Type 0 where
  pub threads : (slot : ℕ) → slot < 32 → IsTold run phase (1 + slot) (thread_said (containers_to run phase) slot)
  pub accounts : (place : ℕ) → place < 32
      → IsTold run phase (33 + place) (account_said (containers_to run phase) place)
  pub users : (place : ℕ) → place < 32 → IsTold run phase (65 + place) (user_said (containers_to run phase) place)
  pub hosts : (place : ℕ) → place < 32 → IsTold run phase (97 + place) (host_said (containers_to run phase) place)

abbrev pub ToldLaw : Type 0
ToldLaw = (run : Run) (phase : ℕ) → AreKept run → AreTold run phase

-- no place at or past its limit is ever in use
pub record AreWithinLimits (run : Run) (phase : ℕ) : Type 0 where
  pub threads : (slot : ℕ) → run.setting.limits.thread_instances ≤ slot
      → thread_said (containers_to run phase) slot ≡ None
  pub accounts : (place : ℕ) → run.setting.limits.accounts ≤ place
      → account_said (containers_to run phase) place ≡ None
  pub users : (place : ℕ) → run.setting.limits.users ≤ place → user_said (containers_to run phase) place ≡ None
  pub hosts : (place : ℕ) → run.setting.limits.hosts ≤ place → host_said (containers_to run phase) place ≡ None

abbrev pub LimitsLaw : Type 0
LimitsLaw = (run : Run) (phase : ℕ) → AreWithinLimits run phase

-- the actions that may free accounts, users and hosts: truncations of their table, and of users or hosts for accounts
abbrev pub frees_accounts : Change → Bool
frees_accounts (changes.Truncate Accounts) = true
frees_accounts (changes.Truncate Users) = true
frees_accounts (changes.Truncate Hosts) = true
frees_accounts _ = false

abbrev pub frees_users : Change → Bool
frees_users (changes.Truncate Users) = true
frees_users _ = false

abbrev pub frees_hosts : Change → Bool
frees_hosts (changes.Truncate Hosts) = true
frees_hosts _ = false

-- the actions behind a phase's end, up to that of a later phase
abbrev pub labels_between : Run → ℕ → ℕ → List Label
labels_between run phase later = drop (length (each_of action_change (entries_to run phase)))
    (take (length (each_of action_change (entries_to run later))) run.labels)

-- none of these is between
abbrev pub NoneFrees : (Change → Bool) → Run → ℕ → ℕ → Type 0
NoneFrees frees run phase later = Each (λ label. frees (run.change label) ≡ false) (labels_between run phase later)

-- A place of an account, a user or a host that is in use stays so until a truncation frees it: one that is free under
-- a later phase's end was free before, where no action between may free it.
pub record AreRemaining (run : Run) (phase later : ℕ) : Type 0 where
  pub accounts : NoneFrees frees_accounts run phase later → (place : ℕ)
      → account_said (containers_to run later) place ≡ None → account_said (containers_to run phase) place ≡ None
  pub users : NoneFrees frees_users run phase later → (place : ℕ)
      → user_said (containers_to run later) place ≡ None → user_said (containers_to run phase) place ≡ None
  pub hosts : NoneFrees frees_hosts run phase later → (place : ℕ)
      → host_said (containers_to run later) place ≡ None → host_said (containers_to run phase) place ≡ None

-- a truncation frees no place that the session of some slot has
pub record AreHeld (before after : Containers) : Type 0 where
  pub accounts : (place : ℕ) → in_use (λ x. x.account) before.places.threads place ≡ true
      → account_said after place ≡ None → account_said before place ≡ None
  pub users : (place : ℕ) → in_use (λ x. x.user) before.places.threads place ≡ true
      → user_said after place ≡ None → user_said before place ≡ None
  pub hosts : (place : ℕ) → in_use (λ x. x.host) before.places.threads place ≡ true
      → host_said after place ≡ None → host_said before place ≡ None

abbrev pub HeldLaw : Type 0
HeldLaw = (c : Containers) (what : Truncation) → AreHeld c (advanced c (action_of what))

abbrev pub RemainingLaw : Type 0
RemainingLaw = (run : Run) (phase later : ℕ) → phase ≤ later → AreRemaining run phase later
