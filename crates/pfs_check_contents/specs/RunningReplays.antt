-- A replay as it goes on.
use Rattle.std.specs.Prelude.{ℕ, ◌≡◌, ◌-◌, ◌==◌, nat_lt, nat_le, Bool, true, false, ◌&&◌, List, Option, Some, None}
use Rattle.std.specs.BTreeMap.{BTreeMap, get}
use Rattle.std.specs.Ordering.{nat_cmp}
use Rattle.pfs_model.specs.Contents.{opening_words}
use Rattle.pfs_check_contents.specs.declared.changes.Effect.{Effect}
use Rattle.pfs_check_contents.specs.declared.changes.Effect.TheVariants as effects
use Rattle.pfs_check_contents.specs.declared.changes.RowChange.{RowChange}
use Rattle.pfs_check_contents.specs.declared.replays.Last.{Last}
use Rattle.pfs_check_contents.specs.declared.replays.Replayed.{Replayed}
use Rattle.pfs_check_contents.specs.ChangeReplays.{AllFollow, AreKept, last_in, words_in}

-- a test tells whether a fact holds
abbrev pub Tells : Type 0 → Bool → Type 0
Tells fact true = fact
Tells fact false = fact → ⊥

-- what a row has at its last version, where nothing was kept it is at its first
abbrev pub or_opening : ℕ → Option Last → Last
or_opening row None = record { version = 0; words = opening_words row }
or_opening row (Some last) = last

abbrev pub last_at : BTreeMap ℕ Last → ℕ → Last
last_at kept row = or_opening row (get nat_cmp kept row)

abbrev pub next_test : ℕ → ℕ → Bool
next_test last version = nat_lt last version && (version - last == 1)

abbrev pub given_test : BTreeMap ℕ Last → Effect → Bool
given_test kept (effects.Give from version) = nat_le version (last_at kept from).version
given_test kept _ = true

-- what is kept behind these changes, the last first
pub record IsReplay (done : List RowChange) (replay : Replayed) : Type 0 where
  pub follow : AllFollow done
  pub versions : (row : ℕ) → (last_at replay.last row).version ≡ last_in row done
  pub words : (row : ℕ) → (last_at replay.last row).words ≡ words_in done row (last_in row done)
  pub kept : AreKept done replay.shelf
