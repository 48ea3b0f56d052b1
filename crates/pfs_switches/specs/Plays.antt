-- What each step tells the seat that makes it. `m` is the seat before, `m'` after, and n the word that was found.
use Rattle.std.specs.Prelude.{◌≡◌, ℕ, ◌/◌, ◌%◌, ◌≤◌, slice_index}
use Rattle.atomic_table.specs.Table.{Me, Step}
use Rattle.pfs_switches.specs.declared.view.View.{View}
use Rattle.pfs_switches.specs.SharedKnowledge.{IsTold}
use Rattle.pfs_switches.specs.History.{flags_at}
use Rattle.pfs_switches.specs.Knowledge.{last_version, loaded, was_set}

module _ {S : Type 0} where
  -- a seat loads a word, at no version below what it saw
  abbrev pub looks : Step S → Me S View → ℕ → Me S View → Type 0
  looks st m n m' = (m' ≡ (loaded m.0 st.word (n / 65536) (n % 65536), m.1))
      × (slice_index m.0.seen st.word ≤ n / 65536)

  -- the writer loads a word, whose version it knows
  abbrev pub weighs : Step S → Me S View → ℕ → Me S View → Type 0
  weighs st m n m' = (m' ≡ m) × (n / 65536 ≡ slice_index m.0.seen st.word) × (n / 65536 ≤ last_version)

  abbrev pub sets : Step S → Me S View → ℕ → Me S View → Type 0
  sets st m n m' = m' ≡ (was_set m.0 st.word (st.first / 65536) (st.first % 65536), m.1)

  -- a seat and the writer in one learn what holds of all that they know
  abbrev pub tells : Step S → Me S View → ℕ → Me S View → Type 0
  tells st m n m' = (m' ≡ m) × IsTold m.0.start m.0 m.0

  -- they load a word, whose version and flags they know
  abbrev pub checks : Step S → Me S View → ℕ → Me S View → Type 0
  checks st m n m' = (m' ≡ (loaded m.0 st.word (n / 65536) (n % 65536), m.1))
      × (n / 65536 ≡ slice_index m.0.seen st.word) × (n % 65536 ≡ flags_at m.0.start m.0.sets st.word (n / 65536))
      × IsTold m.0.start (loaded m.0 st.word (n / 65536) (n % 65536)) m.0
