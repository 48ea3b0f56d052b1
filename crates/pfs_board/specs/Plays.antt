-- What each step tells the seat that makes it. Each that tells what lock word it found counts one look more. `m` is
-- the seat before, `m'` after, and n the word that was found.
use Rattle.std.specs.Prelude.{◌≡◌, ◌≢◌, ℕ, ◌+◌, ◌*◌, ◌/◌, ◌%◌, ◌<◌, ◌≤◌, true, false, List, ◌∷◌, length, slice_index, Option, Some, None}
use Rattle.atomic_table.specs.Table.{Me, Step, rest}
use Rattle.pfs_board.specs.declared.view.Label.{Label}
use Rattle.pfs_board.specs.declared.view.View.{View}
use Rattle.pfs_board.specs.History.{all_changes, lock_at, word_at, labels_of}
use Rattle.pfs_board.specs.WholeSeats.{History}
use Rattle.pfs_board.specs.Knowledge.{corner, is_holding, IsWhole, turned, restaged, peeked, stored, version_held, found_in, tried, looked, finished, took, missed, weighed, told, published, freed, waited, label_told, begun_with, ended, lent_with, restored, halfway}

-- What a look at the lock word of a row shows: a word at a version that is not below what the seat saw or knows, and
-- not above what all allowances leave. To a seat that is alone no row is dirty that it does not hold, and a word that
-- it knows is as it was.
pub record IsLook (v : View) (n r : ℕ) : Type 0 where
  pub state : n % 4 < 3
  pub later : (corner v r).seen ≤ n / 4
  pub after : (k : ℕ) → (corner v r).fresh ≡ true → (corner v r).last ≡ Some k → k / 4 ≤ n / 4
  pub room : n / 4 + v.allowance ≤ all_changes
  pub clean : IsWhole v → is_holding (corner v r).stage ≡ false → n % 4 ≢ 1
  pub same : IsWhole v → (k : ℕ) → (corner v r).fresh ≡ true → (corner v r).last ≡ Some k → n ≡ k

-- the seat whose action it is holds row 0 at the version before
pub record IsEnding (v : View) : Type 0 where
  pub holds : is_holding (corner v 0).stage ≡ true
  pub next : version_held (corner v 0).stage + 1 ≡ v.action

module _ {S : Type 0} where
  abbrev pub tries : Step S → Me S View → ℕ → Me S View → Type 0
  tries st m n m' = (r : ℕ) → st.word ≡ lock_at r → (m' ≡ (tried m.0 r n, m.1)) × IsLook m.0 n r

  abbrev pub looks : Step S → Me S View → ℕ → Me S View → Type 0
  looks st m n m' = (r : ℕ) → st.word ≡ lock_at r → (m' ≡ (looked m.0 r n, m.1)) × IsLook m.0 n r

  abbrev pub finishes : Step S → Me S View → ℕ → Me S View → Type 0
  finishes st m n m' = (r : ℕ) → st.word ≡ lock_at r → (m' ≡ (finished m.0 r n, m.1)) × IsLook m.0 n r

  abbrev pub takes : Step S → Me S View → ℕ → Me S View → Type 0
  takes st m n m' = (r : ℕ) → st.word ≡ lock_at r
      → (n ≡ st.first → (found : List ℕ) × (length found ≡ 16) × (m' ≡ (took m.0 r st.first found, m.1)))
      × (n ≢ st.first → m' ≡ (missed m.0 r st.first n, m.1))
      × IsLook m.0 n r
      × (st.first % 4 ≡ 0 → n % 4 ≡ 2 → st.first / 4 < n / 4)

  -- a reader loads a content word
  abbrev pub gathers : Step S → Me S View → ℕ → Me S View → Type 0
  gathers st m n m' = (r i : ℕ) → st.word ≡ word_at r i → i < 16
      → m' ≡ (turned m.0 r (restaged (corner m.0 r) (peeked (corner m.0 r).stage n)), m.1)

  -- the holder loads a content word before it stores any
  abbrev pub recalls : Step S → Me S View → ℕ → Me S View → Type 0
  recalls st m n m' = (r i : ℕ) → st.word ≡ word_at r i → i < 16
      → (m' ≡ m) × (n ≡ slice_index (found_in (corner m.0 r).stage) i)

  -- the holder loads its lock word
  abbrev pub weighs : Step S → Me S View → ℕ → Me S View → Type 0
  weighs st m n m' = (m' ≡ (weighed m.0, m.1))
      × ((r : ℕ) → st.word ≡ lock_at r → (n ≡ 4 * version_held (corner m.0 r).stage + 1)
      × (version_held (corner m.0 r).stage + m.0.allowance ≤ all_changes) × (0 < m.0.allowance)
      × ((corner m.0 r).seen ≤ version_held (corner m.0 r).stage))

  abbrev pub stores : Step S → Me S View → ℕ → Me S View → Type 0
  stores st m n m' = (r i : ℕ) → st.word ≡ word_at r i → i < 16
      → m' ≡ (turned m.0 r (restaged (corner m.0 r) (stored (corner m.0 r).stage st.first)), m.1)

  abbrev pub publishes : Step S → Me S View → ℕ → Me S View → Type 0
  publishes st m n m' = (r : ℕ) → st.word ≡ lock_at r → m' ≡ (published m.0 r, m.1)

  abbrev pub frees : Step S → Me S View → ℕ → Me S View → Type 0
  frees st m n m' = (r : ℕ) → st.word ≡ lock_at r → m' ≡ (freed m.0 r, m.1)

  abbrev pub tells : Step S → Me S View → ℕ → Me S View → Type 0
  tells st m n m' = m' ≡ (told m.0 st.first, m.1)

  -- a seat that waits to begin an action looks at row 0
  abbrev pub waits : Step S → Me S View → ℕ → Me S View → Type 0
  waits st m n m' = (m' ≡ (waited m.0 n, m.1)) × IsLook m.0 n 0 × (is_holding (corner m.0 0).stage ≡ false)

-- the steps that hand the value over: its slot is out with the seat that makes them, or at home and empty
module _ {K : Type 0} (means : K → List Label → Type 0) where
  -- a take of row 0, with the value
  abbrev pub enters : Step (Option K) → Me (Option K) View → ℕ → Me (Option K) View → Type 0
  enters st m n m' =
      (n ≡ st.first → (found : List ℕ) × (labels : List Label) × (x : K) × (length found ≡ 16)
      × (length labels ≡ n / 4) × means x labels
      × (m' ≡ (halfway (begun_with m.0 (label_told m.0) labels found) true, (0, Some x) ∷ m.1)))
      × (n ≢ st.first → m' ≡ (waited m.0 n, m.1))
      × IsLook m.0 n 0

  -- the seat that is alone takes the value, and knows the whole history
  abbrev pub lends : Step (Option K) → Me (Option K) View → ℕ → Me (Option K) View → Type 0
  lends st m n m' = (words : List ℕ) × (h : History m.0.start words m.0) × (x : K) × means x (labels_of h.t.log)
      × (m' ≡ (halfway (lent_with m.0 (labels_of h.t.log)) true, (0, Some x) ∷ m.1))

module _ {K : Type 0} where
  -- the slot goes home empty
  abbrev pub hands : Step (Option K) → Me (Option K) View → ℕ → Me (Option K) View → Type 0
  hands st m n m' = m' ≡ (halfway m.0 false, rest m.1)

  -- the empty slot comes back
  abbrev pub fetches : Step (Option K) → Me (Option K) View → ℕ → Me (Option K) View → Type 0
  fetches st m n m' = (m' ≡ (halfway m.0 true, (0, None) ∷ m.1)) × (0 < m.0.action → IsEnding m.0)

  -- the value goes home
  abbrev pub restores : Step (Option K) → Me (Option K) View → ℕ → Me (Option K) View → Type 0
  restores st m n m' = m' ≡ (halfway (restored m.0) false, rest m.1)

  -- row 0 is published, and the value goes home
  abbrev pub leaves : Step (Option K) → Me (Option K) View → ℕ → Me (Option K) View → Type 0
  leaves st m n m' = m' ≡ (halfway (ended m.0) false, rest m.1)
