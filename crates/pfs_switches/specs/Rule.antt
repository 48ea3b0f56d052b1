-- The rule of the setup words, which holds between any two steps.
use Rattle.std.specs.Prelude.{◌≡◌, ℕ, ◌+◌, ◌*◌, ◌<◌, ◌≤◌, true, List, length, slice_index}
use mathlib.Core.Option.{some}
use lib.ListN.{get_elem?}
use Rattle.atomic_table.specs.Table.{State}
use Rattle.pfs_switches.specs.declared.view.Loaded.{Loaded}
use Rattle.pfs_switches.specs.declared.view.Met.{Met}
use Rattle.pfs_switches.specs.declared.view.Setting.{Setting}
use Rattle.pfs_switches.specs.declared.view.View.{View}
use Rattle.pfs_switches.specs.History.{Each, version, flags_at, IsChain}
use Rattle.pfs_switches.specs.Knowledge.{last_version}
use Rattle.pfs_switches.specs.LoadOrder.{IsOrdered, Numbers}

module _ (start : List ℕ) (log : List Setting) where
  -- A finished load gives the flags of its version. That is no lower than what its seat had seen, nor than what the
  -- root had seen when the seat was split off
  pub record IsLoad (seen : ℕ → ℕ) (x : Loaded) : Type 0 where
    pub below : x.version ≤ seen x.word
    pub flags_are : x.flags ≡ flags_at start log x.word x.version
    pub least_is : x.least ≤ x.version
    pub first_is : x.first ≤ x.least

  -- A meet brings versions that the words had, none below what the seat had seen, and both know the same opening words
  pub record IsMeet (seen : ℕ → ℕ) (m : Met) : Type 0 where
    pub below : (r : ℕ) → slice_index m.versions r ≤ seen r
    pub least_is : (r : ℕ) → slice_index m.least r ≤ slice_index m.versions r
    pub start_is : m.start ≡ start

  -- what a seat or the writer knows is so
  pub record Fits (v : View) : Type 0 where
    pub start_is : v.start ≡ start
    pub wide : length v.seen ≡ length start
    pub seen : (r : ℕ) → slice_index v.seen r ≤ version log r
    pub first : (r : ℕ) → slice_index v.first r ≤ slice_index v.seen r
    pub loads : Each (IsLoad (λ r. slice_index v.seen r)) v.loads
    pub meets : Each (IsMeet (λ r. slice_index v.seen r)) v.meets
    pub order : IsOrdered v

  -- the writer knows all sets, and the present versions
  pub record IsWriter (v : View) : Type 0 where
    pub writing : v.writes ≡ true
    pub here : v.live ≡ true
    pub sets : v.sets ≡ log
    pub seen : (r : ℕ) → r < length start → slice_index v.seen r ≡ version log r

  -- a word has its version above sixteen bits of flags
  pub record IsWord (words : List ℕ) (r : ℕ) : Type 0 where
    pub word_is : slice_index words r ≡ 65536 * version log r + flags_at start log r (version log r)
    pub flags_fit : flags_at start log r (version log r) < 65536
    pub version_fits : version log r ≤ last_version

module _ {S : Type 0} (start : List ℕ) where
  -- there is one history, one writer, who knows it, and each seat has a number of its own
  pub record Ruled (s : State S View) : Type 0 where
    pub log : List Setting
    pub pen : ℕ
    pub wide : length s.words ≡ length start
    pub chain : IsChain log
    pub writer : (w : View) × (get_elem? s.views pen ≡ some w) × IsWriter start log w
    pub only : (j : ℕ) (u : View) → get_elem? s.views j ≡ some u → u.writes ≡ true → j ≡ pen
    pub seats : (j : ℕ) (u : View) → get_elem? s.views j ≡ some u → u.live ≡ true → Fits start log u
    pub words : (r : ℕ) → r < length start → IsWord start log s.words r
    pub numbers : Numbers s.views
