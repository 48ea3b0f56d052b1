-- The order of the loads and meets of one number, and that numbers differ.
use Rattle.std.specs.Prelude.{◌≡◌, ◌≢◌, ℕ, ◌<◌, ◌≤◌, true, List, [], ◌∷◌, slice_index}
use mathlib.Core.Option.{some}
use lib.ListN.{get_elem?}
use Rattle.pfs_switches.specs.declared.view.Loaded.{Loaded}
use Rattle.pfs_switches.specs.declared.view.Met.{Met}
use Rattle.pfs_switches.specs.declared.view.View.{View}
use Rattle.pfs_switches.specs.History.{Each}

-- of the number of each load and meet
abbrev pub Makers : (ℕ → Type 0) → View → Type 0
Makers P v = Each (λ (x : Loaded). P x.by) v.loads × Each (λ (m : Met). P m.by) v.meets

-- no load names a lower version of its word than an older load under its number
abbrev pub IsRising : List Loaded → Type 0
IsRising [] = Unit {0}
IsRising (x ∷ xs) = Each (λ (y : Loaded). y.by ≡ x.by → y.word ≡ x.word → y.version ≤ x.version) xs × IsRising xs

-- a load names no lower version of its word than an earlier meet under its number has
abbrev pub IsAbove : List Met → Loaded → Type 0
IsAbove ms x = Each (λ (m : Met). m.by ≡ x.by → m.place ≤ x.place → slice_index m.versions x.word ≤ x.version) ms

-- a seat's loads and meets are in order; those of a seat but the root are its own
pub record IsOrdered (v : View) : Type 0 where
  pub places : Each (λ (x : Loaded). x.by ≡ v.number → x.place < v.made) v.loads
  pub meets : Each (λ (m : Met). m.by ≡ v.number → m.place ≤ v.made) v.meets
  pub rising : IsRising v.loads
  pub above : Each (IsAbove v.meets) v.loads
  pub own : v.number ≢ 0 → Makers (λ n. n ≡ v.number) v

-- the root has number 0, each other seat a number of its own, and the root has no load or meet of a seat that is
-- still out
pub record Numbers (views : List View) : Type 0 where
  pub root : View
  pub at_root : get_elem? views 0 ≡ some root
  pub sits : root.seated ≡ true
  pub first : root.number ≡ 0
  pub apart : (i j : ℕ) (u w : View) → get_elem? views i ≡ some u → get_elem? views j ≡ some w → u.seated ≡ true
      → w.seated ≡ true → u.number ≡ w.number → i ≡ j
  pub counted : (j : ℕ) (u : View) → get_elem? views j ≡ some u → u.seated ≡ true → u.number ≤ root.seats
  pub strangers : (j : ℕ) (u : View) → get_elem? views j ≡ some u → u.seated ≡ true → u.number ≢ 0
      → Makers (λ n. n ≢ u.number) root
  pub makers : Makers (λ n. n ≤ root.seats) root
