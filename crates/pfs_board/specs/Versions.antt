-- The chain of a row in its own words: its publications have the versions 1 to k, each once; a release stands between
-- two of them; and it is free exactly where its last entry is a release, or it opened free and has no publication.
use Rattle.std.specs.Prelude.{◌≡◌, ◌↔◌, ℕ, ◌==◌, nat_lt, nat_le, Bool, true, false, ◌&&◌, if◌then◌else◌, List, [], ◌∷◌, refl}
use Rattle.pfs_board.specs.declared.view.Change.{Change}
use Rattle.pfs_board.specs.History.{total, version, is_free, IsFreedAt, IsChain, zeros, sevens, entry_of}

abbrev pub one_if : Bool → ℕ
one_if b = if b then 1 else 0

-- a publication of the row, and one at this version
abbrev pub publishes : ℕ → Change → Bool
publishes r p = (p.row == r) && p.puts

abbrev pub publishes_at : ℕ → ℕ → Change → Bool
publishes_at r k p = publishes r p && (p.version == k)

-- each release of the row stands behind the publication of its version and before the next one; the list has the
-- newest first
abbrev pub AreBetween : ℕ → List Change → Type 0
AreBetween r [] = Unit {0}
AreBetween r (p ∷ ps) = (p.row ≡ r → p.puts ≡ false → version ps r ≡ p.version) × AreBetween r ps

pub record AreVersions (start : List ℕ) (log : List Change) (r : ℕ) : Type 0 where
  pub count : version log r ≡ total (λ p. one_if (publishes r p)) log
  pub once : (k : ℕ) → total (λ p. one_if (publishes_at r k p)) log ≡ one_if (nat_lt 0 k && nat_le k (version log r))
  pub releases : AreBetween r log
  pub free : is_free start log r ≡ true ↔ IsFreedAt start log r (version log r)

abbrev pub ChainLaw : Type 0
ChainLaw = (start : List ℕ) (log : List Change) → IsChain start log → (r : ℕ) → AreVersions start log r

-- what holds of each entry of a history holds of each that a seat made which has them all
abbrev pub MadeLaw : Type 0
MadeLaw = (made log : List Change) → ((h : Change → ℕ) → total h made ≡ total h log) → (test : Change → Bool)
    → Rattle.pfs_board.specs.History.Each (λ (p : Change). test p ≡ true) log
    → Rattle.pfs_board.specs.History.Each (λ (p : Change). test p ≡ true) made

-- a version that is given twice is no chain's
twice : total (λ p. one_if (publishes_at 1 1 p)) (entry_of 2 1 zeros sevens ∷ entry_of 0 1 zeros sevens ∷ []) ≡ 2
twice = refl
