-- Versions of a row, or of a word, each made once; and the flags of a word by its versions.
use Rattle.std.specs.Prelude.{ℕ, ◌≡◌, ◌==◌, nat_lt, nat_le, Bool, false, ◌&&◌, List, map}
use Rattle.pfs_levels.specs.JointCalls.{total, one_if, At, at_put, IsCounted, count, Setting, AreWordsCounted, flags_at}
use Rattle.pfs_levels.specs.CallOrder.{Mark, AreMarked}

-- the changes of this row are those of the other list, each as often, in some order
abbrev pub IsRearranged : ℕ → List At → List At → Type 0
IsRearranged row some log = (h : At → ℕ) → ((x : At) → (x.row == row) ≡ false → h x ≡ 0) → total h some ≡ total h log

abbrev pub makes : ℕ → ℕ → At → Bool
makes row version x = (x.row == row) && (x.puts && (x.version == version))

-- of so many publications of the row one stands at each version from 1 on, and they are as many as the log has
pub record IsChained (row : ℕ) (log some : List At) : Type 0 where
  pub once : (version : ℕ) → total (λ x. one_if (makes row version x)) some
      ≡ one_if (nat_lt 0 version && nat_le version (count some row))
  pub counted : count some row ≡ count log row

-- whatever tells the changes of a row that are in a log, each as often, tells a chain
abbrev pub ChainLaw : Type 0
ChainLaw = (row : ℕ) (log some : List At) → IsCounted log → IsRearranged row some log → IsChained row log some

-- a change without its action, and a set without its flags
abbrev pub at_mark : Mark → At
at_mark m = record { row = m.row; version = m.version; puts = m.puts }

abbrev pub at_set : Setting → At
at_set s = at_put s.word s.version

-- so the numbers of actions, which are versions of row 0, and the versions of words are chains too
abbrev pub MarksLaw : Type 0
MarksLaw = (log : List Mark) → AreMarked log → IsCounted (map at_mark log)

abbrev pub SetsLaw : Type 0
SetsLaw = (sets : List Setting) → AreWordsCounted sets → IsCounted (map at_set sets)

-- the flags of a word at a version are those that the log gives, for whoever tells the same sets in some order
abbrev pub FlagsLaw : Type 0
FlagsLaw = (flags : List ℕ) (sets some : List Setting) → AreWordsCounted sets
    → ((h : Setting → ℕ) → total h some ≡ total h sets)
    → (word version : ℕ) → flags_at flags some word version ≡ flags_at flags sets word version
