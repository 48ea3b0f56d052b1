-- What stands in a row at a version doesn't depend on the phase at whose end it is asked.
use Rattle.std.specs.Prelude.{ℕ, ◌≡◌, ◌<◌, ◌≤◌, List, ◌++◌}
use Rattle.pfs_levels.specs.Calls.{Call}
use Rattle.pfs_levels.specs.JointCalls.{At, count, Setting, Draw, Joint}

-- what actors up to a phase have in common fixes the contents at the versions that the rows have then: they are the
-- same by what the actors up to a later phase have in common, so that two histories of one board need no tie
abbrev pub SameLaw : Type 0
SameLaw = (flags : List ℕ) (actors later : List (List Call)) (content after : ℕ → ℕ → List ℕ) (log grown : List At)
    (sets more : List Setting) (draws drawn : List Draw) → Joint flags actors content log sets draws
    → Joint flags (later ++ actors) after grown more drawn
    → (row version : ℕ) → 0 < row → row < 14242 → version ≤ count log row → content row version ≡ after row version
