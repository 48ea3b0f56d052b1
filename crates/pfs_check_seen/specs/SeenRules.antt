-- What it means that the fifth rule was asked of a report.
use Rattle.std.specs.Prelude.{ℕ, nat_lt, Bool, true, List, [], ◌∷◌, ◌++◌, Option, Some, None}
use Rattle.pfs_model.specs.EntryPlaces.{Placed}
use Rattle.pfs_check_faults.specs.declared.rules.Rule.TheVariants as rules
use Rattle.pfs_check_faults.specs.Judgements.{IsFirstFault, Keeps}
use Rattle.pfs_check_faults.specs.ReportCases.{Case, Findings}
use Rattle.pfs_check_seen.specs.declared.judging.SeenRule.{SeenRule}
use Rattle.pfs_check_seen.specs.declared.judging.SeenRule.TheVariants.{Kept, Wrong}

-- entries that stand with the last first, in their order
abbrev pub in_order : List Placed → List Placed
in_order [] = []
in_order (place ∷ earlier) = in_order earlier ++ place ∷ []

-- the rule is kept, or this is the first line at which it fails
abbrev pub IsSeenJudged : Case → Findings → SeenRule → Type 0
IsSeenJudged case found Kept = Keeps rules.Seen case found
IsSeenJudged case found (Wrong line) = IsFirstFault rules.Seen case found line

-- the word of a slot is there, where a version of it is named
abbrev pub slot_test : Option ℕ → Option ℕ → Bool
slot_test None version = true
slot_test (Some slot) None = true
slot_test (Some slot) (Some version) = nat_lt slot 159
