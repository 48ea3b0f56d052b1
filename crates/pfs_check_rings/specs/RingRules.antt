-- What it means that the ninth rule was asked of a report.
use Rattle.std.specs.Prelude.{ℕ, ◌≡◌, ◌≤◌, ◌⊎◌, Option, Some, None}
use Rattle.pfs_check_brought.specs.declared.judging.DueRule.{DueRule}
use Rattle.pfs_check_brought.specs.declared.judging.DueRule.TheVariants as dues
use Rattle.pfs_check_caused.specs.declared.judging.CauseRule.{CauseRule}
use Rattle.pfs_check_caused.specs.declared.judging.CauseRule.TheVariants as causes
use Rattle.pfs_check_faults.specs.declared.rules.Rule.TheVariants as rules
use Rattle.pfs_check_faults.specs.Judgements.{IsFirstFault, Keeps}
use Rattle.pfs_check_faults.specs.ReportCases.{Case, Findings}
use Rattle.pfs_check_tickets.specs.declared.judging.TicketRule.{TicketRule}
use Rattle.pfs_check_tickets.specs.declared.judging.TicketRule.TheVariants as tickets
use Rattle.pfs_check_rings.specs.declared.judging.RingRule.{RingRule}
use Rattle.pfs_check_rings.specs.declared.judging.RingRule.TheVariants.{Kept, Wrong}

-- the rule is kept, or this is the first line at which it fails
abbrev pub IsRingsLine : Case → Findings → Option ℕ → Type 0
IsRingsLine case found None = Keeps rules.Rings case found
IsRingsLine case found (Some line) = IsFirstFault rules.Rings case found line

abbrev pub AreRingsJudged : Case → Findings → RingRule → Type 0
AreRingsJudged case found Kept = Keeps rules.Rings case found
AreRingsJudged case found (Wrong line) = IsFirstFault rules.Rings case found line

-- the first line at which a part of it fails
abbrev pub line_of_tickets : TicketRule → Option ℕ
line_of_tickets tickets.Kept = None
line_of_tickets (tickets.Wrong line) = Some line

abbrev pub line_of_causes : CauseRule → Option ℕ
line_of_causes causes.Kept = None
line_of_causes (causes.Wrong line) = Some line

abbrev pub line_of_dues : DueRule → Option ℕ
line_of_dues dues.Kept = None
line_of_dues (dues.Wrong line) = Some line

-- none stands below this one
abbrev pub IsUnder : ℕ → Option ℕ → Type 0
IsUnder line None = Unit {0}
IsUnder line (Some other) = line ≤ other

-- The least of two lines, of which there may be none.
abbrev pub IsLeast : Option ℕ → Option ℕ → Option ℕ → Type 0
IsLeast one other None = (one ≡ None) × (other ≡ None)
IsLeast one other (Some line) = ((one ≡ Some line) ⊎ (other ≡ Some line)) × IsUnder line one × IsUnder line other
