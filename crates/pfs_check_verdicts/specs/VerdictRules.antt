-- What it means that the sixth rule was asked of a report.
use Rattle.std.specs.Prelude.{◌≡◌, Option, Some, None}
use Rattle.pfs_event.specs.declared.entry.Entry.{Entry}
use Rattle.pfs_event.specs.declared.entry.Entry.TheVariants as says
use Rattle.pfs_model.specs.declared.lines.Opened.{Opened}
use Rattle.pfs_model.specs.declared.lines.Subject.{Subject}
use Rattle.pfs_model.specs.SetupFlags.{SeenSetup}
use Rattle.pfs_check_faults.specs.declared.rules.Rule.TheVariants as rules
use Rattle.pfs_check_faults.specs.Judgements.{IsFirstFault, Keeps}
use Rattle.pfs_check_faults.specs.ReportCases.{Case, Findings, flags_in, terms_in}
use Rattle.pfs_check_verdicts.specs.PrintedSets.{GivesFlags}
use Rattle.pfs_check_verdicts.specs.declared.deciding.SeenFlags.{SeenFlags}
use Rattle.pfs_check_verdicts.specs.declared.judging.VerdictRule.{VerdictRule}
use Rattle.pfs_check_verdicts.specs.declared.judging.VerdictRule.TheVariants.{Kept, Wrong}
use Rattle.pfs_check_verdicts.specs.declared.verdicts.JudgingVerdicts.{JudgingVerdicts}

-- the rule is kept, or this is the first line at which it fails
abbrev pub IsVerdictJudged : Case → Findings → VerdictRule → Type 0
IsVerdictJudged case found Kept = Keeps rules.Verdict case found
IsVerdictJudged case found (Wrong line) = IsFirstFault rules.Verdict case found line

-- what is kept is of this case
pub record KnowsSetup (case : Case) (found : Findings) (judging : JudgingVerdicts) : Type 0 where
  pub flags : GivesFlags (flags_in case found) judging.flags
  pub stack : judging.stack ≡ (terms_in case found).stack

-- the flags that a start saw, as the model has them
abbrev pub setup_of : SeenFlags → SeenSetup
setup_of seen = record {
  consumers = seen.consumers;
  thread = seen.thread;
  class = seen.class;
  table = seen.table;
}

-- the event that a start begins, where its line starts one; of how many it is the next isn't told
abbrev pub started_by : Option Subject → Entry → Option Opened
started_by (Some subject) (says.Start event verdict consumers thread class table) = Some (record {
  subject = subject;
  verdict = verdict;
  index = 0;
  number = event;
  consumers = consumers;
  thread = thread;
  class = class;
  table = table;
})
started_by subject entry = None
