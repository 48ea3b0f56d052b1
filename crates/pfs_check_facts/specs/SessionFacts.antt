-- The facts of the events of all sessions.
use Rattle.std.specs.Prelude.{ℕ, ◌≡◌, ◌==◌, List, [], filter, map, slice_get, Option, Some, None, Vec}
use Rattle.std.specs.BTreeMap.{BTreeMap, get}
use Rattle.std.specs.List.{flat_map}
use Rattle.std.specs.Ordering.{nat_cmp}
use Rattle.std.specs.declared.alloc.Global.{Global}
use Rattle.pfs_model.specs.Contents.{Facts}
use Rattle.pfs_runs.specs.ScriptLines.{facts_in, facts_of, no_facts}
use Rattle.pfs_script.specs.Events.{events_of}
use Rattle.pfs_script.specs.Marks.{written_out}
use Rattle.pfs_script.specs.declared.blocks.Block.{Block}
use Rattle.pfs_script.specs.declared.blocks.BlockLine.{BlockLine}
use Rattle.pfs_script.specs.declared.blocks.Phase.{Phase}
use Rattle.pfs_check_facts.specs.declared.events.EventFacts.{EventFacts}
use Rattle.pfs_check_facts.specs.declared.moments.Course.{Course}
use Rattle.pfs_check_facts.specs.declared.script.ScriptFacts.{ScriptFacts}
use Rattle.pfs_check_facts.specs.Closings.{facts_along}
use Rattle.pfs_check_facts.specs.Moments.{IsCourseOf, moments_from}

abbrev pub facts_told : EventFacts → Facts
facts_told facts = record {
  start = facts.start;
  duration = facts.duration;
  lock = facts.numbers.lock;
  errors = facts.numbers.errors;
  warnings = facts.numbers.warnings;
  affected = facts.numbers.affected;
  sent = facts.numbers.sent;
  examined = facts.numbers.examined;
}

-- the lines of a session in these blocks
abbrev pub lines_of : ℕ → List Block → List BlockLine
lines_of session blocks = flat_map (λ (block : Block). written_out block.lines)
    (filter (λ (block : Block). block.session == session) blocks)

-- a session without a course has followed no line
abbrev pub IsCourseFor : List BlockLine → Option Course → Type 0
IsCourseFor lines None = lines ≡ []
IsCourseFor lines (Some course) = IsCourseOf lines course

abbrev pub AreCoursesOf : List Block → BTreeMap ℕ Course → Type 0
AreCoursesOf blocks courses = (session : ℕ) → IsCourseFor (lines_of session blocks) (get nat_cmp courses session)

abbrev pub AreFactsFor : List BlockLine → Option (Vec EventFacts Global) → Type 0
AreFactsFor lines None = lines ≡ []
AreFactsFor lines (Some facts) = map facts_told facts.items ≡ map facts_of (events_of lines)

-- what is kept of an event
abbrev pub told_or_none : Option EventFacts → Facts
told_or_none None = no_facts
told_or_none (Some facts) = facts_told facts

abbrev pub facts_in_list : Option (Vec EventFacts Global) → ℕ → Facts
facts_in_list None position = no_facts
facts_in_list (Some events) position = told_or_none (slice_get events.items position)

abbrev pub kept_facts : ScriptFacts → ℕ → ℕ → Facts
kept_facts facts session position = facts_in_list (get nat_cmp facts.sessions session) position

-- the script's facts of each event of each session
abbrev pub AreFactsOf : List Phase → ScriptFacts → Type 0
AreFactsOf phases facts = (session position : ℕ) → kept_facts facts session position ≡ facts_in phases session position
