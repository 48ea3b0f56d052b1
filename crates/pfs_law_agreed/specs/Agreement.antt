-- When two runs of one script agree behind a phase, in all that what they show behind a quiet one goes by.
use Rattle.std.specs.Prelude.{ℕ, ◌≡◌, ◌+◌, ◌≤◌, ◌⊎◌, nat_le, cond, List, [], ◌∷◌, Option, Some, is_some}
use Rattle.pfs_classes.specs.declared.setting.Setting.{Setting}
use Rattle.pfs_conservation.specs.KindSummaries.{Key, KeyThread}
use Rattle.pfs_journal.specs.declared.report.ReportParts.{ReportParts}
use Rattle.pfs_law_conservation.specs.RunTerms.{Run, entries_to}
use Rattle.pfs_law_summaries.specs.Counts.{counted_at}
use Rattle.pfs_law_summaries.specs.DigestSummary.{digested_at}
use Rattle.pfs_law_summaries.specs.OrderlyRuns.{run_of}
use Rattle.pfs_law_summaries.specs.PhaseSummaries.{past_to}
use Rattle.pfs_model.specs.Contexts.{Context, fresh}
use Rattle.pfs_model.specs.EntryPlaces.{Block, told_by}
use Rattle.pfs_model.specs.SetupFlags.{seen_by, thread_word}
use Rattle.pfs_model.specs.declared.lines.Opened.{Opened}
use Rattle.pfs_rows.specs.declared.table.TableKind.{TableKind}
use Rattle.pfs_runs.specs.PhaseFinals.{containers_behind, lost_behind, word_version}
use Rattle.pfs_runs.specs.Runs.{IsRun}
use Rattle.pfs_script.specs.Scripts.{IsScript}
use Rattle.pfs_script.specs.declared.blocks.Phase.{Phase}
use Rattle.pfs_law_agreed.specs.AlignedEvents.{IsSameEvent}
use Rattle.pfs_law_agreed.specs.QuietPhases.{IsQuietAt}

-- the flags of a switch word under a phase's end
abbrev pub flags_behind : Run → ℕ → ℕ → ℕ
flags_behind run phase word = run.flags word (word_version (entries_to run phase) word)

-- the blocks up to a phase, and what they tell of a session
abbrev pub blocks_to : ℕ → List Block → List Block
blocks_to phase [] = []
blocks_to phase (block ∷ blocks) = cond (nat_le block.phase phase) (block ∷ blocks_to phase blocks) []

abbrev pub told_behind : Run → ℕ → ℕ → Context
told_behind run phase session = told_by session fresh (blocks_to phase run.blocks)

-- the flags of a session's thread, where it has one
abbrev pub IsSameThread : Run → Run → ℕ → Option ℕ → Option ℕ → Type 0
IsSameThread a b phase (Some slot) (Some other) =
    flags_behind a phase (thread_word slot) ≡ flags_behind b phase (thread_word other)
IsSameThread a b phase slot other = is_some slot ≡ is_some other

-- an open event: that of the other run, with its verdict, and what its start saw
pub record IsSameOpen (a b : Run) (slot other : Option ℕ) (x y : Opened) : Type 0 where
  pub event : IsSameEvent x y
  pub verdict : x.verdict ≡ y.verdict
  pub seen : seen_by a.flags slot x ≡ seen_by b.flags other y

abbrev pub AreSameOpen : Run → Run → Option ℕ → Option ℕ → List Opened → List Opened → Type 0
AreSameOpen a b slot other [] [] = Unit {0}
AreSameOpen a b slot other (x ∷ xs) (y ∷ ys) = IsSameOpen a b slot other x y × AreSameOpen a b slot other xs ys
AreSameOpen a b slot other _ _ = ⊥

-- a session, by what its journals tell
pub record IsSameSession (a b : Run) (phase : ℕ) (c d : Context) : Type 0 where
  pub thread : IsSameThread a b phase c.slot d.slot
  pub account : is_some c.account ≡ is_some d.account
  pub user : is_some c.user ≡ is_some d.user
  pub host : is_some c.host ≡ is_some d.host
  pub opened : AreSameOpen a b c.slot d.slot c.opened d.opened

-- whose row it is in both: by thread that of a session, at whatever slot
abbrev pub IsSameKey : Key → Key → Type 0
IsSameKey (KeyThread session slot) (KeyThread other place) = session ≡ other
IsSameKey key (KeyThread other place) = ⊥
IsSameKey (KeyThread session slot) key = ⊥
IsSameKey key other = key ≡ other

-- what both show under a phase's end
pub record ShowTheSame (a b : Run) (phase : ℕ) : Type 0 where
  pub summaries : (kind : TableKind) (key other : Key) (cell : ℕ) → IsSameKey key other
      → counted_at (past_to a phase) kind key cell ≡ counted_at (past_to b phase) kind other cell
  pub digests : (digest : Option ℕ) → digested_at (past_to a phase) digest ≡ digested_at (past_to b phase) digest
  pub lost : lost_behind (containers_behind a.setting a.change a.labels (entries_to a phase)) (entries_to a phase)
      ≡ lost_behind (containers_behind b.setting b.change b.labels (entries_to b phase)) (entries_to b phase)

-- both agree behind it: in the flags of consumers, classes and tables, in each session, and in what they show
pub record AgreeBehind (a b : Run) (phase : ℕ) : Type 0 where
  pub words : (word : ℕ) → (word ≡ 0) ⊎ (33 ≤ word) → flags_behind a phase word ≡ flags_behind b phase word
  pub sessions : (session : ℕ)
      → IsSameSession a b phase (told_behind a phase session) (told_behind b phase session)
  pub shown : ShowTheSame a b phase

-- two runs of a script that agree behind a phase show the same behind the next, if it has no administration line
abbrev pub QuietLaw : Type 0
QuietLaw = (text : List ℕ) (setting : Setting) (phases : List Phase) (report other : ReportParts)
    → IsScript text setting phases → (run : IsRun setting phases report) (second : IsRun setting phases other)
    (number : ℕ) → IsQuietAt (number + 1) 1 phases
    → AgreeBehind (run_of setting phases report run) (run_of setting phases other second) number
    → ShowTheSame (run_of setting phases report run) (run_of setting phases other second) (number + 1)
