-- Which statements count in the summary by digest, worked: one session runs a statement whose digest text has a place,
-- one whose has none, and a third as `statements_digest` is NO; then it truncates the summary, and runs the first
-- again.
use Rattle.std.specs.Prelude.{ℕ, ◌≡◌, ◌==◌, Bool, cond, List, [], ◌∷◌, ◌++◌, map, Option, Some, None}
use Rattle.pfs_classes.specs.declared.setting.DigestText.{DigestText}
use Rattle.pfs_classes.specs.declared.setting.Setting.{Setting}
use Rattle.pfs_conservation.specs.AdministrationFold.{Connect, Other}
use Rattle.pfs_event.specs.declared.entry.Entry.{Entry}
use Rattle.pfs_event.specs.declared.entry.Entry.TheVariants as says
use Rattle.pfs_event.specs.declared.kind.EventKind.TheVariants as kinds
use Rattle.pfs_event.specs.declared.verdict.Verdict.TheVariants.{Attributed}
use Rattle.pfs_model.specs.EntryPlaces.{Block, places}
use Rattle.pfs_model.specs.declared.lines.Line.TheVariants as lines
use Rattle.pfs_model.specs.declared.lines.Subject.{Subject}
use Rattle.pfs_stat.specs.Stat.{zero_of}
use Rattle.pfs_summaries.specs.DigestRows.{digest_heading, null_heading}
use Rattle.pfs_summaries.specs.RowValues.{numbers_row}
use Rattle.pfs_law_conservation.specs.RunEvents.{Ended}
use Rattle.pfs_text.specs.declared.values.RowValue.{RowValue}
use Rattle.pfs_law_summaries.specs.Counts.{Past}
use Rattle.pfs_law_summaries.specs.DigestSummary.{digested_events, digested_at, digested_rows}
use Rattle.pfs_law_summaries.specs.LostDigests.{unplaced_events}
use Rattle.pfs_law_summaries.specs.CountExamples.{facts}

-- a statement of the class 17, its digest text at a place or at none
abbrev pub statement : Option ℕ → Subject
statement digest = record { kind = kinds.Statement; class = Some 17; cell = 17; table = None; digest = digest }

-- its start saw these consumers, and the first versions of what else it goes by
abbrev pub starts : ℕ → ℕ → List Entry
starts number consumers = says.Start (Some number) Attributed (Some consumers) (Some 0) (Some 0) None ∷ []

-- it is added to its session's row, and where it is digested to another
abbrev pub ends : ℕ → ℕ → List Entry → List Entry
ends number version digested =
    says.End (Some number) (Some number) (Some 0) (Some 0) ∷ says.Add 146 version ∷ digested

abbrev pub running : Block
running = record {
  phase = 1;
  session = 1;
  lines =
      lines.Connect ∷ lines.Start (statement (Some 0)) ∷ lines.End ∷ lines.Start (statement None) ∷ lines.End
      ∷ lines.Start (statement (Some 0)) ∷ lines.End ∷ [];
  parts =
      (says.Connect 1 (Some 0) (Some 0) (Some 0) (Some 0) ∷ []) ∷ starts 1 0 ∷ ends 1 1 (says.Add 8386 1 ∷ [])
      ∷ starts 2 0 ∷ ends 2 2 (says.Add 8385 1 ∷ []) ∷ starts 3 1 ∷ ends 3 3 [] ∷ [];
}

abbrev pub truncating : Block
truncating = record {
  phase = 2;
  session = 1;
  lines = lines.Change ∷ lines.Start (statement (Some 0)) ∷ lines.End ∷ [];
  parts =
      (says.Act 2 ∷ says.Take 8385 2 ∷ says.Take 8386 2 ∷ says.Reply 0 ∷ []) ∷ starts 4 0
      ∷ ends 4 4 (says.Add 8386 3 ∷ []) ∷ [];
}

-- `global_instrumentation` and `statements_digest` are YES at first, and the first alone at version 1
abbrev pub flags : ℕ → ℕ → ℕ
flags word version = cond (version == 1) 4099 20483

-- which of these actions truncate the summary
abbrev pub past : (ℕ → Bool) → List Block → Past
past clears blocks = record {
  names = λ session. record { user = 24; host = 30 };
  actions = Connect 1 24 30 ∷ Other ∷ [];
  clears = clears;
  entries = places blocks;
  given = record { flags = flags; slots = λ session. None; facts = facts; info_words = λ action row. [] };
}

abbrev pub before : Past
before = past (λ action. action == 2) (running ∷ [])

abbrev pub behind : Past
behind = past (λ action. action == 2) (running ∷ truncating ∷ [])

-- the same journals, where the second action is no TRUNCATE of the summary
abbrev pub other : Past
other = past (λ action. action == 3) (running ∷ truncating ∷ [])

-- the position of each event among the session's starts
abbrev pub events_of : List Ended → List ℕ
events_of events = map (λ (one : Ended). one.event.index) events

-- the rows of a setting with this digest text alone
abbrev pub HasRows : Past → List (List RowValue) → DigestText → Type 0
HasRows of_past rows digest = (setting : Setting) → setting.digests ≡ digest ∷ [] → digested_rows setting of_past ≡ rows

abbrev pub one_of : ℕ → List ℕ
one_of wait = 1 ∷ wait ∷ wait ∷ wait ∷ wait ∷ 0 ∷ 0 ∷ 0 ∷ 0 ∷ 0 ∷ 0 ∷ []

pub record WorkedDigests : Type 0 where
  -- each digested statement counts in the row of its place, or in that of those without one
  pub placed : events_of (digested_events before (Some 0)) ≡ 0 ∷ []
  pub unplaced : events_of (digested_events before None) ≡ 1 ∷ []
  pub other_place : events_of (digested_events before (Some 1)) ≡ []
  -- behind the TRUNCATE only what was added since
  pub placed_since : events_of (digested_events behind (Some 0)) ≡ 3 ∷ []
  pub none_since : events_of (digested_events behind None) ≡ []
  -- no other action that takes a row does so
  pub still_placed : events_of (digested_events other (Some 0)) ≡ 0 ∷ 3 ∷ []
  pub still_unplaced : events_of (digested_events other None) ≡ 1 ∷ []
  -- what was lost stays lost
  pub lost : events_of (unplaced_events behind) ≡ 1 ∷ []
  -- what they add up to, and the rows that show it: first that without a digest
  pub sums : digested_at before (Some 0) ≡ record zero_of { count = 1; sum = 100; min = 100; max = 100 }
  pub rows : (digest : DigestText)
      → HasRows before ((null_heading ++ numbers_row (one_of 101)) ∷ (digest_heading digest ++ numbers_row (one_of 100))
      ∷ []) digest
  pub rows_since : (digest : DigestText)
      → HasRows behind ((digest_heading digest ++ numbers_row (one_of 103)) ∷ []) digest
