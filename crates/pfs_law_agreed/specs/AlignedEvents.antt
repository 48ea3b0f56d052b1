-- Two runs of one script start and end the same events at the same lines, whatever came between.
use Rattle.std.specs.Prelude.{ℕ, ◌≡◌, Bool, true, false, cond, List, [], ◌∷◌, ◌++◌}
use Rattle.pfs_classes.specs.declared.setting.Setting.{Setting}
use Rattle.pfs_event.specs.declared.entry.Entry.{Entry}
use Rattle.pfs_event.specs.declared.entry.Entry.TheVariants as says
use Rattle.pfs_journal.specs.declared.report.ReportParts.{ReportParts}
use Rattle.pfs_model.specs.EntryPlaces.{Placed, places}
use Rattle.pfs_model.specs.declared.lines.Opened.{Opened}
use Rattle.pfs_runs.specs.Runs.{IsRun, all_blocks}
use Rattle.pfs_script.specs.declared.blocks.Phase.{Phase}

abbrev pub is_event : Entry → Bool
is_event (says.Start number verdict consumers thread class table) = true
is_event (says.End number last consumers thread) = true
is_event _ = false

abbrev pub starts_event : Entry → Bool
starts_event (says.Start number verdict consumers thread class table) = true
starts_event _ = false

-- the start and end lines
abbrev pub events_in : List Placed → List Placed
events_in [] = []
events_in (place ∷ places) = cond (is_event place.entry) (place ∷ []) [] ++ events_in places

-- the same event of a session: of the same position, and of the same subject
pub record IsSameEvent (a b : Opened) : Type 0 where
  pub index : a.index ≡ b.index
  pub subject : a.subject ≡ b.subject

abbrev pub AreSameEvents : List Opened → List Opened → Type 0
AreSameEvents [] [] = Unit {0}
AreSameEvents (a ∷ others) (b ∷ rest) = IsSameEvent a b × AreSameEvents others rest
AreSameEvents _ _ = ⊥

-- a start or an end line of one run, and that of the other: at the same line of the same session, where the same events
-- are open
pub record IsSameLine (p q : Placed) : Type 0 where
  pub phase : p.phase ≡ q.phase
  pub session : p.session ≡ q.session
  pub line : p.line ≡ q.line
  pub begun : p.context.begun ≡ q.context.begun
  pub opened : AreSameEvents p.context.opened q.context.opened
  pub starts : starts_event p.entry ≡ starts_event q.entry

abbrev pub AreAligned : List Placed → List Placed → Type 0
AreAligned [] [] = Unit {0}
AreAligned (p ∷ others) (q ∷ rest) = IsSameLine p q × AreAligned others rest
AreAligned _ _ = ⊥

abbrev pub AlignedLaw : Type 0
AlignedLaw = (setting : Setting) (phases : List Phase) (report other : ReportParts)
    (run : IsRun setting phases report) (second : IsRun setting phases other)
    → AreAligned (events_in (places (all_blocks run.blocks))) (events_in (places (all_blocks second.blocks)))
