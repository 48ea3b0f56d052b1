-- What conservation asks of a run: the rules, and of its script that sessions connect first and quit last.
use Rattle.std.specs.Prelude.{ℕ, ◌≡◌, ◌<◌, Bool, true, false, List, [], ◌∷◌, length, IfSome, Option, Some, None}
use Rattle.pfs_admin.specs.declared.changes.Change.{Change}
use Rattle.pfs_admin.specs.declared.changes.Change.TheVariants as changes
use Rattle.pfs_admin.specs.declared.changes.SetupStatement.TheVariants as statements
use Rattle.pfs_board.specs.declared.view.Label.{Label}
use Rattle.pfs_event.specs.declared.entry.Entry.{Entry}
use Rattle.pfs_event.specs.declared.entry.Entry.TheVariants as says
use Rattle.pfs_model.specs.EntryAsks.{is_head}
use Rattle.pfs_model.specs.Chains.{Each}
use Rattle.pfs_model.specs.Contents.{Facts, measure_of}
use Rattle.pfs_model.specs.Contexts.{subject_of}
use Rattle.pfs_model.specs.EntryPlaces.{Block, Placed, by_session, places}
use Rattle.pfs_model.specs.Puts.{AreBrought}
use Rattle.pfs_model.specs.declared.lines.Line.{Line}
use Rattle.pfs_model.specs.declared.lines.Line.TheVariants as lines
use Rattle.pfs_runs.specs.Labels.{AreLabels, label_at}
use Rattle.pfs_runs.specs.Rules.{AreRules}
use Rattle.pfs_stat.specs.Stat.{IsInRange}
use Rattle.pfs_law_conservation.specs.RunEvents.{given_by, quits_at}
use Rattle.pfs_law_conservation.specs.RunTerms.{Run, terms_by}

-- the rules of a run, with its labels, and each event is brought just where its flags ask for
pub record AreKept (run : Run) : Type 0 where
  pub rules : AreRules (terms_by run) run.counted run.content run.blocks
  pub labelled : AreLabels run.labels (places run.blocks)
  pub brought : AreBrought run.flags (places run.blocks)

-- a connect's line connects, a quit's quits, and an SQL text's truncates or changes the setup, as no other line does; a
-- statement that only shows may stand at any line but a connect and a quit
abbrev pub IsChangeOf : Line → Change → Type 0
IsChangeOf lines.Connect (changes.Connect user host) = Unit {0}
IsChangeOf lines.Connect changes.Quit = ⊥
IsChangeOf lines.Connect (changes.Truncate what) = ⊥
IsChangeOf lines.Connect (changes.Setup what) = ⊥
IsChangeOf lines.Quit changes.Quit = Unit {0}
IsChangeOf lines.Quit (changes.Connect user host) = ⊥
IsChangeOf lines.Quit (changes.Truncate what) = ⊥
IsChangeOf lines.Quit (changes.Setup what) = ⊥
IsChangeOf lines.Change (changes.Truncate what) = Unit {0}
IsChangeOf lines.Change (changes.Setup what) = Unit {0}
IsChangeOf line (changes.Setup statements.Show) = Unit {0}
IsChangeOf line change = ⊥

abbrev pub IsLabelOf : (Label → Change) → Line → Option Label → Type 0
IsLabelOf change line None = ⊥
IsLabelOf change line (Some label) = IsChangeOf line (change label)

-- the change of an action's label is that of its line
abbrev pub IsActionOf : (Label → Change) → List Label → Line → Entry → Type 0
IsActionOf change labels line (says.Connect action thread account user host) =
    IsLabelOf change line (label_at labels action)
IsActionOf change labels line (says.Act action) = IsLabelOf change line (label_at labels action)
IsActionOf change labels line entry = Unit {0}

abbrev pub AreActionsOf : (Label → Change) → List Label → List Placed → Type 0
AreActionsOf change labels all = Each (λ place. IsActionOf change labels place.line place.entry) all

-- a session's connect is its first entry, so it connects once; `earlier` are the entries before
abbrev pub IsFirst : List Placed → Placed → Entry → Type 0
IsFirst earlier place (says.Connect action thread account user host) = by_session place.session earlier ≡ []
IsFirst earlier place entry = Unit {0}

abbrev pub AreFirstBehind : List Placed → List Placed → Type 0
AreFirstBehind earlier [] = Unit {0}
AreFirstBehind earlier (place ∷ places) =
    IsFirst earlier place place.entry × AreFirstBehind (place ∷ earlier) places

-- behind a session's quit stands nothing but what the quit does
abbrev pub AreLastBehind : List Placed → List Placed → Type 0
AreLastBehind earlier [] = Unit {0}
AreLastBehind earlier (place ∷ places) =
    (is_head place.entry ≡ true → given_by quits_at place.session earlier ≡ [])
    × AreLastBehind (place ∷ earlier) places

-- the last line is the end of a block, so that nothing is held behind it
abbrev pub is_close : Line → Bool
is_close lines.Close = true
is_close line = false

abbrev pub is_closed : List Line → Bool
is_closed [] = false
is_closed (line ∷ []) = is_close line
is_closed (line ∷ (other ∷ lines)) = is_closed (other ∷ lines)

abbrev pub AreClosed : List Block → Type 0
AreClosed blocks = Each (λ (block : Block). is_closed block.lines ≡ true) blocks

-- what a line starts counts in one of 64 cells
abbrev pub IsSmall : Line → Type 0
IsSmall line = IfSome (subject_of line) (λ subject. subject.cell < 64)

abbrev pub AreSmall : List Block → Type 0
AreSmall blocks = Each (λ (block : Block). Each IsSmall block.lines) blocks

-- a statement's digest text has one of so many places, or none
abbrev pub IsTexted : ℕ → Line → Type 0
IsTexted places line = IfSome (subject_of line) (λ subject. IfSome subject.digest (λ place. place < places))

abbrev pub AreTexted : ℕ → List Block → Type 0
AreTexted places blocks = Each (λ (block : Block). Each (IsTexted places) block.lines) blocks

-- what the script's rules give of a run
pub record IsOrderly (run : Run) : Type 0 where
  pub actions : AreActionsOf run.change run.labels (places run.blocks)
  pub first : AreFirstBehind [] (places run.blocks)
  pub last : AreLastBehind [] (places run.blocks)
  pub closed : AreClosed run.blocks
  pub small : AreSmall run.blocks
  pub texted : AreTexted (length run.setting.digests) run.blocks

-- the facts of each event are numbers of 64 bits
abbrev pub AreInRange : (ℕ → ℕ → Facts) → Type 0
AreInRange facts = (session index : ℕ) → IsInRange (measure_of false (facts session index))
