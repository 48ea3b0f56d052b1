-- Two small summaries, worked: of two users one has waited twice and the other never; of two sessions one has run a
-- statement, and the other three that were not timed.
use Rattle.std.specs.Prelude.{◌≡◌, ℕ, ◌==◌, ◌&&◌, true, cond, List, [], ◌∷◌, Option, Some, None}
use Rattle.pfs_classes.specs.Registry.{class_at, text_of}
use Rattle.pfs_classes.specs.declared.setting.Setting.{Setting}
use Rattle.pfs_conservation.specs.KindSummaries.{Key, KeyThread, KeyUser, KeyAll}
use Rattle.pfs_readsets.specs.TablePlaces.{is_class_of}
use Rattle.pfs_rows.specs.declared.table.SummaryTable.TheVariants.{ByThread, ByUser}
use Rattle.pfs_rows.specs.declared.table.TableKind.TheVariants.{Waits, Statements}
use Rattle.pfs_stat.specs.Stat.{zero_of}
use Rattle.pfs_stat.specs.declared.Stat.{Stat}
use Rattle.pfs_summaries.specs.RowValues.{numbers_row}
use Rattle.pfs_summaries.specs.Summaries.{class_text}
use Rattle.pfs_text.specs.declared.values.RowValue.{RowValue}
use Rattle.pfs_text.specs.declared.values.RowValue.TheVariants as value
use Rattle.pfs_law_summaries.specs.SummaryRows.{HasRow, AreSummed}

-- two waits, of 5 and 7
abbrev pub two_waits : Stat
two_waits = record zero_of { count = 2; sum = 12; min = 5; max = 7 }

-- a statement of 9, with a lock time of 4 and two rows sent
abbrev pub one_statement : Stat
one_statement = record zero_of { count = 1; sum = 9; min = 9; max = 9; lock = 4; sent = 2 }

abbrev pub three_untimed : Stat
three_untimed = record zero_of { count = 3 }

-- the user of the name 24 has waited, by the class 6; nobody else has
abbrev pub by_user : Key → ℕ → Stat
by_user (KeyUser user) cell = cond ((user == 24) && (cell == 6)) two_waits zero_of
by_user key cell = zero_of

-- statements are of the class 17
abbrev pub by_session : Key → ℕ → Stat
by_session (KeyThread session slot) cell = cond (cell == 17) (cond (session == 1) one_statement three_untimed) zero_of
by_session key cell = zero_of

-- there are two sessions, at the slots 0 and 1
abbrev pub slots : ℕ → Option ℕ
slots session = cond (session == 1) (Some 0) (cond (session == 2) (Some 1) None)

abbrev pub IsSeated : Key → Type 0
IsSeated (KeyThread session slot) = slots session ≡ Some slot
IsSeated key = Unit {0}

-- a row of a user and a class, and of a session and a class
abbrev pub user_row : Setting → ℕ → List ℕ → List RowValue
user_row setting user numbers =
    value.Text (text_of setting.names user) ∷ value.Text (class_text setting.names (class_at setting.classes 6))
    ∷ numbers_row numbers

abbrev pub session_row : Setting → ℕ → List ℕ → List RowValue
session_row setting session numbers =
    value.Number session ∷ value.Text (class_text setting.names (class_at setting.classes 17)) ∷ numbers_row numbers

abbrev pub waited : Setting → List RowValue
waited setting = user_row setting 24 (2 ∷ 12 ∷ 5 ∷ 6 ∷ 7 ∷ [])

abbrev pub idle : Setting → List RowValue
idle setting = user_row setting 25 (0 ∷ 0 ∷ 0 ∷ 0 ∷ 0 ∷ [])

abbrev pub session_rows : Setting → List (List RowValue)
session_rows setting =
    session_row setting 1 (1 ∷ 9 ∷ 9 ∷ 9 ∷ 9 ∷ 4 ∷ 0 ∷ 0 ∷ 0 ∷ 2 ∷ 0 ∷ [])
    ∷ session_row setting 2 (3 ∷ 0 ∷ 0 ∷ 0 ∷ 0 ∷ 0 ∷ 0 ∷ 0 ∷ 0 ∷ 0 ∷ 0 ∷ []) ∷ []

abbrev pub AreUsers : Setting → List (List RowValue) → Type 0
AreUsers setting rows = AreSummed setting Waits ByUser IsSeated by_user rows

abbrev pub AreSessions : Setting → List (List RowValue) → Type 0
AreSessions setting rows = AreSummed setting Statements ByThread IsSeated by_session rows

abbrev pub HasUser : Setting → Key × ℕ → Type 0
HasUser setting row = HasRow setting Waits ByUser IsSeated by_user row

abbrev pub HasSession : Setting → Key × ℕ → Type 0
HasSession setting row = HasRow setting Statements ByThread IsSeated by_session row

pub record WorkedRows (setting : Setting) : Type 0 where
  pub users : AreUsers setting (waited setting ∷ [])
  pub sessions : AreSessions setting (session_rows setting)
  pub user : HasUser setting (KeyUser 24, 6)
  pub first_session : HasSession setting (KeyThread 1 0, 17)
  pub second_session : HasSession setting (KeyThread 2 1, 17)
  -- no row: of the user who never waited, of another class, of a key that is not the summary's
  pub idle_user : HasUser setting (KeyUser 25, 6) → ⊥
  pub other_class : HasUser setting (KeyUser 24, 7) → ⊥
  pub other_key : HasUser setting (KeyAll, 6) → ⊥
  -- nor of a session at a slot that is not its own, or of one that is nowhere
  pub other_slot : HasSession setting (KeyThread 1 1, 17) → ⊥
  pub no_session : HasSession setting (KeyThread 3 0, 17) → ⊥
  -- no rows of the summary: without the row, with it twice, with one that counts nothing besides, or with a least of 0
  pub left_out : AreUsers setting [] → ⊥
  pub twice : AreUsers setting (waited setting ∷ waited setting ∷ []) → ⊥
  pub with_idle : AreUsers setting (waited setting ∷ idle setting ∷ []) → ⊥
  pub too_low : AreUsers setting (user_row setting 24 (2 ∷ 12 ∷ 0 ∷ 6 ∷ 7 ∷ []) ∷ []) → ⊥

-- in a setting that has these classes
abbrev pub WorkedSummaries : Type 0
WorkedSummaries = (setting : Setting) → is_class_of Waits (class_at setting.classes 6) ≡ true
    → is_class_of Statements (class_at setting.classes 17) ≡ true → WorkedRows setting
