-- The worked run of three sessions (`pfs_runs`: `specs/Worked`), by what its info rows are to say.
use Rattle.std.specs.Prelude.{ℕ, ◌≡◌, true, false, Some, None}
use Rattle.pfs_classes.specs.declared.setting.Setting.{Setting}
use Rattle.pfs_containers.specs.Administration.{Containers}
use Rattle.pfs_containers.specs.InfoWords.{six_words, three_words}
use Rattle.pfs_model.specs.Chains.{is_free_after}
use Rattle.pfs_model.specs.EntryPlaces.{up_to_phase}
use Rattle.pfs_runs.specs.PhaseFinals.{containers_behind}
use Rattle.pfs_runs.specs.ScriptLines.{change_in}
use Rattle.pfs_runs.specs.RunExamples.{phases, labels, limits, all}
use Rattle.pfs_law_conservation.specs.InfoRowWords.{thread_said, account_said, user_said, host_said}

-- who is connected where behind a phase's actions
abbrev pub worked_to : Setting → ℕ → Containers
worked_to setting phase = containers_behind setting (change_in phases) labels (up_to_phase phase all)

pub record WorkedInfo (setting : Setting) : Type 0 where
  -- before the first phase nobody is connected
  pub thread_before : thread_said (worked_to setting 0) 0 ≡ None
  -- the first session, its user and its host; there is no room for its account
  pub thread : thread_said (worked_to setting 1) 0 ≡ Some (six_words 1 0 1 1 0 1)
  pub account : account_said (worked_to setting 1) 0 ≡ None
  pub user : user_said (worked_to setting 1) 0 ≡ Some (three_words 0 1 1)
  pub host : host_said (worked_to setting 1) 0 ≡ Some (three_words 1 1 1)
  -- it has quit: user and host have no connection now, and one in all
  pub thread_left : thread_said (worked_to setting 2) 0 ≡ None
  pub user_left : user_said (worked_to setting 2) 0 ≡ Some (three_words 0 0 1)
  pub host_left : host_said (worked_to setting 2) 0 ≡ Some (three_words 1 0 1)
  -- the third session has its slot
  pub thread_again : thread_said (worked_to setting 3) 0 ≡ Some (six_words 3 0 1 1 0 1)
  pub user_again : user_said (worked_to setting 3) 0 ≡ Some (three_words 0 1 2)
  -- and so the rows are FREE or not by the journals
  pub row_before : is_free_after (up_to_phase 0 all) 1 ≡ true
  pub row : is_free_after (up_to_phase 1 all) 1 ≡ false
  pub account_row : is_free_after (up_to_phase 1 all) 33 ≡ true
  pub row_left : is_free_after (up_to_phase 2 all) 1 ≡ true
  pub user_row_left : is_free_after (up_to_phase 2 all) 65 ≡ false
  pub row_again : is_free_after (up_to_phase 3 all) 1 ≡ false

-- in a setting with these limits
abbrev pub WorkedInfos : Type 0
WorkedInfos = (setting : Setting) → setting.limits ≡ limits → WorkedInfo setting
