-- What always holds of a session.
use Rattle.std.specs.Prelude.{ℕ, ◌≡◌, ◌≤◌, length}
use Rattle.pfs_model.specs.SetupFlags.{is_wait, is_statement}
use Rattle.pfs_session.specs.EventPuts.{AreNexts, ArePlaced}
use Rattle.pfs_session.specs.SessionStates.{State, count_open, AreAround, AreSeated, AreHeldFor}

-- what always holds of a session that counts so many open statements and waits
pub record IsKept (s : State) (statements waits : ℕ) : Type 0 where
  pub statements_are : statements ≡ count_open is_statement s.opened.events
  pub waits_are : waits ≡ count_open is_wait s.opened.events
  pub nested : AreAround s.opened.events
  pub seated : AreSeated s.place.thread s.opened.events
  pub held_wide : length s.held ≡ 193
  pub held_seated : AreHeldFor s.place.thread s.held
  pub stack_few : s.stack ≤ 10
  pub placed : ArePlaced s.opened.events
  pub nexts_few : AreNexts s.nexts
