-- What playing needs of a session and of its actor, and what it uses up of these.
use Rattle.std.specs.Prelude.{ℕ, ◌≡◌, ◌<◌, ◌≤◌, ◌+◌, ◌*◌, ◌^◌, List, length}
use Rattle.pfs_levels.specs.Calls.{Call, Opening}
use Rattle.pfs_levels.specs.Views.{Store, Affords, Used}
use Rattle.pfs_script.specs.declared.blocks.BlockLine.{BlockLine}
use Rattle.pfs_session.specs.SessionStates.{Book}
use Rattle.pfs_play.specs.Errand.{Errand}
use Rattle.pfs_play.specs.Errands.{actions_of, actions_on, cost_of, cost_on}

-- how many numbers of events, and just how many actions; how many publications, tickets and entries
pub record Need : Type 0 where
  pub numbers : ℕ
  pub actions : ℕ
  pub spare : ℕ
  pub tickets : ℕ
  pub entries : ℕ

-- of one line: an action publishes 20,192 times more
abbrev pub need_of : Errand → Need
need_of errand = record {
  numbers = 1;
  actions = actions_of errand;
  spare = 11 + 20192 * actions_of errand;
  tickets = 2;
  entries = cost_of errand;
}

-- of lines that are written out
abbrev pub need_on : List BlockLine → Need
need_on lines = record {
  numbers = length lines;
  actions = actions_on lines;
  spare = 11 * length lines + 20192 * actions_on lines;
  tickets = 2 * length lines;
  entries = cost_on lines;
}

-- all that is needed is there: the session has drawn few numbers and made few actions, some calls led to the actor's
-- store, and so many publications, tickets and entries are there to be used
pub record Ready (need : Need) (session : Book) (store : Store) : Type 0 where
  pub early : session.state.drawn + need.numbers < 2 ^ 64
  pub rare : session.state.actions + need.actions < 2 ^ 64
  pub begun : (start : Opening) × (calls : List Call) × store.reached start calls
  pub affords : Affords need.spare need.tickets need.entries store session.journal

-- a session went on by no more than that, and by just so many actions: it keeps its number, its place and the depth
-- that it was opened with, without an action its last one, and holds at most as many amounts
pub record Advanced (need : Need) (old new : Book) (was now : Store) : Type 0 where
  pub drawn : new.state.drawn ≤ old.state.drawn + need.numbers
  pub actions : new.state.actions ≡ old.state.actions + need.actions
  pub rest : new.state ≡ record old.state {
    clock = new.state.clock;
    drawn = new.state.drawn;
    opened = new.state.opened;
    held = new.state.held;
    actions = new.state.actions;
    last = new.state.last;
    nexts = new.state.nexts;
  }
  pub last : need.actions ≡ 0 → new.state.last ≡ old.state.last
  pub depth : new.state.opened.depth ≡ old.state.opened.depth
  pub wide : length new.state.held ≡ 193
  pub used : Used need.spare need.tickets need.entries was now old.journal new.journal
