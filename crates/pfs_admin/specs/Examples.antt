-- Two sessions of one account, worked: both connect, the second reads the setup, the first ends.
use Rattle.std.specs.Prelude.{ℕ, ◌≡◌, ◌==◌, if◌then◌else◌, [], ◌∷◌, map, take, drop, codes, Some, None}
use Rattle.pfs_board.specs.declared.view.Label.{Label}
use Rattle.pfs_containers.specs.ContainerState.{Kept}
use Rattle.pfs_event.specs.declared.entry.Entry.TheVariants as says
use Rattle.pfs_levels.specs.Moves.{ask}
use Rattle.pfs_levels.specs.PlainStore.{word}
use Rattle.pfs_matching.specs.ActorRules.{opening_actors}
use Rattle.pfs_admin.specs.declared.changes.Change.{Change}
use Rattle.pfs_admin.specs.declared.changes.Change.TheVariants.{Connect, Quit, Setup}
use Rattle.pfs_admin.specs.declared.changes.SetupStatement.TheVariants.{Show}
use Rattle.pfs_admin.specs.ConnectionAsks.{work_of_quit, connect_entry}
use Rattle.pfs_admin.specs.Fold.{state_from}
use Rattle.pfs_admin.specs.FoldLaws.{row_of}
use Rattle.pfs_admin.specs.AdministrationStates.{State, seat_at}

abbrev pub label : ℕ → ℕ → Label
label session line = record { session = session; line = line }

-- each session connects in its first line; in its second, session 1 ends and session 2 reads
abbrev pub change : Label → Change
change l = if l.line == 1 then Connect 0 1 else if l.session == 1 then Quit else Setup Show

-- two slots, and one place of each other kind
abbrev pub nobody : Kept
nobody = record {
  now = record {
    places = record {
      threads = None ∷ None ∷ [];
      accounts = None ∷ [];
      users = None ∷ [];
      hosts = None ∷ [];
    };
    lost_threads = 0;
    lost_accounts = 0;
    lost_users = 0;
    lost_hosts = 0;
    account_totals = 0 ∷ [];
    user_totals = 0 ∷ [];
    host_totals = 0 ∷ [];
  };
  connects = 0;
}

-- the consumers and two threads, names u and h, one class of waits beside `transaction`, and two digest texts
abbrev pub start : State
start = record {
  kept = nobody;
  words = word 0 63 ∷ word 0 0 ∷ word 0 0 ∷ [];
  actors = opening_actors;
  objects = [];
  names = codes "u" ∷ codes "h" ∷ [];
  classes = [];
  tables = [];
  cells = 0 ∷ 62 ∷ 63 ∷ [];
  kinds = record { waits = 0 ∷ []; stages = []; statements = []; transactions = 62 ∷ 63 ∷ []; digests = 2 };
  actions = 0;
}

abbrev pub two : State
two = state_from change start (label 1 1 ∷ label 2 1 ∷ [])

abbrev pub four : State
four = state_from change start (label 1 1 ∷ label 2 1 ∷ label 2 2 ∷ label 1 2 ∷ [])

pub record WorkedFold : Type 0 where
  -- the second session took slot 1 and has the first one's account
  pub entry : connect_entry 2 (seat_at (state_from change start (label 1 1 ∷ [])) 2 0 1)
      ≡ says.Connect 2 (Some 1) (Some 0) (Some 0) (Some 0)
  -- it stays when the first one ends, with all that was counted; both words were set, one twice
  pub slots : four.kept.now.places.threads ≡ None ∷ Some (record {
    number = 2;
    user_name = 0;
    host_name = 1;
    account = Some 0;
    user = Some 0;
    host = Some 0;
  }) ∷ []
  pub totals : four.kept.now.account_totals ≡ 2 ∷ []
  pub words : four.words ≡ word 0 63 ∷ word 2 0 ∷ word 1 3 ∷ []
  pub count : four.actions ≡ 4
  -- the first one's cells go to its account, its info is released, the others' are written, and the 56 places of its
  -- ring are released
  pub moves : (work_of_quit two 1).moves ≡ ask 129 (2177 ∷ []) ∷ ask 191 (2239 ∷ []) ∷ ask 192 (2240 ∷ []) ∷ []
  pub rows : take 5 (map row_of (work_of_quit two 1).signs) ≡ 1 ∷ 33 ∷ 65 ∷ 97 ∷ 8450 ∷ []
  pub rows_last : drop 59 (map row_of (work_of_quit two 1).signs) ≡ 8505 ∷ []
  pub flags : (work_of_quit two 1).flags ≡ record { word = 1; flags = 0 } ∷ []
