-- The counters of what was lost, at a phase's end.
use Rattle.std.specs.Prelude.{ℕ, ◌==◌, if◌then◌else◌, List, [], ◌∷◌, codes}
use Rattle.pfs_classes.specs.declared.kind.Kind.TheVariants.{Mutex, Rwlock, Cond, File, Socket, Stage, Statement}
use Rattle.pfs_classes.specs.Registry.{Registry, lost_of}
use Rattle.pfs_journal.specs.declared.values.LostReport.{LostReport}
use Rattle.pfs_finals.specs.declared.counters.Counter.{Counter}
use Rattle.pfs_finals.specs.declared.counters.Counter.TheVariants.{Threads, Accounts, Users, Hosts, Digests, NestedStatements, Lockers, MutexClasses, RwlockClasses, CondClasses, FileClasses, SocketClasses, StageClasses, StatementClasses}
use Rattle.pfs_finals.specs.declared.counters.LostCounters.{LostCounters}

-- the counters in their order
abbrev pub counters : List Counter
counters = Threads ∷ Accounts ∷ Users ∷ Hosts ∷ Digests ∷ NestedStatements ∷ Lockers ∷ MutexClasses ∷ RwlockClasses
    ∷ CondClasses ∷ FileClasses ∷ SocketClasses ∷ StageClasses ∷ StatementClasses ∷ []

-- how much was lost: of containers, digests and events what was counted, of the classes those of the kind that found
-- no room
abbrev pub lost_by : Registry → LostCounters → Counter → ℕ
lost_by classes lost Threads = lost.threads
lost_by classes lost Accounts = lost.accounts
lost_by classes lost Users = lost.users
lost_by classes lost Hosts = lost.hosts
lost_by classes lost Digests = lost.digests
lost_by classes lost NestedStatements = lost.statements
lost_by classes lost Lockers = lost.waits
lost_by classes lost MutexClasses = lost_of classes Mutex
lost_by classes lost RwlockClasses = lost_of classes Rwlock
lost_by classes lost CondClasses = lost_of classes Cond
lost_by classes lost FileClasses = lost_of classes File
lost_by classes lost SocketClasses = lost_of classes Socket
lost_by classes lost StageClasses = lost_of classes Stage
lost_by classes lost StatementClasses = lost_of classes Statement

-- a counter's name
abbrev pub counter_name : Counter → List ℕ
counter_name Threads = codes "Performance_schema_thread_instances_lost"
counter_name Accounts = codes "Performance_schema_accounts_lost"
counter_name Users = codes "Performance_schema_users_lost"
counter_name Hosts = codes "Performance_schema_hosts_lost"
counter_name Digests = codes "Performance_schema_digest_lost"
counter_name NestedStatements = codes "Performance_schema_nested_statement_lost"
counter_name Lockers = codes "Performance_schema_locker_lost"
counter_name MutexClasses = codes "Performance_schema_mutex_classes_lost"
counter_name RwlockClasses = codes "Performance_schema_rwlock_classes_lost"
counter_name CondClasses = codes "Performance_schema_cond_classes_lost"
counter_name FileClasses = codes "Performance_schema_file_classes_lost"
counter_name SocketClasses = codes "Performance_schema_socket_classes_lost"
counter_name StageClasses = codes "Performance_schema_stage_classes_lost"
counter_name StatementClasses = codes "Performance_schema_statement_classes_lost"

-- a counter stands where it isn't 0
abbrev pub lost_row : Registry → LostCounters → Counter → List LostReport
lost_row classes lost counter =
    let number = lost_by classes lost counter in
    if number == 0 then [] else record { name = counter_name counter; number = number } ∷ []
