-- The limits: names, order, ranges and defaults.
use Rattle.std.specs.Prelude.{ℕ, ◌<◌, ◌≤◌, List, codes}
use Rattle.pfs_rows.specs.declared.limits.Limits.{Limits}
use Rattle.pfs_rows.specs.declared.limits.Limit.{Limit}
use Rattle.pfs_rows.specs.declared.limits.Limit.TheVariants.{ThreadInstances, Accounts, Users, Hosts, Digests, StatementStack, MutexClasses, RwlockClasses, CondClasses, FileClasses, SocketClasses, StageClasses, StatementClasses}

-- the place of a limit in their order
abbrev pub order_of : Limit → ℕ
order_of ThreadInstances = 0
order_of Accounts = 1
order_of Users = 2
order_of Hosts = 3
order_of Digests = 4
order_of StatementStack = 5
order_of MutexClasses = 6
order_of RwlockClasses = 7
order_of CondClasses = 8
order_of FileClasses = 9
order_of SocketClasses = 10
order_of StageClasses = 11
order_of StatementClasses = 12

-- the name in a script
abbrev pub limit_name : Limit → List ℕ
limit_name ThreadInstances = codes "thread_instances"
limit_name Accounts = codes "accounts"
limit_name Users = codes "users"
limit_name Hosts = codes "hosts"
limit_name Digests = codes "digests"
limit_name StatementStack = codes "statement_stack"
limit_name MutexClasses = codes "mutex_classes"
limit_name RwlockClasses = codes "rwlock_classes"
limit_name CondClasses = codes "cond_classes"
limit_name FileClasses = codes "file_classes"
limit_name SocketClasses = codes "socket_classes"
limit_name StageClasses = codes "stage_classes"
limit_name StatementClasses = codes "statement_classes"

-- the least value
abbrev pub least_of : Limit → ℕ
least_of StatementStack = 1
least_of _ = 0

-- the greatest value, and the one where a script gives none
abbrev pub most_of : Limit → ℕ
most_of ThreadInstances = 32
most_of Accounts = 32
most_of Users = 32
most_of Hosts = 32
most_of Digests = 64
most_of StatementStack = 10
most_of MutexClasses = 12
most_of RwlockClasses = 8
most_of CondClasses = 8
most_of FileClasses = 8
most_of SocketClasses = 4
most_of StageClasses = 10
most_of StatementClasses = 10

-- the value of a limit
abbrev pub value_of : Limits → Limit → ℕ
value_of l ThreadInstances = l.thread_instances
value_of l Accounts = l.accounts
value_of l Users = l.users
value_of l Hosts = l.hosts
value_of l Digests = l.digests
value_of l StatementStack = l.statement_stack
value_of l MutexClasses = l.mutex_classes
value_of l RwlockClasses = l.rwlock_classes
value_of l CondClasses = l.cond_classes
value_of l FileClasses = l.file_classes
value_of l SocketClasses = l.socket_classes
value_of l StageClasses = l.stage_classes
value_of l StatementClasses = l.statement_classes

-- the limits with one of them set
abbrev pub with_limit : Limits → Limit → ℕ → Limits
with_limit l ThreadInstances n = record l { thread_instances = n }
with_limit l Accounts n = record l { accounts = n }
with_limit l Users n = record l { users = n }
with_limit l Hosts n = record l { hosts = n }
with_limit l Digests n = record l { digests = n }
with_limit l StatementStack n = record l { statement_stack = n }
with_limit l MutexClasses n = record l { mutex_classes = n }
with_limit l RwlockClasses n = record l { rwlock_classes = n }
with_limit l CondClasses n = record l { cond_classes = n }
with_limit l FileClasses n = record l { file_classes = n }
with_limit l SocketClasses n = record l { socket_classes = n }
with_limit l StageClasses n = record l { stage_classes = n }
with_limit l StatementClasses n = record l { statement_classes = n }

-- the limits where a script gives none
abbrev pub default_limits : Limits
default_limits = record {
  thread_instances = 32;
  accounts = 32;
  users = 32;
  hosts = 32;
  digests = 64;
  statement_stack = 10;
  mutex_classes = 12;
  rwlock_classes = 8;
  cond_classes = 8;
  file_classes = 8;
  socket_classes = 4;
  stage_classes = 10;
  statement_classes = 10;
}

-- a value is in the limit's range
abbrev pub IsWithin : Limits → Limit → Type 0
IsWithin l limit = (least_of limit ≤ value_of l limit) × (value_of l limit ≤ most_of limit)

-- each limit is in its range
pub record AreInRange (l : Limits) : Type 0 where
  pub thread_instances : l.thread_instances ≤ 32
  pub accounts : l.accounts ≤ 32
  pub users : l.users ≤ 32
  pub hosts : l.hosts ≤ 32
  pub digests : l.digests ≤ 64
  pub statement_stack_least : 1 ≤ l.statement_stack
  pub statement_stack : l.statement_stack ≤ 10
  pub mutex_classes : l.mutex_classes ≤ 12
  pub rwlock_classes : l.rwlock_classes ≤ 8
  pub cond_classes : l.cond_classes ≤ 8
  pub file_classes : l.file_classes ≤ 8
  pub socket_classes : l.socket_classes ≤ 4
  pub stage_classes : l.stage_classes ≤ 10
  pub statement_classes : l.statement_classes ≤ 10

-- this limit is outside its range, and each before it is in its own
pub record IsFirstOutside (l : Limits) (limit : Limit) : Type 0 where
  pub outside : ¬ IsWithin l limit
  pub before : (other : Limit) → order_of other < order_of limit → IsWithin l other
