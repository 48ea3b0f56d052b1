-- Limits in their ranges, one by one and together.
use Rattle.std.proofs.Common.{◌<◌, lit<, arith}
use Rattle.pfs_rows.specs.declared.limits.Limit.{Limit}
use Rattle.pfs_rows.specs.declared.limits.Limit.TheVariants.{ThreadInstances, Accounts, Users, Hosts, Digests, StatementStack, MutexClasses, RwlockClasses, CondClasses, FileClasses, SocketClasses, StageClasses, StatementClasses}
use Rattle.pfs_rows.specs.declared.limits.Limits.{Limits}
use Rattle.pfs_rows.specs.Limits.{order_of, AreInRange, IsWithin}

pub order_of-lt : (limit : Limit) → order_of limit < 13
order_of-lt ThreadInstances = lit< tt
order_of-lt _ = lit< tt

pub together : (l : Limits) → ((limit : Limit) → IsWithin l limit) → AreInRange l
together l each = record {
  thread_instances = (each ThreadInstances).1;
  accounts = (each Accounts).1;
  users = (each Users).1;
  hosts = (each Hosts).1;
  digests = (each Digests).1;
  statement_stack_least = (each StatementStack).0;
  statement_stack = (each StatementStack).1;
  mutex_classes = (each MutexClasses).1;
  rwlock_classes = (each RwlockClasses).1;
  cond_classes = (each CondClasses).1;
  file_classes = (each FileClasses).1;
  socket_classes = (each SocketClasses).1;
  stage_classes = (each StageClasses).1;
  statement_classes = (each StatementClasses).1;
}

pub each_of : (l : Limits) → AreInRange l → (limit : Limit) → IsWithin l limit
each_of l all ThreadInstances = (omega arith, all.thread_instances)
each_of l all Accounts = (omega arith, all.accounts)
each_of l all Users = (omega arith, all.users)
each_of l all Hosts = (omega arith, all.hosts)
each_of l all Digests = (omega arith, all.digests)
each_of l all StatementStack = (all.statement_stack_least, all.statement_stack)
each_of l all MutexClasses = (omega arith, all.mutex_classes)
each_of l all RwlockClasses = (omega arith, all.rwlock_classes)
each_of l all CondClasses = (omega arith, all.cond_classes)
each_of l all FileClasses = (omega arith, all.file_classes)
each_of l all SocketClasses = (omega arith, all.socket_classes)
each_of l all StageClasses = (omega arith, all.stage_classes)
each_of l all StatementClasses = (omega arith, all.statement_classes)
