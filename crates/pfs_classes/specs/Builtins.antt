-- The built-in classes under a list of names, and the names with theirs.
use Rattle.std.specs.Prelude.{ℕ, Bool, true, false, List, [], ◌∷◌, Contains, codes, map, fold}
use Rattle.pfs_names.specs.InternedTexts.{id_of, interned}
use Rattle.pfs_rows.specs.declared.limits.Limits.{Limits}
use Rattle.pfs_classes.specs.declared.kind.Kind.TheVariants.{Mutex, Rwlock, Cond, File, Socket, TableIo, TableLock, Stage, Statement, Transaction}
use Rattle.pfs_classes.specs.declared.classes.Class.{Class}
use Rattle.pfs_classes.specs.declared.builtin.Builtin.{Builtin}
use Rattle.pfs_classes.specs.declared.kind.Kind.{Kind}
use Rattle.pfs_classes.specs.Registry.{Registry, registered}

-- a row of the built-in list: a class's name, its kind, and whether it is ENABLED and TIMED at first
pub record Row : Type 0 where
  pub name : List ℕ
  pub kind : Kind
  pub on : Bool

abbrev pub row : List ℕ → Kind → Bool → Row
row name kind on = record { name = name; kind = kind; on = on }

-- the built-in classes beside `transaction`, in their order
abbrev pub builtins : List Row
builtins =
    row (codes "wait/synch/mutex/sql/LOCK_open") Mutex false ∷
    row (codes "wait/synch/mutex/sql/THD::LOCK_thd_data") Mutex false ∷
    row (codes "wait/synch/mutex/innodb/trx_mutex") Mutex false ∷
    row (codes "wait/synch/rwlock/sql/LOCK_grant") Rwlock false ∷
    row (codes "wait/synch/rwlock/innodb/dict_operation_lock") Rwlock false ∷
    row (codes "wait/synch/cond/sql/COND_thread_cache") Cond false ∷
    row (codes "wait/io/file/sql/binlog") File true ∷
    row (codes "wait/io/file/innodb/innodb_data_file") File true ∷
    row (codes "wait/io/file/innodb/innodb_log_file") File true ∷
    row (codes "wait/io/socket/sql/client_connection") Socket false ∷
    row (codes "wait/io/table/sql/handler") TableIo true ∷
    row (codes "wait/lock/table/sql/handler") TableLock true ∷
    row (codes "stage/sql/init") Stage true ∷
    row (codes "stage/sql/optimizing") Stage true ∷
    row (codes "stage/sql/statistics") Stage true ∷
    row (codes "stage/sql/executing") Stage true ∷
    row (codes "stage/sql/end") Stage true ∷
    row (codes "statement/sql/select") Statement true ∷
    row (codes "statement/sql/insert") Statement true ∷
    row (codes "statement/sql/update") Statement true ∷
    row (codes "statement/sql/delete") Statement true ∷
    row (codes "statement/sql/truncate") Statement true ∷
    row (codes "statement/sql/call_procedure") Statement true ∷
    row (codes "statement/sp/stmt") Statement true ∷
    []

-- names with those of the rows interned
abbrev pub with_rows : List (List ℕ) → List Row → List (List ℕ)
with_rows texts rows = fold interned texts (map (λ row. row.name) rows)

-- names with those of the built-in classes interned, and that of `transaction`
abbrev pub with_builtins : List (List ℕ) → List (List ℕ)
with_builtins texts = interned (with_rows texts builtins) (codes "transaction")

-- the class of a row under these names
abbrev pub class_of : List (List ℕ) → Row → Class
class_of texts row = record { name = id_of texts row.name; kind = row.kind; enabled = row.on; timed = row.on }

-- the classes of the rows, registered one after another
abbrev pub after_rows : Registry → List (List ℕ) → List Row → Registry
after_rows r texts rows = fold registered r (map (class_of texts) rows)

-- `transaction` alone
abbrev pub start_of : List (List ℕ) → Limits → Registry
start_of texts limits = record {
  limits = limits;
  classes = [];
  transaction = record { name = id_of texts (codes "transaction"); kind = Transaction; enabled = true; timed = true };
  lost = [];
}

-- the register of the built-in classes
abbrev pub builtin_of : List (List ℕ) → Limits → Registry
builtin_of texts limits = after_rows (start_of texts limits) texts builtins

-- the names have those of the rows
abbrev pub HasRows : List (List ℕ) → List Row → Type 0
HasRows texts rows = (row : Row) → Contains rows row → Contains texts row.name

-- the names have those of the built-in classes and `transaction`
pub record HasBuiltins (texts : List (List ℕ)) : Type 0 where
  pub rows : HasRows texts builtins
  pub transaction : Contains texts (codes "transaction")

-- a row of the code's list
abbrev pub row_of : Builtin → Row
row_of builtin = row builtin.name.now builtin.kind builtin.on
