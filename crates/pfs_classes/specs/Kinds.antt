-- The kinds of classes, and which kind a class's name has.
use Rattle.std.specs.Prelude.{◌≡◌, ℕ, ◌≤◌, Bool, true, false, ◌&&◌, ◌||◌, ◌==◌, not, nat_le, IsTrue, List, [], ◌∷◌, ◌++◌, length, drop, ◌+◌, nat_eq, if◌then◌else◌, Option, Some, None, find, ◌⊎◌, codes}
use Rattle.std.specs.List.{list_all, slice_split, starts_with}
use Rattle.std.specs.Str.{bytes_eq}
use Rattle.pfs_rows.specs.declared.limits.Limits.{Limits}
use Rattle.pfs_classes.specs.declared.kind.Kind.{Kind}
use Rattle.pfs_classes.specs.declared.kind.Kind.TheVariants.{Mutex, Rwlock, Cond, File, Socket, TableIo, TableLock, Stage, Statement, Transaction}

-- a kind's name, which its classes' names begin with
abbrev pub kind_name : Kind → List ℕ
kind_name Mutex = codes "wait/synch/mutex"
kind_name Rwlock = codes "wait/synch/rwlock"
kind_name Cond = codes "wait/synch/cond"
kind_name File = codes "wait/io/file"
kind_name Socket = codes "wait/io/socket"
kind_name TableIo = codes "wait/io/table"
kind_name TableLock = codes "wait/lock/table"
kind_name Stage = codes "stage"
kind_name Statement = codes "statement"
kind_name Transaction = codes "transaction"

-- how many classes of the kind there may be, beside `transaction`; each kind of table waits has the built-in one
abbrev pub room_of : Limits → Kind → ℕ
room_of limits Mutex = limits.mutex_classes
room_of limits Rwlock = limits.rwlock_classes
room_of limits Cond = limits.cond_classes
room_of limits File = limits.file_classes
room_of limits Socket = limits.socket_classes
room_of limits TableIo = 1
room_of limits TableLock = 1
room_of limits Stage = limits.stage_classes
room_of limits Statement = limits.statement_classes
room_of limits Transaction = 0

-- kinds that have their built-in classes alone
abbrev pub is_fixed : Kind → Bool
is_fixed TableIo = true
is_fixed TableLock = true
is_fixed Transaction = true
is_fixed _ = false

-- a byte of a part: a letter, a digit, `_`, `:`, `.` or `-`
abbrev pub is_part_byte : ℕ → Bool
is_part_byte b = (nat_le 97 b && nat_le b 122) || (nat_le 65 b && nat_le b 90) || (nat_le 48 b && nat_le b 57)
    || (b == 95) || (b == 58) || (b == 46) || (b == 45)

-- a part has at least one byte
abbrev pub is_part : List ℕ → Bool
is_part part = not (length part == 0) && list_all is_part_byte part

-- one or more parts, joined by `/`
abbrev pub are_parts : List ℕ → Bool
are_parts text = list_all is_part (slice_split (λ b. b == 47) text)

-- a name has a kind: the kind's name, `/` and parts, 128 bytes at most; or it is `transaction` alone
abbrev pub Fits : List ℕ → Kind → Type 0
Fits name kind = ((name ≡ codes "transaction") × (kind ≡ Transaction))
    ⊎ ((parts : List ℕ) × (name ≡ kind_name kind ++ 47 ∷ parts) × IsTrue (are_parts parts) × (length name ≤ 128))

-- a name is the kind's name, `/` and parts
abbrev pub is_of_kind : List ℕ → Kind → Bool
is_of_kind name kind =
    starts_with nat_eq name (kind_name kind ++ 47 ∷ []) && are_parts (drop (length (kind_name kind) + 1) name)

abbrev pub all_kinds : List Kind
all_kinds = Mutex ∷ Rwlock ∷ Cond ∷ File ∷ Socket ∷ TableIo ∷ TableLock ∷ Stage ∷ Statement ∷ Transaction ∷ []

-- the kind that a name has, where it has one
unfoldable pub kind_of : List ℕ → Option Kind
kind_of name =
    if bytes_eq name (codes "transaction") then Some Transaction
    else (if nat_le (length name) 128 then find (is_of_kind name) all_kinds else None)

-- the place of a kind in their order
abbrev pub kind_order : Kind → ℕ
kind_order Mutex = 0
kind_order Rwlock = 1
kind_order Cond = 2
kind_order File = 3
kind_order Socket = 4
kind_order TableIo = 5
kind_order TableLock = 6
kind_order Stage = 7
kind_order Statement = 8
kind_order Transaction = 9

abbrev pub same_kind : Kind → Kind → Bool
same_kind a b = kind_order a == kind_order b
