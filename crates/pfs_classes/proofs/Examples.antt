-- Worked examples, by computation.
use Rattle.std.proofs.Common.{◌≡◌, [], true, false, refl, length, codes}
use Rattle.pfs_rows.specs.Limits.{default_limits}
use Rattle.pfs_classes.specs.declared.kind.Kind.TheVariants.{Mutex, File}
use Rattle.pfs_classes.specs.Kinds.{are_parts}
use Rattle.pfs_classes.specs.Registry.{registered, lost_of}
use Rattle.pfs_names.specs.InternedTexts.{interned}
use Rattle.pfs_classes.specs.Builtins.{builtins, builtin_of, with_builtins}

pub rows : length builtins ≡ 24
rows = refl

-- a part has at least one byte
pub parts : are_parts (codes "sql/LOCK_open") ≡ true
parts = refl

pub empty_part : are_parts (codes "sql//LOCK_open") ≡ false
empty_part = refl

pub no_part : are_parts [] ≡ false
no_part = refl

pub other_byte : are_parts (codes "sql/LOCK open") ≡ false
other_byte = refl

-- under the default limits no built-in class is lost, and with no room for files the three are
pub all_registered : length (builtin_of (with_builtins []) default_limits).classes ≡ 24
unfolding registered interned
all_registered = refl

pub files_lost : lost_of (builtin_of (with_builtins []) (record default_limits { file_classes = 0 })) File ≡ 3
unfolding registered interned
files_lost = refl

pub mutexes_kept : lost_of (builtin_of (with_builtins []) (record default_limits { file_classes = 0 })) Mutex ≡ 0
unfolding registered interned
mutexes_kept = refl
