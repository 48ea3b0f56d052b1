-- Which registers a script can make over a list of names.
use Rattle.std.specs.Prelude.{◌≡◌, ℕ, ◌<◌, Bool, false, List, length, Contains}
use Rattle.pfs_rows.specs.declared.limits.Limits.{Limits}
use Rattle.pfs_rows.specs.Limits.{AreInRange}
use Rattle.pfs_classes.specs.declared.classes.Class.{Class}
use Rattle.pfs_classes.specs.declared.classes.LostClass.{LostClass}
use Rattle.pfs_classes.specs.Kinds.{Fits, is_fixed}
use Rattle.pfs_classes.specs.Registry.{Registry, IsId, is_given, registered, with_flags, text_of}
use Rattle.pfs_classes.specs.Builtins.{HasBuiltins, builtin_of}

-- the register comes from the built-in list under its limits, by registering new names and setting flags
pub data ComesFrom (texts : List (List ℕ)) : Registry → Type 0 where
  builtin : (limits : Limits) → AreInRange limits → HasBuiltins texts → ComesFrom texts (builtin_of texts limits)
  register : (r : Registry) (class : Class) → ComesFrom texts r → class.name < length texts
      → Fits (text_of texts class.name) class.kind
      → is_fixed class.kind ≡ false → is_given r class.name ≡ false → ComesFrom texts (registered r class)
  set : (r : Registry) (id : ℕ) (enabled timed : Bool) → ComesFrom texts r → IsId r id
      → ComesFrom texts (with_flags r id enabled timed)

-- each class and each lost one has the id of one of these names
pub record HasNames (texts : List (List ℕ)) (r : Registry) : Type 0 where
  pub classes : (class : Class) → Contains r.classes class → class.name < length texts
  pub transaction : r.transaction.name < length texts
  pub lost : (one : LostClass) → Contains r.lost one → one.name < length texts
