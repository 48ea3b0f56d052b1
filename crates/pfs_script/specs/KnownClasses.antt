-- What is known of the classes of lines, and when numbers are distinct.
use Rattle.std.specs.Prelude.{ℕ, ◌<◌, List, [], ◌∷◌, Contains}
use Rattle.pfs_classes.specs.declared.classes.ClassRef.{ClassRef}
use Rattle.pfs_classes.specs.declared.classes.ClassRef.TheVariants.{Class, Lost}
use Rattle.pfs_script.specs.declared.blocks.BlockLine.{BlockLine}
use Rattle.pfs_script.specs.declared.blocks.BlockLine.TheVariants as said

-- the class is one of so many, or lost
abbrev pub IsKnownClass : ℕ → ClassRef → Type 0
IsKnownClass classes (Class id) = id < classes
IsKnownClass classes (Lost kind) = Unit {0}

-- what the line starts is of such a class
abbrev pub IsKnown : ℕ → BlockLine → Type 0
IsKnown classes (said.Wait class) = IsKnownClass classes class
IsKnown classes (said.TableWait class table) = IsKnownClass classes class
IsKnown classes (said.Statement class digest) = IsKnownClass classes class
IsKnown classes (said.Stage class) = IsKnownClass classes class
IsKnown classes (said.Transaction access) = Unit {0}
IsKnown classes said.StageEnd = Unit {0}
IsKnown classes (said.Spend time) = Unit {0}
IsKnown classes (said.Sql text) = Unit {0}
IsKnown classes said.Quit = Unit {0}
IsKnown classes said.End = Unit {0}
IsKnown classes (said.EndStatement numbers) = Unit {0}
IsKnown classes (said.Repeat times) = Unit {0}
IsKnown classes said.Done = Unit {0}

-- no number stands twice
abbrev pub AreDistinct : List ℕ → Type 0
AreDistinct [] = Unit {0}
AreDistinct (number ∷ numbers) = (¬ Contains numbers number) × AreDistinct numbers
