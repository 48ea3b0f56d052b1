-- Blocks whose events nest, repeats and all.
use Rattle.std.specs.Prelude.{◌≡◌, true, List, [], ◌∷◌, Option, Some, None}
use Rattle.pfs_event.specs.declared.kind.EventKind.{EventKind}
use Rattle.pfs_script.specs.declared.blocks.BlockLine.{BlockLine}
use Rattle.pfs_script.specs.declared.blocks.BlockLine.TheVariants as lines
use Rattle.pfs_script.specs.Marks.{mark_of}
use Rattle.pfs_script.specs.Brackets.{kinds_behind, may_stand}

-- where events of these kinds are open, each line may stand where it does; inside a repeat, that began where events
-- of those kinds were open, its lines stand once, and at its end events of the same kinds are open again
unfoldable pub IsNested : List EventKind → Option (List EventKind) → List BlockLine → Type 0
IsNested kinds start [] = Unit {0}
IsNested kinds None (lines.Repeat times ∷ rest) = IsNested kinds (Some kinds) rest
IsNested kinds (Some start) (lines.Done ∷ rest) = (kinds ≡ start) × IsNested kinds None rest
IsNested kinds start (line ∷ rest) =
    (may_stand kinds (mark_of line) ≡ true) × IsNested (kinds_behind (mark_of line) kinds) start rest
