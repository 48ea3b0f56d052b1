-- Lines that nest, and whose classes, tables and places of digest texts are known, may be played.
use Rattle.std.proofs.Common.{◌≡◌, Bool, true, false, refl, ℕ, ◌≤◌, ◌+◌, List, [], ◌∷◌, ◌++◌, Option, Some, None, length, arith}
use Rattle.pfs_event.specs.declared.kind.EventKind.{EventKind}
use Rattle.pfs_script.specs.declared.blocks.BlockLine.{BlockLine}
use Rattle.pfs_script.specs.declared.blocks.BlockLine.TheVariants as said
use Rattle.pfs_script.specs.Brackets.{kinds_behind}
use Rattle.pfs_script.specs.Marks.{mark_of}
use Rattle.pfs_script.specs.NestedBlocks.{IsNested}
use Rattle.pfs_script.proofs.BlockNests.{kinds_along}
use Rattle.pfs_play.specs.Errands.{kinds_after}
use Rattle.pfs_law_script.specs.PlayableBlocks.{end_of}
use Rattle.pfs_play.specs.Repeats.{AllMayPlay}
use Rattle.pfs_law_script.proofs.BlockBodies.{AreSuch}
use Rattle.pfs_law_script.proofs.NestedLines.{behind_few}

pub may_play : (depth : ℕ) (kinds : List EventKind) (start : Option (List EventKind)) (body more : List BlockLine)
    → IsNested kinds start (body ++ more) → AreSuch body → length kinds + length body ≤ depth
    → AllMayPlay 62 depth kinds start body
unfolding IsNested AllMayPlay
may_play depth kinds None [] more n such h = tt
may_play depth kinds (Some first) [] more n such h = tt
may_play depth kinds None (said.Repeat times ∷ body) more n such h =
    may_play depth kinds (Some kinds) body more n such.1 (omega (arith, h))
may_play depth kinds (Some first) (said.Done ∷ body) more n such h =
    (n.0, may_play depth kinds None body more n.1 such.1 (omega (arith, h)))
may_play depth kinds None (line ∷ body) more n such h = (
  record {
    quits = such.0.0;
    known = such.0.1;
    table = such.0.2;
    digest = such.0.3;
    stands = n.0;
    shallow = omega (arith, h);
  },
  may_play depth (kinds_behind (mark_of line) kinds) None body more n.1 such.1
      (omega (arith, h, behind_few (mark_of line) kinds)),
)
may_play depth kinds (Some first) (line ∷ body) more n such h = (
  record {
    quits = such.0.0;
    known = such.0.1;
    table = such.0.2;
    digest = such.0.3;
    stands = n.0;
    shallow = omega (arith, h);
  },
  may_play depth (kinds_behind (mark_of line) kinds) (Some first) body more n.1 such.1
      (omega (arith, h, behind_few (mark_of line) kinds)),
)

-- what is open behind lines

pub along_after : (kinds : List EventKind) (lines : List BlockLine) → kinds_along kinds lines ≡ kinds_after kinds lines
along_after kinds [] = refl
along_after kinds (line ∷ lines) = along_after (kinds_behind (mark_of line) kinds) lines

-- a quit ends no event
pub after_end : (kinds : List EventKind) (body : List BlockLine) (quits : Bool)
    → kinds_after kinds (body ++ end_of quits) ≡ kinds_after kinds body
after_end kinds [] true = refl
after_end kinds [] false = refl
after_end kinds (line ∷ body) quits = after_end (kinds_behind (mark_of line) kinds) body quits
