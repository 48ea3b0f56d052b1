-- A quit at the end of a block's lines.
use Rattle.std.proofs.Common.{ℕ, ◌≡◌, Bool, true, false, List, [], ◌∷◌, ◌++◌, Option, Some, None, refl, ap, sym, ◌∙◌, subst}
use Rattle.std.proofs.lemmas.List.{append-nil, same_from_push}
use Rattle.pfs_event.specs.declared.kind.EventKind.{EventKind}
use Rattle.pfs_play.specs.Errands.{kinds_after}
use Rattle.pfs_play.specs.Repeats.{AllMayPlay}
use Rattle.pfs_script.specs.Brackets.{kinds_behind}
use Rattle.pfs_script.specs.Marks.{mark_of, written_out}
use Rattle.pfs_script.specs.declared.blocks.BlockLine.{BlockLine}
use Rattle.pfs_script.specs.declared.blocks.BlockLine.TheVariants as said
use Rattle.pfs_law_script.proofs.QuietLines.{written_end}
use Rattle.pfs_law_script.specs.PlayableBlocks.{end_of}
use Rattle.pfs_blocks.specs.PlayedBlocks.{MayEnd}

-- a quit behind lines stands behind them written out
pub written_quit : (lines : List BlockLine) → written_out (lines ++ said.Quit ∷ []) ≡ written_out lines ++ said.Quit ∷ []
written_quit lines = written_end lines true

-- lines that may be played end in no quit
no_quit : (depth : ℕ) (kinds : List EventKind) (start : Option (List EventKind)) (lines : List BlockLine) → AllMayPlay 62 depth kinds start (lines ++ said.Quit ∷ []) → ⊥
unfolding AllMayPlay
no_quit depth kinds None [] may = let quits = may.0.quits in cc
no_quit depth kinds (Some start) [] may = let quits = may.0.quits in cc
no_quit depth kinds None (said.Repeat times ∷ rest) may = no_quit depth kinds (Some kinds) rest may
no_quit depth kinds (Some start) (said.Done ∷ rest) may = no_quit depth kinds None rest may.1
no_quit depth kinds None (said.Done ∷ rest) may = no_quit depth kinds None rest may.1
no_quit depth kinds (Some start) (said.Repeat times ∷ rest) may = no_quit depth kinds (Some start) rest may.1
no_quit depth kinds None (said.Wait class ∷ rest) may = no_quit depth (kinds_behind (mark_of (said.Wait class)) kinds) None rest may.1
no_quit depth kinds None (said.TableWait class table ∷ rest) may = no_quit depth (kinds_behind (mark_of (said.TableWait class table)) kinds) None rest may.1
no_quit depth kinds None (said.Statement class digest ∷ rest) may = no_quit depth (kinds_behind (mark_of (said.Statement class digest)) kinds) None rest may.1
no_quit depth kinds None (said.Transaction access ∷ rest) may = no_quit depth (kinds_behind (mark_of (said.Transaction access)) kinds) None rest may.1
no_quit depth kinds None (said.Stage class ∷ rest) may = no_quit depth (kinds_behind (mark_of (said.Stage class)) kinds) None rest may.1
no_quit depth kinds None (said.StageEnd ∷ rest) may = no_quit depth (kinds_behind (mark_of said.StageEnd) kinds) None rest may.1
no_quit depth kinds None (said.Spend time ∷ rest) may = no_quit depth (kinds_behind (mark_of (said.Spend time)) kinds) None rest may.1
no_quit depth kinds None (said.Sql text ∷ rest) may = no_quit depth (kinds_behind (mark_of (said.Sql text)) kinds) None rest may.1
no_quit depth kinds None (said.Quit ∷ rest) may = no_quit depth (kinds_behind (mark_of said.Quit) kinds) None rest may.1
no_quit depth kinds None (said.End ∷ rest) may = no_quit depth (kinds_behind (mark_of said.End) kinds) None rest may.1
no_quit depth kinds None (said.EndStatement numbers ∷ rest) may = no_quit depth (kinds_behind (mark_of (said.EndStatement numbers)) kinds) None rest may.1
no_quit depth kinds (Some start) (said.Wait class ∷ rest) may = no_quit depth (kinds_behind (mark_of (said.Wait class)) kinds) (Some start) rest may.1
no_quit depth kinds (Some start) (said.TableWait class table ∷ rest) may = no_quit depth (kinds_behind (mark_of (said.TableWait class table)) kinds) (Some start) rest may.1
no_quit depth kinds (Some start) (said.Statement class digest ∷ rest) may = no_quit depth (kinds_behind (mark_of (said.Statement class digest)) kinds) (Some start) rest may.1
no_quit depth kinds (Some start) (said.Transaction access ∷ rest) may = no_quit depth (kinds_behind (mark_of (said.Transaction access)) kinds) (Some start) rest may.1
no_quit depth kinds (Some start) (said.Stage class ∷ rest) may = no_quit depth (kinds_behind (mark_of (said.Stage class)) kinds) (Some start) rest may.1
no_quit depth kinds (Some start) (said.StageEnd ∷ rest) may = no_quit depth (kinds_behind (mark_of said.StageEnd) kinds) (Some start) rest may.1
no_quit depth kinds (Some start) (said.Spend time ∷ rest) may = no_quit depth (kinds_behind (mark_of (said.Spend time)) kinds) (Some start) rest may.1
no_quit depth kinds (Some start) (said.Sql text ∷ rest) may = no_quit depth (kinds_behind (mark_of (said.Sql text)) kinds) (Some start) rest may.1
no_quit depth kinds (Some start) (said.Quit ∷ rest) may = no_quit depth (kinds_behind (mark_of said.Quit) kinds) (Some start) rest may.1
no_quit depth kinds (Some start) (said.End ∷ rest) may = no_quit depth (kinds_behind (mark_of said.End) kinds) (Some start) rest may.1
no_quit depth kinds (Some start) (said.EndStatement numbers ∷ rest) may = no_quit depth (kinds_behind (mark_of (said.EndStatement numbers)) kinds) (Some start) rest may.1

-- the lines before a quit at the end may be played, and leave nothing open
ends_by : (depth : ℕ) (kinds : List EventKind) (lines before : List BlockLine) (quits : Bool) (m : MayEnd depth kinds lines) → m.quits ≡ quits → lines ≡ before ++ said.Quit ∷ [] → AllMayPlay 62 depth kinds None before × (kinds_after kinds (written_out before) ≡ [])
ends_by depth kinds lines before true m is are =
    let same : m.body ++ said.Quit ∷ [] ≡ before ++ said.Quit ∷ [] = ap (λ (q : Bool). m.body ++ end_of q) (sym is) ∙ (sym m.are ∙ are) in
    let body : m.body ≡ before = front same in
    (subst (λ (l : List BlockLine). AllMayPlay 62 depth kinds None l) body m.may, ap (λ (l : List BlockLine). kinds_after kinds (written_out l)) (sym body) ∙ m.closed is)
  where
    front : m.body ++ said.Quit ∷ [] ≡ before ++ said.Quit ∷ [] → m.body ≡ before
    front same = (same_from_push m.body before said.Quit said.Quit same).0
ends_by depth kinds lines before false m is are =
    let all : lines ≡ m.body = m.are ∙ (ap (λ (q : Bool). m.body ++ end_of q) is ∙ append-nil m.body) in
    absurd (no_quit depth kinds None before (subst (λ (l : List BlockLine). AllMayPlay 62 depth kinds None l) (sym all ∙ are) m.may))

pub ends_so : (depth : ℕ) (kinds : List EventKind) (lines before : List BlockLine) (m : MayEnd depth kinds lines) → lines ≡ before ++ said.Quit ∷ [] → AllMayPlay 62 depth kinds None before × (kinds_after kinds (written_out before) ≡ [])
ends_so depth kinds lines before m are = ends_by depth kinds lines before m.quits m refl are

-- and where no quit is the last, all of them
goes_by : (depth : ℕ) (kinds : List EventKind) (lines : List BlockLine) (quits : Bool) (m : MayEnd depth kinds lines) → m.quits ≡ quits → ((before : List BlockLine) → lines ≡ before ++ said.Quit ∷ [] → ⊥) → AllMayPlay 62 depth kinds None lines
goes_by depth kinds lines true m is none = absurd (none m.body (m.are ∙ ap (λ (q : Bool). m.body ++ end_of q) is))
goes_by depth kinds lines false m is none = subst (λ (l : List BlockLine). AllMayPlay 62 depth kinds None l) (sym (m.are ∙ (ap (λ (q : Bool). m.body ++ end_of q) is ∙ append-nil m.body))) m.may

pub goes_on : (depth : ℕ) (kinds : List EventKind) (lines : List BlockLine) (m : MayEnd depth kinds lines) → ((before : List BlockLine) → lines ≡ before ++ said.Quit ∷ [] → ⊥) → AllMayPlay 62 depth kinds None lines
goes_on depth kinds lines m none = goes_by depth kinds lines m.quits m refl none
