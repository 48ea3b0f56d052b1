-- The lines of a block, but for a quit at their end, end no session, also with each repeat written out.
use Rattle.std.proofs.Common.{ℕ, zero, suc, ◌≡◌, ◌+◌, ◌≤◌, Bool, true, false, List, [], ◌∷◌, ◌++◌, length, Option, Some, None, refl, ap, sym, ◌∙◌, arith}
use Rattle.std.proofs.lemmas.List.{append_assoc, append-nil}
use Rattle.pfs_event.specs.declared.kind.EventKind.{EventKind}
use Rattle.pfs_model.specs.Chains.{Each}
use Rattle.pfs_play.specs.Errands.{is_quit}
use Rattle.pfs_play.specs.Repeats.{AllMayPlay}
use Rattle.pfs_law_script.specs.PlayableBlocks.{end_of, lines_among, kinds_before, HasBody}
use Rattle.pfs_script.specs.declared.blocks.Block.{Block}
use Rattle.pfs_script.specs.declared.blocks.BlockLine.{BlockLine}
use Rattle.pfs_script.specs.declared.blocks.BlockLine.TheVariants as said
use Rattle.pfs_script.specs.declared.blocks.Phase.{Phase}
use Rattle.pfs_script.specs.Brackets.{kinds_behind}
use Rattle.pfs_script.specs.Events.{blocks_for}
use Rattle.pfs_script.specs.Marks.{mark_of, Repeated, copies, written_from, written_out}

abbrev pub AreQuiet : List BlockLine → Type 0
AreQuiet lines = Each (λ line. is_quit line ≡ false) lines

quiet_then : (xs ys : List BlockLine) → AreQuiet xs → AreQuiet ys → AreQuiet (xs ++ ys)
quiet_then [] ys a b = b
quiet_then (x ∷ xs) ys a b = (a.0, quiet_then xs ys a.1 b)

pub may_quiet : (classes depth : ℕ) (kinds : List EventKind) (start : Option (List EventKind)) (lines : List BlockLine) → AllMayPlay classes depth kinds start lines → AreQuiet lines
unfolding AllMayPlay
may_quiet classes depth kinds None [] may = tt
may_quiet classes depth kinds (Some start) [] may = tt
may_quiet classes depth kinds None (said.Repeat times ∷ lines) may = (refl, may_quiet classes depth kinds (Some kinds) lines may)
may_quiet classes depth kinds (Some start) (said.Done ∷ lines) may = (refl, may_quiet classes depth kinds None lines may.1)
may_quiet classes depth kinds None (line ∷ lines) may = (may.0.quits, may_quiet classes depth (kinds_behind (mark_of line) kinds) None lines may.1)
may_quiet classes depth kinds (Some start) (line ∷ lines) may = (may.0.quits, may_quiet classes depth (kinds_behind (mark_of line) kinds) (Some start) lines may.1)

copies_quiet : (times : ℕ) (lines : List BlockLine) → AreQuiet lines → AreQuiet (copies times lines)
unfolding copies
copies_quiet zero lines q = tt
copies_quiet (suc times) lines q = quiet_then lines (copies times lines) q (copies_quiet times lines q)

abbrev IsQuietLoop : Option Repeated → Type 0
IsQuietLoop None = Unit {0}
IsQuietLoop (Some loop) = AreQuiet loop.body

pub written_quiet : (start : Option Repeated) (lines : List BlockLine) → IsQuietLoop start → AreQuiet lines → AreQuiet (written_from start lines)
unfolding written_from
written_quiet None [] l q = tt
written_quiet (Some loop) [] l q = l
written_quiet None (said.Repeat times ∷ lines) l q = written_quiet (Some (record { times = times; body = [] })) lines tt q.1
written_quiet (Some loop) (said.Done ∷ lines) l q = quiet_then (copies loop.times loop.body) (written_from None lines) (copies_quiet loop.times loop.body l) (written_quiet None lines tt q.1)
written_quiet None (line ∷ lines) l q = (q.0, written_quiet None lines tt q.1)
written_quiet (Some loop) (line ∷ lines) l q = written_quiet (Some (record { times = loop.times; body = loop.body ++ line ∷ [] })) lines (quiet_then loop.body (line ∷ []) l (q.0, tt)) q.1

written_quit : (start : Option Repeated) (body : List BlockLine) → written_from start (body ++ said.Quit ∷ []) ≡ written_from start body ++ said.Quit ∷ []
unfolding written_from
written_quit None [] = refl
written_quit (Some loop) [] = refl
written_quit None (said.Repeat times ∷ body) = written_quit (Some (record { times = times; body = [] })) body
written_quit (Some loop) (said.Done ∷ body) =
    ap (λ z. copies loop.times loop.body ++ z) (written_quit None body) ∙ sym (append_assoc (copies loop.times loop.body) (written_from None body) (said.Quit ∷ []))
written_quit None (line ∷ body) = ap (λ z. line ∷ z) (written_quit None body)
written_quit (Some loop) (line ∷ body) = written_quit (Some (record { times = loop.times; body = loop.body ++ line ∷ [] })) body

pub written_end : (body : List BlockLine) (quits : Bool) → written_out (body ++ end_of quits) ≡ written_out body ++ end_of quits
written_end body true = written_quit None body
written_end body false = ap written_out (append-nil body) ∙ sym (append-nil (written_out body))

-- written out, the lines of a block are such lines, with a quit behind them or not
pub record HasQuietLines (lines : List BlockLine) : Type 0 where
  pub quiet : List BlockLine
  pub quits : Bool
  pub written : written_out lines ≡ quiet ++ end_of quits
  pub are_quiet : AreQuiet quiet

pub quiet_lines : (before after : List Phase) (block : Block) → HasBody before after block → HasQuietLines block.lines
quiet_lines before after block has =
    let depth : ℕ = lines_among (blocks_for block.session before) + length block.lines in
    let may : AllMayPlay 62 depth (kinds_before block.session before) None has.body = has.plays depth (itself depth) in
    record {
      quiet = written_out has.body;
      quits = has.quits;
      written = ap written_out has.lines ∙ written_end has.body has.quits;
      are_quiet = written_quiet None has.body tt (may_quiet 62 depth (kinds_before block.session before) None has.body may);
    } where
      itself : (n : ℕ) → n ≤ n
      itself n = omega arith

pub quits_same : (before after : List Phase) (block : Block) (has : HasBody before after block) → (quiet_lines before after block has).quits ≡ has.quits
unfolding quiet_lines
quits_same before after block has = refl
