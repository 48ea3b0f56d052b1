use Rattle.std.proofs.Common.{◌+◌, ◌-◌, ◌<◌, ◌++◌, [], ◌∷◌, get_or, take, drop, length, ap, ◌∙◌, arith}
use Rattle.std.proofs.lemmas.List.{take_rest, length-drop}
use Rattle.pfs_digest.specs.declared.pieces.Shape.TheVariants.{Value}
use Rattle.pfs_digest.specs.declared.pieces.Piece.TheVariants.{One}
use Rattle.pfs_digest.specs.PieceBytes.{printed}
use Rattle.pfs_digest.proofs.SpelledPieces.{next-piece}
use Rattle.pfs_digest.proofs.printing.spelled.Goals as goal

pub loop-piece-preserved : goal.loop-piece-preserved
loop-piece-preserved c =
    let text = c.args.text.now in
    let pieces = c.args.pieces.now in
    let i = c.loop-piece.piece-index in
    let within : i + 1 < length pieces = omega (arith, c.loop-piece-test.true, ap length (take_rest pieces 1), length-drop 1 pieces) in (
      c.in_ok-print_piece-2.ensures
          ∙ ap (λ out. out ++ printed text (get_or (take (length pieces - 1) (drop 1 pieces)) i (One Value))) (c.in_ok-push.ensures.items ∙ ap (λ out. out ++ 32 ∷ []) c.loop-piece.invariant.0)
          ∙ next-piece text pieces i (One Value) within,
      c.loop-piece.invariant.1,
      c.loop-piece.invariant.2,
    )
