use Rattle.std.proofs.Common.{◌∙◌, sym, arith}
use Rattle.pfs_lexer.proofs.ItemSteps.{at_blank, at_piece, at_open_string, at_open_comment, at_bad_byte, at_end}
use Rattle.pfs_lexer.proofs.reading.item_from.Goals as goal

pub returns-in-Piece-clause-item : goal.returns-in-Piece-clause-item
returns-in-Piece-clause-item c =
    c.blanks.invariant.0 ∙ at_piece c.blanks.place c.in-Piece.len c.in-Piece.kind c.args.text.now (omega arith) (sym c.in-Piece.ensures.front) c.in-Piece.ensures.within.0

pub returns-in-OpenString-clause-item : goal.returns-in-OpenString-clause-item
returns-in-OpenString-clause-item c =
    c.blanks.invariant.0 ∙ at_open_string c.blanks.place c.args.text.now (omega arith) (sym c.in-OpenString.ensures.front)

pub returns-in-OpenComment-clause-item : goal.returns-in-OpenComment-clause-item
returns-in-OpenComment-clause-item c =
    c.blanks.invariant.0 ∙ at_open_comment c.blanks.place c.args.text.now (omega arith) (sym c.in-OpenComment.ensures.front)

pub returns-in-BadByte-clause-item : goal.returns-in-BadByte-clause-item
returns-in-BadByte-clause-item c =
    c.blanks.invariant.0 ∙ at_bad_byte c.blanks.place c.args.text.now (omega arith) (sym c.in-BadByte.ensures.front)

pub blanks-preserved : goal.blanks-preserved
blanks-preserved c = (
  c.blanks.invariant.0 ∙ at_blank c.blanks.place c.in-Blank.len c.args.text.now (omega arith) (sym c.in-Blank.ensures.front) c.in-Blank.ensures.within.0,
  omega (arith, c.in-Blank.ensures.within.1),
)

pub returns-clause-none : goal.returns-clause-none
returns-clause-none c = λ _. c.blanks.invariant.0 ∙ at_end c.blanks.place c.args.text.now (omega arith)
