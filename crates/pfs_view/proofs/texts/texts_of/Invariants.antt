use Rattle.std.proofs.Common.{drop}
use Rattle.pfs_view.specs.AskedTexts.{IsWritten, texts_of}
use Rattle.pfs_view.proofs.texts.texts_of.Given as goal

abbrev pub invariant-loop-line : goal.invariant-loop-line
invariant-loop-line l = IsWritten (texts_of l.said) l.repeat l.texts.items (drop l.line-index l.said)
