-- The text of bytes that are no report.
use Rattle.std.proofs.Common.{ℕ, List, ◌≡◌, ap, sym, subst, ◌∙◌}
use Rattle.pfs_journal.specs.FirstWrongLine.{IsFirstWrong}
use Rattle.pfs_journal.specs.declared.report.ReportParts.{ReportParts}
use Rattle.pfs_view.specs.Refusals.{IsNoRefusal, refusal_line, refusal_text}
use Rattle.pfs_view.specs.Views.{HasView, IsExplained, IsRefusedAt, IsWrongAt, wrong_line}
use Rattle.pfs_view.specs.declared.viewing.Status.{Status}
use Rattle.pfs_view.specs.declared.viewing.Status.TheVariants.{Done, BadReport, BadScript, TooLong, ReadFault, WriteFault, NoMemory}

pub refused_viewed : (shown : List ℕ → ReportParts → List ℕ) (script bytes : List ℕ) (at : ℕ) → IsFirstWrong bytes at → (status : Status) (due : List ℕ) → IsRefusedAt script bytes at status due → HasView shown script bytes status due
refused_viewed shown script bytes at wrong Done due h = absurd h
refused_viewed shown script bytes at wrong (BadReport n) due h = (subst (IsFirstWrong bytes) (sym h.0) wrong, h.1 ∙ ap wrong_line (sym h.0), h.2)
refused_viewed shown script bytes at wrong (BadScript line reason) due h = h
refused_viewed shown script bytes at wrong TooLong due h = absurd h
refused_viewed shown script bytes at wrong ReadFault due h = absurd h
refused_viewed shown script bytes at wrong WriteFault due h = absurd h
refused_viewed shown script bytes at wrong NoMemory due h = absurd h

pub wrong_refused : (script bytes : List ℕ) (at : ℕ) → IsNoRefusal bytes → (status : Status) (due : List ℕ) → IsWrongAt at status due → IsRefusedAt script bytes at status due
wrong_refused script bytes at none Done due h = absurd h
wrong_refused script bytes at none (BadReport n) due h = (h.0, h.1, none)
wrong_refused script bytes at none (BadScript line reason) due h = absurd h
wrong_refused script bytes at none TooLong due h = absurd h
wrong_refused script bytes at none ReadFault due h = absurd h
wrong_refused script bytes at none WriteFault due h = absurd h
wrong_refused script bytes at none NoMemory due h = absurd h

pub explained_refused : (script bytes : List ℕ) (at line reason : ℕ) → bytes ≡ refusal_line line reason → (status : Status) (due : List ℕ) → IsExplained script line reason status due → IsRefusedAt script bytes at status due
explained_refused script bytes at line reason is Done due h = absurd h
explained_refused script bytes at line reason is (BadReport n) due h = absurd h
explained_refused script bytes at line reason is (BadScript first why) due h = (
  is ∙ (ap (λ (n : ℕ). refusal_line n reason) (sym h.0) ∙ ap (refusal_line first) (sym h.1)),
  h.2 ∙ (ap (λ (n : ℕ). refusal_text script n reason) (sym h.0) ∙ ap (refusal_text script first) (sym h.1)),
)
explained_refused script bytes at line reason is TooLong due h = absurd h
explained_refused script bytes at line reason is ReadFault due h = absurd h
explained_refused script bytes at line reason is WriteFault due h = absurd h
explained_refused script bytes at line reason is NoMemory due h = absurd h
