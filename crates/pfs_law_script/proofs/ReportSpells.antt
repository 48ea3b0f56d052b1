-- Reports of blocks and phases, with one more.
use Rattle.std.proofs.Common.{ℕ, suc, ◌≡◌, ◌+◌, List, [], ◌∷◌, ◌++◌, length, refl, ap, sym, ◌∙◌, subst, arith}
use Rattle.std.proofs.lemmas.List.{append_assoc, append-nil}
use Rattle.pfs_law_plain.specs.Spells.{Spell}
use Rattle.pfs_classes.specs.declared.setting.Setting.{Setting}
use Rattle.pfs_journal.specs.declared.blocks.BlockReport.{BlockReport}
use Rattle.pfs_journal.specs.declared.report.PhaseParts.{PhaseParts}
use Rattle.pfs_script.specs.declared.blocks.Block.{Block}
use Rattle.pfs_script.specs.declared.blocks.Phase.{Phase}
use Rattle.pfs_law_script.specs.ReportSpells.{IsTold, AreTold, ArePhasesTold, AreToldOn}

-- one block more in a phase
pub told_more : (setting : Setting) (number : ℕ) (blocks : List Block) (spells : List Spell) (reports : List BlockReport) (block : Block) (spell : Spell) (report : BlockReport)
    → AreTold setting number blocks spells reports → IsTold setting number block spell report → AreTold setting number (blocks ++ block ∷ []) (spells ++ spell ∷ []) (reports ++ report ∷ [])
told_more setting number [] [] [] block spell report are is = (is, tt)
told_more setting number (x ∷ xs) (y ∷ ys) (z ∷ zs) block spell report are is = (are.0, told_more setting number xs ys zs block spell report are.1 is)
told_more setting number [] [] (z ∷ zs) block spell report are is = absurd are
told_more setting number [] (y ∷ ys) reports block spell report are is = absurd are
told_more setting number (x ∷ xs) [] reports block spell report are is = absurd are
told_more setting number (x ∷ xs) (y ∷ ys) [] block spell report are is = absurd are

-- one phase more: its number is that behind the phases so far
pub phases_more : (setting : Setting) (number : ℕ) (phases : List Phase) (reports : List PhaseParts) (spells : List Spell) (phase : Phase) (report : PhaseParts) (more : List Spell)
    → ArePhasesTold setting number phases reports spells → report.number ≡ number + length phases → AreTold setting report.number phase.blocks more report.blocks
    → ArePhasesTold setting number (phases ++ phase ∷ []) (reports ++ report ∷ []) (spells ++ more)
phases_more setting number [] [] spells phase report more are is told =
    let here : report.number ≡ number = is ∙ no_more number in (
      more,
      [],
      record { split = ap (λ z. z ++ more) are ∙ sym (append-nil more); numbered = here; blocks = subst (λ n. AreTold setting n phase.blocks more report.blocks) here told },
      refl,
    ) where
      no_more : (n : ℕ) → n + 0 ≡ n
      no_more n = omega arith
phases_more setting number [] (y ∷ ys) spells phase report more are is told = absurd are
phases_more setting number (x ∷ xs) [] spells phase report more are is told = absurd are
phases_more setting number (x ∷ xs) (y ∷ ys) spells phase report more are is told = (
  are.0,
  are.1 ++ more,
  record { split = ap (λ z. z ++ more) are.2.split ∙ append_assoc are.0 are.1 more; numbered = are.2.numbered; blocks = are.2.blocks },
  phases_more setting (number + 1) xs ys are.1 phase report more are.3 (is ∙ one_further number (length xs)) told,
) where
  one_further : (n m : ℕ) → n + suc m ≡ n + 1 + m
  one_further n m = omega arith

-- one block more in the last phase
pub block_more : (setting : Setting) (number : ℕ) (phases : List Phase) (reports : List PhaseParts) (spells : List Spell) (phase now : Phase) (report next : PhaseParts) (block : Block) (spell : Spell) (told : BlockReport)
    → ArePhasesTold setting number (phases ++ phase ∷ []) (reports ++ report ∷ []) spells → length phases ≡ length reports
    → now.blocks ≡ phase.blocks ++ block ∷ [] → next.number ≡ report.number → next.blocks ≡ report.blocks ++ told ∷ [] → IsTold setting report.number block spell told
    → ArePhasesTold setting number (phases ++ now ∷ []) (reports ++ next ∷ []) (spells ++ spell ∷ [])
block_more setting number [] [] spells phase now report next block spell told are same blocks numbers reported is = (
  are.0 ++ spell ∷ [],
  [],
  record {
    split = ap (λ z. z ++ spell ∷ []) (are.2.split ∙ (ap (λ z. are.0 ++ z) are.3 ∙ append-nil are.0)) ∙ sym (append-nil (are.0 ++ spell ∷ []));
    numbered = numbers ∙ are.2.numbered;
    blocks = subst (λ z. AreTold setting number z (are.0 ++ spell ∷ []) next.blocks) (sym blocks)
        (subst (λ z. AreTold setting number (phase.blocks ++ block ∷ []) (are.0 ++ spell ∷ []) z) (sym reported)
        (told_more setting number phase.blocks are.0 report.blocks block spell told are.2.blocks (subst (λ n. IsTold setting n block spell told) are.2.numbered is)));
  },
  refl,
)
block_more setting number [] (y ∷ ys) spells phase now report next block spell told are same blocks numbers reported is = cc
block_more setting number (x ∷ xs) [] spells phase now report next block spell told are same blocks numbers reported is = cc
block_more setting number (x ∷ xs) (y ∷ ys) spells phase now report next block spell told are same blocks numbers reported is = (
  are.0,
  are.1 ++ spell ∷ [],
  record { split = ap (λ z. z ++ spell ∷ []) are.2.split ∙ append_assoc are.0 are.1 (spell ∷ []); numbered = are.2.numbered; blocks = are.2.blocks },
  block_more setting (number + 1) xs ys are.1 phase now report next block spell told are.3 (one_less (length xs) (length ys) same) blocks numbers reported is,
) where
  one_less : (n m : ℕ) → suc n ≡ suc m → n ≡ m
  one_less n m e = omega (arith, e)

pub told_on : AreToldOn
told_on = record { block = told_more; phase = phases_more; last = block_more }
