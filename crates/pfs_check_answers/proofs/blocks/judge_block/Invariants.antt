use Rattle.std.proofs.Common.{ℕ, List, map}
use Rattle.pfs_admin.specs.AdministrationStates.{State}
use Rattle.pfs_check_parts.specs.Parts.{pieces}
use Rattle.pfs_model.specs.EntryPlaces.{Placed}
use Rattle.pfs_runs.specs.SelectAnswers.{IsAnswered}
use Rattle.pfs_check_answers.specs.BlockSelects.{AreAsked, selection_by}
use Rattle.pfs_check_answers.proofs.BlockWalk.{IsLeft}
use Rattle.pfs_check_answers.proofs.blocks.judge_block.Given as goal

abbrev pub invariant-loop-at : goal.invariant-loop-at
invariant-loop-at g l = (all : List Placed) (content : ℕ → ℕ → List ℕ) (flags : ℕ → ℕ → ℕ) (before : ℕ → State)
    → g.V.Versions.knows l.fn.versions all content flags → g.S.Shows.knows l.fn.shows before
    → AreAsked all (map selection_by l.texts) (pieces 0 l.ends l.entries) l.answers
    → IsLeft all l.setting (IsAnswered l.setting content flags before) l.texts l.ends l.entries l.answers l.fn.first l.at l.spot
