use Rattle.std.proofs.Common.{◌≡◌, refl, lit<, sym, ◌∙◌}
use Rattle.pfs_consumers.specs.declared.Consumer.{Consumer}
use Rattle.pfs_consumers.specs.declared.Consumer.TheVariants.{StagesCurrent}
use Rattle.pfs_consumers.specs.Tree.{is_on, at_first}
use Rattle.pfs_consumers.proofs.Bits.{same_word}
use Rattle.pfs_consumers.proofs.laws.opening.Goals as goal

-- the flags of the opening word
opening_flags : (c : Consumer) → is_on 28888 c ≡ at_first c
opening_flags StagesCurrent = refl
opening_flags _ = refl

pub returns-clause-only : goal.returns-clause-only
returns-clause-only c word small same =
    same_word word 28888 small (lit< tt) (λ d. same d ∙ sym (opening_flags d))
