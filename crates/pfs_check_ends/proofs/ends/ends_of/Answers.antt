use Rattle.std.proofs.Common.{arith, subst, sym}
use Rattle.pfs_check_faults.specs.declared.rules.Rule.TheVariants as rules
use Rattle.pfs_check_ends.proofs.FittingFlags.{Fits}
use Rattle.pfs_check_ends.proofs.FittingSets.{flags_fit}
use Rattle.pfs_check_ends.proofs.ShownEnds.{stands_for}
use Rattle.pfs_check_ends.proofs.ends.ends_of.Goals as goal

pub returns : goal.returns
returns c = λ case found setting blocks keeps shelf flags.
    let consumers = subst (λ one. Fits one.consumers) (sym setting) c.fits.ensures in
    stands_for case found _ (c.in_ok-sights.ensures case found blocks (keeps rules.Chain (omega arith)) (keeps rules.Setup (omega arith)).words) shelf flags
    (flags_fit case found consumers keeps)
