use Rattle.std.proofs.Common.{true, false}
use Rattle.pfs_levels.specs.declared.places.Level.TheVariants as levels
use Rattle.pfs_levels.proofs.FlushSteps.{stays_then}
use Rattle.pfs_admin.specs.Truncations.{flag_at, level_signs, standing}
use Rattle.pfs_admin.proofs.SignLists.{signed_then}
use Rattle.pfs_admin.proofs.remaining.sign_hosts.Goals as goal

pub returns-clause-signed : goal.returns-clause-signed
returns-clause-signed g c =
    let after = c.args.containers.now.now in
    signed_then (level_signs false (flag_at c.args.before.now.accounts) after levels.Account) (level_signs true (flag_at c.args.before.now.hosts) after levels.Host) _ _ _ _ _ _
    c.sign_level.ensures.signed c.sign_level-2.ensures.signed

pub returns-clause-stays : goal.returns-clause-stays
returns-clause-stays g c =
    stays_then (standing (flag_at c.args.before.now.accounts)) (standing (flag_at c.args.before.now.hosts)) _ _ _ _ _ _
    c.sign_level.ensures.stays c.sign_level-2.ensures.stays
