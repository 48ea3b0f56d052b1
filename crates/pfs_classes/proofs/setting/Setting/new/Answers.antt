use Rattle.pfs_classes.proofs.RegisterNames.{known_from}
use Rattle.pfs_classes.proofs.setting.Setting.new.Goals as goal

pub invariant_of-result : goal.invariant_of-result
invariant_of-result c = record {
  in_range = c.requires.in_range;
  same_limits = c.requires.same_limits;
  come = ∣ c.requires.come ∣₁;
  known = known_from c.args.names c.args.classes c.requires.come;
  few_tables = c.requires.few_tables;
  few_digests = c.requires.few_digests;
}
