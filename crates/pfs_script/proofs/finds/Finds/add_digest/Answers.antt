use Rattle.pfs_script.proofs.TestPlaces.{added_place}
use Rattle.pfs_script.proofs.finds.Finds.add_digest.Goals as goal

pub returns-clause-place : goal.returns-clause-place
returns-clause-place c =
    added_place c.as_slice-digests.result.now c.args.self.now.digests c.push.new.self c.as_bytes.result.now c.args.shown c.in_default.ensures c.as_bytes.ensures c.as_slice-digests.ensures c.in_ok-push.ensures.ok
