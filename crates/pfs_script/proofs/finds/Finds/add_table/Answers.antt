use Rattle.pfs_script.proofs.TestPlaces.{added_table}
use Rattle.pfs_script.proofs.finds.Finds.add_table.Goals as goal

pub returns-clause-number : goal.returns-clause-number
returns-clause-number c =
    added_table c.as_slice-tables.result.now c.args.self.now.tables c.push.new.self c.args.schema.now c.args.name.now _ c.in_ok-schema.ensures c.in_ok-name.ensures c.in_default.ensures c.as_slice-tables.ensures c.in_ok-push.ensures.ok
