use Rattle.std.proofs.Common.{◌++◌, subst}
use Rattle.std.proofs.lemmas.Result.{on_ok_weaker}
use Rattle.std.specs.List.{flat_map}
use Rattle.pfs_runs.specs.ScriptLines.{changes_in, changes_on}
use Rattle.pfs_script.specs.Marks.{written_out}
use Rattle.pfs_check_changes.specs.ActionNumbers.{StandFor, numbers_at}
use Rattle.pfs_check_changes.proofs.ListedBlocks.{block_stands, one_more, own_blocks}
use Rattle.pfs_check_changes.proofs.StandingNumbers.{grows_on}
use Rattle.pfs_check_changes.proofs.listing.list_block.Goals as goal

pub returns : goal.returns
returns c = λ blocks are.
    let block = c.args.block.now in
    let first = c.args.actions.now.changes.items in
    let mid = c.put_action.new.changes.items in
    let last = c.put_written.new.changes.items in
    let own = c.take_numbers-own.result.items in
    let more = c.put_action.new.numbers.items in
    let all = c.put_written.new.numbers.items in
    let made = flat_map changes_in (own_blocks block.session blocks) in
    on_ok_weaker c.put_back.result
    (one_more blocks block c.args.actions.now (record { changes = c.put_written.new.changes; numbers = c.put_back.new.numbers })
    c.take_numbers-own.new.numbers all are
    (grows_on first mid last c.in_ok-put_action.ensures.grows c.in_ok-put_written.ensures.grows)
    (block_stands first mid last (numbers_at c.args.actions.now.numbers block.session) own more all made block c.take_numbers-own.ensures.own
    (λ some stand. subst (λ z. StandFor mid more (some ++ z)) c.connect_change-connect.ensures (c.in_ok-put_action.ensures.own some stand))
    (λ some stand. subst (λ z. StandFor last all (some ++ flat_map changes_on (written_out z))) c.as_slice.ensures (c.in_ok-put_written.ensures.own some stand))
    (are block.session))
    c.take_numbers-own.ensures.others) c.put_back.ensures
