use Rattle.pfs_summaries.proofs.DigestRows.{shown}
use Rattle.pfs_summaries.proofs.digests.digest_rows.Goals as goal

pub returns : goal.returns
returns c =
    shown c.args.setting.now c.args.readings.now c.in_ok-contents.contents.items c.deref.result.now c.deref-2.result.now c.as_slice.result.now c.new-rows.result.items c.put_null.new.rows.items c.put_places.new.rows.items c.new.result
    c.in_ok-contents.ensures c.deref.ensures.value c.deref-2.ensures.value c.as_slice.ensures c.new-rows.ensures.items c.in_ok-put_null.ensures c.in_ok-put_places.ensures c.new.ensures
