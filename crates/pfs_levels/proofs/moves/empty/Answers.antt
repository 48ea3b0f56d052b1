use Rattle.std.proofs.Common.{rules}
use Rattle.pfs_levels.specs.Calls.{Takes, Puts}
use Rattle.pfs_levels.specs.RowWords.{zero_words}
use Rattle.pfs_levels.proofs.MoveLists.{goes_two, put_as}
use Rattle.pfs_levels.proofs.moves.empty.Goals as goal

pub returns-clause-emptied : goal.returns-clause-emptied
returns-clause-emptied g c =
    let t = c.take.result in
    let v = c.put-version.result in
    let was = (g.H.Readable.seen c.args.rows.now).reached in
    let mid = (g.H.Readable.seen c.take.new.self).reached in
    let now = (g.H.Readable.seen c.put-version.new.self).reached in
    record {
      before = t.0;
      version = v;
      found = t.1;
      next = c.put-version.ensures.next _ c.take.ensures.mine;
      amount_is = search rules;
      did = record {
        entries_are = search rules;
        goes = goes_two (Takes c.args.from t.0 t.1) (Puts c.args.from zero_words v) was mid now c.take.ensures.call (put_as c.args.from v c.to_words.result zero_words mid now (cc) c.put-version.ensures.call);
      };
    }
