use Rattle.std.proofs.Common.{rules, refl, [], ◌∷◌, List, ℕ}
use Rattle.pfs_levels.specs.Calls.{Takes, Puts}
use Rattle.pfs_levels.specs.RowWords.{merged}
use Rattle.pfs_levels.proofs.MoveLists.{goes_two, put_as}
use Rattle.pfs_levels.proofs.moves.give.Goals as goal

pub returns-clause-given : goal.returns-clause-given
returns-clause-given g c =
    let t = c.take.result in
    let v = c.put-version.result in
    let was = (g.H.Readable.seen c.args.rows.now).reached in
    let mid = (g.H.Readable.seen c.take.new.self).reached in
    let now = (g.H.Readable.seen c.put-version.new.self).reached in
    let sum : List ℕ = merged t.1 c.args.amount.now in
    record {
      gifts = record { to = c.args.to; before = t.0; version = v; there = t.1 } ∷ [];
      are_gifts = (c.put-version.ensures.next _ c.take.ensures.mine, tt);
      to_is = refl;
      did = record {
        entries_are = search rules;
        goes = goes_two (Takes c.args.to t.0 t.1) (Puts c.args.to sum v) was mid now c.take.ensures.call (put_as c.args.to v c.to_words-content.result sum mid now (cc) c.put-version.ensures.call);
      };
    }
