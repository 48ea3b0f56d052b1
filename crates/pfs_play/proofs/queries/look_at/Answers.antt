use Rattle.std.proofs.Common.{◌≡◌, ◌+◌, [], ◌∷◌, ◌++◌, length, ap, ◌∙◌, refl, arith}
use Rattle.std.proofs.lemmas.List.{length-append}
use Rattle.pfs_reader.proofs.Readings.{more_left}
use Rattle.pfs_readsets.specs.TablePlaces.{scope_of}
use Rattle.pfs_readsets.specs.ReadSets.{target_of}
use Rattle.pfs_session.proofs.StepLists.{played_none}
use Rattle.pfs_play.proofs.ReadingCounts.{look_last, look_more, reached_few}
use Rattle.pfs_play.proofs.queries.look_at.Goals as goal

pub loop-reading-init : goal.loop-reading-init
loop-reading-init g c =
    rw c.new-readings.ensures.items (record {
      reached = c.open-reader.ensures;
      played = played_none c.args.session.now (g.R.Readable.seen c.args.rows.now).reached;
      state = refl;
      used = record { left = omega arith; draws = omega arith; no_more = omega arith; hand = λ r. refl; words = refl; name = refl; room = omega arith };
    })

pub look-requires-clause-away : goal.look-requires-clause-away
look-requires-clause-away g c = λ row some. c.loop-reading.invariant.used.hand row ∙ c.requires.away row some

pub look-requires-clause-room : goal.look-requires-clause-room
look-requires-clause-room g c =
    let few = reached_few c.loop-reading.reader (scope_of c.args.setting.now) c.args.table c.loop-reading.readings.items c.loop-reading.invariant.reached in
    omega (arith, few, c.loop-reading.invariant.used.room, c.requires.room)

pub loop-reading-smaller : goal.loop-reading-smaller
loop-reading-smaller g c =
    let items = c.loop-reading.readings.items in
    let few = more_left (scope_of c.args.setting.now) c.args.table items (target_of c.in-Some.reading) (c.in-Some.ensures.next (scope_of c.args.setting.now) c.args.table items c.loop-reading.invariant.reached) in
    let more : length c.push.new.self.items ≡ length items + 1 = ap length c.in_ok-push.ensures.items ∙ length-append items (c.in-Some.reading ∷ []) in
    omega (arith, few, more)

pub loop-reading-preserved : goal.loop-reading-preserved
loop-reading-preserved g c =
    let items = c.loop-reading.readings.items in
    let before = c.loop-reading.invariant in
    let now = c.in-Some.ensures in
    let long : length (items ++ c.in-Some.reading ∷ []) ≡ length items + 1 = length-append items (c.in-Some.reading ∷ []) in
    rw c.in_ok-push.ensures.items (record {
      reached = now.reached (scope_of c.args.setting.now) c.args.table items before.reached;
      played = look_more items c.in-Some.reading c.args.session.now c.loop-reading.session c.look.new.self (g.R.Readable.seen c.args.rows.now).reached (g.R.Readable.seen c.loop-reading.rows).reached (g.R.Readable.seen c.look.new.rows).reached before.played now.played;
      state = now.state ∙ before.state;
      used = record {
        left = omega (arith, before.used.left, now.used.left);
        draws = omega (arith, before.used.draws, now.used.draws);
        no_more = omega (arith, before.used.no_more, now.used.no_more);
        hand = λ r. now.used.hand r ∙ before.used.hand r;
        words = now.used.words ∙ before.used.words;
        name = now.used.name ∙ before.used.name;
        room = omega (arith, long, before.used.room, now.used.room);
      };
    })

pub returns-clause-whole : goal.returns-clause-whole
returns-clause-whole g c = rw c.new.ensures (c.in_default.ensures.next (scope_of c.args.setting.now) c.args.table c.loop-reading.readings.items c.loop-reading.invariant.reached)

pub returns-clause-played : goal.returns-clause-played
returns-clause-played g c =
    rw c.new.ensures (look_last c.loop-reading.readings.items c.args.session.now c.loop-reading.session c.look.new.self (g.R.Readable.seen c.args.rows.now).reached (g.R.Readable.seen c.loop-reading.rows).reached (g.R.Readable.seen c.look.new.rows).reached c.loop-reading.invariant.played c.in_default.ensures.played)

pub returns-clause-used : goal.returns-clause-used
returns-clause-used g c =
    let few = reached_few c.loop-reading.reader (scope_of c.args.setting.now) c.args.table c.loop-reading.readings.items c.loop-reading.invariant.reached in
    let before = c.loop-reading.invariant.used in
    let now = c.in_default.ensures.used in
    record {
      left = omega (arith, before.left, now.left);
      draws = omega (arith, before.draws, now.draws);
      no_more = omega (arith, before.no_more, now.no_more);
      hand = λ r. now.hand r ∙ before.hand r;
      words = now.words ∙ before.words;
      name = now.name ∙ before.name;
      room = omega (arith, few, before.room, now.room);
    }
