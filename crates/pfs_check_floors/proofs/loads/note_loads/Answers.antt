use Rattle.std.proofs.Common.{◌++◌}
use Rattle.std.proofs.lemmas.Result.{on_ok_weaker}
use Rattle.pfs_check_floors.specs.WordLoads.{load_list}
use Rattle.pfs_check_floors.proofs.FloorFacts.{raised_both}
use Rattle.pfs_check_floors.proofs.loads.note_loads.Goals as goal

pub returns : goal.returns
returns c =
    let one = load_list c.args.loads.now.consumers in
    let two = load_list c.args.loads.now.thread in
    let three = load_list c.args.loads.now.class in
    let four = load_list c.args.loads.now.table in
    let first = c.raise_load.new.known in
    let second = c.raise_load-2.new.known in
    let third = c.raise_load-3.new.known in
    let last = c.raise_load-4.new.known in
    on_ok_weaker c.raise_load-4.result
    (λ more. raised_both c.args.known.now first last c.args.session one (two ++ (three ++ four)) c.in_ok-raise_load.ensures
    (raised_both first second last c.args.session two (three ++ four) c.in_ok-raise_load-2.ensures
    (raised_both second third last c.args.session three four c.in_ok-raise_load-3.ensures more)))
    c.raise_load-4.ensures
