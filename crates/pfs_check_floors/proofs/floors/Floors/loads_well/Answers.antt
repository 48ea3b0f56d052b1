use Rattle.std.proofs.Common.{◌++◌}
use Rattle.pfs_check_floors.specs.WordLoads.{load_list}
use Rattle.pfs_check_floors.proofs.LoadFacts.{keep_both}
use Rattle.pfs_check_floors.proofs.floors.Floors.loads_well.Goals as goal

pub returns : goal.returns
returns c = λ all earlier place known at.
    let one = load_list c.args.loads.now.consumers in
    let two = load_list c.args.loads.now.thread in
    let three = load_list c.args.loads.now.class in
    let four = load_list c.args.loads.now.table in
    keep_both all earlier place one (two ++ (three ++ four)) c.load_well-one.result c.both-rest.result c.both.result
    (c.load_well-one.ensures all earlier place known at)
    (keep_both all earlier place two (three ++ four) c.load_well-two.result c.both-last.result c.both-rest.result
    (c.load_well-two.ensures all earlier place known at)
    (keep_both all earlier place three four c.load_well-three.result c.load_well-four.result c.both-last.result
    (c.load_well-three.ensures all earlier place known at) (c.load_well-four.ensures all earlier place known at)
    c.both-last.ensures)
    c.both-rest.ensures)
    c.both.ensures
