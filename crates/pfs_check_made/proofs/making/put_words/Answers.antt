use Rattle.std.proofs.Common.{sym}
use Rattle.pfs_check_made.proofs.PutSteps.{put_told}
use Rattle.pfs_check_made.proofs.making.put_words.Goals as goal

pub returns-in-Some : goal.returns-in-Some
returns-in-Some c = λ given place taken gives notes at.
    let found = c.in-Some.ensures place.context taken notes (sym at.innermost) (sym at.drawn) in
    put_told given place c.args.here.session c.args.ticket found.0 c.words.result found.1 at.session
    (c.words.ensures given place.context.slot found.0 gives found.2)
