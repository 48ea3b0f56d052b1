use Rattle.std.proofs.Common.{[], ◌∷◌, ◌++◌, ◌∙◌, ap, None}
use Rattle.std.proofs.lemmas.Result.{on_ok_weaker}
use Rattle.pfs_check_causes.specs.TicketPuts.{last_top, next_top}
use Rattle.pfs_check_causes.proofs.PutFacts.{pushed}
use Rattle.pfs_check_causes.proofs.puts.push_top.Goals as goal

pub returns : goal.returns
returns c = on_ok_weaker c.put_back.result
    (pushed c.args.puts.now c.take_tops-tops.new.puts c.put_back.new.puts c.args.put c.args.phase c.args.session c.take_tops-tops.result.items
    c.push.new.self.items c.take_tops-tops.ensures.items c.take_tops-tops.ensures.others
    (c.in_ok-push.ensures.items
    ∙ ap (λ z. c.take_tops-tops.result.items ++ record { phase = c.args.phase; top = z } ∷ [])
    (c.next_top-top.ensures
    ∙ ap (λ o. next_top o c.args.session c.args.put.version)
    (c.last_top.ensures ∙ ap (last_top None) c.as_slice.ensures.value))))
    c.put_back.ensures
