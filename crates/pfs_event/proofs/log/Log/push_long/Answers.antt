use Rattle.std.proofs.Common.{◌≡◌, ◌<◌, ◌+◌, ◌-◌, ◌≤◌, ◌++◌, ◌∷◌, [], length, ap, ◌∙◌, subst, arith}
use Rattle.pfs_event.proofs.Logs.{long_logged}
use Rattle.pfs_event.specs.Logs.{Journal}
use Rattle.pfs_event.proofs.log.Log.push_long.Goals as goal

pub returns : goal.returns
returns c =
    let whole = long_logged c.self.inside.others.items c.push_reserved-2.new.self.items c.self.inside.shorts.items c.push_reserved.new.self.items c.pack.result c.args.entry c.len.result
    (c.len.ensures ∙ c.self.inside.others.ok.0) c.push_reserved-2.ensures.items c.push_reserved.ensures.items c.pack.ensures c.self.invariant.2 in
    let made : Journal → Journal = λ j. record { entries = j.entries ++ c.args.entry ∷ []; room = j.room - 1 } in
    ap (λ es. record { entries = es; room = c.self.inside.room - 1 }) whole ∙ ap made c.self.view_is
