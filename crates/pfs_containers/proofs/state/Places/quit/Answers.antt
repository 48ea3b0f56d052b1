use Rattle.std.proofs.Common.{rules, ◌≡◌, ap, ◌∙◌, ◌==◌}
use Rattle.pfs_containers.specs.Connections.{State, stepped}
use Rattle.pfs_containers.specs.Administration.{quit_line, found_where}
use Rattle.pfs_containers.proofs.PlaceBounds.{quit_keeps_set, quit_is, quit_in_range}
use Rattle.pfs_containers.proofs.state.Places.quit.Goals as goal

pub invariant_of-self : goal.invariant_of-self
invariant_of-self c = quit_keeps_set _ c.in-Some.slot c.self.invariant

pub returns-in-Some-clause-step : goal.returns-in-Some-clause-step
returns-in-Some-clause-step c =
    let old : State = record {
      threads = c.self.inside.threads.items;
      accounts = c.self.inside.accounts.items;
      users = c.self.inside.users.items;
      hosts = c.self.inside.hosts.items;
    } in
    let same : old ≡ c.args.self.now = search rules in
    quit_is old c.args.number (c.in-Some.slot, c.in-Some.connection) (search rules)
    ∙ ap (λ s. stepped s (quit_line (found_where (λ x. x.number == c.args.number) s.threads))) same

pub returns-in-Some-clause-few : goal.returns-in-Some-clause-few
returns-in-Some-clause-few c =
    quit_in_range _ c.args.number c.in-Some.slot c.in-Some.connection c.self.invariant (search rules)
