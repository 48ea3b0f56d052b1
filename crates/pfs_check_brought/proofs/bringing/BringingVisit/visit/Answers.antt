use Rattle.std.proofs.Common.{refl, sym, ◌∙◌, ◌∷◌}
use Rattle.pfs_check_faults.specs.ReportCases.{flags_in}
use Rattle.pfs_check_walk.specs.Walks.{place_of}
use Rattle.pfs_check_brought.proofs.WalkFacts.{all_paid, paid_more, stays_stopped, stops_here, walks_on}
use Rattle.pfs_check_brought.proofs.bringing.BringingVisit.visit.Goals as goal

pub returns-then-stopped : goal.returns-then-stopped
returns-then-stopped g c = λ case found earlier context told known.
    let place = place_of c.args.spot c.args.line.now context c.args.entry.now in (
      tt,
      stays_stopped (flags_in case found) earlier place c.args.self.now c.args.self.now.stop (sym c.is_some-stopped.ensures ∙ c.if-stopped.true) known,
    )

pub returns-then-not-paid : goal.returns-then-not-paid
returns-then-not-paid g c = λ case found earlier context told known.
    let place = place_of c.args.spot c.args.line.now context c.args.entry.now in
    let none = sym c.is_some-stopped.ensures ∙ c.if-stopped.false in (
      tt,
      stops_here (flags_in case found) earlier place c.args.self.now c.pays-paid.result
          (all_paid (flags_in case found) earlier c.args.self.now c.args.self.now.stop none known) c.pays-paid.ensures c.if-not-paid.true,
    )

pub returns : goal.returns
returns g c = λ case found earlier context told known.
    let place = place_of c.args.spot c.args.line.now context c.args.entry.now in
    let none = sym c.is_some-stopped.ensures ∙ c.if-stopped.false in
    let all = all_paid (flags_in case found) earlier c.args.self.now c.args.self.now.stop none known in
    let new = record c.args.self.now {
      histories = c.note.new.self;
      event = c.event_behind-self.result;
      place = c.in_ok-next.next;
      owed = c.owed_behind-owed.result;
    } in (
      tt,
      walks_on (flags_in case found) (place ∷ earlier) new c.args.self.now.stop none
          (paid_more (flags_in case found) earlier place c.args.self.now new c.pays-paid.result all c.pays-paid.ensures c.if-not-paid.false refl
          (c.in_ok-note.ensures earlier place refl (sym (c.slot.ensures context told)) refl all.histories)
          (c.owed_behind-owed.ensures (flags_in case found) earlier place all.flags_are all.histories told refl refl refl) c.in_ok-next.ensures
          c.event_behind-self.ensures),
    )
