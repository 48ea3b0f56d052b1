use Rattle.std.proofs.Common.{sym, ◌/◌, subst}
use Rattle.pfs_model.specs.Causes.{AreBusy}
use Rattle.pfs_check_floors.specs.KnownFloors.{Tells}
use Rattle.pfs_check_causes.specs.OwnVersions.{HasBetween}
use Rattle.pfs_check_causes.proofs.WordFacts.{busy_tells, caused_tells, freed_tells}
use Rattle.pfs_check_causes.proofs.words.is_caused.Goals as goal

pub returns : goal.returns
returns c = λ all earlier place known made at.
    let first = c.args.words.first in
    let second = c.args.words.second in
    caused_tells all earlier place c.args.made.now c.args.row first second c.is_word-first.result c.is_word-second.result c.are_busy-busy.result
    c.is_own_between-own.result c.are_words-all.result c.is_held_by_other-first_held.result c.is_held_by_other-second_held.result
    c.is_freed-freed.result c.are_held.result known.floors.chained made (c.is_word-first.ensures all earlier place known at)
    (c.is_word-second.ensures all earlier place known at)
    (subst (Tells (AreBusy first second)) (sym c.are_busy-busy.ensures) (busy_tells first second))
    (subst (λ z. Tells (HasBetween c.args.made.now z c.args.row (first / 4) (second / 4)) c.is_own_between-own.result) at.session
    c.is_own_between-own.ensures)
    c.are_words-all.ensures (c.is_held_by_other-first_held.ensures all earlier place known made at)
    (c.is_held_by_other-second_held.ensures all earlier place known made at)
    (freed_tells all place c.args.row second c.is_released-released.result c.is_freed-freed.result
    (c.is_released-released.ensures all earlier place known (sym at.phase)) c.is_freed-freed.ensures)
    c.are_held.ensures
