-- Worked examples of nesting, by computation.
use Rattle.std.proofs.Common.{◌≡◌, List, true, false, [], ◌∷◌, Some, None, refl}
use Rattle.pfs_event.specs.declared.kind.EventKind.TheVariants.{Wait, Stage, Statement, Transaction}
use Rattle.pfs_script.specs.Marks.{Mark, Opens, Ends, EndsStage, Passes}
use Rattle.pfs_script.specs.Brackets.{closing_from, brackets_from, brackets_of, open_in, closed_at, may_follow}

-- a transaction, a statement in it, two stages one after the other with a wait in the first, and an end: it closes the second stage
-- and the statement, and leaves the transaction open
abbrev marks : List Mark
marks = Opens Transaction ∷ Opens Statement ∷ Opens Stage ∷ Opens Wait ∷ Ends ∷ Opens Stage ∷ Passes ∷ Ends ∷ []

pub closings : brackets_of marks
    ≡ record { opened = 0; kind = Transaction; closed = None } ∷ record { opened = 1; kind = Statement; closed = Some 7 }
    ∷ record { opened = 2; kind = Stage; closed = Some 5 } ∷ record { opened = 3; kind = Wait; closed = Some 4 }
    ∷ record { opened = 5; kind = Stage; closed = Some 7 } ∷ []
unfolding closing_from brackets_from
closings = refl

pub still_open : open_in marks ≡ record { place = 0; kind = Transaction } ∷ []
unfolding closing_from brackets_from
still_open = refl

-- the end closes the stage first
pub stage_first : closed_at marks 7 ≡ record { place = 5; kind = Stage } ∷ record { place = 1; kind = Statement } ∷ []
unfolding closing_from brackets_from
stage_first = refl

-- a stage doesn't stay open behind the end of its statement
pub stage_gone : open_in (Opens Statement ∷ Opens Stage ∷ Ends ∷ []) ≡ []
unfolding closing_from brackets_from
stage_gone = refl

-- no statement starts in a wait, and no stage outside a statement; a stage may follow a stage
pub statement_in_wait : may_follow (Opens Wait ∷ []) (Opens Statement) ≡ false
unfolding closing_from brackets_from
statement_in_wait = refl

pub stage_outside : may_follow [] (Opens Stage) ≡ false
unfolding closing_from brackets_from
stage_outside = refl

pub stage_after_stage : may_follow (Opens Statement ∷ Opens Stage ∷ []) (Opens Stage) ≡ true
unfolding closing_from brackets_from
stage_after_stage = refl

pub no_stage_to_end : may_follow (Opens Statement ∷ []) EndsStage ≡ false
unfolding closing_from brackets_from
no_stage_to_end = refl
