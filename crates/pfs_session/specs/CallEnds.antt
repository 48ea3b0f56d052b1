-- How a call leaves its session, for whoever makes the next call.
use Rattle.std.specs.Prelude.{◌≡◌, ◌+◌, length, Option, Some, None}
use Rattle.pfs_event.specs.Nests.{OpenEvents, innermost_of, kind_of}
use Rattle.pfs_event.specs.declared.kind.EventKind.{EventKind}
use Rattle.pfs_model.specs.declared.lines.Subject.{Subject}
use Rattle.pfs_session.specs.Ends.{outer_events}
use Rattle.pfs_session.specs.SessionStates.{without_stage}

-- an event of this kind is open now, inside those that were open before
pub record HasStarted (kind : EventKind) (old new : OpenEvents) : Type 0 where
  pub depth : new.depth ≡ old.depth
  pub innermost : kind_of (innermost_of new.events) ≡ Some kind
  pub around : outer_events new.events ≡ old.events
  pub one_more : length new.events ≡ length old.events + 1

-- the open events without the innermost one, where that is a stage
abbrev pub outside_stage : OpenEvents → OpenEvents
outside_stage nest = record nest { events = without_stage nest.events }

-- the open stage has ended, and one has started where a subject is given
abbrev pub HasStaged : Option Subject → OpenEvents → OpenEvents → Type 0
HasStaged None old new = new ≡ outside_stage old
HasStaged (Some subject) old new = HasStarted subject.kind (outside_stage old) new
