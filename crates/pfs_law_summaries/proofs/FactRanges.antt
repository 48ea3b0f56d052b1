-- What a script says of its events are numbers of 64 bits.
use Rattle.std.proofs.Common.{ℕ, ◌≡◌, ◌<◌, ◌%◌, ◌^◌, false, List, [], Option, Some, None, refl, sym, subst, arith}
use Rattle.std.specs.Prelude.{slice_get, unwrap_or}
use Rattle.pfs_event.specs.declared.kind.EventKind.{EventKind}
use Rattle.pfs_event.specs.declared.kind.EventKind.TheVariants as kinds
use Rattle.pfs_model.specs.Chains.{Each}
use Rattle.pfs_model.specs.Contents.{measure_of}
use Rattle.pfs_runs.specs.ScriptLines.{facts_of, facts_if}
use Rattle.pfs_script.specs.declared.blocks.BlockLine.{BlockLine}
use Rattle.pfs_script.specs.declared.blocks.BlockLine.TheVariants as said
use Rattle.pfs_script.specs.declared.blocks.Phase.{Phase}
use Rattle.pfs_script.specs.declared.blocks.StatementNumbers.{StatementNumbers}
use Rattle.pfs_script.specs.Blocks.{sense_of}
use Rattle.pfs_script.specs.EventRules.{AreEvents}
use Rattle.pfs_script.specs.Events.{Event, no_numbers, numbers_on, numbers_for, numbers_at, line_at, lines_for, events_for}
use Rattle.pfs_script.specs.Scripts.{IsScript}
use Rattle.pfs_script.proofs.EventLemmas.{session_events}
use Rattle.pfs_stat.specs.Stat.{IsInRange}
use Rattle.pfs_law_summaries.specs.EventRanges.{InRangeLaw}
use Rattle.pfs_law_summaries.proofs.FormNumbers.{forms_low}
use Rattle.pfs_law_summaries.proofs.BlockNumbers.{AreNumbersLow, IsLowLine, AreLowLines, IsLowPhase, nil_low, phases_low, session_low, at_low}

none_low : AreNumbersLow no_numbers
none_low = record { lock = nil_low; errors = nil_low; warnings = nil_low; affected = nil_low; sent = nil_low; examined = nil_low }

on_low : (line : BlockLine) → IsLowLine line → AreNumbersLow (numbers_on line)
on_low (said.EndStatement numbers) low = low
on_low _ low = none_low

for_low : (kind : EventKind) (numbers : StatementNumbers) → AreNumbersLow numbers → AreNumbersLow (numbers_for kind numbers)
for_low kinds.Statement numbers low = low
for_low kinds.Wait numbers low = none_low
for_low kinds.Stage numbers low = none_low
for_low kinds.Transaction numbers low = none_low

numbers_low : (all : List BlockLine) (kind : EventKind) (closed : Option ℕ) → AreLowLines all
    → AreNumbersLow (numbers_at all kind closed)
numbers_low all kind None low = none_low
numbers_low all kind (Some closed) low =
    for_low kind (numbers_on (line_at all closed)) (on_low (line_at all closed) (at_low all closed low))

wraps_low : (n : ℕ) → n % 2 ^ 64 < 2 ^ 64
wraps_low n = grind arith

event_low : (event : Event) → AreNumbersLow event.numbers → IsInRange (measure_of false (facts_of event))
event_low event low = record {
  wait = wraps_low (unwrap_or event.lasted 0);
  lock = low.lock;
  errors = low.errors;
  warnings = low.warnings;
  affected = low.affected;
  sent = low.sent;
  examined = low.examined;
}

facts_low : (all : List BlockLine) (events : List Event) → AreEvents all events → AreLowLines all → (index : ℕ)
    → (o : Option Event) → slice_get events index ≡ o → IsInRange (measure_of false (facts_if o))
facts_low all events are low index None e =
    record { wait = nil_low; lock = nil_low; errors = nil_low; warnings = nil_low; affected = nil_low; sent = nil_low; examined = nil_low }
facts_low all events are low index (Some event) e =
    event_low event (subst AreNumbersLow (sym (are.numbers index event e)) (numbers_low all event.subject.kind event.closed low))

pub in_range : InRangeLaw
unfolding IsScript
in_range text setting phases s session index =
    let lines = s.0 in
    let low : Each IsLowPhase phases = subst (λ (z : List Phase). Each IsLowPhase z) (sym s.3)
    (phases_low (sense_of lines) lines (forms_low [] s.1.0 lines s.1.2)) in
    facts_low (lines_for session phases) (events_for session phases) (session_events session phases)
    (session_low session phases low) index (slice_get (events_for session phases) index) refl
