-- How a call ends, from how its parts end.
use Rattle.std.proofs.Common.{ℕ, ◌≡◌, ◌≤◌, ◌<◌, ◌⊎◌, inl, inr, List, length, Option, Some, None, IfSome, Result, Ok, Err, IfErr, IfOk, OnOk, ap, subst, sym, refl, arith}
use Rattle.std.specs.Prelude.{String}
use Rattle.std.specs.declared.alloc.Global.{Global}
use Rattle.pfs_outside.specs.DeviceCalls.{Rose, Added}
use Rattle.pfs_outside.specs.WholeStreams.{Puts, ReadToEnd, ReadPast}
use Rattle.pfs_board_store.specs.declared.rows.Seats.{Seats}
use Rattle.pfs_outside.specs.declared.writing.WriteStop.{WriteStop}
use Rattle.pfs_outside.specs.declared.writing.WriteStop.TheVariants as stop
use Rattle.pfs_top.specs.declared.statuses.Status.{Status}
use Rattle.pfs_top.specs.declared.statuses.Status.TheVariants.{Done, Usage, BadScript, ReadFault, WriteFault, NoMemory}
use Rattle.pfs_classes.specs.declared.setting.Setting.{Setting}
use Rattle.pfs_script.specs.declared.blocks.Phase.{Phase}
use Rattle.pfs_script.specs.declared.reasons.Reason.{Reason}
use Rattle.pfs_script.specs.declared.reasons.Reason.TheVariants.{TooLong}
use Rattle.pfs_script.specs.Scripts.{IsScript, IsFirstFault}
use Rattle.pfs_gen.specs.GeneratedScript.{script_text}
use Rattle.pfs_journal.specs.Reports.{IsReport}
use Rattle.pfs_journal.specs.ReportLines.{FitsReport}
use Rattle.pfs_journal.specs.Spelling.{spelling}
use Rattle.pfs_journal.specs.declared.report.ReportParts.{ReportParts}
use Rattle.pfs_law_load.specs.OneText.{IsLoadText, OneTextLaw}
use Rattle.pfs_law_summaries.specs.SummaryLaws.{IsPlainCountedRun}
use Rattle.pfs_top.specs.Commands.{Runs, RunOn, most_bytes, HasReport, HasSummaries, HasLoad, HasFault, HasBadText, HasBadInput, HasScript, IsWithin, HasInput, HasPlain, HasStore, store_at, Has, ToldPart, Tells, Writes, Ends, ReadBy, ReadWhole, status_after}
use Rattle.pfs_top.specs.CommandWords.{AsksRun, AsksPlain, AsksLoad}

-- what two clauses say of an answer holds of it at once
pub both_ok : {T E : Type 0} (P Q : T → Type 0) (outcome : Result T E) → IfOk outcome P → IfOk outcome Q → IfOk outcome (λ x. P x × Q x)
both_ok P Q (Ok x) p q = (p, q)
both_ok P Q (Err e) p q = tt

pub err_weaker : {T E : Type 0} (P Q : E → Type 0) (outcome : Result T E) → ((e : E) → P e → Q e) → IfErr outcome P → IfErr outcome Q
err_weaker P Q (Ok x) f p = tt
err_weaker P Q (Err e) f p = f e p

-- a status that goes with a text of its own
abbrev pub HasOwnText : Status → Type 0
HasOwnText ReadFault = ⊥
HasOwnText WriteFault = ⊥
HasOwnText NoMemory = ⊥
HasOwnText _ = Unit {0}

told_whole : (P : Status → List ℕ → Type 0) (before after : Option (List ℕ)) (due : List ℕ) (W : Type 0) (status : Status) → HasOwnText status → P status due → Added before after due → Tells P before after W status
told_whole P before after due W Done own h a = (due, h, a)
told_whole P before after due W Usage own h a = (due, h, a)
told_whole P before after due W (BadScript line reason) own h a = (due, h, a)
told_whole P before after due W ReadFault own h a = absurd own
told_whole P before after due W WriteFault own h a = absurd own
told_whole P before after due W NoMemory own h a = absurd own

-- a text was offered
pub told : (P : Status → List ℕ → Type 0) (before after : Option (List ℕ)) (old now : ℕ) (due : List ℕ) (status : Status) (outcome : Result (Unit {0}) WriteStop) → HasOwnText status → P status due → Puts before after old now due outcome → Tells P before after (Rose old now) (status_after outcome status)
told P before after old now due status (Ok done) own h p = told_whole P before after due (Rose old now) status own h p.0
told P before after old now due status (Err stop.Failed) own h p = (p.1, (status, due, h, p.0))
told P before after old now due status (Err stop.NoMemory) own h p = inr (status, due, h, p.0)

part_as : (P Q : Status → List ℕ → Type 0) (before after : Option (List ℕ)) → ((status : Status) (due : List ℕ) → P status due → Q status due) → ToldPart P before after → ToldPart Q before after
part_as P Q before after f p = (p.0, p.1, f p.0 p.1 p.2, p.3)

-- what has a text in one sense has it in another
pub tells_as : (P Q : Status → List ℕ → Type 0) (before after : Option (List ℕ)) (W : Type 0) (status : Status) → ((s : Status) (due : List ℕ) → P s due → Q s due) → Tells P before after W status → Tells Q before after W status
tells_as P Q before after W Done f t = (t.0, f Done t.0 t.1, t.2)
tells_as P Q before after W Usage f t = (t.0, f Usage t.0 t.1, t.2)
tells_as P Q before after W (BadScript line reason) f t = (t.0, f (BadScript line reason) t.0 t.1, t.2)
tells_as P Q before after W ReadFault f t = absurd t
tells_as P Q before after W WriteFault f t = (t.0, part_as P Q before after f t.1)
tells_as P Q before after W NoMemory f (inl e) = inl e
tells_as P Q before after W NoMemory f (inr p) = inr (part_as P Q before after f p)

-- a call that told a status ended
pub ends_told : (Ran : Type 0) (P : Status → List ℕ → Type 0) (before after : Option (List ℕ)) (R W : Type 0) (status : Status) → Tells P before after W status → Ends Ran P before after R W status
ends_told Ran P before after R W Done t = t
ends_told Ran P before after R W Usage t = t
ends_told Ran P before after R W (BadScript line reason) t = t
ends_told Ran P before after R W ReadFault t = absurd t
ends_told Ran P before after R W WriteFault t = t
ends_told Ran P before after R W NoMemory t = t

-- a call that ended in one sense ended in another
pub ends_as : (Ran Goes : Type 0) (P Q : Status → List ℕ → Type 0) (before after : Option (List ℕ)) (R W : Type 0) (status : Status) → (Ran → Goes) → ((s : Status) (due : List ℕ) → P s due → Q s due) → Ends Ran P before after R W status → Ends Goes Q before after R W status
ends_as Ran Goes P Q before after R W Done g f t = tells_as P Q before after W Done f t
ends_as Ran Goes P Q before after R W Usage g f t = tells_as P Q before after W Usage f t
ends_as Ran Goes P Q before after R W (BadScript line reason) g f t = tells_as P Q before after W (BadScript line reason) f t
ends_as Ran Goes P Q before after R W ReadFault g f t = (g t.0, t.1, t.2)
ends_as Ran Goes P Q before after R W WriteFault g f t = tells_as P Q before after W WriteFault f t
ends_as Ran Goes P Q before after R W NoMemory g f t = tells_as P Q before after W NoMemory f t

-- a report was offered
pub writes : (report : ReportParts) (before after : Option (List ℕ)) (old now : ℕ) (outcome : Result (Unit {0}) WriteStop) → IsReport report → OnOk outcome (FitsReport report) → Puts before after old now (spelling report) outcome → Writes report before after (Rose old now) (status_after outcome Done)
writes report before after old now (Ok done) good fits p = (good, fits, p.0)
writes report before after old now (Err stop.Failed) good fits p = (p.1, good, p.0)
writes report before after old now (Err stop.NoMemory) good fits p = (good, p.0)

-- and it is one of a run in this way
pub report_told : (Ran : Runs) (setting : Setting) (phases : List Phase) (report : ReportParts) → Ran setting phases report → (before after : Option (List ℕ)) (W : Type 0) (status : Status) → Writes report before after W status → Tells (HasReport Ran setting phases) before after W status
report_told Ran setting phases report ran before after W Done w = (spelling report, (report, w.0, w.1, ran, refl), w.2)
report_told Ran setting phases report ran before after W Usage w = absurd w
report_told Ran setting phases report ran before after W (BadScript line reason) w = absurd w
report_told Ran setting phases report ran before after W ReadFault w = absurd w
report_told Ran setting phases report ran before after W WriteFault w = (w.0, (WriteFault, spelling report, (report, w.1, ran, refl), w.2))
report_told Ran setting phases report ran before after W NoMemory w = inr (WriteFault, spelling report, (report, w.0, ran, refl), w.1)

-- with the store where it is handed on, and without it else
pub recorded_told : (setting : Setting) (phases : List Phase) (report : ReportParts) (store : Seats) → RunOn (Some store) setting phases report → (before after : Option (List ℕ)) (W : Type 0) (status : Status) → Writes report before after W status → Tells (HasReport (RunOn (store_at status store)) setting phases) before after W status
recorded_told setting phases report store ran before after W Done w = report_told (RunOn (Some store)) setting phases report ran before after W Done w
recorded_told setting phases report store ran before after W Usage w = absurd w
recorded_told setting phases report store ran before after W (BadScript line reason) w = absurd w
recorded_told setting phases report store ran before after W ReadFault w = absurd w
recorded_told setting phases report store ran before after W WriteFault w = report_told (RunOn None) setting phases report ran.0 before after W WriteFault w
recorded_told setting phases report store ran before after W NoMemory w = report_told (RunOn None) setting phases report ran.0 before after W NoMemory w

pub handed_on : (status : Status) (store : Seats) → HasStore (Unit {0}) status (store_at status store)
handed_on Done store = tt
handed_on Usage store = refl
handed_on (BadScript line reason) store = refl
handed_on ReadFault store = refl
handed_on WriteFault store = refl
handed_on NoMemory store = refl

-- where nothing was written yet
pub tells_on : (P : Status → List ℕ → Type 0) (before mid after : Option (List ℕ)) (old between now : ℕ) (status : Status) → mid ≡ before → between ≡ old → Tells P mid after (Rose between now) status → Tells P before after (Rose old now) status
tells_on P before mid after old between now status e f t = subst (λ (n : ℕ). Tells P before after (Rose n now) status) f (subst (λ (b : Option (List ℕ)). Tells P b after (Rose between now) status) e t)

-- a fault's line is that of these bytes
pub fault_read : (bytes : List ℕ) (line : ℕ) (reason : Reason) → IsFirstFault bytes line reason → (status : Status) (due : List ℕ) → HasFault line reason status due → HasBadText bytes status due
fault_read bytes line reason first Done due h = absurd h
fault_read bytes line reason first Usage due h = absurd h
fault_read bytes line reason first (BadScript l r) due h = (rw (h.0, h.1) first, rw (h.0, h.1) h.2)
fault_read bytes line reason first ReadFault due h = absurd h
fault_read bytes line reason first WriteFault due h = absurd h
fault_read bytes line reason first NoMemory due h = absurd h

-- what is told of the bytes that came is told of the source
pub text_bad : (input : Option (List ℕ)) (bytes : List ℕ) → IsWithin input bytes → (status : Status) (due : List ℕ) → HasBadText bytes status due → HasBadInput input status due
text_bad input bytes within Done due h = absurd h
text_bad input bytes within Usage due h = absurd h
text_bad input bytes within (BadScript line reason) due h = inr (bytes, within, h)
text_bad input bytes within ReadFault due h = absurd h
text_bad input bytes within WriteFault due h = absurd h
text_bad input bytes within NoMemory due h = absurd h

-- too many bytes are the fault of the source
pub input_long : (input : Option (List ℕ)) → IfSome input (λ text. most_bytes < length text) → (status : Status) (due : List ℕ) → HasFault 0 TooLong status due → HasBadInput input status due
input_long input long Done due h = absurd h
input_long input long Usage due h = absurd h
input_long input long (BadScript line reason) due h = inl (h.0, h.1, rw (h.0, h.1) h.2, long)
input_long input long ReadFault due h = absurd h
input_long input long WriteFault due h = absurd h
input_long input long NoMemory due h = absurd h

-- a fault of the source is due to it, however a script would be run
pub bad_told : (Ran : Runs) (input : Option (List ℕ)) (status : Status) (due : List ℕ) → HasBadInput input status due → HasInput Ran input status due
bad_told Ran input Done due h = absurd h
bad_told Ran input Usage due h = absurd h
bad_told Ran input (BadScript line reason) due h = h
bad_told Ran input ReadFault due h = absurd h
bad_told Ran input WriteFault due h = absurd h
bad_told Ran input NoMemory due h = absurd h

-- and so is the report of its script
pub input_ran : (Ran : Runs) (input : Option (List ℕ)) (setting : Setting) (phases : List Phase) → HasScript input setting phases → (status : Status) (due : List ℕ) → HasReport Ran setting phases status due → HasInput Ran input status due
input_ran Ran input setting phases script Done due h = (setting, phases, script, h)
input_ran Ran input setting phases script Usage due h = absurd h
input_ran Ran input setting phases script (BadScript line reason) due h = absurd h
input_ran Ran input setting phases script ReadFault due h = absurd h
input_ran Ran input setting phases script WriteFault due h = (setting, phases, script, h)
input_ran Ran input setting phases script NoMemory due h = absurd h

-- the summaries of a generated script's phases are a load's, since all runs of it show the same
pub load_shown : OneTextLaw → (number : ℕ) (setting : Setting) (phases : List Phase) → IsScript (script_text number) setting phases → (status : Status) (due : List ℕ) → HasSummaries setting phases status due → HasLoad number status due
load_shown law number setting phases script Done due h = (subst (IsLoadText number) (sym h.3) (law number setting phases h.0 script h.2.run), setting, phases, script, h)
load_shown law number setting phases script Usage due h = absurd h
load_shown law number setting phases script (BadScript line reason) due h = absurd h
load_shown law number setting phases script ReadFault due h = absurd h
load_shown law number setting phases script WriteFault due h = absurd h
load_shown law number setting phases script NoMemory due h = absurd h

-- what is told of a source is so of the words that ask for its script
pub plain_told : (words : List (String Global)) (input : Option (List ℕ)) → AsksPlain words → (status : Status) (due : List ℕ) → HasInput IsPlainCountedRun input status due → HasPlain words input status due
plain_told words input asks Done due h = (asks, h)
plain_told words input asks Usage due h = absurd h.3
plain_told words input asks (BadScript line reason) due h = (asks, h)
plain_told words input asks ReadFault due h = absurd h.3
plain_told words input asks WriteFault due h = (asks, h)
plain_told words input asks NoMemory due h = absurd h.3

pub run_told : (store : Option Seats) (words : List (String Global)) (input : Option (List ℕ)) → AsksRun words → (status : Status) (due : List ℕ) → HasInput (RunOn store) input status due → Has store words input status due
run_told store words input asks Done due h = inl (asks, h)
run_told store words input asks Usage due h = absurd h.3
run_told store words input asks (BadScript line reason) due h = inl (asks, h)
run_told store words input asks ReadFault due h = absurd h.3
run_told store words input asks WriteFault due h = inl (asks, h)
run_told store words input asks NoMemory due h = absurd h.3

-- what a load tells
pub load_told : (words : List (String Global)) (input : Option (List ℕ)) (number : ℕ) → AsksLoad words number → (status : Status) (due : List ℕ) → HasLoad number status due → Has None words input status due
load_told words input number asks Done due h = inr (inr (number, asks, h))
load_told words input number asks Usage due h = absurd h
load_told words input number asks (BadScript line reason) due h = absurd h
load_told words input number asks ReadFault due h = absurd h
load_told words input number asks WriteFault due h = absurd h
load_told words input number asks NoMemory due h = absurd h

-- what is told of other words than `run` and a load
pub handed_told : (words : List (String Global)) (input : Option (List ℕ)) → ¬ AsksRun words → ((number : ℕ) → ¬ AsksLoad words number) → (status : Status) (due : List ℕ) → HasPlain words input status due → Has None words input status due
handed_told words input run load Done due h = inr (inl h)
handed_told words input run load Usage due h = (
  λ command. elim command [
    | inl asks ↦ elim asks [
      | inl asks_run ↦ run asks_run
      | inr asks_plain ↦ h.0 asks_plain
    ]
    | inr asks ↦ load asks.0 asks.1
  ],
  h.1,
)
handed_told words input run load (BadScript line reason) due h = inr (inl h)
handed_told words input run load ReadFault due h = inr (inl h)
handed_told words input run load WriteFault due h = inr (inl h)
handed_told words input run load NoMemory due h = inr (inl h)

-- no store is there where no run was asked for
pub unasked : (Asked : Type 0) (status : Status) → ¬ Asked → HasStore Asked status None
unasked Asked Done never = never
unasked Asked Usage never = refl
unasked Asked (BadScript line reason) never = refl
unasked Asked ReadFault never = refl
unasked Asked WriteFault never = refl
unasked Asked NoMemory never = refl

-- nor where there was no script to run
pub unscripted : (input before after : Option (List ℕ)) (R W : Type 0) (status : Status) → Ends (Unit {0}) (HasBadInput input) before after R W status → HasStore (Unit {0}) status None
unscripted input before after R W Done t = absurd t.1
unscripted input before after R W Usage t = refl
unscripted input before after R W (BadScript line reason) t = refl
unscripted input before after R W ReadFault t = refl
unscripted input before after R W WriteFault t = refl
unscripted input before after R W NoMemory t = refl

-- it is there for the words that asked
pub asked_for : (Asked : Type 0) → Asked → (status : Status) (store : Option Seats) → HasStore (Unit {0}) status store → HasStore Asked status store
asked_for Asked asks Done (Some store) h = asks
asked_for Asked asks Done None h = absurd (h tt)
asked_for Asked asks Usage store h = h
asked_for Asked asks (BadScript line reason) store h = h
asked_for Asked asks ReadFault store h = h
asked_for Asked asks WriteFault store h = h
asked_for Asked asks NoMemory store h = h

-- what was read, where the script was run that came
pub read_whole : (Ran : Runs) (setting : Setting) (phases : List Phase) {S : Type 0} (left : S → Option (List ℕ)) (faults : S → ℕ) (source rest : S) (before after : Option (List ℕ)) (W : Type 0) (status : Status)
    → ReadWhole left faults source rest → Tells (HasReport Ran setting phases) before after W status → ReadBy left faults source rest status
read_whole Ran setting phases left faults source rest before after W Done r t = r
read_whole Ran setting phases left faults source rest before after W Usage r t = absurd t.1
read_whole Ran setting phases left faults source rest before after W (BadScript line reason) r t = absurd t.1
read_whole Ran setting phases left faults source rest before after W ReadFault r t = absurd t
read_whole Ran setting phases left faults source rest before after W WriteFault r t = inl r
read_whole Ran setting phases left faults source rest before after W NoMemory r t = record { bytes = r.0; took = r.1.took; within = omega (arith, r.1.within) }

-- where its fault was named
pub read_bad : {S : Type 0} (left : S → Option (List ℕ)) (faults : S → ℕ) (source rest : S) (bytes : List ℕ) (before after : Option (List ℕ)) (W : Type 0) (status : Status)
    → ReadToEnd left faults source rest most_bytes bytes → Tells (HasBadText bytes) before after W status → ReadBy left faults source rest status
read_bad left faults source rest bytes before after W Done r t = absurd t.1
read_bad left faults source rest bytes before after W Usage r t = absurd t.1
read_bad left faults source rest bytes before after W (BadScript line reason) r t = inl (bytes, r)
read_bad left faults source rest bytes before after W ReadFault r t = absurd t
read_bad left faults source rest bytes before after W WriteFault r t = inl (bytes, r)
read_bad left faults source rest bytes before after W NoMemory r t = record { bytes = bytes; took = r.took; within = omega (arith, r.within) }

-- and where there were too many
pub read_past : {S : Type 0} (left : S → Option (List ℕ)) (faults : S → ℕ) (source rest : S) (before after : Option (List ℕ)) (W : Type 0) (status : Status)
    → ReadPast left faults source rest most_bytes → Tells (HasFault 0 TooLong) before after W status → ReadBy left faults source rest status
read_past left faults source rest before after W Done r t = absurd t.1
read_past left faults source rest before after W Usage r t = absurd t.1
read_past left faults source rest before after W (BadScript line reason) r t = inr r
read_past left faults source rest before after W ReadFault r t = absurd t
read_past left faults source rest before after W WriteFault r t = inr r
read_past left faults source rest before after W NoMemory r t = record { bytes = r.bytes; took = r.took; within = r.within }
