-- How a call ends, from how its parts end.
use Rattle.std.proofs.Common.{ℕ, ◌≡◌, ◌≤◌, inl, inr, List, length, take, drop, Option, IfSome, Result, Ok, Err}
use Rattle.pfs_outside.specs.DeviceCalls.{Rose, Added}
use Rattle.pfs_outside.specs.WholeStreams.{Puts}
use Rattle.pfs_outside.specs.declared.writing.WriteStop.{WriteStop}
use Rattle.pfs_outside.specs.declared.writing.WriteStop.TheVariants as stop
use Rattle.pfs_journal.specs.declared.report.ReportParts.{ReportParts}
use Rattle.pfs_view.specs.Views.{most_bytes, HasView, HasInput, ToldPart, Tells, Ends, status_after}
use Rattle.pfs_view.specs.declared.viewing.Status.{Status}
use Rattle.pfs_view.specs.declared.viewing.Status.TheVariants.{Done, BadReport, BadScript, TooLong, ReadFault, WriteFault, NoMemory}

-- a status that goes with a text of its own
abbrev pub HasOwnText : Status → Type 0
HasOwnText TooLong = ⊥
HasOwnText ReadFault = ⊥
HasOwnText WriteFault = ⊥
HasOwnText NoMemory = ⊥
HasOwnText _ = Unit {0}

told_whole : (P : Status → List ℕ → Type 0) (before after : Option (List ℕ)) (due : List ℕ) (W : Type 0) (status : Status) → HasOwnText status → P status due → Added before after due → Tells P before after W status
told_whole P before after due W Done own h a = (due, h, a)
told_whole P before after due W (BadReport at) own h a = (due, h, a)
told_whole P before after due W (BadScript line reason) own h a = (due, h, a)
told_whole P before after due W TooLong own h a = absurd own
told_whole P before after due W ReadFault own h a = absurd own
told_whole P before after due W WriteFault own h a = absurd own
told_whole P before after due W NoMemory own h a = absurd own

-- a text was offered
pub told : (P : Status → List ℕ → Type 0) (before after : Option (List ℕ)) (old now : ℕ) (due : List ℕ) (status : Status) (outcome : Result (Unit {0}) WriteStop) → HasOwnText status → P status due → Puts before after old now due outcome → Tells P before after (Rose old now) (status_after outcome status)
told P before after old now due status (Ok done) own h p = told_whole P before after due (Rose old now) status own h p.0
told P before after old now due status (Err stop.Failed) own h p = (p.1, (status, due, h, p.0))
told P before after old now due status (Err stop.NoMemory) own h p = inr (status, due, h, p.0)

part_as : (P Q : Status → List ℕ → Type 0) (before after : Option (List ℕ)) → ((status : Status) (due : List ℕ) → P status due → Q status due) → ToldPart P before after → ToldPart Q before after
part_as P Q before after f p = (p.0, p.1, f p.0 p.1 p.2, p.3)

-- what has a text in one sense has it in another
pub tells_as : (P Q : Status → List ℕ → Type 0) (before after : Option (List ℕ)) (W : Type 0) (status : Status) → ((s : Status) (due : List ℕ) → P s due → Q s due) → Tells P before after W status → Tells Q before after W status
tells_as P Q before after W Done f t = (t.0, f Done t.0 t.1, t.2)
tells_as P Q before after W (BadReport at) f t = (t.0, f (BadReport at) t.0 t.1, t.2)
tells_as P Q before after W (BadScript line reason) f t = (t.0, f (BadScript line reason) t.0 t.1, t.2)
tells_as P Q before after W TooLong f t = absurd t
tells_as P Q before after W ReadFault f t = absurd t
tells_as P Q before after W WriteFault f t = (t.0, part_as P Q before after f t.1)
tells_as P Q before after W NoMemory f (inl e) = inl e
tells_as P Q before after W NoMemory f (inr p) = inr (part_as P Q before after f p)

-- a call that told a status ended
pub ends_told : (shown : List ℕ → ReportParts → List ℕ) (count : ℕ) (input before after : Option (List ℕ)) (R W : Type 0) (status : Status) → Tells (HasInput shown count input) before after W status → Ends shown count input before after R W status
ends_told shown count input before after R W Done t = t
ends_told shown count input before after R W (BadReport at) t = t
ends_told shown count input before after R W (BadScript line reason) t = t
ends_told shown count input before after R W TooLong t = absurd t
ends_told shown count input before after R W ReadFault t = absurd t
ends_told shown count input before after R W WriteFault t = t
ends_told shown count input before after R W NoMemory t = t

-- the text of the bytes that came is that of the source
pub input_viewed : (shown : List ℕ → ReportParts → List ℕ) (count : ℕ) (input : Option (List ℕ)) (bytes : List ℕ) → IfSome input (λ text. bytes ≡ text) → length bytes ≤ most_bytes → (status : Status) (due : List ℕ) → HasView shown (take count bytes) (drop count bytes) status due → HasInput shown count input status due
input_viewed shown count input bytes came short status due h = (bytes, came, short, h)
