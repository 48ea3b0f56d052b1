-- Events with the same words are the same event.
use Rattle.std.proofs.Common.{◌≡◌, ℕ, ◌+◌, ◌*◌, ◌<◌, ◌≤◌, Bool, true, false, refl, ap, subst, arith, lit<}
use Rattle.std.proofs.Math.Bridge.{le_prop}
use Rattle.pfs_event.specs.declared.event.Event.{Event}
use Rattle.pfs_event.specs.EventForm.{bit_of}
use Rattle.pfs_event.specs.EventWords.{words_of}

-- the fields of an event, and what they keep
abbrev Fields : Type 0
Fields = ℕ × ℕ × ℕ × ℕ × ℕ × ℕ × ℕ × ℕ × ℕ × ℕ × ℕ × ℕ × ℕ × ℕ × ℕ × ℕ × Bool × Bool

abbrev Keep : Fields → Type 0
Keep d = (d.3 ≤ 62) × (d.4 ≤ 64) × (d.5 ≤ 4)

abbrev fields_of : Event → Fields
fields_of e = (e.session, e.number, e.last, e.class, e.link, e.nesting, e.parent, e.start, e.duration, e.lock, e.errors, e.warnings, e.affected, e.sent, e.examined, e.ticket, e.timed, e.read_only)

abbrev keep_of : (e : Event) → Keep (fields_of e)
keep_of e = (e.class_fits, e.link_fits, e.nesting_fits)

abbrev event_of : (d : Fields) → Keep d → Event
event_of d keep = record {
  session = d.0;
  number = d.1;
  last = d.2;
  class = d.3;
  link = d.4;
  nesting = d.5;
  parent = d.6;
  start = d.7;
  duration = d.8;
  lock = d.9;
  errors = d.10;
  warnings = d.11;
  affected = d.12;
  sent = d.13;
  examined = d.14;
  ticket = d.15;
  timed = d.16;
  read_only = d.17;
  class_fits = keep.0;
  link_fits = keep.1;
  nesting_fits = keep.2;
}

keep_once : (d : Fields) → IsProp (Keep d)
keep_once d = hlevel (le_prop)

same_fields : (a b : Event) → fields_of a ≡ fields_of b → a ≡ b
same_fields a b same =
    let P : Fields → Type 0 = λ d. (keep : Keep d) → a ≡ event_of d keep in
    subst P same (λ keep. ap (λ k. event_of (fields_of a) k) (keep_once (fields_of a) (keep_of a) keep)) (keep_of b)

bit_below : (flag : Bool) → bit_of flag < 2
bit_below true = lit< tt
bit_below false = lit< tt

same_bit : (a b : Bool) → bit_of a ≡ bit_of b → a ≡ b
same_bit true true h = refl
same_bit false false h = refl
same_bit true false h = absurd (omega (arith, h))
same_bit false true h = absurd (omega (arith, h))

pub same_event : (a b : Event) → words_of a ≡ words_of b → a ≡ b
same_event a b h =
    let session : a.session ≡ b.session = cc in
    let number : a.number ≡ b.number = cc in
    let last : a.last ≡ b.last = cc in
    let word3 : a.class + 64 * a.link ≡ b.class + 64 * b.link = cc in
    let word4 : bit_of a.timed + 2 * bit_of a.read_only + 4 * a.nesting ≡ bit_of b.timed + 2 * bit_of b.read_only + 4 * b.nesting = cc in
    let parent : a.parent ≡ b.parent = cc in
    let start : a.start ≡ b.start = cc in
    let duration : a.duration ≡ b.duration = cc in
    let lock : a.lock ≡ b.lock = cc in
    let errors : a.errors ≡ b.errors = cc in
    let warnings : a.warnings ≡ b.warnings = cc in
    let affected : a.affected ≡ b.affected = cc in
    let sent : a.sent ≡ b.sent = cc in
    let examined : a.examined ≡ b.examined = cc in
    let ticket : a.ticket ≡ b.ticket = cc in
    let class : a.class ≡ b.class = omega (arith, word3, a.class_fits, b.class_fits) in
    let link : a.link ≡ b.link = omega (arith, word3, a.class_fits, b.class_fits) in
    let timed : bit_of a.timed ≡ bit_of b.timed = omega (arith, word4, bit_below a.timed, bit_below b.timed, bit_below a.read_only, bit_below b.read_only) in
    let read_only : bit_of a.read_only ≡ bit_of b.read_only = omega (arith, word4, bit_below a.timed, bit_below b.timed, bit_below a.read_only, bit_below b.read_only) in
    let nesting : a.nesting ≡ b.nesting = omega (arith, word4, bit_below a.timed, bit_below b.timed, bit_below a.read_only, bit_below b.read_only) in
    let timed_flag : a.timed ≡ b.timed = same_bit a.timed b.timed timed in
    let read_only_flag : a.read_only ≡ b.read_only = same_bit a.read_only b.read_only read_only in
    let same : fields_of a ≡ fields_of b = cc in
    same_fields a b same
