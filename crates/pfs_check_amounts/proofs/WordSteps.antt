-- The words of a put, by what was found of its event.
use Rattle.std.proofs.Common.{◌≡◌, refl, ℕ, ◌+◌, ◌*◌, ◌^◌, ◌<◌, ◌≤◌, sym, ◌∙◌, ap, subst, arith, Option, Some, None}
use Rattle.std.specs.Prelude.{option_map}
use Rattle.pfs_event.specs.EventForm.{bit_of}
use Rattle.pfs_model.specs.declared.lines.Opened.{Opened}
use Rattle.pfs_model.specs.Contents.{Given, Written, is_read_only, link_of, nesting_id, nesting_type, or_zero, plus_one, words_at}
use Rattle.pfs_model.specs.EventNumbers.{nesting_of}
use Rattle.pfs_model.specs.SetupFlags.{is_digested, is_timed}
use Rattle.pfs_check_facts.specs.declared.events.EventFacts.{EventFacts}
use Rattle.pfs_check_facts.specs.SessionFacts.{facts_told}
use Rattle.pfs_check_amounts.specs.declared.words.Writing.{Writing}
use Rattle.pfs_check_amounts.specs.EventTerms.{AreWords, IsWriting, outer_id, outer_of, outer_type, words_by}

type_is : (nesting : Option Opened) → outer_type (option_map outer_of nesting) ≡ nesting_type nesting
type_is None = refl
type_is (Some event) = refl

id_is : (nesting : Option Opened) → outer_id (option_map outer_of nesting) ≡ nesting_id nesting
id_is None = refl
id_is (Some event) = refl

-- what was found of the event that is written
pub record IsFound (given : Given) (session : ℕ) (slot ticket : Option ℕ) (writing : Writing) (facts : EventFacts) (class flags number : ℕ) : Type 0 where
  pub facts_are : facts_told facts ≡ given.facts session writing.event.index
  pub class_is : class ≡ or_zero writing.event.subject.class + 64 * link_of (is_digested given.flags slot writing.event) writing.event
  pub flags_are : flags ≡ bit_of (is_timed given.flags slot writing.event) + 2 * bit_of (is_read_only writing.event.subject.kind writing.event.subject.cell) + 4 * outer_type writing.outer
  pub ticket_is : number ≡ plus_one ticket

pub found_words : (given : Given) (session : ℕ) (slot ticket : Option ℕ) (written : Written) (writing : Writing) (facts : EventFacts) (class flags number : ℕ)
    → IsWriting written writing → IsFound given session slot ticket writing facts class flags number
    → words_by session writing.event writing.last class flags (outer_id writing.outer) (facts_told facts) number
    ≡ words_at given.flags session slot (given.facts session written.event.index) ticket written
found_words given session slot ticket written writing facts class flags number is found =
    λ i. words_by session (event i) (last i) (classes i) (bits i) (outer i) (told i) (found.ticket_is i) where
      event : writing.event ≡ written.event
      event = sym is.event

      last : writing.last ≡ written.last
      last = sym is.last

      classes : class ≡ or_zero written.event.subject.class + 64 * link_of (is_digested given.flags slot written.event) written.event
      classes = found.class_is ∙ ap (λ (e : Opened). or_zero e.subject.class + 64 * link_of (is_digested given.flags slot e) e) event

      bits : flags ≡ bit_of (is_timed given.flags slot written.event) + 2 * bit_of (is_read_only written.event.subject.kind written.event.subject.cell) + 4 * nesting_type (nesting_of written.around)
      bits = found.flags_are
          ∙ ap (λ (e : Opened). bit_of (is_timed given.flags slot e) + 2 * bit_of (is_read_only e.subject.kind e.subject.cell) + 4 * outer_type writing.outer) event
          ∙ ap (λ n. bit_of (is_timed given.flags slot written.event) + 2 * bit_of (is_read_only written.event.subject.kind written.event.subject.cell) + 4 * n)
          (ap outer_type (sym is.outer) ∙ type_is (nesting_of written.around))

      outer : outer_id writing.outer ≡ nesting_id (nesting_of written.around)
      outer = ap outer_id (sym is.outer) ∙ id_is (nesting_of written.around)

      told : facts_told facts ≡ given.facts session written.event.index
      told = found.facts_are ∙ ap (λ (e : Opened). given.facts session e.index) event

-- a number that isn't of 64 bits
pub class_large : (given : Given) (session : ℕ) (slot ticket : Option ℕ) (written : Written) (writing : Writing) (class : ℕ) → IsWriting written writing
    → class ≡ or_zero writing.event.subject.class + 64 * link_of (is_digested given.flags slot writing.event) writing.event → 2 ^ 64 ≤ class
    → AreWords (words_at given.flags session slot (given.facts session written.event.index) ticket written) → ⊥
class_large given session slot ticket written writing class is class_is large all =
    let same : class ≡ or_zero written.event.subject.class + 64 * link_of (is_digested given.flags slot written.event) written.event =
    class_is ∙ ap (λ (e : Opened). or_zero e.subject.class + 64 * link_of (is_digested given.flags slot e) e) (sym is.event) in
    never class (large) (subst (λ n. n < 2 ^ 64) (sym same) all.1.1.1.0) where
      never : (n : ℕ) → 2 ^ 64 ≤ n → n < 2 ^ 64 → ⊥
      never n l s = omega (arith, l, s)

pub ticket_large : (given : Given) (session : ℕ) (slot ticket : Option ℕ) (written : Written) (number : ℕ) → number ≡ plus_one ticket → 2 ^ 64 ≤ number
    → AreWords (words_at given.flags session slot (given.facts session written.event.index) ticket written) → ⊥
ticket_large given session slot ticket written number is large all =
    never number large (subst (λ n. n < 2 ^ 64) (sym is) all.1.1.1.1.1.1.1.1.1.1.1.1.1.1.1.0) where
      never : (n : ℕ) → 2 ^ 64 ≤ n → n < 2 ^ 64 → ⊥
      never n l s = omega (arith, l, s)
