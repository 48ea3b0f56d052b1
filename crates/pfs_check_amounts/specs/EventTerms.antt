-- What is kept of what contents go by, of events, and what their words are.
use Rattle.std.specs.Prelude.{ℕ, ◌≡◌, ◌<◌, ◌^◌, Bool, List, [], ◌∷◌, Option, Some, None, option_map}
use Rattle.pfs_stat.specs.declared.Stat.{Stat}
use Rattle.pfs_stat.specs.Stat.{stat_of}
use Rattle.pfs_model.specs.Chains.{Each}
use Rattle.pfs_event.specs.NestingKinds.{nesting_number}
use Rattle.pfs_model.specs.Contents.{Facts, Given, Written, if_ended, measure_of, or_zero}
use Rattle.pfs_model.specs.declared.lines.Opened.{Opened}
use Rattle.pfs_model.specs.EventNumbers.{nesting_of}
use Rattle.pfs_check_facts.specs.SessionFacts.{kept_facts}
use Rattle.pfs_check_verdicts.specs.PrintedSets.{GivesFlags}
use Rattle.pfs_check_amounts.specs.declared.amounts.EventTerms.{EventTerms}
use Rattle.pfs_check_amounts.specs.declared.words.Outer.{Outer}
use Rattle.pfs_check_amounts.specs.declared.words.Writing.{Writing}

abbrev pub measured : Bool → Facts → Stat
measured timed facts = stat_of (measure_of timed facts)

-- the flags and the facts that are kept are those that are given
pub record GivesEvents (given : Given) (terms : EventTerms) : Type 0 where
  pub flags : GivesFlags given.flags terms.flags
  pub facts : (session position : ℕ) → kept_facts terms.facts session position ≡ given.facts session position

-- an event in which others lie, and its numbers among the words
abbrev pub outer_of : Opened → Outer
outer_of event = record { kind = event.subject.kind; number = event.number }

abbrev pub outer_type : Option Outer → ℕ
outer_type None = 0
outer_type (Some outer) = nesting_number outer.kind

abbrev pub outer_id : Option Outer → ℕ
outer_id None = 0
outer_id (Some outer) = or_zero outer.number

-- an event as a put finds it
pub record IsWriting (written : Written) (writing : Writing) : Type 0 where
  pub event : written.event ≡ writing.event
  pub outer : option_map outer_of (nesting_of written.around) ≡ writing.outer
  pub last : written.last ≡ writing.last

-- the words, by those that are put together of several numbers
abbrev pub words_by : ℕ → Opened → Option ℕ → ℕ → ℕ → ℕ → Facts → ℕ → List ℕ
words_by session event last class flags outer facts ticket =
    session ∷ or_zero event.number ∷ or_zero last ∷ class ∷ flags ∷ 0 ∷ outer ∷ facts.start
    ∷ if_ended last facts.duration
    ∷ if_ended last facts.lock
    ∷ if_ended last facts.errors
    ∷ if_ended last facts.warnings
    ∷ if_ended last facts.affected
    ∷ if_ended last facts.sent
    ∷ if_ended last facts.examined
    ∷ ticket
    ∷ []

abbrev pub AreWords : List ℕ → Type 0
AreWords words = Each (λ word. word < 2 ^ 64) words

-- the words, or they aren't all of 64 bits
abbrev pub AreWordsTold : List ℕ → Option (List ℕ) → Type 0
AreWordsTold words None = AreWords words → ⊥
AreWordsTold words (Some told) = told ≡ words
