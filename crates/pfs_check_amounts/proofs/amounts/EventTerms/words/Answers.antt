use Rattle.std.proofs.Common.{◌+◌, ◌*◌, ◌∙◌, ap}
use Rattle.pfs_event.specs.EventForm.{bit_of}
use Rattle.pfs_model.specs.Contents.{is_read_only, link_of, or_zero}
use Rattle.pfs_check_amounts.specs.EventTerms.{outer_type}
use Rattle.pfs_check_amounts.proofs.WordSteps.{class_large, found_words, ticket_large}
use Rattle.pfs_check_amounts.proofs.amounts.EventTerms.words.Goals as goal

pub returns-in_default : goal.returns-in_default
returns-in_default c = λ given slot written gives is.
    class_large given c.args.session slot c.args.ticket written c.args.writing.now c.class_and_link.result is
    (c.class_and_link.ensures
    ∙ ap (λ b. or_zero c.args.writing.now.event.subject.class + 64 * link_of b c.args.writing.now.event) (c.is_digested-digested.ensures given.flags slot gives.flags))
    c.in_default.ensures

pub returns-in_default-narrow : goal.returns-in_default-narrow
returns-in_default-narrow c = λ given slot written gives is.
    ticket_large given c.args.session slot c.args.ticket written c.plus_one.result c.plus_one.ensures.number c.in_default-narrow.ensures

pub returns : goal.returns
returns c = λ given slot written gives is.
    c.spelled.ensures
    ∙ found_words given c.args.session slot c.args.ticket written c.args.writing.now c.facts-facts.result c.in-Some.class c.flags_word-flags.result
    c.in-Some-narrow.number is (record {
      facts_are = c.facts-facts.ensures ∙ gives.facts c.args.session c.args.writing.now.event.index;
      class_is = c.in-Some.ensures ∙ c.class_and_link.ensures
          ∙ ap (λ b. or_zero c.args.writing.now.event.subject.class + 64 * link_of b c.args.writing.now.event) (c.is_digested-digested.ensures given.flags slot gives.flags);
      flags_are = c.flags_word-flags.ensures
          ∙ ap (λ b. bit_of b + 2 * bit_of (is_read_only c.args.writing.now.event.subject.kind c.args.writing.now.event.subject.cell) + 4 * outer_type c.args.writing.now.outer)
          (c.is_timed-timed.ensures given.flags slot gives.flags);
      ticket_is = c.in-Some-narrow.ensures ∙ c.plus_one.ensures.number;
    })
