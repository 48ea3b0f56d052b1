use Rattle.std.proofs.Common.{ℕ, ◌≡◌, ◌+◌, List, ◌∷◌, ◌++◌, [], None, sym, ap, ◌∙◌, arith}
use Rattle.std.proofs.lemmas.List.Sums.{fold_push}
use Rattle.pfs_classes.specs.declared.setting.DigestText.{DigestText}
use Rattle.pfs_classes.specs.declared.setting.TableName.{TableName}
use Rattle.pfs_script.specs.Blocks.{sense_of}
use Rattle.pfs_script.specs.Finds.{with_digest}
use Rattle.pfs_script.specs.Headings.{Head, resolved}
use Rattle.pfs_script.specs.Reasons.{fault_of}
use Rattle.pfs_script.specs.Senses.{class_in, number_in}
use Rattle.pfs_script.specs.SessionNames.{with_session}
use Rattle.pfs_script.proofs.ReaderCounts.{push_count, few_count}
use Rattle.pfs_script.proofs.FaultlessLines.{passes}
use Rattle.pfs_script.proofs.NextFinds.{finds_more}
use Rattle.pfs_script.proofs.ReaderSteps.{idles, class_stays, say_behind, drafted_more, settled_behind, ahead_more}
use Rattle.pfs_script.proofs.HeadLines.{may_come, stands_in}
use Rattle.pfs_script.proofs.reading.Reader.take.Goals as goal

pub bad-requires : goal.bad-requires
bad-requires c = omega (arith, few_count c.args.self.now c.requires.behind.0 c.requires.behind.1)

pub overflow_add-self : goal.overflow_add-self
overflow_add-self c = omega (arith, few_count c.args.self.now c.requires.behind.0 c.requires.behind.1)

pub pass-requires : goal.pass-requires
pass-requires c =
    let before = c.requires.behind.0 in
    let b = c.requires.behind.1 in
    let none : fault_of before c.args.line.now ≡ None = sym (c.fault-fault.ensures before (c.count.ensures before b.place) b.head b.finds) ∙ c.in_default.is in
    rw b.head (may_come before c.args.line.now (passes before c.args.line.now none) c.requires.kind)

pub returns : goal.returns
returns c before b =
    let line = c.args.line.now in
    let finds = c.args.self.now.finds in
    let after = c.note.new.self in
    let behind = before ++ line ∷ [] in
    let none : fault_of before line ≡ None = sym (c.fault-fault.ensures before (c.count.ensures before b.place) b.head b.finds) ∙ c.in_default.is in
    let p = passes before line none in
    let stands = stands_in before line p in
    let idle = idles before line p in
    let most = c.args.self.now.heading.limits.digests in
    let head = c.in_ok-pass.ensures before stands b.head in
    let tables = c.in_ok-number.ensures.tables in
    let digests : after.digests ≡ with_digest most finds.digests line = c.in_ok-number.ensures.digests ∙ ap (λ (n : ℕ). with_digest n finds.digests line) c.most_digests-most.ensures in
    let found = finds_more finds after before line b.finds stands p.tables most (ap (λ (one : Head). one.limits.digests) b.head) tables digests in
    let class = c.requires.class ∙ (ap (λ (one : Head). class_in (resolved one) line) b.head ∙ class_stays before line) in
    let number = c.in_ok-number.ensures.number
    ∙ (ap (λ (all : List TableName). number_in all after.digests line) found.tables
    ∙ ap (λ (all : List DigestText). number_in (sense_of behind).tables all line) found.digests) in
    let stays = say_behind most finds after before line idle b.ahead b.finds found tables digests b.settled in (
      none,
      record {
        count = ap (λ n. n + 1) b.count ∙ sym (push_count before line);
        drafted = drafted_more c.args.self.now.drafts c.pass-3.new.self before line c.in_ok-said.said b.drafted stays (c.in_ok-said.ensures (sense_of behind) class number) c.in_ok-pass-2.ensures.phases;
        owners = λ names. c.in_ok-pass-2.ensures.owners names ∙ (ap (λ all. with_session all line) (b.owners names) ∙ sym (fold_push with_session names before line));
        ahead = ahead_more before line p.place b.ahead;
        place = c.pass-2.ensures before (c.count.ensures before b.place) none;
        head = head;
        finds = found;
        settled = settled_behind most c.pass.new.self.limits.digests finds after before line idle (λ same. ap (λ (one : Head). one.limits.digests) (head ∙ (sym same ∙ sym b.head))) b.ahead tables digests b.settled;
      },
      c.in_ok-number.ensures.number,
    )
