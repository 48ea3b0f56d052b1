use Rattle.std.proofs.Common.{None, inl, inr}
use Rattle.pfs_top.specs.Commands.{HasInput, HasLoad, HasPlain, Has, RunOn}
use Rattle.pfs_top.specs.CommandWords.{AsksPlain, AsksRun, AsksScript}
use Rattle.pfs_top.proofs.Outcomes.{ends_as, ends_told, tells_as, run_told, load_told, handed_told, unasked, asked_for}
use Rattle.pfs_top.proofs.commands.pfs_gated.Goals as goal

pub returns-then-is_word-clause-ends : goal.returns-then-is_word-clause-ends
returns-then-is_word-clause-ends g c =
    let words = c.args.words.now in
    let left = g.S.Source.left c.args.source.now in
    let store = c.run.result.store in
    let asks : AsksRun words = c.is_word.ensures.0 c.if-is_word.true in
    ends_as (Unit {0}) (AsksScript words) (HasInput (RunOn store) left) (Has store words left) _ _ _ _ c.run.result.status (λ any. inl asks) (run_told store words left asks) c.run.ensures.ends

pub returns-then-is_word-clause-store : goal.returns-then-is_word-clause-store
returns-then-is_word-clause-store g c =
    asked_for (AsksRun c.args.words.now) (c.is_word.ensures.0 c.if-is_word.true) c.run.result.status c.run.result.store c.run.ensures.store

pub returns-in-Some-clause-ends : goal.returns-in-Some-clause-ends
returns-in-Some-clause-ends g c =
    let words = c.args.words.now in
    let left = g.S.Source.left c.args.source.now in
    ends_told (AsksScript words) (Has None words left) _ _ _ _ c.load.result (tells_as (HasLoad c.in-Some.number) (Has None words left) _ _ _ c.load.result (load_told words left c.in-Some.number c.in-Some.ensures) c.load.ensures)

pub returns-in-Some-clause-store : goal.returns-in-Some-clause-store
returns-in-Some-clause-store g c =
    unasked (AsksRun c.args.words.now) c.load.result (λ run. let no = c.if-is_word.false in let yes = c.is_word.ensures.1 run in absurd (cc (no, yes)))

pub returns-in-None-clause-ends : goal.returns-in-None-clause-ends
returns-in-None-clause-ends g c =
    let words = c.args.words.now in
    let left = g.S.Source.left c.args.source.now in
    ends_as (AsksPlain words) (AsksScript words) (HasPlain words left) (Has None words left) _ _ _ _ c.pfs_plain.result (λ plain. inr plain)
    (handed_told words left (λ run. let no = c.if-is_word.false in let yes = c.is_word.ensures.1 run in absurd (cc (no, yes))) c.in-None.ensures) c.pfs_plain.ensures.ends

pub returns-in-None-clause-store : goal.returns-in-None-clause-store
returns-in-None-clause-store g c =
    unasked (AsksRun c.args.words.now) c.pfs_plain.result (λ run. let no = c.if-is_word.false in let yes = c.is_word.ensures.1 run in absurd (cc (no, yes)))

pub returns-in-None-clause-loads : goal.returns-in-None-clause-loads
returns-in-None-clause-loads g c = λ number asks no_write. absurd (c.in-None.ensures number asks)
