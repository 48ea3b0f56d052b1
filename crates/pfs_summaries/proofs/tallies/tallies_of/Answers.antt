use Rattle.std.proofs.Common.{◌≡◌, ap, ◌∙◌, length, get_or, List, arith}
use Rattle.std.proofs.lemmas.List.{length-replicate, get_or-replicate}
use Rattle.pfs_summaries.specs.declared.tallies.Tally.{Tally}
use Rattle.pfs_summaries.specs.ReadingSteps.{none_of}
use Rattle.pfs_summaries.proofs.TallySteps.{tallies_more, tallies_none}
use Rattle.pfs_summaries.proofs.tallies.tallies_of.Goals as goal

pub loop-reading-init : goal.loop-reading-init
loop-reading-init c =
    tallies_none c.args.which c.args.infos.now c.in_ok-tallies.tallies.items (ap length c.in_ok-tallies.ensures ∙ length-replicate 2048 none_of)
    (λ n h. ap (λ (ts : List Tally). get_or ts n none_of) c.in_ok-tallies.ensures ∙ get_or-replicate 2048 n none_of none_of h)

pub loop-reading-preserved : goal.loop-reading-preserved
loop-reading-preserved c =
    let long : c.loop-reading.tallies.len ≡ length c.loop-reading.tallies.items = omega (arith, c.loop-reading.tallies.ok) in
    tallies_more c.args.which c.args.infos.now c.args.readings.now c.loop-reading.reading-index _ c.loop-reading.tallies.items c.deref_mut.result.now c.add_reading.new.tallies c.loop-reading.tallies.len
    c.rows.ensures.back c.rows.ensures.found c.rows.ensures.none
    c.loop-reading-test.true c.loop-reading.invariant c.deref_mut.ensures.value c.add_reading.ensures c.add_reading.auto.tallies long
