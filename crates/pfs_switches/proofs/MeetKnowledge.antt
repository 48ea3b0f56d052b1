-- What a seat and the writer in one learn.
use Rattle.std.proofs.Common.{◌≡◌, ℕ, subst, List, get_or, sym, ap, ◌∙◌, arith}
use Rattle.pfs_switches.specs.declared.view.Setting.{Setting}
use Rattle.pfs_switches.specs.declared.view.View.{View}
use Rattle.pfs_switches.specs.SharedKnowledge.{IsTold}
use Rattle.pfs_switches.specs.History.{Each, version, IsChain}
use Rattle.pfs_switches.specs.Knowledge.{met, gathered, loaded}
use Rattle.pfs_switches.specs.Rule.{IsLoad, IsMeet, Fits, IsWriter}
use Rattle.pfs_switches.proofs.HistoryFacts.{each_map}

-- of a seat that fits the history that the writer knows
pub told : (start : List ℕ) (log : List Setting) (v w : View) → IsChain log → Fits start log v → IsWriter start log w → IsTold v.start v w
told start log v w chain f own = let log_is : log ≡ w.sets = sym own.sets in subst (λ z. IsTold z v w) (sym f.start_is) record {
  chain = subst IsChain log_is chain;
  counts = λ r low. own.seen r low ∙ ap (λ z. version z r) log_is;
  loads = subst (λ z. Each (IsLoad start z (version z)) v.loads) log_is (each_map (IsLoad start log (λ q. get_or v.seen q 0)) (IsLoad start log (version log))
      (λ x g. let b = g.below in let c = f.seen x.word in record { below = omega arith; flags_are = g.flags_are; least_is = g.least_is; first_is = g.first_is }) v.loads f.loads);
  rising = f.order.rising;
  above = f.order.above;
  meets = subst (λ z. Each (IsMeet start z (version z)) v.meets) log_is (each_map (IsMeet start log (λ q. get_or v.seen q 0)) (IsMeet start log (version log))
      (λ m g. record { below = λ q. let b = g.below q in let c = f.seen q in omega arith; least_is = g.least_is; start_is = g.start_is }) v.meets f.meets);
  seen = λ r. let b = f.seen r in let e = ap (λ z. version z r) log_is in omega arith;
}

-- of the two that met
pub told_met : (start : List ℕ) (v w : View) → IsTold start (gathered v w) (gathered v w) → IsTold start (met v w) w
told_met start v w t = record { chain = t.chain; counts = t.counts; loads = t.loads; rising = t.rising; above = t.above; meets = t.meets; seen = t.seen }

pub told_checked : (start : List ℕ) (v w : View) (q k flags : ℕ) → IsTold start (loaded (gathered v w) q k flags) (gathered v w) → IsTold start (loaded (met v w) q k flags) w
told_checked start v w q k flags t = record { chain = t.chain; counts = t.counts; loads = t.loads; rising = t.rising; above = t.above; meets = t.meets; seen = t.seen }
