-- The opening, and what is known at the end.
use Rattle.std.proofs.Common.{◌≡◌, ℕ, subst, zero, suc, ◌+◌, ◌<◌, true, List, [], ◌∷◌, length, get_or, map, take, sym, refl, ap, ◌∙◌, arith}
use Rattle.std.specs.Prelude.{slice_index_or, ◌*◌, ◌/◌, ◌%◌}
use mathlib.Core.Option.{some, some-injective, some-ne-none}
use lib.ListN.{get_elem?}
use Rattle.atomic_table.specs.Table.{opening, Final, Seen}
use Rattle.pfs_switches.specs.declared.view.View.{View}
use Rattle.pfs_switches.specs.SharedKnowledge.{IsTold, IsClosed}
use Rattle.pfs_switches.specs.History.{version, flags_at}
use Rattle.pfs_switches.specs.Knowledge.{whole, handed}
use Rattle.pfs_switches.specs.OpeningWords.{IsOpening, parts}
use Rattle.pfs_switches.specs.Rule.{Fits, Ruled}
use Rattle.pfs_switches.proofs.RuleSteps.{writer_here}
use Rattle.pfs_switches.proofs.MeetKnowledge.{told}
use Rattle.pfs_switches.proofs.StepNumbers.{numbers_first}
use Rattle.pfs_switches.proofs.ViewFacts.{length_zeros, zeros_at}

first_fits : (start : List ℕ) → Fits start [] (whole start)
first_fits start = record {
  start_is = refl;
  wide = length_zeros (length start);
  seen = λ r. let z = zeros_at (length start) r in omega arith;
  first = λ r. omega arith;
  loads = tt;
  meets = tt;
  order = record { places = tt; meets = tt; rising = tt; above = tt; own = λ _. (tt, tt) };
}

only_first : (start : List ℕ) (j : ℕ) (u : View) → get_elem? (whole start ∷ []) j ≡ some u → j ≡ 0
only_first start zero u e = refl
only_first start (suc j) u e = absurd (some-ne-none u (sym e))

only_fits : (start : List ℕ) (j : ℕ) (u : View) → get_elem? (whole start ∷ []) j ≡ some u → Fits start [] u
only_fits start zero u e = subst (Fits start []) (some-injective _ _ e) (first_fits start)
only_fits start (suc j) u e = absurd (some-ne-none u (sym e))

pub opens : (S : Type 0) (start : List ℕ) → IsOpening start → Ruled {S = S} start (opening start [] (whole start))
opens S start o = record {
  log = [];
  pen = 0;
  wide = refl;
  chain = tt;
  writer = (whole start, refl, record { writing = refl; here = refl; sets = refl; seen = λ r low. zeros_at (length start) r });
  only = λ j u e writes. only_first start j u e;
  seats = λ j u e live. only_fits start j u e;
  words = λ r low. record { word_is = omega arith; flags_fit = o.small r; version_fits = omega arith };
  numbers = numbers_first (whole start) refl refl refl refl;
}

row_at : (ws : List ℕ) (n r : ℕ) → r < n → r < length ws → slice_index_or (map parts (take n ws)) r (0, 0) ≡ parts (get_or ws r 0)
row_at ws zero r low h = absurd (omega arith)
row_at [] (suc n) r low h = absurd (omega arith)
row_at (w ∷ ws) (suc n) zero low h = refl
row_at (w ∷ ws) (suc n) (suc r) low h = row_at ws n r (omega arith) (omega arith)

parts_of : (n k f : ℕ) → n ≡ 65536 * k + f → f < 65536 → parts n ≡ (k, f)
parts_of n k f e h = let a : n / 65536 ≡ k = omega arith in let b : n % 65536 ≡ f = omega arith in λ i. (a i, b i)

pub closes : (S : Type 0) (start : List ℕ) (id : ℕ) (v w : View) (ws : List ℕ) (xs : List S) (count : ℕ) (rows : List (ℕ × ℕ)) → Final (Seen (Ruled {S = S} start) id (handed v w)) ws xs → v.live ≡ true → count + 1 ≡ length start → rows ≡ map parts (take count ws) → IsClosed start v w rows
closes S start id v w ws xs count rows final live count_is rows_are = let s = final.0 in let r = final.1.0 in let at = final.1.1 in let f = r.seats id (handed v w) at live in let own = writer_here S start s r id (handed v w) at refl in
    let log_is : r.log ≡ w.sets = sym own.sets in let wide : length ws ≡ length start = ap (length {A = ℕ}) (sym final.2) ∙ r.wide in
    let t : IsTold start (handed v w) (handed v w) = subst (λ z. IsTold z (handed v w) (handed v w)) f.start_is (told start r.log (handed v w) (handed v w) r.chain f own) in record {
      told = record { chain = t.chain; counts = t.counts; loads = t.loads; rising = t.rising; above = t.above; meets = t.meets; seen = λ q. let a = f.first q in let b = t.seen q in omega arith };
      rows_are = λ q low. let g = r.words q (omega arith) in
          ap (λ z. slice_index_or z q (0, 0)) rows_are ∙ (row_at ws count q (omega arith) (omega arith) ∙ (ap (λ z. parts (get_or z q 0)) (sym final.2) ∙ (parts_of (get_or s.words q 0) (version r.log q) (flags_at start r.log q (version r.log q)) g.word_is g.flags_fit
          ∙ ap (λ z. (version z q, flags_at start z q (version z q))) log_is)));
    }
