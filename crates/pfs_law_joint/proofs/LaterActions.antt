-- The actions of a phase have greater numbers than those of the phases before: each ends within it, and no number twice.
use Rattle.std.proofs.Common.{ℕ, ◌≡◌, ◌+◌, ◌<◌, ◌≤◌, ◌==◌, Bool, true, false, ◌&&◌, List, [], ◌∷◌, length, inl, inr, refl, ap, sym, ◌∙◌, arith, eq-eqb, eqb-true}
use Rattle.std.specs.Prelude.{nat_lt, nat_le, ◌⊎◌}
use Rattle.std.proofs.lemmas.Bool.{cases_lt, ltb-true, leb-true}
use Rattle.pfs_lemmas.proofs.Bools.{and_first, and_second}
use Rattle.pfs_levels.specs.declared.answers.Added.TheVariants.{Counted, Held}
use Rattle.pfs_levels.specs.declared.answers.RingPut.TheVariants.{Done, Busy, Late}
use Rattle.pfs_levels.specs.Calls.{Call, Adds, Rings, Reads, Loads, Draws, Takes, Puts, Frees, Sets, Enters, Leaves, Meets, action_in, after_in}
use Rattle.pfs_levels.specs.JointCalls.{total, one_if}
use Rattle.pfs_levels.specs.CallOrder.{Mark, mark, marks_of, all_marks, word_marks_of, all_word_marks, marked, AllCalls, is_past, reaching, published}
use Rattle.pfs_law_joint.specs.Phases.{IsShared, HaveEnded, BeginOutside, AreWhole, LaterLaw}
use Rattle.pfs_law_joint.proofs.Sums.{total_then, one_low, picked}
use Rattle.pfs_law_joint.proofs.VersionChains.{mark_chain, there}
use Rattle.pfs_law_joint.proofs.MarkSums.{marks_then, marked_same}

abbrev acts : ℕ → List Mark → ℕ
acts number log = total (λ p. one_if (p.action == number)) log

-- an action that changed something is under way, or has ended
abbrev IsActing : ℕ → List Call → Type 0
IsActing number calls = (action_in calls ≡ number) ⊎ (0 < published (marks_of calls) 0 number)

kept : (x : Mark) (rest : List Mark) (number : ℕ) (P : Type 0) → P ⊎ (0 < published rest 0 number) → P ⊎ (0 < published (x ∷ rest) 0 number)
unfolding total
kept x rest number P (inl s) = inl s
kept x rest number P (inr p) = inr (omega (arith, p))

row_mark : (number n w : ℕ) (x : Mark) (rest : List Mark) → x.action ≡ n → (0 < acts number rest + w → (n ≡ number) ⊎ (0 < published rest 0 number))
    → 0 < acts number (x ∷ rest) + w → (n ≡ number) ⊎ (0 < published (x ∷ rest) 0 number)
unfolding total
row_mark number n w x rest e hyp up = at (x.action == number) refl up where
  at : (b : Bool) → (x.action == number) ≡ b → 0 < (one_if b + acts number rest) + w → (n ≡ number) ⊎ (0 < published (x ∷ rest) 0 number)
  at true q up = inl (sym e ∙ eqb-true x.action number q)
  at false q up = kept x rest number (n ≡ number) (hyp (omega (arith, up)))

word_mark : (number n t : ℕ) (P : Type 0) (x : Mark) (rest : List Mark) → x.action ≡ n → (0 < t + acts number rest → (n ≡ number) ⊎ P) → 0 < t + acts number (x ∷ rest) → (n ≡ number) ⊎ P
unfolding total
word_mark number n t P x rest e hyp up = at (x.action == number) refl up where
  at : (b : Bool) → (x.action == number) ≡ b → 0 < t + (one_if b + acts number rest) → (n ≡ number) ⊎ P
  at true q up = inl (sym e ∙ eqb-true x.action number q)
  at false q up = hyp (omega (arith, up))

-- an action's end makes its number a version of row 0
ends_here : (number n after w : ℕ) (rest : List Mark) → (0 < acts number rest + w → (n ≡ number) ⊎ (0 < published rest 0 number))
    → 0 < acts number (mark 0 n true n after ∷ rest) + w → 0 < published (mark 0 n true n after ∷ rest) 0 number
unfolding total
ends_here number n after w rest hyp up = at (n == number) refl up where
  at : (b : Bool) → (n == number) ≡ b → 0 < (one_if b + acts number rest) + w → 0 < published (mark 0 n true n after ∷ rest) 0 number
  at true q up = omega (arith, ap one_if q)
  at false q up = elim (hyp (omega (arith, up))) [
    | inl s ↦ omega (arith, ap one_if (eq-eqb n number s))
    | inr p ↦ omega (arith, p)
  ]

not_entered : (number n m : ℕ) (P : Type 0) → 0 < number → n ≡ 0 → (n ≡ number) ⊎ P → (m ≡ number) ⊎ P
not_entered number n m P up out (inl s) = absurd (omega (arith, up, out, s))
not_entered number n m P up out (inr p) = inr p

acting : (number : ℕ) → 0 < number → (calls : List Call) → BeginOutside calls → 0 < acts number (marks_of calls) + acts number (word_marks_of calls) → IsActing number calls
unfolding total marks_of word_marks_of
acting number up [] out some = absurd (omega (arith, some))
acting number up (Adds at amount (Counted r v) ∷ calls) out some =
    row_mark number (action_in calls) (acts number (word_marks_of calls)) (mark r v true (action_in calls) (after_in calls)) (marks_of calls) refl (acting number up calls out.1) some
acting number up (Adds at amount (Held r v w) ∷ calls) out some = acting number up calls out.1 some
acting number up (Rings at content (Done v) ∷ calls) out some =
    row_mark number (action_in calls) (acts number (word_marks_of calls)) (mark at v true (action_in calls) (after_in calls)) (marks_of calls) refl (acting number up calls out.1) some
acting number up (Rings at content (Busy v w) ∷ calls) out some = acting number up calls out.1 some
acting number up (Rings at content (Late t v) ∷ calls) out some = acting number up calls out.1 some
acting number up (Reads at seen ∷ calls) out some = acting number up calls out.1 some
acting number up (Loads at v found ∷ calls) out some = acting number up calls out.1 some
acting number up (Draws kind ticket ∷ calls) out some = acting number up calls out.1 some
acting number up (Meets versions ∷ calls) out some = acting number up calls out.1 some
acting number up (Takes at v found ∷ calls) out some = acting number up calls out.1 some
acting number up (Puts at content v ∷ calls) out some =
    row_mark number (action_in calls) (acts number (word_marks_of calls)) (mark at v true (action_in calls) (after_in calls)) (marks_of calls) refl (acting number up calls out.1) some
acting number up (Frees at v ∷ calls) out some =
    row_mark number (action_in calls) (acts number (word_marks_of calls)) (mark at v false (action_in calls) (after_in calls)) (marks_of calls) refl (acting number up calls out.1) some
acting number up (Sets at to v ∷ calls) out some =
    word_mark number (action_in calls) (acts number (marks_of calls)) (0 < published (marks_of calls) 0 number) (mark at v true (action_in calls) (after_in calls)) (word_marks_of calls) refl (acting number up calls out.1) some
acting number up (Enters label labels ∷ calls) out some =
    not_entered number (action_in calls) (length labels + 1) (0 < published (marks_of calls) 0 number) up out.0 (acting number up calls out.1 some)
acting number up (Leaves ∷ calls) out some =
    inr (ends_here number (action_in calls) (after_in calls) (acts number (word_marks_of calls)) (marks_of calls) (acting number up calls out.1) some)

ended_own : (number : ℕ) → 0 < number → (calls : List Call) → AreWhole calls → 0 < acts number (marks_of calls) + acts number (word_marks_of calls) → 0 < published (marks_of calls) 0 number
ended_own number up calls whole some = at (acting number up calls whole.outside some) where
  at : IsActing number calls → 0 < published (marks_of calls) 0 number
  at (inl s) = absurd (omega (arith, up, whole.ended, s))
  at (inr p) = p

ended_all : (number : ℕ) → 0 < number → (now : List (List Call)) → AllCalls AreWhole now → 0 < acts number (all_marks now) + acts number (all_word_marks now) → 0 < published (all_marks now) 0 number
unfolding total all_marks all_word_marks
ended_all number up [] whole some = absurd (omega (arith, some))
ended_all number up (calls ∷ now) whole some =
    let test : Mark → ℕ = λ p. one_if (p.action == number) in
    let a = total_then test (marks_of calls) (all_marks now) in
    let b = total_then test (word_marks_of calls) (all_word_marks now) in
    let c = total_then (λ p. one_if ((p.row == 0) && p.puts && (p.version == number))) (marks_of calls) (all_marks now) in
    elim (cases_lt 0 (acts number (marks_of calls) + acts number (word_marks_of calls))) [
      | inl own ↦ omega (arith, ended_own number up calls whole.0 own, c)
      | inr none ↦ omega (arith, ended_all number up now whole.1 (omega (arith, some, a, b, none)), c)
    ]

-- and none of the numbers of the phases before is among them
module _ (flags : List ℕ) (before now : List (List Call)) (s : IsShared flags before now) (e : HaveEnded before) (whole : AllCalls AreWhole now) where
  not_twice : (number : ℕ) → 0 < number → number ≤ marked (all_marks before) 0 → 0 < acts number (all_marks now) + acts number (all_word_marks now) → ⊥
  not_twice number up low some =
      let test : Mark → ℕ = λ p. one_if ((p.row == 0) && p.puts && (p.version == number)) in
      let own = ended_all number up now whole some in
      let few : number ≤ marked e.marks 0 = omega (arith, low, marked_same (all_marks before) e.marks 0 e.once) in
      let old : published e.marks 0 number ≡ 1 = mark_chain e.marks 0 number e.chain ∙ there number (marked e.marks 0) up few in
      let all = mark_chain s.marks 0 number s.order.chain in
      omega (arith, own, old, all, one_low (nat_lt 0 number && nat_le number (marked s.marks 0)), marks_then test now before, e.once test, s.order.once test)

  record Passed (log : List Mark) : Type 0 where
    number : ℕ
    up : 0 < number
    low : number ≤ marked (all_marks before) 0
    some : 0 < acts number log

  passed : (row : ℕ) (log : List Mark) → 0 < reaching log row 0 (marked (all_marks before) 0) → Passed log
  passed row log some =
      let n = marked (all_marks before) 0 in
      let r = picked (λ p. is_past row n p && nat_le 0 p.version) log some in
      let past : is_past row n r.0 ≡ true = and_first (is_past row n r.0) (nat_le 0 r.0.version) r.1.0 in
      let acted : ((r.0.row == row) && nat_lt 0 r.0.action) ≡ true = and_first ((r.0.row == row) && nat_lt 0 r.0.action) (nat_le r.0.action n) past in
      record {
        number = r.0.action;
        up = ltb-true 0 r.0.action (and_second (r.0.row == row) (nat_lt 0 r.0.action) acted);
        low = leb-true r.0.action n (and_second ((r.0.row == row) && nat_lt 0 r.0.action) (nat_le r.0.action n) past);
        some = r.1.1 (λ y. y.action == r.0.action) (eq-eqb r.0.action r.0.action refl);
      }

  no_row : (row : ℕ) → reaching (all_marks now) row 0 (marked (all_marks before) 0) ≡ 0
  no_row row = elim (cases_lt 0 (reaching (all_marks now) row 0 (marked (all_marks before) 0))) [
    | inl some ↦ (let p = passed row (all_marks now) some in absurd (not_twice p.number p.up p.low (omega (arith, p.some))))
    | inr none ↦ omega (arith, none)
  ]

  no_word : (word : ℕ) → reaching (all_word_marks now) word 0 (marked (all_marks before) 0) ≡ 0
  no_word word = elim (cases_lt 0 (reaching (all_word_marks now) word 0 (marked (all_marks before) 0))) [
    | inl some ↦ (let p = passed word (all_word_marks now) some in absurd (not_twice p.number p.up p.low (omega (arith, p.some))))
    | inr none ↦ omega (arith, none)
  ]

pub later : LaterLaw
later = λ flags before now s e whole. record { rows = no_row flags before now s e whole; words = no_word flags before now s e whole }
