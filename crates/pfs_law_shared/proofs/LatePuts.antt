-- Where an event came late another session of the phase had put the greater ticket.
use Rattle.std.proofs.Common.{ℕ, ◌≡◌, ◌+◌, ◌<◌, ◌≤◌, ◌==◌, ◌&&◌, List, [], ◌∷◌, ◌++◌, inl, inr, refl, ap, sym, ◌∙◌, arith}
use Rattle.std.specs.Prelude.{nat_lt}
use Rattle.std.proofs.lemmas.Bool.{cases_lt}
use Rattle.pfs_levels.specs.Calls.{Call, Rings, IsRow}
use Rattle.pfs_levels.specs.CallOrder.{AllCalls}
use Rattle.pfs_levels.specs.CallOrder.{AreRising as CallsRise}
use Rattle.pfs_levels.specs.JointCalls.{one_if, At, changes_of, count, Draw, drawn, all_calls}
use Rattle.pfs_levels.specs.declared.answers.RingPut.TheVariants.{Late}
use Rattle.pfs_model.proofs.EachLists.{each_join}
use Rattle.pfs_model.specs.Causes.{long_row, kind_of_row}
use Rattle.pfs_model.specs.Chains.{Each}
use Rattle.pfs_law_joint.proofs.TicketSums.{drawn_sum, sum_one}
use Rattle.pfs_law_joint.specs.Phases.{IsShared}
use Rattle.pfs_law_joint.specs.Versions.{makes}
use Rattle.pfs_law_joint.proofs.MarkSums.{count_is}
use Rattle.pfs_law_joint.proofs.NamedVersions.{rows_named, rises_back}
use Rattle.pfs_law_joint.proofs.Sums.{one_low}
use Rattle.pfs_law_joint.proofs.VersionChains.{log_chain, there}
use Rattle.pfs_law_shared.proofs.AgreedCalls.{calls_front, calls_back}
use Rattle.pfs_law_shared.proofs.DrawnTickets.{draws_add}
use Rattle.pfs_law_shared.proofs.PhaseCounts.{all_over as over_actors}
use Rattle.pfs_law_shared.proofs.PhaseWalks.{over, over_then}
use Rattle.pfs_law_shared.proofs.PrintedPuts.{IsTold, calls_join}
use Rattle.pfs_law_shared.proofs.TicketedPuts.{word_of, rungs, rungs_then, rungs_add, AreTicketed, ticketed_back, IsBlank, times_drawn, rungs_low, rungs_own, later_none, earlier_none, drawn_of, made_low, opens_blank}

-- of many actors
told_blank : (actors : List (List Call)) → AllCalls IsTold actors → Each IsBlank (all_calls actors)
unfolding all_calls
told_blank [] a = tt
told_blank (calls ∷ actors) a = each_join IsBlank calls (all_calls actors) a.0.1 (told_blank actors a.1)

module _ (row ticket version : ℕ) where
  abbrev at_version : List Call → ℕ
  at_version calls = rungs row ticket (λ k. k == version) calls

  abbrev drawings : List Call → ℕ
  drawings calls = times_drawn (kind_of_row row) ticket calls

  over_few : (actors : List (List Call)) → AllCalls IsTold actors → over at_version actors ≤ over drawings actors
  over_few [] a = omega arith
  over_few (calls ∷ actors) a = omega (arith, rungs_low row ticket (λ k. k == version) calls a.0.0, over_few actors a.1)

  pub over_own : (actors : List (List Call)) → AllCalls IsTold actors → 0 < over at_version actors → row ≡ long_row (kind_of_row row) ticket
  over_own [] a some = absurd (omega (arith, some))
  over_own (calls ∷ actors) a some = elim (cases_lt 0 (at_version calls)) [
    | inl more ↦ rungs_own row ticket (λ k. k == version) calls a.0.0 more
    | inr none ↦ over_own actors a.1 (omega (arith, some, none))
  ]

-- which tickets were drawn
pub record WereDrawn (kind : ℕ) (actors : List (List Call)) (next : ℕ) : Type 0 where
  pub tickets : (ticket : ℕ) → over (times_drawn kind ticket) actors ≡ one_if (nat_lt ticket next)

low_if : (ticket first : ℕ) → one_if (nat_lt ticket first) ≡ 0 → first ≤ ticket
low_if ticket first e = grind (arith, e)

high_none : (ticket first : ℕ) → first ≤ ticket → one_if (nat_lt ticket first) ≡ 0
high_none ticket first low = grind (arith, low)

-- of a call of one of the actors of a phase
module _ (flags : List ℕ) (before front behind : List (List Call)) (later earlier : List Call) (row greater version : ℕ) (put : List ℕ) where
  abbrev call : Call
  call = Rings row put (Late greater version)

  abbrev own : List Call
  own = later ++ call ∷ earlier

  abbrev now : List (List Call)
  now = front ++ own ∷ behind

  abbrev kind : ℕ
  kind = kind_of_row row

  module _ (shared : IsShared flags before now) (told_now : AllCalls IsTold now) (told_before : AllCalls IsTold before) (first : ℕ) (begun : WereDrawn kind before first)
      (is_row : IsRow row) (holds : word_of (shared.content row version) ≡ greater + 1) (had : version ≤ count (changes_of (all_calls (now ++ before))) row) where
    abbrev here : List Call → ℕ
    here calls = at_version row greater version calls

    told_own : IsTold own
    told_own = (calls_back IsTold front (own ∷ behind) told_now).0

    rise_own : CallsRise own
    rise_own = (calls_back CallsRise front (own ∷ behind) (calls_front CallsRise now before shared.order.rising)).0

    rise_here : CallsRise (call ∷ earlier)
    rise_here = rises_back later (call ∷ earlier) rise_own

    ticketed_here : AreTicketed (call ∷ earlier)
    ticketed_here = ticketed_back later (call ∷ earlier) told_own.0

    up : 0 < version
    up = elim (cases_lt 0 version) [
      | inl more ↦ more
      | inr none ↦
          let zero : version ≡ 0 = omega (arith, none) in
          let blank : word_of (shared.content row version) ≡ 0 = ap (λ z. word_of (shared.content row z)) zero ∙ (ap word_of (shared.joint.opens row is_row.0 is_row.1) ∙ opens_blank row) in
          absurd (omega (arith, holds, blank))
    ]

    -- the version was made by a put of a ring
    all_here : 0 < over here (now ++ before)
    all_here =
        let h : At → ℕ = λ x. one_if (makes row version x) in
        let many : count (changes_of (all_calls (now ++ before))) row ≡ count shared.log row = count_is shared.log (changes_of (all_calls (now ++ before))) row shared.joint.once in
        let one = log_chain shared.log row version shared.joint.chain in
        let is = there version (count shared.log row) up (omega (arith, had, many)) in
        let low = made_low flags shared.content shared.log shared.sets row version greater holds (all_calls (now ++ before)) shared.joint.agrees (told_blank (now ++ before) (calls_join IsTold now before told_now told_before)) in
        omega (arith, shared.joint.once h, one, is, low, over_actors here (rungs_add row greater (λ k. k == version)) (now ++ before))

    -- not by the actor itself
    own_none : here own ≡ 0
    own_none =
        let top = rows_named [] earlier call row version rise_here (refl, refl) in
        let a = later_none row greater version later (call ∷ earlier) rise_own top in
        let b = earlier_none row greater (word_of put) (λ k. k == version) earlier ticketed_here.0.0 ticketed_here.0.1 ticketed_here.1 rise_here.1 in
        omega (arith, a, b, rungs_then row greater (λ k. k == version) later (call ∷ earlier))

    -- nor in an earlier phase: the ticket of the event was drawn in this one
    begun_late : first ≤ greater
    begun_late =
        let d = drawn_of row (word_of put) earlier ticketed_here.0.0 in
        let h : Draw → ℕ = λ x. one_if ((x.kind == kind) && (x.ticket == d.ticket)) in
        let t : List Call → ℕ = times_drawn kind d.ticket in
        let sum = draws_add h in
        let all : over t (now ++ before) ≡ one_if (nat_lt d.ticket (drawn shared.draws kind)) =
        sym (over_actors t sum (now ++ before)) ∙ (shared.joint.draws_once h ∙ (drawn_sum kind (λ n. n == d.ticket) shared.draws shared.joint.tickets ∙ sum_one d.ticket (drawn shared.draws kind))) in
        let low = low_if d.ticket first (omega (
          arith,
          begun.tickets d.ticket,
          all,
          one_low (nat_lt d.ticket (drawn shared.draws kind)),
          over_then t now before,
          over_then t front (own ∷ behind),
          sum.both later (call ∷ earlier),
          sum.both (call ∷ []) earlier,
          d.drawn,
        )) in
        omega (arith, low, d.word_is, ticketed_here.0.1)

    before_none : over here before ≡ 0
    before_none = omega (arith, over_few row greater version before told_before, begun.tickets greater, high_none greater first begun_late)

    pub others_here : 0 < over here (front ++ behind)
    others_here = omega (arith, all_here, own_none, before_none, over_then here now before, over_then here front (own ∷ behind), over_then here front behind)

    pub others_own : row ≡ long_row kind greater
    others_own =
        over_own row greater version (front ++ behind) (calls_join IsTold front behind (calls_front IsTold front (own ∷ behind) told_now) (calls_back IsTold front (own ∷ behind) told_now).1) others_here
