-- How many additions to the row of the texts without a place are told behind ends: one for each digested statement
-- without a place.
use Rattle.std.proofs.Common.{◌≡◌, refl, ℕ, ◌+◌, ◌*◌, ◌<◌, ◌==◌, ◌&&◌, Bool, true, false, cond, List, [], ◌∷◌, ◌++◌, length, filter, Option, Some, None, sym, ap, subst, ◌∙◌, arith}
use Rattle.std.specs.Prelude.{is_none}
use Rattle.pfs_event.specs.Verdicts.{is_let_through}
use Rattle.pfs_event.specs.declared.entry.Entry.{Entry}
use Rattle.pfs_event.specs.declared.entry.Entry.TheVariants as says
use Rattle.pfs_event.specs.declared.verdict.Verdict.{Verdict}
use Rattle.pfs_event.specs.declared.verdict.Verdict.TheVariants.{Attributed}
use Rattle.pfs_model.specs.EntryAsks.{is_head, cell_row, digest_row}
use Rattle.pfs_model.specs.Chains.{Each, times}
use Rattle.pfs_model.specs.EntryPlaces.{Block, Placed, places, IsShaped}
use Rattle.pfs_model.specs.Puts.{Due, dues_at_end, behind_it, ArePaid, IsBrought, AreBroughtBehind}
use Rattle.pfs_model.specs.SetupFlags.{is_digested}
use Rattle.pfs_model.specs.Shapes.{counted_slot}
use Rattle.pfs_model.specs.declared.lines.Opened.{Opened}
use Rattle.pfs_runs.specs.PhaseFinals.{ends_events, is_unplaced, is_digest_lost}
use Rattle.pfs_law_conservation.proofs.PhaseEntries.{blocks_to, fronts, front_shaped}
use Rattle.pfs_law_conservation.proofs.HomeRows.{IsLowPlace, IsLowEnded}
use Rattle.pfs_law_conservation.proofs.RunEntries.{run_ended_low}
use Rattle.pfs_law_conservation.proofs.AdditionSources.{is_source, in_reach}
use Rattle.pfs_law_conservation.proofs.EventOffers.{AreFedPlaces, all_fed, brought_front, feeds_at, owes_to, owed, no_feed, head_feeds, paid_feeds, tail_ended, owed_end}
use Rattle.pfs_law_conservation.proofs.RowLines.{bit_yes, bit_no}
use Rattle.pfs_law_conservation.specs.RunEvents.{Ended, ended_at, ended_first, all_ended}
use Rattle.pfs_law_conservation.specs.Premises.{AreKept, IsOrderly}
use Rattle.pfs_law_conservation.specs.RunTerms.{Run, entries_to}
use Rattle.pfs_law_summaries.proofs.EndLines.{IsOfLine, Lined, all_lined}

-- a digested statement without a place
abbrev pub lacks_place : (ℕ → ℕ → ℕ) → Ended → Bool
lacks_place flags one = is_digested flags one.context.slot one.event && is_none one.event.subject.digest

-- ---- what an end owes to the row

-- the row of a cell is another
cell_apart : (slot : Option ℕ) (verdict : Verdict) (event : Opened) → (event.subject.cell < 64) × IsLowPlace slot → (cell_row (counted_slot slot verdict) event.subject.cell == 8385) ≡ false
cell_apart slot verdict event l = by (counted_slot slot verdict) (low verdict) where
  low : (v : Verdict) → IsLowPlace (counted_slot slot v)
  low Attributed = l.1
  low _ = tt

  apart : (n : ℕ) → n < 8385 → (n == 8385) ≡ false
  apart n h = grind (arith, h)

  by : (o : Option ℕ) → IsLowPlace o → (cell_row o event.subject.cell == 8385) ≡ false
  by None h = let c : event.subject.cell < 64 = l.0 in apart (8321 + event.subject.cell) (omega (arith, c))
  by (Some n) h = let c : event.subject.cell < 64 = l.0 in let s : n < 32 = h in apart (129 + 64 * n + event.subject.cell) (omega (arith, c, s))

null_only : (digest : Option ℕ) → (digest_row digest == 8385) ≡ is_none digest
null_only None = refl
null_only (Some place) = apart (8386 + place) (omega arith) where
  apart : (n : ℕ) → 8385 < n → (n == 8385) ≡ false
  apart n h = grind (arith, h)

module _ (flags : ℕ → ℕ → ℕ) where
  owes : (earlier : List Placed) (p : Placed) (event : Opened) (others : List Opened) (consumers thread : Option ℕ) → (event.subject.cell < 64) × IsLowPlace p.context.slot
      → owed 8385 (dues_at_end flags earlier p (event ∷ others) consumers thread) ≡ cond {A = ℕ} (is_digested flags p.context.slot event && is_none event.subject.digest) 1 0
  owes earlier p event others consumers thread low =
      owed_end flags 8385 earlier p event others consumers thread
      ∙ (ap (λ b. cond {A = ℕ} (is_let_through event.verdict && b) 1 0 + cond {A = ℕ} (is_digested flags p.context.slot event && (digest_row event.subject.digest == 8385)) 1 0) (cell_apart p.context.slot event.verdict event low)
      ∙ (none (is_let_through event.verdict) (cond {A = ℕ} (is_digested flags p.context.slot event && (digest_row event.subject.digest == 8385)) 1 0)
      ∙ ap (λ b. cond {A = ℕ} (is_digested flags p.context.slot event && b) 1 0) (null_only event.subject.digest))) where
        none : (b : Bool) (n : ℕ) → cond {A = ℕ} (b && false) 1 0 + n ≡ n
        none true n = omega arith
        none false n = omega arith

  -- ---- along all entries

  abbrev Without : List Placed → ℕ
  Without ps = times (lacks_place flags) (all_ended ps)

  data Mode : Type 0 where
    Idle : Mode
    Owing : List Due → Mode

  -- in a line that ends events an addition stands behind an end alone
  abbrev IsIn : Mode → Bool → Bool → List Placed → Type 0
  IsIn Idle hand ends ps = ends ≡ true → hand ≡ false
  IsIn (Owing dues) hand ends ps = (ends ≡ true) × ArePaid dues (behind_it ps)

  abbrev due_in : Mode → ℕ
  due_in Idle = 0
  due_in (Owing dues) = owed 8385 dues

  paid_none : (dues : List Due) → ArePaid dues [] → dues ≡ []
  paid_none [] a = refl
  paid_none (due ∷ dues) a = absurd a

  nothing_due : (mode : Mode) (hand ends : Bool) (ps : List Placed) → behind_it ps ≡ [] → IsIn mode hand ends ps → due_in mode ≡ 0
  nothing_due Idle hand ends ps e i = refl
  nothing_due (Owing dues) hand ends ps e i = ap (owed 8385) (paid_none dues (subst (ArePaid dues) e i.1))

  -- in a line that ends events, what is added to the row
  in_line : (e : Entry) → is_unplaced true e ≡ feeds_at 8385 e
  in_line (says.Add row version) = refl
  in_line (says.Held row first second) = refl
  in_line _ = refl

  in_other : (e : Entry) → is_unplaced false e ≡ false
  in_other (says.Add row version) = refl
  in_other (says.Held row first second) = refl
  in_other _ = refl

  not_fed : (p : Placed) → feeds_at 8385 p.entry ≡ false → is_digest_lost p ≡ false
  not_fed p f = at (ends_events p.line) where
    at : (b : Bool) → is_unplaced b p.entry ≡ false
    at true = in_line p.entry ∙ f
    at false = in_other p.entry

  each_back : (xs ys : List Ended) → Each IsLowEnded (xs ++ ys) → Each IsLowEnded ys
  each_back [] ys h = h
  each_back (x ∷ xs) ys h = each_back xs ys h.1

  arrives : (earlier : List Placed) (p : Placed) (opened : List Opened) (consumers thread : Option ℕ) (ps : List Placed) → Each IsLowEnded (ended_first p opened ++ all_ended ps)
      → owed 8385 (dues_at_end flags earlier p opened consumers thread) + Without ps ≡ times (lacks_place flags) (ended_first p opened ++ all_ended ps)
  arrives earlier p [] consumers thread ps low = omega arith
  arrives earlier p (event ∷ others) consumers thread ps low = ap (λ n. n + Without ps) (owes earlier p event others consumers thread low.0)

  walk_lost : (earlier ps : List Placed) (hand ends : Bool) (mode : Mode) → Lined ends ps → AreFedPlaces hand ps → AreBroughtBehind flags earlier ps → Each IsLowEnded (all_ended ps) → IsIn mode hand ends ps
      → times is_digest_lost ps ≡ due_in mode + Without ps
  walk_lost earlier [] hand ends mode n f b low i = (let z : due_in mode ≡ 0 = nothing_due mode hand ends [] refl i in omega (arith, z))
  walk_lost earlier (p ∷ ps) hand ends mode n f b low i =
      on (is_head p.entry) refl mode i (λ next k. walk_lost (p ∷ earlier) ps (in_reach hand p.entry) (ends_events p.line) next n.2 f.1 b.1 (each_back (ended_at p p.entry) (all_ended ps) low) k) where
        Go : Type 0
        Go = (next : Mode) → IsIn next (in_reach hand p.entry) (ends_events p.line) ps → times is_digest_lost ps ≡ due_in next + Without ps

        Goal : Mode → Type 0
        Goal mode = cond {A = ℕ} (is_digest_lost p) 1 0 + times is_digest_lost ps ≡ due_in mode + times (lacks_place flags) (ended_at p p.entry ++ all_ended ps)

        zero_plus : (n : ℕ) → 0 + n ≡ n
        zero_plus n = omega arith

        -- with which a line begins
        first : (e : Entry) → p.entry ≡ e → is_head e ≡ true → Go → times is_digest_lost ps ≡ times (lacks_place flags) (ended_at p e ++ all_ended ps)
        first (says.End event last consumers thread) q h go =
            go (Owing (dues_at_end flags earlier p p.context.opened consumers thread)) (subst (IsOfLine (ends_events p.line)) q n.1, subst (λ z. IsBrought flags earlier p z (behind_it ps)) q b.0)
            ∙ arrives earlier p p.context.opened consumers thread ps (subst (λ z. Each IsLowEnded (ended_at p z ++ all_ended ps)) q low)
        first says.Settle q h go = go Idle (λ z. absurd (let k : true ≡ false = sym z ∙ subst (IsOfLine (ends_events p.line)) q n.1 in cc)) ∙ zero_plus (Without ps)
        first (says.Connect action thread account user host) q h go = go Idle (λ z. ap (in_reach hand) q) ∙ zero_plus (Without ps)
        first (says.Start event verdict consumers thread class table) q h go = go Idle (λ z. ap (in_reach hand) q) ∙ zero_plus (Without ps)
        first (says.Act action) q h go = go Idle (λ z. ap (in_reach hand) q) ∙ zero_plus (Without ps)
        first says.Query q h go = go Idle (λ z. ap (in_reach hand) q) ∙ zero_plus (Without ps)
        first (says.Error number) q h go = go Idle (λ z. ap (in_reach hand) q) ∙ zero_plus (Without ps)
        first _ q h go = absurd (cc)

        still : is_head p.entry ≡ false → Without ps ≡ times (lacks_place flags) (ended_at p p.entry ++ all_ended ps)
        still h = sym (ap (λ (z : List Ended). times (lacks_place flags) (z ++ all_ended ps)) (tail_ended p p.entry h))

        hand_on : is_head p.entry ≡ false → in_reach hand p.entry ≡ hand
        hand_on h = ap (λ z. cond z (is_source p.entry) hand) h

        -- any other
        next : (mode : Mode) → is_head p.entry ≡ false → IsIn mode hand ends (p ∷ ps) → Go → Goal mode
        next Idle h i go =
            let o : cond {A = ℕ} (is_digest_lost p) 1 0 ≡ 0 = bit_no (is_digest_lost p) (quiet (ends_events p.line) refl) in
            let g : times is_digest_lost ps ≡ 0 + Without ps = go Idle (λ z. hand_on h ∙ i (sym (n.0 h) ∙ z)) in
            let s : Without ps ≡ times (lacks_place flags) (ended_at p p.entry ++ all_ended ps) = still h in
            omega (arith, o, g, s) where
              quiet : (b : Bool) → ends_events p.line ≡ b → is_digest_lost p ≡ false
              quiet true q = not_fed p (no_feed 8385 p.entry (f.0 (i (sym (n.0 h) ∙ q))))
              quiet false q = ap (λ z. is_unplaced z p.entry) q ∙ in_other p.entry
        next (Owing dues) h i go = pays dues (subst (λ z. ArePaid dues (cond z [] (p.entry ∷ behind_it ps))) h i.1) where
          pays : (dues : List Due) → ArePaid dues (p.entry ∷ behind_it ps) → Goal (Owing dues)
          pays [] a = absurd a
          pays (due ∷ dues) a =
              let g : times is_digest_lost ps ≡ owed 8385 dues + Without ps = go (Owing dues) (n.0 h ∙ i.0, a.1) in
              let o : cond {A = ℕ} (is_digest_lost p) 1 0 ≡ cond {A = ℕ} (owes_to 8385 due) 1 0
              = ap (λ z. cond {A = ℕ} z 1 0) (ap (λ z. is_unplaced z p.entry) (n.0 h ∙ i.0) ∙ (in_line p.entry ∙ paid_feeds 8385 due p.entry a.0)) in
              let s : Without ps ≡ times (lacks_place flags) (ended_at p p.entry ++ all_ended ps) = still h in
              omega (arith, g, o, s)

        on : (x : Bool) → is_head p.entry ≡ x → (mode : Mode) → IsIn mode hand ends (p ∷ ps) → Go → Goal mode
        on true h mode i go =
            let z : due_in mode ≡ 0 = nothing_due mode hand ends (p ∷ ps) (ap (λ z. cond z [] (p.entry ∷ behind_it ps)) h) i in
            let o : cond {A = ℕ} (is_digest_lost p) 1 0 ≡ 0 = bit_no (is_digest_lost p) (not_fed p (head_feeds 8385 p.entry h)) in
            let s : times is_digest_lost ps ≡ times (lacks_place flags) (ended_at p p.entry ++ all_ended ps) = first p.entry refl h go in
            omega (arith, z, o, s)
        on false h mode i go = next mode h i go

  pub lost_are : (blocks : List Block) → IsShaped blocks → AreBroughtBehind flags [] (places blocks) → Each IsLowEnded (all_ended (places blocks)) → times is_digest_lost (places blocks) ≡ times (lacks_place flags) (all_ended (places blocks))
  lost_are blocks s b low = walk_lost [] (places blocks) false false Idle (all_lined blocks s false) (all_fed blocks s) b low (λ q. absurd (cc)) ∙ zero_plus _ where
    zero_plus : (n : ℕ) → 0 + n ≡ n
    zero_plus n = omega arith

-- up to a phase of a run
pub run_lost : (run : Run) (phase : ℕ) → AreKept run → IsOrderly run → times is_digest_lost (entries_to run phase) ≡ times (lacks_place run.flags) (all_ended (entries_to run phase))
run_lost run phase kept orderly =
    let front = fronts phase run.blocks kept.rules.shaped in
    subst (λ ps. times is_digest_lost ps ≡ times (lacks_place run.flags) (all_ended ps)) (sym front.same)
    (lost_are run.flags (blocks_to phase run.blocks) (front_shaped phase run.blocks kept.rules.shaped)
    (brought_front run.flags [] (places (blocks_to phase run.blocks)) front.rest front.headed (subst (AreBroughtBehind run.flags []) front.all kept.brought))
    (subst (λ ps. Each IsLowEnded (all_ended ps)) front.same (run_ended_low run kept orderly phase)))

pub times_filter : (p q : Ended → Bool) → ((one : Ended) → p one ≡ q one) → (xs : List Ended) → times p xs ≡ length (filter q xs)
times_filter p q same [] = refl
times_filter p q same (x ∷ xs) = at (q x) (same x) (times_filter p q same xs) where
  at : (b : Bool) → p x ≡ b → times p xs ≡ length (filter q xs) → cond {A = ℕ} (p x) 1 0 + times p xs ≡ length (cond b (x ∷ filter q xs) (filter q xs))
  at true e r = (let o : cond {A = ℕ} (p x) 1 0 ≡ 1 = bit_yes (p x) e in omega (arith, o, r))
  at false e r = (let o : cond {A = ℕ} (p x) 1 0 ≡ 0 = bit_no (p x) e in omega (arith, o, r))
