-- The lines of rows that pass a test: versions, numbers, and what an action prints.
use Rattle.std.proofs.Common.{◌≡◌, refl, ℕ, ◌+◌, ◌<◌, ◌≤◌, Bool, true, false, cond, nat_le, List, [], ◌∷◌, ◌++◌, length, take, sym, ap, subst, ◌∙◌, inl, inr, arith}
use Rattle.pfs_lemmas.proofs.Numbers.{le_self}
use Rattle.pfs_conservation.specs.RowChains.{Change}
use Rattle.pfs_conservation.specs.PrintedChanges.{Tagged, as_change, change_of, standing, changes_of, Stands, IsMove, action_of, Within}
use Rattle.pfs_conservation.specs.PrintedChanges.{Kind, Adds, Takes, Gives}
use Rattle.pfs_conservation.specs.Prints.{is_move, AreBy, Rises, printed_by}
use Rattle.pfs_event.specs.declared.entry.Entry.{Entry}
use Rattle.pfs_event.specs.declared.entry.Entry.TheVariants as says
use Rattle.pfs_model.specs.Actions.{is_acted}
use Rattle.pfs_model.specs.ActionAsks.{did, of_action}
use Rattle.pfs_model.specs.Chains.{Each, times, change_at, action_change, row_change, each_of, is_of, is_that, IsChained}
use Rattle.pfs_model.specs.EntryPlaces.{Placed, chosen, places, up_to_phase}
use Rattle.pfs_law_conservation.specs.Premises.{AreKept}
use Rattle.pfs_law_conservation.specs.RunTerms.{Run, entries_to, actions_to}
use Rattle.pfs_law_conservation.specs.KindLines.{lines_at, all_lines, lines_on}
use Rattle.pfs_law_conservation.proofs.LineVersions.{IsCells, AreCells, changes_counted, standing_few, chain_one, each_ranged}
use Rattle.pfs_law_conservation.proofs.PlaceFolds.{front_length, length_as}
use Rattle.pfs_law_conservation.proofs.ActionPhases.{no_did}
use Rattle.pfs_law_conservation.proofs.PrintedMoves.{prints, prints_on, printed_all, printed_on}
use Rattle.pfs_law_conservation.proofs.SessionVersions.{risen}
use Rattle.pfs_law_conservation.proofs.ActionJournals.{IsSaid, HasNumber, all_said, said_to, said_range, actor, actor_is}
use Rattle.pfs_law_conservation.proofs.RowLines.{sifted_changes, sifted_few, each_sifted, within_of, by_of, sifted_rises}
use Rattle.pfs_law_conservation.proofs.InfoTags.{IsLowTag, low_asked, each_did}
use Rattle.pfs_law_conservation.proofs.RingWrites.{IsHigh, all_high}

pub each_map : {A : Type 0} (P Q : A → Type 0) (xs : List A) → ((x : A) → P x → Q x) → Each P xs → Each Q xs
each_map P Q [] f h = tt
each_map P Q (x ∷ xs) f h = (f x h.0, each_map P Q xs f h.1)

pub each_both : {A : Type 0} (P Q : A → Type 0) (xs : List A) → Each P xs → Each Q xs → Each (λ x. P x × Q x) xs
each_both P Q [] h k = tt
each_both P Q (x ∷ xs) h k = ((h.0, k.0), each_both P Q xs h.1 k.1)

-- what is chosen passes, and keeps what holds of all
pub each_chosen : (P : Placed → Type 0) (test : Placed → Bool) (ps : List Placed) → Each P ps → Each (λ p. (test p ≡ true) × P p) (chosen test ps)
each_chosen P test [] h = tt
each_chosen P test (p ∷ ps) h = at (test p) refl (each_chosen P test ps h.1) where
  at : (b : Bool) → test p ≡ b → Each (λ p. (test p ≡ true) × P p) (chosen test ps) → Each (λ p. (test p ≡ true) × P p) (cond b (p ∷ []) [] ++ chosen test ps)
  at true q r = ((q, h.0), r)
  at false q r = r

length_join : {A : Type 0} (xs ys : List A) → length (xs ++ ys) ≡ length xs + length ys
length_join [] ys = omega arith
length_join (x ∷ xs) ys = let e : length (xs ++ ys) ≡ length xs + length ys = length_join xs ys in omega (arith, e)

chosen_few : {A : Type 0} (given : Entry → List A) (test : Placed → Bool) (ps : List Placed) → length (each_of given (chosen test ps)) ≤ length (each_of given ps)
chosen_few given test [] = omega arith
chosen_few given test (p ∷ ps) = at (test p) (chosen_few given test ps) where
  at : (b : Bool) → length (each_of given (chosen test ps)) ≤ length (each_of given ps) → length (each_of given (cond b (p ∷ []) [] ++ chosen test ps)) ≤ length (given p.entry ++ each_of given ps)
  at true l = omega (arith, l, length_join (given p.entry) (each_of given (chosen test ps)), length_join (given p.entry) (each_of given ps))
  at false l = omega (arith, l, length_join (given p.entry) (each_of given ps))

-- what holds of a line holds of the change that it is
pub stood : (P : Tagged → Type 0) (lines : List Tagged) (row version : ℕ) (change : Change) → Each P lines → Stands lines row version change → (line : Tagged) × (change_of line ≡ change) × P line
stood P [] row version change h s = absurd s
stood P (line ∷ lines) row version change h (inl s) = (line, s.1, h.0)
stood P (line ∷ lines) row version change h (inr s) = stood P lines row version change h.1 s

move_acts : (action : ℕ) (kind : Kind) → is_move kind ≡ true → action_of (as_change action kind) ≡ action
move_acts action (Adds events) m = absurd (cc)
move_acts action Takes m = refl
move_acts action (Gives from) m = refl

moves_is : (action : ℕ) (kind : Kind) → IsMove (as_change action kind) → is_move kind ≡ true
moves_is action (Adds events) m = absurd m
moves_is action Takes m = refl
moves_is action (Gives from) m = refl

-- what holds of each entry that acts holds of each move
acted_lines : (P : ℕ → ℕ → Type 0) (ps : List Placed) → Each (λ (p : Placed). is_acted p.entry ≡ true → P p.session p.context.action) ps
    → Each (λ (line : Tagged). is_move line.kind ≡ true → P line.session line.action) (all_lines ps)
acted_lines P [] h = tt
acted_lines P (p ∷ ps) h = by p.entry h.0 (acted_lines P ps h.1) where
  Rest : Type 0
  Rest = Each (λ (line : Tagged). is_move line.kind ≡ true → P line.session line.action) (all_lines ps)

  by : (e : Entry) → (is_acted e ≡ true → P p.session p.context.action) → Rest → Each (λ (line : Tagged). is_move line.kind ≡ true → P line.session line.action) (lines_at p e ++ all_lines ps)
  by (says.Add row version) a r = ((λ m. absurd (cc)), r)
  by (says.Take row version) a r = ((λ m. a refl), r)
  by (says.Give row version from) a r = ((λ m. a refl), r)
  by _ a r = r

module _ (test : ℕ → Bool) (high : (row : ℕ) → 8450 ≤ row → test row ≡ false) (low : (row : ℕ) → row < 129 → test row ≡ false) (run : Run) (phase : ℕ) (kept : AreKept run) where
  abbrev all : List Placed
  all = places run.blocks

  abbrev so_far : List Placed
  so_far = entries_to run phase

  abbrev count : ℕ
  count = length (each_of action_change so_far)

  abbrev lines : List Tagged
  lines = lines_on test (all_lines so_far)

  pub said : Each (HasNumber all) all
  said = all_said run.blocks kept.rules.shaped

  -- an entry that acts stands under its action's number
  acting : (p : Placed) → HasNumber all p → is_acted p.entry ≡ true → IsSaid all p.session p.phase p.context.action
  acting p (inl n) a = let f : is_acted p.entry ≡ false = n.1 in absurd (cc)
  acting p (inr s) a = s

  pub first : (p : Placed) → HasNumber all p → is_acted p.entry ≡ true → 0 < p.context.action
  first p h a =
      let r : (1 ≤ p.context.action) × (p.context.action ≤ length (each_of action_change (up_to_phase p.phase all))) = said_range p.phase p.session p.phase p.context.action all kept.rules.joint.ordered.numbers (said_to p.phase p.session p.phase p.context.action all (le_self p.phase) (acting p h a)) in
      let l : 1 ≤ p.context.action = r.0 in
      omega (arith, l)

  tags : Each (λ (p : Placed). 0 < p.context.action → Each IsLowTag (did p.entry)) all
  tags = each_did IsLowTag all (λ action l. subst (Each IsLowTag) (sym (kept.rules.done action l)) (low_asked run.setting run.change run.labels (run.counted action) action))

  cells_all : AreCells test all
  cells_all =
      each_map (λ (p : Placed). HasNumber all p × (IsHigh p.entry × (0 < p.context.action → Each IsLowTag (did p.entry)))) (λ (p : Placed). IsCells test p.entry) all
      (λ p h. by p.entry p.context.action (first p h.0) h.1.0 h.1.1)
      (each_both (HasNumber all) (λ (p : Placed). IsHigh p.entry × (0 < p.context.action → Each IsLowTag (did p.entry))) all said
      (each_both (λ (p : Placed). IsHigh p.entry) (λ (p : Placed). 0 < p.context.action → Each IsLowTag (did p.entry)) all (all_high run.flags run.blocks kept.rules.shaped kept.brought) tags)) where
        by : (e : Entry) (action : ℕ) → (is_acted e ≡ true → 0 < action) → IsHigh e → (0 < action → Each IsLowTag (did e)) → IsCells test e
        by (says.Ring row version) action f h t = high row h
        by (says.Long row version ticket) action f h t = high row h
        by (says.Tag row version) action f h t = low row (t (f refl)).0
        by _ action f h t = tt

  pub cells : AreCells test so_far
  cells = each_map (λ (p : Placed). (nat_le p.phase phase ≡ true) × IsCells test p.entry) (λ (p : Placed). IsCells test p.entry) so_far (λ p h. h.1) (each_chosen (λ (p : Placed). IsCells test p.entry) (λ (p : Placed). nat_le p.phase phase) all cells_all)

  pub chain : IsChained (each_of row_change so_far)
  chain = kept.rules.joint.rows phase

  pub within : Within lines lines
  within =
      within_of lines lines
      (each_map (λ (line : Tagged). (test line.row ≡ true) × ((1 ≤ line.version) × (line.version ≤ times (is_of line.row) (each_of row_change so_far)))) (λ (line : Tagged). (1 ≤ line.version) × (line.version ≤ changes_of lines line.row)) lines
      (λ line h. (
        h.1.0,
        (let e : changes_of lines line.row ≡ changes_of (all_lines so_far) line.row = sifted_changes test (all_lines so_far) line.row h.0 in
            let f : changes_of (all_lines so_far) line.row ≡ times (is_of line.row) (each_of row_change so_far) = changes_counted test line.row h.0 so_far cells in
            let l : line.version ≤ times (is_of line.row) (each_of row_change so_far) = h.1.1 in
            omega (arith, e, f, l)),
      ))
      (each_sifted test (λ (line : Tagged). (1 ≤ line.version) × (line.version ≤ times (is_of line.row) (each_of row_change so_far))) (all_lines so_far) (each_ranged (each_of row_change so_far) chain so_far (λ change. omega arith))))

  pub once : (row version : ℕ) → length (standing lines row version) ≤ 1
  once row version =
      let a : length (standing lines row version) ≤ length (standing (all_lines so_far) row version) = sifted_few test (all_lines so_far) row version in
      let b : length (standing (all_lines so_far) row version) ≤ times (is_that (change_at row version)) (each_of row_change so_far) = standing_few row version so_far in
      let c : times (is_that (change_at row version)) (each_of row_change so_far) ≤ 1 = chain_one (each_of row_change so_far) chain (change_at row version) in
      omega (arith, a, b, c)

  pub few : count ≤ length run.labels
  few = let e : length run.labels ≡ length (each_of action_change all) = kept.labelled.few in
      let l : count ≤ length (each_of action_change all) = chosen_few action_change (λ (p : Placed). nat_le p.phase phase) all in
      omega (arith, e, l)

  pub counted : length (actions_to run phase) ≡ count
  counted = length_as _ (take count run.labels) ∙ front_length run.labels count few

  -- each move is of a number up to there, by one session
  abbrev Numbered : ℕ → ℕ → Type 0
  Numbered session action = ((1 ≤ action) × (action ≤ count)) × (session ≡ actor so_far action)

  numbered_all : Each (λ (line : Tagged). is_move line.kind ≡ true → Numbered line.session line.action) (all_lines so_far)
  numbered_all = acted_lines Numbered so_far
      (each_map (λ (p : Placed). (nat_le p.phase phase ≡ true) × HasNumber all p) (λ (p : Placed). is_acted p.entry ≡ true → Numbered p.session p.context.action) so_far
      (λ p h a.
      let i : IsSaid so_far p.session p.phase p.context.action = said_to phase p.session p.phase p.context.action all h.0 (acting p h.1 a) in (
        said_range phase p.session p.phase p.context.action all kept.rules.joint.ordered.numbers i,
        actor_is p.session p.phase p.context.action so_far (chain_one (each_of action_change so_far) (kept.rules.joint.ordered.numbers phase) (change_at 0 p.context.action)) i,
      ))
      (each_chosen (HasNumber all) (λ (p : Placed). nat_le p.phase phase) all said))

  numbered_lines : Each (λ (line : Tagged). is_move line.kind ≡ true → Numbered line.session line.action) lines
  numbered_lines = each_map (λ (line : Tagged). (test line.row ≡ true) × (is_move line.kind ≡ true → Numbered line.session line.action)) (λ (line : Tagged). is_move line.kind ≡ true → Numbered line.session line.action) lines (λ line h. h.1)
      (each_sifted test (λ (line : Tagged). is_move line.kind ≡ true → Numbered line.session line.action) (all_lines so_far) numbered_all)

  pub numbers : (row version : ℕ) (change : Change) → Stands lines row version change → IsMove change → (1 ≤ action_of change) × (action_of change ≤ length (actions_to run phase))
  numbers row version change s m = on (stood (λ (line : Tagged). is_move line.kind ≡ true → Numbered line.session line.action) lines row version change numbered_lines s) where
    on : (line : Tagged) × (change_of line ≡ change) × (is_move line.kind ≡ true → Numbered line.session line.action) → (1 ≤ action_of change) × (action_of change ≤ length (actions_to run phase))
    on (line, e, h) =
        let is : is_move line.kind ≡ true = moves_is line.action line.kind (subst IsMove (sym e) m) in
        let a : action_of change ≡ line.action = ap action_of (sym e) ∙ move_acts line.action line.kind is in
        let r : (1 ≤ line.action) × (line.action ≤ count) = (h is).0 in
        let l : 1 ≤ line.action = r.0 in
        let h : line.action ≤ count = r.1 in
        let c : length (actions_to run phase) ≡ count = counted in
        (omega (arith, a, l), omega (arith, a, h, c))

  pub are_by : AreBy (actor so_far) lines
  are_by = by_of (actor so_far) lines (each_map (λ (line : Tagged). is_move line.kind ≡ true → Numbered line.session line.action) (λ (line : Tagged). is_move line.kind ≡ true → line.session ≡ actor so_far line.action) lines (λ line h m. (h m).1) numbered_lines)

  pub rises : Rises lines
  rises = sifted_rises test (all_lines so_far) (risen (λ (p : Placed). nat_le p.phase phase) all [] all kept.rules.joint.floored).rises

  -- what an action prints
  pub printed : (action : ℕ) → printed_by lines action ≡ prints_on test (prints action (each_of did (of_action action so_far)))
  printed action = printed_on test action (all_lines so_far) ∙ ap (prints_on test) (printed_all action so_far)

  pub nothing : (action : ℕ) → (1 ≤ action → action ≤ count → ⊥) → printed_by lines action ≡ []
  nothing action out = printed action ∙ ap (λ ds. prints_on test (prints action ds)) (no_did phase all kept.rules.joint.ordered.numbers action out said)
