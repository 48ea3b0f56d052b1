-- The lines of a block, one after another.
use Rattle.std.proofs.Common.{◌≡◌, ℕ, ◌+◌, ◌-◌, ◌<◌, ◌≤◌, List, [], ◌∷◌, drop, get_or, length, map, take, sym, ◌∙◌, ap, subst, Option, Some, None}
use Rattle.std.specs.Borrow.{Bor}
use Rattle.std.proofs.lemmas.List.{drop_all, drop_more}
use Rattle.pfs_classes.specs.declared.setting.Setting.{Setting}
use Rattle.pfs_event.specs.declared.entry.Entry.{Entry}
use Rattle.pfs_model.specs.EntryPlaces.{Placed}
use Rattle.pfs_runs.specs.SelectAnswers.{Answer, Selection}
use Rattle.pfs_check_parts.specs.Parts.{pieces}
use Rattle.pfs_check_answers.specs.BlockSelects.{AreAsked, AreJudged, IsStep, selection_by}
use Rattle.pfs_check_answers.specs.declared.block_lines.Spot.{Spot}
use Rattle.pfs_check_answers.specs.declared.block_lines.Step.TheVariants.{On, Wrong}

module _ (all : List Placed) (setting : Setting) (answers : Selection → List Entry → Answer → Type 0) (texts : List (Option (Bor (List ℕ)))) (ends : List ℕ)
    (entries : List Entry) (given : List Answer) (first : ℕ) where
  -- the lines from a place on, from this spot on, leave what is told to the block
  pub record IsLeft (at : ℕ) (spot : Spot) : Type 0 where
    pub asked : AreAsked all (map selection_by (drop at texts)) (pieces spot.start (drop at ends) entries) (drop spot.answer given)
    pub leaves : (told : Option ℕ) → AreJudged setting answers spot.line (map selection_by (drop at texts)) (pieces spot.start (drop at ends) entries) (drop spot.answer given) told
        → AreJudged setting answers first (map selection_by texts) (pieces 0 ends entries) given told

  pub begins : AreAsked all (map selection_by texts) (pieces 0 ends entries) given → IsLeft 0 (record { line = first; start = 0; answer = 0 })
  begins asked = record { asked = asked; leaves = λ told rest. rest }

  -- at a place where there are a text and an end
  abbrev pub own : ℕ → Spot → ℕ → List Entry
  own at spot end = take (end - spot.start) (drop spot.start entries)

  split : (at : ℕ) (spot : Spot) (text : Option (Bor (List ℕ))) (end : ℕ) → at < length texts → at < length ends → text ≡ get_or texts at text → end ≡ get_or ends at end
      → (map selection_by (drop at texts) ≡ selection_by text ∷ map selection_by (drop (at + 1) texts)) × (pieces spot.start (drop at ends) entries ≡ own at spot end ∷ pieces end (drop (at + 1) ends) entries)
  unfolding pieces
  split at spot text end low few text_is end_is = (
    ap (map selection_by) (drop_more texts at text low ∙ ap (λ z. z ∷ drop (at + 1) texts) (sym text_is)),
    ap (λ z. pieces spot.start z entries) (drop_more ends at end few ∙ ap (λ z. z ∷ drop (at + 1) ends) (sym end_is)),
  )

  module _ (at : ℕ) (spot : Spot) (text : Option (Bor (List ℕ))) (end : ℕ) (low : at < length texts) (few : at < length ends) (text_is : text ≡ get_or texts at text)
      (end_is : end ≡ get_or ends at end) (left : IsLeft at spot) where
    pub asked_line : AreAsked all (selection_by text ∷ map selection_by (drop (at + 1) texts)) (own at spot end ∷ pieces end (drop (at + 1) ends) entries) (drop spot.answer given)
    asked_line =
        let s = split at spot text end low few text_is end_is in
        subst (λ z. AreAsked all z (own at spot end ∷ pieces end (drop (at + 1) ends) entries) (drop spot.answer given)) s.0
        (subst (λ z. AreAsked all (map selection_by (drop at texts)) z (drop spot.answer given)) s.1 left.asked)

    told_here : (told : Option ℕ) → AreJudged setting answers spot.line (selection_by text ∷ map selection_by (drop (at + 1) texts)) (own at spot end ∷ pieces end (drop (at + 1) ends) entries) (drop spot.answer given) told
        → AreJudged setting answers first (map selection_by texts) (pieces 0 ends entries) given told
    told_here told judged =
        let s = split at spot text end low few text_is end_is in
        left.leaves told
        (subst (λ z. AreJudged setting answers spot.line (map selection_by (drop at texts)) z (drop spot.answer given) told) (sym s.1)
        (subst (λ z. AreJudged setting answers spot.line z (own at spot end ∷ pieces end (drop (at + 1) ends) entries) (drop spot.answer given) told) (sym s.0) judged))

    pub on_line : (next : Spot)
        → IsStep all setting answers given spot end (selection_by text) (map selection_by (drop (at + 1) texts)) (own at spot end) (pieces end (drop (at + 1) ends) entries) (On next)
        → IsLeft (at + 1) next
    on_line next step = record {
      asked = subst (λ n. AreAsked all (map selection_by (drop (at + 1) texts)) (pieces n (drop (at + 1) ends) entries) (drop next.answer given)) (sym step.0) step.1.asked;
      leaves = λ told rest. told_here told
          (step.1.leaves told
          (subst (λ n. AreJudged setting answers next.line (map selection_by (drop (at + 1) texts)) (pieces n (drop (at + 1) ends) entries) (drop next.answer given) told) step.0 rest));
    }

    pub wrong_line : (line : ℕ)
        → IsStep all setting answers given spot end (selection_by text) (map selection_by (drop (at + 1) texts)) (own at spot end) (pieces end (drop (at + 1) ends) entries) (Wrong line)
        → AreJudged setting answers first (map selection_by texts) (pieces 0 ends entries) given (Some line)
    wrong_line line step = told_here (Some line) step

  -- behind the last line
  pub all_judged : (at : ℕ) (spot : Spot) → length texts ≤ at → IsLeft at spot → AreJudged setting answers first (map selection_by texts) (pieces 0 ends entries) given None
  all_judged at spot past left = left.leaves None (on (map selection_by (drop at texts)) (ap (map selection_by) (drop_all at texts past)) left.asked) where
    on : (selections : List (Option Selection)) → selections ≡ [] → AreAsked all selections (pieces spot.start (drop at ends) entries) (drop spot.answer given)
        → AreJudged setting answers spot.line selections (pieces spot.start (drop at ends) entries) (drop spot.answer given) None
    on [] e asked = none (pieces spot.start (drop at ends) entries) asked where
      none : (parts : List (List Entry)) → AreAsked all [] parts (drop spot.answer given) → AreJudged setting answers spot.line [] parts (drop spot.answer given) None
      none [] asked = asked
      none (part ∷ parts) asked = asked
    on (selection ∷ selections) e asked = absurd (cc)

  -- a line without an end
  pub no_end : (at : ℕ) (spot : Spot) (text : Option (Bor (List ℕ))) → at < length texts → length ends ≤ at → IsLeft at spot → ⊥
  unfolding pieces
  no_end at spot text low past left =
      on (map selection_by (drop at texts)) (ap (map selection_by) (drop_more texts at text low))
      (subst (λ z. AreAsked all (map selection_by (drop at texts)) (pieces spot.start z entries) (drop spot.answer given)) (drop_all at ends past) left.asked)
    where
      on : (selections : List (Option Selection)) → selections ≡ selection_by (get_or texts at text) ∷ map selection_by (drop (at + 1) texts) → AreAsked all selections [] (drop spot.answer given) → ⊥
      on [] e asked = cc
      on (None ∷ selections) e asked = asked
      on (Some selection ∷ selections) e asked = asked
