-- A run from block to block and from phase to phase, and at its end.
use Rattle.std.proofs.Common.{ℕ, suc, ◌≡◌, ◌<◌, ◌≤◌, ◌+◌, List, [], ◌∷◌, ◌++◌, length, take, drop, get_or, append-nil, refl, ap, sym, ◌∙◌, subst, arith}
use Rattle.std.proofs.Math.ListN.{drop_of_length-le}
use Rattle.std.proofs.Math.Seq.{drop-cons}
use Rattle.std.proofs.lemmas.List.{take_all, take_more, take-append-drop}
use Rattle.pfs_admin.specs.OpeningState.{opening_flags}
use Rattle.pfs_law_plain.specs.RunRules.{labels_of, contents_of}
use Rattle.pfs_law_plain.specs.Spells.{Spell, calls_of, stints_of}
use Rattle.pfs_law_session.specs.Takes.{all_taken, counted_by}
use Rattle.pfs_levels.specs.PlainStore.{AllAnswer}
use Rattle.pfs_matching.specs.ObjectRules.{opening_objects}
use Rattle.pfs_model.specs.EntryPlaces.{places}
use Rattle.pfs_model.specs.PlainAgreement.{IsPlain}
use Rattle.pfs_classes.specs.declared.setting.Setting.{Setting}
use Rattle.pfs_law_script.proofs.BlocksAhead.{done_whole}
use Rattle.pfs_law_script.specs.BlocksAhead.{ahead_of, block_at}
use Rattle.pfs_law_script.specs.Course.{IsCourse, numbered}
use Rattle.pfs_law_script.specs.ReportSpells.{ArePhasesTold, AreTold}
use Rattle.pfs_law_script.specs.WholeCourse.{WholeLaw, RunLaw, IsRunOf}
use Rattle.pfs_law_report.specs.PhaseEnds.{AllEndLaw, HasEnded}
use Rattle.pfs_journal.specs.declared.blocks.BlockReport.{BlockReport}
use Rattle.pfs_journal.specs.declared.report.ReportParts.{ReportParts}
use Rattle.pfs_runs.specs.ScriptLines.{change_in, facts_in}
use Rattle.pfs_runs.specs.Runs.{AreFinal, IsPlainRun}
use Rattle.pfs_script.specs.declared.blocks.Block.{Block}
use Rattle.pfs_script.specs.declared.blocks.Phase.{Phase}
use Rattle.pfs_seats.specs.Seats.{depth_of}
use Rattle.pfs_run.specs.RunPositions.{IsAlong, Standing, position}

-- an element of a list stands between those before it and those behind
pub parted : {A : Type 0} (xs : List A) (i : ℕ) (x : A) → i < length xs → x ≡ get_or xs i x → drop i xs ≡ x ∷ drop (i + 1) xs
parted {A} xs i x within is = drop-cons xs i x within ∙ (ap (λ y. y ∷ drop (suc i) xs) (sym is) ∙ ap (λ n. x ∷ drop n xs) (one_more i)) where
  one_more : (n : ℕ) → suc n ≡ n + 1
  one_more n = omega arith

pub parted_all : {A : Type 0} (xs : List A) (i : ℕ) (x : A) → i < length xs → x ≡ get_or xs i x → xs ≡ take i xs ++ x ∷ drop (i + 1) xs
parted_all {A} xs i x within is = sym (take-append-drop i xs) ∙ ap (λ z. take i xs ++ z) (parted xs i x within is)

pub taken_more : {A : Type 0} (xs : List A) (i : ℕ) (x : A) → i < length xs → x ≡ get_or xs i x → take i xs ++ x ∷ [] ≡ take (i + 1) xs
taken_more {A} xs i x within is = ap (λ y. take i xs ++ y ∷ []) is ∙ sym (take_more xs i x within)

-- a block of a phase, between those before it and those behind
pub record IsThere (phases before : List Phase) (phase : Phase) (after : List Phase) (i : ℕ) (block : Block) : Type 0 where
  pub split : phases ≡ before ++ record { blocks = take i phase.blocks ++ block ∷ drop (i + 1) phase.blocks } ∷ after
  pub ahead : ahead_of before (drop i phase.blocks) after ≡ block_at before block ∷ ahead_of before (drop (i + 1) phase.blocks) after
  pub first : take i phase.blocks ++ block ∷ [] ≡ take (i + 1) phase.blocks

pub there : (phases before : List Phase) (phase : Phase) (after : List Phase) (blocks : List Block) (i : ℕ) (block : Block) → blocks ≡ phase.blocks → i < length blocks → block ≡ get_or blocks i block
    → phases ≡ before ++ phase ∷ after → IsThere phases before phase after i block
there phases before phase after blocks i block same low is e =
    let within : i < length phase.blocks = subst (λ z. i < length z) same low in
    let at : block ≡ get_or phase.blocks i block = subst (λ z. block ≡ get_or z i block) same is in
    record {
      split = e ∙ ap (λ (z : List Block). before ++ record { blocks = z } ∷ after) (parted_all phase.blocks i block within at);
      ahead = ap (λ z. ahead_of before z after) (parted phase.blocks i block within at);
      first = taken_more phase.blocks i block within at;
    }

-- behind the last element
pub record IsPast {A : Type 0} (xs : List A) (i : ℕ) : Type 0 where
  pub taken : take i xs ≡ xs
  pub dropped : drop i xs ≡ []

pub past : {A : Type 0} (xs ys : List A) (i : ℕ) → xs ≡ ys → length xs ≤ i → IsPast ys i
past {A} xs ys i same low =
    let long : length ys ≤ i = subst (λ z. length z ≤ i) same low in
    record { taken = take_all i ys long; dropped = drop_of_length-le ys long }

-- no block told, no spell
none_told : (setting : Setting) (number : ℕ) (spells : List Spell) (reports : List BlockReport) → AreTold setting number [] spells reports → spells ≡ []
none_told setting number [] [] are = refl
none_told setting number [] (z ∷ zs) are = absurd are
none_told setting number (y ∷ ys) reports are = absurd are

-- behind all phases, what is reported of them is a run of the script
pub run_is : WholeLaw → RunLaw → AllEndLaw → (setting : Setting) (phases : List Phase) (report : ReportParts) (at_end : Standing) → IsAlong setting phases (position phases [] []) at_end → report.format ≡ 1 → report.phases ≡ at_end.ended → IsPlainRun setting phases report
run_is whole run all_end setting phases report at_end a format is =
    let change = change_in phases in
    let spells : List Spell = a.earlier in
    let same : a.earlier ++ a.current ≡ spells = ap (λ z. a.earlier ++ z) (none_told setting (1 + length phases) a.current at_end.told a.blocks_told) ∙ append-nil a.earlier in
    let course : IsCourse setting change (depth_of phases) (numbered 1 phases) spells =
    subst (λ z. IsCourse setting change (depth_of phases) z spells) (done_whole phases)
    (subst (λ z. IsCourse setting change (depth_of phases) (numbered 1 phases ++ []) z) same a.course) in
    let answer : AllAnswer (opening_flags setting opening_objects) (calls_of spells) = subst (λ z. AllAnswer (opening_flags setting opening_objects) (calls_of z)) same a.answer in
    let finals : AreFinal (HasEnded setting change spells) report.phases =
    subst (AreFinal (HasEnded setting change spells)) (sym is) (subst (λ z. AreFinal (HasEnded setting change z) at_end.ended) same a.finals) in
    let kept = whole setting phases (depth_of phases) spells course answer in
    let r : IsRunOf setting phases report spells =
    run setting phases report (depth_of phases) (labels_of spells) (counted_by (contents_of spells) (all_taken (stints_of spells))) (contents_of spells) spells
    course.are_spells course.first course.blocks kept.0 (subst (λ z. ArePhasesTold setting 1 phases z spells) (sym is) a.phases_told) format
    (all_end setting change (facts_in phases) (depth_of phases) spells report.phases course.are_spells answer finals) in
    record { run = r.run; plain = subst (λ z. IsPlain (places z)) (sym r.journals) kept.1 }
