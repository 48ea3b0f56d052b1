-- The labels of lines, and then of others.
use Rattle.std.proofs.Common.{ℕ, ◌≡◌, ◌<◌, ◌+◌, ◌-◌, List, [], ◌∷◌, ◌++◌, ap, sym, ◌∙◌, subst, arith}
use Rattle.pfs_admin.specs.declared.changes.Change.{Change}
use Rattle.pfs_board.specs.declared.view.Label.{Label}
use Rattle.pfs_classes.specs.declared.setting.Setting.{Setting}
use Rattle.pfs_levels.specs.Views.{Store}
use Rattle.pfs_runs.specs.ScriptLines.{changes_on}
use Rattle.pfs_runs.specs.SelectAnswers.{Answer}
use Rattle.pfs_script.specs.Marks.{copies}
use Rattle.pfs_script.specs.declared.blocks.BlockLine.{BlockLine}
use Rattle.pfs_session.specs.SessionStates.{State, Book}
use Rattle.pfs_play.specs.Errands.{LabelsName, NamesLines, actions_of, actions_on, errand_on}
use Rattle.pfs_play.specs.Needs.{Advanced, need_on}
use Rattle.pfs_play.specs.Repeats.{HaveGone}
use Rattle.pfs_play.proofs.NeedSteps.{round_split}

pub names_front : (change : Label → Change) (session made : ℕ) (xs ys : List BlockLine) → NamesLines change session made (xs ++ ys) → NamesLines change session made xs
names_front change session made [] ys n = tt
names_front change session made (x ∷ xs) ys n = (n.0, names_front change session (made + actions_of (errand_on x)) xs ys n.1)

pub names_behind : (change : Label → Change) (session made : ℕ) (xs ys : List BlockLine) → NamesLines change session made (xs ++ ys) → NamesLines change session (made + actions_on xs) ys
names_behind change session made [] ys n = let same : made ≡ made + 0 = omega arith in subst (λ k. NamesLines change session k ys) same n
names_behind change session made (x ∷ xs) ys n =
    let same : made + actions_of (errand_on x) + actions_on xs ≡ made + actions_on (x ∷ xs) = omega arith in
    subst (λ k. NamesLines change session k ys) same (names_behind change session (made + actions_of (errand_on x)) xs ys n.1)

-- a session that did the first goes on with the labels of the others
pub names_on : (change : Label → Change) (xs ys : List BlockLine) (old at : Book) (a b : Store) → NamesLines change old.state.number old.state.actions (xs ++ ys) → Advanced (need_on xs) old at a b → NamesLines change at.state.number at.state.actions ys
names_on change xs ys old at a b n p =
    let number : at.state.number ≡ old.state.number = ap (λ (s : State). s.number) p.rest in
    subst (λ k. NamesLines change k at.state.actions ys) (sym number)
    (subst (λ k. NamesLines change old.state.number k ys) (sym p.actions) (names_behind change old.state.number old.state.actions xs ys n))

-- the line at a place
pub names_at : (change : Label → Change) (lines front rest : List BlockLine) (line : BlockLine) (old at : Book) (a b : Store) → lines ≡ front ++ line ∷ rest → NamesLines change old.state.number old.state.actions lines
    → Advanced (need_on front) old at a b → LabelsName change at.state.number at.state.actions (changes_on line)
names_at change lines front rest line old at a b are n p =
    (names_on change front (line ∷ rest) old at a b (subst (λ (z : List BlockLine). NamesLines change old.state.number old.state.actions z) are n) p).0

-- one round of a repeat
pub names_round : (change : Label → Change) (round times : ℕ) (body : List BlockLine) (old at : Book) (a b : Store) → round < times → NamesLines change old.state.number old.state.actions (copies times body) → Advanced (need_on (copies round body)) old at a b
    → NamesLines change at.state.number at.state.actions body
names_round change round times body old at a b low n p =
    let left : ℕ = times - (round + 1) in
    names_front change at.state.number at.state.actions body (copies left body)
    (names_on change (copies round body) (body ++ copies left body) old at a b (subst (λ (z : List BlockLine). NamesLines change old.state.number old.state.actions z) (round_split round times body low) n) p)

-- the lines behind those that were played
pub gone_names : (setting fixed : Setting) (change : Label → Change) (whole rest : List BlockLine) (old new : Book) (answers behind : List Answer) (was now : Store) → HaveGone setting fixed change whole rest old new answers behind was now
    → NamesLines change old.state.number old.state.actions whole → NamesLines change new.state.number new.state.actions rest
gone_names setting fixed change whole rest old new answers behind was now p n =
    names_on change p.first rest old new was now (subst (λ (z : List BlockLine). NamesLines change old.state.number old.state.actions z) p.are n) p.advanced
