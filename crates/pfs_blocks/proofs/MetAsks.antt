-- What was asked, one after another.
use Rattle.std.proofs.Common.{◌≡◌, Bool, false, List, [], ◌∷◌, ◌++◌, map, Option, None, refl, ap, sym, ◌∙◌, subst, append_assoc}
use Rattle.std.proofs.lemmas.List.{append-nil}
use Rattle.pfs_actor.specs.ActorDeeds.{HasActed}
use Rattle.pfs_admin.specs.AdministrationStates.{State as Administration}
use Rattle.pfs_admin.specs.declared.changes.Change.{Change}
use Rattle.pfs_board.specs.declared.view.Label.{Label}
use Rattle.pfs_play.proofs.FurtherDeeds.{nothing, then}
use Rattle.pfs_play.proofs.RepeatedLines.{for_then}
use Rattle.pfs_classes.specs.declared.setting.Setting.{Setting}
use Rattle.pfs_law_plain.specs.LineDeeds.{bare}
use Rattle.pfs_levels.specs.Calls.{Call, Goes, Opening}
use Rattle.pfs_law_session.specs.Deeds.{Deed, Part, MayDo, is_over}
use Rattle.pfs_law_session.specs.JournalLaws.{MayDoAll, over_behind, state_behind}
use Rattle.pfs_play.proofs.NextLines.{answers_on}
use Rattle.pfs_play.proofs.PassedLines.{done_passed}
use Rattle.pfs_runs.specs.SelectAnswers.{Answer, Selection, selection_on}
use Rattle.pfs_script.specs.declared.blocks.BlockLine.{BlockLine}
use Rattle.pfs_session.specs.SessionStates.{State, Book}
use Rattle.pfs_session.specs.Turns.{state_after}
use Rattle.pfs_blocks.specs.PlayedBlocks.{HasMet}

pub met_nothing : (setting fixed : Setting) (change : Label → Change) (book : Book) (answers : List Answer) (was : Opening → List Call → Type 0) → HasMet setting fixed change [] [] false book book answers answers was was
met_nothing setting fixed change book answers was = record {
  parts = [];
  asked = tt;
  may = tt;
  over_is = refl;
  given = [];
  given_are = sym (append-nil answers);
  answered = refl;
  done = nothing fixed change book was;
}

-- what is met behind what stands before a line is met from before it on
pub met_passed : (setting fixed : Setting) (change : Label → Change) (selections : List (Option Selection)) (asks : List (Administration → Deed)) (over : Bool) (old new : Book) (answers behind : List Answer) (was mid now : Opening → List Call → Type 0)
    → Goes was mid [] → HasMet setting fixed change selections asks over old new answers behind mid now → HasMet setting fixed change selections asks over old new answers behind was now
met_passed setting fixed change selections asks over old new answers behind was mid now goes m = record {
  parts = m.parts;
  asked = m.asked;
  may = m.may;
  over_is = m.over_is;
  given = m.given;
  given_are = m.given_are;
  answered = m.answered;
  done = done_passed fixed change m.parts old new was mid now goes m.done;
}

-- an action that is no SELECT, and so is told of nothing that was read or shown
pub met_action : (setting fixed : Setting) (change : Label → Change) (ask : Administration → Deed) (over : Bool) (old new : Book) (answers : List Answer) (was now : Opening → List Call → Type 0) (p : HasActed fixed change ask old new was now)
    → bare (ask p.admin) ≡ ask p.admin → MayDo false old.state (ask p.admin) → is_over false (ask p.admin) ≡ over → HasMet setting fixed change (None ∷ []) (ask ∷ []) over old new answers answers was now
met_action setting fixed change ask over old new answers was now p same may ends = record {
  parts = p.part ∷ [];
  asked = (record { admin = p.admin; is = ap bare p.deed_is ∙ same }, tt);
  may = (subst (λ (d : Deed). MayDo false old.state d) (sym p.deed_is) may, tt);
  over_is = ap (is_over false) p.deed_is ∙ ends;
  given = [];
  given_are = sym (append-nil answers);
  answered = refl;
  done = p.done;
}

pub may_then : (over : Bool) (s : State) (ps qs : List Part) → MayDoAll over s ps → MayDoAll (over_behind over ps) (state_behind s ps) qs → MayDoAll over s (ps ++ qs)
may_then over s [] qs may more = more
may_then over s (p ∷ ps) qs may more = (may.0, may_then (is_over over p.deed) (state_after s p.turns) ps qs may.1 more)

pub over_then : (over : Bool) (ps qs : List Part) → over_behind over (ps ++ qs) ≡ over_behind (over_behind over ps) qs
over_then over [] qs = refl
over_then over (p ∷ ps) qs = over_then (is_over over p.deed) ps qs

-- and more was asked behind that, where the SELECTs are those of lines
pub met_then : (setting fixed : Setting) (change : Label → Change) (xs ys : List BlockLine) (asks behind_asks : List (Administration → Deed)) (over : Bool) (old at new : Book) (answers behind more : List Answer) (was mid now : Opening → List Call → Type 0)
    → HasMet setting fixed change (map selection_on xs) asks false old at answers behind was mid → HasMet setting fixed change (map selection_on ys) behind_asks over at new behind more mid now
    → HasMet setting fixed change (map selection_on (xs ++ ys)) (asks ++ behind_asks) over old new answers more was now
met_then setting fixed change xs ys asks behind_asks over old at new answers behind more was mid now p q =
    let ps : List Part = p.parts in
    let qs : List Part = q.parts in
    record {
      parts = ps ++ qs;
      asked = for_then asks behind_asks ps qs p.asked q.asked;
      may = may_then false old.state ps qs p.may (subst (λ (s : State). MayDoAll (over_behind false ps) s qs) p.done.state (subst (λ (b : Bool). MayDoAll b at.state qs) (sym p.over_is) q.may));
      over_is = over_then false ps qs ∙ (ap (λ (b : Bool). over_behind b qs) p.over_is ∙ q.over_is);
      given = p.given ++ q.given;
      given_are = q.given_are ∙ (ap (λ (z : List Answer). z ++ q.given) p.given_are ∙ append_assoc answers p.given q.given);
      answered = answers_on setting xs ys ps qs p.given q.given p.answered q.answered;
      done = then fixed change ps qs old at new was mid now p.done q.done;
    }
