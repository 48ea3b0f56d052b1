-- What a plain store did is what its actor did, and what it used up is what the actor used up.
use Rattle.std.proofs.Common.{ℕ, ◌≡◌, ◌≤◌, ◌+◌, ◌==◌, if◌then◌else◌, ◌<◌, List, Some, None, refl, ap, sym, ◌∙◌, subst, arith, ne_eqb}
use Rattle.pfs_admin.specs.AdministrationStates.{State as Administration}
use Rattle.pfs_admin.specs.Fold.{StandsFor}
use Rattle.pfs_admin.specs.declared.changes.Change.{Change}
use Rattle.pfs_board.specs.declared.view.Label.{Label}
use Rattle.pfs_classes.specs.declared.setting.Setting.{Setting}
use Rattle.pfs_event.specs.Logs.{Journal}
use Rattle.pfs_law_plain.proofs.InnerCalls.{AreWithin, calls_within, no_label_more, turns_within}
use Rattle.pfs_levels.specs.Calls.{Call, Goes}
use Rattle.pfs_levels.specs.PlainStore.{IsAt, in_hand, slot_at}
use Rattle.pfs_levels.specs.Views.{Store, Kept, Same, Used, empty_handed, lent_as, taken}
use Rattle.pfs_levels.specs.declared.answers.Word.{Word}
use Rattle.pfs_levels.specs.declared.plain.PlainRows.{PlainRows}
use Rattle.pfs_session.specs.SessionStates.{Book}
use Rattle.pfs_session.specs.Turns.{Played, Step, turns_calls}
use Rattle.pfs_actor.specs.PlainViews.{between}

-- plain rows as contracts see them
abbrev pub store_of : PlainRows → Store
store_of rows = record {
  reached = λ start calls. IsAt rows.slots rows.words.items rows.tickets start.flags calls;
  hand = λ row. in_hand (slot_at rows.slots row);
  left = rows.left;
  draws = rows.draws;
  words = Some rows.words.items;
  name = 0;
}

-- calls inside an action or outside of all leave the administration as it is
pub goes_on : (setting : Setting) (change : Label → Change) (admin : Administration) (was now : Store) (its : List Call) → AreWithin its → Goes was.reached now.reached its
    → Goes (between setting change was admin).reached (between setting change now admin).reached its
goes_on setting change admin was now its within goes = λ start calls h.
    (goes start calls h.0, subst (λ (z : List Label). StandsFor setting change z admin) (sym (no_label_more its calls within)) h.1)

-- so do steps that are no action
pub played_on : (setting : Setting) (change : Label → Change) (admin : Administration) (was now : Store) (steps : List Step) (old new : Book) → Played steps old new was.reached now.reached
    → Played steps old new (between setting change was admin).reached (between setting change now admin).reached
played_on setting change admin was now steps old new p = record {
  turns = p.turns;
  are_turns = p.are_turns;
  steps_are = p.steps_are;
  state_is = p.state_is;
  did = record {
    entries_are = p.did.entries_are;
    goes = goes_on setting change admin was now (turns_calls p.turns) (calls_within p.turns (turns_within old.state p.turns p.are_turns)) p.did.goes;
  };
}

-- row 0 alone is in hand inside an action that began with none
pub others_free : (version : ℕ) (was within : Store) → ((r : ℕ) → was.hand r ≡ None) → Kept 1 0 (taken 0 version was) within → (r : ℕ) → 0 < r → within.hand r ≡ None
others_free version was within free begun r above = begun.hand r ∙ (ap (λ b. if b then Some version else was.hand r) (ne_eqb r 0 (λ same. omega (arith, same, above))) ∙ free r)

-- what an action used up: a publication more than was used inside it
pub used_up : (setting : Setting) (change : Label → Change) (spent most entries all version : ℕ) (words : List Word) (was within done now : Store) (admin after : Administration) (old new : Journal) → spent + 1 ≤ most → entries ≤ all
    → Kept 1 0 (taken 0 version was) within → Used spent 0 entries (lent_as words within) done old new → Same (empty_handed done) now
    → Used most 0 all (between setting change was admin) (between setting change now after) old new
used_up setting change spent most entries all version words was within done now admin after old new few less begun used ended = record {
  left = omega (arith, few, begun.left, used.left, ended.left);
  draws = omega (arith, begun.draws, used.draws, ended.draws);
  no_more = omega (arith, begun.no_more, used.no_more, ended.draws);
  hand = λ r. refl;
  words = refl;
  name = refl;
  room = omega (arith, less, used.room);
}

-- the frame of a call outside an action
pub kept_on : (setting : Setting) (change : Label → Change) (spent drawn : ℕ) (was now : Store) (admin : Administration) → Kept spent drawn was now → Kept spent drawn (between setting change was admin) (between setting change now admin)
kept_on setting change spent drawn was now admin k = record {
  left = k.left;
  draws = k.draws;
  no_more = k.no_more;
  hand = λ r. refl;
  words = refl;
  name = refl;
}

pub same_on : (setting : Setting) (change : Label → Change) (was now : Store) (admin : Administration) → Same was now → Same (between setting change was admin) (between setting change now admin)
same_on setting change was now admin s = record { left = s.left; draws = s.draws; hand = λ r. refl; words = refl; name = refl }

pub used_on : (setting : Setting) (change : Label → Change) (spent drawn entries : ℕ) (was now : Store) (admin : Administration) (old new : Journal) → Used spent drawn entries was now old new → Used spent drawn entries (between setting change was admin) (between setting change now admin) old new
used_on setting change spent drawn entries was now admin old new u = record {
  left = u.left;
  draws = u.draws;
  no_more = u.no_more;
  hand = λ r. refl;
  words = refl;
  name = refl;
  room = u.room;
}
