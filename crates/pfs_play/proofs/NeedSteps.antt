-- What is needed for lines and then for others, and what was used of it.
use Rattle.std.proofs.Common.{ℕ, suc, ◌≡◌, ◌<◌, ◌≤◌, ◌+◌, ◌-◌, ◌*◌, ◌^◌, List, [], ◌∷◌, ◌++◌, length, refl, ap, sym, ◌∙◌, subst, append_assoc, arith}
use Rattle.std.specs.Prelude.{OnOk, Result, Ok, Err}
use Rattle.std.proofs.lemmas.List.{append-nil, length-append}
use Rattle.pfs_actor.specs.ActionAsks.{MayAct}
use Rattle.pfs_actor.specs.ActorDeeds.{HasDone, HaveLed}
use Rattle.pfs_admin.specs.declared.changes.Change.{Change}
use Rattle.pfs_board.specs.declared.view.Label.{Label}
use Rattle.pfs_classes.specs.declared.setting.Setting.{Setting}
use Rattle.pfs_law_plain.specs.Spells.{doings_calls}
use Rattle.pfs_law_session.specs.Deeds.{Part}
use Rattle.pfs_levels.specs.Calls.{Call, Opening}
use Rattle.pfs_levels.specs.Views.{Store, Used}
use Rattle.pfs_runs.specs.SelectAnswers.{Answer}
use Rattle.pfs_script.specs.declared.blocks.BlockLine.{BlockLine}
use Rattle.pfs_script.specs.declared.blocks.BlockLine.TheVariants as said
use Rattle.pfs_script.specs.Marks.{copies}
use Rattle.pfs_session.specs.SessionStates.{State, Book, nothing_held}
use Rattle.pfs_play.specs.Errand.{Errand}
use Rattle.pfs_play.specs.Errands.{HavePlayed, actions_of, actions_on, cost_of, cost_on, errand_on}
use Rattle.pfs_play.specs.Needs.{Advanced, Ready, need_of, need_on}
use Rattle.pfs_play.specs.Repeats.{HaveGone}
use Rattle.pfs_play.proofs.HeldBounds.{none_wide}
use Rattle.pfs_play.proofs.NextLines.{played_nothing}
use Rattle.pfs_play.proofs.RepeatedLines.{copies_then, one_copy, played_both}
use Rattle.pfs_play.proofs.WrittenRepeats.{actions_then, cost_then}

-- some calls led to a store
abbrev pub SomeLed : (Opening → List Call → Type 0) → Type 0
SomeLed reached = (start : Opening) × (calls : List Call) × reached start calls

-- and what was done leads on from there
pub led_on : (fixed : Setting) (change : Label → Change) (parts : List Part) (old new : Book) (was now : Opening → List Call → Type 0) → HasDone fixed change parts old new was now → SomeLed was → SomeLed now
led_on fixed change parts old new was now done led =
    let way : HaveLed fixed change old.state parts led.0 led.1 now = done.leads led.0 led.1 led.2 in
    (led.0, doings_calls way.doings ++ led.1, way.reached)

-- what is there for lines and others is there for those lines
pub ready_front : (xs ys : List BlockLine) (session : Book) (s : Store) → Ready (need_on (xs ++ ys)) session s → Ready (need_on xs) session s
ready_front xs ys session s r =
    let n = length-append xs ys in
    let k = actions_then xs ys in
    let m = cost_then xs ys in
    record {
      early = omega (arith, n, r.early);
      rare = omega (arith, k, r.rare);
      begun = r.begun;
      affords = record {
        left = omega (arith, n, k, r.affords.left);
        draws = omega (arith, n, r.affords.draws);
        room = omega (arith, m, r.affords.room);
      };
    }

-- and behind those lines it is there for the others
pub ready_behind : (xs ys : List BlockLine) (old at : Book) (a b : Store) → Ready (need_on (xs ++ ys)) old a → Advanced (need_on xs) old at a b → SomeLed b.reached → Ready (need_on ys) at b
ready_behind xs ys old at a b r p led =
    let n = length-append xs ys in
    let k = actions_then xs ys in
    let m = cost_then xs ys in
    record {
      early = omega (arith, n, r.early, p.drawn);
      rare = omega (arith, k, r.rare, p.actions);
      begun = led;
      affords = record {
        left = omega (arith, n, k, r.affords.left, p.used.left);
        draws = omega (arith, n, r.affords.draws, p.used.draws);
        room = omega (arith, m, r.affords.room, p.used.room);
      };
    }

pub advanced_none : (old : Book) (s : Store) → length old.state.held ≡ 193 → Advanced (need_on []) old old s s
advanced_none old s wide = record {
  drawn = omega arith;
  actions = omega arith;
  rest = refl;
  last = λ none. refl;
  depth = refl;
  wide = wide;
  used = record {
    left = omega arith;
    draws = omega arith;
    no_more = omega arith;
    hand = λ row. refl;
    words = refl;
    name = refl;
    room = omega arith;
  };
}

-- lines, and then others
pub advanced_both : (xs ys : List BlockLine) (old at new : Book) (a b c : Store) → Advanced (need_on xs) old at a b → Advanced (need_on ys) at new b c → Advanced (need_on (xs ++ ys)) old new a c
advanced_both xs ys old at new a b c p q =
    let n = length-append xs ys in
    let k = actions_then xs ys in
    let m = cost_then xs ys in
    record {
      drawn = omega (arith, n, p.drawn, q.drawn);
      actions = omega (arith, k, p.actions, q.actions);
      rest = q.rest ∙ ap (λ (s : State). record s { clock = new.state.clock; drawn = new.state.drawn; opened = new.state.opened; held = new.state.held; actions = new.state.actions; last = new.state.last; nexts = new.state.nexts }) p.rest;
      last = λ none. q.last (omega (arith, k, none)) ∙ p.last (omega (arith, k, none));
      depth = q.depth ∙ p.depth;
      wide = q.wide;
      used = record {
        left = omega (arith, n, k, p.used.left, q.used.left);
        draws = omega (arith, n, p.used.draws, q.used.draws);
        no_more = omega (arith, p.used.no_more, q.used.no_more);
        hand = λ row. q.used.hand row ∙ p.used.hand row;
        words = q.used.words ∙ p.used.words;
        name = q.used.name ∙ p.used.name;
        room = omega (arith, m, p.used.room, q.used.room);
      };
    }

-- one line
pub ready_one : (line : BlockLine) (session : Book) (s : Store) → Ready (need_on (line ∷ [])) session s → Ready (need_of (errand_on line)) session s
ready_one line session s r = record {
  early = omega (arith, r.early);
  rare = omega (arith, r.rare);
  begun = r.begun;
  affords = record {
    left = omega (arith, r.affords.left);
    draws = omega (arith, r.affords.draws);
    room = omega (arith, r.affords.room);
  };
}

pub advanced_one : (line : BlockLine) (old new : Book) (a b : Store) → Advanced (need_of (errand_on line)) old new a b → Advanced (need_on (line ∷ [])) old new a b
advanced_one line old new a b p = record {
  drawn = omega (arith, p.drawn);
  actions = omega (arith, p.actions);
  rest = p.rest;
  last = λ none. p.last (omega (arith, none));
  depth = p.depth;
  wide = p.wide;
  used = record {
    left = omega (arith, p.used.left);
    draws = omega (arith, p.used.draws);
    no_more = p.used.no_more;
    hand = p.used.hand;
    words = p.used.words;
    name = p.used.name;
    room = omega (arith, p.used.room);
  };
}

-- the line at a place, behind those before it
pub ready_at : (lines front rest : List BlockLine) (line : BlockLine) (old at : Book) (a b : Store) → lines ≡ front ++ line ∷ rest → Ready (need_on lines) old a → Advanced (need_on front) old at a b → SomeLed b.reached
    → Ready (need_of (errand_on line)) at b
ready_at lines front rest line old at a b are r p led =
    let all : Ready (need_on (front ++ line ∷ rest)) old a = subst (λ (z : List BlockLine). Ready (need_on z) old a) are r in
    let left : Ready (need_on (line ∷ rest)) at b = ready_behind front (line ∷ rest) old at a b all p led in
    ready_one line at b (ready_front (line ∷ []) rest at b left)

-- one round of a repeat stands behind those before it
pub round_split : (round times : ℕ) (body : List BlockLine) → round < times → copies times body ≡ copies round body ++ (body ++ copies (times - (round + 1)) body)
round_split round times body low =
    let left : ℕ = times - (round + 1) in
    let e : times ≡ round + suc left = omega (arith, low) in
    ap (λ n. copies n body) e ∙ (copies_then round (suc left) body ∙ ap (λ (z : List BlockLine). copies round body ++ z) (one_copy left body))

pub ready_round : (round times : ℕ) (body : List BlockLine) (old at : Book) (a b : Store) → round < times → Ready (need_on (copies times body)) old a → Advanced (need_on (copies round body)) old at a b → SomeLed b.reached → Ready (need_on body) at b
ready_round round times body old at a b low r p led =
    let left : ℕ = times - (round + 1) in
    let all : Ready (need_on (copies round body ++ (body ++ copies left body))) old a = subst (λ (z : List BlockLine). Ready (need_on z) old a) (round_split round times body low) r in
    ready_front body (copies left body) at b (ready_behind (copies round body) (body ++ copies left body) old at a b all p led)

-- an action of a line
pub ready_acts : (errand : Errand) (spent entries : ℕ) (session : Book) (s : Store) → actions_of errand ≡ 1 → spent ≤ 20203 → entries ≤ cost_of errand → Ready (need_of errand) session s → MayAct spent entries s session.journal
ready_acts errand spent entries session s acts most some r = record {
  begun = r.begun;
  affords = record {
    left = omega (arith, acts, most, r.affords.left);
    draws = omega arith;
    room = omega (arith, some, r.affords.room);
  };
}

pub ready_rare : (errand : Errand) (session : Book) (s : Store) → actions_of errand ≡ 1 → Ready (need_of errand) session s → session.state.actions + 1 < 2 ^ 64
ready_rare errand session s acts r = omega (arith, acts, r.rare)

-- a session that settled what it held, by an action
pub acted_advanced : (errand : Errand) (spent entries : ℕ) (old new : Book) (was now : Store) → actions_of errand ≡ 1 → spent ≤ 20203 → entries ≤ cost_of errand
    → new.state ≡ record old.state { held = nothing_held; actions = old.state.actions + 1; last = new.state.last } → Used spent 0 entries was now old.journal new.journal → Advanced (need_of errand) old new was now
acted_advanced errand spent entries old new was now acts most some rest used =
    let drawn = ap (λ (s : State). s.drawn) rest in
    let actions = ap (λ (s : State). s.actions) rest in
    record {
      drawn = omega (arith, drawn);
      actions = omega (arith, actions, acts);
      rest = rest ∙ ap (λ (s : State). record old.state { clock = s.clock; drawn = s.drawn; opened = s.opened; held = s.held; actions = s.actions; last = s.last; nexts = s.nexts }) (sym rest);
      last = λ none. absurd (omega (arith, acts, none));
      depth = ap (λ (s : State). s.opened.depth) rest;
      wide = ap (λ (s : State). length s.held) rest ∙ none_wide;
      used = record {
        left = omega (arith, acts, most, used.left);
        draws = omega (arith, used.draws);
        no_more = used.no_more;
        hand = used.hand;
        words = used.words;
        name = used.name;
        room = omega (arith, some, used.room);
      };
    }

-- a session that is as it was, but for its journal
pub still_advanced : (errand : Errand) (entries : ℕ) (old new : Book) (was now : Store) → actions_of errand ≡ 0 → entries ≤ cost_of errand → length old.state.held ≡ 193 → new.state ≡ old.state → Used 0 0 entries was now old.journal new.journal
    → Advanced (need_of errand) old new was now
still_advanced errand entries old new was now acts some wide same used =
    let drawn = ap (λ (s : State). s.drawn) same in
    let actions = ap (λ (s : State). s.actions) same in
    record {
      drawn = omega (arith, drawn);
      actions = omega (arith, actions, acts);
      rest = same ∙ ap (λ (s : State). record old.state { clock = s.clock; drawn = s.drawn; opened = s.opened; held = s.held; actions = s.actions; last = s.last; nexts = s.nexts }) (sym same);
      last = λ none. ap (λ (s : State). s.last) same;
      depth = ap (λ (s : State). s.opened.depth) same;
      wide = ap (λ (s : State). length s.held) same ∙ wide;
      used = record {
        left = omega (arith, used.left);
        draws = omega (arith, used.draws);
        no_more = used.no_more;
        hand = used.hand;
        words = used.words;
        name = used.name;
        room = omega (arith, some, used.room);
      };
    }

-- a line that is no text of SQL is no action
pub no_action : (line : BlockLine) → ((text : List ℕ) → line ≡ said.Sql text → ⊥) → actions_of (errand_on line) ≡ 0
no_action (said.Wait class) plain = refl
no_action (said.TableWait class table) plain = refl
no_action (said.Statement class digest) plain = refl
no_action (said.Transaction access) plain = refl
no_action (said.Stage class) plain = refl
no_action said.StageEnd plain = refl
no_action (said.Spend time) plain = refl
no_action said.End plain = refl
no_action (said.EndStatement numbers) plain = refl
no_action said.Quit plain = refl
no_action (said.Sql text) plain = absurd (plain text refl)
no_action (said.Repeat times) plain = refl
no_action said.Done plain = refl

pub event_advanced : (line : BlockLine) (old new : Book) (was now : Store) → actions_of (errand_on line) ≡ 0 → new.state.drawn ≤ old.state.drawn + 1
    → new.state ≡ record old.state { clock = new.state.clock; drawn = new.state.drawn; opened = new.state.opened; held = new.state.held; nexts = new.state.nexts } → new.state.opened.depth ≡ old.state.opened.depth
    → length new.state.held ≡ 193 → Used 11 2 (cost_of (errand_on line)) was now old.journal new.journal → Advanced (need_of (errand_on line)) old new was now
event_advanced line old new was now none drawn rest depth wide used =
    let actions = ap (λ (s : State). s.actions) rest in
    record {
      drawn = drawn;
      actions = omega (arith, none, actions);
      rest = rest ∙ ap (λ (s : State). record old.state { clock = s.clock; drawn = s.drawn; opened = s.opened; held = s.held; actions = s.actions; last = s.last; nexts = s.nexts }) (sym rest);
      last = λ rare. ap (λ (s : State). s.last) rest;
      depth = depth;
      wide = wide;
      used = record {
        left = omega (arith, used.left);
        draws = used.draws;
        no_more = used.no_more;
        hand = used.hand;
        words = used.words;
        name = used.name;
        room = used.room;
      };
    }

-- what holds where a call came to its end
pub on_ok_two : {T E P Q R : Type 0} (r : Result T E) → (P → Q → R) → OnOk r P → OnOk r Q → OnOk r R
on_ok_two (Ok v) f p q = f p q
on_ok_two (Err e) f p q = tt

pub on_ok_three : {T E P Q R S : Type 0} (r : Result T E) → (P → Q → R → S) → OnOk r P → OnOk r Q → OnOk r R → OnOk r S
on_ok_three (Ok v) f p q s = f p q s
on_ok_three (Err e) f p q s = tt

-- one front of lines behind another
pub gone_both : (setting fixed : Setting) (change : Label → Change) (whole mid rest : List BlockLine) (old at new : Book) (answers behind last : List Answer) (was then now : Store) → HaveGone setting fixed change whole mid old at answers behind was then
    → HaveGone setting fixed change mid rest at new behind last then now → HaveGone setting fixed change whole rest old new answers last was now
gone_both setting fixed change whole mid rest old at new answers behind last was then now p q = record {
  first = p.first ++ q.first;
  are = p.are ∙ (ap (λ (l : List BlockLine). p.first ++ l) q.are ∙ sym (append_assoc p.first q.first rest));
  played = played_both setting fixed change p.first q.first old at new answers behind last was.reached then.reached now.reached p.played q.played;
  advanced = advanced_both p.first q.first old at new was then now p.advanced q.advanced;
}

pub gone_nowhere : (setting fixed : Setting) (change : Label → Change) (whole : List BlockLine) (old : Book) (answers : List Answer) (was : Store) → length old.state.held ≡ 193 → HaveGone setting fixed change whole whole old old answers answers was was
gone_nowhere setting fixed change whole old answers was wide = record {
  first = [];
  are = refl;
  played = played_nothing setting fixed change old answers was.reached;
  advanced = advanced_none old was wide;
}

-- what is left suffices for the lines behind
pub gone_ready : (setting fixed : Setting) (change : Label → Change) (whole rest : List BlockLine) (old new : Book) (answers behind : List Answer) (was now : Store) → HaveGone setting fixed change whole rest old new answers behind was now → Ready (need_on whole) old was
    → Ready (need_on rest) new now
gone_ready setting fixed change whole rest old new answers behind was now p r =
    ready_behind p.first rest old new was now (subst (λ (z : List BlockLine). Ready (need_on z) old was) p.are r) p.advanced (led_on fixed change p.played.parts old new was.reached now.reached p.played.done r.begun)

-- all were played where nothing is left
gone_all : (whole rest first : List BlockLine) → rest ≡ [] → whole ≡ first ++ rest → first ≡ whole
gone_all whole rest first none are = sym (are ∙ (ap (λ (l : List BlockLine). first ++ l) none ∙ append-nil first))

pub gone_whole : (setting fixed : Setting) (change : Label → Change) (whole rest : List BlockLine) (old new : Book) (answers behind : List Answer) (was now : Store) → rest ≡ [] → HaveGone setting fixed change whole rest old new answers behind was now
    → HavePlayed setting fixed change whole old new answers behind was.reached now.reached
gone_whole setting fixed change whole rest old new answers behind was now none p = subst (λ (l : List BlockLine). HavePlayed setting fixed change l old new answers behind was.reached now.reached) (gone_all whole rest p.first none p.are) p.played

pub gone_advanced : (setting fixed : Setting) (change : Label → Change) (whole rest : List BlockLine) (old new : Book) (answers behind : List Answer) (was now : Store) → rest ≡ [] → HaveGone setting fixed change whole rest old new answers behind was now
    → Advanced (need_on whole) old new was now
gone_advanced setting fixed change whole rest old new answers behind was now none p = subst (λ (l : List BlockLine). Advanced (need_on l) old new was now) (gone_all whole rest p.first none p.are) p.advanced
