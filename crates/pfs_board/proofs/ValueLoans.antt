-- The steps that hand the kept value over and change no word: it is lent, its empty slot goes home and comes back, and the value goes home.
use Rattle.std.proofs.Common.{◌≡◌, ℕ, subst, ◌+◌, ◌*◌, ◌%◌, ◌<◌, ◌≢◌, ◌⊎◌, Bool, true, false, List, [], ◌∷◌, length, get_or, set, sym, refl, ap, ◌∙◌, inl, inr, ⊎_elim, arith}
use Rattle.std.specs.Prelude.{Option, Some, None}
use Rattle.std.proofs.lemmas.Bool.{cases_Bool}
use Rattle.pfs_lemmas.proofs.Bools.{true_not_false}
use mathlib.Core.Option.{some, none, some-injective}
use mathlib.Core.Option as maybe
use lib.ListN.{get_elem?}
use lib.Seq.{set-get_or}
use Rattle.atomic_table.specs.Table.{State, Me, step, stepped, takes, gives, Allows}
use Rattle.atomic_table.proofs.Lists.{at_set, set_here}
use Rattle.pfs_board.specs.declared.view.Label.{Label}
use Rattle.pfs_board.specs.declared.view.Stage.{Stage}
use Rattle.pfs_board.specs.declared.view.Stage.TheVariants.{Idle, Reading, Holding}
use Rattle.pfs_board.specs.declared.view.View.{View}
use Rattle.pfs_board.specs.WholeSeats.{History}
use Rattle.pfs_board.specs.History.{labels_of}
use Rattle.pfs_board.specs.Knowledge.{corner, is_holding, IsWhole, version_held, found_in, stored_in, lent_with, restored, halfway}
use Rattle.pfs_board.specs.Rule.{Moment, lock, Knows, IsInside, Fits, IsHome, Ruled}
use Rattle.pfs_board.specs.Plays.{hands, fetches, lends, restores}
use Rattle.pfs_board.proofs.RuleSteps.{no_change, whole_is_one, moved_on, same_row, same_everywhere, holders_set}
use Rattle.pfs_board.proofs.Looks.{here}
use Rattle.pfs_board.proofs.Publications.{holding_knows}
use Rattle.pfs_board.proofs.BoardEnds.{ended, value_home}

-- what is held, in its parts
pub holding_is : (st : Stage) → is_holding st ≡ true → st ≡ Holding (version_held st) (found_in st) (stored_in st)
holding_is Idle h = cc
holding_is (Reading k xs) h = cc
holding_is (Holding k found put) h = refl

module _ {K : Type 0} (means : K → List Label → Type 0) (start : List ℕ) where
  abbrev St : Type 0
  St = State (Option K) View

  abbrev M : Type 0
  M = Me (Option K) View

  abbrev Rule : St → Type 0
  Rule = Ruled means start

  abbrev Homes : Type 0
  Homes = List (maybe.Option (Option K))

  -- a seat that the value is out with holds row 0, or is alone
  pub out_with : (s : St) (r : Rule s) (id : ℕ) (v : View) → get_elem? s.views id ≡ some v → v.live ≡ true → v.lent ≡ true → ((lock (here means start s r) 0 % 4 ≡ 1) × (id ≡ r.holder 0)) ⊎ IsWhole v
  out_with s r id v at live out = let f = r.seats id v at live in ⊎_elim (λ x. inr (x.2 out).0) (λ x. inl (holding_knows start (here means start s r) id 0 (corner v 0).stage x.1 (f.corners 0).knows)) f.inside

  pub spent_home : (s : St) (r : Rule s) (j : ℕ) (u : View) → get_elem? s.views j ≡ some u → u.lent ≡ true → u.live ≡ true
  spent_home s r j u there out = ⊎_elim (λ u_live. u_live) (λ dead. absurd (true_not_false u.lent out (ap (λ (x : View). x.lent) (r.joint.spent_is j u there dead)))) (cases_Bool u.live)

  -- a seat that is alone is the only one that the value can be out with
  pub alone_out : (s : St) (r : Rule s) (id : ℕ) (v : View) → get_elem? s.views id ≡ some v → IsWhole v → (j : ℕ) (u : View) → get_elem? s.views j ≡ some u → u.lent ≡ true → j ≡ id
  alone_out s r id v at whole j u there out = sym (whole_is_one means start (here means start s r) s.homes s.views r.joint j id u v there (r.seats j u there (spent_home s r j u there out)).some_left at whole)

  module _ (s : St) (r : Rule s) (id : ℕ) (v : View) (at : get_elem? s.views id ≡ some v) (live : v.live ≡ true) (out : v.lent ≡ true) where
    abbrev t : Moment
    t = here means start s r

    -- the value is out with one seat
    pub out_once : (j : ℕ) (u : View) → get_elem? s.views j ≡ some u → u.lent ≡ true → j ≡ id
    out_once j u there u_out = ⊎_elim
        (λ (a : (lock t 0 % 4 ≡ 1) × (id ≡ r.holder 0)). ⊎_elim (λ (b : (lock t 0 % 4 ≡ 1) × (j ≡ r.holder 0)). b.1 ∙ sym a.1)
        (λ whole. whole_is_one means start t s.homes s.views r.joint id j v u at (r.seats id v at live).some_left there whole)
        (out_with s r j u there (spent_home s r j u there u_out) u_out))
        (λ whole. alone_out s r id v at whole j u there u_out)
        (out_with s r id v at live out)

    -- while it is out with another seat than the root, row 0 is dirty
    away : (u : View) → get_elem? s.views 0 ≡ some u → u.lent ≡ false → lock t 0 % 4 ≡ 1
    away u there not_out = ⊎_elim (λ (a : (lock t 0 % 4 ≡ 1) × (id ≡ r.holder 0)). a.0)
        (λ whole. let o = r.joint.root_is in let is_root = whole_is_one means start t s.homes s.views r.joint 0 id o.0 v o.1 (r.seats 0 o.0 o.1 o.2.here).some_left at whole in
        let same : u ≡ v = some-injective _ _ (sym there ∙ (ap (get_elem? s.views) (sym is_root) ∙ at)) in absurd (true_not_false v.lent out (ap (λ (x : View). x.lent) (sym same) ∙ not_out)))
        (out_with s r id v at live out)

    pub home_away : (w : View) → w.lent ≡ true → (homes : Homes) (u : View) → get_elem? (set s.views id w) 0 ≡ some u → IsHome start t means homes u.lent
    home_away w w_out homes u there not_out clean = ⊎_elim (λ (h : (0 ≡ id) × (w ≡ u)). absurd (true_not_false u.lent (ap (λ (x : View). x.lent) (sym h.1) ∙ w_out) not_out))
        (λ (h : (0 ≢ id) × (get_elem? s.views 0 ≡ some u)). absurd (clean (away u h.1 not_out))) (at_set s.views id 0 w u there)

  handed_fits : (t : Moment) (id : ℕ) (v : View) (l m : Bool) (labels : List Label) → Fits start t id v → IsInside start t (record v { lent = l; moving = m; labels = labels }) → Fits start t id (record v { lent = l; moving = m; labels = labels })
  handed_fits t id v l m labels f inside = record {
    number_is = f.number_is;
    start_is = f.start_is;
    wide = f.wide;
    some_left = f.some_left;
    enough = f.enough;
    corners = f.corners;
    inside = inside;
    ended = f.ended;
    split_at = f.split_at;
    reads = f.reads;
    sights = f.sights;
    entered = f.entered;
  }

  -- a step after which the value's place alone is another
  handed : (s : St) (r : Rule s) (i id : ℕ) (homes : Homes) (v : View) (l m : Bool) (labels : List Label) → get_elem? s.views id ≡ some v → v.live ≡ true → IsInside start (here means start s r) (record v { lent = l; moving = m; labels = labels })
      → ((u : View) → get_elem? (set s.views id (record v { lent = l; moving = m; labels = labels })) 0 ≡ some u → IsHome start (here means start s r) means homes u.lent)
      → ((j : ℕ) (u : View) → get_elem? (set s.views id (record v { lent = l; moving = m; labels = labels })) j ≡ some u → u.lent ≡ true → u.moving ≡ false → get_elem? homes 0 ≡ some (some None))
      → Rule record { words = set s.words i (get_or s.words i 0); homes = homes; views = set s.views id (record v { lent = l; moving = m; labels = labels }) }
  handed s r i id homes v l m labels at live inside home empty = let t : Moment = here means start s r in let f = r.seats id v at live in let w : View = record v { lent = l; moving = m; labels = labels } in
      subst (λ (ws : List ℕ). Rule record { words = ws; homes = homes; views = set s.views id w }) (sym (set-get_or s.words i 0))
      (moved_on means start s r s.words r.holder homes id v w at f.some_left record { live_is = live; made_is = refl; allowance_is = refl; seats_is = refl } refl r.joint.current home empty (no_change start id t) (handed_fits t id v l m labels f inside)
      (λ q there. same_row start t t s.views (set s.views id w) q (same_everywhere means start t q) (holders_set means start s.views id v w q at live (λ g. g) (r.holder q)) (r.rows q there)))

  pub hand_keeps : (slots id : ℕ) (me : M) (i : ℕ) → 0 < slots → me.0.live ≡ true → me.0.lent ≡ true → me.1 ≡ (0, None) ∷ [] → Allows Rule slots id me i (λ n. n) (hands (step slots i 0 0 none) me)
  hand_keeps slots id me i some_slot live out carried s r many at _ = let v : View = me.0 in let f = r.seats id v at live in let w : View = halfway v false in (
    w,
    gives,
    tt,
    subst (λ (cs : List (ℕ × Option K)). Rule (stepped s i (get_or s.words i 0) id cs w gives)) (sym carried)
        (handed s r i id (set s.homes 0 (some None)) v v.lent false v.labels at live f.inside (home_away s r id v at live out w out (set s.homes 0 (some None))) (λ j u there lent rests. set_here s.homes 0 (some None) (omega arith))),
    refl,
  )

  pub fetch_keeps : (slots id : ℕ) (me : M) → 0 < length start → me.0.live ≡ true → me.0.moving ≡ false → (me.0.lent ≡ true) ⊎ (0 < me.0.action) → Allows Rule slots id me 0 (λ n. n) (fetches (step slots 0 0 0 none) me)
  fetch_keeps slots id me some_row live rests some_out s r many at _ = let v : View = me.0 in let t : Moment = here means start s r in let f = r.seats id v at live in let w : View = halfway v true in
      let out : v.lent ≡ true = ⊎_elim (λ e. e) (λ inside. ⊎_elim (λ x. let z = x.0 in absurd (omega arith)) (λ x. x.2) f.inside) some_out in (
        w,
        takes 0 None,
        r.joint.empty id v at out rests,
        handed s r 0 id (set s.homes 0 none) v v.lent true v.labels at live f.inside (home_away s r id v at live out w out (set s.homes 0 none))
            (λ j u there lent still. ⊎_elim (λ (h : (j ≡ id) × (w ≡ u)). absurd (true_not_false u.moving (ap (λ (x : View). x.moving) (sym h.1)) still)) (λ (h : (j ≢ id) × (get_elem? s.views j ≡ some u)). absurd (h.0 (out_once s r id v at live out j u h.1 lent))) (at_set s.views id j w u there)),
        (
          refl,
          λ inside. ⊎_elim (λ x. let z = x.0 in absurd (omega arith))
              (λ x. let st : Stage = (corner v 0).stage in let k : ℕ = version_held st in let known = subst (Knows start t id 0) (holding_is st x.1) (f.corners 0).knows in let word : lock t 0 ≡ 4 * k + 1 = known.0 in let counts = (r.rows 0 some_row).counts in
              let next = x.0 in record { holds = x.1; next = omega arith }) f.inside,
        ),
      )

  pub lend_keeps : (slots id : ℕ) (me : M) → 0 < length start → me.0.live ≡ true → IsWhole me.0 → me.0.action ≡ 0 → me.0.lent ≡ false → Allows Rule slots id me 0 (λ n. n) (lends means (step slots 0 0 0 none) me)
  lend_keeps slots id me some_row live whole outside home s r many at _ = let v : View = me.0 in let t : Moment = here means start s r in let f = r.seats id v at live in
      let not_held : is_holding (corner v 0).stage ≡ false = ⊎_elim (λ x. x.1) (λ x. let z = x.0 in absurd (omega arith)) f.inside in
      let value = value_home means start s r id v at live whole not_held some_row home in let o = r.joint.root_is in
      let told = ended means start s r id v at live whole not_held some_row s.words refl in
      let own : (h : History v.start s.words v) × (h.t.log ≡ r.log) = subst (λ z. (h : History z s.words v) × (h.t.log ≡ r.log)) (sym f.start_is) told in
      let labels : List Label = labels_of own.0.t.log in let labels_are : labels ≡ labels_of r.log = ap labels_of own.1 in
      let w : View = halfway (lent_with v labels) true in
      let is_root : id ≡ 0 = whole_is_one means start t s.homes s.views r.joint 0 id o.0 v o.1 (r.seats 0 o.0 o.1 o.2.here).some_left at whole in (
        w,
        takes 0 (Some value.0),
        value.1,
        handed s r 0 id (set s.homes 0 none) v true true labels at live (inl (outside, not_held, λ _. (whole, labels_are)))
            (λ u there not_out. ⊎_elim (λ (h : (0 ≡ id) × (w ≡ u)). absurd (true_not_false u.lent (ap (λ (x : View). x.lent) (sym h.1)) not_out)) (λ (h : (0 ≢ id) × (get_elem? s.views 0 ≡ some u)). absurd (h.0 (sym is_root))) (at_set s.views id 0 w u there))
            (λ j u there lent still. ⊎_elim (λ (h : (j ≡ id) × (w ≡ u)). absurd (true_not_false u.moving (ap (λ (x : View). x.moving) (sym h.1)) still)) (λ (h : (j ≢ id) × (get_elem? s.views j ≡ some u)). absurd (h.0 (alone_out s r id v at whole j u h.1 lent))) (at_set s.views id j w u there)),
        (s.words, own.0, value.0, subst (means value.0) (sym labels_are) value.2, refl),
      )

  pub restore_keeps : (slots id : ℕ) (me : M) (y : K) (i : ℕ) → 0 < slots → me.0.live ≡ true → me.0.action ≡ 0 → me.0.lent ≡ true → me.1 ≡ (0, Some y) ∷ [] → means y me.0.labels → Allows Rule slots id me i (λ n. n) (restores (step slots i 0 0 none) me)
  restore_keeps slots id me y i some_slot live outside out carried stands s r many at _ = let v : View = me.0 in let t : Moment = here means start s r in let f = r.seats id v at live in let w : View = halfway (restored v) false in
      ⊎_elim (λ x. (
        w,
        gives,
        tt,
        subst (λ (cs : List (ℕ × Option K)). Rule (stepped s i (get_or s.words i 0) id cs w gives)) (sym carried)
            (handed s r i id (set s.homes 0 (some (Some y))) v false false [] at live (inl (outside, x.1, λ out. cc))
            (λ u there _ _. (y, set_here s.homes 0 (some (Some y)) (omega arith), subst (means y) (x.2 out).1 stands))
            (λ j u there lent still. ⊎_elim (λ (h : (j ≡ id) × (w ≡ u)). absurd (true_not_false u.lent lent (ap (λ (z : View). z.lent) (sym h.1)))) (λ (h : (j ≢ id) × (get_elem? s.views j ≡ some u)). absurd (h.0 (out_once s r id v at live out j u h.1 lent))) (at_set s.views id j w u there))),
        refl,
      )) (λ x. let z = x.0 in absurd (omega arith)) f.inside
