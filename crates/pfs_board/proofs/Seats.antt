-- A seat is split off, and taken in again.
use Rattle.std.proofs.Common.{◌≡◌, ℕ, subst, zero, suc, ◌+◌, ◌*◌, ◌/◌, ◌<◌, ◌≤◌, ◌≢◌, ◌⊎◌, true, false, List, [], ◌∷◌, ◌++◌, length, get_or, set, max, sym, refl, ap, ◌∙◌, inl, inr, ⊎_elim, arith, length-set, length-append}
use Rattle.std.specs.Prelude.{Option, Some, None}
use Rattle.pfs_lemmas.proofs.Bools.{true_not_false}
use mathlib.Core.Logic.{dite}
use mathlib.Core.Option.{some, some-injective, some-ne-none}
use native.Mathlib.Decide.{ℕ_discrete}
use lib.ListN.{get_elem?}
use Rattle.atomic_table.specs.Table.{State, Splits, Joins}
use Rattle.atomic_table.proofs.Lists.{at_set, set_here, set_else, at_longer}
use Rattle.pfs_board.specs.declared.view.Change.{Change}
use Rattle.pfs_board.specs.declared.view.Corner.{Corner}
use Rattle.pfs_board.specs.declared.view.Label.{Label}
use Rattle.pfs_board.specs.declared.view.Stage.{Stage}
use Rattle.pfs_board.specs.declared.view.Stage.TheVariants.{Idle, Reading, Holding}
use Rattle.pfs_board.specs.declared.view.View.{View}
use Rattle.pfs_board.specs.History.{total, Each, step_of, version, oldest, shows_to, Floor}
use Rattle.pfs_board.specs.Knowledge.{corner, is_holding, held, IsWhole, settled, split_left, split_right, joined, spent}
use Rattle.pfs_board.specs.Rule.{Moment, Knows, IsRead, IsKnown, IsSeen, IsSight, IsEntered, IsLast, IsInside, FitsRow, Fits, IsRoot, IsHome, Joint, Ruled}
use Rattle.pfs_board.proofs.HistoryFacts.{each_map, each_append, total_append, oldest_append, floor_had}
use Rattle.pfs_board.proofs.ViewFacts.{total_set, held_none, settled_holds, corners_stale, corners_start, corners_merged, length_stale, length_start, length_merged, held_stale, held_start, held_merged, at_below}
use Rattle.pfs_board.proofs.RuleSteps.{Later, whole_is_one, spent_set, lent_set}
use Rattle.pfs_board.proofs.Looks.{here}

-- the last of a list that is one longer has its length for its place
at_end : {A : Type 0} (l : List A) (a b : A) (j : ℕ) → get_elem? (l ++ a ∷ []) j ≡ some b → (get_elem? l j ≡ some b) ⊎ ((j ≡ length l) × (a ≡ b))
at_end [] a b zero e = inr (refl, some-injective a b e)
at_end [] a b (suc j) e = absurd (some-ne-none b (sym e))
at_end (x ∷ xs) a b zero e = inl e
at_end (x ∷ xs) a b (suc j) e = ⊎_elim (λ h. inl h) (λ (h : (j ≡ length xs) × (a ≡ b)). inr (ap suc h.0, h.1)) (at_end xs a b j e)

settled_knows : (start : List ℕ) (t : Moment) (seat r : ℕ) (st : Stage) → Knows start t seat r st → Knows start t seat r (settled st)
settled_knows start t seat r Idle k = tt
settled_knows start t seat r (Reading v xs) k = tt
settled_knows start t seat r (Holding v found put) k = k

settled_reads : (st : Stage) (k : ℕ) (xs : List ℕ) → settled st ≡ Reading k xs → ⊥
settled_reads Idle k xs e = cc
settled_reads (Reading v ys) k xs e = cc
settled_reads (Holding v found put) k xs e = cc

max_below : (a b n : ℕ) → a ≤ n → b ≤ n → max a b ≤ n
max_below a b n h g = omega arith

module _ (start : List ℕ) where
  -- a corner that is fresh no more
  pub settled_row : (t : Moment) (seat r after after' base : ℕ) (whole whole' : Type 0) (c : Corner) (n : ℕ) → n ≤ version t.log r → FitsRow start t seat r after base whole c
      → FitsRow start t seat r after' base whole' (record c { stage = settled c.stage; fresh = false; seen = n })
  settled_row t seat r after after' base whole whole' c n below f = record {
    knows = settled_knows start t seat r c.stage f.knows;
    seen = below;
    last = f.last;
    tied = λ k xs e. absurd (settled_reads c.stage k xs e);
    known = λ m fresh e. cc;
    alone = λ w m fresh e. cc;
  }

  settled_inside : (t : Moment) (v w : View) → w.action ≡ v.action → w.after ≡ v.after → w.lent ≡ v.lent → w.labels ≡ v.labels → is_holding (corner w 0).stage ≡ is_holding (corner v 0).stage → (v.action ≡ 0 → v.lent ≡ true → IsWhole v → IsWhole w) → IsInside start t v → IsInside start t w
  settled_inside t v w a b c d h whole i = ⊎_elim (λ x. inl (a ∙ x.0, h ∙ x.1, λ out. let y = x.2 (sym c ∙ out) in (whole x.0 (sym c ∙ out) y.0, d ∙ y.1))) (λ x. inr (a ∙ x.0, h ∙ x.1, c ∙ x.2, d ∙ x.3, b ∙ x.4)) i

  abbrev with_had : Moment → List Change → Moment
  with_had t had = record { words = t.words; log = t.log; had = had; holder = t.holder }

  floor_more : (f : Change → ℕ) (t : Moment) (more : List Change) (row k after base : ℕ) → Floor f t.log t.had row k after base → Floor f t.log (more ++ t.had) row k after base
  floor_more f t more row k after base o = let e = length-append more t.had in floor_had f t.log t.had row k after base (more ++ t.had) (omega arith) (oldest_append base more t.had o.split_at) o

  known_more : (t : Moment) (more : List Change) (row n after base : ℕ) → IsKnown start t row n after base → IsKnown start (with_had t (more ++ t.had)) row n after base
  known_more t more row n after base a = record { state = a.state; below = a.below; free = a.free; opened = a.opened; floor = floor_more _ t more row (n / 4) after base a.floor }

  seen_more : (t : Moment) (more : List Change) (by row n after base : ℕ) → IsSeen start t by row n after base → IsSeen start (with_had t (more ++ t.had)) by row n after base
  seen_more t more by row n after base a = record { known = known_more t more row n after base a.known; dirty = a.dirty }

  knows_more : (t : Moment) (more : List Change) (j r : ℕ) (st : Stage) → Knows start t j r st → Knows start (with_had t (more ++ t.had)) j r st
  knows_more t more j r Idle k = tt
  knows_more t more j r (Reading v xs) k = k
  knows_more t more j r (Holding v found put) k = k

  last_more : (t : Moment) (more : List Change) (j r : ℕ) (k : Option ℕ) → IsLast start t j r k → IsLast start (with_had t (more ++ t.had)) j r k
  last_more t more j r None k = k
  last_more t more j r (Some n) k = k

  -- the root has more changes, and nothing else is new
  later_more : (me : ℕ) (t : Moment) (more : List Change) → Later start me t (with_had t (more ++ t.had))
  later_more me t more = record {
    knows = λ j r st n k. knows_more t more j r st k;
    version_up = λ r. omega arith;
    last = λ j r k n l. last_more t more j r k l;
    inside = λ j v n w k i. i;
    known = known_more t more;
    read = λ f a. record { below = a.below; wide = a.wide; content_is = a.content_is; opened = a.opened; floor = floor_more _ t more f.row f.version f.after f.base a.floor };
    sight = λ x a. record { one = seen_more t more x.by x.row x.first x.after x.base a.one; two = seen_more t more x.by x.row x.second x.after x.base a.two; shape = a.shape; order = a.order; again = a.again; between = a.between };
    entered = λ e a. record { count = a.count; later = a.later; labels_are = a.labels_are };
    had_more = let e = length-append more t.had in omega arith;
  }

  -- what an unlike seat knows, where the root's changes alone are more
  other_more : (t : Moment) (more : List Change) (j : ℕ) (v : View) → Fits start t j v → Fits start (with_had t (more ++ t.had)) j v
  other_more t more j v f = let later = later_more j t more in let e = length-append more t.had in let b = f.split_at in record {
    number_is = f.number_is;
    start_is = f.start_is;
    wide = f.wide;
    some_left = f.some_left;
    enough = f.enough;
    corners = λ r. let c = f.corners r in record {
      knows = knows_more t more j r (corner v r).stage c.knows;
      seen = c.seen;
      last = last_more t more j r (corner v r).last c.last;
      tied = c.tied;
      known = λ n fresh last. known_more t more r n v.after v.base (c.known n fresh last);
      alone = c.alone;
    };
    inside = f.inside;
    ended = f.ended;
    split_at = omega arith;
    reads = each_map (IsRead start t) (IsRead start (with_had t (more ++ t.had))) later.read v.reads f.reads;
    sights = each_map (IsSight start t) (IsSight start (with_had t (more ++ t.had))) later.sight v.sights f.sights;
    entered = each_map (IsEntered start t) (IsEntered start (with_had t (more ++ t.had))) later.entered v.entered f.entered;
  }

module _ {K : Type 0} (means : K → List Label → Type 0) (start : List ℕ) where
  abbrev St : Type 0
  St = State (Option K) View

  abbrev Rule : St → Type 0
  Rule = Ruled means start

  -- the root is seat 0, and has made all others
  module _ (s : St) (r : Rule s) (id : ℕ) (v : View) (at : get_elem? s.views id ≡ some v) (live : v.live ≡ true) (first : v.number ≡ 0) where
    abbrev t : Moment
    t = here means start s r

    id_is : id ≡ 0
    id_is = sym (r.seats id v at live).number_is ∙ first

    root_here : IsRoot start t (length s.views) v
    root_here = let o = r.joint.root_is in let same : o.0 ≡ v = some-injective _ _ (sym o.1 ∙ (ap (get_elem? s.views) (sym id_is) ∙ at)) in subst (IsRoot start t (length s.views)) same o.2

    abbrev L : View
    L = split_left v

    abbrev R : View
    R = split_right v

    abbrev views' : List View
    views' = set s.views id L ++ R ∷ []

    length_views : length views' ≡ length s.views + 1
    length_views = let e = length-append (set s.views id L) (R ∷ []) in let g = length-set s.views id L in omega arith

    split_sum : (f : View → ℕ) → total f views' + f v ≡ total f s.views + f L + f R
    split_sum f = let e = total_append f (set s.views id L) (R ∷ []) in let g = total_set f s.views id v L at in let z : total f (R ∷ []) ≡ f R + 0 = refl in omega arith

    left_fits : held v.rows + get_or v.said 0 0 < v.allowance → (v.lent ≡ false) ⊎ (0 < v.action) → Fits start t id L
    left_fits room home = let f = r.seats id v at live in let h = held_stale v.rows in record {
      number_is = f.number_is;
      start_is = f.start_is;
      wide = ap (λ n. 17 * n) (length_stale v.rows) ∙ f.wide;
      some_left = omega arith;
      enough = omega arith;
      corners = λ q. corners_stale (FitsRow start t id q v.after v.base (IsWhole L)) v.rows q (settled_row start t id q v.after v.after v.base (IsWhole v) (IsWhole L) (corner v q) (corner v q).seen (f.corners q).seen (f.corners q));
      inside = settled_inside start t v L refl refl refl refl (corners_stale (λ c. is_holding c.stage ≡ is_holding (corner v 0).stage) v.rows 0 (settled_holds (corner v 0).stage)) (λ outside out _. absurd (⊎_elim (λ e. true_not_false v.lent out e) (λ e. omega arith) home)) f.inside;
      ended = f.ended;
      split_at = f.split_at;
      reads = f.reads;
      sights = f.sights;
      entered = f.entered;
    }

    right_fits : 0 < get_or v.said 0 0 → Fits start t (length s.views) R
    right_fits some_given = let f = r.seats id v at live in let o = root_here in let h = held_start v.rows in let m = ap length o.made in record {
      number_is = sym o.seats;
      start_is = f.start_is;
      wide = ap (λ n. 17 * n) (length_start v.rows) ∙ f.wide;
      some_left = omega arith;
      enough = omega arith;
      corners = λ q. corners_start (FitsRow start t (length s.views) q 0 (length v.made) (IsWhole R)) v.rows q record {
        knows = tt;
        seen = (f.corners q).seen;
        last = each_map (λ (p : Change). p.by < length s.views) (λ (p : Change). p.row ≡ q → p.by ≢ length s.views) (λ p b _ e. omega arith) r.log r.joint.makers;
        tied = λ k xs e. cc;
        known = λ n fresh e. cc;
        alone = λ w n fresh e. cc;
      };
      inside = inl (refl, corners_start (λ c. is_holding c.stage ≡ false) v.rows 0 refl, λ out. cc);
      ended = omega arith;
      split_at = omega arith;
      reads = tt;
      sights = tt;
      entered = tt;
    }

    split_rule : 0 < get_or v.said 0 0 → held v.rows + get_or v.said 0 0 < v.allowance → (v.lent ≡ false) ⊎ (0 < v.action) → Rule record { words = s.words; homes = s.homes; views = views' }
    split_rule some_given room home = let o = r.joint in let more = length_views in record {
      log = r.log;
      had = r.had;
      holder = r.holder;
      joint = record {
        wide = o.wide;
        chain = o.chain;
        counted = λ h. let e = split_sum (λ (x : View). total h x.made) in let c = o.counted h in omega arith;
        allowed = let e = split_sum (λ (x : View). x.allowance) in let c = o.allowed in omega arith;
        makers = each_map (λ (p : Change). p.by < length s.views) (λ (p : Change). p.by < length views') (λ p b. omega arith) r.log o.makers;
        floors = o.floors;
        current = o.current;
        root_is = (
          L,
          at_longer (set s.views id L) (R ∷ []) 0 L (ap (get_elem? (set s.views id L)) (sym id_is) ∙ set_here s.views id L (at_below s.views id v at)),
          record { here = live; seats = more ∙ ap (λ n. n + 1) root_here.seats; made = root_here.made },
          (let x = o.root_is in let same : x.0 ≡ v = some-injective _ _ (sym x.1 ∙ (ap (get_elem? s.views) (sym id_is) ∙ at)) in subst (λ (u : View). IsHome start t means s.homes u.lent) same x.3),
        );
        empty = λ j u there lent rests. ⊎_elim (λ e. lent_set means start s.homes s.views id v L at refl refl o.empty j u e lent rests) (λ (e : (j ≡ length (set s.views id L)) × (R ≡ u)). absurd (true_not_false u.lent lent (sym (ap (λ (x : View). x.lent) e.1)))) (at_end (set s.views id L) R u j there);
        spent_is = λ j u there dead. ⊎_elim (λ e. spent_set means start s.views id L live o.spent_is j u e dead) (λ (e : (j ≡ length (set s.views id L)) × (R ≡ u)). absurd (true_not_false u.live (sym (ap (λ (x : View). x.live) e.1)) dead)) (at_end (set s.views id L) R u j there);
      };
      seats = λ j u there u_live. ⊎_elim
          (λ e. ⊎_elim (λ (h : (j ≡ id) × (L ≡ u)). subst (λ (z : ℕ × View). Fits start t z.0 z.1) (λ i. (sym h.0 i, h.1 i)) (left_fits room home)) (λ (h : (j ≢ id) × (get_elem? s.views j ≡ some u)). r.seats j u h.1 u_live) (at_set s.views id j L u e))
          (λ (e : (j ≡ length (set s.views id L)) × (R ≡ u)). subst (λ (z : ℕ × View). Fits start t z.0 z.1) (λ i. (sym (e.0 ∙ length-set s.views id L) i, e.1 i)) (right_fits some_given))
          (at_end (set s.views id L) R u j there);
      rows = λ q inside. let g = r.rows q inside in record {
        counts = g.counts;
        state = g.state;
        clean = g.clean;
        free = g.free;
        allocated = g.allocated;
        dirty = λ z. let d = g.dirty z in dite (ℕ_discrete (r.holder q) id)
            (λ e. let same : d.0 ≡ v = some-injective _ _ (sym d.1 ∙ (ap (get_elem? s.views) e ∙ at)) in (
              L,
              at_longer (set s.views id L) (R ∷ []) (r.holder q) L (ap (get_elem? (set s.views id L)) e ∙ set_here s.views id L (at_below s.views id v at)),
              live,
              corners_stale (λ c. is_holding c.stage ≡ true) v.rows q (settled_holds (corner v q).stage ∙ subst (λ (x : View). is_holding (corner x q).stage ≡ true) same d.3),
            ))
            (λ n. (d.0, at_longer (set s.views id L) (R ∷ []) (r.holder q) d.0 (set_else s.views id (r.holder q) L n ∙ d.1), d.2, d.3));
      };
    }

    module _ (other : ℕ) (w : View) (apart : ¬ (other ≡ id)) (there : get_elem? (set s.views id (joined v w)) other ≡ some w) (w_live : w.live ≡ true) (empty : held w.rows ≡ 0) where
      abbrev B : View
      B = joined v w

      abbrev after : List View
      after = set (set s.views id B) other spent

      w_at : get_elem? s.views other ≡ some w
      w_at = sym (set_else s.views id other B apart) ∙ there

      abbrev u : Moment
      u = with_had start t (w.made ++ r.had)

      length_after : length after ≡ length s.views
      length_after = length-set (set s.views id B) other spent ∙ length-set s.views id B

      join_sum : (f : View → ℕ) → f spent ≡ 0 → total f after + f w + f v ≡ total f s.views + f B
      join_sum f z = let e = total_set f s.views id v B at in let g = total_set f (set s.views id B) other w spent there in omega arith

      same_width : length v.rows ≡ length w.rows
      same_width = let a = (r.seats id v at live).wide in let b = (r.seats other w w_at w_live).wide in omega arith

      both_fits : Fits start u id B
      both_fits = let f = r.seats id v at live in let g = r.seats other w w_at w_live in let later = later_more start id t (w.made) in let e = length-append w.made r.had in let b = f.split_at in let h = held_merged v.rows w.rows in
          let m = other_more start t w.made id v f in let a = total_append step_of w.made v.made in let c = f.some_left in let d = f.enough in record {
            number_is = f.number_is;
            start_is = f.start_is;
            wide = ap (λ n. 17 * n) (length_merged v.rows w.rows) ∙ f.wide;
            some_left = omega arith;
            enough = omega arith;
            corners = λ q. corners_merged (FitsRow start u id q v.after v.base (IsWhole B)) v.rows w.rows q same_width
                (settled_row start u id q v.after v.after v.base (IsWhole v) (IsWhole B) (corner v q) (max (corner v q).seen (corner w q).seen) (max_below (corner v q).seen (corner w q).seen (version r.log q) (f.corners q).seen (g.corners q).seen) (m.corners q));
            inside = settled_inside start u v B refl refl refl refl (corners_merged (λ c. is_holding c.stage ≡ is_holding (corner v 0).stage) v.rows w.rows 0 same_width (settled_holds (corner v 0).stage))
                (λ _ _ whole. absurd (apart (sym (whole_is_one means start t s.homes s.views r.joint other id w v w_at g.some_left at whole)))) m.inside;
            ended = f.ended;
            split_at = omega arith;
            reads = each_append (IsRead start u) w.reads v.reads (each_map (IsRead start t) (IsRead start u) later.read w.reads g.reads) m.reads;
            sights = each_append (IsSight start u) w.sights v.sights (each_map (IsSight start t) (IsSight start u) later.sight w.sights g.sights) m.sights;
            entered = each_append (IsEntered start u) w.entered v.entered (each_map (IsEntered start t) (IsEntered start u) later.entered w.entered g.entered) m.entered;
          }

      join_floor : (p : Change) → (p.base ≤ length t.had) × Each (λ (e : Change). e.row ≡ p.row → shows_to p e ≤ p.version) (oldest p.base t.had) → (p.base ≤ length u.had) × Each (λ (e : Change). e.row ≡ p.row → shows_to p e ≤ p.version) (oldest p.base u.had)
      join_floor p o = let e = length-append w.made r.had in let b = o.0 in (omega arith, subst (Each (λ (e : Change). e.row ≡ p.row → shows_to p e ≤ p.version)) (sym (oldest_append p.base w.made r.had b)) o.1)

      join_joint : Joint means start u s.homes after
      join_joint = let o = r.joint in record {
        wide = o.wide;
        chain = o.chain;
        counted = λ h. let e = join_sum (λ (x : View). total h x.made) refl in let c = o.counted h in let a = total_append h w.made v.made in omega arith;
        allowed = let e = join_sum (λ (x : View). x.allowance) refl in let c = o.allowed in omega arith;
        makers = subst (λ n. Each (λ (p : Change). p.by < n) r.log) (sym length_after) o.makers;
        floors = each_map (λ (p : Change). (p.base ≤ length t.had) × Each (λ (e : Change). e.row ≡ p.row → shows_to p e ≤ p.version) (oldest p.base t.had)) (λ (p : Change). (p.base ≤ length u.had) × Each (λ (e : Change). e.row ≡ p.row → shows_to p e ≤ p.version) (oldest p.base u.had)) join_floor r.log o.floors;
        current = o.current;
        root_is = (
          B,
          set_else (set s.views id B) other 0 spent (λ e. apart (sym e ∙ sym id_is)) ∙ (ap (get_elem? (set s.views id B)) (sym id_is) ∙ set_here s.views id B (at_below s.views id v at)),
          record { here = live; seats = length_after ∙ root_here.seats; made = ap (λ z. w.made ++ z) root_here.made },
          (let x = o.root_is in let same : x.0 ≡ v = some-injective _ _ (sym x.1 ∙ (ap (get_elem? s.views) (sym id_is) ∙ at)) in subst (λ (y : View). IsHome start u means s.homes y.lent) same x.3),
        );
        empty = λ j y e lent rests. ⊎_elim (λ (h : (j ≡ other) × (spent ≡ y)). absurd (true_not_false y.lent lent (sym (ap (λ (x : View). x.lent) h.1)))) (λ (h : (j ≢ other) × (get_elem? (set s.views id B) j ≡ some y)). lent_set means start s.homes s.views id v B at refl refl o.empty j y h.1 lent rests) (at_set (set s.views id B) other j spent y e);
        spent_is = λ j y e dead. ⊎_elim (λ (h : (j ≡ other) × (spent ≡ y)). sym h.1) (λ (h : (j ≢ other) × (get_elem? (set s.views id B) j ≡ some y)). spent_set means start s.views id B live o.spent_is j y h.1 dead) (at_set (set s.views id B) other j spent y e);
      }

      join_rule : Rule record { words = s.words; homes = s.homes; views = after }
      join_rule = record {
        log = r.log;
        had = w.made ++ r.had;
        holder = r.holder;
        joint = join_joint;
        seats = λ j y e y_live. ⊎_elim (λ (h : (j ≡ other) × (spent ≡ y)). absurd (true_not_false y.live y_live (sym (ap (λ (x : View). x.live) h.1))))
            (λ (h : (j ≢ other) × (get_elem? (set s.views id B) j ≡ some y)). ⊎_elim (λ (g : (j ≡ id) × (B ≡ y)). subst (λ (z : ℕ × View). Fits start u z.0 z.1) (λ i. (sym g.0 i, g.1 i)) both_fits)
            (λ (g : (j ≢ id) × (get_elem? s.views j ≡ some y)). other_more start t w.made j y (r.seats j y g.1 y_live)) (at_set s.views id j B y h.1))
            (at_set (set s.views id B) other j spent y e);
        rows = λ q inside. let g = r.rows q inside in record {
          counts = g.counts;
          state = g.state;
          clean = g.clean;
          free = g.free;
          allocated = g.allocated;
          dirty = λ z. let d = g.dirty z in
              let not_other : r.holder q ≢ other = λ e. (let same : d.0 ≡ w = some-injective _ _ (sym d.1 ∙ (ap (get_elem? s.views) e ∙ w_at)) in true_not_false (is_holding (corner w q).stage) (subst (λ (x : View). is_holding (corner x q).stage ≡ true) same d.3) (held_none w.rows q empty)) in
              dite (ℕ_discrete (r.holder q) id)
              (λ e. let same : d.0 ≡ v = some-injective _ _ (sym d.1 ∙ (ap (get_elem? s.views) e ∙ at)) in (
                B,
                set_else (set s.views id B) other (r.holder q) spent not_other ∙ (ap (get_elem? (set s.views id B)) e ∙ set_here s.views id B (at_below s.views id v at)),
                live,
                corners_merged (λ c. is_holding c.stage ≡ true) v.rows w.rows q same_width (settled_holds (corner v q).stage ∙ subst (λ (x : View). is_holding (corner x q).stage ≡ true) same d.3),
              ))
              (λ n. (d.0, set_else (set s.views id B) other (r.holder q) spent not_other ∙ (set_else s.views id (r.holder q) B n ∙ d.1), d.2, d.3));
        };
      }

  pub splits : (id : ℕ) (v : View) → v.live ≡ true → v.number ≡ 0 → 0 < get_or v.said 0 0 → held v.rows + get_or v.said 0 0 < v.allowance → (v.lent ≡ false) ⊎ (0 < v.action) → Splits Rule id v (split_left v) (split_right v)
  splits id v live first some_given room home s r at = split_rule s r id v at live first some_given room home

  pub joins : (id : ℕ) (v : View) (other : ℕ) (w : View) → v.live ≡ true → v.number ≡ 0 → w.live ≡ true → held w.rows ≡ 0 → Joins Rule id v other w (joined v w) spent
  joins id v other w live first w_live empty s r at apart there = join_rule s r id v at live first other w apart there w_live empty
