-- Views are cut in two, and put together.
use Rattle.std.proofs.Common.{◌≡◌, ℕ, subst, ◌<◌, ◌≤◌, ◌≢◌, true, false, List, [], ◌∷◌, ◌++◌, length, get_or, set, sym, refl, ap, ◌∙◌, ⊎_elim, arith}
use Rattle.pfs_lemmas.proofs.Bools.{true_not_false}
use mathlib.Core.Logic.{dite}
use mathlib.Core.Option.{some, some-injective}
use native.Mathlib.Decide.{dec_lt}
use lib.ListN.{get_elem?}
use Rattle.atomic_table.specs.Table.{State, Splits, Joins}
use Rattle.atomic_table.proofs.Lists.{at_set, set_here, set_else, at_longer, at_last}
use Rattle.pfs_switches.specs.declared.view.Loaded.{Loaded}
use Rattle.pfs_switches.specs.declared.view.Met.{Met}
use Rattle.pfs_switches.specs.declared.view.Setting.{Setting}
use Rattle.pfs_switches.specs.declared.view.View.{View}
use Rattle.pfs_switches.specs.History.{Each, version}
use Rattle.pfs_switches.specs.Knowledge.{reader, writer, split_left, split_right, merged, joined, meet_of, gathered, handed, spent}
use Rattle.pfs_switches.specs.LoadOrder.{Makers, IsRising, IsAbove, IsOrdered, Numbers}
use Rattle.pfs_switches.specs.Rule.{IsLoad, IsMeet, Fits, IsWriter, Ruled}
use Rattle.pfs_switches.proofs.HistoryFacts.{each_map, each_both, each_append}
use Rattle.pfs_switches.proofs.RuleSteps.{more_seen, more_met, writer_here, writer_set, only_set, seats_set}
use Rattle.pfs_switches.proofs.StepNumbers.{Near, at_end, numbers_set, numbers_more, numbers_less, numbers_cut, numbers_glued, not_root, none_yet}
use Rattle.pfs_switches.proofs.ViewFacts.{at_below, length_merged, merged_left, merged_right, merged_below, beyond}

module _ (m : ℕ) where
  rising_append : (xs ys : List Loaded) → IsRising xs → IsRising ys → Each (λ (x : Loaded). x.by ≡ m) xs → Each (λ (y : Loaded). y.by ≢ m) ys → IsRising (xs ++ ys)
  rising_append [] ys a b own others = b
  rising_append (x ∷ xs) ys a b own others = (
    each_append (λ (y : Loaded). y.by ≡ x.by → y.word ≡ x.word → y.version ≤ x.version) xs ys a.0 (each_map (λ (y : Loaded). y.by ≢ m) (λ (y : Loaded). y.by ≡ x.by → y.word ≡ x.word → y.version ≤ x.version) (λ y h e _. absurd (h (e ∙ own.0))) ys others),
    rising_append xs ys a.1 b own.1 others,
  )

order_joined : (v w : View) → v.number ≡ 0 → IsOrdered v → IsOrdered w → w.number ≢ 0 → Makers (λ k. k ≢ w.number) v → IsOrdered (joined v w)
order_joined v w first o p apart none = let own = p.own apart in record {
  places = each_append (λ (x : Loaded). x.by ≡ v.number → x.place < v.made) w.loads v.loads (each_map (λ (x : Loaded). x.by ≡ w.number) (λ (x : Loaded). x.by ≡ v.number → x.place < v.made) (λ x g e. absurd (apart (sym g ∙ (e ∙ first)))) w.loads own.0) o.places;
  meets = each_append (λ (x : Met). x.by ≡ v.number → x.place ≤ v.made) w.meets v.meets (each_map (λ (x : Met). x.by ≡ w.number) (λ (x : Met). x.by ≡ v.number → x.place ≤ v.made) (λ x g e. absurd (apart (sym g ∙ (e ∙ first)))) w.meets own.1) o.meets;
  rising = rising_append w.number w.loads v.loads p.rising o.rising own.0 none.0;
  above = each_append (IsAbove (w.meets ++ v.meets)) w.loads v.loads
      (each_both (λ (x : Loaded). x.by ≡ w.number) (IsAbove w.meets) (IsAbove (w.meets ++ v.meets)) (λ x g h. each_append (λ (m : Met). m.by ≡ x.by → m.place ≤ x.place → get_or m.versions x.word 0 ≤ x.version) w.meets v.meets h
      (each_map (λ (m : Met). m.by ≢ w.number) (λ (m : Met). m.by ≡ x.by → m.place ≤ x.place → get_or m.versions x.word 0 ≤ x.version) (λ m a e _. absurd (a (e ∙ g))) v.meets none.1)) w.loads own.0 p.above)
      (each_both (λ (x : Loaded). x.by ≢ w.number) (IsAbove v.meets) (IsAbove (w.meets ++ v.meets)) (λ x g h. each_append (λ (m : Met). m.by ≡ x.by → m.place ≤ x.place → get_or m.versions x.word 0 ≤ x.version) w.meets v.meets
      (each_map (λ (m : Met). m.by ≡ w.number) (λ (m : Met). m.by ≡ x.by → m.place ≤ x.place → get_or m.versions x.word 0 ≤ x.version) (λ m a e _. absurd (g (sym e ∙ a))) w.meets own.1) h) v.loads none.0 o.above);
  own = λ n. absurd (n first);
}

order_gathered : (v w : View) → IsOrdered v → IsOrdered (gathered v w)
order_gathered v w o = record {
  places = o.places;
  meets = ((λ _. omega arith), o.meets);
  rising = o.rising;
  above = each_both (λ (x : Loaded). x.by ≡ v.number → x.place < v.made) (IsAbove v.meets) (IsAbove (meet_of v w ∷ v.meets)) (λ x g h. ((λ e low. let b = g (sym e) in absurd (omega arith)), h)) v.loads o.places o.above;
  own = λ n. let a = o.own n in (a.0, (refl, a.1));
}

module _ (start : List ℕ) (log : List Setting) where
  -- a view that has only versions
  bare : (w : View) → w.start ≡ start → length w.seen ≡ length start → ((r : ℕ) → get_or w.seen r 0 ≤ version log r) → w.loads ≡ [] → w.meets ≡ [] → ((r : ℕ) → get_or w.first r 0 ≤ get_or w.seen r 0) → IsOrdered w → Fits start log w
  bare w start_is wide seen no_loads no_meets first order = record {
    start_is = start_is;
    wide = wide;
    seen = seen;
    first = first;
    loads = subst (Each (IsLoad start log (λ r. get_or w.seen r 0))) (sym no_loads) tt;
    meets = subst (Each (IsMeet start log (λ r. get_or w.seen r 0))) (sym no_meets) tt;
    order = order;
  }

  fits_joined : (v w : View) → IsOrdered (joined v w) → Fits start log v → Fits start log w → Fits start log (joined v w)
  fits_joined v w order f g = let a = f.wide in let b = g.wide in let left = merged_left v.seen w.seen in let right : (r : ℕ) → get_or w.seen r 0 ≤ get_or (merged v.seen w.seen) r 0 = λ r. merged_right v.seen w.seen r (omega arith) in record {
    start_is = f.start_is;
    wide = length_merged v.seen w.seen ∙ f.wide;
    seen = λ r. merged_below v.seen w.seen r (version log r) (f.seen r) (g.seen r);
    first = λ r. let x = f.first r in let y = left r in omega arith;
    loads = each_append (IsLoad start log (λ r. get_or (merged v.seen w.seen) r 0)) w.loads v.loads (more_seen start log w.seen (merged v.seen w.seen) right w.loads g.loads) (more_seen start log v.seen (merged v.seen w.seen) left v.loads f.loads);
    meets = each_append (IsMeet start log (λ r. get_or (merged v.seen w.seen) r 0)) w.meets v.meets (more_met start log w.seen (merged v.seen w.seen) right w.meets g.meets) (more_met start log v.seen (merged v.seen w.seen) left v.meets f.meets);
    order = order;
  }

  -- no seat has seen more than the writer
  up_to : (v w : View) → Fits start log v → IsWriter start log w → (r : ℕ) → get_or v.seen r 0 ≤ get_or w.seen r 0
  up_to v w f own r = let a = f.wide in dite (dec_lt r (length start)) (λ low. let x = f.seen r in let y = own.seen r low in omega arith) (λ high. let z = beyond v.seen r (omega arith) in omega arith)

  fits_gathered : (v w : View) → Fits start log v → Fits start log w → IsWriter start log w → Fits start log (gathered v w)
  fits_gathered v w f g own = let up = up_to v w f own in record {
    start_is = f.start_is;
    wide = g.wide;
    seen = g.seen;
    first = λ r. let x = f.first r in let y = up r in omega arith;
    loads = more_seen start log v.seen w.seen up v.loads f.loads;
    meets = (record { below = λ r. omega arith; least_is = up; start_is = g.start_is }, more_met start log v.seen w.seen up v.meets f.meets);
    order = order_gathered v w f.order;
  }

  fits_handed : (v w : View) → Fits start log v → Fits start log w → IsWriter start log w → Fits start log (handed v w)
  fits_handed v w f g own = let up = up_to v w f own in record {
    start_is = f.start_is;
    wide = g.wide;
    seen = g.seen;
    first = up;
    loads = more_seen start log v.seen w.seen up v.loads f.loads;
    meets = more_met start log v.seen w.seen up v.meets f.meets;
    order = let o = f.order in record { places = o.places; meets = o.meets; rising = o.rising; above = o.above; own = o.own };
  }

module _ (S : Type 0) (start : List ℕ) where
  abbrev St : Type 0
  St = State S View

  abbrev Rule : St → Type 0
  Rule = Ruled {S = S} start

  -- a view more, which isn't the writer's
  one_more : (s : St) (r : Rule s) (id : ℕ) (v L R : View) → get_elem? s.views id ≡ some v → L.writes ≡ v.writes → (IsWriter start r.log v → IsWriter start r.log L) → Fits start r.log L → R.writes ≡ false → Fits start r.log R → Numbers (set s.views id L ++ R ∷ [])
      → Rule record { words = s.words; homes = s.homes; views = set s.views id L ++ R ∷ [] }
  one_more s r id v L R at same own left reads right numbers = let w = writer_set S start s r r.log id v L at own (λ _ u g. g) in record {
    log = r.log;
    pen = r.pen;
    wide = r.wide;
    chain = r.chain;
    writer = (w.0, at_longer (set s.views id L) (R ∷ []) r.pen w.0 w.1, w.2);
    only = λ j u there writes. ⊎_elim (λ e. only_set S start s r id v L at same j u e writes) (λ (e : (j ≡ length (set s.views id L)) × (R ≡ u)). absurd (true_not_false u.writes writes (ap (λ (x : View). x.writes) (sym e.1) ∙ reads))) (at_end (set s.views id L) R u j there);
    seats = λ j u there live. ⊎_elim (λ e. seats_set S start s r r.log id L left (λ _ g. g) j u e live) (λ (e : (j ≡ length (set s.views id L)) × (R ≡ u)). subst (Fits start r.log) e.1 right) (at_end (set s.views id L) R u j there);
    words = r.words;
    numbers = numbers;
  }

  pub cuts : (id : ℕ) (v : View) → v.live ≡ true → v.writes ≡ false → v.seated ≡ true → v.number ≡ 0 → Splits Rule id v (split_left v) (split_right v)
  cuts id v live reads sits first s r at = let f = r.seats id v at live in one_more s r id v (split_left v) (split_right v) at refl (λ (x : IsWriter start r.log v). absurd (true_not_false v.writes x.writing reads))
      record { start_is = f.start_is; wide = f.wide; seen = f.seen; first = f.first; loads = f.loads; meets = f.meets; order = let o = f.order in record { places = o.places; meets = o.meets; rising = o.rising; above = o.above; own = o.own } } refl
      (bare start r.log (split_right v) f.start_is f.wide f.seen refl refl (λ r. omega arith) record { places = tt; meets = tt; rising = tt; above = tt; own = λ _. (tt, tt) }) (numbers_cut s.views r.numbers id v at sits first)

  -- a reader and the writer
  pub parts_with : (id : ℕ) (v : View) → v.live ≡ true → v.writes ≡ true → Splits Rule id v (reader v) (writer v)
  parts_with id v live writes s r at = let f = r.seats id v at live in let own = writer_here S start s r id v at writes in let L : View = reader v in let R : View = writer v in let views : List View = set s.views id L in
      let left : Fits start r.log L = record { start_is = f.start_is; wide = f.wide; seen = f.seen; first = f.first; loads = f.loads; meets = f.meets; order = let o = f.order in record { places = o.places; meets = o.meets; rising = o.rising; above = o.above; own = o.own } } in let pen_is = r.only id v at writes in record {
        log = r.log;
        pen = length views;
        wide = r.wide;
        chain = r.chain;
        writer = (R, at_last views R (length views) refl, record { writing = refl; here = refl; sets = own.sets; seen = own.seen });
        only = λ j u there w. ⊎_elim
            (λ e. ⊎_elim (λ (h : (j ≡ id) × (L ≡ u)). absurd (true_not_false u.writes w (ap (λ (x : View). x.writes) (sym h.1)))) (λ (h : (j ≢ id) × (get_elem? s.views j ≡ some u)). absurd (h.0 (r.only j u h.1 w ∙ sym pen_is))) (at_set s.views id j L u e))
            (λ (e : (j ≡ length views) × (R ≡ u)). e.0) (at_end views R u j there);
        seats = λ j u there live. ⊎_elim (λ e. seats_set S start s r r.log id L left (λ _ g. g) j u e live) (λ (e : (j ≡ length views) × (R ≡ u)). subst (Fits start r.log) e.1 (bare start r.log R f.start_is f.wide f.seen refl refl (λ r. omega arith) record { places = tt; meets = tt; rising = tt; above = tt; own = λ _. (tt, tt) })) (at_end views R u j there);
        words = r.words;
        numbers = numbers_more views R refl (numbers_set s.views id v L at record { seated_is = refl; number_is = refl; seats_are = refl; makers_are = λ P _ m. m } r.numbers);
      }

  -- a view is spent that isn't the writer's
  one_less : (s : St) (r : Rule s) (id : ℕ) (v : View) (other : ℕ) (w B : View) → get_elem? s.views id ≡ some v → ¬ (other ≡ id) → get_elem? (set s.views id B) other ≡ some w → w.writes ≡ false → B.writes ≡ v.writes → (IsWriter start r.log v → IsWriter start r.log B) → Fits start r.log B → Numbers (set (set s.views id B) other spent)
      → Rule record { words = s.words; homes = s.homes; views = set (set s.views id B) other spent }
  one_less s r id v other w B at apart there reads same own both numbers = let x = writer_set S start s r r.log id v B at own (λ _ u g. g) in
      let not_pen : r.pen ≢ other = λ e. (let is : x.0 ≡ w = some-injective _ _ (sym x.1 ∙ (ap (get_elem? (set s.views id B)) e ∙ there)) in true_not_false w.writes (ap (λ (y : View). y.writes) (sym is) ∙ x.2.writing) reads) in record {
        log = r.log;
        pen = r.pen;
        wide = r.wide;
        chain = r.chain;
        writer = (x.0, set_else (set s.views id B) other r.pen spent not_pen ∙ x.1, x.2);
        only = λ j u e writes. ⊎_elim (λ (h : (j ≡ other) × (spent ≡ u)). absurd (true_not_false u.writes writes (ap (λ (y : View). y.writes) (sym h.1)))) (λ (h : (j ≢ other) × (get_elem? (set s.views id B) j ≡ some u)). only_set S start s r id v B at same j u h.1 writes) (at_set (set s.views id B) other j spent u e);
        seats = λ j u e live. ⊎_elim (λ (h : (j ≡ other) × (spent ≡ u)). absurd (true_not_false u.live live (ap (λ (y : View). y.live) (sym h.1)))) (λ (h : (j ≢ other) × (get_elem? (set s.views id B) j ≡ some u)). seats_set S start s r r.log id B both (λ _ g. g) j u h.1 live) (at_set (set s.views id B) other j spent u e);
        words = r.words;
        numbers = numbers;
      }

  pub joins : (id : ℕ) (v : View) (other : ℕ) (w : View) → v.live ≡ true → v.writes ≡ false → v.seated ≡ true → v.number ≡ 0 → w.live ≡ true → w.writes ≡ false → w.seated ≡ true → Joins Rule id v other w (joined v w) spent
  joins id v other w live reads sits first w_live w_reads w_sits s r at apart there = let w_at = sym (set_else s.views id other (joined v w) apart) ∙ there in let f = r.seats id v at live in let g = r.seats other w w_at w_live in
      let not_first = not_root s.views r.numbers id v at sits first other w w_at apart w_sits in let none = none_yet s.views r.numbers id v at sits first other w w_at apart w_sits in one_less s r id v other w (joined v w) at apart there w_reads refl (λ (x : IsWriter start r.log v). absurd (true_not_false v.writes x.writing reads))
      (fits_joined start r.log v w (order_joined v w first f.order g.order not_first none) f g) (numbers_glued s.views r.numbers id v at sits first other w w_at apart w_sits (g.order.own not_first))

  -- the writer's view goes to a seat
  pen_moves : (s : St) (r : Rule s) (id : ℕ) (v : View) (other : ℕ) (w B : View) → get_elem? s.views id ≡ some v → ¬ (other ≡ id) → get_elem? s.views other ≡ some w → get_elem? (set s.views id B) other ≡ some w → w.writes ≡ true → w.seated ≡ false → Near v B → IsWriter start r.log B → Fits start r.log B
      → Rule record { words = s.words; homes = s.homes; views = set (set s.views id B) other spent }
  pen_moves s r id v other w B at apart w_at there writes w_stands near own both = let pen_is = r.only other w w_at writes in record {
    log = r.log;
    pen = id;
    wide = r.wide;
    chain = r.chain;
    writer = (B, set_else (set s.views id B) other id spent (λ e. apart (sym e)) ∙ set_here s.views id B (at_below s.views id v at), own);
    only = λ j u e w. ⊎_elim (λ (h : (j ≡ other) × (spent ≡ u)). absurd (true_not_false u.writes w (ap (λ (y : View). y.writes) (sym h.1))))
        (λ (h : (j ≢ other) × (get_elem? (set s.views id B) j ≡ some u)). ⊎_elim (λ (g : (j ≡ id) × (B ≡ u)). g.0) (λ (g : (j ≢ id) × (get_elem? s.views j ≡ some u)). absurd (h.0 (r.only j u g.1 w ∙ sym pen_is))) (at_set s.views id j B u h.1))
        (at_set (set s.views id B) other j spent u e);
    seats = λ j u e live. ⊎_elim (λ (h : (j ≡ other) × (spent ≡ u)). absurd (true_not_false u.live live (ap (λ (y : View). y.live) (sym h.1)))) (λ (h : (j ≢ other) × (get_elem? (set s.views id B) j ≡ some u)). seats_set S start s r r.log id B both (λ _ g. g) j u h.1 live) (at_set (set s.views id B) other j spent u e);
    words = r.words;
    numbers = numbers_less (set s.views id B) other w there w_stands (numbers_set s.views id v B at near r.numbers);
  }

  -- a meeting: a seat and the writer in one
  pub gathers : (id : ℕ) (v : View) (other : ℕ) (w : View) → v.live ≡ true → w.live ≡ true → w.writes ≡ true → w.seated ≡ false → Joins Rule id v other w (gathered v w) spent
  gathers id v other w live w_live writes w_stands s r at apart there = let w_at = sym (set_else s.views id other (gathered v w) apart) ∙ there in let own = writer_here S start s r other w w_at writes in
      pen_moves s r id v other w (gathered v w) at apart w_at there writes w_stands record { seated_is = refl; number_is = refl; seats_are = refl; makers_are = λ P here m. (m.0, (here, m.1)) }
      record { writing = refl; here = live; sets = own.sets; seen = own.seen } (fits_gathered start r.log v w (r.seats id v at live) (r.seats other w w_at w_live) own)

  -- the end: a seat has the writer's sets
  pub hands : (id : ℕ) (v : View) (other : ℕ) (w : View) → v.live ≡ true → w.live ≡ true → w.writes ≡ true → w.seated ≡ false → Joins Rule id v other w (handed v w) spent
  hands id v other w live w_live writes w_stands s r at apart there = let w_at = sym (set_else s.views id other (handed v w) apart) ∙ there in let own = writer_here S start s r other w w_at writes in
      pen_moves s r id v other w (handed v w) at apart w_at there writes w_stands record { seated_is = refl; number_is = refl; seats_are = refl; makers_are = λ P _ m. m }
      record { writing = refl; here = live; sets = own.sets; seen = own.seen } (fits_handed start r.log v w (r.seats id v at live) (r.seats other w w_at w_live) own)
