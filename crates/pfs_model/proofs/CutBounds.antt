-- Where a cut ends depends on the entries up to there alone.
use Rattle.std.proofs.Common.{◌≡◌, refl, Bool, true, false, List, [], ◌∷◌, ◌++◌, sym, ◌∙◌, ap, subst}
use Rattle.std.specs.Prelude.{Result, Ok, Err, if◌then◌else◌}
use Rattle.std.proofs.lemmas.List.{append_assoc}
use Rattle.pfs_event.specs.declared.entry.Entry.{Entry}
use Rattle.pfs_model.specs.declared.lines.Line.{Line}
use Rattle.pfs_model.specs.declared.shapes.Ask.{Ask}
use Rattle.pfs_model.specs.declared.shapes.Item.{Item}
use Rattle.pfs_model.specs.declared.shapes.Often.{Often}
use Rattle.pfs_model.specs.declared.shapes.Often.TheVariants.{One, Maybe, Many}
use Rattle.pfs_model.specs.EntryAsks.{fits}
use Rattle.pfs_model.specs.Cuts.{behind, step, then_cut, cut, front}
use Rattle.pfs_model.specs.Contexts.{Context, after}
use Rattle.pfs_model.specs.Shapes.{shape}
use Rattle.pfs_model.specs.JournalCuts.{Alike, parts_of, with_part, on_cut, Misfits}
use Rattle.pfs_model.proofs.ShapeCuts.{front_of}
use Rattle.pfs_model.proofs.ClosedShapes.{exact}

-- what was taken before the rest, whatever else stands behind its first entry
record Local (f : List Entry → Result (List Entry) (List Entry)) (tag : List Entry → Result (List Entry) (List Entry)) (es rest : List Entry) : Type 0 where
  own : List Entry
  is : es ≡ own ++ rest
  same : (others : List Entry) → Alike rest others → f (own ++ others) ≡ tag (others)

-- the same, with more of it taken by what follows
record Onward (often : Often) (ask : Ask) (es own rest : List Entry) : Type 0 where
  all : List Entry
  is : es ≡ all ++ rest
  same : (others : List Entry) → Alike rest others → step often ask (all ++ others) ≡ Ok (own ++ others)

refused : (ask : Ask) (e : Entry) (es own rest others : List Entry) → fits ask e ≡ false → (e ∷ es) ≡ own ++ rest → Alike rest others → behind ask (own ++ others) ≡ own ++ others
unfolding behind
refused ask e es [] [] others f s a = absurd (cc)
refused ask e es [] (r ∷ rs) [] f s a = absurd a
refused ask e es [] (r ∷ rs) (o ∷ os) f s a = let same : e ≡ o = cc in rw (← same, f) refl
refused ask e es (x ∷ xs) rest others f s a = let same : e ≡ x = cc in rw (← same, f) refl

passed : (ask : Ask) (e : Entry) (es own rest others : List Entry) → fits ask e ≡ false → (e ∷ es) ≡ own ++ rest → Alike rest others → step Maybe ask (own ++ others) ≡ Ok (own ++ others)
passed ask e es [] [] others f s a = absurd (cc)
passed ask e es [] (r ∷ rs) [] f s a = absurd a
passed ask e es [] (r ∷ rs) (o ∷ os) f s a = let same : e ≡ o = cc in rw (← same, f) refl
passed ask e es (x ∷ xs) rest others f s a = let same : e ≡ x = cc in rw (← same, f) refl

ended : (own rest others : List Entry) → [] ≡ own ++ rest → Alike rest others → own ++ others ≡ []
ended [] [] [] s a = refl
ended [] [] (o ∷ os) s a = absurd a
ended [] (r ∷ rs) others s a = absurd (cc)
ended (x ∷ xs) rest others s a = absurd (cc)

many_onward : (ask : Ask) (es own rest : List Entry) → behind ask es ≡ own ++ rest → Onward Many ask es own rest
unfolding behind
many_onward ask [] own rest s = record { all = own; is = s; same = λ others a. rw (ended own rest others s a) refl }
many_onward ask (e ∷ es) own rest s = at (fits ask e) refl s (many_onward ask es own rest) where
  at : (b : Bool) → fits ask e ≡ b → (if b then behind ask es else e ∷ es) ≡ own ++ rest → (behind ask es ≡ own ++ rest → Onward Many ask es own rest) → Onward Many ask (e ∷ es) own rest
  at true f s go = let t : Onward Many ask es own rest = go s in record { all = e ∷ t.all; is = ap (λ z. e ∷ z) t.is; same = λ others a. rw f (t.same others a) }
  at false f s go = record { all = own; is = s; same = λ others a. ap (λ z. Ok z) (refused ask e es own rest others f s a) }

onward : (often : Often) (ask : Ask) (es own rest : List Entry) → step often ask es ≡ Ok (own ++ rest) → Onward often ask es own rest
onward One ask [] own rest s = absurd (cc)
onward One ask (e ∷ es) own rest s = at (fits ask e) refl s where
  at : (b : Bool) → fits ask e ≡ b → ◌≡◌ {A = Result (List Entry) (List Entry)} (if b then Ok es else Err (e ∷ es)) (Ok (own ++ rest)) → Onward One ask (e ∷ es) own rest
  at true f s = record { all = e ∷ own; is = let same : es ≡ own ++ rest = cc in ap (λ z. e ∷ z) same; same = λ others a. rw f refl }
  at false f s = absurd (cc)
onward Maybe ask [] own rest s = let none : [] ≡ own ++ rest = cc in record { all = own; is = none; same = λ others a. rw (ended own rest others none a) refl }
onward Maybe ask (e ∷ es) own rest s = at (fits ask e) refl s where
  at : (b : Bool) → fits ask e ≡ b → ◌≡◌ {A = Result (List Entry) (List Entry)} (if b then Ok es else Ok (e ∷ es)) (Ok (own ++ rest)) → Onward Maybe ask (e ∷ es) own rest
  at true f s = record { all = e ∷ own; is = let same : es ≡ own ++ rest = cc in ap (λ z. e ∷ z) same; same = λ others a. rw f refl }
  at false f s = let same : (e ∷ es) ≡ own ++ rest = cc in record { all = own; is = same; same = λ others a. passed ask e es own rest others f same a }
onward Many ask es own rest s = let same : behind ask es ≡ own ++ rest = cc in many_onward ask es own rest same

-- an item that is missed
missed : (often : Often) (ask : Ask) (es rest : List Entry) → step often ask es ≡ Err rest → Local (step often ask) (λ z. Err z) es rest
missed One ask [] [] s = record { own = []; is = refl; same = only } where
  only : (others : List Entry) → Alike [] others → step One ask others ≡ Err others
  only [] a = refl
  only (o ∷ os) a = absurd a
missed One ask [] (r ∷ rs) s = absurd (cc)
missed One ask (e ∷ es) rest s = at (fits ask e) refl s where
  at : (b : Bool) → fits ask e ≡ b → ◌≡◌ {A = Result (List Entry) (List Entry)} (if b then Ok es else Err (e ∷ es)) (Err rest) → Local (step One ask) (λ z. Err z) (e ∷ es) rest
  at true f s = absurd (cc)
  at false f s = let same : (e ∷ es) ≡ rest = cc in record { own = []; is = same; same = only rest same } where
    only : (rest : List Entry) → (e ∷ es) ≡ rest → (others : List Entry) → Alike rest others → step One ask others ≡ Err others
    only [] same others a = absurd (cc)
    only (r ∷ rs) same [] a = absurd a
    only (r ∷ rs) same (o ∷ os) a = let one : e ≡ o = cc in rw (← one, f) refl
missed Maybe ask [] rest s = absurd (cc)
missed Maybe ask (e ∷ es) rest s = at (fits ask e) s where
  at : (b : Bool) → ◌≡◌ {A = Result (List Entry) (List Entry)} (if b then Ok es else Ok (e ∷ es)) (Err rest) → Local (step Maybe ask) (λ z. Err z) (e ∷ es) rest
  at true s = absurd (cc)
  at false s = absurd (cc)
missed Many ask es rest s = absurd (cc)

cut_ok : (items : List Item) (es rest : List Entry) → cut items es ≡ Ok rest → Local (cut items) (λ z. Ok z) es rest
unfolding cut
cut_ok [] es rest s = record { own = []; is = let same : es ≡ rest = cc in same; same = λ others a. refl }
cut_ok (item ∷ items) es rest s = at (step item.often item.ask es) refl s (λ mid q. cut_ok items mid rest q) where
  more : (mid : List Entry) (l : Local (cut items) (λ z. Ok z) mid rest) → Onward item.often item.ask es l.own rest → Local (cut (item ∷ items)) (λ z. Ok z) es rest
  more mid l o = record { own = o.all; is = o.is; same = λ others a. ap (λ z. then_cut z (cut items)) (o.same others a) ∙ l.same others a }

  at : (r : Result (List Entry) (List Entry)) → step item.often item.ask es ≡ r → then_cut r (cut items) ≡ Ok rest → ((mid : List Entry) → cut items mid ≡ Ok rest → Local (cut items) (λ z. Ok z) mid rest) → Local (cut (item ∷ items)) (λ z. Ok z) es rest
  at (Ok mid) q s go = let l : Local (cut items) (λ z. Ok z) mid rest = go mid s in more mid l (onward item.often item.ask es l.own rest (q ∙ ap (λ z. Ok z) l.is))
  at (Err mid) q s go = absurd (cc)

cut_err : (items : List Item) (es rest : List Entry) → cut items es ≡ Err rest → Local (cut items) (λ z. Err z) es rest
unfolding cut
cut_err [] es rest s = absurd (cc)
cut_err (item ∷ items) es rest s = at (step item.often item.ask es) refl s (λ mid q. cut_err items mid rest q) where
  more : (mid : List Entry) (l : Local (cut items) (λ z. Err z) mid rest) → Onward item.often item.ask es l.own rest → Local (cut (item ∷ items)) (λ z. Err z) es rest
  more mid l o = record { own = o.all; is = o.is; same = λ others a. ap (λ z. then_cut z (cut items)) (o.same others a) ∙ l.same others a }

  at : (r : Result (List Entry) (List Entry)) → step item.often item.ask es ≡ r → then_cut r (cut items) ≡ Err rest → ((mid : List Entry) → cut items mid ≡ Err rest → Local (cut items) (λ z. Err z) mid rest) → Local (cut (item ∷ items)) (λ z. Err z) es rest
  at (Ok mid) q s go = let l : Local (cut items) (λ z. Err z) mid rest = go mid s in more mid l (onward item.often item.ask es l.own rest (q ∙ ap (λ z. Ok z) l.is))
  at (Err mid) q s go =
      let same : mid ≡ rest = cc in
      let l : Local (step item.often item.ask) (λ z. Err z) es rest = missed item.often item.ask es rest (q ∙ ap (λ z. Err z) same) in
      record { own = l.own; is = l.is; same = λ others a. ap (λ z. then_cut z (cut items)) (l.same others a) }

-- the same of a whole journal
record Stays (context : Context) (lines : List Line) (es rest : List Entry) : Type 0 where
  own : List Entry
  is : es ≡ own ++ rest
  same : (others : List Entry) → Alike rest others → parts_of context lines (own ++ others) ≡ Err others

alike_behind : (own rest others : List Entry) → Alike rest others → Alike (own ++ rest) (own ++ others)
alike_behind [] rest others a = a
alike_behind (x ∷ xs) rest others a = refl

stays : (context : Context) (lines : List Line) (es rest : List Entry) → parts_of context lines es ≡ Err rest → Stays context lines es rest
unfolding parts_of
stays context [] [] rest s = absurd (cc)
stays context [] (e ∷ es) rest s = let same : (e ∷ es) ≡ rest = cc in record { own = []; is = same; same = only rest same } where
  only : (rest : List Entry) → (e ∷ es) ≡ rest → (others : List Entry) → Alike rest others → parts_of context [] others ≡ Err others
  only [] same others a = absurd (cc)
  only (r ∷ rs) same [] a = absurd a
  only (r ∷ rs) same (o ∷ os) a = refl
stays context (line ∷ lines) es rest s = on (cut (shape context line) es) refl s (λ own mid q. stays (after context line own) lines mid rest q) where
  go_on : List Entry → List Entry → Result (List (List Entry)) (List Entry)
  go_on es left = parts_of (after context line (front es left)) lines left

  later : (mid : List Entry) (l : Local (cut (shape context line)) (λ z. Ok z) es mid) → Stays (after context line l.own) lines mid rest → Stays context (line ∷ lines) es rest
  later mid l t = record {
    own = l.own ++ t.own;
    is = l.is ∙ ap (λ z. l.own ++ z) t.is ∙ sym (append_assoc l.own t.own rest);
    same = λ others a.
        let alike = alike_behind t.own rest others a in
        let goes : cut (shape context line) (l.own ++ (t.own ++ others)) ≡ Ok (t.own ++ others) = l.same (t.own ++ others) (back mid t.own rest (t.own ++ others) t.is alike) in
        ap (parts_of context (line ∷ lines)) (append_assoc l.own t.own others)
        ∙ ap (λ z. on_cut (l.own ++ (t.own ++ others)) z (λ left. parts_of (after context line (front (l.own ++ (t.own ++ others)) left)) lines left)) goes
        ∙ ap (λ z. with_part z (parts_of (after context line z) lines (t.own ++ others))) (front_of (l.own ++ (t.own ++ others)) l.own (t.own ++ others) refl)
        ∙ ap (with_part l.own) (t.same others a);
  } where
    back : (mid own rest others : List Entry) → mid ≡ own ++ rest → Alike (own ++ rest) others → Alike mid others
    back mid own rest others e a = let P : List Entry → Type 0 = λ z. Alike z others in subst P (sym e) a

  on : (r : Result (List Entry) (List Entry)) → cut (shape context line) es ≡ r → on_cut es r (λ left. parts_of (after context line (front es left)) lines left) ≡ Err rest → ((own mid : List Entry) → parts_of (after context line own) lines mid ≡ Err rest → Stays (after context line own) lines mid rest) → Stays context (line ∷ lines) es rest
  on (Ok mid) q s go =
      let l : Local (cut (shape context line)) (λ z. Ok z) es mid = cut_ok (shape context line) es mid q in
      let f : front es mid ≡ l.own = front_of es l.own mid l.is in
      later mid l (go l.own mid (left (parts_of (after context line l.own) lines mid) (ap (λ z. with_part z (parts_of (after context line z) lines mid)) (sym f) ∙ s))) where
        left : (r : Result (List (List Entry)) (List Entry)) → with_part (cut_ok (shape context line) es mid q).own r ≡ Err rest → r ≡ Err rest
        left (Ok parts) h = absurd (cc)
        left (Err z) h = let same : z ≡ rest = cc in ap (λ z. Err z) same
  on (Err mid) q s go =
      let same : mid ≡ rest = cc in
      let l : Local (cut (shape context line)) (λ z. Err z) es rest = cut_err (shape context line) es rest (q ∙ ap (λ z. Err z) same) in
      record { own = l.own; is = l.is; same = λ others a. ap (λ z. on_cut (l.own ++ others) z (λ left. parts_of (after context line (front (l.own ++ others) left)) lines left)) (l.same others a) }

pub misfits : Misfits
misfits context lines journal rest s =
    let t : Stays context lines journal rest = stays context lines journal rest s in
    record { before = t.own; is = t.is; never = λ others parts a j. apart (parts_of context lines (t.own ++ others)) others parts (t.same others a) ((exact context lines (t.own ++ others) parts).1 j) } where
      apart : (r : Result (List (List Entry)) (List Entry)) (rest : List Entry) (parts : List (List Entry)) → r ≡ Err rest → r ≡ Ok parts → ⊥
      apart r rest parts e f = cc
