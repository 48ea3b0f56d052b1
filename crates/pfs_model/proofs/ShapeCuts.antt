-- Cutting by a shape: what stands behind doesn't matter, and what was taken is taken alone.
use Rattle.std.proofs.Common.{◌≡◌, refl, Bool, true, false, ◌&&◌, List, [], ◌∷◌, ◌++◌, ◌∙◌, ap, arith}
use Rattle.std.specs.Prelude.{Result, Ok, Err, if◌then◌else◌}
use Rattle.std.proofs.lemmas.List.{take_at, length-append}
use Rattle.std.proofs.lemmas.Bool.{and_parts}
use Rattle.pfs_event.specs.declared.entry.Entry.{Entry}
use Rattle.pfs_event.specs.declared.entry.Entry.TheVariants as says
use Rattle.pfs_model.specs.declared.shapes.Ask.{Ask}
use Rattle.pfs_model.specs.declared.shapes.Ask.TheVariants as asks
use Rattle.pfs_model.specs.declared.shapes.Item.{Item}
use Rattle.pfs_model.specs.declared.shapes.Often.{Often}
use Rattle.pfs_model.specs.declared.shapes.Often.TheVariants.{One, Maybe, Many}
use Rattle.pfs_model.specs.EntryAsks.{fits, is_head, asks_head, asks_tail, is_digest, is_put, is_long_put, is_move, is_sign, is_set, is_reading}
use Rattle.pfs_model.specs.Cuts.{behind, step, then_cut, cut, front, is_closed, are_closed, begins_with, has_head, is_headed}

-- for one test of an entry: a head isn't one of those that are merely allowed
apart : (test : Entry → Bool) → ((e : Entry) → test e && is_head e ≡ false) → (e : Entry) → is_head e ≡ true → test e ≡ false
apart test none e h = split (test e) (is_head e) (none e) h where
  split : (a b : Bool) → a && b ≡ false → b ≡ true → a ≡ false
  split false b n k = refl
  split true b n k = absurd (cc)

pub tail_not_head : (ask : Ask) (e : Entry) → asks_tail ask ≡ true → is_head e ≡ true → fits ask e ≡ false
tail_not_head asks.Digest e t h = apart is_digest digest_apart e h where
  digest_apart : (e : Entry) → is_digest e && is_head e ≡ false
  digest_apart (says.Add _ _) = refl
  digest_apart (says.Held _ _ _) = refl
  digest_apart _ = refl
tail_not_head asks.Put e t h = apart is_put put_apart e h where
  put_apart : (e : Entry) → is_put e && is_head e ≡ false
  put_apart (says.Ring _ _) = refl
  put_apart _ = refl
tail_not_head asks.LongPut e t h = apart is_long_put long_apart e h where
  long_apart : (e : Entry) → is_long_put e && is_head e ≡ false
  long_apart (says.Long _ _ _) = refl
  long_apart _ = refl
tail_not_head asks.Move e t h = apart is_move move_apart e h where
  move_apart : (e : Entry) → is_move e && is_head e ≡ false
  move_apart (says.Take _ _) = refl
  move_apart _ = refl
tail_not_head asks.Sign e t h = apart is_sign sign_apart e h where
  sign_apart : (e : Entry) → is_sign e && is_head e ≡ false
  sign_apart (says.Tag _ _) = refl
  sign_apart _ = refl
tail_not_head asks.Set e t h = apart is_set set_apart e h where
  set_apart : (e : Entry) → is_set e && is_head e ≡ false
  set_apart (says.Set _ _ _) = refl
  set_apart _ = refl
tail_not_head asks.Reading e t h = apart is_reading reading_apart e h where
  reading_apart : (e : Entry) → is_reading e && is_head e ≡ false
  reading_apart (says.Seen _ _) = refl
  reading_apart _ = refl
tail_not_head _ e t h = absurd (cc)

pub head_fits : (ask : Ask) (e : Entry) → asks_head ask ≡ true → fits ask e ≡ true → is_head e ≡ true
head_fits asks.Connect (says.Connect _ _ _ _ _) a f = refl
head_fits asks.Connect _ a f = absurd (cc)
head_fits (asks.Start _ _ _) (says.Start _ _ _ _ _ _) a f = refl
head_fits (asks.Start _ _ _) _ a f = absurd (cc)
head_fits (asks.End _) (says.End _ _ _ _) a f = refl
head_fits (asks.End _) _ a f = absurd (cc)
head_fits asks.Settle says.Settle a f = refl
head_fits asks.Settle _ a f = absurd (cc)
head_fits asks.Act (says.Act _) a f = refl
head_fits asks.Act _ a f = absurd (cc)
head_fits asks.Query says.Query a f = refl
head_fits asks.Query _ a f = absurd (cc)
head_fits asks.Error (says.Error _) a f = refl
head_fits asks.Error _ a f = absurd (cc)
head_fits _ e a f = absurd (cc)

-- nothing that follows is taken by what a shape merely allows
behind_headed : (ask : Ask) (rest : List Entry) → asks_tail ask ≡ true → is_headed rest ≡ true → behind ask rest ≡ rest
unfolding behind
behind_headed ask [] t h = refl
behind_headed ask (e ∷ es) t h = rw (tail_not_head ask e t h) refl

pub behind_more : (ask : Ask) (part rest : List Entry) → asks_tail ask ≡ true → is_headed rest ≡ true → behind ask (part ++ rest) ≡ behind ask part ++ rest
unfolding behind
behind_more ask [] rest t h = behind_headed ask rest t h
behind_more ask (e ∷ es) rest t h = at (fits ask e) (behind_more ask es rest t h) where
  at : (b : Bool) → behind ask (es ++ rest) ≡ behind ask es ++ rest → (if b then behind ask (es ++ rest) else e ∷ (es ++ rest)) ≡ (if b then behind ask es else e ∷ es) ++ rest
  at true s = s
  at false s = refl

maybe_headed : (ask : Ask) (rest : List Entry) → asks_tail ask ≡ true → is_headed rest ≡ true → step Maybe ask rest ≡ Ok rest
maybe_headed ask [] t h = refl
maybe_headed ask (e ∷ es) t h = rw (tail_not_head ask e t h) refl

one_more : (b : Bool) (e : Entry) (es rest left : List Entry) → ◌≡◌ {A = Result (List Entry) (List Entry)} (if b then Ok es else Err (e ∷ es)) (Ok left) → ◌≡◌ {A = Result (List Entry) (List Entry)} (if b then Ok (es ++ rest) else Err (e ∷ (es ++ rest))) (Ok (left ++ rest))
one_more true e es rest left s = let same : es ≡ left = cc in rw same refl
one_more false e es rest left s = absurd (cc)

maybe_more : (b : Bool) (e : Entry) (es rest left : List Entry) → ◌≡◌ {A = Result (List Entry) (List Entry)} (if b then Ok es else Ok (e ∷ es)) (Ok left) → ◌≡◌ {A = Result (List Entry) (List Entry)} (if b then Ok (es ++ rest) else Ok (e ∷ (es ++ rest))) (Ok (left ++ rest))
maybe_more true e es rest left s = let same : es ≡ left = cc in rw same refl
maybe_more false e es rest left s = let same : (e ∷ es) ≡ left = cc in rw (← same) refl

pub step_more : (often : Often) (ask : Ask) (part rest left : List Entry) → is_closed often ask ≡ true → is_headed rest ≡ true → step often ask part ≡ Ok left → step often ask (part ++ rest) ≡ Ok (left ++ rest)
step_more One ask [] rest left c h s = absurd (cc)
step_more One ask (e ∷ es) rest left c h s = one_more (fits ask e) e es rest left s
step_more Maybe ask [] rest left c h s = let same : [] ≡ left = cc in rw (← same) (maybe_headed ask rest c h)
step_more Maybe ask (e ∷ es) rest left c h s = maybe_more (fits ask e) e es rest left s
step_more Many ask part rest left c h s = let same : behind ask part ≡ left = cc in rw (behind_more ask part rest c h, same) refl

-- what a shape takes, it takes too where more follows
pub cut_more : (items : List Item) (part rest left : List Entry) → are_closed items ≡ true → is_headed rest ≡ true → cut items part ≡ Ok left → cut items (part ++ rest) ≡ Ok (left ++ rest)
unfolding cut
cut_more [] part rest left c h s = let same : part ≡ left = cc in rw same refl
cut_more (item ∷ items) part rest left c h s = at (step item.often item.ask part) refl s (λ mid q. cut_more items mid rest left (and_parts _ _ c).1 h q) where
  at : (r : Result (List Entry) (List Entry)) → step item.often item.ask part ≡ r → then_cut r (cut items) ≡ Ok left → ((mid : List Entry) → cut items mid ≡ Ok left → cut items (mid ++ rest) ≡ Ok (left ++ rest)) → then_cut (step item.often item.ask (part ++ rest)) (cut items) ≡ Ok (left ++ rest)
  at (Ok mid) q s go = rw (step_more item.often item.ask part rest mid (and_parts _ _ c).0 h q) (go mid s)
  at (Err mid) q s go = absurd (cc)

-- what was taken, alone
pub record Taken (often : Often) (ask : Ask) (es own rest : List Entry) : Type 0 where
  pub all : List Entry
  pub is : es ≡ all ++ rest
  pub alone : step often ask all ≡ Ok own

behind_none : (ask : Ask) (e : Entry) (own es rest : List Entry) → fits ask e ≡ false → (e ∷ es) ≡ own ++ rest → behind ask own ≡ own
unfolding behind
behind_none ask e [] es rest f s = refl
behind_none ask e (x ∷ xs) es rest f s = let same : e ≡ x = cc in rw (← same, f) refl

maybe_none : (ask : Ask) (e : Entry) (own es rest : List Entry) → fits ask e ≡ false → (e ∷ es) ≡ own ++ rest → step Maybe ask own ≡ Ok own
maybe_none ask e [] es rest f s = refl
maybe_none ask e (x ∷ xs) es rest f s = let same : e ≡ x = cc in rw (← same, f) refl

no_more : (own rest : List Entry) → [] ≡ own ++ rest → own ≡ []
no_more [] rest s = refl
no_more (x ∷ xs) rest s = absurd (cc)

many_alone : (ask : Ask) (es own rest : List Entry) → behind ask es ≡ own ++ rest → Taken Many ask es own rest
unfolding behind
many_alone ask [] own rest s = record { all = []; is = s ∙ ap (λ z. z ++ rest) (no_more own rest s); alone = rw (no_more own rest s) refl }
many_alone ask (e ∷ es) own rest s = at (fits ask e) refl s (many_alone ask es own rest) where
  at : (b : Bool) → fits ask e ≡ b → (if b then behind ask es else e ∷ es) ≡ own ++ rest → (behind ask es ≡ own ++ rest → Taken Many ask es own rest) → Taken Many ask (e ∷ es) own rest
  at true f s go = let t : Taken Many ask es own rest = go s in record { all = e ∷ t.all; is = ap (λ z. e ∷ z) t.is; alone = rw f t.alone }
  at false f s go = record { all = own; is = s; alone = ap (λ z. Ok z) (behind_none ask e own es rest f s) }

pub step_alone : (often : Often) (ask : Ask) (es own rest : List Entry) → step often ask es ≡ Ok (own ++ rest) → Taken often ask es own rest
step_alone One ask [] own rest s = absurd (cc)
step_alone One ask (e ∷ es) own rest s = at (fits ask e) refl s where
  at : (b : Bool) → fits ask e ≡ b → ◌≡◌ {A = Result (List Entry) (List Entry)} (if b then Ok es else Err (e ∷ es)) (Ok (own ++ rest)) → Taken One ask (e ∷ es) own rest
  at true f s = record { all = e ∷ own; is = let same : es ≡ own ++ rest = cc in ap (λ z. e ∷ z) same; alone = rw f refl }
  at false f s = absurd (cc)
step_alone Maybe ask [] own rest s =
    let same : [] ≡ own ++ rest = cc in
    record { all = []; is = same ∙ ap (λ z. z ++ rest) (no_more own rest same); alone = rw (no_more own rest same) refl }
step_alone Maybe ask (e ∷ es) own rest s = at (fits ask e) refl s where
  at : (b : Bool) → fits ask e ≡ b → ◌≡◌ {A = Result (List Entry) (List Entry)} (if b then Ok es else Ok (e ∷ es)) (Ok (own ++ rest)) → Taken Maybe ask (e ∷ es) own rest
  at true f s = record { all = e ∷ own; is = let same : es ≡ own ++ rest = cc in ap (λ z. e ∷ z) same; alone = rw f refl }
  at false f s = let same : (e ∷ es) ≡ own ++ rest = cc in record { all = own; is = same; alone = maybe_none ask e own es rest f same }
step_alone Many ask es own rest s = let same : behind ask es ≡ own ++ rest = cc in many_alone ask es own rest same

-- a shape takes the same alone
pub record Cut (items : List Item) (es rest : List Entry) : Type 0 where
  pub all : List Entry
  pub is : es ≡ all ++ rest
  pub alone : cut items all ≡ Ok []

pub cut_alone : (items : List Item) (es rest : List Entry) → cut items es ≡ Ok rest → Cut items es rest
unfolding cut
cut_alone [] es rest s = record { all = []; is = let same : es ≡ rest = cc in same; alone = refl }
cut_alone (item ∷ items) es rest s = at (step item.often item.ask es) refl s (λ mid q. cut_alone items mid rest q) where
  from_step : (mid : List Entry) → step item.often item.ask es ≡ Ok mid → (c : Cut items mid rest) → Taken item.often item.ask es c.all rest → Cut (item ∷ items) es rest
  from_step mid q c t = record { all = t.all; is = t.is; alone = rw t.alone c.alone }

  at : (r : Result (List Entry) (List Entry)) → step item.often item.ask es ≡ r → then_cut r (cut items) ≡ Ok rest → ((mid : List Entry) → cut items mid ≡ Ok rest → Cut items mid rest) → Cut (item ∷ items) es rest
  at (Ok mid) q s go = let c : Cut items mid rest = go mid s in from_step mid q c (step_alone item.often item.ask es c.all rest (q ∙ ap (λ z. Ok z) c.is))
  at (Err mid) q s go = absurd (cc)

pub front_of : (es own rest : List Entry) → es ≡ own ++ rest → front es rest ≡ own
front_of es own rest s = rw s (take_at own rest _ (omega (arith, length-append own rest)))

-- the first entry that a shape takes is one with which a line begins
pub part_headed : (items : List Item) (part : List Entry) → has_head items ≡ true → cut items part ≡ Ok [] → is_headed part ≡ true
unfolding cut
part_headed items [] h s = refl
part_headed [] (e ∷ es) h s = absurd (cc)
part_headed (item ∷ items) (e ∷ es) h s = first item.often item.ask h s where
  at : (ask : Ask) (b : Bool) → fits ask e ≡ b → asks_head ask ≡ true → then_cut (if b then Ok es else Err (e ∷ es)) (cut items) ≡ Ok [] → is_head e ≡ true
  at ask true f h s = head_fits ask e h f
  at ask false f h s = absurd (cc)

  first : (often : Often) (ask : Ask) → begins_with often ask ≡ true → then_cut (step often ask (e ∷ es)) (cut items) ≡ Ok [] → is_head e ≡ true
  first One ask h s = at ask (fits ask e) refl h s
  first Maybe ask h s = absurd (cc)
  first Many ask h s = absurd (cc)
