-- The entries that a SELECT's line asks for and allows are those of a SELECT.
use Rattle.std.proofs.Common.{◌≡◌, refl, ℕ, Bool, true, false, ◌&&◌, cond, List, [], ◌∷◌, ◌++◌, map, sym, ◌∙◌, ap, subst, Result, Ok, Err}
use Rattle.std.specs.Prelude.{All}
use Rattle.std.proofs.lemmas.Bool.{and_parts, false≢true}
use Rattle.std.proofs.lemmas.List.{append_assoc}
use Rattle.std.proofs.lemmas.List.Elements.{All-append, All-cons, All-nil}
use Rattle.pfs_event.specs.declared.entry.Entry.{Entry}
use Rattle.pfs_event.specs.declared.entry.Entry.TheVariants as says
use Rattle.pfs_journal.specs.Spelling.{is_answered}
use Rattle.pfs_model.specs.Contexts.{Context}
use Rattle.pfs_model.specs.Cuts.{behind, cut, step, then_cut}
use Rattle.pfs_model.specs.EntryAsks.{fits}
use Rattle.pfs_model.specs.Shapes.{added, changes, many, one, settling, shape}
use Rattle.pfs_model.specs.declared.lines.Line.TheVariants as lines
use Rattle.pfs_model.specs.declared.shapes.Ask.{Ask}
use Rattle.pfs_model.specs.declared.shapes.Ask.TheVariants as asks
use Rattle.pfs_model.specs.declared.shapes.Item.{Item}
use Rattle.pfs_model.specs.declared.shapes.Often.{Often}
use Rattle.pfs_model.specs.declared.shapes.Often.TheVariants.{One, Maybe, Many}
use Rattle.pfs_check_answers.specs.SelectParts.{IsCounted, IsQueryPart}
use Rattle.pfs_check_answers.proofs.AnswerLines.{NoneAnswered}

-- ---- all that is asked for is in front of what is left

pub record Front (ask : Ask) (entries rest : List Entry) : Type 0 where
  pub front : List Entry
  pub are : entries ≡ front ++ rest
  pub fit : All (λ entry. fits ask entry ≡ true) front

no_front : (ask : Ask) (entries : List Entry) → Front ask entries entries
no_front ask entries = record { front = []; are = refl; fit = All-nil (λ entry. fits ask entry ≡ true) }

more_front : (ask : Ask) (entry : Entry) (entries rest : List Entry) → fits ask entry ≡ true → Front ask entries rest → Front ask (entry ∷ entries) rest
more_front ask entry entries rest fit f = record {
  front = entry ∷ f.front;
  are = ap (λ z. entry ∷ z) f.are;
  fit = All-cons (λ e. fits ask e ≡ true) entry f.front fit f.fit;
}

behind_front : (ask : Ask) (entries : List Entry) → Front ask entries (behind ask entries)
unfolding behind
behind_front ask [] = no_front ask []
behind_front ask (entry ∷ entries) = on (fits ask entry) refl (behind_front ask entries) where
  on : (b : Bool) → fits ask entry ≡ b → Front ask entries (behind ask entries) → Front ask (entry ∷ entries) (cond b (behind ask entries) (entry ∷ entries))
  on true fit f = more_front ask entry entries (behind ask entries) fit f
  on false fit f = no_front ask (entry ∷ entries)

abbrev Leaves : Result (List Entry) (List Entry) → List Entry → Type 0
Leaves result rest = result ≡ Ok rest

same_rest : (entries rest : List Entry) → Leaves (Ok entries) rest → entries ≡ rest
same_rest entries rest e = cc

pub step_front : (often : Often) (ask : Ask) (entries rest : List Entry) → step often ask entries ≡ Ok rest → Front ask entries rest
step_front One ask [] rest is = absurd (cc)
step_front One ask (entry ∷ entries) rest is = on (fits ask entry) refl is where
  on : (b : Bool) → fits ask entry ≡ b → Leaves (cond b (Ok entries) (Err (entry ∷ entries))) rest → Front ask (entry ∷ entries) rest
  on true fit e = subst (Front ask (entry ∷ entries)) (same_rest entries rest e) (more_front ask entry entries entries fit (no_front ask entries))
  on false fit e = absurd (cc)
step_front Maybe ask [] rest is = subst (Front ask []) (same_rest [] rest is) (no_front ask [])
step_front Maybe ask (entry ∷ entries) rest is = on (fits ask entry) refl is where
  on : (b : Bool) → fits ask entry ≡ b → Leaves (cond b (Ok entries) (Ok (entry ∷ entries))) rest → Front ask (entry ∷ entries) rest
  on true fit e = subst (Front ask (entry ∷ entries)) (same_rest entries rest e) (more_front ask entry entries entries fit (no_front ask entries))
  on false fit e = subst (Front ask (entry ∷ entries)) (same_rest (entry ∷ entries) rest e) (no_front ask (entry ∷ entries))
step_front Many ask entries rest is = subst (Front ask entries) (same_rest (behind ask entries) rest is) (behind_front ask entries)

-- ---- what isn't asked as a number of rows has no answer

abbrev pub is_other : Ask → Bool
is_other asks.Rows = false
is_other _ = true

abbrev pub are_other : List Item → Bool
are_other [] = true
are_other (item ∷ items) = is_other item.ask && are_other items

no_answer : (ask : Ask) (entry : Entry) → is_other ask ≡ true → fits ask entry ≡ true → is_answered entry ≡ false
no_answer ask (says.Rows number) other fit = absurd (at ask other fit) where
  at : (ask : Ask) → is_other ask ≡ true → fits ask (says.Rows number) ≡ true → ⊥
  at asks.Rows o f = absurd (cc)
  at _ o f = absurd (cc)
no_answer ask _ other fit = refl

pub none_answered : (ask : Ask) (entries : List Entry) → is_other ask ≡ true → All (λ entry. fits ask entry ≡ true) entries → NoneAnswered entries
none_answered ask entries other all = λ k d low. no_answer ask _ other (all k d low)

one_rows : (entries : List Entry) → cut (one asks.Rows ∷ []) entries ≡ Ok [] → (number : ℕ) × (entries ≡ says.Rows number ∷ [])
unfolding cut
one_rows [] is = absurd (cc)
one_rows (entry ∷ entries) is = on entry (fits asks.Rows entry) refl is where
  number_in : (entry : Entry) → fits asks.Rows entry ≡ true → (number : ℕ) × (entry ≡ says.Rows number)
  number_in (says.Rows number) fit = (number, refl)
  number_in _ fit = absurd (false≢true fit)

  on : (entry : Entry) (b : Bool) → fits asks.Rows entry ≡ b → then_cut (cond b (Ok entries) (Err (entry ∷ entries))) (cut []) ≡ Ok [] → (number : ℕ) × (entry ∷ entries ≡ says.Rows number ∷ [])
  on entry true fit e =
      let n = number_in entry fit in
      (n.0, ap (λ z. z ∷ entries) n.1 ∙ ap (λ z. says.Rows n.0 ∷ z) (same_rest entries [] e))
  on entry false fit e = absurd (cc)

counted : (items : List Item) (entries : List Entry) → are_other items ≡ true → cut (items ++ one asks.Rows ∷ []) entries ≡ Ok [] → IsCounted entries
unfolding cut
counted [] entries other is =
    let last = one_rows entries is in
    record { opening = []; number = last.0; none = All-nil (λ entry. is_answered entry ≡ false); told = last.1 }
counted (item ∷ items) entries other is =
    let o = and_parts (is_other item.ask) (are_other items) other in
    on (step item.often item.ask entries) refl is o.0 (λ rest e. counted items rest o.1 e)
  where
    on : (r : Result (List Entry) (List Entry)) → step item.often item.ask entries ≡ r → then_cut r (cut (items ++ one asks.Rows ∷ [])) ≡ Ok [] → is_other item.ask ≡ true
        → ((rest : List Entry) → cut (items ++ one asks.Rows ∷ []) rest ≡ Ok [] → IsCounted rest) → IsCounted entries
    on (Err rest) s e o go = absurd (cc)
    on (Ok rest) s e o go =
        let f = step_front item.often item.ask entries rest s in
        let c = go rest e in
        record {
          opening = f.front ++ c.opening;
          number = c.number;
          none = All-append (λ entry. is_answered entry ≡ false) f.front c.opening (none_answered item.ask f.front o f.fit) c.none;
          told = f.are ∙ (ap (λ z. f.front ++ z) c.told ∙ sym (append_assoc f.front c.opening (says.Rows c.number ∷ [])));
        }

-- ---- of a SELECT that reads the store, and of one on a table that the administration holds

pub query_part : (context : Context) (part : List Entry) → cut (shape context lines.Query) part ≡ Ok [] → IsQueryPart part
unfolding cut
query_part context [] is = absurd (cc)
query_part context (entry ∷ entries) is = on entry (fits asks.Query entry) refl is where
  query_in : (entry : Entry) → fits asks.Query entry ≡ true → entry ≡ says.Query
  query_in says.Query fit = refl
  query_in _ fit = absurd (false≢true fit)

  on : (entry : Entry) (b : Bool) → fits asks.Query entry ≡ b → then_cut (cond b (Ok entries) (Err (entry ∷ entries))) (cut (many asks.Reading ∷ one asks.Rows ∷ [])) ≡ Ok [] → IsQueryPart (entry ∷ entries)
  on entry false fit e = absurd (cc)
  on entry true fit e =
      let f = behind_front asks.Reading entries in
      let last = one_rows (behind asks.Reading entries) e in
      record {
        readings = f.front;
        number = last.0;
        each = f.fit;
        told = ap (λ z. z ∷ entries) (query_in entry fit) ∙ ap (λ z. says.Query ∷ z) (f.are ∙ ap (λ z. f.front ++ z) last.1);
      }

pub settled_other : (rows : List ℕ) (items : List Item) → are_other items ≡ true → are_other (settling rows ++ items) ≡ true
settled_other [] items other = other
settled_other (row ∷ rows) items other = on rows where
  on : (rows : List ℕ) → are_other (map added rows ++ items) ≡ true
  on [] = other
  on (row ∷ rows) = on rows

pub show_part : (context : Context) (part : List Entry) → cut (shape context lines.Show) part ≡ Ok [] → IsCounted part
show_part context part is =
    let items = settling context.held ++ one asks.Act ∷ changes in
    counted items part (settled_other context.held (one asks.Act ∷ changes) refl)
    (subst (λ z. cut z part ≡ Ok []) (sym (append_assoc (settling context.held) (one asks.Act ∷ changes) (one asks.Rows ∷ []))) is)
