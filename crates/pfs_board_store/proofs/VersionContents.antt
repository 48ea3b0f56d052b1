-- The contents of the rows by version, from the history of a board, and what each change says of them.
use Rattle.std.proofs.Common.{ℕ, zero, suc, ◌≡◌, ◌+◌, ◌<◌, ◌≤◌, Bool, true, false, cond, List, [], ◌∷◌, length, slice_index, get_or, refl, ap, sym, ◌∙◌, arith, add-zero, zero-add, replicate}
use Rattle.pfs_board.specs.declared.view.Change.{Change}
use Rattle.pfs_board.specs.History.{Each, IsChain, Follows, version, step_of, stood, word_at}
use Rattle.pfs_board.proofs.HistoryFacts.{each_map, version_more, version_here, stands_put, stood_before, stood_now}
use Rattle.pfs_levels.specs.RowWords.{is_cell, zero_words, opening_content}
use Rattle.pfs_board_store.specs.RootLaws.{listed, content_of, IsRunsBoard}

-- a list is its numbers from the first on
pub listed_is : (n i : ℕ) (f : ℕ → ℕ) (xs : List ℕ) → length xs ≡ n → ((j : ℕ) → j < n → f (i + j) ≡ get_or xs j 0) → listed n i f ≡ xs
unfolding listed
listed_is zero i f [] e h = refl
listed_is zero i f (x ∷ xs) e h = absurd (omega (arith, e))
listed_is (suc n) i f [] e h = absurd (omega (arith, e))
listed_is (suc n) i f (x ∷ xs) e h =
    let here : f i ≡ x = ap f (sym (add-zero i)) ∙ h 0 (omega arith) in
    let rest : listed n (i + 1) f ≡ xs = listed_is n (i + 1) f xs (omega (arith, e)) (λ j low.
    let same : (i + 1) + j ≡ i + suc j = omega arith in ap f same ∙ h (suc j) (omega (arith, low))) in
    ap (λ z. z ∷ listed n (i + 1) f) here ∙ ap (λ z. x ∷ z) rest

pub opening_wide : (b : Bool) → length (cond b zero_words (replicate 16 0)) ≡ 16
opening_wide true = refl
opening_wide false = refl

module _ (start : List ℕ) where
  -- what a change found and put stands in the history, at its version and the one that it found
  pub record Stays (log : List Change) (p : Change) : Type 0 where
    pub n : ℕ
    pub next : p.version ≡ n + step_of p
    pub low : p.version ≤ version log p.row
    pub put_wide : length p.put ≡ 16
    pub found_wide : length p.found ≡ 16
    pub put : p.puts ≡ true → (i : ℕ) → stood start log p.row p.version i ≡ slice_index p.put i
    pub found : (i : ℕ) → i < 16 → stood start log p.row n i ≡ slice_index p.found i

  stays_here : (p : Change) (ps : List Change) → IsChain start (p ∷ ps) → Stays (p ∷ ps) p
  stays_here p ps c =
      let f = c.0 in
      let now : p.version ≡ version (p ∷ ps) p.row = f.numbered ∙ sym (version_here p ps p.row refl) in
      record {
        n = version ps p.row;
        next = f.numbered;
        low = omega (arith, now);
        put_wide = f.put_wide;
        found_wide = f.found_wide;
        put = λ puts i. ap (λ k. stood start (p ∷ ps) p.row k i) now ∙ stood_now start (p ∷ ps) p.row i c ∙ stands_put start p ps p.row i refl puts;
        found = λ i h. stood_before start p ps p.row (version ps p.row) i f (omega arith) ∙ stood_now start ps p.row i c.1 ∙ sym (f.found_is i h);
      }

  stays_more : (p : Change) (ps : List Change) → Follows start ps p → (q : Change) → Stays ps q → Stays (p ∷ ps) q
  stays_more p ps f q s = record {
    n = s.n;
    next = s.next;
    low = omega (arith, s.low, version_more p ps q.row);
    put_wide = s.put_wide;
    found_wide = s.found_wide;
    put = λ puts i. stood_before start p ps q.row q.version i f s.low ∙ s.put puts i;
    found = λ i h. stood_before start p ps q.row s.n i f (omega (arith, s.low, s.next)) ∙ s.found i h;
  }

  pub all_stay : (log : List Change) → IsChain start log → Each (Stays log) log
  all_stay [] c = tt
  all_stay (p ∷ ps) c = (stays_here p ps c, each_map (Stays ps) (Stays (p ∷ ps)) (stays_more p ps c.0) ps (all_stay ps c.1))

  -- the same by the contents
  pub record Says (log : List Change) (p : Change) : Type 0 where
    pub n : ℕ
    pub next : p.version ≡ n + step_of p
    pub low : p.version ≤ version log p.row
    pub put : p.puts ≡ true → content_of start log p.row p.version ≡ p.put
    pub found : content_of start log p.row n ≡ p.found

  pub says : (log : List Change) (p : Change) → Stays log p → Says log p
  says log p s = record {
    n = s.n;
    next = s.next;
    low = s.low;
    put = λ puts. listed_is 16 0 (λ i. stood start log p.row p.version i) p.put s.put_wide (λ j h. ap (λ z. stood start log p.row p.version z) (zero-add j) ∙ s.put puts j);
    found = listed_is 16 0 (λ i. stood start log p.row s.n i) p.found s.found_wide (λ j h. ap (λ z. stood start log p.row s.n z) (zero-add j) ∙ s.found j h);
  }

  -- so does what a read found
  pub whole_is : (log : List Change) (r k : ℕ) (xs : List ℕ) → length xs ≡ 16 → ((i : ℕ) → i < 16 → slice_index xs i ≡ stood start log r k i) → content_of start log r k ≡ xs
  whole_is log r k xs wide same = listed_is 16 0 (λ i. stood start log r k i) xs wide (λ j h. ap (λ z. stood start log r k z) (zero-add j) ∙ sym (same j h))

  -- at version 0 a row has its opening content
  stood_first : (log : List Change) (r i : ℕ) → IsChain start log → stood start log r 0 i ≡ slice_index start (word_at r i)
  stood_first [] r i c = refl
  stood_first (p ∷ ps) r i c = stood_before start p ps r 0 i c.0 (omega arith) ∙ stood_first ps r i c.1

  pub opens : (log : List Change) → IsChain start log → IsRunsBoard start → (row : ℕ) → 0 < row → row < 14242 → content_of start log row 0 ≡ opening_content row
  opens log c o row some low =
      listed_is 16 0 (λ i. stood start log row 0 i) (opening_content row) (opening_wide (is_cell row)) (λ j h. ap (λ z. stood start log row 0 z) (zero-add j) ∙ stood_first log row j c ∙ o.contents row j some low h)
