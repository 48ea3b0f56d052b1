use Rattle.std.proofs.Common.{◌≡◌, ℕ, ◌==◌, Bool, true, false, cond, Option, Some, None, ◌∙◌}
use Rattle.pfs_test_tables.proofs.finals.write.Goals as goal

-- a row that is taken and put back is in nobody's hand
one_back : (b : Bool) (v : ℕ) (old mid new : Option ℕ) → old ≡ None → mid ≡ cond b (Some v) old → new ≡ cond b None mid → new ≡ None
one_back true v old mid new o m n = n
one_back false v old mid new o m n = n ∙ (m ∙ o)

put_back : (row v : ℕ) (old mid new : ℕ → Option ℕ) → ((r : ℕ) → old r ≡ None) → ((r : ℕ) → mid r ≡ cond (r == row) (Some v) (old r))
    → ((r : ℕ) → new r ≡ cond (r == row) None (mid r)) → (r : ℕ) → new r ≡ None
put_back row v old mid new o m n r = one_back (r == row) v (old r) (mid r) (new r) (o r) (m r) (n r)

pub returns-clause-away : goal.returns-clause-away
returns-clause-away c = put_back c.args.row c.take.result.0 _ _ _ c.requires.away c.take.ensures.kept.hand c.put.ensures.kept.hand
