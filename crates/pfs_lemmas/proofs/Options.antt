-- Options: two that are the same hold the same, and one that holds something is not none.
use Rattle.std.proofs.Common.{◌≡◌, Option, Some, None}

pub some_same : {A : Type 0} (a b : A) → ◌≡◌ {A = Option A} (Some a) (Some b) → a ≡ b
some_same a b same = cc

pub none_some : {A B : Type 0} (a : A) → ◌≡◌ {A = Option A} None (Some a) → B
none_some a same = absurd (cc)
