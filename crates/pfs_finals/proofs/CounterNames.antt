-- The names of counters are such as a report can have.
use Rattle.std.proofs.Common.{ℕ, ◌≡◌, ◌≢◌, ◌==◌, nat_lt, Bool, true, false, cond, List, [], ◌∷◌, length, refl, ap, arith}
use Rattle.std.specs.Prelude.{All}
use Rattle.std.specs.List.{flat_map, list_all}
use Rattle.std.proofs.lemmas.Bool.{and_parts, false≢true}
use Rattle.std.proofs.lemmas.List.Elements.{All-nil, All-cons, All-append}
use Rattle.pfs_classes.specs.Registry.{Registry}
use Rattle.pfs_journal.specs.Reports.{is_name_byte, IsName, IsLost}
use Rattle.pfs_journal.specs.declared.values.LostReport.{LostReport}
use Rattle.pfs_finals.specs.declared.counters.Counter.{Counter}
use Rattle.pfs_finals.specs.declared.counters.Counter.TheVariants.{Threads, Accounts, Users, Hosts, Digests, NestedStatements, Lockers, MutexClasses, RwlockClasses, CondClasses, FileClasses, SocketClasses, StageClasses, StatementClasses}
use Rattle.pfs_finals.specs.declared.counters.LostCounters.{LostCounters}
use Rattle.pfs_finals.specs.Counters.{counter_name, lost_by, lost_row}

all_pass : (p : ℕ → Bool) (xs : List ℕ) → list_all p xs ≡ true → All (λ b. p b ≡ true) xs
all_pass p [] e = All-nil (λ b. p b ≡ true)
all_pass p (x ∷ xs) e = let h = and_parts (p x) (list_all p xs) e in All-cons (λ b. p b ≡ true) x xs h.0 (all_pass p xs h.1)

filled : (xs : List ℕ) → nat_lt 0 (length xs) ≡ true → xs ≢ []
filled [] e = λ h. false≢true e
filled (x ∷ xs) e = λ h. let n = ap length h in absurd (omega (arith, n))

name_of : (name : List ℕ) → nat_lt 0 (length name) ≡ true → list_all is_name_byte name ≡ true → IsName name
name_of name some bytes = record { some = filled name some; bytes = all_pass is_name_byte name bytes }

good_name : (counter : Counter) → IsName (counter_name counter)
good_name Threads = name_of (counter_name Threads) refl refl
good_name Accounts = name_of (counter_name Accounts) refl refl
good_name Users = name_of (counter_name Users) refl refl
good_name Hosts = name_of (counter_name Hosts) refl refl
good_name Digests = name_of (counter_name Digests) refl refl
good_name NestedStatements = name_of (counter_name NestedStatements) refl refl
good_name Lockers = name_of (counter_name Lockers) refl refl
good_name MutexClasses = name_of (counter_name MutexClasses) refl refl
good_name RwlockClasses = name_of (counter_name RwlockClasses) refl refl
good_name CondClasses = name_of (counter_name CondClasses) refl refl
good_name FileClasses = name_of (counter_name FileClasses) refl refl
good_name SocketClasses = name_of (counter_name SocketClasses) refl refl
good_name StageClasses = name_of (counter_name StageClasses) refl refl
good_name StatementClasses = name_of (counter_name StatementClasses) refl refl

one_good : (none : Bool) (row : LostReport) → IsLost row → All IsLost (cond none [] (row ∷ []))
one_good true row good = All-nil IsLost
one_good false row good = All-cons IsLost row [] good (All-nil IsLost)

pub all_good : (classes : Registry) (lost : LostCounters) (cs : List Counter) → All IsLost (flat_map (lost_row classes lost) cs)
all_good classes lost [] = All-nil IsLost
all_good classes lost (c ∷ cs) =
    All-append IsLost (lost_row classes lost c) (flat_map (lost_row classes lost) cs)
    (one_good (lost_by classes lost c == 0) (record { name = counter_name c; number = lost_by classes lost c }) (good_name c))
    (all_good classes lost cs)
