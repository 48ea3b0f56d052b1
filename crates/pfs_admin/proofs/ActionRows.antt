-- The rows that an action names ascend.
use Rattle.std.proofs.Common.{ℕ, zero, suc, ◌≡◌, ◌≤◌, ◌<◌, ◌+◌, ◌*◌, List, [], ◌∷◌, ◌++◌, map, Option, Some, None, IfSome, subst, sym, refl, ap, arith}
use Rattle.std.specs.Option.{option_map}
use Rattle.pfs_containers.specs.declared.containers.Connection.{Connection}
use Rattle.pfs_containers.specs.declared.containers.Seated.{Seated}
use Rattle.pfs_containers.specs.Administration.{Containers}
use Rattle.pfs_containers.specs.PlaceInfos.{account_info_at, user_info_at, host_info_at}
use Rattle.pfs_containers.specs.ContainerState.{HasPlaces, IsInRange}
use Rattle.pfs_containers.specs.InfoWords.{account_words, name_words}
use Rattle.pfs_levels.specs.declared.flushes.Source.TheVariants as of
use Rattle.pfs_levels.specs.declared.places.Up.{Up}
use Rattle.pfs_levels.specs.Flushes.{Ascends, ask_of, asks_of, from_of}
use Rattle.pfs_admin.specs.ConnectionAsks.{tag_of, account_tag, user_tag, host_tag, upper_tags, up_of}
use Rattle.pfs_admin.specs.FoldLaws.{row_of, ConnectRows, QuitRows}
use Rattle.pfs_admin.specs.WordChanges.{up_to}
use Rattle.pfs_admin.specs.Truncations.{freed_at, free_rows, free_ring}
use Rattle.pfs_admin.specs.Works.{Sign}

wider : (low low2 limit : ℕ) (xs : List ℕ) → low2 ≤ low → Ascends low limit xs → Ascends low2 limit xs
wider low low2 limit [] l a = tt
wider low low2 limit (x ∷ xs) l a = (omega (arith, l, a.0), a.1)

-- a tag of one row, before those of greater rows
tag_first : (low next limit row : ℕ) (content : Option (List ℕ)) (rest : List Sign) → low ≤ row → row + 1 ≤ next → row < limit → low ≤ next → Ascends next limit (map row_of rest)
    → Ascends low limit (map row_of (tag_of row content ++ rest))
tag_first low next limit row None rest l n m k a = wider next low limit (map row_of rest) k a
tag_first low next limit row (Some content) rest l n m k a = (l, (m, wider next (row + 1) limit (map row_of rest) n a))

account_first : (c : Containers) (account : Option ℕ) (rest : List Sign) → IfSome account (λ n. n < 32) → Ascends 65 129 (map row_of rest)
    → Ascends 33 129 (map row_of (account_tag c account ++ rest))
account_first c None rest h a = wider 65 33 129 (map row_of rest) (omega arith) a
account_first c (Some n) rest h a =
    tag_first 33 65 129 (33 + n) (option_map account_words (account_info_at c n)) rest (omega arith) (omega (arith, h)) (omega (arith, h)) (omega arith) a

user_first : (c : Containers) (user : Option ℕ) (rest : List Sign) → IfSome user (λ n. n < 32) → Ascends 97 129 (map row_of rest)
    → Ascends 65 129 (map row_of (user_tag c user ++ rest))
user_first c None rest h a = wider 97 65 129 (map row_of rest) (omega arith) a
user_first c (Some n) rest h a =
    tag_first 65 97 129 (65 + n) (option_map name_words (user_info_at c n)) rest (omega arith) (omega (arith, h)) (omega (arith, h)) (omega arith) a

host_only : (row : ℕ) (content : Option (List ℕ)) → 97 ≤ row → row < 129 → Ascends 97 129 (map row_of (tag_of row content))
host_only row None l m = tt
host_only row (Some content) l m = (l, (m, tt))

host_last : (c : Containers) (host : Option ℕ) → IfSome host (λ n. n < 32) → Ascends 97 129 (map row_of (host_tag c host))
host_last c None h = tt
host_last c (Some n) h = host_only (97 + n) (option_map name_words (host_info_at c n)) (omega arith) (omega (arith, h))

uppers : (c : Containers) (x : Connection) → HasPlaces 32 32 32 x → Ascends 33 129 (map row_of (upper_tags c x))
uppers c x has = account_first c x.account (user_tag c x.user ++ host_tag c x.host) has.account
    (user_first c x.user (host_tag c x.host) has.user (host_last c x.host has.host))

behind_slot : (c : Containers) (seat : Seated) → IsInRange seat → Ascends (1 + seat.slot + 1) 129 (map row_of (upper_tags c seat.connection))
behind_slot c seat is = wider 33 (1 + seat.slot + 1) 129 (map row_of (upper_tags c seat.connection)) (omega (arith, is.slot)) (uppers c seat.connection is.places)

pub connect_rows : ConnectRows
connect_rows words flags after seat is = (omega arith, (omega (arith, is.slot), behind_slot after seat is))

cells_ascend : (up : Up) (low : ℕ) (cells : List ℕ) → up.place < 32 → Ascends low 64 cells → Ascends (129 + 64 * up.place + low) 2177 (map from_of (asks_of cells (of.Thread up)))
cells_ascend up low [] h a = tt
cells_ascend up low (x ∷ xs) h a = (
  omega (arith, a.0),
  (
    omega (arith, a.1.0, h),
    wider (129 + 64 * up.place + (x + 1)) ((ask_of (of.Thread up) x).from + 1) 2177 (map from_of (asks_of xs (of.Thread up))) (omega arith)
        (cells_ascend up (x + 1) xs h a.1.1),
  ),
)

-- rows below a limit, and others from there on
two_runs : (low mid limit : ℕ) (xs ys : List ℕ) → mid ≤ limit → low ≤ mid → Ascends low mid xs → Ascends mid limit ys → Ascends low limit (xs ++ ys)
two_runs low mid limit [] ys h l a b = wider mid low limit ys l b
two_runs low mid limit (x ∷ xs) ys h l a b = (a.0, (omega (arith, a.1.0, h), two_runs (x + 1) mid limit xs ys h (omega (arith, a.1.0)) a.1.1 b))

mapped : (xs ys : List Sign) → map row_of (xs ++ ys) ≡ map row_of xs ++ map row_of ys
mapped [] ys = refl
mapped (x ∷ xs) ys = ap (λ z. row_of x ∷ z) (mapped xs ys)

-- rows that are released one after another
pub frees_up : (first count : ℕ) → Ascends first (first + count) (map row_of (up_to (freed_at first) count))
frees_up first zero = tt
frees_up first (suc n) =
    let last : Ascends (first + n) (first + suc n) (map row_of (freed_at first n)) = (omega arith, (omega arith, tt)) in
    let front : Ascends first (first + n) (map row_of (up_to (freed_at first) n)) = frees_up first n in
    subst (Ascends first (first + suc n)) (sym (mapped (up_to (freed_at first) n) (freed_at first n)))
    (two_runs first (first + n) (first + suc n) (map row_of (up_to (freed_at first) n)) (map row_of (freed_at first n)) (omega arith) (omega arith) front last)

pub frees_ascend : (first count : ℕ) → Ascends first (first + count) (map row_of (free_rows first count))
unfolding free_rows
frees_ascend first count = frees_up first count

pub higher : (low limit limit2 : ℕ) (xs : List ℕ) → limit ≤ limit2 → Ascends low limit xs → Ascends low limit2 xs
higher low limit limit2 [] l a = tt
higher low limit limit2 (x ∷ xs) l a = (a.0, (omega (arith, a.1.0, l), higher (x + 1) limit limit2 xs l a.1.1))

-- behind the info rows the places of a ring
with_ring : (low slot : ℕ) (tags : List Sign) → slot < 32 → low ≤ 129 → Ascends low 129 (map row_of tags) → Ascends low 10242 (map row_of (tags ++ free_ring slot))
with_ring low slot tags s l a =
    let ring : Ascends (8450 + 56 * slot) (8450 + 56 * slot + 56) (map row_of (free_ring slot)) = frees_ascend (8450 + 56 * slot) 56 in
    let wide : Ascends 129 10242 (map row_of (free_ring slot)) =
    wider (8450 + 56 * slot) 129 10242 (map row_of (free_ring slot)) (omega arith)
    (higher (8450 + 56 * slot) (8450 + 56 * slot + 56) 10242 (map row_of (free_ring slot)) (omega (arith, s)) ring) in
    subst (Ascends low 10242) (sym (mapped tags (free_ring slot)))
    (two_runs low 129 10242 (map row_of tags) (map row_of (free_ring slot)) (omega arith) l a wide)

low_ring : (slot : ℕ) → slot < 32 → Ascends 8450 10242 (map row_of (free_ring slot))
low_ring slot l =
    wider (8450 + 56 * slot) 8450 10242 (map row_of (free_ring slot)) (omega arith)
    (higher (8450 + 56 * slot) (8450 + 56 * slot + 56) 10242 (map row_of (free_ring slot)) (omega (arith, l)) (frees_ascend (8450 + 56 * slot) 56))

pub quit_rows : QuitRows
quit_rows words cells after seat is a =
    let tags : Ascends (1 + seat.slot + 1) 129 (map row_of (upper_tags after seat.connection)) = behind_slot after seat is in (
      wider (129 + 64 * seat.slot + 0) 129 2177 (map from_of (asks_of cells (of.Thread (up_of seat)))) (omega arith) (cells_ascend (up_of seat) 0 cells is.slot a),
      (
        omega arith,
        (omega (arith, is.slot), with_ring (1 + seat.slot + 1) seat.slot (upper_tags after seat.connection) is.slot (omega (arith, is.slot)) tags),
      ),
      (omega arith, (omega (arith, is.slot), tags)),
      low_ring seat.slot is.slot,
    )
