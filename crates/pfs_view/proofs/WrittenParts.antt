-- Parts of a list that are written one after another.
use Rattle.std.proofs.Common.{ℕ, ◌≡◌, ◌+◌, ◌<◌, ◌≤◌, List, ◌++◌, length, take, drop, get_or, Option, Err, sym, ap, subst, ◌∙◌}
use Rattle.std.specs.List.{flat_map}
use Rattle.std.proofs.lemmas.List.{at_drop_more, take-append-drop}
use Rattle.std.proofs.lemmas.List.Concat.{flat_map-cons}
use Rattle.std.proofs.lemmas.Grind.{flat_map-append}
use Rattle.pfs_outside.specs.DeviceCalls.{Added}
use Rattle.pfs_outside.specs.WholeStreams.{Puts}
use Rattle.pfs_outside.specs.declared.writing.WriteStop.{WriteStop}
use Rattle.pfs_outside.proofs.SinkWrites.{puts_then, puts_stop}

-- the parts before one, that one, and the parts behind it
around : {T : Type 0} (f : T → List ℕ) (xs : List T) (i : ℕ) (x : T) → i < length xs → x ≡ get_or xs i x → flat_map f xs ≡ flat_map f (take i xs) ++ (f x ++ flat_map f (drop (i + 1) xs))
around {T} f xs i x h e =
    ap (flat_map f) (sym (take-append-drop i xs))
    ∙ (flat_map-append f (take i xs) (drop i xs)
    ∙ ap (λ (z : List ℕ). flat_map f (take i xs) ++ z) (at_drop_more (flat_map f) xs i x h ∙ (flat_map-cons f (get_or xs i x) (drop (i + 1) xs) ∙ ap (λ (y : T). f y ++ flat_map f (drop (i + 1) xs)) (sym e))))

-- writing stopped at one of them
pub stopped_at : {T : Type 0} (f : T → List ℕ) (xs : List T) (i : ℕ) (x : T) (a b c : Option (List ℕ)) (k m n : ℕ) (stop : WriteStop) → i < length xs → x ≡ get_or xs i x
    → Added a b (flat_map f (take i xs)) × (k ≤ m) → Puts b c m n (f x) (Err stop) → Puts a c k n (flat_map f xs) (Err stop)
stopped_at f xs i x a b c k m n stop within is front p =
    let behind = flat_map f (drop (i + 1) xs) in
    subst (λ (z : List ℕ). Puts a c k n z (Err stop)) (sym (around f xs i x within is))
    (puts_then a b c k m n (flat_map f (take i xs)) (f x ++ behind) (Err stop) front (puts_stop b c m n (f x) behind stop p))
