-- Those behind a place move up by one, up to the end; past the end nothing is taken out.
use Rattle.std.proofs.Common.{◌≡◌, ℕ, suc, ◌+◌, ◌-◌, ◌<◌, ◌≤◌, List, length, take, drop, add-one, arith}
use Rattle.std.specs.List.{copy_within, remove}
use Rattle.std.proofs.lemmas.List.Edits.{take-paste}
use Rattle.std.proofs.lemmas.List.{length-take, length-drop, take-take, drop-take, append-nil, take_all, drop_all}

pub moved_up : {X : Type 0} (xs ys : List X) (at n : ℕ) → at < length (take n xs) → n ≤ length xs → ys ≡ copy_within xs (at + 1) n at → take (n - 1) ys ≡ remove (take n xs) at
moved_up xs ys at n within fits moved =
    let near : at < n = omega (arith, within, length-take n xs) in
    let j = n - (at + 1) in
    let whole : n - 1 ≡ at + j = omega arith in
    let next : n ≡ suc at + j = omega arith in
    let front = take-paste xs at (drop (at + 1) xs) j (omega arith) (omega (arith, length-drop (at + 1) xs)) in
    let below = take-take at n xs (omega arith) in
    let above = drop-take (suc at) j xs in
    rw (moved, whole) (cc (front, below, above, next, add-one at))

pub removed_past : {X : Type 0} (xs : List X) (k : ℕ) → length xs ≤ k → remove xs k ≡ xs
removed_past xs k far = cc (take_all k xs far, drop_all (suc k) xs (omega arith), append-nil xs)
