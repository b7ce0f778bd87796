-- Each make takes one cell more of a node into use, until all 64 are.
use Rattle.std.proofs.Common.{◌≡◌, ℕ, ◌+◌, ◌<◌, ◌≤◌, min, true, false, ltb, None, Some, Ok, Err, Option, Result, arith}
use Rattle.std.proofs.lemmas.Bool.Decides.{nat_tests}
use Rattle.model.specs.Refusals.{first_no}
use Rattle.model.specs.Tables.{one}
use Rattle.model.specs.Cells.{Cells, all_free, is_free, is_used}
use Rattle.model.specs.Heaps.{some_free, make_asks, Made, Makes}
use Rattle.model.specs.declared.colour.Colour.{Colour}
use Rattle.model.specs.declared.refusal.Refusal.{Refusal}
use Rattle.model.proofs.Firsts.{first_is_some, first_found}
use Rattle.model.proofs.Totals.{total_same, total_all, total_bound, total_change, total_lt}
use Rattle.known.specs.Filling.{used_count, after_makes}

at_most_64 : (cells : Cells) (n : ℕ) → used_count cells n ≤ 64
at_most_64 cells n = omega (arith, total_bound 64 1 (λ c. one (is_used (cells n c))) (λ c h. grind arith))

-- no cell is free: all are in use
full : (cells : Cells) (n : ℕ) → some_free cells n ≡ false → used_count cells n ≡ 64
full cells n none = omega (arith, total_all 64 1, total_same 64 (λ c. one (is_used (cells n c))) (λ c. 1) (λ c h. grind (arith, first_is_some 64 (λ j. is_free (cells n j)) c h)))

-- some cell is free: fewer than 64 are in use
fewer : (cells : Cells) (n c : ℕ) → c < 64 → is_free (cells n c) ≡ true → used_count cells n < 64
fewer cells n c low unused = omega (arith, total_all 64 1, total_lt 64 (λ j. one (is_used (cells n j))) (λ j. 1) c low (λ j h. grind arith) (grind arith))

-- some cell is free exactly where fewer than 64 are in use
pub room : (cells : Cells) (n : ℕ) → some_free cells n ≡ ltb (used_count cells n) 64
room cells n = grind (arith, nat_tests, full cells n, fewer cells n, first_found 64 (λ c. is_free (cells n c)))

-- after k makes on node n, which were all granted
pub record Filled (cells : Cells) (n k : ℕ) : Type 0 where
  pub count : used_count cells n ≡ k
  pub near : 0 < k → n < 16

pub none_filled : (n : ℕ) → Filled all_free n 0
none_filled n = record { count = omega (arith, total_all 64 0); near = λ h. absurd (omega arith) }

-- one make, granted or not
pub one_more : {S : Type 0} (cells : S → Cells) (before : S) (n : ℕ) (colour : Colour) (r : Result ℕ Refusal) (after : S)
    → Makes cells before n colour r after → n < 16 → used_count (cells after) n ≡ min (used_count (cells before) n + 1) 64
one_more cells before n colour (Ok c) after (asked, made) near =
    let there = total_change 64 (λ j. one (is_used (cells before n j))) (λ j. one (is_used (cells after n j))) c made.low (λ j off. grind (arith, nat_tests, made.cells)) in
    grind (arith, nat_tests, made.cells, made.was_free, at_most_64 (cells after) n)
one_more cells before n colour (Err why) after (asked, stays) near = grind (arith, nat_tests, full (cells before) n, asked, stays)

pub filled_more : (before after : Cells) (n k c : ℕ) (colour : Colour) → Filled before n k → first_no (make_asks before n) ≡ None → Made before n colour after c → Filled after n (k + 1)
filled_more before after n k c colour filled asked made =
    let near : n < 16 = grind (arith, nat_tests, asked) in
    record {
      count = grind (arith, nat_tests, filled.count, asked, room before n, one_more (λ (cells : Cells). cells) before n colour (Ok c) after (asked, made) near);
      near = λ h. near;
    }

-- what comes of a call, by the first question that is answered no
abbrev pub outcome : Option Refusal → Result Unit Refusal
outcome None = Ok tt
outcome (Some why) = Err why

-- what comes of one make more, where as many cells are in use as count makes leave
pub one_make_more : (cells : Cells) (n count : ℕ) → (n < 16 → used_count cells n ≡ min count 64) → outcome (first_no (make_asks cells n)) ≡ after_makes n count
one_make_more cells n count filled = grind (arith, nat_tests, room cells n, filled)

-- count makes and one more, all granted
pub all_granted : (cells : Cells) (n count : ℕ) → Filled cells n (count + 1) → Ok tt ≡ after_makes n count
all_granted cells n count filled = grind (arith, nat_tests, filled.near (omega arith), filled.count, at_most_64 cells n)

-- a make is refused after k of them: one make more than count, which is no less, is refused for the same reason
pub refused : (cells : Cells) (n k count : ℕ) (why : Refusal) → Filled cells n k → k ≤ count → first_no (make_asks cells n) ≡ Some why → Err why ≡ after_makes n count
refused cells n k count why filled most asked = rw asked at (one_make_more cells n count (λ near. grind (arith, nat_tests, filled.count, full cells n, asked)))
