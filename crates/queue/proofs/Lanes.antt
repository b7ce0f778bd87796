-- The lanes of a list of messages, where one is added or taken out.
use Rattle.std.proofs.Common.{◌≡◌, ℕ, zero, suc, ◌+◌, ◌<◌, ◌≤◌, List, [], ◌∷◌, ◌++◌, length, get_or, take, Some, refl, sym, ap, ◌∙◌, arith}
use Rattle.std.specs.List.{slice_get, remove}
use Rattle.std.proofs.lemmas.Bool.Decides.{nat_tests}
use Rattle.std.proofs.lemmas.List.Elements.{filter-append}
use Rattle.std.proofs.lemmas.List.Filters.{length-filter_more}
use Rattle.std.proofs.lemmas.List.{append-nil, take_all}
use Rattle.model.specs.Tables.{one}
use Rattle.model.specs.Messages.{for, how_many, sum, same, Added}
use Rattle.model.specs.declared.message.Message.{Message}
use Rattle.model.proofs.Counts.{sum_append}
use Rattle.model.proofs.Puts.{is_put}
use Rattle.queue.specs.Queues.{lane, lanes_with}

pub lane_length : (n : ℕ) (xs : List Message) → length (lane n xs) ≡ how_many (for n) xs
lane_length n [] = refl
lane_length n (x ∷ xs) = grind (arith, lane_length n xs)

-- the lane of the first messages of a list, with one more
pub lane_more : (n : ℕ) (xs : List Message) (i : ℕ) (m : Message) → i < length xs → m ≡ get_or xs i m → length (lane n (take (i + 1) xs)) ≡ length (lane n (take i xs)) + one (for n m)
lane_more n xs i m within is = length-filter_more (for n) xs i m within ∙ ap (λ x. length (lane n (take i xs)) + one (for n x)) (sym is)

-- and of all of them
pub lane_whole : (n : ℕ) (xs : List Message) (i : ℕ) → length xs ≤ i → lane n (take i xs) ≡ lane n xs
lane_whole n xs i past = ap (lane n) (take_all i xs past)

-- a message of a lane is for its node
pub lane_for : (n : ℕ) (xs : List Message) (k : ℕ) (m : Message) → slice_get (lane n xs) k ≡ Some m → m.to ≡ n
lane_for n [] k m e = cc
lane_for n (x ∷ xs) zero m e = grind (arith, nat_tests, lane_for n xs zero m)
lane_for n (x ∷ xs) (suc k) m e = grind (arith, lane_for n xs k m, lane_for n xs (suc k) m)

-- message m stands at a place, and is taken out
module _ (m : Message) where
  pub sum_without : (f : Message → ℕ) (xs : List Message) (at : ℕ) → slice_get xs at ≡ Some m → sum f xs ≡ f m + sum f (remove xs at)
  sum_without f [] at e = cc
  sum_without f (x ∷ xs) zero e = grind arith
  sum_without f (x ∷ xs) (suc at) e = grind (arith, sum_without f xs at)

  pub lane_without : (n : ℕ) (xs : List Message) (at : ℕ) → slice_get xs at ≡ Some m → (n ≡ m.to → ⊥) → lane n (remove xs at) ≡ lane n xs
  lane_without n [] at e off = cc
  lane_without n (x ∷ xs) zero e off = grind (arith, nat_tests)
  lane_without n (x ∷ xs) (suc at) e off = grind (arith, lane_without n xs at)

pub added_last : (m : Message) (xs ys : List Message) → ys ≡ xs ++ (m ∷ []) → (λ n. lane n ys) ≡ lanes_with m (λ n. lane n xs)
added_last m xs ys more = rw more (is_put _ _ _ _ (grind (arith, nat_tests, filter-append (for m.to) xs)) (λ k off. grind (arith, nat_tests, filter-append (for k) xs, append-nil)))

pub added_count : (m : Message) (xs ys : List Message) → ys ≡ xs ++ (m ∷ []) → Added m xs ys
added_count m xs ys more x = rw more (omega (arith, sum_append (λ other. one (same x other)) xs (m ∷ [])))
