-- Tables are functions: one with a value changed, the sum of one, the lowest number that passes a test.
-- Nothing here is about cells.
use Rattle.std.specs.Prelude.{ℕ, zero, suc, ◌+◌, Bool, cond, Some, None, Option, ◌==◌}
pub use Rattle.std.specs.Option.{is_some, option_or as or_else}

-- f, but v at n
abbrev pub put : {X : Type 0} → (ℕ → X) → ℕ → X → ℕ → X
put f n v k = cond (k == n) v (f k)

-- a table by two numbers, but v at n and i
abbrev pub put₂ : {X : Type 0} → (ℕ → ℕ → X) → ℕ → ℕ → X → ℕ → ℕ → X
put₂ f n i v = put f n (put (f n) i v)

abbrev pub one : Bool → ℕ
one b = cond b 1 0

-- the sum of f below n
unfoldable pub total : ℕ → (ℕ → ℕ) → ℕ
total zero f = 0
total (suc n) f = total n f + f n

-- the lowest number below n that passes
unfoldable pub first : ℕ → (ℕ → Bool) → Option ℕ
first zero test = None
first (suc n) test = or_else (first n test) (cond (test n) (Some n) None)
