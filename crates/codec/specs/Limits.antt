-- Numbers within limits.
use Rattle.std.specs.Prelude.{ℕ, Bool, ◌&&◌, leb}

-- from low to high
unfoldable pub within : ℕ → ℕ → ℕ → Bool
within low high x = leb low x && leb x high
