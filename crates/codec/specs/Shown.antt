-- An answer that shows another.
use Rattle.std.specs.Prelude.{◌≡◌}

-- r shows an answer that is so
pub record Shown {A R : Type 0} (show : A → R) (so : A → Type 0) (r : R) : Type 0 where
  pub answer : A
  pub shown : r ≡ show answer
  pub is : so answer
