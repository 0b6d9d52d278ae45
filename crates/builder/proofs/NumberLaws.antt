-- Small laws of numbers and tests.
use Prim.Native.Nat.{ℕ, ◌+◌, ◌-◌, ◌≤◌}
use mathlib.Core.Path.{◌≡◌, sym, ◌∙◌, ap}
use mathlib.Core.List.{List}
use lib.ListN.{length, take}
use Rattle.std.specs.Prelude.{Result, Ok}
use Rattle.std.specs.Result.{result_unwrap_or}
use Rattle.codec.specs.declared.put.NoRoom.{NoRoom}
use Rattle.codec.specs.Put.{Wrote}
use Rattle.codec.proofs.PutLaws.{answer_room, front_put}
use native.Mathlib.Omega.{arith}
use lib.Dec.{leb}
use borrow.Author.Tests.{le-leb, lt-leb}
use Rattle.codec.proofs.Prelude.{split}

-- a sum's test, by a difference
pub sum_leb : (a b n : ℕ) → a ≤ n → leb b (n - a) ≡ leb (a + b) n
sum_leb a b n h =
    split (n - a) b
    (λ g. lt-leb b (n - a) g ∙ sym (lt-leb (a + b) n (omega arith)))
    (λ g. le-leb b (n - a) g ∙ sym (le-leb (a + b) n (omega arith)))

-- bytes that were put at the front of n others: how many they are
module _ (n : ℕ) {d e : List ℕ} {r : Result ℕ NoRoom} (bs : List ℕ) (l : length d ≡ n) (k : length bs ≤ n) (w : Wrote d 0 bs r e) where
  pub front_unwrapped : {m : ℕ} → m ≡ result_unwrap_or r 0 → (m ≤ n) × ((length e ≡ n) × (take m e ≡ bs))
  front_unwrapped {m} u =
      let o : r ≡ Ok (0 + length bs) = w.said ∙ answer_room d 0 bs (omega arith) in
      let q : m ≡ 0 + length bs = u ∙ ap (λ (x : Result ℕ NoRoom). result_unwrap_or x 0) o in
      front_put n bs l k w (o ∙ ap Ok (sym q))
