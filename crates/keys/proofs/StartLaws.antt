-- A key above another is no start of it: it has a byte of its own.
use Prim.Native.Nat.{ℕ, ◌+◌, ◌-◌, ◌≤◌, ◌<◌}
use mathlib.Core.Path.{◌≡◌, sym, ◌∙◌}
use mathlib.Core.List.{List, [], ◌∷◌, ◌++◌, append-nil}
use mathlib.Core.Bool.{true, false, false≢true}
use native.Mathlib.Omega.{arith}
use lib.Dec.{ltb}
use lib.ListN.{length, take, drop, length-append, length-take, length-drop, take-append-drop}
use lib.Seq.{take-add, take-append-le, take-length}
use borrow.Author.Tests.{ltb-true, ltb-false}
use Rattle.codec.specs.Bytes.{common}
use Rattle.codec.proofs.Prelude.{test}
use Rattle.codec.proofs.BytesLaws.{shares_common}
use Rattle.keys.specs.Order.{by_bytes, user_of, below}
use Rattle.keys.proofs.OrderLaws.{Less, compare_same, ≺-weak, up_to_not_below, below_itself}
use Rattle.keys.proofs.SeparatorLaws.{word-≺}

start_less : (u v : List ℕ) → 0 < length v → Less by_bytes u (u ++ v)
unfolding by_bytes
start_less [] [] l = absurd (omega arith)
start_less [] (y ∷ v) l = record { is = tt }
start_less (x ∷ u) v l = record { is = rw (compare_same x) (start_less u v l).is }

-- the words of a key and of a start of it
user_start : (k r : List ℕ) → 8 ≤ length k → (v : List ℕ) × (length v ≡ length r) × (user_of (k ++ r) ≡ user_of k ++ v)
unfolding user_of
user_start k r l =
    let n = length k - 8 in
    let all = length-append k r in
    let e : length (k ++ r) - 8 ≡ n + length r = omega arith in
    (take (length r) (drop n (k ++ r)), simp (length-take, length-drop) (omega arith), rw (e, take-add n (length r) (k ++ r), take-append-le n k r (omega arith)))

start_not_above : (k r : List ℕ) → 8 ≤ length k → below (k ++ r) k ≡ false
start_not_above k [] l = rw append-nil (below_itself k)
start_not_above k (x ∷ r) l =
    let (v, n, e) = user_start k (x ∷ r) l in
    up_to_not_below k (k ++ (x ∷ r)) (≺-weak (word-≺ (rw e (start_less (user_of k) v (omega arith)))))

pub above_fresh : (a k : List ℕ) → 8 ≤ length k → below a k ≡ true → common a k < length k
above_fresh a k l up =
    test (ltb (common a k) (length k))
    (λ t. ltb-true (common a k) (length k) t)
    (λ t.
    let s = shares_common a k in
    let m = ltb-false (common a k) (length k) t in
    let n : common a k ≡ length k = omega arith in
    let start : take (length k) a ≡ k = rw (n, take-length k) at s.same in
    let whole : a ≡ k ++ drop (length k) a = rw start at (sym (take-append-drop (length k) a)) in
    absurd (false≢true (sym (rw (← whole) at (start_not_above k (drop (length k) a) l)) ∙ up)))
