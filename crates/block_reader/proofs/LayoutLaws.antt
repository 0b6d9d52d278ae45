-- The layout of a block: where its restarts start, how many there are, and each of them.
use Prim.Native.Nat.{ℕ, zero, suc, ◌+◌, ◌*◌, ◌-◌, ◌≤◌, ◌<◌}
use mathlib.Core.Path.{◌≡◌, refl, sym, ap, ◌∙◌}
use mathlib.Core.List.{List, [], ◌∷◌, Memᴰ}
use mathlib.Core.Bool.{Bool, true, false}
use mathlib.Core.Option.{Option, none, some, some_inj}
use native.Mathlib.Omega.{arith}
use lib.Dec.{eqb, leb, leb→le}
use lib.ListN.{length, take, drop, drop_of_length-le}
use lib.Seq.{length-take-le}
use borrow.Author.Tests.{leb-false, le-leb, lt-leb}
use Rattle.std.specs.Prelude.{None, Some}
use Rattle.codec.specs.Answers.{given}
use Rattle.codec.specs.Bytes.{part, number_of, number_at, numbers}
use Rattle.codec.specs.Maybe.{◌>>=◌, ask}
use Rattle.codec.proofs.BytesLaws.{part_drop, part_end}
use Rattle.codec.proofs.FixedLaws.{number_in_lem, number_read}
use Rattle.codec.proofs.GivenLaws.{said}
use Rattle.codec.proofs.MaybeLaws.{giving, gets}
use Rattle.blocks.specs.Block.{Entry, entries_f, first_is_zero, Block, block}
use Rattle.block_reader.specs.Steps.{Rows, rows_of, Laid, restart_at, marks}

-- ---- the last four bytes

module _ (s : List ℕ) where
  pub rows_short : length s < 4 → None ≡ given (rows_of s)
  unfolding rows_of given ◌>>=◌ ask
  rows_short h = rw (lt-leb 4 (length s) h)

  module _ (last : ℕ) {n : ℕ} (long : last + 4 ≡ length s) (e : given (number_at 4 s last) ≡ Some n) where
    last_is : n ≡ number_of (drop (length s - 4) s)
    last_is =
        let at : length s - 4 ≡ last = omega arith in
        rw at (number_read 4 s last (omega arith) (said _ e) ∙ ap number_of (part_end s last 4 (omega arith)))

    pub rows_none : n < 1 → None ≡ given (rows_of s)
    unfolding rows_of given ◌>>=◌ ask
    rows_none h = rw (le-leb 4 (length s) (omega arith), ← last_is, lt-leb 1 n h)

    pub rows_over : 1 ≤ n → last < 4 * n → None ≡ given (rows_of s)
    unfolding rows_of given ◌>>=◌ ask
    rows_over h l = rw (le-leb 4 (length s) (omega arith), ← last_is, le-leb 1 n h, lt-leb (4 * n + 4) (length s) (omega arith))

    pub rows_some : 1 ≤ n → 4 * n ≤ last → Some (record { end = last - 4 * n; count = n }) ≡ given (rows_of s)
    unfolding rows_of given ◌>>=◌ ask
    rows_some h l =
        let e : last - 4 * n ≡ length s - (4 * n + 4) = omega arith in
        rw (le-leb 4 (length s) (omega arith), ← last_is, le-leb 1 n h, le-leb (4 * n + 4) (length s) (omega arith), e)

-- ---- the restarts

restart_part : (s : List ℕ) (end j : ℕ) → restart_at s end j ≡ number_of (part (drop end s) (4 * j) 4)
unfolding restart_at
restart_part s end j = ap number_of (sym (part_drop s end (4 * j) 4))

-- it is there to be read
pub restart_given : (s : List ℕ) (end j : ℕ) → end + 4 * j + 4 ≤ length s → given (number_at 4 s (end + 4 * j)) ≡ Some (restart_at s end j)
unfolding restart_at given
restart_given s end j h = rw (number_in_lem 4 s (end + 4 * j) h)

pub numbers_length : (n : ℕ) (t : List ℕ) → length (numbers n t) ≡ n
unfolding numbers
numbers_length zero t = refl
numbers_length (suc n) t = ap suc (numbers_length n (drop 4 t))

four_on : (t : List ℕ) (j : ℕ) → part (drop 4 t) (4 * j) 4 ≡ part t (4 * suc j) 4
four_on t j =
    let e : 4 + 4 * j ≡ 4 * suc j = omega arith in
    part_drop t 4 (4 * j) 4 ∙ rw e

numbers_from : (n : ℕ) (t : List ℕ) (j : ℕ) → j < n → drop j (numbers n t) ≡ number_of (part t (4 * j) 4) ∷ drop (suc j) (numbers n t)
unfolding numbers part
numbers_from zero t j h = absurd (omega arith)
numbers_from (suc n) t zero h = refl
numbers_from (suc n) t (suc j) h = rw (← four_on t j) (numbers_from n (drop 4 t) j (omega arith))

numbers_have : (n : ℕ) (t : List ℕ) (j : ℕ) → j < n → Memᴰ (number_of (part t (4 * j) 4)) (numbers n t)
unfolding numbers part
numbers_have zero t j h = absurd (omega arith)
numbers_have (suc n) t zero h = Memᴰ.head refl
numbers_have (suc n) t (suc j) h = Memᴰ.tail (rw (four_on t j) at (numbers_have n (drop 4 t) j (omega arith)))

module _ (s : List ℕ) (end count : ℕ) where
  pub restarts_from : (j : ℕ) → j < count → drop j (numbers count (drop end s)) ≡ restart_at s end j ∷ drop (suc j) (numbers count (drop end s))
  restarts_from j h = rw (restart_part s end j) (numbers_from count (drop end s) j h)

  pub restarts_have : (j : ℕ) → j < count → Memᴰ (restart_at s end j) (numbers count (drop end s))
  restarts_have j h = rw (restart_part s end j) (numbers_have count (drop end s) j h)

  pub marks_here : (j at : ℕ) → j < count → marks at (drop j (numbers count (drop end s))) ≡ eqb (restart_at s end j) at
  unfolding marks
  marks_here j at h = ap (marks at) (restarts_from j h)

  pub marks_over : (j at : ℕ) → count ≤ j → marks at (drop j (numbers count (drop end s))) ≡ false
  unfolding marks
  marks_over j at h = ap (marks at) (drop_of_length-le (numbers count (drop end s)) {i = j} (omega (arith, numbers_length count (drop end s))))

-- ---- a block, by its layout

-- what stands in a layout
abbrev pub content : List ℕ → Rows → Option Block
content s w =
    entries_f (suc w.end) (take w.end s) 0 []
    >>= (λ es. ask (first_is_zero (numbers w.count (drop w.end s)) es) >>= (λ _. some (record { entries = es; restarts = numbers w.count (drop w.end s) })))

-- nothing without a restart
content_none : (s : List ℕ) (w : Rows) → w.count ≡ 0 → content s w ≡ none
unfolding numbers first_is_zero ◌>>=◌ ask
content_none s w z = rw z (go (entries_f (suc w.end) (take w.end s) 0 []))
  where
    go : (o : Option (List Entry)) → ◌≡◌ {A = Option Block} (o >>= (λ es. ask (first_is_zero (numbers 0 (drop w.end s)) es) >>= (λ _. some (record { entries = es; restarts = numbers 0 (drop w.end s) })))) none
    go none = refl
    go (some es) = refl

asks : (p m q : Bool) (w : Rows) (f : Rows → Option Block) → (m ≡ false → f w ≡ none)
    → ask p >>= (λ _. ask q >>= (λ _. f w)) ≡ ask p >>= (λ _. ask m >>= (λ _. ask q >>= (λ _. some w))) >>= f
unfolding ◌>>=◌ ask
asks false m q w f h = refl
asks true true true w f h = refl
asks true true false w f h = refl
asks true false true w f h = h refl
asks true false false w f h = refl

block_by : (s : List ℕ) → block s ≡ rows_of s >>= content s
unfolding block rows_of
block_by s =
    let n = number_of (drop (length s - 4) s) in
    let w : Rows = record { end = length s - (4 * n + 4); count = n } in
    asks (leb 4 (length s)) (leb 1 n) (leb (4 * n + 4) (length s)) w (content s) (λ f. content_none s w (omega (arith, leb-false 1 n f)))

pub no_block : (s : List ℕ) → given (rows_of s) ≡ None → block s ≡ none
unfolding ◌>>=◌
no_block s e = block_by s ∙ ap (λ (o : Option Rows). o >>= content s) (said (rows_of s) e)

pub laid : (s : List ℕ) {w : Rows} → given (rows_of s) ≡ Some w → Laid s w.end w.count
unfolding rows_of
laid s {w} e =
    let r = said (rows_of s) e in
    giving _ _ r λ long p.
    giving _ _ p λ one p.
    giving _ _ p λ room p.
    let n : ℕ = number_of (drop (length s - 4) s) in
    let same = some_inj.0 p in
    let a : length s - (4 * n + 4) ≡ w.end = ap (λ (w : Rows). w.end) same in
    let b : n ≡ w.count = ap (λ (w : Rows). w.count) same in
    let h = leb→le 1 n one in
    let g = leb→le (4 * n + 4) (length s) room in
    record { some_restart = omega arith; fits = omega arith; reads = r }

pub block_is : (s : List ℕ) {end count : ℕ} → Laid s end count → block s ≡ content s (record { end = end; count = count })
block_is s l = block_by s ∙ gets _ _ l.reads refl

pub entries_size : (s : List ℕ) {end count : ℕ} → Laid s end count → length (take end s) ≡ end
entries_size s {end} l = length-take-le end s (omega (arith, l.fits))
