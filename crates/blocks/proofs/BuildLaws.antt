-- What was packed into a block is read back.
use Prim.Native.Nat.{ℕ, suc, ◌+◌, ◌*◌, ◌-◌, ◌^◌, ◌≤◌, ◌<◌, zero-le}
use mathlib.Core.Path.{◌≡◌, refl, sym, ap, ◌∙◌}
use mathlib.Core.List.{List, [], ◌∷◌, ◌++◌, append_assoc, append-nil}
use mathlib.Core.Bool.{true, false}
use mathlib.Core.Option.{some}
use native.Mathlib.Omega.{arith}
use native.Mathlib.Nat.{add_assoc, add-zero}
use lib.Dec.{eqb}
use lib.ListN.{length, take, drop, length-append, length-drop, take-append-drop}
use lib.Seq.{drop_at, drop-append-add, drop-append_seam, take-append_seam}
use borrow.Author.Tests.{le-leb, eq-eqb, ne_eqb}
use Rattle.codec.specs.Bytes.{part, bytes_of, number_of, fours, numbers}
use Rattle.codec.specs.Maybe.{◌>>=◌, ask}
use Rattle.codec.specs.Varint.{Read, varint, varint_bytes}
use Rattle.codec.proofs.Prelude.{test}
use Rattle.codec.proofs.Lists.{Below}
use Rattle.codec.proofs.BytesLaws.{part_first, part_second, bytes_length, number_bytes, fours_length, numbers_fours, Shares, shares_none, shares_common}
use Rattle.codec.proofs.VarintLaws.{varint_bytes_lem, varint_one, whole}
use Rattle.blocks.specs.Block.{Pair, last_key_of, Head, head, Entry, pairs_of, entry, next, entries_f, restarts_stand, first_is_zero, block, head_bytes, entry_bytes, sharing, since, since_all, packed, restarts_of, or_zero, tail_bytes, block_bytes}
use Rattle.blocks.proofs.ReadLaws.{Reads, reads_count, reads_back}

-- ---- an entry

head_some : (s : List ℕ) (a b c : Read) → varint s ≡ some a → varint (drop a.size s) ≡ some b
    → varint (drop (a.size + b.size) s) ≡ some c
    → head s ≡ some (record { shared = a.value; fresh = b.value; value_size = c.value; size = a.size + b.size + c.size })
unfolding head ◌>>=◌
head_some s a b c e g h = cc

pub head_bytes_lem : (x y z : ℕ) (rest : List ℕ) → x < 2 ^ 64 → y < 2 ^ 64 → z < 2 ^ 64
    → head (head_bytes x y z ++ rest) ≡ some (record { shared = x; fresh = y; value_size = z; size = length (head_bytes x y z) })
unfolding head_bytes
head_bytes_lem x y z rest hx hy hz =
    let a = varint_bytes x in
    let b = varint_bytes y in
    let c = varint_bytes z in
    simp (append_assoc, length-append)
    (head_some (a ++ (b ++ (c ++ rest))) (whole x) (whole y) (whole z) (varint_bytes_lem x _ hx)
    (rw drop-append_seam (varint_bytes_lem y _ hy))
    (rw (drop-append-add, drop-append_seam) (varint_bytes_lem z rest hz)) ∙ rw add_assoc)

entry_some : (at : ℕ) (before rest : List ℕ) (h : Head) → head rest ≡ some h → h.shared ≤ length before
    → h.size + h.fresh + h.value_size ≤ length rest
    → entry at before rest ≡ some (record {
      start = at;
      shared = h.shared;
      key = take h.shared before ++ part rest h.size h.fresh;
      value_at = at + h.size + h.fresh;
      value = part rest (h.size + h.fresh) h.value_size;
    })
unfolding entry ◌>>=◌ ask
entry_some at before rest h e l m = cc (le-leb _ _ l, le-leb _ _ m)

-- the entry that a pair is written as, at a place
abbrev pub entry_of : ℕ → ℕ → Pair → Entry
entry_of at shared p =
    let h = length (head_bytes shared (length (drop shared p.key)) (length p.value)) in
    record { start = at; shared = shared; key = p.key; value_at = at + h + length (drop shared p.key); value = p.value }

pub entry_bytes_lem : (at shared : ℕ) (before : List ℕ) (p : Pair) (rest : List ℕ) → Shares before p.key shared
    → length p.key < 2 ^ 64 → length p.value < 2 ^ 64 → entry at before (entry_bytes shared p ++ rest) ≡ some (entry_of at shared p)
unfolding entry_bytes
entry_bytes_lem at shared before p rest sh sk sv =
    let k = drop shared p.key in
    let h = head_bytes shared (length k) (length p.value) in
    let lk = length-drop shared p.key in
    let same = sh.same in
    simp append_assoc
    (entry_some at before (h ++ (k ++ (p.value ++ rest))) (record { shared = shared; fresh = length k; value_size = length p.value; size = length h })
    (head_bytes_lem shared (length k) (length p.value) _ (omega arith) (omega arith) sv)
    sh.in_before
    (simp length-append (omega arith))
    ∙ simp (part_first, part_second, same, take-append-drop))

pub head_long : (x y z : ℕ) → 3 ≤ length (head_bytes x y z)
unfolding head_bytes
head_long x y z = simp length-append (omega (arith, varint_one x, varint_one y, varint_one z))

pub entry_size_lem : (shared : ℕ) (p : Pair) → length (entry_bytes shared p)
    ≡ length (head_bytes shared (length (drop shared p.key)) (length p.value)) + length (drop shared p.key) + length p.value
unfolding entry_bytes
entry_size_lem shared p = simp length-append (omega arith)

pub entry_some_byte : (shared : ℕ) (p : Pair) → 3 ≤ length (entry_bytes shared p)
entry_some_byte shared p = omega (arith, entry_size_lem shared p, head_long shared (length (drop shared p.key)) (length p.value))

next_entry : (at shared : ℕ) (p : Pair) → next (entry_of at shared p) ≡ at + length (entry_bytes shared p)
unfolding next
next_entry at shared p = omega (arith, entry_size_lem shared p)

-- ---- the entries that pairs are written as

unfoldable pub planned : ℕ → ℕ → List ℕ → ℕ → List Pair → List Entry
planned i n before at [] = []
planned i n before at (p ∷ ps) =
    let s = sharing i n before p.key in entry_of at s p ∷ planned i (since i n) p.key (at + length (entry_bytes s p)) ps

pub planned_pairs : (i n : ℕ) (before : List ℕ) (at : ℕ) (ps : List Pair) → pairs_of (planned i n before at ps) ≡ ps
unfolding planned
planned_pairs i n before at [] = refl
planned_pairs i n before at (p ∷ ps) = ap (λ (r : List Pair). p ∷ r) (planned_pairs i (since i n) p.key (at + length (entry_bytes (sharing i n before p.key) p)) ps)

pub sharing_shares : (i n : ℕ) (before key : List ℕ) → Shares before key (sharing i n before key)
unfolding sharing
sharing_shares i n before key =
    test (eqb n i) (λ t. rw (sharing, t) (shares_none before key)) (λ t. rw (sharing, t) (shares_common before key))

pub packed_reads : (i n : ℕ) (before : List ℕ) (at : ℕ) (ps : List Pair) (s pre : List ℕ) → length pre ≡ at → s ≡ pre ++ packed i n before ps
    → length before + length (packed i n before ps) < 2 ^ 64 → Reads s at before (planned i n before at ps)
unfolding packed planned
packed_reads i n before at [] s pre e h small = Reads.done (sym e ∙ sym (ap length (h ∙ append-nil pre)))
packed_reads i n before at (p ∷ ps) s pre e h small =
    let k = sharing i n before p.key in
    let b = entry_bytes k p in
    let more = packed i (since i n) p.key ps in
    let sh = sharing_shares i n before p.key in
    let size = entry_size_lem k p in
    let some_byte = entry_some_byte k p in
    let fresh = length-drop k p.key in
    let nx = next_entry at k p in
    let all = length-append b more in
    let long : length s ≡ at + (length b + length more) = ap length h ∙ simp length-append (omega arith) in
    let here : entry at before (drop at s) ≡ some (entry_of at k p) =
    rw (h, drop_at pre (b ++ more) at e) (entry_bytes_lem at k before p more sh (omega (arith, sh.in_before)) (omega arith)) in
    let rest = packed_reads i (since i n) p.key (at + length b) ps s (pre ++ b) (length-append pre b ∙ ap (λ (q : ℕ). q + length b) e) (h ∙ sym (append_assoc pre b more)) (omega (arith, sh.in_before)) in
    let inside : at ≡ length s → ⊥ = omega arith in
    let later : Reads s (next (entry_of at k p)) p.key (planned i (since i n) p.key (at + length b) ps) = rw nx rest in
    Reads.more inside here later

-- ---- restarts

abbrev From : ℕ → List ℕ → Type 0
From at [] = Unit {0}
From at (r ∷ rs) = at ≤ r

from_less : (a b : ℕ) (rs : List ℕ) → a ≤ b → From b rs → From a rs
from_less a b [] h k = tt
from_less a b (r ∷ rs) h k = omega arith

restarts_begin : (i n : ℕ) (before : List ℕ) (at : ℕ) (ps : List Pair) → From at (restarts_of i n before at ps)
unfolding restarts_of
restarts_begin i n before at [] = tt
restarts_begin i n before at (p ∷ ps) =
    let after = at + length (entry_bytes (sharing i n before p.key) p) in
    let more = restarts_of i (since i n) p.key after ps in
    test (eqb n i)
    (λ e. rw (restarts_of, e) (omega arith))
    (λ e. rw (restarts_of, e) (from_less at after more (omega arith) (restarts_begin i (since i n) p.key after ps)))

skip : (rs : List ℕ) (e : Entry) (es : List Entry) → From (suc e.start) rs → restarts_stand rs es ≡ true → restarts_stand rs (e ∷ es) ≡ true
unfolding restarts_stand
skip [] e es h k = refl
skip (r ∷ rs) e es h k = rw (restarts_stand, ne_eqb r e.start (omega arith)) k

stands : (r : ℕ) (rs : List ℕ) (e : Entry) (es : List Entry) → r ≡ e.start → e.shared ≡ 0 → restarts_stand rs es ≡ true
    → restarts_stand (r ∷ rs) (e ∷ es) ≡ true
unfolding restarts_stand
stands r rs e es h z k = rw (restarts_stand, eq-eqb r e.start h, eq-eqb e.shared 0 z) k

restart_shares : (i n : ℕ) (before key : List ℕ) → eqb n i ≡ true → sharing i n before key ≡ 0
unfolding sharing
restart_shares i n before key e = rw (sharing, e)

restarts_stand_lem : (i n : ℕ) (before : List ℕ) (at : ℕ) (ps : List Pair) → restarts_stand (restarts_of i n before at ps) (planned i n before at ps) ≡ true
unfolding restarts_of planned restarts_stand
restarts_stand_lem i n before at [] = refl
restarts_stand_lem i n before at (p ∷ ps) =
    let s = sharing i n before p.key in
    let after = at + length (entry_bytes s p) in
    let ih = restarts_stand_lem i (since i n) p.key after ps in
    let far : suc at ≤ after = omega (arith, entry_some_byte s p) in
    let more = restarts_of i (since i n) p.key after ps in
    test (eqb n i)
    (λ e. rw (restarts_of, e) (stands at more (entry_of at s p) (planned i (since i n) p.key after ps) refl (restart_shares i n before p.key e) ih))
    (λ e. rw (restarts_of, e) (skip more (entry_of at s p) _ (from_less (suc at) after more far (restarts_begin i (since i n) p.key after ps)) ih))

-- the first entry is a restart by the ordinary rule
pub first_restart : (i : ℕ) (p : Pair) (ps : List Pair)
    → restarts_of i i [] 0 (p ∷ ps) ≡ 0 ∷ restarts_of i (since i i) p.key (0 + length (entry_bytes (sharing i i [] p.key) p)) ps
unfolding restarts_of
first_restart i p ps = rw (restarts_of, eq-eqb i i refl)

first_zero : (i : ℕ) (ps : List Pair) → first_is_zero (or_zero (restarts_of i i [] 0 ps)) (planned i i [] 0 ps) ≡ true
unfolding or_zero
first_zero i [] = unfold restarts_of planned first_is_zero in refl
first_zero i (p ∷ ps) =
    let h = rw (first_restart i p ps) at (restarts_stand_lem i i [] 0 (p ∷ ps)) in
    rw (first_restart i p ps) (unfold planned first_is_zero in h)

restarts_below : (i n : ℕ) (before : List ℕ) (at : ℕ) (ps : List Pair) (m : ℕ) → at + length (packed i n before ps) ≤ m → Below m (restarts_of i n before at ps)
unfolding restarts_of packed
restarts_below i n before at [] m h = tt
restarts_below i n before at (p ∷ ps) m h =
    let s = sharing i n before p.key in
    let e = entry_bytes s p in
    let more = packed i (since i n) p.key ps in
    let all = length-append e more in
    let size = entry_some_byte s p in
    let ih = restarts_below i (since i n) p.key (at + length e) ps m (omega arith) in
    test (eqb n i) (λ t. rw (restarts_of, t) (omega arith, ih)) (λ t. rw (restarts_of, t) ih)

or_zero_below : (rs : List ℕ) (m : ℕ) → 0 < m → Below m rs → Below m (or_zero rs)
unfolding or_zero
or_zero_below [] m h b = (h, tt)
or_zero_below (r ∷ rs) m h b = b

-- ---- a block

block_some : (s : List ℕ) (n end : ℕ) (rs : List ℕ) (es : List Entry) → 4 ≤ length s → number_of (drop (length s - 4) s) ≡ n → length s ≡ end + (4 * n + 4)
    → numbers n (drop end s) ≡ rs → entries_f (suc end) (take end s) 0 [] ≡ some es → first_is_zero rs es ≡ true
    → block s ≡ some (record { entries = es; restarts = rs })
unfolding block ◌>>=◌ ask
block_some s n end rs es four count total ns entries first =
    let e : length s - (4 * n + 4) ≡ end = omega arith in
    cc (le-leb 4 (length s) four, le-leb (4 * n + 4) (length s) (omega arith))

last_four : (a b c : List ℕ) (n : ℕ) → length c ≡ 4 → number_of c ≡ n → number_of (drop (length (a ++ (b ++ c)) - 4) (a ++ (b ++ c))) ≡ n
last_four a b c n h e =
    rw (← append_assoc a b c, drop_at (a ++ b) c (length (a ++ b ++ c) - 4) (omega (arith, length-append (a ++ b) c))) e

-- entries' bytes, restarts and their count
block_reads : (front rs : List ℕ) (es : List Entry) → length rs < 2 ^ 32 → Below (2 ^ 32) rs → entries_f (suc (length front)) front 0 [] ≡ some es
    → first_is_zero rs es ≡ true → block (front ++ (fours rs ++ bytes_of 4 (length rs))) ≡ some (record { entries = es; restarts = rs })
block_reads front rs es many small entries first =
    let c = bytes_of 4 (length rs) in
    let s = front ++ (fours rs ++ c) in
    let lc = bytes_length 4 (length rs) in
    let lf = fours_length rs in
    let l1 = length-append (fours rs) c in
    let l2 = length-append front (fours rs ++ c) in
    let l3 = length-append front (fours rs) in
    block_some s (length rs) (length front) rs es (omega arith)
    (last_four front (fours rs) c (length rs) lc (number_bytes 4 (length rs) many)) (omega arith)
    (rw drop-append_seam (numbers_fours rs c small))
    (rw take-append_seam entries)
    first

pub block_bytes_lem : (i : ℕ) (ps : List Pair) → length (block_bytes i ps) < 2 ^ 32
    → block (block_bytes i ps) ≡ some (record { entries = planned i i [] 0 ps; restarts = or_zero (restarts_of i i [] 0 ps) })
unfolding block_bytes tail_bytes
block_bytes_lem i ps small =
    let rs : List ℕ = or_zero (restarts_of i i [] 0 ps) in
    let p = packed i i [] ps in
    let es = planned i i [] 0 ps in
    let l1 = length-append (fours rs) (bytes_of 4 (length rs)) in
    let l2 = length-append p (fours rs ++ bytes_of 4 (length rs)) in
    let lf = fours_length rs in
    let reads = packed_reads i i [] 0 ps p [] refl refl (omega arith) in
    let fewer : length es < suc (length p) = omega (arith, reads_count (zero-le {n = length p}) reads) in
    block_reads p rs es (omega arith)
    (or_zero_below (restarts_of i i [] 0 ps) (2 ^ 32) (omega arith) (restarts_below i i [] 0 ps (2 ^ 32) (omega arith)))
    (reads_back (suc (length p)) fewer reads)
    (first_zero i ps)

-- a block of none
pub none_long : (i : ℕ) → length (block_bytes i []) ≡ 8
unfolding block_bytes packed restarts_of or_zero tail_bytes fours bytes_of
none_long i = refl

-- ---- building entry by entry

pub packed_append : (i n : ℕ) (before : List ℕ) (ps qs : List Pair)
    → packed i n before (ps ++ qs) ≡ packed i n before ps ++ packed i (since_all i n ps) (last_key_of before ps) qs
unfolding packed since_all last_key_of
packed_append i n before [] qs = refl
packed_append i n before (p ∷ ps) qs = rw (packed_append i (since i n) p.key ps qs) (simp append_assoc)

pub restarts_append : (i n : ℕ) (before : List ℕ) (at : ℕ) (ps qs : List Pair)
    → restarts_of i n before at (ps ++ qs)
    ≡ restarts_of i n before at ps ++ restarts_of i (since_all i n ps) (last_key_of before ps) (at + length (packed i n before ps)) qs
unfolding packed since_all last_key_of restarts_of
restarts_append i n before at [] qs = rw add-zero
restarts_append i n before at (p ∷ ps) qs =
    let e = entry_bytes (sharing i n before p.key) p in
    let more = packed i (since i n) p.key ps in
    let l : at + length (e ++ more) ≡ at + length e + length more = omega (arith, length-append e more) in
    let ih = restarts_append i (since i n) p.key (at + length e) ps qs in
    test (eqb n i)
    (λ t. rw (t, restarts_of, l) (ap (◌∷◌ at) ih))
    (λ t. rw (t, restarts_of, l) ih)

-- one entry more
pub packed_one : (i n : ℕ) (before : List ℕ) (p : Pair) → packed i n before (p ∷ []) ≡ entry_bytes (sharing i n before p.key) p
unfolding packed
packed_one i n before p = append-nil (entry_bytes (sharing i n before p.key) p)

pub restarts_one : (i n : ℕ) (before : List ℕ) (at : ℕ) (p : Pair) → restarts_of i n before at (p ∷ []) ≡ elim (eqb n i) [ true ↦ at ∷ [] | false ↦ [] ]
unfolding restarts_of
restarts_one i n before at p = test (eqb n i) (λ t. rw (t, restarts_of)) (λ t. rw (t, restarts_of))

pub tail_length : (rs : List ℕ) → length (tail_bytes rs) ≡ 4 * length (or_zero rs) + 4
unfolding tail_bytes
tail_length rs = simp (length-append, fours_length, bytes_length)

-- a block's size: entry bytes, 4 for each restart, and 4
pub block_length : (i : ℕ) (ps : List Pair) → length (block_bytes i ps) ≡ length (packed i i [] ps) + 4 * length (or_zero (restarts_of i i [] 0 ps)) + 4
unfolding block_bytes
block_length i ps = simp (length-append, tail_length) (omega arith)

-- a block of one entry
pub one_long : (i : ℕ) (p : Pair) → length (block_bytes i (p ∷ [])) ≡ length (entry_bytes 0 p) + 8
one_long i p =
    let e = first_restart i p [] in
    let share : sharing i i [] p.key ≡ 0 = restart_shares i i [] p.key (eq-eqb i i refl) in
    rw (block_length i (p ∷ []), packed_one i i [] p, share, e) (unfold restarts_of or_zero in omega arith)
