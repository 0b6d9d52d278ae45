-- What the block builder's code goes by: what it decides, and what its writes one after the other leave.
use Prim.Native.Nat.{ℕ, suc, ◌+◌, ◌*◌, ◌-◌, ◌^◌, ◌≤◌, ◌<◌, min, max}
use mathlib.Core.Path.{◌≡◌, refl, sym, ap, ◌∙◌}
use mathlib.Core.List.{List, [], ◌∷◌, ◌++◌}
use mathlib.Core.Bool.{Bool, true, false, cond, and-false}
use native.Mathlib.Omega.{arith}
use lib.Dec.{leb, ltb, eqb}
use lib.ListN.{length, take, drop, set, length-append, length-take, length-drop}
use lib.Seq.{take_all}
use borrow.Author.Tests.{lt-ltb, le-ltb, le-leb, lt-leb, eq-eqb, ne_eqb, ltb-true}
use Rattle.std.specs.Prelude.{Result, Ok, Err, IsErr}
use Rattle.codec.specs.Bytes.{bytes_of, fours, common}
use Rattle.codec.specs.Put.{room, put, Wrote}
use Rattle.codec.specs.declared.put.NoRoom.{NoRoom}
use Rattle.codec.proofs.Prelude.{test, split, both, apart}
use Rattle.codec.proofs.BytesLaws.{bytes_length, fours_length, part_rest}
use Rattle.codec.proofs.PutLaws.{put_sets, put_nil}
use Rattle.block_builder.specs.declared.block_builder.BlockBuilder.{BlockBuilder}
use Rattle.block_builder.specs.declared.block_builder.Plan.{Plan}
use Rattle.blocks.specs.Block.{head_bytes, entry_bytes, sharing, since, or_zero, tail_bytes}
use Rattle.blocks.specs.Count.{BlockCount, varint_size, entry_size, count_entry, count_size}
use Rattle.block_builder.specs.Builder.{count_in, builder_with, builder_after, counts_fit, countable_after, countable, CountedIs, is_restart, next_bytes, next_restart, addable, AddedIs}
use Rattle.block_builder.specs.Plan.{plan_of, size_with, room_for}
use Rattle.blocks.proofs.BuildLaws.{sharing_shares}
use Rattle.blocks.proofs.CountLaws.{entry_long}

-- any error says that there is no room
refused_is : {A : Type 0} (r : Result A NoRoom) → IsErr r → r ≡ Err (record {})
refused_is (Err e) h = refl
refused_is (Ok x) h = apart cc

-- ---- what a key shares

pub shared_none : (i n : ℕ) (before key : List ℕ) → n ≡ i → 0 ≡ sharing i n before key
unfolding sharing
shared_none i n before key e = rw (eq-eqb n i e, sharing)

pub shared_common : (i n : ℕ) (before key : List ℕ) → (n ≡ i → ⊥) → common before key ≡ sharing i n before key
unfolding sharing
shared_common i n before key ne = rw (ne_eqb n i ne, sharing)

-- the last key is all that there is of so many bytes
pub front : (s : List ℕ) (n : ℕ) → take (min n (length s)) s ≡ take n s
front s n =
    split n (length s)
    (λ h. let e : min n (length s) ≡ n = omega arith in rw e)
    (λ h. take_all (min n (length s)) s (omega arith) ∙ sym (take_all n s h))

-- ---- the plan

-- the entry's size as it is counted
pub size_is : (s key value u v w : ℕ) → u ≡ varint_size s → v ≡ varint_size (key - s) → w ≡ varint_size value
    → u + v + w + (key - s) + value ≡ entry_size s key value
unfolding entry_size
size_is s key value u v w p q r = cc

pub fits_all : (c : BlockCount) → c.bytes < 2 ^ 64 → c.restarts < 2 ^ 64 → c.since < 2 ^ 64 → counts_fit c ≡ true
unfolding counts_fit
fits_all c p q r = rw (lt-ltb c.bytes (2 ^ 64) p, lt-ltb c.restarts (2 ^ 64) q) (lt-ltb c.since (2 ^ 64) r)

fits_not : (c : BlockCount) → (c.bytes < 2 ^ 64 → c.restarts < 2 ^ 64 → c.since < 2 ^ 64 → ⊥) → counts_fit c ≡ false
unfolding counts_fit
fits_not c h =
    test (counts_fit c)
    (λ t.
    let p = both (ltb c.bytes (2 ^ 64)) _ t in
    let q = both (ltb c.restarts (2 ^ 64)) _ p.1 in
    absurd (h (ltb-true _ _ p.0) (ltb-true _ _ q.0) (ltb-true _ _ q.1)))
    (λ f. f)

module _ (i : ℕ) (b : BlockCount) (key : List ℕ) (value : ℕ) where
  at_restart : b.since ≡ i → ((count_entry i b key value).restarts ≡ suc b.restarts) × ((count_entry i b key value).since ≡ 1)
  unfolding count_entry since
  at_restart e = (rw (eq-eqb b.since i e, count_entry), rw (eq-eqb b.since i e, since))

  at_other : (b.since ≡ i → ⊥) → ((count_entry i b key value).restarts ≡ b.restarts) × ((count_entry i b key value).since ≡ suc b.since)
  unfolding count_entry since
  at_other e = (rw (ne_eqb b.since i e, count_entry), rw (ne_eqb b.since i e, since))

  -- it cannot be counted
  plan_full : {r : Result Plan NoRoom} → IsErr r → counts_fit (count_entry i b key value) ≡ false → r ≡ plan_of i b key value
  unfolding plan_of countable_after
  plan_full {r} n e = let q : r ≡ Err (record {}) = refused_is r n in rw (q, e, and-false (leb (length key) 1032))

  pub plan_long : 1032 < length key → Err (record {}) ≡ plan_of i b key value
  unfolding plan_of countable_after
  plan_long h = rw (lt-leb (length key) 1032 h)

  pub plan_large : {r : Result Plan NoRoom} → IsErr r → 2 ^ 64 ≤ b.bytes + entry_size (sharing i b.since b.last key) (length key) value → r ≡ plan_of i b key value
  plan_large n h = plan_full n (fits_not (count_entry i b key value) (unfold count_entry in λ p q r. omega arith))

  pub plan_restarts : {r : Result Plan NoRoom} → IsErr r → b.since ≡ i → 2 ^ 64 ≤ b.restarts + 1 → r ≡ plan_of i b key value
  plan_restarts n e h = plan_full n (fits_not (count_entry i b key value) (λ p q r. omega (arith, (at_restart e).0)))

  pub plan_since : {r : Result Plan NoRoom} → IsErr r → (b.since ≡ i → ⊥) → 2 ^ 64 ≤ b.since + 1 → r ≡ plan_of i b key value
  plan_since n e h = plan_full n (fits_not (count_entry i b key value) (λ p q r. omega (arith, (at_other e).1)))

  plan_entry : (s x y z : ℕ) → length key ≤ 1032 → s ≡ sharing i b.since b.last key → x ≡ (count_entry i b key value).bytes
      → y ≡ (count_entry i b key value).restarts → z ≡ (count_entry i b key value).since → x < 2 ^ 64 → y < 2 ^ 64 → z < 2 ^ 64
      → Ok (record { shared = s; bytes = x; restarts = y; since = z }) ≡ plan_of i b key value
  unfolding plan_of countable_after
  plan_entry s x y z k es ex ey ez hx hy hz =
      let f = fits_all (count_entry i b key value) (rw ex at hx) (rw ey at hy) (rw ez at hz) in
      rw (le-leb (length key) 1032 k, f, es, ex, ey, ez)

  pub plan_first : (s x y : ℕ) → length key ≤ 1032 → b.since ≡ i → s ≡ sharing i b.since b.last key
      → x ≡ b.bytes + entry_size (sharing i b.since b.last key) (length key) value → x < 2 ^ 64 → y ≡ b.restarts + 1 → y < 2 ^ 64
      → Ok (record { shared = s; bytes = x; restarts = y; since = 1 }) ≡ plan_of i b key value
  plan_first s x y k e es ex hx ey hy =
      plan_entry s x y 1 k es (unfold count_entry in ex) (omega (arith, (at_restart e).0)) (sym (at_restart e).1) hx hy (omega arith)

  pub plan_next : (s x z : ℕ) → length key ≤ 1032 → (b.since ≡ i → ⊥) → s ≡ sharing i b.since b.last key
      → x ≡ b.bytes + entry_size (sharing i b.since b.last key) (length key) value → x < 2 ^ 64 → b.restarts < 2 ^ 64 → z ≡ b.since + 1 → z < 2 ^ 64
      → Ok (record { shared = s; bytes = x; restarts = b.restarts; since = z }) ≡ plan_of i b key value
  plan_next s x z k e es ex hx hy ez hz =
      plan_entry s x b.restarts z k es (unfold count_entry in ex) (sym (at_other e).0) (omega (arith, (at_other e).1)) hx hy hz

-- ---- an entry

-- an entry as it is written: the part of the key from what it shares on
pub entry_is : (s : ℕ) (key value : List ℕ)
    → entry_bytes s (record { key = key; value = value }) ≡ head_bytes s (length key - s) (length value) ++ (take (length key - s) (drop s key) ++ value)
unfolding entry_bytes
entry_is s key value = rw (part_rest key s, length-drop s key)

-- ---- a restart

pub mark_off : (d : List ℕ) (n x : ℕ) (on : Bool) → on ≡ false → d ≡ put d n (cond on (x ∷ []) [])
mark_off d n x on e = rw e (sym (put_nil d n))

pub mark_on : (d : List ℕ) (n x : ℕ) (on : Bool) → on ≡ true → n < length d → set d n x ≡ put d n (cond on (x ∷ []) [])
mark_on d n x on e h = rw e (sym (put_sets d n (x ∷ []) (omega arith)))

-- ---- a block's tail

pub plain_length : (rs : List ℕ) (n : ℕ) → length (fours rs ++ bytes_of 4 n) ≡ 4 * length rs + 4
plain_length rs n = simp (length-append, fours_length, bytes_length)

pub tail_none : (rs : List ℕ) (n m : ℕ) → m ≡ min n (length rs) → m ≡ 0 → fours (0 ∷ []) ++ bytes_of 4 1 ≡ tail_bytes (take n rs)
unfolding tail_bytes
tail_none rs n m e z =
    let t : take n rs ≡ [] = sym (front rs n) ∙ ap (λ (k : ℕ). take k rs) (sym e ∙ z) in
    rw t (unfold or_zero in refl)

tail_plain : (rs : List ℕ) → (length rs ≡ 0 → ⊥) → tail_bytes rs ≡ fours rs ++ bytes_of 4 (length rs)
unfolding tail_bytes or_zero
tail_plain [] h = absurd (h refl)
tail_plain (r ∷ rs) h = refl

pub tail_some : (rs : List ℕ) (n m : ℕ) → m ≡ min n (length rs) → (m ≡ 0 → ⊥) → fours (take m rs) ++ bytes_of 4 (length (take m rs)) ≡ tail_bytes (take n rs)
tail_some rs n m e h =
    let t : take m rs ≡ take n rs = ap (λ (k : ℕ). take k rs) e ∙ front rs n in
    let l = length-take m rs in
    sym (tail_plain (take m rs) (λ z. h (omega arith))) ∙ ap tail_bytes t

-- ---- room

module _ (size at bytes marks restarts mark : ℕ) where
  pub no_bytes : size < at + bytes → false ≡ room_for size at bytes marks restarts mark
  unfolding room_for
  no_bytes h = rw (lt-leb (at + bytes) size h)

  pub no_restarts : marks < restarts → false ≡ room_for size at bytes marks restarts mark
  unfolding room_for
  no_restarts h = rw (lt-leb restarts marks h) (sym (and-false (leb (at + bytes) size)))

  pub room_mark : at + bytes ≤ size → restarts ≤ marks → ltb mark (2 ^ 32) ≡ room_for size at bytes marks restarts mark
  unfolding room_for
  room_mark h k = rw (le-leb (at + bytes) size h, le-leb restarts marks k)

  pub no_mark : 2 ^ 32 ≤ mark → false ≡ room_for size at bytes marks restarts mark
  unfolding room_for
  no_mark h = rw (le-ltb mark (2 ^ 32) h, and-false (leb restarts marks)) (sym (and-false (leb (at + bytes) size)))

-- ---- the answers

abbrev plan_if : Bool → Plan → Result Plan NoRoom
plan_if t p = cond t (Ok p) (Err (record {}))

not_planned : (t : Bool) (p : Plan) {e : NoRoom} → plan_if t p ≡ Err e → t ≡ false
not_planned true p e = apart cc
not_planned false p e = refl

is_planned : (t : Bool) (p q : Plan) → plan_if t p ≡ Ok q → (t ≡ true) × (q ≡ p)
is_planned true p q e = (refl, cc)
is_planned false p q e = apart cc

-- a plan of an entry says what it shares and the counts with it
pub record Planned (i : ℕ) (b : BlockCount) (key : List ℕ) (value : ℕ) (p : Plan) : Type 0 where
  pub can : countable_after i b key value ≡ true
  pub shared : p.shared ≡ sharing i b.since b.last key
  pub counts : record { bytes = p.bytes; restarts = p.restarts; since = p.since; last = key } ≡ count_entry i b key value

module _ (i : ℕ) (b : BlockCount) (key : List ℕ) (value : ℕ) where
  plan_none : {e : NoRoom} → plan_of i b key value ≡ Err e → countable_after i b key value ≡ false
  unfolding plan_of
  plan_none e = not_planned _ _ e

  plan_some : {p : Plan} → plan_of i b key value ≡ Ok p → Planned i b key value p
  unfolding plan_of count_entry
  plan_some {p} e =
      let r = is_planned (countable_after i b key value) _ p e in
      record { can = r.0; shared = ap (λ (q : Plan). q.shared) r.1; counts = ap (λ (q : Plan). record { bytes = q.bytes; restarts = q.restarts; since = q.since; last = key }) r.1 }

  -- the size with it
  pub sized_none : {e : NoRoom} → plan_of i b key value ≡ Err e → 2 ^ 64 - 1 ≡ size_with i b key value
  unfolding size_with
  sized_none e = rw (plan_none e)

  pub sized_some : {p : Plan} {r : ℕ} → plan_of i b key value ≡ Ok p → r ≡ min (2 ^ 64 - 1) (p.bytes + 4 * max 1 p.restarts + 4) → r ≡ size_with i b key value
  unfolding size_with count_size
  sized_some e h =
      let p = plan_some e in
      h ∙ ap (λ (c : BlockCount). min (2 ^ 64 - 1) (c.bytes + 4 * max 1 c.restarts + 4)) p.counts ∙ rw p.can

module _ (b : BlockBuilder) (key : List ℕ) (value : ℕ) where
  -- counting answers
  pub counted_none : {e : NoRoom} {r : Result (Unit {0}) NoRoom} → plan_of b.interval (count_in b) key value ≡ Err e → IsErr r → CountedIs b key value r b
  counted_none {r = r} e n =
      let f = plan_none b.interval (count_in b) key value e in
      let q : r ≡ Err (record {}) = refused_is r n in
      record { fits = rw (q, f); block = rw f }

  pub counted_one : {p : Plan} {b' : BlockBuilder} → plan_of b.interval (count_in b) key value ≡ Ok p
      → b' ≡ builder_with b (record { bytes = p.bytes; restarts = p.restarts; since = p.since; last = key }) key → CountedIs b key value (Ok tt) b'
  unfolding builder_after
  counted_one e h =
      let p = plan_some b.interval (count_in b) key value e in
      record { fits = rw p.can; block = rw p.can (h ∙ ap (λ (c : BlockCount). builder_with b c key) p.counts) }

-- the counts with an entry
abbrev after : BlockBuilder → List ℕ → List ℕ → BlockCount
after b key value = count_entry b.interval (count_in b) key (length value)

-- its bytes and its restart are as many as they say
module _ (b : BlockBuilder) (key value : List ℕ) where
  pub next_bytes_lem : b.bytes + length (next_bytes b key value) ≡ (after b key value).bytes
  unfolding next_bytes count_entry count_in
  next_bytes_lem = ap (λ (n : ℕ). b.bytes + n) (entry_long _ _)

  pub next_restarts : b.restarts + length (next_restart b) ≡ (after b key value).restarts
  unfolding next_restart is_restart count_entry count_in
  next_restarts =
      test (eqb b.since b.interval) (λ t. rw (t, count_entry) (omega arith)) (λ t. rw (t, count_entry) (omega arith))

module _ (b : BlockBuilder) (at : ℕ) (out restarts key value : List ℕ) where
  -- where it can be counted, it fits just where there is room up to the counts
  pub addable_room : countable b key (length value) ≡ true
      → addable b at out restarts key value ≡ room_for (length out) at (after b key value).bytes (length restarts) (after b key value).restarts b.bytes
  unfolding addable room room_for
  addable_room t =
      let p : at + b.bytes + length (next_bytes b key value) ≡ at + (after b key value).bytes = omega (arith, next_bytes_lem b key value) in
      rw (t, p, next_restarts b key value)

  refused : {r : Result (Unit {0}) NoRoom} → IsErr r → addable b at out restarts key value ≡ false → AddedIs b at out out restarts restarts key value r b
  refused {r} n f = let q : r ≡ Err (record {}) = refused_is r n in record { fits = rw (q, f); block = rw f; written = rw f; marked = rw f }

  -- adding answers
  pub added_none : {e : NoRoom} {r : Result (Unit {0}) NoRoom} → plan_of b.interval (count_in b) key (length value) ≡ Err e → IsErr r
      → AddedIs b at out out restarts restarts key value r b
  added_none e n = refused n (unfold addable in rw (plan_none b.interval (count_in b) key (length value) e))

  module _ {p : Plan} (e : plan_of b.interval (count_in b) key (length value) ≡ Ok p) where
    plan : Planned b.interval (count_in b) key (length value) p
    plan = plan_some b.interval (count_in b) key (length value) e

    as_room : addable b at out restarts key value ≡ room_for (length out) at p.bytes (length restarts) p.restarts b.bytes
    as_room =
        addable_room plan.can ∙ sym (ap (λ (c : BlockCount). room_for (length out) at c.bytes (length restarts) c.restarts b.bytes) plan.counts)

    pub added_full : {r : Result (Unit {0}) NoRoom} → IsErr r → false ≡ room_for (length out) at p.bytes (length restarts) p.restarts b.bytes
        → AddedIs b at out out restarts restarts key value r b
    added_full n f = refused n (as_room ∙ sym f)

    as_next : entry_bytes p.shared (record { key = key; value = value }) ≡ next_bytes b key value
    unfolding next_bytes count_in
    as_next = rw plan.shared

    -- what the writes ask
    pub share_in : p.shared ≤ length key
    unfolding count_in
    share_in = rw plan.shared (sharing_shares b.interval b.since (take b.len b.last) key).in_key

    pub room_out : at + p.bytes ≤ length out → at + b.bytes + length (entry_bytes p.shared (record { key = key; value = value })) ≤ length out
    room_out h =
        let c : p.bytes ≡ (after b key value).bytes = ap (λ (c : BlockCount). c.bytes) plan.counts in
        rw as_next (omega (arith, next_bytes_lem b key value))

    pub restart_in : b.since ≡ b.interval → p.restarts ≤ length restarts → b.restarts < length restarts
    unfolding count_in
    restart_in t h =
        let c : p.restarts ≡ (after b key value).restarts = ap (λ (c : BlockCount). c.restarts) plan.counts in
        omega (arith, (at_restart b.interval (count_in b) key (length value) t).0)

    pub added_one : {out' restarts' : List ℕ} {w : Result ℕ NoRoom} {b' : BlockBuilder}
        → at + p.bytes ≤ length out → p.restarts ≤ length restarts → b.bytes < 2 ^ 32
        → Wrote out (at + b.bytes) (entry_bytes p.shared (record { key = key; value = value })) w out'
        → restarts' ≡ put restarts b.restarts (cond (eqb b.since b.interval) (b.bytes ∷ []) [])
        → b' ≡ builder_with b (record { bytes = p.bytes; restarts = p.restarts; since = p.since; last = key }) key
        → AddedIs b at out out' restarts restarts' key value (Ok tt) b'
    unfolding next_restart is_restart builder_after
    added_one h k l w m q =
        let t : addable b at out restarts key value ≡ true =
        as_room ∙ sym (room_mark (length out) at p.bytes (length restarts) p.restarts b.bytes h k) ∙ lt-ltb b.bytes (2 ^ 32) l in
        record {
          fits = rw t;
          block = rw t (q ∙ ap (λ (c : BlockCount). builder_with b c key) plan.counts);
          written = rw t (w.left ∙ ap (put out (at + b.bytes)) as_next);
          marked = rw t m;
        }
