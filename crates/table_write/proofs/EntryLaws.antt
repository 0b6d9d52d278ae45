-- One entry more in a block: that it can be counted, and that it fits.
use Prim.Native.Nat.{ℕ, ◌+◌, ◌-◌, ◌^◌, ◌≤◌, ◌<◌}
use mathlib.Core.Path.{◌≡◌, sym, ap, ◌∙◌}
use mathlib.Core.List.{List, []}
use mathlib.Core.Bool.{true}
use native.Mathlib.Nat.{zero-add, add-zero}
use native.Mathlib.Omega.{arith}
use lib.Dec.{eqb}
use lib.ListN.{length}
use borrow.Author.Tests.{le-leb, lt-ltb, eqb-false}
use Rattle.codec.specs.Bytes.{part}
use Rattle.codec.specs.Put.{put}
use Rattle.codec.proofs.Prelude.{test, split}
use Rattle.codec.proofs.PutLaws.{put_behind}
use Rattle.codec.proofs.VarintLaws.{varint_bytes_length}
use Rattle.block_builder.specs.declared.block_builder.BlockBuilder.{BlockBuilder}
use Rattle.blocks.specs.Block.{Pair, since, sharing, packed, restarts_of}
use Rattle.blocks.specs.Count.{BlockCount, count_of, entry_size, count_entry}
use Rattle.blocks.proofs.CountLaws.{entry_restarts}
use Rattle.block_builder.specs.Builder.{count_in, builder_after, builder_with, addable, countable_after, countable, Counting}
use Rattle.block_builder.proofs.BuilderCode.{fits_all, addable_room, room_mark}

pub since_most : (i n : ℕ) → 1 ≤ i → n ≤ i → since i n ≤ i
unfolding since
since_most i n h k = test (eqb n i) (λ t. rw (t, since) h) (λ t. let ne = eqb-false n i t in rw (t, since) (split n i (λ l. l) (λ g. absurd (ne (omega arith)))))

pub entry_bytes_lem : (i : ℕ) (b : BlockCount) (key : List ℕ) (v : ℕ) → (count_entry i b key v).bytes ≤ b.bytes + v + length key + 30
unfolding count_entry entry_size
entry_bytes_lem i b key v =
    let s = sharing i b.since b.last key in
    omega (arith, varint_bytes_length s, varint_bytes_length (length key - s), varint_bytes_length v)

-- it can be counted
pub countable_small : (b : BlockBuilder) (key : List ℕ) (v : ℕ) → length key ≤ 1032 → v ≤ 2 ^ 40 → b.bytes ≤ 2 ^ 40 → b.restarts ≤ 2 ^ 40 → b.since ≤ b.interval → 1 ≤ b.interval
    → b.interval ≤ 1024 → countable b key v ≡ true
unfolding countable_after count_in
countable_small b key v k h x y s l m =
    let e = count_entry b.interval (count_in b) key v in
    let z : e.since ≤ b.interval = unfold count_entry in since_most b.interval b.since l s in
    rw (le-leb (length key) 1032 k) (fits_all e (omega (arith, entry_bytes_lem b.interval (count_in b) key v)) (omega (arith, (entry_restarts b.interval (count_in b) key v).1)) (omega arith))

-- a block that counts its entries: their bytes and restarts
pub counted_long : {i : ℕ} {ps : List Pair} {b : BlockBuilder} → Counting i ps b → (b.bytes ≡ length (packed i i [] ps)) × (b.restarts ≡ length (restarts_of i i [] 0 ps))
unfolding count_in count_of
counted_long c = (ap (λ (x : BlockCount). x.bytes) c.counts, ap (λ (x : BlockCount). x.restarts) c.counts)

-- an entry that can be counted fits runs that hold it
pub fits_addable : (b : BlockBuilder) (at : ℕ) (out restarts key value : List ℕ) → countable b key (length value) ≡ true
    → at + (builder_after b key (length value)).bytes ≤ length out → (builder_after b key (length value)).restarts ≤ length restarts → b.bytes < 2 ^ 32
    → addable b at out restarts key value ≡ true
unfolding builder_after builder_with
fits_addable b at out restarts key value c x y m =
    let e = count_entry b.interval (count_in b) key (length value) in
    addable_room b at out restarts key value c ∙ sym (room_mark (length out) at e.bytes (length restarts) e.restarts b.bytes x y) ∙ lt-ltb b.bytes (2 ^ 32) m

-- what is put at a place stands there
pub part_put : (d : List ℕ) (at : ℕ) (bs : List ℕ) → at + length bs ≤ length d → part (put d at bs) at (length bs) ≡ bs
part_put d at bs h =
    let e = put_behind d at 0 bs (omega arith) in
    unfold part in rw (add-zero at, zero-add (length bs)) at e
