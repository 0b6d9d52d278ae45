-- What one entry more leaves in the runs.
use Prim.Native.Nat.{ℕ, ◌+◌, ◌-◌, ◌≤◌}
use mathlib.Core.Path.{◌≡◌, sym, ap, ap₂, ◌∙◌}
use mathlib.Core.List.{List, [], ◌∷◌, ◌++◌, map, map-append}
use mathlib.Core.Bool.{true}
use native.Mathlib.Numerals.{add-one}
use native.Mathlib.Omega.{arith}
use lib.ListN.{length, take, drop, length-append}
use lib.Seq.{take-take}
use Rattle.codec.specs.Bytes.{part}
use Rattle.codec.specs.Put.{put}
use Rattle.codec.proofs.PutLaws.{put_length}
use Rattle.block_builder.specs.declared.block_builder.BlockBuilder.{BlockBuilder}
use Rattle.std.specs.Prelude.{Result, Ok}
use Rattle.codec.specs.declared.put.NoRoom.{NoRoom}
use Rattle.blocks.specs.Block.{Pair, packed, restarts_of}
use Rattle.blocks.specs.Count.{BlockCount, count_entry}
use Rattle.block_builder.specs.Builder as Blocks
use Rattle.block_builder.specs.Builder.{builder_after, builder_with, fit_answer, AddedIs}
use Rattle.block_builder.proofs.BuilderLaws.{stands_more, added_kept, added_is}
use Rattle.block_builder.proofs.BuilderCode.{next_bytes_lem, next_restarts}
use Rattle.filters.specs.Filter.{hash}
use Rattle.filters.specs.FilterBlock.{Filters, wait}
use Rattle.filters.specs.FilterCount.{count_waiting}
use Rattle.filters.proofs.FilterCountLaws.{wait_append}
use Rattle.table.specs.Options.{Options, Addition}
use Rattle.table.specs.Build.{Building, key_of, pair_of, written}
use Rattle.table.specs.Runs.{Runs, filters_now, entries_of, restarts_in, held, between, overlay, overlaid, FitsRoom}
use Rattle.table.specs.Counts.{Counts, counts_of}
use Rattle.table.proofs.CountsLaws.{counts_put}
use Rattle.table.proofs.SufficeLaws.{Rooms}
use Rattle.builder.specs.declared.table_builder.Builder.{Builder}
use Rattle.builder.specs.State.{counts_in}
use Rattle.builder.specs.Steps.{Roomy, entered_state}
use Rattle.table_write.specs.Writes.{EnteredRuns}
use Rattle.table_write.proofs.EntryLaws.{countable_small, counted_long, fits_addable}
use Rattle.builder.proofs.SizeLaws.{count_after}
use Rattle.table.proofs.OverlayLaws.{overlay_behind, overlay_of, overlay_put, overlay_first, overlay_at, overlay_long, Each, each, all_seven}
use Rattle.builder.proofs.CloseLaws.{Counted, counting, lens, open_stands, written_is, filters_are}

-- the building with an addition in the open block
abbrev pub with : Building → Addition → Building
with c a = record { closed = c.closed; open_block = c.open_block ++ (a ∷ []) }

-- a start of a start
take_less : (n m : ℕ) (x y : List ℕ) → n ≤ m → take m x ≡ take m y → take n x ≡ take n y
take_less n m x y h e = sym (take-take n m x h) ∙ ap (take n) e ∙ take-take n m y h

module _ {o : Options} {c : Building} {s : Builder} (h : Counted o c s) (a : Addition) (y : Roomy s (length (key_of a)) (length a.value)) where
  abbrev n : Builder
  n = entered_state s (key_of a) (length a.value)

  pub entered_counted : Counted o (with c a) n
  entered_counted =
      record {
        options = unfold entered_state in h.options;
        counts = step ∙ sym (counts_put o c a);
        interval = unfold entered_state builder_after builder_with in h.interval;
        index_interval = unfold entered_state in h.index_interval;
        whole =
            record {
              pending = unfold entered_state builder_after builder_with in put_length s.pending.last 0 (key_of a) ∙ h.whole.pending;
              indexed = unfold entered_state in h.whole.indexed;
            };
      }
    where
      step : counts_in n
          ≡ (let d = counts_of o c in
          record {
            written = d.written;
            open_block = count_entry o.interval d.open_block (key_of a) (length a.value);
            index = d.index;
            filters = count_waiting d.filters;
          })
      step =
          unfold counts_in entered_state count_waiting in
          let k = key_of a in
          let v = length a.value in
          let x = count_after s.pending k v y.key h.whole.pending in
          let e = h.counts in
          λ i. record {
            written = (e i).written;
            open_block = (x ∙ ap₂ (λ (j : ℕ) (q : BlockCount). count_entry j q k v) h.interval (ap (λ (q : Counts). q.open_block) e)) i;
            index = (e i).index;
            filters = (ap (λ (w : ℕ). record { bytes = s.filtered; made = s.made; waiting = w }) (add-one s.waiting) ∙ ap (λ (q : Counts). count_waiting q.filters) e) i;
          }

  -- what is held before is no more
  pub enter_fits : (room : ℕ) → FitsRoom room (between o (with c a)) → FitsRoom room (between o c)
  enter_fits room f =
      let x = lens h in
      let z = lens entered_counted in
      let p = next_bytes_lem s.pending (key_of a) a.value in
      let q = next_restarts s.pending (key_of a) a.value in
      unfold entered_state builder_after builder_with in
      record {
        out = omega (arith, x.out, z.out, f.out);
        index = omega (arith, x.index, z.index, f.index);
        filters = omega (arith, x.filters, z.filters, f.filters);
        restarts = omega (arith, x.restarts, z.restarts, f.restarts);
        index_restarts = omega (arith, x.index_restarts, z.index_restarts, f.index_restarts);
        offsets = omega (arith, x.offsets, z.offsets, f.offsets);
        hashes = omega (arith, x.hashes, z.hashes, f.hashes);
      }

  abbrev ps : List Pair
  ps = map pair_of c.open_block

  abbrev pair : Pair
  pair = record { key = key_of a; value = a.value }

  pairs_with : map pair_of (with c a).open_block ≡ ps ++ (pair ∷ [])
  unfolding pair_of
  pairs_with = map-append pair_of c.open_block (a ∷ [])

  filters_with : filters_now o (with c a) ≡ wait (hash a.word ∷ []) (filters_now o c)
  unfolding filters_now
  filters_with = rw (map-append, wait_append)

  module _ (room : ℕ) (r r₁ : Runs) (z : Rooms room r) (f : FitsRoom room (between o (with c a))) (p : r₁ ≡ overlaid (between o c) r) where
    abbrev before : Each (between o c) r r₁
    before = each p

    module _ {out' restarts' : List ℕ} {x : Result (Unit {0}) NoRoom} {x' : BlockBuilder} (g : AddedIs s.pending s.written r₁.out out' r₁.restarts restarts' (key_of a) a.value x x') where
      entry_fits_lem : x ≡ Ok tt
      unfolding entered_state
      entry_fits_lem =
          let u = enter_fits room f in
          let l = lens h in
          let l' = lens entered_counted in
          let lo = overlay_long (between o c).out r₁.out r.out before.out (omega (arith, u.out, z.out)) in
          let lr = overlay_long (between o c).restarts r₁.restarts r.restarts before.restarts (omega (arith, u.restarts, z.restarts)) in
          g.fits
          ∙ ap fit_answer (fits_addable s.pending s.written r₁.out r₁.restarts (key_of a) a.value
          (countable_small s.pending (key_of a) (length a.value) y.key (omega (arith, y.value)) (omega (arith, y.bytes)) (omega (arith, y.restarts)) y.since y.least y.most)
          (omega (arith, l'.out, f.out, z.out))
          (omega (arith, l'.restarts, f.restarts, z.restarts))
          (omega (arith, y.bytes)))

      after_stands : Blocks.Stands o.interval (ps ++ (pair ∷ [])) x' s.written out' restarts'
      after_stands = stands_more (open_stands h r.out r.restarts before.out before.restarts) pair g entry_fits_lem

      grows : (s.pending.bytes ≤ x'.bytes) × (s.pending.restarts ≤ x'.restarts)
      unfolding builder_after builder_with
      grows =
          let e = (added_is g true entry_fits_lem).0 in (
            omega (arith, next_bytes_lem s.pending (key_of a) a.value, ap (λ (q : BlockBuilder). q.bytes) e),
            omega (arith, next_restarts s.pending (key_of a) a.value, ap (λ (q : BlockBuilder). q.restarts) e),
          )

      pub entered_out : out' ≡ overlay (between o (with c a)).out r.out
      unfolding between held entries_of
      entered_out =
          let w = written o c.closed in
          let i = o.interval in
          let e = packed i i [] ps in
          let e' = packed i i [] (ps ++ (pair ∷ [])) in
          let kept = (added_kept g).0 in
          let wi = written_is h in
          let bi = (counted_long (counting h)).0 in
          let bb = (counted_long after_stands.counting).0 in
          let gr = grows.0 in
          let lw = length-append w e in
          let front : take (length w) out' ≡ w = take_less (length w) (s.written + s.pending.bytes) out' r₁.out (omega arith) kept.before ∙ (overlay_first w e r₁.out r.out before.out).0 in
          let there : part out' (length w) (length e') ≡ e' = rw (wi, bb) at after_stands.entries in
          let gap : s.written + x'.bytes ≡ length (w ++ e) + (length e' - length e) = omega arith in
          let gap' : s.written + x'.bytes ≡ length w + length e' = omega arith in
          let back₁ : drop (s.written + x'.bytes) r₁.out ≡ drop (s.written + x'.bytes) r.out = rw gap (overlay_behind (w ++ e) r₁.out r.out before.out (length e' - length e)) in
          let back : drop (length w + length e') out' ≡ drop (length w + length e') r.out = rw gap' at (kept.after ∙ back₁) in
          overlay_at w e' out' r.out front there back ∙ ap (λ (q : List Pair). overlay (w ++ packed i i [] q) r.out) (sym pairs_with)

      pub entered_restarts : restarts' ≡ overlay (between o (with c a)).restarts r.restarts
      unfolding between held restarts_in
      entered_restarts =
          let i = o.interval in
          let e = restarts_of i i [] 0 ps in
          let e' = restarts_of i i [] 0 (ps ++ (pair ∷ [])) in
          let kept = (added_kept g).1 in
          let ri = (counted_long (counting h)).1 in
          let br = (counted_long after_stands.counting).1 in
          let gr = grows.1 in
          let gap : x'.restarts ≡ length e + (length e' - length e) = omega arith in
          let back₁ : drop x'.restarts r₁.restarts ≡ drop x'.restarts r.restarts = rw gap (overlay_behind e r₁.restarts r.restarts before.restarts (length e' - length e)) in
          let back : drop (length e') restarts' ≡ drop (length e') r.restarts = rw br at (kept.after ∙ back₁) in
          overlay_of e' restarts' r.restarts (rw br at after_stands.marks) back ∙ ap (λ (q : List Pair). overlay (restarts_of i i [] 0 q) r.restarts) (sym pairs_with)

    pub entered_hashes : {hashes' : List ℕ} → hashes' ≡ put r₁.hashes s.waiting (hash a.word ∷ []) → hashes' ≡ overlay (between o (with c a)).hashes r.hashes
    unfolding between held wait
    entered_hashes e =
        let w = (filters_now o c).waiting in
        let x = hash a.word ∷ [] in
        let q : (filters_now o (with c a)).waiting ≡ w ++ x = ap (λ (k : Filters). k.waiting) filters_with in
        let l : length (w ++ x) ≤ length r.hashes = rw q at (hashes_room) in
        e ∙ overlay_put w x r₁.hashes r.hashes s.waiting (filters_are h).2 before.hashes l ∙ ap (λ (k : List ℕ). overlay k r.hashes) (sym q)
      where
        hashes_room : length (between o (with c a)).hashes ≤ length r.hashes
        hashes_room = omega (arith, f.hashes, z.hashes)

    -- all seven
    pub entered_all : (r₂ : Runs) → EnteredRuns s.pending s.written s.waiting (key_of a) a.word a.value r₁.out r₂.out r₁.restarts r₂.restarts r₁.hashes r₂.hashes
        → r₂.index ≡ r₁.index → r₂.filters ≡ r₁.filters → r₂.index_restarts ≡ r₁.index_restarts → r₂.offsets ≡ r₁.offsets → r₂ ≡ overlaid (between o (with c a)) r
    unfolding between held filters_now wait
    entered_all r₂ g e₁ e₂ e₃ e₄ =
        all_seven (record {
          out = entered_out g.entry;
          index = e₁ ∙ before.index;
          filters = e₂ ∙ before.filters;
          restarts = entered_restarts g.entry;
          index_restarts = e₃ ∙ before.index_restarts;
          offsets = e₄ ∙ before.offsets;
          hashes = entered_hashes g.hash;
        })
