-- Finish, of a state and runs that stand for a table.
use Prim.Native.Nat.{ℕ, ◌+◌, ◌-◌, ◌/◌, ◌≤◌}
use mathlib.Core.Path.{◌≡◌, refl, sym, ap, ap₂, ◌∙◌}
use mathlib.Core.List.{List, [], ◌∷◌, ◌++◌, map, append-nil}
use mathlib.Core.Bool.{Bool, true, not, false≢true}
use native.Mathlib.Omega.{arith}
use lib.Dec.{eqb}
use lib.ListN.{length, take}
use Rattle.codec.proofs.Lists.{no_length}
use borrow.Author.Tests.{le-leb, eq-eqb, ne_eqb}
use Rattle.blocks.specs.Block.{packed, restarts_of}
use Rattle.blocks.specs.Count.{BlockCount, count_of}
use Rattle.block_builder.specs.Builder.{count_in}
use Rattle.blocks.proofs.CountLaws.{count_zero}
use Rattle.filters.specs.FilterBlock.{Filtering, Filters, no_filters, make_filter, last_filter, made_bytes, starts, filter_block_of, filter_block_bytes}
use Rattle.filters.specs.FilterCount.{FilterCount, filter_count_of, count_last}
use Rattle.bloom.specs.Choice.{choice_of}
use Rattle.filter_block.specs.Make.{groups_up_to, MadeFilters}
use Rattle.filters.proofs.FilterBlockLaws.{starts_length, last_of_lem}
use Rattle.filters.proofs.FilterCountLaws.{made_over, some_wait, count_last_lem, last_kept}
use Rattle.table.specs.Checked.{pass}
use Rattle.table.specs.Options.{Options, index_interval, Addition}
use Rattle.table.specs.Build as Build
use Rattle.table.specs.Build.{Building, pair_of, framed, written, index_pairs, filters_of, filter_bytes, meta_pair, meta_bytes, index_bytes, until_meta, until_index, until_footer, meta_handle, index_handle, footer_bytes, table, begin, close, close_last, accept_all}
use Rattle.table.specs.Runs.{Runs, filters_now, entries_of, restarts_in, held, between, finished, overlay, overlaid, FitsRoom, room_of}
use Rattle.table.specs.Counts.{finished_size}
use Rattle.table.proofs.StepLaws as Step
use Rattle.table.proofs.CountsLaws.{size_finished_lem, no_open, last_filters_lem}
use Rattle.table.proofs.SufficeLaws.{Rooms}
use Rattle.table_write.specs.Writes.{ClosedOut, ClosedIndex, MoreFilters, meta_block, EndFits, EndPut, EndWritten}
use Rattle.builder.specs.declared.table_builder.Builder.{Builder}
use Rattle.builder.specs.declared.table_builder.FilterSizes.{FilterSizes}
use Rattle.builder.specs.declared.table_builder.Ending.{Ending}
use Rattle.std.specs.Prelude.{Result, Ok, Err}
use Rattle.table_block.specs.declared.refusal.Refusal as Why
use Rattle.table_block.specs.Refusals.{number}
use Rattle.codec.proofs.Prelude.{apart}
use Rattle.table_block.proofs.RefusalLaws.{err_is, ok_not_err, err_not_ok}
use Rattle.builder.specs.State.{options_of, counts_in, lengths_of, seven, sane, Stands}
use Rattle.builder.specs.Steps.{Small, filter_count_in, filters_in, last_of, ends_at, closed_state, last_state, early_of, last_filters, endable, said, unless, EndingIs}
use Rattle.builder.specs.Answers.{over_state, FinishedIs}
use Rattle.builder.proofs.SizeLaws as Size
use Rattle.builder.proofs.DecideLaws.{sane_is, last_short, early_sane}
use Rattle.builder.proofs.AddLaws.{early_zero, unless_err}
use Rattle.table.proofs.OverlayLaws.{overlay_none, overlay_front, Each, each, all_seven}
use Rattle.filter_block.proofs.MakeLaws.{groups_some}
use Rattle.builder.proofs.CloseLaws.{Counted, ClosedRuns, closed_kept, more_until, ends_closed, index_key, index_key_closed, lens, counting, index_stands, filters_is, filters_are, written_is, options_are, made_overlay, closed_counted, waits_close, closed_all}
use Rattle.builder.proofs.TraceLaws.{stands_counted, trace_began, trace_fits, trace_small, trace_is_small, trace_sane, last_is}

-- ---- what the last writes leave in the runs

-- a pending block written, and indexed under its last key
pub record LastRuns (s : Builder) (r r' : Runs) : Type 0 where
  pub some : (s.pending.restarts ≡ 0 → ⊥) → ClosedRuns true s (index_key (last_state s)) r r'
  pub none : s.pending.restarts ≡ 0 → r' ≡ r

-- all that is left of a table, written
pub record EndRuns (s last : Builder) (f : FilterSizes) (r r' : Runs) : Type 0 where
  pub mid : Runs
  pub closed : LastRuns s r mid
  pub filters : MoreFilters (not (eqb last.waiting 0)) (choice_of s.options.filter) f.made last.filtered last.made mid.filters r'.filters mid.offsets r'.offsets (take last.waiting mid.hashes)
  pub out : EndPut s.options.interval (choice_of s.options.filter) last.written last.indexed (take f.bytes r'.filters) (take f.made r'.offsets) mid.index mid.index_restarts mid.out r'.out
  pub index : r'.index ≡ mid.index
  pub index_restarts : r'.index_restarts ≡ mid.index_restarts
  pub restarts : r'.restarts ≡ r.restarts
  pub hashes : r'.hashes ≡ r.hashes

module _ (o : Options) (more : List Addition) (b : Building) (s : Builder) (r : Runs) (e : accept_all o (room_of (length r.out)) begin more ≡ pass b) (t : Stands o b s r) where
  abbrev room : ℕ
  room = room_of (length r.out)

  abbrev h : Counted o b s
  h = stands_counted t

  abbrev c : Building
  c = close_last b

  abbrev mid : Builder
  mid = last_state s

  is_small : Small s
  is_small = trace_is_small o more b s r e t

  rooms : Rooms room r
  rooms = (trace_began o more b s r e t).rooms

  short : length (last_of s) ≤ 1032
  short = last_short s t.short.0

  cases : {P : Type 0} → (c ≡ b → mid ≡ s → s.pending.restarts ≡ 0 → P) → (c ≡ close (last_of s) b → mid ≡ closed_state s (last_of s) → (s.pending.restarts ≡ 0 → ⊥) → P) → P
  cases {P} f g = go b.open_block refl
    where
      restarts : s.pending.restarts ≡ (count_of o.interval (map pair_of b.open_block)).restarts
      restarts = unfold count_in in ap (λ (x : BlockCount). x.restarts) (counting h).counts

      go : (xs : List Addition) → b.open_block ≡ xs → P
      go [] q = let z : s.pending.restarts ≡ 0 = restarts ∙ (count_zero o.interval (map pair_of b.open_block)).1 (rw q) in f (Step.last_none b q) (sym (Size.last_none s z)) z
      go (x ∷ xs) q =
          let n : s.pending.restarts ≡ 0 → ⊥ = λ z.
          let y = (count_zero o.interval (map pair_of b.open_block)).0 (sym restarts ∙ z) in
          apart cc in
          g (Step.last_some b x xs q ∙ ap (λ (k : List ℕ). close k b) (sym (last_is h))) (sym (Size.last_some s n)) n

  pub last_counted : Counted o c mid
  last_counted = cases (λ x y z. rw (x, y) h) (λ x y z. rw (x, y) (closed_counted h is_small (last_of s) short))

  abbrev fin : FitsRoom room (finished o b)
  fin = (trace_fits o more b s r e t).1

  waits_fit : length (filters_now o c).waiting ≤ room / 4
  waits_fit =
      let f : length (filters_now o b).waiting ≤ room / 4 = unfold between held in (trace_fits o more b s r e t).0.hashes in
      cases (λ x y z. rw x f) (λ x y z. rw x (waits_close h is_small (last_of s) short (λ (w : List ℕ). length w ≤ room / 4) f (omega arith)))

  -- the filters at the end
  abbrev fs : Filters
  fs = filters_now o c

  end_filters : filters_of o 0 no_filters c.closed ≡ fs
  end_filters = sym (last_filters_lem o b)

  counts_end : last_filters s ≡ filter_count_of o.filtering (last_filter fs)
  unfolding last_filters filter_count_in
  counts_end = ap₂ count_last (options_are s o t.options).1 (filters_is last_counted) ∙ sym (count_last_lem o.filtering fs)

  table_most : length (written o c.closed) ≤ length (Build.finish o b)
  unfolding Build.finish
  table_most = omega (arith, Step.table_length o c.closed)

  out_written : (between o c).out ≡ written o c.closed
  unfolding between held entries_of packed
  out_written = rw (no_open o b) (append-nil (written o c.closed))

  made_most : (length (made_bytes o.filtering fs.made) ≤ length (made_bytes o.filtering (last_filter fs).made)) × (length fs.made ≤ length (last_filter fs).made)
  unfolding filter_count_of
  made_most =
      let k = (last_kept o.filtering (filter_count_of o.filtering fs)).0 in
      let q = count_last_lem o.filtering fs in
      (omega (arith, k.bytes, ap (λ (x : FilterCount). x.bytes) q), omega (arith, k.made, ap (λ (x : FilterCount). x.made) q))

  end_fits : (length (made_bytes o.filtering (last_filter fs).made) ≤ room) × (length (starts o.filtering 0 (last_filter fs).made) ≤ room / 4)
  unfolding finished held
  end_fits = (rw end_filters at fin.filters, rw end_filters at fin.offsets)

  fin_out : length (Build.finish o b) ≤ room
  unfolding finished held
  fin_out = fin.out

  mid_fits : FitsRoom room (between o c)
  mid_fits =
      record {
        out = rw out_written (omega (arith, table_most, fin_out));
        index = (unfold between finished held in fin.index);
        filters = (unfold between held in omega (arith, end_fits.0, made_most.0));
        restarts = (unfold between finished held in fin.restarts);
        index_restarts = (unfold between finished held in fin.index_restarts);
        offsets = (unfold between held in omega (arith, end_fits.1, made_most.1, starts_length o.filtering 0 fs.made, starts_length o.filtering 0 (last_filter fs).made));
        hashes = (unfold between held in waits_fit);
      }

  -- what the writes leave
  module _ (r₁ : Runs) (g : LastRuns s r r₁) where
    pub mid_runs : r₁ ≡ overlaid (between o c) r
    mid_runs =
        cases
        (λ x y z. rw x (g.none z ∙ t.runs))
        (λ x y z.
        let i : index_key mid ≡ last_of s = ap index_key y ∙ index_key_closed s (last_of s) short h.whole.indexed in
        rw x (closed_all h is_small (last_of s) short room r r₁ rooms (trace_fits o more b s r e t).0 (rw x at mid_fits) t.runs refl (rw i at (g.some z))))

    abbrev mids : Each (between o c) r r₁
    mids = each mid_runs

    -- the last filter
    module _ (f : FilterSizes) (ef : filter_count_in f ≡ last_filters s) (f' q' : List ℕ)
        (k : MoreFilters (not (eqb mid.waiting 0)) (choice_of s.options.filter) f.made mid.filtered mid.made r₁.filters f' r₁.offsets q' (take mid.waiting r₁.hashes)) where
      abbrev ch : Filtering
      ch = o.filtering

      filtering : choice_of s.options.filter ≡ ch
      filtering = (options_are s o t.options).1

      one_made : (mid.waiting ≡ 0 → ⊥) → f.made ≡ mid.made + 1
      unfolding filter_count_in last_filters filters_in
      one_made z =
          let d : FilterCount = record { bytes = mid.filtered; made = mid.made; waiting = mid.waiting } in
          let w = choice_of s.options.filter in
          ap (λ (x : FilterCount). x.made) (ef ∙ some_wait w d z ∙ made_over w (mid.made + 1) d (omega arith))

      pub last_runs : (f' ≡ overlay (made_bytes ch (last_filter fs).made) r.filters) × (q' ≡ overlay (starts ch 0 (last_filter fs).made) r.offsets)
      unfolding between held make_filter
      last_runs = last_of_lem Left fs none some end_fits.0 end_fits.1
        where
          Left : Filters → Type 0
          Left g = length (made_bytes ch g.made) ≤ room → length (starts ch 0 g.made) ≤ room / 4 → (f' ≡ overlay (made_bytes ch g.made) r.filters) × (q' ≡ overlay (starts ch 0 g.made) r.offsets)

          none : fs.waiting ≡ [] → Left fs
          none e lf lq = let p = k.kept (ap not (eq-eqb mid.waiting 0 ((filters_are last_counted).2 ∙ ap length e))) in (p.0 ∙ mids.filters, p.1 ∙ mids.offsets)

          some : (x : ℕ) (xs : List ℕ) → fs.waiting ≡ x ∷ xs → Left (make_filter fs)
          some x xs e lf lq =
              let n = filters_are last_counted in
              let tk : take mid.waiting r₁.hashes ≡ fs.waiting = rw n.2 (overlay_front fs.waiting r₁.hashes r.hashes mids.hashes) in
              let wz : mid.waiting ≡ 0 → ⊥ = λ z. omega (arith, ap length e) in
              let n₁ = one_made wz in
              let one : f.made - mid.made - 1 ≡ 0 = omega arith in
              let gg : groups_up_to mid.made f.made (take mid.waiting r₁.hashes) ≡ fs.waiting ∷ [] = groups_some mid.made f.made (take mid.waiting r₁.hashes) (omega arith) ∙ rw (tk, one) in
              let y : MadeFilters ch (fs.waiting ∷ []) mid.filtered mid.made k.said r₁.filters f' r₁.offsets q' = rw (filtering, gg) at (k.done (ap not (ne_eqb mid.waiting 0 wz))) in
              made_overlay ch fs.made (fs.waiting ∷ []) r.filters r.offsets y n.0 n.1 mids.filters mids.offsets (omega (arith, rooms.filters)) (omega (arith, rooms.offsets)) (omega (arith, rooms.limit))

      -- the table
      module _ (out' : List ℕ) (k₂ : EndPut s.options.interval (choice_of s.options.filter) mid.written mid.indexed (take f.bytes f') (take f.made q') r₁.index r₁.index_restarts r₁.out out') where
        abbrev cs : List Build.Chunk
        cs = c.closed

        sizes_are : filter_count_in f ≡ filter_count_of ch (last_filter fs)
        sizes_are = ef ∙ counts_end

        f_bytes : f.bytes ≡ length (made_bytes ch (last_filter fs).made)
        unfolding filter_count_in filter_count_of
        f_bytes = ap (λ (x : FilterCount). x.bytes) sizes_are

        f_made : f.made ≡ length (starts ch 0 (last_filter fs).made)
        unfolding filter_count_in filter_count_of
        f_made = ap (λ (x : FilterCount). x.made) sizes_are ∙ sym (starts_length ch 0 (last_filter fs).made)

        filter_is : filter_block_of (take f.bytes f') (take f.made q') ≡ filter_bytes o cs
        unfolding filter_bytes filter_block_bytes
        filter_is =
            let x : take f.bytes f' ≡ made_bytes ch (last_filter fs).made = rw f_bytes (overlay_front (made_bytes ch (last_filter fs).made) f' r.filters last_runs.0) in
            let y : take f.made q' ≡ starts ch 0 (last_filter fs).made = rw f_made (overlay_front (starts ch 0 (last_filter fs).made) q' r.offsets last_runs.1) in
            ap₂ filter_block_of x y ∙ ap (λ (z : Filters). filter_block_of (made_bytes ch (last_filter z).made) (starts ch 0 (last_filter z).made)) (sym end_filters)

        interval : s.options.interval ≡ o.interval
        interval = (options_are s o t.options).0

        meta_is : meta_block s.options.interval (choice_of s.options.filter) (record { offset = mid.written; size = length (filter_block_of (take f.bytes f') (take f.made q')) }) ≡ meta_bytes o cs
        unfolding meta_block meta_bytes meta_pair
        meta_is = rw (filter_is, written_is last_counted, interval, filtering)

        abbrev whole : List ℕ → List ℕ → List ℕ
        whole fb mb =
            let w = written o cs in
            let ib = index_bytes o cs in
            let t = w ++ framed fb in
            let u = t ++ framed mb in
            u ++ framed ib ++ footer_bytes (record { offset = length t; size = length mb }) (record { offset = length u; size = length ib })

        whole_is : whole (filter_block_of (take f.bytes f') (take f.made q')) (meta_block s.options.interval (choice_of s.options.filter) (record { offset = mid.written; size = length (filter_block_of (take f.bytes f') (take f.made q')) })) ≡ Build.finish o b
        unfolding Build.finish table until_footer until_index until_meta meta_handle index_handle
        whole_is = ap₂ whole filter_is meta_is

        pub end_out : out' ≡ overlay (Build.finish o b) r.out
        unfolding index_bytes
        end_out =
            let l : length (whole (filter_block_of (take f.bytes f') (take f.made q')) (meta_block s.options.interval (choice_of s.options.filter) (record { offset = mid.written; size = length (filter_block_of (take f.bytes f') (take f.made q')) }))) ≤ length r.out = rw whole_is (omega (arith, fin_out, rooms.out)) in
            k₂.wrote is_small.least is_small.most (index_interval o) (index_pairs o 0 cs) (index_stands last_counted r.index r.index_restarts mids.index mids.index_restarts) (written o cs) r.out (rw out_written at mids.out)
            (sym (written_is last_counted)) l
            ∙ ap (λ (x : List ℕ). overlay x r.out) whole_is

  -- all of it
  waits_none : (last_filter fs).waiting ≡ []
  waits_none = no_length (last_filter fs).waiting (unfold filter_count_of in ap (λ (x : FilterCount). x.waiting) (count_last_lem o.filtering fs) ∙ (last_kept o.filtering (filter_count_of o.filtering fs)).1)

  fin_eq : (r' : Runs) → r'.out ≡ overlay (Build.finish o b) r.out → r'.index ≡ overlay (between o c).index r.index
      → r'.filters ≡ overlay (made_bytes o.filtering (last_filter fs).made) r.filters → r'.restarts ≡ r.restarts
      → r'.index_restarts ≡ overlay (between o c).index_restarts r.index_restarts → r'.offsets ≡ overlay (starts o.filtering 0 (last_filter fs).made) r.offsets → r'.hashes ≡ r.hashes
      → r' ≡ overlaid (finished o b) r
  unfolding finished between held restarts_in restarts_of
  fin_eq r' x₀ x₁ x₂ x₃ x₄ x₅ x₆ =
      let z : last_filter (filters_of o 0 no_filters c.closed) ≡ last_filter fs = ap last_filter end_filters in
      all_seven (record {
        out = x₀;
        index = x₁;
        filters = x₂ ∙ ap (λ (q : Filters). overlay (made_bytes o.filtering q.made) r.filters) (sym z);
        restarts = x₃ ∙ overlay_none r.restarts ∙ ap (λ (xs : List Addition). overlay (restarts_in o.interval (map pair_of xs)) r.restarts) (sym (no_open o b));
        index_restarts = x₄;
        offsets = x₅ ∙ ap (λ (q : Filters). overlay (starts o.filtering 0 q.made) r.offsets) (sym z);
        hashes = x₆ ∙ overlay_none r.hashes ∙ ap (λ (w : List ℕ). overlay w r.hashes) (sym waits_none) ∙ ap (λ (q : Filters). overlay q.waiting r.hashes) (sym z);
      })

  pub end_runs : (f : FilterSizes) → filter_count_in f ≡ last_filters s → (r' : Runs) → EndRuns s mid f r r' → r' ≡ overlaid (finished o b) r
  end_runs f ef r' g =
      let m = g.mid in
      let k = g.closed in
      let lr = last_runs m k f ef r'.filters r'.offsets g.filters in
      fin_eq r' (end_out m k f ef r'.filters r'.offsets g.filters r'.out g.out) (g.index ∙ (mids m k).index) lr.0 g.restarts (g.index_restarts ∙ (mids m k).index_restarts) lr.1 g.hashes

  -- and its size
  pub end_size_lem : finished_size (options_of s.options) (counts_in s) ≡ length (Build.finish o b)
  end_size_lem = ap₂ finished_size t.options t.counts ∙ sym (size_finished_lem o b)

  pub end_endable : endable s (lengths_of r) ≡ true
  unfolding endable lengths_of filter_count_of
  end_endable =
      let q = counts_end in
      let qb = ap (λ (x : FilterCount). x.bytes) q in
      let qm = ap (λ (x : FilterCount). x.made) q in
      let x = lens last_counted in
      rw (
        le-leb (finished_size (options_of s.options) (counts_in s)) (length r.out) (omega (arith, end_size_lem, fin_out, rooms.out)),
        le-leb (last_filters s).bytes (length r.filters) (omega (arith, qb, end_fits.0, rooms.filters)),
        le-leb (last_filters s).made (length r.offsets) (omega (arith, qm, end_fits.1, starts_length o.filtering 0 (last_filter fs).made, rooms.offsets)),
        le-leb mid.indexed.bytes (length r.index) (omega (arith, x.index, mid_fits.index, rooms.index)),
      )

  pub end_decides : {x : Result Ending Why.Refusal} {d : Builder} → EndingIs s (lengths_of r) x d → said x ≡ 0
  end_decides g = g.answer h.whole ∙ rw (trace_small o more b s r e t, end_endable)

  pub end_sized : {p : Ending} {d : Builder} → EndingIs s (lengths_of r) (Ok p) d → p.size ≡ length (Build.finish o b)
  end_sized {p} {d} g = g.size p refl h.whole ∙ end_size_lem

-- ---- finish

module _ (s : Builder) (r : Runs) where
  early_none : (o : Options) (more : List Addition) (b : Building) → accept_all o (room_of (length r.out)) begin more ≡ pass b → Stands o b s r → early_of s (lengths_of r) true ≡ 0
  early_none o more b e t = early_sane s (lengths_of r) true t.going (trace_sane o more b s r e t)

  pub finish_refused : {e : Why.Refusal} → unless (early_of s (lengths_of r) true) ≡ Err e → FinishedIs s r r (record { answer = Err e; state = s })
  finish_refused {e} q =
      let u = unless_err (early_of s (lengths_of r) true) q in
      record {
        early = λ x. ap Err u.1;
        later = λ x. absurd (u.0 x);
        refused = λ m x. (refl, refl);
        over = λ m x. err_not_ok x;
        answer = λ o more b ac t. absurd (u.0 (early_none o more b ac t));
        runs = λ o more b ac t. absurd (u.0 (early_none o more b ac t));
      }

  module _ (z : early_of s (lengths_of r) true ≡ 0) where
    pub finish_is_sane : sane s (lengths_of r) ≡ true
    finish_is_sane = (early_zero s (lengths_of r) true z).0

    pub finish_full : {e : Why.Refusal} {d : Builder} → EndingIs s (lengths_of r) (Err e) d → FinishedIs s r r (record { answer = Err e; state = s })
    finish_full {e} {d} g =
        let five : number e ≡ 5 = ap number (g.kind e refl) in
        record {
          early = λ x. absurd (x z);
          later = λ x m y. sym (err_is y) ∙ g.kind e refl;
          refused = λ m x. (refl, refl);
          over = λ m x. err_not_ok x;
          answer = λ o more b ac t. let v = end_decides o more b s r ac t g in absurd (omega arith);
          runs = λ o more b ac t. let v = end_decides o more b s r ac t g in absurd (omega arith);
        }

    module _ {p : Ending} {d : Builder} (g : EndingIs s (lengths_of r) (Ok p) d) where
      -- the end's numbers are far below 64 bits, and what it is written from stands within the runs
      finish_fits : EndFits d.written p.sizes.bytes p.sizes.made d.indexed (length r.filters) (length r.offsets) (length r.index)
      unfolding lengths_of last_filters
      finish_fits =
          let x = sane_is s (lengths_of r) finish_is_sane in
          let w = g.within p refl in
          let ef = g.sizes p refl ∙ ap (λ (x : Builder). count_last (choice_of s.options.filter) (filter_count_in (filters_in x))) (sym (g.last p refl)) in
          let v = Size.last_sizes s (g.small p refl) (last_short s x.len) d p.sizes (g.last p refl) ef in
          record {
            written = v.2;
            filter_bytes = v.0;
            filter_count = v.1;
            index_size = v.3;
            in_filters = w.0;
            in_offsets = w.1.0;
            in_index = w.1.1;
          }

      module _ {closing : Bool} (c : closing ≡ not (eqb s.pending.restarts 0)) {out₁ index₁ filters₁ index_restarts₁ offsets₁ filters₂ offsets₂ out₂ : List ℕ}
          (co : ClosedOut closing s.pending s.written r.out out₁ r.restarts)
          (ci : ClosedIndex closing s.pending s.written s.indexed (take d.indexed.len d.indexed.last) r.index index₁ r.index_restarts index_restarts₁)
          (cf : MoreFilters closing (choice_of s.options.filter) (d.written / 2048) s.filtered s.made r.filters filters₁ r.offsets offsets₁ (take s.waiting r.hashes))
          (lf : MoreFilters (not (eqb d.waiting 0)) (choice_of s.options.filter) p.sizes.made d.filtered d.made filters₁ filters₂ offsets₁ offsets₂ (take d.waiting r.hashes))
          (ew : EndWritten s.options.interval (choice_of s.options.filter) d.written p.sizes.bytes p.sizes.made d.indexed filters₂ offsets₂ index₁ index_restarts₁ out₁ out₂)
          (lens : (length filters₂ ≡ length r.filters) × ((length offsets₂ ≡ length r.offsets) × (length index₁ ≡ length r.index))) where
        abbrev r' : Runs
        r' = seven out₂ index₁ filters₂ r.restarts index_restarts₁ offsets₂ r.hashes

        ended : EndRuns s (last_state s) p.sizes r r'
        ended =
            let cl : (closing ≡ true → d.written ≡ ends_at s) → ClosedRuns closing s (index_key d) r (seven out₁ index₁ filters₁ r.restarts index_restarts₁ offsets₁ r.hashes) =
            λ e. (unfold index_key in record { out = co; index = ci; filters = more_until e cf; restarts = refl; hashes = refl }) in
            let fits : EndFits d.written p.sizes.bytes p.sizes.made d.indexed (length filters₂) (length offsets₂) (length index₁) = rw (lens.0, lens.1.0, lens.1.1) finish_fits in
            record {
              mid = _;
              closed =
                  record {
                    some = λ n.
                        let e = ap (λ (x : Builder). x.written) (g.last p refl ∙ sym (Size.last_some s n)) ∙ ends_closed s (last_of s) in
                        rw (g.last p refl, c ∙ ap not (ne_eqb s.pending.restarts 0 n)) at (cl (λ u. e));
                    none = λ n. let u = c ∙ ap not (eq-eqb s.pending.restarts 0 n) in closed_kept (cl (λ v. absurd (false≢true (sym u ∙ v)))) u;
                  };
              filters = rw (g.last p refl) at lf;
              out = rw (g.last p refl) at (ew.done fits);
              index = refl;
              index_restarts = refl;
              restarts = refl;
              hashes = refl;
            }

        pub finish_done : {x : Builder} → x ≡ over_state s → FinishedIs s r r' (record { answer = Ok p.size; state = x })
        finish_done {x} ex =
            record {
              early = λ y. absurd (y z);
              later = λ y m u. ok_not_err u;
              refused = λ m u. ok_not_err u;
              over = λ m u. ex;
              answer = λ o more b e t. ap Ok (end_sized o more b s r e t g);
              runs = λ o more b e t. end_runs o more b s r e t p.sizes (g.sizes p refl) r' ended;
            }
