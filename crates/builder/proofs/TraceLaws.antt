-- A state and runs that stand for a table: an addition is decided as the definitions say, and leaves what they say.
use Prim.Native.Nat.{ℕ, ◌+◌, ◌≤◌}
use mathlib.Core.Path.{◌≡◌, refl, sym, ap, ap₂, ◌∙◌}
use mathlib.Core.List.{List, [], ◌∷◌, ◌++◌, map}
use mathlib.Core.Bool.{Bool, true, false, ◌&&◌}
use native.Mathlib.Omega.{arith}
use lib.Dec.{leb, ltb, eqb}
use lib.ListN.{length}
use borrow.Author.Tests.{le-leb, eq-eqb}
use Rattle.codec.proofs.Prelude.{test, true_is, apart}
use Rattle.keys.specs.Order.{internal, below, separator}
use Rattle.keys.proofs.KeyLaws.{internal_length}
use Rattle.blocks.specs.Block.{Pair, since, since_all}
use Rattle.blocks.specs.Count.{BlockCount, count_of}
use Rattle.block_builder.specs.Builder.{count_in, builder_after, builder_with}
use Rattle.blocks.proofs.CountLaws.{count_zero}
use Rattle.table.specs.Checked.{Checked, pass, refuse, ◌>>=◌, ask}
use Rattle.table.specs.Options.{Options, index_interval, options_fit, table_limit, Addition, addition_fits}
use Rattle.table.specs.Build.{Building, key_of, pair_of, chunk_bytes, begin, last_key, index_pairs, close, close_before, add, finish, above, accept, accept_all}
use Rattle.table.specs.Runs.{Runs, between, finished, overlay, overlaid, FitsRoom, room_of, start_of}
use Rattle.table.specs.Counts.{finished_size}
use Rattle.table.proofs.AcceptLaws.{fit_parts, option_parts, accept_more}
use Rattle.table.proofs.CountsLaws.{size_finished_lem}
use Rattle.table.proofs.SufficeLaws.{runs_suffice_lem, Rooms, Began, began}
use Rattle.builder.specs.declared.table_builder.Lengths.{Lengths}
use Rattle.builder.specs.declared.table_builder.Builder.{Builder}
use Rattle.builder.specs.State.{options_of, counts_in, lengths_of, same_lengths, sizes_fit, sane, Stands}
use Rattle.builder.specs.Steps.{small, Small, Whole, Roomy, last_of, closed_state, entered_state, above_last, cut_of, sep_of, mid_of, next_of, fits_of, decide_of}
use Rattle.table_write.proofs.EntryLaws.{since_most}
use Rattle.builder.proofs.SizeLaws.{small_is}
use Rattle.builder.proofs.DecideLaws.{sep_most, last_short, mid_is, mid_roomy, above_none, above_some}
use Rattle.table.proofs.OverlayLaws.{overlay_front, overlay_of, overlay_long, each, all_seven}
use Rattle.builder.proofs.CloseLaws.{Counted, lens, counting, index_counting, open_size_lem, options_are, closed_counted}
use Rattle.builder.proofs.EnterLaws.{entered_counted}

-- ---- a state that counts a table within the room is sane and small

since_all_lem : (i n : ℕ) (ps : List Pair) → 1 ≤ i → n ≤ i → since_all i n ps ≤ i
unfolding since_all
since_all_lem i n [] h k = k
since_all_lem i n (p ∷ ps) h k = since_all_lem i (since i n) ps h (since_most i n h k)

module _ {o : Options} {b : Building} {s : Builder} (h : Counted o b s) (f : options_fit o ≡ true) (room : ℕ) (u : FitsRoom room (between o b)) (l : room ≤ table_limit) where
  pub counted_small : small s ≡ true
  unfolding small index_interval
  counted_small =
      let i = o.interval in
      let n = (options_are s o h.options).0 in
      let x = lens h in
      let p : s.pending.since ≤ s.options.interval = unfold count_in count_of in omega (arith, ap (λ (c : BlockCount). c.since) (counting h).counts, since_all_lem i i (map pair_of b.open_block) (option_parts o f).least (omega arith)) in
      let q : s.indexed.since ≤ s.options.interval = unfold count_in count_of in omega (arith, ap (λ (c : BlockCount). c.since) (index_counting h).counts, since_all_lem i i (index_pairs o 0 b.closed) (option_parts o f).least (omega arith)) in
      rw (
        eq-eqb s.pending.interval s.options.interval (h.interval ∙ sym n),
        eq-eqb s.indexed.interval s.options.interval (h.index_interval ∙ sym n),
        le-leb s.pending.since s.options.interval p,
        le-leb s.indexed.since s.options.interval q,
        le-leb s.written table_limit (omega (arith, x.out, u.out)),
        le-leb s.pending.bytes table_limit (omega (arith, x.out, u.out)),
        le-leb s.pending.restarts table_limit (omega (arith, x.restarts, u.restarts)),
        le-leb s.indexed.bytes table_limit (omega (arith, x.index, u.index)),
        le-leb s.indexed.restarts table_limit (omega (arith, x.index_restarts, u.index_restarts)),
        le-leb s.filtered table_limit (omega (arith, x.filters, u.filters)),
        le-leb s.made table_limit (omega (arith, x.offsets, u.offsets)),
        le-leb s.waiting table_limit (omega (arith, x.hashes, u.hashes)),
      )

  pub counted_sane : (r : Runs) → Rooms room r → s.lengths ≡ lengths_of r → (s.pending.len ≤ 1032) × (s.indexed.len ≤ 1032) → sane s (lengths_of r) ≡ true
  unfolding sane sizes_fit same_lengths lengths_of
  counted_sane r z e k =
      let x = lens h in
      let same : (n : ℕ) → eqb n n ≡ true = λ n. eq-eqb n n refl in
      rw (
        e,
        same (length r.out),
        same (length r.index),
        same (length r.filters),
        same (length r.restarts),
        same (length r.index_restarts),
        same (length r.offsets),
        same (length r.hashes),
        h.options,
        f,
        le-leb (s.written + s.pending.bytes) (length r.out) (omega (arith, x.out, u.out, z.out)),
        le-leb s.indexed.bytes (length r.index) (omega (arith, x.index, u.index, z.index)),
        le-leb s.filtered (length r.filters) (omega (arith, x.filters, u.filters, z.filters)),
        le-leb s.pending.restarts (length r.restarts) (omega (arith, x.restarts, u.restarts, z.restarts)),
        le-leb s.indexed.restarts (length r.index_restarts) (omega (arith, x.index_restarts, u.index_restarts, z.index_restarts)),
        le-leb s.made (length r.offsets) (omega (arith, x.offsets, u.offsets, z.offsets)),
        le-leb s.waiting (length r.hashes) (omega (arith, x.hashes, u.hashes, z.hashes)),
        le-leb s.pending.len 1032 k.0,
        le-leb s.indexed.len 1032 k.1,
      )

pub key_short : (word : List ℕ) (edition kind : ℕ) → length word ≤ 1024 → length (internal word edition kind) ≤ 1032
key_short word edition kind h = omega (arith, internal_length word edition kind)

pub addition_short : (a : Addition) → addition_fits a ≡ true → (length (key_of a) ≤ 1032) × (length a.value ≤ 32768)
unfolding key_of
addition_short a f = let p = fit_parts a f in (key_short a.word a.edition a.kind p.high, p.value)

-- ---- the state before and after a cut, and with the entry

module _ {o : Options} {b : Building} {s : Builder} (h : Counted o b s) where
  pub last_is : last_of s ≡ last_key b.open_block
  unfolding last_of last_key count_in count_of
  last_is = ap (λ (c : BlockCount). c.last) (counting h).counts

  pub cut_is : cut_of s ≡ ltb o.block_size (length (chunk_bytes o b.open_block))
  unfolding cut_of options_of
  cut_is = ap₂ ltb (ap (λ (x : Options). x.block_size) h.options) (open_size_lem h)

  pub above_is : (a : Addition) → above_last s (key_of a) ≡ above a b.open_block
  unfolding above count_in count_of
  above_is a = go b.open_block refl
    where
      go : (xs : List Addition) → b.open_block ≡ xs → above_last s (key_of a) ≡ above a xs
      go [] e = sym (above_none s (key_of a) (ap (λ (c : BlockCount). c.restarts) (counting h).counts ∙ (count_zero o.interval (map pair_of b.open_block)).1 (rw e)))
      go (x ∷ xs) e =
          sym (above_some s (key_of a) (λ z.
          let q = (count_zero o.interval (map pair_of b.open_block)).0 (sym (ap (λ (c : BlockCount). c.restarts) (counting h).counts) ∙ z) in
          apart cc))
          ∙ ap (λ (k : List ℕ). below k (key_of a)) (last_is ∙ ap last_key e)

  module _ (m : Small s) (n : s.pending.len ≤ 1032) (a : Addition) where
    abbrev key : List ℕ
    key = key_of a

    sep_is : sep_of s key ≡ separator (last_key b.open_block) key
    unfolding sep_of
    sep_is = ap (λ (k : List ℕ). separator k key) last_is

    pub sep_short : length (sep_of s key) ≤ 1032
    unfolding sep_of
    sep_short = omega (arith, sep_most (last_of s) key, last_short s n)

    pub cut_close : cut_of s ≡ true → close_before o key b ≡ close (sep_of s key) b
    unfolding close_before
    cut_close t = rw (sym cut_is ∙ t, close_before, sep_is)

    pub no_cut_close : cut_of s ≡ false → close_before o key b ≡ b
    unfolding close_before
    no_cut_close t = rw (sym cut_is ∙ t, close_before)

    pub mid_counted : Counted o (close_before o key b) (mid_of s key)
    mid_counted =
        test (cut_of s)
        (λ t. rw (cut_close t, ← mid_is s key (sym t)) (closed_counted h m (sep_of s key) sep_short))
        (λ t. rw (no_cut_close t, ← mid_is s key (sym t)) h)

    module _ (f : addition_fits a ≡ true) where
      pub roomy : Roomy (mid_of s key) (length key) (length a.value)
      roomy = mid_roomy s key (length a.value) m n (addition_short a f).0 (addition_short a f).1 refl

      pub next_counted : Counted o (add o b a) (next_of s key (length a.value))
      unfolding add next_of
      next_counted = entered_counted mid_counted a roomy

-- ---- a state and runs that stand for a table

-- 0, or the refusal's number
unfoldable pub refusal_of : Checked Building → ℕ
refusal_of (pass b) = 0
refusal_of (refuse n) = n

pub lengths_of_lem : (d r r' : Runs) → r' ≡ overlaid d r → (room : ℕ) → Rooms room r → FitsRoom room d → lengths_of r' ≡ lengths_of r
unfolding lengths_of
lengths_of_lem d r r' p room z f =
    let e = each p in
    let x₀ = overlay_long d.out r'.out r.out e.out (omega (arith, f.out, z.out)) in
    let x₁ = overlay_long d.index r'.index r.index e.index (omega (arith, f.index, z.index)) in
    let x₂ = overlay_long d.filters r'.filters r.filters e.filters (omega (arith, f.filters, z.filters)) in
    let x₃ = overlay_long d.restarts r'.restarts r.restarts e.restarts (omega (arith, f.restarts, z.restarts)) in
    let x₄ = overlay_long d.index_restarts r'.index_restarts r.index_restarts e.index_restarts (omega (arith, f.index_restarts, z.index_restarts)) in
    let x₅ = overlay_long d.offsets r'.offsets r.offsets e.offsets (omega (arith, f.offsets, z.offsets)) in
    let x₆ = overlay_long d.hashes r'.hashes r.hashes e.hashes (omega (arith, f.hashes, z.hashes)) in
    λ i. record { out = x₀ i; index = x₁ i; filters = x₂ i; restarts = x₃ i; index_restarts = x₄ i; offsets = x₅ i; hashes = x₆ i }

-- start looks at the lengths alone
pub start_lengths : (o : Options) (r r' : Runs) → lengths_of r' ≡ lengths_of r → start_of o r' ≡ start_of o r
unfolding start_of lengths_of
start_lengths o r r' e =
    rw (
      ap (λ (l : Lengths). l.out) e,
      ap (λ (l : Lengths). l.index) e,
      ap (λ (l : Lengths). l.filters) e,
      ap (λ (l : Lengths). l.restarts) e,
      ap (λ (l : Lengths). l.index_restarts) e,
      ap (λ (l : Lengths). l.offsets) e,
      ap (λ (l : Lengths). l.hashes) e,
    )

pub overlaid_itself : (d r r' : Runs) → r' ≡ overlaid d r → r' ≡ overlaid d r'
overlaid_itself d r r' p =
    let e = each p in
    all_seven (record {
      out = itself d.out r.out e.out;
      index = itself d.index r.index e.index;
      filters = itself d.filters r.filters e.filters;
      restarts = itself d.restarts r.restarts e.restarts;
      index_restarts = itself d.index_restarts r.index_restarts e.index_restarts;
      offsets = itself d.offsets r.offsets e.offsets;
      hashes = itself d.hashes r.hashes e.hashes;
    })
  where
    itself : (w r : List ℕ) {e : List ℕ} → e ≡ overlay w r → e ≡ overlay w e
    itself w r {e} p = overlay_of w e e (overlay_front w e r p) refl

pub stands_counted : {o : Options} {b : Building} {s : Builder} {r : Runs} → Stands o b s r → Counted o b s
stands_counted t = record { options = t.options; counts = t.counts; interval = t.interval; index_interval = t.index_interval; whole = record { pending = t.whole.0; indexed = t.whole.1 } }

module _ (o : Options) (more : List Addition) (b : Building) (s : Builder) (r : Runs) (e : accept_all o (room_of (length r.out)) begin more ≡ pass b) (t : Stands o b s r) where
  abbrev room : ℕ
  room = room_of (length r.out)

  pub trace_began : Began o r
  trace_began = began o r t.started

  pub trace_fits : FitsRoom room (between o b) × FitsRoom room (finished o b)
  trace_fits = runs_suffice_lem o room more b (true_is trace_began.fits) trace_began.least e

  pub trace_small : small s ≡ true
  trace_small = counted_small (stands_counted t) trace_began.fits room trace_fits.0 trace_began.rooms.limit

  pub trace_sane : sane s (lengths_of r) ≡ true
  trace_sane = counted_sane (stands_counted t) trace_began.fits room trace_fits.0 trace_began.rooms.limit r trace_began.rooms t.lengths t.short

  pub trace_is_small : Small s
  trace_is_small = small_is s (rw t.options trace_began.fits) trace_small

  module _ (a : Addition) (f : addition_fits a ≡ true) where
    abbrev its : List ℕ
    its = key_of a

    abbrev next : Builder
    next = next_of s its (length a.value)

    pub trace_next : Counted o (add o b a) next
    trace_next = next_counted (stands_counted t) trace_is_small t.short.0 a f

    pub trace_whole : Whole next
    trace_whole = trace_next.whole

    pub next_short : (next.pending.len ≤ 1032) × (next.indexed.len ≤ 1032)
    next_short = (unfold next_of entered_state builder_after builder_with in (addition_short a f).0, test (cut_of s) cut no_cut)
      where
        cut : cut_of s ≡ true → next.indexed.len ≤ 1032
        cut q = unfold next_of entered_state in rw (← mid_is s its (sym q)) (unfold closed_state builder_after builder_with sep_of in omega (arith, sep_most (last_of s) its, last_short s t.short.0))

        no_cut : cut_of s ≡ false → next.indexed.len ≤ 1032
        no_cut q = unfold next_of entered_state in rw (← mid_is s its (sym q)) t.short.1

    pub mid_same : ((mid_of s its).lengths ≡ s.lengths) × ((mid_of s its).finished ≡ s.finished)
    mid_same =
        test (cut_of s)
        (λ q. rw (← mid_is s its (sym q)) (unfold closed_state in (refl, refl)))
        (λ q. rw (← mid_is s its (sym q)) (refl, refl))

    pub next_lengths : next.lengths ≡ lengths_of r
    unfolding next_of entered_state
    next_lengths = mid_same.0 ∙ t.lengths

    next_size : finished_size (options_of next.options) (counts_in next) ≡ length (finish o (add o b a))
    next_size = ap₂ finished_size trace_next.options trace_next.counts ∙ sym (size_finished_lem o (add o b a))

    module _ (up : above a b.open_block ≡ true) where
      accept_is : accept o room b a ≡ ask 5 (leb (length (finish o (add o b a))) room) >>= (λ u. pass (add o b a))
      unfolding accept ask ◌>>=◌
      accept_is = rw (f, up)

      small_fits : leb (length (finish o (add o b a))) room ≡ true → FitsRoom room (between o (add o b a))
      small_fits q = (runs_suffice_lem o room (more ++ (a ∷ [])) (add o b a) (true_is trace_began.fits) trace_began.least (accept_more o room begin more a b (add o b a) e taken)).0
        where
          taken : accept o room b a ≡ pass (add o b a)
          taken = accept_is ∙ (unfold ask ◌>>=◌ in rw q)

      fits_is : fits_of next (lengths_of r) ≡ leb (length (finish o (add o b a))) room
      unfolding fits_of
      fits_is =
          test (leb (length (finish o (add o b a))) room)
          (λ q.
          let u = small_fits q in
          let x = counted_sane trace_next trace_began.fits room u trace_began.rooms.limit r trace_began.rooms next_lengths next_short in
          let y = counted_small trace_next trace_began.fits room u trace_began.rooms.limit in
          let z : leb (finished_size (options_of next.options) (counts_in next)) (room_of (lengths_of r).out) ≡ leb (length (finish o (add o b a))) room = unfold lengths_of in ap (λ (n : ℕ). leb n room) next_size in
          rw (x, y, z))
          (λ q.
          let z : leb (finished_size (options_of next.options) (counts_in next)) (room_of (lengths_of r).out) ≡ false = unfold lengths_of in ap (λ (n : ℕ). leb n room) next_size ∙ q in
          rw (z, q) (never (sane next (lengths_of r)) (small next)))
        where
          never : (x y : Bool) → x && (y && false) ≡ false
          never true true = refl
          never true false = refl
          never false y = refl

    pub trace_decides : decide_of s (lengths_of r) its (length a.value) ≡ refusal_of (accept o room b a)
    unfolding decide_of
    trace_decides =
        test (above a b.open_block)
        (λ up. rw (trace_small, above_is (stands_counted t) a, up, fits_is up, accept_is up) (test (leb (length (finish o (add o b a))) room) (λ q. rw q (unfold ask ◌>>=◌ refusal_of in refl)) (λ q. rw q (unfold ask ◌>>=◌ refusal_of in refl))))
        (λ up. rw (trace_small, above_is (stands_counted t) a, up) (unfold accept ask ◌>>=◌ refusal_of in rw (f, up)))
