-- The counts of a state that a table within the limit can have: how large they get, and that they move as the definitions say.
use Prim.Native.Nat.{ℕ, zero, suc, ◌+◌, ◌*◌, ◌/◌, ◌^◌, ◌-◌, ◌≤◌, ◌<◌, min}
use mathlib.Core.Path.{◌≡◌, refl, sym, ap, ap₂, ◌∙◌}
use mathlib.Core.List.{List}
use mathlib.Core.Bool.{true}
use native.Mathlib.Nat.{mul-le-mul_left}
use native.Mathlib.Omega.{arith}
use lib.Dec.{eqb, leb, ltb}
use lib.ListN.{length}
use borrow.Author.Tests.{leb-true, eqb-true}
use Rattle.codec.specs.Varint.{varint_bytes}
use Rattle.codec.proofs.Prelude.{test, split, both}
use Rattle.codec.proofs.VarintLaws.{varint_bytes_length}
use Rattle.block_builder.specs.declared.block_builder.BlockBuilder.{BlockBuilder}
use Rattle.std.specs.Prelude.{Result}
use Rattle.codec.specs.declared.put.NoRoom.{NoRoom}
use Rattle.blocks.specs.Count.{no_entries, varint_size, count_entry, count_size}
use Rattle.block_builder.specs.Builder.{count_in, new_builder, builder_with, builder_after, countable, CountedIs}
use Rattle.block_builder.specs.Plan.{size_with}
use Rattle.block_builder.proofs.BuilderLaws.{counting_none, counts_with}
use Rattle.blocks.proofs.CountLaws.{count_none, entry_restarts}
use Rattle.filters.specs.Filter.{filter_size}
use Rattle.filters.specs.FilterBlock.{Filtering, unfiltered, bits_per_key}
use Rattle.filters.specs.FilterCount.{FilterCount, filter_bytes_of, count_made, count_up_to, count_last, filter_block_size}
use Rattle.filters.proofs.FilterCountLaws.{made_over, made_enough, none_waits, some_wait}
use Rattle.bloom.specs.Choice.{choice_of}
use Rattle.table.specs.Options.{Options, index_interval, options_fit, filtering_fits, table_limit}
use Rattle.table.specs.Counts.{handle_size, count_close, count_close_last, end_size, finished_size}
use Rattle.table.proofs.AcceptLaws.{within_parts, option_parts}
use Rattle.table_write.proofs.EntryLaws.{entry_bytes_lem, countable_small}
use Rattle.builder.specs.declared.table_builder.Builder.{Builder}
use Rattle.builder.specs.declared.table_builder.FilterSizes.{FilterSizes}
use Rattle.builder.specs.declared.table_builder.Close.{Close}
use Rattle.builder.specs.declared.table_builder.Sizes.{Sizes}
use Rattle.builder.specs.State.{options_of, counts_in}
use Rattle.builder.specs.Steps.{small, Small, filter_count_in, filter_sizes, filters_in, open_size, last_of, ends_at, close_in, closed_state, Roomy, entered_state, last_state, sizes_in, Whole}

-- ---- one entry more

-- an entry that can be counted is
pub counted_is : {b : BlockBuilder} {key : List ℕ} {v : ℕ} {r : Result (Unit {0}) NoRoom} {b' : BlockBuilder} → CountedIs b key v r b' → countable b key v ≡ true → b' ≡ builder_after b key v
counted_is h e = h.block ∙ rw e

-- a builder after an entry holds the counts after it
pub count_after : (b : BlockBuilder) (key : List ℕ) (v : ℕ) → length key ≤ 1032 → length b.last ≡ 1032 → count_in (builder_after b key v) ≡ count_entry b.interval (count_in b) key v
unfolding builder_after count_entry
count_after b key v h l = counts_with b (count_entry b.interval (count_in b) key v) (omega arith)

-- ---- filters

filter_most : (c : Filtering) (n : ℕ) → filtering_fits c ≡ true → filter_bytes_of c n ≤ 8 * n + 9
unfolding filter_bytes_of filtering_fits filter_size
filter_most unfiltered n h = omega arith
filter_most (bits_per_key b) zero h = omega arith
filter_most (bits_per_key b) (suc n) h =
    let m : suc n * b ≤ suc n * 64 = mul-le-mul_left (suc n) (within_parts 1 64 b h).1 in
    test (ltb (suc n * b) 64) (λ t. rw (t, filter_size) (omega arith)) (λ t. rw (t, filter_size) (omega arith))

made_most : (c : Filtering) (n : ℕ) (f : FilterCount)
    → ((count_made c n f).bytes ≤ f.bytes + filter_bytes_of c f.waiting) × ((count_made c n f).made ≤ f.made + n) × ((count_made c n f).waiting ≤ f.waiting)
made_most c n f = split f.made n (λ h. rw (made_over c n f h) (omega arith)) (λ h. rw (made_enough c n f h) (omega arith))

last_most : (c : Filtering) (f : FilterCount) → ((count_last c f).bytes ≤ f.bytes + filter_bytes_of c f.waiting) × ((count_last c f).made ≤ 2 * f.made + 1)
last_most c f =
    split 0 f.waiting
    (λ h. rw (some_wait c f (λ e. omega arith)) (let m = made_most c (f.made + 1) f in omega arith))
    (λ h. rw (none_waits c f (omega arith)) (omega arith))

-- the code's own sum
pub more_bytes : (c : Filtering) (bytes n r : ℕ) → bytes + filter_bytes_of c n < 2 ^ 63 → r ≡ min (filter_bytes_of c n) (2 ^ 63 + 1) → r ≡ filter_bytes_of c n
more_bytes c bytes n r h e = omega arith

-- ---- a state

module _ (s : Builder) (h : Small s) where
  size_most : open_size s ≤ 83886084
  unfolding open_size count_size count_in
  size_most = omega (arith, h.bytes, h.restarts)

  pub size_exact : {size : ℕ} → size ≡ min (2 ^ 64 - 1) (count_size (count_in s.pending)) → size ≡ open_size s
  unfolding open_size
  size_exact {size} e = omega (arith, size_most)

  pub end_most : {size : ℕ} → size ≡ min (2 ^ 64 - 1) (count_size (count_in s.pending)) → s.written + size + 5 ≤ 100663305
  end_most {size} e = omega (arith, h.written, size_most, size_exact e)

  pub filter_room : s.filtered + filter_bytes_of (choice_of s.options.filter) s.waiting ≤ 150994953
  filter_room = omega (arith, h.filtered, h.waiting, filter_most (choice_of s.options.filter) s.waiting h.fits)

  -- it closed, in numbers
  pub close_is : {size a b : ℕ} {f : FilterSizes}
      → size ≡ min (2 ^ 64 - 1) (count_size (count_in s.pending)) → a ≡ length (varint_bytes s.written) → b ≡ length (varint_bytes size)
      → filter_count_in f ≡ count_made (choice_of s.options.filter) ((s.written + size + 5) / 2048) (filter_count_in (filters_in s))
      → ◌≡◌ {A = Close} (record { end = s.written + size + 5; handle = a + b; filters = f }) (close_in s)
  unfolding close_in ends_at count_up_to filter_count_in filter_sizes handle_size
  close_is {size} {a} {b} es ea eb ef =
      let x : size ≡ open_size s = size_exact es in
      let v : a + b ≡ varint_size s.written + varint_size (open_size s) = ap₂ ◌+◌ ea (eb ∙ ap (λ (n : ℕ). length (varint_bytes n)) x) in
      let g = ef ∙ ap (λ (n : ℕ). count_made (choice_of s.options.filter) ((s.written + n + 5) / 2048) (filter_count_in (filters_in s))) x in
      λ j. record { end = s.written + x j + 5; handle = v j; filters = filter_sizes (g j) }

  handle_most : (close_in s).handle ≤ 20
  unfolding close_in handle_size
  handle_most = omega (arith, varint_bytes_length s.written, varint_bytes_length (open_size s))

  module _ (key : List ℕ) (k : length key ≤ 1032) where
    pub index_countable : (v : ℕ) → v ≤ 20 → countable s.indexed key v ≡ true
    index_countable v l =
        countable_small s.indexed key v k (omega arith) (omega (arith, h.index_bytes)) (omega (arith, h.index_restarts))
        (omega (arith, h.index_since, h.index_interval)) (omega (arith, h.least, h.index_interval)) (omega (arith, h.most, h.index_interval))

    pub closed_is : {c : Close} {r : Result (Unit {0}) NoRoom} {b' e : BlockBuilder} → c ≡ close_in s → CountedIs s.indexed key c.handle r b' → e ≡ new_builder s.options.interval
        → ◌≡◌ {A = Builder}
        (record {
          options = s.options;
          lengths = s.lengths;
          written = c.end;
          pending = e;
          indexed = b';
          filtered = c.filters.bytes;
          made = c.filters.made;
          waiting = c.filters.waiting;
          finished = s.finished;
        })
        (closed_state s key)
    unfolding closed_state
    closed_is {c} ec er ee =
        let l : c.handle ≤ 20 = rw ec handle_most in
        let i = counted_is er (index_countable c.handle l) ∙ ap (λ (x : Close). builder_after s.indexed key x.handle) ec in
        λ j. record {
          options = s.options;
          lengths = s.lengths;
          written = (ec j).end;
          pending = ee j;
          indexed = i j;
          filtered = (ec j).filters.bytes;
          made = (ec j).filters.made;
          waiting = (ec j).filters.waiting;
          finished = s.finished;
        }

-- ---- one entry more

pub entered_is : (s : Builder) (key : List ℕ) (v : ℕ) → Roomy s (length key) v → {r : Result (Unit {0}) NoRoom} {b' : BlockBuilder} → CountedIs s.pending key v r b'
    → ◌≡◌ {A = Builder}
    (record {
      options = s.options;
      lengths = s.lengths;
      written = s.written;
      pending = b';
      indexed = s.indexed;
      filtered = s.filtered;
      made = s.made;
      waiting = s.waiting + 1;
      finished = s.finished;
    })
    (entered_state s key v)
unfolding entered_state
entered_is s key v h e =
    rw (counted_is e (countable_small s.pending key v h.key (omega (arith, h.value)) (omega (arith, h.bytes)) (omega (arith, h.restarts)) h.since h.least h.most))

-- ---- the end

module _ (s : Builder) where
  pub last_none : s.pending.restarts ≡ 0 → s ≡ last_state s
  unfolding last_state
  last_none e = cc

  pub last_some : (s.pending.restarts ≡ 0 → ⊥) → closed_state s (last_of s) ≡ last_state s
  unfolding last_state
  last_some ne = go s.pending.restarts refl
    where
      go : (n : ℕ) → s.pending.restarts ≡ n → closed_state s (last_of s) ≡ last_state s
      go zero e = absurd (ne e)
      go (suc n) e = cc

-- what the numbers of a closed state are at most
pub record Bounded (d : Builder) : Type 0 where
  pub written : d.written ≤ 2 ^ 30
  pub index_bytes : d.indexed.bytes ≤ 2 ^ 30
  pub index_restarts : d.indexed.restarts ≤ 2 ^ 30
  pub filtered : d.filtered ≤ 2 ^ 30
  pub made : d.made ≤ 2 ^ 30
  pub waiting : d.waiting ≤ table_limit

module _ (s : Builder) (h : Small s) where
  bounded_same : Bounded s
  bounded_same = omega (arith, h.written, h.index_bytes, h.index_restarts, h.filtered, h.made, h.waiting)

  pub bounded_closed : (key : List ℕ) → length key ≤ 1032 → Bounded (closed_state s key)
  unfolding closed_state close_in ends_at count_up_to filter_count_in filter_sizes builder_after builder_with handle_size count_in
  bounded_closed key k =
      let c = choice_of s.options.filter in
      let f = filter_count_in (filters_in s) in
      let n = (s.written + open_size s + 5) / 2048 in
      let v = varint_size s.written + varint_size (open_size s) in
      let w : v ≤ 20 = omega (arith, varint_bytes_length s.written, varint_bytes_length (open_size s)) in
      let x = size_most s h in
      let m = made_most c n f in
      record {
        written = omega (arith, h.written);
        index_bytes = omega (arith, h.index_bytes, entry_bytes_lem s.indexed.interval (count_in s.indexed) key v);
        index_restarts = omega (arith, h.index_restarts, (entry_restarts s.indexed.interval (count_in s.indexed) key v).1);
        filtered = omega (arith, m.0, filter_room s h);
        made = omega (arith, h.made, h.written, m.1);
        waiting = omega (arith, h.waiting, m.2);
      }

  pub bounded_last : length (last_of s) ≤ 1032 → {d : Builder} → d ≡ last_state s → Bounded d
  bounded_last k {d} e =
      split 0 s.pending.restarts
      (λ l. rw (e, ← last_some s (λ z. omega arith)) (bounded_closed (last_of s) k))
      (λ l. rw (e, ← last_none s (omega arith)) bounded_same)

-- ---- the counts move as the definitions say

new_counts : (i : ℕ) → count_in (new_builder i) ≡ no_entries i
new_counts i = (counting_none i).counts ∙ count_none i

module _ (s : Builder) (h : Small s) (w : Whole s) where
  abbrev o : Options
  o = options_of s.options

  pub closed_counts : (key : List ℕ) → length key ≤ 1032 → counts_in (closed_state s key) ≡ count_close o key (counts_in s)
  unfolding counts_in closed_state close_in count_close options_of index_interval ends_at open_size filter_count_in filter_sizes
  closed_counts key k =
      let n = s.options.interval in
      let v = handle_size s.written (count_size (count_in s.pending)) in
      let x = count_after s.indexed key v k w.indexed ∙ ap (λ (j : ℕ). count_entry j (count_in s.indexed) key v) h.index_interval in
      λ j. record {
        written = s.written + count_size (count_in s.pending) + 5;
        open_block = new_counts n j;
        index = x j;
        filters = count_up_to (choice_of s.options.filter) (s.written + count_size (count_in s.pending) + 5) (filter_count_in (filters_in s));
      }

  pub last_counts : length (last_of s) ≤ 1032 → counts_in (last_state s) ≡ count_close_last o (counts_in s)
  unfolding count_close_last counts_in count_in last_of
  last_counts k = go s.pending.restarts refl
    where
      go : (n : ℕ) → s.pending.restarts ≡ n → counts_in (last_state s) ≡ count_close_last o (counts_in s)
      go zero e = rw (← last_none s e) (cc)
      go (suc n) e = rw (← last_some s (λ z. omega arith)) (closed_counts (last_of s) k ∙ (cc))

  block_size : (c : Filtering) (d : Builder) (f : FilterSizes) → filter_count_in f ≡ count_last c (filter_count_in (filters_in d))
      → filter_block_size (count_last c (counts_in d).filters) ≡ f.bytes + 4 * f.made + 5
  unfolding counts_in filter_block_size filter_count_in
  block_size c d f ef = sym (ap filter_block_size ef)

  pub finished_is : length (last_of s) ≤ 1032 → (d : Builder) (f : FilterSizes) {index : ℕ} → d ≡ last_state s
      → filter_count_in f ≡ count_last (choice_of s.options.filter) (filter_count_in (filters_in d))
      → index ≡ count_size (count_in d.indexed)
      → end_size (choice_of s.options.filter) d.written (f.bytes + 4 * f.made + 5) index ≡ finished_size o (counts_in s)
  unfolding finished_size
  finished_is k d f {index} e ef i =
      let c = choice_of s.options.filter in
      let q : counts_in d ≡ count_close_last o (counts_in s) = rw e (last_counts k) in
      rw (← q) (unfold counts_in options_of in ap₂ (end_size c d.written) (sym (block_size c d f ef)) i)

module _ (s : Builder) (h : Small s) where
  -- its sums have 64 bits
  pub last_room : length (last_of s) ≤ 1032 → (d : Builder) → d ≡ last_state s
      → ((filters_in d).bytes + filter_bytes_of (choice_of s.options.filter) (filters_in d).waiting ≤ 2 ^ 31) × ((filters_in d).made ≤ 2 ^ 30)
  last_room k d e =
      let b = bounded_last s h k e in
      (omega (arith, b.filtered, b.waiting, filter_most (choice_of s.options.filter) d.waiting h.fits), b.made)

  pub last_sizes : length (last_of s) ≤ 1032 → (d : Builder) (f : FilterSizes) → d ≡ last_state s
      → filter_count_in f ≡ count_last (choice_of s.options.filter) (filter_count_in (filters_in d))
      → (f.bytes ≤ 2 ^ 40) × (f.made ≤ 2 ^ 40) × (d.written ≤ 2 ^ 40) × (count_size (count_in d.indexed) ≤ 2 ^ 40)
  unfolding filter_count_in count_size count_in
  last_sizes k d f e ef =
      let c = choice_of s.options.filter in
      let q = filter_count_in (filters_in d) in
      let b = bounded_last s h k e in
      let r = last_room k d e in
      let x : f.bytes ≤ 2 ^ 31 = omega (arith, ap (λ (z : FilterCount). z.bytes) ef, (last_most c q).0) in
      let y : f.made ≤ 2 ^ 40 = omega (arith, ap (λ (z : FilterCount). z.made) ef, (last_most c q).1) in
      (omega arith, omega arith, omega (arith, b.written), omega (arith, b.index_bytes, b.index_restarts))

  pub index_exact : length (last_of s) ≤ 1032 → (d : Builder) {n : ℕ} → d ≡ last_state s → n ≡ min (2 ^ 64 - 1) (count_size (count_in d.indexed))
      → n ≡ count_size (count_in d.indexed)
  unfolding count_size count_in
  index_exact k d e i = let b = bounded_last s h k e in omega (arith, b.index_bytes, b.index_restarts)

-- ---- the sizes alone

module _ (s : Builder) (h : Small s) (key : List ℕ) (k : length key ≤ 1032) where
  with_entry : (v : ℕ) → v ≤ 20
      → size_with s.indexed.interval (count_in s.indexed) key v ≡ min (2 ^ 64 - 1) (count_size (count_entry s.indexed.interval (count_in s.indexed) key v))
  unfolding size_with
  with_entry v l = rw (index_countable s h key k v l)

  index_after : count_size (count_in (closed_state s key).indexed) ≡ count_size (count_entry s.indexed.interval (count_in s.indexed) key (close_in s).handle)
  unfolding closed_state builder_after builder_with count_in count_size count_entry
  index_after = refl

  index_most : count_size (count_in (closed_state s key).indexed) ≤ 2 ^ 40
  unfolding count_size count_in
  index_most = let b = bounded_closed s h key k in omega (arith, b.index_bytes, b.index_restarts)

  index_size_lem : {c : Close} {more : ℕ} → c ≡ close_in s → more ≡ size_with s.indexed.interval (count_in s.indexed) key c.handle
      → more ≡ count_size (count_in (closed_state s key).indexed)
  index_size_lem {more = more} ec em =
      let m = em ∙ ap (λ (x : Close). size_with s.indexed.interval (count_in s.indexed) key x.handle) ec ∙ with_entry (close_in s).handle (handle_most s h) in
      omega (arith, m, index_after, index_most)

  pub closed_sizes_are : {c : Close} {more : ℕ} → c ≡ close_in s → more ≡ size_with s.indexed.interval (count_in s.indexed) key c.handle
      → ◌≡◌ {A = Sizes}
      (record { written = c.end; index = more; filters = c.filters })
      (sizes_in (closed_state s key))
  closed_sizes_are ec em =
      let i = index_size_lem ec em in
      unfold sizes_in closed_state in
      λ j. record { written = (ec j).end; index = i j; filters = (ec j).filters }

module _ (s : Builder) (h : Small s) where
  pub sizes_none : s.pending.restarts ≡ 0 → {n : ℕ} {f : FilterSizes} → n ≡ min (2 ^ 64 - 1) (count_size (count_in s.indexed)) → f ≡ filters_in s
      → ◌≡◌ {A = Sizes} (record { written = s.written; index = n; filters = f }) (sizes_in (last_state s))
  unfolding sizes_in
  sizes_none z {n} e ef =
      let i : n ≡ count_size (count_in s.indexed) = unfold count_size count_in in omega (arith, h.index_bytes, h.index_restarts) in
      rw (← last_none s z) (λ j. record { written = s.written; index = i j; filters = ef j })

  module _ (k : length (last_of s) ≤ 1032) (z : Sizes) (e : z ≡ sizes_in (last_state s)) where
    pub sizes_room : (z.filters.bytes + filter_bytes_of (choice_of s.options.filter) z.filters.waiting ≤ 2 ^ 31) × (z.filters.made ≤ 2 ^ 30)
    unfolding sizes_in
    sizes_room = rw e (last_room s h k (last_state s) refl)

    module _ (f : FilterSizes) (ef : filter_count_in f ≡ count_last (choice_of s.options.filter) (filter_count_in z.filters)) where
      pub sizes_fit_lem : (z.written ≤ 2 ^ 40) × (f.bytes ≤ 2 ^ 40) × (f.made ≤ 2 ^ 40) × (z.index ≤ 2 ^ 40)
      unfolding sizes_in
      sizes_fit_lem = let r = last_sizes s h k (last_state s) f refl (rw e at ef) in rw e (r.2, r.0, r.1, r.3)

      pub sizes_finished : Whole s → end_size (choice_of s.options.filter) z.written (f.bytes + 4 * f.made + 5) z.index ≡ finished_size (options_of s.options) (counts_in s)
      unfolding sizes_in
      sizes_finished w = rw e (finished_is s h w k (last_state s) f refl (rw e at ef) refl)

-- ---- what the tests say

pub small_is : (s : Builder) → options_fit (options_of s.options) ≡ true → small s ≡ true → Small s
unfolding small options_of
small_is s f e =
    let x1 = both (eqb s.pending.interval s.options.interval) _ e in
    let x2 = both (eqb s.indexed.interval s.options.interval) _ x1.1 in
    let x3 = both (leb s.pending.since s.options.interval) _ x2.1 in
    let x4 = both (leb s.indexed.since s.options.interval) _ x3.1 in
    let x5 = both (leb s.written table_limit) _ x4.1 in
    let x6 = both (leb s.pending.bytes table_limit) _ x5.1 in
    let x7 = both (leb s.pending.restarts table_limit) _ x6.1 in
    let x8 = both (leb s.indexed.bytes table_limit) _ x7.1 in
    let x9 = both (leb s.indexed.restarts table_limit) _ x8.1 in
    let xa = both (leb s.filtered table_limit) _ x9.1 in
    let xb = both (leb s.made table_limit) _ xa.1 in
    let o = option_parts (options_of s.options) f in
    record {
      interval = eqb-true _ _ x1.0;
      index_interval = eqb-true _ _ x2.0;
      least = o.least;
      most = o.most;
      fits = o.filtering;
      since = leb-true _ _ x3.0;
      index_since = leb-true _ _ x4.0;
      written = leb-true _ _ x5.0;
      bytes = leb-true _ _ x6.0;
      restarts = leb-true _ _ x7.0;
      index_bytes = leb-true _ _ x8.0;
      index_restarts = leb-true _ _ x9.0;
      filtered = leb-true _ _ xa.0;
      made = leb-true _ _ xb.0;
      waiting = leb-true _ _ xb.1;
    }
