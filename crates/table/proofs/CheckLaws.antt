-- A table of good chunks passes the full check.
use Prim.Native.Nat.{ℕ, ◌+◌, ◌^◌, ◌≤◌, ◌<◌}
use mathlib.Core.Path.{◌≡◌, refl, sym, ap, ◌∙◌, subst}
use mathlib.Core.List.{List, [], ◌∷◌, ◌++◌, append_assoc}
use mathlib.Core.Bool.{true, false, or-true}
use mathlib.Core.Option.{Option, none, some}
use native.Mathlib.Omega.{arith}
use lib.ListN.{length, length-append}
use Rattle.codec.specs.Bytes.{same_bytes}
use Rattle.codec.specs.Varint.{Handle, handle_bytes}
use Rattle.codec.proofs.BytesLaws.{same_same}
use Rattle.codec.proofs.VarintLaws.{Fits, one_handle_lem}
use Rattle.keys.specs.Order.{user_of, bytes_below, below}
use Rattle.blocks.specs.Block.{Pair, Entry, pairs_of, block_bytes, last_key_of}
use Rattle.codec.specs.Limits.{within}
use Rattle.blocks.specs.Formed.{Kind, data_block, index_block, meta_block, is_handle, bloom_name, entry_fits, all, enough, rises}
use Rattle.blocks.proofs.BuildLaws.{planned, planned_pairs, block_bytes_lem}
use Rattle.blocks.proofs.FormedLaws.{formed_some}
use Rattle.filters.specs.FilterBlock.{Filtering, unfiltered, bits_per_key, filter_formed, no_filters, last_filter, made_bytes, filter_block_bytes}
use Rattle.filters.proofs.FilterBlockLaws.{formed, made_long}
use Rattle.table.specs.Checked.{pass, ◌>>=◌, ask, or_refuse}
use Rattle.table.specs.Options.{Options, index_interval, table_limit}
use Rattle.table.specs.Table
use Rattle.table.specs.Table.{Edge}
use Rattle.table.specs.Build.{Chunk, framed, chunk_bytes, written, end_of, index_pairs, filters_of, filter_bytes, meta_name, meta_pair, meta_bytes, index_bytes, until_meta, until_index, meta_handle, index_handle, table}
use Rattle.table.proofs.FrameLaws.{its, framed_length, framed_contents, framed_sealed, framed_placed, fits_within, footer_long}
use Rattle.table.proofs.PlainLaws.{handle_of_lem, end_of_lem, foot, at_index, at_meta, at_filter, table_long, table_footer}
use Rattle.table.proofs.LetsLaws.{pairs, Lets, lets_unfiltered, filter_lets}

-- ---- good chunks

abbrev pub edge : Chunk → Edge
edge c = record { index_key = c.key; last_key = last_key_of [] (pairs c) }

pub record GoodChunk (before : Option Edge) (c : Chunk) : Type 0 where
  pub fit : all (entry_fits data_block) (pairs c) ≡ true
  pub non_empty : enough data_block (pairs c) ≡ true
  pub follows : Table.first_follows before (pairs c) ≡ true
  pub rising : rises below (pairs c) ≡ true
  pub indexed : below c.key (last_key_of [] (pairs c)) ≡ false
  pub key_fits : within 9 1032 (length c.key) ≡ true

abbrev pub Good : Option Edge → List Chunk → Type 0
Good before [] = Unit {0}
Good before (c ∷ cs) = GoodChunk before c × Good (some (edge c)) cs

-- ---- steps of the check

block_passes : (i : ℕ) (pre post : List ℕ) (ps : List Pair) (kind : Kind) → length (block_bytes i ps) < 2 ^ 32 → enough kind ps ≡ true → all (entry_fits kind) ps ≡ true
    → Table.block_of (pre ++ (framed (block_bytes i ps) ++ post)) (its pre (block_bytes i ps)) kind ≡ pass (planned i i [] 0 ps)
unfolding Table.block_of or_refuse
block_passes i pre post ps kind small holds good =
    rw (framed_contents pre (block_bytes i ps) post, formed_some kind (block_bytes i ps) _ (block_bytes_lem i ps small) (rw (planned_pairs i i [] 0 ps) holds) (rw (planned_pairs i i [] 0 ps) good))

data_some : (t : List ℕ) (f : Option (List ℕ)) (before : Option Edge) (key : List ℕ) (h : Handle) (es : List Entry) (ps : List Pair) → Fits h
    → Table.placed t h ≡ pass tt → Table.sealed t h ≡ pass tt → Table.block_of t h data_block ≡ pass es → pairs_of es ≡ ps
    → Table.first_follows before ps ≡ true → rises below ps ≡ true → below key (last_key_of [] ps) ≡ false
    → all (λ (p : Pair). Table.may_hold f h.offset (user_of p.key)) ps ≡ true
    → Table.data_block_of t f before (record { key = key; value = handle_bytes h }) ≡ pass ps
unfolding Table.data_block_of ◌>>=◌ ask
data_some t f before key h es ps fits p s b q w r k m = simp (handle_of_lem h fits, p, s, b, q, w, r, k, m)

sorted_some : (kind : Kind) (t : List ℕ) (h : Handle) (es : List Entry) → Table.sealed t h ≡ pass tt → Table.block_of t h kind ≡ pass es
    → rises (Table.less_of kind) (pairs_of es) ≡ true → Table.sorted_at kind t h ≡ pass es
unfolding Table.sorted_at Table.sorted_in Table.block_of ◌>>=◌ ask
sorted_some kind t h es s b r = simp (s, b, r)

filter_passes : (t : List ℕ) (h : Handle) (s : List ℕ) → Table.placed t h ≡ pass tt → Table.sealed t h ≡ pass tt
    → Table.contents t h ≡ s → filter_formed s ≡ true → Table.filter_of t (some h) ≡ pass (some s)
unfolding Table.filter_of ◌>>=◌ ask
filter_passes t h s p q c e = simp (p, q, c, e)

full_some : (t : List ℕ) (m i : Handle) (ms is : List Entry) (f : Option (List ℕ))
    → Table.footer t ≡ pass (record { metaindex = m; index = i }) → Table.sorted_at meta_block t m ≡ pass ms → Table.sorted_at index_block t i ≡ pass is
    → Table.filter_of t (Table.bloom_handle (pairs_of ms)) ≡ pass f → Table.data_blocks_of t f none (pairs_of is) ≡ pass tt → Table.full_check t ≡ pass tt
unfolding Table.full_check Table.opened ◌>>=◌
full_some t m i ms is f e1 e2 e3 e4 e5 = rw (e1, e2, e3, e4) e5

-- ---- data blocks

module _ (o : Options) where
  chunk_of : (pre post : List ℕ) (c : Chunk) → length (chunk_bytes o c.additions) < 2 ^ 32 → enough data_block (pairs c) ≡ true → all (entry_fits data_block) (pairs c) ≡ true
      → Table.block_of (pre ++ (framed (chunk_bytes o c.additions) ++ post)) (its pre (chunk_bytes o c.additions)) data_block
      ≡ pass (planned o.interval o.interval [] 0 (pairs c))
  unfolding chunk_bytes
  chunk_of pre post c small holds fit = block_passes o.interval pre post (pairs c) data_block small holds fit

  data_chunks : (pre post : List ℕ) (f : Option (List ℕ)) (before : Option Edge) (cs : List Chunk)
      → Good before cs → Lets o f (length pre) cs → length (pre ++ (written o cs ++ post)) < 2 ^ 32 → 48 ≤ length post
      → Table.data_blocks_of (pre ++ (written o cs ++ post)) f before (index_pairs o (length pre) cs) ≡ pass tt
  unfolding Table.data_blocks_of written index_pairs ◌>>=◌
  data_chunks pre post f before [] good lets small room = refl
  data_chunks pre post f before (c ∷ cs) good lets small room =
      let s = chunk_bytes o c.additions in
      let rest = written o cs ++ post in
      let h = its pre s in
      let t = pre ++ (framed s ++ rest) in
      let all = length-append pre (framed s ++ rest) in
      let l2 = length-append (framed s) rest in
      let l3 = length-append (written o cs) post in
      let l4 = framed_length s in
      let regroup : pre ++ (framed s ++ written o cs ++ post) ≡ t = simp append_assoc in
      let small' : length t < 2 ^ 32 = rw (← regroup) small in
      let fits : Fits h = record { offset = omega arith; size = omega arith } in
      let g = good.0 in
      let here : Table.data_block_of t f before (record { key = c.key; value = handle_bytes h }) ≡ pass (pairs c) =
      data_some t f before c.key h (planned o.interval o.interval [] 0 (pairs c)) (pairs c) fits
      (framed_placed pre s rest (omega arith)) (framed_sealed pre s rest) (chunk_of pre rest c (omega arith) g.non_empty g.fit) (planned_pairs o.interval o.interval [] 0 (pairs c))
      g.follows g.rising g.indexed lets.0 in
      let assoc : (pre ++ framed s) ++ rest ≡ t = simp append_assoc in
      let ih = data_chunks (pre ++ framed s) post f (some (edge c)) cs good.1 (rw (← end_of_lem o pre c) lets.1) (rw assoc small') room in
      ap (λ (u : List ℕ). Table.data_blocks_of u f before (index_pairs o (length pre) (c ∷ cs))) regroup
      ∙ rw (here, end_of_lem o pre c) (ap (λ (u : List ℕ). Table.data_blocks_of u f (some (edge c)) (index_pairs o (length (pre ++ framed s)) cs)) (sym assoc) ∙ ih)

-- ---- index and metaindex

is_handle_lem : (h : Handle) → Fits h → is_handle (handle_bytes h) ≡ true
unfolding is_handle
is_handle_lem h f = cc (one_handle_lem h f)

index_fit : (o : Options) (before : Option Edge) (at : ℕ) (cs : List Chunk) → Good before cs → at + length (written o cs) < 2 ^ 64
    → all (entry_fits index_block) (index_pairs o at cs) ≡ true
unfolding all entry_fits index_pairs written end_of
index_fit o before at [] g h = refl
index_fit o before at (c ∷ cs) g h =
    let s = chunk_bytes o c.additions in
    let l = length-append (framed s) (written o cs) in
    let l2 = framed_length s in
    rw (g.0.key_fits, is_handle_lem (record { offset = at; size = length s }) (record { offset = omega arith; size = omega arith }))
    (index_fit o (some (edge c)) (end_of o at c) cs g.1 (omega arith))

meta_fit : (c : Filtering) (h : Handle) → Fits h → all (entry_fits meta_block) (record { key = meta_name c; value = handle_bytes h } ∷ []) ≡ true
unfolding all entry_fits meta_name within bloom_name
meta_fit unfiltered h f = rw (is_handle_lem h f) (simp or-true)
meta_fit (bits_per_key b) h f = rw (is_handle_lem h f) (simp or-true)

meta_rises : (p : Pair) → rises bytes_below (p ∷ []) ≡ true
unfolding rises
meta_rises p = refl

bloom_none : (v : List ℕ) → Table.bloom_handle (record { key = meta_name unfiltered; value = v } ∷ []) ≡ none
unfolding Table.bloom_handle meta_name bloom_name same_bytes
bloom_none v = refl

bloom_some : (b : ℕ) (h : Handle) → Fits h → Table.bloom_handle (record { key = meta_name (bits_per_key b); value = handle_bytes h } ∷ []) ≡ some h
unfolding Table.bloom_handle meta_name
bloom_some b h f = cc (same_same bloom_name, one_handle_lem h f)

filter_none : (t : List ℕ) → Table.filter_of t none ≡ pass none
unfolding Table.filter_of
filter_none t = refl

-- ---- the table

module _ (o : Options) (cs : List Chunk) (small : length (table o cs) ≤ table_limit) (good : Good none cs)
    (rising : rises below (index_pairs o 0 cs) ≡ true) where
  abbrev t : List ℕ
  t = table o cs

  abbrev d : ℕ
  d = o.interval

  abbrev i : ℕ
  i = index_interval o

  abbrev filter_handle : Handle
  filter_handle = its (written o cs) (filter_bytes o cs)

  fits_filter : Fits filter_handle
  fits_filter = fits_within filter_handle (omega (arith, table_long o cs))

  meta_good : all (entry_fits meta_block) (meta_pair o cs ∷ []) ≡ true
  unfolding meta_pair
  meta_good = meta_fit o.filtering filter_handle fits_filter

  foot_long : length (foot o cs) ≡ 48
  foot_long = footer_long (meta_handle o cs) (index_handle o cs)

  table_meta : Table.sorted_at meta_block t (meta_handle o cs) ≡ pass (planned d d [] 0 (meta_pair o cs ∷ []))
  unfolding meta_handle meta_bytes Table.less_of
  table_meta =
      rw (at_meta o cs)
      (sorted_some meta_block _ _ _ (framed_sealed (until_meta o cs) (meta_bytes o cs) _)
      (block_passes d (until_meta o cs) _ (meta_pair o cs ∷ []) meta_block (omega (arith, table_long o cs)) (unfold enough in refl) meta_good)
      (rw (planned_pairs d d [] 0 (meta_pair o cs ∷ [])) (meta_rises (meta_pair o cs))))

  table_index : Table.sorted_at index_block t (index_handle o cs) ≡ pass (planned i i [] 0 (index_pairs o 0 cs))
  unfolding index_handle index_bytes Table.less_of
  table_index =
      rw (at_index o cs)
      (sorted_some index_block _ _ _ (framed_sealed (until_index o cs) (index_bytes o cs) _)
      (block_passes i (until_index o cs) _ (index_pairs o 0 cs) index_block (omega (arith, table_long o cs)) (unfold enough in refl)
      (index_fit o none 0 cs good (omega (arith, table_long o cs))))
      (rw (planned_pairs i i [] 0 (index_pairs o 0 cs)) rising))

  abbrev groups : List (List ℕ)
  groups = (last_filter (filters_of o 0 no_filters cs)).made

  filter_made : filter_bytes o cs ≡ filter_block_bytes o.filtering groups
  unfolding filter_bytes
  filter_made = refl

  made_small : length (made_bytes o.filtering groups) < 2 ^ 32
  made_small = omega (arith, table_long o cs, made_long o.filtering groups, ap length filter_made)

  table_filter : Table.filter_of t (some filter_handle) ≡ pass (some (filter_block_bytes o.filtering groups))
  table_filter =
      let rest = framed (meta_bytes o cs) ++ (framed (index_bytes o cs) ++ foot o cs) in
      rw (at_filter o cs)
      (filter_passes _ _ _ (framed_placed (written o cs) (filter_bytes o cs) rest (rw (← at_filter o cs) (omega (arith, table_long o cs, foot_long))))
      (framed_sealed (written o cs) (filter_bytes o cs) rest)
      (framed_contents (written o cs) (filter_bytes o cs) rest ∙ filter_made) (formed o.filtering groups made_small))

  table_data : (f : Option (List ℕ)) → Lets o f 0 cs → Table.data_blocks_of t f none (index_pairs o 0 cs) ≡ pass tt
  table_data f lets =
      let rest = framed (filter_bytes o cs) ++ (framed (meta_bytes o cs) ++ (framed (index_bytes o cs) ++ foot o cs)) in
      rw (at_filter o cs) (data_chunks o [] rest f none cs good lets (rw (← at_filter o cs) (omega arith)) (simp (length-append, foot_long) (omega arith)))

  bloom_is : (c : Filtering) (r : Option Handle) → o.filtering ≡ c → Table.bloom_handle (record { key = meta_name c; value = handle_bytes filter_handle } ∷ []) ≡ r
      → Table.bloom_handle (meta_pair o cs ∷ []) ≡ r
  unfolding meta_pair
  bloom_is c r e h = ap (λ (x : Filtering). Table.bloom_handle (record { key = meta_name x; value = handle_bytes filter_handle } ∷ [])) e ∙ h

  passes_with : (h : Option Handle) (f : Option (List ℕ)) → Table.bloom_handle (meta_pair o cs ∷ []) ≡ h → Table.filter_of t h ≡ pass f → Lets o f 0 cs → Table.full_check t ≡ pass tt
  passes_with h f b e lets =
      full_some t (meta_handle o cs) (index_handle o cs) (planned d d [] 0 (meta_pair o cs ∷ [])) (planned i i [] 0 (index_pairs o 0 cs)) f
      (table_footer o cs small) table_meta table_index (rw (planned_pairs d d [] 0 (meta_pair o cs ∷ []), b) e) (rw (planned_pairs i i [] 0 (index_pairs o 0 cs)) (table_data f lets))

  passes_by : (c : Filtering) → o.filtering ≡ c → Table.full_check t ≡ pass tt
  passes_by unfiltered e =
      passes_with none none (bloom_is unfiltered none e (bloom_none (handle_bytes filter_handle))) (filter_none t) (lets_unfiltered o 0 cs)
  passes_by (bits_per_key b) e =
      passes_with (some filter_handle) (some (filter_block_bytes o.filtering groups)) (bloom_is (bits_per_key b) (some filter_handle) e (bloom_some b filter_handle fits_filter))
      table_filter
      (subst (λ (c : Filtering). Lets o (some (filter_block_bytes c groups)) 0 cs) (sym e)
      (filter_lets o b cs (subst (λ (c : Filtering). length (made_bytes c groups) < 2 ^ 32) e made_small)))

  pub table_passes : Table.full_check t ≡ pass tt
  table_passes = passes_by o.filtering refl
