-- A table of some chunks reads plainly as their additions.
use Prim.Native.Nat.{ℕ, ◌+◌, ◌^◌, ◌≤◌, ◌<◌}
use mathlib.Core.Path.{◌≡◌, refl, ap, ap₂, ◌∙◌}
use mathlib.Core.List.{List, [], ◌∷◌, ◌++◌, map, map-append, append_assoc}
use native.Mathlib.Omega.{arith}
use lib.ListN.{length, length-append}
use Rattle.codec.specs.Varint.{Handle, handle_bytes}
use Rattle.codec.proofs.Lists.{All}
use Rattle.codec.proofs.VarintLaws.{Fits, one_handle_lem}
use Rattle.keys.proofs.KeyLaws.{user_internal, seq_internal, kind_internal}
use Rattle.blocks.specs.Block.{Pair, Entry, block_bytes, sharing, since, entry_bytes}
use Rattle.blocks.proofs.BuildLaws.{entry_of, planned, block_bytes_lem}
use Rattle.table.specs.Checked.{pass}
use Rattle.table.specs.Options.{Options, index_interval, Addition, table_limit}
use Rattle.table.specs.Table.{footer, handle_of, Found, found_in, entries_at, founds_of, read_blocks, plain}
use Rattle.table.specs.Build.{Chunk, key_of, pair_of, framed, chunk_bytes, written, end_of, index_pairs, filter_bytes, meta_bytes, index_bytes, until_meta, until_index, until_footer, meta_handle, index_handle, table, footer_bytes}
use Rattle.table.specs.Promise.{addition_of}
use Rattle.table.proofs.FrameLaws.{its, framed_length, framed_contents, footer_bytes_lem}

-- an addition's numbers are small enough
pub record Fit (a : Addition) : Type 0 where
  pub edition : a.edition < 2 ^ 56
  pub kind : a.kind < 256

abbrev pub ChunksFit : List Chunk → Type 0
ChunksFit cs = All (λ (c : Chunk). All Fit c.additions) cs

unfoldable pub all_of : List Chunk → List Addition
all_of [] = []
all_of (c ∷ cs) = c.additions ++ all_of cs

-- ---- data blocks

pub handle_of_lem : (h : Handle) → Fits h → handle_of (handle_bytes h) ≡ h
unfolding handle_of
handle_of_lem h f = cc (one_handle_lem h f)

-- a block of pairs, framed, in a table
pub entries_at_lem : (i : ℕ) (pre post : List ℕ) (ps : List Pair) → length (block_bytes i ps) < 2 ^ 32
    → entries_at (pre ++ (framed (block_bytes i ps) ++ post)) (its pre (block_bytes i ps)) ≡ planned i i [] 0 ps
unfolding entries_at
entries_at_lem i pre post ps small = rw (framed_contents pre (block_bytes i ps) post, block_bytes_lem i ps small, entries_at)

addition_back : (a : Addition) → Fit a → (x : Found) → x.key ≡ key_of a → x.value ≡ a.value → addition_of x ≡ a
unfolding addition_of key_of
addition_back a f x k v =
    rw (k, v, user_internal a.word a.edition a.kind, seq_internal a.word a.edition a.kind f.kind f.edition, kind_internal a.word a.edition a.kind f.kind f.edition)

founds_back : (ix : Entry) (i n : ℕ) (before : List ℕ) (at : ℕ) (xs : List Addition) → All Fit xs
    → map addition_of (map (found_in ix) (planned i n before at (map pair_of xs))) ≡ xs
unfolding planned pair_of
founds_back ix i n before at [] All.nil = refl
founds_back ix i n before at (a ∷ more) (All.cons f fs) =
    ap₂ ◌∷◌ (addition_back a f _ refl refl) (founds_back ix i (since i n) (key_of a) (at + length (entry_bytes (sharing i n before (key_of a)) (pair_of a))) more fs)

founds_of_lem : (t : List ℕ) (ix : Entry) (h : Handle) (es : List Entry) → handle_of ix.value ≡ h → entries_at t h ≡ es → founds_of t ix ≡ map (found_in ix) es
unfolding founds_of
founds_of_lem t ix h es p e = ap (λ (l : List Entry). map (found_in ix) l) (ap (entries_at t) p ∙ e)

module _ (o : Options) where
  pub end_of_lem : (pre : List ℕ) (c : Chunk) → end_of o (length pre) c ≡ length (pre ++ framed (chunk_bytes o c.additions))
  unfolding end_of
  end_of_lem pre c = omega (arith, length-append pre (framed (chunk_bytes o c.additions)), framed_length (chunk_bytes o c.additions))

  chunk_at : (pre post : List ℕ) (xs : List Addition) → length (chunk_bytes o xs) < 2 ^ 32
      → entries_at (pre ++ (framed (chunk_bytes o xs) ++ post)) (its pre (chunk_bytes o xs)) ≡ planned o.interval o.interval [] 0 (map pair_of xs)
  unfolding chunk_bytes
  chunk_at pre post xs small = entries_at_lem o.interval pre post (map pair_of xs) small

  reads_chunks : (pre post : List ℕ) (cs : List Chunk) (i n : ℕ) (before : List ℕ) (at : ℕ) → ChunksFit cs
      → length (pre ++ (written o cs ++ post)) < 2 ^ 32
      → map addition_of (read_blocks (pre ++ (written o cs ++ post)) (planned i n before at (index_pairs o (length pre) cs))) ≡ all_of cs
  unfolding written index_pairs planned read_blocks all_of
  reads_chunks pre post [] i n before at All.nil small = refl
  reads_chunks pre post (c ∷ cs) i n before at (All.cons f fs) small =
      let s = chunk_bytes o c.additions in
      let h = its pre s in
      let p : Pair = record { key = c.key; value = handle_bytes h } in
      let ix = entry_of at (sharing i n before c.key) p in
      let rest = written o cs ++ post in
      let all = length-append pre (framed s ++ written o cs ++ post) in
      let l2 = length-append (framed s ++ written o cs) post in
      let l3 = length-append (framed s) (written o cs) in
      let l4 = framed_length s in
      let fits : Fits h = record { offset = omega arith; size = omega arith } in
      let regroup : (pre ++ framed s) ++ rest ≡ pre ++ (framed s ++ written o cs ++ post) = simp append_assoc in
      let next = at + length (entry_bytes (sharing i n before c.key) p) in
      let ih = reads_chunks (pre ++ framed s) post cs i (since i n) c.key next fs (rw regroup small) in
      let t = pre ++ (framed s ++ written o cs ++ post) in
      let es = planned o.interval o.interval [] 0 (map pair_of c.additions) in
      let read : entries_at t h ≡ es = rw (append_assoc (framed s) (written o cs) post) (chunk_at pre rest c.additions (omega arith)) in
      let here : map addition_of (founds_of t ix) ≡ c.additions =
      ap (map addition_of) (founds_of_lem t ix h es (handle_of_lem h fits) read) ∙ founds_back ix o.interval o.interval [] 0 c.additions f in
      let more : map addition_of (read_blocks t (planned i (since i n) c.key next (index_pairs o (end_of o (length pre) c) cs))) ≡ all_of cs = rw (end_of_lem pre c, ← regroup) ih in
      rw map-append (ap₂ ◌++◌ here more)

-- ---- the table, cut before each of its parts

module _ (o : Options) (cs : List Chunk) where
  abbrev pub foot : List ℕ
  foot = footer_bytes (meta_handle o cs) (index_handle o cs)

  pub at_index : table o cs ≡ until_index o cs ++ (framed (index_bytes o cs) ++ foot)
  unfolding table until_footer
  at_index = simp append_assoc

  pub at_meta : table o cs ≡ until_meta o cs ++ (framed (meta_bytes o cs) ++ (framed (index_bytes o cs) ++ foot))
  unfolding until_index
  at_meta = rw at_index (simp append_assoc)

  pub at_filter : table o cs ≡ written o cs ++ (framed (filter_bytes o cs) ++ (framed (meta_bytes o cs) ++ (framed (index_bytes o cs) ++ foot)))
  unfolding until_meta
  at_filter = rw at_meta (simp append_assoc)

  pub table_long : length (table o cs) ≡ length (written o cs) + length (filter_bytes o cs) + length (meta_bytes o cs) + length (index_bytes o cs) + 15 + length foot
  table_long = rw at_filter (simp (length-append, framed_length) (omega arith))

  until_long : (length (until_meta o cs) ≡ length (written o cs) + length (filter_bytes o cs) + 5)
      × (length (until_index o cs) ≡ length (written o cs) + length (filter_bytes o cs) + length (meta_bytes o cs) + 10)
      × (length (until_footer o cs) ≡ length (written o cs) + length (filter_bytes o cs) + length (meta_bytes o cs) + length (index_bytes o cs) + 15)
  unfolding until_meta until_index until_footer
  until_long = simp (length-append, framed_length) (omega arith)

  module _ (small : length (table o cs) ≤ table_limit) where
    pub table_footer : footer (table o cs) ≡ pass (record { metaindex = meta_handle o cs; index = index_handle o cs })
    unfolding table meta_handle index_handle
    table_footer =
        footer_bytes_lem (until_footer o cs) (meta_handle o cs) (index_handle o cs) small
        (omega (arith, until_long)) (omega (arith, until_long))

    index_entries : entries_at (table o cs) (index_handle o cs) ≡ planned (index_interval o) (index_interval o) [] 0 (index_pairs o 0 cs)
    unfolding index_handle index_bytes
    index_entries = rw at_index (entries_at_lem (index_interval o) (until_index o cs) foot (index_pairs o 0 cs) (omega (arith, table_long)))

    pub table_plain : ChunksFit cs → map addition_of (plain (table o cs)) ≡ all_of cs
    unfolding plain
    table_plain fit =
        let rest = framed (filter_bytes o cs) ++ (framed (meta_bytes o cs) ++ (framed (index_bytes o cs) ++ foot)) in
        let i = index_interval o in
        rw (plain, table_footer, index_entries, at_filter)
        (reads_chunks o [] rest cs i i [] 0 fit (rw (← at_filter) (omega arith)))
