-- The filter block of a table lets each of its words through.
use Prim.Native.Nat.{ℕ, ◌/◌, ◌^◌, ◌≤◌, ◌<◌}
use mathlib.Core.Path.{◌≡◌, refl}
use mathlib.Core.List.{List, [], ◌∷◌, map, Memᴰ}
use mathlib.Core.Bool.{true}
use mathlib.Core.Option.{Option, none, some}
use native.Mathlib.Omega.{arith}
use lib.ListN.{length}
use Rattle.keys.specs.Order.{user_of}
use Rattle.keys.proofs.KeyLaws.{user_internal}
use Rattle.blocks.specs.Block.{Pair}
use Rattle.blocks.specs.Formed.{all}
use Rattle.filters.specs.Filter.{hash}
use Rattle.filters.specs.FilterBlock.{bits_per_key, Filters, no_filters, wait, filters_up_to, last_filter, made_bytes, filter_block_bytes}
use Rattle.filters.proofs.GroupLaws.{Holds, last_holds, holds_may, wait_holds, wait_new, step_length, step_holds}
use Rattle.table.specs.Options.{Options, Addition}
use Rattle.table.specs.Table.{may_hold}
use Rattle.table.specs.Build.{Chunk, key_of, pair_of, end_of, filters_of}

abbrev pub pairs : Chunk → List Pair
pairs c = map pair_of c.additions

-- a filter lets some pairs be in the block at an offset
abbrev LetsAll : Option (List ℕ) → ℕ → List Pair → Type 0
LetsAll f at ps = all (λ (p : Pair). may_hold f at (user_of p.key)) ps ≡ true

-- and each chunk's, at the place where the chunk stands
abbrev pub Lets : Options → Option (List ℕ) → ℕ → List Chunk → Type 0
Lets o f at [] = Unit {0}
Lets o f at (c ∷ cs) = LetsAll f at (pairs c) × Lets o f (end_of o at c) cs

-- ---- the hashes of a chunk are held under its offset's number

abbrev hashes : List Addition → List ℕ
hashes xs = map (λ (a : Addition). hash a.word) xs

module _ (o : Options) where
  abbrev step : ℕ → Filters → Chunk → Filters
  step at f c = filters_up_to (end_of o at c) (wait (hashes c.additions) f)

  end_later : (at : ℕ) (c : Chunk) → at ≤ end_of o at c
  unfolding end_of
  end_later at c = omega arith

  kept : (at : ℕ) (f : Filters) (cs : List Chunk) (i h : ℕ) → length f.made ≡ at / 2048 → i ≤ length f.made → Holds f i h → Holds (filters_of o at f cs) i h
  unfolding filters_of
  kept at f [] i h e l k = k
  kept at f (c ∷ cs) i h e l k =
      let hs = hashes c.additions in
      let later = end_later at c in
      let e2 = step_length at (end_of o at c) hs f later e in
      kept (end_of o at c) (step at f c) cs i h e2 (omega arith) (step_holds (end_of o at c) hs f i h l (wait_holds hs f i h k))

  abbrev HoldsChunks : Filters → ℕ → List Chunk → Type 0
  HoldsChunks F at [] = Unit {0}
  HoldsChunks F at (c ∷ cs) = ((h : ℕ) → Memᴰ h (hashes c.additions) → Holds F (at / 2048) h) × HoldsChunks F (end_of o at c) cs

  holds_chunks : (at : ℕ) (f : Filters) (cs : List Chunk) → length f.made ≡ at / 2048 → HoldsChunks (filters_of o at f cs) at cs
  unfolding filters_of
  holds_chunks at f [] e = tt
  holds_chunks at f (c ∷ cs) e =
      let hs = hashes c.additions in
      let later = end_later at c in
      let e2 = step_length at (end_of o at c) hs f later e in (
        λ h m. kept (end_of o at c) (step at f c) cs (at / 2048) h e2 (omega arith) (step_holds (end_of o at c) hs f (at / 2048) h (omega arith) (wait_new hs f (at / 2048) h (omega arith) m)),
        holds_chunks (end_of o at c) (step at f c) cs e2,
      )

-- ---- so the check's test of the words passes

may_all : (b : ℕ) (f : Filters) (at : ℕ) (xs : List Addition) → length (made_bytes (bits_per_key b) f.made) < 2 ^ 32
    → ((h : ℕ) → Memᴰ h (hashes xs) → Holds f (at / 2048) h) → LetsAll (some (filter_block_bytes (bits_per_key b) f.made)) at (map pair_of xs)
unfolding all may_hold pair_of key_of
may_all b f at [] small k = refl
may_all b f at (a ∷ xs) small k =
    rw (user_internal a.word a.edition a.kind, holds_may b f at (hash a.word) small (k (hash a.word) (Memᴰ.head refl)))
    (may_all b f at xs small (λ h m. k h (Memᴰ.tail m)))

lets_filtered : (o : Options) (b : ℕ) (f : Filters) (at : ℕ) (cs : List Chunk) → length (made_bytes (bits_per_key b) (last_filter f).made) < 2 ^ 32 → HoldsChunks o f at cs
    → Lets o (some (filter_block_bytes (bits_per_key b) (last_filter f).made)) at cs
lets_filtered o b f at [] small k = tt
lets_filtered o b f at (c ∷ cs) small k =
    (may_all b (last_filter f) at c.additions small (λ h m. last_holds f (at / 2048) h (k.0 h m)), lets_filtered o b f (end_of o at c) cs small k.1)

pub lets_unfiltered : (o : Options) (at : ℕ) (cs : List Chunk) → Lets o none at cs
unfolding all may_hold
lets_unfiltered o at [] = tt
lets_unfiltered o at (c ∷ cs) = (all_none at (map pair_of c.additions), lets_unfiltered o (end_of o at c) cs)
  where
    all_none : (at : ℕ) (ps : List Pair) → LetsAll none at ps
    all_none at [] = refl
    all_none at (p ∷ ps) = all_none at ps

pub filter_lets : (o : Options) (b : ℕ) (cs : List Chunk) → length (made_bytes (bits_per_key b) (last_filter (filters_of o 0 no_filters cs)).made) < 2 ^ 32
    → Lets o (some (filter_block_bytes (bits_per_key b) (last_filter (filters_of o 0 no_filters cs)).made)) 0 cs
filter_lets o b cs small = lets_filtered o b (filters_of o 0 no_filters cs) 0 cs small (holds_chunks o 0 no_filters cs (unfold no_filters in refl))
