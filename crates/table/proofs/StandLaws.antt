-- What the full check tells of a table: how its blocks stand to their index entries and to one another.
use Prim.Native.Nat.{Ordering}
use Prim.Native.Nat.{ℕ}
use mathlib.Core.Path.{◌≡◌, refl, sym, ◌∙◌, ap}
use mathlib.Core.List.Memᴰ
use mathlib.Core.List.{List, [], ◌∷◌, ◌++◌, map, Memᴰ}
use mathlib.Core.Bool.{Bool, not}
use mathlib.Core.Option.{Option, none, some}
use mathlib.Core.Logic.{◌⊎◌, inr, ⊎_map}
use lib.Dec.{T, compare_is_eq}
use Rattle.codec.specs.Varint.{Handle}
use Rattle.codec.proofs.Prelude.{and_l, and_r, or_cases}
use Rattle.codec.proofs.Lists.{All, Pairs, all_head, all_append, all_imp, all_map, pairs_map, pairs_append}
use Rattle.keys.specs.Order.{user_of, by_bytes, bytes_below, Point, point_of, by_point, below}
use Rattle.keys.proofs.OrderLaws.{is_eq_eq, Less, ◌≺◌, ◌≼◌, ≼-self, point_laws, bytes_laws, less_up_to_trans, same_up_to, ≼-word, ≺-trans, ≺-≼, ≼-≺, ≼_trans, ≺-weak}
use Rattle.blocks.specs.Block.{Pair, Entry, pairs_of, last_key_of}
use Rattle.blocks.specs.Formed.{Kind, data_block, index_block, all, enough, well_formed, rises}
use Rattle.blocks.proofs.FormedLaws.{as_pair, formed_read, rises_pairs}
use Rattle.blocks.proofs.ReadLaws.{EntryBefore}
use Rattle.table.specs.Checked.{pass}
use Rattle.table.specs.Table.{contents, placed, sealed, block_of, less_of, sorted_in, sorted_at, may_hold, Edge, follows, first_follows, handle_of, data_block_of, data_blocks_of, Opened, opened, full_check, Found, found_in, entries_at, founds_of, read_blocks, plain}
use Rattle.table.proofs.CheckedLaws.{passing, asking, pass_same, or_refuse_pass}

-- a block that is well formed
formed_entries : (t : List ℕ) (h : Handle) (kind : Kind) {es : List Entry} → well_formed kind (contents t h) ≡ some es → (entries_at t h ≡ es) × T (enough kind (pairs_of es))
unfolding entries_at
formed_entries t h kind p = let r = formed_read kind (contents t h) p in (rw (r.reads, entries_at) r.entries, r.holds)

-- a block that passed
pub block_of_lem : (t : List ℕ) (h : Handle) (kind : Kind) {es : List Entry} → block_of t h kind ≡ pass es → (entries_at t h ≡ es) × T (enough kind (pairs_of es))
unfolding block_of
block_of_lem t h kind p = formed_entries t h kind (or_refuse_pass 10 _ p)

-- and one whose entries are sorted
pub sorted_tells : (kind : Kind) (t : List ℕ) (h : Handle) {es : List Entry} → sorted_at kind t h ≡ pass es → (well_formed kind (contents t h) ≡ some es) × T (rises (less_of kind) (pairs_of es))
unfolding sorted_at sorted_in sealed
sorted_tells kind t h p =
    asking _ _ _ p λ intact p.
    passing _ _ p λ c read p.
    asking _ _ _ p λ order p.
    let e = pass_same p in
    (or_refuse_pass 10 _ read ∙ ap some e, rw e at order)

abbrev pairs_in : List ℕ → Entry → List Pair
pairs_in t ix = pairs_of (entries_at t (handle_of ix.value))

-- what the check found of an index entry's block, after what the block before left
pub record BlockStands (t : List ℕ) (f : Option (List ℕ)) (before : Option Edge) (ix : Entry) : Type 0 where
  pub some : T (enough data_block (pairs_in t ix))
  pub follows : T (first_follows before (pairs_in t ix))
  pub rising : T (rises below (pairs_in t ix))
  pub ends : T (not (below ix.key (last_key_of [] (pairs_in t ix))))
  pub may : T (all (λ (p : Pair). may_hold f (handle_of ix.value).offset (user_of p.key)) (pairs_in t ix))

pub block_stands : (t : List ℕ) (f : Option (List ℕ)) (before : Option Edge) (ix : Entry) {ps : List Pair} → data_block_of t f before (as_pair ix) ≡ pass ps → (pairs_in t ix ≡ ps) × BlockStands t f before ix
unfolding data_block_of placed sealed
block_stands t f before ix {ps} p =
    asking _ _ _ p λ inside p.
    asking _ _ _ p λ intact p.
    passing _ _ p λ es read p.
    asking _ _ _ p λ follows p.
    asking _ _ _ p λ rising p.
    asking _ _ _ p λ ends p.
    asking _ _ _ p λ may p.
    let of = block_of_lem t (handle_of ix.value) data_block read in
    let same = ap (λ (l : List Entry). pairs_of l) of.0 in (
      same ∙ pass_same p,
      record { some = rw same of.1; follows = rw same follows; rising = rw same rising; ends = rw same ends; may = rw same may },
    )

-- what a block leaves for the next
unfoldable pub edge_of : List ℕ → Entry → Edge
edge_of t ix = record { index_key = ix.key; last_key = last_key_of [] (pairs_in t ix) }

pub data Standing (t : List ℕ) (f : Option (List ℕ)) : Option Edge → List Entry → Type 0 where
  nil : {p : Option Edge} → Standing t f p []
  cons : {p : Option Edge} {ix : Entry} {ixs : List Entry} → BlockStands t f p ix → Standing t f (some (edge_of t ix)) ixs → Standing t f p (ix ∷ ixs)

pub blocks_stand : (t : List ℕ) (f : Option (List ℕ)) (before : Option Edge) (ixs : List Entry) → data_blocks_of t f before (pairs_of ixs) ≡ pass tt → Standing t f before ixs
unfolding data_blocks_of edge_of
blocks_stand t f before [] p = Standing.nil
blocks_stand t f before (ix ∷ ixs) p =
    passing _ _ p λ ps read p.
    let r = block_stands t f before ix read in
    Standing.cons r.1 (blocks_stand t f (some (edge_of t ix)) ixs (rw r.0 p))

pub index_read : (t : List ℕ) (h : Handle) {es : List Entry} → sorted_at index_block t h ≡ pass es → entries_at t h ≡ es
index_read t h p = (formed_entries t h index_block (sorted_tells index_block t h p).0).0

pub open_reading : (t : List ℕ) (o : Opened) → opened t ≡ pass o → plain t ≡ read_blocks t o.index
unfolding opened plain
open_reading t o p =
    passing _ _ p λ ft foot p.
    passing _ _ p λ m meta p.
    passing _ _ p λ ix index p.
    passing _ _ p λ f filter p.
    let same : entries_at t ft.index ≡ o.index = index_read t ft.index index ∙ ap (λ (x : Opened). x.index) (pass_same p) in
    rw (foot, plain, same)

-- a passed table opens, and its blocks stand
pub opens : (t : List ℕ) → full_check t ≡ pass tt → (o : Opened) × (opened t ≡ pass o)
unfolding full_check
opens t p = passing _ _ p λ o op p. (o, op)

pub stands : (t : List ℕ) (o : Opened) → full_check t ≡ pass tt → opened t ≡ pass o → Standing t o.filter none o.index
unfolding full_check
stands t o p op =
    passing _ _ p λ c cp p.
    let same : c ≡ o = pass_same (sym cp ∙ op) in
    blocks_stand t o.filter none o.index (rw same at p)

-- ---- keys in order

abbrev pub Before : Found → Found → Type 0
Before a b = point_of a.key ≺ point_of b.key

-- a rising block ends in its largest key
pub up_to_last : (e : Entry) (es : List Entry) → Pairs EntryBefore (e ∷ es) → All (λ x. point_of x.key ≼ point_of (last_key_of [] (pairs_of (e ∷ es)))) (e ∷ es)
unfolding last_key_of
up_to_last e [] p = All.cons (≼-self (point_of e.key)) All.nil
up_to_last e (f ∷ es) (Pairs.cons q qs) =
    let up = up_to_last f es qs in All.cons (≺-weak (≺-≼ (all_head q) (all_head up))) up

-- and has an entry of that key
pub last_stands : (e : Entry) (es : List Entry) → (x : Entry) × Memᴰ x (e ∷ es) × (x.key ≡ last_key_of [] (pairs_of (e ∷ es)))
unfolding last_key_of
last_stands e [] = (e, Memᴰ.head refl, refl)
last_stands e (f ∷ es) = let r = last_stands f es in (r.0, Memᴰ.tail r.1, r.2)

-- ---- one block after another

pub record Follows (p : Edge) (k : List ℕ) : Type 0 where
  pub above : point_of p.index_key ≺ point_of k
  pub apart : (by_point (point_of p.index_key) (point_of p.last_key) ≡ Ordering.eq) ⊎ Less by_bytes (user_of p.index_key) (user_of k)

pub follows_tells : (p : Edge) (k : List ℕ) → T (follows (some p) k) → Follows p k
unfolding follows bytes_below below
follows_tells p k t =
    record {
      above = record { is = search (and_l, and_r) };
      apart = ⊎_map (λ s. is_eq_eq (by_point (point_of p.index_key) (point_of p.last_key)) s) (λ s. record { is = s }) (or_cases (compare_is_eq (by_point (point_of p.index_key) (point_of p.last_key))) (bytes_below (user_of p.index_key) (user_of k)) (search (and_l, and_r)));
    }

module _ (t : List ℕ) (f : Option (List ℕ)) where
  -- every key of a block is at most its index key
  within : (es : List Entry) (k : List ℕ) → T (rises below (pairs_of es)) → T (not (below k (last_key_of [] (pairs_of es)))) → All (λ (x : Entry). point_of x.key ≼ point_of k) es
  unfolding below
  within [] k r s = All.nil
  within (e ∷ es) k r s = all_imp (λ x h. ≼_trans h (record { is = s })) (up_to_last e es (rises_pairs (e ∷ es) r))

  -- and above whatever its first is above
  beyond : (p : Edge) (k : Point) (es : List Entry) → k ≼ point_of p.index_key → T (first_follows (some p) (pairs_of es)) → Pairs EntryBefore es → All (λ (x : Entry). k ≺ point_of x.key) es
  unfolding first_follows
  beyond p k (e ∷ es) h s (Pairs.cons q qs) =
      let up : k ≺ point_of e.key = ≼-≺ h (follows_tells p e.key s).above in All.cons up (all_imp (λ x r. ≺-trans up r) q)
  beyond p k [] h s _ = elim s [ ]

  between : {k m : Point} (es : List Entry) → T (enough data_block (pairs_of es)) → All (λ (x : Entry). k ≺ point_of x.key) es → All (λ (x : Entry). point_of x.key ≼ m) es → k ≺ m
  unfolding enough
  between (e ∷ es) s a b = ≺-≼ (all_head a) (all_head b)
  between {k = k} {m = m} [] s a b = elim s [ ]

  block_within : {p : Option Edge} {ix : Entry} → BlockStands t f p ix → All (λ (x : Found). point_of x.key ≼ point_of ix.key) (founds_of t ix)
  unfolding founds_of
  block_within {p} {ix} b = all_map (found_in ix) (within (entries_at t (handle_of ix.value)) ix.key b.rising b.ends)

  block_rising : {p : Option Edge} {ix : Entry} → BlockStands t f p ix → Pairs Before (founds_of t ix)
  unfolding founds_of
  block_rising {p} {ix} b = pairs_map (found_in ix) (rises_pairs (entries_at t (handle_of ix.value)) b.rising)

  -- every later key is above an index key
  later_above : {p : Edge} {k : Point} {ixs : List Entry} → k ≼ point_of p.index_key → Standing t f (some p) ixs → All (λ (x : Found). k ≺ point_of x.key) (read_blocks t ixs)
  unfolding read_blocks founds_of edge_of
  later_above h Standing.nil = All.nil
  later_above {p} {k} h (Standing.cons {ix = ix} b bs) =
      let es : List Entry = entries_at t (handle_of ix.value) in
      let up = beyond p k es h b.follows (rises_pairs es b.rising) in
      all_append (all_map (found_in ix) up) (later_above (≺-weak (between es b.some up (within es ix.key b.rising b.ends))) bs)

  -- the keys of the whole reading rise
  pub reading_rises : {p : Option Edge} {ixs : List Entry} → Standing t f p ixs → Pairs Before (read_blocks t ixs)
  unfolding read_blocks edge_of
  reading_rises Standing.nil = Pairs.nil
  reading_rises (Standing.cons {ix = ix} b bs) =
      let later = later_above {k = point_of ix.key} (≼-self (point_of ix.key)) bs in
      pairs_append (block_rising b) (all_imp (λ x h. all_imp (λ y r. ≼-≺ h r) later) (block_within b)) (reading_rises bs)

-- ---- a block and all that comes after it

pub record Settled (t : List ℕ) (f : Option (List ℕ)) (ix : Entry) (ixs : List Entry) : Type 0 where
  pub some : T (enough data_block (pairs_in t ix))
  pub rising : Pairs Before (founds_of t ix)
  pub within : All (λ (x : Found). point_of x.key ≼ point_of ix.key) (founds_of t ix)
  pub beyond : All (λ (x : Found). point_of ix.key ≺ point_of x.key) (read_blocks t ixs)
  -- the index key is the last key, or its user key is below every later one
  pub apart : ((x : Found) × Memᴰ x (founds_of t ix) × (point_of ix.key ≼ point_of x.key)) ⊎ All (λ (x : Found). Less by_bytes (user_of ix.key) (user_of x.key)) (read_blocks t ixs)
  pub may : All (λ (x : Found). T (may_hold f (handle_of ix.value).offset (user_of x.key))) (founds_of t ix)

pub data Laid (t : List ℕ) (f : Option (List ℕ)) : List Entry → Type 0 where
  nil : Laid t f []
  cons : {ix : Entry} {ixs : List Entry} → Settled t f ix ixs → Laid t f ixs → Laid t f (ix ∷ ixs)

pub all_entries : (g : Pair → Bool) (es : List Entry) → T (all g (pairs_of es)) → All (λ (e : Entry). T (g (as_pair e))) es
unfolding all
all_entries g [] a = All.nil
all_entries g (e ∷ es) a = All.cons (and_l (g (as_pair e)) (all g (pairs_of es)) a) (all_entries g es (and_r (g (as_pair e)) (all g (pairs_of es)) a))

-- the first of rising entries is at most each of them
first_least : {x : Found} {xs : List Found} → Pairs Before (x ∷ xs) → All (λ (y : Found). point_of x.key ≼ point_of y.key) (x ∷ xs)
first_least {x} (Pairs.cons q qs) = All.cons (≼-self (point_of x.key)) (all_imp (λ y r. ≺-weak r) q)

next_apart : (p : Edge) (nx : Entry) (es : List Entry) (rest : List Found) → T (first_follows (some p) (pairs_of es)) → Pairs Before (map (found_in nx) es ++ rest)
    → (by_point (point_of p.index_key) (point_of p.last_key) ≡ Ordering.eq) ⊎ All (λ (x : Found). Less by_bytes (user_of p.index_key) (user_of x.key)) (map (found_in nx) es ++ rest)
unfolding first_follows
next_apart p nx (e ∷ es) rest s q =
    ⊎_map (λ r. r) (λ r. all_imp (λ x h. less_up_to_trans bytes_laws r (≼-word h)) (first_least q)) (follows_tells p e.key s).apart
next_apart p nx [] rest s q = elim s [ ]

at_last : (ix : Entry) (es : List Entry) → T (enough data_block (pairs_of es)) → by_point (point_of ix.key) (point_of (last_key_of [] (pairs_of es))) ≡ Ordering.eq → (x : Found) × Memᴰ x (map (found_in ix) es) × (point_of ix.key ≼ point_of x.key)
unfolding enough
at_last ix (e ∷ es) s h = let r = last_stands e es in (found_in ix r.0, Memᴰ.map (found_in ix) r.1, rw r.2 (same_up_to point_laws h))
at_last ix [] s h = elim s [ ]

block_apart : (t : List ℕ) (f : Option (List ℕ)) (ix : Entry) (ixs : List Entry) → T (enough data_block (pairs_in t ix)) → Standing t f (some (edge_of t ix)) ixs
    → ((x : Found) × Memᴰ x (founds_of t ix) × (point_of ix.key ≼ point_of x.key)) ⊎ All (λ (x : Found). Less by_bytes (user_of ix.key) (user_of x.key)) (read_blocks t ixs)
unfolding read_blocks founds_of edge_of
block_apart t f ix ixs s Standing.nil = inr All.nil
block_apart t f ix ixs s (Standing.cons {ix = nx} {ixs = rest} b bs) =
    ⊎_map (at_last ix (entries_at t (handle_of ix.value)) s) (λ r. r)
    (next_apart (edge_of t ix) nx (entries_at t (handle_of nx.value)) (read_blocks t rest) b.follows (reading_rises t f (Standing.cons b bs)))

pub laid : {t : List ℕ} {f : Option (List ℕ)} {p : Option Edge} {ixs : List Entry} → Standing t f p ixs → Laid t f ixs
unfolding founds_of edge_of
laid Standing.nil = Laid.nil
laid {t} {f} (Standing.cons {ix = ix} {ixs = ixs} b bs) =
    Laid.cons
    (record {
      some = b.some;
      rising = block_rising t f b;
      within = block_within t f b;
      beyond = later_above t f (≼-self (point_of ix.key)) bs;
      apart = block_apart t f ix ixs b.some bs;
      may = all_map (found_in ix) (all_entries (λ (p : Pair). may_hold f (handle_of ix.value).offset (user_of p.key)) (entries_at t (handle_of ix.value)) b.may);
    })
    (laid bs)
