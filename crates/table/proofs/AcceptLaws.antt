-- What is accepted comes to good chunks; so a finished table passes, and reads plainly as its additions.
use Prim.Native.Nat.{ℕ, ◌^◌, ◌≤◌, ◌<◌}
use mathlib.Core.Path.{◌≡◌, refl, sym, ap, ◌∙◌}
use mathlib.Core.Logic.{◌⊎◌, inl, inr}
use mathlib.Core.List.{List, [], ◌∷◌, ◌++◌, map, map-append, append_assoc, append-nil}
use mathlib.Core.Bool.{true, false, ◌&&◌, ◌||◌, false≢true, or-true}
use mathlib.Core.Option.{Option, none, some}
use native.Mathlib.Omega.{arith}
use native.Mathlib.Nat.{le_trans}
use lib.Dec.{ltb, leb, compare_is_eq}
use lib.ListN.{length, length-append}
use borrow.Author.Tests.{le-leb, ltb-true, leb-true}
use Rattle.codec.proofs.Lists.{All, all_append}
use Rattle.codec.proofs.Prelude.{test, both, is_true, true_is, apart}
use Rattle.keys.specs.Order.{by_bytes, bytes_below, user_of, internal, point_of, by_point, below, separator}
use Rattle.keys.proofs.OrderLaws.{Less, point_same, below_less, less_below, up_to_not_below, below_le, below_trans, below_itself}
use Rattle.keys.proofs.KeyLaws.{internal_length}
use Rattle.keys.proofs.SeparatorLaws.{Separates, separates, separator_length}
use Rattle.blocks.specs.Block.{Pair, last_key_of}
use Rattle.codec.specs.Limits.{within}
use Rattle.blocks.specs.Formed.{data_block, entry_fits, all, enough, rises}
use Rattle.blocks.proofs.FormedLaws.{all_more, rises_more}
use Rattle.blocks.proofs.BuildLaws.{none_long}
use Rattle.table.specs.Checked.{Checked, pass, refuse, ◌>>=◌}
use Rattle.table.specs.Options.{Options, filtering_fits, Addition, addition_fits, options_fit, table_limit}
use Rattle.table.specs.Table
use Rattle.table.specs.Table.{Edge}
use Rattle.table.specs.Build.{Chunk, Building, key_of, pair_of, chunk_bytes, end_of, index_pairs, table, begin, last_key, close, close_before, add, close_last, finish, above, accept, accept_all}
use Rattle.table.specs.Promise.{round_trip, same_bytes_same_additions}
use Rattle.table.proofs.CheckedLaws.{passing, asking, pass_same}
use Rattle.table.proofs.StandLaws.{follows_tells}
use Rattle.table.proofs.StepLaws.{empty_small, last_none, last_some}
use Rattle.table.proofs.PlainLaws.{Fit, ChunksFit, all_of, table_plain}
use Rattle.table.proofs.LetsLaws.{pairs}
use Rattle.table.proofs.CheckLaws.{edge, GoodChunk, Good, table_passes}

-- ---- the index of good chunks rises
below_last : (k : List ℕ) (p : Pair) (ps : List Pair) → below k p.key ≡ true → rises below (p ∷ ps) ≡ true
    → below k (last_key_of [] (p ∷ ps)) ≡ true
unfolding rises last_key_of
below_last k p [] h r = h
below_last k p (q ∷ ps) h r = let (r1, r2) = both (below p.key q.key) (rises below (q ∷ ps)) r in below_last k q ps (below_trans k p.key q.key h r1) r2

edge_below : (e : Edge) (c : Chunk) → GoodChunk (some e) c → below e.index_key c.key ≡ true
unfolding Table.first_follows
edge_below e c g = go (pairs c) g.follows g.rising g.indexed
  where
    go : (ps : List Pair) → Table.first_follows (some e) ps ≡ true → rises below ps ≡ true → below c.key (last_key_of [] ps) ≡ false
        → below e.index_key c.key ≡ true
    go [] f r i = absurd (false≢true f)
    go (p ∷ ps) f r i =
        below_le e.index_key (last_key_of [] (p ∷ ps)) c.key (below_last e.index_key p ps (less_below e.index_key p.key (follows_tells e p.key (true_is f)).above) r) i

index_rises : (o : Options) (before : Option Edge) (at : ℕ) (cs : List Chunk) → Good before cs → rises below (index_pairs o at cs) ≡ true
unfolding index_pairs rises
index_rises o before at [] g = refl
index_rises o before at (c ∷ []) g = refl
index_rises o before at (c ∷ d ∷ cs) g = rw (edge_below (edge c) d g.1.0) (index_rises o (some (edge c)) (end_of o at c) (d ∷ cs) g.1)

-- ---- one more chunk
abbrev pub last_edge : Option Edge → List Chunk → Option Edge
last_edge before [] = before
last_edge before (c ∷ cs) = last_edge (some (edge c)) cs

good_snoc : (before : Option Edge) (cs : List Chunk) (c : Chunk) → Good before cs → GoodChunk (last_edge before cs) c → Good before (cs ++ (c ∷ []))
good_snoc before [] c g h = (h, tt)
good_snoc before (d ∷ cs) c g h = (g.0, good_snoc (some (edge d)) cs c g.1 h)

edge_snoc : (before : Option Edge) (cs : List Chunk) (c : Chunk) → last_edge before (cs ++ (c ∷ [])) ≡ some (edge c)
edge_snoc before [] c = refl
edge_snoc before (d ∷ cs) c = edge_snoc (some (edge d)) cs c

all_snoc : (cs : List Chunk) (c : Chunk) → all_of (cs ++ (c ∷ [])) ≡ all_of cs ++ c.additions
unfolding all_of
all_snoc [] c = append-nil c.additions
all_snoc (d ∷ cs) c = rw (all_snoc cs c) (simp append_assoc)

-- ---- what the limits say

pub within_parts : (lo hi x : ℕ) → within lo hi x ≡ true → (lo ≤ x) × (x ≤ hi)
unfolding within
within_parts lo hi x h = let (p, q) = both (leb lo x) (leb x hi) h in (leb-true lo x p, leb-true x hi q)

within_is : (lo hi x : ℕ) → lo ≤ x → x ≤ hi → within lo hi x ≡ true
unfolding within
within_is lo hi x p q = rw (le-leb lo x p, le-leb x hi q)

pub record FitParts (a : Addition) : Type 0 where
  pub low : 1 ≤ length a.word
  pub high : length a.word ≤ 1024
  pub value : length a.value ≤ 32768
  edition : a.edition < 2 ^ 56
  kind : a.kind ≤ 1

pub fit_parts : (a : Addition) → addition_fits a ≡ true → FitParts a
unfolding addition_fits
fit_parts a h =
    let (w, r) = both (within 1 1024 (length a.word)) _ h in
    let (v, r2) = both (leb (length a.value) 32768) _ r in
    let (e, k) = both (ltb a.edition (2 ^ 56)) _ r2 in
    let word = within_parts 1 1024 (length a.word) w in
    record { low = word.0; high = word.1; value = leb-true _ 32768 v; edition = ltb-true _ (2 ^ 56) e; kind = leb-true _ 1 k }

pub record OptionParts (o : Options) : Type 0 where
  pub least : 1 ≤ o.interval
  pub most : o.interval ≤ 1024
  pub size : 8 ≤ o.block_size
  pub filtering : filtering_fits o.filtering ≡ true

pub option_parts : (o : Options) → options_fit o ≡ true → OptionParts o
unfolding options_fit
option_parts o h =
    let (i, r) = both (within 1 1024 o.interval) _ h in
    let (b, f) = both (within 8 65536 o.block_size) _ r in
    let interval = within_parts 1 1024 o.interval i in
    record { least = interval.0; most = interval.1; size = (within_parts 8 65536 o.block_size b).0; filtering = f }

-- ---- one more addition

addition_entry : (a : Addition) → addition_fits a ≡ true → (entry_fits data_block) (pair_of a) ≡ true
unfolding entry_fits pair_of key_of
addition_entry a h =
    let p = fit_parts a h in
    let l = internal_length a.word a.edition a.kind in
    rw (within_is 9 1032 (length (internal a.word a.edition a.kind)) (omega (arith, p.low)) (omega (arith, p.high)), le-leb (length a.value) 32768 p.value)

addition_fit : (a : Addition) → addition_fits a ≡ true → Fit a
addition_fit a h = let p = fit_parts a h in record { edition = p.edition; kind = omega (arith, p.kind) }

pub record Open (before : Option Edge) (xs : List Addition) : Type 0 where
  pub fit : all (entry_fits data_block) (map pair_of xs) ≡ true
  follows : 0 < length xs → Table.first_follows before (map pair_of xs) ≡ true
  pub rising : rises below (map pair_of xs) ≡ true
  small : All Fit xs

open_none : (before : Option Edge) → Open before []
unfolding all rises
open_none before = record { fit = refl; follows = λ l. absurd (omega arith); rising = refl; small = All.nil }

open_more : (before : Option Edge) (xs : List Addition) (a : Addition) → Open before xs → addition_fits a ≡ true → above a xs ≡ true
    → (length xs ≡ 0 → Table.first_follows before (pair_of a ∷ []) ≡ true) → Open before (xs ++ (a ∷ []))
unfolding above last_key all rises Table.first_follows pair_of
open_more before [] a o fits up first =
    record { fit = rw (addition_entry a fits); follows = λ l. first refl; rising = refl; small = All.cons (addition_fit a fits) All.nil }
open_more before (x ∷ xs) a o fits up first =
    record {
      fit = rw (map-append pair_of xs (a ∷ [])) (all_more (entry_fits data_block) (map pair_of (x ∷ xs)) (pair_of a) o.fit (addition_entry a fits));
      follows = λ l. o.follows (omega arith);
      rising = rw (map-append pair_of xs (a ∷ [])) (rises_more below (pair_of x) (map pair_of xs) (pair_of a) o.rising up);
      small = all_append o.small (All.cons (addition_fit a fits) All.nil);
    }

-- ---- a chunk closed: before an addition, and at the end
non_empty_lem : (xs : List Addition) → 0 < length xs → enough data_block (map pair_of xs) ≡ true
unfolding enough
non_empty_lem [] l = absurd (omega arith)
non_empty_lem (x ∷ xs) l = refl

close_good : (before : Option Edge) (xs : List Addition) (key : List ℕ) → Open before xs → 0 < length xs → below key (last_key xs) ≡ false
    → within 9 1032 (length key) ≡ true → GoodChunk before (record { additions = xs; key = key })
unfolding last_key
close_good before xs key o l i w =
    record {
      fit = o.fit;
      non_empty = non_empty_lem xs l;
      follows = o.follows l;
      rising = o.rising;
      indexed = i;
      key_fits = w;
    }

-- the first addition after a chunk
follows_sep : (xs : List Addition) (key : List ℕ) (a : Addition) → below (last_key xs) (key_of a) ≡ true → Separates (last_key xs) (key_of a) key
    → Table.first_follows (some (edge (record { additions = xs; key = key }))) (pair_of a ∷ []) ≡ true
unfolding Table.first_follows Table.follows last_key pair_of bytes_below
follows_sep xs key a h s = rw (h, less_below key (key_of a) s.to) (go s.apart)
  where
    go : (key ≡ last_key_of [] (map pair_of xs)) ⊎ Less by_bytes (user_of key) (user_of (key_of a))
        → compare_is_eq (by_point (point_of key) (point_of (last_key_of [] (map pair_of xs)))) || bytes_below (user_of key) (user_of (key_of a)) ≡ true
    go (inl e) = rw (e, point_same (point_of (last_key_of [] (map pair_of xs))))
    go (inr e) = rw (is_true (bytes_below (user_of key) (user_of (key_of a))) e.is) (simp or-true)

-- what holds of a table while additions are accepted
pub record Inv (b : Building) (done : List Addition) : Type 0 where
  pub closed_good : Good none b.closed
  closed_fit : ChunksFit b.closed
  pub is_open : Open (last_edge none b.closed) b.open_block
  start : length b.open_block ≡ 0 → b.closed ≡ []
  all_done : all_of b.closed ++ b.open_block ≡ done

pub inv_begin : Inv begin []
unfolding begin all_of
inv_begin = record { closed_good = tt; closed_fit = All.nil; is_open = open_none none; start = λ e. refl; all_done = refl }

-- an empty block is 8 bytes
empty_length : (o : Options) → length (chunk_bytes o []) ≡ 8
unfolding chunk_bytes
empty_length o = none_long o.interval

sep_length : (a b : List ℕ) → within 9 1032 (length a) ≡ true → within 9 1032 (length (separator a b)) ≡ true
sep_length a b h =
    let w = within_parts 9 1032 (length a) h in
    let l = separator_length a b w.0 w.1 in
    within_is 9 1032 (length (separator a b)) l.0 l.1

last_fit : (p : Pair) (ps : List Pair) → all (entry_fits data_block) (p ∷ ps) ≡ true → within 9 1032 (length (last_key_of [] (p ∷ ps))) ≡ true
unfolding all last_key_of entry_fits
last_fit p [] h =
    let w = within 9 1032 (length p.key) in
    let v = leb (length p.value) 32768 in
    (both w v (both (w && v) true h).0).0
last_fit p (q ∷ ps) h = last_fit q ps (both ((entry_fits data_block) p) (all (entry_fits data_block) (q ∷ ps)) h).1

-- what holds of additions that are some
last_key_fits : (xs : List Addition) → 0 < length xs → all (entry_fits data_block) (map pair_of xs) ≡ true → within 9 1032 (length (last_key xs)) ≡ true
unfolding last_key
last_key_fits [] l h = absurd (omega arith)
last_key_fits (x ∷ xs) l h = last_fit (pair_of x) (map pair_of xs) h

above_below : (a : Addition) (xs : List Addition) → 0 < length xs → above a xs ≡ true → below (last_key xs) (key_of a) ≡ true
unfolding above
above_below a [] l h = absurd (omega arith)
above_below a (x ∷ xs) l h = h

above_none : (a : Addition) → above a [] ≡ true
unfolding above
above_none a = refl

open_some : (o : Options) (xs : List Addition) → 8 ≤ o.block_size → o.block_size < length (chunk_bytes o xs) → 0 < length xs
open_some o [] r h = absurd (omega (arith, empty_length o))
open_some o (x ∷ xs) r h = omega arith

none_to_follow : (cs : List Chunk) (a : Addition) → cs ≡ [] → Table.first_follows (last_edge none cs) (pair_of a ∷ []) ≡ true
unfolding Table.first_follows Table.follows
none_to_follow [] a e = refl
none_to_follow (c ∷ cs) a e = apart cc

module _ (o : Options) (room_for_empty : 8 ≤ o.block_size) where
  add_inv : (b : Building) (done : List Addition) (a : Addition) → Inv b done → addition_fits a ≡ true → above a b.open_block ≡ true
      → Inv (add o b a) (done ++ (a ∷ []))
  unfolding add close_before close
  add_inv b done a i fits up =
      let xs = b.open_block in
      let cs = b.closed in
      let key = separator (last_key xs) (key_of a) in
      let c : Chunk = record { additions = xs; key = key } in
      test (ltb o.block_size (length (chunk_bytes o xs)))
      (λ t.
      let full : 0 < length xs = open_some o xs room_for_empty (ltb-true o.block_size (length (chunk_bytes o xs)) t) in
      let less = above_below a xs full up in
      let sep = separates (last_key xs) (key_of a) (below_less (last_key xs) (key_of a) less) in
      let good : GoodChunk (last_edge none cs) c =
      close_good (last_edge none cs) xs key i.is_open full (up_to_not_below (last_key xs) key sep.from) (sep_length (last_key xs) (key_of a) (last_key_fits xs full i.is_open.fit)) in
      rw (close_before, t) (record {
        closed_good = good_snoc none cs c i.closed_good good;
        closed_fit = all_append i.closed_fit (All.cons i.is_open.small All.nil);
        is_open = rw (edge_snoc none cs c) (open_more (some (edge c)) [] a (open_none (some (edge c))) fits (above_none a) (λ e. follows_sep xs key a less sep));
        start = λ e. absurd (omega arith);
        all_done = rw (all_snoc cs c, i.all_done);
      }))
      (λ t. rw (close_before, t) (record {
        closed_good = i.closed_good;
        closed_fit = i.closed_fit;
        is_open = open_more (last_edge none cs) xs a i.is_open fits up (λ e. none_to_follow cs a (i.start e));
        start = λ e. absurd (omega (arith, length-append xs (a ∷ [])));
        all_done = rw (← i.all_done) (simp append_assoc);
      }))

record Finished (b : Building) (done : List Addition) : Type 0 where
  good : Good none (close_last b).closed
  fit : ChunksFit (close_last b).closed
  all : all_of (close_last b).closed ≡ done

finished : (b : Building) (done : List Addition) → Inv b done → Finished b done
unfolding close
finished b done i = go b.open_block refl
  where
    go : (xs : List Addition) → b.open_block ≡ xs → Finished b done
    go [] e =
        record {
          good = rw (last_none b e) i.closed_good;
          fit = rw (last_none b e) i.closed_fit;
          all = rw (last_none b e) (sym (append-nil (all_of b.closed)) ∙ ap (λ (l : List Addition). all_of b.closed ++ l) (sym e) ∙ i.all_done);
        }
    go (x ∷ xs) e =
        let c : Chunk = record { additions = b.open_block; key = last_key b.open_block } in
        let full : 0 < length b.open_block = omega (arith, ap (λ (l : List Addition). length l) e) in
        let good : GoodChunk (last_edge none b.closed) c =
        close_good (last_edge none b.closed) b.open_block (last_key b.open_block) i.is_open full (below_itself (last_key b.open_block))
        (last_key_fits b.open_block full i.is_open.fit) in
        record {
          good = rw (last_some b x xs e) (good_snoc none b.closed c i.closed_good good);
          fit = rw (last_some b x xs e) (all_append i.closed_fit (All.cons i.is_open.small All.nil));
          all = rw (last_some b x xs e, all_snoc b.closed c) i.all_done;
        }

-- ---- what was accepted
pub record Took (o : Options) (room : ℕ) (b : Building) (a : Addition) (c : Building) : Type 0 where
  pub fits : addition_fits a ≡ true
  pub up : above a b.open_block ≡ true
  pub small : length (finish o (add o b a)) ≤ room
  pub is : add o b a ≡ c

pub took : (o : Options) (room : ℕ) (b : Building) (a : Addition) (c : Building) → accept o room b a ≡ pass c → Took o room b a c
unfolding accept
took o room b a c e =
    asking 3 _ _ e λ f e.
    asking 4 _ _ e λ u e.
    asking 5 _ _ e λ s e.
    record { fits = is_true _ f; up = is_true _ u; small = leb-true _ _ (is_true _ s); is = pass_same e }

-- where the table was within a limit, and the room is
module _ (o : Options) (room limit : ℕ) (room_for_empty : 8 ≤ o.block_size) (most : room ≤ limit) where
  pub accepted : (b : Building) (done more : List Addition) (c : Building) → Inv b done → length (finish o b) ≤ limit → accept_all o room b more ≡ pass c
      → Inv c (done ++ more) × (length (finish o c) ≤ limit)
  unfolding accept_all
  accepted b done [] c i s e = let q : b ≡ c = pass_same e in (rw (append-nil, ← q) i, rw (← q) s)
  accepted b done (a ∷ more) c i s e =
      passing _ _ e λ d t e1.
      let k = took o room b a d t in
      let here : Inv d (done ++ (a ∷ [])) = rw k.is at (add_inv o room_for_empty b done a i k.fits k.up) in
      let size : length (finish o d) ≤ limit = rw k.is at (le_trans k.small most) in
      rw append_assoc at (accepted d (done ++ (a ∷ [])) more c here size e1)

-- one addition more
pub accept_last : (o : Options) (room : ℕ) (b : Building) (more : List Addition) (a : Addition) (c : Building) → accept_all o room b more ≡ pass c
    → accept_all o room b (more ++ (a ∷ [])) ≡ accept o room c a
unfolding accept_all ◌>>=◌
accept_last o room b [] a c e = let q : b ≡ c = pass_same e in rw q (go (accept o room c a))
  where
    go : (m : Checked Building) → m >>= (λ d. accept_all o room d []) ≡ m
    go (pass d) = refl
    go (refuse n) = refl
accept_last o room b (x ∷ more) a c e = passing (accept o room b x) _ e λ k t e. rw t (accept_last o room k more a c e)

pub accept_more : (o : Options) (room : ℕ) (b : Building) (more : List Addition) (a : Addition) (c d : Building) → accept_all o room b more ≡ pass c → accept o room c a ≡ pass d
    → accept_all o room b (more ++ (a ∷ [])) ≡ pass d
accept_more o room b more a c d e f = accept_last o room b more a c e ∙ f

-- ---- the promise
pub begin_is : (o : Options) → finish o begin ≡ table o []
unfolding finish close_last begin
begin_is o = refl

pub round_trip_lem : round_trip
unfolding finish
round_trip_lem o room more t u =
    let b = u.last in
    let a = accepted o room table_limit (option_parts o (is_true (options_fit o) u.fits)).size u.limited begin [] more b inv_begin (rw begin_is (empty_small o)) u.accepts in
    let f = finished b more a.0 in
    let cs = (close_last b).closed in
    rw (← u.finishes) (
      table_passes o cs a.1 f.good (index_rises o none 0 cs f.good),
      table_plain o cs a.1 f.fit ∙ f.all,
    )

pub same_bytes_same_additions_lem : same_bytes_same_additions
same_bytes_same_additions_lem o o' room room' more more' t u u' =
    sym (round_trip_lem o room more t u).1 ∙ (round_trip_lem o' room' more' t u').1
