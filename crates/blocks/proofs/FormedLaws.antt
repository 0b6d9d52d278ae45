-- A well-formed block: what it says of its entries, and when it is one.
use Prim.Native.Nat.{ℕ}
use mathlib.Core.Path.{◌≡◌, refl, ap}
use mathlib.Core.List.{List, [], ◌∷◌, ◌++◌}
use mathlib.Core.Bool.{Bool, true, ◌&&◌}
use mathlib.Core.Option.{some, some_inj}
use lib.Dec.{T, leb}
use lib.ListN.{length}
use Rattle.codec.proofs.Lists.{All, Pairs, all_imp}
use Rattle.codec.proofs.Prelude.{both, true_is, and_l, and_r, and_i}
use Rattle.codec.proofs.MaybeLaws.{getting, giving, gets, gives}
use Rattle.keys.specs.Order.{point_of, below}
use Rattle.keys.proofs.OrderLaws.{◌≺◌, ≺-trans}
use Rattle.blocks.specs.Block.{Pair, last_key_of, Entry, pairs_of, Block, block}
use Rattle.codec.specs.Limits.{within}
use Rattle.blocks.specs.Formed.{Kind, data_block, index_block, meta_block, entry_fits, all, enough, well_formed, rises}
use Rattle.blocks.specs.Search.{readable}
use Rattle.blocks.proofs.ReadLaws.{EntryBefore}

-- the key and the value of an entry
abbrev pub as_pair : Entry → Pair
as_pair e = record { key = e.key; value = e.value }

pub record FormedRead (kind : Kind) (s : List ℕ) (es : List Entry) : Type 0 where
  pub whole : Block
  pub reads : block s ≡ some whole
  pub entries : whole.entries ≡ es
  pub holds : T (enough kind (pairs_of es))
  pub fits : T (all (entry_fits kind) (pairs_of es))

pub formed_read : (kind : Kind) (s : List ℕ) {es : List Entry} → well_formed kind s ≡ some es → FormedRead kind s es
unfolding well_formed
formed_read kind s {es} p =
    getting _ _ p λ b reads p.
    giving _ _ p λ holds p.
    giving _ _ p λ fits p.
    let same = some_inj.0 p in
    record { whole = b; reads = reads; entries = same; holds = rw same at holds; fits = rw same at fits }

pub formed_some : (kind : Kind) (s : List ℕ) (b : Block) → block s ≡ some b → enough kind (pairs_of b.entries) ≡ true
    → all (entry_fits kind) (pairs_of b.entries) ≡ true → well_formed kind s ≡ some b.entries
unfolding well_formed
formed_some kind s b e h f = gets _ _ e (gives _ _ (true_is h) (gives _ _ (true_is f) refl))

-- ---- it can be read: its keys have at most 1,032 bytes

within_most : (least n : ℕ) (r : Bool) → T (within least 1032 n && r) → T (leb n 1032)
unfolding within
within_most least n r t = and_r (leb least n) (leb n 1032) (and_l (leb least n && leb n 1032) r t)

fit_short : (kind : Kind) (p : Pair) → T (entry_fits kind p) → T (leb (length p.key) 1032)
unfolding entry_fits
fit_short data_block p t = within_most 9 (length p.key) _ t
fit_short index_block p t = within_most 9 (length p.key) _ t
fit_short meta_block p t = within_most 1 (length p.key) _ t

all_short : (kind : Kind) (ps : List Pair) → T (all (entry_fits kind) ps) → T (all (λ (p : Pair). leb (length p.key) 1032) ps)
unfolding all
all_short kind [] t = tt
all_short kind (p ∷ ps) t = and_i (leb (length p.key) 1032) _ (fit_short kind p (and_l (entry_fits kind p) _ t)) (all_short kind ps (and_r (entry_fits kind p) _ t))

pub formed_readable : (kind : Kind) (s : List ℕ) {es : List Entry} → well_formed kind s ≡ some es → readable s ≡ some es
unfolding readable
formed_readable kind s {es} p =
    let r = formed_read kind s p in
    gets _ _ r.reads (gives _ _ (rw r.entries (all_short kind (pairs_of es) r.fits)) (ap some r.entries))

-- ---- the tests, one entry more at a time

pub all_more : (f : Pair → Bool) (ps : List Pair) (q : Pair) → all f ps ≡ true → f q ≡ true → all f (ps ++ (q ∷ [])) ≡ true
unfolding all
all_more f [] q h e = rw e
all_more f (p ∷ ps) q h e = let (h1, h2) = both (f p) (all f ps) h in rw h1 (all_more f ps q h2 e)

pub rises_more : (less : List ℕ → List ℕ → Bool) (p : Pair) (ps : List Pair) (q : Pair) → rises less (p ∷ ps) ≡ true
    → less (last_key_of [] (p ∷ ps)) q.key ≡ true → rises less ((p ∷ ps) ++ (q ∷ [])) ≡ true
unfolding rises last_key_of
rises_more less p [] q h e = rw e
rises_more less p (r ∷ ps) q h e = let (h1, h2) = both (less p.key r.key) (rises less (r ∷ ps)) h in rw h1 (rises_more less r ps q h2 e)

-- entries that rise are in order, each before all that come after it
pub rises_pairs : (es : List Entry) → T (rises below (pairs_of es)) → Pairs EntryBefore es
unfolding rises below
rises_pairs [] r = Pairs.nil
rises_pairs (a ∷ []) r = Pairs.cons All.nil Pairs.nil
rises_pairs (a ∷ b ∷ es) r =
    step (record { is = and_l (below a.key b.key) (rises below (pairs_of (b ∷ es))) r }) (rises_pairs (b ∷ es) (and_r (below a.key b.key) (rises below (pairs_of (b ∷ es))) r))
  where
    step : point_of a.key ≺ point_of b.key → Pairs EntryBefore (b ∷ es) → Pairs EntryBefore (a ∷ b ∷ es)
    step h (Pairs.cons q qs) = Pairs.cons (All.cons h (all_imp (λ x s. ≺-trans h s) q)) (Pairs.cons q qs)
