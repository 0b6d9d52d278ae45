-- The keys of a block, one entry at a time: that they rise, and that a filter lets them through.
use Prim.Native.Nat.{ℕ, ◌<◌}
use mathlib.Core.Path.{◌≡◌, refl, sym, ap, ◌∙◌}
use mathlib.Core.Bool.{Bool, true, false, ◌&&◌, ◌||◌, not, false≢true}
use mathlib.Core.List.{List, [], ◌∷◌}
use mathlib.Core.Option.{Option, none, some}
use Rattle.std.specs.Prelude as code
use Rattle.std.specs.Prelude.{Some, None}
use Rattle.std.specs.Option.{is_some, unwrap_or}
use native.Mathlib.Omega.{arith}
use lib.Dec.{eqb, compare_is_eq}
use lib.ListN.{length}
use borrow.Author.Tests.{ne_eqb}
use Rattle.codec.specs.Answers.{given}
use Rattle.codec.specs.Varint.{Handle, one_handle}
use Rattle.codec.proofs.Prelude.{split}
use Rattle.keys.specs.Order.{user_of, point_of, by_point, bytes_below, below}
use Rattle.block_reader.specs.declared.block.Kind.TheVariants as KindCase
use Rattle.blocks.specs.Block.{Pair, Entry, last_key_of, pairs_of}
use Rattle.blocks.specs.Formed.{Kind, all, rises}
use Rattle.block_reader.specs.Said.{kind_of}
use Rattle.block_reader.specs.Steps.{read_from, TakenAt}
use Rattle.block_reader.proofs.WalkLaws.{read_end, no_read, taken_first}
use Rattle.filters.specs.Filter.{hash}
use Rattle.filters.specs.FilterBlock.{may_match}
use Rattle.table.specs.Table.{Edge, follows, first_follows, handle_of, less_of}
use Rattle.block_reader.specs.declared.block.EntryRead.{EntryRead}
use Rattle.full_check.specs.declared.check.Edge as Declared
use Rattle.full_check.specs.Steps.{after, rises_from, Tested, kept, edge_of, ordered, lets}

-- ---- one key after another

module _ (kind : Kind) (at : ℕ) (a b : List ℕ) where
  pub after_stops : 0 < at → less_of kind a b ≡ false → after kind (eqb at 0) a b ≡ false
  unfolding after
  after_stops up f = rw (ne_eqb at 0 (λ z. omega arith), f)

  pub after_first : at ≡ 0 → after kind (eqb at 0) a b ≡ true
  unfolding after
  after_first z = rw z

  pub after_less : less_of kind a b ≡ true → after kind (eqb at 0) a b ≡ true
  unfolding after
  after_less f = rw f (go (eqb at 0))
    where
      go : (b : Bool) → (b || true) ≡ true
      go true = refl
      go false = refl

-- ---- tests

-- what a test comes to, with the last key, is the answer on it
pub tested : (test : List Pair → Bool) (d : List ℕ) (r : Bool) {k : List ℕ}
    → ((es : List Entry) → read_from d 0 [] ≡ some es → (test (pairs_of es) ≡ r) × (last_key_of [] (pairs_of es) ≡ k)) → Tested test d (kept r k)
tested test d true h = h
tested test d false h = λ es read. (h es read).0

-- ---- keys that rise

rises_after : (kind : Kind) (p : Pair) (ps : List Pair) → rises (less_of kind) (p ∷ ps) ≡ rises_from kind false p.key ps
unfolding rises rises_from after
rises_after kind p [] = refl
rises_after kind p (q ∷ ps) = ap (λ (b : Bool). less_of kind p.key q.key && b) (rises_after kind q ps)

rises_first : (kind : Kind) (k : List ℕ) (ps : List Pair) → rises (less_of kind) ps ≡ rises_from kind true k ps
unfolding rises rises_from after
rises_first kind k [] = refl
rises_first kind k (p ∷ ps) = rises_after kind p ps

-- what is left of the test, from a place on and behind a key, comes to the whole; and so does the last key
abbrev pub RisesLeft : Kind → ℕ → List ℕ → List Entry → List Entry → Type 0
RisesLeft kind at k es rest =
    (rises (less_of kind) (pairs_of es) ≡ rises_from kind (eqb at 0) k (pairs_of rest)) × (last_key_of [] (pairs_of es) ≡ last_key_of k (pairs_of rest))

pub rises_start : (kind : Kind) (es : List Entry) → RisesLeft kind 0 [] es es
rises_start kind es = (rises_first kind [] (pairs_of es), refl)

pub rises_end : (kind : Kind) (at : ℕ) (k : List ℕ) (es : List Entry) → RisesLeft kind at k es [] → (rises (less_of kind) (pairs_of es) ≡ true) × (last_key_of [] (pairs_of es) ≡ k)
unfolding rises_from last_key_of
rises_end kind at k es l = l

module _ (kind : Kind) (at : ℕ) (k : List ℕ) (e : Entry) (es rest : List Entry) (l : RisesLeft kind at k es (e ∷ rest)) where
  pub rises_more : (next : ℕ) {k' : List ℕ} → after kind (eqb at 0) k e.key ≡ true → at < next → k' ≡ e.key → RisesLeft kind next k' es rest
  unfolding rises_from last_key_of
  rises_more next f up is = rw (ne_eqb next 0 (λ z. omega arith), is) ((l.0 ∙ rw f), l.1)

  pub rises_stop : after kind (eqb at 0) k e.key ≡ false → rises (less_of kind) (pairs_of es) ≡ false
  unfolding rises_from
  rises_stop f = l.0 ∙ rw f

-- ---- keys that a filter lets through

module _ (s : List ℕ) (offset : ℕ) where
  pub held_end : true ≡ all (lets s offset) (pairs_of [])
  unfolding all
  held_end = refl

  pub held_next : (e : Entry) (rest : List Entry) (r : Bool) → may_match s offset (hash (user_of e.key)) ≡ r → all (lets s offset) (pairs_of (e ∷ rest)) ≡ r && all (lets s offset) (pairs_of rest)
  unfolding all lets
  held_next e rest r f = rw f

-- ---- a block after the one before it

-- its index key and its last key as the code lends them
pub follows_is : (e : Declared.Edge) (k : List ℕ) {i l : List ℕ} → i ≡ e.index_key → l ≡ e.last_key
    → follows (edge_of (Some e)) k ≡ below l k && (below i k && (compare_is_eq (by_point (point_of i) (point_of l)) || bytes_below (user_of i) (user_of k)))
unfolding edge_of follows
follows_is e k p q = rw (p, q)

-- its first entry
module _ (before : Option Edge) (d : List ℕ) (es : List Entry) (read : read_from d 0 [] ≡ some es) where
  pub first_none : (o : code.Option EntryRead) (key : List ℕ) → TakenAt d 0 [] o key → is_some o ≡ false → false ≡ first_follows before (pairs_of es)
  unfolding first_follows
  first_none None key t f =
      split 0 (length d)
      (λ inside. absurd (no_read d 0 [] inside t.0 es read))
      (λ empty. rw (read_end d 0 [] read (omega arith)))
  first_none (Some e) key t f = absurd (false≢true (sym f))

  pub first_some : (o : code.Option EntryRead) (key : List ℕ) → TakenAt d 0 [] o key → is_some o ≡ true → follows before key ≡ first_follows before (pairs_of es)
  unfolding first_follows
  first_some None key t f = absurd (false≢true f)
  first_some (Some e) key t f = let x = taken_first t es read in rw (x.is, t.key)

module _ (before : Option Edge) (ix : List ℕ) (ps : List Pair) where
  pub ordered_first : first_follows before ps ≡ false → ordered before ix ps ≡ false
  unfolding ordered
  ordered_first a = rw a

  module _ (a : first_follows before ps ≡ true) where
    pub ordered_falls : rises (less_of (kind_of KindCase.Data)) ps ≡ false → ordered before ix ps ≡ false
    unfolding ordered less_of kind_of
    ordered_falls b = rw (a, b)

    module _ (b : rises (less_of (kind_of KindCase.Data)) ps ≡ true) {k : List ℕ} (l : last_key_of [] ps ≡ k) where
      pub ordered_last : (r : Bool) → below ix k ≡ r → ordered before ix ps ≡ not r
      unfolding ordered less_of kind_of
      ordered_last r e = rw (a, b, l, e)

-- ---- an index value

pub handle_lem : (s : List ℕ) → unwrap_or (given (one_handle s)) (record { offset = 0; size = 0 }) ≡ handle_of s
unfolding handle_of given
handle_lem s = go (one_handle s)
  where
    go : (o : Option Handle) → unwrap_or (given o) (record { offset = 0; size = 0 }) ≡ elim o [ none ↦ record { offset = 0; size = 0 } | some h ↦ h ]
    go none = refl
    go (some h) = refl
