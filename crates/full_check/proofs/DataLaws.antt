-- One data block and all of them, by the outcome of each test.
use Prim.Native.Nat.{ℕ, ◌<◌}
use mathlib.Core.Path.{◌≡◌, refl, sym, ap, ◌∙◌}
use mathlib.Core.Bool.{true, false}
use mathlib.Core.List.{List, [], ◌∷◌}
use mathlib.Core.Option.{Option, none, some}
use native.Mathlib.Omega.{arith}
use Rattle.std.specs.Prelude.{Ok, Err, None, Some}
use Rattle.codec.specs.Varint.{Handle}
use Rattle.codec.proofs.Prelude.{split}
use Rattle.block_reader.specs.declared.block.Kind.TheVariants as KindCase
use Rattle.blocks.specs.Block.{Pair, Entry, last_key_of, pairs_of}
use Rattle.blocks.specs.Formed.{all, well_formed, is_formed}
use Rattle.block_reader.specs.Said.{kind_of}
use Rattle.table.specs.Checked.{Checked, pass, refuse, ◌>>=◌, ask, or_refuse}
use Rattle.table.specs.Table.{placed, contents, sealed, Edge, handle_of}
use Rattle.table_block.specs.declared.refusal.Refusal.{Refusal}
use Rattle.table_block.specs.Refusals.{number}
use Rattle.table_block.proofs.RefusalLaws.{refusal_number}
use Rattle.full_check.specs.Answers.{verdict_of}
use Rattle.full_check.specs.declared.check.Edge as Declared
use Rattle.full_check.specs.Steps.{edge_of, ordered, lets, stands, data_in, data_at, blocks_at}
use Rattle.full_check.proofs.BlockLaws.{not_formed}

-- ---- the verdict

pub refused : {c : Checked (Unit {0})} {e : Refusal} → c ≡ refuse (number e) → Err e ≡ verdict_of c
unfolding verdict_of
refused {e = e} p = sym (ap verdict_of p ∙ ap Err (refusal_number e))

pub passed : {c : Checked (Unit {0})} → c ≡ pass tt → Ok tt ≡ verdict_of c
unfolding verdict_of
passed e = sym (ap verdict_of e)

-- ---- a data block's bytes

module _ (filter : List ℕ) (offset : ℕ) (before : Option Edge) (ix s : List ℕ) where
  pub data_malformed : is_formed (kind_of KindCase.Data) s ≡ false → data_in filter offset before ix s ≡ refuse 10
  unfolding data_in kind_of or_refuse ◌>>=◌
  data_malformed f = rw (not_formed (kind_of KindCase.Data) s f)

  module _ {es : List Entry} (is : well_formed (kind_of KindCase.Data) s ≡ some es) where
    pub data_unordered : ordered before ix (pairs_of es) ≡ false → data_in filter offset before ix s ≡ refuse 11
    unfolding data_in kind_of or_refuse ◌>>=◌ ask
    data_unordered o = rw (is, o)

    module _ (o : ordered before ix (pairs_of es) ≡ true) where
      pub data_denied : all (lets filter offset) (pairs_of es) ≡ false → data_in filter offset before ix s ≡ refuse 12
      unfolding data_in kind_of or_refuse ◌>>=◌ ask
      data_denied h = rw (is, o, h)

      pub data_passed : all (lets filter offset) (pairs_of es) ≡ true → data_in filter offset before ix s ≡ pass (pairs_of es)
      unfolding data_in kind_of or_refuse ◌>>=◌ ask
      data_passed h = rw (is, o, h)

-- ---- a data block in a table

pub data_stands : (t filter : List ℕ) (before : Option Edge) (ix : List ℕ) (h : Handle) → stands t h >>= (λ _. data_in filter h.offset before ix (contents t h)) ≡ data_at t filter before ix h
unfolding stands data_at ◌>>=◌
data_stands t filter before ix h = go (placed t h)
  where
    go : (c : Checked (Unit {0})) → c >>= (λ _. sealed t h) >>= (λ _. data_in filter h.offset before ix (contents t h)) ≡ c >>= (λ _. sealed t h >>= (λ _. data_in filter h.offset before ix (contents t h)))
    go (pass u) = refl
    go (refuse n) = refl

-- ---- all data blocks

-- what is left of the blocks, after what the one before left, comes to the whole
abbrev pub BlocksLeft : List ℕ → List ℕ → Option Edge → List Entry → List Entry → Type 0
BlocksLeft t filter before es rest = blocks_at t filter none (pairs_of es) ≡ blocks_at t filter before (pairs_of rest)

-- so at a place: at the first, after nothing; from then on, after what the block before left
pub record LeftAt (t filter : List ℕ) (at : ℕ) (edge : Declared.Edge) (es rest : List Entry) : Type 0 where
  pub first : at ≡ 0 → BlocksLeft t filter (edge_of None) es rest
  pub then : 0 < at → BlocksLeft t filter (edge_of (Some edge)) es rest

pub blocks_start : (t filter : List ℕ) (edge : Declared.Edge) (es : List Entry) → LeftAt t filter 0 edge es es
unfolding edge_of
blocks_start t filter edge es = record { first = λ e. refl; then = λ up. absurd (omega arith) }

module _ (t filter : List ℕ) (es : List Entry) where
  pub blocks_end : (at : ℕ) (edge : Declared.Edge) → LeftAt t filter at edge es [] → Ok tt ≡ verdict_of (blocks_at t filter none (pairs_of es))
  unfolding blocks_at
  blocks_end at edge left = split 0 at (λ up. passed (left.then up)) (λ start. passed (left.first (omega arith)))

  module _ (before : Option Edge) (e : Entry) (rest : List Entry) (left : BlocksLeft t filter before es (e ∷ rest)) {ix : List ℕ} {h : Handle} (k : ix ≡ e.key) (is : h ≡ handle_of e.value) where
    pub blocks_stop : {r : Refusal} → data_at t filter before ix h ≡ refuse (number r) → Err r ≡ verdict_of (blocks_at t filter none (pairs_of es))
    unfolding blocks_at ◌>>=◌
    blocks_stop r = refused (left ∙ rw (← k, ← is, r))

    pub blocks_more : {ps : List Pair} → data_at t filter before ix h ≡ pass ps → (next : ℕ) (edge : Declared.Edge) → 0 < next → edge.index_key ≡ e.key → last_key_of [] ps ≡ edge.last_key → LeftAt t filter next edge es rest
    unfolding blocks_at ◌>>=◌ edge_of
    blocks_more r next edge up a b = record { first = λ z. absurd (omega arith); then = λ _. left ∙ rw (← k, ← is, r, a, k, b) }
