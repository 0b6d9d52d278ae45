-- Of a passed table: its index and every block that the index names can be read, in order, at places within the table.
use Prim.Native.Nat.{ℕ, ◌+◌, ◌-◌, ◌≤◌}
use mathlib.Core.Path.{◌≡◌, refl, sym, ◌∙◌, ap}
use mathlib.Core.List.{List, [], ◌∷◌}
use mathlib.Core.Bool.{true}
use mathlib.Core.Option.{Option, none, some}
use native.Mathlib.Omega.{arith}
use lib.Dec.{T}
use lib.ListN.{length}
use borrow.Author.Tests.{leb-true}
use Rattle.codec.specs.Varint.{Handle, one_handle}
use Rattle.codec.proofs.Prelude.{is_true, and_r}
use Rattle.codec.proofs.Lists.{All, all_imp}
use Rattle.blocks.specs.Block.{Pair, Entry, pairs_of, last_key_of}
use Rattle.codec.specs.Limits.{within}
use Rattle.blocks.specs.Formed.{data_block, index_block, is_handle, entry_fits, all}
use Rattle.blocks.specs.Search.{readable, in_order}
use Rattle.blocks.proofs.FormedLaws.{as_pair, formed_read, formed_readable}
use Rattle.table.specs.Checked.{pass}
use Rattle.table.specs.Table.{Footer, ends_before, placed, contents, sealed, block_of, less_of, sorted_at, handle_of, entries_at, data_block_of, data_blocks_of, Edge, Opened, opened, full_check}
use Rattle.table.specs.Promise.{Passed}
use Rattle.table.proofs.CheckedLaws.{passing, asking, pass_same, or_refuse_pass}
use Rattle.table.proofs.StandLaws.{all_entries, block_of_lem, sorted_tells, index_read, Laid, laid, stands}
use Rattle.reader.specs.Parts.{Indexed}

-- ---- where a block may stand

pub placed_within : (len offset size : ℕ) → ends_before len offset size ≡ true → offset + size + 53 ≤ len
unfolding ends_before
placed_within len offset size e = omega (arith, leb-true (offset + size + 5) (len - 48) e)

-- ---- an index entry and its block

pub record BlockReads (t : List ℕ) (ix : Entry) : Type 0 where
  pub one : one_handle ix.value ≡ some (handle_of ix.value)
  pub placed : ends_before (length t) (handle_of ix.value).offset (handle_of ix.value).size ≡ true
  pub reads : readable (contents t (handle_of ix.value)) ≡ some (entries_at t (handle_of ix.value))
  pub order : in_order (entries_at t (handle_of ix.value)) ≡ true
  pub fits : T (all (entry_fits data_block) (pairs_of (entries_at t (handle_of ix.value))))

one_handle_lem : (s : List ℕ) → T (is_handle s) → one_handle s ≡ some (handle_of s)
unfolding is_handle handle_of
one_handle_lem s = go (one_handle s) refl
  where
    go : (o : Option Handle) → one_handle s ≡ o → T (is_handle s) → one_handle s ≡ some (handle_of s)
    go none e t = absurd (rw (e, is_handle) at t)
    go (some h) e t = rw (e, handle_of) refl

-- what the check of one data block tells
block_reads : (t : List ℕ) (f : Option (List ℕ)) (before : Option Edge) (ix : Entry) {ps : List Pair} → one_handle ix.value ≡ some (handle_of ix.value) → data_block_of t f before (as_pair ix) ≡ pass ps → BlockReads t ix
unfolding data_block_of placed sealed block_of in_order
block_reads t f before ix one p =
    asking _ _ _ p λ inside p.
    asking _ _ _ p λ intact p.
    passing _ _ p λ es read p.
    asking _ _ _ p λ follows p.
    asking _ _ _ p λ rising p.
    let h = handle_of ix.value in
    let same : entries_at t h ≡ es = (block_of_lem t h data_block read).0 in
    record {
      one = one;
      placed = is_true _ inside;
      reads = rw same (formed_readable data_block (contents t h) (or_refuse_pass 10 _ read));
      order = is_true _ (rw same rising);
      fits = rw same (formed_read data_block (contents t h) (or_refuse_pass 10 _ read)).fits;
    }

blocks_read : (t : List ℕ) (f : Option (List ℕ)) (before : Option Edge) (ixs : List Entry) → All (λ (ix : Entry). one_handle ix.value ≡ some (handle_of ix.value)) ixs → data_blocks_of t f before (pairs_of ixs) ≡ pass tt → All (BlockReads t) ixs
unfolding data_blocks_of
blocks_read t f before [] All.nil p = All.nil
blocks_read t f before (ix ∷ ixs) (All.cons one ones) p =
    passing _ _ p λ ps read p.
    All.cons (block_reads t f before ix one read) (blocks_read t f (some (record { index_key = ix.key; last_key = last_key_of [] ps })) ixs ones p)

-- ---- the index

pub record Opens (t : List ℕ) (h : Handle) : Type 0 where
  pub table : Opened
  pub opens : opened t ≡ pass table
  pub reads : readable (contents t h) ≡ some table.index
  pub order : in_order table.index ≡ true
  pub same : entries_at t h ≡ table.index
  pub blocks : All (BlockReads t) table.index
  pub laid : Laid t table.filter table.index

-- what the check of the index tells
record IndexRead (t : List ℕ) (h : Handle) (es : List Entry) : Type 0 where
  reads : readable (contents t h) ≡ some es
  order : in_order es ≡ true
  handles : All (λ (ix : Entry). one_handle ix.value ≡ some (handle_of ix.value)) es

index_tested : (t : List ℕ) (h : Handle) {es : List Entry} → sorted_at index_block t h ≡ pass es → IndexRead t h es
unfolding less_of in_order entry_fits
index_tested t h {es} p =
    let s = sorted_tells index_block t h p in
    let fits = (formed_read index_block (contents t h) s.0).fits in
    record {
      reads = formed_readable index_block (contents t h) s.0;
      order = is_true _ s.1;
      handles = all_imp (λ ix u. one_handle_lem ix.value (and_r (within 9 1032 (length ix.key)) _ u)) (all_entries (entry_fits index_block) es fits);
    }

pub passed_opens : (t : List ℕ) {h : Handle} → Indexed t h → Passed t → Opens t h
unfolding full_check opened
passed_opens t {h} i p =
    passing _ _ p λ o op q.
    passing _ _ op λ ft foot r.
    passing _ _ r λ ms meta r.
    passing _ _ r λ ixs index r.
    passing _ _ r λ f filter r.
    let o_is = pass_same r in
    let ixs_is : ixs ≡ o.index = ap (λ (x : Opened). x.index) o_is in
    let h_is : ft.index ≡ h = ap (λ (x : Footer). x.index) (pass_same (sym foot ∙ i.reads)) ∙ i.index in
    let ir = index_tested t ft.index index in
    record {
      table = o;
      opens = op;
      reads = rw (← h_is, ← ixs_is) ir.reads;
      order = rw (← ixs_is) ir.order;
      same = rw (← h_is) (index_read t ft.index index ∙ ixs_is);
      blocks = blocks_read t o.filter none o.index (rw (← ixs_is) ir.handles) q;
      laid = laid (stands t o p op);
    }

-- a passed table has a footer
pub passed_indexed : (t : List ℕ) → Passed t → (f : Footer) × Indexed t f.index
unfolding full_check opened
passed_indexed t p =
    passing _ _ p λ o op q.
    passing _ _ op λ ft foot r.
    (ft, record { foot = ft; reads = foot; index = refl })
