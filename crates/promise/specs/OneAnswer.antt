-- Two answers that meet one promise, with all that they leave in lent memory, are the same. Of a contract that says what an answer is equal to this is
-- `equal_fixed`; here stand all others, each on the inputs on which it fixes the answer.
use Rattle.std.specs.Prelude.{ℕ, ◌+◌, ◌≤◌, ◌<◌, ◌≡◌, List, Bool, true, false, ◌⊎◌, length, take, Result, MatchResult}
use Rattle.std.specs.Prelude as Code
use Rattle.std.proofs.Math.Option.{Option, some}
use Rattle.codec.specs.Put.{Wrote}
use Rattle.codec.specs.Shown.{Shown}
use Rattle.codec.specs.Varint.{Handle}
use Rattle.codec.specs.declared.put.NoRoom.{NoRoom}
use Rattle.keys.specs.Order.{Point}
use Rattle.blocks.specs.Block.{Entry, Pair, block_bytes}
use Rattle.blocks.specs.Search.{readable}
use Rattle.filters.specs.FilterBlock.{Filtering, filter_block_of}
use Rattle.table.specs.Checked.{pass, refuse}
use Rattle.table.specs.Options.{Options, Addition, addition_fits}
use Rattle.table.specs.Build.{Building, begin, accept_all}
use Rattle.table.specs.Runs.{Runs, room_of, overlay}
use Rattle.table.specs.Table.{footer}
use Rattle.table.specs.Promise.{Passed}
use Rattle.table.specs.Reads.{point_fits}
use Rattle.block_builder.specs.declared.block_builder.BlockBuilder.{BlockBuilder}
use Rattle.block_builder.specs.Builder as Blocks
use Rattle.block_reader.specs.declared.block.BlockError.{BlockError}
use Rattle.block_reader.specs.declared.block.Entry as Row
use Rattle.block_reader.specs.declared.block.EntryRead.{EntryRead}
use Rattle.block_reader.specs.Said.{Said}
use Rattle.block_reader.specs.Steps.{TakenAt}
use Rattle.filter_block.specs.declared.filter_block.Made.{Made}
use Rattle.filter_block.specs.Make.{MadeFilters}
use Rattle.table_block.specs.Answers.{BloomRead}
use Rattle.table_write.specs.Writes.{ClosedOut, ClosedIndex, MoreFilters, EnteredRuns, EndFits, EndWritten, meta_block, whole}
use Rattle.builder.specs.declared.table_builder.Options as Given
use Rattle.builder.specs.declared.table_builder.Builder.{Builder}
use Rattle.table_block.specs.declared.refusal.Refusal as Why
use Rattle.builder.specs.State.{lengths_of, Stands}
use Rattle.builder.specs.Steps.{early_of}
use Rattle.builder.specs.Answers.{Added, Finished, StartedIs, AddedIs, FinishedIs}
use Rattle.reader.specs.Answers.{Sought, Seeks, Looked, Looks, Steps}

-- a promise fixes its answer
abbrev pub Fixed : (A : Type 0) → (A → Type 0) → Type 0
Fixed A P = (x y : A) → P x → P y → x ≡ y

-- one that says what the answer is equal to
abbrev pub equal_fixed : Type 1
equal_fixed = (A : Type 0) (a : A) → Fixed A (λ x. x ≡ a)

-- one whose answer shows another, with the memory left: where that one is fixed
abbrev pub shown_fixed : Type 1
shown_fixed = (A R M : Type 0) (show : A → R) (so : A → M → Type 0) → Fixed (A × M) (λ x. so x.0 x.1)
    → Fixed (R × M) (λ x. Shown show (λ a. so a x.1) x.0)

-- ---- pieces, on every input

-- bytes written at a place of a run
abbrev pub wrote_fixed : Type 0
wrote_fixed = (d : List ℕ) (at : ℕ) (bs : List ℕ) → Fixed (Result ℕ NoRoom × List ℕ) (λ x. Wrote d at bs x.0 x.1)

-- the place after bytes that a run has room for
abbrev pub place_fixed : Type 0
place_fixed = (len at n : ℕ) → Fixed (Result ℕ NoRoom) (λ r. MatchResult r (λ end. (at + n ≤ len) × (end ≡ at + n)) (λ e. len < at + n))

-- an entry counted
abbrev pub counted_fixed : Type 0
counted_fixed = (b : BlockBuilder) (key : List ℕ) (value : ℕ) → Fixed (Result (Unit {0}) NoRoom × BlockBuilder) (λ x. Blocks.CountedIs b key value x.0 x.1)

-- an entry added to a block
abbrev pub block_added_fixed : Type 0
block_added_fixed = (b : BlockBuilder) (at : ℕ) (out restarts key value : List ℕ)
    → Fixed ((Result (Unit {0}) NoRoom × BlockBuilder) × List ℕ × List ℕ) (λ x. Blocks.AddedIs b at out x.1 restarts x.2 key value x.0.0 x.0.1)

-- filters made
abbrev pub made_fixed : Type 0
made_fixed = (c : Filtering) (gs : List (List ℕ)) (bytes made : ℕ) (f o : List ℕ)
    → Fixed (Result Made NoRoom × List ℕ × List ℕ) (λ x. MadeFilters c gs bytes made x.0 f x.1 o x.2)

-- a block closed, or not: written
abbrev pub closed_fixed : Type 0
closed_fixed = (closing : Bool) (b : BlockBuilder) (at : ℕ) (out restarts : List ℕ) → Fixed (List ℕ) (λ x. ClosedOut closing b at out x restarts)

-- and indexed
abbrev pub indexed_fixed : Type 0
indexed_fixed = (closing : Bool) (b : BlockBuilder) (at : ℕ) (indexed : BlockBuilder) (key index restarts : List ℕ)
    → Fixed (List ℕ × List ℕ) (λ x. ClosedIndex closing b at indexed key index x.0 restarts x.1)

-- more filters, or not
abbrev pub more_fixed : Type 0
more_fixed = (more : Bool) (c : Filtering) (n bytes made : ℕ) (f o waiting : List ℕ)
    → Fixed (List ℕ × List ℕ) (λ x. MoreFilters more c n bytes made f x.0 o x.1 waiting)

-- an entry and its hash
abbrev pub entered_fixed : Type 0
entered_fixed = (b : BlockBuilder) (at waiting : ℕ) (key word value out restarts hashes : List ℕ)
    → Fixed (List ℕ × List ℕ × List ℕ) (λ x. EnteredRuns b at waiting key word value out x.0 restarts x.1 hashes x.2)

-- ---- the end of a table, where it cannot be written, or its index block stands in its runs and there is room

-- what it is written from, and the output
pub record End : Type 0 where
  pub interval : ℕ
  pub filtering : Filtering
  pub at : ℕ
  pub bytes : ℕ
  pub made : ℕ
  pub indexed : BlockBuilder
  pub filters : List ℕ
  pub offsets : List ℕ
  pub index : List ℕ
  pub restarts : List ℕ
  pub out : List ℕ

-- its numbers are of 64 bits, and what it is written from stands within the runs
abbrev pub Fits : End → Type 0
Fits e = EndFits e.at e.bytes e.made e.indexed (length e.filters) (length e.offsets) (length e.index)

-- an index block stands in its runs, and there is room behind the data blocks
pub record Ready (e : End) : Type 0 where
  pub fits : Fits e
  pub least : 1 ≤ e.interval
  pub most : e.interval ≤ 1024
  pub every : ℕ
  pub entries : List Pair
  pub stands : Blocks.Stands every entries e.indexed 0 e.index e.restarts
  pub blocks : List ℕ
  pub before : List ℕ
  pub laid : e.out ≡ overlay blocks before
  pub ends : length blocks ≡ e.at
  pub room : (let fb = filter_block_of (take e.bytes e.filters) (take e.made e.offsets) in
      length (whole blocks fb (meta_block e.interval e.filtering (record { offset = e.at; size = length fb })) (block_bytes every entries)) ≤ length before)

-- the end written
abbrev pub end_fixed : Type 0
end_fixed = (e : End) → (Fits e → ⊥) ⊎ Ready e
    → Fixed (List ℕ) (λ x. EndWritten e.interval e.filtering e.at e.bytes e.made e.indexed e.filters e.offsets e.index e.restarts e.out x)

-- ---- entries

-- an entry read behind a key, and the key then
abbrev pub taken_fixed : Type 0
taken_fixed = (d : List ℕ) (at : ℕ) (before : List ℕ) → Fixed (Code.Option EntryRead × List ℕ) (λ x. TakenAt d at before x.0 x.1)

-- ---- one block, where it can be read

-- a read of a block
abbrev pub said_fixed : Type 0
said_fixed = (s : List ℕ) (says : List Entry → Option (Option Entry)) (ordered : List Entry → Bool) (k : List ℕ) (es : List Entry)
    → readable s ≡ some es → ordered es ≡ true → Fixed (Result (Code.Option Row.Entry) BlockError × List ℕ) (λ x. Said s says ordered k x.0 x.1)

-- the filter block's handle
abbrev pub bloom_fixed : Type 0
bloom_fixed = (s : List ℕ) (es : List Entry) → readable s ≡ some es → Fixed (Code.Option Handle) (BloomRead s)

-- ---- a table, unless the full check refuses it for more than its footer

-- a table that passes, or whose footer is refused
abbrev pub Settled : List ℕ → Type 0
Settled t = Passed t ⊎ ((n : ℕ) × (footer t ≡ refuse n))

-- a target or a key buffer that is refused, or such a table
abbrev pub Asked : List ℕ → Point → List ℕ → Type 0
Asked t p k = (point_fits p ≡ false) ⊎ ((length k < 1032) ⊎ Settled t)

-- a seek
abbrev pub seek_fixed : Type 0
seek_fixed = (t : List ℕ) (p : Point) (k : List ℕ) → Asked t p k → Fixed (Sought × List ℕ) (λ x. Seeks t p k x.0 x.1)

-- a lookup
abbrev pub lookup_fixed : Type 0
lookup_fixed = (t : List ℕ) (p : Point) (k : List ℕ) → Asked t p k → Fixed (Looked × List ℕ) (λ x. Looks t p k x.0 x.1)

-- a step
abbrev pub step_fixed : Type 0
step_fixed = (t : List ℕ) (ix at : ℕ) (k : List ℕ) → (length k < 1032) ⊎ Settled t → Fixed (Sought × List ℕ) (λ x. Steps t ix at k x.0 x.1)

-- ---- building

-- start, on every input
abbrev pub start_fixed : Type 0
start_fixed = (o : Given.Options) (r : Runs) → Fixed (Result Builder Why.Refusal × Runs) (λ x. StartedIs o r x.1 x.0)

-- the state and the runs are those of the latest call
pub record Latest (s : Builder) (r : Runs) : Type 0 where
  pub options : Options
  pub additions : List Addition
  pub last : Building
  pub accepts : accept_all options (room_of (length r.out)) begin additions ≡ pass last
  pub stands : Stands options last s r

-- a block being built, its last key without what the array holds beyond it
unfoldable pub trimmed_block : BlockBuilder → BlockBuilder
trimmed_block b =
    record { interval = b.interval; bytes = b.bytes; restarts = b.restarts; since = b.since; len = b.len; last = take b.len b.last }

-- a state likewise
unfoldable pub trimmed : Builder → Builder
trimmed s =
    record {
      options = s.options;
      lengths = s.lengths;
      written = s.written;
      pending = trimmed_block s.pending;
      indexed = trimmed_block s.indexed;
      filtered = s.filtered;
      made = s.made;
      waiting = s.waiting;
      finished = s.finished;
    }

-- add that answers 6, 2 or 3, of every state at all
abbrev pub add_refused_fixed : Type 0
add_refused_fixed = (s : Builder) (r : Runs) (a : Addition) → (early_of s (lengths_of r) (addition_fits a) ≡ 0 → ⊥)
    → Fixed (Added × Runs) (λ x. AddedIs s r x.1 a x.0)

-- add after the latest call: the answer, the runs, and the state but for bytes that no call reads
abbrev pub add_fixed : Type 0
add_fixed = (s : Builder) (r : Runs) (a : Addition) → Latest s r → (x y : Added) (u v : Runs) → AddedIs s r u a x → AddedIs s r v a y
    → (x.answer ≡ y.answer) × (u ≡ v) × (trimmed x.state ≡ trimmed y.state)

-- finish that answers 6 or 2, of every state at all
abbrev pub finish_refused_fixed : Type 0
finish_refused_fixed = (s : Builder) (r : Runs) → (early_of s (lengths_of r) true ≡ 0 → ⊥) → Fixed (Finished × Runs) (λ x. FinishedIs s r x.1 x.0)

-- finish after the latest call
abbrev pub finish_fixed : Type 0
finish_fixed = (s : Builder) (r : Runs) → Latest s r → Fixed (Finished × Runs) (λ x. FinishedIs s r x.1 x.0)
