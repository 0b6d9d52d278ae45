-- Two answers that meet one promise are the same.
use Prim.Native.Nat.{ℕ, ◌≤◌, ◌<◌}
use mathlib.Core.Path.{◌≡◌, refl, sym, ◌∙◌, ap, subst}
use mathlib.Core.List.{List}
use mathlib.Core.Bool.{Bool, true, false, false≢true}
use mathlib.Core.Logic.{◌⊎◌, inl, inr}
use native.Mathlib.Omega.{arith}
use lib.ListN.{length, take}
use lib.Seq.{length-take-le}
use Rattle.codec.specs.Shown.{Shown}
use Rattle.codec.proofs.Prelude.{test, split, apart}
use Rattle.keys.specs.Order.{Point}
use Rattle.bloom.specs.Choice.{choice_of}
use Rattle.table.specs.Checked.{Checked, pass, refuse}
use Rattle.table.specs.Options.{Options}
use Rattle.table.specs.Build.{Building, accept}
use Rattle.table.specs.Counts.{Counts}
use Rattle.table.specs.Runs.{Runs, room_of, overlay}
use Rattle.table.specs.Reads.{Answer, refused, point_fits, buffer_after, Of, seek_says, lookup_says, step_says}
use Rattle.table.specs.Reads
use Rattle.filters.specs.FilterBlock.{filter_block_of}
use mathlib.Core.Option.{some_inj}
use Rattle.blocks.specs.Block.{Entry, block_bytes}
use Rattle.blocks.specs.Count.{BlockCount}
use Rattle.block_builder.specs.Builder.{count_in}
use Rattle.block_builder.specs.declared.block_builder.BlockBuilder.{BlockBuilder}
use Rattle.block_reader.specs.declared.block.EntryRead.{EntryRead}
use Rattle.block_reader.specs.Steps.{Taken, Untaken}
use Rattle.table_write.specs.Writes.{EndWritten, meta_block, whole}
use Rattle.builder.specs.declared.table_builder.Options as Given
use Rattle.std.specs.Prelude.{Option, None, Some, Ok, Err}
use Rattle.table_block.specs.declared.refusal.Refusal as Why
use Rattle.builder.specs.declared.table_builder.Builder.{Builder}
use Rattle.builder.specs.State.{options_of, counts_in, Stands}
use Rattle.builder.specs.Answers.{answer_of, Traced}
use Rattle.reader.specs.Answers.{Sought, sought_of, looked_of}
use Rattle.promise.specs.OneAnswer

module _ {A : Type 0} where
  -- both are this one
  both : {x y a : A} → x ≡ a → y ≡ a → x ≡ y
  both p q = p ∙ sym q

pub equal_fixed_lem : OneAnswer.equal_fixed
equal_fixed_lem A a x y p q = both p q

pub shown_fixed_lem : OneAnswer.shown_fixed
shown_fixed_lem A R M show so f x y g h =
    let e = f (g.answer, x.1) (h.answer, y.1) g.is h.is in
    λ i. ((g.shown ∙ ap (λ (z : A × M). show z.0) e ∙ sym h.shown) i, (e i).1)

-- ---- pieces

pub wrote_fixed_lem : OneAnswer.wrote_fixed
wrote_fixed_lem d at bs x y h k = λ i. (both h.said k.said i, both h.left k.left i)

pub place_fixed_lem : OneAnswer.place_fixed
place_fixed_lem len at n (Ok x) (Ok y) h k = ap Ok (both h.1 k.1)
place_fixed_lem len at n (Ok x) (Err e) h k = absurd (omega (arith, h.0, k))
place_fixed_lem len at n (Err e) (Ok y) h k = absurd (omega (arith, h, k.0))
place_fixed_lem len at n (Err e) (Err f) h k = refl

pub counted_fixed_lem : OneAnswer.counted_fixed
counted_fixed_lem b key value x y h k = λ i. (both h.fits k.fits i, both h.block k.block i)

pub block_added_fixed_lem : OneAnswer.block_added_fixed
block_added_fixed_lem b at out restarts key value x y h k = λ i.
    ((both h.fits k.fits i, both h.block k.block i), both h.written k.written i, both h.marked k.marked i)

pub made_fixed_lem : OneAnswer.made_fixed
made_fixed_lem c gs bytes made f o x y h k = λ i. (both h.said k.said i, both h.filters k.filters i, both h.offsets k.offsets i)

pub closed_fixed_lem : OneAnswer.closed_fixed
closed_fixed_lem closing b at out restarts x y h k = test closing (λ t. both (h.done t) (k.done t)) (λ f. both (h.kept f) (k.kept f))

-- the runs behind an answer, done or kept
runs_fixed : {A M : Type 0} (c : Bool) {x y u v m n : M} {a b : A} → (c ≡ true → ◌≡◌ {A = A × M × M} (a, x, u) (b, y, v)) → (c ≡ false → (x ≡ m) × (u ≡ n))
    → (c ≡ false → (y ≡ m) × (v ≡ n)) → ◌≡◌ {A = M × M} (x, u) (y, v)
runs_fixed c d h k = test c (λ t i. ((d t i).1, (d t i).2)) (λ f i. (both (h f).0 (k f).0 i, both (h f).1 (k f).1 i))

pub indexed_fixed_lem : OneAnswer.indexed_fixed
indexed_fixed_lem closing b at indexed key index restarts x y h k =
    runs_fixed closing (λ t. block_added_fixed_lem indexed 0 index restarts key _ ((h.added, h.after), x.0, x.1) ((k.added, k.after), y.0, y.1) (h.done t) (k.done t)) h.kept k.kept

pub more_fixed_lem : OneAnswer.more_fixed
more_fixed_lem more c n bytes made f o waiting x y h k =
    runs_fixed more (λ t. made_fixed_lem c _ bytes made f o (h.said, x.0, x.1) (k.said, y.0, y.1) (h.done t) (k.done t)) h.kept k.kept

pub entered_fixed_lem : OneAnswer.entered_fixed
entered_fixed_lem b at waiting key word value out restarts hashes x y h k =
    let e = block_added_fixed_lem b at out restarts key value ((h.added, h.after), x.0, x.1) ((k.added, k.after), y.0, y.1) h.entry k.entry in
    λ i. ((e i).1, (e i).2, both h.hash k.hash i)

-- where it can be written, it is the whole table
end_written : (e : OneAnswer.End) (q : OneAnswer.Ready e) (x : List ℕ)
    → EndWritten e.interval e.filtering e.at e.bytes e.made e.indexed e.filters e.offsets e.index e.restarts e.out x
    → (let fb = filter_block_of (take e.bytes e.filters) (take e.made e.offsets) in
    x ≡ overlay (whole q.blocks fb (meta_block e.interval e.filtering (record { offset = e.at; size = length fb })) (block_bytes q.every q.entries)) q.before)
end_written e q x h = (h.done q.fits).wrote q.least q.most q.every q.entries q.stands q.blocks q.before q.laid q.ends q.room

pub end_fixed_lem : OneAnswer.end_fixed
end_fixed_lem e (inl n) x y h k = both (h.kept n) (k.kept n)
end_fixed_lem e (inr q) x y h k = both (end_written e q x h) (end_written e q y k)

-- an entry of such a key is read
taken_here : {d : List ℕ} {at : ℕ} {before : List ℕ} {e : EntryRead} {key : List ℕ} → Taken d at before e key → Untaken d at before → ⊥
taken_here h untaken = untaken h.here h.reads (omega (arith, h.key_size, h.room))

pub taken_fixed_lem : OneAnswer.taken_fixed
taken_fixed_lem d at before (Some e, u) (Some f, v) h k =
    let p : h.here ≡ k.here = some_inj.0 (sym h.reads ∙ k.reads) in
    let shared = sym h.shared ∙ ap (λ (x : Entry). x.shared) p ∙ k.shared in
    let size = sym h.key_size ∙ ap (λ (x : Entry). length x.key) p ∙ k.key_size in
    let place = sym h.value_at ∙ ap (λ (x : Entry). x.value_at) p ∙ k.value_at in
    let value = sym h.value_size ∙ ap (λ (x : Entry). length x.value) p ∙ k.value_size in
    let key = h.key ∙ ap (λ (x : Entry). x.key) p ∙ sym k.key in
    λ i. (Some (record { shared = shared i; key_len = size i; value_at = place i; value_len = value i }), key i)
taken_fixed_lem d at before (Some e, u) (None, v) h k = absurd (taken_here h k.0)
taken_fixed_lem d at before (None, u) (Some f, v) h k = absurd (taken_here k h.0)
taken_fixed_lem d at before (None, u) (None, v) h k = λ i. (None, both h.1 k.1 i)

pub said_fixed_lem : OneAnswer.said_fixed
said_fixed_lem s says ordered k es is rise x y g h = λ i. (both (g.answer es is rise) (h.answer es is rise) i, both (g.buffer es is rise) (h.buffer es is rise) i)

pub bloom_fixed_lem : OneAnswer.bloom_fixed
bloom_fixed_lem s es is x y g h = both (g.answer es is) (h.answer es is)

-- ---- a table

module _ (t : List ℕ) (says : Answer) where
  -- the one answer about a settled table
  settled : OneAnswer.Settled t → (a : Answer) × ((b : Answer) → Of t says b → b ≡ a)
  settled (inl q) = (says, λ b h. h.passed q)
  settled (inr (n, f)) = (refused n, λ b h. h.footed n f)

  stepped : (k : List ℕ) → (length k < 1032) ⊎ OneAnswer.Settled t → (a : Answer) × ((b : Answer) (k' : List ℕ) → Reads.Stepped t says k b k' → b ≡ a)
  stepped k d = split (length k) 1032 (λ short. (refused 2, λ b k' h. h.two short)) (λ long. go long d)
    where
      go : 1032 ≤ length k → (length k < 1032) ⊎ OneAnswer.Settled t → (a : Answer) × ((b : Answer) (k' : List ℕ) → Reads.Stepped t says k b k' → b ≡ a)
      go long (inl short) = absurd (omega arith)
      go long (inr w) = let s = settled w in (s.0, λ b k' h. s.1 b (h.table long))

  asked : (p : Point) (k : List ℕ) → OneAnswer.Asked t p k → (a : Answer) × ((b : Answer) (k' : List ℕ) → Reads.Sought t p says k b k' → b ≡ a)
  asked p k d =
      test (point_fits p)
      (λ fits. split (length k) 1032 (λ short. (refused 2, λ b k' h. h.two fits short)) (λ long. go fits long d))
      (λ out. (refused 3, λ b k' h. h.three out))
    where
      go : point_fits p ≡ true → 1032 ≤ length k → OneAnswer.Asked t p k → (a : Answer) × ((b : Answer) (k' : List ℕ) → Reads.Sought t p says k b k' → b ≡ a)
      go fits long (inl out) = absurd (false≢true (sym out ∙ fits))
      go fits long (inr (inl short)) = absurd (omega arith)
      go fits long (inr (inr w)) = let s = settled w in (s.0, λ b k' h. s.1 b (h.table fits long))

-- reads that answer one thing, and leave the key buffer by it
answer_fixed : (k : List ℕ) (so : Answer → List ℕ → Type 0) → ((a : Answer) (k' : List ℕ) → so a k' → k' ≡ buffer_after a k)
    → (a : Answer) × ((b : Answer) (k' : List ℕ) → so b k' → b ≡ a) → OneAnswer.Fixed (Answer × List ℕ) (λ x. so x.0 x.1)
answer_fixed k so left w x y g h =
    let e = both (w.1 x.0 x.1 g) (w.1 y.0 y.1 h) in
    λ i. (e i, (left x.0 x.1 g ∙ ap (λ (b : Answer). buffer_after b k) e ∙ sym (left y.0 y.1 h)) i)

sought_fixed : {R : Type 0} (show : Answer → R) (t : List ℕ) (p : Point) (says : Answer) (k : List ℕ) → OneAnswer.Asked t p k
    → OneAnswer.Fixed (R × List ℕ) (λ x. Shown show (λ a. Reads.Sought t p says k a x.1) x.0)
sought_fixed {R} show t p says k d = shown_fixed_lem Answer R (List ℕ) show (λ a k'. Reads.Sought t p says k a k') (answer_fixed k _ (λ a k' h. h.buffer) (asked t says p k d))

pub seek_fixed_lem : OneAnswer.seek_fixed
seek_fixed_lem t p k d = sought_fixed sought_of t p (seek_says t p) k d

pub lookup_fixed_lem : OneAnswer.lookup_fixed
lookup_fixed_lem t p k d = sought_fixed looked_of t p (lookup_says t p) k d

pub step_fixed_lem : OneAnswer.step_fixed
step_fixed_lem t ix at k d = shown_fixed_lem Answer Sought (List ℕ) sought_of (λ a k'. Reads.Stepped t (step_says t ix at) k a k') (answer_fixed k _ (λ a k' h. h.buffer) (stepped t (step_says t ix at) k d))

-- ---- building

pub start_fixed_lem : OneAnswer.start_fixed
start_fixed_lem o r x y h k = λ i. (both h.said k.said i, both h.kept k.kept i)

-- a call that refuses, and leaves the state and the runs as they were
refusal_fixed : {A X : Type 0} (make : A → Builder → X) (say : Why.Refusal → A) {n : Why.Refusal} {a b : A} {s y z : Builder} {r u v : Runs} → a ≡ say n → b ≡ say n → ((m : Why.Refusal) → a ≡ say m → (y ≡ s) × (u ≡ r))
    → ((m : Why.Refusal) → b ≡ say m → (z ≡ s) × (v ≡ r)) → ◌≡◌ {A = X × Runs} (make a y, u) (make b z, v)
refusal_fixed make say p q f g = λ i. (make (both p q i) (both (f _ p).0 (g _ q).0 i), both (f _ p).1 (g _ q).1 i)

pub add_refused_fixed_lem : OneAnswer.add_refused_fixed
add_refused_fixed_lem s r a e x y h k = refusal_fixed (λ b z. record { answer = b; state = z }) Err (h.early e) (k.early e) h.refused k.refused

pub finish_refused_fixed_lem : OneAnswer.finish_refused_fixed
finish_refused_fixed_lem s r e x y h k = refusal_fixed (λ b z. record { answer = b; state = z }) Err (h.early e) (k.early e) h.refused k.refused

pub finish_fixed_lem : OneAnswer.finish_fixed
finish_fixed_lem s r w x y h k =
    let o = w.options in
    let xs = w.additions in
    let b = w.last in
    let p = h.answer o xs b w.accepts w.stands in
    let q = k.answer o xs b w.accepts w.stands in
    λ i.
    (record { answer = both p q i; state = both (h.over _ p) (k.over _ q) i }, both (h.runs o xs b w.accepts w.stands) (k.runs o xs b w.accepts w.stands) i)

-- the filter choice is told by what it stands for
choice_fixed : (a b : Option ℕ) → choice_of a ≡ choice_of b → a ≡ b
unfolding choice_of
choice_fixed None None e = refl
choice_fixed None (Some n) e = apart cc
choice_fixed (Some n) None e = apart cc
choice_fixed (Some n) (Some m) e = let w : n ≡ m = cc in ap Some w

options_fixed : (a b : Given.Options) → options_of a ≡ options_of b → a ≡ b
unfolding options_of
options_fixed a b e = λ i.
    record {
      block_size = ap (λ (o : Options). o.block_size) e i;
      interval = ap (λ (o : Options). o.interval) e i;
      filter = choice_fixed a.filter b.filter (ap (λ (o : Options). o.filtering) e) i;
    }

-- a block's counts, interval and the room of its last key fix it but for what lies beyond that key
block_fixed : (a b : BlockBuilder) → a.interval ≡ b.interval → count_in a ≡ count_in b → a.len ≤ length a.last → b.len ≤ length b.last
    → OneAnswer.trimmed_block a ≡ OneAnswer.trimmed_block b
unfolding OneAnswer.trimmed_block count_in
block_fixed a b every e l m =
    let key : take a.len a.last ≡ take b.len b.last = ap (λ (c : BlockCount). c.last) e in
    λ i.
    record {
      interval = every i;
      bytes = ap (λ (c : BlockCount). c.bytes) e i;
      restarts = ap (λ (c : BlockCount). c.restarts) e i;
      since = ap (λ (c : BlockCount). c.since) e i;
      len = (sym (length-take-le a.len a.last l) ∙ ap length key ∙ length-take-le b.len b.last m) i;
      last = key i;
    }

module _ {o : Options} {c : Building} {s z : Builder} {r : Runs} (h : Stands o c s r) (k : Stands o c z r) where
  stands_fixed : OneAnswer.trimmed s ≡ OneAnswer.trimmed z
  unfolding OneAnswer.trimmed counts_in
  stands_fixed =
      let e : counts_in s ≡ counts_in z = both h.counts k.counts in
      λ i.
      record {
        options = options_fixed s.options z.options (both h.options k.options) i;
        lengths = both h.lengths k.lengths i;
        written = ap (λ (n : Counts). n.written) e i;
        pending = block_fixed s.pending z.pending (both h.interval k.interval) (ap (λ (n : Counts). n.open_block) e) (omega (arith, h.whole.0, h.short.0)) (omega (arith, k.whole.0, k.short.0)) i;
        indexed = block_fixed s.indexed z.indexed (both h.index_interval k.index_interval) (ap (λ (n : Counts). n.index) e) (omega (arith, h.whole.1, h.short.1)) (omega (arith, k.whole.1, k.short.1)) i;
        filtered = ap (λ (n : Counts). n.filters.bytes) e i;
        made = ap (λ (n : Counts). n.filters.made) e i;
        waiting = ap (λ (n : Counts). n.filters.waiting) e i;
        finished = both h.going k.going i;
      }

pub add_fixed_lem : OneAnswer.add_fixed
unfolding answer_of
add_fixed_lem s r a w x y u v h k =
    let o = w.options in
    let b = w.last in
    let f = h.traced o w.additions b w.accepts w.stands in
    let g = k.traced o w.additions b w.accepts w.stands in
    go (accept o (room_of (length r.out)) b a) refl f g
  where
    go : (m : Checked Building) → accept w.options (room_of (length r.out)) w.last a ≡ m → Traced w.options w.last r u a x → Traced w.options w.last r v a y
        → (x.answer ≡ y.answer) × (u ≡ v) × (OneAnswer.trimmed x.state ≡ OneAnswer.trimmed y.state)
    go (pass c) e f g =
        let runs = both (f.runs c e) (g.runs c e) in
        (both f.answer g.answer, runs, stands_fixed (f.stands c e) (subst (λ (q : Runs). Stands w.options c y.state q) (sym runs) (g.stands c e)))
    go (refuse n) e f g =
        let p = h.refused _ (f.answer ∙ ap answer_of e) in
        let q = k.refused _ (g.answer ∙ ap answer_of e) in
        (both f.answer g.answer, both p.1 q.1, ap OneAnswer.trimmed (both p.0 q.0))
