-- A block read: its entries are the same from any place on, and from a restart also after no key; they take the bytes that there are.
use Prim.Native.Nat.{ℕ, zero, suc, ◌+◌, ◌*◌, ◌-◌, ◌≤◌, ◌<◌}
use mathlib.Core.Path.{◌≡◌, refl, sym, ◌∙◌, ap, subst}
use mathlib.Core.List.Memᴰ
use mathlib.Core.List.{List, [], ◌∷◌, ◌++◌, Memᴰ}
use mathlib.Core.Bool.{Bool, true, false, ◌&&◌, not}
use mathlib.Core.Option.{Option, none, some, some_inj, none-ne-some}
use mathlib.Core.Logic.{⊎_elim}
use native.Mathlib.Nat.{add_assoc}
use native.Mathlib.Omega.{arith}
use lib.Dec.{T, eqb, eqb→eq, leb→le}
use lib.ListN.{length, take, drop, length-take, length-drop}
use borrow.Author.Tests.{eqb-true, eqb-false, eq-eqb, ne_eqb}
use Rattle.codec.specs.Bytes.{part, number_of, numbers}
use Rattle.codec.specs.Maybe.{◌>>=◌, first}
use Rattle.codec.proofs.BytesLaws.{part_length, part_drop, part_take}
use Rattle.codec.proofs.Prelude.{test, and_l, and_r}
use Rattle.codec.proofs.Lists.{All, Pairs, all_mem, all_imp, first_no}
use Rattle.codec.proofs.MaybeLaws.{getting, giving, gets, gives}
use Rattle.codec.proofs.VarintLaws.{Sized, varint_size_lem}
use Rattle.keys.specs.Order.{Point, point_of}
use Rattle.keys.proofs.OrderLaws.{◌≺◌, ≺-trans}
use Rattle.blocks.specs.Block.{Head, head, Entry, entry, next, entries_f, restarts_stand, first_is_zero, Block, block}

-- ---- what an entry that was read tells

-- its head, the two tests, and what it is made of
pub record EntryRead (at : ℕ) (before rest : List ℕ) (e : Entry) : Type 0 where
  pub heading : Head
  pub reads : head rest ≡ some heading
  pub shares : heading.shared ≤ length before
  pub fits : heading.size + heading.fresh + heading.value_size ≤ length rest
  pub is : e ≡ record {
    start = at;
    shared = heading.shared;
    key = take heading.shared before ++ part rest heading.size heading.fresh;
    value_at = at + heading.size + heading.fresh;
    value = part rest (heading.size + heading.fresh) heading.value_size;
  }

pub entry_read : (at : ℕ) (before rest : List ℕ) {e : Entry} → entry at before rest ≡ some e → EntryRead at before rest e
unfolding entry
entry_read at before rest {e} p =
    getting _ _ p λ h reads p.
    giving _ _ p λ shares p.
    giving _ _ p λ fits p.
    record { heading = h; reads = reads; shares = leb→le _ _ shares; fits = leb→le _ _ fits; is = sym (some_inj.0 p) }

-- an entry that shares nothing is read the same after any key
pub entry_fresh : (at : ℕ) (before rest : List ℕ) {e : Entry} → entry at before rest ≡ some e → e.shared ≡ 0 → entry at [] rest ≡ some e
unfolding entry
entry_fresh at before rest {e} p z =
    getting _ _ p λ h reads p.
    giving _ _ p λ shares p.
    giving _ _ p λ fits p.
    let none_shared : h.shared ≡ 0 = ap (λ (x : Entry). x.shared) (some_inj.0 p) ∙ z in
    let same : take h.shared before ≡ take h.shared [] = rw none_shared in
    gets _ _ reads (gives _ _ (rw none_shared tt) (gives _ _ fits (rw (← same) p)))

pub entry_start : (at : ℕ) (before rest : List ℕ) {e : Entry} → entry at before rest ≡ some e → e.start ≡ at
entry_start at before rest p = ap (λ (x : Entry). x.start) (entry_read at before rest p).is

-- ---- the entries that are read from a place on, after a key

pub data Reads (s : List ℕ) : ℕ → List ℕ → List Entry → Type 0 where
  done : {at : ℕ} {before : List ℕ} → at ≡ length s → Reads s at before []
  more : {at : ℕ} {before : List ℕ} {e : Entry} {es : List Entry} → (at ≡ length s → ⊥) → entry at before (drop at s) ≡ some e → Reads s (next e) e.key es → Reads s at before (e ∷ es)

pub reads_of : (n : ℕ) (s : List ℕ) (at : ℕ) (before : List ℕ) (es : List Entry) → entries_f n s at before ≡ some es → Reads s at before es
unfolding entries_f
reads_of zero s at before es p = absurd (none-ne-some es p)
reads_of (suc n) s at before es p = go (λ at before es. reads_of n s at before es) (eqb at (length s)) refl
  where
    go : ((at : ℕ) (before : List ℕ) (es : List Entry) → entries_f n s at before ≡ some es → Reads s at before es) → (b : Bool) → eqb at (length s) ≡ b → Reads s at before es
    go ih true t = subst (Reads s at before) (some_inj.0 (rw (t, entries_f) at p)) (Reads.done (eqb-true at (length s) t))
    go ih false t =
        getting _ _ (rw (t, entries_f) at p) λ e read p.
        getting _ _ p λ cs rest p.
        subst (Reads s at before) (some_inj.0 p) (Reads.more (eqb-false at (length s) t) read (ih (next e) e.key cs rest))

-- and so from the start of each entry on
pub reads_from : {s : List ℕ} {at : ℕ} {before : List ℕ} (bs : List Entry) (e : Entry) (cs : List Entry) → Reads s at before (bs ++ (e ∷ cs)) → (b : List ℕ) × Reads s e.start b (e ∷ cs)
reads_from {s} {at} {before} [] e cs (Reads.more n read r) = (before, subst (λ (p : ℕ). Reads s p before (e ∷ cs)) (sym (entry_start at before (drop at s) read)) (Reads.more n read r))
reads_from {s} {at} {before} (b ∷ bs) e cs (Reads.more n read r) = reads_from {at = next b} {before = b.key} bs e cs r

pub reads_fresh : {s : List ℕ} {at : ℕ} {before : List ℕ} {e : Entry} {cs : List Entry} → e.shared ≡ 0 → Reads s at before (e ∷ cs) → Reads s at [] (e ∷ cs)
reads_fresh {s} {at} {before} z (Reads.more n read r) = Reads.more n (entry_fresh at before (drop at s) read z) r

-- ---- sizes

pub head_size : (s : List ℕ) {h : Head} → head s ≡ some h → Sized s h.size
unfolding head
head_size s {h} p =
    getting _ _ p λ a ra p.
    getting _ _ p λ b rb p.
    getting _ _ p λ c rc p.
    let e : a.size + b.size + c.size ≡ h.size = ap (λ (x : Head). x.size) (some_inj.0 p) in
    let sa = varint_size_lem s ra in
    let sb = varint_size_lem (drop a.size s) rb in
    let sc = varint_size_lem (drop (a.size + b.size) s) rc in
    record { some_byte = omega arith; there = omega (arith, length-drop (a.size + b.size) s) }

-- an entry ends past its start and within the block
pub entry_ends : (at : ℕ) (before s : List ℕ) {e : Entry} → at ≤ length s → entry at before (drop at s) ≡ some e → (at < next e) × (next e ≤ length s)
unfolding next part
entry_ends at before s {e} w p =
    let r = entry_read at before (drop at s) p in
    let z = head_size (drop at s) r.reads in
    let ends : next e ≡ at + (r.heading.size + r.heading.fresh + r.heading.value_size) = ap next r.is ∙ simp (length-take, length-drop) (omega (arith, r.fits, length-drop at s)) in
    (omega arith, omega (arith, length-drop at s))

-- no more entries than bytes
pub reads_count : {s : List ℕ} {at : ℕ} {before : List ℕ} {es : List Entry} → at ≤ length s → Reads s at before es → at + length es ≤ length s
reads_count w (Reads.done e) = omega arith
reads_count {s} {at} {before} w (Reads.more {e = e} {es = es} n read r) =
    let ends = entry_ends at before s w read in
    let rest = reads_count ends.1 r in
    omega arith

-- so the entries that can be read are those that are read
pub reads_back : (n : ℕ) {s : List ℕ} {at : ℕ} {before : List ℕ} {es : List Entry} → length es < n → Reads s at before es → entries_f n s at before ≡ some es
unfolding entries_f
reads_back zero w r = absurd (omega arith)
reads_back (suc n) {s} {at} w (Reads.done e) = rw (eq-eqb at (length s) e, entries_f)
reads_back (suc n) {s} {at} {before} w (Reads.more {e = e} {es = es} ne read r) =
    rw (ne_eqb at (length s) ne, entries_f) (gets _ _ read (gets _ _ (reads_back n (omega arith) r) refl))

-- ---- a block that was read

pub record BlockRead (s : List ℕ) (b : Block) : Type 0 where
  pub end : ℕ
  pub inside : end ≤ length s
  pub reads : Reads (take end s) 0 [] b.entries
  pub stand : T (first_is_zero b.restarts b.entries)

pub block_read : (s : List ℕ) {b : Block} → block s ≡ some b → BlockRead s b
unfolding block
block_read s {b} p =
    giving _ _ p λ long p.
    giving _ _ p λ room p.
    getting _ _ p λ es read p.
    giving _ _ p λ stand p.
    let n : ℕ = number_of (drop (length s - 4) s) in
    let end : ℕ = length s - (4 * n + 4) in
    let c : Block = record { entries = es; restarts = numbers n (drop end s) } in
    let r : BlockRead s c = record { end = end; inside = omega arith; reads = reads_of (suc end) (take end s) 0 [] es read; stand = stand } in
    rw (some_inj.0 p) at r

-- each entry starts after the one before
abbrev pub StartsBefore : Entry → Entry → Type 0
StartsBefore a b = a.start < b.start

starts_from : {s : List ℕ} {at : ℕ} {before : List ℕ} {es : List Entry} → at ≤ length s → Reads s at before es → All (λ (e : Entry). at ≤ e.start) es
starts_from w (Reads.done e) = All.nil
starts_from {s} {at} {before} w (Reads.more {e = e} n read r) =
    let ends = entry_ends at before s w read in
    let here = entry_start at before (drop at s) read in
    let first : at ≤ e.start = omega arith in
    let later : (x : Entry) → next e ≤ x.start → at ≤ x.start = λ x h. omega arith in
    All.cons first (all_imp later (starts_from ends.1 r))

pub starts_rise : {s : List ℕ} {at : ℕ} {before : List ℕ} {es : List Entry} → at ≤ length s → Reads s at before es → Pairs StartsBefore es
starts_rise w (Reads.done e) = Pairs.nil
starts_rise {s} {at} {before} w (Reads.more {e = e} n read r) =
    let ends = entry_ends at before s w read in
    let here = entry_start at before (drop at s) read in
    let later : (x : Entry) → next e ≤ x.start → e.start < x.start = λ x h. omega arith in
    Pairs.cons (all_imp later (starts_from ends.1 r)) (starts_rise ends.1 r)

pub block_starts : (s : List ℕ) {b : Block} → block s ≡ some b → Pairs StartsBefore b.entries
block_starts s {b} p = starts_rise (omega arith) (block_read s p).reads

-- ---- restarts

-- the entry that a restart names
pub record At (r : ℕ) (es : List Entry) : Type 0 where
  pub before : List Entry
  pub here : Entry
  pub after : List Entry
  pub whole : es ≡ before ++ (here ∷ after)
  pub start : here.start ≡ r
  pub fresh : here.shared ≡ 0

at_later : (e : Entry) {r : ℕ} {es : List Entry} → At r es → At r (e ∷ es)
at_later e a = record { before = e ∷ a.before; here = a.here; after = a.after; whole = ap (◌∷◌ e) a.whole; start = a.start; fresh = a.fresh }

restart_at_lem : (rs : List ℕ) (es : List Entry) → T (restarts_stand rs es) → (r : ℕ) → Memᴰ r rs → At r es
unfolding restarts_stand
restart_at_lem [] es t r m = absurd (Memᴰ.not-nil m)
restart_at_lem (q ∷ rs) (e ∷ es) t r m = go (restart_at_lem rs es) (restart_at_lem (q ∷ rs) es) (eqb q e.start) refl
  where
    go : (T (restarts_stand rs es) → (r : ℕ) → Memᴰ r rs → At r es) → (T (restarts_stand (q ∷ rs) es) → (r : ℕ) → Memᴰ r (q ∷ rs) → At r es)
        → (b : Bool) → eqb q e.start ≡ b → At r (e ∷ es)
    go ih ih' true b =
        let u : T (eqb e.shared 0 && restarts_stand rs es) = rw (b, restarts_stand) at t in
        ⊎_elim
        (λ same. record { before = []; here = e; after = es; whole = refl; start = sym (same ∙ eqb-true q e.start b); fresh = eqb→eq e.shared 0 (and_l (eqb e.shared 0) (restarts_stand rs es) u) })
        (λ n. at_later e (ih (and_r (eqb e.shared 0) (restarts_stand rs es) u) r n))
        (Memᴰ.cases_cons m)
    go ih ih' false b = at_later e (ih' (rw (b, restarts_stand) at t) r m)
restart_at_lem (q ∷ rs) [] t r m = elim t [ ]

-- and what is read from there on, after no key at all
pub record Restart (s : List ℕ) (r : ℕ) (es : List Entry) : Type 0 where
  pub entry_at : At r es
  pub rest : Reads s r [] (entry_at.here ∷ entry_at.after)

pub restart_reads : (s rs : List ℕ) (es : List Entry) → Reads s 0 [] es → T (restarts_stand rs es) → (r : ℕ) → Memᴰ r rs → Restart s r es
restart_reads s rs es read stand r m =
    let a = restart_at_lem rs es stand r m in
    let f = reads_from a.before a.here a.after (rw a.whole at read) in
    record { entry_at = a; rest = subst (λ (q : ℕ). Reads s q [] (a.here ∷ a.after)) a.start (reads_fresh {before = f.0} a.fresh f.1) }

-- ---- a search that starts at an entry below the target

abbrev pub EntryBefore : Entry → Entry → Type 0
EntryBefore a b = point_of a.key ≺ point_of b.key

module _ (g : Entry → Bool) (k : Point) (lower : (x : Entry) → point_of x.key ≺ k → T (not (g x))) where
  pub skip_entries : (bs : List Entry) (e : Entry) (cs : List Entry) → Pairs EntryBefore (bs ++ (e ∷ cs)) → point_of e.key ≺ k → first g (bs ++ (e ∷ cs)) ≡ first g (e ∷ cs)
  skip_entries [] e cs p h = refl
  skip_entries (b ∷ bs) e cs (Pairs.cons q qs) h =
      first_no g b (bs ++ (e ∷ cs)) (lower b (≺-trans (all_mem q (Memᴰ.append_right bs (Memᴰ.head refl))) h)) ∙ skip_entries bs e cs qs h

-- ---- how many entries at most does not matter, where it is enough

pub fuel_enough : (n m : ℕ) (s : List ℕ) (at : ℕ) (before : List ℕ) → at ≤ length s → length s < n + at → length s < m + at
    → entries_f n s at before ≡ entries_f m s at before
unfolding entries_f
fuel_enough zero m s at before w h k = absurd (omega arith)
fuel_enough (suc n) zero s at before w h k = absurd (omega arith)
fuel_enough (suc n) (suc m) s at before w h k =
    test (eqb at (length s))
    (λ t. rw (t, entries_f))
    (λ t. rw (t, entries_f) (same_steps (λ e read. let ends = entry_ends at before s w read in fuel_enough n m s (next e) e.key ends.1 (omega arith) (omega arith))))
  where
    same_steps : ((e : Entry) → entry at before (drop at s) ≡ some e → entries_f n s (next e) e.key ≡ entries_f m s (next e) e.key)
        → entry at before (drop at s) >>= (λ e. entries_f n s (next e) e.key >>= (λ es. some (e ∷ es)))
        ≡ entry at before (drop at s) >>= (λ e. entries_f m s (next e) e.key >>= (λ es. some (e ∷ es)))
    same_steps ih = go (entry at before (drop at s)) ih
      where
        go : (o : Option Entry) → ((e : Entry) → o ≡ some e → entries_f n s (next e) e.key ≡ entries_f m s (next e) e.key)
            → o >>= (λ e. entries_f n s (next e) e.key >>= (λ es. some (e ∷ es))) ≡ o >>= (λ e. entries_f m s (next e) e.key >>= (λ es. some (e ∷ es)))
        go none f = unfold ◌>>=◌ in refl
        go (some e) f = unfold ◌>>=◌ in rw (f e refl)

-- ---- values

-- an entry's value stands at its place in some bytes
pub record ValueIn (s : List ℕ) (e : Entry) : Type 0 where
  pub is : e.value ≡ part s e.value_at (length e.value)
  pub ends : e.value_at + length e.value ≤ length s

pub entry_value : (at : ℕ) (before s : List ℕ) {e : Entry} → at ≤ length s → entry at before (drop at s) ≡ some e → ValueIn s e
entry_value at before s {e} w p =
    let r = entry_read at before (drop at s) p in
    let h = r.heading in
    let a = h.size + h.fresh in
    let v = part (drop at s) a h.value_size in
    let l : length v ≡ h.value_size = part_length (drop at s) a h.value_size r.fits in
    let is : v ≡ part s (at + h.size + h.fresh) (length v) = rw (l, add_assoc) (part_drop s at a h.value_size) in
    let ends : at + h.size + h.fresh + length v ≤ length s = omega (arith, length-drop at s, r.fits) in
    rw r.is (record { is = is; ends = ends })

reads_values : {s : List ℕ} {at : ℕ} {before : List ℕ} {es : List Entry} → at ≤ length s → Reads s at before es → All (ValueIn s) es
reads_values w (Reads.done e) = All.nil
reads_values {s} {at} {before} w (Reads.more n read r) =
    All.cons (entry_value at before s w read) (reads_values (entry_ends at before s w read).1 r)

pub block_values : (s : List ℕ) {b : Block} → block s ≡ some b → All (ValueIn s) b.entries
block_values s {b} p =
    let r = block_read s p in
    all_imp
    (λ e v.
    let l = length-take r.end s in
    record { is = v.is ∙ part_take s r.end e.value_at (length e.value) (omega (arith, v.ends)); ends = omega (arith, v.ends) })
    (reads_values (omega arith) r.reads)
