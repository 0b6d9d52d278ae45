-- One entry, read in the code's steps: its three numbers, the two tests, and its key written over the key before.
use Prim.Native.Nat.{ℕ, suc, ◌+◌, ◌-◌, ◌≤◌, ◌<◌, min}
use mathlib.Core.Path.{◌≡◌, refl, sym, ap, ◌∙◌}
use mathlib.Core.List.{List, [], ◌++◌}
use mathlib.Core.Bool.{Bool, true, false}
use mathlib.Core.Option.{Option, none, some, some_inj, none-ne-some}
use native.Mathlib.Nat.{zero-add}
use native.Mathlib.Omega.{arith}
use lib.Dec.{leb, leb→le}
use lib.ListN.{length, take, drop, get_or, drop_of_length-le, length-append, length-take, length-drop}
use lib.Seq.{take_at, take-take, drop-drop, drop-cons}
use borrow.Author.Tests.{leb-true, le-leb, lt-leb}
use Rattle.std.specs.Prelude as code
use Rattle.std.specs.Prelude.{None, Some, Result, Ok, Err}
use Rattle.std.specs.Result.{result_ok}
use Rattle.codec.specs.Answers.{given}
use Rattle.codec.specs.Bytes.{part}
use Rattle.codec.specs.Maybe.{◌>>=◌, ask}
use Rattle.codec.specs.Put.{put, Wrote}
use Rattle.codec.specs.Varint.{Read, varint_from, varint}
use Rattle.codec.specs.declared.put.NoRoom.{NoRoom}
use Rattle.codec.proofs.BytesLaws.{part_rest, part_between, part_length}
use Rattle.codec.proofs.GivenLaws.{said}
use Rattle.codec.proofs.MaybeLaws.{getting, giving, gets}
use Rattle.codec.proofs.Prelude.{test, split, apart, came_of}
use Rattle.codec.proofs.PutLaws.{put_room, put_full, answer_room, answer_full}
use Rattle.codec.proofs.VarintCode.{varint_within}
use Rattle.codec.proofs.VarintLaws.{from_last, varint_some}
use Rattle.block_reader.specs.declared.block.EntryRead.{EntryRead}
use Rattle.block_reader.specs.declared.block.Head as Declared
use Rattle.blocks.specs.Block.{Head, head, Entry, entry, next}
use Rattle.block_reader.specs.Said.{entry_answer, key_left}
use Rattle.block_reader.specs.Steps.{head_after, head_answer, Fresh, Taken, Untaken}
use Rattle.blocks.proofs.ReadLaws.{head_size, entry_ends}

-- ---- the three numbers, by the answers on each

-- what is left behind a place, as the code lends it
abbrev pub after : List ℕ → ℕ → List ℕ
after s a = take (length s - a) (drop a s)

after_after : (s : List ℕ) (a b : ℕ) → after (after s a) b ≡ drop (a + b) s
after_after s a b = part_rest (after s a) b ∙ ap (drop b) (part_rest s a) ∙ drop-drop b a s

module _ (s : List ℕ) where
  pub no_shared : given (varint s) ≡ None → None ≡ head_answer (head s)
  unfolding head_answer head ◌>>=◌
  no_shared e = rw (said (varint s) e)

  module _ {a : Read} (first : given (varint s) ≡ Some a) where
    pub no_fresh : given (varint (after s a.size)) ≡ None → None ≡ head_answer (head s)
    unfolding head_answer head ◌>>=◌
    no_fresh e =
        let p = said (varint s) first in
        let q = said (varint (drop a.size s)) (rw (part_rest s a.size) at e) in
        cc

    module _ {b : Read} (second : given (varint (after s a.size)) ≡ Some b) where
      pub no_value : given (varint (after (after s a.size) b.size)) ≡ None → None ≡ head_answer (head s)
      unfolding head_answer head ◌>>=◌
      no_value e =
          let p = said (varint s) first in
          let q = said (varint (drop a.size s)) (rw (part_rest s a.size) at second) in
          let r = said (varint (drop (a.size + b.size) s)) (rw (after_after s a.size b.size) at e) in
          cc

      module _ {c : Read} (third : given (varint (after (after s a.size) b.size)) ≡ Some c) where
        pub whole_head : Some (record { shared = a.value; fresh = b.value; value_size = c.value; size = a.size + b.size + c.size }) ≡ head_answer (head s)
        unfolding head_answer head ◌>>=◌
        whole_head =
            let p = said (varint s) first in
            let q = said (varint (drop a.size s)) (rw (part_rest s a.size) at second) in
            let r = said (varint (drop (a.size + b.size) s)) (rw (after_after s a.size b.size) at third) in
            cc

        pub head_fits : a.size + b.size + c.size ≤ length s
        head_fits =
            omega (
              arith,
              varint_within s first,
              varint_within (after s a.size) second,
              varint_within (after (after s a.size) b.size) third,
              ap length (after_after s a.size b.size),
              ap length (part_rest s a.size),
              length-drop a.size s,
              length-drop (a.size + b.size) s,
            )

-- each is one byte

one_byte : (s : List ℕ) (i : ℕ) → i < length s → get_or s i 0 < 128 → varint (drop i s) ≡ some (record { value = get_or s i 0; size = 1 })
one_byte s i l h = rw (drop-cons s i 0 l) (varint_some _ _ (from_last 9 (get_or s i 0) (drop (suc i) s) h) (omega arith))

pub short_head : (s : List ℕ) → 3 ≤ length s → get_or s 0 0 < 128 → get_or s 1 0 < 128 → get_or s 2 0 < 128
    → Some (record { shared = get_or s 0 0; fresh = get_or s 1 0; value_size = get_or s 2 0; size = 3 }) ≡ head_answer (head s)
unfolding head_answer head ◌>>=◌
short_head s l f g h =
    let p = one_byte s 0 (omega arith) f in
    let q = one_byte s 1 (omega arith) g in
    let r = one_byte s 2 (omega arith) h in
    cc

-- ---- the two tests

-- the numbers that an answer says
abbrev head_of : Declared.Head → Head
head_of h = record { shared = h.shared; fresh = h.fresh; value_size = h.value_size; size = h.size }

abbrev head_in : code.Option Declared.Head → Option Head
head_in None = none
head_in (Some h) = some (head_of h)

head_said : (o : Option Head) {r : code.Option Declared.Head} → head_answer o ≡ r → o ≡ head_in r
unfolding head_answer
head_said = came_of head_answer head_in (λ o. elim o as (λ o. head_in (head_answer o) ≡ o) [ none ↦ refl | some h ↦ refl ])

pub numbers_within : (rest : List ℕ) {h : Declared.Head} → head_answer (head rest) ≡ Some h → h.size ≤ length rest
numbers_within rest e = (head_size rest (head_said (head rest) e)).there

module _ (n : ℕ) (rest : List ℕ) where
  pub no_numbers : head_answer (head rest) ≡ None → None ≡ head_answer (head_after n rest)
  unfolding head_answer head_after ◌>>=◌
  no_numbers e = rw (head_said (head rest) e)

  module _ {h : Declared.Head} (e : head_answer (head rest) ≡ Some h) where
    pub shares_more : n < h.shared → None ≡ head_answer (head_after n rest)
    unfolding head_answer head_after ◌>>=◌ ask
    shares_more s =
        let p = head_said (head rest) e in
        cc (lt-leb h.shared n s)

    pub not_within : h.shared ≤ n → length rest < h.size + h.fresh + h.value_size → None ≡ head_answer (head_after n rest)
    unfolding head_answer head_after ◌>>=◌ ask
    not_within s l =
        let p = head_said (head rest) e in
        cc (le-leb h.shared n s, lt-leb (h.size + h.fresh + h.value_size) (length rest) l)

    pub head_stands : h.shared ≤ n → h.size + h.fresh + h.value_size ≤ length rest → Some h ≡ head_answer (head_after n rest)
    unfolding head_answer head_after ◌>>=◌ ask
    head_stands s l =
        let p = head_said (head rest) e in
        cc (le-leb h.shared n s, le-leb (h.size + h.fresh + h.value_size) (length rest) l)

-- ---- the entry that the numbers make

abbrev made : ℕ → List ℕ → List ℕ → Head → Entry
made at before rest h =
    record {
      start = at;
      shared = h.shared;
      key = take h.shared before ++ part rest h.size h.fresh;
      value_at = at + h.size + h.fresh;
      value = part rest (h.size + h.fresh) h.value_size;
    }

entry_by : (at : ℕ) (before rest : List ℕ) → entry at before rest ≡ head_after (length before) rest >>= (λ h. some (made at before rest h))
unfolding entry head_after ◌>>=◌ ask
entry_by at before rest = go (head rest)
  where
    asked : (p q : Bool) (h : Head) → ask p >>= (λ _. ask q >>= (λ _. some (made at before rest h))) ≡ ask p >>= (λ _. ask q >>= (λ _. some h)) >>= (λ h. some (made at before rest h))
    asked true true h = refl
    asked true false h = refl
    asked false q h = refl

    go : (o : Option Head)
        → o >>= (λ h. ask (leb h.shared (length before)) >>= (λ _. ask (leb (h.size + h.fresh + h.value_size) (length rest)) >>= (λ _. some (made at before rest h))))
        ≡ o >>= (λ h. ask (leb h.shared (length before)) >>= (λ _. ask (leb (h.size + h.fresh + h.value_size) (length rest)) >>= (λ _. some h))) >>= (λ h. some (made at before rest h))
    go none = refl
    go (some h) = asked (leb h.shared (length before)) (leb (h.size + h.fresh + h.value_size) (length rest)) h

pub entry_none : (at : ℕ) (before rest : List ℕ) (n : ℕ) → n ≡ length before → head_answer (head_after n rest) ≡ None → entry at before rest ≡ none
unfolding ◌>>=◌
entry_none at before rest n l e =
    let p = entry_by at before rest in
    let q : head_after (length before) rest ≡ none = head_said (head_after (length before) rest) (rw l at e) in
    cc

-- what it is made of, in numbers
pub record Made (at : ℕ) (before rest : List ℕ) (h : Declared.Head) : Type 0 where
  pub here : Entry
  pub reads : entry at before rest ≡ some here
  pub shared : here.shared ≡ h.shared
  pub key : here.key ≡ take h.shared before ++ part rest h.size h.fresh
  pub key_size : length here.key ≡ h.shared + h.fresh
  pub value_at : here.value_at ≡ at + h.size + h.fresh
  pub value_size : length here.value ≡ h.value_size
  pub shares : h.shared ≤ length before
  pub fits : h.size + h.fresh + h.value_size ≤ length rest

-- the tests that an entry's numbers passed
record Passing (n : ℕ) (rest : List ℕ) (h : Head) : Type 0 where
  shares : h.shared ≤ n
  fits : h.size + h.fresh + h.value_size ≤ length rest

passing : (n : ℕ) (rest : List ℕ) {h : Head} → head_after n rest ≡ some h → Passing n rest h
unfolding head_after
passing n rest {h} p =
    getting _ _ p λ g reads p.
    giving _ _ p λ shares p.
    giving _ _ p λ fits p.
    let r : Passing n rest g = record { shares = leb→le _ _ shares; fits = leb→le _ _ fits } in
    rw (some_inj.0 p) at r

pub entry_made : (at : ℕ) (before rest : List ℕ) (n : ℕ) {h : Declared.Head} → n ≡ length before → head_answer (head_after n rest) ≡ Some h → Made at before rest h
entry_made at before rest n {h} l e =
    let q : head_after (length before) rest ≡ some (head_of h) = head_said (head_after (length before) rest) (rw l at e) in
    let p = passing (length before) rest q in
    let s : h.shared ≤ length before = p.shares in
    let f : h.size + h.fresh + h.value_size ≤ length rest = p.fits in
    record {
      here = made at before rest (head_of h);
      reads = entry_by at before rest ∙ gets _ _ q refl;
      shared = refl;
      key = refl;
      key_size = simp length-append (omega (arith, length-take h.shared before, part_length rest h.size h.fresh (omega arith)));
      value_at = refl;
      value_size = part_length rest (h.size + h.fresh) h.value_size f;
      shares = s;
      fits = f;
    }

-- ---- the answer, and what is left in the key buffer

-- what reading the entry that o is answers and leaves
pub record Answered (k : List ℕ) (o : Option Entry) (r : code.Option EntryRead) (k' : List ℕ) : Type 0 where
  pub said : r ≡ entry_answer (length k) o
  pub left : k' ≡ key_left k o

pub answered_none : (k : List ℕ) {o : Option Entry} → o ≡ none → Answered k o None k
unfolding entry_answer key_left
answered_none k e = rw e (record { said = refl; left = refl })

-- no room for the key
pub answered_full : (k : List ℕ) {o : Option Entry} {e : Entry} → o ≡ some e → length k < length e.key → Answered k o None k
unfolding entry_answer key_left
answered_full k {o} {e} p h =
    rw p (record { said = rw (lt-leb (length e.key) (length k) h, entry_answer); left = sym (put_full k 0 e.key (omega arith)) })

pub answered_room : (k : List ℕ) {o : Option Entry} {e : Entry} {sh n at v : ℕ} {k' : List ℕ} → o ≡ some e → sh ≡ e.shared → n ≡ length e.key → at ≡ e.value_at → v ≡ length e.value
    → n ≤ length k → k' ≡ put k 0 e.key → Answered k o (Some (record { shared = sh; key_len = n; value_at = at; value_len = v })) k'
unfolding entry_answer key_left
answered_room k {o} {e} {sh} {n} {at} {v} {k'} p a b c d h w =
    rw p (record { said = rw (a, b, c, d, le-leb (length e.key) (length k) (omega arith), entry_answer); left = w })

-- the tail of a key written behind what it shares with the key before, which stands at the front of the buffer
put_tail : (k : List ℕ) (n sh : ℕ) (tail : List ℕ) → sh ≤ length (take n k) → sh + length tail ≤ length k → put k sh tail ≡ put k 0 (take sh (take n k) ++ tail)
put_tail k n sh tail s h =
    let l = length-take n k in
    let m : length (take sh k ++ tail) ≡ sh + length tail = length-append (take sh k) tail ∙ omega (arith, length-take sh k) in
    let t : take sh (take n k) ≡ take sh k = take-take sh n k (omega arith) in
    rw t (put_room k sh tail h ∙ sym (put_room k 0 (take sh k ++ tail) (omega arith) ∙ rw (m, zero-add)))

-- a write that answered: where there was room, and where not
pub put_went : {d : List ℕ} {at : ℕ} {bs : List ℕ} {r : Result ℕ NoRoom} {e : List ℕ} {n : ℕ} → Wrote d at bs r e → r ≡ Ok n → (at + length bs ≤ length d) × (n ≡ at + length bs)
put_went {d} {at} {bs} {r} {e} {n} w p =
    split (length d) (at + length bs)
    (λ h. let f = w.said ∙ answer_full d at bs h in apart cc)
    (λ h. let f = w.said ∙ answer_room d at bs h in (h, cc))

pub put_stayed : {d : List ℕ} {at : ℕ} {bs : List ℕ} {r : Result ℕ NoRoom} {e : List ℕ} {x : NoRoom} → Wrote d at bs r e → r ≡ Err x → (length d < at + length bs) × (e ≡ d)
put_stayed {d} {at} {bs} w p =
    split (length d) (at + length bs)
    (λ h. (h, w.left ∙ put_full d at bs h))
    (λ h. let f = w.said ∙ answer_room d at bs h in apart cc)

-- what is left of an answer where only its place is taken
ok_some : (r : Result ℕ NoRoom) {n : ℕ} → Some n ≡ result_ok r → r ≡ Ok n
ok_some (Ok m) e = cc
ok_some (Err x) e = apart cc

ok_none : (r : Result ℕ NoRoom) → None ≡ result_ok r → (x : NoRoom) × (r ≡ Err x)
ok_none (Ok m) e = apart cc
ok_none (Err x) e = (x, refl)

module _ (k rest : List ℕ) (n : ℕ) where
  pub read_none : head_answer (head_after (min n (length k)) rest) ≡ None → Answered k (entry 0 (take n k) rest) None k
  read_none e = answered_none k (entry_none 0 (take n k) rest (min n (length k)) (sym (length-take n k)) e)

  module _ {h : Declared.Head} (e : head_answer (head_after (min n (length k)) rest) ≡ Some h) where
    pub entry_here : Made 0 (take n k) rest h
    entry_here = entry_made 0 (take n k) rest (min n (length k)) (sym (length-take n k)) e

    -- the tail of its key, as the code lends it
    abbrev tail : List ℕ
    tail = take (h.size + h.fresh - h.size) (drop h.size rest)

    tail_is : tail ≡ part rest h.size h.fresh
    tail_is = part_between rest h.size h.fresh

    tail_length : length tail ≡ h.fresh
    tail_length = ap length tail_is ∙ part_length rest h.size h.fresh (omega (arith, entry_here.fits))

    module _ {r : Result ℕ NoRoom} {k' : List ℕ} (w : Wrote k h.shared tail r k') where
      pub read_full : None ≡ result_ok r → Answered k (entry 0 (take n k) rest) None k'
      read_full p =
          let s = put_stayed w (ok_none r p).1 in
          rw s.1 (answered_full k entry_here.reads (omega (arith, s.0, entry_here.key_size, tail_length)))

      pub read_whole : {m : ℕ} → Some m ≡ result_ok r
          → Answered k (entry 0 (take n k) rest) (Some (record { shared = h.shared; key_len = m; value_at = h.size + h.fresh; value_len = h.value_size })) k'
      read_whole p =
          let m = entry_here in
          let s = put_went w (ok_some r p) in
          answered_room k m.reads (sym m.shared) (omega (arith, s.1, tail_length, m.key_size)) (omega (arith, m.value_at)) (sym m.value_size) (omega (arith, s.0, s.1))
          (w.left ∙ put_tail k n h.shared tail m.shares s.0 ∙ ap (λ (t : List ℕ). put k 0 (take h.shared (take n k) ++ t)) tail_is ∙ ap (put k 0) (sym m.key))

-- ---- an entry at a place of d

abbrev pub moved_answer : ℕ → code.Option EntryRead → code.Option EntryRead
moved_answer at None = None
moved_answer at (Some e) = Some (record e { value_at = at + e.value_at })

answer_moved : (n at : ℕ) (before rest : List ℕ) → entry_answer n (entry at before rest) ≡ moved_answer at (entry_answer n (entry 0 before rest))
unfolding ◌>>=◌ entry_answer
answer_moved n at before rest = rw (entry_by at before rest, entry_by 0 before rest) (go (head_after (length before) rest))
  where
    go : (o : Option Head) → entry_answer n (o >>= (λ h. some (made at before rest h))) ≡ moved_answer at (entry_answer n (o >>= (λ h. some (made 0 before rest h))))
    go none = refl
    go (some h) =
        let l = length (take h.shared before ++ part rest h.size h.fresh) in
        let e : at + h.size + h.fresh ≡ at + (0 + h.size + h.fresh) = omega arith in
        test (leb l n) (λ t. rw (t, entry_answer, ← e)) (λ t. rw (t, entry_answer))

left_moved : (k : List ℕ) (at : ℕ) (before rest : List ℕ) → key_left k (entry at before rest) ≡ key_left k (entry 0 before rest)
unfolding ◌>>=◌ key_left
left_moved k at before rest = rw (entry_by at before rest, entry_by 0 before rest) (go (head_after (length before) rest))
  where
    go : (o : Option Head) → key_left k (o >>= (λ h. some (made at before rest h))) ≡ key_left k (o >>= (λ h. some (made 0 before rest h)))
    go none = refl
    go (some h) = refl

module _ (k before d : List ℕ) (at : ℕ) where
  pub at_said : {r : code.Option EntryRead} → entry_answer (length k) (entry 0 before (after d at)) ≡ r → moved_answer at r ≡ entry_answer (length k) (entry at before (drop at d))
  at_said e = sym (answer_moved (length k) at before (drop at d) ∙ ap (moved_answer at) (rw (part_rest d at) at e))

  pub at_left : {k' : List ℕ} → k' ≡ key_left k (entry 0 before (after d at)) → k' ≡ key_left k (entry at before (drop at d))
  at_left e = (rw (part_rest d at) at e) ∙ sym (left_moved k at before (drop at d))

bad_entry : {x : EntryRead} → None ≡ Some x → ⊥
bad_entry e = apart cc

-- none was read: there is none, or its key is longer than the buffer
pub no_step : {m : ℕ} {o : Option Entry} {e : Entry} → entry_answer m o ≡ None → o ≡ some e → length e.key ≤ m → ⊥
unfolding entry_answer
no_step {m} {o} {e} b p h =
    let f : entry_answer m (some e) ≡ None = rw p at b in
    bad_entry (sym (rw (le-leb (length e.key) m h, entry_answer) at f))

-- its key then stands at the front
key_stands : (k : List ℕ) {o : Option Entry} {e : Entry} {k' : List ℕ} (n : ℕ) → o ≡ some e → length e.key ≡ n → n ≤ length k → k' ≡ key_left k o → take n k' ≡ e.key
unfolding key_left
key_stands k {o} {e} {k'} n p l h w =
    let q : k' ≡ put k 0 e.key = rw p at w in
    ap (take n) (q ∙ put_room k 0 e.key (omega arith)) ∙ take_at e.key (drop (0 + length e.key) k) n l

-- an entry that was read into a buffer of 1,032 bytes, the first m of which were the key before
pub taken : (d : List ℕ) (at : ℕ) (k : List ℕ) (m : ℕ) {k' : List ℕ} {e : EntryRead} → at ≤ length d → length k ≡ 1032 → entry_answer (length k) (entry at (take m k) (drop at d)) ≡ Some e
    → k' ≡ key_left k (entry at (take m k) (drop at d)) → Taken d at (take m k) e (take e.key_len k')
unfolding entry_answer next
taken d at k m {k'} {e} w long said left = go (entry at (take m k) (drop at d)) refl said
  where
    go : (o : Option Entry) → entry at (take m k) (drop at d) ≡ o → entry_answer (length k) o ≡ Some e → Taken d at (take m k) e (take e.key_len k')
    go none r p = absurd (bad_entry p)
    go (some x) r p =
        test (leb (length x.key) (length k))
        (λ t.
        let f : Some (record { shared = x.shared; key_len = length x.key; value_at = x.value_at; value_len = length x.value }) ≡ Some e = rw (t, entry_answer) at p in
        let same : record { shared = x.shared; key_len = length x.key; value_at = x.value_at; value_len = length x.value } ≡ e = cc in
        let a : x.value_at ≡ e.value_at = ap (λ (y : EntryRead). y.value_at) same in
        let v : length x.value ≡ e.value_len = ap (λ (y : EntryRead). y.value_len) same in
        let l : length x.key ≡ e.key_len = ap (λ (y : EntryRead). y.key_len) same in
        let ends = entry_ends at (take m k) d w r in
        let is : next x ≡ e.value_at + e.value_len = omega arith in
        let fits = leb-true (length x.key) (length k) t in
        record {
          here = x;
          reads = r;
          shared = ap (λ (y : EntryRead). y.shared) same;
          key = key_stands k e.key_len r l (omega arith) left;
          key_size = l;
          value_at = a;
          value_size = v;
          room = omega arith;
          ends = is;
          up = omega arith;
          within = omega arith;
        })
        (λ t. absurd (bad_entry (rw (t, entry_answer) at p)))

pub taken_length : {d : List ℕ} {at : ℕ} {before : List ℕ} {e : EntryRead} {key : List ℕ} → Taken d at before e key → length key ≡ e.key_len
taken_length t = ap length t.key ∙ t.key_size

-- past the end no entry starts
pub none_past : (d : List ℕ) (at : ℕ) (before : List ℕ) → length d < at → Untaken d at before
unfolding entry head varint varint_from ◌>>=◌
none_past d at before h e reads short =
    let past : drop at d ≡ [] = drop_of_length-le d {i = at} (omega arith) in
    none-ne-some e (rw past at reads)

-- ---- an entry that is read after no key

pub fresh_none : (d : List ℕ) (at : ℕ) → head_answer (head_after 0 (after d at)) ≡ None → entry at [] (drop at d) ≡ none
fresh_none d at e = entry_none at [] (drop at d) 0 refl (rw (part_rest d at) at e)

module _ (d : List ℕ) (at : ℕ) {h : Declared.Head} (e : head_answer (head_after 0 (after d at)) ≡ Some h) where
  fresh_made : Made at [] (drop at d) h
  fresh_made = entry_made at [] (drop at d) 0 refl (rw (part_rest d at) at e)

  pub fresh_within : h.size + h.fresh ≤ length (after d at)
  fresh_within = omega (arith, fresh_made.fits, ap length (part_rest d at))

  pub fresh_some : Fresh d at (take (h.size + h.fresh - h.size) (drop h.size (after d at)))
  fresh_some =
      let none_shared : h.shared ≡ 0 = omega (arith, fresh_made.shares) in
      record {
        here = fresh_made.here;
        reads = fresh_made.reads;
        is = fresh_made.key ∙ rw (none_shared, part_rest d at) (sym (part_between (drop at d) h.size h.fresh));
      }
