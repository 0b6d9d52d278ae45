-- What is found is handed over: the answers of a reading, by what is said of the entries.
use Prim.Native.Nat.{ℕ, ◌+◌, ◌≤◌, ◌<◌}
use mathlib.Core.Path.{◌≡◌, refl, sym, ap, ◌∙◌}
use mathlib.Core.List.{List, []}
use mathlib.Core.Bool.{Bool}
use mathlib.Core.Option.{Option, none, some}
use native.Mathlib.Omega.{arith}
use lib.ListN.{length}
use borrow.Author.Tests.{le-leb, lt-leb}
use Rattle.std.specs.Prelude.{Result, Ok, Err, None, Some}
use Rattle.codec.specs.declared.put.NoRoom.{NoRoom}
use Rattle.codec.specs.Put.{Wrote}
use Rattle.codec.proofs.Prelude.{split}
use Rattle.codec.proofs.PutLaws.{put_full}
use Rattle.block_reader.specs.declared.block.BlockError.TheVariants.{NoPlace, Bad}
use Rattle.block_reader.specs.declared.block.Entry as Declared
use Rattle.block_reader.specs.declared.block.EntryRead.{EntryRead}
use Rattle.blocks.specs.Block.{Entry}
use Rattle.block_reader.specs.Said.{Found, found_answer, key_left, buffer_left, Inside, Said}
use Rattle.block_reader.specs.Steps.{Taken, hand_answer, Handed, read_from, Told, From}
use Rattle.blocks.proofs.ReadLaws.{entry_start}
use Rattle.block_reader.proofs.EntryLaws.{put_went, put_stayed}

-- ---- a key that is written to the key buffer

module _ (k key : List ℕ) (start at v : ℕ) where
  hand_room : length key ≤ length k → hand_answer k key start at v ≡ Ok (Some (record { start = start; key_len = length key; value_at = at; value_len = v }))
  unfolding hand_answer
  hand_room h = rw (le-leb (length key) (length k) h, hand_answer)

  hand_full : length k < length key → hand_answer k key start at v ≡ Err Bad
  unfolding hand_answer
  hand_full h = rw (lt-leb (length key) (length k) h, hand_answer)

  module _ {r : Result ℕ NoRoom} {k' : List ℕ} (w : Wrote k 0 key r k') where
    pub handed_none : {x : NoRoom} → r ≡ Err x → Handed k key start at v (Err Bad) k'
    handed_none e = let s = put_stayed w e in record { said = sym (hand_full (omega (arith, s.0))); left = w.left }

    pub handed_some : {n : ℕ} → r ≡ Ok n → Handed k key start at v (Ok (Some (record { start = start; key_len = n; value_at = at; value_len = v }))) k'
    handed_some {n} e =
        let s = put_went w e in
        let same : n ≡ length key = omega (arith, s.1) in
        rw same (record { said = sym (hand_room (omega (arith, s.0))); left = w.left })

-- ---- the answers of a reading

module _ (d : List ℕ) (at : ℕ) (before : List ℕ) (says : List Entry → Option (Option Entry)) (k : List ℕ) where
  -- what is read can not be read
  pub told_bad : ((es : List Entry) → read_from d at before ≡ some es → ⊥) → Told d at before says k (Err Bad) k
  told_bad h = record { answer = λ es r. absurd (h es r); buffer = λ es r. absurd (h es r); inside = refl }

  pub told_none : ((es : List Entry) → read_from d at before ≡ some es → says es ≡ some none) → Told d at before says k (Ok None) k
  unfolding found_answer buffer_left key_left
  told_none h = record { answer = λ es r. rw (h es r); buffer = λ es r. rw (h es r); inside = refl }

  pub told_no_place : ((es : List Entry) → read_from d at before ≡ some es → says es ≡ none) → Told d at before says k (Err NoPlace) k
  unfolding found_answer buffer_left
  told_no_place h = record { answer = λ es r. rw (h es r); buffer = λ es r. rw (h es r); inside = refl }

  -- an entry, whose key is handed over
  hand_found : (e : Entry) {key : List ℕ} {start a v : ℕ} → e.start ≡ start → e.key ≡ key → e.value_at ≡ a → length e.value ≡ v → hand_answer k key start a v ≡ found_answer (length k) (some (some e))
  unfolding found_answer
  hand_found e {key} {start} {a} {v} p q s t =
      split (length k) (length key)
      (λ full. hand_full k key start a v full ∙ sym (rw (q, lt-leb (length key) (length k) full, found_answer)))
      (λ room.
      let same : record { start = start; key_len = length key; value_at = a; value_len = v } ≡ record { start = e.start; key_len = length e.key; value_at = e.value_at; value_len = length e.value } = cc in
      hand_room k key start a v room ∙ ap (λ (x : Declared.Entry). Ok (Some x)) same ∙ sym (rw (le-leb (length e.key) (length k) (rw q room), found_answer)))

  told_entry : (e : Entry) {key : List ℕ} {start a v : ℕ} {r : Found} {k' : List ℕ}
      → e.start ≡ start → e.key ≡ key → e.value_at ≡ a → length e.value ≡ v → a + v ≤ length d → length key ≤ 1032
      → ((es : List Entry) → read_from d at before ≡ some es → says es ≡ some (some e)) → Handed k key start a v r k' → Told d at before says k r k'
  unfolding found_answer buffer_left key_left
  told_entry e {key} {start} {a} {v} {r} {k'} p q s t within short h w =
      record {
        answer = λ es read. w.said ∙ hand_found e p q s t ∙ ap (found_answer (length k)) (sym (h es read));
        buffer = λ es read. rw (h es read, q) w.left;
        inside =
            split (length k) (length key)
            (λ full. rw (w.said, hand_full k key start a v full) (w.left ∙ put_full k 0 key (omega arith)))
            (λ room. rw (w.said, hand_room k key start a v room) (within, short, room, (key, refl, w.left)));
      }

  -- an entry that was taken at a place, whose key is handed over
  pub told_taken : {p : ℕ} {b : List ℕ} {x : EntryRead} {key : List ℕ} (t : Taken d p b x key) {key' : List ℕ} {r : Found} {k' : List ℕ} → key' ≡ key
      → ((es : List Entry) → read_from d at before ≡ some es → says es ≡ some (some t.here)) → Handed k key' p x.value_at x.value_len r k' → Told d at before says k r k'
  told_taken t same h w =
      told_entry t.here (entry_start _ _ _ t.reads) (sym (same ∙ t.key)) t.value_at t.value_size t.within (omega (arith, ap length same, ap length t.key, t.key_size, t.room)) h w

-- ---- of the whole block

inside_more : (s d k : List ℕ) (r : Found) (k' : List ℕ) → length d ≤ length s → Inside d k r k' → Inside s k r k'
inside_more s d k (Ok (Some e)) k' h i = (omega (arith, i.0), i.1, i.2, i.3)
inside_more s d k (Ok None) k' h i = i
inside_more s d k (Err e) k' h i = i

pub said_from : (s d : List ℕ) (says : List Entry → Option (Option Entry)) (ordered : List Entry → Bool) (at : ℕ) (k : List ℕ) {r : Found} {k' : List ℕ}
    → length d ≤ length s → From s d says ordered at → Told d at [] says k r k' → Said s says ordered k r k'
said_from s d says ordered at k {r} {k'} h f t =
    record {
      answer = λ es read order. let g = f.skips es read order in t.answer g.rest g.reads ∙ ap (found_answer (length k)) (sym g.same);
      buffer = λ es read order. let g = f.skips es read order in t.buffer g.rest g.reads ∙ ap (buffer_left k) (sym g.same);
      inside = inside_more s d k r k' h t.inside;
    }
