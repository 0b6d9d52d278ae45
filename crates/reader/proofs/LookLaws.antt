-- A lookup through the index and the filter: the answer is that of the plain reading.
use Prim.Native.Nat.{ℕ, ◌%◌}
use mathlib.Core.Path.{◌≡◌, refl, sym, ◌∙◌, ap, subst}
use mathlib.Core.List.Memᴰ
use mathlib.Core.List.{List, ◌∷◌}
use mathlib.Core.Bool.{Bool, true, false, not, false≢true}
use mathlib.Core.Option.{Option, none, some, map}
use lib.Dec.{T, eqb}
use lib.ListN.{length, take}
use Rattle.std.specs.Prelude as code
use Rattle.codec.specs.Answers.{given}
use Rattle.codec.specs.Bytes.{part, same_bytes}
use Rattle.codec.specs.Maybe.{first}
use Rattle.codec.specs.Varint.{Handle}
use Rattle.codec.proofs.Prelude.{test, is_true, apart}
use Rattle.keys.specs.Order.{Point, user_of, tag_of, kind_of}
use Rattle.blocks.specs.Block.{Entry, pairs_of}
use Rattle.blocks.specs.Formed.{meta_block}
use Rattle.blocks.specs.Search.{readable, reaches, seek_in}
use Rattle.blocks.proofs.FormedLaws.{formed_readable}
use Rattle.filters.specs.Filter.{hash}
use Rattle.filters.specs.FilterBlock.{may_match}
use Rattle.table_block.specs.Answers.{BloomRead}
use Rattle.table.specs.Checked.{pass}
use Rattle.table.specs.Table
use Rattle.table.specs.Table.{Footer, ends_before, placed, sealed, contents, bloom_handle, filter_of, may_hold, Opened, opened, handle_of, entries_at, found_in, founds_of}
use Rattle.table.specs.Promise.{Passed, lookup_of}
use Rattle.table.specs.Reads.{Answer, refused, nothing, found, deleted, by_kind, lookup_says, listed}
use Rattle.table.proofs.CheckedLaws.{passing, asking, pass_same}
use Rattle.table.proofs.ReadsLaws.{by_kind_lem}
use Rattle.table.proofs.SearchLaws.{only_word, for_by_reach, lookup_beyond, lookup_law, filter_law}
use Rattle.table.proofs.StandLaws.{sorted_tells, Laid, Settled}
use Rattle.reader.specs.declared.table_reader.Entry as EntryStruct
use Rattle.reader.specs.declared.table_reader.Found.TheVariants as FoundCase
use Rattle.std.specs.Prelude.{Result, Ok, Err, None, Some}
use Rattle.table_block.specs.declared.refusal.Refusal.{Refusal}
use Rattle.table_block.specs.declared.refusal.Refusal.TheVariants as Why
use Rattle.table_block.specs.Refusals.{number}
use Rattle.table_block.proofs.RefusalLaws.{refusal_number, ok_is, err_not_ok}
use Rattle.reader.specs.declared.table_reader.Located.{Located}
use Rattle.reader.specs.Answers.{entry_of, Sought, sought_of, Looked, looked_of}
use Rattle.reader.specs.Parts.{Indexed, Named, Locating, block_at, Sees, say_at, Says, Holds, Tells, Fair, HeldIs, of_word, Kinded, IsKinded}
use Rattle.reader.proofs.AnswerLaws.{shows, by_entry, tells_none}
use Rattle.reader.proofs.PassedLaws.{passed_opens}
use Rattle.reader.proofs.LocateLaws.{block_said}
use Rattle.reader.proofs.LaterLaws.{laid_from}
use Rattle.reader.proofs.FindLaws.{all_below, block_split, first_found}

-- ---- the filter

-- the metaindex of a passed table, and the filter that it names
record Meta (t : List ℕ) (h : Handle) (o : Opened) : Type 0 where
  entries : List Entry
  reads : readable (contents t h) ≡ some entries
  filter : filter_of t (bloom_handle (pairs_of entries)) ≡ pass o.filter

meta : (t : List ℕ) {h : Handle} → Named t h → {o : Opened} → opened t ≡ pass o → Meta t h o
unfolding opened
meta t {h} n {o} op =
    passing _ _ op λ ft foot r.
    passing _ _ r λ ms meta r.
    passing _ _ r λ ixs index r.
    passing _ _ r λ f filter r.
    let h_is : ft.metaindex ≡ h = ap (λ (x : Footer). x.metaindex) (pass_same (sym foot ∙ n.reads)) ∙ n.metaindex in
    record {
      entries = ms;
      reads = rw (← h_is) (formed_readable meta_block (contents t ft.metaindex) (sorted_tells meta_block t ft.metaindex meta).0);
      filter = filter ∙ ap (λ (x : Opened). pass x.filter) (pass_same r);
    }

filter_none : (t : List ℕ) (o : Option Handle) {f : Option (List ℕ)} → filter_of t o ≡ pass f → given o ≡ None → f ≡ none
unfolding filter_of given
filter_none t none e a = sym (pass_same e)
filter_none t (some h) e a = apart cc

record Filtered (t : List ℕ) (h : Handle) (f : Option (List ℕ)) : Type 0 where
  inside : ends_before (length t) h.offset h.size ≡ true
  is : f ≡ some (contents t h)

filter_some : (t : List ℕ) (o : Option Handle) {f : Option (List ℕ)} {g : Handle} → filter_of t o ≡ pass f → given o ≡ Some g → Filtered t g f
unfolding filter_of given placed sealed
filter_some t none e g_is = apart cc
filter_some t (some h) {f} {g} e g_is =
    asking _ _ _ e λ inside p.
    asking _ _ _ p λ intact p.
    asking _ _ _ p λ formed p.
    let x : h ≡ g = cc in
    let there : ends_before (length t) h.offset h.size ≡ true = is_true _ inside in
    let r : Filtered t h f = record { inside = there; is = sym (pass_same p) } in
    rw x at r

module _ (t : List ℕ) {at : Handle} (n : Named t at) (offset : ℕ) (word : List ℕ) {s : List ℕ} {r : code.Option Handle} (s_is : s ≡ part t at.offset at.size) (b : BloomRead s r) where
  answered : {o : Opened} (op : opened t ≡ pass o) → r ≡ given (bloom_handle (pairs_of (meta t n op).entries))
  unfolding contents
  answered op = b.answer (meta t n op).entries (rw s_is (meta t n op).reads)

  pub held_none : r ≡ None → HeldIs t offset word (Ok true)
  unfolding may_hold
  held_none e =
      record {
        passed = λ p o op. sym (ap (λ (f : Option (List ℕ)). Ok (may_hold f offset word)) (filter_none t _ (meta t n op).filter (sym (answered op) ∙ e)));
        fair = tt;
      }

  module _ {h : Handle} (e : r ≡ Some h) where
    there : {o : Opened} → opened t ≡ pass o → Filtered t h o.filter
    there op = filter_some t _ (meta t n op).filter (sym (answered op) ∙ e)

    pub held_far : ends_before (length t) h.offset h.size ≡ false → HeldIs t offset word (Err Why.Outside)
    unfolding listed
    held_far f = record { passed = λ p o op. absurd (false≢true (sym f ∙ (there op).inside)); fair = tt }

    pub held_is : (m : Bool) {d : List ℕ} {x : ℕ} → d ≡ part t h.offset h.size → x ≡ hash word → m ≡ may_match d offset x → HeldIs t offset word (Ok m)
    unfolding may_hold contents
    held_is m {d} d_is x_is f =
        record {
          passed = λ p o op. ap Ok (f ∙ ap (may_match d offset) x_is ∙ ap (λ (d : List ℕ). may_match d offset (hash word)) d_is ∙ sym (ap (λ (g : Option (List ℕ)). may_hold g offset word) (there op).is));
          fair = tt;
        }

-- ---- the word and the kind

kind_shown : (x : Table.Found) → sought_of (by_kind (some x)) ≡ Ok (Some (entry_of x))
unfolding sought_of
kind_shown x = by_kind_lem (λ (a : Answer). sought_of a ≡ Ok (Some (entry_of x))) x (λ e. refl) (λ e. refl)

-- an entry, or none where a test of it fails
abbrev pub kept_if : EntryStruct.Entry → Bool → Sought
kept_if e true = Ok (Some e)
kept_if e false = Ok None

module _ {r : Sought} (w : List ℕ) (a : Answer) (shown : r ≡ sought_of a) where
  pub word_refused : {why : Refusal} → r ≡ Err why → Err why ≡ sought_of (of_word w a)
  unfolding sought_of of_word
  word_refused e = let s = shows a shown e in rw s.2 (ap Err (sym s.1))

  pub word_none : r ≡ Ok None → Ok None ≡ sought_of (of_word w a)
  unfolding sought_of of_word
  word_none e = rw (shows a shown e)

  module _ (b : List ℕ) {e : EntryStruct.Entry} (is : r ≡ Ok (Some e)) where
    -- by the bytes in the buffer
    pub word_is : {m : Bool} → m ≡ same_bytes (user_of (take e.key_len b)) w → Holds a b → kept_if e m ≡ sought_of (of_word w a)
    unfolding sought_of of_word
    word_is {m} f holds = by_entry (λ (a : Answer). kept_if e m ≡ sought_of (of_word w a)) b a shown is holds go go
      where
        go : (x : Table.Found) → entry_of x ≡ e → take e.key_len b ≡ x.key → kept_if e m ≡ sought_of (of_word w (found x))
        go x s k =
            let n : m ≡ same_bytes (user_of x.key) w = f ∙ ap (λ (k : List ℕ). same_bytes (user_of k) w) k in
            rw n (test (same_bytes (user_of x.key) w) (λ t. rw (t, of_word) (ap (λ (y : EntryStruct.Entry). kept_if y true) (sym s) ∙ sym (kind_shown x))) (λ t. rw (t, of_word)))

-- an answer of a word has its key where it was, lies in the table, and goes by its kind
abbrev Kept : List ℕ → List ℕ → Answer → Type 0
Kept t b a = Holds a b × T (listed t a) × Kinded a

kept : (t b : List ℕ) (x : Table.Found) → take (length x.key) b ≡ x.key → T (listed t (found x)) → Kept t b (by_kind (some x))
unfolding listed
kept t b x h i = by_kind_lem (Kept t b) x (λ e. (h, i, e)) (λ e. (h, i, e))

word_kept : (t b w : List ℕ) (a : Answer) → Holds a b → T (listed t a) → Kept t b (of_word w a)
unfolding of_word listed
word_kept t b w (refused n) h i = (tt, i, tt)
word_kept t b w nothing h i = (tt, tt, tt)
word_kept t b w (found x) h i = test (same_bytes (user_of x.key) w) (λ e. rw (e, of_word) (kept t b x h i)) (λ e. rw (e, of_word) (tt, tt, tt))
word_kept t b w (deleted x) h i = test (same_bytes (user_of x.key) w) (λ e. rw (e, of_word) (kept t b x h i)) (λ e. rw (e, of_word) (tt, tt, tt))

-- an entry as a deletion, or as a value
abbrev pub kind_if : EntryStruct.Entry → Bool → Looked
kind_if e true = Ok (FoundCase.Deleted e)
kind_if e false = Ok (FoundCase.Entry e)

-- the kind, as code reads it
module _ {r : Sought} (a : Answer) (shown : r ≡ sought_of a) where
  pub kind_refused : {why : Refusal} → r ≡ Err why → Err why ≡ looked_of a
  unfolding looked_of
  kind_refused e = let s = shows a shown e in rw s.2 (ap Err (sym s.1))

  pub kind_none : r ≡ Ok None → Ok FoundCase.Absent ≡ looked_of a
  unfolding looked_of
  kind_none e = rw (shows a shown e)

  module _ (b : List ℕ) {e : EntryStruct.Entry} (is : r ≡ Ok (Some e)) where
    kind_key : {k : List ℕ} → take e.key_len b ≡ k → eqb (kind_of k) 0 ≡ eqb (tag_of (take e.key_len b) % 256) 0
    unfolding kind_of
    kind_key k_is = ap (λ (k : List ℕ). eqb (tag_of k % 256) 0) (sym k_is)

    pub kind_is : {m : Bool} → eqb (tag_of (take e.key_len b) % 256) 0 ≡ m → Holds a b → Kinded a → kind_if e m ≡ looked_of a
    unfolding looked_of
    kind_is {m} f holds =
        by_entry (λ (a : Answer). Kinded a → kind_if e m ≡ looked_of a) b a shown is holds
        (λ x s k kind. let n : m ≡ false = sym f ∙ sym (kind_key k) ∙ kind in rw n (ap (λ (y : EntryStruct.Entry). kind_if y false) (sym s)))
        (λ x s k kind. let n : m ≡ true = sym f ∙ sym (kind_key k) ∙ kind in rw n (ap (λ (y : EntryStruct.Entry). kind_if y true) (sym s)))

-- ---- through the index

-- the first for a point in a block
word_said : (p : Point) (ix : Entry) (o : Option Entry) → of_word p.word (say_at ix.start (handle_of ix.value).offset (some o)) ≡ by_kind (only_word p (map (found_in ix) o))
unfolding of_word say_at by_kind
word_said p ix none = refl
word_said p ix (some e) = test (same_bytes (user_of e.key) p.word) (λ t. rw (t, of_word, only_word)) (λ t. rw (t, of_word, only_word))

settled : {t : List ℕ} {f : Option (List ℕ)} {ix : Entry} {cs : List Entry} → Laid t f (ix ∷ cs) → Settled t f ix cs
settled (Laid.cons s l) = s

module _ (t : List ℕ) {h : Handle} (i : Indexed t h) (p : Point) where
  abbrev says : Answer
  says = lookup_says t p

  module _ {absent : Refusal} {r : Locating} (ir : Sees t h absent (seek_in p) r) where
    pub look_none : {b : List ℕ} → r ≡ Ok None → Tells sought_of t (IsKinded t says) (Ok None) b
    unfolding by_kind lookup_says
    look_none e = tells_none t (IsKinded t says) (λ q. let o = passed_opens t i q in sym (ap by_kind (lookup_beyond t p o.table q o.opens (all_below t i p ir e q))), tt)

    module _ {block : Located} (e : r ≡ Ok (Some block)) where
      module _ {m : Result Bool Refusal} (held : HeldIs t block.handle.offset p.word m) where
        pub look_unheld : {why : Refusal} {b : List ℕ} → m ≡ Err why → Tells sought_of t (IsKinded t says) (Err why) b
        unfolding sought_of
        look_unheld {why} f =
            record {
              answer = refused (number why);
              shown = ap Err (sym (refusal_number why));
              holds = tt;
              inside = subst (Fair t) f held.fair;
              is = (λ q. let o = passed_opens t i q in err_not_ok (sym f ∙ held.passed q o.table o.opens), tt);
            }

        pub look_denied : {b : List ℕ} → m ≡ Ok false → Tells sought_of t (IsKinded t says) (Ok None) b
        unfolding block_at by_kind lookup_says
        look_denied f = tells_none t (IsKinded t says) (go, tt)
          where
            denied : (b : Bool) → false ≡ b → T (not b)
            denied true e = absurd (false≢true e)
            denied false e = tt

            go : Passed t → nothing ≡ by_kind (lookup_of t p)
            go q =
                let o = passed_opens t i q in
                let n = block_split t i p ir e q in
                let s = n.0 in
                let z : Ok (Some block) ≡ block_at absent (some (some s.here)) = n.1 in
                let block_is : block ≡ record { start = s.here.start; handle = handle_of s.here.value } = cc in
                let y : block.handle.offset ≡ (handle_of s.here.value).offset = ap (λ (b : Located). b.handle.offset) block_is in
                let h : false ≡ may_hold o.table.filter block.handle.offset p.word = ok_is (sym f ∙ held.passed q o.table o.opens) in
                sym (ap by_kind (filter_law t p o.table q o.opens s (denied (may_hold o.table.filter (handle_of s.here.value).offset p.word) (rw y at h))))

      pub look_block : {v q : Sought} {k : List ℕ} → Tells sought_of t (Says t block.start block.handle (seek_in p)) v k → ((a : Answer) → v ≡ sought_of a → Holds a k → q ≡ sought_of (of_word p.word a)) → Tells sought_of t (IsKinded t says) q k
      unfolding by_kind lookup_says seek_in founds_of
      look_block {k = k} w of =
          let a = w.answer in
          let there = word_kept t k p.word a w.holds w.inside in
          record { answer = of_word p.word a; shown = of a w.shown w.holds; holds = there.0; inside = there.1; is = (go, there.2) }
        where
          go : Passed t → of_word p.word w.answer ≡ by_kind (lookup_of t p)
          go u =
              let o = passed_opens t i u in
              let n = block_split t i p ir e u in
              let s = n.0 in
              let ix = s.here in
              let es = entries_at t (handle_of ix.value) in
              ap (of_word p.word) (block_said t o absent ix (rw s.whole (Memᴰ.append_right s.before (Memᴰ.head refl))) n.1 (seek_in p) w.is)
              ∙ word_said p ix (first (reaches p) es)
              ∙ ap (λ (m : Option _). by_kind (only_word p m)) (sym (first_found p ix es))
              ∙ ap by_kind (sym (for_by_reach p (founds_of t ix) (settled (laid_from s.before (rw s.whole at o.laid))).rising))
              ∙ ap by_kind (sym (lookup_law t p o.table u o.opens s))
