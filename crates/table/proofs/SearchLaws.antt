-- The first entry that passes a test: in rising entries it is the least; in a passed table it is found through the index.
use Prim.Native.Nat.{ℕ, ◌≤◌}
use mathlib.Core.Path.{◌≡◌, refl, sym, ◌∙◌, ap, ap₂}
use mathlib.Core.List.Memᴰ
use mathlib.Core.List.{List, [], ◌∷◌, ◌++◌, head?, Memᴰ}
use mathlib.Core.Bool.{Bool, true, false, not, false≢true}
use mathlib.Core.Option.{Option, none, some, some_inj, none-ne-some}
use mathlib.Core.Logic.{◌⊎◌, inl, inr, ⊎_elim, ⊎_map, ◌↔◌}
use lib.Dec.{T, T_not, not_T, leb, leb→le, le→leb}
use Rattle.codec.specs.Bytes.{same_bytes}
use Rattle.codec.specs.Maybe.{first}
use Rattle.codec.proofs.Prelude.{test, true_is, is_true, decide, and_l, and_r, and_i}
use Rattle.codec.proofs.Lists.{All, Pairs, all_mem, all_imp, all_of, or_else, first_yes, first_no, first_append, first_none, none_first, first_all, first_some, pairs_at}
use Rattle.codec.proofs.BytesLaws.{same_bytes_lem, bytes_same_as}
use Rattle.keys.specs.Order.{user_of, seq_of, is_less, by_bytes, Point, point_of, by_point, below}
use Rattle.keys.proofs.OrderLaws.{three_ways, bytes_eq, Less, UpTo, ◌≺◌, ◌≼◌, ≼-self, ≼-edition, edition-≼, ≼-word, bytes_laws, less_or, less_not_up_to, ≼-≺, ≼_trans, ≺-weak}
use Rattle.blocks.specs.Block.{Entry}
use Rattle.table.specs.Checked.{pass}
use Rattle.table.specs.Table.{Opened, opened, may_hold, handle_of, Found, founds_of, read_blocks, plain}
use Rattle.table.specs.Promise.{Passed, not_below, seek_of, is_for, lookup_of, seek_means, lookup_means, seek_none, lookup_none, entries_rise}
use Rattle.table.proofs.StandLaws.{Before, Settled, Laid, laid, opens, stands, open_reading, reading_rises}

-- ---- in rising entries

module _ (f : Found → Bool) where
  -- in rising entries the first that passes is the least that passes
  pub record Foremost (xs : List Found) (x : Found) : Type 0 where
    pub stands : Memᴰ x xs
    pub passes : T (f x)
    pub least : (y : Found) → Memᴰ y xs → T (f y) → point_of x.key ≼ point_of y.key

  pub first_foremost : (xs : List Found) → Pairs Before xs → (x : Found) → first f xs ≡ some x → Foremost xs x
  unfolding first
  first_foremost [] p x e = absurd (none-ne-some x e)
  first_foremost (y ∷ ys) (Pairs.cons q qs) x e = ⊎_elim yes' (λ s. no' s (first_foremost ys qs x (sym (first_no f y ys s) ∙ e))) (decide (f y))
    where
      least' : {z : Found} → (z ≡ y) ⊎ Memᴰ z ys → point_of y.key ≼ point_of z.key
      least' {z} (inl s) = rw s (≼-self (point_of y.key))
      least' {z} (inr m) = ≺-weak (all_mem q m)

      yes' : T (f y) → Foremost (y ∷ ys) x
      yes' t =
          let s : x ≡ y = some_inj.0 (sym e ∙ first_yes f y ys t) in
          record { stands = Memᴰ.head s; passes = rw s t; least = λ z m u. rw s (least' (Memᴰ.cases_cons m)) }

      later : Foremost ys x → T (not (f y)) → {z : Found} → T (f z) → (z ≡ y) ⊎ Memᴰ z ys → point_of x.key ≼ point_of z.key
      later r s {z} u (inl e) = absurd (T_not (f y) s (rw e at u))
      later r s {z} u (inr m) = r.least z m u

      no' : T (not (f y)) → Foremost ys x → Foremost (y ∷ ys) x
      no' s r = record { stands = Memᴰ.tail r.stands; passes = r.passes; least = λ z m u. later r s u (Memᴰ.cases_cons m) }

  pub foremost_first : (xs : List Found) → Pairs Before xs → (x : Found) → Foremost xs x → first f xs ≡ some x
  foremost_first [] p x r = absurd (Memᴰ.not-nil r.stands)
  foremost_first (y ∷ ys) (Pairs.cons q qs) x r =
      ⊎_elim (λ t. first_yes f y ys t ∙ at_head t (Memᴰ.cases_cons r.stands))
      (λ s. first_no f y ys s ∙ foremost_first ys qs x (in_tail s (Memᴰ.cases_cons r.stands))) (decide (f y))
    where
      at_head : T (f y) → (x ≡ y) ⊎ Memᴰ x ys → some y ≡ some x
      at_head t (inl e) = ap some (sym e)
      at_head t (inr m) = absurd (less_not_up_to (all_mem q m) (r.least y (Memᴰ.head refl) t))

      in_tail : T (not (f y)) → (x ≡ y) ⊎ Memᴰ x ys → Foremost ys x
      in_tail s (inl e) = absurd (T_not (f y) s (rw e at r.passes))
      in_tail s (inr m) = record { stands = m; passes = r.passes; least = λ z n u. r.least z (Memᴰ.tail n) u }

-- ---- what seek and lookup mean

pub plain_rises : (t : List ℕ) → Passed t → Pairs Before (plain t)
plain_rises t p =
    let r = opens t p in
    rw (open_reading t r.0 r.1) (reading_rises t r.0.filter (stands t r.0 p r.1))

pub seek_means_lem : seek_means
unfolding seek_of below not_below
seek_means_lem t k p x = (
  λ h. let r = first_foremost (not_below k) (plain t) (plain_rises t p) x h in
      record { stands = r.stands; reaches = r.passes; least = λ y m s. (r.least y m s).is },
  λ r. foremost_first (not_below k) (plain t) (plain_rises t p) x
      (record { stands = r.stands; passes = r.reaches; least = λ y m s. record { is = r.least y m s } }),
)

-- an entry of a word, not newer than an edition
pub record For (k : Point) (x : Found) : Type 0 where
  pub word : user_of x.key ≡ k.word
  pub old : seq_of x.key ≤ k.edition

pub for_is : (k : Point) (x : Found) → T (is_for k x) ↔ For k x
unfolding is_for
for_is k x = (
  λ t. record {
    word = same_bytes_lem (user_of x.key) k.word (and_l (same_bytes (user_of x.key) k.word) (leb (seq_of x.key) k.edition) t);
    old = leb→le (seq_of x.key) k.edition (and_r (same_bytes (user_of x.key) k.word) (leb (seq_of x.key) k.edition) t);
  },
  λ h. and_i (same_bytes (user_of x.key) k.word) (leb (seq_of x.key) k.edition) (bytes_same_as (user_of x.key) k.word h.word) (le→leb (seq_of x.key) k.edition h.old),
)

pub lookup_means_lem : lookup_means
unfolding lookup_of
lookup_means_lem t k p x = (
  λ h. let r = first_foremost (is_for k) (plain t) (plain_rises t p) x h in
      let s = (for_is k x).0 r.passes in
      record {
        stands = r.stands;
        is_word = s.word;
        not_newer = s.old;
        newest = λ y m u l. ≼-edition (s.word ∙ sym u) (r.least y m ((for_is k y).1 (record { word = u; old = l })));
      },
  λ r. foremost_first (is_for k) (plain t) (plain_rises t p) x
      (record {
        stands = r.stands;
        passes = (for_is k x).1 (record { word = r.is_word; old = r.not_newer });
        least = λ y m u. let s = (for_is k y).0 u in edition-≼ (r.is_word ∙ sym s.word) (r.newest y m s.word s.old);
      }),
)

-- none, just where there is none
pub seek_none_means : seek_none
unfolding seek_of
seek_none_means t k = (λ e x m. all_mem (none_first (not_below k) (plain t) e) m, λ f. first_none (not_below k) (all_of (plain t) f))

pub lookup_none_means : lookup_none
unfolding lookup_of
lookup_none_means t k = (
  λ e x m u l. T_not (is_for k x) (all_mem (none_first (is_for k) (plain t) e) m) ((for_is k x).1 (record { word = u; old = l })),
  λ f. first_none (is_for k) (all_of (plain t) (λ x m. not_T (is_for k x) (λ u. let h = (for_is k x).0 u in f x m h.word h.old))),
)

pub entries_rise_lem : entries_rise
unfolding below
entries_rise_lem t p bs x cs y ds e = (pairs_at bs cs ds (rw e at (plain_rises t p))).is

-- ---- through the index

-- the index entries before the first that is not below a key, that one, and those after it
pub record Split (k : Point) (ixs : List Entry) : Type 0 where
  pub before : List Entry
  pub here : Entry
  pub after : List Entry
  pub whole : ixs ≡ before ++ (here ∷ after)
  pub lower : All (λ (i : Entry). point_of i.key ≺ k) before
  pub reaches : k ≼ point_of here.key

-- every index entry is below a key, or there is a first that is not
pub split : (k : Point) (ixs : List Entry) → All (λ (i : Entry). point_of i.key ≺ k) ixs ⊎ Split k ixs
split k [] = inl All.nil
split k (i ∷ ixs) = ⊎_elim (λ h. ⊎_map (All.cons h) (more h) (split k ixs)) (λ h. inr (now h)) (less_or by_point (point_of i.key) k)
  where
    more : point_of i.key ≺ k → Split k ixs → Split k (i ∷ ixs)
    more h s = record { before = i ∷ s.before; here = s.here; after = s.after; whole = ap (◌∷◌ i) s.whole; lower = All.cons h s.lower; reaches = s.reaches }

    now : k ≼ point_of i.key → Split k (i ∷ ixs)
    now h = record { before = []; here = i; after = ixs; whole = refl; lower = All.nil; reaches = h }

module _ (t : List ℕ) (f : Option (List ℕ)) (g : Found → Bool) (k : Point) where
  -- where a test passes of no entry below a key, the blocks whose index keys are below it need no search
  module _ (lower : (x : Found) → point_of x.key ≺ k → T (not (g x))) where
    pub skip_all : {ixs : List Entry} → Laid t f ixs → All (λ (i : Entry). point_of i.key ≺ k) ixs → first g (read_blocks t ixs) ≡ none
    unfolding read_blocks first
    skip_all Laid.nil All.nil = refl
    skip_all (Laid.cons {ix = ix} {ixs = ixs} s l) (All.cons h hs) =
        first_append g (founds_of t ix) (read_blocks t ixs)
        ∙ ap₂ or_else (first_none g (all_imp (λ x u. lower x (≼-≺ u h)) s.within)) (skip_all l hs)

    pub skip : (bs : List Entry) (ix : Entry) (cs : List Entry) → Laid t f (bs ++ (ix ∷ cs)) → All (λ (i : Entry). point_of i.key ≺ k) bs
        → (first g (read_blocks t (bs ++ (ix ∷ cs))) ≡ or_else (first g (founds_of t ix)) (first g (read_blocks t cs))) × Settled t f ix cs
    unfolding read_blocks
    skip [] ix cs (Laid.cons s l) All.nil = (first_append g (founds_of t ix) (read_blocks t cs), s)
    skip (b ∷ bs) ix cs (Laid.cons s l) (All.cons h hs) =
        let r = skip bs ix cs l hs in (
          first_append g (founds_of t b) (read_blocks t (bs ++ (ix ∷ cs)))
              ∙ ap₂ or_else (first_none g (all_imp (λ x u. lower x (≼-≺ u h)) s.within)) r.0,
          r.1,
        )

pub not_lower : (k : Point) (x : Found) → point_of x.key ≺ k → T (not (not_below k x))
unfolding not_below
not_lower k x h = rw (is_true (is_less (by_point (point_of x.key) k)) h.is) tt

-- ---- lookup

bytes_antisym : {a b : List ℕ} → UpTo by_bytes a b → UpTo by_bytes b a → a ≡ b
bytes_antisym {a} {b} s t = ⊎_elim (λ r. absurd (less_not_up_to r t)) (⊎_elim (λ r. bytes_eq a b r) (λ r. absurd (less_not_up_to r s))) (three_ways bytes_laws a b)

or_none : (a b : Option Found) → b ≡ none → or_else a b ≡ a
or_none none b h = h
or_none (some x) b h = refl

or_some : (a b : Option Found) {x : Found} → a ≡ some x → or_else a b ≡ a
or_some a b h = rw h

module _ (k : Point) where
  pub not_for : (x : Found) → (For k x → ⊥) → T (not (is_for k x))
  not_for x h = not_T (is_for k x) (λ u. h ((for_is k x).0 u))

  -- an entry of the word that the edition sees is not below the key
  pub for_reaches : {x : Found} → For k x → k ≼ point_of x.key
  for_reaches {x} h = edition-≼ (sym h.word) h.old

  pub lower_not_for : (x : Found) → point_of x.key ≺ k → T (not (is_for k x))
  lower_not_for x h = not_for x (λ u. less_not_up_to h (for_reaches u))

  -- a later entry of the word, after an entry z that is not below the key: then z is of the word too
  pub earlier_for : {z x : Found} → k ≼ point_of z.key → point_of z.key ≼ point_of x.key → For k x → For k z
  earlier_for {z} {x} r s h =
      let same : user_of z.key ≡ k.word = bytes_antisym (rw h.word at (≼-word s)) (≼-word r) in
      record { word = same; old = ≼-edition (sym same) r }

-- what is found, where it is of the word
abbrev pub only_word : Point → Option Found → Option Found
only_word k none = none
only_word k (some x) = elim (same_bytes (user_of x.key) k.word) [ true ↦ some x | false ↦ none ]

-- in rising entries the first for a point is the first that reaches it, or there is none
pub for_by_reach : (k : Point) (xs : List Found) → Pairs Before xs → first (is_for k) xs ≡ only_word k (first (not_below k) xs)
unfolding first
for_by_reach k [] p = refl
for_by_reach k (x ∷ xs) (Pairs.cons q qs) = ⊎_elim yes' (no' (for_by_reach k xs qs)) (decide (not_below k x))
  where
    yes' : T (not_below k x) → first (is_for k) (x ∷ xs) ≡ only_word k (first (not_below k) (x ∷ xs))
    yes' n =
        let reach : k ≼ point_of x.key = unfold not_below in record { is = n } in
        test (same_bytes (user_of x.key) k.word)
        (λ t.
        let same = same_bytes_lem (user_of x.key) k.word (true_is t) in
        let here : For k x = record { word = same; old = ≼-edition (sym same) reach } in
        rw (first_yes (not_below k) x xs n, first_yes (is_for k) x xs ((for_is k x).1 here), t, only_word))
        (λ t.
        let other : For k x → ⊥ = λ h. false≢true (sym t ∙ is_true _ (bytes_same_as (user_of x.key) k.word h.word)) in
        rw (first_yes (not_below k) x xs n, first_no (is_for k) x xs (not_for k x other), t, only_word)
        (first_none (is_for k) (all_imp (λ y r. not_for k y (λ v. other (earlier_for k reach (≺-weak r) v))) q)))

    no' : first (is_for k) xs ≡ only_word k (first (not_below k) xs) → T (not (not_below k x)) → first (is_for k) (x ∷ xs) ≡ only_word k (first (not_below k) (x ∷ xs))
    no' ih n =
        let under : point_of x.key ≺ k = unfold not_below in record { is = twice (is_less (by_point (point_of x.key) k)) n } in
        rw (first_no (not_below k) x xs n, first_no (is_for k) x xs (lower_not_for k x under)) ih
      where
        twice : (b : Bool) → T (not (not b)) → T b
        twice true t = tt
        twice false t = elim t [ ]

-- so lookup is a seek, and a look at the word
pub lookup_by_seek : (t : List ℕ) (k : Point) → Passed t → lookup_of t k ≡ only_word k (seek_of t k)
unfolding lookup_of seek_of
lookup_by_seek t k p = for_by_reach k (plain t) (plain_rises t p)

-- ---- of a passed table: a point, and the first index entry that reaches it

module _ (t : List ℕ) (k : Point) (o : Opened) (passed : Passed t) (open_as : opened t ≡ pass o) where
  table_laid : Laid t o.filter o.index
  table_laid = laid (stands t o passed open_as)

  -- no index entry reaches it: nor does any entry
  pub seek_beyond : All (λ (i : Entry). point_of i.key ≺ k) o.index → seek_of t k ≡ none
  unfolding seek_of
  seek_beyond h = rw (open_reading t o open_as) (skip_all t o.filter (not_below k) k (not_lower k) table_laid h)

  pub lookup_beyond : All (λ (i : Entry). point_of i.key ≺ k) o.index → lookup_of t k ≡ none
  lookup_beyond h = lookup_by_seek t k passed ∙ ap (only_word k) (seek_beyond h)

  module _ (s : Split k o.index) where
    abbrev ix : Entry
    ix = s.here

    -- where a test passes of no entry below the point, the first that passes is in its block, or after it
    here_or_after : (g : Found → Bool) → ((x : Found) → point_of x.key ≺ k → T (not (g x)))
        → (first g (plain t) ≡ or_else (first g (founds_of t ix)) (first g (read_blocks t s.after))) × Settled t o.filter ix s.after
    here_or_after g lower =
        let r = skip t o.filter g k lower s.before ix s.after (rw s.whole at table_laid) s.lower in
        (ap (first g) (open_reading t o open_as ∙ ap (read_blocks t) s.whole) ∙ r.0, r.1)

    -- the entry is in the block, or it is the first of the next
    pub seek_law : seek_of t k ≡ or_else (first (not_below k) (founds_of t ix)) (head? (read_blocks t s.after))
    unfolding seek_of not_below
    seek_law =
        let r = here_or_after (not_below k) (not_lower k) in
        r.0 ∙ ap (or_else (first (not_below k) (founds_of t ix))) (first_all (not_below k) (all_imp (λ x u. (≺-weak (≼-≺ s.reaches u)).is) r.1.beyond))

    pub lookup_law : lookup_of t k ≡ first (is_for k) (founds_of t ix)
    unfolding lookup_of
    lookup_law =
        let r = here_or_after (is_for k) (lower_not_for k) in
        r.0 ∙ ⊎_elim (λ a. in_this_block r.1 a) (λ a. or_none _ _ (first_none (is_for k) (all_imp (λ x u. not_for k x (λ v. clash u v)) a))) r.1.apart
      where
        clash : {x : Found} → Less by_bytes (user_of ix.key) (user_of x.key) → For k x → ⊥
        clash u v = less_not_up_to u (rw v.word (≼-word s.reaches))

        in_this_block : Settled t o.filter ix s.after → (z : Found) × Memᴰ z (founds_of t ix) × (point_of ix.key ≼ point_of z.key)
            → or_else (first (is_for k) (founds_of t ix)) (first (is_for k) (read_blocks t s.after)) ≡ first (is_for k) (founds_of t ix)
        in_this_block r a =
            let z : Found = a.0 in
            let at_least : k ≼ point_of z.key = ≼_trans s.reaches a.2 in
            ⊎_elim (λ y. or_some _ _ (first_some (is_for k) a.1 y).1)
            (λ n. or_none _ _ (first_none (is_for k) (all_imp (λ x u. not_for k x (λ v. T_not (is_for k z) n ((for_is k z).1 (earlier_for k at_least (≺-weak (≼-≺ (all_mem r.within a.1) u)) v)))) r.beyond)))
            (decide (is_for k z))

    -- and where the filter denies the block the word, there is none
    pub filter_law : T (not (may_hold o.filter (handle_of ix.value).offset k.word)) → lookup_of t k ≡ none
    filter_law d =
        lookup_law
        ∙ first_none (is_for k) (all_imp (λ x u. not_for k x (λ v. T_not (may_hold o.filter (handle_of ix.value).offset k.word) d (rw v.word at u))) (here_or_after (is_for k) (lower_not_for k)).1.may)
