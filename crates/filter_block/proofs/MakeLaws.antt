-- Making filters and writing the block, as the code goes: what fits, what the two runs then hold, and the four parts of the block.
use Prim.Native.Nat.{ℕ, zero, suc, ◌+◌, ◌*◌, ◌-◌, ◌%◌, ◌^◌, ◌≤◌, ◌<◌, min}
use mathlib.Core.Path.{◌≡◌, refl, sym, ap, ap₂, ◌∙◌}
use mathlib.Core.List.{List, [], ◌∷◌, ◌++◌, append_assoc, append-nil}
use mathlib.Core.Bool.{Bool, true, false, ◌&&◌}
use native.Mathlib.Nat.{add-zero}
use native.Mathlib.Omega.{arith}
use lib.Dec.{leb}
use lib.ListN.{length, take, drop, set, replicate, length-append, length-replicate}
use borrow.Author.Tests.{le-leb, lt-leb, leb-true}
use Rattle.std.specs.Prelude.{Result, Ok, Err, IsErr}
use Rattle.codec.specs.declared.put.NoRoom.{NoRoom}
use Rattle.codec.specs.Bytes.{bytes_of, fours}
use Rattle.codec.specs.Put.{room, put, Wrote}
use Rattle.codec.proofs.BytesLaws.{bytes_length, bytes_low, fours_length}
use Rattle.codec.proofs.Prelude.{test, split, apart, both}
use Rattle.codec.proofs.PutLaws.{mid_put, put_nil, put_length, wrote_sets, wrote_after}
use Rattle.filter_block.specs.declared.filter_block.Made.{Made}
use Rattle.filters.specs.FilterBlock.{Filtering, filter_for, made_bytes, starts, filter_block_of}
use Rattle.filters.specs.FilterCount.{filter_bytes_of}
use Rattle.filter_block.specs.Make.{groups_up_to, room_for, made_answer, MadeFilters, Fitting, Counted}
use Rattle.filters.proofs.FilterBlockLaws.{starts_length}
use Rattle.filters.proofs.FilterCountLaws.{filter_size_lem}
use Rattle.filters.proofs.FilterLaws.{empty_filter}

-- ---- what fits: more bytes behind some in a run of so many, more starts likewise, and each start 32 bits

abbrev fitting : ℕ → ℕ → ℕ → ℕ → ℕ → ℕ → Bool
fitting all bytes more slots made count = leb (bytes + more) all && (leb (made + count) slots && leb (bytes + more) (2 ^ 32 - 1))

module _ (all bytes more slots made count : ℕ) where
  fits_yes : fitting all bytes more slots made count ≡ true → Fitting all bytes more slots made count
  fits_yes e =
      let p = both (leb (bytes + more) all) (leb (made + count) slots && leb (bytes + more) (2 ^ 32 - 1)) e in
      let q = both (leb (made + count) slots) (leb (bytes + more) (2 ^ 32 - 1)) p.1 in
      let s = leb-true (bytes + more) (2 ^ 32 - 1) q.1 in
      record { in_run = leb-true _ _ p.0; in_slots = leb-true _ _ q.0; small = omega arith }

  fits_no : (Fitting all bytes more slots made count → ⊥) → fitting all bytes more slots made count ≡ false
  fits_no n = test (fitting all bytes more slots made count) (λ e. absurd (n (fits_yes e))) (λ e. e)

  fits : Fitting all bytes more slots made count → fitting all bytes more slots made count ≡ true
  fits p = rw (le-leb (bytes + more) all p.in_run, le-leb (made + count) slots p.in_slots, le-leb (bytes + more) (2 ^ 32 - 1) (omega arith))

-- a number of bytes beyond every slice does as well as any greater one
capped : (a x b : ℕ) → b ≤ 2 ^ 63 → leb (a + min x (2 ^ 63 + 1)) b ≡ leb (a + x) b
capped a x b h =
    split x (2 ^ 63 + 1)
    (λ l. let e : min x (2 ^ 63 + 1) ≡ x = omega arith in rw e)
    (λ l. lt-leb (a + min x (2 ^ 63 + 1)) b (omega arith) ∙ sym (lt-leb (a + x) b (omega arith)))

-- ---- what making filters answers, by what fits

module _ (c : Filtering) (gs : List (List ℕ)) (bytes made : ℕ) (f o : List ℕ) where
  refused : room_for c bytes gs f o made ≡ false → MadeFilters c gs bytes made (Err (record {})) f f o o
  unfolding made_answer
  refused e = record { said = rw e; filters = rw e; offsets = rw e }

  made_so : (m : Made) (f' o' : List ℕ) → room_for c bytes gs f o made ≡ true → m.bytes ≡ bytes + length (made_bytes c gs) → m.made ≡ made + length gs
      → f' ≡ put f bytes (made_bytes c gs) → o' ≡ put o made (starts c bytes gs) → MadeFilters c gs bytes made (Ok m) f f' o o'
  unfolding made_answer
  made_so m f' o' e p q fs os =
      let w : m ≡ record { bytes = bytes + length (made_bytes c gs); made = made + length gs } = ap₂ (λ (b k : ℕ). record { bytes = b; made = k }) p q in
      record { said = rw (e, w); filters = rw e fs; offsets = rw e os }

-- ---- which filters are made

module _ (made n : ℕ) (hs : List ℕ) where
  pub groups_none : n ≤ made → groups_up_to made n hs ≡ []
  unfolding groups_up_to
  groups_none h = rw (le-leb n made h, groups_up_to)

  pub groups_some : made < n → groups_up_to made n hs ≡ hs ∷ replicate (n - made - 1) []
  unfolding groups_up_to
  groups_some h = rw (lt-leb n made h, groups_up_to)

module _ (c : Filtering) where
  made_empties : (k : ℕ) → made_bytes c (replicate k []) ≡ []
  unfolding made_bytes
  made_empties zero = refl
  made_empties (suc k) = rw (empty_filter c, made_empties k)

  starts_empties : (at k : ℕ) → starts c at (replicate k []) ≡ replicate k at
  unfolding starts
  starts_empties at zero = refl
  starts_empties at (suc k) = rw (empty_filter c, add-zero, starts_empties at k)

  made_first : (hs : List ℕ) (k : ℕ) → made_bytes c (hs ∷ replicate k []) ≡ filter_for c hs
  unfolding made_bytes
  made_first hs k = rw (made_empties k) (append-nil (filter_for c hs))

  starts_first : (at : ℕ) (hs : List ℕ) (k : ℕ) → starts c at (hs ∷ replicate k []) ≡ at ∷ replicate k (at + length (filter_for c hs))
  unfolding starts
  starts_first at hs k = rw (starts_empties (at + length (filter_for c hs)) k)

module _ (c : Filtering) (hs : List ℕ) (bytes made n : ℕ) (f o : List ℕ) where
  -- the hashes of the filters to make
  abbrev gs : List (List ℕ)
  gs = groups_up_to made n hs

  module _ (h : n ≤ made) where
    room_none : room_for c bytes gs f o made ≡ fitting (length f) bytes 0 (length o) made 0
    unfolding room_for room made_bytes starts
    room_none = rw (groups_none made n hs h)

    -- the counts stay, where even these fit
    pub none_made : (r : Result Made NoRoom) → Counted (length f) bytes 0 (length o) made 0 r → MadeFilters c gs bytes made r f f o o
    unfolding made_bytes starts
    none_made (Err e) w = refused c gs bytes made f o (room_none ∙ fits_no (length f) bytes 0 (length o) made 0 w)
    none_made (Ok m) w =
        let g = groups_none made n hs h in
        made_so c gs bytes made f o m f o (room_none ∙ fits (length f) bytes 0 (length o) made 0 w.0)
        (rw g w.1) (rw g w.2) (rw g (sym (put_nil f bytes))) (rw g (sym (put_nil o made)))

  module _ (h : made < n) (l : length f < 2 ^ 63) (more : ℕ) (e : more ≡ min (filter_bytes_of c (length hs)) (2 ^ 63 + 1)) where
    -- that is, all hashes and then empty ones
    abbrev first : List (List ℕ)
    first = hs ∷ replicate (n - made - 1) []

    room_some : room_for c bytes gs f o made ≡ fitting (length f) bytes more (length o) made (n - made)
    unfolding room_for room
    room_some =
        let x = filter_bytes_of c (length hs) in
        let k : length (starts c bytes first) ≡ n - made = omega (arith, starts_length c bytes first, length-replicate {A = List ℕ} (n - made - 1) []) in
        sym (rw (groups_some made n hs h, k, made_first c hs (n - made - 1), filter_size_lem c hs, e, capped bytes x (length f) (omega arith), capped bytes x (2 ^ 32 - 1) (omega arith)))

    pub none_fits : (r : Result Made NoRoom) → IsErr r → (Fitting (length f) bytes more (length o) made (n - made) → ⊥) → MadeFilters c gs bytes made r f f o o
    none_fits (Err x) i w = refused c gs bytes made f o (room_some ∙ fits_no (length f) bytes more (length o) made (n - made) w)
    none_fits (Ok m) i w = apart cc

    -- the filter of all hashes has so many bytes
    pub filter_long : bytes + more < 2 ^ 32 → more ≡ length (filter_for c hs)
    filter_long s = omega (arith, filter_size_lem c hs)

    pub some_made : (m : Made) (f' ys : List ℕ) → Counted (length f) bytes more (length o) made (n - made) (Ok m)
        → f' ≡ put f bytes (filter_for c hs) → ys ≡ bytes ∷ replicate (n - made - 1) (bytes + more)
        → MadeFilters c gs bytes made (Ok m) f f' o (take made o ++ (ys ++ drop (n - made) (drop made o)))
    some_made m f' ys w fs os =
        let p = w.0 in
        let g = groups_some made n hs h in
        let k = length-replicate {A = List ℕ} (n - made - 1) [] in
        let s : starts c bytes gs ≡ bytes ∷ replicate (n - made - 1) (bytes + more) = rw (g, filter_long p.small) (starts_first c bytes hs (n - made - 1)) in
        made_so c gs bytes made f o m f' _ (room_some ∙ fits (length f) bytes more (length o) made (n - made) p)
        (rw (g, made_first c hs (n - made - 1)) (omega (arith, filter_long p.small, w.1)))
        (rw g (omega (arith, w.2)))
        (rw (g, made_first c hs (n - made - 1)) fs)
        (rw s (rw os (mid_put o made (bytes ∷ replicate (n - made - 1) (bytes + more)) (n - made) (omega (arith, length-replicate (n - made - 1) (bytes + more))) (omega (arith, p.in_slots)))))

-- ---- the four parts of the block, one write each

-- the filters, their starts, where these begin, and the base log
pub wrote_block : (d : List ℕ) (at array end : ℕ) (fs os : List ℕ) (r₁ : Result ℕ NoRoom) (e₁ : List ℕ) (r₂ : Result ℕ NoRoom) (e₂ : List ℕ) (r₃ : Result ℕ NoRoom) (e₃ : List ℕ)
    → array ≡ at + length fs → end ≡ array + 4 * length os → end + 5 ≤ length d
    → Wrote d at fs r₁ e₁ → Wrote e₁ array (fours os) r₂ e₂ → Wrote e₂ end (bytes_of 4 (length fs % 2 ^ 32)) r₃ e₃
    → Wrote d at (filter_block_of fs os) (Ok (end + 5)) (set e₃ (end + 4) 11)
unfolding filter_block_of
wrote_block d at array end fs os r₁ e₁ r₂ e₂ r₃ e₃ a b h w₁ w₂ w₃ =
    let bs = bytes_of 4 (length fs) in
    let o = fours_length os in
    let l = bytes_length 4 (length fs) in
    let m = length-append fs (fours os) in
    let n = length-append (fs ++ fours os) bs in
    let v₃ : Wrote e₂ end bs r₃ e₃ = rw (bytes_low (length fs)) at w₃ in
    let two = wrote_after d at fs (fours os) array r₁ e₁ r₂ e₂ (omega arith) a w₁ w₂ in
    let three = wrote_after d at (fs ++ fours os) bs end r₂ e₂ r₃ e₃ (omega arith) (omega arith) two v₃ in
    let z : length e₃ ≡ length d = ap length three.left ∙ put_length d at (fs ++ fours os ++ bs) in
    let last = wrote_sets e₃ (end + 4) (11 ∷ []) (end + 5) (set e₃ (end + 4) 11) (omega arith) (omega arith) refl in
    let all : fs ++ (fours os ++ (bs ++ (11 ∷ []))) ≡ fs ++ fours os ++ bs ++ (11 ∷ []) = simp append_assoc in
    rw all (wrote_after d at (fs ++ fours os ++ bs) (11 ∷ []) (end + 4) r₃ e₃ (Ok (end + 5)) (set e₃ (end + 4) 11) (omega arith) (omega arith) three last)
