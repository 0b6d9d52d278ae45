-- What is decided of an addition before anything is written.
use Prim.Native.Nat.{ℕ, ◌+◌, ◌-◌, ◌≤◌}
use mathlib.Core.Path.{◌≡◌, refl, sym, ap, ◌∙◌}
use mathlib.Core.Logic.{◌⊎◌, inl, inr}
use mathlib.Core.List.{List}
use mathlib.Core.Bool.{Bool, true, false, ◌&&◌, cond}
use native.Mathlib.Omega.{arith}
use lib.Dec.{leb, ltb}
use lib.ListN.{length, length-append, length-take}
use borrow.Author.Tests.{leb-true, ltb-true, eq-eqb, ne_eqb}
use Rattle.codec.proofs.Prelude.{test, both}
use Rattle.keys.specs.Order.{bytes_below, user_of, last_tag, user_sep, separator, below}
use Rattle.std.specs.Prelude.{Ok, Err}
use Rattle.table_block.specs.declared.refusal.Refusal as Why
use Rattle.table_block.specs.declared.refusal.Refusal.TheVariants.{Order, Full}
use Rattle.table_block.specs.Refusals.{number}
use Rattle.table_block.proofs.RefusalLaws.{ok_is, err_is, ok_not_err, err_not_ok}
use Rattle.block_builder.specs.Builder.{new_builder}
use Rattle.table.specs.Options.{options_fit}
use Rattle.table.specs.Runs.{room_of}
use Rattle.table.specs.Counts.{finished_size}
use Rattle.builder.specs.declared.table_builder.Lengths.{Lengths}
use Rattle.builder.specs.declared.table_builder.Builder.{Builder}
use Rattle.builder.specs.State.{options_of, counts_in, same_lengths, sizes_fit, sane}
use Rattle.builder.specs.Steps.{small, Small, last_of, closed_state, Roomy, entered_state, Whole, early_of, above_last, cut_of, sep_of, mid_of, next_of, fits_of, decide_of, DecidedIs, open_after}
use Rattle.builder.proofs.SizeLaws.{small_is, bounded_closed}

-- ---- what a sane state has

pub record Sane (s : Builder) (l : Lengths) : Type 0 where
  pub same : same_lengths s.lengths l ≡ true
  pub options : options_fit (options_of s.options) ≡ true
  pub out : s.written + s.pending.bytes ≤ l.out
  pub index : s.indexed.bytes ≤ l.index
  pub filters : s.filtered ≤ l.filters
  pub restarts : s.pending.restarts ≤ l.restarts
  pub index_restarts : s.indexed.restarts ≤ l.index_restarts
  pub offsets : s.made ≤ l.offsets
  pub hashes : s.waiting ≤ l.hashes
  pub len : s.pending.len ≤ 1032

pub sane_is : (s : Builder) (l : Lengths) → sane s l ≡ true → Sane s l
unfolding sane sizes_fit
sane_is s l e =
    let x1 = both (same_lengths s.lengths l) _ e in
    let x2 = both (options_fit (options_of s.options)) _ x1.1 in
    let y1 = both (leb (s.written + s.pending.bytes) l.out) _ x2.1 in
    let y2 = both (leb s.indexed.bytes l.index) _ y1.1 in
    let y3 = both (leb s.filtered l.filters) _ y2.1 in
    let y4 = both (leb s.pending.restarts l.restarts) _ y3.1 in
    let y5 = both (leb s.indexed.restarts l.index_restarts) _ y4.1 in
    let y6 = both (leb s.made l.offsets) _ y5.1 in
    let y7 = both (leb s.waiting l.hashes) _ y6.1 in
    let y8 = both (leb s.pending.len 1032) _ y7.1 in
    record {
      same = x1.0;
      options = x2.0;
      out = leb-true _ _ y1.0;
      index = leb-true _ _ y2.0;
      filters = leb-true _ _ y3.0;
      restarts = leb-true _ _ y4.0;
      index_restarts = leb-true _ _ y5.0;
      offsets = leb-true _ _ y6.0;
      hashes = leb-true _ _ y7.0;
      len = leb-true _ _ y8.0;
    }

pub last_short : (s : Builder) → s.pending.len ≤ 1032 → length (last_of s) ≤ 1032
unfolding last_of
last_short s h = simp length-take (omega arith)

-- ---- the refusals 6, 2 and 3

module _ (s : Builder) (l : Lengths) (t : Bool) where
  pub early_finished : s.finished ≡ true → 6 ≡ early_of s l t
  unfolding early_of
  early_finished e = rw e

  pub early_insane : s.finished ≡ false → {u : Bool} → u ≡ sane s l → u ≡ false → 2 ≡ early_of s l t
  unfolding early_of
  early_insane e f g = let n : sane s l ≡ false = sym f ∙ g in rw (n, e)

  pub early_sane : s.finished ≡ false → sane s l ≡ true → early_of s l t ≡ cond t 0 3
  unfolding early_of
  early_sane e f = rw (f, e)

-- ---- separators

pub sep_most : (a b : List ℕ) → length (separator a b) ≤ length a
unfolding separator user_of last_tag
sep_most a b =
    let s = user_sep (user_of a) (user_of b) in
    let u = length-take (length a - 8) a in
    test (ltb (length s) (length (user_of a)) && bytes_below (user_of a) s)
    (λ t.
    let h = ltb-true (length s) (length (user_of a)) (both (ltb (length s) (length (user_of a))) (bytes_below (user_of a) s) t).0 in
    rw (t, separator) (simp length-append (omega arith)))
    (λ t. rw (t, separator) (omega arith))

-- ---- the last key

pub above_none : (s : Builder) (key : List ℕ) → s.pending.restarts ≡ 0 → true ≡ above_last s key
unfolding above_last
above_none s key e = rw (eq-eqb s.pending.restarts 0 e)

pub above_some : (s : Builder) (key : List ℕ) → (s.pending.restarts ≡ 0 → ⊥) → below (last_of s) key ≡ above_last s key
unfolding above_last
above_some s key e = rw (ne_eqb s.pending.restarts 0 e)

-- ---- a cut

pub mid_is : (s : Builder) (key : List ℕ) {t : Bool} → t ≡ cut_of s → cond t (closed_state s (sep_of s key)) s ≡ mid_of s key
unfolding mid_of
mid_is s key e = rw e

-- the block that is open then
pub mid_open : (s : Builder) (key : List ℕ) {t : Bool} → t ≡ cut_of s → open_after t s ≡ (mid_of s key).pending
unfolding open_after closed_state
mid_open s key {t} e = go t ∙ ap (λ (x : Builder). x.pending) (mid_is s key e)
  where
    go : (u : Bool) → cond u (new_builder s.options.interval) s.pending ≡ (cond u (closed_state s (sep_of s key)) s).pending
    go true = refl
    go false = refl

pub mid_roomy : (s : Builder) (key : List ℕ) (v : ℕ) → Small s → s.pending.len ≤ 1032 → length key ≤ 1032 → v ≤ 32768 → {m : Builder} → m ≡ mid_of s key → Roomy m (length key) v
mid_roomy s key v h n k j {m} e =
    test (cut_of s)
    (λ t. rw (e, ← mid_is s key (sym t)) (roomy_closed (sep_of s key) (unfold sep_of in omega (arith, sep_most (last_of s) key, last_short s n))))
    (λ t. rw (e, ← mid_is s key (sym t)) roomy_same)
  where
    roomy_same : Roomy s (length key) v
    roomy_same =
        record {
          key = k;
          value = j;
          least = omega (arith, h.least, h.interval);
          most = omega (arith, h.most, h.interval);
          since = omega (arith, h.since, h.interval);
          bytes = h.bytes;
          restarts = h.restarts;
          waiting = h.waiting;
        }

    roomy_closed : (sep : List ℕ) → length sep ≤ 1032 → Roomy (closed_state s sep) (length key) v
    roomy_closed sep q =
        let b = bounded_closed s h sep q in
        unfold closed_state new_builder in
        record {
          key = k;
          value = j;
          least = h.least;
          most = h.most;
          since = omega arith;
          bytes = omega arith;
          restarts = omega arith;
          waiting = b.waiting;
        }

-- ---- the room

module _ (s : Builder) (l : Lengths) where
  pub room_insane : {t : Bool} → t ≡ sane s l → t ≡ false → false ≡ fits_of s l
  unfolding fits_of
  room_insane e f = rw (sym e ∙ f)

  pub room_large : {t u : Bool} → t ≡ sane s l → t ≡ true → u ≡ small s → u ≡ false → false ≡ fits_of s l
  unfolding fits_of
  room_large e f g h = rw (sym e ∙ f, sym g ∙ h)

  pub room_size : {t u : Bool} {x y : ℕ} → t ≡ sane s l → t ≡ true → u ≡ small s → u ≡ true → x ≡ finished_size (options_of s.options) (counts_in s) → y ≡ room_of l.out
      → leb x y ≡ fits_of s l
  unfolding fits_of
  room_size e f g h p q = rw (sym e ∙ f, sym g ∙ h, p, q)

  pub sane_small : {t u : Bool} → t ≡ sane s l → t ≡ true → u ≡ small s → u ≡ true → Small s
  sane_small e f g h = small_is s (sane_is s l (sym e ∙ f)).options (sym g ∙ h)

-- ---- all of it

module _ (s : Builder) (l : Lengths) (key : List ℕ) (v : ℕ) where
  decided_not : {e : Why.Refusal} → (e ≡ Order) ⊎ (e ≡ Full) → (Whole (next_of s key v) → number e ≡ decide_of s l key v) → {n : Builder} → DecidedIs s l key v (Err e) n
  decided_not {e} k d {n} =
      record {
        kind = λ x q. rw (err_is q) at k;
        answer = d;
        cut = λ p q. err_not_ok q;
        waiting = λ p q. err_not_ok q;
        next = λ p q. err_not_ok q;
      }

  pub decided_large : {t : Bool} → t ≡ small s → t ≡ false → {n : Builder} → DecidedIs s l key v (Err Full) n
  unfolding decide_of
  decided_large e f = decided_not (inr refl) (λ w. rw (sym e ∙ f))

  pub decided_low : {t u : Bool} → t ≡ small s → t ≡ true → u ≡ above_last s key → u ≡ false → {n : Builder} → DecidedIs s l key v (Err Order) n
  unfolding decide_of
  decided_low e f g h = decided_not (inl refl) (λ w. rw (sym e ∙ f, sym g ∙ h))

  module _ {t u r : Bool} (e : t ≡ small s) (f : t ≡ true) (g : u ≡ above_last s key) (h : u ≡ true) {m' n' : Builder} (p : m' ≡ mid_of s key) (q : n' ≡ entered_state m' key v)
      (k : Whole n' → r ≡ fits_of n' l) where
    next_is : n' ≡ next_of s key v
    unfolding next_of
    next_is = q ∙ ap (λ (x : Builder). entered_state x key v) p

    fits_is : Whole (next_of s key v) → fits_of (next_of s key v) l ≡ r
    fits_is w = ap (λ (x : Builder). fits_of x l) (sym next_is) ∙ sym (k (rw next_is w))

    pub decided_full : r ≡ false → DecidedIs s l key v (Err Full) n'
    unfolding decide_of
    decided_full j = decided_not (inr refl) (λ w. rw (sym e ∙ f, sym g ∙ h, fits_is w ∙ j))

    pub decided_ok : {c : Bool} → c ≡ cut_of s → r ≡ true → DecidedIs s l key v (Ok (record { cut = c; waiting = m'.waiting })) n'
    unfolding decide_of
    decided_ok c j =
        record {
          kind = λ x y. ok_not_err y;
          answer = λ w. rw (sym e ∙ f, sym g ∙ h, fits_is w ∙ j);
          cut = λ x y. rw (← ok_is y) c;
          waiting = λ x y. rw (← ok_is y) (ap (λ (z : Builder). z.waiting) p);
          next = λ x y. next_is;
        }
