-- The definitions refuse with the numbers of refusals alone.
use Prim.Native.Nat.{ℕ}
use mathlib.Core.Path.{◌≡◌, refl, sym, subst}
use mathlib.Core.Bool.{Bool, true, false, cond, ◌||◌}
use mathlib.Core.Logic.{◌⊎◌, inl, inr}
use lib.Dec.{T, eqb}
use Rattle.std.proofs.Math.Facts.{eqb_yes}
use Rattle.codec.proofs.Prelude.{or_cases}
use mathlib.Core.Option.{Option, none, some}
use mathlib.Core.List.{List, [], ◌∷◌}
use Rattle.table.specs.Checked.{Checked, pass, refuse, ◌>>=◌, ask, or_refuse}
use Rattle.table.specs.Runs.{start_of}
use Rattle.table.specs.Build.{accept}
use Rattle.table.specs.Table.{Edge, footer, footer_handles, placed, sealed, sorted_in, sorted_at, filter_of, opened, block_of, data_block_of, data_blocks_of, full_check}
use Rattle.table.specs.Reads.{listed}
use Rattle.blocks.specs.Block.{Pair, last_key_of}
use Rattle.blocks.specs.Formed.{Kind}
use Rattle.codec.specs.Varint.{Handle}
use Rattle.builder.specs.State.{sane}
use Rattle.builder.specs.Steps.{early_of}
use Rattle.promise.specs.Numbers.{Stands, Numbered, check_numbered, footer_numbered, read_numbered, start_numbered, early_numbered, accept_numbered}

then : {A B : Type 0} (m : Checked A) (f : A → Checked B) → Numbered m → ((a : A) → Numbered (f a)) → Numbered (m >>= f)
unfolding ◌>>=◌
then (pass a) f here next = next a
then (refuse k) f here next = here

asks : (n : ℕ) (b : Bool) → Stands n → Numbered (ask n b)
unfolding ask
asks n true s = tt
asks n false s = s

gives : {A : Type 0} (n : ℕ) (o : Option A) → Stands n → Numbered (or_refuse n o)
unfolding or_refuse
gives n none s = s
gives n (some a) s = tt

-- one test, and then the next
asking : {B : Type 0} (n : ℕ) (b : Bool) (f : Unit {0} → Checked B) → Stands n → ((u : Unit {0}) → Numbered (f u)) → Numbered (ask n b >>= f)
asking n b f s next = then (ask n b) f (asks n b s) next

giving : {A B : Type 0} (n : ℕ) (o : Option A) (f : A → Checked B) → Stands n → ((a : A) → Numbered (f a)) → Numbered (or_refuse n o >>= f)
giving n o f s next = then (or_refuse n o) f (gives n o s) next

placed_numbered : (t : List ℕ) (h : Handle) → Numbered (placed t h)
unfolding placed
placed_numbered t h = asks 8 _ refl

sealed_numbered : (t : List ℕ) (h : Handle) → Numbered (sealed t h)
unfolding sealed
sealed_numbered t h = asks 9 _ refl

handles_numbered : (t s : List ℕ) → Numbered (footer_handles t s)
unfolding footer_handles
handles_numbered t s =
    giving 8 _ _ refl (λ m. giving 8 _ _ refl (λ i.
    then (placed t m.handle) _ (placed_numbered t m.handle) (λ u. then (placed t i.handle) _ (placed_numbered t i.handle) (λ v. tt))))

pub footer_numbered_lem : footer_numbered
unfolding footer
footer_numbered_lem t = asking 7 _ _ refl (λ u. asking 7 _ _ refl (λ v. asking 7 _ _ refl (λ w. handles_numbered t _)))

sorted_in_numbered : (kind : Kind) (s : List ℕ) → Numbered (sorted_in kind s)
unfolding sorted_in
sorted_in_numbered kind s = giving 10 _ _ refl (λ es. asking 11 _ _ refl (λ u. tt))

sorted_numbered : (kind : Kind) (t : List ℕ) (h : Handle) → Numbered (sorted_at kind t h)
unfolding sorted_at
sorted_numbered kind t h = then (sealed t h) _ (sealed_numbered t h) (λ u. sorted_in_numbered kind _)

filter_numbered : (t : List ℕ) (o : Option Handle) → Numbered (filter_of t o)
unfolding filter_of
filter_numbered t none = tt
filter_numbered t (some h) =
    then (placed t h) _ (placed_numbered t h) (λ u. then (sealed t h) _ (sealed_numbered t h) (λ v. asking 12 _ _ refl (λ w. tt)))

opened_numbered : (t : List ℕ) → Numbered (opened t)
unfolding opened
opened_numbered t =
    then (footer t) _ (footer_numbered_lem t) (λ ft.
    then (sorted_at _ t ft.metaindex) _ (sorted_numbered _ t ft.metaindex) (λ ms.
    then (sorted_at _ t ft.index) _ (sorted_numbered _ t ft.index) (λ ixs. then (filter_of t _) _ (filter_numbered t _) (λ f. tt))))

block_numbered : (t : List ℕ) (f : Option (List ℕ)) (before : Option Edge) (ix : Pair) → Numbered (data_block_of t f before ix)
unfolding data_block_of block_of
block_numbered t f before ix =
    then (placed t _) _ (placed_numbered t _) (λ u. then (sealed t _) _ (sealed_numbered t _) (λ v.
    giving 10 _ _ refl (λ es. asking 11 _ _ refl (λ a. asking 11 _ _ refl (λ b. asking 11 _ _ refl (λ c. asking 12 _ _ refl (λ d. tt)))))))

blocks_numbered : (t : List ℕ) (f : Option (List ℕ)) (ixs : List Pair) (before : Option Edge) → Numbered (data_blocks_of t f before ixs)
unfolding data_blocks_of
blocks_numbered t f [] before = tt
blocks_numbered t f (ix ∷ ixs) before =
    then (data_block_of t f before ix) _ (block_numbered t f before ix)
    (λ ps. blocks_numbered t f ixs (some (record { index_key = ix.key; last_key = last_key_of [] ps })))

pub check_numbered_lem : check_numbered
unfolding full_check
check_numbered_lem t = then (opened t) _ (opened_numbered t) (λ o. blocks_numbered t o.filter _ none)

pub start_numbered_lem : start_numbered
unfolding start_of
start_numbered_lem o r = asking 1 _ _ refl (λ a. asking 2 _ _ refl (λ b. asking 2 _ _ refl (λ c. asking 2 _ _ refl (λ d. asks 2 _ refl))))

pub accept_numbered_lem : accept_numbered
unfolding accept
accept_numbered_lem o room b a = asking 3 _ _ refl (λ u. asking 4 _ _ refl (λ v. asking 5 _ _ refl (λ w. tt)))

early_is : (finished sound fits : Bool) → let n : ℕ = cond finished 6 (cond sound (cond fits 0 3) 2) in (n ≡ 0) ⊎ Stands n
early_is true sound fits = inr refl
early_is false true true = inl refl
early_is false true false = inr refl
early_is false false fits = inr refl

pub early_numbered_lem : early_numbered
unfolding early_of
early_numbered_lem s l fits = early_is s.finished (sane s l) fits

equal : {n : ℕ} (k : ℕ) → Stands k → T (eqb n k) → Stands n
equal {n} k stands e = subst Stands (sym (eqb_yes e)) stands

-- one of the numbers 7, 8, 10 and 14
one_of : (n : ℕ) → T (eqb n 7 || (eqb n 8 || (eqb n 10 || eqb n 14))) → Stands n
one_of n e = elim (or_cases (eqb n 7) _ e) [
  | inl p ↦ equal 7 refl p
  | inr q ↦ elim (or_cases (eqb n 8) _ q) [
    | inl p ↦ equal 8 refl p
    | inr r ↦ elim (or_cases (eqb n 10) _ r) [ inl p ↦ equal 10 refl p | inr p ↦ equal 14 refl p ]
  ]
]

pub read_numbered_lem : read_numbered
unfolding listed
read_numbered_lem t n e = one_of n e
