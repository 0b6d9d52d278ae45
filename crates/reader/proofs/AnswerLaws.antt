-- An answer and how code shows it.
use Prim.Native.Nat.{ℕ, ◌+◌, ◌≤◌}
use mathlib.Core.Path.{◌≡◌, refl, sym, ◌∙◌, ap, subst}
use mathlib.Core.List.{List}
use mathlib.Core.Logic.{◌⊎◌, inl, inr, ⊎_elim}
use native.Mathlib.Omega.{arith}
use lib.Dec.{T, leb, leb→le}
use lib.ListN.{length, take}
use lib.Seq.{length-take-le}
use Rattle.codec.proofs.Prelude.{and_r}
use Rattle.table.specs.Table.{Found}
use Rattle.table.specs.Reads.{Answer, refused, nothing, found, deleted, listed}
use Rattle.reader.specs.declared.table_reader.Entry.{Entry}
use Rattle.std.specs.Prelude.{Ok, Err, None, Some}
use Rattle.table_block.specs.declared.refusal.Refusal.{Refusal}
use Rattle.table_block.specs.Refusals.{number, refusal}
use Rattle.table_block.proofs.RefusalLaws.{refusal_number}
use Rattle.reader.specs.Answers.{entry_of, Sought, sought_of}
use Rattle.reader.specs.Parts.{Holds, Tells, Listed, Short}

-- ---- the answer, by what is shown

abbrev pub Shows : Sought → Answer → Type 0
Shows (Err e) a = (n : ℕ) × (refusal n ≡ e) × (a ≡ refused n)
Shows (Ok None) a = a ≡ nothing
Shows (Ok (Some e)) a = (x : Found) × (entry_of x ≡ e) × ((a ≡ found x) ⊎ (a ≡ deleted x))

pub shows : {r q : Sought} (a : Answer) → r ≡ sought_of a → r ≡ q → Shows q a
unfolding sought_of
shows a shown is = subst (λ (q : Sought). Shows q a) (sym shown ∙ is) (go a)
  where
    go : (a : Answer) → Shows (sought_of a) a
    go (refused n) = (n, refl, refl)
    go nothing = refl
    go (found x) = (x, refl, inl refl)
    go (deleted x) = (x, refl, inr refl)

-- an entry, with its key at the front of a buffer: either as a value or as a deletion
pub by_entry : (P : Answer → Type 0) {r : Sought} {e : Entry} (b : List ℕ) (a : Answer) → r ≡ sought_of a → r ≡ Ok (Some e) → Holds a b
    → ((x : Found) → entry_of x ≡ e → take e.key_len b ≡ x.key → P (found x)) → ((x : Found) → entry_of x ≡ e → take e.key_len b ≡ x.key → P (deleted x)) → P a
unfolding entry_of
by_entry P {e = e} b a shown is holds f g =
    let s : Shows (Ok (Some e)) a = shows a shown is in
    let key : take (length s.0.key) b ≡ s.0.key → take e.key_len b ≡ s.0.key = λ k. ap (λ (y : Entry). take y.key_len b) (sym s.1) ∙ k in
    ⊎_elim
    (λ i. subst P (sym i) (f s.0 s.1 (key (subst (λ (c : Answer). Holds c b) i holds))))
    (λ i. subst P (sym i) (g s.0 s.1 (key (subst (λ (c : Answer). Holds c b) i holds))))
    s.2

-- ---- what is told of it

pub tells_refused : (t : List ℕ) {e : Refusal} {b : List ℕ} (told : Answer → Type 0) → Listed e → told (refused (number e)) → Tells sought_of t told (Err e) b
unfolding sought_of
tells_refused t {e} told fair is = record { answer = refused (number e); shown = ap Err (sym (refusal_number e)); holds = tt; inside = fair t; is = is }

pub tells_none : (t : List ℕ) {b : List ℕ} (told : Answer → Type 0) → told nothing → Tells sought_of t told (Ok None) b
unfolding sought_of listed
tells_none t told is = record { answer = nothing; shown = refl; holds = tt; inside = tt; is = is }

pub tells_with : {R : Type 0} {show : Answer → R} {t : List ℕ} {told told' : Answer → Type 0} {r : R} {b : List ℕ} → ((a : Answer) → told a → told' a) → Tells show t told r b → Tells show t told' r b
tells_with f w = record { answer = w.answer; shown = w.shown; holds = w.holds; inside = w.inside; is = f w.answer w.is }

-- a key has at most 1,032 bytes
pub listed_key : (t : List ℕ) (x : Found) → T (listed t (found x)) → length x.key ≤ 1032
unfolding listed
listed_key t x i = leb→le (length x.key) 1032 (and_r (leb (x.value_at + length x.value) (length t)) (leb (length x.key) 1032) i)

pub tells_short : {t : List ℕ} {told : Answer → Type 0} {r : Sought} {b : List ℕ} → Tells sought_of t told r b → Short r
unfolding sought_of entry_of listed
tells_short {t} w = subst Short (sym w.shown) (go w.answer w.inside)
  where
    go : (a : Answer) → T (listed t a) → Short (sought_of a)
    go (refused n) i = tt
    go nothing i = tt
    go (found x) i = listed_key t x i
    go (deleted x) i = listed_key t x i

-- an entry's key lies in a buffer of 1,032 bytes
pub entry_short : {r : Sought} {e : Entry} → r ≡ Ok (Some e) → Short r → e.key_len ≤ 1032
entry_short is s = subst Short is s

pub key_long : {r : Sought} {e : Entry} (b : List ℕ) → r ≡ Ok (Some e) → Short r → length b ≡ 1032 → e.key_len ≡ length (take e.key_len b)
key_long {e = e} b is s l = sym (length-take-le e.key_len b (omega (arith, entry_short is s)))
