-- A block in a table: that it stands there, that it is well formed, and that its keys rise.
use Prim.Native.Nat.{ℕ, ◌+◌, ◌-◌}
use mathlib.Core.Path.{◌≡◌, refl, sym}
use mathlib.Core.Bool.{Bool, true, false, false≢true}
use mathlib.Core.List.{List}
use mathlib.Core.Option.{Option, none, some}
use lib.ListN.{length, take, drop}
use Rattle.std.specs.Prelude.{Result}
use Rattle.codec.specs.Varint.{Handle}
use Rattle.checksum.specs.Checksum.{trailer_stands}
use Rattle.codec.proofs.BytesLaws.{part_between}
use Rattle.blocks.specs.Block.{Entry, pairs_of}
use Rattle.blocks.specs.Formed.{Kind, well_formed, is_formed, rises}
use Rattle.blocks.specs.Search.{readable}
use Rattle.blocks.proofs.FormedLaws.{formed_readable}
use Rattle.table.specs.Checked.{Checked, pass, refuse, ◌>>=◌, ask, or_refuse}
use Rattle.table.specs.Table.{ends_before, placed, contents, sealed, less_of, sorted_in, sorted_at}
use Rattle.table_block.specs.declared.refusal.Refusal.{Refusal}
use Rattle.full_check.specs.Steps.{Judged, stands}

-- ---- a block's place

module _ (t : List ℕ) (h : Handle) where
  -- its bytes, as code lends them
  pub lent : take (h.offset + h.size - h.offset) (drop h.offset t) ≡ contents t h
  unfolding contents
  lent = part_between t h.offset h.size

  pub unsealed : trailer_stands t h.offset h.size ≡ false → sealed t h ≡ refuse 9
  unfolding sealed ask
  unsealed f = rw f

  pub is_sealed : trailer_stands t h.offset h.size ≡ true → sealed t h ≡ pass tt
  unfolding sealed ask
  is_sealed f = rw f

  pub outside : ends_before (length t) h.offset h.size ≡ false → stands t h ≡ refuse 8
  unfolding stands placed ask ◌>>=◌
  outside f = rw f

  pub inside : ends_before (length t) h.offset h.size ≡ true → sealed t h ≡ stands t h
  unfolding stands placed ask ◌>>=◌
  inside f = rw f

-- what passes a step is judged by the next
pub then_judged : {A B C : Type 0} {m : Checked A} {a : A} (f : A → Checked B) (P : B → C → Type 0) (r : Result C Refusal) → m ≡ pass a → Judged (f a) P r → Judged (m >>= f) P r
unfolding ◌>>=◌
then_judged f P r e j = rw e j

-- what a step refuses is refused
pub then_refused : {A B : Type 0} {m : Checked A} {n : ℕ} (f : A → Checked B) → m ≡ refuse n → m >>= f ≡ refuse n
unfolding ◌>>=◌
then_refused f e = rw e

-- ---- well-formed blocks

-- a block that was found well formed
pub record Formed (kind : Kind) (s : List ℕ) : Type 0 where
  pub entries : List Entry
  pub is : well_formed kind s ≡ some entries
  pub reads : readable s ≡ some entries

pub formed : (kind : Kind) (s : List ℕ) → is_formed kind s ≡ true → Formed kind s
unfolding is_formed
formed kind s f = go (well_formed kind s) refl f
  where
    go : (o : Option (List Entry)) → well_formed kind s ≡ o → elim o as (λ (_ : Option (List Entry)). Bool) [ none ↦ false | some es ↦ true ] ≡ true → Formed kind s
    go none e f = absurd (false≢true f)
    go (some es) e f = record { entries = es; is = e; reads = formed_readable kind s e }

pub not_formed : (kind : Kind) (s : List ℕ) → is_formed kind s ≡ false → well_formed kind s ≡ none
unfolding is_formed
not_formed kind s f = go (well_formed kind s) refl f
  where
    go : (o : Option (List Entry)) → well_formed kind s ≡ o → elim o as (λ (_ : Option (List Entry)). Bool) [ none ↦ false | some es ↦ true ] ≡ false → well_formed kind s ≡ none
    go none e f = e
    go (some es) e f = absurd (false≢true (sym f))

-- ---- metaindex and index

module _ (kind : Kind) (s : List ℕ) where
  pub sorted_malformed : is_formed kind s ≡ false → sorted_in kind s ≡ refuse 10
  unfolding sorted_in or_refuse ◌>>=◌
  sorted_malformed f = rw (not_formed kind s f)

  module _ {es : List Entry} (is : well_formed kind s ≡ some es) where
    pub sorted_falls : rises (less_of kind) (pairs_of es) ≡ false → sorted_in kind s ≡ refuse 11
    unfolding sorted_in or_refuse ◌>>=◌ ask
    sorted_falls f = rw (is, f)

    pub sorted_rises : rises (less_of kind) (pairs_of es) ≡ true → sorted_in kind s ≡ pass es
    unfolding sorted_in or_refuse ◌>>=◌ ask
    sorted_rises f = rw (is, f)

module _ (kind : Kind) (t : List ℕ) (h : Handle) where
  pub sorted_unsealed : {n : ℕ} → sealed t h ≡ refuse n → sorted_at kind t h ≡ refuse n
  unfolding sorted_at
  sorted_unsealed e = then_refused _ e

  pub sorted_sealed : {u : Unit {0}} {s : List ℕ} → sealed t h ≡ pass u → s ≡ contents t h → sorted_at kind t h ≡ sorted_in kind s
  unfolding sorted_at ◌>>=◌
  sorted_sealed e same = rw (e, same)
